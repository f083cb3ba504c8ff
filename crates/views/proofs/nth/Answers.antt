-- nth rests on the law that a view gives at a place what the body gives there.
use Rattle.std.proofs.Common.{ap, ◌∙◌}
use Rattle.views.specs.View.{answer}
use Rattle.views.proofs.Views.{agrees}
use Rattle.views.proofs.nth.Goals as goal

pub returns : goal.returns
returns c = let a = c.args in c.extent.ensures ∙ ap (λ v. answer v a.i) c.of.ensures ∙ agrees a.kind a.body a.i
