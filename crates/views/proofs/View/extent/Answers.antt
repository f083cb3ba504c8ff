-- View::extent: a place by what the check answered, which the view keeps.
use Rattle.std.proofs.Common.{◌∙◌}
use Rattle.views.proofs.Views.{kept}
use Rattle.views.proofs.View.extent.Goals as goal

pub returns : goal.returns
returns c = let a = c.args in c.extent_in.ensures ∙ kept a.self.kind a.self.body.now a.i a.self.n
