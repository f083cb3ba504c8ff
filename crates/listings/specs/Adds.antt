-- DEFINITION. A text that is added to what a lent buffer holds, from where that ended on; the buffer stays the one that was lent.
use Rattle.std.specs.Prelude.{◌≡◌}
use Rattle.statuses.specs.Names.{Bytes}
use Rattle.listings.specs.Text.{Put}
use Rattle.listings.specs.declared.text.Text.{Text}

pub record Adds (before : Text) (text : Bytes) (after : Text) : Type 0 where
  pub same : after.d.ghost_name ≡ before.d.ghost_name
  pub put : Put before.d.now before.at text after.d.now after.at
