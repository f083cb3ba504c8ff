-- A file that gets an intent has one.
use Rattle.std.proofs.Common.{rules, ◌≡◌}
use Rattle.std.specs.Prelude.{Some}
use Rattle.places.specs.Places.{first}
use Rattle.intents.specs.Intents.{is_free}
use Rattle.files.specs.File.{opened_file}
use Rattle.files.proofs.Counting.{some-taken}
use Rattle.files.proofs.file.File.opening.Goals as goal

pub returns : goal.returns
unfolding opened_file
returns c =
    let room : first is_free c.args.self.intents ≡ Some c.in-Some.at = search rules in
    let taken = some-taken c.args.client c.args.self.intents c.in-Some.at room in
    search (rules, taken)
