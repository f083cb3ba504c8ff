-- By whether the file is marked, and whether it is on the lists already.
use Rattle.std.proofs.Common.{sym, ap, ◌∙◌}
use Rattle.files.specs.Counts.{moved_by}
use Rattle.files.specs.File.{standing_of, head_marked}
use Rattle.files.proofs.Counting.{moved_same, told-marks, told-listed}
use Rattle.files.proofs.file.File.head_marked.Goals.{then-not-marks-via-then-not-marks, then-not-marks-via-else-not-marks+then-listed}
use Rattle.files.proofs.file.File.head_marked.Goals as goal

pub returns-then-not-marks : goal.returns-then-not-marks
unfolding head_marked
returns-then-not-marks c =
    let a = c.args in
    elim c.then-not-marks.branch [
      | then-not-marks-via-then-not-marks w ↦ sym (rw w.if-not-marks.true (moved_same a.self a.head))
      | then-not-marks-via-else-not-marks+then-listed w ↦ sym (rw w.if-not-marks.false (told-listed a.self a.head (sym w.listed.ensures ∙ w.if-listed.true)))
    ]

pub returns : goal.returns
unfolding head_marked
returns c =
    let told = c in
    let a = told.args in
    c.moved.ensures ∙ rw (told.if-not-marks.false, c.of-is.ensures, c.busy.ensures, c.standing-was.ensures)
    (ap (λ s. moved_by (standing_of a.self) s a.head) (sym (told-marks a.self)))
