-- DEFINITION. The answer of a LAYOUTCOMMIT on a list that is lent as columns (Rules 2.19). In this order: the refusals that follow an accepted list, all at place 0; the answer,
-- in which the list's own refusals come first. The lent bytes afterwards are `merged_by` of crate `joining`, of the list after the commit: on a refusal as they were.
use Rattle.std.specs.Prelude.{ℕ, List, [], ◌∷◌, length, ltb}
use Rattle.statuses.specs.Rules.{Rule, ◌⇒◌, decided}
use Rattle.extents.specs.declared.Extent.{Extent}
use Rattle.extents.specs.Verdict.{Verdict, Accepted, Refused}
use Rattle.layouts.specs.declared.kinds.Kind.TheVariants.{Scsi}
use Rattle.layouts.specs.Layout.{body_size}
use Rattle.layouts.specs.Columns.{check_columns}
use Rattle.committing.specs.Ranges.{ranges_of, malformed, uncommittable}
use Rattle.committing.specs.Commit.{committed}
use Rattle.committing.specs.Bare.{is_bare}
use Rattle.joining.specs.Merge.{columns_of, column_list}

-- the first that applies, at place 0
abbrev pub first_refusal : List (Rule ℕ) → Verdict → Verdict
first_refusal rules other = decided (λ k. Refused k 0) rules other

-- the commit list's own refusals, and then the rest
abbrev pub own_refusal : List ℕ → ℕ → Verdict → Verdict
own_refusal s block rest = first_refusal (malformed s ⇒ 10036 ∷ uncommittable block (ranges_of s) ⇒ 22 ∷ []) rest

-- of a list of extents that passes: the commit list's bytes s, the block size, the extents, the room
abbrev pub commit_list : List ℕ → ℕ → List Extent → ℕ → Verdict
commit_list s block es room =
    first_refusal
    (malformed s ⇒ 10036
    ∷ uncommittable block (ranges_of s) ⇒ 22
    ∷ is_bare (ranges_of s) es ⇒ 10034
    ∷ ltb 1024 (length (committed (ranges_of s) es)) ⇒ 28
    ∷ ltb room (body_size Scsi (length (committed (ranges_of s) es))) ⇒ 8
    ∷ [])
    (Accepted (length (committed (ranges_of s) es)))

-- the list's own refusals, with their places
abbrev pub after_list : Verdict → Verdict → Verdict
after_list (Accepted n) v = v
after_list (Refused rule place) v = Refused rule place

-- uneven columns get 1 before all else; 2 above 1,024 extents; 3 to 7; then the above
unfoldable pub commit_columns : List ℕ → ℕ → List ℕ → List ℕ → List ℕ → List ℕ → List ℕ → ℕ → Verdict
commit_columns s block devs offs lens stos sts room = after_list (check_columns Scsi (columns_of devs offs lens stos sts)) (commit_list s block (column_list devs offs lens stos sts) room)
