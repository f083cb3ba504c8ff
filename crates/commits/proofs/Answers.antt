-- The answers of a commit. In this order: what a sweep has found; what a sweep asks; 8, and the answer; the lent bytes; the list's own refusals.
use Prim.Native.Nat.{ℕ, ◌+◌, ◌*◌, ◌<◌, ◌≤◌}
use mathlib.Core.Path.{◌≡◌, refl, sym, ap, ◌∙◌}
use mathlib.Core.List.{List, []}
use mathlib.Core.Bool.{Bool, true, false, cond}
use native.Mathlib.Omega.{arith}
use borrow.Author.Tests.{lt-ltb, le-ltb}
use lib.Dec.{eqb}
use lib.ListN.{length}
use lib.Seq.{sets}
use Rattle.xdr.specs.Be.{be_nat, be_bytes}
use Rattle.xdr.proofs.Be.{length-bytes}
use Rattle.extents.specs.Extents.{list_from, verdict}
use Rattle.extents.specs.declared.Extent.{Extent}
use Rattle.extents.specs.declared.Refusal.{Refusal}
use Rattle.extents.specs.declared.Rule.TheVariants.{ReclaimBad}
use Rattle.std.specs.Prelude.{Result, Ok, Err}
use Rattle.extents.specs.Verdict.{Verdict, Accepted, Refused}
use Rattle.layouts.specs.declared.kinds.Kind.TheVariants.{Scsi}
use Rattle.layouts.specs.Columns.{Even, check_columns}
use Rattle.layouts.proofs.Stores.{sets_then}
use Rattle.merging.proofs.Rules.{or-rest}
use Rattle.committing.specs.Ranges.{Range, range_at, ranges_of, malformed, uncommittable}
use Rattle.committing.specs.Commit.{committed}
use Rattle.committing.specs.Bare.{is_bare}
use Rattle.committing.proofs.Ranges.{well-formed}
use Rattle.joining.specs.Joiner.{bytes_of}
use Rattle.joining.specs.Merge.{columns_of, column_list, merged_by}
use Rattle.layouts.proofs.Placed.{scsi-size}
use Rattle.commits.specs.Commit.{commit_list, after_list, commit_columns}
use Rattle.commits.specs.Pieces.{Asked, Found, found_said, Finds}
use Rattle.commits.proofs.Turns.{orderly}

-- ---- what a sweep has found where it says how many, and what another finds
pub went : (r : Found) (k : ℕ) → Ok k ≡ found_said r → (r.bare ≡ false) × (k ≡ r.count)
went r k h = by r.bare refl h
  where
    by : (b : Bool) → r.bare ≡ b → ◌≡◌ {A = Result ℕ Refusal} (Ok k) (cond b (Err (record { rule = ReclaimBad; place = 0 })) (Ok r.count)) → (r.bare ≡ false) × (k ≡ r.count)
    by true q g = cc
    by false q g =
        let e : k ≡ r.count = cc in
        (q, e)

pub same-found : {rs : List Range} {es : List Extent} {v w : Bool} {d d' e e' : List ℕ} (r q : Found) → Finds rs es v d r d' → Finds rs es w e q e' → found_said q ≡ found_said r
same-found r q f g = rw (g.bared ∙ sym f.bared, g.counted ∙ sym f.counted)

module _ (s : List ℕ) (block : ℕ) where
  module _ (h₁ : malformed s ≡ false) (h₂ : uncommittable block (ranges_of s) ≡ false) (m : ℕ) (em : m ≡ be_nat 4 s) where
    -- ---- what a sweep asks
    pub asked : (devs offs lens stos sts : List ℕ) → length offs ≤ 1024 → Even Scsi (columns_of devs offs lens stos sts) → verdict [] 0 (column_list devs offs lens stos sts) ≡ Accepted (length offs)
        → Asked s m devs offs lens stos sts
    asked devs offs lens stos sts few e v =
        let w = well-formed s h₁ in
        record {
          list-whole = omega (arith, w.1);
          few-ranges = omega (arith, w.0);
          few-rows = few;
          columns-even = e;
          list-passes = v;
          ranges-orderly = rw em (orderly block (ranges_of s) (or-rest (eqb block 0) _ h₂));
        }

    -- ---- 8, and the answer
    module _ (es : List Extent) (room : ℕ) (b : Bool) (eb : b ≡ is_bare (list_from (range_at s) m 0) es) where
      module _ (h₃ : b ≡ false) (k : ℕ) (ek : k ≡ length (committed (list_from (range_at s) m 0) es)) where
        covered : is_bare (ranges_of s) es ≡ false
        covered = rw em at (sym eb ∙ h₃)

        counts : k ≡ length (committed (ranges_of s) es)
        counts = rw em at ek

        pub no_room : k ≤ 1024 → room < 4 + 44 * k → Refused 8 0 ≡ commit_list s block es room
        no_room g l = rw (h₁, h₂, covered, ← counts, le-ltb 1024 k g, scsi-size k, lt-ltb room (4 + 44 * k) l)

        pub room_for : k ≤ 1024 → 4 + 44 * k ≤ room → Accepted k ≡ commit_list s block es room
        room_for g l = rw (h₁, h₂, covered, ← counts, le-ltb 1024 k g, scsi-size k, le-ltb room (4 + 44 * k) l)

    -- ---- the lent bytes: the count, then the extents
    pub bytes-are : (es : List Extent) (k : ℕ) (d d₁ d₂ d₃ : List ℕ) → d₁ ≡ d → d₂ ≡ sets d₁ 0 (be_bytes 4 k) → d₃ ≡ sets d₂ 4 (bytes_of (committed (list_from (range_at s) m 0) es))
        → d₃ ≡ merged_by (Accepted k) (committed (ranges_of s) es) d
    bytes-are es k d d₁ d₂ d₃ e₁ e₂ e₃ =
        let new : List Extent = committed (ranges_of s) es in
        let e₄ : d₃ ≡ sets d₂ 4 (bytes_of new) = rw em at e₃ in
        e₄ ∙ ap (λ (l : List ℕ). sets l 4 (bytes_of new)) (e₂ ∙ ap (λ (l : List ℕ). sets l 0 (be_bytes 4 k)) e₁)
        ∙ sets_then d 0 4 4 (be_bytes 4 k) (bytes_of new) (length-bytes 4 k) refl

-- ---- the list's own refusals, and then those
pub judged : (s : List ℕ) (block : ℕ) (devs offs lens stos sts : List ℕ) (room : ℕ) (v : Verdict) → v ≡ check_columns Scsi (columns_of devs offs lens stos sts)
    → after_list v (commit_list s block (column_list devs offs lens stos sts) room) ≡ commit_columns s block devs offs lens stos sts room
unfolding commit_columns
judged s block devs offs lens stos sts room v e = ap (λ (u : Verdict). after_list u (commit_list s block (column_list devs offs lens stos sts) room)) e
