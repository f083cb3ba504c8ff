-- The two passes over the rows of columns. In this order: the pieces to come; the pass that checks and counts: what holds at each turn, its turns, its end; the
-- pass that writes: the same.
use Rattle.std.proofs.Common.{◌≡◌, Err, ℕ, suc, ◌+◌, ◌-◌, ◌*◌, ◌^◌, ◌<◌, ◌≤◌, Bool, true, false, cond, List, [], ◌∷◌, map, length, sym, refl, ap, ◌∙◌, arith}
use lib.Seq.{sets}
use Rattle.layouts.specs.Layout.{rows_bytes}
use Rattle.layouts.proofs.Placed.{length-extent-put, length-length-put}
use Rattle.extents.specs.Extents.{list_from, verdict, answer}
use Rattle.extents.specs.OnePass.{nothing, pushed, refusal_after}
use Rattle.extents.specs.declared.Extent.{Extent}
use Rattle.extents.specs.declared.Scan.{Scan}
use Rattle.extents.specs.declared.Refusal.{Refusal}
use Rattle.extents.specs.Verdict.{Verdict, Accepted, verdict_of, or_rest}
use Rattle.extents.proofs.Turns as turns
use Rattle.merging.specs.Merged.{merged}
use Rattle.merging.proofs.Rules.{Valid, passes-valid}
use Rattle.joining.specs.Joiner.{bytes_of, piece_in, longer_run, no_runs, run_of, stored_longer, stored_start, joins, fed, wrote, fed_all, wrote_all, row_piece, pieces_from, Held, Ready, ReadyAll}
use Rattle.joining.specs.Merge.{row_of, comes_to}
use Rattle.joining.specs.declared.joiner.Piece.{Piece}
use Rattle.joining.specs.declared.joiner.Runs.{Runs}
use Rattle.joining.proofs.Fed.{Going, begins, fed-count, wrote-all, feeds-all, fed-held, fed-few, none-held, row_list, rows-there, length-pieces}

-- ---- the pieces to come
pieces-next : (g : ℕ → Piece) (n i : ℕ) → i < n → pieces_from g (n - i) i ≡ g i ∷ pieces_from g (n - (i + 1)) (i + 1)
unfolding pieces_from
pieces-next g n i l =
    let e : n - i ≡ suc (n - (i + 1)) = omega arith in
    rw e

pieces-all : (g : ℕ → Piece) (n : ℕ) → pieces_from g (n - 0) 0 ≡ pieces_from g n 0
pieces-all g n =
    let e : n - 0 ≡ n = omega arith in
    rw e

pieces_none : (g : ℕ → Piece) (n i : ℕ) → n ≤ i → pieces_from g (n - i) i ≡ []
unfolding pieces_from
pieces_none g n i l =
    let e : n - i ≡ 0 = omega arith in
    rw e

module _ (devs offs lens stos sts : List ℕ) (n : ℕ) where
  abbrev f : ℕ → Extent
  f = row_of devs offs lens stos sts

  abbrev g : ℕ → Piece
  g = row_piece offs lens stos sts

  going : 16 * n ≤ length devs → Valid (list_from f n 0) → Going devs no_runs [] (pieces_from g n 0)
  going h v = begins devs (pieces_from g n 0) (rw (row_list devs offs lens stos sts n 0) v) (rows-there devs offs lens stos sts n 0 n (omega arith) h)

  -- ---- the pass that checks and counts
  pub record Counting (passed : Scan) (r : Runs) (i : ℕ) : Type 0 where
    pub scanning : turns.Scanning f n passed i
    pub held : Held devs r
    pub few : r.count ≤ i
    pub left : fed_all devs r (pieces_from g (n - i) i) ≡ fed_all devs no_runs (pieces_from g n 0)

  pub count-starts : Counting nothing no_runs 0
  count-starts = record { scanning = turns.starts f n; held = none-held devs; few = omega arith; left = ap (fed_all devs no_runs) (pieces-all g n) }

  module _ {passed : Scan} {r : Runs} {i : ℕ} (k : Counting passed r i) where
    reads : turns.Reads f i (g i).offset (g i).len (g i).storage (g i).state
    reads = record { its-offset = refl; its-length = refl; its-storage = refl; its-state = refl }

    -- an extent that is refused
    pub count-stops : i < n → (p : Piece) → p ≡ g i → (q : Refusal) → ((rest : Verdict) → or_rest (Err q) rest ≡ answer (refusal_after passed p.offset p.len p.storage p.state) i rest)
        → verdict_of (Err q) ≡ comes_to (verdict [] 0 (list_from f n 0)) (length (merged (list_from f n 0)))
    count-stops l p e q z = ap (λ (v : Verdict). comes_to v (length (merged (list_from f n 0)))) (turns.refuses k.scanning l reads q (rw e at z))

    -- any other: it can be fed
    pub count-ready : i < n → n ≤ 4096 → 16 * n ≤ length devs → (p : Piece) → p ≡ g i → p.offset + p.len < 2 ^ 64 → Ready devs r p
    count-ready l t h p e q = record { device-there = rw e (omega arith); in-file = q; few = omega (arith, k.few); held = k.held }

    pub count-goes-on : i < n → 16 * n ≤ length devs → (p : Piece) → p ≡ g i → ((rest : Verdict) → rest ≡ answer (refusal_after passed p.offset p.len p.storage p.state) i rest) → p.offset + p.len < 2 ^ 64
        → (next : Scan) → next ≡ pushed passed p.offset (p.offset + p.len) p.state → (more : Runs) → more ≡ fed devs r p → Counting next more (i + 1)
    unfolding fed_all
    count-goes-on l h p e z q next b more c =
        record {
          scanning = rw (b, e) (turns.passes k.scanning l reads (rw e at z));
          held = rw (c, e) (fed-held devs r (g i) (omega arith) (rw e at q) k.held);
          few = rw c (omega (arith, k.few, fed-few devs r p));
          left = rw (c, e) (ap (fed_all devs r) (sym (pieces-next g n i l)) ∙ k.left);
        }

    pub count-ends : n ≤ i → 16 * n ≤ length devs → Accepted r.count ≡ comes_to (verdict [] 0 (list_from f n 0)) (length (merged (list_from f n 0)))
    unfolding fed_all
    count-ends l h =
        let passes : Accepted n ≡ verdict [] 0 (list_from f n 0) = turns.ends k.scanning l in
        let all : r ≡ fed_all devs no_runs (pieces_from g n 0) = ap (fed_all devs r) (sym (pieces_none g n i l)) ∙ k.left in
        let many : (fed_all devs no_runs (pieces_from g n 0)).count ≡ length (merged (list_from f n 0)) =
        fed-count devs no_runs [] (pieces_from g n 0) (going h (passes-valid (list_from f n 0) n (sym passes))) ∙ ap (λ (es : List Extent). length (merged es)) (row_list devs offs lens stos sts n 0) in
        ap Accepted (ap (λ (x : Runs). x.count) all ∙ many) ∙ ap (λ (v : Verdict). comes_to v (length (merged (list_from f n 0)))) passes

  -- ---- the pass that writes
  pub record Filling (room : ℕ) (result d : List ℕ) (r : Runs) (i : ℕ) : Type 0 where
    pub inside : i ≤ n
    pub long : length d ≡ room
    pub ready : ReadyAll devs r (pieces_from g (n - i) i)
    pub left : wrote_all devs r d (pieces_from g (n - i) i) ≡ result

  pub fill-starts : n ≤ 4096 → 16 * n ≤ length devs → verdict [] 0 (list_from f n 0) ≡ Accepted n → (d : List ℕ) → 4 + 44 * length (merged (list_from f n 0)) ≤ length d
      → Filling (length d) (sets d 4 (bytes_of (merged (list_from f n 0)))) d no_runs 0
  unfolding rows_bytes
  fill-starts t h v d room =
      let w = going h (passes-valid (list_from f n 0) n v) in
      let same : merged (map (piece_in devs) (pieces_from g n 0)) ≡ merged (list_from f n 0) = ap merged (row_list devs offs lens stos sts n 0) in
      record {
        inside = omega arith;
        long = refl;
        ready = rw (pieces-all g n) (feeds-all devs no_runs [] (pieces_from g n 0) w (none-held devs) (omega (arith, length-pieces g n 0)));
        left = ap (wrote_all devs no_runs d) (pieces-all g n) ∙ wrote-all devs no_runs [] (pieces_from g n 0) w d (rw same room) ∙ ap (λ (es : List Extent). sets d 4 (bytes_of es)) same;
      }

  pub length-wrote : (r : Runs) (d : List ℕ) (p : Piece) → length (wrote devs r d p) ≡ length d
  unfolding wrote
  length-wrote r d p = by (joins devs r p)
    where
      by : (b : Bool) → length (cond b (stored_longer (longer_run (run_of r p.state) p) d) (stored_start devs r.count p d)) ≡ length d
      by true = length-length-put d _ _
      by false = length-extent-put d _ _ _ _ _

  module _ {room : ℕ} {result d : List ℕ} {r : Runs} {i : ℕ} (k : Filling room result d r i) where
    all : i < n → ReadyAll devs r (g i ∷ pieces_from g (n - (i + 1)) (i + 1))
    all l = rw (pieces-next g n i l) at k.ready

    pub fill-ready : i < n → (p : Piece) → p ≡ g i → Ready devs r p
    fill-ready l p e = rw e (all l).0

    pub fill-goes-on : i < n → (p : Piece) → p ≡ g i → (more : Runs) → more ≡ fed devs r p → (after : List ℕ) → after ≡ wrote devs r d p → Filling room result after more (i + 1)
    unfolding wrote_all
    fill-goes-on l p e more c after b =
        record {
          inside = omega arith;
          long = ap length b ∙ length-wrote r d p ∙ k.long;
          ready = rw (c, e) (all l).1;
          left = rw (b, c, e) (ap (wrote_all devs r d) (sym (pieces-next g n i l)) ∙ k.left);
        }

    pub fill-ends : n ≤ i → d ≡ result
    unfolding wrote_all
    fill-ends l = ap (wrote_all devs r d) (sym (pieces_none g n i l)) ∙ k.left
