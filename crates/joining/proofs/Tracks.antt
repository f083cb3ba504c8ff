-- The open runs go with the runs of `merged`: each state's is the latest of that state, and stands in its place. In this order: where the latest run of a
-- state is; a list that changes in one state only; the code's test; one more piece, which lengthens that run or starts one; no piece yet.
use Rattle.std.proofs.Common.{◌≡◌, ℕ, zero, suc, ◌+◌, ◌%◌, ◌^◌, ◌<◌, Bool, true, false, ◌&&◌, ◌||◌, eqb, ◌⊎◌, List, [], ◌∷◌, ◌++◌, length, set, Option, Some, None, sym, refl, ap, ◌∙◌, inl, inr, arith, length-append, length-set, get_or-set_other, get_or-set_same, eq-eqb, eqb-true}
use native.Mathlib.Decide.{dec_lt, ℕ_discrete}
use lib.ListN.{get_or-append}
use lib.Seq.{get_or-append_seam}
use Rattle.xdr.specs.Reader.{same_bytes}
use Rattle.extents.specs.declared.Extent.{Extent}
use Rattle.extents.proofs.Sentences.{and_both, by_cases}
use Rattle.layouts.specs.Layout.{no_extent}
use Rattle.merging.specs.Merged.{plain, follows, grown, place}
use Rattle.merging.proofs.Rules.{Sound, Before, Valid, sounds}
use Rattle.merging.proofs.Runs.{Shape, plain-keeps, plain-shape, Follows, follows_said, follows-plain, Later, place-last}
use Rattle.joining.specs.Joiner.{device_in, piece_in, started_run, longer_run, no_runs, place_of, run_in, latest_at, open_of, opening, joins_run, joins_in, joins, next_run, next_count, fed}
use Rattle.joining.specs.declared.joiner.Piece.{Piece}
use Rattle.joining.specs.declared.joiner.Run.{Run}
use Rattle.joining.specs.declared.joiner.Runs.{Runs}
use Rattle.joining.proofs.Places.{at, all-at, at_all, valid-at, place_at, one_state, same-run, other-run}

-- ---- where the latest run of a state is
pub record Found (devs : List ℕ) (runs : List Extent) (k : ℕ) (o : Run) : Type 0 where
  pub inside : o.slot < length runs
  pub of-state : (at runs o.slot).state ≡ k
  pub latest : (j : ℕ) → o.slot < j → j < length runs → (at runs j).state ≡ k → ⊥
  pub begins : (at runs o.slot).offset ≡ o.offset
  pub ends : (at runs o.slot).offset + (at runs o.slot).len ≡ o.end
  pub in-storage : (k ≡ 3) ⊎ (((at runs o.slot).storage + (at runs o.slot).len ≡ o.until) × ((at runs o.slot).device ≡ device_in devs o.row))

pub data Latest (devs : List ℕ) (runs : List Extent) (k : ℕ) (u : Option Run) : Type 0 where
  nowhere : u ≡ None → ((j : ℕ) → j < length runs → (at runs j).state ≡ k → ⊥) → Latest devs runs k u
  somewhere : u ≡ Some (run_in u) → Found devs runs k (run_in u) → Latest devs runs k u

-- a list that has changed only in runs of state k
record Agrees (k : ℕ) (runs new : List Extent) : Type 0 where
  old : (j : ℕ) → ((at new j).state ≡ k → ⊥) → j < length new → (j < length runs) × (at new j ≡ at runs j)
  still : (j : ℕ) → ((at runs j).state ≡ k → ⊥) → j < length runs → (j < length new) × (at new j ≡ at runs j)

carried : (devs : List ℕ) (runs new : List Extent) (k j : ℕ) (u : Option Run) → Agrees k runs new → (j ≡ k → ⊥) → Latest devs runs j u → Latest devs new j u
carried devs runs new k j u a d (nowhere n h) = nowhere n (λ p l q.
    let g = a.old p (λ e. d (sym q ∙ e)) l in
    h p g.0 (ap (λ (x : Extent). x.state) (sym g.1) ∙ q))
carried devs runs new k j u a d (somewhere s h) =
    let g = a.still (run_in u).slot (λ e. d (sym h.of-state ∙ e)) h.inside in
    somewhere s (record {
      inside = g.0;
      of-state = ap (λ (x : Extent). x.state) g.1 ∙ h.of-state;
      latest = λ p l m q.
          let b = a.old p (λ e. d (sym q ∙ e)) m in
          h.latest p l b.0 (ap (λ (x : Extent). x.state) (sym b.1) ∙ q);
      begins = ap (λ (x : Extent). x.offset) g.1 ∙ h.begins;
      ends = ap (λ (x : Extent). x.offset + x.len) g.1 ∙ h.ends;
      in-storage = rw g.1 h.in-storage;
    })

agrees-set : (k : ℕ) (runs : List Extent) (s : ℕ) (x : Extent) → s < length runs → (at runs s).state ≡ k → x.state ≡ k → Agrees k runs (set runs s x)
agrees-set k runs s x l h g = record { old = old; still = still }
  where
    old : (j : ℕ) → ((at (set runs s x) j).state ≡ k → ⊥) → j < length (set runs s x) → (j < length runs) × (at (set runs s x) j ≡ at runs j)
    old j n m = by (ℕ_discrete j s)
      where
        by : Dec (j ≡ s) → (j < length runs) × (at (set runs s x) j ≡ at runs j)
        by (yes q) = absurd (n (rw q (ap (λ (y : Extent). y.state) (get_or-set_same runs s x no_extent l) ∙ g)))
        by (no q) = (omega (arith, length-set runs s x), get_or-set_other runs s j x no_extent q)

    still : (j : ℕ) → ((at runs j).state ≡ k → ⊥) → j < length runs → (j < length (set runs s x)) × (at (set runs s x) j ≡ at runs j)
    still j n m = by (ℕ_discrete j s)
      where
        by : Dec (j ≡ s) → (j < length (set runs s x)) × (at (set runs s x) j ≡ at runs j)
        by (yes q) = absurd (n (rw q h))
        by (no q) = (omega (arith, length-set runs s x), get_or-set_other runs s j x no_extent q)

agrees-more : (k : ℕ) (runs : List Extent) (x : Extent) → x.state ≡ k → Agrees k runs (runs ++ (x ∷ []))
agrees-more k runs x g = record { old = old; still = λ j n l. (omega (arith, length-append runs (x ∷ [])), get_or-append runs (x ∷ []) no_extent j l) }
  where
    old : (j : ℕ) → ((at (runs ++ (x ∷ [])) j).state ≡ k → ⊥) → j < length (runs ++ (x ∷ [])) → (j < length runs) × (at (runs ++ (x ∷ [])) j ≡ at runs j)
    old j n m = by (dec_lt j (length runs))
      where
        by : Dec (j < length runs) → (j < length runs) × (at (runs ++ (x ∷ [])) j ≡ at runs j)
        by (yes l) = (l, get_or-append runs (x ∷ []) no_extent j l)
        by (no l) =
            let q : j ≡ length runs = omega (arith, length-append runs (x ∷ [])) in
            absurd (n (rw q (ap (λ (y : Extent). y.state) (get_or-append_seam runs x [] no_extent) ∙ g)))

-- ---- the code's test of a run that stands as the extent a is that of the definition
and-swap : (a b : Bool) → (a && b) ≡ (b && a)
and-swap true true = refl
and-swap true false = refl
and-swap false true = refl
and-swap false false = refl

test-is : (devs : List ℕ) (a : Extent) (o : Run) (p : Piece) → a.state ≡ p.state → a.offset + a.len ≡ o.end
    → (p.state ≡ 3) ⊎ ((a.storage + a.len ≡ o.until) × (a.device ≡ device_in devs o.row)) → follows a (piece_in devs p) ≡ joins_run devs o p
unfolding follows joins_run
test-is devs a o p s e (inl q) = rw (eq-eqb a.state p.state s, e, eq-eqb p.state 3 q)
test-is devs a o p s e (inr (u, d)) =
    rw (eq-eqb a.state p.state s, e, u, d)
    (ap (λ (t : Bool). eqb o.end p.offset && (eqb p.state 3 || t)) (and-swap (same_bytes (device_in devs o.row) (device_in devs p.row)) (eqb o.until p.storage)))

-- a run that is followed ends where the piece begins
pub joined_end : (devs : List ℕ) (o : Run) (p : Piece) → joins_run devs o p ≡ true → o.end ≡ p.offset
unfolding joins_run
joined_end devs o p h = eqb-true o.end p.offset (and_both (eqb o.end p.offset) _ h).0

-- ---- one more
pub record Tracks (devs : List ℕ) (r : Runs) (runs : List Extent) : Type 0 where
  pub four : length r.latest ≡ 4
  pub counted : r.count ≡ length runs
  pub each : (k : ℕ) → k < 4 → Latest devs runs k (latest_at r k)

module _ (devs : List ℕ) (r : Runs) (runs : List Extent) (p : Piece) (valid : Valid runs) (sound : Sound (plain (piece_in devs p))) (later : Later runs (plain (piece_in devs p))) (t : Tracks devs r runs) where
  abbrev e : Extent
  e = plain (piece_in devs p)

  abbrev k : ℕ
  k = place_of p.state

  abbrev o : Run
  o = open_of r k

  shape : Shape e (piece_in devs p)
  shape = plain-shape (piece_in devs p)

  e-state : e.state ≡ p.state
  e-state = (shape.alikes 0).states

  p-place : k ≡ p.state
  p-place = omega (arith, sound.known, e-state)

  e-place : e.state ≡ k
  e-place = e-state ∙ sym p-place

  below : k < 4
  below = omega arith

  -- where it lies in storage, and its device
  stored : (p.state ≡ 3) ⊎ ((e.storage + e.len ≡ (p.storage + p.len) % 2 ^ 64) × (e.device ≡ device_in devs p.row))
  stored = by (plain-keeps (piece_in devs p)) sound.in-storage
    where
      by : (p.state ≡ 3) ⊎ (e ≡ piece_in devs p) → (e.state ≡ 3) ⊎ (e.storage + e.len < 2 ^ 64)
          → (p.state ≡ 3) ⊎ ((e.storage + e.len ≡ (p.storage + p.len) % 2 ^ 64) × (e.device ≡ device_in devs p.row))
      by (inl q) s = inl q
      by (inr q) (inl h) = inl (sym e-state ∙ h)
      by (inr q) (inr h) =
          let x : e.storage ≡ p.storage = ap (λ (y : Extent). y.storage) q in
          inr (omega (arith, shape.lens), ap (λ (y : Extent). y.device) q)

  -- a run of another state is not followed
  other-state : (a : Extent) → (a.state ≡ k → ⊥) → follows a e ≡ false
  other-state a n = by_cases (follows a e) (λ q. n ((follows_said a e q).states ∙ e-place))

  -- nor is one of its state that another stands after
  earlier : (j s : ℕ) → j < s → s < length runs → (at runs s).state ≡ k → follows (at runs j) e ≡ false
  earlier j s l m h = by (ℕ_discrete (at runs j).state k)
    where
      by : Dec ((at runs j).state ≡ k) → follows (at runs j) e ≡ false
      by (no n) = other-state (at runs j) n
      by (yes g) = by_cases (follows (at runs j) e) (λ q.
          let first = one_state (at runs j) (at runs s) (g ∙ sym h) (valid-at runs valid j s l m) in
          let second = one_state (at runs s) e (h ∙ sym e-place) (all-at (λ a. Before a e) runs later s m) in
          let some = (all-at Sound runs (sounds runs valid) s m).some in
          omega (arith, (follows_said (at runs j) e q).in-file))

  -- the run is lengthened
  abbrev more : Run
  more = longer_run o p

  lengthened : Found devs runs k o → follows (at runs o.slot) e ≡ true → place e runs ≡ set runs o.slot (grown (at runs o.slot) e)
  lengthened h q = place_at e runs o.slot h.inside (λ j l. earlier j o.slot l h.inside h.of-state) q

  lengthened-tracks : Found devs runs k o → Follows (at runs o.slot) e → Tracks devs (opening r r.count k more) (set runs o.slot (grown (at runs o.slot) e))
  lengthened-tracks h f =
      record { four = length-set r.latest k (Some more) ∙ t.four; counted = t.counted ∙ sym (length-set runs o.slot (grown (at runs o.slot) e)); each = λ j l. by j l (ℕ_discrete j k) }
    where
      new : List Extent
      new = set runs o.slot (grown (at runs o.slot) e)

      here : at new o.slot ≡ grown (at runs o.slot) e
      here = get_or-set_same runs o.slot (grown (at runs o.slot) e) no_extent h.inside

      kept : (p.state ≡ 3) ⊎ ((e.storage + e.len ≡ (p.storage + p.len) % 2 ^ 64) × (e.device ≡ device_in devs p.row))
          → (e.state ≡ 3) ⊎ (((at runs o.slot).device ≡ e.device) × ((at runs o.slot).storage + (at runs o.slot).len ≡ e.storage))
          → (k ≡ 3) ⊎ (((at runs o.slot).storage + (at runs o.slot).len ≡ o.until) × ((at runs o.slot).device ≡ device_in devs o.row))
          → (k ≡ 3) ⊎ (((at runs o.slot).storage + ((at runs o.slot).len + e.len) ≡ more.until) × ((at runs o.slot).device ≡ device_in devs o.row))
      kept (inl q) w v = inl (p-place ∙ q)
      kept (inr q) (inl w) v = inl (sym e-place ∙ w)
      kept (inr q) (inr w) (inl v) = inl v
      kept (inr q) (inr w) (inr v) = inr (omega (arith, q.0, w.1), v.1)

      found : Found devs new k more
      found =
          record {
            inside = omega (arith, h.inside, length-set runs o.slot (grown (at runs o.slot) e));
            of-state = ap (λ (x : Extent). x.state) here ∙ h.of-state;
            latest = λ j l m g.
                let same = get_or-set_other runs o.slot j (grown (at runs o.slot) e) no_extent (omega arith) in
                h.latest j l (omega (arith, length-set runs o.slot (grown (at runs o.slot) e))) (ap (λ (x : Extent). x.state) (sym same) ∙ g);
            begins = ap (λ (x : Extent). x.offset) here ∙ h.begins;
            ends = ap (λ (x : Extent). x.offset + x.len) here ∙ omega (arith, f.in-file, shape.offsets, shape.lens);
            in-storage = rw here (kept stored f.in-storage h.in-storage);
          }

      by : (j : ℕ) → j < 4 → Dec (j ≡ k) → Latest devs new j (latest_at (opening r r.count k more) j)
      by j l (yes g) = rw (g, same-run r r.count k more t.four below) (somewhere refl found)
      by j l (no n) =
          rw (other-run r r.count k j more n)
          (carried devs runs new k j (latest_at r j) (agrees-set k runs o.slot (grown (at runs o.slot) e) h.inside h.of-state h.of-state) n (t.each j l))

  -- a run is started
  abbrev fresh : Run
  fresh = started_run r.count p

  started-tracks : Tracks devs (opening r (r.count + 1) k fresh) (runs ++ (e ∷ []))
  started-tracks =
      record { four = length-set r.latest k (Some fresh) ∙ t.four; counted = omega (arith, t.counted, length-append runs (e ∷ [])); each = λ j l. by j l (ℕ_discrete j k) }
    where
      new : List Extent
      new = runs ++ (e ∷ [])

      here : at new r.count ≡ e
      here = ap (at new) t.counted ∙ get_or-append_seam runs e [] no_extent

      kept : (p.state ≡ 3) ⊎ ((e.storage + e.len ≡ (p.storage + p.len) % 2 ^ 64) × (e.device ≡ device_in devs p.row))
          → (k ≡ 3) ⊎ ((e.storage + e.len ≡ fresh.until) × (e.device ≡ device_in devs fresh.row))
      kept (inl q) = inl (p-place ∙ q)
      kept (inr q) = inr q

      found : Found devs new k fresh
      found =
          record {
            inside = omega (arith, t.counted, length-append runs (e ∷ []));
            of-state = ap (λ (x : Extent). x.state) here ∙ e-place;
            latest = λ j l m g. omega (arith, t.counted, length-append runs (e ∷ []));
            begins = ap (λ (x : Extent). x.offset) here ∙ shape.offsets;
            ends = ap (λ (x : Extent). x.offset + x.len) here ∙ omega (arith, shape.offsets, shape.lens);
            in-storage = rw here (kept stored);
          }

      by : (j : ℕ) → j < 4 → Dec (j ≡ k) → Latest devs new j (latest_at (opening r (r.count + 1) k fresh) j)
      by j l (yes g) = rw (g, same-run r (r.count + 1) k fresh t.four below) (somewhere refl found)
      by j l (no n) = rw (other-run r (r.count + 1) k j fresh n) (carried devs runs new k j (latest_at r j) (agrees-more k runs e e-place) n (t.each j l))

  -- which of the two, by the code's test
  pub data Stepped : Type 0 where
    longer-run : joins devs r p ≡ true → Found devs runs k o → Follows (at runs o.slot) e → place e runs ≡ set runs o.slot (grown (at runs o.slot) e) → Stepped
    fresh-run : joins devs r p ≡ false → place e runs ≡ runs ++ (e ∷ []) → Stepped

  pub which : Stepped
  which = by (t.each k below)
    where
      test : Found devs runs k o → follows (at runs o.slot) e ≡ joins_run devs o p
      test h = follows-plain (at runs o.slot) (piece_in devs p) ∙ test-is devs (at runs o.slot) o p (h.of-state ∙ p-place) h.ends (case h.in-storage)
        where
          case : (k ≡ 3) ⊎ (((at runs o.slot).storage + (at runs o.slot).len ≡ o.until) × ((at runs o.slot).device ≡ device_in devs o.row))
              → (p.state ≡ 3) ⊎ (((at runs o.slot).storage + (at runs o.slot).len ≡ o.until) × ((at runs o.slot).device ≡ device_in devs o.row))
          case (inl q) = inl (sym p-place ∙ q)
          case (inr q) = inr q

      tested : latest_at r k ≡ Some o → joins_run devs o p ≡ joins devs r p
      tested s = ap (λ (u : Option Run). joins_in devs u p) (sym s)

      at-end : Found devs runs k o → follows (at runs o.slot) e ≡ false → place e runs ≡ runs ++ (e ∷ [])
      at-end h q = place-last e runs (at_all (λ a. follows a e ≡ false) runs (λ j l. each j l (dec_lt j o.slot) (dec_lt o.slot j)))
        where
          each : (j : ℕ) → j < length runs → Dec (j < o.slot) → Dec (o.slot < j) → follows (at runs j) e ≡ false
          each j l (yes m) d = earlier j o.slot m h.inside h.of-state
          each j l (no m) (yes n) = other-state (at runs j) (h.latest j n l)
          each j l (no m) (no n) =
              let s : j ≡ o.slot = omega arith in
              rw s q

      by-test : Found devs runs k o → follows (at runs o.slot) e ≡ joins devs r p → (b : Bool) → joins devs r p ≡ b → Stepped
      by-test h t true q = longer-run q h (follows_said (at runs o.slot) e (t ∙ q)) (lengthened h (t ∙ q))
      by-test h t false q = fresh-run q (at-end h (t ∙ q))

      by : Latest devs runs k (latest_at r k) → Stepped
      by (nowhere n h) =
          fresh-run
          (ap (λ (u : Option Run). joins_in devs u p) n)
          (place-last e runs (at_all (λ a. follows a e ≡ false) runs (λ j l. other-state (at runs j) (h j l))))
      by (somewhere s h) = by-test h (test h ∙ tested s) (joins devs r p) refl

  pub step-tracks : Tracks devs (fed devs r p) (place e runs)
  unfolding fed
  step-tracks = by which
    where
      by : Stepped → Tracks devs (opening r (next_count r.count (joins devs r p)) k (next_run o p r.count (joins devs r p))) (place e runs)
      by (longer-run b h f q) = rw (b, q) (lengthened-tracks h f)
      by (fresh-run b q) = rw (b, q) started-tracks

-- ---- none
pub none-tracked : (devs : List ℕ) → Tracks devs no_runs []
none-tracked devs = record { four = refl; counted = refl; each = by }
  where
    by : (k : ℕ) → k < 4 → Latest devs [] k (latest_at no_runs k)
    by zero l = nowhere refl (λ j h. absurd (omega arith))
    by (suc zero) l = nowhere refl (λ j h. absurd (omega arith))
    by (suc (suc zero)) l = nowhere refl (λ j h. absurd (omega arith))
    by (suc (suc (suc zero))) l = nowhere refl (λ j h. absurd (omega arith))
    by (suc (suc (suc (suc k)))) l = absurd (omega arith)
