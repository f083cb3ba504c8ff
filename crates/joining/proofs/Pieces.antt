-- What the code has in hand of a piece, as the model says it: one more piece, by the run of its state.
use Rattle.std.proofs.Common.{◌≡◌, ℕ, ◌+◌, ◌-◌, ◌*◌, ◌%◌, ◌^◌, ◌≤◌, Bool, true, false, cond, List, length, set, Some, refl, arith}
use Rattle.joining.specs.Joiner.{started_run, longer_run, place_of, latest_at, run_of, joins_run, joins, fed, step_of, stored_longer, stored_start, stored, wrote, HeldRun, Ready}
use Rattle.joining.specs.declared.joiner.Piece.{Piece}
use Rattle.joining.specs.declared.joiner.Run.{Run}
use Rattle.joining.specs.declared.joiner.Runs.{Runs}
use Rattle.joining.specs.declared.joiner.Step.TheVariants.{Longer, Started}
use Rattle.joining.proofs.Tracks.{joined_end}

module _ (devs : List ℕ) (r : Runs) (p : Piece) where
  abbrev k : ℕ
  k = place_of p.state

  -- a run has a device
  pub run-device : Ready devs r p → (o : Run) → latest_at r k ≡ Some o → (16 * o.row + 16 ≤ length devs) × (16 * p.row + 16 ≤ length devs)
  run-device h o e =
      let had : HeldRun devs o = rw e at (h.held k) in
      (omega (arith, h.device-there, had.row-there), h.device-there)

  -- it lengthens the run, which does not end before it begins
  module _ (o : Run) (e : latest_at r k ≡ Some o) (m : joins_run devs o p ≡ true) where
    pub longer-forward : Ready devs r p → o.offset ≤ (p.offset + p.len) % 2 ^ 64
    longer-forward h =
        let had : HeldRun devs o = rw e at (h.held k) in
        omega (arith, h.in-file, had.forward, joined_end devs o p m)

    pub fed-longer : record { count = r.count; latest = set r.latest k (Some (longer_run o p)) } ≡ fed devs r p
    unfolding fed
    fed-longer = rw (e, m)

    pub step-longer : Longer o.slot ((p.offset + p.len) % 2 ^ 64 - o.offset) ≡ step_of devs r p
    step-longer = rw (e, m)

  -- it starts one
  module _ (m : joins devs r p ≡ false) where
    pub fed-started : record { count = r.count + 1; latest = set r.latest k (Some (started_run r.count p)) } ≡ fed devs r p
    unfolding fed
    fed-started = rw m

    pub step-started : Started r.count ≡ step_of devs r p
    step-started = rw m

  -- what it stores
  pub stored-wrote : (d : List ℕ) → stored devs (step_of devs r p) p d ≡ wrote devs r d p
  unfolding wrote
  stored-wrote d = by (joins devs r p)
    where
      by : (b : Bool) → stored devs (cond b (Longer (run_of r p.state).slot ((p.offset + p.len) % 2 ^ 64 - (run_of r p.state).offset)) (Started r.count)) p d
          ≡ cond b (stored_longer (longer_run (run_of r p.state) p) d) (stored_start devs r.count p d)
      by true = refl
      by false = refl
