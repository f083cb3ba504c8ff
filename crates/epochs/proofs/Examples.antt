-- Edges of the definitions of specs/Epochs.antt, the first as a law and the others computed:
--     no-epoch-left          where C = 2^64 - 1 and R = 0, a start is refused by 28 and changes nothing
--     last-epoch             at the same C in a grace period a start is accepted, and C stays
--     join-turns-no          a join in grace turns a yes to no, and enforcing turns it back
use Prim.Native.Nat.{ℕ, ◌-◌, ◌<◌, ◌^◌}
use mathlib.Core.Path.{◌≡◌, refl}
use mathlib.Core.Bool.{true}
use mathlib.Core.List.{List, [], ◌∷◌, ◌++◌}
use borrow.Author.Tests.{lt-leb, eq-eqb}
use Rattle.masks.specs.Mask.{has, all, set_of, plus, minus, within}
use Rattle.epochs.specs.declared.Epochs.{Epochs}
use Rattle.epochs.specs.Epochs.{Yes, No, member, fresh, accepted, refused, judged, join_of, start_of, enforce_of, may_reclaim_of}
use Rattle.epochs.specs.History.{Call, join, start, enforce, after}

no-epoch-left : (e : Epochs) (node : ℕ) → node < 32 → member e node ≡ true → e.recovery ≡ 0 → e.current ≡ 2 ^ 64 - 1 → start_of e node ≡ refused 28 e
unfolding start_of judged
no-epoch-left e node h is R-zero C-last = simp (lt-leb 32 node h, is, eq-eqb _ _ R-zero, eq-eqb _ _ C-last)

-- nodes 0 and 1, of which 0 needs the grace period, in the last epoch
last-epoch : start_of (record { current = 2 ^ 64 - 1; recovery = 2 ^ 64 - 2; members = 3; need = 1; enforcing = 1 }) 1 ≡ accepted (record { current = 2 ^ 64 - 1; recovery = 2 ^ 64 - 2; members = 3; need = 3; enforcing = 3 })
unfolding start_of judged plus has set_of
last-epoch = refl

-- node 0 starts alone; node 31 joins, and enforces
abbrev alone : List Call
alone = join 0 ∷ start 0 ∷ []

join-turns-no : (may_reclaim_of (after fresh alone) 0 ≡ Yes) × (may_reclaim_of (after fresh (alone ++ (join 31 ∷ []))) 0 ≡ No) × (may_reclaim_of (after fresh (alone ++ (join 31 ∷ enforce 31 ∷ []))) 0 ≡ Yes)
unfolding after judged join_of start_of enforce_of may_reclaim_of plus minus has set_of within all
join-turns-no = (refl, refl, refl)
