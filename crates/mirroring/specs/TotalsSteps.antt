-- MODEL of the code: the totals of a file's places for mirrors, and totals that are added to, one record after another. proofs/Summing.antt proves that
-- these end at those.
use Rattle.std.specs.Prelude.{List, [], ◌∷◌, map, Bool, cond, ◌&&◌, ◌||◌, ℕ, ◌+◌, ◌-◌, get_or, set, ltb}
use Rattle.masks.specs.Mask.{has, set_of, plus}
use Rattle.reports.specs.Statistics.{Statistic}
use Rattle.reports.specs.Report.{Report, Whole, Malformed}
use Rattle.mirroring.specs.Mirrors.{is_at, no_mirror}
use Rattle.mirroring.specs.Totals.{most, sum_of, totals_by, no_totals}
use Rattle.mirroring.specs.declared.mirrors.Mirror.{Mirror}
use Rattle.mirroring.specs.declared.totals.Sums.{Sums}
use Rattle.mirroring.specs.declared.totals.Totals.{Totals}

-- ---- the totals of a file's places
-- a place without a mirror has none
abbrev pub sum_at : (Statistic → ℕ) → List Statistic → Mirror → ℕ
sum_at g ys m = cond m.present (sum_of g (record { high = m.high; low = m.low }) ys) 0

unfoldable pub mirror_totals : List Mirror → Report → Totals
mirror_totals ms (Whole xs ys) = totals_by (λ g. map (sum_at g ys) ms)
mirror_totals ms Malformed = no_totals

-- ---- one record more of n bytes: whether a mirror's sum has no room for it; the sum; the flags, of a sum at place i; the sums with it at place i; those of
-- all places whose mirror it names
abbrev pub no_room : ℕ → ℕ → Bool
no_room n b = ltb (most - b) n

abbrev pub grown_by : ℕ → ℕ → ℕ
grown_by n b = cond (no_room n b) most (b + n)

abbrev pub passed_by : ℕ → ℕ → ℕ → ℕ → ℕ
passed_by n b up i = cond (no_room n b) (plus up i) up

abbrev pub counted_at : ℕ → ℕ → Sums → Sums
counted_at i n t = record { bytes = set t.bytes i (grown_by n (get_or t.bytes i 0)); over = passed_by n (get_or t.bytes i 0) t.over i }

abbrev pub counted_totals : ℕ → ℕ → ℕ → Totals → Totals
counted_totals i r w t = record { read = counted_at i r t.read; written = counted_at i w t.written }

unfoldable pub grown_in : List Mirror → ℕ → ℕ → ℕ → List ℕ → List ℕ
grown_in [] h l n bs = bs
grown_in (m ∷ ms) h l n [] = []
grown_in (m ∷ ms) h l n (b ∷ bs) = cond (is_at h l m) (grown_by n b) b ∷ grown_in ms h l n bs

-- whether it flags place k
abbrev pub passing : List Mirror → ℕ → ℕ → ℕ → List ℕ → ℕ → Bool
passing ms h l n bs k = is_at h l (get_or ms k no_mirror) && no_room n (get_or bs k 0)

abbrev pub added_sums : List Mirror → ℕ → ℕ → ℕ → Sums → Sums
added_sums ms h l n t = record { bytes = grown_in ms h l n t.bytes; over = set_of 32 (λ k. has t.over k || passing ms h l n t.bytes k) }

abbrev pub added_totals : List Mirror → ℕ → ℕ → ℕ → ℕ → Totals → Totals
added_totals ms h l r w t = record { read = added_sums ms h l r t.read; written = added_sums ms h l w t.written }
