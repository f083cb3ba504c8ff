-- DEFINITION. The totals of bytes read and written of one report, by mirror (Rules 3.11), in this order: a sum as it is told; a device's sum; the totals of
-- some mirrors and a proxy.
use Rattle.std.specs.Prelude.{List, [], ◌∷◌, ◌++◌, map, Bool, cond, ℕ, ◌+◌, replicate, get_or, ltb}
use Rattle.masks.specs.Mask.{set_of}
use Rattle.places.specs.Lists.{fill}
use Rattle.reports.specs.Device.{Device, halves}
use Rattle.reports.specs.Statistics.{Statistic}
use Rattle.mirroring.specs.Devices.{same_device, Proxy, no_proxy, proxy_at}
use Rattle.mirroring.specs.declared.totals.Sums.{Sums}
use Rattle.mirroring.specs.declared.totals.Totals.{Totals}

-- 2^64 - 1
abbrev pub most : ℕ
most = 18446744073709551615

-- a sum that would pass 2^64 - 1 stays at that number
abbrev pub passes : ℕ → Bool
passes n = ltb most n

abbrev pub cut : ℕ → ℕ
cut n = cond (passes n) most n

-- sums by place, as they are told, and the set of the places whose sum passes, as a mask: bit k is place k's
abbrev pub cut_sums : List ℕ → Sums
cut_sums ns = record { bytes = map cut ns; over = set_of 32 (λ k. passes (get_or ns k 0)) }

-- the sum of what `g` takes of each record of a device
unfoldable pub sum_of : (Statistic → ℕ) → Device → List Statistic → ℕ
sum_of g d [] = 0
sum_of g d (y ∷ ys) = cond (same_device d (halves y.device)) (g y) 0 + sum_of g d ys

-- the totals of sums by place, of each record's own counts of bytes read and of bytes written
abbrev pub totals_by : ((Statistic → ℕ) → List ℕ) → Totals
totals_by sums = record { read = cut_sums (sums (λ y. y.read)); written = cut_sums (sums (λ y. y.written)) }

abbrev pub no_sums : List ℕ
no_sums = replicate 5 0

abbrev pub no_totals : Totals
no_totals = totals_by (λ g. no_sums)

-- the sum of a proxy's records
abbrev pub proxy_sum : (Statistic → ℕ) → Proxy → List Statistic → ℕ
proxy_sum g no_proxy ys = 0
proxy_sum g (proxy_at d) ys = sum_of g d ys

-- the totals by place: those of the mirrors, none at the others up to place 4, and there the proxy's; a record for another device counts nowhere
unfoldable pub totals_of : List Statistic → List Device → Proxy → Totals
totals_of ys ds p = totals_by (λ g. fill (map (λ d. sum_of g d ys) ds) (replicate 4 0) ++ proxy_sum g p ys ∷ [])
