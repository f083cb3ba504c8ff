-- MODEL. A file's five places for mirrors, of which the last is the proxy's, in this order: one place; tests; changes; the proxy; the places that a mirror list fills.
use Rattle.std.specs.Prelude.{List, [], ◌∷◌, map, Bool, true, false, not, cond, ℕ, suc, ◌%◌, get_or, set, replicate, eqb, leb, Option, Some, None}
use Rattle.statuses.specs.Names.{Bytes}
use Rattle.masks.specs.Mask as mask
use Rattle.places.specs.Lists.{fill}
use Rattle.reports.specs.Device.{Device}
use Rattle.mirroring.specs.Devices.{mirrors_in, bad_mirrors}
use Rattle.mirroring.specs.declared.mirrors.Mirror.{Mirror}

abbrev pub no_mirror : Mirror
no_mirror = record { high = 0; low = 0; present = false; blamed = false; proxy = false }

abbrev pub new_mirror : ℕ → ℕ → Mirror
new_mirror h l = record { high = h; low = l; present = true; blamed = false; proxy = false }

abbrev pub new_proxy : ℕ → ℕ → Mirror
new_proxy h l = record { high = h; low = l; present = true; blamed = false; proxy = true }

abbrev pub mirror_of : Device → Mirror
mirror_of d = new_mirror d.high d.low

-- ---- tests
abbrev pub is_at : ℕ → ℕ → Mirror → Bool
is_at h l m = cond (cond m.present (eqb m.high h) false) (eqb m.low l) false

abbrev pub is_device : Device → Mirror → Bool
is_device d m = is_at d.high d.low m

abbrev pub is_good : Mirror → Bool
is_good m = cond m.present (not m.blamed) false

-- ---- changes
abbrev pub with_blame : Bool → Mirror → Mirror
with_blame b m = record { high = m.high; low = m.low; present = m.present; blamed = b; proxy = m.proxy }

abbrev pub unblamed : Mirror → Mirror
unblamed m = with_blame false m

abbrev pub blamed_if : Bool → Mirror → Mirror
blamed_if b m = with_blame (cond b true m.blamed) m

-- a mirror is blamed if its place passes, or if it was
unfoldable pub blamed_by : (ℕ → Bool) → List Mirror → List Mirror
blamed_by p [] = []
blamed_by p (m ∷ ms) = blamed_if (p 0) m ∷ blamed_by (λ k. p (suc k)) ms

-- those whose places are in a set
abbrev pub blamed_at : ℕ → List Mirror → List Mirror
blamed_at s ms = blamed_by (λ k. mask.has s k) ms

-- ---- the proxy
abbrev pub has_proxy : List Mirror → Bool
has_proxy ms = (get_or ms 4 no_mirror).present

abbrev pub with_proxy : ℕ → ℕ → List Mirror → List Mirror
with_proxy h l ms = set ms 4 (new_proxy h l)

abbrev pub without_proxy : List Mirror → List Mirror
without_proxy ms = set ms 4 no_mirror

-- ---- a mirror list
-- whether n bytes are 1 to 4 whole ids
abbrev pub whole_list : ℕ → Bool
whole_list n = cond (cond (eqb (n % 16) 0) (not (eqb n 0)) false) (leb n 64) false

abbrev pub no_mirrors : List Mirror
no_mirrors = replicate 5 no_mirror

-- whether the list was good, and the mirrors if so
pub record Enrolled : Type 0 where
  pub mirrors : List Mirror
  pub good : Bool

abbrev pub refused_list : Enrolled
refused_list = record { mirrors = no_mirrors; good = false }

-- the code's answer
abbrev pub enrolled : Option (List Mirror) → Enrolled
enrolled (Some ms) = record { mirrors = ms; good = true }
enrolled None = refused_list

abbrev pub placed_mirrors : List Device → List Mirror
placed_mirrors ds = fill (map mirror_of ds) no_mirrors

unfoldable pub enrolled_of : Bytes → Enrolled
enrolled_of s = cond (bad_mirrors s) refused_list (record { mirrors = placed_mirrors (mirrors_in s); good = true })
