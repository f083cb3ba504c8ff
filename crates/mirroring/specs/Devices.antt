-- DEFINITION. Devices, and the mirror list of a register call (Rules 4.2), in this order: the same id; the ids in a list of
-- bytes; whether a device is among others and at which place; a bad mirror list; a proxy (Rules 4.8).
use Rattle.std.specs.Prelude.{List, [], ◌∷◌, Bool, true, false, not, cond, ℕ, zero, suc, ◌/◌, ◌%◌, length, drop, eqb, ltb}
use Rattle.statuses.specs.Names.{Bytes}
use Rattle.reports.specs.Device.{Device, halves}
use Rattle.reports.specs.Report.{DeviceError}
use Rattle.places.specs.Lists.{any, none}

abbrev pub same_device : Device → Device → Bool
same_device d e = cond (eqb d.high e.high) (eqb d.low e.low) false

-- the first n ids of a list of bytes
unfoldable pub devices_in : ℕ → Bytes → List Device
devices_in zero s = []
devices_in (suc n) s = halves s ∷ devices_in n (drop 16 s)

-- all the ids of a list
unfoldable pub mirrors_in : Bytes → List Device
mirrors_in s = devices_in (length s / 16) s

-- the device that a device error names
abbrev pub device_of : DeviceError → Device
device_of x = halves x.device

unfoldable pub is_mirror : Device → List Device → Bool
is_mirror d ds = any (λ e. same_device e d) ds

-- the place of a mirror
unfoldable pub place_of : Device → List Device → ℕ
place_of d [] = 0
place_of d (e ∷ es) = cond (same_device e d) 0 (suc (place_of d es))

unfoldable pub twice : List Device → Bool
twice [] = false
twice (d ∷ ds) = cond (is_mirror d ds) true (twice ds)

-- a bad mirror list isn't whole ids, is empty, has more than 4 devices, or names one twice
unfoldable pub bad_mirrors : Bytes → Bool
bad_mirrors s =
    cond (not (eqb (length s % 16) 0)) true
    (cond (none (mirrors_in s)) true
    (cond (ltb 4 (length (mirrors_in s))) true (twice (mirrors_in s))))

-- ---- a file's proxy: none, or a device beside the mirrors
pub data Proxy : Type 0 where
  no_proxy : Proxy
  proxy_at : Device → Proxy

abbrev pub is_there : Proxy → Bool
is_there no_proxy = false
is_there (proxy_at d) = true

-- whether a device is the proxy
abbrev pub is_proxy : Device → Proxy → Bool
is_proxy d no_proxy = false
is_proxy d (proxy_at e) = same_device e d

-- whether a device is a mirror or the proxy
unfoldable pub is_copy : Device → List Device → Proxy → Bool
is_copy d ds p = cond (is_mirror d ds) true (is_proxy d p)

-- and its place: that of the mirror, or 4, which is the proxy's
unfoldable pub copy_place : Device → List Device → ℕ
copy_place d ds = cond (is_mirror d ds) (place_of d ds) 4
