-- A stateid may be raised before the file is changed: the two touch different fields.
use mathlib.Core.Path.{◌≡◌, refl}
use mathlib.Core.Bool.{Bool, true, false, cond}
use mathlib.Core.List.{map}
use Rattle.statuses.specs.Names.{Client}
use Rattle.wire.specs.declared.stateid.Stateid.{Stateid}
use Rattle.mirroring.specs.Mirrors.{blamed_at}
use Rattle.mirroring.specs.declared.blame.Change.{Change}
use Rattle.intents.specs.Intents.{is_stated, stated_if}
use Rattle.files.specs.File.{with_mark, with_mirrors, with_intents, changed_file, raised_file}
use Rattle.files.specs.declared.file.File.{File}

abbrev changed : Change → Bool → Bool → File → File
changed x u b f = cond u (with_mark true f) (cond b (with_mark true (with_mirrors (blamed_at x.blamed f.mirrors) f)) f)

abbrev raised : Client → Stateid → Bool → File → File
raised c t b f = cond b (with_intents (map (stated_if c t) f.intents) f) f

pub raised-first : (x : Change) (c : Client) (t : Stateid) (f : File) → changed_file x (raised_file c t f) ≡ raised_file c t (changed_file x f)
unfolding changed_file raised_file
raised-first x c t f = by (is_stated t) x.unknown x.failed
  where
    by : (s u b : Bool) → changed x u b (raised c t s f) ≡ raised c t s (changed x u b f)
    by true true b = refl
    by true false true = refl
    by true false false = refl
    by false u b = refl
