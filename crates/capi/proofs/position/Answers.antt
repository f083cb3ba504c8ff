-- Rests on what is found among all places but the last.
use Rattle.std.proofs.Common.{◌≡◌, false, length, get_or, ap, sym, ◌∙◌, arith, le-ltb, rules}
use Rattle.std.specs.Option.{unwrap_or}
use Rattle.places.proofs.Loops.{mapped-length}
use Rattle.walks.proofs.Find.{sought, sought-below}
use Rattle.files.specs.File.{no_file, is_file}
use Rattle.capi.specs.Place.{has_number, is_unsure, sought_in, number_in}
use Rattle.capi.proofs.Places.{number-sought}
use Rattle.capi.proofs.position.Goals.{else-not-r-i-via-then-not-r-i+else-i-lt63, else-not-r-i-via-else-not-r-i}
use Rattle.capi.proofs.position.Goals as goal

pub returns-then-i-lt63 : goal.returns-then-i-lt63
unfolding sought_in
returns-then-i-lt63 c =
    let long : length c.args.r.now.files ≡ 64 = search (mapped-length, rules) in
    let fs = c.args.r.now.files in
    let is = c.unwrap_or.ensures ∙ ap (λ o. unwrap_or o 63) c.registered.ensures in
    (is ∙ sought (is_file c.args.file) 63 no_file fs (omega (arith, long)), omega (arith, is, sought-below (is_file c.args.file) 63 no_file fs (omega (arith, long))))

pub returns : goal.returns
unfolding number_in
returns c =
    let long : length c.args.r.now.files ≡ 64 = search (mapped-length, rules) in
    let r = c.args.r.now in
    let i = c.unwrap_or-i.result in
    let is = c.unwrap_or-i.ensures ∙ ap (λ o. unwrap_or o 63) c.numbered.ensures in
    let there : i ≡ number_in c.args.file r = is ∙ sought (λ f. has_number f.used f.number c.args.file) 63 no_file r.files (omega (arith, long)) in
    let sure : is_unsure (get_or r.files i no_file).used i ≡ false =
    elim c.else-not-r-i.branch [
      | else-not-r-i-via-then-not-r-i+else-i-lt63 w ↦ rw (w.if-not-r-i.true) (le-ltb i 63 w.if-i-lt63.false)
      | else-not-r-i-via-else-not-r-i w ↦ rw (w.if-not-r-i.false)
    ] in (
      there ∙ number-sought c.args.file r (ap (λ j. is_unsure (get_or r.files j no_file).used j) (sym there) ∙ sure),
      omega (arith, is, sought-below (λ f. has_number f.used f.number c.args.file) 63 no_file r.files (omega (arith, long))),
    )
