-- Rests on the files from the place up to the last before a free one, moved down, and the last place emptied.
use Rattle.std.proofs.Common.{◌≡◌, length, ap, ◌∙◌, arith, rules}
use Rattle.places.proofs.Loops.{mapped-length}
use Rattle.records.proofs.Drawn.{draws, drawn, not-drawn}
use Rattle.files.specs.File.{blank_file}
use Rattle.recovery.specs.Record.{with_files}
use Rattle.capi.specs.Whole.{verdict, slid}
use Rattle.capi.proofs.Whole.{last-past, pulled-so}
use Rattle.capi.proofs.pull.Goals as goal

pub offset_bounds-r-at : goal.offset_bounds-r-at
offset_bounds-r-at c = omega (arith, last-past c.args.r.now c.args.at, c.last-i.ensures)

pub slice_bounds-slide_whole-count : goal.slice_bounds-slide_whole-count
slice_bounds-slide_whole-count c = omega (arith, last-past c.args.r.now c.args.at, c.last-i.ensures)

pub slice_bounds-slide_whole-start : goal.slice_bounds-slide_whole-start
slice_bounds-slide_whole-start c = omega (arith, last-past c.args.r.now c.args.at, c.last-i.ensures)

pub returns-then-i-lt64 : goal.returns-then-i-lt64
returns-then-i-lt64 c =
    let long : length c.args.r.now.files ≡ 64 = search (mapped-length, rules) in
    let r = c.args.r.now in
    let at = c.args.at in
    ap (λ zs. with_files zs r) (drawn 64 blank_file slid r.files at c.last-i.result c.slide_whole.new.fs c.blank.result c.if-i-lt64.true c.slide_whole.ensures c.blank.ensures ∙ ap (draws 64 blank_file slid r.files at) c.last-i.ensures)
    ∙ pulled-so r at (verdict 0 r.head) long

pub returns-else-i-lt64 : goal.returns-else-i-lt64
returns-else-i-lt64 c =
    let long : length c.args.r.now.files ≡ 64 = search (mapped-length, rules) in
    let r = c.args.r.now in
    let at = c.args.at in
    ap (λ zs. with_files zs r) (not-drawn 64 blank_file slid r.files at c.last-i.result c.if-i-lt64.false ∙ ap (draws 64 blank_file slid r.files at) c.last-i.ensures)
    ∙ pulled-so r at (verdict 0 r.head) long
