-- Rests on a turn, by what becomes of the intent at the place, and on all eight.
use Rattle.std.proofs.Common.{◌≡◌, ◌+◌, ◌-◌, length, ℕ, get_or, set, true, sym, ap, ◌∙◌, arith, rules}
use Rattle.places.proofs.Loops.{mapped-length}
use Rattle.intents.specs.Intents.{no_intent}
use Rattle.intents.specs.declared.Intent.{Intent}
use Rattle.files.specs.File.{with_intents, with_mark}
use Rattle.files.specs.declared.file.File.{File}
use Rattle.capi.specs.Whole.{gathered, emptied_at, moved_to}
use Rattle.capi.proofs.Gathering.{gathered-so, turn-kept, turn-lost, turn-free, turns-over}
use Rattle.capi.proofs.end_file.Goals as goal
use Rattle.capi.proofs.end_file.Goals.{then-stays, else-stays+then-goes, else-stays+else-goes}

pub loop-i-preserved : goal.loop-i-preserved
loop-i-preserved c =
    let f = c.loop-i.f in
    let i = c.loop-i.i in
    let n = c.loop-i.n in
    let x = get_or f.intents i no_intent in
    elim c.if-stays.branch [
      | then-stays w ↦
          let is : c.if-stays.f ≡ moved_to n x (emptied_at i f) = w.f-is ∙ ap (λ (y : Intent). with_intents (set (set f.intents i y) n w.settled.result) f) c.none.ensures ∙ ap (λ (y : Intent). with_intents (set (set f.intents i no_intent) n y) f) w.settled.ensures in
          (ap (λ (k : ℕ). gathered (8 - (i + 1)) (i + 1) k c.if-stays.f) w.n-is ∙ ap (λ (g : File). gathered (8 - (i + 1)) (i + 1) (n + 1) g) is ∙ sym (turn-kept f i n (omega arith) (sym c.stays.ensures ∙ w.if-stays.true)) ∙ c.loop-i.invariant.0, omega arith)
      | else-stays+then-goes w ↦
          let is : c.if-stays.f ≡ with_mark true (emptied_at i f) = w.f-is ∙ ap (λ (y : Intent). with_mark true (with_intents (set f.intents i y) f)) c.none.ensures in
          (ap (λ (k : ℕ). gathered (8 - (i + 1)) (i + 1) k c.if-stays.f) w.n-is ∙ ap (λ (g : File). gathered (8 - (i + 1)) (i + 1) n g) is ∙ sym (turn-lost f i n (omega arith) (sym c.stays.ensures ∙ w.if-stays.false) (sym w.goes.ensures ∙ w.if-goes.true)) ∙ c.loop-i.invariant.0, omega arith)
      | else-stays+else-goes w ↦
          let is : c.if-stays.f ≡ emptied_at i f = w.f-is ∙ ap (λ (y : Intent). with_intents (set f.intents i y) f) c.none.ensures in
          (ap (λ (k : ℕ). gathered (8 - (i + 1)) (i + 1) k c.if-stays.f) w.n-is ∙ ap (λ (g : File). gathered (8 - (i + 1)) (i + 1) n g) is ∙ sym (turn-free f i n (omega arith) (sym c.stays.ensures ∙ w.if-stays.false) (sym w.goes.ensures ∙ w.if-goes.false)) ∙ c.loop-i.invariant.0, omega arith)
    ]

pub returns : goal.returns
returns c =
    let long : length c.args.f.now.intents ≡ 8 = search (mapped-length, rules) in
    sym (turns-over c.loop-i.f c.loop-i.i c.loop-i.n (omega arith)) ∙ c.loop-i.invariant.0 ∙ gathered-so c.args.f.now long
