-- DEMAND 3 is proved here: `history : Demand3`. In this order: a step by its status, and one that changes nothing; each call; any list of calls.
use mathlib.Core.Path.{◌≡◌, refl, ap, ap₂, ◌∙◌}
use mathlib.Core.List.{List, [], ◌∷◌}
use mathlib.Core.Bool.{Bool, true, false, cond}
use Prim.Native.Nat.{ℕ}
use lib.Dec.{leb}
use lib.ListN.{length}
use Rattle.places.specs.Lists.{fill}
use Rattle.files.specs.File.{blank_file}
use Rattle.places.proofs.Slots.{All, Slots, all_replicate}
use Rattle.files.specs.declared.head.Edition.{Edition}
use Rattle.files.specs.declared.head.Edition.TheVariants.{Current, Old}
use Rattle.files.specs.Head.{is_old}
use Rattle.files.specs.declared.file.File.{File}
use Rattle.recovery.specs.Calls.{Call, register, opening, set_up, reclaim, close, repaired, add_proxy, remove_proxy, forget, end_grace, restart, layout_return, listing, Answer, said, listed, lend}
use Rattle.ledger.specs.Ledger.{Row, Ledger, no_rows, judge, apply, accepted, feed, is_on}
use Rattle.recovery.specs.Record.{Answered, fresh_as}
use Rattle.ledger.specs.History.{step_of, step, answers, verdicts, record_after, ledger_after}
use Rattle.ledger.specs.Demand3.{ledger_of, Demand3}
use Rattle.recovery.specs.declared.record.Record.{Record}
use Rattle.ledger.proofs.Relation.{FileIs, NoFile, Matches, RecordAgrees}
use Rattle.ledger.proofs.OneFile.{few-devices}
use Rattle.ledger.proofs.Calls.{open-agrees, set-up-agrees, reclaim-agrees, close-agrees, repaired-agrees, add-proxy-agrees, remove-proxy-agrees, forget-agrees, register-agrees, end-agrees, restart-agrees, list-agrees}
use Rattle.ledger.proofs.Returns.{StepIs, return-agrees}
use Rattle.ledger.proofs.Sentences.{FewMirrors, never-the-proxy, one_list}

by-status : (a : Answered) (l : Ledger) (x : Call) (t : ℕ) → RecordAgrees a l (apply l x) t → StepIs (step_of a) l x (said t)
unfolding feed
by-status a l x t h = record { answer = ap said h.same; after = h.kept }

-- what is refused, handed on or listed changes nothing
by-nothing : (a : Answer) (r : Record) (l : Ledger) (x : Call) → accepted a ≡ false → Matches r l → StepIs (record { answer = a; after = r }) l x a
unfolding feed
by-nothing a r l x e m = record { answer = refl; after = rw e m }

-- ---- the lists
pub lend-changes-nothing : (ns ss a b : List ℕ) → accepted (lend ns ss a b) ≡ false
unfolding lend
lend-changes-nothing ns ss a b = by (leb (length ns) (length a)) (leb (length ns) (length b))
  where
    by : (p q : Bool) → accepted (cond p (cond q (listed 0 (length ns) (fill ns a) (fill ss b)) (listed 28 0 a b)) (listed 28 0 a b)) ≡ false
    by true true = refl
    by true false = refl
    by false q = refl

by-list : (t : Answer) (r : Record) (l : Ledger) (x : Call) (ns ss a b : List ℕ) → t ≡ lend ns ss a b → Matches r l → StepIs (record { answer = t; after = r }) l x (lend ns ss a b)
by-list t r l x ns ss a b e m = rw e (by-nothing (lend ns ss a b) r l x (lend-changes-nothing ns ss a b) m)

-- ---- each call
pub step-agrees : (r : Record) (l : Ledger) (x : Call) → Matches r l → StepIs (step r x) l x (judge l x)
unfolding step judge apply
step-agrees r l (register n s) m = by-status _ l (register n s) _ (register-agrees m n s)
step-agrees r l (opening n c) m = by-status _ l (opening n c) _ (open-agrees m n c)
step-agrees r l (set_up n c s) m = by-status _ l (set_up n c s) _ (set-up-agrees m n c s)
step-agrees r l (reclaim n c) m = by-status _ l (reclaim n c) _ (reclaim-agrees m n c)
step-agrees r l (close n c) m = by-status _ l (close n c) _ (close-agrees m n c)
step-agrees r l (repaired n) m = by-status _ l (repaired n) _ (repaired-agrees m n)
step-agrees r l (add_proxy n s) m = by-status _ l (add_proxy n s) _ (add-proxy-agrees m n s)
step-agrees r l (remove_proxy n) m = by-status _ l (remove_proxy n) _ (remove-proxy-agrees m n)
step-agrees r l (forget n) m = by-status _ l (forget n) _ (forget-agrees m n)
step-agrees r l end_grace m = by-status _ l end_grace _ (end-agrees m)
step-agrees r l restart m = by-status _ l restart _ (restart-agrees m)
step-agrees r l (layout_return n c s d) m = return-agrees m n c s d
step-agrees r l (listing k e a b) m = by-list _ r l (listing k e a b) _ _ a b (list-agrees m k e a b) m

-- ---- any list of calls
same-edition : (l : Ledger) (x : Call) → (apply l x).edition ≡ l.edition
unfolding apply
same-edition l (register n s) = refl
same-edition l (opening n c) = refl
same-edition l (set_up n c s) = refl
same-edition l (reclaim n c) = refl
same-edition l (close n c) = refl
same-edition l (repaired n) = refl
same-edition l (add_proxy n s) = refl
same-edition l (remove_proxy n) = refl
same-edition l (forget n) = refl
same-edition l end_grace = refl
same-edition l restart = refl
same-edition l (layout_return n c s d) = refl
same-edition l (listing k e a b) = refl

all-answered : (calls : List Call) (r : Record) (l : Ledger) → Matches r l → answers r calls ≡ verdicts l calls (answers r calls)
unfolding answers verdicts
all-answered [] r l m = refl
all-answered (x ∷ xs) r l m =
    let s = step-agrees r l x m in
    ap₂ {C = List Answer} (λ a given. a ∷ given) s.answer (all-answered xs (step r x).after (feed l x (step r x).answer) (rw s.answer s.after))

pub after-all : (calls : List Call) (r : Record) (l : Ledger) → Matches r l → Matches (record_after r calls) (ledger_after l calls (answers r calls))
unfolding answers record_after ledger_after
after-all [] r l m = m
after-all (x ∷ xs) r l m = let s = step-agrees r l x m in after-all xs (step r x).after (feed l x (step r x).answer) (rw s.answer s.after)

pub fresh-matches : (ed : Edition) → Matches (fresh_as ed) (no_rows ed)
fresh-matches ed = record { old = refl; grace = refl; long = refl; rows = Slots.rest (all_replicate 64 blank_file refl); rising = tt }

-- no call changes the ledger's edition
kept-edition : (calls : List Call) (l : Ledger) (given : List Answer) → (ledger_after l calls given).edition ≡ l.edition
unfolding ledger_after feed
kept-edition [] l given = refl
kept-edition (x ∷ xs) l [] = refl
kept-edition (x ∷ xs) l (a ∷ given) = kept-edition xs (feed l x a) given ∙ by (accepted a)
  where
    by : (b : Bool) → (cond b (apply l x) l).edition ≡ l.edition
    by true = same-edition l x
    by false = refl

-- a row has at most four mirrors, as its file does
few-rows : {g : Bool} {fs : List File} {ws : List Row} → Slots (FileIs g) NoFile fs ws → All FewMirrors ws
few-rows (Slots.rest h) = All.all_nil
few-rows (Slots.item r s) = All.all_cons (record { few = few-devices r.copies.places }) (few-rows s)

named : (ed : Edition) → cond (is_old ed) Old Current ≡ ed
named Current = refl
named Old = refl

pub history : Demand3
unfolding judge
history ed calls =
    let m = after-all calls (fresh_as ed) (no_rows ed) (fresh-matches ed) in
    record {
      answered = all-answered calls (fresh_as ed) (no_rows ed) (fresh-matches ed);
      listings = λ k a b. list-agrees m k a b;
      lists = λ k e. one_list e (is_on k) (ledger_of ed calls) m.rising;
      ordinary = λ k e. never-the-proxy e (is_on k) (few-rows m.rows);
      edition = ap (λ b. cond b Old Current) (m.old ∙ ap is_old (kept-edition calls (no_rows ed) (answers (fresh_as ed) calls))) ∙ named ed;
    }
