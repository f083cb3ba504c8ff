-- What paper 01 says of the record after any calls, and of a refused call, is so (`AfterAnyCalls`, `RefusedUnchanged` of specs/History.antt). In this order:
--     judged-by               what holds of each refusal, and of the accepted call where no refusal applies, holds of what is judged
--     refused-unchanged       the claim of a refused call
--     counts                  C rises exactly at a start that is accepted where R is 0
--     Of                      flags on members only: a node joins, leaves, gets the flag, loses it
--     Period                  R is 0 or C - 1, and is 0 exactly where nobody has NEED: a node starts, and finishes
--     Kept, keeps             both of a record, and that each call keeps them
--     sound, after-any-calls  the claim, by induction over the calls
use Prim.Native.Nat.{ℕ, ◌+◌, ◌<◌, ◌≤◌, ◌^◌}
use native.Mathlib.Nat.{add_assoc}
use native.Mathlib.Omega.{arith}
use mathlib.Core.Path.{◌≡◌, refl, sym, ap, ◌∙◌, subst}
use mathlib.Core.Logic.{◌⊎◌, inl, inr, ⊎_elim}
use mathlib.Core.Bool.{Bool, true, false, not, cond, ◌&&◌, true≢false, false≢true}
use mathlib.Core.List.{List, [], ◌∷◌}
use lib.Dec.{eqb}
use borrow.Author.Tests.{eqb-false, eq-eqb, ne_eqb, leb-false, lt-leb, not-false}
use Rattle.statuses.specs.Rules.{Rule}
use Rattle.statuses.proofs.Rules.{Each, NoneApplies, decided-by, any-rule}
use Rattle.masks.specs.Mask.{has, plus, minus, empty}
use Rattle.masks.proofs.Laws.{plus-lt, minus-lt, has-zero, has-below, each-empty, plus-node, plus-keeps, plus-came, minus-was, minus-out, minus-keeps, minus-same, some-empty, empty-some, within-each, each_within}
use Rattle.epochs.specs.declared.Epochs.{Epochs}
use Rattle.epochs.specs.Epochs.{Answered, Yes, No, NoSuchNode, member, needs, no_grace, above31, all_enforce, fresh, join_rules, leave_rules, start_rules, enforce_rules, finish_rules, stop_rules, joined, departed, new_epoch, begun, flagged, enforced, finished, stopped, accepted, refused, judged, join_of, leave_of, start_of, enforce_of, finish_of, stop_of, may_reclaim_of, reclaim_number}
use Rattle.epochs.specs.History.{Call, join, leave, start, enforce, finish, stop_enforcing, may_reclaim, called, after, is_start, raises, raised, Sound, AfterAnyCalls, RefusedUnchanged}

-- ---- a call is refused by one of its rules, or none applies
judged-by : (Q : Answered → Type 0) (e : Epochs) (rules : List (Rule ℕ)) (next : Epochs) → Each (λ s. refused s e) Q rules → (NoneApplies rules → Q (accepted next)) → Q (judged e rules next)
unfolding judged
judged-by Q e rules next refusals accepts = decided-by (λ s. refused s e) Q rules (accepted next) refusals accepts

-- ---- a refused call
abbrev Stays : Epochs → Answered → Type 0
Stays e a = (a.status ≡ 0 → ⊥) → a.epochs ≡ e

stays-refused : (e : Epochs) (rules : List (Rule ℕ)) (next : Epochs) → Stays e (judged e rules next)
stays-refused e rules next = judged-by (Stays e) e rules next (any-rule (λ s. refused s e) (Stays e) (λ s z. refl) rules) (λ _ z. absurd (z refl))

pub refused-unchanged : RefusedUnchanged
unfolding join_of leave_of start_of enforce_of finish_of stop_of
refused-unchanged e (join node) = stays-refused e (join_rules e node) (joined e node)
refused-unchanged e (leave node) = stays-refused e (leave_rules e node) (departed e node)
refused-unchanged e (start node) = stays-refused e (start_rules e node) (flagged (begun e) node)
refused-unchanged e (enforce node) = stays-refused e (enforce_rules e node) (enforced e node)
refused-unchanged e (finish node) = stays-refused e (finish_rules e node) (finished e node)
refused-unchanged e (stop_enforcing node) = stays-refused e (stop_rules e node) (stopped e node)
refused-unchanged e (may_reclaim node) = λ _. refl

-- ---- C
abbrev Counts : Epochs → Bool → Answered → Type 0
Counts e is-start a = a.epochs.current ≡ e.current + cond (is-start && (eqb a.status 0 && no_grace e)) 1 0

stays : (n : ℕ) → n ≡ n + 0
stays n = omega arith

rises : (e : Epochs) (b : Bool) → (cond b (new_epoch e) e).current ≡ e.current + cond b 1 0
rises e true = refl
rises e false = stays e.current

counts : (e : Epochs) (c : Call) → Counts e (is_start c) (called e c)
unfolding join_of leave_of start_of enforce_of finish_of stop_of
counts e (join node) = judged-by (Counts e false) e (join_rules e node) (joined e node) (stays _, (stays _, tt)) (λ _. stays _)
counts e (leave node) = judged-by (Counts e false) e (leave_rules e node) (departed e node) (stays _, (stays _, (stays _, tt))) (λ _. stays _)
counts e (start node) = judged-by (Counts e true) e (start_rules e node) (flagged (begun e) node) (stays _, (stays _, (stays _, tt))) (λ _. rises e (no_grace e))
counts e (enforce node) = judged-by (Counts e false) e (enforce_rules e node) (enforced e node) (stays _, (stays _, (stays _, tt))) (λ _. stays _)
counts e (finish node) = judged-by (Counts e false) e (finish_rules e node) (finished e node) (stays _, (stays _, (stays _, tt))) (λ _. stays _)
counts e (stop_enforcing node) = judged-by (Counts e false) e (stop_rules e node) (stopped e node) (stays _, (stays _, (stays _, tt))) (λ _. stays _)
counts e (may_reclaim node) = stays _

-- ---- flags: a mask of members only
record Of (members flags : ℕ) : Type 0 where
  fit : flags < 2 ^ 32
  inside : (k : ℕ) → k < 32 → has flags k ≡ true → has members k ≡ true

module _ (members flags node : ℕ) (of : Of members flags) where
  -- a node joins, and has the flag no more; it leaves, likewise; the flag is set on a member; it is cleared
  of-join : Of (plus members node) (minus flags node)
  of-join = record { fit = minus-lt flags node; inside = λ k h f. plus-keeps members node k h (of.inside k h (minus-was flags node k h f)) }

  of-leave : Of (minus members node) (minus flags node)
  of-leave = record { fit = minus-lt flags node; inside = λ k h f. minus-keeps members node k h (of.inside k h (minus-was flags node k h f)) (minus-out flags node k h f) }

  of-set : has members node ≡ true → Of members (plus flags node)
  of-set is = record { fit = plus-lt flags node; inside = λ k h f. ⊎_elim (of.inside k h) (λ eq. ap (has members) eq ∙ is) (plus-came flags node k h f) }

  of-clear : Of members (minus flags node)
  of-clear = record { fit = minus-lt flags node; inside = λ k h f. of.inside k h (minus-was flags node k h f) }

  -- a node that is no member has no flag
  of_none : node < 32 → has members node ≡ false → has flags node ≡ false
  of_none h out = unflagged (has flags node) (λ f. false≢true (sym out ∙ of.inside node h f))
    where
      unflagged : (b : Bool) → (b ≡ true → ⊥) → b ≡ false
      unflagged true f = absurd (f refl)
      unflagged false f = refl

-- ---- the grace period: C, R, and who has NEED
record Period (C R need : ℕ) : Type 0 where
  begins : 1 ≤ C
  last : (R ≡ 0) ⊎ (R + 1 ≡ C)
  grace-is : eqb R 0 ≡ empty need

in-grace : (R need node : ℕ) → node < 32 → (R ≡ 0 → ⊥) → eqb R 0 ≡ empty (plus need node)
in-grace R need node h ne = ne_eqb R 0 ne ∙ sym (some-empty (plus need node) node h (plus-node need node h))

-- a node starts where R is 0, and where it isn't
begins-at : (C R need node : ℕ) → node < 32 → Period C R need → Period (C + 1) C (plus need node)
begins-at C R need node h p = record { begins = omega arith; last = inr refl; grace-is = in-grace C need node h (λ z. not-zero p.begins z) }
  where
    not-zero : 1 ≤ C → C ≡ 0 → ⊥
    not-zero l z = omega arith

goes_on : (C R need node : ℕ) → node < 32 → eqb R 0 ≡ false → Period C R need → Period C R (plus need node)
goes_on C R need node h c p = record { begins = p.begins; last = p.last; grace-is = in-grace R need node h (eqb-false R 0 c) }

-- a node finishes
ended : (C R need node : ℕ) → node < 32 → has need node ≡ true → Period C R need → Period C (cond (empty (minus need node)) 0 R) (minus need node)
ended C R need node h has-need p = by (empty (minus need node)) refl
  where
    by : (b : Bool) → empty (minus need node) ≡ b → Period C (cond b 0 R) (minus need node)
    by true c = record { begins = p.begins; last = inl refl; grace-is = sym c }
    by false c = record { begins = p.begins; last = p.last; grace-is = p.grace-is ∙ some-empty need node h has-need ∙ sym c }

-- ---- what each call keeps
record Kept (e : Epochs) : Type 0 where
  members-fit : e.members < 2 ^ 32
  need-of : Of e.members e.need
  enforcing-of : Of e.members e.enforcing
  period : Period e.current e.recovery e.need

-- the record at a start, at any C and R that keep; then as R is 0 or not
module _ (e : Epochs) (kept : Kept e) (node : ℕ) (h : node < 32) (is : member e node ≡ true) where
  starts-at : (C R : ℕ) → Period C R (plus e.need node) → Kept (record { current = C; recovery = R; members = e.members; need = plus e.need node; enforcing = plus e.enforcing node })
  starts-at C R p = record {
    members-fit = kept.members-fit;
    need-of = of-set e.members e.need node kept.need-of is;
    enforcing-of = of-set e.members e.enforcing node kept.enforcing-of is;
    period = p;
  }

  starts : (b : Bool) → no_grace e ≡ b → Kept (flagged (cond b (new_epoch e) e) node)
  starts true c = starts-at (e.current + 1) e.current (begins-at e.current e.recovery e.need node h kept.period)
  starts false c = starts-at e.current e.recovery (goes_on e.current e.recovery e.need node h c kept.period)

abbrev Keeps : Answered → Type 0
Keeps a = Kept a.epochs

keeps : (e : Epochs) → Kept e → (c : Call) → Keeps (called e c)
unfolding join_of leave_of start_of enforce_of finish_of stop_of
keeps e kept (join node) = judged-by Keeps e (join_rules e node) (joined e node) (kept, (kept, tt)) (λ none. record {
  members-fit = plus-lt e.members node;
  need-of = of-join e.members e.need node kept.need-of;
  enforcing-of = of-join e.members e.enforcing node kept.enforcing-of;
  period = subst (Period e.current e.recovery) (sym (minus-same e.need node kept.need-of.fit (of_none e.members e.need node kept.need-of (leb-false 32 node none.0) none.1.0))) kept.period;
})
keeps e kept (leave node) = judged-by Keeps e (leave_rules e node) (departed e node) (kept, (kept, (kept, tt))) (λ none. record {
  members-fit = minus-lt e.members node;
  need-of = subst (Of (minus e.members node)) (minus-same e.need node kept.need-of.fit none.1.1.0) (of-leave e.members e.need node kept.need-of);
  enforcing-of = of-leave e.members e.enforcing node kept.enforcing-of;
  period = kept.period;
})
keeps e kept (start node) = judged-by Keeps e (start_rules e node) (flagged (begun e) node) (kept, (kept, (kept, tt))) (λ none. starts e kept node (leb-false 32 node none.0) (not-false (member e node) none.1.0) (no_grace e) refl)
keeps e kept (enforce node) = judged-by Keeps e (enforce_rules e node) (enforced e node) (kept, (kept, (kept, tt))) (λ none. record {
  members-fit = kept.members-fit;
  need-of = kept.need-of;
  enforcing-of = of-set e.members e.enforcing node kept.enforcing-of (not-false (member e node) none.1.0);
  period = kept.period;
})
keeps e kept (finish node) = judged-by Keeps e (finish_rules e node) (finished e node) (kept, (kept, (kept, tt))) (λ none. record {
  members-fit = kept.members-fit;
  need-of = of-clear e.members e.need node kept.need-of;
  enforcing-of = kept.enforcing-of;
  period = ended e.current e.recovery e.need node (leb-false 32 node none.0) (not-false (needs e node) none.1.1.0) kept.period;
})
keeps e kept (stop_enforcing node) = judged-by Keeps e (stop_rules e node) (stopped e node) (kept, (kept, (kept, tt))) (λ none. record {
  members-fit = kept.members-fit;
  need-of = kept.need-of;
  enforcing-of = of-clear e.members e.enforcing node kept.enforcing-of;
  period = kept.period;
})
keeps e kept (may_reclaim node) = kept

none_of : (members : ℕ) → Of members 0
none_of members = record { fit = omega arith; inside = λ k h f. absurd (false≢true (sym (has-zero k) ∙ f)) }

kept_fresh : Kept fresh
kept_fresh = record {
  members-fit = omega arith;
  need-of = none_of 0;
  enforcing-of = none_of 0;
  period = record { begins = omega arith; last = inl refl; grace-is = sym (each-empty 0 (λ k h. has-zero k)) };
}

-- ---- the claim
kept-after : (e : Epochs) → Kept e → (calls : List Call) → Kept (after e calls)
unfolding after
kept-after e kept [] = kept
kept-after e kept (c ∷ cs) = kept-after (called e c).epochs (keeps e kept c) cs

counted : (e : Epochs) (calls : List Call) → (after e calls).current ≡ e.current + raised e calls
unfolding after raised
counted e [] = stays e.current
counted e (c ∷ cs) = counted (called e c).epochs cs ∙ ap (λ (n : ℕ). n + raised (called e c).epochs cs) (counts e c) ∙ add_assoc e.current (cond (raises e c) 1 0) (raised (called e c).epochs cs)

-- what a yes says
not-no : No ≡ Yes → ⊥
not-no e = let z : ◌≡◌ {A = ℕ} 0 1 = ap reclaim_number e in omega arith

not-refused : NoSuchNode ≡ Yes → ⊥
not-refused e = let z : ◌≡◌ {A = ℕ} 22 1 = ap reclaim_number e in omega arith

yes-says : (a c m n r : Bool) → cond a NoSuchNode (cond (not c && (m && (n && r))) Yes No) ≡ Yes → (a ≡ false) × (c ≡ false) × (n ≡ true) × (r ≡ true)
yes-says true c m n r e = absurd (not-refused e)
yes-says false true m n r e = absurd (not-no e)
yes-says false false false n r e = absurd (not-no e)
yes-says false false true false r e = absurd (not-no e)
yes-says false false true true false e = absurd (not-no e)
yes-says false false true true true e = (refl, refl, refl, refl)

module _ (e : Epochs) (kept : Kept e) where
  need-node : (k : ℕ) → needs e k ≡ true → k < 32
  need-node k f = has-below 32 e.need k kept.need-of.fit f

  some-need : (e.recovery ≡ 0 → ⊥) → (node : ℕ) × (member e node ≡ true) × (needs e node ≡ true)
  some-need ne =
      let w : (k : ℕ) × (k < 32) × (has e.need k ≡ true) = empty-some e.need (sym kept.period.grace-is ∙ ne_eqb e.recovery 0 ne) in
      (w.0, kept.need-of.inside w.0 w.1 w.2, w.2)

  in-period : (node : ℕ) → needs e node ≡ true → e.recovery ≡ 0 → ⊥
  in-period node f z = true≢false (sym (eq-eqb e.recovery 0 z) ∙ kept.period.grace-is ∙ some-empty e.need node (need-node node f) f)

  sound : (starts : ℕ) → e.current ≡ 1 + starts → Sound e starts
  unfolding may_reclaim_of
  sound starts counted-so = record {
    recovery = ⊎_elim inl (λ l. inr (omega (arith, l))) kept.period.last;
    grace = (some-need, λ w. in-period w.0 w.2);
    current = counted-so;
    need-members = λ node f. kept.need-of.inside node (need-node node f) f;
    enforcing-members = λ node f. kept.enforcing-of.inside node (has-below 32 e.enforcing node kept.enforcing-of.fit f) f;
    reclaim = λ node. (
      λ yes. let y : (above31 node ≡ false) × (no_grace e ≡ false) × (needs e node ≡ true) × (all_enforce e ≡ true) = yes-says (above31 node) (no_grace e) (member e node) (needs e node) (all_enforce e) yes in
          (eqb-false e.recovery 0 y.1, y.2, λ other f. within-each e.members e.enforcing y.3 other (has-below 32 e.members other kept.members-fit f) f),
      λ w. simp (lt-leb 32 node (need-node node w.1), ne_eqb e.recovery 0 w.0, kept.need-of.inside node (need-node node w.1) w.1, w.1, each_within e.members e.enforcing (λ other h f. w.2 other f)),
    );
  }

pub after-any-calls : AfterAnyCalls
unfolding AfterAnyCalls
after-any-calls calls = sound (after fresh calls) (kept-after fresh kept_fresh calls) (raised fresh calls) (counted fresh calls)
