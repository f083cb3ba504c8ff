-- The steps of a cursor visit the statistics records of a report, in their order: from each cursor on, the records are what stands at the cursor and
-- then those from the next cursor on. Each step goes forward, within the bytes.
-- In order: a record's parts; that law; where the walk begins; what the code's tests say of a record and of a step; a caller's fold; the walk as a list.
use Prim.Native.Nat.{ℕ, zero, suc, ◌+◌, ◌-◌, ◌≤◌, ◌<◌}
use mathlib.Core.Path.{◌≡◌, refl, sym, ap, ◌∙◌}
use mathlib.Core.List.{List, [], ◌∷◌}
use mathlib.Core.Bool.{Bool, true, false, cond}
use native.Mathlib.Omega.{arith}
use borrow.Author.Tests.{lt-ltb, le-ltb, eq-eqb, ne_eqb, le-leb, lt-leb, ltb-false}
use lib.ListN.{length, take, drop, length-drop}
use lib.Seq.{drop-drop}
use lib.Dec.{ltb, leb, eqb}
use Rattle.xdr.specs.Be.{be_nat}
use Rattle.reports.specs.Device.{Device, halves}
use Rattle.xdr.specs.Reader.{Read, Got, Bad, Reader, onward, ◌>>=◌, give, boolean, bounded, in_turn, counted}
use Rattle.xdr.specs.Past.{past_of}
use Rattle.reports.specs.Statistics.{Statistic, io_info, nfstime, io_latency, layoutupdate, iostats}
use Rattle.reports.specs.Report.{Report, DeviceError, ioerr, report_of, status_of, without_errors, over, outcome}
use Rattle.reports.specs.Report as report
use Rattle.reports.specs.Walk.{TailWalk as Walk, tail-ends as ends, tail-gives as gives, Stated}
use Rattle.reports.specs.ReportSteps.{start_past, statistics_start}
use Rattle.reports.specs.Cursors.{nowhere, cursor_at}
use Rattle.reports.specs.StatisticsSteps.{tail_of, counting, given_by, next_of, statistics_from, statistic_in, statistic_at, after_next, tally}
use Rattle.std.specs.Prelude.{Option, Some, None, IfSome}
use Rattle.reports.specs.declared.cursor.Cursor.{Cursor}
use Rattle.reports.specs.StatisticsSteps.{Item, Given, End, Malformed}
use Rattle.reports.proofs.Devices.{halves-taken}
use Rattle.xdr.proofs.Readers.{Leads, no_bytes, number-first, opaque-first, boolean-first, then, by-test}
use Rattle.xdr.proofs.Ends.{EndOf, end-drop, end-of-end, end-shorter, Ends, Leaves, number-ends, give-ends, boolean-ends, bounded-ends, then-ends, counted-ends, reached, further, unread, goes_on, goes-nowhere}
use Rattle.reports.proofs.Statuses.{counted-status, statistics-status}
use Rattle.reports.proofs.Cursors.{nothing-there, rows-begin}
use Rattle.reports.proofs.ReportModel.{rest-is, no-errors-read, ioerr-ends}

-- ---- structures of fixed size
info-read : Leads 16 io_info (λ s. give (be_nat 8 (drop 8 s)))
unfolding io_info
info-read = then (number-first 8) (λ count. then (number-first 8) (λ bytes. no_bytes _))

time-read : Leads 12 nfstime (λ s. give tt)
unfolding nfstime
time-read = then (number-first 8) (λ seconds. then (number-first 4) (λ nseconds. no_bytes _))

latency-read : Leads 64 io_latency (λ s. give tt)
unfolding io_latency
latency-read =
    then (number-first 8)
    (λ a. then (number-first 8) (λ b. then (number-first 8) (λ c. then (number-first 8) (λ d. then (number-first 8) (λ e. then time-read (λ f. then time-read (λ g. no_bytes _)))))))

-- ---- the layout update: three opaque fields, then 144 bytes that end with a boolean
latencies : Reader Unit
latencies = io_latency >>= λ _. io_latency >>= λ _. nfstime >>= λ _. boolean >>= λ _. give tt

latencies-read : Leads 144 latencies (λ s t. cond (leb (be_nat 4 (drop 12 (drop 64 (drop 64 s)))) 1) (give tt t) Bad)
unfolding latencies
latencies-read = then latency-read (λ _. then latency-read (λ _. then time-read (λ _. boolean-first (λ _. give tt) (λ _ _. give tt) (λ _. no_bytes (give tt)))))

two-more : Reader Unit
two-more = bounded 128 >>= λ _. latencies

one_more : Reader Unit
one_more = bounded 128 >>= λ _. two-more

update-is : layoutupdate ≡ (bounded 128 >>= λ _. one_more)
unfolding layoutupdate one_more two-more latencies
update-is = refl

update-ends : Ends layoutupdate
unfolding layoutupdate io_latency nfstime
update-ends =
    let time : Ends nfstime = then-ends (number-ends 8) (λ _. then-ends (number-ends 4) (λ _. give-ends tt)) in
    let latency : Ends io_latency = then-ends (number-ends 8) (λ _. then-ends (number-ends 8) (λ _. then-ends (number-ends 8) (λ _. then-ends (number-ends 8) (λ _. then-ends (number-ends 8) (λ _. then-ends time (λ _. then-ends time (λ _. give-ends tt))))))) in
    then-ends (bounded-ends 128)
    (λ _. then-ends (bounded-ends 128)
    (λ _. then-ends (bounded-ends 128) (λ _. then-ends latency (λ _. then-ends latency (λ _. then-ends time (λ _. then-ends boolean-ends (λ _. give-ends tt)))))))

-- what the code's tests say of it: after each field the rest of the update is still to be read
abbrev pub Update : List ℕ → ℕ → Option ℕ → Type 0
Update s at x = x ≡ past_of (length s) (layoutupdate (drop at s))

module _ (s : List ℕ) (at : ℕ) {r : Option ℕ} (i : r ≡ past_of (length s) (bounded 128 (drop at s))) where
  pub netid-bad : r ≡ None → Update s at None
  netid-bad h = rw update-is (goes-nowhere (bounded-ends 128) one_more s at i h)

  module _ {a : ℕ} (g : r ≡ Some a) {r' : Option ℕ} (i' : r' ≡ past_of (length s) (bounded 128 (drop a s))) where
    on-address : past_of (length s) (one_more (drop a s)) ≡ past_of (length s) (layoutupdate (drop at s))
    on-address = rw update-is (goes_on (bounded-ends 128) one_more s at i g)

    pub address-bad : r' ≡ None → Update s at None
    unfolding one_more
    address-bad h = goes-nowhere (bounded-ends 128) two-more s a i' h ∙ on-address

    module _ {b : ℕ} (g' : r' ≡ Some b) {r'' : Option ℕ} (i'' : r'' ≡ past_of (length s) (bounded 128 (drop b s))) where
      on-handle : past_of (length s) (two-more (drop b s)) ≡ past_of (length s) (layoutupdate (drop at s))
      unfolding one_more
      on-handle = goes_on (bounded-ends 128) two-more s a i' g' ∙ on-address

      pub handle-bad : r'' ≡ None → Update s at None
      unfolding two-more
      handle-bad h = goes-nowhere (bounded-ends 128) latencies s b i'' h ∙ on-handle

      module _ {c : ℕ} (g'' : r'' ≡ Some c) where
        on-latencies : past_of (length s) (latencies (drop c s)) ≡ past_of (length s) (layoutupdate (drop at s))
        unfolding two-more
        on-latencies = goes_on (bounded-ends 128) latencies s b i'' g'' ∙ on-handle

        pub latencies-short : length s - c < 144 → Update s at None
        latencies-short h = rw (latencies-read.reads (drop c s), lt-ltb (length (drop c s)) 144 (rw length-drop h)) at on-latencies

        module _ (h : 144 ≤ length s - c) {n : ℕ} (e : n ≡ be_nat 4 (drop (c + 140) s)) where
          latencies-at : latencies (drop c s) ≡ cond (leb n 1) (Got tt (drop (c + 144) s)) Bad
          latencies-at =
              let k : c + 64 + 64 + 12 ≡ c + 140 = omega arith in
              let d : drop 12 (drop 64 (drop 64 (drop c s))) ≡ drop (c + 140) s = simp (drop-drop, k) in
              rw (latencies-read.reads (drop c s), le-ltb (length (drop c s)) 144 (rw length-drop h), d, ← e, drop-drop)

          pub no-boolean : 1 < n → Update s at None
          no-boolean l = rw (latencies-at, lt-leb n 1 l) at on-latencies

          pub update-past : n ≤ 1 → Update s at (Some (c + 144))
          update-past l =
              let z : length s - (length s - (c + 144)) ≡ c + 144 = omega arith in
              rw (latencies-at, le-leb n 1 l, length-drop, z) at on-latencies

-- ---- a record: 80 bytes, and its layout update
iostats-first : Leads 80 iostats
    (λ s t. onward (layoutupdate t)
    (λ _. give (record { device = take 16 (drop 16 (drop 16 (drop 16 (drop 8 (drop 8 s))))); read = be_nat 8 (drop 8 (drop 16 (drop 8 (drop 8 s)))); written = be_nat 8 (drop 8 (drop 16 (drop 16 (drop 8 (drop 8 s))))) })))
unfolding iostats
iostats-first =
    then (number-first 8)
    (λ offset. then (number-first 8)
    (λ len. then (opaque-first 16) (λ stateid. then info-read (λ read. then info-read (λ written. then (opaque-first 16) (λ device. no_bytes _))))))

iostats-read : (s : List ℕ) → iostats s ≡ cond (ltb (length s) 80) Bad (onward (layoutupdate (drop 80 s)) (λ _. give (statistic_in s)))
iostats-read s =
    let a : drop 16 (drop 8 (drop 8 s)) ≡ drop 32 s = simp drop-drop in
    let r : drop 8 (drop 32 s) ≡ drop 40 s = drop-drop 8 32 s in
    let b : drop 16 (drop 32 s) ≡ drop 48 s = drop-drop 16 32 s in
    let w : drop 8 (drop 48 s) ≡ drop 56 s = drop-drop 8 48 s in
    let d : drop 16 (drop 48 s) ≡ drop 64 s = drop-drop 16 48 s in
    iostats-first.reads s ∙ rw (a, r, b, w, d)

-- what a record is read to: its fields in their places, and it takes at least 80 bytes
abbrev Shown : List ℕ → Read Statistic → Type 0
Shown u Bad = Unit
Shown u (Got y t) = (y ≡ statistic_in u) × EndOf t u × (length t + 80 ≤ length u)

shown : (u : List ℕ) → Shown u (iostats u)
shown u =
    rw (iostats-read u)
    (by-test (Shown u) (ltb (length u) 80) Bad _ (λ _. tt) (λ h. by-update (layoutupdate (drop 80 u)) (update-ends.leaves (drop 80 u)) (ltb-false (length u) 80 h)))
  where
    by-update : (r : Read Unit) → Leaves (drop 80 u) r → 80 ≤ length u → Shown u (onward r (λ _. give (statistic_in u)))
    by-update Bad l h = tt
    by-update (Got x t) l h =
        let k : length t ≤ length u - 80 = rw length-drop at (end-shorter l) in
        (refl, end-of-end l (end-drop 80 u), omega arith)

shown-leaves : (u : List ℕ) (r : Read Statistic) → Shown u r → Leaves u r
shown-leaves u Bad h = tt
shown-leaves u (Got y t) h = h.1

-- ---- the law of a walk
after-if : (s : List ℕ) (c : Cursor) (b : Bool) (x y : Item) → after_next s c (cond b x y) ≡ cond b (after_next s c x) (after_next s c y)
after-if s c true x y = refl
after-if s c false x y = refl

one-counted : (y : Statistic) (r : Read (List Statistic)) → tail_of (onward r (λ ys. give (y ∷ ys))) ≡ counting y (tail_of r)
one-counted y Bad = refl
one-counted y (Got ys t) = by_end (eqb (length t) 0)
  where
    by_end : (b : Bool) → cond b (report.Whole [] (y ∷ ys)) report.Malformed ≡ counting y (cond b (report.Whole [] ys) report.Malformed)
    by_end true = refl
    by_end false = refl

at-record : (s : List ℕ) (c : Cursor) (n : ℕ)
    → tail_of (in_turn n iostats (drop c.at s))
    ≡ after_next s c (cond (eqb n 0) (cond (eqb (length s - c.at) 0) End Malformed) (given_by s n (iostats (drop c.at s))))
unfolding in_turn statistics_from
at-record s c zero = rw length-drop (sym (after-if s c (eqb (length s - c.at) 0) End Malformed))
at-record s c (suc n) =
    let z : eqb (suc n) 0 ≡ false = ne_eqb (suc n) 0 (λ h. omega arith) in
    rw z (by-record (iostats (drop c.at s)) (shown (drop c.at s)))
  where
    by-record : (r : Read Statistic) → Shown (drop c.at s) r
        → tail_of (onward r (λ y. in_turn n iostats >>= λ ys. give (y ∷ ys))) ≡ after_next s c (given_by s (suc n) r)
    by-record Bad h = refl
    by-record (Got y t) h =
        let p : suc n - 1 ≡ n = omega arith in
        let q : drop (length s - length t) s ≡ t = (end-of-end h.1 (end-drop c.at s)).lies in
        one-counted y (in_turn n iostats t) ∙ rw (p, q, ← h.0)

-- the records from a cursor on are what stands there and then the records from the next cursor on
pub unrolled : (s : List ℕ) (c : Cursor) → statistics_from s c ≡ after_next s c (next_of s c)
unfolding statistics_from next_of
unrolled s c = at-record s c c.left

-- from a cursor on there are statistics records and no device errors, or the records are malformed
pub only-statistics : (P : Report → Type 0) → ((ys : List Statistic) → P (report.Whole [] ys)) → P report.Malformed → (s : List ℕ) (c : Cursor) → P (statistics_from s c)
unfolding statistics_from
only-statistics P w m s c = by_read (in_turn c.left iostats (drop c.at s))
  where
    by_read : (r : Read (List Statistic)) → P (tail_of r)
    by_read Bad = m
    by_read (Got ys t) = by-test P (eqb (length t) 0) (report.Whole [] ys) report.Malformed (λ _. w ys) (λ _. m)

-- ---- where the walk begins
no-bytes-read : iostats [] ≡ Bad
no-bytes-read = iostats-read []

pub tail-begins : (s : List ℕ) (at : ℕ) → statistics_from s (cursor_at s at) ≡ tail_of (counted iostats (drop at s))
unfolding statistics_from
tail-begins s at = ap tail_of (rows-begin iostats no-bytes-read s at)

nowhere-begins : (s : List ℕ) → statistics_from s (nowhere s) ≡ report.Malformed
unfolding statistics_from
nowhere-begins s = ap tail_of (nothing-there iostats no-bytes-read s)

-- the walk of a body begins with all its statistics records
pub begins : (s : List ℕ) → statistics_from s (statistics_start s) ≡ without_errors (report_of s)
unfolding statistics_start
begins s = by-errors (counted ioerr s) refl ((counted-ends ioerr ioerr-ends).leaves s)
  where
    by-errors : (r : Read (List (List DeviceError))) → counted ioerr s ≡ r → Leaves s r → statistics_from s (start_past s (past_of (length s) r)) ≡ without_errors (report_of s)
    by-errors Bad e l = nowhere-begins s ∙ sym (ap without_errors (no-errors-read s e))
    by-errors (Got rs t) e l = tail-begins s (length s - length t) ∙ rw l.lies (sym (rest-is s e))

-- ---- what the code's tests say of a record at a place
given-past : {A B : Type 0} (n : ℕ) (r : Read A) (b : B) → past_of n r ≡ past_of n (onward r (λ _. give b))
given-past n Bad b = refl
given-past n (Got a t) b = refl

module _ (s : List ℕ) (at : ℕ) where
  pub record-short : length s - at < 80 → None ≡ past_of (length s) (iostats (drop at s))
  record-short h = rw (iostats-read, lt-ltb (length (drop at s)) 80 (rw length-drop h))

  pub record-long : 80 ≤ length s - at → {r : Option ℕ} → r ≡ past_of (length s) (layoutupdate (drop (at + 80) s)) → r ≡ past_of (length s) (iostats (drop at s))
  record-long h i =
      i ∙ given-past (length s) (layoutupdate (drop (at + 80) s)) (statistic_in (drop at s))
      ∙ rw (iostats-read, le-ltb (length (drop at s)) 80 (rw length-drop h), drop-drop 80 at s)

  pub record-within : {r : Option ℕ} → 80 ≤ length s - at → r ≡ past_of (length s) (layoutupdate (drop (at + 80) s)) → IfSome r (λ e. (at + 80 ≤ e) × (e ≤ length s))
  record-within {r} h = by r
    where
      by : (r : Option ℕ) → r ≡ past_of (length s) (layoutupdate (drop (at + 80) s)) → IfSome r (λ e. (at + 80 ≤ e) × (e ≤ length s))
      by None i = tt
      by (Some e) i = further s (at + 80) (layoutupdate (drop (at + 80) s)) (update-ends.leaves (drop (at + 80) s)) i (omega arith)

-- ---- a step takes at least 80 bytes and stays within the bytes: a walk of s makes at most length s / 80 + 1 steps, whatever the count says
pub record Forward (s : List ℕ) (c next : Cursor) : Type 0 where
  pub further : c.at + 80 ≤ next.at
  pub within : next.at ≤ length s

abbrev Stands : List ℕ → Cursor → Item → Type 0
Stands s c (Given h l r w next) = Forward s c next × Stated (statistic_at s c) h l r w
Stands s c End = Unit
Stands s c Malformed = Unit

stands_by : (s : List ℕ) (c : Cursor) (r : Read Statistic) → Shown (drop c.at s) r → Stands s c (given_by s c.left r)
stands_by s c Bad h = tt
stands_by s c (Got y t) h =
    let k : length t + 80 ≤ length s - c.at = rw length-drop at h.2 in
    (record { further = omega arith; within = omega arith }, rw (← h.0) (record { device = refl; read = refl; written = refl }))

stands : (s : List ℕ) (c : Cursor) → Stands s c (next_of s c)
unfolding next_of
stands s c =
    by-test (Stands s c) (eqb c.left 0) _ _ (λ _. by-test (Stands s c) (eqb (length s - c.at) 0) End Malformed (λ _. tt) (λ _. tt))
    (λ _. stands_by s c (iostats (drop c.at s)) (shown (drop c.at s)))

module _ (s : List ℕ) (c : Cursor) {h l r w : ℕ} {next : Cursor} (e : next_of s c ≡ Given h l r w next) where
  pub goes-forward : Forward s c next
  goes-forward = (rw e at (stands s c)).0

  pub stated : Stated (statistic_at s c) h l r w
  stated = (rw e at (stands s c)).1

-- ---- what the code's tests say of a step. A record that is passed, whatever its numbers are
pub record Passed (s : List ℕ) (c next : Cursor) : Type 0 where
  hi : ℕ
  lo : ℕ
  rd : ℕ
  wr : ℕ
  is : next_of s c ≡ Given hi lo rd wr next

module _ (s : List ℕ) (c : Cursor) where
  module _ (z : c.left ≡ 0) where
    pub at-end : length s - c.at ≡ 0 → End ≡ next_of s c
    unfolding next_of
    at-end h = simp (eq-eqb c.left 0 z, eq-eqb (length s - c.at) 0 h)

    pub at-spare : (length s - c.at ≡ 0 → ⊥) → Malformed ≡ next_of s c
    unfolding next_of
    at-spare h = simp (eq-eqb c.left 0 z, ne_eqb (length s - c.at) 0 h)

  passed-by : (y : Statistic) (e : ℕ) → e ≤ length s → next_of s c ≡ given_by s c.left (Got y (drop e s)) → Passed s c (record { at = e; left = c.left - 1 })
  passed-by y e h q =
      let k : length s - (length s - e) ≡ e = omega arith in
      record { hi = (halves y.device).high; lo = (halves y.device).low; rd = y.read; wr = y.written; is = q ∙ rw (length-drop, k) }

  module _ (z : c.left ≡ 0 → ⊥) {r : Option ℕ} (i : r ≡ past_of (length s) (iostats (drop c.at s))) where
    pub at-malformed : r ≡ None → Malformed ≡ next_of s c
    unfolding next_of
    at-malformed g = rw (ne_eqb c.left 0 z, unread (length s) (iostats (drop c.at s)) (sym g ∙ i))

    pub at-passed : {e : ℕ} → r ≡ Some e → Passed s c (record { at = e; left = c.left - 1 })
    unfolding next_of
    at-passed {e} g =
        let u = iostats (drop c.at s) in
        let l = shown-leaves (drop c.at s) u (shown (drop c.at s)) in
        let q = reached s c.at u l (sym g ∙ i) in
        let k : length s - e + 80 ≤ length s - c.at = rw (length-drop e s, length-drop c.at s) at (rw q.is at (shown (drop c.at s))).2 in
        let f = further s c.at u l (sym g ∙ i) (omega arith) in
        let n : next_of s c ≡ given_by s c.left u = rw (ne_eqb c.left 0 z) in
        passed-by q.value e f.1 (n ∙ ap (given_by s c.left) q.is)

  -- its numbers are those that stand in their places
  pub next-given : {next : Cursor} → Passed s c next → {hi lo rd wr : ℕ} → hi ≡ be_nat 8 (drop (c.at + 64) s) → lo ≡ be_nat 8 (drop (c.at + 72) s)
      → rd ≡ be_nat 8 (drop (c.at + 40) s) → wr ≡ be_nat 8 (drop (c.at + 56) s) → Given hi lo rd wr next ≡ next_of s c
  next-given g {hi} {lo} {rd} {wr} p q u w =
      let t = stated s c g.is in
      let k : c.at + 64 + 8 ≡ c.at + 72 = omega arith in
      let d : halves (take 16 (drop 64 (drop c.at s))) ≡ record { high = hi; low = lo } =
      halves-taken (drop 64 (drop c.at s)) ∙ rw (drop-drop 64 c.at s, drop-drop 8 (c.at + 64) s, k, p, q)
      in
      let x : g.hi ≡ hi = ap (λ (y : Device). y.high) (sym t.device ∙ d) in
      let y : g.lo ≡ lo = ap (λ (y : Device). y.low) (sym t.device ∙ d) in
      let r : g.rd ≡ rd = sym t.read ∙ rw (drop-drop 40 c.at s, u) in
      let v : g.wr ≡ wr = sym t.written ∙ rw (drop-drop 56 c.at s, w) in
      sym (g.is ∙ rw (x, y, r, v))

-- ---- what a caller folds over the records: with the invariant `tally f bad a (statistics_from s c) ≡ answer` a turn keeps the answer, and each way
-- out gives it
turn : (s : List ℕ) (c : Cursor) {e : Item} → next_of s c ≡ e → statistics_from s c ≡ after_next s c e
turn s c h = unrolled s c ∙ ap (after_next s c) h

one-tallied : {A : Type 0} (f : A → Statistic → A) (bad a : A) (y : Statistic) (p : Report) → tally f bad a (counting y p) ≡ tally f bad (f a y) p
unfolding tally over
one-tallied f bad a y (report.Whole xs ys) = refl
one-tallied f bad a y report.Malformed = refl

module _ {A : Type 0} (f : A → Statistic → A) (bad a : A) (s : List ℕ) (c : Cursor) {answer : A} (inv : tally f bad a (statistics_from s c) ≡ answer) where
  pub tally-given : {h l r w : ℕ} {next : Cursor} → next_of s c ≡ Given h l r w next → tally f bad (f a (statistic_at s c)) (statistics_from s next) ≡ answer
  tally-given {next = next} e = sym (one-tallied f bad a (statistic_at s c) (statistics_from s next)) ∙ sym (ap (tally f bad a) (turn s c e)) ∙ inv

  pub tally-end : next_of s c ≡ End → a ≡ answer
  unfolding tally over
  tally-end e = sym (ap (tally f bad a) (turn s c e)) ∙ inv

  pub tally-malformed : next_of s c ≡ Malformed → bad ≡ answer
  unfolding tally
  tally-malformed e = sym (ap (tally f bad a) (turn s c e)) ∙ inv

pub tally-nothing : {A : Type 0} (g : A → Statistic → A) (bad a : A) (s : List ℕ) {c : Cursor} → c ≡ nowhere s → tally g bad a (statistics_from s c) ≡ bad
unfolding tally
tally-nothing g bad a s e = ap (λ (x : Cursor). tally g bad a (statistics_from s x)) e ∙ ap (tally g bad a) (nowhere-begins s)

-- what is left of a report whose error records are passed is its statistics records
pub tally-rest : {A : Type 0} (f : A → DeviceError → A) (g : A → Statistic → A) (bad a : A) (s : List ℕ) (c : Cursor)
    → outcome f g bad a (statistics_from s c) ≡ tally g bad a (statistics_from s c)
unfolding outcome tally over
tally-rest f g bad a s c = only-statistics (λ p. outcome f g bad a p ≡ tally g bad a p) (λ ys. refl) refl s c

-- ---- the status of the records: with the invariant `status_of (statistics_from s c) ≡ answer` a step keeps the answer, and each way out gives it
module _ (s : List ℕ) (c : Cursor) {answer : ℕ} (inv : status_of (statistics_from s c) ≡ answer) where
  pub status-on : {next : Cursor} → Passed s c next → status_of (statistics_from s next) ≡ answer
  status-on {next} g = sym (counted-status (statistic_at s c) (statistics_from s next)) ∙ sym (ap status_of (turn s c g.is)) ∙ inv

  pub status-end : End ≡ next_of s c → 0 ≡ answer
  status-end e = sym (ap status_of (turn s c (sym e))) ∙ inv

  pub status-malformed : Malformed ≡ next_of s c → 10036 ≡ answer
  status-malformed e = sym (ap status_of (turn s c (sym e))) ∙ inv

-- of a body: that of its statistics records, from where they begin
pub status-whole : (s : List ℕ) {c : Cursor} → c ≡ statistics_start s → status_of (statistics_from s c) ≡ status_of (report_of s)
status-whole s e = ap (λ (x : Cursor). status_of (statistics_from s x)) e ∙ ap status_of (begins s) ∙ statistics-status (report_of s)

-- ---- the walk as a list: the records that the steps from a cursor on give, where they end well, are those of the report
visits : (s : List ℕ) {c : Cursor} {ys : List Statistic} → Walk s c ys → statistics_from s c ≡ report.Whole [] ys
visits s {c} (ends e) = turn s c e
visits s {c} (gives e w) = turn s c e ∙ ap (counting (statistic_at s c)) (visits s w)

pub visits-all : (s : List ℕ) {ys : List Statistic} → Walk s (statistics_start s) ys → without_errors (report_of s) ≡ report.Whole [] ys
visits-all s w = sym (begins s) ∙ visits s w

-- and the records of a report that is whole are walked to their end
same_rest : (y : Statistic) (p : Report) (ys : List Statistic) (P : List Statistic → Type 0) → counting y p ≡ report.Whole [] ys
    → ((zs : List Statistic) → p ≡ report.Whole [] zs → P (y ∷ zs)) → P ys
same_rest y (report.Whole xs zs) ys P e k =
    let q : y ∷ zs ≡ ys = cc in
    let z : xs ≡ [] = cc in
    rw q at (k zs (ap (λ (x : List DeviceError). report.Whole x zs) z))
same_rest y report.Malformed ys P e k = let z : ◌≡◌ {A = ℕ} 0 1 = cc in absurd (omega arith)

step-on : (n : ℕ) (s : List ℕ) (c : Cursor) (ys : List Statistic) → length s - c.at < suc n → statistics_from s c ≡ report.Whole [] ys
    → ((next : Cursor) (zs : List Statistic) → length s - next.at < n → statistics_from s next ≡ report.Whole [] zs → Walk s next zs)
    → (t : Item) → next_of s c ≡ t → Walk s c ys
step-on n s c ys h e go (Given hi lo rd wr next) q =
    let f = goes-forward s c q in
    same_rest (statistic_at s c) (statistics_from s next) ys (Walk s c) (sym (turn s c q) ∙ e) (λ zs r. gives q (go next zs (omega arith) r))
step-on n s c ys h e go End q =
    let z : [] ≡ ys = cc (turn s c q) in
    rw z at (ends {c = c} q)
step-on n s c ys h e go Malformed q = let z : ◌≡◌ {A = ℕ} 0 1 = cc (turn s c q) in absurd (omega arith)

walked : (n : ℕ) (s : List ℕ) (c : Cursor) (ys : List Statistic) → length s - c.at < n → statistics_from s c ≡ report.Whole [] ys → Walk s c ys
walked zero s c ys h e = absurd (omega arith)
walked (suc n) s c ys h e = step-on n s c ys h e (λ next zs. walked n s next zs) (next_of s c) refl

pub all-visited : (s : List ℕ) {ys : List Statistic} → without_errors (report_of s) ≡ report.Whole [] ys → Walk s (statistics_start s) ys
all-visited s {ys} e = walked (suc (length s - (statistics_start s).at)) s (statistics_start s) ys (omega arith) (begins s ∙ e)
