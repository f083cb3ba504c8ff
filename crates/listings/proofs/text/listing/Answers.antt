-- listing meets its contract: the text is the input's, and no text is longer than the buffer.
use Rattle.listings.proofs.Texts.{refused-short, accepted-short, whole}
use Rattle.listings.specs.Text.{text_of, listed, Listing, IsPrefixLen}
use Rattle.layouts.specs.declared.kinds.Kind.{Kind}
use Rattle.extents.specs.Verdict.{Accepted, Refused, rule_number}
use Rattle.layouts.proofs.Bodies.{accepted}
use Rattle.layouts.specs.Layout.{row_at, rows_of, check_body}
use Rattle.listings.specs.Text.{accepted_text, refused_text, Put}
use Rattle.statuses.specs.Names.{Bytes}
use Rattle.extents.proofs.Turns.{length-list_from}
use borrow.Author.Tests.{lt-ltb, le-ltb}
use lib.ListN.{length}
use Prim.Native.Nat.{ℕ, ◌<◌, ◌≤◌}
use mathlib.Core.Path.{◌≡◌, sym, ap}
use native.Mathlib.Omega.{arith}
use Rattle.listings.proofs.text.listing.Goals as goal

-- an input that is too long
long : (k : Kind) (s : Bytes) {d e : Bytes} {r : ℕ} → 65536 < length s → 109568 ≤ length d → Put d 0 (refused_text 1 0) e r → Listing k s d e r × IsPrefixLen r e
unfolding listed
long k s h room p = whole k s p room (rw (lt-ltb 65536 (length s) h)) (refused-short 1 0)

-- an accepted body
taken : (k : Kind) (s : Bytes) (n : ℕ) {d e : Bytes} {r : ℕ} → length s ≤ 65536 → 109568 ≤ length d → Accepted n ≡ check_body k s → Put d 0 (accepted_text k n (rows_of k s n)) e r
    → Listing k s d e r × IsPrefixLen r e
unfolding listed
taken k s n h room v p =
    whole k s p room (rw (le-ltb 65536 (length s) h) (ap (λ u. text_of k u s) v))
    (accepted-short k n (rows_of k s n) (omega (arith, length-list_from (row_at k s) n 0, (accepted k s n (sym v)).few)))

-- a refused body
refused : (k : Kind) (s : Bytes) (i j : ℕ) {d e : Bytes} {r : ℕ} → length s ≤ 65536 → 109568 ≤ length d → Refused i j ≡ check_body k s → Put d 0 (refused_text i j) e r
    → Listing k s d e r × IsPrefixLen r e
unfolding listed
refused k s i j h room v p = whole k s p room (rw (le-ltb 65536 (length s) h) (ap (λ u. text_of k u s) v)) (refused-short i j)

pub returns-then-s-gt65536-clause-listing : goal.returns-then-s-gt65536-clause-listing
returns-then-s-gt65536-clause-listing c = (long c.args.kind c.args.s.now (omega arith) (omega arith) (rw c.at.ensures at c.put_refused.ensures)).0

pub returns-then-s-gt65536-clause-prefix_len : goal.returns-then-s-gt65536-clause-prefix_len
returns-then-s-gt65536-clause-prefix_len c = (long c.args.kind c.args.s.now (omega arith) (omega arith) (rw c.at.ensures at c.put_refused.ensures)).1

pub put_accepted-requires : goal.put_accepted-requires
put_accepted-requires c =
    let a = c.args in
    let v = sym c.in-Ok.ensures in
    (omega arith, v, (accepted a.kind a.s.now c.in-Ok.n v).few)

pub returns-in-Ok-clause-listing : goal.returns-in-Ok-clause-listing
returns-in-Ok-clause-listing c = (taken c.args.kind c.args.s.now c.in-Ok.n (omega arith) (omega arith) c.in-Ok.ensures c.put_accepted.ensures).0

pub returns-in-Ok-clause-prefix_len : goal.returns-in-Ok-clause-prefix_len
returns-in-Ok-clause-prefix_len c = (taken c.args.kind c.args.s.now c.in-Ok.n (omega arith) (omega arith) c.in-Ok.ensures c.put_accepted.ensures).1

pub returns-in-Err-clause-listing : goal.returns-in-Err-clause-listing
returns-in-Err-clause-listing c = (refused c.args.kind c.args.s.now (rule_number c.in-Err.refusal.rule) c.in-Err.refusal.place (omega arith) (omega arith) c.in-Err.ensures c.put_refused-in-Err.ensures).0

pub returns-in-Err-clause-prefix_len : goal.returns-in-Err-clause-prefix_len
returns-in-Err-clause-prefix_len c = (refused c.args.kind c.args.s.now (rule_number c.in-Err.refusal.rule) c.in-Err.refusal.place (omega arith) (omega arith) c.in-Err.ensures c.put_refused-in-Err.ensures).1
