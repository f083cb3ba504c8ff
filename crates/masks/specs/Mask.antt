-- DEFINITION. A set of nodes, kept as a number: a node is in it where its binary digit there is 1 (Rules 6.1: nodes 0 to 31).
--     nodes            how many nodes there are
--     has              whether a node is in a set
--     set_of            the set of the nodes that pass a test, below a number of nodes
--     plus, minus      a set with a node, and without it
--     empty, within    whether no node is in a set, and whether each node of one is in another
-- Laws of these, proved once over the node, are in proofs/Laws.antt.
use Rattle.std.specs.Prelude.{ℕ, zero, suc, ◌+◌, ◌*◌, ◌/◌, ◌%◌, ◌^◌, Bool, true, not, cond, ◌&&◌, ◌||◌, eqb}

abbrev pub nodes : ℕ
nodes = 32

abbrev pub digit : ℕ → ℕ → ℕ
digit m k = m / 2 ^ k % 2

unfoldable pub has : ℕ → ℕ → Bool
has m k = eqb (digit m k) 1

-- node 0's digit is the lowest
unfoldable pub set_of : ℕ → (ℕ → Bool) → ℕ
set_of zero test = 0
set_of (suc n) test = set_of n (λ k. test (suc k)) * 2 + cond (test 0) 1 0

-- whether each node below a number passes
unfoldable pub all : ℕ → (ℕ → Bool) → Bool
all zero test = true
all (suc n) test = all n test && test n

unfoldable pub plus : ℕ → ℕ → ℕ
plus m node = set_of nodes (λ k. has m k || eqb k node)

unfoldable pub minus : ℕ → ℕ → ℕ
minus m node = set_of nodes (λ k. has m k && not (eqb k node))

unfoldable pub empty : ℕ → Bool
empty m = all nodes (λ k. not (has m k))

unfoldable pub within : ℕ → ℕ → Bool
within m n = all nodes (λ k. not (has m k) || has n k)
