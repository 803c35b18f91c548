-- Lists of nodes.
use Rattle.std.proofs.Common.{◌≡◌, ℕ, ◌+◌, ◌-◌, ◌<◌, ◌≤◌, max, zero, suc, List, [], ◌∷◌, ◌++◌, length, get_or, set}
use Rattle.std.proofs.Common.{arith, take}
use Rattle.std.proofs.Common.{length-append}
use Rattle.std.proofs.lemmas.List.{get_or_read, length-set, length-take-le}
use Rattle.of_nodes.specs.declared.tree.Node.{Node}
use Rattle.of_nodes.specs.Nodes.{AreNodes, AreRooted, most_nodes, new_node, node_at, parent_in}

pub rooted_push : (k : ℕ) (ns : List Node) (n : Node) → AreRooted k ns → n.parent < max 1 (k + length ns)
    → AreRooted k (ns ++ n ∷ [])
rooted_push k [] n h l = (omega arith, tt)
rooted_push k (m ∷ ns) n h l = (h.0, rooted_push (suc k) ns n h.1 (omega arith))

pub rooted_more :
    (ns : List Node) (n : Node) → AreRooted 0 ns → n.parent < max 1 (length ns) → AreRooted 0 (ns ++ n ∷ [])
rooted_more ns n h l = rooted_push 0 ns n h (omega (arith, l))

pub added : (ns : List Node) (n : Node) → AreNodes ns → n.parent < max 1 (length ns) → length ns < most_nodes
    → AreNodes (ns ++ n ∷ [])
added ns n h l few = record {
  rooted = rooted_push 0 ns n h.rooted (omega arith);
  three = rw length-append (let t = h.three in omega (arith, t));
  few = rw length-append (omega arith);
}

-- without the nodes from a number on
rooted_take : (k : ℕ) (ns : List Node) (n : ℕ) → AreRooted k ns → AreRooted k (take n ns)
rooted_take k ns zero h = tt
rooted_take k [] (suc n) h = tt
rooted_take k (m ∷ ns) (suc n) h = (h.0, rooted_take (suc k) ns n h.1)

pub taken_back : (ns : List Node) → AreNodes ns → 3 < length ns → AreNodes (take (length ns - 1) ns)
taken_back ns h l = record {
  rooted = rooted_take 0 ns (length ns - 1) h.rooted;
  three = rw (length-take-le (length ns - 1) ns (omega arith)) (omega arith);
  few = rw (length-take-le (length ns - 1) ns (omega arith)) (let f = h.few in omega (arith, f));
}

-- a node that was read
pub node_read : (ns : List Node) (i : ℕ) (n : Node) → i < length ns → n ≡ get_or ns i n → n ≡ node_at ns i
node_read ns i n l e = get_or_read ns i n l e (new_node 0)

-- a node that was changed, but not the one above it
rooted_set : (k : ℕ) (ns : List Node) (i : ℕ) (n : Node) → AreRooted k ns → n.parent ≡ parent_in ns i
    → AreRooted k (set ns i n)
rooted_set k [] i n h e = h
rooted_set k (m ∷ ns) zero n h e = (rw e h.0, h.1)
rooted_set k (m ∷ ns) (suc i) n h e = (h.0, rooted_set (suc k) ns i n h.1 e)

pub changed : (ns : List Node) (i : ℕ) (n : Node) → AreNodes ns → n.parent ≡ parent_in ns i → AreNodes (set ns i n)
changed ns i n h e = record {
  rooted = rooted_set 0 ns i n h.rooted e;
  three = rw (length-set ns i n) h.three;
  few = rw (length-set ns i n) h.few;
}

-- a node's parent stands before it
parent_before : (k : ℕ) (ns : List Node) (i : ℕ) → AreRooted k ns → i < length ns → parent_in ns i < max 1 (k + i)
parent_before k [] i h l = absurd (omega arith)
parent_before k (n ∷ ns) zero h l = omega (arith, h.0)
parent_before k (n ∷ ns) (suc i) h l =
    let r : parent_in ns i < max 1 (suc k + i) = parent_before (suc k) ns i h.1 (omega arith) in omega arith

pub parent_small : (ns : List Node) (i : ℕ) → AreNodes ns → i < length ns → parent_in ns i < most_nodes
parent_small ns i h l = let r = parent_before 0 ns i h.rooted l in omega (arith, r, h.few)

pub parent_within : (ns : List Node) (i : ℕ) → AreNodes ns → i < length ns → parent_in ns i < length ns
parent_within ns i h l = let r = parent_before 0 ns i h.rooted l in omega (arith, r)

pub parent_older : (ns : List Node) (i : ℕ) → AreNodes ns → i < length ns → 1 ≤ i → parent_in ns i < i
parent_older ns i h l one = let r = parent_before 0 ns i h.rooted l in omega (arith, r, one)
