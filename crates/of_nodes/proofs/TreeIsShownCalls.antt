-- The tree that the nodes make, and the calls over it, as `tree_is_shown` has them.
use Rattle.std.proofs.Common.{◌≡◌, ℕ, zero, suc, ◌+◌, ◌-◌, ◌*◌, ◌/◌, ◌%◌, ◌<◌, ◌≤◌, ◌==◌, nat_lt, Bool, true}
use Rattle.std.proofs.Common.{false, List, [], ◌∷◌, length}
use Rattle.std.proofs.Common.{drop, Option, Some, None, Ok, refl, ap, sym, ◌∙◌, arith}
use Rattle.std.proofs.lemmas.Bool.Decides.{nat_tests}
use Rattle.of_nodes.specs.declared.tree.Node.{Node}
use Rattle.of_nodes.specs.Nodes.{AreNodes, AreRooted, child_from, first_phandle, node_at, number_of, parent_in}
use Rattle.of_nodes.specs.Nodes.{phandle_in, phandle_of}
use Rattle.of_nodes.specs.Tree.{AreShown, IsShown, Nobody, below, oldest, tree_of}
use Rattle.of_nodes.proofs.NodesByPhandle.{by_number}

-- the oldest of the nodes with a parent is the first that the calls find
oldest_step :
    (t : Bool) (p i : ℕ) (n : Node) (ns : List Node) → (n.parent == p) ≡ t
    → oldest (below p (suc i) ns) ≡ child_from (suc i) ns p
    → oldest (below p i (n ∷ ns)) ≡ child_from i (n ∷ ns) p
oldest_step true p i n ns h ih = rw h refl
oldest_step false p i n ns h ih = rw h ih

oldest_is : (p i : ℕ) (ns : List Node) → oldest (below p i ns) ≡ child_from i ns p
oldest_is p i [] = refl
oldest_is p i (n ∷ ns) = oldest_step (n.parent == p) p i n ns refl (oldest_is p (suc i) ns)

-- the number of a node that there is
test_false : (i : ℕ) → nat_lt (first_phandle + 4 * i) first_phandle ≡ false
test_false i = grind (arith, nat_tests)

test_true : (k count : ℕ) → k < count → nat_lt k count ≡ true
test_true k count l = grind (arith, nat_tests)

pub number_is : (k count : ℕ) → k < count → number_of count (phandle_of k) ≡ Some k
number_is k count l =
    let distance : first_phandle + 4 * k - first_phandle ≡ 4 * k = omega arith in
    let quarter : 4 * k / 4 ≡ k = omega arith in
    let whole : 4 * k % 4 ≡ 0 = omega arith in
    rw (test_false k, distance, whole, quarter, test_true k count l) refl

-- node k, with those after it
pub record IsAt (full : List Node) (k : ℕ) (n : Node) (ns : List Node) : Type 0 where
  pub node : node_at full k ≡ n
  pub rest : drop (suc k) full ≡ ns
  pub within : k < length full

pub is_at : (full : List Node) (k : ℕ) (n : Node) (ns : List Node) → drop k full ≡ n ∷ ns → IsAt full k n ns
is_at [] zero n ns h = cc
is_at [] (suc k) n ns h = cc
is_at (m ∷ full) zero n ns h = record { node = cc; rest = cc; within = omega arith }
is_at (m ∷ full) (suc k) n ns h =
    let at : IsAt full k n ns = is_at full k n ns h in
    record { node = at.node; rest = at.rest; within = omega (arith, at.within) }

differs : (a b : ℕ) → a < b → (a == b) ≡ false
differs a b l = grind (arith, nat_tests)

-- a node is younger than its parent
skip :
    (d j i : ℕ) (ms : List Node) → 1 ≤ j → AreRooted j ms → j + d ≤ suc i
    → child_from j ms i ≡ child_from (j + d) (drop d ms) i
skip zero j i ms one h l = let same : j + 0 ≡ j = omega arith in rw same refl
skip (suc d) j i [] one h l = refl
skip (suc d) j i (n ∷ ms) one h l =
    let less : n.parent < i = omega (arith, h.0, one, l) in
    let next : j + suc d ≡ suc j + d = omega arith in
    rw (differs n.parent i less, next) (skip d (suc j) i ms (omega (arith, one)) h.1 (omega (arith, l)))

younger :
    (full : List Node) (i : ℕ) → AreRooted 0 full
    → child_from 1 (drop 1 full) i ≡ child_from (suc i) (drop (suc i) full) i
younger [] i h = refl
younger (n ∷ ns) i h =
    let next : 1 + i ≡ suc i = omega arith in
    skip i 1 i ns (omega arith) h.1 (omega arith) ∙ ap (λ (k : ℕ). child_from k (drop i ns) i) next

nonzero : (i : ℕ) → 1 ≤ i → (i == 0) ≡ false
nonzero i h = grind (arith, nat_tests)

pub equal : (a b : ℕ) → (a == b) ≡ true → a ≡ b
equal a b h = grind (arith, nat_tests)

shown_node :
    (full : List Node) (p k : ℕ) (n : Node) (ns : List Node) → AreNodes full → IsAt full k n ns → 1 ≤ k → n.parent ≡ p
    → IsShown full (Some p) k n.properties n.methods (below k (suc k) ns) (below p (suc k) ns)
shown_node full p k n ns h at one e =
    let number : number_of (length full) (phandle_of k) ≡ Some k = number_is k (length full) at.within in
    let above : parent_in full k ≡ p = ap (λ (x : Node). x.parent) at.node ∙ e in
    let next : k + 1 ≡ suc k = omega arith in
    let kids : child_from 1 (drop 1 full) k ≡ oldest (below k (suc k) ns) =
    younger full k h.rooted
    ∙ (ap (λ (l : List Node). child_from (suc k) l k) at.rest ∙ sym (oldest_is k (suc k) ns)) in
    let peers : child_from (k + 1) (drop (k + 1) full) (parent_in full k) ≡ oldest (below p (suc k) ns) =
    rw (next, at.rest, above) (sym (oldest_is p (suc k) ns)) in
    record {
      parent = by_number full (phandle_of k) k _ number ∙ rw (nonzero k one, above) refl;
      child = by_number full (phandle_of k) k _ number ∙ rw kids refl;
      peer = by_number full (phandle_of k) k _ number ∙ rw (nonzero k one, peers) refl;
      same_properties = ap (λ (x : Node). x.properties) (sym at.node);
      same_methods = ap (λ (x : Node). x.methods) (sym at.node);
    }

below_step :
    (t : Bool) (full : List Node) (p k : ℕ) (n : Node) (ns : List Node) → AreNodes full → IsAt full k n ns → 1 ≤ k
    → (n.parent == p) ≡ t → AreShown full (Some k) (below k (suc k) ns) → AreShown full (Some p) (below p (suc k) ns)
    → AreShown full (Some p) (below p k (n ∷ ns))
below_step true full p k n ns h at one e x y = rw e (shown_node full p k n ns h at one (equal n.parent p e), x, y)
below_step false full p k n ns h at one e x y = rw e y

shown_below :
    (full : List Node) (p k : ℕ) (ms : List Node) → AreNodes full → drop k full ≡ ms → 1 ≤ k
    → AreShown full (Some p) (below p k ms)
shown_below full p k [] h d one = tt
shown_below full p k (n ∷ ns) h d one =
    let at : IsAt full k n ns = is_at full k n ns d in
    let more : 1 ≤ suc k = omega (arith, one) in
    below_step (n.parent == p) full p k n ns h at one refl (shown_below full k (suc k) ns h at.rest more)
    (shown_below full p (suc k) ns h at.rest more)

pub shown : (ns : List Node) → AreNodes ns → AreShown ns None (tree_of ns)
shown [] h = tt
shown (n ∷ ns) h =
    let number : number_of (length (n ∷ ns)) (phandle_of 0) ≡ Some 0 = number_is 0 (length (n ∷ ns)) (omega arith) in
    let root : IsShown (n ∷ ns) None 0 n.properties n.methods (below 0 1 ns) Nobody =
    record {
      parent = by_number (n ∷ ns) (phandle_of 0) 0 _ number;
      child = by_number (n ∷ ns) (phandle_of 0) 0 _ number
          ∙ ap (λ (i : Option ℕ). Ok (phandle_in i)) (sym (oldest_is 0 1 ns));
      peer = by_number (n ∷ ns) (phandle_of 0) 0 _ number;
      same_properties = refl;
      same_methods = refl;
    } in
    (root, shown_below (n ∷ ns) 0 1 ns h refl (omega arith), tt)
