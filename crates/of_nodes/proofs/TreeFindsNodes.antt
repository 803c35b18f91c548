-- Components lead to the same node in the tree and over the list of nodes, as `tree_finds` has it.
use Rattle.std.proofs.Common.{◌≡◌, ℕ, zero, suc, ◌+◌, ◌<◌, ◌≤◌, ◌==◌, Bool, true, false, List, [], ◌∷◌, drop, Option}
use Rattle.std.proofs.Common.{Some, None, refl, ap, sym, ◌∙◌, arith}
use Rattle.std.proofs.lemmas.Bool.Decides.{nat_tests}
use Rattle.of_memory.specs.DataSpace.{DataSpace}
use Rattle.of_nodes.specs.declared.tree.Node.{Node}
use Rattle.of_nodes.specs.declared.lookup.Age.{Age}
use Rattle.of_nodes.specs.declared.lookup.Age.TheVariants.{Newest, Oldest}
use Rattle.of_nodes.specs.Asked.{Asked, asked, fits}
use Rattle.of_nodes.specs.Components.{address_cells}
use Rattle.of_nodes.specs.Lookup.{child_for, first, fitting, fitting_children, found, from, last_or, node_of}
use Rattle.of_nodes.specs.Lookup.{package_found, walk}
use Rattle.of_nodes.specs.Nodes.{AreNodes, AreRooted, node_at, phandle_in}
use Rattle.of_nodes.specs.Texts.{components}
use Rattle.of_nodes.specs.Tree.{Nobody, Sibling, Siblings, below, oldest, tree_of}
use Rattle.of_nodes.specs.TreePaths.{from_newest, from_oldest, from_taken, led, node_for, package_for}
use Rattle.of_nodes.proofs.TreeIsShownCalls.{IsAt, is_at}

-- a node is younger than its parent
differs : (a b : ℕ) → a < b → (a == b) ≡ false
differs a b l = grind (arith, nat_tests)

skip :
    (m : DataSpace) (count p : ℕ) (c : Asked) (d j : ℕ) (ns : List Node) → 1 ≤ j → AreRooted j ns → j + d ≤ suc p
    → fitting m count c p j ns ≡ fitting m count c p (j + d) (drop d ns)
skip m count p c zero j ns one h l = let same : j + 0 ≡ j = omega arith in rw same refl
skip m count p c (suc d) j [] one h l = refl
skip m count p c (suc d) j (n ∷ ns) one h l =
    let less : n.parent < p = omega (arith, h.0, one, l) in
    let next : j + suc d ≡ suc j + d = omega arith in
    rw (differs n.parent p less, next) (skip m count p c d (suc j) ns (omega (arith, one)) h.1 (omega (arith, l)))

younger :
    (m : DataSpace) (count p : ℕ) (c : Asked) (full : List Node) → AreRooted 0 full
    → fitting m count c p 1 (drop 1 full) ≡ fitting m count c p (suc p) (drop (suc p) full)
younger m count p c [] h = refl
younger m count p c (n ∷ ns) h =
    let next : 1 + p ≡ suc p = omega arith in
    skip m count p c p 1 ns (omega arith) h.1 (omega arith)
    ∙ ap (λ (k : ℕ). fitting m count c p k (drop p ns)) next

-- the children of a node that fit are among those after it
children :
    (m : DataSpace) (full : List Node) (k : ℕ) (c : List ℕ) (n : Node) (ns : List Node) → AreNodes full
    → drop k full ≡ n ∷ ns → fitting_children m full k c ≡ fitting m (address_cells m n) (asked c) k (suc k) ns
children m full k c n ns h d =
    let at : IsAt full k n ns = is_at full k n ns d in
    younger m (address_cells m (node_at full k)) k (asked c) full h.rooted
    ∙ (ap (λ (x : Node). fitting m (address_cells m x) (asked c) k (suc k) (drop (suc k) full)) at.node
    ∙ ap (λ (l : List Node). fitting m (address_cells m n) (asked c) k (suc k) l) at.rest)

-- of some numbers that which is taken
abbrev taken : Age → List ℕ → Option ℕ
taken Oldest is = first is
taken Newest is = last_or None is

-- from each node the components lead on alike
abbrev Follows : DataSpace → List Node → Age → List (List ℕ) → Type 0
Follows m full age cs =
    (k : ℕ) (n : Node) (ns : List Node) (others : Siblings) → drop k full ≡ n ∷ ns
    → oldest (led m age (Sibling k n.properties n.methods (below k (suc k) ns) others) cs) ≡ walk m full age k cs

nobody : (m : DataSpace) (age : Age) (cs : List (List ℕ)) → oldest (led m age Nobody cs) ≡ None
nobody m age [] = refl
nobody m age (c ∷ cs) = refl

module _ (m : DataSpace) (full : List Node) (count p : ℕ) (c : Asked) (cs : List (List ℕ)) where
  oldest_step :
      (t u : Bool) (k : ℕ) (n : Node) (ns : List Node) → Follows m full Oldest cs → drop k full ≡ n ∷ ns
      → (n.parent == p) ≡ t → fits m count n c ≡ u
      → oldest (led m Oldest (from_oldest m count c (below p (suc k) ns)) cs)
      ≡ from (first (fitting m count c p (suc k) ns)) (λ j. walk m full Oldest j cs)
      → oldest (led m Oldest (from_oldest m count c (below p k (n ∷ ns))) cs)
      ≡ from (first (fitting m count c p k (n ∷ ns))) (λ j. walk m full Oldest j cs)
  oldest_step true true k n ns f d e g ih = rw (e, g) (f k n ns (below p (suc k) ns) d)
  oldest_step true false k n ns f d e g ih = rw (e, g) ih
  oldest_step false u k n ns f d e g ih = rw e ih

  among_oldest :
      (k : ℕ) (ns : List Node) → Follows m full Oldest cs → drop k full ≡ ns
      → oldest (led m Oldest (from_oldest m count c (below p k ns)) cs)
      ≡ from (first (fitting m count c p k ns)) (λ j. walk m full Oldest j cs)
  among_oldest k [] f d = nobody m Oldest cs
  among_oldest k (n ∷ ns) f d =
      let at : IsAt full k n ns = is_at full k n ns d in
      oldest_step (n.parent == p) (fits m count n c) k n ns f d refl refl (among_oldest (suc k) ns f at.rest)

  newest_step :
      (t u : Bool) (k : ℕ) (n : Node) (ns : List Node) (o : Option ℕ) (others : Siblings) → Follows m full Newest cs
      → drop k full ≡ n ∷ ns → (n.parent == p) ≡ t → fits m count n c ≡ u
      → oldest (led m Newest others cs) ≡ from o (λ j. walk m full Newest j cs)
      → ((r : Option ℕ) (found : Siblings) → oldest (led m Newest found cs) ≡ from r (λ j. walk m full Newest j cs)
      → oldest (led m Newest (from_newest m count c found (below p (suc k) ns)) cs)
      ≡ from (last_or r (fitting m count c p (suc k) ns)) (λ j. walk m full Newest j cs))
      → oldest (led m Newest (from_newest m count c others (below p k (n ∷ ns))) cs)
      ≡ from (last_or o (fitting m count c p k (n ∷ ns))) (λ j. walk m full Newest j cs)
  newest_step true true k n ns o others f d e g h ih =
      rw (e, g) (ih (Some k) (Sibling k n.properties n.methods (below k (suc k) ns) (below p (suc k) ns))
      (f k n ns (below p (suc k) ns) d))
  newest_step true false k n ns o others f d e g h ih = rw (e, g) (ih o others h)
  newest_step false u k n ns o others f d e g h ih = rw e (ih o others h)

  among_newest :
      (k : ℕ) (ns : List Node) (o : Option ℕ) (others : Siblings) → Follows m full Newest cs → drop k full ≡ ns
      → oldest (led m Newest others cs) ≡ from o (λ j. walk m full Newest j cs)
      → oldest (led m Newest (from_newest m count c others (below p k ns)) cs)
      ≡ from (last_or o (fitting m count c p k ns)) (λ j. walk m full Newest j cs)
  among_newest k [] o others f d h = h
  among_newest k (n ∷ ns) o others f d h =
      let at : IsAt full k n ns = is_at full k n ns d in
      newest_step (n.parent == p) (fits m count n c) k n ns o others f d refl refl h
      (λ r found. among_newest (suc k) ns r found f at.rest)

  among :
      (age : Age) (k : ℕ) (ns : List Node) → Follows m full age cs → drop k full ≡ ns
      → oldest (led m age (from_taken m age count c (below p k ns)) cs)
      ≡ from (taken age (fitting m count c p k ns)) (λ j. walk m full age j cs)
  among Oldest k ns f d = among_oldest k ns f d
  among Newest k ns f d = among_newest k ns None Nobody f d (nobody m Newest cs)

child_is :
    (m : DataSpace) (full : List Node) (age : Age) (k : ℕ) (c : List ℕ)
    → child_for m full age k c ≡ taken age (fitting_children m full k c)
child_is m full Oldest k c = refl
child_is m full Newest k c = refl

follows : (m : DataSpace) (full : List Node) (age : Age) (cs : List (List ℕ)) → AreNodes full → Follows m full age cs
follows m full age [] h k n ns others d = refl
follows m full age (c ∷ cs) h k n ns others d =
    let at : IsAt full k n ns = is_at full k n ns d in
    let same : child_for m full age k c ≡ taken age (fitting m (address_cells m n) (asked c) k (suc k) ns) =
    child_is m full age k c ∙ ap (taken age) (children m full k c n ns h d) in
    among m full (address_cells m n) k (asked c) cs age (suc k) ns (follows m full age cs h) at.rest
    ∙ ap (λ (r : Option ℕ). from r (λ j. walk m full age j cs)) (sym same)

-- so from the root
node_step :
    (t : Bool) (m : DataSpace) (n : Node) (ns : List Node) (b : ℕ) (text : List ℕ) → AreNodes (n ∷ ns)
    → (b == 47) ≡ t → node_of m (n ∷ ns) (b ∷ text) ≡ node_for m (tree_of (n ∷ ns)) (b ∷ text)
node_step true m n ns b text h e = rw e (sym (follows m (n ∷ ns) Oldest (components text) h 0 n ns Nobody refl))
node_step false m n ns b text h e = rw e refl

node_same :
    (m : DataSpace) (ns : List Node) (path : List ℕ) → AreNodes ns → node_of m ns path ≡ node_for m (tree_of ns) path
node_same m ns [] h = refl
node_same m [] (b ∷ text) h = let t = h.three in absurd (omega (arith, t))
node_same m (n ∷ ns) (b ∷ text) h = node_step (b == 47) m n ns b text h refl

pub find : (m : DataSpace) (ns : List Node) (path : List ℕ) → AreNodes ns
    → found m ns path ≡ phandle_in (node_for m (tree_of ns) path)
find m ns path h = ap phandle_in (node_same m ns path h)

-- the second node is the root's oldest child
package_step :
    (m : DataSpace) (n a : Node) (ns : List Node) (text : List ℕ) → AreNodes (n ∷ a ∷ ns) → (a.parent == 0) ≡ true
    → walk m (n ∷ a ∷ ns) Newest 1 (components text) ≡ package_for m (tree_of (n ∷ a ∷ ns)) text
package_step m n a ns text h e =
    rw e (sym (follows m (n ∷ a ∷ ns) Newest (components text) h 1 a ns (below 0 2 ns) refl))

equals : (a b : ℕ) → a ≡ b → (a == b) ≡ true
equals a b h = grind (arith, nat_tests)

package_same :
    (m : DataSpace) (ns : List Node) (text : List ℕ) → AreNodes ns
    → walk m ns Newest 1 (components text) ≡ package_for m (tree_of ns) text
package_same m [] text h = let t = h.three in absurd (omega (arith, t))
package_same m (n ∷ []) text h = let t = h.three in absurd (omega (arith, t))
package_same m (n ∷ a ∷ ns) text h =
    let below_root : a.parent ≡ 0 = omega (arith, h.rooted.1.0) in
    package_step m n a ns text h (equals a.parent 0 below_root)

pub find_package : (m : DataSpace) (ns : List Node) (text : List ℕ) → AreNodes ns
    → package_found m ns text ≡ phandle_in (package_for m (tree_of ns) text)
find_package m ns text h = ap phandle_in (package_same m ns text h)
