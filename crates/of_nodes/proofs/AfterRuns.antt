-- The law `after_runs`.
use Rattle.std.proofs.Common.{◌≡◌, ℕ, zero, suc, ◌+◌, ◌<◌, ◌≤◌, ◌==◌, Bool, true, false, List, [], ◌∷◌, ◌++◌}
use Rattle.std.proofs.Common.{length, drop, Option, Some, None, Result, Ok, if◌then◌else◌, refl, ap, sym}
use Rattle.std.proofs.Common.{◌∙◌, arith}
use Rattle.std.specs.Option.{option_or}
use Rattle.of_nodes.specs.declared.tree.Node.{Node}
use Rattle.of_nodes.specs.declared.phandles.Phandle.{Phandle}
use Rattle.of_nodes.specs.declared.fault.NodeFault.{NodeFault}
use Rattle.of_nodes.specs.Nodes.{AreNodes, after_found, behind_in, by_phandle, child_from}
use Rattle.of_nodes.specs.Nodes.{number_of, parent_in, phandle_in, phandle_of}
use Rattle.of_nodes.specs.Preorder.{AfterRuns, numbers_of}
use Rattle.of_nodes.specs.Tree.{AreShown, IsShown, Nobody, Sibling, Siblings, below, oldest, tree_of}
use Rattle.of_nodes.proofs.NodesByPhandle.{by_number, numbered_is, ok_is}
use Rattle.of_nodes.proofs.MethodsAreFound.{number_within}
use Rattle.of_nodes.proofs.PathPieces.{nonzero}
use Rattle.of_nodes.proofs.PropertiesAreFound.{exact}
use Rattle.of_nodes.proofs.NodeLists.{parent_older}
use Rattle.of_nodes.proofs.TreeIsShownCalls.{shown}

-- ---- numbers one after the other

-- the first of some numbers, or what there is without them
abbrev first_or : List ℕ → Option ℕ → Option ℕ
first_or [] b = b
first_or (i ∷ is) b = Some i

-- `after` goes from each of these numbers to the next, and from the last to b
abbrev Follows : List Node → List ℕ → Option ℕ → Type 0
Follows ns [] b = Unit {0}
Follows ns (i ∷ is) b = (after_found ns (phandle_of i) ≡ Ok (phandle_in (first_or is b))) × Follows ns is b

first_both : (xs ys : List ℕ) (b : Option ℕ) → first_or (xs ++ ys) b ≡ first_or xs (first_or ys b)
first_both [] ys b = refl
first_both (x ∷ xs) ys b = refl

follows_both : (xs : List ℕ) (ns : List Node) (ys : List ℕ) (b : Option ℕ) → Follows ns xs (first_or ys b)
    → Follows ns ys b → Follows ns (xs ++ ys) b
follows_both [] ns ys b f g = g
follows_both (x ∷ xs) ns ys b f g =
    (f.0 ∙ ap (λ (o : Option ℕ). Ok (phandle_in o)) (sym (first_both xs ys b)), follows_both xs ns ys b f.1 g)

next_of : (xs : List ℕ) (ns : List Node) (i j : ℕ) (ys : List ℕ) (b : Option ℕ) → Follows ns (xs ++ i ∷ j ∷ ys) b
    → after_found ns (phandle_of i) ≡ Ok (Some (phandle_of j))
next_of [] ns i j ys b f = f.0
next_of (x ∷ xs) ns i j ys b f = next_of xs ns i j ys b f.1

last_of : (xs : List ℕ) (ns : List Node) (i : ℕ) (b : Option ℕ) → Follows ns (xs ++ i ∷ []) b
    → after_found ns (phandle_of i) ≡ Ok (phandle_in b)
last_of [] ns i b f = f.0
last_of (x ∷ xs) ns i b f = last_of xs ns i b f.1

-- ---- what stands behind all that is below a node

none_behind : (k : ℕ) (ns : List Node) → behind_in ns k 0 ≡ None
none_behind zero ns = refl
none_behind (suc k) ns = refl

-- the count of levels doesn't matter where it is enough
enough : (n j k p : ℕ) (ns : List Node) → AreNodes ns → p < length ns → p ≤ n → p ≤ j → p ≤ k
    → behind_in ns j p ≡ behind_in ns k p
enough n j k zero ns h l a b c = none_behind j ns ∙ sym (none_behind k ns)
enough zero j k (suc p) ns h l a b c = absurd (omega (arith, a))
enough (suc n) zero k (suc p) ns h l a b c = absurd (omega (arith, b))
enough (suc n) (suc j) zero (suc p) ns h l a b c = absurd (omega (arith, c))
enough (suc n) (suc j) (suc k) (suc p) ns h l a b c =
    let q = parent_in ns (suc p) in
    let peer = child_from (suc p + 1) (drop (suc p + 1) ns) q in
    let older : q < suc p = parent_older ns (suc p) h l (omega arith) in
    let more = nonzero (suc p) (omega arith) in
    let rest = enough n j k q ns h (omega (arith, older, l)) (omega (arith, older, a)) (omega (arith, older, b))
    (omega (arith, older, c)) in
    rw more (ap (option_or peer) rest)

behind_is : (i : ℕ) (ns : List Node) → AreNodes ns → i < length ns → 1 ≤ i
    → behind_in ns i i
    ≡ option_or (child_from (i + 1) (drop (i + 1) ns) (parent_in ns i)) (behind_in ns (parent_in ns i) (parent_in ns i))
behind_is zero ns h l some = absurd (omega (arith, some))
behind_is (suc i) ns h l some =
    let q = parent_in ns (suc i) in
    let peer = child_from (suc i + 1) (drop (suc i + 1) ns) q in
    let older : q < suc i = parent_older ns (suc i) h l some in
    let more = nonzero (suc i) (omega arith) in
    rw more (ap (option_or peer) (enough i i q q ns h (omega (arith, older, l)) (omega (arith, older))
    (omega (arith, older)) (omega arith)))

-- ---- what the tree shows of a node

same_phandle : (o p : Option ℕ) → phandle_in o ≡ phandle_in p → o ≡ p
same_phandle None None e = refl
same_phandle None (Some j) e = absurd cc
same_phandle (Some i) None e = absurd cc
same_phandle (Some i) (Some j) e =
    let same : phandle_of i ≡ phandle_of j = cc in
    let numbers = ap (λ (p : Phandle). p.0.0) same in
    let is : i ≡ j = omega (arith, numbers) in
    ap Some is

number_is : (ns : List Node) (i : ℕ) (f : ℕ → Result (Option Phandle) NodeFault) (x : Option Phandle)
    → by_phandle ns (phandle_of i) f ≡ Ok x → number_of (length ns) (phandle_of i) ≡ Some i
number_is ns i f x e =
    let there = numbered_is (number_of (length ns) (phandle_of i)) f x e in
    let far = exact (length ns) (phandle_of i) there.0 there.1 in
    let is : there.0 ≡ i = omega (arith, far) in
    there.1 ∙ ap Some is

parent_if : (b : Bool) (i q p : ℕ) → (i == 0) ≡ b
    → (if b then None else Some (phandle_of q)) ≡ Some (phandle_of p) → ((i == 0) ≡ false) × (q ≡ p)
parent_if true i q p h e = absurd cc
parent_if false i q p h e =
    let same : ◌≡◌ {A = Option ℕ} (Some q) (Some p) = same_phandle (Some q) (Some p) e in
    (h, cc)

positive : (i : ℕ) → (i == 0) ≡ false → 1 ≤ i
positive zero h = absurd cc
positive (suc i) h = omega arith

peer_if : (b : Bool) (i : ℕ) (o y : Option ℕ) → (i == 0) ≡ b → b ≡ false
    → (if b then None else phandle_in o) ≡ phandle_in y → o ≡ y
peer_if true i o y h f e = absurd cc
peer_if false i o y h f e = same_phandle o y e

record Stands (ns : List Node) (p i : ℕ) (children younger : Siblings) : Type 0 where
  number : number_of (length ns) (phandle_of i) ≡ Some i
  some : 1 ≤ i
  parent : parent_in ns i ≡ p
  child : child_from 1 (drop 1 ns) i ≡ oldest children
  peer : child_from (i + 1) (drop (i + 1) ns) (parent_in ns i) ≡ oldest younger

stands : (ns : List Node) (p i : ℕ) (properties methods : _) (children younger : Siblings)
    → IsShown ns (Some p) i properties methods children younger → Stands ns p i children younger
stands ns p i properties methods children younger s =
    let number = number_is ns i _ (phandle_in (oldest children)) s.child in
    let above = ok_is _ _ (sym (by_number ns (phandle_of i) i _ number) ∙ s.parent) in
    let parent = parent_if (i == 0) i (parent_in ns i) p refl above in
    let child = ok_is _ _ (sym (by_number ns (phandle_of i) i _ number) ∙ s.child) in
    let peer = ok_is _ _ (sym (by_number ns (phandle_of i) i _ number) ∙ s.peer) in
    record {
      number = number;
      some = positive i parent.0;
      parent = parent.1;
      child = same_phandle (child_from 1 (drop 1 ns) i) (oldest children) child;
      peer = peer_if (i == 0) i (child_from (i + 1) (drop (i + 1) ns) (parent_in ns i)) (oldest younger) refl parent.0
          peer;
    }

first_oldest : (s : Siblings) (b : Option ℕ) → first_or (numbers_of s) b ≡ option_or (oldest s) b
first_oldest Nobody b = refl
first_oldest (Sibling i properties methods children younger) b = refl

-- `after` of a node that has these children, where this stands behind all that is below it
after_is : (ns : List Node) (i : ℕ) (children younger : Siblings) (b : Option ℕ)
    → number_of (length ns) (phandle_of i) ≡ Some i → child_from 1 (drop 1 ns) i ≡ oldest children
    → behind_in ns i i ≡ first_or (numbers_of younger) b
    → after_found ns (phandle_of i) ≡ Ok (phandle_in (first_or (numbers_of children ++ numbers_of younger) b))
after_is ns i children younger b number child behind =
    let o = first_or (numbers_of younger) b in
    let both : option_or (child_from 1 (drop 1 ns) i) (behind_in ns i i) ≡ option_or (oldest children) o =
    ap (λ (c : Option ℕ). option_or c (behind_in ns i i)) child ∙ ap (option_or (oldest children)) behind in
    let list : option_or (oldest children) o ≡ first_or (numbers_of children ++ numbers_of younger) b =
    sym (first_oldest children o) ∙ sym (first_both (numbers_of children) (numbers_of younger) b) in
    by_number ns (phandle_of i) i _ number ∙ ap (λ (x : Option ℕ). Ok (phandle_in x)) (both ∙ list)

follows : (s : Siblings) (ns : List Node) (p : ℕ) (b : Option ℕ) → AreNodes ns → AreShown ns (Some p) s
    → behind_in ns p p ≡ b → Follows ns (numbers_of s) b
follows Nobody ns p b h shows e = tt
follows (Sibling i properties methods children younger) ns p b h shows e =
    let s = stands ns p i properties methods children younger shows.0 in
    let within = number_within (length ns) (phandle_of i) i s.number in
    let above : behind_in ns (parent_in ns i) (parent_in ns i) ≡ b = ap (λ (q : ℕ). behind_in ns q q) s.parent ∙ e in
    let behind : behind_in ns i i ≡ first_or (numbers_of younger) b =
    behind_is i ns h within s.some
    ∙ (ap (λ (o : Option ℕ). option_or o (behind_in ns (parent_in ns i) (parent_in ns i))) s.peer
    ∙ (ap (option_or (oldest younger)) above ∙ sym (first_oldest younger b))) in (
      after_is ns i children younger b s.number s.child behind,
      follows_both (numbers_of children) ns (numbers_of younger) b
          (follows children ns i (first_or (numbers_of younger) b) h shows.1 behind)
          (follows younger ns p b h shows.2 e),
    )

root_follows : (n : Node) (ns : List Node) → AreNodes (n ∷ ns) → AreShown (n ∷ ns) None (tree_of (n ∷ ns))
    → Follows (n ∷ ns) (numbers_of (tree_of (n ∷ ns))) None
root_follows n ns h shows =
    let children = below 0 1 ns in
    let all = n ∷ ns in
    let child = shows.0.child in
    let number = number_is all 0 _ (phandle_in (oldest children)) child in
    let is = same_phandle (child_from 1 (drop 1 all) 0) (oldest children)
    (ok_is _ _ (sym (by_number all (phandle_of 0) 0 _ number) ∙ child)) in (
      after_is all 0 children Nobody None number is refl,
      follows_both (numbers_of children) all [] None (follows children all 0 None h shows.1 refl) tt,
    )

all_follow : (ns : List Node) → AreNodes ns → Follows ns (numbers_of (tree_of ns)) None
all_follow [] h = tt
all_follow (n ∷ ns) h = root_follows n ns h (shown (n ∷ ns) h)

first_is : (ns : List Node) → AreNodes ns → (xs : List ℕ) × (numbers_of (tree_of ns) ≡ 0 ∷ xs)
first_is [] h = absurd (omega (arith, h.three))
first_is (n ∷ ns) h = (numbers_of (below 0 1 ns) ++ [], refl)

pub after_runs : AfterRuns
after_runs = record {
  first = first_is;
  next = λ ns xs ys i j h e.
      let f : Follows ns (xs ++ i ∷ j ∷ ys) None = rw e at (all_follow ns h) in next_of xs ns i j ys None f;
  last = λ ns xs i h e. let f : Follows ns (xs ++ i ∷ []) None = rw e at (all_follow ns h) in last_of xs ns i None f;
}
