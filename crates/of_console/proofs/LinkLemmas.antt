-- The links between the nodes of the device tree, and what stands behind each in preorder.
use Rattle.std.proofs.Common.{◌≡◌, ◌≢◌, ℕ, zero, suc, ◌+◌, ◌-◌, ◌<◌, ◌≤◌, ◌==◌, max, true, false, nat_eq}
use Rattle.std.proofs.Common.{List, [], ◌∷◌, ◌++◌, length, drop, get_or, set, replicate, Option, Some, None, Result, Ok}
use Rattle.std.proofs.Common.{if◌then◌else◌, refl, sym, ap, subst, ◌∙◌, arith, ◌⊎◌, inl, inr}
use Rattle.std.proofs.lemmas.Bool.{lt-ltb}
use Rattle.std.proofs.Math.Seq.{drop-cons, drop-length}
use Rattle.std.proofs.lemmas.Bool.Decides.{eqb_tells, nat_tests}
use Rattle.std.proofs.lemmas.List.{get_or_read, get_or-replicate, length-append, get_or-set_same, get_or-set_other}
use Rattle.std.proofs.lemmas.List.{length-replicate, length-set}
use Rattle.std.specs.Option.{option_or}
use Rattle.of_nodes.specs.declared.tree.Node.{Node}
use Rattle.of_nodes.specs.declared.phandles.Phandle.{Phandle}
use Rattle.of_nodes.specs.declared.fault.NodeFault.{NodeFault}
use Rattle.of_nodes.specs.Nodes.{AreNodes, AreRooted, behind_in, child_from, new_node}
use Rattle.of_nodes.specs.Nodes.{numbered, parent_found, parent_in, phandle_of}
use Rattle.of_console.specs.Links.{AreLinked, AreNext, behind_of, next_in}
use Rattle.of_console.proofs.NodeTexts.{number_is}

-- ---- the node above

-- a node's parent stands before it
parent_before : (k : ℕ) (ns : List Node) (i : ℕ) → AreRooted k ns → i < length ns → parent_in ns i < max 1 (k + i)
parent_before k [] i h l = absurd (omega (arith, l))
parent_before k (n ∷ ns) zero h l = omega (arith, h.0)
parent_before k (n ∷ ns) (suc i) h l =
    let r : parent_in ns i < max 1 (suc k + i) = parent_before (suc k) ns i h.1 (omega arith) in omega arith

pub parent_older : (ns : List Node) (i : ℕ) → AreNodes ns → i < length ns → 1 ≤ i → parent_in ns i < i
parent_older ns i h l one = let r = parent_before 0 ns i h.rooted l in omega (arith, r, one)

-- ---- what stands behind all that is below a node

none_behind : (k : ℕ) (ns : List Node) → behind_in ns k 0 ≡ None
none_behind zero ns = refl
none_behind (suc k) ns = refl

nonzero : (i : ℕ) → 1 ≤ i → (i == 0) ≡ false
nonzero i one = grind (arith, nat_tests)

-- the count of levels doesn't matter where it is enough
enough : (n j k p : ℕ) (ns : List Node) → AreNodes ns → p < length ns → p ≤ n → p ≤ j → p ≤ k
    → behind_in ns j p ≡ behind_in ns k p
enough n j k zero ns h l a b c = none_behind j ns ∙ sym (none_behind k ns)
enough zero j k (suc p) ns h l a b c = absurd (omega (arith, a))
enough (suc n) zero k (suc p) ns h l a b c = absurd (omega (arith, b))
enough (suc n) (suc j) zero (suc p) ns h l a b c = absurd (omega (arith, c))
enough (suc n) (suc j) (suc k) (suc p) ns h l a b c =
    let q = parent_in ns (suc p) in
    let peer = child_from (suc p + 1) (drop (suc p + 1) ns) q in
    let older : q < suc p = parent_older ns (suc p) h l (omega arith) in
    let rest = enough n j k q ns h (omega (arith, older, l)) (omega (arith, older, a)) (omega (arith, older, b))
    (omega (arith, older, c)) in
    let more = nonzero (suc p) (omega arith) in
    rw more (ap (option_or peer) rest)

-- ---- linking a node

next_of : (k : ℕ) → k + 1 ≡ suc k
next_of k = omega arith

-- the first child from a number on
first_child : (ns : List Node) (k p : ℕ) → k < length ns
    → child_from k (drop k ns) p ≡ (if parent_in ns k == p then Some k else child_from (k + 1) (drop (k + 1) ns) p)
first_child ns k p l =
    ap (λ rest. child_from k rest p) (drop-cons ns k (new_node 0) l)
    ∙ ap (λ j. if parent_in ns k == p then Some k else child_from j (drop j ns) p) (sym (next_of k))

-- nothing is linked yet
pub none_linked : (ns : List Node) (oldest younger : List (Option ℕ)) → 3 ≤ length ns
    → oldest ≡ replicate (length ns) None → younger ≡ replicate (length ns) None
    → AreLinked ns (length ns) oldest younger
none_linked ns oldest younger three o y =
    let n = length ns in
    let none : Option ℕ = None in
    let size : length (replicate n none) ≡ n = length-replicate n none in
    record {
      parents = ap length o ∙ size;
      children = ap length y ∙ size;
      root = ap (λ xs. get_or xs 0 None) y ∙ get_or-replicate n 0 None None (omega (arith, three));
      child = λ i l. ap (λ xs. get_or xs i None) o ∙ get_or-replicate n i None None l
          ∙ sym (ap (λ rest. child_from n rest i) (drop-length ns));
      peer = λ i a l. absurd (omega (arith, a, l));
    }

child_linked : (ns : List Node) (k i : ℕ) (oldest : List (Option ℕ))
    → ((nat_eq (parent_in ns k) i ≡ true) × (parent_in ns k ≡ i))
    ⊎ ((nat_eq (parent_in ns k) i ≡ false) × (parent_in ns k ≢ i))
    → k < length ns → i < length oldest → get_or oldest i None ≡ child_from (k + 1) (drop (k + 1) ns) i
    → get_or (set oldest (parent_in ns k) (Some k)) i None ≡ child_from k (drop k ns) i
child_linked ns k i oldest (inl same) l within old =
    let now : get_or (set oldest (parent_in ns k) (Some k)) i None ≡ Some k =
    subst (λ p. get_or (set oldest p (Some k)) i None ≡ Some k) (sym same.1)
    (get_or-set_same oldest i (Some k) None within) in
    now ∙ sym (first_child ns k i l ∙ ap (λ b. if b then Some k else child_from (k + 1) (drop (k + 1) ns) i) same.0)
child_linked ns k i oldest (inr other) l within old =
    get_or-set_other oldest (parent_in ns k) i (Some k) None (λ e. other.1 (sym e)) ∙ old
    ∙ sym (first_child ns k i l ∙ ap (λ b. if b then Some k else child_from (k + 1) (drop (k + 1) ns) i) other.0)

peer_linked : (ns : List Node) (k i : ℕ) (younger : List (Option ℕ)) (found : Option ℕ)
    → ((nat_eq k i ≡ true) × (k ≡ i)) ⊎ ((nat_eq k i ≡ false) × (k ≢ i))
    → i < length younger → found ≡ child_from (k + 1) (drop (k + 1) ns) (parent_in ns k)
    → (k + 1 ≤ i → get_or younger i None ≡ child_from (i + 1) (drop (i + 1) ns) (parent_in ns i))
    → k ≤ i → get_or (set younger k found) i None ≡ child_from (i + 1) (drop (i + 1) ns) (parent_in ns i)
peer_linked ns k i younger found (inl same) within new old a =
    subst (λ j. get_or (set younger k found) j None ≡ child_from (j + 1) (drop (j + 1) ns) (parent_in ns j)) same.1
    (get_or-set_same younger k found None (subst (λ j. j < length younger) (sym same.1) within) ∙ new)
peer_linked ns k i younger found (inr other) within new old a =
    get_or-set_other younger k i found None (λ e. other.1 (sym e)) ∙ old (omega (arith, a, other.1))

-- one more node is linked
pub more_linked : (ns : List Node) (k : ℕ) (oldest younger : List (Option ℕ)) (found : Option ℕ)
    → AreNodes ns → AreLinked ns (k + 1) oldest younger → 1 ≤ k → k < length ns
    → found ≡ get_or oldest (parent_in ns k) None
    → AreLinked ns k (set oldest (parent_in ns k) (Some k)) (set younger k found)
more_linked ns k oldest younger found nodes links one l e =
    let p = parent_in ns k in
    let older : p < k = parent_older ns k nodes l one in
    record {
      parents = length-set oldest p (Some k) ∙ links.parents;
      children = length-set younger k found ∙ links.children;
      root = get_or-set_other younger k 0 found None (λ e0. omega (arith, one, e0)) ∙ links.root;
      child = λ i m. child_linked ns k i oldest (eqb_tells p i) l (subst (λ n. i < n) (sym links.parents) m)
          (links.child i m);
      peer = λ i a m. peer_linked ns k i younger found (eqb_tells k i) (subst (λ n. i < n) (sym links.children) m)
          (e ∙ links.child p (omega (arith, older, l))) (λ b. links.peer i b m) a;
    }

-- a turn of the loop that links the nodes
pub turned : (ns : List Node) (number parent : ℕ) (oldest younger : List (Option ℕ)) (found : Option ℕ)
    → AreNodes ns → AreLinked ns number oldest younger → 1 < number → number ≤ length ns
    → Some parent ≡ (if number - 1 == 0 then None else Some (parent_in ns (number - 1)))
    → found ≡ get_or oldest parent found
    → AreLinked ns (number - 1) (set oldest parent (Some (number - 1))) (set younger (number - 1) found)
turned ns number parent oldest younger found nodes links more all is read =
    let k = number - 1 in
    let one : 1 ≤ k = omega (arith, more) in
    let l : k < length ns = omega (arith, more, all) in
    let both : Some parent ≡ Some (parent_in ns k) =
    is ∙ ap (λ b. if b then None else Some (parent_in ns k)) (nonzero k one) in
    let same : parent ≡ parent_in ns k = cc in
    let older : parent_in ns k < k = parent_older ns k nodes l one in
    let within : parent < length oldest = omega (arith, same, older, l, links.parents) in
    let number_is : number ≡ k + 1 = omega (arith, more) in
    let from : AreLinked ns (k + 1) oldest younger = subst (λ n. AreLinked ns n oldest younger) number_is links in
    let none : Option ℕ = None in
    let got : found ≡ get_or oldest (parent_in ns k) none =
    get_or_read oldest parent found within read none ∙ ap (λ p. get_or oldest p none) same in
    subst (λ p. AreLinked ns k (set oldest p (Some k)) (set younger k found)) (sym same)
    (more_linked ns k oldest younger found nodes from one l got)

-- ---- what each is followed by

-- the nodes before a number have what stands behind all that is below them, and what they are followed by
pub record AreDone (ns : List Node) (k : ℕ) (behind next : List (Option ℕ)) : Type 0 where
  pub all_behind : length behind ≡ k
  pub all_next : length next ≡ k
  pub behind_each : (i : ℕ) → i < k → get_or behind i None ≡ behind_in ns i i
  pub next_each : (i : ℕ) → i < k → get_or next i None ≡ next_in ns i

pub none_done : (ns : List Node) (behind next : List (Option ℕ)) → behind ≡ [] → next ≡ [] → AreDone ns 0 behind next
none_done ns behind next b n = record {
  all_behind = ap length b;
  all_next = ap length n;
  behind_each = λ i l. absurd (omega (arith, l));
  next_each = λ i l. absurd (omega (arith, l));
}

behind_next : (ns : List Node) (k : ℕ) → AreNodes ns → k < length ns → 1 ≤ k
    → behind_in ns k k
    ≡ option_or (child_from (k + 1) (drop (k + 1) ns) (parent_in ns k)) (behind_in ns (parent_in ns k) (parent_in ns k))
behind_next ns zero h l some = absurd (omega (arith, some))
behind_next ns (suc k) h l some =
    let q = parent_in ns (suc k) in
    let peer = child_from (suc k + 1) (drop (suc k + 1) ns) q in
    let older : q < suc k = parent_older ns (suc k) h l some in
    rw (nonzero (suc k) some) (ap (option_or peer)
    (enough k k q q ns h (omega (arith, older, l)) (omega (arith, older)) (omega (arith, older)) (omega arith)))

behind_or : (c : Option ℕ) (p : ℕ) (behind : List (Option ℕ))
    → behind_of c (Some p) behind ≡ option_or c (get_or behind p None)
behind_or None p behind = refl
behind_or (Some i) p behind = refl

-- what stands behind the node at hand
pub behind_here : (ns : List Node) (k : ℕ) (oldest younger behind next : List (Option ℕ)) (peer parent : Option ℕ)
    → AreNodes ns → AreLinked ns 1 oldest younger → AreDone ns k behind next → k < length ns
    → parent ≡ (if k == 0 then None else Some (parent_in ns k)) → peer ≡ get_or younger k peer
    → behind_of peer parent behind ≡ behind_in ns k k
behind_here ns zero oldest younger behind next peer parent nodes links done l is read =
    let none : Option ℕ = None in
    let got : peer ≡ none =
    get_or_read younger 0 peer (omega (arith, l, links.children)) read none ∙ links.root in
    ap (λ c. behind_of c parent behind) got ∙ ap (λ p. behind_of none p behind) is
behind_here ns (suc k) oldest younger behind next peer parent nodes links done l is read =
    let none : Option ℕ = None in
    let p = parent_in ns (suc k) in
    let one : 1 ≤ suc k = omega arith in
    let older : p < suc k = parent_older ns (suc k) nodes l one in
    let above : parent ≡ Some p = is ∙ ap (λ b. if b then None else Some p) (nonzero (suc k) one) in
    let c = child_from (suc k + 1) (drop (suc k + 1) ns) p in
    let got : peer ≡ c =
    get_or_read younger (suc k) peer (omega (arith, l, links.children)) read none ∙ links.peer (suc k) one l in
    ap (λ x. behind_of x parent behind) got ∙ ap (λ x. behind_of c x behind) above ∙ behind_or c p behind
    ∙ ap (option_or c) (done.behind_each p older) ∙ sym (behind_next ns (suc k) nodes l one)

pushed_each : (xs : List (Option ℕ)) (k : ℕ) (x : Option ℕ) (f : ℕ → Option ℕ) → length xs ≡ k
    → ((i : ℕ) → i < k → get_or xs i None ≡ f i) → x ≡ f k
    → (i : ℕ) → i < suc k → get_or (xs ++ x ∷ []) i None ≡ f i
pushed_each [] zero x f size each e zero l = e
pushed_each [] zero x f size each e (suc i) l = absurd (omega (arith, l))
pushed_each [] (suc k) x f size each e i l = absurd (omega (arith, size))
pushed_each (y ∷ xs) zero x f size each e i l = absurd (omega (arith, size))
pushed_each (y ∷ xs) (suc k) x f size each e zero l = each 0 (omega arith)
pushed_each (y ∷ xs) (suc k) x f size each e (suc i) l =
    pushed_each xs k x (λ j. f (suc j)) (omega (arith, size)) (λ j m. each (suc j) (omega (arith, m))) e i
    (omega (arith, l))

-- one more node is done
pub more_done : (ns : List Node) (k : ℕ) (behind next : List (Option ℕ)) (after found : Option ℕ)
    → AreDone ns k behind next → after ≡ behind_in ns k k → found ≡ option_or (child_from 1 (drop 1 ns) k) after
    → AreDone ns (suc k) (behind ++ after ∷ []) (next ++ found ∷ [])
more_done ns k behind next after found done a f = record {
  all_behind = length-append behind (after ∷ []) ∙ omega (arith, done.all_behind);
  all_next = length-append next (found ∷ []) ∙ omega (arith, done.all_next);
  behind_each = pushed_each behind k after (λ i. behind_in ns i i) done.all_behind done.behind_each a;
  next_each =
      pushed_each next k found (next_in ns) done.all_next done.next_each
      (f ∙ ap (option_or (child_from 1 (drop 1 ns) k)) a);
}

pub all_done : (ns : List Node) (behind next : List (Option ℕ)) → AreDone ns (length ns) behind next → AreNext ns next
all_done ns behind next done = record { all = done.all_next; each = done.next_each }

-- a turn of the loop that finds what each is followed by
pub done_more : (ns : List Node) (k : ℕ) (oldest younger behind next : List (Option ℕ))
    (peer parent child after found : Option ℕ)
    → AreNodes ns → AreLinked ns 1 oldest younger → AreDone ns k behind next → k < length ns
    → parent ≡ (if k == 0 then None else Some (parent_in ns k)) → peer ≡ get_or younger k peer
    → after ≡ behind_of peer parent behind → child ≡ get_or oldest k child → found ≡ option_or child after
    → AreDone ns (k + 1) (behind ++ after ∷ []) (next ++ found ∷ [])
done_more ns k oldest younger behind next peer parent child after found nodes links done l is read a c f =
    let none : Option ℕ = None in
    let first : child ≡ child_from 1 (drop 1 ns) k =
    get_or_read oldest k child (omega (arith, l, links.parents)) c none ∙ links.child k l in
    subst (λ n. AreDone ns n (behind ++ after ∷ []) (next ++ found ∷ [])) (sym (next_of k))
    (more_done ns k behind next after found done
    (a ∙ behind_here ns k oldest younger behind next peer parent nodes links done l is read)
    (f ∙ ap (λ x. option_or x after) first))

-- ---- the number of the node above

above_at : (ns : List Node) (i : ℕ) → i < length ns
    → parent_found ns (phandle_of i) ≡ Ok (if i == 0 then None else Some (phandle_of (parent_in ns i)))
above_at ns i l = ap (λ o. numbered o (λ k. Ok (if k == 0 then None else Some (phandle_of (parent_in ns k)))))
    (number_is (length ns) i ∙ ap (λ b. if b then Some i else None) (lt-ltb i (length ns) l))

-- what the number of a phandle is read from
pub above_is : (ns : List Node) (i : ℕ) (o : Option Phandle) → i < length ns
    → parent_found ns (phandle_of i) ≡ Ok o
    → o ≡ (if i == 0 then None else Some (phandle_of (parent_in ns i)))
above_is ns i o l e =
    let both : ◌≡◌ {A = Result (Option Phandle) NodeFault} (Ok o)
    (Ok (if i == 0 then None else Some (phandle_of (parent_in ns i)))) = sym e ∙ above_at ns i l in
    cc

-- what the walk over all nodes stands on
pub ruleset walk = (parent_older, none_done, all_done)
