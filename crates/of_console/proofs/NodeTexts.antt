-- The text of a node is its path and its properties, and the tree's that of its nodes in preorder.
use Rattle.std.proofs.Common.{◌≡◌, ℕ, ◌+◌, ◌*◌, ◌-◌, ◌/◌, ◌%◌, ◌<◌, Bool, true, false, nat_eq, nat_lt}
use Rattle.std.proofs.Common.{List, [], ◌∷◌, ◌++◌, Option, Some, None, Result, Ok, Err, length, refl, sym, ap, subst}
use Rattle.std.proofs.Common.{◌∙◌, arith, if◌then◌else◌}
use Rattle.std.proofs.Common.{◌⊎◌, inl, inr, ◌≤◌, eq-eqb, get_or}
use Rattle.std.proofs.lemmas.Bool.{le-ltb, ltb-true}
use Rattle.std.proofs.lemmas.List.{append_assoc, append-nil, get_or_read, length-append}
use Rattle.of_memory.specs.DataSpace.{DataSpace}
use Rattle.of_nodes.specs.declared.fault.NodeFault.{NodeFault}
use Rattle.of_nodes.specs.declared.fault.NodeFault.TheVariants.{NoMemory}
use Rattle.of_nodes.specs.declared.phandles.Phandle.{Phandle}
use Rattle.of_nodes.specs.declared.tree.Node.{Node}
use Rattle.of_nodes.specs.Nodes.{AreNodes, after_found, by_phandle, most_nodes, number_of}
use Rattle.of_nodes.specs.Nodes.{numbered, phandle_in}
use Rattle.of_nodes.specs.Nodes.{phandle_of, properties_in}
use Rattle.of_nodes.specs.Paths.{path_found, path_in}
use Rattle.of_nodes.specs.Preorder.{AfterRuns, numbers_of}
use Rattle.of_nodes.specs.Tree.{tree_of}
use Rattle.of_console.specs.Links.{AreNext, next_in}
use Rattle.of_console.specs.Texts.{detail_shown, node_shown, node_text, nodes_shown, properties_shown, properties_text}
use Rattle.of_console.specs.Texts.{pwd_text, walk_text}
use Rattle.of_console.specs.declared.tree.Detail.{Detail}
use Rattle.of_console.specs.declared.tree.Detail.TheVariants.{Path, Properties}

-- ---- a node

joined_at : (m : DataSpace) (ns : List Node) (o : Option ℕ) (path text : List ℕ)
    → numbered {A = List ℕ} o (λ i. Ok (path_in m ns i)) ≡ Ok path
    → numbered {A = List ℕ} o (λ i. Ok (properties_shown m (properties_in ns i))) ≡ Ok text
    → numbered {A = List ℕ} o (λ i. Ok (node_shown Properties m ns i)) ≡ Ok (path ++ 10 ∷ text)
joined_at m ns None path text p t = absurd cc
joined_at m ns (Some i) path text p t =
    let same_path : path_in m ns i ≡ path = cc in
    let same_text : properties_shown m (properties_in ns i) ≡ text = cc in
    ap (λ x. Ok (x ++ 10 ∷ properties_shown m (properties_in ns i))) same_path
    ∙ ap (λ x. Ok (path ++ 10 ∷ x)) same_text

pub joined : (m : DataSpace) (ns : List Node) (ph : Phandle) (path text : List ℕ) → path_found m ns ph ≡ Ok path
    → properties_text m ns ph ≡ Ok text → node_text Properties m ns ph ≡ Ok (path ++ 10 ∷ text)
joined m ns ph path text p t = joined_at m ns (number_of (length ns) ph) path text p t

line_at : (m : DataSpace) (ns : List Node) (o : Option ℕ) (path : List ℕ)
    → numbered {A = List ℕ} o (λ i. Ok (path_in m ns i)) ≡ Ok path
    → numbered {A = List ℕ} o (λ i. Ok (path_in m ns i ++ 10 ∷ [])) ≡ Ok (path ++ 10 ∷ [])
line_at m ns None path p = absurd cc
line_at m ns (Some i) path p =
    let same_path : path_in m ns i ≡ path = cc in
    ap (λ x. Ok (x ++ 10 ∷ [])) same_path

pub joined_path : (m : DataSpace) (ns : List Node) (ph : Phandle) (path : List ℕ) → path_found m ns ph ≡ Ok path
    → node_text Path m ns ph ≡ Ok (path ++ 10 ∷ [])
joined_path m ns ph path p = line_at m ns (number_of (length ns) ph) path p

pub line_joined : (m : DataSpace) (ns : List Node) (ph : Phandle) (path : List ℕ) → path_found m ns ph ≡ Ok path
    → pwd_text m ns ph ≡ Ok (path ++ 10 ∷ [])
line_joined m ns ph path p = line_at m ns (number_of (length ns) ph) path p

-- ---- the nodes in preorder

-- the first of some numbers
abbrev pub first_of : List ℕ → Option ℕ
first_of [] = None
first_of (i ∷ is) = Some i

-- Some nodes of the tree are shown, and the first of the others is at hand.
pub record IsAt (d : Detail) (m : DataSpace) (ns : List Node) (left : Option ℕ) (text : List ℕ) : Type 0 where
  pub before : List ℕ
  pub others : List ℕ
  pub all : numbers_of (tree_of ns) ≡ before ++ others
  pub next : left ≡ first_of others
  pub shown : text ≡ nodes_shown d m ns before

nodes_joined : (d : Detail) (m : DataSpace) (ns : List Node) (is js : List ℕ)
    → nodes_shown d m ns (is ++ js) ≡ nodes_shown d m ns is ++ nodes_shown d m ns js
nodes_joined d m ns [] js = refl
nodes_joined d m ns (i ∷ is) js =
    ap (λ x. node_shown d m ns i ++ x) (nodes_joined d m ns is js)
    ∙ sym (append_assoc (node_shown d m ns i) (nodes_shown d m ns is) (nodes_shown d m ns js))

-- ---- a node by its phandle

pub number_is : (count i : ℕ) → number_of count (phandle_of i) ≡ (if nat_lt i count then Some i else None)
number_is count i =
    let x = 0xD000_0000 + 4 * i in
    let low : nat_lt x 0xD000_0000 ≡ false = le-ltb x 0xD000_0000 (omega arith) in
    let even : nat_eq ((x - 0xD000_0000) % 4) 0 ≡ true = eq-eqb ((x - 0xD000_0000) % 4) 0 (omega arith) in
    let place : (x - 0xD000_0000) / 4 ≡ i = omega arith in
    rw (low, even, place) refl

found_if : {A B : Type 0} (b : Bool) (i : ℕ) (f : ℕ → Result A NodeFault) (g : ℕ → Result B NodeFault) (x : A)
    → numbered (if b then Some i else None) f ≡ Ok x → numbered (if b then Some i else None) g ≡ g i
found_if true i f g x e = refl
found_if false i f g x e = absurd cc

-- what is found for a node, where anything is
found_at : {A B : Type 0} (ns : List Node) (i : ℕ) (f : ℕ → Result A NodeFault) (g : ℕ → Result B NodeFault) (x : A)
    → by_phandle ns (phandle_of i) f ≡ Ok x → by_phandle ns (phandle_of i) g ≡ g i
found_at ns i f g x e =
    ap (λ o. numbered o g) (number_is (length ns) i)
    ∙ found_if (nat_lt i (length ns)) i f g x (sym (ap (λ o. numbered o f) (number_is (length ns) i)) ∙ e)

shown_at : (d : Detail) (m : DataSpace) (ns : List Node) (i : ℕ) (o : Option Phandle)
    → after_found ns (phandle_of i) ≡ Ok o
    → node_text d m ns (phandle_of i) ≡ Ok (node_shown d m ns i)
shown_at d m ns i o e =
    found_at ns i (λ k. Ok (phandle_in (next_in ns k))) (λ k. Ok (node_shown d m ns k)) o e

within_if : {A : Type 0} (b : Bool) (i : ℕ) (f : ℕ → Result A NodeFault) (x : A)
    → numbered (if b then Some i else None) f ≡ Ok x → b ≡ true
within_if true i f x e = refl
within_if false i f x e = absurd cc

-- a node that is followed by something is there
within_at : (ns : List Node) (i : ℕ) (o : Option Phandle) → after_found ns (phandle_of i) ≡ Ok o → i < length ns
within_at ns i o e =
    ltb-true i (length ns)
    (within_if (nat_lt i (length ns)) i (λ k. Ok (phandle_in (next_in ns k))) o
    (sym (ap (λ p. numbered p (λ k. Ok (phandle_in (next_in ns k)))) (number_is (length ns) i)) ∙ e))

same_number : (o p : Option ℕ) → phandle_in o ≡ phandle_in p → o ≡ p
same_number None None e = refl
same_number None (Some j) e = absurd cc
same_number (Some i) None e = absurd cc
same_number (Some i) (Some j) e =
    let same : phandle_of i ≡ phandle_of j = cc in
    let four : 0xD000_0000 + 4 * i ≡ 0xD000_0000 + 4 * j = ap (λ (ph : Phandle). ph.0.0) same in
    ap Some (omega (arith, four))

same_Ok : {A : Type 0} {x y : A} → ◌≡◌ {A = Result A NodeFault} (Ok x) (Ok y) → x ≡ y
same_Ok e = cc

-- by what it is followed
followed_by : (ns : List Node) (i : ℕ) (left : Option ℕ) → after_found ns (phandle_of i) ≡ Ok (phandle_in left)
    → next_in ns i ≡ left
followed_by ns i left e =
    let after : ℕ → Result (Option Phandle) NodeFault = λ k. Ok (phandle_in (next_in ns k)) in
    same_number (next_in ns i) left (same_Ok (sym (found_at ns i after after (phandle_in left) e) ∙ e))

-- ---- from node to node

-- The node at hand has a text and a next one, and the text is one of the tree's.
pub record GoesOn (d : Detail) (m : DataSpace) (ns : List Node) (i : ℕ) (text : List ℕ) : Type 0 where
  pub more : List ℕ
  pub left : Option ℕ
  pub has : node_text d m ns (phandle_of i) ≡ Ok more
  pub here : i < length ns
  pub goes : next_in ns i ≡ left
  pub at : IsAt d m ns left (text ++ more)
  pub longer : length text < length (text ++ more)
  pub within : length (text ++ more) ≤ length (walk_text d m ns)

is_within : (d : Detail) (m : DataSpace) (ns : List Node) (before others : List ℕ)
    → numbers_of (tree_of ns) ≡ before ++ others
    → length (nodes_shown d m ns before) ≤ length (walk_text d m ns)
is_within d m ns before others e =
    let whole : walk_text d m ns ≡ nodes_shown d m ns before ++ nodes_shown d m ns others =
    ap (nodes_shown d m ns) e ∙ nodes_joined d m ns before others in
    let sum : length (walk_text d m ns) ≡ length (nodes_shown d m ns before) + length (nodes_shown d m ns others) =
    ap length whole ∙ length-append (nodes_shown d m ns before) (nodes_shown d m ns others) in
    omega (arith, sum)

goes_from : (d : Detail) (m : DataSpace) (ns : List Node) (i : ℕ) (before others : List ℕ) (text : List ℕ)
    (left : Option ℕ) → numbers_of (tree_of ns) ≡ before ++ i ∷ others → text ≡ nodes_shown d m ns before
    → after_found ns (phandle_of i) ≡ Ok (phandle_in left) → left ≡ first_of others → GoesOn d m ns i text
goes_from d m ns i before others text left all shown goes next =
    let more = node_shown d m ns i in
    let now : numbers_of (tree_of ns) ≡ (before ++ i ∷ []) ++ others =
    all ∙ sym (append_assoc before (i ∷ []) others) in
    let new : text ++ more ≡ nodes_shown d m ns (before ++ i ∷ []) =
    ap (λ t. t ++ more) shown ∙ ap (λ t. nodes_shown d m ns before ++ t) (sym (append-nil more))
    ∙ sym (nodes_joined d m ns before (i ∷ [])) in
    let path = path_in m ns i in
    let line = detail_shown d m ns i in
    let size : length more ≡ length path + length (10 ∷ line) = length-append path (10 ∷ line) in
    let sum : length (text ++ more) ≡ length text + length more = length-append text more in
    let bound : length (nodes_shown d m ns (before ++ i ∷ [])) ≤ length (walk_text d m ns) =
    is_within d m ns (before ++ i ∷ []) others now in
    record {
      more = more;
      left = left;
      has = shown_at d m ns i (phandle_in left) goes;
      here = within_at ns i (phandle_in left) goes;
      goes = followed_by ns i left goes;
      at = record { before = before ++ i ∷ []; others = others; all = now; next = next; shown = new };
      longer = omega (arith, size, sum);
      within = omega (arith, bound, ap length new);
    }

goes_by : (d : Detail) (m : DataSpace) (ns : List Node) (k : ℕ) (before others text : List ℕ)
    → AfterRuns → AreNodes ns → numbers_of (tree_of ns) ≡ before ++ others → Some k ≡ first_of others
    → text ≡ nodes_shown d m ns before → GoesOn d m ns k text
goes_by d m ns k before [] text runs nodes all next shown = absurd cc
goes_by d m ns k before (i ∷ []) text runs nodes all next shown =
    let same : k ≡ i = cc in
    subst (λ x. GoesOn d m ns x text) (sym same)
    (goes_from d m ns i before [] text None all shown (runs.last ns before i nodes all) refl)
goes_by d m ns k before (i ∷ j ∷ others) text runs nodes all next shown =
    let same : k ≡ i = cc in
    subst (λ x. GoesOn d m ns x text) (sym same)
    (goes_from d m ns i before (j ∷ others) text (Some j) all shown (runs.next ns before others i j nodes all) refl)

pub begins : (d : Detail) (m : DataSpace) (ns : List Node) → AfterRuns → AreNodes ns → IsAt d m ns (Some 0) []
begins d m ns runs nodes =
    let first = runs.first ns nodes in
    record { before = []; others = 0 ∷ first.0; all = first.1; next = refl; shown = refl }

pub goes_on : (d : Detail) (m : DataSpace) (ns : List Node) (i : ℕ) (text : List ℕ) → AfterRuns → AreNodes ns
    → IsAt d m ns (Some i) text → GoesOn d m ns i text
goes_on d m ns i text runs nodes at = goes_by d m ns i at.before at.others text runs nodes at.all at.next at.shown

-- the node at hand is there, and has a phandle
pub stands : (d : Detail) (m : DataSpace) (ns : List Node) (i : ℕ) (text : List ℕ) → AfterRuns → AreNodes ns
    → IsAt d m ns (Some i) text → i < length ns
stands d m ns i text runs nodes at =
    let goes = goes_on d m ns i text runs nodes at in goes.here

pub has_phandle : (ns : List Node) (i : ℕ) → AreNodes ns → i < length ns → i < most_nodes
has_phandle ns i nodes l = let few = nodes.few in omega (arith, l, few)

-- what it is followed by is read off the list
pub followed : (ns : List Node) (next : List (Option ℕ)) (i : ℕ) (left : Option ℕ) → i < length ns → AreNext ns next
    → left ≡ get_or next i left → left ≡ next_in ns i
followed ns next i left l all read =
    let none : Option ℕ = None in
    get_or_read next i left (omega (arith, l, all.all)) read none ∙ all.each i l

all_by : (d : Detail) (m : DataSpace) (ns : List Node) (before others text : List ℕ)
    → numbers_of (tree_of ns) ≡ before ++ others
    → ◌≡◌ {A = Option ℕ} None (first_of others) → text ≡ nodes_shown d m ns before → text ≡ walk_text d m ns
all_by d m ns before [] text all next shown = shown ∙ ap (nodes_shown d m ns) (sym (all ∙ append-nil before))
all_by d m ns before (i ∷ others) text all next shown = absurd cc

pub all_are : (d : Detail) (m : DataSpace) (ns : List Node) (text : List ℕ) → IsAt d m ns None text
    → text ≡ walk_text d m ns
all_are d m ns text at = all_by d m ns at.before at.others text at.all at.next at.shown

-- ---- a turn of the walk

-- what was appended for the node at hand
abbrev pub IsPushed : Detail → DataSpace → List Node → ℕ → List ℕ → List ℕ → Type 0
IsPushed d m ns i text new = (t : List ℕ) × (node_text d m ns (phandle_of i) ≡ Ok t) × (new ≡ text ++ t)

is_pushed : (d : Detail) (m : DataSpace) (ns : List Node) (i : ℕ) (text new : List ℕ)
    (goes : GoesOn d m ns i text) → IsPushed d m ns i text new → new ≡ text ++ goes.more
is_pushed d m ns i text new goes pushed = pushed.2 ∙ ap (λ t. text ++ t) (same_Ok (sym pushed.1 ∙ goes.has))

pub moves : (d : Detail) (m : DataSpace) (ns : List Node) (i : ℕ) (left : Option ℕ) (text new : List ℕ)
    → GoesOn d m ns i text → IsPushed d m ns i text new → left ≡ next_in ns i → IsAt d m ns left new
moves d m ns i left text new goes pushed found =
    subst (λ x. IsAt d m ns left x) (sym (is_pushed d m ns i text new goes pushed))
    (subst (λ x. IsAt d m ns x (text ++ goes.more)) (sym (found ∙ goes.goes)) goes.at)

pub smaller : (d : Detail) (m : DataSpace) (ns : List Node) (i : ℕ) (text new : List ℕ) → GoesOn d m ns i text
    → IsPushed d m ns i text new
    → length (walk_text d m ns) - length new < length (walk_text d m ns) - length text
smaller d m ns i text new goes pushed =
    let same = ap length (is_pushed d m ns i text new goes pushed) in
    omega (arith, same, goes.longer, goes.within)

-- the node is there, so an error is for memory
pub only_memory : (d : Detail) (m : DataSpace) (ns : List Node) (i : ℕ) (text : List ℕ) (e : NodeFault)
    → GoesOn d m ns i text → (e ≡ NoMemory) ⊎ (node_text d m ns (phandle_of i) ≡ Err e) → e ≡ NoMemory
only_memory d m ns i text e goes (inl h) = h
only_memory d m ns i text e goes (inr h) =
    let both : ◌≡◌ {A = Result (List ℕ) NodeFault} (Ok goes.more) (Err e) = sym goes.has ∙ h in absurd cc
