-- The children of a node, one behind the other.
use Rattle.std.proofs.Common.{◌≡◌, ℕ, suc, ◌+◌, ◌-◌, ◌<◌, ◌≤◌, ◌==◌, Bool, true, false, nat_lt, nat_eq, List, [], ◌∷◌}
use Rattle.std.proofs.Common.{◌++◌, Option, Some, None, Result, Ok, Err, length, drop, get_or, refl, sym, ap, subst}
use Rattle.std.proofs.Common.{◌∙◌, arith, if◌then◌else◌, ◌⊎◌, inl, inr, drop-cons, add-one, slice_index_or, zero}
use Rattle.std.proofs.lemmas.Bool.Decides.{nat_tests}
use Rattle.std.proofs.lemmas.List.{append_assoc, append-nil, length-append, length-drop}
use Rattle.std.specs.Int.{bytes_high_first}
use Rattle.std.specs.List.{AllPairs, Contains}
use Rattle.std.proofs.lemmas.List.Elements.{All-contains_itself}
use Rattle.std.proofs.lemmas.List.Kept.{AllPairs-cons}
use Rattle.hex.specs.Hex.{encode_lower}
use Rattle.of_memory.specs.DataSpace.{DataSpace}
use Rattle.of_nodes.specs.declared.fault.NodeFault.{NodeFault}
use Rattle.of_nodes.specs.declared.fault.NodeFault.TheVariants.{NoMemory}
use Rattle.of_nodes.specs.declared.phandles.Phandle.{Phandle}
use Rattle.of_nodes.specs.declared.tree.Node.{Node}
use Rattle.of_nodes.specs.Nodes.{by_phandle, child_found, child_from, new_node, number_of, numbered, parent_in}
use Rattle.of_nodes.specs.Nodes.{peer_found, phandle_in, phandle_of}
use Rattle.of_nodes.specs.Paths.{component_found, component_in}
use Rattle.of_console.specs.Laws.{ChildrenAreListed}
use Rattle.of_console.specs.Children.{child_line, children_from, children_in, children_shown, handle_line, ls_text}
use Rattle.of_console.proofs.NodeTexts.{number_is}

-- ---- the first of the children

-- Node k is the first of some nodes that has the parent p, and the others stand behind it.
pub record IsFirst (ns : List Node) (j p k : ℕ) (l : List Node) : Type 0 where
  pub low : j ≤ k
  pub there : k < length ns
  pub above : parent_in ns k ≡ p
  pub others : children_from j l p ≡ k ∷ children_from (suc k) (drop (suc k) ns) p

first_child : (l ns : List Node) (j p k : ℕ) → l ≡ drop j ns → child_from j l p ≡ Some k → IsFirst ns j p k l
first_child [] ns j p k e h = absurd cc
first_child (n ∷ l) ns j p k e h = at (λ f g. first_child l ns (suc j) p k f g) (n.parent == p) refl h
  where
    within : j < length ns
    within =
        let lengths : suc (length l) ≡ length ns - j = ap length e ∙ length-drop j ns in omega (arith, lengths)

    both : n ∷ l ≡ get_or ns j (new_node 0) ∷ drop (suc j) ns
    both = e ∙ drop-cons ns j (new_node 0) within

    here : n ≡ get_or ns j (new_node 0)
    here = ap (λ xs. get_or xs 0 n) both

    tail : l ≡ drop (suc j) ns
    tail = ap (λ xs. drop 1 xs) both

    at : (l ≡ drop (suc j) ns → child_from (suc j) l p ≡ Some k → IsFirst ns (suc j) p k l) → (t : Bool)
        → (n.parent == p) ≡ t → (if t then Some j else child_from (suc j) l p) ≡ Some k → IsFirst ns j p k (n ∷ l)
    at f true q h =
        let same : j ≡ k = cc in
        let parent : n.parent ≡ p = grind (arith, nat_tests, q) in
        record {
          low = omega (arith, same);
          there = subst (λ x. x < length ns) same within;
          above = subst (λ x. parent_in ns x ≡ p) same (ap (λ x. x.parent) (sym here) ∙ parent);
          others = rw q (subst (λ x. j ∷ children_from (suc j) l p ≡ x ∷ children_from (suc x) (drop (suc x) ns) p) same
              (ap (λ xs. j ∷ children_from (suc j) xs p) tail));
        }
    at f false q h =
        let first : IsFirst ns (suc j) p k l = f tail h in
        record {
          low = omega (arith, first.low);
          there = first.there;
          above = first.above;
          others = rw q first.others;
        }

no_child : (l : List Node) (j p : ℕ) → child_from j l p ≡ None → children_from j l p ≡ []
no_child [] j p h = refl
no_child (n ∷ l) j p h = at (λ g. no_child l (suc j) p g) (n.parent == p) refl h
  where
    at : (child_from (suc j) l p ≡ None → children_from (suc j) l p ≡ []) → (t : Bool) → (n.parent == p) ≡ t
        → (if t then Some j else child_from (suc j) l p) ≡ None → children_from j (n ∷ l) p ≡ []
    at f true q h = absurd cc
    at f false q h = rw q (f h)

-- ---- from child to child

-- Some children of a node are shown, and the first of the others is at hand.
pub record IsListed (m : DataSpace) (ns : List Node) (ph : Phandle) (left : Option Phandle) (text : List ℕ) : Type 0
  where
    pub above : ℕ
    pub from : ℕ
    pub behind : 1 ≤ from
    pub next : left ≡ phandle_in (child_from from (drop from ns) above)
    pub shown : ls_text m ns ph ≡ Ok (text ++ children_shown m ns (children_from from (drop from ns) above))

begins_at : (m : DataSpace) (ns : List Node) (ph : Phandle) (left : Option Phandle) (o : Option ℕ)
    → number_of (length ns) ph ≡ o
    → numbered {A = Option Phandle} o (λ i. Ok (phandle_in (child_from 1 (drop 1 ns) i))) ≡ Ok left
    → IsListed m ns ph left []
begins_at m ns ph left None e h = absurd cc
begins_at m ns ph left (Some i) e h =
    let next : phandle_in (child_from 1 (drop 1 ns) i) ≡ left = cc in
    record {
      above = i;
      from = 1;
      behind = omega arith;
      next = sym next;
      shown = ap (λ o. numbered {A = List ℕ} o (λ i. Ok (children_shown m ns (children_in ns i)))) e;
    }

pub begins : (m : DataSpace) (ns : List Node) (ph : Phandle) (left : Option Phandle) → child_found ns ph ≡ Ok left
    → IsListed m ns ph left []
begins m ns ph left h = begins_at m ns ph left (number_of (length ns) ph) refl h

-- an error before the first child is that there is no such node
pub refused : (m : DataSpace) (ns : List Node) (ph : Phandle) (e : NodeFault) → child_found ns ph ≡ Err e
    → ls_text m ns ph ≡ Err e
refused m ns ph e h = at (number_of (length ns) ph) h
  where
    at : (o : Option ℕ) → numbered {A = Option Phandle} o (λ i. Ok (phandle_in (child_from 1 (drop 1 ns) i))) ≡ Err e
        → numbered {A = List ℕ} o (λ i. Ok (children_shown m ns (children_in ns i))) ≡ Err e
    at None h = cc
    at (Some i) h = absurd cc

-- the child at hand has a line and a next one, and the line is one of the node's
pub record GoesOn (m : DataSpace) (ns : List Node) (ph child : Phandle) (text : List ℕ) : Type 0 where
  pub component : List ℕ
  pub left : Option Phandle
  pub has : component_found m ns child ≡ Ok component
  pub goes : peer_found ns child ≡ Ok left
  pub at : IsListed m ns ph left (text ++ handle_line child component)

by_number : {A : Type 0} (ns : List Node) (k : ℕ) (f : ℕ → Result A NodeFault) → k < length ns
    → by_phandle ns (phandle_of k) f ≡ f k
by_number ns k f lt =
    let here : nat_lt k (length ns) ≡ true = grind (arith, nat_tests, lt) in
    ap (λ o. numbered o f) (number_is (length ns) k)
    ∙ ap (λ t. numbered (if t then Some k else None) f) here

goes_from : (m : DataSpace) (ns : List Node) (ph : Phandle) (text : List ℕ) (p from k : ℕ) → 1 ≤ from
    → child_from from (drop from ns) p ≡ Some k
    → ls_text m ns ph ≡ Ok (text ++ children_shown m ns (children_from from (drop from ns) p))
    → GoesOn m ns ph (phandle_of k) text
goes_from m ns ph text p from k low found shown =
    let first : IsFirst ns from p k (drop from ns) = first_child (drop from ns) ns from p k refl found in
    let other : (k == 0) ≡ false = grind (arith, nat_tests, low, first.low) in
    let rest : List ℕ = children_from (suc k) (drop (suc k) ns) p in
    let next : phandle_in (child_from (k + 1) (drop (k + 1) ns) (parent_in ns k))
    ≡ phandle_in (child_from (suc k) (drop (suc k) ns) p) =
    rw (add-one, first.above) refl in
    record {
      component = component_in m ns k;
      left = phandle_in (child_from (suc k) (drop (suc k) ns) p);
      has = by_number ns k (λ i. Ok (if i == 0 then [] else component_in m ns i)) first.there
          ∙ ap (λ t. Ok (if t then [] else component_in m ns k)) other;
      goes = by_number ns k (λ i. Ok (if i == 0 then None
          else phandle_in (child_from (i + 1) (drop (i + 1) ns) (parent_in ns i)))) first.there
          ∙ ap (λ t. Ok (if t then None
          else phandle_in (child_from (k + 1) (drop (k + 1) ns) (parent_in ns k)))) other
          ∙ ap Ok next;
      at = record {
        above = p;
        from = suc k;
        behind = omega arith;
        next = refl;
        shown = shown ∙ ap (λ ks. Ok (text ++ children_shown m ns ks)) first.others
            ∙ ap Ok (sym (append_assoc text (child_line m ns k) (children_shown m ns rest)));
      };
    }

goes_by : (m : DataSpace) (ns : List Node) (ph child : Phandle) (text : List ℕ) (p from : ℕ) (o : Option ℕ) → 1 ≤ from
    → child_from from (drop from ns) p ≡ o → Some child ≡ phandle_in o
    → ls_text m ns ph ≡ Ok (text ++ children_shown m ns (children_from from (drop from ns) p))
    → GoesOn m ns ph child text
goes_by m ns ph child text p from None low found next shown = absurd cc
goes_by m ns ph child text p from (Some k) low found next shown =
    let same : child ≡ phandle_of k = cc in
    subst (λ x. GoesOn m ns ph x text) (sym same) (goes_from m ns ph text p from k low found shown)

pub goes_on : (m : DataSpace) (ns : List Node) (ph child : Phandle) (text : List ℕ)
    → IsListed m ns ph (Some child) text → GoesOn m ns ph child text
goes_on m ns ph child text at =
    goes_by m ns ph child text at.above at.from (child_from at.from (drop at.from ns) at.above) at.behind refl at.next
    at.shown

-- ---- a turn of the loop

-- what was appended for the child at hand
abbrev pub IsPushed : DataSpace → List Node → Phandle → List ℕ → List ℕ → Type 0
IsPushed m ns child text new =
    (t : List ℕ) × (component_found m ns child ≡ Ok t) × (new ≡ text ++ handle_line child t)

same_Ok : {A : Type 0} {x y : A} → ◌≡◌ {A = Result A NodeFault} (Ok x) (Ok y) → x ≡ y
same_Ok e = cc

is_pushed : (m : DataSpace) (ns : List Node) (ph child : Phandle) (text new : List ℕ) (goes : GoesOn m ns ph child text)
    → IsPushed m ns child text new → new ≡ text ++ handle_line child goes.component
is_pushed m ns ph child text new goes pushed =
    pushed.2 ∙ ap (λ t. text ++ handle_line child t) (same_Ok (sym pushed.1 ∙ goes.has))

pub moves : (m : DataSpace) (ns : List Node) (ph child : Phandle) (left : Option Phandle) (text new : List ℕ)
    → GoesOn m ns ph child text → IsPushed m ns child text new → peer_found ns child ≡ Ok left
    → IsListed m ns ph left new
moves m ns ph child left text new goes pushed found =
    subst (λ x. IsListed m ns ph left x) (sym (is_pushed m ns ph child text new goes pushed))
    (subst (λ x. IsListed m ns ph x (text ++ handle_line child goes.component)) (same_Ok (sym goes.goes ∙ found))
    goes.at)

-- the bytes of a text, if there is one
abbrev pub bytes_of : Result (List ℕ) NodeFault → List ℕ
bytes_of (Ok text) = text
bytes_of (Err e) = []

within_text : (m : DataSpace) (ns : List Node) (ph : Phandle) (left : Option Phandle) (text : List ℕ)
    → IsListed m ns ph left text → length text ≤ length (bytes_of (ls_text m ns ph))
within_text m ns ph left text at =
    let rest : List ℕ = children_shown m ns (children_from at.from (drop at.from ns) at.above) in
    let lengths : length (bytes_of (ls_text m ns ph)) ≡ length text + length rest =
    ap (λ r. length (bytes_of r)) at.shown ∙ length-append text rest in
    omega (arith, lengths)

longer : (a b c : List ℕ) (x : ℕ) → 0 < length (a ++ x ∷ b ++ c)
longer [] b c x = omega arith
longer (y ∷ a) b c x = omega arith

has_bytes : (ph : Phandle) (text : List ℕ) → 0 < length (handle_line ph text)
has_bytes ph text = longer (encode_lower (bytes_high_first 4 ph.0.0)) text (10 ∷ []) 32

pub smaller : (m : DataSpace) (ns : List Node) (ph child : Phandle) (text new : List ℕ) → GoesOn m ns ph child text
    → IsPushed m ns child text new
    → length (bytes_of (ls_text m ns ph)) - length new < length (bytes_of (ls_text m ns ph)) - length text
smaller m ns ph child text new goes pushed =
    let line : List ℕ = handle_line child goes.component in
    let within : length (text ++ line) ≤ length (bytes_of (ls_text m ns ph)) =
    within_text m ns ph goes.left (text ++ line) goes.at in
    let lengths : length (text ++ line) ≡ length text + length line = length-append text line in
    let some : 0 < length line = has_bytes child goes.component in
    let new_length : length new ≡ length (text ++ line) = ap length (is_pushed m ns ph child text new goes pushed) in
    omega (arith, within, lengths, some, new_length)

-- the child is there, so an error is for memory
pub only_memory : (m : DataSpace) (ns : List Node) (ph child : Phandle) (text : List ℕ) (e : NodeFault)
    → GoesOn m ns ph child text → (e ≡ NoMemory) ⊎ (component_found m ns child ≡ Err e) → e ≡ NoMemory
only_memory m ns ph child text e goes (inl h) = h
only_memory m ns ph child text e goes (inr h) =
    let both : ◌≡◌ {A = Result (List ℕ) NodeFault} (Ok goes.component) (Err e) = sym goes.has ∙ h in absurd cc

pub peer_there : (m : DataSpace) (ns : List Node) (ph child : Phandle) (text : List ℕ) (e : NodeFault)
    → GoesOn m ns ph child text → peer_found ns child ≡ Err e → ⊥
peer_there m ns ph child text e goes h =
    let both : ◌≡◌ {A = Result (Option Phandle) NodeFault} (Ok goes.left) (Err e) = sym goes.goes ∙ h in absurd cc

all_by : (m : DataSpace) (ns : List Node) (ph : Phandle) (text : List ℕ) (p from : ℕ) (o : Option ℕ)
    → child_from from (drop from ns) p ≡ o → ◌≡◌ {A = Option Phandle} None (phandle_in o)
    → ls_text m ns ph ≡ Ok (text ++ children_shown m ns (children_from from (drop from ns) p))
    → ls_text m ns ph ≡ Ok text
all_by m ns ph text p from None found next shown =
    shown ∙ ap (λ ks. Ok (text ++ children_shown m ns ks)) (no_child (drop from ns) from p found)
    ∙ ap Ok (append-nil text)
all_by m ns ph text p from (Some k) found next shown = absurd cc

pub all_are : (m : DataSpace) (ns : List Node) (ph : Phandle) (text : List ℕ) → IsListed m ns ph None text
    → ls_text m ns ph ≡ Ok text
all_are m ns ph text at =
    all_by m ns ph text at.above at.from (child_from at.from (drop at.from ns) at.above) refl at.next at.shown

-- ---- the law

-- what node j is in a list that begins with it
pub record Begins (ns : List Node) (j : ℕ) (n : Node) (l : List Node) : Type 0 where
  pub within : j < length ns
  pub here : n.parent ≡ parent_in ns j
  pub tail : l ≡ drop (suc j) ns

begins_with : (n : Node) (l ns : List Node) (j : ℕ) → n ∷ l ≡ drop j ns → Begins ns j n l
begins_with n l ns j e =
    let lengths : suc (length l) ≡ length ns - j = ap length e ∙ length-drop j ns in
    let within : j < length ns = omega (arith, lengths) in
    let both : n ∷ l ≡ get_or ns j (new_node 0) ∷ drop (suc j) ns = e ∙ drop-cons ns j (new_node 0) within in
    record {
      within = within;
      here = ap (λ (xs : List Node). (get_or xs 0 n).parent) both;
      tail = ap (λ (xs : List Node). drop 1 xs) both;
    }

head_in : (x : ℕ) (xs : List ℕ) → Contains (x ∷ xs) x
head_in x xs = (0, omega arith, refl)

tail_in : (x : ℕ) (xs : List ℕ) (k : ℕ) → Contains xs k → Contains (x ∷ xs) k
tail_in x xs k h = (suc h.0, omega (arith, h.1), h.2)

listed : (l ns : List Node) (j p k : ℕ) → l ≡ drop j ns → j ≤ k → k < length ns → parent_in ns k ≡ p
    → Contains (children_from j l p) k
listed [] ns j p k e low lt above =
    let lengths : 0 ≡ length ns - j = ap length e ∙ length-drop j ns in absurd (omega (arith, lengths, low, lt))
listed (n ∷ l) ns j p k e low lt above =
    at (λ f. listed l ns (suc j) p k here.tail f lt above) (n.parent == p) refl (nat_eq j k) refl
  where
    here : Begins ns j n l
    here = begins_with n l ns j e

    at : (suc j ≤ k → Contains (children_from (suc j) l p) k) → (t : Bool) → (n.parent == p) ≡ t → (u : Bool)
        → nat_eq j k ≡ u → Contains (if t then j ∷ children_from (suc j) l p else children_from (suc j) l p) k
    at f true q true r =
        let same : j ≡ k = grind (arith, nat_tests, r) in
        subst (λ x. Contains (j ∷ children_from (suc j) l p) x) same (head_in j (children_from (suc j) l p))
    at f true q false r =
        let more : suc j ≤ k = grind (arith, nat_tests, r, low) in
        tail_in j (children_from (suc j) l p) k (f more)
    at f false q true r =
        let same : j ≡ k = grind (arith, nat_tests, r) in
        let parent : n.parent ≡ p = here.here ∙ ap (parent_in ns) same ∙ above in
        absurd (grind (arith, nat_tests, q, parent))
    at f false q false r = let more : suc j ≤ k = grind (arith, nat_tests, r, low) in f more

is_child : (l ns : List Node) (j p k : ℕ) → l ≡ drop j ns → Contains (children_from j l p) k
    → (j ≤ k) × (k < length ns) × (parent_in ns k ≡ p)
is_child [] ns j p k e h = absurd (omega (arith, h.1))
is_child (n ∷ l) ns j p k e h = at (λ g. is_child l ns (suc j) p k here.tail g) (n.parent == p) refl h
  where
    here : Begins ns j n l
    here = begins_with n l ns j e

    Found : Type 0
    Found = (j ≤ k) × (k < length ns) × (parent_in ns k ≡ p)

    later : (suc j ≤ k) × (k < length ns) × (parent_in ns k ≡ p) → Found
    later x = (omega (arith, x.0), x.1, x.2)

    among : (Contains (children_from (suc j) l p) k → (suc j ≤ k) × (k < length ns) × (parent_in ns k ≡ p))
        → (n.parent == p) ≡ true → (i : ℕ) → i < length (j ∷ children_from (suc j) l p)
        → slice_index_or (j ∷ children_from (suc j) l p) i k ≡ k → Found
    among f q zero lt same =
        let first : j ≡ k = same in
        let parent : n.parent ≡ p = grind (arith, nat_tests, q) in (
          omega (arith, first),
          subst (λ x. x < length ns) first here.within,
          sym (ap (parent_in ns) first) ∙ sym here.here ∙ parent,
        )
    among f q (suc i) lt same = later (f (i, omega (arith, lt), same))

    at : (Contains (children_from (suc j) l p) k → (suc j ≤ k) × (k < length ns) × (parent_in ns k ≡ p))
        → (t : Bool) → (n.parent == p) ≡ t
        → Contains (if t then j ∷ children_from (suc j) l p else children_from (suc j) l p) k → Found
    at f true q h = among f q h.0 h.1 h.2
    at f false q h = later (f h)

ascending : (l ns : List Node) (j p : ℕ) → l ≡ drop j ns → AllPairs (λ a b. a < b) (children_from j l p)
ascending [] ns j p e = λ i k d lt within. absurd (omega (arith, within))
ascending (n ∷ l) ns j p e = at (ascending l ns (suc j) p here.tail) (n.parent == p)
  where
    here : Begins ns j n l
    here = begins_with n l ns j e

    others : List ℕ
    others = children_from (suc j) l p

    at : AllPairs (λ a b. a < b) (children_from (suc j) l p) → (t : Bool)
        → AllPairs (λ a b. a < b) (if t then j ∷ children_from (suc j) l p else children_from (suc j) l p)
    at f true = AllPairs-cons (λ a b. a < b) j others
        (λ i d lt. (is_child l ns (suc j) p (get_or others i d) here.tail (All-contains_itself others i d lt)).0) f
    at f false = f

pub children_are_listed : ChildrenAreListed
children_are_listed = record {
  each = λ ns i k some there above. listed (drop 1 ns) ns 1 i k refl some there above;
  only = λ ns i k h. is_child (drop 1 ns) ns 1 i k refl h;
  order = λ ns i. ascending (drop 1 ns) ns 1 i refl;
}
