-- A line for each property of a node.
use Rattle.std.proofs.Common.{◌≡◌, ℕ, zero, suc, ◌+◌, List, [], ◌∷◌, ◌++◌, Option, Some, None, Result, Ok, Err, length}
use Rattle.std.proofs.Common.{take, refl, ap, sym, ◌∙◌, add-one}
use Rattle.std.proofs.lemmas.List.{append_assoc, append-nil}
use Rattle.std.proofs.Math.Seq.{take-length}
use Rattle.of_memory.specs.DataSpace.{DataSpace}
use Rattle.of_nodes.specs.declared.fault.NodeFault.{NodeFault}
use Rattle.of_nodes.specs.declared.phandles.Phandle.{Phandle}
use Rattle.of_nodes.specs.declared.properties.Property.{Property}
use Rattle.of_nodes.specs.declared.tree.Node.{Node}
use Rattle.of_nodes.specs.Nodes.{number_of, numbered, properties_counted, properties_in, property_placed}
use Rattle.of_nodes.specs.Properties.{value_at}
use Rattle.of_console.specs.Texts.{properties_shown, properties_text, property_line}

-- The first properties of a node are shown.
pub record AreShown (m : DataSpace) (ns : List Node) (ph : Phandle) (place count : ℕ) (before text : List ℕ) : Type 0
  where
    pub number : ℕ
    pub is : number_of (length ns) ph ≡ Some number
    pub all : length (properties_in ns number) ≡ count
    pub shown : text ≡ before ++ properties_shown m (take place (properties_in ns number))

found_number : {A : Type 0} (o : Option ℕ) (f : ℕ → A) (x : A) → numbered o (λ i. Ok (f i)) ≡ Ok x
    → (i : ℕ) × (o ≡ Some i) × (f i ≡ x)
found_number None f x e = absurd cc
found_number (Some i) f x e = (i, refl, cc)

pub none_shown : (m : DataSpace) (ns : List Node) (ph : Phandle) (count : ℕ) (text : List ℕ)
    → properties_counted ns ph ≡ Ok count → AreShown m ns ph 0 count text text
none_shown m ns ph count text e =
    let found = found_number (number_of (length ns) ph) (λ i. length (properties_in ns i)) count e in
    record {
      number = found.0;
      is = found.1;
      all = found.2;
      shown = sym (append-nil text);
    }

shown_next : (m : DataSpace) (ps : List (List ℕ × Property)) (n : ℕ) (p : Property) → value_at ps n ≡ Some p
    → properties_shown m (take (suc n) ps) ≡ properties_shown m (take n ps) ++ property_line m p
shown_next m [] n p e = absurd cc
shown_next m (x ∷ ps) zero p e =
    let same : x.1 ≡ p = cc in
    append-nil (property_line m x.1) ∙ ap (property_line m) same
shown_next m (x ∷ ps) (suc n) p e =
    ap (λ t. property_line m x.1 ++ t) (shown_next m ps n p e)
    ∙ sym (append_assoc (property_line m x.1) (properties_shown m (take n ps)) (property_line m p))

none_taken : (k : ℕ) → take {A = List ℕ × Property} k [] ≡ []
none_taken zero = refl
none_taken (suc k) = refl

none_next : (m : DataSpace) (ps : List (List ℕ × Property)) (n : ℕ) → value_at ps n ≡ None
    → properties_shown m (take (suc n) ps) ≡ properties_shown m (take n ps)
none_next m [] n e = ap (properties_shown m) (none_taken (suc n) ∙ sym (none_taken n))
none_next m (x ∷ ps) zero e = absurd cc
none_next m (x ∷ ps) (suc n) e = ap (λ t. property_line m x.1 ++ t) (none_next m ps n e)

same_Ok : {A : Type 0} {x y : A} → ◌≡◌ {A = Result A NodeFault} (Ok x) (Ok y) → x ≡ y
same_Ok e = cc

placed : (ns : List Node) (ph : Phandle) (place number : ℕ) (o : Option Property)
    → number_of (length ns) ph ≡ Some number → property_placed ns ph place ≡ Ok o
    → value_at (properties_in ns number) place ≡ o
placed ns ph place number o is e =
    same_Ok
    (sym (ap (λ x. numbered {A = Option Property} x (λ i. Ok (value_at (properties_in ns i) place))) is) ∙ e)

pub one_more : (m : DataSpace) (ns : List Node) (ph : Phandle) (place next count : ℕ) (before text new : List ℕ)
    (p : Property) → next ≡ place + 1 → AreShown m ns ph place count before text
    → property_placed ns ph place ≡ Ok (Some p) → new ≡ text ++ property_line m p
    → AreShown m ns ph next count before new
one_more m ns ph place next count before text new p behind at found made =
    let ps = properties_in ns at.number in
    let is = placed ns ph place at.number (Some p) at.is found in
    record {
      number = at.number;
      is = at.is;
      all = at.all;
      shown = made ∙ ap (λ t. t ++ property_line m p) at.shown
          ∙ append_assoc before (properties_shown m (take place ps)) (property_line m p)
          ∙ ap (λ t. before ++ t) (sym (shown_next m ps place p is))
          ∙ ap (λ k. before ++ properties_shown m (take k ps)) (sym (behind ∙ add-one place));
    }

pub no_more : (m : DataSpace) (ns : List Node) (ph : Phandle) (place next count : ℕ) (before text : List ℕ)
    → next ≡ place + 1 → AreShown m ns ph place count before text → property_placed ns ph place ≡ Ok None
    → AreShown m ns ph next count before text
no_more m ns ph place next count before text behind at found =
    let ps = properties_in ns at.number in
    let is = placed ns ph place at.number None at.is found in
    record {
      number = at.number;
      is = at.is;
      all = at.all;
      shown = at.shown
          ∙ ap (λ t. before ++ t) (sym (none_next m ps place is))
          ∙ ap (λ k. before ++ properties_shown m (take k ps)) (sym (behind ∙ add-one place));
    }

pub all_are : (m : DataSpace) (ns : List Node) (ph : Phandle) (count : ℕ) (before text : List ℕ)
    → AreShown m ns ph count count before text
    → (t : List ℕ) × (properties_text m ns ph ≡ Ok t) × (text ≡ before ++ t)
all_are m ns ph count before text at =
    let ps = properties_in ns at.number in (
      properties_shown m ps,
      ap (λ o. numbered o (λ i. Ok (properties_shown m (properties_in ns i)))) at.is,
      at.shown ∙ ap (λ k. before ++ properties_shown m (take k ps)) (sym at.all)
          ∙ ap (λ x. before ++ properties_shown m x) (take-length ps),
    )

refused_at : {A B : Type 0} (o : Option ℕ) (f : ℕ → A) (g : ℕ → B) (e : NodeFault)
    → numbered o (λ i. Ok (f i)) ≡ Err e → numbered o (λ i. Ok (g i)) ≡ Err e
refused_at None f g e h = cc
refused_at (Some i) f g e h = absurd cc

-- where no node is counted or placed, none is shown
pub uncounted : (m : DataSpace) (ns : List Node) (ph : Phandle) (e : NodeFault) → properties_counted ns ph ≡ Err e
    → properties_text m ns ph ≡ Err e
uncounted m ns ph e h =
    refused_at (number_of (length ns) ph) (λ i. length (properties_in ns i))
    (λ i. properties_shown m (properties_in ns i)) e h

pub unplaced : (m : DataSpace) (ns : List Node) (ph : Phandle) (place : ℕ) (e : NodeFault)
    → property_placed ns ph place ≡ Err e → properties_text m ns ph ≡ Err e
unplaced m ns ph place e h =
    refused_at (number_of (length ns) ph) (λ i. value_at (properties_in ns i) place)
    (λ i. properties_shown m (properties_in ns i)) e h
