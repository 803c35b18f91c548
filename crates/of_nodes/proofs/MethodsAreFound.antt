-- The law `methods_are_found`.
use Rattle.std.proofs.Common.{◌≡◌, ◌≢◌, ℕ, Bool, true, false, List, [], ◌∷◌, length, Option, Some, None}
use Rattle.std.proofs.Common.{Ok, Err, ◌<◌, ◌-◌, ◌%◌, ◌/◌, ◌&&◌, nat_eq, nat_lt, if◌then◌else◌, refl, ap, sym}
use Rattle.std.proofs.Common.{◌∙◌, arith}
use Rattle.std.specs.Prelude.{◌==◌}
use Rattle.std.proofs.lemmas.List.{get_or-set_same, length-set}
use Rattle.std.proofs.lemmas.Bool.{and_parts, eqb-true, false_from_ne_true, ltb-true}
use Rattle.of_cells.specs.declared.cells.Cell.{Cell}
use Rattle.of_nodes.specs.declared.tree.Node.{Node}
use Rattle.of_nodes.specs.declared.phandles.Phandle.{Phandle}
use Rattle.of_nodes.specs.declared.fault.NodeFault.TheVariants.{BadName}
use Rattle.of_nodes.specs.Methods.{is_method_name, lower, method_in, with_method}
use Rattle.of_nodes.specs.MethodLaw.{MethodsAreFound}
use Rattle.of_nodes.specs.Nodes.{added_at, first_phandle, method_added, method_found, methods_in, new_node}
use Rattle.of_nodes.specs.Nodes.{node_at, number_at, number_of, with_methods}
use Rattle.of_nodes.specs.Properties.{same_name, value_in, with_entry}
use Rattle.of_nodes.proofs.ComponentsFit.{same_self}
use Rattle.of_nodes.proofs.NodesByPhandle.{by_number, never, numbered_is}
use Rattle.of_nodes.proofs.MethodsTakenBack.{undone}

pub same_is : (a b : List ℕ) → same_name a b ≡ true → a ≡ b
same_is [] [] e = refl
same_is [] (y ∷ ys) e = absurd cc
same_is (x ∷ xs) [] e = absurd cc
same_is (x ∷ xs) (y ∷ ys) e =
    let parts = and_parts (nat_eq x y) (same_name xs ys) e in
    ap (λ z. z ∷ xs) (eqb-true x y parts.0) ∙ ap (λ (l : List ℕ). y ∷ l) (same_is xs ys parts.1)

pub not_same : (a b : List ℕ) → a ≢ b → same_name a b ≡ false
not_same a b apart = false_from_ne_true (same_name a b) (λ e. apart (same_is a b e))

module _ {V : Type 0} where
  found_step : (b : Bool) (e : List ℕ × V) (es : List (List ℕ × V)) (name : List ℕ) (x : V) → same_name name e.0 ≡ b
      → value_in (with_entry es name x) name ≡ Some x → value_in (with_entry (e ∷ es) name x) name ≡ Some x
  found_step true e es name x h ih = rw h (rw h refl)
  found_step false e es name x h ih = rw h (rw h ih)

  pub entry_found : (es : List (List ℕ × V)) (name : List ℕ) (x : V) → value_in (with_entry es name x) name ≡ Some x
  entry_found [] name x = rw (same_self name) refl
  entry_found (e ∷ es) name x = found_step (same_name name e.0) e es name x refl (entry_found es name x)

  other_step : (b c : Bool) (e : List ℕ × V) (es : List (List ℕ × V)) (name other : List ℕ) (x : V)
      → same_name name e.0 ≡ b → same_name other e.0 ≡ c → other ≢ name
      → value_in (with_entry es name x) other ≡ value_in es other
      → value_in (with_entry (e ∷ es) name x) other ≡ value_in (e ∷ es) other
  other_step true true e es name other x h k apart ih =
      absurd (apart (same_is other e.0 k ∙ sym (same_is name e.0 h)))
  other_step true false e es name other x h k apart ih = rw h (rw k refl)
  other_step false true e es name other x h k apart ih = rw h (rw k refl)
  other_step false false e es name other x h k apart ih = rw h (rw k ih)

  pub others_found : (es : List (List ℕ × V)) (name other : List ℕ) (x : V) → other ≢ name
      → value_in (with_entry es name x) other ≡ value_in es other
  others_found [] name other x apart = rw (not_same other name apart) refl
  others_found (e ∷ es) name other x apart =
      other_step (same_name name e.0) (same_name other e.0) e es name other x refl refl apart
      (others_found es name other x apart)

methods_there : (ns : List Node) (i : ℕ) (ms : List (List ℕ × Cell)) → i < length ns
    → methods_in (with_methods ns i ms) i ≡ ms
methods_there ns i ms l =
    ap (λ (n : Node). n.methods) (get_or-set_same ns i (record (node_at ns i) { methods = ms }) (new_node 0) l)

-- ---- the node of a phandle

pub some_if : (b : Bool) (x i : ℕ) → ◌≡◌ {A = Option ℕ} (if b then Some x else None) (Some i) → (b ≡ true) × (x ≡ i)
some_if true x i e = (refl, cc)
some_if false x i e = absurd cc

number_within_at : (count d i : ℕ) → number_at count d ≡ Some i → i < count
number_within_at count d i e =
    let is = some_if (d % 4 == 0 && nat_lt (d / 4) count) (d / 4) i e in
    let l = ltb-true (d / 4) count (and_parts (d % 4 == 0) (nat_lt (d / 4) count) is.0).1 in
    omega (arith, l, is.1)

number_if : (b : Bool) (count d i : ℕ) → ◌≡◌ {A = Option ℕ} (if b then None else number_at count d) (Some i) → i < count
number_if true count d i e = absurd cc
number_if false count d i e = number_within_at count d i e

pub number_within : (count : ℕ) (ph : Phandle) (i : ℕ) → number_of count ph ≡ Some i → i < count
number_within count ph i e = number_if (nat_lt ph.0.0 first_phandle) count (ph.0.0 - first_phandle) i e

-- ---- what was added

added_if : (b : Bool) (ns after : List Node) → (if b then Ok ns else Err BadName) ≡ Ok after → (b ≡ true) × (ns ≡ after)
added_if true ns after e = (refl, cc)
added_if false ns after e = absurd (never BadName after e)

-- the nodes with the method, by the number of its node
abbrev with_it : List Node → ℕ → List ℕ → Cell → List Node
with_it ns i name xt = with_methods ns i (with_method (methods_in ns i) name xt)

-- what is found then, by what the node has
found_then : (ns after : List Node) (ph : Phandle) (i : ℕ) (name other : List ℕ) (xt : Cell)
    → number_of (length ns) ph ≡ Some i → with_it ns i name xt ≡ after
    → method_found after ph other ≡ Ok (method_in (with_method (methods_in ns i) name xt) other)
found_then ns after ph i name other xt at is =
    let many : length after ≡ length ns = ap length (sym is) ∙ length-set ns i _ in
    by_number after ph i _ (ap (λ k. number_of k ph) many ∙ at)
    ∙ (ap (λ l. Ok (method_in (methods_in l i) other)) (sym is)
    ∙ ap (λ (ms : List (List ℕ × Cell)). Ok (method_in ms other))
    (methods_there ns i (with_method (methods_in ns i) name xt) (number_within (length ns) ph i at)))

if_named : (b : Bool) (v w : Option Cell) → b ≡ true → v ≡ w → (if b then v else None) ≡ w
if_named true v w h e = e
if_named false v w h e = cc

added_found : (ns after : List Node) (ph : Phandle) (name : List ℕ) (xt : Cell)
    → method_added ns ph name xt ≡ Ok after → method_found after ph name ≡ Ok (Some xt)
added_found ns after ph name xt e =
    let there = numbered_is (number_of (length ns) ph) (added_at ns name xt) after e in
    let i = there.0 in
    let is = added_if (is_method_name name) (with_it ns i name xt) after there.2 in
    found_then ns after ph i name name xt there.1 is.1
    ∙ ap Ok (if_named (is_method_name name) _ (Some xt) is.0 (entry_found (methods_in ns i) (lower name) xt))

others_kept : (ns after : List Node) (ph : Phandle) (name other : List ℕ) (xt : Cell)
    → method_added ns ph name xt ≡ Ok after → lower other ≢ lower name
    → method_found after ph other ≡ method_found ns ph other
others_kept ns after ph name other xt e apart =
    let there = numbered_is (number_of (length ns) ph) (added_at ns name xt) after e in
    let i = there.0 in
    let is = added_if (is_method_name name) (with_it ns i name xt) after there.2 in
    found_then ns after ph i name other xt there.1 is.1
    ∙ (ap (λ (v : Option Cell). Ok (if is_method_name other then v else None))
    (others_found (methods_in ns i) (lower name) (lower other) xt apart)
    ∙ sym (by_number ns ph i _ there.1))

pub methods_are_found : MethodsAreFound
methods_are_found = record { added = added_found; others = others_kept; taken_back = undone }
