-- The tree at first, node by node.
use Rattle.std.proofs.Common.{◌≡◌, ℕ, ◌+◌, ◌<◌, ◌≤◌, nat_le, Bool, true, false, List, [], ◌∷◌, ◌++◌, codes, length}
use Rattle.std.proofs.lemmas.Bool.{le-leb, leb-true, lt-leb}
use Rattle.std.proofs.Common.{Result, Ok, Err, refl, ap, ◌∙◌, arith}
use Rattle.std.proofs.lemmas.Bool.Decides.{nat_tests}
use Rattle.of_memory.specs.DataSpace.{DataSpace}
use Rattle.of_memory.specs.Growth.{aligned, property_put, property_room, value_put, with_name}
use Rattle.of_memory.specs.Regions.{property_limit}
use Rattle.of_memory.specs.declared.fault.MemFault.{MemFault}
use Rattle.of_memory.specs.declared.fault.MemFault.TheVariants.{Full}
use Rattle.of_nodes.specs.declared.tree.Node.{Node}
use Rattle.of_nodes.specs.declared.properties.Property.{Property}
use Rattle.of_nodes.specs.declared.fault.NodeFault.{NodeFault}
use Rattle.of_nodes.specs.declared.fault.NodeFault.TheVariants.{PropertyFull}
use Rattle.of_nodes.specs.Properties.{new_property, property_set, set_to}
use Rattle.of_nodes.specs.Nodes.{first_tree, named_child, then_child, with_node}
use Rattle.of_nodes.proofs.PropertyPuts.{put_at}

pub named_made :
    (ns : List Node) (m after : DataSpace) (parent : ℕ) (value : List ℕ) (ps : List (List ℕ × Property))
    → property_set m [] (codes "name") value ≡ Ok (ps, after)
    → named_child ns m parent value ≡ Ok (ns ++ record { parent = parent; properties = ps; methods = [] } ∷ [], after)
named_made ns m after parent value ps e = ap (with_node ns parent) e

pub named_refused :
    (ns : List Node) (m : DataSpace) (parent : ℕ) (value : List ℕ) (e : NodeFault)
    → property_set m [] (codes "name") value ≡ Err e → named_child ns m parent value ≡ Err e
named_refused ns m parent value e h = ap (with_node ns parent) h

pub ruleset named = (named_made, named_refused)

abbrev pub board : List ℕ
board = codes "board" ++ 0 ∷ []

abbrev pub packages : List ℕ
packages = codes "packages" ++ 0 ∷ []

abbrev pub slot : List ℕ
slot = codes "slot" ++ 0 ∷ []

pub first_refused : (m : DataSpace) (e : NodeFault) → named_child [] m 0 board ≡ Err e → first_tree m ≡ Err e
first_refused m e h =
    ap (λ (r : Result (List Node × DataSpace) NodeFault). then_child (then_child r packages) slot) h

-- what the two behind the root come to
pub rest_is :
    (m m1 : DataSpace) (ns : List Node) (r : Result (List Node × DataSpace) NodeFault)
    → named_child [] m 0 board ≡ Ok (ns, m1) → then_child (named_child ns m1 0 packages) slot ≡ r
    → first_tree m ≡ r
rest_is m m1 ns r f h =
    ap (λ (r : Result (List Node × DataSpace) NodeFault). then_child (then_child r packages) slot) f ∙ h

pub packages_refused :
    (m : DataSpace) (ns : List Node) (e : NodeFault) → named_child ns m 0 packages ≡ Err e
    → then_child (named_child ns m 0 packages) slot ≡ Err e
packages_refused m ns e h = ap (λ (r : Result (List Node × DataSpace) NodeFault). then_child r slot) h

pub slot_is :
    (m m2 : DataSpace) (ns ns2 : List Node) (r : Result (List Node × DataSpace) NodeFault)
    → named_child ns m 0 packages ≡ Ok (ns2, m2) → named_child ns2 m2 0 slot ≡ r
    → then_child (named_child ns m 0 packages) slot ≡ r
slot_is m m2 ns ns2 r g h = ap (λ (r : Result (List Node × DataSpace) NodeFault). then_child r slot) g ∙ h

pub ruleset thens = (packages_refused, slot_is)

pub ruleset first_thens = (first_refused, rest_is)

second_refused :
    (m m1 : DataSpace) (ns : List Node) (e : NodeFault) → named_child [] m 0 board ≡ Ok (ns, m1)
    → named_child ns m1 0 packages ≡ Err e → first_tree m ≡ Err e
second_refused m m1 ns e f h = rest_is m m1 ns (Err e) f (packages_refused m1 ns e h)

third_is :
    (m m1 m2 : DataSpace) (ns ns2 : List Node) (r : Result (List Node × DataSpace) NodeFault)
    → named_child [] m 0 board ≡ Ok (ns, m1) → named_child ns m1 0 packages ≡ Ok (ns2, m2)
    → named_child ns2 m2 0 slot ≡ r → first_tree m ≡ r
third_is m m1 m2 ns ns2 r f g h = rest_is m m1 ns r f (slot_is m1 m2 ns ns2 r g h)

-- ---- room for a name

is_more : (a b : ℕ) → nat_le a b ≡ false → b < a
is_more a b e = grind (arith, nat_tests)

put_ok : (m : DataSpace) (xs : List ℕ) → aligned m.properties_end + length xs ≤ property_limit
    → property_put m xs ≡ Ok (aligned m.properties_end, put_at m (aligned m.properties_end) xs)
put_ok m xs l = rw (le-leb (aligned m.properties_end + length xs) property_limit l) refl

put_full : (m : DataSpace) (xs : List ℕ) → property_limit < aligned m.properties_end + length xs
    → property_put m xs ≡ Err Full
put_full m xs l = rw (lt-leb (aligned m.properties_end + length xs) property_limit l) refl

-- where the value of a name ends that is put next
abbrev end_with : DataSpace → List ℕ → ℕ
end_with m value = aligned (aligned m.properties_end + 4) + length value

-- the node of what a put of the name gave, and then of the value
abbrev node_of_name : List Node → List ℕ → Result (ℕ × DataSpace) MemFault → Result (List Node × DataSpace) NodeFault
node_of_name ns value r =
    with_node ns 0 (set_to [] (codes "name") (new_property 4 (length value) (value_put value r)))

abbrev node_of_value :
    List Node → List ℕ → ℕ → Result (ℕ × DataSpace) MemFault → Result (List Node × DataSpace) NodeFault
node_of_value ns value a r =
    with_node ns 0 (set_to [] (codes "name") (new_property 4 (length value) (with_name a r)))

record IsMade (ns : List Node) (m : DataSpace) (value : List ℕ) : Type 0 where
  nodes : List Node
  after : DataSpace
  made : named_child ns m 0 value ≡ Ok (nodes, after)
  ends : after.properties_end ≡ end_with m value

name_end : (m : DataSpace) (a : ℕ) → (put_at m a (codes "name")).properties_end ≡ a + 4
name_end m a = refl

fitting : (ns : List Node) (m : DataSpace) (value : List ℕ) → end_with m value ≤ property_limit → IsMade ns m value
fitting ns m value l =
    let a = aligned m.properties_end in
    let between = put_at m a (codes "name") in
    let b = aligned (a + 4) in
    let name = put_ok m (codes "name") (omega arith) in
    let then_value = put_ok between value l in
    record {
      nodes = _;
      after = put_at between b value;
      made = ap (node_of_name ns value) name ∙ ap (node_of_value ns value a) then_value;
      ends = refl;
    }

full_if : (t : Bool) (ns : List Node) (m : DataSpace) (value : List ℕ)
    → nat_le (aligned m.properties_end + 4) property_limit ≡ t → property_limit < end_with m value
    → named_child ns m 0 value ≡ Err PropertyFull
full_if true ns m value e l =
    let a = aligned m.properties_end in
    ap (node_of_name ns value) (put_ok m (codes "name") (leb-true (a + 4) property_limit e))
    ∙ ap (node_of_value ns value a) (put_full (put_at m a (codes "name")) value l)
full_if false ns m value e l =
    ap (node_of_name ns value) (put_full m (codes "name") (is_more (aligned m.properties_end + 4) property_limit e))

full : (ns : List Node) (m : DataSpace) (value : List ℕ) → property_limit < end_with m value
    → named_child ns m 0 value ≡ Err PropertyFull
full ns m value l = full_if (nat_le (aligned m.properties_end + 4) property_limit) ns m value refl l

-- ---- room for all three

never : (r : Result (List Node × DataSpace) NodeFault) (x : List Node × DataSpace) (e : NodeFault) → r ≡ Ok x
    → r ≡ Err e → ⊥
never r x e p q = cc

pub names_fit : (m : DataSpace) (e : NodeFault) → 37 ≤ property_room m → first_tree m ≡ Err e → ⊥
names_fit m e l h =
    let b = fitting [] m board (omega arith) in
    let p = fitting b.nodes b.after packages (omega (arith, b.ends)) in
    let s = fitting p.nodes p.after slot (omega (arith, b.ends, p.ends)) in
    let done = third_is m b.after p.after b.nodes p.nodes (Ok (s.nodes, s.after)) b.made p.made s.made in
    never (first_tree m) (s.nodes, s.after) e done h

third_full : (m : DataSpace) (b : IsMade [] m board) (p : IsMade b.nodes b.after packages) → property_room m < 37
    → first_tree m ≡ Err PropertyFull
third_full m b p l =
    third_is m b.after p.after b.nodes p.nodes (Err PropertyFull) b.made p.made
    (full p.nodes p.after slot (omega (arith, b.ends, p.ends)))

second_full : (t : Bool) (m : DataSpace) (b : IsMade [] m board) → property_room m < 37
    → nat_le (end_with b.after packages) property_limit ≡ t → first_tree m ≡ Err PropertyFull
second_full true m b l e =
    third_full m b (fitting b.nodes b.after packages (leb-true (end_with b.after packages) property_limit e)) l
second_full false m b l e =
    second_refused m b.after b.nodes PropertyFull b.made
    (full b.nodes b.after packages (is_more (end_with b.after packages) property_limit e))

first_full : (t : Bool) (m : DataSpace) → property_room m < 37 → nat_le (end_with m board) property_limit ≡ t
    → first_tree m ≡ Err PropertyFull
first_full true m l e =
    let b = fitting [] m board (leb-true (end_with m board) property_limit e) in
    second_full (nat_le (end_with b.after packages) property_limit) m b l refl
first_full false m l e = first_refused m PropertyFull (full [] m board (is_more (end_with m board) property_limit e))

pub names_full : (m : DataSpace) → property_room m < 37 → first_tree m ≡ Err PropertyFull
names_full m l = first_full (nat_le (end_with m board) property_limit) m l refl

pub ruleset refusals = (names_full, names_fit)
