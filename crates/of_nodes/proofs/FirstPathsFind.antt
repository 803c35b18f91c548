-- The law `first_paths_find`: the nodes that are made first are found by their paths.
use Rattle.std.proofs.Common.{◌≡◌, ℕ, ◌+◌, ◌-◌, ◌<◌, true, false, List, [], ◌∷◌, ◌++◌, length, take, Some, Result, Ok}
use Rattle.std.proofs.Common.{Err, replicate, refl, ap, ◌∙◌, arith, codes}
use Rattle.std.specs.List.{All}
use Rattle.std.proofs.lemmas.List.{length-replicate, length-set}
use Rattle.std.proofs.lemmas.List.Elements.{All-replicate, All-set}
use Rattle.of_memory.specs.Access.{read_bytes}
use Rattle.of_memory.specs.DataSpace.{DataSpace, IsSound, fresh, zeros_with}
use Rattle.of_memory.specs.Regions.{byte_count, place_of, scratch_start}
use Rattle.of_memory.specs.Growth.{named_put, property_put, value_put, with_name}
use Rattle.of_memory.specs.declared.fault.MemFault.{MemFault}
use Rattle.of_nodes.specs.declared.tree.Node.{Node}
use Rattle.of_nodes.specs.declared.properties.Property.{Property}
use Rattle.of_nodes.specs.declared.fault.NodeFault.{NodeFault}
use Rattle.of_nodes.specs.Components.{address_cells, node_name, readable, without_end}
use Rattle.of_nodes.specs.FirstPaths.{FirstPathsFind}
use Rattle.of_nodes.specs.Asked.{asked, fits}
use Rattle.of_nodes.specs.Lookup.{found, node_of}
use Rattle.of_nodes.specs.Nodes.{first_tree, named_child, phandle_in, phandle_of, then_child, with_node}
use Rattle.of_nodes.specs.Properties.{new_property, same_name, set_to, span}
use Rattle.of_nodes.proofs.ComponentsFit.{and_true}
use Rattle.of_nodes.proofs.PropertyPuts.{IsPut, IsStored, IsWide, is_put, stays_stored, stored_after, stored_reads}
use Rattle.of_nodes.proofs.PropertyPuts.{wide_after}

-- a node below the root that has a name alone
abbrev named_node : Property → Node
named_node p = record { parent = 0; properties = (codes "name", p) ∷ []; methods = [] }

abbrev property_of : ℕ → ℕ × ℕ × DataSpace → Property
property_of n x = record { name = span x.0 4; value = span x.1 n }

-- what making such a node shows
record IsMade (m after : DataSpace) (ns ms : List Node) (value : List ℕ) (p : Property) : Type 0 where
  pub nodes : ms ≡ ns ++ named_node p ∷ []
  pub whole : p.value.length.0 ≡ length value
  pub wide : IsWide after
  pub stored : IsStored after p.value.address.0 value
  pub stays : (a : ℕ) (xs : List ℕ) → IsStored m a xs → IsStored after a xs

-- two puts, one behind the other
pub record ArePut (m : DataSpace) (name value : List ℕ) (x : ℕ × ℕ × DataSpace) (between : DataSpace) : Type 0 where
  pub name_put : IsPut m between name x.0
  pub then_value : IsPut between x.2 value x.1

second_put :
    (m between : DataSpace) (name value : List ℕ) (a : ℕ) (r : Result (ℕ × DataSpace) MemFault)
    (x : ℕ × ℕ × DataSpace) → IsPut m between name a → property_put between value ≡ r → with_name a r ≡ Ok x
    → ArePut m name value x between
second_put m between name value a (Ok y) x p g e =
    let same : ◌≡◌ {A = ℕ × ℕ × DataSpace} (a, y.0, y.1) x = cc in
    rw (← same) record { name_put = p; then_value = is_put between value y g }
second_put m between name value a (Err f) x p g e = cc

pub first_put :
    (m : DataSpace) (name value : List ℕ) (r : Result (ℕ × DataSpace) MemFault) (x : ℕ × ℕ × DataSpace)
    → property_put m name ≡ r → value_put value r ≡ Ok x → (between : DataSpace) × ArePut m name value x between
first_put m name value (Ok y) x g e =
    (y.1, second_put m y.1 name value y.0 (property_put y.1 value) x (is_put m name y g) refl e)
first_put m name value (Err f) x g e = cc

made_of :
    (r : Result (ℕ × ℕ × DataSpace) MemFault) (m : DataSpace) (ns : List Node) (value : List ℕ)
    (y : List Node × DataSpace) → IsWide m → named_put m (codes "name") value ≡ r
    → with_node ns 0 (set_to [] (codes "name") (new_property 4 (length value) r)) ≡ Ok y
    → (p : Property) × IsMade m y.1 ns y.0 value p
made_of (Ok x) m ns value y w g e =
    let p = property_of (length value) x in
    let same : ◌≡◌ {A = List Node × DataSpace} (ns ++ named_node p ∷ [], x.2) y = cc in
    let b = first_put m (codes "name") value (property_put m (codes "name")) x refl g in
    let between = b.0 in
    let wide : IsWide between = wide_after m between (codes "name") x.0 w b.1.name_put in
    let made : IsMade m x.2 ns (ns ++ named_node p ∷ []) value p =
    record {
      nodes = refl;
      whole = refl;
      wide = wide_after between x.2 value x.1 wide b.1.then_value;
      stored = stored_after between x.2 value x.1 wide b.1.then_value;
      stays = λ a xs s.
          stays_stored between x.2 value xs x.1 a wide b.1.then_value
          (stays_stored m between (codes "name") xs x.0 a w b.1.name_put s);
    } in
    (p, rw (← same) made)
made_of (Err f) m ns value y w g e = cc

made :
    (m : DataSpace) (ns : List Node) (value : List ℕ) (y : List Node × DataSpace) → IsWide m
    → named_child ns m 0 value ≡ Ok y → (p : Property) × IsMade m y.1 ns y.0 value p
made m ns value y w e = made_of (named_put m (codes "name") value) m ns value y w refl e

-- what was made before
pub before_it :
    (r : Result (List Node × DataSpace) NodeFault) (value : List ℕ) (y : List Node × DataSpace)
    → then_child r value ≡ Ok y
    → (x : List Node × DataSpace) × (r ≡ Ok x) × (named_child x.0 x.1 0 value ≡ Ok y)
before_it (Ok x) value y e = (x, refl, e)
before_it (Err f) value y e = cc

abbrev packages : List ℕ
packages = codes "packages" ++ 0 ∷ []

abbrev slot : List ℕ
slot = codes "slot" ++ 0 ∷ []

-- the nodes at first, and the names of two of them
record AreFirst (ns : List Node) (m : DataSpace) (p q r : Property) : Type 0 where
  pub nodes : ns ≡ named_node p ∷ named_node q ∷ named_node r ∷ []
  pub packages_name : node_name m (named_node q) ≡ codes "packages"
  pub slot_name : node_name m (named_node r) ≡ codes "slot"

name_is :
    (m : DataSpace) (p : Property) (value : List ℕ) → p.value.length.0 ≡ length value
    → IsStored m p.value.address.0 value → node_name m (named_node p) ≡ take (length value - 1) value
name_is m p value whole s =
    ap (λ (n : ℕ). without_end (readable (read_bytes m p.value.address.0 n))) whole
    ∙ ap (λ (r : Result (List ℕ) MemFault). without_end (readable r)) (stored_reads m p.value.address.0 value s)

three_nodes :
    (p q r : Property) (xs ys zs : List Node) → xs ≡ [] ++ named_node p ∷ [] → ys ≡ xs ++ named_node q ∷ []
    → zs ≡ ys ++ named_node r ∷ [] → zs ≡ named_node p ∷ named_node q ∷ named_node r ∷ []
three_nodes p q r xs ys zs e f g =
    let two : ys ≡ named_node p ∷ named_node q ∷ [] = f ∙ ap (λ (l : List Node). l ++ named_node q ∷ []) e in
    g ∙ ap (λ (l : List Node). l ++ named_node r ∷ []) two

are_first :
    (m after : DataSpace) (ns : List Node) → IsWide m → first_tree m ≡ Ok (ns, after)
    → (p : Property) × (q : Property) × (r : Property) × AreFirst ns after p q r
are_first m after ns w e =
    let b2 = before_it (then_child (named_child [] m 0 (codes "board" ++ 0 ∷ [])) packages) slot (ns, after) e in
    let b1 = before_it (named_child [] m 0 (codes "board" ++ 0 ∷ [])) packages b2.0 b2.1 in
    let m1 = made m [] (codes "board" ++ 0 ∷ []) b1.0 w b1.1 in
    let m2 = made b1.0.1 b1.0.0 packages b2.0 m1.1.wide b1.2 in
    let m3 = made b2.0.1 b2.0.0 slot (ns, after) m2.1.wide b2.2 in (
      m1.0,
      m2.0,
      m3.0,
      record {
        nodes = three_nodes m1.0 m2.0 m3.0 b1.0.0 b2.0.0 ns m1.1.nodes m2.1.nodes m3.1.nodes;
        packages_name = name_is after m2.0 packages m2.1.whole (m3.1.stays m2.0.value.address.0 packages m2.1.stored);
        slot_name = name_is after m3.0 slot m3.1.whole m3.1.stored;
      },
    )

-- a component that has no unit address fits by the name alone
slot_fits : (m : DataSpace) (count : ℕ) (n : Node) (name : List ℕ) → node_name m n ≡ name
    → fits m count n (asked (codes "slot")) ≡ same_name (codes "slot") name
slot_fits m count n name e =
    and_true (same_name (codes "slot") (node_name m n)) ∙ ap (same_name (codes "slot")) e

packages_fits : (m : DataSpace) (count : ℕ) (n : Node) (name : List ℕ) → node_name m n ≡ name
    → fits m count n (asked (codes "packages")) ≡ same_name (codes "packages") name
packages_fits m count n name e =
    and_true (same_name (codes "packages") (node_name m n)) ∙ ap (same_name (codes "packages")) e

second_found :
    (m : DataSpace) (p q r : Property)
    → fits m (address_cells m (named_node p)) (named_node q) (asked (codes "packages")) ≡ true
    → node_of m (named_node p ∷ named_node q ∷ named_node r ∷ []) (codes "/packages") ≡ Some 1
second_found m p q r e = rw e refl

third_found :
    (m : DataSpace) (p q r : Property)
    → fits m (address_cells m (named_node p)) (named_node q) (asked (codes "slot")) ≡ false
    → fits m (address_cells m (named_node p)) (named_node r) (asked (codes "slot")) ≡ true
    → node_of m (named_node p ∷ named_node q ∷ named_node r ∷ []) (codes "/slot") ≡ Some 2
third_found m p q r e g = rw (e, g) refl

pub wide : (m : DataSpace) → IsSound m → IsWide m
wide m s = record { bytes = s.bytes; from = s.properties_from }

packages_found :
    (m after : DataSpace) (ns : List Node) → IsSound m → first_tree m ≡ Ok (ns, after)
    → found after ns (codes "/packages") ≡ Some (phandle_of 1)
packages_found m after ns s e =
    let f = are_first m after ns (wide m s) e in
    let a = f.3 in
    let count = address_cells after (named_node f.0) in
    rw (a.nodes) (ap phandle_in (second_found after f.0 f.1 f.2
    (packages_fits after count (named_node f.1) (codes "packages") a.packages_name)))

slot_found :
    (m after : DataSpace) (ns : List Node) → IsSound m → first_tree m ≡ Ok (ns, after)
    → found after ns (codes "/slot") ≡ Some (phandle_of 2)
slot_found m after ns s e =
    let f = are_first m after ns (wide m s) e in
    let a = f.3 in
    let count = address_cells after (named_node f.0) in
    rw (a.nodes) (ap phandle_in (third_found after f.0 f.1 f.2
    (slot_fits after count (named_node f.1) (codes "packages") a.packages_name)
    (slot_fits after count (named_node f.2) (codes "slot") a.slot_name)))

-- the data space at first
zeros_length : (count place value : ℕ) → length (zeros_with count place value) ≡ count
unfolding zeros_with
zeros_length count place value = length-set (replicate count 0) place value ∙ length-replicate count 0

zeros_small : (count place value : ℕ) → value < 256 → All (λ b. b < 256) (zeros_with count place value)
unfolding zeros_with
zeros_small count place value l =
    All-set (λ b. b < 256) (replicate count 0) place value l (All-replicate (λ b. b < 256) count 0 (omega arith))

fresh_sound : IsSound fresh
unfolding fresh
fresh_sound = record {
  bytes = zeros_length byte_count (place_of (scratch_start + 3)) 16;
  small = zeros_small byte_count (place_of (scratch_start + 3)) 16 (omega arith);
  here_from = omega arith;
  here_to = omega arith;
  properties_from = omega arith;
  properties_to = omega arith;
  images = tt;
  few = omega arith;
  heap = (omega arith, refl);
  instances = (omega arith, refl);
}

pub first_paths_find : FirstPathsFind
first_paths_find = record { fresh_too = fresh_sound; packages = packages_found; slot = slot_found }
