-- The law `properties_keep_the_space`: properties are put, which of_memory says keeps a sound space and its images.
use Rattle.std.proofs.Common.{◌≡◌, ℕ, ◌<◌, true, List, [], ◌∷◌, length, nat_lt, Option, Some, None}
use Rattle.std.proofs.Common.{Result, Ok, Err, codes, refl, ◌∙◌}
use Rattle.std.proofs.lemmas.Bool.{and_parts, ltb-true}
use Rattle.std.proofs.lemmas.List.Elements.{All-cons, All-nil}
use Rattle.std.specs.List.{list_all}
use Rattle.of_memory.specs.DataSpace.{DataSpace, IsSound}
use Rattle.of_memory.specs.Growth.{named_put, property_put}
use Rattle.of_memory.specs.ImageRegion.{ImagesChangeByImagesAlone}
use Rattle.of_memory.specs.SoundChanges.{AreBytes, ChangesStaySound}
use Rattle.of_memory.specs.declared.fault.MemFault.{MemFault}
use Rattle.of_nodes.specs.declared.fault.NodeFault.{NodeFault}
use Rattle.of_nodes.specs.declared.properties.Property.{Property}
use Rattle.of_nodes.specs.declared.tree.Node.{Node}
use Rattle.of_nodes.specs.Nodes.{first_tree, named_child, properties_in, then_child, with_node}
use Rattle.of_nodes.specs.Properties.{new_property, set_to, stored, value_in, with_value}
use Rattle.of_nodes.specs.SpaceKept.{Keeps, PropertiesKeepTheSpace}
use Rattle.of_nodes.proofs.FirstPathsFind.{before_it}
use Rattle.of_nodes.proofs.FirstTree.{board, packages, slot}
use Rattle.of_nodes.proofs.PropertiesAreFound.{setting}

-- what the laws of of_memory say
pub record Given : Type 0 where
  pub sound : ChangesStaySound
  pub images : ImagesChangeByImagesAlone

-- bytes, by a test of each
small : (xs : List ℕ) → list_all (λ b. nat_lt b 256) xs ≡ true → AreBytes xs
small [] e = All-nil (λ b. b < 256)
small (b ∷ xs) e =
    let both = and_parts (nat_lt b 256) (list_all (λ b. nat_lt b 256) xs) e in
    All-cons (λ b. b < 256) b xs (ltb-true b 256 both.0) (small xs both.1)

-- ---- what is left of a data space where something was put

abbrev Left : {A F : Type 0} → DataSpace → Result (A × DataSpace) F → Type 0
Left m (Ok x) = Keeps m x.1
Left m (Err fault) = Unit {0}

left_is : {A F : Type 0} (m : DataSpace) (r : Result (A × DataSpace) F) (x : A × DataSpace) → Left m r → r ≡ Ok x
    → Keeps m x.1
left_is m (Ok y) x h e = let is : y ≡ x = cc in rw (← is) h
left_is m (Err fault) x h e = absurd cc

new : (g : Given) (m : DataSpace) (name value : List ℕ) (r : Result (ℕ × ℕ × DataSpace) MemFault) → IsSound m
    → AreBytes name → AreBytes value → named_put m name value ≡ r
    → Left m (new_property (length name) (length value) r)
new g m name value (Ok x) sound n v e = record {
  sound = g.sound.by_named_put m x.2 name value x.0 x.1 sound n v e;
  images = g.images.by_named_put m x.2 name value x.0 x.1 sound e;
}
new g m name value (Err fault) sound n v e = tt

other : (g : Given) (m : DataSpace) (p : Property) (value : List ℕ) (r : Result (ℕ × DataSpace) MemFault) → IsSound m
    → AreBytes value → property_put m value ≡ r → Left m (with_value p (length value) r)
other g m p value (Ok x) sound v e = record {
  sound = g.sound.by_put m x.1 value x.0 sound v e;
  images = g.images.by_put m x.1 value x.0 sound e;
}
other g m p value (Err fault) sound v e = tt

puts : (g : Given) (m : DataSpace) (before : Option Property) (name value : List ℕ) → IsSound m → AreBytes name
    → AreBytes value → Left m (stored m before name value)
puts g m None name value sound n v = new g m name value (named_put m name value) sound n v refl
puts g m (Some p) name value sound n v = other g m p value (property_put m value) sound v refl

-- ---- the first tree

then : (m between after : DataSpace) → Keeps m between → Keeps between after → Keeps m after
then m between after f g =
    record { sound = g.sound; images = (g.images.0 ∙ f.images.0, g.images.1 ∙ f.images.1) }

node_more : (m : DataSpace) (ns : List Node) (r : Result (Property × DataSpace) NodeFault) → Left m r
    → Left m (with_node ns 0 (set_to [] (codes "name") r))
node_more m ns (Ok x) h = h
node_more m ns (Err fault) h = tt

-- a child of the root with a name
child : (g : Given) (m : DataSpace) (ns : List Node) (value : List ℕ) (x : List Node × DataSpace) → IsSound m
    → list_all (λ b. nat_lt b 256) value ≡ true → named_child ns m 0 value ≡ Ok x → Keeps m x.1
child g m ns value x sound v e =
    left_is m (named_child ns m 0 value) x
    (node_more m ns (stored m None (codes "name") value)
    (puts g m None (codes "name") value sound (small (codes "name") refl) (small value v)))
    e

first : (g : Given) (m after : DataSpace) (ns : List Node) → IsSound m → first_tree m ≡ Ok (ns, after) → Keeps m after
first g m after ns sound e =
    let b2 = before_it (then_child (named_child [] m 0 board) packages) slot (ns, after) e in
    let b1 = before_it (named_child [] m 0 board) packages b2.0 b2.1 in
    let one = child g m [] board b1.0 sound refl b1.1 in
    let two = child g b1.0.1 b1.0.0 packages b2.0 one.sound refl b1.2 in
    let three = child g b2.0.1 b2.0.0 slot (ns, after) two.sound refl b2.2 in
    then m b1.0.1 after one (then b1.0.1 b2.0.1 after two three)

pub properties_keep_the_space : Given → PropertiesKeepTheSpace
properties_keep_the_space g = record {
  first = first g;
  by_set = λ m after ns nodes ph name value sound n v e.
      let s = setting m after ns nodes ph name value e in
      let before = value_in (properties_in ns s.i) name in
      left_is m (stored m before name value) (s.property, after) (puts g m before name value sound n v) s.put;
}
