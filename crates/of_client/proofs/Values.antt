-- The law `values_are_got`: the property that is found has its value's bytes.
use Rattle.std.proofs.Common.{◌≡◌, ◌%◌, ◌^◌, ◌≤◌, ◌<◌, ℕ, zero, suc, List, [], length, take, drop, Option, Some}
use Rattle.std.proofs.Common.{None, Result, Ok, Err, refl, sym}
use Rattle.std.proofs.Common.{ap, ◌∙◌, subst, arith}
use Rattle.std.proofs.lemmas.List.{length-drop, length-take}
use Rattle.of_cells.specs.Numbers.{cell}
use Rattle.of_cells.specs.declared.cells.Cell.{Cell}
use Rattle.of_memory.specs.Access.{read_bytes, read_fault, unless}
use Rattle.of_memory.specs.DataSpace.{DataSpace, IsSound, bytes_from}
use Rattle.of_memory.specs.RangeLaws.{RangesArePlaced}
use Rattle.of_memory.specs.Regions.{place_of}
use Rattle.of_memory.specs.declared.fault.MemFault.{MemFault}
use Rattle.of_memory.specs.declared.width.Width.TheVariants.{One}
use Rattle.of_nodes.specs.declared.fault.NodeFault.{NodeFault}
use Rattle.of_nodes.specs.declared.phandles.Phandle.{Phandle}
use Rattle.of_nodes.specs.declared.properties.Property.{Property}
use Rattle.of_nodes.specs.declared.properties.Span.{Span}
use Rattle.of_nodes.specs.declared.tree.Node.{Node}
use Rattle.of_nodes.specs.Nodes.{property_found, tree_property_set}
use Rattle.of_nodes.specs.PropertyLaw.{Holds, PropertiesAreFound}
use Rattle.of_client.specs.Laws.{ValuesAreGot}
use Rattle.of_nodes.specs.Properties.{bytes_at, bytes_read}
use Rattle.of_client.specs.Services.{Reply, number, value_bytes, value_length}

-- ---- a range that was read

unless_is : (o : Option MemFault) (xs ys : List ℕ) → unless o xs ≡ Ok ys → (o ≡ None) × (xs ≡ ys)
unless_is None xs ys e = let same : ◌≡◌ {A = Result (List ℕ) MemFault} (Ok xs) (Ok ys) = e in (refl, cc)
unless_is (Some fault) xs ys e = absurd cc

whole : RangesArePlaced → (m : DataSpace) (a n : ℕ) → IsSound m → read_fault m a n One ≡ None
    → length (bytes_from m a n) ≡ n
whole g m a zero s e = refl
whole g m a (suc k) s e =
    let p = g.placed m a (suc k) One e (omega arith) in
    omega (
      arith,
      length-take (suc k) (drop (place_of a) m.bytes),
      length-drop (place_of a) m.bytes,
      s.bytes,
      p.some,
      p.last,
      p.within,
    )

short : RangesArePlaced → (m : DataSpace) (a n : ℕ) → read_fault m a n One ≡ None → n % 2 ^ 32 ≡ n
short g m a zero e = omega arith
short g m a (suc k) e = let end = g.ends m a (suc k) One e (omega arith) in omega (arith, end)

-- a span that has these bytes is as long as they are
as_long : RangesArePlaced → (m : DataSpace) (s : Span) (xs : List ℕ) → IsSound m → Holds m s xs
    → s.length ≡ cell (length xs)
as_long g m s xs sound h =
    let read = unless_is (read_fault m s.address.0 s.length.0 One) (bytes_from m s.address.0 s.length.0) xs h in
    let n : length xs ≡ s.length.0 =
    ap length (sym read.1) ∙ whole g m s.address.0 s.length.0 sound read.0 in
    let few : length xs % 2 ^ 32 ≡ s.length.0 =
    ap (λ k. k % 2 ^ 32) n ∙ short g m s.address.0 s.length.0 read.0 in
    ap (λ k. record { 0 = k }) (sym few)

-- ---- the law

whole_of : RangesArePlaced → PropertiesAreFound → (m after : DataSpace) (ns nodes : List Node) (ph : Phandle)
    (name value : List ℕ) → IsSound m → IsSound after → tree_property_set m ns ph name value ≡ Ok (nodes, after)
    → value_length (property_found nodes ph name) ≡ number (length value)
whole_of g l m after ns nodes ph name value s sound e =
    let set = l.set m after ns nodes ph name value s e in
    ap value_length set.found
    ∙ ap (λ (k : Cell). (k, [])) (as_long g after set.property.value value sound set.value_bytes)

part_of : RangesArePlaced → PropertiesAreFound → (m after : DataSpace) (ns nodes : List Node) (ph : Phandle)
    (name value : List ℕ) (room : ℕ) → IsSound m → IsSound after
    → tree_property_set m ns ph name value ≡ Ok (nodes, after)
    → value_bytes after room (property_found nodes ph name) ≡ (cell (length value), take room value)
part_of g l m after ns nodes ph name value room s sound e =
    let set = l.set m after ns nodes ph name value s e in
    ap (value_bytes after room) set.found
    ∙ ap (λ (k : Cell). (k, take room (bytes_at after set.property.value)))
    (as_long g after set.property.value value sound set.value_bytes)
    ∙ ap (λ r. (cell (length value), take room (bytes_read r))) set.value_bytes

pub values_are_got : RangesArePlaced → PropertiesAreFound → ValuesAreGot
values_are_got g l = record {
  whole = λ m after ns nodes ph name value s sound e. whole_of g l m after ns nodes ph name value s sound e;
  part = λ m after ns nodes ph name value room s sound e. part_of g l m after ns nodes ph name value room s sound e;
}
