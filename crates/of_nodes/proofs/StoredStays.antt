-- The law `stored_stays`.
use Rattle.std.proofs.Common.{◌≡◌, ◌≢◌, ℕ, zero, suc, ◌+◌, ◌≤◌, nat_le, Bool, true, false, List, [], ◌∷◌, ◌++◌}
use Rattle.std.proofs.Common.{◌⊎◌, inl, inr, length, Option, Some, None, Result, Ok, Err, if◌then◌else◌, codes, refl}
use Rattle.std.proofs.Common.{ap, sym, ◌∙◌, arith, set}
use Rattle.std.specs.List.{IsDistinct}
use Rattle.of_cells.specs.declared.cells.Cell.{Cell}
use Rattle.of_memory.specs.Access.{read_bytes}
use Rattle.of_memory.specs.DataSpace.{DataSpace, IsSound}
use Rattle.of_memory.specs.PropertyRegion.{KeepsProperties}
use Rattle.of_memory.specs.Regions.{first_property}
use Rattle.of_nodes.specs.declared.tree.Node.{Node}
use Rattle.of_nodes.specs.declared.phandles.Phandle.{Phandle}
use Rattle.of_nodes.specs.declared.properties.Property.{Property}
use Rattle.of_nodes.specs.declared.properties.Span.{Span}
use Rattle.of_nodes.specs.declared.fault.NodeFault.{NodeFault}
use Rattle.of_nodes.specs.declared.fault.NodeFault.TheVariants.{BadName, TooManyNodes}
use Rattle.of_nodes.specs.Methods.{is_method_name, with_former, with_method}
use Rattle.of_nodes.specs.Nodes.{added_at, first_tree, former_at, method_added, methods_in, most_nodes, named_child}
use Rattle.of_nodes.specs.Nodes.{node_at}
use Rattle.of_nodes.specs.Nodes.{new_node, node_added, number_of, phandle_of, properties_in, property_deleted}
use Rattle.of_nodes.specs.Nodes.{property_found, then_child, with_methods, with_node, with_properties}
use Rattle.of_nodes.specs.Properties.{same_name, set_to, stored, value_in, with_entry, without}
use Rattle.of_nodes.specs.PropertyLaw.{Holds}
use Rattle.of_nodes.specs.Stored.{AreHeld, AreStored, IsHeld, LiesIn, StoredStays}
use Rattle.of_nodes.proofs.NodesByPhandle.{never, numbered_is, ok_is}
use Rattle.of_nodes.proofs.FirstTree.{board, packages, slot}
use Rattle.of_nodes.proofs.FirstPathsFind.{before_it, wide}
use Rattle.of_nodes.proofs.MethodsAreFound.{entry_found, others_found, same_is}
use Rattle.of_nodes.proofs.PropertiesAreFound.{IsKept, IsSetting, kept, setting, some_property}
use Rattle.of_nodes.proofs.PropertyNames.{differ, distinct_more, distinct_without, gone, names, names_kept}
use Rattle.of_nodes.proofs.PropertyNames.{names_last, none_named, others_left}
use Rattle.of_nodes.proofs.PropertyPuts.{IsWide, stored_reads}

-- ---- what is held stays held

record Grows (m after : DataSpace) : Type 0 where
  stays : (a n : ℕ) → first_property ≤ a → a + n ≤ m.properties_end → read_bytes after a n ≡ read_bytes m a n
  ends : m.properties_end ≤ after.properties_end

lies_on : (m after : DataSpace) (s : Span) → Grows m after → LiesIn m s → LiesIn after s
lies_on m after s g l = record { from = l.from; to = omega (arith, l.to, g.ends) }

held_on : (m after : DataSpace) (name : List ℕ) (p : Property) → Grows m after → IsHeld m name p → IsHeld after name p
held_on m after name p g h = record {
  name_bytes = g.stays p.name.address.0 p.name.length.0 h.name_lies.from h.name_lies.to ∙ h.name_bytes;
  value = h.value;
  value_bytes = g.stays p.value.address.0 p.value.length.0 h.value_lies.from h.value_lies.to ∙ h.value_bytes;
  name_lies = lies_on m after p.name g h.name_lies;
  value_lies = lies_on m after p.value g h.value_lies;
}

all_on : (m after : DataSpace) (ps : List (List ℕ × Property)) → Grows m after → AreHeld m ps → AreHeld after ps
all_on m after ps g h = record {
  held = λ name p e. held_on m after name p g (h.held name p e);
  distinct = h.distinct;
}

-- ---- set

-- what was put where there was this property or none
put_held : (before : Option Property) (m after : DataSpace) (name value : List ℕ) (p : Property)
    → IsKept m after before name value p → Grows m after
    → ((q : Property) → before ≡ Some q → IsHeld m name q) → IsHeld after name p
put_held None m after name value p k g old =
    let new = k.name_new refl in
    record {
      name_bytes = ap (read_bytes after p.name.address.0) new.0 ∙ stored_reads after p.name.address.0 name new.1;
      value = value;
      value_bytes = ap (read_bytes after p.value.address.0) k.value_length
          ∙ stored_reads after p.value.address.0 value k.value_stored;
      name_lies = record { from = new.1.from; to = omega (arith, new.0, new.1.to) };
      value_lies = record { from = k.value_stored.from; to = omega (arith, k.value_length, k.value_stored.to) };
    }
put_held (Some q) m after name value p k g old =
    let h = held_on m after name q g (old q refl) in
    let same : q.name ≡ p.name = sym (k.name_old q refl) in
    let bytes : Holds after p.name name = rw (← same) h.name_bytes in
    let lies : LiesIn after p.name = rw (← same) h.name_lies in
    record {
      name_bytes = bytes;
      value = value;
      value_bytes = ap (read_bytes after p.value.address.0) k.value_length
          ∙ stored_reads after p.value.address.0 value k.value_stored;
      name_lies = lies;
      value_lies = record { from = k.value_stored.from; to = omega (arith, k.value_length, k.value_stored.to) };
    }

none_property : (p : Property) → ◌≡◌ {A = Option Property} None (Some p) → ⊥
none_property p e = cc

with_found : (b : Bool) (m after : DataSpace) (ps : List (List ℕ × Property)) (name other : List ℕ) (p q : Property)
    → same_name other name ≡ b → IsHeld after name p → Grows m after → AreHeld m ps
    → value_in (with_entry ps name p) other ≡ Some q → IsHeld after other q
with_found true m after ps name other p q h held g a e =
    let is : other ≡ name = same_is other name h in
    let same : p ≡ q =
    some_property p q (sym (entry_found ps name p) ∙ (ap (value_in (with_entry ps name p)) (sym is) ∙ e)) in
    rw is (rw (← same) held)
with_found false m after ps name other p q h held g a e =
    let apart : other ≢ name = λ z. differ other name h (sym z) in
    held_on m after other q g (a.held other q (sym (others_found ps name other p apart) ∙ e))

with_distinct : (o : Option Property) (ps : List (List ℕ × Property)) (name : List ℕ) (p : Property)
    → value_in ps name ≡ o → IsDistinct same_name (names ps) → IsDistinct same_name (names (with_entry ps name p))
with_distinct None ps name p e d =
    rw (names_last ps name p e) (distinct_more (names ps) name d (none_named ps name e))
with_distinct (Some q) ps name p e d = rw (names_kept ps name p q e) d

with_held : (m after : DataSpace) (ps : List (List ℕ × Property)) (name : List ℕ) (p : Property)
    → IsHeld after name p → Grows m after → AreHeld m ps → AreHeld after (with_entry ps name p)
with_held m after ps name p held g a = record {
  held = λ other q e. with_found (same_name other name) m after ps name other p q refl held g a e;
  distinct = with_distinct (value_in ps name) ps name p refl a.distinct;
}

-- ---- deleted

left_found : (b : Bool) (m : DataSpace) (ps : List (List ℕ × Property)) (name other : List ℕ) (q : Property)
    → same_name other name ≡ b → AreHeld m ps → value_in (without ps name) other ≡ Some q → IsHeld m other q
left_found true m ps name other q h a e =
    let is : other ≡ name = same_is other name h in
    absurd (none_property q (sym (gone ps name a.distinct) ∙ (ap (value_in (without ps name)) (sym is) ∙ e)))
left_found false m ps name other q h a e =
    let apart : other ≢ name = λ z. differ other name h (sym z) in
    a.held other q (sym (others_left ps name other apart) ∙ e)

without_held : (m : DataSpace) (ps : List (List ℕ × Property)) (name : List ℕ) → AreHeld m ps
    → AreHeld m (without ps name)
without_held m ps name a = record {
  held = λ other q e. left_found (same_name other name) m ps name other q refl a e;
  distinct = distinct_without ps name a.distinct;
}

none_held : (m : DataSpace) → AreHeld m []
unfolding IsDistinct
none_held m = record { held = λ name p e. absurd (none_property p e); distinct = tt }

-- ---- one node of all

one_set : (ns : List Node) (i : ℕ) (n : Node) (j : ℕ)
    → (node_at (set ns i n) j ≡ node_at ns j) ⊎ (node_at (set ns i n) j ≡ n)
one_set [] i n j = inl refl
one_set (k ∷ ns) zero n zero = inr refl
one_set (k ∷ ns) zero n (suc j) = inl refl
one_set (k ∷ ns) (suc i) n zero = inl refl
one_set (k ∷ ns) (suc i) n (suc j) = one_set ns i n j

with_one : (m : DataSpace) (ns : List Node) (i : ℕ) (n : Node) → AreStored m ns → AreHeld m n.properties
    → AreStored m (set ns i n)
with_one m ns i n a h = λ j.
    let properties : Node → List (List ℕ × Property) = λ x. x.properties in
    elim (one_set ns i n j) [ inl z ↦ rw (ap properties z) (a j) | inr z ↦ rw (ap properties z) h ]

one_more : (ns : List Node) (n : Node) (j : ℕ)
    → (properties_in (ns ++ n ∷ []) j ≡ properties_in ns j) ⊎ (properties_in (ns ++ n ∷ []) j ≡ n.properties)
one_more [] n zero = inr refl
one_more [] n (suc j) = inl refl
one_more (k ∷ ns) n zero = inl refl
one_more (k ∷ ns) n (suc j) = one_more ns n j

with_last : (m : DataSpace) (ns : List Node) (n : Node) → AreStored m ns → AreHeld m n.properties
    → AreStored m (ns ++ n ∷ [])
with_last m ns n a h = λ j. elim (one_more ns n j) [ inl z ↦ rw z (a j) | inr z ↦ rw z h ]

-- ---- each call

node_if : (b : Bool) (m : DataSpace) (ns nodes : List Node) (parent : ℕ) (ph : Phandle) → AreStored m ns
    → ◌≡◌ {A = Result (Phandle × List Node) NodeFault}
    (if b then Err TooManyNodes else Ok (phandle_of (length ns), ns ++ new_node parent ∷ [])) (Ok (ph, nodes))
    → AreStored m nodes
node_if true m ns nodes parent ph a e = absurd (never TooManyNodes (ph, nodes) e)
node_if false m ns nodes parent ph a e =
    rw (← ap (λ (y : Phandle × List Node). y.1)
    (ok_is (phandle_of (length ns), ns ++ new_node parent ∷ []) (ph, nodes) e))
    (with_last m ns (new_node parent) a (none_held m))

by_node : (m : DataSpace) (ns nodes : List Node) (above ph : Phandle) → AreStored m ns
    → node_added ns above ≡ Ok (ph, nodes) → AreStored m nodes
by_node m ns nodes above ph a e =
    let there = numbered_is (number_of (length ns) above) _ (ph, nodes) e in
    node_if (nat_le most_nodes (length ns)) m ns nodes there.0 ph a there.2

grows : (m after : DataSpace) (before : Option Property) (name value : List ℕ) (p : Property)
    → IsKept m after before name value p → Grows m after
grows m after before name value p k = record { stays = k.stays; ends = k.grows }

by_set : (m after : DataSpace) (ns nodes : List Node) (ph : Phandle) (name value : List ℕ) → IsSound m
    → AreStored m ns → IsSetting m after ns nodes ph name value → AreStored after nodes
by_set m after ns nodes ph name value sound a s =
    let ps = properties_in ns s.i in
    let before = value_in ps name in
    let k = kept before m after name value s.property (wide m sound) s.put in
    let g = grows m after before name value s.property k in
    let held = put_held before m after name value s.property k g (λ q e. (a s.i).held name q e) in
    rw (← s.are)
    (with_one after ns s.i (record (node_at ns s.i) { properties = with_entry ps name s.property })
    (λ j. all_on m after (properties_in ns j) g (a j))
    (with_held m after ps name s.property held g (a s.i)))

by_delete : (m : DataSpace) (ns nodes : List Node) (ph : Phandle) (name : List ℕ) → AreStored m ns
    → property_deleted ns ph name ≡ Ok (tt, nodes) → AreStored m nodes
by_delete m ns nodes ph name a e =
    let there = numbered_is (number_of (length ns) ph) _ (tt, nodes) e in
    let i = there.0 in
    let left = with_properties ns i (without (properties_in ns i) name) in
    let is : left ≡ nodes = ap (λ (y : Unit {0} × List Node). y.1) (ok_is (tt, left) (tt, nodes) there.2) in
    rw (← is) (with_one m ns i _ a (without_held m (properties_in ns i) name (a i)))

method_if : (b : Bool) (m : DataSpace) (ns nodes : List Node) (i : ℕ) (ms : List (List ℕ × Cell)) → AreStored m ns
    → (if b then Ok (with_methods ns i ms) else Err BadName) ≡ Ok nodes → AreStored m nodes
method_if true m ns nodes i ms a e = rw (← ok_is (with_methods ns i ms) nodes e) (with_one m ns i _ a (a i))
method_if false m ns nodes i ms a e = absurd (never BadName nodes e)

by_method : (m : DataSpace) (ns nodes : List Node) (ph : Phandle) (name : List ℕ) (xt : Cell) → AreStored m ns
    → method_added ns ph name xt ≡ Ok nodes → AreStored m nodes
by_method m ns nodes ph name xt a e =
    let there = numbered_is (number_of (length ns) ph) (added_at ns name xt) nodes e in
    let i = there.0 in
    method_if (is_method_name name) m ns nodes i (with_method (methods_in ns i) name xt) a there.2

back_if : (b : Bool) (m : DataSpace) (ns : List Node) (i : ℕ) (ms : List (List ℕ × Cell)) → AreStored m ns
    → AreStored m (if b then with_methods ns i ms else ns)
back_if true m ns i ms a = with_one m ns i _ a (a i)
back_if false m ns i ms a = a

by_back : (o : Option ℕ) (m : DataSpace) (ns : List Node) (name : List ℕ) (before : Option Cell) → AreStored m ns
    → AreStored m (former_at ns name before o)
by_back None m ns name before a = a
by_back (Some i) m ns name before a =
    back_if (is_method_name name) m ns i (with_former (methods_in ns i) name before) a

by_others : (m after : DataSpace) (ns : List Node) → IsSound m → KeepsProperties m after → AreStored m ns
    → AreStored after ns
by_others m after ns sound k a =
    let g : Grows m after = record {
      stays = λ b n from to. k.reads b n from (omega (arith, to, sound.properties_to));
      ends = omega (arith, k.ends);
    } in
    λ j. all_on m after (properties_in ns j) g (a j)

found_held : (m : DataSpace) (ns : List Node) (ph : Phandle) (name : List ℕ) (p : Property) → AreStored m ns
    → property_found ns ph name ≡ Ok (Some p) → IsHeld m name p
found_held m ns ph name p a e =
    let there = numbered_is (number_of (length ns) ph) _ (Some p) e in
    (a there.0).held name p (ok_is (value_in (properties_in ns there.0) name) (Some p) there.2)

-- ---- the first tree

record IsSafe (m : DataSpace) (ns : List Node) : Type 0 where
  wide_too : IsWide m
  all : AreStored m ns

named_of : (r : Result (Property × DataSpace) NodeFault) (m : DataSpace) (ns : List Node) (value : List ℕ)
    (y : List Node × DataSpace) → IsSafe m ns → stored m None (codes "name") value ≡ r
    → with_node ns 0 (set_to [] (codes "name") r) ≡ Ok y → IsSafe y.1 y.0
named_of (Ok x) m ns value y s g e =
    let ps = with_entry [] (codes "name") x.0 in
    let n = record (new_node 0) { properties = ps } in
    let k = kept None m x.1 (codes "name") value x.0 s.wide_too g in
    let grow = grows m x.1 None (codes "name") value x.0 k in
    let held = put_held None m x.1 (codes "name") value x.0 k grow (λ q z. absurd (none_property q z)) in
    let all : AreStored x.1 (ns ++ n ∷ []) =
    with_last x.1 ns n (λ j. all_on m x.1 (properties_in ns j) grow (s.all j))
    (with_held m x.1 [] (codes "name") x.0 held grow (none_held m)) in
    let safe : IsSafe x.1 (ns ++ n ∷ []) = record { wide_too = k.wide; all = all } in
    rw (← ok_is (ns ++ n ∷ [], x.1) y e) safe
named_of (Err f) m ns value y s g e = absurd (never f y e)

named_safe : (m : DataSpace) (ns : List Node) (value : List ℕ) (y : List Node × DataSpace) → IsSafe m ns
    → named_child ns m 0 value ≡ Ok y → IsSafe y.1 y.0
named_safe m ns value y s e = named_of (stored m None (codes "name") value) m ns value y s refl e

first : (m after : DataSpace) (ns : List Node) → IsSound m → first_tree m ≡ Ok (ns, after) → AreStored after ns
first m after ns sound e =
    let b2 = before_it (then_child (named_child [] m 0 board) packages) slot (ns, after) e in
    let b1 = before_it (named_child [] m 0 board) packages b2.0 b2.1 in
    let none : IsSafe m [] = record { wide_too = wide m sound; all = λ j. none_held m } in
    let one = named_safe m [] board b1.0 none b1.1 in
    let two = named_safe b1.0.1 b1.0.0 packages b2.0 one b1.2 in
    (named_safe b2.0.1 b2.0.0 slot (ns, after) two b2.2).all

pub stored_stays : StoredStays
stored_stays = record {
  first = first;
  by_node = by_node;
  by_set = λ m after ns nodes ph name value sound a e.
      by_set m after ns nodes ph name value sound a (setting m after ns nodes ph name value e);
  by_delete = by_delete;
  by_method = by_method;
  by_taking_back = λ m ns ph name before a. by_back (number_of (length ns) ph) m ns name before a;
  by_others = by_others;
  found = found_held;
}
