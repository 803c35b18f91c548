-- The law `properties_are_found`.
use Rattle.std.proofs.Common.{◌≡◌, ◌≢◌, ℕ, ◌+◌, ◌*◌, ◌-◌, ◌/◌, ◌%◌, ◌<◌, ◌≤◌, ◌&&◌, nat_lt, Bool, true}
use Rattle.std.proofs.Common.{false, List, [], ◌∷◌, ◌++◌, length, Option, Some, None, Result, Ok, Err}
use Rattle.std.proofs.Common.{if◌then◌else◌, refl, ap, sym, ◌∙◌, arith}
use Rattle.std.specs.Prelude.{◌==◌}
use Rattle.std.specs.List.{IsDistinct}
use Rattle.std.proofs.lemmas.Bool.{and_parts, eqb-true}
use Rattle.std.proofs.lemmas.List.{get_or-set_other, get_or-set_same, length-set}
use Rattle.std.proofs.lemmas.Bool.Decides.{nat_tests}
use Rattle.of_memory.specs.Access.{read_bytes}
use Rattle.of_memory.specs.DataSpace.{DataSpace, IsSound}
use Rattle.of_memory.specs.Growth.{named_put, property_put}
use Rattle.of_memory.specs.Regions.{first_property}
use Rattle.of_memory.specs.declared.fault.MemFault.{MemFault}
use Rattle.of_nodes.specs.declared.tree.Node.{Node}
use Rattle.of_nodes.specs.declared.phandles.Phandle.{Phandle}
use Rattle.of_nodes.specs.declared.properties.Property.{Property}
use Rattle.of_nodes.specs.declared.fault.NodeFault.{NodeFault}
use Rattle.of_nodes.specs.declared.fault.NodeFault.TheVariants.{BadName}
use Rattle.of_nodes.specs.Names.{may_hold}
use Rattle.of_nodes.specs.Nodes.{first_phandle, new_node, node_at, number_at, number_of, numbered, properties_in}
use Rattle.of_nodes.specs.Nodes.{property_deleted, property_found, set_at, set_in, tree_property_set, with_properties}
use Rattle.of_nodes.specs.Properties.{new_property, same_name, set_to, span, stored, value_in, with_entry, with_value}
use Rattle.of_nodes.specs.Properties.{without}
use Rattle.of_nodes.specs.PropertyLaw.{AreInOrder, IsSetTo, IsWithout, PropertiesAreFound, names_found}
use Rattle.of_nodes.proofs.NodesByPhandle.{by_number, never, numbered_is, ok_is}
use Rattle.of_nodes.proofs.FirstPathsFind.{ArePut, first_put, wide}
use Rattle.of_nodes.proofs.MethodsAreFound.{entry_found, number_within, others_found, some_if}
use Rattle.of_nodes.proofs.PropertyNames.{first_is, gone, last_name, names, names_kept, names_last, next_name}
use Rattle.of_nodes.proofs.PropertyNames.{order_left, others_left}
use Rattle.of_nodes.proofs.PropertyPuts.{IsPut, IsStored, IsWide, is_put, read_stays, stays_stored, stored_after}
use Rattle.of_nodes.proofs.PropertyPuts.{stored_reads}
use Rattle.of_nodes.proofs.PropertyPuts.{wide_after}

-- ---- the node of a phandle

exact_at : (count d i : ℕ) → number_at count d ≡ Some i → d ≡ 4 * i
exact_at count d i e =
    let is = some_if (d % 4 == 0 && nat_lt (d / 4) count) (d / 4) i e in
    let whole = eqb-true (d % 4) 0 (and_parts (d % 4 == 0) (nat_lt (d / 4) count) is.0).0 in
    omega (arith, whole, is.1)

not_less : (x y : ℕ) → nat_lt x y ≡ false → y ≤ x
not_less x y h = grind (arith, nat_tests)

none_some : (i : ℕ) → ◌≡◌ {A = Option ℕ} None (Some i) → ⊥
none_some i e = cc

exact_if : (b : Bool) (count x i : ℕ) → nat_lt x first_phandle ≡ b
    → ◌≡◌ {A = Option ℕ} (if b then None else number_at count (x - first_phandle)) (Some i)
    → x ≡ first_phandle + 4 * i
exact_if true count x i h e = absurd (none_some i e)
exact_if false count x i h e =
    let far = exact_at count (x - first_phandle) i e in
    let from = not_less x first_phandle h in
    omega (arith, far, from)

pub exact : (count : ℕ) (ph : Phandle) (i : ℕ) → number_of count ph ≡ Some i → ph.0.0 ≡ first_phandle + 4 * i
exact count ph i e = exact_if (nat_lt ph.0.0 first_phandle) count ph.0.0 i refl e

same_phandle : (a b : Phandle) → a.0.0 ≡ b.0.0 → a ≡ b
same_phandle a b e = let made : ℕ → Phandle = λ k. record { 0 = record { 0 = k } } in ap made e

pub other_node : (count : ℕ) (at ph : Phandle) (i j : ℕ) → number_of count ph ≡ Some i → number_of count at ≡ Some j
    → at ≢ ph → j ≢ i
other_node count at ph i j p q apart = λ same.
    apart (same_phandle at ph (exact count at j q
    ∙ (ap (λ (k : ℕ). first_phandle + 4 * k) same ∙ sym (exact count ph i p))))

-- ---- what changes the properties of one node

properties_there : (ns : List Node) (i : ℕ) (qs : List (List ℕ × Property)) → i < length ns
    → properties_in (with_properties ns i qs) i ≡ qs
properties_there ns i qs l =
    ap (λ (n : Node). n.properties) (get_or-set_same ns i (record (node_at ns i) { properties = qs }) (new_node 0) l)

properties_elsewhere : (ns : List Node) (i j : ℕ) (qs : List (List ℕ × Property)) → j ≢ i
    → properties_in (with_properties ns i qs) j ≡ properties_in ns j
properties_elsewhere ns i j qs apart =
    ap (λ (n : Node). n.properties)
    (get_or-set_other ns i j (record (node_at ns i) { properties = qs }) (new_node 0) apart)

record Changes (ns nodes : List Node) (ph : Phandle) (ps qs : List (List ℕ × Property)) : Type 0 where
  found : (name : List ℕ) → property_found ns ph name ≡ Ok (value_in ps name)
  found_then : (name : List ℕ) → property_found nodes ph name ≡ Ok (value_in qs name)
  names_are : names_found ns ph ≡ Ok (names ps)
  names_then : names_found nodes ph ≡ Ok (names qs)
  elsewhere : (at : Phandle) (other : List ℕ) → at ≢ ph → property_found nodes at other ≡ property_found ns at other

numbered_same : {A : Type 0} (o : Option ℕ) (f g : ℕ → Result A NodeFault) → ((i : ℕ) → o ≡ Some i → f i ≡ g i)
    → numbered o f ≡ numbered o g
numbered_same None f g h = refl
numbered_same (Some i) f g h = h i refl

changes : (ns : List Node) (ph : Phandle) (i : ℕ) (qs : List (List ℕ × Property))
    → number_of (length ns) ph ≡ Some i → Changes ns (with_properties ns i qs) ph (properties_in ns i) qs
changes ns ph i qs at =
    let nodes = with_properties ns i qs in
    let many : length nodes ≡ length ns = length-set ns i _ in
    let number : number_of (length nodes) ph ≡ Some i = ap (λ (k : ℕ). number_of k ph) many ∙ at in
    let there = properties_there ns i qs (number_within (length ns) ph i at) in
    record {
      found = λ name. by_number ns ph i _ at;
      found_then = λ name.
          by_number nodes ph i _ number ∙ ap (λ (l : List (List ℕ × Property)). Ok (value_in l name)) there;
      names_are = by_number ns ph i _ at;
      names_then = by_number nodes ph i _ number ∙ ap (λ (l : List (List ℕ × Property)). Ok (names l)) there;
      elsewhere = λ b other apart.
          ap (λ (k : ℕ). numbered (number_of k b) (λ j. Ok (value_in (properties_in nodes j) other))) many
          ∙ numbered_same (number_of (length ns) b) _ _
          (λ j is. ap (λ (l : List (List ℕ × Property)). Ok (value_in l other))
          (properties_elsewhere ns i j qs (other_node (length ns) b ph i j at is apart)));
    }

-- ---- what setting a property puts

pub record IsSetting (m after : DataSpace) (ns nodes : List Node) (ph : Phandle) (name value : List ℕ) : Type 0 where
  pub i : ℕ
  pub number : number_of (length ns) ph ≡ Some i
  pub property : Property
  pub put : stored m (value_in (properties_in ns i) name) name value ≡ Ok (property, after)
  pub are : with_properties ns i (with_entry (properties_in ns i) name property) ≡ nodes

setting_of : (r : Result (Property × DataSpace) NodeFault) (m after : DataSpace) (ns nodes : List Node) (ph : Phandle)
    (name value : List ℕ) (i : ℕ) → number_of (length ns) ph ≡ Some i
    → stored m (value_in (properties_in ns i) name) name value ≡ r
    → set_in ns i (set_to (properties_in ns i) name r) ≡ Ok (nodes, after)
    → IsSetting m after ns nodes ph name value
setting_of (Ok x) m after ns nodes ph name value i at g e =
    let pair = ok_is (with_properties ns i (with_entry (properties_in ns i) name x.0), x.1) (nodes, after) e in
    let space : x.1 ≡ after = ap (λ (y : List Node × DataSpace). y.1) pair in
    record {
      i = i;
      number = at;
      property = x.0;
      put = g ∙ ap (λ (s : DataSpace). Ok (x.0, s)) space;
      are = ap (λ (y : List Node × DataSpace). y.0) pair;
    }
setting_of (Err f) m after ns nodes ph name value i at g e = absurd (never f (nodes, after) e)

setting_if : (b : Bool) (m after : DataSpace) (ns nodes : List Node) (ph : Phandle) (name value : List ℕ) (i : ℕ)
    → number_of (length ns) ph ≡ Some i
    → (if b
    then set_in ns i (set_to (properties_in ns i) name (stored m (value_in (properties_in ns i) name) name value))
    else Err BadName) ≡ Ok (nodes, after)
    → IsSetting m after ns nodes ph name value
setting_if true m after ns nodes ph name value i at e =
    setting_of (stored m (value_in (properties_in ns i) name) name value) m after ns nodes ph name value i at refl e
setting_if false m after ns nodes ph name value i at e = absurd (never BadName (nodes, after) e)

pub setting : (m after : DataSpace) (ns nodes : List Node) (ph : Phandle) (name value : List ℕ)
    → tree_property_set m ns ph name value ≡ Ok (nodes, after) → IsSetting m after ns nodes ph name value
setting m after ns nodes ph name value e =
    let there = numbered_is (number_of (length ns) ph) (set_at m ns name value) (nodes, after) e in
    setting_if (may_hold name value) m after ns nodes ph name value there.0 there.1 there.2

-- what a property is that was put where there was another one or none
pub record IsKept (m after : DataSpace) (before : Option Property) (name value : List ℕ) (p : Property) : Type 0 where
  pub wide : IsWide after
  pub value_length : p.value.length.0 ≡ length value
  pub value_stored : IsStored after p.value.address.0 value
  pub name_new : before ≡ None → (p.name.length.0 ≡ length name) × IsStored after p.name.address.0 name
  pub name_old : (q : Property) → before ≡ Some q → p.name ≡ q.name
  pub stays : (a n : ℕ) → first_property ≤ a → a + n ≤ m.properties_end → read_bytes after a n ≡ read_bytes m a n
  pub grows : m.properties_end ≤ after.properties_end

ends_at : (m after : DataSpace) (xs : List ℕ) (a : ℕ) → IsPut m after xs a → after.properties_end ≡ a + length xs
ends_at m after xs a p = ap (λ (s : DataSpace). s.properties_end) p.after_is

none_property : (q : Property) → ◌≡◌ {A = Option Property} None (Some q) → ⊥
none_property q e = cc

pub some_property : (p q : Property) → ◌≡◌ {A = Option Property} (Some p) (Some q) → p ≡ q
some_property p q e = cc

abbrev placed : List ℕ → List ℕ → ℕ × ℕ × DataSpace → Property
placed name value x = record { name = span x.0 (length name); value = span x.1 (length value) }

kept_both : (m between : DataSpace) (name value : List ℕ) (x : ℕ × ℕ × DataSpace) → IsWide m
    → ArePut m name value x between → IsKept m x.2 None name value (placed name value x)
kept_both m between name value x w both =
    let w1 = wide_after m between name x.0 w both.name_put in
    let first_end = ends_at m between name x.0 both.name_put in
    let second_end = ends_at between x.2 value x.1 both.then_value in
    let above = both.name_put.above in
    let then_above = both.then_value.above in
    let grows : m.properties_end ≤ between.properties_end = omega (arith, first_end, above) in
    record {
      wide = wide_after between x.2 value x.1 w1 both.then_value;
      value_length = refl;
      value_stored = stored_after between x.2 value x.1 w1 both.then_value;
      name_new = λ z. (
        refl,
        stays_stored between x.2 value name x.1 x.0 w1 both.then_value
            (stored_after m between name x.0 w both.name_put),
      );
      name_old = λ q z. absurd (none_property q z);
      stays = λ a n from to.
          read_stays between x.2 value x.1 a n w1 both.then_value from (omega (arith, to, grows))
          ∙ read_stays m between name x.0 a n w both.name_put from to;
      grows = omega (arith, grows, second_end, then_above);
    }

kept_new : (r : Result (ℕ × ℕ × DataSpace) MemFault) (m after : DataSpace) (name value : List ℕ) (p : Property)
    → IsWide m → named_put m name value ≡ r → new_property (length name) (length value) r ≡ Ok (p, after)
    → IsKept m after None name value p
kept_new (Ok x) m after name value p w g e =
    let pair = ok_is (placed name value x, x.2) (p, after) e in
    let b = first_put m name value (property_put m name) x refl g in
    let property : placed name value x ≡ p = ap (λ (y : Property × DataSpace). y.0) pair in
    let space : x.2 ≡ after = ap (λ (y : Property × DataSpace). y.1) pair in
    rw (← property) (rw (← space) (kept_both m b.0 name value x w b.1))
kept_new (Err f) m after name value p w g e = absurd (never _ (p, after) e)

kept_value : (m : DataSpace) (q : Property) (name value : List ℕ) (x : ℕ × DataSpace) → IsWide m
    → IsPut m x.1 value x.0
    → IsKept m x.1 (Some q) name value (record q { value = span x.0 (length value) })
kept_value m q name value x w put =
    let above = put.above in
    let end = ends_at m x.1 value x.0 put in
    record {
      wide = wide_after m x.1 value x.0 w put;
      value_length = refl;
      value_stored = stored_after m x.1 value x.0 w put;
      name_new = λ z. absurd (none_property q (sym z));
      name_old = λ p z. ap (λ (y : Property). y.name) (some_property q p z);
      stays = λ a n from to. read_stays m x.1 value x.0 a n w put from to;
      grows = omega (arith, above, end);
    }

kept_old : (r : Result (ℕ × DataSpace) MemFault) (m after : DataSpace) (q : Property) (name value : List ℕ)
    (p : Property) → IsWide m → property_put m value ≡ r → with_value q (length value) r ≡ Ok (p, after)
    → IsKept m after (Some q) name value p
kept_old (Ok x) m after q name value p w g e =
    let pair = ok_is (record q { value = span x.0 (length value) }, x.1) (p, after) e in
    let property : record q { value = span x.0 (length value) } ≡ p = ap (λ (y : Property × DataSpace). y.0) pair in
    let space : x.1 ≡ after = ap (λ (y : Property × DataSpace). y.1) pair in
    rw (← property) (rw (← space) (kept_value m q name value x w (is_put m value x g)))
kept_old (Err f) m after q name value p w g e = absurd (never _ (p, after) e)

pub kept : (before : Option Property) (m after : DataSpace) (name value : List ℕ) (p : Property) → IsWide m
    → stored m before name value ≡ Ok (p, after) → IsKept m after before name value p
kept None m after name value p w e = kept_new (named_put m name value) m after name value p w refl e
kept (Some q) m after name value p w e = kept_old (property_put m value) m after q name value p w refl e

-- ---- the law

same_found : (a b : Option Property) (r : Result (Option Property) NodeFault) → r ≡ Ok a → r ≡ Ok b → a ≡ b
same_found a b r e f = cc

same_names : (a b : List (List ℕ)) (r : Result (List (List ℕ)) NodeFault) → r ≡ Ok a → r ≡ Ok b → a ≡ b
same_names a b r e f = cc

set_to_is : (m after : DataSpace) (ns nodes : List Node) (ph : Phandle) (name value : List ℕ) → IsSound m
    → (s : IsSetting m after ns nodes ph name value) → IsSetTo m after ns nodes ph name value
set_to_is m after ns nodes ph name value sound s =
    let ps = properties_in ns s.i in
    let qs = with_entry ps name s.property in
    let c : Changes ns nodes ph ps qs = rw (← s.are) (changes ns ph s.i qs s.number) in
    let k = kept (value_in ps name) m after name value s.property (wide m sound) s.put in
    record {
      property = s.property;
      found = c.found_then name ∙ ap Ok (entry_found ps name s.property);
      value_bytes = ap (read_bytes after s.property.value.address.0) k.value_length
          ∙ stored_reads after s.property.value.address.0 value k.value_stored;
      name_bytes = λ none.
          let is = k.name_new (same_found (value_in ps name) None (property_found ns ph name) (c.found name) none) in
          ap (read_bytes after s.property.name.address.0) is.0
          ∙ stored_reads after s.property.name.address.0 name is.1;
      name_place = λ p some.
          k.name_old p (same_found (value_in ps name) (Some p) (property_found ns ph name) (c.found name) some);
      others = λ other apart.
          c.found_then other ∙ (ap Ok (others_found ps name other s.property apart) ∙ sym (c.found other));
      elsewhere = c.elsewhere;
      stays = k.stays;
      keeps_place = λ p some.
          let is = same_found (value_in ps name) (Some p) (property_found ns ph name) (c.found name) some in
          c.names_then ∙ (ap Ok (names_kept ps name s.property p is) ∙ sym c.names_are);
      goes_last = λ all none are.
          let is = same_found (value_in ps name) None (property_found ns ph name) (c.found name) none in
          let same = same_names (names ps) all (names_found ns ph) c.names_are are in
          c.names_then ∙ (ap Ok (names_last ps name s.property is)
          ∙ ap (λ (l : List (List ℕ)). Ok (l ++ name ∷ [])) same);
    }

without_at : (ns nodes : List Node) (ph : Phandle) (name : List ℕ) (all : List (List ℕ)) (i : ℕ)
    → number_of (length ns) ph ≡ Some i → names_found ns ph ≡ Ok all → IsDistinct same_name all
    → with_properties ns i (without (properties_in ns i) name) ≡ nodes → IsWithout ns nodes ph name all
without_at ns nodes ph name all i at are apart is =
    let ps = properties_in ns i in
    let c : Changes ns nodes ph ps (without ps name) = rw (← is) (changes ns ph i (without ps name) at) in
    let same : names ps ≡ all = same_names (names ps) all (names_found ns ph) c.names_are are in
    let distinct : IsDistinct same_name (names ps) = rw same apart in
    record {
      gone = c.found_then name ∙ ap Ok (gone ps name distinct);
      others = λ other differs. c.found_then other ∙ (ap Ok (others_left ps name other differs) ∙ sym (c.found other));
      elsewhere = c.elsewhere;
      order = rw (← same) (c.names_then ∙ ap Ok (order_left ps name distinct));
    }

without_is : (ns nodes : List Node) (ph : Phandle) (name : List ℕ) (all : List (List ℕ))
    → names_found ns ph ≡ Ok all → IsDistinct same_name all → property_deleted ns ph name ≡ Ok (tt, nodes)
    → IsWithout ns nodes ph name all
without_is ns nodes ph name all are apart e =
    let there = numbered_is (number_of (length ns) ph) _ (tt, nodes) e in
    let i = there.0 in
    let left = with_properties ns i (without (properties_in ns i) name) in
    without_at ns nodes ph name all i there.1 are apart
    (ap (λ (y : Unit {0} × List Node). y.1) (ok_is (tt, left) (tt, nodes) there.2))

order_is : (ns : List Node) (ph : Phandle) (all : List (List ℕ)) → names_found ns ph ≡ Ok all
    → (i : ℕ) × (number_of (length ns) ph ≡ Some i) × (names (properties_in ns i) ≡ all)
order_is ns ph all e =
    let there = numbered_is (number_of (length ns) ph) _ all e in
    (there.0, there.1, ok_is (names (properties_in ns there.0)) all there.2)

in_order : (ns : List Node) (ph : Phandle) → AreInOrder ns ph
in_order ns ph = record {
  first = λ name all are.
      let o = order_is ns ph (name ∷ all) are in
      by_number ns ph o.0 _ o.1
      ∙ (ap Ok (first_is (properties_in ns o.0) name all o.2) ∙ sym (by_number ns ph o.0 _ o.1));
  next = λ xs ys name other are apart some.
      let o = order_is ns ph (xs ++ name ∷ other ∷ ys) are in
      by_number ns ph o.0 _ o.1
      ∙ (ap Ok (next_name xs (properties_in ns o.0) name other ys o.2 apart some)
      ∙ sym (by_number ns ph o.0 _ o.1));
  last = λ xs name are apart some.
      let o = order_is ns ph (xs ++ name ∷ []) are in
      by_number ns ph o.0 _ o.1 ∙ ap Ok (last_name xs (properties_in ns o.0) name o.2 apart some);
}

pub properties_are_found : PropertiesAreFound
properties_are_found = record {
  set = λ m after ns nodes ph name value sound e.
      set_to_is m after ns nodes ph name value sound (setting m after ns nodes ph name value e);
  deleted = without_is;
  in_order = in_order;
}
