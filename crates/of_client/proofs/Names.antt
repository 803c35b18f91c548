-- The law `names_are_met`: each name of a node finds a property, whose name has its bytes.
use Rattle.std.proofs.Common.{◌≡◌, ◌≢◌, ◌<◌, ℕ, Bool, true, false, List, [], ◌∷◌, ◌++◌, length, map, Option, Some, None}
use Rattle.std.proofs.Common.{Result, Ok, Err, refl, sym, ap, subst, ◌∙◌, if◌then◌else◌, nat_eq, append_assoc, arith}
use Rattle.std.proofs.lemmas.Bool.Decides.{nat_tests}
use Rattle.std.specs.List.{IsDistinct}
use Rattle.of_cells.specs.Numbers.{cell}
use Rattle.of_memory.specs.DataSpace.{DataSpace}
use Rattle.of_nodes.specs.declared.fault.NodeFault.{NodeFault}
use Rattle.of_nodes.specs.declared.phandles.Phandle.{Phandle}
use Rattle.of_nodes.specs.declared.properties.Property.{Property}
use Rattle.of_nodes.specs.declared.tree.Node.{Node}
use Rattle.of_nodes.specs.Nodes.{next_found, number_of, numbered, properties_in, property_found}
use Rattle.of_nodes.specs.PropertyLaw.{PropertiesAreFound, names_found}
use Rattle.of_nodes.specs.Properties.{same_name, value_in, value_next}
use Rattle.of_nodes.specs.Stored.{AreStored, StoredStays}
use Rattle.of_client.specs.Laws.{NamesAreMet}
use Rattle.of_client.specs.Services.{Reply, behind_name, name_bytes, number}
use Rattle.of_nodes.specs.Properties.{bytes_read}

same_ok : (xs ys : List (List ℕ)) → ◌≡◌ {A = Result (List (List ℕ)) NodeFault} (Ok xs) (Ok ys) → xs ≡ ys
same_ok xs ys e = cc

-- ---- a name that stands among those of a node finds a property

same_self : (xs : List ℕ) → same_name xs xs ≡ true
same_self [] = refl
same_self (x ∷ xs) = grind (arith, nat_tests, same_self xs)

record IsThere (r : Result (Option Property) NodeFault) : Type 0 where
  property : Property
  is : r ≡ Ok (Some property)

record Stands (o : Option Property) : Type 0 where
  property : Property
  is : o ≡ Some property

at_name : (b : Bool) (p : Property) (o : Option Property) → b ≡ true → Stands (if b then Some p else o)
at_name true p o e = record { property = p; is = refl }
at_name false p o e = absurd cc

behind_other : (b : Bool) (p : Property) (o : Option Property) → Stands o → Stands (if b then Some p else o)
behind_other true p o h = record { property = p; is = refl }
behind_other false p o h = h

stands : (ps : List (List ℕ × Property)) (before behind : List (List ℕ)) (name : List ℕ)
    → map (λ e. e.0) ps ≡ before ++ name ∷ behind → Stands (value_in ps name)
stands [] [] behind name e = absurd cc
stands [] (b ∷ before) behind name e = absurd cc
stands (p ∷ ps) [] behind name e =
    let first : p.0 ≡ name = cc in
    at_name (same_name name p.0) p.1 (value_in ps name) (ap (same_name name) first ∙ same_self name)
stands (p ∷ ps) (b ∷ before) behind name e =
    let rest : map (λ e. e.0) ps ≡ before ++ name ∷ behind = cc in
    behind_other (same_name name p.0) p.1 (value_in ps name) (stands ps before behind name rest)

found_in : (ns : List Node) (o : Option ℕ) (before behind : List (List ℕ)) (name : List ℕ)
    → numbered o (λ i. Ok (map (λ e. e.0) (properties_in ns i))) ≡ Ok (before ++ name ∷ behind)
    → IsThere (numbered o (λ i. Ok (value_in (properties_in ns i) name)))
found_in ns None before behind name e = absurd cc
found_in ns (Some i) before behind name e =
    let names : map (λ e. e.0) (properties_in ns i) ≡ before ++ name ∷ behind = same_ok _ _ e in
    let s = stands (properties_in ns i) before behind name names in
    record { property = s.property; is = ap Ok s.is }

there : (ns : List Node) (ph : Phandle) (before behind : List (List ℕ)) (name : List ℕ)
    → names_found ns ph ≡ Ok (before ++ name ∷ behind) → IsThere (property_found ns ph name)
there ns ph before behind name e = found_in ns (number_of (length ns) ph) before behind name e

-- ---- its name has its bytes

said : StoredStays → (m : DataSpace) (ns : List Node) (ph : Phandle) (name : List ℕ) → AreStored m ns
    → IsThere (property_found ns ph name) → name_bytes m (property_found ns ph name) ≡ (cell 1, name)
said l m ns ph name stored t =
    ap (name_bytes m) t.is
    ∙ ap (λ r. (cell 1, bytes_read r)) (l.found m ns ph name t.property stored t.is).name_bytes

-- ---- behind a name

none_first : (m : DataSpace) (r next : Result (Option Property) NodeFault) (s : Reply) → ((f : NodeFault) → r ≢ Err f)
    → name_bytes m next ≡ s → behind_name m true r next ≡ s
none_first m (Ok None) next s good e = e
none_first m (Ok (Some p)) next s good e = e
none_first m (Err f) next s good e = absurd (good f refl)

behind_there : (m : DataSpace) (b : Bool) (r next : Result (Option Property) NodeFault) (s : Reply) → IsThere r
    → name_bytes m next ≡ s → behind_name m b r next ≡ s
behind_there m b r next s t e = ap (λ x. behind_name m b x next) t.is ∙ e

is_node : (ns : List Node) (o : Option ℕ) (names : List (List ℕ)) (name : List ℕ) (f : NodeFault)
    → numbered o (λ i. Ok (map (λ e. e.0) (properties_in ns i))) ≡ Ok names
    → numbered o (λ i. Ok (value_in (properties_in ns i) name)) ≢ Err f
is_node ns None names name f e = absurd cc
is_node ns (Some i) names name f e = λ h. absurd cc

node_is : (ns : List Node) (ph : Phandle) (names : List (List ℕ)) (f : NodeFault) → names_found ns ph ≡ Ok names
    → property_found ns ph [] ≢ Err f
node_is ns ph names f e = is_node ns (number_of (length ns) ph) names [] f e

-- ---- the law

no_first : (ps : List (List ℕ × Property)) → map (λ e. e.0) ps ≡ [] → value_next ps [] ≡ None
no_first [] e = refl
no_first (p ∷ ps) e = absurd cc

distinct_in : (m : DataSpace) (ns : List Node) (o : Option ℕ) (names : List (List ℕ)) → AreStored m ns
    → numbered o (λ i. Ok (map (λ e. e.0) (properties_in ns i))) ≡ Ok names → IsDistinct same_name names
distinct_in m ns None names stored e = absurd cc
distinct_in m ns (Some i) names stored e = subst (IsDistinct same_name) (same_ok _ _ e) (stored i).distinct

-- the name behind another is one of the node's, too
second_there : (ns : List Node) (ph : Phandle) (before behind : List (List ℕ)) (name other : List ℕ)
    → names_found ns ph ≡ Ok (before ++ name ∷ other ∷ behind) → IsThere (property_found ns ph other)
second_there ns ph before behind name other e =
    there ns ph (before ++ name ∷ []) behind other
    (e ∙ ap Ok (sym (append_assoc before (name ∷ []) (other ∷ behind))))

no_property : (ns : List Node) (o : Option ℕ)
    → numbered o (λ i. Ok (map (λ e. e.0) (properties_in ns i))) ≡ Ok []
    → numbered o (λ i. Ok (value_next (properties_in ns i) [])) ≡ Ok None
no_property ns None e = absurd cc
no_property ns (Some i) e = ap Ok (no_first (properties_in ns i) (same_ok _ _ e))

distinct : StoredStays → (m : DataSpace) (ns : List Node) (ph : Phandle) (names : List (List ℕ)) → AreStored m ns
    → names_found ns ph ≡ Ok names → IsDistinct same_name names
distinct l m ns ph names stored e = distinct_in m ns (number_of (length ns) ph) names stored e

pub names_are_met : PropertiesAreFound → StoredStays → NamesAreMet
names_are_met p l = record {
  none = λ m ns ph e.
      none_first m (property_found ns ph []) (next_found ns ph []) (number 0) (λ f. node_is ns ph [] f e)
      (ap (name_bytes m) (no_property ns (number_of (length ns) ph) e));
  first = λ m ns ph name names stored e.
      none_first m (property_found ns ph []) (next_found ns ph []) (cell 1, name)
      (λ f. node_is ns ph (name ∷ names) f e)
      (ap (name_bytes m) ((p.in_order ns ph).first name names e)
      ∙ said l m ns ph name stored (there ns ph [] names name e));
  next = λ m ns ph before behind name other some stored e.
      behind_there m (nat_eq (length name) 0) (property_found ns ph name) (next_found ns ph name) (cell 1, other)
      (there ns ph before (other ∷ behind) name e)
      (ap (name_bytes m)
      ((p.in_order ns ph).next before behind name other e (distinct l m ns ph _ stored e) some)
      ∙ said l m ns ph other stored (second_there ns ph before behind name other e));
  last = λ m ns ph before name some stored e.
      behind_there m (nat_eq (length name) 0) (property_found ns ph name) (next_found ns ph name) (number 0)
      (there ns ph before [] name e)
      (ap (name_bytes m) ((p.in_order ns ph).last before name e (distinct l m ns ph _ stored e) some));
}
