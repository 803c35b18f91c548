-- The names of properties stay such as properties may have.
use Rattle.std.proofs.Common.{◌≡◌, ◌⊎◌, inl, inr, ℕ, zero, suc, ◌&&◌, Bool, true, false, List, [], ◌∷◌, ◌++◌, length}
use Rattle.std.proofs.Common.{Option, Some, None, Result, Ok, Err, refl, ap, sym, subst, if◌then◌else◌}
use Rattle.std.specs.Prelude.{codes, set}
use Rattle.std.specs.Prelude.{nat_le}
use Rattle.of_cells.specs.declared.cells.Cell.{Cell}
use Rattle.of_memory.specs.DataSpace.{DataSpace}
use Rattle.of_nodes.specs.declared.fault.NodeFault.{NodeFault}
use Rattle.of_nodes.specs.declared.fault.NodeFault.TheVariants.{BadName, NoNode, TooManyNodes}
use Rattle.of_nodes.specs.declared.phandles.Phandle.{Phandle}
use Rattle.of_nodes.specs.declared.properties.Property.{Property}
use Rattle.of_nodes.specs.declared.tree.Node.{Node}
use Rattle.of_nodes.specs.Methods.{is_method_name, with_former, with_method}
use Rattle.of_nodes.specs.Names.{is_name, may_hold}
use Rattle.of_nodes.specs.Nodes.{added_at, former_at, method_added, methods_in, most_nodes, named_child}
use Rattle.of_nodes.specs.Nodes.{new_node, node_added, node_at, number_of, numbered, phandle_of, properties_in}
use Rattle.of_nodes.specs.Nodes.{property_deleted, set_at, set_in, then_child, tree_property_set, with_methods}
use Rattle.of_nodes.specs.Nodes.{with_node, with_properties}
use Rattle.of_nodes.specs.Properties.{property_set, same_name, set_to, stored, value_in, with_entry, without}
use Rattle.of_console_laws.specs.Lines.{AreNamed, AreNames, NamesStay}

-- ---- answers

never : {A E : Type 0} {B : Type 0} (f : E) (y : A) → ◌≡◌ {A = Result A E} (Err f) (Ok y) → B
never f y e = absurd cc

ok_is : {A E : Type 0} (x y : A) → ◌≡◌ {A = Result A E} (Ok x) (Ok y) → x ≡ y
ok_is {A} {E} x y e = ap (λ (r : Result A E). or_first r) e
  where
    or_first : Result A E → A
    or_first (Ok z) = z
    or_first (Err f) = x

there : {A : Type 0} (o : Option ℕ) (f : ℕ → Result A NodeFault) (y : A) → numbered o f ≡ Ok y
    → (i : ℕ) × (f i ≡ Ok y)
there None f y e = never NoNode y e
there (Some i) f y e = (i, e)

-- ---- one node

with_names : (ps : List (List ℕ × Property)) (name : List ℕ) (p : Property) → AreNames ps → is_name name ≡ true
    → AreNames (with_entry ps name p)
with_names [] name p h k = (k, tt)
with_names (e ∷ ps) name p h k = by_name (same_name name e.0) (with_names ps name p h.1 k)
  where
    by_name : (b : Bool) → AreNames (with_entry ps name p)
        → AreNames (if b then (e.0, p) ∷ ps else e ∷ with_entry ps name p)
    by_name true more = h
    by_name false more = (h.0, more)

left_names : (ps : List (List ℕ × Property)) (name : List ℕ) → AreNames ps → AreNames (without ps name)
left_names [] name h = tt
left_names (e ∷ ps) name h = by_name (same_name name e.0) (left_names ps name h.1)
  where
    by_name : (b : Bool) → AreNames (without ps name) → AreNames (if b then ps else e ∷ without ps name)
    by_name true more = h.1
    by_name false more = (h.0, more)

-- ---- one node of all

one_set : (ns : List Node) (i : ℕ) (n : Node) (j : ℕ)
    → (node_at (set ns i n) j ≡ node_at ns j) ⊎ (node_at (set ns i n) j ≡ n)
one_set [] i n j = inl refl
one_set (k ∷ ns) zero n zero = inr refl
one_set (k ∷ ns) zero n (suc j) = inl refl
one_set (k ∷ ns) (suc i) n zero = inl refl
one_set (k ∷ ns) (suc i) n (suc j) = one_set ns i n j

with_one : (ns : List Node) (i : ℕ) (n : Node) → AreNamed ns → AreNames n.properties → AreNamed (set ns i n)
with_one ns i n a h j = elim (one_set ns i n j) [
  | inl z ↦ subst (λ (x : Node). AreNames x.properties) (sym z) (a j)
  | inr z ↦ subst (λ (x : Node). AreNames x.properties) (sym z) h
]

one_more : (ns : List Node) (n : Node) (j : ℕ)
    → (properties_in (ns ++ n ∷ []) j ≡ properties_in ns j) ⊎ (properties_in (ns ++ n ∷ []) j ≡ n.properties)
one_more [] n zero = inr refl
one_more [] n (suc j) = inl refl
one_more (k ∷ ns) n zero = inl refl
one_more (k ∷ ns) n (suc j) = one_more ns n j

with_last : (ns : List Node) (n : Node) → AreNamed ns → AreNames n.properties → AreNamed (ns ++ n ∷ [])
with_last ns n a h j = elim (one_more ns n j)
    [ inl z ↦ subst AreNames (sym z) (a j) | inr z ↦ subst AreNames (sym z) h ]

-- ---- each call

by_node : (ns nodes : List Node) (above ph : Phandle) → AreNamed ns → node_added ns above ≡ Ok (ph, nodes)
    → AreNamed nodes
by_node ns nodes above ph a e =
    let at = there (number_of (length ns) above) _ (ph, nodes) e in
    by_room (nat_le most_nodes (length ns)) at.0 at.1
  where
    by_room : (b : Bool) (i : ℕ) → ◌≡◌ {A = Result (Phandle × List Node) NodeFault}
        (if b then Err TooManyNodes else Ok (phandle_of (length ns), ns ++ new_node i ∷ [])) (Ok (ph, nodes))
        → AreNamed nodes
    by_room true i z = never TooManyNodes (ph, nodes) z
    by_room false i z =
        subst AreNamed (ap (λ (y : Phandle × List Node). y.1)
        (ok_is {E = NodeFault} (phandle_of (length ns), ns ++ new_node i ∷ []) (ph, nodes) z))
        (with_last ns (new_node i) a tt)

set_so : (r : Result (Property × DataSpace) NodeFault) (after : DataSpace) (ns nodes : List Node) (i : ℕ)
    (name : List ℕ) → AreNamed ns → is_name name ≡ true
    → set_in ns i (set_to (properties_in ns i) name r) ≡ Ok (nodes, after)
    → AreNamed nodes
set_so (Err f) after ns nodes i name a good z = never f (nodes, after) z
set_so (Ok x) after ns nodes i name a good z =
    let ps = with_entry (properties_in ns i) name x.0 in
    subst AreNamed (ap (λ (y : List Node × DataSpace). y.0)
    (ok_is {E = NodeFault} (with_properties ns i ps, x.1) (nodes, after) z))
    (with_one ns i (record (node_at ns i) { properties = ps }) a (with_names (properties_in ns i) name x.0 (a i) good))

first_holds : (b c : Bool) → (b && c) ≡ true → b ≡ true
first_holds true c h = refl
first_holds false c h = absurd cc

by_set : (m after : DataSpace) (ns nodes : List Node) (ph : Phandle) (name value : List ℕ) → AreNamed ns
    → tree_property_set m ns ph name value ≡ Ok (nodes, after) → AreNamed nodes
by_set m after ns nodes ph name value a e =
    let at = there (number_of (length ns) ph) (set_at m ns name value) (nodes, after) e in
    by_name (may_hold name value) refl at.0 at.1
  where
    by_name : (b : Bool) → may_hold name value ≡ b → (i : ℕ)
        → (if b then set_in ns i (property_set m (properties_in ns i) name value) else Err BadName) ≡ Ok (nodes, after)
        → AreNamed nodes
    by_name true good i z =
        set_so (stored m (value_in (properties_in ns i) name) name value) after ns nodes i name a
        (first_holds (is_name name) _ good) z
    by_name false good i z = never BadName (nodes, after) z

by_delete : (ns nodes : List Node) (ph : Phandle) (name : List ℕ) → AreNamed ns
    → property_deleted ns ph name ≡ Ok (tt, nodes) → AreNamed nodes
by_delete ns nodes ph name a e =
    let at = there (number_of (length ns) ph) _ (tt, nodes) e in
    let left = without (properties_in ns at.0) name in
    subst AreNamed (ap (λ (y : Unit {0} × List Node). y.1)
    (ok_is {E = NodeFault} (tt, with_properties ns at.0 left) (tt, nodes) at.1))
    (with_one ns at.0 (record (node_at ns at.0) { properties = left }) a
    (left_names (properties_in ns at.0) name (a at.0)))

by_methods : (b : Bool) (ns nodes : List Node) (i : ℕ) (ms : List (List ℕ × Cell)) → AreNamed ns
    → (if b then Ok (with_methods ns i ms) else Err BadName) ≡ Ok nodes → AreNamed nodes
by_methods true ns nodes i ms a e =
    subst AreNamed (ok_is {E = NodeFault} (with_methods ns i ms) nodes e)
    (with_one ns i (record (node_at ns i) { methods = ms }) a (a i))
by_methods false ns nodes i ms a e = never BadName nodes e

by_method : (ns nodes : List Node) (ph : Phandle) (name : List ℕ) (xt : Cell) → AreNamed ns
    → method_added ns ph name xt ≡ Ok nodes → AreNamed nodes
by_method ns nodes ph name xt a e =
    let at = there (number_of (length ns) ph) (added_at ns name xt) nodes e in
    by_methods (is_method_name name) ns nodes at.0 (with_method (methods_in ns at.0) name xt) a at.1

by_back : (o : Option ℕ) (ns : List Node) (name : List ℕ) (before : Option Cell) → AreNamed ns
    → AreNamed (former_at ns name before o)
by_back None ns name before a = a
by_back (Some i) ns name before a = by_name (is_method_name name)
  where
    by_name : (b : Bool) → AreNamed (if b then with_methods ns i (with_former (methods_in ns i) name before) else ns)
    by_name true = with_one ns i (record (node_at ns i) { methods = with_former (methods_in ns i) name before }) a (a i)
    by_name false = a

-- ---- the first tree

child_named : (r : Result (Property × DataSpace) NodeFault) (ns : List Node) (y : List Node × DataSpace) → AreNamed ns
    → with_node ns 0 (set_to [] (codes "name") r) ≡ Ok y → AreNamed y.0
child_named (Err f) ns y a e = never f y e
child_named (Ok x) ns y a e =
    let n = record (new_node 0) { properties = with_entry [] (codes "name") x.0 } in
    subst AreNamed (ap (λ (z : List Node × DataSpace). z.0) (ok_is {E = NodeFault} (ns ++ n ∷ [], x.1) y e))
    (with_last ns n a (refl, tt))

then_named : (r : Result (List Node × DataSpace) NodeFault) (value : List ℕ) (y : List Node × DataSpace)
    → ((x : List Node × DataSpace) → r ≡ Ok x → AreNamed x.0) → then_child r value ≡ Ok y → AreNamed y.0
then_named (Err f) value y h e = never f y e
then_named (Ok x) value y h e = child_named (stored x.1 None (codes "name") value) x.0 y (h x refl) e

pub names_stay : NamesStay
names_stay = record {
  first = λ m after ns e.
      then_named (then_child (named_child [] m 0 (codes "board" ++ 0 ∷ [])) (codes "packages" ++ 0 ∷ []))
      (codes "slot" ++ 0 ∷ []) (ns, after)
      (λ x z. then_named (named_child [] m 0 (codes "board" ++ 0 ∷ [])) (codes "packages" ++ 0 ∷ []) x
      (λ w v. child_named (stored m None (codes "name") (codes "board" ++ 0 ∷ [])) [] w (λ j. tt) v) z) e;
  by_node = by_node;
  by_set = by_set;
  by_delete = by_delete;
  by_method = by_method;
  by_taking_back = λ ns ph name before a. by_back (number_of (length ns) ph) ns name before a;
}
