-- The device tree at first: making it puts names and values, and keeps the images.
use Rattle.std.proofs.Common.{◌≡◌, ℕ, zero, suc, ◌+◌, ◌-◌, ◌/◌, ◌≤◌, Bool, true, false, List, [], length, Option, Some}
use Rattle.std.proofs.Common.{None, Result, Ok, Err, refl, sym, subst, ◌∙◌, arith, nat_le, is_some}
use Rattle.std.proofs.lemmas.Bool.Decides.{nat_tests}
use Rattle.std.specs.Prelude.{codes, if◌then◌else◌, ◌++◌, ◌∷◌, ◌&&◌, is_ok}
use Rattle.of_memory.specs.Blocks.{first_of_eighths, least_free, meets_none, rounded}
use Rattle.of_memory.specs.DataSpace.{DataSpace, fresh, written}
use Rattle.of_memory.specs.Regions.{instance_limit, instance_start}
use Rattle.of_memory.specs.Growth.{named_put, property_put, value_put, with_name}
use Rattle.of_memory.specs.declared.fault.MemFault.{MemFault}
use Rattle.of_memory.specs.declared.fault.MemFault.TheVariants.{Full}
use Rattle.of_nodes.specs.declared.fault.NodeFault.{NodeFault}
use Rattle.of_nodes.specs.declared.properties.Property.{Property}
use Rattle.of_nodes.specs.declared.tree.Node.{Node}
use Rattle.of_nodes.specs.Nodes.{first_tree, named_child, then_child, with_node}
use Rattle.of_nodes.specs.Properties.{new_property, set_to}
use Rattle.of_nodes.specs.declared.phandles.Phandle.{Phandle}
use Rattle.of_ihandles.specs.Instances.{no_instances, opened}
use Rattle.of_board.specs.Active.{no_self}
use Rattle.of_state.specs.Loading.{first_board, instance_on, made_or_none}

-- the same images and blocks of instances stand
abbrev Same : DataSpace → DataSpace → Type 0
Same m after = (after.images ≡ m.images) × (after.instances ≡ m.instances)

also : (a b c : DataSpace) → Same b c → Same a b → Same a c
also a b c h e = (h.0 ∙ e.0, h.1 ∙ e.1)

-- what a call leaves keeps them
abbrev PutKeeps : {A : Type 0} → DataSpace → Result (A × DataSpace) MemFault → Type 0
PutKeeps m (Ok x) = Same m x.1
PutKeeps m (Err fault) = Unit {0}

abbrev NamedKeeps : DataSpace → Result (ℕ × ℕ × DataSpace) MemFault → Type 0
NamedKeeps m (Ok x) = Same m x.2
NamedKeeps m (Err fault) = Unit {0}

abbrev NodesKeep : {A : Type 0} → DataSpace → Result (A × DataSpace) NodeFault → Type 0
NodesKeep m (Ok x) = Same m x.1
NodesKeep m (Err fault) = Unit {0}

put_if : (b : Bool) (m : DataSpace) (xs : List ℕ) (a : ℕ)
    → PutKeeps m (if b then Ok (a, record (written m a xs) { properties_end = a + length xs }) else Err Full)
put_if true m xs a = (refl, refl)
put_if false m xs a = tt

name_keeps : (m before : DataSpace) (a : ℕ) (r : Result (ℕ × DataSpace) MemFault) → Same m before
    → PutKeeps before r → NamedKeeps m (with_name a r)
name_keeps m before a (Ok x) e h = also m before x.1 h e
name_keeps m before a (Err fault) e h = tt

value_keeps : (m : DataSpace) (value : List ℕ) (r : Result (ℕ × DataSpace) MemFault) → PutKeeps m r
    → NamedKeeps m (value_put value r)
value_keeps m value (Ok x) h = name_keeps m x.1 x.0 (property_put x.1 value) h (put_if _ x.1 value _)
value_keeps m value (Err fault) h = tt

named_keeps : (m : DataSpace) (name value : List ℕ) → NamedKeeps m (named_put m name value)
named_keeps m name value = value_keeps m value (property_put m name) (put_if _ m name _)

new_keeps : (m : DataSpace) (k n : ℕ) (r : Result (ℕ × ℕ × DataSpace) MemFault) → NamedKeeps m r
    → NodesKeep m (new_property k n r)
new_keeps m k n (Ok x) h = h
new_keeps m k n (Err fault) h = tt

set_keeps : (m : DataSpace) (ps : List (List ℕ × Property)) (name : List ℕ)
    (r : Result (Property × DataSpace) NodeFault) → NodesKeep m r → NodesKeep m (set_to ps name r)
set_keeps m ps name (Ok x) h = h
set_keeps m ps name (Err fault) h = tt

node_keeps : (m : DataSpace) (ns : List Node) (parent : ℕ)
    (r : Result (List (List ℕ × Property) × DataSpace) NodeFault) → NodesKeep m r
    → NodesKeep m (with_node ns parent r)
node_keeps m ns parent (Ok x) h = h
node_keeps m ns parent (Err fault) h = tt

child_keeps : (m : DataSpace) (ns : List Node) (parent : ℕ) (value : List ℕ)
    → NodesKeep m (named_child ns m parent value)
child_keeps m ns parent value =
    node_keeps m ns parent _
    (set_keeps m [] (codes "name") _
    (new_keeps m _ _ (named_put m (codes "name") value) (named_keeps m (codes "name") value)))

moved_keeps : (m before : DataSpace) (r : Result (List Node × DataSpace) NodeFault) → Same m before
    → NodesKeep before r → NodesKeep m r
moved_keeps m before (Ok x) e h = also m before x.1 h e
moved_keeps m before (Err fault) e h = tt

then_keeps : (m : DataSpace) (r : Result (List Node × DataSpace) NodeFault) (value : List ℕ) → NodesKeep m r
    → NodesKeep m (then_child r value)
then_keeps m (Ok x) value h = moved_keeps m x.1 (named_child x.0 x.1 0 value) h (child_keeps x.1 x.0 0 value)
then_keeps m (Err fault) value h = tt

tree_keeps : (m : DataSpace) → NodesKeep m (first_tree m)
tree_keeps m =
    then_keeps m _ (codes "slot" ++ 0 ∷ [])
    (then_keeps m _ (codes "packages" ++ 0 ∷ []) (child_keeps m [] 0 (codes "board" ++ 0 ∷ [])))

-- no image stands in it, and no block of an instance
abbrev IsBare : DataSpace → Type 0
IsBare m = (m.images ≡ []) × (m.instances ≡ [])

none_fresh : IsBare fresh
unfolding fresh
none_fresh = (refl, refl)

made_keeps : (r : Result (List Node × DataSpace) NodeFault) → NodesKeep fresh r → IsBare (made_or_none r).1
made_keeps (Ok x) h = (h.0 ∙ none_fresh.0, h.1 ∙ none_fresh.1)
made_keeps (Err fault) h = none_fresh

first_bare : IsBare first_board.memory
first_bare = made_keeps (first_tree fresh) (tree_keeps fresh)

-- no image stands in the data space at first
pub first_images : first_board.memory.images ≡ []
first_images = first_bare.0

-- ---- the first instance

first_free : (p : ℕ → Bool) (a n : ℕ) → p a ≡ true → 1 ≤ n → first_of_eighths p a n ≡ Some a
first_free p a zero e l = absurd (omega arith)
first_free p a (suc n) e l = rw e refl

-- a region without blocks has room at its beginning
free_at : (low high size : ℕ) → low + size ≤ high → 8 ≤ high - low → least_free low high [] size ≡ Some low
unfolding least_free
free_at low high size l h =
    first_free (λ a. nat_le (a + size) high && meets_none [] size a) low ((high - low) / 8)
    (grind (arith, nat_tests)) (omega arith)

opened_by : (m : DataSpace) (ph : Phandle) (o : Option ℕ)
    → least_free instance_start instance_limit m.instances (rounded 0) ≡ o → is_some o ≡ true
    → is_ok (opened no_instances m ph no_self []) ≡ true
opened_by m ph None e h = absurd cc
opened_by m ph (Some a) e h = rw e refl

-- the first instance finds room
pub first_opens : (ph : Phandle) → is_ok (instance_on ph first_board) ≡ true
first_opens ph =
    opened_by first_board.memory ph (Some instance_start)
    (subst (λ bs. least_free instance_start instance_limit bs (rounded 0) ≡ Some instance_start) (sym first_bare.1)
    (free_at instance_start instance_limit (rounded 0) (omega arith) (omega arith)))
    refl
