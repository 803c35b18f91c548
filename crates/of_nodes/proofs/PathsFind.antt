-- The law `paths_find`: a node is found by its path.
use Rattle.std.proofs.Common.{◌≡◌, ℕ, zero, suc, ◌+◌, ◌-◌, ◌<◌, ◌≤◌, ◌==◌, nat_le, Bool, true, false, ◌&&◌, List, []}
use Rattle.std.proofs.lemmas.Bool.{and_parts, leb-true}
use Rattle.std.proofs.Common.{◌∷◌, ◌++◌, length, drop, Option, Some, None, refl, ap, sym, ◌∙◌, arith, append_assoc}
use Rattle.std.proofs.Common.{if◌then◌else◌, codes, drop-cons}
use Rattle.std.specs.List.{list_all}
use Rattle.std.proofs.lemmas.Bool.Decides.{nat_tests}
use Rattle.of_memory.specs.DataSpace.{DataSpace}
use Rattle.of_nodes.specs.declared.tree.Node.{Node}
use Rattle.of_nodes.specs.declared.lookup.Age.{Age}
use Rattle.of_nodes.specs.declared.lookup.Age.TheVariants.{Oldest}
use Rattle.of_nodes.specs.Asked.{Asked, asked, fits}
use Rattle.of_nodes.specs.Components.{address_cells, name_at, node_name, unit_of, value_of}
use Rattle.of_nodes.specs.Lookup.{child_for, first, fitting, from, node_of, walk}
use Rattle.of_nodes.specs.Names.{is_name, is_name_byte}
use Rattle.of_nodes.specs.Nodes.{AreNodes, new_node, node_at, parent_in}
use Rattle.of_nodes.specs.Paths.{component_in, components_to, path_in}
use Rattle.of_nodes.specs.Texts.{components, split, with_byte}
use Rattle.of_nodes.specs.Ways.{IsFirst, PathsFind}
use Rattle.of_nodes.proofs.ComponentsFit.{IsClear, IsWhole, clear, clear_component, clear_unit, fits_own, lacks}
use Rattle.of_nodes.proofs.ComponentsFit.{whole}
use Rattle.of_nodes.proofs.PathPieces.{nonzero, path_here, path_on}
use Rattle.of_nodes.proofs.NodeLists.{parent_older}
use Rattle.of_nodes.proofs.TextWalks.{split_is}

-- the parts of two texts with a slash between
part_on : (x : ℕ) (xs : List ℕ) (zs : List (List ℕ)) → with_byte x (split xs ++ zs) ≡ with_byte x (split xs) ++ zs
part_on x xs zs = rw (split_is xs) refl

join_step :
    (t : Bool) (x : ℕ) (xs ys : List ℕ) → (x == 47) ≡ t → split (xs ++ 47 ∷ ys) ≡ split xs ++ split ys
    → split ((x ∷ xs) ++ 47 ∷ ys) ≡ split (x ∷ xs) ++ split ys
join_step true x xs ys h ih = rw h (ap (λ (l : List (List ℕ)). [] ∷ l) ih)
join_step false x xs ys h ih = rw h (ap (with_byte x) ih ∙ part_on x xs (split ys))

pub split_join : (xs ys : List ℕ) → split (xs ++ 47 ∷ ys) ≡ split xs ++ split ys
split_join [] ys = refl
split_join (x ∷ xs) ys = join_step (x == 47) x xs ys refl (split_join xs ys)

split_whole : (xs : List ℕ) → lacks 47 xs ≡ true → split xs ≡ xs ∷ []
split_whole xs h =
    let w : IsWhole 47 xs = whole 47 xs h in
    split_is xs ∙ rw (w.all, w.none) refl

-- a walk along more components goes on where it was
module _ (m : DataSpace) (ns : List Node) (age : Age) where
  on_step :
      (o : Option ℕ) (cs ds : List (List ℕ))
      → ((j : ℕ) → walk m ns age j (cs ++ ds) ≡ from (walk m ns age j cs) (λ k. walk m ns age k ds))
      → from o (λ j. walk m ns age j (cs ++ ds))
      ≡ from (from o (λ j. walk m ns age j cs)) (λ k. walk m ns age k ds)
  on_step None cs ds ih = refl
  on_step (Some j) cs ds ih = ih j

  walk_join :
      (i : ℕ) (cs ds : List (List ℕ))
      → walk m ns age i (cs ++ ds) ≡ from (walk m ns age i cs) (λ k. walk m ns age k ds)
  walk_join i [] ds = refl
  walk_join i (c ∷ cs) ds = on_step (child_for m ns age i c) cs ds (λ j. walk_join j cs ds)

-- the child that is found is the first that fits
not_both : (a b : Bool) → (a ≡ true → b ≡ false) → (a && b) ≡ false
not_both true b h = h refl
not_both false b h = refl

equal : (a b : ℕ) → (a == b) ≡ true → a ≡ b
equal a b h = grind (arith, nat_tests)

equals : (a b : ℕ) → a ≡ b → (a == b) ≡ true
equals a b h = grind (arith, nat_tests)

first_fit :
    (m : DataSpace) (ns : List Node) (count p i : ℕ) (c : Asked) (d k : ℕ) → k + d ≡ i → 1 ≤ k → i < length ns
    → parent_in ns i ≡ p → fits m count (node_at ns i) c ≡ true
    → ((j : ℕ) → 1 ≤ j → j < i → parent_in ns j ≡ p → fits m count (node_at ns j) c ≡ false)
    → first (fitting m count c p k (drop k ns)) ≡ Some i
first_fit m ns count p i c zero k e one l above good older =
    let here : k ≡ i = omega (arith, e) in
    let same : ((node_at ns i).parent == p) ≡ true = equals (node_at ns i).parent p above in
    rw (here, drop-cons ns i (new_node 0) l, same, good) refl
first_fit m ns count p i c (suc d) k e one l above good older =
    let within : k < length ns = omega (arith, e, l) in
    let before_i : k < i = omega (arith, e) in
    let no : ((node_at ns k).parent == p && fits m count (node_at ns k) c) ≡ false =
    not_both ((node_at ns k).parent == p) (fits m count (node_at ns k) c)
    (λ t. older k one before_i (equal (node_at ns k).parent p t)) in
    rw (drop-cons ns k (new_node 0) within, no)
    (first_fit m ns count p i c d (suc k) (omega (arith, e)) (omega (arith, one)) l above good older)

-- more levels than there are change nothing
positive : (i : ℕ) → (i == 0) ≡ false → 1 ≤ i
positive i h = grind (arith, nat_tests)

level_step :
    (t : Bool) (m : DataSpace) (ns : List Node) (k j i : ℕ) → (i == 0) ≡ t
    → (1 ≤ i → components_to m ns k (parent_in ns i) ≡ components_to m ns j (parent_in ns i))
    → components_to m ns (suc k) i ≡ components_to m ns (suc j) i
level_step true m ns k j i h ih = rw h refl
level_step false m ns k j i h ih =
    rw h (ap (λ (xs : List ℕ). xs ++ 47 ∷ component_in m ns i) (ih (positive i h)))

levels :
    (m : DataSpace) (ns : List Node) (k j i : ℕ) → AreNodes ns → i < length ns → i ≤ k → i ≤ j
    → components_to m ns k i ≡ components_to m ns j i
levels m ns zero j i h l a b = let none : i ≡ 0 = omega (arith, a) in rw none (sym (path_here m ns j))
levels m ns (suc k) zero i h l a b = let none : i ≡ 0 = omega (arith, b) in rw none refl
levels m ns (suc k) (suc j) i h l a b =
    level_step (i == 0) m ns k j i refl (λ one.
    let older : parent_in ns i < i = parent_older ns i h l one in
    levels m ns k j (parent_in ns i) h (omega (arith, older, l)) (omega (arith, older, a)) (omega (arith, older, b)))

pub path_step :
    (m : DataSpace) (ns : List Node) (i : ℕ) → AreNodes ns → i < length ns → 1 ≤ i
    → components_to m ns i i
    ≡ components_to m ns (parent_in ns i) (parent_in ns i) ++ 47 ∷ component_in m ns i
path_step m ns i h l one =
    let p = parent_in ns i in
    let c = component_in m ns i in
    let older : p < i = parent_older ns i h l one in
    let up = components_to m ns (i - 1) p in
    let less : up ≡ components_to m ns p p =
    levels m ns (i - 1) p p h (omega (arith, older, l)) (omega (arith, older)) (omega arith) in
    sym (path_on m ns i i [] one one)
    ∙ (append_assoc up (47 ∷ []) c ∙ ap (λ (xs : List ℕ). xs ++ 47 ∷ c) less)

-- the path of a node from that of its parent
components_some : (xs ys : List ℕ) → components (xs ++ 47 ∷ ys) ≡ split (xs ++ 47 ∷ ys)
components_some [] ys = refl
components_some (x ∷ xs) ys = refl

grow_text :
    (m : DataSpace) (ns : List Node) (p i : ℕ) (text c : List ℕ) → walk m ns Oldest 0 (components text) ≡ Some p
    → 1 ≤ p → walk m ns Oldest p (split c) ≡ Some i → walk m ns Oldest 0 (components (text ++ 47 ∷ c)) ≡ Some i
grow_text m ns p i [] c h one on =
    let root : 0 ≡ p = cc in
    absurd (omega (arith, root, one))
grow_text m ns p i (x ∷ text) c h one on =
    let cs = split (x ∷ text) in
    ap (walk m ns Oldest 0) (split_join (x ∷ text) c)
    ∙ (walk_join m ns Oldest 0 cs (split c)
    ∙ (ap (λ (r : Option ℕ). from r (λ k. walk m ns Oldest k (split c))) h ∙ on))

if_true :
    (t : Bool) (r : Option ℕ) (p : ℕ) → t ≡ true → ◌≡◌ {A = Option ℕ} (if t then r else None) (Some p) → r ≡ Some p
if_true true r p e h = h
if_true false r p e h = cc

if_false :
    (t : Bool) (r : Option ℕ) (p : ℕ) → t ≡ false → ◌≡◌ {A = Option ℕ} (if t then r else None) (Some p) → ⊥
if_false true r p e h = cc
if_false false r p e h = cc

grow_step :
    (t : Bool) (m : DataSpace) (ns : List Node) (p i b : ℕ) (text c : List ℕ) → (b == 47) ≡ t
    → node_of m ns (b ∷ text) ≡ Some p → 1 ≤ p → walk m ns Oldest p (split c) ≡ Some i
    → node_of m ns ((b ∷ text) ++ 47 ∷ c) ≡ Some i
grow_step true m ns p i b text c e h one on =
    let below : walk m ns Oldest 0 (components text) ≡ Some p =
    if_true (b == 47) (walk m ns Oldest 0 (components text)) p e h in
    rw e (grow_text m ns p i text c below one on)
grow_step false m ns p i b text c e h one on =
    absurd (if_false (b == 47) (walk m ns Oldest 0 (components text)) p e h)

grow :
    (m : DataSpace) (ns : List Node) (p i : ℕ) (xs c : List ℕ) → node_of m ns xs ≡ Some p → 1 ≤ p
    → walk m ns Oldest p (split c) ≡ Some i → node_of m ns (xs ++ 47 ∷ c) ≡ Some i
grow m ns p i [] c h one on = cc
grow m ns p i (b ∷ text) c h one on = grow_step (b == 47) m ns p i b text c refl h one on

-- behind the root's slash
components_full : (xs : List ℕ) → 1 ≤ length xs → components xs ≡ split xs
components_full [] h = absurd (omega (arith, h))
components_full (x ∷ xs) h = refl

some_byte : (xs : List ℕ) → is_name xs ≡ true → 1 ≤ length xs
some_byte xs h =
    let b = and_parts (nat_le 1 (length xs) && nat_le (length xs) 31) (list_all is_name_byte xs) h in
    let c = and_parts (nat_le 1 (length xs)) (nat_le (length xs) 31) b.0 in
    leb-true 1 (length xs) c.0

longer : (name : List ℕ) (unit : Option (List ℕ)) → 1 ≤ length name → 1 ≤ length (name_at name unit)
longer name None h = h
longer [] (Some unit) h = absurd (omega (arith, h))
longer (x ∷ name) (Some unit) h = omega arith

child_step :
    (t : Bool) (m : DataSpace) (ns : List Node) (i p : ℕ) (c : List ℕ) → (p == 0) ≡ t → 1 ≤ length c
    → node_of m ns (path_in m ns p) ≡ Some p → walk m ns Oldest p (split c) ≡ Some i
    → node_of m ns (components_to m ns p p ++ 47 ∷ c) ≡ Some i
child_step true m ns i p c e some h on =
    let root : p ≡ 0 = equal p 0 e in
    let top : components_to m ns p p ≡ [] = ap (λ (k : ℕ). components_to m ns k k) root in
    let from_root : walk m ns Oldest 0 (split c) ≡ Some i = rw (← root) on in
    rw top (ap (walk m ns Oldest 0) (components_full c some) ∙ from_root)
child_step false m ns i p c e some h on =
    let path : path_in m ns p ≡ components_to m ns p p = rw e refl in
    grow m ns p i (components_to m ns p p) c (rw (← path) h) (positive p e) on

child_found :
    (m : DataSpace) (ns : List Node) (i : ℕ) → AreNodes ns → IsFirst m ns i
    → node_of m ns (path_in m ns (parent_in ns i)) ≡ Some (parent_in ns i)
    → node_of m ns (path_in m ns i) ≡ Some i
child_found m ns i h f up =
    let p = parent_in ns i in
    let n = node_at ns i in
    let above = node_at ns p in
    let c = component_in m ns i in
    let unit = unit_of m (address_cells m above) n in
    let good : list_all is_name_byte (node_name m n) ≡ true =
    (and_parts (nat_le 1 (length (node_name m n)) && nat_le (length (node_name m n)) 31)
    (list_all is_name_byte (node_name m n)) f.name).1 in
    let name : IsClear (node_name m n) = clear (node_name m n) good in
    let slash : lacks 47 c ≡ true =
    (clear_component (node_name m n) unit name (clear_unit (address_cells m above) (value_of m n (codes "reg")))).0 in
    let some : 1 ≤ length c = longer (node_name m n) unit (some_byte (node_name m n) f.name) in
    let place : 1 + (i - 1) ≡ i = omega (arith, f.below) in
    let found : child_for m ns Oldest p c ≡ Some i =
    first_fit m ns (address_cells m above) p i (asked c) (i - 1) 1 place (omega arith) f.within refl
    (fits_own m above n name) f.no_older in
    let on : walk m ns Oldest p (split c) ≡ Some i =
    ap (walk m ns Oldest p) (split_whole c slash)
    ∙ ap (λ (r : Option ℕ). from r (λ j. walk m ns Oldest j [])) found in
    let path : path_in m ns i ≡ components_to m ns p p ++ 47 ∷ c =
    rw (nonzero i f.below) (path_step m ns i h f.within f.below) in
    rw path (child_step (p == 0) m ns i p c refl some up on)

pub paths_find : PathsFind
paths_find = record { root = λ m ns. refl; child = child_found }
