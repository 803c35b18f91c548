-- The law `tree_finds`, and in it that the path of a node is that in the tree.
use Rattle.std.proofs.Common.{◌≡◌, ℕ, zero, suc, ◌+◌, ◌-◌, ◌*◌, ◌/◌, ◌%◌, ◌<◌, ◌≤◌, ◌==◌}
use Rattle.std.proofs.Common.{◌⊎◌, inl, inr, nat_lt, Ok}
use Rattle.std.proofs.Common.{Bool, true, false, List, [], ◌∷◌, ◌++◌, length, drop, Option, Some, None, refl, ap, sym}
use Rattle.std.proofs.Common.{◌∙◌, arith, if◌then◌else◌}
use Rattle.std.specs.Option.{ok_or, option_or}
use Rattle.std.proofs.lemmas.Bool.{cases_lt}
use Rattle.std.proofs.lemmas.Bool.Decides.{nat_tests}
use Rattle.of_memory.specs.DataSpace.{DataSpace}
use Rattle.of_nodes.specs.declared.tree.Node.{Node}
use Rattle.of_nodes.specs.declared.properties.Property.{Property}
use Rattle.of_nodes.specs.declared.fault.NodeFault.TheVariants.{NoNode}
use Rattle.of_nodes.specs.Components.{component}
use Rattle.of_nodes.specs.Nodes.{AreNodes, first_phandle, node_at, number_of, numbered, parent_in, phandle_of}
use Rattle.of_nodes.specs.Paths.{components_to, path_found, path_in}
use Rattle.of_nodes.specs.Tree.{Nobody, Sibling, Siblings, Stands, below, tree_of}
use Rattle.of_nodes.specs.TreePaths.{TreeFinds, path_below, path_on, path_to}
use Rattle.of_nodes.proofs.TreeFindsNodes.{find, find_package}
use Rattle.of_nodes.proofs.PathPieces.{nonzero}
use Rattle.of_nodes.proofs.NodesByPhandle.{by_number}
use Rattle.of_nodes.proofs.TreeIsShownCalls.{IsAt, equal, is_at, number_is}
use Rattle.of_nodes.proofs.TreeIsShown.{below_root, tree_is_shown}
use Rattle.of_nodes.proofs.PathsFind.{path_step}

equals : (a b : ℕ) → a ≡ b → (a == b) ≡ true
equals a b h = grind (arith, nat_tests)

-- a node that stands among siblings has a path there
abbrev IsSome : Option (List ℕ) → Type 0
IsSome r = (xs : List ℕ) × (r ≡ Some xs)

or_first : (r s : Option (List ℕ)) → IsSome r → IsSome (option_or r s)
or_first (Some ys) s h = (ys, refl)
or_first None s h = cc

or_second : (r s : Option (List ℕ)) → IsSome s → IsSome (option_or r s)
or_second (Some ys) s h = (ys, refl)
or_second None s h = h

if_some : (t : Bool) (xs : List ℕ) (r : Option (List ℕ)) → IsSome r → IsSome (if t then Some xs else r)
if_some true xs r h = (xs, refl)
if_some false xs r h = h

here_some : (t : Bool) (xs : List ℕ) (r : Option (List ℕ)) → t ≡ true → IsSome (if t then Some xs else r)
here_some true xs r h = (xs, refl)
here_some false xs r h = cc

has_path :
    (m : DataSpace) (i : ℕ) (path : List ℕ) (above : List (List ℕ × Property)) (s : Siblings) → Stands i s
    → IsSome (path_below m i path above s)
has_path m i path above Nobody h = absurd h
has_path m i path above (Sibling j properties methods children younger) h =
    let here = path_on m path above properties in
    let down = path_below m i here properties children in
    let on = path_below m i path above younger in
    elim h [
      | inl e ↦ here_some (i == j) here (option_or down on) (equals i j e)
      | inr z ↦ if_some (i == j) here (option_or down on) (elim z [
        | inl s ↦ or_first down on (has_path m i here properties children s)
        | inr s ↦ or_second down on (has_path m i path above younger s)
      ])
    ]

-- a path below a node, and the node's properties
record IsRound (m : DataSpace) (full : List Node) (p : ℕ) (path : List ℕ) (above : List (List ℕ × Property))
    : Type 0 where
  pub same_path : path ≡ components_to m full p p
  pub same_above : above ≡ (node_at full p).properties

-- what a path in the tree is
record IsPath (m : DataSpace) (full : List Node) (i : ℕ) (xs : List ℕ) : Type 0 where
  pub path : xs ≡ components_to m full i i
  pub below : 1 ≤ i
  pub within : i < length full

here_is :
    (m : DataSpace) (full : List Node) (p k : ℕ) (path : List ℕ) (above : List (List ℕ × Property)) (n : Node)
    (ns : List Node) → AreNodes full → drop k full ≡ n ∷ ns → 1 ≤ k → n.parent ≡ p → IsRound m full p path above
    → path_on m path above n.properties ≡ components_to m full k k
here_is m full p k path above n ns h d one e r =
    let at : IsAt full k n ns = is_at full k n ns d in
    let up : p ≡ parent_in full k = sym (ap (λ (x : Node). x.parent) at.node ∙ e) in
    let node : n ≡ node_at full k = sym at.node in
    ap (λ (xs : List ℕ). path_on m xs above n.properties) r.same_path
    ∙ (ap (λ (ps : List (List ℕ × Property)). path_on m (components_to m full p p) ps n.properties) r.same_above
    ∙ (ap (λ (x : Node). components_to m full p p ++ 47 ∷ component m (node_at full p) x) node
    ∙ (ap (λ (q : ℕ). components_to m full q q ++ 47 ∷ component m (node_at full q) (node_at full k)) up
    ∙ sym (path_step m full k h at.within one))))

split_or :
    (r s : Option (List ℕ)) (xs : List ℕ) → option_or r s ≡ Some xs → (r ≡ Some xs) ⊎ (s ≡ Some xs)
split_or None s xs h = inr h
split_or (Some ys) s xs h = inl h

split_if :
    (t : Bool) (ys xs : List ℕ) (r : Option (List ℕ))
    → ◌≡◌ {A = Option (List ℕ)} (if t then Some ys else r) (Some xs)
    → ((t ≡ true) × (ys ≡ xs)) ⊎ (r ≡ Some xs)
split_if true ys xs r h = inl (refl, cc)
split_if false ys xs r h = inr h

sound_step :
    (t : Bool) (m : DataSpace) (full : List Node) (i p k : ℕ) (path : List ℕ) (above : List (List ℕ × Property))
    (n : Node) (ns : List Node) (xs : List ℕ) → AreNodes full → drop k full ≡ n ∷ ns → 1 ≤ k
    → IsRound m full p path above → (n.parent == p) ≡ t
    → (IsRound m full k (path_on m path above n.properties) n.properties
    → path_below m i (path_on m path above n.properties) n.properties (below k (suc k) ns) ≡ Some xs
    → IsPath m full i xs)
    → (path_below m i path above (below p (suc k) ns) ≡ Some xs → IsPath m full i xs)
    → path_below m i path above (below p k (n ∷ ns)) ≡ Some xs → IsPath m full i xs
sound_step true m full i p k path above n ns xs h d one r e down on =
    rw e (λ g.
    let at : IsAt full k n ns = is_at full k n ns d in
    let here = path_on m path above n.properties in
    let inner = path_below m i here n.properties (below k (suc k) ns) in
    let outer = path_below m i path above (below p (suc k) ns) in
    let own : here ≡ components_to m full k k =
    here_is m full p k path above n ns h d one (equal n.parent p e) r in
    let round : IsRound m full k here n.properties =
    record { same_path = own; same_above = ap (λ (x : Node). x.properties) (sym at.node) } in
    elim (split_if (i == k) here xs (option_or inner outer) g) [
      | inl z ↦
          let same : k ≡ i = sym (equal i k z.0) in
          record {
            path = sym z.1 ∙ (own ∙ ap (λ (q : ℕ). components_to m full q q) same);
            below = omega (arith, one, same);
            within = omega (arith, at.within, same);
          }
      | inr z ↦ elim (split_or inner outer xs z) [ inl y ↦ down round y | inr y ↦ on y ]
    ])
sound_step false m full i p k path above n ns xs h d one r e down on = rw e on

sound :
    (m : DataSpace) (full : List Node) (i p k : ℕ) (path : List ℕ) (above : List (List ℕ × Property)) (ms : List Node)
    (xs : List ℕ) → AreNodes full → drop k full ≡ ms → 1 ≤ k → IsRound m full p path above
    → path_below m i path above (below p k ms) ≡ Some xs → IsPath m full i xs
sound m full i p k path above [] xs h d one r g = cc
sound m full i p k path above (n ∷ ns) xs h d one r g =
    let at : IsAt full k n ns = is_at full k n ns d in
    let more : 1 ≤ suc k = omega arith in
    let here = path_on m path above n.properties in
    sound_step (n.parent == p) m full i p k path above n ns xs h d one r refl
    (sound m full i k (suc k) here n.properties ns xs h at.rest more)
    (sound m full i p (suc k) path above ns xs h at.rest more r) g

-- the node of a phandle that there isn't
not_less : (k count : ℕ) → count ≤ k → nat_lt k count ≡ false
not_less k count l = grind (arith, nat_tests)

no_number : (k count : ℕ) → count ≤ k → number_of count (phandle_of k) ≡ None
no_number k count l =
    let low : nat_lt (first_phandle + 4 * k) first_phandle ≡ false = not_less _ _ (omega arith) in
    let distance : first_phandle + 4 * k - first_phandle ≡ 4 * k = omega arith in
    let quarter : 4 * k / 4 ≡ k = omega arith in
    let whole : 4 * k % 4 ≡ 0 = omega arith in
    rw (low, distance, whole, quarter, not_less k count l) refl

root_round : (m : DataSpace) (n : Node) (ns : List Node) → IsRound m (n ∷ ns) 0 [] n.properties
root_round m n ns = record { same_path = refl; same_above = refl }

no_path :
    (r : Option (List ℕ)) (m : DataSpace) (full : List Node) (i : ℕ) → length full ≤ i
    → ((xs : List ℕ) → r ≡ Some xs → IsPath m full i xs) → r ≡ None
no_path None m full i l h = refl
no_path (Some xs) m full i l h =
    let p : IsPath m full i xs = h xs refl in
    absurd (omega (arith, l, p.within))

past_path :
    (m : DataSpace) (n : Node) (ns : List Node) (i : ℕ) → AreNodes (n ∷ ns) → length (n ∷ ns) ≤ i
    → path_found m (n ∷ ns) (phandle_of i) ≡ ok_or (path_to m i (tree_of (n ∷ ns))) NoNode
past_path m n ns i h l =
    let some : 0 < i = omega (arith, l) in
    let none : path_below m i [] n.properties (below 0 1 ns) ≡ None =
    no_path (path_below m i [] n.properties (below 0 1 ns)) m (n ∷ ns) i l
    (λ xs g. sound m (n ∷ ns) i 0 1 [] n.properties ns xs h refl (omega arith) (root_round m n ns) g) in
    ap (λ (o : Option ℕ). numbered o (λ k. Ok (path_in m (n ∷ ns) k))) (no_number i (length (n ∷ ns)) l)
    ∙ rw (nonzero i some, none) refl

below_path :
    (m : DataSpace) (n : Node) (ns : List Node) (i : ℕ) → AreNodes (n ∷ ns) → suc i < length (n ∷ ns)
    → path_below m (suc i) [] n.properties (below 0 1 ns) ≡ Some (components_to m (n ∷ ns) (suc i) (suc i))
below_path m n ns i h l =
    let stands : Stands (suc i) (below 0 1 ns) =
    below_root ns n (suc i) (omega arith) (tree_is_shown.whole (n ∷ ns) (suc i) h l) in
    let f = has_path m (suc i) [] n.properties (below 0 1 ns) stands in
    let is : IsPath m (n ∷ ns) (suc i) f.0 =
    sound m (n ∷ ns) (suc i) 0 1 [] n.properties ns f.0 h refl (omega arith) (root_round m n ns) f.1 in
    f.1 ∙ ap Some is.path

not_root : (m : DataSpace) (ns : List Node) (i : ℕ) → 0 < i → components_to m ns i i ≡ path_in m ns i
not_root m ns i some = rw (nonzero i some) refl

not_top :
    (m : DataSpace) (n : Node) (ns : List Node) (i : ℕ) → 0 < i
    → path_below m i [] n.properties (below 0 1 ns) ≡ path_to m i (tree_of (n ∷ ns))
not_top m n ns i some = rw (nonzero i some) refl

path_same :
    (m : DataSpace) (n : Node) (ns : List Node) (i : ℕ) → AreNodes (n ∷ ns) → i < length (n ∷ ns)
    → path_to m i (tree_of (n ∷ ns)) ≡ Some (path_in m (n ∷ ns) i)
path_same m n ns zero h l = refl
path_same m n ns (suc i) h l =
    let some : 0 < suc i = omega arith in
    sym (not_top m n ns (suc i) some) ∙ (below_path m n ns i h l ∙ ap Some (not_root m (n ∷ ns) (suc i) some))

path_of :
    (m : DataSpace) (ns : List Node) (i : ℕ) → AreNodes ns
    → path_found m ns (phandle_of i) ≡ ok_or (path_to m i (tree_of ns)) NoNode
path_of m [] i h = let t = h.three in absurd (omega (arith, t))
path_of m (n ∷ ns) i h =
    elim (cases_lt i (length (n ∷ ns))) [
      | inl l ↦
          by_number (n ∷ ns) (phandle_of i) i _ (number_is i (length (n ∷ ns)) l)
          ∙ ap (λ (r : Option (List ℕ)). ok_or r NoNode) (sym (path_same m n ns i h l))
      | inr l ↦ past_path m n ns i h l
    ]

pub tree_finds : TreeFinds
tree_finds = record { find = find; find_package = find_package; path_of = path_of }
