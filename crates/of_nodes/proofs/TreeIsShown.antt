-- The law `tree_is_shown`: each node stands in the tree.
use Rattle.std.proofs.Common.{◌≡◌, ℕ, zero, suc, ◌+◌, ◌-◌, ◌<◌, ◌≤◌, ◌==◌, ◌⊎◌, inl, inr, Bool, true, false, List, []}
use Rattle.std.proofs.Common.{◌∷◌, length, drop, refl, ap, sym, ◌∙◌, arith}
use Rattle.std.proofs.lemmas.Bool.Decides.{nat_tests}
use Rattle.of_nodes.specs.declared.tree.Node.{Node}
use Rattle.of_nodes.specs.Nodes.{AreNodes, parent_in}
use Rattle.of_nodes.specs.Tree.{Siblings, Stands, TreeIsShown, below, tree_of}
use Rattle.of_nodes.proofs.TreeIsShownCalls.{IsAt, is_at, shown}
use Rattle.of_nodes.proofs.NodeLists.{parent_older}

-- a node is among those with its parent
own_step :
    (t : Bool) (p k i : ℕ) (n : Node) (ns : List Node) → (n.parent == p) ≡ t
    → Stands i (below p (suc k) ns) → Stands i (below p k (n ∷ ns))
own_step true p k i n ns e h = rw e (inr (inr h))
own_step false p k i n ns e h = rw e h

equals : (a b : ℕ) → a ≡ b → (a == b) ≡ true
equals a b h = grind (arith, nat_tests)

past : (full : List Node) (k i : ℕ) → drop k full ≡ [] → k ≤ i → i < length full → ⊥
past [] k i h a l = omega (arith, l)
past (n ∷ ns) zero i h a l = cc
past (n ∷ ns) (suc k) zero h a l = omega (arith, a)
past (n ∷ ns) (suc k) (suc i) h a l = past ns k i h (omega (arith, a)) (omega (arith, l))

stands_own :
    (full : List Node) (d p k i : ℕ) (ms : List Node) → drop k full ≡ ms → k + d ≡ i → i < length full
    → parent_in full i ≡ p → Stands i (below p k ms)
stands_own full d p k i [] h e l above = absurd (past full k i h (omega (arith, e)) l)
stands_own full zero p k i (n ∷ ns) h e l above =
    let at : IsAt full k n ns = is_at full k n ns h in
    let here : i ≡ k = omega (arith, e) in
    let same : n.parent ≡ p = ap (λ (x : Node). x.parent) (sym at.node) ∙ (ap (parent_in full) (sym here) ∙ above) in
    rw (equals n.parent p same) (inl here)
stands_own full (suc d) p k i (n ∷ ns) h e l above =
    let at : IsAt full k n ns = is_at full k n ns h in
    own_step (n.parent == p) p k i n ns refl
    (stands_own full d p (suc k) i ns at.rest (omega (arith, e)) l above)

-- a node stands where its parent does
under :
    (i p k : ℕ) (cs ys : Siblings) → (p ≡ k → Stands i cs) → (Stands p cs → Stands i cs) → (Stands p ys → Stands i ys)
    → (p ≡ k) ⊎ Stands p cs ⊎ Stands p ys → (i ≡ k) ⊎ Stands i cs ⊎ Stands i ys
under i p k cs ys here down on (inl e) = inr (inl (here e))
under i p k cs ys here down on (inr (inl s)) = inr (inl (down s))
under i p k cs ys here down on (inr (inr s)) = inr (inr (on s))

under_step :
    (t : Bool) (q p k i : ℕ) (n : Node) (ns : List Node) → (n.parent == q) ≡ t
    → (p ≡ k → Stands i (below k (suc k) ns))
    → (Stands p (below k (suc k) ns) → Stands i (below k (suc k) ns))
    → (Stands p (below q (suc k) ns) → Stands i (below q (suc k) ns))
    → Stands p (below q k (n ∷ ns)) → Stands i (below q k (n ∷ ns))
under_step true q p k i n ns e here down on = rw e (under i p k (below k (suc k) ns) (below q (suc k) ns) here down on)
under_step false q p k i n ns e here down on = rw e on

stands_under :
    (full : List Node) (q p k i : ℕ) (ms : List Node) → drop k full ≡ ms → p < i → i < length full
    → parent_in full i ≡ p → Stands p (below q k ms) → Stands i (below q k ms)
stands_under full q p k i [] h l w above s = s
stands_under full q p k i (n ∷ ns) h l w above s =
    let at : IsAt full k n ns = is_at full k n ns h in
    under_step (n.parent == q) q p k i n ns refl
    (λ e. stands_own full (i - suc k) k (suc k) i ns at.rest (omega (arith, e, l)) w (above ∙ e))
    (stands_under full k p (suc k) i ns at.rest l w above)
    (stands_under full q p (suc k) i ns at.rest l w above) s

-- each node stands in the tree, by those above it
pub below_root :
    (ns : List Node) (n : Node) (p : ℕ) → 1 ≤ p → Stands p (tree_of (n ∷ ns)) → Stands p (below 0 1 ns)
below_root ns n p one (inl e) = absurd (omega (arith, one, e))
below_root ns n p one (inr (inl s)) = s
below_root ns n p one (inr (inr s)) = absurd s

stands_by :
    (p : ℕ) (ns : List Node) (n : Node) (i : ℕ) → p < i → i < length (n ∷ ns) → parent_in (n ∷ ns) i ≡ p
    → (1 ≤ p → Stands p (below 0 1 ns)) → Stands i (below 0 1 ns)
stands_by zero ns n i older l above s =
    stands_own (n ∷ ns) (i - 1) 0 1 i ns refl (omega (arith, older)) l above
stands_by (suc p) ns n i older l above s =
    stands_under (n ∷ ns) 0 (suc p) 1 i ns refl older l above (s (omega arith))

stands :
    (ns : List Node) (n : Node) (steps i : ℕ) → AreNodes (n ∷ ns) → i ≤ steps → i < length (n ∷ ns)
    → Stands i (tree_of (n ∷ ns))
stands ns n steps zero h a l = inl refl
stands ns n zero (suc i) h a l = absurd (omega (arith, a))
stands ns n (suc steps) (suc i) h a l =
    let p = parent_in (n ∷ ns) (suc i) in
    let older : p < suc i = parent_older (n ∷ ns) (suc i) h l (omega arith) in
    inr (inl (stands_by p ns n (suc i) older l refl
    (λ one. below_root ns n p one (stands ns n steps p h (omega (arith, older, a)) (omega (arith, older, l))))))

whole : (ns : List Node) (i : ℕ) → AreNodes ns → i < length ns → Stands i (tree_of ns)
whole [] i h l = absurd (omega (arith, l))
whole (n ∷ ns) i h l = stands ns n i i h (omega arith) l

pub tree_is_shown : TreeIsShown
tree_is_shown = record { whole = whole; shown = shown }
