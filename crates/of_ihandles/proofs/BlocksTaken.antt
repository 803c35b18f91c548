-- Blocks that were taken lie in the instance region.
use Rattle.std.proofs.Common.{◌≡◌, ℕ, zero, suc, ◌+◌, ◌-◌, ◌/◌, ◌%◌, ◌&&◌, ◌<◌, ◌≤◌, nat_le, Bool, true, false, List}
use Rattle.std.proofs.Common.{[], ◌∷◌, ◌++◌, length, get_or, take, Option, Some, None, Result, Ok, Err, refl, sym, ap}
use Rattle.std.proofs.Common.{◌∙◌, subst, arith}
use Rattle.std.proofs.lemmas.Bool.{and_parts, leb-true}
use Rattle.std.proofs.lemmas.Grind.{common_steps}
use Rattle.of_cells.specs.declared.cells.Cell.{Cell}
use Rattle.of_memory.specs.Blocks.{first_of_eighths, least_free, meets_none, rounded}
use Rattle.of_memory.specs.BlockCalls.{instance_taken, instances_taken, with_first}
use Rattle.of_memory.specs.DataSpace.{DataSpace}
use Rattle.of_memory.specs.Regions.{instance_limit, instance_start}
use Rattle.of_memory.specs.declared.fault.MemFault.{MemFault}
use Rattle.of_ihandles.specs.Blocks.{IsInRegion, span, spans}

-- the first that passes passes, and stands some eighths above the first that is tried
record Found (p : ℕ → Bool) (a x : ℕ) : Type 0 where
  passes : p x ≡ true
  above : a ≤ x
  eighth : x % 8 ≡ a % 8

found : (p : ℕ → Bool) (a n x : ℕ) → first_of_eighths p a n ≡ Some x → Found p a x
found p a zero x e = absurd cc
found p a (suc n) x e = go (p a) refl (found p (a + 8) n x)
  where
    go : (b : Bool) → p a ≡ b → (first_of_eighths p (a + 8) n ≡ Some x → Found p (a + 8) x) → Found p a x
    go true h rest =
        let e' = rw h at e in
        let same : a ≡ x = cc in
        record { passes = subst (λ y. p y ≡ true) same h; above = omega arith; eighth = ap (λ y. y % 8) (sym same) }
    go false h rest =
        let e' = rw h at e in
        let r : Found p (a + 8) x = rest e' in
        record { passes = r.passes; above = omega (arith, r.above); eighth = omega (arith, r.eighth) }

-- the block that is taken
pub taken_at : (m : DataSpace) (n : Cell) (a : ℕ) → least_free instance_start instance_limit m.instances (rounded n.0)
    ≡ Some a → IsInRegion (span (record { 0 = a }) n)
unfolding least_free
taken_at m n a e =
    let p : ℕ → Bool =
    λ x. nat_le (x + rounded n.0) instance_limit && meets_none m.instances (rounded n.0) x in
    let f : Found p instance_start a = found p instance_start ((instance_limit - instance_start) / 8) a e in
    let test = (and_parts _ _ f.passes).0 in
    let fits : a + rounded n.0 ≤ instance_limit = leb-true (a + rounded n.0) instance_limit test in
    record { from = f.above; to = fits; eighth = f.eighth }

pub taken_in_region : (m after : DataSpace) (n : Cell) (a : ℕ) → instance_taken m n.0 ≡ Ok (a, after)
    → IsInRegion (span (record { 0 = a }) n)
taken_in_region m after n a e = go (least_free instance_start instance_limit m.instances (rounded n.0)) refl
  where
    go : (o : Option ℕ) → least_free instance_start instance_limit m.instances (rounded n.0) ≡ o
        → IsInRegion (span (record { 0 = a }) n)
    go None f = let no = rw f at e in absurd cc
    go (Some x) f =
        let one = rw f at e in
        let same : x ≡ a = ap (λ (r : Result (ℕ × DataSpace) MemFault). address r) one in
        subst (λ y. IsInRegion (span (record { 0 = y }) n)) same (taken_at m n x f)
      where
        address : Result (ℕ × DataSpace) MemFault → ℕ
        address (Ok r) = r.0
        address (Err fault) = 0

-- what taking several answers is what taking the first and then the others does
pub record First (m after : DataSpace) (n : Cell) (ns as' : List Cell) : Type 0 where
  pub address : ℕ
  pub left : DataSpace
  pub others : List Cell
  pub first : instance_taken m n.0 ≡ Ok (address, left)
  pub rest : instances_taken left ns ≡ Ok (others, after)
  pub all : as' ≡ record { 0 = address } ∷ others

pub first_taken : (m after : DataSpace) (n : Cell) (ns as' : List Cell) → instances_taken m (n ∷ ns) ≡ Ok (as', after)
    → First m after n ns as'
first_taken m after n ns as' e = go (instance_taken m n.0) refl
  where
    then : (a : ℕ) (left : DataSpace) → instance_taken m n.0 ≡ Ok (a, left)
        → (r : Result (List Cell × DataSpace) MemFault) → instances_taken left ns ≡ r
        → with_first a r ≡ Ok (as', after) → First m after n ns as'
    then a left f (Err fault) g h = absurd cc
    then a left f (Ok y) g h =
        let both : ◌≡◌ {A = List Cell × DataSpace} (record { 0 = a } ∷ y.0, y.1) (as', after) = cc in
        let end : y.1 ≡ after = ap (λ (p : List Cell × DataSpace). p.1) both in
        record {
          address = a;
          left = left;
          others = y.0;
          first = f;
          rest = g ∙ ap (λ (z : DataSpace). Ok (y.0, z)) end;
          all = sym (ap (λ (p : List Cell × DataSpace). p.0) both);
        }

    go : (r : Result (ℕ × DataSpace) MemFault) → instance_taken m n.0 ≡ r → First m after n ns as'
    go (Err fault) f = let no = rw f at e in absurd cc
    go (Ok x) f = let rest = rw f at e in then x.0 x.1 f (instances_taken x.1 ns) refl rest

-- each of several blocks lies in the region
pub all_in_region : (m after : DataSpace) (ns as' : List Cell) (i : ℕ) (d : Cell)
    → instances_taken m ns ≡ Ok (as', after) → i < length as' → i < length ns
    → IsInRegion (span (get_or as' i d) (get_or ns i d))
all_in_region m after [] as' i d e l k = absurd (omega arith)
all_in_region m after (n ∷ ns) as' i d e l k =
    let s : First m after n ns as' = first_taken m after n ns as' e in
    go s i (λ j. all_in_region s.left after ns s.others j d s.rest) (rw s.all at l) k
  where
    go : (s : First m after n ns as') (i : ℕ)
        → ((j : ℕ) → j < length s.others → j < length ns → IsInRegion (span (get_or s.others j d) (get_or ns j d)))
        → i < suc (length s.others) → i < suc (length ns)
        → IsInRegion (span (get_or as' i d) (get_or (n ∷ ns) i d))
    go s zero rest l k = rw s.all (taken_in_region m s.left n s.address s.first)
    go s (suc j) rest l k = rw s.all (rest j (omega arith) (omega arith))

-- one more block
pub spans_more : (as' ns : List Cell) (i : ℕ) (d : Cell) → i < length as' → i < length ns
    → spans (take (i + 1) as') (take (i + 1) ns)
    ≡ spans (take i as') (take i ns) ++ span (get_or as' i d) (get_or ns i d) ∷ []
spans_more [] ns i d l k = absurd (omega arith)
spans_more (x ∷ as') [] i d l k = absurd (omega arith)
spans_more (x ∷ as') (y ∷ ns) zero d l k = refl
spans_more (x ∷ as') (y ∷ ns) (suc i) d l k =
    let e : suc i + 1 ≡ suc (i + 1) = omega arith in
    rw e (ap (λ z. span x y ∷ z) (spans_more as' ns i d (omega arith) (omega arith)))

pub ruleset taken_facts = (all_in_region, spans_more)
