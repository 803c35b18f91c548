-- Room for several blocks of the instance region.
use Rattle.std.proofs.Common.{◌≡◌, ℕ, ◌≤◌, zero, suc, true, false, List, [], ◌∷◌, ◌++◌, length, get_or, replicate}
use Rattle.std.proofs.Common.{Option, Some, None, Result, Ok, Err, append_assoc, refl, sym, ap, ◌∙◌, arith}
use Rattle.std.specs.List.{insert, remove}
use Rattle.std.proofs.lemmas.Bool.{false≢true}
use Rattle.of_cells.specs.declared.cells.Cell.{Cell}
use Rattle.of_memory.specs.Regions.{instance_start, instance_limit}
use Rattle.of_memory.specs.declared.blocks.Block.{Block}
use Rattle.of_memory.specs.declared.fault.MemFault.{MemFault}
use Rattle.of_memory.specs.declared.fault.MemFault.TheVariants.{Full}
use Rattle.of_memory.specs.Blocks.{least_free, rounded, with_block}
use Rattle.of_memory.specs.BlockSearch.{find_room, block_at}
use Rattle.of_memory.specs.BlockCalls.{instance_taken, instances_taken, with_first}
use Rattle.of_memory.specs.DataSpace.{DataSpace, written}

-- a block that was put in and taken out again
pub put_and_removed : (bs : List Block) (i : ℕ) (b : Block) → i ≤ length bs → remove (insert bs i b) i ≡ bs
put_and_removed [] zero b l = refl
put_and_removed [] (suc i) b l = absurd (omega arith)
put_and_removed (c ∷ bs) zero b l = refl
put_and_removed (c ∷ bs) (suc i) b l = ap (λ cs. c ∷ cs) (put_and_removed bs i b (omega arith))

pub room_none :
    (low high : ℕ) (bs : List Block) (n : Cell) (ns : List Cell) → least_free low high bs (rounded n.0) ≡ None
    → find_room low high bs (n ∷ ns) ≡ false
room_none low high bs n ns e = rw (e, find_room) refl

pub room_some :
    (low high a : ℕ) (bs : List Block) (n : Cell) (ns : List Cell) → least_free low high bs (rounded n.0) ≡ Some a
    → find_room low high bs (n ∷ ns) ≡ find_room low high (with_block (block_at a (rounded n.0)) bs) ns
room_some low high a bs n ns e = rw (e, find_room) refl

pub no_room :
    (low high : ℕ) (bs : List Block) (ns : List Cell) (d : Cell) → 1 ≤ length ns
    → least_free low high bs (rounded (get_or ns 0 d).0) ≡ None → find_room low high bs ns ≡ false
no_room low high bs [] d l e = absurd (omega arith)
no_room low high bs (n ∷ ns) d l e = room_none low high bs n ns e

-- the data space with a block at the address
abbrev taken_at : DataSpace → Cell → ℕ → DataSpace
taken_at m n a =
    record (written m a (replicate (rounded n.0) 0)) { instances = with_block (block_at a (rounded n.0)) m.instances }

-- what taking the first answers
taken_none :
    (m : DataSpace) (n : Cell) → least_free instance_start instance_limit m.instances (rounded n.0) ≡ None
    → instance_taken m n.0 ≡ Err Full
taken_none m n e = rw e refl

-- where there is no room for all, one of them finds none
pub full :
    (m : DataSpace) (ns : List Cell) → find_room instance_start instance_limit m.instances ns ≡ false
    → instances_taken m ns ≡ Err Full
full m [] e = absurd (false≢true (sym e))
full m (n ∷ ns) e =
    go (least_free instance_start instance_limit m.instances (rounded n.0)) refl (λ after h. full after ns h)
  where
    go :
        (o : Option ℕ) → least_free instance_start instance_limit m.instances (rounded n.0) ≡ o
        → ((after : DataSpace) → find_room instance_start instance_limit after.instances ns ≡ false
        → instances_taken after ns ≡ Err Full)
        → instances_taken m (n ∷ ns) ≡ Err Full
    go None f others = rw (taken_none m n f) refl
    go (Some a) f others =
        let left = with_block (block_at a (rounded n.0)) m.instances in
        let less : find_room instance_start instance_limit left ns ≡ false =
        sym (room_some instance_start instance_limit a m.instances n ns f) ∙ e in
        let one : instance_taken m n.0 ≡ Ok (a, taken_at m n a) = rw f refl in
        rw one (rw (others (taken_at m n a) less) refl)

-- where there is room for all, the first of them finds some
pub not_full :
    (m : DataSpace) (n : Cell) (ns : List Cell) (fault : MemFault)
    → find_room instance_start instance_limit m.instances (n ∷ ns) ≡ true → instance_taken m n.0 ≡ Err fault → ⊥
not_full m n ns fault e = go (least_free instance_start instance_limit m.instances (rounded n.0)) refl
  where
    go :
        (o : Option ℕ) → least_free instance_start instance_limit m.instances (rounded n.0) ≡ o
        → instance_taken m n.0 ≡ Err fault → ⊥
    go None f h = absurd (false≢true (sym (room_none instance_start instance_limit m.instances n ns f) ∙ e))
    go (Some a) f h = let no = rw f at h in cc

-- and there is room for the others then
pub room_left :
    (m new : DataSpace) (n : Cell) (ns : List Cell) (a : ℕ)
    → find_room instance_start instance_limit m.instances (n ∷ ns) ≡ true → instance_taken m n.0 ≡ Ok (a, new)
    → find_room instance_start instance_limit new.instances ns ≡ true
room_left m new n ns a e = go (least_free instance_start instance_limit m.instances (rounded n.0)) refl
  where
    go :
        (o : Option ℕ) → least_free instance_start instance_limit m.instances (rounded n.0) ≡ o
        → instance_taken m n.0 ≡ Ok (a, new) → find_room instance_start instance_limit new.instances ns ≡ true
    go None f h = absurd (false≢true (sym (room_none instance_start instance_limit m.instances n ns f) ∙ e))
    go (Some x) f h =
        let same = rw f at h in
        let one : ◌≡◌ {A = ℕ × DataSpace} (a, new) (x, taken_at m n x) = cc in
        let left : new.instances ≡ with_block (block_at x (rounded n.0)) m.instances =
        ap (λ (p : ℕ × DataSpace). p.1.instances) one in
        rw left (sym (room_some instance_start instance_limit x m.instances n ns f) ∙ e)

-- more addresses before those that were answered
abbrev pub after : List Cell → Result (List Cell × DataSpace) MemFault → Result (List Cell × DataSpace) MemFault
after xs (Err fault) = Err fault
after xs (Ok x) = Ok (xs ++ x.0, x.1)

pub after_none : (r : Result (List Cell × DataSpace) MemFault) → after [] r ≡ r
after_none (Err fault) = refl
after_none (Ok x) = refl

after_first :
    (xs : List Cell) (a : ℕ) (r : Result (List Cell × DataSpace) MemFault)
    → after xs (with_first a r) ≡ after (xs ++ record { 0 = a } ∷ []) r
after_first xs a (Err fault) = refl
after_first xs a (Ok x) = rw append_assoc refl

pub one_more :
    (m new : DataSpace) (n : Cell) (ns xs : List Cell) (a : ℕ) → instance_taken m n.0 ≡ Ok (a, new)
    → after xs (instances_taken m (n ∷ ns)) ≡ after (xs ++ record { 0 = a } ∷ []) (instances_taken new ns)
one_more m new n ns xs a e = rw e (after_first xs a (instances_taken new ns))
