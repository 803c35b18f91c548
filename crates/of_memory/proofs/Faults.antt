-- The fault of a read or a write, case by case.
use Rattle.std.proofs.Common.{◌≡◌, ◌≢◌, ℕ, ◌%◌, ◌<◌, Bool, true, false, ◌⊎◌, inl, inr, eqb, Option, Some, None}
use Rattle.std.proofs.lemmas.Bool.{ne_eqb}
use Rattle.std.proofs.Common.{refl, sym, arith}
use Rattle.std.proofs.lemmas.Grind.{common_steps}
use Rattle.of_memory.specs.declared.fault.MemFault.{MemFault}
use Rattle.of_memory.specs.declared.fault.MemFault.TheVariants.{Address, Alignment, ReadOnly}
use Rattle.of_memory.specs.declared.width.Width.{Width}
use Rattle.of_memory.specs.Width.{bytes_in}
use Rattle.of_memory.specs.Regions.{region_of, may_write, longest}
use Rattle.of_memory.specs.DataSpace.{DataSpace}
use Rattle.of_memory.specs.Access.{IsPlaced, are_readable, read_fault, write_fault}
use Rattle.of_memory.proofs.Readable.{range_placed}

pub some_not_none : (n : ℕ) → 0 < n → eqb n 0 ≡ false
some_not_none n l = grind (arith, common_steps)

pub address_fault :
    (m : DataSpace) (a n : ℕ) (w : Width) → 0 < n → are_readable m a n ≡ false → read_fault m a n w ≡ Some Address
unfolding read_fault
address_fault m a n w some test = rw (some_not_none n some, test) refl

pub alignment_fault :
    (m : DataSpace) (a n : ℕ) (w : Width) → 0 < n → are_readable m a n ≡ true → a % bytes_in w ≢ 0
    → read_fault m a n w ≡ Some Alignment
unfolding read_fault
alignment_fault m a n w some test odd = rw (some_not_none n some, test, ne_eqb (a % bytes_in w) 0 odd) refl

pub no_fault :
    (m : DataSpace) (a n : ℕ) (w : Width) → 0 < n → are_readable m a n ≡ true → a % bytes_in w ≡ 0
    → read_fault m a n w ≡ None
unfolding read_fault
no_fault m a n w some test even = rw (some_not_none n some, test, even) refl

pub write_fault_of_read :
    (m : DataSpace) (a n : ℕ) (w : Width) (e : MemFault) → Some e ≡ read_fault m a n w → Some e ≡ write_fault m a n w
unfolding write_fault
write_fault_of_read m a n w e h = rw (sym h) refl

pub read_only_fault :
    (m : DataSpace) (a n : ℕ) (w : Width) → 0 < n → read_fault m a n w ≡ None → may_write (region_of a) ≡ false
    → write_fault m a n w ≡ Some ReadOnly
unfolding write_fault
read_only_fault m a n w some h test = rw (h, some_not_none n some, test) refl

pub no_write_fault :
    (m : DataSpace) (a n : ℕ) (w : Width) → 0 < n → read_fault m a n w ≡ None → may_write (region_of a) ≡ true
    → write_fault m a n w ≡ None
unfolding write_fault
no_write_fault m a n w some h test = rw (h, some_not_none n some, test) refl

true_or_false : (p : Bool) → (p ≡ true) ⊎ (p ≡ false)
true_or_false true = inl refl
true_or_false false = inr refl

-- no range is longer than a region
pub long_fault : (m : DataSpace) (a n : ℕ) (w : Width) → longest < n → read_fault m a n w ≡ Some Address
long_fault m a n w long =
    elim (true_or_false (are_readable m a n)) [
      | inl e ↦ let at : IsPlaced a n = range_placed m a n e (omega arith) in absurd (omega (arith, at.within))
      | inr e ↦ address_fault m a n w (omega arith) e
    ]

pub long_write_fault : (m : DataSpace) (a n : ℕ) (w : Width) → longest < n → write_fault m a n w ≡ Some Address
unfolding write_fault
long_write_fault m a n w long = rw (long_fault m a n w long) refl

not_both : (f : Option MemFault) (e : MemFault) → f ≡ None → f ≡ Some e → ⊥
not_both None e a b = cc
not_both (Some x) e a b = cc

-- where the bytes of a read and of a write without a fault stand
pub read_placed : (m : DataSpace) (a n : ℕ) (w : Width) → 0 < n → read_fault m a n w ≡ None → IsPlaced a n
read_placed m a n w some none =
    elim (true_or_false (are_readable m a n)) [
      | inl e ↦ range_placed m a n e some
      | inr e ↦ absurd (not_both (read_fault m a n w) Address none (address_fault m a n w some e))
    ]

pub write_placed : (m : DataSpace) (a n : ℕ) (w : Width) → 0 < n → write_fault m a n w ≡ None → IsPlaced a n
write_placed m a n w some none = go (read_fault m a n w) refl
  where
    go : (f : Option MemFault) → read_fault m a n w ≡ f → IsPlaced a n
    go None e = read_placed m a n w some e
    go (Some x) e = absurd (not_both (write_fault m a n w) x none (sym (write_fault_of_read m a n w x (sym e))))

-- what a read and a write need
pub ruleset read_faults = (address_fault, alignment_fault, no_fault)

pub ruleset write_faults = (write_fault_of_read, read_only_fault, no_write_fault)
