-- Ranges that can be read or written, and parts of them.
use Rattle.std.proofs.Common.{◌≡◌, ℕ, ◌+◌, ◌/◌, ◌%◌, ◌^◌, ◌<◌, ◌≤◌, eqb, Bool, true, false, ◌||◌, not, List}
use Rattle.std.proofs.Common.{if◌then◌else◌, Option, Some, None, inl, inr, add-zero, lit≤, refl, ◌∙◌, arith}
use Rattle.std.proofs.lemmas.Bool.{cases_eq}
use Rattle.std.proofs.lemmas.Bool.Decides.{nat_tests}
use Rattle.of_memory.specs.Regions.{region_of, may_write, span, scratch_start, scratch_limit}
use Rattle.of_memory.specs.DataSpace.{DataSpace, is_readable, written}
use Rattle.of_memory.specs.Access.{IsPlaced, all_from, are_readable, read_fault, write_fault, or_fault}
use Rattle.of_memory.specs.Width.{bytes_in}
use Rattle.of_memory.specs.RangeLaws.{PartsAreGood, FaultsStay, RangesArePlaced, ScratchIsOpen}
use Rattle.of_memory.specs.declared.fault.MemFault.{MemFault}
use Rattle.of_memory.specs.declared.fault.MemFault.TheVariants.{Address, Alignment, ReadOnly}
use Rattle.of_memory.specs.declared.regions.Region.TheVariants.{Scratch}
use Rattle.of_memory.specs.declared.width.Width.{Width}
use Rattle.of_memory.specs.declared.width.Width.TheVariants.{One, Four}
use Rattle.of_memory.proofs.AllFrom.{all_true, all_at, all_same}
use Rattle.of_memory.proofs.Readable.{range_placed, plain}
use Rattle.of_memory.proofs.Nothing.{no_read_fault, no_write_fault}

no_fault : (f : MemFault) → ◌≡◌ {A = Option MemFault} (Some f) None → ⊥
no_fault f e = cc

-- the fault of a read by its three tests
abbrev tested : Bool → Bool → Bool → Option MemFault
tested z r q = if z then None else if not r then Some Address else if not q then Some Alignment else None

passed : (z r q : Bool) → z ≡ false → tested z r q ≡ None → (r ≡ true) × (q ≡ true)
passed z true true f e = (refl, refl)
passed z true false f e = absurd (no_fault Alignment (rw f at e))
passed z false q f e = absurd (no_fault Address (rw f at e))

-- what some bytes with no fault show
pub record CanRead (m : DataSpace) (a n : ℕ) (w : Width) : Type 0 where
  pub can : are_readable m a n ≡ true
  pub even : a % bytes_in w ≡ 0

zero_test : (n : ℕ) → eqb n 0 ≡ true → n ≡ 0
zero_test n e = grind (arith, nat_tests)

some_test : (n : ℕ) → 0 < n → eqb n 0 ≡ false
some_test n l = grind (arith, nat_tests)

pub can_read : (m : DataSpace) (a n : ℕ) (w : Width) → 0 < n → read_fault m a n w ≡ None → CanRead m a n w
unfolding read_fault
can_read m a n w some e =
    let both = passed (eqb n 0) (are_readable m a n) (eqb (a % bytes_in w) 0) (some_test n some) e in
    record { can = both.0; even = zero_test (a % bytes_in w) both.1 }

same_either : (z : Bool) → ◌≡◌ {A = Option MemFault} (if z then None else None) None
same_either true = refl
same_either false = refl

same_or : (z : Bool) → ◌≡◌ {A = Option MemFault} (if z || true then None else Some ReadOnly) None
same_or true = refl
same_or false = refl

pub good_read :
    (m : DataSpace) (a n : ℕ) (w : Width) → are_readable m a n ≡ true → a % bytes_in w ≡ 0 → read_fault m a n w ≡ None
unfolding read_fault
good_read m a n w can even = rw (can, even) (same_either (eqb n 0))

good_write :
    (m : DataSpace) (a n : ℕ) (w : Width) → read_fault m a n w ≡ None → may_write (region_of a) ≡ true
    → write_fault m a n w ≡ None
unfolding write_fault
good_write m a n w read may = rw (read, may) (same_or (eqb n 0))

-- what some bytes that can be written show
pub record CanWrite (m : DataSpace) (a n : ℕ) (w : Width) : Type 0 where
  pub read : read_fault m a n w ≡ None
  pub may : may_write (region_of a) ≡ true

pub both_none : (f g : Option MemFault) → or_fault f g ≡ None → (f ≡ None) × (g ≡ None)
both_none None g e = (refl, e)
both_none (Some f) g e = absurd (no_fault f e)

may_if : (z b : Bool) → z ≡ false → (if z || b then None else Some ReadOnly) ≡ None → b ≡ true
may_if z true f e = refl
may_if z false f e = absurd (no_fault ReadOnly (rw f at e))

pub can_write : (m : DataSpace) (a n : ℕ) (w : Width) → 0 < n → write_fault m a n w ≡ None → CanWrite m a n w
unfolding write_fault
can_write m a n w some e =
    let both = both_none (read_fault m a n w) (if eqb n 0 || may_write (region_of a) then None else Some ReadOnly) e in
    record { read = both.0; may = may_if (eqb n 0) (may_write (region_of a)) (some_test n some) both.1 }

reads : (m : DataSpace) (a n : ℕ) (w : Width) → write_fault m a n w ≡ None → read_fault m a n w ≡ None
reads m a n w e =
    elim (cases_eq n 0) [ inl z ↦ no_read_fault m a n w z | inr some ↦ (can_write m a n w (omega arith) e).read ]

-- some of the numbers that all pass
all_part : (p : ℕ → Bool) (a n j k : ℕ) → all_from p a n ≡ true → j + k ≤ n → all_from p (a + j) k ≡ true
all_part p a n j k e l =
    all_true p (a + j) k (λ i h.
    let same : a + j + i ≡ a + (j + i) = omega arith in
    rw same (all_at p a n (j + i) e (omega arith)))

part_reads :
    (m : DataSpace) (a n j k : ℕ) (w v : Width) → read_fault m a n w ≡ None → j + k ≤ n → (a + j) % bytes_in v ≡ 0
    → read_fault m (a + j) k v ≡ None
part_reads m a n j k w v e l even =
    elim (cases_eq n 0) [
      | inl z ↦ no_read_fault m (a + j) k v (omega arith)
      | inr some ↦
          let can = (can_read m a n w (omega arith) e).can in
          good_read m (a + j) k v (all_part (is_readable m) a n j k can l) even
    ]

placed : (m : DataSpace) (a n : ℕ) (w : Width) → read_fault m a n w ≡ None → 0 < n → IsPlaced a n
placed m a n w e some = range_placed m a n (can_read m a n w some e).can some

same_region :
    (m : DataSpace) (a n j : ℕ) (w : Width) → read_fault m a n w ≡ None → j < n → region_of (a + j) ≡ region_of a
same_region m a n j w e l =
    let at = placed m a n w e (omega arith) in
    let q : (a + j) / span ≡ a / span = omega (arith, at.within) in
    rw q refl

part_writes :
    (m : DataSpace) (a n j k : ℕ) (w v : Width) → write_fault m a n w ≡ None → j + k ≤ n → (a + j) % bytes_in v ≡ 0
    → write_fault m (a + j) k v ≡ None
part_writes m a n j k w v e l even =
    elim (cases_eq k 0) [
      | inl z ↦ no_write_fault m (a + j) k v z
      | inr some ↦
          let whole = can_write m a n w (omega arith) e in
          let may : may_write (region_of (a + j)) ≡ true =
          rw (same_region m a n j w whole.read (omega arith)) whole.may in
          good_write m (a + j) k v (part_reads m a n j k w v whole.read l even) may
    ]

ends : (m : DataSpace) (a n : ℕ) (w : Width) → read_fault m a n w ≡ None → 0 < n → a + n ≤ 6553600
ends m a n w e some = let at = placed m a n w e some in omega (arith, at.last, at.within)

-- two cells
even_read : (m : DataSpace) (a : ℕ) → read_fault m a 8 Four ≡ None → a % 4 ≡ 0
even_read m a e = (can_read m a 8 Four (omega arith) e).even

first_reads : (m : DataSpace) (a : ℕ) → read_fault m a 8 Four ≡ None → read_fault m a 4 Four ≡ None
first_reads m a e = rw add-zero at (part_reads m a 8 0 4 Four Four e (omega arith) (rw add-zero (even_read m a e)))

wrapped : (m : DataSpace) (a : ℕ) → read_fault m a 8 Four ≡ None → (a + 4) % 2 ^ 32 ≡ a + 4
wrapped m a e = let end = ends m a 8 Four e (omega arith) in omega (arith, end)

second_reads : (m : DataSpace) (a : ℕ) → read_fault m a 8 Four ≡ None → read_fault m ((a + 4) % 2 ^ 32) 4 Four ≡ None
second_reads m a e =
    let even = even_read m a e in
    rw (wrapped m a e) (part_reads m a 8 4 4 Four Four e (omega arith) (omega (arith, even)))

first_writes : (m : DataSpace) (a : ℕ) → write_fault m a 8 Four ≡ None → write_fault m a 4 Four ≡ None
first_writes m a e =
    rw add-zero at (part_writes m a 8 0 4 Four Four e (omega arith) (rw add-zero (even_read m a (reads m a 8 Four e))))

-- a write changes no faults
same_readable : (m : DataSpace) (p x : ℕ) (ys : List ℕ) → is_readable (written m p ys) x ≡ is_readable m x
same_readable m p x ys = elim (region_of x) [ None ↦ refl | Some r ↦ refl ]

same_read_fault :
    (m : DataSpace) (p a n : ℕ) (ys : List ℕ) (w : Width) → read_fault (written m p ys) a n w ≡ read_fault m a n w
unfolding read_fault
same_read_fault m p a n ys w =
    rw (all_same (is_readable (written m p ys)) (is_readable m) a n (λ k l. same_readable m p (a + k) ys)) refl

same_write_fault :
    (m : DataSpace) (p a n : ℕ) (ys : List ℕ) (w : Width) → write_fault (written m p ys) a n w ≡ write_fault m a n w
unfolding write_fault
same_write_fault m p a n ys w = rw (same_read_fault m p a n ys w) refl

second_writes :
    (m : DataSpace) (a : ℕ) (ys : List ℕ) → write_fault m a 8 Four ≡ None
    → write_fault (written m a ys) ((a + 4) % 2 ^ 32) 4 Four ≡ None
second_writes m a ys e =
    let whole = reads m a 8 Four e in
    let even = even_read m a whole in
    rw (wrapped m a whole)
    (same_write_fault m a (a + 4) 4 ys Four
    ∙ part_writes m a 8 4 4 Four Four e (omega arith) (omega (arith, even)))

byte_writes : (m : DataSpace) (a n : ℕ) → write_fault m a (n + 1) One ≡ None → write_fault m a 1 One ≡ None
byte_writes m a n e = rw add-zero at (part_writes m a (n + 1) 0 1 One One e (omega arith) (omega arith))

behind_writes : (m : DataSpace) (a n : ℕ) → write_fault m a (n + 1) One ≡ None → write_fault m (a + 1) n One ≡ None
behind_writes m a n e = part_writes m a (n + 1) 1 n One One e (omega arith) (omega arith)

pub parts_are_good : PartsAreGood
parts_are_good = record {
  reads = reads;
  part_reads = part_reads;
  part_writes = part_writes;
  first_reads = first_reads;
  second_reads = second_reads;
  first_writes = first_writes;
  second_writes = second_writes;
  byte_writes = byte_writes;
  behind_writes = behind_writes;
}

pub faults_stay : FaultsStay
faults_stay = record { reads = same_read_fault; writes = same_write_fault }

pub ranges_are_placed : RangesArePlaced
ranges_are_placed = record { placed = placed; ends = ends; region = same_region }

-- the scratch region
scratch_reads :
    (m : DataSpace) (a n : ℕ) (w : Width) → scratch_start ≤ a → a + n ≤ scratch_limit → a % bytes_in w ≡ 0
    → read_fault m a n w ≡ None
scratch_reads m a n w from to even =
    elim (cases_eq n 0) [
      | inl z ↦ no_read_fault m a n w z
      | inr some ↦
          let five : a / span ≡ 5 = omega arith in
          let region : region_of a ≡ Some Scratch = rw five refl in
          good_read m a n w (plain m a n Scratch region refl (omega (arith, five))) even
    ]

scratch_writes :
    (m : DataSpace) (a n : ℕ) (w : Width) → scratch_start ≤ a → a + n ≤ scratch_limit → a % bytes_in w ≡ 0
    → write_fault m a n w ≡ None
scratch_writes m a n w from to even =
    elim (cases_eq n 0) [
      | inl z ↦ no_write_fault m a n w z
      | inr some ↦
          let five : a / span ≡ 5 = omega arith in
          let may : may_write (region_of a) ≡ true = rw five refl in
          good_write m a n w (scratch_reads m a n w from to even) may
    ]

pub scratch_is_open : ScratchIsOpen
scratch_is_open = record {
  reads = scratch_reads;
  writes = scratch_writes;
  base = λ m. rw (scratch_reads m scratch_start 4 Four (lit≤ tt) (lit≤ tt) refl) refl;
}
