-- Blocks of the instance region can be read and written.
use Rattle.std.proofs.Common.{◌≡◌, ℕ, zero, suc, ◌+◌, ◌/◌, ◌%◌, ◌<◌, ◌≤◌, eqb, nat_lt, true, false, List, []}
use Rattle.std.proofs.Common.{length, None, Result, Ok, Err, add-zero, take-append-drop, refl, ap, sym, ◌∙◌, arith}
use Rattle.std.proofs.lemmas.Bool.{and_from}
use Rattle.std.proofs.lemmas.Grind.{common_steps}
use Rattle.of_cells.specs.declared.cells.Cell.{Cell}
use Rattle.of_cells.specs.Outcomes.{Becomes}
use Rattle.of_memory.specs.BlockCalls.{instance_given}
use Rattle.of_memory.specs.Access.{all_from, are_readable, read_fault, write_fault}
use Rattle.of_memory.specs.Blocks.{IsLeastFree, rounded}
use Rattle.of_memory.specs.DataSpace.{DataSpace, is_readable, written}
use Rattle.of_memory.specs.Regions.{instance_limit, instance_start, may_write, place_of, region_of}
use Rattle.of_memory.specs.Regions.{span as apart}
use Rattle.of_memory.specs.declared.fault.MemFault.{MemFault}
use Rattle.of_memory.specs.declared.width.Width.{Width}
use Rattle.of_memory.specs.declared.width.Width.TheVariants.{Four, One}
use Rattle.of_memory.specs.Width.{bytes_in}
use Rattle.of_nodes.specs.declared.properties.Span.{Span}
use Rattle.of_ihandles.specs.Blocks.{IsInRegion, given, left, span}

-- each byte of the instance region can be read
byte_reads : (m : DataSpace) (a : ℕ) → instance_start ≤ a → a < instance_limit → is_readable m a ≡ true
byte_reads m a from to =
    let three : a / apart ≡ 3 = omega arith in
    let l : a % apart < 0x2_0000 = omega (arith, three) in
    let within : nat_lt (a % apart) 0x2_0000 ≡ true = grind (arith, common_steps) in
    rw (three, within) refl

all_read : (m : DataSpace) (a n : ℕ) → instance_start ≤ a → a + n ≤ instance_limit → are_readable m a n ≡ true
unfolding all_from
all_read m a zero from to = refl
all_read m a (suc n) from to =
    and_from (is_readable m a) (all_from (is_readable m) (suc a) n) (byte_reads m a from (omega arith))
    (all_read m (suc a) n (omega arith) (omega arith))

some_bytes : (n : ℕ) → eqb (suc n) 0 ≡ false
some_bytes n = grind (arith, common_steps)

-- the instance region can be read and written
pub reads :
    (m : DataSpace) (a n : ℕ) (w : Width) → instance_start ≤ a → a + n ≤ instance_limit → a % bytes_in w ≡ 0
    → read_fault m a n w ≡ None
unfolding read_fault
reads m a zero w from to even = refl
reads m a (suc n) w from to even = rw (some_bytes n, all_read m a (suc n) from to, even) refl

pub writes :
    (m : DataSpace) (a n : ℕ) (w : Width) → instance_start ≤ a → a + n ≤ instance_limit → a % bytes_in w ≡ 0
    → write_fault m a n w ≡ None
unfolding write_fault
writes m a zero w from to even = rw (reads m a zero w from to even) refl
writes m a (suc n) w from to even =
    let three : a / apart ≡ 3 = omega arith in
    let may : may_write (region_of a) ≡ true = rw three refl in
    rw (reads m a (suc n) w from to even, some_bytes n, may) refl

-- a write of no bytes changes nothing
pub written_none : (m : DataSpace) (a : ℕ) → written m a [] ≡ m
written_none m a = ap (λ xs. record m { bytes = xs }) (rw add-zero (take-append-drop (place_of a) m.bytes))

pub rounded_up : (n : ℕ) → (8 ≤ rounded n) × (n ≤ rounded n)
rounded_up n = (omega arith, omega arith)

pub cell_reads : (m : DataSpace) (b : Span) → IsInRegion b → read_fault m b.address.0 4 Four ≡ None
cell_reads m b i =
    let r = rounded_up b.length.0 in
    reads m b.address.0 4 Four i.from (omega (arith, i.to, r)) (omega (arith, i.eighth))

pub cell_writes : (m : DataSpace) (b : Span) → IsInRegion b → write_fault m b.address.0 4 Four ≡ None
cell_writes m b i =
    let r = rounded_up b.length.0 in
    writes m b.address.0 4 Four i.from (omega (arith, i.to, r)) (omega (arith, i.eighth))

pub bytes_write :
    (m : DataSpace) (b : Span) (ys : List ℕ) → IsInRegion b → length ys ≤ b.length.0
    → write_fault m b.address.0 (length ys) One ≡ None
bytes_write m b ys i few =
    let r = rounded_up b.length.0 in
    writes m b.address.0 (length ys) One i.from (omega (arith, i.to, r, few)) (omega arith)

pub ruleset access = (cell_reads, cell_writes, bytes_write)

-- the least free address is in the region
pub least_in_region :
    (bs : _) (a n : Cell) → IsLeastFree instance_start instance_limit bs (rounded n.0) a.0
    → IsInRegion (span a n)
least_in_region bs a n h = record { from = h.free.from; to = h.free.to; eighth = h.free.aligned }

-- what is left where the fault of giving a block back counts for nothing
pub given_by : (old new : DataSpace) (b : Span) (r : Result (Unit {0}) MemFault)
    → Becomes (instance_given old b.address.0 b.length.0) old new r → new ≡ given old b
given_by old new b (Ok x) e = sym (ap (left old) e)
given_by old new b (Err fault) e = e.1 ∙ sym (ap (left old) e.0)
