-- Reads and writes: their faults, in the order of the checks, and what they give.
use Rattle.std.specs.Prelude.{ℕ, ◌+◌, ◌-◌, ◌/◌, ◌%◌, ◌≤◌, zero, suc, Bool, true, ◌&&◌, ◌||◌, ◌==◌, not, nat_lt, find}
use Rattle.std.specs.Prelude.{List, [], ◌∷◌, length, replicate, slice_index, ◌*◌, Option, Some, None, Result, Ok, Err}
use Rattle.std.specs.Prelude.{if◌then◌else◌}
use Rattle.byteorder.specs.Endian.{big_number, big_bytes}
use Rattle.of_cells.specs.declared.cells.Cell.{Cell}
use Rattle.of_memory.specs.Width.{bytes_in}
use Rattle.of_memory.specs.Regions.{region_of, size_of, is_heap, may_write, place_of, span, longest}
use Rattle.of_memory.specs.Blocks.{holds}
use Rattle.of_memory.specs.DataSpace.{DataSpace, is_readable, bytes_from, written}
use Rattle.of_memory.specs.declared.blocks.Block.{Block}
use Rattle.of_memory.specs.declared.regions.Region.{Region}
use Rattle.of_memory.specs.declared.fault.MemFault.{MemFault}
use Rattle.of_memory.specs.declared.fault.MemFault.TheVariants.{Address, Alignment, ReadOnly}
use Rattle.of_memory.specs.declared.width.Width.{Width}
use Rattle.of_memory.specs.declared.width.Width.TheVariants.{One, Four}

-- each of the n numbers from a on passes
unfoldable pub all_from : (ℕ → Bool) → ℕ → ℕ → Bool
all_from p a zero = true
all_from p a (suc n) = p a && all_from p (suc a) n

-- each of n bytes from the address on can be read
abbrev pub are_readable : DataSpace → ℕ → ℕ → Bool
are_readable m a n = all_from (is_readable m) a n

-- The fault of a read of n bytes at an address that must be a multiple of the width. No bytes have none.
unfoldable pub read_fault : DataSpace → ℕ → ℕ → Width → Option MemFault
read_fault m a n w =
    if n == 0 then None
    else if not (are_readable m a n) then Some Address
    else if not (a % bytes_in w == 0) then Some Alignment
    else None

-- the first fault of two
abbrev pub or_fault : Option MemFault → Option MemFault → Option MemFault
or_fault (Some first) second = Some first
or_fault None second = second

-- n bytes from the address on lie in the bytes that are kept for one region
pub record IsPlaced (a n : ℕ) : Type 0 where
  pub some : 1 ≤ a / span
  pub last : a / span ≤ 6
  pub within : a % span + n ≤ longest

-- The fault of a write: that of a read, or else the region's. Bytes that can be read lie in one region.
unfoldable pub write_fault : DataSpace → ℕ → ℕ → Width → Option MemFault
write_fault m a n w =
    or_fault (read_fault m a n w) (if n == 0 || may_write (region_of a) then None else Some ReadOnly)

-- the value, unless there is a fault
abbrev pub unless : {A : Type 0} → Option MemFault → A → Result A MemFault
unless None x = Ok x
unless (Some fault) x = Err fault

-- the number in n bytes from the address on, the highest byte first
abbrev pub number_at : DataSpace → ℕ → ℕ → ℕ
number_at m a n = big_number n (bytes_from m a n)

-- the number that a read of the width gives
abbrev pub read : Width → DataSpace → ℕ → Result ℕ MemFault
read w m a = unless (read_fault m a (bytes_in w) w) (number_at m a (bytes_in w))

-- the cell that a read of four bytes gives
abbrev pub read_cell : DataSpace → ℕ → Result Cell MemFault
read_cell m a = unless (read_fault m a 4 Four) (record { 0 = number_at m a 4 })

-- what a write of a number leaves
abbrev pub write : Width → DataSpace → ℕ → ℕ → Result DataSpace MemFault
write w m a x = unless (write_fault m a (bytes_in w) w) (written m a (big_bytes (bytes_in w) x))

-- what a read of a range gives
abbrev pub read_bytes : DataSpace → ℕ → ℕ → Result (List ℕ) MemFault
read_bytes m a n = unless (read_fault m a n One) (bytes_from m a n)

-- n bytes of a list, the first at place i and each s places after the one before
abbrev pub every : List ℕ → ℕ → ℕ → ℕ → List ℕ
every xs i zero s = []
every xs i (suc n) s = slice_index xs i ∷ every xs (i + s) n s

-- how many bytes there are from the first to the last of n bytes, each s after the one before
abbrev pub spread_over : ℕ → ℕ → ℕ
spread_over zero s = 0
spread_over (suc n) s = n * s + 1

-- what a read of n bytes gives, the first at the address and each s after the one before
abbrev pub read_spread : DataSpace → ℕ → ℕ → ℕ → Result (List ℕ) MemFault
read_spread m a n s = unless (read_fault m a (spread_over n s) One) (every m.bytes (place_of a) n s)

-- what is done with bytes that were read, or the fault of the read
abbrev pub with_read : {A : Type 0} → Result (List ℕ) MemFault → (List ℕ → Result A MemFault) → Result A MemFault
with_read (Ok xs) f = f xs
with_read (Err fault) f = Err fault

-- what a write of bytes leaves; no bytes can always be written
abbrev pub bytes_written : DataSpace → ℕ → List ℕ → Result DataSpace MemFault
bytes_written m a ys = unless (write_fault m a (length ys) One) (written m a ys)

-- what filling a range with one byte leaves
abbrev pub filled : DataSpace → ℕ → ℕ → ℕ → Result DataSpace MemFault
filled m a n x = unless (write_fault m a n One) (written m a (replicate n x))

-- What a copy leaves: the bytes that the source held before. The source's faults come first.
abbrev pub copied : DataSpace → ℕ → ℕ → ℕ → Result DataSpace MemFault
copied m from to n =
    unless (or_fault (read_fault m from n One) (write_fault m to n One)) (written m to (bytes_from m from n))

-- the end of a block, if there is one
abbrev pub end_found : Option Block → Result Cell MemFault
end_found None = Err Address
end_found (Some b) = Ok (record { 0 = b.at + b.size })

-- where the region, or in the heap the live block, ends that holds the address
abbrev pub end_in : DataSpace → ℕ → Option Region → Result Cell MemFault
end_in m a None = Err Address
end_in m a (Some r) =
    if is_heap r then end_found (find (holds a) m.heap)
    else if nat_lt (a % span) (size_of r) then Ok (record { 0 = a - a % span + size_of r })
    else Err Address

-- the same for the address's own region
abbrev pub end_of : DataSpace → ℕ → Result Cell MemFault
end_of m a = end_in m a (region_of a)
