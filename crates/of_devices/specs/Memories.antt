-- Device memory: what it answers, and what a question leaves of it.
use Rattle.std.specs.Prelude.{ℕ, ◌-◌, List, ◌++◌, length, drop, replicate, if◌then◌else◌}
use Rattle.byteorder.specs.Endian.{big_bytes, big_number}
use Rattle.of_cells.specs.declared.cells.Cell.{Cell}
use Rattle.of_memory.specs.DataSpace.{splice}
use Rattle.of_memory.specs.Width.{bytes_in}
use Rattle.of_memory.specs.declared.width.Width.{Width}
use Rattle.of_asking.specs.declared.query.Answer.{Answer}
use Rattle.of_asking.specs.declared.query.Answer.TheVariants.{Value, Done}
use Rattle.of_asking.specs.declared.query.Query.{Query}
use Rattle.of_asking.specs.declared.query.Query.TheVariants.{Read, Write, Peek, Poke, Key, KeyReady, Milliseconds}
use Rattle.of_asking.specs.declared.query.Query.TheVariants.{Wait}
use Rattle.of_devices.specs.Racks.{untaken}
use Rattle.of_devices.specs.Ranges.{contains, range_of}
use Rattle.of_devices.specs.Stored.{Stored}
use Rattle.of_devices.specs.declared.range.AddressRange.{AddressRange}

-- so many bytes from an address on: the first ones as given, and the others 0
abbrev pub memory_with : Cell → ℕ → List ℕ → Stored
memory_with a count first = record { address = a; bytes = first ++ replicate (count - length first) 0 }

-- its addresses
abbrev pub addresses : Stored → AddressRange
addresses m = record { address = m.address; length = length m.bytes }

-- the number at an address, the highest byte first
abbrev pub number_in : Width → Cell → Stored → ℕ
number_in w a m = big_number (bytes_in w) (drop (a.0 - m.address.0) m.bytes)

-- with the low bytes of a number at an address, the highest first
abbrev pub with_number : Width → Cell → Cell → Stored → Stored
with_number w a x m = record {
  address = m.address;
  bytes = splice m.bytes (a.0 - m.address.0) (big_bytes (bytes_in w) x.0);
}

-- what it answers to a question that it takes
abbrev pub memory_answer : Stored → Query → Answer
memory_answer m (Read w a) = Value (number_in w a m)
memory_answer m (Write w a x) = Done
memory_answer m (Peek w a) = Value (number_in w a m)
memory_answer m (Poke w a x) = Done
memory_answer m Key = untaken Key
memory_answer m KeyReady = untaken KeyReady
memory_answer m Milliseconds = untaken Milliseconds
memory_answer m (Wait n) = untaken (Wait n)

-- what a write leaves of it: a write that it doesn't take leaves all
abbrev pub memory_written : Width → Cell → Cell → Stored → Stored
memory_written w a x m = if contains (addresses m) (range_of w a) then with_number w a x m else m

-- what a question leaves of it
abbrev pub memory_after : Stored → Query → Stored
memory_after m (Read w a) = m
memory_after m (Write w a x) = memory_written w a x m
memory_after m (Peek w a) = m
memory_after m (Poke w a x) = memory_written w a x m
memory_after m Key = m
memory_after m KeyReady = m
memory_after m Milliseconds = m
memory_after m (Wait n) = m
