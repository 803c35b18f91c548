-- What each word of the group Memory makes of the data stack, the top first, and of the data space, or what it
-- throws (IEEE 1275-1994, annex A; Forth 2012, 6.1.0650, 6.1.0010, 6.1.1900, 6.1.1540, 17.6.1.0935).
use Rattle.std.specs.Prelude.{ℕ, ◌+◌, ◌-◌, ◌^◌, nat_lt, length, List, ◌∷◌, [], Result, Ok, Err, if◌then◌else◌}
use Rattle.std.specs.Int.{bytes_high_first}
use Rattle.of_cells.specs.declared.cells.Cell.{Cell}
use Rattle.of_cells.specs.Arithmetic.{plus}
use Rattle.of_cells.specs.Splitting.{low_byte, low_half}
use Rattle.of_stacks.specs.declared.throws.Throw.{Throw}
use Rattle.of_stacks.specs.Throws.{stack_underflow, stack_overflow}
use Rattle.of_stacks.specs.Order.{counting, fault_if}
use Rattle.of_memory.specs.Access.{read_fault, write_fault, read, write, filled, copied}
use Rattle.of_memory.specs.BlockCalls.{heap_given}
use Rattle.of_memory.specs.DataSpace.{DataSpace, bytes_from, written}
use Rattle.of_memory.specs.Growth.{appended}
use Rattle.of_memory.specs.declared.fault.MemFault.{MemFault}
use Rattle.of_memory.specs.declared.width.Width.TheVariants.{One, Two, Four}
use Rattle.of_fcodes.specs.declared.words.MemoryWord.{MemoryWord}
use Rattle.of_fcodes.specs.declared.words.MemoryWord.TheVariants.{On, Off, PlusStore, Fetch, FetchLong, FetchWord}
use Rattle.of_fcodes.specs.declared.words.MemoryWord.TheVariants.{FetchSignedWord, FetchByte, Store, StoreLong}
use Rattle.of_fcodes.specs.declared.words.MemoryWord.TheVariants.{StoreWord, StoreByte, FetchTwo, StoreTwo, Move, Fill}
use Rattle.of_fcodes.specs.declared.words.MemoryWord.TheVariants.{Compare, CommaByte, CommaWord, CommaLong, Comma}
use Rattle.of_fcodes.specs.declared.words.MemoryWord.TheVariants.{FreeMem}
use Rattle.of_prims.specs.Data.{Space, cell_at, number, throw_of, fault_of, unless_fault, unless_thrown, stored}
use Rattle.of_prims.specs.Data.{appended_under}

-- the number that a read gave, on the stack
abbrev pub fetched : List Cell → DataSpace → Result ℕ MemFault → Result Space Throw
fetched s m (Ok n) = Ok (number n ∷ s, m)
fetched s m (Err fault) = Err (throw_of fault)

-- a number of 16 bits with its sign, as a cell
abbrev pub with_sign : ℕ → Cell
with_sign n = if nat_lt n (2 ^ 15) then number n else number (n + (2 ^ 32 - 2 ^ 16))

-- the same for a number of 16 bits with its sign
abbrev pub fetched_signed : List Cell → DataSpace → Result ℕ MemFault → Result Space Throw
fetched_signed s m (Ok n) = Ok (with_sign n ∷ s, m)
fetched_signed s m (Err fault) = Err (throw_of fault)

-- a cell stored at the address on top
abbrev pub value_stored : Cell → List Cell → DataSpace → Result Space Throw
value_stored x (a ∷ s) m = stored s (write Four m a.0 x.0)
value_stored x [] m = Err stack_underflow

-- two cells stored one after the other
abbrev pub two_written : DataSpace → Cell → Cell → Cell → DataSpace
two_written m a y x =
    written (written m a.0 (bytes_high_first 4 y.0)) (plus a (number 4)).0 (bytes_high_first 4 x.0)

-- -1, 0 or 1 as the first differing byte of two texts of one length is less, absent or greater in the first
abbrev pub order_of : List ℕ → List ℕ → Cell
order_of [] ys = number 0
order_of (x ∷ xs) [] = number 0
order_of (x ∷ xs) (y ∷ ys) =
    if nat_lt x y then number (2 ^ 32 - 1) else if nat_lt y x then number 1 else order_of xs ys

-- the table, a word a line
unfoldable pub memory_entry : MemoryWord → List Cell → DataSpace → Result Space Throw
memory_entry On s m = value_stored (number (2 ^ 32 - 1)) s m
memory_entry Off s m = value_stored (number 0) s m
memory_entry PlusStore (a ∷ n ∷ s) m =
    unless_fault (write_fault m a.0 4 Four) (Ok (s, written m a.0 (bytes_high_first 4 (plus (cell_at m a.0) n).0)))
memory_entry Fetch (a ∷ s) m = fetched s m (read Four m a.0)
memory_entry FetchLong (a ∷ s) m = fetched s m (read Four m a.0)
memory_entry FetchWord (a ∷ s) m = fetched s m (read Two m a.0)
memory_entry FetchSignedWord (a ∷ s) m = fetched_signed s m (read Two m a.0)
memory_entry FetchByte (a ∷ s) m = fetched s m (read One m a.0)
memory_entry Store (a ∷ x ∷ s) m = stored s (write Four m a.0 x.0)
memory_entry StoreLong (a ∷ x ∷ s) m = stored s (write Four m a.0 x.0)
memory_entry StoreWord (a ∷ x ∷ s) m = stored s (write Two m a.0 (low_half x).0)
memory_entry StoreByte (a ∷ x ∷ s) m = stored s (write One m a.0 (low_byte x).0)
memory_entry FetchTwo (a ∷ s) m =
    unless_thrown
    (counting (fault_of (read_fault m a.0 8 Four) ∷ fault_if (nat_lt 256 (length s + 2)) stack_overflow ∷ []))
    (Ok (cell_at m a.0 ∷ cell_at m (plus a (number 4)).0 ∷ s, m))
memory_entry StoreTwo (a ∷ y ∷ x ∷ s) m = unless_fault (write_fault m a.0 8 Four) (Ok (s, two_written m a y x))
memory_entry Move (n ∷ to ∷ from ∷ s) m = stored s (copied m from.0 to.0 n.0)
memory_entry Fill (x ∷ n ∷ a ∷ s) m = stored s (filled m a.0 n.0 (low_byte x).0)
memory_entry Compare (n ∷ b ∷ a ∷ s) m =
    unless_fault (read_fault m a.0 n.0 One)
    (unless_fault (read_fault m b.0 n.0 One)
    (Ok (order_of (bytes_from m a.0 n.0) (bytes_from m b.0 n.0) ∷ s, m)))
memory_entry CommaByte (x ∷ s) m = appended_under s (appended m (bytes_high_first 1 (low_byte x).0))
memory_entry CommaWord (x ∷ s) m = appended_under s (appended m (bytes_high_first 2 (low_half x).0))
memory_entry CommaLong (x ∷ s) m = appended_under s (appended m (bytes_high_first 4 x.0))
memory_entry Comma (x ∷ s) m = appended_under s (appended m (bytes_high_first 4 x.0))
memory_entry FreeMem (n ∷ a ∷ s) m = stored s (heap_given m a.0 n.0)
-- every other stack is too short
memory_entry _ _ m = Err stack_underflow
