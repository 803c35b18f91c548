-- The words over the registers of devices (IEEE 1275-1994, 5.3.7.3 and annex A). An address of the data space asks
-- nothing: there they act as `c@` and its kin.
use Rattle.std.specs.Prelude.{ℕ, ◌+◌, ◌%◌, ◌==◌, ◌&&◌, nat_le, Bool, true, false, List, [], ◌∷◌, Option, Result}
use Rattle.std.specs.Prelude.{Ok, Err, if◌then◌else◌}
use Rattle.of_cells.specs.declared.cells.Cell.{Cell}
use Rattle.of_cells.specs.Numbers.{flag}
use Rattle.of_cells.specs.Splitting.{low_byte, low_half}
use Rattle.of_stacks.specs.declared.throws.Throw.{Throw}
use Rattle.of_stacks.specs.Throws.{misaligned, stack_underflow}
use Rattle.of_stacks.specs.Stacks.{within}
use Rattle.of_fcodes.specs.declared.words.DevicesWord.{DevicesWord}
use Rattle.of_fcodes.specs.declared.words.DevicesWord.TheVariants as word
use Rattle.of_fcodes.specs.declared.words.MemoryWord.{MemoryWord}
use Rattle.of_fcodes.specs.declared.words.MemoryWord.TheVariants as memory
use Rattle.of_memory.specs.Access.{read, write}
use Rattle.of_memory.specs.DataSpace.{DataSpace}
use Rattle.of_memory.specs.Width.{bytes_in}
use Rattle.of_memory.specs.declared.fault.MemFault.{MemFault}
use Rattle.of_memory.specs.declared.fault.MemFault.TheVariants.{Address, Alignment, ReadOnly, Full, BadBlock, NoMemory}
use Rattle.of_memory.specs.declared.width.Width.{Width}
use Rattle.of_memory.specs.declared.width.Width.TheVariants.{One, Two, Four}
use Rattle.of_prims.specs.Data.{Space, number}
use Rattle.of_prims.specs.Memory.{memory_entry}
use Rattle.of_board.specs.declared.board.Board.{Board}
use Rattle.of_asking.specs.declared.query.Query.TheVariants as query
use Rattle.of_asking.specs.declared.query.Answer.{Answer}
use Rattle.of_board.specs.Left.{stack_left}
use Rattle.of_asking.specs.Questions.{Asking, Gives, asked}
use Rattle.of_asking.specs.Keys.{milliseconds_entry, wait_entry}

-- each byte of an access is a device's
abbrev pub is_device : ℕ → Width → Bool
is_device a w = nat_le 0x8000_0000 a && nat_le (a + bytes_in w) 0xC000_0000

-- the address is a multiple of the width
abbrev pub is_aligned : ℕ → Width → Bool
is_aligned a w = a % bytes_in w == 0

-- what is asked of a device, if the address is a multiple of the width
abbrev pub at_device : ℕ → Width → Asking Board → Asking Board
at_device a w asking = if is_aligned a w then asking else Gives (Err misaligned)

-- the low bytes of a cell, as many as the width has
abbrev pub cut : Width → Cell → Cell
cut One x = low_byte x
cut Two x = low_half x
cut Four x = x

-- ---- reads and writes

-- the words over the data space that do the same
abbrev pub fetch_of : Width → MemoryWord
fetch_of One = memory.FetchByte
fetch_of Two = memory.FetchWord
fetch_of Four = memory.FetchLong

abbrev pub store_of : Width → MemoryWord
store_of One = memory.StoreByte
store_of Two = memory.StoreWord
store_of Four = memory.StoreLong

-- the board with the stack and the data space that such a word leaves
abbrev pub space_left : Board → Result Space Throw → Result Board Throw
space_left b (Ok left) = Ok (record b { stack = left.0; memory = left.1 })
space_left b (Err t) = Err t

abbrev pub in_memory : MemoryWord → Board → Asking Board
in_memory w b = Gives (space_left b (memory_entry w b.stack b.memory))

-- `rb@` and its kin ( a -- x )
abbrev pub read_entry : Width → List Cell → Option Answer → Board → Asking Board
read_entry w [] reply b = Gives (Err stack_underflow)
read_entry w (a ∷ s) reply b =
    if is_device a.0 w then at_device a.0 w (asked (query.Read w a) reply b) else in_memory (fetch_of w) b

-- `rb!` and its kin ( x a -- )
abbrev pub write_entry : Width → List Cell → Option Answer → Board → Asking Board
write_entry w [] reply b = Gives (Err stack_underflow)
write_entry w (a ∷ []) reply b = Gives (Err stack_underflow)
write_entry w (a ∷ x ∷ s) reply b =
    if is_device a.0 w then at_device a.0 w (asked (query.Write w a (cut w x)) reply b) else in_memory (store_of w) b

-- ---- peeks and pokes: false where the data space can't be read or written

-- what a peek or a poke makes of a fault of the data space
abbrev pub failed : List Cell → MemFault → Result (List Cell) Throw
failed s Address = Ok (flag false ∷ s)
failed s Alignment = Err misaligned
failed s ReadOnly = Ok (flag false ∷ s)
failed s Full = Ok (flag false ∷ s)
failed s BadBlock = Ok (flag false ∷ s)
failed s NoMemory = Ok (flag false ∷ s)

-- what a peek makes of a read of the data space
abbrev pub peeked : List Cell → Result ℕ MemFault → Result (List Cell) Throw
peeked s (Ok n) = within (flag true ∷ number n ∷ s)
peeked s (Err fault) = failed s fault

-- `cpeek` and its kin ( a -- false, or x true )
abbrev pub peek_entry : Width → List Cell → Option Answer → Board → Asking Board
peek_entry w [] reply b = Gives (Err stack_underflow)
peek_entry w (a ∷ s) reply b =
    if is_device a.0 w then at_device a.0 w (asked (query.Peek w a) reply b)
    else Gives (stack_left b (peeked s (read w b.memory a.0)))

-- what a poke makes of a write into the data space
abbrev pub poked : List Cell → Board → Result DataSpace MemFault → Result Board Throw
poked s b (Ok m) = Ok (record b { stack = flag true ∷ s; memory = m })
poked s b (Err fault) = stack_left b (failed s fault)

-- `cpoke` and its kin ( x a -- f )
abbrev pub poke_entry : Width → List Cell → Option Answer → Board → Asking Board
poke_entry w [] reply b = Gives (Err stack_underflow)
poke_entry w (a ∷ []) reply b = Gives (Err stack_underflow)
poke_entry w (a ∷ x ∷ s) reply b =
    if is_device a.0 w then at_device a.0 w (asked (query.Poke w a (cut w x)) reply b)
    else Gives (poked s b (write w b.memory a.0 (cut w x).0))

-- the table, a word a line
unfoldable pub devices_entry : DevicesWord → Option Answer → Board → Asking Board
devices_entry word.PeekByte reply b = peek_entry One b.stack reply b
devices_entry word.PeekWord reply b = peek_entry Two b.stack reply b
devices_entry word.PeekLong reply b = peek_entry Four b.stack reply b
devices_entry word.PokeByte reply b = poke_entry One b.stack reply b
devices_entry word.PokeWord reply b = poke_entry Two b.stack reply b
devices_entry word.PokeLong reply b = poke_entry Four b.stack reply b
devices_entry word.ReadByte reply b = read_entry One b.stack reply b
devices_entry word.ReadWord reply b = read_entry Two b.stack reply b
devices_entry word.ReadLong reply b = read_entry Four b.stack reply b
devices_entry word.WriteByte reply b = write_entry One b.stack reply b
devices_entry word.WriteWord reply b = write_entry Two b.stack reply b
devices_entry word.WriteLong reply b = write_entry Four b.stack reply b
devices_entry word.Milliseconds reply b = milliseconds_entry reply b
devices_entry word.Wait reply b = wait_entry b.stack reply b
