-- What a word of these groups reads and changes, and the parts that its table speaks of.
use Rattle.std.specs.Prelude.{ℕ, List, Option, Some, None, Result, Ok, Err}
use Rattle.of_cells.specs.declared.cells.Cell.{Cell}
use Rattle.of_stacks.specs.declared.throws.Throw.{Throw}
use Rattle.of_stacks.specs.Throws.{aborted, dictionary_overflow, invalid_address, read_only, misaligned}
use Rattle.of_stacks.specs.Throws.{invalid_argument}
use Rattle.of_memory.specs.Access.{number_at}
use Rattle.of_memory.specs.DataSpace.{DataSpace}
use Rattle.of_memory.specs.declared.fault.MemFault.{MemFault}
use Rattle.of_memory.specs.declared.fault.MemFault.TheVariants.{Address, Alignment, ReadOnly, Full, BadBlock, NoMemory}

-- the data stack, the top first, the data space, and how many bytes of pictured text are held
pub record Data : Type 0 where
  pub stack : List Cell
  pub memory : DataSpace
  pub pictured : ℕ

abbrev pub data_of : List Cell → DataSpace → ℕ → Data
data_of s m count = record { stack = s; memory = m; pictured = count }

-- the cell of a number below 2 ^ 32
abbrev pub number : ℕ → Cell
number n = record { 0 = n }

-- what a word throws for a fault of the data space; a refused growth of memory is no throw, and not asked for here
abbrev pub throw_of : MemFault → Throw
throw_of Address = invalid_address
throw_of Alignment = misaligned
throw_of ReadOnly = read_only
throw_of Full = dictionary_overflow
throw_of BadBlock = invalid_argument
throw_of NoMemory = aborted

-- the answer of a call on the data space, with its fault as a throw
abbrev pub thrown : {A : Type 0} → Result A MemFault → Result A Throw
thrown (Ok x) = Ok x
thrown (Err fault) = Err (throw_of fault)

-- the stack and the data space that a word leaves
abbrev pub Space : Type 0
Space = List Cell × DataSpace

-- what a word throws for a fault, if there is one
abbrev pub fault_of : Option MemFault → Option Throw
fault_of None = None
fault_of (Some fault) = Some (throw_of fault)

-- the answer, unless something is thrown
abbrev pub unless_thrown : {A : Type 0} → Option Throw → Result A Throw → Result A Throw
unless_thrown None answer = answer
unless_thrown (Some t) answer = Err t

-- the answer, unless there is a fault of the data space
abbrev pub unless_fault : {A : Type 0} → Option MemFault → Result A Throw → Result A Throw
unless_fault fault answer = unless_thrown (fault_of fault) answer

-- a stack over the same data space
abbrev pub over : DataSpace → Result (List Cell) Throw → Result Space Throw
over m (Ok s) = Ok (s, m)
over m (Err t) = Err t

-- the stack over the data space that a store leaves
abbrev pub stored : List Cell → Result DataSpace MemFault → Result Space Throw
stored s (Ok m) = Ok (s, m)
stored s (Err fault) = Err (throw_of fault)

-- the same for a store that also answers its address
abbrev pub appended_under : List Cell → Result (ℕ × DataSpace) MemFault → Result Space Throw
appended_under s (Ok answer) = Ok (s, answer.1)
appended_under s (Err fault) = Err (throw_of fault)

-- the cell at an address where one can be read
abbrev pub cell_at : DataSpace → ℕ → Cell
cell_at m a = number (number_at m a 4)
