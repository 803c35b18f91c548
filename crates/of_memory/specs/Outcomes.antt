-- What calls on the data space answered, as numbers, and which of their faults are for memory.
use Rattle.std.specs.Prelude.{ℕ, ◌≡◌, Result, Ok, Err}
use Rattle.of_cells.specs.declared.cells.Cell.{Cell}
use Rattle.of_memory.specs.declared.fault.MemFault.{MemFault}
use Rattle.of_memory.specs.declared.fault.MemFault.TheVariants.{NoMemory}

-- the address that was answered, as a number
abbrev pub address_of : Result Cell MemFault → Result ℕ MemFault
address_of (Ok a) = Ok a.0
address_of (Err e) = Err e

-- both addresses
abbrev pub places_of : Result (Cell × Cell) MemFault → Result (ℕ × ℕ) MemFault
places_of (Ok a) = Ok (a.0.0, a.1.0)
places_of (Err e) = Err e

-- an answer of two numbers beside what is left
abbrev pub paired : {S : Type 0} → Result (ℕ × ℕ × S) MemFault → Result ((ℕ × ℕ) × S) MemFault
paired (Ok x) = Ok ((x.0, x.1), x.2)
paired (Err e) = Err e

-- a growth was refused
abbrev pub IsForMemory : MemFault → Type 0
IsForMemory e = e ≡ NoMemory

-- the call takes no memory: it is never refused for that
abbrev pub TakesNoMemory : {A : Type 0} → Result A MemFault → Type 0
TakesNoMemory r = ¬ (r ≡ Err NoMemory)
