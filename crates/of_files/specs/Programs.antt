-- The FCode programs in the ROMs of PCI cards (PCI Bus Binding to IEEE 1275-1994, 9).
use Rattle.std.specs.Prelude.{◌≡◌, ◌≤◌, ◌⊎◌, ℕ, List, length, Some, None, Ok, Err}
use Rattle.of_arguments.specs.declared.status.Status.{Status}
use Rattle.of_rom.specs.Roms.{fcode_of}
use Rattle.of_rom.specs.declared.fault.RomFault.{RomFault}
use Rattle.of_files.specs.Faults.{status_of}
use Rattle.of_files.specs.Files.{IsUnread}
use Rattle.of_files.specs.declared.fault.Fault.{Fault}
use Rattle.of_files.specs.declared.fault.Fault.TheVariants as fault

-- the program of a ROM
abbrev pub HasProgram : List ℕ → List ℕ → Type 0
HasProgram rom program = fcode_of rom ≡ Ok (Some program)

-- the faults of a ROM's file: of a read, of its end, for memory, of the ROM, or that it has no program
abbrev pub FaultsProgram : List ℕ → Fault → Type 0
FaultsProgram rom f =
    IsUnread f
    ⊎ ((f ≡ fault.Endless) × (16777216 ≤ length rom))
    ⊎ (f ≡ fault.NoMemory)
    ⊎ ((wrong : RomFault) × (fcode_of rom ≡ Err wrong) × (f ≡ fault.NoRom wrong))
    ⊎ ((fcode_of rom ≡ Ok None) × (f ≡ fault.NoProgram))

-- the status of one
abbrev pub FaultsProgramWith : List ℕ → Status → Type 0
FaultsProgramWith rom s = (f : Fault) × (status_of f ≡ s) × FaultsProgram rom f
