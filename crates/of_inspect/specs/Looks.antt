-- What is printed of a look at an image, and of the images in a ROM, and how it ends.
use Rattle.std.specs.Prelude.{◌≡◌, ◌≤◌, ◌⊎◌, ℕ, List, [], ◌∷◌, length, Option, Some, None, Result, Ok, Err}
use Rattle.std.specs.Option.{option_map}
use Rattle.std.specs.Io.KnownBytes.{Keeps, Appends}
use Rattle.of_arguments.specs.declared.status.Status.{Status}
use Rattle.of_arguments.specs.declared.status.Status.TheVariants as status
use Rattle.of_check.specs.Findings.{findings_of}
use Rattle.of_check.specs.Texts.{findings_text}
use Rattle.of_check.specs.declared.finding.Finding.{Finding}
use Rattle.of_files.specs.Faults.{IsUnwritten}
use Rattle.of_files.specs.Files.{FaultsReading, IsUnread, image_in}
use Rattle.of_files.specs.Messages.{AppendsPart}
use Rattle.of_files.specs.declared.fault.Fault.{Fault}
use Rattle.of_files.specs.declared.fault.Fault.TheVariants as fault
use Rattle.of_rom.specs.Texts.{rom_text}
use Rattle.of_rom.specs.declared.fault.RomFault.{RomFault}

-- ---- looks

-- the status of a look: done where nothing is wrong
abbrev pub look_status : List Finding → Status
look_status [] = status.Done
look_status (f ∷ found) = status.Fault

-- a line for each thing that is wrong with an image was printed; or none for lack of memory, or a write failed
abbrev pub ChecksImage : List ℕ → Option (List ℕ) → Option (List ℕ) → Result Status Fault → Type 0
ChecksImage image old new (Ok s) =
    (s ≡ look_status (findings_of image)) × Appends old new (findings_text (findings_of image))
ChecksImage image old new (Err f) =
    ((f ≡ fault.NoMemory) × Keeps old new)
    ⊎ (AppendsPart old new (findings_text (findings_of image)) × IsUnwritten f)

-- the image of a file was, or it has none
abbrev pub Checks : List ℕ → Option (List ℕ) → Option (List ℕ) → Result Status Fault → Type 0
Checks file old new r =
    ((image : List ℕ) × (image_in file ≡ Ok image) × ChecksImage image old new r)
    ⊎ ((f : Fault) × (r ≡ Err f) × FaultsReading file f × Keeps old new)

-- ---- ROMs

-- the lines of a ROM's images were printed, and what is wrong behind them is the fault; or a write failed
abbrev pub ShowsPart : List ℕ × Option RomFault → Option (List ℕ) → Option (List ℕ) → Fault → Type 0
ShowsPart (text, wrong) old new f =
    (Appends old new text × (option_map fault.NoRom wrong ≡ Some f)) ⊎ (AppendsPart old new text × IsUnwritten f)

-- a line for each image in a ROM was printed, up to the last; or up to what is wrong, or none for lack of memory
abbrev pub ShowsImages : List ℕ → Option (List ℕ) → Option (List ℕ) → Result Status Fault → Type 0
ShowsImages rom old new (Ok s) =
    (s ≡ status.Done) × ((text : List ℕ) × (rom_text rom ≡ (text, None)) × Appends old new text)
ShowsImages rom old new (Err f) = ((f ≡ fault.NoMemory) × Keeps old new) ⊎ ShowsPart (rom_text rom) old new f

-- the faults of a ROM's file: of a read, of its end, or for memory
abbrev pub FaultsRom : List ℕ → Fault → Type 0
FaultsRom rom f = IsUnread f ⊎ ((f ≡ fault.Endless) × (16777216 ≤ length rom)) ⊎ (f ≡ fault.NoMemory)

-- of the ROM that a file is, or it can't be read
abbrev pub ShowsRom : List ℕ → Option (List ℕ) → Option (List ℕ) → Result Status Fault → Type 0
ShowsRom rom old new r =
    ShowsImages rom old new r ⊎ ((f : Fault) × (r ≡ Err f) × FaultsRom rom f × Keeps old new)
