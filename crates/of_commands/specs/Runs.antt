-- What the program prints of a file's run or listing, and how it ends.
use Rattle.std.specs.Prelude.{◌≡◌, ◌⊎◌, ℕ, List, [], ◌∷◌, Option, Result, Ok, Err}
use Rattle.std.specs.Prelude.{Some, None, Bool, false, if◌then◌else◌}
use Rattle.std.specs.Option.{option_map}
use Rattle.std.specs.Io.KnownBytes.{Keeps, Appends}
use Rattle.of_detok.specs.Definitions.{definitions_of}
use Rattle.of_detok.specs.Listing.{Listed, listed_so_far}
use Rattle.of_machine.specs.declared.answers.End.{End}
use Rattle.of_machine.specs.declared.answers.End.TheVariants as end
use Rattle.of_compile.specs.Coding.{Coding}
use Rattle.of_machine.specs.States.{MachineState}
use Rattle.of_arguments.specs.Asked.{Appendix, Asked, a_console, a_debugging, a_listing, a_look, a_rom, a_run}
use Rattle.of_arguments.specs.Asked.{an_image, client_calls, no_appendix}
use Rattle.of_arguments.specs.declared.request.Listing.{Listing}
use Rattle.of_arguments.specs.declared.request.Listing.TheVariants as listing
use Rattle.of_inspect.specs.Looks.{Checks, ShowsRom}
use Rattle.of_files.specs.Faults.{IsUnwritten}
use Rattle.of_files.specs.Files.{image_in, FaultsReading}
use Rattle.of_files.specs.Messages.{AppendsPart}
use Rattle.of_files.specs.Sources.{Tokenizes}
use Rattle.of_commands.specs.Definitions.{SeesShown, dev_slot, shown_lines}
use Rattle.of_commands.specs.Listings.{lacks_word, listed_behind, run_text}
use Rattle.of_runs.specs.Runs.{GivesUp, IsRefusedFor, RunsOn}
use Rattle.of_runs.specs.declared.outside.Outside.{Outside}
use Rattle.of_files.specs.declared.fault.Fault.{Fault}
use Rattle.of_files.specs.declared.fault.Fault.TheVariants as fault
use Rattle.of_arguments.specs.declared.status.Status.{Status}
use Rattle.of_arguments.specs.declared.status.Status.TheVariants as status

-- the run of the image that a file has
abbrev pub RunsFile : List ℕ → Outside → ℕ → MachineState Coding → End → Type 0
RunsFile file o limit m e = (image : List ℕ) × (image_in file ≡ Ok image) × RunsOn image o limit m e

-- the status of a run's end
abbrev pub end_status : End → Status
end_status end.Done = status.Done
end_status end.LimitReached = status.LimitReached
end_status end.AnswersOut = status.AnswersOut

-- how a run ends of which all was printed: with its status, or where a word is asked for by a name that none has, with
-- that fault
abbrev pub run_end : Appendix → MachineState Coding → Status → Result Status Fault
run_end a m s = if lacks_word a.see m then Err fault.NoWord else Ok s

-- ---- what goes out of a run

-- the text of the run of the file was printed, with what is listed behind it, and it ended so
abbrev pub PrintsRun :
    Appendix → List ℕ → Outside → ℕ → Option (List ℕ) → Option (List ℕ) → Result Status Fault → Type 0
PrintsRun a file o limit old new r =
    (m : MachineState Coding) × ((e : End) × RunsFile file o limit m e × (run_end a m (end_status e) ≡ r))
    × Appends old new (run_text a m)

-- there was no whole run of the file: it can't be read, or the run of its image was given up
abbrev pub Fails : List ℕ → Outside → ℕ → Option (List ℕ) → Option (List ℕ) → Fault → Type 0
Fails file o limit old new f =
    (Keeps old new × FaultsReading file f)
    ⊎ ((image : List ℕ) × (image_in file ≡ Ok image) × GivesUp image o limit old new f)

-- a write failed, or memory was refused
abbrev pub IsCut : Fault → Type 0
IsCut f = IsUnwritten f ⊎ (f ≡ fault.NoMemory)

-- a run was made of the file, and a part of this text of it was printed
abbrev pub PrintsPart :
    (MachineState Coding → List ℕ) → List ℕ → Outside → ℕ → Option (List ℕ) → Option (List ℕ) → Fault → Type 0
PrintsPart text file o limit old new f =
    (m : MachineState Coding) × ((e : End) × RunsFile file o limit m e) × AppendsPart old new (text m) × IsCut f

-- behind a run all was listed, and it ended with this fault; or a part was, and a write failed or memory was refused
abbrev pub EndsPart :
    Appendix → MachineState Coding → End → Option (List ℕ) → Option (List ℕ) → Fault → Type 0
EndsPart a m e old new f =
    (Appends old new (listed_behind a m) × (run_end a m (end_status e) ≡ Err f))
    ⊎ (AppendsPart old new (listed_behind a m) × IsCut f)

-- what was printed of the run, and how it ended, or of a part of it beside a fault
abbrev pub Prints :
    Appendix → List ℕ → Outside → ℕ → Option (List ℕ) → Option (List ℕ) → Result Status Fault → Type 0
Prints a file o limit old new (Ok s) = PrintsRun a file o limit old new (Ok s)
Prints a file o limit old new (Err f) =
    PrintsRun a file o limit old new (Err f)
    ⊎ Fails file o limit old new f
    ⊎ PrintsPart (run_text a) file o limit old new f

-- ---- listings

-- the lines that are shown of an image, its tokens' or its definitions', and what is wrong behind them, if anything
abbrev pub ListsImage : Listing → Bool → List ℕ → Listed → Type 0
ListsImage (listing.Tokens e) partial image listed = shown_lines partial (listed_so_far e image) ≡ listed
ListsImage listing.Definitions partial image listed = SeesShown partial image listed

-- of the image that a file has
abbrev pub ListsFile : Listing → Bool → List ℕ → Listed → Type 0
ListsFile l partial file listed =
    (image : List ℕ) × (image_in file ≡ Ok image) × ListsImage l partial image listed

-- why nothing is shown of an image: for memory, or what the monitor refuses its definitions for
abbrev pub FaultsImage : Listing → Bool → List ℕ → Fault → Type 0
FaultsImage (listing.Tokens e) partial image f = f ≡ fault.NoMemory
FaultsImage listing.Definitions partial image f =
    IsRefusedFor (shown_lines partial (definitions_of image)).0 (dev_slot ∷ []) f ⊎ (f ≡ fault.NoMemory)

-- or of a file: of reading, too
abbrev pub FaultsListing : Listing → Bool → List ℕ → Fault → Type 0
FaultsListing l partial file f =
    FaultsReading file f ⊎ ((image : List ℕ) × (image_in file ≡ Ok image) × FaultsImage l partial image f)

-- the lines were printed, and what is wrong behind them is the fault; or a write failed
abbrev pub ListsPart : Listed → Option (List ℕ) → Option (List ℕ) → Fault → Type 0
ListsPart (lines, wrong) old new f =
    (Appends old new lines × (option_map fault.Unlisted wrong ≡ Some f)) ⊎ (AppendsPart old new lines × IsUnwritten f)

-- what was printed of a listing: all of it, or beside a fault nothing, the lines before it or a part of them
abbrev pub Lists :
    Listing → Bool → List ℕ → Option (List ℕ) → Option (List ℕ) → Result Status Fault → Type 0
Lists l partial file old new (Ok s) =
    (s ≡ status.Done) × ((lines : List ℕ) × ListsFile l partial file (lines, None) × Appends old new lines)
Lists l partial file old new (Err f) =
    (Keeps old new × FaultsListing l partial file f)
    ⊎ ((listed : Listed) × ListsFile l partial file listed × ListsPart listed old new f)

-- ---- requests

-- what was printed of the file, where this was asked for, or why it wasn't: of `client`, `console` and `debug` the run
-- alone, and of the ROM of a PCI card what is printed of its FCode program
abbrev pub Does :
    Asked → Outside → List ℕ → Option (List ℕ) → Option (List ℕ) → Result Status Fault → Type 0
Does (a_run image lines path limit a explain pci trace strict) o file old new r = Prints a file o limit old new r
Does (client_calls image calls lines path limit explain strict) o file old new r =
    Prints no_appendix file o limit old new r
Does (a_console image board limit) o file old new r = Prints no_appendix file o limit old new r
Does (a_debugging image guide lines answers limit) o file old new r = Prints no_appendix file o limit old new r
Does (an_image source product) o file old new r = Tokenizes file old new r
Does (a_listing image l partial pci) o file old new r = Lists l partial file old new r
Does (a_look image pci) o file old new r = Checks file old new r
Does (a_rom rom) o file old new r = ShowsRom file old new r

-- whether it is asked how a run ended
abbrev pub is_explained : Asked → Bool
is_explained (a_run image lines o limit a explain pci trace strict) = explain
is_explained (client_calls image calls lines o limit explain strict) = explain
is_explained (a_console image board limit) = false
is_explained (a_debugging image guide lines answers limit) = false
is_explained (an_image source product) = false
is_explained (a_listing image l partial pci) = false
is_explained (a_look image pci) = false
is_explained (a_rom rom) = false
