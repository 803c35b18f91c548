-- The faults of files that are handed in to a run: answers, devices, console lines, calls and scripts.
use Rattle.std.specs.Prelude.{◌≡◌, ◌≤◌, ◌⊎◌, ℕ, List, length, Err}
use Rattle.of_arguments.specs.declared.status.Status.{Status}
use Rattle.of_calls.specs.Answers.{parsed_answers}
use Rattle.of_calls.specs.Boards.{parsed_board}
use Rattle.of_calls.specs.Calls.{parsed}
use Rattle.of_calls.specs.ConsoleLines.{parsed_lines}
use Rattle.of_calls.specs.Scripts.{parsed_script}
use Rattle.of_calls.specs.declared.fault.TextFault.{TextFault}
use Rattle.of_files.specs.Faults.{no_answers, no_board, no_calls, no_lines, no_script, status_of}
use Rattle.of_files.specs.Files.{IsUnread}
use Rattle.of_files.specs.declared.fault.Fault.{Fault}
use Rattle.of_files.specs.declared.fault.Fault.TheVariants as fault

-- the faults of a file of answers: of a read, of its end, for memory, or the first of its text
abbrev pub FaultsAnswers : List ℕ → Fault → Type 0
FaultsAnswers file f =
    IsUnread f
    ⊎ ((f ≡ fault.Endless) × (16777216 ≤ length file))
    ⊎ (f ≡ fault.NoMemory)
    ⊎ ((t : TextFault) × (parsed_answers file ≡ Err t) × (f ≡ no_answers t))

-- the status of a fault of a file of answers
abbrev pub FaultsAnswersWith : List ℕ → Status → Type 0
FaultsAnswersWith file s = (f : Fault) × (status_of f ≡ s) × FaultsAnswers file f

-- the faults of a file of devices: of a read, of its end, for memory, or the first of its text
abbrev pub FaultsBoard : List ℕ → Fault → Type 0
FaultsBoard file f =
    IsUnread f
    ⊎ ((f ≡ fault.Endless) × (16777216 ≤ length file))
    ⊎ (f ≡ fault.NoMemory)
    ⊎ ((t : TextFault) × (parsed_board file ≡ Err t) × (f ≡ no_board t))

-- the status of a fault of a file of devices
abbrev pub FaultsBoardWith : List ℕ → Status → Type 0
FaultsBoardWith file s = (f : Fault) × (status_of f ≡ s) × FaultsBoard file f

-- the faults of a file of lines: of a read, of its end, for memory, or the first of its text
abbrev pub FaultsLines : List ℕ → Fault → Type 0
FaultsLines file f =
    IsUnread f
    ⊎ ((f ≡ fault.Endless) × (16777216 ≤ length file))
    ⊎ (f ≡ fault.NoMemory)
    ⊎ ((t : TextFault) × (parsed_lines file ≡ Err t) × (f ≡ no_lines t))

-- the status of a fault of a file of lines
abbrev pub FaultsLinesWith : List ℕ → Status → Type 0
FaultsLinesWith file s = (f : Fault) × (status_of f ≡ s) × FaultsLines file f

-- the faults of a file of calls: of a read, of its end, for memory, or the first of its text
abbrev pub FaultsCalls : List ℕ → Fault → Type 0
FaultsCalls text f =
    IsUnread f
    ⊎ ((f ≡ fault.Endless) × (16777216 ≤ length text))
    ⊎ (f ≡ fault.NoMemory)
    ⊎ ((c : TextFault) × (parsed text ≡ Err c) × (f ≡ no_calls c))

-- the faults of a file of commands: of a read, of its end, for memory, or the first of its text
abbrev pub FaultsScript : List ℕ → Fault → Type 0
FaultsScript file f =
    IsUnread f
    ⊎ ((f ≡ fault.Endless) × (16777216 ≤ length file))
    ⊎ (f ≡ fault.NoMemory)
    ⊎ ((t : TextFault) × (parsed_script file ≡ Err t) × (f ≡ no_script t))

-- the status of a fault of a file of commands
abbrev pub FaultsScriptWith : List ℕ → Status → Type 0
FaultsScriptWith file s = (f : Fault) × (status_of f ≡ s) × FaultsScript file f
