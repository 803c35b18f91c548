-- What `client` prints: what a run prints, and then what a client's calls are answered, and how it ends.
use Rattle.std.specs.Prelude.{◌≡◌, ◌⊎◌, ℕ, List, [], ◌∷◌, ◌++◌, Option, Result, Ok, Err, IfErr}
use Rattle.std.specs.Int.{to_be_bytes, w32}
use Rattle.std.specs.Io.KnownBytes.{Keeps, Appends}
use Rattle.hex.specs.Hex.{encode_lower}
use Rattle.of_client.specs.Services.{Reply, Service}
use Rattle.of_calls.specs.Calls.{parsed}
use Rattle.of_compile.specs.Coding.{Coding}
use Rattle.of_machine.specs.States.{MachineState, served}
use Rattle.of_machine.specs.declared.answers.End.{End}
use Rattle.of_arguments.specs.declared.status.Status.{Status}
use Rattle.of_runs.specs.Runs.{console_of}
use Rattle.of_runs.specs.declared.outside.Outside.{Outside}
use Rattle.of_files.specs.Handed.{FaultsCalls}
use Rattle.of_commands.specs.Runs.{Fails, PrintsPart, RunsFile, end_status}
use Rattle.of_files.specs.Faults.{ended_with, status_of}
use Rattle.of_files.specs.declared.fault.Fault.{Fault}

-- ---- what is printed

-- the bytes of a reply behind a space, where it has some
abbrev pub bytes_shown : List ℕ → List ℕ
bytes_shown [] = []
bytes_shown (b ∷ bytes) = 32 ∷ encode_lower (b ∷ bytes)

-- a reply as a line: its number in 8 hexadecimal digits, and its bytes
abbrev pub reply_line : Reply → List ℕ
reply_line r = encode_lower (to_be_bytes w32 r.0.0) ++ bytes_shown r.1 ++ 10 ∷ []

-- a line for each reply
abbrev pub reply_lines : List Reply → List ℕ
reply_lines [] = []
reply_lines (r ∷ replies) = reply_line r ++ reply_lines replies

-- a machine that has answered questions one after the other
abbrev pub served_all : MachineState Coding → List Service → MachineState Coding
served_all m [] = m
served_all m (s ∷ services) = served_all (served m s) services

-- the console bytes of a machine, and its replies once it has answered
abbrev pub client_text : List Service → MachineState Coding → List ℕ
client_text services m = console_of m ++ reply_lines (served_all m services).replies

-- what was printed of a run and of its replies to these questions, or of a part of it beside a fault
abbrev pub PrintsCalls :
    List Service → List ℕ → Outside → ℕ → Option (List ℕ) → Option (List ℕ) → Result Status Fault → Type 0
PrintsCalls services file o limit old new (Ok s) =
    (m : MachineState Coding) × ((e : End) × RunsFile file o limit m e × (end_status e ≡ s))
    × Appends old new (client_text services m)
PrintsCalls services file o limit old new (Err f) =
    Fails file o limit old new f ⊎ PrintsPart (client_text services) file o limit old new f

-- ---- how it ends

-- the program ends with the status of what was printed, or of its fault, which was said
abbrev pub AnswersCalls :
    List Service → List ℕ → Outside → ℕ → Option (List ℕ) → Option (List ℕ) → (Fault → Type 0) → Status → Type 0
AnswersCalls services file o limit old new Said s =
    (r : Result Status Fault) × (ended_with r ≡ s) × PrintsCalls services file o limit old new r × IfErr r Said

-- the same with the calls of a text, or nothing was printed, and a fault of the text was said
abbrev pub AnswersClient :
    List ℕ → List ℕ → Outside → ℕ → Option (List ℕ) → Option (List ℕ) → (Fault → Type 0) → Status → Type 0
AnswersClient text file o limit old new Said s =
    ((f : Fault) × (status_of f ≡ s) × Keeps old new × FaultsCalls text f × Said f)
    ⊎ ((services : List Service) × (parsed text ≡ Ok services)
    × AnswersCalls services file o limit old new Said s)
