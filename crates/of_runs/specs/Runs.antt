-- Runs of an image with what is handed in to them, and what goes out of what they print.
use Rattle.std.specs.Prelude.{◌≡◌, ◌⊎◌, ◌≤◌, ℕ, List, [], ◌∷◌, length, map, Option}
use Rattle.std.specs.Io.KnownBytes.{Appends, Keeps}
use Rattle.of_compile.specs.Coding.{Coding}
use Rattle.of_devices.specs.Parts.{board_meant}
use Rattle.of_files.specs.Faults.{IsUnwritten, refused_as}
use Rattle.of_files.specs.Messages.{AppendsPart}
use Rattle.of_files.specs.declared.fault.Fault.{Fault}
use Rattle.of_files.specs.declared.fault.Fault.TheVariants as fault
use Rattle.of_machine.specs.Racks.{answers_of}
use Rattle.of_machine.specs.Runs.{RunsTo, script_refusal}
use Rattle.of_machine.specs.States.{MachineState, Refuses}
use Rattle.of_machine.specs.declared.answers.End.{End}
use Rattle.of_refusal.specs.declared.refusal.Refusal.{Refusal}
use Rattle.of_runs.specs.declared.outside.Answerer.{Answerer}
use Rattle.of_runs.specs.declared.outside.Answerer.TheVariants as answering
use Rattle.of_runs.specs.declared.outside.Outside.{Outside}

-- the console lines that are handed in to a run
abbrev pub lines_of : Outside → List (List ℕ)
lines_of o = map (λ l. l.items) o.lines.now

-- The run of an image and of lines, for at most so many steps, whose questions are answered in order, or by the devices
-- of a board.
abbrev pub RunsBy : List ℕ → List (List ℕ) → Answerer → ℕ → MachineState Coding → End → Type 0
RunsBy image lines (answering.Answers answers) limit m e = RunsTo image lines answers.now [] limit m e
RunsBy image lines (answering.Board board) limit m e =
    RunsTo image lines (answers_of (board_meant board.now ∷ []) m.asked) [] limit m e

-- the same with what is handed in
abbrev pub RunsOn : List ℕ → Outside → ℕ → MachineState Coding → End → Type 0
RunsOn image o limit m e = RunsBy image (lines_of o) o.answerer limit m e

-- what the monitor refuses the image or the lines for
abbrev pub IsRefusedFor : List ℕ → List (List ℕ) → Fault → Type 0
IsRefusedFor image lines f =
    (r : Refusal) × (f ≡ refused_as (length image) r) × Refuses (script_refusal image lines) r

-- all that was printed on a machine
abbrev pub console_of : MachineState Coding → List ℕ
console_of m = m.eval.board.console.text

-- no memory was found, and all of a text had gone out; or a write failed, and the first of it had
abbrev pub CutsShort : Option (List ℕ) → Option (List ℕ) → List ℕ → Fault → Type 0
CutsShort old new text f =
    ((f ≡ fault.NoMemory) × Appends old new text) ⊎ (IsUnwritten f × AppendsPart old new text)

-- Of runs like this one was given up before its end, and this had gone out: what it had printed after some number of
-- steps.
unfoldable pub Breaks :
    (ℕ → MachineState Coding → End → Type 0) → ℕ → Option (List ℕ) → Option (List ℕ) → Fault → Type 0
Breaks Runs limit old new f =
    (n : ℕ) × (n ≤ limit) × (m : MachineState Coding) × ((e : End) × Runs n m e)
    × CutsShort old new (console_of m) f

-- nothing went out, and the monitor refuses the image or the lines, or no memory was found
abbrev pub NeverBegins : List ℕ → List (List ℕ) → Option (List ℕ) → Option (List ℕ) → Fault → Type 0
NeverBegins image lines old new f = Keeps old new × (IsRefusedFor image lines f ⊎ (f ≡ fault.NoMemory))

-- a run of an image with what is handed in was given up
abbrev pub GivesUp : List ℕ → Outside → ℕ → Option (List ℕ) → Option (List ℕ) → Fault → Type 0
GivesUp image o limit old new f =
    NeverBegins image (lines_of o) old new f ⊎ Breaks (RunsOn image o) limit old new f
