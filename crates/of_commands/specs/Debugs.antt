-- What `debug` prints: the states that a script shows of an image, and how it ends.
use Rattle.std.specs.Prelude.{◌≡◌, ◌⊎◌, ℕ, List, map, Option, Some, None, Result, Ok, Err}
use Rattle.std.specs.Prelude.{IfErr}
use Rattle.std.specs.Io.KnownBytes.{Keeps, Appends}
use Rattle.of_asking.specs.declared.query.Answer.{Answer}
use Rattle.of_calls.specs.Scripts.{Scripted, command_of}
use Rattle.of_script.specs.Scripts.{Debugs}
use Rattle.of_calls.specs.declared.script_fault.ScriptFault.{ScriptFault}
use Rattle.of_arguments.specs.declared.status.Status.{Status}
use Rattle.of_arguments.specs.declared.status.Status.TheVariants as status
use Rattle.of_files.specs.Faults.{given_up}
use Rattle.of_files.specs.Messages.{AppendsPart}
use Rattle.of_runs.specs.Runs.{IsRefusedFor}
use Rattle.of_files.specs.Faults.{IsUnwritten, ended_with}
use Rattle.of_commands.specs.declared.debugs.DebugRun.{DebugRun}
use Rattle.of_files.specs.declared.fault.Fault.{Fault}

-- ---- what is printed

-- an image, console lines, answers, how many steps are made at most, and the commands of a script
pub record Debugging : Type 0 where
  pub image : List ℕ
  pub lines : List (List ℕ)
  pub answers : List Answer
  pub limit : ℕ
  pub commands : List Scripted

-- what was asked for
abbrev pub debugging_of : DebugRun → Debugging
debugging_of asked = record {
  image = asked.image.now;
  lines = map (λ l. l.items) asked.lines.now;
  answers = asked.answers.now;
  limit = asked.limit;
  commands = map command_of asked.commands.now;
}

-- what is printed under the script, and why that is given up, if it is
abbrev pub Shows : Debugging → List ℕ → Option ScriptFault → Type 0
Shows d text wrong = Debugs d.image d.lines d.answers d.limit d.commands text wrong

-- All was printed; or beside a fault nothing, where the monitor refuses the image or the lines, or all up to the
-- command that is given up, or a part, where a write failed.
abbrev pub PrintsStates : Debugging → Option (List ℕ) → Option (List ℕ) → Result Status Fault → Type 0
PrintsStates d old new (Ok s) = (s ≡ status.Done) × ((text : List ℕ) × Shows d text None × Appends old new text)
PrintsStates d old new (Err f) =
    (Keeps old new × IsRefusedFor d.image d.lines f)
    ⊎ ((text : List ℕ)
    × (((wrong : ScriptFault) × Shows d text (Some wrong) × Appends old new text × (f ≡ given_up wrong))
    ⊎ ((wrong : Option ScriptFault) × Shows d text wrong × AppendsPart old new text × IsUnwritten f)))

-- the program ends with the status of what was printed, or of its fault, which was said
abbrev pub AnswersDebugging :
    Debugging → Option (List ℕ) → Option (List ℕ) → (Fault → Type 0) → Status → Type 0
AnswersDebugging d old new Said s =
    (r : Result Status Fault) × (ended_with r ≡ s) × PrintsStates d old new r × IfErr r Said
