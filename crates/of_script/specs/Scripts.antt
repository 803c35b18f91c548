-- What the commands of a script do with a debugger, and what is printed.
use Rattle.std.specs.Prelude.{ℕ, ◌≡◌, ◌+◌, ◌⊎◌, ◌++◌, List, [], ◌∷◌, Option, Some, None, Result, Ok, Err, nat_le}
use Rattle.std.specs.Prelude.{⊤, if◌then◌else◌}
use Rattle.of_asking.specs.declared.query.Answer.{Answer}
use Rattle.of_calls.specs.Scripts.{Break, Clear, Code, Go, In, Name, Named, Out, Over, Scripted}
use Rattle.of_cells.specs.declared.cells.Cell.{Cell}
use Rattle.of_compile.specs.Coding.{Coding}
use Rattle.of_debug.specs.Debugging.{BreakAt, Clear as ClearAt, Command, Debugged, Go as GoOn, Obeys, StepIn, StepOut}
use Rattle.of_debug.specs.Debugging.{StepOver, begun}
use Rattle.of_debug.specs.Turns.{handed_over}
use Rattle.of_debug.specs.declared.fault.DebugFault.{DebugFault}
use Rattle.of_debug.specs.declared.fault.DebugFault.TheVariants as refused
use Rattle.of_machine.specs.States.{MachineState, first_machine, loaded, slot}
use Rattle.of_machine.specs.Views.{word_named, xt_numbered}
use Rattle.of_calls.specs.declared.script_fault.ScriptFault.{ScriptFault}
use Rattle.of_calls.specs.declared.script_fault.ScriptFault.TheVariants as fault
use Rattle.of_script.specs.Shown.{state_line}

-- ---- a command

-- the execution token of a word, by its name or its FCode
abbrev pub word_of : Named → MachineState Coding → Option Cell
word_of (Name name) m = word_named m.eval name
word_of (Code number) m = if nat_le number 0xfff then xt_numbered m.eval.words number else None

-- what a stepping command prints: the state, also where no step could be made
abbrev pub stepped_text : Result ⊤ DebugFault → Debugged → Result (List ℕ) ScriptFault
stepped_text (Err refused.NoMemory) d = Err fault.NoMemory
stepped_text _ d = Ok (state_line d)

-- what a command in this line prints that marks or clears an item: nothing
abbrev pub marked_text : ℕ → Result ⊤ DebugFault → Result (List ℕ) ScriptFault
marked_text line (Ok _) = Ok []
marked_text line (Err refused.NoWord) = Err (fault.NoWord line)
marked_text line (Err refused.NoItem) = Err (fault.NoItem line)
marked_text line (Err refused.TooMany) = Err (fault.TooMany line)
marked_text line (Err refused.Idle) = Ok []
marked_text line (Err refused.NoMemory) = Err fault.NoMemory

-- this was said, or memory was refused for it
abbrev pub Says : Result (List ℕ) ScriptFault → Result (List ℕ) ScriptFault → Type 0
Says said text = (said ≡ text) ⊎ (said ≡ Err fault.NoMemory)

-- steps were made
abbrev pub HasStepped : Command → Debugged → Debugged → Result (List ℕ) ScriptFault → Type 0
HasStepped command old new said =
    (r : Result ⊤ DebugFault) × Obeys command r old new × Says said (stepped_text r new)

-- an item of a word was marked or cleared, if there is such a word; no memory is asked for that
abbrev pub HasMarked :
    ℕ → Option Cell → (Cell → Command) → Debugged → Debugged → Result (List ℕ) ScriptFault → Type 0
HasMarked line None command old new said = (said ≡ Err (fault.Unknown line)) × (new ≡ old)
HasMarked line (Some xt) command old new said =
    (r : Result ⊤ DebugFault) × Obeys (command xt) r old new × (said ≡ marked_text line r)

-- what the command in this line makes of a debugger, and what it prints, or why it was given up
abbrev pub Carries : ℕ → Scripted → Debugged → Debugged → Result (List ℕ) ScriptFault → Type 0
Carries line In old new said = HasStepped StepIn old new said
Carries line Over old new said = HasStepped StepOver old new said
Carries line Out old new said = HasStepped StepOut old new said
Carries line (Go n) old new said = HasStepped (GoOn n) old new said
Carries line (Break word item) old new said =
    HasMarked line (word_of word old.feed.machine) (λ xt. BreakAt xt item) old new said
Carries line (Clear word item) old new said =
    HasMarked line (word_of word old.feed.machine) (λ xt. ClearAt xt item) old new said

-- ---- a script

-- the commands of a script from this line on, one after the other, up to one that is given up; what each prints stands
-- behind what those before it did
abbrev pub Plays : ℕ → List Scripted → Debugged → Debugged → List ℕ → Option ScriptFault → Type 0
Plays line [] old new text wrong = (new ≡ old) × (text ≡ []) × (wrong ≡ None)
Plays line (c ∷ cs) old new text wrong =
    (d : Debugged)
    × (((said : List ℕ) × (rest : List ℕ) × Carries line c old d (Ok said) × (text ≡ said ++ rest)
    × Plays (line + 1) cs d new rest wrong)
    ⊎ ((f : ScriptFault) × Carries line c old d (Err f) × (new ≡ d) × (text ≡ []) × (wrong ≡ Some f)))

-- the debugger of a new machine on which an image is loaded
abbrev pub debugged : List ℕ → List (List ℕ) → List Answer → ℕ → Debugged
debugged image lines answers limit =
    begun (handed_over (loaded first_machine image slot) lines answers []).feed limit

-- all that is printed of a script: behind a whole one the console bytes follow
abbrev pub all_text : List ℕ → Option ScriptFault → Debugged → List ℕ
all_text text None d = text ++ d.feed.machine.eval.board.console.text
all_text text (Some f) d = text

-- a script is carried out, and the console bytes are printed; they may be given up for memory
abbrev pub PlaysWhole : List Scripted → Debugged → List ℕ → Option ScriptFault → Type 0
PlaysWhole script old text wrong =
    (d : Debugged) × (shown : List ℕ) × (early : Option ScriptFault) × Plays 1 script old d shown early
    × (((text ≡ all_text shown early d) × (wrong ≡ early)) ⊎ ((text ≡ shown) × (wrong ≡ Some fault.NoMemory)))

-- an image runs under a script
abbrev pub Debugs :
    List ℕ → List (List ℕ) → List Answer → ℕ → List Scripted → List ℕ → Option ScriptFault → Type 0
Debugs image lines answers limit script text wrong =
    PlaysWhole script (debugged image lines answers limit) text wrong
