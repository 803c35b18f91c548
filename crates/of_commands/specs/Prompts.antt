-- What `debug --interactive` does with the lines that it reads, what it prints, and how it is given up.
use Rattle.std.specs.Prelude.{◌≡◌, ◌≢◌, ◌<◌, ◌⊎◌, ℕ, zero, suc, List, [], ◌++◌, codes, length, map, Option, Some, None}
use Rattle.std.specs.Prelude.{Result, Ok, Err, IfSome}
use Rattle.std.specs.Io.BufRead.{drop_through, take_through}
use Rattle.std.specs.Io.KnownBytes.{Appends, Keeps}
use Rattle.of_arguments.specs.declared.status.Status.{Status}
use Rattle.of_arguments.specs.declared.status.Status.TheVariants as status
use Rattle.of_asking.specs.declared.query.Answer.{Answer}
use Rattle.of_calls.specs.Scripts.{Scripted, parsed_script}
use Rattle.of_calls.specs.declared.fault.TextFault.{TextFault}
use Rattle.of_debug.specs.Debugging.{Debugged}
use Rattle.of_files.specs.Faults.{IsUnwritten, ended_with}
use Rattle.of_files.specs.Messages.{AppendsPart}
use Rattle.of_files.specs.declared.fault.Fault.{Fault}
use Rattle.of_files.specs.declared.fault.Fault.TheVariants as fault
use Rattle.of_runs.specs.Runs.{IsRefusedFor}
use Rattle.of_script.specs.Scripts.{Plays, debugged}
use Rattle.of_calls.specs.declared.script_fault.ScriptFault.{ScriptFault}
use Rattle.of_calls.specs.declared.script_fault.ScriptFault.TheVariants as script
use Rattle.of_commands.specs.Consoles.{line_in, most_lines, printed_since}
use Rattle.of_commands.specs.GivenUp.{IsUnread}
use Rattle.of_commands.specs.declared.prompts.PromptRun.{PromptRun}

-- ---- a line

-- why a command can't be carried out, as a line; where memory is refused the error output says so
abbrev pub wrong_text : Option ScriptFault → List ℕ
wrong_text None = []
wrong_text (Some (script.Unknown line)) = codes "no such word\n"
wrong_text (Some (script.NoWord line)) = codes "no colon definition\n"
wrong_text (Some (script.NoItem line)) = codes "no such item\n"
wrong_text (Some (script.TooMany line)) = codes "too many marks\n"
wrong_text (Some script.NoMemory) = []

-- The commands of a line are carried out as in a script, up to one that can't be. Behind what the machine prints
-- meanwhile, with its last line ended, stands what they print, and why that one can't be.
abbrev pub CarriesOut : List Scripted → Debugged → Debugged → Option ScriptFault → List ℕ → Type 0
CarriesOut commands old new wrong said =
    (text : List ℕ) × Plays 1 commands old new text wrong
    × (said ≡ printed_since old.feed.machine new.feed.machine ++ (text ++ wrong_text wrong))

-- what a line that is read so makes of a debugger, and what is printed: one without commands changes nothing
abbrev pub ObeysRead : Result (List Scripted) TextFault → Debugged → Debugged → List ℕ → Type 0
ObeysRead (Ok commands) old new said =
    (wrong : Option ScriptFault) × (wrong ≢ Some script.NoMemory) × CarriesOut commands old new wrong said
ObeysRead (Err f) old new said = new ≡ old

-- what a line makes of a debugger, and what is printed
abbrev pub Obeys : List ℕ → Debugged → Debugged → List ℕ → Type 0
Obeys line old new said = ObeysRead (parsed_script line) old new said

-- this was printed
abbrev pub Prints : Option (List ℕ) → Option (List ℕ) → (List ℕ → Type 0) → Type 0
Prints before after Said = (said : List ℕ) × Appends before after said × Said said

-- ---- a line that is given up

-- a write failed, and the first of what was to be printed went out; or all of it did, and memory was refused
abbrev pub IsUnsaid : List ℕ → Option ScriptFault → Option (List ℕ) → Option (List ℕ) → Fault → Type 0
IsUnsaid said wrong before after f =
    (AppendsPart before after said × IsUnwritten f)
    ⊎ ((wrong ≡ Some script.NoMemory) × Appends before after said × (f ≡ fault.NoMemory))

-- no memory was found for what is shown, or a write failed
abbrev pub IsUnshown : Option (List ℕ) → Option (List ℕ) → Fault → Type 0
IsUnshown before after f =
    (Keeps before after × (f ≡ fault.NoMemory))
    ⊎ ((said : List ℕ) × AppendsPart before after said × IsUnwritten f)

-- how a line that is read so is given up: its commands were carried out, or nothing was changed
abbrev pub FailsRead :
    Result (List Scripted) TextFault → Debugged → Debugged → Option (List ℕ) → Option (List ℕ) → Fault → Type 0
FailsRead (Ok commands) old new before after f =
    (wrong : Option ScriptFault) × (said : List ℕ) × CarriesOut commands old new wrong said
    × IsUnsaid said wrong before after f
FailsRead (Err e) old new before after f = (new ≡ old) × IsUnshown before after f

-- the same of a line, which may also lack memory to be read
abbrev pub Fails : List ℕ → Debugged → Debugged → Option (List ℕ) → Option (List ℕ) → Fault → Type 0
Fails line old new before after f =
    ((new ≡ old) × Keeps before after × (f ≡ fault.NoMemory)) ⊎ FailsRead (parsed_script line) old new before after f

-- ---- lines

-- what is printed where a command is awaited
abbrev pub command_prompt : List ℕ
command_prompt = codes "debug> "

-- the line that some bytes begin with isn't `quit` and was done, which printed this; then these bytes are left
abbrev pub IsDone : List ℕ → Debugged → List ℕ → List ℕ → Debugged → Type 0
IsDone bytes old text rest new =
    (said : List ℕ) × (0 < length bytes) × (rest ≡ drop_through 10 bytes)
    × (line_in (take_through 10 bytes) ≢ codes "quit")
    × Obeys (line_in (take_through 10 bytes)) old new said × (text ≡ command_prompt ++ said)

-- so many lines were done, one after the other
abbrev pub AreDone : ℕ → List ℕ → Debugged → List ℕ → List ℕ → Debugged → Type 0
AreDone zero bytes old text rest new = (text ≡ []) × (rest ≡ bytes) × (new ≡ old)
AreDone (suc n) bytes old text rest new =
    (before : List ℕ) × (left : List ℕ) × (d : Debugged) × (more : List ℕ)
    × AreDone n bytes old before left d × IsDone left d more rest new × (text ≡ before ++ more)

-- what is left of some bytes is their end, behind which a newline is printed, or begins with the line `quit`, and
-- nothing is
abbrev pub IsQuit : List ℕ → List ℕ → Type 0
IsQuit rest end =
    ((rest ≡ []) × (end ≡ codes "\n")) ⊎ ((line_in (take_through 10 rest) ≡ codes "quit") × (end ≡ []))

-- All lines up to `quit` or the end were done, and nothing but what they printed was, the prompt of the last and the
-- newline at the end.
abbrev pub FollowsAll : List ℕ → Debugged → Debugged → Option (List ℕ) → Option (List ℕ) → Type 0
FollowsAll bytes old new before after =
    (n : ℕ) × (text : List ℕ) × (rest : List ℕ) × (end : List ℕ) × AreDone n bytes old text rest new × IsQuit rest end
    × Appends before after (text ++ (command_prompt ++ end))

-- ---- how lines are given up

-- a write failed where it is shown that a command is awaited, or its line can't be read
abbrev pub IsUncommanded : Option (List ℕ) → Option (List ℕ) → Fault → Type 0
IsUncommanded before after f =
    (AppendsPart before after command_prompt × IsUnwritten f) ⊎ (Appends before after command_prompt × IsUnread f)

-- Behind n lines the next one is given up, of which these bytes are left: it isn't awaited, or not done; or there is
-- none, and the newline isn't written that ends what is printed; or as many were read as ever are.
abbrev pub Stops : ℕ → List ℕ → Debugged → Debugged → Option (List ℕ) → Option (List ℕ) → Fault → Type 0
Stops n rest old new before after f =
    ((new ≡ old) × IsUncommanded before after f)
    ⊎ ((0 < length rest) × (line_in (take_through 10 rest) ≢ codes "quit") × (mid : Option (List ℕ))
    × Appends before mid command_prompt × Fails (line_in (take_through 10 rest)) old new mid after f)
    ⊎ ((new ≡ old) × (rest ≡ []) × AppendsPart before after (command_prompt ++ codes "\n") × IsUnwritten f)
    ⊎ ((n ≡ most_lines) × (new ≡ old) × Keeps before after × (f ≡ fault.Endless))

-- some lines were done, all went out that they print, and the next one is given up
abbrev pub FollowsSome : List ℕ → Debugged → Debugged → Option (List ℕ) → Option (List ℕ) → Fault → Type 0
FollowsSome bytes old new before after f =
    (n : ℕ) × (text : List ℕ) × (rest : List ℕ) × (d : Debugged) × (mid : Option (List ℕ))
    × AreDone n bytes old text rest d × Appends before mid text × Stops n rest d new mid after f

-- ---- an image whose debugger is led by lines

-- an image, console lines, answers, and how many steps are made at most
pub record Led : Type 0 where
  pub image : List ℕ
  pub lines : List (List ℕ)
  pub answers : List Answer
  pub limit : ℕ

-- what was asked for
abbrev pub led_of : PromptRun → Led
led_of asked = record {
  image = asked.image.now;
  lines = map (λ l. l.items) asked.lines.now;
  answers = asked.answers.now;
  limit = asked.limit;
}

-- the debugger of a new machine on which the image is loaded
abbrev pub led_debugger : Led → Debugged
led_debugger d = debugged d.image d.lines d.answers d.limit

-- All lines were done; or beside a fault nothing, where the monitor refuses the image or the console lines, or some
-- lines were.
abbrev pub Leads : Led → List ℕ → Option (List ℕ) → Option (List ℕ) → Result Status Fault → Type 0
Leads d bytes before after (Ok s) =
    (s ≡ status.Done) × ((new : Debugged) × FollowsAll bytes (led_debugger d) new before after)
Leads d bytes before after (Err f) =
    (Keeps before after × IsRefusedFor d.image d.lines f)
    ⊎ ((new : Debugged) × FollowsSome bytes (led_debugger d) new before after f)

-- the same of a reader whose bytes are known, where the program ends with this status
abbrev pub AnswersPrompts :
    Led → Option (List ℕ) → Option (List ℕ) → Option (List ℕ) → Status → Type 0
AnswersPrompts d known before after s =
    (r : Result Status Fault) × (ended_with r ≡ s) × IfSome known (λ bytes. Leads d bytes before after r)
