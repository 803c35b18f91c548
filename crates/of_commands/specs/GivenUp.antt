-- A console that is given up before its input ends: since the monitor refuses its image, a line can't be read, a write
-- fails, or no memory is found.
use Rattle.std.specs.Prelude.{ℕ, zero, suc, ◌≡◌, ◌<◌, ◌⊎◌, List, [], ◌∷◌, ◌++◌, length, Option, Some, codes, ⊤}
use Rattle.std.specs.Prelude.{Result, Ok, Err, IfSome}
use Rattle.std.specs.Io.BufRead.{drop_through, take_through}
use Rattle.std.specs.Io.KnownBytes.{Appends, Keeps}
use Rattle.of_arguments.specs.declared.status.Status.{Status}
use Rattle.of_arguments.specs.declared.status.Status.TheVariants as status
use Rattle.of_compile.specs.Coding.{Coding}
use Rattle.of_devices.specs.Racks.{Meant}
use Rattle.of_files.specs.Faults.{IsUnwritten, ended_with, refused_as}
use Rattle.of_files.specs.Messages.{AppendsPart}
use Rattle.of_files.specs.declared.fault.Fault.{Fault}
use Rattle.of_files.specs.declared.fault.Fault.TheVariants as fault
use Rattle.of_refusal.specs.declared.refusal.Refusal.{Refusal}
use Rattle.of_machine.specs.States.{MachineState, RefusesBefore, first_refusal, load_refusal}
use Rattle.of_monitor.specs.Sessions.{IsBroken, entry}
use Rattle.of_monitor.specs.Turns.{Attended}
use Rattle.of_state.specs.State.{flat_calls}
use Rattle.of_commands.specs.Consoles.{at_rest, behind_image, console_text, line_in, most_lines, printed_since, prompt}

-- ---- lines that were entered

-- the line that some bytes begin with was entered, which printed this; then these bytes are left
abbrev pub IsEntered : ℕ → List ℕ → Attended Coding → List ℕ → List ℕ → Attended Coding → Type 0
IsEntered limit bytes x text rest y =
    (0 < length bytes) × (rest ≡ drop_through 10 bytes)
    × (y ≡ entry flat_calls limit (line_in (take_through 10 bytes)) x) × (text ≡ prompt ++ printed_since x.0 y.0)

-- so many lines were entered, one after the other
abbrev pub AreEntered : ℕ → ℕ → List ℕ → Attended Coding → List ℕ → List ℕ → Attended Coding → Type 0
AreEntered limit zero bytes x text rest y = (text ≡ []) × (rest ≡ bytes) × (y ≡ x)
AreEntered limit (suc n) bytes x text rest y =
    (before : List ℕ) × (left : List ℕ) × (z : Attended Coding) × (more : List ℕ)
    × AreEntered limit n bytes x before left z × IsEntered limit left z more rest y × (text ≡ before ++ more)

-- ---- how a session is given up

-- a line can't be read
abbrev pub IsUnread : Fault → Type 0
IsUnread (fault.Unread code) = ⊤
IsUnread fault.NoMemory = ⊤
IsUnread _ = ⊥

-- a write failed where it is shown that the next line is awaited, or that can't be read
abbrev pub IsUnawaited : Option (List ℕ) → Option (List ℕ) → Fault → Type 0
IsUnawaited old new f = (AppendsPart old new prompt × IsUnwritten f) ⊎ (Appends old new prompt × IsUnread f)

-- of what a line prints a part went out: its steps were made, and a write failed; or no memory was found for them
abbrev pub IsUnanswered :
    ℕ → List ℕ → Attended Coding → Attended Coding → Option (List ℕ) → Option (List ℕ) → Fault → Type 0
IsUnanswered limit line x y old new f =
    AppendsPart old new (printed_since x.0 y.0)
    × (((y ≡ entry flat_calls limit line x) × IsUnwritten f) ⊎ (IsBroken limit line x y × (f ≡ fault.NoMemory)))

-- Behind n lines the next one is given up, of which these bytes are left: it isn't awaited or not answered; or there is
-- none, and the newline isn't written that ends what is printed; or as many were read as ever are.
abbrev pub Stops : ℕ → ℕ → List ℕ → Attended Coding → Option (List ℕ) → Option (List ℕ) → Fault → Type 0
Stops limit n rest x old new f =
    IsUnawaited old new f
    ⊎ ((0 < length rest) × (y : Attended Coding) × (mid : Option (List ℕ)) × Appends old mid prompt
    × IsUnanswered limit (line_in (take_through 10 rest)) x y mid new f)
    ⊎ ((rest ≡ []) × AppendsPart old new (prompt ++ 10 ∷ []) × IsUnwritten f)
    ⊎ ((n ≡ most_lines) × Keeps old new × (f ≡ fault.Endless))

-- some lines were entered, all went out that they print, and the next one is given up
abbrev pub StopsBehind : ℕ → List ℕ → Attended Coding → Option (List ℕ) → Option (List ℕ) → Fault → Type 0
StopsBehind limit bytes x old new f =
    (n : ℕ) × (text : List ℕ) × (rest : List ℕ) × (y : Attended Coding) × (mid : Option (List ℕ))
    × AreEntered limit n bytes x text rest y × Appends old mid text × Stops limit n rest y mid new f

-- ---- how a console is given up

-- the monitor refuses an image for `/slot`, or no memory is found for it or its steps
abbrev pub IsUnrun : MachineState Coding → Option (List ℕ) → Fault → Type 0
IsUnrun m image f =
    (f ≡ fault.NoMemory)
    ⊎ ((bytes : List ℕ) × (r : Refusal) × (image ≡ Some bytes) × (f ≡ refused_as (length bytes) r)
    × RefusesBefore (first_refusal m bytes (codes "/slot")) (load_refusal m bytes (codes "/slot")) r)

-- nothing was printed; or a part of what the image prints, and a write failed; or all of that, and a session was given
-- up behind it
unfoldable pub GivesUp :
    List Meant → ℕ → Option (List ℕ) → List ℕ → Option (List ℕ) → Option (List ℕ) → Fault → Type 0
GivesUp ds limit image bytes old new f =
    let x = at_rest ds in
    let y = behind_image limit image x in
    (Keeps old new × IsUnrun x.0 image f)
    ⊎ (AppendsPart old new (printed_since x.0 y.0) × IsUnwritten f)
    ⊎ ((mid : Option (List ℕ)) × Appends old mid (printed_since x.0 y.0) × StopsBehind limit bytes y mid new f)

-- what went out of a console, and how it ended
abbrev pub Converses :
    List Meant → ℕ → Option (List ℕ) → List ℕ → Option (List ℕ) → Option (List ℕ) → Result Status Fault → Type 0
Converses ds limit image bytes old new (Ok s) =
    (s ≡ status.Done) × Appends old new (console_text ds limit image bytes)
Converses ds limit image bytes old new (Err f) = GivesUp ds limit image bytes old new f

-- the same of a reader whose bytes are known, where the program ends with this status
abbrev pub AnswersConsole :
    List Meant → ℕ → Option (List ℕ) → Option (List ℕ) → Option (List ℕ) → Option (List ℕ) → Status → Type 0
AnswersConsole ds limit image known old new s =
    (r : Result Status Fault) × (ended_with r ≡ s) × IfSome known (λ bytes. Converses ds limit image bytes old new r)
