-- What a console prints: behind an image, if there is one, lines are awaited, and each is run as soon as it is read
-- (Forth 2012, 3.4; IEEE 1275-1994, 7.3).
use Rattle.std.specs.Prelude.{ℕ, zero, suc, List, [], ◌∷◌, ◌++◌, drop, length, Option, Some, None, codes, if◌then◌else◌}
use Rattle.std.specs.Option.{option_map}
use Rattle.std.specs.Io.BufRead.{drop_through, ends_with_byte, strip_last, take_through}
use Rattle.of_compile.specs.Coding.{Coding}
use Rattle.of_devices.specs.Racks.{Meant}
use Rattle.of_machine.specs.Events.{Load, done_by}
use Rattle.of_machine.specs.States.{MachineState, idle, no_code}
use Rattle.of_monitor.specs.Sessions.{entry}
use Rattle.of_monitor.specs.Turns.{Attended, turns}
use Rattle.of_state.specs.State.{flat_calls}
use Rattle.of_commands.specs.Listings.{newline_behind}
use Rattle.of_commands.specs.declared.consoles.ConsoleRun.{ConsoleRun}

-- what was printed from one state of a machine to another, with its last line ended
abbrev pub printed_since : MachineState Coding → MachineState Coding → List ℕ
printed_since old new =
    let text = drop (length old.eval.board.console.text) new.eval.board.console.text in text ++ newline_behind text

-- what is printed where a line is awaited
abbrev pub prompt : List ℕ
prompt = codes "ok "

-- how many lines are read at most
abbrev pub most_lines : ℕ
most_lines = 18446744073709551615

-- a line without its end, if it has one
abbrev pub line_in : List ℕ → List ℕ
line_in line = if ends_with_byte 10 line then strip_last 13 (strip_last 10 line) else line

-- The lines of some bytes, no more than n of them, are entered one after the other; a newline ends what is printed.
abbrev pub session_text : ℕ → ℕ → List ℕ → Attended Coding → List ℕ
session_text limit n [] x = prompt ++ 10 ∷ []
session_text limit zero (b ∷ bytes) x = []
session_text limit (suc n) (b ∷ bytes) x =
    let y = entry flat_calls limit (line_in (take_through 10 (b ∷ bytes))) x in
    prompt ++ printed_since x.0 y.0 ++ session_text limit n (drop_through 10 (b ∷ bytes)) y

-- a new machine with its devices
abbrev pub at_rest : List Meant → Attended Coding
at_rest ds = (idle no_code, ds)

-- the same behind an image for `/slot`, if there is one
abbrev pub behind_image : ℕ → Option (List ℕ) → Attended Coding → Attended Coding
behind_image limit None x = x
behind_image limit (Some image) x =
    turns flat_calls limit (done_by flat_calls (Load image (codes "/slot")) x.0, x.1)

-- the image that a console begins with, if it does
abbrev pub image_of : ConsoleRun → Option (List ℕ)
image_of console = option_map (λ named. named.1.now) console.image

-- all that a console prints whose machine has these devices
abbrev pub console_text : List Meant → ℕ → Option (List ℕ) → List ℕ → List ℕ
console_text ds limit image bytes =
    let x = at_rest ds in
    let y = behind_image limit image x in
    printed_since x.0 y.0 ++ session_text limit (length bytes) bytes y
