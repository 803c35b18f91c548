-- The console lines that a text says: its lines, none of which may be longer than a console line (profile of this
-- board).
use Rattle.std.specs.Prelude.{ℕ, ◌+◌, List, length, nat_lt, Result, Ok, Err, if◌then◌else◌}
use Rattle.of_calls.specs.Lines.{lines}
use Rattle.of_calls.specs.Said.{all_said}
use Rattle.of_calls.specs.declared.fault.TextFault.{TextFault}
use Rattle.of_calls.specs.declared.fault.TextFault.TheVariants as fault

-- how many bytes a console line has at most
abbrev pub longest : ℕ
longest = 255

-- the line with a number, or the place behind the last byte that it could have
unfoldable pub line_in : ℕ → List ℕ → Result (List ℕ) TextFault
line_in number line =
    if nat_lt longest (length line) then Err (fault.TooLong (record { line = number; column = longest + 1 }))
    else Ok line

-- the console lines of a text, or the first that is too long
abbrev pub parsed_lines : List ℕ → Result (List (List ℕ)) TextFault
parsed_lines text = all_said line_in 1 (lines text)
