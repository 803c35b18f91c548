-- The commands of a debugger that a text says: a line is `in`, `over`, `out`, `break` or `clear` with a word and an
-- item, or `go` with steps.
use Rattle.std.specs.Prelude.{ℕ, List, [], ◌∷◌, codes, nat_eq, Option, Some, None, Result, Ok, Err, if◌then◌else◌}
use Rattle.std.specs.Str.{bytes_eq}
use Rattle.of_cells.specs.declared.cells.Cell.{Cell}
use Rattle.of_calls.specs.Lines.{lines, number_of, place_at, word_at}
use Rattle.of_calls.specs.Said.{all_said, decimal_at, ended, go_on, text_at}
use Rattle.of_calls.specs.declared.fault.TextFault.{TextFault}
use Rattle.of_calls.specs.declared.fault.TextFault.TheVariants as fault
use Rattle.of_calls.specs.declared.script.ScriptCommand.{ScriptCommand}
use Rattle.of_calls.specs.declared.script.ScriptCommand.TheVariants as command
use Rattle.of_calls.specs.declared.script.ScriptWord.{ScriptWord}
use Rattle.of_calls.specs.declared.script.ScriptWord.TheVariants as word

-- ---- words

-- a word, by its name or by the FCode that names it
pub data Named : Type 0 where
  Name : List ℕ → Named
  Code : ℕ → Named

-- the word that a script names
abbrev pub named_of : ScriptWord → Named
named_of (word.Name name) = Name name.items
named_of (word.Code code) = Code code

-- the number of a word that is `#` and hexadecimal digits
abbrev pub code_of : List ℕ → Option Cell
code_of [] = None
code_of (b ∷ digits) = if nat_eq b 0x23 then number_of digits else None

-- what a name that was read names
abbrev pub name_or : List ℕ → Result Named TextFault
name_or name = Ok (Name name)

-- a word by its number where there is one, or else by its name
abbrev pub code_or : Option Cell → Result (List ℕ) TextFault → Result Named TextFault
code_or (Some code) name = Ok (Code code.0)
code_or None name = go_on name_or name

-- what the word behind so many names: one that is left out is an empty name
abbrev pub named_at : ℕ → ℕ → List ℕ → Result Named TextFault
named_at number n line = code_or (code_of (word_at n line)) (text_at number n line)

-- ---- commands

-- what a debugger is told
pub data Scripted : Type 0 where
  In : Scripted
  Over : Scripted
  Out : Scripted
  Break : Named → ℕ → Scripted
  Clear : Named → ℕ → Scripted
  Go : ℕ → Scripted

-- what a command tells
abbrev pub command_of : ScriptCommand → Scripted
command_of command.In = In
command_of command.Over = Over
command_of command.Out = Out
command_of (command.Break w item) = Break (named_of w) item
command_of (command.Clear w item) = Clear (named_of w) item
command_of (command.Go steps) = Go steps

-- ---- lines

-- `break`
unfoldable pub break_in : ℕ → List ℕ → Result Scripted TextFault
break_in number line =
    go_on (λ w. go_on (λ item. ended number 3 line (Break w item.0)) (decimal_at number 2 line))
    (named_at number 1 line)

-- `clear`
unfoldable pub clear_in : ℕ → List ℕ → Result Scripted TextFault
clear_in number line =
    go_on (λ w. go_on (λ item. ended number 3 line (Clear w item.0)) (decimal_at number 2 line))
    (named_at number 1 line)

-- the command of the line with a number; a line without words has the fault Unknown
unfoldable pub script_in : ℕ → List ℕ → Result Scripted TextFault
script_in number line =
    if bytes_eq (word_at 0 line) (codes "in") then ended number 1 line In
    else (if bytes_eq (word_at 0 line) (codes "over") then ended number 1 line Over
    else (if bytes_eq (word_at 0 line) (codes "out") then ended number 1 line Out
    else (if bytes_eq (word_at 0 line) (codes "break") then break_in number line
    else (if bytes_eq (word_at 0 line) (codes "clear") then clear_in number line
    else (if bytes_eq (word_at 0 line) (codes "go")
    then go_on (λ steps. ended number 2 line (Go steps.0)) (decimal_at number 1 line)
    else Err (fault.Unknown (place_at number 0 line)))))))

-- the commands of a text, or the first of its words that fits nowhere
abbrev pub parsed_script : List ℕ → Result (List Scripted) TextFault
parsed_script text = all_said script_in 1 (lines text)
