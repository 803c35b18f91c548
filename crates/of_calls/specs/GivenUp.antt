-- Where a script of a debugger is given up.
use Rattle.std.specs.Prelude.{ℕ, Option, Some, None}
use Rattle.of_calls.specs.declared.script_fault.ScriptFault.{ScriptFault}
use Rattle.of_calls.specs.declared.script_fault.ScriptFault.TheVariants as fault

-- the line of the command
abbrev pub line_of : ScriptFault → Option ℕ
line_of (fault.Unknown line) = Some line
line_of (fault.NoWord line) = Some line
line_of (fault.NoItem line) = Some line
line_of (fault.TooMany line) = Some line
line_of fault.NoMemory = None
