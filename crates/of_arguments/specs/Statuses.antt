-- The statuses that the program gives back.
use Rattle.std.specs.Prelude.{ℕ}
use Rattle.clap.specs.declared.error.kind.ErrorKind.{ErrorKind}
use Rattle.clap.specs.declared.error.kind.ErrorKind.TheVariants as kind
use Rattle.of_arguments.specs.declared.status.Status.{Status}
use Rattle.of_arguments.specs.declared.status.Status.TheVariants as status

-- the number that the program gives back
abbrev pub code_of : Status → ℕ
code_of status.Done = 0
code_of status.Fault = 1
code_of status.Usage = 2
code_of status.LimitReached = 3
code_of status.AnswersOut = 4
code_of status.NoMemory = 5

-- how the program ends where a command line asks for nothing
abbrev pub unasked : ErrorKind → Status
unasked kind.DisplayHelp = status.Done
unasked kind.DisplayVersion = status.Done
unasked kind.OutOfMemory = status.NoMemory
unasked _ = status.Usage
