-- The faults that files have, and how the program ends with one.
use Rattle.std.specs.Prelude.{◌≡◌, Bool, true, false, IfErr, ℕ, List, Option, Result, Ok, Err, Some, None, ⊤}
use Rattle.of_arguments.specs.declared.status.Status.{Status}
use Rattle.of_arguments.specs.declared.status.Status.TheVariants as status
use Rattle.of_calls.specs.declared.fault.TextFault.{TextFault}
use Rattle.of_calls.specs.declared.fault.TextFault.TheVariants as word
use Rattle.of_refusal.specs.declared.refusal.Refusal.{Refusal}
use Rattle.of_refusal.specs.declared.refusal.Refusal.TheVariants as refusal
use Rattle.of_calls.specs.declared.script_fault.ScriptFault.{ScriptFault}
use Rattle.of_calls.specs.declared.script_fault.ScriptFault.TheVariants as script
use Rattle.of_source.specs.declared.fault.SourceFault.{SourceFault}
use Rattle.of_source.specs.declared.fault.SourceFault.TheVariants as source
use Rattle.of_source.specs.declared.place.Place.{Place}
use Rattle.of_source.specs.Places.{column_at, line_at}
use Rattle.of_tok.specs.declared.fault.TokFault.{TokFault}
use Rattle.of_tok.specs.declared.fault.TokFault.TheVariants as tok
use Rattle.of_files.specs.declared.fault.Fault.{Fault}
use Rattle.of_files.specs.declared.fault.Fault.TheVariants as fault

-- how the program ends with a fault
abbrev pub status_of : Fault → Status
status_of fault.ArgumentNotText = status.Usage
status_of fault.NoMemory = status.NoMemory
status_of (fault.Refused refusal.NoMemory) = status.NoMemory
status_of (fault.NoImage tok.NoMemory) = status.NoMemory
status_of (fault.Unopened code) = status.Fault
status_of (fault.Unread code) = status.Fault
status_of fault.Endless = status.Fault
status_of (fault.BadDigit place byte) = status.Fault
status_of fault.OddDigits = status.Fault
status_of (fault.TooLong length) = status.Fault
status_of (fault.Refused refusal.Busy) = status.Fault
status_of (fault.Refused refusal.NotAsked) = status.Fault
status_of (fault.Refused refusal.WrongAnswer) = status.Fault
status_of (fault.Refused refusal.ImageTooLong) = status.Fault
status_of (fault.Refused refusal.LineTooLong) = status.Fault
status_of (fault.Refused (refusal.BadStart f)) = status.Fault
status_of (fault.Refused refusal.NoNode) = status.Fault
status_of (fault.Unlisted f) = status.Fault
status_of (fault.NoSource place f) = status.Fault
status_of (fault.OffsetTooLong place) = status.Fault
status_of (fault.NoImage (tok.OffsetTooLong at)) = status.Fault
status_of (fault.NoImage tok.TooManyWords) = status.Fault
status_of (fault.NoImage tok.ImageTooLong) = status.Fault
status_of (fault.NoCalls f) = status.Fault
status_of (fault.NoAnswers f) = status.Fault
status_of (fault.NoBoard f) = status.Fault
status_of (fault.NoLines f) = status.Fault
status_of (fault.NoScript f) = status.Fault
status_of (fault.GivenUp f) = status.Fault
status_of (fault.NoRom f) = status.Fault
status_of fault.NoProgram = status.Fault
status_of fault.NoWord = status.Fault
status_of fault.OutputIsSource = status.Usage
status_of fault.BadLimit = status.Usage
status_of fault.Uncaught = status.Fault
status_of fault.TwoProducts = status.Usage
status_of fault.TwoOutsides = status.Usage
status_of fault.TwoListings = status.Usage
status_of fault.NoGuide = status.Usage
status_of (fault.Unwritten code) = status.Fault
status_of (fault.Unkept code) = status.Fault

-- the place in a text of calls, of answers, of devices, of lines or of commands that has a fault
abbrev pub text_place_of : TextFault → Option Place
text_place_of (word.Unknown place) = Some place
text_place_of (word.BadName place) = Some place
text_place_of (word.BadNumber place) = Some place
text_place_of (word.TooMany place) = Some place
text_place_of (word.TooLong place) = Some place
text_place_of word.NoMemory = None

-- the place in a text that has a fault
abbrev pub source_place_of : Fault → Option Place
source_place_of (fault.NoSource place f) = Some place
source_place_of (fault.OffsetTooLong place) = Some place
source_place_of (fault.NoCalls f) = text_place_of f
source_place_of (fault.NoAnswers f) = text_place_of f
source_place_of (fault.NoBoard f) = text_place_of f
source_place_of (fault.NoLines f) = text_place_of f
source_place_of (fault.NoScript f) = text_place_of f
source_place_of _ = None

-- the place of a position in a text
abbrev pub place_at : List ℕ → ℕ → Place
place_at text at = record { line = line_at text at; column = column_at text at }

-- the fault of a text that is no source
abbrev pub no_source : List ℕ → SourceFault → Fault
no_source text (source.Unclosed at) = fault.NoSource (place_at text at) (source.Unclosed at)
no_source text (source.Unknown at) = fault.NoSource (place_at text at) (source.Unknown at)
no_source text (source.BadNumber at) = fault.NoSource (place_at text at) (source.BadNumber at)
no_source text (source.TooLong at) = fault.NoSource (place_at text at) (source.TooLong at)
no_source text source.NoMemory = fault.NoMemory

-- the fault of a text whose source has no image
abbrev pub no_image : List ℕ → TokFault → Fault
no_image text (tok.OffsetTooLong at) = fault.OffsetTooLong (place_at text at)
no_image text tok.TooManyWords = fault.NoImage tok.TooManyWords
no_image text tok.ImageTooLong = fault.NoImage tok.ImageTooLong
no_image text tok.NoMemory = fault.NoMemory

-- the status with which the program ends: that of what was done, or that of the fault
abbrev pub ended_with : Result Status Fault → Status
ended_with (Ok s) = s
ended_with (Err f) = status_of f

-- the status is one of what was done
abbrev pub is_done : Status → Bool
is_done status.Done = true
is_done status.LimitReached = true
is_done status.AnswersOut = true
is_done status.Fault = false
is_done status.Usage = false
is_done status.NoMemory = false

-- the program ends with the status of what was done, or of a fault that was said
abbrev pub EndsWith : (Result Status Fault → Type 0) → (Fault → Type 0) → Status → Type 0
EndsWith Done Said s = (r : Result Status Fault) × (ended_with r ≡ s) × Done r × IfErr r Said

-- a write failed
abbrev pub IsUnwritten : Fault → Type 0
IsUnwritten (fault.Unwritten code) = ⊤
IsUnwritten _ = ⊥

-- the fault that a refusal of an image of so many bytes is
abbrev pub refused_as : ℕ → Refusal → Fault
refused_as length refusal.ImageTooLong = fault.TooLong length
refused_as length r = fault.Refused r

-- the fault of a text that has no answers
abbrev pub no_answers : TextFault → Fault
no_answers (word.Unknown place) = fault.NoAnswers (word.Unknown place)
no_answers (word.BadName place) = fault.NoAnswers (word.BadName place)
no_answers (word.BadNumber place) = fault.NoAnswers (word.BadNumber place)
no_answers (word.TooMany place) = fault.NoAnswers (word.TooMany place)
no_answers (word.TooLong place) = fault.NoAnswers (word.TooLong place)
no_answers word.NoMemory = fault.NoMemory

-- the fault of a text that has no devices
abbrev pub no_board : TextFault → Fault
no_board (word.Unknown place) = fault.NoBoard (word.Unknown place)
no_board (word.BadName place) = fault.NoBoard (word.BadName place)
no_board (word.BadNumber place) = fault.NoBoard (word.BadNumber place)
no_board (word.TooMany place) = fault.NoBoard (word.TooMany place)
no_board (word.TooLong place) = fault.NoBoard (word.TooLong place)
no_board word.NoMemory = fault.NoMemory

-- the fault of a text that has no console lines
abbrev pub no_lines : TextFault → Fault
no_lines (word.Unknown place) = fault.NoLines (word.Unknown place)
no_lines (word.BadName place) = fault.NoLines (word.BadName place)
no_lines (word.BadNumber place) = fault.NoLines (word.BadNumber place)
no_lines (word.TooMany place) = fault.NoLines (word.TooMany place)
no_lines (word.TooLong place) = fault.NoLines (word.TooLong place)
no_lines word.NoMemory = fault.NoMemory

-- the fault of a text that has no calls
abbrev pub no_calls : TextFault → Fault
no_calls (word.Unknown place) = fault.NoCalls (word.Unknown place)
no_calls (word.BadName place) = fault.NoCalls (word.BadName place)
no_calls (word.BadNumber place) = fault.NoCalls (word.BadNumber place)
no_calls (word.TooMany place) = fault.NoCalls (word.TooMany place)
no_calls (word.TooLong place) = fault.NoCalls (word.TooLong place)
no_calls word.NoMemory = fault.NoMemory

-- the fault of a text that is no script
abbrev pub no_script : TextFault → Fault
no_script (word.Unknown place) = fault.NoScript (word.Unknown place)
no_script (word.BadName place) = fault.NoScript (word.BadName place)
no_script (word.BadNumber place) = fault.NoScript (word.BadNumber place)
no_script (word.TooMany place) = fault.NoScript (word.TooMany place)
no_script (word.TooLong place) = fault.NoScript (word.TooLong place)
no_script word.NoMemory = fault.NoMemory

-- the fault of a script that was given up
abbrev pub given_up : ScriptFault → Fault
given_up (script.Unknown line) = fault.GivenUp (script.Unknown line)
given_up (script.NoWord line) = fault.GivenUp (script.NoWord line)
given_up (script.NoItem line) = fault.GivenUp (script.NoItem line)
given_up (script.TooMany line) = fault.GivenUp (script.TooMany line)
given_up script.NoMemory = fault.NoMemory
