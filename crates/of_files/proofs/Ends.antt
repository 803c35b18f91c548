-- How the program ends with a fault.
use Rattle.std.proofs.Common.{◌≡◌, false, refl}
use Rattle.of_refusal.specs.declared.refusal.Refusal.TheVariants as refusal
use Rattle.of_tok.specs.declared.fault.TokFault.TheVariants as tok
use Rattle.of_files.specs.Faults.{is_done, status_of}
use Rattle.of_files.specs.declared.fault.Fault.{Fault}
use Rattle.of_files.specs.declared.fault.Fault.TheVariants as fault

-- a fault ends no command as done
pub not_done : (f : Fault) → is_done (status_of f) ≡ false
not_done fault.ArgumentNotText = refl
not_done fault.NoMemory = refl
not_done (fault.Refused refusal.NoMemory) = refl
not_done (fault.NoImage tok.NoMemory) = refl
not_done (fault.Unopened code) = refl
not_done (fault.Unread code) = refl
not_done fault.Endless = refl
not_done (fault.BadDigit place byte) = refl
not_done fault.OddDigits = refl
not_done (fault.TooLong length) = refl
not_done (fault.Refused refusal.Busy) = refl
not_done (fault.Refused refusal.NotAsked) = refl
not_done (fault.Refused refusal.WrongAnswer) = refl
not_done (fault.Refused refusal.ImageTooLong) = refl
not_done (fault.Refused refusal.LineTooLong) = refl
not_done (fault.Refused (refusal.BadStart f)) = refl
not_done (fault.Refused refusal.NoNode) = refl
not_done (fault.Unlisted f) = refl
not_done (fault.NoSource place f) = refl
not_done (fault.OffsetTooLong place) = refl
not_done (fault.NoImage (tok.OffsetTooLong at)) = refl
not_done (fault.NoImage tok.TooManyWords) = refl
not_done (fault.NoImage tok.ImageTooLong) = refl
not_done (fault.NoCalls f) = refl
not_done (fault.NoAnswers f) = refl
not_done (fault.NoBoard f) = refl
not_done (fault.NoLines f) = refl
not_done (fault.NoScript f) = refl
not_done (fault.GivenUp f) = refl
not_done (fault.NoRom f) = refl
not_done fault.NoProgram = refl
not_done fault.NoWord = refl
not_done fault.OutputIsSource = refl
not_done fault.BadLimit = refl
not_done fault.Uncaught = refl
not_done fault.TwoProducts = refl
not_done fault.TwoOutsides = refl
not_done fault.TwoListings = refl
not_done fault.NoGuide = refl
not_done (fault.Unwritten code) = refl
not_done (fault.Unkept code) = refl
