-- A fault that was said.
use Rattle.std.proofs.Common.{◌≡◌, ℕ, List, Option, Some, IfSome, Bool, sym, subst}
use Rattle.of_files.specs.declared.fault.Fault.{Fault}
use Rattle.of_files.specs.Messages.{SaysFault, Says, bad_start_of, bad_start_text}

-- a fault of a bad start byte whose line was said was said
pub line_said : (f : Fault) (byte : ℕ) (old new : Option (List ℕ)) (failed : Bool) (line : List ℕ)
    → bad_start_of f ≡ Some byte → line ≡ bad_start_text byte → Says old new failed line → SaysFault f old new failed
line_said f byte old new failed line begins text said =
    subst (λ o. IfSome o (λ b. Says old new failed (bad_start_text b))) (sym begins)
    (subst (λ bs. Says old new failed bs) text said)
