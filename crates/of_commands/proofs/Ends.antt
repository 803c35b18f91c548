-- What was asked for was done, or the fault was said.
use Rattle.std.proofs.Common.{◌≡◌, ℕ, List, Option, Some, None, IfSome, Ok, Err, Result, refl, sym}
use Rattle.of_arguments.specs.declared.status.Status.{Status}
use Rattle.of_files.specs.Faults.{EndsWith, status_of}
use Rattle.of_files.specs.declared.fault.Fault.{Fault}

-- it was done, with this status
pub ended : (known : Option (List ℕ)) (Done : List ℕ → Result Status Fault → Type 0) (Said : Fault → Type 0)
    (s : Status) → IfSome known (λ file. Done file (Ok s)) → IfSome known (λ file. EndsWith (Done file) Said s)
ended (Some file) Done Said s does = (Ok s, refl, does, tt)
ended None Done Said s does = tt

-- or the fault was said
pub not_ended : (known : Option (List ℕ)) (Done : List ℕ → Result Status Fault → Type 0) (Said : Fault → Type 0)
    (f : Fault) (s : Status) → IfSome known (λ file. Done file (Err f)) → s ≡ status_of f → Said f
    → IfSome known (λ file. EndsWith (Done file) Said s)
not_ended (Some file) Done Said f s does ends said = (Err f, sym ends, does, said)
not_ended None Done Said f s does ends said = tt
