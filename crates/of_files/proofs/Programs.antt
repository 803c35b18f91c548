-- A file of a ROM that was read.
use Rattle.std.proofs.Common.{◌≡◌, ◌≤◌, ◌⊎◌, ◌∙◌, ℕ, List, length, Option, Some, None, IfSome, subst, sym, inl, inr}
use Rattle.of_arguments.specs.declared.status.Status.{Status}
use Rattle.of_files.specs.declared.fault.Fault.{Fault}
use Rattle.of_files.specs.declared.fault.Fault.TheVariants as fault
use Rattle.of_files.specs.Faults.{status_of}
use Rattle.of_files.specs.Files.{IsUnread}
use Rattle.of_files.specs.Programs.{FaultsProgram, FaultsProgramWith, HasProgram}

-- what was read of the file has this program
pub read : (known : Option (List ℕ)) (text seen program : List ℕ) → seen ≡ text
    → IfSome known (λ bytes. text ≡ bytes) → HasProgram seen program → IfSome known (λ rom. HasProgram rom program)
read None text seen program same all has = tt
read (Some rom) text seen program same all has = subst (λ t. HasProgram t program) (same ∙ all) has

-- a file that can't be read has none
pub unread : (known : Option (List ℕ)) (f : Fault) (s : Status) → s ≡ status_of f
    → IsUnread f ⊎ (f ≡ fault.Endless) ⊎ (f ≡ fault.NoMemory)
    → (f ≡ fault.Endless → IfSome known (λ bytes. 16777216 ≤ length bytes))
    → IfSome known (λ rom. FaultsProgramWith rom s)
unread None f s ends why long = tt
unread (Some rom) f s ends (inl failed) long = (f, sym ends, inl failed)
unread (Some rom) f s ends (inr (inl endless)) long = (f, sym ends, inr (inl (endless, long endless)))
unread (Some rom) f s ends (inr (inr none)) long = (f, sym ends, inr (inr (inl none)))

-- nor has one in which there is none
pub refused : (known : Option (List ℕ)) (text seen : List ℕ) (f : Fault) (s : Status) → s ≡ status_of f
    → seen ≡ text → IfSome known (λ bytes. text ≡ bytes) → FaultsProgram seen f
    → IfSome known (λ rom. FaultsProgramWith rom s)
refused None text seen f s ends same all why = tt
refused (Some rom) text seen f s ends same all why =
    (f, sym ends, subst (λ t. FaultsProgram t f) (same ∙ all) why)
