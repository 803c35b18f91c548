-- What a call left and answered, beside the entry that says what it should: of any state, with any faults.
use Rattle.std.specs.Prelude.{◌≡◌, ◌⊎◌, Result, Ok, Err}

-- The call left what its entry gives, or has its entry's fault and changed nothing.
abbrev pub Becomes : {A S E : Type 0} → Result S E → S → S → Result A E → Type 0
Becomes entry old new (Ok x) = entry ≡ Ok new
Becomes entry old new (Err e) = (entry ≡ Err e) × (new ≡ old)

-- The call answered and left what its entry gives, or has its entry's fault and changed nothing.
abbrev pub Answers : {A S E : Type 0} → Result (A × S) E → S → S → Result A E → Type 0
Answers entry old new (Ok x) = entry ≡ Ok (x, new)
Answers entry old new (Err e) = (entry ≡ Err e) × (new ≡ old)

-- Both also where a call may be refused memory, with a fault that says so: then it changed nothing, whatever its entry
-- says.
abbrev pub MayBecome : {A S E : Type 0} → (E → Type 0) → Result S E → S → S → Result A E → Type 0
MayBecome IsForMemory entry old new (Ok x) = entry ≡ Ok new
MayBecome IsForMemory entry old new (Err e) = (new ≡ old) × (IsForMemory e ⊎ (entry ≡ Err e))

abbrev pub MayAnswer : {A S E : Type 0} → (E → Type 0) → Result (A × S) E → S → S → Result A E → Type 0
MayAnswer IsForMemory entry old new (Ok x) = entry ≡ Ok (x, new)
MayAnswer IsForMemory entry old new (Err e) = (new ≡ old) × (IsForMemory e ⊎ (entry ≡ Err e))
