-- What is said on the error output, and what goes out of what is written.
use Rattle.std.specs.Prelude.{ℕ, List, [], ◌∷◌, ◌++◌, take, Bool, true, false, Option, Some, None, IfSome, codes}
use Rattle.std.specs.Io.KnownBytes.{Appends}
use Rattle.hex.specs.Hex.{encode_lower}
use Rattle.of_refusal.specs.declared.refusal.Refusal.TheVariants as refusal
use Rattle.of_stream.specs.declared.fault.StreamFault.{StreamFault}
use Rattle.of_stream.specs.declared.fault.StreamFault.TheVariants as stream
use Rattle.of_files.specs.declared.fault.Fault.{Fault}
use Rattle.of_files.specs.declared.fault.Fault.TheVariants as fault

-- known bytes grow by the first of bs
abbrev pub AppendsPart : Option (List ℕ) → Option (List ℕ) → List ℕ → Type 0
AppendsPart old new bs = (n : ℕ) × Appends old new (take n bs)

-- a line went out, or where a write failed the first of it
abbrev pub Says : Option (List ℕ) → Option (List ℕ) → Bool → List ℕ → Type 0
Says old new false line = Appends old new line
Says old new true line = AppendsPart old new line

-- the byte that begins no image, where that is the fault
abbrev pub start_byte_of : StreamFault → Option ℕ
start_byte_of (stream.BadStart byte) = Some byte
start_byte_of stream.Start0 = None
start_byte_of stream.Short = None
start_byte_of (stream.Ended position) = None

-- the first byte of an image, where it is the byte that is wrong
abbrev pub bad_start_of : Fault → Option ℕ
bad_start_of (fault.Refused (refusal.BadStart f)) = start_byte_of f
bad_start_of (fault.Unlisted f) = start_byte_of f
bad_start_of _ = None

-- the line that is said of it
abbrev pub bad_start_text : ℕ → List ℕ
bad_start_text byte = codes "ofw: bad start byte " ++ encode_lower (byte ∷ []) ++ 10 ∷ []

-- a fault was said: of a bad start byte this line
abbrev pub SaysFault : Fault → Option (List ℕ) → Option (List ℕ) → Bool → Type 0
SaysFault f old new failed = IfSome (bad_start_of f) (λ byte. Says old new failed (bad_start_text byte))
