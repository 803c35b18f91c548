-- The numbers of a physical address, one at a time.
use Rattle.std.proofs.Common.{◌≡◌, ℕ, zero, suc, ◌-◌, ◌<◌, ◌≤◌, List, [], ◌∷◌, length, Some}
use Rattle.std.proofs.Common.{None, refl, arith}
use Rattle.of_format.specs.Reading.{number_read}
use Rattle.of_nodes.specs.Texts.{before, behind}
use Rattle.of_instances.specs.InstanceWords.{number_before, numbers_read, unit_read}

pub last_read : (more : ℕ) (text : List ℕ) → more < 1
    → numbers_read more (Some text) ≡ number_before (number_read 16 text) (Some [])
last_read zero text l = refl
last_read (suc more) text l = absurd (omega arith)

pub more_read : (more : ℕ) (text : List ℕ) → 1 ≤ more
    → numbers_read more (Some text)
    ≡ number_before (number_read 16 (before 44 text)) (numbers_read (more - 1) (behind 44 text))
more_read zero text l = absurd (omega arith)
more_read (suc more) text l = let e : suc more - 1 ≡ more = omega arith in rw e refl

-- an address of so many cells, where its text isn't empty
pub unit_numbers : (count : ℕ) (text : List ℕ) → 1 ≤ count → 1 ≤ length text
    → unit_read count text ≡ numbers_read (count - 1) (Some text)
unit_numbers count [] l some = absurd (omega arith)
unit_numbers zero (b ∷ text) l some = absurd (omega arith)
unit_numbers (suc more) (b ∷ text) l some = let e : suc more - 1 ≡ more = omega arith in rw e refl

pub unit_none : (count : ℕ) (text : List ℕ) → count < 1 → 1 ≤ length text → unit_read count text ≡ None
unit_none count [] l some = absurd (omega arith)
unit_none zero (b ∷ text) l some = refl
unit_none (suc more) (b ∷ text) l some = absurd (omega arith)
