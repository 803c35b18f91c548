-- Where a block finds room in a list of live blocks.
use Rattle.std.specs.Prelude.{ℕ, zero, suc, ◌≤◌, ◌+◌, ◌≡◌, if◌then◌else◌, Bool, true, false, List, [], ◌∷◌, length}
use Rattle.std.specs.Prelude.{nat_lt, Some, None}
use Rattle.std.specs.List.{insert, prefix_len}
use Rattle.of_cells.specs.declared.cells.Cell.{Cell}
use Rattle.of_memory.specs.Blocks.{AreLaid, holds, IsLeastFree, least_free, rounded, with_block}
use Rattle.of_memory.specs.declared.blocks.Block.{Block}

abbrev pub block_at : ℕ → ℕ → Block
block_at a size = record { at = a; size = size }

-- a block of the size finds room at the address, after the first i blocks
pub record IsGap (low high : ℕ) (blocks : List Block) (size i a : ℕ) : Type 0 where
  pub found : least_free low high blocks size ≡ Some a
  pub least : IsLeastFree low high blocks size a
  pub index : i ≤ length blocks
  pub inserted : insert blocks i (block_at a size) ≡ with_block (block_at a size) blocks
  pub laid : AreLaid low high (with_block (block_at a size) blocks)

-- the first address from x on that no block holds, where the blocks are laid
abbrev pub reach : List Block → ℕ → ℕ
reach [] x = x
reach (b ∷ bs) x = reach bs (if holds x b then b.at + b.size else x)

-- how many of the first blocks begin before the address
abbrev pub begun : ℕ → List Block → ℕ
begun a blocks = prefix_len (λ b. nat_lt b.at a) blocks

-- blocks for all lengths find room, taken one after another
abbrev pub find_room : ℕ → ℕ → List Block → List Cell → Bool
find_room low high blocks [] = true
find_room low high blocks (n ∷ ns) =
    elim (least_free low high blocks (rounded n.0)) [
      | None ↦ false
      | Some a ↦ find_room low high (with_block (block_at a (rounded n.0)) blocks) ns
    ]

-- the first n blocks stand right behind one another from low on: there is no gap among them
abbrev pub IsFilled : ℕ → List Block → ℕ → Type 0
IsFilled low bs zero = Unit {0}
IsFilled low [] (suc n) = ⊥
IsFilled low (b ∷ bs) (suc n) = (b.at ≡ low) × IsFilled (b.at + b.size) bs n

-- where the first n blocks end; low, if there are none
abbrev pub first_end : ℕ → List Block → ℕ → ℕ
first_end low bs zero = low
first_end low [] (suc n) = low
first_end low (b ∷ bs) (suc n) = first_end (b.at + b.size) bs n
