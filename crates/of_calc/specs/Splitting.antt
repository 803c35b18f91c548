-- What each word of the group Splitting makes of the data stack, the top first, or what it throws
-- (IEEE 1275-1994, annex A). Inputs are cut to their width.
use Rattle.std.specs.Prelude.{List, ◌∷◌, Result, Ok, Err}
use Rattle.of_cells.specs.declared.cells.Cell.{Cell}
use Rattle.of_cells.specs.Splitting.{low_byte, second_byte, third_byte, high_byte, low_half, high_half, half_of}
use Rattle.of_cells.specs.Splitting.{cell_of_halves, cell_of_bytes, flipped_half, flipped_halves, flipped_bytes}
use Rattle.of_stacks.specs.declared.throws.Throw.{Throw}
use Rattle.of_stacks.specs.Throws.{stack_underflow}
use Rattle.of_stacks.specs.Stacks.{within}
use Rattle.of_fcodes.specs.declared.words.SplittingWord.{SplittingWord}
use Rattle.of_fcodes.specs.declared.words.SplittingWord.TheVariants.{Lwsplit, Wljoin, Lbsplit, Bljoin, Wbsplit, Bwjoin}
use Rattle.of_fcodes.specs.declared.words.SplittingWord.TheVariants.{Wbflip, Lwflip, Lbflip}

-- the table, a word a line
unfoldable pub splitting_entry : SplittingWord → List Cell → Result (List Cell) Throw
splitting_entry Lwsplit (x ∷ s) = within (high_half x ∷ low_half x ∷ s)
splitting_entry Wljoin (high ∷ low ∷ s) = Ok (cell_of_halves low high ∷ s)
splitting_entry Lbsplit (x ∷ s) = within (high_byte x ∷ third_byte x ∷ second_byte x ∷ low_byte x ∷ s)
splitting_entry Bljoin (high ∷ third ∷ second ∷ low ∷ s) = Ok (cell_of_bytes low second third high ∷ s)
splitting_entry Wbsplit (x ∷ s) = within (second_byte x ∷ low_byte x ∷ s)
splitting_entry Bwjoin (high ∷ low ∷ s) = Ok (half_of low high ∷ s)
splitting_entry Wbflip (x ∷ s) = Ok (flipped_half x ∷ s)
splitting_entry Lwflip (x ∷ s) = Ok (flipped_halves x ∷ s)
splitting_entry Lbflip (x ∷ s) = Ok (flipped_bytes x ∷ s)
-- every other stack is too short
splitting_entry _ _ = Err stack_underflow
