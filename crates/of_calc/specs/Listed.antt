-- What these words throw has a listed number.
use Rattle.std.specs.Prelude.{List}
use Rattle.of_cells.specs.declared.cells.Cell.{Cell}
use Rattle.of_stacks.specs.Throws.{ThrowsListed}
use Rattle.of_fcodes.specs.declared.words.ArithmeticWord.{ArithmeticWord}
use Rattle.of_fcodes.specs.declared.words.ComparingWord.{ComparingWord}
use Rattle.of_fcodes.specs.declared.words.SplittingWord.{SplittingWord}
use Rattle.of_fcodes.specs.declared.words.StacksWord.{StacksWord}
use Rattle.of_calc.specs.Arithmetic.{arithmetic_entry}
use Rattle.of_calc.specs.Arranging.{arranging_entry}
use Rattle.of_calc.specs.Comparing.{comparing_entry}
use Rattle.of_calc.specs.Splitting.{splitting_entry}

-- the throws of each table are listed
pub record ThrowListedNumbers : Type 0 where
  pub arithmetic : (w : ArithmeticWord) (s : List Cell) → ThrowsListed (arithmetic_entry w s)
  pub comparing : (w : ComparingWord) (s : List Cell) → ThrowsListed (comparing_entry w s)
  pub splitting : (w : SplittingWord) (s : List Cell) → ThrowsListed (splitting_entry w s)
  pub arranging : (w : StacksWord) (s : List Cell) → ThrowsListed (arranging_entry w s)
