-- What calculations and comparisons make of the stack, by their shapes.
use Rattle.std.proofs.Common.{◌≡◌, List, refl}
use Rattle.of_cells.specs.declared.cells.Cell.{Cell}
use Rattle.of_calc.specs.Arithmetic.{Calculation, OfOne, OfTwo, Quotient, Parts, Wide, WideParts, OfDoubles, calculated}
use Rattle.of_calc.specs.Comparing.{Comparison, FlagOfOne, FlagOfTwo, FlagOfThree, compared}
use Rattle.of_calc.specs.Shapes.{shape_of, made, taken_by, flagged}

pub calculated_made : (c : Calculation) (s : List Cell) → calculated c s ≡ made (shape_of c) c s
calculated_made (OfOne f) s = refl
calculated_made (OfTwo f) s = refl
calculated_made (Quotient f) s = refl
calculated_made (Parts rest f) s = refl
calculated_made (Wide f) s = refl
calculated_made (WideParts rest f) s = refl
calculated_made (OfDoubles f) s = refl

pub compared_flagged : (c : Comparison) (s : List Cell) → compared c s ≡ flagged (taken_by c) c s
compared_flagged (FlagOfOne p) s = refl
compared_flagged (FlagOfTwo p) s = refl
compared_flagged (FlagOfThree p) s = refl
