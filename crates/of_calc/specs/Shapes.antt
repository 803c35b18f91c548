-- Calculations and comparisons by their shapes: how many cells they take, and what they make of these.
use Rattle.std.specs.Prelude.{Bool, false, List, Result}
use Rattle.of_cells.specs.declared.cells.Cell.{Cell}
use Rattle.of_cells.specs.declared.doubles.Double.{Double}
use Rattle.of_stacks.specs.declared.throws.Throw.{Throw}
use Rattle.of_calc.specs.Arithmetic.{Calculation, OfOne, OfTwo, Quotient, Parts, Wide, WideParts, OfDoubles, double_of}
use Rattle.of_calc.specs.Arithmetic.{one_made, two_made, quotient_made, parts_made, wide_made, wide_parts_made}
use Rattle.of_calc.specs.Arithmetic.{doubles_made}
use Rattle.of_calc.specs.Comparing.{Comparison, FlagOfOne, FlagOfTwo, FlagOfThree, flag_of_one, flag_of_two}
use Rattle.of_calc.specs.Comparing.{flag_of_three}
use Rattle.of_calc.specs.declared.shapes.Shape.{Shape}
use Rattle.of_calc.specs.declared.shapes.Shape.TheVariants as shape
use Rattle.of_calc.specs.declared.shapes.Taken.{Taken}
use Rattle.of_calc.specs.declared.shapes.Taken.TheVariants.{One, Two, Three}

-- ---- calculations

-- the shape of a calculation
abbrev pub shape_of : Calculation → Shape
shape_of (OfOne f) = shape.One
shape_of (OfTwo f) = shape.Two
shape_of (Quotient f) = shape.Quotient
shape_of (Parts rest f) = shape.Parts
shape_of (Wide f) = shape.Wide
shape_of (WideParts rest f) = shape.WideParts
shape_of (OfDoubles f) = shape.Doubles

-- what a calculation of each shape gives; those of other shapes are not asked
abbrev pub of_one : Calculation → Cell → Cell
of_one (OfOne f) x = f x
of_one _ x = x

abbrev pub of_two : Calculation → Cell → Cell → Cell
of_two (OfTwo f) x y = f x y
of_two _ x y = x

abbrev pub quotient_of : Calculation → Cell → Cell → Cell
quotient_of (Quotient f) n d = f n d
quotient_of (Parts rest f) n d = f n d
quotient_of _ n d = n

abbrev pub rest_of : Calculation → Cell → Cell → Cell
rest_of (Parts rest f) n d = rest n d
rest_of _ n d = n

abbrev pub wide_of : Calculation → Cell → Cell → Double
wide_of (Wide f) x y = f x y
wide_of _ x y = double_of x y

abbrev pub wide_quotient_of : Calculation → Double → Cell → Cell
wide_quotient_of (WideParts rest f) n d = f n d
wide_quotient_of _ n d = d

abbrev pub wide_rest_of : Calculation → Double → Cell → Cell
wide_rest_of (WideParts rest f) n d = rest n d
wide_rest_of _ n d = d

abbrev pub of_doubles : Calculation → Double → Double → Double
of_doubles (OfDoubles f) x y = f x y
of_doubles _ x y = x

-- what a calculation of a shape makes of the stack
abbrev pub made : Shape → Calculation → List Cell → Result (List Cell) Throw
made shape.One c s = one_made (of_one c) s
made shape.Two c s = two_made (of_two c) s
made shape.Quotient c s = quotient_made (quotient_of c) s
made shape.Parts c s = parts_made (rest_of c) (quotient_of c) s
made shape.Wide c s = wide_made (wide_of c) s
made shape.WideParts c s = wide_parts_made (wide_rest_of c) (wide_quotient_of c) s
made shape.Doubles c s = doubles_made (of_doubles c) s

-- ---- comparisons

-- how many cells a comparison takes
abbrev pub taken_by : Comparison → Taken
taken_by (FlagOfOne p) = One
taken_by (FlagOfTwo p) = Two
taken_by (FlagOfThree p) = Three

-- when the flag of a comparison of one, two or three cells is true; others are not asked
abbrev pub holds_of_one : Comparison → Cell → Bool
holds_of_one (FlagOfOne p) x = p x
holds_of_one _ x = false

abbrev pub holds_of_two : Comparison → Cell → Cell → Bool
holds_of_two (FlagOfTwo p) x y = p x y
holds_of_two _ x y = false

abbrev pub holds_of_three : Comparison → Cell → Cell → Cell → Bool
holds_of_three (FlagOfThree p) n low high = p n low high
holds_of_three _ n low high = false

-- what a comparison of so many cells makes of the stack
abbrev pub flagged : Taken → Comparison → List Cell → Result (List Cell) Throw
flagged One c s = flag_of_one (holds_of_one c) s
flagged Two c s = flag_of_two (holds_of_two c) s
flagged Three c s = flag_of_three (holds_of_three c) s
