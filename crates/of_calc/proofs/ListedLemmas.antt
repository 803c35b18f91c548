-- What these words throw has a listed number: each table's own throws, line by line.
use Rattle.std.proofs.Common.{◌≡◌, ℕ, Bool, true, false, List, [], ◌∷◌, length, nat_eq, nat_lt, Option, Some, None}
use Rattle.std.proofs.Common.{Result, Ok, Err, if◌then◌else◌, refl}
use Rattle.std.specs.List.{slice_get}
use Rattle.of_cells.specs.declared.cells.Cell.{Cell}
use Rattle.of_cells.specs.Numbers.{cell}
use Rattle.of_cells.specs.Splitting.{low_byte, second_byte, third_byte, high_byte, low_half, high_half}
use Rattle.of_stacks.specs.Throws.{ThrowsListed, is_listed, listed_numbers, stack_overflow, division_by_zero}
use Rattle.of_stacks.specs.Order.{refused_if}
use Rattle.of_stacks.specs.Stacks.{within}
use Rattle.of_fcodes.specs.declared.words.ArithmeticWord.{ArithmeticWord}
use Rattle.of_fcodes.specs.declared.words.ComparingWord.{ComparingWord}
use Rattle.of_fcodes.specs.declared.words.SplittingWord.{SplittingWord}
use Rattle.of_fcodes.specs.declared.words.SplittingWord.TheVariants.{Lwsplit, Wljoin, Lbsplit, Bljoin, Wbsplit, Bwjoin}
use Rattle.of_fcodes.specs.declared.words.SplittingWord.TheVariants.{Wbflip, Lwflip, Lbflip}
use Rattle.of_fcodes.specs.declared.words.StacksWord.{StacksWord}
use Rattle.of_fcodes.specs.declared.words.StacksWord.TheVariants.{Drop, Dup, Over, Swap, Rot, MinusRot, Tuck, Nip, Pick}
use Rattle.of_fcodes.specs.declared.words.StacksWord.TheVariants.{Roll, QuestionDup, Depth, TwoDrop, TwoDup, TwoOver}
use Rattle.of_fcodes.specs.declared.words.StacksWord.TheVariants.{TwoSwap, TwoRot}
use Rattle.of_calc.specs.Arithmetic.{Calculation, OfOne, OfTwo, Quotient, Parts, Wide, WideParts, OfDoubles}
use Rattle.of_calc.specs.Arithmetic.{calculation, calculated, arithmetic_entry}
use Rattle.of_calc.specs.Arranging.{arranging_entry, picked, rolled}
use Rattle.of_calc.specs.Comparing.{Comparison, FlagOfOne, FlagOfTwo, FlagOfThree, comparison, compared}
use Rattle.of_calc.specs.Comparing.{comparing_entry}
use Rattle.of_calc.specs.Splitting.{splitting_entry}
use Rattle.of_calc.specs.Listed.{ThrowListedNumbers}

full : (b : Bool) (s : List Cell) → ThrowsListed (refused_if b stack_overflow s)
unfolding is_listed listed_numbers
full true s = refl
full false s = tt

divided : (b : Bool) (s : List Cell) → ThrowsListed (refused_if b division_by_zero s)
unfolding is_listed listed_numbers
divided true s = refl
divided false s = tt

fits : (s : List Cell) → ThrowsListed (within s)
fits s = full (nat_lt 256 (length s)) s

calculates : (c : Calculation) (s : List Cell) → ThrowsListed (calculated c s)
unfolding is_listed listed_numbers
calculates (OfOne f) (x ∷ s) = tt
calculates (OfTwo f) (y ∷ x ∷ s) = tt
calculates (Quotient f) (d ∷ n ∷ s) = divided (nat_eq d.0 0) _
calculates (Parts rest f) (d ∷ n ∷ s) = divided (nat_eq d.0 0) _
calculates (Wide f) (y ∷ x ∷ s) = tt
calculates (WideParts rest f) (d ∷ high ∷ low ∷ s) = divided (nat_eq d.0 0) _
calculates (OfDoubles f) (h2 ∷ l2 ∷ h1 ∷ l1 ∷ s) = tt
calculates _ _ = refl

compares : (c : Comparison) (s : List Cell) → ThrowsListed (compared c s)
unfolding is_listed listed_numbers
compares (FlagOfOne p) (x ∷ s) = tt
compares (FlagOfTwo p) (y ∷ x ∷ s) = tt
compares (FlagOfThree p) (high ∷ low ∷ n ∷ s) = tt
compares _ _ = refl

splits : (w : SplittingWord) (s : List Cell) → ThrowsListed (splitting_entry w s)
unfolding splitting_entry is_listed listed_numbers
splits Lwsplit (x ∷ s) = fits (high_half x ∷ low_half x ∷ s)
splits Wljoin (high ∷ low ∷ s) = tt
splits Lbsplit (x ∷ s) = fits (high_byte x ∷ third_byte x ∷ second_byte x ∷ low_byte x ∷ s)
splits Bljoin (high ∷ third ∷ second ∷ low ∷ s) = tt
splits Wbsplit (x ∷ s) = fits (second_byte x ∷ low_byte x ∷ s)
splits Bwjoin (high ∷ low ∷ s) = tt
splits Wbflip (x ∷ s) = tt
splits Lwflip (x ∷ s) = tt
splits Lbflip (x ∷ s) = tt
splits _ _ = refl

picks : (found : Option Cell) (s : List Cell) → ThrowsListed (picked found s)
unfolding is_listed listed_numbers
picks (Some x) s = tt
picks None s = refl

rolls : (found : Option Cell) (u : ℕ) (s : List Cell) → ThrowsListed (rolled found u s)
unfolding is_listed listed_numbers
rolls (Some x) u s = tt
rolls None u s = refl

doubles_one : (b : Bool) (x : Cell) (s : List Cell) → ThrowsListed (if b then Ok (x ∷ s) else within (x ∷ x ∷ s))
doubles_one true x s = tt
doubles_one false x s = fits (x ∷ x ∷ s)

arranges : (w : StacksWord) (s : List Cell) → ThrowsListed (arranging_entry w s)
unfolding arranging_entry is_listed listed_numbers
arranges Drop (x ∷ s) = tt
arranges Dup (x ∷ s) = fits (x ∷ x ∷ s)
arranges Over (y ∷ x ∷ s) = fits (x ∷ y ∷ x ∷ s)
arranges Swap (y ∷ x ∷ s) = tt
arranges Rot (z ∷ y ∷ x ∷ s) = tt
arranges MinusRot (z ∷ y ∷ x ∷ s) = tt
arranges Tuck (y ∷ x ∷ s) = fits (y ∷ x ∷ y ∷ s)
arranges Nip (y ∷ x ∷ s) = tt
arranges Pick (u ∷ s) = picks (slice_get s u.0) s
arranges Roll (u ∷ s) = rolls (slice_get s u.0) u.0 s
arranges QuestionDup (x ∷ s) = doubles_one (nat_eq x.0 0) x s
arranges Depth s = fits (cell (length s) ∷ s)
arranges TwoDrop (y ∷ x ∷ s) = tt
arranges TwoDup (y ∷ x ∷ s) = fits (y ∷ x ∷ y ∷ x ∷ s)
arranges TwoOver (d ∷ c ∷ b ∷ a ∷ s) = fits (b ∷ a ∷ d ∷ c ∷ b ∷ a ∷ s)
arranges TwoSwap (d ∷ c ∷ b ∷ a ∷ s) = tt
arranges TwoRot (f ∷ e ∷ d ∷ c ∷ b ∷ a ∷ s) = tt
arranges _ _ = refl

pub throw_listed_numbers : ThrowListedNumbers
throw_listed_numbers = record {
  arithmetic = λ w s. calculates (calculation w) s;
  comparing = λ w s. compares (comparison w) s;
  splitting = splits;
  arranging = arranges;
}
