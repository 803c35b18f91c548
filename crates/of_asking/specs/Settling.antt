-- What an answer settles: with one at hand no word asks, and it decides about the data stack and about nothing else
-- (IEEE 1275-1994, 5.3.7.3 and annex A).
use Rattle.std.specs.Prelude.{◌≡◌, ◌&&◌, nat_le, Bool, true, false, List, length, Option, Some, None, Result, Ok, Err}
use Rattle.of_cells.specs.declared.cells.Cell.{Cell}
use Rattle.of_stacks.specs.declared.throws.Throw.{Throw}
use Rattle.of_stacks.specs.Order.{fault_if}
use Rattle.of_stacks.specs.Throws.{bus_fault, stack_overflow}
use Rattle.of_fcodes.specs.declared.words.DevicesWord.{DevicesWord}
use Rattle.of_fcodes.specs.declared.words.KeysWord.{KeysWord}
use Rattle.of_board.specs.declared.board.Board.{Board}
use Rattle.of_asking.specs.declared.query.Query.{Query}
use Rattle.of_asking.specs.declared.query.Query.TheVariants as query
use Rattle.of_asking.specs.declared.query.Answer.{Answer}
use Rattle.of_asking.specs.declared.query.Answer.TheVariants.{Value, Done, BusFault}
use Rattle.of_asking.specs.Devices.{devices_entry}
use Rattle.of_asking.specs.Keys.{keys_entry}
use Rattle.of_board.specs.Left.{stack_left}
use Rattle.of_asking.specs.Questions.{Asking, Asks, Gives, answered, fits}

-- What a word comes to with an answer at hand, by what it comes to without one. Where it asks, the answer makes
-- another data stack, or a throw, of the one that is there. Where it doesn't ask, the answer isn't looked at.
abbrev pub Settles : Board → Answer → Asking Board → Asking Board → Type 0
Settles b answer (Asks q) settled = settled ≡ Gives (stack_left b (answered q answer b.stack))
Settles b answer (Gives r) settled = settled ≡ Gives r

abbrev pub is_bus_fault : Answer → Bool
is_bus_fault (Value x) = false
is_bus_fault Done = false
is_bus_fault BusFault = true

abbrev pub is_value : Answer → Bool
is_value (Value x) = true
is_value Done = false
is_value BusFault = false

-- What an answer that fits throws: -258 where there is no device to read or to write, and -3 where 256 cells stand
-- and a peek found a number, which goes on the stack with a flag.
abbrev pub refusal : Query → Answer → List Cell → Option Throw
refusal (query.Read w a) answer s = fault_if (is_bus_fault answer) bus_fault
refusal (query.Write w a x) answer s = fault_if (is_bus_fault answer) bus_fault
refusal (query.Peek w a) answer s = fault_if (is_value answer && nat_le 256 (length s)) stack_overflow
refusal (query.Poke w a x) answer s = None
refusal query.Key answer s = None
refusal query.KeyReady answer s = None
refusal query.Milliseconds answer s = None
refusal (query.Wait n) answer s = None

-- the throw, if there is one
abbrev pub throw_in : {A : Type 0} → Result A Throw → Option Throw
throw_in (Ok x) = None
throw_in (Err t) = Some t

pub record AnswersSettle : Type 0 where
  pub devices : (word : DevicesWord) (answer : Answer) (b : Board) →
      Settles b answer (devices_entry word None b) (devices_entry word (Some answer) b)
  pub keys : (word : KeysWord) (answer : Answer) (b : Board) →
      Settles b answer (keys_entry word None b) (keys_entry word (Some answer) b)
  -- an answer that fits throws just so
  pub throws : (q : Query) (answer : Answer) (s : List Cell) → fits q answer ≡ true →
      throw_in (answered q answer s) ≡ refusal q answer s
