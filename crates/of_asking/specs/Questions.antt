-- What a word asks the outside, and what an answer makes of the data stack (IEEE 1275-1994, 5.3.7.3, 5.3.7.4, annex A).
use Rattle.std.specs.Prelude.{◌≡◌, ℕ, ◌^◌, nat_lt, Bool, true, false, List, ◌∷◌, drop, Option, Some, None, Result}
use Rattle.std.specs.Prelude.{Ok, Err}
use Rattle.of_cells.specs.declared.cells.Cell.{Cell}
use Rattle.of_cells.specs.Numbers.{flag}
use Rattle.of_stacks.specs.declared.throws.Throw.{Throw}
use Rattle.of_stacks.specs.Throws.{bus_fault}
use Rattle.of_stacks.specs.declared.stop.Stop.{Stop}
use Rattle.of_stacks.specs.declared.stop.Stop.TheVariants as stop
use Rattle.of_stacks.specs.Stacks.{within}
use Rattle.of_memory.specs.declared.width.Width.{Width}
use Rattle.of_memory.specs.declared.width.Width.TheVariants.{One, Two, Four}
use Rattle.of_prims.specs.Data.{number}
use Rattle.of_board.specs.declared.board.Board.{Board}
use Rattle.of_board.specs.Left.{stack_left}
use Rattle.of_asking.specs.declared.query.Query.{Query}
use Rattle.of_asking.specs.declared.query.Query.TheVariants as query
use Rattle.of_asking.specs.declared.query.Answer.{Answer}
use Rattle.of_asking.specs.declared.query.Answer.TheVariants.{Value, Done, BusFault}
use Rattle.of_asking.specs.declared.halt.Halt.{Halt}
use Rattle.of_asking.specs.declared.halt.Halt.TheVariants as halt

-- what a word comes to: what it leaves or throws, or a question, while no answer is at hand
pub data Asking (A : Type 0) : Type 0 where
  Gives : Result A Throw → Asking A
  Asks : Query → Asking A

-- ---- which answers fit

-- the number has so many bytes at most
abbrev pub fits_width : Width → ℕ → Bool
fits_width One x = nat_lt x (2 ^ 8)
fits_width Two x = nat_lt x (2 ^ 16)
fits_width Four x = true

-- an answer to a read fits
abbrev pub fits_read : Width → Answer → Bool
fits_read w (Value x) = fits_width w x
fits_read w Done = false
fits_read w BusFault = true

-- an answer to a write fits
abbrev pub fits_write : Answer → Bool
fits_write (Value x) = false
fits_write Done = true
fits_write BusFault = true

-- the answer is a number below this one
abbrev pub is_below : ℕ → Answer → Bool
is_below limit (Value x) = nat_lt x limit
is_below limit Done = false
is_below limit BusFault = false

-- the answer says that the time is over
abbrev pub is_done : Answer → Bool
is_done (Value x) = false
is_done Done = true
is_done BusFault = false

-- an answer fits a question
abbrev pub fits : Query → Answer → Bool
fits (query.Read w a) answer = fits_read w answer
fits (query.Write w a x) answer = fits_write answer
fits (query.Peek w a) answer = fits_read w answer
fits (query.Poke w a x) answer = fits_write answer
fits query.Key answer = is_below (2 ^ 8) answer
fits query.KeyReady answer = is_below 2 answer
fits query.Milliseconds answer = is_below (2 ^ 32) answer
fits (query.Wait n) answer = is_done answer

-- ---- what an answer makes of the stack; one that doesn't fit is as a bus fault

-- ( -- x )
abbrev pub value_left : List Cell → Answer → Result (List Cell) Throw
value_left s (Value x) = Ok (number x ∷ s)
value_left s Done = Err bus_fault
value_left s BusFault = Err bus_fault

-- ( -- f )
abbrev pub ready_left : List Cell → Answer → Result (List Cell) Throw
ready_left s (Value x) = Ok (flag (nat_lt 0 x) ∷ s)
ready_left s Done = Err bus_fault
ready_left s BusFault = Err bus_fault

-- ( -- )
abbrev pub done_left : List Cell → Answer → Result (List Cell) Throw
done_left s (Value x) = Err bus_fault
done_left s Done = Ok s
done_left s BusFault = Err bus_fault

-- ( -- false ), or ( -- x true ) where there is room
abbrev pub peek_left : List Cell → Answer → Result (List Cell) Throw
peek_left s (Value x) = within (flag true ∷ number x ∷ s)
peek_left s Done = Ok (flag false ∷ s)
peek_left s BusFault = Ok (flag false ∷ s)

-- ( -- f )
abbrev pub poke_left : List Cell → Answer → Result (List Cell) Throw
poke_left s (Value x) = Ok (flag false ∷ s)
poke_left s Done = Ok (flag true ∷ s)
poke_left s BusFault = Ok (flag false ∷ s)

-- The stack that the answer to a question leaves: the operands stand there until it comes.
abbrev pub answered : Query → Answer → List Cell → Result (List Cell) Throw
answered (query.Read w a) answer s = value_left (drop 1 s) answer
answered (query.Write w a x) answer s = done_left (drop 2 s) answer
answered (query.Peek w a) answer s = peek_left (drop 1 s) answer
answered (query.Poke w a x) answer s = poke_left (drop 2 s) answer
answered query.Key answer s = value_left s answer
answered query.KeyReady answer s = ready_left s answer
answered query.Milliseconds answer s = value_left s answer
answered (query.Wait n) answer s = done_left (drop 1 s) answer

-- the question, or what the answer at hand makes of the board
abbrev pub asked : Query → Option Answer → Board → Asking Board
asked q None b = Asks q
asked q (Some answer) b = Gives (stack_left b (answered q answer b.stack))

-- ---- calls

-- why a word that doesn't ask did not run to its end
abbrev pub halted : Stop → Halt
halted (stop.Thrown t) = halt.Thrown t
halted stop.NoMemory = halt.NoMemory

-- A call of such a word gave what the entry gives, threw so, or asks; where it threw or asks, nothing has changed.
abbrev pub Tells : {A : Type 0} → Asking A → A → A → Result (Unit {0}) Halt → Type 0
Tells entry old new (Ok _) = entry ≡ Gives (Ok new)
Tells entry old new (Err (halt.Thrown t)) = (entry ≡ Gives (Err t)) × (new ≡ old)
Tells entry old new (Err halt.NoMemory) = ⊥
Tells entry old new (Err (halt.Asks q)) = (entry ≡ Asks q) × (new ≡ old)
