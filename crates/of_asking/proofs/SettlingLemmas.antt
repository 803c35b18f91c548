-- The law `answers_settle`: each table, line by line.
use Rattle.std.proofs.Common.{◌≡◌, ℕ, suc, Bool, true, false, List, [], ◌∷◌, length, drop, nat_le, nat_lt}
use Rattle.std.proofs.Common.{Some, None, Result, Err, refl, arith, if◌then◌else◌}
use Rattle.std.specs.Prelude.{◌&&◌}
use Rattle.std.proofs.lemmas.Bool.Decides.{nat_tests}
use Rattle.of_cells.specs.declared.cells.Cell.{Cell}
use Rattle.of_cells.specs.Numbers.{flag}
use Rattle.of_stacks.specs.declared.throws.Throw.{Throw}
use Rattle.of_stacks.specs.Order.{fault_if, refused_if}
use Rattle.of_stacks.specs.Stacks.{within}
use Rattle.of_stacks.specs.Throws.{misaligned, stack_overflow}
use Rattle.of_fcodes.specs.declared.words.DevicesWord.{DevicesWord}
use Rattle.of_fcodes.specs.declared.words.DevicesWord.TheVariants as word
use Rattle.of_fcodes.specs.declared.words.KeysWord.{KeysWord}
use Rattle.of_fcodes.specs.declared.words.KeysWord.TheVariants.{KeyReady, Key}
use Rattle.of_memory.specs.declared.width.Width.{Width}
use Rattle.of_memory.specs.declared.width.Width.TheVariants.{One, Two, Four}
use Rattle.of_prims.specs.Data.{number}
use Rattle.of_board.specs.declared.board.Board.{Board}
use Rattle.of_asking.specs.declared.query.Query.{Query}
use Rattle.of_asking.specs.declared.query.Query.TheVariants as query
use Rattle.of_asking.specs.declared.query.Answer.{Answer}
use Rattle.of_asking.specs.declared.query.Answer.TheVariants.{Value, Done, BusFault}
use Rattle.of_asking.specs.Devices.{at_device, devices_entry, is_aligned, is_device, peek_entry, poke_entry, read_entry}
use Rattle.of_asking.specs.Devices.{write_entry}
use Rattle.of_asking.specs.Keys.{keys_entry, one_more, wait_entry}
use Rattle.of_asking.specs.Questions.{Asking, Gives, answered, asked, fits}
use Rattle.of_asking.specs.Settling.{AnswersSettle, Settles, refusal, throw_in}

-- a test that doesn't look at the answer
either : (c : Bool) (b : Board) (answer : Answer) (x y u v : Asking Board) → Settles b answer x u → Settles b answer y v
    → Settles b answer (if c then x else y) (if c then u else v)
either true b answer x y u v h k = h
either false b answer x y u v h k = k

device : (w : Width) (a : ℕ) (q : Query) (b : Board) (answer : Answer) (r : Result Board Throw)
    → Settles b answer (if is_device a w then at_device a w (asked q None b) else Gives r)
    (if is_device a w then at_device a w (asked q (Some answer) b) else Gives r)
device w a q b answer r =
    either (is_device a w) b answer (at_device a w (asked q None b)) (Gives r)
    (at_device a w (asked q (Some answer) b)) (Gives r)
    (either (is_aligned a w) b answer (asked q None b) (Gives (Err misaligned)) (asked q (Some answer) b)
    (Gives (Err misaligned)) refl refl)
    refl

reads : (w : Width) (s : List Cell) (b : Board) (answer : Answer)
    → Settles b answer (read_entry w s None b) (read_entry w s (Some answer) b)
reads w [] b answer = refl
reads w (a ∷ s) b answer = device w a.0 _ b answer _

writes : (w : Width) (s : List Cell) (b : Board) (answer : Answer)
    → Settles b answer (write_entry w s None b) (write_entry w s (Some answer) b)
writes w [] b answer = refl
writes w (a ∷ []) b answer = refl
writes w (a ∷ x ∷ s) b answer = device w a.0 _ b answer _

peeks : (w : Width) (s : List Cell) (b : Board) (answer : Answer)
    → Settles b answer (peek_entry w s None b) (peek_entry w s (Some answer) b)
peeks w [] b answer = refl
peeks w (a ∷ s) b answer = device w a.0 _ b answer _

pokes : (w : Width) (s : List Cell) (b : Board) (answer : Answer)
    → Settles b answer (poke_entry w s None b) (poke_entry w s (Some answer) b)
pokes w [] b answer = refl
pokes w (a ∷ []) b answer = refl
pokes w (a ∷ x ∷ s) b answer = device w a.0 _ b answer _

one : (q : Query) (b : Board) (answer : Answer) → Settles b answer (one_more q None b) (one_more q (Some answer) b)
one q b answer = either (nat_le 256 (length b.stack)) b answer _ _ _ _ refl refl

waits : (s : List Cell) (b : Board) (answer : Answer)
    → Settles b answer (wait_entry s None b) (wait_entry s (Some answer) b)
waits [] b answer = refl
waits (n ∷ s) b answer = refl

devices : (w : DevicesWord) (answer : Answer) (b : Board)
    → Settles b answer (devices_entry w None b) (devices_entry w (Some answer) b)
unfolding devices_entry
devices word.PeekByte answer b = peeks One b.stack b answer
devices word.PeekWord answer b = peeks Two b.stack b answer
devices word.PeekLong answer b = peeks Four b.stack b answer
devices word.PokeByte answer b = pokes One b.stack b answer
devices word.PokeWord answer b = pokes Two b.stack b answer
devices word.PokeLong answer b = pokes Four b.stack b answer
devices word.ReadByte answer b = reads One b.stack b answer
devices word.ReadWord answer b = reads Two b.stack b answer
devices word.ReadLong answer b = reads Four b.stack b answer
devices word.WriteByte answer b = writes One b.stack b answer
devices word.WriteWord answer b = writes Two b.stack b answer
devices word.WriteLong answer b = writes Four b.stack b answer
devices word.Milliseconds answer b = one query.Milliseconds b answer
devices word.Wait answer b = waits b.stack b answer

keys : (w : KeysWord) (answer : Answer) (b : Board)
    → Settles b answer (keys_entry w None b) (keys_entry w (Some answer) b)
unfolding keys_entry
keys KeyReady answer b = one query.KeyReady b answer
keys Key answer b = one query.Key b answer

-- ---- throws

refused : {A : Type 0} (c : Bool) (t : Throw) (x : A) → throw_in (refused_if c t x) ≡ fault_if c t
refused true t x = refl
refused false t x = refl

same_room : (n : ℕ) → nat_lt 256 (suc (suc n)) ≡ nat_le 256 (suc n)
same_room n = grind (arith, nat_tests)

room : (x : ℕ) (s : List Cell)
    → throw_in (within (flag true ∷ number x ∷ drop 1 s)) ≡ fault_if (true && nat_le 256 (length s)) stack_overflow
room x [] = refl
room x (a ∷ s) =
    rw (same_room (length s)) (refused (nat_le 256 (suc (length s))) stack_overflow (flag true ∷ number x ∷ s))

throws : (q : Query) (answer : Answer) (s : List Cell) → fits q answer ≡ true
    → throw_in (answered q answer s) ≡ refusal q answer s
throws (query.Read w a) (Value x) s fit = refl
throws (query.Read w a) Done s fit = absurd cc
throws (query.Read w a) BusFault s fit = refl
throws (query.Write w a y) (Value x) s fit = absurd cc
throws (query.Write w a y) Done s fit = refl
throws (query.Write w a y) BusFault s fit = refl
throws (query.Peek w a) (Value x) s fit = room x s
throws (query.Peek w a) Done s fit = absurd cc
throws (query.Peek w a) BusFault s fit = refl
throws (query.Poke w a y) (Value x) s fit = absurd cc
throws (query.Poke w a y) Done s fit = refl
throws (query.Poke w a y) BusFault s fit = refl
throws query.Key (Value x) s fit = refl
throws query.Key Done s fit = absurd cc
throws query.Key BusFault s fit = absurd cc
throws query.KeyReady (Value x) s fit = refl
throws query.KeyReady Done s fit = absurd cc
throws query.KeyReady BusFault s fit = absurd cc
throws query.Milliseconds (Value x) s fit = refl
throws query.Milliseconds Done s fit = absurd cc
throws query.Milliseconds BusFault s fit = absurd cc
throws (query.Wait n) (Value x) s fit = absurd cc
throws (query.Wait n) Done s fit = refl
throws (query.Wait n) BusFault s fit = absurd cc

pub answers_settle : AnswersSettle
answers_settle = record { devices = devices; keys = keys; throws = throws }
