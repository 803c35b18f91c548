-- The law `asking_words_throw_listed`: each table's own throws, line by line.
use Rattle.std.proofs.Common.{ℕ, Bool, true, false, List, [], ◌∷◌, length, drop, nat_le, nat_lt}
use Rattle.std.proofs.Common.{Option, Some, None, Result, Ok, Err, refl, if◌then◌else◌}
use Rattle.of_cells.specs.declared.cells.Cell.{Cell}
use Rattle.of_cells.specs.Numbers.{flag}
use Rattle.of_stacks.specs.declared.throws.Throw.{Throw}
use Rattle.of_stacks.specs.Order.{refused_if}
use Rattle.of_stacks.specs.Stacks.{within}
use Rattle.of_stacks.specs.Throws.{ThrowsListed, is_listed, listed_numbers, misaligned, stack_overflow}
use Rattle.of_fcodes.specs.declared.words.DevicesWord.{DevicesWord}
use Rattle.of_fcodes.specs.declared.words.DevicesWord.TheVariants as word
use Rattle.of_fcodes.specs.declared.words.KeysWord.{KeysWord}
use Rattle.of_fcodes.specs.declared.words.KeysWord.TheVariants.{KeyReady, Key}
use Rattle.of_fcodes.specs.declared.words.MemoryWord.{MemoryWord}
use Rattle.of_fcodes.specs.declared.words.PrimitiveWord.TheVariants.{Memory}
use Rattle.of_memory.specs.Access.{read, write}
use Rattle.of_memory.specs.DataSpace.{DataSpace}
use Rattle.of_memory.specs.declared.fault.MemFault.{MemFault}
use Rattle.of_memory.specs.declared.fault.MemFault.TheVariants.{Address, Alignment, ReadOnly, Full, BadBlock, NoMemory}
use Rattle.of_memory.specs.declared.width.Width.{Width}
use Rattle.of_memory.specs.declared.width.Width.TheVariants.{One, Two, Four}
use Rattle.of_prims.specs.Data.{Data, Space, data_of, number}
use Rattle.of_prims.specs.Listed.{ThrowListedNumbers as PrimsThrowListed}
use Rattle.of_prims.specs.Memory.{memory_entry}
use Rattle.of_prims.specs.Prims.{in_space}
use Rattle.of_board.specs.declared.board.Board.{Board}
use Rattle.of_asking.specs.declared.query.Query.{Query}
use Rattle.of_asking.specs.declared.query.Query.TheVariants as query
use Rattle.of_asking.specs.declared.query.Answer.{Answer}
use Rattle.of_asking.specs.declared.query.Answer.TheVariants.{Value, Done, BusFault}
use Rattle.of_asking.specs.Devices.{at_device, cut, devices_entry, failed, fetch_of, in_memory, is_aligned, is_device}
use Rattle.of_asking.specs.Devices.{peek_entry, peeked, poke_entry, poked, read_entry, space_left, store_of}
use Rattle.of_asking.specs.Devices.{write_entry}
use Rattle.of_asking.specs.Keys.{keys_entry, one_more, wait_entry}
use Rattle.of_asking.specs.Listed.{AsksOrThrowsListed, ThrowListedNumbers}
use Rattle.of_asking.specs.Questions.{Asking, Gives, answered, asked, done_left, peek_left, poke_left, ready_left}
use Rattle.of_board.specs.Left.{stack_left}
use Rattle.of_asking.specs.Questions.{value_left}

-- ---- answers

values : (s : List Cell) (answer : Answer) → ThrowsListed (value_left s answer)
unfolding is_listed listed_numbers
values s (Value x) = tt
values s Done = refl
values s BusFault = refl

flags : (s : List Cell) (answer : Answer) → ThrowsListed (ready_left s answer)
unfolding is_listed listed_numbers
flags s (Value x) = tt
flags s Done = refl
flags s BusFault = refl

ends : (s : List Cell) (answer : Answer) → ThrowsListed (done_left s answer)
unfolding is_listed listed_numbers
ends s (Value x) = refl
ends s Done = tt
ends s BusFault = refl

full : {A : Type 0} (c : Bool) (x : A) → ThrowsListed (refused_if c stack_overflow x)
unfolding is_listed listed_numbers
full true x = refl
full false x = tt

fits : (s : List Cell) → ThrowsListed (within s)
fits s = full (nat_lt 256 (length s)) s

found : (s : List Cell) (answer : Answer) → ThrowsListed (peek_left s answer)
found s (Value x) = fits (flag true ∷ number x ∷ s)
found s Done = tt
found s BusFault = tt

written : (s : List Cell) (answer : Answer) → ThrowsListed (poke_left s answer)
written s (Value x) = tt
written s Done = tt
written s BusFault = tt

answers : (q : Query) (answer : Answer) (s : List Cell) → ThrowsListed (answered q answer s)
answers (query.Read w a) answer s = values (drop 1 s) answer
answers (query.Write w a x) answer s = ends (drop 2 s) answer
answers (query.Peek w a) answer s = found (drop 1 s) answer
answers (query.Poke w a x) answer s = written (drop 2 s) answer
answers query.Key answer s = values s answer
answers query.KeyReady answer s = flags s answer
answers query.Milliseconds answer s = values s answer
answers (query.Wait n) answer s = ends (drop 1 s) answer

left : (b : Board) (r : Result (List Cell) Throw) → ThrowsListed r → ThrowsListed (stack_left b r)
left b (Ok s) h = tt
left b (Err t) h = h

questions : (q : Query) (reply : Option Answer) (b : Board) → AsksOrThrowsListed (asked q reply b)
questions q None b = tt
questions q (Some answer) b = left b (answered q answer b.stack) (answers q answer b.stack)

-- ---- tests

either : (c : Bool) (x y : Asking Board) → AsksOrThrowsListed x → AsksOrThrowsListed y
    → AsksOrThrowsListed (if c then x else y)
either true x y h k = h
either false x y h k = k

at : (w : Width) (a : ℕ) (x : Asking Board) → AsksOrThrowsListed x → AsksOrThrowsListed (at_device a w x)
unfolding is_listed listed_numbers
at w a x h = either (is_aligned a w) x (Gives (Err misaligned)) h refl

device : (w : Width) (a : ℕ) (q : Query) (reply : Option Answer) (b : Board) (y : Asking Board) → AsksOrThrowsListed y
    → AsksOrThrowsListed (if is_device a w then at_device a w (asked q reply b) else y)
device w a q reply b y k =
    either (is_device a w) (at_device a w (asked q reply b)) y (at w a (asked q reply b) (questions q reply b)) k

-- ---- the data space

space : (b : Board) (d : Data) (r : Result Space Throw) → ThrowsListed (in_space d r) → ThrowsListed (space_left b r)
space b d (Ok x) h = tt
space b d (Err t) h = h

memory : (g : PrimsThrowListed) (w : MemoryWord) (b : Board) → AsksOrThrowsListed (in_memory w b)
memory g w b =
    let d = data_of b.stack b.memory 0 in
    space b d (memory_entry w b.stack b.memory) (g.words (Memory w) d)

faults : (s : List Cell) (fault : MemFault) → ThrowsListed (failed s fault)
unfolding is_listed listed_numbers
faults s Address = tt
faults s Alignment = refl
faults s ReadOnly = tt
faults s Full = tt
faults s BadBlock = tt
faults s NoMemory = tt

peeks_there : (s : List Cell) (r : Result ℕ MemFault) → ThrowsListed (peeked s r)
peeks_there s (Ok n) = fits (flag true ∷ number n ∷ s)
peeks_there s (Err fault) = faults s fault

pokes_there : (s : List Cell) (b : Board) (r : Result DataSpace MemFault) → ThrowsListed (poked s b r)
pokes_there s b (Ok m) = tt
pokes_there s b (Err fault) = left b (failed s fault) (faults s fault)

-- ---- words

reads : (g : PrimsThrowListed) (w : Width) (s : List Cell) (reply : Option Answer) (b : Board)
    → AsksOrThrowsListed (read_entry w s reply b)
unfolding is_listed listed_numbers
reads g w [] reply b = refl
reads g w (a ∷ s) reply b = device w a.0 (query.Read w a) reply b _ (memory g (fetch_of w) b)

writes : (g : PrimsThrowListed) (w : Width) (s : List Cell) (reply : Option Answer) (b : Board)
    → AsksOrThrowsListed (write_entry w s reply b)
unfolding is_listed listed_numbers
writes g w [] reply b = refl
writes g w (a ∷ []) reply b = refl
writes g w (a ∷ x ∷ s) reply b = device w a.0 (query.Write w a (cut w x)) reply b _ (memory g (store_of w) b)

peeks : (w : Width) (s : List Cell) (reply : Option Answer) (b : Board) → AsksOrThrowsListed (peek_entry w s reply b)
unfolding is_listed listed_numbers
peeks w [] reply b = refl
peeks w (a ∷ s) reply b =
    let r = peeked s (read w b.memory a.0) in
    device w a.0 (query.Peek w a) reply b (Gives (stack_left b r))
    (left b r (peeks_there s (read w b.memory a.0)))

pokes : (w : Width) (s : List Cell) (reply : Option Answer) (b : Board) → AsksOrThrowsListed (poke_entry w s reply b)
unfolding is_listed listed_numbers
pokes w [] reply b = refl
pokes w (a ∷ []) reply b = refl
pokes w (a ∷ x ∷ s) reply b =
    let r = write w b.memory a.0 (cut w x).0 in
    device w a.0 (query.Poke w a (cut w x)) reply b (Gives (poked s b r)) (pokes_there s b r)

one : (q : Query) (reply : Option Answer) (b : Board) → AsksOrThrowsListed (one_more q reply b)
unfolding is_listed listed_numbers
one q reply b =
    either (nat_le 256 (length b.stack)) (Gives (Err stack_overflow)) (asked q reply b) refl (questions q reply b)

waits : (s : List Cell) (reply : Option Answer) (b : Board) → AsksOrThrowsListed (wait_entry s reply b)
unfolding is_listed listed_numbers
waits [] reply b = refl
waits (n ∷ s) reply b = questions (query.Wait n) reply b

devices : (g : PrimsThrowListed) (w : DevicesWord) (reply : Option Answer) (b : Board)
    → AsksOrThrowsListed (devices_entry w reply b)
unfolding devices_entry
devices g word.PeekByte reply b = peeks One b.stack reply b
devices g word.PeekWord reply b = peeks Two b.stack reply b
devices g word.PeekLong reply b = peeks Four b.stack reply b
devices g word.PokeByte reply b = pokes One b.stack reply b
devices g word.PokeWord reply b = pokes Two b.stack reply b
devices g word.PokeLong reply b = pokes Four b.stack reply b
devices g word.ReadByte reply b = reads g One b.stack reply b
devices g word.ReadWord reply b = reads g Two b.stack reply b
devices g word.ReadLong reply b = reads g Four b.stack reply b
devices g word.WriteByte reply b = writes g One b.stack reply b
devices g word.WriteWord reply b = writes g Two b.stack reply b
devices g word.WriteLong reply b = writes g Four b.stack reply b
devices g word.Milliseconds reply b = one query.Milliseconds reply b
devices g word.Wait reply b = waits b.stack reply b

keys : (w : KeysWord) (reply : Option Answer) (b : Board) → AsksOrThrowsListed (keys_entry w reply b)
unfolding keys_entry
keys KeyReady reply b = one query.KeyReady reply b
keys Key reply b = one query.Key reply b

pub throw_listed_numbers : PrimsThrowListed → ThrowListedNumbers
throw_listed_numbers g = record { devices = devices g; keys = keys }
