-- What the ordinary words throw has a listed number.
use Rattle.std.proofs.Common.{ℕ, Bool, true, false, List, [], ◌∷◌, Result, Ok, Err, refl}
use Rattle.of_cells.specs.declared.cells.Cell.{Cell}
use Rattle.of_stacks.specs.declared.throws.Throw.{Throw}
use Rattle.of_stacks.specs.Throws.{ThrowsListed, is_listed, listed_numbers, invalid_argument}
use Rattle.of_stacks.specs.Order.{refused_if}
use Rattle.of_fcodes.specs.declared.words.Word.{Word}
use Rattle.of_fcodes.specs.declared.words.Word.TheVariants.{Primitive, Printing, Heap, Properties, Tree, Console}
use Rattle.of_fcodes.specs.declared.words.HeapWord.TheVariants.{AllocMem}
use Rattle.of_fcodes.specs.declared.words.PrintingWord.{PrintingWord}
use Rattle.of_fcodes.specs.declared.words.PrintingWord.TheVariants as printing
use Rattle.of_memory.specs.Access.{read_bytes}
use Rattle.of_memory.specs.BlockCalls.{heap_taken}
use Rattle.of_memory.specs.DataSpace.{DataSpace}
use Rattle.of_memory.specs.declared.fault.MemFault.{MemFault}
use Rattle.of_format.specs.Pictured.{base_in}
use Rattle.of_prims.specs.Data.{Data}
use Rattle.of_prims.specs.Listed.{ThrowListedNumbers}
use Rattle.of_prims.specs.Prims.{prim_entry}
use Rattle.of_instances.specs.Listed.{ThrowListedNumbers as TreeWordsListed}
use Rattle.of_board.specs.declared.board.Board.{Board}
use Rattle.of_words.specs.Listed.{ThrowListedNumbers as ConsoleWordsListed}
use Rattle.of_words.specs.declared.printing.Signs.{Signs}
use Rattle.of_words.specs.declared.printing.Signs.TheVariants.{Signed, Unsigned}
use Rattle.of_words.specs.Words.{number_entry, right_entry, dot_stack_entry, emit_entry, type_read, type_entry}
use Rattle.of_words.specs.Words.{block_taken, alloc_entry, printing_entry, with_data, data_in}
use Rattle.of_words.specs.Words.{word_entry}
use Rattle.of_eval_laws.specs.Listed.{WordsThrowListed}

base_if : (b : Bool) (n : ℕ) → ThrowsListed (refused_if b invalid_argument n)
unfolding is_listed listed_numbers
base_if true n = refl
base_if false n = tt

bases : (m : DataSpace) → ThrowsListed (base_in m)
bases m = base_if _ _

numbers : (signs : Signs) (b : Result ℕ Throw) (s : List Cell) (m : Board) → ThrowsListed b
    → ThrowsListed (number_entry signs b s m)
unfolding is_listed listed_numbers
numbers signs b [] m h = refl
numbers signs (Ok b) (x ∷ s) m h = tt
numbers signs (Err t) (x ∷ s) m h = h

rights : (signs : Signs) (b : Result ℕ Throw) (s : List Cell) (m : Board) → ThrowsListed b
    → ThrowsListed (right_entry signs b s m)
unfolding is_listed listed_numbers
rights signs b [] m h = refl
rights signs b (width ∷ []) m h = refl
rights signs (Ok b) (width ∷ x ∷ s) m h = tt
rights signs (Err t) (width ∷ x ∷ s) m h = h

stacks : (b : Result ℕ Throw) (s : List Cell) (m : Board) → ThrowsListed b → ThrowsListed (dot_stack_entry b s m)
stacks b [] m h = tt
stacks (Ok b) (x ∷ s) m h = tt
stacks (Err t) (x ∷ s) m h = h

emits : (s : List Cell) (m : Board) → ThrowsListed (emit_entry s m)
unfolding is_listed listed_numbers
emits [] m = refl
emits (char ∷ s) m = tt

types_read : ThrowListedNumbers → (r : Result (List ℕ) MemFault) (s : List Cell) (m : Board)
    → ThrowsListed (type_read r s m)
types_read law (Ok text) s m = tt
types_read law (Err fault) s m = law.faults fault

types : ThrowListedNumbers → (s : List Cell) (m : Board) → ThrowsListed (type_entry s m)
unfolding is_listed listed_numbers
types law [] m = refl
types law (n ∷ []) m = refl
types law (n ∷ a ∷ s) m = types_read law (read_bytes m.memory a.0 n.0) s m

prints : ThrowListedNumbers → (w : PrintingWord) (m : Board) → ThrowsListed (printing_entry w m)
prints law printing.Dot m = numbers Signed (base_in m.memory) m.stack m (bases m.memory)
prints law printing.UnsignedDot m = numbers Unsigned (base_in m.memory) m.stack m (bases m.memory)
prints law printing.DotRight m = rights Signed (base_in m.memory) m.stack m (bases m.memory)
prints law printing.UnsignedDotRight m = rights Unsigned (base_in m.memory) m.stack m (bases m.memory)
prints law printing.DotStack m = stacks (base_in m.memory) m.stack m (bases m.memory)
prints law printing.Emit m = emits m.stack m
prints law printing.«Type» m = types law m.stack m
prints law printing.CarriageReturn m = tt

takes : ThrowListedNumbers → (r : Result (ℕ × DataSpace) MemFault) (s : List Cell) (m : Board)
    → ThrowsListed (block_taken r s m)
takes law (Ok taken) s m = tt
takes law (Err fault) s m = law.faults fault

allocates : ThrowListedNumbers → (s : List Cell) (m : Board) → ThrowsListed (alloc_entry s m)
unfolding is_listed listed_numbers
allocates law [] m = refl
allocates law (n ∷ s) m = takes law (heap_taken m.memory n.0) s m

with : (m : Board) (r : Result Data Throw) → ThrowsListed r → ThrowsListed (with_data m r)
with m (Ok d) h = tt
with m (Err t) h = h

words : ThrowListedNumbers → TreeWordsListed → ConsoleWordsListed → (w : Word) (m : Board)
    → ThrowsListed (word_entry w m)
unfolding is_listed listed_numbers
words law tree console (Primitive w) m = with m (prim_entry w (data_in m)) (law.words w (data_in m))
words law tree console (Printing w) m = prints law w m
words law tree console (Heap AllocMem) m = allocates law m.stack m
words law tree console (Properties w) m = tree.properties w m
words law tree console (Tree w) m = tree.tree w m
words law tree console (Console w) m = console.console w m
words law tree console _ m = refl

pub words_throw_listed : ThrowListedNumbers → TreeWordsListed → ConsoleWordsListed → WordsThrowListed
words_throw_listed law tree console = record { words = words law tree console }
