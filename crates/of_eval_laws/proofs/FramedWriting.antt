-- The law `images_stand`: words over pictured text, words that print and take blocks, and all ordinary words.
use Rattle.std.proofs.Common.{◌≡◌, ℕ, zero, suc, ◌+◌, ◌/◌, ◌%◌, ◌≤◌, ◌<◌, Bool, true, false, List, [], ◌∷◌, ◌++◌}
use Rattle.std.proofs.Common.{length, Option, Some, None, Result, Ok, Err, refl, subst, arith, nat_lt, cond}
use Rattle.std.proofs.Common.{if◌then◌else◌}
use Rattle.std.specs.Prelude.{◌||◌}
use Rattle.std.proofs.lemmas.Bool.{ltb-false}
use Rattle.std.proofs.lemmas.Nat.{mod_below}
use Rattle.of_cells.specs.declared.cells.Cell.{Cell}
use Rattle.of_cells.specs.Comparing.{is_less}
use Rattle.of_cells.specs.Doubles.{double}
use Rattle.of_cells.specs.Splitting.{low_byte}
use Rattle.std.specs.Char.{digit_char}
use Rattle.of_stacks.specs.declared.throws.Throw.{Throw}
use Rattle.of_stacks.specs.Order.{refused_if}
use Rattle.of_stacks.specs.Throws.{invalid_argument, pictured_overflow}
use Rattle.of_fcodes.specs.declared.words.HeapWord.TheVariants.{AllocMem}
use Rattle.of_fcodes.specs.declared.words.NumbersWord.{NumbersWord}
use Rattle.of_fcodes.specs.declared.words.NumbersWord.TheVariants as numbers
use Rattle.of_fcodes.specs.declared.words.PrimitiveWord.{PrimitiveWord}
use Rattle.of_fcodes.specs.declared.words.PrimitiveWord.TheVariants as primitive
use Rattle.of_fcodes.specs.declared.words.PrintingWord.{PrintingWord}
use Rattle.of_fcodes.specs.declared.words.PrintingWord.TheVariants as printing
use Rattle.of_fcodes.specs.declared.words.Word.{Word}
use Rattle.of_fcodes.specs.declared.words.Word.TheVariants as word
use Rattle.of_memory.specs.declared.fault.MemFault.{MemFault}
use Rattle.of_memory.specs.declared.width.Width.TheVariants.{One}
use Rattle.of_memory.specs.Access.{read_fault, read_bytes}
use Rattle.of_memory.specs.BlockCalls.{heap_taken}
use Rattle.of_memory.specs.DataSpace.{DataSpace, IsSound, written}
use Rattle.of_memory.specs.Regions.{scratch_limit, scratch_start}
use Rattle.of_memory.specs.SoundChanges.{AreBytes}
use Rattle.of_format.specs.Digits.{digits, double_text, unsigned_text}
use Rattle.of_format.specs.Pictured.{base_in, base_number, held, text_address}
use Rattle.of_prims.specs.Data.{Data, Space, number, unless_fault}
use Rattle.of_prims.specs.Memory.{memory_entry}
use Rattle.of_prims.specs.Numbers.{all_digits, all_unsigned_digits, beside, holding, next_digit, next_unsigned_digit}
use Rattle.of_prims.specs.Numbers.{number_parsed, numbers_entry, signed_with}
use Rattle.of_prims.specs.Prims.{in_space, on_stack, prim_entry}
use Rattle.of_prims.specs.Text.{text_entry}
use Rattle.of_ihandles.specs.SpaceKept.{Keeps}
use Rattle.of_instances.specs.SpaceKept.{Keeps as KeepsBoard}
use Rattle.of_instances.specs.PropertyWords.{properties_entry}
use Rattle.of_instances.specs.TreeWords.{tree_entry}
use Rattle.of_board.specs.declared.board.Board.{Board}
use Rattle.of_words.specs.ConsoleWords.{console_entry}
use Rattle.of_words.specs.declared.printing.Signs.{Signs}
use Rattle.of_words.specs.declared.printing.Signs.TheVariants.{Signed, Unsigned}
use Rattle.of_eval_laws.specs.Images.{ImagesStand}
use Rattle.of_words.specs.Words.{alloc_entry, block_taken, data_in, dot_stack_entry, emit_entry, number_entry}
use Rattle.of_words.specs.Words.{printing_entry, right_entry, type_entry, type_read, with_data}
use Rattle.of_words.specs.Words.{word_entry}
use Rattle.of_eval_laws.proofs.FramedMemory.{DataKept, SpaceKept, low_small, memory_stands, text_stands}
use Rattle.of_eval_laws.proofs.Bytes.{byte_more, bytes_joined, no_bytes}
use Rattle.of_eval_laws.proofs.FramedSpace.{Answered, BoardStands, Laws, Stands, by_heap_take, by_space, by_words}
use Rattle.of_eval_laws.proofs.FramedSpace.{bytes_kept, same, stays}

-- ---- pictured text

abbrev HeldKept : DataSpace → Result (DataSpace × ℕ) Throw → Type 0
HeldKept m (Ok x) = Keeps m x.0
HeldKept m (Err t) = Unit {0}

-- the text lies in the scratch region
text_from : (n : ℕ) → n ≤ 128 → scratch_start ≤ text_address n
text_from n l = omega (arith, l)

text_to : (n : ℕ) → n ≤ 128 → text_address n + n ≤ scratch_limit
text_to n l = omega (arith, l)

whole : (a : ℕ) → a % 1 ≡ 0
whole a = omega arith

held_if : (l : Laws) (b : Bool) (m : DataSpace) (n : ℕ) (bytes : List ℕ) → nat_lt 128 n ≡ b → length bytes ≤ n
    → IsSound m → AreBytes bytes
    → HeldKept m (refused_if b pictured_overflow (written m (text_address n) bytes, n))
held_if l true m n bytes e few sound small = tt
held_if l false m n bytes e few sound small =
    let fits = ltb-false 128 n e in
    let a = text_address n in
    bytes_kept l m a n bytes sound small few (l.scratch.writes m a n One (text_from n fits) (text_to n fits) (whole a))

holds : (l : Laws) (m : DataSpace) (count : ℕ) (bytes : List ℕ) → IsSound m → AreBytes bytes
    → HeldKept m (held m count bytes)
holds l m count bytes sound small =
    held_if l (nat_lt 128 (count + length bytes)) m (count + length bytes) bytes refl (omega arith) sound small

-- ---- digits

-- a number that can be a base
abbrev IsBase : Result ℕ Throw → Type 0
IsBase (Ok base) = (2 ≤ base) × (base ≤ 36)
IsBase (Err t) = Unit {0}

base_if : (p q : Bool) (n : ℕ) → nat_lt n 2 ≡ p → nat_lt 36 n ≡ q → IsBase (refused_if (p || q) invalid_argument n)
base_if true q n e f = tt
base_if false true n e f = tt
base_if false false n e f = (ltb-false n 2 e, ltb-false 36 n f)

base_is : (m : DataSpace) → IsBase (base_in m)
base_is m = base_if (nat_lt (base_number m) 2) (nat_lt 36 (base_number m)) (base_number m) refl refl

char_if : (b : Bool) (d : ℕ) → d < 36 → cond b (48 + d) (87 + d) < 256
char_if true d l = omega (arith, l)
char_if false d l = omega (arith, l)

char_small : (n base : ℕ) → IsBase (Ok base) → digit_char (n % base) < 256
char_small n base b =
    let below = mod_below n base (omega (arith, b.0)) in
    char_if (nat_lt (n % base) 10) (n % base) (omega (arith, below, b.1))

digit_small : (n base : ℕ) → IsBase (Ok base) → AreBytes (digit_char (n % base) ∷ [])
digit_small n base b = byte_more (digit_char (n % base)) [] (char_small n base b) no_bytes

digits_if : (b : Bool) (last others : List ℕ) → AreBytes last → AreBytes others
    → AreBytes (if b then last else others ++ last)
digits_if true last others h k = h
digits_if false last others h k = bytes_joined others last k h

digits_small : (more base n : ℕ) → IsBase (Ok base) → AreBytes (digits more base n)
unfolding digits
digits_small zero base n b = digit_small n base b
digits_small (suc more) base n b =
    digits_if (nat_lt n base) (digit_char (n % base) ∷ []) (digits more base (n / base)) (digit_small n base b)
    (digits_small more base (n / base) b)

holding_kept : (m : DataSpace) (s : List Cell) (r : Result (DataSpace × ℕ) Throw) → HeldKept m r
    → DataKept m (holding s r)
holding_kept m s (Ok x) h = h
holding_kept m s (Err t) h = tt

beside_kept : (m : DataSpace) (count : ℕ) (r : Result (List Cell) Throw) → IsSound m
    → DataKept m (beside m count r)
beside_kept m count (Ok s) sound = same m sound
beside_kept m count (Err t) sound = tt

digit_kept : (l : Laws) (n : ℕ) (s : List Cell) (m : DataSpace) (count : ℕ) (r : Result ℕ Throw)
    → IsSound m → IsBase r → DataKept m (next_digit n s m count r)
digit_kept l n s m count (Ok base) sound b =
    holding_kept m ((double (n / base)).high ∷ (double (n / base)).low ∷ s)
    (held m count (digit_char (n % base) ∷ []))
    (holds l m count (digit_char (n % base) ∷ []) sound (digit_small n base b))
digit_kept l n s m count (Err t) sound b = tt

digits_kept : (l : Laws) (n : ℕ) (s : List Cell) (m : DataSpace) (count : ℕ) (r : Result ℕ Throw)
    → IsSound m → IsBase r → DataKept m (all_digits n s m count r)
digits_kept l n s m count (Ok base) sound b =
    holding_kept m _ _ (holds l m count (double_text base n) sound (digits_small 63 base n b))
digits_kept l n s m count (Err t) sound b = tt

unsigned_kept : (l : Laws) (n : ℕ) (s : List Cell) (m : DataSpace) (count : ℕ) (r : Result ℕ Throw)
    → IsSound m → IsBase r → DataKept m (next_unsigned_digit n s m count r)
unsigned_kept l n s m count (Ok base) sound b =
    holding_kept m (number (n / base) ∷ s) (held m count (digit_char (n % base) ∷ []))
    (holds l m count (digit_char (n % base) ∷ []) sound (digit_small n base b))
unsigned_kept l n s m count (Err t) sound b = tt

unsigneds_kept : (l : Laws) (n : ℕ) (s : List Cell) (m : DataSpace) (count : ℕ) (r : Result ℕ Throw)
    → IsSound m → IsBase r → DataKept m (all_unsigned_digits n s m count r)
unsigneds_kept l n s m count (Ok base) sound b =
    holding_kept m _ _ (holds l m count (unsigned_text base n) sound (digits_small 31 base n b))
unsigneds_kept l n s m count (Err t) sound b = tt

sign_kept : (l : Laws) (b : Bool) (s : List Cell) (m : DataSpace) (count : ℕ) → IsSound m
    → DataKept m (signed_with b s m count)
sign_kept l true s m count sound =
    holding_kept m s _ (holds l m count (45 ∷ []) sound (byte_more 45 [] (omega arith) no_bytes))
sign_kept l false s m count sound = same m sound

parsed_kept : (text : List ℕ) (s : List Cell) (m : DataSpace) (count : ℕ) (r : Result ℕ Throw)
    → IsSound m → DataKept m (number_parsed text s m count r)
parsed_kept text s m count (Ok base) sound = same m sound
parsed_kept text s m count (Err t) sound = tt

fault_unless : (m : DataSpace) (f : Option MemFault) (r : Result Data Throw) → DataKept m r
    → DataKept m (unless_fault f r)
fault_unless m None r h = h
fault_unless m (Some f) r h = tt

numbers_kept : (l : Laws) (w : NumbersWord) (s : List Cell) (m : DataSpace) (count : ℕ) → IsSound m
    → DataKept m (numbers_entry w s m count)
unfolding numbers_entry
numbers_kept l numbers.Begin s m count sound = same m sound
numbers_kept l numbers.Hold (char ∷ s) m count sound =
    holding_kept m s _
    (holds l m count ((low_byte char).0 ∷ []) sound (byte_more (low_byte char).0 [] (low_small char) no_bytes))
numbers_kept l numbers.Sign (n ∷ s) m count sound = sign_kept l (is_less n (number 0)) s m count sound
numbers_kept l numbers.NextDigit (high ∷ low ∷ s) m count sound =
    digit_kept l _ s m count (base_in m) sound (base_is m)
numbers_kept l numbers.AllDigits (high ∷ low ∷ s) m count sound =
    digits_kept l _ s m count (base_in m) sound (base_is m)
numbers_kept l numbers.End (high ∷ low ∷ s) m count sound = same m sound
numbers_kept l numbers.UnsignedDigit (u ∷ s) m count sound =
    unsigned_kept l u.0 s m count (base_in m) sound (base_is m)
numbers_kept l numbers.UnsignedDigits (u ∷ s) m count sound =
    unsigneds_kept l u.0 s m count (base_in m) sound (base_is m)
numbers_kept l numbers.UnsignedEnd (u ∷ s) m count sound = beside_kept m count _ sound
numbers_kept l numbers.Base s m count sound = beside_kept m count _ sound
numbers_kept l numbers.ParseNumber (n ∷ a ∷ s) m count sound =
    fault_unless m (read_fault m a.0 n.0 One) _ (parsed_kept _ s m count (base_in m) sound)
numbers_kept l numbers.Digit (base ∷ char ∷ s) m count sound = same m sound
numbers_kept l numbers.MinusOne s m count sound = beside_kept m count _ sound
numbers_kept l numbers.Zero s m count sound = beside_kept m count _ sound
numbers_kept l numbers.One s m count sound = beside_kept m count _ sound
numbers_kept l numbers.Two s m count sound = beside_kept m count _ sound
numbers_kept l numbers.Three s m count sound = beside_kept m count _ sound
numbers_kept l numbers.Noop s m count sound = same m sound
numbers_kept l numbers.FcodeRevision s m count sound = beside_kept m count _ sound
numbers_kept l w s m count sound = tt

-- ---- the words without output

stack_kept : (d : Data) (r : Result (List Cell) Throw) → IsSound d.memory → DataKept d.memory (on_stack d r)
stack_kept d (Ok s) sound = same d.memory sound
stack_kept d (Err t) sound = tt

space_kept : (d : Data) (r : Result Space Throw) → SpaceKept d.memory r → DataKept d.memory (in_space d r)
space_kept d (Ok x) h = h
space_kept d (Err t) h = tt

prim_kept : (l : Laws) (w : PrimitiveWord) (d : Data) → IsSound d.memory
    → DataKept d.memory (prim_entry w d)
prim_kept l (primitive.Arithmetic w) d sound = stack_kept d _ sound
prim_kept l (primitive.Comparing w) d sound = stack_kept d _ sound
prim_kept l (primitive.Stacks w) d sound = stack_kept d _ sound
prim_kept l (primitive.Addresses w) d sound = stack_kept d _ sound
prim_kept l (primitive.Memory w) d sound =
    space_kept d (memory_entry w d.stack d.memory) (memory_stands l w d.stack d.memory sound)
prim_kept l (primitive.Splitting w) d sound = stack_kept d _ sound
prim_kept l (primitive.Text w) d sound =
    space_kept d (text_entry w d.stack d.memory) (text_stands l w d.stack d.memory sound)
prim_kept l (primitive.Numbers w) d sound = numbers_kept l w d.stack d.memory d.pictured sound

data_stands : (l : Laws) (w : Board) (r : Result Data Throw) → IsSound w.memory → DataKept w.memory r
    → BoardStands w (with_data w r)
data_stands l w (Ok d) sound h = by_space l w d.memory sound h
data_stands l w (Err t) sound h = tt

-- ---- the words that print

number_stands : (signs : Signs) (base : Result ℕ Throw) (s : List Cell) (m : Board) → IsSound m.memory
    → BoardStands m (number_entry signs base s m)
number_stands signs base [] m sound = tt
number_stands signs (Ok base) (x ∷ s) m sound = stays m sound
number_stands signs (Err t) (x ∷ s) m sound = tt

right_stands : (signs : Signs) (base : Result ℕ Throw) (s : List Cell) (m : Board) → IsSound m.memory
    → BoardStands m (right_entry signs base s m)
right_stands signs base [] m sound = tt
right_stands signs base (width ∷ []) m sound = tt
right_stands signs (Ok base) (width ∷ x ∷ s) m sound = stays m sound
right_stands signs (Err t) (width ∷ x ∷ s) m sound = tt

dot_stands : (base : Result ℕ Throw) (s : List Cell) (m : Board) → IsSound m.memory
    → BoardStands m (dot_stack_entry base s m)
dot_stands base [] m sound = stays m sound
dot_stands (Ok base) (x ∷ s) m sound = stays m sound
dot_stands (Err t) (x ∷ s) m sound = tt

emit_stands : (s : List Cell) (m : Board) → IsSound m.memory → BoardStands m (emit_entry s m)
emit_stands [] m sound = tt
emit_stands (char ∷ s) m sound = stays m sound

read_stands : (r : Result (List ℕ) MemFault) (s : List Cell) (m : Board) → IsSound m.memory
    → BoardStands m (type_read r s m)
read_stands (Ok text) s m sound = stays m sound
read_stands (Err fault) s m sound = tt

type_stands : (s : List Cell) (m : Board) → IsSound m.memory → BoardStands m (type_entry s m)
type_stands [] m sound = tt
type_stands (n ∷ []) m sound = tt
type_stands (n ∷ a ∷ s) m sound = read_stands (read_bytes m.memory a.0 n.0) s m sound

printing_stands : (w : PrintingWord) (m : Board) → IsSound m.memory → BoardStands m (printing_entry w m)
printing_stands printing.Dot m sound = number_stands Signed (base_in m.memory) m.stack m sound
printing_stands printing.UnsignedDot m sound = number_stands Unsigned (base_in m.memory) m.stack m sound
printing_stands printing.DotRight m sound = right_stands Signed (base_in m.memory) m.stack m sound
printing_stands printing.UnsignedDotRight m sound = right_stands Unsigned (base_in m.memory) m.stack m sound
printing_stands printing.DotStack m sound = dot_stands (base_in m.memory) m.stack m sound
printing_stands printing.Emit m sound = emit_stands m.stack m sound
printing_stands printing.«Type» m sound = type_stands m.stack m sound
printing_stands printing.CarriageReturn m sound = stays m sound

-- ---- `alloc-mem`

takes : (l : Laws) (w : Board) (r : Result (ℕ × DataSpace) MemFault) (s : List Cell) → IsSound w.memory
    → Answered w.memory r → BoardStands w (block_taken r s w)
takes l w (Ok x) s sound h = by_space l w x.1 sound h
takes l w (Err fault) s sound h = tt

alloc_stands : (l : Laws) (s : List Cell) (w : Board) → IsSound w.memory → BoardStands w (alloc_entry s w)
alloc_stands l [] w sound = tt
alloc_stands l (n ∷ s) w sound =
    let r = heap_taken w.memory n.0 in takes l w r s sound (by_heap_take l w.memory n.0 r sound refl)

-- ---- all words

keeps : (w : Board) (r : Result Board Throw) → ((after : Board) → r ≡ Ok after → KeepsBoard w after) → BoardStands w r
keeps w (Ok after) h = by_words w after (h after refl)
keeps w (Err t) h = tt

pub word_stands : (l : Laws) (w : Word) (m : Board) → IsSound m.memory → BoardStands m (word_entry w m)
word_stands l (word.Primitive w) m sound =
    data_stands l m (prim_entry w (data_in m)) sound (prim_kept l w (data_in m) sound)
word_stands l (word.Printing w) m sound = printing_stands w m sound
word_stands l (word.Heap AllocMem) m sound = alloc_stands l m.stack m sound
word_stands l (word.Stream w) m sound = tt
word_stands l (word.Keys w) m sound = tt
word_stands l (word.Returns w) m sound = tt
word_stands l (word.Dictionary w) m sound = tt
word_stands l (word.Throws w) m sound = tt
word_stands l (word.Properties w) m sound = keeps m (properties_entry w m) (λ s e. l.words.properties w m s sound e)
word_stands l (word.Tree w) m sound = keeps m (tree_entry w m) (λ s e. l.words.tree w m s sound e)
word_stands l (word.Devices w) m sound = tt
word_stands l (word.Console w) m sound = keeps m (console_entry w m) (λ s e. l.console.console w m s sound e)
word_stands l (word.Parsing w) m sound = tt
word_stands l (word.Compiling w) m sound = tt

pub left_stands : (l : Laws) (w : Word) (m after : Board) → IsSound m.memory → word_entry w m ≡ Ok after
    → Stands m after
left_stands l w m after sound e = subst (λ r. BoardStands m r) e (word_stands l w m sound)

pub images_stand : Laws → ImagesStand
images_stand l w m after sound e = (left_stands l w m after sound e).0
