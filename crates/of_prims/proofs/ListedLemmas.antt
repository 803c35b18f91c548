-- What these words throw has a listed number: each table's own throws, line by line.
use Rattle.std.proofs.Common.{◌≡◌, ℕ, ◌+◌, ◌-◌, ◌/◌, ◌%◌, ◌^◌, Bool, true, false, ◌||◌, List, [], ◌∷◌, length, nat_lt}
use Rattle.std.proofs.Common.{Option, Some, None, Result, Ok, Err, refl}
use Rattle.std.specs.Char.{digit_char}
use Rattle.std.specs.Int.{bytes_high_first}
use Rattle.of_cells.specs.declared.cells.Cell.{Cell}
use Rattle.of_cells.specs.Comparing.{is_less}
use Rattle.of_cells.specs.Doubles.{double, number_of}
use Rattle.of_cells.specs.Arithmetic.{plus}
use Rattle.of_cells.specs.Splitting.{low_byte, low_half}
use Rattle.of_stacks.specs.declared.throws.Throw.{Throw}
use Rattle.of_stacks.specs.Throws.{ThrowsListed, is_listed, listed_numbers, stack_overflow, pictured_overflow}
use Rattle.of_stacks.specs.Throws.{invalid_argument}
use Rattle.of_stacks.specs.Order.{refused_if, counting, fault_if}
use Rattle.of_stacks.specs.Stacks.{within}
use Rattle.of_calc.specs.Arithmetic.{double_of, with_double}
use Rattle.of_calc.specs.Listed.{ThrowListedNumbers as CalculationsThrowListed}
use Rattle.of_memory.specs.Access.{read_fault, write_fault, read, write, filled, copied, number_at}
use Rattle.of_memory.specs.BlockCalls.{heap_given}
use Rattle.of_memory.specs.DataSpace.{DataSpace, bytes_from, written}
use Rattle.of_memory.specs.Growth.{appended}
use Rattle.of_memory.specs.declared.fault.MemFault.{MemFault}
use Rattle.of_memory.specs.declared.fault.MemFault.TheVariants.{Address, Alignment, ReadOnly, Full, BadBlock, NoMemory}
use Rattle.of_memory.specs.declared.width.Width.TheVariants.{One as OneByte, Two as TwoBytes, Four as FourBytes}
use Rattle.of_fcodes.specs.declared.words.PrimitiveWord.{PrimitiveWord}
use Rattle.of_fcodes.specs.declared.words.PrimitiveWord.TheVariants.{Arithmetic, Comparing, Stacks, Addresses, Memory}
use Rattle.of_fcodes.specs.declared.words.PrimitiveWord.TheVariants.{Splitting, Text, Numbers}
use Rattle.of_fcodes.specs.declared.words.AddressesWord.{AddressesWord}
use Rattle.of_fcodes.specs.declared.words.MemoryWord.{MemoryWord}
use Rattle.of_fcodes.specs.declared.words.MemoryWord.TheVariants as memory
use Rattle.of_fcodes.specs.declared.words.TextWord.{TextWord}
use Rattle.of_fcodes.specs.declared.words.TextWord.TheVariants as text
use Rattle.of_fcodes.specs.declared.words.NumbersWord.{NumbersWord}
use Rattle.of_fcodes.specs.declared.words.NumbersWord.TheVariants as numbers
use Rattle.of_format.specs.Pictured.{held, base_in}
use Rattle.of_prims.specs.declared.address_shapes.Addressing.{Addressing}
use Rattle.of_prims.specs.declared.address_shapes.Addressing.TheVariants as shape
use Rattle.of_prims.specs.Addresses.{addressed, addresses_entry, addressing_of}
use Rattle.of_prims.specs.Data.{Data, Space, number, throw_of, fault_of, unless_fault, unless_thrown, over, stored}
use Rattle.of_prims.specs.Data.{appended_under, cell_at}
use Rattle.of_prims.specs.Listed.{ThrowListedNumbers}
use Rattle.of_prims.specs.Memory.{memory_entry, fetched, fetched_signed, value_stored}
use Rattle.of_prims.specs.Numbers.{numbers_entry, beside, holding, next_digit, all_digits, next_unsigned_digit}
use Rattle.of_prims.specs.Numbers.{all_unsigned_digits, signed_with, with_text, number_parsed}
use Rattle.of_prims.specs.Prims.{prim_entry, on_stack, in_space}
use Rattle.of_prims.specs.Text.{text_entry, parted, before, two_read, two_pushed}
use Rattle.of_prims.proofs.Counting.{some_counts, full_counts}

faults : (fault : MemFault) → is_listed (throw_of fault) ≡ true
unfolding is_listed listed_numbers
faults Address = refl
faults Alignment = refl
faults ReadOnly = refl
faults Full = refl
faults BadBlock = refl
faults NoMemory = refl

-- answers that throw one of the listed faults, or none

full : {A : Type 0} (b : Bool) (x : A) → ThrowsListed (refused_if b stack_overflow x)
unfolding is_listed listed_numbers
full true x = refl
full false x = tt

fits : (s : List Cell) → ThrowsListed (within s)
fits s = full (nat_lt 256 (length s)) s

-- the same answer about more
stacks : (m : DataSpace) (r : Result (List Cell) Throw) → ThrowsListed r → ThrowsListed (over m r)
stacks m (Ok s) h = tt
stacks m (Err t) h = h

besides : (m : DataSpace) (count : ℕ) (r : Result (List Cell) Throw) → ThrowsListed r → ThrowsListed (beside m count r)
besides m count (Ok s) h = tt
besides m count (Err t) h = h

stores : (s : List Cell) (r : Result DataSpace MemFault) → ThrowsListed (stored s r)
stores s (Ok m) = tt
stores s (Err fault) = faults fault

appends : (s : List Cell) (r : Result (ℕ × DataSpace) MemFault) → ThrowsListed (appended_under s r)
appends s (Ok a) = tt
appends s (Err fault) = faults fault

unless : {A : Type 0} (fault : Option MemFault) (r : Result A Throw) → ThrowsListed r
    → ThrowsListed (unless_fault fault r)
unless None r h = h
unless (Some fault) r h = faults fault

-- ---- addresses

locates_by : (a : Addressing) (here : ℕ) (s : List Cell) → ThrowsListed (addressed a here s)
unfolding is_listed listed_numbers
locates_by (shape.Size n) here s = fits (n ∷ s)
locates_by (shape.Indexed n) here (i ∷ a ∷ s) = tt
locates_by (shape.Next n) here (a ∷ s) = tt
locates_by (shape.Scaled n) here (i ∷ s) = tt
locates_by shape.Aligned here (x ∷ s) = tt
locates_by shape.Here here s = fits (number here ∷ s)
locates_by shape.Bounds here (n ∷ a ∷ s) = tt
locates_by _ here _ = refl

locates : (w : AddressesWord) (here : ℕ) (s : List Cell) → ThrowsListed (addresses_entry w here s)
locates w here s = locates_by (addressing_of w) here s

-- ---- memory

fetches : (s : List Cell) (m : DataSpace) (r : Result ℕ MemFault) → ThrowsListed (fetched s m r)
fetches s m (Ok n) = tt
fetches s m (Err fault) = faults fault

fetches_signed : (s : List Cell) (m : DataSpace) (r : Result ℕ MemFault) → ThrowsListed (fetched_signed s m r)
fetches_signed s m (Ok n) = tt
fetches_signed s m (Err fault) = faults fault

sets : (x : Cell) (s : List Cell) (m : DataSpace) → ThrowsListed (value_stored x s m)
unfolding is_listed listed_numbers
sets x (a ∷ s) m = stores s (write FourBytes m a.0 x.0)
sets x [] m = refl

thrown_if : {A : Type 0} (b : Bool) (r : Result A Throw) → ThrowsListed r
    → ThrowsListed (unless_thrown (fault_if b stack_overflow) r)
unfolding is_listed listed_numbers
thrown_if true r h = refl
thrown_if false r h = h

fetches_two : (fault : Option MemFault) (b : Bool) (r : Result Space Throw) → ThrowsListed r →
    ThrowsListed (unless_thrown (counting (fault_of fault ∷ fault_if b stack_overflow ∷ [])) r)
fetches_two None b r h = rw (full_counts b) (thrown_if b r h)
fetches_two (Some fault) b r h = rw (some_counts (throw_of fault) b) (faults fault)

accesses : (w : MemoryWord) (s : List Cell) (m : DataSpace) → ThrowsListed (memory_entry w s m)
unfolding memory_entry is_listed listed_numbers
accesses memory.On s m = sets (number (2 ^ 32 - 1)) s m
accesses memory.Off s m = sets (number 0) s m
accesses memory.PlusStore (a ∷ n ∷ s) m = unless (write_fault m a.0 4 FourBytes) _ tt
accesses memory.Fetch (a ∷ s) m = fetches s m (read FourBytes m a.0)
accesses memory.FetchLong (a ∷ s) m = fetches s m (read FourBytes m a.0)
accesses memory.FetchWord (a ∷ s) m = fetches s m (read TwoBytes m a.0)
accesses memory.FetchSignedWord (a ∷ s) m = fetches_signed s m (read TwoBytes m a.0)
accesses memory.FetchByte (a ∷ s) m = fetches s m (read OneByte m a.0)
accesses memory.Store (a ∷ x ∷ s) m = stores s (write FourBytes m a.0 x.0)
accesses memory.StoreLong (a ∷ x ∷ s) m = stores s (write FourBytes m a.0 x.0)
accesses memory.StoreWord (a ∷ x ∷ s) m = stores s (write TwoBytes m a.0 (low_half x).0)
accesses memory.StoreByte (a ∷ x ∷ s) m = stores s (write OneByte m a.0 (low_byte x).0)
accesses memory.FetchTwo (a ∷ s) m =
    fetches_two (read_fault m a.0 8 FourBytes) (nat_lt 256 (length s + 2))
    (Ok (cell_at m a.0 ∷ cell_at m (plus a (number 4)).0 ∷ s, m)) tt
accesses memory.StoreTwo (a ∷ y ∷ x ∷ s) m = unless (write_fault m a.0 8 FourBytes) _ tt
accesses memory.Move (n ∷ to ∷ from ∷ s) m = stores s (copied m from.0 to.0 n.0)
accesses memory.Fill (x ∷ n ∷ a ∷ s) m = stores s (filled m a.0 n.0 (low_byte x).0)
accesses memory.Compare (n ∷ b ∷ a ∷ s) m =
    unless (read_fault m a.0 n.0 OneByte) _ (unless (read_fault m b.0 n.0 OneByte) _ tt)
accesses memory.CommaByte (x ∷ s) m = appends s (appended m (bytes_high_first 1 (low_byte x).0))
accesses memory.CommaWord (x ∷ s) m = appends s (appended m (bytes_high_first 2 (low_half x).0))
accesses memory.CommaLong (x ∷ s) m = appends s (appended m (bytes_high_first 4 x.0))
accesses memory.Comma (x ∷ s) m = appends s (appended m (bytes_high_first 4 x.0))
accesses memory.FreeMem (n ∷ a ∷ s) m = stores s (heap_given m a.0 n.0)
accesses _ _ m = refl

-- ---- text

packs : (b : Bool) (s : Space) → ThrowsListed (refused_if b invalid_argument s)
unfolding is_listed listed_numbers
packs true s = refl
packs false s = tt

parses_two : (m : DataSpace) (found : Option (Cell × Cell)) (s : List Cell) → ThrowsListed (over m (two_pushed found s))
unfolding is_listed listed_numbers
parses_two m None s = refl
parses_two m (Some numbers) s = tt

fits_over : (m : DataSpace) (s : List Cell) → ThrowsListed (over m (within s))
fits_over m s = stacks m (within s) (fits s)

edits : (w : TextWord) (s : List Cell) (m : DataSpace) → ThrowsListed (text_entry w s m)
unfolding text_entry is_listed listed_numbers
edits text.UpperCase (char ∷ s) m = tt
edits text.LowerCase (char ∷ s) m = tt
edits text.Pack (a ∷ n ∷ from ∷ s) m =
    unless (read_fault m from.0 n.0 OneByte) _
    (unless (write_fault m a.0 (n.0 + 1) OneByte) _
    (packs (nat_lt 255 n.0) (a ∷ s, written m a.0 (n.0 ∷ bytes_from m from.0 n.0))))
edits text.Count (a ∷ s) m =
    unless (read_fault m a.0 1 OneByte) _ (fits_over m (number (number_at m a.0 1) ∷ plus a (number 1) ∷ s))
edits text.Blank s m = fits_over m (number 32 ∷ s)
edits text.Backspace s m = fits_over m (number 8 ∷ s)
edits text.Bell s m = fits_over m (number 7 ∷ s)
edits text.LeftParseString (char ∷ n ∷ a ∷ s) m =
    unless (read_fault m a.0 n.0 OneByte) _
    (fits_over m (parted a n.0 (before (low_byte char).0 (bytes_from m a.0 n.0)) s))
edits text.ParseTwoInts (n ∷ a ∷ s) m =
    unless (read_fault m a.0 n.0 OneByte) _ (parses_two m (two_read (bytes_from m a.0 n.0)) s)
edits _ _ m = refl

-- ---- numbers

holds_bytes : (b : Bool) (after : DataSpace × ℕ) → ThrowsListed (refused_if b pictured_overflow after)
unfolding is_listed listed_numbers
holds_bytes true after = refl
holds_bytes false after = tt

holds_if : (s : List Cell) (r : Result (DataSpace × ℕ) Throw) → ThrowsListed r → ThrowsListed (holding s r)
holds_if s (Ok after) h = tt
holds_if s (Err t) h = h

holds : (s : List Cell) (m : DataSpace) (count : ℕ) (bytes : List ℕ) → ThrowsListed (holding s (held m count bytes))
holds s m count bytes =
    holds_if s (held m count bytes) (holds_bytes (nat_lt 128 (count + length bytes)) _)

bases : (b : Bool) (n : ℕ) → ThrowsListed (refused_if b invalid_argument n)
unfolding is_listed listed_numbers
bases true n = refl
bases false n = tt

base : (m : DataSpace) → ThrowsListed (base_in m)
base m = bases (nat_lt (number_at m 0x50_0000 4) 2 || nat_lt 36 (number_at m 0x50_0000 4)) (number_at m 0x50_0000 4)

digits : (n : ℕ) (s : List Cell) (m : DataSpace) (count : ℕ) (b : Result ℕ Throw) → ThrowsListed b →
    ThrowsListed (next_digit n s m count b)
digits n s m count (Ok b) h = holds (with_double (double (n / b)) s) m count (digit_char (n % b) ∷ [])
digits n s m count (Err t) h = h

all : (n : ℕ) (s : List Cell) (m : DataSpace) (count : ℕ) (b : Result ℕ Throw) → ThrowsListed b →
    ThrowsListed (all_digits n s m count b)
all n s m count (Ok b) h = holds _ m count _
all n s m count (Err t) h = h

unsigned_digits : (n : ℕ) (s : List Cell) (m : DataSpace) (count : ℕ) (b : Result ℕ Throw) → ThrowsListed b →
    ThrowsListed (next_unsigned_digit n s m count b)
unsigned_digits n s m count (Ok b) h = holds (number (n / b) ∷ s) m count (digit_char (n % b) ∷ [])
unsigned_digits n s m count (Err t) h = h

all_unsigned : (n : ℕ) (s : List Cell) (m : DataSpace) (count : ℕ) (b : Result ℕ Throw) → ThrowsListed b →
    ThrowsListed (all_unsigned_digits n s m count b)
all_unsigned n s m count (Ok b) h = holds _ m count _
all_unsigned n s m count (Err t) h = h

signs : (b : Bool) (s : List Cell) (m : DataSpace) (count : ℕ) → ThrowsListed (signed_with b s m count)
signs true s m count = holds s m count (45 ∷ [])
signs false s m count = tt

parses : (chars : List ℕ) (s : List Cell) (m : DataSpace) (count : ℕ) (b : Result ℕ Throw) → ThrowsListed b →
    ThrowsListed (number_parsed chars s m count b)
parses chars s m count (Ok b) h = tt
parses chars s m count (Err t) h = h

fits_beside : (m : DataSpace) (count : ℕ) (s : List Cell) → ThrowsListed (beside m count (within s))
fits_beside m count s = besides m count (within s) (fits s)

converts : (w : NumbersWord) (s : List Cell) (m : DataSpace) (count : ℕ) → ThrowsListed (numbers_entry w s m count)
unfolding numbers_entry is_listed listed_numbers
converts numbers.Begin s m count = tt
converts numbers.Hold (char ∷ s) m count = holds s m count ((low_byte char).0 ∷ [])
converts numbers.Sign (n ∷ s) m count = signs (is_less n (number 0)) s m count
converts numbers.NextDigit (high ∷ low ∷ s) m count =
    digits (number_of (double_of low high)) s m count (base_in m) (base m)
converts numbers.AllDigits (high ∷ low ∷ s) m count =
    all (number_of (double_of low high)) s m count (base_in m) (base m)
converts numbers.End (high ∷ low ∷ s) m count = tt
converts numbers.UnsignedDigit (u ∷ s) m count = unsigned_digits u.0 s m count (base_in m) (base m)
converts numbers.UnsignedDigits (u ∷ s) m count = all_unsigned u.0 s m count (base_in m) (base m)
converts numbers.UnsignedEnd (u ∷ s) m count = fits_beside m count (with_text count s)
converts numbers.Base s m count = fits_beside m count (number 0x50_0000 ∷ s)
converts numbers.ParseNumber (n ∷ a ∷ s) m count =
    unless (read_fault m a.0 n.0 OneByte) _ (parses (bytes_from m a.0 n.0) s m count (base_in m) (base m))
converts numbers.Digit (b ∷ char ∷ s) m count = tt
converts numbers.MinusOne s m count = fits_beside m count (number (2 ^ 32 - 1) ∷ s)
converts numbers.Zero s m count = fits_beside m count (number 0 ∷ s)
converts numbers.One s m count = fits_beside m count (number 1 ∷ s)
converts numbers.Two s m count = fits_beside m count (number 2 ∷ s)
converts numbers.Three s m count = fits_beside m count (number 3 ∷ s)
converts numbers.Noop s m count = tt
converts numbers.FcodeRevision s m count = fits_beside m count (number 0x3_0000 ∷ s)
converts _ _ m count = refl

-- ---- all words

stack_alone : (d : Data) (r : Result (List Cell) Throw) → ThrowsListed r → ThrowsListed (on_stack d r)
stack_alone d (Ok s) h = tt
stack_alone d (Err t) h = h

space_alone : (d : Data) (r : Result Space Throw) → ThrowsListed r → ThrowsListed (in_space d r)
space_alone d (Ok left) h = tt
space_alone d (Err t) h = h

words : CalculationsThrowListed → (w : PrimitiveWord) (d : Data) → ThrowsListed (prim_entry w d)
words calc (Arithmetic w) d = stack_alone d _ (calc.arithmetic w d.stack)
words calc (Comparing w) d = stack_alone d _ (calc.comparing w d.stack)
words calc (Stacks w) d = stack_alone d _ (calc.arranging w d.stack)
words calc (Addresses w) d = stack_alone d _ (locates w d.memory.here d.stack)
words calc (Memory w) d = space_alone d _ (accesses w d.stack d.memory)
words calc (Splitting w) d = stack_alone d _ (calc.splitting w d.stack)
words calc (Text w) d = space_alone d _ (edits w d.stack d.memory)
words calc (Numbers w) d = converts w d.stack d.memory d.pictured

pub throw_listed_numbers : CalculationsThrowListed → ThrowListedNumbers
throw_listed_numbers calc = record { words = words calc; faults = faults }
