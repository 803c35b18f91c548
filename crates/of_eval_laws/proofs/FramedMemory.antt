-- The law `images_stand`: what each word over memory and text leaves of the data space.
use Rattle.std.proofs.Common.{◌≡◌, ℕ, ◌+◌, ◌-◌, ◌^◌, ◌<◌, Bool, true, false, List, [], ◌∷◌, length, drop}
use Rattle.std.proofs.Common.{Option, Some, None, Result, Ok, Err, refl, arith, nat_lt}
use Rattle.std.proofs.lemmas.Bool.{ltb-false}
use Rattle.std.proofs.lemmas.List.{length-take}
use Rattle.std.specs.Int.{bytes_high_first}
use Rattle.of_cells.specs.declared.cells.Cell.{Cell}
use Rattle.of_cells.specs.Arithmetic.{plus}
use Rattle.of_cells.specs.Splitting.{low_byte, low_half}
use Rattle.of_stacks.specs.declared.throws.Throw.{Throw}
use Rattle.of_stacks.specs.Order.{counting, fault_if, refused_if}
use Rattle.of_stacks.specs.Throws.{invalid_argument, stack_overflow}
use Rattle.of_fcodes.specs.declared.words.MemoryWord.{MemoryWord}
use Rattle.of_fcodes.specs.declared.words.MemoryWord.TheVariants as memory
use Rattle.of_fcodes.specs.declared.words.TextWord.{TextWord}
use Rattle.of_fcodes.specs.declared.words.TextWord.TheVariants as text
use Rattle.of_memory.specs.declared.fault.MemFault.{MemFault}
use Rattle.of_memory.specs.declared.width.Width.{Width}
use Rattle.of_memory.specs.declared.width.Width.TheVariants.{One, Two, Four}
use Rattle.of_memory.specs.Access.{copied, filled, read_fault, write, write_fault}
use Rattle.of_memory.specs.BlockCalls.{heap_given}
use Rattle.of_memory.specs.DataSpace.{DataSpace, IsSound, bytes_from, written}
use Rattle.of_memory.specs.Growth.{appended}
use Rattle.of_memory.specs.Regions.{place_of}
use Rattle.of_prims.specs.Data.{Data, Space, appended_under, cell_at, fault_of, number, over, stored}
use Rattle.of_prims.specs.Data.{unless_fault, unless_thrown}
use Rattle.of_prims.specs.Memory.{fetched, fetched_signed, memory_entry, two_written, value_stored}
use Rattle.of_prims.specs.Text.{text_entry}
use Rattle.of_ihandles.specs.SpaceKept.{Keeps}
use Rattle.of_eval_laws.proofs.Bytes.{byte_more, bytes_there}
use Rattle.of_eval_laws.proofs.FramedSpace.{Answered, Laws, Left, by_append, by_copy, by_fill, by_heap_give, by_write}
use Rattle.of_eval_laws.proofs.FramedSpace.{bytes_kept, number_kept, same, then_kept}

abbrev pub SpaceKept : DataSpace → Result Space Throw → Type 0
SpaceKept m (Ok x) = Keeps m x.1
SpaceKept m (Err t) = Unit {0}

abbrev pub DataKept : DataSpace → Result Data Throw → Type 0
DataKept m (Ok d) = Keeps m d.memory
DataKept m (Err t) = Unit {0}

-- ---- answers

store : (m : DataSpace) (s : List Cell) (r : Result DataSpace MemFault) → Left m r → SpaceKept m (stored s r)
store m s (Ok after) h = h
store m s (Err fault) h = tt

fault_unless : (m : DataSpace) (f : Option MemFault) (r : Result Space Throw) → (f ≡ None → SpaceKept m r)
    → SpaceKept m (unless_fault f r)
fault_unless m None r h = h refl
fault_unless m (Some f) r h = tt

thrown_unless : (m : DataSpace) (f : Option Throw) (r : Result Space Throw) → SpaceKept m r
    → SpaceKept m (unless_thrown f r)
thrown_unless m None r h = h
thrown_unless m (Some t) r h = tt

overs : (m : DataSpace) (r : Result (List Cell) Throw) → IsSound m → SpaceKept m (over m r)
overs m (Ok s) sound = same m sound
overs m (Err t) sound = tt

fetches : (s : List Cell) (m : DataSpace) (r : Result ℕ MemFault) → IsSound m → SpaceKept m (fetched s m r)
fetches s m (Ok n) sound = same m sound
fetches s m (Err fault) sound = tt

fetches_signed : (s : List Cell) (m : DataSpace) (r : Result ℕ MemFault) → IsSound m
    → SpaceKept m (fetched_signed s m r)
fetches_signed s m (Ok n) sound = same m sound
fetches_signed s m (Err fault) sound = tt

-- ---- writes

pub low_small : (x : Cell) → (low_byte x).0 < 256
low_small x = omega arith

writes : (l : Laws) (w : Width) (m : DataSpace) (a x : ℕ) (s : List Cell) → IsSound m
    → SpaceKept m (stored s (write w m a x))
writes l w m a x s sound = store m s (write w m a x) (by_write l w m a x (write w m a x) sound refl)

values : (l : Laws) (x : Cell) (s : List Cell) (m : DataSpace) → IsSound m → SpaceKept m (value_stored x s m)
values l x [] m sound = tt
values l x (a ∷ s) m sound = writes l Four m a.0 x.0 s sound

appends : (m : DataSpace) (s : List Cell) (r : Result (ℕ × DataSpace) MemFault) → Answered m r
    → SpaceKept m (appended_under s r)
appends m s (Ok x) h = h
appends m s (Err fault) h = tt

commas : (l : Laws) (m : DataSpace) (s : List Cell) (n x : ℕ) → IsSound m
    → SpaceKept m (appended_under s (appended m (bytes_high_first n x)))
commas l m s n x sound =
    let xs = bytes_high_first n x in
    let r = appended m xs in
    appends m s r (by_append l m xs r sound (l.sound.number n x) refl)

-- two cells, the second as it may be written then
twos : (l : Laws) (m : DataSpace) (a y x : Cell) → IsSound m → write_fault m a.0 8 Four ≡ None
    → Keeps m (two_written m a y x)
twos l m a y x sound e =
    let xs = bytes_high_first 4 y.0 in
    let first = number_kept l Four m a.0 y.0 sound (l.parts.first_writes m a.0 e) in
    then_kept m (written m a.0 xs) (two_written m a y x) first
    (number_kept l Four (written m a.0 xs) (plus a (number 4)).0 x.0 first.sound (l.parts.second_writes m a.0 xs e))

-- the table of the words over memory
pub memory_stands : (l : Laws) (w : MemoryWord) (s : List Cell) (m : DataSpace) → IsSound m
    → SpaceKept m (memory_entry w s m)
unfolding memory_entry
memory_stands l memory.On s m sound = values l (number (2 ^ 32 - 1)) s m sound
memory_stands l memory.Off s m sound = values l (number 0) s m sound
memory_stands l memory.PlusStore (a ∷ n ∷ s) m sound =
    fault_unless m (write_fault m a.0 4 Four) _ (λ e. number_kept l Four m a.0 (plus (cell_at m a.0) n).0 sound e)
memory_stands l memory.Fetch (a ∷ s) m sound = fetches s m _ sound
memory_stands l memory.FetchLong (a ∷ s) m sound = fetches s m _ sound
memory_stands l memory.FetchWord (a ∷ s) m sound = fetches s m _ sound
memory_stands l memory.FetchSignedWord (a ∷ s) m sound = fetches_signed s m _ sound
memory_stands l memory.FetchByte (a ∷ s) m sound = fetches s m _ sound
memory_stands l memory.Store (a ∷ x ∷ s) m sound = writes l Four m a.0 x.0 s sound
memory_stands l memory.StoreLong (a ∷ x ∷ s) m sound = writes l Four m a.0 x.0 s sound
memory_stands l memory.StoreWord (a ∷ x ∷ s) m sound = writes l Two m a.0 (low_half x).0 s sound
memory_stands l memory.StoreByte (a ∷ x ∷ s) m sound = writes l One m a.0 (low_byte x).0 s sound
memory_stands l memory.FetchTwo (a ∷ s) m sound =
    thrown_unless m
    (counting (fault_of (read_fault m a.0 8 Four) ∷ fault_if (nat_lt 256 (length s + 2)) stack_overflow ∷ []))
    (Ok (cell_at m a.0 ∷ cell_at m (plus a (number 4)).0 ∷ s, m)) (same m sound)
memory_stands l memory.StoreTwo (a ∷ y ∷ x ∷ s) m sound =
    fault_unless m (write_fault m a.0 8 Four) _ (λ e. twos l m a y x sound e)
memory_stands l memory.Move (n ∷ to ∷ from ∷ s) m sound =
    store m s _ (by_copy l m from.0 to.0 n.0 (copied m from.0 to.0 n.0) sound refl)
memory_stands l memory.Fill (x ∷ n ∷ a ∷ s) m sound =
    let r = filled m a.0 n.0 (low_byte x).0 in
    store m s r (by_fill l m a.0 n.0 (low_byte x).0 r sound (low_small x) refl)
memory_stands l memory.Compare (n ∷ b ∷ a ∷ s) m sound =
    fault_unless m (read_fault m a.0 n.0 One) _ (λ e. fault_unless m (read_fault m b.0 n.0 One) _ (λ f. same m sound))
memory_stands l memory.CommaByte (x ∷ s) m sound = commas l m s 1 (low_byte x).0 sound
memory_stands l memory.CommaWord (x ∷ s) m sound = commas l m s 2 (low_half x).0 sound
memory_stands l memory.CommaLong (x ∷ s) m sound = commas l m s 4 x.0 sound
memory_stands l memory.Comma (x ∷ s) m sound = commas l m s 4 x.0 sound
memory_stands l memory.FreeMem (n ∷ a ∷ s) m sound =
    store m s _ (by_heap_give l m a.0 n.0 (heap_given m a.0 n.0) sound refl)
memory_stands l w s m sound = tt

-- ---- text

refuses : (m : DataSpace) (b : Bool) (t : Throw) (x : Space) → (b ≡ false → Keeps m x.1)
    → SpaceKept m (refused_if b t x)
refuses m true t x h = tt
refuses m false t x h = h refl

pub text_stands : (l : Laws) (w : TextWord) (s : List Cell) (m : DataSpace) → IsSound m
    → SpaceKept m (text_entry w s m)
unfolding text_entry
text_stands l text.UpperCase (char ∷ s) m sound = same m sound
text_stands l text.LowerCase (char ∷ s) m sound = same m sound
text_stands l text.Pack (a ∷ n ∷ from ∷ s) m sound =
    fault_unless m (read_fault m from.0 n.0 One) _
    (λ e. fault_unless m (write_fault m a.0 (n.0 + 1) One) _
    (λ f. refuses m (nat_lt 255 n.0) invalid_argument _
    (λ few. bytes_kept l m a.0 (n.0 + 1) (n.0 ∷ bytes_from m from.0 n.0) sound
    (byte_more n.0 (bytes_from m from.0 n.0) (omega (arith, ltb-false 255 n.0 few)) (bytes_there m from.0 n.0 sound))
    (omega (arith, length-take n.0 (drop (place_of from.0) m.bytes))) f)))
text_stands l text.Count (a ∷ s) m sound = fault_unless m (read_fault m a.0 1 One) _ (λ e. overs m _ sound)
text_stands l text.Blank s m sound = overs m _ sound
text_stands l text.Backspace s m sound = overs m _ sound
text_stands l text.Bell s m sound = overs m _ sound
text_stands l text.LeftParseString (char ∷ n ∷ a ∷ s) m sound =
    fault_unless m (read_fault m a.0 n.0 One) _ (λ e. overs m _ sound)
text_stands l text.ParseTwoInts (n ∷ a ∷ s) m sound =
    fault_unless m (read_fault m a.0 n.0 One) _ (λ e. overs m _ sound)
text_stands l w s m sound = tt
