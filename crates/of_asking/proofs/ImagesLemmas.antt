-- The law `images_stay_asked`: these words write into the data space as its calls do, which keep the images and the
-- properties.
use Rattle.std.proofs.Common.{◌≡◌, ℕ, Bool, true, false, List, [], ◌∷◌, length, nat_le}
use Rattle.std.proofs.Common.{Option, Some, None, Result, Ok, Err, refl, subst, if◌then◌else◌}
use Rattle.of_cells.specs.declared.cells.Cell.{Cell}
use Rattle.of_cells.specs.Numbers.{flag}
use Rattle.of_cells.specs.Splitting.{low_byte, low_half}
use Rattle.of_stacks.specs.declared.throws.Throw.{Throw}
use Rattle.of_stacks.specs.Throws.{misaligned, stack_overflow}
use Rattle.of_fcodes.specs.declared.words.DevicesWord.{DevicesWord}
use Rattle.of_fcodes.specs.declared.words.DevicesWord.TheVariants as word
use Rattle.of_fcodes.specs.declared.words.KeysWord.{KeysWord}
use Rattle.of_fcodes.specs.declared.words.KeysWord.TheVariants.{KeyReady, Key}
use Rattle.of_memory.specs.Access.{read, write}
use Rattle.of_memory.specs.DataSpace.{DataSpace, IsSound}
use Rattle.of_memory.specs.ImageRegion.{ImagesChangeByImagesAlone, KeepsImages}
use Rattle.of_memory.specs.PropertyRegion.{KeepsProperties, PropertiesChangeByPutsAlone}
use Rattle.of_memory.specs.SoundChanges.{ChangesStaySound}
use Rattle.of_memory.specs.declared.fault.MemFault.{MemFault}
use Rattle.of_memory.specs.declared.width.Width.{Width}
use Rattle.of_memory.specs.declared.width.Width.TheVariants.{One, Two, Four}
use Rattle.of_prims.specs.Data.{Space, stored}
use Rattle.of_prims.specs.Memory.{fetched, memory_entry}
use Rattle.of_board.specs.declared.board.Board.{Board}
use Rattle.of_asking.specs.declared.query.Query.{Query}
use Rattle.of_asking.specs.declared.query.Query.TheVariants as query
use Rattle.of_asking.specs.declared.query.Answer.{Answer}
use Rattle.of_asking.specs.Devices.{at_device, cut, devices_entry, failed, fetch_of, in_memory, is_aligned, is_device}
use Rattle.of_asking.specs.Devices.{peek_entry, peeked, poke_entry, poked, read_entry, space_left, store_of}
use Rattle.of_asking.specs.Devices.{write_entry}
use Rattle.of_asking.specs.Images.{ImagesStayAsked, Keeps}
use Rattle.of_asking.specs.Keys.{keys_entry, one_more, wait_entry}
use Rattle.of_board.specs.Left.{stack_left}
use Rattle.of_asking.specs.Questions.{Asking, Asks, Gives, answered, asked}

-- what the data space promises of its writes
pub record Given : Type 0 where
  pub sound : ChangesStaySound
  pub images : ImagesChangeByImagesAlone
  pub properties : PropertiesChangeByPutsAlone

-- a data space that is left keeps the images and the properties, and is sound
record KeepsSpace (m after : DataSpace) : Type 0 where
  images : KeepsImages m after
  properties : KeepsProperties m after
  sound : IsSound after

-- what is left keeps them, and the tree
abbrev LeavesKept : Board → Result Board Throw → Type 0
LeavesKept b (Ok after) = Keeps b after
LeavesKept b (Err t) = Unit {0}

abbrev AskingKeeps : Board → Asking Board → Type 0
AskingKeeps b (Gives r) = LeavesKept b r
AskingKeeps b (Asks q) = Unit {0}

abbrev SpaceKept : DataSpace → Result Space Throw → Type 0
SpaceKept m (Ok x) = KeepsSpace m x.1
SpaceKept m (Err t) = Unit {0}

same : (m : DataSpace) → IsSound m → KeepsSpace m m
same m sound = record {
  images = (refl, refl);
  properties = record { reads = λ a n from to. refl; ends = refl };
  sound = sound;
}

by_write : (g : Given) (w : Width) (m after : DataSpace) (a x : ℕ) → IsSound m → write w m a x ≡ Ok after
    → KeepsSpace m after
by_write g w m after a x sound e = record {
  images = g.images.by_write w m after a x sound e;
  properties = g.properties.by_write w m after a x sound e;
  sound = g.sound.by_write w m after a x sound e;
}

-- a board with another data stack and such a data space
with_space : (b : Board) (s : List Cell) (m : DataSpace) → KeepsSpace b.memory m
    → Keeps b (record b { stack = s; memory = m })
with_space b s m k = record { images = k.images; properties = k.properties; tree = refl; sound = k.sound }

-- ---- answers and tests

left : (b : Board) (r : Result (List Cell) Throw) → IsSound b.memory → LeavesKept b (stack_left b r)
left b (Ok s) sound = with_space b s b.memory (same b.memory sound)
left b (Err t) sound = tt

questions : (q : Query) (reply : Option Answer) (b : Board) → IsSound b.memory
    → AskingKeeps b (asked q reply b)
questions q None b sound = tt
questions q (Some answer) b sound = left b (answered q answer b.stack) sound

either : (c : Bool) (b : Board) (x y : Asking Board) → AskingKeeps b x → AskingKeeps b y
    → AskingKeeps b (if c then x else y)
either true b x y h k = h
either false b x y h k = k

device : (w : Width) (a : ℕ) (q : Query) (reply : Option Answer) (b : Board) (y : Asking Board) → IsSound b.memory
    → AskingKeeps b y
    → AskingKeeps b (if is_device a w then at_device a w (asked q reply b) else y)
device w a q reply b y sound k =
    either (is_device a w) b (at_device a w (asked q reply b)) y
    (either (is_aligned a w) b (asked q reply b) (Gives (Err misaligned)) (questions q reply b sound) tt)
    k

-- ---- the data space

space : (b : Board) (r : Result Space Throw) → SpaceKept b.memory r → LeavesKept b (space_left b r)
space b (Ok x) h = with_space b x.0 x.1 h
space b (Err t) h = tt

fetches : (s : List Cell) (m : DataSpace) (r : Result ℕ MemFault) → IsSound m → SpaceKept m (fetched s m r)
fetches s m (Ok n) sound = same m sound
fetches s m (Err fault) sound = tt

fetched_kept : (w : Width) (a : Cell) (s : List Cell) (m : DataSpace) → IsSound m
    → SpaceKept m (memory_entry (fetch_of w) (a ∷ s) m)
unfolding memory_entry
fetched_kept One a s m sound = fetches s m (read One m a.0) sound
fetched_kept Two a s m sound = fetches s m (read Two m a.0) sound
fetched_kept Four a s m sound = fetches s m (read Four m a.0) sound

stores : (g : Given) (w : Width) (m : DataSpace) (a x : ℕ) (s : List Cell) (r : Result DataSpace MemFault) → IsSound m
    → write w m a x ≡ r → SpaceKept m (stored s r)
stores g w m a x s (Ok after) sound e = by_write g w m after a x sound e
stores g w m a x s (Err fault) sound e = tt

stored_kept : (g : Given) (w : Width) (a x : Cell) (s : List Cell) (m : DataSpace) → IsSound m
    → SpaceKept m (memory_entry (store_of w) (a ∷ x ∷ s) m)
unfolding memory_entry
stored_kept g One a x s m sound =
    stores g One m a.0 (low_byte x).0 s (write One m a.0 (low_byte x).0) sound refl
stored_kept g Two a x s m sound =
    stores g Two m a.0 (low_half x).0 s (write Two m a.0 (low_half x).0) sound refl
stored_kept g Four a x s m sound = stores g Four m a.0 x.0 s (write Four m a.0 x.0) sound refl

pokes_there : (g : Given) (w : Width) (a x : ℕ) (s : List Cell) (b : Board) (r : Result DataSpace MemFault)
    → IsSound b.memory → write w b.memory a x ≡ r → LeavesKept b (poked s b r)
pokes_there g w a x s b (Ok after) sound e =
    with_space b (flag true ∷ s) after (by_write g w b.memory after a x sound e)
pokes_there g w a x s b (Err fault) sound e = left b (failed s fault) sound

-- ---- words; the stack that each finds is the board's

reads : (w : Width) (s : List Cell) (reply : Option Answer) (b : Board) → b.stack ≡ s → IsSound b.memory
    → AskingKeeps b (read_entry w s reply b)
reads w [] reply b e sound = tt
reads w (a ∷ s) reply b e sound =
    device w a.0 (query.Read w a) reply b (in_memory (fetch_of w) b) sound
    (space b (memory_entry (fetch_of w) b.stack b.memory) (rw e (fetched_kept w a s b.memory sound)))

writes : (g : Given) (w : Width) (s : List Cell) (reply : Option Answer) (b : Board) → b.stack ≡ s → IsSound b.memory
    → AskingKeeps b (write_entry w s reply b)
writes g w [] reply b e sound = tt
writes g w (a ∷ []) reply b e sound = tt
writes g w (a ∷ x ∷ s) reply b e sound =
    device w a.0 (query.Write w a (cut w x)) reply b (in_memory (store_of w) b) sound
    (space b (memory_entry (store_of w) b.stack b.memory) (rw e (stored_kept g w a x s b.memory sound)))

peeks : (w : Width) (s : List Cell) (reply : Option Answer) (b : Board) → IsSound b.memory
    → AskingKeeps b (peek_entry w s reply b)
peeks w [] reply b sound = tt
peeks w (a ∷ s) reply b sound =
    let r = peeked s (read w b.memory a.0) in
    device w a.0 (query.Peek w a) reply b (Gives (stack_left b r)) sound (left b r sound)

pokes : (g : Given) (w : Width) (s : List Cell) (reply : Option Answer) (b : Board) → IsSound b.memory
    → AskingKeeps b (poke_entry w s reply b)
pokes g w [] reply b sound = tt
pokes g w (a ∷ []) reply b sound = tt
pokes g w (a ∷ x ∷ s) reply b sound =
    let r = write w b.memory a.0 (cut w x).0 in
    device w a.0 (query.Poke w a (cut w x)) reply b (Gives (poked s b r)) sound
    (pokes_there g w a.0 (cut w x).0 s b r sound refl)

one : (q : Query) (reply : Option Answer) (b : Board) → IsSound b.memory → AskingKeeps b (one_more q reply b)
one q reply b sound =
    either (nat_le 256 (length b.stack)) b (Gives (Err stack_overflow)) (asked q reply b) tt
    (questions q reply b sound)

waits : (s : List Cell) (reply : Option Answer) (b : Board) → IsSound b.memory
    → AskingKeeps b (wait_entry s reply b)
waits [] reply b sound = tt
waits (n ∷ s) reply b sound = questions (query.Wait n) reply b sound

devices : (g : Given) (w : DevicesWord) (reply : Option Answer) (b : Board) → IsSound b.memory
    → AskingKeeps b (devices_entry w reply b)
unfolding devices_entry
devices g word.PeekByte reply b sound = peeks One b.stack reply b sound
devices g word.PeekWord reply b sound = peeks Two b.stack reply b sound
devices g word.PeekLong reply b sound = peeks Four b.stack reply b sound
devices g word.PokeByte reply b sound = pokes g One b.stack reply b sound
devices g word.PokeWord reply b sound = pokes g Two b.stack reply b sound
devices g word.PokeLong reply b sound = pokes g Four b.stack reply b sound
devices g word.ReadByte reply b sound = reads One b.stack reply b refl sound
devices g word.ReadWord reply b sound = reads Two b.stack reply b refl sound
devices g word.ReadLong reply b sound = reads Four b.stack reply b refl sound
devices g word.WriteByte reply b sound = writes g One b.stack reply b refl sound
devices g word.WriteWord reply b sound = writes g Two b.stack reply b refl sound
devices g word.WriteLong reply b sound = writes g Four b.stack reply b refl sound
devices g word.Milliseconds reply b sound = one query.Milliseconds reply b sound
devices g word.Wait reply b sound = waits b.stack reply b sound

keys : (w : KeysWord) (reply : Option Answer) (b : Board) → IsSound b.memory
    → AskingKeeps b (keys_entry w reply b)
unfolding keys_entry
keys KeyReady reply b sound = one query.KeyReady reply b sound
keys Key reply b sound = one query.Key reply b sound

given : (b : Board) (x : Asking Board) (after : Board) → AskingKeeps b x → x ≡ Gives (Ok after) → Keeps b after
given b x after h e = subst (AskingKeeps b) e h

pub images_stay_asked : Given → ImagesStayAsked
images_stay_asked g = record {
  devices = λ w reply b after sound e. given b (devices_entry w reply b) after (devices g w reply b sound) e;
  keys = λ w reply b after sound e. given b (keys_entry w reply b) after (keys w reply b sound) e;
}
