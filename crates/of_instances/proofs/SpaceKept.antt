-- The law `words_keep_the_space`: what a change of the data space leaves of a board, and which lists are bytes.
use Rattle.std.proofs.Common.{◌≡◌, ℕ, ◌<◌, Bool, true, false, List, [], ◌∷◌, ◌++◌, length}
use Rattle.std.proofs.Common.{drop, nat_lt, Option, Some, None, Result, Ok, Err, refl}
use Rattle.std.proofs.Common.{if◌then◌else◌}
use Rattle.std.proofs.lemmas.Bool.{and_parts, ltb-true}
use Rattle.std.proofs.lemmas.List.Elements.{All-append, All-cons, All-drop, All-nil, All-take}
use Rattle.std.specs.List.{list_all}
use Rattle.byteorder.specs.Endian.{big_bytes}
use Rattle.of_cells.specs.declared.cells.Cell.{Cell}
use Rattle.of_stacks.specs.declared.throws.Throw.{Throw}
use Rattle.of_stacks.specs.Order.{refused_if}
use Rattle.of_stacks.specs.Throws.{stack_overflow}
use Rattle.of_memory.specs.Access.{read_fault, unless}
use Rattle.of_memory.specs.DataSpace.{DataSpace, IsSound, bytes_from}
use Rattle.of_memory.specs.ImageRegion.{ImagesChangeByImagesAlone}
use Rattle.of_memory.specs.PropertyRegion.{PropertiesChangeByPutsAlone}
use Rattle.of_memory.specs.Regions.{place_of}
use Rattle.of_memory.specs.SoundChanges.{AreBytes, ChangesStaySound}
use Rattle.of_memory.specs.declared.fault.MemFault.{MemFault}
use Rattle.of_memory.specs.declared.width.Width.TheVariants.{One}
use Rattle.of_nodes.specs.SpaceKept.{PropertiesKeepTheSpace}
use Rattle.of_nodes.specs.Stored.{AreStored, StoredStays}
use Rattle.of_props.specs.Encoding.{phys_bytes}
use Rattle.of_ihandles.specs.SpaceKept.{InstancesKeepTheSpace, Keeps as KeepsSpace}
use Rattle.of_board.specs.declared.board.Board.{Board}
use Rattle.of_instances.specs.Left.{with_room, with_stack}
use Rattle.of_instances.specs.Reading.{text_at, text_read}
use Rattle.of_instances.specs.SpaceKept.{Keeps}

-- what the laws of the layers below say
pub record Given : Type 0 where
  pub sound : ChangesStaySound
  pub images : ImagesChangeByImagesAlone
  pub properties : PropertiesChangeByPutsAlone
  pub nodes : PropertiesKeepTheSpace
  pub stored : StoredStays
  pub instances : InstancesKeepTheSpace

abbrev pub BoardKept : Board → Result Board Throw → Type 0
BoardKept w (Ok after) = Keeps w after
BoardKept w (Err t) = Unit {0}

pub same : {s : List Cell} (w : Board) → IsSound w.memory → Keeps w (with_stack w s)
same w sound = record { sound = sound; images = (refl, refl); stored = λ a. a }

-- what keeps the properties of the data space, where the tree keeps those that it has
pub by_space : (g : Given) (w after : Board) → IsSound w.memory → KeepsSpace w.memory after.memory
    → (AreStored w.memory w.tree → AreStored w.memory after.tree) → Keeps w after
by_space g w after sound k tree = record {
  sound = k.sound;
  images = k.images;
  stored = λ a. g.stored.by_others w.memory after.memory after.tree sound k.properties (tree a);
}

room_if : (w : Board) (b : Bool) (after : Board) → Keeps w after → BoardKept w (refused_if b stack_overflow after)
room_if w true after h = tt
room_if w false after h = h

pub room : (w : Board) (r : Result Board Throw) → BoardKept w r → BoardKept w (with_room r)
room w (Ok after) h = room_if w (nat_lt 256 (length after.stack)) after h
room w (Err t) h = tt

pub either : (b : Bool) (w : Board) (x y : Result Board Throw) → BoardKept w x → BoardKept w y
    → BoardKept w (if b then x else y)
either true w x y h k = h
either false w x y h k = k

-- ---- bytes

pub no_bytes : AreBytes []
no_bytes = All-nil (λ b. b < 256)

pub joined : (xs ys : List ℕ) → AreBytes xs → AreBytes ys → AreBytes (xs ++ ys)
joined xs ys h k = All-append (λ b. b < 256) xs ys h k

-- by a test of each
pub tested : (xs : List ℕ) → list_all (λ b. nat_lt b 256) xs ≡ true → AreBytes xs
tested [] e = no_bytes
tested (b ∷ xs) e =
    let both = and_parts (nat_lt b 256) (list_all (λ b. nat_lt b 256) xs) e in
    All-cons (λ b. b < 256) b xs (ltb-true b 256 both.0) (tested xs both.1)

-- those of cells
pub phys_small : Given → (cells : List Cell) → AreBytes (phys_bytes cells)
phys_small g [] = no_bytes
phys_small g (c ∷ cells) = joined (big_bytes 4 c.0) (phys_bytes cells) (g.sound.number 4 c.0) (phys_small g cells)

-- those of a sound data space
pub part : (m : DataSpace) (a n : ℕ) → IsSound m → AreBytes (bytes_from m a n)
part m a n sound =
    All-take (λ b. b < 256) n (drop (place_of a) m.bytes) (All-drop (λ b. b < 256) (place_of a) m.bytes sound.small)

-- a text that is there
abbrev pub IsText : Result (List ℕ) Throw → Type 0
IsText (Ok xs) = AreBytes xs
IsText (Err t) = Unit {0}

text_if : (o : Option MemFault) (xs : List ℕ) → AreBytes xs → IsText (text_read (unless o xs))
text_if None xs h = h
text_if (Some fault) xs h = tt

pub text : (m : DataSpace) (a n : Cell) → IsSound m → IsText (text_at m a n)
text m a n sound = text_if (read_fault m a.0 n.0 One) (bytes_from m a.0 n.0) (part m a.0 n.0 sound)
