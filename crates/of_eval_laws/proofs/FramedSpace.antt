-- What a call of the data space leaves, by the laws of the layers below: a sound one, with the same images and
-- properties; and what is left of the board then.
use Rattle.std.proofs.Common.{◌≡◌, ℕ, ◌+◌, ◌%◌, ◌<◌, ◌≤◌, Bool, List, length, Option, None}
use Rattle.std.proofs.Common.{Result, Ok, Err, refl, sym, ap, ◌∙◌, subst, arith}
use Rattle.of_stacks.specs.declared.throws.Throw.{Throw}
use Rattle.of_fcodes.specs.declared.words.DevicesWord.{DevicesWord}
use Rattle.of_fcodes.specs.declared.words.KeysWord.{KeysWord}
use Rattle.of_asking.specs.Devices.{devices_entry}
use Rattle.of_asking.specs.Images.{ImagesStayAsked, Keeps as KeepsAsked}
use Rattle.of_asking.specs.Keys.{keys_entry}
use Rattle.of_asking.specs.Questions.{Asking, Asks, Gives}
use Rattle.of_asking.specs.declared.query.Answer.{Answer}
use Rattle.of_memory.specs.Access.{bytes_written, copied, filled, unless, write, write_fault}
use Rattle.of_memory.specs.BlockCalls.{heap_given, heap_taken}
use Rattle.of_memory.specs.DataSpace.{DataSpace, IsSound, written}
use Rattle.of_memory.specs.Growth.{append_copied, appended, with_state, zeros_allotted}
use Rattle.of_memory.specs.ImageRegion.{ImagesChangeByImagesAlone, KeepsImages}
use Rattle.of_memory.specs.Images.{LatestIsPushed}
use Rattle.of_memory.specs.PropertyRegion.{PropertiesChangeByPutsAlone}
use Rattle.of_memory.specs.RangeLaws.{PartsAreGood, ScratchIsOpen}
use Rattle.of_memory.specs.SoundChanges.{AreBytes, ChangesStaySound}
use Rattle.of_memory.specs.Width.{bytes_in}
use Rattle.of_memory.specs.declared.fault.MemFault.{MemFault}
use Rattle.of_memory.specs.declared.width.Width.{Width}
use Rattle.of_memory.specs.declared.width.Width.TheVariants.{One}
use Rattle.std.specs.Int.{bytes_high_first}
use Rattle.of_nodes.specs.SpaceKept.{PropertiesKeepTheSpace}
use Rattle.of_nodes.specs.Stored.{AreStored, StoredStays}
use Rattle.of_ihandles.specs.SpaceKept.{InstancesKeepTheSpace, Keeps}
use Rattle.of_board.specs.declared.board.Board.{Board}
use Rattle.of_instances.specs.SpaceKept.{Keeps as KeepsBoard, WordsKeepTheSpace}
use Rattle.of_words.specs.SpaceKept.{ConsoleWordsKeepTheSpace}

-- what the laws of the layers below say
pub record Laws : Type 0 where
  pub sound : ChangesStaySound
  pub images : ImagesChangeByImagesAlone
  pub properties : PropertiesChangeByPutsAlone
  pub parts : PartsAreGood
  pub scratch : ScratchIsOpen
  pub pushes : LatestIsPushed
  pub nodes : PropertiesKeepTheSpace
  pub stored : StoredStays
  pub instances : InstancesKeepTheSpace
  pub words : WordsKeepTheSpace
  pub console : ConsoleWordsKeepTheSpace
  pub asking : ImagesStayAsked

-- ---- the data space

pub same : (m : DataSpace) → IsSound m → Keeps m m
same m sound = record {
  sound = sound;
  images = (refl, refl);
  properties = record { reads = λ a n from to. refl; ends = refl };
}

-- and then others
pub then_kept : (m between after : DataSpace) → Keeps m between → Keeps between after → Keeps m after
then_kept m between after f g = record {
  sound = g.sound;
  images = (g.images.0 ∙ f.images.0, g.images.1 ∙ f.images.1);
  properties = record {
    reads = λ a n from to. g.properties.reads a n from to ∙ f.properties.reads a n from to;
    ends = g.properties.ends ∙ f.properties.ends;
  };
}

-- what a call left, and what one left that answers, too
abbrev pub Left : DataSpace → Result DataSpace MemFault → Type 0
Left m (Ok after) = Keeps m after
Left m (Err fault) = Unit {0}

abbrev pub Answered : DataSpace → Result (ℕ × DataSpace) MemFault → Type 0
Answered m (Ok x) = Keeps m x.1
Answered m (Err fault) = Unit {0}

pub by_write : (l : Laws) (w : Width) (m : DataSpace) (a x : ℕ) (r : Result DataSpace MemFault) → IsSound m
    → write w m a x ≡ r → Left m r
by_write l w m a x (Ok after) sound e = record {
  sound = l.sound.by_write w m after a x sound e;
  images = l.images.by_write w m after a x sound e;
  properties = l.properties.by_write w m after a x sound e;
}
by_write l w m a x (Err fault) sound e = tt

pub by_fill : (l : Laws) (m : DataSpace) (a n x : ℕ) (r : Result DataSpace MemFault) → IsSound m → x < 256
    → filled m a n x ≡ r → Left m r
by_fill l m a n x (Ok after) sound small e = record {
  sound = l.sound.by_fill m after a n x sound small e;
  images = l.images.by_fill m after a n x sound e;
  properties = l.properties.by_fill m after a n x sound e;
}
by_fill l m a n x (Err fault) sound small e = tt

pub by_copy : (l : Laws) (m : DataSpace) (from to n : ℕ) (r : Result DataSpace MemFault) → IsSound m
    → copied m from to n ≡ r → Left m r
by_copy l m from to n (Ok after) sound e = record {
  sound = l.sound.by_copy m after from to n sound e;
  images = l.images.by_copy m after from to n sound e;
  properties = l.properties.by_copy m after from to n sound e;
}
by_copy l m from to n (Err fault) sound e = tt

pub by_heap_give : (l : Laws) (m : DataSpace) (a n : ℕ) (r : Result DataSpace MemFault) → IsSound m
    → heap_given m a n ≡ r → Left m r
by_heap_give l m a n (Ok after) sound e = record {
  sound = l.sound.by_heap_give m after a n sound e;
  images = l.images.by_heap_give m after a n sound e;
  properties = l.properties.by_heap_give m after a n e;
}
by_heap_give l m a n (Err fault) sound e = tt

pub by_heap_take : (l : Laws) (m : DataSpace) (n : ℕ) (r : Result (ℕ × DataSpace) MemFault) → IsSound m
    → heap_taken m n ≡ r → Answered m r
by_heap_take l m n (Ok x) sound e = record {
  sound = l.sound.by_heap_take m x.1 n x.0 sound e;
  images = l.images.by_heap_take m x.1 n x.0 sound e;
  properties = l.properties.by_heap_take m x.1 n x.0 sound e;
}
by_heap_take l m n (Err fault) sound e = tt

pub by_append : (l : Laws) (m : DataSpace) (xs : List ℕ) (r : Result (ℕ × DataSpace) MemFault) → IsSound m
    → AreBytes xs → appended m xs ≡ r → Answered m r
by_append l m xs (Ok x) sound small e = record {
  sound = l.sound.by_append m x.1 xs x.0 sound small e;
  images = l.images.by_append m x.1 xs x.0 sound e;
  properties = l.properties.by_append m x.1 xs x.0 sound e;
}
by_append l m xs (Err fault) sound small e = tt

pub by_append_copy : (l : Laws) (m : DataSpace) (a n : ℕ) (tail : List ℕ) (r : Result (ℕ × DataSpace) MemFault)
    → IsSound m → AreBytes tail → append_copied m a n tail ≡ r → Answered m r
by_append_copy l m a n tail (Ok x) sound small e = record {
  sound = l.sound.by_append_copy m x.1 a n tail x.0 sound small e;
  images = l.images.by_append_copy m x.1 a n tail x.0 sound e;
  properties = l.properties.by_append_copy m x.1 a n tail x.0 sound e;
}
by_append_copy l m a n tail (Err fault) sound small e = tt

pub by_zeros : (l : Laws) (m : DataSpace) (n : ℕ) (r : Result (ℕ × DataSpace) MemFault) → IsSound m
    → zeros_allotted m n ≡ r → Answered m r
by_zeros l m n (Ok x) sound e = record {
  sound = l.sound.by_zeros m x.1 n x.0 sound e;
  images = l.images.by_zeros m x.1 n x.0 sound e;
  properties = l.properties.by_zeros m x.1 n x.0 sound e;
}
by_zeros l m n (Err fault) sound e = tt

pub by_state : (l : Laws) (m : DataSpace) (compiling : Bool) → IsSound m → Keeps m (with_state m compiling)
by_state l m compiling sound = record {
  sound = l.sound.by_state m compiling sound;
  images = l.images.by_state m compiling sound;
  properties = l.properties.by_state m compiling sound;
}

-- a number where it may be written
pub number_kept : (l : Laws) (w : Width) (m : DataSpace) (a x : ℕ) → IsSound m → write_fault m a (bytes_in w) w ≡ None
    → Keeps m (written m a (bytes_high_first (bytes_in w) x))
number_kept l w m a x sound e =
    let after = written m a (bytes_high_first (bytes_in w) x) in
    by_write l w m a x (Ok after) sound (ap (λ (f : Option MemFault). unless f after) e)

-- bytes where as many or more may be written
pub bytes_kept : (l : Laws) (m : DataSpace) (a n : ℕ) (xs : List ℕ) → IsSound m → AreBytes xs → length xs ≤ n
    → write_fault m a n One ≡ None → Keeps m (written m a xs)
bytes_kept l m a n xs sound small few e =
    let after = written m a xs in
    let first : a + 0 ≡ a = omega arith in
    let whole : (a + 0) % 1 ≡ 0 = omega arith in
    let part : write_fault m (a + 0) (length xs) One ≡ None =
    l.parts.part_writes m a n 0 (length xs) One One e (omega (arith, few)) whole in
    let fault : write_fault m a (length xs) One ≡ None =
    subst (λ (b : ℕ). write_fault m b (length xs) One ≡ None) first part in
    let done : bytes_written m a xs ≡ Ok after = ap (λ (f : Option MemFault). unless f after) fault in
    record {
      sound = l.sound.by_bytes m after a xs sound small done;
      images = l.images.by_bytes m after a xs sound done;
      properties = l.properties.by_bytes m after a xs sound done;
    }

-- ---- the board

-- a sound data space with the same images, and properties that are stored if they were
abbrev pub Stands : Board → Board → Type 0
Stands w after =
    KeepsImages w.memory after.memory × IsSound after.memory
    × (AreStored w.memory w.tree → AreStored after.memory after.tree)

pub stays : (w : Board) → IsSound w.memory → Stands w w
stays w sound = ((refl, refl), sound, (λ a. a))

pub then_stands : (w between after : Board) → Stands w between → Stands between after → Stands w after
then_stands w between after f g = ((g.0.0 ∙ f.0.0, g.0.1 ∙ f.0.1), g.1, (λ a. g.2 (f.2 a)))

-- with another data space
pub by_space : (l : Laws) (w : Board) (m : DataSpace) → IsSound w.memory → Keeps w.memory m
    → Stands w (record w { memory = m })
by_space l w m sound k =
    (k.images, k.sound, (λ a. l.stored.by_others w.memory m w.tree sound k.properties a))

pub by_words : (w after : Board) → KeepsBoard w after → Stands w after
by_words w after k = (k.images, k.sound, k.stored)

abbrev pub BoardStands : Board → Result Board Throw → Type 0
BoardStands w (Ok after) = Stands w after
BoardStands w (Err t) = Unit {0}

-- ---- words that may ask

abbrev pub AskingStands : Board → Asking Board → Type 0
AskingStands w (Gives r) = BoardStands w r
AskingStands w (Asks q) = Unit {0}

by_asking_words : (l : Laws) (w after : Board) → IsSound w.memory → KeepsAsked w after → Stands w after
by_asking_words l w after sound k = (
  k.images,
  k.sound,
  (λ a. subst (λ ns. AreStored after.memory ns) (sym k.tree)
      (l.stored.by_others w.memory after.memory w.tree sound k.properties a)),
)

asking_stands : (l : Laws) (b : Board) (x : Asking Board) → IsSound b.memory
    → ((after : Board) → x ≡ Gives (Ok after) → KeepsAsked b after) → AskingStands b x
asking_stands l b (Gives (Ok after)) sound h = by_asking_words l b after sound (h after refl)
asking_stands l b (Gives (Err t)) sound h = tt
asking_stands l b (Asks q) sound h = tt

pub keys_stand : (l : Laws) (w : KeysWord) (reply : Option Answer) (b : Board) → IsSound b.memory
    → AskingStands b (keys_entry w reply b)
keys_stand l w reply b sound =
    asking_stands l b (keys_entry w reply b) sound (λ after e. l.asking.keys w reply b after sound e)

pub devices_stand : (l : Laws) (w : DevicesWord) (reply : Option Answer) (b : Board) → IsSound b.memory
    → AskingStands b (devices_entry w reply b)
devices_stand l w reply b sound =
    asking_stands l b (devices_entry w reply b) sound (λ after e. l.asking.devices w reply b after sound e)
