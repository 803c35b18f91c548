-- The law `images_run`: what an ordinary word and an image that begins leave of the images that run.
use Rattle.std.proofs.Common.{◌≡◌, ◌⊎◌, inl, ℕ, Bool, true, false, List, Option, Some, None, Result, Ok, Err}
use Rattle.std.proofs.Common.{if◌then◌else◌}
use Rattle.of_stacks.specs.declared.throws.Throw.{Throw}
use Rattle.of_fcodes.specs.declared.words.DevicesWord.{DevicesWord}
use Rattle.of_fcodes.specs.declared.words.KeysWord.{KeysWord}
use Rattle.of_fcodes.specs.declared.words.Word.{Word}
use Rattle.of_memory.specs.declared.fault.MemFault.{MemFault}
use Rattle.of_memory.specs.declared.width.Width.TheVariants.{One}
use Rattle.of_memory.specs.Access.{every, read_fault, spread_over, unless, with_read}
use Rattle.of_memory.specs.DataSpace.{DataSpace, IsSound}
use Rattle.of_memory.specs.Growth.{image_pushed, image_pushed_from}
use Rattle.of_memory.specs.PropertyRegion.{KeepsProperties}
use Rattle.of_memory.specs.Regions.{place_of}
use Rattle.of_nodes.specs.Stored.{AreStored}
use Rattle.of_board.specs.declared.board.Board.{Board}
use Rattle.of_asking.specs.Devices.{devices_entry}
use Rattle.of_asking.specs.Keys.{keys_entry}
use Rattle.of_asking.specs.Questions.{Asking, Asks, Gives}
use Rattle.of_state.specs.State.{Outcome, State, by_asking, by_board}
use Rattle.of_words.specs.Words.{word_entry}
use Rattle.of_eval_laws.specs.Running.{LatestEnd, OneBegins}
use Rattle.of_eval_laws.proofs.FramedSpace.{AskingStands, BoardStands, Laws, Stands, devices_stand, keys_stand, stays}
use Rattle.of_eval_laws.proofs.FramedWriting.{word_stands}
use Rattle.of_eval_laws.proofs.RunningBytes.{pushed}

-- one more runs; at the end of an image the latest may have ended
abbrev pub Changed : Bool → DataSpace → DataSpace → Type 0
Changed false m after = OneBegins m after
Changed true m after = LatestEnd 1 m after ⊎ OneBegins m after

-- so the images have changed, and the rest stands
abbrev pub Changes : Bool → Board → Board → Type 0
Changes b w after =
    IsSound after.memory × (AreStored w.memory w.tree → AreStored after.memory after.tree)
    × Changed b w.memory after.memory

-- the images stand, or have changed so
abbrev pub Kept : Bool → Board → Board → Type 0
Kept b w after = Stands w after ⊎ Changes b w after

abbrev pub KeptBy : Bool → Board → Board → Result (Unit {0}) Throw → Type 0
KeptBy b w after (Ok x) = Kept b w after
KeptBy b w after (Err t) = Stands w after

abbrev pub Leaves : {S : Type 0} → Bool → Board → Outcome S → Type 0
Leaves b w o = KeptBy b w o.state.board o.ended

pub left : (w : Board) → IsSound w.memory → Kept false w w
left w sound = inl (stays w sound)

-- what stands, whatever was thrown
pub stands_by : (b : Bool) (w after : Board) (e : Result (Unit {0}) Throw) → Stands w after → KeptBy b w after e
stands_by b w after (Ok x) h = inl h
stands_by b w after (Err t) h = h

pub either : {S : Type 0} (b : Bool) (w : Board) (chosen : Bool) (x y : Outcome S) → Leaves b w x → Leaves b w y
    → Leaves b w (if chosen then x else y)
either b w true x y p q = p
either b w false x y p q = q

-- ---- ordinary words

board_leave : {S : Type 0} (r : Result Board Throw) (s : State S) → IsSound s.board.memory → BoardStands s.board r
    → Leaves false s.board (by_board r s)
board_leave (Ok p) s sound h = inl h
board_leave (Err t) s sound h = stays s.board sound

pub ordinary : {S : Type 0} (l : Laws) (w : Word) (s : State S) → IsSound s.board.memory
    → Leaves false s.board (by_board (word_entry w s.board) s)
ordinary l w s sound = board_leave (word_entry w s.board) s sound (word_stands l w s.board sound)

-- ---- words that may ask

asking_leaves : {S : Type 0} (x : Asking Board) (s : State S) → IsSound s.board.memory → AskingStands s.board x
    → Leaves false s.board (by_asking x s)
asking_leaves (Gives r) s sound h = board_leave r s sound h
asking_leaves (Asks q) s sound h = left s.board sound

pub listens : {S : Type 0} (l : Laws) (w : KeysWord) (s : State S) → IsSound s.board.memory
    → Leaves false s.board (by_asking (keys_entry w s.reply s.board) s)
listens l w s sound =
    asking_leaves (keys_entry w s.reply s.board) s sound (keys_stand l w s.reply s.board sound)

pub reaches : {S : Type 0} (l : Laws) (w : DevicesWord) (s : State S) → IsSound s.board.memory
    → Leaves false s.board (by_asking (devices_entry w s.reply s.board) s)
reaches l w s sound =
    asking_leaves (devices_entry w s.reply s.board) s sound (devices_stand l w s.reply s.board sound)

-- ---- `byte-load`

-- a sound data space with the same properties, in which one more image runs
pub record Begins (m after : DataSpace) : Type 0 where
  pub sound : IsSound after
  pub properties : KeepsProperties m after
  pub one : OneBegins m after

one_begins : (l : Laws) (m : DataSpace) (fault : Option MemFault) (xs : List ℕ) (x : ℕ × DataSpace) → IsSound m
    → with_read (unless fault xs) (λ xs. image_pushed m xs) ≡ Ok x → OneBegins m x.1
one_begins l m None xs x sound e = (record { begin = x.0; bytes = xs }, pushed l.pushes m x.1 xs x.0 sound e)
one_begins l m (Some fault) xs x sound e = absurd cc

pub image_begins : (l : Laws) (m : DataSpace) (a n spread : ℕ) (x : ℕ × DataSpace) → IsSound m
    → image_pushed_from m a n spread ≡ Ok x → Begins m x.1
image_begins l m a n spread x sound e = record {
  sound = l.sound.by_push_from m x.1 a n spread x.0 sound e;
  properties = l.properties.by_push_from m x.1 a n spread x.0 sound e;
  one =
      one_begins l m (read_fault m a (spread_over n spread) One) (every m.bytes (place_of a) n spread) x sound e;
}
