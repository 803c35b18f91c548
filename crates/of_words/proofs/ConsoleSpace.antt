-- The law `console_words_keep_the_space`: what each of the console's words leaves of the data space.
use Rattle.std.proofs.Common.{◌≡◌, ℕ, ◌-◌, ◌%◌, List, [], ◌∷◌, Option, Some, None, Result, Ok, Err, refl, ap, subst}
use Rattle.std.proofs.Common.{arith}
use Rattle.of_cells.specs.declared.cells.Cell.{Cell}
use Rattle.of_stacks.specs.declared.throws.Throw.{Throw}
use Rattle.of_fcodes.specs.declared.console_words.ConsoleWord.{ConsoleWord}
use Rattle.of_fcodes.specs.declared.console_words.ConsoleWord.TheVariants as console
use Rattle.of_memory.specs.Access.{filled, unless, write, write_fault}
use Rattle.of_memory.specs.DataSpace.{DataSpace, IsSound}
use Rattle.of_memory.specs.Growth.{aligned, allotted}
use Rattle.of_memory.specs.ImageRegion.{ImagesChangeByImagesAlone, KeepsImages}
use Rattle.of_memory.specs.PropertyRegion.{KeepsProperties, PropertiesChangeByPutsAlone}
use Rattle.of_memory.specs.RangeLaws.{ScratchIsOpen}
use Rattle.of_memory.specs.Regions.{scratch_start}
use Rattle.of_memory.specs.SoundChanges.{ChangesStaySound}
use Rattle.of_memory.specs.declared.fault.MemFault.{MemFault}
use Rattle.of_memory.specs.declared.width.Width.TheVariants.{Four}
use Rattle.of_nodes.specs.declared.fault.NodeFault.{NodeFault}
use Rattle.of_nodes.specs.declared.phandles.Phandle.{Phandle}
use Rattle.of_nodes.specs.Stored.{StoredStays}
use Rattle.of_console.specs.Children.{ls_text}
use Rattle.of_console.specs.Texts.{properties_text, pwd_text}
use Rattle.of_board.specs.declared.board.Board.{Board}
use Rattle.of_instances.specs.SpaceKept.{Keeps}
use Rattle.of_words.specs.ConsoleWords.{allot_entry, console_entry, erase_entry, here_at, on_board, space_changed}
use Rattle.of_words.specs.ConsoleWords.{package_shown, spaces_entry, text_shown, with_base}
use Rattle.of_words.specs.SpaceKept.{ConsoleWordsKeepTheSpace}
use Rattle.of_words.proofs.Aligning.{allotted_aligned}

-- what the laws of the layers below say
pub record Given : Type 0 where
  pub sound : ChangesStaySound
  pub images : ImagesChangeByImagesAlone
  pub properties : PropertiesChangeByPutsAlone
  pub scratch : ScratchIsOpen
  pub stored : StoredStays

-- what a change of the data space keeps
record Kept (m after : DataSpace) : Type 0 where
  sound : IsSound after
  images : KeepsImages m after
  properties : KeepsProperties m after

abbrev SpaceKept : DataSpace → Result DataSpace MemFault → Type 0
SpaceKept m (Ok after) = Kept m after
SpaceKept m (Err fault) = Unit {0}

abbrev BoardKept : Board → Result Board Throw → Type 0
BoardKept m (Ok after) = Keeps m after
BoardKept m (Err t) = Unit {0}

-- ---- the data space

by_allot : (g : Given) (m : DataSpace) (n : ℕ) (r : Result DataSpace MemFault) → IsSound m → allotted m n ≡ r
    → SpaceKept m r
by_allot g m n (Ok after) sound e = record {
  sound = g.sound.by_allot m after n sound e;
  images = g.images.by_allot m after n sound e;
  properties = g.properties.by_allot m after n e;
}
by_allot g m n (Err fault) sound e = tt

by_fill : (g : Given) (m : DataSpace) (a n : ℕ) (r : Result DataSpace MemFault) → IsSound m → filled m a n 0 ≡ r
    → SpaceKept m r
by_fill g m a n (Ok after) sound e = record {
  sound = g.sound.by_fill m after a n 0 sound (omega arith) e;
  images = g.images.by_fill m after a n 0 sound e;
  properties = g.properties.by_fill m after a n 0 sound e;
}
by_fill g m a n (Err fault) sound e = tt

by_write : (g : Given) (m after : DataSpace) (a x : ℕ) → IsSound m → write Four m a x ≡ Ok after → Kept m after
by_write g m after a x sound e = record {
  sound = g.sound.by_write Four m after a x sound e;
  images = g.images.by_write Four m after a x sound e;
  properties = g.properties.by_write Four m after a x sound e;
}

-- the cell `base` can always be written
by_base : (g : Given) (m : DataSpace) (n : ℕ) → IsSound m → Kept m (with_base n m)
by_base g m n sound =
    let after = with_base n m in
    let open_there : write_fault m scratch_start 4 Four ≡ None =
    g.scratch.writes m scratch_start 4 Four (omega arith) (omega arith) refl in
    by_write g m after scratch_start n sound (ap (λ (f : Option MemFault). unless f after) open_there)

by_align : (g : Given) (m : DataSpace) → IsSound m → Kept m (here_at (aligned m.here) m)
by_align g m sound =
    by_allot g m ((4 - m.here % 4) % 4) (Ok (here_at (aligned m.here) m)) sound (allotted_aligned m sound)

-- ---- the board

same : {s : List Cell} (m : Board) → IsSound m.memory → Keeps m (record m { stack = s })
same m sound = record { sound = sound; images = (refl, refl); stored = λ a. a }

-- with another data space, whatever is on the stack
with_space : {s : List Cell} (g : Given) (m : Board) (after : DataSpace) → IsSound m.memory → Kept m.memory after
    → Keeps m (record m { stack = s; memory = after })
with_space g m after sound k = record {
  sound = k.sound;
  images = k.images;
  stored = λ a. g.stored.by_others m.memory after m.tree sound k.properties a;
}

stacks : (m : Board) (r : Result (List Cell) Throw) → IsSound m.memory → BoardKept m (on_board m r)
stacks m (Ok s) sound = same m sound
stacks m (Err t) sound = tt

spaces : (g : Given) (m : Board) (s : List Cell) (r : Result DataSpace MemFault) → IsSound m.memory
    → SpaceKept m.memory r → BoardKept m (space_changed s r m)
spaces g m s (Ok after) sound h = with_space g m after sound h
spaces g m s (Err fault) sound h = tt

prints : (s : List Cell) (m : Board) → IsSound m.memory → BoardKept m (spaces_entry s m)
prints [] m sound = tt
prints (n ∷ s) m sound = record { sound = sound; images = (refl, refl); stored = λ a. a }

allots : (g : Given) (s : List Cell) (m : Board) → IsSound m.memory → BoardKept m (allot_entry s m)
allots g [] m sound = tt
allots g (n ∷ s) m sound =
    spaces g m s (allotted m.memory n.0) sound (by_allot g m.memory n.0 (allotted m.memory n.0) sound refl)

erases : (g : Given) (s : List Cell) (m : Board) → IsSound m.memory → BoardKept m (erase_entry s m)
erases g (n ∷ a ∷ s) m sound =
    let r = filled m.memory a.0 n.0 0 in spaces g m s r sound (by_fill g m.memory a.0 n.0 r sound refl)
erases g _ m sound = tt

shows_text : (r : Result (List ℕ) NodeFault) (m : Board) → IsSound m.memory → BoardKept m (text_shown r m)
shows_text (Ok text) m sound = record { sound = sound; images = (refl, refl); stored = λ a. a }
shows_text (Err fault) m sound = tt

shows : (text : Phandle → Result (List ℕ) NodeFault) (o : Option Phandle) (m : Board) → IsSound m.memory
    → BoardKept m (package_shown text o m)
shows text None m sound = tt
shows text (Some node) m sound = shows_text (text node) m sound

words : (g : Given) (w : ConsoleWord) (m : Board) → IsSound m.memory → BoardKept m (console_entry w m)
words g console.OnePlus m sound = stacks m _ sound
words g console.OneMinus m sound = stacks m _ sound
words g console.TwoPlus m sound = stacks m _ sound
words g console.TwoMinus m sound = stacks m _ sound
words g console.True m sound = stacks m _ sound
words g console.False m sound = stacks m _ sound
words g console.ShiftLeft m sound = stacks m _ sound
words g console.ShiftRight m sound = stacks m _ sound
words g console.Not m sound = stacks m _ sound
words g console.Struct m sound = stacks m _ sound
words g console.Space m sound = record { sound = sound; images = (refl, refl); stored = λ a. a }
words g console.Spaces m sound = prints m.stack m sound
words g console.Allot m sound = allots g m.stack m sound
words g console.Align m sound = with_space g m _ sound (by_align g m.memory sound)
words g console.Erase m sound = erases g m.stack m sound
words g console.Hex m sound = with_space g m _ sound (by_base g m.memory 16 sound)
words g console.Decimal m sound = with_space g m _ sound (by_base g m.memory 10 sound)
words g console.SingleToDouble m sound = stacks m _ sound
words g console.TimesSlash m sound = stacks m _ sound
words g console.TimesSlashMod m sound = stacks m _ sound
words g console.FcodeDebug m sound = stacks m _ sound
words g console.DeviceEnd m sound = record { sound = sound; images = (refl, refl); stored = λ a. a }
words g console.PrintPath m sound = shows (pwd_text m.memory m.tree) m.active.package m sound
words g console.PrintChildren m sound = shows (ls_text m.memory m.tree) m.active.package m sound
words g console.PrintProperties m sound = shows (properties_text m.memory m.tree) m.active.package m sound
words g console.ShowDevices m sound = record { sound = sound; images = (refl, refl); stored = λ a. a }

left : (g : Given) (w : ConsoleWord) (m after : Board) → IsSound m.memory → console_entry w m ≡ Ok after
    → Keeps m after
left g w m after sound e = subst (λ r. BoardKept m r) e (words g w m sound)

pub console_words_keep_the_space : Given → ConsoleWordsKeepTheSpace
console_words_keep_the_space g = record { console = left g }
