-- An image that begins: what its instance and its bytes leave of the data space.
use Rattle.std.proofs.Common.{◌≡◌, ℕ, ◌+◌, Bool, true, false, List, [], ◌∷◌, length, Some, None}
use Rattle.std.proofs.Common.{Result, Ok, Err, refl, sym, ap, subst, nat_le, nat_lt, if◌then◌else◌}
use Rattle.std.specs.Prelude.{◌&&◌, is_ok}
use Rattle.of_cells.specs.declared.cells.Cell.{Cell}
use Rattle.of_memory.specs.DataSpace.{DataSpace, IsSound, free_after}
use Rattle.of_memory.specs.Growth.{image_fits, image_pushed}
use Rattle.of_memory.specs.PropertyRegion.{KeepsProperties}
use Rattle.of_memory.specs.Regions.{image_count, image_limit}
use Rattle.of_memory.specs.SoundChanges.{AreBytes}
use Rattle.of_nodes.specs.declared.phandles.Phandle.{Phandle}
use Rattle.of_ihandles.specs.SpaceKept.{Keeps}
use Rattle.of_ihandles.specs.Table.{InstanceTable}
use Rattle.of_ihandles.specs.declared.instance_fault.InstanceFault.{InstanceFault}
use Rattle.of_board.specs.declared.board.Board.{Board}
use Rattle.of_state.specs.Loading.{begun, begun_by, begun_unless, image_begun, image_copied, instance_on}
use Rattle.of_state.specs.State.{State}
use Rattle.of_state.specs.declared.load_fault.LoadFault.TheVariants.{ImageTooLong, NoInstance}
use Rattle.of_eval_laws.proofs.Bytes.{no_bytes}
use Rattle.of_eval_laws.proofs.FramedSpace.{Laws}
use Rattle.of_eval_laws.proofs.RunningBytes.{Pushed, pushed, with_image}

-- an instance that was opened, with what that left
abbrev pub Opened : Type 0
Opened = Cell × (InstanceTable × DataSpace)

begun_at : {S : Type 0} (P : State S → Type 0) (image : List ℕ) (node : Phandle) (s : State S) (b : Bool)
    (r : Result Opened InstanceFault) → instance_on node s.board ≡ r → P s
    → ((x : Opened) → r ≡ Ok x → b ≡ true → P (image_begun image node x.0 x.1 s))
    → P (begun_unless (if b then if is_ok r then None else Some NoInstance else Some ImageTooLong) image node s)
begun_at P image node s true (Ok x) e stays begins =
    subst (λ r. P (begun_by image node r s)) (sym e) (begins x refl refl)
begun_at P image node s true (Err fault) e stays begins = stays
begun_at P image node s false r e stays begins = stays

-- what is so of a state in which an image doesn't begin, and of one in which it does, is so of what a load leaves
pub begun_is : {S : Type 0} (P : State S → Type 0) (image : List ℕ) (node : Phandle) (s : State S) → P s
    → ((x : Opened) → instance_on node s.board ≡ Ok x → image_fits s.board.memory (length image) ≡ true
    → P (image_begun image node x.0 x.1 s))
    → P (begun image node s)
begun_is P image node s stays begins =
    begun_at P image node s (image_fits s.board.memory (length image)) (instance_on node s.board) refl stays begins

-- what opening its instance leaves of the data space
pub opened_kept : (l : Laws) (b : Board) (node : Phandle) (x : Opened) → IsSound b.memory → instance_on node b ≡ Ok x
    → Keeps b.memory x.1.1
opened_kept l b node x sound e =
    l.instances.by_open b.instances x.1.0 b.memory x.1.1 node b.active.my_self x.0 [] sound no_bytes e

-- so an image still has its room
still_fits : (m after : DataSpace) (n : ℕ) → after.images ≡ m.images → image_fits m n ≡ true → image_fits after n ≡ true
still_fits m after n same h =
    subst (λ (ends : List ℕ). (nat_le (free_after ends + n) image_limit && nat_lt (length ends) image_count) ≡ true)
    (sym same) h

pushed_fits : (m : DataSpace) (xs : List ℕ) → image_fits m (length xs) ≡ true
    → image_pushed m xs ≡ Ok (free_after m.images, with_image m xs)
pushed_fits m xs h = rw h refl

-- an image of these bytes was pushed behind the others
pub record IsPushed (m after : DataSpace) (xs : List ℕ) : Type 0 where
  pub runs : Pushed m (free_after m.images) xs after
  pub images : after.images ≡ (free_after m.images + length xs) ∷ m.images
  pub sound : AreBytes xs → IsSound after
  pub properties : KeepsProperties m after

pub image_pushes : (l : Laws) (m after : DataSpace) (xs : List ℕ) → Keeps m after → image_fits m (length xs) ≡ true
    → IsPushed after (image_copied (image_pushed after xs) after) xs
image_pushes l m after xs kept h =
    let a = free_after after.images in
    let new = with_image after xs in
    let e = pushed_fits after xs (still_fits m after (length xs) kept.images.0 h) in
    let copied : new ≡ image_copied (image_pushed after xs) after = sym (ap (λ r. image_copied r after) e) in
    let done : IsPushed after new xs = record {
      runs = pushed l.pushes after new xs a kept.sound e;
      images = refl;
      sound = λ small. l.sound.by_push after new xs a kept.sound small e;
      properties = l.properties.by_push after new xs a kept.sound e;
    } in
    subst (λ (n : DataSpace). IsPushed after n xs) copied done
