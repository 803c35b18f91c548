-- What releasing instances leaves of the data space: the same images, and a sound one all that it keeps.
use Rattle.std.proofs.Common.{◌≡◌, ◌∙◌, ℕ, Bool, true, false, List, [], ◌∷◌, Option, Some, None, refl}
use Rattle.std.proofs.Common.{length, nat_lt, get_or, if◌then◌else◌}
use Rattle.std.specs.List.{position}
use Rattle.of_cells.specs.declared.cells.Cell.{Cell}
use Rattle.of_stacks.specs.declared.return_item.Due.{Due}
use Rattle.of_stacks.specs.declared.return_item.Due.TheVariants as due
use Rattle.of_memory.specs.BlockCalls.{block_given_at, instances_left}
use Rattle.of_memory.specs.Blocks.{is_block, rounded}
use Rattle.of_memory.specs.DataSpace.{DataSpace, IsSound}
use Rattle.of_nodes.specs.declared.phandles.Phandle.{Phandle}
use Rattle.of_nodes.specs.declared.properties.Span.{Span}
use Rattle.of_ihandles.specs.Blocks.{given, given_all, left}
use Rattle.of_ihandles.specs.Instances.{closed_at, closed_by, number_of, release_left, released}
use Rattle.of_ihandles.specs.SpaceKept.{Keeps}
use Rattle.of_ihandles.specs.Table.{InstanceTable}
use Rattle.of_ihandles.specs.declared.instances.Instance.{Instance}
use Rattle.of_board.specs.Active.{all_finished, finished_from, image_left, since_released}
use Rattle.of_board.specs.declared.active.NewDevice.{NewDevice}
use Rattle.of_board.specs.declared.board.Board.{Board}
use Rattle.of_state.specs.Settling.{package_of}
use Rattle.of_eval_laws.specs.Throws.{left_by}
use Rattle.of_eval_laws.proofs.FramedSpace.{Laws, Stands, by_space, same, stays, then_kept}

-- the images are the same, and by the laws of the layers below a sound data space keeps more
abbrev Leaves : DataSpace → DataSpace → Type 0
Leaves m after = (after.images ≡ m.images) × (Laws → IsSound m → Keeps m after)

nothing : (m : DataSpace) → Leaves m m
nothing m = (refl, (λ l sound. same m sound))

twice : (m after last : DataSpace) → Leaves m after → Leaves after last → Leaves m last
twice m after last x y =
    (y.0 ∙ x.0, (λ l sound. let first = x.1 l sound in then_kept m after last first (y.1 l first.sound)))

-- ---- the images

given_at : (m : DataSpace) (i : Option ℕ) → (left m (instances_left m (block_given_at m.instances i))).images ≡ m.images
given_at m None = refl
given_at m (Some i) = refl

one_given : (m : DataSpace) (b : Span) → (given m b).images ≡ m.images
one_given m b = given_at m (position (is_block b.address.0 (rounded b.length.0)) m.instances)

all_given : (m : DataSpace) (bs : List Span) → (given_all m bs).images ≡ m.images
all_given m [] = refl
all_given m (b ∷ bs) = all_given (given m b) bs ∙ one_given m b

closed_images : (t : InstanceTable) (m : DataSpace) (k : ℕ) (e : Option Instance)
    → (release_left t m (closed_at t m k e)).1.images ≡ m.images
closed_images t m k None = refl
closed_images t m k (Some i) = all_given (given m i.arguments) i.slots ∙ one_given m i.arguments

number_images : (t : InstanceTable) (m : DataSpace) (o : Option ℕ)
    → (release_left t m (closed_by t m o)).1.images ≡ m.images
number_images t m None = refl
number_images t m (Some k) = closed_images t m k (get_or t.made k None)

-- ---- instances

pub released_leaves : (t : InstanceTable) (m : DataSpace) (ih : Cell) → Leaves m (released t m ih).1
released_leaves t m ih =
    let x = released t m ih in
    (number_images t m (number_of (length t.made) ih), (λ l sound. l.instances.by_release t x.0 m x.1 ih sound refl))

either : (m : DataSpace) (b : Bool) (x y : InstanceTable × DataSpace) → Leaves m x.1 → Leaves m y.1
    → Leaves m (if b then x else y).1
either m true x y h k = h
either m false x y h k = k

since_leaves : (count : ℕ) (ds : List NewDevice) (x : InstanceTable × DataSpace)
    → Leaves x.1 (since_released count ds x).1
since_leaves count [] x = nothing x.1
since_leaves count (d ∷ ds) x =
    let later = since_released count ds x in
    let first = since_leaves count ds x in
    either x.1 (nat_lt d.number count) later (released later.0 later.1 d.instance) first
    (twice x.1 later.1 (released later.0 later.1 d.instance).1 first (released_leaves later.0 later.1 d.instance))

-- ---- the board

pub image_leaves : (b : Board) (count : ℕ) (before : Option Phandle) (instance : Cell)
    → Leaves b.memory (image_left b count before instance).memory
image_leaves b count before instance =
    let x = since_released count b.active.new_devices.opened (b.instances, b.memory) in
    twice b.memory x.1 (released x.0 x.1 instance).1
    (since_leaves count b.active.new_devices.opened (b.instances, b.memory)) (released_leaves x.0 x.1 instance)

pub due_leaves : (d : Due) (b : Board) → Leaves b.memory (left_by d b).memory
due_leaves (due.Load active me instance count) b = image_leaves b count (package_of active) instance
due_leaves (due.Method me) b = nothing b.memory
due_leaves (due.Open me instance) b = nothing b.memory
due_leaves (due.Close me instance) b = nothing b.memory

finished_leaves : (b : Board) (ds : List NewDevice) → Leaves b.memory (finished_from b ds).memory
finished_leaves b [] = nothing b.memory
finished_leaves b (d ∷ ds) = since_leaves 0 (d ∷ ds) (b.instances, b.memory)

pub all_leave : (b : Board) → Leaves b.memory (all_finished b).memory
all_leave b = finished_leaves b b.active.new_devices.opened

finished_stands : (l : Laws) (b : Board) (ds : List NewDevice) → IsSound b.memory → Stands b (finished_from b ds)
finished_stands l b [] sound = stays b sound
finished_stands l b (d ∷ ds) sound =
    by_space l b _ sound ((since_leaves 0 (d ∷ ds) (b.instances, b.memory)).1 l sound)

pub all_stand : (l : Laws) (b : Board) → IsSound b.memory → Stands b (all_finished b)
all_stand l b sound = finished_stands l b b.active.new_devices.opened sound
