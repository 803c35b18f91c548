-- Instances: what each open package has of its own (IEEE 1275-1994, annex A, `open-package`, `close-package`,
-- `instance`).
use Rattle.std.specs.Prelude.{ℕ, ◌+◌, ◌*◌, ◌-◌, ◌/◌, ◌%◌, ◌&&◌, ◌==◌, nat_le, nat_lt, Bool, false}
use Rattle.std.specs.Prelude.{List, [], ◌∷◌, ◌++◌, length, map, replicate, take, get_or, set, Option, Some, None}
use Rattle.std.specs.Prelude.{count_by, Result, Ok, Err, if◌then◌else◌}
use Rattle.std.specs.List.{slice_get}
use Rattle.byteorder.specs.Endian.{big_bytes}
use Rattle.of_cells.specs.declared.cells.Cell.{Cell}
use Rattle.of_memory.specs.DataSpace.{DataSpace, written}
use Rattle.of_nodes.specs.declared.phandles.Phandle.{Phandle}
use Rattle.of_nodes.specs.declared.properties.Span.{Span}
use Rattle.of_ihandles.specs.declared.instance_fault.InstanceFault.{InstanceFault}
use Rattle.of_ihandles.specs.declared.instance_fault.InstanceFault.TheVariants.{Full, NoInstance}
use Rattle.of_ihandles.specs.declared.instances.Instance.{Instance}
use Rattle.of_ihandles.specs.declared.slots.Slot.{Slot}
use Rattle.of_ihandles.specs.declared.slots.Template.{Template}
use Rattle.of_ihandles.specs.Blocks.{all_begun, begun, blocks_taken, cell_at, copy_taken, given, given_all}
use Rattle.of_ihandles.specs.Slots.{is_same, size_of, slots_of, with_slot}
use Rattle.of_ihandles.specs.Table.{InstanceTable}

-- the most instances that are ever opened
abbrev pub most_instances : ℕ
most_instances = 65_536

abbrev pub no_instances : InstanceTable
no_instances = record { made = []; slots = [] }

abbrev pub zero_cell : Cell
zero_cell = record { 0 = 0 }

-- ---- handles

-- the ihandle of the first instance
abbrev pub first_ihandle : ℕ
first_ihandle = 0xE000_0000

-- the ihandle of instance k
abbrev pub ihandle_of : ℕ → Cell
ihandle_of k = record { 0 = first_ihandle + 4 * k }

-- the number of the instance at a distance from the first ihandle, of so many instances
abbrev pub number_at : ℕ → ℕ → Option ℕ
number_at count d = if d % 4 == 0 && nat_lt (d / 4) count then Some (d / 4) else None

-- the number of the instance with an ihandle, of so many instances
abbrev pub number_of : ℕ → Cell → Option ℕ
number_of count ih = if nat_lt ih.0 first_ihandle then None else number_at count (ih.0 - first_ihandle)

-- the live instance of a number
abbrev pub numbered : InstanceTable → Option ℕ → Option Instance
numbered t None = None
numbered t (Some k) = get_or t.made k None

-- the live instance with an ihandle
abbrev pub found : InstanceTable → Cell → Option Instance
found t ih = numbered t (number_of (length t.made) ih)

-- what there is for an instance, or NoInstance
abbrev pub of_instance : {A : Type 0} → Option Instance → (Instance → Result A InstanceFault) → Result A InstanceFault
of_instance None f = Err NoInstance
of_instance (Some i) f = f i

-- ---- what an instance has

abbrev pub package_of : InstanceTable → Cell → Result Phandle InstanceFault
package_of t ih = of_instance (found t ih) (λ i. Ok i.«package»)

abbrev pub parent_of : InstanceTable → Cell → Result Cell InstanceFault
parent_of t ih = of_instance (found t ih) (λ i. Ok i.parent)

abbrev pub argument_span : InstanceTable → Cell → Result Span InstanceFault
argument_span t ih = of_instance (found t ih) (λ i. Ok i.arguments)

abbrev pub units : InstanceTable → Cell → Result (List Cell) InstanceFault
units t ih = of_instance (found t ih) (λ i. Ok i.unit)

-- the block at a place, or NoInstance
abbrev pub block_or : Option Span → Result Span InstanceFault
block_or None = Err NoInstance
block_or (Some b) = Ok b

-- the block of a slot in an instance of its package
abbrev pub block_in : Option Slot → Instance → Result Span InstanceFault
block_in None i = Err NoInstance
block_in (Some s) i = if is_same s.«package» i.«package» then block_or (slice_get i.slots s.place) else Err NoInstance

-- the block of slot n in the instance with an ihandle
abbrev pub slot_block : InstanceTable → Cell → ℕ → Result Span InstanceFault
slot_block t ih n = of_instance (found t ih) (block_in (slice_get t.slots n))

abbrev pub cell_in : DataSpace → Result Span InstanceFault → Result Cell InstanceFault
cell_in m (Ok b) = Ok (cell_at m b)
cell_in m (Err fault) = Err fault

-- what slot n holds there
abbrev pub slot_read : DataSpace → InstanceTable → Cell → ℕ → Result Cell InstanceFault
slot_read m t ih n = cell_in m (slot_block t ih n)

abbrev pub stored_in : DataSpace → Cell → Result Span InstanceFault → Result (Unit {0} × DataSpace) InstanceFault
stored_in m x (Ok b) = Ok (tt, written m b.address.0 (big_bytes 4 x.0))
stored_in m x (Err fault) = Err fault

-- what storing a cell there leaves
abbrev pub slot_stored : DataSpace → InstanceTable → Cell → ℕ → Cell → Result (Unit {0} × DataSpace) InstanceFault
slot_stored m t ih n x = stored_in m x (slot_block t ih n)

-- ---- opening and closing

-- how long the blocks of an instance are: that of its arguments, and then one for each of these slots
abbrev pub lengths_of : Cell → List Slot → List Cell
lengths_of arguments slots = arguments ∷ map (λ s. size_of s.template) slots

-- an instance with these blocks, that of its arguments first
abbrev pub instance_at : Phandle → Cell → Span → List Span → Instance
instance_at ph parent b bs = record {
  «package» = ph;
  parent = parent;
  unit = replicate 4 zero_cell;
  arguments = b;
  slots = bs;
}

-- with the blocks that were taken, which are all zeros: the arguments are copied, and the slots begin
abbrev pub opened_at :
    InstanceTable → DataSpace → Phandle → Cell → List ℕ → List Span
    → Result (Cell × (InstanceTable × DataSpace)) InstanceFault
opened_at t m ph parent arguments [] = Err Full
opened_at t m ph parent arguments (b ∷ bs) =
    Ok (
      ihandle_of (length t.made),
      (
        record t { made = t.made ++ Some (instance_at ph parent b bs) ∷ [] },
        begun (written m b.address.0 arguments) bs (slots_of ph t.slots),
      ),
    )

abbrev pub opened_with :
    InstanceTable → Phandle → Cell → List ℕ → Result (List Span × DataSpace) InstanceFault
    → Result (Cell × (InstanceTable × DataSpace)) InstanceFault
opened_with t ph parent arguments (Ok x) = opened_at t x.1 ph parent arguments x.0
opened_with t ph parent arguments (Err fault) = Err fault

-- a new instance of a package, with the ihandle that follows all that ever were
abbrev pub opened :
    InstanceTable → DataSpace → Phandle → Cell → List ℕ → Result (Cell × (InstanceTable × DataSpace)) InstanceFault
opened t m ph parent arguments =
    if nat_le most_instances (length t.made) then Err Full
    else opened_with t ph parent arguments
    (blocks_taken m (lengths_of (record { 0 = length arguments }) (slots_of ph t.slots)))

-- without the instance of a number, whose blocks are given back
abbrev pub closed_at :
    InstanceTable → DataSpace → ℕ → Option Instance → Result (Unit {0} × (InstanceTable × DataSpace)) InstanceFault
closed_at t m k None = Err NoInstance
closed_at t m k (Some i) =
    Ok (tt, (record t { made = set t.made k None }, given_all (given m i.arguments) i.slots))

abbrev pub closed_by :
    InstanceTable → DataSpace → Option ℕ → Result (Unit {0} × (InstanceTable × DataSpace)) InstanceFault
closed_by t m None = Err NoInstance
closed_by t m (Some k) = closed_at t m k (get_or t.made k None)

-- without the instance of an ihandle
abbrev pub closed : InstanceTable → DataSpace → Cell → Result (Unit {0} × (InstanceTable × DataSpace)) InstanceFault
closed t m ih = closed_by t m (number_of (length t.made) ih)

-- what a release left, or what there was before one that was refused
abbrev pub release_left :
    InstanceTable → DataSpace → Result (Unit {0} × (InstanceTable × DataSpace)) InstanceFault
    → InstanceTable × DataSpace
release_left t m (Ok x) = x.1
release_left t m (Err fault) = (t, m)

-- without the instance of an ihandle, or the same where it is that of no live instance
abbrev pub released : InstanceTable → DataSpace → Cell → InstanceTable × DataSpace
released t m ih = release_left t m (closed t m ih)

-- ---- other arguments

-- four cells that begin with the first of these, and else are 0
abbrev pub unit_of : List Cell → List Cell
unit_of cells = take 4 (cells ++ replicate 4 zero_cell)

-- the new block is taken before the old one is given back
abbrev pub arguments_left :
    InstanceTable → ℕ → Instance → List Cell → Result (Span × DataSpace) InstanceFault
    → Result (Unit {0} × (InstanceTable × DataSpace)) InstanceFault
arguments_left t k i unit (Err fault) = Err fault
arguments_left t k i unit (Ok x) =
    Ok (
      tt,
      (
        record t { made = set t.made k (Some (record i { arguments = x.0; unit = unit_of unit })) },
        given x.1 i.arguments,
      ),
    )

abbrev pub arguments_at :
    InstanceTable → DataSpace → List ℕ → List Cell → ℕ → Option Instance
    → Result (Unit {0} × (InstanceTable × DataSpace)) InstanceFault
arguments_at t m arguments unit k None = Err NoInstance
arguments_at t m arguments unit k (Some i) =
    arguments_left t k i unit (copy_taken m arguments)

abbrev pub arguments_by :
    InstanceTable → DataSpace → List ℕ → List Cell → Option ℕ
    → Result (Unit {0} × (InstanceTable × DataSpace)) InstanceFault
arguments_by t m arguments unit None = Err NoInstance
arguments_by t m arguments unit (Some k) = arguments_at t m arguments unit k (get_or t.made k None)

-- the instance of an ihandle with a copy of other arguments, and another unit
abbrev pub arguments_set :
    InstanceTable → DataSpace → Cell → List ℕ → List Cell
    → Result (Unit {0} × (InstanceTable × DataSpace)) InstanceFault
arguments_set t m ih arguments unit = arguments_by t m arguments unit (number_of (length t.made) ih)

-- ---- a new slot

-- it is a live instance of a package
abbrev pub is_open : Phandle → Option Instance → Bool
is_open ph None = false
is_open ph (Some i) = is_same i.«package» ph

-- with one more block
abbrev pub with_block : Option Instance → Span → Option Instance
with_block None b = None
with_block (Some i) b = Some (record i { slots = i.slots ++ b ∷ [] })

-- the live instances of a package with one more block each, the oldest first
abbrev pub with_blocks : Phandle → List (Option Instance) → List Span → List (Option Instance)
with_blocks ph [] bs = []
with_blocks ph (e ∷ es) [] = e ∷ es
with_blocks ph (e ∷ es) (b ∷ bs) =
    if is_open ph e then with_block e b ∷ with_blocks ph es bs else e ∷ with_blocks ph es (b ∷ bs)

abbrev pub slotted_with :
    InstanceTable → Phandle → Template → Result (List Span × DataSpace) InstanceFault
    → Result (ℕ × (InstanceTable × DataSpace)) InstanceFault
slotted_with t ph template (Err fault) = Err fault
slotted_with t ph template (Ok x) =
    Ok (
      length t.slots,
      (
        record {
          made = with_blocks ph t.made x.0;
          slots = with_slot t.slots ph template;
        },
        all_begun x.1 x.0 template,
      ),
    )

-- one more slot of a package, with its number, and a block in each of its live instances
abbrev pub slotted :
    InstanceTable → DataSpace → Phandle → Template → Result (ℕ × (InstanceTable × DataSpace)) InstanceFault
slotted t m ph template =
    slotted_with t ph template (blocks_taken m (replicate (count_by (is_open ph) t.made) (size_of template)))
