-- The evaluator as it is made, and an image that begins to run on it (IEEE 1275-1994, 5.2.2.5).
use Rattle.std.specs.Prelude.{ℕ, List, [], ◌∷◌, length, Option, Some, None, false, true, is_ok, Result, Ok, Err}
use Rattle.std.specs.Prelude.{if◌then◌else◌}
use Rattle.of_cells.specs.declared.cells.Cell.{Cell}
use Rattle.of_stacks.specs.declared.return_item.Continuation.TheVariants as continuation
use Rattle.of_stacks.specs.declared.return_item.Due.TheVariants as due
use Rattle.of_stacks.specs.declared.return_item.Input.TheVariants as input
use Rattle.of_stacks.specs.declared.return_item.ReturnItem.{ReturnItem}
use Rattle.of_stacks.specs.declared.return_item.ReturnItem.TheVariants.{Source, Caller}
use Rattle.of_stream.specs.Image.{first_size, header_length}
use Rattle.of_memory.specs.DataSpace.{DataSpace, fresh}
use Rattle.of_memory.specs.Growth.{image_fits, image_pushed}
use Rattle.of_memory.specs.declared.fault.MemFault.{MemFault}
use Rattle.of_compile.specs.Words.{first_words}
use Rattle.of_nodes.specs.declared.tree.Node.{Node}
use Rattle.of_nodes.specs.declared.phandles.Phandle.{Phandle}
use Rattle.of_nodes.specs.declared.fault.NodeFault.{NodeFault}
use Rattle.of_nodes.specs.Nodes.{first_tree}
use Rattle.of_ihandles.specs.Instances.{no_instances, opened}
use Rattle.of_ihandles.specs.Table.{InstanceTable}
use Rattle.of_ihandles.specs.declared.instance_fault.InstanceFault.{InstanceFault}
use Rattle.of_board.specs.Active.{nothing_active}
use Rattle.of_flow.specs.declared.control_state.Flow.{Flow}
use Rattle.of_board.specs.declared.board.Board.{Board}
use Rattle.of_state.specs.declared.load_fault.LoadFault.{LoadFault}
use Rattle.of_state.specs.declared.load_fault.LoadFault.TheVariants.{ImageTooLong, NoInstance}
use Rattle.of_state.specs.State.{State, open_xt}
use Rattle.of_state.specs.Settling.{nothing_read}
use Rattle.of_board.specs.Text.{made_ready, nothing_printed}

-- empty stacks, nothing printed, and the device tree at first, whose names stand in a fresh data space
abbrev pub board_over : List Node × DataSpace → Board
board_over x = record {
  stack = [];
  memory = x.1;
  pictured = 0;
  console = nothing_printed;
  tree = x.0;
  active = nothing_active;
  instances = no_instances;
}

-- the nodes and the data space that making a tree left, or none
abbrev pub made_or_none : Result (List Node × DataSpace) NodeFault → List Node × DataSpace
made_or_none (Ok x) = x
made_or_none (Err fault) = ([], fresh)

abbrev pub first_board : Board
first_board = board_over (made_or_none (first_tree fresh))

-- nothing runs, and nothing is read
abbrev pub first_flow : Flow
first_flow = record {
  items = [];
  reading = nothing_read;
  is_running = false;
  next = continuation.Source;
  is_compiling = false;
  home = None;
  texts = [];
  strings = 0;
}

abbrev pub first_state : {S : Type 0} → S → State S
first_state code = record {
  board = first_board;
  flow = first_flow;
  words = first_words;
  code = code;
  reply = None;
}

-- the cell of a package, if there is one
abbrev pub cell_of : Option Phandle → Option Cell
cell_of None = None
cell_of (Some node) = Some node.0

-- what the end of a loaded image brings back, and the instance that it releases
abbrev pub load_caller : {S : Type 0} → Cell → State S → ReturnItem
load_caller instance s =
    let active = s.board.active in
    Caller (due.Load (cell_of active.«package») active.my_self instance active.new_devices.ever)

-- the bytes of an image are copied into the image region, which has room for them
abbrev pub image_copied : Result (ℕ × DataSpace) MemFault → DataSpace → DataSpace
image_copied (Ok x) m = x.1
image_copied (Err fault) m = m

-- an image begins to run for a package and a new instance of it, where nothing has run; with the instance stand all
-- instances and the data space
abbrev pub image_begun : {S : Type 0} → List ℕ → Phandle → Cell → InstanceTable × DataSpace → State S → State S
image_begun image node instance x s = record s {
  board = record s.board {
    memory = image_copied (image_pushed x.1 image) x.1;
    console = made_ready s.board.console;
    active = record s.board.active { «package» = Some node; my_self = instance };
    instances = x.0;
  };
  flow = record s.flow {
    items = Source s.flow.reading ∷ load_caller instance s ∷ [];
    reading = record { input = input.Image (first_size image) header_length; opened = open_xt s };
    is_running = true;
    next = continuation.Source;
  };
}

-- the same, by what opening the instance answered and left
abbrev pub begun_by :
    {S : Type 0} → List ℕ → Phandle → Result (Cell × (InstanceTable × DataSpace)) InstanceFault → State S → State S
begun_by image node (Ok x) s = image_begun image node x.0 x.1 s
begun_by image node (Err fault) s = s

-- what opening an instance of a package below the current one answers and leaves
abbrev pub instance_on : Phandle → Board → Result (Cell × (InstanceTable × DataSpace)) InstanceFault
instance_on node b = opened b.instances b.memory node b.active.my_self []

-- why an image doesn't begin to run, memory aside: it has no room, or its instance hasn't
abbrev pub load_fault : {S : Type 0} → List ℕ → Phandle → State S → Option LoadFault
load_fault image node s =
    if image_fits s.board.memory (length image)
    then if is_ok (instance_on node s.board) then None else Some NoInstance
    else Some ImageTooLong

-- an image that begins to run for a package, unless it is refused
abbrev pub begun_unless : {S : Type 0} → Option LoadFault → List ℕ → Phandle → State S → State S
begun_unless None image node s = begun_by image node (instance_on node s.board) s
begun_unless (Some fault) image node s = s

abbrev pub begun : {S : Type 0} → List ℕ → Phandle → State S → State S
begun image node s = begun_unless (load_fault image node s) image node s

-- ---- a console line

-- A line begins to be read, where nothing has run; beneath it stands what was read, and it keeps the definition that an
-- earlier line left open.
abbrev pub line_begun : {S : Type 0} → List ℕ → State S → State S
line_begun text s = record s {
  board = record s.board { console = made_ready s.board.console };
  flow = record s.flow {
    items = Source s.flow.reading ∷ [];
    reading = record { input = input.Text 0; opened = open_xt s };
    is_running = true;
    next = continuation.Source;
    texts = text ∷ s.flow.texts;
  };
}
