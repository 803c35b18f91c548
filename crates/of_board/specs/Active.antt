-- Where in the device tree words work: the active package, the current instance, and the open `new-device`s, each with
-- what it found, its instance and its number (IEEE 1275-1994, annex A, `my-self`, `new-device` and `finish-device`).
use Rattle.std.specs.Prelude.{ℕ, ◌+◌, ◌-◌, nat_lt, List, [], ◌∷◌, ◌++◌, length, take, filter, if◌then◌else◌}
use Rattle.std.specs.Prelude.{Option, Some, None, Result, Ok, Err}
use Rattle.std.specs.List.{slice_get}
use Rattle.of_cells.specs.declared.cells.Cell.{Cell}
use Rattle.of_memory.specs.DataSpace.{DataSpace}
use Rattle.of_nodes.specs.Nodes.{node_added}
use Rattle.of_nodes.specs.declared.fault.NodeFault.{NodeFault}
use Rattle.of_nodes.specs.declared.phandles.Phandle.{Phandle}
use Rattle.of_nodes.specs.declared.tree.Node.{Node}
use Rattle.of_ihandles.specs.Instances.{opened, released}
use Rattle.of_ihandles.specs.Table.{InstanceTable}
use Rattle.of_ihandles.specs.declared.instance_fault.InstanceFault.{InstanceFault}
use Rattle.of_board.specs.OpenDevices.{OpenDevices}
use Rattle.of_board.specs.declared.active.Active.{Active}
use Rattle.of_board.specs.declared.active.NewDevice.{NewDevice}
use Rattle.of_board.specs.declared.board.Board.{Board}
use Rattle.of_board.specs.declared.device_fault.DeviceFault.{DeviceFault}
use Rattle.of_board.specs.declared.device_fault.DeviceFault.TheVariants as fault

-- none is open, and none ever was
abbrev pub none_opened : OpenDevices
none_opened = record { opened = []; ever = 0 }

-- no instance is current
abbrev pub no_self : Cell
no_self = record { 0 = 0 }

-- no package is active
abbrev pub nothing_active : Active
nothing_active = record { «package» = None; my_self = no_self; new_devices = none_opened }

-- with another current instance
abbrev pub with_self : Board → Cell → Board
with_self b me = record b { active = record b.active { my_self = me } }

-- with these instances and this data space
abbrev pub with_instances : Board → InstanceTable × DataSpace → Board
with_instances b x = record b { instances = x.0; memory = x.1 }

-- ---- opening

-- one more is open, which found this package and this instance; its number is how many were opened before it
abbrev pub with_opened : OpenDevices → Phandle → Cell → Cell → OpenDevices
with_opened d found me instance = record {
  opened =
      d.opened
      ++ record { «package» = found; my_self = me; instance = instance; number = d.ever } ∷ [];
  ever = d.ever + 1;
}

-- a child is active with its instance, and a `new-device` open that found what was active before
abbrev pub active_in : Active → Phandle → Phandle → Cell → Active
active_in a found child instance = record {
  «package» = Some child;
  my_self = instance;
  new_devices = with_opened a.new_devices found a.my_self instance;
}

abbrev pub device_begun :
    Board → Phandle → Phandle → List Node → Result (Cell × (InstanceTable × DataSpace)) InstanceFault
    → Result Board DeviceFault
device_begun b found child tree (Err e) = Err (fault.Instance e)
device_begun b found child tree (Ok x) =
    Ok (with_instances (record b { tree = tree; active = active_in b.active found child x.0 }) x.1)

abbrev pub device_made : Board → Phandle → Result (Phandle × List Node) NodeFault → Result Board DeviceFault
device_made b found (Err e) = Err (fault.Node e)
device_made b found (Ok x) =
    device_begun b found x.0 x.1 (opened b.instances b.memory x.0 b.active.my_self [])

-- a child of a package, with an instance without arguments below the current one
abbrev pub device_opened : Board → Phandle → Result Board DeviceFault
device_opened b found = device_made b found (node_added b.tree found)

-- ---- finishing

-- the one of the open `new-device`s that was opened last
abbrev pub latest : OpenDevices → Option NewDevice
latest d = slice_get d.opened (length d.opened - 1)

-- the others are open; a number isn't given again
abbrev pub without_latest : OpenDevices → OpenDevices
without_latest d = record d { opened = take (length d.opened - 1) d.opened }

-- what a `new-device` found is active again
abbrev pub active_again : NewDevice → OpenDevices → Active
active_again d rest = record { «package» = Some d.«package»; my_self = d.my_self; new_devices = rest }

-- what finishing the latest `new-device` leaves: what it found is active again, and its instance released
abbrev pub finished : Board → Option NewDevice → Option Board
finished b None = None
finished b (Some d) =
    Some (
    with_instances
    (record b { active = active_again d (without_latest b.active.new_devices) })
    (released b.instances b.memory d.instance)
    )

abbrev pub device_finished : Board → Option Board
device_finished b = finished b (latest b.active.new_devices)

-- ---- many at once

-- those that are open of the first so many that ever were
abbrev pub opened_before : ℕ → List NewDevice → List NewDevice
opened_before count ds = filter (λ d. nat_lt d.number count) ds

-- the instances of the others are released, the latest first
abbrev pub since_released : ℕ → List NewDevice → InstanceTable × DataSpace → InstanceTable × DataSpace
since_released count [] x = x
since_released count (d ∷ ds) x =
    let later = since_released count ds x in
    if nat_lt d.number count then later else released later.0 later.1 d.instance

-- At the end of a loaded image, before which so many had ever been opened: those that were opened in it are open no
-- more, their instances and that of the load are released, and the package that was active before is active.
abbrev pub image_left : Board → ℕ → Option Phandle → Cell → Board
image_left b count before instance =
    let x = since_released count b.active.new_devices.opened (b.instances, b.memory) in
    with_instances
    (record b {
      active = record b.active {
        «package» = before;
        new_devices = record b.active.new_devices { opened = opened_before count b.active.new_devices.opened };
      };
    })
    (released x.0 x.1 instance)

-- after all are finished, the latest first: what the oldest found is active
abbrev pub finished_from : Board → List NewDevice → Board
finished_from b [] = b
finished_from b (d ∷ ds) =
    with_instances
    (record b { active = active_again d (record b.active.new_devices { opened = [] }) })
    (since_released 0 (d ∷ ds) (b.instances, b.memory))

abbrev pub all_finished : Board → Board
all_finished b = finished_from b b.active.new_devices.opened
