use Rattle.std.proofs.Common.{rules}
use Rattle.of_ihandles.proofs.RoomLoops.{slot_made}
use Rattle.of_ihandles.proofs.instances.Instances.slot.Goals as goal

pub returns : goal.returns
returns c =
    rw (← c.self.view_is) (slot_made (record { made = c.self.inside.made.items; slots = c.self.inside.slots.items })
    c.args.memory.now c.take.new.memory c.begin_all.new.memory c.args.«package» c.args.template c.len-number.result
    c.in_ok-lengths.lengths.items c.add_rooms.new.made.items c.fill_rooms.new.made.items c.in-Ok.blocks
    c.push_reserved.new.self.items
    (search rules) (search rules) (search rules) (search rules) (search rules) (search rules) (search rules))
