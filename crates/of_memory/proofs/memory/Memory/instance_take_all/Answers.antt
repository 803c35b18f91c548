use Rattle.std.proofs.Common.{◌≡◌, false, sym, ◌∙◌, rules}
use Rattle.of_memory.specs.Regions.{instance_start, instance_limit}
use Rattle.of_memory.specs.BlockSearch.{find_room}
use Rattle.of_memory.proofs.Room.{full}
use Rattle.of_memory.proofs.memory.Memory.instance_take_all.Goals as goal

pub returns-then-not-has_room-clause-taken : goal.returns-then-not-has_room-clause-taken
returns-then-not-has_room-clause-taken c =
    let none : find_room instance_start instance_limit c.args.self.now.instances c.args.lengths.now ≡ false =
    rw (← c.self.view_is) (sym c.has_room.ensures.value ∙ c.if-not-has_room.true) in
    (full c.args.self.now c.args.lengths.now none, search rules)
