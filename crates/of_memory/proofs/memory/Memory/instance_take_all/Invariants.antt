use Rattle.std.proofs.Common.{◌≡◌, true, take, drop}
use Rattle.of_memory.specs.Regions.{instance_start, instance_limit}
use Rattle.of_memory.specs.BlockSearch.{find_room}
use Rattle.of_memory.specs.BlockCalls.{instances_taken}
use Rattle.of_memory.proofs.Room.{after}
use Rattle.of_memory.proofs.memory.Memory.instance_take_all.Given as goal

abbrev pub invariant-loop-i : goal.invariant-loop-i
invariant-loop-i l = record {
  room : find_room instance_start instance_limit l.self.instances (drop l.i l.lengths) ≡ true;
  taken : after (take l.i l.addresses) (instances_taken l.self (drop l.i l.lengths)) ≡ instances_taken l.fn.self
      l.lengths;
}
