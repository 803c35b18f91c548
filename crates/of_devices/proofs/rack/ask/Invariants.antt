use Rattle.std.proofs.Common.{◌≡◌, map}
use Rattle.of_devices.specs.Racks.{NoneBefore}
use Rattle.of_devices.proofs.rack.ask.Given as goal

-- no device so far takes the query
abbrev pub invariant-loop-i : goal.invariant-loop-i
invariant-loop-i g l = record {
  none : NoneBefore (map (λ b. (goal.Device-dyn g (b.vtable, b.value)).meant b.value) l.rack.items) l.fn.query l.i;
  same : l.rack.items ≡ l.fn.rack.items;
}
