use Rattle.std.proofs.Common.{◌-◌, ◌≤◌, map}
use Rattle.of_machine.specs.Racks.{HasGoneWith}
use Rattle.of_machine.proofs.racks.run_with.Given as goal

-- the run has gone on to the feed, within the limit
abbrev pub invariant-loop : goal.invariant-loop
invariant-loop g l = record {
  gone : HasGoneWith (map (λ b. (goal.Device-dyn g (b.vtable, b.value)).meant b.value) l.fn.rack.items)
      (map (λ b. (goal.Device-dyn g (b.vtable, b.value)).meant b.value) l.rack.items) l.fn.run l.run;
  few : l.run.machine.steps ≤ l.limit;
}

abbrev pub decreases-loop : goal.decreases-loop
decreases-loop g l = l.limit - l.run.machine.steps
