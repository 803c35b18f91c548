use Rattle.std.proofs.Common.{◌-◌, ◌≤◌, map}
use Rattle.of_machine.specs.Racks.{HasGoneWith}
use Rattle.of_trace.proofs.runs.trace_rest_with.Given as goal

-- the run has gone on, within the limit
abbrev pub invariant-loop-run : goal.invariant-loop-run
invariant-loop-run g l = record {
  gone : HasGoneWith (map (λ b. (goal.Device-dyn g (b.vtable, b.value)).meant b.value) l.fn.rack.items)
      (map (λ b. (goal.Device-dyn g (b.vtable, b.value)).meant b.value) l.rack.items) l.fn.run l.run;
  few : l.run.machine.steps ≤ l.limit;
}

abbrev pub decreases-loop-run : goal.decreases-loop-run
decreases-loop-run g l = l.limit - l.run.machine.steps
