use Rattle.std.proofs.Common.{◌-◌, ◌≤◌}
use Rattle.of_machine.specs.Runs.{HasGone}
use Rattle.of_trace.proofs.runs.trace_rest.Given as goal

-- the run has gone on, within the limit
abbrev pub invariant-loop-run : goal.invariant-loop-run
invariant-loop-run g l = record { gone : HasGone l.fn.run l.run; few : l.run.machine.steps ≤ l.limit }

abbrev pub decreases-loop-run : goal.decreases-loop-run
decreases-loop-run g l = l.limit - l.run.machine.steps
