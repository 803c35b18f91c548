use Rattle.std.proofs.Common.{◌-◌, ◌≤◌}
use Rattle.of_machine.specs.Runs.{HasGone}
use Rattle.of_machine.proofs.script_run.ScriptRun.go.Given as goal

-- the run has gone on to the feed, within the limit
abbrev pub invariant-loop : goal.invariant-loop
invariant-loop l = record {
  gone : HasGone l.fn.self l.self;
  few : l.self.machine.steps ≤ l.limit;
}

abbrev pub decreases-loop : goal.decreases-loop
decreases-loop l = l.limit - l.self.machine.steps
