use Rattle.std.proofs.Common.{◌≡◌, ◌≤◌, ◌+◌, ◌-◌, ℕ}
use Rattle.of_machine.specs.Runs.{settled}
use Rattle.of_debug.specs.Stepping.{until}
use Rattle.of_debug.proofs.debugger.advance.Given as goal

-- so many steps were made, and what is left leads to the same, under any bound
abbrev pub invariant-loop-made : goal.invariant-loop-made
invariant-loop-made g l = record {
  few : l.made ≤ l.most;
  leads :
      (b : ℕ) → l.made ≤ b → until l.fn.marks l.fn.goal b l.fn.feeder.feed
      ≡ until l.fn.marks l.fn.goal (b - l.made) l.feeder.feed;
  made : l.feeder.feed.machine.steps ≡ l.fn.feeder.feed.machine.steps + l.made;
  settled : settled l.feeder.feed ≡ l.feeder.feed;
  began : l.feeder.began ≡ l.fn.feeder.began;
}

abbrev pub decreases-loop-made : goal.decreases-loop-made
decreases-loop-made g l = l.most - l.made
