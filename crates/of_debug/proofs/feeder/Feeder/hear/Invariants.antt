use Rattle.std.proofs.Common.{◌≡◌, length}
use Rattle.of_machine.specs.Runs.{clients_heard}
use Rattle.of_debug.proofs.feeder.Feeder.hear.Given as goal

-- the clients that are left are to be answered as those were that there were at first
abbrev pub invariant-loop-due : goal.invariant-loop-due
invariant-loop-due g l = record {
  same : clients_heard l.fn.self.feed ≡ clients_heard l.self.feed;
  began : l.self.began ≡ l.fn.self.began;
  steps : l.self.feed.machine.steps ≡ l.fn.self.feed.machine.steps;
}

abbrev pub decreases-loop-due : goal.decreases-loop-due
decreases-loop-due g l = length l.self.feed.calls
