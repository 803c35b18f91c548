-- The goals at which wrong bodies are refused.
use Rattle.std.proofs.Common.{rules}
use Rattle.of_flow.specs.Turns.{control_entry}
use Rattle.of_flow.proofs.control.test_arm.Goals as goal

pub returns-then-x-y : goal.returns-then-x-y
unfolding control_entry
returns-then-x-y c = search rules

pub returns-then-not-lands : goal.returns-then-not-lands
unfolding control_entry
returns-then-not-lands c = search rules

pub returns : goal.returns
unfolding control_entry
returns c = search rules
