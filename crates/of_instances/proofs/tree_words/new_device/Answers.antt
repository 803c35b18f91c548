-- The goals at which wrong bodies are refused.
use Rattle.std.proofs.Common.{rules}
use Rattle.of_instances.specs.TreeWords.{new_device_entry}
use Rattle.of_instances.proofs.tree_words.new_device.Goals as goal

pub returns-in-Ok-clause-value : goal.returns-in-Ok-clause-value
unfolding new_device_entry
returns-in-Ok-clause-value c = search rules

pub returns-in-Err-clause-value : goal.returns-in-Err-clause-value
unfolding new_device_entry
returns-in-Err-clause-value c = search rules
