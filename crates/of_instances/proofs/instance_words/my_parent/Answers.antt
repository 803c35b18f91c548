-- The goals at which wrong bodies are refused.
use Rattle.std.proofs.Common.{rules}
use Rattle.of_instances.specs.InstanceWords.{my_parent_entry}
use Rattle.of_instances.proofs.instance_words.my_parent.Goals as goal

pub returns-in_err-parent-clause-value : goal.returns-in_err-parent-clause-value
unfolding my_parent_entry
returns-in_err-parent-clause-value c = search rules

pub returns-clause-value : goal.returns-clause-value
unfolding my_parent_entry
returns-clause-value c = search rules
