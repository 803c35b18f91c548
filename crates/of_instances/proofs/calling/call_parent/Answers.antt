-- The goals at which wrong bodies are refused.
use Rattle.std.proofs.Common.{rules}
use Rattle.of_instances.specs.Calling.{call_parent_entry}
use Rattle.of_instances.proofs.calling.call_parent.Goals as goal

pub returns-in_err-xt-clause-found : goal.returns-in_err-xt-clause-found
unfolding call_parent_entry
returns-in_err-xt-clause-found c = search rules

pub returns-clause-found : goal.returns-clause-found
unfolding call_parent_entry
returns-clause-found c = search rules
