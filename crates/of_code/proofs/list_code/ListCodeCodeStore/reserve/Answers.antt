-- The goals at which wrong bodies are refused.
use Rattle.std.proofs.Common.{rules}
use Rattle.of_code.proofs.list_code.ListCodeCodeStore.reserve.Goals as goal

pub returns-clause-ready : goal.returns-clause-ready
returns-clause-ready c = search rules
