-- The goals at which wrong bodies are refused.
use Rattle.std.proofs.Common.{rules}
use Rattle.of_stream.proofs.bytes.argument_length.Goals as goal

pub returns-in-String-clause-length : goal.returns-in-String-clause-length
returns-in-String-clause-length c = search rules
