-- The goals at which wrong bodies are refused.
use Rattle.std.proofs.Common.{rules}
use Rattle.of_stream.specs.Image.{header_fault}
use Rattle.of_stream.proofs.stream.open.Goals as goal

pub returns-in-240-clause-fault : goal.returns-in-240-clause-fault
unfolding header_fault
returns-in-240-clause-fault c = search rules
