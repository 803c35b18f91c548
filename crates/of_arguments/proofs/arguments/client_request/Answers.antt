-- The goals at which wrong bodies are refused.
use Rattle.std.proofs.Common.{rules}
use Rattle.of_arguments.proofs.arguments.client_request.Goals as goal

pub returns-in_err-value : goal.returns-in_err-value
returns-in_err-value c = search rules
