-- The goals at which wrong bodies are refused.
use Rattle.std.proofs.Common.{rules}
use Rattle.of_commands.proofs.Called.{text_answered}
use Rattle.of_commands.proofs.clients.client.Goals as goal

pub returns-in-Ok-clause-answered : goal.returns-in-Ok-clause-answered
returns-in-Ok-clause-answered g c = search (rules, text_answered)
