-- The goals at which wrong bodies are refused.
use Rattle.std.proofs.Common.{rules}
use Rattle.of_tok.proofs.layout.Laid.lay.Goals as goal

pub returns-in-Plain : goal.returns-in-Plain
returns-in-Plain c = search rules
