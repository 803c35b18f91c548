-- The goals at which wrong bodies are refused.
use Rattle.std.proofs.Common.{rules}
use Rattle.of_detok.proofs.notes.Notes.pass.Goals as goal

pub returns-in-Named : goal.returns-in-Named
returns-in-Named c = search rules
