-- The goals at which wrong bodies are refused.
use Rattle.std.proofs.Common.{rules}
use Rattle.of_eval.proofs.Registers.{over_both}
use Rattle.of_eval.proofs.executing.run_returns_word.Goals as goal

pub returns-in-Exit : goal.returns-in-Exit
returns-in-Exit g c = search (rules, over_both)
