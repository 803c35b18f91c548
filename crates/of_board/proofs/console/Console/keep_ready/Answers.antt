-- The goals at which wrong bodies are refused.
use Rattle.std.proofs.Common.{rules}
use Rattle.of_board.proofs.console.Console.keep_ready.Goals as goal

pub returns-else-not-keep : goal.returns-else-not-keep
returns-else-not-keep c = search rules
