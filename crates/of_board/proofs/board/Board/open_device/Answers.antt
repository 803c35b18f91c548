-- The goals at which wrong bodies are refused.
use Rattle.std.proofs.Common.{rules}
use Rattle.of_board.proofs.board.Board.open_device.Goals as goal

pub returns-clause-outcome : goal.returns-clause-outcome
returns-clause-outcome c = search rules
