-- The goals at which wrong bodies are refused.
use Rattle.std.proofs.Common.{rules}
use Rattle.of_board.proofs.board.Board.leave_image.Goals as goal

pub returns : goal.returns
returns c = search rules
