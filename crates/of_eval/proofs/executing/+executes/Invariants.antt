use Rattle.std.proofs.Common.{length, ◌+◌}
use Rattle.of_eval.proofs.executing.+executes.Given as goal

-- a word that calls a method is run by its execution token, and the method's has fewer cells
abbrev pub decreases-execute : goal.decreases-execute
decreases-execute g l = length l.eval.now.board.stack + length l.eval.now.board.stack + 1

abbrev pub decreases-call_method : goal.decreases-call_method
decreases-call_method g l = length l.eval.now.board.stack + length l.eval.now.board.stack
