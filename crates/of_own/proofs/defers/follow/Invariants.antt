use Rattle.std.proofs.Common.{◌≡◌}
use Rattle.of_own.specs.Defers.{behind_defers, executable}
use Rattle.of_own.proofs.defers.follow.Given as goal

abbrev pub invariant-loop-left : goal.invariant-loop-left
invariant-loop-left l =
    behind_defers l.words.dictionary l.board l.left l.xt.0 ≡ executable l.words l.board l.initial.xt.0

abbrev pub decreases-loop-left : goal.decreases-loop-left
decreases-loop-left l = l.left
