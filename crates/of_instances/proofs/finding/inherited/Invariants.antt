use Rattle.std.proofs.Common.{◌≡◌}
use Rattle.of_ihandles.specs.Instances.{most_instances}
use Rattle.of_instances.specs.Finding.{inherited}
use Rattle.of_instances.proofs.finding.inherited.Given as goal

abbrev pub invariant-loop-left : goal.invariant-loop-left
invariant-loop-left l =
    inherited l.board l.name l.left l.ihandle ≡ inherited l.board l.name most_instances l.board.active.my_self

abbrev pub decreases-loop-left : goal.decreases-loop-left
decreases-loop-left l = l.left
