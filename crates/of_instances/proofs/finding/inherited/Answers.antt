use Rattle.std.proofs.Common.{rules, sym, ◌∙◌}
use Rattle.of_instances.proofs.Above.{goes_up}
use Rattle.of_instances.proofs.finding.inherited.Goals as goal

-- src/finding.rt:69:5
pub loop-left-preserved : goal.loop-left-preserved
loop-left-preserved c =
    sym
    (goes_up c.args.board.now c.args.name.now c.loop-left.left c.loop-left.ihandle c.in_ok-parent.parent
    (search rules) (search rules) (search rules) (search rules))
    ∙ c.loop-left.invariant
