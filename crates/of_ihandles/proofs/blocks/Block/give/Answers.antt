use Rattle.of_ihandles.proofs.BlockAccess.{given_by}
use Rattle.of_ihandles.proofs.blocks.Block.give.Goals as goal

pub returns : goal.returns
returns c =
    rw (← c.self.view_is)
    (given_by c.args.memory.now c.instance_give.new.self c.self.inside.span c.instance_give.result
    c.instance_give.ensures.given)
