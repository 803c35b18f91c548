use Rattle.std.proofs.Common.{arith, subst}
use Rattle.of_tok.proofs.LayLemmas.{HaveBytes, last_has_bytes, last_laid}
use Rattle.of_tok.proofs.layout.lay_out.Goals as goal

pub lay-requires : goal.lay-requires
lay-requires c =
    (last_has_bytes c.pop.new.self.items c.in-Some.x
    (subst HaveBytes c.in-Some.ensures.items c.loop-x.invariant.1)).1

pub loop-x-preserved : goal.loop-x-preserved
loop-x-preserved c = (
  grind (arith, last_laid),
  (last_has_bytes c.pop.new.self.items c.in-Some.x
      (subst HaveBytes c.in-Some.ensures.items c.loop-x.invariant.1)).0,
)
