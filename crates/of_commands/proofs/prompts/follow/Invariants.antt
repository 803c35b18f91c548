use Rattle.of_commands.proofs.Prompted.{IsAtKnown}
use Rattle.of_commands.proofs.prompts.follow.Given as goal

-- the lines that were read are done
abbrev pub invariant-loop : goal.invariant-loop
invariant-loop g l = IsAtKnown l.counter (g.L.Read.remaining l.fn.lines) (g.L.Read.remaining l.lines)
    (g.W.Write.contents l.fn.out) (g.W.Write.contents l.out) l.fn.debugger l.debugger
