use Rattle.std.proofs.Common.{◌≡◌, None, map}
use Rattle.of_commands.proofs.Sessions.{IsAtKnown}
use Rattle.of_commands.proofs.consoles.session.Given as goal

-- the lines that were read are entered, and no question is open
abbrev pub invariant-loop : goal.invariant-loop
invariant-loop g l = record {
  at : IsAtKnown l.limit l.counter (g.L.Read.remaining l.fn.lines) (g.L.Read.remaining l.lines)
      (g.W.Write.contents l.fn.out) (g.W.Write.contents l.out)
      (l.fn.machine, map (λ b. (goal.Device-dyn g (b.vtable, b.value)).meant b.value) l.fn.rack.items)
      (l.machine, map (λ b. (goal.Device-dyn g (b.vtable, b.value)).meant b.value) l.rack.items);
  calm : l.machine.waiting ≡ None;
}
