use Rattle.of_console.proofs.Listed.{AreShown}
use Rattle.of_console.proofs.properties.push_properties.Given as goal

-- the properties before a place are shown
abbrev pub invariant-loop-place : goal.invariant-loop-place
invariant-loop-place l =
    AreShown l.memory l.tree l.node l.place l.place-end l.initial.out.items l.out.items
