use Rattle.std.proofs.Common.{◌≡◌, ◌≤◌, ◌-◌, None, map}
use Rattle.of_state.specs.State.{flat_calls}
use Rattle.of_monitor.specs.Turns.{turns}
use Rattle.of_monitor.proofs.attending.attend.Given as goal

-- all turns are made but those that are left, and no question is open
abbrev pub invariant-loop-left : goal.invariant-loop-left
invariant-loop-left g l = record {
  same :
      (l.machine, map (λ b. (goal.Device-dyn g (b.vtable, b.value)).meant b.value) l.rack.items)
      ≡ turns flat_calls (l.fn.limit - l.left)
      (l.fn.machine, map (λ b. (goal.Device-dyn g (b.vtable, b.value)).meant b.value) l.fn.rack.items);
  few : l.left ≤ l.fn.limit;
  calm : l.machine.waiting ≡ None;
}

abbrev pub decreases-loop-left : goal.decreases-loop-left
decreases-loop-left g l = l.left
