use Rattle.std.proofs.Common.{rules, ◌≡◌, ◌≤◌, ◌-◌, map, ap, ◌∙◌, arith}
use Rattle.of_devices.specs.Racks.{Meant}
use Rattle.of_state.specs.State.{flat_calls}
use Rattle.of_monitor.specs.Turns.{turns}
use Rattle.of_monitor.proofs.TurnLemmas.{goes_on, held_behind, none_yet, on_err}
use Rattle.of_monitor.proofs.attending.attend.Goals as goal

pub loop-left-init : goal.loop-left-init
loop-left-init g c =
    let f : _ → Meant = λ d. (goal.Device-dyn g (d.vtable, d.value)).meant d.value in
    record {
      same = none_yet c.args.limit (c.args.machine.now, map f c.args.rack.now.items);
      few = omega arith;
      calm = c.requires.calm;
    }

pub loop-left-preserved : goal.loop-left-preserved
loop-left-preserved g c =
    let f : _ → Meant = λ d. (goal.Device-dyn g (d.vtable, d.value)).meant d.value in
    let l = c.loop-left in
    let rest = c.in_ok-left.left in
    let few : rest ≤ l.left = search rules in
    record {
      same =
          goes_on c.args.limit l.left rest (c.args.machine.now, map f c.args.rack.now.items)
          (l.machine, map f l.rack.items) (c.go_on.new.machine, map f c.go_on.new.rack.items) l.invariant.same
          c.in_ok-left.ensures.turns few l.invariant.few;
      few = omega (arith, few, l.invariant.few);
      calm = c.in_ok-left.ensures.calm;
    }

pub returns-clause-turns : goal.returns-clause-turns
returns-clause-turns g c =
    let l = c.loop-left in
    let f : _ → Meant = λ d. (goal.Device-dyn g (d.vtable, d.value)).meant d.value in
    let all : c.args.limit - l.left ≡ c.args.limit = search rules in
    l.invariant.same ∙ ap (λ n. turns flat_calls n (c.args.machine.now, map f c.args.rack.now.items)) all

pub returns-in_err-left-clause-held : goal.returns-in_err-left-clause-held
returns-in_err-left-clause-held g c =
    let l = c.loop-left in
    let f : _ → Meant = λ d. (goal.Device-dyn g (d.vtable, d.value)).meant d.value in
    on_err c.from_residual.result
    (held_behind c.args.limit l.left (c.args.machine.now, map f c.args.rack.now.items)
    (l.machine, map f l.rack.items) (c.go_on.new.machine, map f c.go_on.new.rack.items) l.invariant.same
    l.invariant.few (search rules))
