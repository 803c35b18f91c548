use Rattle.std.proofs.Common.{map, subst}
use Rattle.of_devices.specs.Racks.{Meant}
use Rattle.of_machine.specs.Racks.{Rounds}
use Rattle.of_machine.proofs.RefusedLemmas.{held_on_with}
use Rattle.of_machine.proofs.RackLemmas.{goes_on_with, left_behind, none_gone_with, on_err, over_behind_with}
use Rattle.of_machine.proofs.racks.run_with.Goals as goal

pub loop-init : goal.loop-init
loop-init g c =
    let f : _ → Meant = λ d. (goal.Device-dyn g (d.vtable, d.value)).meant d.value in
    record {
      gone = none_gone_with (map f c.args.rack.now.items) c.args.run.now c.requires.none c.requires.calm;
      few = c.requires.few;
    }

pub loop-preserved : goal.loop-preserved
loop-preserved g c =
    let f : _ → Meant = λ d. (goal.Device-dyn g (d.vtable, d.value)).meant d.value in
    let ds = map f c.args.rack.now.items in
    let es = map f c.loop.rack.items in
    let hs = map f c.round_with.new.rack.items in
    let h = c.round_with.new.run in
    let more = subst (λ b. Rounds c.args.limit b es hs c.loop.run h) c.if-branch.true
    c.in_ok-round_with.ensures.ok in
    record {
      gone = goes_on_with ds es hs c.args.run.now c.loop.run h c.loop.invariant.gone more.0;
      few = more.2;
    }

pub returns-clause-over : goal.returns-clause-over
returns-clause-over g c =
    let f : _ → Meant = λ d. (goal.Device-dyn g (d.vtable, d.value)).meant d.value in
    let ds = map f c.args.rack.now.items in
    let es = map f c.loop.rack.items in
    let hs = map f c.round_with.new.rack.items in
    let h = c.round_with.new.run in
    over_behind_with c.args.limit ds es hs c.args.run.now c.loop.run h c.loop.invariant.gone
    (subst (λ b. Rounds c.args.limit b es hs c.loop.run h) c.if-branch.false c.in_ok-round_with.ensures.ok)

pub returns-in_err-round_with-clause-left : goal.returns-in_err-round_with-clause-left
returns-in_err-round_with-clause-left g c =
    let f : _ → Meant = λ d. (goal.Device-dyn g (d.vtable, d.value)).meant d.value in
    on_err _
    (left_behind c.args.limit (map f c.args.rack.now.items) (map f c.loop.rack.items)
    (map f c.round_with.new.rack.items) c.args.run.now c.loop.run c.loop.invariant.gone
    c.in_err-round_with.ensures.left)

pub returns-in_err-round_with-clause-held : goal.returns-in_err-round_with-clause-held
returns-in_err-round_with-clause-held g c =
    let f : _ → Meant = λ d. (goal.Device-dyn g (d.vtable, d.value)).meant d.value in
    on_err _
    (held_on_with c.args.limit (map f c.args.rack.now.items) (map f c.loop.rack.items)
    (map f c.round_with.new.rack.items) c.args.run.now c.loop.run c.round_with.new.run c.loop.invariant.gone
    c.in_err-round_with.ensures.held)
