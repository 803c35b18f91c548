use Rattle.std.proofs.Common.{rules, ◌≤◌, ap, ◌∙◌, length, map, sym}
use Rattle.of_devices.specs.Racks.{Meant, rack_answer, rack_told}
use Rattle.of_devices.proofs.RackLemmas.{end_answer, end_told, met_answer, met_told, met_none}
use Rattle.of_devices.proofs.rack.ask.Goals as goal

-- ---- the device that was met

pub returns-then-takes-clause-answer : goal.returns-then-takes-clause-answer
returns-then-takes-clause-answer g c =
    let f : _ → Meant = λ d. (goal.Device-dyn g (d.vtable, d.value)).meant d.value in
    let xs = c.loop-i.rack.items in
    c.tell.ensures.answer
    ∙ met_answer f c.args.query xs c.loop-i.i c.index.result.now c.index_mut.result.now (search rules)
    c.loop-i.invariant.none (search rules) (search rules) (search rules)
    ∙ ap (λ ys. rack_answer (map f ys) c.args.query) c.loop-i.invariant.same

pub returns-then-takes-clause-told : goal.returns-then-takes-clause-told
returns-then-takes-clause-told g c =
    let f : _ → Meant = λ d. (goal.Device-dyn g (d.vtable, d.value)).meant d.value in
    let xs = c.loop-i.rack.items in
    met_told f c.args.query xs c.loop-i.i c.index.result.now c.index_mut.result.now c.tell.new.device (search rules)
    c.loop-i.invariant.none (search rules) (search rules) (search rules) c.tell.ensures.told
    ∙ ap (λ ys. rack_told (map f ys) c.args.query) c.loop-i.invariant.same

-- ---- or none

pub returns-clause-answer : goal.returns-clause-answer
returns-clause-answer g c =
    let f : _ → Meant = λ d. (goal.Device-dyn g (d.vtable, d.value)).meant d.value in
    let xs = c.loop-i.rack.items in
    let all : length xs ≤ c.loop-i.i = search rules in
    c.nothing.ensures.answer
    ∙ sym (end_answer f c.args.query xs c.loop-i.i all c.loop-i.invariant.none)
    ∙ ap (λ ys. rack_answer (map f ys) c.args.query) c.loop-i.invariant.same

pub returns-clause-told : goal.returns-clause-told
returns-clause-told g c =
    let f : _ → Meant = λ d. (goal.Device-dyn g (d.vtable, d.value)).meant d.value in
    let xs = c.loop-i.rack.items in
    let all : length xs ≤ c.loop-i.i = search rules in
    end_told f c.args.query xs c.loop-i.i all c.loop-i.invariant.none
    ∙ ap (λ ys. rack_told (map f ys) c.args.query) c.loop-i.invariant.same

pub loop-i-preserved : goal.loop-i-preserved
loop-i-preserved g c =
    let f : _ → Meant = λ d. (goal.Device-dyn g (d.vtable, d.value)).meant d.value in
    record {
      none = met_none f c.args.query c.loop-i.rack.items c.loop-i.i c.index.result.now c.loop-i.invariant.none
          (search rules) (search rules);
      same = c.loop-i.invariant.same;
    }
