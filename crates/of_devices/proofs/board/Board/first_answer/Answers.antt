use Rattle.std.proofs.Common.{rules, ◌≡◌, ◌≤◌, ◌<◌, ap, ◌∙◌, length, map, sym, true, false}
use Rattle.of_devices.specs.Parts.{part_meant}
use Rattle.of_devices.specs.Racks.{rack_answer, rack_told}
use Rattle.of_devices.proofs.RackLemmas.{end_answer, end_told, met_answer, met_told, met_none}
use Rattle.of_devices.proofs.board.Board.first_answer.Goals as goal

-- ---- the part that was met

pub returns-then-takes-clause-answer : goal.returns-then-takes-clause-answer
returns-then-takes-clause-answer c =
    let xs = c.loop-i.self.parts.items in
    let there : c.loop-i.i < length xs = search rules in
    c.answer.ensures.answer
    ∙ met_answer part_meant c.args.query xs c.loop-i.i c.index.result.now c.index_mut.result.now there
    c.loop-i.invariant.none c.index.ensures c.index_mut.ensures.value (sym c.takes.ensures ∙ c.if-takes.true)
    ∙ ap (λ ys. rack_answer (map part_meant ys) c.args.query) c.loop-i.invariant.same

pub returns-then-takes-clause-told : goal.returns-then-takes-clause-told
returns-then-takes-clause-told c =
    let xs = c.loop-i.self.parts.items in
    let there : c.loop-i.i < length xs = search rules in
    met_told part_meant c.args.query xs c.loop-i.i c.index.result.now c.index_mut.result.now c.answer.new.self there
    c.loop-i.invariant.none c.index.ensures c.index_mut.ensures.value (sym c.takes.ensures ∙ c.if-takes.true)
    c.answer.ensures.told
    ∙ ap (λ ys. rack_told (map part_meant ys) c.args.query) c.loop-i.invariant.same

-- ---- or none

pub returns-clause-answer : goal.returns-clause-answer
returns-clause-answer c =
    let xs = c.loop-i.self.parts.items in
    let all : length xs ≤ c.loop-i.i = search rules in
    c.nothing.ensures.answer
    ∙ sym (end_answer part_meant c.args.query xs c.loop-i.i all c.loop-i.invariant.none)
    ∙ ap (λ ys. rack_answer (map part_meant ys) c.args.query) c.loop-i.invariant.same

pub returns-clause-told : goal.returns-clause-told
returns-clause-told c =
    let xs = c.loop-i.self.parts.items in
    let all : length xs ≤ c.loop-i.i = search rules in
    end_told part_meant c.args.query xs c.loop-i.i all c.loop-i.invariant.none
    ∙ ap (λ ys. rack_told (map part_meant ys) c.args.query) c.loop-i.invariant.same

pub loop-i-preserved : goal.loop-i-preserved
loop-i-preserved c = record {
  none = met_none part_meant c.args.query c.loop-i.self.parts.items c.loop-i.i c.index.result.now
      c.loop-i.invariant.none c.index.ensures (sym c.takes.ensures ∙ c.if-takes.false);
  same = c.loop-i.invariant.same;
}
