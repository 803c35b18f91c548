use Rattle.std.proofs.Common.{rules, ◌≡◌, [], drop, true, Some, None}
use Rattle.of_stacks.specs.Returns.{is_due, top_item}
use Rattle.of_state.specs.State.{flat_calls, with_items}
use Rattle.of_state.specs.Settling.{cut_one, settled, still_thrown, thrown_at, uncaught, worked_one}
use Rattle.of_state.proofs.Settled.{cuts_on, falls_on, stops_on, works_on}
use Rattle.of_state.proofs.eval.Eval.+finish_step.Goals as goal

-- nothing is left to cut
pub returns-in_default-clause-state : goal.returns-in_default-clause-state
returns-in_default-clause-state g t c =
    let s = c.args.self.now in
    let empty : s.flow.items ≡ [] = search rules in
    let fallen : c.throw_uncaught.new.self ≡ uncaught flat_calls c.in-Some.fault s = search rules in
    let thrown : c.args.thrown ≡ Some c.in-Some.fault = search rules in
    falls_on flat_calls c.in-Some.fault c.args.thrown s c.throw_uncaught.new.self empty fallen thrown

-- nothing is left that could be due
pub returns-in_default-peek-clause-state : goal.returns-in_default-peek-clause-state
returns-in_default-peek-clause-state g t c =
    let s = c.args.self.now in
    let empty : s.flow.items ≡ [] = search rules in
    let thrown : c.args.thrown ≡ None = search rules in
    stops_on flat_calls c.args.thrown s empty thrown

-- an item is cut
pub returns-in-Some-pop-clause-state : goal.returns-in-Some-pop-clause-state
returns-in-Some-pop-clause-state g t c =
    let s = c.args.self.now in
    let top : Some c.in-Some-pop.item ≡ top_item s.flow.items = search rules in
    let rest : c.pop.new.self ≡ drop 1 s.flow.items = search rules in
    let cut : c.unwind_item-left.new.self
    ≡ cut_one flat_calls c.in-Some-pop.item c.in-Some.fault (with_items c.pop.new.self s) = search rules in
    let left : c.unwind_item-left.result ≡ still_thrown c.in-Some-pop.item c.in-Some.fault = search rules in
    let on : c.finish_step.new.self
    ≡ settled flat_calls c.unwind_item-left.new.self.flow.items c.unwind_item-left.result c.unwind_item-left.new.self
    = search rules in
    let thrown : c.args.thrown ≡ Some c.in-Some.fault = search rules in
    cuts_on flat_calls c.pop.new.self c.in-Some-pop.item c.in-Some.fault c.unwind_item-left.result c.args.thrown s
    c.unwind_item-left.new.self c.finish_step.new.self top rest cut left on thrown

-- an item is worked off
pub returns-else-not-is_due-clause-state : goal.returns-else-not-is_due-clause-state
returns-else-not-is_due-clause-state g t c =
    let s = c.args.self.now in
    let top : Some c.in-Some-peek.item ≡ top_item s.flow.items = search rules in
    let due : is_due c.in-Some-peek.item ≡ true = search rules in
    let rest : c.pop-in-None.new.self ≡ drop 1 s.flow.items = search rules in
    let work : c.pop_due.new.self ≡ worked_one flat_calls c.in-Some-peek.item (with_items c.pop-in-None.new.self s)
    = search rules in
    let late : c.late_throw-thrown.result ≡ thrown_at c.in-Some-peek.item s = search rules in
    let on : c.finish_step-in-None.new.self
    ≡ settled flat_calls c.pop_due.new.self.flow.items c.late_throw-thrown.result c.pop_due.new.self = search rules in
    let thrown : c.args.thrown ≡ None = search rules in
    works_on flat_calls c.pop-in-None.new.self c.in-Some-peek.item c.late_throw-thrown.result c.args.thrown s
    c.pop_due.new.self c.finish_step-in-None.new.self top due rest late work on thrown
