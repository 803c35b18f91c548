use Rattle.std.proofs.Common.{rules, ◌≡◌, ◌++◌, true, Some, None, Ok}
use Rattle.std.specs.Box.{box_value}
use Rattle.std.specs.Option.{option_map}
use Rattle.of_stacks.specs.Order.{counting}
use Rattle.of_asking.specs.declared.query.Query.{Query}
use Rattle.of_instances.specs.Calling.{beneath, calling_entry, operand_cells}
use Rattle.of_eval.specs.Doing.{executed, executed_grows}
use Rattle.of_eval.specs.Executing.{call_faults}
use Rattle.of_state.specs.State.{flat_calls}
use Rattle.of_eval.specs.Unrolled.{IsKeptFor, begun, called_entry, called_grows, uncalled}
use Rattle.of_eval.proofs.Called.{asks_no_colon, call_asks, call_grows, grows_no_colon, undoes}
use Rattle.of_eval.proofs.executing.+executes.Goals as goal

-- the word of a method has found no memory, and the call is undone
pub call_method-returns-in-Err-NoMemory : goal.call_method-returns-in-Err-NoMemory
call_method-returns-in-Err-NoMemory g t c =
    let s = c.args.eval.now in
    let m = c.in-Some.call in
    let b = c.begin_call.new.eval in
    let kept = option_map box_value c.in_ok-kept.kept in
    let w = c.args.word in
    let k = c.args.calling in
    let found : calling_entry k s.board ≡ Ok (Some m) = search rules in
    let good : counting (call_faults s m.xt) ≡ None = search rules in
    let begins : begun m s ≡ Ok b = search rules in
    let grows : executed_grows b m.xt.0 ≡ true = search rules in
    let undone : c.undo_call.new.eval ≡ uncalled m s.board.active.my_self kept b = search rules in
    let operands : s.board.stack ≡ operand_cells m.operands ++ beneath m.operands s.board.stack = search rules in
    let keeps : IsKeptFor m.callee m.xt s kept = search rules in
    let back : c.undo_call.new.eval ≡ s = undoes m kept s b c.undo_call.new.eval begins undone operands keeps
    (grows_no_colon m.xt.0 b grows) in
    let whole : called_grows s w k ≡ true = call_grows w k m s b found good begins grows in
    (whole, back)

-- the word of a method asks, and the call is undone
pub call_method-returns-in-Err-Asks : goal.call_method-returns-in-Err-Asks
call_method-returns-in-Err-Asks g t c =
    let s = c.args.eval.now in
    let m = c.in-Some.call in
    let b = c.begin_call.new.eval in
    let kept = option_map box_value c.in_ok-kept.kept in
    let w = c.args.word in
    let k = c.args.calling in
    let found : calling_entry k s.board ≡ Ok (Some m) = search rules in
    let good : counting (call_faults s m.xt) ≡ None = search rules in
    let begins : begun m s ≡ Ok b = search rules in
    let q : Query = c.in-Err-Asks.query in
    let asks : (executed flat_calls m.xt.0 b).asks ≡ Some q = search rules in
    let undone : c.undo_call-in-Err-Asks.new.eval ≡ uncalled m s.board.active.my_self kept b = search rules in
    let operands : s.board.stack ≡ operand_cells m.operands ++ beneath m.operands s.board.stack = search rules in
    let keeps : IsKeptFor m.callee m.xt s kept = search rules in
    let back : c.undo_call-in-Err-Asks.new.eval ≡ s =
    undoes m kept s b c.undo_call-in-Err-Asks.new.eval begins undone operands keeps
    (asks_no_colon flat_calls m.xt.0 b q asks) in
    let whole : (called_entry flat_calls s w k).asks ≡ Some q
    = call_asks flat_calls w k m s b q found good begins asks in
    (whole, back)
