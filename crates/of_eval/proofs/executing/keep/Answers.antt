use Rattle.std.proofs.Common.{rules, ◌≡◌, subst}
use Rattle.of_compile.specs.Coding.{Coding}
use Rattle.of_own.specs.Stores.{store_entry}
use Rattle.of_eval.specs.Acts.{keeping}
use Rattle.of_eval.specs.Doing.{worked}
use Rattle.of_state.specs.State.{Leaves, State, flat_calls}
use Rattle.of_eval.proofs.Keeping.{keeps}
use Rattle.of_eval.proofs.executing.keep.Goals as goal

pub returns-clause-outcome : goal.returns-clause-outcome
returns-clause-outcome g c =
    let s : State Coding = record {
      board = c.eval.inside.board;
      flow = c.eval.inside.flow;
      words = c.eval.inside.words;
      code = c.eval.inside.coding.coding;
      reply = c.eval.inside.reply;
    } in
    let same : s ≡ c.args.eval.now = search rules in
    let xt = c.args.xt.0 in
    let w = c.store.new.words in
    let b = c.store.new.board in
    subst
    (λ (t : State Coding).
    Leaves (worked flat_calls (keeping (store_entry xt t.words t.board)) t) (record s { words = w; board = b })
    c.store.result)
    same
    (keeps flat_calls (store_entry xt s.words s.board) s w b c.store.result c.store.ensures)
