use Rattle.std.proofs.Common.{rules, ◌≡◌, subst}
use Rattle.of_compile.specs.Coding.{Coding}
use Rattle.of_eval.specs.Acts.{Works}
use Rattle.of_eval.specs.Doing.{work_grows, worked}
use Rattle.of_state.specs.State.{Ends, State, flat_calls, with_board}
use Rattle.of_eval.proofs.Executed.{works}
use Rattle.of_eval.proofs.executing.run_ordinary.Goals as goal

pub returns : goal.returns
returns g c =
    let s : State Coding = record {
      board = c.eval.inside.board;
      flow = c.eval.inside.flow;
      words = c.eval.inside.words;
      code = c.eval.inside.coding.coding;
      reply = c.eval.inside.reply;
    } in
    let same : s ≡ c.args.eval.now = search rules in
    let w = c.args.word in
    let p = c.run_word.new.board in
    let r = c.run_word.result in
    subst (λ (t : State Coding). Ends (work_grows (Works w)) (worked flat_calls (Works w) t) t (with_board p s) r) same
    (works w s p r c.run_word.ensures.value)
