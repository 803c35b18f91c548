use Rattle.std.proofs.Common.{◌≡◌, ◌∙◌, ◌==◌, false, inr, length, sym}
use Rattle.std.proofs.lemmas.Result.{IfErr-weaker, IfOk-weaker}
use Rattle.of_commands.proofs.Seen.{seen_run}
use Rattle.of_commands.proofs.definitions.see_definitions.Goals as goal

pub returns-in-Ok-run_script-clause-ok : goal.returns-in-Ok-run_script-clause-ok
returns-in-Ok-run_script-clause-ok c =
    let some : (length c.args.image.now == 0) ≡ false = sym c.is_empty.ensures ∙ c.if-is_empty.false in
    IfOk-weaker c.all_definitions.result _ _ (λ text same.
    seen_run c.args.image.now c.in-Ok.line.items text.items _ _ some c.in-Ok.ensures.items
    c.in-Ok-run_script.ensures.ok same)
    c.all_definitions.ensures.ok

pub returns-in-Ok-run_script-clause-err : goal.returns-in-Ok-run_script-clause-err
returns-in-Ok-run_script-clause-err c =
    IfErr-weaker c.all_definitions.result _ _ (λ f refused. inr refused) c.all_definitions.ensures.err
