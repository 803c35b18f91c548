use Rattle.std.proofs.Common.{rules, ◌≡◌, ◌∙◌, sym}
use Rattle.std.proofs.lemmas.Result.{err_from_is_err_and}
use Rattle.of_refusal.specs.declared.refusal.Refusal.TheVariants as refusal
use Rattle.of_machine.proofs.RunLemmas.{first_refused}
use Rattle.of_machine.proofs.run.begun_machine.Goals as goal

pub returns-in_err-begin-clause-err : goal.returns-in_err-begin-clause-err
returns-in_err-begin-clause-err c =
    let error = c.in_err-begin.field-0.0 in
    let none : error ≡ refusal.NoMemory =
    first_refused c.args.image.now c.of.result c.in-Ok.machine error c.in-Ok.ensures c.requires.accepted
    c.in_err-begin.ensures.err in
    let p = err_from_is_err_and c.from_residual.result c.from_residual.ensures.1 in
    let same : error ≡ p.0 = search rules in
    rw p.1 (sym same ∙ none)
