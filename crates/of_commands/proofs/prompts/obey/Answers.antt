use Rattle.std.proofs.Common.{◌∙◌, Ok, ap, map, sym}
use Rattle.std.proofs.lemmas.Result.{IfErr-weaker}
use Rattle.of_calls.specs.Scripts.{command_of}
use Rattle.of_commands.proofs.Unled.{fails_carried}
use Rattle.of_commands.proofs.prompts.obey.Goals as goal

pub returns-in-Ok-clause-err : goal.returns-in-Ok-clause-err
returns-in-Ok-clause-err g c =
    let read = c.in-Ok.ensures.ok ∙ ap (λ cs. Ok (map command_of cs)) (sym c.deref.ensures.value) in
    let commands = map command_of c.deref.result.now in
    IfErr-weaker c.carry_out.result _ _
    (λ f h. fails_carried c.args.line.now commands c.args.debugger.now c.carry_out.new.debugger
    (g.W.Write.contents c.args.out.now) (g.W.Write.contents c.carry_out.new.out) f read h)
    c.carry_out.ensures.err
