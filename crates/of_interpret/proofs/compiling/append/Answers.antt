use Rattle.of_compile.specs.Elements.{element_of}
use Rattle.of_interpret.proofs.Alone.{spoken_alone}
use Rattle.of_interpret.proofs.compiling.append.Goals as goal

pub returns : goal.returns
returns g c =
    spoken_alone (element_of c.args.element) c.args.eval.now c.compile.new.eval c.compile.result
    c.compile.ensures.outcome
