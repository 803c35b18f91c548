use Rattle.std.proofs.Common.{◌∙◌, ap}
use Rattle.of_arguments.specs.CommandLine.{is_true}
use Rattle.of_arguments.proofs.arguments.has_flag.Goals as goal

pub returns : goal.returns
returns c = c.is_true.ensures ∙ ap is_true c.value.ensures
