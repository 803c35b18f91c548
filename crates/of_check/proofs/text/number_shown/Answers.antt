use Rattle.std.specs.String.{string_bytes}
use Rattle.of_check.proofs.Writing.{number_padded, written}
use Rattle.of_check.proofs.text.number_shown.Goals as goal

pub returns : goal.returns
returns c = written string_bytes _ _ _
    (number_padded c.args.least c.args.number c.in_radix.result c.laid_out.result c.in_radix.ensures c.laid_out.ensures)
    c.format.ensures.ok
