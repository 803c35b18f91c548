use Rattle.std.proofs.Common.{ap, ◌∙◌}
use Rattle.of_fcodes.specs.declared.table.TheConstants.{PLACES}
use Rattle.of_fcodes.specs.Lookup.{row_placed}
use Rattle.of_fcodes.proofs.TableLemmas.{row_placed-rows}
use Rattle.of_fcodes.proofs.codes.row_of.Goals as goal

pub returns : goal.returns
returns c = c.row_at.ensures ∙ ap (λ rs. row_placed rs PLACES c.args.code.0) c.table.ensures
    ∙ row_placed-rows c.args.code.0
