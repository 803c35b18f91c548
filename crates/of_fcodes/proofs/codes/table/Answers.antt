use Rattle.std.proofs.Common.{refl}
use Rattle.of_fcodes.specs.Rows.{rows, first_rows, second_rows, third_rows, fourth_rows, fifth_rows, sixth_rows}
use Rattle.of_fcodes.specs.Rows.{seventh_rows}
use Rattle.of_fcodes.proofs.codes.table.Goals as goal

pub returns : goal.returns
unfolding rows first_rows second_rows third_rows fourth_rows fifth_rows sixth_rows seventh_rows
returns c = refl
