use Rattle.of_fcodes.proofs.TableLemmas.{rows_found}
use Rattle.of_fcodes.proofs.laws.names_and_numbers.Goals as goal

pub returns : goal.returns
returns c = rows_found
