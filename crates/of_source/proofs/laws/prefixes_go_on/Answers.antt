use Rattle.of_source.proofs.Completing.{prefixes_go_on}
use Rattle.of_source.proofs.laws.prefixes_go_on.Goals as goal

pub returns : goal.returns
returns c = prefixes_go_on
