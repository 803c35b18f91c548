use Rattle.of_cells.proofs.Divided.{floored-back, rest_has_sign}
use Rattle.of_cells.proofs.laws.floored_division.Goals as goal

pub returns : goal.returns
returns c = λ n d h. (floored-back n d h, rest_has_sign n d h)
