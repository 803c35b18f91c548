use Rattle.std.proofs.Common.{rules}
use Rattle.of_compile.proofs.element.Element.is_storable.Goals as goal

pub returns-in-None : goal.returns-in-None
returns-in-None c = search rules
