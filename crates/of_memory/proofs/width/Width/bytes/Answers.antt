use Rattle.std.proofs.Common.{rules}
use Rattle.of_memory.proofs.width.Width.bytes.Goals as goal

pub returns-in-Two : goal.returns-in-Two
returns-in-Two c = search rules
