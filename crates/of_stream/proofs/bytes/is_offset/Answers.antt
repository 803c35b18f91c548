use Rattle.std.proofs.Common.{rules}
use Rattle.of_stream.proofs.bytes.is_offset.Goals as goal

pub returns-in-Two : goal.returns-in-Two
returns-in-Two c = search rules
