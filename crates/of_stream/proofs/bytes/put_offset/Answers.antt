use Rattle.std.proofs.Common.{rules}
use Rattle.of_stream.proofs.bytes.put_offset.Goals as goal

pub returns-in-Two-clause-ok : goal.returns-in-Two-clause-ok
returns-in-Two-clause-ok c = search rules
