-- The goals at which wrong bodies are refused.
use Rattle.std.proofs.Common.{rules}
use Rattle.of_props.proofs.encoding.encode_bytes.Goals as goal

pub returns : goal.returns
returns c = search rules
