use Rattle.std.proofs.Common.{◌≡◌, take}
use Rattle.of_dict.proofs.name.Name.spelt.Given as goal

abbrev pub invariant-loop-byte : goal.invariant-loop-byte
invariant-loop-byte l = l.bytes.items ≡ take l.byte-index l.text
