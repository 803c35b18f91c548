use Rattle.std.proofs.Common.{◌≡◌, ◌++◌, drop}
use Rattle.of_see.specs.SeeText.{bytes_shown}
use Rattle.of_see.proofs.printing.push_bytes.Given as goal

-- what is appended, and what the bytes that are left give
abbrev pub invariant-loop-byte : goal.invariant-loop-byte
invariant-loop-byte l =
    l.out.items ++ bytes_shown (drop l.byte-index l.bytes) ≡ l.initial.out.items ++ bytes_shown l.bytes
