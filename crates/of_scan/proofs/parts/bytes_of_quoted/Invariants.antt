use Rattle.std.proofs.Common.{◌-◌, length}
use Rattle.of_scan.specs.Parts.{quoted_part}
use Rattle.of_scan.proofs.GroupLemmas.{Leads}
use Rattle.of_scan.proofs.parts.bytes_of_quoted.Given as goal

-- the bytes so far and those of what is left are the string
abbrev pub invariant-loop : goal.invariant-loop
invariant-loop l = Leads l.out.items (length l.text - l.counter) l.rest (quoted_part l.text).0
