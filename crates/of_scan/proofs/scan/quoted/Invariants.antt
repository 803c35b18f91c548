use Rattle.std.proofs.Common.{◌≡◌, ◌≤◌, ◌-◌, length}
use Rattle.of_scan.specs.Scan.{quoted, quoted_string, bytes_before}
use Rattle.of_scan.proofs.scan.quoted.Given as goal

-- the pieces so far and what is left are the string
abbrev pub invariant-loop : goal.invariant-loop
invariant-loop l = record {
  same : bytes_before l.out.items (quoted (length l.text - l.counter) l.rest) ≡ quoted_string l.text;
  shorter : length l.rest ≤ length l.text;
}
