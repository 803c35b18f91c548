use Rattle.std.proofs.Common.{◌≡◌, ◌≤◌, ◌-◌, length}
use Rattle.of_scan.specs.Parts.{grouped_part, quoted_part}
use Rattle.of_scan.proofs.parts.behind_quoted.Given as goal

-- what follows the string is what follows it from here on
abbrev pub invariant-loop : goal.invariant-loop
invariant-loop l = record {
  same : (grouped_part (length l.text - l.counter) l.rest).1 ≡ (quoted_part l.text).1;
  shorter : length l.rest ≤ length l.text;
}
