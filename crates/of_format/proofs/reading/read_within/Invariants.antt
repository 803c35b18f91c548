use Rattle.std.proofs.Common.{◌≡◌, ◌≤◌, length, Some}
use Rattle.of_format.specs.Reading.{with_digits}
use Rattle.of_format.proofs.reading.read_within.Given as goal

abbrev pub invariant-loop-rest : goal.invariant-loop-rest
invariant-loop-rest l = record {
  number : with_digits l.base (Some l.number) l.rest ≡ with_digits l.base (Some 0) l.text;
  within : l.number ≤ l.limit;
}

abbrev pub decreases-loop-rest : goal.decreases-loop-rest
decreases-loop-rest l = length l.rest
