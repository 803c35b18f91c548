use Rattle.std.proofs.Common.{◌≡◌, ◌+◌, ◌≤◌, ◌++◌, length}
use Rattle.of_files.specs.Files.{dense, past, stray_from}
use Rattle.of_files.proofs.part.take_digits.Given as goal

-- what is left has the first stray byte of all, and the digits and lines that are missing
abbrev pub invariant-loop-rest : goal.invariant-loop-rest
invariant-loop-rest l = record {
  stray : stray_from l.here l.rest ≡ stray_from l.fn.place l.fn.text;
  digits : l.digits.items ++ dense l.rest ≡ l.initial.digits.items ++ dense l.fn.text;
  place : past l.rest l.here ≡ past l.fn.text l.fn.place;
  lines : l.here.line + length l.rest ≤ l.fn.place.line + length l.fn.text;
  columns : l.here.column + length l.rest ≤ l.fn.place.column + length l.fn.text;
}

abbrev pub decreases-loop-rest : goal.decreases-loop-rest
decreases-loop-rest l = length l.rest
