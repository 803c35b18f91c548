use Rattle.std.proofs.Common.{◌≡◌, ◌+◌, ◌≤◌, length}
use Rattle.of_detok.specs.Reading.{read_lines, text_lines, meaning}
use Rattle.of_detok.proofs.reader.read_listing.Given as goal

abbrev pub invariant-loop-rest : goal.invariant-loop-rest
invariant-loop-rest l = record {
  read : read_lines l.number l.image.items (text_lines l.rest) ≡ meaning l.text;
  count : l.number + length l.rest ≤ 1 + length l.text;
}

abbrev pub decreases-loop-rest : goal.decreases-loop-rest
decreases-loop-rest l = length l.rest
