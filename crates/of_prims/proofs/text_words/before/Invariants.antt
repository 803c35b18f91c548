use Rattle.std.proofs.Common.{◌≡◌, ◌+◌, length}
use Rattle.of_prims.specs.Text.{before}
use Rattle.of_prims.proofs.text_words.before.Given as goal

abbrev pub invariant-loop-rest : goal.invariant-loop-rest
invariant-loop-rest l = record {
  count : l.count + before l.byte l.rest ≡ before l.byte l.text;
  passed : l.count + length l.rest ≡ length l.text;
}

abbrev pub decreases-loop-rest : goal.decreases-loop-rest
decreases-loop-rest l = length l.rest
