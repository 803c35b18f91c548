use Rattle.std.proofs.Common.{◌≡◌, ◌+◌, ◌<◌, ◌^◌, length}
use Rattle.of_scan.specs.Scan.{at_word}
use Rattle.of_scan.proofs.scan.Rest.skip_blanks.Given as goal

-- the byte where the loop stands leads to the same word
abbrev pub invariant-loop-self : goal.invariant-loop-self
invariant-loop-self l = record {
  same : at_word l.fn.self.at l.fn.self.text ≡ at_word l.self-inside.at l.self-inside.text.now;
  few : l.self-inside.at + length l.self-inside.text.now < 2 ^ 64;
}

abbrev pub decreases-loop-self : goal.decreases-loop-self
decreases-loop-self l = length l.self-inside.text.now
