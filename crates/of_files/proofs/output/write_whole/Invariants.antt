use Rattle.std.proofs.Common.{◌-◌, ◌≤◌, length, take}
use Rattle.std.specs.Io.KnownBytes.{Appends}
use Rattle.of_files.proofs.output.write_whole.Given as goal

-- what went out are the first bytes
abbrev pub invariant-loop-gone : goal.invariant-loop-gone
invariant-loop-gone g l = record {
  within : l.gone ≤ length l.bytes;
  written : Appends (g.W.Write.contents l.initial.out) (g.W.Write.contents l.out) (take l.gone l.bytes);
}

abbrev pub decreases-loop-gone : goal.decreases-loop-gone
decreases-loop-gone g l = length l.bytes - l.gone
