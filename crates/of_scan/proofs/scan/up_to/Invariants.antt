use Rattle.std.proofs.Common.{◌≡◌, take, drop}
use Rattle.of_scan.specs.Scan.{up_to, bytes_before}
use Rattle.of_scan.proofs.scan.up_to.Given as goal

abbrev pub invariant-loop-i : goal.invariant-loop-i
invariant-loop-i l = up_to l.end l.text ≡ bytes_before (take l.i l.text) (up_to l.end (drop l.i l.text))
