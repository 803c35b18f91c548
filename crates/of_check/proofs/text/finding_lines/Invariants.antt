use Rattle.std.proofs.Common.{◌≡◌, ◌++◌, drop}
use Rattle.std.specs.List.{flat_map}
use Rattle.of_check.specs.Texts.{finding_line}
use Rattle.of_check.proofs.text.finding_lines.Given as goal

abbrev pub invariant-loop-finding : goal.invariant-loop-finding
invariant-loop-finding l = l.out.items ++ flat_map finding_line (drop l.finding-index l.found)
    ≡ flat_map finding_line l.found
