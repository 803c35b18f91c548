use Rattle.std.proofs.Common.{◌≡◌, ◌++◌, length, map}
use Rattle.std.specs.List.{flat_map}
use Rattle.of_source.specs.Items.{item_shown}
use Rattle.of_files.specs.Sources.{item_line}
use Rattle.of_files.proofs.source_lists.symbol_lines.Given as goal

-- the lines so far, and those of the items that are left
abbrev pub invariant-loop-rest : goal.invariant-loop-rest
invariant-loop-rest l = l.lines.items ++ flat_map item_line (map item_shown l.rest)
    ≡ flat_map item_line (map item_shown l.items)

abbrev pub decreases-loop-rest : goal.decreases-loop-rest
decreases-loop-rest l = length l.rest
