-- Marks: the items of finished colon definitions at which `go` stops.
use Rattle.std.specs.Prelude.{List, filter, not}
use Rattle.of_steps.specs.declared.marks.Mark.{Mark}
use Rattle.of_steps.specs.Goals.{is_same}

-- the marks but that of an item
abbrev pub without : Mark → List Mark → List Mark
without mark marks = filter (λ other. not (is_same mark other)) marks
