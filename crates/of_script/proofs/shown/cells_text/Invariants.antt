use Rattle.std.proofs.Common.{◌≡◌, ◌++◌, length}
use Rattle.std.specs.String.{string_bytes}
use Rattle.of_script.specs.Shown.{cells_text}
use Rattle.of_script.proofs.shown.cells_text.Given as goal

-- behind the text of the cells so far that of the rest is all
abbrev pub invariant-loop-rest : goal.invariant-loop-rest
invariant-loop-rest l = string_bytes l.text ++ cells_text l.rest ≡ cells_text l.cells

abbrev pub decreases-loop-rest : goal.decreases-loop-rest
decreases-loop-rest l = length l.rest
