use Rattle.std.proofs.Common.{◌≡◌, ◌-◌, length}
use Rattle.of_source.specs.Parsing.{words}
use Rattle.of_source.proofs.source.words.Given as goal

abbrev pub invariant-loop : goal.invariant-loop
invariant-loop l = words l.text l.size (length l.text - l.counter) l.parser
    ≡ words l.text l.size (length l.text) l.fn.parser
