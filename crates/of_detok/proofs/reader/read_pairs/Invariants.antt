use Rattle.std.proofs.Common.{◌≡◌, ◌++◌, length}
use Rattle.std.specs.Option.{option_map}
use Rattle.of_detok.specs.Reading.{paired}
use Rattle.of_detok.proofs.reader.read_pairs.Given as goal

abbrev pub invariant-loop-text : goal.invariant-loop-text
invariant-loop-text l = option_map (λ bytes. l.fn.out.items ++ bytes) (paired l.fn.text)
    ≡ option_map (λ bytes. l.out.items ++ bytes) (paired l.text)

abbrev pub decreases-loop-text : goal.decreases-loop-text
decreases-loop-text l = length l.text
