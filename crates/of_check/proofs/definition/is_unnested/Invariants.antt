use Rattle.std.proofs.Common.{◌≡◌, ◌-◌, length, [], Some}
use Rattle.of_check.specs.Tokens.{tokens_from}
use Rattle.of_check.proofs.Judging.{judged}
use Rattle.of_check.proofs.definition.is_unnested.Given as goal

abbrev pub invariant-loop : goal.invariant-loop
invariant-loop l =
    let image = l.stream.image.now in
    judged l.control (tokens_from image (length image - l.counter) l.position l.size).tokens
    ≡ judged (Some []) (tokens_from image (length image) l.fn.position l.fn.size).tokens
