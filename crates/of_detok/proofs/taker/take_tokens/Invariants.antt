use Rattle.std.proofs.Common.{◌≡◌, ◌-◌, length}
use Rattle.of_detok.specs.Definitions.{bytes_before, taken_behind, taken_from}
use Rattle.of_detok.proofs.taker.take_tokens.Given as goal

abbrev pub invariant-loop : goal.invariant-loop
invariant-loop l =
    let image = l.stream.image.now in
    bytes_before l.out.items (taken_from image (length image - l.counter) l.is_open l.position l.size)
    ≡ bytes_before l.fn.out.items (taken_behind image)
