use Rattle.std.proofs.Common.{◌≡◌, ◌-◌, ◌≤◌, length}
use Rattle.of_stream.specs.Image.{first_size}
use Rattle.of_check.specs.Table.{none_made}
use Rattle.of_check.proofs.Steps.{found_behind}
use Rattle.of_check.proofs.checker.push_tokens.Given as goal

abbrev pub invariant-loop : goal.invariant-loop
invariant-loop l =
    let image = l.stream.image.now in
    (found_behind l.out.items image l.made (length image - l.counter) l.position l.size
    ≡ found_behind l.fn.out.items image none_made (length image) 8 (first_size image))
    × (l.counter ≤ l.position)
