use Rattle.std.proofs.Common.{◌≡◌, ℕ, ◌+◌, List, length, take, drop, ap, ◌∙◌, arith}
use Rattle.of_memory.specs.Regions.{byte_count}
use Rattle.of_memory.specs.DataSpace.{DataSpace, with_bytes}
use Rattle.of_memory.proofs.Splices.{splice_behind, part_length}
use Rattle.of_memory.proofs.memory.Memory.shift_with_tail.Goals as goal

pub returns : goal.returns
returns c =
    let m = c.args.self.now in
    let n = c.args.len in
    let xs = take n (drop c.args.from m.bytes) in
    let room : length m.bytes ≡ byte_count = rw (← c.self.view_is) c.self.invariant.0.bytes in
    let few : length xs ≡ n = part_length m.bytes c.args.from n (omega (arith, room, c.requires.from)) in
    c.put.ensures
    ∙ (ap (λ (s : DataSpace). with_bytes s (c.args.to + n) c.args.tail.now) c.shift.ensures
    ∙ ap (λ (l : List ℕ). record m { bytes = l })
    (splice_behind m.bytes xs c.args.tail.now c.args.to (c.args.to + n) (omega (arith, few))
    (omega (arith, room, c.requires.to))))
