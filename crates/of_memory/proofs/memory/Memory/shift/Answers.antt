use Rattle.std.proofs.Common.{◌≡◌, ◌++◌, length, take, drop, ap, arith}
use Rattle.std.proofs.lemmas.List.{take_at}
use Rattle.of_memory.specs.Regions.{byte_count}
use Rattle.of_memory.specs.DataSpace.{splice}
use Rattle.of_memory.proofs.Splices.{bytes_spliced, bytes_part, part_length}
use Rattle.of_memory.proofs.Sound.{sound_bytes}
use Rattle.of_memory.proofs.memory.Memory.shift.Goals as goal

pub invariant_of-self : goal.invariant_of-self
invariant_of-self c =
    let bs = c.self.inside.bytes.items in
    let s = c.self.invariant.0 in
    let ys = take c.args.len (drop c.args.from bs) in
    let new = c.shift.new.bytes in
    let few : length ys ≡ c.args.len =
    part_length bs c.args.from c.args.len (omega (arith, s.bytes, c.requires.from)) in
    let is : new ≡ splice bs c.args.to ys = rw c.deref_mut.ensures.value at c.shift.ensures in
    let len : length new ≡ byte_count =
    omega (arith, c.shift.auto.bytes, ap length c.deref_mut.ensures.value, s.bytes) in
    let whole : take c.self.inside.bytes.len (new ++ drop (length new) bs) ≡ new =
    take_at new (drop (length new) bs) c.self.inside.bytes.len
    (omega (arith, len, s.bytes, c.self.inside.bytes.ok.0)) in
    let small =
    bytes_spliced bs ys c.args.to (omega (arith, few, s.bytes, c.requires.to)) s.small
    (bytes_part bs c.args.from c.args.len (omega (arith, s.bytes, c.requires.from)) s.small) in
    (rw whole (sound_bytes _ new s len (rw is small)), c.self.invariant.1)
