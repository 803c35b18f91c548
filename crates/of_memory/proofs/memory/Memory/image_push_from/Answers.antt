use Rattle.std.proofs.Common.{◌≡◌, ◌≤◌, length, inl, inr, refl, arith}
use Rattle.of_memory.specs.Regions.{image_limit}
use Rattle.of_memory.specs.DataSpace.{free_after}
use Rattle.of_memory.specs.Access.{every, read_spread}
use Rattle.of_memory.proofs.Spread.{every_length}
use Rattle.of_memory.proofs.Grown.{image_fits, image_full, stacked_limit}
use Rattle.of_memory.proofs.memory.Memory.image_push_from.Goals as goal
use Rattle.of_memory.proofs.memory.Memory.image_push_from.Goals.{then-len-at-via-then-len-at}
use Rattle.of_memory.proofs.memory.Memory.image_push_from.Goals.{then-len-at-via-else-len-at+then-count-ge-LIMIT}

pub returns-then-len-at-clause-value : goal.returns-then-len-at-clause-value
returns-then-len-at-clause-value c =
    let m = c.args.self.now in
    let n = c.args.len.0 in
    let s = c.args.step.0 in
    let xs = every m.bytes c.in_ok-source.source n s in
    let len : length xs ≡ n = every_length m.bytes c.in_ok-source.source n s in
    let r = read_spread m c.args.from.0 n s in
    let free : c.free-at.result ≡ free_after m.images = rw (← c.self.view_is) c.free-at.ensures in
    elim c.then-len-at.branch [
      | then-len-at-via-then-len-at w ↦
          (image_full m r xs n c.in_ok-source.ensures.value len (inl (omega (arith, free, w.if-len-at.true))), refl)
      | then-len-at-via-else-len-at+then-count-ge-LIMIT w ↦
          let many : w.count.result ≡ length m.images = rw (← c.self.view_is) w.count.ensures in (
            image_full m r xs n c.in_ok-source.ensures.value len
                (inr (omega (arith, many, w.if-count-ge-LIMIT.true))),
            refl,
          )
    ]

pub returns-clause-value : goal.returns-clause-value
returns-clause-value c =
    let m = c.args.self.now in
    let n = c.args.len.0 in
    let s = c.args.step.0 in
    let xs = every m.bytes c.in_ok-source.source n s in
    let len : length xs ≡ n = every_length m.bytes c.in_ok-source.source n s in
    let r = read_spread m c.args.from.0 n s in
    let free : c.free-at.result ≡ free_after m.images = rw (← c.self.view_is) c.free-at.ensures in
    let many : c.count.result ≡ length m.images = rw (← c.self.view_is) c.count.ensures in
    let within : free_after m.images ≤ image_limit =
    rw (← c.self.view_is) (stacked_limit c.self.inside.images c.self.invariant.0.images) in
    let put =
    image_fits m r xs n c.in_ok-source.ensures.value len (omega (arith, free, c.if-len-at.false))
    (omega (arith, many, c.if-count-ge-LIMIT.false)) in
    rw (c.gather.ensures, c.place.ensures, c.push.ensures, free, ← c.self.view_is) (rw (← c.self.view_is) at put)
