use Rattle.std.proofs.Common.{◌≡◌, ◌+◌, ◌*◌, ◌≤◌, length, get_or, refl, arith}
use Rattle.of_memory.proofs.Gathered.{rising_written, rising_kept, gathered}
use Rattle.of_memory.proofs.gather.gather.Goals as goal
use Rattle.of_memory.proofs.gather.gather.Goals.{then-from-i, else-from-i}

pub loop-i-preserved : goal.loop-i-preserved
loop-i-preserved c =
    let old = c.args.bytes.now in
    let from = c.args.from in
    let to = c.args.to in
    let n = c.args.len in
    let s = c.args.spread in
    let new = c.loop-i.bytes in
    let i = c.loop-i.i in
    let room : to + n ≤ length old = c.requires.to in
    elim c.if-from-i.branch [
      | then-from-i w ↦
          rw w.bytes-is (rising_written old from to n s new i
          (get_or new (from + i * s) 0) c.requires.some room c.loop-i-test.true w.if-from-i.true refl
          c.loop-i.invariant)
      | else-from-i w ↦
          rw w.bytes-is (rising_kept old from to n s new i c.loop-i-test.true w.if-from-i.false c.loop-i.invariant)
    ]

pub returns : goal.returns
returns c =
    let end : c.loop-i.i ≡ c.args.len = omega (arith, c.loop-i.invariant.few) in
    gathered c.args.bytes.now c.args.from c.args.to c.args.len c.args.spread c.loop-i.bytes c.requires.to
    (rw end at c.loop-i.invariant)
