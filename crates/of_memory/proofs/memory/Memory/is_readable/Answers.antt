use Rattle.std.proofs.Common.{◌≡◌, ◌+◌, ◌%◌, ◌<◌, ◌≤◌, true, false, None, sym, ◌∙◌, arith}
use Rattle.of_memory.specs.Regions.{region_of, size_of, is_heap, span}
use Rattle.of_memory.proofs.Readable.{plain, nowhere, outside, in_heap}
use Rattle.of_memory.proofs.memory.Memory.is_readable.Goals as goal
use Rattle.of_memory.proofs.memory.Memory.is_readable.Goals.{then-within-size-via-then-within-size}
use Rattle.of_memory.proofs.memory.Memory.is_readable.Goals.{then-within-size-via-else-within-size+then-len-size}

pub returns-in_default : goal.returns-in_default
returns-in_default c =
    let none : region_of c.args.addr ≡ None = sym c.of.ensures ∙ c.in_default.is in
    sym (nowhere c.args.self.now c.args.addr c.args.len none c.requires)

pub returns-then-within-size : goal.returns-then-within-size
returns-then-within-size c =
    let r = c.in-Some.region in
    let past : size_of r < c.args.addr % span + c.args.len =
    elim c.then-within-size.branch [
      | then-within-size-via-then-within-size w ↦ omega (arith, c.size-size.ensures.value, w.if-within-size.true)
      | then-within-size-via-else-within-size+then-len-size w ↦ omega
          (arith, c.size-size.ensures.value, w.if-within-size.false, w.if-len-size.true)
    ] in
    sym (outside c.args.self.now c.args.addr c.args.len r (sym c.in-Some.ensures) c.requires past)

pub returns-then-is_heap : goal.returns-then-is_heap
returns-then-is_heap c =
    let r = c.in-Some.region in
    let fits : c.args.addr % span + c.args.len ≤ size_of r = omega (arith, c.size-size.ensures.value) in
    let heap : is_heap r ≡ true = sym c.is_heap.ensures ∙ c.if-is_heap.true in
    let same : c.deref.result.now ≡ c.args.self.now.heap = rw (← c.self.view_is) c.deref.ensures.value in
    c.covers.ensures ∙ rw same (sym (in_heap c.args.self.now c.args.addr c.args.len r
    (sym c.in-Some.ensures) heap fits))

pub returns-else-is_heap : goal.returns-else-is_heap
returns-else-is_heap c =
    let r = c.in-Some.region in
    let fits : c.args.addr % span + c.args.len ≤ size_of r = omega (arith, c.size-size.ensures.value) in
    let heap : is_heap r ≡ false = sym c.is_heap.ensures ∙ c.if-is_heap.false in
    sym (plain c.args.self.now c.args.addr c.args.len r (sym c.in-Some.ensures) heap fits)
