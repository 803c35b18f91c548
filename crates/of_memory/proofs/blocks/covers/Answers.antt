use Rattle.std.proofs.Common.{◌≡◌, ℕ, ◌+◌, ◌-◌, ◌≤◌, ◌<◌, nat_le, drop, [], sym, ap, ◌∙◌, arith}
use Rattle.std.proofs.lemmas.Bool.{le-leb, lt-leb}
use Rattle.std.proofs.lemmas.Grind.{common_steps}
use Rattle.std.proofs.lemmas.List.{drop_all}
use Rattle.of_memory.specs.Regions.{heap_start, heap_limit}
use Rattle.of_memory.specs.BlockSearch.{reach}
use Rattle.of_memory.specs.declared.blocks.Block.{Block}
use Rattle.of_memory.proofs.Reach.{all_live, laid_drop, reach_below, reach_ge}
use Rattle.of_memory.proofs.blocks.covers.Goals as goal
use Rattle.of_memory.proofs.blocks.covers.Goals.{then-loop-i-test+else-next-addr, else-loop-i-test}

same_test : (a n next : ℕ) → a ≤ next → nat_le n (next - a) ≡ nat_le (a + n) next
same_test a n next l = grind (arith, common_steps)

pub returns-then-next-b : goal.returns-then-next-b
returns-then-next-b c =
    let bs = c.args.blocks.now in
    let i = c.loop-i.i in
    let d : Block = record { at = 0; size = 0 } in
    let laid = laid_drop heap_start heap_limit bs i d c.requires.laid c.loop-i-test.true in
    let stop : reach (drop i bs) c.loop-i.next ≡ c.loop-i.next =
    reach_below _ heap_limit (drop i bs) c.loop-i.next laid c.if-next-b.true in
    let end : reach bs c.args.addr ≡ c.loop-i.next = sym c.loop-i.invariant.rest ∙ stop in
    let beyond : c.loop-i.next < c.args.addr + c.args.len = omega (arith, c.loop-i.invariant.on) in
    sym (all_live bs c.args.addr c.args.len c.requires.laid
    ∙ (ap (λ x. nat_le (c.args.addr + c.args.len) x) end ∙ lt-leb (c.args.addr + c.args.len) c.loop-i.next beyond))

pub returns : goal.returns
returns c =
    let bs = c.args.blocks.now in
    let a = c.args.addr in
    let n = c.args.len in
    let next = c.loop-i.next in
    let live = all_live bs a n c.requires.laid in
    let test = same_test a n next c.loop-i.invariant.on in
    elim c.loop-i-test.branch [
      | then-loop-i-test+else-next-addr w ↦
          let far : next ≤ reach (drop c.loop-i.i bs) next = reach_ge (drop c.loop-i.i bs) next in
          let all : a + n ≤ next = omega (arith, w.if-next-addr.false, c.loop-i.invariant.on) in
          let reached : a + n ≤ reach bs a = omega (arith, far, c.loop-i.invariant.rest) in
          test ∙ (le-leb (a + n) next all ∙ sym (live ∙ le-leb (a + n) (reach bs a) reached))
      | else-loop-i-test w ↦
          let none : drop c.loop-i.i bs ≡ [] = drop_all c.loop-i.i bs w.loop-i-test.false in
          let end : next ≡ reach bs a = rw none at c.loop-i.invariant.rest in
          test ∙ (ap (λ x. nat_le (a + n) x) end ∙ sym live)
    ]
