use Rattle.std.proofs.Common.{◌≡◌, ◌||◌, true, false, None, Some, Err, is_some, is_none, drop, rules, refl, sym, ap}
use Rattle.std.proofs.Common.{◌∙◌}
use Rattle.of_stacks.specs.Throws.{stack_underflow}
use Rattle.of_compile.specs.SlotWords.{begins, slot_made, slot_making}
use Rattle.of_compile.proofs.SlotFaults.{slot_homeless, slot_nested, slot_short}
use Rattle.of_compile.proofs.words.Words.define_slot.Goals.{then-is_some-via-then-is_some}
use Rattle.of_compile.proofs.words.Words.define_slot.Goals.{then-is_some-via-else-is_some+then-is_none}
use Rattle.of_compile.proofs.words.Words.define_slot.Goals as goal

pub returns-then-is_some-clause-made : goal.returns-then-is_some-clause-made
returns-then-is_some-clause-made c =
    let old = slot_making c.args.self.now c.args.stack.now c.args.memory.now c.args.instances.now in
    let e : (is_some old.words.defining || is_none old.words.pending) ≡ true = elim c.then-is_some.branch [
      | then-is_some-via-then-is_some w ↦ search rules
      | then-is_some-via-else-is_some+then-is_none w ↦ search rules
    ] in
    (slot_nested c.args.slot c.args.home old e, refl {a = old})

pub returns-in-Err-clause-made : goal.returns-in-Err-clause-made
returns-in-Err-clause-made c =
    let old = slot_making c.args.self.now c.args.stack.now c.args.memory.now c.args.instances.now in
    let e : is_some old.words.defining ≡ false = search rules in
    let p : is_none old.words.pending ≡ false = search rules in
    let none : slot_made c.args.slot old.stack ≡ None = search rules in
    let t : c.in-Err.fault ≡ stack_underflow = search rules in
    (slot_short c.args.slot c.args.home old e p none ∙ ap (λ u. Err u) (sym t), refl {a = old})

pub returns-in_default-clause-made : goal.returns-in_default-clause-made
returns-in_default-clause-made c =
    let old = slot_making c.args.self.now c.args.stack.now c.args.memory.now c.args.instances.now in
    let e : is_some old.words.defining ≡ false = search rules in
    let p : is_none old.words.pending ≡ false = search rules in
    let b = c.in-Ok.beginning in
    let some : slot_made c.args.slot old.stack ≡ Some (begins b.template (drop b.taken old.stack)) = search rules in
    let away : c.args.home ≡ None = search rules in
    (rw away (slot_homeless c.args.slot _ old e p some), refl {a = old})
