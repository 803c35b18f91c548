use Rattle.std.proofs.Common.{◌≡◌, true, false, None, Some, Err, is_some, drop, rules, refl, sym, ap, ◌∙◌}
use Rattle.of_stacks.specs.Throws.{stack_underflow}
use Rattle.of_compile.specs.SlotWords.{begins, slot_made, slot_making}
use Rattle.of_compile.specs.Words.{name_fault}
use Rattle.of_compile.proofs.SlotFaults.{slot_misnamed, slot_named_homeless, slot_named_open, slot_named_short}
use Rattle.of_compile.proofs.words.Words.define_named_slot.Goals as goal

pub returns-then-is_some-clause-made : goal.returns-then-is_some-clause-made
returns-then-is_some-clause-made c =
    let old = slot_making c.args.self.now c.args.stack.now c.args.memory.now c.args.instances.now in
    let e : is_some old.words.defining ≡ true = search rules in
    (slot_named_open c.args.slot c.args.name.now c.args.home old e, refl {a = old})

pub returns-in-Err-clause-made : goal.returns-in-Err-clause-made
returns-in-Err-clause-made c =
    let old = slot_making c.args.self.now c.args.stack.now c.args.memory.now c.args.instances.now in
    let e : is_some old.words.defining ≡ false = search rules in
    let none : slot_made c.args.slot old.stack ≡ None = search rules in
    let t : c.in-Err.fault ≡ stack_underflow = search rules in
    (slot_named_short c.args.slot c.args.name.now c.args.home old e none ∙ ap (λ u. Err u) (sym t), refl {a = old})

pub returns-in_default-clause-made : goal.returns-in_default-clause-made
returns-in_default-clause-made c =
    let old = slot_making c.args.self.now c.args.stack.now c.args.memory.now c.args.instances.now in
    let e : is_some old.words.defining ≡ false = search rules in
    let b = c.in-Ok.beginning in
    let some : slot_made c.args.slot old.stack ≡ Some (begins b.template (drop b.taken old.stack)) = search rules in
    let away : c.args.home ≡ None = search rules in
    (rw away (slot_named_homeless c.args.slot c.args.name.now _ old e some), refl {a = old})

pub returns-in-Some-name_fault-clause-made : goal.returns-in-Some-name_fault-clause-made
returns-in-Some-name_fault-clause-made c =
    let old = slot_making c.args.self.now c.args.stack.now c.args.memory.now c.args.instances.now in
    let e : is_some old.words.defining ≡ false = search rules in
    let b = c.in-Ok.beginning in
    let some : slot_made c.args.slot old.stack ≡ Some (begins b.template (drop b.taken old.stack)) = search rules in
    let f : name_fault (Some c.args.name.now) ≡ Some c.in-Some-name_fault.fault = search rules in
    let there : c.args.home ≡ Some c.in-Some.«package» = search rules in
    let why =
    slot_misnamed c.args.slot c.args.name.now c.in-Some.«package» _ old c.in-Some-name_fault.fault e some f in
    (rw there why, refl {a = old})

pub returns-clause-made : goal.returns-clause-made
returns-clause-made c = search rules

pub returns-clause-named : goal.returns-clause-named
returns-clause-named c = search rules
