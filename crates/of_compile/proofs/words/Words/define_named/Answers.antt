use Rattle.std.proofs.Common.{◌≡◌, true, false, Some, None, Err, is_some, is_none, rules, refl, sym, ap, ◌∙◌}
use Rattle.of_stacks.specs.Throws.{stack_underflow}
use Rattle.of_code.specs.Code.{end_of}
use Rattle.of_memory.specs.Growth.{aligned}
use Rattle.of_compile.specs.Defining.{made_by, making}
use Rattle.of_compile.specs.Words.{name_fault}
use Rattle.of_compile.proofs.FaultLemmas.{naming_lacks, naming_misnamed, naming_open}
use Rattle.of_compile.proofs.words.Words.define_named.Goals as goal

pub returns-then-is_some-clause-made : goal.returns-then-is_some-clause-made
returns-then-is_some-clause-made g c =
    let old = making c.args.self.now c.args.stack.now c.args.memory.now in
    let e : is_some old.words.defining ≡ true = search rules in
    let start = (end_of (g.C.CodeStore.code c.args.code.now)).cell in
    (naming_open c.args.word c.args.name.now start old e, refl {a = old})

pub returns-in-Err-clause-made : goal.returns-in-Err-clause-made
returns-in-Err-clause-made g c =
    let old = making c.args.self.now c.args.stack.now c.args.memory.now in
    let e : is_some old.words.defining ≡ false = search rules in
    let start = (end_of (g.C.CodeStore.code c.args.code.now)).cell in
    let none : made_by c.args.word start (aligned old.memory.here) old.stack ≡ None = search rules in
    let t : c.in-Err.fault ≡ stack_underflow = search rules in
    let lacks = naming_lacks c.args.word c.args.name.now start old e none in
    (lacks ∙ ap (λ u. Err u) (sym t), refl {a = old})

pub returns-in-Some-clause-made : goal.returns-in-Some-clause-made
returns-in-Some-clause-made g c =
    let old = making c.args.self.now c.args.stack.now c.args.memory.now in
    let e : is_some old.words.defining ≡ false = search rules in
    let start = (end_of (g.C.CodeStore.code c.args.code.now)).cell in
    let made : is_none (made_by c.args.word start (aligned old.memory.here) old.stack) ≡ false = search rules in
    let f : name_fault (Some c.args.name.now) ≡ Some c.in-Some.fault = search rules in
    (naming_misnamed c.args.word c.args.name.now start old c.in-Some.fault e made f, refl {a = old})

-- the goal at which a wrong body is refused
pub returns : goal.returns
returns g c = search rules
