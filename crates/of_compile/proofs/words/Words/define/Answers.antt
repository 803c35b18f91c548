use Rattle.std.proofs.Common.{◌≡◌, ◌||◌, true, false, None, Err, is_some, is_none, rules, refl, sym, ap, ◌∙◌}
use Rattle.of_stacks.specs.Throws.{stack_underflow}
use Rattle.of_code.specs.Code.{end_of}
use Rattle.of_memory.specs.Growth.{aligned}
use Rattle.of_compile.specs.Defining.{made_by, making}
use Rattle.of_compile.proofs.FaultLemmas.{entry_nested, entry_short}
use Rattle.of_compile.proofs.words.Words.define.Goals.{then-is_some-via-then-is_some}
use Rattle.of_compile.proofs.words.Words.define.Goals.{then-is_some-via-else-is_some+then-is_none}
use Rattle.of_compile.proofs.words.Words.define.Goals as goal

-- src/defining.rt:150:13
pub returns-then-is_some-clause-made : goal.returns-then-is_some-clause-made
returns-then-is_some-clause-made g c =
    let old = making c.args.self.now c.args.stack.now c.args.memory.now in
    let e : (is_some old.words.defining || is_none old.words.pending) ≡ true = elim c.then-is_some.branch [
      | then-is_some-via-then-is_some w ↦ search rules
      | then-is_some-via-else-is_some+then-is_none w ↦ search rules
    ] in
    (entry_nested c.args.word (end_of (g.C.CodeStore.code c.args.code.now)).cell old e, refl {a = old})

-- src/defining.rt:154:27
pub returns-in-Err-clause-made : goal.returns-in-Err-clause-made
returns-in-Err-clause-made g c =
    let old = making c.args.self.now c.args.stack.now c.args.memory.now in
    let e : is_some old.words.defining ≡ false = search rules in
    let p : is_none old.words.pending ≡ false = search rules in
    let start = (end_of (g.C.CodeStore.code c.args.code.now)).cell in
    let none : made_by c.args.word start (aligned old.memory.here) old.stack ≡ None = search rules in
    let t : c.in-Err.fault ≡ stack_underflow = search rules in
    (entry_short c.args.word start old e p none ∙ ap (λ u. Err u) (sym t), refl {a = old})
