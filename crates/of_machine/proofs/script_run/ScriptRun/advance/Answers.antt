use Rattle.std.proofs.Common.{rules, ◌≡◌, ◌∙◌, ◌≤◌, ◌<◌, ◌^◌, false, true, inl, ap, subst, sym, refl, suc, arith}
use Rattle.std.proofs.lemmas.Bool.{leb-false, leb-true}
use Rattle.of_asking.specs.declared.query.Query.{Query}
use Rattle.of_compile.specs.Coding.{Coding}
use Rattle.of_state.specs.State.{flat_calls}
use Rattle.of_machine.specs.declared.answers.Progress.TheVariants.{Asks, Done, Ended}
use Rattle.of_machine.specs.States.{HasMoved, MayGrow, Steps, goes_on, is_running}
use Rattle.of_machine.specs.Runs.{Advances, AreUpto, Feed, IsCalm, line_left, settled}
use Rattle.of_machine.specs.Refused.{IsUnserved}
use Rattle.of_machine.proofs.RefusedLemmas.{held_before, held_behind, on_err}
use Rattle.of_machine.proofs.RunLemmas.{asks_behind, goes_idle, not_made, reaches, rests_so, stands}
use Rattle.of_machine.proofs.RunLemmas.{until_after}
use Rattle.of_machine.proofs.script_run.ScriptRun.advance.Goals as goal

-- ---- up to a client, or to the limit

pub returns-then-until-limit-clause-ok : goal.returns-then-until-limit-clause-ok
returns-then-until-limit-clause-ok c =
    let f = c.args.self.now in
    let m = c.run.new.self in
    let until = c.until-until.result in
    let same : c.self.inside.machine ≡ f.machine = ap (λ (x : Feed Coding). x.machine) c.self.view_is in
    let calm : IsCalm f = c.requires.calm in
    let upto : AreUpto until f.calls = c.until-until.ensures.upto in
    let ready : f.machine.steps ≤ until =
    until_after f.machine.steps until c.args.limit c.requires.few c.until-until.ensures.few
    (λ less. c.until-until.ensures.due less calm.0) in
    let moves : HasMoved f.machine m = subst (λ x. HasMoved x m) same c.run.ensures.steps in
    let some : m.steps ≤ until = search rules in
    let few : m.steps < 2 ^ 64 = omega (arith, some, c.until-until.ensures.few, c.ranges.limit.fits) in
    let g : Feed Coding = record f { machine = m } in
    let new = c.serve.new.self in
    let at : m.steps ≡ until = search rules in
    let served : new ≡ settled g = search rules in
    let there = reaches f g new m until calm moves few at upto refl served c.in_ok-serve.ensures.later in (
      there.0,
      omega (arith, there.1, c.until-until.ensures.due (leb-true (suc until) c.args.limit (search rules)) calm.0),
      omega (arith, there.1, c.until-until.ensures.few),
    )

pub returns-else-until-limit-clause-ok : goal.returns-else-until-limit-clause-ok
returns-else-until-limit-clause-ok c =
    let f = c.args.self.now in
    let m = c.run.new.self in
    let until = c.until-until.result in
    let same : c.self.inside.machine ≡ f.machine = ap (λ (x : Feed Coding). x.machine) c.self.view_is in
    let calm : IsCalm f = c.requires.calm in
    let upto : AreUpto until f.calls = c.until-until.ensures.upto in
    let ready : f.machine.steps ≤ until =
    until_after f.machine.steps until c.args.limit c.requires.few c.until-until.ensures.few
    (λ less. c.until-until.ensures.due less calm.0) in
    let moves : HasMoved f.machine m = subst (λ x. HasMoved x m) same c.run.ensures.steps in
    let some : m.steps ≤ until = search rules in
    let few : m.steps < 2 ^ 64 = omega (arith, some, c.until-until.ensures.few, c.ranges.limit.fits) in
    let g : Feed Coding = record f { machine = m } in
    let new = c.serve.new.self in
    let at : m.steps ≡ until = search rules in
    let served : new ≡ settled g = search rules in
    let there = reaches f g new m until calm moves few at upto refl served c.in_ok-serve.ensures.later in
    let all : until ≡ c.args.limit =
    omega (arith, c.until-until.ensures.few, leb-false (suc until) c.args.limit (search rules)) in
    (there.0, omega (arith, there.1, all), inl (omega (arith, there.1, all)))

-- ---- up to a step that asks

pub returns-in-Asks-clause-ok : goal.returns-in-Asks-clause-ok
returns-in-Asks-clause-ok c =
    let f = c.args.self.now in
    let m = c.run.new.self in
    let until = c.until-until.result in
    let same : c.self.inside.machine ≡ f.machine = ap (λ (x : Feed Coding). x.machine) c.self.view_is in
    let calm : IsCalm f = c.requires.calm in
    let upto : AreUpto until f.calls = c.until-until.ensures.upto in
    let ready : f.machine.steps ≤ until =
    until_after f.machine.steps until c.args.limit c.requires.few c.until-until.ensures.few
    (λ less. c.until-until.ensures.due less calm.0) in
    let moves : HasMoved f.machine m = subst (λ x. HasMoved x m) same c.run.ensures.steps in
    let some : m.steps ≤ until = search rules in
    let few : m.steps < 2 ^ 64 = omega (arith, some, c.until-until.ensures.few, c.ranges.limit.fits) in
    let n = c.step.new.self in
    let apart : m.steps ≡ until → ⊥ = search rules in
    let less : m.steps < until = omega (arith, some, apart) in
    let q : Query = c.in-Asks.query in
    let asks : Steps (Asks q) m n = search rules in
    asks_behind f _ m n q until c.args.limit calm moves few less c.until-until.ensures.few upto asks
    (ap (λ (x : Feed Coding). record x { machine = n }) c.self.view_is)

-- ---- where nothing runs

pub returns-then-not-is_running-clause-ok : goal.returns-then-not-is_running-clause-ok
returns-then-not-is_running-clause-ok c =
    let f = c.args.self.now in
    let m = c.run.new.self in
    let until = c.until-until.result in
    let same : c.self.inside.machine ≡ f.machine = ap (λ (x : Feed Coding). x.machine) c.self.view_is in
    let calm : IsCalm f = c.requires.calm in
    let upto : AreUpto until f.calls = c.until-until.ensures.upto in
    let ready : f.machine.steps ≤ until =
    until_after f.machine.steps until c.args.limit c.requires.few c.until-until.ensures.few
    (λ less. c.until-until.ensures.due less calm.0) in
    let moves : HasMoved f.machine m = subst (λ x. HasMoved x m) same c.run.ensures.steps in
    let some : m.steps ≤ until = search rules in
    let few : m.steps < 2 ^ 64 = omega (arith, some, c.until-until.ensures.few, c.ranges.limit.fits) in
    let apart : m.steps ≡ until → ⊥ = search rules in
    let less : m.steps < until = omega (arith, some, apart) in
    let idle : is_running m ≡ false = search rules in
    let g : Feed Coding = record f { machine = m } in
    let new = c.go_on.new.self in
    let served : new ≡ settled g = search rules in
    let here =
    goes_idle f g new m until c.args.limit calm moves few less c.until-until.ensures.few upto idle refl served
    c.in_ok-behind.ensures.later in
    let so : c.in_ok-behind.behind ≡ line_left f.lines = search rules in
    subst (λ a. Advances c.args.limit a f new) (sym so) here

-- ---- where none can be made

pub returns-in-Ended-clause-ok : goal.returns-in-Ended-clause-ok
returns-in-Ended-clause-ok c =
    let f = c.args.self.now in
    let m = c.run.new.self in
    let until = c.until-until.result in
    let same : c.self.inside.machine ≡ f.machine = ap (λ (x : Feed Coding). x.machine) c.self.view_is in
    let calm : IsCalm f = c.requires.calm in
    let upto : AreUpto until f.calls = c.until-until.ensures.upto in
    let ready : f.machine.steps ≤ until =
    until_after f.machine.steps until c.args.limit c.requires.few c.until-until.ensures.few
    (λ less. c.until-until.ensures.due less calm.0) in
    let moves : HasMoved f.machine m = subst (λ x. HasMoved x m) same c.run.ensures.steps in
    let some : m.steps ≤ until = search rules in
    let few : m.steps < 2 ^ 64 = omega (arith, some, c.until-until.ensures.few, c.ranges.limit.fits) in
    let n = c.step.new.self in
    let apart : m.steps ≡ until → ⊥ = search rules in
    let less : m.steps < until = omega (arith, some, apart) in
    let ended : Steps Ended m n = search rules in
    let runs : is_running m ≡ true = search rules in
    stands f _ m n until c.args.limit calm moves few less c.until-until.ensures.few upto runs ended
    (ap (λ (x : Feed Coding). record x { machine = n }) c.self.view_is)

pub returns-in-Done-clause-ok : goal.returns-in-Done-clause-ok
returns-in-Done-clause-ok c =
    let f = c.args.self.now in
    let m = c.run.new.self in
    let until = c.until-until.result in
    let same : c.self.inside.machine ≡ f.machine = ap (λ (x : Feed Coding). x.machine) c.self.view_is in
    let calm : IsCalm f = c.requires.calm in
    let upto : AreUpto until f.calls = c.until-until.ensures.upto in
    let ready : f.machine.steps ≤ until =
    until_after f.machine.steps until c.args.limit c.requires.few c.until-until.ensures.few
    (λ less. c.until-until.ensures.due less calm.0) in
    let moves : HasMoved f.machine m = subst (λ x. HasMoved x m) same c.run.ensures.steps in
    let some : m.steps ≤ until = search rules in
    let few : m.steps < 2 ^ 64 = omega (arith, some, c.until-until.ensures.few, c.ranges.limit.fits) in
    let n = c.step.new.self in
    let apart : m.steps ≡ until → ⊥ = search rules in
    let less : m.steps < until = omega (arith, some, apart) in
    let made : Steps Done m n = search rules in
    let stays : goes_on flat_calls m ≡ false = rests_so m f.machine.steps until ready (search rules) less in
    absurd (not_made m n stays made)

-- ---- where memory is refused

pub returns-in_err-run-clause-held : goal.returns-in_err-run-clause-held
returns-in_err-run-clause-held c =
    let f = c.args.self.now in
    let m = c.run.new.self in
    let until = c.until-until.result in
    let same : c.self.inside.machine ≡ f.machine = ap (λ (x : Feed Coding). x.machine) c.self.view_is in
    let calm : IsCalm f = c.requires.calm in
    let upto : AreUpto until f.calls = c.until-until.ensures.upto in
    let ready : f.machine.steps ≤ until =
    until_after f.machine.steps until c.args.limit c.requires.few c.until-until.ensures.few
    (λ less. c.until-until.ensures.due less calm.0) in
    let moves : HasMoved f.machine m = subst (λ x. HasMoved x m) same c.run.ensures.steps in
    let some : m.steps ≤ until = search rules in
    let few : m.steps < 2 ^ 64 = omega (arith, some, c.until-until.ensures.few, c.ranges.limit.fits) in
    let less : m.steps < until = search rules in
    let runs : is_running m ≡ true = search rules in
    let grows : MayGrow m = search rules in
    on_err c.from_residual.result
    (held_before f _ m until c.args.limit calm moves few less c.until-until.ensures.few upto runs
    (ap (λ (x : Feed Coding). record x { machine = m }) c.self.view_is) grows)

pub returns-in_err-serve-clause-held : goal.returns-in_err-serve-clause-held
returns-in_err-serve-clause-held c =
    let f = c.args.self.now in
    let m = c.run.new.self in
    let until = c.until-until.result in
    let same : c.self.inside.machine ≡ f.machine = ap (λ (x : Feed Coding). x.machine) c.self.view_is in
    let calm : IsCalm f = c.requires.calm in
    let upto : AreUpto until f.calls = c.until-until.ensures.upto in
    let ready : f.machine.steps ≤ until =
    until_after f.machine.steps until c.args.limit c.requires.few c.until-until.ensures.few
    (λ less. c.until-until.ensures.due less calm.0) in
    let moves : HasMoved f.machine m = subst (λ x. HasMoved x m) same c.run.ensures.steps in
    let some : m.steps ≤ until = search rules in
    let few : m.steps < 2 ^ 64 = omega (arith, some, c.until-until.ensures.few, c.ranges.limit.fits) in
    let g : Feed Coding = record f { machine = m } in
    let left : IsUnserved (settled g) c.serve.new.self = search rules in
    on_err c.from_residual-in_err-serve.result
    (held_behind f g c.serve.new.self m until c.args.limit calm moves few some c.until-until.ensures.few upto refl left)

pub returns-in_err-behind-clause-held : goal.returns-in_err-behind-clause-held
returns-in_err-behind-clause-held c =
    let f = c.args.self.now in
    let m = c.run.new.self in
    let until = c.until-until.result in
    let same : c.self.inside.machine ≡ f.machine = ap (λ (x : Feed Coding). x.machine) c.self.view_is in
    let calm : IsCalm f = c.requires.calm in
    let upto : AreUpto until f.calls = c.until-until.ensures.upto in
    let ready : f.machine.steps ≤ until =
    until_after f.machine.steps until c.args.limit c.requires.few c.until-until.ensures.few
    (λ less. c.until-until.ensures.due less calm.0) in
    let moves : HasMoved f.machine m = subst (λ x. HasMoved x m) same c.run.ensures.steps in
    let some : m.steps ≤ until = search rules in
    let few : m.steps < 2 ^ 64 = omega (arith, some, c.until-until.ensures.few, c.ranges.limit.fits) in
    let g : Feed Coding = record f { machine = m } in
    let left : IsUnserved (settled g) c.go_on.new.self = search rules in
    on_err c.from_residual-in_err-behind.result
    (held_behind f g c.go_on.new.self m until c.args.limit calm moves few some c.until-until.ensures.few upto refl left)

pub returns-in_err-query-clause-held : goal.returns-in_err-query-clause-held
returns-in_err-query-clause-held c =
    let f = c.args.self.now in
    let m = c.run.new.self in
    let until = c.until-until.result in
    let same : c.self.inside.machine ≡ f.machine = ap (λ (x : Feed Coding). x.machine) c.self.view_is in
    let calm : IsCalm f = c.requires.calm in
    let upto : AreUpto until f.calls = c.until-until.ensures.upto in
    let ready : f.machine.steps ≤ until =
    until_after f.machine.steps until c.args.limit c.requires.few c.until-until.ensures.few
    (λ less. c.until-until.ensures.due less calm.0) in
    let moves : HasMoved f.machine m = subst (λ x. HasMoved x m) same c.run.ensures.steps in
    let some : m.steps ≤ until = search rules in
    let few : m.steps < 2 ^ 64 = omega (arith, some, c.until-until.ensures.few, c.ranges.limit.fits) in
    let apart : m.steps ≡ until → ⊥ = search rules in
    let less : m.steps < until = omega (arith, some, apart) in
    let runs : is_running m ≡ true = search rules in
    let grows : MayGrow m = search rules in
    let stays : c.step.new.self ≡ m = search rules in
    on_err c.from_residual-in_err-query.result
    (held_before f _ m until c.args.limit calm moves few less c.until-until.ensures.few upto runs
    (ap (λ (x : Feed Coding). record x { machine = c.step.new.self }) c.self.view_is
    ∙ ap (λ n. record f { machine = n }) stays) grows)
