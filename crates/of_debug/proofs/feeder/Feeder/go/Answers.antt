use Rattle.std.proofs.Common.{rules, ◌≡◌, ◌∙◌, ◌≤◌, ◌<◌, ◌+◌, ◌-◌, true, None, map, refl, ap, arith}
use Rattle.std.specs.Prelude.{◌^◌}
use Rattle.of_compile.specs.Coding.{Coding}
use Rattle.of_machine.specs.Refused.{HasDue}
use Rattle.of_machine.specs.Runs.{AreUpto, Feed, settled}
use Rattle.of_machine.specs.States.{HasMoved, MayGrow, can_step}
use Rattle.of_steps.specs.Goals.{IsUnreached}
use Rattle.of_debug.specs.Turns.{due_from}
use Rattle.of_debug.proofs.GoingLemmas.{gone, held_so, moved_so, none_waits, once_refused, once_stayed, once_went}
use Rattle.of_debug.proofs.GoingLemmas.{unmoved, unserved}
use Rattle.of_debug.proofs.TellLemmas.{on_err}
use Rattle.of_debug.proofs.TurnLemmas.{later_so}
use Rattle.of_debug.proofs.feeder.Feeder.go.Goals as goal

pub returns-then-is_some-clause-went : goal.returns-then-is_some-clause-went
returns-then-is_some-clause-went g c =
    let f = c.args.self.now.feed in
    once_went c.turn_once.result c.args.marks.now c.args.goal c.args.most f f c.turn_once.new.self.feed refl
    c.requires.some c.turn_once.ensures.went

pub returns-then-is_some-clause-refused : goal.returns-then-is_some-clause-refused
returns-then-is_some-clause-refused g c =
    let f = c.args.self.now.feed in
    once_refused c.turn_once.result c.args.marks.now c.args.goal c.args.most f f c.turn_once.new.self.feed refl
    c.requires.some c.requires.settled c.turn_once.ensures.broken

pub quiet-quiet-requires : goal.quiet-quiet-requires
quiet-quiet-requires g c = record { later = later_so c.args.self.now.feed c.requires.settled }

pub returns-in_err-run_to-clause-refused : goal.returns-in_err-run_to-clause-refused
returns-in_err-run_to-clause-refused g c =
    let f = c.args.self.now.feed in
    let m = c.run_to.new.self in
    let h : Feed Coding = record {
      machine = m;
      lines = map (λ l. l.items) c.self.inside.lines.now;
      answers = c.self.inside.answers.now;
      calls = map (due_from c.self.inside.began) c.self.inside.calls.now;
    } in
    let q = c.quiet-quiet.result in
    let same : h ≡ record f { machine = m } = search rules in
    let asked : f.machine.waiting ≡ c.question.result = search rules in
    let none : f.machine.waiting ≡ None = none_waits c.question.result f.machine.waiting asked c.if-is_some.ensures in
    let upto : AreUpto (f.machine.steps + q) f.calls = c.quiet-quiet.ensures.upto in
    let moved : HasMoved f.machine m = search rules in
    let fewer : m.steps < f.machine.steps + q = search rules in
    let unreached : IsUnreached c.args.marks.now c.args.goal (m.steps - f.machine.steps) f.machine.eval =
    search rules in
    let can : can_step m ≡ true = search rules in
    let grows : MayGrow m = search rules in
    on_err c.from_residual.result
    (held_so c.args.marks.now c.args.goal f h q c.args.most m c.requires.settled none upto moved fewer unreached
    c.quiet-quiet.ensures.few same can grows)

pub returns-then-made-eq0-clause-went : goal.returns-then-made-eq0-clause-went
returns-then-made-eq0-clause-went g c =
    let f = c.args.self.now.feed in
    let m = c.run_to.new.self in
    let h : Feed Coding = record {
      machine = m;
      lines = map (λ l. l.items) c.self.inside.lines.now;
      answers = c.self.inside.answers.now;
      calls = map (due_from c.self.inside.began) c.self.inside.calls.now;
    } in
    let same : h ≡ record f { machine = m } = search rules in
    let moved : HasMoved f.machine m = search rules in
    let none : m.steps ≡ f.machine.steps = grind arith in
    once_went c.turn_once-then-made-eq0.result c.args.marks.now c.args.goal c.args.most f h
    c.turn_once-then-made-eq0.new.self.feed (unmoved f h m moved none same) c.requires.some
    c.turn_once-then-made-eq0.ensures.went

pub returns-then-made-eq0-clause-stayed : goal.returns-then-made-eq0-clause-stayed
returns-then-made-eq0-clause-stayed g c =
    let f = c.args.self.now.feed in
    let m = c.run_to.new.self in
    let h : Feed Coding = record {
      machine = m;
      lines = map (λ l. l.items) c.self.inside.lines.now;
      answers = c.self.inside.answers.now;
      calls = map (due_from c.self.inside.began) c.self.inside.calls.now;
    } in
    let same : h ≡ record f { machine = m } = search rules in
    let moved : HasMoved f.machine m = search rules in
    let none : m.steps ≡ f.machine.steps = grind arith in
    once_stayed c.turn_once-then-made-eq0.result f h c.turn_once-then-made-eq0.new.self.feed
    (unmoved f h m moved none same) c.turn_once-then-made-eq0.ensures.stayed

pub returns-then-made-eq0-clause-refused : goal.returns-then-made-eq0-clause-refused
returns-then-made-eq0-clause-refused g c =
    let f = c.args.self.now.feed in
    let m = c.run_to.new.self in
    let h : Feed Coding = record {
      machine = m;
      lines = map (λ l. l.items) c.self.inside.lines.now;
      answers = c.self.inside.answers.now;
      calls = map (due_from c.self.inside.began) c.self.inside.calls.now;
    } in
    let same : h ≡ record f { machine = m } = search rules in
    let moved : HasMoved f.machine m = search rules in
    let none : m.steps ≡ f.machine.steps = grind arith in
    once_refused c.turn_once-then-made-eq0.result c.args.marks.now c.args.goal c.args.most f h
    c.turn_once-then-made-eq0.new.self.feed (unmoved f h m moved none same) c.requires.some c.requires.settled
    c.turn_once-then-made-eq0.ensures.broken

pub returns-in_err-settle-clause-refused : goal.returns-in_err-settle-clause-refused
returns-in_err-settle-clause-refused g c =
    let f = c.args.self.now.feed in
    let m = c.run_to.new.self in
    let h : Feed Coding = record {
      machine = m;
      lines = map (λ l. l.items) c.self.inside.lines.now;
      answers = c.self.inside.answers.now;
      calls = map (due_from c.self.inside.began) c.self.inside.calls.now;
    } in
    let new = c.settle.new.self.feed in
    let q = c.quiet-quiet.result in
    let same : h ≡ record f { machine = m } = search rules in
    let asked : f.machine.waiting ≡ c.question.result = search rules in
    let none : f.machine.waiting ≡ None = none_waits c.question.result f.machine.waiting asked c.if-is_some.ensures in
    let upto : AreUpto (f.machine.steps + q) f.calls = c.quiet-quiet.ensures.upto in
    let moved : HasMoved f.machine m = search rules in
    let few : m.steps ≤ f.machine.steps + q = search rules in
    let number : c.steps.result ≡ m.steps = search rules in
    let countable : m.steps < 2 ^ 64 = rw (← number) c.steps.type_inv in
    let before : IsUnreached c.args.marks.now c.args.goal (m.steps - f.machine.steps - 1) f.machine.eval =
    search rules in
    let later : settled new ≡ settled h = search rules in
    let steps : new.machine.steps ≡ h.machine.steps = search rules in
    let due : HasDue new = search rules in
    on_err c.from_residual-in_err-settle.result
    (unserved c.args.marks.now c.args.goal f h new q (m.steps - f.machine.steps) c.args.most m
    (moved_so f q (m.steps - f.machine.steps) m c.requires.settled none upto moved few countable refl) before
    c.quiet-quiet.ensures.few same later steps due)

pub returns-clause-went : goal.returns-clause-went
returns-clause-went g c =
    let f = c.args.self.now.feed in
    let m = c.run_to.new.self in
    let h : Feed Coding = record {
      machine = m;
      lines = map (λ l. l.items) c.self.inside.lines.now;
      answers = c.self.inside.answers.now;
      calls = map (due_from c.self.inside.began) c.self.inside.calls.now;
    } in
    let new = c.settle.new.self.feed in
    let q = c.quiet-quiet.result in
    let same : h ≡ record f { machine = m } = search rules in
    let asked : f.machine.waiting ≡ c.question.result = search rules in
    let none : f.machine.waiting ≡ None = none_waits c.question.result f.machine.waiting asked c.if-is_some.ensures in
    let upto : AreUpto (f.machine.steps + q) f.calls = c.quiet-quiet.ensures.upto in
    let moved : HasMoved f.machine m = search rules in
    let few : m.steps ≤ f.machine.steps + q = search rules in
    let number : c.steps.result ≡ m.steps = search rules in
    let first : c.steps-before.result ≡ f.machine.steps = search rules in
    let countable : m.steps < 2 ^ 64 = rw (← number) c.steps.type_inv in
    let before : IsUnreached c.args.marks.now c.args.goal (m.steps - f.machine.steps - 1) f.machine.eval =
    search rules in
    let all : new ≡ settled h = search rules in
    let whole : new ≡ settled (record f { machine = m }) = all ∙ ap settled same in
    λ some.
    rw (number, first)
    (gone c.args.marks.now c.args.goal f new q (m.steps - f.machine.steps) c.args.most m
    (moved_so f q (m.steps - f.machine.steps) m c.requires.settled none upto moved few countable refl) before
    c.quiet-quiet.ensures.few whole)
