use Rattle.std.proofs.Common.{rules, ◌≡◌, map}
use Rattle.of_compile.specs.Coding.{Coding}
use Rattle.of_machine.specs.Runs.{Feed, settled}
use Rattle.of_machine.specs.States.{Steps}
use Rattle.of_machine.specs.declared.answers.Progress.TheVariants.{Asks, Done, Ended}
use Rattle.of_machine.specs.Refused.{HasDue}
use Rattle.of_debug.specs.Turns.{due_from}
use Rattle.of_debug.proofs.TellLemmas.{broken_if, is_broken, is_done, is_ended, on_err, turned_if}
use Rattle.of_debug.proofs.feeder.Feeder.turn.Goals as goal

pub returns-in-Ended-clause-turned : goal.returns-in-Ended-clause-turned
returns-in-Ended-clause-turned g c =
    let f = c.args.self.now.feed in
    let m = c.step.new.self in
    let h : Feed Coding = record {
      machine = m;
      lines = map (λ l. l.items) c.self.inside.lines.now;
      answers = c.self.inside.answers.now;
      calls = map (due_from c.self.inside.began) c.self.inside.calls.now;
    } in
    let same : h ≡ record f { machine = m } = search rules in
    let ended : Steps Ended f.machine m = search rules in
    is_ended f h m ended same

pub returns-in_ok-settle-in-Done-clause-turned : goal.returns-in_ok-settle-in-Done-clause-turned
returns-in_ok-settle-in-Done-clause-turned g c =
    let f = c.args.self.now.feed in
    let m = c.step.new.self in
    let h : Feed Coding = record {
      machine = m;
      lines = map (λ l. l.items) c.self.inside.lines.now;
      answers = c.self.inside.answers.now;
      calls = map (due_from c.self.inside.began) c.self.inside.calls.now;
    } in
    let same : h ≡ record f { machine = m } = search rules in
    let done : Steps Done f.machine m = search rules in
    let all : c.settle.new.self.feed ≡ settled h = search rules in
    is_done f h c.settle.new.self.feed m done same all

pub returns-in_err-settle-in-Done-clause-broken : goal.returns-in_err-settle-in-Done-clause-broken
returns-in_err-settle-in-Done-clause-broken g c =
    let f = c.args.self.now.feed in
    let m = c.step.new.self in
    let h : Feed Coding = record {
      machine = m;
      lines = map (λ l. l.items) c.self.inside.lines.now;
      answers = c.self.inside.answers.now;
      calls = map (due_from c.self.inside.began) c.self.inside.calls.now;
    } in
    let same : h ≡ record f { machine = m } = search rules in
    let new = c.settle.new.self.feed in
    let done : Steps Done f.machine m = search rules in
    let later : settled new ≡ settled h = search rules in
    let steps : new.machine.steps ≡ h.machine.steps = search rules in
    let due : HasDue new = search rules in
    on_err c.from_residual-in_err-settle-in-Done.result (is_broken f h new m done same later steps due)

pub returns-in-Asks-clause-turned : goal.returns-in-Asks-clause-turned
returns-in-Asks-clause-turned g c =
    let f = c.args.self.now.feed in
    let m = c.step.new.self in
    let h : Feed Coding = record {
      machine = m;
      lines = map (λ l. l.items) c.self.inside.lines.now;
      answers = c.self.inside.answers.now;
      calls = map (due_from c.self.inside.began) c.self.inside.calls.now;
    } in
    let same : h ≡ record f { machine = m } = search rules in
    let steps : Steps (Asks c.in-Asks.query) f.machine m = search rules in
    turned_if c.tell.result f h c.tell.new.self.feed m c.in-Asks.query steps same c.tell.ensures.told

pub returns-in-Asks-clause-broken : goal.returns-in-Asks-clause-broken
returns-in-Asks-clause-broken g c =
    let f = c.args.self.now.feed in
    let m = c.step.new.self in
    let h : Feed Coding = record {
      machine = m;
      lines = map (λ l. l.items) c.self.inside.lines.now;
      answers = c.self.inside.answers.now;
      calls = map (due_from c.self.inside.began) c.self.inside.calls.now;
    } in
    let same : h ≡ record f { machine = m } = search rules in
    let steps : Steps (Asks c.in-Asks.query) f.machine m = search rules in
    broken_if c.tell.result f h c.tell.new.self.feed m c.in-Asks.query steps same c.tell.ensures.err
