use Rattle.std.proofs.Common.{rules, ◌≡◌, ◌∙◌, ◌<◌, ◌+◌, ◌-◌, true, false, sym, arith}
use Rattle.of_debug.specs.Stepping.{HasStayed, HaveGone, IsRefused, is_there, until}
use Rattle.of_debug.proofs.GoingLemmas.{gone_settled, gone_steps, gone_there, leads_on, refused_behind}
use Rattle.of_debug.proofs.StepLemmas.{all_made, none_made}
use Rattle.of_debug.proofs.debugger.advance.Goals as goal

pub returns-in-Ok-eq0-clause-advances : goal.returns-in-Ok-eq0-clause-advances
returns-in-Ok-eq0-clause-advances g c =
    let so_far = c.loop-made.invariant in
    let f = c.loop-made.feeder.feed in
    let new = c.go.new.self.feed in
    let stayed : HasStayed f new = search rules in
    none_made c.args.marks.now c.args.goal c.args.most c.loop-made.made c.args.feeder.now.feed f new c.stopped.result
    (so_far.leads c.args.most so_far.few) so_far.made stayed.0 stayed.1 c.loop-made-test.true c.stopped.ensures

pub returns-in-Err-clause-advances : goal.returns-in-Err-clause-advances
returns-in-Err-clause-advances g c =
    let so_far = c.loop-made.invariant in
    let f = c.loop-made.feeder.feed in
    let new = c.go.new.self.feed in
    let refused : IsRefused c.args.marks.now c.args.goal (c.args.most - c.loop-made.made) f new = search rules in
    refused_behind c.args.marks.now c.args.goal c.args.most c.loop-made.made c.args.feeder.now.feed f new so_far.leads
    so_far.made so_far.few refused

pub returns-then-is_reached-clause-advances : goal.returns-then-is_reached-clause-advances
returns-then-is_reached-clause-advances g c =
    let marks = c.args.marks.now in
    let so_far = c.loop-made.invariant in
    let f = c.loop-made.feeder.feed in
    let new = c.go.new.self.feed in
    let more = c.in-Ok.more in
    let n = c.args.most - c.loop-made.made in
    let some : 0 < more = grind arith in
    let went : HaveGone marks c.args.goal n more f new = search rules in
    let there : is_there marks c.args.goal new.machine ≡ true = search rules in
    let whole : until marks c.args.goal n f ≡ new =
    gone_there marks c.args.goal n more n f new went some there went.few in
    let steps : new.machine.steps ≡ f.machine.steps + more = gone_steps marks c.args.goal n more f new went in
    (sym (so_far.leads c.args.most so_far.few ∙ whole), omega (arith, steps, so_far.made, some))

pub loop-made-preserved : goal.loop-made-preserved
loop-made-preserved g c =
    let marks = c.args.marks.now in
    let so_far = c.loop-made.invariant in
    let f = c.loop-made.feeder.feed in
    let new = c.go.new.self.feed in
    let more = c.in-Ok.more in
    let n = c.args.most - c.loop-made.made in
    let some : 0 < more = grind arith in
    let went : HaveGone marks c.args.goal n more f new = search rules in
    let not : is_there marks c.args.goal new.machine ≡ false = search rules in
    let steps : new.machine.steps ≡ f.machine.steps + more = gone_steps marks c.args.goal n more f new went in
    let began : c.go.new.self.began ≡ c.args.feeder.now.began = search rules in
    record {
      few = omega (arith, went.few, so_far.few);
      leads = λ b less. leads_on marks c.args.goal n more c.loop-made.made b c.args.feeder.now.feed f new
          so_far.leads went not less;
      made = omega (arith, steps, so_far.made);
      settled = gone_settled marks c.args.goal n more f new went so_far.settled;
      began = began;
    }

pub returns-clause-advances : goal.returns-clause-advances
returns-clause-advances g c =
    let so_far = c.loop-made.invariant in
    all_made c.args.marks.now c.args.goal c.args.most c.loop-made.made c.args.feeder.now.feed c.loop-made.feeder.feed
    c.stopped-2.result (so_far.leads c.args.most so_far.few) so_far.made c.loop-made-test.false so_far.few
    c.stopped-2.ensures
