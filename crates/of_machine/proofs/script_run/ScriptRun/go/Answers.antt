use Rattle.std.proofs.Common.{rules, ap, ◌∙◌}
use Rattle.of_compile.specs.Coding.{Coding}
use Rattle.of_machine.specs.Runs.{Feed}
use Rattle.of_machine.specs.Stretches.{stands}
use Rattle.of_machine.specs.Refused.{IsHeld}
use Rattle.of_machine.proofs.RefusedLemmas.{held_on, on_err}
use Rattle.of_machine.proofs.RunLemmas.{gone_on, none_gone, over_behind}
use Rattle.of_machine.proofs.StretchLemmas.{all_made, still_calm}
use Rattle.of_machine.proofs.script_run.ScriptRun.go.Goals as goal

pub loop-init : goal.loop-init
loop-init c = record { gone = none_gone c.args.self.now c.requires.calm; few = c.requires.few }

pub loop-preserved : goal.loop-preserved
loop-preserved c = record {
  gone = gone_on c.args.self.now c.loop.self c.round.new.self c.loop.invariant.gone
      (c.in_ok-round.ensures.gone c.if-branch.true);
  few = c.in_ok-round.ensures.few c.if-branch.true;
}

pub returns-clause-gone : goal.returns-clause-gone
returns-clause-gone c = (
  over_behind c.args.limit c.args.self.now c.loop.self c.round.new.self c.loop.invariant.gone
      (c.in_ok-round.ensures.over c.if-branch.false),
  c.end_of.ensures ∙ ap (λ (x : Feed Coding). stands x) c.self.view_is,
)

pub returns-clause-calm : goal.returns-clause-calm
returns-clause-calm c cut =
    let over = over_behind c.args.limit c.args.self.now c.loop.self c.round.new.self c.loop.invariant.gone
    (c.in_ok-round.ensures.over c.if-branch.false) in
    still_calm c.args.limit c.args.self.now c.round.new.self _ over
    (c.end_of.ensures ∙ ap (λ (x : Feed Coding). stands x) c.self.view_is) cut

pub returns-clause-made : goal.returns-clause-made
returns-clause-made c cut =
    let over = over_behind c.args.limit c.args.self.now c.loop.self c.round.new.self c.loop.invariant.gone
    (c.in_ok-round.ensures.over c.if-branch.false) in
    all_made c.args.limit c.args.self.now c.round.new.self _ c.ranges.limit.fits over
    (c.end_of.ensures ∙ ap (λ (x : Feed Coding). stands x) c.self.view_is) cut

pub returns-in_err-round-clause-held : goal.returns-in_err-round-clause-held
returns-in_err-round-clause-held c =
    let held : IsHeld c.args.limit c.loop.self c.round.new.self = search rules in
    on_err c.from_residual.result
    (held_on c.args.limit c.args.self.now c.loop.self c.round.new.self c.loop.invariant.gone held)
