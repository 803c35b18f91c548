use Rattle.std.proofs.Common.{rules, ◌≡◌, ◌<◌, ◌≤◌, true, false}
use Rattle.of_asking.specs.declared.query.Query.{Query}
use Rattle.of_compile.specs.Coding.{Coding}
use Rattle.of_machine.specs.declared.script_run.Advance.TheVariants.{Asks}
use Rattle.of_machine.specs.Runs.{Advances, Feed, HasGone, IsOut, IsOver, IsTold}
use Rattle.of_machine.specs.Refused.{IsHeldAlone, IsUntold}
use Rattle.of_machine.proofs.RefusedLemmas.{held_alone, held_asking, on_err, so_err}
use Rattle.of_machine.proofs.RunLemmas.{if_so, out_on, told_on}
use Rattle.of_machine.proofs.script_run.ScriptRun.round.Goals as goal

-- ---- a question, with its answer or without one

pub returns-in-Asks-clause-gone : goal.returns-in-Asks-clause-gone
returns-in-Asks-clause-gone c =
    let f : Feed Coding = c.args.self.now in
    let g : Feed Coding = c.advance.new.self in
    let new : Feed Coding = c.tell.new.self in
    let q : Query = c.in-Asks.field-0 in
    let asks : Advances c.args.limit (Asks q) f g = search rules in
    if_so c.tell.result
    (λ fits. fits ≡ true → IsTold g new)
    (λ more. more ≡ true → HasGone f new)
    (λ b h e. (told_on f g new q c.args.limit asks (h e)).0)
    c.tell.ensures.told

pub returns-in-Asks-clause-more : goal.returns-in-Asks-clause-more
returns-in-Asks-clause-more c =
    let f : Feed Coding = c.args.self.now in
    let g : Feed Coding = c.advance.new.self in
    let new : Feed Coding = c.tell.new.self in
    let q : Query = c.in-Asks.field-0 in
    let asks : Advances c.args.limit (Asks q) f g = search rules in
    if_so c.tell.result
    (λ fits. fits ≡ true → IsTold g new)
    (λ more. more ≡ true → f.machine.steps < new.machine.steps)
    (λ b h e. (told_on f g new q c.args.limit asks (h e)).1)
    c.tell.ensures.told

pub returns-in-Asks-clause-few : goal.returns-in-Asks-clause-few
returns-in-Asks-clause-few c =
    let f : Feed Coding = c.args.self.now in
    let g : Feed Coding = c.advance.new.self in
    let new : Feed Coding = c.tell.new.self in
    let q : Query = c.in-Asks.field-0 in
    let asks : Advances c.args.limit (Asks q) f g = search rules in
    if_so c.tell.result
    (λ fits. fits ≡ true → IsTold g new)
    (λ more. more ≡ true → new.machine.steps ≤ c.args.limit)
    (λ b h e. (told_on f g new q c.args.limit asks (h e)).2)
    c.tell.ensures.told

pub returns-in-Asks-clause-over : goal.returns-in-Asks-clause-over
returns-in-Asks-clause-over c =
    let f : Feed Coding = c.args.self.now in
    let g : Feed Coding = c.advance.new.self in
    let new : Feed Coding = c.tell.new.self in
    let q : Query = c.in-Asks.field-0 in
    let asks : Advances c.args.limit (Asks q) f g = search rules in
    if_so c.tell.result
    (λ fits. fits ≡ false → IsOut g new)
    (λ more. more ≡ false → IsOver c.args.limit f new)
    (λ b h e. out_on f g new q c.args.limit asks (h e))
    c.tell.ensures.out

-- ---- where memory is refused

pub returns-in_err-advance-clause-held : goal.returns-in_err-advance-clause-held
returns-in_err-advance-clause-held c =
    let held : IsHeldAlone c.args.limit c.args.self.now c.advance.new.self = search rules in
    on_err c.from_residual.result (held_alone c.args.limit c.args.self.now c.advance.new.self held)

pub returns-in-Asks-clause-held : goal.returns-in-Asks-clause-held
returns-in-Asks-clause-held c =
    let f : Feed Coding = c.args.self.now in
    let g : Feed Coding = c.advance.new.self in
    let new : Feed Coding = c.tell.new.self in
    let q : Query = c.in-Asks.field-0 in
    let asks : Advances c.args.limit (Asks q) f g = search rules in
    so_err c.tell.result (λ (u : IsUntold g new). held_asking f g new q c.args.limit asks u) c.tell.ensures.untold
