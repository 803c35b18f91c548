use Rattle.std.proofs.Common.{◌≡◌, Some, Err, rules, ap}
use Rattle.of_dict.specs.Words.{xt_of}
use Rattle.of_compile.specs.Coding.{finishing}
use Rattle.of_compile.proofs.Endings.{closing_throws}
use Rattle.of_compile.proofs.definitions.end_definition.Goals as goal

-- src/definitions.rt:33:26
pub returns-in-Err-clause-outcome : goal.returns-in-Err-clause-outcome
returns-in-Err-clause-outcome g c =
    let open_now : c.args.words.now.defining ≡ Some c.in-Some.word.0 = search rules in
    let ended : finishing (record { 0 = xt_of c.in-Some.word.0 }) c.args.coding.now.coding
    ≡ record { coding = c.semicolon.new.self.coding; ended = Err c.in-Err.fault } = search rules in
    let thrown = closing_throws c.args.words.now c.in-Some.word.0 c.args.coding.now.coding c.semicolon.new.self.coding
    c.in-Err.fault open_now ended in
    (thrown.0, ap (λ d. (c.args.words.now, d)) thrown.1)
