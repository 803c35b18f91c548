use Rattle.std.proofs.Common.{◌≡◌, true, false, is_none, ◌∷◌, drop, Ok, Err, rules, ap}
use Rattle.of_control.specs.Element.{Plain}
use Rattle.of_compile.specs.Coding.{compiling}
use Rattle.of_compile.specs.Tokens.{called}
use Rattle.of_compile.specs.Words.{is_word}
use Rattle.of_compile.proofs.Endings.{compile_ends, compile_throws}
use Rattle.of_compile.proofs.definitions.compile_call.Goals as goal

-- src/definitions.rt:66:9
pub returns-in-Ok-clause-outcome : goal.returns-in-Ok-clause-outcome
returns-in-Ok-clause-outcome g c =
    let w = c.args.words.now in
    let stacked : c.args.stack.now ≡ c.in_ok-xt.xt ∷ c.drop_top.new.self = search rules in
    let opened : is_none w.defining ≡ false = search rules in
    let known : is_word w.dictionary c.in_ok-xt.xt.0 ≡ true = search rules in
    let ended : compiling (Plain (called c.in_ok-xt.xt)) c.args.coding.now.coding
    ≡ record { coding = c.compile.new.self.coding; ended = Ok tt } = search rules in
    compile_ends w c.args.coding.now.coding c.compile.new.self.coding c.in_ok-xt.xt c.args.stack.now
    c.drop_top.new.self stacked opened known ended

-- src/definitions.rt:70:26
pub returns-in-Err-clause-outcome : goal.returns-in-Err-clause-outcome
returns-in-Err-clause-outcome g c =
    let w = c.args.words.now in
    let stacked : c.args.stack.now ≡ c.in_ok-xt.xt ∷ drop 1 c.args.stack.now = search rules in
    let opened : is_none w.defining ≡ false = search rules in
    let known : is_word w.dictionary c.in_ok-xt.xt.0 ≡ true = search rules in
    let ended : compiling (Plain (called c.in_ok-xt.xt)) c.args.coding.now.coding
    ≡ record { coding = c.compile.new.self.coding; ended = Err c.in-Err.fault } = search rules in
    let thrown = compile_throws w c.args.coding.now.coding c.compile.new.self.coding c.in_ok-xt.xt c.args.stack.now
    (drop 1 c.args.stack.now) c.in-Err.fault stacked opened known ended in
    (thrown.0, ap (λ d. (d, c.args.stack.now)) thrown.1)
