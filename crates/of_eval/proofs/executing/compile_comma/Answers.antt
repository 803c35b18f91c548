use Rattle.std.proofs.Common.{rules, ◌≡◌, ◌∷◌, ◌∙◌, ap, drop, true, false, [], is_none}
use Rattle.of_control.specs.Element.{Plain}
use Rattle.of_compile.specs.Tokens.{called}
use Rattle.of_compile.specs.Words.{is_word}
use Rattle.of_eval.specs.Acts.{Appends}
use Rattle.of_eval.specs.Doing.{work_grows, worked}
use Rattle.of_eval.specs.Executing.{comma_act}
use Rattle.of_state.specs.State.{done, failed, flat_calls}
use Rattle.of_eval.proofs.Endings.{comma_closed, comma_empty, comma_known, comma_unknown, not_taken, then_taken}
use Rattle.of_eval.proofs.executing.compile_comma.Goals as goal

pub returns-then-is_none : goal.returns-then-is_none
unfolding worked
returns-then-is_none g c =
    let s = c.args.eval.now in
    let closed : is_none s.words.defining ≡ true = search rules in
    ap (λ a. worked flat_calls a s) (comma_closed s.words s.board.stack closed)

pub returns-in_default : goal.returns-in_default
unfolding worked
returns-in_default g c =
    let s = c.args.eval.now in
    let opened : is_none s.words.defining ≡ false = search rules in
    let empty : s.board.stack ≡ [] = search rules in
    ap (λ a. worked flat_calls a s) (comma_empty s.words s.board.stack opened empty)

pub returns-then-not-is_word : goal.returns-then-not-is_word
unfolding worked
returns-then-not-is_word g c =
    let s = c.args.eval.now in
    let xt = c.in-Ok.xt in
    let opened : is_none s.words.defining ≡ false = search rules in
    let cells : s.board.stack ≡ xt ∷ drop 1 s.board.stack = search rules in
    let unknown : is_word s.words.dictionary xt.0 ≡ false = search rules in
    ap (λ a. worked flat_calls a s)
    (ap (comma_act s.words) cells ∙ comma_unknown s.words xt (drop 1 s.board.stack) opened unknown)

pub returns-in-Ok-compile : goal.returns-in-Ok-compile
returns-in-Ok-compile g c =
    let s = c.args.eval.now in
    let xt = c.in-Ok.xt in
    let rest = drop 1 s.board.stack in
    let n = c.compile.new.eval in
    let opened : is_none s.words.defining ≡ false = search rules in
    let cells : s.board.stack ≡ xt ∷ rest = search rules in
    let known : is_word s.words.dictionary xt.0 ≡ true = search rules in
    let appended : worked flat_calls (Appends (Plain (called xt)) s.board.stack) s ≡ done n = search rules in
    ap (λ a. worked flat_calls a s) (ap (comma_act s.words) cells ∙ comma_known s.words xt rest opened known)
    ∙ then_taken (Plain (called xt)) rest s n appended
    ∙ search rules

pub returns-in-Err-Thrown : goal.returns-in-Err-Thrown
returns-in-Err-Thrown g c =
    let s = c.args.eval.now in
    let xt = c.in-Ok.xt in
    let rest = drop 1 s.board.stack in
    let n = c.compile.new.eval in
    let t = c.in-Err-Thrown.fault in
    let opened : is_none s.words.defining ≡ false = search rules in
    let cells : s.board.stack ≡ xt ∷ rest = search rules in
    let known : is_word s.words.dictionary xt.0 ≡ true = search rules in
    let thrown : worked flat_calls (Appends (Plain (called xt)) s.board.stack) s ≡ failed t n = search rules in
    ap (λ a. worked flat_calls a s) (ap (comma_act s.words) cells ∙ comma_known s.words xt rest opened known)
    ∙ not_taken (Plain (called xt)) rest t s n thrown

pub returns-in-Err-NoMemory : goal.returns-in-Err-NoMemory
returns-in-Err-NoMemory g c =
    let s = c.args.eval.now in
    let xt = c.in-Ok.xt in
    let rest = drop 1 s.board.stack in
    let opened : is_none s.words.defining ≡ false = search rules in
    let cells : s.board.stack ≡ xt ∷ rest = search rules in
    let known : is_word s.words.dictionary xt.0 ≡ true = search rules in
    let grows : work_grows (Appends (Plain (called xt)) rest) ≡ true = search rules in
    (ap work_grows (ap (comma_act s.words) cells ∙ comma_known s.words xt rest opened known) ∙ grows, search rules)
