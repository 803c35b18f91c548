use Rattle.std.proofs.Common.{rules, ◌≡◌, ◌∷◌, Ok, Err, ap, length, map, subst, sym}
use Rattle.std.specs.String.{string_bytes}
use Rattle.of_calls.specs.Scripts.{command_of}
use Rattle.of_script.specs.Scripts.{Carries, Plays}
use Rattle.of_calls.specs.declared.script_fault.ScriptFault.TheVariants as fault
use Rattle.of_script.proofs.PlayLemmas.{leads_end, leads_out, none_of, text_refused}
use Rattle.of_script.proofs.playing.play.Goals as goal

pub returns : goal.returns
returns g c =
    let now = c.loop-command in
    let none : length now.rest.now ≡ 0 = search rules in
    leads_end _ _ now.line _ now.debugger now.text.items now.invariant.leads (none_of command_of now.rest.now none)

pub returns-in-Err : goal.returns-in-Err
returns-in-Err g c =
    let now = c.loop-command in
    let command = c.in-Some.command.now in
    let split : now.rest.now ≡ command ∷ c.in-Some.more.now = search rules in
    let carries : Carries now.line (command_of command) now.debugger c.carry_out.new.debugger (Err c.in-Err.fault) =
    search rules in
    leads_out _ _ now.line (command_of command) _ _ now.debugger c.carry_out.new.debugger now.text.items c.in-Err.fault
    now.invariant.leads (ap (map command_of) split) carries

pub returns-then-is_err : goal.returns-then-is_err
returns-then-is_err g c =
    let now = c.loop-command in
    let command = c.in-Some.command.now in
    let new = c.carry_out.new.debugger in
    let split : now.rest.now ≡ command ∷ c.in-Some.more.now = search rules in
    let carries : Carries now.line (command_of command) now.debugger new (Ok (string_bytes c.in-Ok.said)) =
    search rules in
    let same : c.extend_from_slice.new.self.items ≡ now.text.items = search rules in
    let some : length (string_bytes c.in-Ok.said) ≡ 0 → ⊥ = λ none. search rules in
    subst (λ t. Plays 1 (map command_of c.args.script.now) c.args.debugger.now new t _) (sym same)
    (leads_out _ _ now.line (command_of command) _ _ now.debugger new now.text.items fault.NoMemory
    now.invariant.leads (ap (map command_of) split)
    (text_refused now.line (command_of command) now.debugger new (string_bytes c.in-Ok.said) some carries))
