use Rattle.std.proofs.Common.{◌≡◌, ◌++◌, rules}
use Rattle.of_dict.specs.Words.{xt_of}
use Rattle.of_commands.proofs.Seen.{more_lines}
use Rattle.of_commands.proofs.definitions.all_definitions.Goals as goal

pub loop-number-preserved : goal.loop-number-preserved
loop-number-preserved c =
    let text = c.loop-number.text.items in
    let line = c.in_ok-definition.definition.items in
    let at : c.xt.result.0 ≡ xt_of c.loop-number.number = search rules in
    let all : c.extend_from_slice.new.self.items ≡ text ++ line = search rules in
    more_lines c.args.machine.now c.loop-number.number c.xt.result text c.extend_from_slice.new.self.items line at
    c.loop-number.invariant c.in_ok-definition.ensures.ok all
