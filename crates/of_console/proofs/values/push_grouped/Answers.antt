use Rattle.std.proofs.Common.{rules, ◌≡◌, ◌++◌, drop, ap, ◌∙◌}
use Rattle.of_console.specs.Values.{grouped}
use Rattle.of_console.proofs.Groups.{goes_on}
use Rattle.of_console.proofs.values.push_grouped.Goals as goal

pub loop-rest-preserved : goal.loop-rest-preserved
loop-rest-preserved c =
    let more : c.split_at.result.1.now ≡ drop 4 c.loop-rest.rest.now = search rules in
    ap (λ x. c.push.new.self.items ++ grouped x) more
    ∙ goes_on c.loop-rest.out.items c.loop-rest.rest.now (c.args.out.now.items ++ grouped c.args.bytes.now)
    c.push_digits.new.out.items c.push.new.self.items (search rules) c.loop-rest.invariant (search rules) (search rules)
