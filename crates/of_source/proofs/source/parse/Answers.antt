use Rattle.std.proofs.Common.{rules, map}
use Rattle.of_source.specs.Items.{item_shown}
use Rattle.of_source.proofs.Encoded.{parsed_sound}
use Rattle.of_source.proofs.source.parse.Goals as goal

pub invariant_of-result : goal.invariant_of-result
invariant_of-result c =
    parsed_sound c.args.text.now
    (record { size = c.in-Ok.field-0.size; items = map item_shown c.in-Ok.field-0.items.items }) (search rules)
