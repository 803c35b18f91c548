use Rattle.std.proofs.Common.{◌++◌, length, rules}
use Rattle.of_source.specs.Places.{last_place}
use Rattle.of_source.specs.Positions.{places_from}
use Rattle.of_source.proofs.PositionLemmas.{places_end_by, places_more_by, places_stop_by}
use Rattle.of_source.proofs.positions.add_from.Goals as goal

pub returns-in-Ok-false : goal.returns-in-Ok-false
returns-in-Ok-false c =
    places_end_by (last_place c.args.text.now) (length c.args.text.now) c.loop.counter c.last_place-last.result
    c.loop.parser c.next.new.self _
    (c.args.places.now.items ++ places_from (last_place c.args.text.now) (length c.args.text.now) c.args.parser)
    c.loop.places.items c.push.new.self.items c.at-in-Ok-false.result c.loop-test.true c.last_place-last.ensures
    c.in-Ok-false.field-0-test c.in-Ok-false.ensures c.loop.invariant c.in_ok-push-in-Ok-false.ensures.items
    c.at-in-Ok-false.ensures

pub returns-in-Err : goal.returns-in-Err
returns-in-Err c =
    places_stop_by (last_place c.args.text.now) (length c.args.text.now) c.loop.counter c.last_place-last.result
    c.loop.parser c.next.new.self c.in-Err.field-0
    (c.args.places.now.items ++ places_from (last_place c.args.text.now) (length c.args.text.now) c.args.parser)
    c.loop.places.items c.loop-test.true c.last_place-last.ensures c.in-Err.ensures (search rules) c.loop.invariant

pub loop-preserved : goal.loop-preserved
loop-preserved c =
    places_more_by (last_place c.args.text.now) (length c.args.text.now) c.loop.counter c.last_place-last.result
    c.loop.parser c.next.new.self _
    (c.args.places.now.items ++ places_from (last_place c.args.text.now) (length c.args.text.now) c.args.parser)
    c.loop.places.items c.add_times.new.places.items c.saturating_sub-more.result c.at.result c.loop-test.true
    c.last_place-last.ensures c.in-Ok-true.field-0-test c.in-Ok-true.ensures c.loop.invariant c.in_ok-add_times-in-Ok-true.ensures (search rules)
    c.at.ensures
