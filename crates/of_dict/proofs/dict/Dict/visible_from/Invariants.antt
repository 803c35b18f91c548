use Rattle.std.proofs.Common.{◌≡◌}
use Rattle.of_dict.specs.Index.{IsNamed, left_from, visible_from}
use Rattle.of_dict.proofs.dict.Dict.visible_from.Given as goal

abbrev pub invariant-loop-at : goal.invariant-loop-at
invariant-loop-at l = record {
  named : IsNamed l.self l.at;
  found : visible_from l.self l.at ≡ visible_from l.self l.fn.newest;
}

abbrev pub decreases-loop-at : goal.decreases-loop-at
decreases-loop-at l = left_from l.at
