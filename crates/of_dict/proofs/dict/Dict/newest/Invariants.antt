use Rattle.std.proofs.Common.{◌≡◌, ◌≤◌, length, is_some}
use Rattle.of_dict.specs.Words.{newest, newest_below, word_at}
use Rattle.of_dict.proofs.dict.Dict.newest.Given as goal

abbrev pub invariant-loop-number : goal.invariant-loop-number
invariant-loop-number l = record {
  within : l.number ≤ length l.self;
  above : newest l.self ≡ newest_below (λ n. is_some (word_at l.self n)) l.number;
}

abbrev pub decreases-loop-number : goal.decreases-loop-number
decreases-loop-number l = l.number
