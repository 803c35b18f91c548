use Rattle.std.proofs.Common.{◌≡◌, ◌≤◌}
use Rattle.of_dict.specs.Words.{capacity, kind_in, newest_below, word_at}
use Rattle.of_compile.specs.DictionaryWords.{created_at, is_body}
use Rattle.of_compile.proofs.dictionary_words.created_at.Given as goal

abbrev pub invariant-loop-number : goal.invariant-loop-number
invariant-loop-number l = record {
  fits : l.number ≤ capacity;
  above : created_at l.words l.address.0
      ≡ newest_below (λ n. is_body l.address.0 (kind_in (word_at l.words n))) l.number;
}

abbrev pub decreases-loop-number : goal.decreases-loop-number
decreases-loop-number l = l.number
