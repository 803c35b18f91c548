use Rattle.std.proofs.Common.{◌≡◌, ◌≤◌, ◌++◌, length}
use Rattle.of_console.specs.Names.{listed_below, names_shown}
use Rattle.of_console.proofs.names.push_words.Given as goal

-- what is appended, and what the places below the number give
abbrev pub invariant-loop-number : goal.invariant-loop-number
invariant-loop-number l = record {
  within : l.number ≤ length l.dictionary;
  shown : l.out.items ++ names_shown (listed_below l.dictionary l.number)
      ≡ l.initial.out.items ++ names_shown (listed_below l.dictionary (length l.dictionary));
}

abbrev pub decreases-loop-number : goal.decreases-loop-number
decreases-loop-number l = l.number
