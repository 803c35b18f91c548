-- The answers that a text says: a line is `v` and a number, `done`, or `fault`.
use Rattle.std.specs.Prelude.{ℕ, List, codes, Result, Err, if◌then◌else◌}
use Rattle.std.specs.Str.{bytes_eq}
use Rattle.of_asking.specs.declared.query.Answer.{Answer}
use Rattle.of_asking.specs.declared.query.Answer.TheVariants as answer
use Rattle.of_calls.specs.Lines.{lines, place_at, word_at}
use Rattle.of_calls.specs.Said.{all_said, ended, go_on, number_at}
use Rattle.of_calls.specs.declared.fault.TextFault.{TextFault}
use Rattle.of_calls.specs.declared.fault.TextFault.TheVariants as fault

-- the answer of the line with a number; a line without words has the fault Unknown
unfoldable pub answer_in : ℕ → List ℕ → Result Answer TextFault
answer_in number line =
    if bytes_eq (word_at 0 line) (codes "v")
    then go_on (λ x. ended number 2 line (answer.Value x.0)) (number_at number 1 line)
    else (if bytes_eq (word_at 0 line) (codes "done") then ended number 1 line answer.Done
    else (if bytes_eq (word_at 0 line) (codes "fault") then ended number 1 line answer.BusFault
    else Err (fault.Unknown (place_at number 0 line))))

-- the answers of a text, or the first of its words that fits nowhere
abbrev pub parsed_answers : List ℕ → Result (List Answer) TextFault
parsed_answers text = all_said answer_in 1 (lines text)
