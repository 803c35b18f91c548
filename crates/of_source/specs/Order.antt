-- Which word of a source decides what the whole text is: the words before it fit, one after the other.
use Rattle.std.specs.Prelude.{◌≡◌, ℕ, zero, suc, true, List, length, codes, Option, Some, None, Result, Err}
use Rattle.of_stream.specs.declared.stream.OffsetSize.{OffsetSize}
use Rattle.of_stream.specs.declared.stream.OffsetSize.TheVariants as size
use Rattle.of_source.specs.declared.fault.SourceFault.{SourceFault}
use Rattle.of_source.specs.Items.{Source}
use Rattle.of_scan.specs.Scan.{Rest, rest_at}
use Rattle.of_source.specs.Places.{last_place}
use Rattle.of_source.specs.Steps.{State, Step, Goes, Ends, Fails, next_step, beginning}
use Rattle.of_source.specs.Parsing.{Word, beyond, is_word}
use Rattle.of_source.specs.Parsing.{trailed}
use Rattle.of_source.specs.Parsing.{parsed}

-- on behind a word, where the source goes on
abbrev pub behind_word : Step → (State → Option State) → Option State
behind_word (Goes s) next = next s
behind_word (Ends s) next = None
behind_word (Fails f) next = None

-- the state behind n words, in a text whose last byte is at this place; none where one of them ends the source or fits
-- nowhere
abbrev pub behind_words : ℕ → ℕ → State → Option State
behind_words last zero s = Some s
behind_words last (suc n) s = behind_word (next_step last s) (behind_words last n)

-- what a word makes of the whole text: a source at `fcode-end`, a fault where it fits nowhere, else nothing yet
abbrev pub outcome_at : List ℕ → OffsetSize → Step → Option (Result Source SourceFault)
outcome_at text z (Goes s) = None
outcome_at text z (Ends s) = Some (trailed z s (beyond (length text) s.rest))
outcome_at text z (Fails f) = Some (Err f)

-- n words fit from here on, and the next one decides
pub record IsDecided (text : List ℕ) (z : OffsetSize) (s : State) (r : Result Source SourceFault) : Type 0 where
  pub count : ℕ
  pub state : State
  pub fits : behind_words (last_place text) count s ≡ Some state
  pub decides : outcome_at text z (next_step (last_place text) state) ≡ Some r

-- the words of a text begin here, behind comments and this word
abbrev pub BeginsWith : List ℕ → List ℕ → Rest → Type 0
BeginsWith text name r =
    (at : ℕ) × (w : List ℕ) × (beyond (length text) (rest_at 0 text) ≡ Word at w r) × (is_word name w ≡ true)

-- a text is what the first of its words decides that doesn't let it go on, and no other word decides
pub record FirstWordDecides : Type 0 where
  pub version2 : (text : List ℕ) (r : Rest) → BeginsWith text (codes "fcode-version2") r
      → IsDecided text size.Two (beginning r) (parsed text)
  pub version1 : (text : List ℕ) (r : Rest) → BeginsWith text (codes "fcode-version1") r
      → IsDecided text size.One (beginning r) (parsed text)
  pub alone : (text : List ℕ) (z : OffsetSize) (s : State) (a b : Result Source SourceFault)
      → IsDecided text z s a → IsDecided text z s b → a ≡ b
