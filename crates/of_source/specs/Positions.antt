-- Where the items of a source stand in its text: each at the place of the word that gave it; and where the words stand
-- that begin it and end it.
use Rattle.std.specs.Prelude.{◌≡◌, ℕ, zero, suc, ◌+◌, ◌-◌, List, [], ◌∷◌, ◌++◌, length, Ok}
use Rattle.std.specs.List.{repeat}
use Rattle.of_stream.specs.declared.stream.OffsetSize.{OffsetSize}
use Rattle.of_scan.specs.Scan.{rest_at, start_of}
use Rattle.of_source.specs.Items.{Source}
use Rattle.of_source.specs.Nest.{IsNested}
use Rattle.of_source.specs.Places.{last_place}
use Rattle.of_source.specs.Steps.{State, Step, Goes, Ends, Fails, beginning, next_step}
use Rattle.of_source.specs.Parsing.{Beyond, Word, Nothing, Bad, beyond, parsed}
use Rattle.of_source.specs.Phrases.{Spelled, Beginning, Ending, Known, all_written, begun_with, behind, items_in}
use Rattle.of_source.specs.Phrases.{items_of, moved, place_behind, text_of}
use Rattle.of_source.specs.Written.{AreSaid, IsBegun}

-- the items that a word gave stand at its place
abbrev pub given_at : ℕ → ℕ → List ℕ
given_at count place = repeat count (place ∷ [])

-- those of a word, and of the words behind it; the last has none, and its own place
abbrev pub placed : State → Step → (State → List ℕ) → List ℕ
placed s (Goes t) next = given_at (length t.items - length s.items) (start_of s.rest) ++ next t
placed s (Ends t) next = start_of s.rest ∷ []
placed s (Fails f) next = []

-- those of the words from here on, at most n, in a text whose last byte is at this place
abbrev pub places_from : ℕ → ℕ → State → List ℕ
places_from last zero s = []
places_from last (suc n) s = placed s (next_step last s) (places_from last n)

-- those of a text whose comments at the beginning were passed
abbrev pub places_behind : List ℕ → Beyond → List ℕ
places_behind text Nothing = []
places_behind text (Bad at) = []
places_behind text (Word at w r) = at ∷ places_from (last_place text) (length text) (beginning r)

-- the place of the word that begins a text, those of its items, one each, and that of the word that ends it; up to a
-- word that fits nowhere
unfoldable pub item_places : List ℕ → List ℕ
item_places text = places_behind text (beyond (length text) (rest_at 0 text))

-- ---- by phrases

-- the items of phrases stand where their words do, and then comes the end
abbrev pub phrase_places : List Spelled → Ending → Known → List ℕ
phrase_places [] e k = (moved e.blanks k).at ∷ []
phrase_places (p ∷ ps) e k =
    let m = moved p.blanks k in
    given_at (length (items_of p.phrase m)) m.at ++ phrase_places ps e (behind p.word p.phrase m)

-- Phrases that are those of a nest have items at the places of their words, one place an item, between one for the word
-- that begins the source and one for the end; and so has each text that is accepted, since it is written so.
pub record ItemsHavePlaces : Type 0 where
  pub written : (z : OffsetSize) (b : Beginning) (ps : List Spelled) (e : Ending)
      → IsBegun z b (all_written ps e) → AreSaid ps e (begun_with b) → IsNested (items_in b ps)
      → item_places (text_of b ps e)
      ≡ (place_behind b.comments 0 + length b.blanks) ∷ phrase_places ps e (begun_with b)
  pub counted : (text : List ℕ) (s : Source) → parsed text ≡ Ok s
      → length (item_places text) ≡ length s.items + 2
