-- The image of a source is followed: what is asked of the words that aren't of control, and what comes of it
-- (IEEE 1275-1994, 5.2.2, 5.3.3).
use Rattle.std.specs.Prelude.{◌≡◌, ℕ, false, List, [], ◌∷◌, Some}
use Rattle.of_stream.specs.declared.stream.OffsetSize.{OffsetSize}
use Rattle.of_stream.specs.Decoding.{Token, token_from}
use Rattle.of_source.specs.Nest.{Fits, IsWhole, Nest, open_behind}
use Rattle.of_tok.specs.declared.place.Place.{Place}
use Rattle.of_tok.specs.Laws.{HasTokens}
use Rattle.of_tok.specs.Places.{behind, first_place, past}
use Rattle.of_tok.specs.Tokens.{Written, end_of, straight, tokens_of, written}
use Rattle.of_state.specs.State.{Calls, State}
use Rattle.of_meaning.specs.Laws.{in_definition}
use Rattle.of_means.specs.Moments.{Moment, made, steps}
use Rattle.of_means.specs.Courses.{Course, On, Off, Out, Left, Thrown, Waits, Cut, Beyond}
use Rattle.of_means.specs.Means.{at, at_place, defined, word}
use Rattle.of_means.specs.Correct.{Behaves}
use Rattle.of_means.specs.Sources.{AtSource, HasWords, IsWord, WidensOutside}

-- What is kept stays so in a step that leaves the data space as it was, and doesn't depend on where the source stands.
pub record StaysKept {S : Type 0} (c : Calls S) (Keeps : State S → Type 0) : Type 0 where
  pub step :
      (m t : Moment S) → Keeps m.state → made c m ≡ Some t → t.state.board.memory ≡ m.state.board.memory →
      Keeps t.state
  pub place : (p q : Place) (s : State S) → Keeps (at_place p s) → Keeps (at_place q s)

module _ {S : Type 0} (c : Calls S) (image loops : List ℕ) (Keeps : State S → Type 0) where
  -- control is at the source, which executes words
  abbrev pub IsAt : Moment S → Type 0
  IsAt m = AtSource image loops Keeps false m.state

  -- What a word of the source started comes back to it, behind the word's token.
  abbrev pub WordsComeBack : Type 0
  WordsComeBack =
      (n : ℕ) (t : Token) (p : Place) (m u : Moment S) → IsWord t → IsAt m →
      token_from image p.position p.size ≡ Some (t, (behind t p).position) → word c n t p m ≡ On u →
      IsAt u × (at (behind t p) u ≡ u)

  -- What becomes of a definition between two places: its tokens are read up to its end, or one throws.
  abbrev pub IsRead : Place → Place → Moment S → Course S → Type 0
  IsRead p q m (On t) = IsAt t × ((k : ℕ) × (steps c k (at p m) ≡ Some (at q t)))
  IsRead p q m (Thrown t) = (t.state.flow.is_running ≡ false) × ((k : ℕ) × (steps c k (at p m) ≡ Some t))
  IsRead p q m Beyond = Unit {0}
  IsRead p q m (Off b t) = ⊥
  IsRead p q m (Out t) = ⊥
  IsRead p q m (Left e t) = ⊥
  IsRead p q m (Waits t) = ⊥
  IsRead p q m (Cut t) = ⊥

  -- So each definition whose tokens stand at a place, from `b(:)` on.
  abbrev pub DefinitionsAreRead : (Nest → Calls S) → Type 0
  DefinitionsAreRead own =
      (i : Nest) (d : ℕ) (p : Place) (to : List ℕ) (out : ℕ) (ws : List Written) (m : Moment S) → HasWords i →
      Fits i in_definition d d → open_behind i d ≡ d →
      let e = end_of i (past 1 p) in
      HasTokens image p (straight 0x0b7 p ∷ written i (past 1 p) to out (straight 0x0c2 e ∷ ws)) → IsAt m →
      IsRead p (past 1 e) m (defined c own i p m)

-- The image of a source does what the source means, over any code of definitions.
pub record SourceIsFollowed (S : Type 0) (Keeps : List ℕ → State S → Type 0) : Type 0 where
  pub followed :
      (c : Calls S) (own : Nest → Calls S) (image : List ℕ) (z : OffsetSize) (x : Nest) (m : Moment S) →
      -- a whole source, whose tokens stand in the image, at which control is
      IsWhole x → HasWords x → WidensOutside x 0 → HasTokens image (first_place z) (tokens_of z x)
      → IsAt c image [] (Keeps image) m →
      -- what is kept is kept, words come back, and definitions are read
      StaysKept c (Keeps image) → ((loops : List ℕ) → WordsComeBack c image loops (Keeps image))
      → ((loops : List ℕ) → DefinitionsAreRead c image loops (Keeps image) own) →
      Behaves c own x z m
