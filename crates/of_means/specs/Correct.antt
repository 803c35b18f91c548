-- The image of a source does what the source means, and only that.
use Rattle.std.specs.Prelude.{◌≡◌, ◌⊎◌, ℕ, ◌≤◌, false, Some, None}
use Rattle.of_stream.specs.declared.stream.OffsetSize.{OffsetSize}
use Rattle.of_source.specs.Items.{bare}
use Rattle.of_source.specs.Nest.{Nest}
use Rattle.of_tok.specs.Places.{first_place, past}
use Rattle.of_tok.specs.Tokens.{end_of}
use Rattle.of_state.specs.State.{Calls}
use Rattle.of_steps.specs.Steps.{settled_of}
use Rattle.of_means.specs.Moments.{IsWaiting, Moment, exchanged, made, steps, with_state}
use Rattle.of_means.specs.Courses.{Course, On, Off, Out, Left, Thrown, Waits, Cut, Beyond}
use Rattle.of_means.specs.Means.{at, means, token_at}

-- no branch, case or loop is left open
abbrev pub IsClosed : {S : Type 0} → Course S → Type 0
IsClosed (On t) = Unit {0}
IsClosed (Off b t) = ⊥
IsClosed (Out t) = ⊥
IsClosed (Left e t) = ⊥
IsClosed (Thrown t) = Unit {0}
IsClosed (Waits t) = Unit {0}
IsClosed (Cut t) = Unit {0}
IsClosed Beyond = Unit {0}

module _ {S : Type 0} (c : Calls S) (own : Nest → Calls S) where
  -- what a source means from a moment on, with so many turns of each loop, and steps of each word
  abbrev pub source_means : Nest → OffsetSize → ℕ → Moment S → Course S
  source_means x z n m = means c own x n (first_place z) 0 (On m)

  -- the end of the image, `end0`
  abbrev pub source_ended : Nest → OffsetSize → Moment S → Moment S
  source_ended x z m =
      let e = end_of x (first_place z) in
      with_state (settled_of c (token_at c (bare 0x000) e (past 1 e) m.state)) m

  -- so many steps of the image, from its first token on
  abbrev pub Comes : OffsetSize → Moment S → ℕ → Moment S → Type 0
  Comes z m k t = steps c k (at (first_place z) m) ≡ Some t

  -- how a run of the image comes to rest, by what the source means
  abbrev pub Rests : Nest → OffsetSize → Moment S → Moment S → ℕ → Type 0
  Rests x z m last n =
      ((t : Moment S) × (source_means x z n m ≡ On t) × (last ≡ source_ended x z t))
      ⊎ (source_means x z n m ≡ Thrown last)
      ⊎ (source_means x z n m ≡ Waits last)
      ⊎ (source_means x z n m ≡ Beyond)

  -- both directions
  pub record Behaves (x : Nest) (z : OffsetSize) (m : Moment S) : Type 0 where
    -- a source that ends: its image ends in the same state, and nothing runs
    pub ends :
        (n : ℕ) (t : Moment S) → source_means x z n m ≡ On t →
        (k : ℕ) × Comes z m k (source_ended x z t) × ((source_ended x z t).state.flow.is_running ≡ false)
    -- one that throws: its image throws, and falls into the same state
    pub throws :
        (n : ℕ) (t : Moment S) → source_means x z n m ≡ Thrown t →
        (k : ℕ) × Comes z m k t × (t.state.flow.is_running ≡ false)
    -- one that waits: its image waits in the same state, with the same question
    pub waits : (n : ℕ) (t : Moment S) → source_means x z n m ≡ Waits t → (k : ℕ) × Comes z m k t × IsWaiting c t
    -- one that goes on: its image runs on as long, and what words work on, its console and tree too, and what was asked
    -- is the same then
    pub goes_on :
        (n : ℕ) (t : Moment S) → source_means x z n m ≡ Cut t →
        (k : ℕ) × (u : Moment S) × (n ≤ k) × Comes z m k u × (u.state.board ≡ t.state.board)
        × (exchanged u ≡ exchanged t)
    -- nothing else comes of it
    pub closed : (n : ℕ) → IsClosed (source_means x z n m)
    -- and where the run of the image comes to rest, the source ends, throws or waits so
    pub only :
        (k : ℕ) (last : Moment S) → Comes z m k last → made c last ≡ None → (n : ℕ) × Rests x z m last n
