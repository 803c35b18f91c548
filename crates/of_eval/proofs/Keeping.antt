-- What `to` left of words and board is what its act does.
use Rattle.std.proofs.Common.{◌≡◌, Result, Ok, Err, ap, sym, ◌∙◌}
use Rattle.of_stacks.specs.declared.throws.Throw.{Throw}
use Rattle.of_cells.specs.Outcomes.{Becomes}
use Rattle.of_compile.specs.Words.{WordsState}
use Rattle.of_board.specs.declared.board.Board.{Board}
use Rattle.of_own.specs.Stores.{InSlot, InWord, Stored, both, store_left}
use Rattle.of_eval.specs.Acts.{keeping}
use Rattle.of_eval.specs.Doing.{worked}
use Rattle.of_state.specs.State.{Calls, Leaves, State, done, failed}

-- words and board, put into a state
abbrev put : {S : Type 0} → WordsState × Board → State S → State S
put x s = record s { words = x.0; board = x.1 }

same : {x y : WordsState × Board} → ◌≡◌ {A = Result (WordsState × Board) Throw} (Ok x) (Ok y) → x ≡ y
same e = cc

same_throw : {t u : Throw} → ◌≡◌ {A = Result (WordsState × Board) Throw} (Err t) (Err u) → t ≡ u
same_throw e = cc

pub keeps : {S : Type 0} (c : Calls S) (entry : Result Stored Throw) (s : State S) (w : WordsState) (b : Board)
    (r : Result (Unit {0}) Throw)
    → Becomes (store_left entry (both s.words s.board)) (both s.words s.board) (both w b) r
    → Leaves (worked c (keeping entry) s) (record s { words = w; board = b }) r
unfolding worked
keeps c (Ok (InWord v cells)) s w b (Ok x) h = ap (λ p. done (put p s)) (same h)
keeps c (Ok (InSlot m cells)) s w b (Ok x) h = ap (λ p. done (put p s)) (same h)
keeps c (Err t) s w b (Ok x) h = absurd cc
keeps c (Ok y) s w b (Err t) h = absurd cc
keeps c (Err u) s w b (Err t) h =
    ap (λ t. failed t s) (same_throw h.0) ∙ ap (λ p. failed t (put p s)) (sym h.1)
