-- Chains of defers, a link at a time.
use Rattle.std.proofs.Common.{◌≡◌, ℕ, zero, suc, ◌-◌, ◌<◌, List, Option, Some, None, Ok, Err, ap, refl, arith}
use Rattle.of_stacks.specs.declared.throws.Throw.{Throw}
use Rattle.of_stacks.specs.Throws.{bad_handle}
use Rattle.of_dict.specs.declared.word.Word.{Word}
use Rattle.of_dict.specs.Words.{kind_in}
use Rattle.of_compile.specs.Words.{own_word}
use Rattle.of_board.specs.declared.board.Board.{Board}
use Rattle.of_own.specs.Defers.{behind_defers, deferred_to, followed}

-- it leads on
pub goes_on : (words : List (Option Word)) (b : Board) (n xt to : ℕ) → 0 < n
    → deferred_to (kind_in (own_word words xt)) b ≡ Ok (Some to)
    → behind_defers words b n xt ≡ behind_defers words b (n - 1) to
unfolding behind_defers
goes_on words b zero xt to h e = absurd (omega arith)
goes_on words b (suc n) xt to h e =
    let less : suc n - 1 ≡ n = omega arith in
    rw less (ap (λ o. followed o xt (λ x. behind_defers words b n x)) e)

-- it ends at a word that is none
pub stops : (words : List (Option Word)) (b : Board) (n xt : ℕ) → 0 < n
    → deferred_to (kind_in (own_word words xt)) b ≡ Ok None → behind_defers words b n xt ≡ Ok xt
unfolding behind_defers
stops words b zero xt h e = absurd (omega arith)
stops words b (suc n) xt h e = ap (λ o. followed o xt (λ x. behind_defers words b n x)) e

-- it breaks at one that the current instance hasn't
pub breaks : (words : List (Option Word)) (b : Board) (n xt : ℕ) (t : Throw) → 0 < n
    → deferred_to (kind_in (own_word words xt)) b ≡ Err t → behind_defers words b n xt ≡ Err t
unfolding behind_defers
breaks words b zero xt t h e = absurd (omega arith)
breaks words b (suc n) xt t h e = ap (λ o. followed o xt (λ x. behind_defers words b n x)) e

-- it never ends
pub never : (words : List (Option Word)) (b : Board) (n xt : ℕ) → n ≡ 0 → behind_defers words b n xt ≡ Err bad_handle
unfolding behind_defers
never words b zero xt e = refl
never words b (suc n) xt e = absurd (omega arith)
