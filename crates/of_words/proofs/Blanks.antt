-- Blanks: the empty text at the right end of a width is as many blanks.
use Rattle.std.proofs.Common.{◌≡◌, ◌-◌, ℤ, pos, negsuc, [], ap, ◌∙◌, arith, refl}
use Rattle.std.proofs.lemmas.List.{append-nil}
use Rattle.std.specs.Prelude.{ℕ, replicate}
use Rattle.of_board.specs.Text.{at_right}
use Rattle.of_words.specs.ConsoleWords.{blanks}

pub at_right_blanks : (z : ℤ) → at_right z [] ≡ blanks z
at_right_blanks (pos n) =
    let whole : n - 0 ≡ n = omega arith in
    append-nil (replicate (n - 0) 32) ∙ ap (λ (k : ℕ). replicate k 32) whole
at_right_blanks (negsuc n) = refl
