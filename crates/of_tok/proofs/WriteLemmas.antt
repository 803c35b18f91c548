-- Bytes of tokens, one after another.
use Rattle.std.proofs.Common.{◌≡◌, ℕ, List, [], ◌∷◌, ◌++◌, map, reverse, Option, None, sym, ap, ◌∙◌}
use Rattle.std.proofs.Common.{append_assoc}
use Rattle.std.specs.Option.{option_or}
use Rattle.std.proofs.lemmas.List.{map-append, reverse-append}
use Rattle.of_tok.specs.declared.written.Written.{Written as Held}
use Rattle.of_tok.specs.Image.{bytes_of, first_unfit, unfit, unless_unfit, written_behind, written_bytes}
use Rattle.of_tok.specs.Shown.{written_shown}
use Rattle.of_tok.specs.Tokens.{Written}

-- the last of the list is the first in the image
pub last_first : (xs : List Held) (x : Held)
    → reverse (map written_shown (xs ++ x ∷ [])) ≡ written_shown x ∷ reverse (map written_shown xs)
last_first xs x =
    ap reverse (map-append written_shown xs (x ∷ []))
    ∙ reverse-append (map written_shown xs) (written_shown x ∷ [])

-- a token whose offset fits goes behind what is written
pub one_written : (before : List ℕ) (w : Written) (ws : List Written) → unfit w ≡ None
    → written_behind before (w ∷ ws) ≡ written_behind (before ++ written_bytes w) ws
one_written before w ws h =
    ap (λ (o : Option ℕ). unless_unfit (option_or o (first_unfit ws)) (before ++ (written_bytes w ++ bytes_of ws))) h
    ∙ ap (unless_unfit (first_unfit ws)) (sym (append_assoc before (written_bytes w) (bytes_of ws)))
