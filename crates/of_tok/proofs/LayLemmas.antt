-- Tokens from the end.
use Rattle.std.proofs.Common.{◌≡◌, List, [], ◌∷◌, ◌++◌, map, refl, ap, subst, ◌∙◌}
use Rattle.std.specs.List.{All}
use Rattle.std.proofs.lemmas.List.{map-append}
use Rattle.std.proofs.lemmas.List.Elements.{All-nil, All-cons, All-head, All-tail}
use Rattle.of_source.specs.Encodable.{HasBytes}
use Rattle.of_source.specs.Items.{item_shown}
use Rattle.of_tok.specs.declared.placing.Placed.{Placed as Held}
use Rattle.of_tok.specs.Layout.{Laid, Placed, laid_before, laid_over}
use Rattle.of_tok.specs.Shown.{placed_shown}

laid_over-last : (xs : List Placed) (x : Placed) (q : Laid)
    → laid_over (xs ++ x ∷ []) q ≡ laid_over xs (laid_before x q)
laid_over-last [] x q = refl
laid_over-last (y ∷ ys) x q = ap (laid_before y) (laid_over-last ys x q)

-- the last item goes before what is laid out
pub last_laid : (xs : List Held) (x : Held) (q : Laid)
    → laid_over (map placed_shown (xs ++ x ∷ [])) q ≡ laid_over (map placed_shown xs) (laid_before (placed_shown x) q)
last_laid xs x q =
    ap (λ ys. laid_over ys q) (map-append placed_shown xs (x ∷ []))
    ∙ laid_over-last (map placed_shown xs) (placed_shown x) q

-- what holds of each holds of the last, and of those before it
last_of : {X : Type 0} (P : X → Type 0) (xs : List X) (x : X) → All P (xs ++ x ∷ []) → All P xs × P x
last_of P [] x h = (All-nil P, All-head P x [] h)
last_of P (y ∷ ys) x h =
    let r = last_of P ys x (All-tail P y (ys ++ x ∷ []) h) in
    (All-cons P y ys (All-head P y (ys ++ x ∷ []) h) r.0, r.1)

abbrev pub HaveBytes : List Held → Type 0
HaveBytes xs = All (λ (x : Placed). HasBytes x.item) (map placed_shown xs)

-- the last has bytes, where all have
pub last_has_bytes : (xs : List Held) (x : Held) → HaveBytes (xs ++ x ∷ [])
    → HaveBytes xs × HasBytes (item_shown x.item.now)
last_has_bytes xs x h =
    last_of (λ (y : Placed). HasBytes y.item) (map placed_shown xs) (placed_shown x)
    (subst (All (λ (y : Placed). HasBytes y.item)) (map-append placed_shown xs (x ∷ [])) h)
