-- Positions rise from token to token, so the bound on the number of tokens cuts nothing.
use Rattle.std.proofs.Common.{◌≡◌, ℕ, zero, suc, ◌+◌, ◌-◌, ◌<◌, ◌≤◌, List, length, drop, Option, Some, None, cond}
use Rattle.std.proofs.Common.{refl, sym, ap, ◌∙◌, arith}
use Rattle.std.proofs.lemmas.List.{length-drop, length-append}
use Rattle.std.specs.Option.{option_map}
use Rattle.of_stream.specs.declared.stream.OffsetSize.{OffsetSize}
use Rattle.of_stream.specs.Image.{first_size}
use Rattle.of_stream.specs.Decoding.{Token, decoded, token_from, TokenStandsAlone}
use Rattle.of_stream.specs.Sizes.{is_end, size_behind}
use Rattle.of_check.specs.Tokens.{Standing, BoundCutsNothing, no_more, token_before, tokens_by, tokens_from}

-- where a token ends
abbrev pub Rises : List ℕ → ℕ → ℕ → Type 0
Rises image p q = (p < q) × (q ≤ length image)

some_token : {A : Type 0} (a b : A) → Some a ≡ Some b → a ≡ b
some_token a b h = cc

rises_by : TokenStandsAlone → (image : List ℕ) (p : ℕ) (size : OffsetSize) (o : Option (Token × List ℕ)) (t : Token)
    (q : ℕ) → decoded size (drop p image) ≡ o
    → option_map {U = Token × ℕ} (λ r. (r.0, length image - length r.1)) o ≡ Some (t, q) → Rises image p q
rises_by law image p size None t q e h = absurd cc
rises_by law image p size (Some r) t q e h =
    let own = law size (drop p image) r.1 r.0 e in
    let at : length image - length r.1 ≡ q =
    ap (λ (x : Token × ℕ). x.1) (some_token (r.0, length image - length r.1) (t, q) h) in
    let whole : length (drop p image) ≡ length own.0 + length r.1 = ap length own.1 ∙ length-append own.0 r.1 in
    let some : 0 < length own.0 = own.2.some in
    (omega (arith, at, whole, some, length-drop p image), omega (arith, at))

pub rises : TokenStandsAlone → (image : List ℕ) (p : ℕ) (size : OffsetSize) (r : Token × ℕ)
    → token_from image p size ≡ Some r → Rises image p r.1
unfolding token_from
rises law image p size r h = rises_by law image p size (decoded size (drop p image)) r.0 r.1 refl h

past : TokenStandsAlone → (image : List ℕ) (n : ℕ) (p : ℕ) (size : OffsetSize) (o : Option (Token × ℕ))
    → token_from image p size ≡ o → length image ≤ p
    → tokens_by p size o (tokens_from image n) ≡ no_more (Some p)
past law image n p size None e l = refl
past law image n p size (Some r) e l =
    let up = rises law image p size r e in absurd (omega (arith, l, up.0, up.1))

-- two bounds that are large enough
abbrev Agree : List ℕ → ℕ → ℕ → Type 0
Agree image m n = (p : ℕ) (size : OffsetSize) → length image ≤ p + m → length image ≤ p + n
    → tokens_from image m p size ≡ tokens_from image n p size

step : TokenStandsAlone → (image : List ℕ) (m n : ℕ) (p : ℕ) (size : OffsetSize) (o : Option (Token × ℕ))
    → Agree image m n → token_from image p size ≡ o → length image ≤ p + suc m → length image ≤ p + suc n
    → tokens_by p size o (tokens_from image m) ≡ tokens_by p size o (tokens_from image n)
step law image m n p size None agree e h k = refl
step law image m n p size (Some r) agree e h k =
    let up = rises law image p size r e in
    let same = agree r.1 (size_behind r.0.code.0 size) (omega (arith, h, up.0)) (omega (arith, k, up.0)) in
    let s : Standing = record { position = p; token = r.0 } in
    ap (λ x. token_before s (cond (is_end r.0.code.0) (no_more None) x)) same

pub bounds_agree : TokenStandsAlone → (image : List ℕ) (m n : ℕ) (p : ℕ) (size : OffsetSize) → length image ≤ p + m
    → length image ≤ p + n → tokens_from image m p size ≡ tokens_from image n p size
bounds_agree law image zero zero p size h k = refl
bounds_agree law image zero (suc n) p size h k =
    sym (past law image n p size (token_from image p size) refl (omega (arith, h)))
bounds_agree law image (suc m) zero p size h k =
    past law image m p size (token_from image p size) refl (omega (arith, k))
bounds_agree law image (suc m) (suc n) p size h k =
    step law image m n p size (token_from image p size) (bounds_agree law image m n) refl h k

pub cuts_nothing : TokenStandsAlone → BoundCutsNothing
cuts_nothing law image n h =
    bounds_agree law image n (length image) 8 (first_size image) (omega (arith, h)) (omega arith)
