-- A step of the loop over the tokens of an image.
use Rattle.std.proofs.Common.{◌≡◌, ℕ, zero, suc, ◌+◌, ◌-◌, ◌<◌, ◌≤◌, List, [], ◌++◌, length, Some, None}
use Rattle.std.proofs.Common.{Bool, true, false, nat_eq, refl, sym, ap, ◌∙◌, arith, append_assoc}
use Rattle.std.proofs.lemmas.List.{append-nil}
use Rattle.std.proofs.lemmas.Bool.Decides.{nat_tests}
use Rattle.of_stream.specs.declared.stream.OffsetSize.{OffsetSize}
use Rattle.of_stream.specs.Decoding.{Token, TokenStandsAlone, token_from}
use Rattle.of_stream.specs.Image.{first_size}
use Rattle.of_stream.specs.Sizes.{is_end, size_behind}
use Rattle.of_check.specs.declared.finding.Finding.{Finding}
use Rattle.of_check.specs.Tokens.{Standing, Tokens, tokens_from, tokens_of}
use Rattle.of_check.specs.Findings.{branch_finding, definition_finding, end_finding, listed, stream_findings}
use Rattle.of_check.specs.Table.{findings_in, none_made, noted, use_in}
use Rattle.of_check.proofs.Bound.{bounds_agree, rises}
use Rattle.of_check.proofs.Making.{tabled, tabled_all}

-- what is found of these tokens and behind them
abbrev pub rest : ℕ → List Bool → Tokens → List Finding
rest end made r = tabled end made r.tokens ++ listed (end_finding end r.unread)

-- and behind other findings
abbrev pub found_behind : List Finding → List ℕ → List Bool → ℕ → ℕ → OffsetSize → List Finding
found_behind out image made n position size = out ++ rest (length image) made (tokens_from image n position size)

-- before the first token
pub rest_first : (out : List Finding) (image : List ℕ) (made : List Bool) (n : ℕ) (size : OffsetSize)
    → made ≡ none_made → size ≡ first_size image
    → found_behind out image made (n - 0) 8 size ≡ found_behind out image none_made n 8 (first_size image)
rest_first out image made n size h e =
    let all : n - 0 ≡ n = omega arith in
    rw (all, h, e) refl

pub rest_none : (out : List Finding) (image : List ℕ) (made : List Bool) (n k p : ℕ) (size : OffsetSize) → n ≤ k
    → found_behind out image made (n - k) p size ≡ out ++ listed (end_finding (length image) (Some p))
rest_none out image made n k p size l =
    let none : n - k ≡ zero = omega (arith, l) in
    rw none refl

pub rest_cut : (out : List Finding) (image : List ℕ) (made : List Bool) (n k p : ℕ) (size : OffsetSize) → k < n
    → token_from image p size ≡ None
    → found_behind out image made (n - k) p size ≡ out ++ listed (end_finding (length image) (Some p))
rest_cut out image made n k p size l h =
    let less : n - k ≡ suc (n - (k + 1)) = omega arith in
    rw (less, h) refl

-- the end token opens no definition
end_no_colon : (code : ℕ) → is_end code ≡ true → nat_eq code 0x0b7 ≡ false
end_no_colon code h = grind (arith, nat_tests, h)

no_definition : (t : Bool) (s : Standing) (xs ys : List Standing) → nat_eq s.token.code.0 0x0b7 ≡ t → t ≡ false
    → definition_finding s xs ≡ definition_finding s ys
no_definition true s xs ys e h = absurd cc
no_definition false s xs ys e h = rw e refl

-- so what stands behind it does not matter
end_found : (end : ℕ) (made : List Bool) (s : Standing) (xs ys : List Standing) → is_end s.token.code.0 ≡ true
    → findings_in end made s xs ≡ findings_in end made s ys
end_found end made s xs ys h =
    ap (λ o. listed (use_in made s) ++ listed (branch_finding end s s.token.argument) ++ listed o)
    (no_definition (nat_eq s.token.code.0 0x0b7) s xs ys refl (end_no_colon s.token.code.0 h))

pub rest_end : (out : List Finding) (image : List ℕ) (made : List Bool) (n k p : ℕ) (size : OffsetSize)
    (r : Token × ℕ) (behind : List Standing) → k < n → token_from image p size ≡ Some r → is_end r.0.code.0 ≡ true
    → found_behind out image made (n - k) p size
    ≡ (out ++ findings_in (length image) made (record { position = p; token = r.0 }) behind) ++ []
rest_end out image made n k p size r behind l h e =
    let less : n - k ≡ suc (n - (k + 1)) = omega arith in
    let s : Standing = record { position = p; token = r.0 } in
    rw (less, h, e)
    (ap (λ xs. out ++ xs)
    (append-nil (findings_in (length image) made s [] ++ [])
    ∙ append-nil (findings_in (length image) made s [])
    ∙ end_found (length image) made s [] behind e)
    ∙ sym (append-nil (out ++ findings_in (length image) made s behind)))

regrouped : (out xs ys zs : List Finding) → out ++ ((xs ++ ys) ++ zs) ≡ (out ++ xs) ++ (ys ++ zs)
regrouped out xs ys zs = ap (λ fs. out ++ fs) (append_assoc xs ys zs) ∙ sym (append_assoc out xs (ys ++ zs))

pub rest_more : TokenStandsAlone → (out : List Finding) (image : List ℕ) (made : List Bool) (n k p : ℕ)
    (size : OffsetSize) (r : Token × ℕ) → n ≡ length image → k < n → k ≤ p → token_from image p size ≡ Some r
    → is_end r.0.code.0 ≡ false
    → found_behind out image made (n - k) p size
    ≡ found_behind (out ++ findings_in (length image) made (record { position = p; token = r.0 })
    (tokens_from image n r.1 (size_behind r.0.code.0 size)).tokens) image
    (noted r.0.code.0 r.0.argument made) (n - (k + 1)) r.1 (size_behind r.0.code.0 size)
rest_more law out image made n k p size r long l b h e =
    let less : n - k ≡ suc (n - (k + 1)) = omega arith in
    let s : Standing = record { position = p; token = r.0 } in
    let up = rises law image p size r h in
    let same = bounds_agree law image (n - (k + 1)) n r.1 (size_behind r.0.code.0 size)
    (omega (arith, long, b, up.0)) (omega (arith, long)) in
    let next = tokens_from image (n - (k + 1)) r.1 (size_behind r.0.code.0 size) in
    rw (less, h, e)
    (regrouped out (findings_in (length image) made s next.tokens)
    (tabled (length image) (noted r.0.code.0 r.0.argument made) next.tokens)
    (listed (end_finding (length image) next.unread))
    ∙ ap (λ t. (out ++ findings_in (length image) made s t.tokens)
    ++ rest (length image) (noted r.0.code.0 r.0.argument made) next) same)

-- all that is found behind the header
pub rest_all : (out : List Finding) (image : List ℕ)
    → found_behind out image none_made (length image) 8 (first_size image)
    ≡ out ++ stream_findings (length image) [] (tokens_of image)
rest_all out image =
    let r = tokens_of image in
    ap (λ fs. out ++ (fs ++ listed (end_finding (length image) r.unread))) (tabled_all (length image) r.tokens)
