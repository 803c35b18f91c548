-- The lines of an image lie one behind another, and have all its bytes.
use Rattle.std.proofs.Common.{◌≡◌, ℕ, zero, suc, ◌+◌, ◌-◌, ◌/◌, ◌<◌, ◌≤◌, List, [], ◌∷◌, ◌++◌, length, take, drop}
use Rattle.std.proofs.Common.{Option, Some, None, Bool, true, false, cond, nat_lt, nat_eq, slice_index, refl}
use Rattle.std.proofs.Common.{sym, ap, ◌∙◌, arith, subst}
use Rattle.std.proofs.lemmas.List.{length-take, length-drop, length-append, take-append-drop, drop-drop}
use Rattle.std.proofs.lemmas.List.{nil_from_length, take_all, take_rest}
use Rattle.std.proofs.Math.Seq.{take-add}
use Rattle.std.proofs.lemmas.Bool.Decides.{nat_tests}
use Rattle.std.specs.Option.{option_map}
use Rattle.of_stream.specs.declared.fault.StreamFault.{StreamFault}
use Rattle.of_stream.specs.declared.fault.StreamFault.TheVariants.{Short, Start0, BadStart, Ended}
use Rattle.of_stream.specs.declared.stream.OffsetSize.{OffsetSize}
use Rattle.of_stream.specs.Image.{header_fault, start_fault, first_size}
use Rattle.of_stream.specs.Decoding.{Token, decoded, token_from, TokenStandsAlone}
use Rattle.of_stream.specs.Sizes.{is_end, size_behind}
use Rattle.of_detok.specs.Listing.{Line, Lines, trailing, trailing_from, line_before, token_line, token_lines}
use Rattle.of_detok.specs.Listing.{lines_from, lines_behind, stopped, to_end}
use Rattle.of_detok.specs.Listing.{BoundCutsNothing, header_line, lines_if, lines_of}
use Rattle.of_detok.specs.Notes.{Notes, behind_token, first_notes}
use Rattle.of_detok.specs.Reading.{listed_bytes}
use Rattle.of_detok.specs.declared.notes.Extras.{Extras}
use Rattle.of_detok.proofs.Plain.{plain, plain_noted, plain_header}

-- these lines have these bytes, of which so many stand before the first
abbrev pub IsLaid : ℕ → List Line → List ℕ → Type 0
IsLaid before [] bytes = bytes ≡ []
IsLaid before (l ∷ lines) bytes =
    (rest : List ℕ) × (bytes ≡ l.bytes ++ rest) × (l.before ≡ before) × (0 < length l.bytes) ×
    (plain l.label ≡ true) × IsLaid (before + length l.bytes) lines rest

laid_trailing : (n p q : ℕ) (bytes : List ℕ) → n ≡ (length bytes + 15) / 16 → (0 < length bytes → q ≡ p)
    → IsLaid q (trailing n p bytes) bytes
laid_trailing zero p q bytes h at = nil_from_length bytes (omega (arith, h))
laid_trailing (suc n) p q bytes h at =
    let some : 0 < length bytes = omega (arith, h) in
    let same : q ≡ p = at some in
    let less : n ≡ (length (drop 16 bytes) + 15) / 16 = omega (arith, h, length-drop 16 bytes) in (
      drop 16 bytes,
      sym (take-append-drop 16 bytes),
      sym same,
      omega (arith, some, length-take 16 bytes),
      refl,
      laid_trailing n (p + 16) (q + length (take 16 bytes)) (drop 16 bytes) less
          (λ more. omega (arith, more, same, length-drop 16 bytes, length-take 16 bytes)),
    )

laid_end : (image : List ℕ) (p : ℕ) → p ≤ length image → IsLaid p (trailing_from image p) (drop p image)
laid_end image p h =
    laid_trailing ((length image - p + 15) / 16) p p (drop p image)
    (ap (λ n. (n + 15) / 16) (sym (length-drop p image))) (λ _. refl)

-- where a token ends
abbrev pub Rises : List ℕ → ℕ → ℕ → Type 0
Rises image p q = (p < q) × (q ≤ length image)

some_token : {A : Type 0} (a b : A) → Some a ≡ Some b → a ≡ b
some_token a b h = cc

rises_by : TokenStandsAlone → (image : List ℕ) (p : ℕ) (size : OffsetSize) (o : Option (Token × List ℕ)) (t : Token)
    (q : ℕ) → decoded size (drop p image) ≡ o
    → option_map {U = Token × ℕ} (λ r. (r.0, length image - length r.1)) o ≡ Some (t, q) → Rises image p q
rises_by law image p size None t q e h = absurd cc
rises_by law image p size (Some r) t q e h =
    let own = law size (drop p image) r.1 r.0 e in
    let at : length image - length r.1 ≡ q =
    ap (λ (x : Token × ℕ). x.1) (some_token (r.0, length image - length r.1) (t, q) h) in
    let whole : length (drop p image) ≡ length own.0 + length r.1 = ap length own.1 ∙ length-append own.0 r.1 in
    let some : 0 < length own.0 = own.2.some in
    (omega (arith, at, whole, some, length-drop p image), omega (arith, at))

pub rises : TokenStandsAlone → (image : List ℕ) (p : ℕ) (size : OffsetSize) (r : Token × ℕ)
    → token_from image p size ≡ Some r → Rises image p r.1
unfolding token_from
rises law image p size r h = rises_by law image p size (decoded size (drop p image)) r.0 r.1 refl h

-- ---- the bound on the number of tokens

past : TokenStandsAlone → (image : List ℕ) (n : ℕ) (notes : Notes) (p : ℕ) (size : OffsetSize) (o : Option (Token × ℕ))
    → token_from image p size ≡ o → length image ≤ p
    → token_lines image notes p size o (lines_from image n) ≡ stopped (Ended p)
past law image n notes p size None e l = refl
past law image n notes p size (Some r) e l =
    let up = rises law image p size r e in absurd (omega (arith, l, up.0, up.1))

-- two bounds that are large enough
abbrev Agree : List ℕ → ℕ → ℕ → Type 0
Agree image m n = (notes : Notes) (p : ℕ) (size : OffsetSize) → length image ≤ p + m → length image ≤ p + n
    → lines_from image m notes p size ≡ lines_from image n notes p size

step : TokenStandsAlone → (image : List ℕ) (m n : ℕ) (notes : Notes) (p : ℕ) (size : OffsetSize)
    (o : Option (Token × ℕ)) → Agree image m n → token_from image p size ≡ o
    → length image ≤ p + suc m → length image ≤ p + suc n
    → token_lines image notes p size o (lines_from image m) ≡ token_lines image notes p size o (lines_from image n)
step law image m n notes p size None agree e h k = refl
step law image m n notes p size (Some r) agree e h k =
    let up = rises law image p size r e in
    let same = agree (behind_token r.0 notes) r.1 (size_behind r.0.code.0 size) (omega (arith, h, up.0))
    (omega (arith, k, up.0)) in
    let line = token_line image notes p r in
    ap (λ x. line_before line (cond (is_end r.0.code.0) (to_end (trailing_from image r.1)) x)) same

agree_all : TokenStandsAlone → (image : List ℕ) (m n : ℕ) → Agree image m n
agree_all law image zero zero notes p size h k = refl
agree_all law image zero (suc n) notes p size h k =
    sym (past law image n notes p size (token_from image p size) refl (omega (arith, h)))
agree_all law image (suc m) zero notes p size h k =
    past law image m notes p size (token_from image p size) refl (omega (arith, k))
agree_all law image (suc m) (suc n) notes p size h k =
    step law image m n notes p size (token_from image p size) (agree_all law image m n) refl h k

-- a larger bound gives the same lines
pub cuts_nothing : TokenStandsAlone → BoundCutsNothing
cuts_nothing law e image n h =
    agree_all law image n (length image) (first_notes e) 8 (first_size image) (omega (arith, h)) (omega arith)

-- ---- one line behind another

-- where lines end: behind the image, or before the token that can't be read
abbrev EndsAt : List ℕ → ℕ → Option StreamFault → Type 0
EndsAt image n None = n ≡ length image
EndsAt image n (Some (Ended q)) = n ≡ q
EndsAt image n (Some _) = ⊥

-- lines have the bytes of an image from a position up to where they end
record Covers (image : List ℕ) (p : ℕ) (r : Lines) : Type 0 where
  count : ℕ
  laid : IsLaid p r.lines (take count (drop p image))
  within : p + count ≤ length image
  ends : EndsAt image (p + count) r.fault

-- one more line
covers_before : (image : List ℕ) (p q : ℕ) (l : Line) (r : Lines) → l.bytes ≡ take (q - p) (drop p image) → l.before ≡ p
    → plain l.label ≡ true → p < q → q ≤ length image → Covers image q r → Covers image p (line_before l r)
covers_before image p q l r b at label up fits c =
    let long : length l.bytes ≡ q - p =
    ap length b ∙ omega (arith, up, fits, length-take (q - p) (drop p image), length-drop p image) in
    let seam : p + length l.bytes ≡ q = omega (arith, up, long) in
    let behind : p + (q - p) ≡ q = omega (arith, up) in
    let on : drop (q - p) (drop p image) ≡ drop q image =
    drop-drop (q - p) p image ∙ ap (λ n. drop n image) behind in
    let split : take (q - p + c.count) (drop p image) ≡ l.bytes ++ take c.count (drop q image) =
    take-add (q - p) c.count (drop p image)
    ∙ ap (λ xs. take (q - p) (drop p image) ++ take c.count xs) on
    ∙ ap (λ xs. xs ++ take c.count (drop q image)) (sym b) in
    let end : p + (q - p + c.count) ≡ q + c.count = omega (arith, up) in
    let inside = c.within in
    let later : IsLaid (p + length l.bytes) r.lines (take c.count (drop q image)) = rw seam c.laid in
    record {
      count = q - p + c.count;
      laid = (take c.count (drop q image), split, at, omega (arith, up, long), label, later);
      within = omega (arith, end, inside);
      ends = rw end c.ends;
    }

-- what trails
covers_end : (image : List ℕ) (p : ℕ) → p ≤ length image → Covers image p (to_end (trailing_from image p))
covers_end image p h = record {
  count = length image - p;
  laid = rw (take_rest image p) (laid_end image p h);
  within = omega (arith, h);
  ends = omega (arith, h);
}

-- nothing more
covers_stopped : (image : List ℕ) (p : ℕ) → p ≤ length image → Covers image p (stopped (Ended p))
covers_stopped image p h = record { count = 0; laid = refl; within = omega (arith, h); ends = omega arith }

covers_rest : (t : Bool) (image : List ℕ) (q : ℕ) (next : Lines) → q ≤ length image → Covers image q next
    → Covers image q (cond t (to_end (trailing_from image q)) next)
covers_rest true image q next l c = covers_end image q l
covers_rest false image q next l c = c

covers_token : TokenStandsAlone → (image : List ℕ) (notes : Notes) (p : ℕ) (size : OffsetSize) (o : Option (Token × ℕ))
    (next : Notes → ℕ → OffsetSize → Lines) → token_from image p size ≡ o → p ≤ length image
    → ((n : Notes) (q : ℕ) (s : OffsetSize) → q ≤ length image → Covers image q (next n q s))
    → Covers image p (token_lines image notes p size o next)
covers_token law image notes p size None next e l c = covers_stopped image p l
covers_token law image notes p size (Some r) next e l c =
    let up = rises law image p size r e in
    covers_before image p r.1 (token_line image notes p r) _ refl refl (plain_noted notes p r.0) up.0 up.1
    (covers_rest (is_end r.0.code.0) image r.1 _ up.1
    (c (behind_token r.0 notes) r.1 (size_behind r.0.code.0 size) up.1))

covers_from : TokenStandsAlone → (image : List ℕ) (n : ℕ) (notes : Notes) (p : ℕ) (size : OffsetSize)
    → p ≤ length image → Covers image p (lines_from image n notes p size)
covers_from law image zero notes p size l = covers_stopped image p l
covers_from law image (suc n) notes p size l =
    covers_token law image notes p size (token_from image p size) (lines_from image n) refl l
    (λ m q s. covers_from law image n m q s)

-- ---- all lines

long_by : (t : Bool) (image : List ℕ) (f : Option StreamFault) → nat_lt (length image) 8 ≡ t
    → cond t (Some Short) f ≡ None → 8 ≤ length image
long_by true image f e h = absurd cc
long_by false image f e h = grind (arith, nat_tests, e)

-- all bytes from the first one on
from_first : (image : List ℕ) (r : Lines) (f : Option StreamFault) → r.fault ≡ f → Covers image 0 r
    → IsLaid 0 r.lines (listed_bytes image f)
from_first image r None e c =
    let whole : EndsAt image (0 + c.count) None = subst (EndsAt image (0 + c.count)) e c.ends in
    subst (IsLaid 0 r.lines) (take_all c.count image (omega (arith, whole))) c.laid
from_first image r (Some (Ended q)) e c =
    let some : EndsAt image (0 + c.count) (Some (Ended q)) = subst (EndsAt image (0 + c.count)) e c.ends in
    let same : c.count ≡ q = omega (arith, some) in
    subst (λ n. IsLaid 0 r.lines (take n image)) same c.laid
from_first image r (Some Short) e c = absurd (subst (EndsAt image (0 + c.count)) e c.ends)
from_first image r (Some Start0) e c = absurd (subst (EndsAt image (0 + c.count)) e c.ends)
from_first image r (Some (BadStart b)) e c = absurd (subst (EndsAt image (0 + c.count)) e c.ends)

-- the header is wrong for another reason than a token
unless : (t : Bool) (f g : Option StreamFault) (q : ℕ) → (f ≡ Some (Ended q) → ⊥) → (g ≡ Some (Ended q) → ⊥)
    → cond t f g ≡ Some (Ended q) → ⊥
unless true f g q first other h = first h
unless false f g q first other h = other h

no_token : (image : List ℕ) (q : ℕ) → header_fault image ≡ Some (Ended q) → ⊥
unfolding header_fault
no_token image q =
    let start = slice_index image 0 in
    unless (nat_lt (length image) 8) _ _ q (λ h. absurd cc)
    (unless (nat_eq start 0xf0) _ _ q (λ h. absurd cc)
    (unless (nat_eq start 0xf1) _ _ q (λ h. absurd cc)
    (unless (nat_eq start 0xf2) _ _ q (λ h. absurd cc)
    (unless (nat_eq start 0xf3) _ _ q (λ h. absurd cc)
    (unless (nat_eq start 0xfd) _ _ q (λ h. absurd cc) (λ h. absurd cc))))))

laid_if : TokenStandsAlone → (e : Extras) (image : List ℕ) (f : Option StreamFault) → header_fault image ≡ f
    → IsLaid 0 (lines_if e image f).lines (listed_bytes image (lines_if e image f).fault)
unfolding header_fault
laid_if law e image (Some (Ended q)) h = absurd (no_token image q h)
laid_if law e image (Some Short) h = refl
laid_if law e image (Some Start0) h = refl
laid_if law e image (Some (BadStart b)) h = refl
laid_if law e image None h =
    let long : 8 ≤ length image = long_by (nat_lt (length image) 8) image (start_fault (slice_index image 0)) refl h in
    from_first image (line_before (header_line image) (lines_behind e image)) _ refl
    (covers_before image 0 8 (header_line image) (lines_behind e image) refl refl (plain_header image) (omega arith)
    long (covers_from law image (length image) (first_notes e) 8 (first_size image) long))

-- the lines of an image have all bytes that a listing has
pub lines_laid : TokenStandsAlone → (e : Extras) (image : List ℕ)
    → IsLaid 0 (lines_of e image).lines (listed_bytes image (lines_of e image).fault)
unfolding lines_of
lines_laid law e image = laid_if law e image (header_fault image) refl
