-- What was read of a text stands there as it would be written.
use Rattle.std.proofs.Common.{◌≡◌, ◌≢◌, ℕ, zero, suc, ◌+◌, ◌<◌, ◌≤◌, Bool, true, false, List, [], ◌∷◌, ◌++◌, length}
use Rattle.std.proofs.Common.{Option, Some, None, nat_eq, refl, sym, ap, subst, ◌∙◌, arith, append_assoc}
use Rattle.std.proofs.Common.{if◌then◌else◌}
use Rattle.std.specs.List.{All}
use Rattle.std.proofs.lemmas.Bool.Decides.{nat_tests}
use Rattle.std.proofs.lemmas.List.Elements.{All-nil, All-cons}
use Rattle.of_format.specs.Digits.{digit_value}
use Rattle.of_scan.specs.Scan.{Rest, rest_at, left_of, is_blank, at_word, word_at, Found, byte_before, up_to, byte_of}
use Rattle.of_scan.specs.Scan.{before_found, pairs, group, bytes_before, grouped, and_grouped, quoted, quoted_string}
use Rattle.of_scan.specs.Scan.{plain_string, line_end}
use Rattle.of_scan.specs.Strings.{Digits, Byte, Blank, Piece, digits_written, digits_bytes, pieces_written}
use Rattle.of_scan.specs.Strings.{pieces_bytes, IsWithin, AreDigits, ArePieces}
use Rattle.of_scan.specs.Words.{IsWord, AreBlanks, EndsWord, EndsLine}
use Rattle.of_source.proofs.ReadingBack.{ends_part, word_there, one_on, left_behind, pieces_append}

-- ---- bytes

same_number : (a b : ℕ) → nat_eq a b ≡ true → a ≡ b
same_number a b h = grind (arith, nat_tests)

differs : (a b : ℕ) → nat_eq a b ≡ false → a ≢ b
differs a b h = grind (arith, nat_tests)

small : (b : ℕ) → is_blank b ≡ true → b ≤ 0x20
small b h = grind (arith, nat_tests)

large : (b : ℕ) → is_blank b ≡ false → 0x20 < b
large b h = grind (arith, nat_tests)

-- ---- strings up to a byte

abbrev FoundUpTo : ℕ → List ℕ → Found → Type 0
FoundUpTo end text None = Unit {0}
FoundUpTo end text (Some r) = (text ≡ r.0 ++ end ∷ r.1) × IsWithin end r.0

up_byte : (end b : ℕ) (text : List ℕ) (x y : Bool) (f : Found) → nat_eq b end ≡ x → nat_eq b 10 ≡ y
    → FoundUpTo end text f
    → FoundUpTo end (b ∷ text) (if x then Some ([], text) else if y then None else byte_before b f)
up_byte end b text true y f e d h =
    (ap (λ c. c ∷ text) (same_number b end e), All-nil (λ c. (c ≢ end) × (c ≢ 10)))
up_byte end b text false true f e d h = tt
up_byte end b text false false None e d h = tt
up_byte end b text false false (Some r) e d h = (
  ap (λ t. b ∷ t) h.0,
  All-cons (λ c. (c ≢ end) × (c ≢ 10)) b r.0 (differs b end e, differs b 10 d) h.1,
)

up_to_found : (end : ℕ) (text : List ℕ) → FoundUpTo end text (up_to end text)
up_to_found end [] = tt
up_to_found end (b ∷ text) =
    up_byte end b text (nat_eq b end) (nat_eq b 10) (up_to end text) refl refl (up_to_found end text)

-- a string or comment with the blank before it
abbrev pub FoundPlain : ℕ → List ℕ → Found → Type 0
FoundPlain end text None = Unit {0}
FoundPlain end text (Some r) =
    (b : ℕ) × (text ≡ (b ∷ r.0 ++ end ∷ []) ++ r.1) × (b ≢ 10) × IsWithin end r.0

plain_if : (end b : ℕ) (text : List ℕ) (f : Found) → b ≢ 10 → FoundUpTo end text f → FoundPlain end (b ∷ text) f
plain_if end b text None n h = tt
plain_if end b text (Some r) n h =
    (b, ap (λ t. b ∷ t) (h.0 ∙ sym (append_assoc r.0 (end ∷ []) r.1)), n, h.1)

plain_byte : (end b : ℕ) (text : List ℕ) (x : Bool) → nat_eq b 10 ≡ x → nat_eq 10 end ≡ false
    → FoundPlain end (b ∷ text) (up_to end (if x then b ∷ text else text))
plain_byte end b text true e n =
    let m : nat_eq b end ≡ false = ap (λ c. nat_eq c end) (same_number b 10 e) ∙ n in
    rw (m, e) tt
plain_byte end b text false e n = plain_if end b text (up_to end text) (differs b 10 e) (up_to_found end text)

pub plain_found : (end : ℕ) (text : List ℕ) → nat_eq 10 end ≡ false → FoundPlain end text (plain_string end text)
plain_found end [] n = tt
plain_found end (b ∷ text) n = plain_byte end b text (nat_eq b 10) refl n

-- ---- groups of digits

abbrev FoundPairs : List ℕ → Found → Type 0
FoundPairs text None = Unit {0}
FoundPairs text (Some r) =
    (ds : List Digits) × (text ≡ digits_written ds (41 ∷ r.1)) × (r.0 ≡ digits_bytes ds) × AreDigits ds

last_byte : (a : ℕ) (x : Bool) → nat_eq a 41 ≡ x → FoundPairs (a ∷ []) (if x then Some ([], []) else None)
last_byte a true e = ([], ap (λ c. c ∷ []) (same_number a 41 e), refl, tt)
last_byte a false e = tt

pair_if : (a b : ℕ) (text : List ℕ) (x y z : Bool) (o : Option ℕ) (f g : Found) → nat_eq a 41 ≡ x → nat_eq a 10 ≡ y
    → is_blank a ≡ z → byte_of (digit_value 16 a) (digit_value 16 b) ≡ o → FoundPairs (b ∷ text) f
    → FoundPairs text g
    → FoundPairs (a ∷ b ∷ text)
    (if x then Some ([], b ∷ text) else if y then None else if z then f else before_found o g)
pair_if a b text true y z o f g e d c v h k = ([], ap (λ n. n ∷ b ∷ text) (same_number a 41 e), refl, tt)
pair_if a b text false true z o f g e d c v h k = tt
pair_if a b text false false true o None g e d c v h k = tt
pair_if a b text false false true o (Some r) g e d c v h k =
    (Blank a ∷ h.0, ap (λ t. a ∷ t) h.1, h.2, (small a c, differs a 10 d, h.3))
pair_if a b text false false false None f g e d c v h k = tt
pair_if a b text false false false (Some n) f None e d c v h k = tt
pair_if a b text false false false (Some n) f (Some r) e d c v h k =
    (Byte n a b ∷ k.0, ap (λ t. a ∷ b ∷ t) k.1, ap (λ l. n ∷ l) k.2, (large a c, differs a 41 e, v, k.3))

pairs_found : (text : List ℕ) → FoundPairs text (pairs text)
pairs_found [] = tt
pairs_found (a ∷ []) = last_byte a (nat_eq a 41) refl
pairs_found (a ∷ b ∷ text) =
    pair_if a b text (nat_eq a 41) (nat_eq a 10) (is_blank a) (byte_of (digit_value 16 a) (digit_value 16 b))
    (pairs (b ∷ text)) (pairs text) refl refl refl refl (pairs_found (b ∷ text)) (pairs_found text)

abbrev FoundGroup : List ℕ → Found → Type 0
FoundGroup text None = Unit {0}
FoundGroup text (Some r) =
    (ds : List Digits) × (text ≡ 40 ∷ digits_written ds (41 ∷ r.1)) × (r.0 ≡ digits_bytes ds) × AreDigits ds

group_if : (b : ℕ) (text : List ℕ) (x : Bool) (f : Found) → nat_eq b 40 ≡ x → FoundPairs text f
    → FoundGroup (b ∷ text) (if x then f else None)
group_if b text true None e h = tt
group_if b text true (Some r) e h = (h.0, ap (λ c. c ∷ text) (same_number b 40 e) ∙ ap (λ t. 40 ∷ t) h.1, h.2, h.3)
group_if b text false f e h = tt

group_found : (text : List ℕ) → FoundGroup text (group text)
group_found [] = tt
group_found (b ∷ text) = group_if b text (nat_eq b 40) (pairs text) refl (pairs_found text)

-- ---- strings of pieces

abbrev FoundPieces : List ℕ → Found → Type 0
FoundPieces text None = Unit {0}
FoundPieces text (Some r) = (ps : List Piece) × (bytes : List ℕ) × (text ≡ pieces_written ps (bytes ++ 34 ∷ r.1))
    × (r.0 ≡ pieces_bytes ps ++ bytes) × ArePieces ps × IsWithin 34 bytes × (group r.1 ≡ None)

piece_before : (text bytes rest : List ℕ) (g : List ℕ × List ℕ) (f : Found) → text ≡ bytes ++ 34 ∷ rest
    → IsWithin 34 bytes → FoundGroup rest (Some g) → FoundPieces g.1 f
    → FoundPieces text (bytes_before (bytes ++ g.0) f)
piece_before text bytes rest g None e w d h = tt
piece_before text bytes rest g (Some r) e w d h = (
  record { bytes = bytes; group = d.0 } ∷ h.0,
  h.1,
  e ∙ ap (λ t. bytes ++ 34 ∷ t) (d.1 ∙ ap (λ t. 40 ∷ digits_written d.0 (41 ∷ t)) h.2),
  ap (λ t. (bytes ++ t) ++ r.0) d.2 ∙ ap (λ t. (bytes ++ digits_bytes d.0) ++ t) h.3
      ∙ sym (append_assoc (bytes ++ digits_bytes d.0) (pieces_bytes h.0) h.1),
  (w, d.3, h.4),
  h.5,
  h.6,
)

pieces_if : (text bytes rest : List ℕ) (o : Found) (next : List ℕ → Found) → group rest ≡ o → FoundGroup rest o
    → text ≡ bytes ++ 34 ∷ rest → IsWithin 34 bytes → ((u : List ℕ) → FoundPieces u (next u))
    → FoundPieces text (grouped bytes rest o next)
pieces_if text bytes rest None next g d e w k = ([], bytes, e, refl, tt, w, g)
pieces_if text bytes rest (Some r) next g d e w k = piece_before text bytes rest r (next r.1) e w d (k r.1)

pieces_and : (text : List ℕ) (f : Found) (next : List ℕ → Found) → FoundUpTo 34 text f
    → ((u : List ℕ) → FoundPieces u (next u)) → FoundPieces text (and_grouped f next)
pieces_and text None next h k = tt
pieces_and text (Some r) next h k = pieces_if text r.0 r.1 (group r.1) next refl (group_found r.1) h.0 h.1 k

pieces_found : (n : ℕ) (text : List ℕ) → FoundPieces text (quoted n text)
pieces_found zero text = tt
pieces_found (suc n) text = pieces_and text (up_to 34 text) (quoted n) (up_to_found 34 text) (pieces_found n)

-- a string behind `"` with the blank before it
abbrev pub FoundQuoted : List ℕ → Found → Type 0
FoundQuoted text None = Unit {0}
FoundQuoted text (Some r) = (b : ℕ) × (ps : List Piece) × (bytes : List ℕ)
    × (text ≡ (b ∷ pieces_written ps (bytes ++ 34 ∷ [])) ++ r.1) × (r.0 ≡ pieces_bytes ps ++ bytes) × (b ≢ 10)
    × ArePieces ps × IsWithin 34 bytes × (group r.1 ≡ None)

quoted_if : (b : ℕ) (text : List ℕ) (f : Found) → b ≢ 10 → FoundPieces text f → FoundQuoted (b ∷ text) f
quoted_if b text None n h = tt
quoted_if b text (Some r) n h =
    let e : pieces_written h.0 (h.1 ++ 34 ∷ r.1) ≡ pieces_written h.0 (h.1 ++ 34 ∷ []) ++ r.1 =
    sym (pieces_append h.0 (h.1 ++ 34 ∷ []) r.1 ∙ ap (pieces_written h.0) (append_assoc h.1 (34 ∷ []) r.1)) in
    (b, h.0, h.1, ap (λ t. b ∷ t) (h.2 ∙ e), h.3, n, h.4, h.5, h.6)

quoted_byte : (b n : ℕ) (text : List ℕ) (x : Bool) → nat_eq b 10 ≡ x
    → FoundQuoted (b ∷ text) (quoted (suc n) (if x then b ∷ text else text))
quoted_byte b n text true e =
    let m : nat_eq b 34 ≡ false = ap (λ c. nat_eq c 34) (same_number b 10 e) in
    rw (m, e) tt
quoted_byte b n text false e =
    quoted_if b text (quoted (suc n) text) (differs b 10 e) (pieces_found (suc n) text)

pub quoted_found : (text : List ℕ) → FoundQuoted text (quoted_string text)
quoted_found [] = tt
quoted_found (b ∷ text) = quoted_byte b (length text) text (nat_eq b 10) refl

-- ---- the rest of a line

abbrev pub FoundLine : List ℕ → List ℕ → Type 0
FoundLine text rest = (bytes : List ℕ) × (text ≡ bytes ++ rest) × All (λ b. b ≢ 10) bytes × EndsLine rest

line_if : (b : ℕ) (text rest : List ℕ) (x : Bool) → nat_eq b 10 ≡ x → FoundLine text rest
    → FoundLine (b ∷ text) (if x then b ∷ text else rest)
line_if b text rest true e h = ([], refl, All-nil (λ c. c ≢ 10), same_number b 10 e)
line_if b text rest false e h =
    (b ∷ h.0, ap (λ t. b ∷ t) h.1, All-cons (λ c. c ≢ 10) b h.0 (differs b 10 e) h.2, h.3)

pub line_found : (text : List ℕ) → FoundLine text (line_end text)
line_found [] = ([], refl, All-nil (λ c. c ≢ 10), tt)
line_found (b ∷ text) = line_if b text (line_end text) (nat_eq b 10) refl (line_found text)

-- ---- words

-- a text as the bytes before its first blank, and what follows them
record Split (all : List ℕ) : Type 0 where
  word : List ℕ
  rest : List ℕ
  text : all ≡ word ++ rest
  visible : All (λ b. 0x20 < b) word
  ends : EndsWord rest

split_if : (b : ℕ) (text : List ℕ) (x : Bool) → is_blank b ≡ x → Split text → Split (b ∷ text)
split_if b text true e s =
    record { word = []; rest = b ∷ text; text = refl; visible = All-nil (λ c. 0x20 < c); ends = small b e }
split_if b text false e s = record {
  word = b ∷ s.word;
  rest = s.rest;
  text = ap (λ t. b ∷ t) s.text;
  visible = All-cons (λ c. 0x20 < c) b s.word (large b e) s.visible;
  ends = s.ends;
}

split : (text : List ℕ) → Split text
split [] = record { word = []; rest = []; text = refl; visible = All-nil (λ c. 0x20 < c); ends = tt }
split (b ∷ text) = split_if b text (is_blank b) refl (split text)

-- the next word of a text behind blanks, where it begins and where what follows it does
abbrev pub FoundWord : ℕ → List ℕ → ℕ → Option (List ℕ × Rest) → Type 0
FoundWord at text start None = AreBlanks text
FoundWord at text start (Some w) = (blanks : List ℕ) × (text ≡ blanks ++ (w.0 ++ w.1.text)) × AreBlanks blanks
    × IsWord w.0 × EndsWord w.1.text × (start ≡ at + length blanks) × (w.1.at ≡ at + length blanks + length w.0)

blank_before : (b at : ℕ) (text : List ℕ) (start : ℕ) (o : Option (List ℕ × Rest)) → b ≤ 0x20
    → FoundWord (at + 1) text start o → FoundWord at (b ∷ text) start o
blank_before b at text start None l h = All-cons (λ c. c ≤ 0x20) b text l h
blank_before b at text start (Some w) l h = (
  b ∷ h.0,
  ap (λ t. b ∷ t) h.1,
  All-cons (λ c. c ≤ 0x20) b h.0 l h.2,
  h.3,
  h.4,
  h.5 ∙ one_on at b h.0,
  h.6 ∙ ap (λ n. n + length w.0) (one_on at b h.0),
)

stay : (at : ℕ) → at ≡ at + 0
stay at = omega arith

word_here : (b at : ℕ) (text : List ℕ) → 0x20 < b → Split text
    → FoundWord at (b ∷ text) at (word_at (rest_at at (b ∷ text)))
word_here b at text l s =
    let w = b ∷ s.word in
    let v : IsWord w = (omega arith, All-cons (λ c. 0x20 < c) b s.word l s.visible) in
    let t : b ∷ text ≡ w ++ s.rest = ap (λ u. b ∷ u) s.text in
    let e : word_at (rest_at at (b ∷ text)) ≡ Some (w, rest_at (at + length w) s.rest) =
    ap (λ u. word_at (rest_at at u)) t ∙ word_there at w s.rest v (ends_part s.rest s.ends) in
    let found : FoundWord at (b ∷ text) at (Some (w, rest_at (at + length w) s.rest)) =
    ([], t, All-nil (λ c. c ≤ 0x20), v, s.ends, stay at, ap (λ n. n + length w) (stay at)) in
    subst (FoundWord at (b ∷ text) at) (sym e) found

next_if : (b at : ℕ) (text : List ℕ) (x : Bool) → is_blank b ≡ x
    → FoundWord (at + 1) text (at_word (at + 1) text).at (word_at (at_word (at + 1) text))
    → FoundWord at (b ∷ text) (if x then at_word (at + 1) text else rest_at at (b ∷ text)).at
    (word_at (if x then at_word (at + 1) text else rest_at at (b ∷ text)))
next_if b at text true e h =
    blank_before b at text (at_word (at + 1) text).at (word_at (at_word (at + 1) text)) (small b e) h
next_if b at text false e h = word_here b at text (large b e) (split text)

pub next_found : (at : ℕ) (text : List ℕ) → FoundWord at text (at_word at text).at (word_at (at_word at text))
next_found at [] = All-nil (λ c. c ≤ 0x20)
next_found at (b ∷ text) = next_if b at text (is_blank b) refl (next_found (at + 1) text)

-- ---- places

-- where what is left behind these bytes begins
pub left_place : (r : Rest) (bytes more : List ℕ) → r.text ≡ bytes ++ more
    → (left_of r more).at ≡ r.at + length bytes
left_place r bytes more e =
    ap (λ t. (left_of (rest_at r.at t) more).at) e ∙ ap (λ (q : Rest). q.at) (left_behind r.at bytes more)
