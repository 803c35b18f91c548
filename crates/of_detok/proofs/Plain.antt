-- No label has a newline.
use Rattle.std.proofs.Common.{◌≡◌, ℕ, zero, suc, ◌/◌, ◌%◌, List, [], ◌∷◌, ◌++◌, map, codes, Option, Some, None, Bool}
use Rattle.std.proofs.lemmas.Bool.{and_parts}
use Rattle.std.proofs.Common.{true, false, cond, ◌&&◌, ◌*◌, nat_eq, length, replicate, slice_index, refl, arith}
use Rattle.std.proofs.lemmas.Bool.Decides.{nat_tests}
use Rattle.std.specs.Option.{option_map}
use Rattle.std.specs.Char.{digit_char}
use Rattle.of_fcodes.specs.Rows.{Row, rows, first_rows, second_rows, third_rows, fourth_rows, fifth_rows, sixth_rows}
use Rattle.of_fcodes.specs.Rows.{seventh_rows}
use Rattle.of_fcodes.specs.Lookup.{row_in, row_numbered, name_numbered}
use Rattle.of_stream.specs.Decoding.{Argument, Nothing, Literal, String, Code, Named, Offset, Token}
use Rattle.of_detok.specs.Digits.{digits, pairs, place}
use Rattle.of_stream.specs.Targets.{target}
use Rattle.of_detok.specs.Labels.{name_or, name, shown, quoted, wrapped, operands, token_label, start_name, said_sum}
use Rattle.of_detok.specs.Labels.{actual_sum}
use Rattle.of_detok.specs.Labels.{said_length, unless_said, header_label}
use Rattle.of_detok.specs.Notes.{Notes, indent, depth_at, name_of_token, nest_of, noted_label, said_name}
use Rattle.of_detok.specs.declared.notes.Nest.{Nest}

-- whether a text has no newline
abbrev pub plain : List ℕ → Bool
plain [] = true
plain (b ∷ text) = cond (nat_eq b 10) false (plain text)

plain_cons : (b : ℕ) (text : List ℕ) → nat_eq b 10 ≡ false → plain text ≡ true → plain (b ∷ text) ≡ true
plain_cons b text e h = rw e h

plain_first : (t : Bool) (b : ℕ) (text : List ℕ) → nat_eq b 10 ≡ t → plain (b ∷ text) ≡ true
    → (nat_eq b 10 ≡ false) × (plain text ≡ true)
plain_first true b text e h = let no : false ≡ true = rw e at h in absurd cc
plain_first false b text e h = let rest : plain text ≡ true = rw e at h in (e, rest)

-- of a text with a first byte
pub plain_parts : (b : ℕ) (text : List ℕ) → plain (b ∷ text) ≡ true → (nat_eq b 10 ≡ false) × (plain text ≡ true)
plain_parts b text h = plain_first (nat_eq b 10) b text refl h

-- of two texts
pub plain_append : (a b : List ℕ) → plain a ≡ true → plain b ≡ true → plain (a ++ b) ≡ true
plain_append [] b h k = k
plain_append (x ∷ a) b h k = let first = plain_parts x a h in plain_cons x (a ++ b) first.0 (plain_append a b first.1 k)

-- of a digit
pub digit_plain : (d : ℕ) → nat_eq (digit_char d) 10 ≡ false
digit_plain d = grind (arith, nat_tests)

pub plain_digits : (n k : ℕ) → plain (digits n k) ≡ true
unfolding digits
plain_digits zero k = refl
plain_digits (suc n) k = plain_append (digits n (k / 16)) (digit_char (k % 16) ∷ []) (plain_digits n (k / 16))
    (plain_cons (digit_char (k % 16)) [] (digit_plain (k % 16)) refl)

pub plain_pairs : (bytes : List ℕ) → plain (pairs bytes) ≡ true
unfolding pairs
plain_pairs [] = refl
plain_pairs (b ∷ bytes) =
    plain_cons (digit_char (b / 16)) (digit_char (b % 16) ∷ pairs bytes) (digit_plain (b / 16))
    (plain_cons (digit_char (b % 16)) (pairs bytes) (digit_plain (b % 16)) (plain_pairs bytes))

pub plain_place : (before : ℕ) → plain (place before) ≡ true
unfolding place
plain_place before = plain_append (digits 6 before) (codes ": ") (plain_digits 6 before) refl

shown_plain : (b : ℕ) → nat_eq (shown b) 10 ≡ false
shown_plain b = grind (arith, nat_tests)

plain_shown : (bytes : List ℕ) → plain (map shown bytes) ≡ true
plain_shown [] = refl
plain_shown (b ∷ bytes) = plain_cons (shown b) (map shown bytes) (shown_plain b) (plain_shown bytes)

plain_quoted : (bytes : List ℕ) → plain (quoted bytes) ≡ true
unfolding quoted
plain_quoted bytes = plain_append (codes "\"" ++ map shown bytes) (codes "\"")
    (plain_append (codes "\"") (map shown bytes) refl (plain_shown bytes)) refl

-- ---- names

abbrev plain_names : List Row → Bool
plain_names [] = true
plain_names (r ∷ rs) = plain r.name && plain_names rs

names_plain : plain_names rows ≡ true
unfolding rows first_rows second_rows third_rows fourth_rows fifth_rows sixth_rows seventh_rows
names_plain = refl

abbrev name_in : List Row → ℕ → Option (List ℕ)
name_in rs n = option_map (λ (r : Row). r.name) (row_in rs n)

plain_or : (o : Option (List ℕ)) (n : ℕ) → ((text : List ℕ) → o ≡ Some text → plain text ≡ true)
    → plain (name_or o n) ≡ true
plain_or (Some text) n h = h text refl
plain_or None n h = plain_append (codes "fcode-") (digits 3 n) refl (plain_digits 3 n)

named_by : (t : Bool) (r : Row) (rs : List Row) (n : ℕ) (text : List ℕ) → nat_eq r.number n ≡ t → plain r.name ≡ true
    → (name_in rs n ≡ Some text → plain text ≡ true) → name_in (r ∷ rs) n ≡ Some text → plain text ≡ true
named_by true r rs n text e p h found =
    let same : Some r.name ≡ Some text = rw e at found in
    let is : r.name ≡ text = cc in
    rw (← is) p
named_by false r rs n text e p h found = h (rw e at found)

named_plain : (rs : List Row) (n : ℕ) (text : List ℕ) → plain_names rs ≡ true → name_in rs n ≡ Some text
    → plain text ≡ true
named_plain [] n text h found = absurd cc
named_plain (r ∷ rs) n text h found =
    let parts = and_parts (plain r.name) (plain_names rs) h in
    named_by (nat_eq r.number n) r rs n text refl parts.0 (named_plain rs n text parts.1) found

plain_name : (n : ℕ) → plain (name n) ≡ true
unfolding name row_numbered
plain_name n = plain_or (name_numbered n) n (λ text found. named_plain rows n text names_plain found)

-- ---- labels

plain_operands : (position : ℕ) (a : Argument) → plain (operands position a) ≡ true
unfolding operands
plain_operands position Nothing = refl
plain_operands position (Literal x) = plain_append (codes " ") (digits 8 x.0) refl (plain_digits 8 x.0)
plain_operands position (String s) = plain_append (codes " ") (quoted s) refl (plain_quoted s)
plain_operands position (Code c) = plain_append (codes " ") (digits 3 c.0) refl (plain_digits 3 c.0)
plain_operands position (Named s c) =
    plain_append (codes " " ++ quoted s ++ codes " ") (digits 3 c.0)
    (plain_append (codes " " ++ quoted s) (codes " ") (plain_append (codes " ") (quoted s) refl (plain_quoted s)) refl)
    (plain_digits 3 c.0)
plain_operands position (Offset by) =
    plain_append (codes " -> ") (digits 6 (wrapped (target position by))) refl
    (plain_digits 6 (wrapped (target position by)))

plain_token : (position : ℕ) (t : Token) → plain (token_label position t) ≡ true
plain_token position t =
    plain_append (name t.code.0) (operands position t.argument) (plain_name t.code.0)
    (plain_operands position t.argument)

plain_spaces : (n : ℕ) → plain (replicate n 0x20) ≡ true
plain_spaces zero = refl
plain_spaces (suc n) = plain_spaces n

plain_indent : (t : Nest) (d : Option ℕ) → plain (indent t d) ≡ true
plain_indent t (Some d) = plain_spaces (2 * depth_at t d)
plain_indent t None = refl

plain_said : (o : Option (List ℕ)) → plain (said_name o) ≡ true
plain_said (Some name) = plain_append (codes " ") (map shown name) refl (plain_shown name)
plain_said None = refl

-- of a token
pub plain_noted : (n : Notes) (position : ℕ) (t : Token) → plain (noted_label n position t) ≡ true
plain_noted n position t =
    plain_append (indent (nest_of t) n.depth ++ token_label position t)
    (said_name (name_of_token t.code.0 t.argument n.names))
    (plain_append (indent (nest_of t) n.depth) (token_label position t) (plain_indent (nest_of t) n.depth)
    (plain_token position t))
    (plain_said (name_of_token t.code.0 t.argument n.names))

plain_if : (t : Bool) (a b : List ℕ) → plain a ≡ true → plain b ≡ true → plain (cond t a b) ≡ true
plain_if true a b h k = h
plain_if false a b h k = k

plain_start : (start : ℕ) → plain (start_name start) ≡ true
plain_start start =
    plain_if (nat_eq start 0xf1) _ _ refl
    (plain_if (nat_eq start 0xf2) _ _ refl (plain_if (nat_eq start 0xf3) _ _ refl refl))

plain_unless : (title : List ℕ) (count said actual : ℕ) → plain title ≡ true
    → plain (unless_said title count said actual) ≡ true
plain_unless title count said actual h =
    plain_if (nat_eq said actual) [] _ refl (plain_append (title ++ digits count actual) (codes ")")
    (plain_append title (digits count actual) h (plain_digits count actual)) refl)

-- of a header
pub plain_header : (image : List ℕ) → plain (header_label image) ≡ true
unfolding header_label
plain_header image =
    plain_append (start_name (slice_index image 0) ++ unless_said
    (codes " (sum ") 4 (said_sum image) (actual_sum image)) _
    (plain_append (start_name (slice_index image 0)) _ (plain_start (slice_index image 0))
    (plain_unless (codes " (sum ") 4 (said_sum image) (actual_sum image) refl))
    (plain_unless (codes " (bytes ") 8 (said_length image) (length image) refl)
