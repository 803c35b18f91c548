-- Each word has a byte at least, so what is left of a text grows shorter.
use Rattle.std.proofs.Common.{◌≡◌, ◌+◌, ◌≤◌, ◌<◌, ℕ, zero, suc, Bool, true, false, List, [], ◌∷◌, length, drop, Option}
use Rattle.std.proofs.Common.{Some, None, Ok, Err, nat_eq, nat_lt, if◌then◌else◌, arith, refl}
use Rattle.std.proofs.lemmas.List.{length-drop}
use Rattle.std.proofs.lemmas.Bool.Decides.{nat_tests}
use Rattle.of_fcodes.specs.declared.codes.FCode.{FCode}
use Rattle.of_source.specs.declared.fault.SourceFault.{SourceFault}
use Rattle.of_source.specs.declared.keyword.Keyword.{Keyword}
use Rattle.of_source.specs.declared.keyword.Keyword.TheVariants as keyword
use Rattle.of_source.specs.declared.keyword.Quote.{Quote}
use Rattle.of_source.specs.declared.keyword.Quote.TheVariants as quote
use Rattle.of_scan.specs.declared.numbers.Number.{Number}
use Rattle.of_scan.specs.declared.numbers.Number.TheVariants.{Value, OutOfRange, NoNumber}
use Rattle.of_cells.specs.declared.cells.Cell.{Cell}
use Rattle.of_format.specs.Digits.{digit_value}
use Rattle.of_source.specs.Keywords.{keyword_named, ordinary_named}
use Rattle.of_source.specs.Names.{own_in}
use Rattle.of_source.specs.Nesting.{Nesting, in_definition, is_closed}
use Rattle.of_scan.specs.Numbers.{number_in}
use Rattle.of_source.specs.Radix.{base_of}
use Rattle.of_scan.specs.Scan.{Rest, rest_at, left_of, is_blank, at_word, word_length, next_word, Found, byte_before}
use Rattle.of_scan.specs.Scan.{up_to, behind_blank, byte_of, before_found, pairs, group, bytes_before, grouped}
use Rattle.of_scan.specs.Scan.{and_grouped, quoted, quoted_string, plain_string, line_end}
use Rattle.of_source.specs.Steps.{State, Step, Goes, Ends, Fails, opening, reading_on, at_next, with_next}
use Rattle.of_source.specs.Steps.{with_name}
use Rattle.of_source.specs.Steps.{name_found, with_string, number_or_bad, number_word_step}
use Rattle.of_source.specs.Steps.{comment_step, with_code, text_step, keyword_step, ordinary_step}
use Rattle.of_source.specs.Effects.{Effect, effect_of, making_of}
use Rattle.of_source.specs.Steps.{effect_step, may_stand, string_found}
use Rattle.of_source.specs.Steps.{listed_step, own_step, word_step, next_step, code_named}

-- ---- words and strings

-- a string that was found leaves at most n bytes
abbrev pub FoundWithin : ℕ → Found → Type 0
FoundWithin n None = Unit {0}
FoundWithin n (Some r) = length r.1 ≤ n

wider : (m n : ℕ) (f : Found) → m ≤ n → FoundWithin m f → FoundWithin n f
wider m n None l h = tt
wider m n (Some r) l h = omega (arith, l, h)

byte_before-within : (n b : ℕ) (f : Found) → FoundWithin n f → FoundWithin n (byte_before b f)
byte_before-within n b None h = tt
byte_before-within n b (Some r) h = h

found_if : (n : ℕ) (b : Bool) (f g : Found) → FoundWithin n f → FoundWithin n g → FoundWithin n (if b then f else g)
found_if n true f g h k = h
found_if n false f g h k = k

up_to-within : (end : ℕ) (text : List ℕ) → FoundWithin (length text) (up_to end text)
up_to-within end [] = tt
up_to-within end (b ∷ text) =
    let l : length text ≤ length (b ∷ text) = omega arith in
    found_if (length (b ∷ text)) (nat_eq b end) (Some ([], text)) _ l
    (found_if (length (b ∷ text)) (nat_eq b 10) None _ tt
    (byte_before-within (length (b ∷ text)) b (up_to end text) (wider (length text) _ (up_to end text) l
    (up_to-within end text))))

blank_if : (b : Bool) (c : ℕ) (text : List ℕ) → length (if b then c ∷ text else text) ≤ length (c ∷ text)
blank_if true c text = omega arith
blank_if false c text = omega arith

behind_blank-within : (text : List ℕ) → length (behind_blank text) ≤ length text
behind_blank-within [] = omega arith
behind_blank-within (b ∷ text) = blank_if (nat_eq b 10) b text

pub plain-within : (end : ℕ) (text : List ℕ) → FoundWithin (length text) (plain_string end text)
plain-within end text =
    wider (length (behind_blank text)) (length text) _ (behind_blank-within text) (up_to-within end (behind_blank text))

before_found-within : (n : ℕ) (b : Option ℕ) (f : Found) → FoundWithin n f → FoundWithin n (before_found b f)
before_found-within n None f h = tt
before_found-within n (Some b) f h = byte_before-within n b f h

pairs-within : (text : List ℕ) → FoundWithin (length text) (pairs text)
pairs-within [] = tt
pairs-within (a ∷ []) = found_if 1 (nat_eq a 41) (Some ([], [])) None (omega arith) tt
pairs-within (a ∷ b ∷ text) =
    let n = length (a ∷ b ∷ text) in
    let l : length (b ∷ text) ≤ n = omega arith in
    let m : length text ≤ n = omega arith in
    found_if n (nat_eq a 41) (Some ([], b ∷ text)) _ l
    (found_if n (nat_eq a 10) None _ tt
    (found_if n (is_blank a) (pairs (b ∷ text)) _ (wider (length (b ∷ text)) n (pairs (b ∷ text)) l
    (pairs-within (b ∷ text)))
    (before_found-within n (byte_of (digit_value 16 a) (digit_value 16 b)) (pairs text)
    (wider (length text) n (pairs text) m (pairs-within text)))))

group-within : (text : List ℕ) → FoundWithin (length text) (group text)
group-within [] = tt
group-within (b ∷ text) =
    let l : length text ≤ length (b ∷ text) = omega arith in
    found_if (length (b ∷ text)) (nat_eq b 40) (pairs text) None
    (wider (length text) _ (pairs text) l (pairs-within text)) tt

bytes_before-within : (n : ℕ) (bytes : List ℕ) (f : Found) → FoundWithin n f → FoundWithin n (bytes_before bytes f)
bytes_before-within n bytes None h = tt
bytes_before-within n bytes (Some r) h = h

grouped-within : (n : ℕ) (bytes text : List ℕ) (f : Found) (next : List ℕ → Found) → length text ≤ n
    → FoundWithin (length text) f
    → ((u : List ℕ) → FoundWithin (length u) (next u)) → FoundWithin n (grouped bytes text f next)
grouped-within n bytes text None next l h k = l
grouped-within n bytes text (Some g) next l h k =
    bytes_before-within n _ (next g.1) (wider (length g.1) n (next g.1) (omega (arith, l, h)) (k g.1))

and_grouped-within : (n : ℕ) (f : Found) (next : List ℕ → Found) → FoundWithin n f
    → ((u : List ℕ) → FoundWithin (length u) (next u)) → FoundWithin n (and_grouped f next)
and_grouped-within n None next h k = tt
and_grouped-within n (Some r) next h k = grouped-within n r.0 r.1 (group r.1) next h (group-within r.1) k

quoted-within : (n : ℕ) (text : List ℕ) → FoundWithin (length text) (quoted n text)
quoted-within zero text = tt
quoted-within (suc n) text =
    and_grouped-within (length text) (up_to 34 text) (quoted n) (up_to-within 34 text) (quoted-within n)

quoted_string-within : (text : List ℕ) → FoundWithin (length text) (quoted_string text)
quoted_string-within text =
    wider (length (behind_blank text)) (length text) _ (behind_blank-within text)
    (quoted-within (length text) (behind_blank text))

line_if : (b : Bool) (c : ℕ) (text rest : List ℕ) → length rest ≤ length text
    → length (if b then c ∷ text else rest) ≤ length (c ∷ text)
line_if true c text rest h = omega arith
line_if false c text rest h = omega (arith, h)

pub line_end-within : (text : List ℕ) → length (line_end text) ≤ length text
line_end-within [] = omega arith
line_end-within (b ∷ text) = line_if (nat_eq b 10) b text (line_end text) (line_end-within text)

-- a word that was read leaves less than n bytes
abbrev pub NextWithin : ℕ → Option (List ℕ × Rest) → Type 0
NextWithin n None = Unit {0}
NextWithin n (Some w) = length w.1.text < n

at_if : (b : Bool) (r : Rest) (at c : ℕ) (text : List ℕ) → length r.text ≤ length text
    → length (if b then r else rest_at at (c ∷ text)).text ≤ length (c ∷ text)
at_if true r at c text h = omega (arith, h)
at_if false r at c text h = omega arith

at_word-within : (at : ℕ) (text : List ℕ) → length (at_word at text).text ≤ length text
at_word-within at [] = omega arith
at_word-within at (b ∷ text) =
    at_if (is_blank b) (at_word (at + 1) text) at b text (at_word-within (at + 1) text)

word_if : (n k at : ℕ) (word text : List ℕ) (b : Bool) → nat_eq k 0 ≡ b → length text ≤ n
    → (b ≡ false → 0 < length text)
    → NextWithin n (if b then None else Some (word, rest_at at (drop k text)))
word_if n k at word text true e l h = tt
word_if n k at word text false e l h =
    let some = h refl in
    let byte : 0 < k = grind (arith, nat_tests) in
    let d = length-drop k text in
    omega (arith, l, some, byte, d)

some_byte : (text : List ℕ) → nat_eq (word_length text) 0 ≡ false → 0 < length text
some_byte [] h = absurd cc
some_byte (b ∷ text) h = omega arith

pub next_word-within : (r : Rest) → NextWithin (length r.text) (next_word r)
next_word-within r =
    let w = at_word r.at r.text in
    word_if (length r.text) (word_length w.text) (w.at + word_length w.text) _ w.text
    (nat_eq (word_length w.text) 0) refl (at_word-within r.at r.text) (some_byte w.text)

-- ---- steps

-- where the source goes on, at most n bytes are left
abbrev pub Within : ℕ → Step → Type 0
Within n (Goes t) = length t.rest.text ≤ n
Within n (Ends t) = Unit {0}
Within n (Fails f) = Unit {0}

within_next : (n : ℕ) (f : SourceFault) (o : Option (List ℕ × Rest)) (go : List ℕ → Rest → Step) → NextWithin n o
    → ((w : List ℕ) (r : Rest) → length r.text ≤ n → Within n (go w r)) → Within n (with_next f o go)
within_next n f None go h k = tt
within_next n f (Some w) go h k = k w.0 w.1 (omega (arith, h))

within_if : (n : ℕ) (b : Bool) (x y : Step) → Within n x → Within n y → Within n (if b then x else y)
within_if n true x y h k = h
within_if n false x y h k = k

short_name : (n : ℕ) (b : Bool) (f : SourceFault) (name : List ℕ) (s : State) (go : List ℕ → State → Step)
    → Within n (go name s) → Within n (with_name (if b then Err f else Ok (name, s)) go)
short_name n true f name s go k = tt
short_name n false f name s go k = k

within_name : (n last : ℕ) (s : State) (o : Option (List ℕ × Rest)) (go : List ℕ → State → Step) → NextWithin n o
    → ((name : List ℕ) (r : Rest) → length r.text ≤ n → Within n (go name (reading_on r s)))
    → Within n (with_name (name_found last s o) go)
within_name n last s None go h k = tt
within_name n last s (Some w) go h k =
    short_name n (nat_lt 31 (length w.0)) _ w.0 (reading_on w.1 s) go (k w.0 w.1 (omega (arith, h)))

within_string : (n : ℕ) (s : State) (o : Found) (go : List ℕ → State → Step) → FoundWithin n o
    → ((bytes : List ℕ) (r : Rest) → length r.text ≤ n → Within n (go bytes (reading_on r s)))
    → Within n (with_string s o go)
within_string n s None go h k = tt
within_string n s (Some r) go h k = within_if n (nat_lt 255 (length r.0)) _ _ tt (k r.0 (left_of s.rest r.1) h)

same : (s : State) → length s.rest.text ≤ length s.rest.text
same s = omega arith

within_effect : (e : Effect) (o : Option Nesting) (s : State) → Within (length s.rest.text) (effect_step e o s)
within_effect e None s = tt
within_effect e (Some n) s =
    within_if _ (may_stand e.stands s) _ _ (same s) tt

within_comment : (s : State) (o : Found) → FoundWithin (length s.rest.text) o
    → Within (length s.rest.text) (comment_step s o)
within_comment s None h = tt
within_comment s (Some r) h = h

within_bad : (n at : ℕ) (x : Number) (go : Cell → Step) → ((c : Cell) → Within n (go c))
    → Within n (number_or_bad at x go)
within_bad n at (Value c) go k = k c
within_bad n at OutOfRange go k = tt
within_bad n at NoNumber go k = tt

within_code : (n at : ℕ) (o : Option FCode) (go : FCode → Step) → ((c : FCode) → Within n (go c))
    → Within n (with_code at o go)
within_code n at None go k = tt
within_code n at (Some c) go k = k c

string-within : (q : Quote) (text : List ℕ) → FoundWithin (length text) (string_found q text)
string-within quote.Bytes text = quoted_string-within text
string-within quote.Plain text = plain-within 34 text
string-within quote.Printed text = plain-within 34 text

within_text : (q : Quote) (s : State) → Within (length s.rest.text) (text_step q s)
within_text q s = within_string _ s (string_found q s.rest.text) _ (string-within q s.rest.text) (λ bytes r l. l)

within_keyword : (last : ℕ) (k : Keyword) (s : State) → Within (length s.rest.text) (keyword_step last k s)
within_keyword last keyword.Finish s = within_if _ (is_closed s.nesting) (Ends s) _ tt tt
within_keyword last keyword.Comment s = within_comment s (plain_string 41 s.rest.text) (plain-within 41 s.rest.text)
within_keyword last keyword.LineComment s = line_end-within s.rest.text
within_keyword last (keyword.NumberIn base) s =
    within_next _ _ (next_word s.rest) _ (next_word-within s.rest)
    (λ w r l. within_bad _ s.at (number_in (base_of base) w) _ (λ c. l))
within_keyword last keyword.Character s =
    within_next _ _ (next_word s.rest) _ (next_word-within s.rest) (λ w r l. l)
within_keyword last (keyword.Text q) s = within_text q s
within_keyword last (keyword.Defining w) s =
    within_if _ (in_definition s.nesting.parts) _ _ tt
    (within_name _ last (opening ((making_of w).opens s.at s.nesting) s) (next_word s.rest) _
    (next_word-within s.rest) (λ name r l. l))
within_keyword last (keyword.Naming t) s =
    within_next _ _ (next_word s.rest) _ (next_word-within s.rest)
    (λ w r l. within_code _ _ (code_named s.setting.names w) _ (λ c. l))
within_keyword last (keyword.Lone w) s = within_effect (effect_of w) _ s

within_number : (s : State) (n : Number) → Within (length s.rest.text) (number_word_step s n)
within_number s (Value x) = same s
within_number s OutOfRange = tt
within_number s NoNumber = tt

within_ordinary : (word : List ℕ) (s : State) (o : Option FCode) → Within (length s.rest.text) (ordinary_step word s o)
within_ordinary word s (Some c) = same s
within_ordinary word s None = within_number s (number_in (base_of s.setting.radix) word)

within_listed : (last : ℕ) (word : List ℕ) (s : State) (o : Option Keyword)
    → Within (length s.rest.text) (listed_step last word s o)
within_listed last word s (Some k) = within_keyword last k s
within_listed last word s None = within_ordinary word s (ordinary_named word)

within_own : (last : ℕ) (word : List ℕ) (s : State) (o : Option ℕ)
    → Within (length s.rest.text) (own_step last word s o)
within_own last word s (Some k) = same s
within_own last word s None = within_listed last word s (keyword_named word)

within_word : (last : ℕ) (word : List ℕ) (s : State) → Within (length s.rest.text) (word_step last word s)
unfolding word_step
within_word last word s = within_own last word s (own_in s.setting.names word)

-- behind a word fewer bytes are left
abbrev pub Shrinks : ℕ → Step → Type 0
Shrinks n (Goes t) = length t.rest.text < n
Shrinks n (Ends t) = Unit {0}
Shrinks n (Fails f) = Unit {0}

narrower : (m n : ℕ) (x : Step) → m < n → Within m x → Shrinks n x
narrower m n (Goes t) l h = omega (arith, l, h)
narrower m n (Ends t) l h = tt
narrower m n (Fails f) l h = tt

shrinks_next : (n : ℕ) (f : SourceFault) (o : Option (List ℕ × Rest)) (go : List ℕ → Rest → Step) → NextWithin n o
    → ((w : List ℕ) (r : Rest) → Within (length r.text) (go w r)) → Shrinks n (with_next f o go)
shrinks_next n f None go h k = tt
shrinks_next n f (Some w) go h k = narrower (length w.1.text) n (go w.0 w.1) h (k w.0 w.1)

pub shrinks : (last : ℕ) (s : State) → Shrinks (length s.rest.text) (next_step last s)
shrinks last s =
    shrinks_next _ _ (next_word s.rest) _ (next_word-within s.rest) (λ w r. within_word last w (at_next r s))
