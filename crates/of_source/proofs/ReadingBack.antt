-- Words and strings that were written are read back.
use Rattle.std.proofs.Common.{◌≡◌, ◌≢◌, ℕ, zero, suc, ◌+◌, ◌-◌, ◌<◌, ◌≤◌, Bool, true, false, not, List, []}
use Rattle.std.proofs.Common.{◌∷◌, ◌++◌, length, take, drop, take_while, Option, Some, None, nat_eq, refl}
use Rattle.std.proofs.Common.{sym, ap, ◌∙◌, arith, append_assoc, if◌then◌else◌}
use Rattle.std.specs.List.{All}
use Rattle.std.proofs.Math.Seq.{take-append_seam, drop-append_seam}
use Rattle.std.proofs.lemmas.Bool.Decides.{nat_tests}
use Rattle.std.proofs.lemmas.List.{length-append}
use Rattle.std.proofs.lemmas.List.Sums.{take_while-cons}
use Rattle.std.proofs.lemmas.List.Elements.{All-head, All-tail}
use Rattle.of_format.specs.Digits.{digit_value}
use Rattle.of_scan.specs.Scan.{Rest, rest_at, left_of, is_blank, at_word, start_of, word_length, word_at, next_word}
use Rattle.of_scan.specs.Scan.{byte_before, up_to, behind_blank, byte_of, pairs, group, bytes_before, grouped}
use Rattle.of_scan.specs.Scan.{and_grouped, quoted, quoted_string, plain_string, line_end}
use Rattle.of_scan.specs.Strings.{Digits, Byte, Blank, Piece, digits_written, digits_bytes, pieces_written}
use Rattle.of_scan.specs.Strings.{pieces_bytes, IsWithin, AreDigits, ArePieces}
use Rattle.of_source.specs.Steps.{string_found}
use Rattle.of_source.specs.Phrases.{quote_if}
use Rattle.of_scan.specs.Words.{IsWord, AreBlanks, EndsWord, EndsLine}

-- a text that ends the word before it
abbrev pub Parts : List ℕ → Type 0
Parts [] = Unit {0}
Parts (b ∷ text) = is_blank b ≡ true

-- ---- words

no_blank : (b : ℕ) → 0x20 < b → is_blank b ≡ false
no_blank b l = grind (arith, nat_tests)

pub while_if : (b : Bool) (c : ℕ) (l m : List ℕ) → b ≡ false → l ≡ m → (if not b then c ∷ l else []) ≡ c ∷ m
while_if true c l m h e = absurd cc
while_if false c l m h e = ap (λ k. c ∷ k) e

word_taken : (word more : List ℕ) → All (λ b. 0x20 < b) word → Parts more
    → take_while (λ b. not (is_blank b)) (word ++ more) ≡ word
word_taken [] [] h p = refl
word_taken [] (b ∷ more) h p = rw p refl
word_taken (c ∷ word) more h p =
    take_while-cons (λ b. not (is_blank b)) c (word ++ more)
    ∙ while_if (is_blank c) c _ word (no_blank c (All-head (λ b. 0x20 < b) c word h))
    (word_taken word more (All-tail (λ b. 0x20 < b) c word h) p)

some_bytes : (n : ℕ) → 0 < n → nat_eq n 0 ≡ false
some_bytes n l = grind (arith, nat_tests)

-- what a text begins with, of this length, and what follows it
abbrev pub cut_at : ℕ → ℕ → List ℕ → Option (List ℕ × Rest)
cut_at n at text = Some (take n text, rest_at (at + n) (drop n text))

word_if : (at : ℕ) (text : List ℕ) (n m : ℕ) → n ≡ m → nat_eq m 0 ≡ false
    → (if nat_eq n 0 then None else cut_at n at text) ≡ cut_at m at text
word_if at text n m e z = rw (e, z) refl

pub word_there : (at : ℕ) (word more : List ℕ) → IsWord word → Parts more
    → word_at (rest_at at (word ++ more)) ≡ Some (word, rest_at (at + length word) more)
word_there at word more h p =
    word_if at (word ++ more) (word_length (word ++ more)) (length word) (ap length (word_taken word more h.1 p))
    (some_bytes (length word) h.0)
    ∙ rw (take-append_seam word more, drop-append_seam word more) refl

at_there : (at b : ℕ) (text : List ℕ) → 0x20 < b → at_word at (b ∷ text) ≡ rest_at at (b ∷ text)
at_there at b text l = let e : is_blank b ≡ false = no_blank b l in rw e refl

-- a text that begins with a word begins at it
at_first : (at : ℕ) (word more : List ℕ) → IsWord word → at_word at (word ++ more) ≡ rest_at at (word ++ more)
at_first at [] more h = let l : 0 < 0 = h.0 in absurd (omega (arith, l))
at_first at (b ∷ word) more h = at_there at b (word ++ more) (All-head (λ c. 0x20 < c) b word h.1)

-- a word at which a text begins
pub word_next : (at : ℕ) (word more : List ℕ) → IsWord word → Parts more
    → next_word (rest_at at (word ++ more)) ≡ Some (word, rest_at (at + length word) more)
word_next at word more h p = ap word_at (at_first at word more h) ∙ word_there at word more h p

pub blank_is : (b : ℕ) → b ≤ 0x20 → is_blank b ≡ true
blank_is b l = grind (arith, nat_tests)

pub one_on : (at : ℕ) (b : ℕ) (blanks : List ℕ) → (at + 1) + length blanks ≡ at + length (b ∷ blanks)
one_on at b blanks = omega arith

-- past blanks
blanks_passed : (blanks : List ℕ) (at : ℕ) (text : List ℕ) → AreBlanks blanks
    → at_word at (blanks ++ text) ≡ at_word (at + length blanks) text
blanks_passed [] at text h = let e : at ≡ at + 0 = omega arith in ap (λ n. at_word n text) e
blanks_passed (b ∷ blanks) at text h =
    let e : is_blank b ≡ true = blank_is b (All-head (λ c. c ≤ 0x20) b blanks h) in
    rw e (blanks_passed blanks (at + 1) text (All-tail (λ c. c ≤ 0x20) b blanks h)
    ∙ ap (λ n. at_word n text) (one_on at b blanks))

-- a word behind blanks
pub word_after : (blanks : List ℕ) (at : ℕ) (word more : List ℕ) → AreBlanks blanks → IsWord word → Parts more
    → next_word (rest_at at (blanks ++ (word ++ more)))
    ≡ Some (word, rest_at (at + length blanks + length word) more)
word_after blanks at word more b h p =
    ap word_at (blanks_passed blanks at (word ++ more) b) ∙ word_next (at + length blanks) word more h p

-- and where it begins
pub start_after : (blanks : List ℕ) (at : ℕ) (word more : List ℕ) → AreBlanks blanks → IsWord word
    → start_of (rest_at at (blanks ++ (word ++ more))) ≡ at + length blanks
start_after blanks at word more b h =
    ap (λ (r : Rest). r.at) (blanks_passed blanks at (word ++ more) b ∙ at_first (at + length blanks) word more h)

-- a word that another takes, behind blanks
pub word_behind : (blanks : List ℕ) (at : ℕ) (word more : List ℕ) → AreBlanks blanks → IsWord word → Parts more
    → next_word (rest_at at ((blanks ++ word) ++ more))
    ≡ Some (word, rest_at (at + length (blanks ++ word)) more)
word_behind blanks at word more b h p =
    let e : at + length blanks + length word ≡ at + length (blanks ++ word) =
    omega (arith, length-append blanks word) in
    ap (λ t. next_word (rest_at at t)) (append_assoc blanks word more) ∙ word_after blanks at word more b h p
    ∙ ap (λ n. Some (word, rest_at n more)) e

-- where it begins
pub start_behind : (blanks : List ℕ) (at : ℕ) (word more : List ℕ) → AreBlanks blanks → IsWord word
    → start_of (rest_at at ((blanks ++ word) ++ more)) ≡ at + length blanks
start_behind blanks at word more b h =
    ap (λ t. start_of (rest_at at t)) (append_assoc blanks word more) ∙ start_after blanks at word more b h

-- what is left behind these bytes
pub left_behind : (at : ℕ) (bytes more : List ℕ)
    → left_of (rest_at at (bytes ++ more)) more ≡ rest_at (at + length bytes) more
left_behind at bytes more =
    let e : at + (length (bytes ++ more) - length more) ≡ at + length bytes =
    omega (arith, length-append bytes more) in
    ap (λ n. rest_at n more) e

-- no word behind blanks alone
pub no_word_after : (blanks : List ℕ) (at : ℕ) → AreBlanks blanks → next_word (rest_at at blanks) ≡ None
no_word_after [] at h = refl
no_word_after (b ∷ blanks) at h =
    let e : is_blank b ≡ true = blank_is b (All-head (λ c. c ≤ 0x20) b blanks h) in
    rw e (no_word_after blanks (at + 1) (All-tail (λ c. c ≤ 0x20) b blanks h))

-- a text that ends the word before it, by its first byte
pub ends_part : (text : List ℕ) → EndsWord text → Parts text
ends_part [] h = tt
ends_part (b ∷ text) h = blank_is b h

-- ---- strings as they are

same_byte : (b : ℕ) → nat_eq b b ≡ true
same_byte b = grind (arith, nat_tests)

-- a byte that ends nothing
passed : (end b : ℕ) (text : List ℕ) → (b ≡ end → ⊥) → (b ≡ 10 → ⊥)
    → up_to end (b ∷ text) ≡ byte_before b (up_to end text)
passed end b text n m = grind (arith, nat_tests)

-- bytes up to the one that ends them
pub all_up_to : (end : ℕ) (bytes more : List ℕ) → IsWithin end bytes
    → up_to end (bytes ++ end ∷ more) ≡ Some (bytes, more)
all_up_to end [] more h = let e : nat_eq end end ≡ true = same_byte end in rw e refl
all_up_to end (b ∷ bytes) more h =
    let w = All-head (λ c. (c ≢ end) × (c ≢ 10)) b bytes h in
    passed end b (bytes ++ end ∷ more) w.0 w.1
    ∙ ap (byte_before b) (all_up_to end bytes more (All-tail (λ c. (c ≢ end) × (c ≢ 10)) b bytes h))

-- behind the blank between a word and its string
pub past_blank : (b : ℕ) (text : List ℕ) → b ≢ 10 → behind_blank (b ∷ text) ≡ text
past_blank b text h = let e : nat_eq b 10 ≡ false = other b h in rw e refl
  where
    other : (b : ℕ) → b ≢ 10 → nat_eq b 10 ≡ false
    other b h = grind (arith, nat_tests)

-- a string or comment behind a blank
pub plain_behind : (end b : ℕ) (bytes more : List ℕ) → b ≢ 10 → IsWithin end bytes
    → plain_string end (b ∷ (bytes ++ end ∷ []) ++ more) ≡ Some (bytes, more)
plain_behind end b bytes more s h =
    ap (up_to end) (past_blank b ((bytes ++ end ∷ []) ++ more) s ∙ append_assoc bytes (end ∷ []) more)
    ∙ all_up_to end bytes more h

-- the rest of a line
pub line_left : (bytes more : List ℕ) → All (λ b. b ≢ 10) bytes → EndsLine more → line_end (bytes ++ more) ≡ more
line_left [] [] h f = refl
line_left [] (b ∷ more) h f = let e : nat_eq b 10 ≡ true = ap (λ c. nat_eq c 10) f in rw e refl
line_left (b ∷ bytes) more h f =
    let e : nat_eq b 10 ≡ false = other b (All-head (λ c. c ≢ 10) b bytes h) in
    rw e (line_left bytes more (All-tail (λ c. c ≢ 10) b bytes h) f)
  where
    other : (b : ℕ) → b ≢ 10 → nat_eq b 10 ≡ false
    other b h = grind (arith, nat_tests)

-- ---- strings of pieces

digits_append : (ds : List Digits) (t more : List ℕ) → digits_written ds t ++ more ≡ digits_written ds (t ++ more)
digits_append [] t more = refl
digits_append (Byte b high low ∷ ds) t more = ap (λ l. high ∷ low ∷ l) (digits_append ds t more)
digits_append (Blank b ∷ ds) t more = ap (λ l. b ∷ l) (digits_append ds t more)

pub pieces_append : (ps : List Piece) (t more : List ℕ)
    → pieces_written ps t ++ more ≡ pieces_written ps (t ++ more)
pieces_append [] t more = refl
pieces_append (p ∷ ps) t more =
    append_assoc p.bytes (34 ∷ 40 ∷ digits_written p.group (41 ∷ pieces_written ps t)) more
    ∙ ap (λ l. p.bytes ++ 34 ∷ 40 ∷ l) (digits_append p.group (41 ∷ pieces_written ps t) more
    ∙ ap (λ l. digits_written p.group (41 ∷ l)) (pieces_append ps t more))

pair_passes : (c d b : ℕ) (text : List ℕ) → 0x20 < c → c ≢ 41
    → byte_of (digit_value 16 c) (digit_value 16 d) ≡ Some b → pairs (c ∷ d ∷ text) ≡ byte_before b (pairs text)
pair_passes c d b text l n e =
    let x : nat_eq c 41 ≡ false = grind (arith, nat_tests) in
    let y : nat_eq c 10 ≡ false = grind (arith, nat_tests) in
    let z : is_blank c ≡ false = grind (arith, nat_tests) in
    rw (x, y, z, e) refl

blank_passes : (b : ℕ) (text : List ℕ) → b ≤ 0x20 → b ≢ 10 → 0 < length text → pairs (b ∷ text) ≡ pairs text
blank_passes b [] l n s = absurd (omega (arith, s))
blank_passes b (c ∷ text) l n s =
    let x : nat_eq b 41 ≡ false = grind (arith, nat_tests) in
    let y : nat_eq b 10 ≡ false = grind (arith, nat_tests) in
    let z : is_blank b ≡ true = grind (arith, nat_tests) in
    rw (x, y, z) refl

group_ends : (more : List ℕ) → pairs (41 ∷ more) ≡ Some ([], more)
group_ends [] = refl
group_ends (b ∷ more) = refl

some_left : (ds : List Digits) (more : List ℕ) → 0 < length (digits_written ds (41 ∷ more))
some_left [] more = omega arith
some_left (Byte b high low ∷ ds) more = omega arith
some_left (Blank b ∷ ds) more = omega arith

-- the digits of a group
digits_back : (ds : List Digits) (more : List ℕ) → AreDigits ds
    → pairs (digits_written ds (41 ∷ more)) ≡ Some (digits_bytes ds, more)
digits_back [] more h = group_ends more
digits_back (Byte b high low ∷ ds) more h =
    pair_passes high low b (digits_written ds (41 ∷ more)) h.0 h.1 h.2
    ∙ ap (byte_before b) (digits_back ds more h.3)
digits_back (Blank b ∷ ds) more h =
    blank_passes b (digits_written ds (41 ∷ more)) h.0 h.1 (some_left ds more) ∙ digits_back ds more h.2

-- as many groups as there are have as many bytes at least
pub few_pieces : (ps : List Piece) (more : List ℕ) → length ps ≤ length (pieces_written ps more)
few_pieces [] more = omega arith
few_pieces (p ∷ ps) more =
    let rest = 34 ∷ 40 ∷ digits_written p.group (41 ∷ pieces_written ps more) in
    omega (arith, few_pieces ps more, few_digits p.group (41 ∷ pieces_written ps more), length-append p.bytes rest)
  where
    few_digits : (ds : List Digits) (more : List ℕ) → length more ≤ length (digits_written ds more)
    few_digits [] more = omega arith
    few_digits (Byte b high low ∷ ds) more = omega (arith, few_digits ds more)
    few_digits (Blank b ∷ ds) more = omega (arith, few_digits ds more)

pieces_back : (ps : List Piece) (bytes more : List ℕ) (n : ℕ) → ArePieces ps → IsWithin 34 bytes
    → group more ≡ None → length ps < n
    → quoted n (pieces_written ps (bytes ++ 34 ∷ more)) ≡ Some (pieces_bytes ps ++ bytes, more)
pieces_back ps bytes more zero h w g l = absurd (omega (arith, l))
pieces_back [] bytes more (suc n) h w g l =
    ap (λ f. and_grouped f (quoted n)) (all_up_to 34 bytes more w) ∙ ap (λ f. grouped bytes more f (quoted n)) g
pieces_back (p ∷ ps) bytes more (suc n) h w g l =
    let next = pieces_written ps (bytes ++ 34 ∷ more) in
    ap (λ f. and_grouped f (quoted n)) (all_up_to 34 p.bytes (40 ∷ digits_written p.group (41 ∷ next)) h.0)
    ∙ ap (λ f. grouped p.bytes (40 ∷ digits_written p.group (41 ∷ next)) f (quoted n)) (digits_back p.group next h.1)
    ∙ ap (bytes_before (p.bytes ++ digits_bytes p.group))
    (pieces_back ps bytes more n h.2 w g (omega (arith, l)))
    ∙ ap (λ l. Some (l, more)) (sym (append_assoc (p.bytes ++ digits_bytes p.group) (pieces_bytes ps) bytes))

-- a string behind `"` that no group follows
pub quoted_behind : (b : ℕ) (ps : List Piece) (bytes more : List ℕ) → b ≢ 10 → ArePieces ps → IsWithin 34 bytes
    → group more ≡ None
    → quoted_string (b ∷ pieces_written ps (bytes ++ 34 ∷ []) ++ more) ≡ Some (pieces_bytes ps ++ bytes, more)
quoted_behind b ps bytes more s h w g =
    let text = pieces_written ps (bytes ++ 34 ∷ []) ++ more in
    let e : text ≡ pieces_written ps (bytes ++ 34 ∷ more) =
    pieces_append ps (bytes ++ 34 ∷ []) more
    ∙ ap (pieces_written ps) (append_assoc bytes (34 ∷ []) more) in
    let n = length (b ∷ text) in
    let l : length ps < n = omega (arith, few_pieces ps (bytes ++ 34 ∷ more), ap length e) in
    ap (quoted n) (past_blank b text s ∙ e) ∙ pieces_back ps bytes more n h w g l

-- `s"` and `."` take the same string
pub plain_there : (prints : Bool) (text : List ℕ) → string_found (quote_if prints) text ≡ plain_string 34 text
plain_there true text = refl
plain_there false text = refl
