-- The words of a text, behind their blanks.
use Rattle.std.proofs.Common.{◌≡◌, ℕ, ◌+◌, ◌<◌, ◌≤◌, Bool, true, false, not, List, [], ◌∷◌, ◌++◌, length}
use Rattle.std.proofs.Common.{take, drop, take_while, Option, Some, None, nat_eq, refl, ap, ◌∙◌, arith}
use Rattle.std.proofs.Common.{if◌then◌else◌}
use Rattle.std.specs.List.{All}
use Rattle.std.proofs.Math.Seq.{take-append_seam, drop-append_seam}
use Rattle.std.proofs.lemmas.Bool.Decides.{nat_tests}
use Rattle.std.proofs.lemmas.List.Sums.{take_while-cons}
use Rattle.std.proofs.lemmas.List.Elements.{All-head, All-tail}
use Rattle.of_scan.specs.Scan.{Rest, rest_at, is_blank, at_word, word_length, word_at, next_word}
use Rattle.of_scan.specs.Words.{IsWord, AreBlanks, EndsWord}
use Rattle.of_scan.specs.Laws.{WordsAreRead}

-- ---- at the end

at_end : (at : ℕ) → rest_at at [] ≡ rest_at (at + 0) []
at_end at = let e : at ≡ at + 0 = omega arith in ap (λ n. rest_at n []) e

one_on : (at b : ℕ) (text : List ℕ) → (at + 1) + length text ≡ at + length (b ∷ text)
one_on at b text = omega arith

-- a word has bytes
no_bytes : (b : ℕ) (text : List ℕ) → is_blank b ≡ false → word_length (b ∷ text) ≡ 0 → ⊥
no_bytes b text e h =
    let l : length (take_while (λ c. not (is_blank c)) (b ∷ text)) ≡ 0 = h in
    absurd (omega (arith, rw (take_while-cons (λ c. not (is_blank c)) b text, e) at l))

left_if : (b : Bool) (at c : ℕ) (text : List ℕ) → is_blank c ≡ b
    → (word_length (at_word (at + 1) text).text ≡ 0 → at_word (at + 1) text ≡ rest_at ((at + 1) + length text) [])
    → word_length (if b then at_word (at + 1) text else rest_at at (c ∷ text)).text ≡ 0
    → (if b then at_word (at + 1) text else rest_at at (c ∷ text)) ≡ rest_at (at + length (c ∷ text)) []
left_if true at c text e k h = k h ∙ ap (λ n. rest_at n []) (one_on at c text)
left_if false at c text e k h = absurd (no_bytes c text e h)

-- where no word is left, nothing is
pub nothing_left : (at : ℕ) (text : List ℕ) → word_length (at_word at text).text ≡ 0
    → at_word at text ≡ rest_at (at + length text) []
nothing_left at [] h = at_end at
nothing_left at (b ∷ text) h = left_if (is_blank b) at b text refl (nothing_left (at + 1) text) h

-- ---- a word at which a text begins

-- a text that ends the word before it
abbrev Parts : List ℕ → Type 0
Parts [] = Unit {0}
Parts (b ∷ text) = is_blank b ≡ true

no_blank : (b : ℕ) → 0x20 < b → is_blank b ≡ false
no_blank b l = grind (arith, nat_tests)

blank_is : (b : ℕ) → b ≤ 0x20 → is_blank b ≡ true
blank_is b l = grind (arith, nat_tests)

ends_part : (text : List ℕ) → EndsWord text → Parts text
ends_part [] h = tt
ends_part (b ∷ text) h = blank_is b h

while_if : (b : Bool) (c : ℕ) (l m : List ℕ) → b ≡ false → l ≡ m → (if not b then c ∷ l else []) ≡ c ∷ m
while_if true c l m h e = absurd cc
while_if false c l m h e = ap (λ k. c ∷ k) e

word_taken : (word more : List ℕ) → All (λ b. 0x20 < b) word → Parts more
    → take_while (λ b. not (is_blank b)) (word ++ more) ≡ word
word_taken [] [] h p = refl
word_taken [] (b ∷ more) h p = rw p refl
word_taken (c ∷ word) more h p =
    take_while-cons (λ b. not (is_blank b)) c (word ++ more)
    ∙ while_if (is_blank c) c _ word (no_blank c (All-head (λ b. 0x20 < b) c word h))
    (word_taken word more (All-tail (λ b. 0x20 < b) c word h) p)

some_bytes : (n : ℕ) → 0 < n → nat_eq n 0 ≡ false
some_bytes n l = grind (arith, nat_tests)

-- what a text begins with, of this length, and what follows it
abbrev cut_at : ℕ → ℕ → List ℕ → Option (List ℕ × Rest)
cut_at n at text = Some (take n text, rest_at (at + n) (drop n text))

word_if : (at : ℕ) (text : List ℕ) (n m : ℕ) → n ≡ m → nat_eq m 0 ≡ false
    → (if nat_eq n 0 then None else cut_at n at text) ≡ cut_at m at text
word_if at text n m e z = rw (e, z) refl

word_there : (at : ℕ) (word more : List ℕ) → IsWord word → Parts more
    → word_at (rest_at at (word ++ more)) ≡ Some (word, rest_at (at + length word) more)
word_there at word more h p =
    word_if at (word ++ more) (word_length (word ++ more)) (length word) (ap length (word_taken word more h.1 p))
    (some_bytes (length word) h.0)
    ∙ rw (take-append_seam word more, drop-append_seam word more) refl

at_first : (at : ℕ) (word more : List ℕ) → IsWord word → at_word at (word ++ more) ≡ rest_at at (word ++ more)
at_first at [] more h = let l : 0 < 0 = h.0 in absurd (omega (arith, l))
at_first at (b ∷ word) more h =
    let e : is_blank b ≡ false = no_blank b (All-head (λ c. 0x20 < c) b word h.1) in
    rw e refl

-- ---- behind blanks

passed : (blanks : List ℕ) (at : ℕ) (text : List ℕ) → AreBlanks blanks
    → at_word at (blanks ++ text) ≡ at_word (at + length blanks) text
passed [] at text h = let e : at ≡ at + 0 = omega arith in ap (λ n. at_word n text) e
passed (b ∷ blanks) at text h =
    let e : is_blank b ≡ true = blank_is b (All-head (λ c. c ≤ 0x20) b blanks h) in
    rw e (passed blanks (at + 1) text (All-tail (λ c. c ≤ 0x20) b blanks h)
    ∙ ap (λ n. at_word n text) (one_on at b blanks))

there : (at : ℕ) (blanks word more : List ℕ) → AreBlanks blanks → IsWord word
    → at_word at (blanks ++ (word ++ more)) ≡ rest_at (at + length blanks) (word ++ more)
there at blanks word more b h = passed blanks at (word ++ more) b ∙ at_first (at + length blanks) word more h

none_behind : (blanks : List ℕ) (at : ℕ) → AreBlanks blanks → next_word (rest_at at blanks) ≡ None
none_behind [] at h = refl
none_behind (b ∷ blanks) at h =
    let e : is_blank b ≡ true = blank_is b (All-head (λ c. c ≤ 0x20) b blanks h) in
    rw e (none_behind blanks (at + 1) (All-tail (λ c. c ≤ 0x20) b blanks h))

pub words_are_read : WordsAreRead
words_are_read = record {
  word = λ at blanks word more b h p.
      ap word_at (there at blanks word more b h)
      ∙ word_there (at + length blanks) word more h (ends_part more p);
  start = λ at blanks word more b h. ap (λ (r : Rest). r.at) (there at blanks word more b h);
  none = λ at blanks b. none_behind blanks at b;
}
