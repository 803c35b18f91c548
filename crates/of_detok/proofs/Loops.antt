-- A step of each loop, over variables.
use Rattle.std.proofs.Common.{◌≡◌, ℕ, suc, ◌+◌, ◌-◌, ◌*◌, ◌/◌, ◌%◌, ◌<◌, ◌≤◌, List, [], ◌∷◌, ◌++◌, length}
use Rattle.std.proofs.Common.{take, drop}
use Rattle.std.proofs.Common.{get_or, Option, Some, None, Bool, true, false, cond, nat_eq, nat_lt}
use Rattle.std.proofs.Common.{refl, sym, ap, ◌∙◌, arith, append_assoc, codes, map, replicate, zero}
use Rattle.std.proofs.lemmas.List.{drop_more, drop_all, drop-drop, take_all, length-append, append-nil, map-set}
use Rattle.std.proofs.lemmas.List.{set_past}
use Rattle.std.proofs.lemmas.Bool.Decides.{nat_tests}
use Rattle.std.specs.List.{flat_map, position, position_or_len}
use Rattle.std.specs.Option.{option_map}
use Rattle.std.specs.Borrow.{Bor}
use Rattle.std.specs.Char.{digit_char}
use Rattle.of_stream.specs.declared.fault.StreamFault.TheVariants.{Ended}
use Rattle.of_stream.specs.declared.stream.OffsetSize.{OffsetSize}
use Rattle.of_stream.specs.Decoding.{Token, token_from}
use Rattle.of_detok.specs.Digits.{digit_value, pairs}
use Rattle.of_stream.specs.Sizes.{is_end, size_behind}
use Rattle.of_detok.specs.Labels.{shown}
use Rattle.of_detok.specs.Listing.{Line, Lines, line_text, line_before, text_behind, to_end, token_line, lines_from}
use Rattle.of_detok.specs.Listing.{trailing, trailing_from}
use Rattle.of_detok.specs.Notes.{Notes, behind_token}
use Rattle.of_detok.specs.Reading.{paired, are_spaces, byte_of, byte_before, some_bytes, text_lines}

-- one more byte as two digits
pub pairs_more : (out bytes : List ℕ) (i d : ℕ) → i < length bytes
    → ((out ++ digit_char (get_or bytes i d / 16) ∷ []) ++ digit_char (get_or bytes i d % 16) ∷ []) ++ pairs
    (drop (i + 1) bytes) ≡ out ++ pairs (drop i bytes)
unfolding pairs
pairs_more out bytes i d h =
    let high = digit_char (get_or bytes i d / 16) in
    let low = digit_char (get_or bytes i d % 16) in
    append_assoc (out ++ high ∷ []) (low ∷ []) (pairs (drop (i + 1) bytes))
    ∙ append_assoc out (high ∷ []) (low ∷ pairs (drop (i + 1) bytes))
    ∙ ap (λ xs. out ++ pairs xs) (sym (drop_more bytes i d h))

-- no more bytes
pub pairs_end : (out bytes : List ℕ) (i : ℕ) → length bytes ≤ i → out ++ pairs (drop i bytes) ≡ out
unfolding pairs
pairs_end out bytes i h = ap (λ xs. out ++ pairs xs) (drop_all i bytes h) ∙ append-nil out

-- one more byte of a string
pub shown_more : (out text : List ℕ) (i d : ℕ) → i < length text
    → (out ++ shown (get_or text i d) ∷ []) ++ map shown (drop (i + 1) text) ≡ out ++ map shown (drop i text)
shown_more out text i d h =
    append_assoc out (shown (get_or text i d) ∷ []) (map shown (drop (i + 1) text))
    ∙ ap (λ xs. out ++ map shown xs) (sym (drop_more text i d h))

-- no more bytes of it
pub shown_end : (out text : List ℕ) (i : ℕ) → length text ≤ i → out ++ map shown (drop i text) ≡ out
shown_end out text i h = ap (λ xs. out ++ map shown xs) (drop_all i text h) ∙ append-nil out

push_more : (out : List ℕ) (b : ℕ) (o : Option (List ℕ))
    → option_map (λ bytes. out ++ bytes) (byte_before (Some b) o) ≡ option_map (λ bytes. (out ++ b ∷ []) ++ bytes) o
push_more out b None = refl
push_more out b (Some bytes) = ap (λ xs. Some xs) (sym (append_assoc out (b ∷ []) bytes))

none_before : (o : Option (List ℕ)) → byte_before None o ≡ None
none_before None = refl
none_before (Some bytes) = refl

-- one more byte of two digits
pub paired_more : (out text : List ℕ) (d b : ℕ) → 2 ≤ length text
    → are_spaces (get_or text 0 d) (get_or text 1 d) ≡ false
    → byte_of (digit_value (get_or text 0 d)) (digit_value (get_or text 1 d)) ≡ Some b
    → option_map (λ bytes. out ++ bytes) (paired text)
    ≡ option_map (λ bytes. (out ++ b ∷ []) ++ bytes) (paired (drop 2 text))
unfolding paired
paired_more out [] d b l s h = absurd (omega (arith, l))
paired_more out (x ∷ []) d b l s h = absurd (omega (arith, l))
paired_more out (x ∷ y ∷ text) d b l s h = rw (s, h) (push_more out b (paired text))

-- two spaces
pub paired_end : (out text : List ℕ) (d : ℕ) → 2 ≤ length text → are_spaces (get_or text 0 d) (get_or text 1 d) ≡ true
    → option_map (λ bytes. out ++ bytes) (paired text) ≡ Some out
unfolding paired
paired_end out [] d l s = absurd (omega (arith, l))
paired_end out (x ∷ []) d l s = absurd (omega (arith, l))
paired_end out (x ∷ y ∷ text) d l s = rw s (ap (λ xs. Some xs) (append-nil out))

-- no digits
pub paired_bad : (out text : List ℕ) (d : ℕ) → 2 ≤ length text
    → are_spaces (get_or text 0 d) (get_or text 1 d) ≡ false
    → byte_of (digit_value (get_or text 0 d)) (digit_value (get_or text 1 d)) ≡ None
    → option_map (λ bytes. out ++ bytes) (paired text) ≡ None
unfolding paired
paired_bad out [] d l s h = absurd (omega (arith, l))
paired_bad out (x ∷ []) d l s h = absurd (omega (arith, l))
paired_bad out (x ∷ y ∷ text) d l s h = rw (s, h, none_before (paired text)) refl

-- the end of the line
pub paired_short : (out text : List ℕ) → length text < 2 → option_map (λ bytes. out ++ bytes) (paired text) ≡ None
unfolding paired
paired_short out [] l = refl
paired_short out (x ∷ []) l = refl
paired_short out (x ∷ y ∷ text) l = absurd (omega (arith, l))

-- a line whose digits end
pub some_by : (old new : List ℕ) (o : Option (List ℕ)) → option_map (λ bytes. old ++ bytes) o ≡ Some new
    → option_map (λ bytes. old ++ bytes) (some_bytes o) ≡ cond (nat_lt (length old) (length new)) (Some new) None
some_by old new None h = absurd cc
some_by old new (Some []) h =
    let same : old ++ [] ≡ new = cc in
    let long : nat_lt (length old) (length new) ≡ false = grind (arith, nat_tests, same, length-append old []) in
    rw long refl
some_by old new (Some (b ∷ bytes)) h =
    let same : old ++ b ∷ bytes ≡ new = cc in
    let long : nat_lt (length old) (length new) ≡ true =
    grind (arith, nat_tests, same, length-append old (b ∷ bytes)) in
    rw long h

-- a line whose digits don't
pub none_by : (old : List ℕ) (o : Option (List ℕ)) → option_map (λ bytes. old ++ bytes) o ≡ None
    → option_map (λ bytes. old ++ bytes) (some_bytes o) ≡ None
none_by old None h = refl
none_by old (Some bytes) h = absurd cc

-- no text
pub no_lines : (text : List ℕ) → length text ≡ 0 → text_lines text ≡ []
unfolding text_lines
no_lines [] h = refl
no_lines (b ∷ text) h = absurd (omega (arith, h))

abbrev is_newline : ℕ → Bool
is_newline b = nat_eq b 10

-- how many bytes stand before the first newline
abbrev line_length : List ℕ → ℕ
line_length = position_or_len is_newline

-- the first line is what stands before the first newline
abbrev IsSplit : List ℕ → Type 0
IsSplit text = text_lines text ≡ take (line_length text) text ∷ text_lines (drop (suc (line_length text)) text)

split_by : (b : ℕ) (text : List ℕ) (n : ℕ) → nat_eq b 10 ≡ false → 1 + line_length text ≡ n
    → text_lines (b ∷ text) ≡ (b ∷ take (line_length text) text) ∷ text_lines (drop (suc (line_length text)) text)
    → text_lines (b ∷ text) ≡ take n (b ∷ text) ∷ text_lines (drop (suc n) (b ∷ text))
split_by b text n e h goal =
    let same : n ≡ suc (line_length text) = omega (arith, h) in
    rw same goal

line_by : (t : Bool) (b : ℕ) (text : List ℕ) → nat_eq b 10 ≡ t
    → ((c : ℕ) (rest : List ℕ) → text ≡ c ∷ rest → IsSplit text) → IsSplit (b ∷ text)
unfolding text_lines
line_by true b text e h = rw e refl
line_by false b [] e h = split_by b [] (line_length (b ∷ [])) e (rw e refl) (rw e refl)
line_by false b (c ∷ rest) e h = split_by b (c ∷ rest) (line_length (b ∷ c ∷ rest)) e (rw e refl)
    (rw (e, h c rest refl) refl)

line_split : (b : ℕ) (text : List ℕ) → IsSplit (b ∷ text)
line_split b [] = line_by (nat_eq b 10) b [] refl (λ c rest e. absurd cc)
line_split b (c ∷ text) = line_by (nat_eq b 10) b (c ∷ text) refl (λ d rest e. line_split c text)

split_some : (text : List ℕ) → 0 < length text → IsSplit text
split_some [] h = absurd (omega (arith, h))
split_some (b ∷ text) h = line_split b text

ended_by : (t : Bool) (n m end : ℕ) → nat_lt n m ≡ t → cond t (Some n) None ≡ Some end → n ≡ end
ended_by true n m end t h = cc
ended_by false n m end t h = absurd cc

-- a newline ends the line
pub line_ended : (text : List ℕ) (end : ℕ) → 0 < length text → position (λ b. nat_eq b 10) text ≡ Some end
    → text_lines text ≡ take end text ∷ text_lines (drop (end + 1) text)
line_ended text end h e =
    let same : line_length text ≡ end = ended_by (nat_lt (line_length text) (length text)) (line_length text)
    (length text) end refl e in
    let next : suc (line_length text) ≡ end + 1 = omega (arith, same) in
    split_some text h ∙ ap (λ n. take n text ∷ text_lines (drop (suc (line_length text)) text)) same
    ∙ ap (λ n. take end text ∷ text_lines (drop n text)) next

open_by : (t : Bool) (n m : ℕ) → nat_lt n m ≡ t → cond t (Some n) None ≡ None → m ≤ n
open_by true n m t h = absurd cc
open_by false n m t h = grind (arith, nat_tests, t)

-- the line has no newline
pub line_open : (text : List ℕ) → 0 < length text → position (λ b. nat_eq b 10) text ≡ None
    → text_lines text ≡ text ∷ text_lines []
line_open text h e =
    let past : length text ≤ line_length text =
    open_by (nat_lt (line_length text) (length text)) (line_length text) (length text) refl e in
    let none : drop (suc (line_length text)) text ≡ [] = drop_all (suc (line_length text)) text (omega arith) in
    split_some text h ∙ ap (λ xs. xs ∷ text_lines (drop (suc (line_length text)) text))
    (take_all (line_length text) text past) ∙ ap (λ xs. text ∷ text_lines xs) none

-- one more line of a listing
pub text_more : (text : List ℕ) (l : Line) (r : Lines)
    → text_behind text (line_before l r) ≡ text_behind (text ++ line_text l) r
text_more text l r = ap (λ xs. (xs, r.fault)) (sym (append_assoc text (line_text l) (flat_map line_text r.lines)))

-- one more token
pub tokens_more : (text image : List ℕ) (n k : ℕ) (notes : Notes) (position : ℕ) (size : OffsetSize) (r : Token × ℕ)
    → k < n → token_from image position size ≡ Some r → is_end r.0.code.0 ≡ false
    → text_behind text (lines_from image (n - k) notes position size)
    ≡ text_behind (text ++ line_text (token_line image notes position r))
    (lines_from image (n - (k + 1)) (behind_token r.0 notes) r.1 (size_behind r.0.code.0 size))
tokens_more text image n k notes position size r l h e =
    let less : n - k ≡ suc (n - (k + 1)) = omega arith in
    rw (less, h, e) (text_more text (token_line image notes position r)
    (lines_from image (n - (k + 1)) (behind_token r.0 notes) r.1 (size_behind r.0.code.0 size)))

-- the end token
pub tokens_end : (text image : List ℕ) (n k : ℕ) (notes : Notes) (position : ℕ) (size : OffsetSize) (r : Token × ℕ)
    → k < n → token_from image position size ≡ Some r → is_end r.0.code.0 ≡ true
    → text_behind text (lines_from image (n - k) notes position size)
    ≡ ((text ++ line_text (token_line image notes position r)) ++ flat_map line_text (trailing_from image r.1), None)
tokens_end text image n k notes position size r l h e =
    let less : n - k ≡ suc (n - (k + 1)) = omega arith in
    rw (less, h, e) (text_more text (token_line image notes position r) (to_end (trailing_from image r.1)))

-- no token
pub tokens_cut : (text image : List ℕ) (n k : ℕ) (notes : Notes) (position : ℕ) (size : OffsetSize) → k < n
    → token_from image position size ≡ None
    → text_behind text (lines_from image (n - k) notes position size) ≡ (text, Some (Ended position))
tokens_cut text image n k notes position size l h =
    let less : n - k ≡ suc (n - (k + 1)) = omega arith in
    rw (less, h) (ap (λ xs. (xs, Some (Ended position))) (append-nil text))

-- one more line behind the end token
pub trailing_more : (text image : List ℕ) (count k position : ℕ) → k < count
    → (text ++ line_text (record {
      before = position + 16 * k;
      bytes =
          take 16 (drop (position + 16 * k) image);
      label = codes "trailing";
    }))
    ++ flat_map line_text (trailing (count - (k + 1)) (position + 16 * (k + 1)) (drop (position + 16 * (k + 1)) image))
    ≡ text ++ flat_map line_text (trailing (count - k) (position + 16 * k) (drop (position + 16 * k) image))
trailing_more text image count k position l =
    let less : count - k ≡ suc (count - (k + 1)) = omega arith in
    let at : position + 16 * (k + 1) ≡ position + 16 * k + 16 = omega arith in
    rw (less, at, ← drop-drop 16 (position + 16 * k) image) (append_assoc text _ _)

-- the bytes on a line, if it has some
pub ruleset some_or_none = (some_by, none_by)

-- one more structure's spaces
pub spaces_more : (text : List ℕ) (k : ℕ)
    → (text ++ replicate (2 * k) 0x20) ++ codes "  " ≡ text ++ replicate (2 * (k + 1)) 0x20
spaces_more text k = append_assoc text (replicate (2 * k) 0x20) (codes "  ")
    ∙ ap (λ xs. text ++ xs) (go k)
  where
    go : (k : ℕ) → replicate (2 * k) 0x20 ++ codes "  " ≡ replicate (2 * (k + 1)) 0x20
    go zero = refl
    go (suc k) =
        let next : 2 * suc k ≡ suc (suc (2 * k)) = omega arith in
        let last : 2 * (suc k + 1) ≡ suc (suc (2 * (k + 1))) = omega arith in
        rw (next, last) (ap (λ xs. 0x20 ∷ 0x20 ∷ xs) (go k))

-- no FCode has a name yet
pub no_names : (n m : ℕ) (old names : List (Option (Bor (List ℕ)))) → old ≡ [] → m ≡ 0
    → names ≡ take n old ++ replicate (n - m) None
    → map (option_map (λ (name : Bor (List ℕ)). name.now)) names ≡ replicate n None
no_names n m old names none begins h =
    let all : n - m ≡ n = omega (arith, begins) in
    let blank : take n old ++ replicate (n - m) None ≡ replicate n None = rw (all, none, take_nil n) refl in
    ap (map (option_map (λ (name : Bor (List ℕ)). name.now))) (h ∙ blank) ∙ each n
  where
    take_nil : (n : ℕ) → take {A = Option (Bor (List ℕ))} n [] ≡ []
    take_nil zero = refl
    take_nil (suc n) = refl

    each : (n : ℕ) → map (option_map (λ (name : Bor (List ℕ)). name.now)) (replicate n None) ≡ replicate n None
    each zero = refl
    each (suc n) = ap (λ names. None ∷ names) (each n)

-- one FCode's name is another, if it has a place
pub ruleset one_name = (map-set, set_past)
