-- The strings of the word `"` that no line ends, group by group.
use Rattle.std.proofs.Common.{◌≡◌, ◌≢◌, ◌≤◌, ◌<◌, ◌-◌, ◌+◌, ℕ, zero, suc, Bool, true, false, if◌then◌else◌}
use Rattle.std.proofs.Common.{ap, sym, ◌∙◌, refl, subst, arith, option_map, IfSome, IfNone, List, [], ◌∷◌, ◌++◌}
use Rattle.std.proofs.Common.{drop, length, get_or, Option, Some, None, nat_eq, nat_lt, not}
use Rattle.std.proofs.Common.{append_assoc, append-nil}
use Rattle.std.specs.List.{All}
use Rattle.std.proofs.lemmas.List.{length-drop, length-append}
use Rattle.std.proofs.lemmas.List.Elements.{All-cons, All-head, All-nil, All-tail}
use Rattle.std.proofs.lemmas.List.Sums.{take_while-cons}
use Rattle.std.proofs.lemmas.Bool.Decides.{nat_tests}
use Rattle.of_format.specs.Digits.{digit_value, digit_of}
use Rattle.of_scan.specs.Groups.{QuotedPartsAreRead, SayBytes, HasNoGroup, group_written}
use Rattle.of_scan.specs.Parts.{Parted, byte_and, closed_pairs, count_before, grouped_part, group_in, has_byte, paired}
use Rattle.of_scan.specs.Parts.{part_to, quoted_part, with_group}
use Rattle.of_scan.specs.Scan.{byte_of, is_blank}
use Rattle.of_scan.specs.Strings.{Digits, Byte, Blank, digits_written, digits_bytes}
use Rattle.of_scan.proofs.PartLemmas.{passed, ended, unended}

-- ---- the bytes of pairs

-- past a blank between pairs
pub blank_passed : (b : ℕ) (text : List ℕ) → is_blank b ≡ true → paired (b ∷ text) ≡ paired text
blank_passed b [] h = rw h refl
blank_passed b (c ∷ text) h = rw h refl

-- a pair, and then the others
pub pair_passed : (a b x : ℕ) (text : List ℕ) → is_blank a ≡ false
    → byte_of (digit_value 16 a) (digit_value 16 b) ≡ Some x
    → paired (a ∷ b ∷ text) ≡ byte_and (Some x) (paired text)
pair_passed a b x text h e = rw (h, e) refl

-- all pairs were appended
pub pairs_done : (old out d whole : List ℕ) → length d ≤ 1
    → option_map (λ b. out ++ b) (paired d) ≡ option_map (λ b. old ++ b) (paired whole)
    → IfSome (paired whole) (λ bytes. out ≡ old ++ bytes)
pairs_done old out d whole l h = done (paired d) (paired whole) (few d l) h
  where
    few : (d : List ℕ) → length d ≤ 1 → IfSome (paired d) (λ b. b ≡ [])
    few [] l = refl
    few (x ∷ []) l = one (is_blank x)
      where
        one : (b : Bool) → IfSome (if b then Some [] else None) (λ (b : List ℕ). b ≡ [])
        one true = refl
        one false = tt
    few (x ∷ y ∷ d) l = absurd (omega (arith, l))

    done : (d whole : Option (List ℕ)) → IfSome d (λ b. b ≡ [])
        → option_map (λ b. out ++ b) d ≡ option_map (λ b. old ++ b) whole
        → IfSome whole (λ bytes. out ≡ old ++ bytes)
    done d None e h = tt
    done None (Some bytes) e h = absurd cc
    done (Some b) (Some bytes) e h =
        let same : out ++ b ≡ old ++ bytes = cc in
        sym (append-nil out) ∙ ap (λ l. out ++ l) (sym e) ∙ same

-- the next of the pairs finds no room
pub pairs_long : (old out d whole : List ℕ) (x y : ℕ) → 2 ≤ length d → is_blank (get_or d 0 x) ≡ false
    → byte_of (digit_value 16 (get_or d 0 x)) (digit_value 16 (get_or d 1 x)) ≡ Some y → 255 ≤ length out
    → option_map (λ b. out ++ b) (paired d) ≡ option_map (λ b. old ++ b) (paired whole)
    → IfSome (paired whole) (λ bytes. 255 < length old + length bytes)
pairs_long old out [] whole x y l s e n h = absurd (omega (arith, l))
pairs_long old out (a ∷ []) whole x y l s e n h = absurd (omega (arith, l))
pairs_long old out (a ∷ b ∷ d) whole x y l s e n h =
    long (paired d) (paired whole) (sym (ap (option_map (λ b. out ++ b)) (pair_passed a b y d s e)) ∙ h)
  where
    long : (d whole : Option (List ℕ))
        → option_map (λ b. out ++ b) (byte_and (Some y) d) ≡ option_map (λ b. old ++ b) whole
        → IfSome whole (λ bytes. 255 < length old + length bytes)
    long d None h = tt
    long None (Some bytes) h = absurd cc
    long (Some rest) (Some bytes) h =
        let same : out ++ y ∷ rest ≡ old ++ bytes = cc in
        let lengths : length out + suc (length rest) ≡ length old + length bytes =
        sym (length-append out (y ∷ rest)) ∙ ap length same ∙ length-append old bytes in
        omega (arith, lengths, n)

-- a blank is passed in front of the pairs
pub pairs_blank : (old out d whole : List ℕ) (x : ℕ) → 2 ≤ length d → is_blank (get_or d 0 x) ≡ true
    → option_map (λ b. out ++ b) (paired d) ≡ option_map (λ b. old ++ b) (paired whole)
    → option_map (λ b. out ++ b) (paired (drop 1 d)) ≡ option_map (λ b. old ++ b) (paired whole)
pairs_blank old out [] whole x l s h = absurd (omega (arith, l))
pairs_blank old out (a ∷ d) whole x l s h = ap (option_map (λ b. out ++ b)) (sym (blank_passed a d s)) ∙ h

-- one pair more was appended
pub pairs_more : (old out d whole : List ℕ) (x y : ℕ) → 2 ≤ length d → is_blank (get_or d 0 x) ≡ false
    → byte_of (digit_value 16 (get_or d 0 x)) (digit_value 16 (get_or d 1 x)) ≡ Some y
    → option_map (λ b. out ++ b) (paired d) ≡ option_map (λ b. old ++ b) (paired whole)
    → option_map (λ b. (out ++ y ∷ []) ++ b) (paired (drop 2 d)) ≡ option_map (λ b. old ++ b) (paired whole)
pairs_more old out [] whole x y l s e h = absurd (omega (arith, l))
pairs_more old out (a ∷ []) whole x y l s e h = absurd (omega (arith, l))
pairs_more old out (a ∷ b ∷ d) whole x y l s e h =
    more (paired d) ∙ sym (ap (option_map (λ b. out ++ b)) (pair_passed a b y d s e)) ∙ h
  where
    more : (d : Option (List ℕ))
        → option_map (λ b. (out ++ y ∷ []) ++ b) d ≡ option_map (λ b. out ++ b) (byte_and (Some y) d)
    more (Some rest) = ap Some (append_assoc out (y ∷ []) rest)
    more None = refl

-- what is no pair says nothing
pub pairs_none : (old out d whole : List ℕ) (x : ℕ) (P : List ℕ → Type 0) → 2 ≤ length d
    → is_blank (get_or d 0 x) ≡ false
    → byte_of (digit_value 16 (get_or d 0 x)) (digit_value 16 (get_or d 1 x)) ≡ None
    → option_map (λ b. out ++ b) (paired d) ≡ option_map (λ b. old ++ b) (paired whole)
    → IfSome (paired whole) P
pairs_none old out [] whole x P l s e h = absurd (omega (arith, l))
pairs_none old out (a ∷ []) whole x P l s e h = absurd (omega (arith, l))
pairs_none old out (a ∷ b ∷ d) whole x P l s e h =
    let none : paired (a ∷ b ∷ d) ≡ None = rw (s, e) refl in
    nothing (paired whole) (sym (ap (option_map (λ b. out ++ b)) none) ∙ h)
  where
    nothing : (whole : Option (List ℕ)) → None ≡ option_map (λ b. old ++ b) whole → IfSome whole P
    nothing None h = tt
    nothing (Some bytes) h = absurd cc

-- the bytes of a group are those of its pairs
group_of_pairs : (P : List ℕ → Type 0) (text : List ℕ) → IfSome (paired (part_to 41 (drop 1 text)).0) P
    → IfSome (group_in text) (λ g. P g.0)
group_of_pairs P [] h = tt
group_of_pairs P (b ∷ text) h = opens (nat_eq b 40)
  where
    closes : (o : Option (List ℕ)) → IfSome o P
        → IfSome {T = Parted} (option_map (λ bytes. (bytes, (part_to 41 text).1)) o) (λ g. P g.0)
    closes (Some bytes) h = h
    closes None h = tt

    has : (t : Bool) → IfSome {T = Parted}
        (if t then option_map (λ bytes. (bytes, (part_to 41 text).1)) (paired (part_to 41 text).0) else None)
        (λ g. P g.0)
    has true = closes (paired (part_to 41 text).0) h
    has false = tt

    opens : (t : Bool) → IfSome {T = Parted} (if t then closed_pairs text else None) (λ g. P g.0)
    opens true = has (has_byte 41 text)
    opens false = tt

-- the same where the pairs were appended, or found no room
pub group_fits : (r : Option Unit) (P : List ℕ → Type 0) (digits text : List ℕ)
    → digits ≡ (part_to 41 (drop 1 text)).0 → IfSome r (λ _. IfSome (paired digits) P)
    → IfSome r (λ _. IfSome (group_in text) (λ g. P g.0))
group_fits None P digits text e h = tt
group_fits (Some x) P digits text e h = group_of_pairs P text (subst (λ d. IfSome (paired d) P) e h)

pub group_over : (r : Option Unit) (P : List ℕ → Type 0) (digits text : List ℕ)
    → digits ≡ (part_to 41 (drop 1 text)).0 → IfNone r (IfSome (paired digits) P)
    → IfNone r (IfSome (group_in text) (λ g. P g.0))
group_over None P digits text e h = group_of_pairs P text (subst (λ d. IfSome (paired d) P) e h)
group_over (Some x) P digits text e h = tt

-- ---- the pieces of a string

-- what is there of the string so far, and what follows
abbrev pub Leads : List ℕ → ℕ → List ℕ → List ℕ → Type 0
Leads out n rest whole = out ++ (grouped_part n rest).0 ≡ whole

-- no room for the next bytes, which the string has
pub piece_long : (out rest whole : List ℕ) (i end : ℕ) → i < end → Leads out (end - i) rest whole
    → 255 < length out + length (part_to 34 rest).0 → 255 < length whole
piece_long out rest whole i end lt h n =
    let steps : end - i ≡ suc (end - (i + 1)) = omega arith in
    let k : ℕ = end - (i + 1) in
    let same : out ++ (grouped_part (suc k) rest).0 ≡ whole = subst (λ m. Leads out m rest whole) steps h in
    long (group_in (part_to 34 rest).1) same
  where
    long : (g : Option Parted) → out ++ (with_group (part_to 34 rest) g (grouped_part (end - (i + 1)))).0 ≡ whole
        → 255 < length whole
    long None same =
        let lengths : length out + length (part_to 34 rest).0 ≡ length whole =
        sym (length-append out (part_to 34 rest).0) ∙ ap length same in
        omega (arith, lengths, n)
    long (Some g) same =
        let tail : List ℕ = (grouped_part (end - (i + 1)) g.1).0 in
        let lengths : length out + ((length (part_to 34 rest).0 + length g.0) + length tail) ≡ length whole =
        ap (λ m. length out + (m + length tail)) (sym (length-append (part_to 34 rest).0 g.0))
        ∙ ap (λ m. length out + m) (sym (length-append ((part_to 34 rest).0 ++ g.0) tail))
        ∙ sym (length-append out (((part_to 34 rest).0 ++ g.0) ++ tail)) ∙ ap length same in
        omega (arith, lengths, n)

-- no room for the bytes of the group, which the string has
group_too_long : (out rest u whole : List ℕ) (i end : ℕ) → i < end → Leads out (end - i) rest whole
    → Some u ≡ option_map (λ g. g.1) (group_in (part_to 34 rest).1)
    → IfSome (group_in (part_to 34 rest).1) (λ g. 255 < length (out ++ (part_to 34 rest).0) + length g.0)
    → 255 < length whole
group_too_long out rest u whole i end lt h s n =
    let steps : end - i ≡ suc (end - (i + 1)) = omega arith in
    let same : out ++ (grouped_part (suc (end - (i + 1))) rest).0 ≡ whole =
    subst (λ m. Leads out m rest whole) steps h in
    long (group_in (part_to 34 rest).1) s n same
  where
    long : (g : Option Parted) → Some u ≡ option_map (λ g. g.1) g
        → IfSome g (λ g. 255 < length (out ++ (part_to 34 rest).0) + length g.0)
        → out ++ (with_group (part_to 34 rest) g (grouped_part (end - (i + 1)))).0 ≡ whole
        → 255 < length whole
    long None s n same = absurd cc
    long (Some g) s n same =
        let tail : List ℕ = (grouped_part (end - (i + 1)) g.1).0 in
        let lengths : length out + ((length (part_to 34 rest).0 + length g.0) + length tail) ≡ length whole =
        ap (λ m. length out + (m + length tail)) (sym (length-append (part_to 34 rest).0 g.0))
        ∙ ap (λ m. length out + m) (sym (length-append ((part_to 34 rest).0 ++ g.0) tail))
        ∙ sym (length-append out (((part_to 34 rest).0 ++ g.0) ++ tail)) ∙ ap length same in
        let front : length (out ++ (part_to 34 rest).0) ≡ length out + length (part_to 34 rest).0 =
        length-append out (part_to 34 rest).0 in
        omega (arith, lengths, front, n)

pub group_long : (r : Option Unit) (out mid rest behind u whole : List ℕ) (i end : ℕ) → i < end
    → Leads out (end - i) rest whole → mid ≡ out ++ (part_to 34 rest).0 → behind ≡ (part_to 34 rest).1
    → Some u ≡ option_map (λ g. g.1) (group_in behind)
    → r ≡ None → IfNone r (IfSome (group_in behind) (λ g. 255 < length mid + length g.0)) → 255 < length whole
group_long (Some x) out mid rest behind u whole i end lt h m b s none n = absurd cc
group_long None out mid rest behind u whole i end lt h m b s none n =
    group_too_long out rest u whole i end lt h (subst (λ t. Some u ≡ option_map (λ g. g.1) (group_in t)) b s)
    (subst (λ t. IfSome (group_in t) (λ g. 255 < length (out ++ (part_to 34 rest).0) + length g.0)) b
    (subst (λ l. IfSome (group_in behind) (λ g. 255 < length l + length g.0)) m n))

-- the bytes and their group were appended
piece_appended : (out more rest u whole : List ℕ) (i end : ℕ) → i < end → Leads out (end - i) rest whole
    → Some u ≡ option_map (λ g. g.1) (group_in (part_to 34 rest).1)
    → IfSome (group_in (part_to 34 rest).1) (λ g. more ≡ (out ++ (part_to 34 rest).0) ++ g.0)
    → Leads more (end - (i + 1)) u whole
piece_appended out more rest u whole i end lt h s n =
    let steps : end - i ≡ suc (end - (i + 1)) = omega arith in
    let same : out ++ (grouped_part (suc (end - (i + 1))) rest).0 ≡ whole =
    subst (λ m. Leads out m rest whole) steps h in
    next (group_in (part_to 34 rest).1) s n same
  where
    next : (g : Option Parted) → Some u ≡ option_map (λ g. g.1) g
        → IfSome g (λ g. more ≡ (out ++ (part_to 34 rest).0) ++ g.0)
        → out ++ (with_group (part_to 34 rest) g (grouped_part (end - (i + 1)))).0 ≡ whole
        → Leads more (end - (i + 1)) u whole
    next None s n same = absurd cc
    next (Some g) s n same =
        let here : u ≡ g.1 = cc in
        let tail : List ℕ = (grouped_part (end - (i + 1)) g.1).0 in
        ap (λ v. more ++ (grouped_part (end - (i + 1)) v).0) here
        ∙ ap (λ l. l ++ tail) n
        ∙ append_assoc (out ++ (part_to 34 rest).0) g.0 tail
        ∙ append_assoc out (part_to 34 rest).0 (g.0 ++ tail)
        ∙ ap (λ l. out ++ l) (sym (append_assoc (part_to 34 rest).0 g.0 tail))
        ∙ same

pub group_appended : (r : Option Unit) (x : Unit) (out mid more rest behind u whole : List ℕ) (i end : ℕ) → i < end
    → Leads out (end - i) rest whole → mid ≡ out ++ (part_to 34 rest).0 → behind ≡ (part_to 34 rest).1
    → Some u ≡ option_map (λ g. g.1) (group_in behind)
    → r ≡ Some x → IfSome r (λ _. IfSome (group_in behind) (λ g. more ≡ mid ++ g.0))
    → Leads more (end - (i + 1)) u whole
group_appended None x out mid more rest behind u whole i end lt h m b s some n = absurd cc
group_appended (Some y) x out mid more rest behind u whole i end lt h m b s some n =
    piece_appended out more rest u whole i end lt h (subst (λ t. Some u ≡ option_map (λ g. g.1) (group_in t)) b s)
    (subst (λ t. IfSome (group_in t) (λ g. more ≡ (out ++ (part_to 34 rest).0) ++ g.0)) b
    (subst (λ l. IfSome (group_in behind) (λ g. more ≡ l ++ g.0)) m n))

-- no group follows the last bytes
pub string_ended : (out rest whole : List ℕ) (i end : ℕ) → i < end → Leads out (end - i) rest whole
    → None ≡ option_map (λ g. g.1) (group_in (part_to 34 rest).1) → out ++ (part_to 34 rest).0 ≡ whole
string_ended out rest whole i end lt h s =
    let steps : end - i ≡ suc (end - (i + 1)) = omega arith in
    let same : out ++ (grouped_part (suc (end - (i + 1))) rest).0 ≡ whole =
    subst (λ m. Leads out m rest whole) steps h in
    last (group_in (part_to 34 rest).1) s same
  where
    last : (g : Option Parted) → None ≡ option_map (λ (g : Parted). g.1) g
        → out ++ (with_group (part_to 34 rest) g (grouped_part (end - (i + 1)))).0 ≡ whole
        → out ++ (part_to 34 rest).0 ≡ whole
    last None s same = same
    last (Some g) s same = absurd cc

pub string_cut : (out rest whole : List ℕ) (i end : ℕ) → end ≤ i → Leads out (end - i) rest whole → out ≡ whole
string_cut out rest whole i end le h =
    let none : end - i ≡ 0 = omega arith in
    let same : out ++ (grouped_part 0 rest).0 ≡ whole = subst (λ m. Leads out m rest whole) none h in
    sym (append-nil out) ∙ same

-- ---- the law

-- what a group is followed by is shorter than the text with the group
closed_shorter : (text : List ℕ) (g : Parted) → closed_pairs text ≡ Some g → length g.1 ≤ length text
closed_shorter text g h = has (has_byte 41 text) h
  where
    shorter : (o : Option (List ℕ)) → option_map (λ bytes. (bytes, (part_to 41 text).1)) o ≡ Some g
        → length g.1 ≤ length text
    shorter None h = absurd cc
    shorter (Some bytes) h =
        let same : (part_to 41 text).1 ≡ g.1 = cc in
        let dropped : length (part_to 41 text).1 ≡ length text - suc (count_before 41 text) =
        length-drop (suc (count_before 41 text)) text in
        let lengths : length (part_to 41 text).1 ≡ length g.1 = ap length same in
        omega (arith, dropped, lengths)

    has : (b : Bool)
        → (if b then option_map (λ bytes. (bytes, (part_to 41 text).1)) (paired (part_to 41 text).0) else None) ≡ Some g
        → length g.1 ≤ length text
    has true h = shorter (paired (part_to 41 text).0) h
    has false h = absurd cc

group_shorter : (text : List ℕ) (g : Parted) → group_in text ≡ Some g → suc (length g.1) ≤ length text
group_shorter [] g h = absurd cc
group_shorter (b ∷ text) g h = opens (nat_eq b 40) h
  where
    opens : (t : Bool) → (if t then closed_pairs text else None) ≡ Some g → suc (length g.1) ≤ suc (length text)
    opens true h = omega (arith, closed_shorter text g h)
    opens false h = absurd cc

-- as many pieces as there are bytes are enough
enough : (n m : ℕ) (text : List ℕ) → length text ≤ n → length text ≤ m → grouped_part n text ≡ grouped_part m text
enough zero zero text h k = refl
enough zero (suc m) [] h k = refl
enough zero (suc m) (b ∷ text) h k = absurd (omega (arith, h))
enough (suc n) zero [] h k = refl
enough (suc n) zero (b ∷ text) h k = absurd (omega (arith, k))
enough (suc n) (suc m) text h k = same (λ t a b. enough n m t a b) (group_in (part_to 34 text).1) refl
  where
    same : ((t : List ℕ) → length t ≤ n → length t ≤ m → grouped_part n t ≡ grouped_part m t)
        → (g : Option Parted) → group_in (part_to 34 text).1 ≡ g
        → with_group (part_to 34 text) g (grouped_part n) ≡ with_group (part_to 34 text) g (grouped_part m)
    same fewer_do None e = refl
    same fewer_do (Some g) e =
        let dropped : length (part_to 34 text).1 ≡ length text - suc (count_before 34 text) =
        length-drop (suc (count_before 34 text)) text in
        let shorter : suc (length g.1) ≤ length (part_to 34 text).1 = group_shorter (part_to 34 text).1 g e in
        let few : length g.1 ≤ n = omega (arith, dropped, shorter, h) in
        let fewer : length g.1 ≤ m = omega (arith, dropped, shorter, k) in
        ap (λ r. (((part_to 34 text).0 ++ g.0) ++ r.0, r.1)) (fewer_do g.1 few fewer)

-- the string by its first piece
by_piece : (text : List ℕ)
    → quoted_part text ≡ with_group (part_to 34 text) (group_in (part_to 34 text).1) (grouped_part (length text))
by_piece text = enough (length text) (suc (length text)) text (omega arith) (omega arith)

digit_is_no_end : (o : Option ℕ) (b : ℕ) → byte_of o (digit_value 16 41) ≡ Some b → ⊥
unfolding digit_of
digit_is_no_end (Some x) b h = let e : None ≡ Some b = h in absurd cc
digit_is_no_end None b h = let e : None ≡ Some b = h in absurd cc

first_is_no_end : (low b : ℕ) → byte_of (digit_value 16 41) (digit_value 16 low) ≡ Some b → ⊥
unfolding digit_of
first_is_no_end low b h = let e : None ≡ Some b = h in absurd cc

digits_apart : (ds : List Digits) (more : List ℕ) → digits_written ds more ≡ digits_written ds [] ++ more
digits_apart [] more = refl
digits_apart (Byte b high low ∷ ds) more = ap (λ l. high ∷ low ∷ l) (digits_apart ds more)
digits_apart (Blank b ∷ ds) more = ap (λ l. b ∷ l) (digits_apart ds more)

-- no byte of a group ends it
no_end : (ds : List Digits) → SayBytes ds → All (λ b. b ≢ 41) (digits_written ds [])
no_end [] h = All-nil (λ b. b ≢ 41)
no_end (Byte b high low ∷ ds) h =
    let first : high ≢ 41 = λ e. first_is_no_end low b (subst (λ x. byte_of (digit_value 16 x) (digit_value 16 low)
    ≡ Some b) e h.1) in
    let second : low ≢ 41 = λ e. digit_is_no_end (digit_value 16 high) b
    (subst (λ x. byte_of (digit_value 16 high) (digit_value 16 x) ≡ Some b) e h.1) in
    All-cons (λ b. b ≢ 41) high (low ∷ digits_written ds []) first
    (All-cons (λ b. b ≢ 41) low (digits_written ds []) second (no_end ds h.2))
no_end (Blank b ∷ ds) h =
    let other : b ≢ 41 = λ e. omega (arith, e, h.0) in
    All-cons (λ b. b ≢ 41) b (digits_written ds []) other (no_end ds h.1)

-- a group says its bytes
says : (ds : List Digits) → SayBytes ds → paired (digits_written ds []) ≡ Some (digits_bytes ds)
says [] h = refl
says (Byte b high low ∷ ds) h =
    let seen : is_blank high ≡ false = grind (arith, nat_tests, h.0) in
    pair_passed high low b (digits_written ds []) seen h.1
    ∙ ap (byte_and (Some b)) (says ds h.2)
says (Blank b ∷ ds) h =
    let blank : is_blank b ≡ true = grind (arith, nat_tests, h.0) in
    blank_passed b (digits_written ds []) blank ∙ says ds h.1

-- bytes up to one that ends them are as many as they are
counted : (end : ℕ) (bytes more : List ℕ) → All (λ b. b ≢ end) bytes
    → count_before end (bytes ++ end ∷ more) ≡ length bytes
counted end [] more h = let n : nat_eq end end ≡ true = grind (arith, nat_tests) in rw n refl
counted end (b ∷ bytes) more h =
    let n : nat_eq b end ≡ false = grind (arith, nat_tests, All-head (λ c. c ≢ end) b bytes h) in
    rw (take_while-cons (λ c. not (nat_eq c end)) b (bytes ++ end ∷ more), n)
    (ap suc (counted end bytes more (All-tail (λ c. c ≢ end) b bytes h)))

ends_there : (end : ℕ) (bytes more : List ℕ) → All (λ b. b ≢ end) bytes → has_byte end (bytes ++ end ∷ more) ≡ true
ends_there end bytes more h =
    let lengths : length (bytes ++ end ∷ more) ≡ length bytes + suc (length more) = length-append bytes (end ∷ more) in
    grind (arith, nat_tests, counted end bytes more h, lengths)

-- a group that is written is found
found : (ds : List Digits) (more : List ℕ) → SayBytes ds
    → group_in (group_written ds more) ≡ Some (digits_bytes ds, more)
found ds more h =
    let text : List ℕ = digits_written ds [] in
    ap (λ l. group_in (40 ∷ l)) (digits_apart ds (41 ∷ more))
    ∙ ap (λ t. if t then option_map (λ bytes. (bytes, (part_to 41 (text ++ 41 ∷ more)).1))
    (paired (part_to 41 (text ++ 41 ∷ more)).0) else None) (ends_there 41 text more (no_end ds h))
    ∙ ap (λ p. option_map (λ bytes. (bytes, p.1)) (paired p.0)) (ended 41 text more (no_end ds h))
    ∙ ap (λ o. option_map (λ bytes. (bytes, more)) o) (says ds h)

group_read : (bytes : List ℕ) (ds : List Digits) (more : List ℕ) → All (λ b. b ≢ 34) bytes → SayBytes ds
    → quoted_part (bytes ++ 34 ∷ group_written ds more)
    ≡ ((bytes ++ digits_bytes ds) ++ (quoted_part more).0, (quoted_part more).1)
group_read bytes ds more h k =
    let text : List ℕ = bytes ++ 34 ∷ group_written ds more in
    let lengths : length text ≡ length bytes + suc (length (group_written ds more)) =
    length-append bytes (34 ∷ group_written ds more) in
    let shorter : suc (length more) ≤ length (group_written ds more) =
    group_shorter (group_written ds more) (digits_bytes ds, more) (found ds more k) in
    let few : length more ≤ length text = omega (arith, lengths, shorter) in
    by_piece text
    ∙ ap (λ p. with_group p (group_in p.1) (grouped_part (length text))) (ended 34 bytes (group_written ds more) h)
    ∙ ap (λ g. with_group (bytes, group_written ds more) g (grouped_part (length text))) (found ds more k)
    ∙ ap (λ r. ((bytes ++ digits_bytes ds) ++ r.0, r.1)) (enough (length text) (length more) more few (omega arith))

-- ---- nothing else is a group

-- the pairs that are read are written
abbrev pub AreWritten : List ℕ → List ℕ → Type 0
AreWritten text bytes = (ds : List Digits) × SayBytes ds × (text ≡ digits_written ds [])

pairs_written : (text bytes : List ℕ) → paired text ≡ Some bytes → AreWritten text bytes
pairs_written [] bytes h = ([], tt, refl)
pairs_written (a ∷ []) bytes h = one (is_blank a) refl h
  where
    one : (t : Bool) → is_blank a ≡ t → (if t then Some [] else None) ≡ Some bytes → AreWritten (a ∷ []) bytes
    one true e h = let low : a ≤ 0x20 = grind (arith, nat_tests, e) in (Blank a ∷ [], (low, tt), refl)
    one false e h = absurd cc
pairs_written (a ∷ b ∷ text) bytes h =
    two (λ s i. pairs_written (b ∷ text) s i) (λ s i. pairs_written text s i) (is_blank a) refl h
  where
    joined : (x : Option ℕ) → byte_of (digit_value 16 a) (digit_value 16 b) ≡ x → (more : Option (List ℕ))
        → ((s : List ℕ) → more ≡ Some s → AreWritten text s) → is_blank a ≡ false → byte_and x more ≡ Some bytes
        → AreWritten (a ∷ b ∷ text) bytes
    joined None e more f low h = absurd cc
    joined (Some x) e None f low h = absurd cc
    joined (Some x) e (Some s) f low h =
        let w = f s refl in
        let high : 0x20 < a = grind (arith, nat_tests, low) in
        (Byte x a b ∷ w.0, (high, e, w.1), ap (λ l. a ∷ b ∷ l) w.2)

    two : ((s : List ℕ) → paired (b ∷ text) ≡ Some s → AreWritten (b ∷ text) s)
        → ((s : List ℕ) → paired text ≡ Some s → AreWritten text s) → (t : Bool) → is_blank a ≡ t
        → (if t then paired (b ∷ text) else byte_and (byte_of (digit_value 16 a) (digit_value 16 b)) (paired text))
        ≡ Some bytes
        → AreWritten (a ∷ b ∷ text) bytes
    two f g true e h =
        let w = f bytes h in
        let low : a ≤ 0x20 = grind (arith, nat_tests, e) in
        (Blank a ∷ w.0, (low, w.1), ap (λ l. a ∷ l) w.2)
    two f g false e h = joined (byte_of (digit_value 16 a) (digit_value 16 b)) refl (paired text) g e h

rejoined : (end : ℕ) (text : List ℕ) → has_byte end text ≡ true
    → text ≡ (part_to end text).0 ++ end ∷ (part_to end text).1
rejoined end [] h = let n : nat_lt 0 0 ≡ true = h in absurd cc
rejoined end (b ∷ text) h = at (λ k. rejoined end text k) (nat_eq b end) refl
  where
    at : (has_byte end text ≡ true → text ≡ (part_to end text).0 ++ end ∷ (part_to end text).1) → (t : Bool)
        → nat_eq b end ≡ t → b ∷ text ≡ (part_to end (b ∷ text)).0 ++ end ∷ (part_to end (b ∷ text)).1
    at f true e =
        let first : b ≡ end = grind (arith, nat_tests, e) in
        rw (take_while-cons (λ c. not (nat_eq c end)) b text, e) (ap (λ x. x ∷ text) first)
    at f false e =
        let other : b ≢ end = grind (arith, nat_tests, e) in
        let count : count_before end (b ∷ text) ≡ suc (count_before end text) =
        rw (take_while-cons (λ c. not (nat_eq c end)) b text, e) refl in
        let has : has_byte end text ≡ true = grind (arith, nat_tests, count, h) in
        ap (λ l. b ∷ l) (f has)
        ∙ ap (λ p. p.0 ++ end ∷ p.1) (sym (passed end b text other))

group_is_written : (text : List ℕ) (g : Parted) → group_in text ≡ Some g
    → (ds : List Digits) × SayBytes ds × (text ≡ group_written ds g.1)
group_is_written [] g h = absurd cc
group_is_written (b ∷ text) g h = opens (nat_eq b 40) refl h
  where
    Written : Type 0
    Written = (ds : List Digits) × SayBytes ds × (b ∷ text ≡ group_written ds g.1)

    says_it : b ≡ 40 → has_byte 41 text ≡ true → (o : Option (List ℕ)) → paired (part_to 41 text).0 ≡ o
        → option_map (λ bytes. (bytes, (part_to 41 text).1)) o ≡ Some g → Written
    says_it first has None e h = absurd cc
    says_it first has (Some bytes) e h =
        let w = pairs_written (part_to 41 text).0 bytes e in
        let rest : (part_to 41 text).1 ≡ g.1 = cc in (
          w.0,
          w.1,
          ap (λ x. x ∷ text) first
              ∙ ap (λ l. 40 ∷ l) (rejoined 41 text has ∙ ap (λ l. l ++ 41 ∷ (part_to 41 text).1) w.2
              ∙ sym (digits_apart w.0 (41 ∷ (part_to 41 text).1)) ∙ ap (λ l. digits_written w.0 (41 ∷ l)) rest),
        )

    closes : b ≡ 40 → (t : Bool) → has_byte 41 text ≡ t
        → (if t then option_map (λ bytes. (bytes, (part_to 41 text).1)) (paired (part_to 41 text).0) else None) ≡ Some g
        → Written
    closes first true e h = says_it first e (paired (part_to 41 text).0) refl h
    closes first false e h = absurd cc

    opens : (t : Bool) → nat_eq b 40 ≡ t → (if t then closed_pairs text else None) ≡ Some g → Written
    opens true e h =
        let first : b ≡ 40 = grind (arith, nat_tests, e) in closes first (has_byte 41 text) refl h
    opens false e h = absurd cc

none_found : (text : List ℕ) → HasNoGroup text → (o : Option Parted) → group_in text ≡ o → o ≡ None
none_found text h None e = refl
none_found text h (Some g) e =
    let w = group_is_written text g e in
    absurd (h w.0 g.1 w.1 w.2)

end_read : (bytes more : List ℕ) → All (λ b. b ≢ 34) bytes → HasNoGroup more
    → quoted_part (bytes ++ 34 ∷ more) ≡ (bytes, more)
end_read bytes more h k =
    let text : List ℕ = bytes ++ 34 ∷ more in
    by_piece text
    ∙ ap (λ p. with_group p (group_in p.1) (grouped_part (length text))) (ended 34 bytes more h)
    ∙ ap (λ g. with_group (bytes, more) g (grouped_part (length text))) (none_found more k (group_in more) refl)

unended_read : (bytes : List ℕ) → All (λ b. b ≢ 34) bytes → quoted_part bytes ≡ (bytes, [])
unended_read bytes h =
    by_piece bytes
    ∙ ap (λ p. with_group p (group_in p.1) (grouped_part (length bytes))) (unended 34 bytes h)

pub quoted_parts_are_read : QuotedPartsAreRead
quoted_parts_are_read = record { group = group_read; ended = end_read; unended = unended_read }
