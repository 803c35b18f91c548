-- The tokens of an accepted source that stand by themselves are plain.
use Rattle.std.proofs.Common.{◌≡◌, ℕ, zero, suc, ◌+◌, ◌≤◌, Bool, true, false, ◌&&◌, ◌||◌, not}
use Rattle.std.proofs.Common.{List, [], ◌∷◌, ◌++◌}
use Rattle.std.proofs.Common.{Option, Some, None, nat_eq, nat_le, if◌then◌else◌, refl, sym, ap, subst, ◌∙◌, arith}
use Rattle.std.proofs.Common.{append_assoc, inl, inr}
use Rattle.std.proofs.lemmas.Bool.{and_parts, false≢true}
use Rattle.std.proofs.lemmas.Bool.Decides.{nat_tests}
use Rattle.std.proofs.lemmas.List.{append-nil}
use Rattle.of_cells.specs.declared.cells.Cell.{Cell}
use Rattle.of_fcodes.specs.declared.codes.FCode.{FCode}
use Rattle.of_fcodes.specs.Lookup.{row_numbered, word_numbered}
use Rattle.of_fcodes.specs.Rows.{rows, first_rows, second_rows, third_rows, fourth_rows, fifth_rows, sixth_rows}
use Rattle.of_fcodes.specs.Rows.{seventh_rows}
use Rattle.of_stream.specs.Decoding.{Token}
use Rattle.of_source.specs.declared.keyword.Definer.TheVariants as definer
use Rattle.of_source.specs.declared.keyword.Quote.{Quote}
use Rattle.of_source.specs.declared.keyword.Quote.TheVariants as quote
use Rattle.of_source.specs.Steps.{string_items}
use Rattle.of_source.specs.declared.keyword.Keyword.{Keyword}
use Rattle.of_source.specs.declared.keyword.Keyword.TheVariants as keyword
use Rattle.of_source.specs.declared.keyword.Lone.TheVariants as lone
use Rattle.of_source.specs.Effects.{recursion}
use Rattle.of_source.specs.Items.{Item, Source, bare, call, literal, naming, own_code, string}
use Rattle.of_source.specs.Items as item
use Rattle.of_source.specs.Keywords.{control_rows, fcode, is_ordinary, keyword_named}
use Rattle.of_source.specs.Keywords.{ordinary_named, text_rows}
use Rattle.of_source.specs.Names.{Own}
use Rattle.of_source.specs.Phrases.{Phrase, Spelled, Ending, Known, all_behind, behind, begun_with, items_of, moved}
use Rattle.of_source.specs.Phrases as phrase
use Rattle.of_source.specs.Plain.{AcceptedIsPlain, ArePlain, IsPlain, is_kind, is_plain_code}
use Rattle.of_source.specs.Steps.{number_token}
use Rattle.of_scan.specs.Strings.{pieces_bytes}
use Rattle.of_source.specs.Written.{AreSaid, IsKeyword, IsPlaced, IsStraight, LeaveOpen}
use Rattle.of_source.proofs.AcceptedLemmas.{accepted_written}
use Rattle.of_source.proofs.Tables.{all_pass, each_keyword, named_ordinary}

-- ---- lists of items

behind_one : (front : List Item) (x : Item) (xs ys : List Item) → ArePlain (front ++ (x ∷ xs)) ys
    → ArePlain ((front ++ x ∷ []) ++ xs) ys
behind_one front x xs ys g = subst (λ is. ArePlain is ys) (sym (append_assoc front (x ∷ []) xs)) g

-- plain items behind plain items
onto : (front xs ys : List Item) → ArePlain front xs → ArePlain (front ++ xs) ys → ArePlain front (xs ++ ys)
onto front [] ys f g = subst (λ is. ArePlain is ys) (append-nil front) g
onto front (item.Plain t ∷ xs) ys f g =
    (f.0, f.1, onto (front ++ item.Plain t ∷ []) xs ys f.2 (behind_one front (item.Plain t) xs ys g))
onto front (item.Colon m ∷ xs) ys f g =
    onto (front ++ item.Colon m ∷ []) xs ys f (behind_one front (item.Colon m) xs ys g)
onto front (item.Defining m t ∷ xs) ys f g =
    (f.0, onto (front ++ item.Defining m t ∷ []) xs ys f.1 (behind_one front (item.Defining m t) xs ys g))
onto front (item.Semicolon ∷ xs) ys f g =
    onto (front ++ item.Semicolon ∷ []) xs ys f (behind_one front item.Semicolon xs ys g)
onto front (item.If l ∷ xs) ys f g = onto (front ++ item.If l ∷ []) xs ys f (behind_one front (item.If l) xs ys g)
onto front (item.Else l ∷ xs) ys f g = onto (front ++ item.Else l ∷ []) xs ys f (behind_one front (item.Else l) xs ys g)
onto front (item.Then ∷ xs) ys f g = onto (front ++ item.Then ∷ []) xs ys f (behind_one front item.Then xs ys g)
onto front (item.Begin ∷ xs) ys f g = onto (front ++ item.Begin ∷ []) xs ys f (behind_one front item.Begin xs ys g)
onto front (item.Back z l ∷ xs) ys f g =
    onto (front ++ item.Back z l ∷ []) xs ys f (behind_one front (item.Back z l) xs ys g)
onto front (item.Do q l ∷ xs) ys f g = onto (front ++ item.Do q l ∷ []) xs ys f (behind_one front (item.Do q l) xs ys g)
onto front (item.Loop q l ∷ xs) ys f g =
    onto (front ++ item.Loop q l ∷ []) xs ys f (behind_one front (item.Loop q l) xs ys g)
onto front (item.Leave ∷ xs) ys f g = onto (front ++ item.Leave ∷ []) xs ys f (behind_one front item.Leave xs ys g)
onto front (item.Case ∷ xs) ys f g = onto (front ++ item.Case ∷ []) xs ys f (behind_one front item.Case xs ys g)
onto front (item.Of l ∷ xs) ys f g = onto (front ++ item.Of l ∷ []) xs ys f (behind_one front (item.Of l) xs ys g)
onto front (item.EndOf l ∷ xs) ys f g =
    onto (front ++ item.EndOf l ∷ []) xs ys f (behind_one front (item.EndOf l) xs ys g)
onto front (item.EndCase ∷ xs) ys f g =
    onto (front ++ item.EndCase ∷ []) xs ys f (behind_one front item.EndCase xs ys g)

-- a plain token but `offset16`
abbrev IsWord : Token → Type 0
IsWord t = IsPlain t × (nat_eq t.code.0 0x0cc ≡ false)

never : (front : List Item) (n : ℕ) → nat_eq n 0x0cc ≡ false → n ≡ 0x0cc → LeaveOpen front IsStraight
never front n h e = let t : nat_eq n 0x0cc ≡ true = grind (arith, nat_tests, e) in absurd (false≢true (sym h ∙ t))

one : (front : List Item) (t : Token) → IsWord t → ArePlain front (item.Plain t ∷ [])
one front t h = (h.0, never front t.code.0 h.1, tt)

two : (front : List Item) (t u : Token) → IsWord t → IsWord u → ArePlain front (item.Plain t ∷ item.Plain u ∷ [])
two front t u h k = (h.0, never front t.code.0 h.1, one (front ++ item.Plain t ∷ []) u k)

-- ---- FCodes

not_false : (b : Bool) → not b ≡ true → b ≡ false
not_false true h = absurd cc
not_false false h = refl

-- an ordinary word
abbrev is_word : FCode → Bool
is_word c = is_ordinary (word_numbered c.0) && not (nat_eq c.0 0x0cc)

or_second : (a b : Bool) → b ≡ true → (a || b) ≡ true
or_second true b h = refl
or_second false b h = h

or_first : (a b : Bool) → a ≡ true → (a || b) ≡ true
or_first a b h = rw h refl

ordinary_plain : (n : ℕ) → is_ordinary (word_numbered n) ≡ true → is_plain_code n ≡ true
ordinary_plain n h =
    or_second (nat_le 0x800 n) _ (or_first (is_ordinary (word_numbered n)) (nat_eq n 0x0cc) h)

word_is : (c : FCode) → is_word c ≡ true → IsWord (call c)
word_is c h =
    let w = and_parts (is_ordinary (word_numbered c.0)) (not (nat_eq c.0 0x0cc)) h in
    (ordinary_plain c.0 w.0, not_false (nat_eq c.0 0x0cc) w.1)

own_is : (k : ℕ) → IsWord (call (own_code k))
own_is k =
    let high : nat_le 0x800 (0x800 + k) ≡ true = grind (arith, nat_tests) in
    let other : nat_eq (0x800 + k) 0x0cc ≡ false = grind (arith, nat_tests) in
    (or_first (nat_le 0x800 (0x800 + k)) _ high, other)

-- `offset16` is no ordinary word
no_ordinary : is_ordinary (word_numbered 0x0cc) ≡ false
unfolding row_numbered rows first_rows second_rows third_rows fourth_rows fifth_rows
no_ordinary = refl

ordinary_is : (n : ℕ) → is_ordinary (word_numbered n) ≡ true → IsWord (call (fcode n))
ordinary_is n h = (ordinary_plain n h, other (nat_eq n 0x0cc) refl)
  where
    other : (b : Bool) → nat_eq n 0x0cc ≡ b → b ≡ false
    other true e =
        let same : n ≡ 0x0cc = grind (arith, nat_tests, e) in
        absurd (false≢true (sym no_ordinary ∙ ap (λ k. is_ordinary (word_numbered k)) (sym same) ∙ h))
    other false e = refl

named_is : (name : List ℕ) (c : FCode) → ordinary_named name ≡ Some c → IsWord (call c)
named_is name c h = ordinary_is c.0 (named_ordinary name c h)

-- ---- keywords

-- the tokens of a keyword
abbrev is_fine : Keyword → Bool
is_fine (keyword.Defining (definer.Other t)) = is_kind t.0
is_fine (keyword.Naming t) = nat_eq t.0 0x011 || nat_eq t.0 0x0c3
is_fine (keyword.Lone (lone.One t)) = is_word t
is_fine (keyword.Lone (lone.Two t u)) = is_word t && is_word u
is_fine _ = true

text_fine : all_pass is_fine text_rows ≡ true
unfolding text_rows row_numbered rows first_rows second_rows third_rows fourth_rows fifth_rows sixth_rows seventh_rows
text_fine = refl

control_fine : all_pass is_fine control_rows ≡ true
unfolding control_rows row_numbered rows first_rows second_rows third_rows fourth_rows fifth_rows sixth_rows
control_fine = refl

fine : (name : List ℕ) (k : Keyword) → keyword_named name ≡ Some k → is_fine k ≡ true
fine = each_keyword is_fine text_fine control_fine

naming_is : (t c : FCode) → (nat_eq t.0 0x011 || nat_eq t.0 0x0c3) ≡ true → IsWord (naming t c)
naming_is t c h = pick (nat_eq t.0 0x011) (nat_eq t.0 0x0c3) refl refl h
  where
    pick : (a b : Bool) → nat_eq t.0 0x011 ≡ a → nat_eq t.0 0x0c3 ≡ b → (a || b) ≡ true → IsWord (naming t c)
    pick true b e f g =
        let same : t.0 ≡ 0x011 = grind (arith, nat_tests, e) in
        (inl same, grind (arith, nat_tests, same))
    pick false true e f g =
        let same : t.0 ≡ 0x0c3 = grind (arith, nat_tests, f) in
        (inr same, grind (arith, nat_tests, same))
    pick false false e f g = absurd (false≢true g)

-- ---- numbers and strings

number_is : (x : Cell) → IsWord (number_token x)
unfolding row_numbered rows first_rows second_rows third_rows fourth_rows fifth_rows
number_is x = pick (nat_eq x.0 0xffffffff) (nat_le x.0 3) refl
  where
    small : (n : ℕ) → n ≤ 3 → IsWord (bare (0x0a5 + n))
    small zero l = (refl, refl)
    small (suc zero) l = (refl, refl)
    small (suc (suc zero)) l = (refl, refl)
    small (suc (suc (suc zero))) l = (refl, refl)
    small (suc (suc (suc (suc n)))) l = absurd (omega (arith, l))

    pick : (a b : Bool) → nat_le x.0 3 ≡ b
        → IsWord (if a then bare 0x0a4 else if b then bare (0x0a5 + x.0) else literal x)
    pick true b e = (refl, refl)
    pick false true e = small x.0 (grind (arith, nat_tests, e))
    pick false false e = (refl, refl)

type_is : IsWord (bare 0x090)
unfolding row_numbered rows first_rows second_rows third_rows fourth_rows fifth_rows
type_is = (refl, refl)

-- ---- phrases

strings : (q : Quote) (front : List Item) (bytes : List ℕ) → ArePlain front (string_items q bytes)
strings quote.Printed front bytes = two front (string bytes) (bare 0x090) (refl, refl) type_is
strings _ front bytes = one front (string bytes) (refl, refl)

recursions : (o : Option Own) (front : List Item) → ArePlain front (recursion o)
recursions None front = tt
recursions (Some d) front = one front (call (own_code d.number)) (own_is d.number)

phrase_plain : (p : Phrase) (k : Known) (word : List ℕ) → IsKeyword word p → IsPlaced k word p
    → ArePlain k.items (items_of p k)
unfolding row_numbered rows first_rows second_rows third_rows fourth_rows fifth_rows
phrase_plain (phrase.OwnWord n) k word m h = one k.items (call (own_code n)) (own_is n)
phrase_plain (phrase.BoardWord c) k word m h = one k.items (call c) (named_is word c h)
phrase_plain (phrase.Number x) k word m h = one k.items (number_token x) (number_is x)
phrase_plain (phrase.NumberIn base blanks digits x) k word m h = one k.items (number_token x) (number_is x)
phrase_plain (phrase.Character blanks b bytes) k word m h =
    one k.items (number_token (record { 0 = b })) (number_is (record { 0 = b }))
phrase_plain (phrase.Text prints blank bytes) k word m h = strings (phrase.quote_if prints) k.items bytes
phrase_plain (phrase.Quoted blank pieces bytes) k word m h =
    one k.items (string (pieces_bytes pieces ++ bytes)) (refl, refl)
phrase_plain (phrase.Naming t blanks name c) k word m h =
    one k.items (naming t c) (naming_is t c (fine word (keyword.Naming t) m))
phrase_plain (phrase.Defining (definer.Other t) blanks name) k word m h =
    (fine word (keyword.Defining (definer.Other t)) m, tt)
phrase_plain (phrase.Alone (lone.One t)) k word m h =
    one k.items (call t) (word_is t (fine word (keyword.Lone (lone.One t)) m))
phrase_plain (phrase.Alone (lone.Two t u)) k word m h =
    let w = and_parts (is_word t) (is_word u) (fine word (keyword.Lone (lone.Two t u)) m) in
    two k.items (call t) (call u) (word_is t w.0) (word_is u w.1)
phrase_plain (phrase.Alone lone.Recurse) k word m h = recursions k.setting.open_one k.items
phrase_plain (phrase.Alone lone.Offset16) k word m h = (refl, λ e. h, tt)
phrase_plain _ k word m h = tt

all_plain : (ps : List Spelled) (e : Ending) (k : Known) → AreSaid ps e k → ArePlain [] k.items
    → ArePlain [] (all_behind ps k).items
all_plain [] e k s h = h
all_plain (p ∷ ps) e k s h =
    let here = moved p.blanks k in
    let more = phrase_plain p.phrase here p.word s.0.means s.0.placed in
    all_plain ps e (behind p.word p.phrase here) s.1 (onto [] k.items (items_of p.phrase here) h more)

pub accepted_plain : AcceptedIsPlain
accepted_plain text s a =
    let w = (accepted_written.accepted text s a).0 in
    subst (ArePlain []) (sym w.items) (all_plain w.phrases w.ending (begun_with w.beginning) w.said tt)
