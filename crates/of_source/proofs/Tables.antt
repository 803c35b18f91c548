-- The tokens of the words that a source can name have bytes.
use Rattle.std.proofs.Common.{◌≡◌, ℕ, zero, suc, ◌+◌, ◌<◌, ◌≤◌, Bool, true, false, ◌&&◌, List, [], ◌∷◌, length}
use Rattle.std.proofs.Common.{Option, Some, None, nat_eq, nat_lt, nat_le, if◌then◌else◌, refl, sym, ap, subst, ◌∙◌}
use Rattle.std.proofs.Common.{arith}
use Rattle.std.specs.Option.{option_map, option_map_or}
use Rattle.std.specs.List.{list_all}
use Rattle.std.specs.Str.{str_eq_ignore_ascii_case}
use Rattle.std.proofs.lemmas.Bool.{and_parts, false≢true}
use Rattle.std.proofs.lemmas.Bool.Decides.{nat_tests}
use Rattle.of_cells.specs.declared.cells.Cell.{Cell}
use Rattle.of_fcodes.specs.declared.codes.FCode.{FCode}
use Rattle.of_fcodes.specs.declared.operand.Operand.{Operand}
use Rattle.of_fcodes.specs.declared.operand.Operand.TheVariants as operand
use Rattle.of_fcodes.specs.Lookup.{number_named, operand_numbered, row_in, row_numbered, word_numbered}
use Rattle.of_fcodes.specs.Rows.{Row, rows, first_rows, second_rows, third_rows, fourth_rows, fifth_rows, sixth_rows}
use Rattle.of_fcodes.specs.Rows.{seventh_rows}
use Rattle.of_stream.specs.Bytes.{is_code}
use Rattle.of_source.specs.declared.keyword.Definer.TheVariants as definer
use Rattle.of_source.specs.declared.keyword.Keyword.{Keyword}
use Rattle.of_source.specs.declared.keyword.Keyword.TheVariants as keyword
use Rattle.of_source.specs.declared.keyword.Lone.TheVariants as lone
use Rattle.of_source.specs.declared.keyword.Maker.{Maker}
use Rattle.of_source.specs.declared.keyword.Maker.TheVariants.{Named, External, Unnamed}
use Rattle.of_source.specs.Encodable.{HasBytes, HasTokenBytes, UsesAmong}
use Rattle.of_source.specs.Items.{Item, bare, call, literal, making, naming, own_code, string}
use Rattle.of_source.specs.Items as item
use Rattle.of_source.specs.Keywords.{control_rows, fcode, if_ordinary, is_ordinary, keyword_in, keyword_named, or_in}
use Rattle.of_source.specs.Keywords.{ordinary_named, text_rows}
use Rattle.of_source.specs.Keywords as keywords
use Rattle.of_source.specs.Steps.{number_token}

abbrev pub is_nothing : Operand → Bool
is_nothing operand.Nothing = true
is_nothing _ = false

nothing_is : (o : Operand) → is_nothing o ≡ true → o ≡ operand.Nothing
nothing_is operand.Nothing h = refl
nothing_is operand.Literal h = absurd cc
nothing_is operand.String h = absurd cc
nothing_is operand.FCode h = absurd cc
nothing_is operand.Named h = absurd cc
nothing_is operand.Offset h = absurd cc

abbrev pub takes_code : Operand → Bool
takes_code operand.FCode = true
takes_code _ = false

code_is : (o : Operand) → takes_code o ≡ true → o ≡ operand.FCode
code_is operand.FCode h = refl
code_is operand.Nothing h = absurd cc
code_is operand.Literal h = absurd cc
code_is operand.String h = absurd cc
code_is operand.Named h = absurd cc
code_is operand.Offset h = absurd cc

-- an FCode behind which nothing stands
abbrev pub IsBare : FCode → Type 0
IsBare c = (is_code c.0 ≡ true) × (operand_numbered c.0 ≡ operand.Nothing)

pub bare_bytes : (c : FCode) → IsBare c → HasBytes (item.Plain (call c))
bare_bytes c h = ((h.0, sym h.1, refl), (h.0, sym h.1, refl))

-- ---- definitions

rows_low : list_all (λ (r : Row). nat_lt r.number 0x800) rows ≡ true
unfolding rows first_rows second_rows third_rows fourth_rows fifth_rows sixth_rows seventh_rows
rows_low = refl

above : (rs : List Row) (n : ℕ) → list_all (λ (r : Row). nat_lt r.number 0x800) rs ≡ true → 0x800 ≤ n
    → row_in rs n ≡ None
above [] n h l = refl
above (r ∷ rs) n h l =
    let e = and_parts (nat_lt r.number 0x800) (list_all (λ (x : Row). nat_lt x.number 0x800) rs) h in
    let t : nat_eq r.number n ≡ false = grind (arith, nat_tests, e.0, l) in
    rw t (above rs n e.1 l)

own_code_is : (k : ℕ) → k < 2048 → is_code (0x800 + k) ≡ true
own_code_is k l =
    let a : nat_lt 0x00f (0x800 + k) ≡ true = grind (arith, nat_tests) in
    let b : nat_lt (0x800 + k) 0x1000 ≡ true = grind (arith, nat_tests, l) in
    let c : nat_eq (0x800 + k) 0 ≡ false = grind (arith, nat_tests) in
    rw (c, a, b) refl

-- the FCode of a definition
pub own_bare : (k : ℕ) → k < 2048 → IsBare (own_code k)
unfolding row_numbered
own_bare k l = (
  own_code_is k l,
  ap (λ (o : Option Row). option_map_or (λ (r : Row). r.operand) o operand.Nothing)
      (above rows (0x800 + k) rows_low (omega arith)),
)

-- the token that gives a definition its number
pub making_bytes : (m : Maker) (name : List ℕ) (k : ℕ) → length name < 256 → k < 2048
    → HasTokenBytes (making m name (own_code k))
unfolding row_numbered rows first_rows second_rows third_rows fourth_rows fifth_rows
making_bytes Unnamed name k s l = let h = own_code_is k l in ((refl, refl, h), (refl, refl, h))
making_bytes Named name k s l =
    let h = own_code_is k l in
    let a : nat_lt (length name) 256 ≡ true = grind (arith, nat_tests, s) in
    let f : (nat_lt (length name) 256 && is_code (0x800 + k)) ≡ true = rw (a, h) refl in
    ((refl, refl, f), (refl, refl, f))
making_bytes External name k s l =
    let h = own_code_is k l in
    let a : nat_lt (length name) 256 ≡ true = grind (arith, nat_tests, s) in
    let f : (nat_lt (length name) 256 && is_code (0x800 + k)) ≡ true = rw (a, h) refl in
    ((refl, refl, f), (refl, refl, f))

-- ---- ordinary words

plain_row : Row → Bool
plain_row r = is_code r.number && (if is_ordinary (Some r.word) then is_nothing r.operand else true)

rows_plain : list_all plain_row rows ≡ true
unfolding plain_row rows first_rows second_rows third_rows fourth_rows fifth_rows sixth_rows seventh_rows
rows_plain = refl

found : (rs : List Row) (n : ℕ) (x : Row) → list_all plain_row rs ≡ true → row_in rs n ≡ Some x
    → (plain_row x ≡ true) × (x.number ≡ n)
found [] n x h e = absurd cc
found (r ∷ rs) n x h e =
    let w = and_parts (plain_row r) (list_all plain_row rs) h in
    pick w.0 (found rs n x w.1) (nat_eq r.number n) refl e
  where
    pick : plain_row r ≡ true → (row_in rs n ≡ Some x → (plain_row x ≡ true) × (x.number ≡ n)) → (b : Bool)
        → nat_eq r.number n ≡ b → (if b then Some r else row_in rs n) ≡ Some x → (plain_row x ≡ true) × (x.number ≡ n)
    pick w k true t e =
        let q : r ≡ x = cc in
        let m : r.number ≡ n = grind (arith, nat_tests, t) in
        subst (λ (y : Row). (plain_row y ≡ true) × (y.number ≡ n)) q (w, m)
    pick w k false t e = k e

ordinary_at : (n : ℕ) → is_ordinary (word_numbered n) ≡ true → IsBare (fcode n)
unfolding row_numbered plain_row
ordinary_at n h = at (row_in rows n) refl h
  where
    at : (o : Option Row) → row_in rows n ≡ o → is_ordinary (option_map (λ (r : Row). r.word) o) ≡ true
        → (is_code n ≡ true) × (option_map_or (λ (r : Row). r.operand) o operand.Nothing ≡ operand.Nothing)
    at None e h = absurd cc
    at (Some x) e h =
        let f = found rows n x rows_plain e in
        let w = and_parts (is_code x.number) (if is_ordinary (Some x.word) then is_nothing x.operand else true) f.0 in
        let g : is_nothing x.operand ≡ true =
        ap (λ (b : Bool). if b then is_nothing x.operand else true) (sym h) ∙ w.1 in
        (subst (λ m. is_code m ≡ true) f.1 w.0, nothing_is x.operand g)

pub named_ordinary : (name : List ℕ) (c : FCode) → ordinary_named name ≡ Some c
    → is_ordinary (word_numbered c.0) ≡ true
unfolding ordinary_named
named_ordinary name c h = named (number_named name) h
  where
    pick : (n : ℕ) (b : Bool) → is_ordinary (word_numbered n) ≡ b → (if b then Some (fcode n) else None) ≡ Some c
        → is_ordinary (word_numbered c.0) ≡ true
    pick n true t e =
        let q : fcode n ≡ c = cc in subst (λ (x : FCode). is_ordinary (word_numbered x.0) ≡ true) q t
    pick n false t e = absurd cc

    named : (o : Option ℕ) → if_ordinary o ≡ Some c → is_ordinary (word_numbered c.0) ≡ true
    named None e = absurd cc
    named (Some n) e = pick n (is_ordinary (word_numbered n)) refl e

pub ordinary_bare : (name : List ℕ) (c : FCode) → ordinary_named name ≡ Some c → IsBare c
ordinary_bare name c h = ordinary_at c.0 (named_ordinary name c h)

-- it is one of the board's
pub ordinary_low : (name : List ℕ) (c : FCode) → ordinary_named name ≡ Some c → c.0 < 0x800
unfolding row_numbered
ordinary_low name c h = either (nat_lt c.0 0x800) refl
  where
    either : (b : Bool) → nat_lt c.0 0x800 ≡ b → c.0 < 0x800
    either true e = grind (arith, nat_tests, e)
    either false e =
        let l : 0x800 ≤ c.0 = grind (arith, nat_tests, e) in
        let none : is_ordinary (word_numbered c.0) ≡ false =
        ap (λ (o : Option Row). is_ordinary (option_map (λ (r : Row). r.word) o)) (above rows c.0 rows_low l) in
        absurd (false≢true (sym none ∙ named_ordinary name c h))

-- ---- keywords

-- what each row passes
abbrev pub all_pass : (Keyword → Bool) → List keywords.Row → Bool
all_pass test rs = list_all (λ (r : keywords.Row). test r.1) rs

found_passes : (test : Keyword → Bool) (rs : List keywords.Row) → all_pass test rs ≡ true → (name : List ℕ)
    (k : Keyword) → keyword_in rs name ≡ Some k → test k ≡ true
found_passes test [] h name k e = absurd cc
found_passes test (r ∷ rs) h name k e =
    let w = and_parts (test r.1) (all_pass test rs) h in
    pick w.0 (found_passes test rs w.1 name k) (str_eq_ignore_ascii_case r.0 name) e
  where
    pick : test r.1 ≡ true → (keyword_in rs name ≡ Some k → test k ≡ true) → (b : Bool)
        → (if b then Some r.1 else keyword_in rs name) ≡ Some k → test k ≡ true
    pick w f true e = let q : r.1 ≡ k = cc in subst (λ x. test x ≡ true) q w
    pick w f false e = f e

-- what each row passes, a keyword passes
pub each_keyword : (test : Keyword → Bool) → all_pass test text_rows ≡ true → all_pass test control_rows ≡ true
    → (name : List ℕ) (k : Keyword) → keyword_named name ≡ Some k → test k ≡ true
unfolding keyword_named
each_keyword test t c name k h = either (keyword_in text_rows name) refl h
  where
    either : (o : Option Keyword) → keyword_in text_rows name ≡ o → or_in o (keyword_in control_rows name) ≡ Some k
        → test k ≡ true
    either None e h = found_passes test control_rows c name k h
    either (Some x) e h = let q : x ≡ k = cc in found_passes test text_rows t name k (e ∙ ap (λ y. Some y) q)

abbrev pub is_bare : FCode → Bool
is_bare c = is_code c.0 && is_nothing (operand_numbered c.0)

abbrev pub is_naming : FCode → Bool
is_naming c = is_code c.0 && takes_code (operand_numbered c.0)

-- the tokens of a keyword are of the kind that its step writes
abbrev pub is_good : Keyword → Bool
is_good (keyword.Defining (definer.Other t)) = is_bare t
is_good (keyword.Naming t) = is_naming t
is_good (keyword.Lone (lone.One t)) = is_bare t
is_good (keyword.Lone (lone.Two t u)) = is_bare t && is_bare u
is_good _ = true

text_good : all_pass is_good text_rows ≡ true
unfolding text_rows row_numbered rows first_rows second_rows third_rows fourth_rows fifth_rows sixth_rows seventh_rows
text_good = refl

control_good : all_pass is_good control_rows ≡ true
unfolding control_rows row_numbered rows first_rows second_rows third_rows fourth_rows fifth_rows sixth_rows
control_good = refl

pub keyword_good : (name : List ℕ) (k : Keyword) → keyword_named name ≡ Some k → is_good k ≡ true
keyword_good = each_keyword is_good text_good control_good

pub bare_good : (c : FCode) → is_bare c ≡ true → IsBare c
bare_good c h =
    let w = and_parts (is_code c.0) (is_nothing (operand_numbered c.0)) h in
    (w.0, nothing_is (operand_numbered c.0) w.1)

pub two_good : (c d : FCode) → (is_bare c && is_bare d) ≡ true → IsBare c × IsBare d
two_good c d h = let w = and_parts (is_bare c) (is_bare d) h in (bare_good c w.0, bare_good d w.1)

-- the tokens of keywords are the board's
abbrev is_low : Keyword → Bool
is_low (keyword.Naming t) = nat_lt t.0 0x800
is_low (keyword.Lone (lone.One t)) = nat_lt t.0 0x800
is_low (keyword.Lone (lone.Two t u)) = nat_lt t.0 0x800 && nat_lt u.0 0x800
is_low _ = true

text_low : all_pass is_low text_rows ≡ true
unfolding text_rows
text_low = refl

control_low : all_pass is_low control_rows ≡ true
unfolding control_rows
control_low = refl

keyword_low : (name : List ℕ) (k : Keyword) → keyword_named name ≡ Some k → is_low k ≡ true
keyword_low = each_keyword is_low text_low control_low

pub naming_low : (name : List ℕ) (t : FCode) → keyword_named name ≡ Some (keyword.Naming t) → t.0 < 0x800
naming_low name t h = let e = keyword_low name (keyword.Naming t) h in grind (arith, nat_tests, e)

pub one_low : (name : List ℕ) (t : FCode) → keyword_named name ≡ Some (keyword.Lone (lone.One t)) → t.0 < 0x800
one_low name t h = let e = keyword_low name (keyword.Lone (lone.One t)) h in grind (arith, nat_tests, e)

pub two_low : (name : List ℕ) (t u : FCode) → keyword_named name ≡ Some (keyword.Lone (lone.Two t u))
    → (t.0 < 0x800) × (u.0 < 0x800)
two_low name t u h =
    let e = and_parts (nat_lt t.0 0x800) (nat_lt u.0 0x800) (keyword_low name (keyword.Lone (lone.Two t u)) h) in
    (grind (arith, nat_tests, e.0), grind (arith, nat_tests, e.1))

-- `b(')` or `b(to)` and an FCode
pub naming_bytes : (t c : FCode) → is_naming t ≡ true → IsBare c → HasBytes (item.Plain (naming t c))
naming_bytes t c h k =
    let w = and_parts (is_code t.0) (takes_code (operand_numbered t.0)) h in
    let e = sym (code_is (operand_numbered t.0) w.1) in
    ((w.0, e, k.0), (w.0, e, k.0))

-- ---- numbers and strings

pub literal_bytes : (x : Cell) → HasBytes (item.Plain (literal x))
unfolding row_numbered rows first_rows
literal_bytes x = ((refl, refl, refl), (refl, refl, refl))

small_bytes : (n : ℕ) → n ≤ 3 → HasBytes (item.Plain (bare (0x0a5 + n)))
unfolding row_numbered rows first_rows second_rows third_rows fourth_rows fifth_rows
small_bytes zero l = ((refl, refl, refl), (refl, refl, refl))
small_bytes (suc zero) l = ((refl, refl, refl), (refl, refl, refl))
small_bytes (suc (suc zero)) l = ((refl, refl, refl), (refl, refl, refl))
small_bytes (suc (suc (suc zero))) l = ((refl, refl, refl), (refl, refl, refl))
small_bytes (suc (suc (suc (suc n)))) l = absurd (omega (arith, l))

pub number_bytes : (x : Cell) → HasBytes (item.Plain (number_token x))
unfolding row_numbered rows first_rows second_rows third_rows fourth_rows fifth_rows
number_bytes x = pick (nat_eq x.0 0xffffffff) (nat_le x.0 3) refl
  where
    pick : (a b : Bool) → nat_le x.0 3 ≡ b
        → HasBytes (item.Plain (if a then bare 0x0a4 else if b then bare (0x0a5 + x.0) else literal x))
    pick true b e = ((refl, refl, refl), (refl, refl, refl))
    pick false true e = small_bytes x.0 (grind (arith, nat_tests, e))
    pick false false e = literal_bytes x

pub string_bytes : (s : List ℕ) → length s < 256 → HasBytes (item.Plain (string s))
unfolding row_numbered rows first_rows
string_bytes s l =
    let a : nat_lt (length s) 256 ≡ true = grind (arith, nat_tests, l) in
    ((refl, refl, a), (refl, refl, a))

pub type_bytes : HasBytes (item.Plain (bare 0x090))
unfolding row_numbered rows first_rows second_rows third_rows fourth_rows fifth_rows
type_bytes = ((refl, refl, refl), (refl, refl, refl))

pub offset16_bytes : HasBytes (item.Plain (bare 0x0cc))
unfolding row_numbered rows first_rows second_rows third_rows fourth_rows fifth_rows
offset16_bytes = ((refl, refl, refl), (refl, refl, refl))

-- a number's token is the board's
pub number_among : (n : ℕ) (x : Cell) → UsesAmong n (item.Plain (number_token x))
number_among n x = pick (nat_eq x.0 0xffffffff) (nat_le x.0 3) refl
  where
    pick : (a b : Bool) → nat_le x.0 3 ≡ b
        → UsesAmong n (item.Plain (if a then bare 0x0a4 else if b then bare (0x0a5 + x.0) else literal x))
    pick true b e = (omega arith, tt)
    pick false true e = let l : x.0 ≤ 3 = grind (arith, nat_tests, e) in (omega (arith, l), tt)
    pick false false e = (omega arith, tt)
