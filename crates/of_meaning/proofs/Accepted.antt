-- The definitions of an accepted source close what they open, and their plain tokens are plain.
use Rattle.std.proofs.Common.{◌≡◌, ◌<◌, ◌≤◌, ◌||◌, ◌&&◌, ℕ, ◌+◌, ◌-◌, Bool, true, false, nat_eq, nat_le, nat_lt}
use Rattle.std.proofs.Common.{List, [], ◌∷◌, ◌++◌, Option, Some, None, refl, ap, arith, if◌then◌else◌}
use Rattle.std.specs.List.{list_all}
use Rattle.std.specs.Option.{option_map}
use Rattle.std.proofs.lemmas.Bool.{eqb-true, leb-true, ltb-true}
use Rattle.of_fcodes.specs.declared.words.Word.{Word}
use Rattle.of_fcodes.specs.declared.words.Word.TheVariants as word
use Rattle.of_fcodes.specs.Lookup.{row_in, row_numbered, word_numbered}
use Rattle.of_fcodes.specs.Rows.{Row, rows, first_rows, second_rows, third_rows, fourth_rows, fifth_rows, sixth_rows}
use Rattle.of_fcodes.specs.Rows.{seventh_rows}
use Rattle.of_stream.specs.Decoding.{Argument, Code, Literal, Named, Nothing, Offset, String, Token}
use Rattle.of_source.specs.Items.{Item}
use Rattle.of_source.specs.Items as item
use Rattle.of_source.specs.Keywords.{is_ordinary}
use Rattle.of_source.specs.Nest.{Around, Fits, Nest, Stop, Plain, Definition, Defining, If, Else, Then, Begin, Do}
use Rattle.of_source.specs.Nest.{Leave, Case, Of, in_part, items_of, open_behind}
use Rattle.of_source.specs.Plain.{IsPlain, IsPlainWith}
use Rattle.of_source.specs.Plain.{ArePlain as SourcePlain}
use Rattle.of_meaning.specs.Elements.{ArePlain, control_element, element_by}
use Rattle.of_meaning.specs.Laws.{EachInside, in_definition}

-- ---- plain tokens

-- no FCode of a written word is an own one
none_low : (rs : List Row) (n : ℕ) → list_all (λ (r : Row). nat_lt r.number 0x800) rs ≡ true → 0x800 ≤ n
    → row_in rs n ≡ None
none_low [] n h l = refl
none_low (r ∷ rs) n h l =
    by_number (nat_eq r.number n) (λ e. eqb-true r.number n e)
    (ltb-true r.number 0x800 (first_of (nat_lt r.number 0x800) h))
    (none_low rs n (rest_of (nat_lt r.number 0x800) h) l)
  where
    first_of : (b : Bool) → (b && list_all (λ (r : Row). nat_lt r.number 0x800) rs) ≡ true → b ≡ true
    first_of true e = refl
    first_of false e = absurd cc

    rest_of : (b : Bool) → (b && list_all (λ (r : Row). nat_lt r.number 0x800) rs) ≡ true
        → list_all (λ (r : Row). nat_lt r.number 0x800) rs ≡ true
    rest_of true e = e
    rest_of false e = absurd cc

    by_number : (b : Bool) → (b ≡ true → r.number ≡ n) → r.number < 0x800 → row_in rs n ≡ None
        → (if b then Some r else row_in rs n) ≡ None
    by_number true same low none = absurd (omega (arith, same refl, low, l))
    by_number false same low none = none

own_is_none : (n : ℕ) → 0x800 ≤ n → word_numbered n ≡ None
unfolding row_numbered rows first_rows second_rows third_rows fourth_rows fifth_rows sixth_rows seventh_rows
own_is_none n l = ap (option_map (λ (r : Row). r.word)) (none_low rows n refl l)

-- a word that has no operand and is ordinary, or not listed, is none of control
ordinary_none : (o : Option Word) (position : ℕ) → is_ordinary o ≡ true → element_by Nothing o position ≡ None
ordinary_none None position h = refl
ordinary_none (Some (word.Stream w)) position h = absurd cc
ordinary_none (Some (word.Primitive w)) position h = refl
ordinary_none (Some (word.Printing w)) position h = refl
ordinary_none (Some (word.Heap w)) position h = refl
ordinary_none (Some (word.Keys w)) position h = refl
ordinary_none (Some (word.Returns w)) position h = refl
ordinary_none (Some (word.Dictionary w)) position h = refl
ordinary_none (Some (word.Throws w)) position h = refl
ordinary_none (Some (word.Properties w)) position h = refl
ordinary_none (Some (word.Tree w)) position h = refl
ordinary_none (Some (word.Devices w)) position h = refl
ordinary_none (Some (word.Console w)) position h = refl
ordinary_none (Some (word.Parsing w)) position h = refl
ordinary_none (Some (word.Compiling w)) position h = refl

bare_none : (a b c : Bool) (code position : ℕ) → nat_le 0x800 code ≡ a → is_ordinary (word_numbered code) ≡ b
    → nat_eq code 0x0cc ≡ c → (a || (b || c)) ≡ true → element_by Nothing (word_numbered code) position ≡ None
unfolding row_numbered rows first_rows second_rows third_rows fourth_rows fifth_rows sixth_rows seventh_rows
bare_none true b c code position own ordinary wide h =
    ap (λ o. element_by Nothing o position) (own_is_none code (leb-true 0x800 code own))
bare_none false true c code position own ordinary wide h = ordinary_none (word_numbered code) position ordinary
bare_none false false true code position own ordinary wide h =
    ap (λ n. element_by Nothing (word_numbered n) position) (eqb-true code 0x0cc wide)
bare_none false false false code position own ordinary wide h = absurd cc

plain_with : (a : Argument) (code position : ℕ) → IsPlainWith a code → element_by a (word_numbered code) position ≡ None
plain_with Nothing code position h =
    bare_none (nat_le 0x800 code) (is_ordinary (word_numbered code)) (nat_eq code 0x0cc) code position refl refl refl h
plain_with (Literal x) code position h = refl
plain_with (String s) code position h = refl
plain_with (Code c) code position h = refl
plain_with (Named s c) code position h = absurd h
plain_with (Offset by) code position h = absurd h

is_plain : (t : Token) → IsPlain t → (position : ℕ) → control_element t position ≡ None
is_plain t h position = plain_with t.argument t.code.0 position h

-- ---- from items to the nest

-- what is behind the items of a nest is plain as behind them
pub plain_parts : (x : Nest) (front more : List Item) → SourcePlain front (items_of x more)
    → ArePlain x × ((behind : List Item) × SourcePlain behind more)
plain_parts Stop front more h = (tt, (front, h))
plain_parts (Plain t r) front more h =
    let n = plain_parts r (front ++ item.Plain t ∷ []) more h.2 in ((is_plain t h.0, n.0), n.1)
plain_parts (Definition m i r) front more h =
    let a = plain_parts i (front ++ item.Colon m ∷ []) (item.Semicolon ∷ items_of r more) h in
    let b = plain_parts r (a.1.0 ++ item.Semicolon ∷ []) more a.1.1 in
    ((a.0, b.0), b.1)
plain_parts (Defining m t r) front more h = plain_parts r (front ++ item.Defining m t ∷ []) more h.1
plain_parts (If l r) front more h = plain_parts r (front ++ item.If l ∷ []) more h
plain_parts (Else l r) front more h = plain_parts r (front ++ item.Else l ∷ []) more h
plain_parts (Then r) front more h = plain_parts r (front ++ item.Then ∷ []) more h
plain_parts (Begin i z l r) front more h =
    let a = plain_parts i (front ++ item.Begin ∷ []) (item.Back z l ∷ items_of r more) h in
    let b = plain_parts r (a.1.0 ++ item.Back z l ∷ []) more a.1.1 in
    ((a.0, b.0), b.1)
plain_parts (Do q k i l m r) front more h =
    let a = plain_parts i (front ++ item.Do q k ∷ []) (item.Loop l m ∷ items_of r more) h in
    let b = plain_parts r (a.1.0 ++ item.Loop l m ∷ []) more a.1.1 in
    ((a.0, b.0), b.1)
plain_parts (Leave r) front more h = plain_parts r (front ++ item.Leave ∷ []) more h
plain_parts (Case i r) front more h =
    let a = plain_parts i (front ++ item.Case ∷ []) (item.EndCase ∷ items_of r more) h in
    let b = plain_parts r (a.1.0 ++ item.EndCase ∷ []) more a.1.1 in
    ((a.0, b.0), b.1)
plain_parts (Of k i m r) front more h =
    let a = plain_parts i (front ++ item.Of k ∷ []) (item.EndOf m ∷ items_of r more) h in
    let b = plain_parts r (a.1.0 ++ item.EndOf m ∷ []) more a.1.1 in
    ((a.0, b.0), b.1)

-- ---- each definition

pub each_inside : (P : Nest → Type 0)
    → ((i : Nest) (d : ℕ) → Fits i in_definition d d → open_behind i d ≡ d → ArePlain i → P i)
    → (x : Nest) (a : Around) (floor d : ℕ) → Fits x a floor d → ArePlain x → EachInside P x
each_inside P law Stop a floor d h plain = tt
each_inside P law (Plain t r) a floor d h plain = each_inside P law r a floor d h plain.1
each_inside P law (Definition m i r) a floor d h plain =
    (law i d h.1 h.2 plain.0, each_inside P law r a floor d h.3 plain.1)
each_inside P law (Defining m t r) a floor d h plain = each_inside P law r a floor d h.1 plain
each_inside P law (If l r) a floor d h plain = each_inside P law r a floor (d + 1) h plain
each_inside P law (Else l r) a floor d h plain = each_inside P law r a floor d h.1 plain
each_inside P law (Then r) a floor d h plain = each_inside P law r a floor (d - 1) h.1 plain
each_inside P law (Begin i z l r) a floor d h plain = (
  each_inside P law i (in_part a) d d h.0 plain.0,
  each_inside P law r a floor (open_behind i d) h.1 plain.1,
)
each_inside P law (Do q k i l m r) a floor d h plain = (
  each_inside P law i (record { defines = a.defines; loops = true; cases = false }) d d h.0 plain.0,
  each_inside P law r a floor d h.2 plain.1,
)
each_inside P law (Leave r) a floor d h plain = each_inside P law r a floor d h.1 plain
each_inside P law (Case i r) a floor d h plain = (
  each_inside P law i (record { defines = a.defines; loops = a.loops; cases = true }) d d h.0 plain.0,
  each_inside P law r a floor d h.2 plain.1,
)
each_inside P law (Of k i m r) a floor d h plain =
    (each_inside P law i (in_part a) d d h.2 plain.0, each_inside P law r a floor d h.4 plain.1)
