-- The elements that tokens leave, where each plain token leaves an item of its own.
use Rattle.std.proofs.Common.{◌≡◌, ℕ, ◌<◌, ◌≤◌, ◌||◌, Bool, true, false, not, nat_eq, nat_le, nat_lt}
use Rattle.std.proofs.Common.{List, [], ◌∷◌, ◌++◌, length, Option, Some, None, refl, ap, ◌∙◌, arith, eqb-true, inl}
use Rattle.std.proofs.Common.{inr}
use Rattle.std.proofs.Common.{if◌then◌else◌}
use Rattle.std.specs.Prelude.{◌==◌, ◌/◌, ◌%◌}
use Rattle.std.proofs.lemmas.Bool.{eq-eqb, leb-true, ne_eqb}
use Rattle.of_fcodes.specs.declared.words.StreamWord.TheVariants as stream
use Rattle.of_fcodes.specs.declared.words.Word.{Word}
use Rattle.of_fcodes.specs.declared.words.Word.TheVariants as word
use Rattle.of_fcodes.specs.Lookup.{word_numbered}
use Rattle.of_stream.specs.Bytes.{argument_bytes, token_bytes}
use Rattle.of_stream.specs.Decoding.{Argument, Code, Literal, Named, Nothing, Offset, String, Token}
use Rattle.of_control.specs.Element.{Element}
use Rattle.of_control.specs.Element as element
use Rattle.of_compile.specs.declared.element.PlainItem.{PlainItem}
use Rattle.of_source.specs.Keywords.{is_ordinary}
use Rattle.of_source.specs.Plain.{IsPlain, IsPlainWith}
use Rattle.of_tok.specs.declared.place.Place.{Place}
use Rattle.of_tok.specs.Places.{behind}
use Rattle.of_tok.specs.Tokens.{Written, token_of}
use Rattle.of_meaning.specs.Elements.{control_element, element_by, elements_left, left_behind}
use Rattle.of_meaning.specs.Pairs.{leaves_one, offset16_code}
use Rattle.of_means.specs.Sources.{IsSteady}
use Rattle.of_means.proofs.Started.{own_is_none}

-- ---- plain tokens are none of control

ordinary_none : (o : Option Word) (position : ℕ) → is_ordinary o ≡ true → element_by Nothing o position ≡ None
ordinary_none None position h = refl
ordinary_none (Some (word.Stream w)) position h = absurd cc
ordinary_none (Some (word.Primitive w)) position h = refl
ordinary_none (Some (word.Printing w)) position h = refl
ordinary_none (Some (word.Heap w)) position h = refl
ordinary_none (Some (word.Keys w)) position h = refl
ordinary_none (Some (word.Returns w)) position h = refl
ordinary_none (Some (word.Dictionary w)) position h = refl
ordinary_none (Some (word.Throws w)) position h = refl
ordinary_none (Some (word.Properties w)) position h = refl
ordinary_none (Some (word.Tree w)) position h = refl
ordinary_none (Some (word.Devices w)) position h = refl
ordinary_none (Some (word.Console w)) position h = refl
ordinary_none (Some (word.Parsing w)) position h = refl
ordinary_none (Some (word.Compiling w)) position h = refl

bare_none : (a b d : Bool) (code position : ℕ) → nat_le 0x800 code ≡ a → is_ordinary (word_numbered code) ≡ b
    → nat_eq code 0x0cc ≡ d → (code ≡ 0x0cc → ⊥) → (a || (b || d)) ≡ true
    → element_by Nothing (word_numbered code) position ≡ None
bare_none true b d code position own ordinary wide steady h =
    ap (λ o. element_by Nothing o position) (own_is_none code (leb-true 0x800 code own))
bare_none false true d code position own ordinary wide steady h = ordinary_none (word_numbered code) position ordinary
bare_none false false true code position own ordinary wide steady h = absurd (steady (eqb-true code 0x0cc wide))
bare_none false false false code position own ordinary wide steady h = absurd cc

none_with : (a : Argument) (code position : ℕ) → IsPlainWith a code → (code ≡ 0x0cc → ⊥)
    → element_by a (word_numbered code) position ≡ None
none_with Nothing code position h steady =
    bare_none (nat_le 0x800 code) (is_ordinary (word_numbered code)) (nat_eq code 0x0cc) code position refl refl refl
    steady h
none_with (Literal x) code position h steady = refl
none_with (String s) code position h steady = refl
none_with (Code c) code position h steady = refl
none_with (Named s c) code position h steady = absurd h
none_with (Offset by) code position h steady = absurd h

pub plain_none : (t : Token) (position : ℕ) → IsPlain t → IsSteady t → control_element t position ≡ None
plain_none t position h steady = none_with t.argument t.code.0 position h steady

leaves : (t : Token) → IsSteady t → leaves_one t ≡ true
leaves t steady = ap (λ (b : Bool). not b) (ne_eqb t.code.0 0x0cc steady)

-- a plain token leaves its item, and one of control its element
pub plain_left : (f : Token → Place → PlainItem) (t : Token) (p : Place) (es : List (Element PlainItem)) → IsPlain t
    → IsSteady t → left_behind (control_element t p.position) f t p es ≡ element.Plain (f t p) ∷ es
plain_left f t p es h steady =
    ap (λ (o : Option (Element PlainItem)). left_behind o f t p es) (plain_none t p.position h steady)
    ∙ ap (λ (b : Bool). if b then element.Plain (f t p) ∷ es else es) (leaves t steady)

pub control_left : (f : Token → Place → PlainItem) (t : Token) (p : Place) (e : Element PlainItem)
    (es : List (Element PlainItem)) → control_element t p.position ≡ Some e
    → left_behind (control_element t p.position) f t p es ≡ e ∷ es
control_left f t p e es h = ap (λ (o : Option (Element PlainItem)). left_behind o f t p es) h

-- `offset16` leaves none
pub wide_left : (f : Token → Place → PlainItem) (t : Token) (p : Place) (es : List (Element PlainItem))
    → word_numbered offset16_code ≡ Some (word.Stream stream.Offset16) → t.code.0 ≡ 0x0cc → t.argument ≡ Nothing
    → (control_element t p.position ≡ None) × (left_behind (control_element t p.position) f t p es ≡ es)
wide_left f t p es wider e a =
    let none : control_element t p.position ≡ None =
    ap (λ (x : Argument). element_by x (word_numbered t.code.0) p.position) a
    ∙ ap (λ (n : ℕ). element_by Nothing (word_numbered n) p.position) e
    ∙ ap (λ (w : Option Word). element_by Nothing w p.position) wider in (
      none,
      ap (λ (o : Option (Element PlainItem)). left_behind o f t p es) none
          ∙ ap (λ (n : ℕ). if not (nat_eq n offset16_code) then element.Plain (f t p) ∷ es else es) e,
    )

-- it has nothing behind it
pub wide_bare : (t : Token) → IsPlain t → t.code.0 ≡ 0x0cc → t.argument ≡ Nothing
wide_bare t h e = bare_with t.argument t.code.0 h e
  where
    bare_with : (a : Argument) (k : ℕ) → IsPlainWith a k → k ≡ 0x0cc → a ≡ Nothing
    bare_with Nothing k i f = refl
    bare_with (Literal x) k i f = absurd (omega (arith, i, f))
    bare_with (String s) k i f = absurd (omega (arith, i, f))
    bare_with (Code c) k (inl i) f = absurd (omega (arith, i, f))
    bare_with (Code c) k (inr i) f = absurd (omega (arith, i, f))
    bare_with (Named s c) k i f = absurd i
    bare_with (Offset by) k i f = absurd i

-- ---- items by places

some_bytes : (b : Bool) (x y z : ℕ) (more : List ℕ)
    → 0 < length ((if b then x ∷ [] else y ∷ z ∷ []) ++ more)
some_bytes true x y z more = omega arith
some_bytes false x y z more = omega arith

-- tokens stand one behind another
goes_on : (t : Token) (p : Place) → p.position < (behind t p).position
unfolding token_bytes
goes_on t p =
    let k = t.code.0 in
    let n = some_bytes (nat_lt k 256) k (k / 256) (k % 256) (argument_bytes p.size t.argument) in
    omega (arith, n)

left_same : (o : Option (Element PlainItem)) (f g : Token → Place → PlainItem) (t : Token) (p : Place)
    (es : List (Element PlainItem)) → f t p ≡ g t p → left_behind o f t p es ≡ left_behind o g t p es
left_same (Some e) f g t p es h = refl
left_same None f g t p es h =
    ap (λ (x : PlainItem). if leaves_one t then element.Plain x ∷ es else es) h

agree : (f g : Token → Place → PlainItem) (ws : List Written) (q : Place) (es : List (Element PlainItem))
    → ((t : Token) (p : Place) → q.position ≤ p.position → f t p ≡ g t p)
    → elements_left f ws q es ≡ elements_left g ws q es
agree f g [] q es h = refl
agree f g (w ∷ ws) q es h =
    let t = token_of w in
    let r = behind t q in
    let o = control_element t q.position in
    let more = goes_on t q in
    ap (λ (x : List (Element PlainItem)). elements_left f ws r x) (left_same o f g t q es (h t q (omega arith)))
    ∙ agree f g ws r (left_behind o g t q es) (λ u p le. h u p (omega (arith, le, more)))

-- an item for the first token, and those for the others
abbrev pub with_first : ℕ → PlainItem → (Token → Place → PlainItem) → Token → Place → PlainItem
with_first n x f t p = if p.position == n then x else f t p

pub first_left : (x : PlainItem) (f : Token → Place → PlainItem) (w : Written) (ws : List Written) (p : Place)
    (es : List (Element PlainItem))
    → elements_left (with_first p.position x f) (w ∷ ws) p es
    ≡ elements_left f ws (behind (token_of w) p)
    (left_behind (control_element (token_of w) p.position) (λ t q. x) (token_of w) p es)
first_left x f w ws p es =
    let t = token_of w in
    let q = behind t p in
    let o = control_element t p.position in
    let g = with_first p.position x f in
    let more = goes_on t p in
    ap (λ (y : List (Element PlainItem)). elements_left g ws q y)
    (left_same o g (λ t q. x) t p es
    (ap (λ (b : Bool). if b then x else f t p) (eq-eqb p.position p.position refl)))
    ∙ agree g f ws q (left_behind o (λ t q. x) t p es)
    (λ u r le.
    ap (λ (b : Bool). if b then x else f u r) (ne_eqb r.position p.position (λ e. omega (arith, e, le, more))))
