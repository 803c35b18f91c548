-- The calls of the words of control decide whether a definition is a nest.
use Rattle.std.proofs.Common.{◌≡◌, ℕ, zero, suc, ◌+◌, ◌-◌, ◌<◌, ◌≤◌, List, [], ◌∷◌, Option, Some, None, Bool}
use Rattle.std.proofs.Common.{true, false, cond, not, ◌||◌, nat_eq, is_some, refl, sym, ap, ◌∙◌, arith}
use Rattle.of_stream.specs.declared.stream.OffsetSize.{OffsetSize}
use Rattle.of_stream.specs.Decoding.{Token, token_from}
use Rattle.of_stream.specs.Sizes.{is_end, size_behind}
use Rattle.of_control.specs.Body.{Body}
use Rattle.of_control.specs.Calls.{after_call, after_calls}
use Rattle.of_control.specs.Element.{Element, Plain, Branch, Resolve, Mark, Back, Roll, Do, Loop, Leave, Case, Of}
use Rattle.of_control.specs.Element.{EndOf, EndCase, Misfit}
use Rattle.of_control.specs.Law.{ClosedIsRead}
use Rattle.of_control.specs.Openers.{Openers, is_all_closed}
use Rattle.of_control.specs.Reading.{body_in}
use Rattle.of_compile.specs.declared.element.PlainItem.{PlainItem}
use Rattle.of_check.specs.Tokens.{Standing, Tokens, no_more, tokens_from}
use Rattle.of_check.specs.Structures.{PlainItemsFit, control_element, control_only, elements_behind, have_no_body}
use Rattle.of_check.specs.Structures.{is_control, is_unnested, left_behind}
use Rattle.of_check.specs.Table.{called}

-- what the calls leave open, all made at the place 0
abbrev pub opened : List (Element PlainItem) → Openers
opened es = after_calls 32 (λ _. 0) es

-- what the tokens of a definition come to behind these calls
abbrev pub judged : Openers → List Standing → Bool
judged os [] = false
judged os (s ∷ ss) =
    cond (nat_eq s.token.code.0 0x0c2) (not (is_all_closed os))
    (cond (nat_eq s.token.code.0 0x0b7) false (judged (called (control_element s) os) ss))

-- ---- a body is there where all is closed

read_by : ClosedIsRead PlainItem 32 → (es : List (Element PlainItem)) (t : Bool) (o : Option (Body PlainItem))
    → is_all_closed (opened es) ≡ t → body_in 32 es ≡ o → t ≡ is_some o
read_by law es true (Some b) h e = refl
read_by law es false None h e = refl
read_by law es true None h e =
    let found = (law.read (λ _. 0) es).0 h in
    let some = (law.found es found.0).1 found.1 in
    absurd cc
read_by law es false (Some b) h e =
    let closed = (law.read (λ _. 0) es).1 (b, (law.found es b).0 e) in
    absurd cc

pub closed_is_body : ClosedIsRead PlainItem 32 → (es : List (Element PlainItem))
    → is_all_closed (opened es) ≡ is_some (body_in 32 es)
closed_is_body law es = read_by law es (is_all_closed (opened es)) (body_in 32 es) refl refl

-- ---- the calls and the elements

called_left : (o : Option (Element PlainItem)) (es : List (Element PlainItem))
    → called o (opened es) ≡ opened (left_behind o es)
called_left None es = refl
called_left (Some e) es = refl

judged_by : ClosedIsRead PlainItem 32 → (t u : Bool) (es : List (Element PlainItem)) (x : Bool)
    (o : Option (List (Element PlainItem))) → x ≡ have_no_body o
    → cond t (not (is_all_closed (opened es))) (cond u false x) ≡ have_no_body (cond t (Some es) (cond u None o))
judged_by law true u es x o h = ap not (closed_is_body law es)
judged_by law false true es x o h = refl
judged_by law false false es x o h = h

judged_behind : ClosedIsRead PlainItem 32 → (es : List (Element PlainItem)) (ss : List Standing)
    → judged (opened es) ss ≡ have_no_body (elements_behind es ss)
judged_behind law es [] = refl
judged_behind law es (s ∷ ss) =
    judged_by law (nat_eq s.token.code.0 0x0c2) (nat_eq s.token.code.0 0x0b7) es
    (judged (called (control_element s) (opened es)) ss) (elements_behind (left_behind (control_element s) es) ss)
    (ap (λ os. judged os ss) (called_left (control_element s) es)
    ∙ judged_behind law (left_behind (control_element s) es) ss)

pub judged_whole : ClosedIsRead PlainItem 32 → (ss : List Standing) → judged (Some []) ss ≡ is_unnested ss
judged_whole law ss = judged_behind law [] ss

-- ---- a step of the loop over the tokens of a definition

pub judged_none : (os : Openers) (image : List ℕ) (n k p : ℕ) (size : OffsetSize) → n ≤ k
    → judged os (tokens_from image (n - k) p size).tokens ≡ false
judged_none os image n k p size l =
    let none : n - k ≡ zero = omega (arith, l) in
    rw none refl

pub judged_cut : (os : Openers) (image : List ℕ) (n k p : ℕ) (size : OffsetSize) → k < n
    → token_from image p size ≡ None → judged os (tokens_from image (n - k) p size).tokens ≡ false
judged_cut os image n k p size l h =
    let less : n - k ≡ suc (n - (k + 1)) = omega arith in
    rw (less, h) refl

pub judged_end : (os : Openers) (image : List ℕ) (n k p : ℕ) (size : OffsetSize) (r : Token × ℕ) → k < n
    → token_from image p size ≡ Some r → nat_eq r.0.code.0 0x0c2 ≡ true
    → judged os (tokens_from image (n - k) p size).tokens ≡ not (is_all_closed os)
judged_end os image n k p size r l h e =
    let less : n - k ≡ suc (n - (k + 1)) = omega arith in
    rw (less, h, e) refl

broken_off : (t u : Bool) (next : Tokens) (os : Openers) → (t || u) ≡ true
    → cond t false (judged os (cond u (no_more None) next).tokens) ≡ false
broken_off true u next os h = refl
broken_off false true next os h = refl
broken_off false false next os h = absurd cc

gone_on : (t u : Bool) (next : Tokens) (os : Openers) → (t || u) ≡ false
    → cond t false (judged os (cond u (no_more None) next).tokens) ≡ judged os next.tokens
gone_on true u next os h = absurd cc
gone_on false true next os h = absurd cc
gone_on false false next os h = refl

pub judged_broken : (os : Openers) (image : List ℕ) (n k p : ℕ) (size : OffsetSize) (r : Token × ℕ) → k < n
    → token_from image p size ≡ Some r → nat_eq r.0.code.0 0x0c2 ≡ false
    → (nat_eq r.0.code.0 0x0b7 || is_end r.0.code.0) ≡ true
    → judged os (tokens_from image (n - k) p size).tokens ≡ false
judged_broken os image n k p size r l h e b =
    let less : n - k ≡ suc (n - (k + 1)) = omega arith in
    rw (less, h, e) (broken_off (nat_eq r.0.code.0 0x0b7) (is_end r.0.code.0) _ _ b)

pub judged_more : (os : Openers) (image : List ℕ) (n k p : ℕ) (size : OffsetSize) (r : Token × ℕ) → k < n
    → token_from image p size ≡ Some r → nat_eq r.0.code.0 0x0c2 ≡ false
    → (nat_eq r.0.code.0 0x0b7 || is_end r.0.code.0) ≡ false
    → judged os (tokens_from image (n - k) p size).tokens
    ≡ judged (called (control_element (record { position = p; token = r.0 })) os)
    (tokens_from image (n - (k + 1)) r.1 (size_behind r.0.code.0 size)).tokens
judged_more os image n k p size r l h e b =
    let less : n - k ≡ suc (n - (k + 1)) = omega arith in
    rw (less, h, e) (gone_on (nat_eq r.0.code.0 0x0b7) (is_end r.0.code.0) _ _ b)

-- ---- plain items

plain_call : (e : Element PlainItem) (es : List (Element PlainItem))
    → opened (e ∷ es) ≡ cond (is_control e) (after_call 32 0 e (opened es)) (opened es)
plain_call (Plain k) es = refl
plain_call (Branch z t) es = refl
plain_call (Resolve p) es = refl
plain_call (Mark p) es = refl
plain_call (Back z t) es = refl
plain_call (Roll n) es = refl
plain_call (Do q) es = refl
plain_call (Loop l) es = refl
plain_call Leave es = refl
plain_call Case es = refl
plain_call Of es = refl
plain_call EndOf es = refl
plain_call EndCase es = refl
plain_call (Misfit k) es = refl

opened_if : (t : Bool) (e : Element PlainItem) (es fs : List (Element PlainItem)) → opened es ≡ opened fs
    → cond t (after_call 32 0 e (opened es)) (opened es) ≡ opened (cond t (e ∷ fs) fs)
opened_if true e es fs h = ap (after_call 32 0 e) h
opened_if false e es fs h = h

opened_only : (es : List (Element PlainItem)) → opened es ≡ opened (control_only es)
opened_only [] = refl
opened_only (e ∷ es) = plain_call e es ∙ opened_if (is_control e) e es (control_only es) (opened_only es)

pub plain_items_fit : ClosedIsRead PlainItem 32 → PlainItemsFit
plain_items_fit law es =
    sym (closed_is_body law es) ∙ ap is_all_closed (opened_only es) ∙ closed_is_body law (control_only es)
