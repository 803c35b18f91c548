-- What it means that nothing is found.
use Rattle.std.proofs.Common.{◌≡◌, ◌↔◌, ℕ, zero, suc, ℤ, List, [], ◌∷◌, ◌++◌, length, Option, Some, None, Ok}
use Rattle.std.proofs.Common.{Bool, true, false, cond, not, ◌&&◌, nat_eq, nat_lt, is_some, refl, ap, arith}
use Rattle.std.proofs.Common.{subst}
use Rattle.std.proofs.lemmas.Bool.Decides.{nat_tests}
use Rattle.std.specs.List.{flat_map}
use Rattle.of_stream.specs.declared.fault.StreamFault.{StreamFault}
use Rattle.of_stream.specs.declared.stream.OffsetSize.{OffsetSize}
use Rattle.of_stream.specs.Decoding.{Argument, Nothing, Literal, String, Code, Named, Offset, Token, token_from}
use Rattle.of_stream.specs.Image.{first_size, header_fault}
use Rattle.of_stream.specs.Sizes.{is_end, size_behind}
use Rattle.of_stream.specs.Targets.{landing}
use Rattle.of_control.specs.Body.{Body}
use Rattle.of_control.specs.Element.{Element}
use Rattle.of_control.specs.Law.{ClosedIsRead, IsBodyIn}
use Rattle.of_control.specs.Reading.{body_in}
use Rattle.of_compile.specs.declared.element.PlainItem.{PlainItem}
use Rattle.of_detok.specs.declared.notes.Extras.{Extras}
use Rattle.of_detok.specs.Labels.{said_length, said_sum}
use Rattle.of_detok.specs.Listing.{Lines, line_text, lines_from, lines_if, lines_of, text_behind, token_lines, whole}
use Rattle.of_detok.specs.Listing.{listed as listing_of}
use Rattle.of_detok.specs.Notes.{Notes, behind_token, first_notes}
use Rattle.of_check.specs.declared.finding.Finding.{Finding}
use Rattle.of_check.specs.declared.finding.Finding.TheVariants as found
use Rattle.of_check.specs.Tokens.{Standing, Tokens, no_more, tokens_by, tokens_from, tokens_of}
use Rattle.of_check.specs.Structures.{elements_behind, have_no_body, is_unnested}
use Rattle.of_check.specs.Findings.{actual_sum, branch_finding, definition_finding, end_finding, findings_at}
use Rattle.of_check.specs.Findings.{findings_if, findings_of, header_findings, is_made, is_own, length_finding, listed}
use Rattle.of_check.specs.Findings.{stream_findings, sum_finding, token_findings, use_finding}
use Rattle.of_check.specs.Law.{AreInOrder, CleanImagesAreListed, IsClean, IsInOrder}

-- ---- no findings

none_listed : (o : Option Finding) → listed o ≡ [] → o ≡ None
none_listed None h = refl
none_listed (Some f) h = absurd cc

listed_none : (o : Option Finding) → o ≡ None → listed o ≡ []
listed_none None h = refl
listed_none (Some f) h = absurd cc

both_none : (xs ys : List Finding) → xs ++ ys ≡ [] → (xs ≡ []) × (ys ≡ [])
both_none [] ys h = (refl, h)
both_none (x ∷ xs) ys h = absurd cc

none_joined : (xs ys : List Finding) → xs ≡ [] → ys ≡ [] → xs ++ ys ≡ []
none_joined xs ys h k = rw (h, k) refl

if_none : (t : Bool) (f : Finding) → cond t (Some f) None ≡ None → t ≡ false
if_none true f h = absurd cc
if_none false f h = refl

none_if : (t : Bool) (f : Finding) → t ≡ false → cond t (Some f) None ≡ None
none_if t f h = rw h refl

unless_none : (t : Bool) (f : Finding) → cond t None (Some f) ≡ None → t ≡ true
unless_none true f h = refl
unless_none false f h = absurd cc

-- ---- a word

made_of : (t u : Bool) → (t && not u) ≡ false → t ≡ true → u ≡ true
made_of true true h e = refl
made_of true false h e = absurd cc
made_of false u h e = absurd cc

no_use : (t u : Bool) → (t ≡ true → u ≡ true) → (t && not u) ≡ false
no_use true u h = rw (h refl) refl
no_use false u h = refl

-- ---- a branch

inside_of : (end : ℕ) (s : Standing) (a : Argument) → branch_finding end s a ≡ None → (by : ℤ) → a ≡ Offset by
    → is_some (landing end s.position by) ≡ true
inside_of end s a h by e =
    let there : branch_finding end s (Offset by) ≡ None = subst (λ x. branch_finding end s x ≡ None) e h in
    unless_none (is_some (landing end s.position by)) (found.Outside s.position s.token.code by) there

no_branch : (end : ℕ) (s : Standing) (a : Argument)
    → ((by : ℤ) → a ≡ Offset by → is_some (landing end s.position by) ≡ true) → branch_finding end s a ≡ None
no_branch end s Nothing h = refl
no_branch end s (Literal x) h = refl
no_branch end s (String t) h = refl
no_branch end s (Code c) h = refl
no_branch end s (Named name c) h = refl
no_branch end s (Offset by) h = rw (h by refl) refl

-- ---- a definition

-- a body of these elements
abbrev HasBody : List (Element PlainItem) → Type 0
HasBody es = (b : Body PlainItem) × IsBodyIn 32 es b

body_by : ClosedIsRead PlainItem 32 → (es : List (Element PlainItem)) (o : Option (Body PlainItem))
    → body_in 32 es ≡ o → not (is_some o) ≡ false → HasBody es
body_by law es None e h = absurd cc
body_by law es (Some b) e h = (b, (law.found es b).0 e)

body_of : ClosedIsRead PlainItem 32 → (o : Option (List (Element PlainItem))) → have_no_body o ≡ false
    → (es : List (Element PlainItem)) → o ≡ Some es → HasBody es
body_of law o h es e =
    let there : have_no_body (Some es) ≡ false = subst (λ x. have_no_body x ≡ false) e h in
    body_by law es (body_in 32 es) refl there

no_lack : ClosedIsRead PlainItem 32 → (o : Option (List (Element PlainItem)))
    → ((es : List (Element PlainItem)) → o ≡ Some es → HasBody es) → have_no_body o ≡ false
no_lack law None h = refl
no_lack law (Some es) h =
    let b = h es refl in
    let some = (law.found es b.0).1 b.1 in
    rw some refl

-- each definition that a token opens has a body
abbrev Nested : Standing → List Standing → Type 0
Nested s behind =
    (es : List (Element PlainItem)) → s.token.code.0 ≡ 0x0b7 → elements_behind [] behind ≡ Some es → HasBody es

nested_by : ClosedIsRead PlainItem 32 → (t : Bool) (s : Standing) (behind : List Standing)
    → nat_eq s.token.code.0 0x0b7 ≡ t → (t && is_unnested behind) ≡ false → Nested s behind
nested_by law true s behind e h es c k = body_of law (elements_behind [] behind) h es k
nested_by law false s behind e h es c k = absurd (grind (arith, nat_tests, e, c))

no_colon : ClosedIsRead PlainItem 32 → (t : Bool) (s : Standing) (behind : List Standing)
    → nat_eq s.token.code.0 0x0b7 ≡ t → Nested s behind → (t && is_unnested behind) ≡ false
no_colon law true s behind e h =
    let code : s.token.code.0 ≡ 0x0b7 = grind (arith, nat_tests, e) in
    no_lack law (elements_behind [] behind) (λ es k. h es code k)
no_colon law false s behind e h = refl

-- ---- a token

in_order : ClosedIsRead PlainItem 32 → (end : ℕ) (before : List Standing) (s : Standing) (behind : List Standing)
    → findings_at end before s behind ≡ [] → IsInOrder end before s behind
in_order law end before s behind h =
    let code = s.token.code.0 in
    let others = both_none (listed (use_finding before s) ++ listed (branch_finding end s s.token.argument))
    (listed (definition_finding s behind)) h in
    let first = both_none (listed (use_finding before s)) (listed (branch_finding end s s.token.argument)) others.0 in
    let word = none_listed (use_finding before s) first.0 in
    let branch = none_listed (branch_finding end s s.token.argument) first.1 in
    let definition = none_listed (definition_finding s behind) others.1 in
    record {
      inside = inside_of end s s.token.argument branch;
      made = made_of (is_own code) (is_made before code) (if_none _ _ word);
      nested = nested_by law (nat_eq code 0x0b7) s behind refl (if_none _ _ definition);
    }

none_at : ClosedIsRead PlainItem 32 → (end : ℕ) (before : List Standing) (s : Standing) (behind : List Standing)
    → IsInOrder end before s behind → findings_at end before s behind ≡ []
none_at law end before s behind h =
    let code = s.token.code.0 in
    none_joined (listed (use_finding before s) ++ listed (branch_finding end s s.token.argument))
    (listed (definition_finding s behind))
    (none_joined (listed (use_finding before s)) (listed (branch_finding end s s.token.argument))
    (listed_none (use_finding before s)
    (none_if _ (found.Unmade s.position s.token.code) (no_use (is_own code) (is_made before code) h.made)))
    (listed_none (branch_finding end s s.token.argument) (no_branch end s s.token.argument h.inside)))
    (listed_none (definition_finding s behind)
    (none_if _ (found.Unnested s.position) (no_colon law (nat_eq code 0x0b7) s behind refl h.nested)))

all_in_order : ClosedIsRead PlainItem 32 → (end : ℕ) (before ss : List Standing) → token_findings end before ss ≡ []
    → AreInOrder end before ss
all_in_order law end before [] h = tt
all_in_order law end before (s ∷ behind) h =
    let parts = both_none (findings_at end before s behind) (token_findings end (s ∷ before) behind) h in
    (in_order law end before s behind parts.0, all_in_order law end (s ∷ before) behind parts.1)

none_at_all : ClosedIsRead PlainItem 32 → (end : ℕ) (before ss : List Standing) → AreInOrder end before ss
    → token_findings end before ss ≡ []
none_at_all law end before [] h = refl
none_at_all law end before (s ∷ behind) h =
    none_joined (findings_at end before s behind) (token_findings end (s ∷ before) behind)
    (none_at law end before s behind h.0) (none_at_all law end (s ∷ before) behind h.1)

-- ---- the end, and the header

end_if : (t : Bool) (p : ℕ) → cond t (Some (found.Unread p)) (Some (found.Endless p)) ≡ None → ⊥
end_if true p h = absurd cc
end_if false p h = absurd cc

read_whole : (end : ℕ) (o : Option ℕ) → end_finding end o ≡ None → o ≡ None
read_whole end None h = refl
read_whole end (Some p) h = absurd (end_if (nat_lt p end) p h)

sum_of : (said actual : ℕ) → sum_finding said actual ≡ None → said ≡ actual
sum_of said actual h =
    let same = unless_none (nat_eq said actual) (found.Sum said actual) h in grind (arith, nat_tests, same)

no_sum : (said actual : ℕ) → said ≡ actual → sum_finding said actual ≡ None
no_sum said actual h =
    let same : nat_eq said actual ≡ true = grind (arith, nat_tests, h) in rw same refl

length_by : (t u : Bool) (f g : Finding) → cond t (Some f) (cond u (Some g) None) ≡ None → (t ≡ false) × (u ≡ false)
length_by true u f g h = absurd cc
length_by false true f g h = absurd cc
length_by false false f g h = (refl, refl)

length_of : (said actual : ℕ) → length_finding said actual ≡ None → said ≡ actual
length_of said actual h =
    let both = length_by (nat_lt actual said) (nat_lt said actual) _ _ h in
    let up = both.0 in
    let down = both.1 in
    grind (arith, nat_tests, up, down)

no_length : (said actual : ℕ) → said ≡ actual → length_finding said actual ≡ None
no_length said actual h =
    let up : nat_lt actual said ≡ false = grind (arith, nat_tests, h) in
    let down : nat_lt said actual ≡ false = grind (arith, nat_tests, h) in
    rw (up, down) refl

-- ---- an image

clean_by : ClosedIsRead PlainItem 32 → (image : List ℕ) (f : Option StreamFault) → header_fault image ≡ f
    → findings_if image f ≡ [] → IsClean image
clean_by law image (Some f) e h = absurd cc
clean_by law image None e h =
    let end = length image in
    let r = tokens_of image in
    let parts = both_none (header_findings image) (stream_findings end [] r) h in
    let header = both_none (listed (sum_finding (said_sum image) (actual_sum image)))
    (listed (length_finding (said_length image) end)) parts.0 in
    let stream = both_none (token_findings end [] r.tokens) (listed (end_finding end r.unread)) parts.1 in
    record {
      opened = e;
      sum_said = sum_of (said_sum image) (actual_sum image) (none_listed _ header.0);
      length_said = length_of (said_length image) end (none_listed _ header.1);
      read = read_whole end r.unread (none_listed _ stream.1);
      ordered = all_in_order law end [] r.tokens stream.0;
    }

none_by : ClosedIsRead PlainItem 32 → (image : List ℕ) (f : Option StreamFault) → f ≡ None → IsClean image
    → findings_if image f ≡ []
none_by law image (Some f) e h = absurd cc
none_by law image None e h =
    let end = length image in
    let r = tokens_of image in
    let read : end_finding end r.unread ≡ None = ap (end_finding end) h.read in
    none_joined (header_findings image) (stream_findings end [] r)
    (none_joined (listed (sum_finding (said_sum image) (actual_sum image)))
    (listed (length_finding (said_length image) end))
    (listed_none _ (no_sum (said_sum image) (actual_sum image) h.sum_said))
    (listed_none _ (no_length (said_length image) end h.length_said)))
    (none_joined (token_findings end [] r.tokens) (listed (end_finding end r.unread))
    (none_at_all law end [] r.tokens h.ordered) (listed_none _ read))

clean_iff : ClosedIsRead PlainItem 32 → (image : List ℕ) → (findings_of image ≡ []) ↔ IsClean image
unfolding findings_of
clean_iff law image =
    (clean_by law image (header_fault image) refl, λ h. none_by law image (header_fault image) h.opened h)

-- ---- a listing

fault_if : (t : Bool) (next : Tokens) (lines : Lines) → (cond t (no_more None) next).unread ≡ None
    → (next.unread ≡ None → lines.fault ≡ None) → (trailed : Lines) → trailed.fault ≡ None
    → (cond t trailed lines).fault ≡ None
fault_if true next lines h rest trailed e = e
fault_if false next lines h rest trailed e = rest h

no_fault_by : (image : List ℕ) (notes : Notes) (p : ℕ) (size : OffsetSize) (o : Option (Token × ℕ))
    (next : ℕ → OffsetSize → Tokens) (lines : Notes → ℕ → OffsetSize → Lines)
    → ((n : Notes) (q : ℕ) (s : OffsetSize) → (next q s).unread ≡ None → (lines n q s).fault ≡ None)
    → (tokens_by p size o next).unread ≡ None → (token_lines image notes p size o lines).fault ≡ None
no_fault_by image notes p size None next lines rest h = absurd cc
no_fault_by image notes p size (Some r) next lines rest h =
    fault_if (is_end r.0.code.0) (next r.1 (size_behind r.0.code.0 size)) _ h
    (rest (behind_token r.0 notes) r.1 (size_behind r.0.code.0 size)) _ refl

no_fault : (image : List ℕ) (n : ℕ) (notes : Notes) (p : ℕ) (size : OffsetSize)
    → (tokens_from image n p size).unread ≡ None → (lines_from image n notes p size).fault ≡ None
no_fault image zero notes p size h = absurd cc
no_fault image (suc n) notes p size h =
    no_fault_by image notes p size (token_from image p size) (tokens_from image n) (lines_from image n)
    (λ m q s. no_fault image n m q s) h

whole_by : (text : List ℕ) (f : Option StreamFault) → f ≡ None → whole (text, f) ≡ Ok text
whole_by text None h = refl
whole_by text (Some f) h = absurd cc

listing_by : (image : List ℕ) (e : Extras) (f : Option StreamFault) → f ≡ None → (tokens_of image).unread ≡ None
    → (text : List ℕ) × (whole (text_behind [] (lines_if e image f)) ≡ Ok text)
listing_by image e (Some f) h k = absurd cc
listing_by image e None h k =
    let r = lines_if e image None in (
      flat_map line_text r.lines,
      whole_by (flat_map line_text r.lines) r.fault
          (no_fault image (length image) (first_notes e) 8 (first_size image) k),
    )

listing_there : (image : List ℕ) (e : Extras) → IsClean image → (text : List ℕ) × (listing_of e image ≡ Ok text)
unfolding lines_of
listing_there image e h = listing_by image e (header_fault image) h.opened h.read

pub clean_images_are_listed : ClosedIsRead PlainItem 32 → CleanImagesAreListed
clean_images_are_listed law = record {
  clean = clean_iff law;
  listed = λ image e h. listing_there image e ((clean_iff law image).0 h);
}
