-- The tokens of a nest leave the elements that its words leave.
use Rattle.std.proofs.Common.{◌≡◌, ◌<◌, ◌≤◌, ℕ, zero, suc, ◌+◌, ◌-◌, ℤ, pos, negsuc, ◌+ℤ◌, ◌-ℤ◌, Bool, true, false}
use Rattle.std.proofs.Common.{nat_eq, nat_lt, List, ◌∷◌, length, Some, None, refl, ap, sym, ◌∙◌, arith}
use Rattle.std.proofs.Math.IntN.{+ℤ-neg_ℤ_cancel, +ℤ_assoc, +ℤ_comm, +ℤ_idl, +ℤ_invl, -ℤ-+ℤ_cancel, pos-+ℤ-pos}
use Rattle.of_fcodes.specs.Lookup.{row_numbered}
use Rattle.of_fcodes.specs.Rows.{rows, first_rows, second_rows, third_rows, fourth_rows, fifth_rows, sixth_rows}
use Rattle.of_fcodes.specs.Rows.{seventh_rows}
use Rattle.of_stream.specs.declared.stream.OffsetSize.{OffsetSize}
use Rattle.of_stream.specs.declared.stream.OffsetSize.TheVariants.{One, Two}
use Rattle.of_stream.specs.Bytes.{offset_bytes, token_bytes}
use Rattle.of_stream.specs.Decoding.{Token}
use Rattle.of_stream.specs.Sizes.{width}
use Rattle.of_stream.specs.Targets.{position_at, target_at}
use Rattle.of_control.specs.Element.{Element}
use Rattle.of_control.specs.Element as el
use Rattle.of_compile.specs.declared.element.PlainItem.{PlainItem}
use Rattle.of_compile.specs.Tokens.{backward, branch, forward, goes_back}
use Rattle.of_source.specs.Items.{bare}
use Rattle.of_source.specs.Nest.{Around, Fits, Nest, Stop, Plain, Definition, Defining, If, Else, Then, Begin, Do}
use Rattle.of_source.specs.Nest.{Leave, Case, Of, in_part, open_behind}
use Rattle.of_tok.specs.declared.place.Place.{Place}
use Rattle.of_tok.specs.declared.written.Aim.{Aim}
use Rattle.of_tok.specs.Places.{behind, past, past_offset}
use Rattle.of_tok.specs.Tokens.{Written, aimed, aims_of, branch_code, do_code, end_of, first, loop_code, offset_of}
use Rattle.of_tok.specs.Tokens.{straight, token_of, written}
use Rattle.of_meaning.specs.Elements.{ArePlain, control_element, elements_left, left_behind}
use Rattle.of_meaning.proofs.Aims.{AreAbove, above_first, aims_above, left_alone, never, past_start, weaken}
use Rattle.of_meaning.proofs.Elements.{elements_of}

-- ---- offsets

forth : (t q n : ℕ) → t ≡ n + q → pos t -ℤ pos q ≡ pos n
forth t q n e =
    ap (λ x. pos x -ℤ pos q) e ∙ ap (λ x. x -ℤ pos q) (sym (pos-+ℤ-pos n q)) ∙ +ℤ-neg_ℤ_cancel (pos n) (pos q)

back : (t q n : ℕ) → q ≡ t + suc n → pos t -ℤ pos q ≡ negsuc n
back t q n e =
    let sum : negsuc n +ℤ pos q ≡ pos t =
    ap (λ x. negsuc n +ℤ pos x) e
    ∙ ap (λ x. negsuc n +ℤ x) (sym (pos-+ℤ-pos t (suc n)) ∙ +ℤ_comm (pos t) (pos (suc n)))
    ∙ sym (+ℤ_assoc (negsuc n) (pos (suc n)) (pos t))
    ∙ ap (λ x. x +ℤ pos t) (+ℤ_invl (pos (suc n)))
    ∙ +ℤ_idl (pos t) in
    ap (λ x. x -ℤ pos q) (sym sum) ∙ +ℤ-neg_ℤ_cancel (negsuc n) (pos q)

aim_of : ℕ → Place → ℕ → Aim
aim_of code p t = record { word = 0; place = p; code = record { 0 = code }; target = t }

leads : (position t : ℕ) → target_at position (pos t -ℤ pos (position + 1)) ≡ Some t
leads position t =
    ap position_at (+ℤ_comm (pos (position + 1)) (pos t -ℤ pos (position + 1))
    ∙ -ℤ-+ℤ_cancel (pos t) (pos (position + 1)))

goes_forth : (position t : ℕ) → position < t → goes_back (pos t -ℤ pos (position + 1)) ≡ false
goes_forth position t l = ap goes_back (forth t (position + 1) (t - (position + 1)) (omega (arith, l)))

goes_there : (position t : ℕ) → t ≤ position → goes_back (pos t -ℤ pos (position + 1)) ≡ true
goes_there position t l = ap goes_back (back t (position + 1) (position - t) (omega (arith, l)))

branch_forth : (z : Bool) (position t : ℕ) → position < t
    → branch z position (pos t -ℤ pos (position + 1)) ≡ el.Branch z (Some t)
branch_forth z position t l = rw (goes_forth position t l, leads position t) refl

branch_back : (z : Bool) (position t : ℕ) → t ≤ position
    → branch z position (pos t -ℤ pos (position + 1)) ≡ el.Back z (Some t)
branch_back z position t l = rw (goes_there position t l, leads position t) refl

forward_so : (position t : ℕ) (e : Element PlainItem) → position < t
    → forward (pos t -ℤ pos (position + 1)) e ≡ e
forward_so position t e l = rw (goes_forth position t l) refl

backward_so : (position t : ℕ) (e : Element PlainItem) → t ≤ position
    → backward (pos t -ℤ pos (position + 1)) e ≡ e
backward_so position t e l = rw (goes_there position t l) refl

-- ---- tokens

aimed_behind : (l code : ℕ) (p : Place) (t : ℕ) → nat_lt code 256 ≡ true → nat_eq code 0x0cc ≡ false
    → behind (token_of (aimed l code p t)) p ≡ past_offset p
unfolding token_bytes
aimed_behind l code p t h k =
    let a : Aim = record { word = l; place = p; code = record { 0 = code }; target = t } in
    rw (h, k) (sized p.size p.position (offset_of a))
  where
    sized : (z : OffsetSize) (n : ℕ) (by : ℤ)
        → (let q : Place = record { position = n + suc (length (offset_bytes z by)); size = z } in q)
        ≡ record { position = n + (1 + width z); size = z }
    sized One n by = refl
    sized Two n by = refl

straight_behind : (code : ℕ) (p : Place) → nat_lt code 256 ≡ true → nat_eq code 0x0cc ≡ false
    → behind (bare code) p ≡ past 1 p
unfolding token_bytes
straight_behind code p h k = rw (h, k) refl

-- a token with an offset, and those behind it
aimed_left : (f : Token → Place → PlainItem) (l code : ℕ) (p : Place) (t : ℕ) (e : Element PlainItem)
    (ws : List Written) (es : List (Element PlainItem)) → nat_lt code 256 ≡ true → nat_eq code 0x0cc ≡ false
    → control_element (token_of (aimed l code p t)) p.position ≡ Some e
    → elements_left f (aimed l code p t ∷ ws) p es ≡ elements_left f ws (past_offset p) (e ∷ es)
aimed_left f l code p t e ws es small plain is =
    ap (λ q. elements_left f ws q (left_behind (control_element (token_of (aimed l code p t)) p.position) f
    (token_of (aimed l code p t)) p es)) (aimed_behind l code p t small plain)
    ∙ ap (λ o. elements_left f ws (past_offset p) (left_behind o f (token_of (aimed l code p t)) p es)) is

straight_left : (f : Token → Place → PlainItem) (code : ℕ) (p : Place) (e : Element PlainItem)
    (ws : List Written) (es : List (Element PlainItem)) → nat_lt code 256 ≡ true → nat_eq code 0x0cc ≡ false
    → control_element (bare code) p.position ≡ Some e
    → elements_left f (straight code p ∷ ws) p es ≡ elements_left f ws (past 1 p) (e ∷ es)
straight_left f code p e ws es small plain is =
    ap (λ q. elements_left f ws q (left_behind (control_element (bare code) p.position) f (bare code) p es))
    (straight_behind code p small plain)
    ∙ ap (λ o. elements_left f ws (past 1 p) (left_behind o f (bare code) p es)) is

module _ (f : Token → Place → PlainItem) (ws : List Written) (es : List (Element PlainItem)) where
  branch_left : (z : Bool) (l : ℕ) (p : Place) (t : ℕ) → p.position < t
      → elements_left f (aimed l (branch_code z) p t ∷ ws) p es
      ≡ elements_left f ws (past_offset p) (el.Branch z (Some t) ∷ es)
  unfolding row_numbered rows first_rows second_rows third_rows fourth_rows fifth_rows sixth_rows seventh_rows
  branch_left true l p t up =
      aimed_left f l 0x014 p t (el.Branch true (Some t)) ws es refl refl
      (ap (λ e. Some e) (branch_forth true p.position t up))
  branch_left false l p t up =
      aimed_left f l 0x013 p t (el.Branch false (Some t)) ws es refl refl
      (ap (λ e. Some e) (branch_forth false p.position t up))

  back_left : (z : Bool) (l : ℕ) (p : Place) (t : ℕ) → t ≤ p.position
      → elements_left f (aimed l (branch_code z) p t ∷ ws) p es
      ≡ elements_left f ws (past_offset p) (el.Back z (Some t) ∷ es)
  unfolding row_numbered rows first_rows second_rows third_rows fourth_rows fifth_rows sixth_rows seventh_rows
  back_left true l p t low =
      aimed_left f l 0x014 p t (el.Back true (Some t)) ws es refl refl
      (ap (λ e. Some e) (branch_back true p.position t low))
  back_left false l p t low =
      aimed_left f l 0x013 p t (el.Back false (Some t)) ws es refl refl
      (ap (λ e. Some e) (branch_back false p.position t low))

  do_left : (v : Bool) (l : ℕ) (p : Place) (t : ℕ) → p.position < t
      → elements_left f (aimed l (do_code v) p t ∷ ws) p es ≡ elements_left f ws (past_offset p) (el.Do v ∷ es)
  unfolding row_numbered rows first_rows second_rows third_rows fourth_rows fifth_rows sixth_rows seventh_rows
  do_left true l p t up =
      aimed_left f l 0x018 p t (el.Do true) ws es refl refl
      (ap (λ e. Some e) (forward_so p.position t (el.Do true) up))
  do_left false l p t up =
      aimed_left f l 0x017 p t (el.Do false) ws es refl refl
      (ap (λ e. Some e) (forward_so p.position t (el.Do false) up))

  loop_left : (v : Bool) (l : ℕ) (p : Place) (t : ℕ) → t ≤ p.position
      → elements_left f (aimed l (loop_code v) p t ∷ ws) p es ≡ elements_left f ws (past_offset p) (el.Loop v ∷ es)
  unfolding row_numbered rows first_rows second_rows third_rows fourth_rows fifth_rows sixth_rows seventh_rows
  loop_left true l p t low =
      aimed_left f l 0x016 p t (el.Loop true) ws es refl refl
      (ap (λ e. Some e) (backward_so p.position t (el.Loop true) low))
  loop_left false l p t low =
      aimed_left f l 0x015 p t (el.Loop false) ws es refl refl
      (ap (λ e. Some e) (backward_so p.position t (el.Loop false) low))

  of_left : (l : ℕ) (p : Place) (t : ℕ) → p.position < t
      → elements_left f (aimed l 0x01c p t ∷ ws) p es ≡ elements_left f ws (past_offset p) (el.Of ∷ es)
  unfolding row_numbered rows first_rows second_rows third_rows fourth_rows fifth_rows sixth_rows seventh_rows
  of_left l p t up =
      aimed_left f l 0x01c p t el.Of ws es refl refl (ap (λ e. Some e) (forward_so p.position t el.Of up))

  endof_left : (l : ℕ) (p : Place) (t : ℕ) → p.position < t
      → elements_left f (aimed l 0x0c6 p t ∷ ws) p es ≡ elements_left f ws (past_offset p) (el.EndOf ∷ es)
  unfolding row_numbered rows first_rows second_rows third_rows fourth_rows fifth_rows sixth_rows seventh_rows
  endof_left l p t up =
      aimed_left f l 0x0c6 p t el.EndOf ws es refl refl (ap (λ e. Some e) (forward_so p.position t el.EndOf up))

  resolve_left : (p : Place) → elements_left f (straight 0x0b2 p ∷ ws) p es
      ≡ elements_left f ws (past 1 p) (el.Resolve (Some p.position) ∷ es)
  unfolding row_numbered rows first_rows second_rows third_rows fourth_rows fifth_rows sixth_rows seventh_rows
  resolve_left p = straight_left f 0x0b2 p (el.Resolve (Some p.position)) ws es refl refl refl

  mark_left : (p : Place) → elements_left f (straight 0x0b1 p ∷ ws) p es
      ≡ elements_left f ws (past 1 p) (el.Mark (Some p.position) ∷ es)
  unfolding row_numbered rows first_rows second_rows third_rows fourth_rows fifth_rows sixth_rows seventh_rows
  mark_left p = straight_left f 0x0b1 p (el.Mark (Some p.position)) ws es refl refl refl

  leave_left : (p : Place) → elements_left f (straight 0x01b p ∷ ws) p es
      ≡ elements_left f ws (past 1 p) (el.Leave ∷ es)
  unfolding row_numbered rows first_rows second_rows third_rows fourth_rows fifth_rows sixth_rows seventh_rows
  leave_left p = straight_left f 0x01b p el.Leave ws es refl refl refl

  case_left : (p : Place) → elements_left f (straight 0x0c4 p ∷ ws) p es ≡ elements_left f ws (past 1 p) (el.Case ∷ es)
  unfolding row_numbered rows first_rows second_rows third_rows fourth_rows fifth_rows sixth_rows seventh_rows
  case_left p = straight_left f 0x0c4 p el.Case ws es refl refl refl

  endcase_left : (p : Place) → elements_left f (straight 0x0c5 p ∷ ws) p es
      ≡ elements_left f ws (past 1 p) (el.EndCase ∷ es)
  unfolding row_numbered rows first_rows second_rows third_rows fourth_rows fifth_rows sixth_rows seventh_rows
  endcase_left p = straight_left f 0x0c5 p el.EndCase ws es refl refl refl

-- ---- all of them

pub leaves : (f : Token → Place → PlainItem) (i : Nest) (a : Around) (floor d k l : ℕ) (p : Place) (to : List ℕ)
    (out : ℕ) (ws : List Written) (es : List (Element PlainItem)) → a.defines ≡ true → Fits i a floor d → d ≡ floor + k
    → open_behind i d ≡ floor + l → AreAbove (end_of i p).position l to
    → (a.cases ≡ true → (end_of i p).position < out) → ArePlain i
    → elements_left f (written i p to out ws) p es ≡ elements_left f ws (end_of i p) (elements_of f i p to es)
leaves f Stop a floor d k l p to out ws es on h e g above past_end plain = refl
leaves f (Plain t r) a floor d k l p to out ws es on h e g above past_end plain =
    ap (λ o. elements_left f (written r (behind t p) to out ws) (behind t p) (left_behind o f t p es))
    (plain.0 p.position)
    ∙ leaves f r a floor d k l (behind t p) to out ws (left_behind None f t p es) on h e g above past_end plain.1
leaves f (Definition m i r) a floor d k l p to out ws es on h e g above past_end plain = never (sym on ∙ h.0)
leaves f (Defining m t r) a floor d k l p to out ws es on h e g above past_end plain = never (sym on ∙ h.0)
leaves f (If c r) a floor d k l p to out ws es on h e g above past_end plain =
    let q = past_offset p in
    let t = first (aims_of r q to) in
    let higher = aims_above r a floor (d + 1) (suc k) l q to on h (omega (arith, e)) g above in
    branch_left f (written r q to out ws) es true c p t (omega (arith, higher.0))
    ∙ leaves f r a floor (d + 1) (suc k) l q to out ws (el.Branch true (Some t) ∷ es) on h (omega (arith, e)) g above
    past_end plain
leaves f (Else c r) a floor d zero l p to out ws es on h e g above past_end plain = absurd (omega (arith, e, h.0))
leaves f (Else c r) a floor d (suc k) l p to out ws es on h e g above past_end plain =
    let at = past_offset p in
    let q = past 1 at in
    let t = first (aims_of r q to) in
    let higher = aims_above r a floor d (suc k) l q to on h.1 e g above in
    let b : Element PlainItem = el.Branch false (Some t) in
    branch_left f (straight 0x0b2 at ∷ written r q to out ws) es false c p t (omega (arith, higher.0))
    ∙ resolve_left f (written r q to out ws) (b ∷ es) at
    ∙ leaves f r a floor d (suc k) l q to out ws (el.Resolve (Some at.position) ∷ b ∷ es) on h.1 e g above past_end
    plain
leaves f (Then r) a floor d zero l p to out ws es on h e g above past_end plain = absurd (omega (arith, e, h.0))
leaves f (Then r) a floor d (suc k) l p to out ws es on h e g above past_end plain =
    resolve_left f (written r (past 1 p) to out ws) es p
    ∙ leaves f r a floor (d - 1) k l (past 1 p) to out ws (el.Resolve (Some p.position) ∷ es) on h.1 (omega (arith, e))
    g above past_end plain
leaves f (Begin i z c r) a floor d k l p to out ws es on h e g above past_end plain =
    let start = past 1 p in
    let n = end_of i start in
    let q = past_offset n in
    let aims = aims_of r q to in
    let own = open_behind i 0 in
    let left = left_alone i (in_part a) d on h.0 in
    let higher : AreAbove q.position (own + k) aims =
    aims_above r a floor (open_behind i d) (own + k) l q to on h.1 (omega (arith, left, e)) g above in
    let inner : AreAbove n.position own aims =
    weaken n.position q.position own aims (omega arith) (above_first q.position own k (own + k) aims refl higher) in
    let mark : Element PlainItem = el.Mark (Some p.position) in
    let inside = elements_of f i start aims (mark ∷ es) in
    let last = written r q to out ws in
    mark_left f (written i start aims out (aimed c (branch_code z) n start.position ∷ last)) es p
    ∙ leaves f i (in_part a) d d 0 own start aims out (aimed c (branch_code z) n start.position ∷ last) (mark ∷ es) on
    h.0 (omega arith) left inner (λ x. absurd cc) plain.0
    ∙ back_left f last inside z c n start.position (past_start i start)
    ∙ leaves f r a floor (open_behind i d) (own + k) l q to out ws (el.Back z (Some start.position) ∷ inside) on h.1
    (omega (arith, left, e)) g above past_end plain.1
leaves f (Do v j i c w r) a floor d k l p to out ws es on h e g above past_end plain =
    let start = past_offset p in
    let n = end_of i start in
    let q = past_offset n in
    let aims = aims_of r q to in
    let inner : Around = record { defines = a.defines; loops = true; cases = false } in
    let begin : Element PlainItem = el.Do v in
    let inside = elements_of f i start aims (begin ∷ es) in
    let last = written r q to out ws in
    do_left f (written i start aims q.position (aimed w (loop_code c) n start.position ∷ last)) es v j p q.position
    (omega (arith, past_start i start))
    ∙ leaves f i inner d d 0 0 start aims q.position (aimed w (loop_code c) n start.position ∷ last) (begin ∷ es) on h.0
    (omega arith) (omega (arith, h.1)) tt (λ x. absurd cc) plain.0
    ∙ loop_left f last inside c w n start.position (past_start i start)
    ∙ leaves f r a floor d k l q to out ws (el.Loop c ∷ inside) on h.2 e g above past_end plain.1
leaves f (Leave r) a floor d k l p to out ws es on h e g above past_end plain =
    leave_left f (written r (past 1 p) to out ws) es p
    ∙ leaves f r a floor d k l (past 1 p) to out ws (el.Leave ∷ es) on h.1 e g above past_end plain
leaves f (Case i r) a floor d k l p to out ws es on h e g above past_end plain =
    let start = past 1 p in
    let n = end_of i start in
    let q = past 1 n in
    let aims = aims_of r q to in
    let inner : Around = record { defines = a.defines; loops = a.loops; cases = true } in
    let begin : Element PlainItem = el.Case in
    let inside = elements_of f i start aims (begin ∷ es) in
    let last = written r q to out ws in
    case_left f (written i start aims q.position (straight 0x0c5 n ∷ last)) es p
    ∙ leaves f i inner d d 0 0 start aims q.position (straight 0x0c5 n ∷ last) (begin ∷ es) on h.0 (omega arith)
    (omega (arith, h.1)) tt (λ x. omega arith) plain.0
    ∙ endcase_left f last inside n
    ∙ leaves f r a floor d k l q to out ws (el.EndCase ∷ inside) on h.2 e g above past_end plain.1
leaves f (Of j i w r) a floor d k l p to out ws es on h e g above past_end plain =
    let start = past_offset p in
    let n = end_of i start in
    let q = past_offset n in
    let aims = aims_of r q to in
    let begin : Element PlainItem = el.Of in
    let inside = elements_of f i start aims (begin ∷ es) in
    let last = written r q to out ws in
    of_left f (written i start aims q.position (aimed w 0x0c6 n out ∷ last)) es j p q.position
    (omega (arith, past_start i start))
    ∙ leaves f i (in_part a) d d 0 0 start aims q.position (aimed w 0x0c6 n out ∷ last) (begin ∷ es) on h.2
    (omega arith) (omega (arith, h.3)) tt (λ x. absurd cc) plain.0
    ∙ endof_left f last inside w n out (omega (arith, past_end h.0, past_start r q))
    ∙ leaves f r a floor d k l q to out ws (el.EndOf ∷ inside) on h.4 e g above past_end plain.1
