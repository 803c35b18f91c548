-- A token in a definition appends one element to it, and control goes on behind the token, unless something is thrown.
use Rattle.std.proofs.Common.{◌≡◌, inl, inr, ℕ, Bool, true, false, nat_eq, nat_le, List, [], ◌∷◌, length, Option}
use Rattle.std.proofs.Common.{Some, None, Result, Ok, Err, refl, sym, ap, ◌∙◌, subst, if◌then◌else◌}
use Rattle.of_cells.specs.declared.cells.Cell.{Cell}
use Rattle.of_stacks.specs.declared.throws.Throw.{Throw}
use Rattle.of_stacks.specs.Throws.{dictionary_overflow}
use Rattle.of_fcodes.specs.declared.codes.FCode.{FCode}
use Rattle.of_fcodes.specs.declared.token_table.TokenEntry.{TokenEntry}
use Rattle.of_fcodes.specs.Lookup.{word_numbered}
use Rattle.of_fcodes.specs.Tokens.{entry_in}
use Rattle.of_stream.specs.Decoding.{Argument, Code, Literal, Named, Nothing, Offset, String, Token}
use Rattle.of_memory.specs.DataSpace.{DataSpace}
use Rattle.of_memory.specs.Growth.{append_copied}
use Rattle.of_memory.specs.declared.fault.MemFault.{MemFault}
use Rattle.of_control.specs.Element.{Element}
use Rattle.of_control.specs.Element as element
use Rattle.of_compile.specs.declared.element.PlainItem.{PlainItem}
use Rattle.of_compile.specs.declared.element.PlainItem.TheVariants as plain
use Rattle.of_compile.specs.Elements.{own_item}
use Rattle.of_compile.specs.Structured.{Definitions, has_room, refused, told}
use Rattle.of_compile.specs.Tokens.{called}
use Rattle.of_compile.specs.Words.{is_word}
use Rattle.of_source.specs.Keywords.{is_ordinary}
use Rattle.of_source.specs.Plain.{IsPlainWith}
use Rattle.of_tok.specs.declared.place.Place.{Place}
use Rattle.of_flow.specs.declared.token.Token.{Token as Typing}
use Rattle.of_flow.specs.declared.token.Token.TheVariants as token
use Rattle.of_flow.specs.Tokens.{Plain, Typed, typed_of}
use Rattle.of_eval.specs.Acts.{Act, Appends, Copies, Does, Fails, WordAct, front_of}
use Rattle.of_eval.specs.Defining.{string_element, string_kept, string_put, string_refused}
use Rattle.of_eval.specs.Doing.{acted, left_by, worked}
use Rattle.of_eval.specs.Reading.{token_done}
use Rattle.of_eval.specs.Tokens.{appending, calling, compiling_act, named, spot_in, token_act}
use Rattle.of_state.specs.State.{Answered, Calls, Outcome, State}
use Rattle.of_eval_laws.specs.Structured.{structured_calls}
use Rattle.of_eval_laws.specs.Tokens.{TokensAreTyped}
use Rattle.of_means.specs.Means.{at_place, is_executed, is_immediate_entry, token_at}
use Rattle.of_means.specs.Sources.{AtSource}
use Rattle.of_means.proofs.Inner.{IsOfControl}
use Rattle.of_means.proofs.Started.{bare_typed}

err_ok : (x : Result (Unit {0}) Throw) (t : Throw) → x ≡ Err t → x ≡ Ok tt → ⊥
err_ok x t e f = cc

not_both : true ≡ false → ⊥
not_both e = cc

abbrev pub c : Calls Definitions
c = structured_calls

-- control and the open definition stay, nothing is asked, and where nothing was thrown there is one more element, such
-- a one
abbrev pub Adds : (Element PlainItem → Type 0) → State Definitions → Outcome Definitions → Type 0
Adds P u o =
    (o.state.flow ≡ u.flow) × (o.state.words.defining ≡ u.words.defining) × (o.asks ≡ None)
    × (o.ended ≡ Ok tt → (e : Element PlainItem) × P e × (o.state.code.elements ≡ e ∷ u.code.elements))

-- ---- elements

told_adds : (b : Bool) (e : Element PlainItem) (d : Definitions)
    → let t = if b then told (record d { elements = e ∷ d.elements }) else refused d dictionary_overflow in
    t.ended ≡ Ok tt → t.definitions.elements ≡ e ∷ d.elements
told_adds true e d h = refl
told_adds false e d h = absurd (err_ok (Err dictionary_overflow) dictionary_overflow refl h)

element_adds : (e : Element PlainItem) (d : Definitions) → (c.element e d).ended ≡ Ok tt
    → (c.element e d).code.elements ≡ e ∷ d.elements
element_adds e d h = told_adds (has_room (own_item e) d) e d h

left_stays : (r : Result (Unit {0}) Throw) (cells : List Cell) (u : State Definitions)
    → ((left_by r cells u).flow ≡ u.flow) × ((left_by r cells u).words.defining ≡ u.words.defining)
left_stays (Ok x) cells u = (refl, refl)
left_stays (Err t) cells u = (refl, refl)

module _ (P : Element PlainItem → Type 0) where
  pub appends : (e : Element PlainItem) (cells : List Cell) (u : State Definitions) → P e
      → Adds P u (acted c (Does (Appends e cells)) u)
  unfolding acted worked
  appends e cells u h =
      let a = c.element e u.code in
      let l = left_stays a.ended cells u in
      (l.0, l.1, refl, (λ ok. (e, h, element_adds e u.code ok)))

  failing : (t : Throw) (u : State Definitions) → Adds P u (acted c (Does (Fails t)) u)
  unfolding acted worked
  failing t u = (refl, refl, refl, (λ ok. absurd (err_ok (Err t) t refl ok)))

  -- ---- strings

  put_adds : (e : Element PlainItem) → P e → (u : State Definitions) (a : Answered Definitions)
      (r : Result (Unit {0}) Throw) (m : DataSpace) → a.ended ≡ r
      → (a.ended ≡ Ok tt → a.code.elements ≡ e ∷ u.code.elements) → Adds P u (string_put r a.code m u)
  put_adds e h u a (Ok x) m f more = (refl, refl, refl, (λ ok. (e, h, more f)))
  put_adds e h u a (Err t) m f more = (refl, refl, refl, (λ ok. absurd (err_ok (Err t) t refl ok)))

  refused_adds : (u : State Definitions) (r : Result (Unit {0}) Throw) (t : Throw) → Adds P u (string_refused r t u)
  refused_adds u (Ok x) t = (refl, refl, refl, (λ ok. absurd (err_ok (Err t) t refl ok)))
  refused_adds u (Err first) t = (refl, refl, refl, (λ ok. absurd (err_ok (Err first) first refl ok)))

  kept_adds : (e : Element PlainItem) → P e → (u : State Definitions) (a : Answered Definitions)
      (r : Result (ℕ × DataSpace) MemFault) → (a.ended ≡ Ok tt → a.code.elements ≡ e ∷ u.code.elements)
      → Adds P u (string_kept a r u)
  kept_adds e h u a (Ok x) more = put_adds e h u a a.ended x.1 refl more
  kept_adds e h u a (Err fault) more = refused_adds u a.ended _

  pub copies : (a n : ℕ) (u : State Definitions)
      → ((e : Element PlainItem) → e ≡ string_element u.board.memory.here n → P e)
      → Adds P u (acted c (Copies a n) u)
  unfolding acted
  copies a n u h =
      let e = string_element u.board.memory.here n in
      kept_adds e (h e refl) u (c.element e u.code) (append_copied u.board.memory a n [])
      (λ ok. element_adds e u.code ok)

-- ---- plain words

abbrev pub IsItem : Element PlainItem → Type 0
IsItem e = (x : PlainItem) × (e ≡ element.Plain x)

named_adds : (o : Option TokenEntry) (g : ℕ → PlainItem) (u : State Definitions)
    → Adds IsItem u (acted c (Does (named o (λ xt. appending (element.Plain (g xt)) (front_of u)))) u)
named_adds None g u = failing IsItem _ u
named_adds (Some e) g u = appends IsItem (element.Plain (g e.xt)) u.board.stack u (g e.xt, refl)

listed_adds : (b : Bool) (xt : ℕ) (t : Throw) (u : State Definitions)
    → Adds IsItem u (acted c
    (Does (if b then appending (element.Plain (called (record { 0 = xt }))) (front_of u) else Fails t)) u)
listed_adds true xt t u =
    appends IsItem (element.Plain (called (record { 0 = xt }))) u.board.stack u (called (record { 0 = xt }), refl)
listed_adds false xt t u = failing IsItem t u

called_by : (b : Bool) (a : WordAct) (e : TokenEntry) (t : Throw) (u : State Definitions) → b ≡ false
    → Adds IsItem u (acted c
    (Does (if b then a else
    (if is_word u.words.dictionary e.xt then appending (element.Plain (called (record { 0 = e.xt })))
    (front_of u) else Fails t))) u)
called_by true a e t u f = absurd (not_both f)
called_by false a e t u f = listed_adds (is_word u.words.dictionary e.xt) e.xt t u

calling_adds : (o : Option TokenEntry) (u : State Definitions) → is_immediate_entry o ≡ false
    → Adds IsItem u (acted c (Does (calling o (front_of u))) u)
calling_adds None u h = failing IsItem _ u
calling_adds (Some e) u h = called_by e.immediate _ e _ u h

code_is : (a : Argument) (w : Typing) (n k : ℕ) → n ≡ k
    → typed_of (record { code = record { 0 = k }; argument = a }) ≡ Plain w
    → typed_of (record { code = record { 0 = n }; argument = a }) ≡ Plain w
code_is a w n k e h =
    subst (λ (m : ℕ). typed_of (record { code = record { 0 = m }; argument = a }) ≡ Plain w) (sym e) h

module _ (image loops : List ℕ) (Keeps : State Definitions → Type 0) (typing : TokensAreTyped) where
  compiles : (b : Bool) (x y : Act) → b ≡ true → (if b then x else y) ≡ x
  compiles true x y e = refl
  compiles false x y e = absurd (not_both (sym e))

  -- a token in a definition does what the table says
  pub compiled_at : (t : Token) (w : Typing) (p q : Place) (s : State Definitions) → typed_of t ≡ Plain w
      → AtSource image loops Keeps true s
      → token_at c t p q s
      ≡ acted c (compiling_act w (spot_in s.board.memory p.position q.position) (front_of (at_place q s)))
      (at_place q s)
  compiled_at t w p q s e h =
      let u = at_place q s in
      let here = spot_in s.board.memory p.position q.position in
      ap (λ (x : Typed). token_done c x here u) e
      ∙ ap (λ a. acted c a u)
      (compiles s.flow.is_compiling (compiling_act w here (front_of u)) (token_act w here (front_of u)) h.compiles)

  abbrev pub AddsAt : (Element PlainItem → Type 0) → Token → Place → Place → State Definitions → Type 0
  AddsAt P t p q s = Adds P (at_place q s) (token_at c t p q s)

  adds_as : (P : Element PlainItem → Type 0) (t : Token) (w : Typing) (p q : Place) (s : State Definitions)
      → typed_of t ≡ Plain w → AtSource image loops Keeps true s
      → let u = at_place q s in
      Adds P u (acted c (compiling_act w (spot_in s.board.memory p.position q.position) (front_of u)) u)
      → AddsAt P t p q s
  adds_as P t w p q s e h adds =
      subst (λ (o : Outcome Definitions). Adds P (at_place q s) o) (sym (compiled_at t w p q s e h)) adds

  word_adds : (k : FCode) (p q : Place) (s : State Definitions) → AtSource image loops Keeps true s
      → typed_of (record { code = k; argument = Nothing }) ≡ Plain (token.Word k)
      → is_executed (typed_of (record { code = k; argument = Nothing })) s.words.table ≡ false
      → AddsAt IsItem (record { code = k; argument = Nothing }) p q s
  unfolding compiling_act
  word_adds k p q s h e i =
      adds_as IsItem (record { code = k; argument = Nothing }) (token.Word k) p q s e h
      (calling_adds (entry_in s.words.table k.0) (at_place q s)
      (ap (λ (x : Typed). is_executed x s.words.table) (sym e) ∙ i))

  pub plain_adds : (a : Argument) (k : FCode) (p q : Place) (s : State Definitions) → AtSource image loops Keeps true s
      → IsPlainWith a k.0 → (k.0 ≡ 0x0cc → ⊥)
      → is_executed (typed_of (record { code = k; argument = a })) s.words.table ≡ false
      → AddsAt IsItem (record { code = k; argument = a }) p q s
  unfolding compiling_act
  plain_adds Nothing k p q s h is steady i =
      word_adds k p q s h
      (bare_typed (nat_le 0x800 k.0) (is_ordinary (word_numbered k.0)) (nat_eq k.0 0x0cc) k refl refl refl steady is) i
  plain_adds (Literal x) k p q s h is steady i =
      adds_as IsItem (record { code = k; argument = Literal x }) (token.Literal x) p q s
      (code_is (Literal x) (token.Literal x) k.0 0x010 is (typing.literal x)) h
      (appends IsItem (element.Plain (plain.Literal x)) s.board.stack (at_place q s) (plain.Literal x, refl))
  plain_adds (String bytes) k p q s h is steady i =
      adds_as IsItem (record { code = k; argument = String bytes }) (token.String (length bytes)) p q s
      (code_is (String bytes) (token.String (length bytes)) k.0 0x012 is (typing.string bytes)) h
      (copies IsItem _ (length bytes) (at_place q s) (λ e f. (plain.String _ _, f)))
  plain_adds (Code n) k p q s h (inl is) steady i =
      adds_as IsItem (record { code = k; argument = Code n }) (token.Tick n) p q s
      (code_is (Code n) (token.Tick n) k.0 0x011 is (typing.tick n)) h
      (named_adds (entry_in s.words.table n.0) (λ xt. plain.Literal (record { 0 = xt })) (at_place q s))
  plain_adds (Code n) k p q s h (inr is) steady i =
      adds_as IsItem (record { code = k; argument = Code n }) (token.To n) p q s
      (code_is (Code n) (token.To n) k.0 0x0c3 is (typing.to n)) h
      (named_adds (entry_in s.words.table n.0) (λ xt. plain.Store (record { 0 = xt })) (at_place q s))
  plain_adds (Named name n) k p q s h is steady i = absurd is
  plain_adds (Offset by) k p q s h is steady i = absurd is

  -- a word of control
  pub control_adds : (t : Token) (k : IsOfControl t) (p q : Place) (s : State Definitions)
      → AtSource image loops Keeps true s
      → AddsAt (λ e. e ≡ k.left p.position) t p q s
  control_adds t k p q s h =
      let u = at_place q s in
      let here = spot_in s.board.memory p.position q.position in
      adds_as (λ e. e ≡ k.left p.position) t k.word p q s k.kind h
      (subst (λ (a : Act). Adds (λ e. e ≡ k.left p.position) u (acted c a u)) (sym (k.does here (front_of u)))
      (appends (λ e. e ≡ k.left p.position) (k.left p.position) s.board.stack u refl))

  -- `offset16`
  pub wide_keeps : (t : Token) (p q : Place) (s : State Definitions) → AtSource image loops Keeps true s
      → t.code.0 ≡ 0x0cc
      → t.argument ≡ Nothing
      → let o = token_at c t p q s in
      (o.state.flow ≡ (at_place q s).flow) × (o.state.words.defining ≡ s.words.defining) × (o.asks ≡ None)
      × (o.state.code ≡ s.code)
  unfolding compiling_act token_act acted worked
  wide_keeps t p q s h e a =
      let kind : typed_of t ≡ Plain token.Offset16 =
      ap (λ (x : Argument). typed_of (record { code = t.code; argument = x })) a
      ∙ code_is Nothing token.Offset16 t.code.0 0x0cc e typing.offset16 in
      let same = compiled_at t token.Offset16 p q s kind h in (
        ap (λ (o : Outcome Definitions). o.state.flow) same,
        ap (λ (o : Outcome Definitions). o.state.words.defining) same,
        ap (λ (o : Outcome Definitions). o.asks) same,
        ap (λ (o : Outcome Definitions). o.state.code) same,
      )
