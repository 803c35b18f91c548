-- What a word of the source starts leads back to it.
use Rattle.std.proofs.Common.{◌≡◌, inl, inr, ℕ, zero, suc, ◌+◌, ◌-◌, ◌<◌, ◌≤◌, ◌||◌, ◌&&◌, Bool, true, false}
use Rattle.std.proofs.Common.{nat_eq, nat_le, nat_lt, List, [], ◌∷◌, length, Option, Some, None, refl, sym, ap, ◌∙◌}
use Rattle.std.proofs.Common.{subst}
use Rattle.std.proofs.Common.{arith, eqb-true, if◌then◌else◌}
use Rattle.std.specs.List.{list_all}
use Rattle.std.specs.Option.{option_map}
use Rattle.std.proofs.lemmas.Bool.{eq-eqb, leb-true, ltb-true}
use Rattle.of_stacks.specs.declared.return_item.Reading.{Reading}
use Rattle.of_fcodes.specs.declared.codes.FCode.{FCode}
use Rattle.of_fcodes.specs.declared.token_table.TokenEntry.{TokenEntry}
use Rattle.of_fcodes.specs.declared.words.Word.{Word}
use Rattle.of_fcodes.specs.declared.words.Word.TheVariants as word
use Rattle.of_fcodes.specs.Lookup.{row_in, row_numbered, word_numbered}
use Rattle.of_fcodes.specs.Rows.{Row, rows, first_rows, second_rows, third_rows, fourth_rows, fifth_rows, sixth_rows}
use Rattle.of_fcodes.specs.Rows.{seventh_rows}
use Rattle.of_fcodes.specs.Tokens.{entry_in}
use Rattle.of_stream.specs.Decoding.{Argument, Code, Literal, Named, Nothing, Offset, String, Token}
use Rattle.of_compile.specs.declared.defining.DefiningWord.{DefiningWord}
use Rattle.of_compile.specs.declared.defining.DefiningWord.TheVariants as defining
use Rattle.of_compile.specs.Defining.{opens}
use Rattle.of_compile.specs.Words.{is_debugging}
use Rattle.of_source.specs.declared.keyword.Maker.{Maker}
use Rattle.of_source.specs.declared.keyword.Maker.TheVariants as maker
use Rattle.of_source.specs.Items.{call, making, own_code}
use Rattle.of_source.specs.Keywords.{is_ordinary}
use Rattle.of_source.specs.Plain.{IsPlainWith, is_kind}
use Rattle.of_tok.specs.declared.place.Place.{Place}
use Rattle.of_flow.specs.declared.token.Token.{Token as Typing}
use Rattle.of_flow.specs.declared.token.Token.TheVariants as token
use Rattle.of_flow.specs.Tokens.{ExternalToken, NamedToken, Plain, Typed, typed, typed_of}
use Rattle.of_eval.specs.Acts.{front_of, leaving}
use Rattle.of_eval.specs.Doing.{acted, worked}
use Rattle.of_eval.specs.Executing.{execution}
use Rattle.of_eval.specs.Reading.{token_done}
use Rattle.of_eval.specs.Tokens.{act_of, named, spot_in, token_act}
use Rattle.of_state.specs.State.{Calls, Outcome, State}
use Rattle.of_flow.specs.Returns.{pushed}
use Rattle.of_eval_laws.specs.Returning.{IsDue, Leads, StackLeadsBack, is_outer}
use Rattle.of_eval_laws.specs.Tokens.{TokensAreTyped}
use Rattle.of_flow.specs.declared.control_state.Flow.{Flow}
use Rattle.of_means.specs.Means.{at_place, token_at}
use Rattle.of_means.specs.Sources.{AtSource, IsWord}
use Rattle.of_means.proofs.Control.{executed_at}
use Rattle.of_means.proofs.Leading.{both_first, both_second, none_open, source_leads}
use Rattle.of_means.proofs.Quiet.{Quiet, define_quiet, leaving_quiet, numbered_quiet, storing_quiet}

-- ---- FCodes of own and ordinary words

-- no FCode of a written word is an own one
none_low : (rs : List Row) (n : ℕ) → list_all (λ (r : Row). nat_lt r.number 0x800) rs ≡ true → 0x800 ≤ n
    → row_in rs n ≡ None
none_low [] n h l = refl
none_low (r ∷ rs) n h l =
    by_number (nat_eq r.number n) (λ e. eqb-true r.number n e)
    (ltb-true r.number 0x800 (first_of (nat_lt r.number 0x800) h))
    (none_low rs n (rest_of (nat_lt r.number 0x800) h) l)
  where
    first_of : (b : Bool) → (b && list_all (λ (r : Row). nat_lt r.number 0x800) rs) ≡ true → b ≡ true
    first_of true e = refl
    first_of false e = absurd cc

    rest_of : (b : Bool) → (b && list_all (λ (r : Row). nat_lt r.number 0x800) rs) ≡ true
        → list_all (λ (r : Row). nat_lt r.number 0x800) rs ≡ true
    rest_of true e = e
    rest_of false e = absurd cc

    by_number : (b : Bool) → (b ≡ true → r.number ≡ n) → r.number < 0x800 → row_in rs n ≡ None
        → (if b then Some r else row_in rs n) ≡ None
    by_number true same low none = absurd (omega (arith, same refl, low, l))
    by_number false same low none = none

pub own_is_none : (n : ℕ) → 0x800 ≤ n → word_numbered n ≡ None
unfolding row_numbered rows first_rows second_rows third_rows fourth_rows fifth_rows sixth_rows seventh_rows
own_is_none n l = ap (option_map (λ (r : Row). r.word)) (none_low rows n refl l)

none_wider : false ≡ true → ⊥
none_wider e = cc

-- an FCode that is ordinary, or not listed, is that of a word
ordinary_typed : (o : Option Word) (k : FCode) → is_ordinary o ≡ true → typed o k Nothing ≡ Plain (token.Word k)
ordinary_typed None k h = refl
ordinary_typed (Some (word.Stream w)) k h = absurd cc
ordinary_typed (Some (word.Primitive w)) k h = refl
ordinary_typed (Some (word.Printing w)) k h = refl
ordinary_typed (Some (word.Heap w)) k h = refl
ordinary_typed (Some (word.Keys w)) k h = refl
ordinary_typed (Some (word.Returns w)) k h = refl
ordinary_typed (Some (word.Dictionary w)) k h = refl
ordinary_typed (Some (word.Throws w)) k h = refl
ordinary_typed (Some (word.Properties w)) k h = refl
ordinary_typed (Some (word.Tree w)) k h = refl
ordinary_typed (Some (word.Devices w)) k h = refl
ordinary_typed (Some (word.Console w)) k h = refl
ordinary_typed (Some (word.Parsing w)) k h = refl
ordinary_typed (Some (word.Compiling w)) k h = refl

pub bare_typed : (a b d : Bool) (k : FCode) → nat_le 0x800 k.0 ≡ a → is_ordinary (word_numbered k.0) ≡ b
    → nat_eq k.0 0x0cc ≡ d → (k.0 ≡ 0x0cc → ⊥) → (a || (b || d)) ≡ true
    → typed (word_numbered k.0) k Nothing ≡ Plain (token.Word k)
bare_typed true b d k own ordinary wide steady h =
    ap (λ o. typed o k Nothing) (own_is_none k.0 (leb-true 0x800 k.0 own))
bare_typed false true d k own ordinary wide steady h = ordinary_typed (word_numbered k.0) k ordinary
bare_typed false false true k own ordinary wide steady h = absurd (steady (eqb-true k.0 0x0cc wide))
bare_typed false false false k own ordinary wide steady h = absurd cc

-- ---- what the acts of such words leave

module _ {S : Type 0} (image loops : List ℕ) (outer : Reading) where
  quiet_leads : (u v : State S) → Leads image loops outer u → Quiet u v → Leads image loops outer v
  quiet_leads u v h q = (
    subst (λ (f : Flow). IsDue image loops outer f) (sym q.0) h.0,
    (λ o. q.1 ∙ h.1 (sym (ap (λ (f : Flow). is_outer f.items) q.0) ∙ o)),
  )

module _ {S : Type 0} (c : Calls S) (image loops : List ℕ) (Keeps : State S → Type 0) (typing : TokensAreTyped)
    (back : StackLeadsBack S) where
  -- a token at the source leaves this of control
  abbrev pub Starts : Token → Place → Place → State S → Type 0
  Starts t p q s = Leads image loops (at_place q s).flow.reading (token_at c t p q s).state

  word_leads : (o : Option TokenEntry) (outer : Reading) (u : State S) → Leads image loops outer u
      → Leads image loops outer (worked c (named o (λ xt. execution xt (front_of u))) u).state
  unfolding worked
  word_leads None outer u h = h
  word_leads (Some e) outer u h = back.words image loops outer c e.xt u h

  starts_word : (t : Token) (p q : Place) (s : State S) → AtSource image loops Keeps false s
      → typed_of t ≡ Plain (token.Word t.code) → Starts t p q s
  unfolding token_act acted
  starts_word t p q s h e =
      let u = at_place q s in
      subst (λ o. Leads image loops u.flow.reading o.state)
      (sym (executed_at c image loops Keeps t (token.Word t.code) p q s e h))
      (word_leads (entry_in u.words.table t.code.0) u.flow.reading u (source_leads image loops Keeps q s h))

  starts_as : (t : Token) (w : Typed) (p q : Place) (s : State S) → AtSource image loops Keeps false s → typed_of t ≡ w
      → let u = at_place q s in
      Quiet u (acted c (act_of w (spot_in s.board.memory p.position q.position) (front_of u)) u).state
      → Starts t p q s
  starts_as t w p q s h e quiet =
      let u = at_place q s in
      let here = spot_in s.board.memory p.position q.position in
      subst (λ (x : Typed). Leads image loops u.flow.reading (token_done c x here u).state) (sym e)
      (quiet_leads image loops u.flow.reading u (token_done c w here u).state
      (source_leads image loops Keeps q s h) quiet)

  starts_quiet : (t : Token) (w : Typing) (p q : Place) (s : State S) → AtSource image loops Keeps false s
      → typed_of t ≡ Plain w
      → let u = at_place q s in
      Quiet u (acted c (token_act w (spot_in s.board.memory p.position q.position) (front_of u)) u).state
      → Starts t p q s
  starts_quiet t w p q s h e quiet =
      let u = at_place q s in
      let here = spot_in s.board.memory p.position q.position in
      subst (λ (o : Outcome S). Leads image loops u.flow.reading o.state)
      (sym (executed_at c image loops Keeps t w p q s e h))
      (quiet_leads image loops u.flow.reading u (acted c (token_act w here (front_of u)) u).state
      (source_leads image loops Keeps q s h) quiet)

  -- ---- plain words

  tick_quiet : (o : Option TokenEntry) (u : State S)
      → Quiet u (worked c (named o (λ xt. leaving (pushed (record { 0 = xt }) u.board.stack))) u).state
  unfolding worked
  tick_quiet None u = (refl, refl)
  tick_quiet (Some e) u = leaving_quiet c (pushed (record { 0 = e.xt }) u.board.stack) u

  code_is : (a : Argument) (w : Typing) (n k : ℕ) → n ≡ k
      → typed_of (record { code = record { 0 = k }; argument = a }) ≡ Plain w
      → typed_of (record { code = record { 0 = n }; argument = a }) ≡ Plain w
  code_is a w n k e h =
      subst (λ (m : ℕ). typed_of (record { code = record { 0 = m }; argument = a }) ≡ Plain w) (sym e) h

  -- `offset16` does nothing but make offsets wider
  bare_starts : (k : FCode) (p q : Place) (s : State S) → AtSource image loops Keeps false s → IsPlainWith Nothing k.0
      → (b : Bool) → nat_eq k.0 0x0cc ≡ b → Starts (record { code = k; argument = Nothing }) p q s
  unfolding token_act acted worked
  bare_starts k p q s h plain true e =
      starts_quiet (record { code = k; argument = Nothing }) token.Offset16 p q s h
      (code_is Nothing token.Offset16 k.0 0x0cc (eqb-true k.0 0x0cc e) typing.offset16) (refl, refl)
  bare_starts k p q s h plain false e =
      starts_word (record { code = k; argument = Nothing }) p q s h
      (bare_typed (nat_le 0x800 k.0) (is_ordinary (word_numbered k.0)) (nat_eq k.0 0x0cc) k refl refl refl
      (λ f. none_wider (sym e ∙ eq-eqb k.0 0x0cc f)) plain)

  plain_starts : (a : Argument) (k : FCode) (p q : Place) (s : State S) → AtSource image loops Keeps false s
      → IsPlainWith a k.0 → Starts (record { code = k; argument = a }) p q s
  unfolding token_act acted
  plain_starts Nothing k p q s h plain = bare_starts k p q s h plain (nat_eq k.0 0x0cc) refl
  plain_starts (Literal x) k p q s h plain =
      starts_quiet (record { code = k; argument = Literal x }) (token.Literal x) p q s h
      (code_is (Literal x) (token.Literal x) k.0 0x010 plain (typing.literal x))
      (leaving_quiet c (pushed x s.board.stack) (at_place q s))
  plain_starts (String bytes) k p q s h plain =
      starts_quiet (record { code = k; argument = String bytes }) (token.String (length bytes)) p q s h
      (code_is (String bytes) (token.String (length bytes)) k.0 0x012 plain (typing.string bytes))
      (leaving_quiet c _ (at_place q s))
  plain_starts (Code n) k p q s h (inl plain) =
      starts_quiet (record { code = k; argument = Code n }) (token.Tick n) p q s h
      (code_is (Code n) (token.Tick n) k.0 0x011 plain (typing.tick n))
      (tick_quiet (entry_in s.words.table n.0) (at_place q s))
  plain_starts (Code n) k p q s h (inr plain) =
      starts_quiet (record { code = k; argument = Code n }) (token.To n) p q s h
      (code_is (Code n) (token.To n) k.0 0x0c3 plain (typing.to n))
      (storing_quiet c (entry_in s.words.table n.0) s.board.stack (at_place q s))
  plain_starts (Named name n) k p q s h plain = absurd plain
  plain_starts (Offset by) k p q s h plain = absurd plain

  -- ---- what gives a definition its number

  maker_starts : (k : Maker) (name : List ℕ) (n : FCode) (p q : Place) (s : State S)
      → AtSource image loops Keeps false s
      → Starts (making k name n) p q s
  unfolding token_act acted
  maker_starts maker.Unnamed name n p q s h =
      starts_quiet (making maker.Unnamed name n) (token.NewToken n) p q s h (typing.new_token n)
      (numbered_quiet c n None s.board.stack (at_place q s))
  maker_starts maker.Named name n p q s h =
      starts_as (making maker.Named name n) (NamedToken name n) p q s h (typing.named_token name n)
      (numbered_quiet c n (if is_debugging s.board.memory then Some name else None) s.board.stack (at_place q s))
  maker_starts maker.External name n p q s h =
      starts_as (making maker.External name n) (ExternalToken name n) p q s h (typing.external_token name n)
      (numbered_quiet c n (Some name) s.board.stack (at_place q s))

  -- ---- other defining words

  abbrev IsDefining : ℕ → Type 0
  IsDefining k =
      (d : DefiningWord) × (opens d ≡ false)
      × (typed_of (record { code = record { 0 = k }; argument = Nothing }) ≡ Plain (token.Define d))

  kind_from : (j : ℕ) → j ≤ 6 → IsDefining (0x0b8 + j)
  kind_from zero le = (defining.Value, refl, typing.value)
  kind_from (suc zero) le = (defining.Variable, refl, typing.variable)
  kind_from (suc (suc zero)) le = (defining.Constant, refl, typing.constant)
  kind_from (suc (suc (suc zero))) le = (defining.Create, refl, typing.create)
  kind_from (suc (suc (suc (suc zero)))) le = (defining.Defer, refl, typing.defer)
  kind_from (suc (suc (suc (suc (suc zero))))) le = (defining.Buffer, refl, typing.buffer)
  kind_from (suc (suc (suc (suc (suc (suc zero)))))) le = (defining.Field, refl, typing.field_word)
  kind_from (suc (suc (suc (suc (suc (suc (suc j))))))) le = absurd (omega (arith, le))

  kind_is : (k : ℕ) → is_kind k ≡ true → IsDefining k
  kind_is k h =
      let low = leb-true 0x0b8 k (both_first (nat_le 0x0b8 k) (nat_le k 0x0be) h) in
      let high = leb-true k 0x0be (both_second (nat_le 0x0b8 k) (nat_le k 0x0be) h) in
      let e : 0x0b8 + (k - 0x0b8) ≡ k = omega (arith, low) in
      subst (λ (m : ℕ). IsDefining m) e (kind_from (k - 0x0b8) (omega (arith, high)))

  kind_starts : (t : FCode) (p q : Place) (s : State S) → AtSource image loops Keeps false s → is_kind t.0 ≡ true
      → Starts (call t) p q s
  unfolding token_act acted
  kind_starts t p q s h k =
      let d = kind_is t.0 k in
      starts_quiet (call t) (token.Define d.0) p q s h d.2
      (define_quiet c d.0 (at_place q s) d.1 (none_open s.words.defining h.defines))

  -- ---- each word

  pub starts : (t : Token) (p q : Place) (s : State S) → AtSource image loops Keeps false s → IsWord t
      → Starts t p q s
  starts t p q s h (inl plain) = plain_starts t.argument t.code p q s h plain
  starts t p q s h (inr (inl m)) =
      subst (λ (x : Token). Starts x p q s) (sym m.1)
      (maker_starts m.0.maker m.0.name (own_code m.0.number) p q s h)
  starts t p q s h (inr (inr k)) =
      subst (λ (x : Token). Starts x p q s) (sym k.1) (kind_starts t.code p q s h k.0)
