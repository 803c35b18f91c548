-- `b(:)` opens a definition, and `b(;)` ends it.
use Rattle.std.proofs.Common.{◌≡◌, ℕ, Bool, true, false, List, [], ◌∷◌, length, Option, Some, None, Result, Ok, Err}
use Rattle.std.proofs.Common.{refl}
use Rattle.std.proofs.Common.{sym, ap, ◌∙◌, subst, is_some, if◌then◌else◌}
use Rattle.std.specs.Prelude.{is_none, nat_le}
use Rattle.of_stacks.specs.declared.throws.Throw.{Throw}
use Rattle.of_stacks.specs.Order.{counted, counting, fault_if, unless}
use Rattle.of_stacks.specs.Throws.{compiler_nesting, dictionary_overflow, stack_underflow}
use Rattle.of_dict.specs.Words.{capacity, xt_of}
use Rattle.of_dict.specs.declared.word.Kind.TheVariants as kind
use Rattle.of_control.specs.Reading.{body_in}
use Rattle.of_control.specs.Body.{Body}
use Rattle.of_compile.specs.declared.defining.DefiningWord.TheVariants as defining
use Rattle.of_compile.specs.declared.element.PlainItem.{PlainItem}
use Rattle.of_compile.specs.declared.words.Pending.{Pending}
use Rattle.of_compile.specs.Defining.{Made, Making, closed_by, defining_faults, has_no_bytes, making, one}
use Rattle.of_compile.specs.Defining.{word_made}
use Rattle.of_compile.specs.SlotWords.{awaited, slot_of}
use Rattle.of_compile.specs.Structured.{Definitions, finished_told}
use Rattle.of_compile.specs.Words.{WordsState}
use Rattle.of_source.specs.Items.{bare}
use Rattle.of_source.specs.Nest.{Nest}
use Rattle.of_tok.specs.declared.place.Place.{Place}
use Rattle.of_flow.specs.declared.control_state.Flow.{Flow}
use Rattle.of_flow.specs.declared.token.Token.TheVariants as token
use Rattle.of_eval.specs.Defining.{by_making, closed_if, semicolon_entry, word_made_as}
use Rattle.of_eval.specs.Doing.{acted}
use Rattle.of_eval.specs.Methods.{then_known}
use Rattle.of_eval.specs.Tokens.{compiling_act, token_act}
use Rattle.of_state.specs.State.{Answered, Calls, Outcome, State, by_code}
use Rattle.of_state.specs.Settling.{settled, thrown_in}
use Rattle.of_stacks.specs.Unwinding.{latest_handler}
use Rattle.of_steps.specs.Steps.{settled_of}
use Rattle.of_eval_laws.specs.Structured.{structured_calls, told_answer}
use Rattle.of_eval_laws.specs.Throws.{ThrowsSettle}
use Rattle.of_eval_laws.specs.Tokens.{TokensAreTyped}
use Rattle.of_meaning.specs.Pairs.{nest_body}
use Rattle.of_means.specs.Means.{at_place, token_at}
use Rattle.of_means.specs.Nested.{nest_calls}
use Rattle.of_means.specs.Sources.{AtSource}
use Rattle.of_means.proofs.Compiling.{compiled_at}
use Rattle.of_means.proofs.Control.{executed_at}
use Rattle.of_means.proofs.Level.{level_unguarded}
use Rattle.of_means.proofs.Quiet.{known_quiet}
use Rattle.of_means.proofs.Standing.{StaysBehind}

not_both : true ≡ false → ⊥
not_both e = cc

some_later : (a b : Option Throw) (t : Throw) → counted a (counted (Some t) b) ≡ None → ⊥
some_later None None t e = cc
some_later None (Some u) t e = cc
some_later (Some x) None t e = cc
some_later (Some x) (Some u) t e = cc

-- ---- `b(:)`

abbrev later : Making → Made → Option Throw
later g x =
    counting
    (fault_if (is_none (Some x)) stack_underflow
    ∷ fault_if (nat_le capacity (length g.words.dictionary)) dictionary_overflow
    ∷ fault_if (has_no_bytes g.memory (Some x)) dictionary_overflow
    ∷ [])

-- where it throws nothing, a number was pending
made_open : (g : Making) (p : Option Pending) (x : Made) → counting (defining_faults g (Some x)) ≡ None
    → g.words.pending ≡ p → is_some (word_made defining.Colon g p (Some x)).words.defining ≡ true
made_open g (Some p) x e f = refl
made_open g None x e f =
    let first = fault_if (is_some g.words.defining) compiler_nesting in
    let bad : counted first (counted (Some compiler_nesting) (later g x)) ≡ None =
    subst (λ (y : Option Pending). counted first (counted (fault_if (is_none y) compiler_nesting) (later g x)) ≡ None)
    f e in
    absurd (some_later first (later g x) compiler_nesting bad)

-- no `instance` makes a definition another
never_awaited : (w : WordsState) → awaited defining.Colon w ≡ None
never_awaited w = either w.waiting
  where
    either : (b : Bool) → (if b then slot_of defining.Colon else None) ≡ None
    either true = refl
    either false = refl

module _ (image loops : List ℕ) (Keeps : State Definitions → Type 0) (settles : ThrowsSettle Definitions)
    (typing : TokensAreTyped) where
  abbrev c : Calls Definitions
  c = structured_calls

  -- what was done where words are compiled from now on or not, if it leaves anything that runs
  abbrev pub Turns : Bool → Place → State Definitions → Outcome Definitions → Type 0
  Turns b q s o =
      (o.asks ≡ None) × ((settled_of c o).flow.is_running ≡ true → StaysBehind q s b o.state)

  thrown_off : (b : Bool) (t : Throw) (q : Place) (s : State Definitions) (o : Outcome Definitions)
      → AtSource image loops Keeps b s → o.ended ≡ Err t → o.state.flow ≡ (at_place q s).flow
      → (settled_of c o).flow.is_running ≡ true → ⊥
  thrown_off b t q s o h e f running =
      let guard = level_unguarded image s.flow.items h.level in
      let free = ap (λ (y : Flow). latest_handler y.items) f ∙ guard in
      let ends = (settles.ends c t o.state free).running in
      not_both
      (sym running
      ∙ ap (λ (y : Result (Unit {0}) Throw). (settled c o.state.flow.items (thrown_in y) o.state).flow.is_running) e
      ∙ ends)

  opens_by : (f : Option Throw) (g : Making) (q : Place) (s : State Definitions) → AtSource image loops Keeps false s
      → (f ≡ None → is_some g.words.defining ≡ true)
      → let o = by_making defining.Colon (unless f g) (at_place q s) in
      Turns true q s o × (o.state.code ≡ s.code)
  opens_by (Some t) g q s h d =
      let o = by_making defining.Colon (unless (Some t) g) (at_place q s) in
      ((refl, (λ running. absurd (thrown_off false t q s o h refl refl running))), refl)
  opens_by None g q s h d = (
    (
      refl,
      (λ running. record {
        items = refl;
        reading = refl;
        next = refl;
        running = refl;
        compiles = refl;
        defines = d refl;
      }),
    ),
    refl,
  )

  pub colon_turns : (p q : Place) (s : State Definitions) → AtSource image loops Keeps false s
      → let o = token_at c (bare 0x0b7) p q s in Turns true q s o × (o.state.code ≡ s.code)
  unfolding token_act acted
  colon_turns p q s h =
      let u = at_place q s in
      let g = making u.words u.board.stack u.board.memory in
      let x : Made = one (kind.Colon (c.ends_at u.code)) 0 u.board.stack in
      let f = counting (defining_faults g (Some x)) in
      let same : token_at c (bare 0x0b7) p q s
      ≡ by_making defining.Colon (unless f (word_made defining.Colon g g.words.pending (Some x))) u =
      executed_at c image loops Keeps (bare 0x0b7) (token.Define defining.Colon) p q s typing.colon h
      ∙ ap (λ o. word_made_as c defining.Colon o u) (never_awaited u.words) in
      subst (λ (o : Outcome Definitions). Turns true q s o × (o.state.code ≡ s.code)) (sym same)
      (opens_by f (word_made defining.Colon g g.words.pending (Some x)) q s h
      (λ e. made_open g g.words.pending x e refl))

  -- ---- `b(;)`

  -- by the body of the nest, where that is the body of the elements
  pub same_end : (i : Nest) (o : Option ℕ) (s : State Definitions)
      → body_in 32 s.code.elements ≡ nest_body i s.code.elements
      → semicolon_entry c o s ≡ semicolon_entry (nest_calls i) o s
  same_end i None s e = refl
  same_end i (Some n) s e =
      ap (λ (b : Option (Body PlainItem)).
      let a = told_answer (finished_told (record { 0 = xt_of n }) s.code b) in
      then_known s.flow.home (Some n) (by_code a (closed_if a.ended s))) e

  shut_by : (o : Option ℕ) (w : WordsState) → w.defining ≡ o → (closed_by o w).defining ≡ None
  shut_by None w e = e
  shut_by (Some n) w e = refl

  ends_by : (n : ℕ) (a : Answered Definitions) (r : Result (Unit {0}) Throw) (q : Place) (s : State Definitions)
      → AtSource image loops Keeps true s
      → Turns false q s
      (then_known s.flow.home (Some n) (by_code (record { code = a.code; ended = r }) (closed_if r (at_place q s))))
  ends_by n a (Err t) q s h =
      let o = then_known s.flow.home (Some n) (by_code (record { code = a.code; ended = Err t }) (at_place q s)) in
      (refl, (λ running. absurd (thrown_off true t q s o h refl refl running)))
  ends_by n a (Ok x) q s h =
      let u = at_place q s in
      let b = by_code (record { code = a.code; ended = Ok x }) (closed_if (Ok x) u) in
      let k = known_quiet c (Ok x) s.flow.home n b.state in
      let shut : b.state.words.defining ≡ None = shut_by s.words.defining s.words refl in (
        refl,
        (λ running. record {
          items = ap (λ (f : Flow). f.items) k.0;
          reading = ap (λ (f : Flow). f.reading) k.0;
          next = ap (λ (f : Flow). f.next) k.0;
          running = ap (λ (f : Flow). f.is_running) k.0;
          compiles = ap (λ (f : Flow). f.is_compiling) k.0;
          defines = ap is_some (k.1 ∙ shut);
        }),
      )

  ends_open : (o : Option ℕ) (q : Place) (s : State Definitions) → AtSource image loops Keeps true s
      → s.words.defining ≡ o
      → Turns false q s (semicolon_entry c o (at_place q s))
  ends_open None q s h e = absurd (not_both (sym h.defines ∙ ap is_some e))
  ends_open (Some n) q s h e =
      let a = c.semicolon (record { 0 = xt_of n }) s.code in
      ends_by n a a.ended q s h

  pub semicolon_turns : (q : Place) (s : State Definitions) → AtSource image loops Keeps true s
      → Turns false q s (semicolon_entry c s.words.defining (at_place q s))
  semicolon_turns q s h = ends_open s.words.defining q s h refl

  pub semicolon_at : (p q : Place) (s : State Definitions) → AtSource image loops Keeps true s
      → token_at c (bare 0x0c2) p q s ≡ semicolon_entry c s.words.defining (at_place q s)
  unfolding compiling_act token_act acted
  semicolon_at p q s h = compiled_at image loops Keeps typing (bare 0x0c2) token.Semicolon p q s typing.semicolon h
