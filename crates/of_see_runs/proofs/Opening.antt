-- A definition that is opened is found by no name, and no name finds something else.
use Rattle.std.proofs.Common.{◌≡◌, ◌⊎◌, inl, inr, ℕ, zero, suc, ◌<◌, ◌≤◌, ◌&&◌, ◌||◌, Bool, true, false, not}
use Rattle.std.proofs.Common.{nat_eq, nat_le, nat_lt}
use Rattle.std.proofs.Common.{List, [], ◌∷◌, ◌++◌, length, Option, Some, None, Result, Ok, Err, refl, ap, sym, ◌∙◌}
use Rattle.std.proofs.Common.{subst, arith, if◌then◌else◌}
use Rattle.std.specs.Option.{option_map, option_or}
use Rattle.std.specs.Prelude.{is_some, option_and_then}
use Rattle.std.proofs.lemmas.Bool.{eqb-true, false_from_ne_true, le-ltb}
use Rattle.std.proofs.lemmas.List.{length-append}
use Rattle.of_cells.specs.declared.cells.Cell.{Cell}
use Rattle.of_stacks.specs.declared.throws.Throw.{Throw}
use Rattle.of_stacks.specs.Order.{counting, fault_if, unless}
use Rattle.of_stacks.specs.Throws.{compiler_nesting, dictionary_overflow, empty_name, long_name, stack_underflow}
use Rattle.of_fcodes.specs.Finding.{word_with_xt}
use Rattle.of_memory.specs.DataSpace.{DataSpace}
use Rattle.of_memory.specs.Growth.{with_zeros}
use Rattle.of_dict.specs.declared.word.Kind.TheVariants as K
use Rattle.of_dict.specs.declared.word.Slot.{Slot}
use Rattle.of_dict.specs.declared.word.Word.{Word}
use Rattle.of_dict.specs.Calls.{made}
use Rattle.of_dict.specs.Words.{bears, capacity, found, has_key, is_hidden_in, is_immediate_in, longest_name, lower}
use Rattle.of_dict.specs.Words.{newest_below, word_at, xt_of}
use Rattle.of_compile.specs.Coding.{Coding}
use Rattle.of_compile.specs.declared.defining.DefiningWord.TheVariants as defining
use Rattle.of_compile.specs.Defining.{Made, Making, has_no_bytes, making, named_made, naming_faults, one, with_named}
use Rattle.of_compile.specs.declared.element.Element.{Element as Printed}
use Rattle.of_compile.specs.declared.element.Element.TheVariants as E
use Rattle.of_compile.specs.declared.element.PlainItem.{PlainItem}
use Rattle.of_compile.specs.declared.element.PlainItem.TheVariants as P
use Rattle.of_compile.specs.Words.{is_word, name_fault, own_number, own_word}
use Rattle.of_text.specs.Names.{Names, active_method}
use Rattle.of_eval.specs.Defining.{by_making, opened}
use Rattle.of_eval.specs.Naming.{naming_done, word_named_as}
use Rattle.of_interpret.specs.TextActs.{names_in}
use Rattle.of_state.specs.State.{State, done, flat_calls}
use Rattle.of_see_runs.specs.Alike.{FindTheSame}
use Rattle.of_see_runs.specs.Limits.{AreKnown, IsDoneOrFull, IsKnown, IsPlainKnown}

-- ---- one word more, which is hidden

module _ (v : Word) (hidden : v.hidden ≡ true) (plain : v.immediate ≡ false) where
  older : (words : List (Option Word)) (i : ℕ) → i < length words → word_at (words ++ Some v ∷ []) i ≡ word_at words i
  older [] i l = absurd (omega (arith, l))
  older (w ∷ words) zero l = refl
  older (w ∷ words) (suc i) l = older words i (omega (arith, l))

  newest : (words : List (Option Word)) → word_at (words ++ Some v ∷ []) (length words) ≡ Some v
  newest [] = refl
  newest (w ∷ words) = newest words

  bears_same : (words : List (Option Word)) (name : List ℕ) (i : ℕ) → i < length words
      → bears (words ++ Some v ∷ []) name i ≡ bears words name i
  bears_same words name i l = ap (λ o. bears_by name o) (older words i l)
    where
      bears_by : List ℕ → Option Word → Bool
      bears_by q o = has_key (o ∷ []) (lower q) 0 && not (is_hidden_in o)

  below_same : (words : List (Option Word)) (name : List ℕ) (i : ℕ) → i < suc (length words)
      → newest_below (bears (words ++ Some v ∷ []) name) i ≡ newest_below (bears words name) i
  below_same words name zero l = refl
  below_same words name (suc i) l =
      ap (λ b. if b then Some i else newest_below (bears (words ++ Some v ∷ []) name) i)
      (bears_same words name i (omega (arith, l)))
      ∙ ap (λ o. if bears words name i then Some i else o) (below_same words name i (omega (arith, l)))

  none_borne : (a : Bool) → (a && not v.hidden) ≡ false
  none_borne true = ap not hidden
  none_borne false = refl

  new_hidden : (words : List (Option Word)) (name : List ℕ)
      → bears (words ++ Some v ∷ []) name (length words) ≡ false
  new_hidden words name =
      ap (λ o. has_key (words ++ Some v ∷ []) (lower name) (length words) && not (is_hidden_in o)) (newest words)
      ∙ none_borne (has_key (words ++ Some v ∷ []) (lower name) (length words))

  found_same : (words : List (Option Word)) (name : List ℕ) → found (words ++ Some v ∷ []) name ≡ found words name
  found_same words name =
      let sum : length (words ++ Some v ∷ []) ≡ suc (length words) = omega (arith, length-append words (Some v ∷ [])) in
      ap (newest_below (bears (words ++ Some v ∷ []) name)) sum
      ∙ ap (λ b. if b then Some (length words) else newest_below (bears (words ++ Some v ∷ []) name) (length words))
      (new_hidden words name)
      ∙ below_same words name (length words) (omega arith)

  at_same : (words : List (Option Word)) (i : ℕ)
      → is_immediate_in (word_at (words ++ Some v ∷ []) i) ≡ is_immediate_in (word_at words i)
  at_same [] zero = plain
  at_same [] (suc i) = refl
  at_same (w ∷ words) zero = refl
  at_same (w ∷ words) (suc i) = at_same words i

  own_immediate : (words : List (Option Word)) (o : Option ℕ)
      → is_immediate_in (option_and_then (word_at (words ++ Some v ∷ [])) o)
      ≡ is_immediate_in (option_and_then (word_at words) o)
  own_immediate words None = refl
  own_immediate words (Some i) = at_same words i

  -- names with that word
  abbrev more : Names → Names
  more n = record { nodes = n.nodes; home = n.home; words = n.words ++ Some v ∷ [] }

  finds_same : (n now : Names) → FindTheSame n now → FindTheSame n (more now)
  finds_same n now same = record {
    own = λ name.
        ap (λ o. option_or (active_method now.nodes now.home name)
        (option_map {U = Cell} (λ k. record { 0 = xt_of k }) o)) (found_same now.words name)
        ∙ same.own name;
    immediate = λ xt. own_immediate now.words (own_number xt) ∙ same.immediate xt;
  }

-- ---- `:` with a name

-- what it leaves
pub record IsOpened (n : Names) (s t : State Coding) : Type 0 where
  pub names : FindTheSame n (names_in t)
  pub defines : t.words.defining ≡ Some (length s.words.dictionary)
  pub compiles : t.flow.is_compiling ≡ true
  pub reads : t.flow.reading.input ≡ s.flow.reading.input
  pub texts : t.flow.texts ≡ s.flow.texts
  pub code : t.code ≡ s.code
  pub words : (w : Word) × (t.words.dictionary ≡ s.words.dictionary ++ Some w ∷ [])

opened_as : (o : Option Throw) (name : List ℕ) (start : ℕ) (n : Names) (s t : State Coding)
    → FindTheSame n (names_in s)
    → by_making {S = Coding} defining.Colon (unless o (named_made defining.Colon name
    (making s.words s.board.stack s.board.memory) (Some (one (K.Colon start) 0 s.board.stack)))) s ≡ done t
    → IsOpened n s t
opened_as (Some u) name start n s t same h =
    let not : ◌≡◌ {A = Result (Unit {0}) Throw} (Err u) (Ok tt) = ap (λ o. o.ended) h in absurd cc
opened_as None name start n s t same h =
    let w = with_named defining.Colon (K.Colon start) name s.words in
    let v = record (made (Some name) (K.Colon start)) { hidden = true } in
    let new =
    opened true (record s { words = w; board = record s.board { memory = with_zeros s.board.memory 0 } }) in
    let e : new ≡ t = ap (λ o. o.state) h in
    subst (λ u. IsOpened n s u) e (record {
      names = finds_same v refl refl n (names_in s) same;
      defines = refl;
      compiles = refl;
      reads = refl;
      texts = refl;
      code = refl;
      words = (v, refl);
    })

waits_for_none : (b : Bool) → ◌≡◌ {A = Option Slot} (if b then None else None) None
waits_for_none true = refl
waits_for_none false = refl

pub opens : (name : List ℕ) (n : Names) (s t : State Coding) → FindTheSame n (names_in s)
    → naming_done flat_calls defining.Colon name s ≡ done t → IsOpened n s t
opens name n s t same h =
    let start = flat_calls.ends_at s.code in
    let g = making s.words s.board.stack s.board.memory in
    let x : Option Made = Some (one (K.Colon start) 0 s.board.stack) in
    opened_as (counting (naming_faults name g x)) name start n s t same
    (sym (ap (λ o. word_named_as flat_calls defining.Colon name o s) (waits_for_none s.words.waiting)) ∙ h)

-- ---- it throws nothing but where a limit is met

name_fits : (name : List ℕ) → 0 < length name → length name ≤ 31 → name_fault (Some name) ≡ None
name_fits name some short =
    let there : nat_eq (length name) 0 ≡ false =
    false_from_ne_true (nat_eq (length name) 0) (λ e. absurd (omega (arith, some, eqb-true (length name) 0 e))) in
    ap (λ b. if b then Some empty_name else fault_if (nat_lt longest_name (length name)) long_name) there
    ∙ ap (λ b. fault_if b long_name) (le-ltb longest_name (length name) short)

abbrev faults_by : Option ℕ → Option Throw → Bool → Bool → List (Option Throw)
faults_by definition fault full tight =
    fault_if (is_some definition) compiler_nesting ∷ fault_if false stack_underflow ∷ fault
    ∷ fault_if full dictionary_overflow ∷ fault_if tight dictionary_overflow ∷ []

abbrev IsFullOrNone : Option Throw → Type 0
IsFullOrNone o = (o ≡ None) ⊎ (o ≡ Some dictionary_overflow)

either_way : (b : Bool) (t : Throw) → (if b then t else t) ≡ t
either_way true t = refl
either_way false t = refl

full_or_none : (full tight : Bool) → IsFullOrNone (counting (faults_by None None full tight))
full_or_none false false = inl refl
full_or_none false true = inr refl
full_or_none true false = inr refl
full_or_none true true = inr (ap (λ t. Some t) (either_way _ dictionary_overflow))

making_ends : (o : Option Throw) (g : Making) (s : State Coding) → IsFullOrNone o
    → IsDoneOrFull (by_making {S = Coding} defining.Colon (unless o g) s)
making_ends o g s (inl e) =
    subst (λ x. IsDoneOrFull (by_making {S = Coding} defining.Colon (unless x g) s)) (sym e) (inl (_, refl))
making_ends o g s (inr e) =
    subst (λ x. IsDoneOrFull (by_making {S = Coding} defining.Colon (unless x g) s)) (sym e) (inr (inr refl))

pub opening_ends : (name : List ℕ) (s : State Coding) → s.words.defining ≡ None → 0 < length name
    → length name ≤ 31 → IsDoneOrFull (naming_done flat_calls defining.Colon name s)
opening_ends name s closed some short =
    let start = flat_calls.ends_at s.code in
    let g = making s.words s.board.stack s.board.memory in
    let x : Option Made = Some (one (K.Colon start) 0 s.board.stack) in
    let full = nat_le capacity (length s.words.dictionary) in
    let tight = has_no_bytes s.board.memory x in
    let faults : IsFullOrNone (counting (naming_faults name g x))
    = subst (λ o. IsFullOrNone (counting (faults_by o (name_fault (Some name)) full tight))) (sym closed)
    (subst (λ o. IsFullOrNone (counting (faults_by None o full tight))) (sym (name_fits name some short))
    (full_or_none full tight)) in
    subst (λ o. IsDoneOrFull (word_named_as flat_calls defining.Colon name o s))
    (sym (waits_for_none s.words.waiting))
    (making_ends (counting (naming_faults name g x)) (named_made defining.Colon name g x) s faults)

-- ---- words stay words where one more is made

word_stays : (words : List (Option Word)) (w : Word) (i : ℕ) → is_some (word_at words i) ≡ true
    → is_some (word_at (words ++ Some w ∷ []) i) ≡ true
word_stays [] w i h = absurd cc
word_stays (x ∷ words) w zero h = h
word_stays (x ∷ words) w (suc i) h = word_stays words w i h

own_stays : (words : List (Option Word)) (w : Word) (o : Option ℕ)
    → is_some (option_and_then (word_at words) o) ≡ true
    → is_some (option_and_then (word_at (words ++ Some w ∷ [])) o) ≡ true
own_stays words w None h = h
own_stays words w (Some i) h = word_stays words w i h

either_stays : (a b c : Bool) → (b ≡ true → c ≡ true) → (a || b) ≡ true → (a || c) ≡ true
either_stays true b c f h = refl
either_stays false b c f h = f h

is_word_still : (words : List (Option Word)) (w : Word) (xt : ℕ) → is_word words xt ≡ true
    → is_word (words ++ Some w ∷ []) xt ≡ true
is_word_still words w xt h =
    either_stays (is_some (word_with_xt xt)) (is_some (own_word words xt))
    (is_some (own_word (words ++ Some w ∷ []) xt)) (own_stays words w (own_number xt)) h

module _ (words : List (Option Word)) (w : Word) (m : DataSpace) where
  plain_known : (i : PlainItem) → IsPlainKnown words m i → IsPlainKnown (words ++ Some w ∷ []) m i
  plain_known (P.Operation xt) h = is_word_still words w xt.0 h
  plain_known (P.Literal x) h = h
  plain_known (P.String address n) h = h
  plain_known (P.Call xt) h = is_word_still words w xt.0 h
  plain_known (P.Store xt) h = is_word_still words w xt.0 h

  one_known : (e : Printed) → IsKnown words m e → IsKnown (words ++ Some w ∷ []) m e
  one_known (E.Plain i) h = plain_known i h
  one_known (E.Branch z t) h = h
  one_known (E.Resolve p) h = h
  one_known (E.Mark p) h = h
  one_known (E.Back z t) h = h
  one_known (E.Roll k) h = h
  one_known (E.Do q) h = h
  one_known (E.Loop l) h = h
  one_known E.Leave h = h
  one_known E.Case h = h
  one_known E.Of h = h
  one_known E.EndOf h = h
  one_known E.EndCase h = h
  one_known (E.Misfit i) h = plain_known i h

  pub still_known : (es : List Printed) → AreKnown words m es → AreKnown (words ++ Some w ∷ []) m es
  still_known [] h = h
  still_known (e ∷ es) h = (one_known e h.0, still_known es h.1)
