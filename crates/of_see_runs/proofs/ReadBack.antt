-- What is printed of a definition, read again.
use Rattle.std.proofs.Common.{◌≡◌, ℕ, zero, suc, ◌+◌, ◌<◌, ◌≤◌, ◌==◌, Bool, true, false, nat_lt, List, [], ◌∷◌, ◌++◌}
use Rattle.std.proofs.Common.{length, map, Option, Some, None, Result, Ok, Err, refl, ap, sym, ◌∙◌, subst, arith}
use Rattle.std.proofs.Common.{if◌then◌else◌}
use Rattle.std.specs.Option.{ok_or, option_map, option_or}
use Rattle.std.specs.List.{cons_option}
use Rattle.std.specs.Prelude.{codes, drop, replicate, reverse, take}
use Rattle.std.proofs.lemmas.List.{append_assoc, append-nil, reverse-append}
use Rattle.of_cells.specs.declared.cells.Cell.{Cell}
use Rattle.of_stacks.specs.declared.return_item.Input.TheVariants as input
use Rattle.of_stacks.specs.declared.throws.Throw.{Throw}
use Rattle.of_stacks.specs.Throws.{dictionary_overflow, undefined_word}
use Rattle.of_fcodes.specs.declared.console_words.CompilingWord.{CompilingWord}
use Rattle.of_fcodes.specs.declared.console_words.CompilingWord.TheVariants as compiling
use Rattle.of_fcodes.specs.declared.console_words.ParsingWord.{ParsingWord}
use Rattle.of_fcodes.specs.declared.console_words.ParsingWord.TheVariants as parsing
use Rattle.of_fcodes.specs.declared.words.Word.{Word}
use Rattle.of_fcodes.specs.declared.words.Word.TheVariants as word
use Rattle.of_fcodes.specs.Finding.{FindsEachWord}
use Rattle.of_fcodes.specs.Finding.{xt_of as written_xt}
use Rattle.of_memory.specs.DataSpace.{DataSpace}
use Rattle.of_scan.specs.Scan.{Rest, next_word, rest_at}
use Rattle.of_code.specs.declared.item.Item.{Item as CodeItem}
use Rattle.of_code.specs.declared.item.Item.TheVariants as I
use Rattle.of_code.specs.Code.{Code}
use Rattle.of_dict.specs.Words.{xt_of}
use Rattle.of_control.specs.Element.{Back, Branch, Element, Mark, Resolve}
use Rattle.of_control.specs.Law.{ClosedIsRead, CompiledIsFlat}
use Rattle.of_compile.specs.Coding.{Coding, coding_on, compiled, compiling as compiling_of, fits}
use Rattle.of_compile.specs.Coding.{Outcome as CodingOutcome}
use Rattle.of_compile.specs.declared.element.Element.{Element as Printed}
use Rattle.of_compile.specs.declared.element.Element.TheVariants as E
use Rattle.of_compile.specs.declared.element.PlainItem.{PlainItem}
use Rattle.of_compile.specs.declared.element.PlainItem.TheVariants as P
use Rattle.of_compile.specs.Elements.{element_of, own_item}
use Rattle.of_compile.specs.Structured.{Definitions, code_of, flat_of, laid_all}
use Rattle.of_compile.specs.Tokens.{called}
use Rattle.of_text.specs.declared.words.TextWord.{TextWord}
use Rattle.of_text.specs.declared.words.TextWord.TheVariants as text
use Rattle.of_text.specs.Names.{Names, known_name, own_named, written_named}
use Rattle.of_text.specs.Reading.{Named, compiling_read, found_in, name_behind, own_or_written, parsing_read}
use Rattle.of_text.specs.Reading.{word_or_end, written_read}
use Rattle.of_see.specs.SeeItems.{Open, before_item, begins, case_if, cell_elements, cells_to_return, element_at}
use Rattle.of_see.specs.SeeItems.{elements_from, ending, endings, item_elements, open_after}
use Rattle.of_see.specs.SeeText.{definition_elements, definition_shown, elements_shown, name_at, title}
use Rattle.of_see_laws.specs.Finished.{PrintedDefinitionsHaveTheirBodies}
use Rattle.of_see_laws.specs.ReadsBack.{compiled_in_order}
use Rattle.of_see_laws.specs.Scanning.{AreRead, CompileAll, TextScansBack}
use Rattle.of_eval.specs.Laws.{WordsAreExecuted}
use Rattle.of_eval.specs.Naming.{naming_done}
use Rattle.of_flow.specs.Texts.{latest_text}
use Rattle.of_interpret.specs.Reading.{read_from}
use Rattle.of_interpret.specs.TextActs.{names_in, text_acted}
use Rattle.of_interpret.specs.TextWords.{text_act}
use Rattle.of_compile.specs.declared.defining.DefiningWord.TheVariants as defining
use Rattle.of_text.specs.declared.words.Part.{Part}
use Rattle.of_text.specs.Reading.{bytes_in, text_read}
use Rattle.of_state.specs.State.{State, flat_calls}
use Rattle.of_see_runs.proofs.Alike.{AreOnes, IsOne, bodies_alike}
use Rattle.of_see_runs.proofs.Going.{all, ends}
use Rattle.of_see_runs.proofs.Opening.{IsOpened, opening_ends, opens, still_known}
use Rattle.of_see_runs.proofs.Remaking.{split_read, step_done}
use Rattle.of_see_runs.proofs.Words.{after}
use Rattle.of_see_runs.specs.Alike.{FindTheSame, IsAgain, IsBefore, SeeReadsBack}
use Rattle.of_see_runs.specs.Limits.{AreKnown, IsDoneOrFull, MayDefine, due}
use Rattle.of_see_runs.specs.Remade.{AreDone, AreRemade, PrintedWordsAreRemade, remade, remade_plain, remade_xt}

-- ---- what is printed has no targets

abbrev IsBare : Printed → Type 0
IsBare (E.Plain k) = Unit {0}
IsBare (E.Branch z t) = t ≡ None
IsBare (E.Resolve p) = p ≡ None
IsBare (E.Mark p) = p ≡ None
IsBare (E.Back z t) = t ≡ None
IsBare (E.Roll n) = Unit {0}
IsBare (E.Do q) = Unit {0}
IsBare (E.Loop l) = Unit {0}
IsBare E.Leave = Unit {0}
IsBare E.Case = Unit {0}
IsBare E.Of = Unit {0}
IsBare E.EndOf = Unit {0}
IsBare E.EndCase = Unit {0}
IsBare (E.Misfit k) = ⊥

abbrev AreBare : List Printed → Type 0
AreBare [] = Unit {0}
AreBare (e ∷ es) = IsBare e × AreBare es

bare_both : (es fs : List Printed) → AreBare es → AreBare fs → AreBare (es ++ fs)
bare_both [] fs h k = k
bare_both (e ∷ es) fs h k = (h.0, bare_both es fs h.1 k)

bare_ending : (later : ℕ) → AreBare (ending later)
bare_ending zero = (refl, tt)
bare_ending (suc later) = (tt, (refl, tt))

bare_endings : (p later : ℕ) (ts : List ℕ) → AreBare (endings p later ts)
bare_endings p later [] = tt
bare_endings p later (t ∷ ts) = by_test (t == p) (bare_endings p later ts) (bare_endings p (suc later) ts)
  where
    by_test : (b : Bool) → AreBare (endings p later ts) → AreBare (endings p (suc later) ts)
        → AreBare (if b then ending later ++ endings p later ts else endings p (suc later) ts)
    by_test true here further = bare_both (ending later) (endings p later ts) (bare_ending later) here
    by_test false here further = further

bare_marks : (n : ℕ) → AreBare (replicate n (E.Mark None))
bare_marks zero = tt
bare_marks (suc n) = (refl, bare_marks n)

bare_case : (b : Bool) → AreBare (case_if b)
bare_case true = (tt, tt)
bare_case false = tt

bare_branch : (b z : Bool) → AreBare ((if b then E.Branch z None else E.Back z None) ∷ [])
bare_branch true z = (refl, tt)
bare_branch false z = (refl, tt)

bare_item : (p : ℕ) (i : CodeItem) → AreBare (cons_option (element_at p i) [])
bare_item p (I.Operation xt) = (tt, tt)
bare_item p (I.Literal x) = (tt, tt)
bare_item p (I.String a n) = (tt, tt)
bare_item p (I.Call xt) = (tt, tt)
bare_item p (I.Store xt) = (tt, tt)
bare_item p (I.Branch to) = bare_branch (nat_lt p to.cell) false
bare_item p (I.BranchIfZero to) = bare_branch (nat_lt p to.cell) true
bare_item p (I.Do to) = (tt, tt)
bare_item p (I.QuestionDo to) = (tt, tt)
bare_item p (I.Loop to) = (tt, tt)
bare_item p (I.PlusLoop to) = (tt, tt)
bare_item p (I.Leave to) = (tt, tt)
bare_item p (I.Of to) = (tt, tt)
bare_item p (I.EndOf to) = (tt, tt)
bare_item p I.EndCase = (tt, tt)
bare_item p I.Return = tt

bare_cell : (first : ℕ) (all : List (Option CodeItem)) (p : ℕ) (cell : Option CodeItem) (count : ℕ) (o : Open)
    → (b : Bool) → AreBare (cell_elements first all p cell count o)
bare_cell first all p None count o b = tt
bare_cell first all p (Some i) count o b =
    bare_both (before_item p count o) (item_elements first all p i o)
    (bare_both (endings p 0 o.branches) (replicate count (E.Mark None)) (bare_endings p 0 o.branches)
    (bare_marks count))
    (bare_both (case_if _) (cons_option (element_at p i) []) (bare_case _) (bare_item p i))

bare_from : (first : ℕ) (all : List (Option CodeItem)) (p : ℕ) (cells : List (Option CodeItem)) (o : Open)
    → AreBare (elements_from first all p cells o)
bare_from first all p [] o = bare_endings p 0 o.branches
bare_from first all p (cell ∷ cells) o =
    bare_both (cell_elements first all p cell (begins p (cell ∷ cells)) o)
    (elements_from first all (p + 1) cells (open_after p cell o))
    (bare_cell first all p cell (begins p (cell ∷ cells)) o true)
    (bare_from first all (p + 1) cells (open_after p cell o))

-- ---- what is compiled stands for what was printed

plain_again : (self new : ℕ) (m : DataSpace) (here : ℕ) (k : PlainItem)
    → IsOne (IsAgain self new m) (element_of (E.Plain k)) (remade_plain self new m here k)
plain_again self new m here (P.Operation xt) = (called (remade_xt self new xt), refl, refl)
plain_again self new m here (P.Literal x) = (P.Literal x, refl, refl)
plain_again self new m here (P.String address n) =
    (P.String (record { 0 = here }) _, refl, (record { 0 = here }, refl))
plain_again self new m here (P.Call xt) = (called (remade_xt self new xt), refl, refl)
plain_again self new m here (P.Store xt) = (P.Store xt, refl, refl)

again : (self new : ℕ) (m : DataSpace) (here : ℕ) (e : Printed) → IsBare e
    → IsOne (IsAgain self new m) (element_of e) (remade self new m here e)
again self new m here (E.Plain k) b = plain_again self new m here k
again self new m here (E.Branch z t) b = ap (λ x. Branch z x) (sym b)
again self new m here (E.Resolve p) b = ap (λ x. Resolve x) (sym b)
again self new m here (E.Mark p) b = ap (λ x. Mark x) (sym b)
again self new m here (E.Back z t) b = ap (λ x. Back z x) (sym b)
again self new m here (E.Roll n) b = refl
again self new m here (E.Do q) b = refl
again self new m here (E.Loop l) b = refl
again self new m here E.Leave b = refl
again self new m here E.Case b = refl
again self new m here E.Of b = refl
again self new m here E.EndOf b = refl
again self new m here E.EndCase b = refl
again self new m here (E.Misfit k) b = absurd b

abbrev put_if : Bool → Element PlainItem → Coding → CodingOutcome
put_if b e c =
    if b then record { coding = compiled e c; ended = Ok tt }
    else record { coding = c; ended = Err dictionary_overflow }

put_code : (b : Bool) (e : Element PlainItem) (c d : Coding) → put_if b e c ≡ record { coding = d; ended = Ok tt }
    → d ≡ compiled e c
put_code true e c d h = sym (ap (λ (o : CodingOutcome). o.coding) h)
put_code false e c d h =
    let not : ◌≡◌ {A = Result (Unit {0}) Throw} (Err dictionary_overflow) (Ok tt)
    = ap (λ (o : CodingOutcome). o.ended) h in absurd cc

compiled_of : (e : Element PlainItem) (c d : Coding) → compiling_of e c ≡ record { coding = d; ended = Ok tt }
    → d ≡ compiled e c
unfolding compiling_of
compiled_of e c d h = put_code (fits (own_item e) c.code) e c d h

-- the elements that a state comes to have compiled
record Gathered (R : PlainItem → PlainItem → Type 0) (base : Code) (zs : List (Element PlainItem)) (t : State Coding)
    : Type 0 where
  elements : List (Element PlainItem)
  code : t.code ≡ coding_on base elements
  alike : AreOnes R zs elements

reverse_onto : (x : Element PlainItem) (l zs : List (Element PlainItem)) → reverse l ++ x ∷ zs ≡ reverse (x ∷ l) ++ zs
reverse_onto x l zs =
    sym (ap (λ r. r ++ zs) (reverse-append (x ∷ []) l) ∙ append_assoc (reverse l) (x ∷ []) zs)

gather : (self new : ℕ) (m : DataSpace) (es : List Printed) (s t : State Coding) (base : Code)
    (xs zs : List (Element PlainItem)) → AreBare es → AreRemade self new m es s t → s.code ≡ coding_on base xs
    → AreOnes (IsAgain self new m) zs xs
    → Gathered (IsAgain self new m) base (reverse (map element_of es) ++ zs) t
gather self new m [] s t base xs zs bare h code alike = record {
  elements = xs;
  code = sym (ap (λ (u : State Coding). u.code) h) ∙ code;
  alike = alike;
}
gather self new m (e ∷ es) s t base xs zs bare h code alike =
    let f = remade self new m s.board.memory.here e in
    let put : h.0.code ≡ coding_on base (f ∷ xs) =
    compiled_of f s.code h.0.code h.1.element ∙ ap (λ c. compiled f c) code in
    subst (λ l. Gathered (IsAgain self new m) base l t) (reverse_onto (element_of e) (map element_of es) zs)
    (gather self new m es h.0 t base (f ∷ xs) (element_of e ∷ zs) bare.1 h.2 put
    (again self new m s.board.memory.here e bare.0, alike))

-- they keep which word is open
words_kept : (self new : ℕ) (m : DataSpace) (es : List Printed) (s t : State Coding) → AreRemade self new m es s t
    → t.words.defining ≡ s.words.defining
words_kept self new m [] s t h = sym (ap (λ (u : State Coding). u.words.defining) h)
words_kept self new m (e ∷ es) s t h =
    words_kept self new m es h.0 t h.2 ∙ ap (λ (u : State Coding). u.words.defining) h.1.kept

-- ---- names that find the same are read alike

module _ (n now : Names) (same : FindTheSame n now) where
  known_same : (name : List ℕ) → known_name now name ≡ known_name n name
  known_same [] = refl
  known_same (b ∷ name) =
      ap (λ o. ok_or (option_or o (option_map {U = Cell} (λ w. record { 0 = written_xt w })
      (written_named (b ∷ name)))) undefined_word) (same.own (b ∷ name))

  parsing_same : (w : ParsingWord) (r : Rest) → parsing_read w now r ≡ parsing_read w n r
  unfolding parsing_read
  parsing_same parsing.Tick r = ap (λ k. (text.Tick k, (name_behind r).1)) (known_same (name_behind r).0)
  parsing_same parsing.To r = ap (λ k. (text.To k, (name_behind r).1)) (known_same (name_behind r).0)
  parsing_same parsing.See r = ap (λ k. (text.See k, (name_behind r).1)) (known_same (name_behind r).0)
  parsing_same parsing.Colon r = refl
  parsing_same parsing.Constant r = refl
  parsing_same parsing.Value r = refl
  parsing_same parsing.Variable r = refl
  parsing_same parsing.Create r = refl
  parsing_same parsing.Defer r = refl
  parsing_same parsing.Buffer r = refl
  parsing_same parsing.Field r = refl
  parsing_same parsing.Device r = refl
  parsing_same parsing.SourceString r = refl
  parsing_same parsing.String r = refl
  parsing_same parsing.PrintString r = refl
  parsing_same parsing.Hexadecimal r = refl
  parsing_same parsing.DecimalNumber r = refl
  parsing_same parsing.Char r = refl
  parsing_same parsing.Comment r = refl
  parsing_same parsing.LineComment r = refl

  compiling_same : (w : CompilingWord) (r : Rest) → compiling_read w now r ≡ compiling_read w n r
  unfolding compiling_read
  compiling_same compiling.BracketTick r =
      ap (λ k. (text.BracketTick k, (name_behind r).1)) (known_same (name_behind r).0)
  compiling_same compiling.BracketChar r = refl
  compiling_same w r = refl

  written_same : (o : Option Word) (base : Result ℕ Throw) (x : Named)
      → written_read o now base x ≡ written_read o n base x
  written_same None base x = refl
  written_same (Some (word.Parsing w)) base x = parsing_same w x.1
  written_same (Some (word.Compiling w)) base x = compiling_same w x.1
  written_same (Some (word.Stream w)) base x = refl
  written_same (Some (word.Primitive w)) base x = refl
  written_same (Some (word.Printing w)) base x = refl
  written_same (Some (word.Heap w)) base x = refl
  written_same (Some (word.Keys w)) base x = refl
  written_same (Some (word.Returns w)) base x = refl
  written_same (Some (word.Dictionary w)) base x = refl
  written_same (Some (word.Throws w)) base x = refl
  written_same (Some (word.Properties w)) base x = refl
  written_same (Some (word.Tree w)) base x = refl
  written_same (Some (word.Devices w)) base x = refl
  written_same (Some (word.Console w)) base x = refl

  own_same : (o : Option Cell) (base : Result ℕ Throw) (x : Named)
      → own_or_written o now base x ≡ own_or_written o n base x
  own_same (Some xt) base x = ap (λ b. (text.Found xt b, x.1)) (same.immediate xt.0)
  own_same None base x = written_same (written_named x.0) base x

  word_same : (o : Option Named) (base : Result ℕ Throw) (r : Rest) → word_or_end o now base r ≡ word_or_end o n base r
  word_same None base r = refl
  word_same (Some x) base r =
      ap (λ o. own_or_written o now base x) (same.own x.0) ∙ own_same (own_named n x.0) base x

  all_same : (shown : List ℕ) (at end : ℕ) (ws : List TextWord) → AreRead n shown at ws end
      → AreRead now shown at ws end
  all_same shown at end [] h = h
  all_same shown at end (w ∷ ws) h = (
    h.0,
    λ base.
        ap found_in (word_same (next_word (rest_at at (drop at shown))) base (rest_at at (drop at shown)))
        ∙ h.1 base,
    all_same shown h.0 end ws h.2,
  )

-- ---- the law

-- behind `:` and the name
record Begun (n : Names) (shown : List ℕ) (at : ℕ) (d : Definitions) (s t u : State Coding) (count : ℕ) : Type 0 where
  opened : IsOpened n (read_from at s) u
  steps : AreDone count u t

-- what is read first, wherever names find the same
read_first : (n : Names) (shown : List ℕ) (at : ℕ) (w : TextWord) (d : Definitions) (s : State Coding)
    → ((base : Result ℕ Throw) → text_read n base shown 0 ≡ record { word = w; next = at }) → IsBefore n shown d s
    → (base : Result ℕ Throw) → text_read (names_in s) base shown 0 ≡ record { word = w; next = at }
read_first n shown at w d s read before base =
    ap found_in (word_same n (names_in s) before.names (next_word (rest_at 0 (drop 0 shown))) base
    (rest_at 0 (drop 0 shown))) ∙ read base

begun : (n : Names) (shown : List ℕ) (at count : ℕ) (p : Part) (d : Definitions) (s t : State Coding)
    → ((base : Result ℕ Throw) → text_read n base shown 0
    ≡ record { word = text.Defining defining.Colon p; next = at })
    → IsBefore n shown d s → AreDone (suc count) s t → (u : State Coding) × Begun n shown at d s t u count
unfolding text_act text_acted
begun n shown at count p d s t read before steps =
    let now = read_first n shown at (text.Defining defining.Colon p) d s read before in
    let done_so =
    step_done s steps.0 0 at shown (text.Defining defining.Colon p) before.reads before.text now steps.1 in (
      steps.0,
      record {
        opened = opens (bytes_in (latest_text s.flow.texts) p) n (read_from at s) steps.0 before.names done_so;
        steps = steps.2;
      },
    )

-- the name behind `:`
name_behind_colon : (name a b c : List ℕ) → take (length name) (name ++ a ++ b ++ c) ≡ name
name_behind_colon [] a b c = refl
name_behind_colon (x ∷ name) a b c = ap (λ l. x ∷ l) (name_behind_colon name a b c)

abbrev at_name : List ℕ → Part
at_name name = record { begin = 2; end = 2 + length name }

named_so : (n : Names) (m : DataSpace) (c : Code) (xt start : ℕ) (name : List ℕ) → name_at n.words xt ≡ Some name
    → bytes_in (definition_shown n m c xt start) (at_name name) ≡ name
named_so n m c xt start name named =
    let elements = elements_shown n m xt (definition_elements c start) in
    ap (λ o. bytes_in (codes ": " ++ title xt o ++ elements ++ codes " ;" ++ 10 ∷ []) (at_name name)) named
    ∙ ap (λ k. take k (name ++ elements ++ codes " ;" ++ 10 ∷ [])) (omega arith)
    ∙ name_behind_colon name elements (codes " ;") (10 ∷ [])

-- `:` throws nothing but where a limit is met
colon_ends : (name shown : List ℕ) (at : ℕ) (s : State Coding) → latest_text s.flow.texts ≡ shown
    → bytes_in shown (at_name name) ≡ name → s.words.defining ≡ None → 0 < length name → length name ≤ 31
    → IsDoneOrFull (after (text.Defining defining.Colon (at_name name)) (read_from at s))
unfolding text_act text_acted
colon_ends name shown at s texts bytes closed some short =
    let name_is : bytes_in (latest_text s.flow.texts) (at_name name) ≡ name
    = ap (λ l. bytes_in l (at_name name)) texts ∙ bytes in
    subst (λ l. IsDoneOrFull (naming_done flat_calls defining.Colon l (read_from at s))) (sym name_is)
    (opening_ends name (read_from at s) closed some short)

-- whichever of its words were done, the next throws nothing but where a limit is met
goes_on : WordsAreExecuted Coding → FindsEachWord → (n : Names) (m : DataSpace) (shown name : List ℕ) (self : ℕ)
    (es : List Printed) (ws : List TextWord) (at end : ℕ) (d : Definitions) (s u : State Coding) (k : ℕ)
    → ((base : Result ℕ Throw) → text_read n base shown 0
    ≡ record { word = text.Defining defining.Colon (at_name name); next = at })
    → bytes_in shown (at_name name) ≡ name → 0 < length name → AreRead n shown at ws end
    → CompileAll shown m self es ws → IsBefore n shown d s → MayDefine name m es s → k < suc (length ws)
    → AreDone k s u → IsDoneOrFull (due u)
goes_on law found n m shown name self es ws at end d s u zero read named some reads compile before may l steps =
    subst (λ x. IsDoneOrFull (due x)) steps
    (ends s 0 at shown (text.Defining defining.Colon (at_name name)) before.reads before.text
    (read_first n shown at (text.Defining defining.Colon (at_name name)) d s read before)
    (colon_ends name shown at s before.text named may.closed some may.short))
goes_on law found n m shown name self es ws at end d s u (suc k) read named some reads compile before may l steps =
    let b = begun n shown at k (at_name name) d s u read before steps in
    let o = b.1.opened in
    all law found (length s.words.dictionary) self m shown es b.0 at end ws
    (record { defines = o.defines; on = o.compiles; here = o.reads; texts = ap latest_text o.texts ∙ before.text })
    (all_same n (names_in b.0) o.names shown at end ws reads) compile
    (subst (λ l. AreKnown l m es) (sym o.words.1) (still_known s.words.dictionary o.words.0 m es may.known))
    k u (omega (arith, l)) b.1.steps

pub see_reads_back : PrintedDefinitionsHaveTheirBodies → TextScansBack → PrintedWordsAreRemade
    → ClosedIsRead PlainItem 32 → CompiledIsFlat PlainItem 32 → WordsAreExecuted Coding → FindsEachWord
    → SeeReadsBack
see_reads_back printed scans made closed flat law found d newer older w es n m name finished has_body named one_word
    free so =
    let start = length (laid_all older) in
    let cells = cells_to_return (drop start (flat_of d).code.cells) in
    let elements = definition_elements (flat_of d).code start in
    let scan = scans n m (flat_of d).code w.xt.0 start name named one_word free so in
    let shown = definition_shown n m (flat_of d).code w.xt.0 start in
    let last = text.Compiling compiling.Semicolon ∷ text.End ∷ [] in
    let part = at_name name in
    let at = scan.2.0 in
    let count = length scan.0 in
    let read = split_read n shown at (length shown) scan.0 last scan.2.2 in
    let body =
    (closed.found (compiled_in_order elements) w.body).0 (printed.read d newer older w es finished has_body) in
    let run : (now : Definitions) (s t : State Coding) → IsBefore n shown now s → AreDone (suc count) s t
    → (u : State Coding) × Begun n shown at now s t u count
    × AreRemade w.xt.0 (xt_of (length s.words.dictionary)) m elements u t
    × (t.flow.reading.input ≡ input.Text read.0)
    = λ now s t before steps.
    let b = begun n shown at count part now s t scan.2.1 before steps in
    let o = b.1.opened in
    let remade =
    made b.0 t (length s.words.dictionary) at read.0 w.xt.0 m shown elements scan.0 o.defines o.compiles o.reads
    (ap latest_text o.texts ∙ before.text)
    (all_same n (names_in b.0) o.names shown at read.0 scan.0 read.1) scan.1 b.1.steps in
    (b.0, b.1, remade.0, remade.1) in (
      suc count,
      record {
        defines = λ s t now before steps.
            let a = run now s t before steps in
            words_kept w.xt.0 (xt_of (length s.words.dictionary)) m elements a.0 t a.2 ∙ a.1.opened.defines;
        compiled = λ s t now before steps.
            let a = run now s t before steps in
            let new = xt_of (length s.words.dictionary) in
            let empty =
            a.1.opened.code ∙ before.code ∙ ap (λ l. coding_on (code_of now.finished) l) before.nothing in
            let g =
            gather w.xt.0 new m elements a.0 t (code_of now.finished) [] []
            (bare_from start cells start cells (record { branches = []; cases = [] })) a.2 empty tt in
            let alike =
            bodies_alike closed flat (IsAgain w.xt.0 new m) (compiled_in_order elements) g.elements w.body
            (subst (λ l. AreOnes (IsAgain w.xt.0 new m) l g.elements) (append-nil (compiled_in_order elements)) g.alike)
            body in
            (g.elements, g.code, alike.body, (closed.found g.elements alike.body).1 alike.is_body, alike.alike);
        limits = λ s u now k before may l steps.
            goes_on law found n m shown name w.xt.0 elements scan.0 at read.0 now s u k scan.2.1
            (named_so n m (flat_of d).code w.xt.0 start name named) one_word.0 read.1 scan.1 before may l steps;
        ended = λ s t now before steps.
            let a = run now s t before steps in
            (read.0, read.2.0, a.3, read.2.1);
      },
    )
