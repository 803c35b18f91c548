-- Where the words of printed elements are read one behind the other, each is done unless a limit is met.
use Rattle.std.proofs.Common.{◌≡◌, ◌<◌, ◌≤◌, ◌⊎◌, inl, inr, ℕ, zero, suc, ◌+◌, true, false, List, []}
use Rattle.std.proofs.Common.{◌∷◌, ◌++◌, length, None, Result, Ok, refl, ap, sym, ◌∙◌, subst, arith}
use Rattle.std.specs.Prelude.{drop}
use Rattle.std.proofs.lemmas.Bool.{le-ltb}
use Rattle.std.proofs.lemmas.List.{length-append}
use Rattle.of_cells.specs.declared.cells.Cell.{Cell}
use Rattle.of_stacks.specs.declared.return_item.Input.TheVariants as input
use Rattle.of_stacks.specs.declared.throws.Throw.{Throw}
use Rattle.of_fcodes.specs.declared.console_words.CompilingWord.TheVariants as compiling
use Rattle.of_fcodes.specs.declared.words.DictionaryWord.TheVariants as dictionary
use Rattle.of_fcodes.specs.declared.words.Word.TheVariants as word
use Rattle.of_fcodes.specs.Finding.{FindsEachWord}
use Rattle.of_format.specs.Pictured.{base_in}
use Rattle.of_memory.specs.Access.{read_bytes}
use Rattle.of_memory.specs.DataSpace.{DataSpace}
use Rattle.of_scan.specs.Parts.{quoted_part}
use Rattle.of_control.specs.Element.{Back, Branch, Case, Do, Element, EndCase, EndOf, Leave, Loop, Mark, Of, Resolve}
use Rattle.of_compile.specs.Coding.{Coding}
use Rattle.of_compile.specs.declared.element.Element.{Element as Printed}
use Rattle.of_compile.specs.declared.element.Element.TheVariants as E
use Rattle.of_compile.specs.declared.element.PlainItem.{PlainItem}
use Rattle.of_compile.specs.declared.element.PlainItem.TheVariants as P
use Rattle.of_compile.specs.Words.{is_word}
use Rattle.of_flow.specs.Texts.{latest_text}
use Rattle.of_text.specs.declared.words.Found.{Found}
use Rattle.of_text.specs.declared.words.TextWord.{TextWord}
use Rattle.of_text.specs.declared.words.TextWord.TheVariants as text
use Rattle.of_text.specs.Reading.{text_read}
use Rattle.of_see.specs.SeeText.{bytes_or_none}
use Rattle.of_see_laws.specs.Scanning.{AreRead, Compile, CompileAll, CompileCall, CompileControl, CompilePlain}
use Rattle.of_see_laws.specs.Scanning.{CompileStore, enter, taking, written}
use Rattle.of_eval.specs.Laws.{WordsAreExecuted}
use Rattle.of_interpret.specs.Reading.{read_from, text_due, word_at, word_done}
use Rattle.of_interpret.specs.TextActs.{names_in}
use Rattle.of_interpret.specs.TextWords.{quoted_bytes}
use Rattle.of_state.specs.State.{State, flat_calls, with_compiling, with_stack}
use Rattle.of_see_runs.proofs.Limits.{bracket_ends, call_ends, comma_ends, comma_to_ends, control_ends, enter_ends}
use Rattle.of_see_runs.proofs.Limits.{literal_ends, number_ends, recursion_ends, roll_ends, store_ends, string_ends}
use Rattle.of_see_runs.proofs.Remaking.{Ready, between, element, goes_on, split_read, step_done, taken}
use Rattle.of_see_runs.proofs.Words.{after, by_bracket, by_comma, by_enter}
use Rattle.of_see_runs.specs.Limits.{AreKnown, IsDoneOrFull, IsKnown, IsPlainKnown, due}
use Rattle.of_see_runs.specs.Remade.{AreDone, position_in}

-- the steps of so many words: whichever of them were done, the next is done, too, unless a limit is met
abbrev pub GoOn : ℕ → State Coding → Type 0
GoOn n s = (k : ℕ) (u : State Coding) → k < n → AreDone k s u → IsDoneOrFull (due u)

pub ends : (s : State Coding) (at next : ℕ) (shown : List ℕ) (w : TextWord) → s.flow.reading.input ≡ input.Text at
    → latest_text s.flow.texts ≡ shown
    → ((base : Result ℕ Throw) → text_read (names_in s) base shown at ≡ record { word = w; next = next })
    → IsDoneOrFull (after w (read_from next s)) → IsDoneOrFull (due s)
ends s at next shown w here texts reads h =
    let found : ◌≡◌ {A = Found} (word_at at s) (record { word = w; next = next })
    = ap (λ x. text_read (names_in s) (base_in s.board.memory) x at) texts ∙ reads (base_in s.board.memory) in
    let place : position_in s.flow.reading.input ≡ at = ap position_in here in
    subst (λ p. IsDoneOrFull (text_due flat_calls p s)) (sym place)
    (subst (λ x. IsDoneOrFull (word_done flat_calls x s)) (sym found) h)

-- a word by which an element is compiled alone
alone : (s : State Coding) (k at end : ℕ) (shown : List ℕ) (w : TextWord) → Ready s k at shown
    → AreRead (names_in s) shown at (w ∷ []) end → ((p : ℕ) → IsDoneOrFull (after w (read_from p s))) → GoOn 1 s
alone s k at end shown w ready r h zero u l d =
    subst (λ x. IsDoneOrFull (due x)) d (ends s at r.0 shown w ready.here ready.texts r.1 (h r.0))
alone s k at end shown w ready r h (suc i) u l d = absurd (omega (arith, l))

-- ---- `[`, a number, and two words more

-- the first three
three : (s : State Coding) (k at end : ℕ) (x : Cell) (shown : List ℕ) (w : TextWord) (ws : List TextWord)
    → Ready s k at shown → AreRead (names_in s) shown at (taking x.0 (w ∷ ws)) end
    → ((p q : ℕ) → IsDoneOrFull (after w (read_from q (between p x s)))) → GoOn 3 s
three s k at end x shown w ws ready r h zero u l d =
    subst (λ y. IsDoneOrFull (due y)) d
    (ends s at r.0 shown (text.Compiling compiling.LeaveCompiling) ready.here ready.texts r.1
    (bracket_ends (read_from r.0 s) ready.on))
three s k at end x shown w ws ready r h (suc zero) u l d =
    let first = with_compiling false (read_from r.0 s) in
    let one : d.0 ≡ first =
    by_bracket (read_from r.0 s) d.0 ready.on
    (step_done s d.0 at r.0 shown (text.Compiling compiling.LeaveCompiling) ready.here ready.texts r.1 d.1) in
    subst (λ y. IsDoneOrFull (due y)) (sym one ∙ d.2)
    (ends first r.0 r.2.0 shown (text.Number (Ok x)) refl ready.texts r.2.1
    (number_ends x (read_from r.2.0 first) refl))
three s k at end x shown w ws ready r h (suc (suc zero)) u l d =
    let b = taken s u k at 0 end x shown (w ∷ ws) ready r d in
    subst (λ y. IsDoneOrFull (due y)) b.is_done
    (ends (between b.at x s) b.at b.read.0 shown w refl ready.texts b.read.1 (h b.at b.read.0))
three s k at end x shown w ws ready r h (suc (suc (suc i))) u l d = absurd (omega (arith, l))

-- ---- steps behind others

past : (n i : ℕ) → (i < n) ⊎ ((j : ℕ) × (i ≡ n + j))
past zero i = inr (i, omega arith)
past (suc n) zero = inl (omega arith)
past (suc n) (suc i) = further (past n i)
  where
    further : (i < n) ⊎ ((j : ℕ) × (i ≡ n + j)) → (suc i < suc n) ⊎ ((j : ℕ) × (suc i ≡ suc n + j))
    further (inl l) = inl (omega (arith, l))
    further (inr (j, e)) = inr (j, omega (arith, e))

split_many : (n i j : ℕ) (s u : State Coding) → i ≡ n + j → AreDone i s u
    → (mid : State Coding) × AreDone n s mid × AreDone j mid u
split_many zero i j s u e d = (s, refl, subst (λ x. AreDone x s u) (omega (arith, e)) d)
split_many (suc n) zero j s u e d = absurd (omega (arith, e))
split_many (suc n) (suc i) j s u e d =
    let rest = split_many n i j d.0 u (omega (arith, e)) d.2 in
    (rest.0, (d.0, d.1, rest.1), rest.2)

module _ (law : WordsAreExecuted Coding) (found : FindsEachWord) where
  -- `[ h# xt compile,`
  before_last : (s : State Coding) (k at end : ℕ) (x : Cell) (shown : List ℕ) → Ready s k at shown
      → AreRead (names_in s) shown at
      (taking x.0 (written (word.Dictionary dictionary.CompileComma) ∷ enter ∷ [])) end
      → is_word s.words.dictionary x.0 ≡ true → GoOn 3 s
  before_last s k at end x shown ready r known =
      three s k at end x shown (written (word.Dictionary dictionary.CompileComma)) (enter ∷ []) ready r
      (λ p q. comma_ends law found k x s.board.stack (read_from q (between p x s)) refl ready.defines refl known)

  -- `[ h# xt compile, ]`
  with_comma : (s : State Coding) (k at end : ℕ) (x : Cell) (shown : List ℕ) → Ready s k at shown
      → AreRead (names_in s) shown at
      (taking x.0 (written (word.Dictionary dictionary.CompileComma) ∷ enter ∷ [])) end
      → is_word s.words.dictionary x.0 ≡ true → GoOn 4 s
  with_comma s k at end x shown ready r known (suc (suc (suc zero))) u l d =
      let comma = written (word.Dictionary dictionary.CompileComma) in
      let b = taken s u k at 1 end x shown (comma ∷ enter ∷ []) ready r d in
      let i = between b.at x s in
      let v = b.is_done.0 in
      let one =
      by_comma law found k x s.board.stack (read_from b.read.0 i) v refl ready.defines refl
      (step_done i v b.at b.read.0 shown comma refl ready.texts b.read.1 b.is_done.1) in
      let c = record (with_stack s.board.stack (read_from b.read.0 i)) { code = v.code } in
      subst (λ y. IsDoneOrFull (due y)) (sym one.left ∙ b.is_done.2)
      (ends c b.read.0 b.read.2.0 shown enter refl ready.texts b.read.2.1
      (enter_ends law found k (read_from b.read.2.0 c) refl ready.defines))
  with_comma s k at end x shown ready r known (suc (suc (suc (suc i)))) u l d = absurd (omega (arith, l))
  with_comma s k at end x shown ready r known zero u l d =
      before_last s k at end x shown ready r known zero u (omega arith) d
  with_comma s k at end x shown ready r known (suc zero) u l d =
      before_last s k at end x shown ready r known (suc zero) u (omega arith) d
  with_comma s k at end x shown ready r known (suc (suc zero)) u l d =
      before_last s k at end x shown ready r known (suc (suc zero)) u (omega arith) d

  -- `[ h# x ]` and a word that takes it
  with_word : (s : State Coding) (k at end : ℕ) (x : Cell) (shown : List ℕ) (w : TextWord) → Ready s k at shown
      → AreRead (names_in s) shown at (taking x.0 (enter ∷ w ∷ [])) end
      → ((p q r : ℕ) → IsDoneOrFull (after w (read_from r (with_compiling true (read_from q (between p x s))))))
      → GoOn 4 s
  with_word s k at end x shown w ready r h (suc (suc (suc zero))) u l d =
      let b = taken s u k at 1 end x shown (enter ∷ w ∷ []) ready r d in
      let i = between b.at x s in
      let v = with_compiling true (read_from b.read.0 i) in
      let one : b.is_done.0 ≡ v =
      by_enter law found k (read_from b.read.0 i) b.is_done.0 refl ready.defines
      (step_done i b.is_done.0 b.at b.read.0 shown enter refl ready.texts b.read.1 b.is_done.1) in
      subst (λ y. IsDoneOrFull (due y)) (sym one ∙ b.is_done.2)
      (ends v b.read.0 b.read.2.0 shown w refl ready.texts b.read.2.1 (h b.at b.read.0 b.read.2.0))
  with_word s k at end x shown w ready r h (suc (suc (suc (suc i)))) u l d = absurd (omega (arith, l))
  with_word s k at end x shown w ready r h zero u l d =
      three s k at end x shown enter (w ∷ []) ready r
      (λ p q. enter_ends law found k (read_from q (between p x s)) refl ready.defines) zero u (omega arith) d
  with_word s k at end x shown w ready r h (suc zero) u l d =
      three s k at end x shown enter (w ∷ []) ready r
      (λ p q. enter_ends law found k (read_from q (between p x s)) refl ready.defines) (suc zero) u (omega arith) d
  with_word s k at end x shown w ready r h (suc (suc zero)) u l d =
      three s k at end x shown enter (w ∷ []) ready r
      (λ p q. enter_ends law found k (read_from q (between p x s)) refl ready.defines) (suc (suc zero)) u
      (omega arith) d

  -- ---- elements

  module _ (k self : ℕ) (m : DataSpace) (shown : List ℕ) where
    -- words that are the same as others go on alike
    go_so : (s : State Coding) (ws vs : List TextWord) → ws ≡ vs → GoOn (length vs) s → GoOn (length ws) s
    go_so s ws vs e h = subst (λ l. GoOn (length l) s) (sym e) h

    control : (s : State Coding) (at end : ℕ) (ws : List TextWord) (f : Element PlainItem) → Ready s k at shown
        → AreRead (names_in s) shown at ws end → CompileControl f ws → GoOn (length ws) s
    control s at end ws f ready r c =
        let read = subst (λ l. AreRead (names_in s) shown at l end) c.1 r in
        go_so s ws (text.Compiling c.0 ∷ []) c.1
        (alone s k at end shown (text.Compiling c.0) ready read
        (λ p. control_ends c.0 f (read_from p s) c.2 ready.on))

    calls : (s : State Coding) (at end : ℕ) (xt : Cell) (ws : List TextWord) → Ready s k at shown
        → AreRead (names_in s) shown at ws end → is_word s.words.dictionary xt.0 ≡ true → CompileCall self xt ws
        → GoOn (length ws) s
    calls s at end xt ws ready r known (inl (same, words)) =
        go_so s ws (text.Compiling compiling.Recurse ∷ []) words
        (alone s k at end shown (text.Compiling compiling.Recurse) ready
        (subst (λ l. AreRead (names_in s) shown at l end) words r)
        (λ p. recursion_ends k (read_from p s) ready.on ready.defines))
    calls s at end xt ws ready r known (inr (not, inl words)) =
        go_so s ws (text.Found xt false ∷ []) words
        (alone s k at end shown (text.Found xt false) ready
        (subst (λ l. AreRead (names_in s) shown at l end) words r)
        (λ p. call_ends xt (read_from p s) ready.on known))
    calls s at end xt ws ready r known (inr (not, inr words)) =
        go_so s ws (taking xt.0 (written (word.Dictionary dictionary.CompileComma) ∷ enter ∷ [])) words
        (with_comma s k at end xt shown ready (subst (λ l. AreRead (names_in s) shown at l end) words r) known)

    stores : (s : State Coding) (at end : ℕ) (xt : Cell) (ws : List TextWord) → Ready s k at shown
        → AreRead (names_in s) shown at ws end → is_word s.words.dictionary xt.0 ≡ true → CompileStore xt ws
        → GoOn (length ws) s
    stores s at end xt ws ready r known (inl words) =
        go_so s ws (text.To (Ok xt) ∷ []) words
        (alone s k at end shown (text.To (Ok xt)) ready (subst (λ l. AreRead (names_in s) shown at l end) words r)
        (λ p. store_ends xt (read_from p s) ready.on))
    stores s at end xt ws ready r known (inr words) =
        go_so s ws (taking xt.0 (enter ∷ text.Compiling compiling.CommaTo ∷ [])) words
        (with_word s k at end xt shown (text.Compiling compiling.CommaTo) ready
        (subst (λ l. AreRead (names_in s) shown at l end) words r)
        (λ p q r. comma_to_ends xt s.board.stack (read_from r (with_compiling true (read_from q (between p xt s))))
        refl refl known))

    strings : (s : State Coding) (at end : ℕ) (address n : Cell) (ws : List TextWord) → Ready s k at shown
        → AreRead (names_in s) shown at ws end → IsPlainKnown s.words.dictionary m (P.String address n)
        → (p : ℕ) × (ws ≡ text.Quoted p ∷ []) × (read_bytes m address.0 n.0 ≡ Ok (quoted_part (drop p shown)).0)
        → GoOn (length ws) s
    strings s at end address n ws ready r known c =
        let bytes : quoted_bytes (latest_text s.flow.texts) c.0 ≡ bytes_or_none (read_bytes m address.0 n.0)
        = ap (λ l. quoted_bytes l c.0) ready.texts ∙ sym (ap bytes_or_none c.2) in
        let short : length (quoted_bytes (latest_text s.flow.texts) c.0) ≤ 255
        = subst (λ l. length l ≤ 255) (sym bytes) known in
        go_so s ws (text.Quoted c.0 ∷ []) c.1
        (alone s k at end shown (text.Quoted c.0) ready (subst (λ l. AreRead (names_in s) shown at l end) c.1 r)
        (λ p. string_ends c.0 (read_from p s) ready.on (le-ltb 255 _ short)))

    plain : (s : State Coding) (at end : ℕ) (i : PlainItem) (ws : List TextWord) → Ready s k at shown
        → AreRead (names_in s) shown at ws end → IsPlainKnown s.words.dictionary m i → CompilePlain shown m self i ws
        → GoOn (length ws) s
    plain s at end (P.Operation xt) ws ready r known c = calls s at end xt ws ready r known c
    plain s at end (P.Literal x) ws ready r known c =
        go_so s ws (text.Number (Ok x) ∷ []) c
        (alone s k at end shown (text.Number (Ok x)) ready (subst (λ l. AreRead (names_in s) shown at l end) c r)
        (λ p. literal_ends x (read_from p s) ready.on))
    plain s at end (P.String address n) ws ready r known c = strings s at end address n ws ready r known c
    plain s at end (P.Call xt) ws ready r known c = calls s at end xt ws ready r known c
    plain s at end (P.Store xt) ws ready r known c = stores s at end xt ws ready r known c

    printed : (s : State Coding) (at end : ℕ) (e : Printed) (ws : List TextWord) → Ready s k at shown
        → AreRead (names_in s) shown at ws end → IsKnown s.words.dictionary m e → Compile shown m self e ws
        → GoOn (length ws) s
    printed s at end (E.Plain i) ws ready r known c = plain s at end i ws ready r known c
    printed s at end (E.Branch z b) ws ready r known c = control s at end ws (Branch z None) ready r c
    printed s at end (E.Resolve p) ws ready r known c = control s at end ws (Resolve None) ready r c
    printed s at end (E.Mark p) ws ready r known c = control s at end ws (Mark None) ready r c
    printed s at end (E.Back z b) ws ready r known c = control s at end ws (Back z None) ready r c
    printed s at end (E.Roll later) ws ready r known c =
        let x : Cell = record { 0 = later } in
        go_so s ws (taking later (enter ∷ text.Compiling compiling.ControlRoll ∷ [])) c
        (with_word s k at end x shown (text.Compiling compiling.ControlRoll) ready
        (subst (λ l. AreRead (names_in s) shown at l end) c r)
        (λ p q v. roll_ends x s.board.stack (read_from v (with_compiling true (read_from q (between p x s)))) refl
        refl))
    printed s at end (E.Do q) ws ready r known c = control s at end ws (Do q) ready r c
    printed s at end (E.Loop l) ws ready r known c = control s at end ws (Loop l) ready r c
    printed s at end E.Leave ws ready r known c = control s at end ws Leave ready r c
    printed s at end E.Case ws ready r known c = control s at end ws Case ready r c
    printed s at end E.Of ws ready r known c = control s at end ws Of ready r c
    printed s at end E.EndOf ws ready r known c = control s at end ws EndOf ready r c
    printed s at end E.EndCase ws ready r known c = control s at end ws EndCase ready r c
    printed s at end (E.Misfit i) ws ready r known c = plain s at end i ws ready r known c

    -- ---- all of them

    -- the words of an element, and those of others behind them
    both : (e : Printed) (es : List Printed) (s : State Coding) (at end : ℕ) (ws vs : List TextWord)
        → Ready s k at shown → AreRead (names_in s) shown at (ws ++ vs) end → Compile shown m self e ws
        → IsKnown s.words.dictionary m e → AreKnown s.words.dictionary m es
        → ((t : State Coding) (mid : ℕ) → Ready t k mid shown → AreRead (names_in t) shown mid vs end
        → AreKnown t.words.dictionary m es → GoOn (length vs) t)
        → GoOn (length (ws ++ vs)) s
    both e es s at end ws vs ready r c known others rest i u l d = by_place (past (length ws) i)
      where
        read : (mid : ℕ) × AreRead (names_in s) shown at ws mid × AreRead (names_in s) shown mid vs end
        read = split_read (names_in s) shown at end ws vs r

        behind : (j : ℕ) → i ≡ length ws + j → IsDoneOrFull (due u)
        behind j place =
            let steps = split_many (length ws) i j s u place d in
            let made = element law found k self m shown s steps.0 at read.0 e ws ready read.1 steps.1 c in
            let names : names_in s ≡ names_in steps.0
            = sym (ap (λ (x : State Coding). names_in x) made.made.kept) in
            let words : s.words.dictionary ≡ steps.0.words.dictionary
            = sym (ap (λ (x : State Coding). x.words.dictionary) made.made.kept) in
            rest steps.0 read.0 (goes_on law found k self m shown s steps.0 e at read.0 ready made)
            (subst (λ n. AreRead n shown read.0 vs end) names read.2)
            (subst (λ l. AreKnown l m es) words others) j u
            (omega (arith, l, place, length-append ws vs)) steps.2

        by_place : (i < length ws) ⊎ ((j : ℕ) × (i ≡ length ws + j)) → IsDoneOrFull (due u)
        by_place (inl h) = printed s at read.0 e ws ready read.1 known c i u h d
        by_place (inr (j, place)) = behind j place

    pub all : (es : List Printed) (s : State Coding) (at end : ℕ) (ws : List TextWord) → Ready s k at shown
        → AreRead (names_in s) shown at ws end → CompileAll shown m self es ws → AreKnown s.words.dictionary m es
        → GoOn (length ws) s
    all [] s at end ws ready r c known = go_so s ws [] c (λ i u l d. absurd (omega (arith, l)))
    all (e ∷ es) s at end ws ready r c known =
        go_so s ws (c.0 ++ c.1) c.2
        (both e es s at end c.0 c.1 ready (subst (λ l. AreRead (names_in s) shown at l end) c.2 r) c.3 known.0 known.1
        (λ t mid further read so. all es t mid end c.1 further read c.4 so))
