-- What the words of printed elements leave, step by step.
use Rattle.std.proofs.Common.{◌≡◌, ◌≢◌, inl, inr, ℕ, suc, true, false, nat_eq, List, [], ◌∷◌}
use Rattle.std.proofs.Common.{◌++◌, length, Some, Result, Ok, refl, ap, sym, ◌∙◌, subst, if◌then◌else◌}
use Rattle.std.specs.Prelude.{drop}
use Rattle.std.proofs.lemmas.Bool.{eq-eqb, eqb-true, false_from_ne_true}
use Rattle.of_cells.specs.declared.cells.Cell.{Cell}
use Rattle.of_stacks.specs.declared.return_item.Input.TheVariants as input
use Rattle.of_stacks.specs.declared.throws.Throw.{Throw}
use Rattle.of_fcodes.specs.declared.console_words.CompilingWord.TheVariants as compiling
use Rattle.of_fcodes.specs.declared.words.DictionaryWord.TheVariants as dictionary
use Rattle.of_fcodes.specs.declared.words.Word.TheVariants as word
use Rattle.of_fcodes.specs.Finding.{FindsEachWord}
use Rattle.of_format.specs.Pictured.{base_in}
use Rattle.of_memory.specs.Access.{read_bytes}
use Rattle.of_memory.specs.DataSpace.{DataSpace}
use Rattle.of_memory.specs.Growth.{with_state}
use Rattle.of_memory.specs.Growth.{appended as put_at_here}
use Rattle.of_dict.specs.Words.{xt_of}
use Rattle.of_control.specs.Element.{Element, Plain}
use Rattle.of_control.specs.Element.{Roll}
use Rattle.of_scan.specs.Parts.{quoted_part}
use Rattle.of_compile.specs.Coding.{Coding, compiling as compiling_of}
use Rattle.of_compile.specs.declared.element.Element.{Element as Printed}
use Rattle.of_compile.specs.declared.element.Element.TheVariants as E
use Rattle.of_compile.specs.declared.element.PlainItem.{PlainItem}
use Rattle.of_compile.specs.declared.element.PlainItem.TheVariants as P
use Rattle.of_compile.specs.Tokens.{called}
use Rattle.of_flow.specs.Texts.{latest_text}
use Rattle.of_text.specs.declared.words.Found.{Found}
use Rattle.of_text.specs.declared.words.TextWord.{TextWord}
use Rattle.of_text.specs.declared.words.TextWord.TheVariants as text
use Rattle.of_text.specs.Names.{Names}
use Rattle.of_text.specs.Reading.{text_read}
use Rattle.of_see.specs.SeeText.{bytes_or_none}
use Rattle.of_see_laws.specs.Scanning.{AreRead, Compile, CompileAll, CompileCall, CompileControl, CompilePlain}
use Rattle.of_see_laws.specs.Scanning.{CompileStore, enter, taking, written}
use Rattle.of_eval.specs.Defining.{string_element}
use Rattle.of_eval.specs.Laws.{WordsAreExecuted}
use Rattle.of_interpret.specs.Reading.{read_from, text_due, word_at, word_done}
use Rattle.of_interpret.specs.Strings.{bytes_put}
use Rattle.of_interpret.specs.TextActs.{names_in}
use Rattle.of_interpret.specs.TextWords.{quoted_bytes}
use Rattle.of_state.specs.State.{State, done, flat_calls, with_compiling, with_stack}
use Rattle.of_see_runs.proofs.Words.{IsAppended, after, by_bracket, by_call, by_comma, by_comma_to, by_control}
use Rattle.of_see_runs.proofs.Words.{by_enter, by_literal, by_number, by_recursion, by_roll, by_store, by_string}
use Rattle.of_see_runs.specs.Remade.{AreDone, AreRemade, Has, IsKept, IsRemade, PrintedWordsAreRemade}
use Rattle.of_see_runs.specs.Remade.{left_as, position_in, remade, remade_xt}

-- a state that compiles a definition, and reads a text from a position on
pub record Ready (s : State Coding) (k at : ℕ) (shown : List ℕ) : Type 0 where
  pub defines : s.words.defining ≡ Some k
  pub on : s.flow.is_compiling ≡ true
  pub here : s.flow.reading.input ≡ input.Text at
  pub texts : latest_text s.flow.texts ≡ shown

-- ---- words behind others

pub split_read : (n : Names) (shown : List ℕ) (at end : ℕ) (ws vs : List TextWord) → AreRead n shown at (ws ++ vs) end
    → (mid : ℕ) × AreRead n shown at ws mid × AreRead n shown mid vs end
split_read n shown at end [] vs h = (at, refl, h)
split_read n shown at end (w ∷ ws) vs h =
    let rest = split_read n shown h.0 end ws vs h.2 in
    (rest.0, (h.0, h.1, rest.1), rest.2)

split_done : (s t : State Coding) (ws vs : List TextWord) → AreDone (length (ws ++ vs)) s t
    → (u : State Coding) × AreDone (length ws) s u × AreDone (length vs) u t
split_done s t [] vs h = (s, refl, h)
split_done s t (w ∷ ws) vs h =
    let rest = split_done h.0 t ws vs h.2 in
    (rest.0, (h.0, h.1, rest.1), rest.2)

-- ---- one step

pub step_done : (s u : State Coding) (at k : ℕ) (shown : List ℕ) (w : TextWord) → s.flow.reading.input ≡ input.Text at
    → latest_text s.flow.texts ≡ shown
    → ((base : Result ℕ Throw) → text_read (names_in s) base shown at ≡ record { word = w; next = k })
    → text_due flat_calls (position_in s.flow.reading.input) s ≡ done u → after w (read_from k s) ≡ done u
step_done s u at k shown w here texts reads h =
    let found : ◌≡◌ {A = Found} (word_at at s) (record { word = w; next = k })
    = ap (λ x. text_read (names_in s) (base_in s.board.memory) x at) texts ∙ reads (base_in s.board.memory) in
    let place : position_in s.flow.reading.input ≡ at = ap position_in here in
    sym (ap (λ x. word_done flat_calls x s) found) ∙ sym (ap (λ p. text_due flat_calls p s) place) ∙ h

-- a word by which an element is compiled alone
single : (s t : State Coding) (k at end : ℕ) (shown : List ℕ) (w : TextWord) → Ready s k at shown
    → AreRead (names_in s) shown at (w ∷ []) end → AreDone 1 s t → after w (read_from end s) ≡ done t
single s t k at end shown w ready r d =
    subst (λ u. after w (read_from end s) ≡ done u) d.2
    (subst (λ p. after w (read_from p s) ≡ done d.0) r.2
    (step_done s d.0 at r.0 shown w ready.here ready.texts r.1 d.1))

-- ---- what is left

-- a state with this code and data space, whose text is read on at a position
abbrev left_at : Coding → DataSpace → ℕ → State Coding → State Coding
left_at code m end s = record s {
  code = code;
  board = record s.board { memory = m };
  flow = record s.flow { reading = record s.flow.reading { input = input.Text end } };
}

record Left (s t : State Coding) (m : DataSpace) (end : ℕ) : Type 0 where
  memory : t.board.memory ≡ m
  here : t.flow.reading.input ≡ input.Text end
  kept : t ≡ left_as t s

left : (s t : State Coding) (m : DataSpace) (end : ℕ) → t ≡ left_at t.code m end s → Left s t m end
left s t m end e =
    let memory : t.board.memory ≡ m = ap (λ (u : State Coding). u.board.memory) e in
    let here : t.flow.reading.input ≡ input.Text end = ap (λ (u : State Coding). u.flow.reading.input) e in
    record {
      memory = memory;
      here = here;
      kept = e ∙ ap (λ b. left_at t.code b end s) (sym memory)
          ∙ ap (λ i. record s {
            code = t.code;
            board = record s.board { memory = t.board.memory };
            flow = record s.flow { reading = record s.flow.reading { input = i } };
          }) (sym here);
    }

-- an element is made again, and the text is read on
pub record Made (self new : ℕ) (m : DataSpace) (e : Printed) (s t : State Coding) (end : ℕ) : Type 0 where
  pub made : IsRemade self new m e s t
  pub here : t.flow.reading.input ≡ input.Text end

-- by one word
appended_alone : (s t : State Coding) (end : ℕ) (e : Element PlainItem)
    → IsAppended e s.board.stack (read_from end s) t → Left s t s.board.memory end
appended_alone s t end e h = left s t s.board.memory end h.left

-- ---- words in brackets

-- what `[` and a number leave
abbrev pub between : ℕ → Cell → State Coding → State Coding
between at x s = with_stack (x ∷ s.board.stack) (with_compiling false (read_from at s))

pub record Taken (s t : State Coding) (x : Cell) (n end : ℕ) (shown : List ℕ) (ws : List TextWord) : Type 0 where
  pub at : ℕ
  pub read : AreRead (names_in s) shown at ws end
  pub is_done : AreDone n (between at x s) t

pub taken : (s t : State Coding) (k at n end : ℕ) (x : Cell) (shown : List ℕ) (ws : List TextWord) → Ready s k at shown
    → AreRead (names_in s) shown at (taking x.0 ws) end → AreDone (suc (suc n)) s t → Taken s t x n end shown ws
taken s t k at n end x shown ws ready r d =
    let first = with_compiling false (read_from r.0 s) in
    let one : d.0 ≡ first =
    by_bracket (read_from r.0 s) d.0 ready.on
    (step_done s d.0 at r.0 shown (text.Compiling compiling.LeaveCompiling) ready.here ready.texts r.1 d.1) in
    let due : text_due flat_calls (position_in first.flow.reading.input) first ≡ done d.2.0
    = subst (λ u. text_due flat_calls (position_in u.flow.reading.input) u ≡ done d.2.0) one d.2.1 in
    let two : d.2.0 ≡ between r.2.0 x s =
    by_number x (read_from r.2.0 first) d.2.0 refl
    (step_done first d.2.0 r.0 r.2.0 shown (text.Number (Ok x)) refl ready.texts r.2.1 due) in
    record { at = r.2.0; read = r.2.2; is_done = subst (λ u. AreDone n u t) two d.2.2 }

-- what is left behind them
abbrev behind : Coding → ℕ → State Coding → State Coding
behind code end s = with_compiling true (record (with_compiling false (read_from end s)) { code = code })

closed : (s t : State Coding) (end : ℕ) → s.flow.is_compiling ≡ true → t ≡ behind t.code end s
    → Left s t (with_state (with_state s.board.memory false) true) end
closed s t end on e =
    left s t (with_state (with_state s.board.memory false) true) end
    (e ∙ ap (λ b. record s {
      code = t.code;
      board = record s.board { memory = with_state (with_state s.board.memory false) true };
      flow = record s.flow { is_compiling = b; reading = record s.flow.reading { input = input.Text end } };
    }) (sym on))

module _ (law : WordsAreExecuted Coding) (found : FindsEachWord) where
  -- what `[ h# xt compile, ]` leaves
  by_comma_in : (s t : State Coding) (k at end : ℕ) (x : Cell) (shown : List ℕ) → Ready s k at shown
      → AreRead (names_in s) shown at
      (taking x.0 (written (word.Dictionary dictionary.CompileComma) ∷ enter ∷ [])) end
      → AreDone 4 s t
      → (compiling_of (Plain (called x)) s.code ≡ record { coding = t.code; ended = Ok tt })
      × Left s t (with_state (with_state s.board.memory false) true) end
  by_comma_in s t k at end x shown ready r d =
      let b = taken s t k at 2 end x shown (written (word.Dictionary dictionary.CompileComma) ∷ enter ∷ []) ready r d in
      let i = between b.at x s in
      let u = b.is_done.0 in
      let one =
      by_comma law found k x s.board.stack (read_from b.read.0 i) u refl ready.defines refl
      (step_done i u b.at b.read.0 shown (written (word.Dictionary dictionary.CompileComma)) refl ready.texts
      b.read.1 b.is_done.1) in
      let v = record (with_stack s.board.stack (read_from b.read.0 i)) { code = u.code } in
      let due : text_due flat_calls (position_in v.flow.reading.input) v ≡ done b.is_done.2.0
      = subst (λ w. text_due flat_calls (position_in w.flow.reading.input) w ≡ done b.is_done.2.0) one.left
      b.is_done.2.1 in
      let two : b.is_done.2.0 ≡ with_compiling true (read_from b.read.2.0 v) =
      by_enter law found k (read_from b.read.2.0 v) b.is_done.2.0 refl ready.defines
      (step_done v b.is_done.2.0 b.read.0 b.read.2.0 shown enter refl ready.texts b.read.2.1 due) in
      let same : t ≡ behind u.code b.read.2.0 s = sym b.is_done.2.2 ∙ two in
      let code : t.code ≡ u.code = ap (λ (w : State Coding). w.code) same in (
        one.element ∙ ap (λ c. record { coding = c; ended = Ok tt }) (sym code),
        closed s t end ready.on
            (same ∙ ap (λ p. behind u.code p s) b.read.2.2 ∙ ap (λ c. behind c end s) (sym code)),
      )

  -- what `[ h# x ]` and a word that takes it leave
  entered : (s t : State Coding) (k at end : ℕ) (x : Cell) (shown : List ℕ) (w : TextWord) → Ready s k at shown
      → AreRead (names_in s) shown at (taking x.0 (enter ∷ w ∷ [])) end → AreDone 4 s t
      → (p : ℕ) × (after w (read_from end (with_compiling true (read_from p (between p x s)))) ≡ done t)
  entered s t k at end x shown w ready r d =
      let b = taken s t k at 2 end x shown (enter ∷ w ∷ []) ready r d in
      let i = between b.at x s in
      let u = b.is_done.0 in
      let v = with_compiling true (read_from b.read.0 i) in
      let one : u ≡ v =
      by_enter law found k (read_from b.read.0 i) u refl ready.defines
      (step_done i u b.at b.read.0 shown enter refl ready.texts b.read.1 b.is_done.1) in
      let due : text_due flat_calls (position_in v.flow.reading.input) v ≡ done b.is_done.2.0
      = subst (λ y. text_due flat_calls (position_in y.flow.reading.input) y ≡ done b.is_done.2.0) one b.is_done.2.1 in
      let two : after w (read_from b.read.2.0 v) ≡ done b.is_done.2.0 =
      step_done v b.is_done.2.0 b.read.0 b.read.2.0 shown w refl ready.texts b.read.2.1 due in (
        b.read.0,
        subst (λ y. after w (read_from end v) ≡ done y) b.is_done.2.2
            (subst (λ p. after w (read_from p v) ≡ done b.is_done.2.0) b.read.2.2 two),
      )

  -- an element that such a word appends
  entered_left : (s t : State Coding) (p end : ℕ) (x : Cell) (e : Element PlainItem) → s.flow.is_compiling ≡ true
      → IsAppended e s.board.stack (read_from end (with_compiling true (read_from p (between p x s)))) t
      → Left s t (with_state (with_state s.board.memory false) true) end
  entered_left s t p end x e on h = closed s t end on h.left

  -- ---- elements

  kept_inl : (old new : DataSpace) → new ≡ old → IsKept old new
  kept_inl old new e = inl e

  module _ (k self : ℕ) (m : DataSpace) (shown : List ℕ) where
    -- a word that appends an element alone
    alone_made : (s t : State Coding) (end : ℕ) (e : Printed)
        → IsAppended (remade self (xt_of k) m s.board.memory.here e) s.board.stack (read_from end s) t
        → (IsKept s.board.memory t.board.memory → Has m e s.board.memory t.board.memory)
        → Made self (xt_of k) m e s t end
    alone_made s t end e h has =
        let l = appended_alone s t end (remade self (xt_of k) m s.board.memory.here e) h in
        record {
          made = record { element = h.element; memory = has (inl l.memory); kept = l.kept };
          here = l.here;
        }

    controls : (s t : State Coding) (at end : ℕ) (e : Printed) (ws : List TextWord) → Ready s k at shown
        → AreRead (names_in s) shown at ws end → AreDone (length ws) s t
        → CompileControl (remade self (xt_of k) m s.board.memory.here e) ws
        → (IsKept s.board.memory t.board.memory → Has m e s.board.memory t.board.memory)
        → Made self (xt_of k) m e s t end
    controls s t at end e ws ready r d c has =
        let w = text.Compiling c.0 in
        let read = subst (λ l. AreRead (names_in s) shown at l end) c.1 r in
        let steps = subst (λ l. AreDone (length l) s t) c.1 d in
        alone_made s t end e
        (by_control c.0 (remade self (xt_of k) m s.board.memory.here e) (read_from end s) t c.2 ready.on
        (single s t k at end shown w ready read steps)) has

    -- what a call becomes
    itself : (xt : Cell) → xt.0 ≡ self → remade_xt self (xt_of k) xt ≡ record { 0 = xt_of k }
    itself xt e = ap (λ b. if b then record { 0 = xt_of k } else xt) (eq-eqb xt.0 self e)

    another : (xt : Cell) → xt.0 ≢ self → remade_xt self (xt_of k) xt ≡ xt
    another xt n =
        ap (λ b. if b then record { 0 = xt_of k } else xt)
        (false_from_ne_true (nat_eq xt.0 self) (λ e. n (eqb-true xt.0 self e)))

    calls : (s t : State Coding) (at end : ℕ) (xt : Cell) (ws : List TextWord) → Ready s k at shown
        → AreRead (names_in s) shown at ws end → AreDone (length ws) s t → CompileCall self xt ws
        → Made self (xt_of k) m (E.Plain (P.Call xt)) s t end
    calls s t at end xt ws ready r d (inl (same, words)) =
        let read = subst (λ l. AreRead (names_in s) shown at l end) words r in
        let steps = subst (λ l. AreDone (length l) s t) words d in
        let put =
        by_recursion k (read_from end s) t ready.on ready.defines
        (single s t k at end shown (text.Compiling compiling.Recurse) ready read steps) in
        alone_made s t end (E.Plain (P.Call xt))
        (subst (λ y. IsAppended (Plain (called y)) s.board.stack (read_from end s) t) (sym (itself xt same)) put)
        (λ h. h)
    calls s t at end xt ws ready r d (inr (not, inl words)) =
        let read = subst (λ l. AreRead (names_in s) shown at l end) words r in
        let steps = subst (λ l. AreDone (length l) s t) words d in
        let put =
        by_call xt (read_from end s) t ready.on
        (single s t k at end shown (text.Found xt false) ready read steps) in
        alone_made s t end (E.Plain (P.Call xt))
        (subst (λ y. IsAppended (Plain (called y)) s.board.stack (read_from end s) t) (sym (another xt not)) put)
        (λ h. h)
    calls s t at end xt ws ready r d (inr (not, inr words)) =
        let read = subst (λ l. AreRead (names_in s) shown at l end) words r in
        let steps = subst (λ l. AreDone (length l) s t) words d in
        let both = by_comma_in s t k at end xt shown ready read steps in
        record {
          made = record {
            element = subst (λ y. compiling_of (Plain (called y)) s.code ≡ record { coding = t.code; ended = Ok tt })
                (sym (another xt not)) both.0;
            memory = inr both.1.memory;
            kept = both.1.kept;
          };
          here = both.1.here;
        }

    stores : (s t : State Coding) (at end : ℕ) (xt : Cell) (ws : List TextWord) → Ready s k at shown
        → AreRead (names_in s) shown at ws end → AreDone (length ws) s t → CompileStore xt ws
        → Made self (xt_of k) m (E.Plain (P.Store xt)) s t end
    stores s t at end xt ws ready r d (inl words) =
        let read = subst (λ l. AreRead (names_in s) shown at l end) words r in
        let steps = subst (λ l. AreDone (length l) s t) words d in
        alone_made s t end (E.Plain (P.Store xt))
        (by_store xt (read_from end s) t ready.on (single s t k at end shown (text.To (Ok xt)) ready read steps))
        (λ h. h)
    stores s t at end xt ws ready r d (inr words) =
        let read = subst (λ l. AreRead (names_in s) shown at l end) words r in
        let steps = subst (λ l. AreDone (length l) s t) words d in
        let last = entered s t k at end xt shown (text.Compiling compiling.CommaTo) ready read steps in
        let i = with_compiling true (read_from last.0 (between last.0 xt s)) in
        let put = by_comma_to xt s.board.stack (read_from end i) t refl refl last.1 in
        let l = entered_left s t last.0 end xt (Plain (P.Store xt)) ready.on put in
        record {
          made = record { element = put.element; memory = inr l.memory; kept = l.kept };
          here = l.here;
        }

    rolls : (s t : State Coding) (at end later : ℕ) (ws : List TextWord) → Ready s k at shown
        → AreRead (names_in s) shown at ws end → AreDone (length ws) s t
        → ws ≡ taking later (enter ∷ text.Compiling compiling.ControlRoll ∷ [])
        → Made self (xt_of k) m (E.Roll later) s t end
    rolls s t at end later ws ready r d words =
        let x : Cell = record { 0 = later } in
        let read = subst (λ l. AreRead (names_in s) shown at l end) words r in
        let steps = subst (λ l. AreDone (length l) s t) words d in
        let last = entered s t k at end x shown (text.Compiling compiling.ControlRoll) ready read steps in
        let i = with_compiling true (read_from last.0 (between last.0 x s)) in
        let put = by_roll x s.board.stack (read_from end i) t refl refl last.1 in
        let l = entered_left s t last.0 end x (Roll later) ready.on put in
        record {
          made = record { element = put.element; memory = inr l.memory; kept = l.kept };
          here = l.here;
        }

    literals : (s t : State Coding) (at end : ℕ) (x : Cell) (ws : List TextWord) → Ready s k at shown
        → AreRead (names_in s) shown at ws end → AreDone (length ws) s t → ws ≡ text.Number (Ok x) ∷ []
        → Made self (xt_of k) m (E.Plain (P.Literal x)) s t end
    literals s t at end x ws ready r d words =
        let read = subst (λ l. AreRead (names_in s) shown at l end) words r in
        let steps = subst (λ l. AreDone (length l) s t) words d in
        alone_made s t end (E.Plain (P.Literal x))
        (by_literal x (read_from end s) t ready.on (single s t k at end shown (text.Number (Ok x)) ready read steps))
        (λ h. h)

    strings : (s t : State Coding) (at end : ℕ) (address n : Cell) (ws : List TextWord) → Ready s k at shown
        → AreRead (names_in s) shown at ws end → AreDone (length ws) s t
        → (p : ℕ) × (ws ≡ text.Quoted p ∷ []) × (read_bytes m address.0 n.0 ≡ Ok (quoted_part (drop p shown)).0)
        → Made self (xt_of k) m (E.Plain (P.String address n)) s t end
    strings s t at end address n ws ready r d c =
        let read = subst (λ l. AreRead (names_in s) shown at l end) c.1 r in
        let steps = subst (λ l. AreDone (length l) s t) c.1 d in
        let put =
        by_string c.0 (read_from end s) t ready.on
        (single s t k at end shown (text.Quoted c.0) ready read steps) in
        let bytes : quoted_bytes (latest_text s.flow.texts) c.0 ≡ bytes_or_none (read_bytes m address.0 n.0)
        = ap (λ l. quoted_bytes l c.0) ready.texts ∙ sym (ap bytes_or_none c.2) in
        let l = left s t t.board.memory end put.left in
        record {
          made = record {
            element = subst (λ b. compiling_of (string_element s.board.memory.here (length b)) s.code
                ≡ record { coding = t.code; ended = Ok tt }) bytes put.element;
            memory = subst (λ b. bytes_put (put_at_here s.board.memory b) ≡ Ok t.board.memory) bytes put.memory;
            kept = l.kept;
          };
          here = l.here;
        }

    plain : (s t : State Coding) (at end : ℕ) (i : PlainItem) (ws : List TextWord) → Ready s k at shown
        → AreRead (names_in s) shown at ws end → AreDone (length ws) s t → CompilePlain shown m self i ws
        → Made self (xt_of k) m (E.Plain i) s t end
    plain s t at end (P.Operation xt) ws ready r d c =
        let called_so = calls s t at end xt ws ready r d c in
        record {
          made = record {
            element = called_so.made.element;
            memory = called_so.made.memory;
            kept = called_so.made.kept;
          };
          here = called_so.here;
        }
    plain s t at end (P.Literal x) ws ready r d c = literals s t at end x ws ready r d c
    plain s t at end (P.String address n) ws ready r d c = strings s t at end address n ws ready r d c
    plain s t at end (P.Call xt) ws ready r d c = calls s t at end xt ws ready r d c
    plain s t at end (P.Store xt) ws ready r d c = stores s t at end xt ws ready r d c

    pub element : (s t : State Coding) (at end : ℕ) (e : Printed) (ws : List TextWord) → Ready s k at shown
        → AreRead (names_in s) shown at ws end → AreDone (length ws) s t → Compile shown m self e ws
        → Made self (xt_of k) m e s t end
    element s t at end (E.Plain i) ws ready r d c = plain s t at end i ws ready r d c
    element s t at end (E.Branch z b) ws ready r d c = controls s t at end (E.Branch z b) ws ready r d c (λ h. h)
    element s t at end (E.Resolve p) ws ready r d c = controls s t at end (E.Resolve p) ws ready r d c (λ h. h)
    element s t at end (E.Mark p) ws ready r d c = controls s t at end (E.Mark p) ws ready r d c (λ h. h)
    element s t at end (E.Back z b) ws ready r d c = controls s t at end (E.Back z b) ws ready r d c (λ h. h)
    element s t at end (E.Roll later) ws ready r d c = rolls s t at end later ws ready r d c
    element s t at end (E.Do q) ws ready r d c = controls s t at end (E.Do q) ws ready r d c (λ h. h)
    element s t at end (E.Loop l) ws ready r d c = controls s t at end (E.Loop l) ws ready r d c (λ h. h)
    element s t at end E.Leave ws ready r d c = controls s t at end E.Leave ws ready r d c (λ h. h)
    element s t at end E.Case ws ready r d c = controls s t at end E.Case ws ready r d c (λ h. h)
    element s t at end E.Of ws ready r d c = controls s t at end E.Of ws ready r d c (λ h. h)
    element s t at end E.EndOf ws ready r d c = controls s t at end E.EndOf ws ready r d c (λ h. h)
    element s t at end E.EndCase ws ready r d c = controls s t at end E.EndCase ws ready r d c (λ h. h)
    element s t at end (E.Misfit i) ws ready r d c =
        let as_plain = plain s t at end i ws ready r d c in
        record {
          made = record {
            element = as_plain.made.element;
            memory = as_plain.made.memory;
            kept = as_plain.made.kept;
          };
          here = as_plain.here;
        }

    -- ---- all of them

    pub goes_on : (s u : State Coding) (e : Printed) (at mid : ℕ) → Ready s k at shown
        → Made self (xt_of k) m e s u mid → Ready u k mid shown
    goes_on s u e at mid ready made = record {
      defines = ap (λ (x : State Coding). x.words.defining) made.made.kept ∙ ready.defines;
      on = ap (λ (x : State Coding). x.flow.is_compiling) made.made.kept ∙ ready.on;
      here = made.here;
      texts = ap (λ (x : State Coding). latest_text x.flow.texts) made.made.kept ∙ ready.texts;
    }

    elements : (es : List Printed) (s t : State Coding) (at end : ℕ) (ws : List TextWord) → Ready s k at shown
        → AreRead (names_in s) shown at ws end → CompileAll shown m self es ws → AreDone (length ws) s t
        → AreRemade self (xt_of k) m es s t × (t.flow.reading.input ≡ input.Text end)
    elements [] s t at end ws ready r c d =
        let read : at ≡ end = subst (λ l. AreRead (names_in s) shown at l end) c r in
        let same : s ≡ t = subst (λ l. AreDone (length l) s t) c d in
        (same, sym (ap (λ (x : State Coding). x.flow.reading.input) same) ∙ ready.here ∙ ap input.Text read)
    elements (e ∷ es) s t at end ws ready r c d =
        let read =
        split_read (names_in s) shown at end c.0 c.1 (subst (λ l. AreRead (names_in s) shown at l end) c.2 r) in
        let steps = split_done s t c.0 c.1 (subst (λ l. AreDone (length l) s t) c.2 d) in
        let made = element s steps.0 at read.0 e c.0 ready read.1 steps.1 c.3 in
        let names : names_in s ≡ names_in steps.0 = sym (ap (λ (x : State Coding). names_in x) made.made.kept) in
        let rest =
        elements es steps.0 t read.0 end c.1 (goes_on s steps.0 e at read.0 ready made)
        (subst (λ n. AreRead n shown read.0 c.1 end) names read.2) c.4 steps.2 in
        ((steps.0, made.made, rest.0), rest.1)

pub printed_words_are_remade : WordsAreExecuted Coding → FindsEachWord → PrintedWordsAreRemade
printed_words_are_remade law found s t k at end self m shown es ws defines on here texts r c d =
    elements law found k self m shown es s t at end ws
    (record { defines = defines; on = on; here = here; texts = texts }) r c d
