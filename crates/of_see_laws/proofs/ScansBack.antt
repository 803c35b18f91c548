-- What `see` prints of a definition, read word by word.
use Rattle.std.proofs.Common.{◌≡◌, ◌≢◌, ◌⊎◌, inl, inr, ℕ, zero, suc, ◌+◌, ◌-◌, ◌^◌, ◌<◌, ◌≤◌, Bool, true, false}
use Rattle.std.proofs.Common.{nat_eq, nat_lt}
use Rattle.std.proofs.Common.{List, [], ◌∷◌, ◌++◌, length, Option, Some, None, Result, Ok, refl, ap, sym, ◌∙◌, subst}
use Rattle.std.proofs.Common.{arith, get_or}
use Rattle.std.specs.Prelude.{codes, drop}
use Rattle.std.specs.List.{All, list_all}
use Rattle.std.proofs.lemmas.Bool.{and_parts, eqb-true, ltb-true}
use Rattle.std.proofs.lemmas.List.{append_assoc, drop-drop, length-append}
use Rattle.std.proofs.lemmas.List.Elements.{All-cons, All-nil}
use Rattle.std.proofs.lemmas.List.Sums.{AllPass-from_list_all}
use Rattle.std.proofs.Math.Seq.{drop-append_seam}
use Rattle.of_cells.specs.declared.cells.Cell.{Cell}
use Rattle.of_stacks.specs.declared.throws.Throw.{Throw}
use Rattle.of_fcodes.specs.declared.console_words.CompilingWord.{CompilingWord}
use Rattle.of_fcodes.specs.declared.console_words.CompilingWord.TheVariants as compiling
use Rattle.of_fcodes.specs.declared.console_words.ParsingWord.TheVariants as parsing
use Rattle.of_fcodes.specs.declared.words.DictionaryWord.{DictionaryWord}
use Rattle.of_fcodes.specs.declared.words.DictionaryWord.TheVariants as dictionary
use Rattle.of_fcodes.specs.declared.words.Word.{Word}
use Rattle.of_fcodes.specs.declared.words.Word.TheVariants as word
use Rattle.of_memory.specs.Access.{read_bytes}
use Rattle.of_memory.specs.DataSpace.{DataSpace}
use Rattle.of_scan.specs.Laws.{WordsAreRead}
use Rattle.of_scan.specs.Parts.{quoted_part}
use Rattle.of_scan.specs.Scan.{Rest, left_of, next_word, rest_at, start_of}
use Rattle.of_scan.specs.Words.{EndsWord, IsWord}
use Rattle.of_code.specs.Code.{Code}
use Rattle.of_compile.specs.declared.defining.DefiningWord.TheVariants as defining
use Rattle.of_compile.specs.declared.element.Element.{Element as Printed}
use Rattle.of_compile.specs.declared.element.Element.TheVariants as E
use Rattle.of_compile.specs.declared.element.PlainItem.{PlainItem}
use Rattle.of_compile.specs.declared.element.PlainItem.TheVariants as P
use Rattle.of_text.specs.declared.words.TextWord.{TextWord}
use Rattle.of_text.specs.declared.words.TextWord.TheVariants as text
use Rattle.of_text.specs.Laws.{StreamWordsHaveNoName}
use Rattle.of_text.specs.Names.{Names, known_name, number_named, own_named, written_named}
use Rattle.of_text.specs.Reading.{Named, behind_byte, behind_quoted, compiling_read, or_end, own_or_written}
use Rattle.of_text.specs.Reading.{found_in, parsing_read, part_or_end, word_or_end, word_read, written_read}
use Rattle.of_see.specs.Laws.{IsReadAs, IsReadAsNumber, StringsReadBack, WordsReadBack}
use Rattle.of_see.specs.SeeText.{count_shown, definition_elements, definition_shown, element_shown, elements_shown}
use Rattle.of_see.specs.SeeText.{is_one_word, name_at, number_shown, plain_shown, title}
use Rattle.of_see_laws.specs.Scanning.{AreFree, AreRead, AreShown, Compile, CompileAll, IsPlainShown}
use Rattle.of_see_laws.specs.Scanning.{IsShown, TextScansBack, enter, printing_names, taking, written}
use Rattle.of_see_laws.proofs.NamedWords.{again_named, ahead_named, begin_named, bracket_named, case_named}
use Rattle.of_see_laws.proofs.NamedWords.{colon_named, comma_to_named, compile_comma_named, do_named, end_case_named}
use Rattle.of_see_laws.proofs.NamedWords.{end_of_named, enter_named, hexadecimal_named, if_named, leave_named}
use Rattle.of_see_laws.proofs.NamedWords.{loop_named, of_named, plus_loop_named, question_do_named, quote_named}
use Rattle.of_see_laws.proofs.NamedWords.{recurse_named, roll_named, semicolon_named, then_named, to_named}
use Rattle.of_see_laws.proofs.NamedWords.{until_named}

-- ---- lists and positions

word_of : (name : List ℕ) → is_one_word name ≡ true → IsWord name
word_of name e =
    let both = and_parts (nat_lt 0 (length name)) (list_all (λ b. nat_lt 0x20 b) name) e in (
      ltb-true 0 (length name) both.0,
      λ i d l. ltb-true 0x20 (get_or name i d) (AllPass-from_list_all (λ b. nat_lt 0x20 b) name both.1 i d l),
    )

one_blank : (b : ℕ) → b ≤ 0x20 → All (λ x. x ≤ 0x20) (b ∷ [])
one_blank b l = All-cons (λ x. x ≤ 0x20) b [] l (All-nil (λ x. x ≤ 0x20))

-- the byte of a text at a position and all behind it
abbrev Stands : List ℕ → ℕ → List ℕ → Type 0
Stands shown at rest = drop at shown ≡ rest

stands_on : (shown : List ℕ) (at : ℕ) (part rest : List ℕ) → Stands shown at (part ++ rest)
    → Stands shown (at + length part) rest
stands_on shown at part rest e =
    sym (drop-drop (length part) at shown) ∙ ap (λ l. drop (length part) l) e ∙ drop-append_seam part rest

-- words that parse nothing
abbrev is_quiet : CompilingWord → Bool
is_quiet compiling.BracketTick = false
is_quiet compiling.BracketChar = false
is_quiet w = true

quiet : (w : CompilingWord) (n : Names) (r : Rest) → is_quiet w ≡ true
    → compiling_read w n r ≡ (text.Compiling w, r)
unfolding compiling_read
quiet compiling.BracketTick n r e = absurd cc
quiet compiling.BracketChar n r e = absurd cc
quiet w n r e = refl

-- what is left behind a word, which was this part of the text
abbrev IsBehind : Rest → Rest → Type 0
IsBehind r next = (part : List ℕ) × (r.text ≡ part ++ next.text) × (next.at ≡ r.at + length part)

-- these words are read one behind the other, and leave that
abbrev Reads : Names → Rest → List TextWord → Rest → Type 0
Reads n r [] left = r ≡ left
Reads n r (w ∷ ws) left =
    (next : Rest) × ((base : Result ℕ Throw) → word_read n base r ≡ (w, next)) × IsBehind r next
    × Reads n next ws left

-- the same by positions in the text
read_at : (n : Names) (shown : List ℕ) (r left : Rest) (ws : List TextWord) → Stands shown r.at r.text
    → Reads n r ws left → AreRead n shown r.at ws left.at
read_at n shown r left [] s h = ap (λ x. x.at) h
read_at n shown r left (w ∷ ws) s h = (
  h.0.at,
  λ base. ap (λ l. found_in (word_read n base (rest_at r.at l))) s ∙ ap found_in (h.1 base),
  read_at n shown h.0 left ws
      (ap (λ k. drop k shown) h.2.2
      ∙ stands_on shown r.at h.2.0 h.0.text (s ∙ h.2.1)) h.3,
)

module _ (read : WordsAreRead) (n : Names) where
  -- ---- words that are read one behind the other

  and_then : (r s left : Rest) (ws vs : List TextWord) → Reads n r ws s → Reads n s vs left
      → Reads n r (ws ++ vs) left
  and_then r s left [] vs e h = subst (λ x. Reads n x vs left) (sym e) h
  and_then r s left (w ∷ ws) vs h k = (h.0, h.1, h.2, and_then h.0 s left ws vs h.3 k)

  up_to : (r s left : Rest) (ws : List TextWord) → s ≡ left → Reads n r ws s → Reads n r ws left
  up_to r s left ws e h = subst (λ x. Reads n r ws x) e h

  from : (r s left : Rest) (ws : List TextWord) → s ≡ r → Reads n s ws left → Reads n r ws left
  from r s left ws e h = subst (λ x. Reads n x ws left) e h

  -- ---- one word, behind a blank

  next : (at : ℕ) (name more : List ℕ) → IsWord name → EndsWord more
      → next_word (rest_at at (32 ∷ (name ++ more))) ≡ Some (name, rest_at (at + 1 + length name) more)
  next at name more w ends = read.word at (32 ∷ []) name more (one_blank 32 (omega arith)) w ends

  -- a written word that no own one hides, with what it parses
  fixed : (at : ℕ) (name more : List ℕ) (w : Word) → is_one_word name ≡ true → EndsWord more
      → own_named n name ≡ None → written_named name ≡ Some w → (base : Result ℕ Throw)
      → word_read n base (rest_at at (32 ∷ (name ++ more)))
      ≡ written_read (Some w) n base (name, rest_at (at + 1 + length name) more)
  fixed at name more w one ends free found base =
      ap (λ o. word_or_end o n base (rest_at at (32 ∷ (name ++ more)))) (next at name more (word_of name one) ends)
      ∙ ap (λ o. own_or_written o n base (name, rest_at (at + 1 + length name) more)) free
      ∙ ap (λ o. written_read o n base (name, rest_at (at + 1 + length name) more)) found

  -- a word of control
  control : (at : ℕ) (name more : List ℕ) (w : CompilingWord) → is_one_word name ≡ true → EndsWord more
      → own_named n name ≡ None → written_named name ≡ Some (word.Compiling w) → is_quiet w ≡ true
      → Reads n (rest_at at (32 ∷ (name ++ more))) (text.Compiling w ∷ [])
      (rest_at (at + 1 + length name) more)
  control at name more w one ends free found still = (
    rest_at (at + 1 + length name) more,
    λ base.
        fixed at name more (word.Compiling w) one ends free found base
        ∙ quiet w n (rest_at (at + 1 + length name) more) still,
    (32 ∷ name, refl, omega arith),
    refl,
  )

  -- a word that is called
  called : (at : ℕ) (name more : List ℕ) (w : DictionaryWord) → is_one_word name ≡ true → EndsWord more
      → own_named n name ≡ None → written_named name ≡ Some (word.Dictionary w)
      → Reads n (rest_at at (32 ∷ (name ++ more))) (written (word.Dictionary w) ∷ [])
      (rest_at (at + 1 + length name) more)
  called at name more w one ends free found = (
    rest_at (at + 1 + length name) more,
    λ base. fixed at name more (word.Dictionary w) one ends free found base,
    (32 ∷ name, refl, omega arith),
    refl,
  )

  -- ---- words with another behind them

  hexadecimal : (r left : Rest) (name : List ℕ) → next_word r ≡ Some (name, left)
      → parsing_read parsing.Hexadecimal n r ≡ (text.Number (number_named (Ok 16) name), left)
  unfolding parsing_read
  hexadecimal r left name e =
      ap (λ o. (text.Number (number_named (Ok 16) (or_end r o).0), (or_end r o).1)) e

  storing : (r left : Rest) (name : List ℕ) → next_word r ≡ Some (name, left)
      → parsing_read parsing.To n r ≡ (text.To (known_name n name), left)
  unfolding parsing_read
  storing r left name e = ap (λ o. (text.To (known_name n (or_end r o).0), (or_end r o).1)) e

  naming : (r left : Rest) (name : List ℕ) → next_word r ≡ Some (name, left)
      → parsing_read parsing.Colon n r
      ≡ (text.Defining defining.Colon (record { begin = start_of r; end = left.at }), left)
  unfolding parsing_read
  naming r left name e = ap (λ o. (text.Defining defining.Colon (part_or_end r o), (or_end r o).1)) e

  quoting : (r : Rest)
      → parsing_read parsing.String n r ≡ (text.Quoted (behind_byte r).at, behind_quoted (behind_byte r))
  unfolding parsing_read
  quoting r = refl

  -- ---- numbers

  -- behind `h#`
  number : (x at : ℕ) (shown more : List ℕ) → StreamWordsHaveNoName → own_named n (codes "h#") ≡ None
      → EndsWord more → IsReadAsNumber x shown
      → Reads n (rest_at at (32 ∷ (shown ++ more))) (text.Number (Ok (record { 0 = x })) ∷ [])
      (rest_at (at + 1 + length shown) more)
  number x at shown more names free ends h =
      subst (λ s. Reads n (rest_at at (32 ∷ (s ++ more))) (text.Number (Ok (record { 0 = x })) ∷ [])
      (rest_at (at + 1 + length s) more)) (sym h.1) (left, λ base. reads base, behind, moved)
    where
      digits : List ℕ
      digits = h.0

      left : Rest
      left = rest_at (at + 1 + 2 + 1 + length digits) more

      behind : IsBehind (rest_at at (32 ∷ ((codes "h# " ++ digits) ++ more))) left
      behind = (32 ∷ (codes "h# " ++ digits), refl, omega arith)

      moved : left ≡ rest_at (at + 1 + length (codes "h# " ++ digits)) more
      moved = ap (λ k. rest_at k more) (omega arith)

      reads : (base : Result ℕ Throw) → word_read n base (rest_at at (32 ∷ ((codes "h# " ++ digits) ++ more)))
          ≡ (text.Number (Ok (record { 0 = x })), left)
      reads base =
          fixed at (codes "h#") (32 ∷ (digits ++ more)) (word.Parsing parsing.Hexadecimal) refl (omega arith) free
          (hexadecimal_named names) base
          ∙ hexadecimal (rest_at (at + 1 + 2) (32 ∷ (digits ++ more))) left digits
          (next (at + 1 + 2) digits more h.2 ends)
          ∙ ap (λ v. (text.Number v, left)) h.3

  -- `[`, a number, and what follows
  taken : (x at : ℕ) (shown behind more : List ℕ) (ws : List TextWord) (left : Rest) → StreamWordsHaveNoName
      → own_named n (codes "[") ≡ None → own_named n (codes "h#") ≡ None → IsReadAsNumber x shown
      → EndsWord (behind ++ more)
      → Reads n (rest_at (at + 1 + 1 + 1 + length shown) (behind ++ more)) ws left
      → Reads n (rest_at at (32 ∷ ((codes "[ " ++ shown ++ behind) ++ more))) (taking x ws) left
  taken x at shown behind more ws left names bracket hex h ends k =
      subst (λ l. Reads n (rest_at at (32 ∷ 91 ∷ 32 ∷ l)) (taking x ws) left) (sym (append_assoc shown behind more))
      (and_then (rest_at at (32 ∷ 91 ∷ 32 ∷ (shown ++ (behind ++ more))))
      (rest_at (at + 1 + 1) (32 ∷ (shown ++ (behind ++ more)))) left (text.Compiling compiling.LeaveCompiling ∷ [])
      (text.Number (Ok (record { 0 = x })) ∷ ws)
      (control at (codes "[") (32 ∷ (shown ++ (behind ++ more))) compiling.LeaveCompiling refl (omega arith) bracket
      (bracket_named names) refl)
      (and_then (rest_at (at + 1 + 1) (32 ∷ (shown ++ (behind ++ more))))
      (rest_at (at + 1 + 1 + 1 + length shown) (behind ++ more)) left (text.Number (Ok (record { 0 = x })) ∷ []) ws
      (number x (at + 1 + 1) shown (behind ++ more) names hex ends h) k))

free_at : (n : Names) (names : List (List ℕ)) (k : ℕ) → AreFree n names → k < length names
    → own_named n (get_or names k []) ≡ None
free_at n [] k h l = absurd (omega (arith, l))
free_at n (name ∷ names) zero h l = h.0
free_at n (name ∷ names) (suc k) h l = free_at n names k h.1 (omega (arith, l))

-- what is printed of an element, before a blank, is words that compile it
abbrev Scanned : List ℕ → Names → DataSpace → ℕ → ℕ → Printed → List ℕ → List ℕ → Type 0
Scanned shown n m self at e part more =
    (ws : List TextWord) × Compile shown m self e ws
    × Reads n (rest_at at (32 ∷ (part ++ 32 ∷ more))) ws (rest_at (at + 1 + length part) (32 ∷ more))

module _ (read : WordsAreRead) (names : StreamWordsHaveNoName) (back : WordsReadBack) (strings : StringsReadBack)
    (n : Names) (free : AreFree n printing_names) (m : DataSpace) (self : ℕ) (shown : List ℕ) where
  -- none of the names is an own word's
  none : (k : ℕ) → k < 26 → own_named n (get_or printing_names k []) ≡ None
  none k l = free_at n printing_names k free l

  -- ---- calls

  skipped : (base : Result ℕ Throw) (o : Option Named) (r s : Rest) (xt : Cell) (left : Rest)
      → word_or_end o n base r ≡ (text.Found xt false, left) → word_or_end o n base s ≡ (text.Found xt false, left)
  skipped base None r s xt left e = let not : text.End ≡ text.Found xt false = ap (λ x. x.0) e in absurd cc
  skipped base (Some x) r s xt left e = e

  by_name : (at : ℕ) (xt : Cell) (part more : List ℕ) → IsReadAs n xt part
      → Reads n (rest_at at (32 ∷ (part ++ 32 ∷ more))) (text.Found xt false ∷ [])
      (rest_at (at + 1 + length part) (32 ∷ more))
  by_name at xt part more h = (
    rest_at (at + 1 + length part) (32 ∷ more),
    λ base.
        skipped base (next_word (rest_at (at + 1) (part ++ 32 ∷ more))) (rest_at (at + 1) (part ++ 32 ∷ more))
        (rest_at at (32 ∷ (part ++ 32 ∷ more))) xt (rest_at (at + 1 + length part) (32 ∷ more))
        (h base (at + 1) more),
    (32 ∷ part, refl, omega arith),
    refl,
  )

  -- `[ h# xt compile, ]`
  by_number : (at x : ℕ) (more : List ℕ) → x < 2 ^ 32
      → let part = codes "[ " ++ number_shown x ++ codes " compile, ]" in
      Reads n (rest_at at (32 ∷ (part ++ 32 ∷ more)))
      (taking x (written (word.Dictionary dictionary.CompileComma) ∷ enter ∷ []))
      (rest_at (at + 1 + length part) (32 ∷ more))
  by_number at x more l =
      let digits = number_shown x in
      let behind = codes " compile, ]" in
      let start = at + 1 + 1 + 1 + length digits in
      let sum : length (digits ++ behind) ≡ length digits + 11 = length-append digits behind in
      let same : start + 1 + 8 + 1 + 1 ≡ at + 1 + length (codes "[ " ++ digits ++ behind) = omega (arith, sum) in
      taken read n x at digits behind (32 ∷ more) (written (word.Dictionary dictionary.CompileComma) ∷ enter ∷ [])
      (rest_at (at + 1 + length (codes "[ " ++ digits ++ behind)) (32 ∷ more)) names (none 2 (omega arith))
      (none 4 (omega arith))
      (back.number x l) (omega arith)
      (and_then read n (rest_at start (behind ++ 32 ∷ more)) (rest_at (start + 1 + 8) (codes " ]" ++ 32 ∷ more))
      (rest_at (at + 1 + length (codes "[ " ++ digits ++ behind)) (32 ∷ more))
      (written (word.Dictionary dictionary.CompileComma) ∷ []) (enter ∷ [])
      (called read n start (codes "compile,") (codes " ]" ++ 32 ∷ more) dictionary.CompileComma refl (omega arith)
      (none 5 (omega arith)) (compile_comma_named names))
      (up_to read n (rest_at (start + 1 + 8) (codes " ]" ++ 32 ∷ more)) (rest_at (start + 1 + 8 + 1 + 1) (32 ∷ more))
      (rest_at (at + 1 + length (codes "[ " ++ digits ++ behind)) (32 ∷ more)) (enter ∷ [])
      (ap (λ k. rest_at k (32 ∷ more)) same)
      (called read n (start + 1 + 8) (codes "]") (32 ∷ more) dictionary.EnterCompiling refl (omega arith)
      (none 3 (omega arith)) (enter_named names))))

  recursive : (at : ℕ) (xt : Cell) (more : List ℕ) → xt.0 ≡ self
      → Scanned shown n m self at (E.Plain (P.Call xt)) (codes "recurse") more
  recursive at xt more e = (
    text.Compiling compiling.Recurse ∷ [],
    inl (e, refl),
    control read n at (codes "recurse") (32 ∷ more) compiling.Recurse refl (omega arith) (none 6 (omega arith))
        (recurse_named names) refl,
  )

  call : (at : ℕ) (xt : Cell) (more : List ℕ) → xt.0 < 2 ^ 32
      → Scanned shown n m self at (E.Plain (P.Call xt)) (plain_shown n m self (P.Call xt)) more
  call at xt more l = by_test (nat_eq xt.0 self) refl
    where
      part : List ℕ
      part = plain_shown n m self (P.Call xt)

      other : xt.0 ≢ self → IsReadAs n xt part ⊎ (part ≡ codes "[ " ++ number_shown xt.0 ++ codes " compile, ]")
          → Scanned shown n m self at (E.Plain (P.Call xt)) part more
      other not (inl h) = (text.Found xt false ∷ [], inr (not, inl refl), by_name at xt part more h)
      other not (inr e) =
          subst (λ s. Scanned shown n m self at (E.Plain (P.Call xt)) s more) (sym e) (
            taking xt.0 (written (word.Dictionary dictionary.CompileComma) ∷ enter ∷ []),
            inr (not, inr refl),
            by_number at xt.0 more l,
          )

      by_test : (b : Bool) → nat_eq xt.0 self ≡ b → Scanned shown n m self at (E.Plain (P.Call xt)) part more
      by_test true e =
          let same = eqb-true xt.0 self e in
          let own : part ≡ codes "recurse" =
          subst (λ s. plain_shown n m s (P.Call xt) ≡ codes "recurse") same (back.itself n m xt) in
          subst (λ s. Scanned shown n m self at (E.Plain (P.Call xt)) s more) (sym own) (recursive at xt more same)
      by_test false e =
          let not : xt.0 ≢ self = λ same. absurd (grind (arith, e, same)) in
          other not (back.call n m self xt not)

  -- ---- stores

  to_name : (at : ℕ) (xt : Cell) (name more : List ℕ) → IsWord name → known_name n name ≡ Ok xt
      → Reads n (rest_at at (32 ∷ ((codes "to " ++ name) ++ 32 ∷ more))) (text.To (Ok xt) ∷ [])
      (rest_at (at + 1 + length (codes "to " ++ name)) (32 ∷ more))
  to_name at xt name more w known =
      let left = rest_at (at + 1 + 2 + 1 + length name) (32 ∷ more) in (
        left,
        λ base.
            fixed read n at (codes "to") (32 ∷ (name ++ 32 ∷ more)) (word.Parsing parsing.To) refl (omega arith)
            (none 7 (omega arith)) (to_named names) base
            ∙ storing read n (rest_at (at + 1 + 2) (32 ∷ (name ++ 32 ∷ more))) left name
            (next read n (at + 1 + 2) name (32 ∷ more) w (omega arith))
            ∙ ap (λ r. (text.To r, left)) known,
        (32 ∷ (codes "to " ++ name), refl, omega arith),
        ap (λ k. rest_at k (32 ∷ more)) (omega arith),
      )

  to_number : (at x : ℕ) (more : List ℕ) → x < 2 ^ 32
      → let part = codes "[ " ++ number_shown x ++ codes " ] to," in
      Reads n (rest_at at (32 ∷ (part ++ 32 ∷ more)))
      (taking x (enter ∷ text.Compiling compiling.CommaTo ∷ []))
      (rest_at (at + 1 + length part) (32 ∷ more))
  to_number at x more l =
      let digits = number_shown x in
      let behind = codes " ] to," in
      let start = at + 1 + 1 + 1 + length digits in
      let sum : length (digits ++ behind) ≡ length digits + 6 = length-append digits behind in
      let same : start + 1 + 1 + 1 + 3 ≡ at + 1 + length (codes "[ " ++ digits ++ behind) = omega (arith, sum) in
      taken read n x at digits behind (32 ∷ more) (enter ∷ text.Compiling compiling.CommaTo ∷ [])
      (rest_at (at + 1 + length (codes "[ " ++ digits ++ behind)) (32 ∷ more)) names (none 2 (omega arith))
      (none 4 (omega arith))
      (back.number x l) (omega arith)
      (and_then read n (rest_at start (behind ++ 32 ∷ more)) (rest_at (start + 1 + 1) (codes " to," ++ 32 ∷ more))
      (rest_at (at + 1 + length (codes "[ " ++ digits ++ behind)) (32 ∷ more)) (enter ∷ [])
      (text.Compiling compiling.CommaTo ∷ [])
      (called read n start (codes "]") (codes " to," ++ 32 ∷ more) dictionary.EnterCompiling refl (omega arith)
      (none 3 (omega arith)) (enter_named names))
      (up_to read n (rest_at (start + 1 + 1) (codes " to," ++ 32 ∷ more))
      (rest_at (start + 1 + 1 + 1 + 3) (32 ∷ more))
      (rest_at (at + 1 + length (codes "[ " ++ digits ++ behind)) (32 ∷ more)) (text.Compiling compiling.CommaTo ∷ [])
      (ap (λ k. rest_at k (32 ∷ more)) same)
      (control read n (start + 1 + 1) (codes "to,") (32 ∷ more) compiling.CommaTo refl (omega arith)
      (none 8 (omega arith)) (comma_to_named names) refl)))

  store : (at : ℕ) (xt : Cell) (more : List ℕ) → xt.0 < 2 ^ 32
      → Scanned shown n m self at (E.Plain (P.Store xt)) (plain_shown n m self (P.Store xt)) more
  store at xt more l = by_text (back.store n m self xt)
    where
      part : List ℕ
      part = plain_shown n m self (P.Store xt)

      by_text : ((name : List ℕ) × (part ≡ codes "to " ++ name) × IsWord name × (known_name n name ≡ Ok xt))
          ⊎ (part ≡ codes "[ " ++ number_shown xt.0 ++ codes " ] to,")
          → Scanned shown n m self at (E.Plain (P.Store xt)) part more
      by_text (inl h) =
          subst (λ s. Scanned shown n m self at (E.Plain (P.Store xt)) s more) (sym h.1) (
            text.To (Ok xt) ∷ [],
            inl refl,
            to_name at xt h.0 more h.2 h.3,
          )
      by_text (inr e) =
          subst (λ s. Scanned shown n m self at (E.Plain (P.Store xt)) s more) (sym e) (
            taking xt.0 (enter ∷ text.Compiling compiling.CommaTo ∷ []),
            inr refl,
            to_number at xt.0 more l,
          )

  -- ---- strings

  -- where the string stands behind the word `"`, and what is left behind it
  behind_quote : (at : ℕ) (rest : List ℕ) → behind_byte (rest_at at (32 ∷ rest)) ≡ rest_at (at + 1) rest
  behind_quote at rest =
      let one : length (32 ∷ rest) - length rest ≡ 1 = omega arith in
      ap (λ k. rest_at (at + k) rest) one

  quoted : (at : ℕ) (bytes said more : List ℕ) → quoted_part (said ++ 32 ∷ more) ≡ (bytes, 32 ∷ more)
      → behind_quoted (rest_at at (said ++ 32 ∷ more)) ≡ rest_at (at + length said) (32 ∷ more)
  quoted at bytes said more e =
      let sum = length-append said (32 ∷ more) in
      let few : length (said ++ 32 ∷ more) - length (32 ∷ more) ≡ length said = omega (arith, sum) in
      ap (λ p. left_of (rest_at at (said ++ 32 ∷ more)) p.1) e ∙ ap (λ k. rest_at (at + k) (32 ∷ more)) few

  string : (at : ℕ) (address count : Cell) (more : List ℕ) → IsPlainShown m (P.String address count)
      → Stands shown at (32 ∷ (plain_shown n m self (P.String address count) ++ 32 ∷ more))
      → Scanned shown n m self at (E.Plain (P.String address count)) (plain_shown n m self (P.String address count))
      more
  string at address count more h stands =
      subst (λ s. Scanned shown n m self at (E.Plain (P.String address count)) s more) (sym said.1) (
        text.Quoted place ∷ [],
        (place, refl, bytes_said),
        (left, λ base. reads base, (32 ∷ (codes "\" " ++ said.0), refl, omega arith), moved),
      )
    where
      said : (t : List ℕ) × (plain_shown n m self (P.String address count) ≡ codes "\" " ++ t)
          × ((rest : List ℕ) → quoted_part (t ++ 32 ∷ rest) ≡ (h.0, 32 ∷ rest))
      said = strings n m self address count h.0 h.1 h.2

      place : ℕ
      place = at + 1 + 1 + 1

      left : Rest
      left = rest_at (place + length said.0) (32 ∷ more)

      there : Stands shown (at + 3) (said.0 ++ 32 ∷ more)
      there =
          stands_on shown at (32 ∷ codes "\" ") (said.0 ++ 32 ∷ more)
          (stands ∙ ap (λ s. 32 ∷ (s ++ 32 ∷ more)) said.1)

      bytes_said : read_bytes m address.0 count.0 ≡ Ok (quoted_part (drop place shown)).0
      bytes_said =
          let sum : place ≡ at + 3 = omega arith in
          h.1 ∙ ap (λ p. Ok p.0) (sym (said.2 more))
          ∙ ap (λ l. Ok (quoted_part l).0) (sym (ap (λ k. drop k shown) sum ∙ there))

      moved : left ≡ rest_at (at + 1 + length (codes "\" " ++ said.0)) (32 ∷ more)
      moved = ap (λ k. rest_at k (32 ∷ more)) (omega arith)

      reads : (base : Result ℕ Throw)
          → word_read n base (rest_at at (32 ∷ ((codes "\" " ++ said.0) ++ 32 ∷ more))) ≡ (text.Quoted place, left)
      reads base =
          let r = rest_at (at + 1 + 1) (32 ∷ (said.0 ++ 32 ∷ more)) in
          let begin = behind_quote (at + 1 + 1) (said.0 ++ 32 ∷ more) in
          fixed read n at (codes "\"") (32 ∷ (said.0 ++ 32 ∷ more)) (word.Parsing parsing.String) refl (omega arith)
          (none 9 (omega arith)) (quote_named names) base
          ∙ quoting read n r
          ∙ ap (λ b. (text.Quoted b.at, behind_quoted b)) begin
          ∙ ap (λ s. (text.Quoted place, s)) (quoted place h.0 said.0 more (said.2 more))

  -- ---- branches, and all elements

  rolled : (at later : ℕ) (more : List ℕ) → later < 2 ^ 32
      → let part = element_shown n m self (E.Roll later) in
      Reads n (rest_at at (32 ∷ (part ++ 32 ∷ more)))
      (taking later (enter ∷ text.Compiling compiling.ControlRoll ∷ []))
      (rest_at (at + 1 + length part) (32 ∷ more))
  rolled at later more l =
      let digits = count_shown later in
      let behind = codes " ] cs-roll" in
      let start = at + 1 + 1 + 1 + length digits in
      let sum : length (digits ++ behind) ≡ length digits + 10 = length-append digits behind in
      let same : start + 1 + 1 + 1 + 7 ≡ at + 1 + length (codes "[ " ++ digits ++ behind) = omega (arith, sum) in
      taken read n later at digits behind (32 ∷ more) (enter ∷ text.Compiling compiling.ControlRoll ∷ [])
      (rest_at (at + 1 + length (codes "[ " ++ digits ++ behind)) (32 ∷ more)) names (none 2 (omega arith))
      (none 4 (omega arith))
      (back.count later l) (omega arith)
      (and_then read n (rest_at start (behind ++ 32 ∷ more))
      (rest_at (start + 1 + 1) (codes " cs-roll" ++ 32 ∷ more))
      (rest_at (at + 1 + length (codes "[ " ++ digits ++ behind)) (32 ∷ more)) (enter ∷ [])
      (text.Compiling compiling.ControlRoll ∷ [])
      (called read n start (codes "]") (codes " cs-roll" ++ 32 ∷ more) dictionary.EnterCompiling refl (omega arith)
      (none 3 (omega arith)) (enter_named names))
      (up_to read n (rest_at (start + 1 + 1) (codes " cs-roll" ++ 32 ∷ more))
      (rest_at (start + 1 + 1 + 1 + 7) (32 ∷ more))
      (rest_at (at + 1 + length (codes "[ " ++ digits ++ behind)) (32 ∷ more))
      (text.Compiling compiling.ControlRoll ∷ []) (ap (λ k. rest_at k (32 ∷ more)) same)
      (control read n (start + 1 + 1) (codes "cs-roll") (32 ∷ more) compiling.ControlRoll refl (omega arith)
      (none 10 (omega arith)) (roll_named names) refl)))

  plain : (at : ℕ) (k : PlainItem) (more : List ℕ) → IsPlainShown m k
      → Stands shown at (32 ∷ (plain_shown n m self k ++ 32 ∷ more))
      → Scanned shown n m self at (E.Plain k) (plain_shown n m self k) more
  plain at (P.Operation xt) more h stands = call at xt more h
  plain at (P.Literal x) more h stands = (
    text.Number (Ok x) ∷ [],
    refl,
    number read n x.0 at (number_shown x.0) (32 ∷ more) names (none 4 (omega arith)) (omega arith) (back.number x.0 h),
  )
  plain at (P.String address count) more h stands = string at address count more h stands
  plain at (P.Call xt) more h stands = call at xt more h
  plain at (P.Store xt) more h stands = store at xt more h

  -- a word of control that is printed of an element alone
  one_word : (at : ℕ) (name more : List ℕ) (w : CompilingWord) → is_one_word name ≡ true → own_named n name ≡ None
      → written_named name ≡ Some (word.Compiling w) → is_quiet w ≡ true
      → Reads n (rest_at at (32 ∷ (name ++ 32 ∷ more))) (text.Compiling w ∷ [])
      (rest_at (at + 1 + length name) (32 ∷ more))
  one_word at name more w one none found still =
      control read n at name (32 ∷ more) w one (omega arith) none found still

  element : (at : ℕ) (e : Printed) (more : List ℕ) → IsShown m e
      → Stands shown at (32 ∷ (element_shown n m self e ++ 32 ∷ more))
      → Scanned shown n m self at e (element_shown n m self e) more
  element at (E.Plain k) more h s = plain at k more h s
  element at (E.Branch true t) more h s = (
    text.Compiling compiling.If ∷ [],
    (compiling.If, refl, refl),
    one_word at (codes "if") more compiling.If refl (none 11 (omega arith)) (if_named names) refl,
  )
  element at (E.Branch false t) more h s = (
    text.Compiling compiling.Ahead ∷ [],
    (compiling.Ahead, refl, refl),
    one_word at (codes "ahead") more compiling.Ahead refl (none 12 (omega arith)) (ahead_named names) refl,
  )
  element at (E.Resolve p) more h s = (
    text.Compiling compiling.Then ∷ [],
    (compiling.Then, refl, refl),
    one_word at (codes "then") more compiling.Then refl (none 16 (omega arith)) (then_named names)
        refl,
  )
  element at (E.Mark p) more h s = (
    text.Compiling compiling.Begin ∷ [],
    (compiling.Begin, refl, refl),
    one_word at (codes "begin") more compiling.Begin refl (none 13 (omega arith)) (begin_named names) refl,
  )
  element at (E.Back true t) more h s = (
    text.Compiling compiling.Until ∷ [],
    (compiling.Until, refl, refl),
    one_word at (codes "until") more compiling.Until refl (none 14 (omega arith)) (until_named names)
        refl,
  )
  element at (E.Back false t) more h s = (
    text.Compiling compiling.Again ∷ [],
    (compiling.Again, refl, refl),
    one_word at (codes "again") more compiling.Again refl (none 15 (omega arith)) (again_named names)
        refl,
  )
  element at (E.Roll later) more h s = (
    taking later (enter ∷ text.Compiling compiling.ControlRoll ∷ []),
    refl,
    rolled at later more h,
  )
  element at (E.Do false) more h s = (
    text.Compiling compiling.Do ∷ [],
    (compiling.Do, refl, refl),
    one_word at (codes "do") more compiling.Do refl (none 17 (omega arith)) (do_named names) refl,
  )
  element at (E.Do true) more h s = (
    text.Compiling compiling.QuestionDo ∷ [],
    (compiling.QuestionDo, refl, refl),
    one_word at (codes "?do") more compiling.QuestionDo refl (none 18 (omega arith))
        (question_do_named names) refl,
  )
  element at (E.Loop false) more h s = (
    text.Compiling compiling.Loop ∷ [],
    (compiling.Loop, refl, refl),
    one_word at (codes "loop") more compiling.Loop refl (none 19 (omega arith))
        (loop_named names) refl,
  )
  element at (E.Loop true) more h s = (
    text.Compiling compiling.PlusLoop ∷ [],
    (compiling.PlusLoop, refl, refl),
    one_word at (codes "+loop") more compiling.PlusLoop refl (none 20 (omega arith))
        (plus_loop_named names) refl,
  )
  element at E.Leave more h s = (
    text.Compiling compiling.Leave ∷ [],
    (compiling.Leave, refl, refl),
    one_word at (codes "leave") more compiling.Leave refl (none 21 (omega arith))
        (leave_named names) refl,
  )
  element at E.Case more h s = (
    text.Compiling compiling.Case ∷ [],
    (compiling.Case, refl, refl),
    one_word at (codes "case") more compiling.Case refl (none 22 (omega arith))
        (case_named names) refl,
  )
  element at E.Of more h s = (
    text.Compiling compiling.Of ∷ [],
    (compiling.Of, refl, refl),
    one_word at (codes "of") more compiling.Of refl (none 23 (omega arith))
        (of_named names) refl,
  )
  element at E.EndOf more h s = (
    text.Compiling compiling.EndOf ∷ [],
    (compiling.EndOf, refl, refl),
    one_word at (codes "endof") more compiling.EndOf refl (none 24 (omega arith))
        (end_of_named names) refl,
  )
  element at E.EndCase more h s = (
    text.Compiling compiling.EndCase ∷ [],
    (compiling.EndCase, refl, refl),
    one_word at (codes "endcase") more compiling.EndCase refl
        (none 25 (omega arith)) (end_case_named names) refl,
  )
  element at (E.Misfit k) more h s = plain at k more h s

  -- what is printed of elements begins with a blank
  begins_blank : (es : List Printed) (more : List ℕ)
      → (rest : List ℕ) × (elements_shown n m self es ++ 32 ∷ more ≡ 32 ∷ rest)
  begins_blank [] more = (more, refl)
  begins_blank (e ∷ es) more =
      ((element_shown n m self e ++ elements_shown n m self es) ++ 32 ∷ more, refl)

  elements : (at : ℕ) (es : List Printed) (more : List ℕ) → AreShown m es
      → Stands shown at (elements_shown n m self es ++ 32 ∷ more)
      → (ws : List TextWord) × CompileAll shown m self es ws
      × Reads n (rest_at at (elements_shown n m self es ++ 32 ∷ more)) ws
      (rest_at (at + length (elements_shown n m self es)) (32 ∷ more))
  elements at [] more h s = ([], refl, ap (λ k. rest_at k (32 ∷ more)) (omega arith))
  elements at (e ∷ es) more h s = joined (elements behind es more h.1 further)
    where
      part : List ℕ
      part = element_shown n m self e

      others : List ℕ
      others = elements_shown n m self es

      behind : ℕ
      behind = at + 1 + length part

      blank : (b : List ℕ) × (others ++ 32 ∷ more ≡ 32 ∷ b)
      blank = begins_blank es more

      text_same : 32 ∷ ((part ++ others) ++ 32 ∷ more) ≡ 32 ∷ (part ++ 32 ∷ blank.0)
      text_same = ap (λ l. 32 ∷ l) (append_assoc part others (32 ∷ more) ∙ ap (λ l. part ++ l) blank.1)

      first : Scanned shown n m self at e part blank.0
      first = element at e blank.0 h.0 (s ∙ text_same)

      further : Stands shown behind (others ++ 32 ∷ more)
      further =
          let sum : at + length (32 ∷ part) ≡ behind = omega arith in
          ap (λ k. drop k shown) (sym sum)
          ∙ stands_on shown at (32 ∷ part) (others ++ 32 ∷ more)
          (s ∙ ap (λ l. 32 ∷ l) (append_assoc part others (32 ∷ more)))

      whole : List ℕ
      whole = (part ++ others) ++ 32 ∷ more

      left : Rest
      left = rest_at (at + length (32 ∷ (part ++ others))) (32 ∷ more)

      joined : ((ws : List TextWord) × CompileAll shown m self es ws
          × Reads n (rest_at behind (others ++ 32 ∷ more)) ws (rest_at (behind + length others) (32 ∷ more)))
          → (ws : List TextWord) × CompileAll shown m self (e ∷ es) ws × Reads n (rest_at at (32 ∷ whole)) ws left
      joined rest = (
        first.0 ++ rest.0,
        (first.0, rest.0, refl, first.1, rest.1),
        and_then read n (rest_at at (32 ∷ whole)) (rest_at behind (others ++ 32 ∷ more)) left first.0 rest.0
            (from read n (rest_at at (32 ∷ whole)) (rest_at at (32 ∷ (part ++ 32 ∷ blank.0)))
            (rest_at behind (others ++ 32 ∷ more)) first.0 (ap (λ l. rest_at at l) (sym text_same))
            (up_to read n (rest_at at (32 ∷ (part ++ 32 ∷ blank.0))) (rest_at behind (32 ∷ blank.0))
            (rest_at behind (others ++ 32 ∷ more)) first.0 (ap (λ l. rest_at behind l) (sym blank.1)) first.2))
            (up_to read n (rest_at behind (others ++ 32 ∷ more)) (rest_at (behind + length others) (32 ∷ more)) left
            rest.0 (ap (λ k. rest_at k (32 ∷ more)) (omega (arith, length-append part others))) rest.2),
      )

-- ---- a whole definition

module _ (read : WordsAreRead) (names : StreamWordsHaveNoName) (back : WordsReadBack) (strings : StringsReadBack) where
  -- `:` and the name
  headed : (n : Names) (name more : List ℕ) → own_named n (codes ":") ≡ None → IsWord name → EndsWord more
      → Reads n (rest_at 0 (codes ": " ++ name ++ more))
      (text.Defining defining.Colon (record { begin = 2; end = 2 + length name }) ∷ [])
      (rest_at (2 + length name) more)
  headed n name more free w ends = (
    left,
    λ base.
        ap (λ o. word_or_end o n base (rest_at 0 (58 ∷ 32 ∷ (name ++ more))))
        (read.word 0 [] (codes ":") (32 ∷ (name ++ more)) (All-nil (λ b. b ≤ 0x20)) (word_of (codes ":") refl)
        (omega arith))
        ∙ ap (λ o. own_or_written o n base (codes ":", behind)) free
        ∙ ap (λ o. written_read o n base (codes ":", behind)) (colon_named names)
        ∙ naming read n behind left name (next read n 1 name more w ends)
        ∙ ap (λ b. (text.Defining defining.Colon (record { begin = b; end = 2 + length name }), left))
        (read.start 1 (32 ∷ []) name more (one_blank 32 (omega arith)) w),
    (codes ": " ++ name, refl, omega arith),
    refl,
  )
    where
      behind : Rest
      behind = rest_at 1 (32 ∷ (name ++ more))

      left : Rest
      left = rest_at (2 + length name) more

  -- `;` and the end of the line
  ended : (n : Names) (at : ℕ) → own_named n (codes ";") ≡ None
      → Reads n (rest_at at (codes " ;" ++ 10 ∷ [])) (text.Compiling compiling.Semicolon ∷ text.End ∷ [])
      (rest_at (at + 3) [])
  ended n at free =
      and_then read n (rest_at at (codes " ;" ++ 10 ∷ [])) (rest_at (at + 1 + 1) (10 ∷ [])) (rest_at (at + 3) [])
      (text.Compiling compiling.Semicolon ∷ []) (text.End ∷ [])
      (control read n at (codes ";") (10 ∷ []) compiling.Semicolon refl (omega arith) free (semicolon_named names)
      refl) (
        rest_at (at + 1 + 1 + 1) [],
        λ base.
            ap (λ o. word_or_end o n base (rest_at (at + 1 + 1) (10 ∷ [])))
            (read.none (at + 1 + 1) (10 ∷ []) (one_blank 10 (omega arith))),
        (10 ∷ [], refl, omega arith),
        ap (λ k. rest_at k []) (omega arith),
      )

  scanned : (n : Names) (m : DataSpace) (self : ℕ) (name : List ℕ) (es : List Printed) → IsWord name
      → AreFree n printing_names → AreShown m es
      → let shown = codes ": " ++ (name ++ (elements_shown n m self es ++ (codes " ;" ++ 10 ∷ []))) in
      (ws : List TextWord) × CompileAll shown m self es ws
      × Reads n (rest_at 0 shown)
      (text.Defining defining.Colon (record { begin = 2; end = 2 + length name })
      ∷ (ws ++ text.Compiling compiling.Semicolon ∷ text.End ∷ [])) (rest_at (length shown) [])
  scanned n m self name es w free h = (
    all.0,
    all.1,
    and_then read n (rest_at 0 shown) (rest_at start (printed ++ tail)) (rest_at (length shown) [])
        (text.Defining defining.Colon (record { begin = 2; end = 2 + length name }) ∷ [])
        (all.0 ++ text.Compiling compiling.Semicolon ∷ text.End ∷ [])
        (headed n name (printed ++ tail) free.0 w (ends es))
        (and_then read n (rest_at start (printed ++ tail)) (rest_at (start + length printed) tail)
        (rest_at (length shown) []) all.0 (text.Compiling compiling.Semicolon ∷ text.End ∷ []) all.2
        (up_to read n (rest_at (start + length printed) tail) (rest_at (start + length printed + 3) [])
        (rest_at (length shown) []) (text.Compiling compiling.Semicolon ∷ text.End ∷ [])
        (ap (λ k. rest_at k []) sum) (ended n (start + length printed) free.1.0))),
  )
    where
      printed : List ℕ
      printed = elements_shown n m self es

      tail : List ℕ
      tail = codes " ;" ++ 10 ∷ []

      shown : List ℕ
      shown = codes ": " ++ (name ++ (printed ++ tail))

      start : ℕ
      start = 2 + length name

      ends : (l : List Printed) → EndsWord (elements_shown n m self l ++ tail)
      ends [] = omega arith
      ends (e ∷ l) = omega arith

      sum : start + length printed + 3 ≡ length shown
      sum = omega (arith, length-append name (printed ++ tail), length-append printed tail)

      there : Stands shown start (printed ++ tail)
      there = stands_on shown 2 name (printed ++ tail) refl

      all : (ws : List TextWord) × CompileAll shown m self es ws
          × Reads n (rest_at start (printed ++ tail)) ws (rest_at (start + length printed) tail)
      all = elements read names back strings n free m self shown start es (59 ∷ 10 ∷ []) h there

  -- the text as it is printed, with its parts one behind the other
  parts : (n : Names) (m : DataSpace) (c : Code) (xt start : ℕ) (name : List ℕ) → name_at n.words xt ≡ Some name
      → codes ": " ++ (name ++ (elements_shown n m xt (definition_elements c start) ++ (codes " ;" ++ 10 ∷ [])))
      ≡ definition_shown n m c xt start
  parts n m c xt start name e =
      let printed = elements_shown n m xt (definition_elements c start) in
      sym (ap (λ l. 58 ∷ 32 ∷ l) (append_assoc (name ++ printed) (codes " ;") (10 ∷ [])
      ∙ append_assoc name printed (codes " ;" ++ 10 ∷ [])))
      ∙ ap (λ o. codes ": " ++ title xt o ++ printed ++ codes " ;" ++ 10 ∷ []) (sym e)

  positioned : (n : Names) (m : DataSpace) (self : ℕ) (es : List Printed) (head : TextWord) (shown : List ℕ)
      → ((ws : List TextWord) × CompileAll shown m self es ws
      × Reads n (rest_at 0 shown) (head ∷ (ws ++ text.Compiling compiling.Semicolon ∷ text.End ∷ []))
      (rest_at (length shown) []))
      → (ws : List TextWord) × CompileAll shown m self es ws
      × AreRead n shown 0 (head ∷ (ws ++ text.Compiling compiling.Semicolon ∷ text.End ∷ [])) (length shown)
  positioned n m self es head shown h = (
    h.0,
    h.1,
    read_at n shown (rest_at 0 shown) (rest_at (length shown) [])
        (head ∷ (h.0 ++ text.Compiling compiling.Semicolon ∷ text.End ∷ [])) refl h.2,
  )

  pub text_scans_back : TextScansBack
  text_scans_back n m c xt start name e w free h =
      let head = text.Defining defining.Colon (record { begin = 2; end = 2 + length name }) in
      positioned n m xt (definition_elements c start) head (definition_shown n m c xt start)
      (subst (λ shown. (ws : List TextWord) × CompileAll shown m xt (definition_elements c start) ws
      × Reads n (rest_at 0 shown) (head ∷ (ws ++ text.Compiling compiling.Semicolon ∷ text.End ∷ []))
      (rest_at (length shown) [])) (parts n m c xt start name e)
      (scanned n m xt name (definition_elements c start) w free h))
