-- A phrase that can stand where it does takes the source on to what is known behind it.
use Rattle.std.proofs.Common.{◌≡◌, ◌≢◌, ℕ, ◌+◌, ◌≤◌, Bool, true, false, List, [], ◌∷◌, ◌++◌, length, Option, Some}
use Rattle.std.proofs.Common.{None, nat_lt, if◌then◌else◌, refl, sym, ap, subst, ◌∙◌, arith}
use Rattle.std.specs.Prelude.{is_some}
use Rattle.std.specs.List.{All}
use Rattle.std.proofs.lemmas.Bool.Decides.{nat_tests}
use Rattle.std.proofs.lemmas.List.{append-nil}
use Rattle.of_cells.specs.declared.cells.Cell.{Cell}
use Rattle.of_fcodes.specs.declared.codes.FCode.{FCode}
use Rattle.of_source.specs.declared.fault.SourceFault.{SourceFault}
use Rattle.of_source.specs.declared.fault.SourceFault.TheVariants.{BadNumber}
use Rattle.of_source.specs.declared.keyword.Keyword.{Keyword}
use Rattle.of_source.specs.declared.keyword.Keyword.TheVariants as keyword
use Rattle.of_source.specs.declared.keyword.Definer.{Definer}
use Rattle.of_source.specs.declared.keyword.Lone.{Lone}
use Rattle.of_source.specs.declared.keyword.Lone.TheVariants as lone
use Rattle.of_source.specs.declared.keyword.Quote.TheVariants as quote
use Rattle.of_source.specs.declared.keyword.Radix.{Radix}
use Rattle.of_scan.specs.declared.numbers.Number.TheVariants.{Value}
use Rattle.of_source.specs.Keywords.{keyword_named, ordinary_named}
use Rattle.of_source.specs.Names.{Own, own_in}
use Rattle.of_scan.specs.Numbers.{number_in}
use Rattle.of_source.specs.Radix.{base_of}
use Rattle.of_source.specs.Items.{Item, call, string, naming, making, bare, own_code}
use Rattle.of_source.specs.Items as item
use Rattle.of_source.specs.Nesting.{Nesting}
use Rattle.of_source.specs.Nesting.{in_definition}
use Rattle.of_source.specs.Nesting.{is_straight}
use Rattle.of_source.specs.Shapes.{Shape, nothing, run, shape_of}
use Rattle.of_scan.specs.Scan.{Rest, rest_at, left_of, start_of, next_word, Found, group}
use Rattle.of_source.specs.Steps.{State, Step, Goes, giving, reading_on, with_next}
use Rattle.of_source.specs.Steps.{with_name, name_found, with_string, with_code, ended, effect_step}
use Rattle.of_source.specs.Steps.{may_stand, string_items}
use Rattle.of_source.specs.Steps.{number_or_bad, number_items, comment_step, code_named}
use Rattle.of_source.specs.Steps.{keyword_step, number_word_step, ordinary_step, listed_step, own_step, word_step}
use Rattle.of_source.specs.Phrases.{Phrase, Spelled, Known, taken, written, items_of, behind}
use Rattle.of_source.specs.Effects.{effect_of}
use Rattle.of_source.specs.Phrases as phrase
use Rattle.of_scan.specs.Strings.{Piece, pieces_bytes, IsWithin, ArePieces}
use Rattle.of_scan.specs.Words.{IsWord, AreBlanks, EndsLine}
use Rattle.of_source.specs.Written.{IsName, LeaveOpen, IsStraight, own_of, IsKeyword, IsPlaced, IsFollowed}
use Rattle.of_source.proofs.ReadingBack.{Parts, ends_part, word_behind, left_behind, line_left, plain_behind}
use Rattle.of_source.proofs.ReadingBack.{plain_there, quoted_behind}
use Rattle.of_source.proofs.Opening.{MayStand, then_goes, else_goes, back_goes, repeat_goes, semicolon_goes, loop_goes}
use Rattle.of_source.proofs.Opening.{end_of_goes, end_case_goes, leave_goes, of_goes, making_goes}
use Rattle.of_source.proofs.Opening.{straight_goes}
use Rattle.of_source.specs.Effects.{effect_of, making_of}
use Rattle.of_source.specs.Phrases.{quote_if}
use Rattle.of_source.proofs.Opening.{making_goes}
use Rattle.of_source.specs.Effects.{made}

-- the state of a word here, behind which this is left, where this is known and open
abbrev pub state_at : ℕ → Rest → Known → Nesting → State
state_at at r k n = record {
  at = at;
  rest = r;
  setting = k.setting;
  nesting = n;
  items = k.items;
}

-- the source goes on in one of these states
pub record Reaches (step : Step) (to : ℕ → Nesting → State) : Type 0 where
  pub at : ℕ
  pub nesting : Nesting
  pub goes : step ≡ Goes (to at nesting)

-- the source goes on with what is known, where this is left
abbrev pub GoesOn : Step → Known → Rest → Type 0
GoesOn step k r = Reaches step (λ at n. state_at at r k n)

pub goes_by : (a b : Step) (k : Known) (r : Rest) → a ≡ b → GoesOn b k r → GoesOn a k r
goes_by a b k r e h = record { at = h.at; nesting = h.nesting; goes = e ∙ h.goes }

-- with more items
abbrev pub with_items : List Item → Known → Known
with_items is k = record k { items = k.items ++ is }

-- ---- words that read on

next_by : (f : SourceFault) (blanks : List ℕ) (at : ℕ) (word more : List ℕ) (go : List ℕ → Rest → Step)
    → AreBlanks blanks → IsWord word → Parts more
    → with_next f (next_word (rest_at at ((blanks ++ word) ++ more))) go
    ≡ go word (rest_at (at + length (blanks ++ word)) more)
next_by f blanks at word more go b h p = ap (λ o. with_next f o go) (word_behind blanks at word more b h p)

pub number_goes : (last : ℕ) (base : Radix) (blanks word : List ℕ) (x : Cell) (at from : ℕ) (k : Known) (n : Nesting)
    (more : List ℕ)
    → AreBlanks blanks → IsWord word → number_in (base_of base) word ≡ Value x → Parts more
    → GoesOn (keyword_step last (keyword.NumberIn base) (state_at at (rest_at from ((blanks ++ word) ++ more)) k n))
    (with_items (number_items x) k) (rest_at (from + length (blanks ++ word)) more)
number_goes last base blanks word x at from k n more b h e p = record {
  at = at;
  nesting = n;
  goes =
      next_by (BadNumber at) blanks from word more _ b h p
      ∙ ap (λ v. number_or_bad at v (λ c. Goes (giving (number_items c)
      (state_at at (rest_at (from + length (blanks ++ word)) more) k n)))) e;
}

pub character_goes : (last b : ℕ) (blanks word : List ℕ) (at from : ℕ) (k : Known) (n : Nesting) (more : List ℕ)
    → AreBlanks blanks → IsWord (b ∷ word) → Parts more
    → GoesOn (keyword_step last keyword.Character (state_at at (rest_at from ((blanks ++ b ∷ word) ++ more)) k n))
    (with_items (number_items (record { 0 = b })) k) (rest_at (from + length (blanks ++ b ∷ word)) more)
character_goes last b blanks word at from k n more c h p =
    let s = state_at at (rest_at from ((blanks ++ b ∷ word) ++ more)) k n in
    record { at = at; nesting = n; goes = next_by (ended last s) blanks from (b ∷ word) more _ c h p }

pub naming_goes : (last : ℕ) (t : FCode) (blanks name : List ℕ) (c : FCode) (at from : ℕ) (k : Known) (n : Nesting)
    (more : List ℕ)
    → AreBlanks blanks → IsWord name → code_named k.setting.names name ≡ Some c → Parts more
    → GoesOn (keyword_step last (keyword.Naming t) (state_at at (rest_at from ((blanks ++ name) ++ more)) k n))
    (with_items (item.Plain (naming t c) ∷ []) k) (rest_at (from + length (blanks ++ name)) more)
naming_goes last t blanks name c at from k n more b h e p =
    let s = state_at at (rest_at from ((blanks ++ name) ++ more)) k n in
    let u = state_at at (rest_at (from + length (blanks ++ name)) more) k n in
    record {
      at = at;
      nesting = n;
      goes =
          next_by (ended last s) blanks from name more _ b h p
          ∙ ap (λ o. with_code (start_of s.rest) o (λ d. Goes (giving (item.Plain (naming t d) ∷ []) u))) e;
    }

short_string : (s : State) (bytes more : List ℕ) (f : Found) (go : List ℕ → State → Step) → f ≡ Some (bytes, more)
    → length bytes ≤ 255 → with_string s f go ≡ go bytes (reading_on (left_of s.rest more) s)
short_string s bytes more f go e l =
    let t : nat_lt 255 (length bytes) ≡ false = grind (arith, nat_tests) in
    ap (λ o. with_string s o go) e ∙ rw t refl

-- a string of these bytes is taken
string_taken : (at from : ℕ) (k : Known) (n : Nesting) (bytes all more : List ℕ) (f : Found)
    (go : List ℕ → State → Step)
    → f ≡ Some (bytes, more) → length bytes ≤ 255
    → with_string (state_at at (rest_at from (all ++ more)) k n) f go
    ≡ go bytes (state_at at (rest_at (from + length all) more) k n)
string_taken at from k n bytes all more f go e l =
    short_string (state_at at (rest_at from (all ++ more)) k n) bytes more f go e l
    ∙ ap (λ r. go bytes (state_at at r k n)) (left_behind from all more)

pub text_goes : (last : ℕ) (prints : Bool) (b : ℕ) (bytes : List ℕ) (at from : ℕ) (k : Known) (n : Nesting)
    (more : List ℕ)
    → b ≢ 10 → length bytes ≤ 255 → IsWithin 34 bytes
    → GoesOn (keyword_step last (keyword.Text (quote_if prints))
    (state_at at (rest_at from ((b ∷ bytes ++ 34 ∷ []) ++ more)) k n))
    (with_items (string_items (quote_if prints) bytes) k) (rest_at (from + length (b ∷ bytes ++ 34 ∷ [])) more)
text_goes last prints b bytes at from k n more s l h = record {
  at = at;
  nesting = n;
  goes =
      string_taken at from k n bytes (b ∷ bytes ++ 34 ∷ []) more _ _
      (plain_there prints ((b ∷ bytes ++ 34 ∷ []) ++ more) ∙ plain_behind 34 b bytes more s h) l;
}

pub quoted_goes : (last b : ℕ) (ps : List Piece) (bytes : List ℕ) (at from : ℕ) (k : Known) (n : Nesting)
    (more : List ℕ)
    → b ≢ 10 → length (pieces_bytes ps ++ bytes) ≤ 255 → ArePieces ps → IsWithin 34 bytes → group more ≡ None
    → GoesOn (keyword_step last (keyword.Text quote.Bytes)
    (state_at at (rest_at from (taken (phrase.Quoted b ps bytes) ++ more)) k n))
    (with_items (item.Plain (string (pieces_bytes ps ++ bytes)) ∷ []) k)
    (rest_at (from + length (taken (phrase.Quoted b ps bytes))) more)
quoted_goes last b ps bytes at from k n more s l h w g = record {
  at = at;
  nesting = n;
  goes =
      string_taken at from k n (pieces_bytes ps ++ bytes) (taken (phrase.Quoted b ps bytes)) more _ _
      (quoted_behind b ps bytes more s h w g) l;
}

-- nothing is known but the items, of which no more are
no_items : (at : ℕ) (r : Rest) (k : Known) (n : Nesting)
    → Goes (state_at at r k n) ≡ Goes (state_at at r (with_items [] k) n)
no_items at r k n = ap (λ is. Goes (state_at at r (record k { items = is }) n)) (sym (append-nil k.items))

pub comment_goes : (last b : ℕ) (bytes : List ℕ) (at from : ℕ) (k : Known) (n : Nesting) (more : List ℕ)
    → b ≢ 10 → IsWithin 41 bytes
    → GoesOn (keyword_step last keyword.Comment (state_at at (rest_at from ((b ∷ bytes ++ 41 ∷ []) ++ more)) k n))
    (with_items [] k) (rest_at (from + length (b ∷ bytes ++ 41 ∷ [])) more)
comment_goes last b bytes at from k n more s h = record {
  at = at;
  nesting = n;
  goes =
      ap (comment_step (state_at at (rest_at from ((b ∷ bytes ++ 41 ∷ []) ++ more)) k n))
      (plain_behind 41 b bytes more s h)
      ∙ ap (λ r. Goes (state_at at r k n)) (left_behind from (b ∷ bytes ++ 41 ∷ []) more)
      ∙ no_items at (rest_at (from + length (b ∷ bytes ++ 41 ∷ [])) more) k n;
}

-- ---- definitions

name_by : (last at from : ℕ) (blanks name more : List ℕ) (k : Known) (n : Nesting) (go : List ℕ → State → Step)
    → AreBlanks blanks → IsName name → Parts more
    → with_name (name_found last (state_at at (rest_at from ((blanks ++ name) ++ more)) k n)
    (next_word (rest_at from ((blanks ++ name) ++ more)))) go
    ≡ go name (state_at at (rest_at (from + length (blanks ++ name)) more) k n)
name_by last at from blanks name more k n go b h p =
    let t : nat_lt 31 (length name) ≡ false = short (length name) h.1 in
    let s = state_at at (rest_at from ((blanks ++ name) ++ more)) k n in
    ap (λ o. with_name (name_found last s o) go) (word_behind blanks from name more b h.0 p)
    ∙ rw t refl
  where
    short : (l : ℕ) → l ≤ 31 → nat_lt 31 l ≡ false
    short l h = grind (arith, nat_tests)

unless : (b : Bool) (x y : Step) → b ≡ false → (if b then x else y) ≡ y
unless b x y h = rw h refl

pub when_so : (b : Bool) (x y : Step) → b ≡ true → (if b then x else y) ≡ x
when_so b x y h = rw h refl

pub defining_step_goes : (last : ℕ) (w : Definer) (blanks name : List ℕ) (at from : ℕ) (k : Known) (n : Nesting)
    (more word : List ℕ)
    → AreBlanks blanks → IsName name → in_definition n.parts ≡ false → Parts more
    → GoesOn (keyword_step last (keyword.Defining w) (state_at at (rest_at from ((blanks ++ name) ++ more)) k n))
    (behind word (phrase.Defining w blanks name) k) (rest_at (from + length (blanks ++ name)) more)
defining_step_goes last w blanks name at from k n more word b h e p = record {
  at = at;
  nesting = (making_of w).opens at n;
  goes =
      unless (in_definition n.parts) _ _ e
      ∙ name_by last at from blanks name more k ((making_of w).opens at n) _ b h p;
}

-- ---- one phrase

own_goes : (last j : ℕ) (word : List ℕ) (at : ℕ) (r : Rest) (k : Known) (n : Nesting)
    → own_in k.setting.names word ≡ Some j
    → GoesOn (word_step last word (state_at at r k n)) (with_items (item.Plain (call (own_code j)) ∷ []) k) r
unfolding word_step
own_goes last j word at r k n h = record { at = at; nesting = n; goes = ap (own_step last word (state_at at r k n)) h }

pub keyed : (last : ℕ) (word : List ℕ) (s : State) (key : Option Keyword) → own_in s.setting.names word ≡ None
    → keyword_named word ≡ key → word_step last word s ≡ listed_step last word s key
unfolding word_step
keyed last word s key h e = ap (own_step last word s) h ∙ ap (listed_step last word s) e

board_goes : (word : List ℕ) (c : FCode) (at : ℕ) (r : Rest) (k : Known) (n : Nesting) → ordinary_named word ≡ Some c
    → GoesOn (ordinary_step word (state_at at r k n) (ordinary_named word)) (with_items (item.Plain (call c) ∷ []) k) r
board_goes word c at r k n h =
    record { at = at; nesting = n; goes = ap (ordinary_step word (state_at at r k n)) h }

digits_go : (word : List ℕ) (x : Cell) (at : ℕ) (r : Rest) (k : Known) (n : Nesting) → ordinary_named word ≡ None
    → number_in (base_of k.setting.radix) word ≡ Value x
    → GoesOn (ordinary_step word (state_at at r k n) (ordinary_named word)) (with_items (number_items x) k) r
digits_go word x at r k n h e = record {
  at = at;
  nesting = n;
  goes =
      ap (ordinary_step word (state_at at r k n)) h ∙ ap (number_word_step (state_at at r k n)) e;
}

-- what a phrase leaves
abbrev pub Left : Step → ℕ → List ℕ → Phrase → Known → List ℕ → Type 0
Left step from word p k more = GoesOn step (behind word p k) (rest_at (from + length (taken p)) more)

-- a phrase of a keyword, where the keyword's word goes on
by_keyword : (last from : ℕ) (word : List ℕ) (key : Keyword) (p : Phrase) (k : Known) (n : Nesting) (more : List ℕ)
    → own_in k.setting.names word ≡ None → keyword_named word ≡ Some key
    → Left (keyword_step last key (state_at k.at (rest_at from (taken p ++ more)) k n)) from word p k more
    → Left (word_step last word (state_at k.at (rest_at from (taken p ++ more)) k n)) from word p k more
by_keyword last from word key p k n more h e g =
    let s = state_at k.at (rest_at from (taken p ++ more)) k n in
    goes_by _ (keyword_step last key s) (behind word p k) _ (keyed last word s (Some key) h e) g

-- a phrase that takes nothing leaves the text as it is
still : (step : Step) (from : ℕ) (k : Known) (more : List ℕ) → GoesOn step k (rest_at from more)
    → GoesOn step k (rest_at (from + 0) more)
still step from k more h =
    let e : from ≡ from + 0 = omega arith in
    subst (λ (n : ℕ). GoesOn step k (rest_at n more)) e h

-- the same, where nothing is taken
by_word : (last from : ℕ) (word : List ℕ) (key : Keyword) (p : Phrase) (k : Known) (n : Nesting) (more : List ℕ)
    → own_in k.setting.names word ≡ None → keyword_named word ≡ Some key
    → GoesOn (keyword_step last key (state_at k.at (rest_at from more) k n)) (behind word p k) (rest_at from more)
    → GoesOn (word_step last word (state_at k.at (rest_at from more) k n)) (behind word p k) (rest_at (from + 0) more)
by_word last from word key p k n more h e g =
    let s = state_at k.at (rest_at from more) k n in
    still _ from (behind word p k) more
    (goes_by _ (keyword_step last key s) (behind word p k) (rest_at from more) (keyed last word s (Some key) h e) g)

-- what is open here, by the items before
straight_there : (k : Known) (n : Nesting) → run k.items nothing ≡ Some (shape_of n) → LeaveOpen k.items IsStraight
    → is_straight n ≡ true
straight_there k n h l = straight_goes n (subst IsStraight (same (sym l.1 ∙ h)) l.2)
  where
    same : {o p : Shape} → Some o ≡ Some p → o ≡ p
    same h = cc

effect_goes : (w : Lone) (o : Option Nesting) (r : Rest) (k : Known) (n : Nesting) (word : List ℕ) → is_some o ≡ true
    → may_stand (effect_of w).stands (state_at k.at r k n) ≡ true
    → GoesOn (effect_step (effect_of w) o (state_at k.at r k n)) (behind word (phrase.Alone w) k) r
effect_goes w None r k n word h b = absurd cc
effect_goes w (Some m) r k n word h b = record {
  at = k.at;
  nesting = m;
  goes = when_so (may_stand (effect_of w).stands (state_at k.at r k n)) _ _ b;
}

-- a keyword's phrase stands where the keyword may
lone_stands : (w : Lone) (r : Rest) (k : Known) (n : Nesting) (word : List ℕ) → IsPlaced k word (phrase.Alone w)
    → run k.items nothing ≡ Some (shape_of n) → may_stand (effect_of w).stands (state_at k.at r k n) ≡ true
lone_stands lone.Recurse r k n word w h = ap is_some w.1
lone_stands lone.Offset16 r k n word w h = straight_there k n h w
lone_stands _ r k n word w h = refl

-- where the items of a keyword may stand, it opens and closes what it should
lone_opens : (w : Lone) (at : ℕ) (one : Option Own) (n : Nesting) → MayStand ((effect_of w).gives at one) n
    → is_some ((effect_of w).opens at n) ≡ true
lone_opens lone.Semicolon at one n m = semicolon_goes n m
lone_opens lone.Else at one n m = else_goes at n m
lone_opens lone.Then at one n m = then_goes n m
lone_opens (lone.Back z) at one n m = back_goes z at n m
lone_opens lone.Repeat at one n m = repeat_goes at n m
lone_opens (lone.Loop q) at one n m = loop_goes q at n m
lone_opens lone.Leave at one n m = leave_goes n m
lone_opens lone.Of at one n m = of_goes at n m
lone_opens lone.EndOf at one n m = end_of_goes at n m
lone_opens lone.EndCase at one n m = end_case_goes n m
lone_opens _ at one n m = refl

line_comment_goes : (last : ℕ) (bytes : List ℕ) (at from : ℕ) (k : Known) (n : Nesting) (more : List ℕ)
    → All (λ b. b ≢ 10) bytes → EndsLine more
    → GoesOn (keyword_step last keyword.LineComment (state_at at (rest_at from (bytes ++ more)) k n)) (with_items [] k)
    (rest_at (from + length bytes) more)
line_comment_goes last bytes at from k n more h f = record {
  at = at;
  nesting = n;
  goes =
      ap (λ t. Goes (state_at at (left_of (rest_at from (bytes ++ more)) t) k n)) (line_left bytes more h f)
      ∙ ap (λ r. Goes (state_at at r k n)) (left_behind from bytes more)
      ∙ no_items at (rest_at (from + length bytes) more) k n;
}

-- each phrase goes on, where it can stand
pub phrase_goes : (last from : ℕ) (word : List ℕ) (p : Phrase) (k : Known) (n : Nesting) (more : List ℕ)
    → own_in k.setting.names word ≡ own_of p → IsKeyword word p → IsPlaced k word p
    → run k.items nothing ≡ Some (shape_of n) → MayStand (items_of p k) n → IsFollowed p more
    → Left (word_step last word (state_at k.at (rest_at from (taken p ++ more)) k n)) from word p k more
phrase_goes last from word (phrase.OwnWord j) k n more h e w r m f =
    let b = behind word (phrase.OwnWord j) k in
    still _ from b more (own_goes last j word k.at (rest_at from more) k n h)
phrase_goes last from word (phrase.BoardWord c) k n more h e w r m f =
    let s = state_at k.at (rest_at from more) k n in
    let b = behind word (phrase.BoardWord c) k in
    still _ from b more
    (goes_by _ _ b (rest_at from more) (keyed last word s None h e) (board_goes word c k.at (rest_at from more) k n w))
phrase_goes last from word (phrase.Number x) k n more h e w r m f =
    let s = state_at k.at (rest_at from more) k n in
    let b = behind word (phrase.Number x) k in
    still _ from b more
    (goes_by _ _ b (rest_at from more) (keyed last word s None h e)
    (digits_go word x k.at (rest_at from more) k n w.0 w.1))
phrase_goes last from word (phrase.NumberIn base blanks digits x) k n more h e w r m f =
    by_keyword last from word _ (phrase.NumberIn base blanks digits x) k n more h e
    (number_goes last base blanks digits x k.at from k n more w.0 w.1 w.2 (ends_part more f))
phrase_goes last from word (phrase.Character blanks b bytes) k n more h e w r m f =
    by_keyword last from word _ (phrase.Character blanks b bytes) k n more h e
    (character_goes last b blanks bytes k.at from k n more w.0 w.1 (ends_part more f))
phrase_goes last from word (phrase.Text prints b bytes) k n more h e w r m f =
    by_keyword last from word _ (phrase.Text prints b bytes) k n more h e
    (text_goes last prints b bytes k.at from k n more w.0 w.1 w.2)
phrase_goes last from word (phrase.Quoted b ps bytes) k n more h e w r m f =
    by_keyword last from word _ (phrase.Quoted b ps bytes) k n more h e
    (quoted_goes last b ps bytes k.at from k n more w.0 w.1 w.2 w.3 f)
phrase_goes last from word (phrase.Comment b bytes) k n more h e w r m f =
    by_keyword last from word _ (phrase.Comment b bytes) k n more h e
    (comment_goes last b bytes k.at from k n more w.0 w.1)
phrase_goes last from word (phrase.LineComment bytes) k n more h e w r m f =
    by_keyword last from word _ (phrase.LineComment bytes) k n more h e
    (line_comment_goes last bytes k.at from k n more w f)
phrase_goes last from word (phrase.Naming t blanks name c) k n more h e w r m f =
    by_keyword last from word _ (phrase.Naming t blanks name c) k n more h e
    (naming_goes last t blanks name c k.at from k n more w.0 w.1 w.2 (ends_part more f))
phrase_goes last from word (phrase.Defining d blanks name) k n more h e w r m f =
    by_keyword last from word _ (phrase.Defining d blanks name) k n more h e
    (defining_step_goes last d blanks name k.at from k n more word w.0 w.1 (making_goes d n (made name k.setting) m)
    (ends_part more f))
phrase_goes last from word (phrase.Alone c) k n more h e w r m f =
    by_word last from word _ (phrase.Alone c) k n more h e
    (effect_goes c _ (rest_at from more) k n word (lone_opens c k.at k.setting.open_one n m)
    (lone_stands c (rest_at from more) k n word w r))
