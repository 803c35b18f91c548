-- Each word with which a source goes on is the word of a phrase that can stand there.
use Rattle.std.proofs.Common.{◌≡◌, ℕ, ◌+◌, ◌<◌, ◌≤◌, Bool, true, false, List, [], ◌∷◌, ◌++◌, length}
use Rattle.std.proofs.lemmas.Bool.{and_parts}
use Rattle.std.proofs.Common.{Option, Some, None, Ok, Err, nat_eq, nat_lt, if◌then◌else◌, refl, sym, ap, subst}
use Rattle.std.proofs.Common.{◌∙◌, arith, append_assoc}
use Rattle.std.specs.Prelude.{slice_index, is_some}
use Rattle.std.specs.List.{list_all}
use Rattle.std.proofs.lemmas.Bool.Decides.{nat_tests}
use Rattle.std.proofs.lemmas.List.{append-nil, length-append}
use Rattle.of_cells.specs.declared.cells.Cell.{Cell}
use Rattle.of_fcodes.specs.declared.codes.FCode.{FCode}
use Rattle.of_source.specs.declared.fault.SourceFault.{SourceFault}
use Rattle.of_source.specs.declared.fault.SourceFault.TheVariants.{Unknown, TooLong}
use Rattle.of_source.specs.declared.keyword.Keyword.{Keyword}
use Rattle.of_source.specs.declared.keyword.Keyword.TheVariants as keyword
use Rattle.of_source.specs.declared.keyword.Definer.{Definer}
use Rattle.of_source.specs.declared.keyword.Lone.{Lone}
use Rattle.of_source.specs.declared.keyword.Lone.TheVariants as lone
use Rattle.of_source.specs.declared.keyword.Quote.{Quote}
use Rattle.of_source.specs.declared.keyword.Quote.TheVariants as quote
use Rattle.of_source.specs.declared.keyword.Radix.{Radix}
use Rattle.of_source.specs.declared.nesting.Frame.{Frame}
use Rattle.of_source.specs.declared.nesting.Part.{Part}
use Rattle.of_source.specs.declared.nesting.Part.TheVariants as part
use Rattle.of_scan.specs.declared.numbers.Number.{Number}
use Rattle.of_scan.specs.declared.numbers.Number.TheVariants.{Value, OutOfRange, NoNumber}
use Rattle.of_source.specs.Keywords.{keyword_named, ordinary_named}
use Rattle.of_source.specs.Names.{Own, own_in}
use Rattle.of_scan.specs.Numbers.{number_in}
use Rattle.of_source.specs.Radix.{base_of}
use Rattle.of_source.specs.Items.{Item, call, string, naming, bare, own_code}
use Rattle.of_source.specs.Items as item
use Rattle.of_source.specs.Nesting.{Nesting, is_same}
use Rattle.of_source.specs.Nesting.{opened_if}
use Rattle.std.specs.Prelude.{not}
use Rattle.of_source.specs.Nesting.{in_definition}
use Rattle.of_source.specs.Nesting.{all_definitions, is_straight, is_closed}
use Rattle.of_source.specs.Shapes.{shape_of}
use Rattle.of_scan.specs.Scan.{Rest, rest_at, left_of, start_of, next_word, Found, plain_string, quoted_string}
use Rattle.of_scan.specs.Scan.{line_end}
use Rattle.of_source.specs.Steps.{State, Step, Goes, Ends, Fails, giving, opening, reading_on, at_next}
use Rattle.of_source.specs.Steps.{with_next, with_name, name_found, with_string, with_code, effect_step, may_stand}
use Rattle.of_source.specs.Steps.{string_items}
use Rattle.of_source.specs.Steps.{number_or_bad, number_items, comment_step, code_named}
use Rattle.of_source.specs.Steps.{text_step, keyword_step, number_word_step, ordinary_step, listed_step, own_step}
use Rattle.of_source.specs.Steps.{word_step, next_step, ended}
use Rattle.of_source.specs.Phrases.{Phrase, Spelled, Known, taken, written, items_of, learned, moved, behind}
use Rattle.of_source.specs.Effects.{effect_of}
use Rattle.of_source.specs.Phrases as phrase
use Rattle.of_scan.specs.Words.{IsWord, AreBlanks, EndsWord}
use Rattle.of_source.specs.Written.{IsStraight, own_of, IsKeyword, IsPlaced, IsFollowed, IsSaid}
use Rattle.of_source.specs.Faults.{opened, HasWord, IsWrong, no_opener, left_open, no_word}
use Rattle.of_source.specs.Faults.{no_name}
use Rattle.of_source.specs.Faults.{no_digits, bad_digits, long_name, long_string, no_end, no_code, not_outside}
use Rattle.of_source.specs.Faults.{not_inside, not_straight, out_of_range, no_meaning, IsFailure, cut, wrong}
use Rattle.of_source.proofs.Kept.{Inv, shapes}
use Rattle.of_source.proofs.FoundText.{FoundPlain, FoundQuoted, FoundWord, plain_found, quoted_found, line_found}
use Rattle.of_source.proofs.FoundText.{next_found, left_place}
use Rattle.of_source.proofs.ReadingBack.{plain_there}
use Rattle.of_source.specs.Effects.{effect_of, making_of}
use Rattle.of_source.specs.Phrases.{quote_if}

-- what is known in a state, at this place
abbrev pub known_at : ℕ → State → Known
known_at at s = record { at = at; setting = s.setting; items = s.items }

-- at another place
abbrev pub placed_at : ℕ → Known → Known
placed_at at k = record k { at = at }

-- from one state to another a phrase was said, whose word was read before
pub record Says (u : State) (word : List ℕ) (t : State) : Type 0 where
  pub phrase : Phrase
  pub text : u.rest.text ≡ taken phrase ++ t.rest.text
  pub place : t.rest.at ≡ u.rest.at + length (taken phrase)
  pub own : own_in u.setting.names word ≡ own_of phrase
  pub means : IsKeyword word phrase
  pub placed : IsPlaced (known_at u.at u) word phrase
  pub followed : IsFollowed phrase t.rest.text
  pub knows : (at : ℕ) → known_at at t ≡ placed_at at (behind word phrase (known_at u.at u))
  pub opens : opened phrase u.at u.nesting ≡ Some t.nesting

-- the word ends a source
abbrev IsLast : State → List ℕ → State → Type 0
IsLast u word t =
    (t ≡ u) × (own_in u.setting.names word ≡ None) × (keyword_named word ≡ Some keyword.Finish)
    × (is_closed u.nesting ≡ true)

-- the word can't stand there, and the last byte of the text is at this place
abbrev Failed : ℕ → State → List ℕ → SourceFault → Type 0
Failed last u word f = (own_in u.setting.names word ≡ None) × IsWrong last (known_at u.at u) u.nesting word u.rest f

abbrev pub Said : ℕ → State → List ℕ → Step → Type 0
Said last u word (Goes t) = Says u word t
Said last u word (Ends t) = IsLast u word t
Said last u word (Fails f) = Failed last u word f

stay : (at : ℕ) → at ≡ at + 0
stay at = omega arith

-- a phrase that takes nothing from the text
alone : (u t : State) (word : List ℕ) (p : Phrase) → taken p ≡ [] → t.rest ≡ u.rest
    → own_in u.setting.names word ≡ own_of p
    → IsKeyword word p → IsPlaced (known_at u.at u) word p → IsFollowed p t.rest.text
    → ((at : ℕ) → known_at at t ≡ placed_at at (behind word p (known_at u.at u)))
    → opened p u.at u.nesting ≡ Some t.nesting → Says u word t
alone u t word p e r own means placed followed knows opens = record {
  phrase = p;
  text = ap (λ (q : Rest). q.text) (sym r) ∙ ap (λ l. l ++ t.rest.text) (sym e);
  place = ap (λ (q : Rest). q.at) r ∙ stay u.rest.at ∙ ap (λ l. u.rest.at + length l) (sym e);
  own = own;
  means = means;
  placed = placed;
  followed = followed;
  knows = knows;
  opens = opens;
}

-- no items more
same_items : (is : List Item) (f : List Item → Known) → f is ≡ f (is ++ [])
same_items is f = ap f (sym (append-nil is))

-- ---- the parts of a step

said_if : (last : ℕ) (u : State) (word : List ℕ) (b : Bool) (f : SourceFault) (x : Step)
    → (b ≡ false → Failed last u word f) → (b ≡ true → Said last u word x)
    → Said last u word (if b then x else Fails f)
said_if last u word true f x w k = k refl
said_if last u word false f x w k = w refl

said_unless : (last : ℕ) (u : State) (word : List ℕ) (b : Bool) (f : SourceFault) (x : Step)
    → (b ≡ true → Failed last u word f) → (b ≡ false → Said last u word x)
    → Said last u word (if b then Fails f else x)
said_unless last u word true f x w k = w refl
said_unless last u word false f x w k = k refl

-- the word that a word takes
abbrev Taken : State → List ℕ → Rest → Type 0
Taken u w r = FoundWord u.rest.at u.rest.text (start_of u.rest) (Some (w, r))

said_next : (last : ℕ) (u : State) (word : List ℕ) (f : SourceFault) (o : Option (List ℕ × Rest))
    (go : List ℕ → Rest → Step)
    → FoundWord u.rest.at u.rest.text (start_of u.rest) o
    → (AreBlanks u.rest.text → Failed last u word f)
    → ((w : List ℕ) (r : Rest) → Taken u w r → Said last u word (go w r)) → Said last u word (with_next f o go)
said_next last u word f None go h n k = n h
said_next last u word f (Some w) go h n k = k w.0 w.1 h

short_name : (last : ℕ) (u : State) (word : List ℕ) (b : Bool) (f : SourceFault) (name : List ℕ) (s : State)
    (go : List ℕ → State → Step)
    → (b ≡ true → Failed last u word f) → (b ≡ false → Said last u word (go name s))
    → Said last u word (with_name (if b then Err f else Ok (name, s)) go)
short_name last u word true f name s go n k = n refl
short_name last u word false f name s go n k = k refl

too_long : (m l : ℕ) → nat_lt m l ≡ true → m < l
too_long m l h = grind (arith, nat_tests)

no_longer : (l : ℕ) → nat_lt 31 l ≡ false → l ≤ 31
no_longer l h = grind (arith, nat_tests)

said_name : (last : ℕ) (u s : State) (word : List ℕ) (o : Option (List ℕ × Rest)) (go : List ℕ → State → Step)
    → FoundWord u.rest.at u.rest.text (start_of u.rest) o
    → (AreBlanks u.rest.text → Failed last u word (ended last s))
    → ((name : List ℕ) (r : Rest) → Taken u name r → 31 < length name
    → Failed last u word (TooLong (start_of s.rest)))
    → ((name : List ℕ) (r : Rest) → Taken u name r → length name ≤ 31 → Said last u word (go name (reading_on r s)))
    → Said last u word (with_name (name_found last s o) go)
said_name last u s word None go h n t k = n h
said_name last u s word (Some w) go h n t k =
    short_name last u word (nat_lt 31 (length w.0)) _ w.0 (reading_on w.1 s) go
    (λ e. t w.0 w.1 h (too_long 31 (length w.0) e)) (λ e. k w.0 w.1 h (no_longer (length w.0) e))

-- the word that a word takes, as it stands in the text
abbrev has_word : (u : State) (w : List ℕ) (r : Rest) → Taken u w r → HasWord u.rest.text
has_word u w r h =
    record { blanks = h.0; word = w; more = r.text; text = h.1; between = h.2; spelled = h.3; ends = h.4 }

no_longer_string : (l : ℕ) → nat_lt 255 l ≡ false → l ≤ 255
no_longer_string l h = grind (arith, nat_tests)

-- the text and the place behind a word that is taken
operand_text : (u : State) (w : List ℕ) (r : Rest) → (h : Taken u w r) → u.rest.text ≡ (h.0 ++ w) ++ r.text
operand_text u w r h = h.1 ∙ sym (append_assoc h.0 w r.text)

operand_place : (u : State) (w : List ℕ) (r : Rest) → (h : Taken u w r) → r.at ≡ u.rest.at + length (h.0 ++ w)
operand_place u w r h = h.6 ∙ together u.rest.at (length h.0) (length w) (length (h.0 ++ w)) (length-append h.0 w)
  where
    together : (a b c d : ℕ) → d ≡ b + c → a + b + c ≡ a + d
    together a b c d e = omega (arith, e)

-- ---- words that read on

said_number : (last : ℕ) (u : State) (word : List ℕ) (base : Radix) (w : List ℕ) (r : Rest) (v : Number)
    → own_in u.setting.names word ≡ None → keyword_named word ≡ Some (keyword.NumberIn base) → Taken u w r
    → number_in (base_of base) w ≡ v
    → Said last u word (number_or_bad u.at v (λ x. Goes (giving (number_items x) (reading_on r u))))
said_number last u word base w r (Value x) o m h e = record {
  phrase = phrase.NumberIn base h.0 w x;
  text = operand_text u w r h;
  place = operand_place u w r h;
  own = o;
  means = m;
  placed = (h.2, h.3, e);
  followed = h.4;
  knows = λ at. refl;
  opens = refl;
}
said_number last u word base w r OutOfRange o m h e =
    (o, bad_digits base (has_word u w r h) m (λ x d. absurd (no_value x (sym e ∙ d))))
  where
    no_value : (x : Cell) → OutOfRange ≡ Value x → ⊥
    no_value x d = cc
said_number last u word base w r NoNumber o m h e =
    (o, bad_digits base (has_word u w r h) m (λ x d. absurd (no_value x (sym e ∙ d))))
  where
    no_value : (x : Cell) → NoNumber ≡ Value x → ⊥
    no_value x d = cc

said_character : (last : ℕ) (u : State) (word w : List ℕ) (r : Rest) → own_in u.setting.names word ≡ None
    → keyword_named word ≡ Some keyword.Character → Taken u w r
    → Said last u word (Goes (giving (number_items (record { 0 = slice_index w 0 })) (reading_on r u)))
said_character last u word [] r o m h = let l : 0 < 0 = h.3.0 in absurd (omega (arith, l))
said_character last u word (b ∷ bytes) r o m h = record {
  phrase = phrase.Character h.0 b bytes;
  text = operand_text u (b ∷ bytes) r h;
  place = operand_place u (b ∷ bytes) r h;
  own = o;
  means = m;
  placed = (h.2, h.3);
  followed = h.4;
  knows = λ at. refl;
  opens = refl;
}

said_naming : (last : ℕ) (u : State) (word : List ℕ) (t : FCode) (w : List ℕ) (r : Rest) (o : Option FCode)
    → own_in u.setting.names word ≡ None → keyword_named word ≡ Some (keyword.Naming t) → Taken u w r
    → code_named u.setting.names w ≡ o
    → Said last u word (with_code (start_of u.rest) o
    (λ c. Goes (giving (item.Plain (naming t c) ∷ []) (reading_on r u))))
said_naming last u word t w r None o m h e = (
  o,
  subst (λ (a : ℕ). IsWrong last (known_at u.at u) u.nesting word u.rest (Unknown a)) (sym h.5)
      (no_code t (has_word u w r h) m e),
)
said_naming last u word t w r (Some c) o m h e = record {
  phrase = phrase.Naming t h.0 w c;
  text = operand_text u w r h;
  place = operand_place u w r h;
  own = o;
  means = m;
  placed = (h.2, h.3, e);
  followed = h.4;
  knows = λ at. refl;
  opens = refl;
}

said_comment : (last : ℕ) (u : State) (word : List ℕ) (o : Found) → own_in u.setting.names word ≡ None
    → keyword_named word ≡ Some keyword.Comment → FoundPlain 41 u.rest.text o → plain_string 41 u.rest.text ≡ o
    → Said last u word (comment_step u o)
said_comment last u word None n m h d = (n, no_end keyword.Comment m (ap (λ (o : Found). Some o) d))
said_comment last u word (Some r) n m h d = record {
  phrase = phrase.Comment h.0 r.0;
  text = h.1;
  place = left_place u.rest (h.0 ∷ r.0 ++ 41 ∷ []) r.1 h.1;
  own = n;
  means = m;
  placed = (h.2, h.3);
  followed = tt;
  knows = λ at. same_items u.items (λ is. record (known_at at u) { items = is });
  opens = refl;
}

said_line : (last : ℕ) (u : State) (word : List ℕ) → own_in u.setting.names word ≡ None
    → keyword_named word ≡ Some keyword.LineComment
    → Said last u word (Goes (reading_on (left_of u.rest (line_end u.rest.text)) u))
said_line last u word n m =
    let h = line_found u.rest.text in
    record {
      phrase = phrase.LineComment h.0;
      text = h.1;
      place = left_place u.rest h.0 (line_end u.rest.text) h.1;
      own = n;
      means = m;
      placed = h.2;
      followed = h.3;
      knows = λ at. same_items u.items (λ is. record (known_at at u) { items = is });
      opens = refl;
    }

said_plain : (last : ℕ) (prints : Bool) (u : State) (word : List ℕ) (o : Found) → own_in u.setting.names word ≡ None
    → keyword_named word ≡ Some (keyword.Text (quote_if prints)) → FoundPlain 34 u.rest.text o
    → plain_string 34 u.rest.text ≡ o
    → Said last u word
    (with_string u o (λ bytes t. Goes (giving (string_items (quote_if prints) bytes) t)))
said_plain last prints u word None n m h d =
    (n, no_end (keyword.Text (quote_if prints)) m (ap (λ (o : Found). Some o) (plain_there prints u.rest.text ∙ d)))
said_plain last prints u word (Some r) n m h d =
    said_unless last u word (nat_lt 255 (length r.0)) _ _
    (λ e. (
      n,
      long_string (quote_if prints) r.0 r.1 m (plain_there prints u.rest.text ∙ d) (too_long 255 (length r.0) e),
    ))
    (λ e. record {
      phrase = phrase.Text prints h.0 r.0;
      text = h.1;
      place = left_place u.rest (h.0 ∷ r.0 ++ 34 ∷ []) r.1 h.1;
      own = n;
      means = m;
      placed = (h.2, no_longer_string (length r.0) e, h.3);
      followed = tt;
      knows = λ at. refl;
      opens = refl;
    })

said_quoted : (last : ℕ) (u : State) (word : List ℕ) (o : Found) → own_in u.setting.names word ≡ None
    → keyword_named word ≡ Some (keyword.Text quote.Bytes) → FoundQuoted u.rest.text o
    → quoted_string u.rest.text ≡ o
    → Said last u word (with_string u o (λ bytes t. Goes (giving (item.Plain (string bytes) ∷ []) t)))
said_quoted last u word None n m h d =
    (n, no_end (keyword.Text quote.Bytes) m (ap (λ (o : Found). Some o) d))
said_quoted last u word (Some r) n m h d =
    said_unless last u word (nat_lt 255 (length r.0)) _ _
    (λ e. (n, long_string quote.Bytes r.0 r.1 m d (too_long 255 (length r.0) e)))
    (λ e. record {
      phrase = phrase.Quoted h.0 h.1 h.2;
      text = h.3;
      place = left_place u.rest (taken (phrase.Quoted h.0 h.1 h.2)) r.1 h.3;
      own = n;
      means = m;
      placed = (h.5, subst (λ l. length l ≤ 255) h.4 (no_longer_string (length r.0) e), h.6, h.7);
      followed = h.8;
      knows = λ at. ap (λ l. record (known_at at u) { items = u.items ++ item.Plain (string l) ∷ [] }) h.4;
      opens = refl;
    })

said_text : (last : ℕ) (q : Quote) (u : State) (word : List ℕ) → own_in u.setting.names word ≡ None
    → keyword_named word ≡ Some (keyword.Text q) → Said last u word (text_step q u)
said_text last quote.Bytes u word n m =
    said_quoted last u word (quoted_string u.rest.text) n m (quoted_found u.rest.text) refl
said_text last quote.Plain u word n m =
    said_plain last false u word (plain_string 34 u.rest.text) n m (plain_found 34 u.rest.text refl) refl
said_text last quote.Printed u word n m =
    said_plain last true u word (plain_string 34 u.rest.text) n m (plain_found 34 u.rest.text refl) refl

-- ---- what is open, by its shape

straight_shapes : (fs : List Frame) → all_definitions fs ≡ true
    → list_all (λ (p : Part × ℕ). is_same p.0 part.Definition) (shapes fs) ≡ true
straight_shapes [] h = refl
straight_shapes (f ∷ fs) h =
    let w = and_parts (is_same f.part part.Definition) _ h in
    rw w.0 (straight_shapes fs w.1)

is_zero : (n : ℕ) → nat_eq n 0 ≡ true → n ≡ 0
is_zero n h = grind (arith, nat_tests)

straight_shape : (n : Nesting) → is_straight n ≡ true → IsStraight (shape_of n)
straight_shape n h =
    let w = and_parts (nat_eq (length n.branches) 0) (all_definitions n.parts) h in
    (is_zero (length n.branches) w.0, straight_shapes n.parts w.1)

-- ---- words that take nothing

some_there : (o : Option Own) → is_some o ≡ true → (d : Own) × (o ≡ Some d)
some_there None h = absurd cc
some_there (Some d) h = (d, refl)

none_there : (o : Option Own) → is_some o ≡ false → o ≡ None
none_there None h = refl
none_there (Some d) h = absurd cc

-- where a keyword may stand, its phrase can, and elsewhere the keyword is wrong
lone_placed : (w : Lone) (u : State) (word : List ℕ) → Inv u → may_stand (effect_of w).stands u ≡ true
    → IsPlaced (known_at u.at u) word (phrase.Alone w)
lone_placed lone.Recurse u word i b = some_there u.setting.open_one b
lone_placed lone.Offset16 u word i b = (shape_of u.nesting, i, straight_shape u.nesting b)
lone_placed _ u word i b = tt

lone_wrong : (last : ℕ) (w : Lone) (u : State) (word : List ℕ) → keyword_named word ≡ Some (keyword.Lone w)
    → may_stand (effect_of w).stands u ≡ false → IsWrong last (known_at u.at u) u.nesting word u.rest (Unknown u.at)
lone_wrong last lone.Recurse u word m b = not_inside m (none_there u.setting.open_one b)
lone_wrong last lone.Offset16 u word m b = not_straight m b
lone_wrong last _ u word m b = absurd cc

said_effect : (last : ℕ) (w : Lone) (o : Option Nesting) (u : State) (word : List ℕ)
    → own_in u.setting.names word ≡ None → keyword_named word ≡ Some (keyword.Lone w) → Inv u
    → (effect_of w).opens u.at u.nesting ≡ o
    → Said last u word (effect_step (effect_of w) o u)
said_effect last w None u word n m i e = (n, no_opener w m e)
said_effect last w (Some x) u word n m i e =
    said_if last u word (may_stand (effect_of w).stands u) _ _ (λ b. (n, lone_wrong last w u word m b))
    (λ b. alone u _ word (phrase.Alone w) refl refl n m (lone_placed w u word i b) tt (λ at. refl) e)

-- ---- one word

-- a name of more than 31 bytes
named_long : (last : ℕ) (u : State) (word : List ℕ) (w : Definer) (name : List ℕ) (r : Rest) → Taken u name r
    → own_in u.setting.names word ≡ None → keyword_named word ≡ Some (keyword.Defining w)
    → in_definition u.nesting.parts ≡ false → 31 < length name → Failed last u word (TooLong (start_of u.rest))
named_long last u word w name r h n m e l = (
  n,
  subst (λ (a : ℕ). IsWrong last (known_at u.at u) u.nesting word u.rest (TooLong a)) (sym h.5)
      (long_name w (has_word u name r h) m e l),
)

said_keyword : (last : ℕ) (k : Keyword) (u : State) (word : List ℕ) → own_in u.setting.names word ≡ None
    → keyword_named word ≡ Some k → Inv u → Said last u word (keyword_step last k u)
said_keyword last keyword.Finish u word n m i = said_if last u word (is_closed u.nesting) _ (Ends u)
    (λ e. (n, left_open m e)) (λ e. (refl, n, m, e))
said_keyword last keyword.Comment u word n m i =
    said_comment last u word (plain_string 41 u.rest.text) n m (plain_found 41 u.rest.text refl) refl
said_keyword last keyword.LineComment u word n m i = said_line last u word n m
said_keyword last (keyword.NumberIn base) u word n m i =
    said_next last u word _ (next_word u.rest) _ (next_found u.rest.at u.rest.text)
    (λ c. (n, no_digits base m c)) (λ w r h. said_number last u word base w r (number_in (base_of base) w) n m h refl)
said_keyword last keyword.Character u word n m i =
    said_next last u word _ (next_word u.rest) _ (next_found u.rest.at u.rest.text)
    (λ c. (n, no_word keyword.Character m tt c)) (λ w r h. said_character last u word w r n m h)
said_keyword last (keyword.Text q) u word n m i = said_text last q u word n m
said_keyword last (keyword.Defining w) u word n m i =
    let open_now = (making_of w).opens u.at u.nesting in
    said_unless last u word (in_definition u.nesting.parts) _ _ (λ e. (n, not_outside w m e))
    (λ e. said_name last u (opening open_now u) word (next_word u.rest) _ (next_found u.rest.at u.rest.text)
    (λ c. (n, no_name w m e c)) (λ name r h l. named_long last u word w name r h n m e l)
    (λ name r h l. record {
      phrase = phrase.Defining w h.0 name;
      text = operand_text u name r h;
      place = operand_place u name r h;
      own = n;
      means = m;
      placed = (h.2, (h.3, l));
      followed = h.4;
      knows = λ at. refl;
      opens = ap (λ (b : Bool). opened_if (not b) open_now) e;
    }))
said_keyword last (keyword.Naming t) u word n m i =
    said_next last u word _ (next_word u.rest) _ (next_found u.rest.at u.rest.text)
    (λ c. (n, no_word (keyword.Naming t) m tt c))
    (λ w r h. said_naming last u word t w r (code_named u.setting.names w) n m h refl)
said_keyword last (keyword.Lone w) u word n m i = said_effect last w _ u word n m i refl

said_digits : (last : ℕ) (u : State) (word : List ℕ) (v : Number) → own_in u.setting.names word ≡ None
    → keyword_named word ≡ None
    → ordinary_named word ≡ None → number_in (base_of u.setting.radix) word ≡ v
    → Said last u word (number_word_step u v)
said_digits last u word (Value x) n m o e = alone u _ word (phrase.Number x) refl refl n m (o, e) tt (λ at. refl) refl
said_digits last u word OutOfRange n m o e = (n, out_of_range m o e)
said_digits last u word NoNumber n m o e = (n, no_meaning m o e)

said_ordinary : (last : ℕ) (u : State) (word : List ℕ) (o : Option FCode) → own_in u.setting.names word ≡ None
    → keyword_named word ≡ None → ordinary_named word ≡ o → Said last u word (ordinary_step word u o)
said_ordinary last u word (Some c) n m e = alone u _ word (phrase.BoardWord c) refl refl n m e tt (λ at. refl) refl
said_ordinary last u word None n m e = said_digits last u word (number_in (base_of u.setting.radix) word) n m e refl

said_listed : (last : ℕ) (u : State) (word : List ℕ) (o : Option Keyword) → own_in u.setting.names word ≡ None
    → keyword_named word ≡ o → Inv u → Said last u word (listed_step last word u o)
said_listed last u word (Some k) n m i = said_keyword last k u word n m i
said_listed last u word None n m i = said_ordinary last u word (ordinary_named word) n m refl

said_own : (last : ℕ) (u : State) (word : List ℕ) (o : Option ℕ) → own_in u.setting.names word ≡ o → Inv u
    → Said last u word (own_step last word u o)
said_own last u word (Some j) e i = alone u _ word (phrase.OwnWord j) refl refl e tt tt tt (λ at. refl) refl
said_own last u word None e i = said_listed last u word (keyword_named word) e refl i

pub said_word : (last : ℕ) (u : State) (word : List ℕ) → Inv u → Said last u word (word_step last word u)
unfolding word_step
said_word last u word i = said_own last u word (own_in u.setting.names word) refl i

-- ---- the next word, with the blanks before it

-- what is known at a word behind these blanks
abbrev pub known_behind : List ℕ → State → Known
known_behind blanks s = moved blanks (known_at s.rest.at s)

-- from one state to the next a phrase was said
pub record IsNext (s t : State) : Type 0 where
  pub spelled : Spelled
  pub text : s.rest.text ≡ written spelled t.rest.text
  pub said : IsSaid (known_behind spelled.blanks s) spelled t.rest.text
  pub knows : known_at t.rest.at t ≡ behind spelled.word spelled.phrase (known_behind spelled.blanks s)
  pub opens : opened spelled.phrase (known_behind spelled.blanks s).at s.nesting ≡ Some t.nesting

-- the next word ends the source
pub record IsEnd (s t : State) : Type 0 where
  pub blanks : List ℕ
  pub word : List ℕ
  pub text : s.rest.text ≡ blanks ++ (word ++ t.rest.text)
  pub between : AreBlanks blanks
  pub spelled : IsWord word
  pub ends : EndsWord t.rest.text
  pub own : own_in s.setting.names word ≡ None
  pub means : keyword_named word ≡ Some keyword.Finish
  pub closed : is_closed s.nesting ≡ true
  pub items : t.items ≡ s.items
  pub radix : t.setting.radix ≡ s.setting.radix
  pub place : t.rest.at ≡ s.rest.at + length blanks + length word

-- the next word can't stand there, or the text ends
abbrev pub IsStop : ℕ → State → SourceFault → Type 0
IsStop last s f = IsFailure last (known_at s.rest.at s) s.nesting s.rest.text f

abbrev pub SaidNext : ℕ → State → Step → Type 0
SaidNext last s (Goes t) = IsNext s t
SaidNext last s (Ends t) = IsEnd s t
SaidNext last s (Fails f) = IsStop last s f

abbrev Reads : State → List ℕ → Rest → Type 0
Reads s w r = FoundWord s.rest.at s.rest.text (start_of s.rest) (Some (w, r))

next_goes : (s : State) (w : List ℕ) (r : Rest) (t : State) → Reads s w r → Says (at_next r s) w t → IsNext s t
next_goes s w r t h g =
    let e : known_at (start_of s.rest) s ≡ known_behind h.0 s = ap (λ a. known_at a s) h.5 in
    let at : t.rest.at ≡ s.rest.at + length h.0 + length w + length (taken g.phrase) =
    g.place ∙ ap (λ a. a + length (taken g.phrase)) h.6 in
    record {
      spelled = record { blanks = h.0; word = w; phrase = g.phrase };
      text = h.1 ∙ ap (λ l. h.0 ++ (w ++ l)) g.text;
      said = record {
        blanks = h.2;
        spelled = h.3;
        ends = subst EndsWord g.text h.4;
        own = g.own;
        means = g.means;
        placed = subst (λ (k : Known). IsPlaced k w g.phrase) e g.placed;
        followed = g.followed;
      };
      knows =
          ap (λ a. known_at a t) at
          ∙ g.knows (s.rest.at + length h.0 + length w + length (taken g.phrase))
          ∙ ap (λ (k : Known). placed_at (s.rest.at + length h.0 + length w + length (taken g.phrase))
          (behind w g.phrase k)) e;
      opens = ap (λ a. opened g.phrase a s.nesting) (sym h.5) ∙ g.opens;
    }

next_ends : (s : State) (w : List ℕ) (r : Rest) (t : State) → Reads s w r → IsLast (at_next r s) w t → IsEnd s t
next_ends s w r t h g =
    let e : at_next r s ≡ t = sym g.0 in
    record {
      blanks = h.0;
      word = w;
      text = h.1 ∙ ap (λ (x : State). h.0 ++ (w ++ x.rest.text)) e;
      between = h.2;
      spelled = h.3;
      ends = subst (λ (x : State). EndsWord x.rest.text) e h.4;
      own = g.1;
      means = g.2;
      closed = g.3;
      items = ap (λ (x : State). x.items) g.0;
      radix = ap (λ (x : State). x.setting.radix) g.0;
      place = ap (λ (x : State). x.rest.at) g.0 ∙ h.6;
    }

-- the word that was read, as it stands in the text
abbrev word_of : (s : State) (w : List ℕ) (r : Rest) → Reads s w r → HasWord s.rest.text
word_of s w r h =
    record { blanks = h.0; word = w; more = r.text; text = h.1; between = h.2; spelled = h.3; ends = h.4 }

next_fails : (last : ℕ) (s : State) (w : List ℕ) (r : Rest) (f : SourceFault) → Reads s w r
    → Failed last (at_next r s) w f → IsStop last s f
next_fails last s w r f h g =
    let e : known_at (start_of s.rest) s ≡ known_behind h.0 s = ap (λ a. known_at a s) h.5 in
    let q : r ≡ rest_at (s.rest.at + length h.0 + length w) r.text = ap (λ a. rest_at a r.text) h.6 in
    let P : Known → Type 0 = λ (k : Known). IsWrong last k s.nesting w r f in
    let Q : Rest → Type 0 = λ (x : Rest). IsWrong last (known_behind h.0 s) s.nesting w x f in
    wrong f (word_of s w r h) g.0 (subst Q q (subst P e g.1))

next_said : (last : ℕ) (s : State) (w : List ℕ) (r : Rest) (x : Step) → Reads s w r → Said last (at_next r s) w x
    → SaidNext last s x
next_said last s w r (Goes t) h g = next_goes s w r t h g
next_said last s w r (Ends t) h g = next_ends s w r t h g
next_said last s w r (Fails f) h g = next_fails last s w r f h g

with_said : (last : ℕ) (s : State) (o : Option (List ℕ × Rest)) (go : List ℕ → Rest → Step)
    → FoundWord s.rest.at s.rest.text (start_of s.rest) o
    → ((w : List ℕ) (r : Rest) → Said last (at_next r s) w (go w r)) → SaidNext last s (with_next (ended last s) o go)
with_said last s None go h k = cut h
with_said last s (Some w) go h k = next_said last s w.0 w.1 (go w.0 w.1) h (k w.0 w.1)

-- each word with which a source goes on is that of a phrase, and another can't stand where it does
pub said : (last : ℕ) (s : State) → Inv s → SaidNext last s (next_step last s)
said last s i =
    with_said last s (next_word s.rest) _ (next_found s.rest.at s.rest.text)
    (λ w r. said_word last (at_next r s) w i)
