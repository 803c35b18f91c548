-- The items of a source stand at the places of their words.
use Rattle.std.proofs.Common.{◌≡◌, ℕ, zero, suc, ◌+◌, ◌-◌, ◌<◌, ◌≤◌, Bool, true, false, List, [], ◌∷◌, ◌++◌, length}
use Rattle.std.proofs.Common.{Option, Some, None, Result, Ok, Err, nat_lt, if◌then◌else◌, refl, sym, ap, subst, ◌∙◌}
use Rattle.std.proofs.Common.{arith}
use Rattle.std.proofs.lemmas.List.{length-append, append_assoc, append-nil}
use Rattle.of_fcodes.specs.declared.codes.FCode.{FCode}
use Rattle.of_stream.specs.declared.stream.OffsetSize.{OffsetSize}
use Rattle.of_scan.specs.Scan.{Rest, Found, rest_at, left_of, start_of, next_word, plain_string}
use Rattle.of_scan.specs.declared.numbers.Number.{Number}
use Rattle.of_scan.specs.declared.numbers.Number.TheVariants.{Value, OutOfRange, NoNumber}
use Rattle.of_scan.specs.Numbers.{number_in}
use Rattle.of_source.specs.declared.fault.SourceFault.{SourceFault}
use Rattle.of_source.specs.declared.fault.SourceFault.TheVariants.{Unclosed, Unknown, BadNumber, TooLong, NoMemory}
use Rattle.of_source.specs.declared.keyword.Keyword.{Keyword}
use Rattle.of_source.specs.declared.keyword.Keyword.TheVariants as keyword
use Rattle.of_source.specs.declared.keyword.Quote.{Quote}
use Rattle.of_source.specs.Radix.{base_of}
use Rattle.of_source.specs.Names.{own_in}
use Rattle.of_source.specs.Keywords.{keyword_named, ordinary_named}
use Rattle.of_source.specs.Items.{Item, Source, call, naming, own_code}
use Rattle.of_source.specs.Items as item
use Rattle.of_source.specs.Nest.{IsNested}
use Rattle.of_source.specs.Nesting.{Nesting, nothing_open, in_definition, is_closed}
use Rattle.of_source.specs.Effects.{Effect, effect_of, making_of}
use Rattle.of_source.specs.Places.{last_place}
use Rattle.of_source.specs.Steps.{State, Step, Steps, Goes, Ends, Fails, giving, opening, reading_on}
use Rattle.of_source.specs.Steps.{at_next, beginning}
use Rattle.of_source.specs.Steps.{with_next, with_name, name_found, with_string, with_code, number_or_bad, number_items}
use Rattle.of_source.specs.Steps.{number_word_step, comment_step, text_step, string_found, may_stand, effect_step}
use Rattle.of_source.specs.Steps.{keyword_step, ordinary_step, listed_step, own_step, word_step, next_step, code_named}
use Rattle.of_source.specs.Parsing.{parsed}
use Rattle.of_source.specs.Phrases.{Spelled, Beginning, Ending, Known, all_written, begun_with, behind, items_in}
use Rattle.of_source.specs.Phrases.{all_behind, each_written, end_written, items_of, moved, place_behind, taken}
use Rattle.of_source.specs.Phrases.{text_of, written}
use Rattle.of_source.specs.Positions.{ItemsHavePlaces, given_at, item_places, phrase_places, placed, places_behind}
use Rattle.of_source.specs.Positions.{places_from}
use Rattle.of_source.specs.Shapes.{nothing, run, shape_of}
use Rattle.of_source.specs.Written.{AreSaid, IsBegun}
use Rattle.of_source.proofs.AcceptedLemmas.{accepted_written}
use Rattle.of_source.proofs.Kept.{Kept, kept}
use Rattle.of_source.proofs.PhraseSteps.{state_at}
use Rattle.of_source.proofs.ReadingBack.{start_after}
use Rattle.of_source.proofs.RunLemmas.{nested_runs}
use Rattle.of_source.proofs.WrittenLemmas.{before_runs, end_goes, head_longer, said_goes, some_written}
use Rattle.of_source.proofs.WrittenLemmas.{version_first}

-- ---- behind a word its place is known

abbrev Stays : ℕ → Step → Type 0
Stays at (Goes t) = t.at ≡ at
Stays at (Ends t) = t.at ≡ at
Stays at (Fails f) = Unit {0}

stays_next : (at : ℕ) (f : SourceFault) (o : Option (List ℕ × Rest)) (go : List ℕ → Rest → Step)
    → ((w : List ℕ) (r : Rest) → Stays at (go w r)) → Stays at (with_next f o go)
stays_next at f None go k = tt
stays_next at f (Some w) go k = k w.0 w.1

stays_if : (at : ℕ) (b : Bool) (x y : Step) → Stays at x → Stays at y → Stays at (if b then x else y)
stays_if at true x y h k = h
stays_if at false x y h k = k

short_name : (at : ℕ) (b : Bool) (f : SourceFault) (name : List ℕ) (s : State) (go : List ℕ → State → Step)
    → Stays at (go name s) → Stays at (with_name (if b then Err f else Ok (name, s)) go)
short_name at true f name s go k = tt
short_name at false f name s go k = k

stays_name : (at last : ℕ) (s : State) (o : Option (List ℕ × Rest)) (go : List ℕ → State → Step)
    → ((name : List ℕ) (r : Rest) → Stays at (go name (reading_on r s))) → Stays at (with_name (name_found last s o) go)
stays_name at last s None go k = tt
stays_name at last s (Some w) go k =
    short_name at (nat_lt 31 (length w.0)) _ w.0 (reading_on w.1 s) go (k w.0 w.1)

stays_string : (at : ℕ) (s : State) (o : Found) (go : List ℕ → State → Step)
    → ((bytes : List ℕ) (r : Rest) → Stays at (go bytes (reading_on r s))) → Stays at (with_string s o go)
stays_string at s None go k = tt
stays_string at s (Some r) go k = stays_if at (nat_lt 255 (length r.0)) _ _ tt (k r.0 (left_of s.rest r.1))

stays_effect : (e : Effect) (o : Option Nesting) (s : State) → Stays s.at (effect_step e o s)
stays_effect e None s = tt
stays_effect e (Some n) s = stays_if s.at (may_stand e.stands s) _ _ refl tt

stays_comment : (s : State) (o : Found) → Stays s.at (comment_step s o)
stays_comment s None = tt
stays_comment s (Some r) = refl

stays_bad : (at : ℕ) (n : Number) (s : State)
    → Stays s.at (number_or_bad at n (λ x. Goes (giving (number_items x) s)))
stays_bad at (Value x) s = refl
stays_bad at OutOfRange s = tt
stays_bad at NoNumber s = tt

stays_code : (at : ℕ) (o : Option FCode) (t : FCode) (s : State)
    → Stays s.at (with_code at o (λ c. Goes (giving (item.Plain (naming t c) ∷ []) s)))
stays_code at None t s = tt
stays_code at (Some c) t s = refl

stays_text : (q : Quote) (s : State) → Stays s.at (text_step q s)
stays_text q s = stays_string s.at s (string_found q s.rest.text) _ (λ bytes r. refl)

stays_keyword : (last : ℕ) (k : Keyword) (s : State) → Stays s.at (keyword_step last k s)
stays_keyword last keyword.Finish s = stays_if s.at (is_closed s.nesting) _ _ refl tt
stays_keyword last keyword.Comment s = stays_comment s (plain_string 41 s.rest.text)
stays_keyword last keyword.LineComment s = refl
stays_keyword last (keyword.NumberIn base) s =
    stays_next s.at _ (next_word s.rest) _ (λ word r. stays_bad s.at (number_in (base_of base) word) (reading_on r s))
stays_keyword last keyword.Character s = stays_next s.at _ (next_word s.rest) _ (λ word r. refl)
stays_keyword last (keyword.Text q) s = stays_text q s
stays_keyword last (keyword.Defining w) s =
    stays_if s.at (in_definition s.nesting.parts) _ _ tt
    (stays_name s.at last (opening ((making_of w).opens s.at s.nesting) s) (next_word s.rest) _ (λ name r. refl))
stays_keyword last (keyword.Naming t) s =
    stays_next s.at _ (next_word s.rest) _
    (λ name r. stays_code _ (code_named s.setting.names name) t (reading_on r s))
stays_keyword last (keyword.Lone w) s = stays_effect (effect_of w) ((effect_of w).opens s.at s.nesting) s

stays_number : (s : State) (n : Number) → Stays s.at (number_word_step s n)
stays_number s (Value x) = refl
stays_number s OutOfRange = tt
stays_number s NoNumber = tt

stays_ordinary : (word : List ℕ) (s : State) (o : Option FCode) → Stays s.at (ordinary_step word s o)
stays_ordinary word s (Some c) = refl
stays_ordinary word s None = stays_number s (number_in (base_of s.setting.radix) word)

stays_listed : (last : ℕ) (word : List ℕ) (s : State) (o : Option Keyword) → Stays s.at (listed_step last word s o)
stays_listed last word s (Some k) = stays_keyword last k s
stays_listed last word s None = stays_ordinary word s (ordinary_named word)

stays_own : (last : ℕ) (word : List ℕ) (s : State) (o : Option ℕ) → Stays s.at (own_step last word s o)
stays_own last word s (Some k) = refl
stays_own last word s None = stays_listed last word s (keyword_named word)

stays_word : (last : ℕ) (word : List ℕ) (s : State) → Stays s.at (word_step last word s)
unfolding word_step
stays_word last word s = stays_own last word s (own_in s.setting.names word)

stays : (last : ℕ) (s : State) → Stays (start_of s.rest) (next_step last s)
stays last s = stays_next (start_of s.rest) _ (next_word s.rest) _ (λ word r. stays_word last word (at_next r s))

pub stood : (last : ℕ) (s t : State) → next_step last s ≡ Goes t → t.at ≡ start_of s.rest
stood last s t h = subst (λ x. Stays (start_of s.rest) x) h (stays last s)

stood_at_end : (last : ℕ) (s t : State) → next_step last s ≡ Ends t → t.at ≡ start_of s.rest
stood_at_end last s t h = subst (λ x. Stays (start_of s.rest) x) h (stays last s)

-- ---- so many at one place

one_more : (n at : ℕ) → given_at n at ++ at ∷ [] ≡ at ∷ given_at n at
one_more zero at = refl
one_more (suc n) at = ap (λ xs. at ∷ xs) (one_more n at)

pub more_given : (xs : List ℕ) (n at : ℕ) → (xs ++ given_at n at) ++ at ∷ [] ≡ xs ++ given_at (n + 1) at
more_given xs n at =
    let next : n + 1 ≡ suc n = omega arith in
    append_assoc xs (given_at n at) (at ∷ []) ∙ ap (λ ys. xs ++ ys) (one_more n at)
    ∙ ap (λ k. xs ++ given_at k at) (sym next)

given_length : (n at : ℕ) → length (given_at n at) ≡ n
given_length zero at = refl
given_length (suc n) at = ap suc (given_length n at)

-- ---- word by word

-- one more word
pub places_more : (last n i : ℕ) (s t : State) (all begun more : List ℕ) → i < n → next_step last s ≡ Goes t
    → begun ++ places_from last (n - i) s ≡ all
    → more ≡ begun ++ given_at (length t.items - length s.items) t.at
    → more ++ places_from last (n - (i + 1)) t ≡ all
places_more last n i s t all begun more less goes so_far new =
    let e : n - i ≡ suc (n - (i + 1)) = omega (arith, less) in
    let count = length t.items - length s.items in
    let here : places_from last (n - i) s
    ≡ given_at count t.at ++ places_from last (n - (i + 1)) t =
    rw (e, goes) (ap (λ at. given_at count at ++ places_from last (n - (i + 1)) t) (sym (stood last s t goes))) in
    ap (λ xs. xs ++ places_from last (n - (i + 1)) t) new
    ∙ append_assoc begun (given_at count t.at) (places_from last (n - (i + 1)) t)
    ∙ ap (λ xs. begun ++ xs) (sym here) ∙ so_far

-- no more words
pub places_none : (last n i : ℕ) (s : State) (all begun : List ℕ) → n ≤ i
    → begun ++ places_from last (n - i) s ≡ all → begun ≡ all
places_none last n i s all begun le h =
    let e : n - i ≡ 0 = omega (arith, le) in
    sym (append-nil begun) ∙ subst (λ k. begun ++ places_from last k s ≡ all) e h

-- the last word
pub places_end : (last n i : ℕ) (s t : State) (all begun more : List ℕ) → i < n → next_step last s ≡ Ends t
    → begun ++ places_from last (n - i) s ≡ all → more ≡ begun ++ t.at ∷ [] → more ≡ all
places_end last n i s t all begun more less ends so_far new =
    let e : n - i ≡ suc (n - (i + 1)) = omega (arith, less) in
    let here : placed s (next_step last s) (places_from last (n - (i + 1))) ≡ t.at ∷ [] =
    ap (λ x. placed s x (places_from last (n - (i + 1)))) ends
    ∙ ap (λ at. at ∷ []) (sym (stood_at_end last s t ends)) in
    new ∙ ap (λ xs. begun ++ xs) (sym here) ∙ subst (λ k. begun ++ places_from last k s ≡ all) e so_far

-- a word that fits nowhere
pub places_stop : (last n i : ℕ) (s : State) (f : SourceFault) (all begun : List ℕ) → i < n
    → next_step last s ≡ Fails f → begun ++ places_from last (n - i) s ≡ all → begun ≡ all
places_stop last n i s f all begun less fails h =
    let e : n - i ≡ suc (n - (i + 1)) = omega (arith, less) in
    sym (append-nil begun)
    ∙ ap (λ x. begun ++ placed s x (places_from last (n - (i + 1)))) (sym fails)
    ∙ subst (λ k. begun ++ places_from last k s ≡ all) e h

-- the same, as a loop has it, which knows the last place by an equation
pub places_more_by : (last n i l : ℕ) (s t : State) (b : Bool) (all begun more : List ℕ) (count at : ℕ) → i < n
    → l ≡ last → b ≡ true → Steps (next_step l s) t (Ok b) → begun ++ places_from last (n - i) s ≡ all
    → more ≡ begun ++ given_at count at → count ≡ length t.items - length s.items → at ≡ t.at
    → more ++ places_from last (n - (i + 1)) t ≡ all
places_more_by last n i l s t b all begun more count at less e is goes so_far new c a =
    let P : ℕ → Type 0 = λ x. Steps (next_step x s) t (Ok true) in
    let Q : Bool → Type 0 = λ x. Steps (next_step l s) t (Ok x) in
    places_more last n i s t all begun more less (subst P e (subst Q is goes)) so_far
    (new ∙ ap (λ x. begun ++ given_at x at) c ∙ ap (λ x. begun ++ given_at (length t.items - length s.items) x) a)

pub places_end_by : (last n i l : ℕ) (s t : State) (b : Bool) (all begun more : List ℕ) (at : ℕ) → i < n → l ≡ last
    → b ≡ false → Steps (next_step l s) t (Ok b) → begun ++ places_from last (n - i) s ≡ all
    → more ≡ begun ++ at ∷ [] → at ≡ t.at → more ≡ all
places_end_by last n i l s t b all begun more at less e is ends so_far new a =
    let P : ℕ → Type 0 = λ x. Steps (next_step x s) t (Ok false) in
    let Q : Bool → Type 0 = λ x. Steps (next_step l s) t (Ok x) in
    places_end last n i s t all begun more less (subst P e (subst Q is ends)) so_far
    (new ∙ ap (λ x. begun ++ x ∷ []) a)

-- a fault that isn't for memory
abbrev pub IsOfText : SourceFault → Type 0
IsOfText NoMemory = ⊥
IsOfText (Unclosed at) = Unit {0}
IsOfText (Unknown at) = Unit {0}
IsOfText (BadNumber at) = Unit {0}
IsOfText (TooLong at) = Unit {0}

pub places_stop_by : (last n i l : ℕ) (s t : State) (f : SourceFault) (all begun : List ℕ) → i < n → l ≡ last
    → Steps (next_step l s) t (Err f) → IsOfText f → begun ++ places_from last (n - i) s ≡ all → begun ≡ all
places_stop_by last n i l s t f all begun less e steps of_text =
    let P : ℕ → Type 0 = λ x. Steps (next_step x s) t (Err f) in
    places_stop last n i s f all begun less (fails f (next_step last s) t (subst P e steps) of_text)
  where
    fails : (f : SourceFault) (x : Step) (t : State) → Steps x t (Err f) → IsOfText f → x ≡ Fails f
    fails NoMemory x t h of_text = absurd of_text
    fails (Unclosed at) x t h of_text = h
    fails (Unknown at) x t h of_text = h
    fails (BadNumber at) x t h of_text = h
    fails (TooLong at) x t h of_text = h

-- ---- phrases

-- what follows the word that ends a source
abbrev trailing : Ending → List ℕ
trailing e = each_written e.comments e.more

items_added : (xs is : List Item) → length (xs ++ is) - length xs ≡ length is
items_added xs is = let l = length-append xs is in omega (arith, l)

phrases_placed : (last n : ℕ) (ps : List Spelled) (e : Ending) (at : ℕ) (k : Known) (o : Nesting)
    → length (all_written ps e) ≤ n → AreSaid ps e k → run k.items nothing ≡ Some (shape_of o)
    → run (all_behind ps k).items nothing ≡ Some nothing
    → places_from last n (state_at at (rest_at k.at (all_written ps e)) k o) ≡ phrase_places ps e k
phrases_placed last zero [] e at k o l h r c =
    let some : 0 < length e.word = h.spelled.0 in
    let a = length-append e.blanks (e.word ++ trailing e) in
    let b = length-append e.word (trailing e) in
    absurd (omega (arith, some, a, b, l))
phrases_placed last (suc n) [] e at k o l h r c =
    ap (λ x. placed (state_at at (rest_at k.at (end_written e)) k o) x (places_from last n))
    (end_goes last at e k o h r c)
    ∙ ap (λ a. a ∷ []) (start_after e.blanks k.at e.word (trailing e) h.blanks h.spelled)
phrases_placed last zero (p ∷ ps) e at k o l h r c =
    let s = some_written p (all_written ps e) h.0.spelled in
    absurd (omega (arith, s, l))
phrases_placed last (suc n) (p ∷ ps) e at k o l h r c =
    let m = moved p.blanks k in
    let b = behind p.word p.phrase m in
    let more = all_written ps e in
    let s = state_at at (rest_at k.at (written p more)) k o in
    let w = before_runs ps b nothing c in
    let g = said_goes last at p k o more w.0 h.0 r w.1 in
    let i : run b.items nothing ≡ Some (shape_of g.nesting) = subst Kept g.goes (kept last s r) in
    let some = some_written p more h.0.spelled in
    let t = state_at g.at (rest_at b.at more) b g.nesting in
    let start : start_of s.rest ≡ m.at =
    start_after p.blanks k.at p.word (taken p.phrase ++ more) h.0.blanks h.0.spelled in
    ap (λ x. placed s x (places_from last n)) g.goes
    ∙ ap (λ a. given_at (length b.items - length k.items) a ++ places_from last n t) start
    ∙ ap (λ c. given_at c m.at ++ places_from last n t) (items_added k.items (items_of p.phrase m))
    ∙ ap (λ xs. given_at (length (items_of p.phrase m)) m.at ++ xs)
    (phrases_placed last n ps e g.at b g.nesting (omega (arith, some, l)) h.1 i c)

text_placed : (z : OffsetSize) (b : Beginning) (ps : List Spelled) (e : Ending) → IsBegun z b (all_written ps e)
    → AreSaid ps e (begun_with b) → IsNested (items_in b ps)
    → item_places (text_of b ps e)
    ≡ (place_behind b.comments 0 + length b.blanks) ∷ phrase_places ps e (begun_with b)
unfolding item_places
text_placed z b ps e begun said nested =
    let text = text_of b ps e in
    let more = all_written ps e in
    let words = places_from (last_place text) (length text) (beginning (rest_at (begun_with b).at more)) in
    ap (places_behind text) (version_first z b more begun)
    ∙ ap (λ at. at ∷ words)
    (start_after b.blanks (place_behind b.comments 0) b.word more begun.blanks begun.spelled)
    ∙ ap (λ xs. (place_behind b.comments 0 + length b.blanks) ∷ xs)
    (phrases_placed (last_place text) (length text) ps e (begun_with b).at (begun_with b) nothing_open
    (head_longer b more) said refl (nested_runs (items_in b ps) nested))

-- one place an item, and one for each end
phrases_counted : (ps : List Spelled) (e : Ending) (k : Known)
    → length k.items + length (phrase_places ps e k) ≡ length (all_behind ps k).items + 1
phrases_counted [] e k = refl
phrases_counted (p ∷ ps) e k =
    let m = moved p.blanks k in
    let is = items_of p.phrase m in
    let b = behind p.word p.phrase m in
    let a = length-append k.items is in
    let g = given_length (length is) m.at in
    let l = length-append (given_at (length is) m.at) (phrase_places ps e b) in
    let rest = phrases_counted ps e b in
    omega (arith, a, g, l, rest)

places_counted : (text : List ℕ) (s : Source) → parsed text ≡ Ok s → length (item_places text) ≡ length s.items + 2
places_counted text s h =
    let w = accepted_written.accepted text s h in
    let b = w.0.beginning in
    let ps = w.0.phrases in
    let nested : IsNested (items_in b ps) = subst IsNested w.0.items w.1 in
    let same = ap (λ t. length (item_places t)) w.0.written
    ∙ ap length (text_placed s.size b ps w.0.ending w.0.begun w.0.said nested) in
    let items = ap length w.0.items in
    let counted = phrases_counted ps w.0.ending (begun_with b) in
    omega (arith, same, items, counted)

pub items_have_places : ItemsHavePlaces
items_have_places = record { written = text_placed; counted = places_counted }

-- a position so many times
pub ruleset at_one_place = (append-nil, more_given)
