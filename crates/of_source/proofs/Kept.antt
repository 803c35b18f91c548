-- What a parser holds open is what its items leave open.
use Rattle.std.proofs.Common.{◌≡◌, ℕ, zero, suc, ◌-◌, Bool, true, false, ◌&&◌, ◌||◌, List, [], ◌∷◌, ◌++◌, length, drop}
use Rattle.std.proofs.lemmas.Option.{same_Some}
use Rattle.std.proofs.Common.{Option, Some, None, Result, Ok, Err, nat_eq, nat_lt, if◌then◌else◌, refl, sym, ap, subst}
use Rattle.std.proofs.Common.{◌∙◌, arith, add-one}
use Rattle.std.specs.Prelude.{option_and_then, map}
use Rattle.std.proofs.lemmas.Bool.Decides.{nat_tests}
use Rattle.of_fcodes.specs.declared.codes.FCode.{FCode}
use Rattle.of_stream.specs.Decoding.{Token}
use Rattle.of_source.specs.declared.nesting.Part.{Part}
use Rattle.of_source.specs.declared.nesting.Part.TheVariants as part
use Rattle.of_source.specs.declared.nesting.Frame.{Frame}
use Rattle.of_scan.specs.declared.numbers.Number.{Number}
use Rattle.of_scan.specs.declared.numbers.Number.TheVariants.{Value, OutOfRange, NoNumber}
use Rattle.of_source.specs.declared.fault.SourceFault.{SourceFault}
use Rattle.of_source.specs.declared.keyword.Keyword.{Keyword}
use Rattle.of_source.specs.declared.keyword.Keyword.TheVariants as keyword
use Rattle.of_source.specs.declared.keyword.Quote.{Quote}
use Rattle.of_source.specs.declared.keyword.Quote.TheVariants as quote
use Rattle.of_scan.specs.Scan.{Rest, Found, rest_at, left_of, next_word, plain_string}
use Rattle.of_source.specs.Places.{last_place}
use Rattle.of_scan.specs.Numbers.{number_in}
use Rattle.of_source.specs.Radix.{base_of}
use Rattle.of_source.specs.Keywords.{keyword_named, ordinary_named}
use Rattle.of_source.specs.Items.{Item, Made, Source, call, string, naming, bare, own_code}
use Rattle.of_source.specs.Items as item
use Rattle.of_stream.specs.declared.stream.OffsetSize.{OffsetSize}
use Rattle.of_stream.specs.declared.stream.OffsetSize.TheVariants as size
use Rattle.of_source.specs.Nest.{Around, IsNested}
use Rattle.of_source.proofs.ShapeLemmas.{nested}
use Rattle.of_source.specs.Nesting.{Nesting, is_same, floor, is_in, without_branch, without_begin, without_part}
use Rattle.of_source.specs.Nesting.{with_branch, with_part, in_definition, in_loop, on_case, is_closed}
use Rattle.of_source.specs.Shapes.{Shape, nothing, floor_of, around_part, around_of, is_even, closing, opens, run}
use Rattle.of_source.specs.Shapes.{shape_of}
use Rattle.of_source.specs.declared.keyword.Definer.{Definer}
use Rattle.of_source.specs.declared.keyword.Definer.TheVariants as definer
use Rattle.of_source.specs.declared.keyword.Lone.{Lone}
use Rattle.of_source.specs.declared.keyword.Lone.TheVariants as lone
use Rattle.of_source.specs.Names.{Own, own_in}
use Rattle.of_source.specs.Effects.{Effect, effect_of, recursion, making_of}
use Rattle.of_source.specs.Steps.{effect_step, may_stand, string_found, string_items}
use Rattle.of_source.specs.Steps.{State, Step, Goes, Ends, Fails, giving, opening, reading_on, at_next, with_next}
use Rattle.of_source.specs.Steps.{with_name, name_found, with_string, number_or_bad}
use Rattle.of_source.specs.Steps.{number_word_step, number_items, number_token, comment_step, with_code}
use Rattle.of_source.specs.Steps.{text_step, keyword_step, ordinary_step, listed_step, own_step, word_step, next_step}
use Rattle.of_source.specs.Nesting.{then_without_branch, then_with_branch, opened_if}
use Rattle.of_source.specs.Steps.{code_named}
use Rattle.of_source.specs.Parsing.{Beyond, Word}
use Rattle.of_source.specs.Steps.{beginning}
use Rattle.of_source.specs.Parsing.{Nothing, Bad, trailed, beyond, stepped, words, begun, misplaced, parsed}
use Rattle.of_source.specs.Effects.{made}

abbrev pub Inv : State → Type 0
Inv s = run s.items nothing ≡ Some (shape_of s.nesting)

abbrev pub Kept : Step → Type 0
Kept (Goes t) = Inv t
Kept (Ends t) = run t.items nothing ≡ Some nothing
Kept (Fails f) = Unit {0}

chained : (xs ys : List Item) → ((o : Shape) → run (xs ++ ys) o ≡ option_and_then (run ys) (run xs o))
    → (r : Option Shape)
    → option_and_then (run (xs ++ ys)) r ≡ option_and_then (run ys) (option_and_then (run xs) r)
chained xs ys k None = refl
chained xs ys k (Some o) = k o

-- items, and then others
pub run-append : (xs ys : List Item) (o : Shape) → run (xs ++ ys) o ≡ option_and_then (run ys) (run xs o)
run-append [] ys o = refl
run-append (x ∷ xs) ys o = chained xs ys (run-append xs ys) (opens x o)

-- more items, with what they leave open
given : (more : List Item) (s : State) (n : Nesting) → Inv s → run more (shape_of s.nesting) ≡ Some (shape_of n)
    → Inv (giving more (opening n s))
given more s n h e = run-append s.items more nothing ∙ ap (option_and_then (run more)) h ∙ e

plain : (t : Token) (s : State) → Inv s → Inv (giving (item.Plain t ∷ []) s)
plain t s h = given (item.Plain t ∷ []) s s.nesting h refl

pub plain_two : (t u : Token) (s : State) → Inv s → Inv (giving (item.Plain t ∷ item.Plain u ∷ []) s)
plain_two t u s h = given (item.Plain t ∷ item.Plain u ∷ []) s s.nesting h refl

pub kept_next : (f : SourceFault) (o : Option (List ℕ × Rest)) (go : List ℕ → Rest → Step)
    → ((w : List ℕ) (r : Rest) → Kept (go w r)) → Kept (with_next f o go)
kept_next f None go k = tt
kept_next f (Some w) go k = k w.0 w.1

pub kept_unless : (b : Bool) (f : SourceFault) (x : Step) → (b ≡ false → Kept x) → Kept (if b then Fails f else x)
kept_unless true f x k = tt
kept_unless false f x k = k refl

kept_if : (b : Bool) (f : SourceFault) (x : Step) → (b ≡ true → Kept x) → Kept (if b then x else Fails f)
kept_if true f x k = k refl
kept_if false f x k = tt

short_name : (b : Bool) (f : SourceFault) (name : List ℕ) (s : State) (go : List ℕ → State → Step) → Kept (go name s)
    → Kept (with_name (if b then Err f else Ok (name, s)) go)
short_name true f name s go k = tt
short_name false f name s go k = k

pub kept_name : (last : ℕ) (s : State) (o : Option (List ℕ × Rest)) (go : List ℕ → State → Step)
    → ((name : List ℕ) (r : Rest) → Kept (go name (reading_on r s))) → Kept (with_name (name_found last s o) go)
kept_name last s None go k = tt
kept_name last s (Some w) go k = short_name (nat_lt 31 (length w.0)) _ w.0 (reading_on w.1 s) go (k w.0 w.1)

pub kept_string : (s : State) (o : Found) (go : List ℕ → State → Step)
    → ((bytes : List ℕ) (r : Rest) → Kept (go bytes (reading_on r s))) → Kept (with_string s o go)
kept_string s None go k = tt
kept_string s (Some r) go k = kept_unless (nat_lt 255 (length r.0)) _ _ (λ e. k r.0 (left_of s.rest r.1))

-- ---- what is open, by its shape

def_part : (k : Part) (a : Around) → (around_part k a).defines ≡ (is_same k part.Definition || a.defines)
def_part part.Definition a = refl
def_part part.Begin a = refl
def_part part.Do a = refl
def_part part.Case a = refl
def_part part.Of a = refl

loop_part : (k : Part) (a : Around)
    → (around_part k a).loops
    ≡ (if is_same k part.Do then true else if is_same k part.Definition then false else a.loops)
loop_part part.Definition a = refl
loop_part part.Begin a = refl
loop_part part.Do a = refl
loop_part part.Case a = refl
loop_part part.Of a = refl

case_part : (k : Part) (a : Around) → (around_part k a).cases ≡ is_same k part.Case
case_part part.Definition a = refl
case_part part.Begin a = refl
case_part part.Do a = refl
case_part part.Case a = refl
case_part part.Of a = refl

abbrev pub shapes : List Frame → List (Part × ℕ)
shapes fs = map (λ (f : Frame). (f.part, f.beneath)) fs

pub defines-shapes : (fs : List Frame) → (around_of (shapes fs)).defines ≡ in_definition fs
defines-shapes [] = refl
defines-shapes (f ∷ fs) = def_part f.part (around_of (shapes fs))
    ∙ ap (λ b. is_same f.part part.Definition || b) (defines-shapes fs)

pub loops-shapes : (fs : List Frame) → (around_of (shapes fs)).loops ≡ in_loop fs
loops-shapes [] = refl
loops-shapes (f ∷ fs) = loop_part f.part (around_of (shapes fs))
    ∙ ap (λ (b : Bool). if is_same f.part part.Do then true else if is_same f.part part.Definition then false else b)
    (loops-shapes fs)

pub cases-shapes : (fs : List Frame) → (around_of (shapes fs)).cases ≡ is_in part.Case fs
cases-shapes [] = refl
cases-shapes (f ∷ fs) = case_part f.part (around_of (shapes fs))

pub floor-shapes : (fs : List Frame) → floor_of (shapes fs) ≡ floor fs
floor-shapes [] = refl
floor-shapes (f ∷ fs) = refl

if_some : (b : Bool) (x n : Nesting) → (if b then Some x else None) ≡ Some n → (b ≡ true) × (x ≡ n)
if_some true x n h = (refl, cc)
if_some false x n h = absurd cc

less_one : (bs : List ℕ) → length bs - 1 ≡ length (drop 1 bs)
less_one [] = refl
less_one (b ∷ bs) = omega arith

pub one_more : (l : ℕ) (n : Nesting) → run (item.If l ∷ []) (shape_of n) ≡ Some (shape_of (with_branch l n))
one_more l n = ap (λ (k : ℕ). let o : Shape =
    record { count = k; parts = shapes n.parts } in Some o) (add-one (length n.branches))

-- the latest branch closes
branch_closed : (m n : Nesting) → without_branch m ≡ Some n
    → (nat_lt (floor_of (shapes m.parts)) (length m.branches) ≡ true)
    × (shape_of n ≡ record { count = length m.branches - 1; parts = shapes m.parts })
branch_closed m n h =
    let w = if_some (nat_lt (floor m.parts) (length m.branches)) (record {
      branches = drop 1 m.branches;
      parts =
          m.parts;
    }) n h in (
      ap (λ k. nat_lt k (length m.branches)) (floor-shapes m.parts) ∙ w.0,
      ap shape_of (sym w.1)
          ∙ ap (λ (k : ℕ). let o : Shape =
          record { count = k; parts = shapes m.parts } in o) (sym (less_one m.branches)),
    )

pub then_closed : (m n : Nesting) → without_branch m ≡ Some n → run (item.Then ∷ []) (shape_of m) ≡ Some (shape_of n)
then_closed m n h =
    let w = branch_closed m n h in
    rw w.0 (ap (λ (o : Shape). Some o) (sym w.1))

-- ---- parts

pub part_at : (k : Part) (bs : List ℕ) (fs : List Frame) (n : Nesting) → ((b c : ℕ) → is_even k b c ≡ nat_eq b c)
    → without_part k (record { branches = bs; parts = fs }) ≡ Some n
    → closing k (length bs) (shapes fs) ≡ Some (shape_of n)
part_at k bs [] n e h = absurd cc
part_at k bs (f ∷ fs) n e h =
    let m : Nesting = record { branches = bs; parts = fs } in
    let w = if_some (is_same f.part k && nat_eq f.beneath (length bs)) m n h in
    rw (e, w.0) (ap (λ (x : Nesting). Some (shape_of x)) w.1)

pub begin_at : (bs : List ℕ) (fs : List Frame) (n : Nesting)
    → without_begin (record { branches = bs; parts = fs }) ≡ Some n
    → closing part.Begin (length bs) (shapes fs) ≡ Some (shape_of n)
begin_at bs [] n h = absurd cc
begin_at bs (f ∷ fs) n h =
    let m : Nesting = record { branches = bs; parts = fs } in
    let w = if_some (is_same f.part part.Begin) m n h in
    rw w.0 (ap (λ (x : Nesting). Some (shape_of x)) w.1)

pub repeat_at : (l : ℕ) (m n : Nesting) (o : Option Nesting) → without_begin m ≡ o → then_without_branch o ≡ Some n
    → run (item.Back false l ∷ item.Then ∷ []) (shape_of m) ≡ Some (shape_of n)
repeat_at l m n None e h = absurd cc
repeat_at l m n (Some x) e h = ap (option_and_then (run (item.Then ∷ []))) (begin_at m.branches m.parts x e)
    ∙ then_closed x n h

no_less : (f : ℕ) → nat_lt f 0 ≡ true → ⊥
no_less f h = grind (arith, nat_tests)

else_at : (l : ℕ) (bs : List ℕ) (fs : List Frame) (x : Nesting)
    → without_branch (record { branches = bs; parts = fs }) ≡ Some x
    → run (item.Else l ∷ []) (shape_of (record { branches = bs; parts = fs })) ≡ Some (shape_of (with_branch l x))
else_at l [] fs x h =
    let m : Nesting = record { branches = []; parts = fs } in
    let w = if_some (nat_lt (floor fs) 0) m x h in
    absurd (no_less (floor fs) w.0)
else_at l (b ∷ bs) fs x h =
    let m : Nesting = record { branches = bs; parts = fs } in
    let w = if_some (nat_lt (floor fs) (length (b ∷ bs))) m x h in
    let t : nat_lt (floor_of (shapes fs)) (length (b ∷ bs)) ≡ true =
    ap (λ k. nat_lt k (length (b ∷ bs))) (floor-shapes fs) ∙ w.0 in
    rw t (ap (λ (y : Nesting). Some (shape_of (with_branch l y))) w.1)

pub else_closed : (l : ℕ) (m n : Nesting) (o : Option Nesting) → without_branch m ≡ o → then_with_branch l o ≡ Some n
    → run (item.Else l ∷ []) (shape_of m) ≡ Some (shape_of n)
else_closed l m n None e h = absurd cc
else_closed l m n (Some x) e h =
    let q : with_branch l x ≡ n = cc in
    else_at l m.branches m.parts x e ∙ ap (λ (y : Nesting). Some (shape_of y)) q

pub leave_at : (m n : Nesting) → opened_if (in_loop m.parts) m ≡ Some n
    → run (item.Leave ∷ []) (shape_of m) ≡ Some (shape_of n)
leave_at m n h =
    let w = if_some (in_loop m.parts) m n h in
    let t : (around_of (shapes m.parts)).loops ≡ true = loops-shapes m.parts ∙ w.0 in
    rw t (ap (λ (y : Nesting). Some (shape_of y)) w.1)

pub of_at : (l : ℕ) (m n : Nesting) → opened_if (on_case m) (with_part part.Of l m) ≡ Some n
    → run (item.Of l ∷ []) (shape_of m) ≡ Some (shape_of n)
of_at l m n h =
    let w = if_some (on_case m) (with_part part.Of l m) n h in
    let a : (around_of (shapes m.parts)).cases ≡ is_in part.Case m.parts = cases-shapes m.parts in
    let b : floor_of (shapes m.parts) ≡ floor m.parts = floor-shapes m.parts in
    let t : ((around_of (shapes m.parts)).cases && nat_eq (floor_of (shapes m.parts)) (length m.branches)) ≡ true =
    rw (a, b) w.0 in
    rw t (ap (λ (y : Nesting). Some (shape_of y)) w.1)

pub pushes : (i : Item) (m x n : Nesting) → run (i ∷ []) (shape_of m) ≡ Some (shape_of x) → Some x ≡ Some n
    → run (i ∷ []) (shape_of m) ≡ Some (shape_of n)
pushes i m x n e h = e ∙ ap (λ (y : Nesting). Some (shape_of y)) (same_Some x n h)

pub shape_same : (m n : Nesting) → Some m ≡ Some n → Some (shape_of m) ≡ Some (shape_of n)
shape_same m n h = ap (λ (x : Nesting). Some (shape_of x)) (same_Some m n h)

recursion_runs : (o : Option Own) (s : Shape) → run (recursion o) s ≡ Some s
recursion_runs None s = refl
recursion_runs (Some d) s = refl

closed : (k : Part) (m n : Nesting) → ((b c : ℕ) → is_even k b c ≡ nat_eq b c) → without_part k m ≡ Some n
    → option_and_then (run []) (closing k (length m.branches) (shapes m.parts)) ≡ Some (shape_of n)
closed k m n e h = ap (option_and_then (run [])) (part_at k m.branches m.parts n e h)

-- the items of a keyword that takes nothing leave open what it leaves open
pub effect_runs : (w : Lone) (at : ℕ) (one : Option Own) (m n : Nesting) → (effect_of w).opens at m ≡ Some n
    → run ((effect_of w).gives at one) (shape_of m) ≡ Some (shape_of n)
effect_runs lone.Recurse at one m n h = recursion_runs one (shape_of m) ∙ shape_same m n h
effect_runs lone.Semicolon at one m n h = closed part.Definition m n (λ b c. refl) h
effect_runs lone.If at one m n h = pushes (item.If at) m (with_branch at m) n (one_more at m) h
effect_runs lone.Else at one m n h = else_closed at m n (without_branch m) refl h
effect_runs lone.Then at one m n h = then_closed m n h
effect_runs lone.Begin at one m n h = pushes item.Begin m (with_part part.Begin at m) n refl h
effect_runs (lone.Back z) at one m n h = ap (option_and_then (run [])) (begin_at m.branches m.parts n h)
effect_runs lone.Repeat at one m n h = repeat_at at m n (without_begin m) refl h
effect_runs (lone.Do q) at one m n h = pushes (item.Do q at) m (with_part part.Do at m) n refl h
effect_runs (lone.Loop q) at one m n h = closed part.Do m n (λ b c. refl) h
effect_runs lone.Leave at one m n h = leave_at m n h
effect_runs lone.Case at one m n h = pushes item.Case m (with_part part.Case at m) n refl h
effect_runs lone.Of at one m n h = of_at at m n h
effect_runs lone.EndOf at one m n h = closed part.Of m n (λ b c. refl) h
effect_runs lone.EndCase at one m n h = closed part.Case m n (λ b c. refl) h
effect_runs _ at one m n h = shape_same m n h

-- ---- words

kept_effect : (e : Effect) (o : Option Nesting) (s : State) → Inv s
    → ((n : Nesting) → o ≡ Some n → run (e.gives s.at s.setting.open_one) (shape_of s.nesting) ≡ Some (shape_of n))
    → Kept (effect_step e o s)
kept_effect e None s h k = tt
kept_effect e (Some n) s h k =
    kept_if (may_stand e.stands s) _ _ (λ b. given (e.gives s.at s.setting.open_one) s n h (k n refl))

kept_comment : (s : State) (o : Found) → Inv s → Kept (comment_step s o)
kept_comment s None h = tt
kept_comment s (Some r) h = h

kept_bad : (at : ℕ) (n : Number) (s : State) → Inv s
    → Kept (number_or_bad at n (λ x. Goes (giving (number_items x) s)))
kept_bad at (Value x) s h = plain (number_token x) s h
kept_bad at OutOfRange s h = tt
kept_bad at NoNumber s h = tt

kept_code : (at : ℕ) (o : Option FCode) (t : FCode) (s : State) → Inv s
    → Kept (with_code at o (λ c. Goes (giving (item.Plain (naming t c) ∷ []) s)))
kept_code at None t s h = tt
kept_code at (Some c) t s h = plain (naming t c) s h

strings_run : (q : Quote) (bytes : List ℕ) (o : Shape) → run (string_items q bytes) o ≡ Some o
strings_run quote.Bytes bytes o = refl
strings_run quote.Plain bytes o = refl
strings_run quote.Printed bytes o = refl

kept_text : (q : Quote) (s : State) → Inv s → Kept (text_step q s)
kept_text q s h =
    kept_string s (string_found q s.rest.text) _
    (λ bytes r. given (string_items q bytes) (reading_on r s) s.nesting h (strings_run q bytes (shape_of s.nesting)))

closed_shape : (bs : List ℕ) (fs : List Frame) → (nat_eq (length bs) 0 && nat_eq (length fs) 0) ≡ true
    → shape_of (record { branches = bs; parts = fs }) ≡ nothing
closed_shape [] [] h = refl
closed_shape (b ∷ bs) fs h = absurd (grind (arith, nat_tests))
closed_shape [] (f ∷ fs) h = absurd (grind (arith, nat_tests))

kept_finish : (b : Bool) (s : State) (f : SourceFault) → Inv s → (b ≡ true → shape_of s.nesting ≡ nothing)
    → Kept (if b then Ends s else Fails f)
kept_finish true s f h k = h ∙ ap (λ (o : Shape). Some o) (k refl)
kept_finish false s f h k = tt

-- a defining word's item leaves open what the word does
pub making_runs : (w : Definer) (l : ℕ) (m : Nesting) (d : Made) → in_definition m.parts ≡ false
    → run ((making_of w).gives d ∷ []) (shape_of m) ≡ Some (shape_of ((making_of w).opens l m))
making_runs definer.Colon l m d e =
    let o : (around_of (shapes m.parts)).defines ≡ false = defines-shapes m.parts ∙ e in
    rw o refl
making_runs (definer.Other t) l m d e =
    let o : (around_of (shapes m.parts)).defines ≡ false = defines-shapes m.parts ∙ e in
    rw o refl

kept_keyword : (last : ℕ) (k : Keyword) (s : State) → Inv s → Kept (keyword_step last k s)
kept_keyword last keyword.Finish s h =
    kept_finish (is_closed s.nesting) s _ h (closed_shape s.nesting.branches s.nesting.parts)
kept_keyword last keyword.Comment s h = kept_comment s (plain_string 41 s.rest.text) h
kept_keyword last keyword.LineComment s h = h
kept_keyword last (keyword.NumberIn base) s h =
    kept_next _ (next_word s.rest) _ (λ word r. kept_bad s.at (number_in (base_of base) word) (reading_on r s) h)
kept_keyword last keyword.Character s h = kept_next _ (next_word s.rest) _ (λ word r. plain _ (reading_on r s) h)
kept_keyword last (keyword.Text q) s h = kept_text q s h
kept_keyword last (keyword.Defining w) s h =
    let n = (making_of w).opens s.at s.nesting in
    kept_unless (in_definition s.nesting.parts) _ _
    (λ e. kept_name last (opening n s) (next_word s.rest) _
    (λ name r. given _ (reading_on r s) n h (making_runs w s.at s.nesting (made name s.setting) e)))
kept_keyword last (keyword.Naming t) s h =
    kept_next _ (next_word s.rest) _ (λ name r. kept_code _ (code_named s.setting.names name) t (reading_on r s) h)
kept_keyword last (keyword.Lone w) s h =
    kept_effect (effect_of w) ((effect_of w).opens s.at s.nesting) s h (effect_runs w s.at s.setting.open_one s.nesting)

kept_number : (s : State) (n : Number) → Inv s → Kept (number_word_step s n)
kept_number s (Value x) h = plain (number_token x) s h
kept_number s OutOfRange h = tt
kept_number s NoNumber h = tt

kept_ordinary : (word : List ℕ) (s : State) (o : Option FCode) → Inv s → Kept (ordinary_step word s o)
kept_ordinary word s (Some c) h = plain (call c) s h
kept_ordinary word s None h = kept_number s (number_in (base_of s.setting.radix) word) h

kept_listed : (last : ℕ) (word : List ℕ) (s : State) (o : Option Keyword) → Inv s → Kept (listed_step last word s o)
kept_listed last word s (Some k) h = kept_keyword last k s h
kept_listed last word s None h = kept_ordinary word s (ordinary_named word) h

kept_own : (last : ℕ) (word : List ℕ) (s : State) (o : Option ℕ) → Inv s → Kept (own_step last word s o)
kept_own last word s (Some k) h = plain (call (own_code k)) s h
kept_own last word s None h = kept_listed last word s (keyword_named word) h

kept_word : (last : ℕ) (word : List ℕ) (s : State) → Inv s → Kept (word_step last word s)
unfolding word_step
kept_word last word s h = kept_own last word s (own_in s.setting.names word) h

-- each word keeps it
pub kept : (last : ℕ) (s : State) → Inv s → Kept (next_step last s)
kept last s h = kept_next _ (next_word s.rest) _ (λ word r. kept_word last word (at_next r s) h)

-- ---- a whole text

accepted_beyond : (z : OffsetSize) (t : State) (b : Beyond) (src : Source) → run t.items nothing ≡ Some nothing
    → trailed z t b ≡ Ok src → run src.items nothing ≡ Some nothing
accepted_beyond z t Nothing src k h =
    let e : t.items ≡ src.items = ap (λ (x : Source). x.items) (ok_is (record { size = z; items = t.items }) src h) in
    let P : List Item → Type 0 = λ is. run is nothing ≡ Some nothing in
    subst P e k
  where
    ok_is : (x y : Source) → (let r : Result Source SourceFault = Ok x in r) ≡ Ok y → x ≡ y
    ok_is x y h = cc
accepted_beyond z t (Bad l) src k h = absurd cc
accepted_beyond z t (Word at w r) src k h = absurd cc

accepted_step : (text : List ℕ) (z : OffsetSize) (st : Step) (next : State → Result Source SourceFault) (src : Source)
    → Kept st
    → ((t : State) → Inv t → next t ≡ Ok src → run src.items nothing ≡ Some nothing) → stepped text z st next ≡ Ok src
    → run src.items nothing ≡ Some nothing
accepted_step text z (Goes t) next src k ih h = ih t k h
accepted_step text z (Ends t) next src k ih h = accepted_beyond z t (beyond (length text) t.rest) src k h
accepted_step text z (Fails f) next src k ih h = absurd cc

accepted_words : (text : List ℕ) (z : OffsetSize) (n : ℕ) (s : State) (src : Source) → Inv s
    → words text z n s ≡ Ok src → run src.items nothing ≡ Some nothing
accepted_words text z zero s src k h = absurd cc
accepted_words text z (suc n) s src k h =
    accepted_step text z (next_step (last_place text) s) (words text z n) src (kept (last_place text) s k)
    (λ t i e. accepted_words text z n t src i e) h

accepted_if : (b : Bool) (x y : Result Source SourceFault) (src : Source)
    → (x ≡ Ok src → run src.items nothing ≡ Some nothing) → (y ≡ Ok src → run src.items nothing ≡ Some nothing)
    → (if b then x else y) ≡ Ok src → run src.items nothing ≡ Some nothing
accepted_if true x y src f g h = f h
accepted_if false x y src f g h = g h

no_source : (f : SourceFault) (src : Source) → (let r : Result Source SourceFault = Err f in r) ≡ Ok src
    → run src.items nothing ≡ Some nothing
no_source f src h = absurd cc

accepted_begun : (text : List ℕ) (b : Beyond) (src : Source) → begun text b ≡ Ok src
    → run src.items nothing ≡ Some nothing
accepted_begun text Nothing src h = absurd cc
accepted_begun text (Bad l) src h = absurd cc
accepted_begun text (Word at w r) src h =
    accepted_if _ _ _ src (accepted_words text size.Two (length text) (beginning r) src refl)
    (accepted_if _ _ _ src (accepted_words text size.One (length text) (beginning r) src refl)
    (no_source (misplaced at 16 w) src)) h

-- an accepted source's items are those of a whole nest
pub parsed_nested : (text : List ℕ) (src : Source) → parsed text ≡ Ok src → IsNested src.items
unfolding parsed
parsed_nested text src h = nested src.items (accepted_begun text (beyond (length text) (rest_at 0 text)) src h)
