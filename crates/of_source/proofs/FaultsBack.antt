-- A text with a fault of these is refused for it.
use Rattle.std.proofs.Common.{◌≡◌, ◌≢◌, ℕ, zero, suc, ◌+◌, ◌<◌, ◌≤◌, Bool, true, false, not, ◌||◌}
use Rattle.std.proofs.lemmas.Option.{same_Some}
use Rattle.std.proofs.Common.{List, [], ◌∷◌, ◌++◌, length, codes, Option, Some, None, Result, Err, nat_lt}
use Rattle.std.proofs.Common.{if◌then◌else◌, refl, sym, ap, subst, ◌∙◌, arith}
use Rattle.std.specs.Prelude.{option_and_then, is_some}
use Rattle.std.proofs.lemmas.Bool.Decides.{nat_tests}
use Rattle.std.proofs.lemmas.List.{length-append}
use Rattle.of_cells.specs.declared.cells.Cell.{Cell}
use Rattle.of_fcodes.specs.declared.codes.FCode.{FCode}
use Rattle.of_stream.specs.declared.stream.OffsetSize.{OffsetSize}
use Rattle.of_stream.specs.declared.stream.OffsetSize.TheVariants as size
use Rattle.of_source.specs.declared.fault.SourceFault.{SourceFault}
use Rattle.of_source.specs.declared.fault.SourceFault.TheVariants.{Unclosed, Unknown, BadNumber, TooLong}
use Rattle.of_source.specs.declared.keyword.Definer.{Definer}
use Rattle.of_source.specs.declared.keyword.Keyword.{Keyword}
use Rattle.of_source.specs.declared.keyword.Keyword.TheVariants as keyword
use Rattle.of_scan.specs.declared.numbers.Number.{Number}
use Rattle.of_scan.specs.declared.numbers.Number.TheVariants.{Value, OutOfRange, NoNumber}
use Rattle.of_source.specs.Keywords.{keyword_named}
use Rattle.of_source.specs.Names.{own_in}
use Rattle.of_scan.specs.Numbers.{number_in}
use Rattle.of_source.specs.Radix.{base_of}
use Rattle.of_source.specs.Items.{Source}
use Rattle.of_source.specs.Nesting.{Nesting, nothing_open}
use Rattle.of_source.specs.Nesting.{opened_if, in_definition}
use Rattle.of_source.specs.Nesting.{is_straight, is_closed, first_open}
use Rattle.of_source.specs.Shapes.{nothing, run, shape_of}
use Rattle.of_scan.specs.Scan.{Rest, rest_at, start_of, next_word, Found, plain_string}
use Rattle.of_source.specs.Places.{last_place}
use Rattle.of_source.specs.Steps.{State, Step, Goes, Ends, Fails, beginning, ended, with_next, with_name, name_found}
use Rattle.of_source.specs.Steps.{with_string, with_code, effect_step, number_or_bad, comment_step, code_named}
use Rattle.of_source.specs.Steps.{opening, keyword_step, number_word_step, ordinary_step, word_step}
use Rattle.of_source.specs.Steps.{next_step}
use Rattle.of_source.specs.Parsing.{Beyond, Word, Nothing, Bad, is_word, beyond, beyond_word, skipped_comment, trailed}
use Rattle.of_source.specs.Parsing.{begun, misplaced, parsed}
use Rattle.of_source.specs.Order.{behind_word, behind_words, outcome_at, IsDecided}
use Rattle.of_source.specs.Phrases.{Phrase, Spelled, Beginning, Known, written, each_written, version_word, taken}
use Rattle.of_source.specs.Phrases.{items_of, moved, behind, all_behind, place_behind, begun_with}
use Rattle.of_source.specs.Effects.{effect_of, making_of}
use Rattle.of_source.specs.Phrases as phrase
use Rattle.of_scan.specs.Words.{AreBlanks}
use Rattle.of_source.specs.Written.{own_of, IsKeyword, IsSaid, AreRemarks, IsBegun}
use Rattle.of_source.specs.Faults.{opened, all_opened, HasWord, TakesWord}
use Rattle.of_source.specs.Faults.{string_behind, IsWrong, no_opener, left_open, no_word, no_name, no_digits}
use Rattle.of_source.specs.Faults.{bad_digits, long_name, long_string, no_end, no_code, not_outside, not_inside}
use Rattle.of_source.specs.Faults.{not_straight, out_of_range, no_meaning, IsAstray, open_comment, another, IsFailure}
use Rattle.of_source.specs.Faults.{cut, wrong, late, AllSaid, begins_source, IsFault, no_source, no_beginning, failure}
use Rattle.of_source.proofs.Kept.{Inv, Kept, kept, run-append, making_runs, shape_same}
use Rattle.of_source.proofs.Kept.{effect_runs}
use Rattle.of_source.proofs.Deciding.{first_word_decides, decided-version1, decided-version2}
use Rattle.of_source.proofs.ReadingBack.{ends_part, word_after, start_after, no_word_after}
use Rattle.of_source.proofs.PhraseSteps.{state_at, keyed}
use Rattle.of_source.proofs.SaidSteps.{Says, Said, said_word}
use Rattle.of_source.proofs.WrittenLemmas.{read_word, said_goes, remarks_passed, nothing_beyond}
use Rattle.of_source.proofs.WrittenLemmas.{headed, head_at, head_longer, version_first, some_written}
use Rattle.of_source.specs.Effects.{making_of}
use Rattle.of_source.specs.Effects.{made}

-- ---- what is open behind a phrase, by its word

-- the same, by its keyword
abbrev opened_by : Option Keyword → ℕ → Nesting → Option Nesting
opened_by (Some (keyword.Defining w)) at n = opened_if (not (in_definition n.parts)) ((making_of w).opens at n)
opened_by (Some (keyword.Lone w)) at n = (effect_of w).opens at n
opened_by _ at n = Some n

-- an own name opens nothing
abbrev opened_as : Option ℕ → Option Keyword → ℕ → Nesting → Option Nesting
opened_as (Some j) key at n = Some n
opened_as None key at n = opened_by key at n

-- the word of a phrase that is no own name
listed_opens : (word : List ℕ) (o : Option ℕ) (key : Option Keyword) (at : ℕ) (n : Nesting) → o ≡ None
    → keyword_named word ≡ key → opened_by key at n ≡ opened_as o (keyword_named word) at n
listed_opens word o key at n e m =
    ap (λ c. opened_by c at n) (sym m) ∙ ap (λ c. opened_as c (keyword_named word) at n) (sym e)

opened_word : (p : Phrase) (word : List ℕ) (o : Option ℕ) (at : ℕ) (n : Nesting) → o ≡ own_of p → IsKeyword word p
    → opened p at n ≡ opened_as o (keyword_named word) at n
opened_word (phrase.OwnWord j) word o at n e m = ap (λ c. opened_as c (keyword_named word) at n) (sym e)
opened_word _ word o at n e m = listed_opens word o _ at n e m

open_when : (b : Bool) (x m : Nesting) → opened_if b x ≡ Some m → (b ≡ true) × (x ≡ m)
open_when true x m h = (refl, same_Some x m h)
open_when false x m h = absurd cc

not_so : (b : Bool) → not b ≡ true → b ≡ false
not_so true h = absurd cc
not_so false h = refl

-- the items of a phrase leave open what it leaves open
pub opened_runs : (p : Phrase) (k : Known) (n m : Nesting) → opened p k.at n ≡ Some m
    → run (items_of p k) (shape_of n) ≡ Some (shape_of m)
opened_runs (phrase.Defining d blanks name) k n m h =
    let w = open_when (not (in_definition n.parts)) ((making_of d).opens k.at n) m h in
    making_runs d k.at n (made name k.setting) (not_so (in_definition n.parts) w.0)
    ∙ ap (λ (y : Nesting). Some (shape_of y)) w.1
opened_runs (phrase.Alone w) k n m h = effect_runs w k.at k.setting.open_one n m h
opened_runs (phrase.Text false b bytes) k n m h = shape_same n m h
opened_runs (phrase.Text true b bytes) k n m h = shape_same n m h
opened_runs _ k n m h = shape_same n m h

-- ---- a phrase that fits

-- the source goes on behind a phrase, with this open
record Fits (last at : ℕ) (p : Spelled) (k : Known) (n m : Nesting) (more : List ℕ) : Type 0 where
  place : ℕ
  goes : next_step last (state_at at (rest_at k.at (written p more)) k n)
      ≡ Goes (state_at place (rest_at (behind p.word p.phrase (moved p.blanks k)).at more)
      (behind p.word p.phrase (moved p.blanks k)) m)

same_nesting : (last : ℕ) (u t : State) (word : List ℕ) (p : Phrase) (m : Nesting) → Inv u
    → word_step last word u ≡ Goes t → own_in u.setting.names word ≡ own_of p → IsKeyword word p
    → opened p u.at u.nesting ≡ Some m → t.nesting ≡ m
same_nesting last u t word p m i g o e h =
    let s : Says u word t = subst (Said last u word) g (said_word last u word i) in
    let a = opened_word p word (own_in u.setting.names word) u.at u.nesting o e in
    let b = opened_word s.phrase word (own_in u.setting.names word) u.at u.nesting s.own s.means in
    same_Some t.nesting m (sym s.opens ∙ b ∙ sym a ∙ h)

fits : (last at : ℕ) (p : Spelled) (k : Known) (n m : Nesting) (more : List ℕ)
    → IsSaid (moved p.blanks k) p more → run k.items nothing ≡ Some (shape_of n)
    → opened p.phrase (moved p.blanks k).at n ≡ Some m → Fits last at p k n m more
fits last at p k n m more h r e =
    let l = moved p.blanks k in
    let b = behind p.word p.phrase l in
    let runs : run b.items nothing ≡ Some (shape_of m) =
    run-append k.items (items_of p.phrase l) nothing
    ∙ ap (option_and_then (run (items_of p.phrase l))) r ∙ opened_runs p.phrase l n m e in
    let g = said_goes last at p k n more (shape_of m) h r runs in
    let u = state_at l.at (rest_at (l.at + length p.word) (taken p.phrase ++ more)) l n in
    let read = read_word last at p.blanks p.word (taken p.phrase ++ more) k n h.blanks h.spelled
    (ends_part (taken p.phrase ++ more) h.ends) in
    let t = state_at g.at (rest_at b.at more) b g.nesting in
    let same : g.nesting ≡ m = same_nesting last u t p.word p.phrase m r (sym read ∙ g.goes) h.own h.means e in
    record {
      place = g.at;
      goes = g.goes ∙ ap (λ (x : Nesting). Goes (state_at g.at (rest_at b.at more) b x)) same;
    }

-- ---- a word that can't stand

by_key : (last : ℕ) (word : List ℕ) (s : State) (key : Keyword) (f : SourceFault) → own_in s.setting.names word ≡ None
    → keyword_named word ≡ Some key → keyword_step last key s ≡ Fails f → word_step last word s ≡ Fails f
by_key last word s key f o m e = keyed last word s (Some key) o m ∙ e

else_of : (b : Bool) (x y : Step) → b ≡ false → (if b then x else y) ≡ y
else_of b x y e = rw e refl

then_of : (b : Bool) (x y : Step) → b ≡ true → (if b then x else y) ≡ x
then_of b x y e = rw e refl

-- the word that a text has
word_there : (r : Rest) (w : HasWord r.text)
    → next_word r ≡ Some (w.word, rest_at (r.at + length w.blanks + length w.word) w.more)
word_there r w =
    ap (λ t. next_word (rest_at r.at t)) w.text
    ∙ word_after w.blanks r.at w.word w.more w.between w.spelled (ends_part w.more w.ends)

start_there : (r : Rest) (w : HasWord r.text) → start_of r ≡ r.at + length w.blanks
start_there r w =
    ap (λ t. start_of (rest_at r.at t)) w.text ∙ start_after w.blanks r.at w.word w.more w.between w.spelled

next_none : (f : SourceFault) (r : Rest) (go : List ℕ → Rest → Step) → AreBlanks r.text
    → with_next f (next_word r) go ≡ Fails f
next_none f r go h = ap (λ o. with_next f o go) (no_word_after r.text r.at h)

next_some : (f : SourceFault) (r : Rest) (w : HasWord r.text) (go : List ℕ → Rest → Step)
    → with_next f (next_word r) go ≡ go w.word (rest_at (r.at + length w.blanks + length w.word) w.more)
next_some f r w go = ap (λ o. with_next f o go) (word_there r w)

word_fails : (last : ℕ) (key : Keyword) (word : List ℕ) (s : State) → TakesWord key → own_in s.setting.names word ≡ None
    → keyword_named word ≡ Some key → AreBlanks s.rest.text → word_step last word s ≡ Fails (ended last s)
word_fails last keyword.Character word s t o m b = by_key last word s _ _ o m (next_none (ended last s) s.rest _ b)
word_fails last (keyword.Naming c) word s t o m b = by_key last word s _ _ o m (next_none (ended last s) s.rest _ b)
word_fails last _ word s t o m b = absurd t

name_fails : (last : ℕ) (s : State) (r : Rest) (go : List ℕ → State → Step) → AreBlanks r.text
    → with_name (name_found last s (next_word r)) go ≡ Fails (ended last s)
name_fails last s r go h = ap (λ o. with_name (name_found last s o) go) (no_word_after r.text r.at h)

no_name_fails : (last : ℕ) (w : Definer) (word : List ℕ) (s : State) → own_in s.setting.names word ≡ None
    → keyword_named word ≡ Some (keyword.Defining w) → in_definition s.nesting.parts ≡ false → AreBlanks s.rest.text
    → word_step last word s ≡ Fails (Unclosed (first_open last ((making_of w).opens s.at s.nesting)))
no_name_fails last w word s o m e b =
    by_key last word s _ _ o m
    (else_of (in_definition s.nesting.parts) _ _ e
    ∙ name_fails last (opening ((making_of w).opens s.at s.nesting) s) s.rest _ b)

longer : (m l : ℕ) → m < l → nat_lt m l ≡ true
longer m l h = grind (arith, nat_tests)

long_fails : (last : ℕ) (s : State) (w : HasWord s.rest.text) (go : List ℕ → State → Step) → 31 < length w.word
    → with_name (name_found last s (next_word s.rest)) go ≡ Fails (TooLong (s.rest.at + length w.blanks))
long_fails last s w go l =
    let t : nat_lt 31 (length w.word) ≡ true = longer 31 (length w.word) l in
    ap (λ o. with_name (name_found last s o) go) (word_there s.rest w)
    ∙ rw t (ap (λ a. Fails (TooLong a)) (start_there s.rest w))

long_name_fails : (last : ℕ) (d : Definer) (word : List ℕ) (s : State) (w : HasWord s.rest.text)
    → own_in s.setting.names word ≡ None → keyword_named word ≡ Some (keyword.Defining d)
    → in_definition s.nesting.parts ≡ false → 31 < length w.word
    → word_step last word s ≡ Fails (TooLong (s.rest.at + length w.blanks))
long_name_fails last d word s w o m e l =
    by_key last word s _ _ o m
    (else_of (in_definition s.nesting.parts) _ _ e
    ∙ long_fails last (opening ((making_of d).opens s.at s.nesting) s) w _ l)

bad_value : (at : ℕ) (v : Number) (go : Cell → Step) → ((x : Cell) → v ≢ Value x)
    → number_or_bad at v go ≡ Fails (BadNumber at)
bad_value at (Value x) go h = absurd (h x refl)
bad_value at OutOfRange go h = refl
bad_value at NoNumber go h = refl

found_is : (f g : Found) → Some f ≡ Some g → f ≡ g
found_is f g h = cc

string_long : (s : State) (f : Found) (bytes text : List ℕ) (go : List ℕ → State → Step) → f ≡ Some (bytes, text)
    → 255 < length bytes → with_string s f go ≡ Fails (TooLong s.at)
string_long s f bytes text go e l =
    let t : nat_lt 255 (length bytes) ≡ true = longer 255 (length bytes) l in
    ap (λ o. with_string s o go) e ∙ rw t refl

string_none : (s : State) (f : Found) (go : List ℕ → State → Step) → f ≡ None
    → with_string s f go ≡ Fails (Unknown s.at)
string_none s f go e = ap (λ o. with_string s o go) e

code_none : (at : ℕ) (o : Option FCode) (go : FCode → Step) → o ≡ None → with_code at o go ≡ Fails (Unknown at)
code_none at o go e = ap (λ x. with_code at x go) e

no_end_fails : (last : ℕ) (key : Keyword) (word : List ℕ) (s : State) → own_in s.setting.names word ≡ None
    → keyword_named word ≡ Some key → string_behind key s.rest.text ≡ Some None
    → word_step last word s ≡ Fails (Unknown s.at)
no_end_fails last keyword.Comment word s o m e =
    by_key last word s _ _ o m (ap (comment_step s) (found_is _ None e))
no_end_fails last (keyword.Text q) word s o m e = by_key last word s _ _ o m (string_none s _ _ (found_is _ None e))
no_end_fails last _ word s o m e = absurd cc

-- each of these words is refused for its fault
wrong_back : (last : ℕ) (k : Known) (n : Nesting) (word : List ℕ) (r : Rest) {f : SourceFault}
    → own_in k.setting.names word ≡ None → IsWrong last k n word r f
    → word_step last word (state_at k.at r k n) ≡ Fails f
wrong_back last k n word r o (no_opener w m d) =
    let s = state_at k.at r k n in by_key last word s _ _ o m (ap (λ x. effect_step (effect_of w) x s) d)
wrong_back last k n word r o (left_open m d) =
    by_key last word (state_at k.at r k n) _ _ o m (else_of (is_closed n) _ _ d)
wrong_back last k n word r o (no_word key m t b) = word_fails last key word (state_at k.at r k n) t o m b
wrong_back last k n word r o (no_name w m e b) = no_name_fails last w word (state_at k.at r k n) o m e b
wrong_back last k n word r o (no_digits base m b) =
    by_key last word (state_at k.at r k n) _ _ o m (next_none (BadNumber k.at) r _ b)
wrong_back last k n word r o (bad_digits base w m v) =
    by_key last word (state_at k.at r k n) _ _ o m
    (next_some (BadNumber k.at) r w _ ∙ bad_value k.at (number_in (base_of base) w.word) _ v)
wrong_back last k n word r o (long_name d w m e l) =
    long_name_fails last d word (state_at k.at r k n) w o m e l
wrong_back last k n word r o (long_string q bytes text m e l) =
    let s = state_at k.at r k n in by_key last word s _ _ o m (string_long s _ bytes text _ e l)
wrong_back last k n word r o (no_end key m e) = no_end_fails last key word (state_at k.at r k n) o m e
wrong_back last k n word r o (no_code t w m c) =
    let s = state_at k.at r k n in
    by_key last word s _ _ o m
    (next_some (ended last s) r w _ ∙ code_none (start_of r) (code_named k.setting.names w.word) _ c
    ∙ ap (λ a. Fails (Unknown a)) (start_there r w))
wrong_back last k n word r o (not_outside w m e) =
    by_key last word (state_at k.at r k n) _ _ o m (then_of (in_definition n.parts) _ _ e)
wrong_back last k n word r o (not_inside m e) =
    by_key last word (state_at k.at r k n) _ _ o m (else_of (is_some k.setting.open_one) _ _ (ap is_some e))
wrong_back last k n word r o (not_straight m e) =
    by_key last word (state_at k.at r k n) _ _ o m (else_of (is_straight n) _ _ e)
wrong_back last k n word r o (out_of_range m c v) =
    let s = state_at k.at r k n in
    keyed last word s None o m ∙ ap (ordinary_step word s) c ∙ ap (number_word_step s) v
wrong_back last k n word r o (no_meaning m c v) =
    let s = state_at k.at r k n in
    keyed last word s None o m ∙ ap (ordinary_step word s) c ∙ ap (number_word_step s) v

-- ---- beyond comments

one_beyond : (n : ℕ) (r : Rest) (w : HasWord r.text)
    → beyond (suc n) r
    ≡ beyond_word (r.at + length w.blanks)
    (Some (w.word, rest_at (r.at + length w.blanks + length w.word) w.more)) (beyond n)
one_beyond n r w =
    ap (λ o. beyond_word (start_of r) o (beyond n)) (word_there r w)
    ∙ ap (λ a. beyond_word a (Some (w.word, rest_at (r.at + length w.blanks + length w.word) w.more)) (beyond n))
    (start_there r w)

some_bytes : (text : List ℕ) (w : HasWord text) → 0 < length text
some_bytes text w =
    let e = ap length w.text in
    let a = length-append w.blanks (w.word ++ w.more) in
    let b = length-append w.word w.more in
    let some : 0 < length w.word = w.spelled.0 in
    omega (arith, e, a, b, some)

bad_at : (n : ℕ) (r : Rest) (w : HasWord r.text) → 0 < n → is_word (codes "(") w.word ≡ true
    → plain_string 41 w.more ≡ None → beyond n r ≡ Bad (r.at + length w.blanks)
bad_at zero r w l p e = absurd (omega (arith, l))
bad_at (suc n) r w l p e =
    one_beyond n r w
    ∙ rw p (ap (λ f. skipped_comment (r.at + length w.blanks)
    (rest_at (r.at + length w.blanks + length w.word) w.more) f (beyond n)) e)

word_at_beyond : (n : ℕ) (r : Rest) (w : HasWord r.text) → 0 < n → is_word (codes "(") w.word ≡ false
    → is_word (codes "\\") w.word ≡ false
    → beyond n r
    ≡ Word (r.at + length w.blanks) w.word (rest_at (r.at + length w.blanks + length w.word) w.more)
word_at_beyond zero r w l p e = absurd (omega (arith, l))
word_at_beyond (suc n) r w l p e = one_beyond n r w ∙ rw (p, e) refl

-- what lies beyond comments, of what is meant there or not
abbrev IsBeyond : ℕ → (List ℕ → Bool) → Beyond → SourceFault → Type 0
IsBeyond radix meant (Word at w r) f = (meant w ≡ false) × (f ≡ misplaced at radix w)
IsBeyond radix meant Nothing f = ⊥
IsBeyond radix meant (Bad at) f = f ≡ Unknown at

astray_back : (radix : ℕ) (meant : List ℕ → Bool) (r : Rest) (n : ℕ) {f : SourceFault} → length r.text ≤ n
    → IsAstray radix meant r f → IsBeyond radix meant (beyond n r) f
astray_back radix meant r n l (open_comment cs text w e rem p x) =
    let g = remarks_passed cs n r.at text rem (omega (arith, l, ap length e)) in
    let some = some_bytes text w in
    let q = rest_at (place_behind cs r.at) text in
    let b : beyond n r ≡ Bad (place_behind cs r.at + length w.blanks) =
    ap (λ t. beyond n (rest_at r.at t)) e ∙ g.passes ∙ bad_at g.left q w (omega (arith, some, g.enough)) p x in
    subst (λ (y : Beyond). IsBeyond radix meant y (Unknown (place_behind cs r.at + length w.blanks))) (sym b) refl
astray_back radix meant r n l (another cs text w e rem p x m) =
    let g = remarks_passed cs n r.at text rem (omega (arith, l, ap length e)) in
    let some = some_bytes text w in
    let q = rest_at (place_behind cs r.at) text in
    let b = ap (λ t. beyond n (rest_at r.at t)) e ∙ g.passes
    ∙ word_at_beyond g.left q w (omega (arith, some, g.enough)) p x in
    subst (λ (y : Beyond). IsBeyond radix meant y (misplaced (place_behind cs r.at + length w.blanks) radix w.word))
    (sym b) (m, refl)

trailed_back : (z : OffsetSize) (t : State) (b : Beyond) (f : SourceFault)
    → IsBeyond (base_of t.setting.radix) (λ w. false) b f → trailed z t b ≡ Err f
trailed_back z t (Word at w r) f h = ap (λ (g : SourceFault). let x : Result Source SourceFault = Err g in x) (sym h.1)
trailed_back z t Nothing f h = absurd h
trailed_back z t (Bad at) f h = ap (λ (g : SourceFault). let x : Result Source SourceFault = Err g in x) (sym h)

-- ---- the words of a source

read_on : (last at : ℕ) (k : Known) (n : Nesting) (text : List ℕ) (w : HasWord text)
    → next_step last (state_at at (rest_at k.at text) k n)
    ≡ word_step last w.word
    (state_at (moved w.blanks k).at (rest_at (k.at + length w.blanks + length w.word) w.more) (moved w.blanks k) n)
read_on last at k n text w =
    ap (λ t. next_step last (state_at at (rest_at k.at t) k n)) w.text
    ∙ read_word last at w.blanks w.word w.more k n w.between w.spelled (ends_part w.more w.ends)

shorter : (text : List ℕ) (w : HasWord text) → length w.more ≤ length text
shorter text w =
    let e = ap length w.text in
    let a = length-append w.blanks (w.word ++ w.more) in
    let b = length-append w.word w.more in
    omega (arith, e, a, b)

failing_now : (text : List ℕ) (z : OffsetSize) (at : ℕ) (k : Known) (n : Nesting) (more : List ℕ) {f : SourceFault}
    → length more ≤ length text → IsFailure (last_place text) k n more f
    → IsDecided text z (state_at at (rest_at k.at more) k n) (Err f)
failing_now text z at k n more l (cut b) = record {
  count = 0;
  state = state_at at (rest_at k.at more) k n;
  fits = refl;
  decides =
      ap (outcome_at text z)
      (next_none (ended (last_place text) (state_at at (rest_at k.at more) k n)) (rest_at k.at more) _ b);
}
failing_now text z at k n more l (wrong f w o x) = record {
  count = 0;
  state = state_at at (rest_at k.at more) k n;
  fits = refl;
  decides =
      ap (outcome_at text z)
      (read_on (last_place text) at k n more w
      ∙ wrong_back (last_place text) (moved w.blanks k) n w.word
      (rest_at (k.at + length w.blanks + length w.word) w.more) o x);
}
failing_now text z at k n more l (late f w o m c x) =
    let last = last_place text in
    let r = rest_at (k.at + length w.blanks + length w.word) w.more in
    let t = state_at (moved w.blanks k).at r (moved w.blanks k) n in
    record {
      count = 0;
      state = state_at at (rest_at k.at more) k n;
      fits = refl;
      decides =
          ap (outcome_at text z)
          (read_on last at k n more w ∙ keyed last w.word t (Some keyword.Finish) o m
          ∙ then_of (is_closed n) (Ends t) _ c)
          ∙ ap (λ y. Some y) (trailed_back z t (beyond (length text) r) f
          (astray_back (base_of k.setting.radix) (λ v. false) r (length text) (omega (arith, l, shorter more w)) x));
    }

-- where phrases open so, each does
pub record OpenedFirst (ps : List Spelled) (l : Known) (o : Option Nesting) (m : Nesting) : Type 0 where
  pub first : Nesting
  pub opens : o ≡ Some first
  pub rest : all_opened ps l first ≡ Some m

pub opened_first : (ps : List Spelled) (l : Known) (o : Option Nesting) (m : Nesting)
    → option_and_then (all_opened ps l) o ≡ Some m → OpenedFirst ps l o m
opened_first ps l None m h = absurd cc
opened_first ps l (Some x) m h = record { first = x; opens = refl; rest = h }

all_failing : (text : List ℕ) (z : OffsetSize) (ps : List Spelled) (more : List ℕ) (at : ℕ) (k : Known) (n m : Nesting)
    (f : SourceFault)
    → length (each_written ps more) ≤ length text → AllSaid ps more k → run k.items nothing ≡ Some (shape_of n)
    → all_opened ps k n ≡ Some m → IsFailure (last_place text) (all_behind ps k) m more f
    → IsDecided text z (state_at at (rest_at k.at (each_written ps more)) k n) (Err f)
all_failing text z [] more at k n m f t h r o x =
    failing_now text z at k n more t
    (subst (λ (y : Nesting). IsFailure (last_place text) k y more f) (sym (same_Some n m o)) x)
all_failing text z (p ∷ ps) more at k n m f t h r o x =
    let last = last_place text in
    let l = behind p.word p.phrase (moved p.blanks k) in
    let q = opened_first ps l (opened p.phrase (moved p.blanks k).at n) m o in
    let s = state_at at (rest_at k.at (written p (each_written ps more))) k n in
    let g = fits last at p k n q.first (each_written ps more) h.0 r q.opens in
    let i : run l.items nothing ≡ Some (shape_of q.first) = subst Kept g.goes (kept last s r) in
    let few = some_written p (each_written ps more) h.0.spelled in
    let d = all_failing text z ps more g.place l q.first m f (omega (arith, few, t)) h.1 i q.rest x in
    record {
      count = suc d.count;
      state = d.state;
      fits = ap (λ st. behind_word st (behind_words last d.count)) g.goes ∙ d.fits;
      decides = d.decides;
    }

-- ---- a whole text

failure_parsed : (z : OffsetSize) (b : Beginning) (ps : List Spelled) (n : Nesting) (more : List ℕ) (f : SourceFault)
    → IsBegun z b (each_written ps more) → AllSaid ps more (begun_with b)
    → all_opened ps (begun_with b) nothing_open ≡ Some n
    → IsFailure (last_place (each_written b.comments (headed b (each_written ps more))))
    (all_behind ps (begun_with b)) n
    more f
    → parsed (each_written b.comments (headed b (each_written ps more))) ≡ Err f
failure_parsed size.One b ps n more f begun said o x =
    let rest = each_written ps more in
    let text = each_written b.comments (headed b rest) in
    let r = rest_at (begun_with b).at rest in
    first_word_decides.alone text size.One (beginning r) (parsed text) _
    (decided-version1 text r (head_at b rest, b.word, version_first size.One b rest begun, begun.means))
    (all_failing text size.One ps more (begun_with b).at (begun_with b) nothing_open n f (head_longer b rest) said refl
    o x)
failure_parsed size.Two b ps n more f begun said o x =
    let rest = each_written ps more in
    let text = each_written b.comments (headed b rest) in
    let r = rest_at (begun_with b).at rest in
    first_word_decides.alone text size.Two (beginning r) (parsed text) _
    (decided-version2 text r (head_at b rest, b.word, version_first size.Two b rest begun, begun.means))
    (all_failing text size.Two ps more (begun_with b).at (begun_with b) nothing_open n f (head_longer b rest) said refl
    o x)

both_false : (x y : Bool) → (x || y) ≡ false → (x ≡ false) × (y ≡ false)
both_false true y h = absurd cc
both_false false y h = (refl, h)

begun_back : (text : List ℕ) (b : Beyond) (f : SourceFault) → IsBeyond 16 begins_source b f → begun text b ≡ Err f
begun_back text (Word at w r) f h =
    let c = both_false (is_word (codes "fcode-version2") w) (is_word (codes "fcode-version1") w) h.0 in
    rw (c.0, c.1) (ap (λ (g : SourceFault). let x : Result Source SourceFault = Err g in x) (sym h.1))
begun_back text Nothing f h = absurd h
begun_back text (Bad at) f h = ap (λ (g : SourceFault). let x : Result Source SourceFault = Err g in x) (sym h)

no_source_parsed : (text : List ℕ) (cs : List Spelled) (more : List ℕ) → text ≡ each_written cs more
    → AreRemarks cs more → AreBlanks more → parsed text ≡ Err (Unclosed (last_place text))
unfolding parsed
no_source_parsed text cs more e rem b =
    let g = remarks_passed cs (length text) 0 more rem (omega (arith, ap length e)) in
    ap (begun text)
    (ap (λ t. beyond (length text) (rest_at 0 t)) e ∙ g.passes ∙ nothing_beyond g.left (place_behind cs 0) more b)

no_beginning_parsed : (text : List ℕ) (f : SourceFault) → IsAstray 16 begins_source (rest_at 0 text) f
    → parsed text ≡ Err f
unfolding parsed
no_beginning_parsed text f x =
    begun_back text (beyond (length text) (rest_at 0 text)) f
    (astray_back 16 begins_source (rest_at 0 text) (length text) (omega arith) x)

-- a text with such a fault is refused for it
pub fault_back : (text : List ℕ) {f : SourceFault} → IsFault text f → parsed text ≡ Err f
fault_back text (no_source cs more e rem b) = no_source_parsed text cs more e rem b
fault_back text (no_beginning f x) = no_beginning_parsed text f x
fault_back text (failure f z b ps n more e begun said o x) =
    ap parsed e
    ∙ failure_parsed z b ps n more f begun said o
    (subst (λ (t : List ℕ). IsFailure (last_place t) (all_behind ps (begun_with b)) n more f) e x)
