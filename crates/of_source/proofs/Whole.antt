-- A step of each loop over a whole text, over variables.
use Rattle.std.proofs.Common.{◌≡◌, ℕ, suc, ◌+◌, ◌-◌, ◌<◌, ◌≤◌, Bool, true, false, List, length}
use Rattle.std.proofs.Common.{Some, None, Result, IfErr, Ok, Err, codes, refl, sym, ap, subst, arith}
use Rattle.std.specs.Prelude.{option_map}
use Rattle.of_stream.specs.declared.stream.OffsetSize.{OffsetSize}
use Rattle.of_stream.specs.declared.stream.OffsetSize.TheVariants as size
use Rattle.of_source.specs.declared.fault.SourceFault.{SourceFault}
use Rattle.of_source.specs.declared.fault.SourceFault.TheVariants.{Unclosed, Unknown, BadNumber, TooLong, NoMemory}
use Rattle.of_scan.specs.Scan.{Rest, Found, rest_at, left_of, start_of, next_word, plain_string, line_end}
use Rattle.of_source.specs.Places.{last_place}
use Rattle.of_source.specs.Items.{Source}
use Rattle.of_source.specs.Steps.{State, Goes, Ends, Fails, Steps}
use Rattle.of_source.specs.Parsing.{Beyond, beyond, skipped_comment, is_word}
use Rattle.of_source.specs.Steps.{next_step, ended, beginning}
use Rattle.of_source.specs.Parsing.{Word, words, trailed, parsed, IsRefused}

found_comment : (at : ℕ) (q r : Rest) (next : Rest → Beyond) (f : Found)
    → option_map (λ p. left_of q p.1) f ≡ Some r → skipped_comment at q f next ≡ next r
found_comment at q r next None h = absurd cc
found_comment at q r next (Some p) h = let e : left_of q p.1 ≡ r = cc in ap next e

-- past one more comment
pub comment_more : (n i : ℕ) (r q t : Rest) (w : List ℕ) → i < n → next_word r ≡ Some (w, q)
    → is_word (codes "(") w ≡ true
    → option_map (λ p. left_of q p.1) (plain_string 41 q.text) ≡ Some t → beyond (n - (i + 1)) t ≡ beyond (n - i) r
comment_more n i r q t w lt h c f =
    let e : n - i ≡ suc (n - (i + 1)) = omega arith in
    sym (rw (e, h, c) (found_comment (start_of r) q t (beyond (n - (i + 1))) (plain_string 41 q.text) f))

pub line_more : (n i : ℕ) (r q : Rest) (w : List ℕ) → i < n → next_word r ≡ Some (w, q) → is_word (codes "(") w ≡ false
    → is_word (codes "\\") w ≡ true
    → beyond (n - (i + 1)) (left_of q (line_end q.text)) ≡ beyond (n - i) r
line_more n i r q w lt h c d =
    let e : n - i ≡ suc (n - (i + 1)) = omega arith in
    sym (rw (e, h, c, d) refl)

-- one more word
pub words_more : (text : List ℕ) (z : OffsetSize) (n i : ℕ) (s t : State) → i < n
    → next_step (last_place text) s ≡ Goes t → words text z (n - (i + 1)) t ≡ words text z (n - i) s
words_more text z n i s t lt h =
    let e : n - i ≡ suc (n - (i + 1)) = omega arith in
    sym (rw (e, h) refl)

-- the last word
pub words_end : (text : List ℕ) (z : OffsetSize) (n i : ℕ) (s t : State) → i < n
    → next_step (last_place text) s ≡ Ends t → trailed z t (beyond (length text) t.rest) ≡ words text z (n - i) s
words_end text z n i s t lt h =
    let e : n - i ≡ suc (n - (i + 1)) = omega arith in
    sym (rw (e, h) refl)

pub words_cut : (text : List ℕ) (z : OffsetSize) (n i : ℕ) (s : State) → n ≤ i
    → words text z (n - i) s ≡ Err (ended (last_place text) s)
words_cut text z n i s le = let e : n - i ≡ 0 = omega arith in rw e refl

fails_more : (text : List ℕ) (z : OffsetSize) (n i : ℕ) (s : State) (f : SourceFault) → i < n
    → next_step (last_place text) s ≡ Fails f → words text z (n - i) s ≡ Err f
fails_more text z n i s f lt h = let e : n - i ≡ suc (n - (i + 1)) = omega arith in rw (e, h) refl

-- a word that fits nowhere
pub words_refused : (text : List ℕ) (z : OffsetSize) (n i : ℕ) (s t : State) (f : SourceFault) → i < n
    → Steps (next_step (last_place text) s) t (Err f) → IsRefused (words text z (n - i) s) f
words_refused text z n i s t (Unclosed l) lt h = fails_more text z n i s (Unclosed l) lt h
words_refused text z n i s t (Unknown l) lt h = fails_more text z n i s (Unknown l) lt h
words_refused text z n i s t (BadNumber l) lt h = fails_more text z n i s (BadNumber l) lt h
words_refused text z n i s t (TooLong l) lt h = fails_more text z n i s (TooLong l) lt h
words_refused text z n i s t NoMemory lt h = tt

-- a result that is an error was refused so
pub is_refused : (r : Result Source SourceFault) (f : SourceFault) → r ≡ Err f → IsRefused r f
is_refused r (Unclosed l) h = h
is_refused r (Unknown l) h = h
is_refused r (BadNumber l) h = h
is_refused r (TooLong l) h = h
is_refused r NoMemory h = tt

-- the same, where the last place is known by an equation
pub words_refused_by : (text : List ℕ) (z : OffsetSize) (n i last : ℕ) (s t : State) (f : SourceFault) → i < n
    → last ≡ last_place text → Steps (next_step last s) t (Err f)
    → IsRefused (words text z (n - i) s) f
words_refused_by text z n i last s t f lt e h =
    let P : ℕ → Type 0 = λ l. Steps (next_step l s) t (Err f) in
    words_refused text z n i s t f lt (subst P e h)

-- one more word, where the last place is known by an equation
pub words_more_by : (text : List ℕ) (z : OffsetSize) (n i last : ℕ) (s t : State) (b : Bool) → i < n
    → last ≡ last_place text → b ≡ true → Steps (next_step last s) t (Ok b)
    → words text z (n - (i + 1)) t ≡ words text z (n - i) s
words_more_by text z n i last s t b lt e is h =
    let P : ℕ → Type 0 = λ l. Steps (next_step l s) t (Ok true) in
    let Q : Bool → Type 0 = λ x. Steps (next_step last s) t (Ok x) in
    words_more text z n i s t lt (subst P e (subst Q is h))

-- the last word, where the last place is known by an equation
pub words_end_by : (text : List ℕ) (z : OffsetSize) (n i last : ℕ) (s t : State) (b : Bool) → i < n
    → last ≡ last_place text → b ≡ false → Steps (next_step last s) t (Ok b)
    → trailed z t (beyond (length text) t.rest) ≡ words text z (n - i) s
words_end_by text z n i last s t b lt e is h =
    let P : ℕ → Type 0 = λ l. Steps (next_step l s) t (Ok false) in
    let Q : Bool → Type 0 = λ x. Steps (next_step last s) t (Ok x) in
    words_end text z n i s t lt (subst P e (subst Q is h))

-- each of the faults of a result
pub all_refused : {A : Type 0} (r : Result A SourceFault) (w : Result Source SourceFault)
    → IfErr r (λ f. w ≡ Err f) → IfErr r (λ f. IsRefused w f)
all_refused (Ok x) w h = tt
all_refused (Err f) w h = is_refused w f h

-- behind `fcode-version2`
pub parsed_two : (at : ℕ) (text w : List ℕ) (r : Rest) → Word at w r ≡ beyond (length text) (rest_at 0 text)
    → is_word (codes "fcode-version2") w ≡ true → parsed text ≡ words text size.Two (length text) (beginning r)
unfolding parsed
parsed_two at text w r h v = rw (← h, v) refl

-- behind `fcode-version1`
pub parsed_one : (at : ℕ) (text w : List ℕ) (r : Rest) → Word at w r ≡ beyond (length text) (rest_at 0 text)
    → is_word (codes "fcode-version2") w ≡ false → is_word (codes "fcode-version1") w ≡ true
    → parsed text ≡ words text size.One (length text) (beginning r)
unfolding parsed
parsed_one at text w r h v u = rw (← h, v, u) refl

-- the ways on at a word
pub ruleset word_by_word = (words_more, words_end, words_cut, words_refused, is_refused)
