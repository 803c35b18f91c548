-- The first word that doesn't let a source go on decides what the text is.
use Rattle.std.proofs.Common.{◌≡◌, ◌≤◌, ℕ, zero, suc, Bool, true, false, List, [], ◌∷◌, length, codes, Option}
use Rattle.std.proofs.Common.{Some, None, Result, if◌then◌else◌, refl, sym, ap, subst, ◌∙◌, arith}
use Rattle.std.specs.Str.{bytes_eq, str_to_ascii_lowercase}
use Rattle.std.proofs.lemmas.Slice.Eq.{bytes_eq-Decides}
use Rattle.of_stream.specs.declared.stream.OffsetSize.{OffsetSize}
use Rattle.of_stream.specs.declared.stream.OffsetSize.TheVariants as size
use Rattle.of_source.specs.declared.fault.SourceFault.{SourceFault}
use Rattle.of_source.specs.Items.{Source}
use Rattle.of_scan.specs.Scan.{Rest, rest_at, left_of, start_of, at_word, word_at, next_word, Found, plain_string}
use Rattle.of_scan.specs.Scan.{line_end}
use Rattle.of_source.specs.Places.{last_place}
use Rattle.of_source.specs.Steps.{State, Step, Goes, Ends, Fails, ended, next_step}
use Rattle.of_source.specs.Parsing.{Beyond, Word, Nothing, Bad}
use Rattle.of_source.specs.Steps.{beginning}
use Rattle.of_source.specs.Parsing.{is_word, skipped_comment, beyond_word, beyond, stepped, words}
use Rattle.of_source.specs.Parsing.{parsed}
use Rattle.of_source.specs.Order.{behind_word, behind_words, outcome_at, IsDecided, BeginsWith, FirstWordDecides}
use Rattle.of_source.proofs.Shrinking.{Shrinks, shrinks, FoundWithin, NextWithin, next_word-within, plain-within}
use Rattle.of_source.proofs.Shrinking.{line_end-within}

-- ---- one word decides

nothing_left : (at : ℕ) (text : List ℕ) → length text ≤ 0 → word_at (at_word at text) ≡ None
nothing_left at [] h = refl
nothing_left at (b ∷ text) h = absurd (omega (arith, h))

ends_there : (last : ℕ) (s : State) → length s.rest.text ≤ 0 → next_step last s ≡ Fails (ended last s)
ends_there last s h = rw (nothing_left s.rest.at s.rest.text h) refl

decided-step : (text : List ℕ) (z : OffsetSize) (n : ℕ) (s : State) (st : Step) → next_step (last_place text) s ≡ st
    → length s.rest.text ≤ suc n → Shrinks (length s.rest.text) st
    → ((t : State) → length t.rest.text ≤ n → IsDecided text z t (words text z n t))
    → IsDecided text z s (stepped text z st (words text z n))
decided-step text z n s (Goes t) e l h ih =
    let d = ih t (omega (arith, l, h)) in
    record { count = suc d.count; state = d.state; fits = rw e d.fits; decides = d.decides }
decided-step text z n s (Ends t) e l h ih = record { count = 0; state = s; fits = refl; decides = rw e refl }
decided-step text z n s (Fails f) e l h ih = record { count = 0; state = s; fits = refl; decides = rw e refl }

-- the words of a text that has at most n bytes left are decided
pub decided : (text : List ℕ) (z : OffsetSize) (n : ℕ) (s : State) → length s.rest.text ≤ n
    → IsDecided text z s (words text z n s)
decided text z zero s h =
    record { count = 0; state = s; fits = refl; decides = rw (ends_there (last_place text) s h) refl }
decided text z (suc n) s h =
    decided-step text z n s (next_step (last_place text) s) refl h (shrinks (last_place text) s) (decided text z n)

-- ---- no other word does

not_both : (text : List ℕ) (z : OffsetSize) (st : Step) (next : State → Option State) (u : State)
    (a : Result Source SourceFault) → behind_word st next ≡ Some u → outcome_at text z st ≡ Some a → ⊥
not_both text z (Goes t) next u a h k = cc
not_both text z (Ends t) next u a h k = cc
not_both text z (Fails f) next u a h k = cc

same_state : (s t : State) → Some s ≡ Some t → s ≡ t
same_state s t h = cc

same_outcome : (a b : Result Source SourceFault) → Some a ≡ Some b → a ≡ b
same_outcome a b h = cc

both_behind : (st : Step) (f g : State → Option State) (t u : State) (X : Type 0) → behind_word st f ≡ Some t
    → behind_word st g ≡ Some u
    → ((v : State) → f v ≡ Some t → g v ≡ Some u → X) → X
both_behind (Goes v) f g t u X h k go = go v h k
both_behind (Ends v) f g t u X h k go = absurd cc
both_behind (Fails w) f g t u X h k go = absurd cc

pub alone : (text : List ℕ) (z : OffsetSize) (m n : ℕ) (s t u : State) (a b : Result Source SourceFault)
    → behind_words (last_place text) m s ≡ Some t → behind_words (last_place text) n s ≡ Some u
    → outcome_at text z (next_step (last_place text) t) ≡ Some a
    → outcome_at text z (next_step (last_place text) u) ≡ Some b → a ≡ b
alone text z zero zero s t u a b h k d e =
    let same : t ≡ u = sym (same_state s t h) ∙ same_state s u k in
    same_outcome a b (sym d ∙ ap (λ v. outcome_at text z (next_step (last_place text) v)) same ∙ e)
alone text z zero (suc n) s t u a b h k d e =
    let P : State → Type 0 = λ v. outcome_at text z (next_step (last_place text) v) ≡ Some a in
    let here = subst P (sym (same_state s t h)) d in
    absurd (not_both text z (next_step (last_place text) s) (behind_words (last_place text) n) u a k here)
alone text z (suc m) zero s t u a b h k d e =
    let P : State → Type 0 = λ v. outcome_at text z (next_step (last_place text) v) ≡ Some b in
    let here = subst P (sym (same_state s u k)) e in
    absurd (not_both text z (next_step (last_place text) s) (behind_words (last_place text) m) t b h here)
alone text z (suc m) (suc n) s t u a b h k d e =
    let last = last_place text in
    both_behind (next_step last s) (behind_words last m) (behind_words last n) t u (a ≡ b) h k
    (λ v i j. alone text z m n v t u a b i j d e)

-- ---- where the words of a text begin

abbrev pub BeyondWithin : ℕ → Beyond → Type 0
BeyondWithin n (Word at w r) = length r.text ≤ n
BeyondWithin n Nothing = Unit {0}
BeyondWithin n (Bad at) = Unit {0}

beyond-wider : (m n : ℕ) (b : Beyond) → m ≤ n → BeyondWithin m b → BeyondWithin n b
beyond-wider m n (Word at w r) l h = omega (arith, l, h)
beyond-wider m n Nothing l h = tt
beyond-wider m n (Bad at) l h = tt

beyond_if : (n : ℕ) (b : Bool) (x y : Beyond) → BeyondWithin n x → BeyondWithin n y
    → BeyondWithin n (if b then x else y)
beyond_if n true x y h k = h
beyond_if n false x y h k = k

skipped-within : (n at : ℕ) (q : Rest) (f : Found) (next : Rest → Beyond) → FoundWithin n f
    → ((r : Rest) → BeyondWithin (length r.text) (next r)) → BeyondWithin n (skipped_comment at q f next)
skipped-within n at q None next h k = tt
skipped-within n at q (Some r) next h k =
    beyond-wider (length r.1) n (next (left_of q r.1)) h (k (left_of q r.1))

beyond_word-within : (n at : ℕ) (o : Option (List ℕ × Rest)) (next : Rest → Beyond) → NextWithin n o
    → ((r : Rest) → BeyondWithin (length r.text) (next r)) → BeyondWithin n (beyond_word at o next)
beyond_word-within n at None next h k = tt
beyond_word-within n at (Some w) next h k =
    let m = length w.1.text in
    let l : m ≤ n = omega (arith, h) in
    let line = left_of w.1 (line_end w.1.text) in
    beyond-wider m n _ l (
    beyond_if m (is_word (codes "(") w.0) (skipped_comment at w.1 (plain_string 41 w.1.text) next) _
    (skipped-within m at w.1 (plain_string 41 w.1.text) next (plain-within 41 w.1.text) k)
    (beyond_if m (is_word (codes "\\") w.0) (next line) (Word at w.0 w.1)
    (beyond-wider (length line.text) m (next line) (line_end-within w.1.text) (k line)) (omega arith)))

beyond-within : (n : ℕ) (r : Rest) → BeyondWithin (length r.text) (beyond n r)
beyond-within zero r = tt
beyond-within (suc n) r =
    beyond_word-within (length r.text) (start_of r) (next_word r) (beyond n) (next_word-within r) (beyond-within n)

begins_within : (text name : List ℕ) (r : Rest) → BeginsWith text name r → length r.text ≤ length text
begins_within text name r h = subst (BeyondWithin (length text)) h.2 (beyond-within (length text) (rest_at 0 text))

-- a word of one name has no other
other_name : (w : List ℕ) → is_word (codes "fcode-version1") w ≡ true → is_word (codes "fcode-version2") w ≡ false
other_name w h =
    let same : str_to_ascii_lowercase (codes "fcode-version1") ≡ str_to_ascii_lowercase w =
    (bytes_eq-Decides _ _).0 h in
    ap (bytes_eq (str_to_ascii_lowercase (codes "fcode-version2"))) (sym same)

pub decided-version2 : (text : List ℕ) (r : Rest) → BeginsWith text (codes "fcode-version2") r
    → IsDecided text size.Two (beginning r) (parsed text)
unfolding parsed
decided-version2 text r h =
    rw (h.2, h.3) (decided text size.Two (length text) (beginning r) (begins_within text (codes "fcode-version2") r h))

pub decided-version1 : (text : List ℕ) (r : Rest) → BeginsWith text (codes "fcode-version1") r
    → IsDecided text size.One (beginning r) (parsed text)
unfolding parsed
decided-version1 text r h =
    rw (
      h.2,
      other_name h.1 h.3,
      h.3,
    ) (decided text size.One (length text) (beginning r) (begins_within text (codes "fcode-version1") r h))

pub first_word_decides : FirstWordDecides
first_word_decides = record {
  version2 = decided-version2;
  version1 = decided-version1;
  alone = λ text z s a b d e. alone text z d.count e.count s d.state e.state a b d.fits e.fits d.decides e.decides;
}
