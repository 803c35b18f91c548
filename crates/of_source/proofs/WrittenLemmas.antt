-- Phrases that are those of a nest are accepted.
use Rattle.std.proofs.Common.{◌≡◌, ℕ, zero, suc, ◌+◌, ◌<◌, ◌≤◌, true, false, List, [], ◌∷◌, ◌++◌, length, codes}
use Rattle.std.proofs.lemmas.Option.{same_Some}
use Rattle.std.proofs.Common.{Some, Ok, refl, sym, ap, subst, ◌∙◌, arith}
use Rattle.std.specs.Str.{bytes_eq, str_to_ascii_lowercase}
use Rattle.std.proofs.lemmas.Slice.Eq.{bytes_eq-Decides}
use Rattle.std.proofs.lemmas.List.{length-append}
use Rattle.of_stream.specs.declared.stream.OffsetSize.{OffsetSize}
use Rattle.of_stream.specs.declared.stream.OffsetSize.TheVariants as size
use Rattle.of_source.specs.declared.keyword.Keyword.TheVariants as keyword
use Rattle.of_source.specs.Nesting.{Nesting, nothing_open, is_closed}
use Rattle.of_source.specs.Shapes.{Shape, nothing, run, shape_of}
use Rattle.of_scan.specs.Scan.{Rest, rest_at, left_of, start_of, next_word}
use Rattle.of_source.specs.Places.{last_place}
use Rattle.of_source.specs.Steps.{Ends, beginning, at_next, with_next, ended, word_step, next_step}
use Rattle.of_source.specs.Parsing.{Beyond, Word, Nothing, is_word, skipped_comment, beyond_word, beyond, trailed}
use Rattle.of_source.specs.Parsing.{parsed}
use Rattle.of_source.specs.Order.{behind_word, behind_words, outcome_at, IsDecided}
use Rattle.of_source.specs.Phrases.{Phrase, Spelled, Beginning, Ending, Known, begun_with, place_behind, moved, taken}
use Rattle.of_source.specs.Phrases.{written, each_written, end_written, all_written, version_word, text_of, items_of}
use Rattle.of_source.specs.Phrases.{behind, all_behind, items_in}
use Rattle.of_source.specs.Phrases as phrase
use Rattle.of_scan.specs.Words.{IsWord, AreBlanks}
use Rattle.of_source.specs.Written.{IsFollowed, IsSaid, IsComment, IsRemark, AreRemarks, IsBegun, IsEnded, AreSaid}
use Rattle.of_source.specs.Written.{WrittenIsParsed}
use Rattle.of_source.proofs.Deciding.{first_word_decides, decided-version1, decided-version2}
use Rattle.of_source.proofs.Kept.{Kept, kept}
use Rattle.of_source.proofs.RunLemmas.{nested_runs, earlier_runs, later_run}
use Rattle.of_source.proofs.ReadingBack.{Parts, ends_part, word_after, start_after, no_word_after, left_behind}
use Rattle.of_source.proofs.ReadingBack.{plain_behind, line_left}
use Rattle.of_source.proofs.Opening.{closed_goes}
use Rattle.of_source.proofs.PhraseSteps.{state_at, GoesOn, goes_by, phrase_goes, keyed, when_so}

-- ---- words that are known

-- a word of one name is none of another that differs in small letters
other_name : (name other word : List ℕ) → is_word name word ≡ true
    → bytes_eq (str_to_ascii_lowercase other) (str_to_ascii_lowercase name) ≡ false → is_word other word ≡ false
other_name name other word h e =
    let same : str_to_ascii_lowercase name ≡ str_to_ascii_lowercase word = (bytes_eq-Decides _ _).0 h in
    ap (bytes_eq (str_to_ascii_lowercase other)) (sym same) ∙ e

no_comment : (z : OffsetSize) (word : List ℕ) → is_word (version_word z) word ≡ true → is_word (codes "(") word ≡ false
no_comment size.One word h = other_name (codes "fcode-version1") (codes "(") word h refl
no_comment size.Two word h = other_name (codes "fcode-version2") (codes "(") word h refl

no_line_comment : (z : OffsetSize) (word : List ℕ) → is_word (version_word z) word ≡ true
    → is_word (codes "\\") word ≡ false
no_line_comment size.One word h = other_name (codes "fcode-version1") (codes "\\") word h refl
no_line_comment size.Two word h = other_name (codes "fcode-version2") (codes "\\") word h refl

no_parenthesis : (word : List ℕ) → is_word (codes "\\") word ≡ true → is_word (codes "(") word ≡ false
no_parenthesis word h = other_name (codes "\\") (codes "(") word h refl

-- ---- one phrase

-- the next word is the one behind the blanks
pub read_word : (last at : ℕ) (blanks word more : List ℕ) (k : Known) (n : Nesting) → AreBlanks blanks → IsWord word
    → Parts more
    → next_step last (state_at at (rest_at k.at (blanks ++ (word ++ more))) k n)
    ≡ word_step last word
    (state_at (moved blanks k).at (rest_at ((moved blanks k).at + length word) more) (moved blanks k) n)
read_word last at blanks word more k n b h p =
    let s = state_at at (rest_at k.at (blanks ++ (word ++ more))) k n in
    ap (λ o. with_next (ended last s) o (λ w r. word_step last w (at_next r s)))
    (word_after blanks k.at word more b h p)
    ∙ ap (λ a. word_step last word (state_at a (rest_at (k.at + length blanks + length word) more) k n))
    (start_after blanks k.at word more b h)

pub said_goes : (last at : ℕ) (p : Spelled) (k : Known) (n : Nesting) (more : List ℕ) (o : Shape)
    → IsSaid (moved p.blanks k) p more → run k.items nothing ≡ Some (shape_of n)
    → run (behind p.word p.phrase (moved p.blanks k)).items nothing ≡ Some o
    → GoesOn (next_step last (state_at at (rest_at k.at (written p more)) k n))
    (behind p.word p.phrase (moved p.blanks k))
    (rest_at (behind p.word p.phrase (moved p.blanks k)).at more)
said_goes last at p k n more o h r e =
    let l = moved p.blanks k in
    goes_by _ _ (behind p.word p.phrase l) _
    (read_word last at p.blanks p.word (taken p.phrase ++ more) k n h.blanks h.spelled
    (ends_part (taken p.phrase ++ more) h.ends))
    (phrase_goes last (l.at + length p.word) p.word p.phrase l n more h.own h.means h.placed r
    (o, later_run k.items (items_of p.phrase l) (shape_of n) o r e) h.followed)

-- ---- comments before the first word and behind the last

-- behind the word of a comment
abbrev pub word_end : Spelled → ℕ → ℕ
word_end p at = at + length p.blanks + length p.word

remark_read : (p : Spelled) (at : ℕ) (more : List ℕ) (n : ℕ) → IsRemark p more
    → beyond (suc n) (rest_at at (written p more))
    ≡ beyond_word (start_of (rest_at at (written p more)))
    (Some (p.word, rest_at (word_end p at) (taken p.phrase ++ more))) (beyond n)
remark_read p at more n h =
    ap (λ o. beyond_word (start_of (rest_at at (written p more))) o (beyond n))
    (word_after p.blanks at p.word (taken p.phrase ++ more) h.blanks h.spelled
    (ends_part (taken p.phrase ++ more) h.ends))

-- a comment is passed, by its word
comment_passed : (word : List ℕ) (p : Phrase) (start from : ℕ) (more : List ℕ) (next : Rest → Beyond)
    → IsComment word p → IsFollowed p more
    → beyond_word start (Some (word, rest_at from (taken p ++ more))) next
    ≡ next (rest_at (from + length (taken p)) more)
comment_passed word (phrase.Comment b bytes) start from more next h f =
    let r = rest_at from ((b ∷ bytes ++ 41 ∷ []) ++ more) in
    rw h.0 (ap (λ o. skipped_comment start r o next) (plain_behind 41 b bytes more h.1 h.2)
    ∙ ap next (left_behind from (b ∷ bytes ++ 41 ∷ []) more))
comment_passed word (phrase.LineComment bytes) start from more next h f =
    let r = rest_at from (bytes ++ more) in
    rw (no_parenthesis word h.0, h.0) (ap (λ t. next (left_of r t)) (line_left bytes more h.1 f)
    ∙ ap next (left_behind from bytes more))
comment_passed word _ start from more next h f = absurd h

remark_passed : (p : Spelled) (at : ℕ) (more : List ℕ) (n : ℕ) → IsRemark p more
    → beyond (suc n) (rest_at at (written p more))
    ≡ beyond n (rest_at (word_end p at + length (taken p.phrase)) more)
remark_passed p at more n h =
    remark_read p at more n h
    ∙ comment_passed p.word p.phrase (start_of (rest_at at (written p more))) (word_end p at) more (beyond n) h.means
    h.followed

-- a phrase has a byte at least
pub some_written : (p : Spelled) (more : List ℕ) → IsWord p.word → length more < length (written p more)
some_written p more h =
    let a = length-append (taken p.phrase) more in
    let b = length-append p.word (taken p.phrase ++ more) in
    let c = length-append p.blanks (p.word ++ (taken p.phrase ++ more)) in
    let some : 0 < length p.word = h.0 in
    omega (arith, a, b, c, some)

-- what lies beyond comments, where as many words as bytes may be passed
pub record Passed (n at : ℕ) (ps : List Spelled) (more : List ℕ) : Type 0 where
  pub left : ℕ
  pub enough : length more ≤ left
  pub passes : beyond n (rest_at at (each_written ps more)) ≡ beyond left (rest_at (place_behind ps at) more)

pub remarks_passed : (ps : List Spelled) (n at : ℕ) (more : List ℕ) → AreRemarks ps more
    → length (each_written ps more) ≤ n → Passed n at ps more
remarks_passed [] n at more h l = record { left = n; enough = l; passes = refl }
remarks_passed (p ∷ ps) zero at more h l =
    let s = some_written p (each_written ps more) h.0.spelled in
    absurd (omega (arith, s, l))
remarks_passed (p ∷ ps) (suc n) at more h l =
    let s = some_written p (each_written ps more) h.0.spelled in
    let w = remarks_passed ps n (word_end p at + length (taken p.phrase)) more h.1 (omega (arith, s, l)) in
    record {
      left = w.left;
      enough = w.enough;
      passes = remark_passed p at (each_written ps more) n h.0 ∙ w.passes;
    }

-- ---- the end

pub nothing_beyond : (n at : ℕ) (more : List ℕ) → AreBlanks more → beyond n (rest_at at more) ≡ Nothing
nothing_beyond zero at more h = refl
nothing_beyond (suc n) at more h =
    ap (λ o. beyond_word (start_of (rest_at at more)) o (beyond n)) (no_word_after more at h)

-- the place behind the word that ends a source
abbrev ended_at : Ending → Known → ℕ
ended_at e k = (moved e.blanks k).at + length e.word

-- what is left behind that word
abbrev trailing : Ending → List ℕ
trailing e = each_written e.comments e.more

pub end_goes : (last at : ℕ) (e : Ending) (k : Known) (n : Nesting) → IsEnded k e
    → run k.items nothing ≡ Some (shape_of n) → run k.items nothing ≡ Some nothing
    → next_step last (state_at at (rest_at k.at (end_written e)) k n)
    ≡ Ends (state_at (moved e.blanks k).at (rest_at (ended_at e k) (trailing e)) (moved e.blanks k) n)
end_goes last at e k n h r c =
    let s = state_at (moved e.blanks k).at (rest_at (ended_at e k) (trailing e)) (moved e.blanks k) n in
    let closed = closed_goes n.branches n.parts (same_Some (shape_of n) nothing (sym r ∙ c)) in
    read_word last at e.blanks e.word (trailing e) k n h.blanks h.spelled (ends_part (trailing e) h.ends)
    ∙ keyed last e.word s (Some keyword.Finish) h.own h.means
    ∙ when_so (is_closed n) (Ends s) _ closed

end_decides : (text : List ℕ) (z : OffsetSize) (e : Ending) (at from : ℕ) (k : Known) (n : Nesting)
    → AreRemarks e.comments e.more → AreBlanks e.more → length (trailing e) ≤ length text
    → outcome_at text z (Ends (state_at at (rest_at from (trailing e)) k n))
    ≡ Some (Ok (record { size = z; items = k.items }))
end_decides text z e at from k n h m l =
    let w = remarks_passed e.comments (length text) from e.more h l in
    ap (λ b. Some (trailed z (state_at at (rest_at from (trailing e)) k n) b))
    (w.passes ∙ nothing_beyond w.left (place_behind e.comments from) e.more m)

-- the end of a source has the bytes behind its word
end_longer : (e : Ending) → length (trailing e) ≤ length (end_written e)
end_longer e =
    let a = length-append e.word (trailing e) in
    let b = length-append e.blanks (e.word ++ trailing e) in
    omega (arith, a, b)

-- ---- all phrases

-- where all items fit, those of the phrases before fit
pub before_runs : (ps : List Spelled) (k : Known) (o : Shape) → run (all_behind ps k).items nothing ≡ Some o
    → (p : Shape) × (run k.items nothing ≡ Some p)
before_runs [] k o h = (o, h)
before_runs (p ∷ ps) k o h =
    let w = before_runs ps (behind p.word p.phrase (moved p.blanks k)) o h in
    earlier_runs k.items (items_of p.phrase (moved p.blanks k)) w.0 w.1

all_decide : (text : List ℕ) (z : OffsetSize) (ps : List Spelled) (e : Ending) (at : ℕ) (k : Known) (n : Nesting)
    → length (all_written ps e) ≤ length text → AreSaid ps e k → run k.items nothing ≡ Some (shape_of n)
    → run (all_behind ps k).items nothing ≡ Some nothing
    → IsDecided text z (state_at at (rest_at k.at (all_written ps e)) k n)
    (Ok (record { size = z; items = (all_behind ps k).items }))
all_decide text z [] e at k n t h r c = record {
  count = 0;
  state = state_at at (rest_at k.at (end_written e)) k n;
  fits = refl;
  decides =
      ap (outcome_at text z) (end_goes (last_place text) at e k n h r c)
      ∙ end_decides text z e (moved e.blanks k).at (ended_at e k) (moved e.blanks k) n h.comments h.more
      (omega (arith, end_longer e, t));
}
all_decide text z (p ∷ ps) e at k n t h r c =
    let last = last_place text in
    let l = behind p.word p.phrase (moved p.blanks k) in
    let w = before_runs ps l nothing c in
    let s = state_at at (rest_at k.at (written p (all_written ps e))) k n in
    let g = said_goes last at p k n (all_written ps e) w.0 h.0 r w.1 in
    let i : run l.items nothing ≡ Some (shape_of g.nesting) = subst Kept g.goes (kept last s r) in
    let m = some_written p (all_written ps e) h.0.spelled in
    let d = all_decide text z ps e g.at l g.nesting (omega (arith, m, t)) h.1 i c in
    record {
      count = suc d.count;
      state = d.state;
      fits = ap (λ st. behind_word st (behind_words last d.count)) g.goes ∙ d.fits;
      decides = d.decides;
    }

-- ---- a whole text

pub first_word : (n at : ℕ) (text w : List ℕ) (r : Rest) → 0 < n → next_word (rest_at at text) ≡ Some (w, r)
    → is_word (codes "(") w ≡ false → is_word (codes "\\") w ≡ false
    → beyond n (rest_at at text) ≡ Word (start_of (rest_at at text)) w r
first_word zero at text w r l h a b = absurd (omega (arith, l))
first_word (suc n) at text w r l h a b =
    ap (λ o. beyond_word (start_of (rest_at at text)) o (beyond n)) h ∙ rw (a, b) refl

-- the word that begins a source, behind its comments
abbrev pub headed : Beginning → List ℕ → List ℕ
headed b more = b.blanks ++ (b.word ++ more)

-- where it begins
abbrev pub head_at : Beginning → List ℕ → ℕ
head_at b more = start_of (rest_at (place_behind b.comments 0) (headed b more))

pub version_first : (z : OffsetSize) (b : Beginning) (more : List ℕ) → IsBegun z b more
    → beyond (length (each_written b.comments (headed b more))) (rest_at 0 (each_written b.comments (headed b more)))
    ≡ Word (head_at b more) b.word (rest_at (begun_with b).at more)
version_first z b more h =
    let text = each_written b.comments (headed b more) in
    let w = remarks_passed b.comments (length text) 0 (headed b more) h.comments (omega arith) in
    let some : 0 < length b.word = h.spelled.0 in
    let l = length-append b.word more in
    let m = length-append b.blanks (b.word ++ more) in
    let enough : length (headed b more) ≤ w.left = w.enough in
    let at = place_behind b.comments 0 in
    w.passes
    ∙ first_word w.left at (headed b more) b.word (rest_at (begun_with b).at more) (omega (arith, some, l, m, enough))
    (word_after b.blanks at b.word more h.blanks h.spelled (ends_part more h.ends))
    (no_comment z b.word h.means) (no_line_comment z b.word h.means)

-- the words of a source are no more bytes than the text has
pub head_longer : (b : Beginning) (more : List ℕ) → length more ≤ length (each_written b.comments (headed b more))
head_longer b more =
    let l = length-append b.word more in
    let m = length-append b.blanks (b.word ++ more) in
    omega (arith, l, m, each_longer b.comments (headed b more))
  where
    each_longer : (ps : List Spelled) (more : List ℕ) → length more ≤ length (each_written ps more)
    each_longer [] more = omega arith
    each_longer (p ∷ ps) more =
        let t = each_written ps more in
        let a = length-append (taken p.phrase) t in
        let b = length-append p.word (taken p.phrase ++ t) in
        let c = length-append p.blanks (p.word ++ (taken p.phrase ++ t)) in
        omega (arith, a, b, c, each_longer ps more)

-- phrases that are those of a whole nest are accepted, with its items
pub written_parsed : WrittenIsParsed
written_parsed size.One b ps e begun said nested =
    let text = text_of b ps e in
    let more = all_written ps e in
    let r = rest_at (begun_with b).at more in
    first_word_decides.alone text size.One (beginning r) (parsed text) _
    (decided-version1 text r (head_at b more, b.word, version_first size.One b more begun, begun.means))
    (all_decide text size.One ps e (begun_with b).at (begun_with b) nothing_open (head_longer b more) said refl
    (nested_runs (items_in b ps) nested))
written_parsed size.Two b ps e begun said nested =
    let text = text_of b ps e in
    let more = all_written ps e in
    let r = rest_at (begun_with b).at more in
    first_word_decides.alone text size.Two (beginning r) (parsed text) _
    (decided-version2 text r (head_at b more, b.word, version_first size.Two b more begun, begun.means))
    (all_decide text size.Two ps e (begun_with b).at (begun_with b) nothing_open (head_longer b more) said refl
    (nested_runs (items_in b ps) nested))
