-- An accepted text is written as phrases that can stand there.
use Rattle.std.proofs.Common.{◌≡◌, ℕ, zero, suc, ◌+◌, ◌≤◌, Bool, true, false, List, [], ◌∷◌, ◌++◌, length}
use Rattle.std.proofs.Common.{codes, Option, Some, None, Result, Ok, Err, if◌then◌else◌, refl, sym, ap, subst, ◌∙◌}
use Rattle.std.proofs.Common.{arith}
use Rattle.std.proofs.lemmas.List.{length-append}
use Rattle.std.proofs.lemmas.List.Elements.{All-nil}
use Rattle.of_stream.specs.declared.stream.OffsetSize.{OffsetSize}
use Rattle.of_stream.specs.declared.stream.OffsetSize.TheVariants as size
use Rattle.of_source.specs.declared.fault.SourceFault.{SourceFault}
use Rattle.of_source.specs.Items.{Source}
use Rattle.of_source.specs.Nest.{IsNested}
use Rattle.of_scan.specs.Scan.{Rest, rest_at, left_of, start_of, next_word, Found, plain_string, line_end}
use Rattle.of_source.specs.Places.{last_place}
use Rattle.of_source.specs.Steps.{State, Step, Goes, Ends, Fails, beginning, next_step}
use Rattle.of_source.specs.Parsing.{Beyond, Word, Nothing, Bad, is_word, skipped_comment, beyond_word, beyond, trailed}
use Rattle.of_source.specs.Parsing.{stepped, words, begun, misplaced, parsed}
use Rattle.of_source.specs.Phrases.{Spelled, Beginning, Ending, Known, taken, written, each_written, end_written}
use Rattle.of_source.specs.Phrases.{all_written, version_word, text_of, moved, behind, all_behind, place_behind}
use Rattle.of_source.specs.Phrases.{nothing_known, begun_with, items_in}
use Rattle.of_source.specs.Phrases as phrase
use Rattle.of_scan.specs.Words.{IsWord, AreBlanks, EndsWord, EndsLine}
use Rattle.of_source.specs.Written.{IsRemark, AreRemarks, IsBegun, IsSaid, AreSaid}
use Rattle.of_source.specs.Faults.{HasWord}
use Rattle.of_source.specs.Accepted.{IsWritten, AcceptedIsWritten}
use Rattle.of_source.proofs.Kept.{Inv, Kept, kept, parsed_nested}
use Rattle.of_source.proofs.Shrinking.{Shrinks, shrinks, NextWithin, next_word-within, FoundWithin, plain-within}
use Rattle.of_source.proofs.Shrinking.{line_end-within}
use Rattle.of_source.proofs.FoundText.{FoundPlain, FoundWord, plain_found, line_found, next_found, left_place}
use Rattle.of_source.proofs.SaidSteps.{known_at, known_behind, IsNext, IsEnd, SaidNext, said}
use Rattle.of_source.proofs.WrittenLemmas.{head_longer, written_parsed}

-- ---- comments

-- a text is comments and then blanks alone
pub record IsTrailing (all : List ℕ) : Type 0 where
  pub comments : List Spelled
  pub more : List ℕ
  pub text : all ≡ each_written comments more
  pub remarks : AreRemarks comments more
  pub blanks : AreBlanks more

-- a text that begins here is comments and then a word at this place
pub record IsLeading (from : ℕ) (all : List ℕ) (at : ℕ) (word : List ℕ) (r : Rest) : Type 0 where
  pub comments : List Spelled
  pub blanks : List ℕ
  pub text : all ≡ each_written comments (blanks ++ (word ++ r.text))
  pub remarks : AreRemarks comments (blanks ++ (word ++ r.text))
  pub between : AreBlanks blanks
  pub spelled : IsWord word
  pub ends : EndsWord r.text
  pub start : at ≡ place_behind comments from + length blanks
  pub place : r.at ≡ place_behind comments from + length blanks + length word
  pub no_parenthesis : is_word (codes "(") word ≡ false
  pub no_line : is_word (codes "\\") word ≡ false

-- a text that begins here is comments and then one at this place whose end isn't on its line
pub record IsOpenEnded (from : ℕ) (all : List ℕ) (at : ℕ) : Type 0 where
  pub comments : List Spelled
  pub rest : List ℕ
  pub word : HasWord rest
  pub text : all ≡ each_written comments rest
  pub remarks : AreRemarks comments rest
  pub parenthesis : is_word (codes "(") word.word ≡ true
  pub no_end : plain_string 41 word.more ≡ None
  pub start : at ≡ place_behind comments from + length word.blanks

abbrev pub FoundBeyond : Rest → Beyond → Type 0
FoundBeyond r Nothing = IsTrailing r.text
FoundBeyond r (Word at w q) = IsLeading r.at r.text at w q
FoundBeyond r (Bad at) = IsOpenEnded r.at r.text at

-- a comment before what was found
comment_before : (p : Spelled) (r q : Rest) (b : Beyond) → r.text ≡ written p q.text
    → q.at ≡ r.at + length p.blanks + length p.word + length (taken p.phrase)
    → ((more : List ℕ) → q.text ≡ more → IsRemark p more) → FoundBeyond q b → FoundBeyond r b
comment_before p r q Nothing e a k h = record {
  comments = p ∷ h.comments;
  more = h.more;
  text = e ∙ ap (written p) h.text;
  remarks = (k (each_written h.comments h.more) h.text, h.remarks);
  blanks = h.blanks;
}
comment_before p r q (Word at w t) e a k h = record {
  comments = p ∷ h.comments;
  blanks = h.blanks;
  text = e ∙ ap (written p) h.text;
  remarks = (k (each_written h.comments (h.blanks ++ (w ++ t.text))) h.text, h.remarks);
  between = h.between;
  spelled = h.spelled;
  ends = h.ends;
  start = h.start ∙ ap (λ n. place_behind h.comments n + length h.blanks) a;
  place = h.place ∙ ap (λ n. place_behind h.comments n + length h.blanks + length w) a;
  no_parenthesis = h.no_parenthesis;
  no_line = h.no_line;
}
comment_before p r q (Bad at) e a k h = record {
  comments = p ∷ h.comments;
  rest = h.rest;
  word = h.word;
  text = e ∙ ap (written p) h.text;
  remarks = (k (each_written h.comments h.rest) h.text, h.remarks);
  parenthesis = h.parenthesis;
  no_end = h.no_end;
  start = h.start ∙ ap (λ n. place_behind h.comments n + length h.word.blanks) a;
}

-- the word of a comment
abbrev Reads : Rest → List ℕ → Rest → Type 0
Reads r w q = FoundWord r.at r.text (start_of r) (Some (w, q))

-- a phrase of a word that was read, and of what it takes
phrase_place : (r q : Rest) (w : List ℕ) (p : phrase.Phrase) (more : Rest) → (h : Reads r w q)
    → more.at ≡ q.at + length (taken p)
    → more.at ≡ r.at + length h.0 + length w + length (taken p)
phrase_place r q w p more h e = e ∙ ap (λ n. n + length (taken p)) h.6

-- beyond a comment in parentheses
parenthesis_found : (r q : Rest) (w : List ℕ) (o : Found) (next : Rest → Beyond) → Reads r w q
    → is_word (codes "(") w ≡ true → FoundPlain 41 q.text o → plain_string 41 q.text ≡ o
    → ((t : Rest) → (f : List ℕ × List ℕ) → o ≡ Some f → t ≡ left_of q f.1 → FoundBeyond t (next t))
    → FoundBeyond r (skipped_comment (start_of r) q o next)
parenthesis_found r q w None next h e f d k = record {
  comments = [];
  rest = r.text;
  word = record { blanks = h.0; word = w; more = q.text; text = h.1; between = h.2; spelled = h.3; ends = h.4 };
  text = refl;
  remarks = tt;
  parenthesis = e;
  no_end = d;
  start = h.5;
}
parenthesis_found r q w (Some g) next h e f o k =
    let p : Spelled = record { blanks = h.0; word = w; phrase = phrase.Comment f.0 g.0 } in
    comment_before p r (left_of q g.1) (next (left_of q g.1))
    (h.1 ∙ ap (λ l. h.0 ++ (w ++ l)) f.1)
    (phrase_place r q w p.phrase (left_of q g.1) h (left_place q (taken p.phrase) g.1 f.1))
    (λ more d. record {
      blanks = h.2;
      spelled = h.3;
      ends = subst EndsWord (f.1 ∙ ap (λ l. taken p.phrase ++ l) d) h.4;
      means = (e, f.2, f.3);
      followed = tt;
    })
    (k (left_of q g.1) g refl refl)

-- beyond a comment up to the end of its line
line_comment_found : (r q : Rest) (w : List ℕ) (b : Beyond) → Reads r w q → is_word (codes "\\") w ≡ true
    → FoundBeyond (left_of q (line_end q.text)) b → FoundBeyond r b
line_comment_found r q w b h e k =
    let f = line_found q.text in
    let p : Spelled = record { blanks = h.0; word = w; phrase = phrase.LineComment f.0 } in
    comment_before p r (left_of q (line_end q.text)) b
    (h.1 ∙ ap (λ l. h.0 ++ (w ++ l)) f.1)
    (phrase_place r q w p.phrase (left_of q (line_end q.text)) h (left_place q f.0 (line_end q.text) f.1))
    (λ more d. record {
      blanks = h.2;
      spelled = h.3;
      ends = subst EndsWord (f.1 ∙ ap (λ l. f.0 ++ l) d) h.4;
      means = (e, f.2);
      followed = subst EndsLine d f.3;
    }) k

beyond_if : (r q : Rest) (w : List ℕ) (x y : Bool) (next : Rest → Beyond) → is_word (codes "(") w ≡ x
    → is_word (codes "\\") w ≡ y → Reads r w q
    → ((t : Rest) → length t.text ≤ length q.text → FoundBeyond t (next t))
    → FoundBeyond r (if x then skipped_comment (start_of r) q (plain_string 41 q.text) next else
    if y then next (left_of q (line_end q.text)) else Word (start_of r) w q)
beyond_if r q w true y next e d h k =
    parenthesis_found r q w (plain_string 41 q.text) next h e (plain_found 41 q.text refl) refl
    (λ t f g s. k t (shorter t f g s))
  where
    shorter : (t : Rest) (f : List ℕ × List ℕ) → plain_string 41 q.text ≡ Some f → t ≡ left_of q f.1
        → length t.text ≤ length q.text
    shorter t f g s =
        let within : length f.1 ≤ length q.text = subst (FoundWithin (length q.text)) g (plain-within 41 q.text) in
        let same : length t.text ≡ length f.1 = ap (λ (u : Rest). length u.text) s in
        omega (arith, within, same)
beyond_if r q w false true next e d h k =
    line_comment_found r q w (next (left_of q (line_end q.text))) h d
    (k (left_of q (line_end q.text)) (line_end-within q.text))
beyond_if r q w false false next e d h k = record {
  comments = [];
  blanks = h.0;
  text = h.1;
  remarks = tt;
  between = h.2;
  spelled = h.3;
  ends = h.4;
  start = h.5;
  place = h.6;
  no_parenthesis = e;
  no_line = d;
}

beyond_word_found : (n : ℕ) (r : Rest) (o : Option (List ℕ × Rest)) (next : Rest → Beyond)
    → FoundWord r.at r.text (start_of r) o → NextWithin (length r.text) o → length r.text ≤ suc n
    → ((t : Rest) → length t.text ≤ n → FoundBeyond t (next t)) → FoundBeyond r (beyond_word (start_of r) o next)
beyond_word_found n r None next h s l k =
    record { comments = []; more = r.text; text = refl; remarks = tt; blanks = h }
beyond_word_found n r (Some w) next h s l k =
    beyond_if r w.1 w.0 (is_word (codes "(") w.0) (is_word (codes "\\") w.0) next refl refl h
    (λ t m. k t (omega (arith, m, s, l)))

pub no_bytes : (text : List ℕ) → length text ≤ 0 → AreBlanks text
no_bytes [] h = All-nil (λ b. b ≤ 0x20)
no_bytes (b ∷ text) h = absurd (omega (arith, h))

pub beyond_found : (n : ℕ) (r : Rest) → length r.text ≤ n → FoundBeyond r (beyond n r)
beyond_found zero r l =
    record { comments = []; more = r.text; text = refl; remarks = tt; blanks = no_bytes r.text l }
beyond_found (suc n) r l =
    beyond_word_found n r (next_word r) (beyond n) (next_found r.at r.text) (next_word-within r) l (beyond_found n)

-- ---- the words of a source

-- what is left of a text is phrases and the end of a source
record IsRest (z : OffsetSize) (s : State) (src : Source) : Type 0 where
  phrases : List Spelled
  ending : Ending
  text : s.rest.text ≡ all_written phrases ending
  said : AreSaid phrases ending (known_at s.rest.at s)
  items : src.items ≡ (all_behind phrases (known_at s.rest.at s)).items
  size : src.size ≡ z

source_is : (a b : Source) → (let r : Result Source SourceFault = Ok a in r) ≡ Ok b → a ≡ b
source_is a b h = cc

rest_end : (z : OffsetSize) (s t : State) (b : Beyond) (src : Source) → IsEnd s t → FoundBeyond t.rest b
    → trailed z t b ≡ Ok src → IsRest z s src
rest_end z s t Nothing src g f h =
    let e : Ending = record { blanks = g.blanks; word = g.word; comments = f.comments; more = f.more } in
    let here : Source = record { size = z; items = t.items } in
    let same : src ≡ here = sym (source_is here src h) in
    record {
      phrases = [];
      ending = e;
      text = g.text ∙ ap (λ l. g.blanks ++ (g.word ++ l)) f.text;
      said = record {
        blanks = g.between;
        spelled = g.spelled;
        ends = subst EndsWord f.text g.ends;
        own = g.own;
        means = g.means;
        comments = f.remarks;
        more = f.blanks;
      };
      items = ap (λ (x : Source). x.items) same ∙ g.items;
      size = ap (λ (x : Source). x.size) same;
    }
rest_end z s t (Bad at) src g f h = absurd cc
rest_end z s t (Word at w r) src g f h = absurd cc

rest_more : (z : OffsetSize) (s t : State) (src : Source) → IsNext s t → IsRest z t src → IsRest z s src
rest_more z s t src g f = record {
  phrases = g.spelled ∷ f.phrases;
  ending = f.ending;
  text = g.text ∙ ap (written g.spelled) f.text;
  said = (
    subst (IsSaid (known_behind g.spelled.blanks s) g.spelled) f.text g.said,
    subst (AreSaid f.phrases f.ending) g.knows f.said,
  );
  items = f.items ∙ ap (λ (k : Known). (all_behind f.phrases k).items) g.knows;
  size = f.size;
}

pub end_shorter : (s t : State) → IsEnd s t → length t.rest.text ≤ length s.rest.text
end_shorter s t g =
    let e = ap length g.text in
    let a = length-append g.blanks (g.word ++ t.rest.text) in
    let b = length-append g.word t.rest.text in
    omega (arith, e, a, b)

rest_step : (text : List ℕ) (z : OffsetSize) (n : ℕ) (s : State) (x : Step) (src : Source)
    → SaidNext (last_place text) s x → Kept x
    → Shrinks (length s.rest.text) x → length s.rest.text ≤ length text
    → ((t : State) → Inv t → length t.rest.text ≤ length text → words text z n t ≡ Ok src → IsRest z t src)
    → stepped text z x (words text z n) ≡ Ok src → IsRest z s src
rest_step text z n s (Goes t) src g i l o k h = rest_more z s t src g (k t i (omega (arith, l, o)) h)
rest_step text z n s (Ends t) src g i l o k h =
    let m = end_shorter s t g in
    rest_end z s t (beyond (length text) t.rest) src g (beyond_found (length text) t.rest (omega (arith, m, o))) h
rest_step text z n s (Fails f) src g i l o k h = absurd cc

rest_words : (text : List ℕ) (z : OffsetSize) (n : ℕ) (s : State) (src : Source) → Inv s
    → length s.rest.text ≤ length text → words text z n s ≡ Ok src → IsRest z s src
rest_words text z zero s src i l h = absurd cc
rest_words text z (suc n) s src i l h =
    let last = last_place text in
    rest_step text z n s (next_step last s) src (said last s i) (kept last s i) (shrinks last s) l
    (λ t j m e. rest_words text z n t src j m e) h

-- ---- a whole text

-- the beginning that was read
abbrev pub begun_by : (text : List ℕ) (at : ℕ) (w : List ℕ) (r : Rest) → IsLeading 0 text at w r → Beginning
begun_by text at w r l = record { comments = l.comments; blanks = l.blanks; word = w }

pub is_begun : (text : List ℕ) (at : ℕ) (z : OffsetSize) (w : List ℕ) (r : Rest) (more : List ℕ)
    → (l : IsLeading 0 text at w r) → is_word (version_word z) w ≡ true → r.text ≡ more
    → IsBegun z (begun_by text at w r l) more
is_begun text at z w r more l v e = record {
  comments = subst (λ t. AreRemarks l.comments (l.blanks ++ (w ++ t))) e l.remarks;
  blanks = l.between;
  spelled = l.spelled;
  ends = subst EndsWord e l.ends;
  means = v;
}

-- what follows it is no longer than the text
pub begun_longer : (text : List ℕ) (at : ℕ) (w : List ℕ) (r : Rest) → IsLeading 0 text at w r
    → length r.text ≤ length text
begun_longer text at w r l = omega (arith, head_longer (begun_by text at w r l) r.text, ap length l.text)

whole : (text : List ℕ) (at : ℕ) (z : OffsetSize) (w : List ℕ) (r : Rest) (src : Source) → IsLeading 0 text at w r
    → is_word (version_word z) w ≡ true → words text z (length text) (beginning r) ≡ Ok src → IsWritten text src
whole text at z w r src l v h =
    let b = begun_by text at w r l in
    let f = rest_words text z (length text) (beginning r) src refl (begun_longer text at w r l) h in
    let k : nothing_known r.at ≡ begun_with b = ap nothing_known l.place in
    let more = all_written f.phrases f.ending in
    record {
      beginning = b;
      phrases = f.phrases;
      ending = f.ending;
      written = l.text ∙ ap (λ t. each_written l.comments (l.blanks ++ (w ++ t))) f.text;
      begun =
          subst (λ (y : OffsetSize). IsBegun y b more) (sym f.size) (is_begun text at z w r more l v f.text);
      said = subst (AreSaid f.phrases f.ending) k f.said;
      items = f.items ∙ ap (λ (x : Known). (all_behind f.phrases x).items) k;
    }

whole_if : (text : List ℕ) (at : ℕ) (w : List ℕ) (r : Rest) (src : Source) (x y : Bool) → IsLeading 0 text at w r
    → is_word (codes "fcode-version2") w ≡ x → is_word (codes "fcode-version1") w ≡ y
    → (if x then words text size.Two (length text) (beginning r) else
    if y then words text size.One (length text) (beginning r) else Err (misplaced at 16 w)) ≡ Ok src
    → IsWritten text src
whole_if text at w r src true y l e d h = whole text at size.Two w r src l e h
whole_if text at w r src false true l e d h = whole text at size.One w r src l d h
whole_if text at w r src false false l e d h = absurd (refused (misplaced at 16 w) h)
  where
    refused : (f : SourceFault) → (let q : Result Source SourceFault = Err f in q) ≡ Ok src → ⊥
    refused f h = cc

whole_begun : (text : List ℕ) (b : Beyond) (src : Source) → FoundBeyond (rest_at 0 text) b → begun text b ≡ Ok src
    → IsWritten text src
whole_begun text Nothing src f h = absurd cc
whole_begun text (Bad at) src f h = absurd cc
whole_begun text (Word at w r) src f h = whole_if text at w r src _ _ f refl refl h

whole_written : (text : List ℕ) (src : Source) → parsed text ≡ Ok src → IsWritten text src
unfolding parsed
whole_written text src h =
    let r = rest_at 0 text in
    whole_begun text (beyond (length text) r) src (beyond_found (length text) r (omega arith)) h

whole_parsed : (text : List ℕ) (src : Source) → IsWritten text src → IsNested src.items → parsed text ≡ Ok src
whole_parsed text src w n =
    ap parsed w.written
    ∙ written_parsed src.size w.beginning w.phrases w.ending w.begun w.said (subst IsNested w.items n)
    ∙ ap (λ is. Ok (record { size = src.size; items = is })) (sym w.items)

-- a text is accepted just where it is written as phrases of a whole nest
pub accepted_written : AcceptedIsWritten
accepted_written = record {
  accepted = λ text src h. (whole_written text src h, parsed_nested text src h);
  written = whole_parsed;
}
