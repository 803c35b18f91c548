-- A text that is no source has the fault of its first word that can't stand where it does.
use Rattle.std.proofs.Common.{◌≡◌, ℕ, zero, suc, ◌+◌, ◌≤◌, Bool, true, false, ◌||◌, List, [], ◌∷◌, ◌++◌, length, codes}
use Rattle.std.proofs.Common.{Some, Result, Err, if◌then◌else◌, refl, sym, ap, subst, ◌∙◌, arith}
use Rattle.std.specs.Prelude.{option_and_then}
use Rattle.of_stream.specs.declared.stream.OffsetSize.{OffsetSize}
use Rattle.of_stream.specs.declared.stream.OffsetSize.TheVariants as size
use Rattle.of_source.specs.declared.fault.SourceFault.{SourceFault}
use Rattle.of_source.specs.declared.fault.SourceFault.TheVariants.{Unclosed, Unknown}
use Rattle.of_source.specs.Items.{Source}
use Rattle.of_source.specs.Nesting.{Nesting, nothing_open}
use Rattle.of_source.specs.Radix.{base_of}
use Rattle.of_scan.specs.Scan.{Rest, rest_at}
use Rattle.of_source.specs.Places.{last_place}
use Rattle.of_source.specs.Steps.{State, Step, Goes, Ends, Fails, beginning, ended, next_step}
use Rattle.of_source.specs.Parsing.{Beyond, Word, Nothing, Bad, is_word, beyond, trailed, stepped, words, begun}
use Rattle.of_source.specs.Parsing.{misplaced, parsed}
use Rattle.of_source.specs.Phrases.{Spelled, Known, written, each_written, version_word, behind, all_behind}
use Rattle.of_source.specs.Phrases.{nothing_known, begun_with}
use Rattle.of_source.specs.Written.{IsSaid}
use Rattle.of_source.specs.Faults.{all_opened, HasWord, IsAstray, open_comment, another, IsFailure, cut}
use Rattle.of_source.specs.Faults.{late, AllSaid, begins_source, IsFault, no_source, no_beginning, failure}
use Rattle.of_source.specs.Faults.{FaultsAreThese}
use Rattle.of_source.proofs.Kept.{Inv, Kept, kept}
use Rattle.of_source.proofs.Shrinking.{Shrinks, shrinks}
use Rattle.of_source.proofs.SaidSteps.{known_at, known_behind, IsNext, IsEnd, IsStop, SaidNext, said}
use Rattle.of_source.proofs.AcceptedLemmas.{IsLeading, IsOpenEnded, FoundBeyond, beyond_found, no_bytes}
use Rattle.of_source.proofs.FaultsBack.{fault_back}
use Rattle.of_source.proofs.AcceptedLemmas.{end_shorter, begun_by, is_begun, begun_longer}

fault_is : (f g : SourceFault) → (let r : Result Source SourceFault = Err f in r) ≡ Err g → f ≡ g
fault_is f g h = cc

-- ---- beyond comments

astray_comment : (radix : ℕ) (meant : List ℕ → Bool) (r : Rest) (at : ℕ) → IsOpenEnded r.at r.text at
    → IsAstray radix meant r (Unknown at)
astray_comment radix meant r at h =
    subst (λ (n : ℕ). IsAstray radix meant r (Unknown n)) (sym h.start)
    (open_comment h.comments h.rest h.word h.text h.remarks h.parenthesis h.no_end)

astray_word : (radix : ℕ) (meant : List ℕ → Bool) (r q : Rest) (at : ℕ) (w : List ℕ)
    → IsLeading r.at r.text at w q → meant w ≡ false → IsAstray radix meant r (misplaced at radix w)
astray_word radix meant r q at w h m =
    let t = h.blanks ++ (w ++ q.text) in
    let word : HasWord t = record {
      blanks = h.blanks;
      word = w;
      more = q.text;
      text = refl;
      between = h.between;
      spelled = h.spelled;
      ends = h.ends;
    } in
    subst (λ (n : ℕ). IsAstray radix meant r (misplaced n radix w)) (sym h.start)
    (another h.comments t word h.text h.remarks h.no_parenthesis h.no_line m)

-- behind the end of a source
astray_late : (z : OffsetSize) (t : State) (b : Beyond) (f : SourceFault) → FoundBeyond t.rest b
    → trailed z t b ≡ Err f → IsAstray (base_of t.setting.radix) (λ w. false) t.rest f
astray_late z t Nothing f h e = absurd cc
astray_late z t (Bad at) f h e =
    subst (IsAstray (base_of t.setting.radix) (λ w. false) t.rest) (fault_is (Unknown at) f e)
    (astray_comment (base_of t.setting.radix) (λ w. false) t.rest at h)
astray_late z t (Word at w q) f h e =
    subst (IsAstray (base_of t.setting.radix) (λ v. false) t.rest)
    (fault_is (misplaced at (base_of t.setting.radix) w) f e)
    (astray_word (base_of t.setting.radix) (λ v. false) t.rest q at w h refl)

-- ---- the words of a source

-- what is left of a text is phrases and then the fault
record IsBroken (last : ℕ) (s : State) (f : SourceFault) : Type 0 where
  phrases : List Spelled
  more : List ℕ
  nesting : Nesting
  text : s.rest.text ≡ each_written phrases more
  said : AllSaid phrases more (known_at s.rest.at s)
  opens : all_opened phrases (known_at s.rest.at s) s.nesting ≡ Some nesting
  fails : IsFailure last (all_behind phrases (known_at s.rest.at s)) nesting more f

broken_now : (last : ℕ) (s : State) (f : SourceFault) → IsStop last s f → IsBroken last s f
broken_now last s f h = record {
  phrases = [];
  more = s.rest.text;
  nesting = s.nesting;
  text = refl;
  said = tt;
  opens = refl;
  fails = h;
}

broken_more : (last : ℕ) (s t : State) (f : SourceFault) → IsNext s t → IsBroken last t f → IsBroken last s f
broken_more last s t f g h =
    let k = behind g.spelled.word g.spelled.phrase (known_behind g.spelled.blanks s) in
    record {
      phrases = g.spelled ∷ h.phrases;
      more = h.more;
      nesting = h.nesting;
      text = g.text ∙ ap (written g.spelled) h.text;
      said = (
        subst (IsSaid (known_behind g.spelled.blanks s) g.spelled) h.text g.said,
        subst (AllSaid h.phrases h.more) g.knows h.said,
      );
      opens =
          ap (option_and_then (all_opened h.phrases k)) g.opens
          ∙ ap (λ (x : Known). all_opened h.phrases x t.nesting) (sym g.knows) ∙ h.opens;
      fails = subst (λ (x : Known). IsFailure last (all_behind h.phrases x) h.nesting h.more f) g.knows h.fails;
    }

broken_end : (last : ℕ) (z : OffsetSize) (s t : State) (b : Beyond) (f : SourceFault) → IsEnd s t
    → FoundBeyond t.rest b → trailed z t b ≡ Err f → IsStop last s f
broken_end last z s t b f g h e =
    let w : HasWord s.rest.text = record {
      blanks = g.blanks;
      word = g.word;
      more = t.rest.text;
      text = g.text;
      between = g.between;
      spelled = g.spelled;
      ends = g.ends;
    } in
    let r : t.rest ≡ rest_at (s.rest.at + length g.blanks + length g.word) t.rest.text =
    ap (λ a. rest_at a t.rest.text) g.place in
    let a : IsAstray (base_of t.setting.radix) (λ v. false) t.rest f = astray_late z t b f h e in
    let c : IsAstray (base_of s.setting.radix) (λ v. false) t.rest f =
    subst (λ x. IsAstray (base_of x) (λ v. false) t.rest f) g.radix a in
    late f w g.own g.means g.closed (subst (λ (x : Rest). IsAstray (base_of s.setting.radix) (λ v. false) x f) r c)

broken_step : (text : List ℕ) (z : OffsetSize) (n : ℕ) (s : State) (x : Step) (f : SourceFault)
    → SaidNext (last_place text) s x → Kept x → Shrinks (length s.rest.text) x → length s.rest.text ≤ suc n
    → length s.rest.text ≤ length text
    → ((t : State) → Inv t → length t.rest.text ≤ n → length t.rest.text ≤ length text → words text z n t ≡ Err f
    → IsBroken (last_place text) t f)
    → stepped text z x (words text z n) ≡ Err f → IsBroken (last_place text) s f
broken_step text z n s (Goes t) f g i l m o k h =
    broken_more (last_place text) s t f g (k t i (omega (arith, l, m)) (omega (arith, l, o)) h)
broken_step text z n s (Ends t) f g i l m o k h =
    let few = end_shorter s t g in
    let found = beyond_found (length text) t.rest (omega (arith, few, o)) in
    broken_now (last_place text) s f
    (broken_end (last_place text) z s t (beyond (length text) t.rest) f g found h)
broken_step text z n s (Fails e) f g i l m o k h =
    broken_now (last_place text) s f (subst (IsStop (last_place text) s) (fault_is e f h) g)

broken_words : (text : List ℕ) (z : OffsetSize) (n : ℕ) (s : State) (f : SourceFault) → Inv s
    → length s.rest.text ≤ n → length s.rest.text ≤ length text → words text z n s ≡ Err f
    → IsBroken (last_place text) s f
broken_words text z zero s f i m o h =
    let last = last_place text in
    broken_now last s f
    (subst (IsStop last s) (fault_is (ended last s) f h) (cut (no_bytes s.rest.text m)))
broken_words text z (suc n) s f i m o h =
    let last = last_place text in
    broken_step text z n s (next_step last s) f (said last s i) (kept last s i) (shrinks last s) m o
    (λ t j p q e. broken_words text z n t f j p q e) h

-- ---- a whole text

fault_within : (text : List ℕ) (at : ℕ) (z : OffsetSize) (w : List ℕ) (r : Rest) (f : SourceFault)
    → IsLeading 0 text at w r → is_word (version_word z) w ≡ true
    → words text z (length text) (beginning r) ≡ Err f → IsFault text f
fault_within text at z w r f l v h =
    let b = begun_by text at w r l in
    let few = begun_longer text at w r l in
    let g = broken_words text z (length text) (beginning r) f refl few few h in
    let k : nothing_known r.at ≡ begun_with b = ap nothing_known l.place in
    let last = last_place text in
    failure f z b g.phrases g.nesting g.more
    (l.text ∙ ap (λ t. each_written l.comments (l.blanks ++ (w ++ t))) g.text)
    (is_begun text at z w r (each_written g.phrases g.more) l v g.text)
    (subst (AllSaid g.phrases g.more) k g.said)
    (ap (λ (x : Known). all_opened g.phrases x nothing_open) (sym k) ∙ g.opens)
    (subst (λ (x : Known). IsFailure last (all_behind g.phrases x) g.nesting g.more f) k g.fails)

neither : (x y : Bool) → x ≡ false → y ≡ false → (x || y) ≡ false
neither x y e d = rw (e, d) refl

fault_if : (text : List ℕ) (at : ℕ) (w : List ℕ) (r : Rest) (f : SourceFault) (x y : Bool) → IsLeading 0 text at w r
    → is_word (codes "fcode-version2") w ≡ x → is_word (codes "fcode-version1") w ≡ y
    → (if x then words text size.Two (length text) (beginning r) else
    if y then words text size.One (length text) (beginning r) else Err (misplaced at 16 w)) ≡ Err f
    → IsFault text f
fault_if text at w r f true y l e d h = fault_within text at size.Two w r f l e h
fault_if text at w r f false true l e d h = fault_within text at size.One w r f l d h
fault_if text at w r f false false l e d h =
    no_beginning f (subst (IsAstray 16 begins_source (rest_at 0 text)) (fault_is (misplaced at 16 w) f h)
    (astray_word 16 begins_source (rest_at 0 text) r at w l
    (neither (is_word (codes "fcode-version2") w) (is_word (codes "fcode-version1") w) e d)))

fault_begun : (text : List ℕ) (b : Beyond) (f : SourceFault) → FoundBeyond (rest_at 0 text) b → begun text b ≡ Err f
    → IsFault text f
fault_begun text Nothing f l h =
    subst (IsFault text) (fault_is (Unclosed (last_place text)) f h)
    (no_source l.comments l.more l.text l.remarks l.blanks)
fault_begun text (Bad at) f l h =
    no_beginning f (subst (IsAstray 16 begins_source (rest_at 0 text)) (fault_is (Unknown at) f h)
    (astray_comment 16 begins_source (rest_at 0 text) at l))
fault_begun text (Word at w r) f l h = fault_if text at w r f _ _ l refl refl h

fault_parsed : (text : List ℕ) (f : SourceFault) → parsed text ≡ Err f → IsFault text f
unfolding parsed
fault_parsed text f h =
    let r = rest_at 0 text in
    fault_begun text (beyond (length text) r) f (beyond_found (length text) r (omega arith)) h

-- the fault of a text is that of its first word that can't stand where it does
pub faults : FaultsAreThese
faults = record { refused = fault_parsed; faulty = λ text f h. fault_back text h }
