-- A source that is right so far is accepted behind the words that complete it.
use Rattle.std.proofs.Common.{◌≡◌, ℕ, zero, suc, ◌+◌, ◌-◌, ◌<◌, ◌≤◌, Bool, true, false, ◌&&◌, List, [], ◌∷◌, ◌++◌}
use Rattle.std.proofs.Common.{codes, Option, Some, None, nat_lt, if◌then◌else◌, refl, sym, ap, subst, ◌∙◌, arith}
use Rattle.std.proofs.Common.{Result, Ok, append_assoc}
use Rattle.std.specs.Prelude.{option_and_then}
use Rattle.std.specs.List.{All, list_all}
use Rattle.std.specs.Str.{str_eq_ignore_ascii_case}
use Rattle.std.proofs.lemmas.Bool.Decides.{nat_tests}
use Rattle.std.proofs.lemmas.List.{append-nil}
use Rattle.std.proofs.lemmas.List.Elements.{All-nil, All-cons, All-head, All-tail}
use Rattle.of_stream.specs.declared.stream.OffsetSize.{OffsetSize}
use Rattle.of_source.specs.declared.keyword.Keyword.TheVariants as keyword
use Rattle.of_source.specs.declared.keyword.Lone.{Lone}
use Rattle.of_source.specs.declared.keyword.Lone.TheVariants as lone
use Rattle.of_source.specs.declared.nesting.Part.{Part}
use Rattle.of_source.specs.Effects.{all_names, effect_of, known_with}
use Rattle.of_source.specs.declared.nesting.Part.TheVariants as part
use Rattle.of_source.specs.Completion.{AreFree, PrefixesGoOn, begun_text, closing_word, closing_words, completion}
use Rattle.of_source.specs.Completion.{on_lines, thens}
use Rattle.of_source.specs.Faults.{AllSaid, all_opened, opened}
use Rattle.of_source.specs.declared.fault.SourceFault.{SourceFault}
use Rattle.of_source.specs.Items.{Item, Source}
use Rattle.of_source.specs.Parsing.{parsed}
use Rattle.of_source.specs.Items as item
use Rattle.of_source.specs.Keywords.{control_rows, keyword_named, text_rows}
use Rattle.of_source.specs.Names.{Own, own_in}
use Rattle.of_source.specs.Nesting.{Nesting, is_same, nothing_open}
use Rattle.of_source.specs.Phrases.{Phrase, Spelled, Beginning, Ending, Known, all_behind, all_written, begun_with}
use Rattle.of_source.specs.Phrases.{behind}
use Rattle.of_source.specs.Phrases.{each_written, end_written, items_in, items_of, moved, taken, text_of, written}
use Rattle.of_source.specs.Phrases as phrase
use Rattle.of_source.specs.Shapes.{Shape, nothing, floor_of, is_even, closing, opens, pushed, run, shape_of, when}
use Rattle.of_scan.specs.Words.{AreBlanks, EndsWord, IsWord}
use Rattle.of_source.specs.Written.{AreSaid, IsBegun, IsPlaced, IsSaid}
use Rattle.of_source.proofs.FaultsBack.{opened_first, opened_runs}
use Rattle.of_source.proofs.FollowedLemmas.{said_on, begun_on}
use Rattle.of_source.proofs.Kept.{run-append}
use Rattle.of_source.proofs.RunLemmas.{closed_part, shape}
use Rattle.of_source.proofs.ShapeLemmas.{nested}
use Rattle.of_source.proofs.WrittenLemmas.{written_parsed}

-- ---- each part knows no more branches than are open before it

abbrev Stacked : ℕ → List (Part × ℕ) → Type 0
Stacked c [] = Unit {0}
Stacked c (p ∷ ps) = (p.1 ≤ c) × Stacked p.1 ps

abbrev IsStacked : Shape → Type 0
IsStacked o = Stacked o.count o.parts

stacked_at : (c d : ℕ) (ps : List (Part × ℕ)) → Stacked c ps → floor_of ps ≤ d → Stacked d ps
stacked_at c d [] h l = tt
stacked_at c d (p ∷ ps) h l = (l, h.1)

floor_low : (c : ℕ) (ps : List (Part × ℕ)) → Stacked c ps → floor_of ps ≤ c
floor_low c [] h = omega arith
floor_low c (p ∷ ps) h = h.0

same_stacked : (x p : Shape) → Some x ≡ Some p → IsStacked x → IsStacked p
same_stacked x p h s = let e : x ≡ p = cc in subst IsStacked e s

when_stacked : (b : Bool) (x p : Shape) → when b x ≡ Some p → (b ≡ true → IsStacked x) → IsStacked p
when_stacked true x p h s = same_stacked x p h (s refl)
when_stacked false x p h s = absurd cc

closing_stacked : (k : Part) (n : ℕ) (ps : List (Part × ℕ)) (p : Shape) → closing k n ps ≡ Some p → Stacked n ps
    → IsStacked p
closing_stacked k n [] p h s = absurd cc
closing_stacked k n (q ∷ qs) p h s =
    let l = floor_low q.1 qs s.1 in
    when_stacked (is_same q.0 k && is_even k q.1 n) (record { count = n; parts = qs }) p h
    (λ e. stacked_at q.1 n qs s.1 (omega (arith, l, s.0)))

below : (f c : ℕ) → nat_lt f c ≡ true → f ≤ c - 1
below f c h = let l : f < c = grind (arith, nat_tests, h) in omega (arith, l)

pushed_stacked : (k : Part) (o : Shape) → IsStacked o → IsStacked (pushed k o)
pushed_stacked k o s = (omega arith, s)

opens_stacked : (i : Item) (o p : Shape) → opens i o ≡ Some p → IsStacked o → IsStacked p
opens_stacked (item.Plain t) o p h s = same_stacked o p h s
opens_stacked (item.Colon m) o p h s =
    when_stacked _ (pushed part.Definition o) p h (λ e. pushed_stacked part.Definition o s)
opens_stacked (item.Defining m t) o p h s = when_stacked _ o p h (λ e. s)
opens_stacked item.Semicolon o p h s = closing_stacked part.Definition o.count o.parts p h s
opens_stacked (item.If l) o p h s =
    let f = floor_low o.count o.parts s in
    same_stacked (record { count = o.count + 1; parts = o.parts }) p h
    (stacked_at o.count (o.count + 1) o.parts s (omega (arith, f)))
opens_stacked (item.Else l) o p h s = when_stacked _ o p h (λ e. s)
opens_stacked item.Then o p h s =
    when_stacked _ (record { count = o.count - 1; parts = o.parts }) p h
    (λ e. stacked_at o.count (o.count - 1) o.parts s (below (floor_of o.parts) o.count e))
opens_stacked item.Begin o p h s = same_stacked (pushed part.Begin o) p h (pushed_stacked part.Begin o s)
opens_stacked (item.Back z l) o p h s = closing_stacked part.Begin o.count o.parts p h s
opens_stacked (item.Do q l) o p h s = same_stacked (pushed part.Do o) p h (pushed_stacked part.Do o s)
opens_stacked (item.Loop q l) o p h s = closing_stacked part.Do o.count o.parts p h s
opens_stacked item.Leave o p h s = when_stacked _ o p h (λ e. s)
opens_stacked item.Case o p h s = same_stacked (pushed part.Case o) p h (pushed_stacked part.Case o s)
opens_stacked (item.Of l) o p h s = when_stacked _ (pushed part.Of o) p h (λ e. pushed_stacked part.Of o s)
opens_stacked (item.EndOf l) o p h s = closing_stacked part.Of o.count o.parts p h s
opens_stacked item.EndCase o p h s = closing_stacked part.Case o.count o.parts p h s

first_stacked : (i : Item) (is : List Item) (o p : Shape)
    → ((q : Shape) → run is q ≡ Some p → IsStacked q → IsStacked p)
    → (r : Option Shape) → opens i o ≡ r → option_and_then (run is) r ≡ Some p → IsStacked o → IsStacked p
first_stacked i is o p others None e h s = absurd cc
first_stacked i is o p others (Some q) e h s = others q h (opens_stacked i o q e s)

run_stacked : (is : List Item) (o p : Shape) → run is o ≡ Some p → IsStacked o → IsStacked p
run_stacked [] o p h s = same_stacked o p h s
run_stacked (i ∷ is) o p h s = first_stacked i is o p (λ q. run_stacked is q p) (opens i o) refl h s

-- ---- one word more

-- a word closes, whatever stands before it
record IsClosing (w : List ℕ) (key : Lone) : Type 0 where
  spelled : IsWord w
  means : keyword_named w ≡ Some (keyword.Lone key)
  placed : (k : Known) → IsPlaced k w (phrase.Alone key)

no_blanks : (w : List ℕ) → list_all (λ b. nat_lt 0x20 b) w ≡ true → All (λ b. 0x20 < b) w
no_blanks [] h = All-nil (λ b. 0x20 < b)
no_blanks (b ∷ w) h =
    let t = both (nat_lt 0x20 b) (list_all (λ c. nat_lt 0x20 c) w) h in
    All-cons (λ c. 0x20 < c) b w (grind (arith, nat_tests, t.0)) (no_blanks w t.1)
  where
    both : (x y : Bool) → (x && y) ≡ true → (x ≡ true) × (y ≡ true)
    both true y h = (refl, h)
    both false y h = absurd cc

then_closing : IsClosing (codes "then") lone.Then
unfolding keyword_named text_rows control_rows
then_closing =
    record { spelled = (omega arith, no_blanks (codes "then") refl); means = refl; placed = λ k. tt }

-- the keyword that closes a part
abbrev closer : Part → Lone
closer part.Definition = lone.Semicolon
closer part.Begin = lone.Back false
closer part.Do = lone.Loop false
closer part.Case = lone.EndCase
closer part.Of = lone.EndOf

part_closing : (k : Part) → IsClosing (closing_word k) (closer k)
unfolding keyword_named text_rows control_rows
part_closing part.Definition =
    record { spelled = (omega arith, no_blanks (codes ";") refl); means = refl; placed = λ k. tt }
part_closing part.Begin =
    record { spelled = (omega arith, no_blanks (codes "again") refl); means = refl; placed = λ k. tt }
part_closing part.Do =
    record { spelled = (omega arith, no_blanks (codes "loop") refl); means = refl; placed = λ k. tt }
part_closing part.Case =
    record { spelled = (omega arith, no_blanks (codes "endcase") refl); means = refl; placed = λ k. tt }
part_closing part.Of =
    record { spelled = (omega arith, no_blanks (codes "endof") refl); means = refl; placed = λ k. tt }

-- the end of a source on a line of its own
abbrev last_line : Ending
last_line = record { blanks = 10 ∷ []; word = codes "fcode-end"; comments = []; more = [] }

line_end_blank : AreBlanks (10 ∷ [])
line_end_blank = All-cons (λ b. b ≤ 0x20) 10 [] (omega arith) (All-nil (λ b. b ≤ 0x20))

ends_line : (words : List (List ℕ)) → EndsWord (on_lines words)
ends_line [] = tt
ends_line (w ∷ words) = omega arith

-- these words are phrases that complete a source
record Finishes (words : List (List ℕ)) (k : Known) : Type 0 where
  phrases : List Spelled
  text : all_written phrases last_line ≡ on_lines words
  said : AreSaid phrases last_line k
  runs : run (all_behind phrases k).items nothing ≡ Some nothing

-- what is known behind a keyword on a line of its own
abbrev behind_line : List ℕ → Lone → Known → Known
behind_line w key k = behind w (phrase.Alone key) (moved (10 ∷ []) k)

word_more : (w : List ℕ) (key : Lone) (words : List (List ℕ)) (k : Known) → IsClosing w key
    → own_in k.setting.names w ≡ None → Finishes words (behind_line w key k) → Finishes (w ∷ words) k
word_more w key words k c n f = record {
  phrases = record { blanks = 10 ∷ []; word = w; phrase = phrase.Alone key } ∷ f.phrases;
  text = ap (λ t. 10 ∷ w ++ t) f.text;
  said = (
    record {
      blanks = line_end_blank;
      spelled = c.spelled;
      ends = subst EndsWord (sym f.text) (ends_line words);
      own = n;
      means = c.means;
      placed = c.placed (moved (10 ∷ []) k);
      followed = tt;
    },
    f.said,
  );
  runs = f.runs;
}

end_now : (k : Known) → own_in k.setting.names (codes "fcode-end") ≡ None → run k.items nothing ≡ Some nothing
    → Finishes (codes "fcode-end" ∷ []) k
unfolding keyword_named text_rows
end_now k n r = record {
  phrases = [];
  text = refl;
  said = record {
    blanks = line_end_blank;
    spelled = (omega arith, no_blanks (codes "fcode-end") refl);
    ends = tt;
    own = n;
    means = refl;
    comments = tt;
    more = All-nil (λ b. b ≤ 0x20);
  };
  runs = r;
}

-- ---- names

-- what is free with the open definition is free without it
free_now : (one : Option Own) (names : List Own) (w : List ℕ) → own_in (known_with one names) w ≡ None
    → own_in names w ≡ None
free_now None names w h = h
free_now (Some d) names w h = either (str_eq_ignore_ascii_case d.name w) h
  where
    either : (b : Bool) → (if b then Some d.number else own_in names w) ≡ None → own_in names w ≡ None
    either true h = absurd cc
    either false h = h

abbrev Free : List Own → List ℕ → Type 0
Free names w = own_in names w ≡ None

free_at : (k : Known) (names : List Own) (w : List ℕ) → all_names k.setting ≡ names → Free names w
    → own_in k.setting.names w ≡ None
free_at k names w e h = free_now k.setting.open_one k.setting.names w (ap (λ ds. own_in ds w) e ∙ h)

behind_thens : (n : ℕ) (words : List (List ℕ)) (names : List Own) → All (Free names) (thens n words)
    → All (Free names) words
behind_thens zero words names h = h
behind_thens (suc n) words names h = behind_thens n words names (All-tail (Free names) (codes "then") (thens n words) h)

-- ---- branches

then_run : (n m : ℕ) (ps : List (Part × ℕ)) → floor_of ps ≤ m
    → run (item.Then ∷ []) (shape (suc n + m) ps) ≡ Some (shape (n + m) ps)
then_run n m ps l =
    let t : nat_lt (floor_of ps) (suc n + m) ≡ true = grind (arith, nat_tests, l) in
    let e : suc n + m - 1 ≡ n + m = omega arith in
    rw t (ap (λ c. Some (shape c ps)) e)

then_more : (n m : ℕ) (ps : List (Part × ℕ)) (k : Known) → floor_of ps ≤ m
    → run k.items nothing ≡ Some (shape (suc n + m) ps)
    → run (behind_line (codes "then") lone.Then k).items nothing ≡ Some (shape (n + m) ps)
then_more n m ps k l r =
    run-append k.items (item.Then ∷ []) nothing ∙ ap (option_and_then (run (item.Then ∷ []))) r ∙ then_run n m ps l

thens_finish : (n m : ℕ) (ps : List (Part × ℕ)) (words : List (List ℕ)) (k : Known) (names : List Own)
    → all_names k.setting ≡ names → All (Free names) (thens n words)
    → run k.items nothing ≡ Some (shape (n + m) ps) → floor_of ps ≤ m
    → ((l : Known) → all_names l.setting ≡ names → run l.items nothing ≡ Some (shape m ps)
    → Finishes words l)
    → Finishes (thens n words) k
thens_finish zero m ps words k names e a r l next =
    let z : 0 + m ≡ m = omega arith in next k e (subst (λ c. run k.items nothing ≡ Some (shape c ps)) z r)
thens_finish (suc n) m ps words k names e a r l next =
    word_more (codes "then") lone.Then (thens n words) k then_closing
    (free_at k names (codes "then") e (All-head (Free names) (codes "then") (thens n words) a))
    (thens_finish n m ps words (behind_line (codes "then") lone.Then k) names e
    (All-tail (Free names) (codes "then") (thens n words) a) (then_more n m ps k l r) l next)

-- ---- parts

closer_run : (k : Part) (at b : ℕ) (one : Option Own) (ps : List (Part × ℕ))
    → run ((effect_of (closer k)).gives at one) (shape b ((k, b) ∷ ps)) ≡ Some (shape b ps)
closer_run part.Definition at b one ps = ap (option_and_then (run [])) (closed_part part.Definition b b ps refl)
closer_run part.Begin at b one ps = ap (option_and_then (run [])) (closed_part part.Begin b b ps refl)
closer_run part.Do at b one ps = ap (option_and_then (run [])) (closed_part part.Do b b ps refl)
closer_run part.Case at b one ps = ap (option_and_then (run [])) (closed_part part.Case b b ps refl)
closer_run part.Of at b one ps = ap (option_and_then (run [])) (closed_part part.Of b b ps refl)

-- the names behind a closer
closer_names : (k : Part) (w : List ℕ) (l : Known)
    → all_names (behind w (phrase.Alone (closer k)) l).setting
    ≡ all_names l.setting
closer_names part.Definition w l = refl
closer_names part.Begin w l = refl
closer_names part.Do w l = refl
closer_names part.Case w l = refl
closer_names part.Of w l = refl

part_more : (k : Part) (b : ℕ) (ps : List (Part × ℕ)) (l : Known)
    → run l.items nothing ≡ Some (shape b ((k, b) ∷ ps))
    → run (behind_line (closing_word k) (closer k) l).items nothing ≡ Some (shape b ps)
part_more k b ps l r =
    let at = (moved (10 ∷ []) l).at in
    let is = (effect_of (closer k)).gives at l.setting.open_one in
    run-append l.items is nothing ∙ ap (option_and_then (run is)) r ∙ closer_run k at b l.setting.open_one ps

all_finish : (ps : List (Part × ℕ)) (count : ℕ) (k : Known) (names : List Own)
    → all_names k.setting ≡ names → Stacked count ps → All (Free names) (closing_words count ps)
    → run k.items nothing ≡ Some (shape count ps) → Finishes (closing_words count ps) k
all_finish [] count k names e s a r =
    let z : count ≡ count + 0 = omega arith in
    let last = codes "fcode-end" ∷ [] in
    let free = All-head (Free names) (codes "fcode-end") [] (behind_thens count last names a) in
    thens_finish count 0 [] last k names e a (subst (λ c. run k.items nothing ≡ Some (shape c [])) z r) (omega arith)
    (λ l f q. end_now l (free_at l names (codes "fcode-end") f free) q)
all_finish (p ∷ ps) count k names e s a r =
    let z : count ≡ count - p.1 + p.1 = omega (arith, s.0) in
    let w = closing_word p.0 in
    let words = closing_words p.1 ps in
    let free = behind_thens (count - p.1) (w ∷ words) names a in
    thens_finish (count - p.1) p.1 (p ∷ ps) (w ∷ words) k names e a
    (subst (λ c. run k.items nothing ≡ Some (shape c (p ∷ ps))) z r) (omega arith)
    (λ l f q.
    word_more w (closer p.0) words l (part_closing p.0)
    (free_at l names w f (All-head (Free names) w words free))
    (all_finish ps p.1 (behind_line w (closer p.0) l) names
    (closer_names p.0 w (moved (10 ∷ []) l) ∙ f) s.1 (All-tail (Free names) w words free) (part_more p.0 p.1 ps l q)))

-- ---- phrases, and then others

each_joined : (ps qs : List Spelled) (t : List ℕ) → each_written (ps ++ qs) t ≡ each_written ps (each_written qs t)
each_joined [] qs t = refl
each_joined (p ∷ ps) qs t = ap (written p) (each_joined ps qs t)

behind_joined : (ps qs : List Spelled) (k : Known) → all_behind (ps ++ qs) k ≡ all_behind qs (all_behind ps k)
behind_joined [] qs k = refl
behind_joined (p ∷ ps) qs k = behind_joined ps qs (behind p.word p.phrase (moved p.blanks k))

said_joined : (ps qs : List Spelled) (e : Ending) (k : Known) → AllSaid ps (all_written qs e) k
    → AreSaid qs e (all_behind ps k) → AreSaid (ps ++ qs) e k
said_joined [] qs e k a s = s
said_joined (p ∷ ps) qs e k a s =
    let here = moved p.blanks k in (
      subst (IsSaid here p) (sym (each_joined ps qs (end_written e))) a.0,
      said_joined ps qs e (behind p.word p.phrase here) a.1 s,
    )

-- the items of phrases stand behind those before them
items_grow : (qs : List Spelled) (k : Known) → (more : List Item) × ((all_behind qs k).items ≡ k.items ++ more)
items_grow [] k = ([], sym (append-nil k.items))
items_grow (q ∷ qs) k =
    let here = moved q.blanks k in
    let is = items_of q.phrase here in
    let r = items_grow qs (behind q.word q.phrase here) in
    (is ++ r.0, r.1 ∙ append_assoc k.items is r.0)

-- ---- the law

-- what completes a source begins with a line's end
abbrev BeginsLine : List ℕ → Type 0
BeginsLine text = (t : List ℕ) × (text ≡ 10 ∷ t)

thens_line : (n : ℕ) (w : List ℕ) (words : List (List ℕ)) → BeginsLine (on_lines (thens n (w ∷ words)))
thens_line zero w words = (w ++ on_lines words, refl)
thens_line (suc n) w words = (codes "then" ++ on_lines (thens n (w ∷ words)), refl)

closing_line : (ps : List (Part × ℕ)) (count : ℕ) → BeginsLine (on_lines (closing_words count ps))
closing_line [] count = thens_line count (codes "fcode-end") []
closing_line (p ∷ ps) count = thens_line (count - p.1) (closing_word p.0) (closing_words p.1 ps)

completed : (z : OffsetSize) (b : Beginning) (ps : List Spelled) (more : List ℕ) (o : Shape)
    → IsBegun z b (each_written ps more) → AllSaid ps more (begun_with b) → run (items_in b ps) nothing ≡ Some o
    → AreFree (completion o) (all_behind ps (begun_with b))
    → (items : List Item)
    × (parsed (begun_text b ps (on_lines (completion o))) ≡ Ok (record { size = z; items = items_in b ps ++ items }))
completed z b ps more o begun said r free =
    let k = all_behind ps (begun_with b) in
    let f = all_finish o.parts o.count k (all_names k.setting) refl
    (run_stacked (items_in b ps) nothing o r tt)
    free r in
    let line = closing_line o.parts o.count in
    let text : all_written f.phrases last_line ≡ 10 ∷ line.0 = f.text ∙ line.1 in
    let all = ps ++ f.phrases in
    let joined : all_written all last_line ≡ each_written ps (all_written f.phrases last_line) =
    each_joined ps f.phrases (end_written last_line) in
    let known : all_behind all (begun_with b) ≡ all_behind f.phrases k = behind_joined ps f.phrases (begun_with b) in
    let begins : IsBegun z b (all_written all last_line) =
    subst (IsBegun z b) (sym (joined ∙ ap (each_written ps) text)) (begun_on z b ps more line.0 begun) in
    let says : AreSaid all last_line (begun_with b) =
    said_joined ps f.phrases last_line (begun_with b)
    (subst (λ t. AllSaid ps t (begun_with b)) (sym text) (said_on ps (begun_with b) more line.0 said)) f.said in
    let closes : run (items_in b all) nothing ≡ Some nothing =
    ap (λ (l : Known). run l.items nothing) known ∙ f.runs in
    let grown = items_grow f.phrases k in
    let items : items_in b all ≡ items_in b ps ++ grown.0 = ap (λ (l : Known). l.items) known ∙ grown.1 in
    let source : List Item → Result Source SourceFault = λ is. Ok (record { size = z; items = is }) in (
      grown.0,
      ap (λ t. parsed (each_written b.comments (b.blanks ++ (b.word ++ t))))
          (sym (joined ∙ ap (each_written ps) f.text))
          ∙ written_parsed z b all last_line begins says (nested (items_in b all) closes)
          ∙ ap source items,
    )

opened_all : (ps : List Spelled) (k : Known) (n m : Nesting) → all_opened ps k n ≡ Some m
    → run k.items nothing ≡ Some (shape_of n) → run (all_behind ps k).items nothing ≡ Some (shape_of m)
opened_all [] k n m h r =
    let e : n ≡ m = cc in r ∙ ap (λ (x : Nesting). Some (shape_of x)) e
opened_all (p ∷ ps) k n m h r =
    let here = moved p.blanks k in
    let l = behind p.word p.phrase here in
    let is = items_of p.phrase here in
    let q = opened_first ps l (opened p.phrase here.at n) m h in
    opened_all ps l q.first m q.rest
    (run-append k.items is nothing ∙ ap (option_and_then (run is)) r ∙ opened_runs p.phrase here n q.first q.opens)

pub prefixes_go_on : PrefixesGoOn
prefixes_go_on = record {
  completed = completed;
  left_open = λ b ps n h. opened_all ps (begun_with b) nothing_open n h refl;
}
