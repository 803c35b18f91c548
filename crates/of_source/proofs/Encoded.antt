-- The tokens of an accepted source have bytes, where there are FCodes for all definitions; these are numbered in their
-- order, and made before they are used.
use Rattle.std.proofs.Common.{◌≡◌, ℕ, ◌+◌, ◌<◌, ◌≤◌, Bool, true, false, not, ◌&&◌, List, [], ◌∷◌, ◌++◌, length, Option}
use Rattle.std.proofs.Common.{Some, None, Ok, if◌then◌else◌, refl, sym, ap, subst, ◌∙◌, arith}
use Rattle.std.specs.Prelude.{option_and_then, is_some}
use Rattle.std.specs.List.{All}
use Rattle.std.proofs.lemmas.Bool.{and_parts, false≢true}
use Rattle.std.proofs.lemmas.List.Elements.{All-append, All-cons}
use Rattle.std.specs.Str.{str_eq_ignore_ascii_case}
use Rattle.of_fcodes.specs.declared.codes.FCode.{FCode}
use Rattle.of_stream.specs.Decoding.{Argument, Code}
use Rattle.of_source.specs.declared.keyword.Definer.TheVariants as definer
use Rattle.of_source.specs.declared.keyword.Keyword.TheVariants as keyword
use Rattle.of_source.specs.declared.keyword.Lone.TheVariants as lone
use Rattle.of_source.specs.declared.keyword.Maker.{Maker}
use Rattle.of_source.specs.declared.keyword.Quote.{Quote}
use Rattle.of_source.specs.declared.keyword.Quote.TheVariants as quote
use Rattle.of_source.specs.declared.nesting.Part.{Part}
use Rattle.of_source.specs.declared.nesting.Part.TheVariants as part
use Rattle.of_source.specs.Encodable.{AreEncodable, AreMadeInOrder, HasBytes, IsNumbered, IsSound, defines, definitions}
use Rattle.of_source.specs.Encodable.{IsAmong, NamesAmong, UsesAmong, made_by, most_definitions}
use Rattle.of_source.specs.Items.{Item, Made, Source, call, string, naming, bare, own_code}
use Rattle.of_source.specs.Items as item
use Rattle.of_source.specs.Keywords.{ordinary_named}
use Rattle.of_source.specs.Names.{Own, own_in}
use Rattle.of_source.specs.Nest.{IsNested}
use Rattle.of_source.specs.Nesting.{is_same}
use Rattle.of_source.specs.Parsing.{parsed}
use Rattle.of_source.specs.Phrases.{Phrase, Spelled, Ending, Known, all_behind, behind, begun_with, items_in, items_of}
use Rattle.of_source.specs.Phrases.{moved, quote_if}
use Rattle.of_source.specs.Effects.{known_with, recursion}
use Rattle.of_source.specs.Phrases as phrase
use Rattle.of_source.specs.Shapes.{Shape, nothing, around_of, around_part, closing, is_even, opens, pushed, run, when}
use Rattle.of_source.specs.Steps.{code_named, named_code, number_token, string_items}
use Rattle.of_scan.specs.Strings.{pieces_bytes}
use Rattle.of_source.specs.Written.{AreSaid, IsKeyword, IsPlaced, own_of}
use Rattle.of_source.proofs.AcceptedLemmas.{accepted_written}
use Rattle.of_source.proofs.RunLemmas.{nested_runs, earlier_runs, later_run}
use Rattle.of_source.proofs.ShapeLemmas.{not_true, same_kind, when_some}
use Rattle.of_source.proofs.Tables.{IsBare, bare_bytes, bare_good, keyword_good, making_bytes, naming_bytes}
use Rattle.of_source.proofs.Tables.{number_bytes}
use Rattle.of_source.proofs.Tables.{naming_low, number_among, one_low, ordinary_low, two_low}
use Rattle.of_source.proofs.Tables.{offset16_bytes, ordinary_bare, own_bare, string_bytes, two_good, type_bytes}
use Rattle.of_source.proofs.WrittenLemmas.{before_runs}

-- ---- items that neither begin a definition nor end one

abbrev IsInner : Item → Type 0
IsInner (item.Colon m) = ⊥
IsInner (item.Defining m t) = ⊥
IsInner item.Semicolon = ⊥
IsInner _ = Unit {0}

abbrev AreInner : List Item → Type 0
AreInner [] = Unit {0}
AreInner (i ∷ is) = IsInner i × AreInner is

makes_none : (i : Item) → IsInner i → made_by i ≡ None
makes_none (item.Colon m) h = absurd h
makes_none (item.Defining m t) h = absurd h
makes_none _ h = refl

inner_count : (is : List Item) → AreInner is → definitions is ≡ 0
inner_count [] h = refl
inner_count (i ∷ is) h =
    let count : Bool → ℕ = λ b. if b then 1 else 0 in
    let e : count (defines i) ≡ 0 = ap (λ (o : Option Made). count (is_some o)) (makes_none i h.0) in
    omega (arith, e, inner_count is h.1)

among_more : (m n : ℕ) (i : Item) → m ≤ n → UsesAmong m i → UsesAmong n i
among_more m n (item.Plain t) l h = (omega (arith, l, h.0), names t.argument h.1)
  where
    names : (a : Argument) → NamesAmong m a → NamesAmong n a
    names (Code c) h = omega (arith, l, h)
    names _ h = tt
among_more m n _ l h = tt

-- such items use the first n definitions at most
abbrev AllAmong : ℕ → List Item → Type 0
AllAmong n [] = Unit {0}
AllAmong n (i ∷ is) = UsesAmong n i × AllAmong n is

all_more : (is : List Item) (m n : ℕ) → m ≤ n → AllAmong m is → AllAmong n is
all_more [] m n l h = tt
all_more (i ∷ is) m n l h = (among_more m n i l h.0, all_more is m n l h.1)

inner_numbers : (is : List Item) (n : ℕ) → AreInner is → AllAmong n is → AreMadeInOrder n is
inner_numbers [] n h u = tt
inner_numbers (i ∷ is) n h u = (
  subst (IsNumbered n) (sym (makes_none i h.0)) tt,
  u.0,
  inner_numbers is _ h.1 (all_more is n _ (omega arith) u.1),
)

-- whether a definition is open
abbrev in_one : Shape → Bool
in_one o = (around_of o.parts).defines

same_part : (x p : Shape) → Some x ≡ Some p → in_one p ≡ in_one x
same_part x p h = let e : x ≡ p = cc in ap (λ (o : Shape). in_one o) (sym e)

when_same : (b : Bool) (x p : Shape) → when b x ≡ Some p → in_one p ≡ in_one x
when_same true x p h = same_part x p h
when_same false x p h = absurd cc

part_around : (k : Part) (ps : List (Part × ℕ)) → is_same k part.Definition ≡ false
    → (around_part k (around_of ps)).defines ≡ (around_of ps).defines
part_around part.Definition ps h = absurd cc
part_around part.Begin ps h = refl
part_around part.Do ps h = refl
part_around part.Case ps h = refl
part_around part.Of ps h = refl

closing_same : (k : Part) (n : ℕ) (ps : List (Part × ℕ)) (p : Shape) → is_same k part.Definition ≡ false
    → closing k n ps ≡ Some p → in_one p ≡ (around_of ps).defines
closing_same k n [] p e h = absurd cc
closing_same k n (q ∷ ps) p e h =
    let o : Shape = record { count = n; parts = ps } in
    let w = when_some (is_same q.0 k && is_even k q.1 n) o (run []) p
    (some_run (is_same q.0 k && is_even k q.1 n) o p h) in
    let s : q.0 ≡ k = same_kind q.0 k (and_parts (is_same q.0 k) (is_even k q.1 n) w.0).0 in
    same_part o p w.1
    ∙ sym (part_around k ps e)
    ∙ ap (λ (j : Part). (around_part j (around_of ps)).defines) (sym s)
  where
    some_run : (b : Bool) (o p : Shape) → when b o ≡ Some p → option_and_then (run []) (when b o) ≡ Some p
    some_run true o p h = h
    some_run false o p h = h

inner_around : (i : Item) (o p : Shape) → IsInner i → opens i o ≡ Some p → in_one p ≡ in_one o
inner_around (item.Plain t) o p n h = same_part _ p h
inner_around (item.Colon m) o p n h = absurd n
inner_around (item.Defining m t) o p n h = absurd n
inner_around item.Semicolon o p n h = absurd n
inner_around (item.If l) o p n h = same_part _ p h
inner_around (item.Else l) o p n h = when_same _ _ p h
inner_around item.Then o p n h = when_same _ _ p h
inner_around item.Begin o p n h = same_part (pushed part.Begin o) p h
inner_around (item.Back z l) o p n h = closing_same part.Begin o.count o.parts p refl h
inner_around (item.Do q l) o p n h = same_part (pushed part.Do o) p h
inner_around (item.Loop q l) o p n h = closing_same part.Do o.count o.parts p refl h
inner_around item.Leave o p n h = when_same _ _ p h
inner_around item.Case o p n h = same_part (pushed part.Case o) p h
inner_around (item.Of l) o p n h = when_same _ (pushed part.Of o) p h
inner_around (item.EndOf l) o p n h = closing_same part.Of o.count o.parts p refl h
inner_around item.EndCase o p n h = closing_same part.Case o.count o.parts p refl h

first_inner : (i : Item) (is : List Item) (o p : Shape) → IsInner i
    → ((q : Shape) → run is q ≡ Some p → in_one p ≡ in_one q) → (r : Option Shape) → opens i o ≡ r
    → option_and_then (run is) r ≡ Some p → in_one p ≡ in_one o
first_inner i is o p n others None e h = absurd cc
first_inner i is o p n others (Some q) e h = others q h ∙ inner_around i o q n e

inner_run : (is : List Item) (o p : Shape) → AreInner is → run is o ≡ Some p → in_one p ≡ in_one o
inner_run [] o p n h = same_part o p h
inner_run (i ∷ is) o p n h = first_inner i is o p n.0 (λ q e. inner_run is q p n.1 e) (opens i o) refl h

-- ---- what is known behind phrases

abbrev AreBelow : ℕ → List Own → Type 0
AreBelow n [] = Unit {0}
AreBelow n (d ∷ ds) = (d.number < n) × AreBelow n ds

abbrev IsBelow : ℕ → Option Own → Type 0
IsBelow n None = Unit {0}
IsBelow n (Some d) = d.number < n

abbrev opened : Option Own → ℕ
opened None = 0
opened (Some d) = 1

-- each definition that was made can be named, but the open one, which is none outside definitions; they are numbered
-- in their order, and the tokens so far have bytes
record Inv (names : List Own) (one : Option Own) (items : List Item) : Type 0 where
  counted : length names + opened one ≡ definitions items
  known : AreBelow (definitions items) names
  latest : IsBelow (definitions items) one
  outside : (o : Shape) → run items nothing ≡ Some o → in_one o ≡ false → one ≡ None
  in_order : AreMadeInOrder 0 items
  bytes : AreEncodable items

abbrev Holds : Known → Type 0
Holds k = Inv k.setting.names k.setting.open_one k.items

raised : (m n : ℕ) (ds : List Own) → m ≤ n → AreBelow m ds → AreBelow n ds
raised m n [] l h = tt
raised m n (d ∷ ds) l h = (omega (arith, l, h.0), raised m n ds l h.1)

raised_one : (m n : ℕ) (o : Option Own) → m ≤ n → IsBelow m o → IsBelow n o
raised_one m n None l h = tt
raised_one m n (Some d) l h = omega (arith, l, h)

both_counted : (xs ys : List Item) → definitions (xs ++ ys) ≡ definitions xs + definitions ys
both_counted [] ys = omega arith
both_counted (x ∷ xs) ys = either (defines x) (both_counted xs ys)
  where
    either : (b : Bool) → definitions (xs ++ ys) ≡ definitions xs + definitions ys
        → (if b then 1 else 0) + definitions (xs ++ ys) ≡ (if b then 1 else 0) + definitions xs + definitions ys
    either b h = omega (arith, h)

both_numbered : (n : ℕ) (xs ys : List Item) → AreMadeInOrder n xs → AreMadeInOrder (n + definitions xs) ys
    → AreMadeInOrder n (xs ++ ys)
both_numbered n [] ys f g = let e : n + 0 ≡ n = omega arith in subst (λ k. AreMadeInOrder k ys) e g
both_numbered n (x ∷ xs) ys f g =
    let one = if defines x then 1 else 0 in
    let e : n + (one + definitions xs) ≡ n + one + definitions xs = omega arith in
    (f.0, f.1, both_numbered (n + one) xs ys f.2 (subst (λ k. AreMadeInOrder k ys) e g))

nothing_more : All HasBytes []
nothing_more = λ k d l. absurd (omega (arith, l))

one_more : (i : Item) → HasBytes i → All HasBytes (i ∷ [])
one_more i h = All-cons HasBytes i [] h nothing_more

two_more : (i j : Item) → HasBytes i → HasBytes j → All HasBytes (i ∷ j ∷ [])
two_more i j h k = All-cons HasBytes i (j ∷ []) h (one_more j k)

-- more items that neither begin a definition nor end one
stays : (names : List Own) (one : Option Own) (items more : List Item) (o : Shape) → AreInner more
    → run items nothing ≡ Some o → AllAmong (definitions items) more
    → (definitions items ≤ most_definitions → All HasBytes more) → Inv names one items
    → Inv names one (items ++ more)
stays names one items more o n r u b h =
    let e : definitions (items ++ more) ≡ definitions items =
    omega (arith, both_counted items more, inner_count more n) in
    record {
      counted = h.counted ∙ sym e;
      known = subst (λ d. AreBelow d names) (sym e) h.known;
      latest = subst (λ d. IsBelow d one) (sym e) h.latest;
      outside = λ p s t. h.outside o r (sym (inner_run more o p n (later_run items more o p r s)) ∙ t);
      in_order =
          both_numbered 0 items more h.in_order
          (inner_numbers more (0 + definitions items) n (all_more more _ _ (omega arith) u));
      bytes = λ l. All-append HasBytes items more (h.bytes (omega (arith, l, e))) (b (omega (arith, l, e)));
    }

one_stays : (k : Known) (i : Item) (o : Shape) → IsInner i → run k.items nothing ≡ Some o
    → UsesAmong (definitions k.items) i → HasBytes i → Holds k
    → Inv k.setting.names k.setting.open_one (k.items ++ i ∷ [])
one_stays k i o n r u b h =
    stays k.setting.names k.setting.open_one k.items (i ∷ []) o (n, tt) r (u, tt) (λ l. one_more i b) h

two_stay : (k : Known) (i j : Item) (o : Shape) → IsInner i → IsInner j → run k.items nothing ≡ Some o
    → UsesAmong (definitions k.items) i → UsesAmong (definitions k.items) j → HasBytes i → HasBytes j → Holds k
    → Inv k.setting.names k.setting.open_one (k.items ++ i ∷ j ∷ [])
two_stay k i j o m n r u v b c h =
    stays k.setting.names k.setting.open_one k.items (i ∷ j ∷ []) o (m, (n, tt)) r (u, (v, tt))
    (λ l. two_more i j b c) h

none_stay : (k : Known) (o : Shape) → run k.items nothing ≡ Some o → Holds k
    → Inv k.setting.names k.setting.open_one (k.items ++ [])
none_stay k o r h = stays k.setting.names k.setting.open_one k.items [] o tt r tt (λ l. nothing_more) h

-- ---- definitions

-- outside definitions the next number is how many there are
none_open : (names : List Own) (one : Option Own) (n : ℕ) → one ≡ None → length names + opened one ≡ n
    → length names ≡ n
none_open names one n e h =
    let c : length names + 0 ≡ n = subst (λ (o : Option Own). length names + opened o ≡ n) e h in omega (arith, c)

-- the definition that begins behind these names
abbrev next : Maker → List ℕ → List Own → Made
next maker name names = record { maker = maker; name = name; number = length names }

begins_one : (maker : Maker) (name : List ℕ) (names : List Own) (one : Option Own) (items : List Item) (o q : Shape)
    → length name ≤ 31 → run items nothing ≡ Some o → run (item.Colon (next maker name names) ∷ []) o ≡ Some q
    → Inv names one items
    → Inv names (Some (record { name = name; number = length names }))
    (items ++ item.Colon (next maker name names) ∷ [])
begins_one maker name names one items o q s r f h =
    let i = item.Colon (next maker name names) in
    let w = when_some (not (in_one o)) (pushed part.Definition o) (run []) q f in
    let none = h.outside o r (not_true (in_one o) w.0) in
    let n : length names ≡ definitions items = none_open names one (definitions items) none h.counted in
    let c = both_counted items (i ∷ []) in
    record {
      counted = omega (arith, c, n);
      known = raised (definitions items) _ names (omega (arith, c)) h.known;
      latest = omega (arith, c, n);
      outside =
          λ p t u.
          let v = when_some (not (in_one o)) (pushed part.Definition o) (run []) p (later_run items (i ∷ []) o p r t) in
          absurd (false≢true (sym u ∙ same_part (pushed part.Definition o) p v.1));
      in_order = both_numbered 0 items (i ∷ []) h.in_order (omega (arith, n), tt, tt);
      bytes =
          λ l. All-append HasBytes items (i ∷ []) (h.bytes (omega (arith, l, c)))
          (one_more i (making_bytes maker name (length names) (omega (arith, s)) (omega (arith, l, c, n))));
    }

makes_one : (maker : Maker) (name : List ℕ) (t : FCode) (names : List Own) (one : Option Own) (items : List Item)
    (o q : Shape) → length name ≤ 31 → IsBare t → run items nothing ≡ Some o
    → run (item.Defining (next maker name names) t ∷ []) o ≡ Some q → Inv names one items
    → Inv (record { name = name; number = length names } ∷ names) one
    (items ++ item.Defining (next maker name names) t ∷ [])
makes_one maker name t names one items o q s b r f h =
    let i = item.Defining (next maker name names) t in
    let w = when_some (not (in_one o)) o (run []) q f in
    let none = h.outside o r (not_true (in_one o) w.0) in
    let n : length names ≡ definitions items = none_open names one (definitions items) none h.counted in
    let c = both_counted items (i ∷ []) in
    record {
      counted = omega (arith, c, h.counted);
      known = (omega (arith, c, n), raised (definitions items) _ names (omega (arith, c)) h.known);
      latest = raised_one (definitions items) _ one (omega (arith, c)) h.latest;
      outside = λ p t u. none;
      in_order = both_numbered 0 items (i ∷ []) h.in_order (omega (arith, n), tt, tt);
      bytes =
          λ l. All-append HasBytes items (i ∷ []) (h.bytes (omega (arith, l, c)))
          (one_more i
          (making_bytes maker name (length names) (omega (arith, s)) (omega (arith, l, c, n)), bare_bytes t b));
    }

ends_one : (names : List Own) (one : Option Own) (items : List Item) → Inv names one items
    → Inv (known_with one names) None (items ++ item.Semicolon ∷ [])
ends_one names None items h =
    let c = both_counted items (item.Semicolon ∷ []) in
    record {
      counted = omega (arith, c, h.counted);
      known = raised (definitions items) _ names (omega (arith, c)) h.known;
      latest = tt;
      outside = λ p t u. refl;
      in_order = both_numbered 0 items (item.Semicolon ∷ []) h.in_order (tt, tt, tt);
      bytes =
          λ l. All-append HasBytes items (item.Semicolon ∷ []) (h.bytes (omega (arith, l, c)))
          (one_more item.Semicolon tt);
    }
ends_one names (Some d) items h =
    let c = both_counted items (item.Semicolon ∷ []) in
    record {
      counted = omega (arith, c, h.counted);
      known = raised (definitions items) _ (d ∷ names) (omega (arith, c)) (h.latest, h.known);
      latest = tt;
      outside = λ p t u. refl;
      in_order = both_numbered 0 items (item.Semicolon ∷ []) h.in_order (tt, tt, tt);
      bytes =
          λ l. All-append HasBytes items (item.Semicolon ∷ []) (h.bytes (omega (arith, l, c)))
          (one_more item.Semicolon tt);
    }

-- an FCode of the board is none of a definition
board : (c : FCode) (n : ℕ) → c.0 < 0x800 → IsAmong n c
board c n l = omega (arith, l)

-- ---- names

own_below : (n : ℕ) (ds : List Own) (name : List ℕ) (k : ℕ) → AreBelow n ds → own_in ds name ≡ Some k → k < n
own_below n [] name k h e = absurd cc
own_below n (d ∷ ds) name k h e =
    pick h.0 (own_below n ds name k h.1) (str_eq_ignore_ascii_case d.name name) e
  where
    pick : d.number < n → (own_in ds name ≡ Some k → k < n) → (b : Bool)
        → (if b then Some d.number else own_in ds name) ≡ Some k → k < n
    pick l f true e = let q : d.number ≡ k = cc in subst (λ x. x < n) q l
    pick l f false e = f e

named_bare : (name : List ℕ) (n : ℕ) (ds : List Own) (c : FCode) → AreBelow n ds → n ≤ most_definitions
    → code_named ds name ≡ Some c → IsBare c
named_bare name n ds c h l e = either (own_in ds name) refl e
  where
    either : (o : Option ℕ) → own_in ds name ≡ o → named_code o (ordinary_named name) ≡ Some c → IsBare c
    either None t e = ordinary_bare name c e
    either (Some k) t e =
        let q : own_code k ≡ c = cc in
        let b = own_below n ds name k h t in
        subst IsBare q (own_bare k (omega (arith, b, l)))

named_among : (name : List ℕ) (n : ℕ) (ds : List Own) (c : FCode) → AreBelow n ds → code_named ds name ≡ Some c
    → IsAmong n c
named_among name n ds c h e = either (own_in ds name) refl e
  where
    either : (o : Option ℕ) → own_in ds name ≡ o → named_code o (ordinary_named name) ≡ Some c → IsAmong n c
    either None t e = board c n (ordinary_low name c e)
    either (Some k) t e =
        let q : own_code k ≡ c = cc in
        let b = own_below n ds name k h t in
        subst (IsAmong n) q (omega (arith, b))

-- the open definition calls itself
recursion_inner : (one : Option Own) → AreInner (recursion one)
recursion_inner None = tt
recursion_inner (Some d) = (tt, tt)

recursion_among : (one : Option Own) (n : ℕ) → IsBelow n one → AllAmong n (recursion one)
recursion_among None n h = tt
recursion_among (Some d) n h = ((omega (arith, h), tt), tt)

recursion_bytes : (one : Option Own) (n : ℕ) → IsBelow n one → n ≤ most_definitions → All HasBytes (recursion one)
recursion_bytes None n h l = nothing_more
recursion_bytes (Some d) n h l =
    one_more (item.Plain (call (own_code d.number)))
    (bare_bytes (own_code d.number) (own_bare d.number (omega (arith, h, l))))

-- ---- phrases

strings : (q : Quote) (bytes : List ℕ) (k : Known) (o : Shape) → length bytes ≤ 255
    → run k.items nothing ≡ Some o → Holds k → Inv k.setting.names k.setting.open_one (k.items ++ string_items q bytes)
strings quote.Printed bytes k o l r h =
    two_stay k (item.Plain (string bytes)) (item.Plain (bare 0x090)) o tt tt r (omega arith, tt) (omega arith, tt)
    (string_bytes bytes (omega (arith, l))) type_bytes h
strings _ bytes k o l r h =
    one_stays k (item.Plain (string bytes)) o tt r (omega arith, tt) (string_bytes bytes (omega (arith, l))) h

phrase_keeps : (p : Phrase) (k : Known) (word : List ℕ) (o q : Shape) → own_in k.setting.names word ≡ own_of p
    → IsKeyword word p → IsPlaced k word p → run k.items nothing ≡ Some o → run (items_of p k) o ≡ Some q → Holds k
    → Holds (behind word p k)
phrase_keeps (phrase.OwnWord n) k word o q e m w r f h =
    let made = own_below (definitions k.items) k.setting.names word n h.known e in
    stays k.setting.names k.setting.open_one k.items (item.Plain (call (own_code n)) ∷ []) o (tt, tt) r
    ((omega (arith, made), tt), tt)
    (λ l. one_more (item.Plain (call (own_code n)))
    (bare_bytes (own_code n) (own_bare n (omega (arith, l, made))))) h
phrase_keeps (phrase.BoardWord c) k word o q e m w r f h =
    one_stays k (item.Plain (call c)) o tt r (board c _ (ordinary_low word c w), tt)
    (bare_bytes c (ordinary_bare word c w)) h
phrase_keeps (phrase.Number x) k word o q e m w r f h =
    one_stays k (item.Plain (number_token x)) o tt r (number_among _ x) (number_bytes x) h
phrase_keeps (phrase.NumberIn base blanks digits x) k word o q e m w r f h =
    one_stays k (item.Plain (number_token x)) o tt r (number_among _ x) (number_bytes x) h
phrase_keeps (phrase.Character blanks b bytes) k word o q e m w r f h =
    one_stays k (item.Plain (number_token (record { 0 = b }))) o tt r (number_among _ (record { 0 = b }))
    (number_bytes (record { 0 = b })) h
phrase_keeps (phrase.Alone (lone.One t)) k word o q e m w r f h =
    one_stays k (item.Plain (call t)) o tt r (board t _ (one_low word t m), tt)
    (bare_bytes t (bare_good t (keyword_good word (keyword.Lone (lone.One t)) m))) h
phrase_keeps (phrase.Alone (lone.Two t u)) k word o q e m w r f h =
    let b = two_good t u (keyword_good word (keyword.Lone (lone.Two t u)) m) in
    let l = two_low word t u m in
    two_stay k (item.Plain (call t)) (item.Plain (call u)) o tt tt r (board t _ l.0, tt) (board u _ l.1, tt)
    (bare_bytes t b.0) (bare_bytes u b.1) h
phrase_keeps (phrase.Text prints blank bytes) k word o q e m w r f h =
    strings (quote_if prints) bytes k o w.1 r h
phrase_keeps (phrase.Quoted blank pieces bytes) k word o q e m w r f h =
    strings quote.Bytes (pieces_bytes pieces ++ bytes) k o w.1 r h
phrase_keeps (phrase.Comment blank bytes) k word o q e m w r f h = none_stay k o r h
phrase_keeps (phrase.LineComment bytes) k word o q e m w r f h = none_stay k o r h
phrase_keeps (phrase.Naming t blanks name c) k word o q e m w r f h =
    stays k.setting.names k.setting.open_one k.items (item.Plain (naming t c) ∷ []) o (tt, tt) r
    ((board t _ (naming_low word t m), named_among name (definitions k.items) k.setting.names c h.known w.2), tt)
    (λ l. one_more (item.Plain (naming t c))
    (naming_bytes t c (keyword_good word (keyword.Naming t) m)
    (named_bare name (definitions k.items) k.setting.names c h.known l w.2))) h
phrase_keeps (phrase.Alone (lone.Headers x)) k word o q e m w r f h = none_stay k o r h
phrase_keeps (phrase.Alone (lone.Radix base)) k word o q e m w r f h = none_stay k o r h
phrase_keeps (phrase.Defining (definer.Other t) blanks name) k word o q e m w r f h =
    makes_one k.setting.maker name t k.setting.names k.setting.open_one k.items o q w.1.1
    (bare_good t (keyword_good word (keyword.Defining (definer.Other t)) m)) r f h
phrase_keeps (phrase.Defining definer.Colon blanks name) k word o q e m w r f h =
    begins_one k.setting.maker name k.setting.names k.setting.open_one k.items o q w.1.1 r f h
phrase_keeps (phrase.Alone lone.Semicolon) k word o q e m w r f h =
    ends_one k.setting.names k.setting.open_one k.items h
phrase_keeps (phrase.Alone lone.Recurse) k word o q e m w r f h =
    stays k.setting.names k.setting.open_one k.items (recursion k.setting.open_one) o
    (recursion_inner k.setting.open_one) r
    (recursion_among k.setting.open_one (definitions k.items) h.latest)
    (recursion_bytes k.setting.open_one (definitions k.items) h.latest) h
phrase_keeps (phrase.Alone lone.Offset16) k word o q e m w r f h =
    one_stays k (item.Plain (bare 0x0cc)) o tt r (omega arith, tt) offset16_bytes h
phrase_keeps (phrase.Alone lone.Repeat) k word o q e m w r f h =
    two_stay k (item.Back false k.at) item.Then o tt tt r tt tt tt tt h
phrase_keeps _ k word o q e m w r f h = one_stays k _ o tt r tt tt h

all_keep : (ps : List Spelled) (e : Ending) (k : Known) → AreSaid ps e k
    → run (all_behind ps k).items nothing ≡ Some nothing → Holds k → Holds (all_behind ps k)
all_keep [] e k s r h = h
all_keep (p ∷ ps) e k s r h =
    let here = moved p.blanks k in
    let more = items_of p.phrase here in
    let there = before_runs ps (behind p.word p.phrase here) nothing r in
    let before = earlier_runs k.items more there.0 there.1 in
    let fits = later_run k.items more before.0 there.0 before.1 there.1 in
    all_keep ps e (behind p.word p.phrase here) s.1 r
    (phrase_keeps p.phrase here p.word before.0 there.0 s.0.own s.0.means s.0.placed before.1 fits h)

-- what holds of an accepted source
pub parsed_sound : (text : List ℕ) (src : Source) → parsed text ≡ Ok src → IsSound src.items
parsed_sound text src h =
    let w = accepted_written.accepted text src h in
    let runs : run (items_in w.0.beginning w.0.phrases) nothing ≡ Some nothing =
    subst (λ is. run is nothing ≡ Some nothing) w.0.items (nested_runs src.items w.1) in
    let begins : Holds (begun_with w.0.beginning) = record {
      counted = refl;
      known = tt;
      latest = tt;
      outside = λ o r t. refl;
      in_order = tt;
      bytes = λ l. nothing_more;
    } in
    let all = all_keep w.0.phrases w.0.ending (begun_with w.0.beginning) w.0.said runs begins in
    record {
      nested = w.1;
      in_order = subst (AreMadeInOrder 0) (sym w.0.items) all.in_order;
      encodable = subst AreEncodable (sym w.0.items) all.bytes;
    }

-- its items are those of a whole nest, whose definitions have the numbers 0, 1, 2, .. and are made before they are used
pub parsed_nested : (text : List ℕ) (src : Source) → parsed text ≡ Ok src
    → IsNested src.items × AreMadeInOrder 0 src.items
parsed_nested text src h = let s = parsed_sound text src h in (s.nested, s.in_order)
