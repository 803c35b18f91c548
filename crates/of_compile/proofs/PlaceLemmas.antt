-- Items by the words in which they stand.
use Rattle.std.proofs.Common.{◌≡◌, ℕ, ◌+◌, ◌-◌, ◌<◌, ◌≤◌, zero, suc, Bool, true, false, List, [], ◌∷◌, ◌++◌, length}
use Rattle.std.proofs.Common.{take, drop, get_or, Option, Some, None, refl, sym, ap, subst, ◌∙◌, arith}
use Rattle.std.proofs.Common.{append_assoc, length-append}
use Rattle.std.specs.Prelude.{◌==◌, cond, find, is_some, nat_le, nat_lt, map, if◌then◌else◌}
use Rattle.std.specs.List.{count_by}
use Rattle.std.specs.Option.{option_map}
use Rattle.std.proofs.lemmas.List.{append-nil, drop_at, get_or-append-add, length-map, map-append, take-append-drop}
use Rattle.std.proofs.lemmas.List.{take-append-le}
use Rattle.std.proofs.lemmas.List.Sums.{sum_by-append}
use Rattle.std.proofs.lemmas.Bool.{le-leb, lt-leb, lt-ltb, ltb-true}
use Rattle.of_cells.specs.declared.cells.Cell.{Cell}
use Rattle.of_code.specs.declared.item.Place.{Place}
use Rattle.of_code.specs.declared.item.Item.{Item}
use Rattle.of_code.specs.declared.item.Item.TheVariants.{Return}
use Rattle.of_code.specs.declared.numbering.ItemPlace.{ItemPlace}
use Rattle.of_code.specs.declared.store.Start.{Start}
use Rattle.of_code.specs.Items.{cells_of, laid_out}
use Rattle.of_code.specs.Code.{Code, fetched_at, item_in, word_in}
use Rattle.of_code.specs.Numbering.{is_return, item_count_in, item_from, item_place_in, items_between, items_to_return}
use Rattle.of_control.specs.Items.{Item as BodyItem, Perform, JumpTo, EnterLoop, RepeatLoop, ExitLoop, TestArm, EndArm}
use Rattle.of_control.specs.Items.{DropSelector}
use Rattle.of_control.specs.Body.{Body, items_of}
use Rattle.of_compile.specs.declared.element.PlainItem.{PlainItem}
use Rattle.of_compile.specs.declared.element.PlainItem.TheVariants as P
use Rattle.of_compile.specs.Coding.{place_of}
use Rattle.of_compile.specs.Layout.{code_item, item_cells, item_place, laid_body, laid_items, total}
use Rattle.of_compile.specs.Law.{CompilesReading}
use Rattle.of_compile.specs.Structured.{Definition, Definitions, Spot, begun, begun_place, code_of, flat_of, laid_all}
use Rattle.of_compile.specs.Structured.{number_at, spot_in, spot_of, spot_place, starts_of, taken_at}
use Rattle.of_compile.specs.StructuredLaw.{StructuresAreFlat}
use Rattle.of_compile.specs.PlacesLaw.{PlacesAreNumbered, spot_items}
use Rattle.of_compile.proofs.Cells.{laid, laid_items-append}
use Rattle.of_compile.proofs.LaidReading.{code_sizes}
use Rattle.of_compile.proofs.Fetching.{is_number, placed, split_lt}
use Rattle.of_compile.proofs.StructuredLemmas.{body_length, total-take}

abbrev nothing : List (Option Item)
nothing = None ∷ None ∷ []

abbrev count : List (Option Item) → ℕ
count cells = count_by is_some cells

-- ---- items counted in cells

count_one : (x : Item) (n : ℕ) → count (Some x ∷ take n nothing) ≡ 1
count_one x zero = refl
count_one x (suc zero) = refl
count_one x (suc (suc zero)) = refl
count_one x (suc (suc (suc n))) = refl

count_item : (x : Item) → count (laid_out x) ≡ 1
count_item x = ap count (laid x).begins ∙ count_one x (cells_of x - 1)

take_past :
    (xs ys : List (Option Item)) (n m : ℕ) → length xs ≡ n → take (n + m) (xs ++ ys) ≡ xs ++ take m ys
take_past [] ys n m e = ap (λ k. take k ys) (omega (arith, e))
take_past (x ∷ xs) ys zero m e = absurd (omega (arith, e))
take_past (x ∷ xs) ys (suc n) m e =
    ap (λ k. take k (x ∷ (xs ++ ys))) (let s : suc n + m ≡ suc (n + m) = omega arith in s)
    ∙ ap (λ l. x ∷ l) (take_past xs ys n m (omega (arith, e)))

-- before item k there are k items
counted :
    (xs : List Item) (k : ℕ) (r : List (Option Item)) → k ≤ length xs →
    count (take (total (take k (map cells_of xs))) (laid_items xs ++ r)) ≡ k
counted xs zero r l = refl
counted [] (suc k) r l = absurd (omega (arith, l))
counted (x ∷ xs) (suc k) r l =
    let m = total (take k (map cells_of xs)) in
    let rest = laid_items xs ++ r in
    let one = count_item x in
    let others = counted xs k r (omega (arith, l)) in
    let both = sum_by-append (λ c. cond (is_some c) 1 0) (laid_out x) (take m rest) in
    ap (λ c. count (take (cells_of x + m) c)) (append_assoc (laid_out x) (laid_items xs) r)
    ∙ ap count (take_past (laid_out x) rest (cells_of x) m (laid x).size)
    ∙ (let sum : count (laid_out x ++ take m rest) ≡ suc k = omega (arith, one, others, both) in sum)

-- an item begins where item k does
begins :
    (xs : List Item) (k : ℕ) (r : List (Option Item)) → k < length xs →
    is_some (get_or (laid_items xs ++ r) (total (take k (map cells_of xs))) None) ≡ true
begins [] k r l = absurd (omega (arith, l))
begins (x ∷ xs) zero r l = ap (λ c. is_some (get_or ((c ++ laid_items xs) ++ r) 0 None)) (laid x).begins
begins (x ∷ xs) (suc k) r l =
    let m = total (take k (map cells_of xs)) in
    let rest = laid_items xs ++ r in
    ap (λ c. is_some (get_or c (cells_of x + m) None)) (append_assoc (laid_out x) (laid_items xs) r)
    ∙ ap (λ n. is_some (get_or (laid_out x ++ rest) (n + m) None)) (sym (laid x).size)
    ∙ ap is_some (get_or-append-add (laid_out x) rest m None)
    ∙ begins xs k r (omega (arith, l))

-- ---- items up to the return

plain_goes_on : (place : ℕ → Place) (k : PlainItem) → is_return (code_item place (Perform k)) ≡ false
plain_goes_on place (P.Operation xt) = refl
plain_goes_on place (P.Literal x) = refl
plain_goes_on place (P.String address n) = refl
plain_goes_on place (P.Call xt) = refl
plain_goes_on place (P.Store xt) = refl

-- no item of a body is a return
goes_on : (place : ℕ → Place) (i : BodyItem PlainItem) → is_return (code_item place i) ≡ false
goes_on place (Perform k) = plain_goes_on place k
goes_on place (JumpTo true n) = refl
goes_on place (JumpTo false n) = refl
goes_on place (EnterLoop true n) = refl
goes_on place (EnterLoop false n) = refl
goes_on place (RepeatLoop true n) = refl
goes_on place (RepeatLoop false n) = refl
goes_on place (ExitLoop n) = refl
goes_on place (TestArm n) = refl
goes_on place (EndArm n) = refl
goes_on place DropSelector = refl

past_nothing : (n : ℕ) (r : List (Option Item)) → items_to_return (take n nothing ++ r) ≡ items_to_return r
past_nothing zero r = refl
past_nothing (suc zero) r = refl
past_nothing (suc (suc zero)) r = refl
past_nothing (suc (suc (suc n))) r = refl

past_item :
    (x : Item) (r : List (Option Item)) → is_return x ≡ false →
    items_to_return (laid_out x ++ r) ≡ suc (items_to_return r)
past_item x r e =
    ap (λ c. items_to_return (c ++ r)) (laid x).begins
    ∙ ap (λ b. if b then 1 else suc (items_to_return (take (cells_of x - 1) nothing ++ r))) e
    ∙ ap suc (past_nothing (cells_of x - 1) r)

to_return :
    (place : ℕ → Place) (is : List (BodyItem PlainItem)) (r : List (Option Item)) →
    items_to_return (laid_items (map (code_item place) is) ++ (Some Return ∷ r)) ≡ length is + 1
to_return place [] r = refl
to_return place (i ∷ is) r =
    let x = code_item place i in
    let rest = laid_items (map (code_item place) is) ++ (Some Return ∷ r) in
    let others = to_return place is r in
    ap items_to_return (append_assoc (laid_out x) (laid_items (map (code_item place) is)) (Some Return ∷ r))
    ∙ past_item x rest (goes_on place i)
    ∙ (let sum : suc (items_to_return rest) ≡ suc (length is) + 1 = omega (arith, others) in sum)

-- ---- the cells round a word

-- the cells of a word with its return
abbrev word_cells : ℕ → Body PlainItem → List (Option Item)
word_cells start b = laid_body start b ++ laid_out Return

-- the cells of the words that were finished after others
abbrev newer_cells : List Definition → List Definition → List (Option Item)
newer_cells [] ds = []
newer_cells (d ∷ newer) ds = newer_cells newer ds ++ word_cells (length (laid_all (newer ++ ds))) d.body

newer_follow : (newer ds : List Definition) → laid_all (newer ++ ds) ≡ laid_all ds ++ newer_cells newer ds
newer_follow [] ds = sym (append-nil (laid_all ds))
newer_follow (d ∷ newer) ds =
    let word = word_cells (length (laid_all (newer ++ ds))) d.body in
    ap (λ l. l ++ word) (newer_follow newer ds) ∙ append_assoc (laid_all ds) (newer_cells newer ds) word

-- the cells behind those of the finished words
abbrev open_cells : Definitions → List (Option Item)
open_cells d = drop (length (laid_all d.finished)) (flat_of d).code.cells

open_follow : CompilesReading → (d : Definitions) → (flat_of d).code.cells ≡ laid_all d.finished ++ open_cells d
open_follow law d =
    sym (take-append-drop (length (laid_all d.finished)) (flat_of d).code.cells)
    ∙ ap (λ l. l ++ open_cells d) (law.before (code_of d.finished) d.elements)

-- ---- how many items a word has

whole_word :
    (start : ℕ) (b : Body PlainItem) (r : List (Option Item)) →
    items_to_return (word_cells start b ++ r) ≡ length (items_of b) + 1
whole_word start b r =
    ap items_to_return (append_assoc (laid_body start b) (laid_out Return) r)
    ∙ to_return (item_place start (items_of b)) (items_of b) r

-- how many items are counted from the place of a spot on
abbrev spot_count : List (Option Item) → Spot → ℕ
spot_count cells s = items_to_return (drop (spot_place s).cell cells)

begun_if :
    (b : Bool) (d : Definition) (ds : List Definition) (rest : Option Spot) (cells : List (Option Item)) →
    spot_count cells (record { start = length (laid_all ds); body = d.body; number = 0 })
    ≡ length (items_of d.body) + 1 →
    option_map (spot_count cells) rest ≡ option_map spot_items rest →
    option_map (spot_count cells)
    (if b then Some (record { start = length (laid_all ds); body = d.body; number = 0 }) else rest)
    ≡ option_map spot_items
    (if b then Some (record { start = length (laid_all ds); body = d.body; number = 0 }) else rest)
begun_if true d ds rest cells e f = ap Some e
begun_if false d ds rest cells e f = f

begun_all :
    (ds : List Definition) (xt : Cell) (r : List (Option Item)) →
    option_map (spot_count (laid_all ds ++ r)) (begun ds xt) ≡ option_map spot_items (begun ds xt)
begun_all [] xt r = refl
begun_all (d ∷ ds) xt r =
    let start = length (laid_all ds) in
    let word = word_cells start d.body in
    let cells = append_assoc (laid_all ds) word r in
    let first : start + 0 ≡ start = omega arith in
    begun_if (d.xt.0 == xt.0) d ds (begun ds xt) (laid_all (d ∷ ds) ++ r)
    (ap (λ c. items_to_return (drop (start + 0) c)) cells
    ∙ ap (λ n. items_to_return (drop n (laid_all ds ++ (word ++ r)))) first
    ∙ ap items_to_return (drop_at (laid_all ds) (word ++ r) start refl)
    ∙ whole_word start d.body r)
    (ap (λ c. option_map (spot_count c) (begun ds xt)) cells ∙ begun_all ds xt (word ++ r))

from_place :
    (cells : List (Option Item)) (o : Option Spot) →
    option_map (λ (p : Place). items_to_return (drop p.cell cells)) (begun_place o) ≡ option_map (spot_count cells) o
from_place cells None = refl
from_place cells (Some s) = refl

counts :
    CompilesReading → StructuresAreFlat → (d : Definitions) (xt : Cell) →
    item_count_in (flat_of d).code xt ≡ option_map spot_items (begun d.finished xt)
counts law structured d xt =
    let cells = (flat_of d).code.cells in
    ap (option_map (λ (p : Place). items_to_return (drop p.cell cells))) (structured.starts d xt)
    ∙ from_place cells (begun d.finished xt)
    ∙ ap (λ c. option_map (spot_count c) (begun d.finished xt)) (open_follow law d)
    ∙ begun_all d.finished xt (open_cells d)

-- ---- the word of a place

older_end : (newer ds : List Definition) → length (laid_all ds) ≤ length (laid_all (newer ++ ds))
older_end newer ds =
    let e = ap length (newer_follow newer ds) in
    omega (arith, e, length-append (laid_all ds) (newer_cells newer ds))

abbrev start_of : Definition → List Definition → Start
start_of w older = record { xt = w.xt; place = place_of (length (laid_all older)) }

word_found :
    (newer older : List Definition) (w : Definition) (c : ℕ) → length (laid_all older) ≤ c →
    c < length (laid_all (w ∷ older)) →
    find (λ (s : Start). nat_le s.place.cell c) (starts_of (newer ++ w ∷ older)) ≡ Some (start_of w older)
word_found [] older w c l m =
    ap (λ b. cond b (Some (start_of w older)) (find (λ (s : Start). nat_le s.place.cell c) (starts_of older)))
    (le-leb (length (laid_all older)) c l)
word_found (d ∷ newer) older w c l m =
    let ds = newer ++ w ∷ older in
    let end = older_end newer (w ∷ older) in
    ap (λ b. cond b (Some (start_of d ds)) (find (λ (s : Start). nat_le s.place.cell c) (starts_of ds)))
    (lt-leb (length (laid_all ds)) c (omega (arith, m, end)))
    ∙ word_found newer older w c l m

word_is :
    CompilesReading → (d : Definitions) (newer older : List Definition) (w : Definition) (p : Place) →
    d.finished ≡ newer ++ w ∷ older → length (laid_all older) ≤ p.cell → p.cell < length (laid_all (w ∷ older)) →
    word_in (flat_of d).code p ≡ Some (start_of w older)
word_is law d newer older w p e l m =
    let kept = law.kept (code_of d.finished) d.elements refl in
    let ds = newer ++ w ∷ older in
    let end = older_end newer (w ∷ older) in
    ap (λ (c : Code). word_in c p) kept
    ∙ ap (λ f. word_in (code_of f) p) e
    ∙ ap (λ b. if b then find (λ (s : Start). nat_le s.place.cell p.cell) (starts_of ds) else None)
    (lt-ltb p.cell (length (laid_all ds)) (omega (arith, m, end)))
    ∙ word_found newer older w p.cell l m

-- ---- the item of a place

-- the items of a word, the return last
abbrev word_items : ℕ → Body PlainItem → List Item
word_items start b = placed start b ++ Return ∷ []

word_laid : (start : ℕ) (b : Body PlainItem) → word_cells start b ≡ laid_items (word_items start b)
word_laid start b =
    ap (λ l. laid_body start b ++ l) (sym (append-nil (laid_out Return)))
    ∙ sym (laid_items-append (placed start b) (Return ∷ []))

-- the cells of a word and what stands behind them
abbrev behind_word : Definitions → List Definition → List Definition → Definition → List (Option Item)
behind_word d newer older w = newer_cells newer (w ∷ older) ++ open_cells d

cells_are :
    CompilesReading → (d : Definitions) (newer older : List Definition) (w : Definition) →
    d.finished ≡ newer ++ w ∷ older →
    (flat_of d).code.cells
    ≡ laid_all older ++ (laid_items (word_items (length (laid_all older)) w.body) ++ behind_word d newer older w)
cells_are law d newer older w e =
    let start = length (laid_all older) in
    let word = word_cells start w.body in
    let more = newer_cells newer (w ∷ older) in
    open_follow law d
    ∙ ap (λ f. laid_all f ++ open_cells d) e
    ∙ ap (λ l. l ++ open_cells d) (newer_follow newer (w ∷ older))
    ∙ append_assoc (laid_all older ++ word) more (open_cells d)
    ∙ append_assoc (laid_all older) word (more ++ open_cells d)
    ∙ ap (λ l. laid_all older ++ (l ++ (more ++ open_cells d))) (word_laid start w.body)

word_length : (start : ℕ) (b : Body PlainItem) → length (word_items start b) ≡ length (items_of b) + 1
word_length start b =
    let items = length-map (items_of b) (code_item (item_place start (items_of b))) in
    omega (arith, items, length-append (placed start b) (Return ∷ []))

-- the cells before item k
cells_before :
    (start : ℕ) (b : Body PlainItem) (k : ℕ) → k ≤ length (items_of b) →
    total (take k (map cells_of (word_items start b))) ≡ total (take k (map item_cells (items_of b)))
cells_before start b k l =
    let items = length-map (items_of b) (code_item (item_place start (items_of b))) in
    let sizes = length-map (placed start b) cells_of in
    ap (λ ns. total (take k ns)) (map-append cells_of (placed start b) (Return ∷ []))
    ∙ ap total (take-append-le k (map cells_of (placed start b)) (1 ∷ []) (omega (arith, l, items, sizes)))
    ∙ ap (λ ns. total (take k ns)) (code_sizes (item_place start (items_of b)) (items_of b))

-- the code round a word, and the place of one of its items
record Around (d : Definitions) (older : List Definition) (w : Definition) (k : ℕ) : Type 0 where
  pub behind : List (Option Item)
  pub cells :
      (flat_of d).code.cells ≡ laid_all older ++ (laid_items (word_items (length (laid_all older)) w.body) ++ behind)
  pub upto : k ≤ length (items_of w.body)

item_begins :
    (d : Definitions) (older : List Definition) (w : Definition) (k : ℕ) → Around d older w k →
    is_some (item_in (flat_of d).code (item_place (length (laid_all older)) (items_of w.body) k)) ≡ true
item_begins d older w k h =
    let start = length (laid_all older) in
    let xs = word_items start w.body in
    let m = total (take k (map cells_of xs)) in
    let upto = h.upto in
    let size = word_length start w.body in
    ap (λ c. is_some (get_or c (start + total (take k (map item_cells (items_of w.body)))) None)) h.cells
    ∙ ap (λ n. is_some (get_or (laid_all older ++ (laid_items xs ++ h.behind)) (start + n) None))
    (sym (cells_before start w.body k upto))
    ∙ ap is_some (get_or-append-add (laid_all older) (laid_items xs ++ h.behind) m None)
    ∙ begins xs k h.behind (omega (arith, upto, size))

item_counted :
    (d : Definitions) (older : List Definition) (w : Definition) (k : ℕ) → Around d older w k →
    items_between (length (laid_all older)) (item_place (length (laid_all older)) (items_of w.body) k).cell
    (flat_of d).code.cells
    ≡ k
item_counted d older w k h =
    let start = length (laid_all older) in
    let xs = word_items start w.body in
    let m = total (take k (map cells_of xs)) in
    let cell = start + total (take k (map item_cells (items_of w.body))) in
    let rest = laid_items xs ++ h.behind in
    let upto = h.upto in
    let size = word_length start w.body in
    let before = cells_before start w.body k upto in
    let between : cell - start ≡ m = omega (arith, before) in
    ap (λ c. count (take (cell - start) (drop start c))) h.cells
    ∙ ap (λ n. count (take n (drop start (laid_all older ++ rest)))) between
    ∙ ap (λ c. count (take m c)) (drop_at (laid_all older) rest start refl)
    ∙ counted xs k h.behind (omega (arith, upto, size))

abbrev numbered : Cell → ℕ → Option ItemPlace
numbered xt n = Some (record { xt = xt; item = n })

items :
    CompilesReading → (d : Definitions) (newer older : List Definition) (w : Definition) (k : ℕ) →
    d.finished ≡ newer ++ w ∷ older → k ≤ length (items_of w.body) →
    item_place_in (flat_of d).code (item_place (length (laid_all older)) (items_of w.body) k)
    ≡ Some (record { xt = w.xt; item = k })
items law d newer older w k e l =
    let start = length (laid_all older) in
    let p = item_place start (items_of w.body) k in
    let c = (flat_of d).code in
    let h : Around d older w k = record {
      behind = behind_word d newer older w;
      cells = cells_are law d newer older w e;
      upto = l;
    } in
    let body = body_length start w.body in
    let word = length-append (laid_body start w.body) (laid_out Return) in
    let whole = length-append (laid_all older) (word_cells start w.body) in
    let within = total-take k (map item_cells (items_of w.body)) in
    ap (λ b. if b then option_map (item_from c p) (word_in c p) else None) (item_begins d older w k h)
    ∙ ap (option_map (item_from c p))
    (word_is law d newer older w p e (omega arith) (omega (arith, body, word, whole, within)))
    ∙ ap (numbered w.xt) (item_counted d older w k h)

-- ---- spots

-- a spot is the place of an item of a word
record IsItem (ds : List Definition) (c : ℕ) (s : Spot) : Type 0 where
  pub newer : List Definition
  pub older : List Definition
  pub word : Definition
  pub stands : ds ≡ newer ++ word ∷ older
  pub upto : s.number ≤ length (items_of word.body)
  pub cell : c ≡ length (laid_all older) + total (take s.number (map item_cells (items_of word.body)))

item_here :
    (d : Definition) (ds : List Definition) (c : ℕ) (s : Spot) (o : Option ℕ) → length (laid_all ds) ≤ c →
    number_at (map item_cells (items_of d.body)) (c - length (laid_all ds)) ≡ o →
    spot_of (length (laid_all ds)) d.body o ≡ Some s → IsItem (d ∷ ds) c s
item_here d ds c s None l n e = let bad : ⊥ = cc in absurd bad
item_here d ds c s (Some k) l n e =
    let h = is_number (map item_cells (items_of d.body)) (c - length (laid_all ds)) k n in
    let before = h.before in
    let within = h.within in
    let sizes = length-map (items_of d.body) item_cells in
    let here : Spot = record { start = length (laid_all ds); body = d.body; number = k } in
    let is : IsItem (d ∷ ds) c here = record {
      newer = [];
      older = ds;
      word = d;
      stands = refl;
      upto = omega (arith, within, sizes);
      cell = omega (arith, before, l);
    } in
    let same : here ≡ s = cc in
    subst (IsItem (d ∷ ds) c) same is

item_later : (d : Definition) (ds : List Definition) (c : ℕ) (s : Spot) → IsItem ds c s → IsItem (d ∷ ds) c s
item_later d ds c s h = record {
  newer = d ∷ h.newer;
  older = h.older;
  word = h.word;
  stands = ap (λ l. d ∷ l) h.stands;
  upto = h.upto;
  cell = h.cell;
}

is_item : (ds : List Definition) (c : ℕ) (s : Spot) → spot_in ds c ≡ Some s → IsItem ds c s
is_item [] c s e = let bad : ⊥ = cc in absurd bad
is_item (d ∷ ds) c s e =
    let start = length (laid_all ds) in
    let o = number_at (map item_cells (items_of d.body)) (c - start) in
    split_lt (λ x. x ≡ Some s → IsItem (d ∷ ds) c s) c start (spot_in ds c) (spot_of start d.body o) (nat_lt c start)
    refl
    (λ m f. item_later d ds c s (is_item ds c s f))
    (λ m f. item_here d ds c s o m refl f)
    e

numbers :
    CompilesReading → (d : Definitions) (p : Place) (s : Spot) → spot_in d.finished p.cell ≡ Some s →
    option_map (λ (i : ItemPlace). i.item) (item_place_in (flat_of d).code p) ≡ Some s.number
numbers law d p s e =
    let h = is_item d.finished p.cell s e in
    ap (λ n. option_map (λ (i : ItemPlace). i.item) (item_place_in (flat_of d).code (place_of n))) h.cell
    ∙ ap (option_map (λ (i : ItemPlace). i.item)) (items law d h.newer h.older h.word s.number h.stands h.upto)

-- ---- other places

no_item : (p : Place) (o : Option Item) → fetched_at p o ≡ None → is_some o ≡ false
no_item p None e = refl
no_item p (Some x) e = let bad : ⊥ = cc in absurd bad

none_if : (b : Bool) (o : Option ItemPlace) → o ≡ None → (if b then o else None) ≡ None
none_if true o e = e
none_if false o e = refl

others_by :
    CompilesReading → StructuresAreFlat → (d : Definitions) (p : Place) (b : Bool) →
    nat_lt p.cell (length (laid_all d.finished)) ≡ b → spot_in d.finished p.cell ≡ None →
    item_place_in (flat_of d).code p ≡ None
others_by law structured d p true l e =
    let c = (flat_of d).code in
    let none = structured.items d p (ltb-true p.cell (length (laid_all d.finished)) l) ∙ ap (taken_at p) e in
    ap (λ b. if b then option_map (item_from c p) (word_in c p) else None) (no_item p (item_in c p) none)
others_by law structured d p false l e =
    let c = (flat_of d).code in
    let kept = law.kept (code_of d.finished) d.elements refl in
    let none : word_in c p ≡ None =
    ap (λ (k : Code). word_in k p) kept
    ∙ ap (λ b. if b then find (λ (s : Start). nat_le s.place.cell p.cell) (starts_of d.finished) else None) l in
    none_if (is_some (item_in c p)) (option_map (item_from c p) (word_in c p)) (ap (option_map (item_from c p)) none)

pub places_are_numbered : CompilesReading → StructuresAreFlat → PlacesAreNumbered
places_are_numbered law structured = record {
  items = items law;
  numbers = numbers law;
  others = λ d p e. others_by law structured d p (nat_lt p.cell (length (laid_all d.finished))) refl e;
  counts = counts law structured;
}
