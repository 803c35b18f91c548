-- Definitions by their structure do what their code does.
use Rattle.std.proofs.Common.{◌≡◌, ℕ, ◌+◌, ◌-◌, ◌<◌, ◌≤◌, zero, suc, Bool, true, false, List, [], ◌∷◌, ◌++◌, length}
use Rattle.std.proofs.Common.{take, get_or, Option, Some, None, Ok, Err, refl, sym, ap, subst, ◌∙◌, arith, append_assoc}
use Rattle.std.proofs.Common.{length-append}
use Rattle.std.specs.Prelude.{◌==◌, find, nat_le, nat_lt, map, if◌then◌else◌}
use Rattle.std.proofs.lemmas.List.{append-nil, get_or_append_left, get_or-take, length-map}
use Rattle.std.proofs.lemmas.Bool.{le-ltb, lt-ltb}
use Rattle.of_cells.specs.declared.cells.Cell.{Cell}
use Rattle.of_code.specs.declared.item.Place.{Place}
use Rattle.of_code.specs.declared.item.Item.{Item}
use Rattle.of_code.specs.declared.item.Item.TheVariants.{Return}
use Rattle.of_code.specs.declared.store.Start.{Start}
use Rattle.of_code.specs.Items.{capacity, cells_of, laid_out}
use Rattle.of_code.specs.Code.{Code, fetched_at, finished, item_in, place_after, start_in, start_place}
use Rattle.of_code.specs.Code.{has_room as code_has_room}
use Rattle.of_control.specs.Openers.{Openers, is_all_closed}
use Rattle.of_control.specs.Element.{Element}
use Rattle.of_control.specs.Body.{Body, items_of}
use Rattle.of_control.specs.Reading.{body_in}
use Rattle.of_control.specs.Law.{ClosedIsRead, IsBodyIn}
use Rattle.of_stacks.specs.Throws.{control_mismatch, dictionary_overflow}
use Rattle.of_compile.specs.declared.element.PlainItem.{PlainItem}
use Rattle.of_compile.specs.Elements.{element_cells, own_item}
use Rattle.of_compile.specs.Coding.{Coding, Outcome, compiled, compiling, finishing, fits, past, place_of}
use Rattle.of_compile.specs.Layout.{item_cells, item_place, laid_body, laid_items, total}
use Rattle.of_compile.specs.Law.{CompilesReading}
use Rattle.of_compile.proofs.Cells.{laid_items-append, length-laid_items}
use Rattle.of_compile.proofs.LaidReading.{code_sizes}
use Rattle.of_control.specs.Running.{Point, number, step_at}
use Rattle.of_control.specs.RunningLaw.{RunsByPlaces}
use Rattle.of_compile.specs.Structured.{Definition, Definitions, Spot, code_of, element_told, fetched, begun}
use Rattle.of_compile.specs.Structured.{begun_place}
use Rattle.of_compile.specs.Structured.{finished_cells, is_return, finished_told, flat_of, flat_told, has_room}
use Rattle.of_compile.specs.Structured.{laid_all}
use Rattle.of_compile.specs.Structured.{number_at, point_place, refused, semicolon_told, spot_in, spot_of, spot_place}
use Rattle.of_compile.specs.Structured.{starts_of, taken_at, taken_item, told}
use Rattle.of_compile.specs.StructuredLaw.{StructuresAreFlat}
use Rattle.of_compile.proofs.Fetching.{at_number, get_past, is_number, item_at_cell, next_is, placed, split_lt}
use Rattle.of_compile.proofs.Fetching.{taken_is}

-- ---- sizes

pub body_length : (start : ℕ) (b : Body PlainItem) → length (laid_body start b) ≡ total (map item_cells (items_of b))
body_length start b =
    length-laid_items (placed start b) ∙ ap total (code_sizes (item_place start (items_of b)) (items_of b))

all_length : (ds : List Definition) → length (laid_all ds) ≡ finished_cells ds
all_length [] = refl
all_length (d ∷ ds) =
    let start = length (laid_all ds) in
    let rest = all_length ds in
    let body = body_length start d.body in
    omega (
      arith,
      rest,
      body,
      length-append (laid_all ds) (laid_body start d.body ++ laid_out Return),
      length-append (laid_body start d.body) (laid_out Return),
    )

flat_length :
    CompilesReading → (d : Definitions) →
    length (flat_of d).code.cells ≡ finished_cells d.finished + element_cells d.elements
flat_length law d =
    law.size (code_of d.finished) d.elements ∙ ap (λ n. n + element_cells d.elements) (all_length d.finished)

room_same :
    (o : Option Item) (c : Code) (d : Definitions) →
    length c.cells ≡ finished_cells d.finished + element_cells d.elements → fits o c ≡ has_room o d
room_same None c d e = refl
room_same (Some item) c d e = ap (λ n. nat_le (n + cells_of item) capacity) e

-- ---- elements

abbrev element_outcome : Bool → Element PlainItem → Definitions → Outcome
element_outcome b e d =
    if b then record { coding = compiled e (flat_of d); ended = Ok tt } else record
    { coding = flat_of d; ended = Err dictionary_overflow }

element_if :
    (b : Bool) (e : Element PlainItem) (d : Definitions) →
    (if b then record { coding = compiled e (flat_of d); ended = Ok tt } else record
    { coding = flat_of d; ended = Err dictionary_overflow })
    ≡ flat_told (if b then told (record d { elements = e ∷ d.elements }) else refused d dictionary_overflow)
element_if true e d = refl
element_if false e d = refl

element :
    CompilesReading → (e : Element PlainItem) (d : Definitions) → compiling e (flat_of d) ≡ flat_told (element_told e d)
unfolding compiling
element law e d =
    ap (λ b. element_outcome b e d) (room_same (own_item e) (flat_of d).code d (flat_length law d))
    ∙ element_if (has_room (own_item e) d) e d

-- ---- the end of a definition

closed_none : (os : Openers) → is_all_closed os ≡ true → os ≡ Some []
closed_none None e = let bad : ⊥ = cc in absurd bad
closed_none (Some []) e = refl
closed_none (Some (x ∷ os)) e = let bad : ⊥ = cc in absurd bad

finished_code :
    (ds : List Definition) (xt : Cell) (b : Body PlainItem) (c : Code) →
    c ≡ record (code_of ds) { cells = laid_all ds ++ laid_body (length (laid_all ds)) b } →
    finished c xt ≡ code_of (record { xt = xt; body = b } ∷ ds)
finished_code ds xt b c e =
    let start = length (laid_all ds) in
    let body = laid_body start b in
    let starts : List Start = starts_of (record { xt = xt; body = b } ∷ ds) in
    let cells = append_assoc (laid_all ds) body (laid_out Return) in
    let opened : length (laid_all ds ++ body) + 1 ≡ length (laid_all ds ++ (body ++ laid_out Return)) =
    sym (length-append (laid_all ds ++ body) (laid_out Return)) ∙ ap length cells in
    ap (λ (k : Code). finished k xt) e
    ∙ ap (λ n. let k : Code = record
    { cells = (laid_all ds ++ body) ++ laid_out Return; opened = place_of n; starts = starts } in k) opened
    ∙ ap (λ l. let k : Code = record
    { cells = l; opened = place_of (length (laid_all ds ++ (body ++ laid_out Return))); starts = starts } in k) cells

abbrev ended : Bool → Bool → Cell → Coding → Outcome
ended closed room xt c =
    if closed then
    (if room then record { coding = record c { code = finished c.code xt }; ended = Ok tt }
    else record { coding = c; ended = Err dictionary_overflow })
    else record { coding = c; ended = Err control_mismatch }

room_if :
    (room : Bool) (xt : Cell) (d : Definitions) (b : Body PlainItem) (c : Coding) → c ≡ flat_of d →
    record c { code = finished c.code xt }
    ≡ flat_of (record { finished = record { xt = xt; body = b } ∷ d.finished; elements = [] }) →
    ended true room xt c ≡ flat_told
    (if room then told (record { finished = record { xt = xt; body = b } ∷ d.finished; elements = [] }) else refused d
    dictionary_overflow)
room_if true xt d b c e f = ap (λ (k : Coding). let o : Outcome = record { coding = k; ended = Ok tt } in o) f
room_if false xt d b c e f =
    ap (λ (k : Coding). let o : Outcome = record { coding = k; ended = Err dictionary_overflow } in o) e

finished_coding :
    CompilesReading → (xt : Cell) (d : Definitions) (b : Body PlainItem) → IsBodyIn 32 d.elements b →
    record (flat_of d) { code = finished (flat_of d).code xt }
    ≡ flat_of (record { finished = record { xt = xt; body = b } ∷ d.finished; elements = [] })
finished_coding law xt d b r =
    let base = code_of d.finished in
    let closed = (law.closed base d.elements).1 (b, r) in
    let none = closed_none (flat_of d).openers closed in
    let code = finished_code d.finished xt b (flat_of d).code (law.laid base d.elements b r) in
    ap (λ (k : Code). let c : Coding = record { code = k; openers = (flat_of d).openers } in c) code
    ∙ ap (λ (o : Openers). let c : Coding = record
    { code = code_of (record { xt = xt; body = b } ∷ d.finished); openers = o } in c) none

-- no body, so not closed
not_closed :
    CompilesReading → ClosedIsRead PlainItem 32 → (d : Definitions) → body_in 32 d.elements ≡ None → (b : Bool) →
    is_all_closed (flat_of d).openers ≡ b → b ≡ false
not_closed law found d e false c = refl
not_closed law found d e true c =
    let r = (law.closed (code_of d.finished) d.elements).0 c in
    let some : body_in 32 d.elements ≡ Some r.0 = (found.found d.elements r.0).1 r.1 in
    let bad : ⊥ = cc in absurd bad

semicolon_with :
    CompilesReading → ClosedIsRead PlainItem 32 → (xt : Cell) (d : Definitions) (o : Option (Body PlainItem)) →
    body_in 32 d.elements ≡ o →
    ended (is_all_closed (flat_of d).openers) (code_has_room (flat_of d).code Return) xt (flat_of d)
    ≡ flat_told (finished_told xt d o)
semicolon_with law found xt d None e =
    ap (λ b. ended b (code_has_room (flat_of d).code Return) xt (flat_of d))
    (not_closed law found d e (is_all_closed (flat_of d).openers) refl)
semicolon_with law found xt d (Some b) e =
    let r = (found.found d.elements b).0 e in
    let closed = (law.closed (code_of d.finished) d.elements).1 (b, r) in
    ap (λ t. ended t (code_has_room (flat_of d).code Return) xt (flat_of d)) closed
    ∙ ap (λ t. ended true t xt (flat_of d)) (room_same (Some Return) (flat_of d).code d (flat_length law d))
    ∙ room_if (has_room (Some Return) d) xt d b (flat_of d) refl (finished_coding law xt d b r)

semicolon :
    CompilesReading → ClosedIsRead PlainItem 32 → (xt : Cell) (d : Definitions) →
    finishing xt (flat_of d) ≡ flat_told (semicolon_told xt d)
unfolding finishing
semicolon law found xt d = semicolon_with law found xt d (body_in 32 d.elements) refl

-- ---- items

abbrev with_next : Item → Place → Option (Item × Place)
with_next x p = Some (x, p)

pair_next : (x : Item) (p q : Place) → p ≡ q → with_next x p ≡ with_next x q
pair_next x p q e = ap (with_next x) e

fetch_number :
    RunsByPlaces PlainItem → (start : ℕ) (b : Body PlainItem) (p : Place) (o : Option ℕ) → start ≤ p.cell →
    number_at (map item_cells (items_of b)) (p.cell - start) ≡ o →
    fetched_at p (at_number (placed start b ++ Return ∷ []) o) ≡ taken_at p (spot_of start b o)
fetch_number law start b p None l e = refl
fetch_number law start b p (Some k) l e =
    let w = is_number (map item_cells (items_of b)) (p.cell - start) k e in
    let before = w.before in
    let within = w.within in
    let upto : k ≤ length (items_of b) = let m = length-map (items_of b) item_cells in omega (arith, within, m) in
    let item = taken_item (λ q. item_place start (items_of b) (number b q)) (step_at b k).taken in
    let taken = taken_is start b k (step_at b k).taken (law.item b k) upto in
    ap (fetched_at p) taken
    ∙ pair_next item (place_after p item)
    (if is_return (step_at b k).taken then past p 1 else item_place start (items_of b) (number b (step_at b k).next))
    (next_is law start b k p (omega (arith, before, l)) upto)

last_cells :
    (start : ℕ) (b : Body PlainItem) → laid_body start b ++ laid_out Return ≡ laid_items (placed start b ++ Return ∷ [])
last_cells start b =
    ap (λ l. laid_body start b ++ l) (sym (append-nil (laid_out Return)))
    ∙ sym (laid_items-append (placed start b) (Return ∷ []))

fetch_last :
    RunsByPlaces PlainItem → (start : ℕ) (b : Body PlainItem) (p : Place) → start ≤ p.cell →
    p.cell < start + (total (map item_cells (items_of b)) + 1) →
    fetched_at p (get_or (laid_body start b ++ laid_out Return) (p.cell - start) None)
    ≡ taken_at p (spot_of start b (number_at (map item_cells (items_of b)) (p.cell - start)))
fetch_last law start b p l m =
    let sizes = code_sizes (item_place start (items_of b)) (items_of b) in
    let t = ap total sizes in
    ap (λ x. fetched_at p (get_or x (p.cell - start) None)) (last_cells start b)
    ∙ ap (fetched_at p) (item_at_cell (placed start b) (p.cell - start) (omega (arith, l, m, t)))
    ∙ ap (λ s. fetched_at p (at_number (placed start b ++ Return ∷ []) (number_at s (p.cell - start)))) sizes
    ∙ fetch_number law start b p (number_at (map item_cells (items_of b)) (p.cell - start)) l refl

fetch_all :
    RunsByPlaces PlainItem → (ds : List Definition) (p : Place) → p.cell < length (laid_all ds) →
    fetched_at p (get_or (laid_all ds) p.cell None) ≡ taken_at p (spot_in ds p.cell)
fetch_all law [] p l = absurd (omega (arith, l))
fetch_all law (d ∷ ds) p l =
    let start = length (laid_all ds) in
    let new = laid_body start d.body ++ laid_out Return in
    split_lt (λ o. fetched_at p (get_or (laid_all ds ++ new) p.cell None) ≡ taken_at p o) p.cell start
    (spot_in ds p.cell) (spot_of start d.body (number_at (map item_cells (items_of d.body)) (p.cell - start)))
    (nat_lt p.cell start) refl
    (λ m. ap (fetched_at p) (get_or_append_left (laid_all ds) new None p.cell m) ∙ fetch_all law ds p m)
    (λ m.
    let body = body_length start d.body in
    ap (fetched_at p) (get_past (laid_all ds) new p.cell m)
    ∙ fetch_last law start d.body p m
    (omega (arith, l, body, length-append (laid_all ds) new, length-append (laid_body start d.body) (laid_out Return))))

items :
    CompilesReading → RunsByPlaces PlainItem → (d : Definitions) (p : Place) → p.cell < length (laid_all d.finished) →
    fetched_at p (item_in (flat_of d).code p) ≡ fetched d p
items law runs d p l =
    let cells = (flat_of d).code.cells in
    let n = length (laid_all d.finished) in
    let same : get_or cells p.cell None ≡ get_or (laid_all d.finished) p.cell None =
    sym (get_or-take n cells p.cell None l)
    ∙ ap (λ k. get_or k p.cell None) (law.before (code_of d.finished) d.elements) in
    ap (fetched_at p) same ∙ fetch_all runs d.finished p l

pub total-take : (n : ℕ) (ns : List ℕ) → total (take n ns) ≤ total ns
total-take zero ns = omega arith
total-take (suc n) [] = omega arith
total-take (suc n) (m ∷ ns) = let rest = total-take n ns in omega (arith, rest)

abbrev spot_end : Spot → ℕ
spot_end s = s.start + total (map item_cells (items_of s.body))

same_end : (r s : Spot) → Some r ≡ Some s → spot_end r ≡ spot_end s
same_end r s e = let same : r ≡ s = cc in ap spot_end same

spot_start :
    (start : ℕ) (b : Body PlainItem) (o : Option ℕ) (s : Spot) → spot_of start b o ≡ Some s →
    s.start + total (map item_cells (items_of s.body)) ≡ start + total (map item_cells (items_of b))
spot_start start b None s e = let bad : ⊥ = cc in absurd bad
spot_start start b (Some k) s e = sym (same_end (record { start = start; body = b; number = k }) s e)

pub spot_below :
    (ds : List Definition) (c : ℕ) (s : Spot) → spot_in ds c ≡ Some s →
    s.start + total (map item_cells (items_of s.body)) < length (laid_all ds)
spot_below [] c s e = let bad : ⊥ = cc in absurd bad
spot_below (d ∷ ds) c s e =
    let start = length (laid_all ds) in
    let whole = length-append (laid_all ds) (laid_body start d.body ++ laid_out Return) in
    let last = length-append (laid_body start d.body) (laid_out Return) in
    let body = body_length start d.body in
    split_lt (λ o. o ≡ Some s → s.start + total (map item_cells (items_of s.body)) < length (laid_all (d ∷ ds))) c start
    (spot_in ds c) (spot_of start d.body (number_at (map item_cells (items_of d.body)) (c - start))) (nat_lt c start)
    refl
    (λ m f. let below = spot_below ds c s f in omega (arith, below, whole))
    (λ m f. let here = spot_start start d.body (number_at (map item_cells (items_of d.body)) (c - start)) s f in
    omega (arith, here, whole, last, body))
    e

points :
    (ds : List Definition) (c : ℕ) (s : Spot) (q : Point PlainItem) → spot_in ds c ≡ Some s →
    (point_place s q).cell < length (laid_all ds)
points ds c s q e =
    let upto = total-take (number s.body q) (map item_cells (items_of s.body)) in
    let below = spot_below ds c s e in
    omega (arith, upto, below)

-- ---- where words begin

starts_if :
    (b : Bool) (d : Definition) (ds : List Definition) (rest : Option Spot) (others : Option Start) →
    start_place others ≡ begun_place rest →
    start_place (if b then Some (record { xt = d.xt; place = place_of (length (laid_all ds)) }) else others)
    ≡ begun_place (if b then Some (record { start = length (laid_all ds); body = d.body; number = 0 }) else rest)
starts_if true d ds rest others e = ap (λ n. Some (place_of n)) (omega arith)
starts_if false d ds rest others e = e

starts_all :
    (ds : List Definition) (xt : Cell) →
    start_place (find (λ (s : Start). s.xt.0 == xt.0) (starts_of ds)) ≡ begun_place (begun ds xt)
starts_all [] xt = refl
starts_all (d ∷ ds) xt =
    starts_if (d.xt.0 == xt.0) d ds (begun ds xt) (find (λ (s : Start). s.xt.0 == xt.0) (starts_of ds))
    (starts_all ds xt)

starts :
    CompilesReading → (d : Definitions) (xt : Cell) → start_in (flat_of d).code xt ≡ begun_place (begun d.finished xt)
starts law d xt =
    ap (λ l. start_place (find (λ (s : Start). s.xt.0 == xt.0) l))
    (ap (λ (c : Code). c.starts) (law.kept (code_of d.finished) d.elements refl)) ∙ starts_all d.finished xt

pub lt_other : {X : Type 0} → (k n : ℕ) (s t : X) → n ≤ k → (if nat_lt k n then s else t) ≡ t
lt_other k n s t l = ap (λ b. if b then s else t) (le-ltb k n l)

pub lt_this : {X : Type 0} → (k n : ℕ) (s t : X) → k < n → (if nat_lt k n then s else t) ≡ s
lt_this k n s t l = ap (λ b. if b then s else t) (lt-ltb k n l)

-- the spot of a word that begins here
abbrev here : Definition → List Definition → Spot
here d ds = record { start = length (laid_all ds); body = d.body; number = 0 }

first_spot : (d : Definition) (ds : List Definition) → spot_in (d ∷ ds) (length (laid_all ds) + 0) ≡ Some (here d ds)
first_spot d ds =
    let n = length (laid_all ds) in
    let sizes = map item_cells (items_of d.body) in
    lt_other (n + 0) n (spot_in ds (n + 0)) (spot_of n d.body (number_at sizes (n + 0 - n))) (omega arith)
    ∙ ap (λ k. spot_of n d.body (number_at sizes k)) (let z : n + 0 - n ≡ 0 = omega arith in z)

record Entered (ds : List Definition) (s : Spot) : Type 0 where
  pub below : s.start + total (map item_cells (items_of s.body)) < length (laid_all ds)
  pub is : spot_in ds (spot_place s).cell ≡ Some s

some_spot : (r s : Spot) → Some r ≡ Some s → r ≡ s
some_spot r s e = cc

entered_if :
    (b : Bool) (d : Definition) (ds : List Definition) (xt : Cell) (s : Spot) → (begun ds xt ≡ Some s → Entered ds s) →
    (if b then Some (here d ds) else begun ds xt) ≡ Some s → Entered (d ∷ ds) s
entered_if true d ds xt s h e =
    let start = length (laid_all ds) in
    let whole = length-append (laid_all ds) (laid_body start d.body ++ laid_out Return) in
    let last = length-append (laid_body start d.body) (laid_out Return) in
    let body = body_length start d.body in
    let now : Entered (d ∷ ds) (here d ds) = record
    { below = omega (arith, whole, last, body); is = first_spot d ds } in
    subst (Entered (d ∷ ds)) (some_spot (here d ds) s e) now
entered_if false d ds xt s h e =
    let start = length (laid_all ds) in
    let w = h e in
    let below = w.below in
    let upto = total-take s.number (map item_cells (items_of s.body)) in
    let c = (spot_place s).cell in
    record {
      below =
          let whole = length-append (laid_all ds) (laid_body start d.body ++ laid_out Return) in
          omega (arith, below, whole);
      is =
          lt_this c start (spot_in ds c)
          (spot_of start d.body (number_at (map item_cells (items_of d.body)) (c - start))) (omega (arith, below, upto))
          ∙ w.is;
    }

entered : (ds : List Definition) (xt : Cell) (s : Spot) → begun ds xt ≡ Some s → Entered ds s
entered [] xt s e = let bad : ⊥ = cc in absurd bad
entered (d ∷ ds) xt s e = entered_if (d.xt.0 == xt.0) d ds xt s (λ g. entered ds xt s g) e

begins :
    (ds : List Definition) (xt : Cell) (s : Spot) → begun ds xt ≡ Some s → (spot_place s).cell < length (laid_all ds)
begins ds xt s e =
    let below = (entered ds xt s e).below in
    let upto = total-take s.number (map item_cells (items_of s.body)) in
    omega (arith, below, upto)

pub structures_are_flat : CompilesReading → ClosedIsRead PlainItem 32 → RunsByPlaces PlainItem → StructuresAreFlat
structures_are_flat law found runs = record {
  element = element law;
  semicolon = semicolon law found;
  abandoned =
      λ d. ap (λ (k : Code). let c : Coding = record { code = k; openers = Some [] } in c)
      (law.kept (code_of d.finished) d.elements refl);
  items = items law runs;
  starts = starts law;
  begins = λ d xt s e. begins d.finished xt s e;
  entered = λ d xt s e. (entered d.finished xt s e).is;
  points = λ d c s q e. points d.finished c s q e;
}
