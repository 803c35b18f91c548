-- The code of an open definition is its items laid out, and at the end those of its body.
use Rattle.std.proofs.Common.{◌≡◌, ℕ, ◌+◌, ◌≤◌, zero, suc, Bool, true, false, List, [], ◌∷◌, ◌++◌, length, take, Option}
use Rattle.std.proofs.Common.{Some, None, refl, sym, ap, subst, ◌∙◌, arith, append_assoc, length-append}
use Rattle.std.specs.Prelude.{◌==◌, map, if◌then◌else◌}
use Rattle.std.proofs.lemmas.List.{append-nil, length-map, take-append-le}
use Rattle.std.proofs.Math.Seq.{take-append_seam}
use Rattle.of_code.specs.declared.item.Place.{Place}
use Rattle.of_code.specs.declared.item.Item.{Item}
use Rattle.of_code.specs.Items.{cells_of}
use Rattle.of_code.specs.Code.{Code}
use Rattle.of_control.specs.declared.opener.Opener.{Opener}
use Rattle.of_control.specs.declared.opener.Kind.TheVariants.{CaseSys, Dest, DoSys, OfSys, Orig}
use Rattle.of_control.specs.Openers.{any_do_sys, on_case, opened_in}
use Rattle.of_control.specs.Element.{Element, Plain, Branch, Resolve, Mark, Back, Roll, Do, Loop, Leave, Case, Of}
use Rattle.of_control.specs.Element.{EndOf, EndCase, Misfit}
use Rattle.of_control.specs.Items.{Item as BodyItem, Perform, JumpTo, EnterLoop, RepeatLoop, ExitLoop, TestArm, EndArm}
use Rattle.of_control.specs.Items.{DropSelector, is_item, item_count, one_if}
use Rattle.of_control.specs.Body.{Body}
use Rattle.of_control.specs.Matching.{Fits, Opening, Partners, open_ones}
use Rattle.of_control.specs.Calls.{after_call, after_calls, before, call_answer, due_answer, opener_at, placed}
use Rattle.of_control.specs.Compiling.{compiled_next}
use Rattle.of_control.specs.Compiling.{compiled as items_compiled}
use Rattle.of_control.specs.Law.{CallsFollowMatching, CompiledIsFlat, IsBodyIn, IsBounded}
use Rattle.of_compile.specs.declared.element.PlainItem.{PlainItem}
use Rattle.of_compile.specs.Elements.{element_cells, item_size, loop_item, nowhere, own_item}
use Rattle.of_compile.specs.Coding.{code_after, coding_on, place_of}
use Rattle.of_compile.specs.Layout.{code_item, item_cells, laid_body, total}
use Rattle.of_compile.proofs.Lengths.{code_length}
use Rattle.of_compile.proofs.Among.{if_some, opened}
use Rattle.of_compile.proofs.Standing.{AllStand, closed_items, stand_length}
use Rattle.of_compile.proofs.Steps.{Next, Now, next_back, next_branch, next_case, next_do, next_endcase, next_endof}
use Rattle.of_compile.proofs.Steps.{next_leave, next_loop, next_mark, next_of, next_plain, next_resolve, next_roll}
use Rattle.of_compile.proofs.Steps.{over, size_of}

-- where the next item of an open definition begins
abbrev pub place_in : Code → List (Element PlainItem) → ℕ
place_in base es = length (coding_on base es).code.cells

abbrev pub own_sizes : List (Element PlainItem) → List ℕ
own_sizes [] = []
own_sizes (e ∷ es) = own_sizes es ++ size_of (own_item e)

-- the cell of item n, where the items have these sizes
abbrev pub cell_at : Code → List ℕ → ℕ → ℕ
cell_at base sizes n = length base.cells + total (take n sizes)

-- ---- lengths

total-append : (xs ys : List ℕ) → total (xs ++ ys) ≡ total xs + total ys
total-append [] ys = omega arith
total-append (x ∷ xs) ys = let rest = total-append xs ys in omega (arith, rest)

own_one : (e : Element PlainItem) → length (size_of (own_item e)) ≡ one_if (is_item e)
own_one (Plain k) = refl
own_one (Branch z t) = refl
own_one (Resolve p) = refl
own_one (Mark p) = refl
own_one (Back z t) = refl
own_one (Roll n) = refl
own_one (Do q) = refl
own_one (Loop l) = refl
own_one Leave = refl
own_one Case = refl
own_one Of = refl
own_one EndOf = refl
own_one EndCase = refl
own_one (Misfit k) = refl

own_count : (es : List (Element PlainItem)) → length (own_sizes es) ≡ item_count es
own_count [] = refl
own_count (e ∷ es) = omega (arith, length-append (own_sizes es) (size_of (own_item e)), own_count es, own_one e)

element_size : (o : Option Item) → item_size o ≡ total (size_of o)
element_size None = refl
element_size (Some item) = omega arith

-- the next item begins after all sizes
place_is : (base : Code) (es : List (Element PlainItem)) → place_in base es ≡ length base.cells + total (own_sizes es)
place_is base [] = omega arith
place_is base (e ∷ es) =
    let so_far = place_is base es in
    let c = coding_on base es in
    let more = code_length e (call_answer e c.openers) c.code in
    let sum = total-append (own_sizes es) (size_of (own_item e)) in
    omega (arith, so_far, more, sum, element_size (own_item e))

pub size_is : (base : Code) (es : List (Element PlainItem)) → place_in base es ≡ length base.cells + element_cells es
size_is base [] = omega arith
size_is base (e ∷ es) =
    let so_far = size_is base es in
    let c = coding_on base es in
    let more = code_length e (call_answer e c.openers) c.code in
    omega (arith, so_far, more)

cell_is :
    (base : Code) (sizes : List ℕ) (es : List (Element PlainItem)) (more : List ℕ) → sizes ≡ own_sizes es ++ more →
    cell_at base sizes (item_count es) ≡ length base.cells + total (own_sizes es)
cell_is base sizes es more e =
    ap (λ n. length base.cells + total (take n sizes)) (sym (own_count es))
    ∙ ap (λ l. length base.cells + total (take (length (own_sizes es)) l)) e
    ∙ ap (λ l. length base.cells + total l) (take-append_seam (own_sizes es) more)

prefix :
    (sizes : List ℕ) (e : Element PlainItem) (es : List (Element PlainItem)) (more : List ℕ) →
    sizes ≡ own_sizes (e ∷ es) ++ more → sizes ≡ own_sizes es ++ (size_of (own_item e) ++ more)
prefix sizes e es more h = h ∙ append_assoc (own_sizes es) (size_of (own_item e)) more

before_if :
    (base : Code) (sizes : List ℕ) (b : Bool) (one other : List (Element PlainItem)) →
    place_in base one ≡ cell_at base sizes (item_count one) →
    place_in base other ≡ cell_at base sizes (item_count other) →
    place_in base (if b then one else other) ≡ cell_at base sizes (item_count (if b then one else other))
before_if base sizes true one other h g = h
before_if base sizes false one other h g = g

place_before :
    (base : Code) (sizes : List ℕ) (es : List (Element PlainItem)) (more : List ℕ) (n : ℕ) →
    sizes ≡ own_sizes es ++ more → place_in base (before n es) ≡ cell_at base sizes (item_count (before n es))
place_before base sizes [] more n h = place_is base [] ∙ sym (cell_is base sizes [] more h)
place_before base sizes (e ∷ es) more n h =
    let rest = prefix sizes e es more h in
    before_if base sizes (n == length es) es (before n es)
    (place_is base es ∙ sym (cell_is base sizes es (size_of (own_item e) ++ more) rest))
    (place_before base sizes es (size_of (own_item e) ++ more) n rest)

cell_next :
    (base : Code) (sizes : List ℕ) (e : Element PlainItem) (es : List (Element PlainItem)) (more : List ℕ) →
    sizes ≡ own_sizes (e ∷ es) ++ more →
    cell_at base sizes (item_count (e ∷ es)) ≡ cell_at base sizes (item_count es) + total (size_of (own_item e))
cell_next base sizes e es more h =
    let one = cell_is base sizes (e ∷ es) more h in
    let two = cell_is base sizes es (size_of (own_item e) ++ more) (prefix sizes e es more h) in
    let sum = total-append (own_sizes es) (size_of (own_item e)) in
    omega (arith, one, two, sum)

cell_places :
    (base : Code) (sizes : List ℕ) (es : List (Element PlainItem)) (more : List ℕ) (xs : List Item) (k : ℕ) →
    sizes ≡ own_sizes es ++ more → map cells_of xs ≡ own_sizes es → k ≤ item_count es →
    cell_at base sizes k ≡ length base.cells + total (take k (map cells_of xs))
cell_places base sizes es more xs k h s l =
    ap (λ m. length base.cells + total (take k m)) h
    ∙ ap (λ m. length base.cells + total m)
    (take-append-le k (own_sizes es) more (let c = own_count es in omega (arith, c, l)))
    ∙ ap (λ m. length base.cells + total (take k m)) (sym s)

-- ---- one element

if_then :
    (b : Bool) (x : Option (List Opener)) (l : List Opener) → (if b then x else None) ≡ Some l →
    (b ≡ true) × (x ≡ Some l)
if_then true x l e = (refl, e)
if_then false x l e = let bad : ⊥ = cc in absurd bad

-- what is known before an element of those that follow
pub record Before (base : Code) (cell : ℕ → ℕ) (e : Element PlainItem) (es : List (Element PlainItem))
    (o : Option Opening) (os new : List Opener) : Type 0 where
  pub after : after_call 32 (item_count es) e (Some os) ≡ Some new
  pub answer : call_answer e (Some os) ≡ due_answer item_count es e o
  pub places : (k : ℕ) → place_in base (before k es) ≡ cell (item_count (before k es))
  pub more : cell (item_count (e ∷ es)) ≡ cell (item_count es) + total (size_of (own_item e))

-- the cell at which a partner begins, as the store has it
partner :
    {base : Code} {cell : ℕ → ℕ} {n : ℕ} {is : List (BodyItem PlainItem)} {xs : List Item} {e : Element PlainItem}
    {new : List Opener} (j a : ℕ) → a ≡ cell j → Next base cell n is xs e (Some j) (Some (cell j)) new →
    Next base cell n is xs e (Some j) (Some a) new
partner {base = base} {cell = cell} {n = n} {is = is} {xs = xs} {e = e} {new = new} j a h x =
    subst (λ m. Next base cell n is xs e (Some j) (Some m) new) (sym h) x

left_as :
    {base : Code} {cell : ℕ → ℕ} {n : ℕ} {is : List (BodyItem PlainItem)} {xs : List Item} {e : Element PlainItem}
    {ai ac : Option ℕ} (l new : List Opener) → new ≡ l → Next base cell n is xs e ai ac l →
    Next base cell n is xs e ai ac new
left_as {base = base} {cell = cell} {n = n} {is = is} {xs = xs} {e = e} {ai = ai} {ac = ac} l new h x =
    subst (λ m. Next base cell n is xs e ai ac m) (sym h) x

some_same : (l m : List Opener) → Some l ≡ Some m → m ≡ l
some_same l m e = cc

grown_by : (cell : ℕ → ℕ) (n k : ℕ) → cell (n + 1) ≡ cell n + (k + 0) → cell (suc n) ≡ cell n + k
grown_by cell n k e = ap cell (omega arith) ∙ e ∙ omega arith

two_loop :
    (cell : ℕ → ℕ) (n : ℕ) (l : Bool) → cell (n + 1) ≡ cell n + (cells_of (loop_item l nowhere) + 0) →
    cell (suc n) ≡ cell n + 2
two_loop cell n true e = grown_by cell n 2 e
two_loop cell n false e = grown_by cell n 2 e

next :
    (base : Code) (cell : ℕ → ℕ) (e : Element PlainItem) (es : List (Element PlainItem)) (o : Option Opening)
    (m : Partners) (is : List (BodyItem PlainItem)) (xs : List Item) (os new : List Opener) →
    Fits (open_ones es m) e o → Before base cell e es o os new → Now base cell (item_count es) is xs os →
    Next base cell (item_count es) is xs e (due_answer item_count es e o) (due_answer (place_in base) es e o) new
next base cell (Plain k) es o m is xs os new f b h =
    left_as os new (some_same os new b.after) (next_plain base cell (item_count es) is xs os k _ _ h)
next base cell (Branch z t) es o m is xs os new f b h =
    left_as (opener_at (item_count es) (Orig t) ∷ os) new (opened (opener_at (item_count es) (Orig t)) os new b.after)
    (next_branch base cell (item_count es) is xs os z t _ _ h)
next base cell (Mark p) es o m is xs os new f b h =
    left_as (opener_at (item_count es) (Dest p) ∷ os) new (opened (opener_at (item_count es) (Dest p)) os new b.after)
    (next_mark base cell (item_count es) is xs os p _ _ h)
next base cell (Do q) es o m is xs os new f b h =
    left_as (opener_at (item_count es) DoSys ∷ os) new (opened (opener_at (item_count es) DoSys) os new b.after)
    (next_do base cell (item_count es) is xs os q _ _ h)
next base cell Case es o m is xs os new f b h =
    left_as (opener_at (item_count es) CaseSys ∷ os) new (opened (opener_at (item_count es) CaseSys) os new b.after)
    (next_case base cell (item_count es) is xs os _ _ h)
next base cell Of es o m is xs os new f b h =
    let w = if_then (on_case os) (opened_in 32 (opener_at (item_count es) OfSys) (Some os)) new b.after in
    left_as (opener_at (item_count es) OfSys ∷ os) new (opened (opener_at (item_count es) OfSys) os new w.1)
    (next_of base cell (item_count es) is xs os _ _ w.0 h)
next base cell Leave es o m is xs os new f b h =
    let w = if_some (any_do_sys os) os new b.after in
    left_as os new w.1 (next_leave base cell (item_count es) is xs os _ _ w.0 h)
next base cell (Roll j) es o m is xs os new f b h = next_roll base cell (item_count es) is xs os new j _ _ b.after h
next base cell (Resolve p) es (Some x) m is xs os new f b h =
    let j = item_count (before x.at es) in
    partner j (place_in base (before x.at es)) (b.places x.at)
    (next_resolve base cell (item_count es) is xs os new p j b.after b.answer h)
next base cell (Back z t) es (Some x) m is xs os new f b h =
    let j = item_count (before x.at es) in
    partner j (place_in base (before x.at es)) (b.places x.at)
    (next_back base cell (item_count es) is xs os new z t j b.after b.answer h)
next base cell (Loop l) es (Some x) m is xs os new f b h =
    let j = item_count (before x.at es) in
    partner j (place_in base (before x.at es)) (b.places x.at)
    (next_loop base cell (item_count es) is xs os new l j (two_loop cell (item_count es) l b.more) b.after b.answer h)
next base cell EndOf es (Some x) m is xs os new f b h =
    let j = item_count (before x.at es) in
    partner j (place_in base (before x.at es)) (b.places x.at)
    (next_endof base cell (item_count es) is xs os new j (grown_by cell (item_count es) 2 b.more) b.after b.answer h)
next base cell EndCase es (Some x) m is xs os new f b h =
    let j = item_count (before x.at es) in
    partner j (place_in base (before x.at es)) (b.places x.at)
    (next_endcase base cell (item_count es) is xs os new j (grown_by cell (item_count es) 1 b.more) b.after b.answer h)
next base cell (Resolve p) es None m is xs os new f b h = absurd f
next base cell (Back z t) es None m is xs os new f b h = absurd f
next base cell (Loop l) es None m is xs os new f b h = absurd f
next base cell EndOf es None m is xs os new f b h = absurd f
next base cell EndCase es None m is xs os new f b h = absurd f
next base cell (Misfit k) es o m is xs os new f b h = let bad : ⊥ = no_list new b.after in absurd bad
  where
    no_list : (l : List Opener) → None ≡ Some l → ⊥
    no_list l e = cc

-- ---- all elements

pub openers_are :
    (base : Code) (es : List (Element PlainItem)) → (coding_on base es).openers ≡ after_calls 32 (place_in base) es
openers_are base [] = refl
openers_are base (e ∷ es) = ap (after_call 32 (place_in base es) e) (openers_are base es)

pub record Good (base : Code) (cell : ℕ → ℕ) (es : List (Element PlainItem)) : Type 0 where
  pub left : List Opener
  pub items : List Item
  pub openers : after_calls 32 item_count es ≡ Some left
  pub code : (coding_on base es).code ≡ over base items
  pub sizes : map cells_of items ≡ own_sizes es
  pub now : Now base cell (item_count es) (items_compiled 32 es) items left

head_same : {A : Type 0} → (x y : A) (xs ys : List A) → x ∷ xs ≡ y ∷ ys → x ≡ y
head_same x y xs ys e = cc

good_next :
    (base : Code) (sizes : List ℕ) (e : Element PlainItem) (es : List (Element PlainItem)) (o : Option Opening)
    (m : Partners) (more : List ℕ) → CallsFollowMatching PlainItem 32 → sizes ≡ own_sizes (e ∷ es) ++ more →
    IsBounded 32 (e ∷ es) (o ∷ m) → Good base (cell_at base sizes) es → Good base (cell_at base sizes) (e ∷ es)
good_next base sizes e es o m more law h bounded g =
    let cell = cell_at base sizes in
    let new = map (placed item_count (e ∷ es)) (open_ones (e ∷ es) (o ∷ m)) in
    let done : after_calls 32 item_count (e ∷ es) ≡ Some new = law.open_then item_count (e ∷ es) (o ∷ m) bounded in
    let ai : call_answer e (after_calls 32 item_count es)
    ≡ due_answer item_count es e o = head_same _ _ _ _ (law.answers item_count (e ∷ es) (o ∷ m) bounded) in
    let ac : call_answer e (coding_on base es).openers
    ≡ due_answer (place_in base) es e o = ap (call_answer e) (openers_are base es)
    ∙ head_same _ _ _ _ (law.answers (place_in base) (e ∷ es) (o ∷ m) bounded) in
    let b : Before base cell e es o g.left new = record {
      after = sym (ap (after_call 32 (item_count es) e) g.openers) ∙ done;
      answer = sym (ap (call_answer e) g.openers) ∙ ai;
      places = λ k. place_before base sizes es (size_of (own_item e) ++ more) k (prefix sizes e es more h);
      more = cell_next base sizes e es more h;
    } in
    let x = next base cell e es o m (items_compiled 32 es) g.items g.left new bounded.matching.1 b g.now in
    let own : map cells_of x.after ≡ own_sizes (e ∷ es) = x.sizes ∙ ap (λ l. l ++ size_of (own_item e)) g.sizes in
    let stand = subst (λ a. AllStand cell new new 0 (compiled_next e a (items_compiled 32 es)) x.after) (sym ai)
    x.stand in
    record {
      left = new;
      items = x.after;
      openers = done;
      code =
          ap (λ a. code_after e a (coding_on base es).code) ac
          ∙ ap (code_after e (due_answer (place_in base) es e o)) g.code ∙ x.code;
      sizes = own;
      now = record {
        stand = stand;
        count = stand_length cell new new 0 (items_compiled 32 (e ∷ es)) x.after stand
            ∙ sym (length-map x.after cells_of) ∙ ap length own ∙ own_count (e ∷ es);
        early = x.early;
        based = x.based;
        places = λ k l. cell_places base sizes (e ∷ es) more x.after k h own l;
      };
    }

no_sizes : (base : Code) (sizes : List ℕ) (k : ℕ) → k ≤ 0 → cell_at base sizes k ≡ length base.cells + total (take k [])
no_sizes base sizes zero l = refl
no_sizes base sizes (suc k) l = absurd (omega (arith, l))

pub good :
    (base : Code) (sizes : List ℕ) (es : List (Element PlainItem)) (m : Partners) (more : List ℕ) →
    CallsFollowMatching PlainItem 32 → sizes ≡ own_sizes es ++ more → IsBounded 32 es m →
    Good base (cell_at base sizes) es
good base sizes [] m more law h bounded = record {
  left = [];
  items = [];
  openers = refl;
  code = ap (λ l. record base { cells = l }) (sym (append-nil base.cells));
  sizes = refl;
  now =
      record { stand = tt; count = refl; early = λ y a. absurd a; based = tt; places = λ k l. no_sizes base sizes k l };
}
good base sizes (e ∷ es) [] more law h bounded = absurd bounded.matching
good base sizes (e ∷ es) (o ∷ m) more law h bounded =
    good_next base sizes e es o m more law h bounded
    (good base sizes es m (size_of (own_item e) ++ more) law (prefix sizes e es more h)
    (record { matching = bounded.matching.0; few = bounded.few.0 }))

-- ---- at the end

code_item_size : (place : ℕ → Place) (i : BodyItem PlainItem) → cells_of (code_item place i) ≡ item_cells i
code_item_size place (Perform a) = refl
code_item_size place (JumpTo true t) = refl
code_item_size place (JumpTo false t) = refl
code_item_size place (EnterLoop true t) = refl
code_item_size place (EnterLoop false t) = refl
code_item_size place (RepeatLoop true t) = refl
code_item_size place (RepeatLoop false t) = refl
code_item_size place (ExitLoop t) = refl
code_item_size place (TestArm t) = refl
code_item_size place (EndArm t) = refl
code_item_size place DropSelector = refl

pub code_sizes :
    (place : ℕ → Place) (is : List (BodyItem PlainItem)) → map cells_of (map (code_item place) is) ≡ map item_cells is
code_sizes place [] = refl
code_sizes place (i ∷ is) =
    ap (λ n. n ∷ map cells_of (map (code_item place) is)) (code_item_size place i)
    ∙ ap (λ l. item_cells i ∷ l) (code_sizes place is)

-- an open definition with these items, laid out
abbrev over_items : Code → List ℕ → List (BodyItem PlainItem) → Code
over_items base sizes is = over base (map (code_item (λ n. place_of (cell_at base sizes n))) is)

pub laid_reading :
    CallsFollowMatching PlainItem 32 → CompiledIsFlat PlainItem 32 →
    (base : Code) (es : List (Element PlainItem)) (b : Body PlainItem) → IsBodyIn 32 es b →
    (coding_on base es).code ≡ record base { cells = base.cells ++ laid_body (length base.cells) b }
laid_reading law flat base es b r =
    let sizes = own_sizes es in
    let m = r.partners in
    let g = good base sizes es m [] law (sym (append-nil sizes)) r.matched.bounded in
    let is = items_compiled 32 es in
    let none : g.left ≡ [] = some_same _ _
    (sym (law.open_then item_count es m r.matched.bounded
    ∙ ap (λ l. Some (map (placed item_count es) l)) r.matched.closed) ∙ g.openers) in
    let stand : AllStand (cell_at base sizes) [] [] 0 is g.items = subst
    (λ l. AllStand (cell_at base sizes) l l 0 is g.items) none g.now.stand in
    let xs : g.items ≡ map (code_item (λ n. place_of (cell_at base sizes n))) is = closed_items (cell_at base sizes) 0
    is g.items stand in
    let own : sizes ≡ map item_cells is = sym g.sizes ∙ ap (map cells_of) xs
    ∙ code_sizes (λ n. place_of (cell_at base sizes n)) is in
    g.code
    ∙ ap (over base) xs
    ∙ ap (λ s. over_items base s is) own
    ∙ ap (λ l. over_items base (map item_cells l) l) (flat.whole es b r)
