-- The law.
use Rattle.std.proofs.Common.{◌≡◌, ℕ, ◌+◌, ◌≤◌, List, [], ◌∷◌, length, map, Some, None, refl, ap, sym, ◌∙◌, subst}
use Rattle.std.proofs.Common.{arith, IsTrue}
use Rattle.std.specs.Prelude.{reverse, slice_get}
use Rattle.std.proofs.lemmas.List.{reverse-reverse}
use Rattle.of_control.specs.Element.{Element as ElementOf}
use Rattle.of_control.specs.Items.{Item as BodyItem, item_count}
use Rattle.of_control.specs.Openers.{Openers, is_all_closed}
use Rattle.of_control.specs.Body.{Body, items_of}
use Rattle.of_control.specs.Calls.{after_calls}
use Rattle.of_control.specs.Compiling.{compiled}
use Rattle.of_control.specs.Law.{ArePlacedWithin, ClosedIsRead, CompiledIsFlat, IsBodyIn, ItemsAreCounted, OneReading}
use Rattle.of_control.specs.Law.{PlacesStayWithin}
use Rattle.of_compile.specs.declared.element.PlainItem.{PlainItem}
use Rattle.of_compile.specs.Elements.{element_of}
use Rattle.of_compile.specs.Layout.{item_place, laid_body}
use Rattle.of_see.specs.SeeItems.{see_items}
use Rattle.of_see_laws.specs.ReadsBack.{PrintedElementsHaveTheBody, compiled_in_order}
use Rattle.of_see_laws.proofs.Stacks.{Entry, openers}
use Rattle.of_see_laws.proofs.Runs.{Runs}
use Rattle.of_see_laws.proofs.Compiled.{AreCounted, Before, finished, onto}
use Rattle.of_see_laws.proofs.Complete.{ArePlaced, running}
use Rattle.of_see_laws.proofs.Shown.{nothing}
use Rattle.of_see_laws.proofs.Seen.{printed}
use Rattle.of_see_laws.proofs.Prints.{go_on, prints}
use Rattle.of_see_laws.proofs.Targets.{go_within, leads, past_in, pasts}
use Rattle.of_see_laws.proofs.Cells.{same_printed}
use Rattle.of_see_laws.proofs.Laid.{cell_of, fits, rises}

-- ---- lists of elements, the first or the latest first

onto_reversed : {A : Type 0} (es : List (ElementOf A)) → onto (reverse es) [] ≡ es
onto_reversed es = reverse-reverse es

-- ---- elements that close all

-- all calls are made within the number of items
placed_within :
    {A : Type 0} (b : ℕ) (es : List (ElementOf A)) → item_count es ≤ b → ArePlacedWithin b item_count es
placed_within b [] le = tt
placed_within b (e ∷ es) le = (omega (arith, le), placed_within b es (omega (arith, le)))

are_placed : (A : Type 0) (limit : ℕ) → PlacesStayWithin A limit → ArePlaced A limit
are_placed A limit law es = (law.all (item_count es) item_count es (placed_within (item_count es) es (omega arith))).0

closed_stack : (os : Openers) → IsTrue (is_all_closed os) → os ≡ Some []
closed_stack None h = let bad : ⊥ = cc in absurd bad
closed_stack (Some []) h = refl
closed_stack (Some (x ∷ os)) h = let bad : ⊥ = cc in absurd bad

open_stack : (os : Openers) → os ≡ Some [] → IsTrue (is_all_closed os)
open_stack os e = subst (λ o. IsTrue (is_all_closed o)) (sym e) refl

nothing_before : (A : Type 0) (limit : ℕ) → Before {A = A} limit [] 0 []
nothing_before A limit = record { open_now = refl; count = refl; compiled_count = refl; placed = tt; apart = tt }

no_entries : (G : List Entry) → openers G ≡ [] → G ≡ []
no_entries [] e = refl
no_entries (x ∷ G) e = let bad : ⊥ = cc in absurd bad

-- the elements, the first of them first, from which a body's items come
record Source {A : Type 0} (limit : ℕ) (is : List (BodyItem A)) : Type 0 where
  pub elements : List (ElementOf A)
  pub runs : Runs limit elements 0 [] is

source :
    {A : Type 0} (limit : ℕ) (es : List (ElementOf A)) (is : List (BodyItem A)) → AreCounted A limit →
    ArePlaced A limit → after_calls limit item_count es ≡ Some [] → compiled limit es ≡ is → Source limit is
source {A = A} limit es is counted placed closed items =
    let s = reverse es in
    let back = onto_reversed es in
    let f = running limit s [] [] placed refl (ap (after_calls limit item_count) back ∙ closed) in
    let r = subst (λ G. Runs limit s 0 G f.items) (no_entries f.stack f.same) f.runs in
    let done = finished limit counted r [] (nothing_before A limit) in
    let same : f.items ≡ is = sym done.items ∙ ap (compiled limit) back ∙ items in
    record { elements = s; runs = subst (λ I. Runs limit s 0 [] I) same r }

-- what is printed runs
printed_runs :
    {A : Type 0} (limit : ℕ) (is : List (BodyItem A)) → Source limit is →
    Runs limit (printed (past_in is) 0 is [] []) 0 [] is
printed_runs limit is s =
    go_on limit (past_in is) 0 [] is [] [] refl
    (prints s.runs (past_in is) [] [] nothing (omega arith) tt (pasts is 0 is (λ k. ap (slice_get is) (zero_before k))))
  where
    zero_before : (k : ℕ) → k ≡ 0 + k
    zero_before k = omega arith

-- elements that run and leave the items of a tight body have that body
body_back :
    {A : Type 0} (limit : ℕ) (s es : List (ElementOf A)) (b : Body A) → AreCounted A limit → ClosedIsRead A limit →
    CompiledIsFlat A limit → OneReading A limit → Runs limit s 0 [] (items_of b) → IsBodyIn limit es b →
    IsBodyIn limit (onto s []) b
body_back {A = A} limit s es b counted closed flat one r was =
    let done = finished limit counted r [] (nothing_before A limit) in
    let all = onto s [] in
    let found = (closed.read item_count all).0 (open_stack (after_calls limit item_count all) done.closed) in
    let items : items_of found.0 ≡ items_of b = sym (flat.whole (onto s []) found.0 found.1) ∙ done.items in
    let same = one.bodies found.0 b found.1.read.tight was.read.tight items in
    subst (λ c. IsBodyIn limit (onto s []) c) same found.1

-- ---- on cells

zero_cell : (first : ℕ) (is : List (BodyItem PlainItem)) → cell_of first is 0 ≡ first
zero_cell first is = omega arith

cells_printed :
    (first : ℕ) (b : Body PlainItem) → Source 32 (items_of b) →
    map element_of (see_items first (laid_body first b)) ≡ printed (past_in (items_of b)) 0 (items_of b) [] []
cells_printed first b s =
    let is = items_of b in
    let go = go_within s.runs (length is) (omega arith) in
    let lead = leads s.runs is (λ k. ap (slice_get is) (zero_before k)) in
    ap (λ p. map element_of (Rattle.of_see.specs.SeeItems.elements_from first (laid_body first b) p (laid_body first b)
    (record { branches = []; cases = [] }))) (sym (zero_cell first is))
    ∙ same_printed first (laid_body first b) (item_place first is) (cell_of first is) (past_in is) (rises first is) 0 is
    [] [] (fits first is go.1 lead)
  where
    zero_before : (k : ℕ) → k ≡ 0 + k
    zero_before k = omega arith

is_body_again :
    ClosedIsRead PlainItem 32 → CompiledIsFlat PlainItem 32 → ItemsAreCounted PlainItem 32 → OneReading PlainItem 32 →
    PlacesStayWithin PlainItem 32 → (first : ℕ) (es : List (ElementOf PlainItem)) (b : Body PlainItem) →
    IsBodyIn 32 es b → IsBodyIn 32 (compiled_in_order (see_items first (laid_body first b))) b
is_body_again closed flat counts one places first es b was =
    let now = closed_stack (after_calls 32 item_count es) ((closed.read item_count es).1 (b, was)) in
    let s = source 32 es (items_of b) counts.count (are_placed PlainItem 32 places) now (flat.whole es b was) in
    let shown = printed (past_in (items_of b)) 0 (items_of b) [] [] in
    let again = body_back 32 shown es b counts.count closed flat one (printed_runs 32 (items_of b) s) was in
    let same : onto shown [] ≡ compiled_in_order (see_items first (laid_body first b)) =
    ap reverse (sym (cells_printed first b s)) in
    subst (λ l. IsBodyIn 32 l b) same again

pub printed_elements_have_the_body :
    ClosedIsRead PlainItem 32 → CompiledIsFlat PlainItem 32 → ItemsAreCounted PlainItem 32 → OneReading PlainItem 32 →
    PlacesStayWithin PlainItem 32 → PrintedElementsHaveTheBody
printed_elements_have_the_body closed flat counts one places = record {
  is_body = is_body_again closed flat counts one places;
  read = λ first es b was.
      (closed.found (compiled_in_order (see_items first (laid_body first b))) b).1
      (is_body_again closed flat counts one places first es b was);
}
