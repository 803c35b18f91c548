-- What the calls of every store say of one another.
use Rattle.std.proofs.Common.{◌≡◌, ◌≢◌, ◌-◌, ℕ, ◌+◌, ◌<◌, ◌≤◌, zero, suc, List, [], ◌∷◌, ◌++◌, length, take, get_or}
use Rattle.std.proofs.Common.{set, Option, Some, None}
use Rattle.std.proofs.Common.{refl, sym, ap, arith, get_or-set_other, length-append, eq-eqb, ne_eqb}
use Rattle.std.proofs.lemmas.List.{get_or_at, get_or_append_left, get_or-take, length-set, length-take}
use Rattle.std.proofs.lemmas.List.{length-take-le, take-append-le, take_all}
use Rattle.of_cells.specs.declared.cells.Cell.{Cell}
use Rattle.of_code.specs.declared.item.Place.{Place}
use Rattle.of_code.specs.declared.item.Item.{Item}
use Rattle.of_code.specs.declared.item.Item.TheVariants.{Branch, BranchIfZero, Call, Do, EndCase, EndOf, Leave}
use Rattle.of_code.specs.declared.item.Item.TheVariants.{Literal, Loop, Of, Operation, PlusLoop, QuestionDo, Return}
use Rattle.of_code.specs.declared.item.Item.TheVariants.{Store, String}
use Rattle.of_code.specs.Items.{cells_of, laid_out, target_of, with_target}
use Rattle.of_code.specs.Code.{Code, abandoned, appended, end_of, fetched_in, finished, item_in, next_at, retargeted}
use Rattle.of_code.specs.Code.{retargeted_item, start_in}
use Rattle.of_code.specs.Laws.{AbandonedItemsAreForgotten, AppendedItemsAreFound, FinishedWordsAreBound}
use Rattle.of_code.specs.Laws.{TargetsChangeAlone}

-- how an item is laid out: it stands in the first of its cells
record IsLaidOut (item : Item) : Type 0 where
  pub begins : laid_out item ≡ Some item ∷ take (cells_of item - 1) (None ∷ None ∷ [])
  pub size : length (laid_out item) ≡ cells_of item

laid : (item : Item) → IsLaidOut item
laid (Operation xt) = record { begins = refl; size = refl }
laid (Literal x) = record { begins = refl; size = refl }
laid (String address n) = record { begins = refl; size = refl }
laid (Call xt) = record { begins = refl; size = refl }
laid (Store xt) = record { begins = refl; size = refl }
laid (Branch to) = record { begins = refl; size = refl }
laid (BranchIfZero to) = record { begins = refl; size = refl }
laid (Do to) = record { begins = refl; size = refl }
laid (QuestionDo to) = record { begins = refl; size = refl }
laid (Loop to) = record { begins = refl; size = refl }
laid (PlusLoop to) = record { begins = refl; size = refl }
laid (Leave to) = record { begins = refl; size = refl }
laid (Of to) = record { begins = refl; size = refl }
laid (EndOf to) = record { begins = refl; size = refl }
laid EndCase = record { begins = refl; size = refl }
laid Return = record { begins = refl; size = refl }

pub item_in-appended : (c : Code) (item : Item) → item_in (appended c item) (end_of c) ≡ Some item
item_in-appended c item =
    rw ((laid item).begins) (get_or_at c.cells (Some item) (take (cells_of item - 1) (None ∷ None ∷ [])) None
    (length c.cells) refl)

pub fetched_in-appended :
    (c : Code) (item : Item) → fetched_in (appended c item) (end_of c) ≡ Some (item, end_of (appended c item))
fetched_in-appended c item =
    rw (item_in-appended c item, length-append c.cells (laid_out item), (laid item).size) refl

pub item_in-appended_below :
    (c : Code) (item : Item) (place : Place) → place.cell < length c.cells
    → item_in (appended c item) place ≡ item_in c place
item_in-appended_below c item place l = get_or_append_left c.cells (laid_out item) None place.cell l

pub appended_items_are_found : AppendedItemsAreFound
appended_items_are_found = record {
  found = item_in-appended;
  next = fetched_in-appended;
  others = item_in-appended_below;
}

-- a target takes no cell
cells_of-with_target : (item : Item) (to : Place) → cells_of (with_target item to) ≡ cells_of item
cells_of-with_target (Operation xt) to = refl
cells_of-with_target (Literal x) to = refl
cells_of-with_target (String address n) to = refl
cells_of-with_target (Call xt) to = refl
cells_of-with_target (Store xt) to = refl
cells_of-with_target (Branch from) to = refl
cells_of-with_target (BranchIfZero from) to = refl
cells_of-with_target (Do from) to = refl
cells_of-with_target (QuestionDo from) to = refl
cells_of-with_target (Loop from) to = refl
cells_of-with_target (PlusLoop from) to = refl
cells_of-with_target (Leave from) to = refl
cells_of-with_target (Of from) to = refl
cells_of-with_target (EndOf from) to = refl
cells_of-with_target EndCase to = refl
cells_of-with_target Return to = refl

-- the target of an item that has one, and the item without its target
target_of-with_target : (item : Item) (from to : Place) → target_of item ≡ Some from
    → target_of (with_target item to) ≡ Some to
target_of-with_target (Operation xt) from to e = let bad : ⊥ = cc in absurd bad
target_of-with_target (Literal x) from to e = let bad : ⊥ = cc in absurd bad
target_of-with_target (String address n) from to e = let bad : ⊥ = cc in absurd bad
target_of-with_target (Call xt) from to e = let bad : ⊥ = cc in absurd bad
target_of-with_target (Store xt) from to e = let bad : ⊥ = cc in absurd bad
target_of-with_target (Branch at) from to e = refl
target_of-with_target (BranchIfZero at) from to e = refl
target_of-with_target (Do at) from to e = refl
target_of-with_target (QuestionDo at) from to e = refl
target_of-with_target (Loop at) from to e = refl
target_of-with_target (PlusLoop at) from to e = refl
target_of-with_target (Leave at) from to e = refl
target_of-with_target (Of at) from to e = refl
target_of-with_target (EndOf at) from to e = refl
target_of-with_target EndCase from to e = let bad : ⊥ = cc in absurd bad
target_of-with_target Return from to e = let bad : ⊥ = cc in absurd bad

with_target-restored : (item : Item) (from to : Place) → target_of item ≡ Some from
    → with_target (with_target item to) from ≡ item
with_target-restored (Operation xt) from to e = let bad : ⊥ = cc in absurd bad
with_target-restored (Literal x) from to e = let bad : ⊥ = cc in absurd bad
with_target-restored (String address n) from to e = let bad : ⊥ = cc in absurd bad
with_target-restored (Call xt) from to e = let bad : ⊥ = cc in absurd bad
with_target-restored (Store xt) from to e = let bad : ⊥ = cc in absurd bad
with_target-restored (Branch at) from to e = let same : at ≡ from = cc in ap Branch (sym same)
with_target-restored (BranchIfZero at) from to e = let same : at ≡ from = cc in ap BranchIfZero (sym same)
with_target-restored (Do at) from to e = let same : at ≡ from = cc in ap Do (sym same)
with_target-restored (QuestionDo at) from to e = let same : at ≡ from = cc in ap QuestionDo (sym same)
with_target-restored (Loop at) from to e = let same : at ≡ from = cc in ap Loop (sym same)
with_target-restored (PlusLoop at) from to e = let same : at ≡ from = cc in ap PlusLoop (sym same)
with_target-restored (Leave at) from to e = let same : at ≡ from = cc in ap Leave (sym same)
with_target-restored (Of at) from to e = let same : at ≡ from = cc in ap Of (sym same)
with_target-restored (EndOf at) from to e = let same : at ≡ from = cc in ap EndOf (sym same)
with_target-restored EndCase from to e = let bad : ⊥ = cc in absurd bad
with_target-restored Return from to e = let bad : ⊥ = cc in absurd bad

with_target-none : (item : Item) (to : Place) → target_of item ≡ None → with_target item to ≡ item
with_target-none (Operation xt) to e = refl
with_target-none (Literal x) to e = refl
with_target-none (String address n) to e = refl
with_target-none (Call xt) to e = refl
with_target-none (Store xt) to e = refl
with_target-none (Branch at) to e = let bad : ⊥ = cc in absurd bad
with_target-none (BranchIfZero at) to e = let bad : ⊥ = cc in absurd bad
with_target-none (Do at) to e = let bad : ⊥ = cc in absurd bad
with_target-none (QuestionDo at) to e = let bad : ⊥ = cc in absurd bad
with_target-none (Loop at) to e = let bad : ⊥ = cc in absurd bad
with_target-none (PlusLoop at) to e = let bad : ⊥ = cc in absurd bad
with_target-none (Leave at) to e = let bad : ⊥ = cc in absurd bad
with_target-none (Of at) to e = let bad : ⊥ = cc in absurd bad
with_target-none (EndOf at) to e = let bad : ⊥ = cc in absurd bad
with_target-none EndCase to e = refl
with_target-none Return to e = refl

with_target-twice : (item : Item) (first last : Place)
    → with_target (with_target item first) last ≡ with_target item last
with_target-twice (Operation xt) first last = refl
with_target-twice (Literal x) first last = refl
with_target-twice (String address n) first last = refl
with_target-twice (Call xt) first last = refl
with_target-twice (Store xt) first last = refl
with_target-twice (Branch at) first last = refl
with_target-twice (BranchIfZero at) first last = refl
with_target-twice (Do at) first last = refl
with_target-twice (QuestionDo at) first last = refl
with_target-twice (Loop at) first last = refl
with_target-twice (PlusLoop at) first last = refl
with_target-twice (Leave at) first last = refl
with_target-twice (Of at) first last = refl
with_target-twice (EndOf at) first last = refl
with_target-twice EndCase first last = refl
with_target-twice Return first last = refl

no_item : (item : Item) → None ≡ Some item → ⊥
no_item item e = cc

get_or-set_item : (xs : List (Option Item)) (i : ℕ) (item new : Item) → get_or xs i None ≡ Some item
    → get_or (set xs i (Some new)) i None ≡ Some new
get_or-set_item [] i item new e = absurd (no_item item e)
get_or-set_item (x ∷ xs) zero item new e = refl
get_or-set_item (x ∷ xs) (suc i) item new e = get_or-set_item xs i item new e

next_at-retargeted : (place : Place) (cell : Option Item) (to : Place)
    → next_at place (retargeted_item cell to) ≡ next_at place cell
next_at-retargeted place None to = refl
next_at-retargeted place (Some item) to = rw (cells_of-with_target item to) refl

next_at-set : (place : Place) (xs : List (Option Item)) (i j : ℕ) (to : Place)
    → next_at place (get_or (set xs i (retargeted_item (get_or xs i None) to)) j None)
    ≡ next_at place (get_or xs j None)
next_at-set place [] i j to = refl
next_at-set place (x ∷ xs) zero zero to = next_at-retargeted place x to
next_at-set place (x ∷ xs) zero (suc j) to = refl
next_at-set place (x ∷ xs) (suc i) zero to = refl
next_at-set place (x ∷ xs) (suc i) (suc j) to = next_at-set place xs i j to

pub item_in-retargeted : (c : Code) (at to : Place) (item : Item) → item_in c at ≡ Some item
    → item_in (retargeted c at to) at ≡ Some (with_target item to)
item_in-retargeted c at to item e = rw e (get_or-set_item c.cells at.cell item (with_target item to) e)

pub targets_change_alone : TargetsChangeAlone
targets_change_alone = record {
  changed = item_in-retargeted;
  set = target_of-with_target;
  restored = with_target-restored;
  twice = with_target-twice;
  without = with_target-none;
  others = λ c at to place ne. get_or-set_other c.cells at.cell place.cell (retargeted_item (item_in c at) to) None ne;
  places = λ c at to place. next_at-set place c.cells at.cell place.cell to;
  end = λ c at to. rw (length-set c.cells at.cell (retargeted_item (item_in c at) to)) refl;
  starts = λ c at to xt. refl;
}

start_in-finished : (c : Code) (xt : Cell) → start_in (finished c xt) xt ≡ Some c.opened
start_in-finished c xt = rw (eq-eqb xt.0 xt.0 refl) refl

start_in-finished_other : (c : Code) (xt other : Cell) → xt.0 ≢ other.0
    → start_in (finished c xt) other ≡ start_in c other
start_in-finished_other c xt other ne = rw (ne_eqb xt.0 other.0 ne) refl

opened-finished : (c : Code) (xt : Cell) → (finished c xt).opened ≡ end_of (finished c xt)
opened-finished c xt = rw (length-append c.cells (laid_out Return)) refl

abandoned-finished : (c : Code) (xt : Cell) → abandoned (finished c xt) ≡ finished c xt
abandoned-finished c xt = rw (take_all (length c.cells + 1) (c.cells ++ laid_out Return)
    (omega (arith, length-append c.cells (laid_out Return)))) refl

pub finished_words_are_bound : FinishedWordsAreBound
finished_words_are_bound = record {
  ended = λ c xt. item_in-appended c Return;
  items = λ c xt place l. item_in-appended_below c Return place l;
  bound = start_in-finished;
  others = start_in-finished_other;
  opened = opened-finished;
  kept = abandoned-finished;
}

get_or_past : (xs : List (Option Item)) (i : ℕ) → length xs ≤ i → get_or xs i None ≡ None
get_or_past [] i h = refl
get_or_past (x ∷ xs) zero h = absurd (omega (arith, h))
get_or_past (x ∷ xs) (suc i) h = get_or_past xs i (omega (arith, h))

item_in-abandoned : (c : Code) (place : Place) → c.opened.cell ≤ place.cell → item_in (abandoned c) place ≡ None
item_in-abandoned c place h = get_or_past (take c.opened.cell c.cells) place.cell
    (omega (arith, length-take c.opened.cell c.cells))

pub abandoned_items_are_forgotten : AbandonedItemsAreForgotten
abandoned_items_are_forgotten = record {
  gone = item_in-abandoned;
  finished_items = λ c place l. get_or-take c.opened.cell c.cells place.cell None l;
  end = λ c h. rw (length-take-le c.opened.cell c.cells h) refl;
  appended_items = λ c item h. rw (take-append-le c.opened.cell c.cells (laid_out item) h) refl;
  starts = λ c xt. refl;
}
