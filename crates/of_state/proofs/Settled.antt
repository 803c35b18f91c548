-- The end of a step, item by item.
use Rattle.std.proofs.Common.{◌≡◌, Bool, true, false, drop, List, [], ◌∷◌, Option, Some, None, refl, ap, sym, ◌∙◌}
use Rattle.std.proofs.lemmas.Option.{same_Some}
use Rattle.std.specs.Prelude.{is_some, ◌==◌, if◌then◌else◌}
use Rattle.of_cells.specs.declared.cells.Cell.{Cell}
use Rattle.of_stacks.specs.declared.throws.Throw.{Throw}
use Rattle.of_stacks.specs.declared.return_item.Due.{Due}
use Rattle.of_stacks.specs.declared.return_item.Due.TheVariants as due
use Rattle.of_stacks.specs.declared.return_item.ExceptionFrame.{ExceptionFrame}
use Rattle.of_stacks.specs.declared.return_item.ReturnItem.{ReturnItem}
use Rattle.of_stacks.specs.declared.return_item.ReturnItem.TheVariants.{Return, Loop, User, Handler, Source, Caller}
use Rattle.of_stacks.specs.Returns.{is_due, top_item}
use Rattle.of_stacks.specs.Throws.{stack_overflow}
use Rattle.of_state.specs.State.{Calls, State, given_up, open_xt, with_items}
use Rattle.of_state.specs.Settling.{caught, cut_one, due_left, given_up_since, is_full, is_same, load_left}
use Rattle.of_state.specs.Settling.{open_answered, settled, still_thrown, thrown_at, uncaught, worked_one}

-- what is given up, caught and worked off leaves the items as they are
chosen_items : {S : Type 0} (b : Bool) (x y s : State S) → x.flow.items ≡ s.flow.items → y.flow.items ≡ s.flow.items
    → (if b then x else y).flow.items ≡ s.flow.items
chosen_items true x y s ex ey = ex
chosen_items false x y s ex ey = ey

given_up_items : {S : Type 0} (c : Calls S) (s : State S) → (given_up c s).flow.items ≡ s.flow.items
given_up_items c s = chosen_items (is_some s.words.defining) _ _ s refl refl

since_items : {S : Type 0} (c : Calls S) (o : Option Cell) (s : State S)
    → (given_up_since c o s).flow.items ≡ s.flow.items
since_items c o s = chosen_items (is_same (open_xt s) o) _ _ s refl (given_up_items c s)

caught_items : {S : Type 0} (c : Calls S) (h : ExceptionFrame) (t : Throw) (s : State S)
    → (caught c h t s).flow.items ≡ s.flow.items
caught_items c h t s = since_items c h.opened _

load_items : {S : Type 0} (d : Due) (s : State S) → (load_left d s).flow.items ≡ s.flow.items
load_items (due.Load active me instance count) s = refl
load_items (due.Method me) s = refl
load_items (due.Open me instance) s = refl
load_items (due.Close me instance) s = refl

answered_items : {S : Type 0} (ih : Cell) (cells : List Cell) (s : State S)
    → (open_answered ih cells s).flow.items ≡ s.flow.items
answered_items ih [] s = refl
answered_items ih (x ∷ cells) s = chosen_items (x.0 == 0) _ _ s refl refl

due_items : {S : Type 0} (d : Due) (s : State S) → (due_left d s).flow.items ≡ s.flow.items
due_items (due.Load active me instance count) s = refl
due_items (due.Method me) s = refl
due_items (due.Open me instance) s = answered_items instance s.board.stack s
due_items (due.Close me instance) s = refl

cut_items : {S : Type 0} (c : Calls S) (item : ReturnItem) (t : Throw) (s : State S)
    → (cut_one c item t s).flow.items ≡ s.flow.items
cut_items c (Handler h) t s = caught_items c h t s
cut_items c (Source r) t s = refl
cut_items c (Return to) t s = refl
cut_items c (Loop l) t s = refl
cut_items c (User x) t s = refl
cut_items c (Caller d) t s = load_items d s

worked_items : {S : Type 0} (c : Calls S) (item : ReturnItem) (s : State S)
    → (worked_one c item s).flow.items ≡ s.flow.items
worked_items c (Handler h) s = chosen_items (is_full s) _ _ s (caught_items c h stack_overflow s) refl
worked_items c (Source r) s = refl
worked_items c (Return to) s = refl
worked_items c (Loop l) s = refl
worked_items c (User x) s = refl
worked_items c (Caller d) s = due_items d _

-- ---- one item

cuts : {S : Type 0} (c : Calls S) (items : List ReturnItem) (item : ReturnItem) (t : Throw) (s : State S)
    → Some item ≡ top_item items
    → settled c items (Some t) s
    ≡ settled c (drop 1 items) (still_thrown item t) (cut_one c item t (with_items (drop 1 items) s))
unfolding settled
cuts c [] item t s e = cc
cuts c (x ∷ r) item t s e = rw (same_Some _ _ e) refl

works : {S : Type 0} (c : Calls S) (items : List ReturnItem) (item : ReturnItem) (s : State S)
    → Some item ≡ top_item items → is_due item ≡ true
    → settled c items None s
    ≡ settled c (drop 1 items) (thrown_at item s) (worked_one c item (with_items (drop 1 items) s))
unfolding settled
works c [] item s e d = cc
works c (x ∷ r) item s e d = rw (← same_Some _ _ e, d) refl

pub stays :
    {S : Type 0} (c : Calls S) (items : List ReturnItem) (item : ReturnItem) (thrown : Option Throw) (s : State S)
    → Some item ≡ top_item items → is_due item ≡ false → thrown ≡ None → s ≡ settled c items thrown s
unfolding settled
stays c [] item thrown s e d n = cc
stays c (x ∷ r) item thrown s e d n = rw (n, ← same_Some _ _ e, d) refl

pub falls_on :
    {S : Type 0} (c : Calls S) (t : Throw) (thrown : Option Throw) (s m : State S)
    → s.flow.items ≡ [] → m ≡ uncaught c t s → thrown ≡ Some t → m ≡ settled c s.flow.items thrown s
unfolding settled
falls_on c t thrown s m empty em et = rw (empty, et) em

pub stops_on :
    {S : Type 0} (c : Calls S) (thrown : Option Throw) (s : State S)
    → s.flow.items ≡ [] → thrown ≡ None → s ≡ settled c s.flow.items thrown s
unfolding settled
stops_on c thrown s empty et = rw (empty, et) refl

pub cuts_on :
    {S : Type 0} (c : Calls S) (r : List ReturnItem) (item : ReturnItem) (t : Throw) (left thrown : Option Throw)
    (s n m : State S)
    → Some item ≡ top_item s.flow.items → r ≡ drop 1 s.flow.items → n ≡ cut_one c item t (with_items r s)
    → left ≡ still_thrown item t → m ≡ settled c n.flow.items left n → thrown ≡ Some t
    → m ≡ settled c s.flow.items thrown s
cuts_on c r item t left thrown s n m top er en el em et =
    let kept : n.flow.items ≡ r = ap (λ (x : State _). x.flow.items) en ∙ cut_items c item t (with_items r s) in
    let on : settled c n.flow.items left n ≡ settled c r (still_thrown item t) (cut_one c item t (with_items r s))
    = ap (λ x. settled c x left n) kept ∙ ap (λ x. settled c r x n) el
    ∙ ap (λ x. settled c r (still_thrown item t) x) en in
    em ∙ on ∙ rw (er, et) (sym (cuts c s.flow.items item t s top))

pub works_on :
    {S : Type 0} (c : Calls S) (r : List ReturnItem) (item : ReturnItem) (late thrown : Option Throw)
    (s n m : State S)
    → Some item ≡ top_item s.flow.items → is_due item ≡ true → r ≡ drop 1 s.flow.items
    → late ≡ thrown_at item s → n ≡ worked_one c item (with_items r s) → m ≡ settled c n.flow.items late n
    → thrown ≡ None → m ≡ settled c s.flow.items thrown s
works_on c r item late thrown s n m top due er el en em et =
    let kept : n.flow.items ≡ r = ap (λ (x : State _). x.flow.items) en ∙ worked_items c item (with_items r s) in
    let on : settled c n.flow.items late n ≡ settled c r (thrown_at item s) (worked_one c item (with_items r s))
    = ap (λ x. settled c x late n) kept ∙ ap (λ x. settled c r x n) el
    ∙ ap (λ x. settled c r (thrown_at item s) x) en in
    em ∙ on ∙ rw (er, et) (sym (works c s.flow.items item s top due))
