-- What `see` prints of the cells of a body is what is printed of the body's items by their numbers.
use Rattle.std.proofs.Common.{◌≡◌, ℕ, zero, suc, ◌+◌, ◌-◌, ◌<◌, Bool, true, false, not, cond, List, [], ◌∷◌, ◌++◌}
use Rattle.std.proofs.Common.{map, Option, Some, None, refl, ap, sym, ◌∙◌, arith, nat_eq, nat_lt, if◌then◌else◌}
use Rattle.std.proofs.Common.{append_assoc, ◌||◌, ⊎_elim}
use Rattle.std.specs.Prelude.{slice_index_or, replicate}
use Rattle.std.specs.List.{cons_option}
use Rattle.std.specs.Option.{option_map}
use Rattle.std.proofs.lemmas.List.{append-nil, map-append}
use Rattle.std.proofs.lemmas.List.Sums.{sum_by-cons}
use Rattle.std.proofs.lemmas.Bool.{cases_order, eq-eqb, le-ltb, lt-ltb, ne_eqb}
use Rattle.of_code.specs.declared.item.Place.{Place}
use Rattle.of_code.specs.declared.item.Item.{Item}
use Rattle.of_code.specs.declared.item.Item.TheVariants as I
use Rattle.of_code.specs.Items.{cells_of, laid_out}
use Rattle.of_control.specs.Element.{Back, Branch, Element as ElementOf, Mark}
use Rattle.of_control.specs.Items.{DropSelector, EndArm, EnterLoop, ExitLoop, Item as BodyItem, JumpTo, Perform}
use Rattle.of_control.specs.Items.{RepeatLoop, TestArm, one_if}
use Rattle.of_compile.specs.declared.element.Element.{Element}
use Rattle.of_compile.specs.declared.element.Element.TheVariants as E
use Rattle.of_compile.specs.declared.element.PlainItem.{PlainItem}
use Rattle.of_compile.specs.declared.element.PlainItem.TheVariants as P
use Rattle.of_compile.specs.Elements.{branch_item, do_item, element_of, loop_item, plain_item}
use Rattle.of_compile.specs.Layout.{code_item, item_cells, laid_items}
use Rattle.of_see.specs.SeeItems.{Open, begins, begins_case, branch_element, branch_of, branches_to, case_if}
use Rattle.of_see.specs.SeeItems.{cell_elements, element_at, elements_from, ending, endings, ends_after, has, is_new}
use Rattle.of_see.specs.SeeItems.{is_to, lasting, opened, past_case, with_branch, with_end}
use Rattle.of_see_laws.proofs.Kept as numbers
use Rattle.of_see_laws.proofs.Kept.{goes}
use Rattle.of_see_laws.proofs.Seen as seen
use Rattle.of_see_laws.proofs.Seen.{printed}

-- ---- the cells of one item

-- 1 where a test passes
abbrev unit_if : Bool → ℕ
unit_if b = cond b 1 0

begins_cons :
    (p : ℕ) (cell : Option Item) (cells : List (Option Item)) →
    begins p (cell ∷ cells) ≡ unit_if (branches_to p cell) + begins p cells
begins_cons p cell cells = sum_by-cons (λ c. cond (branches_to p c) 1 0) cell cells

one_on : (p : ℕ) → p + 1 + 1 ≡ p + 2
one_on p = omega arith

two_on : (p : ℕ) → p + 1 + 1 + 1 ≡ p + 3
two_on p = omega arith

-- what is printed of an item and what follows
abbrev Split : ℕ → List (Option Item) → ℕ → Item → List (Option Item) → Open → Type 0
Split first all p item cells o =
    elements_from first all p (laid_out item ++ cells) o
    ≡ cell_elements first all p (Some item) (begins p (laid_out item ++ cells)) o
    ++ elements_from first all (p + cells_of item) cells (opened p item o)

two_cells :
    (first : ℕ) (all : List (Option Item)) (p : ℕ) (item : Item) (cells : List (Option Item)) (o : Open) →
    elements_from first all p (Some item ∷ None ∷ cells) o
    ≡ cell_elements first all p (Some item) (begins p (Some item ∷ None ∷ cells)) o
    ++ elements_from first all (p + 2) cells (opened p item o)
two_cells first all p item cells o =
    ap (λ q. cell_elements first all p (Some item) (begins p (Some item ∷ None ∷ cells)) o
    ++ elements_from first all q cells (opened p item o)) (one_on p)

split : (first : ℕ) (all : List (Option Item)) (p : ℕ) (item : Item) (cells : List (Option Item)) (o : Open)
    → Split first all p item cells o
split first all p (I.Operation xt) cells o = refl
split first all p (I.Call xt) cells o = refl
split first all p I.EndCase cells o = refl
split first all p I.Return cells o = refl
split first all p (I.Literal x) cells o = two_cells first all p (I.Literal x) cells o
split first all p (I.Store xt) cells o = two_cells first all p (I.Store xt) cells o
split first all p (I.Branch to) cells o = two_cells first all p (I.Branch to) cells o
split first all p (I.BranchIfZero to) cells o = two_cells first all p (I.BranchIfZero to) cells o
split first all p (I.Do to) cells o = two_cells first all p (I.Do to) cells o
split first all p (I.QuestionDo to) cells o = two_cells first all p (I.QuestionDo to) cells o
split first all p (I.Loop to) cells o = two_cells first all p (I.Loop to) cells o
split first all p (I.PlusLoop to) cells o = two_cells first all p (I.PlusLoop to) cells o
split first all p (I.Leave to) cells o = two_cells first all p (I.Leave to) cells o
split first all p (I.Of to) cells o = two_cells first all p (I.Of to) cells o
split first all p (I.EndOf to) cells o = two_cells first all p (I.EndOf to) cells o
split first all p (I.String address n) cells o =
    let item = I.String address n in
    ap (λ q. cell_elements first all p (Some item) (begins p (Some item ∷ None ∷ None ∷ cells)) o
    ++ elements_from first all q cells (opened p item o)) (two_on p)

-- how many items go back, that of these cells counted
gap : (p : ℕ) (cells : List (Option Item)) → begins p (None ∷ cells) ≡ begins p cells
gap p cells = let h = begins_cons p None cells in omega (arith, h)

one_begun : (p : ℕ) (item : Item) (cells : List (Option Item))
    → begins p (laid_out item ++ cells) ≡ unit_if (branches_to p (Some item)) + begins p cells
one_begun p (I.Operation xt) cells = begins_cons p (Some (I.Operation xt)) cells
one_begun p (I.Call xt) cells = begins_cons p (Some (I.Call xt)) cells
one_begun p I.EndCase cells = begins_cons p (Some I.EndCase) cells
one_begun p I.Return cells = begins_cons p (Some I.Return) cells
one_begun p (I.Literal x) cells =
    begins_cons p (Some (I.Literal x)) (None ∷ cells)
    ∙ ap (λ n. unit_if (branches_to p (Some (I.Literal x))) + n) (gap p cells)
one_begun p (I.Store xt) cells =
    begins_cons p (Some (I.Store xt)) (None ∷ cells)
    ∙ ap (λ n. unit_if (branches_to p (Some (I.Store xt))) + n) (gap p cells)
one_begun p (I.Branch to) cells =
    begins_cons p (Some (I.Branch to)) (None ∷ cells)
    ∙ ap (λ n. unit_if (branches_to p (Some (I.Branch to))) + n) (gap p cells)
one_begun p (I.BranchIfZero to) cells =
    begins_cons p (Some (I.BranchIfZero to)) (None ∷ cells)
    ∙ ap (λ n. unit_if (branches_to p (Some (I.BranchIfZero to))) + n) (gap p cells)
one_begun p (I.Do to) cells =
    begins_cons p (Some (I.Do to)) (None ∷ cells)
    ∙ ap (λ n. unit_if (branches_to p (Some (I.Do to))) + n) (gap p cells)
one_begun p (I.QuestionDo to) cells =
    begins_cons p (Some (I.QuestionDo to)) (None ∷ cells)
    ∙ ap (λ n. unit_if (branches_to p (Some (I.QuestionDo to))) + n) (gap p cells)
one_begun p (I.Loop to) cells =
    begins_cons p (Some (I.Loop to)) (None ∷ cells)
    ∙ ap (λ n. unit_if (branches_to p (Some (I.Loop to))) + n) (gap p cells)
one_begun p (I.PlusLoop to) cells =
    begins_cons p (Some (I.PlusLoop to)) (None ∷ cells)
    ∙ ap (λ n. unit_if (branches_to p (Some (I.PlusLoop to))) + n) (gap p cells)
one_begun p (I.Leave to) cells =
    begins_cons p (Some (I.Leave to)) (None ∷ cells)
    ∙ ap (λ n. unit_if (branches_to p (Some (I.Leave to))) + n) (gap p cells)
one_begun p (I.Of to) cells =
    begins_cons p (Some (I.Of to)) (None ∷ cells)
    ∙ ap (λ n. unit_if (branches_to p (Some (I.Of to))) + n) (gap p cells)
one_begun p (I.EndOf to) cells =
    begins_cons p (Some (I.EndOf to)) (None ∷ cells)
    ∙ ap (λ n. unit_if (branches_to p (Some (I.EndOf to))) + n) (gap p cells)
one_begun p (I.String address n) cells =
    begins_cons p (Some (I.String address n)) (None ∷ None ∷ cells)
    ∙ ap (λ m. unit_if (branches_to p (Some (I.String address n))) + m) (gap p (None ∷ cells) ∙ gap p cells)

-- ---- numbers of items and of cells

-- a later item begins at a later cell
abbrev pub Rises : (ℕ → ℕ) → Type 0
Rises c = (a b : ℕ) → a < b → c a < c b

same_eq : (c : ℕ → ℕ) → Rises c → (a b : ℕ) → nat_eq (c a) (c b) ≡ nat_eq a b
same_eq c rises a b =
    ⊎_elim (λ e. eq-eqb (c a) (c b) (ap c e) ∙ sym (eq-eqb a b e))
    (λ o. ⊎_elim
    (λ lt. let more = rises a b lt in ne_eqb (c a) (c b) (λ e. omega (arith, e, more))
    ∙ sym (ne_eqb a b (λ e. omega (arith, e, lt))))
    (λ lt. let more = rises b a lt in ne_eqb (c a) (c b) (λ e. omega (arith, e, more))
    ∙ sym (ne_eqb a b (λ e. omega (arith, e, lt)))) o)
    (cases_order a b)

same_lt : (c : ℕ → ℕ) → Rises c → (a b : ℕ) → nat_lt (c a) (c b) ≡ nat_lt a b
same_lt c rises a b =
    ⊎_elim
    (λ e. ap (λ n. nat_lt (c n) (c b)) e ∙ le-ltb (c b) (c b) (omega arith) ∙ sym (le-ltb a b (omega (arith, e))))
    (λ o. ⊎_elim
    (λ lt. lt-ltb (c a) (c b) (rises a b lt) ∙ sym (lt-ltb a b lt))
    (λ lt.
    let more = rises b a lt in le-ltb (c a) (c b) (omega (arith, more)) ∙ sym (le-ltb a b (omega (arith, lt)))) o)
    (cases_order a b)

has_same : (c : ℕ → ℕ) → Rises c → (cs : List ℕ) (n : ℕ) → has (map c cs) (c n) ≡ has cs n
has_same c rises [] n = refl
has_same c rises (m ∷ cs) n =
    ap (λ b. b || has (map c cs) (c n)) (same_eq c rises m n) ∙ ap (λ b. nat_eq m n || b) (has_same c rises cs n)

lasting_same : (c : ℕ → ℕ) → Rises c → (p : ℕ) (ts : List ℕ) → lasting (c p) (map c ts) ≡ map c (lasting p ts)
lasting_same c rises p [] = refl
lasting_same c rises p (t ∷ ts) =
    ap (λ b. if not b then c t ∷ lasting (c p) (map c ts) else lasting (c p) (map c ts)) (same_eq c rises t p)
    ∙ by_test (nat_eq t p) (lasting_same c rises p ts)
  where
    by_test : (b : Bool) → lasting (c p) (map c ts) ≡ map c (lasting p ts)
        → (if not b then c t ∷ lasting (c p) (map c ts) else lasting (c p) (map c ts))
        ≡ map c (if not b then t ∷ lasting p ts else lasting p ts)
    by_test true e = e
    by_test false e = ap (λ l. c t ∷ l) e

with_end_same :
    (c : ℕ → ℕ) → Rises c → (e : ℕ) (cs : List ℕ) → with_end (c e) (map c cs) ≡ map c (with_end e cs)
with_end_same c rises e cs =
    ap (λ b. if b then map c cs else c e ∷ map c cs) (has_same c rises cs e) ∙ by_test (has cs e)
  where
    by_test : (b : Bool) → (if b then map c cs else c e ∷ map c cs) ≡ map c (if b then cs else e ∷ cs)
    by_test true = refl
    by_test false = refl

is_new_same :
    (c : ℕ → ℕ) → Rises c → (cs : List ℕ) (o : Option ℕ) → is_new (map c cs) (option_map c o) ≡ is_new cs o
is_new_same c rises cs None = refl
is_new_same c rises cs (Some e) = ap not (has_same c rises cs e)

-- ---- what stands before an item

abbrev elements : List Element → List (ElementOf PlainItem)
elements es = map element_of es

endings_same :
    (c : ℕ → ℕ) → Rises c → (p later : ℕ) (ts : List ℕ) (es : List (ElementOf PlainItem)) →
    elements (endings (c p) later (map c ts)) ++ es ≡ seen.endings p later ts es
endings_same c rises p later [] es = refl
endings_same c rises p later (t ∷ ts) es =
    let us = map c ts in
    ap (λ b. elements (if b then ending later ++ endings (c p) later us else endings (c p) (suc later) us)
    ++ es) (same_eq c rises t p)
    ∙ by_test (nat_eq t p) (endings_same c rises p later ts es) (endings_same c rises p (suc later) ts es)
  where
    ended : (n : ℕ) (xs : List Element) → elements (ending n ++ xs) ++ es ≡ seen.ending n (elements xs ++ es)
    ended zero xs = refl
    ended (suc n) xs = refl

    by_test : (b : Bool) → elements (endings (c p) later (map c ts)) ++ es ≡ seen.endings p later ts es
        → elements (endings (c p) (suc later) (map c ts)) ++ es ≡ seen.endings p (suc later) ts es
        → elements (if b then ending later ++ endings (c p) later (map c ts) else endings (c p) (suc later) (map c ts))
        ++ es
        ≡ (if b then seen.ending later (seen.endings p later ts es) else seen.endings p (suc later) ts es)
    by_test true h k = ended later (endings (c p) later (map c ts)) ∙ ap (seen.ending later) h
    by_test false h k = k

marks_same : (n : ℕ) (es : List (ElementOf PlainItem)) → elements (replicate n (E.Mark None)) ++ es ≡ seen.marks n es
marks_same zero es = refl
marks_same (suc n) es = ap (λ l. Mark None ∷ l) (marks_same n es)

case_same : (b : Bool) (es : List (ElementOf PlainItem)) → elements (case_if b) ++ es ≡ seen.case_if b es
case_same true es = refl
case_same false es = refl

-- ---- one item

-- the targets of an item are those of its code
abbrev pub Placed : (ℕ → Place) → (ℕ → ℕ) → BodyItem PlainItem → Type 0
Placed place c (JumpTo z t) = (place t).cell ≡ c t
Placed place c (TestArm t) = (place t).cell ≡ c t
Placed place c (EndArm t) = (place t).cell ≡ c t
Placed place c (Perform k) = Unit {0}
Placed place c (EnterLoop q t) = Unit {0}
Placed place c (RepeatLoop l t) = Unit {0}
Placed place c (ExitLoop t) = Unit {0}
Placed place c DropSelector = Unit {0}

-- and where the `endof` before the target of an `of` goes
abbrev pub Found : ℕ → List (Option Item) → (ℕ → Place) → (ℕ → ℕ) → (ℕ → Option ℕ) → BodyItem PlainItem → Type 0
Found first all place c past (TestArm t) =
    past_case (slice_index_or all ((place t).cell - first - 2) None) ≡ option_map c (past t)
Found first all place c past (JumpTo z t) = Unit {0}
Found first all place c past (EndArm t) = Unit {0}
Found first all place c past (Perform k) = Unit {0}
Found first all place c past (EnterLoop q t) = Unit {0}
Found first all place c past (RepeatLoop l t) = Unit {0}
Found first all place c past (ExitLoop t) = Unit {0}
Found first all place c past DropSelector = Unit {0}

-- a branch, by whether it takes a cell first
abbrev branch_to : Bool → ℕ → Option (Bool × ℕ)
branch_to z t = Some (z, t)

branch_is : (z : Bool) (to : Place) → branch_of (branch_item z to) ≡ Some (z, to.cell)
branch_is true to = refl
branch_is false to = refl

plain_branch : (k : PlainItem) → branch_of (plain_item k) ≡ None
plain_branch (P.Operation xt) = refl
plain_branch (P.Literal x) = refl
plain_branch (P.String address n) = refl
plain_branch (P.Call xt) = refl
plain_branch (P.Store xt) = refl

do_branch : (q : Bool) (to : Place) → branch_of (do_item q to) ≡ None
do_branch true to = refl
do_branch false to = refl

loop_branch : (l : Bool) (to : Place) → branch_of (loop_item l to) ≡ None
loop_branch true to = refl
loop_branch false to = refl

-- where the code of an item branches
abbrev jump_of : (ℕ → ℕ) → BodyItem PlainItem → Option (Bool × ℕ)
jump_of c (JumpTo z t) = Some (z, c t)
jump_of c (Perform k) = None
jump_of c (EnterLoop q t) = None
jump_of c (RepeatLoop l t) = None
jump_of c (ExitLoop t) = None
jump_of c (TestArm t) = None
jump_of c (EndArm t) = None
jump_of c DropSelector = None

branch_same :
    (place : ℕ → Place) (c : ℕ → ℕ) (i : BodyItem PlainItem) → Placed place c i →
    branch_of (code_item place i) ≡ jump_of c i
branch_same place c (JumpTo z t) h = branch_is z (place t) ∙ ap (λ n. Some (z, n)) h
branch_same place c (Perform k) h = plain_branch k
branch_same place c (EnterLoop q t) h = do_branch q (place t)
branch_same place c (RepeatLoop l t) h = loop_branch l (place t)
branch_same place c (ExitLoop t) h = refl
branch_same place c (TestArm t) h = refl
branch_same place c (EndArm t) h = refl
branch_same place c DropSelector h = refl

unit_one : (b : Bool) → unit_if b ≡ one_if b
unit_one true = refl
unit_one false = refl

jump_goes :
    (c : ℕ → ℕ) → Rises c → (p : ℕ) (i : BodyItem PlainItem) → unit_if (is_to (c p) (jump_of c i)) ≡ goes p i
jump_goes c rises p (JumpTo z t) = ap unit_if (same_eq c rises t p) ∙ unit_one (nat_eq t p)
jump_goes c rises p (Perform k) = refl
jump_goes c rises p (EnterLoop q t) = refl
jump_goes c rises p (RepeatLoop l t) = refl
jump_goes c rises p (ExitLoop t) = refl
jump_goes c rises p (TestArm t) = refl
jump_goes c rises p (EndArm t) = refl
jump_goes c rises p DropSelector = refl

jump_element :
    (c : ℕ → ℕ) → Rises c → (p t : ℕ) (z : Bool) (n : ℕ) → n ≡ c t →
    element_of (branch_element (c p) z n) ≡ (if nat_lt p t then Branch z None else Back z None)
jump_element c rises p t z n e =
    ap (λ m. element_of (if nat_lt (c p) m then E.Branch z None else E.Back z None)) e
    ∙ ap (λ b. element_of (if b then E.Branch z None else E.Back z None)) (same_lt c rises p t)
    ∙ by_test (nat_lt p t)
  where
    by_test : (b : Bool) → element_of (if b then E.Branch z None else E.Back z None)
        ≡ (if b then Branch z None else Back z None)
    by_test true = refl
    by_test false = refl

abbrev item_shown : ℕ → Item → List (ElementOf PlainItem)
item_shown p item = elements (cons_option (element_at p item) [])

element_same :
    (place : ℕ → Place) (c : ℕ → ℕ) → Rises c → (p : ℕ) (i : BodyItem PlainItem) → Placed place c i →
    item_shown (c p) (code_item place i) ≡ seen.element p i ∷ []
element_same place c rises p (JumpTo true t) h =
    ap (λ e. e ∷ []) (jump_element c rises p t true (place t).cell h)
element_same place c rises p (JumpTo false t) h =
    ap (λ e. e ∷ []) (jump_element c rises p t false (place t).cell h)
element_same place c rises p (Perform (P.Operation xt)) h = refl
element_same place c rises p (Perform (P.Literal x)) h = refl
element_same place c rises p (Perform (P.String address n)) h = refl
element_same place c rises p (Perform (P.Call xt)) h = refl
element_same place c rises p (Perform (P.Store xt)) h = refl
element_same place c rises p (EnterLoop true t) h = refl
element_same place c rises p (EnterLoop false t) h = refl
element_same place c rises p (RepeatLoop true t) h = refl
element_same place c rises p (RepeatLoop false t) h = refl
element_same place c rises p (ExitLoop t) h = refl
element_same place c rises p (TestArm t) h = refl
element_same place c rises p (EndArm t) h = refl
element_same place c rises p DropSelector h = refl

jumps_same :
    (c : ℕ → ℕ) → Rises c → (p : ℕ) (i : BodyItem PlainItem) (us : List ℕ) →
    with_branch (c p) (jump_of c i) (map c us) ≡ map c (seen.with_branch p i us)
jumps_same c rises p (JumpTo z t) us =
    ap (λ b. if b then c t ∷ map c us else map c us) (same_lt c rises p t) ∙ by_test (nat_lt p t)
  where
    by_test : (b : Bool) → (if b then c t ∷ map c us else map c us) ≡ map c (if b then t ∷ us else us)
    by_test true = refl
    by_test false = refl
jumps_same c rises p (Perform k) us = refl
jumps_same c rises p (EnterLoop q t) us = refl
jumps_same c rises p (RepeatLoop l t) us = refl
jumps_same c rises p (ExitLoop t) us = refl
jumps_same c rises p (TestArm t) us = refl
jumps_same c rises p (EndArm t) us = refl
jumps_same c rises p DropSelector us = refl

branches_same :
    (place : ℕ → Place) (c : ℕ → ℕ) → Rises c → (p : ℕ) (i : BodyItem PlainItem) (ts : List ℕ) → Placed place c i →
    with_branch (c p) (branch_of (code_item place i)) (lasting (c p) (map c ts))
    ≡ map c (seen.with_branch p i (lasting p ts))
branches_same place c rises p i ts h =
    ap (λ o. with_branch (c p) o (lasting (c p) (map c ts))) (branch_same place c i h)
    ∙ ap (with_branch (c p) (jump_of c i)) (lasting_same c rises p ts)
    ∙ jumps_same c rises p i (lasting p ts)

ends_same :
    (place : ℕ → Place) (c : ℕ → ℕ) → Rises c → (p : ℕ) (i : BodyItem PlainItem) (cs : List ℕ) → Placed place c i →
    c (suc p) ≡ c p + item_cells i →
    ends_after (c p) (code_item place i) (map c cs) ≡ map c (seen.ends_after p i cs)
ends_same place c rises p (JumpTo true t) cs h e = refl
ends_same place c rises p (JumpTo false t) cs h e = refl
ends_same place c rises p (Perform (P.Operation xt)) cs h e = refl
ends_same place c rises p (Perform (P.Literal x)) cs h e = refl
ends_same place c rises p (Perform (P.String address n)) cs h e = refl
ends_same place c rises p (Perform (P.Call xt)) cs h e = refl
ends_same place c rises p (Perform (P.Store xt)) cs h e = refl
ends_same place c rises p (EnterLoop true t) cs h e = refl
ends_same place c rises p (EnterLoop false t) cs h e = refl
ends_same place c rises p (RepeatLoop true t) cs h e = refl
ends_same place c rises p (RepeatLoop false t) cs h e = refl
ends_same place c rises p (ExitLoop t) cs h e = refl
ends_same place c rises p (TestArm t) cs h e = refl
ends_same place c rises p (EndArm t) cs h e = ap (λ n. with_end n (map c cs)) h ∙ with_end_same c rises t cs
ends_same place c rises p DropSelector cs h e =
    ap (λ n. lasting n (map c cs)) (sym e) ∙ lasting_same c rises (suc p) cs

case_begun_same :
    (first : ℕ) (all : List (Option Item)) (place : ℕ → Place) (c : ℕ → ℕ) (past : ℕ → Option ℕ) → Rises c → (p : ℕ)
    (i : BodyItem PlainItem) (cs : List ℕ) → Found first all place c past i → c (suc p) ≡ c p + item_cells i →
    begins_case first all (c p) (code_item place i) (map c cs) ≡ seen.begins_case past p i cs
case_begun_same first all place c past rises p (JumpTo true t) cs f e = refl
case_begun_same first all place c past rises p (JumpTo false t) cs f e = refl
case_begun_same first all place c past rises p (Perform (P.Operation xt)) cs f e = refl
case_begun_same first all place c past rises p (Perform (P.Literal x)) cs f e = refl
case_begun_same first all place c past rises p (Perform (P.String address n)) cs f e = refl
case_begun_same first all place c past rises p (Perform (P.Call xt)) cs f e = refl
case_begun_same first all place c past rises p (Perform (P.Store xt)) cs f e = refl
case_begun_same first all place c past rises p (EnterLoop true t) cs f e = refl
case_begun_same first all place c past rises p (EnterLoop false t) cs f e = refl
case_begun_same first all place c past rises p (RepeatLoop true t) cs f e = refl
case_begun_same first all place c past rises p (RepeatLoop false t) cs f e = refl
case_begun_same first all place c past rises p (ExitLoop t) cs f e = refl
case_begun_same first all place c past rises p (TestArm t) cs f e =
    ap (is_new (map c cs)) f ∙ is_new_same c rises cs (past t)
case_begun_same first all place c past rises p (EndArm t) cs f e = refl
case_begun_same first all place c past rises p DropSelector cs f e =
    ap (λ n. not (has (map c cs) n)) (sym e) ∙ ap not (has_same c rises cs (suc p))

cells_same : (place : ℕ → Place) (i : BodyItem PlainItem) → cells_of (code_item place i) ≡ item_cells i
cells_same place (JumpTo true t) = refl
cells_same place (JumpTo false t) = refl
cells_same place (Perform (P.Operation xt)) = refl
cells_same place (Perform (P.Literal x)) = refl
cells_same place (Perform (P.String address n)) = refl
cells_same place (Perform (P.Call xt)) = refl
cells_same place (Perform (P.Store xt)) = refl
cells_same place (EnterLoop true t) = refl
cells_same place (EnterLoop false t) = refl
cells_same place (RepeatLoop true t) = refl
cells_same place (RepeatLoop false t) = refl
cells_same place (ExitLoop t) = refl
cells_same place (TestArm t) = refl
cells_same place (EndArm t) = refl
cells_same place DropSelector = refl

-- ---- all items

-- where items from number p on have their code
abbrev pub Fits :
    ℕ → List (Option Item) → (ℕ → Place) → (ℕ → ℕ) → (ℕ → Option ℕ) → ℕ → List (BodyItem PlainItem) → Type 0
Fits first all place c past p [] = Unit {0}
Fits first all place c past p (i ∷ I) =
    (c (suc p) ≡ c p + item_cells i) × Placed place c i × Found first all place c past i
    × Fits first all place c past (suc p) I

abbrev pub code_of : (ℕ → Place) → List (BodyItem PlainItem) → List (Option Item)
code_of place I = laid_items (map (code_item place) I)

begins_same :
    (first : ℕ) (all : List (Option Item)) (place : ℕ → Place) (c : ℕ → ℕ) (past : ℕ → Option ℕ) → Rises c → (p n : ℕ)
    (I : List (BodyItem PlainItem)) → Fits first all place c past n I →
    begins (c p) (code_of place I) ≡ numbers.begins p I
begins_same first all place c past rises p n [] f = refl
begins_same first all place c past rises p n (i ∷ I) f =
    one_begun (c p) (code_item place i) (code_of place I)
    ∙ ap (λ o. unit_if (is_to (c p) o) + begins (c p) (code_of place I)) (branch_same place c i f.1)
    ∙ ap (λ m. m + begins (c p) (code_of place I)) (jump_goes c rises p i)
    ∙ ap (λ m. goes p i + m) (begins_same first all place c past rises p (suc n) I f.3)

regroup :
    (a b d e r : List Element) →
    elements (((a ++ b) ++ (d ++ e)) ++ r)
    ≡ elements a ++ (elements b ++ (elements d ++ (elements e ++ elements r)))
regroup a b d e r = simp (map-append, append_assoc)

abbrev pub open_at : (ℕ → ℕ) → List ℕ → List ℕ → Open
open_at c ts cs = record { branches = map c ts; cases = map c cs }

pub same_printed :
    (first : ℕ) (all : List (Option Item)) (place : ℕ → Place) (c : ℕ → ℕ) (past : ℕ → Option ℕ) → Rises c → (p : ℕ)
    (I : List (BodyItem PlainItem)) (ts cs : List ℕ) → Fits first all place c past p I →
    elements (elements_from first all (c p) (code_of place I) (open_at c ts cs)) ≡ printed past p I ts cs
same_printed first all place c past rises p [] ts cs f =
    sym (append-nil (elements (endings (c p) 0 (map c ts)))) ∙ endings_same c rises p 0 ts []
same_printed first all place c past rises p (i ∷ I) ts cs f =
    let item = code_item place i in
    let rest = code_of place I in
    let o = open_at c ts cs in
    let a = endings (c p) 0 (map c ts) in
    let n = begins (c p) (laid_out item ++ rest) in
    let x = begins_case first all (c p) item (map c cs) in
    let e = cons_option (element_at (c p) item) [] in
    let ts2 = seen.with_branch p i (lasting p ts) in
    let cs2 = seen.ends_after p i cs in
    let next = printed past (suc p) I ts2 cs2 in
    let after : c p + cells_of item ≡ c (suc p) = ap (λ m. c p + m) (cells_same place i) ∙ sym f.0 in
    let tail : elements (elements_from first all (c p + cells_of item) rest (opened (c p) item o)) ≡ next =
    ap (λ q. elements (elements_from first all q rest (opened (c p) item o))) after
    ∙ ap (λ bs. elements (elements_from first all (c (suc p)) rest
    (record { branches = bs; cases = ends_after (c p) item (map c cs) })))
    (branches_same place c rises p i ts f.1)
    ∙ ap (λ es. elements (elements_from first all (c (suc p)) rest (record { branches = map c ts2; cases = es })))
    (ends_same place c rises p i cs f.1 f.0)
    ∙ same_printed first all place c past rises (suc p) I ts2 cs2 f.3 in
    let shown = seen.element p i ∷ next in
    let cased = seen.case_if (seen.begins_case past p i cs) shown in
    ap elements (split first all (c p) item rest o)
    ∙ regroup a (replicate n (E.Mark None)) (case_if x) e
    (elements_from first all (c p + cells_of item) rest (opened (c p) item o))
    ∙ ap (λ l. elements a ++ (elements (replicate n (E.Mark None)) ++ (elements (case_if x) ++ (elements e ++ l)))) tail
    ∙ ap (λ l. elements a ++ (elements (replicate n (E.Mark None)) ++ (elements (case_if x) ++ (l ++ next))))
    (element_same place c rises p i f.1)
    ∙ ap (λ b. elements a ++ (elements (replicate n (E.Mark None)) ++ (elements (case_if b) ++ shown)))
    (case_begun_same first all place c past rises p i cs f.2 f.0)
    ∙ ap (λ l. elements a ++ (elements (replicate n (E.Mark None)) ++ l))
    (case_same (seen.begins_case past p i cs) shown)
    ∙ ap (λ m. elements a ++ (elements (replicate m (E.Mark None)) ++ cased))
    (begins_same first all place c past rises p p (i ∷ I) f)
    ∙ ap (λ l. elements a ++ l) (marks_same (numbers.begins p (i ∷ I)) cased)
    ∙ endings_same c rises p 0 ts (seen.marks (numbers.begins p (i ∷ I)) cased)
