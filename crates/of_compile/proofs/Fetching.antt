-- What stands in the cells of finished definitions.
use Rattle.std.proofs.Common.{◌≡◌, ◌⊎◌, inl, inr, ⊎_elim, ℕ, ◌+◌, ◌-◌, ◌<◌, ◌≤◌, zero, suc, Bool, true, false, List, []}
use Rattle.std.proofs.Common.{◌∷◌, ◌++◌, length, take, get_or, Option, Some, None, refl, sym, ap, subst, ◌∙◌, arith}
use Rattle.std.specs.Prelude.{nat_lt, map, if◌then◌else◌, slice_get}
use Rattle.std.proofs.lemmas.Bool.{ltb-true, ltb-false}
use Rattle.std.proofs.lemmas.List.{get_or_append_left, length-map}
use Rattle.of_code.specs.declared.item.Place.{Place}
use Rattle.of_code.specs.declared.item.Item.{Item}
use Rattle.of_code.specs.declared.item.Item.TheVariants.{Return}
use Rattle.of_code.specs.Items.{cells_of, laid_out}
use Rattle.of_code.specs.Code.{place_after}
use Rattle.of_control.specs.Items.{Item as BodyItem, Perform, JumpTo, EnterLoop, RepeatLoop, ExitLoop, TestArm, EndArm}
use Rattle.of_control.specs.Items.{DropSelector}
use Rattle.of_control.specs.Body.{Body, items_of}
use Rattle.of_control.specs.Openers.{one_later}
use Rattle.of_compile.specs.declared.element.PlainItem.{PlainItem}
use Rattle.of_compile.specs.Coding.{past, place_of}
use Rattle.of_compile.specs.Layout.{code_item, item_cells, item_place, laid_items, total}
use Rattle.of_compile.proofs.Cells.{laid}
use Rattle.of_compile.proofs.LaidReading.{code_sizes}
use Rattle.of_control.specs.Running.{Point, Taken, Performs, Jumps, Enters, Repeats, Leaves, Tests, EndsArm}
use Rattle.of_control.specs.Running.{DropsSelector, Returns, number, numbered, step_at}
use Rattle.of_control.specs.RunningLaw.{RunsByPlaces}
use Rattle.of_compile.specs.Structured.{is_return, number_at, taken_item}

-- ---- the item that begins at a cell

abbrev pub at_number : List Item → Option ℕ → Option Item
at_number xs None = None
at_number xs (Some k) = slice_get xs k

abbrev nothing : List (Option Item)
nothing = None ∷ None ∷ []

no_item : (n c : ℕ) → get_or (take n nothing) c None ≡ None
no_item zero c = refl
no_item (suc zero) zero = refl
no_item (suc zero) (suc c) = refl
no_item (suc (suc zero)) zero = refl
no_item (suc (suc zero)) (suc zero) = refl
no_item (suc (suc zero)) (suc (suc c)) = refl
no_item (suc (suc (suc n))) zero = refl
no_item (suc (suc (suc n))) (suc zero) = refl
no_item (suc (suc (suc n))) (suc (suc c)) = refl

inside_item : (x : Item) (c : ℕ) → get_or (laid_out x) (suc c) None ≡ None
inside_item x c = ap (λ l. get_or l (suc c) None) (laid x).begins ∙ no_item (cells_of x - 1) c

pub get_past :
    (xs ys : List (Option Item)) (c : ℕ) → length xs ≤ c → get_or (xs ++ ys) c None ≡ get_or ys (c - length xs) None
get_past [] ys c l = ap (λ n. get_or ys n None) (omega arith)
get_past (x ∷ xs) ys zero l = absurd (omega (arith, l))
get_past (x ∷ xs) ys (suc c) l = get_past xs ys c (omega (arith, l)) ∙ ap (λ n. get_or ys n None) (omega arith)

later : (x : Item) (xs : List Item) (o : Option ℕ) → at_number (x ∷ xs) (one_later o) ≡ at_number xs o
later x xs None = refl
later x xs (Some k) = refl

pub split_lt :
    {X : Type 0} → (P : X → Type 0) (k n : ℕ) (s t : X) (b : Bool) → nat_lt k n ≡ b → (k < n → P s) → (n ≤ k → P t) →
    P (if b then s else t)
split_lt P k n s t true e f g = f (ltb-true k n e)
split_lt P k n s t false e f g = g (ltb-false k n e)

pub item_at_cell :
    (xs : List Item) (c : ℕ) → c < total (map cells_of xs) + 1 →
    get_or (laid_items (xs ++ Return ∷ [])) c None ≡ at_number (xs ++ Return ∷ []) (number_at (map cells_of xs) c)
item_at_cell [] zero l = refl
item_at_cell [] (suc c) l = absurd (omega (arith, l))
item_at_cell (x ∷ xs) zero l = ap (λ l. get_or (l ++ laid_items (xs ++ Return ∷ [])) 0 None) (laid x).begins
item_at_cell (x ∷ xs) (suc c) l =
    let rest = laid_items (xs ++ Return ∷ []) in
    split_lt (λ o. get_or (laid_out x ++ rest) (suc c) None ≡ at_number (x ∷ (xs ++ Return ∷ [])) o) (suc c)
    (cells_of x) None (one_later (number_at (map cells_of xs) (suc c - cells_of x))) (nat_lt (suc c) (cells_of x)) refl
    (λ m. get_or_append_left (laid_out x) rest None (suc c) (let s = (laid x).size in omega (arith, s, m))
    ∙ inside_item x c)
    (λ m.
    get_past (laid_out x) rest (suc c) (let s = (laid x).size in omega (arith, s, m))
    ∙ ap (λ n. get_or rest (suc c - n) None) (laid x).size
    ∙ item_at_cell xs (suc c - cells_of x) (omega (arith, l, m))
    ∙ sym (later x (xs ++ Return ∷ []) (number_at (map cells_of xs) (suc c - cells_of x))))

-- a number found: the cells before it, and it is one of the items or the return
pub record IsNumber (ns : List ℕ) (c k : ℕ) : Type 0 where
  pub before : c ≡ total (take k ns)
  pub within : k ≤ length ns

later_number :
    (n c m : ℕ) (ns : List ℕ) (o : Option ℕ) (k : ℕ) → m ≡ n + c → ((j : ℕ) → o ≡ Some j → IsNumber ns c j) →
    one_later o ≡ Some k → IsNumber (n ∷ ns) m k
later_number n c m ns None k e h f = let bad : ⊥ = cc in absurd bad
later_number n c m ns (Some j) k e h f =
    let w = h j refl in
    let b = w.before in
    let l = w.within in
    let same : suc j ≡ k = cc in
    subst (IsNumber (n ∷ ns) m) same (record { before = omega (arith, e, b); within = omega (arith, l) })

pub is_number : (ns : List ℕ) (c k : ℕ) → number_at ns c ≡ Some k → IsNumber ns c k
is_number [] zero k e =
    let same : 0 ≡ k = cc in subst (IsNumber [] 0) same (record { before = refl; within = omega arith })
is_number [] (suc c) k e = let bad : ⊥ = cc in absurd bad
is_number (n ∷ ns) zero k e =
    let same : 0 ≡ k = cc in subst (IsNumber (n ∷ ns) 0) same (record { before = refl; within = omega arith })
is_number (n ∷ ns) (suc c) k e =
    split_lt (λ o. o ≡ Some k → IsNumber (n ∷ ns) (suc c) k) (suc c) n None (one_later (number_at ns (suc c - n)))
    (nat_lt (suc c) n) refl
    (λ l f. let bad : ⊥ = cc in absurd bad)
    (λ l f. later_number n (suc c - n) (suc c) ns (number_at ns (suc c - n)) k (omega (arith, l))
    (λ j g. is_number ns (suc c - n) j g) f)
    e

-- ---- the items of a body, the return last

abbrev pub placed : ℕ → Body PlainItem → List Item
placed start b = map (code_item (item_place start (items_of b))) (items_of b)

get_map :
    {X Y : Type 0} → (f : X → Y) (xs : List X) (ys : List Y) (k : ℕ) (x : X) → slice_get xs k ≡ Some x →
    slice_get (map f xs ++ ys) k ≡ Some (f x)
get_map f [] ys k x e = let bad : ⊥ = cc in absurd bad
get_map f (z ∷ xs) ys zero x e = let same : z ≡ x = cc in ap (λ y. Some (f y)) same
get_map f (z ∷ xs) ys (suc k) x e = get_map f xs ys k x e

get_end :
    {X Y : Type 0} → (f : X → Y) (xs : List X) (y : Y) (k : ℕ) → slice_get xs k ≡ None → k ≤ length xs →
    slice_get (map f xs ++ y ∷ []) k ≡ Some y
get_end f [] y zero e l = refl
get_end f [] y (suc k) e l = absurd (omega (arith, l))
get_end f (z ∷ xs) y zero e l = let bad : ⊥ = cc in absurd bad
get_end f (z ∷ xs) y (suc k) e l = get_end f xs y k e (omega (arith, l))

-- what the structure has is what stands there
pub taken_is :
    (start : ℕ) (b : Body PlainItem) (k : ℕ) (t : Taken PlainItem) → slice_get (items_of b) k ≡ numbered b t →
    k ≤ length (items_of b) →
    slice_get (placed start b ++ Return ∷ []) k ≡ Some (taken_item (λ p. item_place start (items_of b) (number b p)) t)
taken_is start b k (Performs a) e l =
    get_map (code_item (item_place start (items_of b))) (items_of b) (Return ∷ []) k (Perform a) e
taken_is start b k (Jumps z p) e l =
    get_map (code_item (item_place start (items_of b))) (items_of b) (Return ∷ []) k (JumpTo z (number b p)) e
taken_is start b k (Enters q p) e l =
    get_map (code_item (item_place start (items_of b))) (items_of b) (Return ∷ []) k (EnterLoop q (number b p)) e
taken_is start b k (Repeats q p) e l =
    get_map (code_item (item_place start (items_of b))) (items_of b) (Return ∷ []) k (RepeatLoop q (number b p)) e
taken_is start b k (Leaves p) e l =
    get_map (code_item (item_place start (items_of b))) (items_of b) (Return ∷ []) k (ExitLoop (number b p)) e
taken_is start b k (Tests p) e l =
    get_map (code_item (item_place start (items_of b))) (items_of b) (Return ∷ []) k (TestArm (number b p)) e
taken_is start b k (EndsArm p) e l =
    get_map (code_item (item_place start (items_of b))) (items_of b) (Return ∷ []) k (EndArm (number b p)) e
taken_is start b k DropsSelector e l =
    get_map (code_item (item_place start (items_of b))) (items_of b) (Return ∷ []) k DropSelector e
taken_is start b k Returns e l = get_end (code_item (item_place start (items_of b))) (items_of b) Return k e l

-- ---- the place after it

total_next :
    (xs : List Item) (k : ℕ) (x : Item) → slice_get xs k ≡ Some x →
    total (take (suc k) (map cells_of xs)) ≡ total (take k (map cells_of xs)) + cells_of x
total_next [] k x e = let bad : ⊥ = cc in absurd bad
total_next (y ∷ xs) zero x e = let same : y ≡ x = cc in let size = ap cells_of same in omega (arith, size)
total_next (y ∷ xs) (suc k) x e = let rest = total_next xs k x e in omega (arith, rest)

get_some : {X : Type 0} → (xs ys : List X) (k : ℕ) → k < length xs → slice_get (xs ++ ys) k ≡ slice_get xs k
get_some [] ys k l = absurd (omega (arith, l))
get_some (x ∷ xs) ys zero l = refl
get_some (x ∷ xs) ys (suc k) l = get_some xs ys k (omega (arith, l))

below_end : {X : Type 0} → (xs : List X) (k : ℕ) (x : X) → slice_get xs k ≡ Some x → k < length xs
below_end [] k x e = let bad : ⊥ = cc in absurd bad
below_end (y ∷ xs) zero x e = omega arith
below_end (y ∷ xs) (suc k) x e = let l = below_end xs k x e in omega (arith, l)

-- an item other than the return
record IsTaken (b : Body PlainItem) (k : ℕ) (t : Taken PlainItem) : Type 0 where
  pub item : BodyItem PlainItem
  pub is : numbered b t ≡ Some item

taken_or_return :
    (b : Body PlainItem) (k : ℕ) (t : Taken PlainItem) →
    ((is_return t ≡ true) × (t ≡ Returns)) ⊎ ((is_return t ≡ false) × IsTaken b k t)
taken_or_return b k (Performs a) = inr (refl, record { item = Perform a; is = refl })
taken_or_return b k (Jumps z p) = inr (refl, record { item = JumpTo z (number b p); is = refl })
taken_or_return b k (Enters q p) = inr (refl, record { item = EnterLoop q (number b p); is = refl })
taken_or_return b k (Repeats l p) = inr (refl, record { item = RepeatLoop l (number b p); is = refl })
taken_or_return b k (Leaves p) = inr (refl, record { item = ExitLoop (number b p); is = refl })
taken_or_return b k (Tests p) = inr (refl, record { item = TestArm (number b p); is = refl })
taken_or_return b k (EndsArm p) = inr (refl, record { item = EndArm (number b p); is = refl })
taken_or_return b k DropsSelector = inr (refl, record { item = DropSelector; is = refl })
taken_or_return b k Returns = inl (refl, refl)

same_place : (m n : ℕ) → m ≡ n → place_of m ≡ place_of n
same_place m n e = ap place_of e

-- the place after item k of a body
pub next_is :
    RunsByPlaces PlainItem → (start : ℕ) (b : Body PlainItem) (k : ℕ) (p : Place) →
    p.cell ≡ start + total (take k (map item_cells (items_of b))) → k ≤ length (items_of b) →
    place_after p (taken_item (λ q. item_place start (items_of b) (number b q)) (step_at b k).taken)
    ≡ (if is_return (step_at b k).taken then past p 1 else item_place start (items_of b) (number b (step_at b k).next))
next_is law start b k p e l =
    let s = law.size b in
    let t = (step_at b k).taken in
    let place = λ (q : Point PlainItem). item_place start (items_of b) (number b q) in
    let here = law.item b k in
    let xs = placed start b in
    ⊎_elim
    (λ r.
    ap (λ u. place_after p (taken_item place u)) r.1
    ∙ ap (λ v. if v then past p 1 else item_place start (items_of b) (number b (step_at b k).next)) (sym r.0))
    (λ r.
    let w = r.1 in
    let got : slice_get (items_of b) k ≡ Some w.item = here ∙ w.is in
    let lt = below_end (items_of b) k w.item got in
    let n = law.next b k (omega (arith, lt, s)) in
    let item : slice_get xs k ≡ Some (taken_item place t) =
    sym (get_some xs (Return ∷ []) k
    (let m = length-map (items_of b) (code_item (item_place start (items_of b))) in omega (arith, lt, m)))
    ∙ taken_is start b k t here l in
    let sizes = code_sizes (item_place start (items_of b)) (items_of b) in
    let more : total (take (suc k) (map item_cells (items_of b)))
    ≡ total (take k (map item_cells (items_of b))) + cells_of (taken_item place t) =
    sym (ap (λ m. total (take (suc k) m)) sizes) ∙ total_next xs k (taken_item place t) item
    ∙ ap (λ m. total (take k m) + cells_of (taken_item place t)) sizes in
    same_place (p.cell + cells_of (taken_item place t)) (start + total (take (suc k) (map item_cells (items_of b))))
    (omega (arith, e, more))
    ∙ same_place (start + total (take (suc k) (map item_cells (items_of b))))
    (start + total (take (number b (step_at b k).next) (map item_cells (items_of b))))
    (ap (λ m. start + total (take m (map item_cells (items_of b)))) (sym n))
    ∙ ap (λ v. if v then past p 1 else item_place start (items_of b) (number b (step_at b k).next)) (sym r.0))
    (taken_or_return b k t)
