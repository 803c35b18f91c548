-- Where the items of a body have their cells.
use Rattle.std.proofs.Common.{◌≡◌, ℕ, zero, suc, ◌+◌, ◌-◌, ◌≤◌, ◌<◌, true, false, List, [], ◌∷◌, ◌++◌, length, map}
use Rattle.std.proofs.Common.{Some, None, refl, ap, sym, ◌∙◌, arith}
use Rattle.std.specs.Prelude.{take, slice_get, slice_index_or}
use Rattle.std.specs.Option.{option_map}
use Rattle.std.proofs.lemmas.List.{get_or-append-add}
use Rattle.of_code.specs.declared.item.Place.{Place}
use Rattle.of_code.specs.declared.item.Item.TheVariants as I
use Rattle.of_code.specs.Items.{laid_out}
use Rattle.of_control.specs.Items.{DropSelector, EndArm, EnterLoop, ExitLoop, Item as BodyItem, JumpTo, Perform}
use Rattle.of_control.specs.Items.{RepeatLoop, TestArm}
use Rattle.of_compile.specs.declared.element.PlainItem.{PlainItem}
use Rattle.of_compile.specs.declared.element.PlainItem.TheVariants as P
use Rattle.of_compile.specs.Layout.{code_item, item_cells, item_place, total}
use Rattle.of_see.specs.SeeItems.{past_case}
use Rattle.of_see_laws.proofs.Targets.{From, GoWithin, Leads, arm_end, from_next, past_in}
use Rattle.of_see_laws.proofs.Cells.{Fits, Found, Rises, code_of}

-- each item takes a cell at least
has_cells : (i : BodyItem PlainItem) → 1 ≤ item_cells i
has_cells (JumpTo true t) = omega arith
has_cells (JumpTo false t) = omega arith
has_cells (Perform (P.Operation xt)) = omega arith
has_cells (Perform (P.Literal x)) = omega arith
has_cells (Perform (P.String address n)) = omega arith
has_cells (Perform (P.Call xt)) = omega arith
has_cells (Perform (P.Store xt)) = omega arith
has_cells (EnterLoop true t) = omega arith
has_cells (EnterLoop false t) = omega arith
has_cells (RepeatLoop true t) = omega arith
has_cells (RepeatLoop false t) = omega arith
has_cells (ExitLoop t) = omega arith
has_cells (TestArm t) = omega arith
has_cells (EndArm t) = omega arith
has_cells DropSelector = omega arith

-- the cells of the first n items, and one for each number past the last
abbrev cells_before : List (BodyItem PlainItem) → ℕ → ℕ
cells_before is n = total (take n (map item_cells is)) + (n - length is)

abbrev pub cell_of : ℕ → List (BodyItem PlainItem) → ℕ → ℕ
cell_of first is n = first + cells_before is n

one_more : (is : List (BodyItem PlainItem)) (n : ℕ) → cells_before is n < cells_before is (suc n)
one_more [] zero = omega arith
one_more [] (suc n) = omega arith
one_more (i ∷ is) zero = let h = has_cells i in omega (arith, h)
one_more (i ∷ is) (suc n) = let h = one_more is n in omega (arith, h)

rises_by : (is : List (BodyItem PlainItem)) (a k : ℕ) → cells_before is a < cells_before is (a + suc k)
rises_by is a zero =
    let h = one_more is a in
    let same : a + 1 ≡ suc a = omega arith in
    let e = ap (cells_before is) same in omega (arith, h, e)
rises_by is a (suc k) =
    let h = rises_by is a k in
    let g = one_more is (a + suc k) in
    let same : a + suc (suc k) ≡ suc (a + suc k) = omega arith in
    let e = ap (cells_before is) same in omega (arith, h, g, e)

pub rises : (first : ℕ) (is : List (BodyItem PlainItem)) → Rises (cell_of first is)
rises first is a b lt =
    let h = rises_by is a (b - suc a) in
    let same : a + suc (b - suc a) ≡ b = omega arith in
    let e = ap (cells_before is) same in omega (arith, h, e)

-- the cell behind item n
next_cell : (is : List (BodyItem PlainItem)) (n : ℕ) (i : BodyItem PlainItem) → slice_get is n ≡ Some i →
    cells_before is (suc n) ≡ cells_before is n + item_cells i
next_cell [] n i e = let bad : ⊥ = cc in absurd bad
next_cell (j ∷ is) zero i e = let same : j ≡ i = cc in let s = ap item_cells same in omega (arith, s)
next_cell (j ∷ is) (suc n) i e = let h = next_cell is n i e in omega (arith, h)

-- up to the last item these are the cells where they begin
place_is : (first : ℕ) (is : List (BodyItem PlainItem)) (n : ℕ) → n ≤ length is →
    (item_place first is n).cell ≡ cell_of first is n
place_is first is n le = omega arith

-- the cell where item n begins holds it
length-laid : (place : ℕ → Place) (i : BodyItem PlainItem) → length (laid_out (code_item place i)) ≡ item_cells i
length-laid place (JumpTo true t) = refl
length-laid place (JumpTo false t) = refl
length-laid place (Perform (P.Operation xt)) = refl
length-laid place (Perform (P.Literal x)) = refl
length-laid place (Perform (P.String address n)) = refl
length-laid place (Perform (P.Call xt)) = refl
length-laid place (Perform (P.Store xt)) = refl
length-laid place (EnterLoop true t) = refl
length-laid place (EnterLoop false t) = refl
length-laid place (RepeatLoop true t) = refl
length-laid place (RepeatLoop false t) = refl
length-laid place (ExitLoop t) = refl
length-laid place (TestArm t) = refl
length-laid place (EndArm t) = refl
length-laid place DropSelector = refl

arm_at : (place : ℕ → Place) (is : List (BodyItem PlainItem)) (n t : ℕ) → slice_get is n ≡ Some (EndArm t) →
    slice_index_or (code_of place is) (total (take n (map item_cells is))) None ≡ Some (I.EndOf (place t))
arm_at place [] n t e = let bad : ⊥ = cc in absurd bad
arm_at place (j ∷ is) zero t e =
    let same : j ≡ EndArm t = cc in
    ap (λ (i : BodyItem PlainItem). slice_index_or (laid_out (code_item place i) ++ code_of place is) 0 None) same
arm_at place (j ∷ is) (suc n) t e =
    let k = total (take n (map item_cells is)) in
    ap (λ m. slice_index_or (laid_out (code_item place j) ++ code_of place is) (m + k) None) (sym (length-laid place j))
    ∙ get_or-append-add (laid_out (code_item place j)) (code_of place is) k None
    ∙ arm_at place is n t e

arm_within :
    (n : ℕ) (is : List (BodyItem PlainItem)) (m t : ℕ) → GoWithin n is → slice_get is m ≡ Some (EndArm t) → t ≤ n
arm_within n [] m t g e = let bad : ⊥ = cc in absurd bad
arm_within n (EndArm v ∷ is) zero t g e = let same : v ≡ t = cc in omega (arith, g.0, same)
arm_within n (EndArm v ∷ is) (suc m) t g e = arm_within n is m t g.1 e
arm_within n (JumpTo z v ∷ is) zero t g e = let bad : ⊥ = cc in absurd bad
arm_within n (JumpTo z v ∷ is) (suc m) t g e = arm_within n is m t g.1 e
arm_within n (TestArm v ∷ is) zero t g e = let bad : ⊥ = cc in absurd bad
arm_within n (TestArm v ∷ is) (suc m) t g e = arm_within n is m t g.1 e
arm_within n (Perform k ∷ is) zero t g e = let bad : ⊥ = cc in absurd bad
arm_within n (Perform k ∷ is) (suc m) t g e = arm_within n is m t g e
arm_within n (EnterLoop q v ∷ is) zero t g e = let bad : ⊥ = cc in absurd bad
arm_within n (EnterLoop q v ∷ is) (suc m) t g e = arm_within n is m t g e
arm_within n (RepeatLoop l v ∷ is) zero t g e = let bad : ⊥ = cc in absurd bad
arm_within n (RepeatLoop l v ∷ is) (suc m) t g e = arm_within n is m t g e
arm_within n (ExitLoop v ∷ is) zero t g e = let bad : ⊥ = cc in absurd bad
arm_within n (ExitLoop v ∷ is) (suc m) t g e = arm_within n is m t g e
arm_within n (DropSelector ∷ is) zero t g e = let bad : ⊥ = cc in absurd bad
arm_within n (DropSelector ∷ is) (suc m) t g e = arm_within n is m t g e

-- before the cell to which an `of` goes stands its `endof`
arm_found :
    (first : ℕ) (is : List (BodyItem PlainItem)) (t m e : ℕ) → GoWithin (length is) is → t ≤ length is → t ≡ suc m →
    slice_get is m ≡ Some (EndArm e) →
    Found first (code_of (item_place first is) is) (item_place first is) (cell_of first is) (past_in is) (TestArm t)
arm_found first is t m e g le same here =
    let place = item_place first is in
    let next = next_cell is m (EndArm e) here in
    let from = ap (cells_before is) same in
    let back : t - 1 ≡ m = omega arith in
    let at : (place t).cell - first - 2 ≡ total (take m (map item_cells is)) =
    omega (arith, place_is first is t le, from, next) in
    let past : past_in is t ≡ Some e = ap (λ n. arm_end (slice_get is n)) back ∙ ap arm_end here in
    ap (λ n. past_case (slice_index_or (code_of place is) n None)) at
    ∙ ap past_case (arm_at place is m e here)
    ∙ ap (λ n. Some n) (place_is first is e (arm_within (length is) is m e g here))
    ∙ sym (ap (option_map (cell_of first is)) past)

-- the cell behind an item
cell_behind :
    (first : ℕ) (is : List (BodyItem PlainItem)) (n : ℕ) (i : BodyItem PlainItem) (I : List (BodyItem PlainItem)) →
    From is n (i ∷ I) → cell_of first is (suc n) ≡ cell_of first is n + item_cells i
cell_behind first is n i I f =
    let zero_on : n ≡ n + 0 = omega arith in
    let s = next_cell is n i (ap (slice_get is) zero_on ∙ sym (f 0)) in omega (arith, s)

fits_from :
    (first : ℕ) (is : List (BodyItem PlainItem)) (n : ℕ) (I : List (BodyItem PlainItem)) → From is n I →
    GoWithin (length is) is → GoWithin (length is) I → Leads is I →
    Fits first (code_of (item_place first is) is) (item_place first is) (cell_of first is) (past_in is) n I
fits_from first is n [] f g w l = tt
fits_from first is n (Perform k ∷ I) f g w l = (
  cell_behind first is n (Perform k) I f,
  tt,
  tt,
  fits_from first is (suc n) I (from_next is n (Perform k) I f) g w l,
)
fits_from first is n (EnterLoop q t ∷ I) f g w l = (
  cell_behind first is n (EnterLoop q t) I f,
  tt,
  tt,
  fits_from first is (suc n) I (from_next is n (EnterLoop q t) I f) g w l,
)
fits_from first is n (RepeatLoop q t ∷ I) f g w l = (
  cell_behind first is n (RepeatLoop q t) I f,
  tt,
  tt,
  fits_from first is (suc n) I (from_next is n (RepeatLoop q t) I f) g w l,
)
fits_from first is n (ExitLoop t ∷ I) f g w l = (
  cell_behind first is n (ExitLoop t) I f,
  tt,
  tt,
  fits_from first is (suc n) I (from_next is n (ExitLoop t) I f) g w l,
)
fits_from first is n (JumpTo z t ∷ I) f g w l = (
  cell_behind first is n (JumpTo z t) I f,
  place_is first is t w.0,
  tt,
  fits_from first is (suc n) I (from_next is n (JumpTo z t) I f) g w.1 l,
)
fits_from first is n (EndArm t ∷ I) f g w l = (
  cell_behind first is n (EndArm t) I f,
  place_is first is t w.0,
  tt,
  fits_from first is (suc n) I (from_next is n (EndArm t) I f) g w.1 l,
)
fits_from first is n (TestArm t ∷ I) f g w l = (
  cell_behind first is n (TestArm t) I f,
  place_is first is t w.0,
  arm_found first is t l.0.0 l.0.1 g w.0 l.0.2 l.0.3,
  fits_from first is (suc n) I (from_next is n (TestArm t) I f) g w.1 l.1,
)
fits_from first is n (DropSelector ∷ I) f g w l = (
  cell_behind first is n DropSelector I f,
  tt,
  tt,
  fits_from first is (suc n) I (from_next is n DropSelector I f) g w l,
)

-- a whole body
pub fits :
    (first : ℕ) (is : List (BodyItem PlainItem)) → GoWithin (length is) is → Leads is is →
    Fits first (code_of (item_place first is) is) (item_place first is) (cell_of first is) (past_in is) 0 is
fits first is g l = fits_from first is 0 is (λ k. ap (slice_get is) (zero_before k)) g g l
  where
    zero_before : (k : ℕ) → k ≡ 0 + k
    zero_before k = omega arith
