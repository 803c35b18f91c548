-- As many `then`s are printed as branches go forward.
use Rattle.std.proofs.Common.{◌≡◌, ◌+◌, ◌*◌, ◌||◌, ◌++◌, ℕ, zero, suc, Bool, true, false, not, nat_eq, nat_lt}
use Rattle.std.proofs.Common.{List, [], ◌∷◌, length, replicate, Option, Some, None, refl, ap, sym, ◌∙◌, arith}
use Rattle.std.proofs.Common.{if◌then◌else◌}
use Rattle.std.specs.Prelude.{◌==◌, cond}
use Rattle.std.specs.List.{AllByRecursion, cons_option, count_by}
use Rattle.std.proofs.lemmas.List.Folds.{sum_by-replicate}
use Rattle.std.proofs.lemmas.List.Sums.{length-filter, sum_by-append, sum_by-cons}
use Rattle.of_code.specs.declared.item.Item.{Item}
use Rattle.of_code.specs.declared.item.Item.TheVariants as I
use Rattle.of_compile.specs.declared.element.Element.{Element}
use Rattle.of_compile.specs.declared.element.Element.TheVariants as E
use Rattle.of_see.specs.SeeItems.{Open, begins, begins_case, branch_of, case_if, cell_elements, element_at}
use Rattle.of_see.specs.SeeItems.{elements_from, ending, endings, lasting, open_after, with_branch}
use Rattle.of_see.specs.Counts.{ForwardsAreAimed, IsAimed, ThensAreCounted, forwards, is_forward, is_place, is_then}

-- 1 where a test passes
abbrev unit_if : Bool → ℕ
unit_if b = cond b 1 0

-- ---- the `then`s among elements

abbrev count : List Element → ℕ
count es = count_by is_then es

joined : (xs ys : List Element) → count (xs ++ ys) ≡ count xs + count ys
joined xs ys = sum_by-append (λ e. cond (is_then e) 1 0) xs ys

-- how many of these are p, and how many aren't
abbrev same : ℕ → List ℕ → ℕ
same p ts = count_by (λ t. t == p) ts

abbrev others : ℕ → List ℕ → ℕ
others p ts = count_by (λ t. not (t == p)) ts

one_in_ending : (later : ℕ) → count (ending later) ≡ 1
one_in_ending zero = refl
one_in_ending (suc later) = refl

in_endings : (p later : ℕ) (ts : List ℕ) → count (endings p later ts) ≡ same p ts
in_endings p later [] = refl
in_endings p later (t ∷ ts) =
    by_test (nat_eq t p) (in_endings p later ts) (in_endings p (suc later) ts)
    ∙ sym (sum_by-cons (λ t. cond (nat_eq t p) 1 0) t ts)
  where
    by_test : (b : Bool) → count (endings p later ts) ≡ same p ts → count (endings p (suc later) ts) ≡ same p ts
        → count (if b then ending later ++ endings p later ts else endings p (suc later) ts)
        ≡ cond b 1 0 + same p ts
    by_test true s m = omega (arith, joined (ending later) (endings p later ts), one_in_ending later, s)
    by_test false s m = omega (arith, m)

none_in_branch : (b z : Bool) → count ((if b then E.Branch z None else E.Back z None) ∷ []) ≡ 0
none_in_branch true z = refl
none_in_branch false z = refl

none_in_element : (p : ℕ) (item : Item) → count (cons_option (element_at p item) []) ≡ 0
none_in_element p (I.Operation xt) = refl
none_in_element p (I.Literal x) = refl
none_in_element p (I.String address n) = refl
none_in_element p (I.Call xt) = refl
none_in_element p (I.Store xt) = refl
none_in_element p (I.Branch to) = none_in_branch (nat_lt p to.cell) false
none_in_element p (I.BranchIfZero to) = none_in_branch (nat_lt p to.cell) true
none_in_element p (I.Do to) = refl
none_in_element p (I.QuestionDo to) = refl
none_in_element p (I.Loop to) = refl
none_in_element p (I.PlusLoop to) = refl
none_in_element p (I.Leave to) = refl
none_in_element p (I.Of to) = refl
none_in_element p (I.EndOf to) = refl
none_in_element p I.EndCase = refl
none_in_element p I.Return = refl

none_in_case : (b : Bool) → count (case_if b) ≡ 0
none_in_case true = refl
none_in_case false = refl

in_cell : (first : ℕ) (all : List (Option Item)) (p : ℕ) (item : Item) (n : ℕ) (o : Open)
    → count (cell_elements first all p (Some item) n o) ≡ same p o.branches
in_cell first all p item n o =
    let b = begins_case first all p item o.cases in
    let marks = replicate n (E.Mark None) in
    let ends = endings p 0 o.branches in
    let own = cons_option (element_at p item) [] in
    let marked : count marks ≡ n * 0 = sum_by-replicate (λ e. cond (is_then e) 1 0) n (E.Mark None) in
    omega (
      arith,
      joined (ends ++ marks) (case_if b ++ own),
      joined ends marks,
      joined (case_if b) own,
      in_endings p 0 o.branches,
      marked,
      none_in_case b,
      none_in_element p item,
    )

-- ---- branches that are open

-- each is p, or isn't
same_or_other : (p : ℕ) (ts : List ℕ) → same p ts + length (lasting p ts) ≡ length ts
same_or_other p ts = let left = length-filter (λ t. not (t == p)) ts in omega (arith, left, parts ts)
  where
    by_test : (b : Bool) → cond b 1 0 + cond (not b) 1 0 ≡ 1
    by_test true = refl
    by_test false = refl

    parts : (ts : List ℕ) → same p ts + others p ts ≡ length ts
    parts [] = refl
    parts (t ∷ ts) =
        let rest = parts ts in
        let here = by_test (nat_eq t p) in
        omega (
          arith,
          sum_by-cons (λ t. cond (nat_eq t p) 1 0) t ts,
          sum_by-cons (λ t. cond (not (nat_eq t p)) 1 0) t ts,
          here,
          rest,
        )

abbrev AreAimed : ℕ → List (Option Item) → List ℕ → Type 0
AreAimed p cells ts = AllByRecursion (λ t. is_place p cells t ≡ true) ts

-- at the end all go there
all_same : (p : ℕ) (ts : List ℕ) → AreAimed p [] ts → same p ts ≡ length ts
all_same p [] h = refl
all_same p (t ∷ ts) h =
    let rest = all_same p ts h.1 in
    let here : unit_if (nat_eq t p) ≡ 1 = ap unit_if h.0 in
    omega (arith, sum_by-cons (λ t. cond (nat_eq t p) 1 0) t ts, here, rest)

-- those that go elsewhere go behind
all_behind : (p : ℕ) (item : Item) (cells : List (Option Item)) (ts : List ℕ) → AreAimed p (Some item ∷ cells) ts
    → AreAimed (p + 1) cells (lasting p ts)
all_behind p item cells [] h = tt
all_behind p item cells (t ∷ ts) h = by_test (nat_eq t p) h.0 (all_behind p item cells ts h.1)
  where
    by_test : (b : Bool) → (b || is_place (p + 1) cells t) ≡ true → AreAimed (p + 1) cells (lasting p ts)
        → AreAimed (p + 1) cells (if not b then t ∷ lasting p ts else lasting p ts)
    by_test true e rest = rest
    by_test false e rest = (e, rest)

-- and so does one more
one_more : (p : ℕ) (cells : List (Option Item)) (branch : Option (Bool × ℕ)) (ts : List ℕ) → IsAimed p cells branch
    → AreAimed (p + 1) cells ts
    → AreAimed (p + 1) cells (with_branch p branch ts)
    × (length (with_branch p branch ts) ≡ cond (is_forward p branch) 1 0 + length ts)
one_more p cells None ts aimed h = (h, omega arith)
one_more p cells (Some branch) ts aimed h = by_test (nat_lt p branch.1) aimed
  where
    by_test : (b : Bool) → (b ≡ true → is_place (p + 1) cells branch.1 ≡ true)
        → AreAimed (p + 1) cells (if b then branch.1 ∷ ts else ts)
        × (length (if b then branch.1 ∷ ts else ts) ≡ cond b 1 0 + length ts)
    by_test true a = ((a refl, h), omega arith)
    by_test false a = (h, omega arith)

-- ---- the law

printed : (first : ℕ) (all : List (Option Item)) (p : ℕ) (cells : List (Option Item)) (o : Open)
    → ForwardsAreAimed p cells → AreAimed p cells o.branches
    → count (elements_from first all p cells o) ≡ length o.branches + forwards p cells
printed first all p [] o f a =
    let ended = in_endings p 0 o.branches in
    let all = all_same p o.branches a in
    omega (arith, ended, all)
printed first all p (None ∷ cells) o f a = printed first all (p + 1) cells o f a
printed first all p (Some item ∷ cells) o f a =
    let n = begins p (Some item ∷ cells) in
    let next = open_after p (Some item) o in
    let more = one_more p cells (branch_of item) (lasting p o.branches) f.0 (all_behind p item cells o.branches a) in
    let rest = printed first all (p + 1) cells next f.1 more.0 in
    omega (
      arith,
      joined (cell_elements first all p (Some item) n o) (elements_from first all (p + 1) cells next),
      in_cell first all p item n o,
      same_or_other p o.branches,
      more.1,
      rest,
    )

pub thens_are_counted : ThensAreCounted
thens_are_counted first cells aimed =
    let all = printed first cells first cells (record { branches = []; cases = [] }) aimed tt in omega (arith, all)
