-- As many `begin`s are printed as items go back.
use Rattle.std.proofs.Common.{◌≡◌, ◌≤◌, ◌<◌, ◌+◌, ◌-◌, ◌*◌, ◌||◌, ◌++◌, ℕ, zero, suc, Bool, true, false}
use Rattle.std.proofs.Common.{nat_eq, nat_lt, List, [], ◌∷◌, length, drop, get_or, replicate, Option, Some, None}
use Rattle.std.proofs.Common.{is_some, refl, ap, sym, ◌∙◌, arith, if◌then◌else◌}
use Rattle.std.specs.Prelude.{cond}
use Rattle.std.specs.List.{cons_option, count_by}
use Rattle.std.proofs.lemmas.Bool.{eqb-true, false≢true}
use Rattle.std.proofs.lemmas.List.Folds.{sum_by-replicate}
use Rattle.std.proofs.lemmas.List.Sums.{sum_by-append}
use Rattle.of_code.specs.declared.item.Item.{Item}
use Rattle.of_code.specs.declared.item.Item.TheVariants as I
use Rattle.of_compile.specs.declared.element.Element.{Element}
use Rattle.of_compile.specs.declared.element.Element.TheVariants as E
use Rattle.of_see.specs.SeeItems.{Open, begins, begins_case, branch_of, case_if, cell_elements, element_at}
use Rattle.of_see.specs.SeeItems.{elements_from, ending, endings, open_after}
use Rattle.of_see.specs.Begins.{back_to, gone_back}
use Rattle.of_see.specs.Counts.{BacksAreAimed, BeginsAreCounted, backs, is_begin}
use Rattle.of_see.proofs.BeginCounts.{going_back, gone_back_begins, one}

-- 1 where a test passes
abbrev unit_if : Bool → ℕ
unit_if b = cond b 1 0

-- ---- the `begin`s among elements

abbrev count : List Element → ℕ
count es = count_by is_begin es

joined : (xs ys : List Element) → count (xs ++ ys) ≡ count xs + count ys
joined xs ys = sum_by-append (λ e. cond (is_begin e) 1 0) xs ys

none_in_ending : (later : ℕ) → count (ending later) ≡ 0
none_in_ending zero = refl
none_in_ending (suc later) = refl

none_in_endings : (p later : ℕ) (ts : List ℕ) → count (endings p later ts) ≡ 0
none_in_endings p later [] = refl
none_in_endings p later (t ∷ ts) =
    by_test (nat_eq t p) (none_in_endings p later ts) (none_in_endings p (suc later) ts)
  where
    by_test : (b : Bool) → count (endings p later ts) ≡ 0 → count (endings p (suc later) ts) ≡ 0
        → count (if b then ending later ++ endings p later ts else endings p (suc later) ts) ≡ 0
    by_test true same more =
        omega (arith, joined (ending later) (endings p later ts), none_in_ending later, same)
    by_test false same more = more

none_in_branch : (b z : Bool) → count ((if b then E.Branch z None else E.Back z None) ∷ []) ≡ 0
none_in_branch true z = refl
none_in_branch false z = refl

none_in_element : (p : ℕ) (item : Item) → count (cons_option (element_at p item) []) ≡ 0
none_in_element p (I.Operation xt) = refl
none_in_element p (I.Literal x) = refl
none_in_element p (I.String address n) = refl
none_in_element p (I.Call xt) = refl
none_in_element p (I.Store xt) = refl
none_in_element p (I.Branch to) = none_in_branch (nat_lt p to.cell) false
none_in_element p (I.BranchIfZero to) = none_in_branch (nat_lt p to.cell) true
none_in_element p (I.Do to) = refl
none_in_element p (I.QuestionDo to) = refl
none_in_element p (I.Loop to) = refl
none_in_element p (I.PlusLoop to) = refl
none_in_element p (I.Leave to) = refl
none_in_element p (I.Of to) = refl
none_in_element p (I.EndOf to) = refl
none_in_element p I.EndCase = refl
none_in_element p I.Return = refl

none_in_case : (b : Bool) → count (case_if b) ≡ 0
none_in_case true = refl
none_in_case false = refl

in_cell : (first : ℕ) (all : List (Option Item)) (p : ℕ) (item : Item) (n : ℕ) (o : Open)
    → count (cell_elements first all p (Some item) n o) ≡ n
in_cell first all p item n o =
    let b = begins_case first all p item o.cases in
    let marks = replicate n (E.Mark None) in
    let ends = endings p 0 o.branches in
    let own = cons_option (element_at p item) [] in
    let marked : count marks ≡ n * 1 = sum_by-replicate (λ e. cond (is_begin e) 1 0) n (E.Mark None) in
    omega (
      arith,
      joined (ends ++ marks) (case_if b ++ own),
      joined ends marks,
      joined (case_if b) own,
      none_in_endings p 0 o.branches,
      marked,
      none_in_case b,
      none_in_element p item,
    )

-- the `begin`s before each item
abbrev begun : ℕ → List (Option Item) → ℕ
begun p [] = 0
begun p (cell ∷ cells) = cond (is_some cell) (begins p (cell ∷ cells)) 0 + begun (p + 1) cells

printed : (first : ℕ) (all : List (Option Item)) (p : ℕ) (cells : List (Option Item)) (o : Open)
    → count (elements_from first all p cells o) ≡ begun p cells
printed first all p [] o = none_in_endings p 0 o.branches
printed first all p (None ∷ cells) o = let rest = printed first all (p + 1) cells o in omega (arith, rest)
printed first all p (Some item ∷ cells) o =
    let n = begins p (Some item ∷ cells) in
    let next = open_after p (Some item) o in
    omega (
      arith,
      joined (cell_elements first all p (Some item) n o) (elements_from first all (p + 1) cells next),
      in_cell first all p item n o,
      printed first all (p + 1) cells next,
    )

-- ---- cells one by one

-- the first cell that is left, and the others
split : (k : ℕ) (xs : List (Option Item)) (c : Option Item) (cs : List (Option Item)) → drop k xs ≡ c ∷ cs
    → (get_or xs k None ≡ c) × (drop (suc k) xs ≡ cs)
split zero [] c cs e = absurd cc
split zero (x ∷ xs) c cs e = (cc, cc)
split (suc k) [] c cs e = absurd cc
split (suc k) (x ∷ xs) c cs e = split k xs c cs e

-- what goes back to a cell in which no item begins: nothing
not_aimed : (first q k : ℕ) (cells : List (Option Item)) (c : Option Item) → BacksAreAimed first cells
    → get_or cells q None ≡ None → get_or cells k None ≡ c → one q (gone_back first k c) ≡ 0
not_aimed first q k cells c aimed none here = by_goal (gone_back first k c) refl
  where
    by_test : (i : ℕ) (b : Bool) → nat_eq i q ≡ b → gone_back first k c ≡ Some i → unit_if b ≡ 0
    by_test i true same e =
        let there : is_some (get_or cells i None) ≡ true =
        aimed k i (ap (gone_back first k) here ∙ e) in
        let missing : is_some (get_or cells i None) ≡ false =
        ap (λ j. is_some (get_or cells j None)) (eqb-true i q same) ∙ ap is_some none in
        absurd (false≢true (sym missing ∙ there))
    by_test i false same e = refl

    by_goal : (g : Option ℕ) → gone_back first k c ≡ g → one q g ≡ 0
    by_goal None e = refl
    by_goal (Some i) e = by_test i (nat_eq i q) refl e

none_to : (first q : ℕ) (cells : List (Option Item)) → BacksAreAimed first cells → get_or cells q None ≡ None
    → (k : ℕ) (rest : List (Option Item)) → drop k cells ≡ rest → going_back first q k rest ≡ 0
none_to first q cells aimed none k [] e = refl
none_to first q cells aimed none k (c ∷ rest) e =
    let s = split k cells c rest e in
    let own = not_aimed first q k cells c aimed none s.0 in
    let others = none_to first q cells aimed none (suc k) rest s.1 in
    omega (arith, own, others)

-- ---- sums over cells

abbrev sum_from : (ℕ → ℕ) → ℕ → List (Option Item) → ℕ
sum_from f q [] = 0
sum_from f q (c ∷ cs) = f q + sum_from f (suc q) cs

sum_added : (f g : ℕ → ℕ) (q : ℕ) (cs : List (Option Item))
    → sum_from (λ i. f i + g i) q cs ≡ sum_from f q cs + sum_from g q cs
sum_added f g q [] = refl
sum_added f g q (c ∷ cs) = let rest = sum_added f g (suc q) cs in omega (arith, rest)

sum_of_none : (q : ℕ) (cs : List (Option Item)) → sum_from (λ i. 0) q cs ≡ 0
sum_of_none q [] = refl
sum_of_none q (c ∷ cs) = let rest = sum_of_none (suc q) cs in omega (arith, rest)

sum_behind : (i q : ℕ) (cs : List (Option Item)) → i < q → sum_from (λ j. one j (Some i)) q cs ≡ 0
sum_behind i q [] l = refl
sum_behind i q (c ∷ cs) l =
    let other : nat_eq i q ≡ false = grind (arith, l) in
    let here : one q (Some i) ≡ 0 = ap unit_if other in
    let rest = sum_behind i (suc q) cs (omega (arith, l)) in
    omega (arith, here, rest)

sum_of_one : (i q : ℕ) (cs : List (Option Item)) → q ≤ i → i < q + length cs
    → sum_from (λ j. one j (Some i)) q cs ≡ 1
sum_of_one i q [] l m = absurd (omega (arith, l, m))
sum_of_one i q (c ∷ cs) l m = by_test (nat_eq i q) refl (λ more. sum_of_one i (suc q) cs more (omega (arith, m)))
  where
    by_test : (b : Bool) → nat_eq i q ≡ b → (suc q ≤ i → sum_from (λ j. one j (Some i)) (suc q) cs ≡ 1)
        → cond b 1 0 + sum_from (λ j. one j (Some i)) (suc q) cs ≡ 1
    by_test true e others =
        let same : i ≡ q = eqb-true i q e in
        let rest = sum_behind i (suc q) cs (omega (arith, same)) in
        omega (arith, rest)
    by_test false e others =
        let more : suc q ≤ i = grind (arith, l, e) in
        let rest = others more in
        omega (arith, rest)

-- an item goes back to its own cell at most
goes_behind : (first k : ℕ) (branch : Option (Bool × ℕ)) (i : ℕ) → back_to first k branch ≡ Some i → i ≤ k
goes_behind first k None i e = absurd cc
goes_behind first k (Some b) i e = by_test (nat_lt b.1 first || nat_lt (first + k) b.1) refl e
  where
    by_test : (t : Bool) → (nat_lt b.1 first || nat_lt (first + k) b.1) ≡ t
        → (if t then None else Some (b.1 - first)) ≡ Some i → i ≤ k
    by_test true h e = absurd cc
    by_test false h e = let same : b.1 - first ≡ i = cc in grind (arith, h, same)

goes_back_to : (first k : ℕ) (c : Option Item) (i : ℕ) → gone_back first k c ≡ Some i → i ≤ k
goes_back_to first k None i e = absurd cc
goes_back_to first k (Some item) i e = goes_behind first k (branch_of item) i e

-- each item that goes back goes to one cell
sum_of_item : (first k : ℕ) (c : Option Item) (cells : List (Option Item)) → k < length cells
    → sum_from (λ q. one q (gone_back first k c)) 0 cells ≡ cond (is_some (gone_back first k c)) 1 0
sum_of_item first k c cells l = by_goal (gone_back first k c) refl
  where
    by_goal : (g : Option ℕ) → gone_back first k c ≡ g
        → sum_from (λ q. one q g) 0 cells ≡ cond (is_some g) 1 0
    by_goal None e = sum_of_none 0 cells
    by_goal (Some i) e =
        let behind = goes_back_to first k c i e in
        sum_of_one i 0 cells (omega arith) (omega (arith, behind, l))

sum_of_all : (first k : ℕ) (rest cells : List (Option Item)) → k + length rest ≤ length cells
    → sum_from (λ q. going_back first q k rest) 0 cells ≡ backs first k rest
sum_of_all first k [] cells l = sum_of_none 0 cells
sum_of_all first k (c ∷ rest) cells l =
    let next : k + 1 ≡ suc k = omega arith in
    let same : backs first (k + 1) rest ≡ backs first (suc k) rest = ap (λ n. backs first n rest) next in
    omega (
      arith,
      sum_added (λ q. one q (gone_back first k c)) (λ q. going_back first q (suc k) rest) 0 cells,
      sum_of_item first k c cells (omega (arith, l)),
      sum_of_all first (suc k) rest cells (omega (arith, l)),
      same,
    )

-- ---- the law

module _ (first : ℕ) (cells : List (Option Item)) (aimed : BacksAreAimed first cells) where
  begun_sum : (q : ℕ) (rest : List (Option Item)) → drop q cells ≡ rest
      → begun (first + q) rest ≡ sum_from (λ i. going_back first i 0 cells) q rest
  begun_sum q [] e = refl
  begun_sum q (c ∷ rest) e =
      let s = split q cells c rest e in
      let next : first + q + 1 ≡ first + suc q = omega arith in
      let whole : q - 0 ≡ q = omega arith in
      let same : begun (first + q + 1) rest ≡ begun (first + suc q) rest = ap (λ n. begun n rest) next in
      let others = begun_sum (suc q) rest s.1 in
      let counted : going_back first q 0 cells ≡ begins (first + q) (c ∷ rest) =
      gone_back_begins first q 0 cells ∙ ap (λ n. begins (first + q) (drop n cells)) whole
      ∙ ap (begins (first + q)) e in
      omega (arith, by_cell c s.0 counted, same, others)
    where
      by_cell : (c : Option Item) → get_or cells q None ≡ c
          → going_back first q 0 cells ≡ begins (first + q) (c ∷ rest)
          → cond (is_some c) (begins (first + q) (c ∷ rest)) 0 ≡ going_back first q 0 cells
      by_cell None here counted = sym (none_to first q cells aimed here 0 cells refl)
      by_cell (Some item) here counted = sym counted

pub begins_are_counted : BeginsAreCounted
begins_are_counted first cells aimed =
    let zero_on : first ≡ first + 0 = omega arith in
    printed first cells first cells (record { branches = []; cases = [] })
    ∙ ap (λ p. begun p cells) zero_on
    ∙ begun_sum first cells aimed 0 cells refl
    ∙ sum_of_all first 0 cells cells (omega arith)
