-- A body's steps in their order: running by structure is running by numbers.
use Rattle.std.proofs.Common.{◌≡◌, ◌⊎◌, ℕ, ◌+◌, ◌-◌, ◌<◌, ◌≤◌, zero, suc, Bool, List, [], ◌∷◌, ◌++◌, length, Option}
use Rattle.std.proofs.Common.{Some, None, refl, sym, ap, subst, ◌∙◌, ⊎_elim, inl, inr, arith}
use Rattle.std.specs.Prelude.{◌==◌, nat_lt, if◌then◌else◌, slice_get, slice_index}
use Rattle.std.proofs.lemmas.Option.{slice_get_past}
use Rattle.std.proofs.lemmas.Bool.{ltb-true, ltb-false, le-ltb, ne_eqb, cases_lt}
use Rattle.of_control.specs.Items.{Item, ExitLoop, Perform}
use Rattle.of_control.specs.Body.{Body, End, Operation, LeaveLoop, Jump, Block, Cycle, Counted, Choice, Arm, body_size}
use Rattle.of_control.specs.Body.{items_at, items_of}
use Rattle.of_control.specs.Running.{Enclosing, InBlock, InCycle, InCounted, InChoice, InArm, Point, Step, Performs}
use Rattle.of_control.specs.Running.{Jumps, Enters, Repeats, Leaves, Tests, EndsArm, DropsSelector, Returns, ahead, at}
use Rattle.of_control.specs.Running.{at_end, behind, choice_point, first, jump_point, leave_point, number, numbered}
use Rattle.of_control.specs.Running.{step, step_at, step_in, target_of}
use Rattle.of_control.specs.RunningLaw.{IsNumbered, IsRun, RunsByPlaces, RunsByPoints}

-- ---- all steps

-- the steps of a part with these parts round it, before others
abbrev steps : {A : Type 0} → Body A → Body A → List (Enclosing A) → List (Step A) → List (Step A)
steps w End fs ss = ss
steps w (Operation a r) fs ss = step (Performs a) (at r fs) ∷ steps w r fs ss
steps w (LeaveLoop r) fs ss = step (Leaves (leave_point w fs)) (at r fs) ∷ steps w r fs ss
steps w (Jump z j r) fs ss = step (Jumps z (jump_point w j fs)) (at r fs) ∷ steps w r fs ss
steps w (Block b r) fs ss = steps w b (InBlock r ∷ fs) (steps w r fs ss)
steps w (Cycle b r) fs ss = steps w b (InCycle b r ∷ fs) (steps w r fs ss)
steps w (Counted q b l r) fs ss =
    step (Enters q (at r fs)) (at b (InCounted b l r ∷ fs)) ∷ steps w b (InCounted b l r ∷ fs)
    (step (Repeats l (at b (InCounted b l r ∷ fs))) (at r fs) ∷ steps w r fs ss)
steps w (Choice b r) fs ss = steps w b (InChoice r ∷ fs) (step DropsSelector (at r fs) ∷ steps w r fs ss)
steps w (Arm b r) fs ss =
    step (Tests (at r fs)) (at b (InArm r ∷ fs)) ∷ steps w b (InArm r ∷ fs)
    (step (EndsArm (choice_point w fs)) (at r fs) ∷ steps w r fs ss)

-- the steps from the end of the innermost of these parts on, the return last
abbrev ends : {A : Type 0} → Body A → List (Enclosing A) → List (Step A)
ends w [] = step Returns (at End []) ∷ []
ends w (InBlock r ∷ fs) = steps w r fs (ends w fs)
ends w (InCycle b r ∷ fs) = steps w r fs (ends w fs)
ends w (InCounted b l r ∷ fs) =
    step (Repeats l (at b (InCounted b l r ∷ fs))) (at r fs) ∷ steps w r fs (ends w fs)
ends w (InChoice r ∷ fs) = step DropsSelector (at r fs) ∷ steps w r fs (ends w fs)
ends w (InArm r ∷ fs) = step (EndsArm (choice_point w fs)) (at r fs) ∷ steps w r fs (ends w fs)

-- the steps from a point on
abbrev onward : {A : Type 0} → Body A → Point A → List (Step A)
onward w p = steps w p.rest p.around (ends w p.around)

abbrev all_steps : {A : Type 0} → Body A → List (Step A)
all_steps w = steps w w [] (ends w [])

length-steps :
    {A : Type 0} → (w b : Body A) (fs : List (Enclosing A)) (ss : List (Step A)) →
    length (steps w b fs ss) ≡ body_size b + length ss
length-steps w End fs ss = omega arith
length-steps w (Operation a r) fs ss = omega (arith, length-steps w r fs ss)
length-steps w (LeaveLoop r) fs ss = omega (arith, length-steps w r fs ss)
length-steps w (Jump z j r) fs ss = omega (arith, length-steps w r fs ss)
length-steps w (Block b r) fs ss = grind (arith, length-steps w b (InBlock r ∷ fs), length-steps w r fs)
length-steps w (Cycle b r) fs ss = grind (arith, length-steps w b (InCycle b r ∷ fs), length-steps w r fs)
length-steps w (Counted q b l r) fs ss =
    grind (arith, length-steps w b (InCounted b l r ∷ fs), length-steps w r fs)
length-steps w (Choice b r) fs ss = grind (arith, length-steps w b (InChoice r ∷ fs), length-steps w r fs)
length-steps w (Arm b r) fs ss = grind (arith, length-steps w b (InArm r ∷ fs), length-steps w r fs)

length-ends : {A : Type 0} → (w : Body A) (fs : List (Enclosing A)) → length (ends w fs) ≡ suc (behind fs)
length-ends w [] = refl
length-ends w (_ ∷ fs) = grind (arith, length-steps, length-ends w fs)

length-onward : {A : Type 0} → (w : Body A) (p : Point A) → length (onward w p) ≡ suc (ahead p)
length-onward w p = grind (arith, length-steps, length-ends)

-- ---- the first of them is what is taken by structure

first_is :
    {A : Type 0} → (w b : Body A) (fs : List (Enclosing A)) (ss : List (Step A)) (d : Step A) →
    slice_get ss 0 ≡ Some d → slice_get (steps w b fs ss) 0 ≡ Some (first w b fs d)
first_is w End fs ss d h = h
first_is w (Block b r) fs ss d h = first_is w b (InBlock r ∷ fs) (steps w r fs ss) _ (first_is w r fs ss d h)
first_is w (Cycle b r) fs ss d h = first_is w b (InCycle b r ∷ fs) (steps w r fs ss) _ (first_is w r fs ss d h)
first_is w (Choice b r) fs ss d h =
    first_is w b (InChoice r ∷ fs) (step DropsSelector (at r fs) ∷ steps w r fs ss) _ refl
first_is w _ fs ss d h = refl

end_is : {A : Type 0} → (w : Body A) (fs : List (Enclosing A)) → slice_get (ends w fs) 0 ≡ Some (at_end w fs)
end_is w (InBlock r ∷ fs) = first_is w r fs (ends w fs) (at_end w fs) (end_is w fs)
end_is w (InCycle b r ∷ fs) = first_is w r fs (ends w fs) (at_end w fs) (end_is w fs)
end_is w _ = refl

-- ---- step k is that of number k

get_past :
    {A : Type 0} → (w b : Body A) (fs : List (Enclosing A)) (ss : List (Step A)) (i k : ℕ) → i ≡ body_size b + k →
    slice_get (steps w b fs ss) i ≡ slice_get ss k
get_past w End fs ss i k e = ap (slice_get ss) (omega (arith, e))
get_past w (Operation a r) fs ss (suc i) k e = get_past w r fs ss i k (omega (arith, e))
get_past w (LeaveLoop r) fs ss (suc i) k e = get_past w r fs ss i k (omega (arith, e))
get_past w (Jump z j r) fs ss (suc i) k e = get_past w r fs ss i k (omega (arith, e))
get_past w (Block b r) fs ss i k e =
    get_past w b _ _ i (body_size r + k) (omega (arith, e)) ∙ get_past w r fs ss _ k refl
get_past w (Cycle b r) fs ss i k e =
    get_past w b _ _ i (body_size r + k) (omega (arith, e)) ∙ get_past w r fs ss _ k refl
get_past w (Counted q b l r) fs ss (suc i) k e =
    get_past w b _ _ i (suc (body_size r + k)) (omega (arith, e)) ∙ get_past w r fs ss _ k refl
get_past w (Choice b r) fs ss i k e =
    get_past w b _ _ i (suc (body_size r + k)) (omega (arith, e)) ∙ get_past w r fs ss _ k refl
get_past w (Arm b r) fs ss (suc i) k e =
    get_past w b _ _ i (suc (body_size r + k)) (omega (arith, e)) ∙ get_past w r fs ss _ k refl
get_past w _ fs ss zero k e = absurd (omega (arith, e))

split_lt :
    {X : Type 0} → (P : X → Type 0) (k n : ℕ) (s t : X) (b : Bool) → nat_lt k n ≡ b → (k < n → P s) → (n ≤ k → P t) →
    P (if b then s else t)
split_lt P k n s t b e f g = grind (arith, ltb-true, ltb-false)

split_eq :
    {X : Type 0} → (P : X → Type 0) (k n : ℕ) (s t : X) (b : Bool) → (k == n) ≡ b → (k ≡ n → P s) →
    ((k ≡ n → ⊥) → P t) → P (if b then s else t)
split_eq P k n s t b e f g = grind arith

-- a part that follows an inner part, or the item that ends that
get_both :
    {X : Type 0} → (xs ys : List X) (n k : ℕ) (s t : X) → (k < n → slice_get xs k ≡ Some s) →
    ((i j : ℕ) → i ≡ n + j → slice_get xs i ≡ slice_get ys j) → (n ≤ k → slice_get ys (k - n) ≡ Some t) →
    slice_get xs k ≡ Some (if nat_lt k n then s else t)
get_both xs ys n k s t f g h =
    split_lt (λ x. slice_get xs k ≡ Some x) k n s t (nat_lt k n) refl f
    (λ l. g k (k - n) (omega (arith, l)) ∙ h l)

get_ended :
    {X : Type 0} → (xs ys : List X) (n k : ℕ) (s t u : X) → (k < n → slice_get xs k ≡ Some s) →
    ((i j : ℕ) → i ≡ n + j → slice_get xs i ≡ slice_get (t ∷ ys) j) →
    (n < k → slice_get ys (k - suc n) ≡ Some u) →
    slice_get xs k ≡ Some (if nat_lt k n then s else if k == n then t else u)
get_ended xs ys n k s t u f g h =
    split_lt (λ x. slice_get xs k ≡ Some x) k n s (if k == n then t else u) (nat_lt k n) refl f
    (λ l. split_eq (λ x. slice_get xs k ≡ Some x) k n t u (k == n) refl
    (λ e. g k 0 (omega (arith, e)))
    (λ e. g k (suc (k - suc n)) (omega (arith, l, e)) ∙ h (omega (arith, l, e))))

get_step :
    {A : Type 0} → (w b : Body A) (k : ℕ) (fs : List (Enclosing A)) (ss : List (Step A)) → k < body_size b →
    slice_get (steps w b fs ss) k ≡ Some (step_in w b k fs)
get_step w End k fs ss l = absurd (omega (arith, l))
get_step w (Operation a r) (suc k) fs ss l = get_step w r k fs ss (omega (arith, l))
get_step w (LeaveLoop r) (suc k) fs ss l = get_step w r k fs ss (omega (arith, l))
get_step w (Jump z j r) (suc k) fs ss l = get_step w r k fs ss (omega (arith, l))
get_step w (Block b r) k fs ss l =
    get_both (steps w (Block b r) fs ss) (steps w r fs ss) (body_size b) k _ _ (get_step w b k _ _)
    (get_past w b _ _) (λ m. get_step w r (k - body_size b) fs ss (omega (arith, l, m)))
get_step w (Cycle b r) k fs ss l =
    get_both (steps w (Cycle b r) fs ss) (steps w r fs ss) (body_size b) k _ _ (get_step w b k _ _)
    (get_past w b _ _) (λ m. get_step w r (k - body_size b) fs ss (omega (arith, l, m)))
get_step w (Counted q b d r) (suc k) fs ss l =
    get_ended (steps w b (InCounted b d r ∷ fs) _) (steps w r fs ss) (body_size b) k _ _ _ (get_step w b k _ _)
    (get_past w b _ _) (λ m. get_step w r (k - suc (body_size b)) fs ss (omega (arith, l, m)))
get_step w (Choice b r) k fs ss l =
    get_ended (steps w b (InChoice r ∷ fs) _) (steps w r fs ss) (body_size b) k _ _ _ (get_step w b k _ _)
    (get_past w b _ _) (λ m. get_step w r (k - suc (body_size b)) fs ss (omega (arith, l, m)))
get_step w (Arm b r) (suc k) fs ss l =
    get_ended (steps w b (InArm r ∷ fs) _) (steps w r fs ss) (body_size b) k _ _ _ (get_step w b k _ _)
    (get_past w b _ _) (λ m. get_step w r (k - suc (body_size b)) fs ss (omega (arith, l, m)))
get_step w _ zero fs ss l = refl

-- behind the last step the return
get_return :
    {A : Type 0} → (w b : Body A) (k : ℕ) (fs : List (Enclosing A)) → body_size b ≤ k →
    step_in w b k fs ≡ step Returns (at End fs)
get_return w End k fs l = refl
get_return w (Operation a r) (suc k) fs l = get_return w r k fs (omega (arith, l))
get_return w (LeaveLoop r) (suc k) fs l = get_return w r k fs (omega (arith, l))
get_return w (Jump z j r) (suc k) fs l = get_return w r k fs (omega (arith, l))
get_return w (Block b r) k fs l = grind (arith, get_return w r (k - body_size b) fs (omega (arith, l)), le-ltb)
get_return w (Cycle b r) k fs l = grind (arith, get_return w r (k - body_size b) fs (omega (arith, l)), le-ltb)
get_return w (Counted q b d r) (suc k) fs l =
    grind (arith, get_return w r (k - suc (body_size b)) fs (omega (arith, l)), le-ltb, ne_eqb)
get_return w (Choice b r) k fs l =
    grind (arith, get_return w r (k - suc (body_size b)) fs (omega (arith, l)), le-ltb, ne_eqb)
get_return w (Arm b r) (suc k) fs l =
    grind (arith, get_return w r (k - suc (body_size b)) fs (omega (arith, l)), le-ltb, ne_eqb)
get_return w _ zero fs l = absurd (omega (arith, l))

step_is :
    {A : Type 0} → (w : Body A) (k : ℕ) → k ≤ body_size w → slice_get (all_steps w) k ≡ Some (step_at w k)
step_is w k l =
    ⊎_elim (λ m. get_step w w k [] (ends w []) m)
    (λ m. get_past w w [] (ends w []) k 0 (omega (arith, l, m)) ∙ ap Some (sym (get_return w w k [] m)))
    (cases_lt k (body_size w))

-- ---- what a list ends with

abbrev Tail : {X : Type 0} → List X → List X → Type 0
Tail xs [] = xs ≡ []
Tail xs (y ∷ ys) = (xs ≡ y ∷ ys) ⊎ Tail xs ys

tail_refl : {X : Type 0} → (xs : List X) → Tail xs xs
tail_refl [] = refl
tail_refl (x ∷ xs) = inl refl

tail_next : {X : Type 0} → (x : X) (xs ys : List X) → Tail (x ∷ xs) ys → Tail xs ys
tail_next x xs [] t = let bad : ⊥ = cc in absurd bad
tail_next x xs (y ∷ ys) t =
    ⊎_elim (λ e. let f : ys ≡ xs = cc in inr (subst (λ l. Tail l ys) f (tail_refl ys)))
    (λ r. inr (tail_next x xs ys r)) t

tail_length : {X : Type 0} → (xs ys : List X) → Tail xs ys → length xs ≤ length ys
tail_length xs [] t = let e = ap length t in omega (arith, e)
tail_length xs (y ∷ ys) t =
    ⊎_elim (λ q. let e = ap length q in omega (arith, e)) (λ r. let l = tail_length xs ys r in omega (arith, l)) t

tail_get :
    {X : Type 0} → (xs ys : List X) (k : ℕ) → Tail xs ys → length xs + k ≡ length ys → slice_get ys k ≡ slice_get xs 0
tail_get xs [] k t e = grind (arith)
tail_get xs (y ∷ ys) zero t e = grind (arith, tail_length)
tail_get xs (y ∷ ys) (suc k) t e = grind (arith, tail_get xs ys k, tail_length)

tail_past :
    {A : Type 0} → (w b : Body A) (fs : List (Enclosing A)) (ss ys : List (Step A)) → Tail (steps w b fs ss) ys →
    Tail ss ys
tail_past w End fs ss ys t = t
tail_past w (Operation a r) fs ss ys t = tail_past w r fs ss ys (tail_next _ _ ys t)
tail_past w (LeaveLoop r) fs ss ys t = tail_past w r fs ss ys (tail_next _ _ ys t)
tail_past w (Jump z j r) fs ss ys t = tail_past w r fs ss ys (tail_next _ _ ys t)
tail_past w (Block b r) fs ss ys t = tail_past w r fs ss ys (tail_past w b _ _ ys t)
tail_past w (Cycle b r) fs ss ys t = tail_past w r fs ss ys (tail_past w b _ _ ys t)
tail_past w (Counted q b l r) fs ss ys t =
    tail_past w r fs ss ys (tail_next _ _ ys (tail_past w b _ _ ys (tail_next _ _ ys t)))
tail_past w (Choice b r) fs ss ys t = tail_past w r fs ss ys (tail_next _ _ ys (tail_past w b _ _ ys t))
tail_past w (Arm b r) fs ss ys t =
    tail_past w r fs ss ys (tail_next _ _ ys (tail_past w b _ _ ys (tail_next _ _ ys t)))

-- ---- points from which on there are the last of all steps

abbrev IsPoint : {A : Type 0} → Body A → Point A → Type 0
IsPoint w p = Tail (onward w p) (all_steps w)

point_number : {A : Type 0} → (w : Body A) (p : Point A) → IsPoint w p → ahead p ≤ body_size w
point_number w p t = grind (arith, tail_length, length-onward, length-steps)

numbered_point : {A : Type 0} → (w : Body A) (p : Point A) → IsPoint w p → IsNumbered w p
numbered_point w p t =
    let small = point_number w p t in
    let lp = length-onward w p in
    let lw = length-steps w w [] (ends w []) in
    let from = first_is w p.rest p.around (ends w p.around) (at_end w p.around) (end_is w p.around) in
    let there = tail_get (onward w p) (all_steps w) (number w p) t (omega (arith, small, lp, lw)) in
    let is = step_is w (number w p) (omega (arith, small)) in
    cc

-- the points that the enclosing parts give
record Context {A : Type 0} (w : Body A) (fs : List (Enclosing A)) : Type 0 where
  pub jump : (k : ℕ) → IsPoint w (jump_point w k fs)
  pub leave : IsPoint w (leave_point w fs)
  pub choice : IsPoint w (choice_point w fs)

-- where no jump leads out
abbrev IsShut : {A : Type 0} → List (Enclosing A) → Type 0
IsShut (InBlock r ∷ fs) = ⊥
IsShut (InCycle b r ∷ fs) = ⊥
IsShut _ = Unit {0}

abbrev IsPointIf : {A : Type 0} → Body A → Option (Point A) → Type 0
IsPointIf w None = Unit {0}
IsPointIf w (Some p) = IsPoint w p

-- a step is followed by the rest, and its target is a point
record Follows {A : Type 0} (w : Body A) (s : Step A) (ss : List (Step A)) : Type 0 where
  pub next : ((s ≡ step Returns (at End [])) × (ss ≡ [])) ⊎ (onward w s.next ≡ ss)
  pub target : IsPointIf w (target_of s.taken)

abbrev Flow : {A : Type 0} → Body A → List (Step A) → Type 0
Flow w [] = Unit {0}
Flow w (s ∷ ss) = Follows w s ss × Flow w ss

module _ {A : Type 0} {w : Body A} where
  no_jump : (k : ℕ) (fs : List (Enclosing A)) → IsShut fs → jump_point w k fs ≡ at w []
  no_jump k fs h = grind (arith)

  shut_context :
      (fs : List (Enclosing A)) → IsShut fs → IsPoint w (at w []) → IsPoint w (leave_point w fs) →
      IsPoint w (choice_point w fs) → Context w fs
  shut_context fs h z l c =
      record { jump = λ k. subst (IsPoint w) (sym (no_jump k fs h)) z; leave = l; choice = c }

  block_context :
      (r : Body A) (fs : List (Enclosing A)) → Context w fs → IsPoint w (at r fs) → Context w (InBlock r ∷ fs)
  block_context r fs c t = record { jump = jumps; leave = c.leave; choice = c.choice }
    where
      jumps : (k : ℕ) → IsPoint w (jump_point w k (InBlock r ∷ fs))
      jumps zero = t
      jumps (suc k) = c.jump k

  cycle_context :
      (b r : Body A) (fs : List (Enclosing A)) → Context w fs → IsPoint w (at b (InCycle b r ∷ fs)) →
      Context w (InCycle b r ∷ fs)
  cycle_context b r fs c t = record { jump = jumps; leave = c.leave; choice = c.choice }
    where
      jumps : (k : ℕ) → IsPoint w (jump_point w k (InCycle b r ∷ fs))
      jumps zero = t
      jumps (suc k) = c.jump k

  flow :
      (b : Body A) (fs : List (Enclosing A)) → IsPoint w (at w []) → Context w fs → IsPoint w (at b fs) →
      Flow w (ends w fs) → Flow w (onward w (at b fs))
  flow End fs z c t e = e
  flow (Operation a r) fs z c t e =
      (record { next = inr refl; target = tt }, flow r fs z c (tail_next _ _ (all_steps w) t) e)
  flow (LeaveLoop r) fs z c t e =
      (record { next = inr refl; target = c.leave }, flow r fs z c (tail_next _ _ (all_steps w) t) e)
  flow (Jump y j r) fs z c t e =
      (record { next = inr refl; target = c.jump j }, flow r fs z c (tail_next _ _ (all_steps w) t) e)
  flow (Block b r) fs z c t e =
      let u = tail_past w b (InBlock r ∷ fs) (onward w (at r fs)) (all_steps w) t in
      flow b (InBlock r ∷ fs) z (block_context r fs c u) t (flow r fs z c u e)
  flow (Cycle b r) fs z c t e =
      let u = tail_past w b (InCycle b r ∷ fs) (onward w (at r fs)) (all_steps w) t in
      flow b (InCycle b r ∷ fs) z (cycle_context b r fs c t) t (flow r fs z c u e)
  flow (Counted q b l r) fs z c t e =
      let f = InCounted b l r in
      let i = tail_next _ _ (all_steps w) t in
      let u = tail_next _ _ (all_steps w) (tail_past w b (f ∷ fs) (ends w (f ∷ fs)) (all_steps w) i) in
      let k = shut_context (f ∷ fs) tt z u c.choice in (
        record { next = inr refl; target = u },
        flow b (f ∷ fs) z k i (record { next = inr refl; target = i }, flow r fs z c u e),
      )
  flow (Choice b r) fs z c t e =
      let f = InChoice r in
      let u = tail_next _ _ (all_steps w) (tail_past w b (f ∷ fs) (ends w (f ∷ fs)) (all_steps w) t) in
      let k = shut_context (f ∷ fs) tt z c.leave u in
      flow b (f ∷ fs) z k t (record { next = inr refl; target = tt }, flow r fs z c u e)
  flow (Arm b r) fs z c t e =
      let f = InArm r in
      let i = tail_next _ _ (all_steps w) t in
      let u = tail_next _ _ (all_steps w) (tail_past w b (f ∷ fs) (ends w (f ∷ fs)) (all_steps w) i) in
      let k = shut_context (f ∷ fs) tt z c.leave c.choice in (
        record { next = inr refl; target = u },
        flow b (f ∷ fs) z k i (record { next = inr refl; target = c.choice }, flow r fs z c u e),
      )

start_point : {A : Type 0} → (w : Body A) → IsPoint w (at w [])
start_point w = tail_refl (all_steps w)

flow_all : {A : Type 0} → (w : Body A) → Flow w (all_steps w)
flow_all w =
    let z = start_point w in
    flow w [] z (shut_context [] tt z z z) z
    (record { next = inl (refl, refl); target = tt }, tt)

-- what follows step k of these
record Goes {A : Type 0} (w : Body A) (s : Step A) (left : ℕ) : Type 0 where
  pub next : IsPoint w s.next
  pub target : IsPointIf w (target_of s.taken)
  pub count : 0 < left → length (onward w s.next) ≡ left

goes_at :
    {A : Type 0} → (w : Body A) (ss : List (Step A)) (k left : ℕ) (s : Step A) → Tail ss (all_steps w) → Flow w ss →
    slice_get ss k ≡ Some s → length ss ≡ suc k + left → Goes w s left
goes_at w [] k left s t f g e = let bad : ⊥ = cc in absurd bad
goes_at w (x ∷ ss) (suc k) left s t f g e =
    goes_at w ss k left s (tail_next x ss (all_steps w) t) f.1 g (omega (arith, e))
goes_at w (x ∷ ss) zero left s t f g e =
    let same : x ≡ s = cc in
    let u = tail_next x ss (all_steps w) t in
    subst (λ y. Goes w y left) same (record {
      next = ⊎_elim
          (λ r. subst (λ y. IsPoint w y.next) (sym r.0) (tail_past w w [] (ends w []) (all_steps w) (start_point w)))
          (λ r. subst (λ l. Tail l (all_steps w)) (sym r) u) f.0.next;
      target = f.0.target;
      count = λ l. ⊎_elim (λ r. let n = ap length r.1 in absurd (omega (arith, n, l, e)))
          (λ r. let n = ap length r in omega (arith, n, e)) f.0.next;
    })

goes : {A : Type 0} → (w : Body A) (k : ℕ) → k ≤ body_size w → Goes w (step_at w k) (body_size w - k)
goes w k l =
    let n = length-steps w w [] (ends w []) in
    goes_at w (all_steps w) k _ (step_at w k) (start_point w) (flow_all w) (step_is w k l) (omega (arith, n, l))

-- ---- the items of the steps

-- where jumps go, by number
abbrev labels : {A : Type 0} → Body A → List (Enclosing A) → List ℕ
labels w (InBlock r ∷ fs) = number w (at r fs) ∷ labels w fs
labels w (InCycle b r ∷ fs) = number w (at b (InCycle b r ∷ fs)) ∷ labels w fs
labels w _ = []

label_is :
    {A : Type 0} → (w : Body A) (k : ℕ) (fs : List (Enclosing A)) →
    slice_index (labels w fs) k ≡ number w (jump_point w k fs)
label_is w zero (InBlock r ∷ fs) = refl
label_is w (suc k) (InBlock r ∷ fs) = label_is w k fs
label_is w zero (InCycle b r ∷ fs) = refl
label_is w (suc k) (InCycle b r ∷ fs) = label_is w k fs
label_is w _ _ = grind arith

-- the items of a part of the whole that begins at number n, with these parts round it
abbrev items_here : {A : Type 0} → Body A → Body A → ℕ → List (Enclosing A) → List (Item A)
items_here w b n fs = items_at b n (labels w fs) (number w (leave_point w fs)) (number w (choice_point w fs))

number_is : {A : Type 0} → (w : Body A) (p : Point A) (n : ℕ) → n + ahead p ≡ body_size w → number w p ≡ n
number_is w p n e = omega (arith, e)

abbrev items_then : {X : Type 0} → List X → List (Option X) → List (Option X)
items_then [] os = os
items_then (i ∷ is) os = Some i ∷ items_then is os

then-append :
    {X : Type 0} → (is js : List X) (os : List (Option X)) → items_then (is ++ js) os ≡ items_then is (items_then js os)
then-append [] js os = refl
then-append (i ∷ is) js os = ap (λ l. Some i ∷ l) (then-append is js os)

abbrev numbered_all : {A : Type 0} → Body A → List (Step A) → List (Option (Item A))
numbered_all w [] = []
numbered_all w (s ∷ ss) = numbered w s.taken ∷ numbered_all w ss

items_are :
    {A : Type 0} → (w b : Body A) (n : ℕ) (fs : List (Enclosing A)) (ss : List (Step A)) →
    n + (body_size b + behind fs) ≡ body_size w →
    items_then (items_here w b n fs) (numbered_all w ss) ≡ numbered_all w (steps w b fs ss)
items_are w End n fs ss h = refl
items_are w (Operation a r) n fs ss h =
    ap (λ l. Some (Perform a) ∷ l) (items_are w r (suc n) fs ss (omega (arith, h)))
items_are w (LeaveLoop r) n fs ss h =
    ap (λ l. Some (ExitLoop (number w (leave_point w fs))) ∷ l) (items_are w r (suc n) fs ss (omega (arith, h)))
items_are w (Jump z j r) n fs ss h = grind (arith, items_are w r (suc n) fs ss (omega (arith, h)), label_is)
items_are w (Block b r) n fs ss h =
    let m = number_is w (at r fs) (n + body_size b) (omega (arith, h)) in
    grind (arith, items_are w b n (InBlock r ∷ fs), items_are w r (n + body_size b) fs ss, then-append, m)
items_are w (Cycle b r) n fs ss h =
    let m = number_is w (at b (InCycle b r ∷ fs)) n (omega (arith, h)) in
    grind (arith, items_are w b n (InCycle b r ∷ fs), items_are w r (n + body_size b) fs ss, then-append, m)
items_are w (Counted q b l r) n fs ss h =
    let e = suc (suc n + body_size b) in
    let k = number_is w (at b (InCounted b l r ∷ fs)) (suc n) (omega (arith, h)) in
    let m = number_is w (at r fs) e (omega (arith, h)) in
    grind (arith, items_are w b (suc n) (InCounted b l r ∷ fs), items_are w r e fs ss, then-append, k, m)
items_are w (Choice b r) n fs ss h =
    let m = number_is w (at r fs) (suc (n + body_size b)) (omega (arith, h)) in
    grind (arith, items_are w b n (InChoice r ∷ fs), items_are w r (suc (n + body_size b)) fs ss, then-append, m)
items_are w (Arm b r) n fs ss h =
    let e = suc (suc n + body_size b) in
    let m = number_is w (at r fs) e (omega (arith, h)) in
    grind (arith, items_are w b (suc n) (InArm r ∷ fs), items_are w r e fs ss, then-append, m)

get_item :
    {X : Type 0} → (is : List X) (os : List (Option X)) (k : ℕ) (o : Option X) →
    slice_get (items_then is (None ∷ os)) k ≡ Some o → k ≤ length is → slice_get is k ≡ o
get_item [] os zero o e l = cc
get_item (i ∷ is) os zero o e l = cc
get_item [] os (suc k) o e l = absurd (omega (arith, l))
get_item (i ∷ is) os (suc k) o e l = get_item is os k o e (omega (arith, l))

get_numbered :
    {A : Type 0} → (w : Body A) (ss : List (Step A)) (k : ℕ) (s : Step A) → slice_get ss k ≡ Some s →
    slice_get (numbered_all w ss) k ≡ Some (numbered w s.taken)
get_numbered w [] k s e = let bad : ⊥ = cc in absurd bad
get_numbered w (t ∷ ss) zero s e = let f : t ≡ s = cc in ap (λ u. Some (numbered w u.taken)) f
get_numbered w (t ∷ ss) (suc k) s e = get_numbered w ss k s e

-- ---- the laws

length-then : {X : Type 0} → (is : List X) (os : List (Option X)) → length (items_then is os) ≡ length is + length os
length-then [] os = omega arith
length-then (i ∷ is) os = omega (arith, length-then is os)

length-numbered : {A : Type 0} → (w : Body A) (ss : List (Step A)) → length (numbered_all w ss) ≡ length ss
length-numbered w [] = refl
length-numbered w (s ∷ ss) = ap suc (length-numbered w ss)

all_items : {A : Type 0} → (w : Body A) → items_then (items_of w) (None ∷ []) ≡ numbered_all w (all_steps w)
all_items w =
    ap (λ z. items_then (items_at w 0 [] z z) (None ∷ [])) (sym (number_is w (at w []) 0 (omega arith)))
    ∙ items_are w w 0 [] (ends w []) (omega arith)

size : {A : Type 0} → (w : Body A) → length (items_of w) ≡ body_size w
size w =
    let n = ap length (all_items w) in
    let m = length-steps w w [] (ends w []) in
    omega (arith, n, m, length-then (items_of w) (None ∷ []), length-numbered w (all_steps w))

item : {A : Type 0} → (w : Body A) (k : ℕ) → slice_get (items_of w) k ≡ numbered w (step_at w k).taken
item w k =
    ⊎_elim
    (λ l. get_item (items_of w) [] k _ (ap (λ os. slice_get os k) (all_items w)
    ∙ get_numbered w (all_steps w) k (step_at w k) (step_is w k (omega (arith, l)))) (omega (arith, l, size w)))
    (λ l. slice_get_past (items_of w) k (omega (arith, l, size w))
    ∙ ap (λ s. numbered w s.taken) (sym (get_return w w k [] l)))
    (cases_lt k (body_size w))

-- an item of a body is what its structure has there
pub runs_by_places : (A : Type 0) → RunsByPlaces A
runs_by_places A = record {
  item = item;
  size = size;
  next = λ b k l. let g = goes b k (omega (arith, l)) in let n = length-onward b (step_at b k).next in
      let c = g.count (omega (arith, l)) in omega (arith, n, c, l);
}

if_point : {A : Type 0} → (w : Body A) (o : Option (Point A)) (p : Point A) → IsPointIf w o → o ≡ Some p → IsPoint w p
if_point w o p h e = grind (arith)

run_point : {A : Type 0} → (w : Body A) (p : Point A) (ps : List (Point A)) → IsRun w (p ∷ ps) → IsPoint w p
run_point w p [] e = subst (IsPoint w) (sym e) (start_point w)
run_point w q (p ∷ ps) h =
    let t = run_point w p ps h.1 in
    let n = point_number w p t in
    let g = goes w (number w p) (omega (arith, n)) in
    let s = numbered_point w p t in
    ⊎_elim (λ e. subst (IsPoint w) (ap (λ x. x.next) (sym s) ∙ e) g.next) (λ e. if_point w _ q g.target (ap (λ x.
    target_of x.taken) (sym s) ∙ e)) h.0

-- a run by structure alone takes the items of its points' numbers
pub runs_by_points : (A : Type 0) → RunsByPoints A
runs_by_points A = record {
  begins = λ b. numbered_point b (at b []) (start_point b);
  next = λ b k l. numbered_point b (step_at b k).next (goes b k (omega (arith, l))).next;
  target = λ b k p l e. numbered_point b p (if_point b _ p (goes b k (omega (arith, l))).target e);
  reached = λ b p ps h. numbered_point b p (run_point b p ps h);
  item = λ b p ps h. item b (number b p)
      ∙ ap (λ s. numbered b s.taken) (sym (numbered_point b p (run_point b p ps h)));
}
