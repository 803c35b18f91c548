-- Items in code against items by number: each has the place of its target, or waits for it.
use Rattle.std.proofs.Common.{◌≡◌, ◌⊎◌, inl, inr, ⊎_elim, ℕ, ◌+◌, ◌<◌, ◌≤◌, zero, suc, Bool, true, false, List, [], ◌∷◌}
use Rattle.std.proofs.Common.{◌++◌, length, take, drop, refl, sym, ap, subst, ◌∙◌, arith}
use Rattle.std.specs.Prelude.{map, if◌then◌else◌}
use Rattle.std.proofs.lemmas.Bool.{ne_eqb}
use Rattle.of_code.specs.declared.item.Place.{Place}
use Rattle.of_code.specs.declared.item.Item.{Item}
use Rattle.of_code.specs.declared.item.Item.TheVariants.{EndCase, EndOf, Leave, Of}
use Rattle.of_code.specs.Items.{with_target as with_place}
use Rattle.of_control.specs.declared.opener.Opener.{Opener}
use Rattle.of_control.specs.declared.opener.Kind.{Kind}
use Rattle.of_control.specs.Openers.{is_case_sys, is_do_sys, is_of_sys, is_orig}
use Rattle.of_control.specs.Items.{Item as BodyItem, Perform, JumpTo, EnterLoop, RepeatLoop, ExitLoop, TestArm, EndArm}
use Rattle.of_control.specs.Items.{DropSelector}
use Rattle.of_control.specs.Compiling.{with_endof, with_leave, with_target, with_target_at}
use Rattle.of_compile.specs.declared.element.PlainItem.{PlainItem}
use Rattle.of_compile.specs.declared.element.PlainItem.TheVariants as P
use Rattle.of_compile.specs.declared.waiting.Waiting.TheVariants.{Leaves, Arms}
use Rattle.of_compile.specs.Elements.{branch_item, do_item, loop_item, nowhere, plain_item}
use Rattle.of_compile.specs.Coding.{aimed, place_of}
use Rattle.of_compile.specs.Layout.{code_item}
use Rattle.of_compile.proofs.Cells.{aim_nth}
use Rattle.of_compile.proofs.Among.{Among, Takes, has_item, has_waiting, item_do, item_of_part, item_orig, waiting_case}
use Rattle.of_compile.proofs.Among.{waiting_do}

-- an opener of a kind at item k, or before its end
abbrev pub OpenAt : (Kind → Bool) → List Opener → ℕ → Type 0
OpenAt p os k = (y : Opener) × Among os y × (p y.kind ≡ true) × (y.at ≡ k)

abbrev pub OpenUpTo : (Kind → Bool) → List Opener → ℕ → Type 0
OpenUpTo p os k = (y : Opener) × Among os y × (p y.kind ≡ true) × (y.at ≤ k)

-- no opener is item k
abbrev pub Shut : List Opener → ℕ → Type 0
Shut os k = (y : Opener) → Among os y → has_item y.kind ≡ true → y.at ≡ k → ⊥

-- the item `make` with the place of item t as target, or with none yet while W
abbrev pub Aims : (ℕ → ℕ) → (Place → Item) → Item → ℕ → Type 0 → Type 0
Aims cell make x t W = (x ≡ make (place_of (cell t))) ⊎ ((t ≡ 0) × (x ≡ make nowhere) × W)

-- the same, where 0 always says that it waits
abbrev pub Waits : (ℕ → ℕ) → (Place → Item) → Item → ℕ → Type 0 → Type 0
Waits cell make x t W =
    ((t ≡ 0 → ⊥) × (cell t ≡ 0 → ⊥) × (x ≡ make (place_of (cell t)))) ⊎ ((t ≡ 0) × (x ≡ make nowhere) × W)

-- item k with os open, and ws open to be waited for
abbrev pub Stands : (ℕ → ℕ) → List Opener → List Opener → ℕ → BodyItem PlainItem → Item → Type 0
Stands cell os ws k (Perform a) x = (x ≡ plain_item a) × Shut os k
Stands cell os ws k (JumpTo z t) x = Aims cell (branch_item z) x t (OpenAt is_orig os k)
Stands cell os ws k (EnterLoop q t) x = Aims cell (do_item q) x t (OpenAt is_do_sys os k)
Stands cell os ws k (RepeatLoop l t) x = (x ≡ loop_item l (place_of (cell t))) × Shut os k
Stands cell os ws k (ExitLoop t) x = Waits cell (λ to. Leave to) x t (OpenUpTo is_do_sys ws k)
Stands cell os ws k (TestArm t) x = Aims cell (λ to. Of to) x t (OpenAt is_of_sys os k)
Stands cell os ws k (EndArm t) x = Waits cell (λ to. EndOf to) x t (OpenUpTo is_case_sys ws k)
Stands cell os ws k DropSelector x = (x ≡ EndCase) × Shut os k

abbrev pub AllStand : (ℕ → ℕ) → List Opener → List Opener → ℕ → List (BodyItem PlainItem) → List Item → Type 0
AllStand cell os ws k [] [] = Unit {0}
AllStand cell os ws k [] (x ∷ xs) = ⊥
AllStand cell os ws k (i ∷ is) [] = ⊥
AllStand cell os ws k (i ∷ is) (x ∷ xs) = Stands cell os ws k i x × AllStand cell os ws (suc k) is xs

-- ---- other openers, the same items

-- no opener that is an item is lost, and new ones are at n or later
pub record Grows (os new : List Opener) (n : ℕ) : Type 0 where
  pub kept : (y : Opener) → Among os y → has_item y.kind ≡ true → Among new y
  pub later : (y : Opener) → Among new y → has_item y.kind ≡ true → Among os y ⊎ (n ≤ y.at)

aims_map :
    (cell : ℕ → ℕ) (make : Place → Item) (x : Item) (t : ℕ) (W V : Type 0) → (W → V) → Aims cell make x t W →
    Aims cell make x t V
aims_map cell make x t W V f s = ⊎_elim (λ e. inl e) (λ w. inr (w.0, w.1, f w.2)) s

waits_map :
    (cell : ℕ → ℕ) (make : Place → Item) (x : Item) (t : ℕ) (W V : Type 0) → (W → V) → Waits cell make x t W →
    Waits cell make x t V
waits_map cell make x t W V f s = ⊎_elim (λ e. inl e) (λ w. inr (w.0, w.1, f w.2)) s

grown_shut : (os new : List Opener) (n k : ℕ) → Grows os new n → k < n → Shut os k → Shut new k
grown_shut os new n k g l s y a h e = ⊎_elim (λ b. s y b h e) (λ le. omega (arith, l, le, e)) (g.later y a h)

grown_open :
    (p : Kind → Bool) (os new : List Opener) (n k : ℕ) → ((c : Kind) → p c ≡ true → has_item c ≡ true) →
    Grows os new n → OpenAt p os k → OpenAt p new k
grown_open p os new n k q g o = (o.0, g.kept o.0 o.1 (q o.0.kind o.2), o.2, o.3)

grown_item :
    (cell : ℕ → ℕ) (os new ws : List Opener) (n k : ℕ) (i : BodyItem PlainItem) (x : Item) → Grows os new n → k < n →
    Stands cell os ws k i x → Stands cell new ws k i x
grown_item cell os new ws n k (Perform a) x g l s = (s.0, grown_shut os new n k g l s.1)
grown_item cell os new ws n k (JumpTo z t) x g l s =
    aims_map cell (branch_item z) x t (OpenAt is_orig os k) (OpenAt is_orig new k)
    (grown_open is_orig os new n k item_orig g) s
grown_item cell os new ws n k (EnterLoop q t) x g l s =
    aims_map cell (do_item q) x t (OpenAt is_do_sys os k) (OpenAt is_do_sys new k)
    (grown_open is_do_sys os new n k item_do g) s
grown_item cell os new ws n k (RepeatLoop q t) x g l s = (s.0, grown_shut os new n k g l s.1)
grown_item cell os new ws n k (ExitLoop t) x g l s = s
grown_item cell os new ws n k (TestArm t) x g l s =
    aims_map cell (λ to. Of to) x t (OpenAt is_of_sys os k) (OpenAt is_of_sys new k)
    (grown_open is_of_sys os new n k item_of_part g) s
grown_item cell os new ws n k (EndArm t) x g l s = s
grown_item cell os new ws n k DropSelector x g l s = (s.0, grown_shut os new n k g l s.1)

pub grown :
    (cell : ℕ → ℕ) (os new ws : List Opener) (n k : ℕ) (is : List (BodyItem PlainItem)) (xs : List Item) →
    Grows os new n → k + length is ≤ n → AllStand cell os ws k is xs → AllStand cell new ws k is xs
grown cell os new ws n k [] [] g l s = tt
grown cell os new ws n k [] (x ∷ xs) g l s = s
grown cell os new ws n k (i ∷ is) [] g l s = s
grown cell os new ws n k (i ∷ is) (x ∷ xs) g l s = (
  grown_item cell os new ws n k i x g (omega (arith, l)) s.0,
  grown cell os new ws n (suc k) is xs g (omega (arith, l)) s.1,
)

-- none that is waited for is lost
abbrev pub KeepsWaiting : List Opener → List Opener → Type 0
KeepsWaiting ws new = (y : Opener) → Among ws y → has_waiting y.kind ≡ true → Among new y

waited_item :
    (cell : ℕ → ℕ) (os ws new : List Opener) (k : ℕ) (i : BodyItem PlainItem) (x : Item) → KeepsWaiting ws new →
    Stands cell os ws k i x → Stands cell os new k i x
waited_item cell os ws new k (Perform a) x g s = s
waited_item cell os ws new k (JumpTo z t) x g s = s
waited_item cell os ws new k (EnterLoop q t) x g s = s
waited_item cell os ws new k (RepeatLoop q t) x g s = s
waited_item cell os ws new k (ExitLoop t) x g s =
    waits_map cell (λ to. Leave to) x t (OpenUpTo is_do_sys ws k) (OpenUpTo is_do_sys new k)
    (λ o. (o.0, g o.0 o.1 (waiting_do o.0.kind o.2), o.2, o.3)) s
waited_item cell os ws new k (TestArm t) x g s = s
waited_item cell os ws new k (EndArm t) x g s =
    waits_map cell (λ to. EndOf to) x t (OpenUpTo is_case_sys ws k) (OpenUpTo is_case_sys new k)
    (λ o. (o.0, g o.0 o.1 (waiting_case o.0.kind o.2), o.2, o.3)) s
waited_item cell os ws new k DropSelector x g s = s

pub waited :
    (cell : ℕ → ℕ) (os ws new : List Opener) (k : ℕ) (is : List (BodyItem PlainItem)) (xs : List Item) →
    KeepsWaiting ws new → AllStand cell os ws k is xs → AllStand cell os new k is xs
waited cell os ws new k [] [] g s = tt
waited cell os ws new k [] (x ∷ xs) g s = s
waited cell os ws new k (i ∷ is) [] g s = s
waited cell os ws new k (i ∷ is) (x ∷ xs) g s =
    (waited_item cell os ws new k i x g s.0, waited cell os ws new (suc k) is xs g s.1)

-- ---- one item more

pub stand-append :
    (cell : ℕ → ℕ) (os ws : List Opener) (k : ℕ) (is : List (BodyItem PlainItem)) (xs : List Item)
    (i : BodyItem PlainItem) (x : Item) → AllStand cell os ws k is xs → Stands cell os ws (k + length is) i x →
    AllStand cell os ws k (is ++ i ∷ []) (xs ++ x ∷ [])
stand-append cell os ws k [] [] i x s h = (subst (λ n. Stands cell os ws n i x) (omega arith) h, tt)
stand-append cell os ws k [] (y ∷ xs) i x s h = absurd s
stand-append cell os ws k (j ∷ is) [] i x s h = absurd s
stand-append cell os ws k (j ∷ is) (y ∷ xs) i x s h =
    (s.0, stand-append cell os ws (suc k) is xs i x s.1 (subst (λ n. Stands cell os ws n i x) (omega arith) h))

-- ---- a target set where an opener is taken

branch_aimed : (z : Bool) (from to : Place) → with_place (branch_item z from) to ≡ branch_item z to
branch_aimed true from to = refl
branch_aimed false from to = refl

do_aimed : (z : Bool) (from to : Place) → with_place (do_item z from) to ≡ do_item z to
do_aimed true from to = refl
do_aimed false from to = refl

re_aimed :
    (cell : ℕ → ℕ) (make : Place → Item) (x : Item) (t v : ℕ) (W V : Type 0) →
    ((from to : Place) → with_place (make from) to ≡ make to) → Aims cell make x t W →
    Aims cell make (with_place x (place_of (cell v))) v V
re_aimed cell make x t v W V h s =
    let to = place_of (cell v) in
    ⊎_elim
    (λ e. inl (ap (λ y. with_place y to) e ∙ h (place_of (cell t)) to))
    (λ w. inl (ap (λ y. with_place y to) w.1 ∙ h nowhere to))
    s

re_waits :
    (cell : ℕ → ℕ) (make : Place → Item) (x : Item) (t v : ℕ) (W V : Type 0) →
    ((from to : Place) → with_place (make from) to ≡ make to) → (v ≡ 0 → ⊥) → (cell v ≡ 0 → ⊥) → Waits cell make x t W →
    Waits cell make (with_place x (place_of (cell v))) v V
re_waits cell make x t v W V h nv nc s =
    let to = place_of (cell v) in
    ⊎_elim
    (λ e. inl (nv, nc, ap (λ y. with_place y to) e.2 ∙ h (place_of (cell t)) to))
    (λ w. inl (nv, nc, ap (λ y. with_place y to) w.1 ∙ h nowhere to))
    s

-- the item of the opener that is taken
taken_item :
    (cell : ℕ → ℕ) (os rest ws : List Opener) (o : Opener) (k v : ℕ) (i : BodyItem PlainItem) (x : Item) → Among os o →
    has_item o.kind ≡ true → o.at ≡ k → (v ≡ 0 → ⊥) → (cell v ≡ 0 → ⊥) → Stands cell os ws k i x →
    Stands cell rest ws k (with_target v i) (with_place x (place_of (cell v)))
taken_item cell os rest ws o k v (Perform a) x am h e nv nc s = absurd (s.1 o am h e)
taken_item cell os rest ws o k v (JumpTo z t) x am h e nv nc s =
    re_aimed cell (branch_item z) x t v (OpenAt is_orig os k) (OpenAt is_orig rest k) (branch_aimed z) s
taken_item cell os rest ws o k v (EnterLoop q t) x am h e nv nc s =
    re_aimed cell (do_item q) x t v (OpenAt is_do_sys os k) (OpenAt is_do_sys rest k) (do_aimed q) s
taken_item cell os rest ws o k v (RepeatLoop l t) x am h e nv nc s = absurd (s.1 o am h e)
taken_item cell os rest ws o k v (ExitLoop t) x am h e nv nc s =
    re_waits cell (λ to. Leave to) x t v (OpenUpTo is_do_sys ws k) (OpenUpTo is_do_sys ws k) (λ from to. refl) nv nc s
taken_item cell os rest ws o k v (TestArm t) x am h e nv nc s =
    re_aimed cell (λ to. Of to) x t v (OpenAt is_of_sys os k) (OpenAt is_of_sys rest k) (λ from to. refl) s
taken_item cell os rest ws o k v (EndArm t) x am h e nv nc s =
    re_waits cell (λ to. EndOf to) x t v (OpenUpTo is_case_sys ws k) (OpenUpTo is_case_sys ws k) (λ from to. refl) nv nc
    s
taken_item cell os rest ws o k v DropSelector x am h e nv nc s = absurd (s.1 o am h e)

-- the other items
left_open :
    (p : Kind → Bool) (os rest : List Opener) (o : Opener) (k : ℕ) → Takes os rest o → (o.at ≡ k → ⊥) → OpenAt p os k →
    OpenAt p rest k
left_open p os rest o k t ne w =
    (w.0, ⊎_elim (λ e. absurd (ne (sym (ap (λ (y : Opener). y.at) e) ∙ w.3))) (λ a. a) (t.kept w.0 w.1), w.2, w.3)

left_shut : (os rest : List Opener) (o : Opener) (k : ℕ) → Takes os rest o → Shut os k → Shut rest k
left_shut os rest o k t s y a h e = s y (t.part y a) h e

left_item :
    (cell : ℕ → ℕ) (os rest ws : List Opener) (o : Opener) (k : ℕ) (i : BodyItem PlainItem) (x : Item) →
    Takes os rest o → (o.at ≡ k → ⊥) → Stands cell os ws k i x → Stands cell rest ws k i x
left_item cell os rest ws o k (Perform a) x t ne s = (s.0, left_shut os rest o k t s.1)
left_item cell os rest ws o k (JumpTo z u) x t ne s =
    aims_map cell (branch_item z) x u (OpenAt is_orig os k) (OpenAt is_orig rest k) (left_open is_orig os rest o k t ne)
    s
left_item cell os rest ws o k (EnterLoop q u) x t ne s =
    aims_map cell (do_item q) x u (OpenAt is_do_sys os k) (OpenAt is_do_sys rest k)
    (left_open is_do_sys os rest o k t ne) s
left_item cell os rest ws o k (RepeatLoop l u) x t ne s = (s.0, left_shut os rest o k t s.1)
left_item cell os rest ws o k (ExitLoop u) x t ne s = s
left_item cell os rest ws o k (TestArm u) x t ne s =
    aims_map cell (λ to. Of to) x u (OpenAt is_of_sys os k) (OpenAt is_of_sys rest k)
    (left_open is_of_sys os rest o k t ne) s
left_item cell os rest ws o k (EndArm u) x t ne s = s
left_item cell os rest ws o k DropSelector x t ne s = (s.0, left_shut os rest o k t s.1)

left_all :
    (cell : ℕ → ℕ) (os rest ws : List Opener) (o : Opener) (k : ℕ) (is : List (BodyItem PlainItem)) (xs : List Item) →
    Takes os rest o → o.at < k → AllStand cell os ws k is xs → AllStand cell rest ws k is xs
left_all cell os rest ws o k [] [] t l s = tt
left_all cell os rest ws o k [] (x ∷ xs) t l s = s
left_all cell os rest ws o k (i ∷ is) [] t l s = s
left_all cell os rest ws o k (i ∷ is) (x ∷ xs) t l s = (
  left_item cell os rest ws o k i x t (λ e. omega (arith, e, l)) s.0,
  left_all cell os rest ws o (suc k) is xs t (omega (arith, l)) s.1,
)

-- item j from k on is the opener's, and gets the target v
pub set_taken :
    (cell : ℕ → ℕ) (os rest ws : List Opener) (o : Opener) (j k v : ℕ) (is : List (BodyItem PlainItem))
    (xs : List Item) → Takes os rest o → has_item o.kind ≡ true → o.at ≡ k + j → j < length is → (v ≡ 0 → ⊥) →
    (cell v ≡ 0 → ⊥) → AllStand cell os ws k is xs →
    AllStand cell rest ws k (with_target_at j v is) (aim_nth j (place_of (cell v)) xs)
set_taken cell os rest ws o j k v [] [] t h e l nv nc s = absurd (omega (arith, l))
set_taken cell os rest ws o j k v [] (x ∷ xs) t h e l nv nc s = absurd s
set_taken cell os rest ws o j k v (i ∷ is) [] t h e l nv nc s = absurd s
set_taken cell os rest ws o zero k v (i ∷ is) (x ∷ xs) t h e l nv nc s =
    let here : o.at ≡ k = omega (arith, e) in (
      taken_item cell os rest ws o k v i x t.among h here nv nc s.0,
      left_all cell os rest ws o (suc k) is xs t (omega (arith, here)) s.1,
    )
set_taken cell os rest ws o (suc j) k v (i ∷ is) (x ∷ xs) t h e l nv nc s = (
  left_item cell os rest ws o k i x t (λ q. omega (arith, e, q)) s.0,
  set_taken cell os rest ws o j (suc k) v is xs t h (omega (arith, e)) (omega (arith, l)) nv nc s.1,
)

-- ---- all that wait get their target

-- what doesn't wait stays
plain_leaves : (a : PlainItem) (to : Place) → aimed Leaves to (plain_item a) ≡ plain_item a
plain_leaves (P.Operation xt) to = refl
plain_leaves (P.Literal v) to = refl
plain_leaves (P.String address n) to = refl
plain_leaves (P.Call xt) to = refl
plain_leaves (P.Store xt) to = refl

plain_arms : (a : PlainItem) (to : Place) → aimed Arms to (plain_item a) ≡ plain_item a
plain_arms (P.Operation xt) to = refl
plain_arms (P.Literal v) to = refl
plain_arms (P.String address n) to = refl
plain_arms (P.Call xt) to = refl
plain_arms (P.Store xt) to = refl

branch_leaves : (z : Bool) (from to : Place) → aimed Leaves to (branch_item z from) ≡ branch_item z from
branch_leaves true from to = refl
branch_leaves false from to = refl

branch_arms : (z : Bool) (from to : Place) → aimed Arms to (branch_item z from) ≡ branch_item z from
branch_arms true from to = refl
branch_arms false from to = refl

do_leaves : (z : Bool) (from to : Place) → aimed Leaves to (do_item z from) ≡ do_item z from
do_leaves true from to = refl
do_leaves false from to = refl

do_arms : (z : Bool) (from to : Place) → aimed Arms to (do_item z from) ≡ do_item z from
do_arms true from to = refl
do_arms false from to = refl

loop_leaves : (z : Bool) (from to : Place) → aimed Leaves to (loop_item z from) ≡ loop_item z from
loop_leaves true from to = refl
loop_leaves false from to = refl

loop_arms : (z : Bool) (from to : Place) → aimed Arms to (loop_item z from) ≡ loop_item z from
loop_arms true from to = refl
loop_arms false from to = refl

-- f leaves alone what `make` makes
aims_same :
    (cell : ℕ → ℕ) (make : Place → Item) (x : Item) (t : ℕ) (W : Type 0) (f : Item → Item) →
    ((from : Place) → f (make from) ≡ make from) → Aims cell make x t W → Aims cell make (f x) t W
aims_same cell make x t W f h s =
    ⊎_elim (λ e. inl (ap f e ∙ h (place_of (cell t)))) (λ w. inr (w.0, ap f w.1 ∙ h nowhere, w.2)) s

waits_same :
    (cell : ℕ → ℕ) (make : Place → Item) (x : Item) (t : ℕ) (W : Type 0) (f : Item → Item) →
    ((from : Place) → f (make from) ≡ make from) → Waits cell make x t W → Waits cell make (f x) t W
waits_same cell make x t W f h s =
    ⊎_elim (λ e. inl (e.0, e.1, ap f e.2 ∙ h (place_of (cell t)))) (λ w. inr (w.0, ap f w.1 ∙ h nowhere, w.2)) s

leave_set : (to from : Place) → (from.cell ≡ 0 → ⊥) → aimed Leaves to (Leave from) ≡ Leave from
leave_set to from ne = ap (λ b. if b then Leave to else Leave from) (ne_eqb from.cell 0 ne)

endof_set : (to from : Place) → (from.cell ≡ 0 → ⊥) → aimed Arms to (EndOf from) ≡ EndOf from
endof_set to from ne = ap (λ b. if b then EndOf to else EndOf from) (ne_eqb from.cell 0 ne)

-- those of one kind that are waited for stay
abbrev pub KeepsKind : (Kind → Bool) → List Opener → List Opener → Type 0
KeepsKind p ws new = (y : Opener) → Among ws y → p y.kind ≡ true → Among new y

leave_item :
    (cell : ℕ → ℕ) (os ws new : List Opener) (k v : ℕ) (i : BodyItem PlainItem) (x : Item) →
    KeepsKind is_case_sys ws new → (v ≡ 0 → ⊥) → (cell v ≡ 0 → ⊥) → Stands cell os ws k i x →
    Stands cell os new k (with_leave v i) (aimed Leaves (place_of (cell v)) x)
leave_item cell os ws new k v (Perform a) x g nv nc s =
    (ap (aimed Leaves (place_of (cell v))) s.0 ∙ plain_leaves a (place_of (cell v)), s.1)
leave_item cell os ws new k v (JumpTo z t) x g nv nc s =
    aims_same cell (branch_item z) x t (OpenAt is_orig os k) (aimed Leaves (place_of (cell v)))
    (λ from. branch_leaves z from (place_of (cell v))) s
leave_item cell os ws new k v (EnterLoop q t) x g nv nc s =
    aims_same cell (do_item q) x t (OpenAt is_do_sys os k) (aimed Leaves (place_of (cell v)))
    (λ from. do_leaves q from (place_of (cell v))) s
leave_item cell os ws new k v (RepeatLoop l t) x g nv nc s =
    (ap (aimed Leaves (place_of (cell v))) s.0 ∙ loop_leaves l (place_of (cell t)) (place_of (cell v)), s.1)
leave_item cell os ws new k v (ExitLoop zero) x g nv nc s =
    ⊎_elim (λ e. absurd (e.0 refl)) (λ w. inl (nv, nc, ap (aimed Leaves (place_of (cell v))) w.1)) s
leave_item cell os ws new k v (ExitLoop (suc t)) x g nv nc s =
    ⊎_elim (λ e. inl (
      e.0,
      e.1,
      ap (aimed Leaves (place_of (cell v))) e.2
          ∙ leave_set (place_of (cell v)) (place_of (cell (suc t))) e.1,
    )) (λ w. let bad = w.0 in absurd (omega (arith, bad)))
    s
leave_item cell os ws new k v (TestArm t) x g nv nc s =
    aims_same cell (λ to. Of to) x t (OpenAt is_of_sys os k) (aimed Leaves (place_of (cell v))) (λ from. refl) s
leave_item cell os ws new k v (EndArm t) x g nv nc s =
    waits_map cell (λ to. EndOf to) (aimed Leaves (place_of (cell v)) x) t (OpenUpTo is_case_sys ws k)
    (OpenUpTo is_case_sys new k) (λ o. (o.0, g o.0 o.1 o.2, o.2, o.3))
    (waits_same cell (λ to. EndOf to) x t (OpenUpTo is_case_sys ws k) (aimed Leaves (place_of (cell v))) (λ from. refl)
    s)
leave_item cell os ws new k v DropSelector x g nv nc s = (ap (aimed Leaves (place_of (cell v))) s.0, s.1)

endof_item :
    (cell : ℕ → ℕ) (os ws new : List Opener) (k v : ℕ) (i : BodyItem PlainItem) (x : Item) →
    KeepsKind is_do_sys ws new → (v ≡ 0 → ⊥) → (cell v ≡ 0 → ⊥) → Stands cell os ws k i x →
    Stands cell os new k (with_endof v i) (aimed Arms (place_of (cell v)) x)
endof_item cell os ws new k v (Perform a) x g nv nc s =
    (ap (aimed Arms (place_of (cell v))) s.0 ∙ plain_arms a (place_of (cell v)), s.1)
endof_item cell os ws new k v (JumpTo z t) x g nv nc s =
    aims_same cell (branch_item z) x t (OpenAt is_orig os k) (aimed Arms (place_of (cell v)))
    (λ from. branch_arms z from (place_of (cell v))) s
endof_item cell os ws new k v (EnterLoop q t) x g nv nc s =
    aims_same cell (do_item q) x t (OpenAt is_do_sys os k) (aimed Arms (place_of (cell v)))
    (λ from. do_arms q from (place_of (cell v))) s
endof_item cell os ws new k v (RepeatLoop l t) x g nv nc s =
    (ap (aimed Arms (place_of (cell v))) s.0 ∙ loop_arms l (place_of (cell t)) (place_of (cell v)), s.1)
endof_item cell os ws new k v (ExitLoop t) x g nv nc s =
    waits_map cell (λ to. Leave to) (aimed Arms (place_of (cell v)) x) t (OpenUpTo is_do_sys ws k)
    (OpenUpTo is_do_sys new k) (λ o. (o.0, g o.0 o.1 o.2, o.2, o.3))
    (waits_same cell (λ to. Leave to) x t (OpenUpTo is_do_sys ws k) (aimed Arms (place_of (cell v))) (λ from. refl) s)
endof_item cell os ws new k v (TestArm t) x g nv nc s =
    aims_same cell (λ to. Of to) x t (OpenAt is_of_sys os k) (aimed Arms (place_of (cell v))) (λ from. refl) s
endof_item cell os ws new k v (EndArm zero) x g nv nc s =
    ⊎_elim (λ e. absurd (e.0 refl)) (λ w. inl (nv, nc, ap (aimed Arms (place_of (cell v))) w.1)) s
endof_item cell os ws new k v (EndArm (suc t)) x g nv nc s =
    ⊎_elim (λ e. inl (
      e.0,
      e.1,
      ap (aimed Arms (place_of (cell v))) e.2
          ∙ endof_set (place_of (cell v)) (place_of (cell (suc t))) e.1,
    )) (λ w. let bad = w.0 in absurd (omega (arith, bad)))
    s
endof_item cell os ws new k v DropSelector x g nv nc s = (ap (aimed Arms (place_of (cell v))) s.0, s.1)

leave_all :
    (cell : ℕ → ℕ) (os ws new : List Opener) (k v : ℕ) (is : List (BodyItem PlainItem)) (xs : List Item) →
    KeepsKind is_case_sys ws new → (v ≡ 0 → ⊥) → (cell v ≡ 0 → ⊥) → AllStand cell os ws k is xs →
    AllStand cell os new k (map (with_leave v) is) (map (aimed Leaves (place_of (cell v))) xs)
leave_all cell os ws new k v [] [] g nv nc s = tt
leave_all cell os ws new k v [] (x ∷ xs) g nv nc s = s
leave_all cell os ws new k v (i ∷ is) [] g nv nc s = s
leave_all cell os ws new k v (i ∷ is) (x ∷ xs) g nv nc s =
    (leave_item cell os ws new k v i x g nv nc s.0, leave_all cell os ws new (suc k) v is xs g nv nc s.1)

endof_all :
    (cell : ℕ → ℕ) (os ws new : List Opener) (k v : ℕ) (is : List (BodyItem PlainItem)) (xs : List Item) →
    KeepsKind is_do_sys ws new → (v ≡ 0 → ⊥) → (cell v ≡ 0 → ⊥) → AllStand cell os ws k is xs →
    AllStand cell os new k (map (with_endof v) is) (map (aimed Arms (place_of (cell v))) xs)
endof_all cell os ws new k v [] [] g nv nc s = tt
endof_all cell os ws new k v [] (x ∷ xs) g nv nc s = s
endof_all cell os ws new k v (i ∷ is) [] g nv nc s = s
endof_all cell os ws new k v (i ∷ is) (x ∷ xs) g nv nc s =
    (endof_item cell os ws new k v i x g nv nc s.0, endof_all cell os ws new (suc k) v is xs g nv nc s.1)

-- an item before the opener that is taken doesn't wait for its end
early_up_to :
    (p : Kind → Bool) (ws new : List Opener) (o : Opener) (k : ℕ) → Takes ws new o → k < o.at → OpenUpTo p ws k →
    OpenUpTo p new k
early_up_to p ws new o k t l w =
    let le = w.3 in (
      w.0,
      ⊎_elim (λ e. absurd (let same : w.0.at ≡ o.at = ap (λ (y : Opener). y.at) e in omega (arith, same, le, l)))
          (λ a. a) (t.kept w.0 w.1),
      w.2,
      w.3,
    )

early_item :
    (cell : ℕ → ℕ) (os ws new : List Opener) (o : Opener) (k : ℕ) (i : BodyItem PlainItem) (x : Item) → Takes ws new o →
    k < o.at → Stands cell os ws k i x → Stands cell os new k i x
early_item cell os ws new o k (Perform a) x t l s = s
early_item cell os ws new o k (JumpTo z u) x t l s = s
early_item cell os ws new o k (EnterLoop q u) x t l s = s
early_item cell os ws new o k (RepeatLoop q u) x t l s = s
early_item cell os ws new o k (ExitLoop u) x t l s =
    waits_map cell (λ to. Leave to) x u (OpenUpTo is_do_sys ws k) (OpenUpTo is_do_sys new k)
    (early_up_to is_do_sys ws new o k t l) s
early_item cell os ws new o k (TestArm u) x t l s = s
early_item cell os ws new o k (EndArm u) x t l s =
    waits_map cell (λ to. EndOf to) x u (OpenUpTo is_case_sys ws k) (OpenUpTo is_case_sys new k)
    (early_up_to is_case_sys ws new o k t l) s
early_item cell os ws new o k DropSelector x t l s = s

-- from item j on, with the loop or case taken that begins there
pub leaves_from :
    (cell : ℕ → ℕ) (os ws new : List Opener) (o : Opener) (j k v : ℕ) (is : List (BodyItem PlainItem))
    (xs : List Item) → Takes ws new o → KeepsKind is_case_sys ws new → o.at ≡ k + j → (v ≡ 0 → ⊥) → (cell v ≡ 0 → ⊥) →
    AllStand cell os ws k is xs →
    AllStand cell os new k (take j is ++ map (with_leave v) (drop j is))
    (take j xs ++ map (aimed Leaves (place_of (cell v))) (drop j xs))
leaves_from cell os ws new o zero k v is xs t g e nv nc s = leave_all cell os ws new k v is xs g nv nc s
leaves_from cell os ws new o (suc j) k v [] [] t g e nv nc s = tt
leaves_from cell os ws new o (suc j) k v [] (x ∷ xs) t g e nv nc s = absurd s
leaves_from cell os ws new o (suc j) k v (i ∷ is) [] t g e nv nc s = absurd s
leaves_from cell os ws new o (suc j) k v (i ∷ is) (x ∷ xs) t g e nv nc s = (
  early_item cell os ws new o k i x t (omega (arith, e)) s.0,
  leaves_from cell os ws new o j (suc k) v is xs t g (omega (arith, e)) nv nc s.1,
)

pub arms_from :
    (cell : ℕ → ℕ) (os ws new : List Opener) (o : Opener) (j k v : ℕ) (is : List (BodyItem PlainItem))
    (xs : List Item) → Takes ws new o → KeepsKind is_do_sys ws new → o.at ≡ k + j → (v ≡ 0 → ⊥) → (cell v ≡ 0 → ⊥) →
    AllStand cell os ws k is xs →
    AllStand cell os new k (take j is ++ map (with_endof v) (drop j is))
    (take j xs ++ map (aimed Arms (place_of (cell v))) (drop j xs))
arms_from cell os ws new o zero k v is xs t g e nv nc s = endof_all cell os ws new k v is xs g nv nc s
arms_from cell os ws new o (suc j) k v [] [] t g e nv nc s = tt
arms_from cell os ws new o (suc j) k v [] (x ∷ xs) t g e nv nc s = absurd s
arms_from cell os ws new o (suc j) k v (i ∷ is) [] t g e nv nc s = absurd s
arms_from cell os ws new o (suc j) k v (i ∷ is) (x ∷ xs) t g e nv nc s = (
  early_item cell os ws new o k i x t (omega (arith, e)) s.0,
  arms_from cell os ws new o j (suc k) v is xs t g (omega (arith, e)) nv nc s.1,
)

-- ---- where nothing is open, each item has its place

none_aims :
    (cell : ℕ → ℕ) (make : Place → Item) (x : Item) (t : ℕ) (W : Type 0) → (W → ⊥) → Aims cell make x t W →
    x ≡ make (place_of (cell t))
none_aims cell make x t W h s = ⊎_elim (λ e. e) (λ w. absurd (h w.2)) s

none_waits :
    (cell : ℕ → ℕ) (make : Place → Item) (x : Item) (t : ℕ) (W : Type 0) → (W → ⊥) → Waits cell make x t W →
    x ≡ make (place_of (cell t))
none_waits cell make x t W h s = ⊎_elim (λ e. e.2) (λ w. absurd (h w.2)) s

closed_item :
    (cell : ℕ → ℕ) (k : ℕ) (i : BodyItem PlainItem) (x : Item) → Stands cell [] [] k i x →
    x ≡ code_item (λ n. place_of (cell n)) i
closed_item cell k (Perform a) x s = s.0
closed_item cell k (JumpTo z t) x s = none_aims cell (branch_item z) x t (OpenAt is_orig [] k) (λ w. w.1) s
closed_item cell k (EnterLoop q t) x s = none_aims cell (do_item q) x t (OpenAt is_do_sys [] k) (λ w. w.1) s
closed_item cell k (RepeatLoop l t) x s = s.0
closed_item cell k (ExitLoop t) x s = none_waits cell (λ to. Leave to) x t (OpenUpTo is_do_sys [] k) (λ w. w.1) s
closed_item cell k (TestArm t) x s = none_aims cell (λ to. Of to) x t (OpenAt is_of_sys [] k) (λ w. w.1) s
closed_item cell k (EndArm t) x s = none_waits cell (λ to. EndOf to) x t (OpenUpTo is_case_sys [] k) (λ w. w.1) s
closed_item cell k DropSelector x s = s.0

pub closed_items :
    (cell : ℕ → ℕ) (k : ℕ) (is : List (BodyItem PlainItem)) (xs : List Item) → AllStand cell [] [] k is xs →
    xs ≡ map (code_item (λ n. place_of (cell n))) is
closed_items cell k [] [] s = refl
closed_items cell k [] (x ∷ xs) s = absurd s
closed_items cell k (i ∷ is) [] s = absurd s
closed_items cell k (i ∷ is) (x ∷ xs) s =
    ap (λ y. y ∷ xs) (closed_item cell k i x s.0)
    ∙ ap (λ l. code_item (λ n. place_of (cell n)) i ∷ l) (closed_items cell (suc k) is xs s.1)

pub stand_length :
    (cell : ℕ → ℕ) (os ws : List Opener) (k : ℕ) (is : List (BodyItem PlainItem)) (xs : List Item) →
    AllStand cell os ws k is xs → length is ≡ length xs
stand_length cell os ws k [] [] s = refl
stand_length cell os ws k [] (x ∷ xs) s = absurd s
stand_length cell os ws k (i ∷ is) [] s = absurd s
stand_length cell os ws k (i ∷ is) (x ∷ xs) s = ap suc (stand_length cell os ws (suc k) is xs s.1)
