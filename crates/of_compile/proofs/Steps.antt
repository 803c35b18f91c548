-- What each element makes of the items in code and by number.
use Rattle.std.proofs.Common.{◌≡◌, inl, inr, ⊎_elim, ℕ, ◌+◌, ◌<◌, ◌≤◌, zero, suc, Bool, true, false, List, [], ◌∷◌}
use Rattle.std.proofs.Common.{◌++◌, length, take, drop, Option, Some, None, refl, sym, ap, subst, ◌∙◌, arith}
use Rattle.std.proofs.Common.{append_assoc, length-append}
use Rattle.std.specs.Prelude.{◌||◌, map, slice_get, remove}
use Rattle.std.specs.List.{list_any}
use Rattle.std.proofs.lemmas.List.{append-nil, length-map, map-append}
use Rattle.of_code.specs.declared.item.Place.{Place}
use Rattle.of_code.specs.declared.item.Item.{Item}
use Rattle.of_code.specs.declared.item.Item.TheVariants.{Branch as Branching, BranchIfZero, Call, Do as Doing}
use Rattle.of_code.specs.declared.item.Item.TheVariants.{EndCase as EndingCase, EndOf as EndingOf, Leave as Leaving}
use Rattle.of_code.specs.declared.item.Item.TheVariants.{Literal, Loop as Looping, Of as Testing, Operation, PlusLoop}
use Rattle.of_code.specs.declared.item.Item.TheVariants.{QuestionDo, Return, Store, String}
use Rattle.of_code.specs.Items.{cells_of, laid_out}
use Rattle.of_code.specs.Code.{Code, appended, retargeted}
use Rattle.of_control.specs.declared.opener.Opener.{Opener}
use Rattle.of_control.specs.declared.opener.Kind.{Kind}
use Rattle.of_control.specs.declared.opener.Kind.TheVariants.{CaseSys, Dest, DoSys, OfSys, Orig}
use Rattle.of_control.specs.Openers.{after_taking, any_do_sys, dest_index, is_case_sys, is_do_sys, is_of_sys, is_orig}
use Rattle.of_control.specs.Openers.{on_case, orig_index, rolled_in, taken_place, top_index}
use Rattle.of_control.specs.Element.{Element, Plain, Branch, Resolve, Mark, Back, Roll, Do, Loop, Leave, Case, Of}
use Rattle.of_control.specs.Element.{EndOf, EndCase}
use Rattle.of_control.specs.Items.{Item as BodyItem, Perform, JumpTo, EnterLoop, RepeatLoop, ExitLoop, TestArm, EndArm}
use Rattle.of_control.specs.Items.{DropSelector, is_item, one_if}
use Rattle.of_control.specs.Calls.{opener_at}
use Rattle.of_control.specs.Compiling.{compiled_next, from_item, with_endof, with_leave, with_target_at}
use Rattle.of_compile.specs.declared.element.PlainItem.{PlainItem}
use Rattle.of_compile.specs.declared.waiting.Waiting.TheVariants.{Leaves, Arms}
use Rattle.of_compile.specs.Elements.{branch_item, do_item, loop_item, nowhere, own_item, plain_item}
use Rattle.of_compile.specs.Coding.{aimed, aimed_from, code_after, place_of}
use Rattle.of_compile.specs.Layout.{laid_items, total}
use Rattle.of_compile.proofs.Lengths.{branch_size, loop_size}
use Rattle.of_compile.proofs.Cells.{aim_nth, aimed-from, laid_items-append, length-laid_items, set-laid, sizes-aim_nth}
use Rattle.of_compile.proofs.Cells.{sizes-aimed_from}
use Rattle.of_compile.proofs.Among.{Among, Takes, has_item, has_waiting, false_true, case_do_not, case_item_not}
use Rattle.of_compile.proofs.Among.{dest_kind, item_do, item_of_part, item_orig, of_waits_not, orig_kind}
use Rattle.of_compile.proofs.Among.{orig_waits_not, rolled, taken, takes, top_kind, waiting_case_not, orig_of_not}
use Rattle.of_compile.proofs.Standing.{AllStand, Stands, Aims, Waits, OpenAt, OpenUpTo, Shut, Grows, KeepsWaiting}
use Rattle.of_compile.proofs.Standing.{KeepsKind, arms_from, grown, leaves_from, set_taken, stand-append, stand_length}
use Rattle.of_compile.proofs.Standing.{waited}

-- code with these items after those of the base
abbrev pub over : Code → List Item → Code
over base xs = record base { cells = base.cells ++ laid_items xs }

abbrev pub size_of : Option Item → List ℕ
size_of None = []
size_of (Some item) = cells_of item ∷ []

abbrev pub Early : ℕ → List Opener → Type 0
Early n os = (y : Opener) → Among os y → y.at + one_if (has_item y.kind) ≤ n

abbrev pub Cased : List Opener → Type 0
Cased os = (y : Opener) × Among os y × (is_case_sys y.kind ≡ true)

-- each part of a case stands on a case
abbrev pub Based : List Opener → Type 0
Based [] = Unit {0}
Based (x ∷ os) = (is_of_sys x.kind ≡ true → Cased os) × Based os

-- the items so far, of which there are n, with what is open
pub record Now (base : Code) (cell : ℕ → ℕ) (n : ℕ) (is : List (BodyItem PlainItem)) (xs : List Item)
    (os : List Opener) : Type 0 where
  pub stand : AllStand cell os os 0 is xs
  pub count : length is ≡ n
  pub early : Early n os
  pub based : Based os
  pub places : (k : ℕ) → k ≤ n → cell k ≡ length base.cells + total (take k (map cells_of xs))

-- the same after an element
pub record Next (base : Code) (cell : ℕ → ℕ) (n : ℕ) (is : List (BodyItem PlainItem)) (xs : List Item)
    (e : Element PlainItem) (ai ac : Option ℕ) (new : List Opener) : Type 0 where
  pub after : List Item
  pub code : code_after e ac (over base xs) ≡ over base after
  pub stand : AllStand cell new new 0 (compiled_next e ai is) after
  pub sizes : map cells_of after ≡ map cells_of xs ++ size_of (own_item e)
  pub early : Early (n + one_if (is_item e)) new
  pub based : Based new

-- ---- lists and lengths

code-append : (base : Code) (xs : List Item) (x : Item) → appended (over base xs) x ≡ over base (xs ++ x ∷ [])
code-append base xs x =
    ap (λ l. record base { cells = l })
    (append_assoc base.cells (laid_items xs) (laid_out x)
    ∙ ap (λ l. base.cells ++ (laid_items xs ++ l)) (sym (append-nil (laid_out x)))
    ∙ ap (λ l. base.cells ++ l) (sym (laid_items-append xs (x ∷ []))))

sizes-append :
    (xs ys : List Item) (x y : Item) → map cells_of ys ≡ map cells_of xs → cells_of x ≡ cells_of y →
    map cells_of (ys ++ x ∷ []) ≡ map cells_of xs ++ cells_of y ∷ []
sizes-append xs ys x y e s =
    map-append cells_of ys (x ∷ []) ∙ ap (λ l. l ++ cells_of x ∷ []) e ∙ ap (λ n. map cells_of xs ++ n ∷ []) s

same_length : (xs ys : List Item) → map cells_of ys ≡ map cells_of xs → length ys ≡ length xs
same_length xs ys e = sym (length-map ys cells_of) ∙ ap length e ∙ length-map xs cells_of

code-set :
    (base : Code) (xs : List Item) (n a : ℕ) (to : Place) → n < length xs →
    a ≡ length base.cells + total (take n (map cells_of xs)) →
    retargeted (over base xs) (place_of a) to ≡ over base (aim_nth n to xs)
code-set base xs n a to l e = ap (λ k. record base { cells = k }) (set-laid base.cells xs n a to l e)

pub positive : (x : Item) → 1 ≤ cells_of x
positive (Operation xt) = omega arith
positive (Literal v) = omega arith
positive (String address n) = omega arith
positive (Call xt) = omega arith
positive (Store xt) = omega arith
positive (Branching to) = omega arith
positive (BranchIfZero to) = omega arith
positive (Doing to) = omega arith
positive (QuestionDo to) = omega arith
positive (Looping to) = omega arith
positive (PlusLoop to) = omega arith
positive (Leaving to) = omega arith
positive (Testing to) = omega arith
positive (EndingOf to) = omega arith
positive EndingCase = omega arith
positive Return = omega arith

take_all : (xs : List Item) → take (length xs) (map cells_of xs) ≡ map cells_of xs
take_all [] = refl
take_all (x ∷ xs) = ap (λ l. cells_of x ∷ l) (take_all xs)

some_cells : (xs : List Item) → 1 ≤ length xs → 1 ≤ total (map cells_of xs)
some_cells [] l = absurd (omega (arith, l))
some_cells (x ∷ xs) l = omega (arith, positive x)

-- where the next item begins
end_cell :
    {base : Code} {cell : ℕ → ℕ} {n : ℕ} {is : List (BodyItem PlainItem)} {xs : List Item} {os : List Opener} →
    Now base cell n is xs os → cell n ≡ length base.cells + total (map cells_of xs)
end_cell {base = base} {cell = cell} {n = n} {is = is} {xs = xs} {os = os} h =
    h.places n (omega arith)
    ∙ ap (λ k. length base.cells + total (take k (map cells_of xs)))
    (sym h.count ∙ stand_length cell os os 0 is xs h.stand)
    ∙ ap (λ l. length base.cells + total l) (take_all xs)

end_is :
    {base : Code} {cell : ℕ → ℕ} {n : ℕ} {is : List (BodyItem PlainItem)} {xs : List Item} {os : List Opener} →
    Now base cell n is xs os → length (over base xs).cells ≡ cell n
end_is {base = base} {xs = xs} h =
    length-append base.cells (laid_items xs)
    ∙ ap (λ k. length base.cells + k) (length-laid_items xs) ∙ sym (end_cell h)

-- ---- openers

early_more : (n m : ℕ) (os : List Opener) → n ≤ m → Early n os → Early m os
early_more n m os l h y a = let g = h y a in omega (arith, g, l)

early_part : (n : ℕ) (os rest : List Opener) → ((y : Opener) → Among rest y → Among os y) → Early n os → Early n rest
early_part n os rest part h y a = h y (part y a)

early_opened :
    (n m : ℕ) (x : Opener) (os : List Opener) → n ≤ m → x.at + one_if (has_item x.kind) ≤ m → Early n os →
    Early m (x ∷ os)
early_opened n m x os l g h y a =
    ⊎_elim (λ e. subst (λ (z : Opener). z.at + one_if (has_item z.kind) ≤ m) e g)
    (λ b. let q = h y b in omega (arith, q, l)) a

shut_from : (n k : ℕ) (os : List Opener) → n ≤ k → Early n os → Shut os k
shut_from n k os l h y a t e =
    let g : y.at + 1 ≤ n = subst (λ b. y.at + one_if b ≤ n) t (h y a) in
    omega (arith, g, l, e)

below : (n : ℕ) (os : List Opener) (y : Opener) → Early n os → Among os y → y.at ≤ n
below n os y h a = let g = h y a in omega (arith, g)

item_below : (n : ℕ) (os : List Opener) (y : Opener) → Early n os → Among os y → has_item y.kind ≡ true → y.at < n
item_below n os y h a t = let g : y.at + 1 ≤ n = subst (λ b. y.at + one_if b ≤ n) t (h y a) in omega (arith, g)

cased_without :
    (os rest : List Opener) (x : Opener) → Takes os rest x → (is_case_sys x.kind ≡ true → ⊥) → Cased os → Cased rest
cased_without os rest x t ne w = (
  w.0,
  ⊎_elim (λ e. absurd (ne (sym (ap (λ (y : Opener). is_case_sys y.kind) e) ∙ w.2))) (λ a. a) (t.kept w.0 w.1),
  w.2,
)

based_without :
    (os : List Opener) (i : ℕ) (x : Opener) → slice_get os i ≡ Some x → (is_case_sys x.kind ≡ true → ⊥) → Based os →
    Based (remove os i)
based_without [] i x e ne b = let bad : ⊥ = cc in absurd bad
based_without (z ∷ os) zero x e ne b = b.1
based_without (z ∷ os) (suc i) x e ne b =
    (λ h. cased_without os (remove os i) x (takes os i x e) ne (b.0 h), based_without os i x e ne b.1)

-- the latest taken
based_top :
    (os : List Opener) (x : Opener) → slice_get os 0 ≡ Some x → Based os →
    ((is_of_sys x.kind ≡ true → Cased (remove os 0))) × Based (remove os 0)
based_top [] x e b = let bad : ⊥ = cc in absurd bad
based_top (z ∷ os) x e b = let same : z ≡ x = cc in (λ h. b.0 (ap (λ (y : Opener). is_of_sys y.kind) same ∙ h), b.1)

grows_opened : (n : ℕ) (x : Opener) (os : List Opener) → x.at ≡ n → Grows os (x ∷ os) n
grows_opened n x os e = record {
  kept = λ y a h. inr a;
  later =
      λ y a h. ⊎_elim (λ g. let s : x.at ≡ y.at = ap (λ (z : Opener). z.at) g in inr (omega (arith, s, e))) (λ b. inl b)
      a;
}

grows_taken : (n : ℕ) (os rest : List Opener) (x : Opener) → Takes os rest x → has_item x.kind ≡ false → Grows os rest n
grows_taken n os rest x t f = record {
  kept =
      λ y a h. ⊎_elim (λ e. false_true (has_item y.kind) (ap (λ (z : Opener). has_item z.kind) e ∙ f) h) (λ b. b)
      (t.kept y a);
  later = λ y a h. inl (t.part y a);
}

grows_same : (n : ℕ) (os : List Opener) → Grows os os n
grows_same n os = record { kept = λ y a h. a; later = λ y a h. inl a }

keeps_taken : (os rest : List Opener) (x : Opener) → Takes os rest x → has_waiting x.kind ≡ false → KeepsWaiting os rest
keeps_taken os rest x t f y a h =
    ⊎_elim (λ e. false_true (has_waiting y.kind) (ap (λ (z : Opener). has_waiting z.kind) e ∙ f) h) (λ b. b)
    (t.kept y a)

keeps_kind :
    (p : Kind → Bool) (os rest : List Opener) (x : Opener) → Takes os rest x → (p x.kind ≡ true → ⊥) →
    KeepsKind p os rest
keeps_kind p os rest x t f y a h =
    ⊎_elim (λ e. absurd (f (sym (ap (λ (z : Opener). p z.kind) e) ∙ h))) (λ b. b) (t.kept y a)

-- ---- an item appended, nothing else changed in code

appends :
    {base : Code} {cell : ℕ → ℕ} {n : ℕ} {is : List (BodyItem PlainItem)} {xs : List Item} {os : List Opener}
    (new : List Opener) (i : BodyItem PlainItem) (x : Item) → Now base cell n is xs os → Grows os new n →
    KeepsWaiting os new → Stands cell new new n i x → AllStand cell new new 0 (is ++ i ∷ []) (xs ++ x ∷ [])
appends {cell = cell} {n = n} {is = is} {xs = xs} {os = os} new i x h g k s =
    stand-append cell new new 0 is xs i x
    (waited cell new os new 0 is xs k (grown cell os new os n 0 is xs g (let c = h.count in omega (arith, c)) h.stand))
    (subst (λ m. Stands cell new new m i x) (let c = h.count in omega (arith, c)) s)

pub next_plain :
    (base : Code) (cell : ℕ → ℕ) (n : ℕ) (is : List (BodyItem PlainItem)) (xs : List Item) (os : List Opener)
    (k : PlainItem) (ai ac : Option ℕ) → Now base cell n is xs os → Next base cell n is xs (Plain k) ai ac os
next_plain base cell n is xs os k ai ac h = record {
  after = xs ++ plain_item k ∷ [];
  code = code-append base xs (plain_item k);
  stand =
      appends os (Perform k) (plain_item k) h (grows_same n os) (λ y a w. a)
      (refl, shut_from n n os (omega arith) h.early);
  sizes = sizes-append xs xs (plain_item k) (plain_item k) refl refl;
  early = early_more n (n + 1) os (omega arith) h.early;
  based = h.based;
}

-- an opener that is an item
opens :
    {base : Code} {cell : ℕ → ℕ} {n : ℕ} {is : List (BodyItem PlainItem)} {xs : List Item} {os : List Opener} (k : Kind)
    (i : BodyItem PlainItem) (x : Item) → Now base cell n is xs os →
    Stands cell (opener_at n k ∷ os) (opener_at n k ∷ os) n i x →
    AllStand cell (opener_at n k ∷ os) (opener_at n k ∷ os) 0 (is ++ i ∷ []) (xs ++ x ∷ [])
opens {n = n} {os = os} k i x h s = appends (opener_at n k ∷ os) i x h (grows_opened n (opener_at n k) os refl)
    (λ y a w. inr a) s

of_not_orig : (t : Option ℕ) → is_of_sys (Orig t) ≡ true → ⊥
of_not_orig t e = cc

of_not_dest : (t : Option ℕ) → is_of_sys (Dest t) ≡ true → ⊥
of_not_dest t e = cc

of_not_do : is_of_sys DoSys ≡ true → ⊥
of_not_do e = cc

of_not_case : is_of_sys CaseSys ≡ true → ⊥
of_not_case e = cc

pub next_branch :
    (base : Code) (cell : ℕ → ℕ) (n : ℕ) (is : List (BodyItem PlainItem)) (xs : List Item) (os : List Opener) (z : Bool)
    (t : Option ℕ) (ai ac : Option ℕ) → Now base cell n is xs os →
    Next base cell n is xs (Branch z t) ai ac (opener_at n (Orig t) ∷ os)
next_branch base cell n is xs os z t ai ac h = record {
  after = xs ++ branch_item z nowhere ∷ [];
  code = code-append base xs (branch_item z nowhere);
  stand =
      opens (Orig t) (JumpTo z 0) (branch_item z nowhere) h
      (inr (refl, refl, (opener_at n (Orig t), inl refl, refl, refl)));
  sizes = sizes-append xs xs (branch_item z nowhere) (branch_item z nowhere) refl refl;
  early = early_opened n (n + 1) (opener_at n (Orig t)) os (omega arith) (omega arith) h.early;
  based = (λ e. absurd (of_not_orig t e), h.based);
}

pub next_do :
    (base : Code) (cell : ℕ → ℕ) (n : ℕ) (is : List (BodyItem PlainItem)) (xs : List Item) (os : List Opener) (q : Bool)
    (ai ac : Option ℕ) → Now base cell n is xs os → Next base cell n is xs (Do q) ai ac (opener_at n DoSys ∷ os)
next_do base cell n is xs os q ai ac h = record {
  after = xs ++ do_item q nowhere ∷ [];
  code = code-append base xs (do_item q nowhere);
  stand =
      opens DoSys (EnterLoop q 0) (do_item q nowhere) h (inr (refl, refl, (opener_at n DoSys, inl refl, refl, refl)));
  sizes = sizes-append xs xs (do_item q nowhere) (do_item q nowhere) refl refl;
  early = early_opened n (n + 1) (opener_at n DoSys) os (omega arith) (omega arith) h.early;
  based = (λ e. absurd (of_not_do e), h.based);
}

case_on_top : (os : List Opener) → on_case os ≡ true → Cased os
case_on_top [] e = let bad : ⊥ = cc in absurd bad
case_on_top (x ∷ os) e = (x, inl refl, e)

pub next_of :
    (base : Code) (cell : ℕ → ℕ) (n : ℕ) (is : List (BodyItem PlainItem)) (xs : List Item) (os : List Opener)
    (ai ac : Option ℕ) → on_case os ≡ true → Now base cell n is xs os →
    Next base cell n is xs Of ai ac (opener_at n OfSys ∷ os)
next_of base cell n is xs os ai ac c h = record {
  after = xs ++ Testing nowhere ∷ [];
  code = code-append base xs (Testing nowhere);
  stand = opens OfSys (TestArm 0) (Testing nowhere) h (inr (refl, refl, (opener_at n OfSys, inl refl, refl, refl)));
  sizes = sizes-append xs xs (Testing nowhere) (Testing nowhere) refl refl;
  early = early_opened n (n + 1) (opener_at n OfSys) os (omega arith) (omega arith) h.early;
  based = (λ e. case_on_top os c, h.based);
}

-- an opener that is no item
stays :
    {base : Code} {cell : ℕ → ℕ} {n : ℕ} {is : List (BodyItem PlainItem)} {xs : List Item} {os : List Opener}
    (new : List Opener) → Now base cell n is xs os → Grows os new n → KeepsWaiting os new →
    AllStand cell new new 0 is xs
stays {cell = cell} {n = n} {is = is} {xs = xs} {os = os} new h g k =
    waited cell new os new 0 is xs k (grown cell os new os n 0 is xs g (let c = h.count in omega (arith, c)) h.stand)

pub next_mark :
    (base : Code) (cell : ℕ → ℕ) (n : ℕ) (is : List (BodyItem PlainItem)) (xs : List Item) (os : List Opener)
    (p : Option ℕ) (ai ac : Option ℕ) → Now base cell n is xs os →
    Next base cell n is xs (Mark p) ai ac (opener_at n (Dest p) ∷ os)
next_mark base cell n is xs os p ai ac h = record {
  after = xs;
  code = refl;
  stand = stays (opener_at n (Dest p) ∷ os) h (grows_opened n (opener_at n (Dest p)) os refl) (λ y a w. inr a);
  sizes = sym (append-nil (map cells_of xs));
  early = early_opened n (n + 0) (opener_at n (Dest p)) os (omega arith) (omega arith) h.early;
  based = (λ e. absurd (of_not_dest p e), h.based);
}

pub next_case :
    (base : Code) (cell : ℕ → ℕ) (n : ℕ) (is : List (BodyItem PlainItem)) (xs : List Item) (os : List Opener)
    (ai ac : Option ℕ) → Now base cell n is xs os → Next base cell n is xs Case ai ac (opener_at n CaseSys ∷ os)
next_case base cell n is xs os ai ac h = record {
  after = xs;
  code = refl;
  stand = stays (opener_at n CaseSys ∷ os) h (grows_opened n (opener_at n CaseSys) os refl) (λ y a w. inr a);
  sizes = sym (append-nil (map cells_of xs));
  early = early_opened n (n + 0) (opener_at n CaseSys) os (omega arith) (omega arith) h.early;
  based = (λ e. absurd (of_not_case e), h.based);
}

roll_kept :
    (os new rest : List Opener) (x : Opener) → new ≡ x ∷ rest → Takes os rest x → (y : Opener) → Among os y →
    Among new y
roll_kept os new rest x e t y a = subst (λ l. Among l y) (sym e) (⊎_elim (λ g. inl (sym g)) (λ b. inr b) (t.kept y a))

roll_part :
    (os new rest : List Opener) (x : Opener) → new ≡ x ∷ rest → Takes os rest x → (y : Opener) → Among new y →
    Among os y
roll_part os new rest x e t y a =
    ⊎_elim (λ g. subst (λ z. Among os z) g t.among) (λ b. t.part y b) (subst (λ l. Among l y) e a)

pub next_roll :
    (base : Code) (cell : ℕ → ℕ) (n : ℕ) (is : List (BodyItem PlainItem)) (xs : List Item) (os new : List Opener)
    (j : ℕ) (ai ac : Option ℕ) → rolled_in j (Some os) ≡ Some new → Now base cell n is xs os →
    Next base cell n is xs (Roll j) ai ac new
next_roll base cell n is xs os new j ai ac e h =
    let w = rolled j os new e in
    let x = w.0 in
    let t = takes os j x w.1 in
    let kept = roll_kept os new (remove os j) x w.2 t in
    let part = roll_part os new (remove os j) x w.2 t in
    let no_case : is_case_sys x.kind ≡ true → ⊥ = waiting_case_not x.kind (orig_waits_not x.kind w.3) in
    let g : Grows os new n = record { kept = λ y a i. kept y a; later = λ y a i. inl (part y a) } in
    record {
      after = xs;
      code = refl;
      stand = stays new h g (λ y a i. kept y a);
      sizes = sym (append-nil (map cells_of xs));
      early = early_more n (n + 0) new (omega arith) (early_part n os new part h.early);
      based = subst Based (sym w.2) (λ o. absurd (orig_of_not x.kind w.3 o), based_without os j x w.1 no_case h.based);
    }

do_found :
    (b : Bool) (x : Opener) (os : List Opener) → is_do_sys x.kind ≡ b →
    (b || list_any (λ (z : Opener). is_do_sys z.kind) os) ≡ true →
    (list_any (λ (z : Opener). is_do_sys z.kind) os ≡ true → (y : Opener) × Among os y × (is_do_sys y.kind ≡ true)) →
    (y : Opener) × Among (x ∷ os) y × (is_do_sys y.kind ≡ true)
do_found true x os k q r = (x, inl refl, k)
do_found false x os k q r = let w = r q in (w.0, inr w.1, w.2)

any_do : (os : List Opener) → any_do_sys os ≡ true → (y : Opener) × Among os y × (is_do_sys y.kind ≡ true)
any_do [] e = let bad : ⊥ = cc in absurd bad
any_do (x ∷ os) e = do_found (is_do_sys x.kind) x os refl e (any_do os)

pub next_leave :
    (base : Code) (cell : ℕ → ℕ) (n : ℕ) (is : List (BodyItem PlainItem)) (xs : List Item) (os : List Opener)
    (ai ac : Option ℕ) → any_do_sys os ≡ true → Now base cell n is xs os → Next base cell n is xs Leave ai ac os
next_leave base cell n is xs os ai ac d h =
    let w = any_do os d in
    record {
      after = xs ++ Leaving nowhere ∷ [];
      code = code-append base xs (Leaving nowhere);
      stand =
          appends os (ExitLoop 0) (Leaving nowhere) h (grows_same n os) (λ y a i. a)
          (inr (refl, refl, (w.0, w.1, w.2, below n os w.0 h.early w.1)));
      sizes = sizes-append xs xs (Leaving nowhere) (Leaving nowhere) refl refl;
      early = early_more n (n + 1) os (omega arith) h.early;
      based = h.based;
    }

-- ---- closers

pub next_back :
    (base : Code) (cell : ℕ → ℕ) (n : ℕ) (is : List (BodyItem PlainItem)) (xs : List Item) (os new : List Opener)
    (z : Bool) (t : Option ℕ) (j : ℕ) → after_taking (dest_index t) (Some os) ≡ Some new →
    taken_place (dest_index t) (Some os) ≡ Some j → Now base cell n is xs os →
    Next base cell n is xs (Back z t) (Some j) (Some (cell j)) new
next_back base cell n is xs os new z t j e a h =
    let w = taken (dest_index t) os new j e a in
    let x = w.opener in
    let k = dest_kind t os w.index x w.found w.get in
    let tk = subst (λ l. Takes os l x) (sym w.left) (takes os w.index x w.get) in
    let target = branch_item z (place_of (cell j)) in
    record {
      after = xs ++ target ∷ [];
      code = code-append base xs target;
      stand =
          appends new (JumpTo z j) target h (grows_taken n os new x tk k.0) (keeps_taken os new x tk k.1) (inl refl);
      sizes = sizes-append xs xs target (branch_item z nowhere) refl (branch_size z (place_of (cell j)));
      early = early_more n (n + 1) new (omega arith) (early_part n os new tk.part h.early);
      based = subst Based (sym w.left) (based_without os w.index x w.get (waiting_case_not x.kind k.1) h.based);
    }

pub next_resolve :
    (base : Code) (cell : ℕ → ℕ) (n : ℕ) (is : List (BodyItem PlainItem)) (xs : List Item) (os new : List Opener)
    (p : Option ℕ) (j : ℕ) → after_taking (orig_index p) (Some os) ≡ Some new →
    taken_place (orig_index p) (Some os) ≡ Some j → Now base cell n is xs os →
    Next base cell n is xs (Resolve p) (Some j) (Some (cell j)) new
next_resolve base cell n is xs os new p j e a h =
    let w = taken (orig_index p) os new j e a in
    let x = w.opener in
    let at = w.at in
    let k = orig_kind p os w.index x w.found w.get in
    let item = item_orig x.kind k in
    let waits = orig_waits_not x.kind k in
    let tk = subst (λ l. Takes os l x) (sym w.left) (takes os w.index x w.get) in
    let lt = item_below n os x h.early tk.among item in
    let len = stand_length cell os os 0 is xs h.stand in
    let c = h.count in
    let end = end_cell h in
    let pos = some_cells xs (omega (arith, len, c, lt)) in
    let stands = set_taken cell os new os x j 0 n is xs tk item (omega (arith, at)) (omega (arith, lt, at, c))
    (λ z. omega (arith, z, lt)) (λ z. omega (arith, z, end, pos)) h.stand in
    record {
      after = aim_nth j (place_of (cell n)) xs;
      code =
          ap (λ m. retargeted (over base xs) (place_of (cell j)) (place_of m)) (end_is h)
          ∙ code-set base xs j (cell j) (place_of (cell n)) (omega (arith, lt, at, len, c))
          (h.places j (omega (arith, lt, at)));
      stand =
          subst (λ m. AllStand cell new new 0 (with_target_at j m is) (aim_nth j (place_of (cell n)) xs)) (sym c)
          (waited cell new os new 0 (with_target_at j n is) (aim_nth j (place_of (cell n)) xs)
          (keeps_taken os new x tk waits) stands);
      sizes = sizes-aim_nth j (place_of (cell n)) xs ∙ sym (append-nil (map cells_of xs));
      early = early_more n (n + 0) new (omega arith) (early_part n os new tk.part h.early);
      based = subst Based (sym w.left) (based_without os w.index x w.get (waiting_case_not x.kind waits) h.based);
    }

-- what is the latest, taken
record Top (p : Kind → Bool) (os new : List Opener) (j : ℕ) : Type 0 where
  pub opener : Opener
  pub kind : p opener.kind ≡ true
  pub at : opener.at ≡ j
  pub get : slice_get os 0 ≡ Some opener
  pub left : new ≡ remove os 0
  pub takes : Takes os new opener

top :
    (p : Kind → Bool) (os new : List Opener) (j : ℕ) → after_taking (top_index p) (Some os) ≡ Some new →
    taken_place (top_index p) (Some os) ≡ Some j → Top p os new j
top p os new j e a =
    let w = taken (top_index p) os new j e a in
    let k = top_kind p os w.index w.opener w.found w.get in
    let g : slice_get os 0 ≡ Some w.opener = ap (slice_get os) (sym k.1) ∙ w.get in
    let l : new ≡ remove os 0 = w.left ∙ ap (remove os) k.1 in
    record {
      opener = w.opener;
      kind = k.0;
      at = w.at;
      get = g;
      left = l;
      takes = subst (λ m. Takes os m w.opener)
          (sym l) (takes os 0 w.opener g);
    }

do_waits_case : (k : Kind) → is_do_sys k ≡ true → is_case_sys k ≡ true → ⊥
do_waits_case k e f = case_do_not k f e

-- the item of a `do`, an `of` or a branch takes two cells
two_branch : (z : Bool) (to : Place) → cells_of (branch_item z to) ≡ 2
two_branch true to = refl
two_branch false to = refl

two_do : (z : Bool) (to : Place) → cells_of (do_item z to) ≡ 2
two_do true to = refl
two_do false to = refl

two_aims :
    (cell : ℕ → ℕ) (make : Place → Item) (x : Item) (t : ℕ) (W : Type 0) → ((to : Place) → cells_of (make to) ≡ 2) →
    Aims cell make x t W → cells_of x ≡ 2
two_aims cell make x t W h s = ⊎_elim (λ e. ap cells_of e ∙ h (place_of (cell t))) (λ w. ap cells_of w.1 ∙ h nowhere) s

two_waits :
    (cell : ℕ → ℕ) (make : Place → Item) (x : Item) (t : ℕ) (W : Type 0) → ((to : Place) → cells_of (make to) ≡ 2) →
    Waits cell make x t W → cells_of x ≡ 2
two_waits cell make x t W h s =
    ⊎_elim (λ e. ap cells_of e.2 ∙ h (place_of (cell t))) (λ w. ap cells_of w.1 ∙ h nowhere) s

two_item :
    (cell : ℕ → ℕ) (os ws : List Opener) (o : Opener) (k : ℕ) (i : BodyItem PlainItem) (x : Item) → Among os o →
    has_item o.kind ≡ true → o.at ≡ k → Stands cell os ws k i x → cells_of x ≡ 2
two_item cell os ws o k (Perform a) x am h e s = absurd (s.1 o am h e)
two_item cell os ws o k (JumpTo z t) x am h e s =
    two_aims cell (branch_item z) x t (OpenAt is_orig os k) (two_branch z) s
two_item cell os ws o k (EnterLoop q t) x am h e s = two_aims cell (do_item q) x t (OpenAt is_do_sys os k) (two_do q) s
two_item cell os ws o k (RepeatLoop l t) x am h e s = absurd (s.1 o am h e)
two_item cell os ws o k (ExitLoop t) x am h e s =
    two_waits cell (λ to. Leaving to) x t (OpenUpTo is_do_sys ws k) (λ to. refl) s
two_item cell os ws o k (TestArm t) x am h e s =
    two_aims cell (λ to. Testing to) x t (OpenAt is_of_sys os k) (λ to. refl) s
two_item cell os ws o k (EndArm t) x am h e s =
    two_waits cell (λ to. EndingOf to) x t (OpenUpTo is_case_sys ws k) (λ to. refl) s
two_item cell os ws o k DropSelector x am h e s = absurd (s.1 o am h e)

two_cells :
    (cell : ℕ → ℕ) (os ws : List Opener) (o : Opener) (j k : ℕ) (is : List (BodyItem PlainItem)) (xs : List Item) →
    Among os o → has_item o.kind ≡ true → o.at ≡ k + j → j < length is → AllStand cell os ws k is xs →
    total (take (suc j) (map cells_of xs)) ≡ total (take j (map cells_of xs)) + 2
two_cells cell os ws o j k [] [] am h e l s = absurd (omega (arith, l))
two_cells cell os ws o j k [] (x ∷ xs) am h e l s = absurd s
two_cells cell os ws o j k (i ∷ is) [] am h e l s = absurd s
two_cells cell os ws o zero k (i ∷ is) (x ∷ xs) am h e l s =
    let two = two_item cell os ws o k i x am h (omega (arith, e)) s.0 in omega (arith, two)
two_cells cell os ws o (suc j) k (i ∷ is) (x ∷ xs) am h e l s =
    let rest = two_cells cell os ws o j (suc k) is xs am h (omega (arith, e)) (omega (arith, l)) s.1 in
    omega (arith, rest)

item_length :
    (cell : ℕ → ℕ) (os ws : List Opener) (is : List (BodyItem PlainItem)) (xs ys : List Item) (n : ℕ) →
    AllStand cell os ws 0 is ys → map cells_of ys ≡ map cells_of xs → length xs ≡ n → length is ≡ n
item_length cell os ws is xs ys n s e l = stand_length cell os ws 0 is ys s ∙ same_length xs ys e ∙ l

-- the code of a loop whose end is m
abbrev code_loop : Code → List Item → Bool → ℕ → ℕ → Code
code_loop base xs l a m =
    appended (aimed_from Leaves (place_of a) (place_of m) (retargeted (over base xs) (place_of a) (place_of m)))
    (loop_item l (place_of (a + 2)))

pub next_loop :
    (base : Code) (cell : ℕ → ℕ) (n : ℕ) (is : List (BodyItem PlainItem)) (xs : List Item) (os new : List Opener)
    (l : Bool) (j : ℕ) → cell (suc n) ≡ cell n + 2 → after_taking (top_index is_do_sys) (Some os) ≡ Some new →
    taken_place (top_index is_do_sys) (Some os) ≡ Some j → Now base cell n is xs os →
    Next base cell n is xs (Loop l) (Some j) (Some (cell j)) new
next_loop base cell n is xs os new l j more e a h =
    let w = top is_do_sys os new j e a in
    let x = w.opener in
    let at = w.at in
    let item = item_do x.kind w.kind in
    let tk = w.takes in
    let lt = item_below n os x h.early tk.among item in
    let len = stand_length cell os os 0 is xs h.stand in
    let c = h.count in
    let v = suc n in
    let to = place_of (cell v) in
    let ys = aim_nth j to xs in
    let zs = take j ys ++ map (aimed Leaves to) (drop j ys) in
    let same : map cells_of zs ≡ map cells_of xs = sizes-aimed_from Leaves to j ys ∙ sizes-aim_nth j to xs in
    let nv : v ≡ 0 → ⊥ = λ z. omega (arith, z) in
    let nc : cell v ≡ 0 → ⊥ = λ z. omega (arith, z, more) in
    let set = set_taken cell os new os x j 0 v is xs tk item (omega (arith, at)) (omega (arith, lt, at, c)) nv nc
    h.stand in
    let stands = leaves_from cell new os new x j 0 v (with_target_at j v is) ys tk
    (keeps_kind is_case_sys os new x tk (do_waits_case x.kind w.kind)) (omega (arith, at)) nv nc set in
    let early = early_part n os new tk.part h.early in
    let here = h.places j (omega (arith, lt, at)) in
    let next = h.places (suc j) (omega (arith, lt, at)) in
    let two = two_cells cell os os x j 0 is xs tk.among item (omega (arith, at)) (omega (arith, lt, at, c)) h.stand in
    let back : cell j + 2 ≡ cell (suc j) = omega (arith, here, next, two) in
    let target = loop_item l (place_of (cell (suc j))) in
    let il = item_length cell new new (from_item j (with_leave v) (with_target_at j v is)) xs zs n stands same
    (sym len ∙ c) in
    record {
      after = zs ++ target ∷ [];
      code =
          ap (λ m. code_loop base xs l (cell j) m) (ap (λ m. m + 2) (end_is h) ∙ sym more)
          ∙ ap (λ d. appended (aimed_from Leaves (place_of (cell j)) to d) (loop_item l (place_of (cell j + 2))))
          (code-set base xs j (cell j) to (omega (arith, lt, at, len, c)) here)
          ∙ ap (λ k. appended (record base { cells = k }) (loop_item l (place_of (cell j + 2))))
          (aimed-from Leaves to base.cells ys j (cell j)
          (here ∙ ap (λ s. length base.cells + total (take j s)) (sym (sizes-aim_nth j to xs))))
          ∙ ap (λ m. appended (over base zs) (loop_item l (place_of m))) back
          ∙ code-append base zs target;
      stand =
          subst (λ m. AllStand cell new new 0
          (from_item j (with_leave (suc m)) (with_target_at j (suc m) is) ++ RepeatLoop l (suc j) ∷ [])
          (zs ++ target ∷ [])) (sym c)
          (stand-append cell new new 0 (from_item j (with_leave v) (with_target_at j v is)) zs (RepeatLoop l (suc j))
          target stands (
            refl,
            shut_from n (0 + length (from_item j (with_leave v) (with_target_at j v is))) new
                (omega (arith, il)) early,
          ));
      sizes = sizes-append xs zs target (loop_item l nowhere) same (loop_size l (place_of (cell (suc j))));
      early = early_more n (n + 1) new (omega arith) early;
      based = subst Based (sym w.left) (based_top os x w.get h.based).1;
    }

pub next_endof :
    (base : Code) (cell : ℕ → ℕ) (n : ℕ) (is : List (BodyItem PlainItem)) (xs : List Item) (os new : List Opener)
    (j : ℕ) → cell (suc n) ≡ cell n + 2 → after_taking (top_index is_of_sys) (Some os) ≡ Some new →
    taken_place (top_index is_of_sys) (Some os) ≡ Some j → Now base cell n is xs os →
    Next base cell n is xs EndOf (Some j) (Some (cell j)) new
next_endof base cell n is xs os new j more e a h =
    let w = top is_of_sys os new j e a in
    let x = w.opener in
    let at = w.at in
    let item = item_of_part x.kind w.kind in
    let waits = of_waits_not x.kind w.kind in
    let tk = w.takes in
    let lt = item_below n os x h.early tk.among item in
    let len = stand_length cell os os 0 is xs h.stand in
    let c = h.count in
    let v = suc n in
    let to = place_of (cell v) in
    let ys = aim_nth j to xs in
    let nv : v ≡ 0 → ⊥ = λ z. omega (arith, z) in
    let nc : cell v ≡ 0 → ⊥ = λ z. omega (arith, z, more) in
    let set = set_taken cell os new os x j 0 v is xs tk item (omega (arith, at)) (omega (arith, lt, at, c)) nv nc
    h.stand in
    let stands = waited cell new os new 0 (with_target_at j v is) ys (keeps_taken os new x tk waits) set in
    let early = early_part n os new tk.part h.early in
    let b = based_top os x w.get h.based in
    let cased : Cased new = subst Cased (sym w.left) (b.0 w.kind) in
    let il = item_length cell new new (with_target_at j v is) xs ys n stands (sizes-aim_nth j to xs) (sym len ∙ c) in
    let upto = below n new cased.0 early cased.1 in
    record {
      after = ys ++ EndingOf nowhere ∷ [];
      code =
          ap (λ m. appended (retargeted (over base xs) (place_of (cell j)) (place_of m)) (EndingOf nowhere))
          (ap (λ m. m + 2) (end_is h) ∙ sym more)
          ∙ ap (λ d. appended d (EndingOf nowhere))
          (code-set base xs j (cell j) to (omega (arith, lt, at, len, c)) (h.places j (omega (arith, lt, at))))
          ∙ code-append base ys (EndingOf nowhere);
      stand =
          subst (λ m. AllStand cell new new 0 (with_target_at j (suc m) is ++ EndArm 0 ∷ [])
          (ys ++ EndingOf nowhere ∷ [])) (sym c)
          (stand-append cell new new 0 (with_target_at j v is) ys (EndArm 0) (EndingOf nowhere) stands
          (inr (refl, refl, (cased.0, cased.1, cased.2, omega (arith, upto, il)))));
      sizes = sizes-append xs ys (EndingOf nowhere) (EndingOf nowhere) (sizes-aim_nth j to xs) refl;
      early = early_more n (n + 1) new (omega arith) early;
      based = subst Based (sym w.left) b.1;
    }

pub next_endcase :
    (base : Code) (cell : ℕ → ℕ) (n : ℕ) (is : List (BodyItem PlainItem)) (xs : List Item) (os new : List Opener)
    (j : ℕ) → cell (suc n) ≡ cell n + 1 → after_taking (top_index is_case_sys) (Some os) ≡ Some new →
    taken_place (top_index is_case_sys) (Some os) ≡ Some j → Now base cell n is xs os →
    Next base cell n is xs EndCase (Some j) (Some (cell j)) new
next_endcase base cell n is xs os new j more e a h =
    let w = top is_case_sys os new j e a in
    let x = w.opener in
    let at = w.at in
    let no_item = case_item_not x.kind w.kind in
    let tk = w.takes in
    let le = below n os x h.early tk.among in
    let len = stand_length cell os os 0 is xs h.stand in
    let c = h.count in
    let v = suc n in
    let to = place_of (cell v) in
    let zs = take j xs ++ map (aimed Arms to) (drop j xs) in
    let same : map cells_of zs ≡ map cells_of xs = sizes-aimed_from Arms to j xs in
    let nv : v ≡ 0 → ⊥ = λ z. omega (arith, z) in
    let nc : cell v ≡ 0 → ⊥ = λ z. omega (arith, z, more) in
    let grow = grown cell os new os n 0 is xs (grows_taken n os new x tk no_item) (omega (arith, c)) h.stand in
    let stands = arms_from cell new os new x j 0 v is xs tk
    (keeps_kind is_do_sys os new x tk (case_do_not x.kind w.kind)) (omega (arith, at)) nv nc grow in
    let early = early_part n os new tk.part h.early in
    let il = item_length cell new new (from_item j (with_endof v) is) xs zs n stands same (sym len ∙ c) in
    record {
      after = zs ++ EndingCase ∷ [];
      code =
          ap (λ m. appended (aimed_from Arms (place_of (cell j)) (place_of m) (over base xs)) EndingCase)
          (ap (λ m. m + 1) (end_is h) ∙ sym more)
          ∙ ap (λ k. appended (record base { cells = k }) EndingCase)
          (aimed-from Arms to base.cells xs j (cell j) (h.places j (omega (arith, le, at))))
          ∙ code-append base zs EndingCase;
      stand =
          subst (λ m. AllStand cell new new 0 (from_item j (with_endof (suc m)) is ++ DropSelector ∷ [])
          (zs ++ EndingCase ∷ [])) (sym c)
          (stand-append cell new new 0 (from_item j (with_endof v) is) zs DropSelector EndingCase stands
          (refl, shut_from n (0 + length (from_item j (with_endof v) is)) new (omega (arith, il)) early));
      sizes = sizes-append xs zs EndingCase EndingCase same refl;
      early = early_more n (n + 1) new (omega arith) early;
      based = subst Based (sym w.left) (based_top os x w.get h.based).1;
    }
