-- The openers of a control-flow stack, and what stays of them.
use Rattle.std.proofs.Common.{◌≡◌, ◌⊎◌, inl, inr, ⊎_elim, ℕ, zero, suc, Bool, true, false, List, [], ◌∷◌, length}
use Rattle.std.proofs.Common.{Option, Some, None, refl, sym, ap, subst, ◌∙◌, arith}
use Rattle.std.specs.Prelude.{if◌then◌else◌, slice_get, remove, nat_lt}
use Rattle.of_control.specs.declared.opener.Opener.{Opener}
use Rattle.of_control.specs.declared.opener.Kind.{Kind}
use Rattle.of_control.specs.declared.opener.Kind.TheVariants.{CaseSys, Dest, DoSys, OfSys, Orig}
use Rattle.of_control.specs.Openers.{after_taking, aimed_index, dest_index, is_case_sys, is_dest_for, is_do_sys}
use Rattle.of_control.specs.Openers.{is_of_sys, is_orig, is_orig_for, one_later, opened_in, or_else, orig_count}
use Rattle.of_control.specs.Openers.{orig_index, place_at, place_of, taken_place, top_index, topped, without}

abbrev pub Among : List Opener → Opener → Type 0
Among [] y = ⊥
Among (x ∷ os) y = (x ≡ y) ⊎ Among os y

-- an opener that is an item
abbrev pub has_item : Kind → Bool
has_item (Orig t) = true
has_item (Dest p) = false
has_item DoSys = true
has_item CaseSys = false
has_item OfSys = true

-- one whose end items wait for
abbrev pub has_waiting : Kind → Bool
has_waiting (Orig t) = false
has_waiting (Dest p) = false
has_waiting DoSys = true
has_waiting CaseSys = true
has_waiting OfSys = false

pub item_orig : (k : Kind) → is_orig k ≡ true → has_item k ≡ true
item_orig (Orig t) e = refl
item_orig (Dest p) e = e
item_orig DoSys e = refl
item_orig CaseSys e = e
item_orig OfSys e = refl

pub item_do : (k : Kind) → is_do_sys k ≡ true → has_item k ≡ true
item_do (Orig t) e = refl
item_do (Dest p) e = e
item_do DoSys e = refl
item_do CaseSys e = e
item_do OfSys e = refl

pub item_of_part : (k : Kind) → is_of_sys k ≡ true → has_item k ≡ true
item_of_part (Orig t) e = refl
item_of_part (Dest p) e = e
item_of_part DoSys e = refl
item_of_part CaseSys e = e
item_of_part OfSys e = refl

pub waiting_do : (k : Kind) → is_do_sys k ≡ true → has_waiting k ≡ true
waiting_do (Orig t) e = e
waiting_do (Dest p) e = e
waiting_do DoSys e = refl
waiting_do CaseSys e = refl
waiting_do OfSys e = e

pub waiting_case : (k : Kind) → is_case_sys k ≡ true → has_waiting k ≡ true
waiting_case (Orig t) e = e
waiting_case (Dest p) e = e
waiting_case DoSys e = refl
waiting_case CaseSys e = refl
waiting_case OfSys e = e

pub orig_waits_not : (k : Kind) → is_orig k ≡ true → has_waiting k ≡ false
orig_waits_not (Orig t) e = refl
orig_waits_not (Dest p) e = refl
orig_waits_not DoSys e = sym e
orig_waits_not CaseSys e = sym e
orig_waits_not OfSys e = refl

pub of_waits_not : (k : Kind) → is_of_sys k ≡ true → has_waiting k ≡ false
of_waits_not (Orig t) e = refl
of_waits_not (Dest p) e = refl
of_waits_not DoSys e = sym e
of_waits_not CaseSys e = sym e
of_waits_not OfSys e = refl

pub case_item_not : (k : Kind) → is_case_sys k ≡ true → has_item k ≡ false
case_item_not (Orig t) e = sym e
case_item_not (Dest p) e = refl
case_item_not DoSys e = sym e
case_item_not CaseSys e = refl
case_item_not OfSys e = sym e

pub case_do_not : (k : Kind) → is_case_sys k ≡ true → is_do_sys k ≡ true → ⊥
case_do_not (Orig t) e f = cc
case_do_not (Dest p) e f = cc
case_do_not DoSys e f = cc
case_do_not CaseSys e f = cc
case_do_not OfSys e f = cc

pub orig_of_not : (k : Kind) → is_orig k ≡ true → is_of_sys k ≡ true → ⊥
orig_of_not (Orig t) e f = cc
orig_of_not (Dest p) e f = cc
orig_of_not DoSys e f = cc
orig_of_not CaseSys e f = cc
orig_of_not OfSys e f = cc

pub waiting_case_not : (k : Kind) → has_waiting k ≡ false → is_case_sys k ≡ true → ⊥
waiting_case_not k e f = let g = waiting_case k f in cc

pub false_true : {A : Type 0} → (b : Bool) → b ≡ false → b ≡ true → A
false_true b e f = let bad : ⊥ = cc in absurd bad

-- one opener taken, whichever it is
pub record Takes (os : List Opener) (rest : List Opener) (x : Opener) : Type 0 where
  pub among : Among os x
  pub kept : (y : Opener) → Among os y → (y ≡ x) ⊎ Among rest y
  pub part : (y : Opener) → Among rest y → Among os y

pub takes : (os : List Opener) (i : ℕ) (x : Opener) → slice_get os i ≡ Some x → Takes os (remove os i) x
takes [] i x e = let bad : ⊥ = cc in absurd bad
takes (z ∷ os) zero x e =
    let same : z ≡ x = cc in
    record {
      among = inl same;
      kept = λ y a. ⊎_elim (λ g. inl (sym g ∙ same)) (λ r. inr r) a;
      part = λ y a. inr a;
    }
takes (z ∷ os) (suc i) x e =
    let t = takes os i x e in
    record {
      among = inr t.among;
      kept = λ y a. ⊎_elim (λ g. inr (inl g)) (λ r. ⊎_elim (λ g. inl g) (λ q. inr (inr q)) (t.kept y r)) a;
      part = λ y a. ⊎_elim (λ g. inl g) (λ r. inr (t.part y r)) a;
    }

-- what is known of a closer's opener
pub record Taken (which : List Opener → Option ℕ) (os : List Opener) (rest : List Opener) (n : ℕ) : Type 0 where
  pub index : ℕ
  pub found : which os ≡ Some index
  pub opener : Opener
  pub get : slice_get os index ≡ Some opener
  pub at : opener.at ≡ n
  pub left : rest ≡ remove os index

pub place_of_some : (o : Option Opener) (n : ℕ) → place_of o ≡ Some n → (x : Opener) × (o ≡ Some x) × (x.at ≡ n)
place_of_some None n e = let bad : ⊥ = cc in absurd bad
place_of_some (Some x) n e = (x, refl, cc)

taken_with :
    (which : List Opener → Option ℕ) (os rest : List Opener) (n : ℕ) (o : Option ℕ) → which os ≡ o →
    without os o ≡ Some rest → place_at os o ≡ Some n → Taken which os rest n
taken_with which os rest n None f e p = let bad : ⊥ = cc in absurd bad
taken_with which os rest n (Some i) f e p =
    let x = place_of_some (slice_get os i) n p in
    record { index = i; found = f; opener = x.0; get = x.1; at = x.2; left = cc }

pub taken :
    (which : List Opener → Option ℕ) (os rest : List Opener) (n : ℕ) → after_taking which (Some os) ≡ Some rest →
    taken_place which (Some os) ≡ Some n → Taken which os rest n
taken which os rest n e p = taken_with which os rest n (which os) refl e p

pub if_some : {A : Type 0} → (b : Bool) (l r : A) → (if b then Some l else None) ≡ Some r → (b ≡ true) × (r ≡ l)
if_some true l r e = (refl, cc)
if_some false l r e = let bad : ⊥ = cc in absurd bad

pub opened : (x : Opener) (os new : List Opener) → opened_in 32 x (Some os) ≡ Some new → new ≡ x ∷ os
opened x os new e = (if_some (nat_lt (length os) 32) (x ∷ os) new e).1

-- ---- the kind of what is taken

top_kind_if :
    (b : Bool) (p : Kind → Bool) (y : Opener) (os : List Opener) (i : ℕ) (x : Opener) → p y.kind ≡ b →
    (if b then Some 0 else None) ≡ Some i → slice_get (y ∷ os) i ≡ Some x → (p x.kind ≡ true) × (i ≡ 0)
top_kind_if true p y os zero x q e g = let same : y ≡ x = cc in (sym (ap (λ (z : Opener). p z.kind) same) ∙ q, refl)
top_kind_if true p y os (suc i) x q e g = let bad : 0 ≡ suc i = cc in absurd (omega (arith, bad))
top_kind_if false p y os i x q e g = let bad : ⊥ = cc in absurd bad

pub top_kind :
    (p : Kind → Bool) (os : List Opener) (i : ℕ) (x : Opener) → top_index p os ≡ Some i → slice_get os i ≡ Some x →
    (p x.kind ≡ true) × (i ≡ 0)
top_kind p [] i x e g = let bad : ⊥ = cc in absurd bad
top_kind p (y ∷ os) i x e g = top_kind_if (p y.kind) p y os i x refl e g

for_orig : (t : ℕ) (k : Kind) → is_orig_for t k ≡ true → is_orig k ≡ true
for_orig t (Orig s) e = refl
for_orig t (Dest p) e = e
for_orig t DoSys e = e
for_orig t CaseSys e = e
for_orig t OfSys e = e

-- an index found at once, or one later in the rest
abbrev found_if : Bool → Bool → Option ℕ → Option ℕ
found_if a b o = if a then Some 0 else if b then one_later o else None

later_some : (o : Option ℕ) (i : ℕ) → one_later o ≡ Some i → (j : ℕ) × (o ≡ Some j) × (i ≡ suc j)
later_some None i e = let bad : ⊥ = cc in absurd bad
later_some (Some j) i e = (j, refl, cc)

found_kind :
    (a b : Bool) (y : Opener) (os : List Opener) (o : Option ℕ) (i : ℕ) (x : Opener) (Q : Opener → Type 0) →
    ((a ≡ true) → Q y) → ((j : ℕ) → o ≡ Some j → slice_get os j ≡ Some x → Q x) → found_if a b o ≡ Some i →
    slice_get (y ∷ os) i ≡ Some x → Q x
found_kind true b y os o zero x Q h r e g = let same : y ≡ x = cc in subst Q same (h refl)
found_kind true b y os o (suc i) x Q h r e g = let bad : 0 ≡ suc i = cc in absurd (omega (arith, bad))
found_kind false true y os o i x Q h r e g =
    let w = later_some o i e in
    r w.0 w.1 (sym (ap (slice_get (y ∷ os)) w.2) ∙ g)
found_kind false false y os o i x Q h r e g = let bad : ⊥ = cc in absurd bad

aimed_kind :
    (t : ℕ) (os : List Opener) (i : ℕ) (x : Opener) → aimed_index t os ≡ Some i → slice_get os i ≡ Some x →
    is_orig x.kind ≡ true
aimed_kind t [] i x e g = let bad : ⊥ = cc in absurd bad
aimed_kind t (y ∷ os) i x e g =
    found_kind (is_orig_for t y.kind) (is_orig y.kind) y os (aimed_index t os) i x (λ z. is_orig z.kind ≡ true)
    (for_orig t y.kind) (λ j f q. aimed_kind t os j x f q) e g

or_else_some : (a b : Option ℕ) (i : ℕ) → or_else a b ≡ Some i → (a ≡ Some i) ⊎ (b ≡ Some i)
or_else_some None b i e = inr e
or_else_some (Some j) b i e = inl e

pub orig_kind :
    (p : Option ℕ) (os : List Opener) (i : ℕ) (x : Opener) → orig_index p os ≡ Some i → slice_get os i ≡ Some x →
    is_orig x.kind ≡ true
orig_kind None os i x e g = (top_kind is_orig os i x e g).0
orig_kind (Some p) os i x e g =
    ⊎_elim (λ h. aimed_kind p os i x h g) (λ h. aimed_kind (suc p) os i x h g)
    (or_else_some (aimed_index p os) (aimed_index (suc p) os) i e)

abbrev pub IsMark : Opener → Type 0
IsMark x = (has_item x.kind ≡ false) × (has_waiting x.kind ≡ false)

for_dest : (t : Option ℕ) (x : Opener) (k : Kind) → x.kind ≡ k → is_dest_for t k ≡ true → IsMark x
for_dest t x (Dest p) e d = (ap has_item e, ap has_waiting e)
for_dest None x (Orig s) e d = let bad : ⊥ = cc in absurd bad
for_dest (Some t) x (Orig s) e d = let bad : ⊥ = cc in absurd bad
for_dest None x DoSys e d = let bad : ⊥ = cc in absurd bad
for_dest (Some t) x DoSys e d = let bad : ⊥ = cc in absurd bad
for_dest None x CaseSys e d = let bad : ⊥ = cc in absurd bad
for_dest (Some t) x CaseSys e d = let bad : ⊥ = cc in absurd bad
for_dest None x OfSys e d = let bad : ⊥ = cc in absurd bad
for_dest (Some t) x OfSys e d = let bad : ⊥ = cc in absurd bad

pub dest_kind :
    (t : Option ℕ) (os : List Opener) (i : ℕ) (x : Opener) → dest_index t os ≡ Some i → slice_get os i ≡ Some x →
    IsMark x
dest_kind t [] i x e g = let bad : ⊥ = cc in absurd bad
dest_kind t (y ∷ os) i x e g =
    found_kind (is_dest_for t y.kind) (is_orig y.kind) y os (dest_index t os) i x IsMark (for_dest t y y.kind refl)
    (λ j f q. dest_kind t os j x f q) e g

counted_kind :
    (b : Bool) (n : ℕ) (y : Opener) (os : List Opener) (x : Opener) → is_orig y.kind ≡ b →
    nat_lt n (if b then suc (orig_count os) else 0) ≡ true → slice_get (y ∷ os) n ≡ Some x →
    ((j : ℕ) → n ≡ suc j → nat_lt j (orig_count os) ≡ true → is_orig x.kind ≡ true) → is_orig x.kind ≡ true
counted_kind true zero y os x e l g h = let same : y ≡ x = cc in sym (ap (λ (z : Opener). is_orig z.kind) same) ∙ e
counted_kind true (suc n) y os x e l g h = h n refl (grind (arith, l))
counted_kind false n y os x e l g h = absurd (grind (arith, l))

pub rolled_kind :
    (n : ℕ) (os : List Opener) (x : Opener) → nat_lt n (orig_count os) ≡ true → slice_get os n ≡ Some x →
    is_orig x.kind ≡ true
rolled_kind n [] x l g = let bad : ⊥ = cc in absurd bad
rolled_kind n (y ∷ os) x l g =
    counted_kind (is_orig y.kind) n y os x refl l g
    (λ j e m. rolled_kind j os x m (sym (ap (slice_get (y ∷ os)) e) ∙ g))

topped_some :
    (o : Option Opener) (rest new : List Opener) → topped o rest ≡ Some new →
    (x : Opener) × (o ≡ Some x) × (new ≡ x ∷ rest)
topped_some None rest new e = let bad : ⊥ = cc in absurd bad
topped_some (Some x) rest new e = (x, refl, cc)

rolled_if :
    (b : Bool) (n : ℕ) (os new : List Opener) → nat_lt n (orig_count os) ≡ b →
    (if b then topped (slice_get os n) (remove os n) else None) ≡ Some new →
    (x : Opener) × (slice_get os n ≡ Some x) × (new ≡ x ∷ remove os n) × (is_orig x.kind ≡ true)
rolled_if true n os new l e =
    let w = topped_some (slice_get os n) (remove os n) new e in
    (w.0, w.1, w.2, rolled_kind n os w.0 l w.1)
rolled_if false n os new l e = let bad : ⊥ = cc in absurd bad

pub rolled :
    (n : ℕ) (os new : List Opener) →
    (if nat_lt n (orig_count os) then topped (slice_get os n) (remove os n) else None) ≡ Some new →
    (x : Opener) × (slice_get os n ≡ Some x) × (new ≡ x ∷ remove os n) × (is_orig x.kind ≡ true)
rolled n os new e = rolled_if (nat_lt n (orig_count os)) n os new refl e
