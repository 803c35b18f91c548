-- The elements that `see` prints, said of items by their numbers.
use Rattle.std.proofs.Common.{◌≡◌, ◌≢◌, ℕ, zero, suc, Bool, true, false, not, List, [], ◌∷◌, ◌++◌, length, Option}
use Rattle.std.proofs.Common.{None, refl, ap, sym, ◌∙◌, subst, arith, nat_eq, nat_lt, if◌then◌else◌, append_assoc}
use Rattle.std.proofs.lemmas.List.{length-append}
use Rattle.std.proofs.lemmas.Bool.{eqb-true, eq-eqb, ne_eqb}
use Rattle.of_control.specs.Element.{Back, Branch, Case, Do, Element, EndCase, EndOf, Leave, Loop, Mark, Of, Plain}
use Rattle.of_control.specs.Element.{Resolve, Roll}
use Rattle.of_control.specs.Items.{DropSelector, EndArm, EnterLoop, ExitLoop, Item, JumpTo, Perform, RepeatLoop}
use Rattle.of_control.specs.Items.{TestArm}
use Rattle.of_see.specs.SeeItems.{has, is_new, lasting, with_end}
use Rattle.of_see_laws.proofs.Stacks.{Ahead, Begun, Cased, Entry, Looping, Parted, Put, depth, top, under}
use Rattle.of_see_laws.proofs.Runs.{Runs, resolve, roll}
use Rattle.of_see_laws.proofs.Kept.{begins}

-- ---- what is printed, in front of other elements

abbrev pub ending : {A : Type 0} → ℕ → List (Element A) → List (Element A)
ending zero es = Resolve None ∷ es
ending (suc later) es = Roll (suc later) ∷ Resolve None ∷ es

abbrev pub endings : {A : Type 0} → ℕ → ℕ → List ℕ → List (Element A) → List (Element A)
endings p later [] es = es
endings p later (t ∷ ts) es =
    if nat_eq t p then ending later (endings p later ts es) else endings p (suc later) ts es

abbrev pub marks : {A : Type 0} → ℕ → List (Element A) → List (Element A)
marks zero es = es
marks (suc n) es = Mark None ∷ marks n es

abbrev pub case_if : {A : Type 0} → Bool → List (Element A) → List (Element A)
case_if true es = Case ∷ es
case_if false es = es

abbrev pub begins_case : {A : Type 0} → (ℕ → Option ℕ) → ℕ → Item A → List ℕ → Bool
begins_case past p (Perform k) cs = false
begins_case past p (JumpTo z t) cs = false
begins_case past p (EnterLoop q t) cs = false
begins_case past p (RepeatLoop l t) cs = false
begins_case past p (ExitLoop t) cs = false
begins_case past p (TestArm t) cs = is_new cs (past t)
begins_case past p (EndArm t) cs = false
begins_case past p DropSelector cs = not (has cs (suc p))

abbrev pub ends_after : {A : Type 0} → ℕ → Item A → List ℕ → List ℕ
ends_after p (Perform k) cs = cs
ends_after p (JumpTo z t) cs = cs
ends_after p (EnterLoop q t) cs = cs
ends_after p (RepeatLoop l t) cs = cs
ends_after p (ExitLoop t) cs = cs
ends_after p (TestArm t) cs = cs
ends_after p (EndArm t) cs = with_end t cs
ends_after p DropSelector cs = lasting (suc p) cs

abbrev pub with_branch : {A : Type 0} → ℕ → Item A → List ℕ → List ℕ
with_branch p (JumpTo z t) ts = if nat_lt p t then t ∷ ts else ts
with_branch p (Perform k) ts = ts
with_branch p (EnterLoop q t) ts = ts
with_branch p (RepeatLoop l t) ts = ts
with_branch p (ExitLoop t) ts = ts
with_branch p (TestArm t) ts = ts
with_branch p (EndArm t) ts = ts
with_branch p DropSelector ts = ts

abbrev pub element : {A : Type 0} → ℕ → Item A → Element A
element p (Perform k) = Plain k
element p (JumpTo z t) = if nat_lt p t then Branch z None else Back z None
element p (EnterLoop q t) = Do q
element p (RepeatLoop l t) = Loop l
element p (ExitLoop t) = Leave
element p (TestArm t) = Of
element p (EndArm t) = EndOf
element p DropSelector = EndCase

-- of these items from p on, where an `endof` that ends at t goes to `past t`, these branches are pending and these
-- cases have an `endof`
abbrev pub printed : {A : Type 0} → (ℕ → Option ℕ) → ℕ → List (Item A) → List ℕ → List ℕ → List (Element A)
printed past p [] ts cs = endings p 0 ts []
printed past p (i ∷ I) ts cs =
    endings p 0 ts (marks (begins p (i ∷ I)) (case_if (begins_case past p i cs)
    (element p i ∷ printed past (suc p) I (with_branch p i (lasting p ts)) (ends_after p i cs))))

-- the same, where no branch goes to p and only so many marks are left to be printed
abbrev pub ready : {A : Type 0} → (ℕ → Option ℕ) → ℕ → ℕ → List (Item A) → List ℕ → List ℕ → List (Element A)
ready past p n [] ts cs = []
ready past p n (i ∷ I) ts cs =
    marks n (case_if (begins_case past p i cs)
    (element p i ∷ printed past (suc p) I (with_branch p i ts) (ends_after p i cs)))

-- ---- ends of branches

abbrev pub branch_ends : List Entry → List ℕ
branch_ends [] = []
branch_ends (Ahead a o t ∷ G) = t ∷ branch_ends G
branch_ends (Begun a o ∷ G) = branch_ends G
branch_ends (Looping a t ∷ G) = branch_ends G
branch_ends (Cased a t ∷ G) = branch_ends G
branch_ends (Parted a t ∷ G) = branch_ends G

-- no branch goes to p
abbrev pub NoneTo : ℕ → List Entry → Type 0
NoneTo p [] = Unit {0}
NoneTo p (Ahead a o t ∷ G) = (t ≢ p) × NoneTo p G
NoneTo p (Begun a o ∷ G) = NoneTo p G
NoneTo p (Looping a t ∷ G) = NoneTo p G
NoneTo p (Cased a t ∷ G) = NoneTo p G
NoneTo p (Parted a t ∷ G) = NoneTo p G

-- those that go to p are later than each other structure
abbrev pub CanClose : ℕ → List Entry → Type 0
CanClose p [] = Unit {0}
CanClose p (Ahead a o t ∷ G) = CanClose p G
CanClose p (Begun a o ∷ G) = NoneTo p G
CanClose p (Looping a t ∷ G) = NoneTo p G
CanClose p (Cased a t ∷ G) = NoneTo p G
CanClose p (Parted a t ∷ G) = NoneTo p G

-- without those
abbrev pub close : ℕ → List Entry → List Entry
close p [] = []
close p (Ahead a o t ∷ G) = if nat_eq t p then close p G else Ahead a o t ∷ close p G
close p (Begun a o ∷ G) = Begun a o ∷ close p G
close p (Looping a t ∷ G) = Looping a t ∷ close p G
close p (Cased a t ∷ G) = Cased a t ∷ close p G
close p (Parted a t ∷ G) = Parted a t ∷ close p G

pub none_can : (p : ℕ) (G : List Entry) → NoneTo p G → CanClose p G
none_can p [] h = tt
none_can p (Ahead a o t ∷ G) h = none_can p G h.1
none_can p (Begun a o ∷ G) h = h
none_can p (Looping a t ∷ G) h = h
none_can p (Cased a t ∷ G) h = h
none_can p (Parted a t ∷ G) h = h

pub close-none : (p : ℕ) (G : List Entry) → NoneTo p G → close p G ≡ G
close-none p [] h = refl
close-none p (Ahead a o t ∷ G) h =
    ap (λ b. if b then close p G else Ahead a o t ∷ close p G) (ne_eqb t p h.0)
    ∙ ap (λ l. Ahead a o t ∷ l) (close-none p G h.1)
close-none p (Begun a o ∷ G) h = ap (λ l. Begun a o ∷ l) (close-none p G h)
close-none p (Looping a t ∷ G) h = ap (λ l. Looping a t ∷ l) (close-none p G h)
close-none p (Cased a t ∷ G) h = ap (λ l. Cased a t ∷ l) (close-none p G h)
close-none p (Parted a t ∷ G) h = ap (λ l. Parted a t ∷ l) (close-none p G h)

pub close-put : {a t : ℕ} {o : Option ℕ} {H G : List Entry} (p : ℕ) → t ≡ p → Put (Ahead a o t) H G →
    close p G ≡ close p H
close-put {a = a} {t = t} {o = o} {H = H} p e top =
    ap (λ b. if b then close p H else Ahead a o t ∷ close p H) (eq-eqb t p e)
close-put p e (under b q s u) = ap (λ l. if nat_eq s p then l else Ahead b q s ∷ l) (close-put p e u)

pub can-put : {a t : ℕ} {o : Option ℕ} {H G : List Entry} (p : ℕ) → Put (Ahead a o t) H G → CanClose p H → CanClose p G
can-put p top h = h
can-put p (under b q s u) h = can-put p u h

pub ends-close : (p : ℕ) (G : List Entry) → branch_ends (close p G) ≡ lasting p (branch_ends G)
ends-close p [] = refl
ends-close p (Ahead a o t ∷ G) = by_test (nat_eq t p) (ends-close p G)
  where
    by_test : (b : Bool) → branch_ends (close p G) ≡ lasting p (branch_ends G)
        → branch_ends (if b then close p G else Ahead a o t ∷ close p G)
        ≡ (if not b then t ∷ lasting p (branch_ends G) else lasting p (branch_ends G))
    by_test true e = e
    by_test false e = ap (λ l. t ∷ l) e
ends-close p (Begun a o ∷ G) = ends-close p G
ends-close p (Looping a t ∷ G) = ends-close p G
ends-close p (Cased a t ∷ G) = ends-close p G
ends-close p (Parted a t ∷ G) = ends-close p G

pub ends-mark : {a : ℕ} {o : Option ℕ} {H G : List Entry} → Put (Begun a o) H G → branch_ends G ≡ branch_ends H
ends-mark top = refl
ends-mark (under b q s u) = ap (λ l. s ∷ l) (ends-mark u)

-- ---- branches are closed, the latest first

abbrev AreAhead : List Entry → Type 0
AreAhead [] = Unit {0}
AreAhead (Ahead a o t ∷ G) = AreAhead G
AreAhead (Begun a o ∷ G) = ⊥
AreAhead (Looping a t ∷ G) = ⊥
AreAhead (Cased a t ∷ G) = ⊥
AreAhead (Parted a t ∷ G) = ⊥

record PutUnder (x : Entry) (U V : List Entry) : Type 0 where
  pub put : Put x (U ++ V) (U ++ (x ∷ V))
  pub deep : length U ≡ depth put

put_under : (x : Entry) (U V : List Entry) → AreAhead U → PutUnder x U V
put_under x [] V h = record { put = top; deep = refl }
put_under x (Ahead a o t ∷ U) V h =
    let r = put_under x U V h in record { put = under a o t r.put; deep = ap suc r.deep }
put_under x (Begun a o ∷ U) V h = absurd h
put_under x (Looping a t ∷ U) V h = absurd h
put_under x (Cased a t ∷ U) V h = absurd h
put_under x (Parted a t ∷ U) V h = absurd h

more_ahead : (U : List Entry) (a : ℕ) (o : Option ℕ) (t : ℕ) → AreAhead U → AreAhead (U ++ Ahead a o t ∷ [])
more_ahead [] a o t h = tt
more_ahead (Ahead b q s ∷ U) a o t h = more_ahead U a o t h
more_ahead (Begun b q ∷ U) a o t h = absurd h
more_ahead (Looping b s ∷ U) a o t h = absurd h
more_ahead (Cased b s ∷ U) a o t h = absurd h
more_ahead (Parted b s ∷ U) a o t h = absurd h

one_ended :
    {A : Type 0} {limit : ℕ} (p a : ℕ) (o : Option ℕ) (U V : List Entry) (es : List (Element A)) (I : List (Item A)) →
    AreAhead U → Runs limit es p (U ++ V) I → Runs limit (ending (length U) es) p (U ++ Ahead a o p ∷ V) I
one_ended p a o [] V es I h r = resolve None a o top refl r
one_ended p a o (x ∷ U) V es I h r =
    let u = put_under (Ahead a o p) (x ∷ U) V h in
    roll (suc (length U)) a o p u.put u.deep (resolve None a o top refl r)

none_ended : {A : Type 0} (p later : ℕ) (G : List Entry) (es : List (Element A)) → NoneTo p G →
    endings p later (branch_ends G) es ≡ es
none_ended p later [] es h = refl
none_ended p later (Ahead a o t ∷ G) es h =
    ap (λ b. if b then ending later (endings p later (branch_ends G) es) else endings p (suc later) (branch_ends G) es)
    (ne_eqb t p h.0)
    ∙ none_ended p (suc later) G es h.1
none_ended p later (Begun a o ∷ G) es h = none_ended p later G es h
none_ended p later (Looping a t ∷ G) es h = none_ended p later G es h
none_ended p later (Cased a t ∷ G) es h = none_ended p later G es h
none_ended p later (Parted a t ∷ G) es h = none_ended p later G es h

none_closed :
    {A : Type 0} {limit : ℕ} (p : ℕ) (U V : List Entry) (x : Entry) (es : List (Element A)) (I : List (Item A)) →
    NoneTo p V → Runs limit es p (U ++ (x ∷ close p V)) I →
    Runs limit (endings p (length U) (branch_ends V) es) p (U ++ (x ∷ V)) I
none_closed {limit = limit} p U V x es I h r =
    subst (λ s. Runs limit s p (U ++ (x ∷ V)) I) (sym (none_ended p (length U) V es h))
    (subst (λ G. Runs limit es p (U ++ (x ∷ G)) I) (close-none p V h) r)

closing :
    {A : Type 0} {limit : ℕ} (p : ℕ) (U V : List Entry) (es : List (Element A)) (I : List (Item A)) →
    AreAhead U → CanClose p V → Runs limit es p (U ++ close p V) I →
    Runs limit (endings p (length U) (branch_ends V) es) p (U ++ V) I
closing p U [] es I h c r = r
closing {limit = limit} p U (Ahead a o t ∷ V) es I h c r =
    by_test (nat_eq t p) refl r (λ W more. closing p W V es I more c)
  where
    by_test : (b : Bool) → nat_eq t p ≡ b
        → Runs limit es p (U ++ (if b then close p V else Ahead a o t ∷ close p V)) I
        → ((W : List Entry) → AreAhead W → Runs limit es p (W ++ close p V) I
        → Runs limit (endings p (length W) (branch_ends V) es) p (W ++ V) I)
        → Runs limit (if b then ending (length U) (endings p (length U) (branch_ends V) es)
        else endings p (suc (length U)) (branch_ends V) es) p (U ++ Ahead a o t ∷ V) I
    by_test true e r closed =
        let same : t ≡ p = eqb-true t p e in
        subst (λ n. Runs limit (ending (length U) (endings p (length U) (branch_ends V) es)) p (U ++ Ahead a o n ∷ V) I)
        (sym same) (one_ended p a o U V (endings p (length U) (branch_ends V) es) I h (closed U h r))
    by_test false e r closed =
        let W = U ++ Ahead a o t ∷ [] in
        let long : length W ≡ suc (length U) = omega (arith, length-append U (Ahead a o t ∷ [])) in
        let regroup = append_assoc U (Ahead a o t ∷ []) in
        let done = closed W (more_ahead U a o t h)
        (subst (λ G. Runs limit es p G I) (sym (regroup (close p V))) r) in
        subst (λ n. Runs limit (endings p n (branch_ends V) es) p (U ++ Ahead a o t ∷ V) I) long
        (subst (λ G. Runs limit (endings p (length W) (branch_ends V) es) p G I) (regroup V) done)
closing p U (Begun a o ∷ V) es I h c r = none_closed p U V (Begun a o) es I c r
closing p U (Looping a t ∷ V) es I h c r = none_closed p U V (Looping a t) es I c r
closing p U (Cased a t ∷ V) es I h c r = none_closed p U V (Cased a t) es I c r
closing p U (Parted a t ∷ V) es I h c r = none_closed p U V (Parted a t) es I c r

pub closed :
    {A : Type 0} {limit : ℕ} (p : ℕ) (V : List Entry) (es : List (Element A)) (I : List (Item A)) → CanClose p V →
    Runs limit es p (close p V) I → Runs limit (endings p 0 (branch_ends V) es) p V I
closed p V es I c r = closing p [] V es I tt c r
