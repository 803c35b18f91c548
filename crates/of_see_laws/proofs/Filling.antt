-- What the ends of open structures do to the items that were compiled before.
use Rattle.std.proofs.Common.{◌≡◌, ◌≢◌, ℕ, zero, suc, ◌≤◌, ◌<◌, List, [], ◌∷◌, ◌++◌, length, Option, refl, ap, sym}
use Rattle.std.proofs.Common.{◌∙◌, arith}
use Rattle.std.proofs.lemmas.List.{map-append, length-map}
use Rattle.of_control.specs.Items.{EndArm, ExitLoop, Item}
use Rattle.of_control.specs.Compiling.{from_item, with_endof, with_leave, with_target, with_target_at}
use Rattle.of_see_laws.proofs.Stacks.{Ahead, Apart, Begun, Cased, Entry, Looping, Parted, Placed, Put, others_away}
use Rattle.of_see_laws.proofs.Stacks.{top, under}
use Rattle.of_see_laws.proofs.Runs.{case_end, loop_end}

-- ---- one change

target-append :
    {A : Type 0} → (n t : ℕ) (is js : List (Item A)) → n < length is →
    with_target_at n t (is ++ js) ≡ with_target_at n t is ++ js
target-append n t [] js lt = absurd (omega arith)
target-append zero t (i ∷ is) js lt = refl
target-append (suc n) t (i ∷ is) js lt = ap (λ l. i ∷ l) (target-append n t is js (omega arith))

target_last :
    {A : Type 0} → (n t : ℕ) (is : List (Item A)) (i : Item A) → n ≡ length is →
    with_target_at n t (is ++ i ∷ []) ≡ is ++ with_target t i ∷ []
target_last zero t [] i e = refl
target_last (suc n) t [] i e = absurd (omega arith)
target_last zero t (j ∷ is) i e = absurd (omega arith)
target_last (suc n) t (j ∷ is) i e = ap (λ l. j ∷ l) (target_last n t is i (omega arith))

target_twice :
    {A : Type 0} → (n m t v : ℕ) (is : List (Item A)) → n ≢ m →
    with_target_at n t (with_target_at m v is) ≡ with_target_at m v (with_target_at n t is)
target_twice n m t v [] ne = refl
target_twice zero zero t v (i ∷ is) ne = absurd (ne refl)
target_twice zero (suc m) t v (i ∷ is) ne = refl
target_twice (suc n) zero t v (i ∷ is) ne = refl
target_twice (suc n) (suc m) t v (i ∷ is) ne =
    let other : n ≢ m = λ e. ne (ap suc e) in ap (λ l. i ∷ l) (target_twice n m t v is other)

length-target : {A : Type 0} → (n t : ℕ) (is : List (Item A)) → length (with_target_at n t is) ≡ length is
length-target n t [] = refl
length-target zero t (i ∷ is) = refl
length-target (suc n) t (i ∷ is) = ap suc (length-target n t is)

from-append :
    {A : Type 0} → (n : ℕ) (f : Item A → Item A) (is : List (Item A)) (i : Item A) → n ≤ length is →
    from_item n f (is ++ i ∷ []) ≡ from_item n f is ++ f i ∷ []
from-append zero f is i le = map-append f is (i ∷ [])
from-append (suc n) f [] i le = absurd (omega arith)
from-append (suc n) f (j ∷ is) i le = ap (λ l. j ∷ l) (from-append n f is i (omega arith))

length-from : {A : Type 0} → (n : ℕ) (f : Item A → Item A) (is : List (Item A)) → length (from_item n f is) ≡ length is
length-from zero f is = search length-map
length-from (suc n) f [] = refl
length-from (suc n) f (i ∷ is) = ap suc (length-from n f is)

from_last :
    {A : Type 0} → (n : ℕ) (f : Item A → Item A) (is : List (Item A)) (i : Item A) → n ≡ length is →
    from_item n f (is ++ i ∷ []) ≡ is ++ f i ∷ []
from_last zero f [] i e = refl
from_last (suc n) f [] i e = absurd (omega arith)
from_last zero f (j ∷ is) i e = absurd (omega arith)
from_last (suc n) f (j ∷ is) i e = ap (λ l. j ∷ l) (from_last n f is i (omega arith))

pub from_none :
    {A : Type 0} → (n t : ℕ) (is : List (Item A)) → length is ≡ n → from_item n (with_endof t) is ≡ is
from_none zero t [] e = refl
from_none (suc n) t [] e = refl
from_none zero t (i ∷ is) e = absurd (omega arith)
from_none (suc n) t (i ∷ is) e = ap (λ l. i ∷ l) (from_none n t is (omega arith))

-- ---- the end of one structure, and of all, the latest first

abbrev pub ended : {A : Type 0} → Entry → List (Item A) → List (Item A)
ended (Ahead a o t) is = with_target_at a t is
ended (Begun a o) is = is
ended (Looping a t) is = from_item a (with_leave t) (with_target_at a t is)
ended (Cased a t) is = from_item a (with_endof t) is
ended (Parted a t) is = with_target_at a t is

abbrev pub all_ended : {A : Type 0} → List Entry → List (Item A) → List (Item A)
all_ended [] is = is
all_ended (x ∷ G) is = all_ended G (ended x is)

pub length-ended : {A : Type 0} → (x : Entry) (is : List (Item A)) → length (ended x is) ≡ length is
length-ended (Ahead a o t) is = length-target a t is
length-ended (Begun a o) is = refl
length-ended (Looping a t) is = length-from a (with_leave t) (with_target_at a t is) ∙ length-target a t is
length-ended (Cased a t) is = length-from a (with_endof t) is
length-ended (Parted a t) is = length-target a t is

-- the last item then
abbrev pub last_ended : {A : Type 0} → List Entry → Item A → Item A
last_ended [] i = i
last_ended (Ahead a o t ∷ G) i = last_ended G i
last_ended (Begun a o ∷ G) i = last_ended G i
last_ended (Looping a t ∷ G) i = last_ended G (with_leave t i)
last_ended (Cased a t ∷ G) i = last_ended G (with_endof t i)
last_ended (Parted a t ∷ G) i = last_ended G i

pub one_more :
    {A : Type 0} → (n : ℕ) (G : List Entry) (is : List (Item A)) (i : Item A) → n ≡ length is → Placed n G →
    all_ended G (is ++ i ∷ []) ≡ all_ended G is ++ last_ended G i ∷ []
one_more n [] is i e h = refl
one_more n (Ahead a o t ∷ G) is i e h =
    ap (all_ended G) (target-append a t is (i ∷ []) (omega (arith, h.0)))
    ∙ one_more n G (with_target_at a t is) i (e ∙ sym (length-target a t is)) h.1
one_more n (Begun a o ∷ G) is i e h = one_more n G is i e h.1
one_more n (Looping a t ∷ G) is i e h =
    let len = length-target a t is in
    ap (λ l. all_ended G (from_item a (with_leave t) l)) (target-append a t is (i ∷ []) (omega (arith, h.0)))
    ∙ ap (all_ended G) (from-append a (with_leave t) (with_target_at a t is) i (omega (arith, h.0, len)))
    ∙ one_more n G (ended (Looping a t) is) (with_leave t i) (e ∙ sym (length-ended (Looping a t) is)) h.1
one_more n (Cased a t ∷ G) is i e h =
    ap (all_ended G) (from-append a (with_endof t) is i (omega (arith, h.0)))
    ∙ one_more n G (ended (Cased a t) is) (with_endof t i) (e ∙ sym (length-ended (Cased a t) is)) h.1
one_more n (Parted a t ∷ G) is i e h =
    ap (all_ended G) (target-append a t is (i ∷ []) (omega (arith, h.0)))
    ∙ one_more n G (with_target_at a t is) i (e ∙ sym (length-target a t is)) h.1

pub steady :
    {A : Type 0} → (G : List Entry) (i : Item A) → ((t : ℕ) → with_leave t i ≡ i) → ((t : ℕ) → with_endof t i ≡ i) →
    last_ended G i ≡ i
steady [] i l e = refl
steady (Ahead a o t ∷ G) i l e = steady G i l e
steady (Begun a o ∷ G) i l e = steady G i l e
steady (Looping a t ∷ G) i l e = ap (last_ended G) (l t) ∙ steady G i l e
steady (Cased a t ∷ G) i l e = ap (last_ended G) (e t) ∙ steady G i l e
steady (Parted a t ∷ G) i l e = steady G i l e

pub last_leave : {A : Type 0} → (G : List Entry) → last_ended {A = A} G (ExitLoop 0) ≡ ExitLoop (loop_end G)
last_leave [] = refl
last_leave (Ahead a o t ∷ G) = last_leave G
last_leave (Begun a o ∷ G) = last_leave G
last_leave (Looping a zero ∷ G) = last_leave G
last_leave (Looping a (suc t) ∷ G) = steady G (ExitLoop (suc t)) (λ v. refl) (λ v. refl)
last_leave (Cased a t ∷ G) = last_leave G
last_leave (Parted a t ∷ G) = last_leave G

pub last_arm : {A : Type 0} → (G : List Entry) → last_ended {A = A} G (EndArm 0) ≡ EndArm (case_end G)
last_arm [] = refl
last_arm (Ahead a o t ∷ G) = last_arm G
last_arm (Begun a o ∷ G) = last_arm G
last_arm (Looping a t ∷ G) = last_arm G
last_arm (Cased a zero ∷ G) = last_arm G
last_arm (Cased a (suc t) ∷ G) = steady G (EndArm (suc t)) (λ v. refl) (λ v. refl)
last_arm (Parted a t ∷ G) = last_arm G

-- a structure's own item, which was compiled last
pub own_branch :
    {A : Type 0} → (n t : ℕ) (is : List (Item A)) (i : Item A) (o : Option ℕ) → n ≡ length is →
    ended (Ahead n o t) (is ++ i ∷ []) ≡ is ++ with_target t i ∷ []
own_branch n t is i o e = target_last n t is i e

pub own_loop :
    {A : Type 0} → (n t : ℕ) (is : List (Item A)) (i : Item A) → n ≡ length is →
    with_leave t (with_target t i) ≡ with_target t i →
    ended (Looping n t) (is ++ i ∷ []) ≡ is ++ with_target t i ∷ []
own_loop n t is i e l =
    ap (from_item n (with_leave t)) (target_last n t is i e) ∙ from_last n (with_leave t) is (with_target t i) e
    ∙ ap (λ j. is ++ j ∷ []) l

pub own_part :
    {A : Type 0} → (n t : ℕ) (is : List (Item A)) (i : Item A) → n ≡ length is →
    ended (Parted n t) (is ++ i ∷ []) ≡ is ++ with_target t i ∷ []
own_part n t is i e = target_last n t is i e

-- a branch may end before others
pub branch_first :
    {A : Type 0} {a t : ℕ} {o : Option ℕ} {H G : List Entry} → Put (Ahead a o t) H G → Apart G → (is : List (Item A)) →
    all_ended G is ≡ all_ended H (with_target_at a t is)
branch_first top h is = refl
branch_first {a = a} {t = t} {H = Ahead b p s ∷ H} (under c q r u) h is =
    branch_first u h.1 (with_target_at b s is)
    ∙ ap (all_ended H) (target_twice a b t s is (others_away b u h.0))

pub mark_ends :
    {A : Type 0} {a : ℕ} {o : Option ℕ} {H G : List Entry} → Put (Begun a o) H G → (is : List (Item A)) →
    all_ended G is ≡ all_ended H is
mark_ends top is = refl
mark_ends (under b p s u) is = mark_ends u (with_target_at b s is)
