-- Where the items go that elements leave: not past the end, and an `of` past its `endof`.
use Rattle.std.proofs.Common.{◌≡◌, ℕ, zero, suc, ◌+◌, ◌-◌, ◌≤◌, List, [], ◌∷◌, length, Option, Some, None, ap, sym}
use Rattle.std.proofs.Common.{◌∙◌, arith}
use Rattle.std.specs.Prelude.{slice_get}
use Rattle.of_control.specs.Element.{Element}
use Rattle.of_control.specs.Items.{DropSelector, EndArm, EnterLoop, ExitLoop, Item, JumpTo, Perform, RepeatLoop}
use Rattle.of_control.specs.Items.{TestArm}
use Rattle.of_see_laws.proofs.Stacks.{Ahead, Begun, Cased, Entry, Looping, Parted, Put, top, under}
use Rattle.of_see_laws.proofs.Runs.{Runs, back, branch, case_end, cases, end_arm, end_case, enter, leave, mark, over}
use Rattle.of_see_laws.proofs.Runs.{plain, repeat, resolve, roll, test}
use Rattle.of_see_laws.proofs.Kept.{kept}
use Rattle.of_see_laws.proofs.Prints.{Pasts}

-- ---- not past the end

abbrev EndWithin : ℕ → List Entry → Type 0
EndWithin n [] = Unit {0}
EndWithin n (Ahead a o t ∷ G) = (t ≤ n) × EndWithin n G
EndWithin n (Begun a o ∷ G) = EndWithin n G
EndWithin n (Looping a t ∷ G) = EndWithin n G
EndWithin n (Cased a t ∷ G) = (t ≤ n) × EndWithin n G
EndWithin n (Parted a t ∷ G) = (t ≤ n) × EndWithin n G

-- the targets of branches, `of`s and `endof`s
abbrev pub GoWithin : {A : Type 0} → ℕ → List (Item A) → Type 0
GoWithin n [] = Unit {0}
GoWithin n (JumpTo z t ∷ I) = (t ≤ n) × GoWithin n I
GoWithin n (TestArm t ∷ I) = (t ≤ n) × GoWithin n I
GoWithin n (EndArm t ∷ I) = (t ≤ n) × GoWithin n I
GoWithin n (Perform k ∷ I) = GoWithin n I
GoWithin n (EnterLoop q t ∷ I) = GoWithin n I
GoWithin n (RepeatLoop l t ∷ I) = GoWithin n I
GoWithin n (ExitLoop t ∷ I) = GoWithin n I
GoWithin n (DropSelector ∷ I) = GoWithin n I

within_branch :
    {a t : ℕ} {o : Option ℕ} {H G : List Entry} (n : ℕ) → Put (Ahead a o t) H G → t ≤ n → EndWithin n H → EndWithin n G
within_branch n top le h = (le, h)
within_branch n (under b q s u) le h = (h.0, within_branch n u le h.1)

within_mark :
    {a : ℕ} {o : Option ℕ} {H G : List Entry} (n : ℕ) → Put (Begun a o) H G → EndWithin n H → EndWithin n G
within_mark n top h = h
within_mark n (under b q s u) h = (h.0, within_mark n u h.1)

case_within : (n : ℕ) (G : List Entry) → EndWithin n G → case_end G ≤ n
case_within n [] h = omega arith
case_within n (Ahead a o t ∷ G) h = case_within n G h.1
case_within n (Begun a o ∷ G) h = case_within n G h
case_within n (Looping a t ∷ G) h = case_within n G h
case_within n (Cased a zero ∷ G) h = case_within n G h.1
case_within n (Cased a (suc t) ∷ G) h = h.0
case_within n (Parted a t ∷ G) h = case_within n G h.1

pub go_within :
    {A : Type 0} {limit : ℕ} {s : List (Element A)} {p : ℕ} {G : List Entry} {I : List (Item A)} →
    Runs limit s p G I → (n : ℕ) → p + length I ≡ n → EndWithin n G × GoWithin n I
go_within over n e = (tt, tt)
go_within (plain k r) n e = let h = go_within r n (omega (arith, e)) in (h.0, h.1)
go_within (branch z o t lt r) n e = let h = go_within r n (omega (arith, e)) in (h.0.1, (h.0.0, h.1))
go_within (resolve {p = p} q a o u w r) n e =
    let h = go_within r n e in (within_branch n u (omega (arith, e)) h.0, h.1)
go_within (roll m a o t u d r) n e = let h = go_within r n e in (within_branch n u h.0.0 h.0.1, h.1)
go_within (mark o lt r) n e = let h = go_within r n e in (h.0, h.1)
go_within (back z q a o u w le r) n e =
    let h = go_within r n (omega (arith, e)) in (within_mark n u h.0, (omega (arith, e, le), h.1))
go_within (enter z t lt r) n e = let h = go_within r n (omega (arith, e)) in (h.0, h.1)
go_within (repeat z a r) n e = let h = go_within r n (omega (arith, e)) in (h.0, h.1)
go_within (leave t any d r) n e = let h = go_within r n (omega (arith, e)) in (h.0, h.1)
go_within (cases t lt r) n e = let h = go_within r n e in (h.0.1, h.1)
go_within (test t a v lt r) n e = let h = go_within r n (omega (arith, e)) in (h.0.1, (h.0.0, h.1))
go_within (end_arm {G = G} a v d r) n e =
    let h = go_within r n (omega (arith, e)) in
    let c = case_within n G h.0 in ((omega (arith, e), h.0), (omega (arith, d, c), h.1))
go_within (end_case a r) n e = let h = go_within r n (omega (arith, e)) in ((omega (arith, e), h.0), h.1)

-- ---- an `of` past its `endof`

-- these items stand from n on
abbrev pub From : {A : Type 0} → List (Item A) → ℕ → List (Item A) → Type 0
From is n I = (k : ℕ) → slice_get I k ≡ slice_get is (n + k)

pub from_next : {A : Type 0} (is : List (Item A)) (n : ℕ) (i : Item A) (I : List (Item A)) → From is n (i ∷ I) →
    From is (suc n) I
from_next is n i I f k =
    let same : n + suc k ≡ suc n + k = omega arith in f (suc k) ∙ ap (slice_get is) same

-- each `of` goes past an `endof`
abbrev pub Leads : {A : Type 0} → List (Item A) → List (Item A) → Type 0
Leads is [] = Unit {0}
Leads is (TestArm t ∷ I) = ((m : ℕ) × (e : ℕ) × (t ≡ suc m) × (slice_get is m ≡ Some (EndArm e))) × Leads is I
Leads is (JumpTo z t ∷ I) = Leads is I
Leads is (EndArm t ∷ I) = Leads is I
Leads is (Perform k ∷ I) = Leads is I
Leads is (EnterLoop q t ∷ I) = Leads is I
Leads is (RepeatLoop l t ∷ I) = Leads is I
Leads is (ExitLoop t ∷ I) = Leads is I
Leads is (DropSelector ∷ I) = Leads is I

pub leads :
    {A : Type 0} {limit : ℕ} {s : List (Element A)} {p : ℕ} {G : List Entry} {I : List (Item A)} →
    Runs limit s p G I → (is : List (Item A)) → From is p I → Leads is I
leads over is f = tt
leads (plain {p = p} {I = I} k r) is f = leads r is (from_next is p (Perform k) I f)
leads (branch {p = p} {I = I} z o t lt r) is f = leads r is (from_next is p (JumpTo z t) I f)
leads (resolve q a o u w r) is f = leads r is f
leads (roll m a o t u d r) is f = leads r is f
leads (mark o lt r) is f = leads r is f
leads (back {p = p} {I = I} z q a o u w le r) is f = leads r is (from_next is p (JumpTo z a) I f)
leads (enter {p = p} {I = I} z t lt r) is f = leads r is (from_next is p (EnterLoop z t) I f)
leads (repeat {p = p} {I = I} z a r) is f = leads r is (from_next is p (RepeatLoop z (suc a)) I f)
leads (leave {p = p} {I = I} t any d r) is f = leads r is (from_next is p (ExitLoop t) I f)
leads (cases t lt r) is f = leads r is f
leads (test {p = p} {G = G} {I = I} t a v lt r) is f =
    let k = kept r in
    let next = from_next is p (TestArm t) I f in
    let m = suc p + (t - suc (suc p)) in
    let same : t ≡ suc m = omega (arith, k.0) in
    ((m, case_end (Cased a v ∷ G), same, sym (next (t - suc (suc p))) ∙ k.1), leads r is next)
leads (end_arm {p = p} {I = I} a v d r) is f = leads r is (from_next is p (EndArm v) I f)
leads (end_case {p = p} {I = I} a r) is f = leads r is (from_next is p DropSelector I f)

-- where the `endof` goes before item t
abbrev pub arm_end : {A : Type 0} → Option (Item A) → Option ℕ
arm_end None = None
arm_end (Some (EndArm t)) = Some t
arm_end (Some (Perform k)) = None
arm_end (Some (JumpTo z t)) = None
arm_end (Some (EnterLoop q t)) = None
arm_end (Some (RepeatLoop l t)) = None
arm_end (Some (ExitLoop t)) = None
arm_end (Some (TestArm t)) = None
arm_end (Some DropSelector) = None

abbrev pub past_in : {A : Type 0} → List (Item A) → ℕ → Option ℕ
past_in is t = arm_end (slice_get is (t - 1))

pub pasts : {A : Type 0} (is : List (Item A)) (p : ℕ) (I : List (Item A)) → From is p I → Pasts (past_in is) p I
pasts is p [] f = tt
pasts is p (TestArm t ∷ I) f =
    let next = from_next is p (TestArm t) I f in (
      λ e lt h.
          (let same : suc p + (t - suc (suc p)) ≡ t - 1 = omega arith in
          ap arm_end (sym (next (t - suc (suc p)) ∙ ap (slice_get is) same) ∙ h)),
      pasts is (suc p) I next,
    )
pasts is p (Perform k ∷ I) f = pasts is (suc p) I (from_next is p (Perform k) I f)
pasts is p (JumpTo z t ∷ I) f = pasts is (suc p) I (from_next is p (JumpTo z t) I f)
pasts is p (EnterLoop q t ∷ I) f = pasts is (suc p) I (from_next is p (EnterLoop q t) I f)
pasts is p (RepeatLoop l t ∷ I) f = pasts is (suc p) I (from_next is p (RepeatLoop l t) I f)
pasts is p (ExitLoop t ∷ I) f = pasts is (suc p) I (from_next is p (ExitLoop t) I f)
pasts is p (EndArm t ∷ I) f = pasts is (suc p) I (from_next is p (EndArm t) I f)
pasts is p (DropSelector ∷ I) f = pasts is (suc p) I (from_next is p DropSelector I f)
