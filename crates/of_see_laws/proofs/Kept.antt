-- What holds of a stack of open structures, since the elements to come close all of it where its entries say.
use Rattle.std.proofs.Common.{◌≡◌, ◌≢◌, ℕ, suc, ◌+◌, ◌-◌, ◌≤◌, ◌<◌, List, [], ◌∷◌}
use Rattle.std.proofs.Common.{Option, Some, refl, ap, ◌∙◌, arith}
use Rattle.std.proofs.Common.{nat_eq}
use Rattle.std.specs.Prelude.{slice_get}
use Rattle.std.proofs.lemmas.Bool.{ne_eqb}
use Rattle.of_control.specs.Element.{Element}
use Rattle.of_control.specs.Items.{DropSelector, EndArm, EnterLoop, ExitLoop, Item, JumpTo, Perform, RepeatLoop}
use Rattle.of_control.specs.Items.{TestArm, one_if}
use Rattle.of_see_laws.proofs.Stacks.{Ahead, Begun, Cased, Entry, Looping, Parted, Placed, Put, top, under}
use Rattle.of_see_laws.proofs.Runs.{Runs, back, branch, case_end, cases, end_arm, end_case, enter, leave, mark, over}
use Rattle.of_see_laws.proofs.Runs.{plain, repeat, resolve, roll, test}

-- ---- where the entries end

-- no case here ends there
abbrev pub NoCase : ℕ → List Entry → Type 0
NoCase e [] = Unit {0}
NoCase e (Ahead a o t ∷ G) = NoCase e G
NoCase e (Begun a o ∷ G) = NoCase e G
NoCase e (Looping a t ∷ G) = NoCase e G
NoCase e (Cased a t ∷ G) = (t ≢ e) × NoCase e G
NoCase e (Parted a t ∷ G) = NoCase e G

-- the entries before item p end from there on, each case before those round it, and where an `of` ends stands its
-- `endof`
abbrev pub Kept : {A : Type 0} → ℕ → List Entry → List (Item A) → Type 0
Kept p [] I = Unit {0}
Kept p (Ahead a o t ∷ G) I = (p ≤ t) × Kept p G I
Kept p (Begun a o ∷ G) I = Kept p G I
Kept p (Looping a t ∷ G) I = (p < t) × Kept p G I
Kept p (Cased a t ∷ G) I = (p < t) × NoCase t G × Kept p G I
Kept p (Parted a t ∷ G) I = (p < t) × (slice_get I (t - suc p) ≡ Some (EndArm (case_end G))) × Kept p G I

kept_item : {A : Type 0} (p : ℕ) (G : List Entry) (i : Item A) (I : List (Item A)) → Kept (suc p) G I → Kept p G (i ∷ I)
kept_item p [] i I k = tt
kept_item p (Ahead a o t ∷ G) i I k = (omega (arith, k.0), kept_item p G i I k.1)
kept_item p (Begun a o ∷ G) i I k = kept_item p G i I k
kept_item p (Looping a t ∷ G) i I k = (omega (arith, k.0), kept_item p G i I k.1)
kept_item p (Cased a t ∷ G) i I k = (omega (arith, k.0), k.1, kept_item p G i I k.2)
kept_item p (Parted a t ∷ G) i I k =
    let next : t - suc p ≡ suc (t - suc (suc p)) = omega (arith, k.0) in
    (omega (arith, k.0), ap (slice_get (i ∷ I)) next ∙ k.1, kept_item p G i I k.2)

kept_branch :
    {A : Type 0} {a t : ℕ} {o : Option ℕ} {H G : List Entry} (p : ℕ) (I : List (Item A)) → Put (Ahead a o t) H G →
    p ≤ t → Kept p H I → Kept p G I
kept_branch p I top le k = (le, k)
kept_branch p I (under b q s u) le k = (k.0, kept_branch p I u le k.1)

pub kept_mark :
    {A : Type 0} {a : ℕ} {o : Option ℕ} {H G : List Entry} (p : ℕ) (I : List (Item A)) → Put (Begun a o) H G →
    Kept p H I → Kept p G I
kept_mark p I top k = k
kept_mark p I (under b q s u) k = (k.0, kept_mark p I u k.1)

none_earlier : {A : Type 0} (p : ℕ) (G : List Entry) (I : List (Item A)) → Kept p G I → NoCase p G
none_earlier p [] I k = tt
none_earlier p (Ahead a o t ∷ G) I k = none_earlier p G I k.1
none_earlier p (Begun a o ∷ G) I k = none_earlier p G I k
none_earlier p (Looping a t ∷ G) I k = none_earlier p G I k.1
none_earlier p (Cased a t ∷ G) I k = (omega (arith, k.0), none_earlier p G I k.2)
none_earlier p (Parted a t ∷ G) I k = none_earlier p G I k.2

pub kept :
    {A : Type 0} {limit : ℕ} {s : List (Element A)} {p : ℕ} {G : List Entry} {I : List (Item A)} →
    Runs limit s p G I → Kept p G I
kept over = tt
kept (plain {p = p} {G = G} {I = I} k r) = kept_item p G (Perform k) I (kept r)
kept (branch {p = p} {G = G} {I = I} z o t lt r) = let k = kept r in kept_item p G (JumpTo z t) I k.1
kept (resolve {p = p} {I = I} q a o u w r) = kept_branch p I u (omega arith) (kept r)
kept (roll {p = p} {I = I} n a o t u e r) = let k = kept r in kept_branch p I u k.0 k.1
kept (mark o lt r) = kept r
kept (back {p = p} {H = H} {I = I} z q a o u w le r) =
    kept_mark p (JumpTo z a ∷ I) u (kept_item p H (JumpTo z a) I (kept r))
kept (enter {p = p} {G = G} {I = I} z t lt r) = let k = kept r in kept_item p G (EnterLoop z t) I k.1
kept (repeat {p = p} {G = G} {I = I} z a r) = (omega arith, kept_item p G (RepeatLoop z (suc a)) I (kept r))
kept (leave {p = p} {G = G} {I = I} t any e r) = kept_item p G (ExitLoop t) I (kept r)
kept (cases t lt r) = let k = kept r in k.2
kept (test {p = p} {G = G} {I = I} t a e lt r) = let k = kept r in kept_item p (Cased a e ∷ G) (TestArm t) I k.2
kept (end_arm {p = p} {G = G} {I = I} a v e r) =
    let none : suc p - suc p ≡ 0 = omega arith in (
      omega arith,
      ap (slice_get (EndArm v ∷ I)) none ∙ ap (λ n. Some (EndArm n)) e,
      kept_item p G (EndArm v) I (kept r),
    )
kept (end_case {p = p} {G = G} {I = I} a r) =
    let k = kept r in (omega arith, none_earlier (suc p) G I k, kept_item p G DropSelector I k)

-- ---- the marks

-- whether an item goes back there
abbrev pub goes : {A : Type 0} → ℕ → Item A → ℕ
goes p (JumpTo z t) = one_if (nat_eq t p)
goes p (Perform k) = 0
goes p (EnterLoop q t) = 0
goes p (RepeatLoop l t) = 0
goes p (ExitLoop t) = 0
goes p (TestArm t) = 0
goes p (EndArm t) = 0
goes p DropSelector = 0

-- how many of these items, which stand from p on, go back to p
abbrev pub begins : {A : Type 0} → ℕ → List (Item A) → ℕ
begins p [] = 0
begins p (i ∷ I) = goes p i + begins p I

abbrev pub marks_at : ℕ → List Entry → ℕ
marks_at q [] = 0
marks_at q (Ahead a o t ∷ G) = marks_at q G
marks_at q (Begun a o ∷ G) = one_if (nat_eq a q) + marks_at q G
marks_at q (Looping a t ∷ G) = marks_at q G
marks_at q (Cased a t ∷ G) = marks_at q G
marks_at q (Parted a t ∷ G) = marks_at q G

-- there is an open mark for each item to come that goes back to it
pub record Balanced {A : Type 0} (p : ℕ) (G : List Entry) (I : List (Item A)) : Type 0 where
  pub before : (q : ℕ) → q < p → marks_at q G ≡ begins q I
  pub now : marks_at p G ≤ begins p I

pub marks-branch :
    {a t : ℕ} {o : Option ℕ} {H G : List Entry} (q : ℕ) → Put (Ahead a o t) H G → marks_at q G ≡ marks_at q H
marks-branch q top = refl
marks-branch q (under b p s u) = marks-branch q u

pub marks-mark :
    {a : ℕ} {o : Option ℕ} {H G : List Entry} (q : ℕ) → Put (Begun a o) H G →
    marks_at q G ≡ one_if (nat_eq a q) + marks_at q H
marks-mark q top = refl
marks-mark q (under b p s u) = marks-mark q u

-- an item that goes back nowhere
balanced_item :
    {A : Type 0} (p : ℕ) (G H : List Entry) (i : Item A) (I : List (Item A)) → Balanced (suc p) H I →
    ((q : ℕ) → q ≤ p → marks_at q G + begins q I ≡ marks_at q H + begins q (i ∷ I)) → Balanced p G (i ∷ I)
balanced_item p G H i I b same = record {
  before = λ q lt. (let h = b.before q (omega arith) in let s = same q (omega arith) in omega (arith, h, s));
  now = let h = b.before p (omega arith) in let s = same p (omega arith) in omega (arith, h, s);
}

pub balanced :
    {A : Type 0} {limit : ℕ} {s : List (Element A)} {p : ℕ} {G : List Entry} {I : List (Item A)} →
    Runs limit s p G I → Balanced p G I
balanced over = record { before = λ q lt. refl; now = omega arith }
balanced (plain {p = p} {G = G} {I = I} k r) =
    balanced_item p G G (Perform k) I (balanced r) (λ q le. omega arith)
balanced (branch {p = p} {G = G} {I = I} z o t lt r) =
    let k = kept r in
    balanced_item p G (Ahead p o t ∷ G) (JumpTo z t) I (balanced r)
    (λ q le.
    let none : one_if (nat_eq t q) ≡ 0 = ap one_if (ne_eqb t q (λ e. omega (arith, e, k.0, le))) in
    omega (arith, none))
balanced (resolve {p = p} q a o u w r) =
    let b = balanced r in record {
      before = λ n lt. marks-branch n u ∙ b.before n lt;
      now = let e = marks-branch p u in let le = b.now in omega (arith, e, le);
    }
balanced (roll {p = p} n a o t u e r) =
    let b = balanced r in record {
      before = λ n lt. marks-branch n u ∙ b.before n lt;
      now = let e = marks-branch p u in let le = b.now in omega (arith, e, le);
    }
balanced (mark {p = p} {G = G} {I = I} o lt r) =
    let b = balanced r in record {
      before = λ q l.
          (let h = b.before q l in
          let none : one_if (nat_eq p q) ≡ 0 = ap one_if (ne_eqb p q (λ e. omega (arith, e, l))) in
          omega (arith, h, none));
      now = let h = b.now in omega (arith, h);
    }
balanced (back {p = p} {H = H} {G = G} {I = I} z q a o u w le r) =
    balanced_item p G H (JumpTo z a) I (balanced r)
    (λ n l. let e = marks-mark n u in omega (arith, e))
balanced (enter {p = p} {G = G} {I = I} z t lt r) =
    balanced_item p G (Looping p t ∷ G) (EnterLoop z t) I (balanced r) (λ q le. omega arith)
balanced (repeat {p = p} {G = G} {I = I} z a r) =
    balanced_item p (Looping a (suc p) ∷ G) G (RepeatLoop z (suc a)) I (balanced r) (λ q le. omega arith)
balanced (leave {p = p} {G = G} {I = I} t any e r) =
    balanced_item p G G (ExitLoop t) I (balanced r) (λ q le. omega arith)
balanced (cases t lt r) = let b = balanced r in record { before = b.before; now = b.now }
balanced (test {p = p} {G = G} {I = I} t a e lt r) =
    balanced_item p (Cased a e ∷ G) (Parted p t ∷ Cased a e ∷ G) (TestArm t) I (balanced r) (λ q le. omega arith)
balanced (end_arm {p = p} {G = G} {I = I} a v e r) =
    balanced_item p (Parted a (suc p) ∷ G) G (EndArm v) I (balanced r) (λ q le. omega arith)
balanced (end_case {p = p} {G = G} {I = I} a r) =
    balanced_item p (Cased a (suc p) ∷ G) G DropSelector I (balanced r) (λ q le. omega arith)

-- no mark stands past the item before which it was opened
pub no_marks : (p : ℕ) (G : List Entry) → Placed p G → marks_at (suc p) G ≡ 0
no_marks p [] h = refl
no_marks p (Ahead a o t ∷ G) h = no_marks p G h.1
no_marks p (Begun a o ∷ G) h =
    let rest = no_marks p G h.1 in
    let none : one_if (nat_eq a (suc p)) ≡ 0 =
    ap one_if (ne_eqb a (suc p) (λ e. omega (arith, e, h.0))) in
    omega (arith, rest, none)
no_marks p (Looping a t ∷ G) h = no_marks p G h.1
no_marks p (Cased a t ∷ G) h = no_marks p G h.1
no_marks p (Parted a t ∷ G) h = no_marks p G h.1
