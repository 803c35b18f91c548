-- Elements, the first of them first, that are compiled from a stack of open structures on, and the items that they
-- leave, with their final targets.
use Rattle.std.proofs.Common.{◌≡◌, ℕ, zero, suc, ◌≤◌, ◌<◌, Bool, true, List, [], ◌∷◌, length, Option, Some}
use Rattle.of_control.specs.Element.{Back, Branch, Case, Do, Element, EndCase, EndOf, Leave, Loop, Mark, Of, Plain}
use Rattle.of_control.specs.Element.{Resolve, Roll}
use Rattle.of_control.specs.Items.{DropSelector, EndArm, EnterLoop, ExitLoop, Item, JumpTo, Perform, RepeatLoop}
use Rattle.of_control.specs.Items.{TestArm}
use Rattle.of_control.specs.Openers.{any_do_sys, dest_index, orig_index}
use Rattle.of_see_laws.proofs.Stacks.{Ahead, Begun, Cased, Entry, Looping, Parted, Put, depth, openers}

-- where the innermost loop ends
abbrev pub loop_end : List Entry → ℕ
loop_end [] = 0
loop_end (Looping a zero ∷ G) = loop_end G
loop_end (Looping a (suc t) ∷ G) = suc t
loop_end (Ahead a o t ∷ G) = loop_end G
loop_end (Begun a o ∷ G) = loop_end G
loop_end (Cased a t ∷ G) = loop_end G
loop_end (Parted a t ∷ G) = loop_end G

-- and the innermost case
abbrev pub case_end : List Entry → ℕ
case_end [] = 0
case_end (Cased a zero ∷ G) = case_end G
case_end (Cased a (suc t) ∷ G) = suc t
case_end (Ahead a o t ∷ G) = case_end G
case_end (Begun a o ∷ G) = case_end G
case_end (Looping a t ∷ G) = case_end G
case_end (Parted a t ∷ G) = case_end G

-- the elements, compiled before item p with these structures open, leave these items and close all
pub data Runs {A : Type 0} (limit : ℕ) : List (Element A) → ℕ → List Entry → List (Item A) → Type 0 where
  over : {p : ℕ} → Runs limit [] p [] []
  plain : {s : List (Element A)} {p : ℕ} {G : List Entry} {I : List (Item A)} (k : A) → Runs limit s (suc p) G I
      → Runs limit (Plain k ∷ s) p G (Perform k ∷ I)
  branch : {s : List (Element A)} {p : ℕ} {G : List Entry} {I : List (Item A)} (z : Bool) (o : Option ℕ) (t : ℕ)
      → length G < limit → Runs limit s (suc p) (Ahead p o t ∷ G) I → Runs limit (Branch z o ∷ s) p G (JumpTo z t ∷ I)
  resolve : {s : List (Element A)} {p : ℕ} {H G : List Entry} {I : List (Item A)} (q : Option ℕ) (a : ℕ) (o : Option ℕ)
      (u : Put (Ahead a o p) H G) → orig_index q (openers G) ≡ Some (depth u) → Runs limit s p H I
      → Runs limit (Resolve q ∷ s) p G I
  roll : {s : List (Element A)} {p : ℕ} {H G : List Entry} {I : List (Item A)} (n a : ℕ) (o : Option ℕ) (t : ℕ)
      (u : Put (Ahead a o t) H G) → n ≡ depth u → Runs limit s p (Ahead a o t ∷ H) I
      → Runs limit (Roll n ∷ s) p G I
  mark : {s : List (Element A)} {p : ℕ} {G : List Entry} {I : List (Item A)} (o : Option ℕ) → length G < limit
      → Runs limit s p (Begun p o ∷ G) I → Runs limit (Mark o ∷ s) p G I
  back : {s : List (Element A)} {p : ℕ} {H G : List Entry} {I : List (Item A)} (z : Bool) (q : Option ℕ) (a : ℕ)
      (o : Option ℕ) (u : Put (Begun a o) H G) → dest_index q (openers G) ≡ Some (depth u) → a ≤ p
      → Runs limit s (suc p) H I → Runs limit (Back z q ∷ s) p G (JumpTo z a ∷ I)
  enter : {s : List (Element A)} {p : ℕ} {G : List Entry} {I : List (Item A)} (z : Bool) (t : ℕ) → length G < limit
      → Runs limit s (suc p) (Looping p t ∷ G) I → Runs limit (Do z ∷ s) p G (EnterLoop z t ∷ I)
  repeat : {s : List (Element A)} {p : ℕ} {G : List Entry} {I : List (Item A)} (z : Bool) (a : ℕ)
      → Runs limit s (suc p) G I → Runs limit (Loop z ∷ s) p (Looping a (suc p) ∷ G) (RepeatLoop z (suc a) ∷ I)
  leave : {s : List (Element A)} {p : ℕ} {G : List Entry} {I : List (Item A)} (t : ℕ)
      → any_do_sys (openers G) ≡ true → t ≡ loop_end G → Runs limit s (suc p) G I
      → Runs limit (Leave ∷ s) p G (ExitLoop t ∷ I)
  cases : {s : List (Element A)} {p : ℕ} {G : List Entry} {I : List (Item A)} (t : ℕ) → length G < limit
      → Runs limit s p (Cased p t ∷ G) I → Runs limit (Case ∷ s) p G I
  test : {s : List (Element A)} {p : ℕ} {G : List Entry} {I : List (Item A)} (t a e : ℕ)
      → suc (length G) < limit → Runs limit s (suc p) (Parted p t ∷ Cased a e ∷ G) I
      → Runs limit (Of ∷ s) p (Cased a e ∷ G) (TestArm t ∷ I)
  end_arm : {s : List (Element A)} {p : ℕ} {G : List Entry} {I : List (Item A)} (a e : ℕ) → e ≡ case_end G
      → Runs limit s (suc p) G I → Runs limit (EndOf ∷ s) p (Parted a (suc p) ∷ G) (EndArm e ∷ I)
  end_case : {s : List (Element A)} {p : ℕ} {G : List Entry} {I : List (Item A)} (a : ℕ) → Runs limit s (suc p) G I
      → Runs limit (EndCase ∷ s) p (Cased a (suc p) ∷ G) (DropSelector ∷ I)
