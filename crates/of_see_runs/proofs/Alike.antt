-- Elements that differ in plain items alone have items that do.
use Rattle.std.proofs.Common.{◌≡◌, ℕ, zero, suc, ◌+◌, List, [], ◌∷◌, ◌++◌, length, Option, Some, None}
use Rattle.std.proofs.Common.{map, refl, ap, sym, ◌∙◌, subst}
use Rattle.std.specs.Prelude.{IsTrue}
use Rattle.of_control.specs.Body.{Body, items_of}
use Rattle.of_control.specs.Calls.{after_call, after_calls, call_answer}
use Rattle.of_control.specs.Compiling.{compiled, compiled_next, from_item, with_endof, with_leave, with_target}
use Rattle.of_control.specs.Compiling.{with_target_at}
use Rattle.of_control.specs.Element.{Back, Branch, Case, Do, Element, EndCase, EndOf, Leave, Loop, Mark, Misfit, Of}
use Rattle.of_control.specs.Element.{Plain, Resolve, Roll}
use Rattle.of_control.specs.Items.{DropSelector, EndArm, EnterLoop, ExitLoop, Item, JumpTo, Perform, RepeatLoop}
use Rattle.of_control.specs.Items.{TestArm, is_item, item_count, one_if}
use Rattle.of_control.specs.Law.{ClosedIsRead, CompiledIsFlat, IsBodyIn}
use Rattle.of_control.specs.Openers.{Openers, is_all_closed}
use Rattle.of_compile.specs.declared.element.PlainItem.{PlainItem}
use Rattle.of_see_runs.specs.Alike.{AreAlike, IsAlike}

abbrev pub Relation : Type 1
Relation = PlainItem → PlainItem → Type 0

-- elements with related plain items
abbrev pub IsOne : Relation → Element PlainItem → Element PlainItem → Type 0
IsOne R (Plain k) f = (l : PlainItem) × (f ≡ Plain l) × R k l
IsOne R (Branch z t) f = f ≡ Branch z t
IsOne R (Resolve p) f = f ≡ Resolve p
IsOne R (Mark p) f = f ≡ Mark p
IsOne R (Back z t) f = f ≡ Back z t
IsOne R (Roll n) f = f ≡ Roll n
IsOne R (Do q) f = f ≡ Do q
IsOne R (Loop l) f = f ≡ Loop l
IsOne R Leave f = f ≡ Leave
IsOne R Case f = f ≡ Case
IsOne R Of f = f ≡ Of
IsOne R EndOf f = f ≡ EndOf
IsOne R EndCase f = f ≡ EndCase
IsOne R (Misfit k) f = (l : PlainItem) × (f ≡ Misfit l) × R k l

abbrev pub AreOnes : Relation → List (Element PlainItem) → List (Element PlainItem) → Type 0
AreOnes R [] [] = Unit {0}
AreOnes R (e ∷ es) (f ∷ fs) = IsOne R e f × AreOnes R es fs
AreOnes R [] (f ∷ fs) = ⊥
AreOnes R (e ∷ es) [] = ⊥

-- ---- the control-flow stack doesn't look at plain items

after_one : (R : Relation) (e f : Element PlainItem) (limit at : ℕ) (os : Openers) → IsOne R e f
    → after_call limit at e os ≡ after_call limit at f os
after_one R (Plain k) f limit at os h = ap (λ x. after_call limit at x os) (sym h.1)
after_one R (Branch z t) f limit at os h = ap (λ x. after_call limit at x os) (sym h)
after_one R (Resolve p) f limit at os h = ap (λ x. after_call limit at x os) (sym h)
after_one R (Mark p) f limit at os h = ap (λ x. after_call limit at x os) (sym h)
after_one R (Back z t) f limit at os h = ap (λ x. after_call limit at x os) (sym h)
after_one R (Roll n) f limit at os h = ap (λ x. after_call limit at x os) (sym h)
after_one R (Do q) f limit at os h = ap (λ x. after_call limit at x os) (sym h)
after_one R (Loop l) f limit at os h = ap (λ x. after_call limit at x os) (sym h)
after_one R Leave f limit at os h = ap (λ x. after_call limit at x os) (sym h)
after_one R Case f limit at os h = ap (λ x. after_call limit at x os) (sym h)
after_one R Of f limit at os h = ap (λ x. after_call limit at x os) (sym h)
after_one R EndOf f limit at os h = ap (λ x. after_call limit at x os) (sym h)
after_one R EndCase f limit at os h = ap (λ x. after_call limit at x os) (sym h)
after_one R (Misfit k) f limit at os h = ap (λ x. after_call limit at x os) (sym h.1)

answer_one : (R : Relation) (e f : Element PlainItem) (os : Openers) → IsOne R e f
    → call_answer e os ≡ call_answer f os
answer_one R (Plain k) f os h = ap (λ x. call_answer x os) (sym h.1)
answer_one R (Branch z t) f os h = ap (λ x. call_answer x os) (sym h)
answer_one R (Resolve p) f os h = ap (λ x. call_answer x os) (sym h)
answer_one R (Mark p) f os h = ap (λ x. call_answer x os) (sym h)
answer_one R (Back z t) f os h = ap (λ x. call_answer x os) (sym h)
answer_one R (Roll n) f os h = ap (λ x. call_answer x os) (sym h)
answer_one R (Do q) f os h = ap (λ x. call_answer x os) (sym h)
answer_one R (Loop l) f os h = ap (λ x. call_answer x os) (sym h)
answer_one R Leave f os h = ap (λ x. call_answer x os) (sym h)
answer_one R Case f os h = ap (λ x. call_answer x os) (sym h)
answer_one R Of f os h = ap (λ x. call_answer x os) (sym h)
answer_one R EndOf f os h = ap (λ x. call_answer x os) (sym h)
answer_one R EndCase f os h = ap (λ x. call_answer x os) (sym h)
answer_one R (Misfit k) f os h = ap (λ x. call_answer x os) (sym h.1)

item_one : (R : Relation) (e f : Element PlainItem) → IsOne R e f → is_item e ≡ is_item f
item_one R (Plain k) f h = ap is_item (sym h.1)
item_one R (Branch z t) f h = ap is_item (sym h)
item_one R (Resolve p) f h = ap is_item (sym h)
item_one R (Mark p) f h = ap is_item (sym h)
item_one R (Back z t) f h = ap is_item (sym h)
item_one R (Roll n) f h = ap is_item (sym h)
item_one R (Do q) f h = ap is_item (sym h)
item_one R (Loop l) f h = ap is_item (sym h)
item_one R Leave f h = ap is_item (sym h)
item_one R Case f h = ap is_item (sym h)
item_one R Of f h = ap is_item (sym h)
item_one R EndOf f h = ap is_item (sym h)
item_one R EndCase f h = ap is_item (sym h)
item_one R (Misfit k) f h = ap is_item (sym h.1)

count_ones : (R : Relation) (es fs : List (Element PlainItem)) → AreOnes R es fs → item_count es ≡ item_count fs
count_ones R [] [] h = refl
count_ones R (e ∷ es) (f ∷ fs) h =
    ap (λ n. n + one_if (is_item e)) (count_ones R es fs h.1)
    ∙ ap (λ b. item_count fs + one_if b) (item_one R e f h.0)
count_ones R [] (f ∷ fs) h = absurd h
count_ones R (e ∷ es) [] h = absurd h

open_ones : (R : Relation) (limit : ℕ) (es fs : List (Element PlainItem)) → AreOnes R es fs
    → after_calls limit item_count es ≡ after_calls limit item_count fs
open_ones R limit [] [] h = refl
open_ones R limit (e ∷ es) (f ∷ fs) h =
    ap (λ os. after_call limit (item_count es) e os) (open_ones R limit es fs h.1)
    ∙ ap (λ n. after_call limit n e (after_calls limit item_count fs)) (count_ones R es fs h.1)
    ∙ after_one R e f limit (item_count fs) (after_calls limit item_count fs) h.0
open_ones R limit [] (f ∷ fs) h = absurd h
open_ones R limit (e ∷ es) [] h = absurd h

-- ---- items

target_alike : (R : Relation) (t : ℕ) (i j : Item PlainItem) → IsAlike R i j
    → IsAlike R (with_target t i) (with_target t j)
target_alike R t (Perform k) j h = (h.0, ap (with_target t) h.1, h.2)
target_alike R t (JumpTo z s) j h = ap (with_target t) h
target_alike R t (EnterLoop q s) j h = ap (with_target t) h
target_alike R t (RepeatLoop l s) j h = ap (with_target t) h
target_alike R t (ExitLoop s) j h = ap (with_target t) h
target_alike R t (TestArm s) j h = ap (with_target t) h
target_alike R t (EndArm s) j h = ap (with_target t) h
target_alike R t DropSelector j h = ap (with_target t) h

leave_alike : (R : Relation) (t : ℕ) (i j : Item PlainItem) → IsAlike R i j
    → IsAlike R (with_leave t i) (with_leave t j)
leave_alike R t (Perform k) j h = (h.0, ap (with_leave t) h.1, h.2)
leave_alike R t (JumpTo z s) j h = ap (with_leave t) h
leave_alike R t (EnterLoop q s) j h = ap (with_leave t) h
leave_alike R t (RepeatLoop l s) j h = ap (with_leave t) h
leave_alike R t (ExitLoop zero) j h = ap (with_leave t) h
leave_alike R t (ExitLoop (suc s)) j h = ap (with_leave t) h
leave_alike R t (TestArm s) j h = ap (with_leave t) h
leave_alike R t (EndArm s) j h = ap (with_leave t) h
leave_alike R t DropSelector j h = ap (with_leave t) h

endof_alike : (R : Relation) (t : ℕ) (i j : Item PlainItem) → IsAlike R i j
    → IsAlike R (with_endof t i) (with_endof t j)
endof_alike R t (Perform k) j h = (h.0, ap (with_endof t) h.1, h.2)
endof_alike R t (JumpTo z s) j h = ap (with_endof t) h
endof_alike R t (EnterLoop q s) j h = ap (with_endof t) h
endof_alike R t (RepeatLoop l s) j h = ap (with_endof t) h
endof_alike R t (ExitLoop s) j h = ap (with_endof t) h
endof_alike R t (TestArm s) j h = ap (with_endof t) h
endof_alike R t (EndArm zero) j h = ap (with_endof t) h
endof_alike R t (EndArm (suc s)) j h = ap (with_endof t) h
endof_alike R t DropSelector j h = ap (with_endof t) h

length_alike : (R : Relation) (is js : List (Item PlainItem)) → AreAlike R is js → length is ≡ length js
length_alike R [] [] h = refl
length_alike R (i ∷ is) (j ∷ js) h = ap suc (length_alike R is js h.1)
length_alike R [] (j ∷ js) h = absurd h
length_alike R (i ∷ is) [] h = absurd h

append_alike : (R : Relation) (is js vs ws : List (Item PlainItem)) → AreAlike R is js → AreAlike R vs ws
    → AreAlike R (is ++ vs) (js ++ ws)
append_alike R [] [] vs ws h k = k
append_alike R (i ∷ is) (j ∷ js) vs ws h k = (h.0, append_alike R is js vs ws h.1 k)
append_alike R [] (j ∷ js) vs ws h k = absurd h
append_alike R (i ∷ is) [] vs ws h k = absurd h

at_alike : (R : Relation) (n t : ℕ) (is js : List (Item PlainItem)) → AreAlike R is js
    → AreAlike R (with_target_at n t is) (with_target_at n t js)
at_alike R n t [] [] h = tt
at_alike R zero t (i ∷ is) (j ∷ js) h = (target_alike R t i j h.0, h.1)
at_alike R (suc n) t (i ∷ is) (j ∷ js) h = (h.0, at_alike R n t is js h.1)
at_alike R n t [] (j ∷ js) h = absurd h
at_alike R n t (i ∷ is) [] h = absurd h

map_alike : (R : Relation) (f : Item PlainItem → Item PlainItem) (is js : List (Item PlainItem))
    → ((i j : Item PlainItem) → IsAlike R i j → IsAlike R (f i) (f j)) → AreAlike R is js
    → AreAlike R (map f is) (map f js)
map_alike R f [] [] g h = tt
map_alike R f (i ∷ is) (j ∷ js) g h = (g i j h.0, map_alike R f is js g h.1)
map_alike R f [] (j ∷ js) g h = absurd h
map_alike R f (i ∷ is) [] g h = absurd h

from_alike : (R : Relation) (n : ℕ) (f : Item PlainItem → Item PlainItem) (is js : List (Item PlainItem))
    → ((i j : Item PlainItem) → IsAlike R i j → IsAlike R (f i) (f j)) → AreAlike R is js
    → AreAlike R (from_item n f is) (from_item n f js)
from_alike R zero f is js g h = map_alike R f is js g h
from_alike R (suc n) f [] [] g h = tt
from_alike R (suc n) f (i ∷ is) (j ∷ js) g h = (h.0, from_alike R n f is js g h.1)
from_alike R (suc n) f [] (j ∷ js) g h = absurd h
from_alike R (suc n) f (i ∷ is) [] g h = absurd h

-- an item behind others
abbrev one : Item PlainItem → List (Item PlainItem)
one i = i ∷ []

put_alike : (R : Relation) (i j : Item PlainItem) (is js : List (Item PlainItem)) → IsAlike R i j
    → AreAlike R is js → AreAlike R (is ++ one i) (js ++ one j)
put_alike R i j is js h k = append_alike R is js (one i) (one j) k (h, tt)

-- the same of an element that is the same
same_next : (R : Relation) (e : Element PlainItem) (o : Option ℕ) (is js : List (Item PlainItem))
    → ((k : PlainItem) → e ≡ Plain k → ⊥) → ((k : PlainItem) → e ≡ Misfit k → ⊥) → AreAlike R is js
    → AreAlike R (compiled_next e o is) (compiled_next e o js)
same_next R (Plain k) o is js p q h = absurd (p k refl)
same_next R (Branch z t) o is js p q h = put_alike R (JumpTo z 0) (JumpTo z 0) is js refl h
same_next R (Resolve r) (Some n) is js p q h =
    subst (λ l. AreAlike R (with_target_at n (length is) is) (with_target_at n l js)) (length_alike R is js h)
    (at_alike R n (length is) is js h)
same_next R (Resolve r) None is js p q h = h
same_next R (Mark r) o is js p q h = h
same_next R (Back z t) (Some n) is js p q h = put_alike R (JumpTo z n) (JumpTo z n) is js refl h
same_next R (Back z t) None is js p q h = put_alike R (JumpTo z 0) (JumpTo z 0) is js refl h
same_next R (Roll n) o is js p q h = h
same_next R (Do r) o is js p q h = put_alike R (EnterLoop r 0) (EnterLoop r 0) is js refl h
same_next R (Loop l) (Some n) is js p q h =
    let end = suc (length is) in
    subst (λ x. AreAlike R (from_item n (with_leave end) (with_target_at n end is) ++ one (RepeatLoop l (suc n)))
    (from_item n (with_leave (suc x)) (with_target_at n (suc x) js) ++ one (RepeatLoop l (suc n))))
    (length_alike R is js h)
    (put_alike R (RepeatLoop l (suc n)) (RepeatLoop l (suc n)) (from_item n (with_leave end) (with_target_at n end is))
    (from_item n (with_leave end) (with_target_at n end js)) refl
    (from_alike R n (with_leave end) (with_target_at n end is) (with_target_at n end js) (leave_alike R end)
    (at_alike R n end is js h)))
same_next R (Loop l) None is js p q h = put_alike R (RepeatLoop l 0) (RepeatLoop l 0) is js refl h
same_next R Leave o is js p q h = put_alike R (ExitLoop 0) (ExitLoop 0) is js refl h
same_next R Case o is js p q h = h
same_next R Of o is js p q h = put_alike R (TestArm 0) (TestArm 0) is js refl h
same_next R EndOf (Some n) is js p q h =
    let end = suc (length is) in
    subst (λ x. AreAlike R (with_target_at n end is ++ one (EndArm 0)) (with_target_at n (suc x) js ++ one (EndArm 0)))
    (length_alike R is js h)
    (put_alike R (EndArm 0) (EndArm 0) (with_target_at n end is) (with_target_at n end js) refl
    (at_alike R n end is js h))
same_next R EndOf None is js p q h = put_alike R (EndArm 0) (EndArm 0) is js refl h
same_next R EndCase (Some n) is js p q h =
    let end = suc (length is) in
    subst (λ x. AreAlike R (from_item n (with_endof end) is ++ one DropSelector)
    (from_item n (with_endof (suc x)) js ++ one DropSelector)) (length_alike R is js h)
    (put_alike R DropSelector DropSelector (from_item n (with_endof end) is) (from_item n (with_endof end) js) refl
    (from_alike R n (with_endof end) is js (endof_alike R end) h))
same_next R EndCase None is js p q h = put_alike R DropSelector DropSelector is js refl h
same_next R (Misfit k) o is js p q h = absurd (q k refl)

next_same : (R : Relation) (e f : Element PlainItem) (o : Option ℕ) (is js : List (Item PlainItem)) → f ≡ e
    → ((k : PlainItem) → e ≡ Plain k → ⊥) → ((k : PlainItem) → e ≡ Misfit k → ⊥) → AreAlike R is js
    → AreAlike R (compiled_next e o is) (compiled_next f o js)
next_same R e f o is js same p q h =
    subst (λ x. AreAlike R (compiled_next e o is) (compiled_next x o js)) (sym same) (same_next R e o is js p q h)

next_one : (R : Relation) (e f : Element PlainItem) (o : Option ℕ) (is js : List (Item PlainItem)) → IsOne R e f
    → AreAlike R is js → AreAlike R (compiled_next e o is) (compiled_next f o js)
next_one R (Plain k) f o is js h a =
    subst (λ x. AreAlike R (is ++ one (Perform k)) (compiled_next x o js)) (sym h.1)
    (put_alike R (Perform k) (Perform h.0) is js (h.0, refl, h.2) a)
next_one R (Branch z t) f o is js h a = next_same R (Branch z t) f o is js h (λ k e. absurd cc) (λ k e. absurd cc) a
next_one R (Resolve p) f o is js h a = next_same R (Resolve p) f o is js h (λ k e. absurd cc) (λ k e. absurd cc) a
next_one R (Mark p) f o is js h a = next_same R (Mark p) f o is js h (λ k e. absurd cc) (λ k e. absurd cc) a
next_one R (Back z t) f o is js h a = next_same R (Back z t) f o is js h (λ k e. absurd cc) (λ k e. absurd cc) a
next_one R (Roll n) f o is js h a = next_same R (Roll n) f o is js h (λ k e. absurd cc) (λ k e. absurd cc) a
next_one R (Do q) f o is js h a = next_same R (Do q) f o is js h (λ k e. absurd cc) (λ k e. absurd cc) a
next_one R (Loop l) f o is js h a = next_same R (Loop l) f o is js h (λ k e. absurd cc) (λ k e. absurd cc) a
next_one R Leave f o is js h a = next_same R Leave f o is js h (λ k e. absurd cc) (λ k e. absurd cc) a
next_one R Case f o is js h a = next_same R Case f o is js h (λ k e. absurd cc) (λ k e. absurd cc) a
next_one R Of f o is js h a = next_same R Of f o is js h (λ k e. absurd cc) (λ k e. absurd cc) a
next_one R EndOf f o is js h a = next_same R EndOf f o is js h (λ k e. absurd cc) (λ k e. absurd cc) a
next_one R EndCase f o is js h a = next_same R EndCase f o is js h (λ k e. absurd cc) (λ k e. absurd cc) a
next_one R (Misfit k) f o is js h a =
    subst (λ x. AreAlike R (is ++ one (Perform k)) (compiled_next x o js)) (sym h.1)
    (put_alike R (Perform k) (Perform h.0) is js (h.0, refl, h.2) a)

compiled_ones : (R : Relation) (limit : ℕ) (es fs : List (Element PlainItem)) → AreOnes R es fs
    → AreAlike R (compiled limit es) (compiled limit fs)
compiled_ones R limit [] [] h = tt
compiled_ones R limit (e ∷ es) (f ∷ fs) h =
    let answer : call_answer e (after_calls limit item_count es) ≡ call_answer f (after_calls limit item_count fs)
    = ap (call_answer e) (open_ones R limit es fs h.1)
    ∙ answer_one R e f (after_calls limit item_count fs) h.0 in
    subst (λ o. AreAlike R (compiled_next e (call_answer e (after_calls limit item_count es)) (compiled limit es))
    (compiled_next f o (compiled limit fs))) answer
    (next_one R e f (call_answer e (after_calls limit item_count es)) (compiled limit es) (compiled limit fs) h.0
    (compiled_ones R limit es fs h.1))
compiled_ones R limit [] (f ∷ fs) h = absurd h
compiled_ones R limit (e ∷ es) [] h = absurd h

-- ---- bodies

-- what elements have in the place of others that have a body
pub record HasAlike (R : Relation) (fs : List (Element PlainItem)) (b : Body PlainItem) : Type 0 where
  pub body : Body PlainItem
  pub is_body : IsBodyIn 32 fs body
  pub alike : AreAlike R (items_of b) (items_of body)

pub bodies_alike : ClosedIsRead PlainItem 32 → CompiledIsFlat PlainItem 32 → (R : Relation)
    (es fs : List (Element PlainItem)) (b : Body PlainItem) → AreOnes R es fs → IsBodyIn 32 es b → HasAlike R fs b
bodies_alike law flat R es fs b h body =
    let was : IsTrue (is_all_closed (after_calls 32 item_count es)) = (law.read item_count es).1 (b, body) in
    let now : IsTrue (is_all_closed (after_calls 32 item_count fs))
    = subst (λ os. IsTrue (is_all_closed os)) (open_ones R 32 es fs h) was in
    let found = (law.read item_count fs).0 now in
    record {
      body = found.0;
      is_body = found.1;
      alike = subst (λ is. AreAlike R is (items_of found.0)) (flat.whole es b body)
          (subst (λ js. AreAlike R (compiled 32 es) js) (flat.whole fs found.0 found.1) (compiled_ones R 32 es fs h));
    }
