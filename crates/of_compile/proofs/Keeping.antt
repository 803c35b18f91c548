-- Elements change no cell before their definition.
use Rattle.std.proofs.Common.{◌≡◌, inl, inr, ⊎_elim, ℕ, ◌+◌, ◌≤◌, zero, suc, Bool, true, false, List, [], ◌∷◌, ◌++◌}
use Rattle.std.proofs.Common.{length, take, drop, set, Option, Some, None, refl, sym, ap, subst, ◌∙◌, arith}
use Rattle.std.proofs.Common.{append_assoc, length-append}
use Rattle.std.specs.Prelude.{map, if◌then◌else◌, slice_get, remove, nat_lt}
use Rattle.std.proofs.lemmas.List.{append-nil}
use Rattle.std.proofs.Math.Seq.{take-append_seam}
use Rattle.of_code.specs.declared.item.Place.{Place}
use Rattle.of_code.specs.declared.item.Item.{Item}
use Rattle.of_code.specs.declared.item.Item.TheVariants.{EndCase as EndingCase, EndOf as EndingOf, Leave as Leaving}
use Rattle.of_code.specs.declared.item.Item.TheVariants.{Of as Testing}
use Rattle.of_code.specs.Items.{laid_out}
use Rattle.of_code.specs.Code.{Code, abandoned, appended, end_of, item_in, retargeted, retargeted_item}
use Rattle.of_control.specs.declared.opener.Opener.{Opener}
use Rattle.of_control.specs.declared.opener.Kind.TheVariants.{CaseSys, Dest, DoSys, OfSys, Orig}
use Rattle.of_control.specs.Openers.{Openers, after_taking, any_do_sys, dest_index, is_case_sys, is_do_sys, is_of_sys}
use Rattle.of_control.specs.Openers.{leave_in, of_in, on_case, opened_in, orig_count, orig_index, place_at, rolled_in}
use Rattle.of_control.specs.Openers.{taken_place, top_index, topped, without}
use Rattle.of_control.specs.Element.{Element, Plain, Branch, Resolve, Mark, Back, Roll, Do, Loop, Leave, Case, Of}
use Rattle.of_control.specs.Element.{EndOf, EndCase, Misfit}
use Rattle.of_control.specs.Calls.{after_call, call_answer, opener_at}
use Rattle.of_compile.specs.declared.element.PlainItem.{PlainItem}
use Rattle.of_compile.specs.declared.waiting.Waiting.{Waiting}
use Rattle.of_compile.specs.declared.waiting.Waiting.TheVariants.{Leaves, Arms}
use Rattle.of_compile.specs.Elements.{branch_item, do_item, loop_item, nowhere, plain_item}
use Rattle.of_compile.specs.Coding.{aimed_cell, aimed_from, code_after, coding_on, past, place_of as place_at_cell}
use Rattle.of_compile.proofs.Among.{Among, place_of_some, takes}

-- all that is open stands at n or later
abbrev pub From : ℕ → Openers → Type 0
From n None = Unit {0}
From n (Some os) = (y : Opener) → Among os y → n ≤ y.at

removed_part : (os : List Opener) (i : ℕ) (y : Opener) → Among (remove os i) y → Among os y
removed_part [] zero y a = absurd a
removed_part [] (suc i) y a = absurd a
removed_part (x ∷ os) zero y a = inr a
removed_part (x ∷ os) (suc i) y a = ⊎_elim (λ e. inl e) (λ b. inr (removed_part os i y b)) a

from_without : (n : ℕ) (os : List Opener) (o : Option ℕ) → From n (Some os) → From n (without os o)
from_without n os None f = tt
from_without n os (Some i) f = λ y a. f y (removed_part os i y a)

from_taking : (n : ℕ) (which : List Opener → Option ℕ) (os : Openers) → From n os → From n (after_taking which os)
from_taking n which None f = tt
from_taking n which (Some os) f = from_without n os (which os) f

from_more : (n : ℕ) (x : Opener) (os : List Opener) → n ≤ x.at → From n (Some os) → From n (Some (x ∷ os))
from_more n x os l f y a = ⊎_elim (λ e. subst (λ (z : Opener). n ≤ z.at) e l) (λ b. f y b) a

from_if : (n : ℕ) (b : Bool) (os : Openers) → From n os → From n (if b then os else None)
from_if n true os f = f
from_if n false os f = tt

from_opened : (n : ℕ) (x : Opener) (os : Openers) → n ≤ x.at → From n os → From n (opened_in 32 x os)
from_opened n x None l f = tt
from_opened n x (Some os) l f = from_if n (nat_lt (length os) 32) (Some (x ∷ os)) (from_more n x os l f)

from_topped :
    (n : ℕ) (o : Option Opener) (os rest : List Opener) → ((x : Opener) → o ≡ Some x → n ≤ x.at) → From n (Some rest) →
    From n (topped o rest)
from_topped n None os rest h f = tt
from_topped n (Some x) os rest h f = from_more n x rest (h x refl) f

from_rolled : (n j : ℕ) (os : Openers) → From n os → From n (rolled_in j os)
from_rolled n j None f = tt
from_rolled n j (Some os) f =
    from_if n (nat_lt j (orig_count os)) (topped (slice_get os j) (remove os j))
    (from_topped n (slice_get os j) os (remove os j) (λ x e. f x (takes os j x e).among)
    (λ y a. f y (removed_part os j y a)))

from_leave : (n : ℕ) (os : Openers) → From n os → From n (leave_in os)
from_leave n None f = tt
from_leave n (Some os) f = from_if n (any_do_sys os) (Some os) f

from_of : (n : ℕ) (x : Opener) (os : Openers) → n ≤ x.at → From n os → From n (of_in 32 x os)
from_of n x None l f = tt
from_of n x (Some os) l f = from_if n (on_case os) (opened_in 32 x (Some os)) (from_opened n x (Some os) l f)

pub from_call : (n at : ℕ) (e : Element PlainItem) (os : Openers) → n ≤ at → From n os → From n (after_call 32 at e os)
from_call n at (Plain k) os l f = f
from_call n at (Branch z t) os l f = from_opened n (opener_at at (Orig t)) os l f
from_call n at (Resolve p) os l f = from_taking n (orig_index p) os f
from_call n at (Mark p) os l f = from_opened n (opener_at at (Dest p)) os l f
from_call n at (Back z t) os l f = from_taking n (dest_index t) os f
from_call n at (Roll j) os l f = from_rolled n j os f
from_call n at (Do q) os l f = from_opened n (opener_at at DoSys) os l f
from_call n at (Loop q) os l f = from_taking n (top_index is_do_sys) os f
from_call n at Leave os l f = from_leave n os f
from_call n at Case os l f = from_opened n (opener_at at CaseSys) os l f
from_call n at Of os l f = from_of n (opener_at at OfSys) os l f
from_call n at EndOf os l f = from_taking n (top_index is_of_sys) os f
from_call n at EndCase os l f = from_taking n (top_index is_case_sys) os f
from_call n at (Misfit k) os l f = tt

from_place_at : (n a : ℕ) (os : List Opener) (o : Option ℕ) → From n (Some os) → place_at os o ≡ Some a → n ≤ a
from_place_at n a os None f e = let bad : ⊥ = cc in absurd bad
from_place_at n a os (Some i) f e =
    let x = place_of_some (slice_get os i) a e in
    subst (λ k. n ≤ k) x.2 (f x.0 (takes os i x.0 x.1).among)

from_place :
    (n a : ℕ) (which : List Opener → Option ℕ) (os : Openers) → From n os → taken_place which os ≡ Some a → n ≤ a
from_place n a which None f e = let bad : ⊥ = cc in absurd bad
from_place n a which (Some os) f e = from_place_at n a os (which os) f e

no_place : (n a : ℕ) → None ≡ Some a → n ≤ a
no_place n a e = let bad : ⊥ = cc in absurd bad

pub from_answer : (n a : ℕ) (e : Element PlainItem) (os : Openers) → From n os → call_answer e os ≡ Some a → n ≤ a
from_answer n a (Resolve p) os f e = from_place n a (orig_index p) os f e
from_answer n a (Back z t) os f e = from_place n a (dest_index t) os f e
from_answer n a (Loop l) os f e = from_place n a (top_index is_do_sys) os f e
from_answer n a EndOf os f e = from_place n a (top_index is_of_sys) os f e
from_answer n a EndCase os f e = from_place n a (top_index is_case_sys) os f e
from_answer n a (Plain k) os f e = no_place n a e
from_answer n a (Branch z t) os f e = no_place n a e
from_answer n a (Mark p) os f e = no_place n a e
from_answer n a (Roll j) os f e = no_place n a e
from_answer n a (Do q) os f e = no_place n a e
from_answer n a Leave os f e = no_place n a e
from_answer n a Case os f e = no_place n a e
from_answer n a Of os f e = no_place n a e
from_answer n a (Misfit k) os f e = no_place n a e

-- ---- cells

abbrev pub Begins : List (Option Item) → List (Option Item) → Type 0
Begins front cells = (rest : List (Option Item)) × (cells ≡ front ++ rest)

set_behind :
    (front rest : List (Option Item)) (at : ℕ) (x : Option Item) → length front ≤ at →
    Begins front (set (front ++ rest) at x)
set_behind [] rest at x h = (set rest at x, refl)
set_behind (y ∷ front) rest zero x h = absurd (omega (arith, h))
set_behind (y ∷ front) rest (suc at) x h =
    let r = set_behind front rest at x (omega (arith, h)) in (r.0, ap (λ l. y ∷ l) r.1)

aimed_behind :
    (w : Waiting) (to : Place) (front rest : List (Option Item)) (from : ℕ) → length front ≤ from →
    Begins front (take from (front ++ rest) ++ map (aimed_cell w to) (drop from (front ++ rest)))
aimed_behind w to [] rest from h = (take from rest ++ map (aimed_cell w to) (drop from rest), refl)
aimed_behind w to (y ∷ front) rest zero h = absurd (omega (arith, h))
aimed_behind w to (y ∷ front) rest (suc from) h =
    let r = aimed_behind w to front rest from (omega (arith, h)) in (r.0, ap (λ l. y ∷ l) r.1)

begins_appended :
    (front : List (Option Item)) (c : Code) (x : Item) → Begins front c.cells → Begins front (appended c x).cells
begins_appended front c x b = (b.0 ++ laid_out x, ap (λ l. l ++ laid_out x) b.1 ∙ append_assoc front b.0 (laid_out x))

begins_retargeted :
    (front : List (Option Item)) (c : Code) (at to : Place) → length front ≤ at.cell → Begins front c.cells →
    Begins front (retargeted c at to).cells
begins_retargeted front c at to l b =
    let r = set_behind front b.0 at.cell (retargeted_item (item_in c at) to) l in
    (r.0, ap (λ k. set k at.cell (retargeted_item (item_in c at) to)) b.1 ∙ r.1)

begins_aimed :
    (front : List (Option Item)) (w : Waiting) (from to : Place) (c : Code) → length front ≤ from.cell →
    Begins front c.cells → Begins front (aimed_from w from to c).cells
begins_aimed front w from to c l b =
    let r = aimed_behind w to front b.0 from.cell l in
    (r.0, ap (λ k. take from.cell k ++ map (aimed_cell w to) (drop from.cell k)) b.1 ∙ r.1)

begins_after :
    (front : List (Option Item)) (e : Element PlainItem) (o : Option ℕ) (c : Code) →
    ((a : ℕ) → o ≡ Some a → length front ≤ a) → Begins front c.cells → Begins front (code_after e o c).cells
begins_after front (Plain k) o c h b = begins_appended front c (plain_item k) b
begins_after front (Branch z t) o c h b = begins_appended front c (branch_item z nowhere) b
begins_after front (Resolve p) (Some a) c h b = begins_retargeted front c (place_at_cell a) (end_of c) (h a refl) b
begins_after front (Resolve p) None c h b = b
begins_after front (Mark p) o c h b = b
begins_after front (Back z t) (Some a) c h b = begins_appended front c (branch_item z (place_at_cell a)) b
begins_after front (Back z t) None c h b = begins_appended front c (branch_item z nowhere) b
begins_after front (Roll n) o c h b = b
begins_after front (Do q) o c h b = begins_appended front c (do_item q nowhere) b
begins_after front (Loop l) (Some a) c h b =
    let to = past (end_of c) 2 in
    let d = retargeted c (place_at_cell a) to in
    begins_appended front (aimed_from Leaves (place_at_cell a) to d) (loop_item l (place_at_cell (a + 2)))
    (begins_aimed front Leaves (place_at_cell a) to d (h a refl)
    (begins_retargeted front c (place_at_cell a) to (h a refl) b))
begins_after front (Loop l) None c h b = begins_appended front c (loop_item l nowhere) b
begins_after front Leave o c h b = begins_appended front c (Leaving nowhere) b
begins_after front Case o c h b = b
begins_after front Of o c h b = begins_appended front c (Testing nowhere) b
begins_after front EndOf (Some a) c h b =
    let to = past (end_of c) 2 in
    begins_appended front (retargeted c (place_at_cell a) to) (EndingOf nowhere)
    (begins_retargeted front c (place_at_cell a) to (h a refl) b)
begins_after front EndOf None c h b = begins_appended front c (EndingOf nowhere) b
begins_after front EndCase (Some a) c h b =
    let to = past (end_of c) 1 in
    begins_appended front (aimed_from Arms (place_at_cell a) to c) EndingCase
    (begins_aimed front Arms (place_at_cell a) to c (h a refl) b)
begins_after front EndCase None c h b = begins_appended front c EndingCase b
begins_after front (Misfit k) o c h b = begins_appended front c (plain_item k) b

record Keeps (base : Code) (es : List (Element PlainItem)) : Type 0 where
  pub cells : Begins base.cells (coding_on base es).code.cells
  pub from : From (length base.cells) (coding_on base es).openers

behind : (front cells : List (Option Item)) → Begins front cells → length front ≤ length cells
behind front cells b = let l = length-append front b.0 in let e = ap length b.1 in omega (arith, l, e)

keeps : (base : Code) (es : List (Element PlainItem)) → Keeps base es
keeps base [] = record { cells = ([], sym (append-nil base.cells)); from = λ y a. absurd a }
keeps base (e ∷ es) =
    let k = keeps base es in
    let c = coding_on base es in
    record {
      cells =
          begins_after base.cells e (call_answer e c.openers) c.code
          (λ a h. from_answer (length base.cells) a e c.openers k.from h) k.cells;
      from =
          from_call (length base.cells) (end_of c.code).cell e c.openers (behind base.cells c.code.cells k.cells)
          k.from;
    }

pub before :
    (base : Code) (es : List (Element PlainItem)) → take (length base.cells) (coding_on base es).code.cells ≡ base.cells
before base es =
    let k = keeps base es in ap (take (length base.cells)) k.cells.1 ∙ take-append_seam base.cells k.cells.0

-- only cells are changed
alone :
    (e : Element PlainItem) (a : Option ℕ) (c : Code) → code_after e a c ≡ record c { cells = (code_after e a c).cells }
alone (Plain k) a c = refl
alone (Branch z t) a c = refl
alone (Resolve p) (Some n) c = refl
alone (Resolve p) None c = refl
alone (Mark p) a c = refl
alone (Back z t) (Some n) c = refl
alone (Back z t) None c = refl
alone (Roll n) a c = refl
alone (Do q) a c = refl
alone (Loop l) (Some n) c = refl
alone (Loop l) None c = refl
alone Leave a c = refl
alone Case a c = refl
alone Of a c = refl
alone EndOf (Some n) c = refl
alone EndOf None c = refl
alone EndCase (Some n) c = refl
alone EndCase None c = refl
alone (Misfit k) a c = refl

all_alone :
    (base : Code) (es : List (Element PlainItem)) →
    (coding_on base es).code ≡ record base { cells = (coding_on base es).code.cells }
all_alone base [] = refl
all_alone base (e ∷ es) =
    let c = coding_on base es in
    let cells = (coding_on base (e ∷ es)).code.cells in
    alone e (call_answer e c.openers) c.code ∙ ap (λ (d : Code). record d { cells = cells }) (all_alone base es)

pub kept :
    (base : Code) (es : List (Element PlainItem)) → base.opened ≡ end_of base →
    abandoned (coding_on base es).code ≡ base
kept base es h =
    let cells = (coding_on base es).code.cells in
    ap abandoned (all_alone base es)
    ∙ ap (λ l. record base { cells = l }) (ap (λ (n : Place). take n.cell cells) h ∙ before base es)
