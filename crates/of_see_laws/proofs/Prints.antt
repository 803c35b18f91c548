-- What `see` prints of the items that elements leave runs, and leaves these items.
use Rattle.std.proofs.Common.{◌≡◌, ℕ, suc, ◌-◌, ◌≤◌, ◌<◌, Bool, true, false, not, List, [], ◌∷◌, length, Option, Some}
use Rattle.std.proofs.Common.{None, refl, ap, sym, ◌∙◌, subst, arith, nat_eq, if◌then◌else◌}
use Rattle.std.specs.Prelude.{slice_get}
use Rattle.std.proofs.lemmas.Bool.{eq-eqb, le-ltb, lt-ltb, ne_eqb}
use Rattle.of_control.specs.Element.{Back, Branch, Element, EndCase, EndOf, Of}
use Rattle.of_control.specs.Items.{DropSelector, EndArm, EnterLoop, ExitLoop, Item, JumpTo, Perform, RepeatLoop}
use Rattle.of_control.specs.Items.{TestArm, one_if}
use Rattle.of_see.specs.SeeItems.{is_new, lasting, with_end}
use Rattle.of_see_laws.proofs.Stacks.{Ahead, Begun, Cased, Entry, Looping, Parted, Placed, Put, length-put}
use Rattle.of_see_laws.proofs.Stacks.{place_of_put, placed_more, placed_without, top}
use Rattle.of_see_laws.proofs.Runs.{Runs, back, branch, case_end, cases, end_arm, end_case, enter, leave, mark, over}
use Rattle.of_see_laws.proofs.Runs.{plain, repeat, resolve, roll, test}
use Rattle.of_see_laws.proofs.Kept.{Kept, NoCase, balanced, begins, kept, kept_mark, marks-branch, marks-mark}
use Rattle.of_see_laws.proofs.Kept.{marks_at, no_marks}
use Rattle.of_see_laws.proofs.Seen.{CanClose, NoneTo, begins_case, branch_ends, can-put, case_if, close, close-none}
use Rattle.of_see_laws.proofs.Seen.{close-put, closed, element, ends-close, endings, ends-mark, ends_after, none_can}
use Rattle.of_see_laws.proofs.Seen.{printed, ready, with_branch}
use Rattle.of_see_laws.proofs.Shown.{Shows, ahead, any_shown, armed, begun, case_end_top, dormant, few_shown, first}
use Rattle.of_see_laws.proofs.Shown.{has_first, later, lasting_all, lasting_first, loop_shown, looping, mark_index}
use Rattle.of_see_laws.proofs.Shown.{new_case, none_shown, nothing, without_branch, without_mark}

-- before item p, where n marks are left to be printed
pub record Prints {A : Type 0} (limit : ℕ) (past : ℕ → Option ℕ) (p n : ℕ) (I : List (Item A)) (H : List Entry)
    (cs : List ℕ) : Type 0 where
  pub can : CanClose p H
  pub runs : Runs limit (ready past p n I (branch_ends (close p H)) cs) p (close p H) I

-- `past` finds where the `endof` goes that an `of` leads to
abbrev pub Pasts : {A : Type 0} → (ℕ → Option ℕ) → ℕ → List (Item A) → Type 0
Pasts past p [] = Unit {0}
Pasts past p (TestArm t ∷ I) =
    ((e : ℕ) → suc p < t → slice_get I (t - suc (suc p)) ≡ Some (EndArm e) → past t ≡ Some e) × Pasts past (suc p) I
Pasts past p (Perform k ∷ I) = Pasts past (suc p) I
Pasts past p (JumpTo z t ∷ I) = Pasts past (suc p) I
Pasts past p (EnterLoop q t ∷ I) = Pasts past (suc p) I
Pasts past p (RepeatLoop l t ∷ I) = Pasts past (suc p) I
Pasts past p (ExitLoop t ∷ I) = Pasts past (suc p) I
Pasts past p (EndArm t ∷ I) = Pasts past (suc p) I
Pasts past p (DropSelector ∷ I) = Pasts past (suc p) I

-- ---- between items

-- all from a gap on, where its marks are still to come
all_printed :
    {A : Type 0} (limit : ℕ) (past : ℕ → Option ℕ) (p : ℕ) (I : List (Item A)) (H : List Entry) (cs : List ℕ) →
    Prints limit past p (begins p I) I H cs → Runs limit (printed past p I (branch_ends H) cs) p H I
all_printed limit past p [] H cs r = closed p H [] [] r.can r.runs
all_printed limit past p (i ∷ I) H cs r =
    subst (λ ts. Runs limit (endings p 0 (branch_ends H) (ready past p (begins p (i ∷ I)) (i ∷ I) ts cs)) p H (i ∷ I))
    (ends-close p H)
    (closed p H (ready past p (begins p (i ∷ I)) (i ∷ I) (branch_ends (close p H)) cs) (i ∷ I) r.can r.runs)

-- all from the gap behind an item on, in which no mark stands yet
pub go_on :
    {A : Type 0} (limit : ℕ) (past : ℕ → Option ℕ) (p : ℕ) (G : List Entry) (I : List (Item A)) (H : List Entry)
    (cs : List ℕ) → marks_at p G ≡ 0 → Prints limit past p (begins p I - marks_at p G) I H cs →
    Runs limit (printed past p I (branch_ends H) cs) p H I
go_on limit past p G I H cs none r =
    let all : begins p I - marks_at p G ≡ begins p I = omega (arith, none) in
    all_printed limit past p I H cs (subst (λ n. Prints limit past p n I H cs) all r)

-- what is printed at an item, before which no branch ends and no mark is left
at_item :
    {A : Type 0} (limit : ℕ) (past : ℕ → Option ℕ) (p n : ℕ) (i : Item A) (I : List (Item A)) (H : List Entry)
    (cs : List ℕ) → NoneTo p H → n ≡ 0 →
    Runs limit (case_if (begins_case past p i cs)
    (element p i ∷ printed past (suc p) I (with_branch p i (branch_ends H)) (ends_after p i cs))) p H (i ∷ I) →
    Prints limit past p n (i ∷ I) H cs
at_item limit past p n i I H cs none e r = record {
  can = none_can p H none;
  runs =
      subst (λ G. Runs limit (ready past p n (i ∷ I) (branch_ends G) cs) p G (i ∷ I)) (sym (close-none p H none))
      (subst (λ m. Runs limit (ready past p m (i ∷ I) (branch_ends H) cs) p H (i ∷ I)) (sym e) r);
}

-- ---- gaps

branch_closed :
    {A : Type 0} {a : ℕ} {M H : List Entry} (limit : ℕ) (past : ℕ → Option ℕ) (p n m : ℕ) (I : List (Item A))
    (cs : List ℕ) → Put (Ahead a None p) M H → m ≡ n → Prints limit past p m I M cs → Prints limit past p n I H cs
branch_closed {M = M} limit past p n m I cs u e r = record {
  can = can-put p u r.can;
  runs =
      subst (λ G. Runs limit (ready past p n I (branch_ends G) cs) p G I) (sym (close-put p refl u))
      (subst (λ k. Runs limit (ready past p k I (branch_ends (close p M)) cs) p (close p M) I) e r.runs);
}

mark_printed :
    {A : Type 0} (limit : ℕ) (past : ℕ → Option ℕ) (p n m : ℕ) (I : List (Item A)) (H : List Entry) (cs : List ℕ) →
    length H < limit → m ≡ suc n → n < begins p I → Prints limit past p n I (Begun p None ∷ H) cs →
    Prints limit past p m I H cs
mark_printed limit past p n m [] H cs lt e more r = absurd (omega arith)
mark_printed limit past p n m (i ∷ I) H cs lt e more r =
    let same = ap length (close-none p H r.can) in
    record {
      can = none_can p H r.can;
      runs =
          subst (λ k. Runs limit (ready past p k (i ∷ I) (branch_ends (close p H)) cs) p (close p H) (i ∷ I)) (sym e)
          (mark None (omega (arith, same, lt)) r.runs);
    }

-- ---- items that end a structure or begin a part of a case

-- all that follows an item, wherever the stack after it shows the other
abbrev Follows : {A : Type 0} → ℕ → (ℕ → Option ℕ) → ℕ → List Entry → List (Item A) → Type 0
Follows limit past p G I =
    (H : List Entry) (cs : List ℕ) → Shows G H cs → Runs limit (printed past p I (branch_ends H) cs) p H I

loop_printed :
    {A : Type 0} (limit : ℕ) (past : ℕ → Option ℕ) (p n : ℕ) (z : Bool) (a : ℕ) (G : List Entry) (I : List (Item A))
    (H : List Entry) (cs : List ℕ) → n ≡ 0 → Kept (suc p) G I → Follows limit past (suc p) G I →
    Shows (Looping a (suc p) ∷ G) H cs → Prints limit past p n (RepeatLoop z (suc a) ∷ I) H cs
loop_printed limit past p n z a G I H cs e k next (looping {H = M} b t s) =
    at_item limit past p n (RepeatLoop z (suc a)) I (Looping a (suc p) ∷ M) cs (none_shown p I s k) e
    (repeat z a (next M cs s))

arm_begun :
    {A : Type 0} (limit : ℕ) (past : ℕ → Option ℕ) (p n t a e : ℕ) (G : List Entry) (I : List (Item A))
    (H : List Entry) (cs : List ℕ) → n ≡ 0 → suc (length G) < limit → past t ≡ Some e →
    Kept (suc p) (Cased a e ∷ G) I → Follows limit past (suc p) (Parted p t ∷ Cased a e ∷ G) I →
    Shows (Cased a e ∷ G) H cs → Prints limit past p n (TestArm t ∷ I) H cs
arm_begun limit past p n t a e G I H cs n0 lt goes k next (dormant b d s) =
    let few = few_shown s in
    let fresh : is_new cs (past t) ≡ true = ap (is_new cs) goes ∙ ap not (new_case e s k.1) in
    at_item limit past p n (TestArm t) I H cs (none_shown p I s k.2) n0
    (subst (λ b. Runs limit (case_if b (Of ∷ printed past (suc p) I
    (branch_ends H) cs)) p H (TestArm t ∷ I)) (sym fresh)
    (cases e (omega (arith, few, lt))
    (test t p e (omega (arith, few, lt)) (next (Parted p t ∷ Cased p e ∷ H) cs (first p t a p e s)))))
arm_begun limit past p n t a e G I H cs n0 lt goes k next (armed {H = M} {cs = ds} b c d s) =
    let few = few_shown s in
    let old : is_new (e ∷ ds) (past t) ≡ false = ap (is_new (e ∷ ds)) goes ∙ ap not (has_first e ds) in
    at_item limit past p n (TestArm t) I (Cased c e ∷ M) (e ∷ ds) (none_shown p I s k.2) n0
    (subst (λ b. Runs limit (case_if b (Of ∷ printed past (suc p) I
    (branch_ends M) (e ∷ ds))) p (Cased c e ∷ M) (TestArm t ∷ I)) (sym old)
    (test t c e (omega (arith, few, lt)) (next (Parted p t ∷ Cased c e ∷ M) (e ∷ ds) (later p t a c e s))))

arm_ended :
    {A : Type 0} (limit : ℕ) (past : ℕ → Option ℕ) (p n a v : ℕ) (G : List Entry) (I : List (Item A))
    (H : List Entry) (cs : List ℕ) → n ≡ 0 → v ≡ case_end G → Kept (suc p) G I → Follows limit past (suc p) G I →
    Shows (Parted a (suc p) ∷ G) H cs → Prints limit past p n (EndArm v ∷ I) H cs
arm_ended limit past p n a v G I H cs n0 goes k next (first {G = N} {H = M} b t c d e s) =
    let same : v ≡ e = goes ∙ case_end_top p c e N (omega (arith, k.0)) in
    let kept_end : with_end v cs ≡ e ∷ cs =
    ap (λ m. with_end m cs) same ∙ ap (λ b. if b then cs else e ∷ cs) (new_case e s k.1) in
    at_item limit past p n (EndArm v) I (Parted a (suc p) ∷ Cased d e ∷ M) cs (none_shown p I s k.2) n0
    (subst (λ l. Runs limit (EndOf ∷ printed past (suc p) I (branch_ends M) l) p
    (Parted a (suc p) ∷ Cased d e ∷ M) (EndArm v ∷ I)) (sym kept_end)
    (end_arm a v (same ∙ sym (case_end_top p d e M (omega (arith, k.0))))
    (next (Cased d e ∷ M) (e ∷ cs) (armed c d e s))))
arm_ended limit past p n a v G I H cs n0 goes k next (later {G = N} {H = M} {cs = ds} b t c d e s) =
    let same : v ≡ e = goes ∙ case_end_top p c e N (omega (arith, k.0)) in
    let kept_end : with_end v (e ∷ ds) ≡ e ∷ ds =
    ap (λ m. with_end m (e ∷ ds)) same ∙ ap (λ b. if b then e ∷ ds else e ∷ e ∷ ds) (has_first e ds) in
    at_item limit past p n (EndArm v) I (Parted a (suc p) ∷ Cased d e ∷ M) (e ∷ ds) (none_shown p I s k.2) n0
    (subst (λ l. Runs limit (EndOf ∷ printed past (suc p) I (branch_ends M) l) p
    (Parted a (suc p) ∷ Cased d e ∷ M) (EndArm v ∷ I)) (sym kept_end)
    (end_arm a v (same ∙ sym (case_end_top p d e M (omega (arith, k.0))))
    (next (Cased d e ∷ M) (e ∷ ds) (armed c d e s))))

case_ended :
    {A : Type 0} (limit : ℕ) (past : ℕ → Option ℕ) (p n a : ℕ) (G : List Entry) (I : List (Item A))
    (H : List Entry) (cs : List ℕ) → n ≡ 0 → suc (length G) ≤ limit → NoCase (suc p) G → Kept (suc p) G I →
    Follows limit past (suc p) G I → Shows (Cased a (suc p) ∷ G) H cs → Prints limit past p n (DropSelector ∷ I) H cs
case_ended limit past p n a G I H cs n0 le none k next (dormant b d s) =
    let few = few_shown s in
    let new = new_case (suc p) s none in
    at_item limit past p n DropSelector I H cs (none_shown p I s k) n0
    (subst (λ b. Runs limit (case_if b (EndCase ∷ printed past (suc p) I
    (branch_ends H) (lasting (suc p) cs))) p H (DropSelector ∷ I)) (sym (ap not new))
    (cases (suc p) (omega (arith, few, le))
    (end_case p (subst (λ l. Runs limit (printed past (suc p) I (branch_ends H) l) (suc p) H I)
    (sym (lasting_all (suc p) cs new)) (next H cs s)))))
case_ended limit past p n a G I H cs n0 le none k next (armed {H = M} {cs = ds} b c d s) =
    let new = new_case (suc p) s none in
    at_item limit past p n DropSelector I (Cased c (suc p) ∷ M) (suc p ∷ ds) (none_shown p I s k) n0
    (subst (λ b. Runs limit (case_if b (EndCase ∷ printed past (suc p) I
    (branch_ends M) (lasting (suc p) (suc p ∷ ds)))) p (Cased c (suc p) ∷ M) (DropSelector ∷ I))
    (sym (ap not (has_first (suc p) ds)))
    (end_case c (subst (λ l. Runs limit (printed past (suc p) I (branch_ends M) l) (suc p) M I)
    (sym (lasting_first (suc p) ds new)) (next M ds s))))

-- ---- all

pub prints :
    {A : Type 0} {limit : ℕ} {s : List (Element A)} {p : ℕ} {G : List Entry} {I : List (Item A)} →
    Runs limit s p G I → (past : ℕ → Option ℕ) (H : List Entry) (cs : List ℕ) → Shows G H cs → length G ≤ limit →
    Placed p G → Pasts past p I → Prints limit past p (begins p I - marks_at p G) I H cs
prints {limit = limit} over past _ _ nothing few placed h = record { can = tt; runs = over }
prints {limit = limit} (plain {p = p} {G = G} {I = I} k r) past H cs sh few placed h =
    let b = (balanced r).before p (omega arith) in
    let next = prints r past H cs sh few (placed_more p G placed) h in
    at_item limit past p (begins p (Perform k ∷ I) - marks_at p G) (Perform k) I H cs (none_shown p I sh (kept r))
    (omega (arith, b)) (plain k (go_on limit past (suc p) G I H cs (no_marks p G placed) next))
prints {limit = limit} (branch {p = p} {G = G} {I = I} z o t lt r) past H cs sh few placed h =
    let b = (balanced r).before p (omega arith) in
    let k = kept r in
    let lss = few_shown sh in
    let far : one_if (nat_eq t p) ≡ 0 = ap one_if (ne_eqb t p (λ e. omega (arith, e, k.0))) in
    let N = Ahead p None t ∷ H in
    let next = prints r past N cs (ahead p o t sh top) (omega (arith, lt)) (omega arith, placed_more p G placed) h in
    at_item limit past p (begins p (JumpTo z t ∷ I) - marks_at p G) (JumpTo z t) I H cs (none_shown p I sh k.1)
    (omega (arith, b, far))
    (subst (λ x. Runs limit ((if x then Branch z None else Back z None) ∷ printed past (suc p) I
    (if x then t ∷ branch_ends H else branch_ends H) cs) p H (JumpTo z t ∷ I)) (sym (lt-ltb p t (omega (arith, k.0))))
    (branch z None t (omega (arith, lss, lt))
    (go_on limit past (suc p) (Ahead p o t ∷ G) I N cs (no_marks p G placed) next)))
prints {limit = limit} (resolve {p = p} {H = M} {G = G} {I = I} q a o u w r) past H cs sh few placed h =
    let x = without_branch u sh in
    let len = length-put u in
    let same = marks-branch p u in
    let next = prints r past x.stack cs x.shows (omega (arith, len, few)) (placed_without p u placed) h in
    branch_closed limit past p (begins p I - marks_at p G) (begins p I - marks_at p M) I cs x.put
    (ap (λ n. begins p I - n) (sym same)) next
prints {limit = limit} (roll {p = p} {H = M} {G = G} {I = I} n a o t u e r) past H cs sh few placed h =
    let x = without_branch u sh in
    let len = length-put u in
    let same = marks-branch p u in
    let next = prints r past H cs (ahead a o t x.shows x.put) (omega (arith, len, few))
    (place_of_put p u placed, placed_without p u placed) h in
    subst (λ n. Prints limit past p (begins p I - n) I H cs) (sym same) next
prints {limit = limit} (mark {p = p} {G = G} {I = I} o lt r) past H cs sh few placed h =
    let lss = few_shown sh in
    let le = (balanced r).now in
    let one : one_if (nat_eq p p) ≡ 1 = ap one_if (eq-eqb p p refl) in
    let next = prints r past (Begun p None ∷ H) cs (begun p o sh) (omega (arith, lt)) (omega arith, placed) h in
    mark_printed limit past p (begins p I - marks_at p (Begun p o ∷ G)) (begins p I - marks_at p G) I H cs
    (omega (arith, lss, lt)) (omega (arith, le, one)) (omega (arith, le, one)) next
prints {limit = limit} (back {p = p} {H = M} {G = G} {I = I} z q a o u w le r) past H cs sh few placed h =
    let x = without_mark u sh in
    let len = length-put u in
    let b = (balanced r).before p (omega arith) in
    let more = marks-mark p u in
    let without = placed_without p u placed in
    let next = prints r past x.stack cs x.shows (omega (arith, len, few)) (placed_more p M without) h in
    at_item limit past p (begins p (JumpTo z a ∷ I) - marks_at p G) (JumpTo z a) I H cs
    (none_shown p I sh (kept_mark (suc p) I u (kept r))) (omega (arith, b, more))
    (subst (λ x. Runs limit ((if x then Branch z None else Back z None) ∷ printed past (suc p) I
    (if x then a ∷ branch_ends H else branch_ends H) cs) p H (JumpTo z a ∷ I)) (sym (le-ltb p a le))
    (back z None a None x.put (mark_index x.put) le
    (subst (λ ts. Runs limit (printed past (suc p) I ts cs) (suc p) x.stack I) (sym (ends-mark x.put))
    (go_on limit past (suc p) M I x.stack cs (no_marks p M without) next))))
prints {limit = limit} (enter {p = p} {G = G} {I = I} z t lt r) past H cs sh few placed h =
    let lss = few_shown sh in
    let b = (balanced r).before p (omega arith) in
    let k = kept r in
    let N = Looping p t ∷ H in
    let next = prints r past N cs (looping p t sh) (omega (arith, lt)) (omega arith, placed_more p G placed) h in
    at_item limit past p (begins p (EnterLoop z t ∷ I) - marks_at p G) (EnterLoop z t) I H cs (none_shown p I sh k.1)
    (omega (arith, b))
    (enter z t (omega (arith, lss, lt))
    (go_on limit past (suc p) (Looping p t ∷ G) I N cs (no_marks p G placed) next))
prints {limit = limit} (repeat {p = p} {G = G} {I = I} z a r) past H cs sh few placed h =
    let b = (balanced r).before p (omega arith) in
    loop_printed limit past p (begins p (RepeatLoop z (suc a) ∷ I) - marks_at p (Looping a (suc p) ∷ G)) z a G I H cs
    (omega (arith, b)) (kept r)
    (λ N ds s. go_on limit past (suc p) G I N ds (no_marks p G placed.1)
    (prints r past N ds s (omega (arith, few)) (placed_more p G placed.1) h)) sh
prints {limit = limit} (leave {p = p} {G = G} {I = I} t any e r) past H cs sh few placed h =
    let b = (balanced r).before p (omega arith) in
    let next = prints r past H cs sh few (placed_more p G placed) h in
    at_item limit past p (begins p (ExitLoop t ∷ I) - marks_at p G) (ExitLoop t) I H cs (none_shown p I sh (kept r))
    (omega (arith, b))
    (leave t (any_shown sh ∙ any) (e ∙ sym (loop_shown sh))
    (go_on limit past (suc p) G I H cs (no_marks p G placed) next))
prints {limit = limit} (cases {p = p} {G = G} {I = I} t lt r) past H cs sh few placed h =
    prints r past H cs (dormant p t sh) (omega (arith, lt)) (omega arith, placed) h
prints {limit = limit} (test {p = p} {G = G} {I = I} t a e lt r) past H cs sh few placed h =
    let b = (balanced r).before p (omega arith) in
    let k = kept r in
    let C = Cased a e ∷ G in
    let goes = h.0 e k.0 (k.1 ∙ ap (λ n. Some (EndArm n)) (case_end_top p a e G (omega (arith, k.2.0)))) in
    arm_begun limit past p (begins p (TestArm t ∷ I) - marks_at p C) t a e G I H cs (omega (arith, b)) lt goes k.2
    (λ N ds s. go_on limit past (suc p) (Parted p t ∷ C) I N ds (no_marks p C placed)
    (prints r past N ds s (omega (arith, lt)) (omega arith, placed_more p C placed) h.1)) sh
prints {limit = limit} (end_arm {p = p} {G = G} {I = I} a v e r) past H cs sh few placed h =
    let b = (balanced r).before p (omega arith) in
    arm_ended limit past p (begins p (EndArm v ∷ I) - marks_at p (Parted a (suc p) ∷ G)) a v G I H cs
    (omega (arith, b)) e (kept r)
    (λ N ds s. go_on limit past (suc p) G I N ds (no_marks p G placed.1)
    (prints r past N ds s (omega (arith, few)) (placed_more p G placed.1) h)) sh
prints {limit = limit} (end_case {p = p} {G = G} {I = I} a r) past H cs sh few placed h =
    let b = (balanced r).before p (omega arith) in
    let whole = kept (end_case {p = p} {G = G} {I = I} a r) in
    case_ended limit past p (begins p (DropSelector ∷ I) - marks_at p (Cased a (suc p) ∷ G)) a G I H cs
    (omega (arith, b)) few whole.1 (kept r)
    (λ N ds s. go_on limit past (suc p) G I N ds (no_marks p G placed.1)
    (prints r past N ds s (omega (arith, few)) (placed_more p G placed.1) h)) sh
