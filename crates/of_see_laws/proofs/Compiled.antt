-- What is compiled from a stack of open structures on has the items that the structures' ends give.
use Rattle.std.proofs.Common.{◌≡◌, ℕ, suc, ◌<◌, true, List, [], ◌∷◌, ◌++◌, length, Option, Some, None, refl, ap, sym}
use Rattle.std.proofs.Common.{◌∙◌, arith, append_assoc}
use Rattle.std.specs.Prelude.{slice_get, remove, nat_lt, if◌then◌else◌}
use Rattle.std.proofs.lemmas.Bool.{lt-ltb}
use Rattle.std.proofs.lemmas.List.{append-nil}
use Rattle.of_control.specs.declared.opener.Kind.{Kind}
use Rattle.of_control.specs.declared.opener.Kind.TheVariants.{CaseSys, Dest, DoSys, OfSys, Orig}
use Rattle.of_control.specs.Element.{Back, Branch, Case, Do, Element, EndCase, EndOf, Leave, Loop, Mark, Of, Plain}
use Rattle.of_control.specs.Element.{Resolve, Roll}
use Rattle.of_control.specs.Items.{DropSelector, EndArm, EnterLoop, ExitLoop, Item, JumpTo, Perform, RepeatLoop}
use Rattle.of_control.specs.Items.{TestArm, item_count}
use Rattle.of_control.specs.Openers.{dest_index, opened_in, orig_count, orig_index, place_at, place_of, topped}
use Rattle.of_control.specs.Openers.{without}
use Rattle.of_control.specs.Calls.{after_call, after_calls, call_answer, opener_at}
use Rattle.of_control.specs.Compiling.{compiled, compiled_next, from_item, with_endof, with_leave, with_target_at}
use Rattle.of_see_laws.proofs.Stacks.{Ahead, Apart, Begun, Cased, Entry, Looping, Parted, Placed, Put, apart_without}
use Rattle.of_see_laws.proofs.Stacks.{away_ahead, away_from_others, depth, depth-count, get-put, length-openers}
use Rattle.of_see_laws.proofs.Stacks.{openers, place_of_put, placed_more, placed_without, remove-put}
use Rattle.of_see_laws.proofs.Runs.{Runs, back, branch, cases, end_arm, end_case, enter, leave, mark, over, plain}
use Rattle.of_see_laws.proofs.Runs.{repeat, resolve, roll, test}
use Rattle.of_see_laws.proofs.Filling.{all_ended, branch_first, ended, last_arm, last_leave, mark_ends, from_none}
use Rattle.of_see_laws.proofs.Filling.{length-ended, one_more, own_branch, own_loop, own_part, steady}

-- elements, the first of them first, behind others, the latest of them first
abbrev pub onto : {A : Type 0} → List (Element A) → List (Element A) → List (Element A)
onto [] d = d
onto (e ∷ s) d = onto s (e ∷ d)

-- all elements close all, and leave these items behind those before with their targets
pub record Finished {A : Type 0} (limit : ℕ) (s d : List (Element A)) (G : List Entry) (I : List (Item A))
    : Type 0 where
  pub closed : after_calls limit item_count (onto s d) ≡ Some []
  pub items : compiled limit (onto s d) ≡ all_ended G (compiled limit d) ++ I

-- what holds where the elements before left this stack
pub record Before {A : Type 0} (limit : ℕ) (d : List (Element A)) (p : ℕ) (G : List Entry) : Type 0 where
  pub open_now : after_calls limit item_count d ≡ Some (openers G)
  pub count : item_count d ≡ p
  pub compiled_count : length (compiled limit d) ≡ p
  pub placed : Placed p G
  pub apart : Apart G

-- ---- the stack

room : (G : List Entry) (limit : ℕ) → length G < limit → nat_lt (length (openers G)) limit ≡ true
room G limit lt = lt-ltb (length (openers G)) limit (omega (arith, length-openers G))

opened :
    (limit at p : ℕ) (k : Kind) (G : List Entry) → at ≡ p → length G < limit →
    opened_in limit (opener_at at k) (Some (openers G)) ≡ Some (opener_at p k ∷ openers G)
opened limit at p k G e lt =
    ap (λ b. if b then Some (opener_at at k ∷ openers G) else None) (room G limit lt)
    ∙ ap (λ n. Some (opener_at n k ∷ openers G)) e

taken :
    {x : Entry} {H G : List Entry} (u : Put x H G) (i : Option ℕ) → i ≡ Some (depth u) →
    without (openers G) i ≡ Some (openers H)
taken {G = G} u i e = ap (without (openers G)) e ∙ ap Some (remove-put u)

answered :
    {x : Entry} {H G : List Entry} (u : Put x H G) (i : Option ℕ) → i ≡ Some (depth u) →
    place_at (openers G) i ≡ Some ((Rattle.of_see_laws.proofs.Stacks.opener x).at)
answered {G = G} u i e = ap (place_at (openers G)) e ∙ ap place_of (get-put u)

rolled :
    {a t : ℕ} {o : Option ℕ} {H G : List Entry} (u : Put (Ahead a o t) H G) (n : ℕ) → n ≡ depth u →
    (if nat_lt n (orig_count (openers G)) then topped (slice_get (openers G) n) (remove (openers G) n) else None)
    ≡ Some (openers (Ahead a o t ∷ H))
rolled {a = a} {o = o} {G = G} u n e =
    let os = openers G in
    ap (λ i. if nat_lt i (orig_count os) then topped (slice_get os i) (remove os i) else None) e
    ∙ ap (λ b. if b then topped (slice_get os (depth u)) (remove os (depth u)) else None)
    (lt-ltb (depth u) (orig_count os) (depth-count u))
    ∙ ap (λ x. topped x (remove os (depth u))) (get-put u)
    ∙ ap (λ r. Some (opener_at a (Orig o) ∷ r)) (remove-put u)

-- ---- one more item

more_items :
    {A : Type 0} → (limit : ℕ) (s d : List (Element A)) (e : Element A) (G : List Entry) (I X F : List (Item A))
    (i j : Item A) → Finished limit s (e ∷ d) G I → compiled limit (e ∷ d) ≡ X ++ i ∷ [] →
    all_ended G (X ++ i ∷ []) ≡ F ++ j ∷ [] → compiled limit (onto s (e ∷ d)) ≡ F ++ (j ∷ I)
more_items limit s d e G I X F i j f c h =
    f.items ∙ ap (λ l. all_ended G l ++ I) c ∙ ap (λ l. l ++ I) h ∙ append_assoc F (j ∷ []) I

-- as many items are compiled as elements leave
abbrev pub AreCounted : Type 0 → ℕ → Type 0
AreCounted A limit = (es : List (Element A)) → length (compiled limit es) ≡ item_count es

-- after one more element
after :
    {A : Type 0} → (limit : ℕ) (d : List (Element A)) (e : Element A) (p q : ℕ) (G H : List Entry) →
    AreCounted A limit → Before limit d p G →
    after_call limit (item_count d) e (Some (openers G)) ≡ Some (openers H) → item_count (e ∷ d) ≡ q → Placed q H →
    Apart H → Before limit (e ∷ d) q H
after limit d e p q G H counted b c n placed apart = record {
  open_now = ap (after_call limit (item_count d) e) b.open_now ∙ c;
  count = n;
  compiled_count = counted (e ∷ d) ∙ n;
  placed = placed;
  apart = apart;
}

-- what an element compiles
now_compiled :
    {A : Type 0} → (limit : ℕ) (d : List (Element A)) (e : Element A) (p : ℕ) (G : List Entry) (o : Option ℕ) →
    Before limit d p G → call_answer e (Some (openers G)) ≡ o →
    compiled limit (e ∷ d) ≡ compiled_next e o (compiled limit d)
now_compiled limit d e p G o b a =
    ap (λ x. compiled_next e x (compiled limit d)) (ap (call_answer e) b.open_now ∙ a)

pub finished :
    {A : Type 0} (limit : ℕ) {s : List (Element A)} {p : ℕ} {G : List Entry} {I : List (Item A)} →
    AreCounted A limit → Runs limit s p G I → (d : List (Element A)) → Before limit d p G → Finished limit s d G I
finished limit counted over d b = record { closed = b.open_now; items = sym (append-nil (compiled limit d)) }
finished limit counted (plain {s = s} {p = p} {G = G} {I = I} k r) d b =
    let is = compiled limit d in
    let next = after limit d (Plain k) p (suc p) G G counted b refl (omega (arith, b.count)) (placed_more p G b.placed)
    b.apart in
    let f = finished limit counted r (Plain k ∷ d) next in record {
      closed = f.closed;
      items =
          more_items limit s d (Plain k) G I is (all_ended G is) (Perform k) (Perform k) f
          refl
          (one_more p G is (Perform k) (sym b.compiled_count) b.placed
          ∙ ap (λ i. all_ended G is ++ i ∷ []) (steady G (Perform k) (λ v. refl) (λ v. refl)));
    }
finished limit counted (branch {s = s} {p = p} {G = G} {I = I} z o t lt r) d b =
    let is = compiled limit d in
    let H = Ahead p o t ∷ G in
    let next = after limit d (Branch z o) p (suc p) G H counted b (opened limit (item_count d) p (Orig o) G b.count lt)
    (omega (arith, b.count)) (omega arith, placed_more p G b.placed) (away_ahead p G b.placed, b.apart) in
    let f = finished limit counted r (Branch z o ∷ d) next in record {
      closed = f.closed;
      items =
          more_items limit s d (Branch z o) H I is (all_ended G is) (JumpTo z 0) (JumpTo z t) f refl
          (ap (all_ended G) (own_branch p t is (JumpTo z 0) o (sym b.compiled_count))
          ∙ one_more p G is (JumpTo z t) (sym b.compiled_count) b.placed
          ∙ ap (λ i. all_ended G is ++ i ∷ []) (steady G (JumpTo z t) (λ v. refl) (λ v. refl)));
    }
finished limit counted (resolve {s = s} {p = p} {H = H} {G = G} {I = I} q a o u w r) d b =
    let is = compiled limit d in
    let next = after limit d (Resolve q) p p G H counted b (taken u (orig_index q (openers G)) w)
    (omega (arith, b.count)) (placed_without p u b.placed) (apart_without u b.apart) in
    let f = finished limit counted r (Resolve q ∷ d) next in record {
      closed = f.closed;
      items =
          f.items
          ∙ ap (λ l. all_ended H l ++ I) (now_compiled limit d (Resolve q) p G (Some a) b
          (answered u (orig_index q (openers G)) w) ∙ ap (λ n. with_target_at a n is) b.compiled_count)
          ∙ ap (λ l. l ++ I) (sym (branch_first u b.apart is));
    }
finished limit counted (roll {s = s} {p = p} {H = H} {G = G} {I = I} n a o t u e r) d b =
    let is = compiled limit d in
    let next = after limit d (Roll n) p p G (Ahead a o t ∷ H) counted b (rolled u n e) (omega (arith, b.count))
    (place_of_put p u b.placed, placed_without p u b.placed)
    (away_from_others u b.apart, apart_without u b.apart) in
    let f = finished limit counted r (Roll n ∷ d) next in record {
      closed = f.closed;
      items = f.items ∙ ap (λ l. l ++ I) (sym (branch_first u b.apart is));
    }
finished limit counted (mark {s = s} {p = p} {G = G} {I = I} o lt r) d b =
    let next = after limit d (Mark o) p p G (Begun p o ∷ G) counted b
    (opened limit (item_count d) p (Dest o) G b.count lt) (omega (arith, b.count)) (omega arith, b.placed) b.apart in
    let f = finished limit counted r (Mark o ∷ d) next in record { closed = f.closed; items = f.items }
finished limit counted (back {s = s} {p = p} {H = H} {G = G} {I = I} z q a o u w le r) d b =
    let is = compiled limit d in
    let placed = placed_without p u b.placed in
    let next = after limit d (Back z q) p (suc p) G H counted b (taken u (dest_index q (openers G)) w)
    (omega (arith, b.count)) (placed_more p H placed) (apart_without u b.apart) in
    let f = finished limit counted r (Back z q ∷ d) next in record {
      closed = f.closed;
      items =
          more_items limit s d (Back z q) H I is (all_ended H is) (JumpTo z a) (JumpTo z a) f
          (now_compiled limit d (Back z q) p G (Some a) b (answered u (dest_index q (openers G)) w))
          (one_more p H is (JumpTo z a) (sym b.compiled_count) placed
          ∙ ap (λ i. all_ended H is ++ i ∷ []) (steady H (JumpTo z a) (λ v. refl) (λ v. refl)))
          ∙ ap (λ l. l ++ (JumpTo z a ∷ I)) (sym (mark_ends u is));
    }
finished limit counted (enter {s = s} {p = p} {G = G} {I = I} z t lt r) d b =
    let is = compiled limit d in
    let H = Looping p t ∷ G in
    let next = after limit d (Do z) p (suc p) G H counted b (opened limit (item_count d) p DoSys G b.count lt)
    (omega (arith, b.count)) (omega arith, placed_more p G b.placed) b.apart in
    let f = finished limit counted r (Do z ∷ d) next in record {
      closed = f.closed;
      items =
          more_items limit s d (Do z) H I is (all_ended G is) (EnterLoop z 0) (EnterLoop z t) f refl
          (ap (all_ended G) (own_loop p t is (EnterLoop z 0) (sym b.compiled_count) refl)
          ∙ one_more p G is (EnterLoop z t) (sym b.compiled_count) b.placed
          ∙ ap (λ i. all_ended G is ++ i ∷ []) (steady G (EnterLoop z t) (λ v. refl) (λ v. refl)));
    }
finished {A = A} limit counted (repeat {s = s} {p = p} {G = G} {I = I} z a r) d b =
    let is = compiled limit d in
    let X = ended (Looping a (suc p)) is in
    let last : Item A = RepeatLoop z (suc a) in
    let next = after limit d (Loop z) p (suc p) (Looping a (suc p) ∷ G) G counted b refl (omega (arith, b.count))
    (placed_more p G b.placed.1) b.apart in
    let f = finished limit counted r (Loop z ∷ d) next in record {
      closed = f.closed;
      items =
          more_items limit s d (Loop z) G I X (all_ended G X) last last f
          (now_compiled limit d (Loop z) p (Looping a (suc p) ∷ G) (Some a) b refl
          ∙ ap (λ n. from_item a (with_leave (suc n)) (with_target_at a (suc n) is) ++ last ∷ []) b.compiled_count)
          (one_more p G X last (sym b.compiled_count ∙ sym (length-ended (Looping a (suc p)) is)) b.placed.1
          ∙ ap (λ i. all_ended G X ++ i ∷ []) (steady G last (λ v. refl) (λ v. refl)));
    }
finished limit counted (leave {s = s} {p = p} {G = G} {I = I} t any e r) d b =
    let is = compiled limit d in
    let next = after limit d Leave p (suc p) G G counted b
    (ap (λ x. if x then Some (openers G) else None) any) (omega (arith, b.count)) (placed_more p G b.placed)
    b.apart in
    let f = finished limit counted r (Leave ∷ d) next in record {
      closed = f.closed;
      items =
          more_items limit s d Leave G I is (all_ended G is) (ExitLoop 0) (ExitLoop t) f refl
          (one_more p G is (ExitLoop 0) (sym b.compiled_count) b.placed
          ∙ ap (λ i. all_ended G is ++ i ∷ []) (last_leave G ∙ ap ExitLoop (sym e)));
    }
finished limit counted (cases {s = s} {p = p} {G = G} {I = I} t lt r) d b =
    let next = after limit d Case p p G (Cased p t ∷ G) counted b
    (opened limit (item_count d) p CaseSys G b.count lt) (omega (arith, b.count)) (omega arith, b.placed) b.apart in
    let f = finished limit counted r (Case ∷ d) next in record {
      closed = f.closed;
      items =
          f.items ∙ ap (λ l. all_ended G l ++ I) (from_none p t (compiled limit d) b.compiled_count);
    }
finished limit counted (test {s = s} {p = p} {G = G} {I = I} t a v lt r) d b =
    let is = compiled limit d in
    let C = Cased a v ∷ G in
    let H = Parted p t ∷ C in
    let next = after limit d Of p (suc p) C H counted b (opened limit (item_count d) p OfSys C b.count lt)
    (omega (arith, b.count)) (omega arith, placed_more p C b.placed) b.apart in
    let f = finished limit counted r (Of ∷ d) next in record {
      closed = f.closed;
      items =
          more_items limit s d Of H I is (all_ended C is) (TestArm 0) (TestArm t) f refl
          (ap (all_ended C) (own_part p t is (TestArm 0) (sym b.compiled_count))
          ∙ one_more p C is (TestArm t) (sym b.compiled_count) b.placed
          ∙ ap (λ i. all_ended C is ++ i ∷ []) (steady C (TestArm t) (λ v. refl) (λ v. refl)));
    }
finished limit counted (end_arm {s = s} {p = p} {G = G} {I = I} a v e r) d b =
    let is = compiled limit d in
    let X = ended (Parted a (suc p)) is in
    let next = after limit d EndOf p (suc p) (Parted a (suc p) ∷ G) G counted b refl (omega (arith, b.count))
    (placed_more p G b.placed.1) b.apart in
    let f = finished limit counted r (EndOf ∷ d) next in record {
      closed = f.closed;
      items =
          more_items limit s d EndOf G I X (all_ended G X) (EndArm 0) (EndArm v) f
          (now_compiled limit d EndOf p (Parted a (suc p) ∷ G) (Some a) b refl
          ∙ ap (λ n. with_target_at a (suc n) is ++ EndArm 0 ∷ []) b.compiled_count)
          (one_more p G X (EndArm 0) (sym b.compiled_count ∙ sym (length-ended (Parted a (suc p)) is)) b.placed.1
          ∙ ap (λ i. all_ended G X ++ i ∷ []) (last_arm G ∙ ap EndArm (sym e)));
    }
finished limit counted (end_case {s = s} {p = p} {G = G} {I = I} a r) d b =
    let is = compiled limit d in
    let X = ended (Cased a (suc p)) is in
    let next = after limit d EndCase p (suc p) (Cased a (suc p) ∷ G) G counted b refl (omega (arith, b.count))
    (placed_more p G b.placed.1) b.apart in
    let f = finished limit counted r (EndCase ∷ d) next in record {
      closed = f.closed;
      items =
          more_items limit s d EndCase G I X (all_ended G X) DropSelector DropSelector f
          (now_compiled limit d EndCase p (Cased a (suc p) ∷ G) (Some a) b refl
          ∙ ap (λ n. from_item a (with_endof (suc n)) is ++ DropSelector ∷ []) b.compiled_count)
          (one_more p G X DropSelector (sym b.compiled_count ∙ sym (length-ended (Cased a (suc p)) is)) b.placed.1
          ∙ ap (λ i. all_ended G X ++ i ∷ []) (steady G DropSelector (λ v. refl) (λ v. refl)));
    }
