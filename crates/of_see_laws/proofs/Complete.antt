-- Elements that close all run from the stack that the elements before them left.
use Rattle.std.proofs.Common.{◌≡◌, ℕ, zero, suc, ◌+◌, ◌≤◌, ◌<◌, ◌⊎◌, Bool, true, false, List, [], ◌∷◌, length, Option}
use Rattle.std.proofs.Common.{Some, None, refl, ap, sym, ◌∙◌, subst, inl, inr, ⊎_elim, arith}
use Rattle.std.specs.Prelude.{slice_get, remove, nat_lt, if◌then◌else◌}
use Rattle.std.proofs.lemmas.Bool.{ltb-true}
use Rattle.of_control.specs.declared.opener.Opener.{Opener}
use Rattle.of_control.specs.declared.opener.Kind.{Kind}
use Rattle.of_control.specs.declared.opener.Kind.TheVariants.{CaseSys, Dest, DoSys, OfSys, Orig}
use Rattle.of_control.specs.Element.{Back, Branch, Case, Do, Element, EndCase, EndOf, Leave, Loop, Mark, Misfit, Of}
use Rattle.of_control.specs.Element.{Plain, Resolve, Roll}
use Rattle.of_control.specs.Items.{DropSelector, EndArm, EnterLoop, ExitLoop, Item, JumpTo, Perform, RepeatLoop}
use Rattle.of_control.specs.Items.{TestArm, is_item, item_count, one_if}
use Rattle.of_control.specs.Openers.{aimed_index, any_do_sys, dest_index, is_case_sys, is_dest_for, is_do_sys}
use Rattle.of_control.specs.Openers.{is_of_sys, is_orig, is_orig_for, one_later, opened_in, or_else, orig_count}
use Rattle.of_control.specs.Openers.{orig_index, top_index, topped, without}
use Rattle.of_control.specs.Calls.{StandWithin, AreWithin, after_call, after_calls, opener_at}
use Rattle.of_see_laws.proofs.Stacks.{Ahead, Begun, Cased, Entry, Looping, Parted, Put, depth, get-put}
use Rattle.of_see_laws.proofs.Stacks.{length-openers, opener, openers, top, under}
use Rattle.of_see_laws.proofs.Runs.{Runs, back, branch, case_end, cases, end_arm, end_case, enter, leave, loop_end}
use Rattle.of_see_laws.proofs.Runs.{mark, over, plain, repeat, resolve, roll, test}
use Rattle.of_see_laws.proofs.Compiled.{onto}

-- ---- an opener as an entry

abbrev entry_of : ℕ → Kind → ℕ → Entry
entry_of a (Orig o) t = Ahead a o t
entry_of a (Dest o) t = Begun a o
entry_of a DoSys t = Looping a t
entry_of a CaseSys t = Cased a t
entry_of a OfSys t = Parted a t

abbrev end_of : Entry → ℕ
end_of (Ahead a o t) = t
end_of (Begun a o) = 0
end_of (Looping a t) = t
end_of (Cased a t) = t
end_of (Parted a t) = t

entry_back : (x : Entry) → entry_of (opener x).at (opener x).kind (end_of x) ≡ x
entry_back (Ahead a o t) = refl
entry_back (Begun a o) = refl
entry_back (Looping a t) = refl
entry_back (Cased a t) = refl
entry_back (Parted a t) = refl

entry_opener : (a : ℕ) (k : Kind) (t : ℕ) → opener (entry_of a k t) ≡ opener_at a k
entry_opener a (Orig o) t = refl
entry_opener a (Dest o) t = refl
entry_opener a DoSys t = refl
entry_opener a CaseSys t = refl
entry_opener a OfSys t = refl

-- an opener among those within b
got_within : (b : ℕ) (os : List Opener) (i : ℕ) (x : Opener) → StandWithin b os → slice_get os i ≡ Some x → x.at ≤ b
got_within b [] i x h e = let bad : ⊥ = cc in absurd bad
got_within b (y ∷ os) zero x h e = let same : y ≡ x = cc in rw same at h.0
got_within b (y ∷ os) (suc i) x h e = got_within b os i x h.1 e

record Headed (G : List Entry) (x : Opener) (os : List Opener) : Type 0 where
  pub end : ℕ
  pub below : List Entry
  pub whole : G ≡ entry_of x.at x.kind end ∷ below
  pub rest : openers below ≡ os

headed : (G : List Entry) (x : Opener) (os : List Opener) → openers G ≡ x ∷ os → Headed G x os
headed [] x os e = let bad : ⊥ = cc in absurd bad
headed (y ∷ G) x os e =
    let first : opener y ≡ x = cc in
    let rest : openers G ≡ os = cc in
    record {
      end = end_of y;
      below = G;
      whole =
          ap (λ z. z ∷ G) (sym (entry_back y) ∙ ap (λ (z : Opener). entry_of z.at z.kind (end_of y)) first);
      rest = rest;
    }

-- ---- an opener put back under branches

-- the first so many are branches
abbrev Clear : ℕ → List Opener → Type 0
Clear zero os = Unit {0}
Clear (suc i) [] = ⊥
Clear (suc i) (x ∷ os) = (is_orig x.kind ≡ true) × Clear i os

-- which of the openers, with nothing but branches later than it
record Under (os : List Opener) (i : ℕ) : Type 0 where
  pub clear : Clear i os
  pub at : ℕ
  pub kind : Kind
  pub here : slice_get os i ≡ Some (opener_at at kind)

record PutBack (x : Entry) (H : List Entry) (os : List Opener) (i : ℕ) : Type 0 where
  pub stack : List Entry
  pub put : Put x H stack
  pub same : openers stack ≡ os
  pub deep : depth put ≡ i

deeper :
    (x : Entry) (H : List Entry) (a : ℕ) (k : Kind) (t : ℕ) (os : List Opener) (i : ℕ) → is_orig k ≡ true →
    PutBack x H os i → PutBack x (entry_of a k t ∷ H) (opener_at a k ∷ os) (suc i)
deeper x H a (Orig o) t os i e b = record {
  stack = Ahead a o t ∷ b.stack;
  put = under a o t b.put;
  same = ap (λ l. opener_at a (Orig o) ∷ l) b.same;
  deep = ap suc b.deep;
}
deeper x H a (Dest o) t os i e b = let bad : ⊥ = cc in absurd bad
deeper x H a DoSys t os i e b = let bad : ⊥ = cc in absurd bad
deeper x H a CaseSys t os i e b = let bad : ⊥ = cc in absurd bad
deeper x H a OfSys t os i e b = let bad : ⊥ = cc in absurd bad

put_back :
    (os : List Opener) (i a : ℕ) (k : Kind) (t : ℕ) (H : List Entry) → Clear i os →
    slice_get os i ≡ Some (opener_at a k) → openers H ≡ remove os i → PutBack (entry_of a k t) H os i
put_back [] zero a k t H c g e = let bad : ⊥ = cc in absurd bad
put_back [] (suc i) a k t H c g e = absurd c
put_back (x ∷ os) zero a k t H c g e =
    let same : x ≡ opener_at a k = cc in
    record {
      stack = entry_of a k t ∷ H;
      put = top;
      same = ap (λ y. y ∷ openers H) (entry_opener a k t ∙ sym same) ∙ ap (λ l. x ∷ l) e;
      deep = refl;
    }
put_back (x ∷ os) (suc i) a k t H c g e =
    let h = headed H x (remove os i) e in
    let b = put_back os i a k t h.below c.1 g h.rest in
    subst (λ G. PutBack (entry_of a k t) G (x ∷ os) (suc i)) (sym h.whole)
    (deeper (entry_of a k t) h.below x.at x.kind h.end os i c.0 b)

-- ---- which opener a call takes

one_later_inv : (o : Option ℕ) (i : ℕ) → one_later o ≡ Some i → (j : ℕ) × (o ≡ Some j) × (i ≡ suc j)
one_later_inv None i e = let bad : ⊥ = cc in absurd bad
one_later_inv (Some j) i e = let same : suc j ≡ i = cc in (j, refl, sym same)

-- a call that looks for an opener under branches
found_under :
    (sort : Kind → Bool) (which : List Opener → Option ℕ) → ((i : ℕ) → which [] ≡ Some i → ⊥) →
    ((x : Opener) (os : List Opener) →
    which (x ∷ os) ≡ (if sort x.kind then Some 0 else if is_orig x.kind then one_later (which os) else None)) →
    (os : List Opener) (i : ℕ) → which os ≡ Some i →
    (u : Under os i) × (sort u.kind ≡ true)
found_under sort which none more [] i e = absurd (none i e)
found_under sort which none more (x ∷ os) i e =
    by_tests (λ j. found_under sort which none more os j) (sort x.kind) refl (is_orig x.kind) refl
    (sym (more x os) ∙ e)
  where
    by_tests : ((j : ℕ) → which os ≡ Some j → (u : Under os j) × (sort u.kind ≡ true))
        → (b : Bool) → sort x.kind ≡ b → (c : Bool) → is_orig x.kind ≡ c
        → (if b then Some 0 else if c then one_later (which os) else None) ≡ Some i
        → (u : Under (x ∷ os) i) × (sort u.kind ≡ true)
    by_tests f true t c o h =
        let zero_is : 0 ≡ i = cc in
        subst (λ j. (u : Under (x ∷ os) j) × (sort u.kind ≡ true)) zero_is
        (record { clear = tt; at = x.at; kind = x.kind; here = refl }, t)
    by_tests f false t true o h =
        let l = one_later_inv (which os) i h in
        let r = f l.0 l.1 in
        subst (λ j. (u : Under (x ∷ os) j) × (sort u.kind ≡ true)) (sym l.2)
        (record { clear = (o, r.0.clear); at = r.0.at; kind = r.0.kind; here = r.0.here }, r.1)
    by_tests f false t false o h = let bad : ⊥ = cc in absurd bad

aimed_kind : (t : ℕ) (k : Kind) → is_orig_for t k ≡ true → is_orig k ≡ true
aimed_kind t (Orig o) e = refl
aimed_kind t (Dest o) e = let bad : ⊥ = cc in absurd bad
aimed_kind t DoSys e = let bad : ⊥ = cc in absurd bad
aimed_kind t CaseSys e = let bad : ⊥ = cc in absurd bad
aimed_kind t OfSys e = let bad : ⊥ = cc in absurd bad

loop_kind : (k : Kind) → is_do_sys k ≡ true → k ≡ DoSys
loop_kind DoSys e = refl
loop_kind (Orig o) e = let bad : ⊥ = cc in absurd bad
loop_kind (Dest o) e = let bad : ⊥ = cc in absurd bad
loop_kind CaseSys e = let bad : ⊥ = cc in absurd bad
loop_kind OfSys e = let bad : ⊥ = cc in absurd bad

case_kind : (k : Kind) → is_case_sys k ≡ true → k ≡ CaseSys
case_kind CaseSys e = refl
case_kind (Orig o) e = let bad : ⊥ = cc in absurd bad
case_kind (Dest o) e = let bad : ⊥ = cc in absurd bad
case_kind DoSys e = let bad : ⊥ = cc in absurd bad
case_kind OfSys e = let bad : ⊥ = cc in absurd bad

part_kind : (k : Kind) → is_of_sys k ≡ true → k ≡ OfSys
part_kind OfSys e = refl
part_kind (Orig o) e = let bad : ⊥ = cc in absurd bad
part_kind (Dest o) e = let bad : ⊥ = cc in absurd bad
part_kind DoSys e = let bad : ⊥ = cc in absurd bad
part_kind CaseSys e = let bad : ⊥ = cc in absurd bad

-- the branch that is resolved
branch_found : (q : Option ℕ) (os : List Opener) (i : ℕ) → orig_index q os ≡ Some i
    → (u : Under os i) × (is_orig u.kind ≡ true)
branch_found None [] i e = let bad : ⊥ = cc in absurd bad
branch_found None (x ∷ os) i e = by_test (is_orig x.kind) refl e
  where
    by_test : (b : Bool) → is_orig x.kind ≡ b → (if b then Some 0 else None) ≡ Some i
        → (u : Under (x ∷ os) i) × (is_orig u.kind ≡ true)
    by_test true o h =
        let zero_is : 0 ≡ i = cc in
        subst (λ j. (u : Under (x ∷ os) j) × (is_orig u.kind ≡ true)) zero_is
        (record { clear = tt; at = x.at; kind = x.kind; here = refl }, o)
    by_test false o h = let bad : ⊥ = cc in absurd bad
branch_found (Some p) os i e = by_first (aimed_index p os) refl e
  where
    aimed : (t i : ℕ) → aimed_index t os ≡ Some i → (u : Under os i) × (is_orig u.kind ≡ true)
    aimed t i h =
        let none : (j : ℕ) → aimed_index t [] ≡ Some j → ⊥ = λ j n. (let bad : ⊥ = cc in bad) in
        let r = found_under (is_orig_for t) (aimed_index t) none (λ x l. refl) os i h in
        (r.0, aimed_kind t r.0.kind r.1)

    by_first : (o : Option ℕ) → aimed_index p os ≡ o → or_else o (aimed_index (suc p) os) ≡ Some i
        → (u : Under os i) × (is_orig u.kind ≡ true)
    by_first None a h = aimed (suc p) i h
    by_first (Some j) a h = aimed p i (a ∙ h)

mark_found : (q : Option ℕ) (os : List Opener) (i : ℕ) → dest_index q os ≡ Some i
    → (u : Under os i) × (is_dest_for q u.kind ≡ true)
mark_found q os i h =
    let none : (j : ℕ) → dest_index q [] ≡ Some j → ⊥ = λ j n. (let bad : ⊥ = cc in bad) in
    found_under (is_dest_for q) (dest_index q) none (λ x l. refl) os i h

rolled_found : (os : List Opener) (n : ℕ) → n < orig_count os → (u : Under os n) × (is_orig u.kind ≡ true)
rolled_found [] n lt = absurd (omega arith)
rolled_found (x ∷ os) n lt = by_test (λ m. rolled_found os m) (is_orig x.kind) refl n lt
  where
    by_test : ((m : ℕ) → m < orig_count os → (u : Under os m) × (is_orig u.kind ≡ true))
        → (b : Bool) → is_orig x.kind ≡ b → (n : ℕ) → n < (if b then suc (orig_count os) else 0)
        → (u : Under (x ∷ os) n) × (is_orig u.kind ≡ true)
    by_test f false o n l = absurd (omega arith)
    by_test f true o zero l = (record { clear = tt; at = x.at; kind = x.kind; here = refl }, o)
    by_test f true o (suc m) l =
        let r = f m (omega arith) in
        (record { clear = (o, r.0.clear); at = r.0.at; kind = r.0.kind; here = r.0.here }, r.1)

branch_put :
    {H G : List Entry} (a : ℕ) (k : Kind) (t : ℕ) → is_orig k ≡ true → (u : Put (entry_of a k t) H G) →
    (o : Option ℕ) × (v : Put (Ahead a o t) H G) × (depth v ≡ depth u)
branch_put a (Orig o) t e u = (o, u, refl)
branch_put a (Dest o) t e u = let bad : ⊥ = cc in absurd bad
branch_put a DoSys t e u = let bad : ⊥ = cc in absurd bad
branch_put a CaseSys t e u = let bad : ⊥ = cc in absurd bad
branch_put a OfSys t e u = let bad : ⊥ = cc in absurd bad

mark_put :
    {H G : List Entry} (q : Option ℕ) (a : ℕ) (k : Kind) (t : ℕ) → is_dest_for q k ≡ true →
    (u : Put (entry_of a k t) H G) → (o : Option ℕ) × (v : Put (Begun a o) H G) × (depth v ≡ depth u)
mark_put q a (Dest o) t e u = (o, u, refl)
mark_put None a (Orig o) t e u = let bad : ⊥ = cc in absurd bad
mark_put (Some p) a (Orig o) t e u = let bad : ⊥ = cc in absurd bad
mark_put None a DoSys t e u = let bad : ⊥ = cc in absurd bad
mark_put (Some p) a DoSys t e u = let bad : ⊥ = cc in absurd bad
mark_put None a CaseSys t e u = let bad : ⊥ = cc in absurd bad
mark_put (Some p) a CaseSys t e u = let bad : ⊥ = cc in absurd bad
mark_put None a OfSys t e u = let bad : ⊥ = cc in absurd bad
mark_put (Some p) a OfSys t e u = let bad : ⊥ = cc in absurd bad

-- ---- one element

-- a stack with these openers from which the elements run
pub record From {A : Type 0} (limit : ℕ) (s : List (Element A)) (p : ℕ) (os : List Opener) : Type 0 where
  pub stack : List Entry
  pub items : List (Item A)
  pub same : openers stack ≡ os
  pub runs : Runs limit s p stack items

at_place :
    {A : Type 0} (limit : ℕ) (s : List (Element A)) (p q : ℕ) (os : List Opener) → p ≡ q → From limit s p os →
    From limit s q os
at_place limit s p q os e f = subst (λ n. From limit s n os) e f

few : (G : List Entry) (os : List Opener) (limit : ℕ) → openers G ≡ os → length os < limit → length G < limit
few G os limit e lt =
    let same : length (openers G) ≡ length os = ap length e in
    omega (arith, length-openers G)

-- what a call that opens one more does
opened_or : (limit : ℕ) (x : Opener) (os : List Opener)
    → ((opened_in limit x (Some os) ≡ Some (x ∷ os)) × (length os < limit)) ⊎ (opened_in limit x (Some os) ≡ None)
opened_or limit x os = by_test (nat_lt (length os) limit) refl
  where
    by_test : (b : Bool) → nat_lt (length os) limit ≡ b
        → ((opened_in limit x (Some os) ≡ Some (x ∷ os)) × (length os < limit)) ⊎ (opened_in limit x (Some os) ≡ None)
    by_test true e =
        inl (ap (λ b. if b then Some (x ∷ os) else None) e, ltb-true (length os) limit e)
    by_test false e = inr (ap (λ b. if b then Some (x ∷ os) else None) e)

-- what one that takes one does
taken_or : (i : Option ℕ) (os : List Opener)
    → ((j : ℕ) × (i ≡ Some j) × (without os i ≡ Some (remove os j))) ⊎ (without os i ≡ None)
taken_or None os = inr refl
taken_or (Some j) os = inl (j, refl, refl)

if_or :
    {X : Type 0} (b : Bool) (x : X) →
    ((b ≡ true) × ((if b then Some x else None) ≡ Some x)) ⊎ ((if b then Some x else None) ≡ None)
if_or true x = inl (refl, refl)
if_or false x = inr refl

-- what the rest of the elements gives
abbrev Rest : {A : Type 0} → ℕ → List (Element A) → ℕ → Element A → List Opener → Type 0
Rest limit s p e os =
    (new : List Opener) → after_call limit p e (Some os) ≡ Some new → From limit s (p + one_if (is_item e)) new

abbrev Never : {A : Type 0} → ℕ → ℕ → Element A → List Opener → Type 0
Never limit p e os = after_call limit p e (Some os) ≡ None → ⊥

-- with a structure opened
opened_from :
    {A : Type 0} (limit : ℕ) (s : List (Element A)) (p q n : ℕ) (k : Kind) (os : List Opener) (e : Element A) → n ≡ q →
    ((new : List Opener) → opened_in limit (opener_at p k) (Some os) ≡ Some new → From limit s n new) →
    (opened_in limit (opener_at p k) (Some os) ≡ None → ⊥) →
    ((t : ℕ) (G : List Entry) (I : List (Item A)) → length G < limit → openers G ≡ os →
    Runs limit s q (entry_of p k t ∷ G) I → From limit (e ∷ s) p os) →
    From limit (e ∷ s) p os
opened_from limit s p q n k os e same next never make =
    ⊎_elim (λ w.
    let f = next (opener_at p k ∷ os) w.0 in
    let h = headed f.stack (opener_at p k) os f.same in
    make h.end h.below f.items (few h.below os limit h.rest w.1) h.rest
    (subst (λ m. Runs limit s m (entry_of p k h.end ∷ h.below) f.items) same
    (subst (λ G. Runs limit s n G f.items) h.whole f.runs)))
    (λ none. absurd (never none)) (opened_or limit (opener_at p k) os)

-- with one that was under branches taken
taken_from :
    {A : Type 0} (limit : ℕ) (s : List (Element A)) (p q n t : ℕ) (os : List Opener) (i : Option ℕ) (e : Element A)
    (P : Kind → Type 0) → n ≡ q → ((j : ℕ) → i ≡ Some j → (u : Under os j) × P u.kind) →
    ((new : List Opener) → without os i ≡ Some new → From limit s n new) → (without os i ≡ None → ⊥) →
    ((a : ℕ) (k : Kind) (H G : List Entry) (I : List (Item A)) (u : Put (entry_of a k t) H G) → P k →
    openers G ≡ os → i ≡ Some (depth u) → Runs limit s q H I → From limit (e ∷ s) p os) →
    From limit (e ∷ s) p os
taken_from {A = A} limit s p q n t os i e P same find next never make =
    ⊎_elim (λ w. taken w.0 w.1 (find w.0 w.1) (next (remove os w.0) w.2)) (λ none. absurd (never none)) (taken_or i os)
  where
    made : (j a : ℕ) (k : Kind) (H : List Entry) (I : List (Item A)) → i ≡ Some j → P k
        → PutBack (entry_of a k t) H os j → Runs limit s q H I → From limit (e ∷ s) p os
    made j a k H I w h b r = make a k H b.stack I b.put h b.same (w ∙ ap Some (sym b.deep)) r

    taken : (j : ℕ) → i ≡ Some j → (u : Under os j) × P u.kind → From limit s n (remove os j) → From limit (e ∷ s) p os
    taken j w u f =
        made j u.0.at u.0.kind f.stack f.items w u.1
        (put_back os j u.0.at u.0.kind t f.stack u.0.clear u.0.here f.same)
        (subst (λ m. Runs limit s m f.stack f.items) same f.runs)

-- with the latest of one kind taken
top_from :
    {A : Type 0} (limit : ℕ) (s : List (Element A)) (p q n t : ℕ) (os : List Opener) (e : Element A)
    (sort : Kind → Bool) (kind : Kind) → ((k : Kind) → sort k ≡ true → k ≡ kind) → n ≡ q →
    ((new : List Opener) → without os (top_index sort os) ≡ Some new → From limit s n new) →
    (without os (top_index sort os) ≡ None → ⊥) →
    ((a : ℕ) (G : List Entry) (I : List (Item A)) → opener_at a kind ∷ openers G ≡ os → Runs limit s q G I →
    From limit (e ∷ s) p os) →
    From limit (e ∷ s) p os
top_from limit s p q n t [] e sort kind is same next never make = absurd (never refl)
top_from limit s p q n t (x ∷ os) e sort kind is same next never make = by_test (sort x.kind) refl next never
  where
    by_test : (b : Bool) → sort x.kind ≡ b
        → ((new : List Opener) → without (x ∷ os) (if b then Some 0 else None) ≡ Some new → From limit s n new)
        → (without (x ∷ os) (if b then Some 0 else None) ≡ None → ⊥) → From limit (e ∷ s) p (x ∷ os)
    by_test true t more none =
        let f = more os refl in
        make x.at f.stack f.items
        (ap (λ k. opener_at x.at k ∷ openers f.stack) (sym (is x.kind t)) ∙ ap (λ l. x ∷ l) f.same)
        (subst (λ m. Runs limit s m f.stack f.items) same f.runs)
    by_test false t more none = absurd (none refl)

-- with a branch taken that was put under others, and put on top
rolled_from :
    {A : Type 0} (limit : ℕ) (s : List (Element A)) (p n a : ℕ) (k : Kind) (t : ℕ) (os : List Opener) (H : List Entry)
    (I : List (Item A)) → is_orig k ≡ true → PutBack (entry_of a k t) H os n →
    Runs limit s p (entry_of a k t ∷ H) I → From limit (Roll n ∷ s) p os
rolled_from limit s p n a (Orig o) t os H I e b r = record {
  stack = b.stack;
  items = I;
  same = b.same;
  runs = roll n a o t b.put (sym b.deep) r;
}
rolled_from limit s p n a (Dest o) t os H I e b r = let bad : ⊥ = cc in absurd bad
rolled_from limit s p n a DoSys t os H I e b r = let bad : ⊥ = cc in absurd bad
rolled_from limit s p n a CaseSys t os H I e b r = let bad : ⊥ = cc in absurd bad
rolled_from limit s p n a OfSys t os H I e b r = let bad : ⊥ = cc in absurd bad

one_on : (p : ℕ) → p + 1 ≡ suc p
one_on p = omega arith

none_on : (p : ℕ) → p + 0 ≡ p
none_on p = omega arith

by_element :
    {A : Type 0} (limit : ℕ) (s : List (Element A)) (p : ℕ) (e : Element A) (os : List Opener) → StandWithin p os →
    Rest limit s p e os → Never limit p e os → From limit (e ∷ s) p os
by_element limit s p (Plain k) os within next never =
    let f = at_place limit s (p + 1) (suc p) os (one_on p) (next os refl) in
    record { stack = f.stack; items = Perform k ∷ f.items; same = f.same; runs = plain k f.runs }
by_element limit s p (Branch z o) os within next never =
    opened_from limit s p (suc p) (p + 1) (Orig o) os (Branch z o) (one_on p) next never
    (λ t G I lt e r. record { stack = G; items = JumpTo z t ∷ I; same = e; runs = branch z o t lt r })
by_element limit s p (Mark o) os within next never =
    opened_from limit s p p (p + 0) (Dest o) os (Mark o) (none_on p) next never
    (λ t G I lt e r. record { stack = G; items = I; same = e; runs = mark o lt r })
by_element limit s p (Do z) os within next never =
    opened_from limit s p (suc p) (p + 1) DoSys os (Do z) (one_on p) next never
    (λ t G I lt e r. record { stack = G; items = EnterLoop z t ∷ I; same = e; runs = enter z t lt r })
by_element limit s p Case os within next never =
    opened_from limit s p p (p + 0) CaseSys os Case (none_on p) next never
    (λ t G I lt e r. record { stack = G; items = I; same = e; runs = cases t lt r })
by_element limit s p (Resolve q) os within next never =
    taken_from limit s p p (p + 0) p os (orig_index q os) (Resolve q) (λ k. is_orig k ≡ true) (none_on p)
    (λ j e. branch_found q os j e) next never
    (λ a k H G I u b e i r.
    let v = branch_put a k p b u in
    record {
      stack = G;
      items = I;
      same = e;
      runs =
          resolve q a v.0 v.1 (ap (orig_index q) e ∙ i ∙ ap Some (sym v.2)) r;
    })
by_element limit s p (Back z q) os within next never =
    taken_from limit s p (suc p) (p + 1) 0 os (dest_index q os) (Back z q) (λ k. is_dest_for q k ≡ true) (one_on p)
    (λ j e. mark_found q os j e) next never
    (λ a k H G I u b e i r.
    let v = mark_put q a k 0 b u in
    let placed = got_within p os (depth u) (opener_at a k) within
    (ap (λ l. slice_get l (depth u)) (sym e) ∙ get-put u ∙ ap Some (entry_opener a k 0)) in
    record {
      stack = G;
      items = JumpTo z a ∷ I;
      same = e;
      runs =
          back z q a v.0 v.1 (ap (dest_index q) e ∙ i ∙ ap Some (sym v.2)) placed r;
    })
by_element limit s p (Loop z) os within next never =
    top_from limit s p (suc p) (p + 1) (suc p) os (Loop z) is_do_sys DoSys loop_kind (one_on p) next never
    (λ a G I e r.
    record {
      stack = Looping a (suc p) ∷ G;
      items = RepeatLoop z (suc a) ∷ I;
      same = e;
      runs = repeat z a r;
    })
by_element limit s p EndOf os within next never =
    top_from limit s p (suc p) (p + 1) (suc p) os EndOf is_of_sys OfSys part_kind (one_on p) next never
    (λ a G I e r.
    record {
      stack = Parted a (suc p) ∷ G;
      items = EndArm (case_end G) ∷ I;
      same = e;
      runs = end_arm a (case_end G) refl r;
    })
by_element limit s p EndCase os within next never =
    top_from limit s p (suc p) (p + 1) (suc p) os EndCase is_case_sys CaseSys case_kind (one_on p) next never
    (λ a G I e r.
    record { stack = Cased a (suc p) ∷ G; items = DropSelector ∷ I; same = e; runs = end_case a r })
by_element limit s p Leave os within next never =
    ⊎_elim
    (λ w.
    let f = at_place limit s (p + 1) (suc p) os (one_on p) (next os w.1) in
    record {
      stack = f.stack;
      items = ExitLoop (loop_end f.stack) ∷ f.items;
      same = f.same;
      runs = leave (loop_end f.stack) (ap any_do_sys f.same ∙ w.0) refl f.runs;
    })
    (λ none. absurd (never none))
    (if_or (any_do_sys os) os)
by_element limit s p (Roll n) os within next never =
    rolling (nat_lt n (orig_count os)) refl next never
  where
    rolling : (b : Bool) → nat_lt n (orig_count os) ≡ b
        → ((new : List Opener) → (if b then topped (slice_get os n) (remove os n) else None) ≡ Some new
        → From limit s (p + 0) new)
        → ((if b then topped (slice_get os n) (remove os n) else None) ≡ None → ⊥)
        → From limit (Roll n ∷ s) p os
    rolling true lt more none =
        let u = rolled_found os n (ltb-true n (orig_count os) lt) in
        let x = opener_at u.0.at u.0.kind in
        let f = more (x ∷ remove os n) (ap (λ o. topped o (remove os n)) u.0.here) in
        let h = headed f.stack x (remove os n) f.same in
        let b = put_back os n u.0.at u.0.kind h.end h.below u.0.clear u.0.here h.rest in
        let r = subst (λ G. Runs limit s (p + 0) G f.items) h.whole f.runs in
        rolled_from limit s p n u.0.at u.0.kind h.end os h.below f.items u.1 b
        (subst (λ m. Runs limit s m (entry_of u.0.at u.0.kind h.end ∷ h.below) f.items) (none_on p) r)
    rolling false lt more none = absurd (none refl)
by_element limit s p Of [] within next never = absurd (never refl)
by_element limit s p Of (x ∷ os) within next never = testing (is_case_sys x.kind) refl next never
  where
    testing : (b : Bool) → is_case_sys x.kind ≡ b
        → ((new : List Opener) → (if b then opened_in limit (opener_at p OfSys) (Some (x ∷ os)) else None) ≡ Some new
        → From limit s (p + 1) new)
        → ((if b then opened_in limit (opener_at p OfSys) (Some (x ∷ os)) else None) ≡ None → ⊥)
        → From limit (Of ∷ s) p (x ∷ os)
    testing true c more none =
        opened_from limit s p (suc p) (p + 1) OfSys (x ∷ os) Of (one_on p) more none
        (λ t G I lt e r.
        let h = headed G x os e in
        let whole = h.whole ∙ ap (λ k. entry_of x.at k h.end ∷ h.below) (case_kind x.kind c) in
        record {
          stack = Cased x.at h.end ∷ h.below;
          items = TestArm t ∷ I;
          same = ap openers (sym whole) ∙ e;
          runs =
              test t x.at h.end (omega (arith, ap length whole))
              (subst (λ H. Runs limit s (suc p) (Parted p t ∷ H) I) whole r);
        })
    testing false c more none = absurd (none refl)
by_element limit s p (Misfit k) os within next never = absurd (never refl)

-- ---- all

none_stays :
    {A : Type 0} (limit : ℕ) (s d : List (Element A)) → after_calls limit item_count d ≡ None →
    after_calls limit item_count (onto s d) ≡ Some [] → ⊥
none_stays limit [] d e h = let bad : ⊥ = cc in bad
none_stays limit (x ∷ s) d e h =
    none_stays limit s (x ∷ d) (ap (after_call limit (item_count d) x) e ∙ none_after limit (item_count d) x) h
  where
    none_after : {A : Type 0} (limit p : ℕ) (x : Element A) → after_call limit p x None ≡ None
    none_after limit p (Plain k) = refl
    none_after limit p (Branch z t) = refl
    none_after limit p (Resolve q) = refl
    none_after limit p (Mark q) = refl
    none_after limit p (Back z t) = refl
    none_after limit p (Roll n) = refl
    none_after limit p (Do q) = refl
    none_after limit p (Loop l) = refl
    none_after limit p Leave = refl
    none_after limit p Case = refl
    none_after limit p Of = refl
    none_after limit p EndOf = refl
    none_after limit p EndCase = refl
    none_after limit p (Misfit k) = refl

-- no call keeps a place past its own
abbrev pub ArePlaced : Type 0 → ℕ → Type 0
ArePlaced A limit = (es : List (Element A)) → AreWithin (item_count es) (after_calls limit item_count es)

pub running :
    {A : Type 0} (limit : ℕ) (s d : List (Element A)) (os : List Opener) → ArePlaced A limit →
    after_calls limit item_count d ≡ Some os → after_calls limit item_count (onto s d) ≡ Some [] →
    From limit s (item_count d) os
running limit [] d os placed e h =
    let none : [] ≡ os = cc in record { stack = []; items = []; same = none; runs = over }
running limit (x ∷ s) d os placed e h =
    by_element limit s (item_count d) x os (subst (AreWithin (item_count d)) e (placed d))
    (λ new n. running limit s (x ∷ d) new placed (ap (after_call limit (item_count d) x) e ∙ n) h)
    (λ n. none_stays limit s (x ∷ d) (ap (after_call limit (item_count d) x) e ∙ n) h)
