-- What the control stack does at all elements of a definition is known by its nest.
use Rattle.std.proofs.Common.{◌≡◌, ◌<◌, ◌⊎◌, inl, inr, ℕ, zero, suc, ◌+◌, ◌-◌, ◌||◌, Bool, true, false, nat_eq}
use Rattle.std.proofs.Common.{List, [], ◌∷◌, ◌++◌, length, Option, Some, None, refl, ap, sym, ◌∙◌, subst, arith}
use Rattle.std.proofs.Common.{if◌then◌else◌}
use Rattle.std.specs.Prelude.{slice_get}
use Rattle.std.proofs.lemmas.Bool.{eq-eqb, eqb-true, false_from_ne_true}
use Rattle.of_stream.specs.Decoding.{Token}
use Rattle.of_control.specs.declared.opener.Kind.{Kind}
use Rattle.of_control.specs.declared.opener.Kind.TheVariants.{CaseSys, Dest, DoSys, OfSys, Orig}
use Rattle.of_control.specs.AgedStack.{Closed, Nothing, answer, any_loop, closed_if, first_or, first_orig_for}
use Rattle.of_control.specs.AgedStack.{found, if_kind, is_on_case, next, nothing_if, or_opening}
use Rattle.of_control.specs.Element.{Element}
use Rattle.of_control.specs.Element as el
use Rattle.of_control.specs.Matching.{Opening, Partners, opened_by, origs_if, structure_or, top_origs, top_structure}
use Rattle.of_control.specs.Openers.{is_dest_for, is_do_sys, is_orig, is_orig_for}
use Rattle.of_source.specs.Nest.{Around, Fits, Nest, Stop, Plain, Definition, Defining, If, Else, Then, Begin, Do}
use Rattle.of_source.specs.Nest.{Leave, Case, Of, in_part, open_behind}
use Rattle.of_tok.specs.declared.place.Place.{Place}
use Rattle.of_tok.specs.Places.{behind, past, past_offset}
use Rattle.of_tok.specs.Tokens.{aims_of, end_of, first, others}
use Rattle.of_meaning.proofs.Elements.{elements_of}
use Rattle.of_meaning.specs.Pairs.{Pairs, closes, leaves_one, opens, pairs, passes}
use Rattle.of_meaning.proofs.Aims.{AreAbove, above_first, aims_above, aims_pass, left_alone, never, past_ones}
use Rattle.of_meaning.proofs.Aims.{weaken}
use Rattle.of_meaning.proofs.Stack.{Opened, Up, aged, closing, newest, opening, passed, passing, with_one, without_one}

-- ---- branches on the stack

-- the latest k openers are branches that lead there, and the others are these
abbrev pub Branches : ℕ → List ℕ → List Opening → List Opening → Type 0
Branches zero ts os rest = os ≡ rest
Branches (suc k) ts [] rest = ⊥
Branches (suc k) ts (x ∷ os) rest = (x.kind ≡ Orig (Some (first ts))) × Branches k (others ts) os rest

-- what stands around a part
pub record Base (a : Around) (rest : List Opening) : Type 0 where
  pub tops : top_origs rest ≡ []
  pub loops : a.loops ≡ true → any_loop rest ≡ true
  pub cases : a.cases ≡ true → is_on_case (slice_get rest 0) ≡ true

tops_of : (x : Opening) (os : List Opening) (t : ℕ) → x.kind ≡ Orig (Some t) → top_origs (x ∷ os) ≡ x ∷ top_origs os
tops_of x os t e = ap (λ k. origs_if (is_orig k) x (top_origs os)) e

other : (s t : ℕ) → t < s → nat_eq s t ≡ false
other s t l = false_from_ne_true (nat_eq s t) (λ e. absurd (omega (arith, l, eqb-true s t e)))

-- the first one that aims at t, where a branch to s is the latest
latest : (t s : ℕ) (x : Opening) (os : List Opening) (b : Bool) → x.kind ≡ Orig (Some s) → nat_eq s t ≡ b
    → first_orig_for t (top_origs (x ∷ os)) ≡ first_or b x (first_orig_for t (top_origs os))
latest t s x os b e z =
    ap (first_orig_for t) (tops_of x os s e)
    ∙ ap (λ k. first_or (is_orig_for t k) x (first_orig_for t (top_origs os))) e
    ∙ ap (λ c. first_or c x (first_orig_for t (top_origs os))) z

none_aims : (t k : ℕ) (ts : List ℕ) (os rest : List Opening) → top_origs rest ≡ [] → Branches k ts os rest
    → AreAbove t k ts → first_orig_for t (top_origs os) ≡ None
none_aims t zero ts os rest tops b h = ap (λ l. first_orig_for t (top_origs l)) b ∙ ap (first_orig_for t) tops
none_aims t (suc k) ts [] rest tops b h = absurd b
none_aims t (suc k) ts (x ∷ os) rest tops b h =
    latest t (first ts) x os false b.0 (other (first ts) t h.0)
    ∙ none_aims t k (others ts) os rest tops b.1 h.1

or_true : (b c : Bool) → c ≡ true → (b || c) ≡ true
or_true true c h = refl
or_true false c h = h

loop_there : (k : ℕ) (ts : List ℕ) (os rest : List Opening) → Branches k ts os rest → any_loop rest ≡ true
    → any_loop os ≡ true
loop_there zero ts os rest b h = ap any_loop b ∙ h
loop_there (suc k) ts [] rest b h = absurd b
loop_there (suc k) ts (x ∷ os) rest b h =
    or_true (is_do_sys x.kind) (any_loop os) (loop_there k (others ts) os rest b.1 h)

top_is : (k : ℕ) (ts : List ℕ) (os : List Opening) (x : Opening) (rest : List Opening) → Branches k ts os (x ∷ rest)
    → is_orig x.kind ≡ false → top_structure os ≡ Some x
top_is zero ts os x rest b h = ap top_structure b ∙ ap (λ c. structure_or c x (top_structure rest)) h
top_is (suc k) ts [] x rest b h = absurd b
top_is (suc k) ts (y ∷ os) x rest b h =
    ap (λ c. structure_or (is_orig c) y (top_structure os)) b.0 ∙ top_is k (others ts) os x rest b.1 h

-- the branches above a structure, and those beneath it
record Merged (n : ℕ) (k : ℕ) (ts : List ℕ) (os : List Opening) (x : Opening) (under rest : List Opening) : Type 0
  where
    pre : List Opening
    split : os ≡ pre ++ x ∷ under
    long : length pre ≡ k
    joined : Branches n ts (pre ++ under) rest

merge : (n k j : ℕ) (ts : List ℕ) (os : List Opening) (x : Opening) (under rest : List Opening) → n ≡ k + j
    → Branches k ts os (x ∷ under) → Branches j (past_ones k ts) under rest → Merged n k ts os x under rest
merge n zero j ts os x under rest e b c = record {
  pre = [];
  split = b;
  long = refl;
  joined = subst (λ i. Branches i ts under rest) (omega (arith, e)) c;
}
merge n (suc k) j ts [] x under rest e b c = absurd b
merge zero (suc k) j ts (y ∷ os) x under rest e b c = absurd (omega (arith, e))
merge (suc n) (suc k) j ts (y ∷ os) x under rest e b c =
    let m = merge n k j (others ts) os x under rest (omega (arith, e)) b.1 c in
    record {
      pre = y ∷ m.pre;
      split = ap (λ l. y ∷ l) m.split;
      long = ap suc m.long;
      joined = (b.0, m.joined);
    }

-- ---- all elements

-- the stack behind some elements, where it holds
pub record Held {A : Type 0} (es : List (Element A)) (x : Option Pairs) (k : ℕ) (ts : List ℕ) (rest : List Opening)
    : Type 0 where
  pub partners : Partners
  pub openers : List Opening
  pub known : Pairs
  pub stack : aged es ≡ Some (partners, openers)
  pub pairs_are : x ≡ Some known
  pub up : Up es partners openers known
  pub branches : Branches k ts openers rest

abbrev pub Comes : {A : Type 0} → List (Element A) → Option Pairs → ℕ → List ℕ → List Opening → Type 0
Comes es x k ts rest = ((aged es ≡ None) × (x ≡ None)) ⊎ Held es x k ts rest

none_if : (b : Bool) → ◌≡◌ {A = Option Pairs} (if b then passes None else None) None
none_if true = refl
none_if false = refl

pairs_none : (i : Nest) → pairs i None ≡ None
pairs_none Stop = refl
pairs_none (Plain t r) = ap (pairs r) (none_if (leaves_one t)) ∙ pairs_none r
pairs_none (Definition m i r) = pairs_none r
pairs_none (Defining m t r) = pairs_none r
pairs_none (If l r) = pairs_none r
pairs_none (Else l r) = pairs_none r
pairs_none (Then r) = pairs_none r
pairs_none (Begin i z l r) = ap (λ x. pairs r (closes (open_behind i 0) x)) (pairs_none i) ∙ pairs_none r
pairs_none (Do q k i l m r) = ap (λ x. pairs r (closes 0 x)) (pairs_none i) ∙ pairs_none r
pairs_none (Leave r) = pairs_none r
pairs_none (Case i r) = ap (λ x. pairs r (closes 0 x)) (pairs_none i) ∙ pairs_none r
pairs_none (Of k i m r) = ap (λ x. pairs r (closes 0 x)) (pairs_none i) ∙ pairs_none r

module _ {A : Type 0} (f : Token → Place → A) where
  more_none : (e : Element A) (es : List (Element A)) → aged es ≡ None → aged (e ∷ es) ≡ None
  more_none e es h = ap (next 32 (length es) e) h

  plain_none : (b : Bool) (e : Element A) (es : List (Element A)) → aged es ≡ None
      → aged (if b then e ∷ es else es) ≡ None
  plain_none true e es h = more_none e es h
  plain_none false e es h = h

  all_none : (i : Nest) (p : Place) (to : List ℕ) (es : List (Element A)) → aged es ≡ None
      → aged (elements_of f i p to es) ≡ None
  all_none Stop p to es h = h
  all_none (Plain t r) p to es h =
      all_none r (behind t p) to (if leaves_one t then el.Plain (f t p) ∷ es else es)
      (plain_none (leaves_one t) (el.Plain (f t p)) es h)
  all_none (Definition m i r) p to es h = h
  all_none (Defining m t r) p to es h = h
  all_none (If l r) p to es h =
      let q = past_offset p in
      let e : Element A = el.Branch true (Some (first (aims_of r q to))) in
      all_none r q to (e ∷ es) (more_none e es h)
  all_none (Else l r) p to es h =
      let q = past 1 (past_offset p) in
      let e : Element A = el.Branch false (Some (first (aims_of r q to))) in
      let c : Element A = el.Resolve (Some (past_offset p).position) in
      all_none r q to (c ∷ e ∷ es) (more_none c (e ∷ es) (more_none e es h))
  all_none (Then r) p to es h =
      let c : Element A = el.Resolve (Some p.position) in
      all_none r (past 1 p) to (c ∷ es) (more_none c es h)
  all_none (Begin i z l r) p to es h =
      let b = past 1 p in
      let q = past_offset (end_of i b) in
      let e : Element A = el.Mark (Some p.position) in
      let c : Element A = el.Back z (Some b.position) in
      let inside = elements_of f i b (aims_of r q to) (e ∷ es) in
      all_none r q to (c ∷ inside)
      (more_none c inside (all_none i b (aims_of r q to) (e ∷ es) (more_none e es h)))
  all_none (Do v k i l m r) p to es h =
      let b = past_offset p in
      let q = past_offset (end_of i b) in
      let e : Element A = el.Do v in
      let c : Element A = el.Loop l in
      let inside = elements_of f i b (aims_of r q to) (e ∷ es) in
      all_none r q to (c ∷ inside)
      (more_none c inside (all_none i b (aims_of r q to) (e ∷ es) (more_none e es h)))
  all_none (Leave r) p to es h =
      let e : Element A = el.Leave in
      all_none r (past 1 p) to (e ∷ es) (more_none e es h)
  all_none (Case i r) p to es h =
      let b = past 1 p in
      let q = past 1 (end_of i b) in
      let e : Element A = el.Case in
      let c : Element A = el.EndCase in
      let inside = elements_of f i b (aims_of r q to) (e ∷ es) in
      all_none r q to (c ∷ inside)
      (more_none c inside (all_none i b (aims_of r q to) (e ∷ es) (more_none e es h)))
  all_none (Of k i m r) p to es h =
      let b = past_offset p in
      let q = past_offset (end_of i b) in
      let e : Element A = el.Of in
      let c : Element A = el.EndOf in
      let inside = elements_of f i b (aims_of r q to) (e ∷ es) in
      all_none r q to (c ∷ inside)
      (more_none c inside (all_none i b (aims_of r q to) (e ∷ es) (more_none e es h)))

  -- what comes behind an element that opens
  behind_opening : (es fs : List (Element A)) (e : Element A) (m : Partners) (os : List Opening) (y : Pairs) (k : Kind)
      (g : Option Pairs → Option Pairs) (l : ℕ) (to : List ℕ) (rest : List Opening) → g None ≡ None
      → (aged (e ∷ es) ≡ None → aged fs ≡ None)
      → (Opened es e m os y k → Comes fs (g (Some (with_one y))) l to rest)
      → ((aged (e ∷ es) ≡ None) × (opens (Some y) ≡ None)) ⊎ Opened es e m os y k
      → Comes fs (g (opens (Some y))) l to rest
  behind_opening es fs e m os y k g l to rest none dead go (inl (s, x)) = inl (dead s, ap g x ∙ none)
  behind_opening es fs e m os y k g l to rest none dead go (inr o) =
      subst (λ x. Comes fs (g x) l to rest) (sym o.known) (go o)

  -- what comes behind a part
  behind_part : (es fs : List (Element A)) (x : Option Pairs) (g : Option Pairs → Option Pairs) (k l : ℕ)
      (ts to : List ℕ) (inner rest : List Opening) → g None ≡ None → (aged es ≡ None → aged fs ≡ None)
      → ((h : Held es x k ts inner) → Comes fs (g (Some h.known)) l to rest) → Comes es x k ts inner
      → Comes fs (g x) l to rest
  behind_part es fs x g k l ts to inner rest none dead go (inl (s, z)) = inl (dead s, ap g z ∙ none)
  behind_part es fs x g k l ts to inner rest none dead go (inr h) =
      subst (λ z. Comes fs (g z) l to rest) (sym h.pairs_are) (go h)

  plain_comes : (b : Bool) (r : Nest) (q : Place) (to : List ℕ) (e : Element A) (es : List (Element A)) (y : Pairs)
      (l : ℕ) (rest : List Opening) → Comes (elements_of f r q to (e ∷ es)) (pairs r (Some (passed y))) l to rest
      → Comes (elements_of f r q to es) (pairs r (Some y)) l to rest
      → Comes (elements_of f r q to (if b then e ∷ es else es)) (pairs r (if b then passes (Some y) else Some y)) l to
      rest
  plain_comes true r q to e es y l rest one none = one
  plain_comes false r q to e es y l rest one none = none

  -- a part that one word opens and another closes, with no branch left open in it
  enclosed : (i r : Nest) (b q : Place) (to : List ℕ) (es : List (Element A)) (e c : Element A) (k : Kind)
      (m : Partners) (os : List Opening) (y : Pairs) (l : ℕ) (rest : List Opening) → aged es ≡ Some (m, os)
      → Up es m os y → answer os e ≡ Nothing → opened_by (length es) e None ≡ newest es k ∷ []
      → answer (newest es k ∷ os) c ≡ Closed (newest es k) → ((n : ℕ) (x : Opening) → opened_by n c (Some x) ≡ [])
      → (Opened es e m os y k → Comes (elements_of f i b (aims_of r q to) (e ∷ es)) (pairs i (Some (with_one y))) 0
      (aims_of r q to) (newest es k ∷ os))
      → ((fs : List (Element A)) (n : Partners) (z : Pairs) → aged fs ≡ Some (n, os) → Up fs n os z
      → Comes (elements_of f r q to fs) (pairs r (Some z)) l to rest)
      → Comes (elements_of f r q to (c ∷ elements_of f i b (aims_of r q to) (e ∷ es)))
      (pairs r (closes 0 (pairs i (opens (Some y))))) l to rest
  enclosed i r b q to es e c k m os y l rest s u w o closer opener inner further =
      let ts = aims_of r q to in
      let inside = elements_of f i b ts (e ∷ es) in
      let all = elements_of f r q to (c ∷ inside) in
      behind_opening es all e m os y k (λ x. pairs r (closes 0 (pairs i x))) l to rest
      (ap (λ x. pairs r (closes 0 x)) (pairs_none i) ∙ pairs_none r)
      (λ h. all_none r q to (c ∷ inside) (more_none c inside (all_none i b ts (e ∷ es) h)))
      (λ opened.
      behind_part inside all (pairs i (Some (with_one y))) (λ x. pairs r (closes 0 x)) 0 l ts to (newest es k ∷ os) rest
      (pairs_none r) (λ h. all_none r q to (c ∷ inside) (more_none c inside h))
      (λ h.
      let closed =
      closing inside c h.partners h.openers [] os (newest es k) h.known h.stack h.up h.branches
      (ap (λ z. answer z c) h.branches ∙ closer) (opener (length inside) (newest es k)) in
      further (c ∷ inside) (Some (newest es k) ∷ h.partners) (without_one 0 h.known) closed.0 closed.1)
      (inner opened))
      (opening es e m os y k s u w o)

  nothing_there : (b : Bool) → b ≡ true → nothing_if b ≡ Nothing
  nothing_there true e = refl
  nothing_there false e = absurd cc

  pub follow : (i : Nest) (a : Around) (floor d k l : ℕ) (p : Place) (to : List ℕ) (es : List (Element A))
      (m : Partners) (os : List Opening) (y : Pairs) (rest : List Opening) → a.defines ≡ true → Fits i a floor d
      → d ≡ floor + k → open_behind i d ≡ floor + l → AreAbove (end_of i p).position l to → Base a rest
      → aged es ≡ Some (m, os)
      → Up es m os y → Branches k (aims_of i p to) os rest
      → Comes (elements_of f i p to es) (pairs i (Some y)) l to rest
  follow Stop a floor d k l p to es m os y rest on h e g above base s u b =
      inr (record {
        partners = m;
        openers = os;
        known = y;
        stack = s;
        pairs_are = refl;
        up = u;
        branches = subst (λ n. Branches n to os rest) (omega (arith, e, g)) b;
      })
  follow (Plain t r) a floor d k l p to es m os y rest on h e g above base s u b =
      let q = behind t p in
      let x : Element A = el.Plain (f t p) in
      let one = passing es x m os y s u refl refl in
      plain_comes (leaves_one t) r q to x es y l rest
      (follow r a floor d k l q to (x ∷ es) (None ∷ m) os (passed y) rest on h e g above base one.0 one.1 b)
      (follow r a floor d k l q to es m os y rest on h e g above base s u b)
  follow (Definition n i r) a floor d k l p to es m os y rest on h e g above base s u b = never (sym on ∙ h.0)
  follow (Defining n t r) a floor d k l p to es m os y rest on h e g above base s u b = never (sym on ∙ h.0)
  follow (If c r) a floor d k l p to es m os y rest on h e g above base s u b =
      let q = past_offset p in
      let t = first (aims_of r q to) in
      let x : Element A = el.Branch true (Some t) in
      behind_opening es (elements_of f r q to (x ∷ es)) x m os y (Orig (Some t)) (pairs r) l to rest (pairs_none r)
      (all_none r q to (x ∷ es))
      (λ o.
      follow r a floor (d + 1) (suc k) l q to (x ∷ es) (None ∷ m) (newest es (Orig (Some t)) ∷ os) (with_one y) rest on
      h (omega (arith, e)) g above base o.stack o.up (refl, b))
      (opening es x m os y (Orig (Some t)) s u refl refl)
  follow (Else c r) a floor d zero l p to es m os y rest on h e g above base s u b = absurd (omega (arith, e, h.0))
  follow (Else c r) a floor d (suc k) l p to es m [] y rest on h e g above base s u b = absurd b
  follow (Else c r) a floor d (suc k) l p to es m (x ∷ os) y rest on h e g above base s u b =
      let at = past_offset p in
      let q = past 1 at in
      let aims = aims_of r q to in
      let t = first aims in
      let branch : Element A = el.Branch false (Some t) in
      let resolve : Element A = el.Resolve (Some at.position) in
      let new = newest es (Orig (Some t)) in
      let higher : AreAbove q.position (suc k) aims = aims_above r a floor d (suc k) l q to on h.1 e g above in
      let two : Branches (suc (suc k)) (t ∷ q.position ∷ others aims) (new ∷ x ∷ os) rest = (refl, b) in
      let above_two : AreAbove at.position (suc (suc k)) (t ∷ q.position ∷ others aims)
      = (
        omega (arith, higher.0),
        (omega arith, weaken at.position q.position k (others aims) (omega arith) higher.1),
      ) in
      let none : first_orig_for at.position (top_origs (new ∷ x ∷ os)) ≡ None =
      none_aims at.position (suc (suc k)) (t ∷ q.position ∷ others aims) (new ∷ x ∷ os) rest base.tops two above_two in
      let there : first_orig_for (suc at.position) (top_origs (new ∷ x ∷ os)) ≡ Some x =
      latest (suc at.position) t new (x ∷ os) false refl (other t (suc at.position) (omega (arith, higher.0)))
      ∙ latest (suc at.position) q.position x os true b.0 (eq-eqb q.position (suc at.position) (omega arith)) in
      let answered : answer (new ∷ x ∷ os) resolve ≡ Closed x =
      ap (λ z. found (or_opening z (first_orig_for (suc at.position) (top_origs (new ∷ x ∷ os))))) none
      ∙ ap found there in
      behind_opening es (elements_of f r q to (resolve ∷ branch ∷ es)) branch m (x ∷ os) y (Orig (Some t))
      (λ z. pairs r (closes 1 z)) l to rest (pairs_none r)
      (λ z. all_none r q to (resolve ∷ branch ∷ es) (more_none resolve (branch ∷ es) z))
      (λ o.
      let closed =
      closing (branch ∷ es) resolve (None ∷ m) (new ∷ x ∷ os) (new ∷ []) os x (with_one y) o.stack o.up refl answered
      refl in
      follow r a floor d (suc k) l q to (resolve ∷ branch ∷ es) (Some x ∷ None ∷ m) (new ∷ os)
      (without_one 1 (with_one y)) rest on h.1 e g above base closed.0 closed.1 (refl, b.1))
      (opening es branch m (x ∷ os) y (Orig (Some t)) s u refl refl)
  follow (Then r) a floor d zero l p to es m os y rest on h e g above base s u b = absurd (omega (arith, e, h.0))
  follow (Then r) a floor d (suc k) l p to es m [] y rest on h e g above base s u b = absurd b
  follow (Then r) a floor d (suc k) l p to es m (x ∷ os) y rest on h e g above base s u b =
      let q = past 1 p in
      let aims = aims_of r q to in
      let resolve : Element A = el.Resolve (Some p.position) in
      let higher : AreAbove q.position k aims =
      aims_above r a floor (d - 1) k l q to on h.1 (omega (arith, e)) g above in
      let above_all : AreAbove p.position (suc k) (q.position ∷ aims)
      = (omega arith, weaken p.position q.position k aims (omega arith) higher) in
      let none : first_orig_for p.position (top_origs (x ∷ os)) ≡ None =
      none_aims p.position (suc k) (q.position ∷ aims) (x ∷ os) rest base.tops b above_all in
      let there : first_orig_for (suc p.position) (top_origs (x ∷ os)) ≡ Some x =
      latest (suc p.position) q.position x os true b.0 (eq-eqb q.position (suc p.position) (omega arith)) in
      let answered : answer (x ∷ os) resolve ≡ Closed x =
      ap (λ z. found (or_opening z (first_orig_for (suc p.position) (top_origs (x ∷ os))))) none ∙ ap found there in
      let closed = closing es resolve m (x ∷ os) [] os x y s u refl answered refl in
      follow r a floor (d - 1) k l q to (resolve ∷ es) (Some x ∷ m) os (without_one 0 y) rest on h.1 (omega (arith, e))
      g above base closed.0 closed.1 b.1
  follow (Begin i z c r) a floor d k l p to es m os y rest on h e g above base s u b =
      let start = past 1 p in
      let q = past_offset (end_of i start) in
      let aims = aims_of r q to in
      let own = open_behind i 0 in
      let left = left_alone i (in_part a) d on h.0 in
      let mark : Element A = el.Mark (Some p.position) in
      let back : Element A = el.Back z (Some start.position) in
      let kind = Dest (Some p.position) in
      let new = newest es kind in
      let inside = elements_of f i start aims (mark ∷ es) in
      let all = elements_of f r q to (back ∷ inside) in
      let higher : AreAbove q.position (own + k) aims =
      aims_above r a floor (open_behind i d) (own + k) l q to on h.1 (omega (arith, left, e)) g above in
      let inner_above : AreAbove (end_of i start).position own aims =
      weaken (end_of i start).position q.position own aims (omega arith)
      (above_first q.position own k (own + k) aims refl higher) in
      let inner_base : Base (in_part a) (new ∷ os) = record {
        tops = refl;
        loops = λ w. loop_there k (aims_of (Begin i z c r) p to) os rest b (base.loops w);
        cases = λ w. absurd cc;
      } in
      let outer : Branches k (past_ones own aims) os rest =
      subst (λ ts. Branches k ts os rest) (aims_pass i (in_part a) d d 0 own start aims on h.0 (omega arith) left) b in
      let goes : (t : Bool) → (t || nat_eq start.position (suc p.position)) ≡ true
      = λ t.
      or_true t (nat_eq start.position (suc p.position)) (eq-eqb start.position (suc p.position) (omega arith)) in
      behind_opening es all mark m os y kind (λ x. pairs r (closes own (pairs i x))) l to rest
      (ap (λ x. pairs r (closes own x)) (pairs_none i) ∙ pairs_none r)
      (λ w. all_none r q to (back ∷ inside) (more_none back inside (all_none i start aims (mark ∷ es) w)))
      (λ o.
      behind_part inside all (pairs i (Some (with_one y))) (λ x. pairs r (closes own x)) own l aims to (new ∷ os) rest
      (pairs_none r) (λ w. all_none r q to (back ∷ inside) (more_none back inside w))
      (λ w.
      let j = merge (own + k) own k aims w.openers new os rest refl w.branches outer in
      let answered : answer w.openers back ≡ Closed new =
      ap (if_kind (is_dest_for (Some start.position))) (top_is own aims w.openers new os w.branches refl)
      ∙ ap (λ t. closed_if t new) (goes (nat_eq start.position p.position)) in
      let closed =
      closing inside back w.partners w.openers j.pre os new w.known w.stack w.up j.split answered refl in
      follow r a floor (open_behind i d) (own + k) l q to (back ∷ inside) (Some new ∷ w.partners) (j.pre ++ os)
      (without_one own w.known) rest on h.1 (omega (arith, left, e)) g above base closed.0
      (subst (λ n. Up (back ∷ inside) (Some new ∷ w.partners) (j.pre ++ os) (without_one n w.known)) j.long closed.1)
      j.joined)
      (follow i (in_part a) d d 0 own start aims (mark ∷ es) (None ∷ m) (new ∷ os) (with_one y) (new ∷ os) on h.0
      (omega arith) left inner_above inner_base o.stack o.up refl))
      (opening es mark m os y kind s u refl refl)
  follow (Do v n i c w r) a floor d k l p to es m os y rest on h e g above base s u b =
      let start = past_offset p in
      let q = past_offset (end_of i start) in
      let aims = aims_of r q to in
      let inner : Around = record { defines = a.defines; loops = true; cases = false } in
      let own : open_behind i d ≡ d + 0 = omega (arith, h.1) in
      let new = newest es DoSys in
      let same = aims_pass i inner d d 0 0 start aims on h.0 (omega arith) own in
      enclosed i r start q to es (el.Do v) (el.Loop c) DoSys m os y l rest s u refl refl refl (λ j x. refl)
      (λ o.
      follow i inner d d 0 0 start aims (el.Do v ∷ es) (None ∷ m) (new ∷ os) (with_one y) (new ∷ os) on h.0
      (omega arith) own tt (record { tops = refl; loops = λ x. refl; cases = λ x. absurd cc }) o.stack o.up refl)
      (λ fs j x stack up.
      follow r a floor d k l q to fs j os x rest on h.2 e g above base stack up
      (subst (λ ts. Branches k ts os rest) same b))
  follow (Leave r) a floor d k l p to es m os y rest on h e g above base s u b =
      let q = past 1 p in
      let x : Element A = el.Leave in
      let there = loop_there k (aims_of (Leave r) p to) os rest b (base.loops h.0) in
      let one = passing es x m os y s u (nothing_there (any_loop os) there) refl in
      follow r a floor d k l q to (x ∷ es) (None ∷ m) os (passed y) rest on h.1 e g above base one.0 one.1 b
  follow (Case i r) a floor d k l p to es m os y rest on h e g above base s u b =
      let start = past 1 p in
      let q = past 1 (end_of i start) in
      let aims = aims_of r q to in
      let inner : Around = record { defines = a.defines; loops = a.loops; cases = true } in
      let own : open_behind i d ≡ d + 0 = omega (arith, h.1) in
      let new = newest es CaseSys in
      let same = aims_pass i inner d d 0 0 start aims on h.0 (omega arith) own in
      enclosed i r start q to es el.Case el.EndCase CaseSys m os y l rest s u refl refl refl (λ j x. refl)
      (λ o.
      follow i inner d d 0 0 start aims (el.Case ∷ es) (None ∷ m) (new ∷ os) (with_one y) (new ∷ os) on h.0
      (omega arith) own tt (record {
        tops = refl;
        loops = λ x. loop_there k (aims_of (Case i r) p to) os rest b (base.loops x);
        cases = λ x. refl;
      }) o.stack o.up refl)
      (λ fs j x stack up.
      follow r a floor d k l q to fs j os x rest on h.2 e g above base stack up
      (subst (λ ts. Branches k ts os rest) same b))
  follow (Of n i w r) a floor d (suc k) l p to es m os y rest on h e g above base s u b =
      absurd (omega (arith, e, h.1))
  follow (Of n i w r) a floor d zero l p to es m os y rest on h e g above base s u b =
      let start = past_offset p in
      let q = past_offset (end_of i start) in
      let aims = aims_of r q to in
      let own : open_behind i d ≡ d + 0 = omega (arith, h.3) in
      let new = newest es OfSys in
      let there : is_on_case (slice_get os 0) ≡ true = ap (λ z. is_on_case (slice_get z 0)) b ∙ base.cases h.0 in
      enclosed i r start q to es el.Of el.EndOf OfSys m os y l rest s u
      (nothing_there (is_on_case (slice_get os 0)) there) refl refl (λ j x. refl)
      (λ o.
      follow i (in_part a) d d 0 0 start aims (el.Of ∷ es) (None ∷ m) (new ∷ os) (with_one y) (new ∷ os) on h.2
      (omega arith) own tt (record {
        tops = refl;
        loops = λ x. ap any_loop b ∙ base.loops x;
        cases = λ x. absurd cc;
      }) o.stack o.up refl)
      (λ fs j x stack up. follow r a floor d zero l q to fs j os x rest on h.4 e g above base stack up b)
