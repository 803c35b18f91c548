-- What the control stack does at one element, and what is known by the nest.
use Rattle.std.proofs.Common.{◌≡◌, ◌<◌, ◌≤◌, ◌⊎◌, inl, inr, ℕ, suc, Bool, true, false, not, nat_eq, nat_le, List}
use Rattle.std.proofs.Common.{[], ◌∷◌, ◌++◌, length, map, Option, Some, None, refl, ap, sym, ◌∙◌, subst, arith}
use Rattle.std.proofs.Common.{if◌then◌else◌}
use Rattle.std.specs.Prelude.{drop, filter, remove, slice_get}
use Rattle.std.proofs.lemmas.Bool.{eq-eqb, eqb-true, false_from_ne_true, le-leb, leb-true}
use Rattle.std.proofs.lemmas.List.{length-append}
use Rattle.of_control.specs.declared.opener.Kind.{Kind}
use Rattle.of_control.specs.AgedStack.{AgedStack, Answer, Closed, Nothing, after, aged_stack, answer, go_on, next}
use Rattle.of_control.specs.AgedStack.{with_room}
use Rattle.of_control.specs.Element.{Element}
use Rattle.of_control.specs.Element as el
use Rattle.of_control.specs.Matching.{Opening, Partners, is_partner, opened_by}
use Rattle.of_control.specs.Reading.{PartlyRead, add_due, read_next, read_so_far, reading}
use Rattle.of_meaning.specs.Pairs.{Pairs, opening_of, opens}

-- ---- the number of what is closed

abbrev pub at_of : Option Opening → Option ℕ
at_of None = None
at_of (Some x) = Some x.at

abbrev pub ats : Partners → List (Option ℕ)
ats m = map at_of m

abbrev first_or : {X : Type 0} → X → List X → X
first_or x [] = x
first_or x (y ∷ ys) = y

head_is : {X : Type 0} (x y : X) (xs ys : List X) → x ∷ xs ≡ y ∷ ys → x ≡ y
head_is x y xs ys e = ap (first_or x) e

tail_is : {X : Type 0} (x y : X) (xs ys : List X) → x ∷ xs ≡ y ∷ ys → xs ≡ ys
tail_is x y xs ys e = ap (drop 1) e

some_is : (a b : ℕ) → ◌≡◌ {A = Option ℕ} (Some a) (Some b) → a ≡ b
some_is a b e = ap number_or_zero e
  where
    number_or_zero : Option ℕ → ℕ
    number_or_zero None = 0
    number_or_zero (Some n) = n

module _ {A : Type 0} where
  -- the reading asks for no more
  resolve_same : (n : ℕ) (p : Option ℕ) (o q : Option Opening) (r : PartlyRead A) → at_of o ≡ at_of q
      → read_next n (el.Resolve p) o r ≡ read_next n (el.Resolve p) q r
  resolve_same n p None None r e = refl
  resolve_same n p None (Some y) r e = absurd cc
  resolve_same n p (Some x) None r e = absurd cc
  resolve_same n p (Some x) (Some y) r e =
      ap (λ a. record { due = add_due a r.due; pieces = r.pieces }) (some_is x.at y.at e)

  next_same : (n : ℕ) (x : Element A) (o q : Option Opening) (r : PartlyRead A) → at_of o ≡ at_of q
      → read_next n x o r ≡ read_next n x q r
  next_same n (el.Resolve p) o q r e = resolve_same n p o q r e
  next_same n (el.Plain k) o q r e = refl
  next_same n (el.Branch z t) o q r e = refl
  next_same n (el.Mark p) o q r e = refl
  next_same n (el.Back z t) o q r e = refl
  next_same n (el.Roll k) o q r e = refl
  next_same n (el.Do v) o q r e = refl
  next_same n (el.Loop l) o q r e = refl
  next_same n el.Leave o q r e = refl
  next_same n el.Case o q r e = refl
  next_same n el.Of o q r e = refl
  next_same n el.EndOf o q r e = refl
  next_same n el.EndCase o q r e = refl
  next_same n (el.Misfit k) o q r e = refl

  so_far_same : (es : List (Element A)) (m n : Partners) → ats m ≡ ats n → read_so_far es m ≡ read_so_far es n
  so_far_same [] m n e = refl
  so_far_same (x ∷ es) [] [] e = refl
  so_far_same (x ∷ es) [] (q ∷ n) e = absurd cc
  so_far_same (x ∷ es) (o ∷ m) [] e = absurd cc
  so_far_same (x ∷ es) (o ∷ m) (q ∷ n) e =
      ap (read_next (length es) x o) (so_far_same es m n (tail_is (at_of o) (at_of q) (ats m) (ats n) e))
      ∙ next_same (length es) x o q (read_so_far es n) (head_is (at_of o) (at_of q) (ats m) (ats n) e)

  pub same_reading : (es : List (Element A)) (m n : Partners) → ats m ≡ ats n → reading es m ≡ reading es n
  same_reading es m n e = rw (so_far_same es m n e) refl

-- ---- openers, the latest first

-- each is older than the one before it, and all than n
abbrev pub Descends : ℕ → List Opening → Type 0
Descends n [] = Unit {0}
Descends n (x ∷ os) = (x.age < n) × Descends x.age os

older : (m n : ℕ) (os : List Opening) → m ≤ n → Descends m os → Descends n os
older m n [] l h = tt
older m n (x ∷ os) l h = (omega (arith, l, h.0), h.1)

-- without one of them
without : (n : ℕ) (pre : List Opening) (x : Opening) (post : List Opening) → Descends n (pre ++ x ∷ post)
    → Descends n (pre ++ post)
without n [] x post h = older x.age n post (omega (arith, h.0)) h.1
without n (y ∷ pre) x post h = (h.0, without y.age pre x post h.1)

below : (n : ℕ) (pre : List Opening) (x : Opening) (post : List Opening) → Descends n (pre ++ x ∷ post) → x.age < n
below n [] x post h = h.0
below n (y ∷ pre) x post h = omega (arith, h.0, below y.age pre x post h.1)

differ : (a b : ℕ) → b < a → nat_eq b a ≡ false
differ a b l = false_from_ne_true (nat_eq b a) (λ e. absurd (omega (arith, l, eqb-true b a e)))

differ_too : (a b : ℕ) → b < a → nat_eq a b ≡ false
differ_too a b l = false_from_ne_true (nat_eq a b) (λ e. absurd (omega (arith, l, eqb-true a b e)))

same_age : (a : ℕ) → nat_eq a a ≡ true
same_age a = eq-eqb a a refl

abbrev keeps : Opening → Opening → Bool
keeps x y = not (is_partner (Some x) y)

kept_if : (b : Bool) (y : Opening) (ys : List Opening) → b ≡ false
    → (if not b then y ∷ ys else ys) ≡ y ∷ ys
kept_if false y ys e = refl
kept_if true y ys e = absurd cc

dropped_if : (b : Bool) (y : Opening) (ys : List Opening) → b ≡ true → (if not b then y ∷ ys else ys) ≡ ys
dropped_if true y ys e = refl
dropped_if false y ys e = absurd cc

all_kept : (x : Opening) (os : List Opening) → Descends x.age os → filter (keeps x) os ≡ os
all_kept x [] h = refl
all_kept x (y ∷ os) h =
    kept_if (nat_eq y.age x.age) y (filter (keeps x) os) (differ x.age y.age h.0)
    ∙ ap (λ l. y ∷ l) (all_kept x os (older y.age x.age os (omega (arith, h.0)) h.1))

one_dropped : (n : ℕ) (pre : List Opening) (x : Opening) (post : List Opening) → Descends n (pre ++ x ∷ post)
    → filter (keeps x) (pre ++ x ∷ post) ≡ pre ++ post
one_dropped n [] x post h =
    dropped_if (nat_eq x.age x.age) x (filter (keeps x) post) (same_age x.age) ∙ all_kept x post h.1
one_dropped n (y ∷ pre) x post h =
    kept_if (nat_eq y.age x.age) y (filter (keeps x) (pre ++ x ∷ post))
    (differ_too y.age x.age (below y.age pre x post h.1))
    ∙ ap (λ l. y ∷ l) (one_dropped y.age pre x post h.1)

none_dropped : (os : List Opening) → filter (λ x. not (is_partner None x)) os ≡ os
none_dropped [] = refl
none_dropped (x ∷ os) = ap (λ l. x ∷ l) (none_dropped os)

abbrev pub places : List Opening → List ℕ
places os = map (λ x. x.at) os

as_long : (os : List Opening) → length (places os) ≡ length os
as_long [] = refl
as_long (x ∷ os) = ap suc (as_long os)

get_at : (pre : List Opening) (x : Opening) (post : List Opening)
    → slice_get (places (pre ++ x ∷ post)) (length pre) ≡ Some x.at
get_at [] x post = refl
get_at (y ∷ pre) x post = get_at pre x post

remove_at : (pre : List Opening) (x : Opening) (post : List Opening)
    → places (pre ++ post) ≡ remove (places (pre ++ x ∷ post)) (length pre)
remove_at [] x post = refl
remove_at (y ∷ pre) x post = ap (λ l. y.at ∷ l) (remove_at pre x post)

-- ---- one element

abbrev pub aged : {A : Type 0} → List (Element A) → AgedStack
aged es = aged_stack 32 es

-- the control stack has the openers that are known by the nest
pub record Up {A : Type 0} (es : List (Element A)) (m : Partners) (os : List Opening) (y : Pairs) : Type 0 where
  pub count : length es ≡ y.count
  pub closed : ats m ≡ ats y.partners
  pub opened : places os ≡ y.open_ones
  pub fresh : Descends (length es) os
  pub few : length os ≤ 32

abbrev pub passed : Pairs → Pairs
passed y = record { count = suc y.count; partners = None ∷ y.partners; open_ones = y.open_ones }

abbrev pub with_one : Pairs → Pairs
with_one y = record { count = suc y.count; partners = None ∷ y.partners; open_ones = y.count ∷ y.open_ones }

abbrev pub without_one : ℕ → Pairs → Pairs
without_one k y = record {
  count = suc y.count;
  partners = opening_of (slice_get y.open_ones k) ∷ y.partners;
  open_ones = remove y.open_ones k;
}

room : (os : List Opening) (m : Partners) → length os ≤ 32 → with_room (nat_le (length os) 32) m os ≡ Some (m, os)
room os m l = ap (λ b. with_room b m os) (le-leb (length os) 32 l)

module _ {A : Type 0} where
  stepped : (es : List (Element A)) (e : Element A) (m : Partners) (os : List Opening) (a : Answer)
      → aged es ≡ Some (m, os) → answer os e ≡ a → aged (e ∷ es) ≡ go_on 32 (length es) e a m os
  stepped es e m os a s w = ap (next 32 (length es) e) s ∙ ap (λ b. go_on 32 (length es) e b m os) w

  -- it opens and closes nothing
  pub passing : (es : List (Element A)) (e : Element A) (m : Partners) (os : List Opening) (y : Pairs)
      → aged es ≡ Some (m, os) → Up es m os y → answer os e ≡ Nothing → opened_by (length es) e None ≡ []
      → (aged (e ∷ es) ≡ Some (None ∷ m, os)) × Up (e ∷ es) (None ∷ m) os (passed y)
  passing es e m os y s u w o =
      let left : after (length es) e None os ≡ os = ap (λ l. l ++ filter (λ x. not (is_partner None x)) os) o
      ∙ none_dropped os in (
        stepped es e m os Nothing s w
            ∙ ap (λ l. with_room (nat_le (length l) 32) (None ∷ m) l) left
            ∙ room os (None ∷ m) u.few,
        record {
          count = ap suc u.count;
          closed = ap (λ l. None ∷ l) u.closed;
          opened = u.opened;
          fresh = older (length es) (suc (length es)) os (omega arith) u.fresh;
          few = u.few;
        },
      )

  -- it opens one more
  abbrev pub newest : List (Element A) → Kind → Opening
  newest es k = record { age = length es; at = length es; kind = k }

  pub record Opened (es : List (Element A)) (e : Element A) (m : Partners) (os : List Opening) (y : Pairs) (k : Kind)
      : Type 0 where
    pub stack : aged (e ∷ es) ≡ Some (None ∷ m, newest es k ∷ os)
    pub known : opens (Some y) ≡ Some (with_one y)
    pub up : Up (e ∷ es) (None ∷ m) (newest es k ∷ os) (with_one y)

  pub opening : (es : List (Element A)) (e : Element A) (m : Partners) (os : List Opening) (y : Pairs) (k : Kind)
      → aged es ≡ Some (m, os) → Up es m os y → answer os e ≡ Nothing
      → opened_by (length es) e None ≡ newest es k ∷ []
      → ((aged (e ∷ es) ≡ None) × (opens (Some y) ≡ None)) ⊎ Opened es e m os y k
  opening es e m os y k s u w o = by_room (nat_le (suc (length os)) 32) refl
    where
      left : after (length es) e None os ≡ newest es k ∷ os
      left = ap (λ l. l ++ filter (λ x. not (is_partner None x)) os) o ∙ ap (λ l. newest es k ∷ l) (none_dropped os)

      stack : aged (e ∷ es) ≡ with_room (nat_le (suc (length os)) 32) (None ∷ m) (newest es k ∷ os)
      stack = stepped es e m os Nothing s w ∙ ap (λ l. with_room (nat_le (length l) 32) (None ∷ m) l) left

      same : length y.open_ones ≡ length os
      same = ap length (sym u.opened) ∙ as_long os

      by_room : (b : Bool) → nat_le (suc (length os)) 32 ≡ b
          → ((aged (e ∷ es) ≡ None) × (opens (Some y) ≡ None)) ⊎ Opened es e m os y k
      by_room false z = inl (
        stack ∙ ap (λ b. with_room b (None ∷ m) (newest es k ∷ os)) z,
        ap (λ n. if nat_le (suc n) 32 then Some (with_one y) else None) same
            ∙ ap (λ b. if b then Some (with_one y) else None) z,
      )
      by_room true z = inr (record {
        stack = stack ∙ ap (λ b. with_room b (None ∷ m) (newest es k ∷ os)) z;
        known = ap (λ n. if nat_le (suc n) 32 then Some (with_one y) else None) same
            ∙ ap (λ b. if b then Some (with_one y) else None) z;
        up = record {
          count = ap suc u.count;
          closed = ap (λ l. None ∷ l) u.closed;
          opened = ap (λ l. length es ∷ l) u.opened ∙ ap (λ n. n ∷ y.open_ones) u.count;
          fresh = (omega arith, u.fresh);
          few = leb-true (suc (length os)) 32 z;
        };
      })

  -- it closes one
  pub closing : (es : List (Element A)) (e : Element A) (m : Partners) (os pre post : List Opening) (x : Opening)
      (y : Pairs) → aged es ≡ Some (m, os) → Up es m os y → os ≡ pre ++ x ∷ post → answer os e ≡ Closed x
      → opened_by (length es) e (Some x) ≡ []
      → (aged (e ∷ es) ≡ Some (Some x ∷ m, pre ++ post))
      × Up (e ∷ es) (Some x ∷ m) (pre ++ post) (without_one (length pre) y)
  closing es e m os pre post x y s u split w o =
      let fresh : Descends (length es) (pre ++ x ∷ post) = subst (Descends (length es)) split u.fresh in
      let left : after (length es) e (Some x) os ≡ pre ++ post =
      ap (λ l. l ++ filter (keeps x) os) o ∙ ap (filter (keeps x)) split ∙ one_dropped (length es) pre x post fresh in
      let long = length-append pre (x ∷ post) in
      let short = length-append pre post in
      let size : length os ≡ length (pre ++ x ∷ post) = ap length split in
      let few : length (pre ++ post) ≤ 32 = omega (arith, u.few, long, short, size) in
      let ones : places (pre ++ x ∷ post) ≡ y.open_ones = sym (ap places split) ∙ u.opened in (
        stepped es e m os (Closed x) s w
            ∙ ap (λ l. with_room (nat_le (length l) 32) (Some x ∷ m) l) left
            ∙ room (pre ++ post) (Some x ∷ m) few,
        record {
          count = ap suc u.count;
          closed = ap (λ l. Some x.at ∷ l) u.closed
              ∙ ap (λ o. at_of (opening_of o) ∷ ats y.partners)
              (sym (get_at pre x post) ∙ ap (λ l. slice_get l (length pre)) ones);
          opened = remove_at pre x post ∙ ap (λ l. remove l (length pre)) ones;
          fresh = older (length es) (suc (length es)) (pre ++ post) (omega arith)
              (without (length es) pre x post fresh);
          few = few;
        },
      )
