-- Properties by their names: what is found, and in which order.
use Rattle.std.proofs.Common.{◌≡◌, ◌≢◌, ℕ, ◌<◌, Bool, true, false, not, List, [], ◌∷◌, ◌++◌, length, map, Option, Some}
use Rattle.std.proofs.Common.{None, refl, ap, sym, ◌∙◌, arith}
use Rattle.std.specs.Prelude.{◌==◌, filter}
use Rattle.std.proofs.lemmas.Bool.Decides.{nat_tests}
use Rattle.std.specs.List.{AllByRecursion, IsDistinct}
use Rattle.of_nodes.specs.Properties.{same_name, value_at, value_behind, value_in, value_next, with_entry, without}
use Rattle.of_nodes.proofs.ComponentsFit.{same_self}
use Rattle.of_nodes.proofs.MethodsAreFound.{not_same, same_is}

-- a name is none of these
abbrev pub IsNew : List ℕ → List (List ℕ) → Type 0
IsNew name names = AllByRecursion (λ other. same_name name other ≡ false) names

pub differ : (a b : List ℕ) → same_name a b ≡ false → b ≢ a
differ a b h e =
    let same : true ≡ false = sym (same_self a) ∙ (ap (same_name a) (sym e) ∙ h) in
    cc

-- whichever way they are compared
turned : (a b : List ℕ) → same_name a b ≡ false → same_name b a ≡ false
turned a b h = not_same b a (differ a b h)

pub all_other : (ns : List (List ℕ)) (name : List ℕ) → IsNew name ns
    → filter (λ other. not (same_name name other)) ns ≡ ns
all_other [] name apart = refl
all_other (n ∷ ns) name apart = rw (apart.0) (ap (λ (l : List (List ℕ)). n ∷ l) (all_other ns name apart.1))

same_head : (n k : List ℕ) (ns ks : List (List ℕ)) → ◌≡◌ {A = List (List ℕ)} (n ∷ ns) (k ∷ ks) → n ≡ k
same_head n k ns ks e = cc

same_tail : (n k : List ℕ) (ns ks : List (List ℕ)) → ◌≡◌ {A = List (List ℕ)} (n ∷ ns) (k ∷ ks) → ns ≡ ks
same_tail n k ns ks e = cc

empty_not : (n : List ℕ) (ns : List (List ℕ)) → ◌≡◌ {A = List (List ℕ)} [] (n ∷ ns) → ⊥
empty_not n ns e = cc

new_at : (name x : List ℕ) (xs ys : List (List ℕ)) → IsNew x (xs ++ name ∷ ys) → same_name x name ≡ false
new_at name x [] ys apart = apart.0
new_at name x (y ∷ xs) ys apart = new_at name x xs ys apart.1

new_next : (name other x : List ℕ) (xs ys : List (List ℕ)) → IsNew x (xs ++ name ∷ other ∷ ys)
    → same_name x other ≡ false
new_next name other x [] ys apart = apart.1.0
new_next name other x (y ∷ xs) ys apart = new_next name other x xs ys apart.1

named_same : (name k : List ℕ) → k ≡ name → same_name name k ≡ true
named_same name k e = ap (same_name name) e ∙ same_self name

some_bytes : (n : ℕ) → 0 < n → (n == 0) ≡ false
some_bytes n l = grind (arith, nat_tests)

all_more : (x name : List ℕ) (ns : List (List ℕ)) → IsNew x ns → same_name x name ≡ false → IsNew x (ns ++ name ∷ [])
all_more x name [] apart h = (h, tt)
all_more x name (n ∷ ns) apart h = (apart.0, all_more x name ns apart.1 h)

-- different names with one more that differs
pub distinct_more : (ns : List (List ℕ)) (name : List ℕ) → IsDistinct same_name ns
    → AllByRecursion (λ other. same_name other name ≡ false) ns → IsDistinct same_name (ns ++ name ∷ [])
unfolding IsDistinct
distinct_more [] name apart h = (tt, tt)
distinct_more (n ∷ ns) name apart h = (all_more n name ns apart.0 h.0, distinct_more ns name apart.1 h.1)

module _ {V : Type 0} where
  abbrev pub names : List (List ℕ × V) → List (List ℕ)
  names es = map (λ e. e.0) es

  absent : (e : List ℕ × V) (es : List (List ℕ × V)) (name : List ℕ) → same_name name e.0 ≡ false
      → value_in (e ∷ es) name ≡ value_in es name
  absent e es name h = rw h refl

  present : (e : List ℕ × V) (es : List (List ℕ × V)) (name : List ℕ) → same_name name e.0 ≡ true
      → value_in (e ∷ es) name ≡ Some e.1
  present e es name h = rw h refl

  some_none : (v : V) → ◌≡◌ {A = Option V} (Some v) None → ⊥
  some_none v h = cc

  -- ---- set

  kept_step : (b : Bool) (e : List ℕ × V) (es : List (List ℕ × V)) (name : List ℕ) (x v : V) → same_name name e.0 ≡ b
      → value_in (e ∷ es) name ≡ Some v
      → (value_in es name ≡ Some v → names (with_entry es name x) ≡ names es)
      → names (with_entry (e ∷ es) name x) ≡ names (e ∷ es)
  kept_step true e es name x v h some ih = rw h refl
  kept_step false e es name x v h some ih =
      rw h (ap (λ (l : List (List ℕ)). e.0 ∷ l) (ih (sym (absent e es name h) ∙ some)))

  pub names_kept : (es : List (List ℕ × V)) (name : List ℕ) (x v : V) → value_in es name ≡ Some v
      → names (with_entry es name x) ≡ names es
  names_kept [] name x v some = absurd (some_none v (sym some))
  names_kept (e ∷ es) name x v some = kept_step (same_name name e.0) e es name x v refl some (names_kept es name x v)

  last_step : (b : Bool) (e : List ℕ × V) (es : List (List ℕ × V)) (name : List ℕ) (x : V) → same_name name e.0 ≡ b
      → value_in (e ∷ es) name ≡ None
      → (value_in es name ≡ None → names (with_entry es name x) ≡ names es ++ name ∷ [])
      → names (with_entry (e ∷ es) name x) ≡ names (e ∷ es) ++ name ∷ []
  last_step true e es name x h none ih = absurd (some_none e.1 (sym (present e es name h) ∙ none))
  last_step false e es name x h none ih =
      rw h (ap (λ (l : List (List ℕ)). e.0 ∷ l) (ih (sym (absent e es name h) ∙ none)))

  pub names_last : (es : List (List ℕ × V)) (name : List ℕ) (x : V) → value_in es name ≡ None
      → names (with_entry es name x) ≡ names es ++ name ∷ []
  names_last [] name x none = refl
  names_last (e ∷ es) name x none = last_step (same_name name e.0) e es name x refl none (names_last es name x)

  none_step : (b : Bool) (e : List ℕ × V) (es : List (List ℕ × V)) (name : List ℕ) → same_name name e.0 ≡ b
      → value_in (e ∷ es) name ≡ None → (same_name e.0 name ≡ false) × (value_in es name ≡ None)
  none_step true e es name h none = absurd (some_none e.1 (sym (present e es name h) ∙ none))
  none_step false e es name h none = (turned name e.0 h, sym (absent e es name h) ∙ none)

  pub none_named : (es : List (List ℕ × V)) (name : List ℕ) → value_in es name ≡ None
      → AllByRecursion (λ other. same_name other name ≡ false) (names es)
  none_named [] name none = tt
  none_named (e ∷ es) name none =
      let is = none_step (same_name name e.0) e es name refl none in
      (is.0, none_named es name is.1)

  -- ---- deleted

  pub none_found : (es : List (List ℕ × V)) (name : List ℕ) → IsNew name (names es) → value_in es name ≡ None
  none_found [] name apart = refl
  none_found (e ∷ es) name apart = absent e es name apart.0 ∙ none_found es name apart.1

  gone_step : (b : Bool) (e : List ℕ × V) (es : List (List ℕ × V)) (name : List ℕ) → same_name name e.0 ≡ b
      → IsDistinct same_name (names (e ∷ es)) → value_in (without es name) name ≡ None
      → value_in (without (e ∷ es) name) name ≡ None
  unfolding IsDistinct
  gone_step true e es name h apart ih =
      rw h (none_found es name (rw (same_is name e.0 h) apart.0))
  gone_step false e es name h apart ih = rw h (rw h ih)

  pub gone : (es : List (List ℕ × V)) (name : List ℕ) → IsDistinct same_name (names es)
      → value_in (without es name) name ≡ None
  unfolding IsDistinct
  gone [] name apart = refl
  gone (e ∷ es) name apart = gone_step (same_name name e.0) e es name refl apart (gone es name apart.1)

  left_step : (b c : Bool) (e : List ℕ × V) (es : List (List ℕ × V)) (name other : List ℕ) → same_name name e.0 ≡ b
      → same_name other e.0 ≡ c → other ≢ name → value_in (without es name) other ≡ value_in es other
      → value_in (without (e ∷ es) name) other ≡ value_in (e ∷ es) other
  left_step true true e es name other h k apart ih = absurd (apart (same_is other e.0 k ∙ sym (same_is name e.0 h)))
  left_step true false e es name other h k apart ih = rw h (rw k refl)
  left_step false true e es name other h k apart ih = rw h (rw k refl)
  left_step false false e es name other h k apart ih = rw h (rw k ih)

  pub others_left : (es : List (List ℕ × V)) (name other : List ℕ) → other ≢ name
      → value_in (without es name) other ≡ value_in es other
  others_left [] name other apart = refl
  others_left (e ∷ es) name other apart =
      left_step (same_name name e.0) (same_name other e.0) e es name other refl refl apart
      (others_left es name other apart)

  order_step : (b : Bool) (e : List ℕ × V) (es : List (List ℕ × V)) (name : List ℕ) → same_name name e.0 ≡ b
      → IsDistinct same_name (names (e ∷ es))
      → names (without es name) ≡ filter (λ other. not (same_name name other)) (names es)
      → names (without (e ∷ es) name) ≡ filter (λ other. not (same_name name other)) (names (e ∷ es))
  unfolding IsDistinct
  order_step true e es name h apart ih =
      rw h (sym (all_other (names es) name (rw (same_is name e.0 h) apart.0)))
  order_step false e es name h apart ih = rw h (ap (λ (l : List (List ℕ)). e.0 ∷ l) ih)

  pub order_left : (es : List (List ℕ × V)) (name : List ℕ) → IsDistinct same_name (names es)
      → names (without es name) ≡ filter (λ other. not (same_name name other)) (names es)
  unfolding IsDistinct
  order_left [] name apart = refl
  order_left (e ∷ es) name apart = order_step (same_name name e.0) e es name refl apart (order_left es name apart.1)

  without_step : (b : Bool) (x : List ℕ) (e : List ℕ × V) (es : List (List ℕ × V)) (name : List ℕ)
      → same_name name e.0 ≡ b → IsNew x (names (e ∷ es)) → IsNew x (names (without es name))
      → IsNew x (names (without (e ∷ es) name))
  without_step true x e es name h apart ih = rw h apart.1
  without_step false x e es name h apart ih = rw h (apart.0, ih)

  new_without : (x : List ℕ) (es : List (List ℕ × V)) (name : List ℕ) → IsNew x (names es)
      → IsNew x (names (without es name))
  new_without x [] name apart = apart
  new_without x (e ∷ es) name apart =
      without_step (same_name name e.0) x e es name refl apart (new_without x es name apart.1)

  distinct_step : (b : Bool) (e : List ℕ × V) (es : List (List ℕ × V)) (name : List ℕ) → same_name name e.0 ≡ b
      → IsDistinct same_name (names (e ∷ es)) → IsDistinct same_name (names (without es name))
      → IsDistinct same_name (names (without (e ∷ es) name))
  unfolding IsDistinct
  distinct_step true e es name h apart ih = rw h apart.1
  distinct_step false e es name h apart ih = rw h (new_without e.0 es name apart.0, ih)

  pub distinct_without : (es : List (List ℕ × V)) (name : List ℕ) → IsDistinct same_name (names es)
      → IsDistinct same_name (names (without es name))
  unfolding IsDistinct
  distinct_without [] name apart = apart
  distinct_without (e ∷ es) name apart =
      distinct_step (same_name name e.0) e es name refl apart (distinct_without es name apart.1)

  -- ---- one behind the other

  behind_it : (e : List ℕ × V) (es : List (List ℕ × V)) (name : List ℕ) → same_name name e.0 ≡ false
      → value_behind (e ∷ es) name ≡ value_behind es name
  behind_it e es name h = rw h refl

  at_it : (e : List ℕ × V) (es : List (List ℕ × V)) (name : List ℕ) → same_name name e.0 ≡ true
      → value_behind (e ∷ es) name ≡ value_at es 0
  at_it e es name h = rw h refl

  first_at : (es : List (List ℕ × V)) (other : List ℕ) (ys : List (List ℕ)) → names es ≡ other ∷ ys
      → value_at es 0 ≡ value_in es other
  first_at [] other ys e = absurd (empty_not other ys e)
  first_at (f ∷ es) other ys e =
      sym (present f es other (named_same other f.0 (same_head f.0 other (names es) ys e)))

  next_here : (e : List ℕ × V) (es : List (List ℕ × V)) (name other : List ℕ) (ys : List (List ℕ))
      → names (e ∷ es) ≡ name ∷ other ∷ ys → same_name name other ≡ false
      → value_behind (e ∷ es) name ≡ value_in (e ∷ es) other
  next_here e es name other ys is apart =
      let head : e.0 ≡ name = same_head e.0 name (names es) (other ∷ ys) is in
      let other_not : same_name other e.0 ≡ false = ap (same_name other) head ∙ turned name other apart in
      at_it e es name (named_same name e.0 head)
      ∙ (first_at es other ys (same_tail e.0 name (names es) (other ∷ ys) is) ∙ sym (absent e es other other_not))

  pub next_is : (xs : List (List ℕ)) (es : List (List ℕ × V)) (name other : List ℕ) (ys : List (List ℕ))
      → names es ≡ xs ++ name ∷ other ∷ ys → IsDistinct same_name (xs ++ name ∷ other ∷ ys)
      → value_behind es name ≡ value_in es other
  unfolding IsDistinct
  next_is [] [] name other ys is apart = absurd (empty_not name (other ∷ ys) is)
  next_is [] (e ∷ es) name other ys is apart = next_here e es name other ys is apart.0.0
  next_is (x ∷ xs) [] name other ys is apart = absurd (empty_not x (xs ++ name ∷ other ∷ ys) is)
  next_is (x ∷ xs) (e ∷ es) name other ys is apart =
      let rest = xs ++ name ∷ other ∷ ys in
      let head : e.0 ≡ x = same_head e.0 x (names es) rest is in
      let name_not : same_name name e.0 ≡ false =
      ap (same_name name) head ∙ turned x name (new_at name x xs (other ∷ ys) apart.0) in
      let other_not : same_name other e.0 ≡ false =
      ap (same_name other) head ∙ turned x other (new_next name other x xs ys apart.0) in
      behind_it e es name name_not
      ∙ (next_is xs es name other ys (same_tail e.0 x (names es) rest is) apart.1 ∙ sym (absent e es other other_not))

  none_behind : (es : List (List ℕ × V)) → names es ≡ [] → value_at es 0 ≡ None
  none_behind [] e = refl
  none_behind (f ∷ es) e = absurd (empty_not f.0 (names es) (sym e))

  pub last_is : (xs : List (List ℕ)) (es : List (List ℕ × V)) (name : List ℕ)
      → names es ≡ xs ++ name ∷ [] → IsDistinct same_name (xs ++ name ∷ []) → value_behind es name ≡ None
  unfolding IsDistinct
  last_is [] [] name is apart = absurd (empty_not name [] is)
  last_is [] (e ∷ es) name is apart =
      at_it e es name (named_same name e.0 (same_head e.0 name (names es) [] is))
      ∙ none_behind es (same_tail e.0 name (names es) [] is)
  last_is (x ∷ xs) [] name is apart = absurd (empty_not x (xs ++ name ∷ []) is)
  last_is (x ∷ xs) (e ∷ es) name is apart =
      let rest = xs ++ name ∷ [] in
      let head : e.0 ≡ x = same_head e.0 x (names es) rest is in
      let name_not : same_name name e.0 ≡ false =
      ap (same_name name) head ∙ turned x name (new_at name x xs [] apart.0) in
      behind_it e es name name_not ∙ last_is xs es name (same_tail e.0 x (names es) rest is) apart.1

  pub first_is : (es : List (List ℕ × V)) (name : List ℕ) (ys : List (List ℕ)) → names es ≡ name ∷ ys
      → value_next es [] ≡ value_in es name
  first_is es name ys is = first_at es name ys is

  next_some : (es : List (List ℕ × V)) (name : List ℕ) → 0 < length name → value_next es name ≡ value_behind es name
  next_some es name l = rw (some_bytes (length name) l) refl

  pub next_name : (xs : List (List ℕ)) (es : List (List ℕ × V)) (name other : List ℕ) (ys : List (List ℕ))
      → names es ≡ xs ++ name ∷ other ∷ ys → IsDistinct same_name (xs ++ name ∷ other ∷ ys) → 0 < length name
      → value_next es name ≡ value_in es other
  next_name xs es name other ys is apart l = next_some es name l ∙ next_is xs es name other ys is apart

  pub last_name : (xs : List (List ℕ)) (es : List (List ℕ × V)) (name : List ℕ)
      → names es ≡ xs ++ name ∷ [] → IsDistinct same_name (xs ++ name ∷ []) → 0 < length name
      → value_next es name ≡ None
  last_name xs es name is apart l = next_some es name l ∙ last_is xs es name is apart
