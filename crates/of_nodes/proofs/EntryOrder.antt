-- Entries by their places in the order.
use Rattle.std.proofs.Common.{◌≡◌, ℕ, zero, suc, ◌+◌, ◌≤◌, Bool, true, false, cond, nat_lt, List, [], ◌∷◌, length, map}
use Rattle.std.proofs.Common.{Option, Some, None, Vec, Global, slice_get, refl, ap, sym, ◌∙◌, arith}
use Rattle.std.specs.List.{position, position_or_len}
use Rattle.std.specs.Map.{keys_of}
use Rattle.std.specs.Prelude.{MatchOption}
use Rattle.std.proofs.lemmas.Bool.Decides.{nat_tests}
use Rattle.of_nodes.specs.declared.properties.Property.{Property}
use Rattle.of_nodes.specs.Properties.{named, same_name, value_at, value_behind}

abbrev pub Entry : Type 0
Entry = Vec ℕ Global × Property

pub at_some :
    (es : List Entry) (i : ℕ) (k : Vec ℕ Global) (v : Property) → slice_get es i ≡ Some (k, v)
    → value_at (map named es) i ≡ Some v
at_some [] i k v h = cc
at_some (e ∷ es) zero k v h =
    let pair : ◌≡◌ {A = Entry} e (k, v) = cc in
    ap (λ (x : Entry). Some x.1) pair
at_some (e ∷ es) (suc i) k v h = at_some es i k v h

pub at_none : (es : List Entry) (i : ℕ) → slice_get es i ≡ None → value_at (map named es) i ≡ None
at_none [] i h = refl
at_none (e ∷ es) zero h = cc
at_none (e ∷ es) (suc i) h = at_none es i h

abbrev pub has : List ℕ → Vec ℕ Global → Bool
has name k = same_name name k.items

behind_step :
    (b : Bool) (e : Entry) (es : List Entry) (name : List ℕ) → has name e.0 ≡ b
    → value_behind (map named es) name ≡ value_at (map named es) (suc (position_or_len (has name) (keys_of es)))
    → value_behind (map named (e ∷ es)) name
    ≡ value_at (map named (e ∷ es)) (suc (position_or_len (has name) (keys_of (e ∷ es))))
behind_step true e es name h ih = rw h refl
behind_step false e es name h ih =
    let n = position_or_len (has name) (keys_of es) in
    let one : 1 + n ≡ suc n = omega arith in
    rw (h, one) ih

-- the entry behind is at the next place, also past the end
behind_place :
    (es : List Entry) (name : List ℕ)
    → value_behind (map named es) name ≡ value_at (map named es) (suc (position_or_len (has name) (keys_of es)))
behind_place [] name = refl
behind_place (e ∷ es) name = behind_step (has name e.0) e es name refl (behind_place es name)

past : (es : List Entry) (i : ℕ) → length (keys_of es) ≤ i → value_at (map named es) i ≡ None
past [] i l = refl
past (e ∷ es) zero l = absurd (omega arith)
past (e ∷ es) (suc i) l = past es i (omega arith)

some_place : (t : Bool) (p i : ℕ) → ◌≡◌ {A = Option ℕ} (cond t (Some p) None) (Some i) → p ≡ i
some_place true p i h = cc
some_place false p i h = cc

none_place : (t : Bool) (p : ℕ) → ◌≡◌ {A = Option ℕ} (cond t (Some p) None) None → t ≡ false
none_place true p h = cc
none_place false p h = refl

lt_false : (a b : ℕ) → nat_lt a b ≡ false → b ≤ a
lt_false a b h = grind (arith, nat_tests)

pub behind_some :
    (es : List Entry) (name : List ℕ) (i : ℕ) → position (has name) (keys_of es) ≡ Some i
    → value_behind (map named es) name ≡ value_at (map named es) (i + 1)
behind_some es name i h =
    let p = position_or_len (has name) (keys_of es) in
    let same = some_place (nat_lt p (length (keys_of es))) p i h in
    let next : suc p ≡ i + 1 = omega (arith, same) in
    behind_place es name ∙ ap (λ (k : ℕ). value_at (map named es) k) next

pub behind_none :
    (es : List Entry) (name : List ℕ) → position (has name) (keys_of es) ≡ None
    → value_behind (map named es) name ≡ None
behind_none es name h =
    let p = position_or_len (has name) (keys_of es) in
    let out = lt_false p (length (keys_of es)) (none_place (nat_lt p (length (keys_of es))) p h) in
    behind_place es name ∙ past es (suc p) (omega (arith, out))

pub behind_by :
    (es : List Entry) (name : List ℕ) (r : Option ℕ) → r ≡ position (has name) (keys_of es)
    → MatchOption r (value_behind (map named es) name ≡ None)
    (λ i. value_behind (map named es) name ≡ value_at (map named es) (i + 1))
behind_by es name None h = behind_none es name (sym h)
behind_by es name (Some i) h = behind_some es name i (sym h)
