-- The least address at which a block may be taken.
use Rattle.std.proofs.Common.{◌≡◌, ℕ, ◌+◌, ◌-◌, ◌*◌, ◌/◌, ◌%◌, ◌<◌, ◌≤◌, zero, suc, nat_le, Bool, true, false, ◌&&◌}
use Rattle.std.proofs.Common.{◌||◌, List, ◌∷◌, ◌⊎◌, inl, inr, Some, None, add-zero, refl, sym, ap, ◌∙◌, arith}
use Rattle.std.proofs.lemmas.Bool.{false≢true, le-leb, leb-true}
use Rattle.of_memory.specs.declared.blocks.Block.{Block}
use Rattle.of_memory.specs.Blocks.{IsFree, IsLeastFree, meets_none, least_free, first_of_eighths}

pub true_or_false : (p : Bool) → (p ≡ true) ⊎ (p ≡ false)
true_or_false true = inl refl
true_or_false false = inr refl

pub and_first : (p q : Bool) → (p && q) ≡ true → p ≡ true
and_first true q e = refl
and_first false q e = e

and_second : (p q : Bool) → (p && q) ≡ true → q ≡ true
and_second true q e = e
and_second false q e = absurd (false≢true e)

either : (p q : Bool) → (p || q) ≡ true → (p ≡ true) ⊎ (q ≡ true)
either true q e = inl refl
either false q e = inr e

or_second : (p q : Bool) → q ≡ true → (p || q) ≡ true
or_second true q e = refl
or_second false q e = e

-- the two sides of a block that a free range may lie on
pub sides :
    (b : Block) (bs : List Block) (size x : ℕ) → meets_none (b ∷ bs) size x ≡ true
    → (x + size ≤ b.at) ⊎ (b.at + b.size ≤ x)
sides b bs size x e =
    elim (either (nat_le (x + size) b.at) (nat_le (b.at + b.size) x)
    (and_first (nat_le (x + size) b.at || nat_le (b.at + b.size) x) (meets_none bs size x) e)) [
      | inl h ↦ inl (leb-true (x + size) b.at h)
      | inr h ↦ inr (leb-true (b.at + b.size) x h)
    ]

pub meets_rest :
    (b : Block) (bs : List Block) (size x : ℕ) → meets_none (b ∷ bs) size x ≡ true → meets_none bs size x ≡ true
meets_rest b bs size x e = and_second (nat_le (x + size) b.at || nat_le (b.at + b.size) x) (meets_none bs size x) e

pub above :
    (b : Block) (bs : List Block) (size x : ℕ) → b.at + b.size ≤ x → meets_none bs size x ≡ true
    → meets_none (b ∷ bs) size x ≡ true
above b bs size x l e =
    rw (or_second (nat_le (x + size) b.at) (nat_le (b.at + b.size) x) (le-leb (b.at + b.size) x l)) e

first_some :
    (p : ℕ → Bool) (a n k : ℕ) → k < n → p (a + 8 * k) ≡ true → ((j : ℕ) → j < k → p (a + 8 * j) ≡ false)
    → first_of_eighths p a n ≡ Some (a + 8 * k)
first_some p a zero k l e f = absurd (omega arith)
first_some p a (suc n) zero l e f = let here' : p a ≡ true = rw add-zero at e in rw here' (ap Some (sym (add-zero a)))
first_some p a (suc n) (suc k) l e f =
    let no : p a ≡ false = rw add-zero at (f 0 (omega arith)) in
    let moved' : a + 8 * suc k ≡ (a + 8) + 8 * k = omega arith in
    rw (no, moved') (first_some p (a + 8) n k (omega arith) (rw (← moved') e)
    (λ j h. let m : a + 8 + 8 * j ≡ a + 8 * suc j = omega arith in rw m (f (suc j) (omega arith))))

first_none : (p : ℕ → Bool) (a n : ℕ) → ((j : ℕ) → j < n → p (a + 8 * j) ≡ false) → first_of_eighths p a n ≡ None
first_none p a zero f = refl
first_none p a (suc n) f =
    let no : p a ≡ false = rw add-zero at (f 0 (omega arith)) in
    rw no (first_none p (a + 8) n (λ j h. let m : a + 8 + 8 * j ≡ a + 8 * suc j = omega arith in rw m
    (f (suc j) (omega arith))))

-- the test that `least_free` makes
abbrev fits : ℕ → List Block → ℕ → ℕ → Bool
fits high bs size a = nat_le (a + size) high && meets_none bs size a

fits_true :
    (high size a : ℕ) (bs : List Block) → a + size ≤ high → meets_none bs size a ≡ true → fits high bs size a ≡ true
fits_true high size a bs l e = rw (le-leb (a + size) high l) e

fits_false :
    (low high size a : ℕ) (bs : List Block) → a % 8 ≡ 0 → low ≤ a → (IsFree low high bs size a → ⊥)
    → fits high bs size a ≡ false
fits_false low high size a bs eighth from taken' =
    elim (true_or_false (fits high bs size a)) [
      | inl t ↦ absurd (taken' (record {
        aligned = eighth;
        from = from;
        to = leb-true (a + size) high (and_first (nat_le (a + size) high) (meets_none bs size a) t);
        apart = and_second (nat_le (a + size) high) (meets_none bs size a) t;
      }))
      | inr f ↦ f
    ]

-- the address that is least is the one that is found
pub least_free_some :
    (low high size a : ℕ) (bs : List Block) → low % 8 ≡ 0 → 0 < size → size % 8 ≡ 0 → IsLeastFree low high bs size a
    → least_free low high bs size ≡ Some a
unfolding least_free
least_free_some low high size a bs eighth some eighths h =
    let k = (a - low) / 8 in
    let at : low + 8 * k ≡ a = omega (arith, h.free.aligned, h.free.from) in
    let on : fits high bs size (low + 8 * k) ≡ true = rw at (fits_true high size a bs h.free.to h.free.apart) in
    first_some (fits high bs size) low ((high - low) / 8) k (omega (arith, h.free.aligned, h.free.from, h.free.to)) on
    (λ j l. fits_false low high size (low + 8 * j) bs (omega arith) (omega arith)
    (λ f. let le : a ≤ low + 8 * j = h.least (low + 8 * j) f in omega arith))
    ∙ ap Some at

pub least_free_none :
    (low high size : ℕ) (bs : List Block) → low % 8 ≡ 0 → ((x : ℕ) → IsFree low high bs size x → ⊥)
    → least_free low high bs size ≡ None
unfolding least_free
least_free_none low high size bs eighth h =
    first_none (fits high bs size) low ((high - low) / 8)
    (λ j l. fits_false low high size (low + 8 * j) bs (omega arith) (omega arith) (h (low + 8 * j)))

-- nothing is found that is longer than the region
pub too_long :
    (low high size : ℕ) (bs : List Block) → low % 8 ≡ 0 → high < low + size → least_free low high bs size ≡ None
too_long low high size bs eighth long = least_free_none low high size bs eighth (λ x f. omega (arith, f.from, f.to))
