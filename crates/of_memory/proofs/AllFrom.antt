-- A test that each number of a range passes.
use Rattle.std.proofs.Common.{◌≡◌, ℕ, ◌+◌, ◌<◌, zero, suc, Bool, true, false, ◌&&◌, ◌⊎◌, inl, inr, add-zero, refl, sym}
use Rattle.std.proofs.Common.{◌∙◌, arith}
use Rattle.std.proofs.lemmas.Bool.{false≢true}
use Rattle.of_memory.specs.Access.{all_from}

fst_true : (p q : Bool) → (p && q) ≡ true → p ≡ true
fst_true true q e = refl
fst_true false q e = e

snd_true : (p q : Bool) → (p && q) ≡ true → q ≡ true
snd_true true q e = e
snd_true false q e = absurd (false≢true e)

true_or_false : (p : Bool) → (p ≡ true) ⊎ (p ≡ false)
true_or_false true = inl refl
true_or_false false = inr refl

-- a test that each of n numbers passes
pub all_true : (p : ℕ → Bool) (a n : ℕ) → ((k : ℕ) → k < n → p (a + k) ≡ true) → all_from p a n ≡ true
unfolding all_from
all_true p a zero h = refl
all_true p a (suc n) h =
    let here : p a ≡ true = simp add-zero at (h 0 (omega arith)) in
    let rest : all_from p (suc a) n ≡ true =
    all_true p (suc a) n (λ k l. let e : suc a + k ≡ a + suc k = omega arith in rw e (h (suc k) (omega arith))) in
    rw here rest

pub all_at : (p : ℕ → Bool) (a n k : ℕ) → all_from p a n ≡ true → k < n → p (a + k) ≡ true
unfolding all_from
all_at p a zero k e l = absurd (omega arith)
all_at p a (suc n) zero e l = rw add-zero (fst_true (p a) (all_from p (suc a) n) e)
all_at p a (suc n) (suc k) e l =
    let h : a + suc k ≡ suc a + k = omega arith in
    rw h (all_at p (suc a) n k (snd_true (p a) (all_from p (suc a) n) e) (omega arith))

pub all_false : (p : ℕ → Bool) (a n k : ℕ) → k < n → p (a + k) ≡ false → all_from p a n ≡ false
all_false p a n k l e =
    elim (true_or_false (all_from p a n)) [ inl t ↦ absurd (false≢true (sym e ∙ all_at p a n k t l)) | inr f ↦ f ]

-- two tests that agree on each of n numbers
pub all_same : (p q : ℕ → Bool) (a n : ℕ) → ((k : ℕ) → k < n → p (a + k) ≡ q (a + k)) → all_from p a n ≡ all_from q a n
unfolding all_from
all_same p q a zero h = refl
all_same p q a (suc n) h =
    let here : p a ≡ q a = simp add-zero at (h 0 (omega arith)) in
    let rest : all_from p (suc a) n ≡ all_from q (suc a) n =
    all_same p q (suc a) n (λ k l. let e : suc a + k ≡ a + suc k = omega arith in rw e (h (suc k) (omega arith))) in
    rw (here, rest) refl
