-- A fault of the data space counts before a full stack.
use Rattle.std.proofs.Common.{◌≡◌, ℕ, ℤ, Bool, true, false, [], ◌∷◌, Some, None, nat_le, if◌then◌else◌, refl}
use Rattle.of_stacks.specs.declared.throws.Throw.{Throw}
use Rattle.of_stacks.specs.Throws.{stack_overflow, is_minus}
use Rattle.of_stacks.specs.Order.{rank, later_rank, counting, fault_if}

step : (b : Bool) (x y : ℕ) → nat_le x 22 ≡ true → nat_le y 22 ≡ true → nat_le (if b then x else y) 22 ≡ true
step true x y h k = h
step false x y h k = k

-- no fault stands behind a full stack
last : (z : ℤ) → nat_le (rank z) 22 ≡ true
unfolding rank later_rank
last z =
    step (is_minus 14 z) 0 _ refl (step (is_minus 29 z) 1 _ refl (step (is_minus 4 z) 2 _ refl
    (step (is_minus 6 z) 3 _ refl (step (is_minus 25 z) 4 _ refl (step (is_minus 26 z) 5 _ refl
    (step (is_minus 259 z) 6 _ refl (step (is_minus 260 z) 7 _ refl (step (is_minus 263 z) 8 _ refl
    (step (is_minus 261 z) 9 _ refl (step (is_minus 9 z) 10 _ refl (step (is_minus 23 z) 11 _ refl
    (step (is_minus 20 z) 12 _ refl (step (is_minus 16 z) 13 _ refl (step (is_minus 13 z) 14 _ refl
    (step (is_minus 19 z) 15 _ refl (step (is_minus 32 z) 16 _ refl (step (is_minus 24 z) 17 _ refl
    (step (is_minus 262 z) 18 _ refl (step (is_minus 5 z) 20 _ refl (step (is_minus 8 z) 21 _ refl
    (step (is_minus 3 z) 22 _ refl refl)))))))))))))))))))))

full_rank : rank stack_overflow.0 ≡ 22
unfolding rank later_rank
full_rank = refl

full_last : (z : ℤ) → nat_le (rank z) (rank stack_overflow.0) ≡ true
full_last z = rw full_rank (last z)

pub some_counts : (t : Throw) (b : Bool) → counting (Some t ∷ fault_if b stack_overflow ∷ []) ≡ Some t
some_counts t false = refl
some_counts t true = rw (full_last t.0) refl

pub full_counts : (b : Bool) → counting (None ∷ fault_if b stack_overflow ∷ []) ≡ fault_if b stack_overflow
full_counts true = refl
full_counts false = refl

-- the two together
pub ruleset counts = (some_counts, full_counts)
