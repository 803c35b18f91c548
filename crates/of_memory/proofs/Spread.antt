-- Bytes that stand apart from one another.
use Rattle.std.proofs.Common.{◌≡◌, ℕ, zero, suc, ◌+◌, ◌-◌, ◌*◌, ◌<◌, ◌≤◌, List, [], Ok, length, get_or, refl, arith}
use Rattle.std.proofs.Math.Nat.{mul-le-mul_right, suc-mul, zero-mul}
use Rattle.std.proofs.lemmas.List.{get_or_default}
use Rattle.of_memory.specs.DataSpace.{DataSpace}
use Rattle.of_memory.specs.declared.width.Width.TheVariants.{One}
use Rattle.of_memory.proofs.Nothing.{no_read_fault}
use Rattle.of_memory.specs.SoundChanges.{AreBytes}
use Rattle.of_memory.specs.Access.{every, spread_over, read_spread}

pub over_some : (n s : ℕ) → 0 < n → spread_over n s ≡ (n - 1) * s + 1
over_some zero s some = absurd (omega arith)
over_some (suc n) s some = let e : suc n - 1 ≡ n = omega arith in rw e refl

pub every_length : (xs : List ℕ) (i n s : ℕ) → length (every xs i n s) ≡ n
every_length xs i zero s = refl
every_length xs i (suc n) s = rw (every_length xs (i + s) n s) refl

next_place : (i k s : ℕ) → i + s + k * s ≡ i + suc k * s
next_place i k s = omega (arith, suc-mul k s)

pub every_at : (xs : List ℕ) (i n s k : ℕ) → k < n → get_or (every xs i n s) k 0 ≡ get_or xs (i + k * s) 0
every_at xs i zero s k l = absurd (omega arith)
every_at xs i (suc n) s zero l = let e : i + 0 * s ≡ i = omega (arith, zero-mul s) in rw e refl
every_at xs i (suc n) s (suc k) l = rw (every_at xs (i + s) n s k (omega arith), next_place i k s) refl

-- the places of the bytes
pub place_within : (i n s k : ℕ) → k < n → i + k * s < i + spread_over n s
place_within i n s k l =
    let e : spread_over n s ≡ (n - 1) * s + 1 = over_some n s (omega arith) in
    let le : k * s ≤ (n - 1) * s = mul-le-mul_right s (omega arith) in
    omega arith

pub rises : (i k s : ℕ) → i ≤ k → i * s ≤ k * s
rises i k s l = mul-le-mul_right s l

pub bytes_every : (xs : List ℕ) (i n s : ℕ) → i + spread_over n s ≤ length xs → AreBytes xs → AreBytes (every xs i n s)
bytes_every xs i n s fits h k d lt =
    let few : k < n = omega (arith, every_length xs i n s) in
    let at : i + k * s < i + spread_over n s = place_within i n s k few in
    rw (get_or_default (every xs i n s) k d 0 lt, every_at xs i n s k few) (h (i + k * s) 0 (omega arith))

-- no bytes
pub spread_none : (m : DataSpace) (a n s : ℕ) → n ≡ 0 → read_spread m a n s ≡ Ok []
spread_none m a n s e = rw (e, no_read_fault m a 0 One refl) refl

-- what a read of bytes that stand apart needs
pub ruleset spread_facts = (over_some, spread_none)
