-- Numbers put into bytes, and read back.
use Rattle.std.proofs.Common.{◌≡◌, ℕ, ◌+◌, ◌-◌, ◌/◌, ◌%◌, ◌^◌, ◌≤◌, List, ◌++◌, length, take, drop, refl, arith}
use Rattle.std.proofs.lemmas.List.{places, same_lists}
use Rattle.byteorder.specs.Endian.{big_bytes}
use Rattle.of_memory.specs.DataSpace.{splice}
use borrow.Rule.Slice.PartMut.{put_mid}

-- some bytes in place of the first ones of all from a place on
pub put_tail :
    (xs ys : List ℕ) (i : ℕ) → i + length ys ≤ length xs
    → put_mid i (length xs - i) xs (ys ++ drop (length ys) (take (length xs - i) (drop i xs))) ≡ splice xs i ys
put_tail xs ys i fits = same_lists _ _ (grind (arith, places)) (λ k d h. grind (arith, places))

-- the low bytes are those of the low half
pub half_bytes : (x : ℕ) → big_bytes 2 (x % 2 ^ 16) ≡ big_bytes 2 x
half_bytes x =
    let high : x % 2 ^ 16 / 256 % 256 ≡ x / 256 % 256 = omega arith in
    let low : x % 2 ^ 16 % 256 ≡ x % 256 = omega arith in
    rw (high, low) refl
