-- When two arrays are one, and which fault counts first (IEEE 1275-1994, 5.3.5.1 and 5.3.5.2).
use Rattle.std.specs.Prelude.{ℕ, ◌≡◌, ◌≢◌, ◌+◌, ◌*◌, ◌%◌, ◌^◌, ◌<◌, ◌≤◌, true, false, List, ◌++◌, Ok, Err}
use Rattle.std.specs.Prelude.{length, slice_index}
use Rattle.std.specs.Result.{IsOk}
use Rattle.std.specs.List.{All}
use Rattle.of_cells.specs.declared.cells.Cell.{Cell}
use Rattle.of_memory.specs.Regions.{data_limit}
use Rattle.of_memory.specs.DataSpace.{DataSpace, IsSound, bytes_from}
use Rattle.of_memory.specs.Access.{are_readable}
use Rattle.of_props.specs.Arrays.{bytes_of, joined}
use Rattle.of_props.specs.Decoding.{int_decoded, phys_decoded, string_decoded}
use Rattle.of_props.specs.Encoding.{bytes_encoded, string_encoded}
use Rattle.of_props.specs.declared.arrays.Array.{Array}
use Rattle.of_props.specs.declared.fault.PropFault.TheVariants.{Address, Full, NotAdjacent, Short}

-- an array begins at the address behind the last byte of another, modulo 2 ^ 32
abbrev pub Follows : Array → Array → Type 0
Follows q p = q.address.0 ≡ (p.address.0 + p.length.0) % 2 ^ 32

-- Two arrays are one exactly where the second follows the first, also where one of them has no bytes. The one begins
-- where the first does, is as long as both, and has the bytes of both.
pub record ArraysAdjoin : Type 0 where
  pub apart : (p q : Array) → ¬ Follows q p → joined p q ≡ Err NotAdjacent
  pub one : (p q : Array) → Follows q p → IsOk (joined p q)
  pub begins : (p q r : Array) → joined p q ≡ Ok r → r.address ≡ p.address
  pub long : (p q r : Array) → joined p q ≡ Ok r → r.length.0 ≡ (p.length.0 + q.length.0) % 2 ^ 32
  pub bytes : (m : DataSpace) (p q r : Array) (xs ys : List ℕ)
      → p.address.0 < 2 ^ 32 → joined p q ≡ Ok r → bytes_of m p ≡ Ok xs → bytes_of m q ≡ Ok ys
      → bytes_of m r ≡ Ok (xs ++ ys)

-- the bytes of an array can all be read
abbrev pub IsReadable : DataSpace → Array → Type 0
IsReadable m p = are_readable m p.address.0 p.length.0 ≡ true

-- some byte can't
abbrev pub IsUnreadable : DataSpace → Array → Type 0
IsUnreadable m p = are_readable m p.address.0 p.length.0 ≡ false

-- Address counts first, also where the array is too short; an array that can be read is refused exactly where it is
-- too short, or has no zero byte.
pub record DecodingsAreRefused : Type 0 where
  pub int_unreadable : (m : DataSpace) (p : Array) → IsUnreadable m p → int_decoded m p ≡ Err Address
  pub string_unreadable : (m : DataSpace) (p : Array) → IsUnreadable m p → string_decoded m p ≡ Err Address
  pub phys_unreadable : (m : DataSpace) (p : Array) (n : ℕ) → IsUnreadable m p → phys_decoded m p n ≡ Err Address
  pub int_short : (m : DataSpace) (p : Array) → IsReadable m p → p.length.0 < 4 → int_decoded m p ≡ Err Short
  pub int_enough : (m : DataSpace) (p : Array)
      → IsSound m → IsReadable m p → 4 ≤ p.length.0 → IsOk (int_decoded m p)
  pub phys_short : (m : DataSpace) (p : Array) (n : ℕ)
      → IsReadable m p → p.length.0 < 4 * n → phys_decoded m p n ≡ Err Short
  pub phys_enough : (m : DataSpace) (p : Array) (n : ℕ)
      → IsSound m → IsReadable m p → 4 * n ≤ p.length.0 → IsOk (phys_decoded m p n)
  pub no_zero : (m : DataSpace) (p : Array)
      → IsReadable m p → All (λ b. b ≢ 0) (bytes_from m p.address.0 p.length.0) → string_decoded m p ≡ Err Short
  pub some_zero : (m : DataSpace) (p : Array) (k : ℕ)
      → IsReadable m p → k < length (bytes_from m p.address.0 p.length.0)
      → slice_index (bytes_from m p.address.0 p.length.0) k ≡ 0 → IsOk (string_decoded m p)

-- Address counts before Full
pub record EncodingsAreRefused : Type 0 where
  pub bytes_unreadable : (m : DataSpace) (a n : Cell)
      → are_readable m a.0 n.0 ≡ false → bytes_encoded m a n ≡ Err Address
  pub string_unreadable : (m : DataSpace) (a n : Cell)
      → are_readable m a.0 n.0 ≡ false → string_encoded m a n ≡ Err Address
  pub bytes_full : (m : DataSpace) (a n : Cell)
      → IsSound m → are_readable m a.0 n.0 ≡ true → data_limit < m.here + n.0 → bytes_encoded m a n ≡ Err Full
  -- a string has a zero byte more
  pub string_full : (m : DataSpace) (a n : Cell)
      → IsSound m → are_readable m a.0 n.0 ≡ true → data_limit ≤ m.here + n.0 → string_encoded m a n ≡ Err Full
