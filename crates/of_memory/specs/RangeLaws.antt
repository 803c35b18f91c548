-- What holds of ranges that can be read or written, at any data space.
use Rattle.std.specs.Prelude.{ℕ, ◌+◌, ◌%◌, ◌^◌, ◌<◌, ◌≤◌, ◌≡◌, List, [], ◌∷◌, ◌++◌, length, None, Ok}
use Rattle.of_memory.specs.Width.{bytes_in}
use Rattle.of_memory.specs.Regions.{region_of, scratch_start, scratch_limit}
use Rattle.of_memory.specs.DataSpace.{DataSpace, IsSound, bytes_from, written}
use Rattle.of_memory.specs.Access.{IsPlaced, read_fault, write_fault, read_cell, number_at, write, bytes_written}
use Rattle.of_memory.specs.declared.width.Width.{Width}
use Rattle.of_memory.specs.declared.width.Width.TheVariants.{One, Four}

-- parts of ranges, also of two cells and of a text behind a byte
pub record PartsAreGood : Type 0 where
  -- what can be written can be read
  pub reads : (m : DataSpace) (a n : ℕ) (w : Width) → write_fault m a n w ≡ None → read_fault m a n w ≡ None
  -- k bytes, j behind the first
  pub part_reads : (m : DataSpace) (a n j k : ℕ) (w v : Width)
      → read_fault m a n w ≡ None → j + k ≤ n → (a + j) % bytes_in v ≡ 0 → read_fault m (a + j) k v ≡ None
  pub part_writes : (m : DataSpace) (a n j k : ℕ) (w v : Width)
      → write_fault m a n w ≡ None → j + k ≤ n → (a + j) % bytes_in v ≡ 0 → write_fault m (a + j) k v ≡ None
  -- the second of two cells stands 4 behind the first, modulo 2^32
  pub first_reads : (m : DataSpace) (a : ℕ) → read_fault m a 8 Four ≡ None → read_fault m a 4 Four ≡ None
  pub second_reads : (m : DataSpace) (a : ℕ)
      → read_fault m a 8 Four ≡ None → read_fault m ((a + 4) % 2 ^ 32) 4 Four ≡ None
  pub first_writes : (m : DataSpace) (a : ℕ) → write_fault m a 8 Four ≡ None → write_fault m a 4 Four ≡ None
  pub second_writes : (m : DataSpace) (a : ℕ) (ys : List ℕ)
      → write_fault m a 8 Four ≡ None → write_fault (written m a ys) ((a + 4) % 2 ^ 32) 4 Four ≡ None
  -- one byte, and n more
  pub byte_writes : (m : DataSpace) (a n : ℕ) → write_fault m a (n + 1) One ≡ None → write_fault m a 1 One ≡ None
  pub behind_writes : (m : DataSpace) (a n : ℕ)
      → write_fault m a (n + 1) One ≡ None → write_fault m (a + 1) n One ≡ None

-- a write changes no later fault
pub record FaultsStay : Type 0 where
  pub reads : (m : DataSpace) (p a n : ℕ) (ys : List ℕ) (w : Width)
      → read_fault (written m p ys) a n w ≡ read_fault m a n w
  pub writes : (m : DataSpace) (p a n : ℕ) (ys : List ℕ) (w : Width)
      → write_fault (written m p ys) a n w ≡ write_fault m a n w

-- some bytes that can be read lie in one region, and end far below 2^32
pub record RangesArePlaced : Type 0 where
  pub placed : (m : DataSpace) (a n : ℕ) (w : Width) → read_fault m a n w ≡ None → 0 < n → IsPlaced a n
  pub ends : (m : DataSpace) (a n : ℕ) (w : Width) → read_fault m a n w ≡ None → 0 < n → a + n ≤ 0x64_0000
  pub region : (m : DataSpace) (a n j : ℕ) (w : Width)
      → read_fault m a n w ≡ None → j < n → region_of (a + j) ≡ region_of a

-- the scratch region can always be read and written, and so can the cell `base`, with which it begins
pub record ScratchIsOpen : Type 0 where
  pub reads : (m : DataSpace) (a n : ℕ) (w : Width)
      → scratch_start ≤ a → a + n ≤ scratch_limit → a % bytes_in w ≡ 0 → read_fault m a n w ≡ None
  pub writes : (m : DataSpace) (a n : ℕ) (w : Width)
      → scratch_start ≤ a → a + n ≤ scratch_limit → a % bytes_in w ≡ 0 → write_fault m a n w ≡ None
  pub base : (m : DataSpace) → read_cell m scratch_start ≡ Ok (record { 0 = number_at m scratch_start 4 })

-- what was written reads back, and two writes side by side are one
pub record WritesJoin : Type 0 where
  pub back : (m : DataSpace) (a : ℕ) (ys : List ℕ)
      → IsSound m → read_fault m a (length ys) One ≡ None → bytes_from (written m a ys) a (length ys) ≡ ys
  pub none : (m : DataSpace) (a : ℕ) → written m a [] ≡ m
  pub before : (m : DataSpace) (a : ℕ) (xs ys : List ℕ)
      → IsSound m → read_fault m a (length xs + length ys) One ≡ None
      → written (written m (a + length xs) ys) a xs ≡ written m a (xs ++ ys)
  pub behind : (m : DataSpace) (a : ℕ) (xs ys : List ℕ)
      → IsSound m → read_fault m a (length xs + length ys) One ≡ None
      → written (written m a xs) (a + length xs) ys ≡ written m a (xs ++ ys)
  -- a byte is written as bytes are
  pub byte : (m : DataSpace) (a x : ℕ) → x < 2 ^ 8 → write One m a x ≡ bytes_written m a (x ∷ [])
