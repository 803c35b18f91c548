-- What was encoded decodes to the same, and what is left is what followed (IEEE 1275-1994, 5.3.5).
use Rattle.std.specs.Prelude.{ℕ, ◌≡◌, ◌≢◌, ◌<◌, ◌^◌, List, length, Result, Ok, Err}
use Rattle.std.specs.List.{All}
use Rattle.of_cells.specs.declared.cells.Cell.{Cell}
use Rattle.of_cells.specs.Arithmetic.{plus}
use Rattle.of_memory.specs.DataSpace.{DataSpace, IsSound, bytes_from}
use Rattle.of_props.specs.Arrays.{bytes_of, front, joined}
use Rattle.of_props.specs.Encoding.{encoded, int_encoded, phys_encoded, string_encoded}
use Rattle.of_props.specs.Decoding.{int_decoded, phys_decoded, string_decoded}
use Rattle.of_props.specs.declared.arrays.Array.{Array}
use Rattle.of_props.specs.declared.fault.PropFault.{PropFault}

-- what follows a whole array: no bytes
abbrev pub end_of : Array → Array
end_of p = record { address = plus p.address p.length; length = record { 0 = 0 } }

-- what is made of two arrays joined, where the second is directly behind the first
abbrev pub of_joined : {A : Type 0} → Result Array PropFault → (Array → Result A PropFault) → Result A PropFault
of_joined (Ok p) f = f p
of_joined (Err fault) f = Err fault

-- bytes that were encoded are those of their array
abbrev pub BytesReadBack : Type 0
BytesReadBack =
    (m after : DataSpace) (xs : List ℕ) (p : Array) → IsSound m → encoded m xs ≡ Ok (p, after)
    → bytes_of after p ≡ Ok xs

-- a number that was encoded, alone or joined with what was encoded behind it
pub record IntsReadBack : Type 0 where
  pub alone : (m after : DataSpace) (x : Cell) (p : Array)
      → IsSound m → x.0 < 2 ^ 32 → int_encoded m x ≡ Ok (p, after) → int_decoded after p ≡ Ok (x, end_of p)
  pub first : (m between after : DataSpace) (x : Cell) (ys : List ℕ) (p q : Array)
      → IsSound m → x.0 < 2 ^ 32 → int_encoded m x ≡ Ok (p, between) → encoded between ys ≡ Ok (q, after)
      → of_joined (joined p q) (int_decoded after) ≡ Ok (x, q)

-- no byte of the string is zero
abbrev pub IsText : List ℕ → Type 0
IsText xs = All (λ b. b ≢ 0) xs

-- a string without a zero byte that was encoded: n bytes, which are those that stood at a
pub record StringsReadBack : Type 0 where
  pub alone : (m after : DataSpace) (a n : Cell) (p : Array)
      → IsSound m → IsText (bytes_from m a.0 n.0) → string_encoded m a n ≡ Ok (p, after)
      → string_decoded after p ≡ Ok (front p n.0, end_of p)
  pub first : (m between after : DataSpace) (a n : Cell) (ys : List ℕ) (p q : Array)
      → IsSound m → IsText (bytes_from m a.0 n.0) → string_encoded m a n ≡ Ok (p, between)
      → encoded between ys ≡ Ok (q, after)
      → of_joined (joined p q) (string_decoded after) ≡ Ok (front p n.0, q)
  pub same : (m after : DataSpace) (a n : Cell) (p : Array)
      → IsSound m → string_encoded m a n ≡ Ok (p, after)
      → bytes_of after (front p n.0) ≡ Ok (bytes_from m a.0 n.0)

-- each is a cell: below 2 ^ 32
abbrev pub AreCells : List Cell → Type 0
AreCells cells = All (λ c. c.0 < 2 ^ 32) cells

-- a physical address that was encoded, decoded with as many cells
pub record CellsReadBack : Type 0 where
  pub alone : (m after : DataSpace) (cells : List Cell) (p : Array)
      → IsSound m → AreCells cells → phys_encoded m cells ≡ Ok (p, after)
      → phys_decoded after p (length cells) ≡ Ok (cells, end_of p)
  pub first : (m between after : DataSpace) (cells : List Cell) (ys : List ℕ) (p q : Array)
      → IsSound m → AreCells cells → phys_encoded m cells ≡ Ok (p, between) → encoded between ys ≡ Ok (q, after)
      → of_joined (joined p q) (λ r. phys_decoded after r (length cells)) ≡ Ok (cells, q)
