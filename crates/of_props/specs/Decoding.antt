-- Decoding: what the first bytes of an array read as, and what follows them (IEEE 1275-1994, 5.3.5.2).
use Rattle.std.specs.Prelude.{ℕ, zero, suc, ◌+◌, ◌*◌, ◌==◌, nat_lt, List, [], ◌∷◌, length, drop}
use Rattle.std.specs.Prelude.{Option, Some, None, Result, Ok, Err, if◌then◌else◌}
use Rattle.std.specs.List.{position}
use Rattle.byteorder.specs.Endian.{big_number}
use Rattle.of_cells.specs.declared.cells.Cell.{Cell}
use Rattle.of_memory.specs.DataSpace.{DataSpace}
use Rattle.of_props.specs.Arrays.{behind, bytes_of, front}
use Rattle.of_props.specs.declared.arrays.Array.{Array}
use Rattle.of_props.specs.declared.fault.PropFault.{PropFault}
use Rattle.of_props.specs.declared.fault.PropFault.TheVariants.{Short}

-- what an array decodes to by its bytes, if they can all be read
abbrev pub decoded : {A : Type 0} → Result (List ℕ) PropFault → (List ℕ → Result (A × Array) PropFault)
    → Result (A × Array) PropFault
decoded (Ok xs) f = f xs
decoded (Err fault) f = Err fault

-- a number: 4 bytes, the high byte first
abbrev pub int_in : Array → List ℕ → Result (Cell × Array) PropFault
int_in p xs = if nat_lt (length xs) 4 then Err Short else Ok (record { 0 = big_number 4 xs }, behind p 4)

-- the string that a zero byte ends, if there is one; neither part has the zero byte
abbrev pub string_at : Array → Option ℕ → Result (Array × Array) PropFault
string_at p None = Err Short
string_at p (Some i) = Ok (front p i, behind p (i + 1))

-- the string that the first zero byte ends
abbrev pub string_in : Array → List ℕ → Result (Array × Array) PropFault
string_in p xs = string_at p (position (λ b. b == 0) xs)

-- so many cells, each 4 bytes
abbrev pub cells_in : ℕ → List ℕ → List Cell
cells_in zero xs = []
cells_in (suc n) xs = record { 0 = big_number 4 xs } ∷ cells_in n (drop 4 xs)

-- a physical address of n cells, the high cell first
abbrev pub phys_in : ℕ → Array → List ℕ → Result (List Cell × Array) PropFault
phys_in n p xs = if nat_lt (length xs) (4 * n) then Err Short else Ok (cells_in n xs, behind p (4 * n))

-- what `decode-int`, `decode-string` and `decode-phys` give
abbrev pub int_decoded : DataSpace → Array → Result (Cell × Array) PropFault
int_decoded m p = decoded (bytes_of m p) (int_in p)

abbrev pub string_decoded : DataSpace → Array → Result (Array × Array) PropFault
string_decoded m p = decoded (bytes_of m p) (string_in p)

abbrev pub phys_decoded : DataSpace → Array → ℕ → Result (List Cell × Array) PropFault
phys_decoded m p n = decoded (bytes_of m p) (phys_in n p)
