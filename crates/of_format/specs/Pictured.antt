-- Pictured numeric output (Forth 2012, 6.1.0490 `<#`, 6.1.1670 `hold`, 6.1.0040 `#>`; IEEE 1275-1994, annex A):
-- a text of at most 128 bytes in the data space that grows downwards from 0x500100, and the cell `base`.
use Rattle.std.specs.Prelude.{ℕ, ◌+◌, ◌-◌, ◌||◌, nat_lt, List, [], ◌∷◌, length, Result}
use Rattle.of_stacks.specs.declared.throws.Throw.{Throw}
use Rattle.of_stacks.specs.Throws.{pictured_overflow, invalid_argument}
use Rattle.of_stacks.specs.Order.{refused_if}
use Rattle.of_memory.specs.Regions.{scratch_start}
use Rattle.of_memory.specs.DataSpace.{DataSpace, written}
use Rattle.of_memory.specs.Access.{number_at}

-- how many bytes a pictured text has at most
abbrev pub capacity : ℕ
capacity = 128

-- the address behind its last byte
abbrev pub text_end : ℕ
text_end = 0x50_0100

-- where a pictured text of so many bytes begins
abbrev pub text_address : ℕ → ℕ
text_address count = text_end - count

-- the data space, and the count of the bytes held, with more bytes put before those held
abbrev pub held : DataSpace → ℕ → List ℕ → Result (DataSpace × ℕ) Throw
held m count bytes =
    refused_if (nat_lt capacity (count + length bytes)) pictured_overflow
    (written m (text_address (count + length bytes)) bytes, count + length bytes)

-- the number in the cell `base`, with which the scratch region begins
abbrev pub base_number : DataSpace → ℕ
base_number m = number_at m scratch_start 4

-- the same, where it can be a base
abbrev pub base_in : DataSpace → Result ℕ Throw
base_in m =
    refused_if (nat_lt (base_number m) 2 || nat_lt 36 (base_number m)) invalid_argument (base_number m)
