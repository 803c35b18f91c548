-- FCodes by number and by name.
use Rattle.std.specs.Prelude.{◌≡◌, ℕ, List, [], ◌∷◌, Option, Some, None, map, length, slice_get, slice_index, nat_eq}
use Rattle.std.specs.Prelude.{nat_lt, if◌then◌else◌}
use Rattle.std.specs.Borrow.{Bor}
use Rattle.std.specs.Option.{option_map, option_map_or}
use Rattle.std.specs.Str.{str_eq_ignore_ascii_case}
use Rattle.of_fcodes.specs.declared.operand.Operand.{Operand}
use Rattle.of_fcodes.specs.declared.operand.Operand.TheVariants.{Nothing}
use Rattle.of_fcodes.specs.declared.words.Word.{Word}
use Rattle.of_fcodes.specs.Rows.{Row, rows}

-- the row of a number
abbrev pub row_in : List Row → ℕ → Option Row
row_in [] n = None
row_in (r ∷ rs) n = if nat_eq r.number n then Some r else row_in rs n

-- the row of a number, if it is listed
unfoldable pub row_numbered : ℕ → Option Row
row_numbered n = row_in rows n

-- the word that an FCode names
abbrev pub word_numbered : ℕ → Option Word
word_numbered n = option_map (λ (r : Row). r.word) (row_numbered n)

-- what stands behind an FCode; nothing where it isn't listed
abbrev pub operand_numbered : ℕ → Operand
operand_numbered n = option_map_or (λ (r : Row). r.operand) (row_numbered n) Nothing

-- the name of an FCode
abbrev pub name_numbered : ℕ → Option (List ℕ)
name_numbered n = option_map (λ (r : Row). r.name) (row_numbered n)

-- the number of a name, whatever the case of its letters
abbrev pub number_in : List Row → List ℕ → Option ℕ
number_in [] name = None
number_in (r ∷ rs) name = if str_eq_ignore_ascii_case r.name name then Some r.number else number_in rs name

-- the number of a name, if it is listed
unfoldable pub number_named : List ℕ → Option ℕ
number_named name = number_in rows name

-- names and numbers lead to each other
pub record FindsEachRow : Type 0 where
  pub by_number : map (λ (r : Row). row_numbered r.number) rows ≡ map (λ r. Some r) rows
  pub by_name : map (λ (r : Row). number_named r.name) rows ≡ map (λ r. Some r.number) rows

-- a row as it stands in the table of the code
abbrev pub row_shown : (ℕ × Bor (List ℕ) × Word × Operand) → Row
row_shown r = record { number = r.0; name = r.1.now; word = r.2; operand = r.3 }

-- the row to which the place of a number leads
abbrev pub row_placed : List Row → List ℕ → ℕ → Option Row
row_placed rows places n = if nat_lt n (length places) then slice_get rows (slice_index places n) else None
