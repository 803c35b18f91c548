-- The methods of a node: words by their names, which are compared without the case of ASCII letters (Forth 2012,
-- 3.4.2; IEEE 1275-1994, 3.2.2).
use Rattle.std.specs.Prelude.{ℕ, Bool, ◌&&◌, nat_le, List, length, map, Option, Some, None, if◌then◌else◌}
use Rattle.std.specs.Char.{to_ascii_lowercase}
use Rattle.of_cells.specs.declared.cells.Cell.{Cell}
use Rattle.of_nodes.specs.Properties.{replaced, value_in, with_entry, without}

-- a name under which a method is kept
abbrev pub lower : List ℕ → List ℕ
lower name = map to_ascii_lowercase name

-- a name of 1 to 31 bytes
abbrev pub is_method_name : List ℕ → Bool
is_method_name name = nat_le 1 (length name) && nat_le (length name) 31

-- the word that is the method of a name
abbrev pub method_in : List (List ℕ × Cell) → List ℕ → Option Cell
method_in ms name = if is_method_name name then value_in ms (lower name) else None

-- the methods with a word under a name: a method that is there keeps its place, and a new one goes last
abbrev pub with_method : List (List ℕ × Cell) → List ℕ → Cell → List (List ℕ × Cell)
with_method ms name xt = with_entry ms (lower name) xt

-- the methods with the word that a name had before a method was made of it, or without the name if it had none
abbrev pub with_former : List (List ℕ × Cell) → List ℕ → Option Cell → List (List ℕ × Cell)
with_former ms name (Some xt) = replaced ms (lower name) xt
with_former ms name None = without ms (lower name)
