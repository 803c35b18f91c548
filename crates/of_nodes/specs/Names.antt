-- Names of nodes and of properties (IEEE 1275-1994, 3.2.1.1 and 3.2.2.1.1).
use Rattle.std.specs.Prelude.{ℕ, Bool, ◌-◌, ◌&&◌, ◌||◌, not, nat_eq, nat_le, ◌==◌, codes, List, length}
use Rattle.std.specs.Prelude.{slice_index, take}
use Rattle.std.specs.Cmp.Lexicographic.{pointwise}
use Rattle.std.specs.List.{list_all}

-- a printable byte but `/`, `:` and `@`
abbrev pub is_name_byte : ℕ → Bool
is_name_byte b = nat_le 0x21 b && nat_le b 0x7e && not (b == 47) && not (b == 58) && not (b == 64)

-- 1 to 31 such bytes
abbrev pub is_name : List ℕ → Bool
is_name xs = nat_le 1 (length xs) && nat_le (length xs) 31 && list_all is_name_byte xs

-- a good name and a zero byte
abbrev pub is_name_value : List ℕ → Bool
is_name_value xs =
    nat_le 1 (length xs) && (slice_index xs (length xs - 1) == 0) && is_name (take (length xs - 1) xs)

-- whether a property may have a name and a value: that of the name `name` is the node's name
abbrev pub may_hold : List ℕ → List ℕ → Bool
may_hold name value = is_name name && (not (pointwise nat_eq name (codes "name")) || is_name_value value)
