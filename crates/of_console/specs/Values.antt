-- How the value of a property is shown (IEEE 1275-1994, 7.4.11.2, `.properties`).
use Rattle.std.specs.Prelude.{ℕ, ◌-◌, ◌&&◌, Bool, nat_eq, nat_le, nat_lt, List, [], ◌∷◌, ◌++◌, length, take}
use Rattle.std.specs.Prelude.{slice_index_or, if◌then◌else◌}
use Rattle.std.specs.List.{list_all}
use Rattle.hex.specs.Hex.{encode_lower}

-- a byte that a text shows as it is
abbrev pub is_shown : ℕ → Bool
is_shown b = nat_le 0x20 b && nat_le b 0x7E

-- all bytes but the last
abbrev pub before_last : List ℕ → List ℕ
before_last v = take (length v - 1) v

-- whether all bytes are such
abbrev pub all_shown : List ℕ → Bool
all_shown bytes = list_all (λ b. is_shown b) bytes

-- the last byte of some, or 1
abbrev pub last_byte : List ℕ → ℕ
last_byte v = slice_index_or v (length v - 1) 1

-- whether a value is a text: one or more bytes that are shown as they are, and a zero byte behind them
abbrev pub is_text : List ℕ → Bool
is_text v = nat_lt 1 (length v) && nat_eq (last_byte v) 0 && all_shown (before_last v)

-- bytes in hexadecimal digits, with a space between groups of four
abbrev pub grouped : List ℕ → List ℕ
grouped (a ∷ b ∷ c ∷ d ∷ e ∷ bytes) = encode_lower (a ∷ b ∷ c ∷ d ∷ []) ++ 32 ∷ grouped (e ∷ bytes)
grouped bytes = encode_lower bytes

-- a value as it is shown: a text between quotes, other bytes in digits
abbrev pub value_shown : List ℕ → List ℕ
value_shown v = if is_text v then 34 ∷ before_last v ++ 34 ∷ [] else grouped v

-- what stands behind the name of a property: a space and the value, or nothing where that is empty
abbrev pub behind_name : List ℕ → List ℕ
behind_name [] = []
behind_name (b ∷ v) = 32 ∷ value_shown (b ∷ v)
