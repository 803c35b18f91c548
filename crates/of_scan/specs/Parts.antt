-- Strings that no line ends, as those of a console line and of an evaluated text: they go on up to a byte, or take all
-- that is left (Forth 2012, 3.4.1; IEEE 1275-1994, 7.3.1).
use Rattle.std.specs.Prelude.{ℕ, zero, suc, List, [], ◌∷◌, ◌++◌, length, take, drop, take_while, Bool, not}
use Rattle.std.specs.Prelude.{Option, Some, None, nat_eq, nat_lt, if◌then◌else◌}
use Rattle.std.specs.Option.{option_map}
use Rattle.of_format.specs.Digits.{digit_value}
use Rattle.of_scan.specs.Scan.{byte_of, is_blank}

-- bytes that were read, and what follows them
abbrev pub Parted : Type 0
Parted = List ℕ × List ℕ

-- how many bytes stand before the first of these
abbrev pub count_before : ℕ → List ℕ → ℕ
count_before end text = length (take_while (λ b. not (nat_eq b end)) text)

-- the bytes up to the first of these, and what follows it; all that is left where there is none
abbrev pub part_to : ℕ → List ℕ → Parted
part_to end text = (take (count_before end text) text, drop (suc (count_before end text)) text)

-- whether there is one
abbrev pub has_byte : ℕ → List ℕ → Bool
has_byte end text = nat_lt (count_before end text) (length text)

-- ---- strings behind the word `"`

-- a byte, if there is one, before bytes, if there are any
abbrev pub byte_and : Option ℕ → Option (List ℕ) → Option (List ℕ)
byte_and (Some b) (Some bytes) = Some (b ∷ bytes)
byte_and _ _ = None

-- the bytes that pairs of hexadecimal digits say, with blanks between pairs or none
abbrev pub paired : List ℕ → Option (List ℕ)
paired [] = Some []
paired (a ∷ []) = if is_blank a then Some [] else None
paired (a ∷ b ∷ text) =
    if is_blank a then paired (b ∷ text) else
    byte_and (byte_of (digit_value 16 a) (digit_value 16 b)) (paired text)

-- what stands up to `)`, as such pairs
abbrev pub closed_pairs : List ℕ → Option Parted
closed_pairs text =
    if has_byte 41 text then option_map (λ bytes. (bytes, (part_to 41 text).1)) (paired (part_to 41 text).0) else None

-- `(`, pairs of digits and `)`: the bytes, and what follows
abbrev pub group_in : List ℕ → Option Parted
group_in [] = None
group_in (b ∷ text) = if nat_eq b 40 then closed_pairs text else None

-- bytes with the group behind them and what that is followed by; or as they are, where there is no group
abbrev pub with_group : Parted → Option Parted → (List ℕ → Parted) → Parted
with_group r None next = r
with_group r (Some g) next = ((r.0 ++ g.0) ++ (next g.1).0, (next g.1).1)

-- the bytes up to a quote that no group follows, with at most n groups
abbrev pub grouped_part : ℕ → List ℕ → Parted
grouped_part zero text = ([], text)
grouped_part (suc n) text = with_group (part_to 34 text) (group_in (part_to 34 text).1) (grouped_part n)

-- the string of the word `"`; each group has a byte at least, so there are no more than bytes
abbrev pub quoted_part : List ℕ → Parted
quoted_part text = grouped_part (length text) text
