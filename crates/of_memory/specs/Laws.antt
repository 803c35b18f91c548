-- The data space as a finite map from address to byte.
use Rattle.std.specs.Prelude.{ℕ, ◌+◌, ◌*◌, ◌-◌, ◌<◌, ◌≡◌, ◌&&◌, true, nat_le, nat_lt, List, length, slice_index, Option}
use Rattle.std.specs.Prelude.{Some, if◌then◌else◌}
use Rattle.of_memory.specs.DataSpace.{DataSpace, IsSound, byte_at, bytes_from, written}
use Rattle.of_memory.specs.Access.{are_readable, every, spread_over}
use Rattle.of_memory.specs.Regions.{place_of}

-- the map with the bytes ys from address a on
abbrev pub map_with : DataSpace → ℕ → List ℕ → ℕ → Option ℕ
map_with m a ys x =
    if nat_le a x && nat_lt x (a + length ys) then Some (slice_index ys (x - a)) else byte_at m x

-- a write to bytes that can be read changes exactly these bytes of the map
abbrev pub WritesChangeTheirBytes : Type 0
WritesChangeTheirBytes =
    (m : DataSpace) (a : ℕ) (ys : List ℕ) (x : ℕ)
    → IsSound m → are_readable m a (length ys) ≡ true → byte_at (written m a ys) x ≡ map_with m a ys x

-- the bytes of a range that can be read are the map's
abbrev pub ReadsGiveTheBytes : Type 0
ReadsGiveTheBytes =
    (m : DataSpace) (a n k : ℕ)
    → are_readable m a n ≡ true → k < n → byte_at m (a + k) ≡ Some (slice_index (bytes_from m a n) k)

-- so are those that stand apart, each s after the one before
abbrev pub SpreadsGiveTheBytes : Type 0
SpreadsGiveTheBytes =
    (m : DataSpace) (a n s k : ℕ)
    → are_readable m a (spread_over n s) ≡ true → k < n
    → byte_at m (a + k * s) ≡ Some (slice_index (every m.bytes (place_of a) n s) k)
