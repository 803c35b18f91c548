-- Entries found by the hashes of their names: what the private calls of the code's index answer.
use Rattle.std.specs.Prelude.{ℕ, suc, ◌+◌, ◌*◌, ◌-◌, ◌%◌, List, [], ◌∷◌, drop, take, length, Option, Some, None}
use Rattle.std.specs.Prelude.{slice_index_or, if◌then◌else◌}
use Rattle.std.specs.Str.{str_eq_ignore_ascii_case, str_to_ascii_lowercase}

-- the hash of a name in lower case
abbrev pub key_hash : List ℕ → ℕ
key_hash key =
    (19 * (length key % 256) + 35 * slice_index_or key 0 0 + 6 * slice_index_or key (length key - 1) 0) % 256

-- the hash of a name
abbrev pub name_hash : List ℕ → ℕ
name_hash name = key_hash (str_to_ascii_lowercase name)

-- the places of the entries whose names have a hash
abbrev pub places_at : List ℕ → List ℕ → ℕ → List ℕ
places_at order starts k =
    take (slice_index_or starts (suc k) 0 - slice_index_or starts k 0) (drop (slice_index_or starts k 0) order)

-- the value of an entry, if there is one and it bears a name, or else what is found behind it
abbrev pub entry_or : {A B : Type 0} → (A → List ℕ) → (A → B) → Option A → List ℕ → Option B → Option B
entry_or key value None name rest = rest
entry_or key value (Some r) name rest = if str_eq_ignore_ascii_case (key r) name then Some (value r) else rest

-- the value of the first of these entries that bears a name
abbrev pub found_among : {A B : Type 0} → (A → List ℕ) → (A → B) → List (Option A) → List ℕ → Option B
found_among key value [] name = None
found_among key value (r ∷ rs) name = entry_or key value r name (found_among key value rs name)
