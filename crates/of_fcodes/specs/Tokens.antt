-- The token table (IEEE 1275-1994, 5.2.2.2, `get-token` and `set-token`): for each FCode its entry or none, in the
-- order of their numbers.
use Rattle.std.specs.Prelude.{◌≡◌, ◌<◌, ℕ, zero, suc, false, List, [], ◌∷◌, length, map, nat_eq, Option, Some, None}
use Rattle.std.specs.Prelude.{slice_get, slice_set, unwrap_or, if◌then◌else◌}
use Rattle.std.specs.Option.{option_map}
use Rattle.of_fcodes.specs.declared.token_table.TokenEntry.{TokenEntry}
use Rattle.of_fcodes.specs.declared.words.Word.{Word}
use Rattle.of_fcodes.specs.Finding.{xt_of}
use Rattle.of_fcodes.specs.Lookup.{word_numbered}

abbrev pub Table : Type 0
Table = List (Option TokenEntry)

-- the entry of an FCode, if it is assigned
abbrev pub entry_in : Table → ℕ → Option TokenEntry
entry_in t n = unwrap_or (slice_get t n) None

-- the table with an entry for an FCode
abbrev pub assigned : Table → ℕ → TokenEntry → Table
assigned t n entry = slice_set t n (Some entry)

-- an entry, unless it names the word
abbrev pub unless_named : ℕ → Option TokenEntry → Option TokenEntry
unless_named xt None = None
unless_named xt (Some entry) = if nat_eq entry.xt xt then None else Some entry

-- the table without the entries that name the word
abbrev pub cleared : ℕ → Table → Table
cleared xt t = map (unless_named xt) t

-- what an FCode names at first: its written word, not immediate
abbrev pub first_entry : ℕ → Option TokenEntry
first_entry n = option_map (λ (w : Word). record { xt = xt_of w; immediate = false }) (word_numbered n)

-- the first entries of so many FCodes from one on
unfoldable pub first_entries : ℕ → ℕ → Table
first_entries n zero = []
first_entries n (suc count) = first_entry n ∷ first_entries (suc n) count

-- the table at first, of the FCodes 0x000 to 0xFFF
unfoldable pub first_table : Table
first_table = first_entries 0 4096

-- ---- laws

-- the table is a finite map: what was assigned is found, what names a word isn't found once that is cleared, and
-- all other entries stay
pub record TableIsMap : Type 0 where
  pub first : (n : ℕ) → n < 4096 → entry_in first_table n ≡ first_entry n
  pub assigned_entry :
      (t : Table) (n m : ℕ) (entry : TokenEntry) → n < length t →
      entry_in (assigned t n entry) m ≡ (if nat_eq m n then Some entry else entry_in t m)
  pub cleared_entry : (t : Table) (xt n : ℕ) → entry_in (cleared xt t) n ≡ unless_named xt (entry_in t n)
