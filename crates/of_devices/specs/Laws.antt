-- What holds of parts of a board behind any questions.
use Rattle.std.specs.Prelude.{◌≡◌, ℕ, ◌+◌, ◌*◌, ◌%◌, ◌^◌, ◌<◌, ◌≤◌, Bool, true, false, List, [], ◌∷◌, ◌++◌, length}
use Rattle.std.specs.Prelude.{count_by, get_or, nat_lt, if◌then◌else◌}
use Rattle.of_cells.specs.declared.cells.Cell.{Cell}
use Rattle.of_cells.specs.Splitting.{IsCell}
use Rattle.of_memory.specs.Width.{bytes_in}
use Rattle.of_memory.specs.declared.width.Width.{Width}
use Rattle.of_memory.specs.declared.width.Width.TheVariants.{One, Two, Four}
use Rattle.of_asking.specs.Devices.{cut}
use Rattle.of_asking.specs.declared.query.Answer.TheVariants.{Value, BusFault}
use Rattle.of_asking.specs.declared.query.Query.{Query}
use Rattle.of_asking.specs.declared.query.Query.TheVariants.{Read, Write, Peek, Poke, Key, KeyReady, Milliseconds}
use Rattle.of_asking.specs.declared.query.Query.TheVariants.{Wait}
use Rattle.of_devices.specs.Parts.{part_meant}
use Rattle.of_devices.specs.Racks.{Meant}
use Rattle.of_devices.specs.Ranges.{end_of, meets, range_of}
use Rattle.of_devices.specs.Stored.{Stored}
use Rattle.of_devices.specs.declared.part.Part.TheVariants as part
use Rattle.of_devices.specs.declared.range.AddressRange.{AddressRange}

-- device memory as a device
abbrev pub memory : Stored → Meant
memory m = part_meant (part.Memory m)

-- A memory holds what was written until that is written over.
pub record MemoryHolds : Type 0 where
  -- behind a write that it takes, a read of the same width there gives the number, cut to the width
  pub written : (m : Stored) (before : List Query) (w : Width) (a x : Cell)
      → IsCell x → (memory m).takes (Write w a x) ≡ true
      → (memory m).meaning (before ++ Write w a x ∷ []) (Read w a) ≡ Value (cut w x).0
  -- and a read of addresses that were not written gives what it gave before
  pub kept : (m : Stored) (before : List Query) (w v : Width) (a b x : Cell)
      → (memory m).takes (Read v b) ≡ true → meets (range_of w a) (range_of v b) ≡ false
      → (memory m).meaning (before ++ Write w a x ∷ []) (Read v b) ≡ (memory m).meaning before (Read v b)
  -- a number of two bytes is that of the first byte before that of the second, and one of four is two of two
  pub bytes : (m : Stored) (before : List Query) (a b : Cell) (x y : ℕ)
      → (memory m).takes (Read Two a) ≡ true → b.0 ≡ a.0 + 1
      → (memory m).meaning before (Read One a) ≡ Value x → (memory m).meaning before (Read One b) ≡ Value y
      → (memory m).meaning before (Read Two a) ≡ Value (x * 2 ^ 8 + y)
  pub halves : (m : Stored) (before : List Query) (a b : Cell) (x y : ℕ)
      → (memory m).takes (Read Four a) ≡ true → b.0 ≡ a.0 + 2
      → (memory m).meaning before (Read Two a) ≡ Value x → (memory m).meaning before (Read Two b) ≡ Value y
      → (memory m).meaning before (Read Four a) ≡ Value (x * 2 ^ 16 + y)
  -- a poke does what a write does, and a peek gives what a read gives
  pub poked : (m : Stored) (before behind : List Query) (w : Width) (a x : Cell) (q : Query)
      → (memory m).meaning (before ++ Poke w a x ∷ behind) q ≡ (memory m).meaning (before ++ Write w a x ∷ behind) q
  pub peeked : (m : Stored) (before : List Query) (w : Width) (a : Cell)
      → (memory m).meaning before (Peek w a) ≡ (memory m).meaning before (Read w a)
  -- reads and peeks change nothing
  pub reads : (m : Stored) (before behind : List Query) (w : Width) (a : Cell) (q : Query)
      → (memory m).meaning (before ++ Read w a ∷ behind) q ≡ (memory m).meaning (before ++ behind) q
  pub peeks : (m : Stored) (before behind : List Query) (w : Width) (a : Cell) (q : Query)
      → (memory m).meaning (before ++ Peek w a ∷ behind) q ≡ (memory m).meaning (before ++ behind) q

-- broken addresses as a device
abbrev pub broken : AddressRange → Meant
broken r = part_meant (part.Broken r)

-- An access faults where one of its addresses is broken.
pub record BrokenAddressesFault : Type 0 where
  -- the address of the k-th byte of an access is broken
  pub taken : (r : AddressRange) (w : Width) (a : Cell) (k : ℕ)
      → k < bytes_in w → r.address.0 ≤ a.0 + k → a.0 + k < end_of r → (broken r).takes (Read w a) ≡ true
  -- where an access is taken, there is such an address
  pub touched : (r : AddressRange) (w : Width) (a : Cell) → (broken r).takes (Read w a) ≡ true
      → (k : ℕ) × (k < bytes_in w) × (r.address.0 ≤ a.0 + k) × (a.0 + k < end_of r)
  -- whatever the access does
  pub writes : (r : AddressRange) (w : Width) (a x : Cell)
      → (broken r).takes (Write w a x) ≡ (broken r).takes (Read w a)
  pub peeks : (r : AddressRange) (w : Width) (a : Cell) → (broken r).takes (Peek w a) ≡ (broken r).takes (Read w a)
  pub pokes : (r : AddressRange) (w : Width) (a x : Cell)
      → (broken r).takes (Poke w a x) ≡ (broken r).takes (Read w a)
  pub fault : (r : AddressRange) (before : List Query) (q : Query) → (broken r).meaning before q ≡ BusFault

-- the next key is asked for
abbrev pub is_key : Query → Bool
is_key (Read w a) = false
is_key (Write w a x) = false
is_key (Peek w a) = false
is_key (Poke w a x) = false
is_key Key = true
is_key KeyReady = false
is_key Milliseconds = false
is_key (Wait n) = false

-- a keyboard as a device
abbrev pub keyboard : List ℕ → Meant
keyboard keys = part_meant (part.Keyboard keys)

-- The keys of a keyboard come in the order in which they were typed, whatever else is asked.
pub record KeysComeInOrder : Type 0 where
  -- behind k keys comes the one at place k, or 0
  pub key : (keys : List ℕ) (before : List Query)
      → (keyboard keys).meaning before Key ≡ Value (get_or keys (count_by is_key before) 0)
  -- there is a key, 1, until as many were asked for as were typed
  pub ready : (keys : List ℕ) (before : List Query)
      → (keyboard keys).meaning before KeyReady
      ≡ Value (if nat_lt (count_by is_key before) (length keys) then 1 else 0)

-- the time is asked for
abbrev pub is_milliseconds : Query → Bool
is_milliseconds (Read w a) = false
is_milliseconds (Write w a x) = false
is_milliseconds (Peek w a) = false
is_milliseconds (Poke w a x) = false
is_milliseconds Key = false
is_milliseconds KeyReady = false
is_milliseconds Milliseconds = true
is_milliseconds (Wait n) = false

-- A clock counts how often it was asked, from the time at first.
abbrev pub ClockCounts : Type 0
ClockCounts = (time : ℕ) (before : List Query) → time < 2 ^ 32
    → (part_meant (part.Clock time)).meaning before Milliseconds
    ≡ Value ((time + count_by is_milliseconds before) % 2 ^ 32)
