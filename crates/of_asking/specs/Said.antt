-- Which words ask what (IEEE 1275-1994, 5.3.7.3, 5.3.7.4 and annex A).
use Rattle.std.specs.List.{All}
use Rattle.std.specs.Prelude.{◌≡◌, ◌↔◌, ℕ, ◌+◌, ◌%◌, ◌^◌, ◌<◌, ◌≤◌, List, [], ◌∷◌, length, None}
use Rattle.of_cells.specs.declared.cells.Cell.{Cell}
use Rattle.of_fcodes.specs.declared.words.DevicesWord.{DevicesWord}
use Rattle.of_fcodes.specs.declared.words.DevicesWord.TheVariants as word
use Rattle.of_fcodes.specs.declared.words.KeysWord.TheVariants as keys
use Rattle.of_memory.specs.DataSpace.{DataSpace, byte_at}
use Rattle.of_memory.specs.Width.{bytes_in}
use Rattle.of_memory.specs.declared.width.Width.{Width}
use Rattle.of_memory.specs.declared.width.Width.TheVariants.{One, Two, Four}
use Rattle.of_board.specs.declared.board.Board.{Board}
use Rattle.of_asking.specs.declared.query.Query.{Query}
use Rattle.of_asking.specs.declared.query.Query.TheVariants as query
use Rattle.of_asking.specs.Devices.{devices_entry}
use Rattle.of_asking.specs.Keys.{keys_entry}
use Rattle.of_asking.specs.Questions.{Asks}

-- a register of a device: all its bytes are the device's, and its address is a multiple of its width
pub record IsRegister (w : Width) (a : ℕ) : Type 0 where
  pub from : 0x8000_0000 ≤ a
  pub to : a + bytes_in w ≤ 0xC000_0000
  pub aligned : a % bytes_in w ≡ 0

-- the words of a width
abbrev pub reading : Width → DevicesWord
reading One = word.ReadByte
reading Two = word.ReadWord
reading Four = word.ReadLong

abbrev pub writing : Width → DevicesWord
writing One = word.WriteByte
writing Two = word.WriteWord
writing Four = word.WriteLong

abbrev pub peeking : Width → DevicesWord
peeking One = word.PeekByte
peeking Two = word.PeekWord
peeking Four = word.PeekLong

abbrev pub poking : Width → DevicesWord
poking One = word.PokeByte
poking Two = word.PokeWord
poking Four = word.PokeLong

-- each cell has 32 bits
abbrev pub AreCells : List Cell → Type 0
AreCells s = All (λ x. x.0 < 2 ^ 32) s

-- the low bytes of a cell, as many as the width has
abbrev pub low : Width → Cell → Cell
low w x = record { 0 = x.0 % 256 ^ bytes_in w }

-- the question is this one about the register whose address is on top
abbrev pub IsOf : Width → List Cell → (Cell → Query) → Query → Type 0
IsOf w [] said q = ⊥
IsOf w (a ∷ s) said q = IsRegister w a.0 × (q ≡ said a)

-- the question is this one about that register and the low bytes of the cell beneath
abbrev pub IsWith : Width → List Cell → (Cell → Cell → Query) → Query → Type 0
IsWith w [] said q = ⊥
IsWith w (a ∷ []) said q = ⊥
IsWith w (a ∷ x ∷ s) said q = IsRegister w a.0 × (q ≡ said a (low w x))

-- the question is to wait for the time on top
abbrev pub IsWait : List Cell → Query → Type 0
IsWait [] q = ⊥
IsWait (n ∷ s) q = q ≡ query.Wait n

-- a word asks just what is said here
pub record QuestionsAreSaid : Type 0 where
  pub reads : (w : Width) (b : Board) (q : Query) →
      (devices_entry (reading w) None b ≡ Asks q) ↔ IsOf w b.stack (query.Read w) q
  pub writes : (w : Width) (b : Board) (q : Query) → AreCells b.stack →
      (devices_entry (writing w) None b ≡ Asks q) ↔ IsWith w b.stack (query.Write w) q
  pub peeks : (w : Width) (b : Board) (q : Query) →
      (devices_entry (peeking w) None b ≡ Asks q) ↔ IsOf w b.stack (query.Peek w) q
  pub pokes : (w : Width) (b : Board) (q : Query) → AreCells b.stack →
      (devices_entry (poking w) None b ≡ Asks q) ↔ IsWith w b.stack (query.Poke w) q
  pub milliseconds : (b : Board) (q : Query) →
      (devices_entry word.Milliseconds None b ≡ Asks q) ↔ ((length b.stack < 256) × (q ≡ query.Milliseconds))
  pub wait : (b : Board) (q : Query) → (devices_entry word.Wait None b ≡ Asks q) ↔ IsWait b.stack q
  pub key : (b : Board) (q : Query) →
      (keys_entry keys.Key None b ≡ Asks q) ↔ ((length b.stack < 256) × (q ≡ query.Key))
  pub key_ready : (b : Board) (q : Query) →
      (keys_entry keys.KeyReady None b ≡ Asks q) ↔ ((length b.stack < 256) × (q ≡ query.KeyReady))
  -- no byte of a register is one of the data space
  pub apart : (m : DataSpace) (w : Width) (a i : ℕ) → IsRegister w a → i < bytes_in w → byte_at m (a + i) ≡ None
