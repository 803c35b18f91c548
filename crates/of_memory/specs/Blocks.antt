-- Live blocks: a list in the order of their addresses.
use Rattle.std.specs.Prelude.{ℕ, ◌+◌, ◌*◌, ◌-◌, ◌/◌, ◌%◌, ◌≤◌, ◌<◌, ◌≡◌, zero, suc, Bool, true, ◌&&◌, ◌||◌}
use Rattle.std.specs.Prelude.{nat_lt}
use Rattle.std.specs.Prelude.{nat_le, ◌==◌, List, [], ◌∷◌, Option, Some, None, if◌then◌else◌, max}
use Rattle.std.specs.List.{list_any, list_all}
use Rattle.of_memory.specs.declared.blocks.Block.{Block}

-- the address lies in the block
abbrev pub holds : ℕ → Block → Bool
holds a b = nat_le b.at a && nat_lt a (b.at + b.size)

-- the address lies in a live block
abbrev pub is_live : List Block → ℕ → Bool
is_live blocks a = list_any (holds a) blocks

-- the size of the block that is taken for so many bytes: a multiple of 8, at least 8
abbrev pub rounded : ℕ → ℕ
rounded n = max 8 ((n + 7) / 8 * 8)

-- so many bytes from the address on meet no live block
abbrev pub meets_none : List Block → ℕ → ℕ → Bool
meets_none blocks size a = list_all (λ b. nat_le (a + size) b.at || nat_le (b.at + b.size) a) blocks

-- a block of the size may be taken at the address, between low and high
pub record IsFree (low high : ℕ) (blocks : List Block) (size a : ℕ) : Type 0 where
  pub aligned : a % 8 ≡ 0
  pub from : low ≤ a
  pub to : a + size ≤ high
  pub apart : meets_none blocks size a ≡ true

-- the address is the least at which a block of the size may be taken
pub record IsLeastFree (low high : ℕ) (blocks : List Block) (size a : ℕ) : Type 0 where
  pub free : IsFree low high blocks size a
  pub least : (x : ℕ) → IsFree low high blocks size x → a ≤ x

-- the first that passes of n numbers, 8 apart from a on
abbrev pub first_of_eighths : (ℕ → Bool) → ℕ → ℕ → Option ℕ
first_of_eighths p a zero = None
first_of_eighths p a (suc n) = if p a then Some a else first_of_eighths p (a + 8) n

-- the least address at which a block of the size may be taken
unfoldable pub least_free : ℕ → ℕ → List Block → ℕ → Option ℕ
least_free low high blocks size =
    first_of_eighths (λ a. nat_le (a + size) high && meets_none blocks size a) low ((high - low) / 8)

-- the blocks with one more, in order
abbrev pub with_block : Block → List Block → List Block
with_block b [] = b ∷ []
with_block b (c ∷ cs) = if nat_lt b.at c.at then b ∷ c ∷ cs else c ∷ with_block b cs

-- the block is the one at the address with the size
abbrev pub is_block : ℕ → ℕ → Block → Bool
is_block a size b = b.at == a && b.size == size

-- a block stands at or above the low end, both at multiples of 8, and has some bytes, a multiple of 8
pub record IsLaid (low : ℕ) (b : Block) : Type 0 where
  pub above : low ≤ b.at
  pub low_eighth : low % 8 ≡ 0
  pub eighth : b.at % 8 ≡ 0
  pub some : 0 < b.size
  pub eighths : b.size % 8 ≡ 0

-- the blocks stand in order between low and high, at multiples of 8, and none meets another
abbrev pub AreLaid : ℕ → ℕ → List Block → Type 0
AreLaid low high [] = (low ≤ high) × (low % 8 ≡ 0)
AreLaid low high (b ∷ bs) = IsLaid low b × AreLaid (b.at + b.size) high bs
