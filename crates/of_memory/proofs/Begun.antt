-- Which block stands at an address, by how many begin before it.
use Rattle.std.proofs.Common.{◌≡◌, ◌≢◌, ℕ, ◌+◌, ◌<◌, ◌≤◌, zero, suc, length, get_or, nat_lt, true, false, List}
use Rattle.std.proofs.Common.{[], ◌∷◌, inl, inr, Some, None, refl, arith}
use Rattle.std.specs.List.{position, position_or_len}
use Rattle.std.proofs.lemmas.Grind.{common_steps}
use Rattle.std.proofs.lemmas.Bool.{cases_lt}
use Rattle.of_memory.specs.declared.blocks.Block.{Block}
use Rattle.of_memory.specs.Blocks.{AreLaid, is_block}
use Rattle.of_memory.specs.BlockSearch.{begun}
use Rattle.of_memory.proofs.Laid.{laid_at, laid_lower}

-- blocks that are laid in some region are laid among all addresses
higher : (low high top : ℕ) (bs : List Block) → high ≤ top → AreLaid low high bs → AreLaid low top bs
higher low high top [] l h = (omega (arith, l, h.0), h.1)
higher low high top (b ∷ bs) l h = (h.0, higher (b.at + b.size) high top bs l h.1)

pub laid_anywhere : (low high top : ℕ) (bs : List Block) → high ≤ top → AreLaid low high bs → AreLaid 0 top bs
laid_anywhere low high top bs l h = laid_lower 0 low top bs (omega arith) refl (higher low high top bs l h)

-- ---- the tests

before : (b : Block) (a : ℕ) → b.at < a → nat_lt b.at a ≡ true
before b a l = grind (arith, common_steps)

not_before : (b : Block) (a : ℕ) → a ≤ b.at → nat_lt b.at a ≡ false
not_before b a l = grind (arith, common_steps)

pub is_at : (b : Block) (a s : ℕ) → b.at ≡ a → b.size ≡ s → is_block a s b ≡ true
is_at b a s e f = grind (arith, common_steps)

pub not_at : (b : Block) (a s : ℕ) → b.at ≢ a → is_block a s b ≡ false
not_at b a s n = grind (arith, common_steps)

pub not_long : (b : Block) (a s : ℕ) → b.size ≢ s → is_block a s b ≡ false
not_long b a s n = grind (arith, common_steps)

-- ---- how many begin before an address

begun_first : (b : Block) (bs : List Block) (a : ℕ) → b.at < a → begun a (b ∷ bs) ≡ 1 + begun a bs
begun_first b bs a l = rw (before b a l) refl

begun_none : (b : Block) (bs : List Block) (a : ℕ) → a ≤ b.at → begun a (b ∷ bs) ≡ 0
begun_none b bs a l = rw (not_before b a l) refl

pub begun_beyond : (low high : ℕ) (bs : List Block) (a i : ℕ) (d : Block) → AreLaid low high bs → i < length bs
    → (get_or bs i d).at < a → i + 1 ≤ begun a bs
begun_beyond low high [] a i d h l e = absurd (omega (arith, l))
begun_beyond low high (b ∷ bs) a zero d h l e = omega (arith, begun_first b bs a e)
begun_beyond low high (b ∷ bs) a (suc i) d h l e =
    let w = laid_at (b.at + b.size) high bs i d h.1 (omega (arith, l)) in
    let rest = begun_beyond (b.at + b.size) high bs a i d h.1 (omega (arith, l)) e in
    omega (arith, rest, begun_first b bs a (omega (arith, w.low, e)))

pub begun_within : (low high : ℕ) (bs : List Block) (a i : ℕ) (d : Block) → AreLaid low high bs → i < length bs
    → a ≤ (get_or bs i d).at → begun a bs ≤ i
begun_within low high [] a i d h l e = absurd (omega (arith, l))
begun_within low high (b ∷ bs) a zero d h l e = omega (arith, begun_none b bs a e)
begun_within low high (b ∷ bs) a (suc i) d h l e =
    elim (cases_lt b.at a) [
      | inl k ↦
          let rest = begun_within (b.at + b.size) high bs a i d h.1 (omega (arith, l)) e in
          omega (arith, rest, begun_first b bs a k)
      | inr k ↦ omega (arith, begun_none b bs a k)
    ]

pub begun_count : (a : ℕ) (bs : List Block) → begun a bs ≤ length bs
begun_count a [] = omega arith
begun_count a (b ∷ bs) =
    elim (cases_lt b.at a) [
      | inl k ↦ omega (arith, begun_first b bs a k, begun_count a bs)
      | inr k ↦ omega (arith, begun_none b bs a k)
    ]

-- ---- the block there

-- one that stands elsewhere is passed by
passed : (b : Block) (bs : List Block) (a s : ℕ) → is_block a s b ≡ false
    → position_or_len (is_block a s) (b ∷ bs) ≡ 1 + position_or_len (is_block a s) bs
passed b bs a s e = rw e refl

all_passed : (low high : ℕ) (bs : List Block) (a s : ℕ) → AreLaid low high bs → a < low
    → position_or_len (is_block a s) bs ≡ length bs
all_passed low high [] a s h l = refl
all_passed low high (b ∷ bs) a s h l =
    let rest = all_passed (b.at + b.size) high bs a s h.1 (omega (arith, l, h.0.above)) in
    let one = passed b bs a s (not_at b a s (omega (arith, l, h.0.above))) in
    omega (arith, one, rest)

there : (low high : ℕ) (bs : List Block) (a s : ℕ) (d : Block) → AreLaid low high bs → begun a bs < length bs
    → is_block a s (get_or bs (begun a bs) d) ≡ true → position_or_len (is_block a s) bs ≡ begun a bs
there low high [] a s d h l e = absurd (omega (arith, l))
there low high (b ∷ bs) a s d h l e =
    elim (cases_lt b.at a) [
      | inl k ↦
          let more : begun a (b ∷ bs) ≡ suc (begun a bs) = omega (arith, begun_first b bs a k) in
          let rest = there (b.at + b.size) high bs a s d h.1 (omega (arith, l, more)) (rw more at e) in
          let one = passed b bs a s (not_at b a s (omega (arith, k))) in
          omega (arith, one, rest, more)
      | inr k ↦
          let none = begun_none b bs a k in
          let is : is_block a s b ≡ true = rw none at e in
          rw (none, is) refl
    ]

nowhere : (low high : ℕ) (bs : List Block) (a s : ℕ) (d : Block) → AreLaid low high bs
    → (begun a bs < length bs → is_block a s (get_or bs (begun a bs) d) ≡ false)
    → position_or_len (is_block a s) bs ≡ length bs
nowhere low high [] a s d h e = refl
nowhere low high (b ∷ bs) a s d h e =
    elim (cases_lt b.at a) [
      | inl k ↦
          let more : begun a (b ∷ bs) ≡ suc (begun a bs) = omega (arith, begun_first b bs a k) in
          let rest = nowhere (b.at + b.size) high bs a s d h.1 (λ l. rw more at (e (omega (arith, l, more)))) in
          let one = passed b bs a s (not_at b a s (omega (arith, k))) in
          omega (arith, one, rest)
      | inr k ↦
          let none = begun_none b bs a k in
          let not : is_block a s b ≡ false = rw none at (e (omega (arith, none))) in
          let rest = all_passed (b.at + b.size) high bs a s h.1 (omega (arith, h.0.some, k)) in
          omega (arith, passed b bs a s not, rest)
    ]

is_below : (x y : ℕ) → x < y → nat_lt x y ≡ true
is_below x y l = grind (arith, common_steps)

not_below : (x : ℕ) → nat_lt x x ≡ false
not_below x = grind (arith, common_steps)

pub found_there : (low high : ℕ) (bs : List Block) (a s : ℕ) (d : Block) → AreLaid low high bs
    → begun a bs < length bs → is_block a s (get_or bs (begun a bs) d) ≡ true
    → position (is_block a s) bs ≡ Some (begun a bs)
found_there low high bs a s d h l e =
    rw (there low high bs a s d h l e, is_below (begun a bs) (length bs) l) refl

pub found_nowhere : (low high : ℕ) (bs : List Block) (a s : ℕ) (d : Block) → AreLaid low high bs
    → (begun a bs < length bs → is_block a s (get_or bs (begun a bs) d) ≡ false) → position (is_block a s) bs ≡ None
found_nowhere low high bs a s d h e = rw (nowhere low high bs a s d h e, not_below (length bs)) refl
