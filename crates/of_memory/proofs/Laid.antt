-- Blocks in order.
use Rattle.std.proofs.Common.{◌≡◌, ℕ, ◌+◌, ◌*◌, ◌%◌, ◌<◌, ◌≤◌, zero, suc, length, get_or, true, List, [], ◌∷◌, Option}
use Rattle.std.proofs.Common.{Some, None, refl, arith}
use Rattle.std.proofs.lemmas.Grind.{common_steps}
use Rattle.std.specs.List.{remove, position}
use Rattle.std.proofs.lemmas.List.Quantifiers.{position-Some}
use Rattle.of_memory.specs.Regions.{heap_limit, heap_start}
use Rattle.of_memory.specs.declared.blocks.Block.{Block}
use Rattle.of_memory.specs.Blocks.{AreLaid, IsLaid, is_block}

pub record IsWithin (lo hi : ℕ) (b : Block) : Type 0 where
  pub low : lo ≤ b.at
  pub high : b.at + b.size ≤ hi
  pub some : 0 < b.size
  pub at8 : b.at % 8 ≡ 0
  pub size8 : b.size % 8 ≡ 0

pub laid_ordered : (low high : ℕ) (bs : List Block) → AreLaid low high bs → low ≤ high
laid_ordered low high [] h = h.0
laid_ordered low high (b ∷ bs) h =
    let e : b.at + b.size ≤ high = laid_ordered (b.at + b.size) high bs h.1 in omega (arith, h.0.above)

-- each block lies between the ends
pub laid_at :
    (low high : ℕ) (bs : List Block) (i : ℕ) (d : Block) → AreLaid low high bs → i < length bs
    → IsWithin low high (get_or bs i d)
laid_at low high [] i d h l = absurd (omega arith)
laid_at low high (b ∷ bs) zero d h l = record {
  low = h.0.above;
  high = laid_ordered (b.at + b.size) high bs h.1;
  some = h.0.some;
  at8 = h.0.eighth;
  size8 = h.0.eighths;
}
laid_at low high (b ∷ bs) (suc i) d h l =
    let r : IsWithin (b.at + b.size) high (get_or bs i d) = laid_at (b.at + b.size) high bs i d h.1 (omega arith) in
    record {
      low = omega (arith, h.0.above, r.low);
      high = r.high;
      some = r.some;
      at8 = r.at8;
      size8 = r.size8;
    }

-- a block of the heap ends with it
pub heap_block :
    (bs : List Block) (i : ℕ) (d : Block) → AreLaid heap_start heap_limit bs → i < length bs
    → (get_or bs i d).at + (get_or bs i d).size ≤ heap_limit
heap_block bs i d h l =
    let w : IsWithin heap_start heap_limit (get_or bs i d) = laid_at heap_start heap_limit bs i d h l in w.high

pub laid_lower : (low mid high : ℕ) (bs : List Block) → low ≤ mid → low % 8 ≡ 0 → AreLaid mid high bs
    → AreLaid low high bs
laid_lower low mid high [] le e h = (omega (arith, h.0), e)
laid_lower low mid high (b ∷ bs) le e h =
    let first : IsLaid low b = record {
      above = omega (arith, h.0.above);
      low_eighth = e;
      eighth = h.0.eighth;
      some = h.0.some;
      eighths = h.0.eighths;
    } in
    (first, h.1)

-- one block fewer
pub laid_remove : (low high : ℕ) (bs : List Block) (i : ℕ) → AreLaid low high bs → AreLaid low high (remove bs i)
laid_remove low high [] zero h = h
laid_remove low high [] (suc i) h = h
laid_remove low high (b ∷ bs) zero h =
    laid_lower low (b.at + b.size) high bs (omega (arith, h.0.above)) h.0.low_eighth h.1
laid_remove low high (b ∷ bs) (suc i) h = (h.0, laid_remove (b.at + b.size) high bs i h.1)

-- no block is longer than its region
pub no_long :
    (low high a size : ℕ) (bs : List Block) → AreLaid low high bs → high < low + size
    → position (is_block a size) bs ≡ None
no_long low high a size bs h long = go (position (is_block a size) bs) refl
  where
    same_size : (b : Block) → is_block a size b ≡ true → b.size ≡ size
    same_size b e = grind (arith, common_steps)

    go : (r : Option ℕ) → position (is_block a size) bs ≡ r → r ≡ None
    go None e = refl
    go (Some i) e =
        let d : Block = record { at = 0; size = 0 } in
        let p = position-Some (is_block a size) bs i d e in
        let w : IsWithin low high (get_or bs i d) = laid_at low high bs i d h p.0 in
        absurd (omega (arith, w.low, w.high, same_size (get_or bs i d) p.1))

-- as many blocks as find room
pub laid_count : (low high : ℕ) (bs : List Block) → AreLaid low high bs → low + 8 * length bs ≤ high
laid_count low high [] h = omega (arith, h.0)
laid_count low high (b ∷ bs) h =
    let r : b.at + b.size + 8 * length bs ≤ high = laid_count (b.at + b.size) high bs h.1 in
    omega (arith, h.0.above, h.0.some, h.0.eighths)
