-- The first gap between the blocks is the least free address.
use Rattle.std.proofs.Common.{◌≡◌, ℕ, ◌+◌, ◌-◌, ◌*◌, ◌%◌, ◌<◌, ◌≤◌, suc, length, nat_le, nat_lt, true, false, List, []}
use Rattle.std.proofs.Common.{◌∷◌, inl, inr, Option, Some, None, if◌then◌else◌, refl, sym, ap, subst, arith}
use Rattle.std.specs.List.{insert}
use Rattle.std.proofs.lemmas.Grind.{common_steps}
use Rattle.std.proofs.lemmas.List.Edits.{length-insert}
use Rattle.std.proofs.lemmas.Bool.{cases_lt, le-leb, lt-leb}
use Rattle.of_memory.specs.declared.blocks.Block.{Block}
use Rattle.of_memory.specs.Blocks.{AreLaid, IsLaid, IsFree, meets_none, with_block, least_free}
use Rattle.of_memory.specs.BlockSearch.{IsGap, block_at}
use Rattle.of_memory.proofs.Laid.{laid_ordered, laid_count}
use Rattle.of_memory.proofs.Free.{sides, meets_rest, above, least_free_some, least_free_none}

-- The first gap of so many bytes: the number of blocks before it, counted from i, and its address.
abbrev pub gap : ℕ → ℕ → ℕ → ℕ → List Block → Option (ℕ × ℕ)
gap high size i low [] = if nat_le (low + size) high then Some (i, low) else None
gap high size i low (b ∷ bs) =
    if nat_le (low + size) b.at then Some (i, low) else gap high size (i + 1) (b.at + b.size) bs

-- What the first gap is, counted from block i.
pub record IsGapFrom (low high size i j a : ℕ) (bs : List Block) : Type 0 where
  pub free : IsFree low high bs size a
  pub least : (x : ℕ) → IsFree low high bs size x → a ≤ x
  pub index : i ≤ j
  pub within : j ≤ i + length bs
  pub laid : AreLaid low high (insert bs (j - i) (record { at = a; size = size }))
  pub ordered : insert bs (j - i) (record { at = a; size = size }) ≡ with_block (record { at = a; size = size }) bs

-- all blocks from low on lie beyond what ends by low
beyond :
    (low high : ℕ) (bs : List Block) (x size : ℕ) → AreLaid low high bs → x + size ≤ low → meets_none bs size x ≡ true
beyond low high [] x size h l = refl
beyond low high (b ∷ bs) x size h l =
    let rest : meets_none bs size x ≡ true = beyond (b.at + b.size) high bs x size h.1 (omega (arith, h.0.above)) in
    rw (le-leb (x + size) b.at (omega (arith, h.0.above))) rest

no_pair : (x : ℕ × ℕ) → None ≡ Some x → ⊥
no_pair x e = cc

same_index : (i low j a : ℕ) → ◌≡◌ {A = Option (ℕ × ℕ)} (Some (i, low)) (Some (j, a)) → i ≡ j
same_index i low j a e = let p : ◌≡◌ {A = ℕ × ℕ} (i, low) (j, a) = cc in ap (λ (q : ℕ × ℕ). q.0) p

same_address : (i low j a : ℕ) → ◌≡◌ {A = Option (ℕ × ℕ)} (Some (i, low)) (Some (j, a)) → low ≡ a
same_address i low j a e = let p : ◌≡◌ {A = ℕ × ℕ} (i, low) (j, a) = cc in ap (λ (q : ℕ × ℕ). q.1) p

-- a gap right at the low end
here :
    (low high size i : ℕ) (bs : List Block) → low % 8 ≡ 0 → low + size ≤ high → meets_none bs size low ≡ true
    → AreLaid low high (record { at = low; size = size } ∷ bs)
    → record { at = low; size = size } ∷ bs ≡ with_block (record { at = low; size = size }) bs
    → IsGapFrom low high size i i low bs
here low high size i bs eighth fits apart laid ordered =
    let none : i - i ≡ 0 = omega arith in
    record {
      free = record { aligned = eighth; from = omega arith; to = fits; apart = apart };
      least = λ x f. f.from;
      index = omega arith;
      within = omega arith;
      laid = rw none laid;
      ordered = rw none ordered;
    }

-- and one beyond the first block
pub later :
    (low high size i j a : ℕ) (b : Block) (bs : List Block) → AreLaid low high (b ∷ bs) → b.at < low + size
    → IsGapFrom (b.at + b.size) high size (i + 1) j a bs → IsGapFrom low high size i j a (b ∷ bs)
later low high size i j a b bs laid beyond_it g =
    let one : j - i ≡ suc (j - (i + 1)) = omega (arith, g.index) in
    record {
      free = record {
        aligned = g.free.aligned;
        from = omega (arith, laid.0.above, g.free.from);
        to = g.free.to;
        apart = above b bs size a g.free.from g.free.apart;
      };
      least = λ x f. elim (sides b bs size x f.apart) [
        | inl l ↦ absurd (omega (arith, f.from))
        | inr l ↦ g.least x (record {
          aligned = f.aligned;
          from = l;
          to = f.to;
          apart = meets_rest b bs size x
              f.apart;
        })
      ];
      index = omega (arith, g.index);
      within = omega (arith, g.within);
      laid = rw one (laid.0, g.laid);
      ordered = rw one (rw (not_before a b g.free.from) (ap (λ bs'. b ∷ bs') g.ordered));
    }
  where
    not_before : (x : ℕ) (c : Block) → c.at + c.size ≤ x → nat_lt x c.at ≡ false
    not_before x c h = grind (arith, common_steps)

-- a new block right at the low end
at_low : (low size : ℕ) → low % 8 ≡ 0 → 0 < size → size % 8 ≡ 0 → IsLaid low (block_at low size)
at_low low size eighth some eighths = record {
  above = omega arith;
  low_eighth = eighth;
  eighth = eighth;
  some = some;
  eighths = eighths;
}

-- and the block after it
next_laid : (low size : ℕ) (b : Block) → low + size ≤ b.at → size % 8 ≡ 0 → IsLaid low b → IsLaid (low + size) b
next_laid low size b fits eighths h = record {
  above = fits;
  low_eighth = omega (arith, h.low_eighth);
  eighth = h.eighth;
  some = h.some;
  eighths = h.eighths;
}

moved :
    (low high size i j a : ℕ) (bs : List Block) → i ≡ j → low ≡ a → IsGapFrom low high size i i low bs
    → IsGapFrom low high size i j a bs
moved low high size i j a bs e f g =
    let P : ℕ → Type 0 = λ k. IsGapFrom low high size i k low bs in
    let Q : ℕ → Type 0 = λ x. IsGapFrom low high size i j x bs in
    subst Q f (subst P e g)

pub gap_some :
    (low high size i j a : ℕ) (bs : List Block) → AreLaid low high bs → 0 < size → size % 8 ≡ 0
    → gap high size i low bs ≡ Some (j, a) → IsGapFrom low high size i j a bs
gap_some low high size i j a [] laid some eighths e =
    elim (cases_lt high (low + size)) [
      | inl l ↦ absurd (no_pair (j, a) (rw (lt-leb (low + size) high l) at e))
      | inr l ↦
          let yes : ◌≡◌ {A = Option (ℕ × ℕ)} (Some (i, low)) (Some (j, a)) = rw (le-leb (low + size) high l) at e in
          moved low high size i j a [] (same_index i low j a yes) (same_address i low j a yes)
          (here low high size i [] laid.1 l refl (at_low low size laid.1 some eighths, (l, omega (arith, laid.1))) refl)
    ]
gap_some low high size i j a (b ∷ bs) laid some eighths e =
    elim (cases_lt b.at (low + size)) [
      | inl l ↦
          let on : gap high size (i + 1) (b.at + b.size) bs ≡ Some (j, a) = rw (lt-leb (low + size) b.at l) at e in
          later low high size i j a b bs laid l
          (gap_some (b.at + b.size) high size (i + 1) j a bs laid.1 some eighths on)
      | inr l ↦
          let yes : ◌≡◌ {A = Option (ℕ × ℕ)} (Some (i, low)) (Some (j, a)) = rw (le-leb (low + size) b.at l) at e in
          let end : b.at + b.size ≤ high = laid_ordered (b.at + b.size) high bs laid.1 in
          moved low high size i j a (b ∷ bs) (same_index i low j a yes) (same_address i low j a yes)
          (here low high size i (b ∷ bs) laid.0.low_eighth (omega arith)
          (beyond (low + size) high (b ∷ bs) low size (next_laid low size b l eighths laid.0, laid.1) (omega arith))
          (at_low low size laid.0.low_eighth some eighths, (next_laid low size b l eighths laid.0, laid.1))
          (rw (before low b (omega arith)) refl))
    ]
  where
    before : (x : ℕ) (c : Block) → x < c.at → nat_lt x c.at ≡ true
    before x c h = grind (arith, common_steps)

pub gap_none :
    (low high size i : ℕ) (bs : List Block) → AreLaid low high bs → 0 < size → gap high size i low bs ≡ None → (x : ℕ)
    → IsFree low high bs size x → ⊥
gap_none low high size i [] laid some e x f =
    elim (cases_lt high (low + size)) [
      | inl l ↦ omega (arith, f.from, f.to)
      | inr l ↦ no_pair (i, low) (sym (rw (le-leb (low + size) high l) at e))
    ]
gap_none low high size i (b ∷ bs) laid some e x f =
    elim (cases_lt b.at (low + size)) [
      | inl l ↦
          let on : gap high size (i + 1) (b.at + b.size) bs ≡ None = rw (lt-leb (low + size) b.at l) at e in
          elim (sides b bs size x f.apart) [
            | inl k ↦ omega (arith, f.from)
            | inr k ↦ gap_none (b.at + b.size) high size (i + 1) bs laid.1 some on x
                (record { aligned = f.aligned; from = k; to = f.to; apart = meets_rest b bs size x f.apart })
          ]
      | inr l ↦ no_pair (i, low) (sym (rw (le-leb (low + size) b.at l) at e))
    ]

-- before the next block
pub gap_here :
    (high size i low : ℕ) (b : Block) (bs rest : List Block) → bs ≡ b ∷ rest → low + size ≤ b.at
    → gap high size i low bs ≡ Some (i, low)
gap_here high size i low b bs rest e l = rw (e, le-leb (low + size) b.at l) refl

-- beyond all blocks
pub gap_last :
    (high size i low : ℕ) (bs : List Block) → bs ≡ [] → low + size ≤ high → gap high size i low bs ≡ Some (i, low)
gap_last high size i low bs e l = rw (e, le-leb (low + size) high l) refl

pub gap_full : (high size i low : ℕ) (bs : List Block) → bs ≡ [] → high < low + size → gap high size i low bs ≡ None
gap_full high size i low bs e l = rw (e, lt-leb (low + size) high l) refl

-- one block on
pub gap_step :
    (high size i low : ℕ) (b : Block) (bs rest : List Block) → bs ≡ b ∷ rest → b.at < low + size
    → gap high size (i + 1) (b.at + b.size) rest ≡ gap high size i low bs
gap_step high size i low b bs rest e l = rw (e, lt-leb (low + size) b.at l) refl

pub low_eighth : (low high : ℕ) (bs : List Block) → AreLaid low high bs → low % 8 ≡ 0
low_eighth low high [] h = h.1
low_eighth low high (b ∷ bs) h = h.0.low_eighth

-- the same, counted from the first block
pub from_start :
    (low high size j a : ℕ) (bs : List Block) → AreLaid low high bs → 0 < size → size % 8 ≡ 0
    → IsGapFrom low high size 0 j a bs → IsGap low high bs size j a
from_start low high size j a bs laid some eighths g =
    let same : j - 0 ≡ j = omega arith in
    let ordered : insert bs j (block_at a size) ≡ with_block (block_at a size) bs = rw same at g.ordered in
    record {
      found = least_free_some low high size a bs (low_eighth low high bs laid) some eighths
          (record { free = g.free; least = g.least });
      least = record { free = g.free; least = g.least };
      index = omega (arith, g.within);
      inserted = ordered;
      laid = rw (← ordered) (rw same at g.laid);
    }

pub is_gap :
    (low high size j a : ℕ) (bs : List Block) → AreLaid low high bs → 0 < size → size % 8 ≡ 0
    → gap high size 0 low bs ≡ Some (j, a) → IsGap low high bs size j a
is_gap low high size j a bs laid some eighths e =
    from_start low high size j a bs laid some eighths (gap_some low high size 0 j a bs laid some eighths e)

pub no_gap :
    (low high size : ℕ) (bs : List Block) → AreLaid low high bs → 0 < size → gap high size 0 low bs ≡ None
    → least_free low high bs size ≡ None
no_gap low high size bs laid some e =
    least_free_none low high size bs (low_eighth low high bs laid) (gap_none low high size 0 bs laid some e)

-- a gap leaves room for a mark of one more block in every 8 bytes
pub room_for : (low high size i a : ℕ) (bs : List Block) → IsGap low high bs size i a → low + 8 * (length bs + 1) ≤ high
room_for low high size i a bs g =
    let laid : AreLaid low high (insert bs i (block_at a size)) = rw g.inserted g.laid in
    let count : low + 8 * length (insert bs i (block_at a size)) ≤ high =
    laid_count low high (insert bs i (block_at a size)) laid in
    let more : length (insert bs i (block_at a size)) ≡ length bs + 1 = length-insert bs i (block_at a size) g.index in
    omega arith
