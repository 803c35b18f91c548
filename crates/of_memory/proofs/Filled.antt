-- What stands behind the first blocks, among which there is no gap.
use Rattle.std.proofs.Common.{◌≡◌, ℕ, ◌+◌, ◌*◌, ◌-◌, ◌/◌, ◌%◌, ◌<◌, ◌≤◌, zero, suc, length, take, drop, get_or, Bool}
use Rattle.std.proofs.lemmas.Bool.{le-leb}
use Rattle.std.proofs.Common.{true, false, ◌&&◌, nat_le, List, [], ◌∷◌, inl, inr, None, add-zero, add-one, refl}
use Rattle.std.proofs.Common.{arith}
use Rattle.std.specs.List.{insert, remove}
use Rattle.std.proofs.lemmas.List.{length-drop, take_all}
use Rattle.of_memory.specs.declared.blocks.Block.{Block}
use Rattle.of_memory.specs.Blocks.{AreLaid, IsFree, meets_none, least_free, first_of_eighths}
use Rattle.of_memory.specs.BlockSearch.{IsFilled, IsGap, first_end}
use Rattle.of_memory.proofs.Free.{sides, meets_rest, least_free_none, true_or_false}
use Rattle.of_memory.proofs.Gap.{IsGapFrom, later, from_start, low_eighth}

-- ---- where the first blocks end

pub end_of : (low : ℕ) (bs : List Block) (n : ℕ) (d : Block) → n < length bs
    → first_end low bs (n + 1) ≡ (get_or bs n d).at + (get_or bs n d).size
end_of low [] n d l = absurd (omega (arith, l))
end_of low (b ∷ bs) zero d l = refl
end_of low (b ∷ bs) (suc n) d l = rw add-one (rw add-one at (end_of (b.at + b.size) bs n d (omega (arith, l))))

pub end_before : (low : ℕ) (bs : List Block) (n : ℕ) (d : Block) → n ≤ length bs → 0 < n
    → first_end low bs n ≡ (get_or bs (n - 1) d).at + (get_or bs (n - 1) d).size
end_before low bs n d l some =
    let one : n - 1 + 1 ≡ n = omega (arith, some) in
    rw one at (end_of low bs (n - 1) d (omega (arith, l, some)))

pub laid_behind : (low high : ℕ) (bs : List Block) (n : ℕ) → n ≤ length bs → AreLaid low high bs
    → AreLaid (first_end low bs n) high (drop n bs)
laid_behind low high bs zero l h = h
laid_behind low high [] (suc n) l h = absurd (omega (arith, l))
laid_behind low high (b ∷ bs) (suc n) l h = laid_behind (b.at + b.size) high bs n (omega (arith, l)) h.1

-- the blocks from one on, as a part of all
pub rest_of : (bs : List Block) (n : ℕ) → take (length bs - n) (drop n bs) ≡ drop n bs
rest_of bs n = take_all (length bs - n) (drop n bs) (omega (arith, length-drop n bs))

-- ---- how many are filled

pub filled_count : (low : ℕ) (bs : List Block) (n : ℕ) → IsFilled low bs n → n ≤ length bs
filled_count low bs zero h = omega arith
filled_count low [] (suc n) h = absurd h
filled_count low (b ∷ bs) (suc n) h = omega (arith, filled_count (b.at + b.size) bs n h.1)

-- one block more
pub filled_on : (low : ℕ) (bs : List Block) (n : ℕ) (d : Block) → n < length bs
    → (get_or bs n d).at ≡ first_end low bs n → IsFilled low bs n → IsFilled low bs (n + 1)
filled_on low [] n d l e h = absurd (omega (arith, l))
filled_on low (b ∷ bs) zero d l e h = (e, tt)
filled_on low (b ∷ bs) (suc n) d l e h =
    rw add-one (h.0, rw add-one at (filled_on (b.at + b.size) bs n d (omega (arith, l)) e h.1))

-- a block put in right behind them
pub filled_here : (low : ℕ) (bs : List Block) (n : ℕ) (b : Block) → b.at ≡ first_end low bs n → IsFilled low bs n
    → IsFilled low (insert bs n b) (n + 1)
filled_here low bs zero b e h = (e, tt)
filled_here low [] (suc n) b e h = absurd h
filled_here low (c ∷ bs) (suc n) b e h =
    rw add-one (h.0, rw add-one at (filled_here (c.at + c.size) bs n b e h.1))

-- or farther behind
pub filled_before : (low : ℕ) (bs : List Block) (n i : ℕ) (b : Block) → n ≤ i → IsFilled low bs n
    → IsFilled low (insert bs i b) n
filled_before low bs zero i b l h = tt
filled_before low [] (suc n) i b l h = absurd h
filled_before low (c ∷ bs) (suc n) zero b l h = absurd (omega (arith, l))
filled_before low (c ∷ bs) (suc n) (suc i) b l h =
    (h.0, filled_before (c.at + c.size) bs n i b (omega (arith, l)) h.1)

-- and those before one that is taken out
pub filled_left : (low : ℕ) (bs : List Block) (m n i : ℕ) → m ≤ n → m ≤ i → IsFilled low bs n
    → IsFilled low (remove bs i) m
filled_left low bs zero n i l k h = tt
filled_left low bs (suc m) zero i l k h = absurd (omega (arith, l))
filled_left low [] (suc m) (suc n) i l k h = absurd h
filled_left low (b ∷ bs) (suc m) (suc n) zero l k h = absurd (omega (arith, k))
filled_left low (b ∷ bs) (suc m) (suc n) (suc i) l k h =
    (h.0, filled_left (b.at + b.size) bs m n i (omega (arith, l)) (omega (arith, k)) h.1)

-- ---- a gap behind them

one_on : (low high size j a : ℕ) (b : Block) (bs : List Block) → AreLaid low high (b ∷ bs) → b.at ≡ low → 0 < size
    → size % 8 ≡ 0 → IsGap (b.at + b.size) high bs size j a → IsGap low high (b ∷ bs) size (suc j) a
one_on low high size j a b bs laid first some eighths g =
    let one : suc j - 1 ≡ j = omega arith in
    let behind : IsGapFrom (b.at + b.size) high size 1 (suc j) a bs = record {
      free = g.least.free;
      least = g.least.least;
      index = omega arith;
      within = omega (arith, g.index);
      laid = rw (one, g.inserted) g.laid;
      ordered = rw one g.inserted;
    } in
    from_start low high size (suc j) a (b ∷ bs) laid some eighths
    (later low high size 0 (suc j) a b bs laid (omega (arith, first, some)) behind)

pub gap_behind : (low high size : ℕ) (bs : List Block) (n j a : ℕ) → AreLaid low high bs → IsFilled low bs n → 0 < size
    → size % 8 ≡ 0 → IsGap (first_end low bs n) high (drop n bs) size j a → IsGap low high bs size (n + j) a
gap_behind low high size bs zero j a laid h some eighths g =
    let none : 0 + j ≡ j = omega arith in rw none g
gap_behind low high size [] (suc n) j a laid h some eighths g = absurd h
gap_behind low high size (b ∷ bs) (suc n) j a laid h some eighths g =
    let more : suc n + j ≡ suc (n + j) = omega arith in
    rw more (one_on low high size (n + j) a b bs laid h.0 some eighths
    (gap_behind (b.at + b.size) high size bs n j a laid.1 h.1 some eighths g))

-- ---- no gap behind them

first_passes : (p : ℕ → Bool) (a n : ℕ) → p a ≡ true → first_of_eighths p a (suc n) ≡ None → ⊥
first_passes p a n f e = let some = rw f at e in cc

others : (p : ℕ → Bool) (a n : ℕ) → p a ≡ false → first_of_eighths p a (suc n) ≡ None
    → first_of_eighths p (a + 8) n ≡ None
others p a n f e = rw f at e

-- where none passes, each of them fails
fails : (p : ℕ → Bool) (a n k : ℕ) → first_of_eighths p a n ≡ None → k < n → p (a + 8 * k) ≡ true → ⊥
fails p a zero k e l h = absurd (omega (arith, l))
fails p a (suc n) zero e l h = first_passes p a n (rw add-zero at h) e
fails p a (suc n) (suc k) e l h =
    let moved : a + 8 * suc k ≡ (a + 8) + 8 * k = omega arith in
    elim (true_or_false (p a)) [
      | inl t ↦ first_passes p a n t e
      | inr f ↦ fails p (a + 8) n k (others p a n f e) (omega (arith, l)) (rw moved at h)
    ]

no_free : (low high size x : ℕ) (bs : List Block) → low % 8 ≡ 0 → 0 < size → size % 8 ≡ 0
    → least_free low high bs size ≡ None → IsFree low high bs size x → ⊥
unfolding least_free
no_free low high size x bs eighth some eighths e f =
    let k = (x - low) / 8 in
    let at : low + 8 * k ≡ x = omega (arith, f.aligned, f.from, eighth) in
    let fits : ℕ → Bool = λ y. nat_le (y + size) high && meets_none bs size y in
    let holds : fits x ≡ true = rw (le-leb (x + size) high f.to) f.apart in
    fails fits low ((high - low) / 8) k e (omega (arith, f.aligned, f.from, f.to, eighth, some, eighths)) (rw at holds)

free_behind : (low high size x : ℕ) (bs : List Block) (n : ℕ) → IsFilled low bs n → 0 < size
    → IsFree low high bs size x → IsFree (first_end low bs n) high (drop n bs) size x
free_behind low high size x bs zero h some f = f
free_behind low high size x [] (suc n) h some f = absurd h
free_behind low high size x (b ∷ bs) (suc n) h some f =
    elim (sides b bs size x f.apart) [
      | inl l ↦ absurd (omega (arith, l, h.0, f.from, some))
      | inr l ↦ free_behind (b.at + b.size) high size x bs n h.1 some
          (record { aligned = f.aligned; from = l; to = f.to; apart = meets_rest b bs size x f.apart })
    ]

pub none_behind : (low high size : ℕ) (bs : List Block) (n : ℕ) → AreLaid low high bs → IsFilled low bs n → 0 < size
    → size % 8 ≡ 0 → least_free (first_end low bs n) high (drop n bs) size ≡ None → least_free low high bs size ≡ None
none_behind low high size bs n laid h some eighths e =
    let behind = laid_behind low high bs n (filled_count low bs n h) laid in
    let eighth = low_eighth (first_end low bs n) high (drop n bs) behind in
    least_free_none low high size bs (low_eighth low high bs laid)
    (λ x f. no_free (first_end low bs n) high size x (drop n bs) eighth some eighths e
    (free_behind low high size x bs n h some f))
