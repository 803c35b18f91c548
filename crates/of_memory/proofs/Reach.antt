-- How far the live blocks hold every address.
use Rattle.std.proofs.Common.{◌≡◌, ℕ, zero, suc, length, get_or, drop, find, None, add-one, ◌+◌, ◌-◌, ◌<◌, ◌≤◌, nat_le}
use Rattle.std.proofs.Common.{Bool, true, false, ◌||◌, List, [], ◌∷◌, ◌⊎◌, inl, inr, refl, sym, subst, ◌∙◌, arith}
use Rattle.std.proofs.lemmas.Grind.{common_steps}
use Rattle.std.proofs.lemmas.Bool.{cases_lt, le-leb, lt-leb}
use Rattle.of_memory.specs.Regions.{heap_limit, heap_start}
use Rattle.of_memory.specs.declared.blocks.Block.{Block}
use Rattle.of_memory.specs.Access.{all_from}
use Rattle.of_memory.specs.BlockSearch.{reach}
use Rattle.of_memory.specs.Blocks.{AreLaid, IsLaid, holds, is_live}
use Rattle.of_memory.proofs.Laid.{IsWithin, laid_at}
use Rattle.of_memory.proofs.AllFrom.{all_true, all_false}

-- what `holds` decides
pub holds_true : (x : ℕ) (b : Block) → b.at ≤ x → x < b.at + b.size → holds x b ≡ true
holds_true x b = grind (arith, common_steps)

pub holds_before : (x : ℕ) (b : Block) → x < b.at → holds x b ≡ false
holds_before x b = grind (arith, common_steps)

pub holds_after : (x : ℕ) (b : Block) → b.at + b.size ≤ x → holds x b ≡ false
holds_after x b = grind (arith, common_steps)

pub record Held (x : ℕ) (b : Block) : Type 0 where
  pub low : b.at ≤ x
  pub high : x < b.at + b.size

-- the three places of an address
pub where_is : (x : ℕ) (b : Block) → (x < b.at) ⊎ (Held x b ⊎ (b.at + b.size ≤ x))
where_is x b =
    elim (cases_lt x b.at) [
      | inl h ↦ inl h
      | inr h ↦ elim (cases_lt x (b.at + b.size))
          [ inl k ↦ inr (inl (record { low = h; high = k })) | inr k ↦ inr (inr k) ]
    ]

-- no block lies below the low end
pub reach_below : (low high : ℕ) (bs : List Block) (x : ℕ) → AreLaid low high bs → x < low → reach bs x ≡ x
reach_below low high [] x h l = refl
reach_below low high (b ∷ bs) x h l =
    rw (holds_before x b (omega (arith, h.0.above)))
    (reach_below (b.at + b.size) high bs x h.1 (omega (arith, h.0.above)))

pub reach_ge : (bs : List Block) (x : ℕ) → x ≤ reach bs x
reach_ge [] x = omega arith
reach_ge (b ∷ bs) x =
    elim (where_is x b) [
      | inl h ↦ rw (holds_before x b h) (reach_ge bs x)
      | inr w ↦ elim w [
        | inl h ↦ rw (holds_true x b h.low h.high)
            (let r : b.at + b.size ≤ reach bs (b.at + b.size) = reach_ge bs (b.at + b.size) in omega
            (arith, h.low, h.high))
        | inr h ↦ rw (holds_after x b h) (reach_ge bs x)
      ]
    ]

reach_skips : (b : Block) (bs : List Block) (x : ℕ) → holds x b ≡ false → reach (b ∷ bs) x ≡ reach bs x
reach_skips b bs x e = rw e

reach_takes : (b : Block) (bs : List Block) (x : ℕ) → Held x b → reach (b ∷ bs) x ≡ reach bs (b.at + b.size)
reach_takes b bs x h = rw (holds_true x b h.low h.high)

or_true : (p q : Bool) → q ≡ true → (p || q) ≡ true
or_true true q e = refl
or_true false q e = e

later_live : (b : Block) (bs : List Block) (y : ℕ) → is_live bs y ≡ true → is_live (b ∷ bs) y ≡ true
later_live b bs y e = or_true (holds y b) (is_live bs y) e

-- each address on the way is in a block
pub reach_live : (bs : List Block) (x y : ℕ) → x ≤ y → y < reach bs x → is_live bs y ≡ true
reach_live [] x y ge lt = absurd (omega arith)
reach_live (b ∷ bs) x y ge lt =
    elim (where_is x b) [
      | inl h ↦ later_live b bs y (reach_live bs x y ge (omega (arith, reach_skips b bs x (holds_before x b h))))
      | inr w ↦ elim w [
        | inl h ↦ elim (cases_lt y (b.at + b.size)) [
          | inl k ↦ rw (holds_true y b (omega (arith, h.low)) k) refl
          | inr k ↦ later_live b bs y (reach_live bs (b.at + b.size) y k (omega (arith, reach_takes b bs x h)))
        ]
        | inr h ↦ later_live b bs y (reach_live bs x y ge (omega (arith, reach_skips b bs x (holds_after x b h))))
      ]
    ]

ends_at :
    (b : Block) (bs : List Block) (x r : ℕ) → reach (b ∷ bs) x ≡ r → holds r b ≡ false → is_live bs r ≡ false
    → is_live (b ∷ bs) (reach (b ∷ bs) x) ≡ false
ends_at b bs x r e p q = let P : ℕ → Type 0 = λ v. is_live (b ∷ bs) v ≡ false in subst P (sym e) (rw p q)

-- and where it ends is in none
pub reach_end : (low high : ℕ) (bs : List Block) (x : ℕ) → AreLaid low high bs → is_live bs (reach bs x) ≡ false
reach_end low high [] x h = refl
reach_end low high (b ∷ bs) x h =
    elim (where_is x b) [
      | inl k ↦
          let e : reach bs x ≡ x = reach_below (b.at + b.size) high bs x h.1 (omega arith) in
          ends_at b bs x (reach bs x) (reach_skips b bs x (holds_before x b k))
          (holds_before (reach bs x) b (omega arith)) (reach_end (b.at + b.size) high bs x h.1)
      | inr w ↦ elim w [
        | inl k ↦
            ends_at b bs x (reach bs (b.at + b.size)) (reach_takes b bs x k)
            (holds_after (reach bs (b.at + b.size)) b (reach_ge bs (b.at + b.size)))
            (reach_end (b.at + b.size) high bs (b.at + b.size) h.1)
        | inr k ↦
            let ge : x ≤ reach bs x = reach_ge bs x in
            ends_at b bs x (reach bs x) (reach_skips b bs x (holds_after x b k))
            (holds_after (reach bs x) b (omega arith)) (reach_end (b.at + b.size) high bs x h.1)
      ]
    ]

-- blocks that end by the address are no matter
pub reach_drop :
    (low high : ℕ) (bs : List Block) (i x : ℕ) (d : Block) → AreLaid low high bs → i < length bs
    → (get_or bs i d).at + (get_or bs i d).size ≤ x → reach (drop (i + 1) bs) x ≡ reach bs x
reach_drop low high [] i x d h l e = absurd (omega arith)
reach_drop low high (b ∷ bs) zero x d h l e = rw (holds_after x b e) refl
reach_drop low high (b ∷ bs) (suc i) x d h l e =
    let w : IsWithin (b.at + b.size) high (get_or bs i d) = laid_at (b.at + b.size) high bs i d h.1 (omega arith) in
    let later : reach (drop (i + 1) bs) x ≡ reach bs x = reach_drop (b.at + b.size) high bs i x d h.1 (omega arith) e in
    rw (add-one, holds_after x b (omega (arith, w.low, w.some))) (rw add-one at later)

pub find_drop :
    (low high : ℕ) (bs : List Block) (i x : ℕ) (d : Block) → AreLaid low high bs → i < length bs
    → (get_or bs i d).at + (get_or bs i d).size ≤ x → find (holds x) (drop (i + 1) bs) ≡ find (holds x) bs
find_drop low high [] i x d h l e = absurd (omega arith)
find_drop low high (b ∷ bs) zero x d h l e = rw (holds_after x b e) refl
find_drop low high (b ∷ bs) (suc i) x d h l e =
    let w : IsWithin (b.at + b.size) high (get_or bs i d) = laid_at (b.at + b.size) high bs i d h.1 (omega arith) in
    let later : find (holds x) (drop (i + 1) bs) ≡ find (holds x) bs =
    find_drop (b.at + b.size) high bs i x d h.1 (omega arith) e in
    rw (add-one, holds_after x b (omega (arith, w.low, w.some))) (rw add-one at later)

-- nor are those that begin beyond it
pub find_below : (low high : ℕ) (bs : List Block) (x : ℕ) → AreLaid low high bs → x < low → find (holds x) bs ≡ None
find_below low high [] x h l = refl
find_below low high (b ∷ bs) x h l =
    rw (holds_before x b (omega (arith, h.0.above)))
    (find_below (b.at + b.size) high bs x h.1 (omega (arith, h.0.above)))

-- what is laid from some block on
pub laid_drop :
    (low high : ℕ) (bs : List Block) (i : ℕ) (d : Block) → AreLaid low high bs → i < length bs
    → AreLaid (get_or bs i d).at high (drop i bs)
laid_drop low high [] i d h l = absurd (omega arith)
laid_drop low high (b ∷ bs) zero d h l =
    let first : IsLaid b.at b = record {
      above = omega arith;
      low_eighth = h.0.eighth;
      eighth = h.0.eighth;
      some = h.0.some;
      eighths = h.0.eighths;
    } in
    (first, h.1)
laid_drop low high (b ∷ bs) (suc i) d h l = laid_drop (b.at + b.size) high bs i d h.1 (omega arith)

-- a range is live exactly where it ends no later than its blocks
pub all_live :
    (bs : List Block) (a n : ℕ) → AreLaid heap_start heap_limit bs
    → all_from (is_live bs) a n ≡ nat_le (a + n) (reach bs a)
all_live bs a n laid =
    let ge : a ≤ reach bs a = reach_ge bs a in
    elim (cases_lt (reach bs a) (a + n)) [
      | inl l ↦
          let k = reach bs a - a in
          let at : a + k ≡ reach bs a = omega arith in
          let dead : is_live bs (a + k) ≡ false = rw at (reach_end heap_start heap_limit bs a laid) in
          all_false (is_live bs) a n k (omega arith) dead ∙ sym (lt-leb (a + n) (reach bs a) l)
      | inr l ↦
          all_true (is_live bs) a n (λ k h. reach_live bs a (a + k) (omega arith) (omega arith))
          ∙ sym (le-leb (a + n) (reach bs a) l)
    ]
