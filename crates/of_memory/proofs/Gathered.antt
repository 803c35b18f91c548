-- Bytes that are copied to a range one by one, in an order in which none is lost.
use Rattle.std.proofs.Common.{◌≡◌, ℕ, ◌+◌, ◌-◌, ◌*◌, ◌<◌, ◌≤◌, List, length, get_or, set, inl, inr, refl, sym, ◌∙◌}
use Rattle.std.proofs.Common.{arith}
use Rattle.std.proofs.lemmas.Bool.{cases_lt, cases_eq}
use Rattle.std.proofs.lemmas.List.{places, ext_get_or, get_or-set_same, get_or-set_other, length-set}
use Rattle.of_memory.specs.DataSpace.{splice}
use Rattle.of_memory.specs.Access.{every}
use Rattle.of_memory.proofs.Spread.{every_length, every_at, rises}

-- the lists before and meanwhile, from where to where, how many bytes, and how far apart
module _ (old : List ℕ) (from to n s : ℕ) where
  -- place x holds what it did at first
  abbrev Stays : List ℕ → ℕ → Type 0
  Stays new x = get_or new x 0 ≡ get_or old x 0

  -- the k-th new place holds its byte
  abbrev Holds : List ℕ → ℕ → Type 0
  Holds new k = get_or new (to + k) 0 ≡ get_or old (from + k * s) 0

  -- of the bytes that stand below their new places, those from the i-th on are copied
  pub record Falling (new : List ℕ) (i : ℕ) : Type 0 where
    pub few : i ≤ n
    pub len : length new ≡ length old
    pub moved : (k : ℕ) → i ≤ k → k < n → from + k * s < to + k → Holds new k
    pub below : (x : ℕ) → x < to + i → Stays new x
    pub above : (x : ℕ) → to + n ≤ x → Stays new x
    pub left : (k : ℕ) → k < n → to + k ≤ from + k * s → Stays new (to + k)

  -- all of these are copied, and of the others the first i
  pub record Rising (new : List ℕ) (i : ℕ) : Type 0 where
    pub few : i ≤ n
    pub len : length new ≡ length old
    pub fallen : (k : ℕ) → k < n → from + k * s < to + k → Holds new k
    pub moved : (k : ℕ) → k < i → to + k ≤ from + k * s → Holds new k
    pub below : (x : ℕ) → x < to → Stays new x
    pub above : (x : ℕ) → to + n ≤ x → Stays new x
    pub left : (k : ℕ) → i ≤ k → k < n → to + k ≤ from + k * s → Stays new (to + k)

  pub falling_first : Falling old n
  falling_first = record {
    few = omega arith;
    len = refl;
    moved = λ k l h b. absurd (omega arith);
    below = λ x l. refl;
    above = λ x l. refl;
    left = λ k l h. refl;
  }

  -- what one write does to what stays and holds
  other_stays : (new : List ℕ) (p y x : ℕ) → (x ≡ p → ⊥) → Stays new x → Stays (set new p y) x
  other_stays new p y x apart h = get_or-set_other new p x y 0 apart ∙ h

  other_holds : (new : List ℕ) (p y k : ℕ) → (to + k ≡ p → ⊥) → Holds new k → Holds (set new p y) k
  other_holds new p y k apart h = get_or-set_other new p (to + k) y 0 apart ∙ h

  written_holds :
      (new : List ℕ) (y k : ℕ) → to + k < length new → y ≡ get_or old (from + k * s) 0 → Holds (set new (to + k) y) k
  written_holds new y k l h = get_or-set_same new (to + k) y 0 l ∙ h

  pub falling_written :
      (new : List ℕ) (i y : ℕ) → to + n ≤ length old → i < n → from + i * s < to + i → y ≡ get_or new (from + i * s) 0
      → Falling new (i + 1) → Falling (set new (to + i) y) i
  falling_written new i y room l low is f =
      let byte : y ≡ get_or old (from + i * s) 0 = is ∙ f.below (from + i * s) (omega arith) in
      record {
        few = omega arith;
        len = length-set new (to + i) y ∙ f.len;
        moved = λ k ge h b. elim (cases_eq k i) [
          | inl e ↦ rw e (written_holds new y i (omega (arith, f.len)) byte)
          | inr ne ↦ other_holds new (to + i) y k (λ e. ne (omega arith)) (f.moved k (omega arith) h b)
        ];
        below = λ x h. other_stays new (to + i) y x (λ e. omega arith) (f.below x (omega arith));
        above = λ x h. other_stays new (to + i) y x (λ e. omega arith) (f.above x h);
        left = λ k h b. elim (cases_eq k i) [
          | inl e ↦ let no : to + i ≤ from + i * s = rw e at b in absurd (omega arith)
          | inr ne ↦ other_stays new (to + i) y (to + k) (λ e. ne (omega arith)) (f.left k h b)
        ];
      }

  pub falling_kept : (new : List ℕ) (i : ℕ) → i < n → to + i ≤ from + i * s → Falling new (i + 1) → Falling new i
  falling_kept new i l high f = record {
    few = omega arith;
    len = f.len;
    moved = λ k ge h b. elim (cases_eq k i) [
      | inl e ↦ let no : from + i * s < to + i = rw e at b in absurd (omega arith)
      | inr ne ↦ f.moved k (omega arith) h b
    ];
    below = λ x h. f.below x (omega arith);
    above = f.above;
    left = f.left;
  }

  pub rising_first : (new : List ℕ) → Falling new 0 → Rising new 0
  rising_first new f = record {
    few = omega arith;
    len = f.len;
    fallen = λ k h b. f.moved k (omega arith) h b;
    moved = λ k h b. absurd (omega arith);
    below = λ x h. f.below x (omega arith);
    above = f.above;
    left = λ k l h b. f.left k h b;
  }

  -- the byte that is copied is still as it was
  still :
      (new : List ℕ) (i : ℕ) → 1 ≤ s → i < n → to + i ≤ from + i * s → Rising new i
      → get_or new (from + i * s) 0 ≡ get_or old (from + i * s) 0
  still new i some l high r =
      elim (cases_lt (from + i * s) (to + n)) [
        | inr out ↦ r.above (from + i * s) out
        | inl within ↦
            let k = from + i * s - to in
            let at : to + k ≡ from + i * s = omega arith in
            let on : i ≤ k = omega arith in
            let up : i * s ≤ k * s = rises i k s on in
            rw (← at) (r.left k on (omega arith) (omega arith))
      ]

  pub rising_written :
      (new : List ℕ) (i y : ℕ) → 1 ≤ s → to + n ≤ length old → i < n → to + i ≤ from + i * s
      → y ≡ get_or new (from + i * s) 0 → Rising new i → Rising (set new (to + i) y) (i + 1)
  rising_written new i y some room l high is r =
      let byte : y ≡ get_or old (from + i * s) 0 = is ∙ still new i some l high r in
      record {
        few = omega arith;
        len = length-set new (to + i) y ∙ r.len;
        fallen = λ k h b. elim (cases_eq k i) [
          | inl e ↦ let no : from + i * s < to + i = rw e at b in absurd (omega arith)
          | inr ne ↦ other_holds new (to + i) y k (λ e. ne (omega arith)) (r.fallen k h b)
        ];
        moved = λ k h b. elim (cases_eq k i) [
          | inl e ↦ rw e (written_holds new y i (omega (arith, r.len)) byte)
          | inr ne ↦ other_holds new (to + i) y k (λ e. ne (omega arith)) (r.moved k (omega arith) b)
        ];
        below = λ x h. other_stays new (to + i) y x (λ e. omega arith) (r.below x h);
        above = λ x h. other_stays new (to + i) y x (λ e. omega arith) (r.above x h);
        left = λ k ge h b. other_stays new (to + i) y (to + k) (λ e. omega arith) (r.left k (omega arith) h b);
      }

  pub rising_kept : (new : List ℕ) (i : ℕ) → i < n → from + i * s < to + i → Rising new i → Rising new (i + 1)
  rising_kept new i l low r = record {
    few = omega arith;
    len = r.len;
    fallen = r.fallen;
    moved = λ k h b. elim (cases_eq k i) [
      | inl e ↦ let no : to + i ≤ from + i * s = rw e at b in absurd (omega arith)
      | inr ne ↦ r.moved k (omega arith) b
    ];
    below = r.below;
    above = r.above;
    left = λ k ge h b. r.left k (omega arith) h b;
  }

  -- in the end the whole range holds its bytes
  all_hold : (new : List ℕ) (k : ℕ) → Rising new n → k < n → Holds new k
  all_hold new k r l =
      elim (cases_lt (from + k * s) (to + k)) [
        | inl low ↦ r.fallen k l low
        | inr high ↦ r.moved k l high
      ]

  in_splice :
      (ys : List ℕ) (x k : ℕ) → to + length ys ≤ length old → k < length ys → x ≡ to + k
      → get_or (splice old to ys) x 0 ≡ get_or ys k 0
  in_splice ys x k room l e = grind (arith, places)

  under_splice :
      (ys : List ℕ) (x : ℕ) → to + length ys ≤ length old → x < to → get_or (splice old to ys) x 0 ≡ get_or old x 0
  under_splice ys x room l = grind (arith, places)

  over_splice :
      (ys : List ℕ) (x : ℕ) → to + length ys ≤ length old → to + length ys ≤ x
      → get_or (splice old to ys) x 0 ≡ get_or old x 0
  over_splice ys x room l = grind (arith, places)

  splice_length : (ys : List ℕ) → to + length ys ≤ length old → length (splice old to ys) ≡ length old
  splice_length ys room = grind (arith, places)

  each :
      (new : List ℕ) (x : ℕ) → to + n ≤ length old → Rising new n
      → get_or new x 0 ≡ get_or (splice old to (every old from n s)) x 0
  each new x room r =
      let ys = every old from n s in
      let many : length ys ≡ n = every_length old from n s in
      elim (cases_lt x to) [
        | inl l ↦ r.below x l ∙ sym (under_splice ys x (omega arith) l)
        | inr ge ↦ elim (cases_lt x (to + n)) [
          | inl l ↦
              let k = x - to in
              let at : to + k ≡ x = omega arith in
              let here : get_or new x 0 ≡ get_or old (from + k * s) 0 = rw at at (all_hold new k r (omega arith)) in
              here ∙ sym (in_splice ys x k (omega arith) (omega arith) (omega arith) ∙ every_at old from n s k
              (omega arith))
          | inr l ↦ r.above x l ∙ sym (over_splice ys x (omega arith) (omega arith))
        ]
      ]

  pub gathered : (new : List ℕ) → to + n ≤ length old → Rising new n → new ≡ splice old to (every old from n s)
  gathered new room r =
      let many : length (every old from n s) ≡ n = every_length old from n s in
      ext_get_or 0 new (splice old to (every old from n s))
      (r.len ∙ sym (splice_length (every old from n s) (omega arith))) (λ x l. each new x room r)
