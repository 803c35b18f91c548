-- Strings that no line ends, byte by byte.
use Rattle.std.proofs.Common.{
  ◌≡◌,
  ◌≤◌,
  ◌<◌,
  ◌-◌,
  ◌+◌,
  ℕ,
  zero,
  suc,
  Bool,
  true,
  false,
  if◌then◌else◌,
  ap,
  option_map,
  List,
  [],
  ◌∷◌,
  drop,
  length,
  get_or,
  refl,
  arith,
}
use Rattle.std.proofs.Common.{Option, Some, None, is_some}
use Rattle.std.proofs.Common.{◌≢◌, ◌++◌, ◌∙◌, nat_eq, not}
use Rattle.std.specs.List.{All}
use Rattle.std.proofs.lemmas.List.Elements.{All-head, All-tail}
use Rattle.std.proofs.lemmas.List.Sums.{take_while-cons}
use Rattle.std.proofs.lemmas.Bool.Decides.{nat_tests}
use Rattle.of_format.specs.Digits.{digit_value}
use Rattle.of_scan.specs.Parts.{Parted, byte_and, closed_pairs, grouped_part, group_in, has_byte, paired, part_to}
use Rattle.of_scan.specs.Parts.{with_group}
use Rattle.of_scan.specs.Laws.{PartsAreRead}
use Rattle.of_scan.specs.Scan.{byte_of, is_blank}

pub drop_one : (n : ℕ) (text : List ℕ) → drop 1 (drop n text) ≡ drop (suc n) text
drop_one zero text = refl
drop_one (suc n) [] = refl
drop_one (suc n) (b ∷ text) = drop_one n text

-- a pair of digits before others
pub pair_more : (text : List ℕ) (d : ℕ) → 2 ≤ length text → is_blank (get_or text 0 d) ≡ false
    → is_some (byte_of (digit_value 16 (get_or text 0 d)) (digit_value 16 (get_or text 1 d))) ≡ true
    → is_some (paired (drop 2 text)) ≡ is_some (paired text)
pair_more [] d l s h = absurd (omega (arith, l))
pair_more (x ∷ []) d l s h = absurd (omega (arith, l))
pair_more (x ∷ y ∷ text) d l s h =
    rw s (joined (byte_of (digit_value 16 x) (digit_value 16 y)) (paired text) h)
  where
    joined : (b : Option ℕ) (bytes : Option (List ℕ)) → is_some b ≡ true → is_some bytes ≡ is_some (byte_and b bytes)
    joined (Some b) (Some bytes) h = refl
    joined (Some b) None h = refl
    joined None bytes h = cc

-- what follows pairs of digits that `)` ends, if it does
pub pairs_open : (text : List ℕ) → has_byte 41 text ≡ false → None ≡ option_map (λ g. g.1) (closed_pairs text)
pairs_open text h = rw h refl

pub pairs_bad : (text : List ℕ) → is_some (paired (part_to 41 text).0) ≡ false
    → None ≡ option_map (λ g. g.1) (closed_pairs text)
pairs_bad text h = bad (has_byte 41 text) (paired (part_to 41 text).0) h
  where
    bad : (has : Bool) (bytes : Option (List ℕ)) → is_some bytes ≡ false
        → None ≡ option_map (λ (g : Parted). g.1)
        (if has then option_map (λ bytes. (bytes, (part_to 41 text).1)) bytes else None)
    bad true (Some bytes) h = cc
    bad true None h = refl
    bad false bytes h = refl

pub pairs_closed : (text : List ℕ) → has_byte 41 text ≡ true → is_some (paired (part_to 41 text).0) ≡ true
    → Some (part_to 41 text).1 ≡ option_map (λ g. g.1) (closed_pairs text)
pairs_closed text h k = rw h (closed (paired (part_to 41 text).0) k)
  where
    closed : (bytes : Option (List ℕ)) → is_some bytes ≡ true
        → Some (part_to 41 text).1 ≡ option_map (λ (g : Parted). g.1)
        (option_map (λ bytes. (bytes, (part_to 41 text).1)) bytes)
    closed (Some bytes) k = refl
    closed None k = cc

abbrev got : Option (List ℕ) → List ℕ
got (Some text) = text
got None = []

-- one more piece of a string, with its group
pub group_more : (i end : ℕ) (text u : List ℕ) → i < end → Some u ≡ option_map (λ g. g.1) (group_in (part_to 34 text).1)
    → (grouped_part (end - (i + 1)) u).1 ≡ (grouped_part (end - i) text).1
group_more i end text u lt h =
    let n : end - i ≡ suc (end - (i + 1)) = omega arith in
    rw n (more (group_in (part_to 34 text).1) h)
  where
    more : (g : Option Parted) → Some u ≡ option_map (λ g. g.1) g
        → (grouped_part (end - (i + 1)) u).1 ≡ (with_group (part_to 34 text) g (grouped_part (end - (i + 1)))).1
    more (Some g) h = ap (λ o. (grouped_part (end - (i + 1)) (got o)).1) h
    more None h = cc

-- the last piece
pub group_last : (i end : ℕ) (text : List ℕ) → i < end → None ≡ option_map (λ g. g.1) (group_in (part_to 34 text).1)
    → (part_to 34 text).1 ≡ (grouped_part (end - i) text).1
group_last i end text lt h =
    let n : end - i ≡ suc (end - (i + 1)) = omega arith in
    rw n (last (group_in (part_to 34 text).1) h)
  where
    last : (g : Option Parted) → None ≡ option_map (λ (g : Parted). g.1) g
        → (part_to 34 text).1 ≡ (with_group (part_to 34 text) g (grouped_part (end - (i + 1)))).1
    last None h = refl
    last (Some g) h = absurd cc

-- ---- the law

pub passed : (end b : ℕ) (text : List ℕ) → b ≢ end
    → part_to end (b ∷ text) ≡ (b ∷ (part_to end text).0, (part_to end text).1)
passed end b text h =
    let n : nat_eq b end ≡ false = grind (arith, nat_tests) in
    rw (take_while-cons (λ c. not (nat_eq c end)) b text, n) refl

pub ended : (end : ℕ) (bytes more : List ℕ) → All (λ b. b ≢ end) bytes
    → part_to end (bytes ++ end ∷ more) ≡ (bytes, more)
ended end [] more h = let n : nat_eq end end ≡ true = grind (arith, nat_tests) in rw n refl
ended end (b ∷ bytes) more h =
    passed end b (bytes ++ end ∷ more) (All-head (λ c. c ≢ end) b bytes h)
    ∙ ap (λ r. (b ∷ r.0, r.1)) (ended end bytes more (All-tail (λ c. c ≢ end) b bytes h))

pub unended : (end : ℕ) (bytes : List ℕ) → All (λ b. b ≢ end) bytes → part_to end bytes ≡ (bytes, [])
unended end [] h = refl
unended end (b ∷ bytes) h = passed end b bytes (All-head (λ c. c ≢ end) b bytes h)
    ∙ ap (λ r. (b ∷ r.0, r.1)) (unended end bytes (All-tail (λ c. c ≢ end) b bytes h))

pub parts_are_read : PartsAreRead
parts_are_read = record { there = ended; unended = unended }
