-- Which ranges can be read.
use Rattle.std.proofs.Common.{◌≡◌, ℕ, ◌+◌, ◌-◌, ◌/◌, ◌%◌, ◌<◌, ◌≤◌, nat_lt, Bool, true, false, ◌&&◌, ◌||◌, inl, inr}
use Rattle.std.proofs.Common.{not, Option, Some, None, add-zero, refl, sym, ◌∙◌, lit≤, arith}
use Rattle.std.proofs.lemmas.Grind.{common_steps}
use Rattle.std.proofs.lemmas.Bool.{cases_lt, false≢true}
use Rattle.of_memory.specs.declared.regions.Region.{Region}
use Rattle.of_memory.specs.declared.regions.Region.TheVariants.{Data, Properties, Instances, Heap, Scratch, Image}
use Rattle.of_memory.specs.Regions.{region_of, region_numbered, size_of, is_heap, longest, span}
use Rattle.of_memory.specs.Blocks.{is_live}
use Rattle.of_memory.specs.DataSpace.{DataSpace, is_readable}
use Rattle.of_memory.specs.Access.{IsPlaced, all_from, are_readable}
use Rattle.of_memory.proofs.AllFrom.{all_true, all_false, all_same}

pub size_bound : (r : Region) → size_of r ≤ longest
size_bound Data = lit≤ tt
size_bound Properties = lit≤ tt
size_bound Instances = lit≤ tt
size_bound Heap = lit≤ tt
size_bound Scratch = lit≤ tt
size_bound Image = lit≤ tt

reads_at :
    (m : DataSpace) (x w : ℕ) (r : Region) → region_of x ≡ Some r → x % span ≡ w
    → is_readable m x ≡ (nat_lt w (size_of r) && (not (is_heap r) || is_live m.heap x))
reads_at m x w r e f = rw (e, f) refl

-- the place of a byte of a range in its region
record IsInSpan (a x : ℕ) : Type 0 where
  same : region_of x ≡ region_of a
  within : x % span ≡ a % span + (x - a)

in_span : (a k : ℕ) → a % span + k < span → IsInSpan a (a + k)
in_span a k l =
    let q : (a + k) / span ≡ a / span = omega arith in
    record { same = rw q refl; within = omega arith }

inside : (w s : ℕ) → w < s → nat_lt w s ≡ true
inside w s l = grind (arith, common_steps)

beyond : (w s : ℕ) (b : Bool) → s ≤ w → (nat_lt w s && b) ≡ false
beyond w s b l = grind (arith, common_steps)

-- a range in a region other than the heap
pub plain :
    (m : DataSpace) (a n : ℕ) (r : Region) → region_of a ≡ Some r → is_heap r ≡ false → a % span + n ≤ size_of r
    → are_readable m a n ≡ true
plain m a n r e h fits =
    all_true (is_readable m) a n (λ k l.
    let small : size_of r ≤ longest = size_bound r in
    let s = in_span a k (omega arith) in
    reads_at m (a + k) ((a + k) % span) r (s.same ∙ e) refl ∙ rw
    (h, inside ((a + k) % span) (size_of r) (omega (arith, s.within))) refl)

-- a range that begins in no region
pub nowhere : (m : DataSpace) (a n : ℕ) → region_of a ≡ None → 0 < n → are_readable m a n ≡ false
nowhere m a n e some = all_false (is_readable m) a n 0 some (rw (add-zero, e) refl)

-- a range that leaves its region
pub outside :
    (m : DataSpace) (a n : ℕ) (r : Region) → region_of a ≡ Some r → 0 < n → size_of r < a % span + n
    → are_readable m a n ≡ false
outside m a n r e some past =
    let small : size_of r ≤ longest = size_bound r in
    elim (cases_lt (a % span) (size_of r)) [
      | inl l ↦
          let k = size_of r - a % span in
          let s = in_span a k (omega arith) in
          let w : size_of r ≤ (a + k) % span = omega (arith, s.within) in
          all_false (is_readable m) a n k (omega arith)
          (reads_at m (a + k) ((a + k) % span) r (s.same ∙ e) refl ∙ beyond ((a + k) % span) (size_of r)
          (not (is_heap r) || is_live m.heap (a + k)) w)
      | inr l ↦
          let z : a + 0 ≡ a = add-zero a in
          all_false (is_readable m) a n 0 some
          (rw z (reads_at m a (a % span) r e refl ∙ beyond (a % span) (size_of r)
          (not (is_heap r) || is_live m.heap a) l))
    ]

-- a range in the heap's region
pub in_heap :
    (m : DataSpace) (a n : ℕ) (r : Region) → region_of a ≡ Some r → is_heap r ≡ true → a % span + n ≤ size_of r
    → are_readable m a n ≡ all_from (is_live m.heap) a n
in_heap m a n r e h fits =
    all_same (is_readable m) (is_live m.heap) a n (λ k l.
    let small : size_of r ≤ longest = size_bound r in
    let s = in_span a k (omega arith) in
    reads_at m (a + k) ((a + k) % span) r (s.same ∙ e) refl ∙ rw
    (h, inside ((a + k) % span) (size_of r) (omega (arith, s.within))) refl)

heap_size : (r : Region) → is_heap r ≡ true → size_of r ≡ longest
heap_size Data e = absurd (false≢true e)
heap_size Properties e = absurd (false≢true e)
heap_size Instances e = absurd (false≢true e)
heap_size Heap e = refl
heap_size Scratch e = absurd (false≢true e)
heap_size Image e = absurd (false≢true e)

-- the numbers of the regions
pub numbered : (n : ℕ) (r : Region) → region_numbered n ≡ Some r → (1 ≤ n) × (n ≤ 6)
numbered n r e = grind (arith, common_steps)

pub heap_number : (n : ℕ) (r : Region) → region_numbered n ≡ Some r → is_heap r ≡ true → n ≡ 4
heap_number n r e h = grind (arith, common_steps)

-- a range that can be read stands in a region
pub range_placed : (m : DataSpace) (a n : ℕ) → are_readable m a n ≡ true → 0 < n → IsPlaced a n
range_placed m a n e some = go (region_of a) refl
  where
    go : (o : Option Region) → region_of a ≡ o → IsPlaced a n
    go None f = absurd (false≢true (sym (nowhere m a n f some) ∙ e))
    go (Some r) f =
        let p = numbered (a / span) r f in
        let small : size_of r ≤ longest = size_bound r in
        elim (cases_lt (size_of r) (a % span + n)) [
          | inl l ↦ absurd (false≢true (sym (outside m a n r f some l) ∙ e))
          | inr l ↦ record { some = p.0; last = p.1; within = omega arith }
        ]
