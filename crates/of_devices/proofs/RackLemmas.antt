-- The first device of a rack that takes a question.
use Rattle.std.proofs.Common.{◌≡◌, ◌∙◌, ℕ, ◌+◌, ◌<◌, ◌≤◌, zero, suc, true, false, List, [], ◌∷◌, length, map}
use Rattle.std.proofs.Common.{slice_index_or, slice_set, add-one, refl, sym, ap, arith}
use Rattle.of_asking.specs.declared.query.Query.{Query}
use Rattle.of_asking.specs.declared.query.Answer.{Answer}
use Rattle.of_devices.specs.Racks.{Meant, NoneBefore, rack_answer, rack_meant, rack_told, told, told_all, untaken}

none_begins : (ds : List Meant) (q : Query) → NoneBefore ds q 0
none_begins [] q = tt
none_begins (d ∷ ds) q = tt

index_same : {B : Type 0} (xs : List B) (i : ℕ) (x y : B) → i < length xs
    → slice_index_or xs i x ≡ slice_index_or xs i y
index_same [] i x y less = absurd (omega (less, arith))
index_same (z ∷ xs) zero x y less = refl
index_same (z ∷ xs) (suc i) x y less = let more : i < length xs = omega (less, arith) in index_same xs i x y more

-- devices of a type, and what each means
module _ {B : Type 0} (f : B → Meant) (q : Query) where
  none_suc : (xs : List B) (i : ℕ) (x : B) → NoneBefore (map f xs) q i → (f (slice_index_or xs i x)).takes q ≡ false
      → NoneBefore (map f xs) q (suc i)
  none_suc [] i x none miss = tt
  none_suc (y ∷ xs) zero x none miss = (miss, none_begins (map f xs) q)
  none_suc (y ∷ xs) (suc i) x none miss = (none.0, none_suc xs i x none.1 miss)

  -- ---- the first that takes it

  hit_answer : (xs : List B) (i : ℕ) (x : B) → i < length xs → NoneBefore (map f xs) q i
      → (f (slice_index_or xs i x)).takes q ≡ true
      → rack_answer (map f xs) q ≡ (f (slice_index_or xs i x)).meaning [] q
  unfolding rack_answer
  hit_answer [] i x less none hit = absurd (omega (less, arith))
  hit_answer (y ∷ xs) zero x less none hit = rw hit refl
  hit_answer (y ∷ xs) (suc i) x less none hit =
      let more : i < length xs = omega (less, arith) in
      rw none.0 (hit_answer xs i x more none.1 hit)

  hit_told : (xs : List B) (i : ℕ) (x y : B) → i < length xs → NoneBefore (map f xs) q i
      → (f (slice_index_or xs i x)).takes q ≡ true → f y ≡ told q (f (slice_index_or xs i x))
      → map f (slice_set xs i y) ≡ rack_told (map f xs) q
  unfolding rack_told
  hit_told [] i x y less none hit e = absurd (omega (less, arith))
  hit_told (z ∷ xs) zero x y less none hit e = rw hit (ap (λ d. d ∷ map f xs) e)
  hit_told (z ∷ xs) (suc i) x y less none hit e =
      let more : i < length xs = omega (less, arith) in
      rw none.0 (ap (λ ds. f z ∷ ds) (hit_told xs i x y more none.1 hit e))

  -- ---- where none takes it

  pub end_answer : (xs : List B) (i : ℕ) → length xs ≤ i → NoneBefore (map f xs) q i
      → rack_answer (map f xs) q ≡ untaken q
  unfolding rack_answer
  end_answer [] i all none = refl
  end_answer (x ∷ xs) zero all none = absurd (omega (all, arith))
  end_answer (x ∷ xs) (suc i) all none =
      let more : length xs ≤ i = omega (all, arith) in
      rw none.0 (end_answer xs i more none.1)

  pub end_told : (xs : List B) (i : ℕ) → length xs ≤ i → NoneBefore (map f xs) q i
      → map f xs ≡ rack_told (map f xs) q
  unfolding rack_told
  end_told [] i all none = refl
  end_told (x ∷ xs) zero all none = absurd (omega (all, arith))
  end_told (x ∷ xs) (suc i) all none =
      let more : length xs ≤ i = omega (all, arith) in
      rw none.0 (ap (λ ds. f x ∷ ds) (end_told xs i more none.1))

  -- ---- as a loop over places meets them: x was read, y is written

  pub met_answer : (xs : List B) (i : ℕ) (x y : B) → i < length xs → NoneBefore (map f xs) q i
      → x ≡ slice_index_or xs i x → y ≡ slice_index_or xs i y → (f x).takes q ≡ true
      → (f y).meaning [] q ≡ rack_answer (map f xs) q
  met_answer xs i x y less none ex ey hit =
      let same : y ≡ slice_index_or xs i x = ey ∙ index_same xs i y x less in
      ap (λ b. (f b).meaning [] q) same
      ∙ sym (hit_answer xs i x less none (ap (λ b. (f b).takes q) (sym ex) ∙ hit))

  pub met_told : (xs : List B) (i : ℕ) (x y z : B) → i < length xs → NoneBefore (map f xs) q i
      → x ≡ slice_index_or xs i x → y ≡ slice_index_or xs i y → (f x).takes q ≡ true → f z ≡ told q (f y)
      → map f (slice_set xs i z) ≡ rack_told (map f xs) q
  met_told xs i x y z less none ex ey hit e =
      let same : y ≡ slice_index_or xs i x = ey ∙ index_same xs i y x less in
      hit_told xs i x z less none (ap (λ b. (f b).takes q) (sym ex) ∙ hit) (e ∙ ap (λ b. told q (f b)) same)

  pub met_none : (xs : List B) (i : ℕ) (x : B) → NoneBefore (map f xs) q i → x ≡ slice_index_or xs i x
      → (f x).takes q ≡ false → NoneBefore (map f xs) q (i + 1)
  met_none xs i x none ex miss =
      rw add-one (none_suc xs i x none (ap (λ b. (f b).takes q) (sym ex) ∙ miss))

-- ---- a rack as one device

pub one_answer : (ds : List Meant) (q : Query) (x : Answer) → x ≡ rack_answer ds q
    → x ≡ (rack_meant ds).meaning [] q
unfolding told_all
one_answer ds q x e = e

pub one_told : (ds es : List Meant) (q : Query) → es ≡ rack_told ds q → rack_meant es ≡ told q (rack_meant ds)
unfolding told_all
one_told ds es q e = ap rack_meant e
