-- The token table: how it is made and cleared, and that it is a finite map.
use Rattle.std.proofs.Common.{◌≡◌, ℕ, zero, suc, ◌+◌, ◌<◌, List, [], ◌∷◌, ◌++◌, length, map, set, get_or}
use Rattle.std.proofs.Common.{Some, nat_eq, false, if◌then◌else◌, refl, sym, ap, ◌∙◌, arith}
use Rattle.std.proofs.lemmas.Bool.Decides.{nat_tests}
use Rattle.of_fcodes.specs.declared.token_table.TokenEntry.{TokenEntry}
use Rattle.of_fcodes.specs.Tokens.{Table, entry_in, assigned, unless_named, cleared, first_entry, first_entries}
use Rattle.of_fcodes.specs.Tokens.{first_table, TableIsMap}

pub no_entries : first_entries 0 0 ≡ []
unfolding first_entries
no_entries = refl

pub all_entries : first_table ≡ first_entries 0 4096
unfolding first_table
all_entries = refl

-- one entry more
entries_more : (n count k : ℕ) → k ≡ n + count →
    first_entries n count ++ first_entry k ∷ [] ≡ first_entries n (suc count)
unfolding first_entries
entries_more n zero k e = let same : k ≡ n = omega (arith, e) in ap (λ m. first_entry m ∷ []) same
entries_more n (suc count) k e = ap (λ t. first_entry n ∷ t) (entries_more (suc n) count k (omega (arith, e)))

pub entries_next : (count : ℕ) → first_entries 0 (count + 1) ≡ first_entries 0 count ++ first_entry count ∷ []
entries_next count =
    let next : count + 1 ≡ suc count = omega arith in
    ap (first_entries 0) next ∙ sym (entries_more 0 count count (omega arith))

-- a list with f applied to its first elements
abbrev pub mapped_to : {X : Type 0} → (X → X) → ℕ → List X → List X
mapped_to f zero xs = xs
mapped_to f (suc n) [] = []
mapped_to f (suc n) (x ∷ xs) = f x ∷ mapped_to f n xs

mapped_next : {X : Type 0} (f : X → X) (n : ℕ) (xs : List X) (d : X) → n < length xs →
    set (mapped_to f n xs) n (f (get_or (mapped_to f n xs) n d)) ≡ mapped_to f (suc n) xs
mapped_next f zero [] d h = absurd (omega arith)
mapped_next f zero (x ∷ xs) d h = refl
mapped_next f (suc n) [] d h = absurd (omega arith)
mapped_next f (suc n) (x ∷ xs) d h = ap (λ ys. f x ∷ ys) (mapped_next f n xs d (omega arith))

pub mapped_more : {X : Type 0} (f : X → X) (n : ℕ) (xs ys : List X) (d y : X) → n < length xs → ys ≡ mapped_to f n xs →
    y ≡ f (get_or ys n d) → set ys n y ≡ mapped_to f (n + 1) xs
mapped_more f n xs ys d y h e g =
    let next : n + 1 ≡ suc n = omega arith in
    rw (g, e, next) (mapped_next f n xs d h)

pub mapped_all : {X : Type 0} (f : X → X) (n : ℕ) (xs : List X) → n ≡ length xs → mapped_to f n xs ≡ map f xs
mapped_all f n xs e = ap (λ k. mapped_to f k xs) e ∙ whole f xs
  where
    whole : {X : Type 0} (f : X → X) (xs : List X) → mapped_to f (length xs) xs ≡ map f xs
    whole f [] = refl
    whole f (x ∷ xs) = ap (λ ys. f x ∷ ys) (whole f xs)

entry_from : (n count k m : ℕ) → k < count → m ≡ n + k → entry_in (first_entries n count) k ≡ first_entry m
unfolding first_entries
entry_from n zero k m h e = absurd (omega arith)
entry_from n (suc count) zero m h e = let same : n ≡ m = omega (arith, e) in ap first_entry same
entry_from n (suc count) (suc k) m h e = entry_from (suc n) count k m (omega arith) (omega (arith, e))

first_found : (n : ℕ) → n < 4096 → entry_in first_table n ≡ first_entry n
first_found n h = ap (λ t. entry_in t n) all_entries ∙ entry_from 0 4096 n n h (omega arith)

same_number : (n m : ℕ) → nat_eq (suc m) (suc n) ≡ nat_eq m n
same_number n m = grind (arith, nat_tests)

found_assigned : (t : Table) (n m : ℕ) (entry : TokenEntry) → n < length t →
    entry_in (assigned t n entry) m ≡ (if nat_eq m n then Some entry else entry_in t m)
found_assigned [] n m entry h = absurd (omega arith)
found_assigned (x ∷ t) zero zero entry h = refl
found_assigned (x ∷ t) zero (suc m) entry h =
    let other : nat_eq (suc m) 0 ≡ false = grind (arith, nat_tests) in rw other refl
found_assigned (x ∷ t) (suc n) zero entry h =
    let other : nat_eq 0 (suc n) ≡ false = grind (arith, nat_tests) in rw other refl
found_assigned (x ∷ t) (suc n) (suc m) entry h = rw (same_number n m) (found_assigned t n m entry (omega arith))

found_cleared : (t : Table) (xt n : ℕ) → entry_in (cleared xt t) n ≡ unless_named xt (entry_in t n)
found_cleared [] xt n = refl
found_cleared (x ∷ t) xt zero = refl
found_cleared (x ∷ t) xt (suc n) = found_cleared t xt n

pub table_is_map : TableIsMap
table_is_map = record { first = first_found; assigned_entry = found_assigned; cleared_entry = found_cleared }
