-- What several writes have appended.
use Rattle.std.proofs.Common.{◌≡◌, ℕ, suc, zero, ◌+◌, ◌++◌, ◌-◌, List, [], ◌∷◌, Option, length, take, drop, subst, refl}
use Rattle.std.proofs.Common.{sym, ap, ◌∙◌, arith, append-nil}
use Rattle.of_files.specs.Messages.{AppendsPart}
use Rattle.std.specs.Io.KnownBytes.{Appends}
use Rattle.std.proofs.Math.Seq.{take-length}
use Rattle.std.proofs.lemmas.List.{length-drop}
use Rattle.std.proofs.KnownBytes.{Appends-nil, Appends-trans}

take-sum : (m n : ℕ) (xs : List ℕ) → take m xs ++ take n (drop m xs) ≡ take (m + n) xs
take-sum zero n xs = let whole : 0 + n ≡ n = omega arith in rw whole refl
take-sum (suc m) zero [] = let whole : suc m + 0 ≡ suc m = omega arith in rw whole refl
take-sum (suc m) (suc n) [] = let whole : suc m + suc n ≡ suc (m + suc n) = omega arith in rw whole refl
take-sum (suc m) n (x ∷ xs) =
    let whole : suc m + n ≡ suc (m + n) = omega arith in
    rw whole (ap (λ ys. x ∷ ys) (take-sum m n xs))

-- the bytes that are left, as they were handed to the writer
left-handed : (bytes : List ℕ) (gone : ℕ) → take (length bytes - gone) (drop gone bytes) ≡ drop gone bytes
left-handed bytes gone = ap (λ k. take k (drop gone bytes)) (sym (length-drop gone bytes))
    ∙ take-length (drop gone bytes)

-- after the first bytes came some of the others
pub more_written : (a b c : Option (List ℕ)) (bytes : List ℕ) (gone n : ℕ) → Appends a b (take gone bytes)
    → Appends b c (take n (take (length bytes - gone) (drop gone bytes))) → Appends a c (take (gone + n) bytes)
more_written a b c bytes gone n p q =
    let some : Appends b c (take n (drop gone bytes)) =
    subst (λ xs. Appends b c (take n xs)) (left-handed bytes gone) q in
    subst (Appends a c) (take-sum gone n bytes) (Appends-trans a b c _ _ p some)

-- nothing came after the first bytes
pub none_written : (a b c : Option (List ℕ)) (bs more : List ℕ) (n : ℕ) → n ≡ 0 → Appends a b bs
    → Appends b c (take n more) → Appends a c bs
none_written a b c bs more n e p q =
    let none : Appends b c [] = subst (λ k. Appends b c (take k more)) e q in
    subst (Appends a c) (append-nil bs) (Appends-trans a b c bs [] p none)

-- of a line of which nothing went out, the first bytes did
pub none_said : (known : Option (List ℕ)) (line : List ℕ) → AppendsPart known known line
none_said known line = (0, Appends-nil known)
