-- A step of the loop over the tokens of which words are taken.
use Rattle.std.proofs.Common.{◌≡◌, ℕ, suc, ◌+◌, ◌-◌, ◌<◌, List, [], ◌∷◌, ◌++◌, slice_range, Some, None, Bool}
use Rattle.std.proofs.Common.{true, false, sym, ap, arith, append_assoc, refl}
use Rattle.of_stream.specs.declared.fault.StreamFault.TheVariants.{Ended}
use Rattle.of_stream.specs.declared.stream.OffsetSize.{OffsetSize}
use Rattle.of_stream.specs.Decoding.{Token, token_from}
use Rattle.of_stream.specs.Sizes.{is_end, size_behind}
use Rattle.of_detok.specs.Definitions.{Taken, bytes_before, is_open_behind, taken, taken_from}

pub joined : (a b : List ℕ) (r : Taken) → bytes_before a (bytes_before b r) ≡ bytes_before (a ++ b) r
joined a b r = ap (λ xs. (xs, r.1)) (sym (append_assoc a b r.0))

-- one more token
pub taken_more : (out image : List ℕ) (n k : ℕ) (is_open : Bool) (position : ℕ) (size : OffsetSize) (r : Token × ℕ)
    → k < n → token_from image position size ≡ Some r → is_end r.0.code.0 ≡ false
    → bytes_before out (taken_from image (n - k) is_open position size)
    ≡ bytes_before (out ++ taken is_open r.0.code.0 (slice_range image position r.1))
    (taken_from image (n - (k + 1)) (is_open_behind is_open r.0.code.0) r.1 (size_behind r.0.code.0 size))
taken_more out image n k is_open position size r l h e =
    let less : n - k ≡ suc (n - (k + 1)) = omega arith in
    rw (less, h, e) (joined out _ _)

-- the end token
pub taken_end : (out image : List ℕ) (n k : ℕ) (is_open : Bool) (position : ℕ) (size : OffsetSize) (r : Token × ℕ)
    → k < n → token_from image position size ≡ Some r → is_end r.0.code.0 ≡ true
    → bytes_before out (taken_from image (n - k) is_open position size) ≡ (out ++ 0x00 ∷ [], None)
taken_end out image n k is_open position size r l h e =
    let less : n - k ≡ suc (n - (k + 1)) = omega arith in
    rw (less, h, e) refl

-- no token
pub taken_cut : (out image : List ℕ) (n k : ℕ) (is_open : Bool) (position : ℕ) (size : OffsetSize) → k < n
    → token_from image position size ≡ None
    → bytes_before out (taken_from image (n - k) is_open position size) ≡ (out ++ 0x00 ∷ [], Some (Ended position))
taken_cut out image n k is_open position size l h =
    let less : n - k ≡ suc (n - (k + 1)) = omega arith in
    rw (less, h) refl
