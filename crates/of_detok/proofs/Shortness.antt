-- At most a byte more is taken of an image than there is.
use Rattle.std.proofs.Common.{◌≡◌, ℕ, zero, suc, ◌+◌, ◌-◌, ◌<◌, ◌≤◌, List, [], ◌∷◌, length, take, drop}
use Rattle.std.proofs.Common.{slice_index, slice_range, Option, Some, None, Bool, true}
use Rattle.std.proofs.Common.{false, cond, nat_eq, nat_lt, refl, arith}
use Rattle.std.proofs.lemmas.List.{length-append, length-drop, length-take}
use Rattle.std.proofs.lemmas.Bool.Decides.{nat_tests}
use Rattle.of_stream.specs.declared.fault.StreamFault.{StreamFault}
use Rattle.of_stream.specs.declared.fault.StreamFault.TheVariants.{Short as TooShort}
use Rattle.of_stream.specs.declared.stream.OffsetSize.{OffsetSize}
use Rattle.of_stream.specs.Decoding.{Token, TokenStandsAlone, token_from}
use Rattle.of_stream.specs.Image.{first_size, header_fault, start_fault}
use Rattle.of_stream.specs.Sizes.{is_end, size_behind}
use Rattle.of_detok.specs.Definitions.{Taken, bytes_before, definitions_if, ended, is_open_behind, makes_word, stands}
use Rattle.of_detok.specs.Definitions.{taken, taken_behind, taken_by, taken_from}
use Rattle.of_detok.proofs.Laid.{rises}

taken_if : (t u : Bool) (own : List ℕ) → 0 < length own
    → length (cond t own (cond u (0xbb ∷ []) [])) ≤ length own
taken_if true u own h = omega arith
taken_if false true own h = omega (arith, h)
taken_if false false own h = omega arith

named_if : (b : Bool) (n : ℕ) (own : List ℕ) → 0 < length own
    → length (cond b (0xca ∷ drop 1 own) (cond (stands n) own (cond (makes_word n) (0xbb ∷ []) []))) ≤ length own
named_if true n own h = omega (arith, h, length-drop 1 own)
named_if false n own h = taken_if (stands n) (makes_word n) own h

taken_short : (o : Bool) (n : ℕ) (own : List ℕ) → 0 < length own → length (taken o n own) ≤ length own
taken_short true n own h = omega arith
taken_short false n own h = named_if (nat_eq n 0x0b6) n own h

abbrev Short : List ℕ → ℕ → Taken → Type 0
Short image position r = length r.0 ≤ length image - position + 1

short_if : (t : Bool) (image own : List ℕ) (p q : ℕ) (next : Taken) → p < q → q ≤ length image
    → length own ≤ q - p → Short image q next → Short image p (cond t (ended None) (bytes_before own next))
short_if true image own p q next up fits few s = omega arith
short_if false image own p q next up fits few s = omega (arith, up, fits, few, s, length-append own next.0)

short_by : TokenStandsAlone → (image : List ℕ) (o : Bool) (p : ℕ) (size : OffsetSize) (read : Option (Token × ℕ))
    (next : Bool → ℕ → OffsetSize → Taken) → token_from image p size ≡ read
    → ((b : Bool) (q : ℕ) (s : OffsetSize) → Short image q (next b q s))
    → Short image p (taken_by image o p size read next)
short_by law image o p size None next e h = omega arith
short_by law image o p size (Some r) next e h =
    let up = rises law image p size r e in
    let own = slice_range image p r.1 in
    let long : length own ≡ r.1 - p =
    omega (arith, up.0, up.1, length-take (r.1 - p) (drop p image), length-drop p image) in
    let few : length (taken o r.0.code.0 own) ≤ r.1 - p =
    let some : 0 < length own = omega (arith, long, up.0) in
    let most = taken_short o r.0.code.0 own some in omega (arith, most, long) in
    short_if (is_end r.0.code.0) image (taken o r.0.code.0 own) p r.1 _ up.0 up.1 few
    (h (is_open_behind o r.0.code.0) r.1 (size_behind r.0.code.0 size))

short_from : TokenStandsAlone → (image : List ℕ) (n : ℕ) (o : Bool) (p : ℕ) (size : OffsetSize)
    → Short image p (taken_from image n o p size)
short_from law image zero o p size = omega arith
short_from law image (suc n) o p size =
    short_by law image o p size (token_from image p size) (taken_from image n) refl
    (λ b q s. short_from law image n b q s)

long_by : (t : Bool) (image : List ℕ) (f : Option StreamFault) → nat_lt (length image) 8 ≡ t
    → cond t (Some TooShort) f ≡ None → 8 ≤ length image
long_by true image f e h = absurd cc
long_by false image f e h = grind (arith, nat_tests, e)

-- of a whole image
pub short_all : TokenStandsAlone → (image : List ℕ) (f : Option StreamFault) → header_fault image ≡ f
    → length (definitions_if image f).0 ≤ length image + 1
unfolding header_fault
short_all law image (Some f) h = omega arith
short_all law image None h =
    let long : 8 ≤ length image = long_by (nat_lt (length image) 8) image (start_fault (slice_index image 0)) refl h in
    let behind = short_from law image (length image) false 8 (first_size image) in
    omega (arith, long, behind, length-take 8 image, length-append (take 8 image) (taken_behind image).0)
