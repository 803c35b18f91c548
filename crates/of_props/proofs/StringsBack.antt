-- A string that was encoded decodes to the same bytes.
use Rattle.std.proofs.Common.{◌≡◌, ◌≢◌, ℕ, suc, ◌+◌, ◌≤◌, eqb, nat_lt, Bool, true, false}
use Rattle.std.proofs.Common.{List, [], ◌∷◌, ◌++◌, length, take, drop, Some, None, Result, Ok, Err, if◌then◌else◌}
use Rattle.std.proofs.Common.{refl, ap, sym, ◌∙◌, arith, length-append, append_assoc, inl, inr}
use Rattle.std.specs.List.{position, position_or_len}
use Rattle.std.proofs.lemmas.Bool.{cases_eq, lt-ltb}
use Rattle.std.proofs.lemmas.Bool.Decides.{nat_tests}
use Rattle.std.proofs.lemmas.List.{length-take, length-drop, take-take}
use Rattle.std.proofs.Math.Seq.{take-append_seam}
use Rattle.of_cells.specs.declared.cells.Cell.{Cell}
use Rattle.of_memory.specs.Regions.{place_of}
use Rattle.of_memory.specs.DataSpace.{DataSpace, IsSound, bytes_from}
use Rattle.of_memory.specs.Access.{are_readable, read_fault}
use Rattle.of_memory.specs.RangeLaws.{RangesArePlaced, WritesJoin}
use Rattle.of_memory.specs.declared.width.Width.TheVariants.{One}
use Rattle.of_props.specs.Arrays.{behind, bytes_of, front, joined}
use Rattle.of_props.specs.Encoding.{encoded, string_encoded}
use Rattle.of_props.specs.Decoding.{string_decoded, string_in}
use Rattle.of_props.specs.RoundTrips.{IsText, StringsReadBack, end_of, of_joined}
use Rattle.of_props.specs.declared.arrays.Array.{Array}
use Rattle.of_props.specs.declared.fault.PropFault.{PropFault}
use Rattle.of_props.specs.declared.fault.PropFault.TheVariants.{Address}
use Rattle.of_props.proofs.Readable.{byte_fault}
use Rattle.of_props.proofs.ReadingBack.{next_array, no_array}
use Rattle.of_props.proofs.Encoded.{array, are_joined, bytes_if, bytes_read_back, data_open, is_encoded, put_bytes}

not_zero : (x : ℕ) → x ≢ 0 → eqb x 0 ≡ false
not_zero x l = grind (arith, nat_tests)

-- the first zero byte stands behind the text
text_length : (s ys : List ℕ) → IsText s → position_or_len (λ b. eqb b 0) (s ++ 0 ∷ ys) ≡ length s
text_length [] ys h = refl
text_length (x ∷ s) ys h =
    let head : eqb x 0 ≡ false = not_zero x (h 0 0 (omega arith)) in
    let rest = text_length s ys (λ k d l. h (suc k) d (omega arith)) in
    rw (head, rest) (omega arith)

text_place : (s ys : List ℕ) → IsText s → position (λ b. eqb b 0) (s ++ 0 ∷ ys) ≡ Some (length s)
text_place s ys h =
    let within : nat_lt (length s) (length (s ++ 0 ∷ ys)) ≡ true =
    lt-ltb (length s) (length (s ++ 0 ∷ ys)) (rw length-append (omega arith)) in
    rw (text_length s ys h, within) refl

string_back :
    (s ys : List ℕ) (p : Array) → IsText s
    → string_in p ((s ++ 0 ∷ []) ++ ys) ≡ Ok (front p (length s), behind p (length s + 1))
string_back s ys p h = rw (append_assoc, text_place s ys h) refl

-- what the encoding of bytes of memory shows
record IsCopied (m after : DataSpace) (a n : Cell) (p : Array) : Type 0 where
  readable : are_readable m a.0 n.0 ≡ true
  encoded_is : encoded m (bytes_from m a.0 n.0 ++ 0 ∷ []) ≡ Ok (p, after)

copied_if :
    (t : Bool) (e : Result (Array × DataSpace) PropFault) (x : Array × DataSpace)
    → (if t then e else Err Address) ≡ Ok x
    → (t ≡ true) × (e ≡ Ok x)
copied_if true e x h = (refl, h)
copied_if false e x h = cc

is_copied : (m after : DataSpace) (a n : Cell) (p : Array) → string_encoded m a n ≡ Ok (p, after)
    → IsCopied m after a n p
is_copied m after a n p e =
    let both = copied_if (are_readable m a.0 n.0) (encoded m (bytes_from m a.0 n.0 ++ 0 ∷ [])) (p, after) e in
    record { readable = both.0; encoded_is = both.1 }

-- as many bytes are read as were asked for
pub many_bytes :
    RangesArePlaced → (m : DataSpace) (a n : ℕ) → IsSound m → are_readable m a n ≡ true → length (bytes_from m a n) ≡ n
many_bytes placed m a n sound open_ =
    elim (cases_eq n 0) [
      | inl z ↦ rw z refl
      | inr some ↦
          let none : read_fault m a n One ≡ None = rw (byte_fault m a n, open_) refl in
          let at = placed.placed m a n One none (omega arith) in
          omega (
            arith,
            at.some,
            at.last,
            at.within,
            sound.bytes,
            length-take n (drop (place_of a) m.bytes),
            length-drop (place_of a) m.bytes,
          )
    ]

-- the first part of what is taken
first_part :
    (l s ys : List ℕ) (n k : ℕ) → length s ≡ n → n ≤ k → take k l ≡ s ++ ys → take n l ≡ s
first_part l s ys n k many less e =
    sym (take-take n k l less) ∙ (ap (λ (xs : List ℕ). take n xs) e ∙ rw (← many) (take-append_seam s ys))

same_parts :
    (p q r s : Array) → p ≡ q → r ≡ s → ◌≡◌ {A = Result (Array × Array) PropFault} (Ok (p, r)) (Ok (q, s))
same_parts p q r s e f = rw (e, f) refl

pub strings_read_back : WritesJoin → RangesArePlaced → StringsReadBack
strings_read_back join placed = record { alone = alone; first = first; same = same }
  where
    alone :
        (m after : DataSpace) (a n : Cell) (p : Array) → IsSound m → IsText (bytes_from m a.0 n.0)
        → string_encoded m a n ≡ Ok (p, after) → string_decoded after p ≡ Ok (front p n.0, end_of p)
    alone m after a n p sound h e =
        let s = bytes_from m a.0 n.0 in
        let c = is_copied m after a n p e in
        let is = is_encoded m after (s ++ 0 ∷ []) p c.encoded_is in
        let bytes = bytes_read_back join m after (s ++ 0 ∷ []) p sound c.encoded_is in
        let many : length s ≡ n.0 = many_bytes placed m a.0 n.0 sound c.readable in
        let all : length (s ++ 0 ∷ []) ≡ length s + 1 = length-append s (0 ∷ []) in
        let rest : behind p (length s + 1) ≡ end_of p =
        rw (is.array_is, all) (no_array m.here (length s + 1) (omega (arith, is.fits))) in
        let text : front p (length s) ≡ front p n.0 = rw many refl in
        let back : string_in p (s ++ 0 ∷ []) ≡ Ok (front p (length s), behind p (length s + 1)) =
        rw (text_place s [] h) refl in
        rw bytes (back ∙ same_parts (front p (length s)) (front p n.0) (behind p (length s + 1)) (end_of p) text rest)

    first :
        (m between after : DataSpace) (a n : Cell) (ys : List ℕ) (p q : Array) → IsSound m
        → IsText (bytes_from m a.0 n.0) → string_encoded m a n ≡ Ok (p, between) → encoded between ys ≡ Ok (q, after)
        → of_joined (joined p q) (string_decoded after) ≡ Ok (front p n.0, q)
    first m between after a n ys p q sound h e f =
        let s = bytes_from m a.0 n.0 in
        let c = is_copied m between a n p e in
        let j = are_joined join m between after (s ++ 0 ∷ []) ys p q sound c.encoded_is f in
        let k = length (s ++ 0 ∷ []) in
        let r = array m.here (k + length ys) in
        let many : length s ≡ n.0 = many_bytes placed m a.0 n.0 sound c.readable in
        let all : k ≡ length s + 1 = length-append s (0 ∷ []) in
        let rest : behind r (length s + 1) ≡ q =
        rw (← all) (next_array m.here k (length ys) j.fits ∙ sym j.second) in
        let text : front r (length s) ≡ front p n.0 = rw (many, j.first) refl in
        rw (j.joined_is, j.bytes)
        (string_back s ys r h ∙ same_parts (front r (length s)) (front p n.0) (behind r (length s + 1)) q text rest)

    same :
        (m after : DataSpace) (a n : Cell) (p : Array) → IsSound m → string_encoded m a n ≡ Ok (p, after)
        → bytes_of after (front p n.0) ≡ Ok (bytes_from m a.0 n.0)
    same m after a n p sound e =
        let s = bytes_from m a.0 n.0 in
        let c = is_copied m after a n p e in
        let xs = s ++ 0 ∷ [] in
        let is = is_encoded m after xs p c.encoded_is in
        let many : length s ≡ n.0 = many_bytes placed m a.0 n.0 sound c.readable in
        let all : length xs ≡ length s + 1 = length-append s (0 ∷ []) in
        let whole : bytes_from after m.here (length xs) ≡ xs =
        rw is.after_is (put_bytes join m xs sound is.fits) in
        let part =
        first_part (drop (place_of m.here) after.bytes) s (0 ∷ []) n.0 (length xs) many (omega arith) whole in
        let readable = data_open after m.here n.0 sound.here_from (omega (arith, is.fits)) in
        rw is.array_is (bytes_if (are_readable after m.here n.0) (bytes_from after m.here n.0) s Address readable part)
