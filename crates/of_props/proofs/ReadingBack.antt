-- What was encoded decodes to the same.
use Rattle.std.proofs.Common.{◌≡◌, ℕ, suc, ◌+◌, ◌-◌, ◌*◌, ◌^◌, ◌%◌, ◌<◌, ◌≤◌, nat_lt, false}
use Rattle.std.proofs.Common.{List, [], ◌∷◌, ◌++◌, length, Result, Ok}
use Rattle.std.proofs.Common.{refl, ap, sym, ◌∙◌, arith, length-append}
use Rattle.std.proofs.lemmas.Bool.Decides.{nat_tests}
use Rattle.std.proofs.lemmas.List.{append-nil}
use Rattle.std.proofs.Math.Nat.{mod-eq_of_lt}
use Rattle.byteorder.specs.Endian.{big_bytes, big_number}
use Rattle.byteorder.specs.Numbers.{big_number-reads_back, length-bytes_high_first}
use Rattle.of_cells.specs.declared.cells.Cell.{Cell}
use Rattle.of_memory.specs.Regions.{data_limit}
use Rattle.of_memory.specs.DataSpace.{DataSpace, IsSound}
use Rattle.of_memory.specs.RangeLaws.{WritesJoin}
use Rattle.of_props.specs.Arrays.{behind, joined}
use Rattle.of_props.specs.Encoding.{encoded, int_encoded, phys_bytes, phys_encoded}
use Rattle.of_props.specs.Decoding.{cells_in, int_decoded, int_in, phys_decoded, phys_in}
use Rattle.of_props.specs.RoundTrips.{AreCells, CellsReadBack, IntsReadBack, end_of, of_joined}
use Rattle.of_props.specs.declared.arrays.Array.{Array}
use Rattle.of_props.specs.declared.fault.PropFault.{PropFault}
use Rattle.of_props.proofs.Encoded.{array, are_joined, bytes_read_back, is_encoded}

lt_false : (a b : ℕ) → b ≤ a → nat_lt a b ≡ false
lt_false a b l = grind (arith, nat_tests)

-- what follows the first of two arrays
pub next_array : (h n k : ℕ) → h + n + k ≤ data_limit → behind (array h (n + k)) n ≡ array (h + n) k
next_array h n k fits =
    let a : n % 2 ^ 32 ≡ n = mod-eq_of_lt (omega arith) in
    let b : (h + n) % 2 ^ 32 ≡ h + n = mod-eq_of_lt (omega arith) in
    let c : n + k - n ≡ k = omega arith in
    rw (a, b, c) refl

pub no_array : (h n : ℕ) → h + n ≤ data_limit → behind (array h n) n ≡ end_of (array h n)
no_array h n fits =
    let a : n % 2 ^ 32 ≡ n = mod-eq_of_lt (omega arith) in
    let c : n - n ≡ 0 = omega arith in
    rw (a, c) refl

-- numbers
int_back :
    (x : Cell) (ys : List ℕ) (p : Array) → x.0 < 2 ^ 32 → int_in p (big_bytes 4 x.0 ++ ys) ≡ Ok (x, behind p 4)
int_back x ys p l =
    let many : length (big_bytes 4 x.0) ≡ 4 = length-bytes_high_first 4 x.0 in
    let enough = lt_false (length (big_bytes 4 x.0 ++ ys)) 4 (rw length-append (omega arith)) in
    let value : big_number 4 (big_bytes 4 x.0 ++ ys) ≡ x.0 = big_number-reads_back 4 x.0 ys (omega arith) in
    rw (enough, value) refl

-- the two parts of what is decoded
same_rest : {A : Type 0} (x : A) (p q : Array) → p ≡ q → ◌≡◌ {A = Result (A × Array) PropFault} (Ok (x, p)) (Ok (x, q))
same_rest x p q e = rw e refl

pub ints_read_back : WritesJoin → IntsReadBack
ints_read_back join = record { alone = alone; first = first }
  where
    alone :
        (m after : DataSpace) (x : Cell) (p : Array) → IsSound m → x.0 < 2 ^ 32 → int_encoded m x ≡ Ok (p, after)
        → int_decoded after p ≡ Ok (x, end_of p)
    alone m after x p sound l e =
        let is = is_encoded m after (big_bytes 4 x.0) p e in
        let bytes = bytes_read_back join m after (big_bytes 4 x.0) p sound e in
        let rest : behind p 4 ≡ end_of p = rw is.array_is (no_array m.here 4 is.fits) in
        rw bytes (int_back x [] p l ∙ same_rest x (behind p 4) (end_of p) rest)

    first :
        (m between after : DataSpace) (x : Cell) (ys : List ℕ) (p q : Array) → IsSound m → x.0 < 2 ^ 32
        → int_encoded m x ≡ Ok (p, between) → encoded between ys ≡ Ok (q, after)
        → of_joined (joined p q) (int_decoded after) ≡ Ok (x, q)
    first m between after x ys p q sound l e f =
        let j = are_joined join m between after (big_bytes 4 x.0) ys p q sound e f in
        let r = array m.here (4 + length ys) in
        let rest : behind r 4 ≡ q = next_array m.here 4 (length ys) j.fits ∙ sym j.second in
        rw (j.joined_is, j.bytes) (int_back x ys r l ∙ same_rest x (behind r 4) q rest)

-- physical addresses
head_cell : (c : Cell) (cs : List Cell) → AreCells (c ∷ cs) → c.0 < 2 ^ 32
head_cell c cs h = h 0 c (omega arith)

tail_cells : (c : Cell) (cs : List Cell) → AreCells (c ∷ cs) → AreCells cs
tail_cells c cs h k d l = h (suc k) d (omega arith)

cells_back : (cells : List Cell) (ys : List ℕ) → AreCells cells
    → cells_in (length cells) (phys_bytes cells ++ ys) ≡ cells
cells_back [] ys h = refl
cells_back (c ∷ cs) ys h =
    let value : big_number 4 (big_bytes 4 c.0 ++ (phys_bytes cs ++ ys)) ≡ c.0 =
    big_number-reads_back 4 c.0 (phys_bytes cs ++ ys) (head_cell c cs h) in
    ap (λ (v : ℕ). record { 0 = v } ∷ cells_in (length cs) (phys_bytes cs ++ ys)) value
    ∙ ap (λ (r : List Cell). c ∷ r) (cells_back cs ys (tail_cells c cs h))

phys_length : (cells : List Cell) → length (phys_bytes cells) ≡ 4 * length cells
phys_length [] = refl
phys_length (c ∷ cs) = let e = phys_length cs in omega (arith, e)

phys_back :
    (cells : List Cell) (ys : List ℕ) (p : Array) → AreCells cells
    → phys_in (length cells) p (phys_bytes cells ++ ys) ≡ Ok (cells, behind p (4 * length cells))
phys_back cells ys p h =
    let many = phys_length cells in
    let enough = lt_false (length (phys_bytes cells ++ ys)) (4 * length cells) (rw length-append (omega arith)) in
    rw (enough, cells_back cells ys h) refl

pub cells_read_back : WritesJoin → CellsReadBack
cells_read_back join = record { alone = alone; first = first }
  where
    alone :
        (m after : DataSpace) (cells : List Cell) (p : Array) → IsSound m → AreCells cells
        → phys_encoded m cells ≡ Ok (p, after) → phys_decoded after p (length cells) ≡ Ok (cells, end_of p)
    alone m after cells p sound h e =
        let is = is_encoded m after (phys_bytes cells) p e in
        let bytes = bytes_read_back join m after (phys_bytes cells) p sound e in
        let n = 4 * length cells in
        let many : length (phys_bytes cells) ≡ n = phys_length cells in
        let rest : behind p n ≡ end_of p =
        rw (is.array_is, many) (no_array m.here n (omega (arith, is.fits))) in
        let all : phys_bytes cells ++ [] ≡ phys_bytes cells = append-nil (phys_bytes cells) in
        rw bytes (rw all at (phys_back cells [] p h) ∙ same_rest cells (behind p n) (end_of p) rest)

    first :
        (m between after : DataSpace) (cells : List Cell) (ys : List ℕ) (p q : Array) → IsSound m → AreCells cells
        → phys_encoded m cells ≡ Ok (p, between) → encoded between ys ≡ Ok (q, after)
        → of_joined (joined p q) (λ r. phys_decoded after r (length cells)) ≡ Ok (cells, q)
    first m between after cells ys p q sound h e f =
        let j = are_joined join m between after (phys_bytes cells) ys p q sound e f in
        let k = length (phys_bytes cells) in
        let r = array m.here (k + length ys) in
        let many : k ≡ 4 * length cells = phys_length cells in
        let rest : behind r (4 * length cells) ≡ q =
        rw (← many) (next_array m.here k (length ys) j.fits ∙ sym j.second) in
        rw (j.joined_is, j.bytes) (phys_back cells ys r h ∙ same_rest cells (behind r (4 * length cells)) q rest)
