-- Device memory holds what is written.
use Rattle.std.proofs.Common.{◌≡◌, ◌∙◌, ◌⊎◌, inl, inr, ℕ, zero, suc, ◌+◌, ◌-◌, ◌*◌, ◌%◌, ◌^◌, ◌<◌, ◌≤◌, Bool}
use Rattle.std.proofs.Common.{true, false, ◌&&◌, nat_lt, List, [], ◌∷◌, ◌++◌, length, drop, get_or, fold, refl, sym}
use Rattle.std.proofs.Common.{ap, arith}
use Rattle.std.proofs.lemmas.Bool.{cases_lt}
use Rattle.std.proofs.lemmas.Grind.{common_steps}
use Rattle.std.proofs.lemmas.List.{get_or-drop, places, same_lists}
use Rattle.std.proofs.lemmas.List.Sums.{fold-append}
use Rattle.byteorder.specs.Endian.{big_bytes, big_from, big_number}
use Rattle.byteorder.specs.Numbers.{big_from-bytes, length-bytes_high_first}
use Rattle.of_cells.specs.declared.cells.Cell.{Cell}
use Rattle.of_cells.specs.Splitting.{IsCell}
use Rattle.of_memory.specs.DataSpace.{splice}
use Rattle.of_memory.specs.Width.{bytes_in}
use Rattle.of_memory.specs.declared.width.Width.{Width}
use Rattle.of_memory.specs.declared.width.Width.TheVariants.{One, Two, Four}
use Rattle.of_asking.specs.Devices.{cut}
use Rattle.of_asking.specs.declared.query.Answer.{Answer}
use Rattle.of_asking.specs.declared.query.Answer.TheVariants.{Value, Done, BusFault}
use Rattle.of_asking.specs.declared.query.Query.{Query}
use Rattle.of_asking.specs.declared.query.Query.TheVariants.{Read, Write, Peek, Poke, Key, KeyReady, Milliseconds}
use Rattle.of_asking.specs.declared.query.Query.TheVariants.{Wait}
use Rattle.of_devices.specs.Laws.{MemoryHolds, memory}
use Rattle.of_devices.specs.Memories.{addresses, memory_after, memory_answer, memory_written, number_in}
use Rattle.of_devices.specs.Ranges.{contains, meets, range_of}
use Rattle.of_devices.specs.Stored.{Stored}

-- what is left behind questions in two parts
parts : (m : Stored) (before behind : List Query) (q : Query)
    → (memory m).meaning (before ++ behind) q
    ≡ memory_answer (fold memory_after (fold memory_after m before) behind) q
parts m before behind q = ap (λ left. memory_answer left q) (fold-append memory_after m before behind)

-- ---- addresses

-- a range that a memory contains stands in its bytes
stands : (m : Stored) (w : Width) (a : Cell) → contains (addresses m) (range_of w a) ≡ true
    → (m.address.0 ≤ a.0) × (a.0 + bytes_in w ≤ m.address.0 + length m.bytes)
stands m w a e = (grind (arith, common_steps), grind (arith, common_steps))

splice_length : (xs ys : List ℕ) (i : ℕ) → i + length ys ≤ length xs → length (splice xs i ys) ≡ length xs
splice_length xs ys i fits = grind (arith, places)

written_addresses : (m : Stored) (w : Width) (a x : Cell) (t : Bool) → contains (addresses m) (range_of w a) ≡ t
    → addresses (memory_written w a x m) ≡ addresses m
written_addresses m w a x true e =
    let at = stands m w a e in
    let ys = big_bytes (bytes_in w) x.0 in
    let i = a.0 - m.address.0 in
    let many = length-bytes_high_first (bytes_in w) x.0 in
    let fits : i + length ys ≤ length m.bytes = omega (arith, at.0, at.1, many) in
    rw e (ap (λ (n : ℕ). record { address = m.address; length = n }) (splice_length m.bytes ys i fits))
written_addresses m w a x false e = rw e refl

step : (m : Stored) (q : Query) → addresses (memory_after m q) ≡ addresses m
step m (Read w a) = refl
step m (Write w a x) = written_addresses m w a x _ refl
step m (Peek w a) = refl
step m (Poke w a x) = written_addresses m w a x _ refl
step m Key = refl
step m KeyReady = refl
step m Milliseconds = refl
step m (Wait n) = refl

-- questions leave its addresses
same_addresses : (m : Stored) (qs : List Query) → addresses (fold memory_after m qs) ≡ addresses m
same_addresses m [] = refl
same_addresses m (q ∷ qs) = same_addresses (memory_after m q) qs ∙ step m q

-- ---- what was written

drop_splice : (xs ys : List ℕ) (i : ℕ) → i + length ys ≤ length xs
    → drop i (splice xs i ys) ≡ ys ++ drop (i + length ys) xs
drop_splice xs ys i fits = same_lists _ _ (grind (arith, places)) (λ k d h. grind (arith, places))

cut_number : (w : Width) (x : Cell) → IsCell x → x.0 % 256 ^ bytes_in w ≡ (cut w x).0
cut_number One x small = refl
cut_number Two x small = refl
cut_number Four x small = omega (arith, small)

reads_back : (m : Stored) (w : Width) (a x : Cell) → IsCell x → contains (addresses m) (range_of w a) ≡ true
    → number_in w a (memory_written w a x m) ≡ (cut w x).0
reads_back m w a x small e =
    let at = stands m w a e in
    let n = bytes_in w in
    let ys = big_bytes n x.0 in
    let i = a.0 - m.address.0 in
    let many = length-bytes_high_first n x.0 in
    let fits : i + length ys ≤ length m.bytes = omega (arith, at.0, at.1, many) in
    rw e (ap (big_number n) (drop_splice m.bytes ys i fits) ∙ big_from-bytes n x.0 _ ∙ cut_number w x small)

-- ---- what was not

-- a number in bytes that are the same
same_number : (i n : ℕ) (xs ys : List ℕ) → ((k : ℕ) → k < i + n → get_or xs k 0 ≡ get_or ys k 0)
    → big_from i n xs ≡ big_from i n ys
same_number i zero xs ys same = refl
same_number i (suc n) xs ys same =
    let byte = same i (omega arith) in
    let more = same_number (suc i) n xs ys (λ k less. same k (omega arith)) in
    rw (byte, more) refl

some_bytes : (w : Width) → 0 < bytes_in w
some_bytes One = omega arith
some_bytes Two = omega arith
some_bytes Four = omega arith

apart : (a b n k : ℕ) → (nat_lt a (b + k) && nat_lt b (a + n) && nat_lt 0 n && nat_lt 0 k) ≡ false → 0 < n → 0 < k
    → (a + n ≤ b) ⊎ (b + k ≤ a)
apart a b n k e some other = elim (cases_lt b (a + n)) [
  | inl less ↦ elim (cases_lt a (b + k)) [
    | inl both ↦ absurd (grind (arith, common_steps))
    | inr more ↦ inr more
  ]
  | inr more ↦ inl more
]

out_splice : (xs ys : List ℕ) (i j k n : ℕ) → i + length ys ≤ length xs → k < n → j + n ≤ length xs
    → (i + length ys ≤ j) ⊎ (j + n ≤ i) → get_or (drop j (splice xs i ys)) k 0 ≡ get_or (drop j xs) k 0
out_splice xs ys i j k n fits less within (inl behind) = grind (arith, places)
out_splice xs ys i j k n fits less within (inr before) = grind (arith, places)

kept : (m : Stored) (w v : Width) (a b x : Cell) (t : Bool)
    → contains (addresses m) (range_of w a) ≡ t → contains (addresses m) (range_of v b) ≡ true
    → meets (range_of w a) (range_of v b) ≡ false
    → number_in v b (memory_written w a x m) ≡ number_in v b m
kept m w v a b x false out_of_it takes clear = rw out_of_it refl
kept m w v a b x true in_it takes clear =
    let at = stands m w a in_it in
    let from = stands m v b takes in
    let many = length-bytes_high_first (bytes_in w) x.0 in
    let ys = big_bytes (bytes_in w) x.0 in
    let i = a.0 - m.address.0 in
    let j = b.0 - m.address.0 in
    let far = apart a.0 b.0 (bytes_in w) (bytes_in v) clear (some_bytes w) (some_bytes v) in
    let fits : i + length ys ≤ length m.bytes = omega (arith, at.0, at.1, many) in
    let within : j + bytes_in v ≤ length m.bytes = omega (arith, from.0, from.1) in
    let out : (i + length ys ≤ j) ⊎ (j + bytes_in v ≤ i) = elim far [
      | inl behind ↦ inl (omega (arith, behind, at.0, many))
      | inr before ↦ inr (omega (arith, before, from.0, at.0))
    ] in
    rw in_it (same_number 0 (bytes_in v) _ _
    (λ k less. out_splice m.bytes ys i j k (bytes_in v) fits (omega (arith, less)) within out))

-- ---- the order of bytes

-- an element from a later place on
later : (xs : List ℕ) (i j n k : ℕ) → j ≡ i + n → get_or (drop j xs) k 0 ≡ get_or (drop i xs) (n + k) 0
later xs i j n k e =
    let same : j + k ≡ i + (n + k) = omega (arith, e) in
    get_or-drop j xs k 0 ∙ ap (λ l. get_or xs l 0) same ∙ sym (get_or-drop i xs (n + k) 0)

two_bytes : (xs : List ℕ) (i j : ℕ) → j ≡ i + 1
    → big_number 2 (drop i xs) ≡ big_number 1 (drop i xs) * 2 ^ 8 + big_number 1 (drop j xs)
two_bytes xs i j e = let second = later xs i j 1 0 e in omega (arith, second)

two_halves : (xs : List ℕ) (i j : ℕ) → j ≡ i + 2
    → big_number 4 (drop i xs) ≡ big_number 2 (drop i xs) * 2 ^ 16 + big_number 2 (drop j xs)
two_halves xs i j e =
    let third = later xs i j 2 0 e in
    let last = later xs i j 2 1 e in
    omega (arith, third, last)

-- the number of an answer
abbrev number_of : Answer → ℕ
number_of (Value x) = x
number_of Done = 0
number_of BusFault = 0

-- a number in two parts, at a memory that contains the first
joined : (m : Stored) (w v : Width) (a b : Cell) (k x y : ℕ) → contains (addresses m) (range_of w a) ≡ true
    → ((i j : ℕ) → j ≡ i + bytes_in v → big_number (bytes_in w) (drop i m.bytes)
    ≡ big_number (bytes_in v) (drop i m.bytes) * k + big_number (bytes_in v) (drop j m.bytes))
    → b.0 ≡ a.0 + bytes_in v → Value (number_in v a m) ≡ Value x → Value (number_in v b m) ≡ Value y
    → Value (number_in w a m) ≡ Value (x * k + y)
joined m w v a b k x y takes split next first second =
    let at = stands m w a takes in
    let behind : b.0 - m.address.0 ≡ a.0 - m.address.0 + bytes_in v = omega (arith, at.0, next) in
    ap Value (split (a.0 - m.address.0) (b.0 - m.address.0) behind
    ∙ ap (λ n. n * k + number_in v b m) (ap number_of first) ∙ ap (λ n. x * k + n) (ap number_of second))

-- ---- the law

-- the memory behind questions contains the same ranges
still : (m : Stored) (qs : List Query) (w : Width) (a : Cell) → contains (addresses m) (range_of w a) ≡ true
    → contains (addresses (fold memory_after m qs)) (range_of w a) ≡ true
still m qs w a e = ap (λ r. contains r (range_of w a)) (same_addresses m qs) ∙ e

pub memory_holds : MemoryHolds
memory_holds = record {
  written = λ m before w a x small takes.
      parts m before (Write w a x ∷ []) (Read w a)
      ∙ ap Value (reads_back (fold memory_after m before) w a x small (still m before w a takes));
  kept = λ m before w v a b x takes out.
      parts m before (Write w a x ∷ []) (Read v b)
      ∙ ap Value (kept (fold memory_after m before) w v a b x _ refl (still m before v b takes) out);
  bytes = λ m before a b x y takes next.
      let n = fold memory_after m before in
      joined n Two One a b (2 ^ 8) x y (still m before Two a takes) (two_bytes n.bytes) next;
  halves = λ m before a b x y takes next.
      let n = fold memory_after m before in
      joined n Four Two a b (2 ^ 16) x y (still m before Four a takes) (two_halves n.bytes) next;
  poked = λ m before behind w a x q.
      parts m before (Poke w a x ∷ behind) q ∙ sym (parts m before (Write w a x ∷ behind) q);
  peeked = λ m before w a. refl;
  reads = λ m before behind w a q. parts m before (Read w a ∷ behind) q ∙ sym (parts m before behind q);
  peeks = λ m before behind w a q. parts m before (Peek w a ∷ behind) q ∙ sym (parts m before behind q);
}
