-- The law `components_are_meant`.
use Rattle.std.proofs.Common.{◌≡◌, ◌≢◌, ◌↔◌, ℕ, zero, suc, ◌*◌, ◌^◌, ◌<◌, ◌≤◌, ◌==◌, ◌&&◌, nat_le, nat_lt, not}
use Rattle.std.proofs.Common.{Bool, true, false, ◌⊎◌, inl, inr, List, [], ◌∷◌, ◌++◌, length, Option, Some, None}
use Rattle.std.proofs.Common.{append_assoc, if◌then◌else◌, refl, ap, sym, ◌∙◌, arith}
use Rattle.std.specs.List.{AllByRecursion, list_all}
use Rattle.std.proofs.lemmas.Bool.{and_parts, le-leb, leb-true}
use Rattle.std.proofs.lemmas.Bool.Decides.{nat_tests}
use Rattle.std.proofs.lemmas.List.{append-nil}
use Rattle.byteorder.specs.Endian.{big_bytes, big_number}
use Rattle.byteorder.specs.Numbers.{big_number-reads_back}
use Rattle.of_format.specs.Digits.{unsigned_text}
use Rattle.of_memory.specs.DataSpace.{DataSpace}
use Rattle.of_nodes.specs.declared.tree.Node.{Node}
use Rattle.of_nodes.specs.Asked.{asked, asked_by, fits, is_own}
use Rattle.of_nodes.specs.Components.{address_text, count_in, node_name, unit_in, unit_of}
use Rattle.of_nodes.specs.ComponentLaw.{AreArguments, ComponentsAreMeant, IsName, IsNameByte, Lacks, cells_bytes}
use Rattle.of_nodes.specs.ComponentLaw.{cells_text}
use Rattle.of_nodes.specs.Methods.{is_method_name}
use Rattle.of_nodes.specs.Names.{is_name, is_name_byte}
use Rattle.of_nodes.specs.Properties.{same_name}
use Rattle.of_nodes.specs.Texts.{before, behind}
use Rattle.of_nodes.proofs.ComponentsFit.{and_true, same_self}
use Rattle.of_nodes.proofs.MethodsAreFound.{same_is}

-- ---- names

not_equal : (a b : ℕ) → not (a == b) ≡ true → a ≢ b
not_equal a b e = grind (arith, nat_tests)

differs : (a b : ℕ) → a ≢ b → (a == b) ≡ false
differs a b e = grind (arith, nat_tests)

byte_is : (b : ℕ) → is_name_byte b ≡ true → IsNameByte b
byte_is b e =
    let low = nat_le 0x21 b && nat_le b 0x7e in
    let p = and_parts (low && not (b == 47) && not (b == 58)) (not (b == 64)) e in
    let q = and_parts (low && not (b == 47)) (not (b == 58)) p.0 in
    let r = and_parts low (not (b == 47)) q.0 in
    let s = and_parts (nat_le 0x21 b) (nat_le b 0x7e) r.0 in
    record {
      from = leb-true 0x21 b s.0;
      to = leb-true b 0x7e s.1;
      slash = not_equal b 47 r.1;
      colon = not_equal b 58 q.1;
      at = not_equal b 64 p.1;
    }

byte_good : (b : ℕ) → IsNameByte b → is_name_byte b ≡ true
byte_good b h =
    rw (le-leb 0x21 b h.from, le-leb b 0x7e h.to, differs b 47 h.slash, differs b 58 h.colon, differs b 64 h.at) refl

bytes_are : (xs : List ℕ) → list_all is_name_byte xs ≡ true → AllByRecursion IsNameByte xs
bytes_are [] e = tt
bytes_are (x ∷ xs) e =
    let p = and_parts (is_name_byte x) (list_all is_name_byte xs) e in
    (byte_is x p.0, bytes_are xs p.1)

bytes_good : (xs : List ℕ) → AllByRecursion IsNameByte xs → list_all is_name_byte xs ≡ true
bytes_good [] h = refl
bytes_good (x ∷ xs) h = rw (byte_good x h.0) (bytes_good xs h.1)

all_true : (a b c : Bool) → a ≡ true → b ≡ true → c ≡ true → (a && b && c) ≡ true
all_true a b c p q r = rw (p, q, r) refl

name_is : (xs : List ℕ) → is_name xs ≡ true → IsName xs
name_is xs e =
    let p = and_parts (nat_le 1 (length xs) && nat_le (length xs) 31) (list_all is_name_byte xs) e in
    let q = and_parts (nat_le 1 (length xs)) (nat_le (length xs) 31) p.0 in
    record { some = leb-true 1 (length xs) q.0; short = leb-true (length xs) 31 q.1; bytes = bytes_are xs p.1 }

name_good : (xs : List ℕ) → IsName xs → is_name xs ≡ true
name_good xs h =
    all_true (nat_le 1 (length xs)) (nat_le (length xs) 31) (list_all is_name_byte xs)
    (le-leb 1 (length xs) h.some) (le-leb (length xs) 31 h.short) (bytes_good xs h.bytes)

method_is : (xs : List ℕ) → is_method_name xs ≡ true → (1 ≤ length xs) × (length xs ≤ 31)
method_is xs e =
    let q = and_parts (nat_le 1 (length xs)) (nat_le (length xs) 31) e in
    (leb-true 1 (length xs) q.0, leb-true (length xs) 31 q.1)

both_true : (a b : Bool) → a ≡ true → b ≡ true → (a && b) ≡ true
both_true a b p q = rw (p, q) refl

method_good : (xs : List ℕ) → (1 ≤ length xs) × (length xs ≤ 31) → is_method_name xs ≡ true
method_good xs h =
    both_true (nat_le 1 (length xs)) (nat_le (length xs) 31) (le-leb 1 (length xs) h.0) (le-leb (length xs) 31 h.1)

-- ---- counts

counts : (k : ℕ) → 1 ≤ k → k ≤ 4 → count_in (Some (big_bytes 4 k)) ≡ k
counts zero low high = absurd (omega arith)
counts (suc zero) low high = refl
counts (suc (suc zero)) low high = refl
counts (suc (suc (suc zero))) low high = refl
counts (suc (suc (suc (suc zero)))) low high = refl
counts (suc (suc (suc (suc (suc k))))) low high = absurd (omega arith)

equal : (a b : ℕ) → a ≡ b → (a == b) ≡ true
equal a b e = grind (arith, nat_tests)

no_cell : (xs : List ℕ) → length xs ≢ 4 → count_in (Some xs) ≡ 2
no_cell xs h = rw (differs (length xs) 4 h) refl

out_of_range : (n : ℕ) → (n ≡ 0) ⊎ (4 < n) → (nat_le 1 n && nat_le n 4) ≡ false
out_of_range n h = grind (arith, nat_tests)

no_count : (xs : List ℕ) → length xs ≡ 4 → (big_number 4 xs ≡ 0) ⊎ (4 < big_number 4 xs) → count_in (Some xs) ≡ 2
no_count xs four h =
    let n = big_number 4 xs in
    rw (equal (length xs) 4 four) (ap (λ (b : Bool). if b then n else 2) (out_of_range n h))

-- ---- units

not_short : (n k : ℕ) → k ≤ n → nat_lt n k ≡ false
not_short n k l = grind (arith, nat_tests)

too_short : (n k : ℕ) → n < k → nat_lt n k ≡ true
too_short n k l = grind (arith, nat_tests)

short : (count : ℕ) (xs : List ℕ) → length xs < 4 * count → unit_in count (Some xs) ≡ None
short count xs l = rw (too_short (length xs) (4 * count) l) refl

unit_is : (count : ℕ) (xs text : List ℕ) → 4 * count ≤ length xs → address_text xs count ≡ text
    → unit_in count (Some xs) ≡ Some text
unit_is count xs text l e = rw (not_short (length xs) (4 * count) l) (ap Some e)

reads : (a : ℕ) (rest : List ℕ) → a < 2 ^ 32 → big_number 4 (big_bytes 4 a ++ rest) ≡ a
reads a rest l = big_number-reads_back 4 a rest l

units : (cells rest : List ℕ) → 1 ≤ length cells → length cells ≤ 4 → AllByRecursion (λ a. a < 2 ^ 32) cells
    → unit_in (length cells) (Some (cells_bytes cells ++ rest)) ≡ Some (cells_text cells)
units [] rest low high h = absurd (omega arith)
units (a ∷ []) rest low high h =
    unit_is 1 (cells_bytes (a ∷ []) ++ rest) (unsigned_text 16 a) (omega arith)
    (ap (unsigned_text 16) (reads a rest h.0))
units (a ∷ b ∷ []) rest low high h =
    unit_is 2 (cells_bytes (a ∷ b ∷ []) ++ rest) (cells_text (a ∷ b ∷ [])) (omega arith)
    (rw (reads a (big_bytes 4 b ++ rest) h.0, reads b rest h.1.0) refl)
units (a ∷ b ∷ c ∷ []) rest low high h =
    unit_is 3 (cells_bytes (a ∷ b ∷ c ∷ []) ++ rest) (cells_text (a ∷ b ∷ c ∷ [])) (omega arith)
    (rw (
      reads a (big_bytes 4 b ++ big_bytes 4 c ++ rest) h.0,
      reads b (big_bytes 4 c ++ rest) h.1.0,
      reads c rest h.1.1.0,
    )
    (simp append_assoc))
units (a ∷ b ∷ c ∷ d ∷ []) rest low high h =
    unit_is 4 (cells_bytes (a ∷ b ∷ c ∷ d ∷ []) ++ rest) (cells_text (a ∷ b ∷ c ∷ d ∷ [])) (omega arith)
    (rw (
      reads a (big_bytes 4 b ++ big_bytes 4 c ++ big_bytes 4 d ++ rest) h.0,
      reads b (big_bytes 4 c ++ big_bytes 4 d ++ rest) h.1.0,
      reads c (big_bytes 4 d ++ rest) h.1.1.0,
      reads d rest h.1.1.1.0,
    )
    (simp append_assoc))
units (a ∷ b ∷ c ∷ d ∷ e ∷ cells) rest low high h = absurd (omega (arith, high))

-- ---- components

before_end : (b : ℕ) (xs : List ℕ) → Lacks b xs → before b xs ≡ xs
before_end b [] h = refl
before_end b (x ∷ xs) h = rw (differs x b h.0) (ap (λ (l : List ℕ). x ∷ l) (before_end b xs h.1))

itself : (b : ℕ) → (b == b) ≡ true
itself b = grind (arith, nat_tests)

before_it : (b : ℕ) (xs ys : List ℕ) → Lacks b xs → before b (xs ++ b ∷ ys) ≡ xs
before_it b [] ys h = rw (itself b) refl
before_it b (x ∷ xs) ys h = rw (differs x b h.0) (ap (λ (l : List ℕ). x ∷ l) (before_it b xs ys h.1))

behind_end : (b : ℕ) (xs : List ℕ) → Lacks b xs → behind b xs ≡ None
behind_end b [] h = refl
behind_end b (x ∷ xs) h = rw (differs x b h.0) (behind_end b xs h.1)

behind_it : (b : ℕ) (xs ys : List ℕ) → Lacks b xs → behind b (xs ++ b ∷ ys) ≡ Some ys
behind_it b [] ys h = rw (itself b) refl
behind_it b (x ∷ xs) ys h = rw (differs x b h.0) (behind_it b xs ys h.1)

-- what stands before arguments
cut : (xs arguments : List ℕ) → Lacks 58 xs → AreArguments arguments → before 58 (xs ++ arguments) ≡ xs
cut xs arguments h a =
    elim a [
      | inl none ↦ rw (none, append-nil xs) (before_end 58 xs h)
      | inr some ↦ rw (some.1) (before_it 58 xs some.0 h)
    ]

same_true : (a b : List ℕ) → a ≡ b → same_name a b ≡ true
same_true a b e = rw e (same_self b)

-- what components ask for
asked_name : (name arguments : List ℕ) → Lacks 58 name → Lacks 64 name → AreArguments arguments
    → asked (name ++ arguments) ≡ asked_by name None
asked_name name arguments h k a = rw (cut name arguments h a, before_end 64 name k, behind_end 64 name k) refl

both_lack : (xs ys : List ℕ) → Lacks 58 xs → Lacks 58 ys → Lacks 58 (xs ++ 64 ∷ ys)
both_lack [] ys h k = (λ e. absurd (omega (arith, e)), k)
both_lack (x ∷ xs) ys h k = (h.0, both_lack xs ys h.1 k)

asked_unit : (name unit arguments : List ℕ) → Lacks 58 name → Lacks 64 name → Lacks 58 unit → AreArguments arguments
    → asked ((name ++ 64 ∷ unit) ++ arguments) ≡ asked_by name (Some unit)
asked_unit name unit arguments h k l a =
    let plain = cut (name ++ 64 ∷ unit) arguments (both_lack name unit h l) a in
    rw (plain, before_it 64 name unit k, behind_it 64 name unit k) refl

by_name : (m : DataSpace) (count : ℕ) (n : Node) (name arguments : List ℕ) → Lacks 58 name → Lacks 64 name
    → AreArguments arguments → (fits m count n (asked (name ++ arguments)) ≡ true) ↔ (name ≡ node_name m n)
by_name m count n name arguments h k a =
    let is : fits m count n (asked (name ++ arguments)) ≡ same_name name (node_name m n) =
    ap (fits m count n) (asked_name name arguments h k a) ∙ and_true (same_name name (node_name m n)) in
    (λ e. same_is name (node_name m n) (sym is ∙ e), λ e. is ∙ same_true name (node_name m n) e)

unit_from : (o : Option (List ℕ)) (unit : List ℕ) → is_own (Some unit) o ≡ true → o ≡ Some unit
unit_from None unit e = absurd cc
unit_from (Some own) unit e = ap Some (sym (same_is unit own e))

unit_to : (o : Option (List ℕ)) (unit : List ℕ) → o ≡ Some unit → is_own (Some unit) o ≡ true
unit_to o unit e = ap (is_own (Some unit)) e ∙ same_self unit

name_from : (name own : List ℕ) → is_own (asked_by name (Some [])).name (Some own) ≡ true
    → (name ≡ []) ⊎ (name ≡ own)
name_from [] own e = inl refl
name_from (x ∷ xs) own e =
    let some : (length (x ∷ xs) == 0) ≡ false = differs (length (x ∷ xs)) 0 (λ z. absurd (omega (arith, z))) in
    let same : same_name (x ∷ xs) own ≡ true = sym (rw some refl) ∙ e in
    inr (same_is (x ∷ xs) own same)

own_if : (t : Bool) (name own : List ℕ) → name ≡ own → is_own (if t then None else Some name) (Some own) ≡ true
own_if true name own e = refl
own_if false name own e = same_true name own e

name_to : (name own : List ℕ) → (name ≡ []) ⊎ (name ≡ own) → is_own (asked_by name (Some [])).name (Some own) ≡ true
name_to name own h =
    elim h [
      | inl none ↦ rw none refl
      | inr same ↦ own_if (length name == 0) name own same
    ]

by_unit : (m : DataSpace) (count : ℕ) (n : Node) (name unit arguments : List ℕ) → Lacks 58 name → Lacks 64 name
    → Lacks 58 unit → AreArguments arguments
    → (fits m count n (asked ((name ++ 64 ∷ unit) ++ arguments)) ≡ true)
    ↔ (((name ≡ []) ⊎ (name ≡ node_name m n)) × (unit_of m count n ≡ Some unit))
by_unit m count n name unit arguments h k l a =
    let named = is_own (asked_by name (Some unit)).name (Some (node_name m n)) in
    let placed = is_own (Some unit) (unit_of m count n) in
    let is : fits m count n (asked ((name ++ 64 ∷ unit) ++ arguments)) ≡ (named && placed) =
    ap (fits m count n) (asked_unit name unit arguments h k l a) in (
      λ e. let p = and_parts named placed (sym is ∙ e) in
          (name_from name (node_name m n) p.0, unit_from (unit_of m count n) unit p.1),
      λ e. is ∙ both_true named placed (name_to name (node_name m n) e.0) (unit_to (unit_of m count n) unit e.1),
    )

pub components_are_meant : ComponentsAreMeant
components_are_meant = record {
  names = λ xs. (name_is xs, name_good xs);
  methods = λ xs. (method_is xs, method_good xs);
  counts = counts;
  no_cell = no_cell;
  no_count = no_count;
  none = refl;
  units = units;
  short = short;
  no_reg = λ count. refl;
  by_name = by_name;
  by_unit = by_unit;
}
