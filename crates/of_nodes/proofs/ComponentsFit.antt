-- Components of paths: what they are made of, and that each fits its own node.
use Rattle.std.proofs.Common.{◌≡◌, ℕ, zero, suc, ◌*◌, ◌/◌, ◌%◌, ◌<◌, ◌==◌, nat_lt, nat_le, Bool, true}
use Rattle.std.proofs.lemmas.Bool.{and_parts}
use Rattle.std.proofs.Common.{false, ◌&&◌, not, List, [], ◌∷◌, ◌++◌, length, drop, Option, Some, None, refl, ap}
use Rattle.std.proofs.Common.{◌∙◌, arith, if◌then◌else◌, codes}
use Rattle.std.specs.List.{list_all}
use Rattle.std.specs.Char.{digit_char}
use Rattle.std.proofs.lemmas.Bool.Decides.{nat_tests}
use Rattle.std.proofs.lemmas.List.Folds.{list_all-append}
use Rattle.byteorder.specs.Endian.{big_number}
use Rattle.of_format.specs.Digits.{digits, unsigned_text}
use Rattle.of_memory.specs.DataSpace.{DataSpace}
use Rattle.of_nodes.specs.declared.tree.Node.{Node}
use Rattle.of_nodes.specs.Asked.{asked, asked_by, fits, is_own}
use Rattle.of_nodes.specs.Components.{address_cells, address_text, comma, component, name_at, node_name}
use Rattle.of_nodes.specs.Components.{unit_in, unit_of, value_of}
use Rattle.of_nodes.specs.Names.{is_name_byte}
use Rattle.of_nodes.specs.Properties.{same_name}
use Rattle.of_nodes.specs.Texts.{before, behind}

opposite : (a : Bool) → not a ≡ true → a ≡ false
opposite true h = cc
opposite false h = refl

record IsPlain (x : ℕ) : Type 0 where
  pub slash : (x == 47) ≡ false
  pub colon : (x == 58) ≡ false
  pub at : (x == 64) ≡ false

plain : (x : ℕ) → is_name_byte x ≡ true → IsPlain x
plain x h =
    let low = nat_le 0x21 x && nat_le x 0x7e in
    let a = and_parts (low && not (x == 47) && not (x == 58)) (not (x == 64)) h in
    let b = and_parts (low && not (x == 47)) (not (x == 58)) a.0 in
    let c = and_parts low (not (x == 47)) b.0 in
    record {
      slash = opposite (x == 47) c.1;
      colon = opposite (x == 58) b.1;
      at = opposite (x == 64) a.1;
    }

-- the digits of a unit address are such bytes
digit_good : (d : ℕ) → d < 16 → is_name_byte (digit_char d) ≡ true
digit_good d l = grind (arith, nat_tests)

last_good : (xs : List ℕ) (x : ℕ) → list_all is_name_byte xs ≡ true → is_name_byte x ≡ true
    → list_all is_name_byte (xs ++ x ∷ []) ≡ true
last_good [] x h e = rw e refl
last_good (y ∷ ys) x h e =
    let b = and_parts (is_name_byte y) (list_all is_name_byte ys) h in
    rw (b.0, last_good ys x b.1 e) refl

joined_good : (xs ys : List ℕ) → list_all is_name_byte xs ≡ true → list_all is_name_byte ys ≡ true
    → list_all is_name_byte (xs ++ ys) ≡ true
joined_good xs ys h e = list_all-append is_name_byte xs ys ∙ rw (h, e) refl

digits_if :
    (t : Bool) (x : ℕ) (xs : List ℕ) → is_name_byte x ≡ true → list_all is_name_byte xs ≡ true
    → list_all is_name_byte (if t then x ∷ [] else xs ++ x ∷ []) ≡ true
digits_if true x xs e h = rw e refl
digits_if false x xs e h = last_good xs x h e

digits_good : (more n : ℕ) → list_all is_name_byte (digits more 16 n) ≡ true
unfolding digits
digits_good zero n = rw (digit_good (n % 16) (omega arith)) refl
digits_good (suc more) n =
    digits_if (nat_lt n 16) (digit_char (n % 16)) (digits more 16 (n / 16)) (digit_good (n % 16) (omega arith))
    (digits_good more (n / 16))

comma_good : (i : ℕ) → list_all is_name_byte (comma i) ≡ true
comma_good zero = refl
comma_good (suc i) = refl

address_good : (xs : List ℕ) (k : ℕ) → list_all is_name_byte (address_text xs k) ≡ true
address_good xs zero = refl
address_good xs (suc i) =
    let digits = unsigned_text 16 (big_number 4 (drop (4 * i) xs)) in
    joined_good (address_text xs i) (comma i ++ digits) (address_good xs i)
    (joined_good (comma i) digits (comma_good i) (digits_good 31 (big_number 4 (drop (4 * i) xs))))

-- a text without a byte isn't cut at it
abbrev pub lacks : ℕ → List ℕ → Bool
lacks b xs = list_all (λ x. not (x == b)) xs

pub record IsWhole (b : ℕ) (xs : List ℕ) : Type 0 where
  pub all : before b xs ≡ xs
  pub none : behind b xs ≡ None
  pub part : (ys : List ℕ) → before b (xs ++ b ∷ ys) ≡ xs
  pub rest : (ys : List ℕ) → behind b (xs ++ b ∷ ys) ≡ Some ys

itself : (b : ℕ) → (b == b) ≡ true
itself b = grind (arith, nat_tests)

pub whole : (b : ℕ) (xs : List ℕ) → lacks b xs ≡ true → IsWhole b xs
whole b [] h = record {
  all = refl;
  none = refl;
  part = λ ys. rw (itself b) refl;
  rest = λ ys. rw (itself b) refl;
}
whole b (x ∷ xs) h =
    let g = and_parts (not (x == b)) (lacks b xs) h in
    let d = opposite (x == b) g.0 in
    let w : IsWhole b xs = whole b xs g.1 in
    record {
      all = rw d (ap (λ (r : List ℕ). x ∷ r) w.all);
      none = rw d w.none;
      part = λ ys. rw d (ap (λ (r : List ℕ). x ∷ r) (w.part ys));
      rest = λ ys. rw d (w.rest ys);
    }

-- names and unit addresses have no slash, colon or at
pub record IsClear (xs : List ℕ) : Type 0 where
  pub slash : lacks 47 xs ≡ true
  pub colon : lacks 58 xs ≡ true
  pub at : lacks 64 xs ≡ true

pub clear : (xs : List ℕ) → list_all is_name_byte xs ≡ true → IsClear xs
clear [] h = record { slash = refl; colon = refl; at = refl }
clear (x ∷ xs) h =
    let g = and_parts (is_name_byte x) (list_all is_name_byte xs) h in
    let one : IsPlain x = plain x g.0 in
    let more : IsClear xs = clear xs g.1 in
    record {
      slash = rw (one.slash, more.slash) refl;
      colon = rw (one.colon, more.colon) refl;
      at = rw (one.at, more.at) refl;
    }

abbrev pub IsClearUnit : Option (List ℕ) → Type 0
IsClearUnit None = Unit {0}
IsClearUnit (Some unit) = IsClear unit

clear_if : (t : Bool) (unit : List ℕ) → IsClear unit → IsClearUnit (if t then None else Some unit)
clear_if true unit h = tt
clear_if false unit h = h

pub clear_unit : (count : ℕ) (value : Option (List ℕ)) → IsClearUnit (unit_in count value)
clear_unit count None = tt
clear_unit count (Some xs) =
    clear_if (nat_lt (length xs) (4 * count)) (address_text xs count)
    (clear (address_text xs count) (address_good xs count))

-- a component has no slash or colon
pub clear_component :
    (name : List ℕ) (unit : Option (List ℕ)) → IsClear name → IsClearUnit unit
    → (lacks 47 (name_at name unit) ≡ true) × (lacks 58 (name_at name unit) ≡ true)
clear_component name None h u = (h.slash, h.colon)
clear_component name (Some unit) h u = (
  list_all-append (λ x. not (x == 47)) name (64 ∷ unit) ∙ rw (h.slash, u.slash) refl,
  list_all-append (λ x. not (x == 58)) name (64 ∷ unit) ∙ rw (h.colon, u.colon) refl,
)

pub same_self : (xs : List ℕ) → same_name xs xs ≡ true
same_self [] = refl
same_self (x ∷ xs) = rw (itself x, same_self xs) refl

pub and_true : (a : Bool) → (a && true) ≡ a
and_true true = refl
and_true false = refl

-- what a component asks for
pub asked_own :
    (name : List ℕ) (unit : Option (List ℕ)) → IsClear name → IsClearUnit unit
    → asked (name_at name unit) ≡ asked_by name unit
asked_own name None h u =
    let plain : IsWhole 58 name = whole 58 name h.colon in
    let w : IsWhole 64 name = whole 64 name h.at in
    rw (plain.all, w.all, w.none) refl
asked_own name (Some unit) h u =
    let c = clear_component name (Some unit) h u in
    let plain : IsWhole 58 (name ++ 64 ∷ unit) = whole 58 (name ++ 64 ∷ unit) c.1 in
    let w : IsWhole 64 name = whole 64 name h.at in
    rw (plain.all, w.part unit, w.rest unit) refl

-- a component fits its own node
own_name : (t : Bool) (name : List ℕ) → is_own (if t then None else Some name) (Some name) ≡ true
own_name true name = refl
own_name false name = same_self name

own_parts :
    (name : List ℕ) (unit : Option (List ℕ))
    → (is_own (asked_by name unit).name (Some name) && is_own (asked_by name unit).unit unit) ≡ true
own_parts name None = rw (same_self name) refl
own_parts name (Some unit) = rw (own_name (length name == 0) name, same_self unit) refl

pub fits_own :
    (m : DataSpace) (above n : Node) → IsClear (node_name m n)
    → fits m (address_cells m above) n (asked (component m above n)) ≡ true
fits_own m above n h =
    let count = address_cells m above in
    let clear_own = clear_unit count (value_of m n (codes "reg")) in
    ap (fits m count n) (asked_own (node_name m n) (unit_of m count n) h clear_own)
    ∙ own_parts (node_name m n) (unit_of m count n)
