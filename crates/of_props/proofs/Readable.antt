-- What a read of bytes shows.
use Rattle.std.proofs.Common.{◌≡◌, ◌≤◌, ◌≢◌, ℕ, ◌%◌, Bool, true, false, eqb, not, List, length, drop, Some, None}
use Rattle.std.proofs.Math.Nat.{mod-one}
use Rattle.std.proofs.Common.{Result, Ok, Err, if◌then◌else◌, inl, inr, refl, sym, ◌∙◌, arith}
use Rattle.std.proofs.lemmas.Bool.{cases_eq, ne_eqb}
use Rattle.std.proofs.lemmas.Bool.Decides.{nat_tests}
use Rattle.std.proofs.lemmas.List.{length-take}
use Rattle.of_memory.specs.DataSpace.{DataSpace, bytes_from}
use Rattle.of_memory.specs.Regions.{place_of}
use Rattle.of_memory.specs.Access.{all_from, are_readable, read_fault, read_bytes, unless}
use Rattle.of_memory.specs.declared.fault.MemFault.{MemFault}
use Rattle.of_memory.specs.declared.fault.MemFault.TheVariants.{Address, Alignment}
use Rattle.of_memory.specs.declared.width.Width.TheVariants.{One}
use Rattle.of_props.specs.Arrays.{bytes_of}
use Rattle.of_props.specs.declared.arrays.Array.{Array}
use Rattle.of_props.specs.declared.fault.PropFault.{PropFault}
use Rattle.of_props.specs.declared.fault.PropFault.TheVariants.{Address as Unreadable}

-- the fault of some bytes by its tests
tested :
    (r : Bool)
    → (if not r then Some Address else if not true then Some Alignment else None) ≡ (if r then None else Some Address)
tested true = refl
tested false = refl

-- the only fault of bytes is their address
pub byte_fault :
    (m : DataSpace) (a n : ℕ) → read_fault m a n One ≡ (if are_readable m a n then None else Some Address)
unfolding read_fault all_from
byte_fault m a n =
    elim (cases_eq n 0) [
      | inl z ↦ rw z refl
      | inr some ↦ rw (ne_eqb n 0 some, mod-one a) (tested (are_readable m a n))
    ]

unless_if : {A : Type 0} (r : Bool) (x : A)
    → unless (if r then None else Some Address) x ≡ (if r then Ok x else Err Address)
unless_if true x = refl
unless_if false x = refl

pub read_is :
    (m : DataSpace) (a n : ℕ)
    → read_bytes m a n ≡ (if are_readable m a n then Ok (bytes_from m a n) else Err Address)
read_is m a n = rw (byte_fault m a n) (unless_if (are_readable m a n) (bytes_from m a n))

as_ok : (r : Bool) (x y : List ℕ) → ◌≡◌ {A = Result (List ℕ) MemFault} (if r then Ok x else Err Address) (Ok y)
    → ◌≡◌ {A = Result (List ℕ) PropFault} (if r then Ok x else Err Unreadable) (Ok y)
as_ok true x y e = let h : x ≡ y = cc in rw h refl
as_ok false x y e = cc

as_err : (r : Bool) (x : List ℕ) (f : MemFault)
    → ◌≡◌ {A = Result (List ℕ) MemFault} (if r then Ok x else Err Address) (Err f)
    → ◌≡◌ {A = Result (List ℕ) PropFault} (if r then Ok x else Err Unreadable) (Err Unreadable)
as_err true x f e = cc
as_err false x f e = refl

pub read_ok : (m : DataSpace) (p : Array) (xs : List ℕ) → read_bytes m p.address.0 p.length.0 ≡ Ok xs
    → bytes_of m p ≡ Ok xs
read_ok m p xs e =
    let a = p.address.0 in
    let n = p.length.0 in
    as_ok (are_readable m a n) (bytes_from m a n) xs (sym (read_is m a n) ∙ e)

pub read_err : (m : DataSpace) (p : Array) (f : MemFault) → read_bytes m p.address.0 p.length.0 ≡ Err f
    → bytes_of m p ≡ Err Unreadable
read_err m p f e =
    let a = p.address.0 in
    let n = p.length.0 in
    as_err (are_readable m a n) (bytes_from m a n) f (sym (read_is m a n) ∙ e)

is_taken : (r : Bool) (x y : List ℕ)
    → ◌≡◌ {A = Result (List ℕ) MemFault} (if r then Ok x else Err Address) (Ok y) → x ≡ y
is_taken true x y e = cc
is_taken false x y e = cc

-- a read gives no more bytes than were asked for
pub read_few : (m : DataSpace) (a n : ℕ) (xs : List ℕ) → read_bytes m a n ≡ Ok xs → length xs ≤ n
read_few m a n xs e =
    let h = is_taken (are_readable m a n) (bytes_from m a n) xs (sym (read_is m a n) ∙ e) in
    rw (← h) (omega (arith, length-take n (drop (place_of a) m.bytes)))

pub ruleset reads = (read_ok, read_err, read_few)
