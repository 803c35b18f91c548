-- What was put at `here`.
use Rattle.std.proofs.Common.{◌≡◌, ℕ, ◌+◌, ◌-◌, ◌≤◌, nat_le, Bool, true, false, List, ◌++◌, length, Result, Ok, Err}
use Rattle.std.proofs.Common.{if◌then◌else◌, refl, ap, sym, ◌∙◌, arith}
use Rattle.of_cells.specs.declared.cells.Cell.{Cell}
use Rattle.of_memory.specs.Regions.{data_limit}
use Rattle.of_memory.specs.DataSpace.{DataSpace, bytes_from, written}
use Rattle.of_memory.specs.Access.{are_readable, with_read}
use Rattle.of_memory.specs.Growth.{appended, append_copied}
use Rattle.of_memory.specs.declared.fault.MemFault.{MemFault}
use Rattle.of_memory.specs.declared.fault.MemFault.TheVariants.{Address, Full}
use Rattle.of_props.specs.Encoding.{copy_encoded, encoded, fault_of, up_to_here}
use Rattle.of_props.specs.declared.arrays.Array.{Array}
use Rattle.of_props.specs.declared.fault.PropFault.{PropFault}
use Rattle.of_props.specs.declared.fault.PropFault.TheVariants.{Address as Unreadable}
use Rattle.of_props.proofs.Readable.{read_is}

abbrev put_if : Bool → ℕ → DataSpace → Result (ℕ × DataSpace) MemFault
put_if t a m = if t then Ok (a, m) else Err Full

-- what was put ends at `here`
pub record IsPut (after : DataSpace) (n a : ℕ) : Type 0 where
  pub below : a ≤ after.here
  pub many : after.here - a ≡ n

put_ok : (t : Bool) (h n a : ℕ) (m after : DataSpace) → m.here ≡ h + n → put_if t h m ≡ Ok (a, after) → IsPut after n a
put_ok true h n a m after e f =
    let p : ◌≡◌ {A = ℕ × DataSpace} (h, m) (a, after) = cc in
    let same : h ≡ a = ap (λ (x : ℕ × DataSpace). x.0) p in
    let state : m.here ≡ after.here = ap (λ (x : ℕ × DataSpace). x.1.here) p in
    record { below = omega arith; many = omega arith }
put_ok false h n a m after e f = cc

pub is_put : (m after : DataSpace) (xs : List ℕ) (a : ℕ) → appended m xs ≡ Ok (a, after) → IsPut after (length xs) a
is_put m after xs a e =
    let new : DataSpace = record (written m m.here xs) { here = m.here + length xs } in
    put_ok (nat_le (m.here + length xs) data_limit) m.here (length xs) a new after refl e

pub put_array :
    (m after : DataSpace) (xs : List ℕ) (a : Cell) → appended m xs ≡ Ok (a.0, after)
    → encoded m xs ≡ Ok (up_to_here after a, after)
put_array m after xs a e = let p = is_put m after xs a.0 e in rw (e, p.many) refl

pub put_below : (m after : DataSpace) (xs : List ℕ) (a : ℕ) → appended m xs ≡ Ok (a, after) → a ≤ after.here
put_below m after xs a e = (is_put m after xs a e).below

pub put_fault :
    (m : DataSpace) (xs : List ℕ) (f : MemFault) → appended m xs ≡ Err f → encoded m xs ≡ Err (fault_of f)
put_fault m xs f e = rw e refl

pub ruleset puts = (put_array, put_below, put_fault)

-- the same of bytes of memory with a tail
pub copied_is :
    (m : DataSpace) (a n : ℕ) (tail : List ℕ)
    → append_copied m a n tail ≡ (if are_readable m a n then appended m (bytes_from m a n ++ tail) else Err Address)
copied_is m a n tail = rw (read_is m a n) (each (are_readable m a n))
  where
    each : (r : Bool) → with_read (if r then Ok (bytes_from m a n) else Err Address) (λ xs. appended m (xs ++ tail))
        ≡ (if r then appended m (bytes_from m a n ++ tail) else Err Address)
    each true = refl
    each false = refl

copy_array_if :
    (r : Bool) (m after : DataSpace) (xs : List ℕ) (b : Cell)
    → ◌≡◌ {A = Result (ℕ × DataSpace) MemFault} (if r then appended m xs else Err Address) (Ok (b.0, after))
    → ◌≡◌ {A = Result (Array × DataSpace) PropFault} (if r then encoded m xs else Err Unreadable)
    (Ok (up_to_here after b, after))
copy_array_if true m after xs b e = put_array m after xs b e
copy_array_if false m after xs b e = cc

copy_below_if :
    (r : Bool) (m after : DataSpace) (xs : List ℕ) (b : ℕ)
    → ◌≡◌ {A = Result (ℕ × DataSpace) MemFault} (if r then appended m xs else Err Address) (Ok (b, after))
    → b ≤ after.here
copy_below_if true m after xs b e = put_below m after xs b e
copy_below_if false m after xs b e = cc

copy_fault_if :
    (r : Bool) (m : DataSpace) (xs : List ℕ) (f : MemFault)
    → ◌≡◌ {A = Result (ℕ × DataSpace) MemFault} (if r then appended m xs else Err Address) (Err f)
    → ◌≡◌ {A = Result (Array × DataSpace) PropFault} (if r then encoded m xs else Err Unreadable) (Err (fault_of f))
copy_fault_if true m xs f e = put_fault m xs f e
copy_fault_if false m xs f e = let h : Address ≡ f = cc in rw (← h) refl

pub copy_array :
    (m after : DataSpace) (a n b : Cell) (tail : List ℕ) → append_copied m a.0 n.0 tail ≡ Ok (b.0, after)
    → copy_encoded m a n tail ≡ Ok (up_to_here after b, after)
copy_array m after a n b tail e =
    copy_array_if (are_readable m a.0 n.0) m after (bytes_from m a.0 n.0 ++ tail) b (sym (copied_is m a.0 n.0 tail) ∙ e)

pub copy_below :
    (m after : DataSpace) (a n b : ℕ) (tail : List ℕ) → append_copied m a n tail ≡ Ok (b, after) → b ≤ after.here
copy_below m after a n b tail e =
    copy_below_if (are_readable m a n) m after (bytes_from m a n ++ tail) b (sym (copied_is m a n tail) ∙ e)

pub copy_fault :
    (m : DataSpace) (a n : Cell) (tail : List ℕ) (f : MemFault) → append_copied m a.0 n.0 tail ≡ Err f
    → copy_encoded m a n tail ≡ Err (fault_of f)
copy_fault m a n tail f e =
    copy_fault_if (are_readable m a.0 n.0) m (bytes_from m a.0 n.0 ++ tail) f (sym (copied_is m a.0 n.0 tail) ∙ e)

pub ruleset copies = (copy_array, copy_below, copy_fault)
