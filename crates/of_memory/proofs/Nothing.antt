-- A range of no bytes.
use Rattle.std.proofs.Common.{◌≡◌, ℕ, List, [], ◌∷◌, length, None, Ok, add-zero, take-append-drop, refl, ap, arith}
use Rattle.of_memory.specs.declared.width.Width.{Width}
use Rattle.of_memory.specs.declared.width.Width.TheVariants.{One}
use Rattle.of_memory.specs.DataSpace.{DataSpace, written}
use Rattle.of_memory.specs.Regions.{place_of}
use Rattle.of_memory.specs.Access.{read_fault, write_fault, read_bytes, bytes_written, filled, copied}

pub no_read_fault : (m : DataSpace) (a n : ℕ) (w : Width) → n ≡ 0 → read_fault m a n w ≡ None
unfolding read_fault
no_read_fault m a n w e = rw e refl

pub no_write_fault : (m : DataSpace) (a n : ℕ) (w : Width) → n ≡ 0 → write_fault m a n w ≡ None
unfolding read_fault write_fault
no_write_fault m a n w e = rw e refl

pub written_none : (m : DataSpace) (a : ℕ) → written m a [] ≡ m
written_none m a = ap (λ xs. record m { bytes = xs }) (rw add-zero (take-append-drop (place_of a) m.bytes))

pub slice_none : (m : DataSpace) (a n : ℕ) → n ≡ 0 → read_bytes m a n ≡ Ok []
slice_none m a n e = let f = no_read_fault m a n One e in rw (f, e) refl

pub fill_none : (m : DataSpace) (a n x : ℕ) → n ≡ 0 → filled m a n x ≡ Ok m
fill_none m a n x e = let f = no_write_fault m a n One e in rw (f, e) (ap Ok (written_none m a))

pub write_none : (m : DataSpace) (a : ℕ) (ys : List ℕ) → length ys ≡ 0 → bytes_written m a ys ≡ Ok m
write_none m a [] e = let f = no_write_fault m a 0 One refl in rw f (ap Ok (written_none m a))
write_none m a (y ∷ ys) e = absurd (omega arith)

pub copy_none : (m : DataSpace) (from to n : ℕ) → n ≡ 0 → copied m from to n ≡ Ok m
copy_none m from to n e =
    let f = no_read_fault m from n One e in
    let g = no_write_fault m to n One e in
    rw (f, g, e) (ap Ok (written_none m to))
