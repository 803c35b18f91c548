-- What grows in the data, property and image regions.
use Rattle.std.specs.Prelude.{ℕ, ◌+◌, ◌-◌, ◌*◌, ◌/◌, ◌^◌, Bool, ◌&&◌, nat_lt, nat_le, List, [], ◌∷◌, ◌++◌, length}
use Rattle.std.specs.Prelude.{replicate, Result, Ok, Err, if◌then◌else◌}
use Rattle.byteorder.specs.Endian.{big_bytes}
use Rattle.of_cells.specs.declared.cells.Cell.{Cell}
use Rattle.of_cells.specs.Numbers.{flag}
use Rattle.of_memory.specs.DataSpace.{DataSpace, written, free_after}
use Rattle.of_memory.specs.Access.{read_bytes, read_spread, with_read}
use Rattle.of_memory.specs.Regions.{data_start, data_limit, property_start, property_limit, image_limit, image_count}
use Rattle.of_memory.specs.declared.fault.MemFault.{MemFault}
use Rattle.of_memory.specs.declared.fault.MemFault.TheVariants.{Full}

-- an address moved up by a signed cell, or down where that is negative, to 0 at least; the sum isn't wrapped
abbrev pub moved : ℕ → ℕ → ℕ
moved a n = if nat_lt n (2 ^ 31) then a + n else a - (2 ^ 32 - n)

-- the data space with `here` at the address, which must lie in the data region or at its end
abbrev pub with_here : DataSpace → ℕ → Result DataSpace MemFault
with_here m a = if nat_le data_start a && nat_le a data_limit then Ok (record m { here = a }) else Err Full

-- what moving `here` by a signed cell leaves
abbrev pub allotted : DataSpace → ℕ → Result DataSpace MemFault
allotted m n = with_here m (moved m.here n)

-- what storing bytes at `here` answers and leaves
abbrev pub appended : DataSpace → List ℕ → Result (ℕ × DataSpace) MemFault
appended m xs =
    if nat_le (m.here + length xs) data_limit
    then Ok (m.here, record (written m m.here xs) { here = m.here + length xs })
    else Err Full

-- what storing n bytes of memory and then a tail at `here` answers and leaves
abbrev pub append_copied : DataSpace → ℕ → ℕ → List ℕ → Result (ℕ × DataSpace) MemFault
append_copied m a n tail = with_read (read_bytes m a n) (λ xs. appended m (xs ++ tail))

-- up to a multiple of 4
abbrev pub aligned : ℕ → ℕ
aligned a = (a + 3) / 4 * 4

-- where n zero bytes at the next multiple of 4 stand, if they have room
abbrev pub zeros_address : DataSpace → ℕ → Result Cell MemFault
zeros_address m n = if nat_le (aligned m.here + n) data_limit then Ok (record { 0 = aligned m.here }) else Err Full

-- the data space with them
abbrev pub with_zeros : DataSpace → ℕ → DataSpace
with_zeros m n = record (written m (aligned m.here) (replicate n 0)) { here = aligned m.here + n }

-- what allotting n zero bytes at the next multiple of 4 answers and leaves
abbrev pub zeros_allotted : DataSpace → ℕ → Result (ℕ × DataSpace) MemFault
zeros_allotted m n =
    if nat_le (aligned m.here + n) data_limit then Ok (aligned m.here, with_zeros m n) else Err Full

-- how many bytes the next name or value of a property may have
abbrev pub property_room : DataSpace → ℕ
property_room m = property_limit - aligned m.properties_end

-- what storing a property's value at an address answers and leaves
abbrev pub property_put_at : DataSpace → List ℕ → ℕ → Result (ℕ × DataSpace) MemFault
property_put_at m xs a =
    if nat_le (a + length xs) property_limit
    then Ok (a, record (written m a xs) { properties_end = a + length xs })
    else Err Full

-- what storing a property's value answers and leaves
abbrev pub property_put : DataSpace → List ℕ → Result (ℕ × DataSpace) MemFault
property_put m xs = property_put_at m xs (aligned m.properties_end)

-- one address before another, where there is one
abbrev pub with_name : ℕ → Result (ℕ × DataSpace) MemFault → Result (ℕ × ℕ × DataSpace) MemFault
with_name a (Err fault) = Err fault
with_name a (Ok x) = Ok (a, x.0, x.1)

-- what storing a value behind a name that was stored answers and leaves
abbrev pub value_put : List ℕ → Result (ℕ × DataSpace) MemFault → Result (ℕ × ℕ × DataSpace) MemFault
value_put value (Err fault) = Err fault
value_put value (Ok x) = with_name x.0 (property_put x.1 value)

-- what storing a property's name and then its value answers and leaves
abbrev pub named_put : DataSpace → List ℕ → List ℕ → Result (ℕ × ℕ × DataSpace) MemFault
named_put m name value = value_put value (property_put m name)

-- the data space with the cell `state` true or false
abbrev pub with_state : DataSpace → Bool → DataSpace
with_state m compiling = written m property_start (big_bytes 4 (flag compiling).0)

-- how many bytes of the image region are free
abbrev pub image_room : DataSpace → ℕ
image_room m = image_limit - free_after m.images

-- whether an image of n bytes finds room after those that run
abbrev pub image_fits : DataSpace → ℕ → Bool
image_fits m n = nat_le (free_after m.images + n) image_limit && nat_lt (length m.images) image_count

-- what an image at the address, after those that run, answers and leaves
abbrev pub image_pushed_at : DataSpace → List ℕ → ℕ → Result (ℕ × DataSpace) MemFault
image_pushed_at m xs a =
    if nat_le (a + length xs) image_limit && nat_lt (length m.images) image_count
    then Ok (a, record (written m a xs) { images = (a + length xs) ∷ m.images })
    else Err Full

-- what an image after those that run answers and leaves
abbrev pub image_pushed : DataSpace → List ℕ → Result (ℕ × DataSpace) MemFault
image_pushed m xs = image_pushed_at m xs (free_after m.images)

-- the same of an image of n bytes of memory, as they were before, each s after the one before
abbrev pub image_pushed_from : DataSpace → ℕ → ℕ → ℕ → Result (ℕ × DataSpace) MemFault
image_pushed_from m a n s = with_read (read_spread m a n s) (image_pushed m)

-- the data space without the first image of the list of ends: its bytes are 0 again
abbrev pub without_image : DataSpace → List ℕ → DataSpace
without_image m [] = m
without_image m (end ∷ ends) =
    record (written m (free_after ends) (replicate (end - free_after ends) 0)) { images = ends }

-- the data space without the latest image, if one runs
abbrev pub image_popped : DataSpace → DataSpace
image_popped m = without_image m m.images
