-- A range in the data region: where it stands, and that it can be read and written.
use Rattle.std.proofs.Common.{◌≡◌, ℕ, ◌+◌, ◌-◌, ◌/◌, ◌%◌, ◌<◌, ◌≤◌, Some, None, refl, arith}
use Rattle.of_memory.specs.declared.regions.Region.TheVariants.{Data}
use Rattle.of_memory.specs.declared.width.Width.{Width}
use Rattle.of_memory.specs.Width.{bytes_in}
use Rattle.of_memory.specs.Regions.{data_start, data_limit, place_of, region_of, span}
use Rattle.of_memory.specs.DataSpace.{DataSpace}
use Rattle.of_memory.specs.Access.{read_fault, write_fault}
use Rattle.of_memory.proofs.Faults.{no_fault, some_not_none}
use Rattle.of_memory.proofs.Readable.{plain}

data_numbered : (a : ℕ) → data_start ≤ a → a < data_limit → a / span ≡ 1
data_numbered a from to = omega arith

data_region : (a : ℕ) → data_start ≤ a → a < data_limit → region_of a ≡ Some Data
data_region a from to = rw (data_numbered a from to) refl

pub data_placed : (a : ℕ) → data_start ≤ a → a < data_limit → a - data_start ≡ place_of a
data_placed a from to = rw (data_numbered a from to) (omega arith)

pub data_read :
    (m : DataSpace) (a n : ℕ) (w : Width) → data_start ≤ a → a + n ≤ data_limit → 0 < n → a % bytes_in w ≡ 0
    → read_fault m a n w ≡ None
data_read m a n w from to some even =
    no_fault m a n w some (plain m a n Data (data_region a from (omega (arith, to, some))) refl (omega arith)) even

pub data_written :
    (m : DataSpace) (a n : ℕ) (w : Width) → data_start ≤ a → a + n ≤ data_limit → 0 < n → a % bytes_in w ≡ 0
    → write_fault m a n w ≡ None
unfolding write_fault
data_written m a n w from to some even =
    rw (data_read m a n w from to some even, some_not_none n some, data_region a from (omega (arith, to, some))) refl

pub ruleset in_data = (data_placed, data_read, data_written)
