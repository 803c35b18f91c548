-- Ranges of addresses, and those that a question accesses.
use Rattle.std.specs.Prelude.{ℕ, ◌+◌, Bool, false, ◌&&◌, nat_le, nat_lt, Option, Some, None}
use Rattle.of_cells.specs.declared.cells.Cell.{Cell}
use Rattle.of_memory.specs.Width.{bytes_in}
use Rattle.of_memory.specs.declared.width.Width.{Width}
use Rattle.of_asking.specs.declared.query.Query.{Query}
use Rattle.of_asking.specs.declared.query.Query.TheVariants.{Read, Write, Peek, Poke, Key, KeyReady, Milliseconds}
use Rattle.of_asking.specs.declared.query.Query.TheVariants.{Wait}
use Rattle.of_devices.specs.declared.range.AddressRange.{AddressRange}

-- the number behind the last address of a range
abbrev pub end_of : AddressRange → ℕ
end_of r = r.address.0 + r.length

-- each address of the second is one of the first
abbrev pub contains : AddressRange → AddressRange → Bool
contains r s = nat_le r.address.0 s.address.0 && nat_le (end_of s) (end_of r)

-- an address is in both: each begins before the other ends, and neither is empty
abbrev pub meets : AddressRange → AddressRange → Bool
meets r s =
    nat_lt r.address.0 (end_of s) && nat_lt s.address.0 (end_of r) && nat_lt 0 r.length && nat_lt 0 s.length

-- the addresses of an access
abbrev pub range_of : Width → Cell → AddressRange
range_of w a = record { address = a; length = bytes_in w }

-- the addresses that a question accesses over the bus, if any
abbrev pub accessed : Query → Option AddressRange
accessed (Read w a) = Some (range_of w a)
accessed (Write w a x) = Some (range_of w a)
accessed (Peek w a) = Some (range_of w a)
accessed (Poke w a x) = Some (range_of w a)
accessed Key = None
accessed KeyReady = None
accessed Milliseconds = None
accessed (Wait n) = None

-- there is an access, and its addresses pass a test
abbrev pub access_passes : (AddressRange → Bool) → Option AddressRange → Bool
access_passes test (Some r) = test r
access_passes test None = false

-- a question accesses addresses of the range alone
abbrev pub stays_in : AddressRange → Query → Bool
stays_in r q = access_passes (contains r) (accessed q)

-- a question accesses an address of the range
abbrev pub touches : AddressRange → Query → Bool
touches r q = access_passes (meets r) (accessed q)
