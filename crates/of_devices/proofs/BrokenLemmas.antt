-- An access faults where one of its addresses is broken.
use Rattle.std.proofs.Common.{◌≡◌, ℕ, ◌+◌, ◌-◌, ◌<◌, ◌≤◌, true, refl, arith}
use Rattle.std.proofs.lemmas.Grind.{common_steps}
use Rattle.of_cells.specs.declared.cells.Cell.{Cell}
use Rattle.of_memory.specs.Width.{bytes_in}
use Rattle.of_memory.specs.declared.width.Width.{Width}
use Rattle.of_devices.specs.Laws.{BrokenAddressesFault}
use Rattle.of_devices.specs.Ranges.{end_of, meets, range_of}
use Rattle.of_devices.specs.declared.range.AddressRange.{AddressRange}

-- an address in both ranges, as the k-th byte of an access
met : (r : AddressRange) (w : Width) (a : Cell) (k : ℕ)
    → k < bytes_in w → r.address.0 ≤ a.0 + k → a.0 + k < end_of r → meets r (range_of w a) ≡ true
met r w a k less from to = grind (arith, common_steps)

begins : (r : AddressRange) (w : Width) (a : Cell) → meets r (range_of w a) ≡ true → r.address.0 < a.0 + bytes_in w
begins r w a e = grind (arith, common_steps)

ends : (r : AddressRange) (w : Width) (a : Cell) → meets r (range_of w a) ≡ true → a.0 < end_of r
ends r w a e = grind (arith, common_steps)

some : (r : AddressRange) (w : Width) (a : Cell) → meets r (range_of w a) ≡ true → 0 < r.length
some r w a e = grind (arith, common_steps)

some_bytes : (r : AddressRange) (w : Width) (a : Cell) → meets r (range_of w a) ≡ true → 0 < bytes_in w
some_bytes r w a e = grind (arith, common_steps)

-- the first such address is that of the later beginning
first : (r : AddressRange) (w : Width) (a : Cell) → meets r (range_of w a) ≡ true
    → (k : ℕ) × (k < bytes_in w) × (r.address.0 ≤ a.0 + k) × (a.0 + k < end_of r)
first r w a e =
    let from = begins r w a e in
    let to = ends r w a e in
    let many = some r w a e in
    let bytes = some_bytes r w a e in (
      r.address.0 - a.0,
      omega (arith, from, bytes),
      omega arith,
      omega (arith, to, many),
    )

pub broken_addresses_fault : BrokenAddressesFault
broken_addresses_fault = record {
  taken = met;
  touched = first;
  writes = λ r w a x. refl;
  peeks = λ r w a. refl;
  pokes = λ r w a x. refl;
  fault = λ r before q. refl;
}
