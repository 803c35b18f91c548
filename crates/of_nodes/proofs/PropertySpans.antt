-- What was put into the property region.
use Rattle.std.proofs.Common.{◌≡◌, ℕ, ◌+◌, ◌<◌, ◌^◌, nat_le, Bool, true, false, List, length, Result, Ok, Err}
use Rattle.std.proofs.lemmas.Bool.{leb-true}
use Rattle.std.proofs.Common.{if◌then◌else◌, refl, arith}
use Rattle.of_memory.specs.Regions.{property_limit}
use Rattle.of_memory.specs.DataSpace.{DataSpace}
use Rattle.of_memory.specs.Growth.{aligned, named_put, property_put, value_put, with_name}
use Rattle.of_memory.specs.declared.fault.MemFault.{MemFault}
use Rattle.of_memory.specs.declared.fault.MemFault.TheVariants.{Full}

if_put : (t : Bool) (x y : ℕ × DataSpace)
    → ◌≡◌ {A = Result (ℕ × DataSpace) MemFault} (if t then Ok x else Err Full) (Ok y) → t ≡ true
if_put true x y e = refl
if_put false x y e = cc

put_fits : (m : DataSpace) (xs : List ℕ) (y : ℕ × DataSpace) → property_put m xs ≡ Ok y → length xs < 2 ^ 32
put_fits m xs y e =
    let t = if_put (nat_le (aligned m.properties_end + length xs) property_limit) _ y e in
    let l = leb-true (aligned m.properties_end + length xs) property_limit t in
    omega (arith, l)

named_ok : (a : ℕ) (r : Result (ℕ × DataSpace) MemFault) (y : ℕ × ℕ × DataSpace) → with_name a r ≡ Ok y
    → (z : ℕ × DataSpace) × (r ≡ Ok z)
named_ok a (Ok z) y e = (z, refl)
named_ok a (Err f) y e = cc

value_fits :
    (value : List ℕ) (r : Result (ℕ × DataSpace) MemFault) (y : ℕ × ℕ × DataSpace) → value_put value r ≡ Ok y
    → length value < 2 ^ 32
value_fits value (Ok x) y e = let z = named_ok x.0 (property_put x.1 value) y e in put_fits x.1 value z.0 z.1
value_fits value (Err f) y e = cc

first_ok :
    (value : List ℕ) (r : Result (ℕ × DataSpace) MemFault) (y : ℕ × ℕ × DataSpace) → value_put value r ≡ Ok y
    → (z : ℕ × DataSpace) × (r ≡ Ok z)
first_ok value (Ok x) y e = (x, refl)
first_ok value (Err f) y e = cc

pub put_small :
    (m after : DataSpace) (xs : List ℕ) (a : ℕ) → property_put m xs ≡ Ok (a, after) → length xs < 2 ^ 32
put_small m after xs a e = put_fits m xs (a, after) e

pub named_small :
    (m after : DataSpace) (name value : List ℕ) (b a : ℕ) → named_put m name value ≡ Ok (b, a, after)
    → length value < 2 ^ 32
named_small m after name value b a e = value_fits value (property_put m name) (b, a, after) e

pub name_small :
    (m after : DataSpace) (name value : List ℕ) (b a : ℕ) → named_put m name value ≡ Ok (b, a, after)
    → length name < 2 ^ 32
name_small m after name value b a e =
    let z = first_ok value (property_put m name) (b, a, after) e in
    put_fits m name z.0 z.1

pub ruleset stores = (put_small, named_small, name_small)
