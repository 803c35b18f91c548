-- Cells that have no room at `here` aren't encoded.
use Rattle.std.proofs.Common.{◌≡◌, ℕ, ◌+◌, ◌*◌, ◌<◌, false, List, [], ◌∷◌, length, Err, refl, arith}
use Rattle.std.proofs.Common.{nat_le}
use Rattle.std.proofs.lemmas.Bool.{lt-leb}
use Rattle.of_cells.specs.declared.cells.Cell.{Cell}
use Rattle.of_memory.specs.DataSpace.{DataSpace}
use Rattle.of_memory.specs.Regions.{data_limit}
use Rattle.of_props.specs.declared.fault.PropFault.TheVariants.{Full}
use Rattle.of_props.specs.Encoding.{phys_bytes, phys_encoded}

phys_length : (cells : List Cell) → length (phys_bytes cells) ≡ 4 * length cells
phys_length [] = refl
phys_length (c ∷ cs) = let rest = phys_length cs in omega (arith, rest)

-- k cells take 4 * k bytes
pub phys_full : (m : DataSpace) (cells : List Cell) (k : ℕ) → length cells ≡ k → data_limit < m.here + 4 * k
    → phys_encoded m cells ≡ Err Full
phys_full m cells k e l =
    let bytes = phys_length cells in
    let no : nat_le (m.here + length (phys_bytes cells)) data_limit ≡ false =
    lt-leb (m.here + length (phys_bytes cells)) data_limit (omega (arith, bytes, e, l)) in
    rw no refl
