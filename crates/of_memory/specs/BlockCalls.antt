-- Taking and giving back blocks of the heap and of the instance region.
use Rattle.std.specs.Prelude.{ℕ, List, [], ◌∷◌, replicate, Option, Some, None, Result, Ok, Err}
use Rattle.std.specs.List.{remove, position}
use Rattle.of_cells.specs.declared.cells.Cell.{Cell}
use Rattle.of_memory.specs.Regions.{instance_start, instance_limit, heap_start, heap_limit}
use Rattle.of_memory.specs.Blocks.{with_block, is_block, rounded, least_free}
use Rattle.of_memory.specs.DataSpace.{DataSpace, written}
use Rattle.of_memory.specs.declared.blocks.Block.{Block}
use Rattle.of_memory.specs.declared.fault.MemFault.{MemFault}
use Rattle.of_memory.specs.declared.fault.MemFault.TheVariants.{Full, BadBlock}

-- the address, and the blocks with one of the size there, if there is an address
abbrev pub block_taken_at : List Block → ℕ → Option ℕ → Result (ℕ × List Block) MemFault
block_taken_at blocks size None = Err Full
block_taken_at blocks size (Some a) = Ok (a, with_block (record { at = a; size = size }) blocks)

-- what taking n bytes between low and high answers, and the blocks then
abbrev pub block_taken : ℕ → ℕ → List Block → ℕ → Result (ℕ × List Block) MemFault
block_taken low high blocks n = block_taken_at blocks (rounded n) (least_free low high blocks (rounded n))

-- the blocks without the i-th
abbrev pub block_given_at : List Block → Option ℕ → Result (List Block) MemFault
block_given_at blocks None = Err BadBlock
block_given_at blocks (Some i) = Ok (remove blocks i)

-- the blocks without that of n bytes at the address
abbrev pub block_given : List Block → ℕ → ℕ → Result (List Block) MemFault
block_given blocks a n = block_given_at blocks (position (is_block a (rounded n)) blocks)

-- the data space with zeros in a new block of n bytes of the heap
abbrev pub heap_zeroed : DataSpace → ℕ → Result (ℕ × List Block) MemFault → Result (ℕ × DataSpace) MemFault
heap_zeroed m n (Err fault) = Err fault
heap_zeroed m n (Ok x) = Ok (x.0, record (written m x.0 (replicate (rounded n) 0)) { heap = x.1 })

-- what taking n bytes of the heap answers and leaves
abbrev pub heap_taken : DataSpace → ℕ → Result (ℕ × DataSpace) MemFault
heap_taken m n = heap_zeroed m n (block_taken heap_start heap_limit m.heap n)

-- the data space with other live blocks of the heap, whose bytes stay
abbrev pub heap_left : DataSpace → Result (List Block) MemFault → Result DataSpace MemFault
heap_left m (Err fault) = Err fault
heap_left m (Ok blocks) = Ok (record m { heap = blocks })

-- what giving back n bytes of the heap at the address leaves
abbrev pub heap_given : DataSpace → ℕ → ℕ → Result DataSpace MemFault
heap_given m a n = heap_left m (block_given m.heap a n)

-- the data space with zeros in a new block of n bytes of the instance region
abbrev pub instance_zeroed : DataSpace → ℕ → Result (ℕ × List Block) MemFault → Result (ℕ × DataSpace) MemFault
instance_zeroed m n (Err fault) = Err fault
instance_zeroed m n (Ok x) = Ok (x.0, record (written m x.0 (replicate (rounded n) 0)) { instances = x.1 })

-- what taking n bytes of the instance region answers and leaves
abbrev pub instance_taken : DataSpace → ℕ → Result (ℕ × DataSpace) MemFault
instance_taken m n = instance_zeroed m n (block_taken instance_start instance_limit m.instances n)

-- the data space with other live blocks of the instance region, whose bytes stay
abbrev pub instances_left : DataSpace → Result (List Block) MemFault → Result DataSpace MemFault
instances_left m (Err fault) = Err fault
instances_left m (Ok blocks) = Ok (record m { instances = blocks })

-- what giving back n bytes of the instance region at the address leaves
abbrev pub instance_given : DataSpace → ℕ → ℕ → Result DataSpace MemFault
instance_given m a n = instances_left m (block_given m.instances a n)

-- one address before others, where there are others
abbrev pub with_first : ℕ → Result (List Cell × DataSpace) MemFault → Result (List Cell × DataSpace) MemFault
with_first a (Err fault) = Err fault
with_first a (Ok x) = Ok (record { 0 = a } ∷ x.0, x.1)

-- what comes of a block that was taken, where it was
abbrev pub taken_then :
    Result (ℕ × DataSpace) MemFault → (DataSpace → Result (List Cell × DataSpace) MemFault)
    → Result (List Cell × DataSpace) MemFault
taken_then (Err fault) others = Err fault
taken_then (Ok x) others = with_first x.0 (others x.1)

-- what taking a block of the instance region for each length, one after another, answers and leaves
abbrev pub instances_taken : DataSpace → List Cell → Result (List Cell × DataSpace) MemFault
instances_taken m [] = Ok ([], m)
instances_taken m (n ∷ ns) = taken_then (instance_taken m n.0) (λ after. instances_taken after ns)
