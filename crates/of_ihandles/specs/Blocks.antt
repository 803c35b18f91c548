-- Blocks of the instance region: where they stand, how they begin, and how they are taken and given back.
use Rattle.std.specs.Prelude.{ℕ, ◌≡◌, ◌≤◌, ◌+◌, ◌%◌, List, [], ◌∷◌, length, Result, Ok, Err}
use Rattle.of_cells.specs.declared.cells.Cell.{Cell}
use Rattle.of_memory.specs.Access.{number_at}
use Rattle.of_memory.specs.BlockCalls.{instance_given, instance_taken, instances_taken}
use Rattle.of_memory.specs.Blocks.{rounded}
use Rattle.of_memory.specs.DataSpace.{DataSpace, written}
use Rattle.of_memory.specs.Regions.{instance_limit, instance_start}
use Rattle.of_memory.specs.declared.fault.MemFault.{MemFault}
use Rattle.of_nodes.specs.declared.properties.Span.{Span}
use Rattle.of_ihandles.specs.declared.slots.Slot.{Slot}
use Rattle.of_ihandles.specs.declared.slots.Template.{Template}
use Rattle.of_ihandles.specs.Slots.{template_bytes}
use Rattle.of_ihandles.specs.declared.instance_fault.InstanceFault.{InstanceFault}
use Rattle.of_ihandles.specs.declared.instance_fault.InstanceFault.TheVariants.{Full}

-- so many bytes from an address on
abbrev pub span : Cell → Cell → Span
span a n = record { address = a; length = n }

-- the block for these bytes lies in the instance region, at a multiple of 8
pub record IsInRegion (b : Span) : Type 0 where
  pub from : instance_start ≤ b.address.0
  pub to : b.address.0 + rounded b.length.0 ≤ instance_limit
  pub eighth : b.address.0 % 8 ≡ 0

-- the first cell of a block
abbrev pub cell_at : DataSpace → Span → Cell
cell_at m b = record { 0 = number_at m b.address.0 4 }

-- ---- how slots begin

-- blocks of zeros begin as the templates of these slots, each as its own
abbrev pub begun : DataSpace → List Span → List Slot → DataSpace
begun m bs [] = m
begun m [] (s ∷ ss) = m
begun m (b ∷ bs) (s ∷ ss) = begun (written m b.address.0 (template_bytes s.template)) bs ss

-- all begin as one template
abbrev pub all_begun : DataSpace → List Span → Template → DataSpace
all_begun m [] t = m
all_begun m (b ∷ bs) t = all_begun (written m b.address.0 (template_bytes t)) bs t

-- ---- taking and giving back

-- blocks at these addresses, for so many bytes each
abbrev pub spans : List Cell → List Cell → List Span
spans [] ns = []
spans (a ∷ as') [] = []
spans (a ∷ as') (n ∷ ns) = span a n ∷ spans as' ns

abbrev pub one_left : Cell → Result (ℕ × DataSpace) MemFault → Result (Span × DataSpace) InstanceFault
one_left n (Ok x) = Ok (span (record { 0 = x.0 }) n, x.1)
one_left n (Err fault) = Err Full

-- a block for so many bytes
abbrev pub one_taken : DataSpace → Cell → Result (Span × DataSpace) InstanceFault
one_taken m n = one_left n (instance_taken m n.0)

abbrev pub copied_to : List ℕ → Result (Span × DataSpace) InstanceFault → Result (Span × DataSpace) InstanceFault
copied_to bytes (Ok x) = Ok (x.0, written x.1 x.0.address.0 bytes)
copied_to bytes (Err fault) = Err fault

-- a block that holds a copy of bytes
abbrev pub copy_taken : DataSpace → List ℕ → Result (Span × DataSpace) InstanceFault
copy_taken m bytes = copied_to bytes (one_taken m (record { 0 = length bytes }))

abbrev pub all_left :
    List Cell → Result (List Cell × DataSpace) MemFault → Result (List Span × DataSpace) InstanceFault
all_left ns (Ok x) = Ok (spans x.0 ns, x.1)
all_left ns (Err fault) = Err Full

-- a block for each of the lengths, one after another, or none
abbrev pub blocks_taken : DataSpace → List Cell → Result (List Span × DataSpace) InstanceFault
blocks_taken m ns = all_left ns (instances_taken m ns)

-- what giving back left, or the same where no such block is live
abbrev pub left : DataSpace → Result DataSpace MemFault → DataSpace
left m (Ok after) = after
left m (Err fault) = m

-- the data space without a block
abbrev pub given : DataSpace → Span → DataSpace
given m b = left m (instance_given m b.address.0 b.length.0)

-- without these
abbrev pub given_all : DataSpace → List Span → DataSpace
given_all m [] = m
given_all m (b ∷ bs) = given_all (given m b) bs
