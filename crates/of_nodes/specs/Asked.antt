-- What a component of a path asks for, and which nodes it fits (IEEE 1275-1994, 4.3.1).
use Rattle.std.specs.Prelude.{ℕ, ◌&&◌, ◌==◌, Bool, true, false, List, length, Option, Some, None, if◌then◌else◌}
use Rattle.of_memory.specs.DataSpace.{DataSpace}
use Rattle.of_nodes.specs.declared.tree.Node.{Node}
use Rattle.of_nodes.specs.Components.{node_name, unit_of}
use Rattle.of_nodes.specs.Properties.{same_name}
use Rattle.of_nodes.specs.Texts.{before, behind}

-- a name, a unit address, or both
pub record Asked : Type 0 where
  pub name : Option (List ℕ)
  pub unit : Option (List ℕ)

-- The same by what stands before the first `@`, and behind it if there is one: the name may be left out before a unit
-- address.
abbrev pub asked_by : List ℕ → Option (List ℕ) → Asked
asked_by name None = record { name = Some name; unit = None }
asked_by name (Some unit) = record { name = if length name == 0 then None else Some name; unit = Some unit }

-- what a component asks for; arguments, which stand behind a `:`, are none of it
abbrev pub asked : List ℕ → Asked
asked text = asked_by (before 64 (before 58 text)) (behind 64 (before 58 text))

-- a part that is asked is the node's own
abbrev pub is_own : Option (List ℕ) → Option (List ℕ) → Bool
is_own None own = true
is_own (Some text) None = false
is_own (Some text) (Some own) = same_name text own

-- A component fits a node, below one whose addresses have so many cells: each part that is asked is the node's.
abbrev pub fits : DataSpace → ℕ → Node → Asked → Bool
fits m count n wanted = is_own wanted.name (Some (node_name m n)) && is_own wanted.unit (unit_of m count n)
