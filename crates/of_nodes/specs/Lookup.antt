-- Finding a node by its path (IEEE 1275-1994, 4.3.1).
use Rattle.std.specs.Prelude.{ℕ, suc, ◌&&◌, ◌==◌, List, [], ◌∷◌, drop, codes}
use Rattle.std.specs.Prelude.{Option, Some, None, Result, Ok, if◌then◌else◌}
use Rattle.of_memory.specs.DataSpace.{DataSpace}
use Rattle.of_nodes.specs.declared.tree.Node.{Node}
use Rattle.of_nodes.specs.declared.phandles.Phandle.{Phandle}
use Rattle.of_nodes.specs.declared.lookup.Age.{Age}
use Rattle.of_nodes.specs.declared.lookup.Age.TheVariants.{Newest, Oldest}
use Rattle.of_nodes.specs.Asked.{Asked, asked, fits}
use Rattle.of_nodes.specs.Components.{address_cells}
use Rattle.of_nodes.specs.declared.fault.NodeFault.{NodeFault}
use Rattle.of_nodes.specs.Nodes.{by_phandle, node_at, parent_in, phandle_in}
use Rattle.of_nodes.specs.Properties.{same_name}
use Rattle.of_nodes.specs.Texts.{components}

-- the numbers of those of some nodes, numbered from i on, that have the parent p and that a component fits
abbrev pub fitting : DataSpace → ℕ → Asked → ℕ → ℕ → List Node → List ℕ
fitting m count wanted p i [] = []
fitting m count wanted p i (n ∷ ns) =
    if n.parent == p && fits m count n wanted then i ∷ fitting m count wanted p (suc i) ns
    else fitting m count wanted p (suc i) ns

-- the children of node p that a component fits, the oldest first
abbrev pub fitting_children : DataSpace → List Node → ℕ → List ℕ → List ℕ
fitting_children m ns p text = fitting m (address_cells m (node_at ns p)) (asked text) p 1 (drop 1 ns)

-- the first of a list
abbrev pub first : List ℕ → Option ℕ
first [] = None
first (i ∷ is) = Some i

-- the last of a list, or what there is without it
abbrev pub last_or : Option ℕ → List ℕ → Option ℕ
last_or i [] = i
last_or i (j ∷ js) = last_or (Some j) js

-- the child of node p that is taken for a component
abbrev pub child_for : DataSpace → List Node → Age → ℕ → List ℕ → Option ℕ
child_for m ns Oldest p text = first (fitting_children m ns p text)
child_for m ns Newest p text = last_or None (fitting_children m ns p text)

abbrev pub from : Option ℕ → (ℕ → Option ℕ) → Option ℕ
from None f = None
from (Some i) f = f i

-- the node that components lead to from node i on
abbrev pub walk : DataSpace → List Node → Age → ℕ → List (List ℕ) → Option ℕ
walk m ns age i [] = Some i
walk m ns age i (c ∷ cs) = from (child_for m ns age i c) (λ j. walk m ns age j cs)

-- the node of a path, which begins with `/`; each component takes the oldest child that it fits
abbrev pub node_of : DataSpace → List Node → List ℕ → Option ℕ
node_of m ns [] = None
node_of m ns (b ∷ text) = if b == 47 then walk m ns Oldest 0 (components text) else None

abbrev pub found : DataSpace → List Node → List ℕ → Option Phandle
found m ns path = phandle_in (node_of m ns path)

-- Where a component leads to from node i in a path that may go up: `..` to the node above, which the root has none of,
-- and each other to the oldest child that it fits.
abbrev pub step_for : DataSpace → List Node → ℕ → List ℕ → Option ℕ
step_for m ns i c =
    if same_name c (codes "..") then (if i == 0 then None else Some (parent_in ns i)) else child_for m ns Oldest i c

-- the node that components lead to from node i on, up or down
abbrev pub way : DataSpace → List Node → ℕ → List (List ℕ) → Option ℕ
way m ns i [] = Some i
way m ns i (c ∷ cs) = from (step_for m ns i c) (λ j. way m ns j cs)

-- the node of a path from the node with a phandle on
abbrev pub way_found : DataSpace → List Node → Phandle → List ℕ → Result (Option Phandle) NodeFault
way_found m ns ph text = by_phandle ns ph (λ i. Ok (phandle_in (way m ns i (components text))))

-- the node of a path below `/packages`; each component takes the newest child that it fits
abbrev pub package_found : DataSpace → List Node → List ℕ → Option Phandle
package_found m ns text = phandle_in (walk m ns Newest 1 (components text))
