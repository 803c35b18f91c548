-- What `ls` prints: the children of a node (IEEE 1275-1994, 7.4.11.1).
use Rattle.std.specs.Prelude.{ℕ, suc, ◌==◌, List, [], ◌∷◌, ◌++◌, drop, Result, Ok, if◌then◌else◌}
use Rattle.std.specs.Int.{bytes_high_first}
use Rattle.hex.specs.Hex.{encode_lower}
use Rattle.of_memory.specs.DataSpace.{DataSpace}
use Rattle.of_nodes.specs.declared.fault.NodeFault.{NodeFault}
use Rattle.of_nodes.specs.declared.phandles.Phandle.{Phandle}
use Rattle.of_nodes.specs.declared.tree.Node.{Node}
use Rattle.of_nodes.specs.Nodes.{by_phandle, phandle_of}
use Rattle.of_nodes.specs.Paths.{component_in}

-- the numbers of those of some nodes, numbered from k on, that have the parent p
abbrev pub children_from : ℕ → List Node → ℕ → List ℕ
children_from k [] p = []
children_from k (n ∷ ns) p = if n.parent == p then k ∷ children_from (suc k) ns p else children_from (suc k) ns p

-- the children of node i, the oldest first; the root is nobody's child
abbrev pub children_in : List Node → ℕ → List ℕ
children_in ns i = children_from 1 (drop 1 ns) i

-- a phandle in 8 digits, and a component behind it, as a line
abbrev pub handle_line : Phandle → List ℕ → List ℕ
handle_line ph text = encode_lower (bytes_high_first 4 ph.0.0) ++ 32 ∷ text ++ 10 ∷ []

-- node k as a line: its phandle, and how it stands in a path
abbrev pub child_line : DataSpace → List Node → ℕ → List ℕ
child_line m ns k = handle_line (phandle_of k) (component_in m ns k)

abbrev pub children_shown : DataSpace → List Node → List ℕ → List ℕ
children_shown m ns [] = []
children_shown m ns (k ∷ ks) = child_line m ns k ++ children_shown m ns ks

-- the children of the node with a phandle, a line each
abbrev pub ls_text : DataSpace → List Node → Phandle → Result (List ℕ) NodeFault
ls_text m ns ph = by_phandle ns ph (λ i. Ok (children_shown m ns (children_in ns i)))
