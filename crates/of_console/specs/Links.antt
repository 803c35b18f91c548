-- The links between the nodes of the device tree, as lists with an entry for each node, under its number.
use Rattle.std.specs.Prelude.{ℕ, ◌≡◌, ◌<◌, ◌≤◌, ◌+◌, List, length, drop, get_or, Option, None, Some}
use Rattle.std.specs.Option.{option_or}
use Rattle.of_nodes.specs.declared.tree.Node.{Node}
use Rattle.of_nodes.specs.Nodes.{behind_in, child_from, parent_in}

-- the first child of each node among the nodes from number k on, and of each of these nodes the next younger child of
-- the same parent
pub record AreLinked (ns : List Node) (k : ℕ) (oldest younger : List (Option ℕ)) : Type 0 where
  pub parents : length oldest ≡ length ns
  pub children : length younger ≡ length ns
  pub root : get_or younger 0 None ≡ None
  pub child : (i : ℕ) → i < length ns → get_or oldest i None ≡ child_from k (drop k ns) i
  pub peer :
      (i : ℕ) → k ≤ i → i < length ns
      → get_or younger i None ≡ child_from (i + 1) (drop (i + 1) ns) (parent_in ns i)

-- What stands behind all that is below a node, by its peer, the node above it, and what stands behind all that is below
-- each node before it.
abbrev pub behind_of : Option ℕ → Option ℕ → List (Option ℕ) → Option ℕ
behind_of (Some peer) parent behind = Some peer
behind_of None (Some p) behind = get_or behind p None
behind_of None None behind = None

-- the node that each is followed by in preorder
abbrev pub next_in : List Node → ℕ → Option ℕ
next_in ns i = option_or (child_from 1 (drop 1 ns) i) (behind_in ns i i)

-- that of each node
pub record AreNext (ns : List Node) (next : List (Option ℕ)) : Type 0 where
  pub all : length next ≡ length ns
  pub each : (i : ℕ) → i < length ns → get_or next i None ≡ next_in ns i
