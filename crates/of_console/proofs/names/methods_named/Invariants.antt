use Rattle.std.proofs.Common.{◌≡◌, ◌-◌, length, map, take}
use Rattle.of_nodes.specs.Nodes.{number_of}
use Rattle.of_console.specs.Names.{method_name, methods_of}
use Rattle.of_console.proofs.names.methods_named.Given as goal

-- the first methods are named
abbrev pub invariant-loop-name : goal.invariant-loop-name
invariant-loop-name l =
    map (λ name. name.now) l.names.items
    ≡ map (method_name l.dictionary)
    (take (length l.names.items) (methods_of l.tree (number_of (length l.tree) l.node)))

abbrev pub decreases-loop-name : goal.decreases-loop-name
decreases-loop-name l = length (methods_of l.tree (number_of (length l.tree) l.node)) - length l.names.items
