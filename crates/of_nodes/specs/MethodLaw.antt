-- What is found once a method was added, and once it was taken back (IEEE 1275-1994, annex A, `find-method`).
use Rattle.std.specs.Prelude.{ℕ, ◌≡◌, ◌≢◌, List, Option, Some, Ok}
use Rattle.of_cells.specs.declared.cells.Cell.{Cell}
use Rattle.of_nodes.specs.declared.tree.Node.{Node}
use Rattle.of_nodes.specs.declared.phandles.Phandle.{Phandle}
use Rattle.of_nodes.specs.Methods.{lower}
use Rattle.of_nodes.specs.Nodes.{method_added, method_found, method_taken_back}

pub record MethodsAreFound : Type 0 where
  -- a method that was added is found by its name
  pub added : (ns after : List Node) (ph : Phandle) (name : List ℕ) (xt : Cell)
      → method_added ns ph name xt ≡ Ok after → method_found after ph name ≡ Ok (Some xt)
  -- and by each other name what was found before
  pub others : (ns after : List Node) (ph : Phandle) (name other : List ℕ) (xt : Cell)
      → method_added ns ph name xt ≡ Ok after → lower other ≢ lower name
      → method_found after ph other ≡ method_found ns ph other
  -- once it is taken back, all is as it was
  pub taken_back : (ns after : List Node) (ph : Phandle) (name : List ℕ) (xt : Cell) (before : Option Cell)
      → method_found ns ph name ≡ Ok before → method_added ns ph name xt ≡ Ok after
      → method_taken_back after ph name before ≡ ns
