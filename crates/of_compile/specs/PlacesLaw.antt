-- What a store answers of places and words, said of the definitions by their structure.
use Rattle.std.specs.Prelude.{◌≡◌, ℕ, ◌+◌, ◌≤◌, List, ◌∷◌, ◌++◌, length, Some, None}
use Rattle.std.specs.Option.{option_map}
use Rattle.of_cells.specs.declared.cells.Cell.{Cell}
use Rattle.of_code.specs.declared.item.Place.{Place}
use Rattle.of_code.specs.Numbering.{item_count_in, item_place_in}
use Rattle.of_control.specs.Body.{items_of}
use Rattle.of_compile.specs.Layout.{item_place}
use Rattle.of_compile.specs.Structured.{Definition, Definitions, Spot, begun, flat_of, laid_all, spot_in}

-- how many items the word has that has this spot, its return counted
abbrev pub spot_items : Spot → ℕ
spot_items s = length (items_of s.body) + 1

-- items by the words in which they stand, by number
pub record PlacesAreNumbered : Type 0 where
  -- item k of a finished word's body, and behind its last item the return, is the word's item k
  pub items :
      (d : Definitions) (newer older : List Definition) (w : Definition) (k : ℕ) →
      d.finished ≡ newer ++ w ∷ older →
      k ≤ length (items_of w.body) →
      item_place_in (flat_of d).code (item_place (length (laid_all older)) (items_of w.body) k)
      ≡ Some (record { xt = w.xt; item = k })
  -- the item at a place has the number of its spot, by which it is taken there
  pub numbers :
      (d : Definitions) (p : Place) (s : Spot) →
      spot_in d.finished p.cell ≡ Some s →
      option_map (λ i. i.item) (item_place_in (flat_of d).code p) ≡ Some s.number
  -- no other place is one of an item
  pub others :
      (d : Definitions) (p : Place) → spot_in d.finished p.cell ≡ None → item_place_in (flat_of d).code p ≡ None
  -- the latest finished word of an execution token has the items of its body and the return; without one there are none
  pub counts :
      (d : Definitions) (xt : Cell) →
      item_count_in (flat_of d).code xt ≡ option_map spot_items (begun d.finished xt)
