-- A structured body laid out in code cells.
use Rattle.std.specs.Prelude.{ℕ, ◌+◌, List, [], ◌∷◌, ◌++◌, map, take, Option}
use Rattle.of_code.specs.declared.item.Place.{Place}
use Rattle.of_code.specs.declared.item.Item.{Item}
use Rattle.of_code.specs.declared.item.Item.TheVariants.{EndCase, EndOf, Leave, Of}
use Rattle.of_code.specs.Items.{cells_of, laid_out}
use Rattle.of_control.specs.Items.{Item as BodyItem, Perform, JumpTo, EnterLoop, RepeatLoop, ExitLoop, TestArm, EndArm}
use Rattle.of_control.specs.Items.{DropSelector}
use Rattle.of_control.specs.Body.{Body, items_of}
use Rattle.of_compile.specs.declared.element.PlainItem.{PlainItem}
use Rattle.of_compile.specs.Elements.{branch_item, do_item, loop_item, nowhere, plain_item}

-- an item of a body as an item of code, where each item has its place
abbrev pub code_item : (ℕ → Place) → BodyItem PlainItem → Item
code_item place (Perform k) = plain_item k
code_item place (JumpTo z n) = branch_item z (place n)
code_item place (EnterLoop q n) = do_item q (place n)
code_item place (RepeatLoop l n) = loop_item l (place n)
code_item place (ExitLoop n) = Leave (place n)
code_item place (TestArm n) = Of (place n)
code_item place (EndArm n) = EndOf (place n)
code_item place DropSelector = EndCase

-- how many cells an item of a body takes, whatever its target
abbrev pub item_cells : BodyItem PlainItem → ℕ
item_cells i = cells_of (code_item (λ n. nowhere) i)

abbrev pub total : List ℕ → ℕ
total [] = 0
total (n ∷ ns) = n + total ns

-- the place of item n, where the first begins at the cell `start`
abbrev pub item_place : ℕ → List (BodyItem PlainItem) → ℕ → Place
item_place start is n = record { cell = start + total (take n (map item_cells is)) }

-- the cells of items one after another
abbrev pub laid_items : List Item → List (Option Item)
laid_items [] = []
laid_items (x ∷ xs) = laid_out x ++ laid_items xs

-- the cells of a body that begins at the cell `start`
abbrev pub laid_body : ℕ → Body PlainItem → List (Option Item)
laid_body start b = laid_items (map (code_item (item_place start (items_of b))) (items_of b))
