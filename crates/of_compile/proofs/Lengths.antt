-- How many cells code has after each change.
use Rattle.std.proofs.Common.{◌≡◌, ℕ, ◌+◌, true, false, length, take, drop, Option, Some, None, Bool, refl, ap, ◌∙◌}
use Rattle.std.proofs.Common.{arith, length-append}
use Rattle.std.specs.Prelude.{map}
use Rattle.std.proofs.lemmas.List.{length-map, length-set, take-append-drop}
use Rattle.of_code.specs.declared.item.Place.{Place}
use Rattle.of_code.specs.declared.item.Item.{Item}
use Rattle.of_code.specs.declared.item.Item.TheVariants as I
use Rattle.of_code.specs.Items.{cells_of, laid_out}
use Rattle.of_code.specs.Code.{Code, appended, end_of, item_in, retargeted, retargeted_item}
use Rattle.of_control.specs.Element.{Element, Plain, Branch, Resolve, Mark, Back, Roll, Do, Loop, Leave, Case, Of}
use Rattle.of_control.specs.Element.{EndOf, EndCase, Misfit}
use Rattle.of_compile.specs.declared.element.PlainItem.{PlainItem}
use Rattle.of_compile.specs.declared.waiting.Waiting.{Waiting}
use Rattle.of_compile.specs.declared.waiting.Waiting.TheVariants.{Leaves, Arms}
use Rattle.of_compile.specs.Elements.{branch_item, do_item, item_size, loop_item, nowhere, own_item, plain_item}
use Rattle.of_compile.specs.Coding.{aimed_cell, aimed_from, code_after, past, place_of}
use Rattle.of_compile.proofs.Cells.{laid}

pub branch_size : (z : Bool) (to : Place) → cells_of (branch_item z to) ≡ cells_of (branch_item z nowhere)
branch_size true to = refl
branch_size false to = refl

pub loop_size : (l : Bool) (to : Place) → cells_of (loop_item l to) ≡ cells_of (loop_item l nowhere)
loop_size true to = refl
loop_size false to = refl

appended_length :
    (c : Code) (x y : Item) → cells_of x ≡ cells_of y →
    length (appended c x).cells ≡ length c.cells + item_size (Some y)
appended_length c x y e = omega (arith, length-append c.cells (laid_out x), (laid x).size, e)

retargeted_length : (c : Code) (at to : Place) → length (retargeted c at to).cells ≡ length c.cells
retargeted_length c at to = length-set c.cells at.cell (retargeted_item (item_in c at) to)

aimed_length : (w : Waiting) (from to : Place) (c : Code) → length (aimed_from w from to c).cells ≡ length c.cells
aimed_length w from to c =
    let whole = ap length (take-append-drop from.cell c.cells) in
    omega (
      arith,
      length-append (take from.cell c.cells) (map (aimed_cell w to) (drop from.cell c.cells)),
      length-map (drop from.cell c.cells) (aimed_cell w to),
      length-append (take from.cell c.cells) (drop from.cell c.cells),
      whole,
    )

same_cells : (c : Code) → length c.cells ≡ length c.cells + item_size None
same_cells c = omega arith

-- an element adds the cells of its own item
pub code_length :
    (e : Element PlainItem) (a : Option ℕ) (c : Code) →
    length (code_after e a c).cells ≡ length c.cells + item_size (own_item e)
code_length (Plain k) a c = appended_length c (plain_item k) (plain_item k) refl
code_length (Branch z t) a c = appended_length c (branch_item z nowhere) (branch_item z nowhere) refl
code_length (Resolve p) (Some n) c = retargeted_length c (place_of n) (end_of c) ∙ same_cells c
code_length (Resolve p) None c = same_cells c
code_length (Mark p) a c = same_cells c
code_length (Back z t) (Some n) c =
    appended_length c (branch_item z (place_of n)) (branch_item z nowhere) (branch_size z (place_of n))
code_length (Back z t) None c = appended_length c (branch_item z nowhere) (branch_item z nowhere) refl
code_length (Roll n) a c = same_cells c
code_length (Do q) a c = appended_length c (do_item q nowhere) (do_item q nowhere) refl
code_length (Loop l) (Some n) c =
    let to = past (end_of c) 2 in
    let d = retargeted c (place_of n) to in
    appended_length (aimed_from Leaves (place_of n) to d) (loop_item l (place_of (n + 2))) (loop_item l nowhere)
    (loop_size l (place_of (n + 2)))
    ∙ ap (λ k. k + item_size (Some (loop_item l nowhere)))
    (aimed_length Leaves (place_of n) to d ∙ retargeted_length c (place_of n) to)
code_length (Loop l) None c = appended_length c (loop_item l nowhere) (loop_item l nowhere) refl
code_length Leave a c = appended_length c (I.Leave nowhere) (I.Leave nowhere) refl
code_length Case a c = same_cells c
code_length Of a c = appended_length c (I.Of nowhere) (I.Of nowhere) refl
code_length EndOf (Some n) c =
    appended_length (retargeted c (place_of n) (past (end_of c) 2)) (I.EndOf nowhere) (I.EndOf nowhere) refl
    ∙ ap (λ k. k + item_size (Some (I.EndOf nowhere))) (retargeted_length c (place_of n) (past (end_of c) 2))
code_length EndOf None c = appended_length c (I.EndOf nowhere) (I.EndOf nowhere) refl
code_length EndCase (Some n) c =
    appended_length (aimed_from Arms (place_of n) (past (end_of c) 1) c) I.EndCase I.EndCase refl
    ∙ ap (λ k. k + item_size (Some I.EndCase)) (aimed_length Arms (place_of n) (past (end_of c) 1) c)
code_length EndCase None c = appended_length c I.EndCase I.EndCase refl
code_length (Misfit k) a c = appended_length c (plain_item k) (plain_item k) refl
