-- The cells of a finished definition are those of its body.
use Rattle.std.proofs.Common.{◌≡◌, ℕ, Bool, true, false, List, [], ◌∷◌, ◌++◌, length, Option, Some, None, refl, ap, sym}
use Rattle.std.proofs.Common.{◌∙◌, append_assoc}
use Rattle.std.specs.Prelude.{drop, Ok, if◌then◌else◌}
use Rattle.std.proofs.Math.Seq.{drop-append_seam}
use Rattle.std.proofs.lemmas.List.{take-append-drop}
use Rattle.of_code.specs.declared.item.Place.{Place}
use Rattle.of_code.specs.declared.item.Item.{Item}
use Rattle.of_code.specs.declared.item.Item.TheVariants as I
use Rattle.of_code.specs.Items.{laid_out}
use Rattle.of_control.specs.Element.{Element as ElementOf}
use Rattle.of_control.specs.Items.{DropSelector, EndArm, EnterLoop, ExitLoop, Item as BodyItem, JumpTo, Perform}
use Rattle.of_control.specs.Items.{RepeatLoop, TestArm}
use Rattle.of_control.specs.Body.{Body, items_of}
use Rattle.of_control.specs.Law.{ClosedIsRead, IsBodyIn}
use Rattle.of_control.specs.Reading.{body_in}
use Rattle.of_compile.specs.declared.element.PlainItem.{PlainItem}
use Rattle.of_compile.specs.declared.element.PlainItem.TheVariants as P
use Rattle.of_compile.specs.Law.{CompilesReading}
use Rattle.of_compile.specs.Layout.{code_item, item_place, laid_body}
use Rattle.of_compile.specs.Structured.{Definition, Definitions, code_of as finished_code, finished_told}
use Rattle.of_compile.specs.Structured.{flat_of, has_room, laid_all, refused, told}
use Rattle.of_stacks.specs.Throws.{dictionary_overflow}
use Rattle.of_cells.specs.declared.cells.Cell.{Cell}
use Rattle.of_see.specs.SeeItems.{cells_to_return, see_items}
use Rattle.of_see.specs.SeeText.{definition_elements}
use Rattle.of_see_laws.specs.Finished.{PrintedDefinitionsHaveTheirBodies}
use Rattle.of_see_laws.specs.ReadsBack.{PrintedElementsHaveTheBody, compiled_in_order}
use Rattle.of_see_laws.proofs.Cells.{code_of}

-- ---- up to the return

item_goes_on : (place : ℕ → Place) (i : BodyItem PlainItem) (cells : List (Option Item))
    → cells_to_return (laid_out (code_item place i) ++ cells) ≡ laid_out (code_item place i) ++ cells_to_return cells
item_goes_on place (JumpTo true t) cells = refl
item_goes_on place (JumpTo false t) cells = refl
item_goes_on place (Perform (P.Operation xt)) cells = refl
item_goes_on place (Perform (P.Literal x)) cells = refl
item_goes_on place (Perform (P.String address n)) cells = refl
item_goes_on place (Perform (P.Call xt)) cells = refl
item_goes_on place (Perform (P.Store xt)) cells = refl
item_goes_on place (EnterLoop true t) cells = refl
item_goes_on place (EnterLoop false t) cells = refl
item_goes_on place (RepeatLoop true t) cells = refl
item_goes_on place (RepeatLoop false t) cells = refl
item_goes_on place (ExitLoop t) cells = refl
item_goes_on place (TestArm t) cells = refl
item_goes_on place (EndArm t) cells = refl
item_goes_on place DropSelector cells = refl

to_return : (place : ℕ → Place) (is : List (BodyItem PlainItem)) (more : List (Option Item))
    → cells_to_return (code_of place is ++ Some I.Return ∷ more) ≡ code_of place is
to_return place [] more = refl
to_return place (i ∷ is) more =
    ap cells_to_return (append_assoc (laid_out (code_item place i)) (code_of place is) (Some I.Return ∷ more))
    ∙ item_goes_on place i (code_of place is ++ Some I.Return ∷ more)
    ∙ ap (λ l. laid_out (code_item place i) ++ l) (to_return place is more)

-- ---- where a finished definition stands

abbrev word_cells : List Definition → Definition → List (Option Item)
word_cells older w = laid_body (length (laid_all older)) w.body

record Stands (ds older : List Definition) (w : Definition) : Type 0 where
  pub more : List (Option Item)
  pub laid : laid_all ds ≡ laid_all older ++ (word_cells older w ++ Some I.Return ∷ more)

stands : (newer older : List Definition) (w : Definition) → Stands (newer ++ w ∷ older) older w
stands [] older w = record { more = []; laid = refl }
stands (d ∷ newer) older w =
    let r = stands newer older w in
    let rest = newer ++ w ∷ older in
    let own = laid_body (length (laid_all rest)) d.body ++ laid_out I.Return in
    record {
      more = r.more ++ own;
      laid =
          ap (λ l. l ++ own) r.laid
          ∙ append_assoc (laid_all older) (word_cells older w ++ Some I.Return ∷ r.more) own
          ∙ ap (λ l. laid_all older ++ l) (append_assoc (word_cells older w) (Some I.Return ∷ r.more) own);
    }

cells_of_word :
    CompilesReading → (d : Definitions) (newer older : List Definition) (w : Definition) →
    d.finished ≡ newer ++ w ∷ older →
    cells_to_return (drop (length (laid_all older)) (flat_of d).code.cells) ≡ word_cells older w
cells_of_word law d newer older w e =
    let all = (flat_of d).code.cells in
    let n = length (laid_all d.finished) in
    let s = stands newer older w in
    let word = word_cells older w in
    let behind = s.more ++ drop n all in
    let whole : all ≡ laid_all older ++ (word ++ Some I.Return ∷ behind) =
    sym (take-append-drop n all)
    ∙ ap (λ l. l ++ drop n all) (law.before (finished_code d.finished) d.elements ∙ ap laid_all e ∙ s.laid)
    ∙ append_assoc (laid_all older) (word ++ Some I.Return ∷ s.more) (drop n all)
    ∙ ap (λ l. laid_all older ++ l) (append_assoc word (Some I.Return ∷ s.more) (drop n all)) in
    ap (λ l. cells_to_return (drop (length (laid_all older)) l)) whole
    ∙ ap cells_to_return (drop-append_seam (laid_all older) (word ++ Some I.Return ∷ behind))
    ∙ to_return (item_place (length (laid_all older)) (items_of w.body)) (items_of w.body) behind

-- ---- the laws

read_back :
    CompilesReading → PrintedElementsHaveTheBody → (d : Definitions) (newer older : List Definition) (w : Definition)
    (es : List (ElementOf PlainItem)) → d.finished ≡ newer ++ w ∷ older → IsBodyIn 32 es w.body →
    body_in 32 (compiled_in_order (definition_elements (flat_of d).code (length (laid_all older)))) ≡ Some w.body
read_back reading printed d newer older w es e was =
    ap (λ cells. body_in 32 (compiled_in_order (see_items (length (laid_all older)) cells)))
    (cells_of_word reading d newer older w e)
    ∙ printed.read (length (laid_all older)) es w.body was

just_ended :
    CompilesReading → PrintedElementsHaveTheBody → ClosedIsRead PlainItem 32 → (d : Definitions) (xt : Cell)
    (o : Option (Body PlainItem)) → body_in 32 d.elements ≡ o → (finished_told xt d o).ended ≡ Ok tt →
    body_in 32 (compiled_in_order
    (definition_elements (flat_of (finished_told xt d o).definitions).code (length (laid_all d.finished)))) ≡ o
just_ended reading printed closed d xt None e ok = let bad : ⊥ = cc in absurd bad
just_ended reading printed closed d xt (Some b) e ok = by_room (has_room (Some I.Return) d) ok
  where
    new : Definitions
    new = record { finished = record { xt = xt; body = b } ∷ d.finished; elements = [] }

    by_room : (r : Bool) → (if r then told new else refused d dictionary_overflow).ended ≡ Ok tt
        → body_in 32 (compiled_in_order
        (definition_elements (flat_of (if r then told new else refused d dictionary_overflow).definitions).code
        (length (laid_all d.finished)))) ≡ Some b
    by_room true ok =
        read_back reading printed new [] d.finished (record { xt = xt; body = b }) d.elements refl
        ((closed.found d.elements b).0 e)
    by_room false ok = let bad : ⊥ = cc in absurd bad

pub printed_definitions_have_their_bodies :
    CompilesReading → PrintedElementsHaveTheBody → ClosedIsRead PlainItem 32 → PrintedDefinitionsHaveTheirBodies
printed_definitions_have_their_bodies reading printed closed = record {
  cells = λ d newer older w e.
      ap (see_items (length (laid_all older))) (cells_of_word reading d newer older w e);
  read = read_back reading printed;
  ended = λ d xt ok. just_ended reading printed closed d xt (body_in 32 d.elements) refl ok;
}
