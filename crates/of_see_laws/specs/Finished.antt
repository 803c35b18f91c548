-- What `see` prints of a finished definition has the definition's body.
use Rattle.std.specs.Prelude.{◌≡◌, List, ◌∷◌, ◌++◌, length, Some, Ok}
use Rattle.of_cells.specs.declared.cells.Cell.{Cell}
use Rattle.of_control.specs.Element.{Element}
use Rattle.of_control.specs.Law.{IsBodyIn}
use Rattle.of_control.specs.Reading.{body_in}
use Rattle.of_compile.specs.declared.element.PlainItem.{PlainItem}
use Rattle.of_compile.specs.Layout.{laid_body}
use Rattle.of_compile.specs.Structured.{Definition, Definitions, flat_of, laid_all, semicolon_told}
use Rattle.of_see.specs.SeeItems.{see_items}
use Rattle.of_see.specs.SeeText.{definition_elements}
use Rattle.of_see_laws.specs.ReadsBack.{compiled_in_order}

-- Of the code of finished definitions, the latest first, and of one that is open, `see` prints those of one finished
-- definition as those of its body's cells; so they have its body, if that is one that some elements have.
pub record PrintedDefinitionsHaveTheirBodies : Type 0 where
  pub cells :
      (d : Definitions) (newer older : List Definition) (w : Definition) →
      d.finished ≡ newer ++ w ∷ older →
      let start = length (laid_all older) in
      definition_elements (flat_of d).code start ≡ see_items start (laid_body start w.body)
  pub read :
      (d : Definitions) (newer older : List Definition) (w : Definition) (es : List (Element PlainItem)) →
      d.finished ≡ newer ++ w ∷ older →
      IsBodyIn 32 es w.body →
      body_in 32 (compiled_in_order (definition_elements (flat_of d).code (length (laid_all older)))) ≡ Some w.body
  -- what is printed of a definition that was just ended has the body of the elements that were compiled
  pub ended :
      (d : Definitions) (xt : Cell) →
      (semicolon_told xt d).ended ≡ Ok tt →
      let start = length (laid_all d.finished) in
      body_in 32 (compiled_in_order (definition_elements (flat_of (semicolon_told xt d).definitions).code start))
      ≡ body_in 32 d.elements
