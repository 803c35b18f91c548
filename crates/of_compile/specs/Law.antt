-- What is compiled element by element is the body of the elements.
use Rattle.std.specs.Prelude.{◌≡◌, ◌+◌, List, ◌++◌, length, take, IsTrue, ◌↔◌}
use Rattle.of_code.specs.Code.{Code, abandoned, end_of}
use Rattle.of_control.specs.Openers.{is_all_closed}
use Rattle.of_control.specs.Element.{Element}
use Rattle.of_control.specs.Body.{Body}
use Rattle.of_control.specs.Law.{IsBodyIn}
use Rattle.of_compile.specs.declared.element.PlainItem.{PlainItem}
use Rattle.of_compile.specs.Elements.{element_cells}
use Rattle.of_compile.specs.Coding.{coding_on}
use Rattle.of_compile.specs.Layout.{laid_body}

-- a definition can be finished exactly where it has a body, and then its code is that body laid out where it began;
-- its cells are those of its elements; once it is abandoned, the code is what was there before
pub record CompilesReading : Type 0 where
  pub closed :
      (base : Code) (es : List (Element PlainItem)) →
      IsTrue (is_all_closed (coding_on base es).openers) ↔ ((b : Body PlainItem) × IsBodyIn 32 es b)
  pub laid :
      (base : Code) (es : List (Element PlainItem)) (b : Body PlainItem) →
      IsBodyIn 32 es b →
      (coding_on base es).code ≡ record base { cells = base.cells ++ laid_body (length base.cells) b }
  pub size :
      (base : Code) (es : List (Element PlainItem)) →
      length (coding_on base es).code.cells ≡ length base.cells + element_cells es
  pub kept :
      (base : Code) (es : List (Element PlainItem)) →
      base.opened ≡ end_of base → abandoned (coding_on base es).code ≡ base
  pub before :
      (base : Code) (es : List (Element PlainItem)) →
      take (length base.cells) (coding_on base es).code.cells ≡ base.cells
