-- What `see` prints of a definition has the definition's body again (Forth 2012, 15.6.1.2194; IEEE 1275-1994, annex A,
-- `see`).
use Rattle.std.specs.Prelude.{◌≡◌, ℕ, List, map, reverse, Some}
use Rattle.of_control.specs.Element.{Element as ElementOf}
use Rattle.of_control.specs.Body.{Body}
use Rattle.of_control.specs.Law.{IsBodyIn}
use Rattle.of_control.specs.Reading.{body_in}
use Rattle.of_compile.specs.declared.element.Element.{Element}
use Rattle.of_compile.specs.declared.element.PlainItem.{PlainItem}
use Rattle.of_compile.specs.Elements.{element_of}
use Rattle.of_compile.specs.Layout.{laid_body}
use Rattle.of_see.specs.SeeItems.{see_items}

-- elements in the order in which they are printed, as an open definition keeps them: the latest first
abbrev pub compiled_in_order : List Element → List (ElementOf PlainItem)
compiled_in_order es = reverse (map element_of es)

-- The elements that are printed of the cells of a definition, compiled again in their order, are matched, never have
-- more than 32 structures open, and have the body of the definition, for each body that some elements have.
pub record PrintedElementsHaveTheBody : Type 0 where
  pub is_body :
      (first : ℕ) (es : List (ElementOf PlainItem)) (b : Body PlainItem) →
      IsBodyIn 32 es b → IsBodyIn 32 (compiled_in_order (see_items first (laid_body first b))) b
  pub read :
      (first : ℕ) (es : List (ElementOf PlainItem)) (b : Body PlainItem) →
      IsBodyIn 32 es b → body_in 32 (compiled_in_order (see_items first (laid_body first b))) ≡ Some b
