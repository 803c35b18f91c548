-- Definitions by their structure do what their code does.
use Rattle.std.specs.Prelude.{◌≡◌, ℕ, ◌<◌, length, Some}
use Rattle.of_cells.specs.declared.cells.Cell.{Cell}
use Rattle.of_code.specs.declared.item.Place.{Place}
use Rattle.of_code.specs.Code.{fetched_in, start_in}
use Rattle.of_control.specs.Element.{Element}
use Rattle.of_control.specs.Running.{Point}
use Rattle.of_compile.specs.declared.element.PlainItem.{PlainItem}
use Rattle.of_compile.specs.Coding.{abandoning, compiling, finishing}
use Rattle.of_compile.specs.Structured.{Definitions, Spot, abandoned_told, begun, begun_place, element_told, fetched}
use Rattle.of_compile.specs.Structured.{flat_of, flat_told, laid_all, point_place, semicolon_told, spot_in, spot_place}

-- each action on the code of definitions leaves the code of what the same action on the definitions leaves
pub record StructuresAreFlat : Type 0 where
  -- a compiled token
  pub element : (e : Element PlainItem) (d : Definitions) → compiling e (flat_of d) ≡ flat_told (element_told e d)
  -- `b(;)`
  pub semicolon : (xt : Cell) (d : Definitions) → finishing xt (flat_of d) ≡ flat_told (semicolon_told xt d)
  -- an open definition that is forgotten
  pub abandoned : (d : Definitions) → abandoning (flat_of d) ≡ flat_of (abandoned_told d)
  -- an item of a finished word, and the place after it
  pub items :
      (d : Definitions) (p : Place) →
      p.cell < length (laid_all d.finished) → fetched_in (flat_of d).code p ≡ fetched d p
  -- each point of what runs has its place in the finished words
  pub points :
      (d : Definitions) (c : ℕ) (s : Spot) (q : Point PlainItem) →
      spot_in d.finished c ≡ Some s → (point_place s q).cell < length (laid_all d.finished)
  -- where a word begins, and that its first item is there
  pub starts : (d : Definitions) (xt : Cell) → start_in (flat_of d).code xt ≡ begun_place (begun d.finished xt)
  pub entered :
      (d : Definitions) (xt : Cell) (s : Spot) →
      begun d.finished xt ≡ Some s → spot_in d.finished (spot_place s).cell ≡ Some s
  pub begins :
      (d : Definitions) (xt : Cell) (s : Spot) →
      begun d.finished xt ≡ Some s → (spot_place s).cell < length (laid_all d.finished)
