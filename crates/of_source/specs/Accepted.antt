-- Which texts are accepted: those that are written as the phrases of a whole nest, and no others.
use Rattle.std.specs.Prelude.{◌≡◌, ℕ, List, Ok}
use Rattle.of_source.specs.Items.{Source}
use Rattle.of_source.specs.Nest.{IsNested}
use Rattle.of_source.specs.Parsing.{parsed}
use Rattle.of_source.specs.Phrases.{Spelled, Beginning, Ending, all_written, text_of, begun_with, items_in}
use Rattle.of_source.specs.Written.{IsBegun, AreSaid}

-- a text is that of phrases each of which can stand where it does, and a source has their items
pub record IsWritten (text : List ℕ) (s : Source) : Type 0 where
  pub beginning : Beginning
  pub phrases : List Spelled
  pub ending : Ending
  pub written : text ≡ text_of beginning phrases ending
  pub begun : IsBegun s.size beginning (all_written phrases ending)
  pub said : AreSaid phrases ending (begun_with beginning)
  pub items : s.items ≡ items_in beginning phrases

-- a source is what a text says just where the text is written so, and the items are those of a whole nest
pub record AcceptedIsWritten : Type 0 where
  pub accepted : (text : List ℕ) (s : Source) → parsed text ≡ Ok s → IsWritten text s × IsNested s.items
  pub written : (text : List ℕ) (s : Source) → IsWritten text s → IsNested s.items → parsed text ≡ Ok s
