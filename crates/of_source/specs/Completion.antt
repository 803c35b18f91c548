-- A source that is right so far can be completed: what is open is closed from the innermost part out, and the source
-- ends (IEEE 1275-1994, 5.3 and annex C).
use Rattle.std.specs.Prelude.{◌≡◌, ℕ, zero, suc, ◌-◌, List, [], ◌∷◌, ◌++◌, codes, Some, None, Ok}
use Rattle.std.specs.List.{All}
use Rattle.of_stream.specs.declared.stream.OffsetSize.{OffsetSize}
use Rattle.of_source.specs.declared.nesting.Part.{Part}
use Rattle.of_source.specs.declared.nesting.Part.TheVariants as part
use Rattle.of_source.specs.Items.{Item}
use Rattle.of_source.specs.Names.{own_in}
use Rattle.of_source.specs.Effects.{all_names}
use Rattle.of_source.specs.Nesting.{Nesting, nothing_open}
use Rattle.of_source.specs.Shapes.{Shape, nothing, run, shape_of}
use Rattle.of_source.specs.Parsing.{parsed}
use Rattle.of_source.specs.Phrases.{Spelled, Beginning, Known, each_written, all_behind, begun_with, items_in}
use Rattle.of_source.specs.Written.{IsBegun}
use Rattle.of_source.specs.Faults.{AllSaid, all_opened}

-- a word that closes a part
abbrev pub closing_word : Part → List ℕ
closing_word part.Definition = codes ";"
closing_word part.Begin = codes "again"
closing_word part.Do = codes "loop"
closing_word part.Case = codes "endcase"
closing_word part.Of = codes "endof"

-- words that close so many branches, and then these
abbrev pub thens : ℕ → List (List ℕ) → List (List ℕ)
thens zero words = words
thens (suc n) words = codes "then" ∷ thens n words

-- words that close so many branches and these parts, latest first, and end the source
abbrev pub closing_words : ℕ → List (Part × ℕ) → List (List ℕ)
closing_words count [] = thens count (codes "fcode-end" ∷ [])
closing_words count (p ∷ ps) = thens (count - p.1) (closing_word p.0 ∷ closing_words p.1 ps)

-- the same, from what is open
abbrev pub completion : Shape → List (List ℕ)
completion o = closing_words o.count o.parts

-- words, each on a line of its own behind what stands before it
abbrev pub on_lines : List (List ℕ) → List ℕ
on_lines [] = []
on_lines (w ∷ words) = 10 ∷ w ++ on_lines words

-- no definition has one of these names, nor has the one that is open
abbrev pub AreFree : List (List ℕ) → Known → Type 0
AreFree words k = All (λ w. own_in (all_names k.setting) w ≡ None) words

-- a source that begins with these phrases, and then this text
abbrev pub begun_text : Beginning → List Spelled → List ℕ → List ℕ
begun_text b ps more = each_written b.comments (b.blanks ++ (b.word ++ each_written ps more))

-- Where a text begins with phrases that can stand where they do, and no name hides the words that complete it, these
-- words behind the phrases give a source that is accepted, and whose items begin with those of the phrases. What the
-- items of phrases leave open is what the phrases do.
pub record PrefixesGoOn : Type 0 where
  pub completed : (z : OffsetSize) (b : Beginning) (ps : List Spelled) (more : List ℕ) (o : Shape)
      → IsBegun z b (each_written ps more) → AllSaid ps more (begun_with b) → run (items_in b ps) nothing ≡ Some o
      → AreFree (completion o) (all_behind ps (begun_with b))
      → (items : List Item)
      × (parsed (begun_text b ps (on_lines (completion o))) ≡ Ok (record { size = z; items = items_in b ps ++ items }))
  pub left_open : (b : Beginning) (ps : List Spelled) (n : Nesting) → all_opened ps (begun_with b) nothing_open ≡ Some n
      → run (items_in b ps) nothing ≡ Some (shape_of n)
