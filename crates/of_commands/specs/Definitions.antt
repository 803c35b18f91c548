-- What is shown of an image, and what `see` prints of the definitions that it makes.
use Rattle.std.specs.Prelude.{◌≡◌, ℕ, zero, suc, Bool, List, [], ◌∷◌, ◌++◌, length, min, Some, None, codes, is_some}
use Rattle.std.specs.Prelude.{if◌then◌else◌}
use Rattle.of_cells.specs.declared.cells.Cell.{Cell}
use Rattle.of_compile.specs.Coding.{Coding}
use Rattle.of_detok.specs.Definitions.{definitions_of}
use Rattle.of_detok.specs.Listing.{Listed}
use Rattle.of_dict.specs.Words.{capacity, xt_of}
use Rattle.of_interpret.specs.TextActs.{seen}
use Rattle.of_state.specs.State.{flat_calls}
use Rattle.of_state.specs.Views.{items_of_word}
use Rattle.of_machine.specs.declared.answers.End.{End}
use Rattle.of_machine.specs.Runs.{RunsTo}
use Rattle.of_machine.specs.States.{MachineState}

-- what is shown of an image: all, or with a fault behind it nothing, unless a part is asked for
abbrev pub shown_lines : Bool → Listed → Listed
shown_lines partial (lines, None) = (lines, None)
shown_lines partial (lines, Some f) = (if partial then lines else [], Some f)

-- what `see` prints of a word that is a finished colon definition; of another one nothing
abbrev pub definition_text : MachineState Coding → Cell → List ℕ
definition_text m xt = if is_some (items_of_word m.eval xt) then seen flat_calls xt m.eval else []

-- the same of the first n own words, in the order in which they were made
abbrev pub definition_lines : MachineState Coding → ℕ → List ℕ
definition_lines m zero = []
definition_lines m (suc n) = definition_lines m n ++ definition_text m (record { 0 = xt_of n })

-- of all own words, of which there are never more than 8,192
abbrev pub all_definitions : MachineState Coding → List ℕ
all_definitions m = definition_lines m (min (length m.eval.words.dictionary) capacity)

-- the console line behind which the names of an image's words are found: they are methods of this node
abbrev pub dev_slot : List ℕ
dev_slot = codes "dev /slot"

-- The text is what `see` prints of the definitions that the run of an image makes, behind `dev /slot`; an image of no
-- bytes isn't run.
abbrev pub Sees : List ℕ → List ℕ → Type 0
Sees [] text = text ≡ []
Sees (b ∷ image) text =
    (m : MachineState Coding) × ((e : End) × RunsTo (b ∷ image) (dev_slot ∷ []) [] [] 1000000 m e)
    × (text ≡ all_definitions m)

-- the definitions that are shown of an image, and what is wrong behind them, if anything
abbrev pub SeesShown : Bool → List ℕ → Listed → Type 0
SeesShown partial image (text, wrong) =
    (defining : List ℕ) × (shown_lines partial (definitions_of image) ≡ (defining, wrong)) × Sees defining text
