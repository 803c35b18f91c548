-- The image of an accepted source, from where it begins to run.
use Rattle.std.specs.Prelude.{◌≡◌, ℕ, false, List, [], None, Ok}
use Rattle.of_asking.specs.declared.query.Answer.{Answer}
use Rattle.of_stacks.specs.declared.return_item.Input.TheVariants as input
use Rattle.of_memory.specs.SoundChanges.{AreBytes}
use Rattle.of_nodes.specs.declared.phandles.Phandle.{Phandle}
use Rattle.of_compile.specs.Structured.{Definitions}
use Rattle.of_source.specs.Encodable.{AreEncodable}
use Rattle.of_source.specs.Items.{Source}
use Rattle.of_source.specs.Nest.{nest_of}
use Rattle.of_source.specs.Parsing.{parsed}
use Rattle.of_tok.specs.Image.{tokenized}
use Rattle.of_tok.specs.Places.{first_place}
use Rattle.of_state.specs.Loading.{begun, first_state, load_fault}
use Rattle.of_state.specs.State.{State}
use Rattle.of_eval_laws.specs.Placed.{AllPlaced}
use Rattle.of_eval_laws.specs.Readings.{HasItsImages}
use Rattle.of_eval_laws.specs.Sound.{HasSoundSpace}
use Rattle.of_eval_laws.specs.Structured.{no_definitions, structured_calls}
use Rattle.of_means.specs.Moments.{Moment}
use Rattle.of_means.specs.Means.{at}
use Rattle.of_means.specs.Nested.{nest_calls}
use Rattle.of_means.specs.Correct.{Behaves}
use Rattle.of_means.specs.Kept.{IsKept}
use Rattle.of_means.specs.Laws.{DefinitionsAreRead, IsAt, WordsComeBack}

-- nothing runs, nothing is read, and no definition is open, in a state that is placed, sound and without images
pub record IsIdle (s : State Definitions) : Type 0 where
  pub stopped : s.flow.is_running ≡ false
  pub reads : s.flow.reading.input ≡ input.Nothing
  pub closed : s.words.defining ≡ None
  pub placed : AllPlaced s
  pub sound : HasSoundSpace s
  pub images : HasItsImages s

-- an image that begins to run there, with these answers
abbrev pub begun_at : List ℕ → Phandle → List Answer → State Definitions → Moment Definitions
begun_at image node answers s = record { state = begun image node s; answers = answers; asked = [] }

-- The words and the definitions of any source do what is asked of them, over structured definitions.
pub record WordsAreFollowed : Type 0 where
  pub words : (image loops : List ℕ) → WordsComeBack structured_calls image loops (IsKept image)
  pub definitions : (image loops : List ℕ) → DefinitionsAreRead structured_calls image loops (IsKept image) nest_calls

-- The image of an accepted source does what the source means.
pub record SourcesBehave : Type 0 where
  -- the evaluator as it is made is idle
  pub first : IsIdle (first_state no_definitions)
  -- an image that begins where it is idle is at its own first token
  pub begins :
      (image : List ℕ) (node : Phandle) (answers : List Answer) (s : State Definitions) → IsIdle s →
      AreBytes image → load_fault image node s ≡ None →
      IsAt structured_calls image [] (IsKept image) (begun_at image node answers s)
  pub at_first :
      (source : Source) (image : List ℕ) (node : Phandle) (answers : List Answer) (s : State Definitions) →
      tokenized source ≡ Ok image → load_fault image node s ≡ None →
      at (first_place source.size) (begun_at image node answers s) ≡ begun_at image node answers s
  -- from wherever its first token is next
  pub behaves :
      (text image : List ℕ) (source : Source) (m : Moment Definitions) → parsed text ≡ Ok source →
      AreEncodable source.items → tokenized source ≡ Ok image → IsAt structured_calls image [] (IsKept image) m →
      Behaves structured_calls nest_calls (nest_of source.items) source.size m
