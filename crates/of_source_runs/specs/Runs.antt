-- The run of a source's image: loaded for `/slot` on a new machine, it does what the source means (IEEE 1275-1994,
-- 5.2.2, 5.3.3).
use Rattle.std.specs.Prelude.{◌≡◌, ◌<◌, ◌+◌, ◌^◌, ℕ, true, List, [], ◌∷◌, ◌++◌, Some, None, Ok}
use Rattle.of_asking.specs.declared.query.Answer.{Answer}
use Rattle.of_asking.specs.declared.query.Query.{Query}
use Rattle.of_compile.specs.Structured.{Definitions}
use Rattle.of_memory.specs.SoundChanges.{AreBytes}
use Rattle.of_source.specs.Encodable.{AreEncodable}
use Rattle.of_source.specs.Items.{Source}
use Rattle.of_source.specs.Nest.{nest_of}
use Rattle.of_source.specs.Parsing.{parsed}
use Rattle.of_tok.specs.Image.{tokenized}
use Rattle.of_tok.specs.Places.{first_place}
use Rattle.of_state.specs.Loading.{first_state, load_fault}
use Rattle.of_steps.specs.Steps.{asked_by}
use Rattle.of_eval_laws.specs.Structured.{no_definitions, structured_calls}
use Rattle.of_means.specs.Accepted.{begun_at}
use Rattle.of_means.specs.Correct.{Behaves}
use Rattle.of_means.specs.Means.{at}
use Rattle.of_means.specs.Moments.{Moment, fitting, steps}
use Rattle.of_means.specs.Nested.{nest_calls}
use Rattle.of_means.specs.Outputs.{PrintsAlike}
use Rattle.of_machine.specs.Runs.{States}
use Rattle.of_machine.specs.States.{MachineState, slot}

-- the image has just begun on a new machine, and these answers are at hand
abbrev pub first_moment : List ℕ → List Answer → Moment Definitions
first_moment image answers = begun_at image slot answers (first_state no_definitions)

-- a machine that made so many steps and came to this moment, with the same questions, of which none is open
pub record HasCome (m : MachineState Definitions) (k : ℕ) (t : Moment Definitions) : Type 0 where
  pub state : m.eval ≡ t.state
  pub made : m.steps ≡ k
  pub asked : m.asked ≡ t.asked
  pub calm : m.waiting ≡ None

-- one whose next step asks this, for which there is no answer
pub record HasAsked (m : MachineState Definitions) (k : ℕ) (t : Moment Definitions) (q : Query) : Type 0 where
  pub state : m.eval ≡ t.state
  pub made : m.steps ≡ k
  pub asked : m.asked ≡ t.asked ++ q ∷ []
  pub asks : m.waiting ≡ Some q

pub record TokenizedMeans : Type 0 where
  -- From where the image of an accepted source has begun, it does what the source means, and only that.
  pub behaves :
      (text image : List ℕ) (source : Source) (answers : List Answer) → parsed text ≡ Ok source →
      AreEncodable source.items → tokenized source ≡ Ok image → AreBytes image →
      -- where the machine takes the image
      load_fault image slot (first_state no_definitions) ≡ None →
      let m = first_moment image answers in
      Behaves structured_calls nest_calls (nest_of source.items) source.size m
      × (at (first_place source.size) m ≡ m)
  -- There it prints what the source prints: what either has printed begins what the other has at a large enough bound.
  pub prints :
      (text image : List ℕ) (source : Source) (answers : List Answer) → parsed text ≡ Ok source →
      AreEncodable source.items → tokenized source ≡ Ok image → AreBytes image →
      load_fault image slot (first_state no_definitions) ≡ None →
      PrintsAlike structured_calls nest_calls (nest_of source.items) source.size (first_moment image answers)
  -- The run of any image comes to a moment after so many steps, as far as they can be counted, where so many steps
  -- lead there.
  pub comes :
      (image : List ℕ) (answers : List Answer) (k : ℕ) (t : Moment Definitions) → k < 2 ^ 64 →
      steps structured_calls k (first_moment image answers) ≡ Some t → HasCome (States image [] answers [] k) k t
  -- And where the next step asks what has no answer, its question is open then.
  pub waits :
      (image : List ℕ) (answers : List Answer) (k : ℕ) (t : Moment Definitions) (q : Query) → k + 1 < 2 ^ 64 →
      steps structured_calls k (first_moment image answers) ≡ Some t → t.state.flow.is_running ≡ true →
      asked_by structured_calls t.state ≡ Some q → fitting q t.answers ≡ None →
      HasAsked (States image [] answers [] (k + 1)) k t q
