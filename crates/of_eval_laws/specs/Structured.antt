-- The evaluator whose definitions are structured bodies: it makes the same steps over them, and its state is that of
-- the evaluator whose definitions are cells, once they are laid out.
use Rattle.std.specs.Prelude.{◌≡◌, ◌↔◌, ℕ, ◌+◌, ◌<◌, true, [], ◌∷◌, length, Some, None, Ok, Err}
use Rattle.of_code.specs.declared.item.Item.TheVariants as item
use Rattle.of_stacks.specs.declared.return_item.Continuation.{Continuation}
use Rattle.of_stacks.specs.declared.return_item.Continuation.TheVariants.{Code, Source}
use Rattle.of_stacks.specs.Throws.{control_mismatch}
use Rattle.of_dict.specs.Words.{xt_of}
use Rattle.of_control.specs.Body.{Body}
use Rattle.of_control.specs.Reading.{body_in}
use Rattle.of_compile.specs.declared.element.PlainItem.{PlainItem}
use Rattle.of_compile.specs.Structured.{Definitions, Told, abandoned_told, element_told, fetched, flat_of, has_room}
use Rattle.of_compile.specs.Structured.{laid_all, semicolon_told}
use Rattle.of_compile.specs.Coding.{Coding}
use Rattle.of_compile.specs.Elements.{element_cells}
use Rattle.of_eval.specs.Defining.{semicolon_entry}
use Rattle.of_state.specs.State.{Answered, Calls, Outcome, State, flat_calls}
use Rattle.of_steps.specs.Steps.{asked_by, stepped}

-- no word is finished, and the open definition is empty
abbrev pub no_definitions : Definitions
no_definitions = record { finished = []; elements = [] }

abbrev pub told_answer : Told → Answered Definitions
told_answer t = record { code = t.definitions; ended = t.ended }

-- what is asked of definitions, by their structure: `b(;)` gives a word the body of the open definition's elements
abbrev pub structured_calls : Calls Definitions
structured_calls = record {
  fetch = fetched;
  ends_at = λ d. length (laid_all d.finished) + element_cells d.elements;
  element = λ e d. told_answer (element_told e d);
  semicolon = λ xt d. told_answer (semicolon_told xt d);
  abandon = abandoned_told;
  cells = λ d. (flat_of d).code;
}

-- the state with its definitions as cells
abbrev pub flat_state : State Definitions → State Coding
flat_state s = record {
  board = s.board;
  flow = s.flow;
  words = s.words;
  code = flat_of s.code;
  reply = s.reply;
}

abbrev pub flat_outcome : Outcome Definitions → Outcome Coding
flat_outcome o = record { state = flat_state o.state; ended = o.ended; asks = o.asks }

-- where control goes on lies in a finished definition, unless it is in what is read
abbrev pub IsPlacedIn : ℕ → Continuation → Type 0
IsPlacedIn end Source = Unit {0}
IsPlacedIn end (Code n) = n < end

abbrev pub IsPlaced : State Definitions → Type 0
IsPlaced s = IsPlacedIn (length (laid_all s.code.finished)) s.flow.next

pub record StepsAgree : Type 0 where
  -- a step of structured definitions is, laid out, the step of their cells
  pub step :
      (s : State Definitions) → IsPlaced s →
      stepped flat_calls (flat_state s) ≡ flat_state (stepped structured_calls s)
  -- and what comes next asks the same
  pub asks :
      (s : State Definitions) → IsPlaced s → asked_by flat_calls (flat_state s) ≡ asked_by structured_calls s

-- what `b(;)` makes of the open definition, the word n, by its elements
pub record MismatchIsNoBody : Type 0 where
  -- it throws -22 exactly where they have no body
  pub mismatch :
      (n : ℕ) (s : State Definitions) →
      ((semicolon_entry structured_calls (Some n) s).ended ≡ Err control_mismatch) ↔ (body_in 32 s.code.elements ≡ None)
  -- where they have one, and there is room for a return, that is the body of the latest finished word
  pub finished :
      (n : ℕ) (s : State Definitions) (b : Body PlainItem) →
      body_in 32 s.code.elements ≡ Some b →
      has_room (Some item.Return) s.code ≡ true →
      ((semicolon_entry structured_calls (Some n) s).ended ≡ Ok tt)
      × ((semicolon_entry structured_calls (Some n) s).state.code.finished
      ≡ record { xt = record { 0 = xt_of n }; body = b } ∷ s.code.finished)
