-- Definitions by the nests of their words (IEEE 1275-1994, 5.3.3.2).
use Rattle.of_compile.specs.Structured.{Definitions, finished_told}
use Rattle.of_source.specs.Nest.{Nest}
use Rattle.of_state.specs.State.{Calls}
use Rattle.of_eval_laws.specs.Structured.{structured_calls, told_answer}
use Rattle.of_meaning.specs.Pairs.{nest_body}

-- `b(;)` gives the word the body that the open definition has by this nest; it throws -22 where that has none
abbrev pub nest_calls : Nest → Calls Definitions
nest_calls i =
    record structured_calls { semicolon = λ xt d. told_answer (finished_told xt d (nest_body i d.elements)) }
