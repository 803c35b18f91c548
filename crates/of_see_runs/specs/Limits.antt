-- Where reading what `see` prints may throw (Forth 2012, 3.2.1.3.2, 3.3.3.1; IEEE 1275-1994, annex A, `see`).
use Rattle.std.specs.Prelude.{◌≡◌, ◌≤◌, ◌⊎◌, ℕ, true, List, [], ◌∷◌, length, Option, None, Err}
use Rattle.of_stacks.specs.Throws.{dictionary_overflow, stack_overflow}
use Rattle.of_memory.specs.Access.{read_bytes}
use Rattle.of_memory.specs.DataSpace.{DataSpace}
use Rattle.of_dict.specs.declared.word.Word.{Word}
use Rattle.of_compile.specs.Coding.{Coding}
use Rattle.of_compile.specs.declared.element.Element.{Element as Printed}
use Rattle.of_compile.specs.declared.element.Element.TheVariants as E
use Rattle.of_compile.specs.declared.element.PlainItem.{PlainItem}
use Rattle.of_compile.specs.declared.element.PlainItem.TheVariants as P
use Rattle.of_compile.specs.Words.{is_word}
use Rattle.of_see.specs.SeeText.{bytes_or_none}
use Rattle.of_interpret.specs.Reading.{text_due}
use Rattle.of_state.specs.State.{Outcome, State, done, flat_calls}
use Rattle.of_see_runs.specs.Remade.{position_in}

-- what the next word of a text makes of a state
abbrev pub due : State Coding → Outcome Coding
due s = text_due flat_calls (position_in s.flow.reading.input) s

-- It is done, or it throws since a limit is met: the data stack has no room for one cell more, or words, code or the
-- data space have none.
abbrev pub IsDoneOrFull : Outcome Coding → Type 0
IsDoneOrFull o =
    ((next : State Coding) × (o ≡ done next))
    ⊎ ((o.ended ≡ Err stack_overflow) ⊎ (o.ended ≡ Err dictionary_overflow))

-- the word that an item calls or stores into is one of these, and a string has at most 255 bytes
abbrev pub IsPlainKnown : List (Option Word) → DataSpace → PlainItem → Type 0
IsPlainKnown words m (P.Operation xt) = is_word words xt.0 ≡ true
IsPlainKnown words m (P.Literal x) = Unit {0}
IsPlainKnown words m (P.String address n) = length (bytes_or_none (read_bytes m address.0 n.0)) ≤ 255
IsPlainKnown words m (P.Call xt) = is_word words xt.0 ≡ true
IsPlainKnown words m (P.Store xt) = is_word words xt.0 ≡ true

abbrev pub IsKnown : List (Option Word) → DataSpace → Printed → Type 0
IsKnown words m (E.Plain k) = IsPlainKnown words m k
IsKnown words m (E.Branch z t) = Unit {0}
IsKnown words m (E.Resolve p) = Unit {0}
IsKnown words m (E.Mark p) = Unit {0}
IsKnown words m (E.Back z t) = Unit {0}
IsKnown words m (E.Roll k) = Unit {0}
IsKnown words m (E.Do q) = Unit {0}
IsKnown words m (E.Loop l) = Unit {0}
IsKnown words m E.Leave = Unit {0}
IsKnown words m E.Case = Unit {0}
IsKnown words m E.Of = Unit {0}
IsKnown words m E.EndOf = Unit {0}
IsKnown words m E.EndCase = Unit {0}
IsKnown words m (E.Misfit k) = IsPlainKnown words m k

abbrev pub AreKnown : List (Option Word) → DataSpace → List Printed → Type 0
AreKnown words m [] = Unit {0}
AreKnown words m (e ∷ es) = IsKnown words m e × AreKnown words m es

-- A definition of a name, with these elements, may be begun: none is open, the name has at most 31 bytes, and the words
-- that the elements name are words.
pub record MayDefine (name : List ℕ) (m : DataSpace) (es : List Printed) (s : State Coding) : Type 0 where
  pub closed : s.words.defining ≡ None
  pub short : length name ≤ 31
  pub known : AreKnown s.words.dictionary m es
