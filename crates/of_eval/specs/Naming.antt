-- Words that a text defines: a name stands behind each defining word (Forth 2012, 3.4.1, 6.1.0450; IEEE 1275-1994,
-- annex A).
use Rattle.std.specs.Prelude.{ℕ, List, Option, Some, None}
use Rattle.of_dict.specs.declared.word.Slot.{Slot}
use Rattle.of_compile.specs.declared.defining.DefiningWord.{DefiningWord}
use Rattle.of_compile.specs.Defining.{making, naming_entry}
use Rattle.of_compile.specs.SlotWords.{awaited, slot_making, slot_naming_entry}
use Rattle.of_flow.specs.Texts.{latest_text}
use Rattle.of_text.specs.declared.words.Part.{Part}
use Rattle.of_text.specs.Reading.{bytes_in}
use Rattle.of_eval.specs.Defining.{by_making, by_slot_making, known_at_once}
use Rattle.of_eval.specs.Methods.{then_known}
use Rattle.of_state.specs.State.{Calls, Outcome, State}

-- the name at a part of the latest text
abbrev pub name_at : {S : Type 0} → Part → State S → List ℕ
name_at p s = bytes_in (latest_text s.flow.texts) p

-- a word of a name that is one of each instance of the active package
abbrev pub slot_word_named : {S : Type 0} → Slot → List ℕ → State S → Outcome S
slot_word_named k name s =
    by_slot_making
    (slot_naming_entry k name s.board.active.«package»
    (slot_making s.words s.board.stack s.board.memory s.board.instances)) s

-- the word that a defining word makes: one of each instance of the active package, if `instance` waits for it
abbrev pub word_named_as : {S : Type 0} → Calls S → DefiningWord → List ℕ → Option Slot → State S → Outcome S
word_named_as c d name None s =
    by_making d (naming_entry d name (c.ends_at s.code) (making s.words s.board.stack s.board.memory)) s
word_named_as c d name (Some k) s = slot_word_named k name s

abbrev pub word_named : {S : Type 0} → Calls S → DefiningWord → List ℕ → State S → Outcome S
word_named c d name s = word_named_as c d name (awaited d s.words) s

-- A defining word with its name: the word becomes a method of the active package, or a global word where none is. That
-- of a definition does so at its end.
abbrev pub naming_done : {S : Type 0} → Calls S → DefiningWord → List ℕ → State S → Outcome S
naming_done c d name s =
    then_known s.board.active.«package» (known_at_once d s.words.dictionary) (word_named c d name s)
