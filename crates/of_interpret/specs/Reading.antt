-- The word that comes next in a text, and what it does (Forth 2012, 3.4; IEEE 1275-1994, 7.3).
use Rattle.std.specs.Prelude.{ℕ, Bool}
use Rattle.of_stacks.specs.declared.return_item.Input.TheVariants as input
use Rattle.of_format.specs.Pictured.{base_in}
use Rattle.of_flow.specs.Texts.{latest_text}
use Rattle.of_text.specs.declared.words.Found.{Found}
use Rattle.of_text.specs.Reading.{text_read}
use Rattle.of_eval.specs.Acts.{front_of}
use Rattle.of_interpret.specs.TextActs.{names_in, text_acted, text_grows}
use Rattle.of_interpret.specs.TextWords.{text_act}
use Rattle.of_state.specs.State.{Calls, Outcome, State}

-- the word at a position of the latest text, with the position behind it and what it parses
abbrev pub word_at : {S : Type 0} → ℕ → State S → Found
word_at position s = text_read (names_in s) (base_in s.board.memory) (latest_text s.flow.texts) position

-- the text is read on at a position
abbrev pub read_from : {S : Type 0} → ℕ → State S → State S
read_from next s =
    record s { flow = record s.flow { reading = record s.flow.reading { input = input.Text next } } }

abbrev pub word_done : {S : Type 0} → Calls S → Found → State S → Outcome S
word_done c x s = text_acted c (text_act x.word (front_of (read_from x.next s))) (read_from x.next s)

-- what the word does at which the reading of a text stands
abbrev pub text_due : {S : Type 0} → Calls S → ℕ → State S → Outcome S
text_due c position s = word_done c (word_at position s) s

-- whether something grows by it
abbrev pub word_grows : {S : Type 0} → Found → State S → Bool
word_grows x s = text_grows (text_act x.word (front_of (read_from x.next s))) s.words

abbrev pub text_due_grows : {S : Type 0} → ℕ → State S → Bool
text_due_grows position s = word_grows (word_at position s) s
