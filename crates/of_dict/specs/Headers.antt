-- The headers of words in memory: each number in four bytes, the high one first, and what else there is in one byte
-- each (IEEE 1275-1994, 5.3.3.1; Forth 2012, 3.3.1).
use Rattle.std.specs.Prelude.{ℕ, ◌==◌, List, map, take, Option, Some, None, if◌then◌else◌}
use Rattle.std.specs.Int.{from_be_bytes, w32}
use Rattle.of_dict.specs.declared.header.Form.{Form}
use Rattle.of_dict.specs.declared.header.Form.TheVariants as form
use Rattle.of_dict.specs.declared.word.Kind.{Kind}
use Rattle.of_dict.specs.declared.word.Kind.TheVariants as kind
use Rattle.of_dict.specs.declared.word.Slot.TheVariants as slot
use Rattle.of_dict.specs.declared.word.Word.{Word}

-- what a header says: its word, unless that was taken away, and the number of the word before it that has its name
pub record Entry : Type 0 where
  pub word : Option Word
  pub link : Option ℕ

-- the words of headers, and the words before these that have their names
abbrev pub words_of : List Entry → List (Option Word)
words_of entries = map (λ e. e.word) entries

abbrev pub links_of : List Entry → List (Option ℕ)
links_of entries = map (λ e. e.link) entries

-- the word of a header, if there is one
abbrev pub word_in : Option Entry → Option Word
word_in None = None
word_in (Some e) = e.word

-- what stands in a link where there is no word before
abbrev pub no_link : ℕ
no_link = 0xFFFF_FFFF

-- the number in four bytes
abbrev pub number_in : List ℕ → ℕ
number_in bytes = from_be_bytes w32 bytes

abbrev pub link_in : ℕ → Option ℕ
link_in n = if n == no_link then None else Some n

-- the name in so many bytes of its place; a word of none has no name
abbrev pub named : ℕ → List ℕ → Option (List ℕ)
named n bytes = if n == 0 then None else Some (take n bytes)

-- what a word does, by the byte for that, with the number that it keeps
abbrev pub kind_with : Form → ℕ → Kind
kind_with form.Colon n = kind.Colon n
kind_with form.Constant n = kind.Constant (record { 0 = n })
kind_with form.Value n = kind.Value (record { 0 = n })
kind_with form.Variable n = kind.Variable (record { 0 = n })
kind_with form.Create n = kind.Create (record { 0 = n })
kind_with form.Defer n = kind.Defer (record { 0 = n })
kind_with form.Buffer n = kind.Buffer (record { 0 = n })
kind_with form.Field n = kind.Field (record { 0 = n })
kind_with form.SlotValue n = kind.PerInstance slot.Value n
kind_with form.SlotVariable n = kind.PerInstance slot.Variable n
kind_with form.SlotBuffer n = kind.PerInstance slot.Buffer n
kind_with form.SlotDefer n = kind.PerInstance slot.Defer n
