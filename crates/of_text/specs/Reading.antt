-- What stands next in a text, with all that it parses (Forth 2012, 3.4; IEEE 1275-1994, 2.3).
use Rattle.std.specs.Prelude.{ℕ, ◌+◌, ◌-◌, false, List, [], length, take, drop, Option, Some, None, Result, Ok}
use Rattle.of_cells.specs.declared.cells.Cell.{Cell}
use Rattle.of_stacks.specs.declared.throws.Throw.{Throw}
use Rattle.of_fcodes.specs.declared.console_words.CompilingWord.{CompilingWord}
use Rattle.of_fcodes.specs.declared.console_words.CompilingWord.TheVariants as compiling
use Rattle.of_fcodes.specs.declared.console_words.ParsingWord.{ParsingWord}
use Rattle.of_fcodes.specs.declared.console_words.ParsingWord.TheVariants as parsing
use Rattle.of_fcodes.specs.declared.words.Word.{Word}
use Rattle.of_fcodes.specs.declared.words.Word.TheVariants as word
use Rattle.of_fcodes.specs.Finding.{xt_of}
use Rattle.of_dict.specs.Words.{is_immediate_in}
use Rattle.of_compile.specs.declared.defining.DefiningWord.{DefiningWord}
use Rattle.of_compile.specs.declared.defining.DefiningWord.TheVariants as defining
use Rattle.of_compile.specs.Words.{own_word}
use Rattle.of_scan.specs.Parts.{part_to, quoted_part}
use Rattle.of_scan.specs.Scan.{Rest, left_of, next_word, rest_at, start_of}
use Rattle.of_text.specs.declared.words.Found.{Found}
use Rattle.of_text.specs.declared.words.Part.{Part}
use Rattle.of_text.specs.declared.words.TextWord.{TextWord}
use Rattle.of_text.specs.declared.words.TextWord.TheVariants as text
use Rattle.of_text.specs.Names.{Names, first_byte, known_name, number_named, own_named, written_named}

-- the bytes of a part
abbrev pub bytes_in : List ℕ → Part → List ℕ
bytes_in text p = take (p.end - p.begin) (drop p.begin text)

-- what is read, and what is left of the text
abbrev pub Read : Type 0
Read = TextWord × Rest

-- ---- what words parse

-- the next word, which is empty where none is left, and what is left behind it
abbrev pub or_end : Rest → Option (List ℕ × Rest) → List ℕ × Rest
or_end r None = ([], rest_at (r.at + length r.text) [])
or_end r (Some x) = x

abbrev pub name_behind : Rest → List ℕ × Rest
name_behind r = or_end r (next_word r)

-- where it stands
abbrev pub part_or_end : Rest → Option (List ℕ × Rest) → Part
part_or_end r None = record { begin = r.at + length r.text; end = r.at + length r.text }
part_or_end r (Some x) = record { begin = start_of r; end = x.1.at }

abbrev pub part_behind : Rest → Part
part_behind r = part_or_end r (next_word r)

-- a string begins behind the one byte that ends its word
abbrev pub behind_byte : Rest → Rest
behind_byte r = left_of r (drop 1 r.text)

-- where the string stands that begins here and goes on up to a byte
abbrev pub part_from : ℕ → Rest → Part
part_from end r = record { begin = r.at; end = r.at + length (part_to end r.text).0 }

-- what is left behind that byte
abbrev pub past : ℕ → Rest → Rest
past end r = left_of r (part_to end r.text).1

-- what is left behind the string of the word `"`
abbrev pub behind_quoted : Rest → Rest
behind_quoted r = left_of r (quoted_part r.text).1

-- a defining word, with the name behind it
abbrev pub naming : DefiningWord → Rest → Read
naming d r = (text.Defining d (part_behind r), (name_behind r).1)

-- a word that does something with the next word
abbrev pub by_name : (List ℕ → TextWord) → Rest → Read
by_name f r = (f (name_behind r).0, (name_behind r).1)

-- a word with a string behind it
abbrev pub by_string : (Part → TextWord) → Rest → Read
by_string f r = (f (part_from 34 (behind_byte r)), past 34 (behind_byte r))

-- The table: a word that parses, and what is left behind it.
unfoldable pub parsing_read : ParsingWord → Names → Rest → Read
parsing_read parsing.Colon n r = naming defining.Colon r
parsing_read parsing.Constant n r = naming defining.Constant r
parsing_read parsing.Value n r = naming defining.Value r
parsing_read parsing.Variable n r = naming defining.Variable r
parsing_read parsing.Create n r = naming defining.Create r
parsing_read parsing.Defer n r = naming defining.Defer r
parsing_read parsing.Buffer n r = naming defining.Buffer r
parsing_read parsing.Field n r = naming defining.Field r
parsing_read parsing.Tick n r = by_name (λ name. text.Tick (known_name n name)) r
parsing_read parsing.To n r = by_name (λ name. text.To (known_name n name)) r
parsing_read parsing.See n r = by_name (λ name. text.See (known_name n name)) r
parsing_read parsing.Device n r = (text.Device (part_behind r), (name_behind r).1)
parsing_read parsing.SourceString n r = by_string (λ p. text.Plain p) r
parsing_read parsing.String n r = (text.Quoted (behind_byte r).at, behind_quoted (behind_byte r))
parsing_read parsing.PrintString n r = by_string (λ p. text.Printed p) r
parsing_read parsing.Hexadecimal n r = by_name (λ name. text.Number (number_named (Ok 16) name)) r
parsing_read parsing.DecimalNumber n r = by_name (λ name. text.Number (number_named (Ok 10) name)) r
parsing_read parsing.Char n r = by_name (λ name. text.Char (first_byte name)) r
parsing_read parsing.Comment n r = (text.Comment, past 41 (behind_byte r))
parsing_read parsing.LineComment n r = (text.Comment, past 10 r)

-- The same of the words that serve while words are compiled: but for two they parse nothing.
unfoldable pub compiling_read : CompilingWord → Names → Rest → Read
compiling_read compiling.BracketTick n r = by_name (λ name. text.BracketTick (known_name n name)) r
compiling_read compiling.BracketChar n r = by_name (λ name. text.BracketChar (first_byte name)) r
compiling_read w n r = (text.Compiling w, r)

-- ---- a word

-- a word that was read, and what is left behind it
abbrev pub Named : Type 0
Named = List ℕ × Rest

-- a written word that isn't looked into
abbrev pub ordinary_read : Word → Named → Read
ordinary_read w x = (text.Found (record { 0 = xt_of w }) false, x.1)

-- a written word with what it parses; where there is none, the name is a number
abbrev pub written_read : Option Word → Names → Result ℕ Throw → Named → Read
written_read None n base x = (text.Number (number_named base x.0), x.1)
written_read (Some (word.Parsing w)) n base x = parsing_read w n x.1
written_read (Some (word.Compiling w)) n base x = compiling_read w n x.1
written_read (Some (word.Stream w)) n base x = ordinary_read (word.Stream w) x
written_read (Some (word.Primitive w)) n base x = ordinary_read (word.Primitive w) x
written_read (Some (word.Printing w)) n base x = ordinary_read (word.Printing w) x
written_read (Some (word.Heap w)) n base x = ordinary_read (word.Heap w) x
written_read (Some (word.Keys w)) n base x = ordinary_read (word.Keys w) x
written_read (Some (word.Returns w)) n base x = ordinary_read (word.Returns w) x
written_read (Some (word.Dictionary w)) n base x = ordinary_read (word.Dictionary w) x
written_read (Some (word.Throws w)) n base x = ordinary_read (word.Throws w) x
written_read (Some (word.Properties w)) n base x = ordinary_read (word.Properties w) x
written_read (Some (word.Tree w)) n base x = ordinary_read (word.Tree w) x
written_read (Some (word.Devices w)) n base x = ordinary_read (word.Devices w) x
written_read (Some (word.Console w)) n base x = ordinary_read (word.Console w) x

-- an own word, or else a written one or a number
abbrev pub own_or_written : Option Cell → Names → Result ℕ Throw → Named → Read
own_or_written (Some xt) n base x = (text.Found xt (is_immediate_in (own_word n.words xt.0)), x.1)
own_or_written None n base x = written_read (written_named x.0) n base x

-- a word that is left, or the end of the text
abbrev pub word_or_end : Option Named → Names → Result ℕ Throw → Rest → Read
word_or_end None n base r = (text.End, rest_at (r.at + length r.text) [])
word_or_end (Some x) n base r = own_or_written (own_named n x.0) n base x

-- What stands next in what is left of a text, where numbers are read in a base, if there is one.
abbrev pub word_read : Names → Result ℕ Throw → Rest → Read
word_read n base r = word_or_end (next_word r) n base r

-- the same with positions alone
abbrev pub found_in : Read → Found
found_in x = record { word = x.0; next = x.1.at }

abbrev pub text_read : Names → Result ℕ Throw → List ℕ → ℕ → Found
text_read n base bytes at = found_in (word_read n base (rest_at at (drop at bytes)))
