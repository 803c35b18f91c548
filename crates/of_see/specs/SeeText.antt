-- What `see` prints of a word (IEEE 1275-1994, annex A, `see`; Forth 2012, 15.6.1.2194).
use Rattle.std.specs.Prelude.{ℕ, ◌/◌, ◌%◌, ◌&&◌, ◌||◌, ◌==◌, Bool, true, false, not, nat_le, nat_lt, if◌then◌else◌}
use Rattle.std.specs.Prelude.{List, [], ◌∷◌, ◌++◌, drop, length, Option, Some, None, Result, Ok, Err, codes}
use Rattle.std.specs.Char.{digit_char}
use Rattle.std.specs.List.{list_all}
use Rattle.of_cells.specs.declared.cells.Cell.{Cell}
use Rattle.of_fcodes.specs.declared.class.Class.{Class}
use Rattle.of_fcodes.specs.declared.class.Class.TheVariants as class
use Rattle.of_fcodes.specs.declared.words.Word.{Word as Written}
use Rattle.of_fcodes.specs.Finding.{class_of, name_written, word_with_xt}
use Rattle.of_memory.specs.declared.fault.MemFault.{MemFault}
use Rattle.of_memory.specs.Access.{read_bytes}
use Rattle.of_memory.specs.DataSpace.{DataSpace}
use Rattle.of_format.specs.Digits.{double_text, unsigned_text}
use Rattle.of_dict.specs.declared.word.Kind.{Kind}
use Rattle.of_dict.specs.declared.word.Kind.TheVariants as K
use Rattle.of_dict.specs.declared.word.Word.{Word}
use Rattle.of_dict.specs.Words.{is_immediate_in, kind_in, name_in}
use Rattle.of_code.specs.Code.{Code}
use Rattle.of_compile.specs.declared.element.Element.{Element}
use Rattle.of_compile.specs.declared.element.Element.TheVariants as E
use Rattle.of_compile.specs.declared.element.PlainItem.{PlainItem}
use Rattle.of_compile.specs.declared.element.PlainItem.TheVariants as P
use Rattle.of_compile.specs.Words.{own_word}
use Rattle.of_text.specs.Names.{Names, xt_named}
use Rattle.of_see.specs.SeeItems.{cells_to_return, see_items}

-- ---- numbers and strings

-- a number in hexadecimal digits, whatever the base
abbrev pub number_shown : ℕ → List ℕ
number_shown n = codes "h# " ++ unsigned_text 16 n

-- the same of a count, which may be more than a cell's number
abbrev pub count_shown : ℕ → List ℕ
count_shown n = codes "h# " ++ double_text 16 n

-- a byte that stands in a string as it is
abbrev pub is_plain : ℕ → Bool
is_plain b = nat_le 0x20 b && nat_le b 0x7E && not (b == 34)

-- a byte in a string, else in two digits: `"(hh)`
abbrev pub byte_shown : ℕ → List ℕ
byte_shown b = if is_plain b then b ∷ [] else 34 ∷ 40 ∷ digit_char (b / 16) ∷ digit_char (b % 16) ∷ 41 ∷ []

abbrev pub bytes_shown : List ℕ → List ℕ
bytes_shown [] = []
bytes_shown (b ∷ bytes) = byte_shown b ++ bytes_shown bytes

abbrev pub string_shown : List ℕ → List ℕ
string_shown bytes = codes "\" " ++ bytes_shown bytes ++ 34 ∷ []

-- the bytes that were read, or none
abbrev pub bytes_or_none : Result (List ℕ) MemFault → List ℕ
bytes_or_none (Ok bytes) = bytes
bytes_or_none (Err fault) = []

-- ---- names

-- the name of a written word, or else that of an own one
abbrev pub name_or_own : Option Written → Option (List ℕ) → Option (List ℕ)
name_or_own (Some word) own = Some (name_written word)
name_or_own None own = own

-- the name of the word with an execution token, as it was spelt
abbrev pub name_at : List (Option Word) → ℕ → Option (List ℕ)
name_at words xt = name_or_own (word_with_xt xt) (name_in (own_word words xt))

-- no byte separates words
abbrev pub are_solid : List ℕ → Bool
are_solid name = list_all (λ b. nat_lt 0x20 b) name

-- a name is one word of a line
abbrev pub is_one_word : List ℕ → Bool
is_one_word name = nat_lt 0 (length name) && are_solid name

abbrev pub is_xt : ℕ → Option Cell → Bool
is_xt xt None = false
is_xt xt (Some found) = found.0 == xt

-- a name, read as one word of a line, finds the word with an execution token
abbrev pub finds : Names → List ℕ → ℕ → Bool
finds n name xt = is_one_word name && is_xt xt (xt_named n name)

abbrev pub name_if : Names → ℕ → Option (List ℕ) → Option (List ℕ)
name_if n xt None = None
name_if n xt (Some name) = if finds n name xt then Some name else None

-- the name by which the word with an execution token is found, if it is
abbrev pub found_name : Names → ℕ → Option (List ℕ)
found_name n xt = name_if n xt (name_at n.words xt)

-- a class of words that act where they are read: they parse, or are only for compiling
abbrev pub is_acting : Class → Bool
is_acting class.Stream = false
is_acting class.Ordinary = false
is_acting class.Parsing = true
is_acting class.CompileOnly = true

abbrev pub acts : Option Written → Bool
acts None = false
acts (Some word) = is_acting (class_of word)

-- a word that is executed or parses while words are compiled: its name alone doesn't compile it
abbrev pub acts_at_once : List (Option Word) → ℕ → Bool
acts_at_once words xt = acts (word_with_xt xt) || is_immediate_in (own_word words xt)

-- the name by which a word is compiled, if it is
abbrev pub compiling_name : Names → ℕ → Option (List ℕ)
compiling_name n xt = if acts_at_once n.words xt then None else found_name n xt

-- ---- elements

-- a word by its name, or by its execution token where it has none that serves
abbrev pub name_or_number : ℕ → Option (List ℕ) → List ℕ → List ℕ → List ℕ
name_or_number xt (Some name) before behind = before ++ name
name_or_number xt None before behind = codes "[ " ++ number_shown xt ++ behind

-- a word that is called; one that calls itself does so by `recurse`
abbrev pub call_shown : Names → ℕ → ℕ → List ℕ
call_shown n self xt =
    if xt == self then codes "recurse"
    else name_or_number xt (compiling_name n xt) [] (codes " compile, ]")

-- a word that is stored into; while the definition is compiled its own name doesn't find it
abbrev pub stored_name : Names → ℕ → ℕ → Option (List ℕ)
stored_name n self xt = if xt == self then None else found_name n xt

abbrev pub store_shown : Names → ℕ → ℕ → List ℕ
store_shown n self xt = name_or_number xt (stored_name n self xt) (codes "to ") (codes " ] to,")

abbrev pub plain_shown : Names → DataSpace → ℕ → PlainItem → List ℕ
plain_shown n m self (P.Operation xt) = call_shown n self xt.0
plain_shown n m self (P.Literal x) = number_shown x.0
plain_shown n m self (P.String address count) = string_shown (bytes_or_none (read_bytes m address.0 count.0))
plain_shown n m self (P.Call xt) = call_shown n self xt.0
plain_shown n m self (P.Store xt) = store_shown n self xt.0

-- makes a branch the latest which so many others are later than
abbrev pub roll_shown : ℕ → List ℕ
roll_shown later = codes "[ " ++ count_shown later ++ codes " ] cs-roll"

-- a branch forward or back, only on zero or always; and the words that begin and end a loop
abbrev pub branch_shown : Bool → List ℕ
branch_shown true = codes "if"
branch_shown false = codes "ahead"

abbrev pub back_shown : Bool → List ℕ
back_shown true = codes "until"
back_shown false = codes "again"

abbrev pub do_shown : Bool → List ℕ
do_shown true = codes "?do"
do_shown false = codes "do"

abbrev pub loop_shown : Bool → List ℕ
loop_shown true = codes "+loop"
loop_shown false = codes "loop"

abbrev pub element_shown : Names → DataSpace → ℕ → Element → List ℕ
element_shown n m self (E.Plain k) = plain_shown n m self k
element_shown n m self (E.Branch z t) = branch_shown z
element_shown n m self (E.Resolve p) = codes "then"
element_shown n m self (E.Mark p) = codes "begin"
element_shown n m self (E.Back z t) = back_shown z
element_shown n m self (E.Roll later) = roll_shown later
element_shown n m self (E.Do q) = do_shown q
element_shown n m self (E.Loop l) = loop_shown l
element_shown n m self E.Leave = codes "leave"
element_shown n m self E.Case = codes "case"
element_shown n m self E.Of = codes "of"
element_shown n m self E.EndOf = codes "endof"
element_shown n m self E.EndCase = codes "endcase"
element_shown n m self (E.Misfit k) = plain_shown n m self k

-- each with a space before it
abbrev pub elements_shown : Names → DataSpace → ℕ → List Element → List ℕ
elements_shown n m self [] = []
elements_shown n m self (e ∷ es) = 32 ∷ element_shown n m self e ++ elements_shown n m self es

-- ---- words

-- the name of a word, or its execution token where it has none
abbrev pub title : ℕ → Option (List ℕ) → List ℕ
title xt (Some name) = name
title xt None = number_shown xt

-- the elements of the definition that begins at a cell
abbrev pub definition_elements : Code → ℕ → List Element
definition_elements c start = see_items start (cells_to_return (drop start c.cells))

-- a colon definition on one line
abbrev pub definition_shown : Names → DataSpace → Code → ℕ → ℕ → List ℕ
definition_shown n m c xt start =
    codes ": " ++ title xt (name_at n.words xt) ++ elements_shown n m xt (definition_elements c start)
    ++ codes " ;" ++ 10 ∷ []

-- another word on one line: what it does, and its name
abbrev pub word_shown : Names → ℕ → List ℕ → List ℕ
word_shown n xt kind = kind ++ 32 ∷ title xt (name_at n.words xt) ++ 10 ∷ []

-- an own word, by what it does
abbrev pub own_shown : Names → DataSpace → Code → ℕ → Kind → List ℕ
own_shown n m c xt (K.Colon start) = definition_shown n m c xt start
own_shown n m c xt (K.Constant value) = word_shown n xt (codes "constant")
own_shown n m c xt (K.Value value) = word_shown n xt (codes "value")
own_shown n m c xt (K.Variable address) = word_shown n xt (codes "variable")
own_shown n m c xt (K.Create address) = word_shown n xt (codes "create")
own_shown n m c xt (K.Defer target) = word_shown n xt (codes "defer")
own_shown n m c xt (K.Buffer address) = word_shown n xt (codes "buffer")
own_shown n m c xt (K.Field offset) = word_shown n xt (codes "field")
own_shown n m c xt (K.PerInstance slot number) = word_shown n xt (codes "slot per instance")

-- a written word, or an own one, or no word
abbrev pub written_or_own : Names → DataSpace → Code → ℕ → Option Written → Option Kind → List ℕ
written_or_own n m c xt (Some word) own = word_shown n xt (codes "primitive")
written_or_own n m c xt None (Some kind) = own_shown n m c xt kind
written_or_own n m c xt None None = []

-- What `see` prints of the word with an execution token; nothing where that is no word's.
abbrev pub see_text : Names → DataSpace → Code → Cell → List ℕ
see_text n m c xt = written_or_own n m c xt.0 (word_with_xt xt.0) (kind_in (own_word n.words xt.0))
