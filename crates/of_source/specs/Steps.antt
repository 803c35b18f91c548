-- What each word of a source does (IEEE 1275-1994, 5.3 and annex C; Forth 2012, 3.4).
use Rattle.std.specs.Prelude.{◌≡◌, ℕ, ◌+◌, Bool, true, false, List, [], ◌∷◌, ◌++◌, length, slice_index}
use Rattle.std.specs.Prelude.{is_some, Option, Some, None, Result, Ok, Err, nat_eq, nat_lt, nat_le, if◌then◌else◌}
use Rattle.of_cells.specs.declared.cells.Cell.{Cell}
use Rattle.of_fcodes.specs.declared.codes.FCode.{FCode}
use Rattle.of_stream.specs.Decoding.{Token}
use Rattle.of_source.specs.declared.fault.SourceFault.{SourceFault}
use Rattle.of_source.specs.declared.fault.SourceFault.TheVariants.{Unclosed, Unknown, BadNumber, TooLong, NoMemory}
use Rattle.of_source.specs.declared.keyword.Quote.{Quote}
use Rattle.of_source.specs.declared.keyword.Quote.TheVariants as quote
use Rattle.of_source.specs.declared.keyword.Keyword.{Keyword}
use Rattle.of_source.specs.declared.keyword.Keyword.TheVariants as keyword
use Rattle.of_source.specs.declared.keyword.Lone.{Lone}
use Rattle.of_source.specs.declared.keyword.Radix.{Radix}
use Rattle.of_source.specs.Radix.{base_of}
use Rattle.of_source.specs.Names.{Own, own_in}
use Rattle.of_scan.specs.Scan.{Rest, left_of, start_of, next_word, Found, quoted_string, plain_string, line_end}
use Rattle.of_scan.specs.declared.numbers.Number.{Number}
use Rattle.of_scan.specs.declared.numbers.Number.TheVariants.{Value, OutOfRange, NoNumber}
use Rattle.of_scan.specs.Numbers.{number_in}
use Rattle.of_source.specs.Keywords.{keyword_named, ordinary_named}
use Rattle.of_source.specs.Items.{Item, Made, Source, own_code, call, literal, string, naming, bare}
use Rattle.of_source.specs.Items as item
use Rattle.of_source.specs.Nesting.{Nesting, nothing_open, in_definition, is_straight, is_closed, first_open}
use Rattle.of_source.specs.Effects.{Effect, effect_of, Where, Anywhere, Inside, Straight, Making, making_of, Setting}
use Rattle.of_source.specs.Effects.{first_setting, made, next_own}

-- what is known at a word
pub record State : Type 0 where
  pub at : ℕ  -- at which it stands
  pub rest : Rest
  pub setting : Setting
  pub nesting : Nesting
  pub items : List Item

-- the state in which a source begins
abbrev pub beginning : Rest → State
beginning r = record {
  at = r.at;
  rest = r;
  setting = first_setting;
  nesting = nothing_open;
  items = [];
}

-- a word's part in a source: what is known behind it, the end of the source, or a fault
pub data Step : Type 0 where
  Goes : State → Step
  Ends : State → Step
  Fails : SourceFault → Step

-- with more items
abbrev pub giving : List Item → State → State
giving more s = record s { items = s.items ++ more }

-- with other structures open
abbrev pub opening : Nesting → State → State
opening n s = record s { nesting = n }

-- behind what was read
abbrev pub reading_on : Rest → State → State
reading_on r s = record s { rest = r }

-- at the next word, behind which this is left
abbrev pub at_next : Rest → State → State
at_next r s = record s { at = start_of s.rest; rest = r }

-- with a change of what else is known
abbrev pub changed : (Setting → Setting) → State → State
changed f s = record s { setting = f s.setting }

-- ---- names

-- an own definition goes before an ordinary word
abbrev pub named_code : Option ℕ → Option FCode → Option FCode
named_code (Some k) ordinary = Some (own_code k)
named_code None ordinary = ordinary

-- the FCode that a name stands for
abbrev pub code_named : List Own → List ℕ → Option FCode
code_named known name = named_code (own_in known name) (ordinary_named name)

-- ---- tokens of numbers

-- the cells -1 to 3 have FCodes of their own
abbrev pub number_token : Cell → Token
number_token x = if nat_eq x.0 0xffffffff then bare 0x0a4 else if nat_le x.0 3 then bare (0x0a5 + x.0) else literal x

-- a number as an item
abbrev pub number_items : Cell → List Item
number_items x = item.Plain (number_token x) ∷ []

-- ---- words that read on

-- the fault of a text that ends too early, with the place of the first opener left open, or of the last byte
abbrev pub ended : ℕ → State → SourceFault
ended last s = Unclosed (first_open last s.nesting)

-- with the next word, which must be there
abbrev pub with_next : SourceFault → Option (List ℕ × Rest) → (List ℕ → Rest → Step) → Step
with_next f None go = Fails f
with_next f (Some w) go = go w.0 w.1

-- the name of a definition, of at most 31 bytes
abbrev pub name_if : ℕ → List ℕ → Rest → State → Result (List ℕ × State) SourceFault
name_if at name r s = if nat_lt 31 (length name) then Err (TooLong at) else Ok (name, reading_on r s)

-- the name at the next word, which must be there
abbrev pub name_found : ℕ → State → Option (List ℕ × Rest) → Result (List ℕ × State) SourceFault
name_found last s None = Err (ended last s)
name_found last s (Some w) = name_if (start_of s.rest) w.0 w.1 s

-- the name of a definition, and the state behind it
abbrev pub name_read : ℕ → State → Result (List ℕ × State) SourceFault
name_read last s = name_found last s (next_word s.rest)

-- with a name, where it was read
abbrev pub with_name : Result (List ℕ × State) SourceFault → (List ℕ → State → Step) → Step
with_name (Err f) go = Fails f
with_name (Ok r) go = go r.0 r.1

-- with an FCode, where there is one
abbrev pub with_code : ℕ → Option FCode → (FCode → Step) → Step
with_code at None go = Fails (Unknown at)
with_code at (Some c) go = go c

-- `'`, `[']` or `to` with the word that follows
abbrev pub naming_step : ℕ → FCode → State → Step
naming_step last t s =
    with_next (ended last s) (next_word s.rest)
    (λ name r. with_code (start_of s.rest) (code_named s.setting.names name)
    (λ c. Goes (giving (item.Plain (naming t c) ∷ []) (reading_on r s))))

-- with a number, which must be there
abbrev pub number_or_bad : ℕ → Number → (Cell → Step) → Step
number_or_bad at (Value x) go = go x
number_or_bad at OutOfRange go = Fails (BadNumber at)
number_or_bad at NoNumber go = Fails (BadNumber at)

-- `h#` or `d#`
abbrev pub number_step : Radix → State → Step
number_step base s =
    with_next (BadNumber s.at) (next_word s.rest)
    (λ word r. number_or_bad s.at (number_in (base_of base) word)
    (λ x. Goes (giving (number_items x) (reading_on r s))))

-- `char` or `[char]`: the first byte of the next word
abbrev pub character_step : ℕ → State → Step
character_step last s =
    with_next (ended last s) (next_word s.rest)
    (λ word r. Goes (giving (number_items (record { 0 = slice_index word 0 })) (reading_on r s)))

-- a string that was found, of at most 255 bytes
abbrev pub with_string : State → Found → (List ℕ → State → Step) → Step
with_string s None go = Fails (Unknown s.at)
with_string s (Some r) go =
    if nat_lt 255 (length r.0) then Fails (TooLong s.at) else go r.0 (reading_on (left_of s.rest r.1) s)

-- the string behind `"`, `s"` or `."`
abbrev pub string_found : Quote → List ℕ → Found
string_found quote.Bytes text = quoted_string text
string_found quote.Plain text = plain_string 34 text
string_found quote.Printed text = plain_string 34 text

-- the string, which `."` also prints
abbrev pub string_items : Quote → List ℕ → List Item
string_items quote.Bytes bytes = item.Plain (string bytes) ∷ []
string_items quote.Plain bytes = item.Plain (string bytes) ∷ []
string_items quote.Printed bytes = item.Plain (string bytes) ∷ item.Plain (bare 0x090) ∷ []

-- `"`, `s"` or `."`
abbrev pub text_step : Quote → State → Step
text_step q s = with_string s (string_found q s.rest.text) (λ bytes t. Goes (giving (string_items q bytes) t))

-- a comment has any length
abbrev pub comment_step : State → Found → Step
comment_step s None = Fails (Unknown s.at)
comment_step s (Some r) = Goes (reading_on (left_of s.rest r.1) s)

-- ---- definitions

-- outside all definitions
abbrev pub if_outside : State → Step → Step
if_outside s go = if in_definition s.nesting.parts then Fails (Unknown s.at) else go

-- a defining word, with the name that follows
abbrev pub defining_step : ℕ → Making → State → Step
defining_step last w s =
    if_outside s (with_name (name_read last (opening (w.opens s.at s.nesting) s))
    (λ name r. Goes (changed (w.changes (next_own name s.setting)) (giving (w.gives (made name s.setting) ∷ []) r))))

-- ---- words that take nothing from the text

-- a word that stands there may do so
abbrev pub may_stand : Where → State → Bool
may_stand Anywhere s = true
may_stand Inside s = is_some s.setting.open_one
may_stand Straight s = is_straight s.nesting

-- a word has this effect, where this may be left open
abbrev pub effect_step : Effect → Option Nesting → State → Step
effect_step e None s = Fails (Unclosed s.at)
effect_step e (Some n) s =
    if may_stand e.stands s then Goes (changed e.changes (giving (e.gives s.at s.setting.open_one) (opening n s)))
    else Fails (Unknown s.at)

-- what a keyword does that takes nothing from the text
abbrev pub lone_step : Lone → State → Step
lone_step w s = effect_step (effect_of w) ((effect_of w).opens s.at s.nesting) s

-- ---- one word

-- what a keyword does
abbrev pub keyword_step : ℕ → Keyword → State → Step
keyword_step last keyword.Finish s =
    if is_closed s.nesting then Ends s else Fails (Unclosed (first_open 0 s.nesting))
keyword_step last keyword.Comment s = comment_step s (plain_string 41 s.rest.text)
keyword_step last keyword.LineComment s = Goes (reading_on (left_of s.rest (line_end s.rest.text)) s)
keyword_step last (keyword.NumberIn base) s = number_step base s
keyword_step last keyword.Character s = character_step last s
keyword_step last (keyword.Text q) s = text_step q s
keyword_step last (keyword.Defining w) s = defining_step last (making_of w) s
keyword_step last (keyword.Naming t) s = naming_step last t s
keyword_step last (keyword.Lone w) s = lone_step w s

-- a word that is no name: a number in the radix of the text
abbrev pub number_word_step : State → Number → Step
number_word_step s (Value x) = Goes (giving (number_items x) s)
number_word_step s OutOfRange = Fails (BadNumber s.at)
number_word_step s NoNumber = Fails (Unknown s.at)

-- a word that is neither an own name nor a keyword
abbrev pub ordinary_step : List ℕ → State → Option FCode → Step
ordinary_step word s (Some c) = Goes (giving (item.Plain (call c) ∷ []) s)
ordinary_step word s None = number_word_step s (number_in (base_of s.setting.radix) word)

-- a word that is no own name
abbrev pub listed_step : ℕ → List ℕ → State → Option Keyword → Step
listed_step last word s (Some k) = keyword_step last k s
listed_step last word s None = ordinary_step word s (ordinary_named word)

-- an own name, or another word
abbrev pub own_step : ℕ → List ℕ → State → Option ℕ → Step
own_step last word s (Some k) = Goes (giving (item.Plain (call (own_code k)) ∷ []) s)
own_step last word s None = listed_step last word s (keyword_named word)

-- a word: an own name goes before all others
unfoldable pub word_step : ℕ → List ℕ → State → Step
word_step last word s = own_step last word s (own_in s.setting.names word)

-- the next word of a text
abbrev pub next_step : ℕ → State → Step
next_step last s = with_next (ended last s) (next_word s.rest) (λ word r. word_step last word (at_next r s))

-- a call took this step from a state to another (and says whether the source goes on), or was refused memory
abbrev pub Steps : Step → State → Result Bool SourceFault → Type 0
Steps step new (Ok true) = step ≡ Goes new
Steps step new (Ok false) = step ≡ Ends new
Steps step new (Err NoMemory) = Unit {0}
Steps step new (Err (Unclosed at)) = step ≡ Fails (Unclosed at)
Steps step new (Err (Unknown at)) = step ≡ Fails (Unknown at)
Steps step new (Err (BadNumber at)) = step ≡ Fails (BadNumber at)
Steps step new (Err (TooLong at)) = step ≡ Fails (TooLong at)
