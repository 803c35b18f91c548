-- What keywords do: a row for each that takes nothing from the text behind it, and for each defining word (IEEE
-- 1275-1994, 5.3 and annex C; Forth 2012, A.3.2.3.2).
use Rattle.std.specs.Prelude.{ℕ, false, List, [], ◌∷◌, length, Option, Some, None}
use Rattle.of_source.specs.declared.keyword.Maker.{Maker}
use Rattle.of_source.specs.declared.keyword.Maker.TheVariants.{Named}
use Rattle.of_source.specs.declared.keyword.Radix.{Radix}
use Rattle.of_source.specs.declared.keyword.Radix.TheVariants.{Hexadecimal}
use Rattle.of_source.specs.declared.keyword.Definer.{Definer}
use Rattle.of_source.specs.declared.keyword.Definer.TheVariants as definer
use Rattle.of_source.specs.declared.keyword.Lone.{Lone}
use Rattle.of_source.specs.declared.keyword.Lone.TheVariants as lone
use Rattle.of_source.specs.declared.nesting.Part.{Part}
use Rattle.of_source.specs.declared.nesting.Part.TheVariants as part
use Rattle.of_source.specs.Names.{Own}
use Rattle.of_source.specs.Items.{Item, Made, own_code, call, bare}
use Rattle.of_source.specs.Items as item
use Rattle.of_source.specs.Nesting.{Nesting, with_branch, with_part, without_branch, without_begin, without_part}
use Rattle.of_source.specs.Nesting.{then_without_branch, then_with_branch, opened_if, in_loop, on_case}

-- where a keyword stands, beyond what it closes
pub data Where : Type 0 where
  Anywhere : Where
  Inside : Where  -- in a definition
  Straight : Where  -- in no control structure

-- what else is known behind a word: the radix of numbers, what gives the next definition its number, the definitions
-- that can be named, latest first, and the one that is open
pub record Setting : Type 0 where
  pub radix : Radix
  pub maker : Maker
  pub names : List Own
  pub open_one : Option Own

-- what is known at the beginning
abbrev pub first_setting : Setting
first_setting = record { radix = Hexadecimal; maker = Named; names = []; open_one = None }

-- the definition of this name that begins, with the next number
abbrev pub made : List ℕ → Setting → Made
made name c = record { maker = c.maker; name = name; number = length c.names }

abbrev pub next_own : List ℕ → Setting → Own
next_own name c = record { name = name; number = length c.names }

-- the names, and that of the definition that is open, if one is
abbrev pub known_with : Option Own → List Own → List Own
known_with None known = known
known_with (Some d) known = d ∷ known

abbrev pub all_names : Setting → List Own
all_names c = known_with c.open_one c.names

-- a definition can be named from here on
abbrev pub can_name : Own → Setting → Setting
can_name d c = record c { names = d ∷ c.names }

-- a definition is open
abbrev pub has_open : Own → Setting → Setting
has_open d c = record c { open_one = Some d }

-- the open definition is closed, and can be named
abbrev pub open_ends : Setting → Setting
open_ends c = record c { names = all_names c; open_one = None }

-- ---- keywords that take nothing

-- what a keyword does
pub record Effect : Type 0 where
  pub stands : Where
  pub opens : ℕ → Nesting → Option Nesting  -- what is open behind it at a place; none with nothing to close or stand in
  pub gives : ℕ → Option Own → List Item  -- its items at a place, in the definition that is open
  pub changes : Setting → Setting

-- the items of a token or two, wherever they stand
abbrev pub tokens : List Item → Effect
tokens items = record { stands = Anywhere; opens = λ at n. Some n; gives = λ at one. items; changes = λ c. c }

-- a change, without items
abbrev pub changing : (Setting → Setting) → Effect
changing f = record (tokens []) { changes = f }

-- a word of a control structure: what is open behind it, and its items
abbrev pub control : (ℕ → Nesting → Option Nesting) → (ℕ → List Item) → Effect
control opens items = record (tokens []) { opens = opens; gives = λ at one. items at }

-- the open definition, if one is, by its number
abbrev pub recursion : Option Own → List Item
recursion None = []
recursion (Some d) = item.Plain (call (own_code d.number)) ∷ []

-- opening and closing a part
abbrev pub starting : Part → ℕ → Nesting → Option Nesting
starting k at n = Some (with_part k at n)

abbrev pub ending : Part → ℕ → Nesting → Option Nesting
ending k at n = without_part k n

abbrev pub effect_of : Lone → Effect
effect_of (lone.One t) = tokens (item.Plain (call t) ∷ [])
effect_of (lone.Two t u) = tokens (item.Plain (call t) ∷ item.Plain (call u) ∷ [])
effect_of (lone.Headers m) = changing (λ c. record c { maker = m })
effect_of (lone.Radix base) = changing (λ c. record c { radix = base })
effect_of lone.Offset16 = record (tokens (item.Plain (bare 0x0cc) ∷ [])) { stands = Straight }
effect_of lone.Recurse = record (tokens []) { stands = Inside; gives = λ at one. recursion one }
effect_of lone.Semicolon =
    record (control (ending part.Definition) (λ at. item.Semicolon ∷ [])) { changes = λ c. open_ends c }
effect_of lone.If = control (λ at n. Some (with_branch at n)) (λ at. item.If at ∷ [])
effect_of lone.Else = control (λ at n. then_with_branch at (without_branch n)) (λ at. item.Else at ∷ [])
effect_of lone.Then = control (λ at n. without_branch n) (λ at. item.Then ∷ [])
effect_of lone.Begin = control (starting part.Begin) (λ at. item.Begin ∷ [])
effect_of (lone.Back z) = control (λ at n. without_begin n) (λ at. item.Back z at ∷ [])
effect_of lone.Repeat =
    control (λ at n. then_without_branch (without_begin n)) (λ at. item.Back false at ∷ item.Then ∷ [])
effect_of (lone.Do q) = control (starting part.Do) (λ at. item.Do q at ∷ [])
effect_of (lone.Loop q) = control (ending part.Do) (λ at. item.Loop q at ∷ [])
effect_of lone.Leave = control (λ at n. opened_if (in_loop n.parts) n) (λ at. item.Leave ∷ [])
effect_of lone.Case = control (starting part.Case) (λ at. item.Case ∷ [])
effect_of lone.Of = control (λ at n. opened_if (on_case n) (with_part part.Of at n)) (λ at. item.Of at ∷ [])
effect_of lone.EndOf = control (ending part.Of) (λ at. item.EndOf at ∷ [])
effect_of lone.EndCase = control (ending part.Case) (λ at. item.EndCase ∷ [])

-- ---- defining words

-- what a defining word does with the name that follows it
pub record Making : Type 0 where
  pub opens : ℕ → Nesting → Nesting  -- what is open while the name is read
  pub gives : Made → Item
  pub changes : Own → Setting → Setting

abbrev pub making_of : Definer → Making
making_of definer.Colon =
    record { opens = λ at n. with_part part.Definition at n; gives = λ m. item.Colon m; changes = λ d c. has_open d c }
making_of (definer.Other t) =
    record { opens = λ at n. n; gives = λ m. item.Defining m t; changes = λ d c. can_name d c }
