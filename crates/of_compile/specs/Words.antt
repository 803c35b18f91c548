-- The words that images define: dictionary and token table, and what a token maker left for the next word that is
-- defined (IEEE 1275-1994, 5.2.2.2, 5.3.3.1 and annex A, `new-token`, `named-token`, `external-token`).
use Rattle.std.specs.Prelude.{ℕ, ◌≡◌, ◌≤◌, ◌<◌, ◌+◌, ◌-◌, ◌/◌, ◌%◌, Bool, true, false, nat_eq, nat_le, nat_lt, ◌&&◌}
use Rattle.std.specs.Prelude.{◌||◌, not, List, [], ◌∷◌, length, Option, Some, None, Result, option_and_then, is_some}
use Rattle.std.specs.Prelude.{if◌then◌else◌}
use Rattle.std.specs.Option.{option_map}
use Rattle.of_stacks.specs.declared.throws.Throw.{Throw}
use Rattle.of_stacks.specs.Throws.{compiler_nesting, empty_name, invalid_argument, long_name}
use Rattle.of_stacks.specs.Order.{counting, fault_if, unless}
use Rattle.of_fcodes.specs.declared.codes.FCode.{FCode}
use Rattle.of_fcodes.specs.Finding.{word_with_xt}
use Rattle.of_fcodes.specs.Tokens.{Table, first_table}
use Rattle.of_memory.specs.Access.{number_at}
use Rattle.of_memory.specs.DataSpace.{DataSpace}
use Rattle.of_memory.specs.Regions.{scratch_start}
use Rattle.of_dict.specs.declared.word.Word.{Word}
use Rattle.of_dict.specs.Words.{capacity, longest_name, name_in, newest, word_at, xt_of}
use Rattle.of_compile.specs.declared.words.Pending.{Pending}
use Rattle.of_compile.specs.declared.words.TokenMaker.{TokenMaker}
use Rattle.of_compile.specs.declared.words.TokenMaker.TheVariants.{New, Named, External}

pub record WordsState : Type 0 where
  -- the own words that were ever made
  pub dictionary : List (Option Word)
  -- what each FCode names
  pub table : Table
  -- the number for the next word, and its name, if it gets one
  pub pending : Option Pending
  -- `instance` waits for the next word that can be one of each instance
  pub waiting : Bool
  -- the number of the word whose definition is open
  pub defining : Option ℕ

-- no own words; each listed FCode names its written word
abbrev pub first_words : WordsState
first_words = record { dictionary = []; table = first_table; pending = None; waiting = false; defining = None }

-- ---- own words and their execution tokens

-- the number of the own word that an execution token would be of
abbrev pub own_number : ℕ → Option ℕ
own_number xt =
    if nat_le (xt_of 0) xt && (nat_eq (xt % 4) 0 && nat_lt ((xt - xt_of 0) / 4) capacity)
    then Some ((xt - xt_of 0) / 4) else None

-- the own word of an execution token, if there is one
abbrev pub own_word : List (Option Word) → ℕ → Option Word
own_word words xt = option_and_then (word_at words) (own_number xt)

-- whether a number is the execution token of a word, written or own
abbrev pub is_word : List (Option Word) → ℕ → Bool
is_word words xt = is_some (word_with_xt xt) || is_some (own_word words xt)

-- ---- the pending number

-- the FCodes 0x800 to 0xFFF are for own words
abbrev pub is_own_code : ℕ → Bool
is_own_code code = nat_le 0x800 code && nat_lt code 0x1000

-- what a name is refused for that a word is to bear
abbrev pub name_fault : Option (List ℕ) → Option Throw
name_fault None = None
name_fault (Some name) =
    if nat_eq (length name) 0 then Some empty_name
    else fault_if (nat_lt longest_name (length name)) long_name

-- the cell `fcode-debug?` isn't 0
abbrev pub is_debugging : DataSpace → Bool
is_debugging m = not (nat_eq (number_at m (scratch_start + 4) 4) 0)

-- the name that a token maker gives: `new-token` none, `named-token` only while `fcode-debug?` is set
abbrev pub name_given : DataSpace → TokenMaker → Option (List ℕ)
name_given m New = None
name_given m (Named name) = if is_debugging m then Some name.now else None
name_given m (External name) = Some name.now

-- the name that the next word gets, if it gets one
abbrev pub name_pending : Option Pending → Option (List ℕ)
name_pending None = None
name_pending (Some p) = p.name

-- the next word's number and name, if it gets a name and one more word can be made
abbrev pub named_next : List (Option Word) → Option (List ℕ) → Option (ℕ × List ℕ)
named_next words None = None
named_next words (Some name) = if nat_lt (length words) capacity then Some (length words, name) else None

-- a word's number and name, if it has one
abbrev pub named_at : List (Option Word) → ℕ → Option (ℕ × List ℕ)
named_at words n = option_map (λ name. (n, name)) (name_in (word_at words n))

-- the same of the open word, if one is open
abbrev pub named_open : List (Option Word) → Option ℕ → Option (ℕ × List ℕ)
named_open words None = None
named_open words (Some n) = named_at words n

-- the faults of a token maker, in their order
abbrev pub number_faults : WordsState → FCode → Option (List ℕ) → List (Option Throw)
number_faults w code name =
    fault_if (is_some w.defining) compiler_nesting
    ∷ name_fault name
    ∷ fault_if (not (is_own_code code.0)) invalid_argument
    ∷ []

-- a number and a name that the next word gets
abbrev pub numbered : FCode → Option (List ℕ) → WordsState → Result WordsState Throw
numbered code name w =
    unless (counting (number_faults w code name)) (record w { pending = Some (record { code = code; name = name }) })

-- ---- what is so of all words

abbrev pub IsNameable : Option (List ℕ) → Type 0
IsNameable None = Unit {0}
IsNameable (Some name) = (0 < length name) × (length name ≤ longest_name)

-- the pending number is an own word's, with a name that it can bear
abbrev pub IsPending : Option Pending → Type 0
IsPending None = Unit {0}
IsPending (Some p) = (is_own_code p.code.0 ≡ true) × IsNameable p.name

-- only the newest word can be open
abbrev pub IsNewestOpen : List (Option Word) → Option ℕ → Type 0
IsNewestOpen words None = Unit {0}
IsNewestOpen words (Some n) = newest words ≡ Some n
