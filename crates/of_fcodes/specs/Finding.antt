-- Written words by number, execution token and name, and their classes.
use Rattle.std.specs.Prelude.{◌≡◌, ℕ, ◌+◌, ◌-◌, ◌*◌, ◌/◌, ◌%◌, List, [], ◌∷◌, ◌++◌, replicate, Option, Some}
use Rattle.std.specs.Prelude.{None}
use Rattle.std.specs.Prelude.{map, slice_get, length, nat_eq, nat_lt, ◌||◌, not, if◌then◌else◌}
use Rattle.std.specs.Borrow.{Bor}
use Rattle.std.specs.Option.{option_map, option_map_or}
use Rattle.std.specs.Str.{str_eq_ignore_ascii_case}
use Rattle.of_fcodes.specs.declared.class.Class.{Class}
use Rattle.of_fcodes.specs.declared.class.Class.TheVariants as class
use Rattle.of_fcodes.specs.declared.words.Word.{Word}
use Rattle.of_fcodes.specs.declared.words.Word.TheVariants.{Stream, Primitive, Printing, Heap, Keys, Returns}
use Rattle.of_fcodes.specs.declared.words.Word.TheVariants.{Dictionary, Throws, Properties, Tree, Devices, Console}
use Rattle.of_fcodes.specs.declared.words.Word.TheVariants.{Parsing, Compiling}
use Rattle.of_fcodes.specs.Words.{Written, words}
use Rattle.of_fcodes.specs.Numbers.{number_of}
use Rattle.of_fcodes.specs.Rows.{Row, rows}

-- how a written word is used
abbrev pub class_of : Word → Class
class_of (Stream w) = class.Stream
class_of (Primitive w) = class.Ordinary
class_of (Printing w) = class.Ordinary
class_of (Heap w) = class.Ordinary
class_of (Keys w) = class.Ordinary
class_of (Returns w) = class.Ordinary
class_of (Dictionary w) = class.Ordinary
class_of (Throws w) = class.Ordinary
class_of (Properties w) = class.Ordinary
class_of (Tree w) = class.Ordinary
class_of (Devices w) = class.Ordinary
class_of (Console w) = class.Ordinary
class_of (Parsing w) = class.Parsing
class_of (Compiling w) = class.CompileOnly

-- the execution token of a written word: they stand 4 apart from 0xC0000000 on
abbrev pub xt_of : Word → ℕ
xt_of w = 0xC000_0000 + 4 * number_of w

-- the word at a place of a list
abbrev pub word_numbered_in : List Written → ℕ → Option Word
word_numbered_in list n = option_map (λ (r : Written). r.word) (slice_get list n)

-- the written word of an execution token, if it is that of one
abbrev pub word_with_xt : ℕ → Option Word
word_with_xt xt =
    if nat_lt xt 0xC000_0000 || not (nat_eq (xt % 4) 0) then None else word_numbered_in words ((xt - 0xC000_0000) / 4)

-- the name of a written word
abbrev pub name_written : Word → List ℕ
name_written w = option_map_or (λ (r : Written). r.name) (slice_get words (number_of w)) []

-- the first word of a list that bears a name, whatever the case of its letters
abbrev pub word_in : List Written → List ℕ → Option Word
word_in [] name = None
word_in (r ∷ rs) name = if str_eq_ignore_ascii_case r.name name then Some r.word else word_in rs name

-- the written word of a name
unfoldable pub word_with_name : List ℕ → Option Word
word_with_name name = word_in words name

-- a word as it stands in the list of the code
abbrev pub word_shown : (Bor (List ℕ) × Word) → Written
word_shown w = record { name = w.0.now; word = w.1 }

-- ---- laws

-- the classes in the order of the words: those of the stream, ordinary ones, those that parse, and those that compile
abbrev pub classes_written : List Class
classes_written =
    replicate 32 class.Stream ++ replicate 253 class.Ordinary ++ replicate 20 class.Parsing
    ++ replicate 26 class.CompileOnly

-- Each written word is found by its execution token, by nothing else, and by its name; and the word of an FCode
-- has the FCode's name. The words of each class stand together.
pub record FindsEachWord : Type 0 where
  pub by_xt : (w : Word) → word_with_xt (xt_of w) ≡ Some w
  pub by_no_other : (xt : ℕ) (w : Word) → word_with_xt xt ≡ Some w → xt ≡ xt_of w
  pub by_name : map (λ (r : Written). word_with_name r.name) words ≡ map (λ r. Some r.word) words
  pub names_agree : map (λ (r : Row). name_written r.word) rows ≡ map (λ r. r.name) rows
  pub few : length words ≡ 331
  pub classes : map (λ (r : Written). class_of r.word) words ≡ classes_written
