-- What a name finds (Forth 2012, 3.4.2; IEEE 1275-1994, 5.3.2, 5.3.3.1).
use Rattle.std.specs.Prelude.{ℕ, List, [], ◌∷◌, Option, Some, None, Result, Ok, Err, option_and_then}
use Rattle.std.specs.Option.{ok_or, option_map, option_or}
use Rattle.of_cells.specs.declared.cells.Cell.{Cell}
use Rattle.of_stacks.specs.declared.throws.Throw.{Throw}
use Rattle.of_stacks.specs.Throws.{empty_name, undefined_word}
use Rattle.of_fcodes.specs.declared.class.Class.{Class}
use Rattle.of_fcodes.specs.declared.class.Class.TheVariants as class
use Rattle.of_fcodes.specs.declared.words.Word.{Word}
use Rattle.of_fcodes.specs.Finding.{class_of, word_with_name}
use Rattle.of_fcodes.specs.Finding.{xt_of as written_xt}
use Rattle.of_dict.specs.declared.word.Word.{Word as OwnWord}
use Rattle.of_dict.specs.Words.{found, xt_of}
use Rattle.of_format.specs.Reading.{number_read}
use Rattle.of_nodes.specs.declared.tree.Node.{Node}
use Rattle.of_nodes.specs.declared.phandles.Phandle.{Phandle}
use Rattle.of_nodes.specs.declared.fault.NodeFault.{NodeFault}
use Rattle.of_nodes.specs.Nodes.{method_found}

-- where names are looked up: the device tree with its active package, and the own words
pub record Names : Type 0 where
  pub nodes : List Node
  pub home : Option Phandle
  pub words : List (Option OwnWord)

-- the method that was looked for, if there is one
abbrev pub method_or_none : Result (Option Cell) NodeFault → Option Cell
method_or_none (Ok method) = method
method_or_none (Err fault) = None

-- the method of a name in the active package, if there is one
abbrev pub active_method : List Node → Option Phandle → List ℕ → Option Cell
active_method nodes (Some node) name = method_or_none (method_found nodes node name)
active_method nodes None name = None

-- the newest global word of a name that isn't hidden
abbrev pub global_word : List (Option OwnWord) → List ℕ → Option Cell
global_word words name = option_map (λ k. record { 0 = xt_of k }) (found words name)

-- the own word that a name finds: a method of the active package comes before a global word
abbrev pub own_named : Names → List ℕ → Option Cell
own_named n name = option_or (active_method n.nodes n.home name) (global_word n.words name)

-- a written word, unless only images have it
abbrev pub spoken : Class → Word → Option Word
spoken class.Stream w = None
spoken class.Ordinary w = Some w
spoken class.Parsing w = Some w
spoken class.CompileOnly w = Some w

-- the written word that a name finds
abbrev pub written_named : List ℕ → Option Word
written_named name = option_and_then (λ w. spoken (class_of w) w) (word_with_name name)

-- the execution token that a name finds: own words come before the written ones
abbrev pub xt_named : Names → List ℕ → Option Cell
xt_named n name =
    option_or (own_named n name) (option_map (λ w. record { 0 = written_xt w }) (written_named name))

-- the execution token of a name that must be there and find one
abbrev pub known_name : Names → List ℕ → Result Cell Throw
known_name n [] = Err empty_name
known_name n (b ∷ name) = ok_or (xt_named n (b ∷ name)) undefined_word

-- the first byte of a name that must be there
abbrev pub first_byte : List ℕ → Result Cell Throw
first_byte [] = Err empty_name
first_byte (b ∷ name) = Ok (record { 0 = b })

-- the number that a word reads as in a base, if there is one
abbrev pub number_named : Result ℕ Throw → List ℕ → Result Cell Throw
number_named (Err t) name = Err t
number_named (Ok base) name = ok_or (number_read base name) undefined_word
