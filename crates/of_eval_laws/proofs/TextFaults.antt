-- What a word of a text throws by the name, the number or the path behind it has a listed number.
use Rattle.std.proofs.Common.{◌==◌, ℕ, Bool, true, false, List, [], ◌∷◌, drop, Option, Some, None, Result, Ok, Err}
use Rattle.std.proofs.Common.{refl, nat_lt, if◌then◌else◌}
use Rattle.std.specs.Prelude.{◌||◌}
use Rattle.std.specs.Option.{ok_or}
use Rattle.of_cells.specs.declared.cells.Cell.{Cell}
use Rattle.of_stacks.specs.declared.throws.Throw.{Throw}
use Rattle.of_stacks.specs.Throws.{ThrowsListed, invalid_argument, is_listed, listed_numbers, undefined_word}
use Rattle.of_fcodes.specs.declared.console_words.CompilingWord.{CompilingWord}
use Rattle.of_fcodes.specs.declared.console_words.CompilingWord.TheVariants as compiling
use Rattle.of_fcodes.specs.declared.console_words.ParsingWord.{ParsingWord}
use Rattle.of_fcodes.specs.declared.console_words.ParsingWord.TheVariants as parsing
use Rattle.of_fcodes.specs.declared.words.Word.{Word}
use Rattle.of_fcodes.specs.declared.words.Word.TheVariants as word
use Rattle.of_format.specs.Pictured.{base_in, base_number}
use Rattle.of_format.specs.Reading.{number_read}
use Rattle.of_memory.specs.DataSpace.{DataSpace}
use Rattle.of_nodes.specs.declared.fault.NodeFault.{NodeFault}
use Rattle.of_nodes.specs.declared.phandles.Phandle.{Phandle}
use Rattle.of_nodes.specs.declared.tree.Node.{Node}
use Rattle.of_nodes.specs.Lookup.{way_found}
use Rattle.of_nodes.specs.Nodes.{phandle_of}
use Rattle.of_scan.specs.Scan.{Rest, next_word, rest_at}
use Rattle.of_board.specs.declared.board.Board.{Board}
use Rattle.of_flow.specs.Texts.{latest_text}
use Rattle.of_text.specs.declared.words.TextWord.{TextWord}
use Rattle.of_text.specs.declared.words.TextWord.TheVariants as text
use Rattle.of_text.specs.Names.{Names, first_byte, known_name, number_named, own_named, written_named, xt_named}
use Rattle.of_text.specs.Reading.{Named, compiling_read, name_behind, own_or_written, parsing_read, text_read}
use Rattle.of_text.specs.Reading.{word_or_end, written_read}
use Rattle.of_interpret.specs.Reading.{word_at}
use Rattle.of_interpret.specs.TextActs.{names_in}
use Rattle.of_interpret.specs.TextWords.{node_at, node_below, node_found}
use Rattle.of_state.specs.State.{State}
use Rattle.of_eval_laws.proofs.ListedFaults.{refused_listed}

-- what a word throws by what it has read is listed
abbrev pub IsSaid : TextWord → Type 0
IsSaid (text.Number r) = ThrowsListed r
IsSaid (text.Tick r) = ThrowsListed r
IsSaid (text.To r) = ThrowsListed r
IsSaid (text.See r) = ThrowsListed r
IsSaid (text.Char r) = ThrowsListed r
IsSaid (text.BracketTick r) = ThrowsListed r
IsSaid (text.BracketChar r) = ThrowsListed r
IsSaid w = Unit {0}

-- ---- names and numbers

or_listed : {A : Type 0} (o : Option A) → ThrowsListed (ok_or o undefined_word)
unfolding is_listed listed_numbers
or_listed None = refl
or_listed (Some x) = tt

known_listed : (n : Names) (name : List ℕ) → ThrowsListed (known_name n name)
unfolding is_listed listed_numbers
known_listed n [] = refl
known_listed n (b ∷ name) = or_listed (xt_named n (b ∷ name))

first_listed : (name : List ℕ) → ThrowsListed (first_byte name)
unfolding is_listed listed_numbers
first_listed [] = refl
first_listed (b ∷ name) = tt

number_listed : (base : Result ℕ Throw) (name : List ℕ) → ThrowsListed base → ThrowsListed (number_named base name)
number_listed (Ok base) name h = or_listed (number_read base name)
number_listed (Err t) name h = h

base_listed : (m : DataSpace) → ThrowsListed (base_in m)
unfolding is_listed listed_numbers
base_listed m =
    refused_listed (nat_lt (base_number m) 2 || nat_lt 36 (base_number m)) invalid_argument (base_number m) refl

-- ---- words

parsing_said : (w : ParsingWord) (n : Names) (r : Rest) → IsSaid (parsing_read w n r).0
unfolding parsing_read
parsing_said parsing.Tick n r = known_listed n (name_behind r).0
parsing_said parsing.To n r = known_listed n (name_behind r).0
parsing_said parsing.See n r = known_listed n (name_behind r).0
parsing_said parsing.Hexadecimal n r = number_listed (Ok 16) (name_behind r).0 tt
parsing_said parsing.DecimalNumber n r = number_listed (Ok 10) (name_behind r).0 tt
parsing_said parsing.Char n r = first_listed (name_behind r).0
parsing_said w n r = tt

compiling_said : (w : CompilingWord) (n : Names) (r : Rest) → IsSaid (compiling_read w n r).0
unfolding compiling_read
compiling_said compiling.BracketTick n r = known_listed n (name_behind r).0
compiling_said compiling.BracketChar n r = first_listed (name_behind r).0
compiling_said w n r = tt

written_said : (o : Option Word) (n : Names) (base : Result ℕ Throw) (x : Named) → ThrowsListed base
    → IsSaid (written_read o n base x).0
written_said None n base x h = number_listed base x.0 h
written_said (Some (word.Parsing w)) n base x h = parsing_said w n x.1
written_said (Some (word.Compiling w)) n base x h = compiling_said w n x.1
written_said (Some w) n base x h = tt

own_said : (o : Option Cell) (n : Names) (base : Result ℕ Throw) (x : Named) → ThrowsListed base
    → IsSaid (own_or_written o n base x).0
own_said (Some xt) n base x h = tt
own_said None n base x h = written_said (written_named x.0) n base x h

end_said : (o : Option Named) (n : Names) (base : Result ℕ Throw) (r : Rest) → ThrowsListed base
    → IsSaid (word_or_end o n base r).0
end_said None n base r h = tt
end_said (Some x) n base r h = own_said (own_named n x.0) n base x h

text_said : (n : Names) (base : Result ℕ Throw) (bytes : List ℕ) (at : ℕ) → ThrowsListed base
    → IsSaid (text_read n base bytes at).word
text_said n base bytes at h =
    let r = rest_at at (drop at bytes) in end_said (next_word r) n base r h

pub word_said : {S : Type 0} (position : ℕ) (s : State S) → IsSaid (word_at position s).word
word_said position s =
    text_said (names_in s) (base_in s.board.memory) (latest_text s.flow.texts) position (base_listed s.board.memory)

-- ---- paths

either_listed : {A : Type 0} (b : Bool) (x y : Result A Throw) → ThrowsListed x → ThrowsListed y
    → ThrowsListed (if b then x else y)
either_listed true x y hx hy = hx
either_listed false x y hx hy = hy

found_listed : (r : Result (Option Phandle) NodeFault) → ThrowsListed (node_found r)
unfolding is_listed listed_numbers
found_listed (Ok (Some node)) = tt
found_listed (Ok None) = refl
found_listed (Err fault) = refl

below_listed : (o : Option Phandle) (path : List ℕ) (m : DataSpace) (nodes : List Node)
    → ThrowsListed (node_below o path m nodes)
unfolding is_listed listed_numbers
below_listed None path m nodes = refl
below_listed (Some node) path m nodes = found_listed (way_found m nodes node path)

pub node_listed : (path : List ℕ) (b : Board) → ThrowsListed (node_at path b)
unfolding is_listed listed_numbers
node_listed [] b = refl
node_listed (x ∷ path) b =
    either_listed (x == 47) _ _ (found_listed (way_found b.memory b.tree (phandle_of 0) path))
    (below_listed b.active.«package» (x ∷ path) b.memory b.tree)
