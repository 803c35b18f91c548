-- The written words are found by their numbers, execution tokens and names.
use Rattle.std.proofs.Common.{◌≡◌, ℕ, zero, suc, ◌+◌, ◌-◌, ◌*◌, ◌/◌, ◌%◌, ◌≤◌, Bool, true, false, ◌&&◌}
use Rattle.std.proofs.Common.{◌||◌, not}
use Rattle.std.proofs.Common.{List, [], ◌∷◌, length, map, Some, None, nat_eq, nat_lt, if◌then◌else◌, refl}
use Rattle.std.proofs.Common.{arith}
use Rattle.std.proofs.lemmas.Bool.Decides.{nat_tests}
use Rattle.of_fcodes.specs.declared.words.Word.{Word}
use Rattle.of_fcodes.specs.declared.words.Word.TheVariants.{Stream, Primitive, Printing, Heap, Keys, Returns}
use Rattle.of_fcodes.specs.declared.words.Word.TheVariants.{Dictionary, Throws, Properties, Tree, Devices, Console}
use Rattle.of_fcodes.specs.declared.words.Word.TheVariants.{Parsing, Compiling}
use Rattle.of_fcodes.specs.declared.words.PrimitiveWord.{PrimitiveWord}
use Rattle.of_fcodes.specs.declared.words.PrimitiveWord.TheVariants.{Arithmetic, Comparing, Stacks, Addresses, Memory}
use Rattle.of_fcodes.specs.declared.words.PrimitiveWord.TheVariants.{Splitting, Text, Numbers}
use Rattle.of_fcodes.specs.declared.words.StreamWord.{StreamWord}
use Rattle.of_fcodes.specs.declared.words.StreamWord.TheVariants as stream
use Rattle.of_fcodes.specs.declared.words.ArithmeticWord.{ArithmeticWord}
use Rattle.of_fcodes.specs.declared.words.ArithmeticWord.TheVariants as arithmetic
use Rattle.of_fcodes.specs.declared.words.ComparingWord.{ComparingWord}
use Rattle.of_fcodes.specs.declared.words.ComparingWord.TheVariants as comparing
use Rattle.of_fcodes.specs.declared.words.StacksWord.{StacksWord}
use Rattle.of_fcodes.specs.declared.words.StacksWord.TheVariants as stacks
use Rattle.of_fcodes.specs.declared.words.AddressesWord.{AddressesWord}
use Rattle.of_fcodes.specs.declared.words.AddressesWord.TheVariants as addresses
use Rattle.of_fcodes.specs.declared.words.MemoryWord.{MemoryWord}
use Rattle.of_fcodes.specs.declared.words.MemoryWord.TheVariants as memory
use Rattle.of_fcodes.specs.declared.words.SplittingWord.{SplittingWord}
use Rattle.of_fcodes.specs.declared.words.SplittingWord.TheVariants as splitting
use Rattle.of_fcodes.specs.declared.words.TextWord.{TextWord}
use Rattle.of_fcodes.specs.declared.words.TextWord.TheVariants as text
use Rattle.of_fcodes.specs.declared.words.NumbersWord.{NumbersWord}
use Rattle.of_fcodes.specs.declared.words.NumbersWord.TheVariants as numbers
use Rattle.of_fcodes.specs.declared.words.PrintingWord.{PrintingWord}
use Rattle.of_fcodes.specs.declared.words.PrintingWord.TheVariants as printing
use Rattle.of_fcodes.specs.declared.words.HeapWord.{HeapWord}
use Rattle.of_fcodes.specs.declared.words.HeapWord.TheVariants as heap
use Rattle.of_fcodes.specs.declared.words.KeysWord.{KeysWord}
use Rattle.of_fcodes.specs.declared.words.KeysWord.TheVariants as keys
use Rattle.of_fcodes.specs.declared.words.ReturnsWord.{ReturnsWord}
use Rattle.of_fcodes.specs.declared.words.ReturnsWord.TheVariants as returns
use Rattle.of_fcodes.specs.declared.words.DictionaryWord.{DictionaryWord}
use Rattle.of_fcodes.specs.declared.words.DictionaryWord.TheVariants as dictionary
use Rattle.of_fcodes.specs.declared.words.ThrowsWord.{ThrowsWord}
use Rattle.of_fcodes.specs.declared.words.ThrowsWord.TheVariants as throws
use Rattle.of_fcodes.specs.declared.words.PropertiesWord.{PropertiesWord}
use Rattle.of_fcodes.specs.declared.words.PropertiesWord.TheVariants as properties
use Rattle.of_fcodes.specs.declared.words.TreeWord.{TreeWord}
use Rattle.of_fcodes.specs.declared.words.TreeWord.TheVariants as tree
use Rattle.of_fcodes.specs.declared.words.DevicesWord.{DevicesWord}
use Rattle.of_fcodes.specs.declared.words.DevicesWord.TheVariants as devices
use Rattle.of_fcodes.specs.declared.console_words.ConsoleWord.{ConsoleWord}
use Rattle.of_fcodes.specs.declared.console_words.ConsoleWord.TheVariants as console
use Rattle.of_fcodes.specs.declared.console_words.ParsingWord.{ParsingWord}
use Rattle.of_fcodes.specs.declared.console_words.ParsingWord.TheVariants as parsing
use Rattle.of_fcodes.specs.declared.console_words.CompilingWord.{CompilingWord}
use Rattle.of_fcodes.specs.declared.console_words.CompilingWord.TheVariants as compiling
use Rattle.of_fcodes.specs.Words.{Written, words, first_words, second_words, third_words, fourth_words, fifth_words}
use Rattle.of_fcodes.specs.Words.{sixth_words, seventh_words, eighth_words}
use Rattle.of_fcodes.specs.Numbers.{number_of, primitive_number, stream_number, arithmetic_number, comparing_number}
use Rattle.of_fcodes.specs.Numbers.{stacks_number, addresses_number, memory_number, splitting_number, text_number}
use Rattle.of_fcodes.specs.Numbers.{numbers_number, printing_number, heap_number, keys_number, returns_number}
use Rattle.of_fcodes.specs.Numbers.{dictionary_number, throws_number, properties_number, tree_number, devices_number}
use Rattle.of_fcodes.specs.Numbers.{console_number, parsing_number, compiling_number}
use Rattle.of_fcodes.specs.Rows.{Row, rows, first_rows, second_rows, third_rows, fourth_rows, fifth_rows, sixth_rows}
use Rattle.of_fcodes.specs.Rows.{seventh_rows}
use Rattle.of_fcodes.specs.Finding.{FindsEachWord, name_written, word_with_name, word_with_xt, word_numbered_in, xt_of}
use Rattle.of_fcodes.specs.Finding.{class_of, classes_written}

pub length-words : length words ≡ 331
unfolding words first_words second_words third_words fourth_words fifth_words sixth_words seventh_words eighth_words
length-words = refl

-- each word's number is its place, from n on
abbrev pub are_numbered : ℕ → List Written → Bool
are_numbered n [] = true
are_numbered n (r ∷ rs) = nat_eq (number_of r.word) n && are_numbered (suc n) rs

numbered : are_numbered 0 words ≡ true
unfolding words first_words second_words third_words fourth_words fifth_words sixth_words seventh_words eighth_words
numbered = refl

-- each word stands at its number
placed_stream : (w : StreamWord) → word_numbered_in words (stream_number w) ≡ Some (Stream w)
unfolding words first_words second_words third_words fourth_words fifth_words sixth_words seventh_words eighth_words
placed_stream stream.End0 = refl
placed_stream _ = refl

placed_arithmetic : (w : ArithmeticWord)
    → word_numbered_in words (arithmetic_number w) ≡ Some (Primitive (Arithmetic w))
unfolding words first_words second_words third_words fourth_words fifth_words sixth_words seventh_words eighth_words
placed_arithmetic arithmetic.Plus = refl
placed_arithmetic _ = refl

placed_comparing : (w : ComparingWord) → word_numbered_in words (comparing_number w) ≡ Some (Primitive (Comparing w))
unfolding words first_words second_words third_words fourth_words fifth_words sixth_words seventh_words eighth_words
placed_comparing comparing.IsZero = refl
placed_comparing _ = refl

placed_stacks : (w : StacksWord) → word_numbered_in words (stacks_number w) ≡ Some (Primitive (Stacks w))
unfolding words first_words second_words third_words fourth_words fifth_words sixth_words seventh_words eighth_words
placed_stacks stacks.Drop = refl
placed_stacks _ = refl

placed_addresses : (w : AddressesWord) → word_numbered_in words (addresses_number w) ≡ Some (Primitive (Addresses w))
unfolding words first_words second_words third_words fourth_words fifth_words sixth_words seventh_words eighth_words
placed_addresses addresses.ByteSize = refl
placed_addresses _ = refl

placed_memory : (w : MemoryWord) → word_numbered_in words (memory_number w) ≡ Some (Primitive (Memory w))
unfolding words first_words second_words third_words fourth_words fifth_words sixth_words seventh_words eighth_words
placed_memory memory.On = refl
placed_memory _ = refl

placed_splitting : (w : SplittingWord) → word_numbered_in words (splitting_number w) ≡ Some (Primitive (Splitting w))
unfolding words first_words second_words third_words fourth_words fifth_words sixth_words seventh_words eighth_words
placed_splitting splitting.Lwsplit = refl
placed_splitting _ = refl

placed_text : (w : TextWord) → word_numbered_in words (text_number w) ≡ Some (Primitive (Text w))
unfolding words first_words second_words third_words fourth_words fifth_words sixth_words seventh_words eighth_words
placed_text text.UpperCase = refl
placed_text _ = refl

placed_numbers : (w : NumbersWord) → word_numbered_in words (numbers_number w) ≡ Some (Primitive (Numbers w))
unfolding words first_words second_words third_words fourth_words fifth_words sixth_words seventh_words eighth_words
placed_numbers numbers.Begin = refl
placed_numbers _ = refl

placed_printing : (w : PrintingWord) → word_numbered_in words (printing_number w) ≡ Some (Printing w)
unfolding words first_words second_words third_words fourth_words fifth_words sixth_words seventh_words eighth_words
placed_printing printing.Emit = refl
placed_printing _ = refl

placed_heap : (w : HeapWord) → word_numbered_in words (heap_number w) ≡ Some (Heap w)
unfolding words first_words second_words third_words fourth_words fifth_words sixth_words seventh_words eighth_words
placed_heap heap.AllocMem = refl

placed_keys : (w : KeysWord) → word_numbered_in words (keys_number w) ≡ Some (Keys w)
unfolding words first_words second_words third_words fourth_words fifth_words sixth_words seventh_words eighth_words
placed_keys keys.KeyReady = refl
placed_keys _ = refl

placed_returns : (w : ReturnsWord) → word_numbered_in words (returns_number w) ≡ Some (Returns w)
unfolding words first_words second_words third_words fourth_words fifth_words sixth_words seventh_words eighth_words
placed_returns returns.ToReturn = refl
placed_returns _ = refl

placed_dictionary : (w : DictionaryWord) → word_numbered_in words (dictionary_number w) ≡ Some (Dictionary w)
unfolding words first_words second_words third_words fourth_words fifth_words sixth_words seventh_words eighth_words
placed_dictionary dictionary.FromBody = refl
placed_dictionary _ = refl

placed_throws : (w : ThrowsWord) → word_numbered_in words (throws_number w) ≡ Some (Throws w)
unfolding words first_words second_words third_words fourth_words fifth_words sixth_words seventh_words eighth_words
placed_throws throws.Abort = refl
placed_throws _ = refl

placed_properties : (w : PropertiesWord) → word_numbered_in words (properties_number w) ≡ Some (Properties w)
unfolding words first_words second_words third_words fourth_words fifth_words sixth_words seventh_words eighth_words
placed_properties properties.Property = refl
placed_properties _ = refl

placed_tree : (w : TreeWord) → word_numbered_in words (tree_number w) ≡ Some (Tree w)
unfolding words first_words second_words third_words fourth_words fifth_words sixth_words seventh_words eighth_words
placed_tree tree.NewDevice = refl
placed_tree _ = refl

placed_devices : (w : DevicesWord) → word_numbered_in words (devices_number w) ≡ Some (Devices w)
unfolding words first_words second_words third_words fourth_words fifth_words sixth_words seventh_words eighth_words
placed_devices devices.PeekByte = refl
placed_devices _ = refl

placed_console : (w : ConsoleWord) → word_numbered_in words (console_number w) ≡ Some (Console w)
unfolding words first_words second_words third_words fourth_words fifth_words sixth_words seventh_words eighth_words
placed_console console.OnePlus = refl
placed_console _ = refl

placed_parsing : (w : ParsingWord) → word_numbered_in words (parsing_number w) ≡ Some (Parsing w)
unfolding words first_words second_words third_words fourth_words fifth_words sixth_words seventh_words eighth_words
placed_parsing parsing.Colon = refl
placed_parsing _ = refl

placed_compiling : (w : CompilingWord) → word_numbered_in words (compiling_number w) ≡ Some (Compiling w)
unfolding words first_words second_words third_words fourth_words fifth_words sixth_words seventh_words eighth_words
placed_compiling compiling.Semicolon = refl
placed_compiling _ = refl

placed_primitive : (w : PrimitiveWord) → word_numbered_in words (primitive_number w) ≡ Some (Primitive w)
placed_primitive (Arithmetic w) = placed_arithmetic w
placed_primitive (Comparing w) = placed_comparing w
placed_primitive (Stacks w) = placed_stacks w
placed_primitive (Addresses w) = placed_addresses w
placed_primitive (Memory w) = placed_memory w
placed_primitive (Splitting w) = placed_splitting w
placed_primitive (Text w) = placed_text w
placed_primitive (Numbers w) = placed_numbers w

pub placed : (w : Word) → word_numbered_in words (number_of w) ≡ Some w
placed (Stream w) = placed_stream w
placed (Primitive w) = placed_primitive w
placed (Printing w) = placed_printing w
placed (Heap w) = placed_heap w
placed (Keys w) = placed_keys w
placed (Returns w) = placed_returns w
placed (Dictionary w) = placed_dictionary w
placed (Throws w) = placed_throws w
placed (Properties w) = placed_properties w
placed (Tree w) = placed_tree w
placed (Devices w) = placed_devices w
placed (Console w) = placed_console w
placed (Parsing w) = placed_parsing w
placed (Compiling w) = placed_compiling w

by_xt : (w : Word) → word_with_xt (xt_of w) ≡ Some w
by_xt w =
    let n : ℕ = number_of w in
    let within : nat_lt (0xC000_0000 + 4 * number_of w) 0xC000_0000 ≡ false = grind (arith, nat_tests) in
    let rest : (0xC000_0000 + 4 * number_of w) % 4 ≡ 0 = omega arith in
    let whole : nat_eq ((0xC000_0000 + 4 * number_of w) % 4) 0 ≡ true = rw rest refl in
    let place : (0xC000_0000 + 4 * number_of w - 0xC000_0000) / 4 ≡ number_of w = omega arith in
    rw (within, whole, place) (placed w)

and_both : (a b : Bool) → a && b ≡ true → (a ≡ true) × (b ≡ true)
and_both true b h = (refl, h)
and_both false b h = let no : ⊥ = cc in absurd no

holds_unless : (b : Bool) → not b ≡ false → b ≡ true
holds_unless true h = refl
holds_unless false h = let no : ⊥ = cc in absurd no

four_divides : (rest : ℕ) → not (nat_eq rest 0) ≡ false → rest ≡ 0
four_divides rest h =
    let met : nat_eq rest 0 ≡ true = holds_unless (nat_eq rest 0) h in
    grind (arith, nat_tests, met)

-- the word at a place has its number
numbered_at : (n m : ℕ) (list : List Written) (w : Word) → are_numbered n list ≡ true
    → word_numbered_in list m ≡ Some w → number_of w ≡ n + m
numbered_at n m [] w h e = let no : ⊥ = cc in absurd no
numbered_at n zero (r ∷ rs) w h e =
    let same : r.word ≡ w = cc in
    let parts = and_both (nat_eq (number_of r.word) n) (are_numbered (suc n) rs) h in
    rw (← same) (grind (arith, nat_tests, parts.0))
numbered_at n (suc m) (r ∷ rs) w h e =
    let parts = and_both (nat_eq (number_of r.word) n) (are_numbered (suc n) rs) h in
    let further : number_of w ≡ suc n + m = numbered_at (suc n) m rs w parts.1 e in
    omega arith

found_there : (xt : ℕ) (w : Word) (low odd : Bool) → nat_lt xt 0xC000_0000 ≡ low → not (nat_eq (xt % 4) 0) ≡ odd →
    (if low || odd then None else word_numbered_in words ((xt - 0xC000_0000) / 4)) ≡ Some w → xt ≡ xt_of w
found_there xt w true odd a b e = let no : ⊥ = cc in absurd no
found_there xt w false true a b e = let no : ⊥ = cc in absurd no
found_there xt w false false a b e =
    let number : number_of w ≡ 0 + (xt - 0xC000_0000) / 4 = numbered_at 0 ((xt - 0xC000_0000) / 4) words w numbered e in
    let high : 0xC000_0000 ≤ xt = grind (arith, nat_tests, a) in
    let whole : xt % 4 ≡ 0 = four_divides (xt % 4) b in
    omega arith

by_no_other : (xt : ℕ) (w : Word) → word_with_xt xt ≡ Some w → xt ≡ xt_of w
by_no_other xt w e = found_there xt w (nat_lt xt 0xC000_0000) (not (nat_eq (xt % 4) 0)) refl refl e

by_name : map (λ (r : Written). word_with_name r.name) words ≡ map (λ r. Some r.word) words
unfolding word_with_name words first_words second_words third_words fourth_words fifth_words sixth_words seventh_words
    eighth_words
by_name = refl

names_agree : map (λ (r : Row). name_written r.word) rows ≡ map (λ r. r.name) rows
unfolding words first_words second_words third_words fourth_words fifth_words sixth_words seventh_words eighth_words
    rows first_rows second_rows third_rows fourth_rows fifth_rows sixth_rows seventh_rows
names_agree = refl

classes : map (λ (r : Written). class_of r.word) words ≡ classes_written
unfolding words first_words second_words third_words fourth_words fifth_words sixth_words seventh_words eighth_words
classes = refl

pub words_found : FindsEachWord
words_found = record {
  by_xt = by_xt;
  by_no_other = by_no_other;
  by_name = by_name;
  names_agree = names_agree;
  few = length-words;
  classes = classes;
}
