-- What the calls of the dictionary leave and answer (Forth 2012, 3.3.1, 3.4.2; IEEE 1275-1994, 5.3.3.1).
use Rattle.std.specs.Prelude.{ℕ, ◌≡◌, ◌==◌, false, nat_le, nat_lt, List, [], ◌∷◌, ◌++◌, length}
use Rattle.std.specs.Prelude.{slice_set, Option, Some, None, Result, Ok, Err, if◌then◌else◌}
use Rattle.std.specs.Option.{option_or}
use Rattle.of_dict.specs.declared.fault.DictFault.{DictFault}
use Rattle.of_dict.specs.declared.fault.DictFault.TheVariants.{EmptyName, Full, LongName, NoMemory}
use Rattle.of_dict.specs.declared.word.Kind.{Kind}
use Rattle.of_dict.specs.declared.word.OwnWord.{OwnWord}
use Rattle.of_dict.specs.declared.word.Word.{Word}
use Rattle.of_dict.specs.Words.{capacity, longest_name, newest, word_at}

-- a word as it is made: neither immediate nor hidden
abbrev pub made : Option (List ℕ) → Kind → Word
made name kind = record { name = name; immediate = false; hidden = false; kind = kind }

-- what a name is refused for
abbrev pub name_refusal : Option (List ℕ) → Option DictFault
name_refusal None = None
name_refusal (Some name) =
    if length name == 0 then Some EmptyName else if nat_lt longest_name (length name) then Some LongName else None

-- what a word is refused for, memory aside: its name first, and then want of room
abbrev pub refusal : List (Option Word) → Option (List ℕ) → Option DictFault
refusal words name = option_or (name_refusal name) (if nat_le capacity (length words) then Some Full else None)

-- what adding a word answers and leaves: it has the next number
abbrev pub Adds : Result OwnWord DictFault → List (Option Word) → List (Option Word) → Option (List ℕ) → Kind → Type 0
Adds (Ok word) old new name kind =
    (refusal old name ≡ None) × (word.0 ≡ length old) × (new ≡ old ++ Some (made name kind) ∷ [])
Adds (Err NoMemory) old new name kind = new ≡ old
Adds (Err Full) old new name kind = (refusal old name ≡ Some Full) × (new ≡ old)
Adds (Err EmptyName) old new name kind = (refusal old name ≡ Some EmptyName) × (new ≡ old)
Adds (Err LongName) old new name kind = (refusal old name ≡ Some LongName) × (new ≡ old)

-- the words with one changed, where there is one of that number
abbrev pub changed_in : (Word → Word) → Option Word → Option Word
changed_in change None = None
changed_in change (Some w) = Some (change w)

abbrev pub changed : (Word → Word) → List (Option Word) → ℕ → List (Option Word)
changed change words n = slice_set words n (changed_in change (word_at words n))

-- the words without one
abbrev pub without : List (Option Word) → Option ℕ → List (Option Word)
without words None = words
without words (Some n) = slice_set words n None

-- the words without the newest that still exists, whose number stays used
abbrev pub removed : List (Option Word) → List (Option Word)
removed words = without words (newest words)
