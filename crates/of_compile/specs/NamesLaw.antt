-- What becomes of the name of a defining word of a text, and which fault counts where no word is made
-- (Forth 2012, 3.3.1, 6.1.0450, 6.1.0950; IEEE 1275-1994, annex A).
use Rattle.std.specs.Prelude.{◌≡◌, ◌≢◌, ℕ, ◌+◌, ◌≤◌, ◌<◌, false, List, [], length, take, Some, None, Ok, Err, is_some}
use Rattle.of_stacks.specs.Throws.{compiler_nesting, dictionary_overflow, empty_name, long_name, stack_underflow}
use Rattle.of_memory.specs.Growth.{aligned, with_zeros}
use Rattle.of_memory.specs.Regions.{data_limit}
use Rattle.of_dict.specs.declared.word.Kind.{Kind}
use Rattle.of_dict.specs.Words.{found, is_hidden_in, is_immediate_in, kind_in, lower, name_in, newest, word_at}
use Rattle.of_compile.specs.declared.defining.DefiningWord.{DefiningWord}
use Rattle.of_compile.specs.declared.defining.DefiningWord.TheVariants.{Colon}
use Rattle.of_compile.specs.Words.{IsNameable, WordsState}
use Rattle.of_compile.specs.Defining.{Made, Making, made_by, making, naming_entry}

-- no definition is open, and the word makes this of the cells on the stack
abbrev pub IsReady : DefiningWord → ℕ → Making → Made → Type 0
IsReady d start g x = (g.words.defining ≡ None) × (made_by d start (aligned g.memory.here) g.stack ≡ Some x)

-- one more word, of this name and kind
pub record HasNamed (d : DefiningWord) (name : List ℕ) (k : Kind) (old new : WordsState) : Type 0 where
  pub is_newest : newest new.dictionary ≡ Some (length old.dictionary)
  pub has_name : name_in (word_at new.dictionary (length old.dictionary)) ≡ Some name
  pub has_kind : kind_in (word_at new.dictionary (length old.dictionary)) ≡ Some k
  pub not_immediate : is_immediate_in (word_at new.dictionary (length old.dictionary)) ≡ false
  -- `:` alone opens a definition, and its word alone is hidden
  pub is_open : d ≡ Colon → new.defining ≡ Some (length old.dictionary)
  pub is_closed : d ≢ Colon → new.defining ≡ None
  pub is_hidden : is_hidden_in (word_at new.dictionary (length old.dictionary)) ≡ is_some new.defining
  pub is_found : (other : List ℕ) → d ≢ Colon → lower name ≡ lower other
      → found new.dictionary other ≡ Some (length old.dictionary)
  -- the older words, what each FCode names, the pending number and a waiting `instance` are as they were
  pub older_stay : take (length old.dictionary) new.dictionary ≡ old.dictionary
  pub table_stays : new.table ≡ old.table
  pub pending_stays : new.pending ≡ old.pending
  pub waiting_stays : new.waiting ≡ old.waiting

-- each fault is found only where none stands that is named before it, and a word is made where none is
pub record WordsGetTheirNames : Type 0 where
  pub in_definition : (d : DefiningWord) (name : List ℕ) (start : ℕ) (g : Making) (n : ℕ)
      → g.words.defining ≡ Some n → naming_entry d name start g ≡ Err compiler_nesting
  pub without_cells : (d : DefiningWord) (name : List ℕ) (start : ℕ) (g : Making)
      → g.words.defining ≡ None → made_by d start (aligned g.memory.here) g.stack ≡ None
      → naming_entry d name start g ≡ Err stack_underflow
  pub without_name : (d : DefiningWord) (start : ℕ) (g : Making) (x : Made)
      → IsReady d start g x → naming_entry d [] start g ≡ Err empty_name
  pub with_long_name : (d : DefiningWord) (name : List ℕ) (start : ℕ) (g : Making) (x : Made)
      → IsReady d start g x → 31 < length name → naming_entry d name start g ≡ Err long_name
  pub full : (d : DefiningWord) (name : List ℕ) (start : ℕ) (g : Making) (x : Made)
      → IsReady d start g x → IsNameable (Some name) → 8192 ≤ length g.words.dictionary
      → naming_entry d name start g ≡ Err dictionary_overflow
  pub without_room : (d : DefiningWord) (name : List ℕ) (start : ℕ) (g : Making) (x : Made)
      → IsReady d start g x → IsNameable (Some name) → data_limit < aligned g.memory.here + x.bytes
      → naming_entry d name start g ≡ Err dictionary_overflow
  pub made : (d : DefiningWord) (name : List ℕ) (start : ℕ) (g : Making) (x : Made)
      → IsReady d start g x → IsNameable (Some name) → length g.words.dictionary < 8192
      → aligned g.memory.here + x.bytes ≤ data_limit
      → (w : WordsState) × ((naming_entry d name start g ≡ Ok (making w x.stack (with_zeros g.memory x.bytes)))
      × HasNamed d name x.kind g.words w)
