-- What each defining word makes of dictionary, token table, data stack and data region, or what it throws
-- (IEEE 1275-1994, 5.3.3.1 and annex A, `b(:)` to `b(field)`; Forth 2012, 6.1.0450, 6.1.0950, 6.1.1000, 6.1.2410,
-- 6.2.0825, 6.2.1173, 6.2.2405).
use Rattle.std.specs.Prelude.{ℕ, ◌+◌, Bool, true, false, nat_le, nat_lt, List, [], ◌∷◌, ◌++◌, length, Option, Some}
use Rattle.std.specs.Prelude.{None, Result, is_none, is_some, ◌&&◌}
use Rattle.of_cells.specs.declared.cells.Cell.{Cell}
use Rattle.of_cells.specs.Arithmetic.{plus}
use Rattle.of_stacks.specs.declared.throws.Throw.{Throw}
use Rattle.of_stacks.specs.Throws.{compiler_nesting, dictionary_overflow, stack_underflow}
use Rattle.of_stacks.specs.Order.{counting, fault_if, unless}
use Rattle.of_fcodes.specs.Tokens.{assigned, cleared}
use Rattle.of_memory.specs.DataSpace.{DataSpace}
use Rattle.of_memory.specs.Growth.{aligned, with_zeros}
use Rattle.of_memory.specs.Regions.{data_limit}
use Rattle.of_dict.specs.declared.word.Kind.{Kind}
use Rattle.of_dict.specs.declared.word.Kind.TheVariants as kind
use Rattle.of_dict.specs.Words.{capacity, xt_of}
use Rattle.of_dict.specs.Calls.{changed, made, removed}
use Rattle.of_compile.specs.Words.{WordsState, name_fault}
use Rattle.of_compile.specs.declared.words.Pending.{Pending}
use Rattle.of_compile.specs.declared.defining.DefiningWord.{DefiningWord}
use Rattle.of_compile.specs.declared.defining.DefiningWord.TheVariants as word

-- what defining words work on; the stack has its top first
pub record Making : Type 0 where
  pub words : WordsState
  pub stack : List Cell
  pub memory : DataSpace

abbrev pub making : WordsState → List Cell → DataSpace → Making
making w s m = record { words = w; stack = s; memory = m }

-- a kind of word, how many zero bytes of the data region are its own, and the stack that is left
pub record Made : Type 0 where
  pub kind : Kind
  pub bytes : ℕ
  pub stack : List Cell

abbrev pub one : Kind → ℕ → List Cell → Made
one k n s = record { kind = k; bytes = n; stack = s }

abbrev pub cell : ℕ → Cell
cell n = record { 0 = n }

-- The table, a word a line: what each makes, where the stack has the cells that it takes. `start` is the code cell at
-- which the definition will begin, `here` the next multiple of 4.
abbrev pub made_by : DefiningWord → ℕ → ℕ → List Cell → Option Made
made_by word.Colon start here s = Some (one (kind.Colon start) 0 s)
made_by word.Value start here (x ∷ s) = Some (one (kind.Value x) 0 s)
made_by word.Constant start here (x ∷ s) = Some (one (kind.Constant x) 0 s)
made_by word.Variable start here s = Some (one (kind.Variable (cell here)) 4 s)
made_by word.Create start here s = Some (one (kind.Create (cell here)) 0 s)
made_by word.Defer start here s = Some (one (kind.Defer (cell 0)) 0 s)
made_by word.Buffer start here (n ∷ s) = Some (one (kind.Buffer (cell here)) n.0 s)
made_by word.Field start here (size ∷ offset ∷ s) = Some (one (kind.Field offset) 0 (plus offset size ∷ s))
made_by _ start here s = None

-- whether a defining word makes a word, unless it finds too few cells or no room: no definition is open, and a number
-- is pending
abbrev pub may_define : WordsState → Bool
may_define w = is_none w.defining && is_some w.pending

-- the bytes have no room
abbrev pub has_no_bytes : DataSpace → Option Made → Bool
has_no_bytes m None = false
has_no_bytes m (Some x) = nat_lt data_limit (aligned m.here + x.bytes)

-- the faults of a defining word, in their order
abbrev pub defining_faults : Making → Option Made → List (Option Throw)
defining_faults g x =
    fault_if (is_some g.words.defining) compiler_nesting
    ∷ fault_if (is_none g.words.pending) compiler_nesting
    ∷ fault_if (is_none x) stack_underflow
    ∷ fault_if (nat_le capacity (length g.words.dictionary)) dictionary_overflow
    ∷ fault_if (has_no_bytes g.memory x) dictionary_overflow
    ∷ []

-- `b(:)` opens a definition: its word can't be found by name until that is finished
abbrev pub opens : DefiningWord → Bool
opens word.Colon = true
opens _ = false

abbrev pub opened_in : Bool → ℕ → Option ℕ
opened_in true n = Some n
opened_in false n = None

-- the words with one more, of the pending number and name, which is open or not
abbrev pub made_word : Bool → Kind → Pending → WordsState → WordsState
made_word open_now k p w = record w {
  dictionary = w.dictionary ++ Some (record (made p.name k) { hidden = open_now }) ∷ [];
  table = assigned w.table p.code.0 (record { xt = xt_of (length w.dictionary); immediate = false });
  pending = None;
  defining = opened_in open_now (length w.dictionary);
}

abbrev pub with_word : DefiningWord → Kind → Pending → WordsState → WordsState
with_word d k p w = made_word (opens d) k p w

-- what a word that is made leaves; without a number or the cells that it takes none is made
abbrev pub word_made : DefiningWord → Making → Option Pending → Option Made → Making
word_made d g (Some p) (Some x) =
    making (with_word d x.kind p g.words) x.stack (with_zeros g.memory x.bytes)
word_made d g _ _ = g

-- what a defining word leaves, or throws
abbrev pub defined : DefiningWord → Option Made → Making → Result Making Throw
defined d x g = unless (counting (defining_faults g x)) (word_made d g g.words.pending x)

abbrev pub defining_entry : DefiningWord → ℕ → Making → Result Making Throw
defining_entry d start g = defined d (made_by d start (aligned g.memory.here) g.stack) g

-- ---- a word that a text names, which neither needs nor takes a pending number

-- the faults of a defining word of a text, in their order
abbrev pub naming_faults : List ℕ → Making → Option Made → List (Option Throw)
naming_faults name g x =
    fault_if (is_some g.words.defining) compiler_nesting
    ∷ fault_if (is_none x) stack_underflow
    ∷ name_fault (Some name)
    ∷ fault_if (nat_le capacity (length g.words.dictionary)) dictionary_overflow
    ∷ fault_if (has_no_bytes g.memory x) dictionary_overflow
    ∷ []

-- the words with one more, of this name, which is open or not
abbrev pub with_named : DefiningWord → Kind → List ℕ → WordsState → WordsState
with_named d k name w = record w {
  dictionary = w.dictionary ++ Some (record (made (Some name) k) { hidden = opens d }) ∷ [];
  defining = opened_in (opens d) (length w.dictionary);
}

-- what a word that is made leaves; without the cells that it takes none is made
abbrev pub named_made : DefiningWord → List ℕ → Making → Option Made → Making
named_made d name g (Some x) = making (with_named d x.kind name g.words) x.stack (with_zeros g.memory x.bytes)
named_made d name g None = g

-- what a defining word of a text leaves, or throws
abbrev pub named : DefiningWord → List ℕ → Option Made → Making → Result Making Throw
named d name x g = unless (counting (naming_faults name g x)) (named_made d name g x)

abbrev pub naming_entry : DefiningWord → List ℕ → ℕ → Making → Result Making Throw
naming_entry d name start g = named d name (made_by d start (aligned g.memory.here) g.stack) g

-- ---- the end of a definition

-- the words with the open word found by its name, and no definition open
abbrev pub closed_by : Option ℕ → WordsState → WordsState
closed_by None w = w
closed_by (Some n) w =
    record w { dictionary = changed (λ x. record x { hidden = false }) w.dictionary n; defining = None }

abbrev pub closed : WordsState → WordsState
closed w = closed_by w.defining w

-- the words without the open one: what names it in the token table is unassigned again
abbrev pub dropped : Option ℕ → WordsState → WordsState
dropped None w = w
dropped (Some n) w =
    record w { dictionary = removed w.dictionary; table = cleared (xt_of n) w.table; defining = None }

abbrev pub abandoned : WordsState → WordsState
abandoned w = dropped w.defining w

-- ---- methods

-- the words with one that is found as a method of its package, and by no search of the dictionary
abbrev pub hidden_word : ℕ → WordsState → WordsState
hidden_word n w = record w { dictionary = changed (λ x. record x { hidden = true }) w.dictionary n }
