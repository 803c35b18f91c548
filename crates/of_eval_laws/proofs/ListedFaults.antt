-- What tests, words on words and defining words throw has a listed number.
use Rattle.std.specs.Result.{is_err}
use Rattle.std.proofs.Common.{◌≡◌, ℕ, Bool, true, false, nat_le, nat_eq, nat_lt, not, List, [], ◌∷◌, length, Option}
use Rattle.std.proofs.Common.{Some, None, Result, Ok, Err, is_some, is_none, refl, if◌then◌else◌}
use Rattle.of_cells.specs.declared.cells.Cell.{Cell}
use Rattle.of_cells.specs.Numbers.{flag}
use Rattle.of_stacks.specs.declared.return_item.LoopParameters.{LoopParameters}
use Rattle.of_stacks.specs.declared.return_item.ReturnItem.{ReturnItem}
use Rattle.of_stacks.specs.declared.return_item.ReturnItem.TheVariants.{Caller, Handler, Loop, Return, Source, User}
use Rattle.of_stacks.specs.declared.throws.Throw.{Throw}
use Rattle.of_stacks.specs.Loops.{index_of, loop_on_top}
use Rattle.of_stacks.specs.Order.{counted, counting, fault_if, rank, refused_if, unless}
use Rattle.of_stacks.specs.Returns.{return_on_top, user_on_top}
use Rattle.of_stacks.specs.Stacks.{within}
use Rattle.of_stacks.specs.Throws.{ThrowsListed, bad_handle, compiler_nesting, dictionary_overflow, empty_name}
use Rattle.of_stacks.specs.Throws.{invalid_argument, is_listed, listed_numbers, long_name, stack_overflow}
use Rattle.of_stacks.specs.Throws.{stack_underflow, no_node}
use Rattle.of_fcodes.specs.declared.codes.FCode.{FCode}
use Rattle.of_fcodes.specs.declared.token_table.TokenEntry.{TokenEntry}
use Rattle.of_fcodes.specs.Tokens.{entry_in}
use Rattle.of_memory.specs.Growth.{aligned}
use Rattle.of_dict.specs.declared.word.Kind.{Kind}
use Rattle.of_dict.specs.declared.word.Kind.TheVariants as kind
use Rattle.of_dict.specs.declared.word.Slot.TheVariants as slot
use Rattle.of_dict.specs.Words.{capacity, longest_name}
use Rattle.of_compile.specs.declared.defining.DefiningWord.{DefiningWord}
use Rattle.of_compile.specs.Defining.{Made, Making, defining_entry, defining_faults, has_no_bytes, made_by}
use Rattle.of_compile.specs.Defining.{naming_entry}
use Rattle.of_compile.specs.DictionaryWords.{behavior_entry, behavior_of, body_of, created_at, found_of}
use Rattle.of_compile.specs.DictionaryWords.{from_body_entry, get_token_entry, kind_at, marked, replaced}
use Rattle.of_compile.specs.DictionaryWords.{set_token_entry, store_entry, stored_kind, to_body_entry, token_given}
use Rattle.of_compile.specs.DictionaryWords.{with_stored, xt_found}
use Rattle.of_compile.specs.Words.{WordsState, is_own_code, is_word, name_fault, numbered}
use Rattle.of_compile.specs.SlotWords.{SlotMaking, slot_entry, slot_given, slot_made, slot_naming_entry}
use Rattle.of_dict.specs.declared.word.Slot.{Slot}
use Rattle.of_nodes.specs.declared.phandles.Phandle.{Phandle}

-- ---- one fault of several

-- a fault has a listed number, if it is found
abbrev pub IsListedFault : Option Throw → Type 0
IsListedFault None = Unit {0}
IsListedFault (Some t) = is_listed t ≡ true

pub fault_listed : (b : Bool) (t : Throw) → is_listed t ≡ true → IsListedFault (fault_if b t)
fault_listed true t h = h
fault_listed false t h = tt

one_listed : (b : Bool) (t u : Throw) → is_listed t ≡ true → is_listed u ≡ true
    → IsListedFault (Some (if b then t else u))
one_listed true t u ht hu = ht
one_listed false t u ht hu = hu

pub counted_listed : (a b : Option Throw) → IsListedFault a → IsListedFault b → IsListedFault (counted a b)
counted_listed None b ha hb = hb
counted_listed (Some t) None ha hb = ha
counted_listed (Some t) (Some u) ha hb = one_listed (nat_le (rank t.0) (rank u.0)) t u ha hb

pub unless_listed : {A : Type 0} (f : Option Throw) (x : A) → IsListedFault f → ThrowsListed (unless f x)
unless_listed (Some t) x h = h
unless_listed None x h = tt

pub refused_listed : {A : Type 0} (b : Bool) (t : Throw) (x : A) → is_listed t ≡ true
    → ThrowsListed (refused_if b t x)
refused_listed true t x h = h
refused_listed false t x h = tt

-- ---- stacks

pub within_listed : (cells : List Cell) → ThrowsListed (within cells)
unfolding is_listed listed_numbers
within_listed cells = refused_listed (nat_lt 256 (length cells)) stack_overflow cells refl

pub user_listed : (r : List ReturnItem) → ThrowsListed (user_on_top r)
unfolding is_listed listed_numbers
user_listed [] = refl
user_listed (User x ∷ r) = tt
user_listed (Return to ∷ r) = refl
user_listed (Loop l ∷ r) = refl
user_listed (Handler h ∷ r) = refl
user_listed (Source s ∷ r) = refl
user_listed (Caller c ∷ r) = refl

pub return_listed : (r : List ReturnItem) → ThrowsListed (return_on_top r)
unfolding is_listed listed_numbers
return_listed [] = refl
return_listed (Return to ∷ r) = tt
return_listed (Loop l ∷ r) = refl
return_listed (User x ∷ r) = refl
return_listed (Handler h ∷ r) = refl
return_listed (Source s ∷ r) = refl
return_listed (Caller c ∷ r) = refl

pub loop_listed : (r : List ReturnItem) → ThrowsListed (loop_on_top r)
unfolding is_listed listed_numbers
loop_listed [] = refl
loop_listed (Loop l ∷ r) = tt
loop_listed (Return to ∷ r) = refl
loop_listed (User x ∷ r) = refl
loop_listed (Handler h ∷ r) = refl
loop_listed (Source s ∷ r) = refl
loop_listed (Caller c ∷ r) = refl

pub index_listed : (l : Option LoopParameters) → ThrowsListed (index_of l)
unfolding is_listed listed_numbers
index_listed None = refl
index_listed (Some l) = tt

-- ---- words on words

pub replaced_listed : (r : Result Cell Throw) (cells : List Cell) → ThrowsListed r → ThrowsListed (replaced r cells)
replaced_listed (Ok x) cells h = tt
replaced_listed (Err t) cells h = h

found_listed : (known : Bool) (r : Result Cell Throw) → ThrowsListed r
    → ThrowsListed (if known then r else Err bad_handle)
unfolding is_listed listed_numbers
found_listed true r h = h
found_listed false r h = refl

behaviors : (k : Option Kind) → ThrowsListed (behavior_of k)
unfolding is_listed listed_numbers
behaviors None = refl
behaviors (Some (kind.Defer xt)) = tt
behaviors (Some (kind.PerInstance slot.Value n)) = refl
behaviors (Some (kind.PerInstance slot.Variable n)) = refl
behaviors (Some (kind.PerInstance slot.Buffer n)) = refl
behaviors (Some (kind.PerInstance slot.Defer n)) = refl
behaviors (Some (kind.Colon start)) = refl
behaviors (Some (kind.Constant x)) = refl
behaviors (Some (kind.Value x)) = refl
behaviors (Some (kind.Variable a)) = refl
behaviors (Some (kind.Create a)) = refl
behaviors (Some (kind.Buffer a)) = refl
behaviors (Some (kind.Field o)) = refl

pub behavior_listed : (w : WordsState) (cells : List Cell) → ThrowsListed (behavior_entry w cells)
unfolding is_listed listed_numbers
behavior_listed w [] = refl
behavior_listed w (xt ∷ cells) =
    let b = behavior_of (kind_at w xt.0) in
    replaced_listed (found_of w xt b) cells (found_listed (is_word w.dictionary xt.0) b (behaviors (kind_at w xt.0)))

bodies : (k : Option Kind) → ThrowsListed (body_of k)
unfolding is_listed listed_numbers
bodies None = refl
bodies (Some (kind.Create a)) = tt
bodies (Some (kind.Variable a)) = tt
bodies (Some (kind.Defer xt)) = refl
bodies (Some (kind.PerInstance s n)) = refl
bodies (Some (kind.Colon start)) = refl
bodies (Some (kind.Constant x)) = refl
bodies (Some (kind.Value x)) = refl
bodies (Some (kind.Buffer a)) = refl
bodies (Some (kind.Field o)) = refl

pub to_body_listed : (w : WordsState) (cells : List Cell) → ThrowsListed (to_body_entry w cells)
unfolding is_listed listed_numbers
to_body_listed w [] = refl
to_body_listed w (xt ∷ cells) =
    let b = body_of (kind_at w xt.0) in
    replaced_listed (found_of w xt b) cells (found_listed (is_word w.dictionary xt.0) b (bodies (kind_at w xt.0)))

xts : (n : Option ℕ) → ThrowsListed (xt_found n)
unfolding is_listed listed_numbers
xts None = refl
xts (Some n) = tt

pub from_body_listed : (w : WordsState) (cells : List Cell) → ThrowsListed (from_body_entry w cells)
unfolding is_listed listed_numbers
from_body_listed w [] = refl
from_body_listed w (a ∷ cells) =
    replaced_listed (xt_found (created_at w.dictionary a.0)) cells (xts (created_at w.dictionary a.0))

pub mark_listed : (o : Option ℕ) (w : WordsState) → ThrowsListed (marked o w)
unfolding is_listed listed_numbers
mark_listed None w = refl
mark_listed (Some n) w = tt

given : (e : Option TokenEntry) (cells : List Cell) → ThrowsListed (token_given e cells)
unfolding is_listed listed_numbers
given None cells = refl
given (Some e) cells = within_listed (flag e.immediate ∷ record { 0 = e.xt } ∷ cells)

pub get_token_listed : (w : WordsState) (cells : List Cell) → ThrowsListed (get_token_entry w cells)
unfolding is_listed listed_numbers
get_token_listed w [] = refl
get_token_listed w (code ∷ cells) = given (entry_in w.table code.0) cells

pub set_token_listed : (w : WordsState) (cells : List Cell) → ThrowsListed (set_token_entry w cells)
unfolding is_listed listed_numbers
set_token_listed w [] = refl
set_token_listed w (code ∷ []) = refl
set_token_listed w (code ∷ f ∷ []) = refl
set_token_listed w (code ∷ f ∷ xt ∷ cells) =
    unless_listed _ _ (counted_listed _ _ (fault_listed (not (is_word w.dictionary xt.0)) bad_handle refl)
    (counted_listed _ None (fault_listed (not (is_own_code code.0)) invalid_argument refl) tt))

stored : (k : Option Kind) (x : Cell) → ThrowsListed (stored_kind k x)
unfolding is_listed listed_numbers
stored None x = refl
stored (Some (kind.Value y)) x = tt
stored (Some (kind.Defer y)) x = tt
stored (Some (kind.PerInstance slot.Value n)) x = refl
stored (Some (kind.PerInstance slot.Variable n)) x = refl
stored (Some (kind.PerInstance slot.Buffer n)) x = refl
stored (Some (kind.PerInstance slot.Defer n)) x = refl
stored (Some (kind.Colon start)) x = refl
stored (Some (kind.Constant y)) x = refl
stored (Some (kind.Variable a)) x = refl
stored (Some (kind.Create a)) x = refl
stored (Some (kind.Buffer a)) x = refl
stored (Some (kind.Field o)) x = refl

with_stored_listed : (xt : ℕ) (r : Result Kind Throw) (w : WordsState) (cells : List Cell) → ThrowsListed r
    → ThrowsListed (with_stored xt r w cells)
with_stored_listed xt (Ok k) w cells h = tt
with_stored_listed xt (Err t) w cells h = h

pub store_listed : (xt : ℕ) (w : WordsState) (cells : List Cell) → ThrowsListed (store_entry xt w cells)
unfolding is_listed listed_numbers
store_listed xt w [] = refl
store_listed xt w (x ∷ cells) =
    with_stored_listed xt (stored_kind (kind_at w xt) x) w cells (stored (kind_at w xt) x)

-- ---- words that define

name_if : (a b : Bool) → IsListedFault (if a then Some empty_name else fault_if b long_name)
unfolding is_listed listed_numbers
name_if true b = refl
name_if false b = fault_listed b long_name refl

name_listed : (name : Option (List ℕ)) → IsListedFault (name_fault name)
name_listed None = tt
name_listed (Some name) = name_if (nat_eq (length name) 0) (nat_lt longest_name (length name))

pub numbered_listed : (k : FCode) (name : Option (List ℕ)) (w : WordsState) → ThrowsListed (numbered k name w)
unfolding is_listed listed_numbers
numbered_listed k name w =
    unless_listed _ _ (counted_listed _ _ (fault_listed (is_some w.defining) compiler_nesting refl)
    (counted_listed _ _ (name_listed name)
    (counted_listed _ None (fault_listed (not (is_own_code k.0)) invalid_argument refl) tt)))

defines : (g : Making) (x : Option Made) (after : Making)
    → ThrowsListed (unless (counting (defining_faults g x)) after)
unfolding is_listed listed_numbers
defines g x after =
    unless_listed _ _ (counted_listed _ _ (fault_listed (is_some g.words.defining) compiler_nesting refl)
    (counted_listed _ _ (fault_listed (is_none g.words.pending) compiler_nesting refl)
    (counted_listed _ _ (fault_listed (is_none x) stack_underflow refl)
    (counted_listed _ _ (fault_listed (nat_le capacity (length g.words.dictionary)) dictionary_overflow refl)
    (counted_listed _ None (fault_listed (has_no_bytes g.memory x) dictionary_overflow refl) tt)))))

pub defining_listed : (d : DefiningWord) (start : ℕ) (g : Making) → ThrowsListed (defining_entry d start g)
defining_listed d start g = defines g (made_by d start (aligned g.memory.here) g.stack) _

pub slot_word_listed : (k : Slot) (home : Option Phandle) (g : SlotMaking) → ThrowsListed (slot_entry k home g)
unfolding is_listed listed_numbers
slot_word_listed k home g =
    let x = slot_made k g.stack in
    unless_listed _ _ (counted_listed _ _ (fault_listed (is_some g.words.defining) compiler_nesting refl)
    (counted_listed _ _ (fault_listed (is_none g.words.pending) compiler_nesting refl)
    (counted_listed _ _ (fault_listed (is_none x) stack_underflow refl)
    (counted_listed _ _ (fault_listed (is_none home) no_node refl)
    (counted_listed _ _ (fault_listed (nat_le capacity (length g.words.dictionary)) dictionary_overflow refl)
    (counted_listed _ _ (fault_listed (nat_le capacity (length g.instances.slots)) dictionary_overflow refl)
    (counted_listed _ None (fault_listed (is_err (slot_given home x g)) dictionary_overflow refl) tt)))))))

-- ---- words that a text names

pub naming_listed : (d : DefiningWord) (name : List ℕ) (start : ℕ) (g : Making)
    → ThrowsListed (naming_entry d name start g)
unfolding is_listed listed_numbers
naming_listed d name start g =
    let x = made_by d start (aligned g.memory.here) g.stack in
    unless_listed _ _ (counted_listed _ _ (fault_listed (is_some g.words.defining) compiler_nesting refl)
    (counted_listed _ _ (fault_listed (is_none x) stack_underflow refl)
    (counted_listed _ _ (name_listed (Some name))
    (counted_listed _ _ (fault_listed (nat_le capacity (length g.words.dictionary)) dictionary_overflow refl)
    (counted_listed _ None (fault_listed (has_no_bytes g.memory x) dictionary_overflow refl) tt)))))

pub slot_naming_listed : (k : Slot) (name : List ℕ) (home : Option Phandle) (g : SlotMaking)
    → ThrowsListed (slot_naming_entry k name home g)
unfolding is_listed listed_numbers
slot_naming_listed k name home g =
    let x = slot_made k g.stack in
    unless_listed _ _ (counted_listed _ _ (fault_listed (is_some g.words.defining) compiler_nesting refl)
    (counted_listed _ _ (fault_listed (is_none x) stack_underflow refl)
    (counted_listed _ _ (fault_listed (is_none home) no_node refl)
    (counted_listed _ _ (name_listed (Some name))
    (counted_listed _ _ (fault_listed (nat_le capacity (length g.words.dictionary)) dictionary_overflow refl)
    (counted_listed _ _ (fault_listed (nat_le capacity (length g.instances.slots)) dictionary_overflow refl)
    (counted_listed _ None (fault_listed (is_err (slot_given home x g)) dictionary_overflow refl) tt)))))))
