-- Which of several faults counts.
use Rattle.std.proofs.Common.{◌≡◌, ℕ, ◌||◌, Bool, true, false, nat_le, nat_eq, nat_lt, not, List, [], ◌∷◌, length}
use Rattle.std.proofs.Common.{Option, Some, None, Err, is_some, is_none, refl, ap, ◌∙◌, if◌then◌else◌}
use Rattle.of_stacks.specs.declared.throws.Throw.{Throw}
use Rattle.of_stacks.specs.Throws.{bad_handle, compiler_nesting, dictionary_overflow, empty_name, invalid_argument}
use Rattle.of_stacks.specs.Throws.{long_name, stack_underflow}
use Rattle.of_stacks.specs.Order.{counted, counting, fault_if, later_rank, rank}
use Rattle.of_fcodes.specs.declared.codes.FCode.{FCode}
use Rattle.of_memory.specs.Growth.{aligned}
use Rattle.of_dict.specs.Words.{capacity, longest_name}
use Rattle.of_compile.specs.Words.{WordsState, is_own_code, name_fault, number_faults}
use Rattle.of_compile.specs.declared.defining.DefiningWord.{DefiningWord}
use Rattle.of_compile.specs.Defining.{Making, defining_entry, has_no_bytes, made_by, naming_entry}

-- no fault, or one that stands behind t in the order or beside it
abbrev pub IsLate : Throw → Option Throw → Type 0
IsLate t None = Unit {0}
IsLate t (Some u) = nat_le (rank t.0) (rank u.0) ≡ true

pub counted_first : (t : Throw) (later : Option Throw) → IsLate t later → counted (Some t) later ≡ Some t
counted_first t None l = refl
counted_first t (Some u) l = rw l refl

one_late : (t u v : Throw) (b : Bool) → IsLate t (Some u) → IsLate t (Some v) → IsLate t (Some (if b then u else v))
one_late t u v true lu lv = lu
one_late t u v false lu lv = lv

pub late_counted : (t : Throw) (a b : Option Throw) → IsLate t a → IsLate t b → IsLate t (counted a b)
late_counted t None b la lb = lb
late_counted t (Some u) None la lb = la
late_counted t (Some u) (Some v) la lb = one_late t u v (nat_le (rank u.0) (rank v.0)) la lb

pub late_if : (t u : Throw) (b : Bool) → nat_le (rank t.0) (rank u.0) ≡ true → IsLate t (fault_if b u)
late_if t u true h = h
late_if t u false h = tt

-- -29 counts before all others here
pub nesting_underflow : nat_le (rank compiler_nesting.0) (rank stack_underflow.0) ≡ true
unfolding rank later_rank
nesting_underflow = refl

pub nesting_overflow : nat_le (rank compiler_nesting.0) (rank dictionary_overflow.0) ≡ true
unfolding rank later_rank
nesting_overflow = refl

pub nesting_nesting : nat_le (rank compiler_nesting.0) (rank compiler_nesting.0) ≡ true
unfolding rank later_rank
nesting_nesting = refl

nesting_empty : nat_le (rank compiler_nesting.0) (rank empty_name.0) ≡ true
unfolding rank later_rank
nesting_empty = refl

nesting_long : nat_le (rank compiler_nesting.0) (rank long_name.0) ≡ true
unfolding rank later_rank
nesting_long = refl

nesting_argument : nat_le (rank compiler_nesting.0) (rank invalid_argument.0) ≡ true
unfolding rank later_rank
nesting_argument = refl

empty_argument : nat_le (rank empty_name.0) (rank invalid_argument.0) ≡ true
unfolding rank later_rank
empty_argument = refl

long_argument : nat_le (rank long_name.0) (rank invalid_argument.0) ≡ true
unfolding rank later_rank
long_argument = refl

pub underflow_overflow : nat_le (rank stack_underflow.0) (rank dictionary_overflow.0) ≡ true
unfolding rank later_rank
underflow_overflow = refl

handle_argument : nat_le (rank bad_handle.0) (rank invalid_argument.0) ≡ true
unfolding rank later_rank
handle_argument = refl

-- ---- token makers

text_late : (e l : Bool) → IsLate compiler_nesting (if e then Some empty_name else fault_if l long_name)
text_late true l = nesting_empty
text_late false l = late_if compiler_nesting long_name l nesting_long

pub name_late : (name : Option (List ℕ)) → IsLate compiler_nesting (name_fault name)
name_late None = tt
name_late (Some name) = text_late (nat_eq (length name) 0) (nat_lt longest_name (length name))

nested_number : (name : Option (List ℕ)) (b : Bool)
    → counting (Some compiler_nesting ∷ name_fault name ∷ fault_if b invalid_argument ∷ []) ≡ Some compiler_nesting
nested_number name b =
    let last : Option Throw = counted (fault_if b invalid_argument) None in
    counted_first compiler_nesting (counted (name_fault name) last)
    (late_counted compiler_nesting (name_fault name) last (name_late name)
    (late_counted compiler_nesting (fault_if b invalid_argument) None
    (late_if compiler_nesting invalid_argument b nesting_argument) tt))

pub number_nested : (w : WordsState) (code : FCode) (name : Option (List ℕ)) → is_some w.defining ≡ true
    → counting (number_faults w code name) ≡ Some compiler_nesting
number_nested w code name e =
    ap (λ b. counting (fault_if b compiler_nesting ∷ name_fault name ∷ fault_if (not (is_own_code code.0))
    invalid_argument ∷ [])) e
    ∙ nested_number name (not (is_own_code code.0))

bad_text : (e l b : Bool) (t : Throw) → (if e then Some empty_name else fault_if l long_name) ≡ Some t
    → counting (None ∷ (if e then Some empty_name else fault_if l long_name) ∷ fault_if b invalid_argument ∷ [])
    ≡ Some t
bad_text true l false t h = h
bad_text true l true t h = rw empty_argument h
bad_text false true false t h = h
bad_text false true true t h = rw long_argument h
bad_text false false b t h = cc

bad_name : (name : Option (List ℕ)) (b : Bool) (t : Throw) → name_fault name ≡ Some t
    → counting (None ∷ name_fault name ∷ fault_if b invalid_argument ∷ []) ≡ Some t
bad_name None b t h = cc
bad_name (Some name) b t h = bad_text (nat_eq (length name) 0) (nat_lt longest_name (length name)) b t h

pub number_named : (w : WordsState) (code : FCode) (name : Option (List ℕ)) (t : Throw)
    → is_some w.defining ≡ false → name_fault name ≡ Some t
    → counting (number_faults w code name) ≡ Some t
number_named w code name t e h =
    ap (λ b. counting (fault_if b compiler_nesting ∷ name_fault name ∷ fault_if (not (is_own_code code.0))
    invalid_argument ∷ [])) e
    ∙ bad_name name (not (is_own_code code.0)) t h

-- ---- `set-token`

pub handle_counts : (b : Bool) → counting (Some bad_handle ∷ fault_if b invalid_argument ∷ []) ≡ Some bad_handle
handle_counts false = refl
handle_counts true = rw handle_argument refl

-- ---- defining words

abbrev full : Bool → Bool → Option Throw
full a b = counting (fault_if a dictionary_overflow ∷ fault_if b dictionary_overflow ∷ [])

full_late : (t : Throw) (a b : Bool) → nat_le (rank t.0) (rank dictionary_overflow.0) ≡ true → IsLate t (full a b)
full_late t a b h =
    late_counted t (fault_if a dictionary_overflow) (counted (fault_if b dictionary_overflow) None)
    (late_if t dictionary_overflow a h)
    (late_counted t (fault_if b dictionary_overflow) None (late_if t dictionary_overflow b h) tt)

short_late : (u a b : Bool) → IsLate compiler_nesting (counted (fault_if u stack_underflow) (full a b))
short_late u a b =
    late_counted compiler_nesting (fault_if u stack_underflow) (full a b)
    (late_if compiler_nesting stack_underflow u nesting_underflow)
    (full_late compiler_nesting a b nesting_overflow)

-- -29 where a definition is open or no number pending
nested : (d p u a b : Bool) → (d || p) ≡ true
    → counting (fault_if d compiler_nesting ∷ fault_if p compiler_nesting ∷ fault_if u stack_underflow
    ∷ fault_if a dictionary_overflow ∷ fault_if b dictionary_overflow ∷ []) ≡ Some compiler_nesting
nested true p u a b e =
    counted_first compiler_nesting (counted (fault_if p compiler_nesting) (counted (fault_if u stack_underflow)
    (full a b)))
    (late_counted compiler_nesting (fault_if p compiler_nesting) (counted (fault_if u stack_underflow) (full a b))
    (late_if compiler_nesting compiler_nesting p nesting_nesting) (short_late u a b))
nested false true u a b e =
    counted_first compiler_nesting (counted (fault_if u stack_underflow) (full a b)) (short_late u a b)
nested false false u a b e = cc

-- else -4
short : (a b : Bool) → counted (Some stack_underflow) (full a b) ≡ Some stack_underflow
short a b = counted_first stack_underflow (full a b) (full_late stack_underflow a b underflow_overflow)

-- the same of a defining word
pub entry_nested : (d : DefiningWord) (start : ℕ) (g : Making)
    → (is_some g.words.defining || is_none g.words.pending) ≡ true
    → defining_entry d start g ≡ Err compiler_nesting
entry_nested d start g e =
    let x = made_by d start (aligned g.memory.here) g.stack in
    rw (nested (is_some g.words.defining) (is_none g.words.pending) (is_none x)
    (nat_le capacity (length g.words.dictionary)) (has_no_bytes g.memory x) e) refl

pub entry_short : (d : DefiningWord) (start : ℕ) (g : Making)
    → is_some g.words.defining ≡ false → is_none g.words.pending ≡ false
    → made_by d start (aligned g.memory.here) g.stack ≡ None
    → defining_entry d start g ≡ Err stack_underflow
entry_short d start g e p none =
    rw (none, e, p, short (nat_le capacity (length g.words.dictionary)) false) refl

-- ---- defining words of a text

underflow_empty : nat_le (rank stack_underflow.0) (rank empty_name.0) ≡ true
unfolding rank later_rank
underflow_empty = refl

underflow_long : nat_le (rank stack_underflow.0) (rank long_name.0) ≡ true
unfolding rank later_rank
underflow_long = refl

pub empty_overflow : nat_le (rank empty_name.0) (rank dictionary_overflow.0) ≡ true
unfolding rank later_rank
empty_overflow = refl

pub long_overflow : nat_le (rank long_name.0) (rank dictionary_overflow.0) ≡ true
unfolding rank later_rank
long_overflow = refl

text_short : (e l : Bool) → IsLate stack_underflow (if e then Some empty_name else fault_if l long_name)
text_short true l = underflow_empty
text_short false l = late_if stack_underflow long_name l underflow_long

pub name_short : (name : List ℕ) → IsLate stack_underflow (name_fault (Some name))
name_short name = text_short (nat_eq (length name) 0) (nat_lt longest_name (length name))

naming_nested : (u a b : Bool) (name : List ℕ)
    → counting (Some compiler_nesting ∷ fault_if u stack_underflow ∷ name_fault (Some name)
    ∷ fault_if a dictionary_overflow ∷ fault_if b dictionary_overflow ∷ []) ≡ Some compiler_nesting
naming_nested u a b name =
    let late = late_counted compiler_nesting (name_fault (Some name)) (full a b) (name_late (Some name))
    (full_late compiler_nesting a b nesting_overflow) in
    counted_first compiler_nesting (counted (fault_if u stack_underflow) (counted (name_fault (Some name)) (full a b)))
    (late_counted compiler_nesting (fault_if u stack_underflow) (counted (name_fault (Some name)) (full a b))
    (late_if compiler_nesting stack_underflow u nesting_underflow) late)

naming_short : (a b : Bool) (name : List ℕ)
    → counting (Some stack_underflow ∷ name_fault (Some name)
    ∷ fault_if a dictionary_overflow ∷ fault_if b dictionary_overflow ∷ []) ≡ Some stack_underflow
naming_short a b name =
    counted_first stack_underflow (counted (name_fault (Some name)) (full a b))
    (late_counted stack_underflow (name_fault (Some name)) (full a b) (name_short name)
    (full_late stack_underflow a b underflow_overflow))

text_bad : (e l a b : Bool) (t : Throw) → (if e then Some empty_name else fault_if l long_name) ≡ Some t
    → counted (if e then Some empty_name else fault_if l long_name) (full a b) ≡ Some t
text_bad true l a b t h = counted_first empty_name (full a b) (full_late empty_name a b empty_overflow) ∙ h
text_bad false true a b t h = counted_first long_name (full a b) (full_late long_name a b long_overflow) ∙ h
text_bad false false a b t h = cc

-- -29 where a definition is open
pub naming_open : (d : DefiningWord) (name : List ℕ) (start : ℕ) (g : Making) → is_some g.words.defining ≡ true
    → naming_entry d name start g ≡ Err compiler_nesting
naming_open d name start g e =
    let x = made_by d start (aligned g.memory.here) g.stack in
    rw (e, naming_nested (is_none x) (nat_le capacity (length g.words.dictionary)) (has_no_bytes g.memory x) name) refl

-- else -4
pub naming_lacks : (d : DefiningWord) (name : List ℕ) (start : ℕ) (g : Making) → is_some g.words.defining ≡ false
    → made_by d start (aligned g.memory.here) g.stack ≡ None
    → naming_entry d name start g ≡ Err stack_underflow
naming_lacks d name start g e none =
    rw (none, e, naming_short (nat_le capacity (length g.words.dictionary)) false name) refl

-- else what the name is refused for
pub naming_misnamed : (d : DefiningWord) (name : List ℕ) (start : ℕ) (g : Making) (t : Throw)
    → is_some g.words.defining ≡ false
    → is_none (made_by d start (aligned g.memory.here) g.stack) ≡ false
    → name_fault (Some name) ≡ Some t → naming_entry d name start g ≡ Err t
naming_misnamed d name start g t e made h =
    let x = made_by d start (aligned g.memory.here) g.stack in
    rw (
      e,
      made,
      text_bad (nat_eq (length name) 0) (nat_lt longest_name (length name))
          (nat_le capacity (length g.words.dictionary)) (has_no_bytes g.memory x) t h,
    ) refl
