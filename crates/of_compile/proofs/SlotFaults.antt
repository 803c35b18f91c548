-- Which fault counts of a word that works on a slot.
use Rattle.std.proofs.Common.{◌≡◌, ℕ, ◌∙◌, ◌||◌, Bool, true, false, nat_eq, nat_le, nat_lt, List, [], ◌∷◌}
use Rattle.std.proofs.Common.{length, Option, Some, None, Err, is_some, is_none, is_err, refl, if◌then◌else◌}
use Rattle.of_stacks.specs.declared.throws.Throw.{Throw}
use Rattle.of_stacks.specs.Throws.{compiler_nesting, dictionary_overflow, empty_name, long_name, no_node}
use Rattle.of_stacks.specs.Throws.{stack_underflow}
use Rattle.of_stacks.specs.Order.{counting, fault_if, later_rank, rank}
use Rattle.of_dict.specs.Words.{capacity, longest_name}
use Rattle.of_dict.specs.declared.word.Slot.{Slot}
use Rattle.of_nodes.specs.declared.phandles.Phandle.{Phandle}
use Rattle.of_compile.specs.SlotWords.{SlotMade, SlotMaking, slot_entry, slot_given, slot_made, slot_naming_entry}
use Rattle.of_compile.specs.Words.{name_fault}
use Rattle.of_compile.proofs.FaultLemmas.{IsLate, counted_first, late_counted, late_if, nesting_nesting}
use Rattle.of_compile.proofs.FaultLemmas.{empty_overflow, long_overflow, name_late, name_short}
use Rattle.of_compile.proofs.FaultLemmas.{nesting_overflow, nesting_underflow, underflow_overflow}

-- each stands behind t in the order or beside it
abbrev AreLate : Throw → List (Option Throw) → Type 0
AreLate t [] = Unit {0}
AreLate t (f ∷ fs) = IsLate t f × AreLate t fs

late_counting : (t : Throw) (fs : List (Option Throw)) → AreLate t fs → IsLate t (counting fs)
late_counting t [] h = tt
late_counting t (f ∷ fs) h = late_counted t f (counting fs) h.0 (late_counting t fs h.1)

first : (t : Throw) (fs : List (Option Throw)) → AreLate t fs → counting (Some t ∷ fs) ≡ Some t
first t fs h = counted_first t (counting fs) (late_counting t fs h)

nesting_node : nat_le (rank compiler_nesting.0) (rank no_node.0) ≡ true
unfolding rank later_rank
nesting_node = refl

underflow_node : nat_le (rank stack_underflow.0) (rank no_node.0) ≡ true
unfolding rank later_rank
underflow_node = refl

node_overflow : nat_le (rank no_node.0) (rank dictionary_overflow.0) ≡ true
unfolding rank later_rank
node_overflow = refl

-- want of room, by each of three tests
abbrev full : Bool → Bool → Bool → List (Option Throw)
full a b c =
    fault_if a dictionary_overflow ∷ fault_if b dictionary_overflow ∷ fault_if c dictionary_overflow ∷ []

all_late : (t : Throw) (a b c : Bool) → nat_le (rank t.0) (rank dictionary_overflow.0) ≡ true
    → AreLate t (full a b c)
all_late t a b c h =
    (late_if t dictionary_overflow a h, (late_if t dictionary_overflow b h, (late_if t dictionary_overflow c h, tt)))

behind_nesting : (u n a b c : Bool)
    → AreLate compiler_nesting (fault_if u stack_underflow ∷ fault_if n no_node ∷ full a b c)
behind_nesting u n a b c = (
  late_if compiler_nesting stack_underflow u nesting_underflow,
  (late_if compiler_nesting no_node n nesting_node, all_late compiler_nesting a b c nesting_overflow),
)

nested : (d p u n a b c : Bool) → (d || p) ≡ true
    → counting (fault_if d compiler_nesting ∷ fault_if p compiler_nesting ∷ fault_if u stack_underflow
    ∷ fault_if n no_node ∷ full a b c) ≡ Some compiler_nesting
nested true p u n a b c e =
    first compiler_nesting
    (fault_if p compiler_nesting ∷ fault_if u stack_underflow ∷ fault_if n no_node ∷ full a b c)
    (late_if compiler_nesting compiler_nesting p nesting_nesting, behind_nesting u n a b c)
nested false true u n a b c e =
    first compiler_nesting (fault_if u stack_underflow ∷ fault_if n no_node ∷ full a b c) (behind_nesting u n a b c)
nested false false u n a b c e = cc

short : (n a b c : Bool)
    → counting (Some stack_underflow ∷ fault_if n no_node ∷ full a b c) ≡ Some stack_underflow
short n a b c =
    first stack_underflow (fault_if n no_node ∷ full a b c)
    (late_if stack_underflow no_node n underflow_node, all_late stack_underflow a b c underflow_overflow)

homeless : (a b c : Bool) → counting (Some no_node ∷ full a b c) ≡ Some no_node
homeless a b c = first no_node (full a b c) (all_late no_node a b c node_overflow)

-- -29 where a definition is open or no number is pending
pub slot_nested : (s : Slot) (home : Option Phandle) (g : SlotMaking)
    → (is_some g.words.defining || is_none g.words.pending) ≡ true → slot_entry s home g ≡ Err compiler_nesting
slot_nested s home g e =
    let x = slot_made s g.stack in
    rw (nested (is_some g.words.defining) (is_none g.words.pending) (is_none x) (is_none home)
    (nat_le capacity (length g.words.dictionary)) (nat_le capacity (length g.instances.slots))
    (is_err (slot_given home x g)) e) refl

-- else -4
pub slot_short : (s : Slot) (home : Option Phandle) (g : SlotMaking) → is_some g.words.defining ≡ false
    → is_none g.words.pending ≡ false → slot_made s g.stack ≡ None → slot_entry s home g ≡ Err stack_underflow
slot_short s home g e p none =
    rw (
      none,
      e,
      p,
      short (is_none home) (nat_le capacity (length g.words.dictionary))
          (nat_le capacity (length g.instances.slots)) (is_err (slot_given home None g)),
    ) refl

-- else -259
pub slot_homeless : (s : Slot) (x : SlotMade) (g : SlotMaking) → is_some g.words.defining ≡ false
    → is_none g.words.pending ≡ false → slot_made s g.stack ≡ Some x → slot_entry s None g ≡ Err no_node
slot_homeless s x g e p some =
    rw (
      some,
      e,
      p,
      homeless (nat_le capacity (length g.words.dictionary))
          (nat_le capacity (length g.instances.slots)) true,
    ) refl

-- ---- the same of a word that a text names

node_empty : nat_le (rank no_node.0) (rank empty_name.0) ≡ true
unfolding rank later_rank
node_empty = refl

node_long : nat_le (rank no_node.0) (rank long_name.0) ≡ true
unfolding rank later_rank
node_long = refl

text_homeless : (e l : Bool) → IsLate no_node (if e then Some empty_name else fault_if l long_name)
text_homeless true l = node_empty
text_homeless false l = late_if no_node long_name l node_long

name_homeless : (name : List ℕ) → IsLate no_node (name_fault (Some name))
name_homeless name = text_homeless (nat_eq (length name) 0) (nat_lt longest_name (length name))

named_nested : (name : List ℕ) (u n a b c : Bool)
    → counting (Some compiler_nesting ∷ fault_if u stack_underflow ∷ fault_if n no_node ∷ name_fault (Some name)
    ∷ full a b c) ≡ Some compiler_nesting
named_nested name u n a b c =
    first compiler_nesting (fault_if u stack_underflow ∷ fault_if n no_node ∷ name_fault (Some name) ∷ full a b c) (
      late_if compiler_nesting stack_underflow u nesting_underflow,
      (
        late_if compiler_nesting no_node n nesting_node,
        (name_late (Some name), all_late compiler_nesting a b c nesting_overflow),
      ),
    )

named_short : (name : List ℕ) (n a b c : Bool)
    → counting (Some stack_underflow ∷ fault_if n no_node ∷ name_fault (Some name) ∷ full a b c)
    ≡ Some stack_underflow
named_short name n a b c =
    first stack_underflow (fault_if n no_node ∷ name_fault (Some name) ∷ full a b c) (
      late_if stack_underflow no_node n underflow_node,
      (name_short name, all_late stack_underflow a b c underflow_overflow),
    )

named_homeless : (name : List ℕ) (a b c : Bool)
    → counting (Some no_node ∷ name_fault (Some name) ∷ full a b c) ≡ Some no_node
named_homeless name a b c =
    first no_node (name_fault (Some name) ∷ full a b c) (name_homeless name, all_late no_node a b c node_overflow)

named_badly : (e l a b c : Bool) (t : Throw) → (if e then Some empty_name else fault_if l long_name) ≡ Some t
    → counting ((if e then Some empty_name else fault_if l long_name) ∷ full a b c) ≡ Some t
named_badly true l a b c t h = first empty_name (full a b c) (all_late empty_name a b c empty_overflow) ∙ h
named_badly false true a b c t h = first long_name (full a b c) (all_late long_name a b c long_overflow) ∙ h
named_badly false false a b c t h = cc

-- -29 where a definition is open
pub slot_named_open : (s : Slot) (name : List ℕ) (home : Option Phandle) (g : SlotMaking)
    → is_some g.words.defining ≡ true → slot_naming_entry s name home g ≡ Err compiler_nesting
slot_named_open s name home g e =
    let x = slot_made s g.stack in
    rw (
      e,
      named_nested name (is_none x) (is_none home) (nat_le capacity (length g.words.dictionary))
          (nat_le capacity (length g.instances.slots)) (is_err (slot_given home x g)),
    ) refl

-- else -4
pub slot_named_short : (s : Slot) (name : List ℕ) (home : Option Phandle) (g : SlotMaking)
    → is_some g.words.defining ≡ false → slot_made s g.stack ≡ None
    → slot_naming_entry s name home g ≡ Err stack_underflow
slot_named_short s name home g e none =
    rw (
      none,
      e,
      named_short name (is_none home) (nat_le capacity (length g.words.dictionary))
          (nat_le capacity (length g.instances.slots)) (is_err (slot_given home None g)),
    ) refl

-- else -259
pub slot_named_homeless : (s : Slot) (name : List ℕ) (x : SlotMade) (g : SlotMaking)
    → is_some g.words.defining ≡ false → slot_made s g.stack ≡ Some x
    → slot_naming_entry s name None g ≡ Err no_node
slot_named_homeless s name x g e some =
    rw (
      some,
      e,
      named_homeless name (nat_le capacity (length g.words.dictionary))
          (nat_le capacity (length g.instances.slots)) true,
    ) refl

-- else what the name is refused for
pub slot_misnamed : (s : Slot) (name : List ℕ) (ph : Phandle) (x : SlotMade) (g : SlotMaking) (t : Throw)
    → is_some g.words.defining ≡ false → slot_made s g.stack ≡ Some x → name_fault (Some name) ≡ Some t
    → slot_naming_entry s name (Some ph) g ≡ Err t
slot_misnamed s name ph x g t e some h =
    rw (
      some,
      e,
      named_badly (nat_eq (length name) 0) (nat_lt longest_name (length name))
          (nat_le capacity (length g.words.dictionary)) (nat_le capacity (length g.instances.slots))
          (is_err (slot_given (Some ph) (Some x) g)) t h,
    ) refl
