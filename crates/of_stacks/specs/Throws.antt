-- What words throw (Forth 2012, table 9.1; below -255 the numbers of this board), and the text of each.
use Rattle.std.specs.Prelude.{◌≡◌, true, Result, Ok, Err, ℕ, List, [], ◌∷◌, ℤ, pos, neg_ℤ, Bool, if◌then◌else◌, codes}
use Rattle.std.specs.List.{list_any}
use Rattle.std.specs.Ordering.{int_eq}
use Rattle.of_stacks.specs.declared.throws.Throw.{Throw}

-- the throw of -n
abbrev pub throw : ℕ → Throw
throw n = record { 0 = neg_ℤ (pos n) }

-- the number is -n
abbrev pub is_minus : ℕ → ℤ → Bool
is_minus n z = int_eq z (neg_ℤ (pos n))

abbrev pub aborted : Throw
aborted = throw 1

abbrev pub stack_overflow : Throw
stack_overflow = throw 3

abbrev pub stack_underflow : Throw
stack_underflow = throw 4

abbrev pub return_stack_overflow : Throw
return_stack_overflow = throw 5

abbrev pub return_stack_underflow : Throw
return_stack_underflow = throw 6

abbrev pub dictionary_overflow : Throw
dictionary_overflow = throw 8

abbrev pub invalid_address : Throw
invalid_address = throw 9

abbrev pub division_by_zero : Throw
division_by_zero = throw 10

abbrev pub undefined_word : Throw
undefined_word = throw 13

abbrev pub compile_only : Throw
compile_only = throw 14

abbrev pub empty_name : Throw
empty_name = throw 16

abbrev pub pictured_overflow : Throw
pictured_overflow = throw 17

abbrev pub long_name : Throw
long_name = throw 19

abbrev pub read_only : Throw
read_only = throw 20

abbrev pub control_mismatch : Throw
control_mismatch = throw 22

abbrev pub misaligned : Throw
misaligned = throw 23

abbrev pub invalid_argument : Throw
invalid_argument = throw 24

abbrev pub return_stack_imbalance : Throw
return_stack_imbalance = throw 25

abbrev pub loop_unavailable : Throw
loop_unavailable = throw 26

abbrev pub compiler_nesting : Throw
compiler_nesting = throw 29

abbrev pub not_created : Throw
not_created = throw 31

abbrev pub invalid_name : Throw
invalid_name = throw 32

abbrev pub not_assigned : Throw
not_assigned = throw 256

abbrev pub image_ended : Throw
image_ended = throw 257

abbrev pub bus_fault : Throw
bus_fault = throw 258

abbrev pub no_node : Throw
no_node = throw 259

abbrev pub no_instance : Throw
no_instance = throw 260

abbrev pub no_method : Throw
no_method = throw 261

abbrev pub short_property : Throw
short_property = throw 262

abbrev pub bad_handle : Throw
bad_handle = throw 263

-- the text of a throw below -22
unfoldable pub later_throw_text : ℤ → List ℕ
later_throw_text code =
    if is_minus 23 code then codes "address alignment exception" else
    if is_minus 24 code then codes "invalid numeric argument" else
    if is_minus 25 code then codes "return stack imbalance" else
    if is_minus 26 code then codes "loop parameters unavailable" else
    if is_minus 29 code then codes "compiler nesting" else
    if is_minus 31 code then codes "not a created word" else
    if is_minus 32 code then codes "invalid name argument" else
    if is_minus 256 code then codes "fcode not assigned" else
    if is_minus 257 code then codes "image ended" else
    if is_minus 258 code then codes "bus fault" else
    if is_minus 259 code then codes "no such node" else
    if is_minus 260 code then codes "no such instance" else
    if is_minus 261 code then codes "no such method" else
    if is_minus 262 code then codes "property value too short" else
    if is_minus 263 code then codes "bad handle" else
    codes "thrown by the program"

-- the text of a throw
unfoldable pub throw_text : ℤ → List ℕ
throw_text code =
    if is_minus 1 code then codes "abort" else
    if is_minus 3 code then codes "stack overflow" else
    if is_minus 4 code then codes "stack underflow" else
    if is_minus 5 code then codes "return stack overflow" else
    if is_minus 6 code then codes "return stack underflow" else
    if is_minus 8 code then codes "dictionary overflow" else
    if is_minus 9 code then codes "invalid memory address" else
    if is_minus 10 code then codes "division by zero" else
    if is_minus 13 code then codes "undefined word" else
    if is_minus 14 code then codes "compile-only word" else
    if is_minus 16 code then codes "zero-length name" else
    if is_minus 17 code then codes "pictured output overflow" else
    if is_minus 19 code then codes "name too long" else
    if is_minus 20 code then codes "write to a read-only location" else
    if is_minus 22 code then codes "control structure mismatch" else
    later_throw_text code

-- the numbers of the throws that words raise of themselves, each the negative of one here; -22 is none of them: it is
-- thrown where a definition is ended, and nowhere else
unfoldable pub listed_numbers : List ℕ
listed_numbers =
    1 ∷ 3 ∷ 4 ∷ 5 ∷ 6 ∷ 8 ∷ 9 ∷ 10 ∷ 13 ∷ 14 ∷ 16 ∷ 17 ∷ 19 ∷ 20 ∷ 23 ∷ 24 ∷ 25 ∷ 26 ∷ 29 ∷ 31 ∷ 32
    ∷ 256 ∷ 257 ∷ 258 ∷ 259 ∷ 260 ∷ 261 ∷ 262 ∷ 263 ∷ []

-- the throw is one of those
unfoldable pub is_listed : Throw → Bool
is_listed t = list_any (λ n. is_minus n t.0) listed_numbers

-- a throw of this answer is a listed one
abbrev pub ThrowsListed : {A : Type 0} → Result A Throw → Type 0
ThrowsListed (Ok x) = Unit {0}
ThrowsListed (Err t) = is_listed t ≡ true
