-- What the words on words and numbers make of words and data stack, the top first, or throw (IEEE 1275-1994, annex A,
-- `get-token` to `behavior`; Forth 2012, 6.1.1710, 6.1.0550, 6.2.2295).
use Rattle.std.specs.Prelude.{ℕ, Bool, true, false, nat_eq, not, List, [], ◌∷◌, length, Option, Some, None, Result}
use Rattle.std.specs.Prelude.{Ok, Err, if◌then◌else◌}
use Rattle.of_cells.specs.declared.cells.Cell.{Cell}
use Rattle.of_cells.specs.Numbers.{flag}
use Rattle.of_stacks.specs.declared.throws.Throw.{Throw}
use Rattle.of_stacks.specs.Throws.{bad_handle, invalid_argument, invalid_name, no_instance, not_assigned, not_created}
use Rattle.of_stacks.specs.Throws.{stack_underflow}
use Rattle.of_stacks.specs.Order.{counting, fault_if, unless}
use Rattle.of_stacks.specs.Stacks.{within}
use Rattle.of_fcodes.specs.declared.token_table.TokenEntry.{TokenEntry}
use Rattle.of_fcodes.specs.Tokens.{assigned, entry_in}
use Rattle.of_dict.specs.declared.word.Kind.{Kind}
use Rattle.of_dict.specs.declared.word.Kind.TheVariants as kind
use Rattle.of_dict.specs.declared.word.Slot.TheVariants as slot
use Rattle.of_dict.specs.declared.word.Word.{Word}
use Rattle.of_dict.specs.Words.{kind_in, newest, newest_below, word_at, xt_of}
use Rattle.of_dict.specs.Calls.{changed}
use Rattle.of_compile.specs.Words.{WordsState, is_own_code, is_word, own_number, own_word}

-- words, and the stack
abbrev pub WordsAndStack : Type 0
WordsAndStack = WordsState × List Cell

-- ---- `immediate` ( -- ): the newest word is executed while compiling, too

abbrev pub marked : Option ℕ → WordsState → Result WordsState Throw
marked None w = Err bad_handle
marked (Some n) w = Ok (record w { dictionary = changed (λ x. record x { immediate = true }) w.dictionary n })

abbrev pub immediate_entry : WordsState → Result WordsState Throw
immediate_entry w = marked (newest w.dictionary) w

-- ---- `get-token` ( fcode -- xt f )

abbrev pub token_given : Option TokenEntry → List Cell → Result (List Cell) Throw
token_given None s = Err not_assigned
token_given (Some e) s = within (flag e.immediate ∷ record { 0 = e.xt } ∷ s)

abbrev pub get_token_entry : WordsState → List Cell → Result (List Cell) Throw
get_token_entry w [] = Err stack_underflow
get_token_entry w (code ∷ s) = token_given (entry_in w.table code.0) s

-- ---- `set-token` ( xt f fcode -- )

abbrev pub token_set : WordsState → ℕ → Cell → ℕ → WordsState
token_set w code f xt =
    record w { table = assigned w.table code (record { xt = xt; immediate = not (nat_eq f.0 0) }) }

abbrev pub set_token_entry : WordsState → List Cell → Result WordsAndStack Throw
set_token_entry w (code ∷ f ∷ xt ∷ s) =
    unless
    (counting (fault_if (not (is_word w.dictionary xt.0)) bad_handle
    ∷ fault_if (not (is_own_code code.0)) invalid_argument ∷ []))
    (token_set w code.0 f xt.0, s)
set_token_entry w _ = Err stack_underflow

-- ---- `to` ( x -- ) into the word of an execution token

-- what a word is once a cell is stored into it: a value or a defer. The slots of instances are stored into by way of
-- `my-self`, and no instance stands here.
abbrev pub stored_kind : Option Kind → Cell → Result Kind Throw
stored_kind (Some (kind.Value y)) x = Ok (kind.Value x)
stored_kind (Some (kind.Defer y)) x = Ok (kind.Defer x)
stored_kind (Some (kind.PerInstance slot.Value n)) x = Err no_instance
stored_kind (Some (kind.PerInstance slot.Defer n)) x = Err no_instance
stored_kind _ x = Err invalid_name

abbrev pub with_kind : Option ℕ → Kind → WordsState → WordsState
with_kind None k w = w
with_kind (Some n) k w = record w { dictionary = changed (λ x. record x { kind = k }) w.dictionary n }

abbrev pub with_stored : ℕ → Result Kind Throw → WordsState → List Cell → Result WordsAndStack Throw
with_stored xt (Ok k) w s = Ok (with_kind (own_number xt) k w, s)
with_stored xt (Err t) w s = Err t

abbrev pub kind_at : WordsState → ℕ → Option Kind
kind_at w xt = kind_in (own_word w.dictionary xt)

abbrev pub store_entry : ℕ → WordsState → List Cell → Result WordsAndStack Throw
store_entry xt w [] = Err stack_underflow
store_entry xt w (x ∷ s) = with_stored xt (stored_kind (kind_at w xt) x) w s

-- ---- `behavior` ( xt -- xt ), `>body` ( xt -- a ), `body>` ( a -- xt )

-- what a defer executes; that of one of each instance is in its slot, and no instance stands here
abbrev pub behavior_of : Option Kind → Result Cell Throw
behavior_of (Some (kind.Defer xt)) = Ok xt
behavior_of (Some (kind.PerInstance slot.Defer n)) = Err no_instance
behavior_of _ = Err invalid_name

-- the address that a created word gives
abbrev pub body_of : Option Kind → Result Cell Throw
body_of (Some (kind.Create a)) = Ok a
body_of (Some (kind.Variable a)) = Ok a
body_of _ = Err not_created

-- a cell in place of the top
abbrev pub replaced : Result Cell Throw → List Cell → Result (List Cell) Throw
replaced (Ok x) s = Ok (x ∷ s)
replaced (Err t) s = Err t

-- what is found of the word of an execution token; a number that is no word is a bad handle
abbrev pub found_of : WordsState → Cell → Result Cell Throw → Result Cell Throw
found_of w xt r = if is_word w.dictionary xt.0 then r else Err bad_handle

abbrev pub behavior_entry : WordsState → List Cell → Result (List Cell) Throw
behavior_entry w [] = Err stack_underflow
behavior_entry w (xt ∷ s) = replaced (found_of w xt (behavior_of (kind_at w xt.0))) s

abbrev pub to_body_entry : WordsState → List Cell → Result (List Cell) Throw
to_body_entry w [] = Err stack_underflow
to_body_entry w (xt ∷ s) = replaced (found_of w xt (body_of (kind_at w xt.0))) s

-- whether a kind is that of a created word with this address
abbrev pub is_body : ℕ → Option Kind → Bool
is_body a (Some (kind.Create b)) = nat_eq b.0 a
is_body a (Some (kind.Variable b)) = nat_eq b.0 a
is_body a _ = false

-- the newest created word with this address
abbrev pub created_at : List (Option Word) → ℕ → Option ℕ
created_at words a = newest_below (λ n. is_body a (kind_in (word_at words n))) (length words)

abbrev pub xt_found : Option ℕ → Result Cell Throw
xt_found None = Err bad_handle
xt_found (Some n) = Ok (record { 0 = xt_of n })

abbrev pub from_body_entry : WordsState → List Cell → Result (List Cell) Throw
from_body_entry w [] = Err stack_underflow
from_body_entry w (a ∷ s) = replaced (xt_found (created_at w.dictionary a.0)) s
