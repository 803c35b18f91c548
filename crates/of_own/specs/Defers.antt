-- What defers lead to (Forth 2012, 6.2.1173; IEEE 1275-1994, annex A, `behavior`).
use Rattle.std.specs.Prelude.{ℕ, zero, suc, List, [], ◌∷◌, length, Option, Some, None, Result, Ok, Err}
use Rattle.of_cells.specs.declared.cells.Cell.{Cell}
use Rattle.of_stacks.specs.declared.throws.Throw.{Throw}
use Rattle.of_stacks.specs.Throws.{bad_handle, stack_underflow}
use Rattle.of_dict.specs.declared.word.Kind.{Kind}
use Rattle.of_dict.specs.declared.word.Kind.TheVariants as kind
use Rattle.of_dict.specs.declared.word.Slot.TheVariants as slot
use Rattle.of_dict.specs.declared.word.Word.{Word}
use Rattle.of_dict.specs.Words.{kind_in}
use Rattle.of_compile.specs.DictionaryWords.{behavior_entry as plain_behavior, kind_at, replaced}
use Rattle.of_compile.specs.Words.{WordsState, own_word}
use Rattle.of_board.specs.declared.board.Board.{Board}
use Rattle.of_board.specs.Left.{stack_left}
use Rattle.of_own.specs.Slots.{slot_cell}

-- ---- behind the defers

abbrev pub kept : Result Cell Throw → Result (Option ℕ) Throw
kept (Ok x) = Ok (Some x.0)
kept (Err t) = Err t

-- the execution token that a defer keeps, if the word is one; one of each instance keeps it in the current one
abbrev pub deferred_to : Option Kind → Board → Result (Option ℕ) Throw
deferred_to None b = Ok None
deferred_to (Some (kind.Defer xt)) b = Ok (Some xt.0)
deferred_to (Some (kind.PerInstance slot.Defer n)) b = kept (slot_cell b n)
deferred_to (Some (kind.PerInstance slot.Value n)) b = Ok None
deferred_to (Some (kind.PerInstance slot.Variable n)) b = Ok None
deferred_to (Some (kind.PerInstance slot.Buffer n)) b = Ok None
deferred_to (Some (kind.Colon start)) b = Ok None
deferred_to (Some (kind.Constant x)) b = Ok None
deferred_to (Some (kind.Value x)) b = Ok None
deferred_to (Some (kind.Variable a)) b = Ok None
deferred_to (Some (kind.Create a)) b = Ok None
deferred_to (Some (kind.Buffer a)) b = Ok None
deferred_to (Some (kind.Field offset)) b = Ok None

-- an execution token, or what comes behind that to which it is deferred
abbrev pub followed : Result (Option ℕ) Throw → ℕ → (ℕ → Result ℕ Throw) → Result ℕ Throw
followed (Ok None) xt behind = Ok xt
followed (Ok (Some to)) xt behind = behind to
followed (Err t) xt behind = Err t

-- what at most so many defers lead to, if that is no defer
unfoldable pub behind_defers : List (Option Word) → Board → ℕ → ℕ → Result ℕ Throw
behind_defers words b zero xt = Err bad_handle
behind_defers words b (suc n) xt =
    followed (deferred_to (kind_in (own_word words xt)) b) xt (λ to. behind_defers words b n to)

-- what a word comes to: a chain of more defers than there are words never leaves them
abbrev pub executable : WordsState → Board → ℕ → Result ℕ Throw
executable w b xt = behind_defers w.dictionary b (suc (length w.dictionary)) xt

-- ---- `behavior` ( xt -- xt )

-- the slot of a defer that is one of each instance
abbrev pub deferring_slot : Option Kind → Option ℕ
deferring_slot None = None
deferring_slot (Some (kind.PerInstance slot.Defer n)) = Some n
deferring_slot (Some (kind.PerInstance slot.Value n)) = None
deferring_slot (Some (kind.PerInstance slot.Variable n)) = None
deferring_slot (Some (kind.PerInstance slot.Buffer n)) = None
deferring_slot (Some (kind.Defer xt)) = None
deferring_slot (Some (kind.Colon start)) = None
deferring_slot (Some (kind.Constant x)) = None
deferring_slot (Some (kind.Value x)) = None
deferring_slot (Some (kind.Variable a)) = None
deferring_slot (Some (kind.Create a)) = None
deferring_slot (Some (kind.Buffer a)) = None
deferring_slot (Some (kind.Field offset)) = None

-- what is left in the place of the execution token: what the slot holds, or what any other word has
abbrev pub behaves : Option ℕ → WordsState → Board → Cell → List Cell → Result (List Cell) Throw
behaves None w b xt s = plain_behavior w (xt ∷ s)
behaves (Some n) w b xt s = replaced (slot_cell b n) s

abbrev pub behavior_of : WordsState → Board → List Cell → Result (List Cell) Throw
behavior_of w b [] = Err stack_underflow
behavior_of w b (xt ∷ s) = behaves (deferring_slot (kind_at w xt.0)) w b xt s

abbrev pub behavior_entry : WordsState → Board → Result Board Throw
behavior_entry w b = stack_left b (behavior_of w b b.stack)
