-- The words over keys and time (IEEE 1275-1994, 5.3.7.4 and annex A, `key`, `key?`, `get-msecs`, `ms`).
use Rattle.std.specs.Prelude.{nat_le, List, [], ◌∷◌, length, Option, Err, if◌then◌else◌}
use Rattle.of_cells.specs.declared.cells.Cell.{Cell}
use Rattle.of_stacks.specs.Throws.{stack_overflow, stack_underflow}
use Rattle.of_fcodes.specs.declared.words.KeysWord.{KeysWord}
use Rattle.of_fcodes.specs.declared.words.KeysWord.TheVariants.{KeyReady, Key}
use Rattle.of_board.specs.declared.board.Board.{Board}
use Rattle.of_asking.specs.declared.query.Query.{Query}
use Rattle.of_asking.specs.declared.query.Query.TheVariants as query
use Rattle.of_asking.specs.declared.query.Answer.{Answer}
use Rattle.of_asking.specs.Questions.{Asking, Gives, asked}

-- a question whose answer is one more cell, for which there must be room
abbrev pub one_more : Query → Option Answer → Board → Asking Board
one_more q reply b = if nat_le 256 (length b.stack) then Gives (Err stack_overflow) else asked q reply b

-- `get-msecs` ( -- x )
abbrev pub milliseconds_entry : Option Answer → Board → Asking Board
milliseconds_entry reply b = one_more query.Milliseconds reply b

-- `ms` ( n -- )
abbrev pub wait_entry : List Cell → Option Answer → Board → Asking Board
wait_entry [] reply b = Gives (Err stack_underflow)
wait_entry (n ∷ s) reply b = asked (query.Wait n) reply b

-- the table of the words over keys: `key?` ( -- f ) and `key` ( -- char )
unfoldable pub keys_entry : KeysWord → Option Answer → Board → Asking Board
keys_entry KeyReady reply b = one_more query.KeyReady reply b
keys_entry Key reply b = one_more query.Key reply b
