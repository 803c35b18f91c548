-- The goals at which wrong bodies are refused.
use Rattle.std.proofs.Common.{rules}
use Rattle.of_files.proofs.Replies.{board_read, board_refused}
use Rattle.of_files.proofs.devices.read_board.Goals as goal

pub returns-in-Ok-clause-ok : goal.returns-in-Ok-clause-ok
returns-in-Ok-clause-ok g c = search (rules, board_read)

pub returns-clause-err : goal.returns-clause-err
returns-clause-err g c = search (rules, board_refused)
