use Rattle.std.proofs.Common.{◌+◌, sym}
use Rattle.std.proofs.lemmas.List.{take_rest}
use Rattle.of_detok.proofs.Loops.{line_ended}
use Rattle.of_detok.proofs.reader.first_line.Goals as goal

pub returns-in-Some-clause-lines : goal.returns-in-Some-clause-lines
returns-in-Some-clause-lines c =
    rw (take_rest c.args.text.now (c.in-Some.end + 1))
    (line_ended c.args.text.now c.in-Some.end c.requires (sym c.in-Some.ensures))
