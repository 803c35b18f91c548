use Rattle.std.proofs.Common.{codes}
use Rattle.of_check.specs.Texts.{number_shown}
use Rattle.of_check.proofs.Writing.{behind}
use Rattle.of_check.proofs.text.write_sentence.Goals as goal

pub returns-in_ok-write_titled-in-Sum : goal.returns-in_ok-write_titled-in-Sum
returns-in_ok-write_titled-in-Sum c =
    rw (c.in-Sum.is) (
    behind _ c.args.out.now.items _ _ (codes "the header says the sum ") (number_shown 4 c.in-Sum.said)
    (codes ", and it is ") (number_shown 4 c.in-Sum.actual) c.in_ok-write_titled-in-Sum.ensures
    c.write_titled-in-Sum.ensures
    )
