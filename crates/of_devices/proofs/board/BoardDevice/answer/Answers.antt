use Rattle.std.proofs.Common.{map}
use Rattle.of_devices.specs.Parts.{part_meant}
use Rattle.of_devices.proofs.RackLemmas.{one_answer, one_told}
use Rattle.of_devices.proofs.board.BoardDevice.answer.Goals as goal

pub returns-clause-answer : goal.returns-clause-answer
returns-clause-answer c =
    one_answer (map part_meant c.args.self.now.parts.items) c.args.query c.first_answer.result
    c.first_answer.ensures.answer

pub returns-clause-told : goal.returns-clause-told
returns-clause-told c =
    one_told (map part_meant c.args.self.now.parts.items) _ c.args.query c.first_answer.ensures.told
