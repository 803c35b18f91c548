use Rattle.std.proofs.Common.{rules, refl}
use Rattle.of_compile.specs.Words.{name_given}
use Rattle.of_compile.proofs.FaultLemmas.{number_named}
use Rattle.of_compile.proofs.words.Words.announce.Goals as goal

-- src/words.rt:161:13
pub returns-in-Some : goal.returns-in-Some
returns-in-Some c =
    let counts = number_named c.args.self.now c.args.code (name_given c.args.memory.now c.args.maker) c.in-Some.fault
    (search rules) (search rules) in
    (rw counts refl, refl)
