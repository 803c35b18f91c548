use Rattle.std.proofs.lemmas.List.{take_rest}
use Rattle.of_scan.proofs.parts.behind_byte.Goals as goal

pub returns-in-len1-up-clause-rest : goal.returns-in-len1-up-clause-rest
returns-in-len1-up-clause-rest c = take_rest c.args.text.now 1
