use Rattle.std.proofs.Common.{◌∙◌, rules}
use Rattle.of_console.proofs.NameLists.{name_there, no_name}
use Rattle.of_console.proofs.names.name_with_xt.Goals as goal

pub returns-in-Some : goal.returns-in-Some
returns-in-Some c =
    c.name_of.ensures.name ∙ name_there c.args.dictionary.now c.in-Some.word.0 c.args.xt.0 (search rules)

pub returns-in-None : goal.returns-in-None
returns-in-None c = no_name c.args.dictionary.now c.args.xt.0 (search rules) (search rules)
