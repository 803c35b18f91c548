use Rattle.std.proofs.Common.{◌∙◌, ap, sym, length, arith}
use Rattle.of_dict.specs.Words.{lower}
use Rattle.of_dict.specs.Index.{visible_from}
use Rattle.of_dict.proofs.Searches.{found-entered, found_is_named}
use Rattle.of_dict.proofs.dict.Dict.find.Goals as goal

pub visible_from-requires : goal.visible_from-requires
visible_from-requires c =
    rw c.newest_named.ensures (found_is_named c.args.self.now (lower c.args.name.now) (length c.args.self.now)
    (omega arith))

pub returns-clause-found : goal.returns-clause-found
returns-clause-found c =
    c.visible_from.ensures.value ∙ ap (visible_from c.args.self.now) c.newest_named.ensures
    ∙ sym (found-entered c.args.self.now c.args.name.now)
