use Rattle.of_see.proofs.StringsBack.{strings_read_back}
use Rattle.of_see.proofs.laws.strings_read_back.Goals as goal

pub returns : goal.returns
returns c = strings_read_back c.quoted_parts_are_read.ensures
