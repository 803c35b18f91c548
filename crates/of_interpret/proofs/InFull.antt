-- What an act of a text comes to, in full.
use Rattle.of_eval.specs.Doing.{acted, worked}
use Rattle.of_interpret.specs.TextActs.{text_acted}

-- unfolds what a text, an item or token, and a word come to
unfoldable pub in_full : Unit {0}
unfolding text_acted acted worked
in_full = tt
