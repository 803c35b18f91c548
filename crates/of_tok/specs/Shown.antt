-- What the code holds of tokens and of items at their places, as it is seen here.
use Rattle.of_stream.specs.Decoding.{token_shown}
use Rattle.of_source.specs.Items.{item_shown}
use Rattle.of_tok.specs.declared.written.Written.{Written as Held}
use Rattle.of_tok.specs.declared.written.Written.TheVariants as held
use Rattle.of_tok.specs.declared.placing.Placed.{Placed as HeldPlaced}
use Rattle.of_tok.specs.Layout.{Placed}
use Rattle.of_tok.specs.Tokens.{Written, Straight, Aimed}

abbrev pub written_shown : Held → Written
written_shown (held.Straight size t) = Straight size (token_shown t)
written_shown (held.Aimed a) = Aimed a

abbrev pub placed_shown : HeldPlaced → Placed
placed_shown x = record { item = item_shown x.item.now; place = x.place; start = x.start; next = x.next }
