-- Tokens as the code holds them.
use Rattle.std.specs.Prelude.{◌<◌}
use Rattle.of_flow.specs.declared.token.Token.{Token}
use Rattle.of_flow.specs.declared.token.Token.TheVariants as token
use Rattle.of_flow.specs.declared.token.Typed.{Typed as Held}
use Rattle.of_flow.specs.declared.token.Typed.TheVariants as held
use Rattle.of_flow.specs.Tokens.{ExternalToken, NamedToken, Plain, Typed}

abbrev pub typed_shown : Held → Typed
typed_shown (held.Plain t) = Plain t
typed_shown (held.NamedToken name k) = NamedToken name.now k
typed_shown (held.ExternalToken name k) = ExternalToken name.now k

-- a string has at most as many bytes as a byte can count
abbrev pub IsShort : Token → Type 0
IsShort (token.String n) = n < 256
IsShort t = Unit {0}

abbrev pub AreShort : Held → Type 0
AreShort (held.Plain t) = IsShort t
AreShort t = Unit {0}
