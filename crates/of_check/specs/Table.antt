-- Which FCodes the tokens so far make, as a table of all FCodes (IEEE 1275-1994, 5.2.2.2 and 5.3.3.1).
use Rattle.std.specs.Prelude.{ℕ, Bool, true, false, ◌&&◌, not, nat_eq, if◌then◌else◌, List, ◌++◌, Option, Some, None}
use Rattle.std.specs.Prelude.{unwrap_or}
use Rattle.std.specs.Prelude.{replicate, set, slice_get}
use Rattle.of_stream.specs.declared.token.Token.{Token as Held}
use Rattle.of_stream.specs.Decoding.{token_shown, Argument, Nothing, Literal, String, Code, Named, Offset}
use Rattle.of_control.specs.Openers.{Openers}
use Rattle.of_control.specs.Calls.{after_call}
use Rattle.of_control.specs.Element.{Element}
use Rattle.of_compile.specs.declared.element.PlainItem.{PlainItem}
use Rattle.of_check.specs.declared.finding.Finding.{Finding}
use Rattle.of_check.specs.declared.finding.Finding.TheVariants as found
use Rattle.of_check.specs.Tokens.{Standing}
use Rattle.of_check.specs.Structures.{deepest}
use Rattle.of_check.specs.Findings.{branch_finding, definition_finding, is_own, listed}

-- a token of the code, and where it stands
abbrev pub standing : ℕ → Held → Standing
standing position t = record { position = position; token = token_shown t }

-- no FCode is made
unfoldable pub none_made : List Bool
none_made = replicate 4096 false

-- behind a token
abbrev pub noted : ℕ → Argument → List Bool → List Bool
noted code Nothing made = made
noted code (Literal x) made = made
noted code (String s) made = made
noted code (Code c) made = if nat_eq code 0x0b5 then set made c.0 true else made
noted code (Named name c) made = set made c.0 true
noted code (Offset by) made = made

-- whether an FCode is made
abbrev pub has : List Bool → ℕ → Bool
has made n = unwrap_or (slice_get made n) false

-- the findings of a token, by the table
abbrev pub use_in : List Bool → Standing → Option Finding
use_in made s =
    if is_own s.token.code.0 && not (has made s.token.code.0)
    then Some (found.Unmade s.position s.token.code) else None

abbrev pub findings_in : ℕ → List Bool → Standing → List Standing → List Finding
findings_in end made s behind =
    listed (use_in made s) ++ listed (branch_finding end s s.token.argument) ++ listed (definition_finding s behind)

-- what an element, if there is one, leaves open
abbrev pub called : Option (Element PlainItem) → Openers → Openers
called None os = os
called (Some e) os = after_call deepest 0 e os
