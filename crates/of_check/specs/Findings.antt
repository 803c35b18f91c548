-- What is wrong with an image (IEEE 1275-1994, 5.2.2, 5.2.2.5, 5.3.3).
use Rattle.std.specs.Prelude.{ℕ, ◌-◌, ◌%◌, Bool, ◌&&◌, not, false, nat_eq, nat_le, nat_lt, if◌then◌else◌}
use Rattle.std.specs.Prelude.{List, [], ◌∷◌, ◌++◌, length, take, drop, Option, Some, None, is_some}
use Rattle.std.specs.List.{list_any, sum}
use Rattle.of_stream.specs.declared.fault.StreamFault.{StreamFault}
use Rattle.of_stream.specs.Decoding.{Argument, Nothing, Literal, String, Code, Named, Offset}
use Rattle.of_stream.specs.Image.{header_fault, header_length}
use Rattle.of_stream.specs.Targets.{landing}
use Rattle.of_detok.specs.Labels.{said_length, said_sum}
use Rattle.of_check.specs.declared.finding.Finding.{Finding}
use Rattle.of_check.specs.declared.finding.Finding.TheVariants as found
use Rattle.of_check.specs.Tokens.{Standing, Tokens, tokens_of}
use Rattle.of_check.specs.Structures.{is_unnested}

-- one finding, or none
abbrev pub listed : Option Finding → List Finding
listed None = []
listed (Some f) = f ∷ []

-- ---- the header

-- the sum of the bytes behind the header, up to its length
unfoldable pub actual_sum : List ℕ → ℕ
actual_sum image = sum (take (said_length image - header_length) (drop header_length image)) % 65536

-- the header says another sum
abbrev pub sum_finding : ℕ → ℕ → Option Finding
sum_finding said actual = if nat_eq said actual then None else Some (found.Sum said actual)

-- the header says another length
abbrev pub length_finding : ℕ → ℕ → Option Finding
length_finding said actual =
    if nat_lt actual said then Some (found.Cut said actual) else
    if nat_lt said actual then Some (found.Longer said (actual - said)) else
    None

abbrev pub header_findings : List ℕ → List Finding
header_findings image =
    listed (sum_finding (said_sum image) (actual_sum image))
    ++ listed (length_finding (said_length image) (length image))

-- ---- a token, with those before it, the latest first, and those behind it

-- the FCodes that are an image's own
abbrev pub is_own : ℕ → Bool
is_own n = nat_le 0x800 n && nat_lt n 0x1000

-- whether this token makes the word of an FCode: `new-token`, and `named-token` and `external-token`, which alone say a
-- name
abbrev pub makes_by : ℕ → Argument → ℕ → Bool
makes_by code Nothing n = false
makes_by code (Literal x) n = false
makes_by code (String s) n = false
makes_by code (Code c) n = nat_eq code 0x0b5 && nat_eq c.0 n
makes_by code (Named name c) n = nat_eq c.0 n
makes_by code (Offset by) n = false

-- whether one of these does
abbrev pub is_made : List Standing → ℕ → Bool
is_made before n = list_any (λ s. makes_by s.token.code.0 s.token.argument n) before

-- the token is a word that isn't made
abbrev pub use_finding : List Standing → Standing → Option Finding
use_finding before s =
    if is_own s.token.code.0 && not (is_made before s.token.code.0)
    then Some (found.Unmade s.position s.token.code) else None

-- its offset leads outside of an image of so many bytes
abbrev pub branch_finding : ℕ → Standing → Argument → Option Finding
branch_finding end s (Offset by) =
    if is_some (landing end s.position by) then None else Some (found.Outside s.position s.token.code by)
branch_finding end s _ = None

-- it opens a definition that is no nest
abbrev pub definition_finding : Standing → List Standing → Option Finding
definition_finding s behind =
    if nat_eq s.token.code.0 0x0b7 && is_unnested behind then Some (found.Unnested s.position) else None

abbrev pub findings_at : ℕ → List Standing → Standing → List Standing → List Finding
findings_at end before s behind =
    listed (use_finding before s) ++ listed (branch_finding end s s.token.argument)
    ++ listed (definition_finding s behind)

-- ---- an image

-- of all tokens behind others
abbrev pub token_findings : ℕ → List Standing → List Standing → List Finding
token_findings end before [] = []
token_findings end before (s ∷ behind) = findings_at end before s behind ++ token_findings end (s ∷ before) behind

-- no token can be read at a position
abbrev pub end_finding : ℕ → Option ℕ → Option Finding
end_finding end None = None
end_finding end (Some position) =
    if nat_lt position end then Some (found.Unread position) else Some (found.Endless position)

-- of tokens, and of what is behind them
abbrev pub stream_findings : ℕ → List Standing → Tokens → List Finding
stream_findings end before r = token_findings end before r.tokens ++ listed (end_finding end r.unread)

-- of an image whose header has this fault, or none
abbrev pub findings_if : List ℕ → Option StreamFault → List Finding
findings_if image (Some f) = found.Unopened f ∷ []
findings_if image None = header_findings image ++ stream_findings (length image) [] (tokens_of image)

-- all findings of an image, in the order of its bytes
unfoldable pub findings_of : List ℕ → List Finding
findings_of image = findings_if image (header_fault image)

-- ---- where

abbrev pub position_of : Finding → ℕ
position_of (found.Unopened f) = 0
position_of (found.Sum said actual) = 2
position_of (found.Cut said actual) = 4
position_of (found.Longer said more) = 4
position_of (found.Unread position) = position
position_of (found.Endless position) = position
position_of (found.Outside position code by) = position
position_of (found.Unnested position) = position
position_of (found.Unmade position code) = position
