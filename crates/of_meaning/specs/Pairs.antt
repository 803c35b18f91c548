-- The body of a definition, by its nest: which word closes which is known from the nest alone (IEEE 1275-1994, 5.3.3.2;
-- Forth 2012, 3.2.3.2).
use Rattle.std.specs.Prelude.{ℕ, suc, not, nat_eq, nat_le, if◌then◌else◌, List, [], ◌∷◌, length, Option, Some, None}
use Rattle.std.specs.Prelude.{Bool, remove, slice_get}
use Rattle.of_stream.specs.Decoding.{Token}
use Rattle.of_control.specs.declared.opener.Kind.TheVariants.{DoSys}
use Rattle.of_control.specs.Body.{Body}
use Rattle.of_control.specs.Element.{Element}
use Rattle.of_control.specs.Matching.{Opening, Partners}
use Rattle.of_control.specs.Reading.{reading}
use Rattle.of_source.specs.Nest.{Nest, Stop, Plain, Definition, Defining, If, Else, Then, Begin, Do, Leave, Case, Of}
use Rattle.of_source.specs.Nest.{open_behind}

-- how many elements there are, what each closes, the latest first, and the numbers of those that are open
pub record Pairs : Type 0 where
  pub count : ℕ
  pub partners : Partners
  pub open_ones : List ℕ

abbrev pub none_yet : Option Pairs
none_yet = Some (record { count = 0; partners = []; open_ones = [] })

-- of an opener its number is known; the reading of a body asks for no more
abbrev pub opening : ℕ → Opening
opening n = record { age = n; at = n; kind = DoSys }

abbrev pub opening_of : Option ℕ → Option Opening
opening_of None = None
opening_of (Some n) = Some (opening n)

-- an element that opens and closes nothing
abbrev pub passes : Option Pairs → Option Pairs
passes None = None
passes (Some x) = Some (record { count = suc x.count; partners = None ∷ x.partners; open_ones = x.open_ones })

-- one that opens: of 32 at most
abbrev pub opens : Option Pairs → Option Pairs
opens None = None
opens (Some x) =
    if nat_le (suc (length x.open_ones)) 32
    then Some (record { count = suc x.count; partners = None ∷ x.partners; open_ones = x.count ∷ x.open_ones })
    else None

-- one that closes the open one which so many others are later than
abbrev pub closes : ℕ → Option Pairs → Option Pairs
closes k None = None
closes k (Some x) = Some (record {
  count = suc x.count;
  partners = opening_of (slice_get x.open_ones k) ∷ x.partners;
  open_ones = remove x.open_ones k;
})

-- `offset16` leaves no element, and each other plain token one
abbrev pub offset16_code : ℕ
offset16_code = 0x0cc

abbrev pub leaves_one : Token → Bool
leaves_one t = not (nat_eq t.code.0 offset16_code)

-- `then` closes the latest branch, `else` opens its own and closes the one before that; an inside is closed by the word
-- that ends it, beneath the branches that the inside of a `begin` left open
abbrev pub pairs : Nest → Option Pairs → Option Pairs
pairs Stop x = x
pairs (Plain t r) x = pairs r (if leaves_one t then passes x else x)
pairs (Definition m i r) x = pairs r x
pairs (Defining m t r) x = pairs r x
pairs (If l r) x = pairs r (opens x)
pairs (Else l r) x = pairs r (closes 1 (opens x))
pairs (Then r) x = pairs r (closes 0 x)
pairs (Begin i z l r) x = pairs r (closes (open_behind i 0) (pairs i (opens x)))
pairs (Do q k i l m r) x = pairs r (closes 0 (pairs i (opens x)))
pairs (Leave r) x = pairs r (passes x)
pairs (Case i r) x = pairs r (closes 0 (pairs i (opens x)))
pairs (Of k i m r) x = pairs r (closes 0 (pairs i (opens x)))

abbrev pub body_by : {A : Type 0} → List (Element A) → Option Pairs → Option (Body A)
body_by es None = None
body_by es (Some x) = reading es x.partners

-- the body that the elements of a nest have; none where more than 32 were open
abbrev pub nest_body : {A : Type 0} → Nest → List (Element A) → Option (Body A)
nest_body i es = body_by es (pairs i none_yet)
