-- What lines say: the first word that fits nowhere is the fault of all.
use Rattle.std.specs.Prelude.{ℕ, ◌+◌, List, [], ◌∷◌, ◌++◌, length, Option, Some, None, Result, Ok, Err, nat_eq}
use Rattle.std.specs.Prelude.{if◌then◌else◌}
use Rattle.std.specs.List.{list_any}
use Rattle.of_cells.specs.declared.cells.Cell.{Cell}
use Rattle.of_source.specs.declared.place.Place.{Place}
use Rattle.of_calls.specs.Lines.{decimal_of, number_of, place_at, word_at}
use Rattle.of_calls.specs.declared.fault.TextFault.{TextFault}
use Rattle.of_calls.specs.declared.fault.TextFault.TheVariants as fault

-- ---- a line

-- what follows, unless there is a fault
abbrev pub go_on : {A B : Type 0} → (A → Result B TextFault) → Result A TextFault → Result B TextFault
go_on next (Ok a) = next a
go_on next (Err f) = Err f

-- a number at a place, or its fault
abbrev pub number_or : Place → Option Cell → Result Cell TextFault
number_or p (Some x) = Ok x
number_or p None = Err (fault.BadNumber p)

-- the number that the word behind so many says
abbrev pub number_at : ℕ → ℕ → List ℕ → Result Cell TextFault
number_at number n line = number_or (place_at number n line) (number_of (word_at n line))

-- the number that the word behind so many says in decimal digits
abbrev pub decimal_at : ℕ → ℕ → List ℕ → Result Cell TextFault
decimal_at number n line = number_or (place_at number n line) (decimal_of (word_at n line))

-- the word behind so many, as a name or a path: a byte 0x0D stands in none
abbrev pub text_at : ℕ → ℕ → List ℕ → Result (List ℕ) TextFault
text_at number n line =
    if list_any (λ b. nat_eq b 0x0d) (word_at n line) then Err (fault.BadName (place_at number n line))
    else Ok (word_at n line)

-- what a line says, where it ends behind so many words
abbrev pub ended : {A : Type 0} → ℕ → ℕ → List ℕ → A → Result A TextFault
ended number n line said =
    if nat_eq (length (word_at n line)) 0 then Ok said else Err (fault.TooMany (place_at number n line))

-- ---- lines

-- what a line says before what the others say: the first fault counts
abbrev pub and_those : {A : Type 0} → Result A TextFault → Result (List A) TextFault → Result (List A) TextFault
and_those (Ok said) (Ok more) = Ok (said ∷ more)
and_those (Ok said) (Err f) = Err f
and_those (Err f) more = Err f

-- what lines say, the first of which has this number
unfoldable pub all_said :
    {A : Type 0} → (ℕ → List ℕ → Result A TextFault) → ℕ → List (List ℕ) → Result (List A) TextFault
all_said say number [] = Ok []
all_said say number (line ∷ more) = and_those (say number line) (all_said say (number + 1) more)

-- with what one more line says behind it
abbrev pub and_next : {A : Type 0} → List A → Result A TextFault → Result (List A) TextFault
and_next before (Ok said) = Ok (before ++ said ∷ [])
and_next before (Err f) = Err f

-- with what all others say behind it
abbrev pub and_more : {A : Type 0} → List A → Result (List A) TextFault → Result (List A) TextFault
and_more before (Ok more) = Ok (before ++ more)
and_more before (Err f) = Err f
