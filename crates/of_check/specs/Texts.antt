-- How findings are shown, a line for each.
use Rattle.std.specs.Prelude.{ℕ, ◌-◌, false, List, [], ◌++◌, codes, length, replicate, Option, Some, None}
use Rattle.std.specs.Fmt.{digits, signed_decimal}
use Rattle.std.specs.List.{flat_map}
use Rattle.of_fcodes.specs.Lookup.{name_numbered}
use Rattle.of_stream.specs.declared.fault.StreamFault.{StreamFault}
use Rattle.of_stream.specs.declared.fault.StreamFault.TheVariants as fault
use Rattle.of_check.specs.declared.finding.Finding.{Finding}
use Rattle.of_check.specs.declared.finding.Finding.TheVariants as found
use Rattle.of_check.specs.Findings.{position_of}

-- a number in hexadecimal digits, of which there are so many at least
unfoldable pub number_shown : ℕ → ℕ → List ℕ
number_shown least n = replicate (least - length (digits 16 false n)) 0x30 ++ digits 16 false n

-- what is wrong with a header
abbrev pub fault_shown : StreamFault → List ℕ
fault_shown (fault.BadStart byte) = codes "bad start byte " ++ number_shown 2 byte
fault_shown fault.Start0 = codes "start0 images are not read"
fault_shown fault.Short = codes "image shorter than its header"
fault_shown (fault.Ended position) = codes "image ended in the token at " ++ number_shown 6 position

-- a name, if there is one
abbrev pub name_or_none : Option (List ℕ) → List ℕ
name_or_none (Some name) = name
name_or_none None = []

-- what is found
abbrev pub sentence : Finding → List ℕ
sentence (found.Unopened f) = fault_shown f
sentence (found.Sum said actual) =
    codes "the header says the sum " ++ number_shown 4 said ++ codes ", and it is " ++ number_shown 4 actual
sentence (found.Cut said actual) =
    codes "the header says " ++ number_shown 8 said ++ codes " bytes, and the image is cut at "
    ++ number_shown 8 actual
sentence (found.Longer said more) =
    codes "the header says " ++ number_shown 8 said ++ codes " bytes, and " ++ number_shown 8 more
    ++ codes " stand behind them"
sentence (found.Unread position) = codes "the image ends in this token"
sentence (found.Endless position) = codes "the image ends without end0 or end1"
sentence (found.Outside position code by) =
    codes "the offset " ++ signed_decimal by ++ codes " of " ++ name_or_none (name_numbered code.0)
    ++ codes " leads outside"
sentence (found.Unnested position) = codes "the definition of this b(:) has no reading"
sentence (found.Unmade position code) = number_shown 3 code.0 ++ codes " is used before it is made"

-- the line of a finding: its position, and what is found there
unfoldable pub finding_line : Finding → List ℕ
finding_line f = number_shown 6 (position_of f) ++ codes ": " ++ sentence f ++ codes "\n"

-- the lines of findings
abbrev pub findings_text : List Finding → List ℕ
findings_text found = flat_map finding_line found
