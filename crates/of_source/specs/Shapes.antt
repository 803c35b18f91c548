-- What is open at an item of a source.
use Rattle.std.specs.Prelude.{◌≡◌, ℕ, ◌+◌, ◌-◌, Bool, true, false, not, ◌&&◌, List, [], ◌∷◌, map, length, Option, Some}
use Rattle.std.specs.Prelude.{None, option_and_then, nat_eq, nat_lt}
use Rattle.of_source.specs.declared.nesting.Part.{Part}
use Rattle.of_source.specs.declared.nesting.Part.TheVariants as part
use Rattle.of_source.specs.declared.nesting.Frame.{Frame}
use Rattle.of_source.specs.Items.{Item}
use Rattle.of_source.specs.Items as item
use Rattle.of_source.specs.Nesting.{Nesting, is_same}
use Rattle.of_source.specs.Nest.{Around, outside, in_part, IsNested}

-- how many branches are open, and the parts, latest first, each with how many were open before it
pub record Shape : Type 0 where
  pub count : ℕ
  pub parts : List (Part × ℕ)

-- nothing is open
abbrev pub nothing : Shape
nothing = record { count = 0; parts = [] }

-- how many branches the innermost part may not close
abbrev pub floor_of : List (Part × ℕ) → ℕ
floor_of [] = 0
floor_of (p ∷ ps) = p.1

-- where the inside of a part stands
abbrev pub around_part : Part → Around → Around
around_part part.Definition a = record { defines = true; loops = false; cases = false }
around_part part.Begin a = in_part a
around_part part.Do a = record { defines = a.defines; loops = true; cases = false }
around_part part.Case a = record { defines = a.defines; loops = a.loops; cases = true }
around_part part.Of a = in_part a

-- where a nest stands with these parts around it
abbrev pub around_of : List (Part × ℕ) → Around
around_of [] = outside
around_of (p ∷ ps) = around_part p.0 (around_of ps)

-- what is open, where an item may stand
abbrev pub when : Bool → Shape → Option Shape
when true o = Some o
when false o = None

-- a part opens
abbrev pub pushed : Part → Shape → Shape
pushed k o = record { count = o.count; parts = (k, o.count) ∷ o.parts }

-- the innermost part closes, if it is of this kind; unless it is a `begin` it left no branch open
abbrev pub is_even : Part → ℕ → ℕ → Bool
is_even part.Begin b n = true
is_even part.Definition b n = nat_eq b n
is_even part.Do b n = nat_eq b n
is_even part.Case b n = nat_eq b n
is_even part.Of b n = nat_eq b n

-- the innermost part closes, where it may
abbrev pub closing : Part → ℕ → List (Part × ℕ) → Option Shape
closing k n [] = None
closing k n (p ∷ ps) = when (is_same p.0 k && is_even k p.1 n) (record { count = n; parts = ps })

-- what is open behind an item; none where it doesn't fit
abbrev pub opens : Item → Shape → Option Shape
opens (item.Plain t) o = Some o
opens (item.Colon m) o = when (not (around_of o.parts).defines) (pushed part.Definition o)
opens (item.Defining m t) o = when (not (around_of o.parts).defines) o
opens item.Semicolon o = closing part.Definition o.count o.parts
opens (item.If l) o = Some (record { count = o.count + 1; parts = o.parts })
opens (item.Else l) o = when (nat_lt (floor_of o.parts) o.count) o
opens item.Then o = when (nat_lt (floor_of o.parts) o.count) (record { count = o.count - 1; parts = o.parts })
opens item.Begin o = Some (pushed part.Begin o)
opens (item.Back z l) o = closing part.Begin o.count o.parts
opens (item.Do q l) o = Some (pushed part.Do o)
opens (item.Loop q l) o = closing part.Do o.count o.parts
opens item.Leave o = when (around_of o.parts).loops o
opens item.Case o = Some (pushed part.Case o)
opens (item.Of l) o = when ((around_of o.parts).cases && nat_eq (floor_of o.parts) o.count) (pushed part.Of o)
opens (item.EndOf l) o = closing part.Of o.count o.parts
opens item.EndCase o = closing part.Case o.count o.parts

-- what is open behind items; none where one of them doesn't fit
abbrev pub run : List Item → Shape → Option Shape
run [] o = Some o
run (i ∷ is) o = option_and_then (run is) (opens i o)

-- the shape of what a parser holds open
abbrev pub shape_of : Nesting → Shape
shape_of n = record { count = length n.branches; parts = map (λ (f : Frame). (f.part, f.beneath)) n.parts }

-- items that leave nothing open are those of a whole nest
abbrev pub ClosedIsNested : Type 0
ClosedIsNested = (is : List Item) → run is nothing ≡ Some nothing → IsNested is
