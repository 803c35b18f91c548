-- A source as a nest of words: each word stands with what follows it, and a part with its inside. The token that gives
-- a definition its number stands directly before `b(:)` or the token of its defining word, and belongs to it.
-- `if`, `else` and `then` have no inside: a branch may end in the part around the one that it begins in.
use Rattle.std.specs.Prelude.{◌≡◌, ℕ, ◌+◌, ◌-◌, ◌<◌, Bool, true, false, List, [], ◌∷◌}
use Rattle.of_fcodes.specs.declared.codes.FCode.{FCode}
use Rattle.of_stream.specs.Decoding.{Token}
use Rattle.of_source.specs.Items.{Item, Made}
use Rattle.of_source.specs.Items as item

-- a word with what follows it, or a part with its inside and what follows it; at the end nothing
pub data Nest : Type 0 where
  Stop : Nest
  Plain : Token → Nest → Nest
  Definition : Made → Nest → Nest → Nest  -- `:`, the inside, `;`
  Defining : Made → FCode → Nest → Nest  -- another defining word, by its token
  If : ℕ → Nest → Nest
  Else : ℕ → Nest → Nest
  Then : Nest → Nest
  Begin : Nest → Bool → ℕ → Nest → Nest  -- `begin`, the inside, and `until` or `again`; `repeat` is `again then`
  Do : Bool → ℕ → Nest → Bool → ℕ → Nest → Nest
  Leave : Nest → Nest
  Case : Nest → Nest → Nest
  Of : ℕ → Nest → ℕ → Nest → Nest

-- its items, and then these
abbrev pub items_of : Nest → List Item → List Item
items_of Stop more = more
items_of (Plain t r) more = item.Plain t ∷ items_of r more
items_of (Definition m i r) more = item.Colon m ∷ items_of i (item.Semicolon ∷ items_of r more)
items_of (Defining m t r) more = item.Defining m t ∷ items_of r more
items_of (If l r) more = item.If l ∷ items_of r more
items_of (Else l r) more = item.Else l ∷ items_of r more
items_of (Then r) more = item.Then ∷ items_of r more
items_of (Begin i z l r) more = item.Begin ∷ items_of i (item.Back z l ∷ items_of r more)
items_of (Do q k i l m r) more = item.Do q k ∷ items_of i (item.Loop l m ∷ items_of r more)
items_of (Leave r) more = item.Leave ∷ items_of r more
items_of (Case i r) more = item.Case ∷ items_of i (item.EndCase ∷ items_of r more)
items_of (Of k i m r) more = item.Of k ∷ items_of i (item.EndOf m ∷ items_of r more)

-- how many branches are open behind a nest, with d before it
abbrev pub open_behind : Nest → ℕ → ℕ
open_behind Stop d = d
open_behind (Plain t r) d = open_behind r d
open_behind (Definition m i r) d = open_behind r d
open_behind (Defining m t r) d = open_behind r d
open_behind (If l r) d = open_behind r (d + 1)
open_behind (Else l r) d = open_behind r d
open_behind (Then r) d = open_behind r (d - 1)
open_behind (Begin i z l r) d = open_behind r (open_behind i d)
open_behind (Do q k i l m r) d = open_behind r d
open_behind (Leave r) d = open_behind r d
open_behind (Case i r) d = open_behind r d
open_behind (Of k i m r) d = open_behind r d

-- where a nest stands
pub record Around : Type 0 where
  pub defines : Bool  -- in a definition
  pub loops : Bool  -- in a loop of the same definition, or outside all
  pub cases : Bool  -- directly in a case

-- outside all parts
abbrev pub outside : Around
outside = record { defines = false; loops = false; cases = false }

-- in a part that is neither a definition, a loop nor a case
abbrev pub in_part : Around → Around
in_part a = record { defines = a.defines; loops = a.loops; cases = false }

-- No word closes what opened outside its part; each part but `begin` closes all branches that it opens. The branches
-- below `floor` are those outside, and d are open.
abbrev pub Fits : Nest → Around → ℕ → ℕ → Type 0
Fits Stop a floor d = Unit {0}
Fits (Plain t r) a floor d = Fits r a floor d
Fits (Definition m i r) a floor d =
    (a.defines ≡ false) × Fits i (record { defines = true; loops = false; cases = false }) d d × (open_behind i d ≡ d)
    × Fits r a floor d
Fits (Defining m t r) a floor d = (a.defines ≡ false) × Fits r a floor d
Fits (If l r) a floor d = Fits r a floor (d + 1)
Fits (Else l r) a floor d = (floor < d) × Fits r a floor d
Fits (Then r) a floor d = (floor < d) × Fits r a floor (d - 1)
Fits (Begin i z l r) a floor d = Fits i (in_part a) d d × Fits r a floor (open_behind i d)
Fits (Do q k i l m r) a floor d = Fits i (record { defines = a.defines; loops = true; cases = false }) d d
    × (open_behind i d ≡ d) × Fits r a floor d
Fits (Leave r) a floor d = (a.loops ≡ true) × Fits r a floor d
Fits (Case i r) a floor d = Fits i (record { defines = a.defines; loops = a.loops; cases = true }) d d
    × (open_behind i d ≡ d) × Fits r a floor d
Fits (Of k i m r) a floor d = (a.cases ≡ true) × (floor ≡ d) × Fits i (in_part a) d d × (open_behind i d ≡ d)
    × Fits r a floor d

-- a source closes all that it opens
abbrev pub IsWhole : Nest → Type 0
IsWhole x = Fits x outside 0 0 × (open_behind x 0 ≡ 0)

-- the items are those of a whole nest
abbrev pub IsNested : List Item → Type 0
IsNested items = (x : Nest) × (items ≡ items_of x []) × IsWhole x

-- ---- the nest of a list of items, from its end on: a closer begins an inside, and its opener ends it

-- a nest, and the insides around it, innermost first: the closer of each, and what follows that
pub record Inside : Type 0 where
  pub nest : Nest
  pub around : List (Item × Nest)

-- an opener with its inside, its closer and what follows that
abbrev pub part_of : Item → Nest → Item → Nest → Nest
part_of (item.Colon m) i item.Semicolon r = Definition m i r
part_of item.Begin i (item.Back z l) r = Begin i z l r
part_of (item.Do q k) i (item.Loop l m) r = Do q k i l m r
part_of item.Case i item.EndCase r = Case i r
part_of (item.Of k) i (item.EndOf m) r = Of k i m r
part_of _ i _ r = i

-- a word before what was read
abbrev pub after_word : (Nest → Nest) → Inside → Inside
after_word f x = record { nest = f x.nest; around = x.around }

-- a closer before what was read: an inside begins
abbrev pub after_closer : Item → Inside → Inside
after_closer c x = record { nest = Stop; around = (c, x.nest) ∷ x.around }

-- an opener before an inside, with what is around that
abbrev pub opened_by : Item → Nest → List (Item × Nest) → Inside
opened_by o i [] = record { nest = i; around = [] }
opened_by o i (c ∷ cs) = record { nest = part_of o i c.0 c.1; around = cs }

-- an opener before what was read: the inside ends
abbrev pub after_opener : Item → Inside → Inside
after_opener o x = opened_by o x.nest x.around

-- items read from their end on
abbrev pub read_back : List Item → Inside
read_back [] = record { nest = Stop; around = [] }
read_back (item.Plain t ∷ is) = after_word (Plain t) (read_back is)
read_back (item.Defining m t ∷ is) = after_word (Defining m t) (read_back is)
read_back (item.If l ∷ is) = after_word (If l) (read_back is)
read_back (item.Else l ∷ is) = after_word (Else l) (read_back is)
read_back (item.Then ∷ is) = after_word Then (read_back is)
read_back (item.Leave ∷ is) = after_word Leave (read_back is)
read_back (item.Colon m ∷ is) = after_opener (item.Colon m) (read_back is)
read_back (item.Begin ∷ is) = after_opener item.Begin (read_back is)
read_back (item.Do q k ∷ is) = after_opener (item.Do q k) (read_back is)
read_back (item.Case ∷ is) = after_opener item.Case (read_back is)
read_back (item.Of k ∷ is) = after_opener (item.Of k) (read_back is)
read_back (item.Semicolon ∷ is) = after_closer item.Semicolon (read_back is)
read_back (item.Back z l ∷ is) = after_closer (item.Back z l) (read_back is)
read_back (item.Loop q m ∷ is) = after_closer (item.Loop q m) (read_back is)
read_back (item.EndCase ∷ is) = after_closer item.EndCase (read_back is)
read_back (item.EndOf m ∷ is) = after_closer (item.EndOf m) (read_back is)

-- the nest whose items these are
unfoldable pub nest_of : List Item → Nest
nest_of items = (read_back items).nest

-- the items of a nest give it back
abbrev pub ItemsGiveNest : Type 0
ItemsGiveNest = (x : Nest) → nest_of (items_of x []) ≡ x
