-- A finished definition runs as its structure reads: what is fetched at the place of a point is what the structure of
-- its body has there (IEEE 1275-1994, 5.3.3.1; Forth 2012, 3.2.3.2).
use Rattle.std.specs.Prelude.{◌≡◌, ℕ, ◌∷◌, List, Some, if◌then◌else◌}
use Rattle.of_control.specs.Running.{Point, number, step_from}
use Rattle.of_control.specs.RunningLaw.{IsRun}
use Rattle.of_compile.specs.declared.element.PlainItem.{PlainItem}
use Rattle.of_compile.specs.Coding.{past}
use Rattle.of_compile.specs.Structured.{Definitions, Spot, fetched, is_return, point_place, spot_in, taken_item}

-- where a point of a body is reached by structure alone, in a finished word in which the cell c lies
pub record IsReached (d : Definitions) (c : ℕ) (s : Spot) (q : Point PlainItem) (qs : List (Point PlainItem))
    : Type 0 where
  pub word : spot_in d.finished c ≡ Some s
  pub run : IsRun s.body (q ∷ qs)

pub record RunsByStructure : Type 0 where
  -- the item at the place of a point that is reached has the number of the point
  pub spots :
      (d : Definitions) (c : ℕ) (s : Spot) (q : Point PlainItem) (qs : List (Point PlainItem)) →
      IsReached d c s q qs → spot_in d.finished (point_place s q).cell ≡ Some (record s { number = number s.body q })
  -- what is fetched there is what the structure takes at the point, and what comes behind it is the place of the next
  -- point; behind the return nothing goes on
  pub steps :
      (d : Definitions) (c : ℕ) (s : Spot) (q : Point PlainItem) (qs : List (Point PlainItem)) →
      IsReached d c s q qs →
      let t = step_from s.body q in
      fetched d (point_place s q)
      ≡ Some (
        taken_item (point_place s) t.taken,
        if is_return t.taken then past (point_place s q) 1 else point_place s t.next,
      )
