-- Running a body by its structure is running it by the numbers of its items.
use Rattle.std.specs.Prelude.{◌≡◌, ◌⊎◌, ℕ, List, [], ◌∷◌, Some, suc, ◌<◌, length, slice_get}
use Rattle.of_control.specs.Body.{Body, body_size, items_of}
use Rattle.of_control.specs.Running.{Point, at, number, numbered, step_at, step_from, target_of}

-- item k of a body is what the structure has there, and after it comes item k + 1
pub record RunsByPlaces (A : Type 0) : Type 0 where
  pub item : (b : Body A) (k : ℕ) → slice_get (items_of b) k ≡ numbered b (step_at b k).taken
  pub size : (b : Body A) → length (items_of b) ≡ body_size b
  pub next : (b : Body A) (k : ℕ) → k < body_size b → number b (step_at b k).next ≡ suc k

-- what is taken at a point is the item of its number
abbrev pub IsNumbered : {A : Type 0} → Body A → Point A → Type 0
IsNumbered b p = step_from b p ≡ step_at b (number b p)

-- after what is taken at p, execution may continue at q
abbrev pub Continues : {A : Type 0} → Body A → Point A → Point A → Type 0
Continues b p q = ((step_from b p).next ≡ q) ⊎ (target_of (step_from b p).taken ≡ Some q)

-- points at which execution continues one after another from the beginning of the body, by structure alone, the latest
-- first
abbrev pub IsRun : {A : Type 0} → Body A → List (Point A) → Type 0
IsRun b [] = Unit {0}
IsRun b (p ∷ []) = p ≡ at b []
IsRun b (q ∷ (p ∷ ps)) = Continues b p q × IsRun b (p ∷ ps)

-- at each point at which execution continues, what is taken is the item of the point's number; so in each run by
-- structure alone what is taken at a point is, with the numbers of points as targets, the item of that point's number
pub record RunsByPoints (A : Type 0) : Type 0 where
  pub begins : (b : Body A) → IsNumbered b (at b [])
  pub next : (b : Body A) (k : ℕ) → k < body_size b → IsNumbered b (step_at b k).next
  pub target :
      (b : Body A) (k : ℕ) (p : Point A) →
      k < body_size b → target_of (step_at b k).taken ≡ Some p → IsNumbered b p
  pub reached : (b : Body A) (p : Point A) (ps : List (Point A)) → IsRun b (p ∷ ps) → IsNumbered b p
  pub item :
      (b : Body A) (p : Point A) (ps : List (Point A)) →
      IsRun b (p ∷ ps) → slice_get (items_of b) (number b p) ≡ numbered b (step_from b p).taken
