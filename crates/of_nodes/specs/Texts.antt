-- Parts of a path's text.
use Rattle.std.specs.Prelude.{ℕ, ◌==◌, List, [], ◌∷◌, Option, Some, None, if◌then◌else◌}

-- what stands before the first byte b, or all
abbrev pub before : ℕ → List ℕ → List ℕ
before b [] = []
before b (x ∷ xs) = if x == b then [] else x ∷ before b xs

-- what stands behind the first byte b, if there is one
abbrev pub behind : ℕ → List ℕ → Option (List ℕ)
behind b [] = None
behind b (x ∷ xs) = if x == b then Some xs else behind b xs

-- a byte in front of the first part
abbrev pub with_byte : ℕ → List (List ℕ) → List (List ℕ)
with_byte b [] = (b ∷ []) ∷ []
with_byte b (xs ∷ rest) = (b ∷ xs) ∷ rest

-- the parts between the slashes
abbrev pub split : List ℕ → List (List ℕ)
split [] = [] ∷ []
split (x ∷ xs) = if x == 47 then [] ∷ split xs else with_byte x (split xs)

-- the components of a path behind its first slash; the empty text has none
abbrev pub components : List ℕ → List (List ℕ)
components [] = []
components (x ∷ xs) = split (x ∷ xs)
