-- The texts that are read (Forth 2012, 6.1.1360).
use Rattle.std.specs.Prelude.{ℕ, List, [], ◌∷◌}

-- the bytes of the latest text, where that is the first
abbrev pub latest_text : List (List ℕ) → List ℕ
latest_text [] = []
latest_text (text ∷ texts) = text
