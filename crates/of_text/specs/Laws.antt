-- What holds of the names of every text.
use Rattle.std.specs.Prelude.{◌≡◌, ◌++◌, map, replicate, drop, Some, None}
use Rattle.of_fcodes.specs.Words.{Written, words}
use Rattle.of_text.specs.Names.{written_named}

-- Each written word is found by its name, but for the 32 that only images have: these have none in a text.
abbrev pub StreamWordsHaveNoName : Type 0
StreamWordsHaveNoName =
    map (λ (r : Written). written_named r.name) words
    ≡ replicate 32 None ++ map (λ (r : Written). Some r.word) (drop 32 words)
