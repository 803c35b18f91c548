-- How a part of a source ends, and what comes of that at the words that close branches, cases and loops.
use Rattle.std.specs.Prelude.{ℕ, ◌==◌, Bool, true, false}
use Rattle.of_means.specs.Moments.{Moment}

-- how a part ends, and in which state: a branch is named by the number of branches that were open before it, a loop by
-- the position at which it ends
pub data Course (S : Type 0) : Type 0 where
  On : Moment S → Course S  -- through
  Off : ℕ → Moment S → Course S  -- by a branch, up to the word that closes it
  Out : Moment S → Course S  -- by an `endof`, up to `endcase`
  Left : ℕ → Moment S → Course S  -- by a `leave`, past its loop
  Thrown : Moment S → Course S  -- by a throw that nothing caught
  Waits : Moment S → Course S  -- not yet: a question is open
  Cut : Moment S → Course S  -- not yet: so many turns or steps were made
  Beyond : Course S  -- a definition met an own word that is executed there

-- what comes through goes on, everything else goes by
abbrev pub through : {S : Type 0} → Course S → (Moment S → Course S) → Course S
through (On m) go = go m
through (Off b m) go = Off b m
through (Out m) go = Out m
through (Left e m) go = Left e m
through (Thrown m) go = Thrown m
through (Waits m) go = Waits m
through (Cut m) go = Cut m
through Beyond go = Beyond

-- through at the word that closes the branch, else on by it
abbrev pub on_if : {S : Type 0} → Bool → ℕ → Moment S → Course S
on_if true b m = On m
on_if false b m = Off b m

-- at `then`, which closes branch x: what left by it goes on
abbrev pub arrives : {S : Type 0} → ℕ → Course S → Course S
arrives x (Off b m) = on_if (b == x) b m
arrives x (On m) = On m
arrives x (Out m) = Out m
arrives x (Left e m) = Left e m
arrives x (Thrown m) = Thrown m
arrives x (Waits m) = Waits m
arrives x (Cut m) = Cut m
arrives x Beyond = Beyond

-- at `else`: what comes through leaves by its branch, and what left by the closed one goes on
abbrev pub swaps : {S : Type 0} → ℕ → Course S → Course S
swaps x (On m) = Off x m
swaps x (Off b m) = on_if (b == x) b m
swaps x (Out m) = Out m
swaps x (Left e m) = Left e m
swaps x (Thrown m) = Thrown m
swaps x (Waits m) = Waits m
swaps x (Cut m) = Cut m
swaps x Beyond = Beyond

-- at `endcase`: what left by an `endof` goes on
abbrev pub joins : {S : Type 0} → Course S → Course S
joins (Out m) = On m
joins (On m) = On m
joins (Off b m) = Off b m
joins (Left e m) = Left e m
joins (Thrown m) = Thrown m
joins (Waits m) = Waits m
joins (Cut m) = Cut m
joins Beyond = Beyond

-- through where the loop ends, else on past the next
abbrev pub past_if : {S : Type 0} → Bool → ℕ → Moment S → Course S
past_if true e m = On m
past_if false e m = Left e m

-- behind the loop that ends at position x: what left that goes on
abbrev pub past_loop : {S : Type 0} → ℕ → Course S → Course S
past_loop x (Left e m) = past_if (e == x) e m
past_loop x (On m) = On m
past_loop x (Off b m) = Off b m
past_loop x (Out m) = Out m
past_loop x (Thrown m) = Thrown m
past_loop x (Waits m) = Waits m
past_loop x (Cut m) = Cut m
past_loop x Beyond = Beyond
