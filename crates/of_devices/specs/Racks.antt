-- What devices take and answer, alone and in a rack (IEEE 1275-1994, 5.3.7.3).
use Rattle.std.specs.Prelude.{◌≡◌, ℕ, zero, suc, Bool, true, false, List, [], ◌∷◌, if◌then◌else◌}
use Rattle.of_asking.specs.declared.query.Answer.{Answer}
use Rattle.of_asking.specs.declared.query.Answer.TheVariants.{Value, Done, BusFault}
use Rattle.of_asking.specs.declared.query.Query.{Query}
use Rattle.of_asking.specs.declared.query.Query.TheVariants.{Read, Write, Peek, Poke, Key, KeyReady, Milliseconds}
use Rattle.of_asking.specs.declared.query.Query.TheVariants.{Wait}

-- which questions a device takes, and its answer to one behind others, the first first
pub record Meant : Type 0 where
  pub takes : Query → Bool
  pub meaning : List Query → Query → Answer

-- a device that has answered a question: what it means of others is what it meant of them behind that one
abbrev pub told : Query → Meant → Meant
told q d = record { takes = d.takes; meaning = λ qs. d.meaning (q ∷ qs) }

-- the answer where no device takes the question: nothing is on the bus, no key is there, and no time passes
abbrev pub untaken : Query → Answer
untaken (Read w a) = BusFault
untaken (Write w a x) = BusFault
untaken (Peek w a) = BusFault
untaken (Poke w a x) = BusFault
untaken Key = Value 0
untaken KeyReady = Value 0
untaken Milliseconds = Value 0
untaken (Wait n) = Done

-- the first device of a rack that takes a question answers it
unfoldable pub rack_answer : List Meant → Query → Answer
rack_answer [] q = untaken q
rack_answer (d ∷ ds) q = if d.takes q then d.meaning [] q else rack_answer ds q

-- and it alone was asked
unfoldable pub rack_told : List Meant → Query → List Meant
rack_told [] q = []
rack_told (d ∷ ds) q = if d.takes q then told q d ∷ ds else d ∷ rack_told ds q

-- the rack after several questions, the first first
unfoldable pub told_all : List Meant → List Query → List Meant
told_all ds [] = ds
told_all ds (q ∷ qs) = told_all (rack_told ds q) qs

-- a rack as one device, which takes all questions
abbrev pub rack_meant : List Meant → Meant
rack_meant ds = record { takes = λ q. true; meaning = λ qs q. rack_answer (told_all ds qs) q }

-- no device before a place takes a question
abbrev pub NoneBefore : List Meant → Query → ℕ → Type 0
NoneBefore ds q zero = Unit {0}
NoneBefore [] q (suc i) = Unit {0}
NoneBefore (d ∷ ds) q (suc i) = (d.takes q ≡ false) × NoneBefore ds q i
