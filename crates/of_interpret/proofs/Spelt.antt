-- Strings of a text that are compiled.
use Rattle.std.proofs.Common.{◌≡◌, ◌<◌, ◌≤◌, ◌+◌, ℕ, nat_le, true, false, List, [], ◌∷◌, length, Ok}
use Rattle.std.proofs.Common.{Bool, Result, Err, refl, ap, sym, ◌∙◌, arith}
use Rattle.std.proofs.lemmas.Bool.Decides.{nat_tests}
use Rattle.std.proofs.lemmas.List.{length-append}
use Rattle.of_stacks.specs.declared.throws.Throw.{Throw}
use Rattle.of_stacks.specs.Throws.{dictionary_overflow}
use Rattle.of_memory.specs.DataSpace.{DataSpace}
use Rattle.of_memory.specs.Growth.{appended}
use Rattle.of_compile.specs.Coding.{Coding, compiled, compiling}
use Rattle.of_compile.specs.Coding.{Outcome as CodingOutcome}
use Rattle.of_eval.specs.Defining.{string_element}
use Rattle.of_interpret.proofs.Appended.{one}
use Rattle.of_interpret.specs.Strings.{all_appended, bytes_put, string_kept_in, string_left_in, string_spelt}
use Rattle.of_interpret.specs.TextWords.{type_element}
use Rattle.of_state.specs.State.{Answered, flat_calls}

too_long : (n k : ℕ) → 65536 < n + k → nat_le (n + k) 65536 ≡ false
too_long n k h = grind (arith, nat_tests, h)

short : (n k : ℕ) → n + k ≤ 65536 → nat_le (n + k) 65536 ≡ true
short n k h = grind (arith, nat_tests, h)

-- ---- a string alone

pub full : (c : Coding) (m : DataSpace) (bytes : List ℕ) → 65536 < length c.code.cells + 3
    → string_spelt flat_calls bytes [] m c ≡ Err dictionary_overflow
unfolding compiling
full c m bytes h = rw (too_long (length c.code.cells) 3 h) refl

kept : (c : Coding) (m : DataSpace) (bytes : List ℕ) → length c.code.cells + 3 ≤ 65536
    → all_appended flat_calls (string_element m.here (length bytes) ∷ []) c
    ≡ record { code = compiled (string_element m.here (length bytes)) c; ended = Ok tt }
unfolding compiling
kept c m bytes h = rw (short (length c.code.cells) 3 h) refl

pub faulty : (c : Coding) (m : DataSpace) (bytes : List ℕ) (t : Throw) → length c.code.cells + 3 ≤ 65536
    → bytes_put (appended m bytes) ≡ Err t → string_spelt flat_calls bytes [] m c ≡ Err t
faulty c m bytes t h e =
    ap (λ a. string_kept_in a (bytes_put (appended m bytes))) (kept c m bytes h)
    ∙ ap (string_kept_in (record { code = compiled (string_element m.here (length bytes)) c; ended = Ok tt })) e

-- what compiling an element left that found room
taken : (c d : Coding) (a n : ℕ) (r : Result (Unit {0}) Throw) → length c.code.cells + 3 ≤ 65536
    → compiling (string_element a n) c ≡ record { coding = d; ended = r } → d ≡ compiled (string_element a n) c
unfolding compiling
taken c d a n r h e =
    let room = short (length c.code.cells) 3 h in
    let fits : compiling (string_element a n) c ≡ record { coding = compiled (string_element a n) c; ended = Ok tt }
    = rw room refl in
    sym (ap (λ (o : CodingOutcome). o.coding) (sym fits ∙ e))

pub done : (c d : Coding) (m after : DataSpace) (bytes : List ℕ) (r : Result (Unit {0}) Throw)
    → length c.code.cells + 3 ≤ 65536 → bytes_put (appended m bytes) ≡ Ok after
    → compiling (string_element m.here (length bytes)) c ≡ record { coding = d; ended = r }
    → string_spelt flat_calls bytes [] m c ≡ Ok (d, after)
done c d m after bytes r h e k =
    ap (λ a. string_kept_in a (bytes_put (appended m bytes))) (kept c m bytes h)
    ∙ ap (string_kept_in (record { code = compiled (string_element m.here (length bytes)) c; ended = Ok tt })) e
    ∙ ap (λ x. Ok (x, after)) (sym (taken c d m.here (length bytes) r h k))

-- ---- a string with `type` behind it

fewer : (n : ℕ) → n + 4 ≤ 65536 → n + 3 ≤ 65536
fewer n h = grind (arith, h)

abbrev with_string : (c : Coding) (m : DataSpace) (bytes : List ℕ) → Coding
with_string c m bytes = compiled (string_element m.here (length bytes)) c

longer : (c : Coding) (m : DataSpace) (bytes : List ℕ)
    → length (with_string c m bytes).code.cells ≡ length c.code.cells + 3
longer c m bytes = length-append c.code.cells _

second_room : (c : Coding) (m : DataSpace) (bytes : List ℕ) → length c.code.cells + 4 ≤ 65536
    → nat_le (length (with_string c m bytes).code.cells + 1) 65536 ≡ true
second_room c m bytes h = grind (arith, nat_tests, h, longer c m bytes)

second_full : (c : Coding) (m : DataSpace) (bytes : List ℕ) → 65536 < length c.code.cells + 4
    → nat_le (length (with_string c m bytes).code.cells + 1) 65536 ≡ false
second_full c m bytes h = grind (arith, nat_tests, h, longer c m bytes)

type_fails : (c : Coding) (m : DataSpace) (bytes : List ℕ) → 65536 < length c.code.cells + 4
    → compiling type_element (with_string c m bytes)
    ≡ record { coding = with_string c m bytes; ended = Err dictionary_overflow }
unfolding compiling
type_fails c m bytes h = rw (second_full c m bytes h) refl

type_fits : (c : Coding) (m : DataSpace) (bytes : List ℕ) → length c.code.cells + 4 ≤ 65536
    → compiling type_element (with_string c m bytes)
    ≡ record { coding = compiled type_element (with_string c m bytes); ended = Ok tt }
unfolding compiling
type_fits c m bytes h = rw (second_room c m bytes h) refl

-- what is appended behind a string that found room
behind : (c : Coding) (m : DataSpace) (bytes : List ℕ) → nat_le (length c.code.cells + 3) 65536 ≡ true
    → all_appended flat_calls (string_element m.here (length bytes) ∷ type_element ∷ []) c
    ≡ all_appended flat_calls (type_element ∷ []) (with_string c m bytes)
unfolding compiling
behind c m bytes h = rw h refl

full_at : (r : Bool) (c : Coding) (m : DataSpace) (bytes : List ℕ) → 65536 < length c.code.cells + 4
    → nat_le (length c.code.cells + 3) 65536 ≡ r
    → (all_appended flat_calls (string_element m.here (length bytes) ∷ type_element ∷ []) c).ended
    ≡ Err dictionary_overflow
unfolding compiling
full_at false c m bytes h e = rw e refl
full_at true c m bytes h e =
    ap (λ (a : Answered Coding). a.ended) (behind c m bytes e ∙ one flat_calls type_element (with_string c m bytes))
    ∙ ap (λ (o : CodingOutcome). o.ended) (type_fails c m bytes h)

unkept : (a : Answered Coding) (r : Result DataSpace Throw) (t : Throw) → a.ended ≡ Err t
    → string_kept_in a r ≡ Err t
unkept a r t e = ap (λ x. string_left_in x a.code r) e

pub full_printed : (c : Coding) (m : DataSpace) (bytes : List ℕ) → 65536 < length c.code.cells + 4
    → string_spelt flat_calls bytes (type_element ∷ []) m c ≡ Err dictionary_overflow
full_printed c m bytes h =
    unkept (all_appended flat_calls (string_element m.here (length bytes) ∷ type_element ∷ []) c)
    (bytes_put (appended m bytes)) dictionary_overflow
    (full_at (nat_le (length c.code.cells + 3) 65536) c m bytes h refl)

kept_printed : (c : Coding) (m : DataSpace) (bytes : List ℕ) → length c.code.cells + 4 ≤ 65536
    → all_appended flat_calls (string_element m.here (length bytes) ∷ type_element ∷ []) c
    ≡ record { code = compiled type_element (with_string c m bytes); ended = Ok tt }
kept_printed c m bytes h =
    behind c m bytes (short (length c.code.cells) 3 (fewer (length c.code.cells) h))
    ∙ one flat_calls type_element (with_string c m bytes)
    ∙ ap (λ (o : CodingOutcome). record { code = o.coding; ended = o.ended }) (type_fits c m bytes h)

pub faulty_printed : (c : Coding) (m : DataSpace) (bytes : List ℕ) (t : Throw) → length c.code.cells + 4 ≤ 65536
    → bytes_put (appended m bytes) ≡ Err t → string_spelt flat_calls bytes (type_element ∷ []) m c ≡ Err t
faulty_printed c m bytes t h e =
    ap (λ a. string_kept_in a (bytes_put (appended m bytes))) (kept_printed c m bytes h)
    ∙ ap (string_kept_in (record { code = compiled type_element (with_string c m bytes); ended = Ok tt })) e

typed : (c d b : Coding) (m : DataSpace) (bytes : List ℕ) (r : Result (Unit {0}) Throw)
    → length c.code.cells + 4 ≤ 65536 → d ≡ with_string c m bytes
    → compiling type_element d ≡ record { coding = b; ended = r } → b ≡ compiled type_element (with_string c m bytes)
typed c d b m bytes r h e k =
    sym (ap (λ (o : CodingOutcome). o.coding) (sym (type_fits c m bytes h) ∙ ap (compiling type_element) (sym e) ∙ k))

pub done_printed : (c d b : Coding) (m after : DataSpace) (bytes : List ℕ) (r q : Result (Unit {0}) Throw)
    → length c.code.cells + 4 ≤ 65536 → bytes_put (appended m bytes) ≡ Ok after
    → compiling (string_element m.here (length bytes)) c ≡ record { coding = d; ended = r }
    → compiling type_element d ≡ record { coding = b; ended = q }
    → string_spelt flat_calls bytes (type_element ∷ []) m c ≡ Ok (b, after)
done_printed c d b m after bytes r q h e k l =
    ap (λ a. string_kept_in a (bytes_put (appended m bytes))) (kept_printed c m bytes h)
    ∙ ap (string_kept_in (record { code = compiled type_element (with_string c m bytes); ended = Ok tt })) e
    ∙ ap (λ x. Ok (x, after))
    (sym (typed c d b m bytes q h (taken c d m.here (length bytes) r (fewer (length c.code.cells) h) k) l))
