-- The end of a definition, and calls appended to it, by what the code's part answers.
use Rattle.std.proofs.Common.{◌≡◌, Bool, true, false, not, List, [], ◌∷◌, Some, None, Result, Ok, Err}
use Rattle.std.proofs.Common.{ℕ, nat_le, is_none, refl, sym, ap, ◌∙◌, if◌then◌else◌}
use Rattle.of_cells.specs.declared.cells.Cell.{Cell}
use Rattle.of_stacks.specs.declared.throws.Throw.{Throw}
use Rattle.of_stacks.specs.Throws.{bad_handle, compile_only, control_mismatch, dictionary_overflow}
use Rattle.of_stacks.specs.Order.{counted, counting, fault_if, later_rank, rank}
use Rattle.of_control.specs.Element.{Plain}
use Rattle.of_control.specs.Openers.{is_all_closed}
use Rattle.of_code.specs.declared.item.Item.TheVariants.{Return}
use Rattle.of_code.specs.Code.{has_room}
use Rattle.of_dict.specs.Words.{xt_of}
use Rattle.of_compile.specs.Coding.{Coding, Outcome, compiled, compiling, finishing, fits}
use Rattle.of_compile.specs.Defining.{closed}
use Rattle.of_compile.specs.Definitions.{closing, closing_entry, compile_entry, finished_as}
use Rattle.of_compile.specs.Elements.{own_item}
use Rattle.of_compile.specs.Tokens.{called}
use Rattle.of_compile.specs.Words.{WordsState, is_word}
use Rattle.of_compile.proofs.FaultLemmas.{counted_first, late_counted, late_if}

abbrev outcome : Coding → Result (Unit {0}) Throw → Outcome
outcome c r = record { coding = c; ended = r }

-- ---- `b(;)`

ok_is_no_err : {A B : Type 0} (x : A) (t : B) → ◌≡◌ {A = Result A B} (Ok x) (Err t) → ⊥
ok_is_no_err x t e = cc

finished_same : (a b : Bool) (x c d : Coding) (t : Throw)
    → (if a then (if b then outcome x (Ok tt) else outcome c (Err dictionary_overflow))
    else outcome c (Err control_mismatch)) ≡ outcome d (Err t) → d ≡ c
finished_same true true x c d t e = absurd (ok_is_no_err tt t (ap (λ o. o.ended) e))
finished_same true false x c d t e = sym (ap (λ o. o.coding) e)
finished_same false b x c d t e = sym (ap (λ o. o.coding) e)

finishing_same : (xt : Cell) (c d : Coding) (t : Throw) → finishing xt c ≡ outcome d (Err t) → d ≡ c
unfolding finishing
finishing_same xt c d t e = finished_same (is_all_closed c.openers) (has_room c.code Return) _ c d t e

pub closing_throws : (w : WordsState) (n : ℕ) (c d : Coding) (t : Throw) → w.defining ≡ Some n
    → finishing (record { 0 = xt_of n }) c ≡ outcome d (Err t) → (closing_entry w c ≡ Err t) × (d ≡ c)
closing_throws w n c d t s e =
    (ap (λ o. closing o w c) s ∙ ap (finished_as w) e, finishing_same (record { 0 = xt_of n }) c d t e)

pub closing_ends : (w : WordsState) (n : ℕ) (c d : Coding) → w.defining ≡ Some n
    → finishing (record { 0 = xt_of n }) c ≡ outcome d (Ok tt) → closing_entry w c ≡ Ok (closed w, d)
closing_ends w n c d s e = ap (λ o. closing o w c) s ∙ ap (finished_as w) e

-- ---- `compile,`

first_handle : nat_le (rank compile_only.0) (rank bad_handle.0) ≡ true
unfolding rank later_rank
first_handle = refl

first_overflow : nat_le (rank compile_only.0) (rank dictionary_overflow.0) ≡ true
unfolding rank later_rank
first_overflow = refl

handle_overflow : nat_le (rank bad_handle.0) (rank dictionary_overflow.0) ≡ true
unfolding rank later_rank
handle_overflow = refl

closed_counts : (a b : Bool)
    → counting (Some compile_only ∷ fault_if a bad_handle ∷ fault_if b dictionary_overflow ∷ []) ≡ Some compile_only
closed_counts a b =
    counted_first compile_only (counted (fault_if a bad_handle) (counted (fault_if b dictionary_overflow) None))
    (late_counted compile_only (fault_if a bad_handle) (counted (fault_if b dictionary_overflow) None)
    (late_if compile_only bad_handle a first_handle)
    (late_counted compile_only (fault_if b dictionary_overflow) None
    (late_if compile_only dictionary_overflow b first_overflow) tt))

unknown_counts : (b : Bool) → counting (Some bad_handle ∷ fault_if b dictionary_overflow ∷ []) ≡ Some bad_handle
unknown_counts b =
    counted_first bad_handle (counted (fault_if b dictionary_overflow) None)
    (late_counted bad_handle (fault_if b dictionary_overflow) None
    (late_if bad_handle dictionary_overflow b handle_overflow) tt)

pub compile_closed : (w : WordsState) (c : Coding) (s : List Cell) → is_none w.defining ≡ true
    → compile_entry w c s ≡ Err compile_only
compile_closed w c [] e = rw e refl
compile_closed w c (xt ∷ s) e =
    rw (e, closed_counts (not (is_word w.dictionary xt.0)) (not (fits (own_item (Plain (called xt))) c.code))) refl

pub compile_unknown : (w : WordsState) (c : Coding) (xt : Cell) (s : List Cell) → is_none w.defining ≡ false
    → is_word w.dictionary xt.0 ≡ false → compile_entry w c (xt ∷ s) ≡ Err bad_handle
compile_unknown w c xt s e u =
    rw (e, u, unknown_counts (not (fits (own_item (Plain (called xt))) c.code))) refl

same_err : (t u : Throw) → ◌≡◌ {A = Result (Unit {0}) Throw} (Err t) (Err u) → t ≡ u
same_err t u e = cc

-- whether the item has room decides what compiling answers
throws_at : (b : Bool) (x c d : Coding) (t : Throw)
    → (if b then outcome x (Ok tt) else outcome c (Err dictionary_overflow)) ≡ outcome d (Err t)
    → (b ≡ false) × ((t ≡ dictionary_overflow) × (d ≡ c))
throws_at true x c d t e = absurd (ok_is_no_err tt t (ap (λ o. o.ended) e))
throws_at false x c d t e =
    (refl, (same_err t dictionary_overflow (sym (ap (λ o. o.ended) e)), sym (ap (λ o. o.coding) e)))

ends_at : (b : Bool) (x c d : Coding)
    → (if b then outcome x (Ok tt) else outcome c (Err dictionary_overflow)) ≡ outcome d (Ok tt)
    → (b ≡ true) × (x ≡ d)
ends_at true x c d e = (refl, ap (λ o. o.coding) e)
ends_at false x c d e = absurd (ok_is_no_err tt dictionary_overflow (sym (ap (λ o. o.ended) e)))

full_at : (xt : Cell) (c d : Coding) (t : Throw) → compiling (Plain (called xt)) c ≡ outcome d (Err t)
    → (fits (own_item (Plain (called xt))) c.code ≡ false) × ((t ≡ dictionary_overflow) × (d ≡ c))
unfolding compiling
full_at xt c d t e = throws_at (fits (own_item (Plain (called xt))) c.code) _ c d t e

room_at : (xt : Cell) (c d : Coding) → compiling (Plain (called xt)) c ≡ outcome d (Ok tt)
    → (fits (own_item (Plain (called xt))) c.code ≡ true) × (compiled (Plain (called xt)) c ≡ d)
unfolding compiling
room_at xt c d e = ends_at (fits (own_item (Plain (called xt))) c.code) _ c d e

pub compile_throws : (w : WordsState) (c d : Coding) (xt : Cell) (stack s : List Cell) (t : Throw)
    → stack ≡ xt ∷ s → is_none w.defining ≡ false → is_word w.dictionary xt.0 ≡ true
    → compiling (Plain (called xt)) c ≡ outcome d (Err t) → (compile_entry w c stack ≡ Err t) × (d ≡ c)
compile_throws w c d xt stack s t top n i e =
    let at = full_at xt c d t e in
    let thrown : compile_entry w c (xt ∷ s) ≡ Err t = rw (n, i, at.0, at.1.0) refl in
    (ap (compile_entry w c) top ∙ thrown, at.1.1)

pub compile_ends : (w : WordsState) (c d : Coding) (xt : Cell) (stack s : List Cell)
    → stack ≡ xt ∷ s → is_none w.defining ≡ false → is_word w.dictionary xt.0 ≡ true
    → compiling (Plain (called xt)) c ≡ outcome d (Ok tt) → compile_entry w c stack ≡ Ok (d, s)
compile_ends w c d xt stack s top n i e =
    let at = room_at xt c d e in
    let ended : compile_entry w c (xt ∷ s) ≡ Ok (d, s) = rw (n, i, at.0, at.1) refl in
    ap (compile_entry w c) top ∙ ended
