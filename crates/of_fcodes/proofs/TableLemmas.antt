-- The places of the table lead from each number to its row.
use Rattle.std.proofs.Common.{◌≡◌, ℕ, zero, suc, ◌+◌, ◌<◌, ◌≤◌, Bool, true, false, List, [], ◌∷◌, length, get_or}
use Rattle.std.proofs.Common.{nat_lt, refl, sym, None, ap, ◌∙◌, arith}
use Rattle.std.specs.Prelude.{slice_get, slice_index}
use Rattle.std.proofs.lemmas.Bool.Decides.{nat_tests}
use Rattle.of_fcodes.specs.declared.table.TheConstants.{PLACES}
use Rattle.of_fcodes.specs.Rows.{rows, first_rows, second_rows, third_rows, fourth_rows, fifth_rows, sixth_rows}
use Rattle.of_fcodes.specs.Rows.{seventh_rows}
use Rattle.of_fcodes.specs.Lookup.{row_in, row_placed, row_numbered, number_named, FindsEachRow}
use Rattle.of_fcodes.proofs.Agreement.{is_rising, places_from, place_found, row_in-above}

-- the numbers of the FCodes rise
pub numbers_rise : is_rising 0 rows ≡ true
unfolding rows first_rows second_rows third_rows fourth_rows fifth_rows sixth_rows seventh_rows
numbers_rise = refl

pub places_are : PLACES ≡ places_from 0 0 rows 577
unfolding rows first_rows second_rows third_rows fourth_rows fifth_rows sixth_rows seventh_rows
places_are = refl

pub length-rows : length rows ≡ 256
unfolding rows first_rows second_rows third_rows fourth_rows fifth_rows sixth_rows seventh_rows
length-rows = refl

pub length-places : length PLACES ≡ 577
length-places = refl

-- no number past the places has a row
none_past : (n : ℕ) → 577 ≤ n → row_in rows n ≡ None
unfolding rows first_rows second_rows third_rows fourth_rows fifth_rows sixth_rows seventh_rows
none_past n h = row_in-above rows 577 n refl h

index-get_or : (ps : List ℕ) (n : ℕ) → n < length ps → slice_index ps n ≡ get_or ps n 256
index-get_or [] n h = absurd (omega arith)
index-get_or (p ∷ ps) zero h = refl
index-get_or (p ∷ ps) (suc n) h = index-get_or ps n (omega arith)

placed_within : (n : ℕ) → n < 577 → slice_get rows (slice_index PLACES n) ≡ row_in rows n
placed_within n h =
    let long : n < length PLACES = omega (arith, length-places) in
    let fits : length rows ≤ 256 = omega (arith, length-rows) in
    let found = place_found 577 0 0 rows rows fits refl numbers_rise n h in
    let index : slice_index PLACES n ≡ get_or (places_from 0 0 rows 577) n 256 =
    index-get_or PLACES n long ∙ ap (λ ps. get_or ps n 256) places_are in
    let whole : 0 + n ≡ n = omega arith in
    ap (slice_get rows) index ∙ found ∙ ap (row_in rows) whole

placed_if : (b : Bool) (n : ℕ) → nat_lt n (length PLACES) ≡ b → row_placed rows PLACES n ≡ row_in rows n
placed_if true n e =
    let short : n < 577 = grind (arith, nat_tests, e, length-places) in
    rw e (placed_within n short)
placed_if false n e =
    let past : 577 ≤ n = grind (arith, nat_tests, e, length-places) in
    rw e (sym (none_past n past))

-- the place of a number leads to its row, and a number without a row has none
pub row_placed-rows : (n : ℕ) → row_placed rows PLACES n ≡ row_numbered n
unfolding row_numbered
row_placed-rows n = placed_if (nat_lt n (length PLACES)) n refl

-- each row is found
pub rows_found : FindsEachRow
unfolding row_numbered number_named rows first_rows second_rows third_rows fourth_rows fifth_rows sixth_rows
    seventh_rows
rows_found = record { by_number = refl; by_name = refl }
