-- The table has exactly the FCodes that the tokens so far make.
use Rattle.std.proofs.Common.{◌≡◌, ◌≢◌, ℕ, zero, suc, ◌-◌, ◌<◌, take, List, [], ◌∷◌, ◌++◌, length, Some, None, Bool}
use Rattle.std.proofs.Common.{true, false, cond}
use Rattle.std.proofs.Common.{not, ◌||◌, ◌&&◌, nat_eq, get_or, set, replicate, refl, ap, ◌∙◌, arith}
use Rattle.std.proofs.lemmas.List.{get_or-set_same, get_or-set_other, get_or-replicate, length-set, length-replicate}
use Rattle.std.proofs.lemmas.Option.{unwrap_or-slice_get}
use Rattle.std.proofs.lemmas.Bool.Decides.{nat_tests}
use Rattle.of_stream.specs.Decoding.{Argument, Nothing, Literal, String, Code, Named, Offset}
use Rattle.of_check.specs.declared.finding.Finding.{Finding}
use Rattle.of_check.specs.declared.finding.Finding.TheVariants as found
use Rattle.of_check.specs.Tokens.{Standing}
use Rattle.of_check.specs.Findings.{branch_finding, definition_finding, findings_at, is_made, is_own, listed, makes_by}
use Rattle.of_check.specs.Findings.{token_findings, use_finding}
use Rattle.of_check.specs.Table.{findings_in, has, none_made, noted, use_in}

-- a new table
pub no_made : (n m : ℕ) (old made : List Bool) → old ≡ [] → m ≡ 0 → made ≡ take n old ++ replicate (n - m) false
    → made ≡ replicate n false
no_made n m old made none begins h =
    let all : n - m ≡ n = omega (arith, begins) in
    h ∙ rw (all, none, take_nil n) refl
  where
    take_nil : (n : ℕ) → take {A = Bool} n [] ≡ []
    take_nil zero = refl
    take_nil (suc n) = refl

-- the table behind these tokens, the latest first
abbrev pub table_of : List Standing → List Bool
table_of [] = none_made
table_of (s ∷ before) = noted s.token.code.0 s.token.argument (table_of before)

if_long : (t : Bool) (made : List Bool) (c : ℕ) → length (cond t (set made c true) made) ≡ length made
if_long true made c = length-set made c true
if_long false made c = refl

noted_long : (code : ℕ) (a : Argument) (made : List Bool) → length (noted code a made) ≡ length made
noted_long code Nothing made = refl
noted_long code (Literal x) made = refl
noted_long code (String s) made = refl
noted_long code (Code c) made = if_long (nat_eq code 0x0b5) made c.0
noted_long code (Named name c) made = length-set made c.0 true
noted_long code (Offset by) made = refl

table_long : (before : List Standing) → length (table_of before) ≡ 4096
unfolding none_made
table_long [] = length-replicate 4096 false
table_long (s ∷ before) = noted_long s.token.code.0 s.token.argument (table_of before) ∙ table_long before

set_by : (t : Bool) (made : List Bool) (c n : ℕ) → nat_eq c n ≡ t → n < length made
    → get_or (set made c true) n false ≡ (t || get_or made n false)
set_by true made c n e h =
    let same : c ≡ n = grind (arith, nat_tests, e) in
    rw same (get_or-set_same made n true false h)
set_by false made c n e h =
    let other : n ≢ c = grind (arith, nat_tests, e) in get_or-set_other made c n true false other

set_has : (made : List Bool) (c n : ℕ) → n < length made
    → get_or (set made c true) n false ≡ (nat_eq c n || get_or made n false)
set_has made c n h = set_by (nat_eq c n) made c n refl h

if_has : (t : Bool) (made : List Bool) (c n : ℕ) → n < length made
    → get_or (cond t (set made c true) made) n false ≡ ((t && nat_eq c n) || get_or made n false)
if_has true made c n h = set_has made c n h
if_has false made c n h = refl

noted_has : (code : ℕ) (a : Argument) (made : List Bool) (n : ℕ) → n < length made
    → get_or (noted code a made) n false ≡ (makes_by code a n || get_or made n false)
noted_has code Nothing made n h = refl
noted_has code (Literal x) made n h = refl
noted_has code (String s) made n h = refl
noted_has code (Code c) made n h = if_has (nat_eq code 0x0b5) made c.0 n h
noted_has code (Named name c) made n h = set_has made c.0 n h
noted_has code (Offset by) made n h = refl

table_get : (before : List Standing) (n : ℕ) → n < 4096 → get_or (table_of before) n false ≡ is_made before n
unfolding none_made
table_get [] n h = get_or-replicate 4096 n false false h
table_get (s ∷ before) n h =
    let long : n < length (table_of before) = omega (arith, h, table_long before) in
    noted_has s.token.code.0 s.token.argument (table_of before) n long
    ∙ ap (λ b. makes_by s.token.code.0 s.token.argument n || b) (table_get before n h)

table_has : (before : List Standing) (n : ℕ) → n < 4096 → has (table_of before) n ≡ is_made before n
table_has before n h = unwrap_or-slice_get (table_of before) n false ∙ table_get before n h

own_small : (n : ℕ) → is_own n ≡ true → n < 4096
own_small n h = grind (arith, nat_tests, h)

use_by : (t : Bool) (before : List Standing) (s : Standing) → is_own s.token.code.0 ≡ t
    → cond (t && not (has (table_of before) s.token.code.0)) (Some (found.Unmade s.position s.token.code)) None
    ≡ cond (t && not (is_made before s.token.code.0)) (Some (found.Unmade s.position s.token.code)) None
use_by true before s e =
    ap (λ b. cond (not b) (Some (found.Unmade s.position s.token.code)) None)
    (table_has before s.token.code.0 (own_small s.token.code.0 e))
use_by false before s e = refl

use_same : (before : List Standing) (s : Standing) → use_in (table_of before) s ≡ use_finding before s
use_same before s = use_by (is_own s.token.code.0) before s refl

-- ---- what is found by the table

abbrev pub tabled : ℕ → List Bool → List Standing → List Finding
tabled end made [] = []
tabled end made (s ∷ behind) =
    findings_in end made s behind ++ tabled end (noted s.token.code.0 s.token.argument made) behind

tabled_behind : (end : ℕ) (before ss : List Standing) → tabled end (table_of before) ss ≡ token_findings end before ss
tabled_behind end before [] = refl
tabled_behind end before (s ∷ behind) =
    let branch = listed (branch_finding end s s.token.argument) in
    let definition = listed (definition_finding s behind) in
    ap (λ o. (listed o ++ branch ++ definition) ++ tabled end (table_of (s ∷ before)) behind) (use_same before s)
    ∙ ap (λ xs. findings_at end before s behind ++ xs) (tabled_behind end (s ∷ before) behind)

pub tabled_all : (end : ℕ) (ss : List Standing) → tabled end none_made ss ≡ token_findings end [] ss
tabled_all end ss = tabled_behind end [] ss
