-- The control stack: the open ones, latest first, kept from element to element.
use Rattle.std.specs.Prelude.{ℕ, suc, Bool, true, false, not, ◌||◌, nat_le, List, [], ◌∷◌, ◌++◌, length, Option, Some}
use Rattle.std.specs.Prelude.{None, slice_get, filter}
use Rattle.of_control.specs.declared.opener.Kind.{Kind}
use Rattle.of_control.specs.Openers.{is_case_sys, is_dest_for, is_do_sys, is_of_sys, is_orig_for}
use Rattle.of_control.specs.Element.{Back, Branch, Case, Do, Element, EndCase, EndOf, Leave, Loop, Mark, Misfit, Of}
use Rattle.of_control.specs.Element.{Plain, Resolve, Roll}
use Rattle.of_control.specs.Matching.{Opening, Partners, is_partner, opened_by, top_origs, top_structure}

-- (Misfit k), or what is closed, if anything
pub data Answer : Type 0 where
  Broken : Answer
  Nothing : Answer
  Closed : Opening → Answer

-- the first that aims at t
abbrev pub first_or : Bool → Opening → Option Opening → Option Opening
first_or true x o = Some x
first_or false x o = o

abbrev pub first_orig_for : ℕ → List Opening → Option Opening
first_orig_for t [] = None
first_orig_for t (x ∷ xs) = first_or (is_orig_for t x.kind) x (first_orig_for t xs)

abbrev pub or_opening : Option Opening → Option Opening → Option Opening
or_opening None o = o
or_opening (Some x) o = Some x

abbrev pub resolved : Option ℕ → List Opening → Option Opening
resolved None xs = slice_get xs 0
resolved (Some p) xs = or_opening (first_orig_for p xs) (first_orig_for (suc p) xs)

abbrev pub found : Option Opening → Answer
found None = Broken
found (Some x) = Closed x

abbrev pub closed_if : Bool → Opening → Answer
closed_if true x = Closed x
closed_if false x = Broken

-- that opener, if its kind passes
abbrev pub if_kind : (Kind → Bool) → Option Opening → Answer
if_kind p None = Broken
if_kind p (Some x) = closed_if (p x.kind) x

abbrev pub nothing_if : Bool → Answer
nothing_if true = Nothing
nothing_if false = Broken

abbrev pub any_loop : List Opening → Bool
any_loop [] = false
any_loop (x ∷ xs) = is_do_sys x.kind || any_loop xs

abbrev pub is_on_case : Option Opening → Bool
is_on_case None = false
is_on_case (Some x) = is_case_sys x.kind

-- what the control stack answers
abbrev pub answer : {A : Type 0} → List Opening → Element A → Answer
answer os (Plain k) = Nothing
answer os (Branch z t) = Nothing
answer os (Mark p) = Nothing
answer os (Do q) = Nothing
answer os Case = Nothing
answer os (Resolve p) = found (resolved p (top_origs os))
answer os (Roll n) = found (slice_get (top_origs os) n)
answer os (Back z t) = if_kind (is_dest_for t) (top_structure os)
answer os (Loop q) = if_kind is_do_sys (slice_get os 0)
answer os EndOf = if_kind is_of_sys (slice_get os 0)
answer os EndCase = if_kind is_case_sys (slice_get os 0)
answer os Of = nothing_if (is_on_case (slice_get os 0))
answer os Leave = nothing_if (any_loop os)
answer os (Misfit k) = Broken

-- the stack without what was closed, and with what was opened
abbrev pub after : {A : Type 0} → ℕ → Element A → Option Opening → List Opening → List Opening
after n e o os = opened_by n e o ++ filter (λ x. not (is_partner o x)) os

-- all partners so far and the stack, or none from a misfit or a structure too many on
abbrev pub AgedStack : Type 0
AgedStack = Option (Partners × List Opening)

abbrev pub with_room : Bool → Partners → List Opening → AgedStack
with_room true m os = Some (m, os)
with_room false m os = None

abbrev pub go_on : {A : Type 0} → ℕ → ℕ → Element A → Answer → Partners → List Opening → AgedStack
go_on limit n e Broken m os = None
go_on limit n e Nothing m os = with_room (nat_le (length (after n e None os)) limit) (None ∷ m) (after n e None os)
go_on limit n e (Closed x) m os =
    with_room (nat_le (length (after n e (Some x) os)) limit) (Some x ∷ m) (after n e (Some x) os)

abbrev pub next : {A : Type 0} → ℕ → ℕ → Element A → AgedStack → AgedStack
next limit n e None = None
next limit n e (Some (m, os)) = go_on limit n e (answer os e) m os

abbrev pub aged_stack : {A : Type 0} → ℕ → List (Element A) → AgedStack
aged_stack limit [] = Some ([], [])
aged_stack limit (e ∷ es) = next limit (length es) e (aged_stack limit es)
