-- The calls keep and answer no places but those that they were given.
use Rattle.std.proofs.Common.{◌≡◌, ℕ, zero, suc, ◌≤◌, Bool, true, false, List, [], ◌∷◌, length, Option, Some, None}
use Rattle.std.proofs.Common.{refl}
use Rattle.std.specs.Prelude.{slice_get, remove, nat_lt, if◌then◌else◌}
use Rattle.of_control.specs.declared.opener.Opener.{Opener}
use Rattle.of_control.specs.declared.opener.Kind.TheVariants.{Orig, Dest, DoSys, CaseSys, OfSys}
use Rattle.of_control.specs.Openers.{Openers, after_taking, any_do_sys, dest_index, is_case_sys, is_do_sys, is_of_sys}
use Rattle.of_control.specs.Openers.{leave_in, of_in, on_case, opened_in, orig_count, orig_index, place_at, place_of}
use Rattle.of_control.specs.Openers.{rolled_in, taken_place, top_index, topped, without}
use Rattle.of_control.specs.Element.{Back, Branch, Case, Do, Element, EndCase, EndOf, Leave, Loop, Mark, Misfit, Of}
use Rattle.of_control.specs.Element.{Plain, Resolve, Roll}
use Rattle.of_control.specs.Calls.{AreAnsweredWithin, AreWithin, IsWithin, StandWithin, after_call, after_calls}
use Rattle.of_control.specs.Calls.{call_answer, call_answers, opener_at}
use Rattle.of_control.specs.Law.{ArePlacedWithin, PlacesStayWithin, Placing}

got_within : (b : ℕ) (os : List Opener) (i : ℕ) (x : Opener) → StandWithin b os → slice_get os i ≡ Some x → x.at ≤ b
got_within b [] i x h e = let bad : ⊥ = cc in absurd bad
got_within b (y ∷ os) zero x h e = let same : y ≡ x = cc in rw (same) at h.0
got_within b (y ∷ os) (suc i) x h e = got_within b os i x h.1 e

removed_within : (b : ℕ) (os : List Opener) (i : ℕ) → StandWithin b os → StandWithin b (remove os i)
removed_within b [] zero h = tt
removed_within b [] (suc i) h = tt
removed_within b (y ∷ os) zero h = h.1
removed_within b (y ∷ os) (suc i) h = (h.0, removed_within b os i h.1)

place_within : (b : ℕ) (o : Option Opener) → ((x : Opener) → o ≡ Some x → x.at ≤ b) → IsWithin b (place_of o)
place_within b None h = tt
place_within b (Some x) h = h x refl

answer_within : (b : ℕ) (os : List Opener) (i : Option ℕ) → StandWithin b os → IsWithin b (place_at os i)
answer_within b os None h = tt
answer_within b os (Some i) h = place_within b (slice_get os i) (λ x e. got_within b os i x h e)

rest_within : (b : ℕ) (os : List Opener) (i : Option ℕ) → StandWithin b os → AreWithin b (without os i)
rest_within b os None h = tt
rest_within b os (Some i) h = removed_within b os i h

taken_within :
    (b : ℕ) (which : List Opener → Option ℕ) (os : Openers) → AreWithin b os →
    AreWithin b (after_taking which os) × IsWithin b (taken_place which os)
taken_within b which None h = (tt, tt)
taken_within b which (Some os) h = (rest_within b os (which os) h, answer_within b os (which os) h)

opened_if_within :
    (b : ℕ) (x : Opener) (os : List Opener) (c : Bool) → x.at ≤ b → StandWithin b os →
    AreWithin b (if c then Some (x ∷ os) else None)
opened_if_within b x os true l h = (l, h)
opened_if_within b x os false l h = tt

opened_within :
    (b limit : ℕ) (x : Opener) (os : Openers) → x.at ≤ b → AreWithin b os → AreWithin b (opened_in limit x os)
opened_within b limit x None l h = tt
opened_within b limit x (Some os) l h = opened_if_within b x os (nat_lt (length os) limit) l h

topped_within :
    (b : ℕ) (o : Option Opener) (os : List Opener) → ((x : Opener) → o ≡ Some x → x.at ≤ b) → StandWithin b os →
    AreWithin b (topped o os)
topped_within b None os f h = tt
topped_within b (Some x) os f h = (f x refl, h)

rolled_if_within :
    (b n : ℕ) (os : List Opener) (c : Bool) → StandWithin b os →
    AreWithin b (if c then topped (slice_get os n) (remove os n) else None)
rolled_if_within b n os true h =
    topped_within b (slice_get os n) (remove os n) (λ x e. got_within b os n x h e) (removed_within b os n h)
rolled_if_within b n os false h = tt

rolled_within : (b n : ℕ) (os : Openers) → AreWithin b os → AreWithin b (rolled_in n os)
rolled_within b n None h = tt
rolled_within b n (Some os) h = rolled_if_within b n os (nat_lt n (orig_count os)) h

same_if_within : (b : ℕ) (os : List Opener) (c : Bool) → StandWithin b os → AreWithin b (if c then Some os else None)
same_if_within b os true h = h
same_if_within b os false h = tt

leave_within : (b : ℕ) (os : Openers) → AreWithin b os → AreWithin b (leave_in os)
leave_within b None h = tt
leave_within b (Some os) h = same_if_within b os (any_do_sys os) h

of_if_within :
    (b limit : ℕ) (x : Opener) (os : List Opener) (c : Bool) → x.at ≤ b → StandWithin b os →
    AreWithin b (if c then opened_in limit x (Some os) else None)
of_if_within b limit x os true l h = opened_within b limit x (Some os) l h
of_if_within b limit x os false l h = tt

of_within : (b limit : ℕ) (x : Opener) (os : Openers) → x.at ≤ b → AreWithin b os → AreWithin b (of_in limit x os)
of_within b limit x None l h = tt
of_within b limit x (Some os) l h = of_if_within b limit x os (on_case os) l h

within :
    {A : Type 0} → (limit at b : ℕ) (e : Element A) (os : Openers) → at ≤ b → AreWithin b os →
    AreWithin b (after_call limit at e os) × IsWithin b (call_answer e os)
within limit at b (Plain k) os l h = (h, tt)
within limit at b (Branch z t) os l h = (opened_within b limit (opener_at at (Orig t)) os l h, tt)
within limit at b (Mark p) os l h = (opened_within b limit (opener_at at (Dest p)) os l h, tt)
within limit at b (Do q) os l h = (opened_within b limit (opener_at at DoSys) os l h, tt)
within limit at b Case os l h = (opened_within b limit (opener_at at CaseSys) os l h, tt)
within limit at b Of os l h = (of_within b limit (opener_at at OfSys) os l h, tt)
within limit at b (Resolve p) os l h = taken_within b (orig_index p) os h
within limit at b (Back z t) os l h = taken_within b (dest_index t) os h
within limit at b (Loop q) os l h = taken_within b (top_index is_do_sys) os h
within limit at b EndOf os l h = taken_within b (top_index is_of_sys) os h
within limit at b EndCase os l h = taken_within b (top_index is_case_sys) os h
within limit at b (Roll n) os l h = (rolled_within b n os h, tt)
within limit at b Leave os l h = (leave_within b os h, tt)
within limit at b (Misfit k) os l h = (tt, tt)

all_within :
    {A : Type 0} → (limit b : ℕ) (place : Placing A) (es : List (Element A)) → ArePlacedWithin b place es →
    AreWithin b (after_calls limit place es) × AreAnsweredWithin b (call_answers limit place es)
all_within limit b place [] h = (tt, tt)
all_within limit b place (e ∷ es) h =
    let w = all_within limit b place es h.1 in
    let k = within limit (place es) b e (after_calls limit place es) h.0 w.0 in
    (k.0, (k.1, w.1))

pub places_stay_within : (A : Type 0) (limit : ℕ) → PlacesStayWithin A limit
places_stay_within A limit = record { one = within limit; all = all_within limit }
