-- What is open, and what a closer answers, stands within the code.
use Rattle.std.proofs.Common.{◌≡◌, ℕ, ◌≤◌, true, List, [], ◌∷◌, length, Option, Some, None, sym, subst, arith}
use Rattle.of_control.specs.declared.opener.Opener.{Opener}
use Rattle.of_control.specs.Openers.{Openers, is_all_closed}
use Rattle.of_control.specs.Element.{Element}
use Rattle.of_control.specs.Calls.{AreWithin, IsWithin as IsPlaceWithin, StandWithin, call_answer}
use Rattle.of_control.specs.Law.{PlacesStayWithin}
use Rattle.of_compile.specs.declared.element.PlainItem.{PlainItem}
use Rattle.of_compile.specs.Coding.{Coding, IsAnsweredWithin, IsWithin, compiled}
use Rattle.of_compile.proofs.Lengths.{code_length}

pub answer_before : (b n : ℕ) (o : Option ℕ) → IsPlaceWithin b o → Some n ≡ o → n ≤ b
answer_before b n o h e = subst (IsPlaceWithin b) (sym e) h

pub answer_within : (b n : ℕ) (o : Option ℕ) → IsPlaceWithin b o → Some n ≡ o → b ≤ 65536 → n ≤ 65536
answer_within b n o h e l = let m = answer_before b n o h e in omega (arith, m, l)

stand_longer : (b c : ℕ) (os : List Opener) → b ≤ c → StandWithin b os → StandWithin c os
stand_longer b c [] l h = tt
stand_longer b c (x ∷ os) l h = let first = h.0 in (omega (arith, l, first), stand_longer b c os l h.1)

are_longer : (b c : ℕ) (os : Openers) → b ≤ c → AreWithin b os → AreWithin c os
are_longer b c None l h = tt
are_longer b c (Some os) l h = stand_longer b c os l h

pub answered_within :
    PlacesStayWithin PlainItem 32 → (e : Element PlainItem) (c : Coding) → IsWithin c → IsAnsweredWithin e c
answered_within law e c h = (law.one (length c.code.cells) (length c.code.cells) e c.openers (omega arith) h).1

pub compiled_within :
    PlacesStayWithin PlainItem 32 → (e : Element PlainItem) (c : Coding) → IsWithin c → IsWithin (compiled e c)
compiled_within law e c h =
    let more = code_length e (call_answer e c.openers) c.code in
    are_longer (length c.code.cells) (length (compiled e c).code.cells) (compiled e c).openers (omega (arith, more))
    (law.one (length c.code.cells) (length c.code.cells) e c.openers (omega arith) h).0

-- where nothing is open, nothing stands past any place
pub closed_within : (b : ℕ) (os : Openers) → is_all_closed os ≡ true → AreWithin b os
closed_within b None e = tt
closed_within b (Some []) e = tt
closed_within b (Some (x ∷ os)) e = let bad : ⊥ = cc in absurd bad
