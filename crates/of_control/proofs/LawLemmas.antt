-- The laws.
use Rattle.of_control.proofs.Agreement.{read_as}
use Rattle.of_control.proofs.CallLemmas.{no_answer_in, answers, open_then, kept, kept_of}
use Rattle.std.proofs.Common.{arith, ◌≡◌, false, ℕ, List, [], Some, None, refl, sym, ap, ◌∙◌, subst, IsTrue, ◌⊎◌}
use Rattle.std.specs.Prelude.{map}
use Rattle.of_control.specs.Openers.{is_all_closed}
use Rattle.of_control.specs.Element.{Element}
use Rattle.of_control.specs.Matching.{Partners}
use Rattle.of_control.specs.Body.{Body}
use Rattle.of_control.specs.Reading.{body_in, read_by}
use Rattle.of_control.specs.Tight.{IsReading}
use Rattle.of_control.specs.Calls.{after_calls, placed}
use Rattle.of_control.specs.Law.{CallsFollowMatching, ClosedIsRead, HasNone, IsBodyIn, IsBounded, IsMatched}
use Rattle.of_control.specs.Law.{ItemsAreFlat, JumpsStayInside, MatchingIsDecided, OneReading}
use Rattle.of_control.specs.AgedStack.{AgedStack, aged_stack}
use Rattle.of_control.proofs.MatchingLemmas.{Sound, complete, sound, one_matching}
use Rattle.of_control.proofs.TargetLemmas.{targets}
use Rattle.of_control.proofs.NamedBodies.{tight_scoped}
use Rattle.of_control.proofs.TightReadings.{reading_tight}
use Rattle.of_control.proofs.Trees.{one_body, one_reading}

-- the aged stack has a bounded matching, or there is none
decided_by :
    {A : Type 0} → (limit : ℕ) (es : List (Element A)) (c : AgedStack) → aged_stack limit es ≡ c → Sound limit es c →
    ((m : Partners) × IsBounded limit es m) ⊎ HasNone limit es
decided_by limit es c e h = grind (arith, complete)

pub calls_follow_matching : (A : Type 0) (limit : ℕ) → CallsFollowMatching A limit
calls_follow_matching A limit = grind (arith, one_matching, answers, open_then, kept, no_answer_in, sound)

pub matching_is_decided : (A : Type 0) (limit : ℕ) → MatchingIsDecided A limit
matching_is_decided A limit es = decided_by limit es (aged_stack limit es) refl (sound limit es)

matched_from :
    {A : Type 0} → (limit : ℕ) (place : List (Element A) → ℕ) (es : List (Element A)) (c : AgedStack) →
    Sound limit es c → IsTrue (is_all_closed (kept_of place es c)) → (m : Partners) × IsMatched limit es m
matched_from limit place es (Some (m, [])) h t = grind (arith)
matched_from limit place es _ h t = let bad : ⊥ = cc in absurd bad

closed_matched :
    {A : Type 0} → (limit : ℕ) (place : List (Element A) → ℕ) (es : List (Element A)) →
    IsTrue (is_all_closed (after_calls limit place es)) → (m : Partners) × IsMatched limit es m
closed_matched limit place es t = grind (arith, matched_from, sound, kept)

matched_closed :
    {A : Type 0} → (limit : ℕ) (place : List (Element A) → ℕ) (es : List (Element A)) →
    (m : Partners) × IsMatched limit es m → IsTrue (is_all_closed (after_calls limit place es))
matched_closed limit place es w =
    let m = w.0 in
    let now = open_then limit place es m w.1.bounded.matching w.1.bounded.few
    ∙ ap (λ l. Some (map (placed place es) l)) w.1.closed in
    subst (λ c. IsTrue (is_all_closed c)) (sym now) refl

-- ---- bodies

body_by :
    {A : Type 0} → (limit : ℕ) (es : List (Element A)) (b : Body A) (c : AgedStack) → Sound limit es c →
    read_by es c ≡ Some b → IsBodyIn limit es b
body_by limit es b None h e = let bad : ⊥ = cc in absurd bad
body_by limit es b (Some (m, os)) h e =
    grind (arith, targets, reading_tight, read_as)

-- a matching that leaves nothing open is read
body_of_matched :
    {A : Type 0} → (limit : ℕ) (es : List (Element A)) (m : Partners) → IsMatched limit es m →
    (b : Body A) × (body_in limit es ≡ Some b) × IsReading es m b
body_of_matched limit es m w =
    grind (arith, complete, targets, reading_tight, read_as)

body_found :
    {A : Type 0} → (limit : ℕ) (es : List (Element A)) (b : Body A) → IsBodyIn limit es b → body_in limit es ≡ Some b
body_found limit es b w =
    let r = body_of_matched limit es w.partners w.matched in
    r.1 ∙ ap Some (one_reading es w.partners r.0 b r.2 w.read)

body_where :
    {A : Type 0} → (limit : ℕ) (es : List (Element A)) → (m : Partners) × IsMatched limit es m →
    (b : Body A) × IsBodyIn limit es b
body_where limit es w = grind (arith, body_of_matched)

matched_where :
    {A : Type 0} → (limit : ℕ) (es : List (Element A)) → (b : Body A) × IsBodyIn limit es b →
    (m : Partners) × IsMatched limit es m
matched_where limit es w = (w.1.partners, w.1.matched)

pub closed_is_read : (A : Type 0) (limit : ℕ) → ClosedIsRead A limit
closed_is_read A limit = record {
  closed = λ place es. (closed_matched limit place es, matched_closed limit place es);
  body = λ es. (body_where limit es, matched_where limit es);
  read = λ place es. (
    λ t. body_where limit es (closed_matched limit place es t),
    λ w. matched_closed limit place es (matched_where limit es w),
  );
  found = λ es b. (λ e. body_by limit es b (aged_stack limit es) (sound limit es) e, body_found limit es b);
}

pub one_reading_law : (A : Type 0) (limit : ℕ) → OneReading A limit
one_reading_law A limit = grind (arith, one_body, one_reading, one_matching)

pub jumps_stay_inside : (A : Type 0) (limit : ℕ) → JumpsStayInside A limit
jumps_stay_inside A limit es b w = tight_scoped 0 false false b w.read.tight

pub items_are_flat : (A : Type 0) (limit : ℕ) → ItemsAreFlat A limit
items_are_flat A limit es m b is w = grind (arith, one_matching)
