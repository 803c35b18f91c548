-- What holds of all definitions, with any type A of plain items.
use Rattle.std.specs.Prelude.{◌≡◌, ℕ, List, [], ◌∷◌, Some, None, IsTrue, ◌↔◌, ◌⊎◌, false, length, ◌≤◌}
use Rattle.of_control.specs.Openers.{Openers, is_all_closed}
use Rattle.of_control.specs.Element.{Element}
use Rattle.of_control.specs.Body.{Body, IsScoped, items_of}
use Rattle.of_control.specs.Matching.{Partners, IsMatching, NeverMore, open_ones}
use Rattle.of_control.specs.Targets.{flat_items, targets_of}
use Rattle.of_control.specs.Reading.{body_in}
use Rattle.of_control.specs.Tight.{IsReading, IsTight}
use Rattle.of_control.specs.Calls.{AreAnsweredWithin, AreWithin, IsWithin, after_call, after_calls, call_answer}
use Rattle.of_control.specs.Calls.{call_answers, due_answers, due_openers}
use Rattle.of_control.specs.Items.{item_count, performed, plain_items}
use Rattle.of_control.specs.Compiling.{compiled}

-- the partners are a matching with never more than `limit` open
pub record IsBounded {A : Type 0} (limit : ℕ) (es : List (Element A)) (m : Partners) : Type 0 where
  pub matching : IsMatching es m
  pub few : NeverMore limit es m

-- where each element's call is made
abbrev pub Placing : Type 0 → Type 0
Placing A = List (Element A) → ℕ

-- a list has no bounded matching
abbrev pub HasNone : {A : Type 0} → ℕ → List (Element A) → Type 0
HasNone limit es = (m : Partners) → IsBounded limit es m → ⊥

-- there is one matching at most; the calls answer the partners of a bounded one and keep its openers,
-- and where there is none they answer nothing and are broken
pub record CallsFollowMatching (A : Type 0) (limit : ℕ) : Type 0 where
  pub one :
      (es : List (Element A)) (m n : Partners) → IsMatching es m → IsMatching es n → m ≡ n
  pub answers :
      (place : Placing A) (es : List (Element A)) (m : Partners) →
      IsBounded limit es m → call_answers limit place es ≡ due_answers place es m
  pub open_then :
      (place : Placing A) (es : List (Element A)) (m : Partners) →
      IsBounded limit es m → after_calls limit place es ≡ due_openers place es m
  pub no_answer :
      (place : Placing A) (e : Element A) (es : List (Element A)) →
      HasNone limit (e ∷ es) → call_answer e (after_calls limit place es) ≡ None
  pub broken :
      (place : Placing A) (es : List (Element A)) → HasNone limit es → after_calls limit place es ≡ None

-- each list has a bounded matching, or none
abbrev pub MatchingIsDecided : Type 0 → ℕ → Type 0
MatchingIsDecided A limit = (es : List (Element A)) → ((m : Partners) × IsBounded limit es m) ⊎ HasNone limit es

-- no call is made at a place past b
abbrev pub ArePlacedWithin : {A : Type 0} → ℕ → Placing A → List (Element A) → Type 0
ArePlacedWithin b place [] = Unit {0}
ArePlacedWithin b place (e ∷ es) = (place es ≤ b) × ArePlacedWithin b place es

-- where no call is made past a place, none keeps or answers one past it: of one call, and of all calls of a list
pub record PlacesStayWithin (A : Type 0) (limit : ℕ) : Type 0 where
  pub one :
      (at b : ℕ) (e : Element A) (os : Openers) →
      at ≤ b → AreWithin b os → AreWithin b (after_call limit at e os) × IsWithin b (call_answer e os)
  pub all :
      (b : ℕ) (place : Placing A) (es : List (Element A)) →
      ArePlacedWithin b place es →
      AreWithin b (after_calls limit place es) × AreAnsweredWithin b (call_answers limit place es)

-- a bounded matching that leaves nothing open
pub record IsMatched {A : Type 0} (limit : ℕ) (es : List (Element A)) (m : Partners) : Type 0 where
  pub bounded : IsBounded limit es m
  pub closed : open_ones es m ≡ []

-- b is the body of these elements: it is read from partners that leave nothing open, with never more than `limit` open
pub record IsBodyIn {A : Type 0} (limit : ℕ) (es : List (Element A)) (b : Body A) : Type 0 where
  pub partners : Partners
  pub matched : IsMatched limit es partners
  pub read : IsReading es partners b

-- the stack is closed after the calls, made anywhere, exactly where all is matched and bounded; exactly there the
-- elements have a body, and `body_in` finds it
pub record ClosedIsRead (A : Type 0) (limit : ℕ) : Type 0 where
  pub closed :
      (place : Placing A) (es : List (Element A)) →
      IsTrue (is_all_closed (after_calls limit place es)) ↔ ((m : Partners) × IsMatched limit es m)
  pub body :
      (es : List (Element A)) →
      ((m : Partners) × IsMatched limit es m) ↔ ((b : Body A) × IsBodyIn limit es b)
  pub read :
      (place : Placing A) (es : List (Element A)) →
      IsTrue (is_all_closed (after_calls limit place es)) ↔ ((b : Body A) × IsBodyIn limit es b)
  pub found :
      (es : List (Element A)) (b : Body A) →
      (body_in limit es ≡ Some b) ↔ IsBodyIn limit es b

-- tight bodies with equal items are equal, so elements with these partners have one reading at most, and one body
pub record OneReading (A : Type 0) (limit : ℕ) : Type 0 where
  pub bodies :
      (b c : Body A) →
      IsTight 0 false false b → IsTight 0 false false c → items_of b ≡ items_of c → b ≡ c
  pub readings :
      (es : List (Element A)) (m : Partners) (b c : Body A) →
      IsReading es m b → IsReading es m c → b ≡ c
  pub in_all :
      (es : List (Element A)) (b c : Body A) →
      IsBodyIn limit es b → IsBodyIn limit es c → b ≡ c

-- no jump of a body crosses a Counted, Choice or Arm
abbrev pub JumpsStayInside : Type 0 → ℕ → Type 0
JumpsStayInside A limit =
    (es : List (Element A)) (b : Body A) → IsBodyIn limit es b → IsScoped 0 false false b

-- the items of a body, in order and with the targets of its nesting, are the elements' items with the places of the
-- partners as targets
abbrev pub ItemsAreFlat : Type 0 → ℕ → Type 0
ItemsAreFlat A limit =
    (es : List (Element A)) (m : Partners) (b : Body A) →
    IsMatching es m → IsBodyIn limit es b → items_of b ≡ flat_items (targets_of es m) es m

-- what is compiled element by element has exactly these items and targets, and at the end those of the body
pub record CompiledIsFlat (A : Type 0) (limit : ℕ) : Type 0 where
  pub so_far :
      (es : List (Element A)) (m : Partners) →
      IsBounded limit es m → compiled limit es ≡ flat_items (targets_of es m) es m
  pub whole :
      (es : List (Element A)) (b : Body A) →
      IsBodyIn limit es b → compiled limit es ≡ items_of b

-- as many items are compiled as the elements leave, and the plain ones are those of the elements, in their order, also
-- where there is no matching
pub record ItemsAreCounted (A : Type 0) (limit : ℕ) : Type 0 where
  pub count : (es : List (Element A)) → length (compiled limit es) ≡ item_count es
  pub plain : (es : List (Element A)) → plain_items (compiled limit es) ≡ performed es
