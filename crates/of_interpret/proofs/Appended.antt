-- Elements that are appended one after another.
use Rattle.std.proofs.Common.{◌≡◌, ℕ, ◌||◌, Bool, true, false, List, [], ◌∷◌, None, Result, Ok, Err, refl, ap, sym, ◌∙◌}
use Rattle.std.proofs.Common.{if◌then◌else◌}
use Rattle.of_cells.specs.declared.cells.Cell.{Cell}
use Rattle.of_stacks.specs.declared.stop.Stop.{Stop}
use Rattle.of_stacks.specs.declared.stop.Stop.TheVariants.{NoMemory, Thrown}
use Rattle.of_stacks.specs.declared.throws.Throw.{Throw}
use Rattle.of_stacks.specs.Throws.{dictionary_overflow}
use Rattle.of_control.specs.Element.{Element, Resolve, Roll}
use Rattle.of_compile.specs.Coding.{Coding, compiled, compiling}
use Rattle.of_compile.specs.Coding.{Outcome as CodingOutcome}
use Rattle.of_compile.specs.declared.element.PlainItem.{PlainItem}
use Rattle.of_eval.specs.Acts.{Appends}
use Rattle.of_eval.specs.Doing.{IsWorked, appended, element_grows, left_by, worked}
use Rattle.of_interpret.specs.Strings.{all_appended, unless_thrown}
use Rattle.of_interpret.specs.TextActs.{AppendsAll, IsSpoken, any_grows, text_acted}
use Rattle.of_state.specs.State.{Answered, Calls, Outcome, State, done, failed, flat_calls}

alone : {S : Type 0} (r : Result (Unit {0}) Throw) (code : S)
    → unless_thrown r (record { code = code; ended = r }) (λ d. record { code = d; ended = Ok tt })
    ≡ record { code = code; ended = r }
alone (Ok x) code = refl
alone (Err t) code = refl

-- one alone
pub one : {S : Type 0} (c : Calls S) (e : Element PlainItem) (code : S)
    → all_appended c (e ∷ []) code ≡ c.element e code
one c e code = alone (c.element e code).ended (c.element e code).code

-- what comes behind an element that found no room isn't appended
stopped : {S : Type 0} (r : Result (Unit {0}) Throw) (a : Answered S) (rest : S → Answered S) (t : Throw) → r ≡ Err t
    → unless_thrown r a rest ≡ a
stopped (Err t) a rest u e = refl
stopped (Ok x) a rest u e = absurd cc

went_on : {S : Type 0} (r : Result (Unit {0}) Throw) (a : Answered S) (rest : S → Answered S) → r ≡ Ok tt
    → unless_thrown r a rest ≡ rest a.code
went_on (Ok x) a rest e = refl
went_on (Err t) a rest e = absurd cc

-- the first element found no room
pub first_thrown : (e : Element PlainItem) (es : List (Element PlainItem)) (cells : List Cell) (s new : State Coding)
    (t : Throw) → worked flat_calls (Appends e cells) s ≡ failed t new
    → text_acted flat_calls (AppendsAll (e ∷ es) cells) s ≡ failed t new
unfolding worked text_acted
first_thrown e es cells s new t h =
    let a = flat_calls.element e s.code in
    let r : a.ended ≡ Err t = ap (λ (o : Outcome Coding). o.ended) h in
    ap (λ x. appended x cells s) (stopped a.ended a (all_appended flat_calls es) t r) ∙ h

or_true : (a b : Bool) → a ≡ true → (a || b) ≡ true
or_true true b e = refl
or_true false b e = absurd cc

-- or no memory
pub first_refused : (e : Element PlainItem) (es : List (Element PlainItem)) (s new : State Coding) (stop : Stop)
    → IsWorked {A = Unit {0}} (Appends e s.board.stack) s new (Err stop)
    → IsSpoken {A = Unit {0}} (AppendsAll (e ∷ es) s.board.stack) s new (Err stop)
first_refused e es s new (Thrown t) h = first_thrown e es s.board.stack s new t h
first_refused e es s new NoMemory h = (or_true (element_grows e) (any_grows es) h.0, h.1)

-- the first one did, and the others, too
pub all_put : (e : Element PlainItem) (es : List (Element PlainItem)) (s one new : State Coding) (d : Coding)
    → worked flat_calls (Appends e s.board.stack) s ≡ done one
    → all_appended flat_calls es one.code ≡ record { code = d; ended = Ok tt } → new ≡ record one { code = d }
    → text_acted flat_calls (AppendsAll (e ∷ es) s.board.stack) s ≡ done new
unfolding worked text_acted
all_put e es s one new d h k en =
    let a = flat_calls.element e s.code in
    let r : a.ended ≡ Ok tt = ap (λ (o : Outcome Coding). o.ended) h in
    let code : a.code ≡ one.code = ap (λ (o : Outcome Coding). o.state.code) h in
    let on : all_appended flat_calls (e ∷ es) s.code ≡ record { code = d; ended = Ok tt }
    = went_on a.ended a (all_appended flat_calls es) r ∙ ap (all_appended flat_calls es) code ∙ k in
    let left : record (left_by a.ended s.board.stack s) { code = d } ≡ record one { code = d }
    = ap (λ (o : Outcome Coding). record o.state { code = d }) h in
    let same : record (left_by a.ended s.board.stack s) { code = d } ≡ record s { code = d }
    = ap (λ x. record (left_by x s.board.stack s) { code = d }) r in
    ap (λ x. appended x s.board.stack s) on ∙ ap done (sym same ∙ left ∙ sym en)

-- elements without an item always find room
abbrev fitted : Bool → Element PlainItem → Coding → CodingOutcome
fitted b e c =
    if b then record { coding = compiled e c; ended = Ok tt }
    else record { coding = c; ended = Err dictionary_overflow }

fitting : (b : Bool) (c d : Coding) (r : Result (Unit {0}) Throw) (e : Element PlainItem) → b ≡ true
    → fitted b e c ≡ record { coding = d; ended = r } → d ≡ compiled e c
fitting true c d r e n h = sym (ap (λ (o : CodingOutcome). o.coding) h)
fitting false c d r e n h = absurd cc

pub rolled : (n : ℕ) (c d : Coding) (r : Result (Unit {0}) Throw)
    → compiling (Roll n) c ≡ record { coding = d; ended = r } → d ≡ compiled (Roll n) c
unfolding compiling
rolled n c d r h = fitting true c d r (Roll n) refl h

pub resolved : (c d : Coding) (r : Result (Unit {0}) Throw)
    → compiling (Resolve None) c ≡ record { coding = d; ended = r } → d ≡ compiled (Resolve None) c
unfolding compiling
resolved c d r h = fitting true c d r (Resolve None) refl h

-- what `else` and `repeat` append behind their branches
pub roll_and_resolve : (c d b : Coding) → d ≡ compiled (Roll 1) c → b ≡ compiled (Resolve None) d
    → all_appended flat_calls (Roll 1 ∷ Resolve None ∷ []) c ≡ record { code = b; ended = Ok tt }
unfolding compiling
roll_and_resolve c d b e f = rw (f, e) refl

pub resolve_alone : (c d : Coding) → d ≡ compiled (Resolve None) c
    → all_appended flat_calls (Resolve None ∷ []) c ≡ record { code = d; ended = Ok tt }
unfolding compiling
resolve_alone c d e = rw e refl
