-- Runs, turn by turn, over cells and over structure.
use Rattle.std.proofs.Common.{◌≡◌, ◌⊎◌, inl, inr, ℕ, zero, suc, ◌+◌, Bool, true, false, List, [], ◌∷◌, length, Option}
use Rattle.std.proofs.lemmas.Bool.{and_parts, false≢true, leb-false, leb-true}
use Rattle.std.proofs.lemmas.Option.{same_Some}
use Rattle.std.proofs.Common.{Some, None, Result, Ok, Err, IfOk, refl}
use Rattle.std.proofs.Common.{ap, sym, subst, ◌∙◌, add-one, nat_lt, nat_le, arith}
use Rattle.std.specs.Prelude.{if◌then◌else◌, option_and_then, ◌<◌, ◌≤◌, ◌^◌, ◌-◌, ◌&&◌, drop, is_none, is_some}
use Rattle.std.proofs.lemmas.Bool.Decides.{nat_tests}
use Rattle.of_memory.specs.DataSpace.{DataSpace}
use Rattle.of_nodes.specs.declared.phandles.Phandle.{Phandle}
use Rattle.of_memory.specs.Growth.{image_fits}
use Rattle.of_stream.specs.Image.{header_fault}
use Rattle.of_compile.specs.Coding.{Coding}
use Rattle.of_state.specs.State.{State, flat_calls}
use Rattle.of_asking.specs.Questions.{fits}
use Rattle.of_asking.specs.declared.query.Answer.{Answer}
use Rattle.of_asking.specs.declared.query.Query.{Query}
use Rattle.of_steps.specs.Steps.{asked_by, made, steps_from}
use Rattle.of_state.specs.Loading.{first_board}
use Rattle.of_eval_laws.specs.Structured.{no_definitions}
use Rattle.of_refusal.specs.declared.refusal.Refusal.{Refusal}
use Rattle.of_refusal.specs.declared.refusal.Refusal.TheVariants.{ImageTooLong, NoNode}
use Rattle.of_refusal.specs.declared.refusal.Refusal.TheVariants as refusal
use Rattle.of_machine.specs.declared.answers.Progress.TheVariants.{Asks, Ended}
use Rattle.of_machine.specs.declared.answers.Progress.TheVariants as progress
use Rattle.of_machine.specs.States.{HasMoved, MachineState, RefusesBefore, Steps, answer_refusal, answered, can_step}
use Rattle.of_machine.specs.States.{fit_of, fit_refusal, instance_refusal, or_next, room_refusal}
use Rattle.of_machine.specs.States.{flat_machine, goes_on, idle, image_refusal, is_running, made_or_opened}
use Rattle.of_machine.specs.States.{moved, opened, question, served, start_refusal, tried}
use Rattle.of_machine.proofs.EventLemmas.{has_moved, made_is, made_quiet, made_runs}
use Rattle.of_machine.proofs.FirstLemmas.{first_images, first_opens}
use Rattle.of_machine.specs.Runs.{AreLater, AreUpto, Due, Feed, HasGone, IsCalm, IsOut, IsOver, IsTold}
use Rattle.of_machine.specs.declared.script_run.Advance.TheVariants as advance
use Rattle.of_machine.specs.Runs.{Advances, HasAdvanced, after, asking, caught_up}
use Rattle.of_machine.specs.Runs.{IsFed, clients_heard, fed, fed_by, fitting, line_left, next}
use Rattle.of_machine.specs.Runs.{next_answer, settled, told, turned}

-- ---- what is refused

-- an image that isn't too long finds room in an image region without images
fits_empty : (m : DataSpace) (n : ℕ) → m.images ≡ [] → nat_lt 0x40000 n ≡ false → image_fits m n ≡ true
fits_empty m n none short =
    let room : nat_le (0x60_0000 + n) 0x64_0000 ≡ true = grind (arith, nat_tests) in
    rw (none, room) refl

no_some : {A : Type 0} {x : A} → ◌≡◌ {A = Option A} (Some x) None → ⊥
no_some e = absurd cc

short_by : (image : List ℕ) (long : Bool) → nat_lt 0x40000 (length image) ≡ long
    → ◌≡◌ {A = Option Refusal} (if long then Some ImageTooLong else start_refusal (header_fault image)) None
    → long ≡ false
short_by image true e h = absurd (no_some h)
short_by image false e h = refl

-- an image that is accepted finds room on a new machine
pub fits_first : (image : List ℕ) → image_refusal image ≡ None
    → image_fits (flat_machine (idle no_definitions)).eval.board.memory (length image) ≡ true
fits_first image accepted =
    fits_empty first_board.memory (length image) first_images
    (short_by image (nat_lt 0x40000 (length image)) refl accepted)

-- so it is refused for memory alone on a new machine, whose instance finds room, too
pub first_refused : (image : List ℕ) (node : Phandle) (m : MachineState Coding) (e : Refusal)
    → m ≡ flat_machine (idle no_definitions) → image_refusal image ≡ None
    → RefusesBefore (fit_refusal m image) (or_next (fit_refusal m image) (instance_refusal m (Some node))) e
    → e ≡ refusal.NoMemory
first_refused image node m e is accepted why = by_reason (none image node m is accepted) why
  where
    none : (image : List ℕ) (node : Phandle) (m : MachineState Coding) → m ≡ flat_machine (idle no_definitions)
        → image_refusal image ≡ None
        → or_next (fit_refusal m image) (instance_refusal m (Some node)) ≡ None
    none image node m is accepted =
        let first = flat_machine (idle no_definitions) in
        ap (λ (x : MachineState Coding). or_next (fit_refusal x image) (instance_refusal x (Some node))) is
        ∙ ap (λ (b : Bool). or_next (room_refusal b) (instance_refusal first (Some node))) (fits_first image accepted)
        ∙ ap (λ (b : Bool). if b then None else Some NoNode) (first_opens node)

    by_reason : {first reason : Option Refusal} {e : Refusal} → reason ≡ None → RefusesBefore first reason e
        → e ≡ refusal.NoMemory
    by_reason n (inl f) = absurd (no (sym n ∙ f))
      where
        no : {e : Refusal} → None ≡ Some e → ⊥
        no g = cc
    by_reason n (inr x) = x.1

-- ---- clients

not_due : {S : Type 0} (m : MachineState S) (call : Due) (calls : List Due) (b : Bool) → nat_le call.0 m.steps ≡ b
    → m.steps < call.0
    → (if b then caught_up (served m call.1) calls else (m, call ∷ calls)) ≡ (m, call ∷ calls)
not_due m call calls true e later = absurd (omega (arith, leb-true call.0 m.steps e, later))
not_due m call calls false e later = refl

-- none is answered that is to be later
pub none_due : {S : Type 0} (m : MachineState S) (calls : List Due) → AreLater m.steps calls
    → caught_up m calls ≡ (m, calls)
none_due m [] later = refl
none_due m (call ∷ calls) later = not_due m call calls (nat_le call.0 m.steps) refl later

abbrev left_with : {S : Type 0} → Feed S → MachineState S × List Due → Feed S
left_with f x = record f { machine = x.0; calls = x.1 }

-- ---- lines

-- none is handed in while something runs, or where none is left
fed_so : (f : Feed Coding) → IsFed f → fed f ≡ f
fed_so f (inl runs) = ap (λ b. fed_by b f.lines f) runs
fed_so f (inr none) = ap (λ lines. fed_by (is_running f.machine) lines f) none ∙ nothing_left (is_running f.machine) f
  where
    nothing_left : (b : Bool) (f : Feed Coding) → fed_by b [] f ≡ f
    nothing_left true f = refl
    nothing_left false f = refl

-- the line that is handed in changes no count, no question and nothing that is left but the lines
record IsLined (f g : Feed Coding) : Type 0 where
  steps : g.machine.steps ≡ f.machine.steps
  waiting : g.machine.waiting ≡ f.machine.waiting
  asked : g.machine.asked ≡ f.machine.asked
  answers : g.answers ≡ f.answers
  calls : g.calls ≡ f.calls

lined_by : (b : Bool) (lines : List (List ℕ)) (f : Feed Coding) → IsLined f (fed_by b lines f)
lined_by true lines f = record { steps = refl; waiting = refl; asked = refl; answers = refl; calls = refl }
lined_by false [] f = record { steps = refl; waiting = refl; asked = refl; answers = refl; calls = refl }
lined_by false (line ∷ lines) f =
    record { steps = refl; waiting = refl; asked = refl; answers = refl; calls = refl }

lined_so : (f : Feed Coding) → IsLined f (fed f)
lined_so f = lined_by (is_running f.machine) f.lines f

-- and behind it something runs, or no line is left
pub fed_is : (f : Feed Coding) → IsFed (fed f)
fed_is f = by_case (is_running f.machine) f.lines f refl refl
  where
    by_case : (b : Bool) (lines : List (List ℕ)) (f : Feed Coding) → is_running f.machine ≡ b → f.lines ≡ lines
        → IsFed (fed_by b lines f)
    by_case true lines f e h = inl e
    by_case false [] f e h = inr h
    by_case false (line ∷ lines) f e h = inl refl

-- clients that are to be answered later still are
pub still_later : (f g : Feed Coding) → g ≡ fed f → AreLater f.machine.steps f.calls → AreLater g.machine.steps g.calls
still_later f g e later =
    let l = lined_so f in
    subst (λ (x : Feed Coding). AreLater x.machine.steps x.calls) (sym e)
    (subst (λ n. AreLater n (fed f).calls) (sym l.steps)
    (subst (λ calls. AreLater f.machine.steps calls) (sym l.calls) later))

pub settled_is : (f g : Feed Coding) → g ≡ settled f → IsFed g
settled_is f g e = subst (λ x. IsFed x) (sym e) (fed_is (clients_heard f))

pub rests : (f : Feed Coding) → AreLater f.machine.steps f.calls → IsFed f → settled f ≡ f
rests f later full = ap (λ x. fed (left_with f x)) (none_due f.machine f.calls later) ∙ fed_so f full

-- one that is to be answered now is
one_due : (m : MachineState Coding) (call : Due) (calls : List Due) (b : Bool) → nat_le call.0 m.steps ≡ b
    → call.0 ≤ m.steps
    → (if b then caught_up (served m call.1) calls else (m, call ∷ calls)) ≡ caught_up (served m call.1) calls
one_due m call calls true e due = refl
one_due m call calls false e due = absurd (omega (arith, leb-false call.0 m.steps e, due))

pub answers_one : (f g : Feed Coding) (call : Due) (calls : List Due) → f.calls ≡ call ∷ calls
    → call.0 ≤ f.machine.steps → g ≡ record f { machine = served f.machine call.1; calls = calls }
    → settled f ≡ settled g
answers_one f g call calls e due same =
    ap (λ x. fed (left_with f (caught_up f.machine x))) e
    ∙ ap (λ x. fed (left_with f x)) (one_due f.machine call calls (nat_le call.0 f.machine.steps) refl due)
    ∙ ap settled (sym same)

-- clients see the machine as it was, but for their replies
same_machine : (m : MachineState Coding) (calls : List Due)
    → (caught_up m calls).0 ≡ record m { replies = (caught_up m calls).0.replies }
same_machine m [] = refl
same_machine m (call ∷ calls) = same_if (nat_le call.0 m.steps) m call calls (same_machine (served m call.1) calls)
  where
    same_if : (b : Bool) (m : MachineState Coding) (call : Due) (calls : List Due)
        → (caught_up (served m call.1) calls).0
        ≡ record m { replies = (caught_up (served m call.1) calls).0.replies }
        → (if b then caught_up (served m call.1) calls else (m, call ∷ calls)).0
        ≡ record m {
          replies = (if b then caught_up (served m call.1) calls else (m, call ∷ calls)).0.replies;
        }
    same_if true m call calls h = h
    same_if false m call calls h = refl

pub same_steps : (f g : Feed Coding) → g ≡ settled f → g.machine.steps ≡ f.machine.steps
same_steps f g e =
    ap (λ (x : Feed Coding). x.machine.steps) e ∙ (lined_so (clients_heard f)).steps
    ∙ ap (λ (m : MachineState Coding). m.steps) (same_machine f.machine f.calls)

pub same_waiting : (f g : Feed Coding) → g ≡ settled f → g.machine.waiting ≡ f.machine.waiting
same_waiting f g e =
    ap (λ (x : Feed Coding). x.machine.waiting) e ∙ (lined_so (clients_heard f)).waiting
    ∙ ap (λ (m : MachineState Coding). m.waiting) (same_machine f.machine f.calls)

pub same_asked : (f g : Feed Coding) → g ≡ settled f → g.machine.asked ≡ f.machine.asked
same_asked f g e =
    ap (λ (x : Feed Coding). x.machine.asked) e ∙ (lined_so (clients_heard f)).asked
    ∙ ap (λ (m : MachineState Coding). m.asked) (same_machine f.machine f.calls)

pub same_answers : (f g : Feed Coding) → g ≡ settled f → g.answers ≡ f.answers
same_answers f g e = ap (λ (x : Feed Coding). x.answers) e ∙ (lined_so (clients_heard f)).answers

-- ---- runs over cells

abbrev at : Feed Coding → State Coding → ℕ → Feed Coding
at f s n = record f { machine = record f.machine { eval = s; steps = n } }

-- a turn from a feed with no question open
pub turn : (f : Feed Coding) → can_step f.machine ≡ true → f.machine.waiting ≡ None
    → next flat_calls f ≡ turned flat_calls (asked_by flat_calls f.machine.eval) f
unfolding next
turn f can none = rw (can, none) refl

-- one step more
turn_made : (f : Feed Coding) (n : ℕ) (s t : State Coding) → f.machine.waiting ≡ None → n < 2 ^ 64 - 1
    → made flat_calls s ≡ Some t → settled (at f t (n + 1)) ≡ next flat_calls (at f s n)
turn_made f n s t none less e =
    let counts : nat_lt n (2 ^ 64 - 1) ≡ true = grind (arith, nat_tests) in
    let can : can_step (at f s n).machine ≡ true
    = ap (λ b. b && nat_lt n (2 ^ 64 - 1)) (made_runs s t e) ∙ counts in
    ap (λ u. settled (at f u (n + 1))) (sym (made_is s t e))
    ∙ sym (ap (λ o. turned flat_calls o (at f s n)) (made_quiet s t e))
    ∙ sym (turn (at f s n) can none)

-- after those before
turn_after : (f : Feed Coding) (n : ℕ) (g : Feed Coding) (o : Option (State Coding)) (t : State Coding)
    → ((u : State Coding) → o ≡ Some u → settled (at f u n) ≡ g) → f.machine.waiting ≡ None
    → AreLater n f.calls → n < 2 ^ 64 - 1 → option_and_then (made flat_calls) o ≡ Some t
    → settled (at f t (n + 1)) ≡ next flat_calls g
turn_after f n g None t before none later less h = cc
turn_after f n g (Some u) t before none later less h =
    turn_made f n u t none less h
    ∙ ap (next flat_calls) (sym (rests (at f u n) later (inl (made_runs u t h))) ∙ before u refl)

before_it : (n k : ℕ) (calls : List Due) → AreUpto (n + suc k) calls → AreLater (n + k) calls
before_it n k [] h = tt
before_it n k (call ∷ calls) h = omega (arith, h)

one_less : (n k : ℕ) (calls : List Due) → AreUpto (n + suc k) calls → AreUpto (n + k) calls
one_less n k [] h = tt
one_less n k (call ∷ calls) h = omega (arith, h)

-- so many steps, before which no client is to be answered, are as many turns
turns_made : (f : Feed Coding) (k n : ℕ) (s t : State Coding) → f.machine.waiting ≡ None → n + k < 2 ^ 64
    → AreUpto (n + k) f.calls → steps_from flat_calls k s ≡ Some t
    → settled (at f t (n + k)) ≡ after flat_calls k (settled (at f s n))
unfolding steps_from after
turns_made f zero n s t none few upto h =
    let same : n + 0 ≡ n = omega arith in
    ap (λ u. settled (at f u (n + 0))) (sym (same_Some _ _ h)) ∙ ap (λ k. settled (at f s k)) same
turns_made f (suc k) n s t none few upto h =
    let more : n + suc k ≡ n + k + 1 = omega arith in
    ap (λ k. settled (at f t k)) more
    ∙ turn_after f (n + k) (after flat_calls k (settled (at f s n))) (steps_from flat_calls k s) t
    (λ u e. turns_made f k n s u none (omega (arith, few)) (one_less n k f.calls upto) e) none
    (before_it n k f.calls upto) (omega (arith, few)) h

-- turns and then others
pub turns_joined : (n k : ℕ) (f : Feed Coding) → after flat_calls k (after flat_calls n f) ≡ after flat_calls (n + k) f
unfolding after
turns_joined n zero f = let none : n + 0 ≡ n = omega arith in ap (λ k. after flat_calls k f) (sym none)
turns_joined n (suc k) f =
    let more : suc (n + k) ≡ n + suc k = omega arith in
    ap (next flat_calls) (turns_joined n k f) ∙ ap (λ k. after flat_calls k f) more

one_turn : (k : ℕ) (f : Feed Coding) → after flat_calls (k + 1) f ≡ next flat_calls (after flat_calls k f)
unfolding after
one_turn k f = rw add-one refl

-- ---- a round

-- steps that ask nothing, up to a client
pub went : (f g : Feed Coding) (m : MachineState Coding) → IsCalm f → HasMoved f.machine m → m.steps < 2 ^ 64
    → AreUpto m.steps f.calls → g ≡ record f { machine = m }
    → after flat_calls (m.steps - f.machine.steps) f ≡ settled g
went f g m calm moves few upto same =
    let k = m.steps - f.machine.steps in
    let n = f.machine.steps in
    let sum : n + k ≡ m.steps = omega (arith, moves.0) in
    let turns = turns_made f k n f.machine.eval m.eval calm.1 (omega (arith, sum, few))
    (subst (λ x. AreUpto x f.calls) (sym sum) upto) moves.1 in
    ap (after flat_calls k) (sym (rests f calm.0 calm.2))
    ∙ sym turns
    ∙ ap (λ x. settled (at f m.eval x)) sum
    ∙ ap (λ x. settled (record f { machine = x })) (sym (has_moved f.machine m moves))
    ∙ ap settled (sym same)

pub still_none : (f : Feed Coding) (m : MachineState Coding) → IsCalm f → HasMoved f.machine m → m.waiting ≡ None
still_none f m calm moves = moves.4 ∙ calm.1

-- before a client that isn't reached
pub later_than : (n until : ℕ) (calls : List Due) → AreUpto until calls → n < until → AreLater n calls
later_than n until [] upto less = tt
later_than n until (call ∷ calls) upto less = omega (arith, upto, less)

pub fewer_upto : (n until : ℕ) (calls : List Due) → AreUpto until calls → n ≤ until → AreUpto n calls
fewer_upto n until [] upto less = tt
fewer_upto n until (call ∷ calls) upto less = omega (arith, upto, less)

-- the turn of a step that asks
pub asks_then : (f : Feed Coding) (q : Query) (o : Option Answer) → can_step f.machine ≡ true
    → f.machine.waiting ≡ None → asked_by flat_calls f.machine.eval ≡ Some q → fitting q f.answers ≡ o
    → next flat_calls f ≡ told flat_calls o (asking q f)
asks_then f q o can none asks fit =
    turn f can none ∙ ap (λ x. turned flat_calls x f) asks ∙ ap (λ x. told flat_calls x (asking q f)) fit

-- ---- the next answer

fits_by : (b : Bool) (answer : Answer) → fit_of b ≡ None
    → ◌≡◌ {A = Option Answer} (if b then Some answer else None) (Some answer)
fits_by true answer h = refl
fits_by false answer h = cc

-- one that isn't refused is the next
pub is_next : (o : Option Query) (answer : Answer) (all rest : List Answer) → all ≡ answer ∷ rest
    → answer_refusal o answer ≡ None → next_answer o all ≡ Some answer
is_next None answer all rest e h = cc
is_next (Some q) answer all rest e h = ap (fitting q) e ∙ fits_by (fits q answer) answer h

pub is_told : (f g new : Feed Coding) (m : MachineState Coding) (answer : Answer) (rest : List Answer)
    → f.answers ≡ answer ∷ rest → answer_refusal f.machine.waiting answer ≡ None
    → m ≡ answered flat_calls answer f.machine → g ≡ record f { machine = m; answers = rest } → new ≡ settled g
    → AreLater new.machine.steps new.calls → IsTold f new
is_told f g new m answer rest split accepted moved same e later =
    let left : rest ≡ drop 1 f.answers = sym (ap (drop 1) split) in (
      answer,
      is_next f.machine.waiting answer f.answers rest split accepted,
      e ∙ ap settled
          (same ∙ ap (λ x. record f { machine = x; answers = rest }) moved
          ∙ ap (λ x. record f { machine = answered flat_calls answer f.machine; answers = x }) left),
      (
        later,
        same_waiting g new e ∙ ap (λ (x : Feed Coding). x.machine.waiting) same
            ∙ ap (λ (x : MachineState Coding). x.waiting) moved,
        settled_is g new e,
      ),
    )

-- behind steps that ask nothing
pub turn_behind : (f g n : Feed Coding) (k : ℕ) → after flat_calls k f ≡ g → next flat_calls g ≡ n
    → after flat_calls (k + 1) f ≡ n
turn_behind f g n k before e = one_turn k f ∙ ap (next flat_calls) before ∙ e

-- a step that asks, where no question is open
opens : (m n : MachineState Coding) (q : Query) → m.waiting ≡ None → Steps (Asks q) m n
    → (asked_by flat_calls m.eval ≡ Some q) × (n ≡ opened q m)
opens m n q none s =
    let asks : asked_by flat_calls m.eval ≡ Some q = ap (λ o. question flat_calls o m) (sym none) ∙ s.1 in (
      asks,
      s.2 ∙ ap (λ o. tried flat_calls o m) none ∙ ap (λ o. made_or_opened flat_calls o m) asks,
    )

-- ---- an advance

-- up to a client, or to the limit
pub reaches : (f g new : Feed Coding) (m : MachineState Coding) (until : ℕ) → IsCalm f → HasMoved f.machine m
    → m.steps < 2 ^ 64 → m.steps ≡ until → AreUpto until f.calls → g ≡ record f { machine = m } → new ≡ settled g
    → AreLater new.machine.steps new.calls → HasAdvanced f new × (new.machine.steps ≡ until)
reaches f g new m until calm moves few at upto same e later =
    let made : new.machine.steps ≡ m.steps =
    same_steps g new e ∙ ap (λ (x : Feed Coding). x.machine.steps) same in (
      (
        (
          omega (arith, moves.0, made),
          ap (λ n. after flat_calls (n - f.machine.steps) f) made
              ∙ went f g m calm moves few (subst (λ n. AreUpto n f.calls) (sym at) upto) same ∙ sym e,
          (
            later,
            same_waiting g new e ∙ ap (λ (x : Feed Coding). x.machine.waiting) same ∙ still_none f m calm moves,
            settled_is g new e,
          ),
        ),
        same_asked g new e ∙ ap (λ (x : Feed Coding). x.machine.asked) same ∙ moves.3,
        same_answers g new e ∙ ap (λ (x : Feed Coding). x.answers) same,
      ),
      made ∙ at,
    )

-- steps that ask nothing, before a client that isn't reached, while something runs
pub goes : (f : Feed Coding) (m : MachineState Coding) (until : ℕ) → IsCalm f → HasMoved f.machine m → m.steps < 2 ^ 64
    → m.steps < until → AreUpto until f.calls → is_running m ≡ true → HasAdvanced f (record f { machine = m })
goes f m until calm moves few less upto runs =
    let g : Feed Coding = record f { machine = m } in (
      (
        moves.0,
        went f g m calm moves few (fewer_upto m.steps until f.calls upto (omega (arith, less))) refl
            ∙ rests g (later_than m.steps until f.calls upto less) (inl runs),
        (later_than m.steps until f.calls upto less, still_none f m calm moves, inl runs),
      ),
      moves.3,
      refl,
    )

-- and then one that asks
pub asks_behind : (f new : Feed Coding) (m n : MachineState Coding) (q : Query) (until limit : ℕ) → IsCalm f
    → HasMoved f.machine m → m.steps < 2 ^ 64 → m.steps < until → until ≤ limit → AreUpto until f.calls
    → Steps (Asks q) m n → new ≡ record f { machine = n } → Advances limit (advance.Asks q) f new
asks_behind f new m n q until limit calm moves few less within upto asks same =
    let so = opens m n q (still_none f m calm moves) asks in (
      record f { machine = m },
      goes f m until calm moves few less upto (and_parts (is_running m) (nat_lt m.steps (2 ^ 64 - 1)) asks.0).0,
      omega (arith, less, within),
      asks.0,
      so.0,
      same ∙ ap (λ x. record f { machine = x }) so.1,
    )

-- or none that can be made
pub stands : (f new : Feed Coding) (m n : MachineState Coding) (until limit : ℕ) → IsCalm f → HasMoved f.machine m
    → m.steps < 2 ^ 64 → m.steps < until → until ≤ limit → AreUpto until f.calls → is_running m ≡ true
    → Steps Ended m n → new ≡ record f { machine = n } → Advances limit advance.Over f new
stands f new m n until limit calm moves few less within upto runs ended same =
    let last : new ≡ record f { machine = m } = same ∙ ap (λ x. record f { machine = x }) ended.1 in
    let made : new.machine.steps ≡ m.steps = ap (λ (x : Feed Coding). x.machine.steps) last in (
      subst (λ x. HasAdvanced f x) (sym last) (goes f m until calm moves few less upto runs),
      omega (arith, made, less, within),
      inr (ap (λ (x : Feed Coding). can_step x.machine) last ∙ ended.0),
    )

-- where something ran, and nothing runs now, a step was made
same_runs : (m n : MachineState Coding) → steps_from flat_calls 0 m.eval ≡ Some n.eval → is_running n ≡ is_running m
unfolding steps_from
same_runs m n e = ap (λ (s : State Coding). s.flow.is_running) (sym (same_Some _ _ e))

pub some_made : (m n : MachineState Coding) → HasMoved m n → is_running m ≡ true → is_running n ≡ false
    → m.steps < n.steps
some_made m n moves runs idle = by_case (nat_lt m.steps n.steps) refl
  where
    by_case : (b : Bool) → nat_lt m.steps n.steps ≡ b → m.steps < n.steps
    by_case true e = omega (arith, leb-true (suc m.steps) n.steps e)
    by_case false e =
        let none : n.steps - m.steps ≡ 0 = omega (arith, leb-false (suc m.steps) n.steps e, moves.0) in
        let same = same_runs m n (ap (λ k. steps_from flat_calls k m.eval) (sym none) ∙ moves.1) in
        absurd (false≢true (sym idle ∙ same ∙ runs))

-- nothing runs, before a client that isn't reached: where a line was left, the run goes on with it
next_line : (f g new : Feed Coding) (m : MachineState Coding) (until limit : ℕ) → IsCalm f → HasMoved f.machine m
    → m.steps < 2 ^ 64 → m.steps < until → until ≤ limit → AreUpto until f.calls → is_running m ≡ false
    → g ≡ record f { machine = m } → new ≡ settled g → AreLater new.machine.steps new.calls
    → (f.lines ≡ [] → ⊥) → Advances limit advance.Further f new
next_line f g new m until limit calm moves few less within upto idle same e later some =
    let there =
    reaches f g new m m.steps calm moves few refl (fewer_upto m.steps until f.calls upto (omega (arith, less))) same e
    later in
    let more : f.machine.steps < m.steps =
    elim calm.2 [ inl runs ↦ some_made f.machine m moves runs idle | inr none ↦ absurd (some none) ] in
    (there.0, omega (arith, there.1, more), omega (arith, there.1, less, within))

-- and where none was, it is over
no_line : (f g new : Feed Coding) (m : MachineState Coding) (until limit : ℕ) → IsCalm f → HasMoved f.machine m
    → m.steps < 2 ^ 64 → m.steps < until → until ≤ limit → AreUpto until f.calls → is_running m ≡ false
    → g ≡ record f { machine = m } → new ≡ settled g → AreLater new.machine.steps new.calls → f.lines ≡ []
    → Advances limit advance.Over f new
no_line f g new m until limit calm moves few less within upto idle same e later none =
    let there =
    reaches f g new m m.steps calm moves few refl (fewer_upto m.steps until f.calls upto (omega (arith, less))) same e
    later in
    let left : g.lines ≡ [] = ap (λ (x : Feed Coding). x.lines) same ∙ none in
    let still : new ≡ g =
    e ∙ rests g
    (subst (λ (x : Feed Coding). AreLater x.machine.steps x.calls) (sym same)
    (later_than m.steps until f.calls upto less)) (inr left) in
    let idles : is_running new.machine ≡ false =
    ap (λ (x : Feed Coding). is_running x.machine) (still ∙ same) ∙ idle in (
      there.0,
      omega (arith, there.1, less, within),
      inr (ap (λ b. b && nat_lt new.machine.steps (2 ^ 64 - 1)) idles),
    )

pub goes_idle : (f g new : Feed Coding) (m : MachineState Coding) (until limit : ℕ) → IsCalm f → HasMoved f.machine m
    → m.steps < 2 ^ 64 → m.steps < until → until ≤ limit → AreUpto until f.calls → is_running m ≡ false
    → g ≡ record f { machine = m } → new ≡ settled g → AreLater new.machine.steps new.calls
    → Advances limit (line_left f.lines) f new
goes_idle f g new m until limit calm moves few less within upto idle same e later = by_lines f.lines refl
  where
    by_lines : (lines : List (List ℕ)) → f.lines ≡ lines → Advances limit (line_left lines) f new
    by_lines [] h = no_line f g new m until limit calm moves few less within upto idle same e later h
    by_lines (line ∷ lines) h =
        next_line f g new m until limit calm moves few less within upto idle same e later
        (λ none. let is : [] ≡ line ∷ lines = sym none ∙ h in absurd cc)

-- a question with its answer
pub told_on : (f g new : Feed Coding) (q : Query) (limit : ℕ) → Advances limit (advance.Asks q) f g → IsTold g new
    → HasGone f new × (f.machine.steps < new.machine.steps) × (new.machine.steps ≤ limit)
told_on f g new q limit asks told_so =
    let h = asks.0 in
    let gone : HasGone f h = asks.1.0 in
    let answer = told_so.0 in
    let fit : fitting q h.answers ≡ Some answer =
    ap (λ (x : Feed Coding). next_answer x.machine.waiting x.answers) (sym asks.5) ∙ told_so.1 in
    let turned_so : next flat_calls h ≡ new =
    asks_then h q (Some answer) asks.3 gone.2.1 asks.4 fit ∙ ap (told flat_calls (Some answer)) (sym asks.5)
    ∙ sym told_so.2 in
    let with_it : Feed Coding =
    record g { machine = answered flat_calls answer g.machine; answers = drop 1 g.answers } in
    let made : new.machine.steps ≡ h.machine.steps + 1 =
    same_steps with_it new told_so.2 ∙ ap (λ (x : Feed Coding). x.machine.steps + 1) asks.5 in
    let k : h.machine.steps - f.machine.steps + 1 ≡ new.machine.steps - f.machine.steps =
    omega (arith, made, gone.0) in (
      (
        omega (arith, made, gone.0),
        ap (λ x. after flat_calls x f) (sym k)
            ∙ turn_behind f h new (h.machine.steps - f.machine.steps) gone.1 turned_so,
        told_so.3,
      ),
      omega (arith, made, gone.0),
      omega (arith, made, asks.2),
    )

-- or without one
pub out_on : (f g new : Feed Coding) (q : Query) (limit : ℕ) → Advances limit (advance.Asks q) f g → IsOut g new
    → IsOver limit f new
out_on f g new q limit asks out =
    let h = asks.0 in
    let gone : HasGone f h = asks.1.0 in
    let fit : fitting q h.answers ≡ None =
    ap (λ (x : Feed Coding). next_answer x.machine.waiting x.answers) (sym asks.5) ∙ out.0 in
    let last : new ≡ asking q h = out.1 ∙ asks.5 in
    let turned_so : next flat_calls h ≡ new = asks_then h q None asks.3 gone.2.1 asks.4 fit ∙ sym last in
    let made : new.machine.steps ≡ h.machine.steps = ap (λ (x : Feed Coding). x.machine.steps) last in
    let k : h.machine.steps - f.machine.steps + 1 ≡ new.machine.steps - f.machine.steps + 1 =
    omega (arith, made, gone.0) in
    inr (
      omega (arith, made, gone.0),
      omega (arith, made, asks.2),
      ap (λ (x : Feed Coding). is_some x.machine.waiting) last,
      ap (λ x. after flat_calls x f) (sym k)
          ∙ turn_behind f h new (h.machine.steps - f.machine.steps) gone.1 turned_so,
    )

-- so many steps can be made at least as were
pub until_after : (n until limit : ℕ) → n ≤ limit → until ≤ limit → (until < limit → n < until) → n ≤ until
until_after n until limit few upto due = by_case (nat_lt until limit) refl
  where
    by_case : (b : Bool) → nat_lt until limit ≡ b → n ≤ until
    by_case true e = omega (arith, due (leb-true (suc until) limit e))
    by_case false e = omega (arith, leb-false (suc until) limit e, few)

-- where fewer steps were made than could be, none is made now
pub rests_so : (m : MachineState Coding) (n until : ℕ) → n ≤ until
    → (m.steps ≡ n + (until - n)) ⊎ (goes_on flat_calls m ≡ false) → m.steps < until → goes_on flat_calls m ≡ false
rests_so m n until upto (inl e) less = absurd (omega (arith, upto, e, less))
rests_so m n until upto (inr e) less = e

pub if_so : {E : Type 0} (r : Result Bool E) (P Q : Bool → Type 0) → ((b : Bool) → P b → Q b) → IfOk r P → IfOk r Q
if_so (Ok b) P Q f h = f b h
if_so (Err e) P Q f h = tt

-- a step isn't made where it was said that none is
pub not_made : (m n : MachineState Coding) → goes_on flat_calls m ≡ false → Steps progress.Done m n → ⊥
not_made m n stays made =
    false≢true
    (sym stays ∙ ap (λ b. b && is_none (question flat_calls m.waiting m)) made.0 ∙ ap (λ o. is_none o) made.1)

-- ---- rounds

pub none_gone : (f : Feed Coding) → IsCalm f → HasGone f f
unfolding after
none_gone f calm =
    let none : f.machine.steps - f.machine.steps ≡ 0 = omega arith in
    (omega arith, ap (λ n. after flat_calls n f) none, calm)

sums : (a b c : ℕ) → a ≤ b → b ≤ c → (b - a) + (c - b) ≡ c - a
sums a b c ab bc = omega (arith, ab, bc)

pub gone_on : (f g h : Feed Coding) → HasGone f g → HasGone g h → HasGone f h
gone_on f g h before behind =
    let k = g.machine.steps - f.machine.steps in
    let l = h.machine.steps - g.machine.steps in
    let sum : k + l ≡ h.machine.steps - f.machine.steps
    = sums f.machine.steps g.machine.steps h.machine.steps before.0 behind.0 in (
      omega (arith, before.0, behind.0),
      ap (λ n. after flat_calls n f) (sym sum) ∙ sym (turns_joined k l f)
          ∙ ap (after flat_calls l) before.1 ∙ behind.1,
      behind.2,
    )

pub over_behind : (limit : ℕ) (f g h : Feed Coding) → HasGone f g → IsOver limit g h → IsOver limit f h
over_behind limit f g h before (inl x) = inl (gone_on f g h before x.0, x.1, x.2)
over_behind limit f g h before (inr x) =
    let k = g.machine.steps - f.machine.steps in
    let l = h.machine.steps - g.machine.steps in
    let sum : k + (l + 1) ≡ h.machine.steps - f.machine.steps + 1 =
    omega (arith, sums f.machine.steps g.machine.steps h.machine.steps before.0 x.0) in
    inr (
      omega (arith, before.0, x.0),
      x.1,
      x.2,
      ap (λ n. after flat_calls n f) (sym sum) ∙ sym (turns_joined k (l + 1) f)
          ∙ ap (after flat_calls (l + 1)) before.1 ∙ x.3,
    )
