-- What stepping calls come to.
use Rattle.std.proofs.Common.{◌≡◌, ℕ, suc, ◌+◌, ◌-◌, ◌<◌, ◌≤◌, Bool, true, false, List, Result, Ok, Err, refl, sym}
use Rattle.std.proofs.Common.{ap, subst, ◌∙◌, inl, inr, add-one, arith}
use Rattle.std.proofs.lemmas.Bool.Decides.{nat_tests}
use Rattle.std.specs.Prelude.{⊤, ◌||◌, if◌then◌else◌}
use Rattle.of_compile.specs.Coding.{Coding}
use Rattle.of_machine.specs.Runs.{Feed, settled}
use Rattle.of_state.specs.State.{flat_calls}
use Rattle.of_debug.specs.declared.fault.DebugFault.{DebugFault}
use Rattle.of_debug.specs.declared.fault.DebugFault.TheVariants as fault
use Rattle.of_steps.specs.declared.goals.Goal.{Goal}
use Rattle.of_steps.specs.declared.marks.Mark.{Mark}
use Rattle.of_debug.proofs.FeedLemmas.{settled_steps}
use Rattle.of_debug.proofs.TurnLemmas.{grows_at, settled_at, settled_turn, steps_at}
use Rattle.of_machine.specs.Refused.{HasDue}
use Rattle.of_debug.specs.Stepping.{Advances, Breaks, Comes, IsRefused, has_stayed, is_there, onwards}
use Rattle.of_debug.specs.Stepping.{until}
use Rattle.of_debug.specs.Turns.{IsAt, Shows, between, run, turn}

-- ---- runs

pub run_one : (n : ℕ) (s : Feed Coding) → turn flat_calls (run flat_calls n s) ≡ run flat_calls (n + 1) s
unfolding run
run_one n s = rw add-one refl

pub run_none : (s : Feed Coding) → run flat_calls 0 s ≡ s
unfolding run
run_none s = refl

-- a feed of a run, by how many steps were made
pub shows_so : (n : ℕ) (s f : Feed Coding) → f.machine.steps ≡ s.machine.steps + n → IsAt (run flat_calls n s) f
    → Shows s f
shows_so n s f steps at =
    let same : n ≡ between s f = omega (arith, steps) in
    (omega (arith, steps), subst (λ k. IsAt (run flat_calls k s) f) same at)

-- ---- up to a goal

pub until_none : (marks : List Mark) (goal : Goal) (f : Feed Coding) → until marks goal 0 f ≡ f
unfolding until
until_none marks goal f = refl

until_suc : (marks : List Mark) (goal : Goal) (n : ℕ) (f : Feed Coding)
    → until marks goal (suc n) f ≡ onwards marks goal (until marks goal n) f (turn flat_calls f)
unfolding until
until_suc marks goal n f = refl

until_one : (marks : List Mark) (goal : Goal) (n i : ℕ) (f g : Feed Coding) → g ≡ turn flat_calls f → i < n
    → until marks goal (n - i) f ≡ onwards marks goal (until marks goal (n - (i + 1))) f g
until_one marks goal n i f g e less =
    let k : n - i ≡ suc (n - (i + 1)) = omega (arith, less) in
    ap (λ j. until marks goal j f) k ∙ until_suc marks goal (n - (i + 1)) f
    ∙ ap (onwards marks goal (until marks goal (n - (i + 1))) f) (sym e)

onwards_to : (stays there : Bool) (more : Feed Coding → Feed Coding) (g : Feed Coding) → stays || there ≡ true
    → (if stays || there then g else more g) ≡ g
onwards_to stays there more g e = ap (λ b. if b then g else more g) e

-- the goal is reached by a step
pub until_there : (marks : List Mark) (goal : Goal) (n i : ℕ) (f g : Feed Coding) → g ≡ turn flat_calls f
    → is_there marks goal g.machine ≡ true → i < n → until marks goal (n - i) f ≡ g
until_there marks goal n i f g e there less =
    until_one marks goal n i f g e less
    ∙ onwards_to (has_stayed f g) (is_there marks goal g.machine) (until marks goal (n - (i + 1))) g
    (or_right (has_stayed f g) there)
  where
    or_right : (a : Bool) {b : Bool} → b ≡ true → a || b ≡ true
    or_right true e = refl
    or_right false e = e

-- no step can be made
pub until_stops : (marks : List Mark) (goal : Goal) (n i : ℕ) (f g : Feed Coding) → g ≡ turn flat_calls f
    → g.machine.steps ≡ f.machine.steps → i < n → until marks goal (n - i) f ≡ g
until_stops marks goal n i f g e same less =
    let stays : has_stayed f g ≡ true = grind (arith, nat_tests) in
    until_one marks goal n i f g e less
    ∙ onwards_to (has_stayed f g) (is_there marks goal g.machine) (until marks goal (n - (i + 1))) g
    (ap (λ b. b || is_there marks goal g.machine) stays)

-- a step goes on to the goal
pub until_goes : (marks : List Mark) (goal : Goal) (n i : ℕ) (f g : Feed Coding) → g ≡ turn flat_calls f
    → g.machine.steps ≡ f.machine.steps + 1 → is_there marks goal g.machine ≡ false → i < n
    → until marks goal (n - i) f ≡ until marks goal (n - (i + 1)) g
until_goes marks goal n i f g e more there less =
    let goes : has_stayed f g ≡ false = grind (arith, nat_tests) in
    until_one marks goal n i f g e less
    ∙ ap (λ b. if b then g else until marks goal (n - (i + 1)) g)
    (ap (λ b. b || is_there marks goal g.machine) goes ∙ there)

until_rest : (marks : List Mark) (goal : Goal) (n i : ℕ) (f : Feed Coding) → n ≤ i → until marks goal (n - i) f ≡ f
until_rest marks goal n i f full =
    let none : n - i ≡ 0 = omega (arith, full) in
    ap (λ j. until marks goal j f) none ∙ until_none marks goal f

-- what a call answers that stops behind so many steps
pub comes_to : (marks : List Mark) (goal : Goal) (n k : ℕ) (old new : Feed Coding) (r : Result ⊤ DebugFault)
    → new ≡ until marks goal n old → new.machine.steps ≡ old.machine.steps + k → Comes k r
    → Advances marks goal n old new r
comes_to marks goal n k old new (Ok u) e m some = (e, omega (arith, m, some))
comes_to marks goal n k old new (Err fault.Idle) e m none = (e, omega (arith, m, none.1))
comes_to marks goal n k old new (Err fault.NoMemory) e m none = absurd cc
comes_to marks goal n k old new (Err fault.NoWord) e m none = absurd cc
comes_to marks goal n k old new (Err fault.NoItem) e m none = absurd cc
comes_to marks goal n k old new (Err fault.TooMany) e m none = absurd cc

-- all the steps were made
pub all_made : (marks : List Mark) (goal : Goal) (n i : ℕ) (old new : Feed Coding) (r : Result ⊤ DebugFault)
    → until marks goal n old ≡ until marks goal (n - i) new → new.machine.steps ≡ old.machine.steps + i → n ≤ i
    → i ≤ n → Comes n r → Advances marks goal n old new r
all_made marks goal n i old new r e m least most c =
    let full : i ≡ n = omega (arith, least, most) in
    comes_to marks goal n n old new r (sym (e ∙ until_rest marks goal n i new least))
    (m ∙ ap (λ k. old.machine.steps + k) full) c

-- no more can be made
pub none_made : (marks : List Mark) (goal : Goal) (n i : ℕ) (old f new : Feed Coding) (r : Result ⊤ DebugFault)
    → until marks goal n old ≡ until marks goal (n - i) f → f.machine.steps ≡ old.machine.steps + i
    → new ≡ turn flat_calls f → new.machine.steps ≡ f.machine.steps → i < n → Comes i r
    → Advances marks goal n old new r
none_made marks goal n i old f new r e m turned same less c =
    comes_to marks goal n i old new r (sym (e ∙ until_stops marks goal n i f new turned same less)) (same ∙ m) c

-- ---- where memory was refused

last_turn : (b : Bool) (marks : List Mark) (goal : Goal) (g : Feed Coding)
    → (if b then g else until marks goal 0 g) ≡ g
last_turn true marks goal g = refl
last_turn false marks goal g = until_none marks goal g

-- up to one step is a turn
pub until_turn : (marks : List Mark) (goal : Goal) (f : Feed Coding) → until marks goal 1 f ≡ turn flat_calls f
until_turn marks goal f =
    let g = turn flat_calls f in
    until_suc marks goal 0 f ∙ last_turn (has_stayed f g || is_there marks goal g.machine) marks goal g

-- what was made so far leads on under every bound; so the call has come as far as one that is bound by it
pub breaks_refused : (marks : List Mark) (goal : Goal) (most i : ℕ) (old f g : Feed Coding)
    → ((b : ℕ) → i ≤ b → until marks goal b old ≡ until marks goal (b - i) f)
    → f.machine.steps ≡ old.machine.steps + i → i < most → settled f ≡ f → Breaks f g
    → IsRefused marks goal most old g
breaks_refused marks goal most i old f g leads steps less full (inl (at, grows)) =
    let none : i - i ≡ 0 = omega arith in
    let here : until marks goal i old ≡ f =
    leads i (omega arith) ∙ ap (λ j. until marks goal j f) none ∙ until_none marks goal f in record {
      made = i;
      few = omega (arith, less);
      at =
          subst (λ x. IsAt (until marks goal i old) x) (sym (settled_at f g at full))
          (subst (λ x. IsAt x g) (sym here) at);
      steps = steps_at f g at ∙ steps;
      grows = inr (grows_at f g at grows);
    }
breaks_refused marks goal most i old f g leads steps less full (inr (there, more, due)) =
    let one : i + 1 - i ≡ 1 = omega arith in
    let next : until marks goal (i + 1) old ≡ turn flat_calls f =
    leads (i + 1) (omega arith) ∙ ap (λ j. until marks goal j f) one ∙ until_turn marks goal f in record {
      made = i + 1;
      few = omega (arith, less);
      at = inl (there ∙ sym next);
      steps = omega (arith, more, steps);
      grows = inl due;
    }

-- at first nothing is made, and a call leads where it leads
pub leads_first : (marks : List Mark) (goal : Goal) (b : ℕ) (f : Feed Coding)
    → until marks goal b f ≡ until marks goal (b - 0) f
leads_first marks goal b f = let same : b ≡ b - 0 = omega arith in ap (λ j. until marks goal j f) same

-- a call that goes on, turn by turn
pub ruleset advances =
    (run_none, run_one, until_there, until_goes, none_made, all_made, settled_turn)

-- ---- what is handed in before

-- handing in again does the rest
pub shows_itself : (s : Feed Coding) → Shows s s
shows_itself s =
    shows_so 0 s s (omega arith) (inl (sym (run_none s)))

-- what is due before a call wasn't all handed in: no step was made
pub settle_refused : (marks : List Mark) (goal : Goal) (n : ℕ) (f g : Feed Coding) → settled g ≡ settled f
    → g.machine.steps ≡ f.machine.steps → HasDue g → IsRefused marks goal n (settled f) g
settle_refused marks goal n f g e steps due = record {
  made = 0;
  few = omega arith;
  at = inl (e ∙ sym (until_none marks goal (settled f)));
  steps = omega (arith, steps, settled_steps f);
  grows = inl due;
}
