-- Stretches of a run, and how they join.
use Rattle.std.proofs.Common.{◌≡◌, ◌⊎◌, inl, inr, ℕ, ◌≤◌, ◌<◌, ◌^◌, Bool, true, false, List, [], Option, Some, None}
use Rattle.std.proofs.Common.{refl, sym, ap, subst, ◌∙◌, ◌-◌, arith}
use Rattle.std.specs.Prelude.{◌&&◌, is_some, nat_lt}
use Rattle.of_asking.specs.declared.query.Answer.{Answer}
use Rattle.of_asking.specs.declared.query.Query.{Query}
use Rattle.of_compile.specs.Coding.{Coding}
use Rattle.of_compile.specs.Structured.{flat_of}
use Rattle.of_devices.specs.Racks.{Meant}
use Rattle.of_eval_laws.specs.Structured.{no_definitions}
use Rattle.of_machine.specs.declared.answers.End.{End}
use Rattle.of_machine.specs.declared.answers.End.TheVariants.{LimitReached}
use Rattle.of_machine.specs.Racks.{HasGoneWith, Rounds, answers_of}
use Rattle.of_machine.specs.Runs.{Due, Feed, HasGone, IsCalm, IsOver, RunsAgree, RunsTo, beginning, end_of}
use Rattle.of_machine.specs.States.{MachineState, can_step, idle, is_running, loaded, slot}
use Rattle.of_machine.specs.Stretches.{Stretches, StretchesJoin, StretchesWith}
use Rattle.of_machine.proofs.AgreeLemmas.{run_ends, stopped}
use Rattle.of_machine.proofs.RunLemmas.{over_behind, same_steps}
use Rattle.of_machine.proofs.RackLemmas.{over_behind_with, run_ends_with}

-- ---- how a run stands

-- at its limit no question is open
asked_out : (o : Option Query) (b : Bool) → is_some o ≡ true → LimitReached ≡ end_of o b → ⊥
asked_out None b h e = cc
asked_out (Some q) b h e = cc

-- and something runs
still_runs : (o : Option Query) (b : Bool) → o ≡ None → LimitReached ≡ end_of o b → b ≡ true
still_runs None true h e = refl
still_runs None false h e = cc
still_runs (Some q) b h e = cc

-- elsewhere nothing does
is_idle : (o : Option Query) (b : Bool) (e : End) → o ≡ None → (e ≡ LimitReached → ⊥) → e ≡ end_of o b → b ≡ false
is_idle None false e h other is = refl
is_idle None true e h other is = absurd (other is)
is_idle (Some q) b e h other is = cc

idle_stops : (m : MachineState Coding) → is_running m ≡ false → can_step m ≡ false
idle_stops m h = ap (λ b. b && nat_lt m.steps (2 ^ 64 - 1)) h

-- ---- answers in order

abbrev CutShort : ℕ → Feed Coding → Feed Coding → Type 0
CutShort limit f g =
    HasGone f g × (g.machine.steps ≤ limit) × ((g.machine.steps ≡ limit) ⊎ (can_step g.machine ≡ false))
    × (is_running g.machine ≡ true)

cut_short : (limit : ℕ) (f g : Feed Coding) → IsOver limit f g
    → LimitReached ≡ end_of g.machine.waiting (is_running g.machine) → CutShort limit f g
cut_short limit f g (inl x) e = (
  x.0,
  x.1,
  x.2,
  still_runs g.machine.waiting (is_running g.machine) x.0.2.1 e,
)
cut_short limit f g (inr x) e = absurd (asked_out g.machine.waiting (is_running g.machine) x.2 e)

-- then it can go on, and has made just so many steps
pub still_calm : (limit : ℕ) (f g : Feed Coding) (e : End) → IsOver limit f g
    → e ≡ end_of g.machine.waiting (is_running g.machine) → e ≡ LimitReached → IsCalm g
still_calm limit f g e over is cut = (cut_short limit f g over (sym cut ∙ is)).0.2

pub all_made : (limit : ℕ) (f g : Feed Coding) (e : End) → limit < 2 ^ 64 → IsOver limit f g
    → e ≡ end_of g.machine.waiting (is_running g.machine) → e ≡ LimitReached → g.machine.steps ≡ limit
all_made limit f g e small over is cut =
    let c = cut_short limit f g over (sym cut ∙ is) in stopped g.machine limit small c.1 c.3 c.2

over_by : (limit more : ℕ) (f g : Feed Coding) (e : End) → limit ≤ more → (e ≡ LimitReached → ⊥) → IsOver limit f g
    → e ≡ end_of g.machine.waiting (is_running g.machine) → IsOver more f g
over_by limit more f g e few other (inl x) is = inl (
  x.0,
  omega (arith, x.1, few),
  inr (idle_stops g.machine (is_idle g.machine.waiting (is_running g.machine) e x.0.2.1 other is)),
)
over_by limit more f g e few other (inr x) is = inr (x.0, omega (arith, x.1, few), x.2, x.3)

over : (limit more : ℕ) (f g : Feed Coding) (e : End) → limit ≤ more → (e ≡ LimitReached → ⊥)
    → Stretches limit f g e → Stretches more f g e
over limit more f g e few other s = (over_by limit more f g e few other s.0 s.1, s.1)

gone : (limit : ℕ) (f g : Feed Coding) → Stretches limit f g LimitReached → HasGone f g
gone limit f g s = (cut_short limit f g s.0 s.1).0

behind : (limit : ℕ) (f g h : Feed Coding) (e : End) → HasGone f g → Stretches limit g h e → Stretches limit f h e
behind limit f g h e before s = (over_behind limit f g h before s.0, s.1)

ends : RunsAgree → (image : List ℕ) (lines : List (List ℕ)) (answers : List Answer) (calls : List Due) (limit : ℕ)
    (f : Feed Coding) (e : End) → limit < 2 ^ 64
    → Stretches limit (beginning (flat_of no_definitions) image lines answers calls) f e
    → RunsTo image lines answers calls limit f.machine e
ends agree image lines answers calls limit f e small s =
    let begun : Feed Coding = record {
      machine = loaded (idle (flat_of no_definitions)) image slot;
      lines = lines;
      answers = answers;
      calls = calls;
    } in
    let start = beginning (flat_of no_definitions) image lines answers calls in
    subst (λ x. RunsTo image lines answers calls limit f.machine x) (sym s.1)
    (run_ends agree image lines answers calls limit start f refl small (same_steps begun start refl) s.0)

-- ---- the answers of a rack

pub all_made_with : (limit : ℕ) (ds es : List Meant) (f g : Feed Coding) (e : End) → limit < 2 ^ 64
    → Rounds limit false ds es f g → e ≡ end_of g.machine.waiting (is_running g.machine) → e ≡ LimitReached
    → g.machine.steps ≡ limit
all_made_with limit ds es f g e small over is cut =
    let runs = still_runs g.machine.waiting (is_running g.machine) over.0.3.2.1 (sym cut ∙ is) in
    stopped g.machine limit small over.1 runs over.2

over_with : (limit more : ℕ) (ds es : List Meant) (f g : Feed Coding) (e : End) → limit ≤ more
    → (e ≡ LimitReached → ⊥) → StretchesWith limit ds es f g e → StretchesWith more ds es f g e
over_with limit more ds es f g e few other s = (
  (
    s.0.0,
    omega (arith, s.0.1, few),
    inr (idle_stops g.machine (is_idle g.machine.waiting (is_running g.machine) e s.0.0.3.2.1 other s.1)),
  ),
  s.1,
)

gone_with : (limit : ℕ) (ds es : List Meant) (f g : Feed Coding) (e : End) → StretchesWith limit ds es f g e
    → HasGoneWith ds es f g
gone_with limit ds es f g e s = s.0.0

behind_with : (limit : ℕ) (ds es hs : List Meant) (f g h : Feed Coding) (e : End) → HasGoneWith ds es f g
    → StretchesWith limit es hs g h e → StretchesWith limit ds hs f h e
behind_with limit ds es hs f g h e before s = (over_behind_with limit ds es hs f g h before s.0, s.1)

ends_with : RunsAgree → (image : List ℕ) (lines : List (List ℕ)) (calls : List Due) (limit : ℕ) (ds es : List Meant)
    (f : Feed Coding) (e : End) → limit < 2 ^ 64
    → StretchesWith limit ds es (beginning (flat_of no_definitions) image lines [] calls) f e
    → RunsTo image lines (answers_of ds f.machine.asked) calls limit f.machine e
ends_with agree image lines calls limit ds es f e small s =
    let begun : Feed Coding = record {
      machine = loaded (idle (flat_of no_definitions)) image slot;
      lines = lines;
      answers = [];
      calls = calls;
    } in
    let start = beginning (flat_of no_definitions) image lines [] calls in
    subst (λ x. RunsTo image lines (answers_of ds f.machine.asked) calls limit f.machine x) (sym s.1)
    (run_ends_with agree image lines calls ds es limit start f refl small (same_steps begun start refl) s.0)

pub stretches_join : RunsAgree → StretchesJoin
stretches_join agree = record {
  gone = gone;
  over = over;
  behind = behind;
  ends = ends agree;
  gone_with = gone_with;
  over_with = over_with;
  behind_with = behind_with;
  ends_with = ends_with agree;
}
