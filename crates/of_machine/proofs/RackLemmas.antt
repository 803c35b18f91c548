-- Runs whose questions a rack answers: a run that makes all its steps is the same with more answers.
use Rattle.std.proofs.Common.{◌≡◌, inl, ℕ, zero, suc, ◌+◌, ◌-◌, ◌≤◌, ◌<◌, ◌^◌, Bool, true, false, List, []}
use Rattle.std.proofs.Common.{Result, Ok, Err, OnErr, ◌∷◌, ◌++◌, Option, Some, None, refl, sym, ap, subst, ◌∙◌}
use Rattle.std.proofs.Common.{arith, drop}
use Rattle.std.proofs.lemmas.List.{append_assoc, append-nil}
use Rattle.std.specs.Prelude.{if◌then◌else◌, is_none, ◌&&◌}
use Rattle.of_asking.specs.declared.query.Answer.{Answer}
use Rattle.of_asking.specs.declared.query.Query.{Query}
use Rattle.of_asking.specs.Questions.{fits}
use Rattle.of_devices.specs.Racks.{Meant, rack_answer, rack_told, told_all}
use Rattle.of_compile.specs.Coding.{Coding}
use Rattle.of_compile.specs.Structured.{flat_of}
use Rattle.of_state.specs.State.{flat_calls}
use Rattle.of_steps.specs.Steps.{asked_by}
use Rattle.of_eval_laws.specs.Structured.{no_definitions}
use Rattle.of_machine.specs.declared.answers.End.TheVariants.{AnswersOut}
use Rattle.of_machine.specs.declared.script_run.Advance.TheVariants as advance
use Rattle.of_machine.specs.States.{MachineState, answer_refusal, answered, can_step, fit_of, idle}
use Rattle.of_machine.specs.States.{is_running}
use Rattle.of_machine.specs.States.{loaded, moved, slot}
use Rattle.of_machine.specs.Runs.{Advances, AreLater, Due, Feed, HasAdvanced, HasGone, IsCalm, RunsAgree, RunsTo}
use Rattle.of_machine.specs.Runs.{after, asking, beginning, clients_heard, end_of, fed_by, fitting, next}
use Rattle.of_machine.specs.Runs.{settled, told, turned}
use Rattle.of_machine.specs.Racks.{HasGoneWith, IsLeft, IsLeftWith, Rounds, answers_of}
use Rattle.of_machine.proofs.AgreeLemmas.{run_ends}
use Rattle.of_machine.proofs.RunLemmas.{asks_then, same_answers, same_asked, same_steps, same_waiting}
use Rattle.of_machine.proofs.RunLemmas.{settled_is, turn_behind, turns_joined}

-- ---- more answers than are used change nothing

abbrev extended : Feed Coding → List Answer → Feed Coding
extended f more = record f { answers = f.answers ++ more }

-- the feed with its answers set apart
abbrev with_answers : Feed Coding → List Answer → Feed Coding
with_answers f answers = record f { answers = answers }

fed_more : (b : Bool) (lines : List (List ℕ)) (f : Feed Coding) (more : List Answer)
    → fed_by b lines (extended f more) ≡ extended (fed_by b lines f) more
fed_more true lines f more = refl
fed_more false [] f more = refl
fed_more false (line ∷ lines) f more = refl

settled_more : (f : Feed Coding) (more : List Answer) → settled (extended f more) ≡ extended (settled f) more
settled_more f more =
    let heard = clients_heard f in fed_more (is_running heard.machine) heard.lines heard more

fits_more : (q : Query) (b : Bool) (x : Answer) (xs more : List Answer) (f : Feed Coding)
    → (told flat_calls (if b then Some x else None) (asking q (with_answers f (x ∷ xs)))).machine.steps
    ≡ f.machine.steps + 1
    → told flat_calls (if b then Some x else None) (asking q (with_answers f (x ∷ xs ++ more)))
    ≡ extended (told flat_calls (if b then Some x else None) (asking q (with_answers f (x ∷ xs)))) more
fits_more q true x xs more f h =
    settled_more (record f { machine = answered flat_calls x (asking q f).machine; answers = xs }) more
fits_more q false x xs more f h = absurd (omega (arith, h))

told_more : (q : Query) (answers more : List Answer) (f : Feed Coding)
    → (told flat_calls (fitting q answers) (asking q (with_answers f answers))).machine.steps ≡ f.machine.steps + 1
    → told flat_calls (fitting q (answers ++ more)) (asking q (with_answers f (answers ++ more)))
    ≡ extended (told flat_calls (fitting q answers) (asking q (with_answers f answers))) more
told_more q [] more f h = absurd (omega (arith, h))
told_more q (x ∷ xs) more f h = fits_more q (fits q x) x xs more f h

turned_more : (o : Option Query) (f : Feed Coding) (more : List Answer)
    → (turned flat_calls o f).machine.steps ≡ f.machine.steps + 1
    → turned flat_calls o (extended f more) ≡ extended (turned flat_calls o f) more
turned_more None f more h = settled_more (record f { machine = moved flat_calls f.machine }) more
turned_more (Some q) f more h = told_more q f.answers more f h

next_more_by : (b : Bool) (o : Option Query) (f : Feed Coding) (more : List Answer)
    → (if b then turned flat_calls o f else f).machine.steps ≡ f.machine.steps + 1
    → (if b then turned flat_calls o (extended f more) else extended f more)
    ≡ extended (if b then turned flat_calls o f else f) more
next_more_by true o f more h = turned_more o f more h
next_more_by false o f more h = absurd (omega (arith, h))

-- a turn that makes a step is the same with more answers
next_more : (f : Feed Coding) (more : List Answer) → (next flat_calls f).machine.steps ≡ f.machine.steps + 1
    → next flat_calls (extended f more) ≡ extended (next flat_calls f) more
unfolding next
next_more f more h =
    next_more_by (can_step f.machine && is_none f.machine.waiting) (asked_by flat_calls f.machine.eval) f more h

-- ---- no more steps than turns

told_steps : (o : Option Answer) (q : Query) (f : Feed Coding)
    → (told flat_calls o (asking q f)).machine.steps ≤ f.machine.steps + 1
told_steps None q f = omega arith
told_steps (Some x) q f =
    let g : Feed Coding =
    record f { machine = answered flat_calls x (asking q f).machine; answers = drop 1 f.answers } in
    omega (arith, same_steps g (settled g) refl)

turned_steps : (o : Option Query) (f : Feed Coding) → (turned flat_calls o f).machine.steps ≤ f.machine.steps + 1
turned_steps None f =
    let g : Feed Coding = record f { machine = moved flat_calls f.machine } in
    omega (arith, same_steps g (settled g) refl)
turned_steps (Some q) f = told_steps (fitting q f.answers) q f

next_steps_by : (b : Bool) (o : Option Query) (f : Feed Coding)
    → (if b then turned flat_calls o f else f).machine.steps ≤ f.machine.steps + 1
next_steps_by true o f = turned_steps o f
next_steps_by false o f = omega arith

next_steps : (f : Feed Coding) → (next flat_calls f).machine.steps ≤ f.machine.steps + 1
unfolding next
next_steps f =
    next_steps_by (can_step f.machine && is_none f.machine.waiting) (asked_by flat_calls f.machine.eval) f

after_steps : (n : ℕ) (f : Feed Coding) → (after flat_calls n f).machine.steps ≤ f.machine.steps + n
unfolding after
after_steps zero f = omega arith
after_steps (suc n) f = omega (arith, next_steps (after flat_calls n f), after_steps n f)

-- a run that makes all its steps is the same with more answers
after_more : (n : ℕ) (f : Feed Coding) (more : List Answer)
    → (after flat_calls n f).machine.steps ≡ f.machine.steps + n
    → after flat_calls n (extended f more) ≡ extended (after flat_calls n f) more
unfolding after
after_more zero f more h = refl
after_more (suc n) f more h =
    let g = after flat_calls n f in
    let all : g.machine.steps ≡ f.machine.steps + n = omega (arith, next_steps g, after_steps n f, h) in
    ap (next flat_calls) (after_more n f more all) ∙ next_more g more (omega (arith, h, all))

-- ---- what a rack is asked

told_joined : (ds : List Meant) (ps qs : List Query) → told_all ds (ps ++ qs) ≡ told_all (told_all ds ps) qs
unfolding told_all
told_joined ds [] qs = refl
told_joined ds (p ∷ ps) qs = told_joined (rack_told ds p) ps qs

answers_joined : (ds : List Meant) (ps qs : List Query)
    → answers_of ds (ps ++ qs) ≡ answers_of ds ps ++ answers_of (told_all ds ps) qs
unfolding answers_of told_all
answers_joined ds [] qs = refl
answers_joined ds (p ∷ ps) qs = ap (λ xs. rack_answer ds p ∷ xs) (answers_joined (rack_told ds p) ps qs)

no_answers : (ds : List Meant) → answers_of ds [] ≡ []
unfolding answers_of
no_answers ds = refl

untold : (ds : List Meant) → told_all ds [] ≡ ds
unfolding told_all
untold ds = refl

one_answer : (ds : List Meant) (q : Query) → answers_of ds (q ∷ []) ≡ rack_answer ds q ∷ []
unfolding answers_of
one_answer ds q = refl

one_told : (ds : List Meant) (q : Query) → told_all ds (q ∷ []) ≡ rack_told ds q
unfolding told_all
one_told ds q = refl

-- ---- runs joined

-- turns that make all their steps, and then others with the answers that the rack gives then
joined : (ds es : List Meant) (f g : Feed Coding) (ps qs : List Query) (k n : ℕ) → es ≡ told_all ds ps
    → after flat_calls k (with_answers f (answers_of ds ps)) ≡ g → g.machine.steps ≡ f.machine.steps + k
    → g.answers ≡ []
    → after flat_calls (k + n) (with_answers f (answers_of ds (ps ++ qs)))
    ≡ after flat_calls n (with_answers g (answers_of es qs))
joined ds es f g ps qs k n left there all none =
    let a = answers_of ds ps in
    let b = answers_of es qs in
    let start : Feed Coding = with_answers f a in
    let both : answers_of ds (ps ++ qs) ≡ a ++ b =
    answers_joined ds ps qs ∙ ap (λ hs. a ++ answers_of hs qs) (sym left) in
    let made : (after flat_calls k start).machine.steps ≡ f.machine.steps + k =
    ap (λ (x : Feed Coding). x.machine.steps) there ∙ all in
    ap (λ xs. after flat_calls (k + n) (with_answers f xs)) both
    ∙ sym (turns_joined k n (extended start b))
    ∙ ap (after flat_calls n)
    (after_more k start b made ∙ ap (λ x. extended x b) there ∙ ap (λ xs. with_answers g (xs ++ b)) none)

sums : (a b c : ℕ) → a ≤ b → b ≤ c → (b - a) + (c - b) ≡ c - a
sums a b c ab bc = omega (arith, ab, bc)

pub goes_on_with : (ds es hs : List Meant) (f g h : Feed Coding) → HasGoneWith ds es f g → HasGoneWith es hs g h
    → HasGoneWith ds hs f h
goes_on_with ds es hs f g h before behind =
    let ps = before.0 in
    let qs = behind.0 in
    let k = g.machine.steps - f.machine.steps in
    let n = h.machine.steps - g.machine.steps in
    let sum : k + n ≡ h.machine.steps - f.machine.steps
    = sums f.machine.steps g.machine.steps h.machine.steps before.3.0 behind.3.0 in
    let all : g.machine.steps ≡ f.machine.steps + k = omega (arith, before.3.0) in (
      ps ++ qs,
      behind.1 ∙ ap (λ x. told_all x qs) before.1 ∙ sym (told_joined ds ps qs),
      behind.2 ∙ ap (λ x. x ++ qs) before.2 ∙ append_assoc f.machine.asked ps qs,
      (
        omega (arith, before.3.0, behind.3.0),
        ap (λ x. after flat_calls x (with_answers f (answers_of ds (ps ++ qs)))) (sym sum)
            ∙ joined ds es f g ps qs k n before.1 before.3.1 all before.4
            ∙ behind.3.1,
        behind.3.2,
      ),
      behind.4,
    )

pub left_behind : (limit : ℕ) (ds es hs : List Meant) (f g : Feed Coding) → HasGoneWith ds es f g
    → IsLeftWith limit es hs g → IsLeftWith limit ds hs f
left_behind limit ds es hs f g before left =
    let ps = before.0 in
    let n = left.0 in
    let qs = left.2 in
    let k = g.machine.steps - f.machine.steps in
    let all : g.machine.steps ≡ f.machine.steps + k = omega (arith, before.3.0) in (
      k + n,
      omega (arith, all, left.1),
      ps ++ qs,
      left.3 ∙ ap (λ x. told_all x qs) before.1 ∙ sym (told_joined ds ps qs),
      ap (λ (x : Feed Coding). x.machine.asked) (joined ds es f g ps qs k n before.1 before.3.1 all before.4)
          ∙ left.4 ∙ ap (λ x. x ++ qs) before.2 ∙ append_assoc f.machine.asked ps qs,
    )

-- ---- a round

-- what holds of a refusal
pub on_err : {A : Type 0} {E : Type 0} {P : Type 0} (r : Result A E) → P → OnErr r P
on_err (Ok x) p = tt
on_err (Err e) p = p

-- no memory was found before a question
pub left_alone : (limit : ℕ) (ds : List Meant) (f : Feed Coding) → f.machine.steps ≤ limit → IsLeftWith limit ds ds f
unfolding after
left_alone limit ds f few = (
  0,
  omega (arith, few),
  [],
  sym (untold ds),
  sym (append-nil f.machine.asked),
)

-- nothing is asked
pub goes_alone : (ds : List Meant) (f g : Feed Coding) → f.answers ≡ [] → HasAdvanced f g → HasGoneWith ds ds f g
goes_alone ds f g none gone =
    let same : with_answers f (answers_of ds []) ≡ f = ap (with_answers f) (no_answers ds ∙ sym none) in (
      [],
      sym (untold ds),
      gone.1 ∙ sym (append-nil f.machine.asked),
      subst (λ x. HasGone x g) (sym same) gone.0,
      gone.2 ∙ none,
    )

-- no turn
after_none : (f : Feed Coding) → after flat_calls 0 f ≡ f
unfolding after
after_none f = refl

-- a question may be answered
pub may_answer : (f g : Feed Coding) (q : Query) (limit : ℕ) (x : Answer) → Advances limit (advance.Asks q) f g
    → fits q x ≡ true → answer_refusal g.machine.waiting x ≡ None
may_answer f g q limit x asks fit =
    ap (λ (y : Feed Coding). answer_refusal y.machine.waiting x) asks.5 ∙ ap (λ b. fit_of b) fit

-- with the rack's answer
pub answered_with : (ds : List Meant) (f g new : Feed Coding) (q : Query) (limit : ℕ) (x : Answer) → f.answers ≡ []
    → Advances limit (advance.Asks q) f g → x ≡ rack_answer ds q → fits q x ≡ true
    → new ≡ settled (record g { machine = answered flat_calls x g.machine }) → AreLater new.machine.steps new.calls
    → Rounds limit true ds (rack_told ds q) f new
answered_with ds f g new q limit x none asks gives fit same later =
    let h = asks.0 in
    let silent : HasGoneWith ds ds f h = goes_alone ds f h none asks.1 in
    let start : Feed Coding = with_answers h (x ∷ []) in
    let fit_so : fitting q (x ∷ []) ≡ Some x = ap (λ b. if b then Some x else None) fit in
    let turn : next flat_calls start ≡ told flat_calls (Some x) (asking q start) =
    asks_then start q (Some x) asks.3 asks.1.0.2.1 asks.4 fit_so in
    let empty : h.answers ≡ [] = asks.1.2 ∙ none in
    let gone : next flat_calls start ≡ new =
    turn
    ∙ ap (λ xs. settled (record (asking q h) {
      machine = answered flat_calls x (asking q h).machine;
      answers = xs;
    }))
    (sym empty)
    ∙ ap (λ (y : Feed Coding). settled (record y { machine = answered flat_calls x y.machine })) (sym asks.5)
    ∙ sym same in
    let with_it : Feed Coding = record g { machine = answered flat_calls x g.machine } in
    let made : new.machine.steps ≡ h.machine.steps + 1 =
    same_steps with_it new same ∙ ap (λ (y : Feed Coding). y.machine.steps + 1) asks.5 in
    let more : (k : ℕ) → k ≡ 1 → after flat_calls k (with_answers h (answers_of ds (q ∷ []))) ≡ new
    = λ k e.
    ap (λ i. after flat_calls i (with_answers h (answers_of ds (q ∷ [])))) e
    ∙ ap (λ xs. after flat_calls 1 (with_answers h xs)) (one_answer ds q ∙ ap (λ y. y ∷ []) (sym gives))
    ∙ turn_behind start start new 0 (after_none start) gone in
    let asked_so : HasGoneWith ds (rack_told ds q) h new = (
      q ∷ [],
      sym (one_told ds q),
      same_asked with_it new same ∙ ap (λ (y : Feed Coding). y.machine.asked) asks.5,
      (
        omega (arith, made),
        more (new.machine.steps - h.machine.steps) (omega (arith, made)),
        (
          later,
          same_waiting with_it new same,
          settled_is with_it new same,
        ),
      ),
      same_answers with_it new same ∙ ap (λ (y : Feed Coding). y.answers) asks.5 ∙ empty,
    ) in (
      goes_on_with ds ds (rack_told ds q) f h new silent asked_so,
      omega (arith, made, asks.1.0.0),
      omega (arith, made, asks.2),
    )

-- the question was answered, and no memory was found behind it
pub left_asked : (ds : List Meant) (f g : Feed Coding) (q : Query) (limit : ℕ) (x : Answer) → f.answers ≡ []
    → Advances limit (advance.Asks q) f g → x ≡ rack_answer ds q → fits q x ≡ true
    → IsLeftWith limit ds (rack_told ds q) f
left_asked ds f g q limit x none asks gives fit =
    let h = asks.0 in
    let start : Feed Coding = with_answers h (x ∷ []) in
    let fit_so : fitting q (x ∷ []) ≡ Some x = ap (λ b. if b then Some x else None) fit in
    let turn : next flat_calls start ≡ told flat_calls (Some x) (asking q start) =
    asks_then start q (Some x) asks.3 asks.1.0.2.1 asks.4 fit_so in
    let with_it : Feed Coding = record (asking q h) {
      machine = answered flat_calls x (asking q h).machine;
      answers = [];
    } in
    let step : after flat_calls 1 (with_answers h (answers_of ds (q ∷ []))) ≡ settled with_it =
    ap (λ xs. after flat_calls 1 (with_answers h xs)) (one_answer ds q ∙ ap (λ y. y ∷ []) (sym gives))
    ∙ turn_behind start start (settled with_it) 0 (after_none start) turn in
    left_behind limit ds ds (rack_told ds q) f h (goes_alone ds f h none asks.1) (
      1,
      omega (arith, asks.2),
      q ∷ [],
      sym (one_told ds q),
      ap (λ (y : Feed Coding). y.machine.asked) step ∙ same_asked with_it (settled with_it) refl,
    )

-- ---- rounds

pub none_gone_with : (ds : List Meant) (f : Feed Coding) → f.answers ≡ [] → IsCalm f → HasGoneWith ds ds f f
unfolding after
none_gone_with ds f none calm =
    let stays : f.machine.steps - f.machine.steps ≡ 0 = omega arith in
    goes_alone ds f f none ((omega arith, ap (λ n. after flat_calls n f) stays, calm), refl, refl)

pub over_behind_with : (limit : ℕ) (ds es hs : List Meant) (f g h : Feed Coding) → HasGoneWith ds es f g
    → Rounds limit false es hs g h → Rounds limit false ds hs f h
over_behind_with limit ds es hs f g h before over = (goes_on_with ds es hs f g h before over.0, over.1, over.2)

-- ---- whole runs

abbrev begun : List ℕ → List (List ℕ) → List Due → Feed Coding
begun image lines calls = record {
  machine = loaded (idle (flat_of no_definitions)) image slot;
  lines = lines;
  answers = [];
  calls = calls;
}

fed_with : (b : Bool) (lines : List (List ℕ)) (f : Feed Coding) (xs : List Answer)
    → with_answers (fed_by b lines f) xs ≡ fed_by b lines (with_answers f xs)
fed_with true lines f xs = refl
fed_with false [] f xs = refl
fed_with false (line ∷ lines) f xs = refl

begins : (image : List ℕ) (lines : List (List ℕ)) (calls : List Due) (start : Feed Coding) (answers : List Answer)
    → start ≡ beginning (flat_of no_definitions) image lines [] calls
    → with_answers start answers ≡ beginning (flat_of no_definitions) image lines answers calls
begins image lines calls start answers e =
    let heard = clients_heard (begun image lines calls) in
    ap (λ x. with_answers x answers) e ∙ fed_with (is_running heard.machine) heard.lines heard answers

none_asked : (image : List ℕ) (lines : List (List ℕ)) (calls : List Due) (start : Feed Coding)
    → start ≡ beginning (flat_of no_definitions) image lines [] calls → start.machine.asked ≡ []
none_asked image lines calls start e = same_asked (begun image lines calls) start e

none_made : (image : List ℕ) (lines : List (List ℕ)) (calls : List Due) (start : Feed Coding)
    → start ≡ beginning (flat_of no_definitions) image lines [] calls → start.machine.steps ≡ 0
none_made image lines calls start e = same_steps (begun image lines calls) start e

pub run_left : RunsAgree → (image : List ℕ) (lines : List (List ℕ)) (calls : List Due) (limit : ℕ)
    (ds es : List Meant) (start : Feed Coding)
    → start ≡ beginning (flat_of no_definitions) image lines [] calls → IsLeftWith limit ds es start
    → IsLeft image lines calls limit ds es
run_left agree image lines calls limit ds es start e left =
    let n = left.0 in
    let qs = left.2 in
    let answers = answers_of ds qs in
    let nothing : start.machine.asked ++ qs ≡ qs = ap (λ xs. xs ++ qs) (none_asked image lines calls start e) in (
      n,
      omega (arith, left.1, none_made image lines calls start e),
      qs,
      left.3,
      sym nothing ∙ sym left.4
          ∙ ap (λ x. (after flat_calls n x).machine.asked) (begins image lines calls start answers e)
          ∙ ap (λ (m : MachineState Coding). m.asked) (agree image lines answers calls n),
    )

pub never_begun : RunsAgree → (image : List ℕ) (lines : List (List ℕ)) (calls : List Due) (limit : ℕ) (ds : List Meant)
    → IsLeft image lines calls limit ds ds
never_begun agree image lines calls limit ds =
    let start = beginning (flat_of no_definitions) image lines [] calls in
    let few : start.machine.steps ≤ limit = omega (arith, none_made image lines calls start refl) in
    run_left agree image lines calls limit ds ds start refl (left_alone limit ds start few)

-- the questions that were asked are all of the machine's
asked_all : (image : List ℕ) (lines : List (List ℕ)) (calls : List Due) (ds es : List Meant) (start f : Feed Coding)
    → start ≡ beginning (flat_of no_definitions) image lines [] calls → (gone : HasGoneWith ds es start f)
    → gone.0 ≡ f.machine.asked
asked_all image lines calls ds es start f e gone =
    sym (gone.2 ∙ ap (λ xs. xs ++ gone.0) (none_asked image lines calls start e))

pub run_told : (image : List ℕ) (lines : List (List ℕ)) (calls : List Due) (ds es : List Meant) (start f : Feed Coding)
    → start ≡ beginning (flat_of no_definitions) image lines [] calls → HasGoneWith ds es start f
    → es ≡ told_all ds f.machine.asked
run_told image lines calls ds es start f e gone =
    gone.1 ∙ ap (λ qs. told_all ds qs) (asked_all image lines calls ds es start f e gone)

pub run_ends_with : RunsAgree → (image : List ℕ) (lines : List (List ℕ)) (calls : List Due) (ds es : List Meant)
    (limit : ℕ) (start f : Feed Coding) → start ≡ beginning (flat_of no_definitions) image lines [] calls
    → limit < 2 ^ 64
    → start.machine.steps ≡ 0 → Rounds limit false ds es start f
    → RunsTo image lines (answers_of ds f.machine.asked) calls limit f.machine
    (end_of f.machine.waiting (is_running f.machine))
run_ends_with agree image lines calls ds es limit start f e small none over =
    let answers = answers_of ds over.0.0 in
    subst
    (λ qs. RunsTo image lines (answers_of ds qs) calls limit f.machine
    (end_of f.machine.waiting (is_running f.machine)))
    (asked_all image lines calls ds es start f e over.0)
    (run_ends agree image lines answers calls limit (with_answers start answers) f
    (begins image lines calls start answers e) small none (inl (over.0.3, over.1, over.2)))

not_out : (b : Bool) → end_of None b ≡ AnswersOut → ⊥
not_out true h = cc
not_out false h = cc

pub never_out : (limit : ℕ) (ds es : List Meant) (start f : Feed Coding) → Rounds limit false ds es start f
    → end_of f.machine.waiting (is_running f.machine) ≡ AnswersOut → ⊥
never_out limit ds es start f over h =
    not_out (is_running f.machine) (ap (λ o. end_of o (is_running f.machine)) (sym over.0.3.2.1) ∙ h)
