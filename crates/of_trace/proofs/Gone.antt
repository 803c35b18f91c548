-- Stretches, one behind another.
use Rattle.std.proofs.Common.{◌≡◌, ℕ, ◌-◌, ◌≤◌, ◌<◌, ◌^◌, List, [], arith}
use Rattle.std.proofs.Common.{refl, sym, ap, ◌∙◌, subst, Result, Ok, Err, IfOk}
use Rattle.std.proofs.lemmas.List.{append-nil}
use Rattle.of_compile.specs.Coding.{Coding}
use Rattle.of_devices.specs.Racks.{Meant, told_all}
use Rattle.of_machine.specs.Racks.{HasGoneWith, answers_of}
use Rattle.of_machine.specs.Runs.{Feed, HasGone, IsCalm, RunsTo, after, beginning}
use Rattle.of_machine.specs.States.{no_code}
use Rattle.of_machine.specs.Stretches.{Stretches, StretchesJoin, StretchesWith}
use Rattle.of_machine.specs.declared.answers.End.{End}
use Rattle.of_machine.specs.declared.answers.End.TheVariants.{AnswersOut, Done, LimitReached}
use Rattle.of_state.specs.State.{flat_calls}

pub if_ok : {A E : Type 0} (r : Result A E) (P Q : A → Type 0) → ((x : A) → P x → Q x) → IfOk r P → IfOk r Q
if_ok (Ok x) P Q f h = f x h
if_ok (Err e) P Q f h = tt

pub done_is_over : Done ≡ LimitReached → ⊥
done_is_over h = cc

pub out_is_over : AnswersOut ≡ LimitReached → ⊥
out_is_over h = cc

-- nothing was made
pub none_gone : (f : Feed Coding) → IsCalm f → HasGone f f
unfolding after
none_gone f calm =
    let none : f.machine.steps - f.machine.steps ≡ 0 = omega arith in
    (omega arith, ap (λ n. after flat_calls n f) none, calm)

pub goes_on : StretchesJoin → (until : ℕ) (f g h : Feed Coding) → HasGone f g → Stretches until g h LimitReached
    → HasGone f h
goes_on join until f g h before s = join.gone until f h (join.behind until f g h LimitReached before s)

pub ends_behind : StretchesJoin → (until limit : ℕ) (f g h : Feed Coding) (e : End) → until ≤ limit
    → (e ≡ LimitReached → ⊥) → HasGone f g → Stretches until g h e → Stretches limit f h e
ends_behind join until limit f g h e few other before s =
    join.behind limit f g h e before (join.over until limit g h e few other s)

-- ---- the same where a rack answers

untold : (ds : List Meant) → told_all ds [] ≡ ds
unfolding told_all
untold ds = refl

no_answers : (ds : List Meant) → answers_of ds [] ≡ []
unfolding answers_of
no_answers ds = refl

pub none_gone_with : (ds : List Meant) (f : Feed Coding) → IsCalm f → f.answers ≡ [] → HasGoneWith ds ds f f
none_gone_with ds f calm none =
    let same : record f { answers = answers_of ds [] } ≡ f =
    ap (λ (xs : List _). record f { answers = xs }) (no_answers ds ∙ sym none) in (
      [],
      sym (untold ds),
      sym (append-nil f.machine.asked),
      subst (λ x. HasGone x f) (sym same) (none_gone f calm),
      none,
    )

pub goes_on_with : StretchesJoin → (until : ℕ) (ds es hs : List Meant) (f g h : Feed Coding) (e : End)
    → HasGoneWith ds es f g → StretchesWith until es hs g h e → HasGoneWith ds hs f h
goes_on_with join until ds es hs f g h e before s =
    join.gone_with until ds hs f h e (join.behind_with until ds es hs f g h e before s)

pub ends_behind_with : StretchesJoin → (until limit : ℕ) (ds es hs : List Meant) (f g h : Feed Coding) (e : End)
    → until ≤ limit → (e ≡ LimitReached → ⊥) → HasGoneWith ds es f g → StretchesWith until es hs g h e
    → StretchesWith limit ds hs f h e
ends_behind_with join until limit ds es hs f g h e few other before s =
    join.behind_with limit ds es hs f g h e before (join.over_with until limit es hs g h e few other s)

-- the run whose first stretch is all
pub ends_first_with : StretchesJoin → (image : List ℕ) (lines : List (List ℕ)) (limit : ℕ) (ds es : List Meant)
    (start g : Feed Coding) (e : End) → limit < 2 ^ 64
    → start ≡ beginning no_code image lines [] [] → StretchesWith limit ds es start g e
    → RunsTo image lines (answers_of ds g.machine.asked) [] limit g.machine e
ends_first_with join image lines limit ds es start g e small begun s =
    join.ends_with image lines [] limit ds es g e small
    (subst (λ (f : Feed Coding). StretchesWith limit ds es f g e) begun s)
