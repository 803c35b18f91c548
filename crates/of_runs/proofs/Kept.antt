-- What goes out of stretches, one behind another.
use Rattle.std.proofs.Common.{◌≡◌, ◌⊎◌, inl, inr, ℕ, ◌+◌, ◌-◌, ◌≤◌, ◌<◌, ◌^◌}
use Rattle.std.proofs.Common.{List, [], ◌++◌, Option, arith}
use Rattle.std.proofs.Common.{refl, sym, ap, ◌∙◌, subst, length, take, drop, Result, Ok, Err, IfOk, IfErr}
use Rattle.std.proofs.KnownBytes.{Appends-trans}
use Rattle.std.proofs.Math.Seq.{drop-append_seam, take-append-add}
use Rattle.std.proofs.lemmas.List.{append-nil}
use Rattle.std.specs.Io.KnownBytes.{Appends}
use Rattle.of_asking.specs.declared.query.Answer.{Answer}
use Rattle.of_compile.specs.Coding.{Coding}
use Rattle.of_devices.specs.Racks.{Meant, told_all}
use Rattle.of_files.specs.Faults.{IsUnwritten}
use Rattle.of_files.specs.Messages.{AppendsPart}
use Rattle.of_files.specs.declared.fault.Fault.{Fault}
use Rattle.of_files.specs.declared.fault.Fault.TheVariants as fault
use Rattle.of_machine.specs.Racks.{HasGoneWith, answers_of}
use Rattle.of_machine.specs.Runs.{Feed, HasGone, IsCalm, RunsTo, after, beginning}
use Rattle.of_machine.specs.States.{MachineState, no_code}
use Rattle.of_machine.specs.Stretches.{Stretches, StretchesJoin, StretchesWith, stands}
use Rattle.of_machine.specs.declared.answers.End.{End}
use Rattle.of_machine.specs.declared.answers.End.TheVariants.{AnswersOut, Done, LimitReached}
use Rattle.of_print_laws.specs.Printed.{Begins, PrintedStays}
use Rattle.of_runs.specs.Printing.{FallsBehind, KeepsUp, OnRack, Prints, PrintsAll, PrintsAllWith}
use Rattle.of_runs.specs.Printing.{PrintsWith, Stops, StopsAll, StopsAllWith, StopsWith}
use Rattle.of_runs.specs.Runs.{Breaks, console_of}
use Rattle.of_runs.proofs.Printed.{over_prints, rack_prints}
use Rattle.of_state.specs.State.{flat_calls}

-- ---- what holds of an answer

pub if_ok : {A E : Type 0} (r : Result A E) (P Q : A → Type 0) → ((x : A) → P x → Q x) → IfOk r P → IfOk r Q
if_ok (Ok x) P Q f h = f x h
if_ok (Err e) P Q f h = tt

pub if_err : {A E : Type 0} (r : Result A E) (P Q : E → Type 0) → ((x : E) → P x → Q x) → IfErr r P → IfErr r Q
if_err (Ok x) P Q f h = tt
if_err (Err e) P Q f h = f e h

pub done_is_over : Done ≡ LimitReached → ⊥
done_is_over h = cc

pub out_is_over : AnswersOut ≡ LimitReached → ⊥
out_is_over h = cc

-- ---- a text behind one that begins it

rest_of : (a b : List ℕ) → Begins a b → b ≡ a ++ drop (length a) b
rest_of a b x = x.1 ∙ ap (λ t. a ++ t) (sym (ap (drop (length a)) x.1 ∙ drop-append_seam a x.0))

-- ---- a stretch

-- the rest of what was printed went out
kept_up : (old new : Option (List ℕ)) (f g : Feed Coding) → Begins (console_of f.machine) (console_of g.machine)
    → Appends old new (drop (length (console_of f.machine)) (console_of g.machine)) → KeepsUp old new f g
kept_up old new f g begins rest first before =
    let a = console_of f.machine in
    let b = console_of g.machine in
    subst (Appends first new) (sym (rest_of a b begins)) (Appends-trans first old new a (drop (length a) b) before rest)

-- or the first of it
fell_behind : (old new : Option (List ℕ)) (f g : Feed Coding) (x : Fault)
    → Begins (console_of f.machine) (console_of g.machine)
    → AppendsPart old new (drop (length (console_of f.machine)) (console_of g.machine)) → IsUnwritten x
    → FallsBehind old new f g x
fell_behind old new f g x begins part unwritten first before =
    let a = console_of f.machine in
    let b = console_of g.machine in
    let rest = drop (length a) b in
    inr (
      unwritten,
      (
        length a + part.0,
        subst (λ (t : List ℕ). Appends first new (take (length a + part.0) t)) (sym (rest_of a b begins))
            (subst (Appends first new) (sym (take-append-add a rest part.0))
            (Appends-trans first old new a (take part.0 rest) before part.1)),
      ),
    )

pub prints : PrintedStays Coding → (limit : ℕ) (f g : Feed Coding) (old new : Option (List ℕ)) (e : End)
    → Stretches limit f g e
    → Appends old new (drop (length (console_of f.machine)) (console_of g.machine)) → Prints limit f g old new e
prints stays limit f g old new e s rest = (s, kept_up old new f g (over_prints stays limit f g s.0) rest)

pub stops : PrintedStays Coding → (limit : ℕ) (f g : Feed Coding) (old new : Option (List ℕ)) (e : End) (x : Fault)
    → Stretches limit f g e
    → AppendsPart old new (drop (length (console_of f.machine)) (console_of g.machine)) → IsUnwritten x
    → Stops limit f old new x
stops stays limit f g old new e x s part unwritten =
    (limit, omega arith, g, (e, s), fell_behind old new f g x (over_prints stays limit f g s.0) part unwritten)

pub none_gone : (f : Feed Coding) → IsCalm f → HasGone f f
unfolding after
none_gone f calm =
    let none : f.machine.steps - f.machine.steps ≡ 0 = omega arith in
    (omega arith, ap (λ n. after flat_calls n f) none, calm)

-- nothing was made
pub no_stretch : (f : Feed Coding) → IsCalm f → Stretches f.machine.steps f f (stands f)
no_stretch f calm = (inl (none_gone f calm, omega arith, inl refl), refl)

-- no memory was found
pub stays : (limit : ℕ) (f : Feed Coding) (now : Option (List ℕ)) (x : Fault) → IsCalm f → f.machine.steps ≤ limit
    → x ≡ fault.NoMemory → Stops limit f now now x
stays limit f now x calm few none =
    (f.machine.steps, few, f, (stands f, no_stretch f calm), λ first before. inl (none, before))

-- ---- one stretch behind another

pub goes_on : StretchesJoin → (until : ℕ) (f g h : Feed Coding) → HasGone f g → Stretches until g h LimitReached
    → HasGone f h
goes_on join until f g h before s = join.gone until f h (join.behind until f g h LimitReached before s)

pub prints_behind : StretchesJoin → (limit : ℕ) (f g h : Feed Coding) (old mid new : Option (List ℕ)) (e : End)
    → HasGone f g → KeepsUp old mid f g → Prints limit g h mid new e → Prints limit f h old new e
prints_behind join limit f g h old mid new e before kept s =
    (join.behind limit f g h e before s.0, λ first p. s.1 first (kept first p))

pub ends_behind : StretchesJoin → (until limit : ℕ) (f g h : Feed Coding) (old mid new : Option (List ℕ)) (e : End)
    → until ≤ limit → (e ≡ LimitReached → ⊥) → HasGone f g → KeepsUp old mid f g → Prints until g h mid new e
    → Prints limit f h old new e
ends_behind join until limit f g h old mid new e few other before kept s =
    prints_behind join limit f g h old mid new e before kept (join.over until limit g h e few other s.0, s.1)

pub stops_behind : StretchesJoin → (until limit : ℕ) (f g : Feed Coding) (old mid new : Option (List ℕ)) (x : Fault)
    → until ≤ limit → HasGone f g → KeepsUp old mid f g → Stops until g mid new x → Stops limit f old new x
stops_behind join until limit f g old mid new x few before kept s =
    let n = s.0 in
    let h = s.2 in (
      n,
      omega (arith, s.1, few),
      h,
      (s.3.0, join.behind n f g h s.3.0 before s.3.1),
      λ first p. s.4 first (kept first p),
    )

-- ---- the same where a rack answers

pub prints_with : PrintedStays Coding → (limit : ℕ) (ds es : List Meant) (f g : Feed Coding)
    (old new : Option (List ℕ)) (e : End)
    → StretchesWith limit ds es f g e
    → Appends old new (drop (length (console_of f.machine)) (console_of g.machine))
    → PrintsWith limit ds es f g old new e
prints_with stays limit ds es f g old new e s rest =
    (s, kept_up old new f g (rack_prints stays ds es f g s.0.0) rest)

pub stops_with : PrintedStays Coding → (limit : ℕ) (ds es : List Meant) (f g : Feed Coding)
    (old new : Option (List ℕ)) (e : End) (x : Fault)
    → StretchesWith limit ds es f g e
    → AppendsPart old new (drop (length (console_of f.machine)) (console_of g.machine)) → IsUnwritten x
    → StopsWith limit ds f old new x
stops_with stays limit ds es f g old new e x s part unwritten =
    (limit, omega arith, es, g, (e, s), fell_behind old new f g x (rack_prints stays ds es f g s.0.0) part unwritten)

untold : (ds : List Meant) → told_all ds [] ≡ ds
unfolding told_all
untold ds = refl

no_answers : (ds : List Meant) → answers_of ds [] ≡ []
unfolding answers_of
no_answers ds = refl

pub none_gone_with : (ds : List Meant) (f : Feed Coding) → IsCalm f → f.answers ≡ [] → HasGoneWith ds ds f f
none_gone_with ds f calm none =
    let same : record f { answers = answers_of ds [] } ≡ f =
    ap (λ (xs : List _). record f { answers = xs }) (no_answers ds ∙ sym none) in (
      [],
      sym (untold ds),
      sym (append-nil f.machine.asked),
      subst (λ x. HasGone x f) (sym same) (none_gone f calm),
      none,
    )

pub no_stretch_with : (ds : List Meant) (f : Feed Coding) → IsCalm f → f.answers ≡ []
    → StretchesWith f.machine.steps ds ds f f (stands f)
no_stretch_with ds f calm none = ((none_gone_with ds f calm none, omega arith, inl refl), refl)

pub stays_with : (limit : ℕ) (ds : List Meant) (f : Feed Coding) (now : Option (List ℕ)) (x : Fault) → IsCalm f
    → f.answers ≡ [] → f.machine.steps ≤ limit → x ≡ fault.NoMemory → StopsWith limit ds f now now x
stays_with limit ds f now x calm empty few none =
    (f.machine.steps, few, ds, f, (stands f, no_stretch_with ds f calm empty), λ first before. inl (none, before))

pub goes_on_with : StretchesJoin → (until : ℕ) (ds es hs : List Meant) (f g h : Feed Coding) (e : End)
    → HasGoneWith ds es f g → StretchesWith until es hs g h e → HasGoneWith ds hs f h
goes_on_with join until ds es hs f g h e before s =
    join.gone_with until ds hs f h e (join.behind_with until ds es hs f g h e before s)

pub prints_behind_with : StretchesJoin → (limit : ℕ) (ds es hs : List Meant) (f g h : Feed Coding)
    (old mid new : Option (List ℕ)) (e : End)
    → HasGoneWith ds es f g → KeepsUp old mid f g → PrintsWith limit es hs g h mid new e
    → PrintsWith limit ds hs f h old new e
prints_behind_with join limit ds es hs f g h old mid new e before kept s =
    (join.behind_with limit ds es hs f g h e before s.0, λ first p. s.1 first (kept first p))

pub ends_behind_with : StretchesJoin → (until limit : ℕ) (ds es hs : List Meant) (f g h : Feed Coding)
    (old mid new : Option (List ℕ)) (e : End)
    → until ≤ limit → (e ≡ LimitReached → ⊥) → HasGoneWith ds es f g → KeepsUp old mid f g
    → PrintsWith until es hs g h mid new e → PrintsWith limit ds hs f h old new e
ends_behind_with join until limit ds es hs f g h old mid new e few other before kept s =
    prints_behind_with join limit ds es hs f g h old mid new e before kept
    (join.over_with until limit es hs g h e few other s.0, s.1)

pub stops_behind_with : StretchesJoin → (until limit : ℕ) (ds es : List Meant) (f g : Feed Coding)
    (old mid new : Option (List ℕ)) (x : Fault)
    → until ≤ limit → HasGoneWith ds es f g → KeepsUp old mid f g → StopsWith until es g mid new x
    → StopsWith limit ds f old new x
stops_behind_with join until limit ds es f g old mid new x few before kept s =
    let n = s.0 in
    let hs = s.2 in
    let h = s.3 in (
      n,
      omega (arith, s.1, few),
      hs,
      h,
      (s.4.0, join.behind_with n ds es hs f g h s.4.0 before s.4.1),
      λ first p. s.5 first (kept first p),
    )

-- ---- behind what was printed before

-- all went out, and then the first of it where a write fails
pub part_stops : (limit : ℕ) (f : Feed Coding) (old new : Option (List ℕ)) (x : Fault) → IsCalm f
    → f.machine.steps ≤ limit → AppendsPart old new (console_of f.machine) → IsUnwritten x → StopsAll limit f old new x
part_stops limit f old new x calm few part unwritten =
    (f.machine.steps, few, f, (stands f, no_stretch f calm), inr (unwritten, part))

pub part_stops_with : (limit : ℕ) (ds : List Meant) (f : Feed Coding) (old new : Option (List ℕ)) (x : Fault)
    → IsCalm f → f.answers ≡ [] → f.machine.steps ≤ limit → AppendsPart old new (console_of f.machine)
    → IsUnwritten x → StopsAllWith limit ds f old new x
part_stops_with limit ds f old new x calm empty few part unwritten =
    (f.machine.steps, few, ds, f, (stands f, no_stretch_with ds f calm empty), inr (unwritten, part))

pub prints_all : (limit : ℕ) (f g : Feed Coding) (old mid new : Option (List ℕ)) (e : End)
    → Appends old mid (console_of f.machine) → Prints limit f g mid new e → PrintsAll limit f g old new e
prints_all limit f g old mid new e before s = (s.0, s.1 old before)

pub stops_all : (limit : ℕ) (f : Feed Coding) (old mid new : Option (List ℕ)) (x : Fault)
    → Appends old mid (console_of f.machine) → Stops limit f mid new x → StopsAll limit f old new x
stops_all limit f old mid new x before s = (s.0, s.1, s.2, s.3, s.4 old before)

pub prints_all_with : (limit : ℕ) (ds es : List Meant) (f g : Feed Coding) (old mid new : Option (List ℕ)) (e : End)
    → Appends old mid (console_of f.machine) → PrintsWith limit ds es f g mid new e
    → PrintsAllWith limit ds es f g old new e
prints_all_with limit ds es f g old mid new e before s = (s.0, s.1 old before)

pub stops_all_with : (limit : ℕ) (ds : List Meant) (f : Feed Coding) (old mid new : Option (List ℕ)) (x : Fault)
    → Appends old mid (console_of f.machine) → StopsWith limit ds f mid new x → StopsAllWith limit ds f old new x
stops_all_with limit ds f old mid new x before s = (s.0, s.1, s.2, s.3, s.4, s.5 old before)

-- ---- whole runs

pub breaks : StretchesJoin → (image : List ℕ) (lines : List (List ℕ)) (answers : List Answer) (limit : ℕ)
    (start : Feed Coding) (old new : Option (List ℕ)) (x : Fault) → limit < 2 ^ 64
    → start ≡ beginning no_code image lines answers [] → StopsAll limit start old new x
    → Breaks (RunsTo image lines answers []) limit old new x
unfolding Breaks
breaks join image lines answers limit start old new x small begun s =
    let n = s.0 in
    let g = s.2 in
    let first : Stretches n (beginning no_code image lines answers []) g s.3.0 =
    subst (λ (f : Feed Coding). Stretches n f g s.3.0) begun s.3.1 in (
      n,
      s.1,
      g.machine,
      (s.3.0, join.ends image lines answers [] n g s.3.0 (omega (arith, s.1, small)) first),
      s.4,
    )

pub breaks_with : StretchesJoin → (image : List ℕ) (lines : List (List ℕ)) (limit : ℕ) (ds : List Meant)
    (start : Feed Coding) (old new : Option (List ℕ)) (x : Fault) → limit < 2 ^ 64
    → start ≡ beginning no_code image lines [] [] → StopsAllWith limit ds start old new x
    → Breaks (OnRack image lines ds) limit old new x
unfolding Breaks
breaks_with join image lines limit ds start old new x small begun s =
    let n = s.0 in
    let es = s.2 in
    let g = s.3 in
    let first : StretchesWith n ds es (beginning no_code image lines [] []) g s.4.0 =
    subst (λ (f : Feed Coding). StretchesWith n ds es f g s.4.0) begun s.4.1 in (
      n,
      s.1,
      g.machine,
      (s.4.0, join.ends_with image lines [] n ds es g s.4.0 (omega (arith, s.1, small)) first),
      s.5,
    )

-- the run whose first stretch is all
pub ends_first : StretchesJoin → (image : List ℕ) (lines : List (List ℕ)) (answers : List Answer) (limit : ℕ)
    (start g : Feed Coding) (e : End) → limit < 2 ^ 64
    → start ≡ beginning no_code image lines answers [] → Stretches limit start g e
    → RunsTo image lines answers [] limit g.machine e
ends_first join image lines answers limit start g e small begun s =
    join.ends image lines answers [] limit g e small
    (subst (λ (f : Feed Coding). Stretches limit f g e) begun s)

pub ends_first_with : StretchesJoin → (image : List ℕ) (lines : List (List ℕ)) (limit : ℕ) (ds es : List Meant)
    (start g : Feed Coding) (e : End) → limit < 2 ^ 64
    → start ≡ beginning no_code image lines [] [] → StretchesWith limit ds es start g e
    → RunsTo image lines (answers_of ds g.machine.asked) [] limit g.machine e
ends_first_with join image lines limit ds es start g e small begun s =
    join.ends_with image lines [] limit ds es g e small
    (subst (λ (f : Feed Coding). StretchesWith limit ds es f g e) begun s)

-- runs of one kind are runs of another
pub given_as : (Runs Others : ℕ → MachineState Coding → End → Type 0) (Never : Type 0) (limit : ℕ)
    (old new : Option (List ℕ)) (x : Fault)
    → ((n : ℕ) (m : MachineState Coding) (e : End) → Runs n m e → Others n m e)
    → Never ⊎ Breaks Runs limit old new x → Never ⊎ Breaks Others limit old new x
unfolding Breaks
given_as Runs Others Never limit old new x turned (inl never) = inl never
given_as Runs Others Never limit old new x turned (inr b) =
    inr (b.0, b.1, b.2, (b.3.0, turned b.0 b.2 b.3.0 b.3.1), b.4)
