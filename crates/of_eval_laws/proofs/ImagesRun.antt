-- The law `images_run`: what comes next and the end of a step, taken together.
use Rattle.std.proofs.Common.{◌≡◌, ◌⊎◌, inl, inr, ℕ, zero, suc, ◌+◌, Bool, true, false, List, [], ◌∷◌, ◌++◌, drop}
use Rattle.std.proofs.Common.{Some, None}
use Rattle.std.proofs.Common.{Result, Ok, Err, refl, sym, ap, subst, ◌∙◌, length, if◌then◌else◌}
use Rattle.std.specs.Prelude.{is_ok}
use Rattle.std.proofs.lemmas.List.{drop-drop}
use Rattle.of_stacks.specs.declared.throws.Throw.{Throw}
use Rattle.of_memory.specs.DataSpace.{AreStacked, DataSpace, IsSound, free_after}
use Rattle.of_memory.specs.Growth.{image_fits}
use Rattle.of_nodes.specs.declared.phandles.Phandle.{Phandle}
use Rattle.of_ihandles.specs.declared.instance_fault.InstanceFault.{InstanceFault}
use Rattle.of_state.specs.Loading.{begun, begun_by, begun_unless, image_begun, instance_on, load_fault}
use Rattle.of_state.specs.declared.load_fault.LoadFault.TheVariants.{ImageTooLong, NoInstance}
use Rattle.of_state.specs.State.{Calls, State}
use Rattle.of_state.specs.Settling.{settled, thrown_in}
use Rattle.of_steps.specs.Steps.{due, settled_of, stepped, steps_from}
use Rattle.of_eval_laws.specs.Running.{DueLeaves, GoOn, ImagesRun, LatestEnd, OneBegins, OthersRun, RunningImage}
use Rattle.of_eval_laws.specs.Running.{SomeEnd, is_at_end, running, throws_late}
use Rattle.of_eval_laws.specs.Sound.{HasSoundSpace}
use Rattle.of_board.specs.declared.board.Board.{Board}
use Rattle.of_eval_laws.proofs.FramedSpace.{Laws, Stands, then_stands}
use Rattle.of_eval_laws.proofs.Begun.{Opened, image_pushes, opened_kept}
use Rattle.of_eval_laws.proofs.RunningBytes.{all_run}
use Rattle.of_eval_laws.proofs.RunningEnds.{end_leaves, left_ends, settles_ends, then_end, worked_off}
use Rattle.of_eval_laws.proofs.SoundSteps.{kept_sound, step_has, steps_keep}
use Rattle.of_eval_laws.proofs.RunningTokens.{due_leaves}
use Rattle.of_eval_laws.proofs.RunningWords.{Kept, KeptBy}

due_left : (b : Bool) (w after : Board) (e : Result (Unit {0}) Throw) → AreStacked w.memory.images
    → KeptBy b w after e → DueLeaves b w.memory after.memory e
due_left false w after (Ok x) stacked (inl h) = inl (all_run w.memory after.memory stacked h.0)
due_left false w after (Ok x) stacked (inr h) = inr h.2
due_left true w after (Ok x) stacked (inl h) = inr (inl (all_run w.memory after.memory stacked h.0))
due_left true w after (Ok x) stacked (inr (r, stored, inl e)) = inl e
due_left true w after (Ok x) stacked (inr (r, stored, inr one)) = inr (inr one)
due_left b w after (Err t) stacked h = all_run w.memory after.memory stacked h.0

-- ---- with what is worked off then

goes_on : (w after last : Board) → IsSound w.memory → Kept false w after → Stands after last
    → GoOn w.memory last.memory
goes_on w after last r (inl h) st =
    inl (all_run w.memory last.memory r.images (then_stands w after last h st).0)
goes_on w after last r (inr (full, stored, (image, e))) st =
    inr (image, all_run after.memory last.memory full.images st.0 ∙ e)

-- what a whole step may leave
abbrev StepLeaves : DataSpace → DataSpace → Type 0
StepLeaves m after = SomeEnd m after ⊎ GoOn m after

-- and then some of the latest end
ends_then : (m after last : DataSpace) → LatestEnd 1 m after → SomeEnd after last → SomeEnd m last
ends_then m after last e h = then_end m after last 1 e h

begins_then : (m after last : DataSpace) → OneBegins m after → SomeEnd after last → StepLeaves m last
begins_then m after last (image, e) (zero, h) = inr (inr (image, h ∙ e))
begins_then m after last (image, e) (suc n, h) = inl (n, h ∙ ap (λ x. drop (suc n) x) e)

kept_ends : (b : Bool) (w after last : Board) → IsSound w.memory → Kept b w after → SomeEnd after.memory last.memory
    → StepLeaves w.memory last.memory
kept_ends false w after last r (inl h) e =
    inl (then_end w.memory after.memory last.memory 0 (all_run w.memory after.memory r.images h.0) e)
kept_ends false w after last r (inr (full, stored, one)) e = begins_then w.memory after.memory last.memory one e
kept_ends true w after last r (inl h) e =
    inl (then_end w.memory after.memory last.memory 0 (all_run w.memory after.memory r.images h.0) e)
kept_ends true w after last r (inr (full, stored, inl e)) h =
    inl (ends_then w.memory after.memory last.memory e h)
kept_ends true w after last r (inr (full, stored, inr one)) e = begins_then w.memory after.memory last.memory one e

settles : {S : Type 0} (l : Laws) (b : Bool) (c : Calls S) (w : Board) (e : Result (Unit {0}) Throw) (s : State S)
    → IsSound w.memory → KeptBy b w s.board e
    → StepLeaves w.memory (settled c s.flow.items (thrown_in e) s).board.memory
settles l b c w (Ok x) s r h =
    kept_ends b w s.board (settled c s.flow.items None s).board r h
    (settles_ends l c s.flow.items None s (kept_sound b w s.board h).sound).2
settles l b c w (Err t) s r h =
    inl
    (then_end w.memory s.board.memory (settled c s.flow.items (Some t) s).board.memory 0
    (all_run w.memory s.board.memory r.images h.0) (settles_ends l c s.flow.items (Some t) s h.1).2)

nothing_ends : {S : Type 0} (l : Laws) (c : Calls S) (w : Board) (e : Result (Unit {0}) Throw) (s : State S)
    → IsSound w.memory → e ≡ Ok tt → throws_late s.flow.items s.board.stack ≡ false → KeptBy false w s.board e
    → GoOn w.memory (settled c s.flow.items (thrown_in e) s).board.memory
nothing_ends l c w (Ok x) s r done late h =
    goes_on w s.board (settled c s.flow.items None s).board r h
    (worked_off l c s.flow.items s late (kept_sound false w s.board h).sound)
nothing_ends l c w (Err t) s r done late h = absurd cc

-- ---- one step, or none where nothing runs

either : {S : Type 0} (P : DataSpace → Type 0) (b : Bool) (x y : State S) → P x.board.memory → P y.board.memory
    → P (if b then x else y).board.memory
either P true x y hx hy = hx
either P false x y hx hy = hy

step_leaves : {S : Type 0} (l : Laws) (c : Calls S) (s : State S) → HasSoundSpace s
    → StepLeaves s.board.memory (stepped c s).board.memory
unfolding stepped
step_leaves l c s sound =
    let o = due c s.flow.next s in
    either (λ x. StepLeaves s.board.memory x) s.flow.is_running (settled_of c o) s
    (settles l (is_at_end s.flow.next s) c s.board o.ended o.state sound.0
    (due_leaves l c s.flow.next s sound))
    (inr (inl refl))

step_goes_on : {S : Type 0} (l : Laws) (c : Calls S) (s : State S) → HasSoundSpace s
    → is_at_end s.flow.next s ≡ false
    → (let o = due c s.flow.next s in
    (o.ended ≡ Ok tt → throws_late o.state.flow.items o.state.board.stack ≡ false
    → GoOn s.board.memory (stepped c s).board.memory))
unfolding stepped
step_goes_on l c s sound inside done late =
    let o = due c s.flow.next s in
    either (λ x. GoOn s.board.memory x) s.flow.is_running (settled_of c o) s
    (nothing_ends l c s.board o.ended o.state sound.0 done late
    (subst (λ b. KeptBy b s.board o.state.board o.ended) inside (due_leaves l c s.flow.next s sound)))
    (inl refl)

-- ---- any number of steps

dropped : (n k : ℕ) (xs ys : List RunningImage)
    → (ended : ℕ) × (more : List RunningImage) × (drop n (xs ++ drop k ys) ≡ more ++ drop ended ys)
dropped zero k xs ys = (k, xs, refl)
dropped (suc n) k [] ys = (k + suc n, [], drop-drop (suc n) k ys)
dropped (suc n) k (x ∷ xs) ys = dropped n k xs ys

run_then : (m after last : DataSpace) → OthersRun m after → StepLeaves after last → OthersRun m last
run_then m after last (k, begun, e) (inl (n, h)) =
    let rest = dropped n k begun (running m) in
    (rest.0, rest.1, h ∙ ap (λ x. drop n x) e ∙ rest.2)
run_then m after last (k, begun, e) (inr (inl h)) = (k, begun, h ∙ e)
run_then m after last (k, begun, e) (inr (inr (image, h))) = (k, image ∷ begun, h ∙ ap (λ x. image ∷ x) e)

-- what is so of a state that some steps lead to
abbrev IsLater : {S : Type 0} → DataSpace → State S → Type 0
IsLater m s = HasSoundSpace s × OthersRun m s.board.memory

steps_run : {S : Type 0} (l : Laws) (c : Calls S) (n : ℕ) (s after : State S) → HasSoundSpace s
    → steps_from c n s ≡ Some after → OthersRun s.board.memory after.board.memory
steps_run l c n s after sound e =
    (steps_keep (λ x. IsLater s.board.memory x) c
    (λ x h. (
      step_has l c x h.0,
      run_then s.board.memory x.board.memory (stepped c x).board.memory h.1 (step_leaves l c x h.0),
    ))
    n s after (sound, (0, [], refl)) e).1

-- ---- an image that begins

-- an image runs on top of others, with these bytes
abbrev RunsOn : DataSpace → List ℕ → DataSpace → Type 0
RunsOn m image after = running after ≡ record { begin = free_after m.images; bytes = image } ∷ running m

runs_on : {S : Type 0} (l : Laws) (image : List ℕ) (node : Phandle) (s : State S) (x : Opened)
    → IsSound s.board.memory → instance_on node s.board ≡ Ok x → image_fits s.board.memory (length image) ≡ true
    → RunsOn s.board.memory image (image_begun image node x.0 x.1 s).board.memory
runs_on l image node s x sound e fits =
    let m = s.board.memory in
    let kept = opened_kept l s.board node x sound e in
    let begins = ap free_after kept.images.0 in
    (image_pushes l m x.1.1 image kept fits).runs
    ∙ ap (λ (a : ℕ). record { begin = a; bytes = image } ∷ running x.1.1) begins
    ∙ ap (λ (rest : List RunningImage). record { begin = free_after m.images; bytes = image } ∷ rest)
    (all_run m x.1.1 sound.images kept.images)

begun_runs_at : {S : Type 0} (l : Laws) (image : List ℕ) (node : Phandle) (s : State S) (b : Bool)
    (r : Result Opened InstanceFault) → image_fits s.board.memory (length image) ≡ b → instance_on node s.board ≡ r
    → IsSound s.board.memory → (if b then if is_ok r then None else Some NoInstance else Some ImageTooLong) ≡ None
    → RunsOn s.board.memory image
    (begun_unless (if b then if is_ok r then None else Some NoInstance else Some ImageTooLong) image node
    s).board.memory
begun_runs_at l image node s true (Ok x) fits e sound none =
    subst (λ r. RunsOn s.board.memory image (begun_by image node r s).board.memory) (sym e)
    (runs_on l image node s x sound e fits)
begun_runs_at l image node s true (Err fault) fits e sound none = absurd cc
begun_runs_at l image node s false r fits e sound none = absurd cc

begun_runs : {S : Type 0} (l : Laws) (image : List ℕ) (node : Phandle) (s : State S) → IsSound s.board.memory
    → load_fault image node s ≡ None → RunsOn s.board.memory image (begun image node s).board.memory
begun_runs l image node s sound none =
    begun_runs_at l image node s (image_fits s.board.memory (length image)) (instance_on node s.board) refl refl sound
    none

-- ---- the law

pub images_run : Laws → (S : Type 0) → ImagesRun S
images_run l S = record {
  begun = λ image node s sound none. begun_runs l image node s sound none;
  given_back = λ now items b sound. left_ends l now items b sound;
  done = λ c s sound.
      let o = due c s.flow.next s in
      due_left (is_at_end s.flow.next s) s.board o.state.board o.ended sound.0.images
      (due_leaves l c s.flow.next s sound);
  settled = λ c items thrown s sound. end_leaves l c items thrown s sound;
  go_on = λ c s sound inside done late. step_goes_on l c s sound inside done late;
  step = λ c s sound. step_leaves l c s sound;
  steps = λ c n s after sound e. steps_run l c n s after sound e;
}
