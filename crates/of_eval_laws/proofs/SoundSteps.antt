-- The law `space_stays_sound`: at first, a load, what comes next, the end of a step, and steps.
use Rattle.std.proofs.Common.{◌≡◌, inl, inr, ℕ, zero, suc, Bool, true, false, List, [], Option, Some, None}
use Rattle.std.proofs.Common.{Result, Ok, Err, refl, subst, if◌then◌else◌}
use Rattle.std.specs.List.{IsDistinct}
use Rattle.std.specs.Prelude.{◌&&◌, is_none, option_and_then}
use Rattle.of_fcodes.specs.declared.words.Word.{Word}
use Rattle.of_memory.specs.DataSpace.{DataSpace, IsSound, fresh}
use Rattle.of_memory.specs.Growth.{image_pushed}
use Rattle.of_memory.specs.SoundChanges.{AreBytes}
use Rattle.of_nodes.specs.Nodes.{first_tree}
use Rattle.of_nodes.specs.Stored.{AreStored}
use Rattle.of_nodes.specs.declared.fault.NodeFault.{NodeFault}
use Rattle.of_nodes.specs.declared.phandles.Phandle.{Phandle}
use Rattle.of_nodes.specs.declared.tree.Node.{Node}
use Rattle.of_stacks.specs.declared.return_item.ReturnItem.{ReturnItem}
use Rattle.of_stacks.specs.declared.throws.Throw.{Throw}
use Rattle.of_board.specs.declared.board.Board.{Board}
use Rattle.of_state.specs.Loading.{begun, image_copied, line_begun, made_or_none}
use Rattle.of_state.specs.Settling.{settled, thrown_in}
use Rattle.of_state.specs.State.{Calls, State, with_board}
use Rattle.of_steps.specs.Steps.{asked_by, due, made, settled_of, stepped, steps_from}
use Rattle.of_words.specs.Words.{word_entry}
use Rattle.of_eval_laws.specs.Running.{is_at_end}
use Rattle.of_eval_laws.specs.Sound.{AreTexts, HasSoundSpace, SpaceStaysSound, StaysSound}
use Rattle.of_eval_laws.proofs.Begun.{begun_is, image_pushes, opened_kept}
use Rattle.of_eval_laws.proofs.FramedSpace.{Laws, Stands}
use Rattle.of_eval_laws.proofs.FramedWriting.{left_stands}
use Rattle.of_eval_laws.proofs.RunningEnds.{settles_ends}
use Rattle.of_eval_laws.proofs.RunningTokens.{due_leaves}
use Rattle.of_eval_laws.proofs.RunningWords.{Kept, KeptBy}
use Rattle.of_eval_laws.proofs.TextsKept.{begun_texts, due_texts, settled_texts, step_texts}

-- ---- at first

nothing_stored : (m : DataSpace) → AreStored m []
unfolding IsDistinct
nothing_stored m = λ i. record { held = λ name p e. absurd cc; distinct = tt }

record IsFirst (x : List Node × DataSpace) : Type 0 where
  sound : IsSound x.1
  stored : AreStored x.1 x.0

first_of : (l : Laws) (r : Result (List Node × DataSpace) NodeFault) → first_tree fresh ≡ r → IsFirst (made_or_none r)
first_of l (Ok x) e = record {
  sound = (l.nodes.first fresh x.1 x.0 l.sound.at_first e).sound;
  stored = l.stored.first fresh x.1 x.0 l.sound.at_first e;
}
first_of l (Err fault) e = record { sound = l.sound.at_first; stored = nothing_stored fresh }

first_is : (l : Laws) → IsFirst (made_or_none (first_tree fresh))
first_is l = first_of l (first_tree fresh) refl

-- ---- what comes next

-- what is left of a board has a sound data space, and its properties are stored if they were
pub record BoardStays (w after : Board) : Type 0 where
  pub sound : IsSound after.memory
  pub stored : AreStored w.memory w.tree → AreStored after.memory after.tree

same_sound : (w : Board) → IsSound w.memory → BoardStays w w
same_sound w sound = record { sound = sound; stored = λ a. a }

then_sound : (w between after : Board) → BoardStays w between → BoardStays between after → BoardStays w after
then_sound w between after f g = record { sound = g.sound; stored = λ a. g.stored (f.stored a) }

stands_sound : (w after : Board) → Stands w after → BoardStays w after
stands_sound w after h = record { sound = h.1; stored = h.2 }

pub kept_sound : (b : Bool) (w after : Board) → Kept b w after → BoardStays w after
kept_sound b w after (inl h) = stands_sound w after h
kept_sound b w after (inr h) = record { sound = h.0; stored = h.1 }

left_sound : (b : Bool) (w after : Board) (e : Result (Unit {0}) Throw) → KeptBy b w after e → BoardStays w after
left_sound b w after (Ok x) h = kept_sound b w after h
left_sound b w after (Err t) h = stands_sound w after h

due_sound : {S : Type 0} (l : Laws) (c : Calls S) (s : State S) → HasSoundSpace s
    → BoardStays s.board (due c s.flow.next s).state.board
due_sound l c s sound =
    let o = due c s.flow.next s in
    left_sound (is_at_end s.flow.next s) s.board o.state.board o.ended (due_leaves l c s.flow.next s sound)

settled_sound : {S : Type 0} (l : Laws) (c : Calls S) (items : List ReturnItem) (thrown : Option Throw) (s : State S)
    → IsSound s.board.memory → BoardStays s.board (settled c items thrown s).board
settled_sound l c items thrown s sound =
    let h = settles_ends l c items thrown s sound in record { sound = h.0; stored = h.1 }

-- ---- a load

begun_sound : {S : Type 0} (l : Laws) (image : List ℕ) (node : Phandle) (s : State S) → IsSound s.board.memory
    → AreBytes image → BoardStays s.board (begun image node s).board
begun_sound l image node s sound small =
    let m = s.board.memory in
    let ns = s.board.tree in
    begun_is (λ x. BoardStays s.board x.board) image node s (same_sound s.board sound)
    (λ x e fits.
    let kept = opened_kept l s.board node x sound e in
    let one = image_pushes l m x.1.1 image kept fits in
    record {
      sound = one.sound small;
      stored = λ a.
          l.stored.by_others x.1.1 (image_copied (image_pushed x.1.1 image) x.1.1) ns kept.sound one.properties
          (l.stored.by_others m x.1.1 ns sound kept.properties a);
    })

-- ---- steps

either : {S : Type 0} (w : Board) (b : Bool) (x y : State S) → BoardStays w x.board → BoardStays w y.board
    → BoardStays w (if b then x else y).board
either w true x y h k = h
either w false x y h k = k

step_sound : {S : Type 0} (l : Laws) (c : Calls S) (s : State S) → HasSoundSpace s
    → BoardStays s.board (stepped c s).board
unfolding stepped
step_sound l c s sound =
    let o = due c s.flow.next s in
    let one = due_sound l c s sound in
    either s.board s.flow.is_running (settled_of c o) s
    (then_sound s.board o.state.board (settled_of c o).board one
    (settled_sound l c o.state.flow.items (thrown_in o.ended) o.state one.sound))
    (same_sound s.board sound.0)

pub step_has : {S : Type 0} (l : Laws) (c : Calls S) (s : State S) → HasSoundSpace s → HasSoundSpace (stepped c s)
step_has l c s sound = ((step_sound l c s sound).sound, step_texts l c s sound)

one_keeps : {S : Type 0} (P : State S → Type 0) (c : Calls S) (b : Bool) (s after : State S) → P (stepped c s)
    → (if b then Some (stepped c s) else None) ≡ Some after → P after
one_keeps P c true s after h e = let same : stepped c s ≡ after = cc in subst P same h
one_keeps P c false s after h e = absurd cc

then_keeps : {S : Type 0} (P : State S → Type 0) (c : Calls S) → ((s : State S) → P s → P (stepped c s))
    → (o : Option (State S)) (after : State S) → ((s : State S) → o ≡ Some s → P s)
    → option_and_then (made c) o ≡ Some after → P after
then_keeps P c step None after h e = absurd cc
then_keeps P c step (Some s) after h e =
    one_keeps P c (s.flow.is_running && is_none (asked_by c s)) s after (step s (h s refl)) e

-- what each step keeps, any number of steps does
pub steps_keep : {S : Type 0} (P : State S → Type 0) (c : Calls S) → ((s : State S) → P s → P (stepped c s))
    → (n : ℕ) (s after : State S) → P s → steps_from c n s ≡ Some after → P after
unfolding steps_from
steps_keep P c step zero s after h e = let same : s ≡ after = cc in subst P same h
steps_keep P c step (suc n) s after h e =
    then_keeps P c step (steps_from c n s) after (λ x f. steps_keep P c step n s x h f) e

-- ---- the law

-- of a state
left_so : {S : Type 0} (s after : State S) → BoardStays s.board after.board → AreTexts after.flow.texts
    → StaysSound s after
left_so s after h t = record { sound = (h.sound, t); stored = h.stored }

word_sound : (l : Laws) (w : Word) (b after : Board) → IsSound b.memory → word_entry w b ≡ Ok after → BoardStays b after
word_sound l w b after sound e = stands_sound b after (left_stands l w b after sound e)

steps_sound : {S : Type 0} (l : Laws) (c : Calls S) (n : ℕ) (s after : State S) → HasSoundSpace s
    → steps_from c n s ≡ Some after → StaysSound s after
steps_sound l c n s after sound e =
    steps_keep (λ x. StaysSound s x) c
    (λ x h.
    left_so s (stepped c x)
    (then_sound s.board x.board (stepped c x).board (record { sound = h.sound.0; stored = h.stored })
    (step_sound l c x h.sound))
    (step_texts l c x h.sound))
    n s after (left_so s s (same_sound s.board sound.0) sound.1) e

pub space_stays_sound : Laws → (S : Type 0) → SpaceStaysSound S
space_stays_sound l S = record {
  first = λ code. ((first_is l).sound, tt);
  first_stored = (first_is l).stored;
  begun = λ image node s sound small.
      left_so s (begun image node s) (begun_sound l image node s sound.0 small) (begun_texts image node s sound.1);
  line = λ text s sound small.
      left_so s (line_begun text s) (record { sound = sound.0; stored = λ a. a }) (small, sound.1);
  words = λ w after s sound e.
      left_so s (with_board after s) (word_sound l w s.board after sound.0 e) sound.1;
  done = λ c s sound.
      left_so s (due c s.flow.next s).state (due_sound l c s sound) (due_texts l c s.flow.next s sound);
  settled = λ c items thrown s sound.
      left_so s (settled c items thrown s) (settled_sound l c items thrown s sound.0)
      (settled_texts c items thrown s sound.1);
  step = λ c s sound. left_so s (stepped c s) (step_sound l c s sound) (step_texts l c s sound);
  steps = λ c n s after sound e. steps_sound l c n s after sound e;
}
