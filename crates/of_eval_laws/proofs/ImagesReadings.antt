-- The law `images_are_readings`: at first, an image that begins, a step, and steps.
use Rattle.std.proofs.Common.{◌≡◌, inr, ℕ, suc, Bool, true, false, List, [], length, Some}
use Rattle.std.proofs.Common.{Result, Ok, Err, refl, sym, ap, ◌∙◌, subst, if◌then◌else◌}
use Rattle.of_stacks.specs.declared.return_item.Input.{Input}
use Rattle.of_stacks.specs.declared.return_item.Input.TheVariants as input
use Rattle.of_fcodes.specs.declared.words.Word.{Word}
use Rattle.of_memory.specs.DataSpace.{DataSpace, fresh}
use Rattle.of_nodes.specs.declared.fault.NodeFault.{NodeFault}
use Rattle.of_nodes.specs.declared.phandles.Phandle.{Phandle}
use Rattle.of_nodes.specs.declared.tree.Node.{Node}
use Rattle.of_nodes.specs.Nodes.{first_tree}
use Rattle.of_board.specs.declared.board.Board.{Board}
use Rattle.of_state.specs.Loading.{begun, first_state, image_begun, line_begun, made_or_none}
use Rattle.of_eval_laws.proofs.Begun.{Opened, begun_is, image_pushes, opened_kept}
use Rattle.of_eval_laws.proofs.FramedSpace.{Laws}
use Rattle.of_state.specs.Settling.{settled, thrown_in}
use Rattle.of_state.specs.State.{Calls, State, with_board}
use Rattle.of_steps.specs.Steps.{due, settled_of, stepped, steps_from}
use Rattle.of_words.specs.Words.{word_entry}
use Rattle.of_eval_laws.specs.Readings.{HasItsImages, ImagesAreReadings, is_image, kept_readings}
use Rattle.of_eval_laws.specs.Sound.{HasSoundSpace}
use Rattle.of_eval_laws.specs.Throws.{image_more}
use Rattle.of_eval_laws.proofs.FramedWriting.{left_stands}
use Rattle.of_eval_laws.proofs.ReadingsActs.{due_reads}
use Rattle.of_eval_laws.proofs.ReadingsEnds.{Counted, Reads, none_left, none_more, settled_reads}
use Rattle.of_eval_laws.proofs.SoundSteps.{step_has, steps_keep}

-- ---- at first

made_bare : (l : Laws) (r : Result (List Node × DataSpace) NodeFault) → first_tree fresh ≡ r
    → (made_or_none r).1.images ≡ []
unfolding fresh
made_bare l (Ok x) e = (l.nodes.first fresh x.1 x.0 l.sound.at_first e).images.0
made_bare l (Err fault) e = refl

first_reads : {S : Type 0} (l : Laws) (code : S) → Reads (first_state code)
first_reads l code = ((ap length (made_bare l (first_tree fresh) refl), refl), (λ e. refl))

-- ---- an image that begins

no_image : (i : Input) (n : ℕ) → image_more i n ≡ 0 → is_image i ≡ false
no_image input.Nothing n e = refl
no_image (input.Text position) n e = refl
no_image (input.Image size position) n e = absurd cc

-- one image more stands, and is read
more_reads : {S : Type 0} (image : List ℕ) (node : Phandle) (x : Opened) (s : State S) → Reads s
    → s.flow.is_running ≡ false
    → length (image_begun image node x.0 x.1 s).board.memory.images ≡ suc (length s.board.memory.images)
    → Reads (image_begun image node x.0 x.1 s)
more_reads image node x s h stopped more =
    let i = s.flow.reading.input in
    let none = h.1 stopped in
    let shut = no_image i (kept_readings s.flow.items) none in
    let one = none_more i 0 shut in
    ((more ∙ ap suc (h.0.0 ∙ none ∙ sym one), (inr one, shut)), (λ e. absurd cc))

begun_reads : {S : Type 0} (l : Laws) (image : List ℕ) (node : Phandle) (s : State S) → HasSoundSpace s → Reads s
    → s.flow.is_running ≡ false → Reads (begun image node s)
begun_reads l image node s sound h stopped =
    begun_is (λ x. Reads x) image node s h
    (λ x e fits.
    let kept = opened_kept l s.board node x sound.0 e in
    more_reads image node x s h stopped
    (ap length (image_pushes l s.board.memory x.1.1 image kept fits).images
    ∙ ap (λ (ends : List ℕ). suc (length ends)) kept.images.0))

-- ---- a line

line_reads : {S : Type 0} (text : List ℕ) (s : State S) → Reads s → s.flow.is_running ≡ false
    → Reads (line_begun text s)
line_reads text s h stopped =
    let i = s.flow.reading.input in
    let none = h.1 stopped in
    let shut = no_image i (kept_readings s.flow.items) none in
    let one = none_more i 0 shut in
    ((h.0.0 ∙ none ∙ sym one, (inr one, shut)), (λ e. absurd cc))

-- ---- steps

either : {S : Type 0} (b : Bool) (x y : State S) → (b ≡ true → Reads x) → Reads y → Reads (if b then x else y)
either true x y h k = h refl
either false x y h k = k

step_reads : {S : Type 0} (l : Laws) (c : Calls S) (s : State S) → HasSoundSpace s → Reads s → Reads (stepped c s)
unfolding stepped
step_reads l c s sound h =
    let o = due c s.flow.next s in
    either s.flow.is_running (settled_of c o) s
    (λ e. settled_reads c (thrown_in o.ended) o.state (due_reads l c s.flow.next s sound (h.0, e))) h

-- what is so of a state that some steps lead to
abbrev IsLater : {S : Type 0} → State S → Type 0
IsLater s = HasSoundSpace s × Reads s

steps_read : {S : Type 0} (l : Laws) (c : Calls S) (n : ℕ) (s after : State S) → HasSoundSpace s → Reads s
    → steps_from c n s ≡ Some after → Reads after
steps_read l c n s after sound h e =
    (steps_keep (λ x. IsLater x) c (λ x k. (step_has l c x k.0, step_reads l c x k.0 k.1)) n s after
    (sound, h) e).1

-- ---- the law

told : {S : Type 0} (s : State S) → Reads s → HasItsImages s
told s h = record { as_many = h.0.0; inside = h.0.1; idle = h.1 }

heard : {S : Type 0} (s : State S) → HasItsImages s → Reads s
heard s h = ((h.as_many, h.inside), h.idle)

word_reads : {S : Type 0} (l : Laws) (w : Word) (after : Board) (s : State S) → HasSoundSpace s → Reads s
    → word_entry w s.board ≡ Ok after → Reads (with_board after s)
word_reads l w after s sound h e =
    let kept = left_stands l w s.board after sound.0 e in
    (subst (λ x. Counted x s.flow.reading.input s.flow.items) (sym kept.0.0) h.0, h.1)

pub images_are_readings : Laws → (S : Type 0) → ImagesAreReadings S
images_are_readings l S = record {
  first = λ code. told (first_state code) (first_reads l code);
  begun = λ image node s sound h stopped.
      told (begun image node s) (begun_reads l image node s sound (heard s h) stopped);
  line = λ text s h stopped. told (line_begun text s) (line_reads text s (heard s h) stopped);
  words = λ w after s sound h e. told (with_board after s) (word_reads l w after s sound (heard s h) e);
  done = λ c s sound h run.
      told (due c s.flow.next s).state (due_reads l c s.flow.next s sound ((heard s h).0, run));
  fallen = λ c t s h e. none_left c t s (heard s h) e;
  settled = λ c thrown s h. told (settled c s.flow.items thrown s) (settled_reads c thrown s (heard s h));
  step = λ c s sound h. told (stepped c s) (step_reads l c s sound (heard s h));
  steps = λ c n s after sound h e. told after (steps_read l c n s after sound (heard s h) e);
}
