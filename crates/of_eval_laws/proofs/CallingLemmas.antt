-- A method runs for an instance, and the caller's is the current one again at its end.
use Rattle.std.proofs.Common.{◌≡◌, ℕ, Bool, true, false, nat_le, List, length, Option, Some, None, Result, Ok, Err}
use Rattle.std.proofs.Common.{refl, ap, subst, ◌∙◌}
use Rattle.std.specs.Prelude.{[], ◌∷◌, ◌&&◌, ◌==◌, not, if◌then◌else◌}
use Rattle.of_cells.specs.declared.cells.Cell.{Cell}
use Rattle.of_stacks.specs.declared.throws.Throw.{Throw}
use Rattle.of_stacks.specs.Order.{counting, fault_if, later_rank, rank}
use Rattle.of_stacks.specs.Throws.{bad_handle, return_stack_overflow, stack_underflow}
use Rattle.of_compile.specs.Words.{is_word}
use Rattle.of_instances.specs.declared.calling.CallingWord.{CallingWord}
use Rattle.of_instances.specs.declared.calling.CallingWord.TheVariants as calling
use Rattle.of_instances.specs.declared.calling.MethodCall.{MethodCall}
use Rattle.of_instances.specs.Calling.{calling_entry}
use Rattle.of_instances.specs.declared.calling.Callee.{Callee}
use Rattle.of_instances.specs.declared.calling.Callee.TheVariants.{Live, New}
use Rattle.of_stacks.specs.declared.return_item.Due.{Due}
use Rattle.of_stacks.specs.declared.return_item.Due.TheVariants as due
use Rattle.of_stacks.specs.declared.return_item.ReturnItem.{ReturnItem}
use Rattle.of_stacks.specs.declared.return_item.ReturnItem.TheVariants.{Caller}
use Rattle.of_eval.specs.Acts.{front_of}
use Rattle.of_eval.specs.Doing.{executed, worked}
use Rattle.of_eval.specs.Executing.{Plan, PlansUnroll, act_of_plan, call_plan, callee_plan, execution}
use Rattle.of_eval.specs.Executing.{opening_plan, plan_of, unless_stopped}
use Rattle.of_state.specs.Settling.{settled}
use Rattle.of_state.specs.State.{Calls, State, failed, with_stack}
use Rattle.of_eval_laws.specs.Calling.{CallsComeBack, IsCalled, for_instance, released_in, word_of}
use Rattle.of_eval_laws.specs.Returning.{IsCall}
use Rattle.of_eval_laws.specs.Going.{Is}
use Rattle.of_eval_laws.proofs.Callees.{HasCallee, IsCallee, callees}
use Rattle.of_eval_laws.proofs.GoingLemmas.{behind, has_item, has_none, performed}

-- the plan of such a word, by what it finds
call_is : {S : Type 0} → PlansUnroll → (c : Calls S) (xt : ℕ) (k : CallingWord) (s : State S)
    → Is s xt (word_of k) → (r : Result (Option MethodCall) Throw) → calling_entry k s.board ≡ r
    → executed c xt s ≡ performed c (call_plan (word_of k) r (front_of s) plan_of) s
unfolding execution
call_is law c xt calling.Package s h r e =
    ap (λ p. performed c p s)
    (behind law xt s h.0 (word_of calling.Package) h.1 h.2
    ∙ ap (λ x. call_plan (word_of calling.Package) x (front_of s) plan_of) e)
call_is law c xt calling.Method s h r e =
    ap (λ p. performed c p s)
    (behind law xt s h.0 (word_of calling.Method) h.1 h.2
    ∙ ap (λ x. call_plan (word_of calling.Method) x (front_of s) plan_of) e)
call_is law c xt calling.Parent s h r e =
    ap (λ p. performed c p s)
    (behind law xt s h.0 (word_of calling.Parent) h.1 h.2
    ∙ ap (λ x. call_plan (word_of calling.Parent) x (front_of s) plan_of) e)
call_is law c xt calling.Close s h r e =
    ap (λ p. performed c p s)
    (behind law xt s h.0 (word_of calling.Close) h.1 h.2
    ∙ ap (λ x. call_plan (word_of calling.Close) x (front_of s) plan_of) e)
call_is law c xt calling.Open s h r e =
    ap (λ p. performed c p s)
    (behind law xt s h.0 (word_of calling.Open) h.1 h.2
    ∙ ap (λ x. call_plan (word_of calling.Open) x (front_of s) plan_of) e)
call_is law c xt calling.OpenNamed s h r e =
    ap (λ p. performed c p s)
    (behind law xt s h.0 (word_of calling.OpenNamed) h.1 h.2
    ∙ ap (λ x. call_plan (word_of calling.OpenNamed) x (front_of s) plan_of) e)

-- the faults of a call, by whether the number is a word, and whether the return stack is full
abbrev faults_by : Bool → Bool → Option Throw
faults_by is_one is_full =
    counting (fault_if (not is_one) bad_handle ∷ fault_if is_full return_stack_overflow ∷ [])

-- the plan of what is called
called_plan : {S : Type 0} → MethodCall → State S → Plan
called_plan m s = callee_plan m.callee m (front_of s) plan_of

found : {S : Type 0} → PlansUnroll → (c : Calls S) (xt : ℕ) (k : CallingWord) (m : MethodCall) (s : State S)
    → Is s xt (word_of k) → calling_entry k s.board ≡ Ok (Some m) → (one full : Bool)
    → is_word s.words.dictionary m.xt.0 ≡ one → nat_le 256 (length s.flow.items) ≡ full
    → executed c xt s ≡ performed c (unless_stopped (faults_by one full) (called_plan m s)) s
unfolding called_plan
found law c xt k m s h e one full w f =
    call_is law c xt k s h (Ok (Some m)) e
    ∙ ap (λ x. performed c (unless_stopped (faults_by x (nat_le 256 (length s.flow.items))) (called_plan m s)) s) w
    ∙ ap (λ x. performed c (unless_stopped (faults_by one x) (called_plan m s)) s) f

-- what is called, where it is a word, and there is room
runs_plan : {S : Type 0} → PlansUnroll → (c : Calls S) (xt : ℕ) (k : CallingWord) (m : MethodCall) (s : State S)
    → IsCalled k m xt s → (callee : Callee) → m.callee ≡ callee
    → executed c xt s ≡ performed c (callee_plan callee m (front_of s) plan_of) s
unfolding rank later_rank called_plan
runs_plan law c xt k m s h callee e =
    found law c xt k m s h.0 h.1 true false h.2 (has_item (length s.flow.items) h.3)
    ∙ ap (λ x. performed c (callee_plan x m (front_of s) plan_of) s) e

pub calls_come_back : {S : Type 0} → PlansUnroll → CallsComeBack S
unfolding execution act_of_plan worked settled called_plan rank later_rank
calls_come_back {S} law = record {
  runs = λ c xt k m ih d s h e. runs_plan law c xt k m s h (Live ih d) e;
  opens = λ c xt k m ph a n ih x s h e o.
      runs_plan law c xt k m s h (New ph a n) e
      ∙ ap (λ r. performed c (opening_plan r m (front_of s) plan_of) s) o;
  no_room = λ c xt k m ph a n t s h e o.
      runs_plan law c xt k m s h (New ph a n) e
      ∙ ap (λ r. performed c (opening_plan r m (front_of s) plan_of) s) o;
  refused = λ c xt k t s h e. call_is law c xt k s h (Err t) e;
  no_word = λ c xt k m s h e w. not_one c xt k m s h e w (nat_le 256 (length s.flow.items)) refl;
  full = λ c xt k m s h e w l. found law c xt k m s h e true true w (has_none (length s.flow.items) l);
  keeps = λ k b m ih d e f.
      (subst (λ x. IsCallee b x) f (subst (λ r. HasCallee b r) e (callees k b))).1;
  ends = λ c me r s. refl;
  closes = λ c me ih r s. refl;
  answers_true = λ c me ih x cells r s e t. answers c me ih x cells r s e false t;
  answers_false = λ c me ih x cells r s e t. answers c me ih x cells r s e true t;
  answers_nothing = λ c me ih r s e t. nothing c me ih r s e t;
  thrown = thrown_on;
}
  where
    thrown_on : (c : Calls S) (d : Due) (r : List ReturnItem) (t : Throw) (s : State S) → IsCall d
        → settled c (Caller d ∷ r) (Some t) s
        ≡ settled c r (Some t) (for_instance s.board.active.my_self s.board.stack r s)
    thrown_on c (due.Method me) r t s h = refl
    thrown_on c (due.Close me instance) r t s h = refl
    thrown_on c (due.Open me instance) r t s h = refl
    thrown_on c (due.Load active me instance count) r t s h = absurd h

    not_one : (c : Calls S) (xt : ℕ) (k : CallingWord) (m : MethodCall) (s : State S) → Is s xt (word_of k)
        → calling_entry k s.board ≡ Ok (Some m) → is_word s.words.dictionary m.xt.0 ≡ false → (full : Bool)
        → nat_le 256 (length s.flow.items) ≡ full → executed c xt s ≡ failed bad_handle s
    not_one c xt k m s h e w true f = found law c xt k m s h e false true w f
    not_one c xt k m s h e w false f = found law c xt k m s h e false false w f

    late : (c : Calls S) (me ih x : Cell) (cells : List Cell) (r : List ReturnItem) (s : State S) (b : Bool)
        → settled c r (if b && false then Some stack_underflow else None)
        (if x.0 == 0 then released_in ih (for_instance me (x ∷ cells) r s) else for_instance me (ih ∷ cells) r s)
        ≡ settled c r None
        (if x.0 == 0 then released_in ih (for_instance me (x ∷ cells) r s) else for_instance me (ih ∷ cells) r s)
    late c me ih x cells r s true = refl
    late c me ih x cells r s false = refl

    answers : (c : Calls S) (me ih x : Cell) (cells : List Cell) (r : List ReturnItem) (s : State S)
        → s.board.stack ≡ x ∷ cells → (b : Bool) → (x.0 == 0) ≡ b
        → settled c (Caller (due.Open me ih) ∷ r) None s
        ≡ settled c r None
        (if b then released_in ih (for_instance me (x ∷ cells) r s) else for_instance me (ih ∷ cells) r s)
    answers c me ih x cells r s e b t =
        ap (λ y. settled c (Caller (due.Open me ih) ∷ r) None (with_stack y s)) e
        ∙ late c me ih x cells r s s.flow.is_running
        ∙ ap
        (λ y. settled c r None
        (if y then released_in ih (for_instance me (x ∷ cells) r s) else for_instance me (ih ∷ cells) r s)) t

    nothing : (c : Calls S) (me ih : Cell) (r : List ReturnItem) (s : State S) → s.board.stack ≡ []
        → s.flow.is_running ≡ true
        → settled c (Caller (due.Open me ih) ∷ r) None s
        ≡ settled c r (Some stack_underflow) (for_instance me [] r s)
    nothing c me ih r s e t =
        ap (λ y. settled c (Caller (due.Open me ih) ∷ r) None (with_stack y s)) e
        ∙ ap
        (λ b. settled c r (if b && true then Some stack_underflow else None) (for_instance me [] r s)) t
