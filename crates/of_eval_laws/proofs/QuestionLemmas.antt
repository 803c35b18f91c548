-- The law `questions_settle`: words over keys, devices and time, words that run another, and what needs memory.
use Rattle.std.proofs.Common.{◌≡◌, ◌∙◌, ℕ, true, Some, None, Result, ap, sym}
use Rattle.std.specs.Prelude.{◌↔◌}
use Rattle.std.proofs.lemmas.Bool.{false≢true}
use Rattle.std.proofs.lemmas.Option.{same_Some}
use Rattle.of_stacks.specs.declared.throws.Throw.{Throw}
use Rattle.of_fcodes.specs.declared.words.DevicesWord.{DevicesWord}
use Rattle.of_fcodes.specs.declared.words.KeysWord.{KeysWord}
use Rattle.of_fcodes.specs.declared.words.Word.TheVariants as word
use Rattle.of_board.specs.declared.board.Board.{Board}
use Rattle.of_asking.specs.Devices.{devices_entry}
use Rattle.of_asking.specs.Keys.{keys_entry}
use Rattle.of_asking.specs.Questions.{Asking, Asks, Gives}
use Rattle.of_asking.specs.Settling.{AnswersSettle}
use Rattle.of_asking.specs.declared.query.Query.{Query}
use Rattle.of_eval.specs.Acts.{WordAct}
use Rattle.of_eval.specs.Acts as act
use Rattle.of_eval.specs.Doing.{executed, work_grows, worked}
use Rattle.of_eval.specs.Executing.{PlansUnroll, act_of_plan, entered, execution, guarded, written_act}
use Rattle.of_state.specs.State.{Calls, Outcome, State, by_asking, by_board, with_stack}
use Rattle.of_eval_laws.specs.Going.{Is}
use Rattle.of_eval_laws.specs.Questions.{IsOpening, QuestionsSettle}
use Rattle.of_eval_laws.proofs.CallingLemmas.{calls_come_back}
use Rattle.of_eval_laws.proofs.GoingLemmas.{behind, catch_keeps, performed}
use Rattle.of_eval_laws.proofs.AnsweredActs.{board_asks, made_if, nothing_asked}
use Rattle.of_eval_laws.proofs.QuietActs.{asks_at_last, executes_next, next_found}

-- ---- words over keys, devices and time

keys_act : {S : Type 0} → PlansUnroll → (c : Calls S) (xt : ℕ) (w : KeysWord) (s : State S) → Is s xt (word.Keys w)
    → executed c xt s ≡ by_asking (keys_entry w s.reply s.board) s
unfolding execution act_of_plan written_act worked
keys_act law c xt w s h = ap (λ p. performed c p s) (behind law xt s h.0 (word.Keys w) h.1 h.2)

devices_act : {S : Type 0} → PlansUnroll → (c : Calls S) (xt : ℕ) (w : DevicesWord) (s : State S)
    → Is s xt (word.Devices w) → executed c xt s ≡ by_asking (devices_entry w s.reply s.board) s
unfolding execution act_of_plan written_act worked
devices_act law c xt w s h = ap (λ p. performed c p s) (behind law xt s h.0 (word.Devices w) h.1 h.2)

just : {S : Type 0} (x : Asking Board) (q : Query) (s : State S) → ((by_asking x s).asks ≡ Some q) ↔ (x ≡ Asks q)
just (Asks p) q s = (λ e. ap Asks (same_Some _ _ e), λ e. cc)
just (Gives r) q s =
    (λ e. (let none : None ≡ Some q = sym (board_asks r s) ∙ e in absurd cc), λ e. absurd cc)

-- what executing a word does where its table says this
done_so : {S : Type 0} (o : Outcome S) (x : Asking Board) (r : Result Board Throw) (s : State S) → o ≡ by_asking x s
    → x ≡ Gives r → (o ≡ by_board r s) × (o.asks ≡ None)
done_so o x r s e f =
    let same : o ≡ by_board r s = e ∙ ap (λ y. by_asking y s) f in
    (same, ap (λ (y : Outcome _). y.asks) same ∙ board_asks r s)

asked_just : {S : Type 0} (o : Outcome S) (x y : Asking Board) (q : Query) (s : State S) → o ≡ by_asking x s → x ≡ y
    → (o.asks ≡ Some q) ↔ (y ≡ Asks q)
asked_just o x y q s e f = rw (e, f) (just y q s)

-- ---- what needs memory

opening : {S : Type 0} (c : Calls S) (a : WordAct) (q : Query) (s : State S) → (worked c a s).asks ≡ Some q
    → work_grows a ≡ true → IsOpening a
unfolding worked
opening c (act.Fails t) q s e g = absurd cc
opening c (act.Raises t cells) q s e g = absurd cc
opening c (act.Leaves cells) q s e g = absurd cc
opening c (act.Works w) q s e g = let none : None ≡ Some q = sym (board_asks _ s) ∙ e in absurd cc
opening c (act.Listens w) q s e g = absurd (false≢true g)
opening c (act.Reaches w) q s e g = absurd (false≢true g)
opening c (act.Moves cells move to) q s e g = absurd cc
opening c (act.Knows w cells) q s e g = absurd cc
opening c (act.Stores m cells) q s e g = absurd cc
opening c act.Compiles q s e g = absurd cc
opening c (act.Prints text) q s e g = absurd cc
opening c (act.Appends x cells) q s e g = absurd cc
opening c (act.Loads size m cells) q s e g = absurd cc
opening c (act.Reads text cells) q s e g = absurd cc
opening c (act.Takes cells a) q s e g = opening c a q (with_stack cells s) e g
opening c (act.Guards cells a) q s e g = opening c a q (guarded cells s) e g
opening c (act.Enters cells d ih a) q s e g = opening c a q (entered cells d ih s) e g
opening c (act.Opens x a) q s e g = tt
opening c (act.Refuses t) q s e g = absurd cc

-- ---- the law

pub questions_settle : {S : Type 0} → AnswersSettle → PlansUnroll → QuestionsSettle S
questions_settle law plans = record {
  answered = λ c answer s. nothing_asked c law answer s;
  goes_on = λ c answer s run. made_if s.flow.is_running _ _ run (nothing_asked c law answer s);
  keys_ask = λ c xt w q s h none.
      asked_just (executed c xt s) (keys_entry w s.reply s.board) (keys_entry w None s.board) q s
      (keys_act plans c xt w s h) (ap (λ r. keys_entry w r s.board) none);
  devices_ask = λ c xt w q s h none.
      asked_just (executed c xt s) (devices_entry w s.reply s.board) (devices_entry w None s.board) q s
      (devices_act plans c xt w s h) (ap (λ r. devices_entry w r s.board) none);
  keys_give = λ c xt w r s h e. done_so (executed c xt s) _ r s (keys_act plans c xt w s h) e;
  devices_give = λ c xt w r s h e. done_so (executed c xt s) _ r s (devices_act plans c xt w s h) e;
  execute_asks = λ c xt x cells s h e. ap (λ (o : Outcome _). o.asks) ((catch_keeps plans).runs c xt x cells s h e);
  catch_asks = λ c xt x cells s h l.
      let kept = (catch_keeps plans).keeps c xt x cells s h l in (kept.0, ap (λ (o : Outcome _). o.asks) kept.1);
  call_asks = λ c xt k m ih d s h e.
      ap (λ (o : Outcome _). o.asks) ((calls_come_back plans).runs c xt k m ih d s h e);
  open_asks = λ c xt k m ph address count ih x s h e f.
      ap (λ (o : Outcome _). o.asks) ((calls_come_back plans).opens c xt k m ph address count ih x s h e f);
  step_asks = λ c q s e. executes_next c s.flow.next s (next_found c s.flow.next q s e);
  word_asks = λ c xt q s e. asks_at_last c xt q s e;
  memory = λ c a q s e g. opening c a q s e g;
}
