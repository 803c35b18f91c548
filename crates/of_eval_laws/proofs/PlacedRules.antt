-- What the law `states_stay_placed` asks of acts, and why they have it.
use Rattle.std.proofs.Common.{◌≡◌, inl, inr, ℕ, ◌<◌, true, false, List, [], ◌∷◌, Option, Some, None, Ok, is_none, refl}
use Rattle.std.proofs.Common.{sym, ap, ◌∙◌, subst}
use Rattle.std.proofs.lemmas.Bool.{eq-eqb, false≢true}
use Rattle.std.specs.Prelude.{option_and_then}
use Rattle.of_cells.specs.declared.cells.Cell.{Cell}
use Rattle.of_stacks.specs.declared.return_item.Continuation.{Continuation}
use Rattle.of_stacks.specs.declared.return_item.Continuation.TheVariants as continuation
use Rattle.of_stacks.specs.declared.return_item.LoopParameters.{LoopParameters}
use Rattle.of_stacks.specs.declared.return_item.ReturnItem.{ReturnItem}
use Rattle.of_stacks.specs.declared.return_item.ReturnItem.TheVariants.{Caller, Handler, Loop, Return, Source, User}
use Rattle.of_stacks.specs.declared.throws.Throw.{Throw}
use Rattle.of_stacks.specs.Loops.{loop_on_top}
use Rattle.of_stacks.specs.Order.{counting, unless}
use Rattle.of_stacks.specs.Returns.{return_on_top}
use Rattle.of_dict.specs.declared.word.Kind.{Kind}
use Rattle.of_dict.specs.declared.word.Kind.TheVariants as kind
use Rattle.of_dict.specs.declared.word.Slot.TheVariants as slot
use Rattle.of_dict.specs.Calls.{changed}
use Rattle.of_dict.specs.Words.{kind_in, newest, word_at, xt_of}
use Rattle.of_compile.specs.Structured.{Definitions}
use Rattle.of_compile.specs.DictionaryWords.{kind_at, marked, set_token_entry, store_entry, stored_kind, token_set}
use Rattle.of_compile.specs.DictionaryWords.{with_kind, with_stored}
use Rattle.of_compile.specs.Words.{WordsState, number_faults, own_number}
use Rattle.of_state.specs.Settling.{is_opened}
use Rattle.of_state.specs.State.{State, open_xt, with_words}
use Rattle.of_eval_laws.specs.Structured.{IsPlacedIn}
use Rattle.of_eval_laws.specs.Placed.{AllPlaced, AreItemsIn, IsExitIn, IsItemIn, code_start, finished_end}
use Rattle.of_eval_laws.proofs.Placed.{kind_placed, marked_placed, own_is}
use Rattle.of_eval_laws.proofs.PlacedEnds.{entered_placed, guarded_placed}
use Rattle.of_eval_laws.proofs.Walk.{Turns}
use Rattle.of_eval_laws.proofs.WalkFree.{keeping}
use Rattle.of_eval_laws.proofs.WalkWords.{Rules}

-- the open word is known by its execution token
open_one : (n xt : ℕ) (s : State Definitions) → s.words.defining ≡ Some n → xt_of n ≡ xt
    → is_opened (open_xt s) xt ≡ true
open_one n xt s at e =
    ap (λ o. is_opened (open_xt (record s { words = record s.words { defining = o } })) xt) at
    ∙ eq-eqb (xt_of n) xt e

-- a definition that isn't open begins in the finished ones
pub own_begins :
    (o : Option ℕ) (xt start : ℕ) (s : State Definitions) → own_number xt ≡ o
    → code_start (kind_in (option_and_then (word_at s.words.dictionary) o)) ≡ Some start
    → is_opened (open_xt s) xt ≡ false → AllPlaced s → start < finished_end s.code
own_begins None xt start s e h closed p = absurd cc
own_begins (Some n) xt start s e h closed p = elim (p.begins n start h) [
  | inl l ↦ l
  | inr at ↦ absurd (false≢true (sym closed ∙ open_one n xt s at (own_is n xt e)))
]

kind_in_words :
    (o : Option ℕ) (k : Kind) (s : State Definitions) → code_start (Some k) ≡ None
    → code_start (kind_in (option_and_then (word_at s.words.dictionary) o)) ≡ None → AllPlaced s
    → AllPlaced (with_words (with_kind o k s.words) s)
kind_in_words None k s new old p = p
kind_in_words (Some n) k s new old p = kind_placed s n k new old p

stored_placed :
    (k : Option Kind) (xt : ℕ) (y : Cell) (cells : List Cell) (x : WordsState × List Cell) (s : State Definitions)
    → kind_at s.words xt ≡ k → with_stored xt (stored_kind k y) s.words cells ≡ Ok x → AllPlaced s
    → AllPlaced (with_words x.0 s)
stored_placed None xt y cells x s k e p = absurd cc
stored_placed (Some (kind.Value z)) xt y cells x s k e p =
    let same : with_kind (own_number xt) (kind.Value y) s.words ≡ x.0 = cc in
    subst (λ w. AllPlaced (with_words w s)) same
    (kind_in_words (own_number xt) (kind.Value y) s refl (ap (λ k. code_start k) k) p)
stored_placed (Some (kind.Defer z)) xt y cells x s k e p =
    let same : with_kind (own_number xt) (kind.Defer y) s.words ≡ x.0 = cc in
    subst (λ w. AllPlaced (with_words w s)) same
    (kind_in_words (own_number xt) (kind.Defer y) s refl (ap (λ k. code_start k) k) p)
stored_placed (Some (kind.PerInstance slot.Value n)) xt y cells x s k e p = absurd cc
stored_placed (Some (kind.PerInstance slot.Defer n)) xt y cells x s k e p = absurd cc
stored_placed (Some k) xt y cells x s is e p = absurd cc

pub store_placed : (xt : ℕ) (cells : List Cell) (x : WordsState × List Cell) (s : State Definitions)
    → store_entry xt s.words cells ≡ Ok x → AllPlaced s → AllPlaced (with_words x.0 s)
store_placed xt [] x s e p = absurd cc
store_placed xt (y ∷ cells) x s e p = stored_placed (kind_at s.words xt) xt y cells x s refl e p

set_when : (f : Option Throw) (w : WordsState) (cells : List Cell) (x : WordsState × List Cell) (s : State Definitions)
    → unless f (w, cells) ≡ Ok x → AllPlaced (with_words w s) → AllPlaced (with_words x.0 s)
set_when None w cells x s e p = (let same : w ≡ x.0 = cc in subst (λ v. AllPlaced (with_words v s)) same p)
set_when (Some t) w cells x s e p = absurd cc

pub set_placed : (cells : List Cell) (x : WordsState × List Cell) (s : State Definitions)
    → set_token_entry s.words cells ≡ Ok x → AllPlaced s → AllPlaced (with_words x.0 s)
set_placed [] x s e p = absurd cc
set_placed (a ∷ []) x s e p = absurd cc
set_placed (a ∷ b ∷ []) x s e p = absurd cc
set_placed (code ∷ f ∷ xt ∷ cells) x s e p = set_when _ (token_set s.words code.0 f xt.0) cells x s e p

pub mark_placed : (o : Option ℕ) (w : WordsState) (s : State Definitions) → marked o s.words ≡ Ok w → AllPlaced s
    → AllPlaced (with_words w s)
mark_placed None w s e p = absurd cc
mark_placed (Some n) w s e p =
    let same :
    record s.words { dictionary = changed (λ x. record x { immediate = true }) s.words.dictionary n } ≡ w = cc in
    subst (λ v. AllPlaced (with_words v s)) same (marked_placed s n p)

pub announced_when : (f : Option Throw) (v w : WordsState) (s : State Definitions) → unless f v ≡ Ok w
    → AllPlaced (with_words v s) → AllPlaced (with_words w s)
announced_when None v w s e p = (let same : v ≡ w = cc in subst (λ u. AllPlaced (with_words u s)) same p)
announced_when (Some t) v w s e p = absurd cc

pub return_placed : (end : ℕ) (r : List ReturnItem) (to : Continuation) → AreItemsIn end r → return_on_top r ≡ Ok to
    → IsPlacedIn end to
return_placed end [] to i e = absurd cc
return_placed end (Return x ∷ r) to i e = (let same : x ≡ to = cc in subst (λ y. IsPlacedIn end y) same i.0)
return_placed end (Loop l ∷ r) to i e = absurd cc
return_placed end (User x ∷ r) to i e = absurd cc
return_placed end (Handler h ∷ r) to i e = absurd cc
return_placed end (Source x ∷ r) to i e = absurd cc
return_placed end (Caller d ∷ r) to i e = absurd cc

pub exit_placed : (end : ℕ) (r : List ReturnItem) (l : LoopParameters) → AreItemsIn end r → loop_on_top r ≡ Ok l
    → IsExitIn end l.exit
exit_placed end [] l i e = absurd cc
exit_placed end (Loop x ∷ r) l i e = (let same : x ≡ l = cc in subst (λ y. IsExitIn end y.exit) same i.0)
exit_placed end (Return x ∷ r) l i e = absurd cc
exit_placed end (User x ∷ r) l i e = absurd cc
exit_placed end (Handler h ∷ r) l i e = absurd cc
exit_placed end (Source x ∷ r) l i e = absurd cc
exit_placed end (Caller d ∷ r) l i e = absurd cc

pub not_none : (o : Option ℕ) → is_none o ≡ false → o ≡ None → ⊥
not_none o e none = false≢true (sym e ∙ ap (λ x. is_none x) none)

abbrev pub placed : Rules Definitions
placed =
    record (keeping Definitions (λ s. AllPlaced s)
    ((λ cells d ih s k p. (p, guarded_placed cells s p, entered_placed cells d ih s p)), (λ x s o p. p))) {
      Item = λ s i. IsItemIn (finished_end s.code) i;
      Target = λ s to. IsPlacedIn (finished_end s.code) to;
      Aims = λ s n. IsPlacedIn (finished_end s.code) (continuation.Code n);
      aims = λ n s a. a;
      Known = λ s w. AllPlaced (with_words w s);
      Appends = λ s. s.words.defining ≡ None → ⊥;
      return = λ s p. p.goes_on;
      returns = λ to s p e. return_placed (finished_end s.code) s.flow.items to p.goes_back e;
      begins = λ start xt s p e z. own_begins (own_number xt) xt start s refl (ap (λ k. code_start k) e) z p;
      stores = λ xt x s p e. store_placed xt s.board.stack x s e p;
      waits = λ s p. p;
      marks = λ w s p e. mark_placed (newest s.words.dictionary) w s e p;
      sets = λ x s p e. set_placed s.board.stack x s e p;
      announces = λ k name w s p e.
          announced_when (counting (number_faults s.words k name))
          (record s.words { pending = Some (record { code = k; name = name }) }) w s e p;
      opens = λ r s p e. not_none s.words.defining e;
    }

abbrev pub placed_turns : Turns placed
placed_turns = record {
  Exit = λ s e. IsExitIn (finished_end s.code) e;
  Positions = Unit {0};
  Ends = Unit {0};
  Makes = Unit {0};
  Closes = Unit {0};
  Stands = λ s. AllPlaced s;
  held = λ s p. p;
  drop = λ s p. tt;
  loop = λ l s x. x;
  exit_on_top = λ l s p e. exit_placed (finished_end s.code) s.flow.items l p.goes_back e;
  exit_at = λ n s p. tt;
  exit_goes = λ n s x. x;
  goes_exit = λ n s p x. x;
}
