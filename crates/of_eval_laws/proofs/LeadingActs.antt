-- The law `stack_leads_back`: what an act leaves leads back.
use Rattle.std.proofs.Common.{◌≡◌, inl, inr, ℕ, Bool, true, false, List, [], ◌∷◌, drop, Option, Some, None, Result}
use Rattle.std.proofs.Common.{Ok, Err, is_some, refl, sym, ap, ◌∙◌, subst}
use Rattle.std.specs.Option.{option_map}
use Rattle.of_cells.specs.declared.cells.Cell.{Cell}
use Rattle.of_stacks.specs.declared.throws.Throw.{Throw}
use Rattle.of_stacks.specs.declared.return_item.Continuation.{Continuation}
use Rattle.of_stacks.specs.declared.return_item.Continuation.TheVariants as continuation
use Rattle.of_stacks.specs.declared.return_item.LoopExit.{LoopExit}
use Rattle.of_stacks.specs.declared.return_item.LoopExit.TheVariants as exit
use Rattle.of_stacks.specs.declared.return_item.LoopParameters.{LoopParameters}
use Rattle.of_stacks.specs.declared.return_item.Reading.{Reading}
use Rattle.of_stacks.specs.declared.return_item.ReturnItem.{ReturnItem}
use Rattle.of_stacks.specs.declared.return_item.Due.{Due}
use Rattle.of_stacks.specs.declared.return_item.ReturnItem.TheVariants.{Return, Loop, User, Handler, Source, Caller}
use Rattle.of_stacks.specs.Loops.{loop_on_top}
use Rattle.of_stacks.specs.Order.{counting, unless}
use Rattle.of_stacks.specs.Returns.{return_on_top}
use Rattle.of_stacks.specs.Unwinding.{latest_source}
use Rattle.of_fcodes.specs.declared.codes.FCode.{FCode}
use Rattle.of_dict.specs.declared.word.Kind.{Kind}
use Rattle.of_dict.specs.Calls.{changed}
use Rattle.of_dict.specs.Words.{newest, xt_of}
use Rattle.of_compile.specs.DictionaryWords.{kind_at, marked, set_token_entry, store_entry, stored_kind, token_set}
use Rattle.of_compile.specs.DictionaryWords.{with_kind, with_stored}
use Rattle.of_compile.specs.Words.{WordsState, number_faults, numbered, own_number}
use Rattle.of_board.specs.declared.board.Board.{Board}
use Rattle.of_asking.specs.Devices.{devices_entry}
use Rattle.of_asking.specs.Keys.{keys_entry}
use Rattle.of_asking.specs.Questions.{Asking, Asks, Gives}
use Rattle.of_eval.specs.Acts.{Act, Move, To, WordAct}
use Rattle.of_eval.specs.Acts as act
use Rattle.of_eval.specs.Doing.{appended, worked}
use Rattle.of_eval.specs.Executing.{entered, furnished, guarded}
use Rattle.of_state.specs.State.{Calls, State, by_asking, by_board, open_xt, with_stack}
use Rattle.of_words.specs.Words.{word_entry}
use Rattle.of_eval_laws.specs.Returning.{IsCall, IsPosition, Leads, LeadsBack, is_code, is_outer}
use Rattle.of_eval_laws.proofs.LeadingEnds.{due_too, none_due}
use Rattle.of_eval_laws.proofs.Walk.{Turns}
use Rattle.of_eval_laws.proofs.WalkFree.{keeping}
use Rattle.of_eval_laws.proofs.WalkWords.{IsCellOnTop, IsLoopOnTop, IsWork, Rules}

-- ---- which definition is open

pub stored_open : (xt : ℕ) (k : Result Kind Throw) (w : WordsState) (cells : List Cell) (x : WordsState × List Cell)
    → with_stored xt k w cells ≡ Ok x → x.0.defining ≡ w.defining
stored_open xt (Ok k) w cells x e =
    let same : with_kind (own_number xt) k w ≡ x.0 = cc in
    ap (λ v. v.defining) (sym same) ∙ kind_open (own_number xt) k w
  where
    kind_open : (o : Option ℕ) (k : Kind) (w : WordsState) → (with_kind o k w).defining ≡ w.defining
    kind_open None k w = refl
    kind_open (Some n) k w = refl
stored_open xt (Err t) w cells x e = absurd cc

pub store_open : (xt : ℕ) (w : WordsState) (cells : List Cell) (x : WordsState × List Cell)
    → store_entry xt w cells ≡ Ok x → x.0.defining ≡ w.defining
store_open xt w [] x e = absurd cc
store_open xt w (y ∷ cells) x e = stored_open xt (stored_kind (kind_at w xt) y) w cells x e

unless_open : {A : Type 0} (f : Option Throw) (y x : A) → unless f y ≡ Ok x → y ≡ x
unless_open None y x e = cc
unless_open (Some t) y x e = absurd cc

pub set_open : (w : WordsState) (cells : List Cell) (x : WordsState × List Cell) → set_token_entry w cells ≡ Ok x
    → x.0.defining ≡ w.defining
set_open w [] x e = absurd cc
set_open w (a ∷ []) x e = absurd cc
set_open w (a ∷ b ∷ []) x e = absurd cc
set_open w (a ∷ b ∷ y ∷ cells) x e =
    ap (λ (v : WordsState × List Cell). v.0.defining) (sym (unless_open _ (token_set w a.0 b y.0, cells) x e))

pub mark_open : (o : Option ℕ) (w v : WordsState) → marked o w ≡ Ok v → v.defining ≡ w.defining
mark_open None w v e = absurd cc
mark_open (Some n) w v e =
    let same : record w { dictionary = changed (λ x. record x { immediate = true }) w.dictionary n } ≡ v = cc in
    ap (λ u. u.defining) (sym same)

pub number_open : (k : FCode) (name : Option (List ℕ)) (w v : WordsState) → numbered k name w ≡ Ok v
    → v.defining ≡ w.defining
number_open k name w v e =
    ap (λ u. u.defining)
    (sym (unless_open (counting (number_faults w k name))
    (record w { pending = Some (record { code = k; name = name }) }) v e))

pub none_open : {S : Type 0} (s : State S) → s.words.defining ≡ None → open_xt s ≡ None
none_open s e = ap (option_map (λ (n : ℕ). (let x : Cell = record { 0 = xt_of n } in x))) e

pub shut_by : (o : Option ℕ) → is_some o ≡ false → o ≡ None
shut_by None e = refl
shut_by (Some n) e = absurd cc

pub no : true ≡ false → ⊥
no e = cc

module _ (image ends : List ℕ) (outer : Reading) where
  abbrev pub Back : Reading → Bool → Option Continuation → List ReturnItem → Type 0
  Back = LeadsBack image ends outer

  -- ---- moves

  -- items that lead back, and are at the outermost image where others are
  abbrev pub BackAs : Reading → Bool → Option Continuation → List ReturnItem → List ReturnItem → Type 0
  BackAs now code due before r = Back now code due r × (is_outer r ≡ is_outer before)

  pub looped : (now : Reading) (code : Bool) (due after : Option Continuation) (r : List ReturnItem) → IsLoopOnTop r
      → Back now code due r → BackAs now code after r (drop 1 r)
  unfolding latest_source
  looped now code due after [] (l, e) h = absurd cc
  looped now code due after (Loop l ∷ r) t h = (due_too image ends outer now code after r h.1, refl)
  looped now code due after (User x ∷ r) (l, e) h = absurd cc
  looped now code due after (Return to ∷ r) (l, e) h = absurd cc
  looped now code due after (Handler f ∷ r) (l, e) h = absurd cc
  looped now code due after (Source x ∷ r) (l, e) h = absurd cc
  looped now code due after (Caller d ∷ r) (l, e) h = absurd cc

  pub turned : (now : Reading) (code : Bool) (due after : Option Continuation) (l : LoopParameters)
      (r : List ReturnItem) → IsLoopOnTop r → (code ≡ false → IsPosition l.exit × (is_outer r ≡ false))
      → Back now code due r → BackAs now code after r (Loop l ∷ drop 1 r)
  unfolding latest_source
  turned now code due after l [] (x, e) p h = absurd cc
  turned now code due after l (Loop x ∷ r) t p h =
      (((λ e. ((p e).0, (λ o. absurd (no (sym o ∙ (p e).1))))), h.1), refl)
  turned now code due after l (User x ∷ r) (y, e) p h = absurd cc
  turned now code due after l (Return to ∷ r) (y, e) p h = absurd cc
  turned now code due after l (Handler f ∷ r) (y, e) p h = absurd cc
  turned now code due after l (Source x ∷ r) (y, e) p h = absurd cc
  turned now code due after l (Caller d ∷ r) (y, e) p h = absurd cc

  celled : (now : Reading) (code : Bool) (due after : Option Continuation) (r : List ReturnItem) → IsCellOnTop r
      → Back now code due r → BackAs now code after r (drop 1 r)
  unfolding latest_source
  celled now code due after [] (x, e) h = absurd cc
  celled now code due after (User x ∷ r) t h = (due_too image ends outer now code after r h, refl)
  celled now code due after (Loop l ∷ r) (x, e) h = absurd cc
  celled now code due after (Return to ∷ r) (x, e) h = absurd cc
  celled now code due after (Handler f ∷ r) (x, e) h = absurd cc
  celled now code due after (Source s ∷ r) (x, e) h = absurd cc
  celled now code due after (Caller d ∷ r) (x, e) h = absurd cc

  returned : (now : Reading) (code : Bool) (due : Option Continuation) (to : Continuation) (r : List ReturnItem)
      → return_on_top r ≡ Ok to → Back now code due r → BackAs now (is_code to) (Some to) r (drop 1 r)
  unfolding latest_source
  returned now code due to [] e h = absurd cc
  returned now code due to (Return x ∷ r) e h =
      let same : x ≡ to = cc in (subst (λ y. Back now (is_code y) (Some y) r) same h.1, refl)
  returned now code due to (Loop l ∷ r) e h = absurd cc
  returned now code due to (User x ∷ r) e h = absurd cc
  returned now code due to (Handler f ∷ r) e h = absurd cc
  returned now code due to (Source s ∷ r) e h = absurd cc
  returned now code due to (Caller d ∷ r) e h = absurd cc

  -- ---- the rules

  -- control is in code, or an image is read
  abbrev pub Runs : {S : Type 0} → Bool → State S → Type 0
  Runs code s = Leads image ends outer s × (is_code s.flow.next ≡ code)

  -- nothing is due there
  abbrev pub Rests : {S : Type 0} → Bool → State S → Type 0
  Rests code s = Back s.flow.reading code None s.flow.items

  -- where an image is read, that is one inside the outermost
  abbrev pub IsInner : {S : Type 0} → Bool → State S → Type 0
  IsInner code s = code ≡ false → is_outer s.flow.items ≡ false

  abbrev pub IsExit : {S : Type 0} → Bool → State S → LoopExit → Type 0
  IsExit code s e = (code ≡ false → IsPosition e × (is_outer s.flow.items ≡ false)) × Rests code s

  abbrev pub IsItem : {S : Type 0} → Bool → State S → ReturnItem → Type 0
  IsItem code s (Loop l) = IsExit code s l.exit
  IsItem code s (Return to) = Unit {0}
  IsItem code s (User x) = Unit {0}
  IsItem code s (Handler h) = Unit {0}
  IsItem code s (Source r) = Unit {0}
  IsItem code s (Caller d) = Unit {0}

  pub guarded_runs : {S : Type 0} (code : Bool) (cells : List Cell) (s : State S) → Runs code s
      → Runs code (guarded cells s)
  unfolding latest_source
  guarded_runs code cells s h =
      (((h.0.0.0, (refl, refl, (λ o. none_open s (h.0.1 o)), h.0.0.1)), h.0.1), h.1)

  pub entered_runs : {S : Type 0} (code : Bool) (cells : List Cell) (d : Due) (ih : Cell) (s : State S) → IsCall d
      → Runs code s → Runs code (entered cells d ih s)
  unfolding latest_source
  entered_runs code cells d ih s call h = (((h.0.0.0, (call, refl, h.0.0.1)), h.0.1), h.1)

  abbrev pub leading : (S : Type 0) → Bool → Rules S
  leading S code =
      record (keeping S (λ s. Runs code s)
      ((λ cells d ih s k p. (p, guarded_runs code cells s p, entered_runs code cells d ih s k p)), (λ x s o p. p))) {
        Item = λ s i. IsItem code s i;
        Aims = λ s n. (code ≡ true) × Rests code s;
        Known = λ s w. w.defining ≡ s.words.defining;
        Loads = λ s m. s.words.defining ≡ None;
        Reads = λ s text. s.words.defining ≡ None;
        aims = λ n s a. tt;
        stores = λ xt x s p e. store_open xt s.words s.board.stack x e;
        waits = λ s p. refl;
        marks = λ w s p e. mark_open (newest s.words.dictionary) s.words w e;
        sets = λ x s p e. set_open s.words s.board.stack x e;
        announces = λ k name w s p e. number_open k name s.words w e;
        loads = λ a n spread x s p shut e. shut_by s.words.defining shut;
        reads = λ r a n text s p shut e. shut_by s.words.defining shut;
      }

  pub top_exit : (now : Reading) (code : Bool) (due : Option Continuation) (l : LoopParameters) (r : List ReturnItem)
      → loop_on_top r ≡ Ok l → Back now code due r → code ≡ false → IsPosition l.exit
  top_exit now code due l [] e h f = absurd cc
  top_exit now code due l (Loop x ∷ r) e h f =
      let same : x ≡ l = cc in subst (λ y. IsPosition y.exit) same ((h.0 f).0)
  top_exit now code due l (User x ∷ r) e h f = absurd cc
  top_exit now code due l (Return to ∷ r) e h f = absurd cc
  top_exit now code due l (Handler g ∷ r) e h f = absurd cc
  top_exit now code due l (Source s ∷ r) e h f = absurd cc
  top_exit now code due l (Caller d ∷ r) e h f = absurd cc

  pub exit_aims : {S : Type 0} (code : Bool) (n : ℕ) (s : State S) → IsExit code s (exit.Code n)
      → (code ≡ true) × Rests code s
  exit_aims true n s x = (refl, x.1)
  exit_aims false n s x = absurd ((x.0 refl).0)

  pub aims_exit : {S : Type 0} (code : Bool) (n : ℕ) (s : State S) → (code ≡ true) × Rests code s
      → IsExit code s (exit.Code n)
  aims_exit code n s a = ((λ f. absurd (no (sym a.0 ∙ f))), a.1)

  -- a definition is made or ended, and an image ended or read on at a position, by what is read alone
  abbrev pub leading_turns : (S : Type 0) (code : Bool) → Turns (leading S code)
  leading_turns S code = record {
    Exit = λ s e. IsExit code s e;
    Positions = code ≡ false;
    Ends = code ≡ false;
    Makes = code ≡ false;
    Closes = code ≡ false;
    Stands = λ s. Runs code s × Rests code s × IsInner code s;
    held = λ s p. p.0;
    drop = λ s p. tt;
    loop = λ l s x. x;
    exit_on_top = λ l s p e. ((λ f. (top_exit s.flow.reading code None l s.flow.items e p.1 f, p.2 f)), p.1);
    exit_at = λ n s p. ((λ f. (tt, p.2 f)), p.1);
    exit_goes = λ n s x. exit_aims code n s x;
    goes_exit = λ n s p a. aims_exit code n s a;
  }

  -- ---- acts of words

  in_code : (now : Reading) (code after : Bool) (due : Option Continuation) (r : List ReturnItem) → code ≡ after
      → Back now code due r → Back now after due r
  in_code now code after due r e h = subst (λ b. Back now b due r) e h

  move_leads : {S : Type 0} (code : Bool) (cells : List Cell) (m : Move) (to : To) (c : Calls S) (s : State S)
      → IsWork (leading S code) s (act.Moves cells m to) → Runs code s
      → Leads image ends outer (worked c (act.Moves cells m to) s).state
  unfolding worked latest_source
  move_leads code cells act.Keeps act.Behind c s h p = p.0
  move_leads code cells act.Keeps (act.Next continuation.Source) c s h p = absurd h.2.0
  move_leads code cells act.Keeps (act.Next (continuation.Code n)) c s h p = (
    (
      p.0.0.0,
      due_too image ends outer s.flow.reading true (Some (continuation.Code n)) s.flow.items
          (in_code s.flow.reading code true None s.flow.items h.2.0.0 h.2.0.1),
    ),
    p.0.1,
  )
  move_leads code cells (act.Pushes (User x)) act.Behind c s h p = (
    (
      p.0.0.0,
      none_due image ends outer s.flow.reading (is_code s.flow.next)
          (Some s.flow.next) s.flow.items h.2 p.0.0.1,
    ),
    p.0.1,
  )
  move_leads code cells (act.Pushes (Loop l)) act.Behind c s h p = (
    (
      p.0.0.0,
      (
        (λ f. (let x = h.0.0 (sym p.1 ∙ f) in (x.0, (λ o. absurd (no (sym o ∙ x.1)))))),
        in_code s.flow.reading code (is_code s.flow.next) None s.flow.items (sym p.1) h.0.1,
      ),
    ),
    p.0.1,
  )
  move_leads code cells (act.Pushes (Return to)) act.Behind c s h p = absurd h.2
  move_leads code cells (act.Pushes (Handler f)) act.Behind c s h p = absurd h.2
  move_leads code cells (act.Pushes (Source x)) act.Behind c s h p = absurd h.2
  move_leads code cells (act.Pushes (Caller d)) act.Behind c s h p = absurd h.2
  move_leads code cells (act.Pushes (Return to)) (act.Next (continuation.Code n)) c s h p = (
    (p.0.0.0, (refl, subst (λ y. Back s.flow.reading (is_code y) (Some y) s.flow.items) (sym h.2) p.0.0.1)),
    p.0.1,
  )
  move_leads code cells (act.Pushes (Return to)) (act.Next continuation.Source) c s h p = absurd h.2.1
  move_leads code cells (act.Pushes (User x)) (act.Next to) c s h p = absurd h.2.1
  move_leads code cells (act.Pushes (Loop l)) (act.Next to) c s h p = absurd h.2.1
  move_leads code cells (act.Pushes (Handler f)) (act.Next to) c s h p = absurd h.2.1
  move_leads code cells (act.Pushes (Source x)) (act.Next to) c s h p = absurd h.2.1
  move_leads code cells (act.Pushes (Caller d)) (act.Next to) c s h p = absurd h.2.1
  move_leads code cells act.Drops act.Behind c s (d, t, inl top) p =
      let x = celled s.flow.reading (is_code s.flow.next) (Some s.flow.next) (Some s.flow.next) s.flow.items top p.0.0.1
      in
      ((p.0.0.0, x.0), (λ o. p.0.1 (sym x.1 ∙ o)))
  move_leads code cells act.Drops act.Behind c s (d, t, inr top) p =
      let x = looped s.flow.reading (is_code s.flow.next) (Some s.flow.next) (Some s.flow.next) s.flow.items top p.0.0.1
      in
      ((p.0.0.0, x.0), (λ o. p.0.1 (sym x.1 ∙ o)))
  move_leads code cells act.Drops (act.Next to) c s (d, t, inl e) p =
      let x = returned s.flow.reading (is_code s.flow.next) (Some s.flow.next) to s.flow.items e p.0.0.1 in
      ((p.0.0.0, x.0), (λ o. p.0.1 (sym x.1 ∙ o)))
  move_leads code cells act.Drops (act.Next continuation.Source) c s (d, t, inr f) p = absurd f.0
  move_leads code cells act.Drops (act.Next (continuation.Code n)) c s (d, t, inr f) p =
      let x = looped s.flow.reading true None (Some (continuation.Code n)) s.flow.items f.1
      (in_code s.flow.reading code true None s.flow.items f.0.0 f.0.1) in
      ((p.0.0.0, x.0), (λ o. p.0.1 (sym x.1 ∙ o)))
  move_leads code cells (act.Turns l) act.Behind c s h p = absurd h.2
  move_leads code cells (act.Turns l) (act.Next continuation.Source) c s h p = absurd h.2.0
  move_leads code cells (act.Turns l) (act.Next (continuation.Code n)) c s h p =
      let x = turned s.flow.reading true None (Some (continuation.Code n)) l s.flow.items h.2.1 (λ f. absurd (no f))
      (in_code s.flow.reading code true None s.flow.items h.2.0.0 h.2.0.1) in
      ((p.0.0.0, x.0), (λ o. p.0.1 (sym x.1 ∙ o)))

  board_lead : {S : Type 0} (r : Result Board Throw) (s : State S) → Leads image ends outer s
      → Leads image ends outer (by_board r s).state
  board_lead (Ok x) s h = h
  board_lead (Err t) s h = h

  asking_leads : {S : Type 0} (x : Asking Board) (s : State S) → Leads image ends outer s
      → Leads image ends outer (by_asking x s).state
  asking_leads (Gives r) s h = board_lead r s h
  asking_leads (Asks q) s h = h

  pub appended_leads : {S : Type 0} (code : S) (e : Result (Unit {0}) Throw) (cells : List Cell) (s : State S)
      → Leads image ends outer s → Leads image ends outer (appended (record { code = code; ended = e }) cells s).state
  appended_leads code (Ok x) cells s h = h
  appended_leads code (Err t) cells s h = h

  pub worked_leads : {S : Type 0} (code : Bool) (c : Calls S) (a : WordAct) (s : State S)
      → IsWork (leading S code) s a → Runs code s → Leads image ends outer (worked c a s).state
  unfolding worked
  worked_leads code c (act.Fails t) s h p = p.0
  worked_leads code c (act.Raises t cells) s h p = p.0
  worked_leads code c (act.Leaves cells) s h p = p.0
  worked_leads code c (act.Works w) s h p = board_lead (word_entry w s.board) s p.0
  worked_leads code c (act.Listens w) s h p = asking_leads (keys_entry w s.reply s.board) s p.0
  worked_leads code c (act.Reaches w) s h p = asking_leads (devices_entry w s.reply s.board) s p.0
  worked_leads code c (act.Moves cells move to) s h p = move_leads code cells move to c s h p
  worked_leads code c (act.Knows w cells) s h p = (p.0.0, (λ o. h ∙ p.0.1 o))
  worked_leads code c (act.Stores m cells) s h p = p.0
  worked_leads code c act.Compiles s h p = p.0
  worked_leads code c (act.Prints text) s h p = p.0
  worked_leads code c (act.Appends e cells) s h p =
      appended_leads (c.element e s.code).code (c.element e s.code).ended cells s p.0
  worked_leads code c (act.Loads size m cells) s h p =
      (((tt, none_open s h), (refl, inr (p.0.0.0, refl, (refl, p.0.0.1)))), (λ o. h))
  worked_leads code c (act.Reads text cells) s h p =
      (((tt, none_open s h), (refl, inr (p.0.0.0, refl, (refl, p.0.0.1)))), (λ o. h))
  worked_leads code c (act.Takes cells a) s h p = worked_leads code c a (with_stack cells s) h p
  worked_leads code c (act.Guards cells a) s h p =
      worked_leads code c a (guarded cells s) h (guarded_runs code cells s p)
  worked_leads code c (act.Enters cells d ih a) s h p =
      worked_leads code c a (entered cells d ih s) h.1 (entered_runs code cells d ih s h.0 p)
  worked_leads code c (act.Opens x a) s h p = worked_leads code c a (furnished x s) h.2 p
  worked_leads code c (act.Refuses t) s h p = p.0
