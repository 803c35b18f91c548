-- The law `stack_leads_back`: what is due is worked off, and what is thrown is caught; then the return stack leads
-- back, or nothing runs.
use Rattle.std.proofs.Common.{◌≡◌, ◌⊎◌, inl, inr, ℕ, Bool, true, false, List, [], ◌∷◌, Option, Some, None}
use Rattle.std.proofs.Common.{is_some, refl, sym, ◌∙◌, subst, if◌then◌else◌}
use Rattle.std.specs.Prelude.{◌==◌}
use Rattle.std.specs.Option.{option_map}
use Rattle.of_cells.specs.declared.cells.Cell.{Cell}
use Rattle.of_stacks.specs.declared.throws.Throw.{Throw}
use Rattle.of_stacks.specs.declared.return_item.Continuation.{Continuation}
use Rattle.of_stacks.specs.declared.return_item.Due.{Due}
use Rattle.of_stacks.specs.declared.return_item.Due.TheVariants as caller
use Rattle.of_stacks.specs.declared.return_item.ExceptionFrame.{ExceptionFrame}
use Rattle.of_stacks.specs.declared.return_item.Input.TheVariants as input
use Rattle.of_stacks.specs.declared.return_item.Reading.{Reading}
use Rattle.of_stacks.specs.declared.return_item.ReturnItem.{ReturnItem}
use Rattle.of_stacks.specs.declared.return_item.ReturnItem.TheVariants.{Return, Loop, User, Handler, Source, Caller}
use Rattle.of_stacks.specs.Returns.{has_due_top}
use Rattle.of_stacks.specs.Throws.{stack_overflow}
use Rattle.of_stacks.specs.Unwinding.{latest_handler, latest_source}
use Rattle.of_dict.specs.Words.{xt_of}
use Rattle.of_board.specs.Active.{with_self}
use Rattle.of_state.specs.State.{Calls, State, given_up, open_xt, with_board, with_items}
use Rattle.of_state.specs.Settling.{caller_self, caught, due_left, given_up_since, is_full, is_same, resumed, settled}
use Rattle.of_state.specs.Settling.{due_throw, open_answered, reading_on}
use Rattle.of_eval_laws.specs.Throws.{ThrowsSettle}
use Rattle.of_eval_laws.specs.Returning.{IsBase, IsNested, IsRead, IsShut, LeadsBack, LeadsOn, is_code}
use Rattle.of_eval_laws.specs.Returning.{is_outer, is_return_top}

module _ (image ends : List ℕ) (outer : Reading) where
  abbrev Back : Reading → Bool → Option Continuation → List ReturnItem → Type 0
  Back = LeadsBack image ends outer

  -- where nothing is due, something may be
  pub due_too : (now : Reading) (code : Bool) (due : Option Continuation) (r : List ReturnItem) → Back now code None r
      → Back now code due r
  due_too now code due [] h = h
  due_too now code due (Loop l ∷ r) h = h
  due_too now code due (User x ∷ r) h = h
  due_too now code due (Return to ∷ r) h = h
  due_too now code due (Handler f ∷ r) h = absurd cc
  due_too now code due (Source s ∷ r) h = h
  due_too now code due (Caller d ∷ r) h = absurd cc

  -- and where nothing due is on top, nothing is
  pub none_due : (now : Reading) (code : Bool) (due : Option Continuation) (r : List ReturnItem) → has_due_top r ≡ false
      → Back now code due r → Back now code None r
  none_due now code due [] e h = h
  none_due now code due (Loop l ∷ r) e h = h
  none_due now code due (User x ∷ r) e h = h
  none_due now code due (Return to ∷ r) e h = h
  none_due now code due (Handler f ∷ r) e h = absurd cc
  none_due now code due (Source s ∷ r) e h = h
  none_due now code due (Caller d ∷ r) e h = absurd cc

  -- if something runs, it leads back, and no definition is open at the outermost image
  abbrev pub IsSettled : {S : Type 0} → State S → Type 0
  IsSettled s = s.flow.is_running ≡ true → LeadsOn image ends outer s

  -- ---- a definition that is given up

  pub given_flow : {S : Type 0} (c : Calls S) (b : Bool) (s : State S) → is_some s.words.defining ≡ b
      → ((given_up c s).flow.items ≡ s.flow.items) × ((given_up c s).flow.reading ≡ s.flow.reading)
      × ((given_up c s).flow.next ≡ s.flow.next)
  given_flow c true s e = rw e (refl, refl, refl)
  given_flow c false s e = rw e (refl, refl, refl)

  pub given_shut : {S : Type 0} (c : Calls S) (o : Option ℕ) (s : State S) → s.words.defining ≡ o
      → (given_up c s).words.defining ≡ None
  given_shut c None s e = rw e refl
  given_shut c (Some n) s e = rw e refl

  since_flow : {S : Type 0} (c : Calls S) (b : Bool) (s : State S)
      → ((if b then s else given_up c s).flow.items ≡ s.flow.items)
      × ((if b then s else given_up c s).flow.reading ≡ s.flow.reading)
      × ((if b then s else given_up c s).flow.next ≡ s.flow.next)
  since_flow c true s = (refl, refl, refl)
  since_flow c false s = given_flow c (is_some s.words.defining) s refl

  none_open : {S : Type 0} (o : Option ℕ) (s : State S) → s.words.defining ≡ o → is_same (open_xt s) None ≡ true
      → s.words.defining ≡ None
  none_open None s e h = e
  none_open (Some n) s e h =
      let no : is_same (option_map (λ (m : ℕ). (let x : Cell = record { 0 = xt_of m } in x)) (Some n)) None ≡ true =
      subst
      (λ (x : Option ℕ). is_same (option_map (λ (m : ℕ). (let x : Cell = record { 0 = xt_of m } in x)) x) None ≡ true)
      e h in
      absurd cc

  since_shut : {S : Type 0} (c : Calls S) (b : Bool) (s : State S) → is_same (open_xt s) None ≡ b
      → (if b then s else given_up c s).words.defining ≡ None
  since_shut c true s e = none_open s.words.defining s refl e
  since_shut c false s e = given_shut c s.words.defining s refl

  caught_shut : {S : Type 0} (c : Calls S) (h : ExceptionFrame) (t : Throw) (s : State S) → h.opened ≡ None
      → (caught c h t s).words.defining ≡ None
  caught_shut c h t s e =
      subst (λ (x : Option Cell). (given_up_since c x (resumed h t s)).words.defining ≡ None) (sym e)
      (since_shut c (is_same (open_xt (resumed h t s)) None) (resumed h t s) refl)

  -- ---- what is due is worked off

  -- the same is read, and control goes on at the same place
  moves : (now now' : Reading) (to to' : Continuation) (r : List ReturnItem) → now' ≡ now → to' ≡ to
      → Back now (is_code to) (Some to) r → Back now' (is_code to') (Some to') r
  moves now now' to to' r e f h =
      subst (λ (x : Reading). Back x (is_code to') (Some to') r) (sym e)
      (subst (λ (x : Continuation). Back now (is_code x) (Some x) r) (sym f) h)

  some_same : (a b : Continuation) → Some a ≡ Some b → a ≡ b
  some_same a b e = cc

  -- a state in which these items lead back, with nothing open at the outermost image
  pub record IsReady {S : Type 0} (r : List ReturnItem) (s : State S) : Type 0 where
    pub items : s.flow.items ≡ r
    pub read : IsRead s.flow.reading
    pub leads : Back s.flow.reading (is_code s.flow.next) (Some s.flow.next) r
    pub shut : is_outer r ≡ true → s.words.defining ≡ None

  worked_ready : {S : Type 0} (c : Calls S) (h : ExceptionFrame) (r : List ReturnItem) (s : State S) (b : Bool)
      → IsReady (Handler h ∷ r) s
      → IsReady r
      (if b then caught c h stack_overflow (with_items r s)
      else record (with_items r s) { board = record s.board { stack = record { 0 = 0 } ∷ s.board.stack } })
  unfolding latest_source
  worked_ready c h r s true x =
      let m = resumed h stack_overflow (with_items r s) in
      let g = since_flow c (is_same (open_xt m) h.opened) m in
      let l = x.leads in
      let next : s.flow.next ≡ h.resume = some_same s.flow.next h.resume l.0 in
      record {
        items = g.0;
        read = subst (λ (y : Reading). IsRead y) (sym g.1) x.read;
        leads = moves s.flow.reading _ s.flow.next _ r g.1 (g.2 ∙ sym next) l.3;
        shut = λ o. caught_shut c h stack_overflow (with_items r s) (l.2 o);
      }
  worked_ready c h r s false x = record { items = refl; read = x.read; leads = x.leads.3; shut = x.shut }

  ready_if : {S : Type 0} (b : Bool) (r : List ReturnItem) (x y : State S) → IsReady r x → IsReady r y
      → IsReady r (if b then x else y)
  ready_if true r x y hx hy = hx
  ready_if false r x y hx hy = hy

  -- the answer of `open` changes nothing of control
  answered_ready : {S : Type 0} (ih : Cell) (cells : List Cell) (r : List ReturnItem) (s : State S) → IsReady r s
      → IsReady r (open_answered ih cells s)
  answered_ready ih [] r s x = x
  answered_ready ih (y ∷ cells) r s x =
      ready_if (y.0 == 0) r _ _ (record { items = x.items; read = x.read; leads = x.leads; shut = x.shut })
      (record { items = x.items; read = x.read; leads = x.leads; shut = x.shut })

  -- a method has ended
  method_ready : {S : Type 0} (d : Due) (r : List ReturnItem) (s : State S) → IsReady (Caller d ∷ r) s
      → IsReady r (due_left d (with_board (with_self s.board (caller_self d)) (with_items r s)))
  unfolding latest_source
  method_ready (caller.Method me) r s x = record { items = refl; read = x.read; leads = x.leads.2; shut = x.shut }
  method_ready (caller.Close me instance) r s x =
      record { items = refl; read = x.read; leads = x.leads.2; shut = x.shut }
  method_ready (caller.Open me instance) r s x =
      answered_ready instance s.board.stack r _
      (record { items = refl; read = x.read; leads = x.leads.2; shut = x.shut })
  method_ready (caller.Load active me instance count) r s x = absurd x.leads.0

  module _ {S : Type 0} (c : Calls S) (laws : ThrowsSettle S) where
    rested : (r : List ReturnItem) (s : State S) → IsReady r s → Back s.flow.reading (is_code s.flow.next) None r
        → IsNested image ends outer s.flow × IsShut image ends outer s
    rested r s x h =
        let lead = subst (λ (y : List ReturnItem). Back s.flow.reading (is_code s.flow.next) None y) (sym x.items) h in
        ((x.read, lead), (λ o. x.shut (subst (λ (y : List ReturnItem). is_outer y ≡ true) x.items o)))

    -- ---- what is thrown

    caught_ready : (h : ExceptionFrame) (t : Throw) (r : List ReturnItem) (s : State S) (code : Bool)
        (due : Option Continuation) → IsRead s.flow.reading → Back s.flow.reading code due (Handler h ∷ r)
        → IsReady r (caught c h t (with_items r s))
    caught_ready h t r s code due read l =
        let m = resumed h t (with_items r s) in
        let g = since_flow c (is_same (open_xt m) h.opened) m in
        let there : Back s.flow.reading (is_code h.resume) (Some h.resume) r =
        subst (λ (y : Bool). Back s.flow.reading y (Some h.resume) r) l.1
        (subst (λ (y : Option Continuation). Back s.flow.reading code y r) l.0 l.3) in
        record {
          items = g.0;
          read = subst (λ (y : Reading). IsRead y) (sym g.1) read;
          leads = moves s.flow.reading _ h.resume _ r g.1 g.2 there;
          shut = λ o. caught_shut c h t (with_items r s) (l.2 o);
        }

    falls : (u : State S) (t : Throw) → latest_handler u.flow.items ≡ None
        → IsSettled (settled c u.flow.items (Some t) u)
    falls u t none running =
        let stops = (laws.ends c t u none).running in
        absurd (no (sym running ∙ stops))
      where
        no : true ≡ false → ⊥
        no e = cc

    source_cut : (r : List ReturnItem) (s : State S) (x : Reading) (u : State S) (t : Throw) → u.flow.items ≡ r
        → (((x.input ≡ input.Nothing) × (s.flow.reading ≡ outer) × IsBase r)
        ⊎ (IsRead x × (is_return_top r ≡ true) × Back x true None r))
        → (IsRead x → Back x true None r → IsSettled (settled c r (Some t) u)) → IsSettled (settled c r (Some t) u)
    source_cut r s x u t e (inl o) h =
        subst (λ (y : List ReturnItem). IsSettled (settled c y (Some t) u)) e
        (falls u t (subst (λ (y : List ReturnItem). latest_handler y ≡ None) (sym e) o.2.0))
    source_cut r s x u t e (inr i) h = h i.0 i.2

    -- what is due leads back, or what is thrown lies above what does
    abbrev pub Leading : Option Throw → List ReturnItem → State S → Type 0
    Leading None r s = IsReady r s
    Leading (Some t) r s =
        (code : Bool) × (due : Option Continuation) × IsRead s.flow.reading × Back s.flow.reading code due r

    late_leads : (t : Option Throw) (r : List ReturnItem) (s : State S) → IsReady r s → Leading t r s
    late_leads None r s x = x
    late_leads (Some t) r s x = (is_code s.flow.next, Some s.flow.next, x.read, x.leads)

    pub settles : (r : List ReturnItem) (thrown : Option Throw) (s : State S) → Leading thrown r s
        → IsSettled (settled c r thrown s)
    unfolding settled
    settles [] None s x = absurd x.leads
    settles (Handler h ∷ r) None s x = settles r None _ (worked_ready c h r s (is_full s) x)
    settles (Loop l ∷ r) None s x = λ running. rested (Loop l ∷ r) s x x.leads
    settles (User y ∷ r) None s x = λ running. rested (User y ∷ r) s x x.leads
    settles (Return to ∷ r) None s x = λ running. rested (Return to ∷ r) s x x.leads
    settles (Source y ∷ r) None s x = λ running. rested (Source y ∷ r) s x x.leads
    settles (Caller d ∷ r) None s x =
        settles r (due_throw d s) _ (late_leads (due_throw d s) r _ (method_ready d r s x))
    settles [] (Some t) s (code, due, read, l) = absurd l
    settles (Handler h ∷ r) (Some t) s (code, due, read, l) =
        settles r None (caught c h t (with_items r s)) (caught_ready h t r s code due read l)
    settles (Loop x ∷ r) (Some t) s (code, due, read, l) =
        settles r (Some t) (with_items r s) (code, None, read, l.1)
    settles (User x ∷ r) (Some t) s (code, due, read, l) = settles r (Some t) (with_items r s) (code, None, read, l)
    settles (Return to ∷ r) (Some t) s (code, due, read, l) =
        settles r (Some t) (with_items r s) (is_code to, Some to, read, l.1)
    settles (Source x ∷ r) (Some t) s (code, due, read, l) =
        let u = reading_on x (with_items r s) in
        source_cut r s x u t refl l.1 (λ i k. settles r (Some t) u (true, None, i, k))
    settles (Caller (caller.Method me) ∷ r) (Some t) s (code, due, read, l) =
        settles r (Some t) (with_items r s) (code, due, read, l.2)
    settles (Caller (caller.Close me instance) ∷ r) (Some t) s (code, due, read, l) =
        settles r (Some t) (with_items r s) (code, due, read, l.2)
    settles (Caller (caller.Open me instance) ∷ r) (Some t) s (code, due, read, l) =
        settles r (Some t) (with_items r s) (code, due, read, l.2)
    settles (Caller (caller.Load active me instance count) ∷ r) (Some t) s (code, due, read, l) = absurd l.0
