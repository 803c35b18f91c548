-- The law `stack_leads_back`: the end of what is read inside the outermost image leads back, and leaves no definition
-- open.
use Rattle.std.proofs.Common.{◌≡◌, inl, inr, ℕ, Bool, true, false, List, [], ◌∷◌, Option, Some, None}
use Rattle.std.proofs.Common.{is_some, refl, sym, ap, ◌∙◌, subst, if◌then◌else◌}
use Rattle.std.specs.Prelude.{◌&&◌, not}
use Rattle.std.specs.Option.{option_map}
use Rattle.of_cells.specs.declared.cells.Cell.{Cell}
use Rattle.of_stacks.specs.declared.return_item.Continuation.{Continuation}
use Rattle.of_stacks.specs.declared.return_item.Continuation.TheVariants as continuation
use Rattle.of_stacks.specs.declared.return_item.Input.{Input}
use Rattle.of_stacks.specs.declared.return_item.Input.TheVariants as input
use Rattle.of_stacks.specs.declared.return_item.Reading.{Reading}
use Rattle.of_stacks.specs.declared.return_item.ReturnItem.{ReturnItem}
use Rattle.of_stacks.specs.declared.return_item.ReturnItem.TheVariants.{Return, Loop, User, Handler, Source, Caller}
use Rattle.of_stacks.specs.Throws.{compiler_nesting}
use Rattle.of_stacks.specs.Unwinding.{beneath_source, latest_source}
use Rattle.of_dict.specs.Words.{xt_of}
use Rattle.of_flow.specs.declared.control_state.Flow.{Flow}
use Rattle.of_state.specs.State.{Calls, State, done, failed, given_up}
use Rattle.of_state.specs.Settling.{ended, going_back, is_line, is_same, or_nothing, reading_on, source_ended}
use Rattle.of_state.specs.Settling.{was_first}
use Rattle.of_state.specs.Settling as settling
use Rattle.of_eval_laws.specs.Returning.{IsDue, IsRead, Leads, LeadsBack, is_code, is_outer, is_outermost}
use Rattle.of_eval_laws.specs.Returning.{is_return_top, reads_nothing}
use Rattle.of_eval_laws.proofs.LeadingEnds.{due_too, given_flow, given_shut}

module _ (image ends : List ℕ) (outer : Reading) where
  abbrev Back : Reading → Bool → Option Continuation → List ReturnItem → Type 0
  Back = LeadsBack image ends outer

  -- what an image or a text that is read inside stands on
  record Below (r : List ReturnItem) : Type 0 where
    pub before : Reading
    pub to : Continuation
    pub rest : List ReturnItem
    pub source : latest_source r ≡ Some before
    pub beneath : beneath_source r ≡ Return to ∷ rest
    pub read : IsRead before
    pub leads : Back before (is_code to) (Some to) rest

  no : true ≡ false → ⊥
  no e = cc

  nothing_outer : (i : Input) → i ≡ input.Nothing → reads_nothing i ≡ true
  nothing_outer i e = ap reads_nothing e

  on_return : (s : Reading) (r : List ReturnItem) → IsRead s → is_return_top r ≡ true → Back s true None r
      → Below (Source s ∷ r)
  unfolding latest_source beneath_source
  on_return s [] i e h = absurd (no (sym e))
  on_return s (Return to ∷ r) i e h =
      record { before = s; to = to; rest = r; source = refl; beneath = refl; read = i; leads = h.1 }
  on_return s (Loop l ∷ r) i e h = absurd (no (sym e))
  on_return s (User x ∷ r) i e h = absurd (no (sym e))
  on_return s (Handler f ∷ r) i e h = absurd (no (sym e))
  on_return s (Source x ∷ r) i e h = absurd (no (sym e))
  on_return s (Caller d ∷ r) i e h = absurd (no (sym e))

  over : (item : ReturnItem) (r : List ReturnItem) → latest_source (item ∷ r) ≡ latest_source r
      → beneath_source (item ∷ r) ≡ beneath_source r → Below r → Below (item ∷ r)
  over item r e f b =
      record {
        before = b.before;
        to = b.to;
        rest = b.rest;
        source = e ∙ b.source;
        beneath = f ∙ b.beneath;
        read = b.read;
        leads = b.leads;
      }

  below : (now : Reading) (r : List ReturnItem) → Back now false None r → is_outer r ≡ false → Below r
  unfolding latest_source beneath_source
  below now [] h e = absurd h
  below now (Loop l ∷ r) h e = over (Loop l) r refl refl (below now r h.1 e)
  below now (User x ∷ r) h e = over (User x) r refl refl (below now r h e)
  below now (Return to ∷ r) h e = absurd (no (sym h.0))
  below now (Handler f ∷ r) h e = absurd cc
  below now (Source s ∷ r) (h, inl o) e = absurd (no (sym (nothing_outer s.input o.0) ∙ e))
  below now (Source s ∷ r) (h, inr i) e = on_return s r i.0 i.1 i.2
  below now (Caller d ∷ r) h e = absurd (no (sym h.1))

  -- an image or a text is read inside
  pub record InImage {S : Type 0} (s : State S) : Type 0 where
    pub read : IsRead s.flow.reading
    pub next : s.flow.next ≡ continuation.Source
    pub leads : Back s.flow.reading false None s.flow.items
    pub inner : is_outer s.flow.items ≡ false

  pub both : {S : Type 0} (s : State S) → InImage s → Leads image ends outer s
  both s h =
      let code : is_code s.flow.next ≡ false = ap is_code h.next in
      let l = subst (λ (b : Bool). Back s.flow.reading b None s.flow.items) (sym code) h.leads in (
        (h.read, due_too image ends outer s.flow.reading (is_code s.flow.next) (Some s.flow.next) s.flow.items l),
        (λ o. absurd (no (sym o ∙ h.inner))),
      )

  goes_back : {S : Type 0} (s : State S) → Below s.flow.items → s.words.defining ≡ None
      → Leads image ends outer (source_ended s)
  goes_back s b e =
      let o = reading_on (or_nothing (latest_source s.flow.items)) s in
      let reading : o.flow.reading ≡ b.before = ap or_nothing b.source in
      let back : going_back (beneath_source s.flow.items) o.flow ≡ record o.flow { items = b.rest; next = b.to } =
      ap (λ (x : List ReturnItem). going_back x o.flow) b.beneath in
      let good : IsDue image ends outer (record o.flow { items = b.rest; next = b.to }) = (
        subst (λ (x : Reading). IsRead x) (sym reading) b.read,
        subst (λ (x : Reading). Back x (is_code b.to) (Some b.to) b.rest) (sym reading) b.leads,
      ) in
      (subst (λ (f : Flow). IsDue image ends outer f) (sym back) good, (λ y. e))

  given_both : {S : Type 0} (c : Calls S) (s : State S) → InImage s → Leads image ends outer (given_up c s)
  given_both c s h =
      let g = given_flow image ends outer c (is_some s.words.defining) s refl in
      let b = both s h in
      let u = (given_up c s).flow in
      let d : IsDue image ends outer (given_up c s).flow = (
        subst (λ (x : Reading). IsRead x) (sym g.1) b.0.0,
        subst (λ (x : Reading). Back x (is_code u.next) (Some u.next) u.items) (sym g.1)
            (subst (λ (x : Continuation). Back s.flow.reading (is_code x) (Some x) (given_up c s).flow.items) (sym g.2)
            (subst (λ (x : List ReturnItem). Back s.flow.reading (is_code s.flow.next) (Some s.flow.next) x) (sym g.0)
            b.0.1)),
      ) in
      (d, (λ o. given_shut image ends outer c s.words.defining s refl))

  -- `end0` and `end1`, and the end of a text
  ended_by : {S : Type 0} (c : Calls S) (s : State S) (o : Option ℕ) (at : Option Cell) (line : Bool)
      → s.words.defining ≡ o → at ≡ None → line ≡ false → InImage s
      → Leads image ends outer
      (if is_some o && not (is_same (option_map (λ (m : ℕ). (let x : Cell = record { 0 = xt_of m } in x)) o) at)
      && not line
      then failed compiler_nesting (given_up c s) else done (source_ended s)).state
  ended_by c s None at line e f g h = goes_back s (below s.flow.reading s.flow.items h.leads h.inner) e
  ended_by c s (Some n) None false e f g h = given_both c s h
  ended_by c s (Some n) None true e f g h = absurd cc
  ended_by c s (Some n) (Some x) line e f g h = absurd cc

  same_nothing : (i : Input) → settling.reads_nothing i ≡ reads_nothing i
  same_nothing input.Nothing = refl
  same_nothing (input.Text n) = refl
  same_nothing (input.Image size n) = refl

  same_first : (o : Option Reading) → was_first o ≡ is_outermost o
  same_first None = refl
  same_first (Some r) = same_nothing r.input

  -- what is read inside the outermost image is no line
  no_line : (i : Input) (items : List ReturnItem) → is_outer items ≡ false → is_line i items ≡ false
  no_line input.Nothing items h = refl
  no_line (input.Text n) items h = same_first (latest_source items) ∙ h
  no_line (input.Image size n) items h = refl

  pub ended_due : {S : Type 0} (c : Calls S) (s : State S) → InImage s → Leads image ends outer (ended c s).state
  ended_due c s h =
      ended_by c s s.words.defining s.flow.reading.opened (is_line s.flow.reading.input s.flow.items) refl h.read.1
      (no_line s.flow.reading.input s.flow.items h.inner) h
