-- The law `stack_leads_back`: what tokens and items leave leads back, and so does a step.
use Rattle.std.proofs.Common.{◌≡◌, inl, inr, ℕ, Bool, true, false, List, [], ◌∷◌, Option, Some, None, Result, Ok, Err}
use Rattle.std.proofs.Common.{refl, sym, ap, ◌∙◌, subst, if◌then◌else◌}
use Rattle.std.specs.Prelude.{◌&&◌}
use Rattle.of_code.specs.declared.item.Item.{Item}
use Rattle.of_code.specs.declared.item.Place.{Place}
use Rattle.of_code.specs.Items.{target_of}
use Rattle.of_stacks.specs.declared.throws.Throw.{Throw}
use Rattle.of_stacks.specs.declared.return_item.Continuation.{Continuation}
use Rattle.of_stacks.specs.declared.return_item.Continuation.TheVariants as continuation
use Rattle.of_stacks.specs.declared.return_item.Input.{Input}
use Rattle.of_stacks.specs.declared.return_item.Input.TheVariants as input
use Rattle.of_stacks.specs.declared.return_item.Reading.{Reading}
use Rattle.of_stacks.specs.declared.return_item.ReturnItem.{ReturnItem}
use Rattle.of_stacks.specs.declared.return_item.ReturnItem.TheVariants.{Return, Loop, User, Handler, Source, Caller}
use Rattle.of_stacks.specs.Unwinding.{latest_handler, latest_source}
use Rattle.of_fcodes.specs.Lookup.{word_numbered}
use Rattle.of_stream.specs.declared.stream.OffsetSize.{OffsetSize}
use Rattle.of_stream.specs.Decoding.{Token, token_from}
use Rattle.of_stream.specs.Sizes.{size_behind}
use Rattle.of_memory.specs.declared.fault.MemFault.{MemFault}
use Rattle.of_memory.specs.DataSpace.{DataSpace}
use Rattle.of_memory.specs.Growth.{append_copied}
use Rattle.of_memory.specs.Images.{latest_image}
use Rattle.of_nodes.specs.declared.phandles.Phandle.{Phandle}
use Rattle.of_dict.specs.Words.{xt_of}
use Rattle.of_compile.specs.declared.defining.DefiningWord.{DefiningWord}
use Rattle.of_compile.specs.Defining.{Making, defining_entry, making, naming_entry, opens}
use Rattle.of_flow.specs.declared.control_state.Flow.{Flow}
use Rattle.of_eval.specs.Acts.{Act, Move, front_of}
use Rattle.of_eval.specs.Acts as act
use Rattle.of_eval.specs.Defining.{by_making, closed_if, define_entry, definition_ended, known_at_once, opened}
use Rattle.of_eval.specs.Defining.{semicolon_entry, string_kept, string_put, string_refused, word_defined}
use Rattle.of_eval.specs.Defining.{by_slot_making, word_made_as}
use Rattle.of_eval.specs.Doing.{acted, appended, executed, input_at, moved, worked}
use Rattle.of_eval.specs.Naming.{naming_done, word_named, word_named_as}
use Rattle.of_eval.specs.Executing.{execution, plan_in}
use Rattle.of_eval.specs.Items.{item_act}
use Rattle.of_cells.specs.declared.cells.Cell.{Cell}
use Rattle.of_ihandles.specs.Table.{InstanceTable}
use Rattle.of_state.specs.Loading.{image_begun}
use Rattle.of_eval.specs.Methods.{then_known}
use Rattle.of_state.specs.Settling.{settled, thrown_in}
use Rattle.of_state.specs.State.{Answered, Calls, Outcome, State, by_code, with_next}
use Rattle.of_eval.specs.Reading.{found_token, read_on}
use Rattle.of_steps.specs.Steps.{due, item_done, item_due, reading_due, settled_of, stepped}
use Rattle.of_board.specs.declared.board.Board.{Board}
use Rattle.of_text.specs.declared.words.Found.{Found}
use Rattle.of_interpret.specs.Reading.{read_from, word_at, word_done}
use Rattle.of_interpret.specs.Strings.{all_appended, by_spelling, by_string, string_said, string_spelt}
use Rattle.of_interpret.specs.TextActs.{Acts, AppendsAll, Interprets, Names, Says, Sees, Selects, Spells, TextAct}
use Rattle.of_interpret.specs.TextActs.{text_acted}
use Rattle.of_interpret.specs.TextWords.{text_act}
use Rattle.of_eval.specs.Tokens.{act_of, spot_in}
use Rattle.of_flow.specs.Tokens.{typed_of}
use Rattle.of_eval_laws.specs.Listed.{plan_of_item}
use Rattle.of_eval_laws.specs.Returning.{IsRead, IsSource, Leads, LeadsOn, StackLeadsBack, is_back}
use Rattle.of_eval_laws.specs.Returning.{is_code, is_outer, is_read_on, reads_nothing}
use Rattle.of_eval_laws.proofs.LeadingActs.{Back, BackAs, IsInner, Rests, Runs, leading, leading_turns, looped, no}
use Rattle.of_eval_laws.proofs.LeadingActs.{appended_leads, turned, none_open, worked_leads}
use Rattle.of_eval_laws.proofs.LeadingBack.{InImage, ended_due}
use Rattle.of_eval_laws.proofs.LeadingEnds.{IsSettled, due_too, settles}
use Rattle.of_eval_laws.proofs.MethodLemmas.{known_flow}
use Rattle.of_eval_laws.proofs.TextFaults.{IsSaid, word_said}
use Rattle.of_eval_laws.proofs.ThrowsSettle.{throws_settle}
use Rattle.of_eval_laws.proofs.Walk.{IsAct, IsPlace, item_acts, typed_acts}
use Rattle.of_eval_laws.proofs.WalkTexts.{AnyBytes, IsTextAct, text_acts}
use Rattle.of_eval_laws.proofs.WalkTyped.{typed_may}
use Rattle.of_eval_laws.proofs.WalkWords.{IsMove, IsTurn, all_executed, execution_works}
use Rattle.of_compile.specs.SlotWords.{SlotMaking, awaited}
use Rattle.of_dict.specs.declared.word.Slot.{Slot}

-- ---- what defining leaves of control

-- the same items, the same is read, and control goes on at the same place
abbrev GoesOn : {S : Type 0} → State S → State S → Type 0
GoesOn s u = (u.flow.items ≡ s.flow.items) × (u.flow.reading ≡ s.flow.reading) × (u.flow.next ≡ s.flow.next)

by_flow : {S : Type 0} (s u v : State S) → v.flow ≡ u.flow → GoesOn s u → GoesOn s v
by_flow s u v e h = (
  ap (λ (f : Flow). f.items) e ∙ h.0,
  ap (λ (f : Flow). f.reading) e ∙ h.1,
  ap (λ (f : Flow). f.next) e ∙ h.2,
)

opened_goes : {S : Type 0} (b : Bool) (s : State S) → GoesOn s (opened b s)
opened_goes true s = (refl, refl, refl)
opened_goes false s = (refl, refl, refl)

making_goes : {S : Type 0} (d : DefiningWord) (g : Result Making Throw) (s : State S)
    → GoesOn s (by_making d g s).state
making_goes d (Ok g) s =
    opened_goes (opens d)
    (record s { words = g.words; board = record s.board { stack = g.stack; memory = g.memory } })
making_goes d (Err t) s = (refl, refl, refl)

slot_goes : {S : Type 0} (g : Result SlotMaking Throw) (s : State S) → GoesOn s (by_slot_making g s).state
slot_goes (Ok g) s = (refl, refl, refl)
slot_goes (Err t) s = (refl, refl, refl)

word_goes : {S : Type 0} (c : Calls S) (d : DefiningWord) (o : Option Slot) (s : State S)
    → GoesOn s (word_made_as c d o s).state
word_goes c d None s =
    making_goes d (defining_entry d (c.ends_at s.code) (making s.words s.board.stack s.board.memory)) s
word_goes c d (Some k) s = slot_goes _ s

known_goes : {S : Type 0} (home : Option Phandle) (o : Option ℕ) (s : State S) (a : Outcome S) → GoesOn s a.state
    → GoesOn s (then_known home o a).state
known_goes home None s a h = h
known_goes home (Some n) s a h =
    by_flow s a.state (then_known home (Some n) a).state (known_flow a.ended home n a.state) h

define_goes : {S : Type 0} (c : Calls S) (d : DefiningWord) (s : State S) → GoesOn s (define_entry c d s).state
define_goes c d s =
    known_goes s.board.active.«package» (known_at_once d s.words.dictionary) s (word_defined c d s)
    (word_goes c d (awaited d s.words) s)

closed_goes : {S : Type 0} (code : S) (e : Result (Unit {0}) Throw) (s : State S)
    → GoesOn s (by_code (record { code = code; ended = e }) (closed_if e s)).state
closed_goes code (Ok x) s = (refl, refl, refl)
closed_goes code (Err t) s = (refl, refl, refl)

ended_goes : {S : Type 0} (c : Calls S) (o : Option ℕ) (s : State S) → GoesOn s (definition_ended c o s).state
ended_goes c None s = (refl, refl, refl)
ended_goes c (Some n) s =
    let a = c.semicolon (record { 0 = xt_of n }) s.code in closed_goes a.code a.ended s

semicolon_goes : {S : Type 0} (c : Calls S) (o : Option ℕ) (s : State S) → GoesOn s (semicolon_entry c o s).state
semicolon_goes c o s = known_goes s.flow.home o s (definition_ended c o s) (ended_goes c o s)

named_goes : {S : Type 0} (c : Calls S) (d : DefiningWord) (name : List ℕ) (o : Option Slot) (s : State S)
    → GoesOn s (word_named_as c d name o s).state
named_goes c d name None s =
    making_goes d (naming_entry d name (c.ends_at s.code) (making s.words s.board.stack s.board.memory)) s
named_goes c d name (Some k) s = slot_goes _ s

naming_goes : {S : Type 0} (c : Calls S) (d : DefiningWord) (name : List ℕ) (s : State S)
    → GoesOn s (naming_done c d name s).state
naming_goes c d name s =
    known_goes s.board.active.«package» (known_at_once d s.words.dictionary) s (word_named c d name s)
    (named_goes c d name (awaited d s.words) s)

module _ (image ends : List ℕ) (outer : Reading) where
  -- ---- an image inside

  -- inside, it matters not what is read
  now_free : (now after : Reading) (code : Bool) (behind : Option Continuation) (r : List ReturnItem)
      → is_outer r ≡ false → Back image ends outer now code behind r → Back image ends outer after code behind r
  unfolding latest_source
  now_free now after code behind [] e h = h
  now_free now after code behind (Loop l ∷ r) e h = (h.0, now_free now after code None r e h.1)
  now_free now after code behind (User x ∷ r) e h = now_free now after code None r e h
  now_free now after code behind (Return to ∷ r) e h = (h.0, now_free now after (is_code to) (Some to) r e h.1)
  now_free now after code behind (Handler f ∷ r) e h = (h.0, h.1, h.2, now_free now after code behind r e h.3)
  now_free now after code behind (Source s ∷ r) e (h, inl o) = absurd (no (sym (ap reads_nothing o.0) ∙ e))
  now_free now after code behind (Source s ∷ r) e (h, inr i) = (h, inr i)
  now_free now after code behind (Caller d ∷ r) e h = (h.0, h.1, now_free now after code behind r e h.2)

  still_source : (n : ℕ) (i : Input) → IsSource i → IsSource (input_at n i)
  still_source n (input.Image size p) h = h
  still_source n (input.Text p) h = h
  still_source n input.Nothing h = h

  -- control goes on as it did, inside the outermost image
  goes_on : {S : Type 0} (s u : State S) → Leads image ends outer s → is_outer s.flow.items ≡ false → GoesOn s u
      → Leads image ends outer u
  goes_on s u h inner g = (
    (
      subst (λ x. IsRead x) (sym g.1) h.0.0,
      subst (λ x. Back image ends outer x (is_code u.flow.next) (Some u.flow.next) u.flow.items) (sym g.1)
          (subst (λ x. Back image ends outer s.flow.reading (is_code x) (Some x) u.flow.items) (sym g.2)
          (subst (λ x. Back image ends outer s.flow.reading (is_code s.flow.next) (Some s.flow.next) x)
          (sym g.0) h.0.1)),
    ),
    (λ o. absurd (no (sym o ∙ ap is_outer g.0 ∙ inner))),
  )

  -- ---- acts

  put_leads : {S : Type 0} (e : Result (Unit {0}) Throw) (code : S) (m : DataSpace) (s : State S)
      → Leads image ends outer s → Leads image ends outer (string_put e code m s).state
  put_leads (Ok x) code m s h = h
  put_leads (Err t) code m s h = h

  refused_leads : {S : Type 0} (e : Result (Unit {0}) Throw) (t : Throw) (s : State S) → Leads image ends outer s
      → Leads image ends outer (string_refused e t s).state
  refused_leads (Ok x) t s h = h
  refused_leads (Err first) t s h = h

  kept_leads : {S : Type 0} (a : Answered S) (r : Result (ℕ × DataSpace) MemFault) (s : State S)
      → Leads image ends outer s
      → Leads image ends outer (string_kept a r s).state
  kept_leads a (Ok x) s h = put_leads a.ended a.code x.1 s h
  kept_leads a (Err fault) s h = refused_leads a.ended _ s h

  -- what a move of a token of control leaves
  turn_leads : {S : Type 0} (code : Bool) (m : Move) (s : State S) → IsMove (leading image ends outer S code) s m
      → IsTurn m s.flow.items → Rests image ends outer code s
      → BackAs image ends outer s.flow.reading code None s.flow.items (moved m s.flow.items)
  turn_leads code act.Keeps s h t p = (p, refl)
  turn_leads code (act.Pushes item) s h t p = absurd t
  turn_leads code act.Drops s h t p = looped image ends outer s.flow.reading code None None s.flow.items t p
  turn_leads code (act.Turns l) s h t p =
      turned image ends outer s.flow.reading code None None l s.flow.items t h.0.0 p

  -- the image is read on with these items
  on_with : {S : Type 0} (s u : State S) (code : Bool) → Runs image ends outer code s → IsInner image ends outer code s
      → code ≡ false → IsRead u.flow.reading → u.flow.next ≡ s.flow.next
      → BackAs image ends outer s.flow.reading code None s.flow.items u.flow.items
      → Leads image ends outer u
  on_with s u code p i f read next b =
      let inner : is_outer u.flow.items ≡ false = b.1 ∙ i f in
      let l = now_free s.flow.reading u.flow.reading code None u.flow.items inner b.0 in
      let same : is_code u.flow.next ≡ code = ap is_code next ∙ p.1 in (
        (
          read,
          due_too image ends outer u.flow.reading (is_code u.flow.next) (Some u.flow.next) u.flow.items
              (subst (λ x. Back image ends outer u.flow.reading x None u.flow.items) (sym same) l),
        ),
        (λ o. absurd (no (sym o ∙ inner))),
      )

  read_source : (to : Continuation) → is_code to ≡ false → to ≡ continuation.Source
  read_source continuation.Source e = refl
  read_source (continuation.Code n) e = absurd (no e)

  in_image : {S : Type 0} (s : State S) (code : Bool) → code ≡ false → Runs image ends outer code s
      → Rests image ends outer code s → IsInner image ends outer code s → InImage image ends outer s
  in_image s code f p r i = record {
    read = p.0.0.0;
    next = read_source s.flow.next (p.1 ∙ f);
    leads = subst (λ b. Back image ends outer s.flow.reading b None s.flow.items) f r;
    inner = i f;
  }

  acted_leads : {S : Type 0} (code : Bool) (c : Calls S) (a : Act) (s : State S)
      → IsAct (leading image ends outer S code) (leading_turns image ends outer S code) s a
      → Runs image ends outer code s
      → Rests image ends outer code s → IsInner image ends outer code s → Leads image ends outer (acted c a s).state
  unfolding acted
  acted_leads code c (act.Does a) s h p r i = worked_leads image ends outer code c a s h p
  acted_leads code c (act.Goes cells move n) s h p r i =
      on_with s (acted c (act.Goes cells move n) s).state code p i h.0
      (still_source n s.flow.reading.input p.0.0.0.0, p.0.0.0.1) refl (turn_leads code move s h.1 h.2 r)
  acted_leads code c (act.Copies a n) s h p r i = kept_leads _ (append_copied s.board.memory a n []) s p.0
  acted_leads code c (act.Makes d) s h p r i = goes_on s (define_entry c d s).state p.0 (i h) (define_goes c d s)
  acted_leads code c act.Closes s h p r i =
      goes_on s (semicolon_entry c s.words.defining s).state p.0 (i h) (semicolon_goes c s.words.defining s)
  acted_leads code c act.Ends s h p r i = ended_due image ends outer c s (in_image s code h p r i)

  -- ---- words, items and tokens

  word_leads : {S : Type 0} (c : Calls S) (xt : ℕ) (s : State S) → Runs image ends outer (is_code s.flow.next) s
      → Leads image ends outer (executed c xt s).state
  word_leads {S} c xt s p =
      let code = is_code s.flow.next in
      worked_leads image ends outer code c (execution xt (front_of s)) s
      (execution_works (leading image ends outer S code) tt xt s p (λ e. tt) (λ x e. tt)) p

  aims_in : {S : Type 0} (to : Option Place) (s : State S) → Rests image ends outer true s
      → IsPlace (leading image ends outer S true) s to
  aims_in None s r = tt
  aims_in (Some to) s r = (refl, r)

  -- a state in a definition
  code_runs : {S : Type 0} (s : State S) → is_code s.flow.next ≡ true → LeadsOn image ends outer s
      → Runs image ends outer true s × Rests image ends outer true s × IsInner image ends outer true s
  code_runs s e h =
      let l = h.0.1 in (
        (
          (
            (h.0.0, due_too image ends outer s.flow.reading (is_code s.flow.next) (Some s.flow.next) s.flow.items l),
            h.1,
          ),
          e,
        ),
        subst (λ b. Back image ends outer s.flow.reading b None s.flow.items) e l,
        (λ f. absurd (no f)),
      )

  item_leads : {S : Type 0} (c : Calls S) (i : Item) (s : State S) → is_code s.flow.next ≡ true
      → LeadsOn image ends outer s → Leads image ends outer (item_done c i s).state
  item_leads {S} c i s e h =
      let p = code_runs s e h in
      let R = leading image ends outer S true in
      acted_leads true c (item_act i (front_of s)) s
      (item_acts R (leading_turns image ends outer S true) i s (aims_in (target_of i) s p.1) p
      (all_executed R tt (plan_of_item i (plan_in s)) s p.0 tt (λ y f. tt)))
      p.0 p.1 p.2

  item_due_leads : {S : Type 0} (c : Calls S) (x : Option (Item × Place)) (s : State S) → is_code s.flow.next ≡ true
      → LeadsOn image ends outer s → Leads image ends outer (item_due c x s).state
  item_due_leads c None s e h = (code_runs s e h).0.0
  item_due_leads c (Some x) s e h =
      item_leads c x.0 (with_next (continuation.Code x.1.cell) s) refl
      ((h.0.0, subst (λ b. Back image ends outer s.flow.reading b None s.flow.items) e h.0.1), h.1)

  -- a state in an image or a text inside
  record Inner {S : Type 0} (s : State S) : Type 0 where
    pub read : IsRead s.flow.reading
    pub next : is_code s.flow.next ≡ false
    pub leads : Rests image ends outer false s
    pub inner : is_outer s.flow.items ≡ false

  inner_runs : {S : Type 0} (s : State S) → Inner s
      → Runs image ends outer false s × Rests image ends outer false s × IsInner image ends outer false s
  inner_runs s h =
      let l = subst (λ b. Back image ends outer s.flow.reading b None s.flow.items) (sym h.next) h.leads in (
        (
          (
            (h.read, due_too image ends outer s.flow.reading (is_code s.flow.next) (Some s.flow.next) s.flow.items l),
            (λ o. absurd (no (sym o ∙ h.inner))),
          ),
          h.next,
        ),
        h.leads,
        (λ f. h.inner),
      )

  found_leads : {S : Type 0} (c : Calls S) (x : Option (Token × ℕ)) (size : OffsetSize) (position : ℕ) (s : State S)
      → Inner s → Leads image ends outer (found_token c x size position s).state
  found_leads c None size position s h = (inner_runs s h).0.0
  found_leads {S} c (Some x) size position s h =
      let on = read_on (size_behind x.0.code.0 size) x.1 s in
      let here = spot_in s.board.memory position x.1 in
      let R = leading image ends outer S false in
      let T = leading_turns image ends outer S false in
      let inner : Inner on = record {
        read = (tt, h.read.1);
        next = h.next;
        leads = now_free s.flow.reading on.flow.reading false None s.flow.items h.inner h.leads;
        inner = h.inner;
      } in
      let p = inner_runs on inner in
      acted_leads false c (act_of (typed_of x.0) here (front_of on)) on
      (typed_acts R T (typed_of x.0) here on p
      (typed_may R T (word_numbered x.0.code.0) x.0.code x.0.argument on.flow.is_compiling on
      (record {
        positions = refl;
        ends = λ e. refl;
        makes = λ e. refl;
        closes = λ e z. refl;
        appends = λ e. tt;
        executes = all_executed R tt _ on p.0 tt (λ y e. tt);
      })))
      p.0 p.1 p.2

  -- ---- words of a text

  all_lead : {S : Type 0} (a : Answered S) (cells : List Cell) (s : State S) → Leads image ends outer s
      → Leads image ends outer (appended a cells s).state
  all_lead a cells s h = appended_leads image ends outer a.code a.ended cells s h

  said_leads : {S : Type 0} (r : Result (ℕ × Board) Throw) (s : State S) → Leads image ends outer s
      → Leads image ends outer (by_string r s).state
  said_leads (Ok x) s h = h
  said_leads (Err t) s h = h

  spelt_leads : {S : Type 0} (r : Result (S × DataSpace) Throw) (s : State S) → Leads image ends outer s
      → Leads image ends outer (by_spelling r s).state
  spelt_leads (Ok x) s h = h
  spelt_leads (Err t) s h = h

  text_leads : {S : Type 0} (c : Calls S) (a : TextAct) (s : State S)
      → IsTextAct (leading image ends outer S false) (leading_turns image ends outer S false) AnyBytes s a
      → Runs image ends outer false s → Rests image ends outer false s → IsInner image ends outer false s
      → Leads image ends outer (text_acted c a s).state
  unfolding text_acted worked
  text_leads c (Acts a) s h p r i = acted_leads false c a s h p r i
  text_leads c (AppendsAll es cells) s h p r i = all_lead (all_appended c es s.code) cells s p.0
  text_leads c (Names d name) s h p r i = goes_on s (naming_done c d name s).state p.0 (i refl) (naming_goes c d name s)
  text_leads c (Says bytes) s h p r i = said_leads (string_said bytes s.flow.strings s.board) s p.0
  text_leads c (Spells bytes es) s h p r i = spelt_leads (string_spelt c bytes es s.board.memory s.code) s p.0
  text_leads c Interprets s h p r i = p.0
  text_leads c (Selects node) s h p r i = p.0
  text_leads c (Sees xt) s h p r i = p.0

  spoken_leads : {S : Type 0} (c : Calls S) (x : Found) (s : State S) → IsSaid x.word → Inner s
      → Leads image ends outer (word_done c x s).state
  spoken_leads {S} c x s said h =
      let on = read_from x.next s in
      let R = leading image ends outer S false in
      let T = leading_turns image ends outer S false in
      let inner : Inner on = record {
        read = (tt, h.read.1);
        next = h.next;
        leads = now_free s.flow.reading on.flow.reading false None s.flow.items h.inner h.leads;
        inner = h.inner;
      } in
      let p = inner_runs on inner in
      text_leads c (text_act x.word (front_of on)) on
      (text_acts R T AnyBytes x.word on p.0
      (record {
        said = said;
        ends = λ e. refl;
        makes = refl;
        closes = λ e. refl;
        appends = λ e. tt;
        prints = tt;
        executes = all_executed R tt _ on p.0 tt (λ y e. tt);
        strings = λ n. tt;
        quotes = λ at. tt;
      }))
      p.0 p.1 p.2

  reading_leads : {S : Type 0} (c : Calls S) (i : Input) (s : State S) → s.flow.reading.input ≡ i → Inner s
      → Leads image ends outer (reading_due c i s).state
  reading_leads c (input.Image size position) s e h =
      found_leads c (token_from (latest_image s.board.memory) position size) size position s h
  reading_leads c (input.Text position) s e h = spoken_leads c (word_at position s) s (word_said position s) h
  reading_leads c input.Nothing s e h = (inner_runs s h).0.0

  -- ---- a step

  settled_leads : {S : Type 0} (c : Calls S) (thrown : Option Throw) (s : State S) → Leads image ends outer s
      → IsSettled image ends outer (settled c s.flow.items thrown s)
  settled_leads {S} c None s h =
      settles image ends outer c (throws_settle S) s.flow.items None s
      (record { items = refl; read = h.0.0; leads = h.0.1; shut = h.1 })
  settled_leads {S} c (Some t) s h =
      settles image ends outer c (throws_settle S) s.flow.items (Some t) s
      (is_code s.flow.next, Some s.flow.next, h.0.0, h.0.1)

  due_leads : {S : Type 0} (c : Calls S) (to : Continuation) (s : State S) → s.flow.next ≡ to → is_back s ≡ false
      → LeadsOn image ends outer s → Leads image ends outer (due c to s).state
  due_leads c continuation.Source s e away h =
      reading_leads c s.flow.reading.input s refl
      (record {
        read = h.0.0;
        next = ap is_code e;
        leads = subst (λ b. Back image ends outer s.flow.reading b None s.flow.items) (ap is_code e) h.0.1;
        inner = ap (λ (x : Continuation). is_read_on x && is_outer s.flow.items) (sym e) ∙ away;
      })
  due_leads c (continuation.Code n) s e away h =
      item_due_leads c (c.fetch s.code (record { cell = n })) s (ap is_code e) h

  step_leads : {S : Type 0} (c : Calls S) (s : State S) → s.flow.is_running ≡ true → is_back s ≡ false
      → LeadsOn image ends outer s → IsSettled image ends outer (stepped c s)
  unfolding stepped
  step_leads c s running away h =
      let o = due c s.flow.next s in
      subst (λ b. IsSettled image ends outer (if b then settled_of c o else s)) (sym running)
      (settled_leads c (thrown_in o.ended) o.state (due_leads c s.flow.next s refl away h))

-- ---- the law

nothing_inside : (i : Input) → i ≡ input.Nothing → reads_nothing i ≡ true
nothing_inside i e = ap reads_nothing e

begun_leads : {S : Type 0} (image ends : List ℕ) (node : Phandle) (instance : Cell) (x : InstanceTable × DataSpace)
    (s : State S) → s.flow.reading.input ≡ input.Nothing → s.words.defining ≡ None
    → (is_back (image_begun image node instance x s) ≡ true)
    × LeadsOn image ends (image_begun image node instance x s).flow.reading (image_begun image node instance x s)
unfolding latest_source latest_handler
begun_leads image ends node instance x s e shut = (
  nothing_inside s.flow.reading.input e,
  (((tt, none_open s shut), (refl, inl (e, refl, (refl, refl)))), (λ o. shut)),
)

pub stack_leads_back : (S : Type 0) → StackLeadsBack S
stack_leads_back S = record {
  begun = λ image ends node instance x s e shut. begun_leads image ends node instance x s e shut;
  words = λ image ends outer c xt s h. word_leads image ends outer c xt s (h, refl);
  items = λ image ends outer c i s e h. item_leads image ends outer c i s e h;
  settled = λ image ends outer c thrown s h. settled_leads image ends outer c thrown s h;
  step = λ image ends outer c s running away h. step_leads image ends outer c s running away h;
}
