-- The step of each word of control whose token has no offset.
use Rattle.std.proofs.Common.{◌≡◌, ℕ, Bool, true, false, List, [], ◌∷◌, length, drop, Option, Some, None}
use Rattle.std.proofs.Common.{Result, Ok, Err, refl, sym, ap, ◌∙◌, subst}
use Rattle.of_cells.specs.declared.cells.Cell.{Cell}
use Rattle.of_stacks.specs.declared.throws.Throw.{Throw}
use Rattle.of_stacks.specs.declared.return_item.LoopExit.{LoopExit}
use Rattle.of_stacks.specs.declared.return_item.LoopExit.TheVariants as exit
use Rattle.of_stacks.specs.declared.return_item.LoopParameters.{LoopParameters}
use Rattle.of_stacks.specs.declared.return_item.ReturnItem.{ReturnItem}
use Rattle.of_stacks.specs.declared.return_item.ReturnItem.TheVariants.{Return, Loop, User, Handler, Source, Caller}
use Rattle.of_stacks.specs.Loops.{loop_on_top}
use Rattle.of_stream.specs.declared.stream.OffsetSize.{OffsetSize}
use Rattle.of_stream.specs.Bytes.{token_bytes}
use Rattle.of_stream.specs.Decoding.{token_from}
use Rattle.of_source.specs.Items.{bare}
use Rattle.of_source.specs.Nest.{Nest}
use Rattle.of_tok.specs.declared.place.Place.{Place}
use Rattle.of_tok.specs.Places.{behind, past}
use Rattle.of_tok.specs.Tokens.{straight}
use Rattle.of_flow.specs.declared.control.ControlWord.TheVariants as control
use Rattle.of_flow.specs.declared.token.Token.{Token as Word}
use Rattle.of_flow.specs.declared.token.Token.TheVariants as token
use Rattle.of_flow.specs.Turns.{Turn, control_entry}
use Rattle.of_eval.specs.Acts.{Drops, front_of}
use Rattle.of_eval.specs.Doing.{acted, worked}
use Rattle.of_eval.specs.Items.{Position, going}
use Rattle.of_eval.specs.Registers.{by_turn, landed}
use Rattle.of_eval.specs.Tokens.{at_position, leave_act, spot_in, token_act}
use Rattle.of_state.specs.State.{Calls, Outcome, State, done, with_items}
use Rattle.of_steps.specs.Steps.{settled_of}
use Rattle.of_eval_laws.specs.Throws.{ThrowsSettle}
use Rattle.of_eval_laws.specs.Tokens.{IsBare, TokensAreTyped}
use Rattle.of_means.specs.Moments.{Moment, made, with_state}
use Rattle.of_means.specs.Courses.{Course, On}
use Rattle.of_means.specs.Means.{at, at_place, controlled, fallen, forked, leaves, one_way, position_in, token_at}
use Rattle.of_means.specs.Means.{turned}
use Rattle.of_means.specs.Sources.{IsExit, IsInImage, IsLevel}
use Rattle.of_means.specs.Laws.{StaysKept}
use Rattle.of_means.proofs.Steps.{one_step, plain_step}
use Rattle.of_means.proofs.Runs.{token_found}
use Rattle.of_eval_laws.specs.Returning.{AreAmong, end_in, loop_ends}
use Rattle.of_means.proofs.Level.{Leveled, drop_any}
use Rattle.of_means.proofs.Control.{ends_case, executed_at}
use Rattle.of_means.proofs.Following.{Reached, Stands, here, placed}
use Rattle.of_means.proofs.Turning.{Before as TurningBefore, IsFound, falls, rests, turned_stands}

-- the return stack that is left
abbrev left_items : Result Turn Throw → List ReturnItem → List ReturnItem
left_items (Ok t) r = t.items
left_items (Err t) r = r

-- whether control goes to the target
abbrev went : Result Turn Throw → Bool
went (Ok t) = t.goes
went (Err t) = false

module _ {S : Type 0} (c : Calls S) (own : Nest → Calls S) (image loops : List ℕ) (lo : ℕ) (z : OffsetSize)
    (Keeps : State S → Type 0)
    (settles : ThrowsSettle S) (typed : TokensAreTyped) (kept : StaysKept c Keeps) where
  abbrev Stand : Moment S → Type 0
  Stand m = Stands c own image loops lo z Keeps m

  abbrev spot : ℕ → Moment S → Moment S
  spot k m = here c own image loops lo z Keeps k m

  abbrev Reach : ℕ → Moment S → ℕ → ℕ → List ℕ → Bool → ℕ → Course S → Type 0
  Reach n s0 k d aims cases out f = Reached c own image loops lo z Keeps n s0 k d aims cases out f

  abbrev Before : Moment S → Moment S → Type 0
  Before s0 s = TurningBefore c own image loops lo z Keeps settles typed kept s0 s

  abbrev Found : ℕ → Place → Type 0
  Found k p = IsFound c own image loops lo z Keeps settles typed kept (straight k p) p

  calm : (u : Moment S) → IsLevel image u.state.flow.items → settled_of c (done u.state) ≡ u.state
  calm u l = rests c own image loops lo z Keeps settles typed kept u l

  fall : (t : Throw) (u : Moment S) → IsLevel image u.state.flow.items → (fallen c t u).state.flow.is_running ≡ false
  fall t u l = falls c own image loops lo z Keeps settles typed kept t u l

  -- a token without an offset is done
  bare_step : (k : ℕ) (w : Word) (p : Place) (s : Moment S) (o : Outcome S) → p.size ≡ z → IsBare k w
      → behind (bare k) p ≡ past 1 p → Stand s → Found k p
      → acted c (token_act w (spot_in s.state.board.memory p.position (past 1 p).position)
      (front_of (at_place (past 1 p) s.state)))
      (at_place (past 1 p) s.state) ≡ o
      → o.asks ≡ None
      → made c (spot p.position s) ≡ Some (with_state (settled_of c o) s)
  bare_step k w p s o e is next stand found does asks =
      let q = past 1 p in
      let t = bare k in
      let there : token_from image p.position p.size ≡ Some (t, q.position) =
      found.0 ∙ ap (λ (y : Place). Some (t, y.position)) next in
      ap (made c) (sym (placed c own image loops lo z Keeps p s e))
      ∙ token_found c image loops Keeps false p q t s stand there (sym (ap (λ (y : Place). y.size) next))
      ∙ plain_step c (token_at c t p q) s o (executed_at c image loops Keeps t w p q s.state is stand ∙ does) asks

  nothing_step : (k : ℕ) (w : Word) (p : Place) (s : Moment S) → p.size ≡ z → IsBare k w
      → behind (bare k) p ≡ past 1 p → Stand s → Found k p
      → acted c (token_act w (spot_in s.state.board.memory p.position (past 1 p).position)
      (front_of (at_place (past 1 p) s.state)))
      (at_place (past 1 p) s.state) ≡ done (at_place (past 1 p) s.state)
      → made c (spot p.position s) ≡ Some (spot (past 1 p).position s)
  nothing_step k w p s e is next stand found does =
      let q = past 1 p in
      bare_step k w p s (done (at_place q s.state)) e is next stand found does refl
      ∙ ap (λ x. Some (with_state x s)) (calm (at q s) stand.level)
      ∙ ap Some (placed c own image loops lo z Keeps q s e)

  pub mark_step : (s : Moment S) (p : Place) → p.size ≡ z → Stand s → Found 0x0b1 p
      → made c (spot p.position s) ≡ Some (spot (past 1 p).position s)
  unfolding token_bytes token_act acted worked
  mark_step s p e stand found = nothing_step 0x0b1 token.Mark p s e typed.mark refl stand found refl

  pub resolve_step : (s : Moment S) (p : Place) → p.size ≡ z → Stand s → Found 0x0b2 p
      → made c (spot p.position s) ≡ Some (spot (past 1 p).position s)
  unfolding token_bytes token_act acted worked
  resolve_step s p e stand found = nothing_step 0x0b2 token.Resolve p s e typed.resolve refl stand found refl

  pub case_step : (s : Moment S) (p : Place) → p.size ≡ z → Stand s → Found 0x0c4 p
      → made c (spot p.position s) ≡ Some (spot (past 1 p).position s)
  unfolding token_bytes token_act acted worked
  case_step s p e stand found = nothing_step 0x0c4 token.Case p s e typed.case refl stand found refl

  -- ---- `leave`

  abbrev unlooped : Moment S → Moment S
  unlooped m = with_state (with_items (drop 1 m.state.flow.items) m.state) m

  leave_ok : (n : ℕ) (s0 s : Moment S) (k1 : ℕ) (k d : ℕ) (aims : List ℕ) (cases : Bool) (out : ℕ) (l : LoopParameters)
      (r : List ReturnItem) (x : LoopExit) → l.exit ≡ x → s.state.flow.items ≡ Loop l ∷ r → Stand s → Before s0 s
      → made c s0 ≡ Some (with_state
      (settled_of c (acted c (leave_act (length image) s.state.board.stack (Ok l)) (spot k1 s).state)) s)
      → Reach n s0 k d aims cases out (leaves c (Ok l) (spot k1 s))
  unfolding acted
  leave_ok n s0 s k1 k d aims cases out l r (exit.Code m) ex e stand k0 st =
      let lv = subst (λ y. IsLevel image y) e stand.level in
      absurd (subst (λ y. IsExit image y) ex lv.0)
  leave_ok n s0 s k1 k d aims cases out l r (exit.Position m) ex e stand k0 st =
      let lv = subst (λ y. IsLevel image y) e stand.level in
      let lands : IsInImage image m = subst (λ y. IsExit image y) ex lv.0 in
      let u = unlooped (spot k1 s) in
      let below : IsLevel image (drop 1 s.state.flow.items) =
      subst (λ (y : List ReturnItem). IsLevel image (drop 1 y)) (sym e) lv.1 in
      let turn : Turn = record { stack = s.state.board.stack; items = drop 1 s.state.flow.items; goes = true } in
      let goes : made c s0 ≡ Some (spot m u) =
      st
      ∙ ap (λ (y : LoopExit). Some
      (with_state (settled_of c
      (acted c (leave_act (length image) s.state.board.stack (Ok (record l { exit = y }))) (spot k1 s).state)) s)) ex
      ∙ ap (λ (o : Option ℕ). Some
      (with_state (settled_of c (acted c (going (at_position o) s.state.board.stack Drops) (spot k1 s).state)) s))
      lands
      ∙ ap (λ y. Some (with_state y s)) (calm (spot m u) below) in
      let open_ones : AreAmong (end_in l.exit ∷ loop_ends r) loops =
      subst (λ (y : List ReturnItem). AreAmong (loop_ends y) loops) e stand.among in
      let beneath : AreAmong (loop_ends (drop 1 s.state.flow.items)) loops =
      subst (λ (y : List ReturnItem). AreAmong (loop_ends (drop 1 y)) loops) (sym e)
      (drop_any (end_in l.exit) (loop_ends r) loops open_ones) in
      let there : Stand (turned turn s) =
      turned_stands c own image loops lo z Keeps settles typed kept loops loops turn s s0 m stand below beneath k0 goes
      in
      let whence : position_in l.exit ≡ m = ap position_in ex in
      let left : AreAmong (position_in l.exit ∷ loop_ends (drop 1 s.state.flow.items)) loops =
      subst (λ (w : ℕ). AreAmong (w ∷ loop_ends (drop 1 s.state.flow.items)) loops) (ap end_in ex ∙ sym whence)
      (subst (λ (y : List ReturnItem). AreAmong (end_in l.exit ∷ loop_ends (drop 1 y)) loops) (sym e) open_ones) in (
        record {
          running = there.running;
          next = there.next;
          compiles = there.compiles;
          defines = there.defines;
          opened = there.opened;
          level = there.level;
          among = there.among;
          bytes = there.bytes;
          kept = there.kept;
        },
        left,
        one_step c s0 _ (goes ∙ ap (λ (y : ℕ). Some (spot y u)) (sym whence)),
      )

  thrown : (n : ℕ) (s0 s : Moment S) (k1 : ℕ) (k d : ℕ) (aims : List ℕ) (cases : Bool) (out : ℕ) (t : Throw)
      → Stand s
      → made c s0 ≡ Some (with_state
      (settled_of c (acted c (leave_act (length image) s.state.board.stack (Err t)) (spot k1 s).state)) s)
      → Reach n s0 k d aims cases out (leaves c (Err t) (spot k1 s))
  unfolding acted worked
  thrown n s0 s k1 k d aims cases out t stand st = (fall t (spot k1 s) stand.level, one_step c s0 _ st)

  leave_items : (n : ℕ) (s0 s : Moment S) (k1 : ℕ) (k d : ℕ) (aims : List ℕ) (cases : Bool) (out : ℕ)
      (items : List ReturnItem) → s.state.flow.items ≡ items → Stand s → Before s0 s
      → made c s0
      ≡ Some (with_state (settled_of c
      (acted c (leave_act (length image) s.state.board.stack (loop_on_top items)) (spot k1 s).state)) s)
      → Reach n s0 k d aims cases out (leaves c (loop_on_top items) (spot k1 s))
  leave_items n s0 s k1 k d aims cases out [] e stand k0 st = thrown n s0 s k1 k d aims cases out _ stand st
  leave_items n s0 s k1 k d aims cases out (Loop l ∷ r) e stand k0 st =
      leave_ok n s0 s k1 k d aims cases out l r l.exit refl e stand k0 st
  leave_items n s0 s k1 k d aims cases out (User x ∷ r) e stand k0 st = thrown n s0 s k1 k d aims cases out _ stand st
  leave_items n s0 s k1 k d aims cases out (Source x ∷ r) e stand k0 st =
      thrown n s0 s k1 k d aims cases out _ stand st
  leave_items n s0 s k1 k d aims cases out (Return x ∷ r) e stand k0 st =
      thrown n s0 s k1 k d aims cases out _ stand st
  leave_items n s0 s k1 k d aims cases out (Handler x ∷ r) e stand k0 st =
      thrown n s0 s k1 k d aims cases out _ stand st
  leave_items n s0 s k1 k d aims cases out (Caller x ∷ r) e stand k0 st =
      thrown n s0 s k1 k d aims cases out _ stand st

  leave_asks : (x : Result LoopParameters Throw) (u : State S)
      → (acted c (leave_act (length image) u.board.stack x) u).asks ≡ None
  unfolding acted worked
  leave_asks (Err t) u = refl
  leave_asks (Ok l) u = leads l.exit
    where
      lands : (o : Option ℕ) → (acted c (going (at_position o) u.board.stack Drops) u).asks ≡ None
      lands None = refl
      lands (Some n) = refl

      leads : (x : LoopExit)
          → (acted c (leave_act (length image) u.board.stack (Ok (record l { exit = x }))) u).asks ≡ None
      leads (exit.Position n) = lands _
      leads (exit.Code n) = refl

  pub leave_run : (n : ℕ) (s : Moment S) (p : Place) (d : ℕ) (aims : List ℕ) (cases : Bool) (out : ℕ) → p.size ≡ z
      → Stand s → Found 0x01b p
      → Reach n (spot p.position s) (past 1 p).position d aims cases out
      (leaves c (loop_on_top s.state.flow.items) (at (past 1 p) s))
  unfolding token_bytes token_act
  leave_run n s p d aims cases out e stand found =
      let q = past 1 p in
      let k1 = q.position in
      let x = loop_on_top s.state.flow.items in
      let does = λ (u : State S). acted c (leave_act (length image) s.state.board.stack x) u in
      subst (λ (u : Moment S). Reach n (spot p.position s) k1 d aims cases out (leaves c x u))
      (sym (placed c own image loops lo z Keeps q s e))
      (leave_items n (spot p.position s) s k1 k1 d aims cases out s.state.flow.items refl stand
      (stand.kept (record { position = p.position; size = z }), refl)
      (bare_step 0x01b token.Leave p s (does (at_place q s.state)) e typed.leave refl stand found
      (ap (λ (m : List ℕ). acted c (leave_act (length m) s.state.board.stack x) (at_place q s.state)) stand.bytes)
      (leave_asks x (at_place q s.state))
      ∙ ap (λ (u : Moment S). Some (with_state (settled_of c (does u.state)) s))
      (placed c own image loops lo z Keeps q s e)))

  -- ---- `endcase`

  endcase_level : (x : List Cell) (r : List ReturnItem) → IsLevel image r
      → Leveled image (control_entry control.EndCase true (exit.Position 0) x r)
  unfolding control_entry
  endcase_level [] r h = tt
  endcase_level (a ∷ x) r h = h

  endcase_stays : (x : List Cell) (r : List ReturnItem) (t : Turn)
      → control_entry control.EndCase true (exit.Position 0) x r ≡ Ok t → t.goes ≡ false
  unfolding control_entry
  endcase_stays [] r t e = sym (ap went e)
  endcase_stays (a ∷ x) r t e = sym (ap went e)

  endcase_keeps : (x : List Cell) (r : List ReturnItem) (t : Turn)
      → control_entry control.EndCase true (exit.Position 0) x r ≡ Ok t → r ≡ t.items
  unfolding control_entry
  endcase_keeps [] r t e = ap (λ y. left_items y r) e
  endcase_keeps (a ∷ x) r t e = ap (λ y. left_items y r) e

  endcase_reached : (n : ℕ) (s0 s : Moment S) (q d : ℕ) (aims : List ℕ) (cases : Bool) (out : ℕ)
      (x : Result Turn Throw)
      → Stand s → Leveled image x → ((t : Turn) → x ≡ Ok t → t.goes ≡ false)
      → ((t : Turn) → x ≡ Ok t → AreAmong (loop_ends t.items) loops) → Before s0 s
      → made c s0 ≡ Some (with_state (settled_of c (by_turn (Some (Position 0)) x (spot q s).state)) s)
      → Reach n s0 q d aims cases out (forked c x (spot q s) On On)
  endcase_reached n s0 s q d aims cases out (Ok t) stand l stay same k0 e =
      let u = turned t s in
      let step : made c s0 ≡ Some (spot q u) =
      e
      ∙ ap (λ (b : Bool). Some (with_state (settled_of c (done (landed b (Some (Position 0)) (spot q u).state))) s))
      (stay t refl)
      ∙ ap (λ y. Some (with_state y s)) (calm (spot q u) l) in
      let there = turned_stands c own image loops lo z Keeps settles typed kept loops loops t s s0 q stand l
      (same t refl) k0 step in
      subst (λ (b : Bool). Reach n s0 q d aims cases out (one_way b On On (spot q u))) (sym (stay t refl))
      (at_q u there, one_step c s0 (spot q u) step)
    where
      at_q : (u : Moment S) → Stand u → Stand (spot q u)
      at_q u h = record {
        running = h.running;
        next = h.next;
        compiles = h.compiles;
        defines = h.defines;
        opened = h.opened;
        level = h.level;
        among = h.among;
        bytes = h.bytes;
        kept = h.kept;
      }
  endcase_reached n s0 s q d aims cases out (Err t) stand l stay same k0 e =
      (fall t (spot q s) stand.level, one_step c s0 _ e)

  pub endcase_run : (n : ℕ) (s : Moment S) (p : Place) (d : ℕ) (aims : List ℕ) (cases : Bool) (out : ℕ) → p.size ≡ z
      → Stand s → Found 0x0c5 p
      → Reach n (spot p.position s) (past 1 p).position d aims cases out
      (forked c (controlled control.EndCase 0 s) (at (past 1 p) s) On On)
  unfolding token_bytes token_act
  endcase_run n s p d aims cases out e stand found =
      let q = past 1 p in
      let x = controlled control.EndCase 0 s in
      subst (λ (u : Moment S). Reach n (spot p.position s) q.position d aims cases out (forked c x u On On))
      (sym (placed c own image loops lo z Keeps q s e))
      (endcase_reached n (spot p.position s) s q.position d aims cases out x stand
      (endcase_level s.state.board.stack s.state.flow.items stand.level)
      (λ t h. endcase_stays s.state.board.stack s.state.flow.items t h)
      (λ t h. subst (λ (y : List ReturnItem). AreAmong (loop_ends y) loops)
      (endcase_keeps s.state.board.stack s.state.flow.items t h) stand.among)
      (stand.kept (record { position = p.position; size = z }), refl)
      (bare_step 0x0c5 token.EndCase p s
      (by_turn (Some (Position 0)) x (at_place q s.state)) e typed.endcase refl stand found
      (ends_case c 0 (exit.Position 0) (exit.Position 0) s.state.board.stack (at_place q s.state))
      (asks_none x (at_place q s.state))
      ∙ ap (λ (u : Moment S). Some (with_state (settled_of c (by_turn (Some (Position 0)) x u.state)) s))
      (placed c own image loops lo z Keeps q s e)))
    where
      asks_none : (x : Result Turn Throw) (u : State S) → (by_turn (Some (Position 0)) x u).asks ≡ None
      asks_none (Ok t) u = refl
      asks_none (Err t) u = refl
