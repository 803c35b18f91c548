-- The step of each word of control at the source.
use Rattle.of_means.specs.Laws.{IsAt}
use Rattle.of_means.proofs.Level.{notes}
use Rattle.std.proofs.Common.{◌≡◌, ℕ, ℤ, zero, suc, ◌+◌, ◌≤◌, Bool, true, false, nat_eq, nat_lt, List, [], ◌∷◌, length}
use Rattle.std.proofs.Common.{◌++◌, ◌/◌, ◌%◌}
use Rattle.std.proofs.Common.{Some, None, Result, Ok, Err, refl, sym, ap, ◌∙◌, subst, arith, if◌then◌else◌}
use Rattle.of_cells.specs.declared.cells.Cell.{Cell}
use Rattle.of_stacks.specs.declared.throws.Throw.{Throw}
use Rattle.of_stacks.specs.declared.return_item.LoopExit.TheVariants as exit
use Rattle.of_stacks.specs.declared.return_item.ReturnItem.{ReturnItem}
use Rattle.of_stream.specs.declared.stream.OffsetSize.{OffsetSize}
use Rattle.of_stream.specs.declared.stream.OffsetSize.TheVariants.{One, Two}
use Rattle.of_stream.specs.Bytes.{offset_bytes, token_bytes}
use Rattle.of_stream.specs.Decoding.{Offset, Token, token_from}
use Rattle.of_stream.specs.Targets.{target_at, within_tokens}
use Rattle.of_source.specs.Keywords.{fcode}
use Rattle.of_source.specs.Nest.{Nest}
use Rattle.of_tok.specs.declared.place.Place.{Place}
use Rattle.of_tok.specs.Laws.{Leads}
use Rattle.of_tok.specs.Places.{behind, past_offset}
use Rattle.of_tok.specs.Tokens.{Written, aimed, branch_code, do_code, loop_code, offset_of, token_of}
use Rattle.of_flow.specs.declared.control.ControlWord.{ControlWord}
use Rattle.of_flow.specs.declared.control.ControlWord.TheVariants as control
use Rattle.of_flow.specs.Turns.{Turn, control_entry}
use Rattle.of_eval.specs.Items.{Position}
use Rattle.of_eval.specs.Registers.{by_turn, landed}
use Rattle.of_state.specs.State.{Calls, State, done}
use Rattle.of_steps.specs.Steps.{settled_of}
use Rattle.of_eval_laws.specs.Throws.{ThrowsSettle}
use Rattle.of_eval_laws.specs.Tokens.{IsControl, TokensAreTyped}
use Rattle.of_means.specs.Moments.{Moment, made, with_state}
use Rattle.of_means.specs.Courses.{Course, On, through}
use Rattle.of_means.specs.Means.{at, back, controlled, counted, do_word, fallen, forked, loop_word, one_way}
use Rattle.of_means.specs.Means.{token_at, turned, turns}
use Rattle.of_means.specs.Sources.{IsInImage, IsLevel}
use Rattle.of_means.specs.Laws.{StaysKept}
use Rattle.of_means.proofs.Steps.{one_step, plain_step, stays}
use Rattle.of_means.proofs.Runs.{at_any, token_found}
use Rattle.of_eval_laws.specs.Returning.{AreAmong, loop_ends}
use Rattle.of_means.specs.Courses.{past_loop}
use Rattle.of_means.proofs.Level.{Branches, do_branches, keeps, kept_branches, loop_branches}
use Rattle.of_means.proofs.Level.{Leveled, control_level, exit_free, level_rests, level_unguarded}
use Rattle.of_means.proofs.Control.{offset_at, target_is}
use Rattle.of_means.proofs.Following.{cross, Reached, Stands, after_one, fewer, go_on, here, placed, still}

-- ---- how many bytes a token has

shape : (y : OffsetSize) (n k : ℕ) (by : ℤ) (b v : Bool) (xs : List ℕ) → b ≡ true → v ≡ false
    → let there : Place = record {
      position = n + length ((if b then k ∷ [] else xs) ++ offset_bytes y by);
      size = if v then Two else y;
    } in there ≡ past_offset (record { position = n; size = y })
shape One n k by true false xs e f = refl
shape Two n k by true false xs e f = refl
shape y n k by false v xs e f = absurd (no e)
  where
    no : false ≡ true → ⊥
    no h = cc
shape y n k by true true xs e f = absurd (no f)
  where
    no : true ≡ false → ⊥
    no h = cc

-- a token with an offset, whose FCode has one byte and isn't `offset16`
pub offset_behind : (k : ℕ) (by : ℤ) (p : Place) → nat_lt k 256 ≡ true → nat_eq k 0x0cc ≡ false
    → behind (record { code = fcode k; argument = Offset by }) p ≡ past_offset p
unfolding token_bytes
offset_behind k by p short same =
    shape p.size p.position k by (nat_lt k 256) (nat_eq k 0x0cc) (k / 256 ∷ k % 256 ∷ []) short same

-- ---- what words of control say, where they need nothing

branch_goes : (e : ℕ) (s : List Cell) (r : List ReturnItem)
    → control_entry control.Branch true (exit.Position e) s r ≡ Ok (record { stack = s; items = r; goes = true })
unfolding control_entry
branch_goes e s r = refl

endof_goes : (e : ℕ) (s : List Cell) (r : List ReturnItem)
    → control_entry control.EndOf true (exit.Position e) s r ≡ Ok (record { stack = s; items = r; goes = true })
unfolding control_entry
endof_goes e s r = refl

module _ {S : Type 0} (c : Calls S) (own : Nest → Calls S) (image loops : List ℕ) (lo : ℕ) (z : OffsetSize)
    (Keeps : State S → Type 0)
    (settles : ThrowsSettle S) (typed : TokensAreTyped) (kept : StaysKept c Keeps) where
  abbrev Stand : Moment S → Type 0
  Stand m = Stands c own image loops lo z Keeps m

  abbrev spot : ℕ → Moment S → Moment S
  spot k m = here c own image loops lo z Keeps k m

  abbrev Reach : ℕ → Moment S → ℕ → ℕ → List ℕ → Bool → ℕ → Course S → Type 0
  Reach n s0 k d aims cases out f = Reached c own image loops lo z Keeps n s0 k d aims cases out f

  -- what was kept before a step that leaves the data space
  abbrev pub Before : Moment S → Moment S → Type 0
  Before s0 s = Keeps s0.state × (s.state.board.memory ≡ s0.state.board.memory)

  -- a token stands at a place, and its offset leads into the image
  abbrev pub IsFound : Written → Place → Type 0
  IsFound w p =
      (token_from image p.position p.size ≡ Some (token_of w, (behind (token_of w) p).position))
      × Leads (length image) w

  pub rests : (u : Moment S) → IsLevel image u.state.flow.items → settled_of c (done u.state) ≡ u.state
  rests u l = settles.rests c u.state (level_rests image u.state.flow.items l)

  pub falls : (t : Throw) (u : Moment S) → IsLevel image u.state.flow.items
      → (fallen c t u).state.flow.is_running ≡ false
  falls t u l = (settles.ends c t u.state (level_unguarded image u.state.flow.items l)).running

  -- control is at the source, within these loops
  abbrev StandIn : List ℕ → Moment S → Type 0
  StandIn ls m = IsAt c image ls Keeps m

  -- what is left of the stacks stands at the source, if a step leads there
  pub turned_stands : (ls l2 : List ℕ) (t : Turn) (s s0 : Moment S) (k : ℕ) → StandIn ls s → IsLevel image t.items
      → AreAmong (loop_ends t.items) l2 → Before s0 s → made c s0 ≡ Some (spot k (turned t s))
      → StandIn l2 (turned t s)
  turned_stands ls l2 t s s0 k h l a k0 e = record {
    running = h.running;
    next = h.next;
    compiles = h.compiles;
    defines = h.defines;
    opened = h.opened;
    level = l;
    among = a;
    bytes = h.bytes;
    kept = λ p. kept.place (record { position = k; size = z }) p (turned t s).state
        (kept.step s0 (spot k (turned t s)) k0.0 e k0.1);
  }

  module _ (ls lg lh : List ℕ) where
    way : (n : ℕ) (s0 s : Moment S) (t : Turn) (k1 tgt k d : ℕ) (aims : List ℕ) (cases : Bool) (out : ℕ)
        (g h : Moment S → Course S) (b : Bool) → t.goes ≡ b → StandIn ls s → IsLevel image t.items
        → (t.goes ≡ true → AreAmong (loop_ends t.items) lg) × (t.goes ≡ false → AreAmong (loop_ends t.items) lh)
        → Before s0 s
        → made c s0
        ≡ Some (with_state (settled_of c (done (landed b (Some (Position tgt)) (spot k1 (turned t s)).state))) s)
        → ((u : Moment S) → StandIn lg u → Reach n (spot tgt u) k d aims cases out (g u))
        → ((u : Moment S) → StandIn lh u → Reach n (spot k1 u) k d aims cases out (h u))
        → Reach (suc n) s0 k d aims cases out (one_way b g h (spot k1 (turned t s)))
    way n s0 s t k1 tgt k d aims cases out g h true f stand l a k0 e rg rh =
        let u = turned t s in
        let w = spot k1 u in
        let step : made c s0 ≡ Some (spot tgt u) = e ∙ ap (λ x. Some (with_state x s)) (rests (spot tgt u) l) in
        let there = turned_stands ls lg t s s0 tgt stand l (a.0 f) k0 step in
        after_one c own image loops lo z Keeps n s0 (spot tgt w) k d aims cases out (g w) step
        (rg w (at_any image lg Keeps false (record { position = k1; size = z }) u.state there))
    way n s0 s t k1 tgt k d aims cases out g h false f stand l a k0 e rg rh =
        let u = turned t s in
        let w = spot k1 u in
        let step : made c s0 ≡ Some (spot k1 u) = e ∙ ap (λ x. Some (with_state x s)) (rests (spot k1 u) l) in
        let there = turned_stands ls lh t s s0 k1 stand l (a.1 f) k0 step in
        after_one c own image loops lo z Keeps n s0 (spot k1 w) k d aims cases out (h w) step
        (rh w (at_any image lh Keeps false (record { position = k1; size = z }) u.state there))

    fork_reached : (n : ℕ) (s0 s : Moment S) (k1 tgt k d : ℕ) (aims : List ℕ) (cases : Bool) (out : ℕ)
        (g h : Moment S → Course S) (x : Result Turn Throw) → StandIn ls s → Leveled image x → Branches lg lh x
        → Before s0 s
        → made c s0 ≡ Some (with_state (settled_of c (by_turn (Some (Position tgt)) x (spot k1 s).state)) s)
        → ((u : Moment S) → StandIn lg u → Reach n (spot tgt u) k d aims cases out (g u))
        → ((u : Moment S) → StandIn lh u → Reach n (spot k1 u) k d aims cases out (h u))
        → Reach (suc n) s0 k d aims cases out (forked c x (spot k1 s) g h)
    fork_reached n s0 s k1 tgt k d aims cases out g h (Ok t) stand l a k0 e rg rh =
        way n s0 s t k1 tgt k d aims cases out g h t.goes refl stand l a k0 e rg rh
    fork_reached n s0 s k1 tgt k d aims cases out g h (Err t) stand l a k0 e rg rh =
        (falls t (spot k1 s) stand.level, one_step c s0 _ e)

  -- ---- tokens with an offset

  -- a token with an offset is done
  aimed_step : (ls : List ℕ) (w k : ℕ) (p : Place) (to : ℕ) (cw : ControlWord) (s : Moment S) → p.size ≡ z
      → IsControl k cw → nat_lt k 256 ≡ true → nat_eq k 0x0cc ≡ false → StandIn ls s → IsFound (aimed w k p to) p
      → made c (spot p.position s)
      ≡ Some (with_state
      (settled_of c (by_turn (Some (Position to)) (controlled cw to s) (spot (past_offset p).position s).state)) s)
  aimed_step ls w k p to cw s e is short same stand found =
      let q = past_offset p in
      let by = offset_of (record { word = w; place = p; code = fcode k; target = to }) in
      let t : Token = record { code = fcode k; argument = Offset by } in
      let there : token_from image p.position p.size ≡ Some (t, q.position) =
      found.0 ∙ ap (λ (y : Place). Some (t, y.position)) (offset_behind k by p short same) in
      let size : q.size ≡ (behind t p).size = sym (ap (λ (y : Place). y.size) (offset_behind k by p short same)) in
      let o = by_turn (Some (Position to)) (controlled cw to s) (at q s).state in
      ap (made c) (sym (placed c own image loops lo z Keeps p s e))
      ∙ token_found c image ls Keeps false p q t s stand there size
      ∙ plain_step c (token_at c t p q) s o
      (offset_at c image ls Keeps t cw by p q to s.state (is by) stand found.1)
      (asks_none (controlled cw to s) (at q s).state)
      ∙ ap (λ (u : Moment S). Some
      (with_state (settled_of c (by_turn (Some (Position to)) (controlled cw to s) u.state)) s))
      (placed c own image loops lo z Keeps q s e)
    where
      asks_none : (x : Result Turn Throw) (u : State S) → (by_turn (Some (Position to)) x u).asks ≡ None
      asks_none (Ok t) u = refl
      asks_none (Err t) u = refl

  pub fork_in : (ls lg lh : List ℕ) (n w k : ℕ) (p : Place) (to : ℕ) (cw : ControlWord) (end : ℕ) (s : Moment S)
      (l d : ℕ) (aims : List ℕ) (cases : Bool) (out : ℕ) (g h : Moment S → Course S) → p.size ≡ z → IsControl k cw
      → nat_lt k 256 ≡ true → nat_eq k 0x0cc ≡ false → controlled cw to s ≡ controlled cw end s → StandIn ls s
      → Branches lg lh (controlled cw end s) → IsFound (aimed w k p to) p
      → ((u : Moment S) → StandIn lg u → Reach n (spot to u) l d aims cases out (g u))
      → ((u : Moment S) → StandIn lh u → Reach n (spot (past_offset p).position u) l d aims cases out (h u))
      → Reach (suc n) (spot p.position s) l d aims cases out
      (forked c (controlled cw end s) (at (past_offset p) s) g h)
  fork_in ls lg lh n w k p to cw end s l d aims cases out g h e is short wide same stand among found rg rh =
      let q = past_offset p in
      let lands : IsInImage image to = within found.1 in
      let leveled = control_level image cw true to s.state.board.stack s.state.flow.items stand.level lands in
      subst (λ (u : Moment S). Reach (suc n) (spot p.position s) l d aims cases out
      (forked c (controlled cw end s) u g h))
      (sym (placed c own image loops lo z Keeps q s e))
      (fork_reached ls lg lh n (spot p.position s) s q.position to l d aims cases out g h (controlled cw end s) stand
      (subst (λ x. Leveled image x) same leveled) among
      (stand.kept (record { position = p.position; size = z }), refl)
      (aimed_step ls w k p to cw s e is short wide stand found
      ∙ ap (λ x. Some (with_state (settled_of c (by_turn (Some (Position to)) x (spot q.position s).state)) s)) same)
      rg rh)
    where
      within : Leads (length image) (aimed w k p to) → IsInImage image to
      within leads =
          let by = offset_of (record { word = w; place = p; code = fcode k; target = to }) in
          subst (λ o. within_tokens (length image) o ≡ Some to)
          (target_is (length image) (target_at p.position by) to leads) leads

  -- a word that leaves the loops alone
  pub fork_at : (n w k : ℕ) (p : Place) (to : ℕ) (cw : ControlWord) (s : Moment S) (l d : ℕ)
      (aims : List ℕ) (cases : Bool) (out : ℕ) (g h : Moment S → Course S) → p.size ≡ z → IsControl k cw
      → nat_lt k 256 ≡ true → nat_eq k 0x0cc ≡ false → notes cw ≡ false → keeps cw ≡ true → Stand s
      → IsFound (aimed w k p to) p
      → ((u : Moment S) → Stand u → Reach n (spot to u) l d aims cases out (g u))
      → ((u : Moment S) → Stand u → Reach n (spot (past_offset p).position u) l d aims cases out (h u))
      → Reach (suc n) (spot p.position s) l d aims cases out (forked c (controlled cw 0 s) (at (past_offset p) s) g h)
  fork_at n w k p to cw s l d aims cases out g h e is short wide free same stand found rg rh =
      fork_in loops loops loops n w k p to cw 0 s l d aims cases out g h e is short wide
      (exit_free cw true (exit.Position to) (exit.Position 0) s.state.board.stack s.state.flow.items free) stand
      (kept_branches cw loops (exit.Position 0) s.state.board.stack s.state.flow.items same stand.among) found rg rh

  -- where control always goes
  pub always_step : (w k : ℕ) (p : Place) (to : ℕ) (cw : ControlWord) (s : Moment S) → p.size ≡ z → IsControl k cw
      → nat_lt k 256 ≡ true → nat_eq k 0x0cc ≡ false
      → controlled cw to s ≡ Ok (record { stack = s.state.board.stack; items = s.state.flow.items; goes = true })
      → Stand s → IsFound (aimed w k p to) p → made c (spot p.position s) ≡ Some (spot to s)
  always_step w k p to cw s e is short wide goes stand found =
      let q = past_offset p in
      aimed_step loops w k p to cw s e is short wide stand found
      ∙ ap (λ x. Some (with_state (settled_of c (by_turn (Some (Position to)) x (spot q.position s).state)) s)) goes
      ∙ ap (λ x. Some (with_state x s)) (rests (spot to s) stand.level)

  -- ---- the turns of a `begin`

  back_reached : (n : ℕ) (v : Bool) (l : ℕ) (e : Place) (b : ℕ) (d : ℕ) (aims : List ℕ) (cases : Bool) (out : ℕ)
      (again : Moment S → Course S) → e.size ≡ z → IsFound (aimed l (branch_code v) e b) e
      → ((s : Moment S) → Stand s → Reach n (spot b s) (past_offset e).position d aims cases out (again s))
      → (s : Moment S) → Stand s
      → Reach (suc n) (spot e.position s) (past_offset e).position d aims cases out
      (back c own v (past_offset e) again s)
  back_reached n true l e b d aims cases out again ze found h s stand =
      let q = (past_offset e).position in
      fork_at n l 0x014 e b control.BranchIfZero s q d aims cases out again On ze typed.branch_if_zero refl refl refl
      refl
      stand found h (λ t there. (there, stays c (spot q t)))
  back_reached n false l e b d aims cases out again ze found h s stand =
      let q = (past_offset e).position in
      after_one c own image loops lo z Keeps n (spot e.position s) (spot b s) q d aims cases out (again s)
      (always_step l 0x013 e b control.Branch s ze typed.branch refl refl
      (branch_goes b s.state.board.stack s.state.flow.items) stand found)
      (h s stand)

  turned_over : (n m : ℕ) (s0 : Moment S) (k q d : ℕ) (aims : List ℕ) (cases : Bool) (out : ℕ) (f : Course S)
      (g : Moment S → Course S) → suc m ≤ n → Reach n s0 k d aims cases out f
      → ((s : Moment S) → Stand s → Reach (suc m) (spot k s) q d aims cases out (g s))
      → Reach (suc m) s0 q d aims cases out (through f g)
  turned_over n m s0 k q d aims cases out f g le r h =
      go_on c own image loops lo z Keeps (suc m) s0 k q d d aims aims cases out f g
      (still c own image loops lo z Keeps d aims)
      (fewer c own image loops lo z Keeps (suc m) n s0 k d aims cases out f le r) h

  pub turns_run : (n : ℕ) (v : Bool) (l : ℕ) (e : Place) (b : ℕ) (d : ℕ) (aims : List ℕ) (cases : Bool) (out : ℕ)
      (inside : Moment S → Course S) → e.size ≡ z → IsFound (aimed l (branch_code v) e b) e
      → ((s : Moment S) → Stand s → Reach n (spot b s) e.position d aims cases out (inside s))
      → (m : ℕ) → m ≤ n → (s : Moment S) → Stand s
      → Reach m (spot b s) (past_offset e).position d aims cases out (turns c own m v (past_offset e) inside s)
  turns_run n v l e b d aims cases out inside ze found h zero le s stand = (0, spot b s, omega arith, refl, refl, refl)
  turns_run n v l e b d aims cases out inside ze found h (suc m) le s stand =
      let q = past_offset e in
      let again = turns c own m v q inside in
      turned_over n m (spot b s) e.position q.position d aims cases out (inside s) (back c own v q again) le
      (h s stand)
      (back_reached m v l e b d aims cases out again ze found
      (turns_run n v l e b d aims cases out inside ze found h m (omega (arith, le))))

  -- ---- the turns of a `do`

  loop_short : (v : Bool) → (nat_lt (loop_code v) 256 ≡ true) × (nat_eq (loop_code v) 0x0cc ≡ false)
  loop_short true = (refl, refl)
  loop_short false = (refl, refl)

  loop_control : (v : Bool) → IsControl (loop_code v) (loop_word v)
  loop_control true = typed.plus_loop
  loop_control false = typed.«loop»

  loop_free : (v : Bool) → notes (loop_word v) ≡ false
  loop_free true = refl
  loop_free false = refl

  -- past the loop is past what it may have left
  past_forked : (n : ℕ) (s0 : Moment S) (q d : ℕ) (aims : List ℕ) (cases : Bool) (out : ℕ) (x : Result Turn Throw)
      (m : Moment S) (g : Moment S → Course S)
      → Reach n s0 q d aims cases out (forked c x m (λ t. past_loop q (g t)) On)
      → Reach n s0 q d aims cases out (past_loop q (forked c x m g On))
  past_forked n s0 q d aims cases out (Err t) m g r = r
  past_forked n s0 q d aims cases out (Ok t) m g r = by_way t.goes r
    where
      by_way : (b : Bool) → Reach n s0 q d aims cases out (one_way b (λ u. past_loop q (g u)) On (turned t m))
          → Reach n s0 q d aims cases out (past_loop q (one_way b g On (turned t m)))
      by_way true h = h
      by_way false h = h

  loop_reached : (n : ℕ) (v : Bool) (l : ℕ) (e : Place) (b : ℕ) (d : ℕ) (aims : List ℕ) (cases : Bool) (out : ℕ)
      (again : Moment S → Course S) → e.size ≡ z → IsFound (aimed l (loop_code v) e b) e
      → let q = (past_offset e).position in
      ((s : Moment S) → StandIn (q ∷ loops) s → Reach n (spot b s) q d aims cases out (again s))
      → (s : Moment S) → StandIn (q ∷ loops) s
      → Reach (suc n) (spot e.position s) q d aims cases out
      (forked c (controlled (loop_word v) 0 s) (at (past_offset e) s) again On)
  loop_reached n v l e b d aims cases out again ze found h s stand =
      let q = (past_offset e).position in
      let short = loop_short v in
      fork_in (q ∷ loops) (q ∷ loops) loops n l (loop_code v) e b (loop_word v) 0 s q d aims cases out again On ze
      (loop_control v) short.0 short.1
      (exit_free (loop_word v) true (exit.Position b) (exit.Position 0) s.state.board.stack s.state.flow.items
      (loop_free v))
      stand (loop_branches v loops q (exit.Position 0) s.state.board.stack s.state.flow.items stand.among) found h
      (λ t there. (there, stays c (spot q t)))

  pub counted_run : (n : ℕ) (v : Bool) (l : ℕ) (e : Place) (b : ℕ) (d : ℕ) (aims : List ℕ) (cases : Bool)
      (out out' : ℕ) (inside : Moment S → Course S) → e.size ≡ z → IsFound (aimed l (loop_code v) e b) e
      → let q = (past_offset e).position in
      ((s : Moment S) → StandIn (q ∷ loops) s
      → Reached c own image (q ∷ loops) d z Keeps n (spot b s) e.position d aims false out' (inside s))
      → (m : ℕ) → m ≤ n → (s : Moment S) → StandIn (q ∷ loops) s
      → Reach m (spot b s) q d aims cases out (past_loop q (counted c own m v (past_offset e) inside s))
  counted_run n v l e b d aims cases out out' inside ze found h zero le s stand =
      (0, spot b s, omega arith, refl, refl, refl)
  counted_run n v l e b d aims cases out out' inside ze found h (suc m) le s stand =
      let p = past_offset e in
      let q = p.position in
      let again = counted c own m v p inside in
      cross c own image loops lo z Keeps q d (suc m) n (spot b s) e.position aims cases out out' (inside s)
      (λ t. forked c (controlled (loop_word v) 0 t) (at p t) again On) le (h s stand)
      (λ t there.
      past_forked (suc m) (spot e.position t) q d aims cases out (controlled (loop_word v) 0 t) (at p t) again
      (loop_reached m v l e b d aims cases out (λ u. past_loop q (again u)) ze found
      (counted_run n v l e b d aims cases out out' inside ze found h m (omega (arith, le))) t there))

  do_short : (v : Bool) → (nat_lt (do_code v) 256 ≡ true) × (nat_eq (do_code v) 0x0cc ≡ false)
  do_short true = (refl, refl)
  do_short false = (refl, refl)

  do_control : (v : Bool) → IsControl (do_code v) (do_word v)
  do_control true = typed.question_do
  do_control false = typed.begin_loop

  -- a loop is entered, or passed
  pub do_reached : (n : ℕ) (v : Bool) (l : ℕ) (p : Place) (end : ℕ) (k d : ℕ) (aims : List ℕ) (cases : Bool) (out : ℕ)
      (g h : Moment S → Course S) → p.size ≡ z → IsFound (aimed l (do_code v) p end) p
      → ((t : Moment S) → Stand t → Reach n (spot end t) k d aims cases out (g t))
      → ((t : Moment S) → StandIn (end ∷ loops) t → Reach n (spot (past_offset p).position t) k d aims cases out (h t))
      → (s : Moment S) → Stand s
      → Reach (suc n) (spot p.position s) k d aims cases out
      (forked c (controlled (do_word v) end s) (at (past_offset p) s) g h)
  do_reached n v l p end k d aims cases out g h zp found rg rh s stand =
      let short = do_short v in
      fork_in loops loops (end ∷ loops) n l (do_code v) p end (do_word v) end s k d aims cases out g h zp
      (do_control v)
      short.0 short.1 refl stand
      (do_branches v loops end s.state.board.stack s.state.flow.items stand.among) found rg rh

  pub endof_step : (s : Moment S) (l : ℕ) (e : Place) (out : ℕ) → e.size ≡ z → Stand s
      → IsFound (aimed l 0x0c6 e out) e → made c (spot e.position s) ≡ Some (spot out s)
  endof_step s l e out ze stand found =
      always_step l 0x0c6 e out control.EndOf s ze typed.endof refl refl
      (endof_goes out s.state.board.stack s.state.flow.items) stand found

  pub branch_step : (s : Moment S) (l : ℕ) (e : Place) (to : ℕ) → e.size ≡ z → Stand s
      → IsFound (aimed l 0x013 e to) e → made c (spot e.position s) ≡ Some (spot to s)
  branch_step s l e to ze stand found =
      always_step l 0x013 e to control.Branch s ze typed.branch refl refl
      (branch_goes to s.state.board.stack s.state.flow.items) stand found
