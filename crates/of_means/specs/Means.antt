-- What a source means, by recursion on its nest of words: each word does what the machine's tables say, and where
-- control goes the nest alone says. Each loop makes at most n turns, and each word starts at most n steps.
use Rattle.std.specs.Prelude.{ℕ, zero, suc, ◌-◌, ◌+◌, Bool, true, false, List, [], ◌∷◌, drop, Option, Some, None}
use Rattle.std.specs.Prelude.{Result, Ok, Err}
use Rattle.of_stacks.specs.declared.throws.Throw.{Throw}
use Rattle.of_stacks.specs.declared.return_item.LoopExit.{LoopExit}
use Rattle.of_stacks.specs.declared.return_item.LoopExit.TheVariants as exit
use Rattle.of_stacks.specs.declared.return_item.LoopParameters.{LoopParameters}
use Rattle.of_stacks.specs.Loops.{loop_on_top}
use Rattle.of_fcodes.specs.declared.token_table.TokenEntry.{TokenEntry}
use Rattle.of_fcodes.specs.Tokens.{Table, entry_in}
use Rattle.of_stream.specs.Decoding.{Token}
use Rattle.of_source.specs.Items.{bare, call, maker_token}
use Rattle.of_source.specs.Nest.{Nest, Stop, Plain, Definition, Defining, If, Else, Then, Begin, Do, Leave, Case, Of}
use Rattle.of_source.specs.Nest.{open_behind}
use Rattle.of_tok.specs.declared.place.Place.{Place}
use Rattle.of_tok.specs.Places.{behind, past, past_offset}
use Rattle.of_tok.specs.Tokens.{Written, end_of, token_of, written}
use Rattle.of_flow.specs.declared.control.ControlWord.{ControlWord}
use Rattle.of_flow.specs.declared.control.ControlWord.TheVariants as control
use Rattle.of_flow.specs.declared.token.Token.TheVariants as token
use Rattle.of_flow.specs.Tokens.{Typed, typed_of}
use Rattle.of_flow.specs.Tokens as typed
use Rattle.of_flow.specs.Turns.{Turn, control_entry}
use Rattle.of_eval.specs.Defining.{semicolon_entry}
use Rattle.of_eval.specs.Reading.{read_on, token_done}
use Rattle.of_eval.specs.Tokens.{spot_in}
use Rattle.of_state.specs.State.{Calls, Outcome, State, failed, with_items, with_stack}
use Rattle.of_steps.specs.Steps.{settled_of}
use Rattle.of_eval_laws.specs.Returning.{is_back}
use Rattle.of_means.specs.Moments.{Moment, made, step_by, with_state}
use Rattle.of_means.specs.Courses.{Course, On, Off, Out, Left, Thrown, Waits, Cut, Beyond, arrives, joins, past_loop}
use Rattle.of_means.specs.Courses.{swaps, through}

-- ---- a word, and what it started

-- the image is read on at a place
abbrev pub at_place : {S : Type 0} → Place → State S → State S
at_place p s = read_on p.size p.position s

-- a moment at which it stands so
abbrev pub at : {S : Type 0} → Place → Moment S → Moment S
at p m = with_state (at_place p m.state) m

-- what the token at a place does, behind which is another
abbrev pub token_at : {S : Type 0} → Calls S → Token → Place → Place → State S → Outcome S
token_at c t p q s = token_done c (typed_of t) (spot_in s.board.memory p.position q.position) (at_place q s)

-- what a word started is over where nothing runs any more, or control is back at the source
abbrev pub over : {S : Type 0} → (is_running is_back : Bool) → Moment S → Course S → Course S
over false b m further = Thrown m
over true true m further = On m
over true false m further = further

-- a step, and what comes then; or the step waits for an answer
abbrev pub after_step : {S : Type 0} → Option (Moment S) → Moment S → (Moment S → Course S) → Course S
after_step None m go = Waits m
after_step (Some t) m go = go t

-- at most n steps of the machine, until control is back
abbrev pub comes_back : {S : Type 0} → Calls S → ℕ → Moment S → Course S
comes_back c zero m = over m.state.flow.is_running (is_back m.state) m (Cut m)
comes_back c (suc n) m =
    over m.state.flow.is_running (is_back m.state) m (after_step (made c m) m (λ t. comes_back c n t))

-- a word whose token stands at a place
abbrev pub word : {S : Type 0} → Calls S → ℕ → Token → Place → Moment S → Course S
word c n t p m = after_step (step_by c (token_at c t p (behind t p)) m) (at p m) (λ u. comes_back c n u)

-- ---- words of control

-- both stacks, and whether control goes to the target; a `do` notes where its loop ends
abbrev pub controlled : {S : Type 0} → ControlWord → ℕ → Moment S → Result Turn Throw
controlled w end m = control_entry w true (exit.Position end) m.state.board.stack m.state.flow.items

-- with both stacks left so
abbrev pub turned : {S : Type 0} → Turn → Moment S → Moment S
turned t m = with_state (with_stack t.stack (with_items t.items m.state)) m

-- what a throw leaves
abbrev pub fallen : {S : Type 0} → Calls S → Throw → Moment S → Moment S
fallen c t m = with_state (settled_of c (failed t m.state)) m

-- the one way or the other
abbrev pub one_way : {S : Type 0} → Bool → (Moment S → Course S) → (Moment S → Course S) → Moment S → Course S
one_way true goes stays m = goes m
one_way false goes stays m = stays m

-- one way where control goes to the target, and the other way where it doesn't
abbrev pub forked : {S : Type 0} → Calls S → Result Turn Throw → Moment S → (Moment S → Course S)
    → (Moment S → Course S)
    → Course S
forked c (Ok t) m goes stays = one_way t.goes goes stays (turned t m)
forked c (Err t) m goes stays = Thrown (fallen c t m)

-- the position of the image at which a loop ends
abbrev pub position_in : LoopExit → ℕ
position_in (exit.Position n) = n
position_in (exit.Code n) = 0

-- at `leave`: past the loop whose item is on top, which it drops
abbrev pub leaves : {S : Type 0} → Calls S → Result LoopParameters Throw → Moment S → Course S
leaves c (Ok l) m = Left (position_in l.exit) (with_state (with_items (drop 1 m.state.flow.items) m.state) m)
leaves c (Err t) m = Thrown (fallen c t m)

-- `?do`, or `do`
abbrev pub do_word : Bool → ControlWord
do_word true = control.QuestionDo
do_word false = control.Do

-- `+loop`, or `loop`
abbrev pub loop_word : Bool → ControlWord
loop_word true = control.PlusLoop
loop_word false = control.Loop

-- ---- definitions

-- an FCode names an immediate word
abbrev pub is_immediate_entry : Option TokenEntry → Bool
is_immediate_entry None = false
is_immediate_entry (Some e) = e.immediate

-- a word that is executed in a definition, too
abbrev pub is_executed : Typed → Table → Bool
is_executed (typed.Plain (token.Word k)) table = is_immediate_entry (entry_in table k.0)
is_executed _ table = false

-- what this leaves, unless it threw
abbrev pub unless_thrown : {S : Type 0} → Bool → Moment S → Course S
unless_thrown true m = On m
unless_thrown false m = Thrown m

-- the state that is left when what is due has been worked off
abbrev pub left_by : {S : Type 0} → Calls S → Outcome S → Moment S → Course S
left_by c o m = let s = settled_of c o in unless_thrown s.flow.is_running (with_state s m)

-- a token is compiled, unless it is executed
abbrev pub token_compiled : {S : Type 0} → Calls S → Bool → Token → Place → Moment S → Course S
token_compiled c true t p m = Beyond
token_compiled c false t p m = left_by c (token_at c t p (behind t p) m.state) m

-- each token is compiled
abbrev pub compiled : {S : Type 0} → Calls S → List Written → Place → Moment S → Course S
compiled c [] p m = On m
compiled c (w ∷ ws) p m =
    let t = token_of w in
    through (token_compiled c (is_executed (typed_of t) m.state.words.table) t p m)
    (λ u. compiled c ws (behind t p) u)

-- ---- the meaning

-- `own i` are the calls whose `b(;)` gives the word the body of the nest i
module _ {S : Type 0} (c : Calls S) (own : Nest → Calls S) where
  -- `b(:)` at a place, the tokens of the inside, and `b(;)`, which gives the word the body of its nest
  abbrev pub defined : Nest → Place → Moment S → Course S
  defined i p m =
      let b = past 1 p in
      let e = end_of i b in
      through (left_by c (token_at c (bare 0x0b7) p b m.state) m) (λ t.
      through (compiled c (written i b [] 0 []) b t) (λ u.
      left_by c (semicolon_entry (own i) u.state.words.defining (at_place (past 1 e) u.state)) u))

  -- `until` or `again`, behind which is a place, and then this
  abbrev pub back : Bool → Place → (Moment S → Course S) → Moment S → Course S
  back true q again m = forked c (controlled control.BranchIfZero 0 m) (at q m) again On
  back false q again m = again m

  -- at most n turns of a `begin`
  abbrev pub turns : ℕ → Bool → Place → (Moment S → Course S) → Moment S → Course S
  turns zero z q inside m = Cut m
  turns (suc n) z q inside m = through (inside m) (back z q (turns n z q inside))

  -- and of a `do`
  abbrev pub counted : ℕ → Bool → Place → (Moment S → Course S) → Moment S → Course S
  counted zero l q inside m = Cut m
  counted (suc n) l q inside m =
      through (inside m) (λ t. forked c (controlled (loop_word l) 0 t) (at q t) (counted n l q inside) On)

  -- what a nest at a place makes of what comes to it, with d branches open
  abbrev pub means : Nest → ℕ → Place → ℕ → Course S → Course S
  means Stop n p d f = f
  means (Plain t r) n p d f = means r n (behind t p) d (through f (word c n t p))
  means (Definition m i r) n p d f =
      let b = behind (maker_token m) p in
      means r n (past 1 (end_of i (past 1 b))) d (through (through f (word c n (maker_token m) p)) (defined i b))
  means (Defining m t r) n p d f =
      let b = behind (maker_token m) p in
      means r n (behind (call t) b) d (through (through f (word c n (maker_token m) p)) (word c n (call t) b))
  means (If l r) n p d f =
      let q = past_offset p in
      means r n q (d + 1) (through f (λ m. forked c (controlled control.BranchIfZero 0 m) (at q m) (Off d) On))
  means (Else l r) n p d f = means r n (past 1 (past_offset p)) d (swaps (d - 1) f)
  means (Then r) n p d f = means r n (past 1 p) (d - 1) (arrives (d - 1) f)
  means (Begin i z l r) n p d f =
      let q = past_offset (end_of i (past 1 p)) in
      means r n q (open_behind i d) (through f (turns n z q (λ m. means i n (past 1 p) d (On m))))
  means (Do v k i l y r) n p d f =
      let b = past_offset p in
      let q = past_offset (end_of i b) in
      means r n q d
      (through f (λ m.
      forked c (controlled (do_word v) q.position m) (at b m) On
      (λ t. past_loop q.position (counted n l q (λ u. means i n b d (On u)) t))))
  means (Leave r) n p d f =
      let q = past 1 p in
      means r n q d (through f (λ m. leaves c (loop_on_top m.state.flow.items) (at q m)))
  means (Case i r) n p d f =
      let q = past 1 (end_of i (past 1 p)) in
      means r n q d
      (through f (λ m.
      joins
      (through (means i n (past 1 p) d (On m)) (λ t. forked c (controlled control.EndCase 0 t) (at q t) On On))))
  means (Of k i y r) n p d f =
      let b = past_offset p in
      let q = past_offset (end_of i b) in
      means r n q d
      (through f (λ m. forked c (controlled control.Of 0 m) (at b m) On (λ t. through (means i n b d (On t)) Out)))
