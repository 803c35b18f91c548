-- The laws `tokens_are_typed` and `tokens_go`.
use Rattle.std.proofs.Common.{◌≡◌, ℕ, ℤ, ◌<◌, ◌==◌, nat_lt, Bool, true, false, List, [], ◌∷◌, length, Option, Some}
use Rattle.std.proofs.Common.{None}
use Rattle.std.specs.Prelude.{is_none, not, unwrap_or}
use Rattle.std.proofs.Common.{refl, ap, ◌∙◌, arith, if◌then◌else◌}
use Rattle.std.proofs.lemmas.Bool.{eq-eqb}
use Rattle.of_cells.specs.declared.cells.Cell.{Cell}
use Rattle.of_cells.specs.Arithmetic.{plus}
use Rattle.of_cells.specs.Numbers.{signed}
use Rattle.of_stacks.specs.declared.throws.Throw.{Throw}
use Rattle.of_stacks.specs.declared.return_item.LoopExit.TheVariants as exit
use Rattle.of_stacks.specs.declared.return_item.LoopParameters.{LoopParameters}
use Rattle.of_stacks.specs.declared.return_item.ReturnItem.{ReturnItem}
use Rattle.of_stacks.specs.declared.return_item.ReturnItem.TheVariants.{Loop}
use Rattle.of_stacks.specs.Loops.{passes_limit}
use Rattle.of_stacks.specs.Order.{counting, fault_if, later_rank, rank}
use Rattle.of_stacks.specs.Throws.{bad_handle, compile_only, image_ended, return_stack_overflow}
use Rattle.of_fcodes.specs.declared.words.StreamWord.{StreamWord}
use Rattle.of_fcodes.specs.declared.words.DictionaryWord.TheVariants as dictionary
use Rattle.of_fcodes.specs.declared.words.ThrowsWord.TheVariants as throws
use Rattle.of_fcodes.specs.declared.words.Word.{Word}
use Rattle.of_fcodes.specs.declared.words.Word.TheVariants as word
use Rattle.of_fcodes.specs.Lookup.{row_numbered}
use Rattle.of_fcodes.specs.Rows.{rows, first_rows, second_rows, third_rows, fourth_rows, fifth_rows, sixth_rows}
use Rattle.of_fcodes.specs.Rows.{seventh_rows}
use Rattle.of_stream.specs.declared.stream.OffsetSize.{OffsetSize}
use Rattle.of_stream.specs.Targets.{landing, target_at, within_tokens}
use Rattle.of_control.specs.Element.{Element}
use Rattle.of_control.specs.Element as element
use Rattle.of_compile.specs.declared.element.PlainItem.{PlainItem}
use Rattle.of_compile.specs.Tokens.{called, offset_element}
use Rattle.of_compile.specs.Words.{WordsState, is_word}
use Rattle.of_flow.specs.declared.control.ControlWord.{ControlWord}
use Rattle.of_flow.specs.declared.control.ControlWord.TheVariants as control
use Rattle.of_flow.specs.declared.token.Token.{Token}
use Rattle.of_flow.specs.declared.token.Token.TheVariants as token
use Rattle.of_eval.specs.declared.tokens.Spot.{Spot}
use Rattle.of_eval.specs.Acts.{Act, Appends, Behind, Compiles, Does, Drops, Fails, Keeps, Leaves, Moves, Pushes}
use Rattle.of_eval.specs.Acts.{Raises, Turns, WordAct, front_of, knowing_under, leaving, unless}
use Rattle.of_eval.specs.Doing.{acted, appended, executed, worked}
use Rattle.of_eval.specs.Executing.{Plan, Written, act_of_plan, comma_act, dictionary_act, execution, plan_in}
use Rattle.of_eval.specs.Executing.{throw_act}
use Rattle.of_eval.specs.Executing.{written_act}
use Rattle.of_eval.specs.Items.{Position, beginning, control_act, going, staying}
use Rattle.of_flow.specs.Turns.{loop_item, one}
use Rattle.of_state.specs.State.{Calls, State, done, failed, with_items, with_stack}
use Rattle.of_eval.specs.Reading.{plain_done}
use Rattle.of_eval.specs.Tokens.{at_position, compiling_act, control_element, exit_at, exit_in}
use Rattle.of_eval.specs.Tokens.{token_act}
use Rattle.of_flow.specs.Tokens.{typed_word}
use Rattle.of_eval_laws.specs.Going.{on}
use Rattle.of_eval_laws.proofs.GoingLemmas.{if_is, if_not, other}
use Rattle.of_eval_laws.specs.Tokens.{DictionaryWordsKeep, Goes, ThrowTakes, TokensAreTyped, TokensCompile, TokensGo}
use Rattle.of_eval_laws.specs.Tokens.{reading, stream_word}

-- ---- FCodes

pub tokens_are_typed : TokensAreTyped
unfolding typed_word row_numbered rows first_rows second_rows third_rows fourth_rows fifth_rows sixth_rows seventh_rows
tokens_are_typed = record {
  end0 = refl;
  literal = λ x. refl;
  tick = λ k. refl;
  string = λ s. refl;
  branch = λ by. refl;
  branch_if_zero = λ by. refl;
  «loop» = λ by. refl;
  plus_loop = λ by. refl;
  begin_loop = λ by. refl;
  question_do = λ by. refl;
  leave = refl;
  of = λ by. refl;
  mark = refl;
  resolve = refl;
  new_token = λ k. refl;
  named_token = λ name k. refl;
  colon = refl;
  value = refl;
  variable = refl;
  constant = refl;
  create = refl;
  defer = refl;
  buffer = refl;
  field_word = refl;
  semicolon = refl;
  to = λ k. refl;
  case = refl;
  endcase = refl;
  endof = λ by. refl;
  external_token = λ name k. refl;
  offset16 = refl;
  end1 = refl;
}

-- ---- an image that is interpreted

interprets : {S : Type 0} (c : Calls S) (t : Token) (here : Spot) (s : State S) → s.flow.is_compiling ≡ false
    → plain_done c t here s ≡ acted c (token_act t here (front_of s)) s
interprets c t here s e = ap (λ a. acted c a s) (if_not s.flow.is_compiling _ _ e)

-- a token of control whose target is known
lands : {S : Type 0} (c : Calls S) (w : ControlWord) (by : ℤ) (here : Spot) (s : State S) (o : Option ℕ)
    → s.flow.is_compiling ≡ false → landing here.size here.position by ≡ o
    → plain_done c (token.Control w by) here s
    ≡ acted c (control_act w (at_position o) (exit_at here.position by) s.board.stack s.flow.items) s
unfolding token_act
lands c w by here s o e l =
    interprets c (token.Control w by) here s e
    ∙ ap (λ t. acted c (control_act w (at_position t) (exit_at here.position by) s.board.stack s.flow.items) s) l

-- a goal that is chosen
chosen : {S : Type 0} (c : Calls S) (s : State S) (a b : Act) → a ≡ b → acted c a s ≡ acted c b s
chosen c s a b e = ap (λ x. acted c x s) e

branch_goes : {S : Type 0} (c : Calls S) (s : State S) → s.flow.is_compiling ≡ false → Goes c control.Branch s s
unfolding control_act acted worked
branch_goes c s e here by size p to l = lands c control.Branch by here (reading size p s) (Some to) e l

arm_goes : {S : Type 0} (c : Calls S) (s : State S) → s.flow.is_compiling ≡ false → Goes c control.EndOf s s
unfolding control_act acted worked
arm_goes c s e here by size p to l = lands c control.EndOf by here (reading size p s) (Some to) e l

zero_goes : {S : Type 0} (c : Calls S) (s : State S) (x : Cell) (cells : List Cell) → s.flow.is_compiling ≡ false
    → x.0 ≡ 0 → Goes c control.BranchIfZero (with_stack (x ∷ cells) s) (with_stack cells s)
unfolding control_act acted worked
zero_goes c s x cells e z here by size p to l =
    let before = reading size p (with_stack (x ∷ cells) s) in
    let goes = going (Some (Position to)) cells Keeps in
    lands c control.BranchIfZero by here before (Some to) e l
    ∙ chosen c before _ goes (if_is (x.0 == 0) goes (staying cells) (eq-eqb x.0 0 z))

goes_nowhere : {S : Type 0} (c : Calls S) (here : Spot) (by : ℤ) (s : State S) → s.flow.is_compiling ≡ false
    → landing here.size here.position by ≡ None
    → plain_done c (token.Control control.Branch by) here s ≡ failed image_ended s
unfolding control_act acted worked
goes_nowhere c here by s e l = lands c control.Branch by here s None e l

begins_loop : {S : Type 0} (c : Calls S) (here : Spot) (by : ℤ) (e : ℕ) (s : State S) (index limit : Cell)
    (cells : List Cell) (r : List ReturnItem) → s.flow.is_compiling ≡ false → length r < 256
    → target_at here.position by ≡ Some e
    → plain_done c (token.Control control.Do by) here (on (index ∷ limit ∷ cells) r s)
    ≡ done (on cells (loop_item index limit (exit.Position e) ∷ r) s)
unfolding token_act control_act acted worked
begins_loop c here by e s index limit cells r i l t =
    let before = on (index ∷ limit ∷ cells) r s in
    let item = loop_item index limit (exit.Position e) in
    let room : nat_lt 256 (length (item ∷ r)) ≡ false = grind arith in
    interprets c (token.Control control.Do by) here before i
    ∙ ap (λ o. acted c (beginning index limit (exit.Position (unwrap_or o 0)) cells r) before) t
    ∙ chosen c before (beginning index limit (exit.Position e) cells r) (Does (Moves cells (Pushes item) Behind))
    (ap Does (if_not (nat_lt 256 (length (item ∷ r))) (Fails return_stack_overflow) (Moves cells (Pushes item) Behind)
    room))

skips_loop : {S : Type 0} (c : Calls S) (s : State S) (index limit : Cell) (cells : List Cell)
    → s.flow.is_compiling ≡ false → index.0 ≡ limit.0
    → Goes c control.QuestionDo (with_stack (index ∷ limit ∷ cells) s) (with_stack cells s)
unfolding control_act acted worked
skips_loop c s index limit cells e same here by size p to l =
    let before = reading size p (with_stack (index ∷ limit ∷ cells) s) in
    let goes = going (Some (Position to)) cells Keeps in
    lands c control.QuestionDo by here before (Some to) e l
    ∙ chosen c before _ goes
    (if_is (index.0 == limit.0) goes (beginning index limit (exit_at here.position by) cells s.flow.items)
    (eq-eqb index.0 limit.0 same))

repeats_loop : {S : Type 0} (c : Calls S) (s : State S) (l : LoopParameters) (r : List ReturnItem)
    → s.flow.is_compiling ≡ false → passes_limit l.index l.limit one ≡ false
    → Goes c control.Loop (with_items (Loop l ∷ r) s)
    (with_items (Loop (record l { index = plus l.index one }) ∷ r) s)
unfolding control_act acted worked
repeats_loop c s k r e on here by size p to l =
    let before = reading size p (with_items (Loop k ∷ r) s) in
    let goes = going (Some (Position to)) s.board.stack (Turns (record k { index = plus k.index one })) in
    lands c control.Loop by here before (Some to) e l
    ∙ chosen c before _ goes
    (if_not (passes_limit k.index k.limit one) (Does (Moves s.board.stack Drops Behind)) goes on)

leaves_loop : {S : Type 0} (c : Calls S) (here : Spot) (size : OffsetSize) (p e : ℕ) (s : State S)
    (l : LoopParameters) (r : List ReturnItem) → s.flow.is_compiling ≡ false → l.exit ≡ exit.Position e
    → within_tokens here.size (Some e) ≡ Some e
    → plain_done c token.Leave here (reading size p (with_items (Loop l ∷ r) s))
    ≡ done (reading size e (with_items r s))
unfolding token_act acted worked
leaves_loop c here size p e s l r i x w =
    let before = reading size p (with_items (Loop l ∷ r) s) in
    interprets c token.Leave here before i
    ∙ ap (λ o. acted c (going (exit_in here.size o) s.board.stack Drops) before) x
    ∙ ap (λ o. acted c (going (at_position o) s.board.stack Drops) before) w

another_goes : {S : Type 0} (c : Calls S) (s : State S) (y x : Cell) (cells : List Cell) → s.flow.is_compiling ≡ false
    → (x.0 ≡ y.0 → ⊥) → Goes c control.Of (with_stack (y ∷ x ∷ cells) s) (with_stack (x ∷ cells) s)
unfolding control_act acted worked
another_goes c s y x cells e not here by size p to l =
    let before = reading size p (with_stack (y ∷ x ∷ cells) s) in
    let goes = going (Some (Position to)) (x ∷ cells) Keeps in
    lands c control.Of by here before (Some to) e l
    ∙ chosen c before _ goes (if_not (x.0 == y.0) (staying cells) goes (other x.0 y.0 not))

pub tokens_go : {S : Type 0} → TokensGo S
tokens_go = record {
  branch = branch_goes;
  on_zero = zero_goes;
  nowhere = goes_nowhere;
  begins = begins_loop;
  skips = skips_loop;
  repeats = repeats_loop;
  leaves = leaves_loop;
  another = another_goes;
  arm = arm_goes;
}

-- ---- an open definition

some_same : {A : Type 0} {x y : A} → ◌≡◌ {A = Option A} (Some x) (Some y) → x ≡ y
some_same e = cc

element_is : (w : ControlWord) (by : ℤ) (position : ℕ) (k : StreamWord) (e : Element PlainItem)
    → stream_word w ≡ Some k → offset_element k position by ≡ Some e → control_element w position by ≡ e
element_is control.Branch by position k e named is =
    some_same (ap (λ x. offset_element x position by) (some_same named) ∙ is)
element_is control.BranchIfZero by position k e named is =
    some_same (ap (λ x. offset_element x position by) (some_same named) ∙ is)
element_is control.Do by position k e named is =
    some_same (ap (λ x. offset_element x position by) (some_same named) ∙ is)
element_is control.QuestionDo by position k e named is =
    some_same (ap (λ x. offset_element x position by) (some_same named) ∙ is)
element_is control.Loop by position k e named is =
    some_same (ap (λ x. offset_element x position by) (some_same named) ∙ is)
element_is control.PlusLoop by position k e named is =
    some_same (ap (λ x. offset_element x position by) (some_same named) ∙ is)
element_is control.Of by position k e named is =
    some_same (ap (λ x. offset_element x position by) (some_same named) ∙ is)
element_is control.EndOf by position k e named is =
    some_same (ap (λ x. offset_element x position by) (some_same named) ∙ is)
element_is control.EndCase by position k e named is = absurd cc

-- ---- words that run at last

planned : {S : Type 0} (c : Calls S) (xt : ℕ) (s : State S) (w : Word) → plan_in s xt ≡ Written w
    → executed c xt s ≡ worked c (written_act w (front_of s)) s
unfolding execution act_of_plan
planned c xt s w p = by_plan (plan_in (front_of s) xt) p
  where
    by_plan : (q : Plan) → q ≡ Written w
        → worked c (act_of_plan q (front_of s)) s ≡ worked c (written_act w (front_of s)) s
    by_plan q h = rw h refl

abbrev closed_or_unknown : Bool → Bool → List (Option Throw)
closed_or_unknown n k = fault_if n compile_only ∷ fault_if (not k) bad_handle ∷ []

known_over : (n k : Bool) (a : WordAct) → n ≡ false → k ≡ true → unless (counting (closed_or_unknown n k)) a ≡ a
unfolding rank later_rank
known_over false true a e h = refl
known_over false false a e h = absurd cc
known_over true k a e h = absurd cc

known_call : (w : WordsState) (n : ℕ) (x : Cell) (cells : List Cell) → w.defining ≡ Some n
    → is_word w.dictionary x.0 ≡ true → comma_act w (x ∷ cells) ≡ Appends (element.Plain (called x)) cells
known_call w n x cells d k =
    known_over (is_none w.defining) (is_word w.dictionary x.0) (Appends (element.Plain (called x)) cells)
    (ap is_none d) k

comma_of : {S : Type 0} (c : Calls S) (xt : ℕ) (s : State S) (n : ℕ) (x : Cell) (cells : List Cell)
    → plan_in s xt ≡ Written (word.Dictionary dictionary.CompileComma) → s.words.defining ≡ Some n
    → is_word s.words.dictionary x.0 ≡ true → s.board.stack ≡ x ∷ cells
    → executed c xt s ≡ appended (c.element (element.Plain (called x)) s.code) cells s
unfolding written_act dictionary_act worked
comma_of c xt s n x cells p d k e =
    planned c xt s (word.Dictionary dictionary.CompileComma) p
    ∙ ap (λ r. worked c (comma_act s.words r) s) e
    ∙ ap (λ a. worked c a s) (known_call s.words n x cells d k)

pub tokens_compile : {S : Type 0} → TokensCompile S
unfolding compiling_act acted worked
tokens_compile = record {
  control = λ c w by here s k e d compiling named is put.
      ap (λ a. acted c a s) (if_is s.flow.is_compiling _ _ compiling)
      ∙ ap (λ x. appended (c.element x s.code) s.board.stack s) (element_is w by here.position k e named is)
      ∙ ap (λ a. appended a s.board.stack s) put;
  call = λ c xt s n x cells d p opened known e put.
      comma_of c xt s n x cells p opened known e ∙ ap (λ a. appended a cells s) put;
}

-- ---- `throw`

throw_of : {S : Type 0} (c : Calls S) (xt : ℕ) (s : State S) (n : Cell) (cells : List Cell)
    → plan_in s xt ≡ Written (word.Throws throws.Throw) → s.board.stack ≡ n ∷ cells
    → executed c xt s ≡ worked c (if n.0 == 0 then Leaves cells else Raises (record { 0 = signed n }) cells) s
unfolding written_act
throw_of c xt s n cells p e =
    planned c xt s (word.Throws throws.Throw) p ∙ ap (λ r. worked c (throw_act r) s) e

pub throw_takes : {S : Type 0} → ThrowTakes S
unfolding worked
throw_takes = record {
  takes = λ c xt s n cells other_than p e.
      throw_of c xt s n cells p e
      ∙ ap (λ a. worked c a s) (if_not (n.0 == 0) (Leaves cells) (Raises (record { 0 = signed n }) cells)
      (other n.0 0 other_than));
  zero = λ c xt s n cells z p e.
      throw_of c xt s n cells p e
      ∙ ap (λ a. worked c a s) (if_is (n.0 == 0) (Leaves cells) (Raises (record { 0 = signed n }) cells)
      (eq-eqb n.0 0 z));
}

-- ---- words on words

pub dictionary_words_keep : {S : Type 0} → DictionaryWordsKeep S
unfolding written_act dictionary_act worked
dictionary_words_keep = record {
  bracket = λ c xt s n p opened.
      planned c xt s (word.Dictionary dictionary.EnterCompiling) p
      ∙ ap (λ b. worked c (if b then Fails compile_only else Compiles) s) (ap is_none opened);
  mark = λ c xt s w p e.
      planned c xt s (word.Dictionary dictionary.Immediate) p
      ∙ ap (λ r. worked c (knowing_under r s.board.stack) s) e;
  find = λ c xt s cells p e.
      planned c xt s (word.Dictionary dictionary.Find) p ∙ ap (λ r. worked c (leaving r) s) e;
  names = λ c xt s p. planned c xt s (word.Dictionary dictionary.PrintWords) p;
}
