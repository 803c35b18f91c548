-- The law `questions_settle`: nothing asks but words over keys, devices and time.
use Rattle.std.proofs.Common.{◌≡◌, ◌&&◌, ℕ, Bool, true, false, Option, Some, None, refl, ap, subst, if◌then◌else◌}
use Rattle.std.specs.Prelude.{not}
use Rattle.of_cells.specs.declared.cells.Cell.{Cell}
use Rattle.of_stacks.specs.declared.return_item.Continuation.{Continuation}
use Rattle.of_stacks.specs.declared.return_item.Continuation.TheVariants as continuation
use Rattle.of_stacks.specs.declared.return_item.Input.{Input}
use Rattle.of_stacks.specs.declared.return_item.Input.TheVariants as input
use Rattle.of_stacks.specs.Throws.{bad_handle, compile_only}
use Rattle.of_fcodes.specs.declared.token_table.TokenEntry.{TokenEntry}
use Rattle.of_fcodes.specs.declared.words.Word.{Word}
use Rattle.of_fcodes.specs.declared.words.Word.TheVariants as word
use Rattle.of_fcodes.specs.Tokens.{entry_in}
use Rattle.of_stream.specs.declared.stream.OffsetSize.{OffsetSize}
use Rattle.of_stream.specs.Decoding.{Token as Read, token_from}
use Rattle.of_stream.specs.Sizes.{size_behind}
use Rattle.of_memory.specs.Images.{latest_image}
use Rattle.of_dict.specs.declared.word.Kind.{Kind}
use Rattle.of_dict.specs.Words.{kind_in}
use Rattle.of_code.specs.declared.item.Item.{Item}
use Rattle.of_code.specs.declared.item.Item.TheVariants as item
use Rattle.of_code.specs.declared.item.Place.{Place}
use Rattle.of_code.specs.Items.{target_of}
use Rattle.of_control.specs.Element as element
use Rattle.of_compile.specs.Tokens.{called}
use Rattle.of_compile.specs.Words.{is_word, own_word}
use Rattle.of_asking.specs.declared.query.Query.{Query}
use Rattle.of_flow.specs.declared.token.Token.{Token}
use Rattle.of_flow.specs.declared.token.Token.TheVariants as token
use Rattle.of_flow.specs.Tokens.{Typed, typed_of}
use Rattle.of_flow.specs.Tokens as typed
use Rattle.of_eval.specs.declared.tokens.Spot.{Spot}
use Rattle.of_eval.specs.Acts.{Act, WordAct, front_of}
use Rattle.of_eval.specs.Acts as act
use Rattle.of_eval.specs.Doing.{act_grows, acted, executed, executed_grows, worked}
use Rattle.of_eval.specs.Executing.{Call, Catch, Declines, Execute, Open, Own, Plan, Stops, Written}
use Rattle.of_eval.specs.Executing.{act_of_plan, dictionary_act, entered, execution, furnished, guarded, own_act}
use Rattle.of_eval.specs.Executing.{plan_in, returns_act, throws_act, written_act}
use Rattle.of_eval.specs.Items.{item_act}
use Rattle.of_state.specs.State.{Calls, Outcome, State, with_next, with_stack}
use Rattle.of_eval.specs.Reading.{found_grows, found_token}
use Rattle.of_text.specs.declared.words.Found.{Found as FoundWord}
use Rattle.of_text.specs.declared.words.TextWord.{TextWord}
use Rattle.of_text.specs.declared.words.TextWord.TheVariants as text
use Rattle.of_interpret.specs.Reading.{read_from, word_at, word_done, word_grows}
use Rattle.of_interpret.specs.TextActs.{Acts, TextAct, text_acted, text_grows}
use Rattle.of_interpret.specs.TextWords.{text_act}
use Rattle.of_steps.specs.Steps.{due, due_grows, item_done, item_due, item_grows, reading_due, reading_grows}
use Rattle.of_eval.specs.Reading.{read_on, token_done, token_due, token_grows}
use Rattle.of_eval.specs.Tokens.{act_of, appending, calling, compiling_act, named, plain_act, spot_in, token_act}
use Rattle.of_eval_laws.specs.Listed.{plan_of_item, plan_said}
use Rattle.of_eval_laws.specs.Questions.{Executes, is_asking, runs_asking}
use Rattle.of_eval_laws.proofs.Walk.{IsAct, Turns, item_acts, plan_plain, typed_acts}
use Rattle.of_eval_laws.proofs.WalkFree.{anywhere, free_turns, keeping}
use Rattle.of_eval_laws.proofs.WalkWords.{IsWork, Rules, dictionary_works, own_works, returns_works, throws_work}
use Rattle.of_eval_laws.proofs.AnsweredActs.{act_told, board_asks, text_told}
use Rattle.of_eval_laws.proofs.TextFaults.{IsSaid, word_said}
use Rattle.of_eval_laws.proofs.WalkTexts.{AnyBytes, IsTextAct, text_acts}

-- ---- nothing else asks

-- acts that don't ask, of words that aren't executed
abbrev quiet : (S : Type 0) → Rules S
quiet S = record (keeping S (λ s. Unit {0}) ((λ cells d ih s k p. (tt, tt, tt)), (λ x s o p. tt))) {
  Runs = ⊥;
  Asks = ⊥;
  asks = λ r. absurd r;
  works = λ r w. tt;
  opens = λ r s p e. tt;
  may_open = λ r. tt;
  reads = λ r a n text s p shut e. tt;
}

abbrev quiet_turns : (S : Type 0) → Turns (quiet S)
quiet_turns S = free_turns (quiet S) (λ s p. tt) (λ l s. tt) (λ n s. tt)

work_quiet : {S : Type 0} (c : Calls S) (a : WordAct) (s : State S) → IsWork (quiet S) s a → (worked c a s).asks ≡ None
unfolding worked
work_quiet c (act.Fails t) s h = refl
work_quiet c (act.Raises t cells) s h = refl
work_quiet c (act.Leaves cells) s h = refl
work_quiet c (act.Works w) s h = board_asks _ s
work_quiet c (act.Listens w) s h = absurd h
work_quiet c (act.Reaches w) s h = absurd h
work_quiet c (act.Moves cells move to) s h = refl
work_quiet c (act.Knows w cells) s h = refl
work_quiet c (act.Stores m cells) s h = refl
work_quiet c act.Compiles s h = refl
work_quiet c (act.Prints text) s h = refl
work_quiet c (act.Appends x cells) s h = refl
work_quiet c (act.Loads size m cells) s h = refl
work_quiet c (act.Reads text cells) s h = refl
work_quiet c (act.Takes cells a) s h = work_quiet c a (with_stack cells s) h
work_quiet c (act.Guards cells a) s h = work_quiet c a (guarded cells s) h
work_quiet c (act.Enters cells d ih a) s h = work_quiet c a (entered cells d ih s) h.1
work_quiet c (act.Opens x a) s h = work_quiet c a (furnished x s) h.2
work_quiet c (act.Refuses t) s h = refl

act_quiet : {S : Type 0} (c : Calls S) (a : Act) (s : State S) → IsAct (quiet S) (quiet_turns S) s a
    → (acted c a s).asks ≡ None
act_quiet {S} c a s h =
    act_told c a s (λ w i. work_quiet c w s (subst (λ x. IsAct (quiet S) (quiet_turns S) s x) i h))

none_is : {A : Type 0} (o : Option A) (x : A) → o ≡ None → o ≡ Some x → ⊥
none_is None x e f = cc
none_is (Some y) x e f = cc

-- an item or a token executes a word
abbrev DoesExecute : {S : Type 0} → Act → State S → Type 0
DoesExecute a s = (xt : ℕ) × (a ≡ act.Does (execution xt (front_of s)))

item_quiet : {S : Type 0} (c : Calls S) (i : Item) (s : State S) → plan_of_item i (plan_in s) ≡ None
    → (item_done c i s).asks ≡ None
item_quiet {S} c i s e =
    act_quiet c (item_act i (front_of s)) s
    (item_acts (quiet S) (quiet_turns S) i s (anywhere (quiet S) (λ n x. tt) (target_of i) s) tt
    (λ xt z. absurd (none_is _ _ e z)))

item_executes : {S : Type 0} (c : Calls S) (i : Item) (q : Query) (s : State S) → (item_done c i s).asks ≡ Some q
    → DoesExecute (item_act i (front_of s)) s
unfolding item_act
item_executes c (item.Operation xt) q s e = (xt.0, refl)
item_executes c (item.Call xt) q s e = (xt.0, refl)
item_executes c i q s e = absurd (none_is _ _ (item_quiet c i s refl) e)

plain_quiet : {S : Type 0} (c : Calls S) (t : Token) (here : Spot) (s : State S)
    → plan_plain t s.words.table s.flow.is_compiling (plan_in s) ≡ None
    → (acted c (plain_act t here (front_of s)) s).asks ≡ None
plain_quiet {S} c t here s e =
    act_quiet c (plain_act t here (front_of s)) s
    (typed_acts (quiet S) (quiet_turns S) (typed.Plain t) here s tt
    (record {
      positions = tt;
      ends = λ z. tt;
      makes = λ z. tt;
      closes = λ z. tt;
      appends = λ z. tt;
      executes = λ xt z. absurd (none_is _ _ e z);
    }))

-- while words are compiled, an immediate one is executed
called_executes : {S : Type 0} (c : Calls S) (now known : Bool) (xt : ℕ) (q : Query) (s : State S)
    → (let a = if now then execution xt (front_of s)
    else (if known then appending (element.Plain (called (record { 0 = xt }))) (front_of s) else act.Fails bad_handle)
    in (worked c a s).asks ≡ Some q → DoesExecute (act.Does a) s)
unfolding worked
called_executes c true known xt q s e = (xt, refl)
called_executes c false true xt q s e = absurd cc
called_executes c false false xt q s e = absurd cc

word_executes : {S : Type 0} (c : Calls S) (o : Option TokenEntry) (compiling : Bool) (q : Query) (s : State S)
    → (let a = if compiling then act.Does (calling o (front_of s))
    else act.Does (named o (λ xt. execution xt (front_of s)))
    in (acted c a s).asks ≡ Some q → DoesExecute a s)
unfolding acted worked
word_executes c None true q s e = absurd cc
word_executes c None false q s e = absurd cc
word_executes c (Some x) true q s e =
    called_executes c x.immediate (is_word s.words.dictionary x.xt) x.xt q s e
word_executes c (Some x) false q s e = (x.xt, refl)

token_executes : {S : Type 0} (c : Calls S) (t : Typed) (here : Spot) (q : Query) (s : State S)
    → (token_done c t here s).asks ≡ Some q → DoesExecute (act_of t here (front_of s)) s
unfolding compiling_act token_act
token_executes c (typed.Plain (token.Word k)) here q s e =
    word_executes c (entry_in s.words.table k.0) s.flow.is_compiling q s e
token_executes c (typed.Plain t) here q s e = absurd (none_is _ _ (plain_quiet c t here s refl) e)
token_executes {S} c (typed.NamedToken name k) here q s e =
    absurd
    (none_is _ _
    (act_quiet c _ s (typed_acts (quiet S) (quiet_turns S) (typed.NamedToken name k) here s tt tt)) e)
token_executes {S} c (typed.ExternalToken name k) here q s e =
    absurd
    (none_is _ _
    (act_quiet c _ s (typed_acts (quiet S) (quiet_turns S) (typed.ExternalToken name k) here s tt tt)) e)

-- what comes next does this and grows so
abbrev Found : {S : Type 0} → Calls S → Outcome S → Bool → State S → Type 0
Found {S} c o grows s =
    (xt : ℕ) × (n : State S) × (n.board ≡ s.board) × (n.reply ≡ s.reply) × (o ≡ executed c xt n)
    × (grows ≡ executed_grows n xt)

found_act : {S : Type 0} (c : Calls S) (a : Act) (n s : State S) → DoesExecute a n → n.board ≡ s.board
    → n.reply ≡ s.reply → Found c (acted c a n) (act_grows a n.words) s
unfolding acted
found_act c a n s h e f = (h.0, n, e, f, ap (λ x. acted c x n) h.1, ap (λ x. act_grows x n.words) h.1)

item_found : {S : Type 0} (c : Calls S) (o : Option (Item × Place)) (q : Query) (s : State S)
    → (item_due c o s).asks ≡ Some q → Found c (item_due c o s) (item_grows o s) s
item_found c None q s e = absurd cc
item_found c (Some x) q s e =
    let on = with_next (continuation.Code x.1.cell) s in
    found_act c (item_act x.0 (front_of on)) on s (item_executes c x.0 q on e) refl refl

token_found : {S : Type 0} (c : Calls S) (o : Option (Read × ℕ)) (size : OffsetSize) (position : ℕ) (q : Query)
    (s : State S) → (found_token c o size position s).asks ≡ Some q
    → Found c (found_token c o size position s) (found_grows o size position s) s
token_found c None size position q s e = absurd cc
token_found c (Some x) size position q s e =
    let on = read_on (size_behind x.0.code.0 size) x.1 s in
    let here = spot_in s.board.memory position x.1 in
    found_act c (act_of (typed_of x.0) here (front_of on)) on s (token_executes c (typed_of x.0) here q on e) refl refl

input_found : {S : Type 0} (c : Calls S) (i : Input) (q : Query) (s : State S) → (token_due c i s).asks ≡ Some q
    → Found c (token_due c i s) (token_grows i s) s
input_found c (input.Image size position) q s e =
    token_found c (token_from (latest_image s.board.memory) position size) size position q s e
input_found c (input.Text position) q s e = absurd cc
input_found c input.Nothing q s e = absurd cc

-- ---- words of a text

-- a word of a text executes a word
abbrev SaysToExecute : {S : Type 0} → TextAct → State S → Type 0
SaysToExecute a s = (xt : ℕ) × (a ≡ Acts (act.Does (execution xt (front_of s))))

text_quiet : {S : Type 0} (c : Calls S) (w : TextWord) (s : State S) → IsSaid w
    → plan_said w s.flow.is_compiling (plan_in s) ≡ None → (text_acted c (text_act w (front_of s)) s).asks ≡ None
text_quiet {S} c w s said e =
    text_told c (text_act w (front_of s)) s
    (λ a i.
    act_quiet c a s
    (subst (λ x. IsTextAct (quiet S) (quiet_turns S) AnyBytes s x) i
    (text_acts (quiet S) (quiet_turns S) AnyBytes w s tt
    (record {
      said = said;
      ends = λ z. tt;
      makes = tt;
      closes = λ z. tt;
      appends = λ z. tt;
      prints = tt;
      executes = λ xt z. absurd (none_is _ _ e z);
      strings = λ n. tt;
      quotes = λ at. tt;
    }))))

-- while words are compiled, only an immediate one is executed
spoken_executes : {S : Type 0} (c : Calls S) (later known : Bool) (xt : Cell) (q : Query) (s : State S)
    → (let a = if later
    then (if known then appending (element.Plain (called xt)) (front_of s) else act.Fails bad_handle)
    else execution xt.0 (front_of s)
    in (worked c a s).asks ≡ Some q → SaysToExecute (Acts (act.Does a)) s)
unfolding worked
spoken_executes c true true xt q s e = absurd cc
spoken_executes c true false xt q s e = absurd cc
spoken_executes c false known xt q s e = (xt.0, refl)

text_executes : {S : Type 0} (c : Calls S) (w : TextWord) (q : Query) (s : State S) → IsSaid w
    → (text_acted c (text_act w (front_of s)) s).asks ≡ Some q → SaysToExecute (text_act w (front_of s)) s
unfolding text_acted text_act acted
text_executes c (text.Found xt immediate) q s said e =
    spoken_executes c (s.flow.is_compiling && not immediate) (is_word s.words.dictionary xt.0) xt q s e
text_executes c w q s said e = absurd (none_is _ _ (text_quiet c w s said refl) e)

found_text : {S : Type 0} (c : Calls S) (a : TextAct) (n s : State S) → SaysToExecute a n → n.board ≡ s.board
    → n.reply ≡ s.reply → Found c (text_acted c a n) (text_grows a n.words) s
unfolding text_acted acted
found_text c a n s h e f = (h.0, n, e, f, ap (λ x. text_acted c x n) h.1, ap (λ x. text_grows x n.words) h.1)

text_found : {S : Type 0} (c : Calls S) (x : FoundWord) (q : Query) (s : State S) → IsSaid x.word
    → (word_done c x s).asks ≡ Some q → Found c (word_done c x s) (word_grows x s) s
text_found c x q s said e =
    let on = read_from x.next s in
    found_text c (text_act x.word (front_of on)) on s (text_executes c x.word q on said e) refl refl

reading_found : {S : Type 0} (c : Calls S) (i : Input) (q : Query) (s : State S) → (reading_due c i s).asks ≡ Some q
    → Found c (reading_due c i s) (reading_grows i s) s
reading_found c (input.Image size position) q s e = input_found c (input.Image size position) q s e
reading_found c (input.Text position) q s e = text_found c (word_at position s) q s (word_said position s) e
reading_found c input.Nothing q s e = absurd cc

-- ---- what comes next

pub next_found : {S : Type 0} (c : Calls S) (to : Continuation) (q : Query) (s : State S) → (due c to s).asks ≡ Some q
    → Found c (due c to s) (due_grows c to s) s
next_found c continuation.Source q s e = reading_found c s.flow.reading.input q s e
next_found c (continuation.Code n) q s e = item_found c (c.fetch s.code (record { cell = n })) q s e

pub executes_next : {S : Type 0} (c : Calls S) (to : Continuation) (s : State S)
    → Found c (due c to s) (due_grows c to s) s → Executes c to s
executes_next c to s (xt, n, board, reply, does, grows) = record {
  xt = xt;
  behind = n;
  board = board;
  reply = reply;
  does = does;
  grows = grows;
}

-- ---- words that run at last

written_quiet : {S : Type 0} (c : Calls S) (w : Word) (s : State S) → is_asking w ≡ false
    → (worked c (written_act w (front_of s)) s).asks ≡ None
unfolding written_act
written_quiet {S} c (word.Returns w) s h =
    work_quiet c (returns_act w s.board.stack s.flow.items) s
    (returns_works (quiet S) w s.board.stack s tt (λ e. tt))
written_quiet {S} c (word.Throws w) s h =
    work_quiet c (throws_act w s.board.stack) s (throws_work (quiet S) w s.board.stack s (λ x e. tt))
written_quiet {S} c (word.Dictionary w) s h =
    work_quiet c (dictionary_act w (front_of s)) s
    (dictionary_works (quiet S) (λ t p e. tt) (λ a n text t p shut e. tt) tt w s tt)
written_quiet c (word.Stream w) s h = work_quiet c (act.Fails compile_only) s tt
written_quiet c (word.Parsing w) s h = work_quiet c (act.Fails compile_only) s tt
written_quiet c (word.Compiling w) s h = work_quiet c (act.Fails compile_only) s tt
written_quiet c (word.Keys w) s h = absurd cc
written_quiet c (word.Devices w) s h = absurd cc
written_quiet c w s h = work_quiet c (act.Works w) s tt

own_quiet : {S : Type 0} (c : Calls S) (k : Option Kind) (xt : ℕ) (s : State S)
    → kind_in (own_word s.words.dictionary xt) ≡ k → (worked c (own_act k xt (front_of s)) s).asks ≡ None
own_quiet {S} c k xt s e = work_quiet c (own_act k xt (front_of s)) s (own_works (quiet S) k xt s e tt)

plan_quiet : {S : Type 0} (c : Calls S) (p : Plan) (s : State S) → runs_asking p ≡ false
    → (worked c (act_of_plan p (front_of s)) s).asks ≡ None
unfolding act_of_plan worked
plan_quiet c (Stops t) s h = refl
plan_quiet c (Written w) s h = written_quiet c w s h
plan_quiet c (Own xt) s h = own_quiet c (kind_in (own_word s.words.dictionary xt)) xt s refl
plan_quiet c (Execute cells p) s h = plan_quiet c p (with_stack cells s) h
plan_quiet c (Catch cells p) s h = plan_quiet c p (guarded cells s) h
plan_quiet c (Call cells d ih p) s h = plan_quiet c p (entered cells d ih s) h
plan_quiet c (Open x p) s h = plan_quiet c p (furnished x s) h
plan_quiet c (Declines t) s h = refl

is_true : (b : Bool) → (b ≡ false → ⊥) → b ≡ true
is_true true h = refl
is_true false h = absurd (h refl)

pub asks_at_last : {S : Type 0} (c : Calls S) (xt : ℕ) (q : Query) (s : State S) → (executed c xt s).asks ≡ Some q
    → runs_asking (plan_in s xt) ≡ true
unfolding execution
asks_at_last c xt q s e = is_true _ (λ h. none_is _ _ (plan_quiet c (plan_in s xt) s h) e)
