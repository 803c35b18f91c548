-- The law `images_are_readings`: what acts leave of the images and of what is read.
use Rattle.std.proofs.Common.{◌≡◌, inl, inr, ℕ, suc, ◌+◌, Bool, true, false, ◌&&◌, List, [], ◌∷◌, ◌++◌, length}
use Rattle.std.proofs.Common.{drop, Option, Some, None, Result, Ok, Err, refl, sym, ap, ◌∙◌, subst, nat_le}
use Rattle.std.proofs.Common.{nat_lt, if◌then◌else◌}
use Rattle.of_cells.specs.declared.cells.Cell.{Cell}
use Rattle.of_code.specs.declared.item.Item.{Item}
use Rattle.of_code.specs.declared.item.Place.{Place}
use Rattle.of_code.specs.Items.{target_of}
use Rattle.of_stacks.specs.declared.return_item.Continuation.{Continuation}
use Rattle.of_stacks.specs.declared.return_item.Continuation.TheVariants as continuation
use Rattle.of_stacks.specs.declared.return_item.Input.{Input}
use Rattle.of_stacks.specs.declared.return_item.Input.TheVariants as input
use Rattle.of_stacks.specs.declared.return_item.ReturnItem.{ReturnItem}
use Rattle.of_stacks.specs.declared.return_item.ReturnItem.TheVariants.{Return, Loop, User, Handler, Source, Caller}
use Rattle.of_stacks.specs.declared.throws.Throw.{Throw}
use Rattle.of_stacks.specs.Order.{counting, unless}
use Rattle.of_stacks.specs.Returns.{return_on_top}
use Rattle.of_fcodes.specs.declared.words.Word.{Word}
use Rattle.of_fcodes.specs.Lookup.{word_numbered}
use Rattle.of_stream.specs.declared.stream.OffsetSize.{OffsetSize}
use Rattle.of_stream.specs.Decoding.{Token, token_from}
use Rattle.of_stream.specs.Sizes.{size_behind}
use Rattle.of_memory.specs.declared.fault.MemFault.{MemFault}
use Rattle.of_memory.specs.declared.fault.MemFault.TheVariants.{Full}
use Rattle.of_memory.specs.Access.{read_bytes, read_spread, with_read}
use Rattle.of_memory.specs.DataSpace.{DataSpace, IsSound, free_after, written}
use Rattle.of_memory.specs.Growth.{aligned, append_copied, image_pushed, image_pushed_from, with_zeros}
use Rattle.of_memory.specs.Growth.{appended as with_bytes}
use Rattle.of_memory.specs.Images.{latest_image}
use Rattle.of_memory.specs.Regions.{data_limit, image_count, image_limit}
use Rattle.of_nodes.specs.declared.phandles.Phandle.{Phandle}
use Rattle.of_nodes.specs.declared.tree.Node.{Node}
use Rattle.of_dict.specs.Words.{name_in, word_at, xt_of}
use Rattle.of_compile.specs.declared.defining.DefiningWord.{DefiningWord}
use Rattle.of_compile.specs.declared.words.Pending.{Pending}
use Rattle.of_compile.specs.Defining.{Made, defining_faults, made_by, making, named_made, naming_faults, opens}
use Rattle.of_compile.specs.Defining.{word_made}
use Rattle.of_compile.specs.Words.{WordsState}
use Rattle.of_board.specs.declared.board.Board.{Board}
use Rattle.of_asking.specs.Devices.{devices_entry}
use Rattle.of_asking.specs.Keys.{keys_entry}
use Rattle.of_asking.specs.Questions.{Asking, Asks, Gives}
use Rattle.of_eval.specs.Acts.{Act, Move, To, WordAct, front_of}
use Rattle.of_eval.specs.Acts as act
use Rattle.of_eval.specs.Defining.{by_making, closed_if, define_entry, definition_ended, known_at_once, opened}
use Rattle.of_eval.specs.Defining.{semicolon_entry, string_compiled, string_kept, string_put, string_refused}
use Rattle.of_eval.specs.Defining.{word_defined, by_slot_making, word_made_as}
use Rattle.of_eval.specs.Doing.{acted, appended, gone, input_at, read_at, worked}
use Rattle.of_eval.specs.Doing as doing
use Rattle.of_eval.specs.Executing.{entered, furnished, guarded, plan_in}
use Rattle.of_eval.specs.Items.{item_act}
use Rattle.of_eval.specs.Methods.{as_method, known_if, method_made, then_known, xt_cell}
use Rattle.of_state.specs.Settling.{ended, ends_inside}
use Rattle.of_state.specs.State.{Answered, Calls, Outcome, State, by_asking, by_board, with_items, with_next}
use Rattle.of_state.specs.State.{with_stack}
use Rattle.of_text.specs.declared.words.Found.{Found}
use Rattle.of_eval.specs.Naming.{naming_done, word_named, word_named_as}
use Rattle.of_eval.specs.Reading.{found_token, read_on, token_due}
use Rattle.of_interpret.specs.Reading.{read_from, word_at as said_at, word_done}
use Rattle.of_interpret.specs.Strings.{all_appended, by_spelling, by_string, said, spelt, string_said, string_spelt}
use Rattle.of_interpret.specs.TextActs.{Acts, AppendsAll, Interprets, Names, Says, Sees, Selects, Spells, TextAct}
use Rattle.of_interpret.specs.TextActs.{seen, text_acted}
use Rattle.of_interpret.specs.TextWords.{text_act}
use Rattle.of_steps.specs.Steps.{due, item_due, reading_due}
use Rattle.of_eval.specs.Tokens.{act_of, spot_in}
use Rattle.of_flow.specs.Tokens.{typed_of}
use Rattle.of_words.specs.Words.{word_entry}
use Rattle.of_eval_laws.specs.Listed.{plan_of_item}
use Rattle.of_eval_laws.specs.Readings.{BeganInside, is_image, kept_readings}
use Rattle.of_eval_laws.specs.Sound.{HasSoundSpace}
use Rattle.of_eval_laws.specs.Throws.{image_more}
use Rattle.of_eval_laws.proofs.FramedWriting.{word_stands}
use Rattle.of_eval_laws.proofs.ReadingsEnds.{Counted, Goes, Reads, given_up_reads, rests, source_reads}
use Rattle.of_eval_laws.proofs.FramedSpace.{AskingStands, BoardStands, Laws, Stands, devices_stand, keys_stand}
use Rattle.of_eval_laws.proofs.Walk.{IsAct, Turns, item_acts, typed_acts}
use Rattle.of_eval_laws.proofs.WalkFree.{anywhere, free, free_turns}
use Rattle.of_eval_laws.proofs.RunningTokens.{said_stands, spelt_stands}
use Rattle.of_eval_laws.proofs.TextBytes.{quotes_are, strings_are}
use Rattle.of_eval_laws.proofs.TextFaults.{IsSaid, word_said}
use Rattle.of_eval_laws.proofs.WalkTexts.{IsTextAct, text_acts}
use Rattle.of_eval_laws.proofs.WalkTyped.{typed_may}
use Rattle.of_memory.specs.SoundChanges.{AreBytes}
use Rattle.of_eval_laws.proofs.WalkWords.{Fits, IsCellOnTop, IsLoopOnTop, IsMove, IsTurn, IsWork, Rules, all_executed}
use Rattle.of_compile.specs.SlotWords.{SlotMade, awaited, rounded, rounded_to, slot_faults, slot_given, slot_made}
use Rattle.of_compile.specs.SlotWords.{slot_making, slot_word_made}
use Rattle.of_dict.specs.declared.word.Slot.{Slot}
use Rattle.of_ihandles.specs.declared.instance_fault.InstanceFault.{InstanceFault}
use Rattle.of_ihandles.specs.Table.{InstanceTable}
use Rattle.of_compile.specs.SlotWords.{slot_naming_faults, slot_word_named}
use Rattle.of_eval_laws.proofs.DefinedSpace.{slot_kept, slot_named_kept, slot_word_kept}

-- ---- one image more

-- one more image stands
abbrev pub OneMore : DataSpace → DataSpace → Type 0
OneMore m after = (end : ℕ) × (after.images ≡ end ∷ m.images)

abbrev pub MayStand : DataSpace → Result (ℕ × DataSpace) MemFault → Type 0
MayStand m (Ok x) = OneMore m x.1
MayStand m (Err fault) = Unit {0}

pushed_if : (b : Bool) (m : DataSpace) (xs : List ℕ) (a : ℕ)
    → MayStand m (if b then Ok (a, record (written m a xs) { images = (a + length xs) ∷ m.images }) else Err Full)
pushed_if true m xs a = (a + length xs, refl)
pushed_if false m xs a = tt

pub pushed_stands : (m : DataSpace) (xs : List ℕ) → MayStand m (image_pushed m xs)
pushed_stands m xs =
    let a = free_after m.images in
    pushed_if (nat_le (a + length xs) image_limit && nat_lt (length m.images) image_count) m xs a

read_stands : (m : DataSpace) (r : Result (List ℕ) MemFault) → MayStand m (with_read r (λ xs. image_pushed m xs))
read_stands m (Ok xs) = pushed_stands m xs
read_stands m (Err fault) = tt

copied_stands : (m : DataSpace) (a n spread : ℕ) (x : ℕ × DataSpace) → image_pushed_from m a n spread ≡ Ok x
    → OneMore m x.1
copied_stands m a n spread x e = subst (λ r. MayStand m r) e (read_stands m (read_spread m a n spread))

-- ---- the rules

abbrev IsNoSource : ReturnItem → Type 0
IsNoSource (Source r) = ⊥
IsNoSource (Return to) = Unit {0}
IsNoSource (Loop l) = Unit {0}
IsNoSource (User x) = Unit {0}
IsNoSource (Handler h) = Unit {0}
IsNoSource (Caller d) = Unit {0}

-- no source is pushed, but for an image, and that stands
abbrev counting_rules : (S : Type 0) → Rules S
counting_rules S = record (free S) {
  Item = λ s i. IsNoSource i;
  user = λ x s p. tt;
  return = λ s p. tt;
  Loads = λ s m. OneMore s.board.memory m;
  loads = λ a n spread x s p shut e. copied_stands s.board.memory a n spread x e;
}

abbrev counting_turns : (S : Type 0) → Turns (counting_rules S)
counting_turns S = free_turns (counting_rules S) (λ s p. tt) (λ l s. tt) (λ n s. tt)

-- ---- the return stack

abbrev KeptBelow : List ℕ → Input → List ReturnItem → Type 0
KeptBelow ends now items = Counted ends now items → Counted ends now (drop 1 items)

below_cell : (ends : List ℕ) (now : Input) (items : List ReturnItem) → IsCellOnTop items → KeptBelow ends now items
below_cell ends now [] top h = h
below_cell ends now (Source r ∷ items) top h = (let e = top.1 in absurd cc)
below_cell ends now (Return to ∷ items) top h = h
below_cell ends now (Loop l ∷ items) top h = h
below_cell ends now (User x ∷ items) top h = h
below_cell ends now (Handler f ∷ items) top h = h
below_cell ends now (Caller d ∷ items) top h = h

below_loop : (ends : List ℕ) (now : Input) (items : List ReturnItem) → IsLoopOnTop items → KeptBelow ends now items
below_loop ends now [] top h = h
below_loop ends now (Source r ∷ items) top h = (let e = top.1 in absurd cc)
below_loop ends now (Return to ∷ items) top h = h
below_loop ends now (Loop l ∷ items) top h = h
below_loop ends now (User x ∷ items) top h = h
below_loop ends now (Handler f ∷ items) top h = h
below_loop ends now (Caller d ∷ items) top h = h

below_return : (ends : List ℕ) (now : Input) (items : List ReturnItem) (to : Continuation)
    → return_on_top items ≡ Ok to → KeptBelow ends now items
below_return ends now [] to e h = h
below_return ends now (Source r ∷ items) to e h = absurd cc
below_return ends now (Return other ∷ items) to e h = h
below_return ends now (Loop l ∷ items) to e h = h
below_return ends now (User x ∷ items) to e h = h
below_return ends now (Handler f ∷ items) to e h = h
below_return ends now (Caller d ∷ items) to e h = h

item_kept : (ends : List ℕ) (now : Input) (i : ReturnItem) (items : List ReturnItem) → IsNoSource i
    → Counted ends now items → Counted ends now (i ∷ items)
item_kept ends now (Source r) items n h = absurd n
item_kept ends now (Return to) items n h = h
item_kept ends now (Loop l) items n h = h
item_kept ends now (User x) items n h = h
item_kept ends now (Handler f) items n h = h
item_kept ends now (Caller d) items n h = h

turned_kept : (ends : List ℕ) (now : Input) (m : Move) (items : List ReturnItem) → IsTurn m items
    → Counted ends now items → Counted ends now (doing.moved m items)
turned_kept ends now act.Keeps items t h = h
turned_kept ends now (act.Pushes i) items t h = absurd t
turned_kept ends now act.Drops items t h = below_loop ends now items t h
turned_kept ends now (act.Turns l) items t h = below_loop ends now items t h

moved_kept : {S : Type 0} (ends : List ℕ) (now : Input) (m : Move) (to : To) (s : State S)
    → IsMove (counting_rules S) s m → Fits (counting_rules S) s m to → Counted ends now s.flow.items
    → Counted ends now (doing.moved m s.flow.items)
moved_kept ends now act.Keeps to s i f h = h
moved_kept ends now (act.Pushes item) to s i f h = item_kept ends now item s.flow.items i h
moved_kept ends now act.Drops act.Behind s i (inl top) h = below_cell ends now s.flow.items top h
moved_kept ends now act.Drops act.Behind s i (inr top) h = below_loop ends now s.flow.items top h
moved_kept ends now act.Drops (act.Next to) s i (inl e) h = below_return ends now s.flow.items to e h
moved_kept ends now act.Drops (act.Next to) s i (inr x) h = below_loop ends now s.flow.items x.1 h
moved_kept ends now (act.Turns l) act.Behind s i f h = absurd f
moved_kept ends now (act.Turns l) (act.Next to) s i f h = below_loop ends now s.flow.items f.1 h

-- ---- what is read, elsewhere

-- one more if it is an image
by_kind : (i : Input) (n : ℕ) → image_more i n ≡ (if is_image i then suc n else n)
by_kind input.Nothing n = refl
by_kind (input.Text position) n = refl
by_kind (input.Image size position) n = refl

inside_alike : (i j : Input) (items : List ReturnItem) → is_image i ≡ is_image j → BeganInside j items
    → BeganInside i items
inside_alike i j [] e h = e ∙ h
inside_alike i j (Source r ∷ items) e h = h
inside_alike i j (Return to ∷ items) e h = inside_alike i j items e h
inside_alike i j (Loop l ∷ items) e h = inside_alike i j items e h
inside_alike i j (User x ∷ items) e h = inside_alike i j items e h
inside_alike i j (Handler f ∷ items) e h = inside_alike i j items e h
inside_alike i j (Caller d ∷ items) e h = inside_alike i j items e h

alike_kept : (ends : List ℕ) (i j : Input) (items : List ReturnItem) → is_image i ≡ is_image j
    → Counted ends j items → Counted ends i items
alike_kept ends i j items e h =
    let n = kept_readings items in
    let alike = by_kind i n ∙ ap (λ b. if b then suc n else n) e ∙ sym (by_kind j n) in
    (h.0 ∙ sym alike, inside_alike i j items e h.1)

moved_input : (n : ℕ) (i : Input) → is_image (input_at n i) ≡ is_image i
moved_input n input.Nothing = refl
moved_input n (input.Text position) = refl
moved_input n (input.Image size position) = refl

-- ---- defining and compiling

-- other images of the same number
same_images : {S : Type 0} (ends : List ℕ) (s : State S) → ends ≡ s.board.memory.images → Goes s
    → Counted ends s.flow.reading.input s.flow.items × (s.flow.is_running ≡ true)
same_images ends s e h = (subst (λ x. Counted x s.flow.reading.input s.flow.items) (sym e) h.0, h.1)

method_reads : {S : Type 0} (x : Option (List Node)) (n : ℕ) (s : State S) → Goes s → Goes (as_method x n s)
method_reads None n s h = h
method_reads (Some nodes) n s h = h

known_reads : {S : Type 0} (r : Result (Unit {0}) Throw) (home : Option Phandle) (n : ℕ) (s : State S) → Goes s
    → Goes (known_if r home n s)
known_reads (Ok x) home n s h =
    method_reads (method_made home (name_in (word_at s.words.dictionary n)) (xt_cell n) s.board.tree) n s h
known_reads (Err t) home n s h = h

then_reads : {S : Type 0} (home : Option Phandle) (o : Option ℕ) (a : Outcome S) → Goes a.state
    → Goes (then_known home o a).state
then_reads home None a h = h
then_reads home (Some n) a h = known_reads a.ended home n a.state h

opened_reads : {S : Type 0} (b : Bool) (s : State S) → Goes s → Goes (opened b s)
opened_reads true s h = h
opened_reads false s h = h

made_images : (d : DefiningWord) (q : Option Pending) (x : Option Made) (w : WordsState) (cells : List Cell)
    (m : DataSpace) → (word_made d (making w cells m) q x).memory.images ≡ m.images
made_images d None x w cells m = refl
made_images d (Some p) None w cells m = refl
made_images d (Some p) (Some x) w cells m = refl

making_reads : {S : Type 0} (d : DefiningWord) (f : Option Throw) (x : Option Made) (s : State S) → Goes s
    → Goes
    (by_making d (unless f (word_made d (making s.words s.board.stack s.board.memory) s.words.pending x)) s).state
making_reads d (Some t) x s h = h
making_reads d None x s h =
    opened_reads (opens d) _
    (same_images _ s (made_images d s.words.pending x s.words s.board.stack s.board.memory) h)

slot_reads : {S : Type 0} (l : Laws) (k : Slot) (f : Option Throw) (home : Option Phandle) (x : Option SlotMade)
    (r : Result (ℕ × (InstanceTable × DataSpace)) InstanceFault) (s : State S)
    → slot_given home x (slot_making s.words s.board.stack s.board.memory s.board.instances) ≡ r
    → IsSound s.board.memory → Goes s
    → Goes
    (by_slot_making
    (unless f
    (slot_word_made k s.words.pending x r (slot_making s.words s.board.stack s.board.memory s.board.instances)))
    s).state
slot_reads l k (Some t) home x r s e sound h = h
slot_reads l k None home x r s e sound h =
    same_images _ s
    (slot_word_kept l k s.words.pending home x r
    (slot_making s.words s.board.stack s.board.memory s.board.instances) sound e).images.0
    h

word_reads : {S : Type 0} (l : Laws) (c : Calls S) (d : DefiningWord) (o : Option Slot) (s : State S)
    → IsSound s.board.memory → Goes s → Goes (word_made_as c d o s).state
word_reads l c d None s sound h =
    let x = made_by d (c.ends_at s.code) (aligned s.board.memory.here) s.board.stack in
    making_reads d (counting (defining_faults (making s.words s.board.stack s.board.memory) x)) x s h
word_reads l c d (Some k) s sound h =
    let g = slot_making s.words s.board.stack s.board.memory s.board.instances in
    let home = s.board.active.«package» in
    let x = slot_made k s.board.stack in
    slot_reads l k (counting (slot_faults home x (slot_given home x g) g)) home x (slot_given home x g) s refl sound h

define_reads : {S : Type 0} (l : Laws) (c : Calls S) (d : DefiningWord) (s : State S) → IsSound s.board.memory
    → Goes s → Goes (define_entry c d s).state
define_reads l c d s sound h =
    then_reads s.board.active.«package» (known_at_once d s.words.dictionary) (word_defined c d s)
    (word_reads l c d (awaited d s.words) s sound h)

closed_reads : {S : Type 0} (e : Result (Unit {0}) Throw) (s : State S) → Goes s → Goes (closed_if e s)
closed_reads (Ok x) s h = h
closed_reads (Err t) s h = h

definition_reads : {S : Type 0} (c : Calls S) (o : Option ℕ) (s : State S) → Goes s
    → Goes (definition_ended c o s).state
definition_reads c None s h = h
definition_reads c (Some n) s h = closed_reads (c.semicolon (record { 0 = xt_of n }) s.code).ended s h

rounded_if : (b : Bool) (m : DataSpace)
    → (rounded_to m (if b then Ok (aligned m.here, with_zeros m 0) else Err Full)).images ≡ m.images
rounded_if true m = refl
rounded_if false m = refl

rounded_images : (m : DataSpace) → (rounded m).images ≡ m.images
rounded_images m = rounded_if (nat_le (aligned m.here + 0) data_limit) m

-- what was copied to `here` left the same images
abbrev IsAside : DataSpace → Result (ℕ × DataSpace) MemFault → Type 0
IsAside m (Ok x) = x.1.images ≡ m.images
IsAside m (Err fault) = Unit {0}

bytes_if : (b : Bool) (m : DataSpace) (xs : List ℕ)
    → IsAside m (if b then Ok (m.here, record (written m m.here xs) { here = m.here + length xs }) else Err Full)
bytes_if true m xs = refl
bytes_if false m xs = tt

read_aside : (m : DataSpace) (r : Result (List ℕ) MemFault) → IsAside m (with_read r (λ xs. with_bytes m (xs ++ [])))
read_aside m (Ok xs) = bytes_if (nat_le (m.here + length (xs ++ [])) data_limit) m (xs ++ [])
read_aside m (Err fault) = tt

put_reads : {S : Type 0} (e : Result (Unit {0}) Throw) (code : S) (m : DataSpace) (s : State S)
    → m.images ≡ s.board.memory.images → Goes s → Goes (string_put e code m s).state
put_reads (Ok x) code m s e h = same_images (rounded m).images s (rounded_images m ∙ e) h
put_reads (Err t) code m s e h = h

refused_reads : {S : Type 0} (e : Result (Unit {0}) Throw) (t : Throw) (s : State S) → Goes s
    → Goes (string_refused e t s).state
refused_reads (Ok x) t s h = h
refused_reads (Err first) t s h = h

string_reads : {S : Type 0} (a : Answered S) (r : Result (ℕ × DataSpace) MemFault) (s : State S)
    → IsAside s.board.memory r → Goes s → Goes (string_kept a r s).state
string_reads a (Ok x) s e h = put_reads a.ended a.code x.1 s e h
string_reads a (Err fault) s e h = refused_reads a.ended _ s h

-- ---- acts of words

board_read : {S : Type 0} (r : Result Board Throw) (s : State S) → BoardStands s.board r → Goes s
    → Goes (by_board r s).state
board_read (Ok p) s stands h = same_images p.memory.images s stands.0.0 h
board_read (Err t) s stands h = h

asking_reads : {S : Type 0} (x : Asking Board) (s : State S) → AskingStands s.board x → Goes s
    → Goes (by_asking x s).state
asking_reads (Gives r) s stands h = board_read r s stands h
asking_reads (Asks q) s stands h = h

ordinary_reads : {S : Type 0} (l : Laws) (w : Word) (s : State S) → IsSound s.board.memory → Goes s
    → Goes (by_board (word_entry w s.board) s).state
ordinary_reads l w s sound h =
    board_read (word_entry w s.board) s (word_stands l w s.board sound) h

appended_reads : {S : Type 0} (code : S) (e : Result (Unit {0}) Throw) (cells : List Cell) (s : State S) → Goes s
    → Goes (appended (record { code = code; ended = e }) cells s).state
appended_reads code (Ok x) cells s h = h
appended_reads code (Err t) cells s h = h

gone_reads : {S : Type 0} (to : To) (s : State S) → Goes s → Goes (gone to s)
gone_reads act.Behind s h = h
gone_reads (act.Next to) s h = h

worked_reads : {S : Type 0} (l : Laws) (c : Calls S) (a : WordAct) (s : State S) → IsWork (counting_rules S) s a
    → IsSound s.board.memory → Goes s → Goes (worked c a s).state
unfolding worked
worked_reads l c (act.Fails t) s w sound h = h
worked_reads l c (act.Raises t cells) s w sound h = h
worked_reads l c (act.Leaves cells) s w sound h = h
worked_reads l c (act.Works x) s w sound h = ordinary_reads l x s sound h
worked_reads l c (act.Listens x) s w sound h =
    asking_reads (keys_entry x s.reply s.board) s (keys_stand l x s.reply s.board sound) h
worked_reads l c (act.Reaches x) s w sound h =
    asking_reads (devices_entry x s.reply s.board) s (devices_stand l x s.reply s.board sound) h
worked_reads l c (act.Moves cells move to) s w sound h =
    gone_reads to (with_stack cells (with_items (doing.moved move s.flow.items) s))
    (moved_kept s.board.memory.images s.flow.reading.input move to s w.0 w.2 h.0, h.1)
worked_reads l c (act.Knows x cells) s w sound h = h
worked_reads l c (act.Stores m cells) s w sound h =
    same_images m.images s (slot_kept l s.board w.0 w.1 m sound w.2).images.0 h
worked_reads l c act.Compiles s w sound h = h
worked_reads l c (act.Prints text) s w sound h = h
worked_reads l c (act.Appends e cells) s w sound h =
    appended_reads (c.element e s.code).code (c.element e s.code).ended cells s h
worked_reads l c (act.Loads size m cells) s w sound h = ((ap length w.1 ∙ ap suc h.0.0, (inl refl, h.0.1)), h.1)
worked_reads l c (act.Reads text cells) s w sound h = ((h.0.0, (inl refl, h.0.1)), h.1)
worked_reads l c (act.Takes cells a) s w sound h = worked_reads l c a (with_stack cells s) w sound h
worked_reads l c (act.Guards cells a) s w sound h = worked_reads l c a (guarded cells s) w sound h
worked_reads l c (act.Enters cells d ih a) s w sound h = worked_reads l c a (entered cells d ih s) w.1 sound h
worked_reads l c (act.Opens x a) s w sound h =
    let kept = l.words.opened s.board w.1.0 w.1.1 w.1.2 w.1.3 x sound w.1.4 in
    worked_reads l c a (furnished x s) w.2 kept.sound (same_images x.1.images s kept.images.0 h)
worked_reads l c (act.Refuses t) s w sound h = h

-- ---- acts

either : {S : Type 0} (b : Bool) (x y : Outcome S) → Reads x.state → Reads y.state
    → Reads (if b then x else y).state
either true x y h k = h
either false x y h k = k

ended_reads : {S : Type 0} (c : Calls S) (s : State S) → Goes s → Reads (ended c s).state
ended_reads c s h =
    either (ends_inside s) _ _
    (given_up_reads c s (rests s h)) (source_reads s h)

acted_reads : {S : Type 0} (l : Laws) (c : Calls S) (a : Act) (s : State S)
    → IsAct (counting_rules S) (counting_turns S) s a → IsSound s.board.memory → Goes s
    → Reads (acted c a s).state
unfolding acted
acted_reads l c (act.Does a) s w sound h = rests (worked c a s).state (worked_reads l c a s w sound h)
acted_reads l c (act.Goes cells move n) s w sound h =
    let i = s.flow.reading.input in
    rests (read_at n (with_stack cells (with_items (doing.moved move s.flow.items) s))) (
      alike_kept s.board.memory.images (input_at n i) i (doing.moved move s.flow.items) (moved_input n i)
          (turned_kept s.board.memory.images i move s.flow.items w.2 h.0),
      h.1,
    )
acted_reads l c (act.Copies a n) s w sound h =
    rests (string_compiled c a n s).state
    (string_reads _ (append_copied s.board.memory a n []) s
    (read_aside s.board.memory (read_bytes s.board.memory a n)) h)
acted_reads l c (act.Makes d) s w sound h = rests (define_entry c d s).state (define_reads l c d s sound h)
acted_reads l c act.Closes s w sound h =
    rests (semicolon_entry c s.words.defining s).state
    (then_reads s.flow.home s.words.defining (definition_ended c s.words.defining s)
    (definition_reads c s.words.defining s h))
acted_reads l c act.Ends s w sound h = ended_reads c s h

-- ---- words of a text

named_images : (d : DefiningWord) (name : List ℕ) (x : Option Made) (w : WordsState) (cells : List Cell)
    (m : DataSpace) → (named_made d name (making w cells m) x).memory.images ≡ m.images
named_images d name None w cells m = refl
named_images d name (Some x) w cells m = refl

named_reads : {S : Type 0} (d : DefiningWord) (name : List ℕ) (f : Option Throw) (x : Option Made) (s : State S)
    → Goes s
    → Goes (by_making d (unless f (named_made d name (making s.words s.board.stack s.board.memory) x)) s).state
named_reads d name (Some t) x s h = h
named_reads d name None x s h =
    opened_reads (opens d) _
    (same_images _ s (named_images d name x s.words s.board.stack s.board.memory) h)

slot_named_reads : {S : Type 0} (l : Laws) (k : Slot) (name : List ℕ) (f : Option Throw) (home : Option Phandle)
    (x : Option SlotMade) (r : Result (ℕ × (InstanceTable × DataSpace)) InstanceFault) (s : State S)
    → slot_given home x (slot_making s.words s.board.stack s.board.memory s.board.instances) ≡ r
    → IsSound s.board.memory → Goes s
    → Goes
    (by_slot_making
    (unless f
    (slot_word_named k name x r (slot_making s.words s.board.stack s.board.memory s.board.instances)))
    s).state
slot_named_reads l k name (Some t) home x r s e sound h = h
slot_named_reads l k name None home x r s e sound h =
    same_images _ s
    (slot_named_kept l k name home x r
    (slot_making s.words s.board.stack s.board.memory s.board.instances) sound e).images.0
    h

word_named_reads : {S : Type 0} (l : Laws) (c : Calls S) (d : DefiningWord) (name : List ℕ) (o : Option Slot)
    (s : State S) → IsSound s.board.memory → Goes s → Goes (word_named_as c d name o s).state
word_named_reads l c d name None s sound h =
    let x = made_by d (c.ends_at s.code) (aligned s.board.memory.here) s.board.stack in
    named_reads d name (counting (naming_faults name (making s.words s.board.stack s.board.memory) x)) x s h
word_named_reads l c d name (Some k) s sound h =
    let g = slot_making s.words s.board.stack s.board.memory s.board.instances in
    let home = s.board.active.«package» in
    let x = slot_made k s.board.stack in
    slot_named_reads l k name (counting (slot_naming_faults name home x (slot_given home x g) g)) home x
    (slot_given home x g) s refl sound h

naming_reads : {S : Type 0} (l : Laws) (c : Calls S) (d : DefiningWord) (name : List ℕ) (s : State S)
    → IsSound s.board.memory → Goes s → Goes (naming_done c d name s).state
naming_reads l c d name s sound h =
    then_reads s.board.active.«package» (known_at_once d s.words.dictionary) (word_named c d name s)
    (word_named_reads l c d name (awaited d s.words) s sound h)

said_reads : {S : Type 0} (r : Result (ℕ × Board) Throw) (s : State S) → Stands s.board (by_string r s).state.board
    → Goes s → Goes (by_string r s).state
said_reads (Ok x) s stands h = same_images x.1.memory.images s stands.0.0 h
said_reads (Err t) s stands h = h

spelt_reads : {S : Type 0} (r : Result (S × DataSpace) Throw) (s : State S)
    → Stands s.board (by_spelling r s).state.board → Goes s → Goes (by_spelling r s).state
spelt_reads (Ok x) s stands h = same_images x.1.images s stands.0.0 h
spelt_reads (Err t) s stands h = h

text_reads : {S : Type 0} (l : Laws) (c : Calls S) (a : TextAct) (s : State S)
    → IsTextAct (counting_rules S) (counting_turns S) AreBytes s a → IsSound s.board.memory → Goes s
    → Reads (text_acted c a s).state
unfolding text_acted acted
text_reads l c (Acts a) s w sound h = acted_reads l c a s w sound h
text_reads l c (AppendsAll es cells) s w sound h =
    let a = all_appended c es s.code in
    rests (appended a cells s).state (appended_reads a.code a.ended cells s h)
text_reads l c (Names d name) s w sound h = rests (naming_done c d name s).state (naming_reads l c d name s sound h)
text_reads l c (Says bytes) s w sound h =
    rests (said bytes s).state
    (said_reads (string_said bytes s.flow.strings s.board) s (said_stands l bytes s sound w) h)
text_reads l c (Spells bytes es) s w sound h =
    rests (spelt c bytes es s).state
    (spelt_reads (string_spelt c bytes es s.board.memory s.code) s (spelt_stands l c bytes es s sound w.1) h)
text_reads l c Interprets s w sound h = rests (text_acted c Interprets s).state h
text_reads l c (Selects node) s w sound h = rests (text_acted c (Selects node) s).state h
text_reads l c (Sees xt) s w sound h = acted_reads l c (act.Does (act.Prints (seen c xt s))) s w sound h

word_done_reads : {S : Type 0} (l : Laws) (c : Calls S) (x : Found) (s : State S)
    → is_image s.flow.reading.input ≡ false → IsSaid x.word → HasSoundSpace s → Goes s → Reads (word_done c x s).state
word_done_reads {S} l c x s e said sound h =
    let on = read_from x.next s in
    let R = counting_rules S in
    text_reads l c (text_act x.word (front_of on)) on
    (text_acts R (counting_turns S) AreBytes x.word on tt
    (record {
      said = said;
      ends = λ z. tt;
      makes = tt;
      closes = λ z. tt;
      appends = λ z. tt;
      prints = tt;
      executes = all_executed R tt _ on tt tt (λ y z. tt);
      strings = λ n. strings_are s.flow.texts n sound.1;
      quotes = λ at. quotes_are s.flow.texts at sound.1;
    }))
    sound.0
    (alike_kept s.board.memory.images on.flow.reading.input s.flow.reading.input s.flow.items (sym e) h.0, h.1)

-- ---- what comes next

item_reads : {S : Type 0} (l : Laws) (c : Calls S) (x : Option (Item × Place)) (s : State S) → IsSound s.board.memory
    → Goes s → Reads (item_due c x s).state
item_reads l c None s sound h = rests s h
item_reads {S} l c (Some x) s sound h =
    let on = with_next (continuation.Code x.1.cell) s in
    let R = counting_rules S in
    acted_reads l c (item_act x.0 (front_of on)) on
    (item_acts R (counting_turns S) x.0 on (anywhere R (λ n y. tt) (target_of x.0) on) tt
    (all_executed R tt (plan_of_item x.0 (plan_in on)) on tt tt (λ y e. tt)))
    sound h

found_reads : {S : Type 0} (l : Laws) (c : Calls S) (x : Option (Token × ℕ)) (size : OffsetSize) (position : ℕ)
    (s : State S) → is_image s.flow.reading.input ≡ true → IsSound s.board.memory → Goes s
    → Reads (found_token c x size position s).state
found_reads l c None size position s e sound h = rests s h
found_reads {S} l c (Some x) size position s e sound h =
    let on = read_on (size_behind x.0.code.0 size) x.1 s in
    let here = spot_in s.board.memory position x.1 in
    let R = counting_rules S in
    let T = counting_turns S in
    acted_reads l c (act_of (typed_of x.0) here (front_of on)) on
    (typed_acts R T (typed_of x.0) here on tt
    (typed_may R T (word_numbered x.0.code.0) x.0.code x.0.argument on.flow.is_compiling on
    (record {
      positions = tt;
      ends = λ e. tt;
      makes = λ e. tt;
      closes = λ e z. tt;
      appends = λ e. tt;
      executes = all_executed R tt _ on tt tt (λ y e. tt);
    })))
    sound
    (alike_kept s.board.memory.images on.flow.reading.input s.flow.reading.input s.flow.items (sym e) h.0, h.1)

token_reads : {S : Type 0} (l : Laws) (c : Calls S) (i : Input) (s : State S) → s.flow.reading.input ≡ i
    → IsSound s.board.memory → Goes s → Reads (token_due c i s).state
token_reads l c (input.Image size position) s e sound h =
    found_reads l c (token_from (latest_image s.board.memory) position size) size position s (ap is_image e) sound h
token_reads l c (input.Text position) s e sound h = rests s h
token_reads l c input.Nothing s e sound h = rests s h

reading_reads : {S : Type 0} (l : Laws) (c : Calls S) (i : Input) (s : State S) → s.flow.reading.input ≡ i
    → HasSoundSpace s → Goes s → Reads (reading_due c i s).state
reading_reads l c (input.Image size position) s e sound h =
    token_reads l c (input.Image size position) s e sound.0 h
reading_reads l c (input.Text position) s e sound h =
    word_done_reads l c (said_at position s) s (ap is_image e) (word_said position s) sound h
reading_reads l c input.Nothing s e sound h = token_reads l c input.Nothing s e sound.0 h

pub due_reads : {S : Type 0} (l : Laws) (c : Calls S) (to : Continuation) (s : State S) → HasSoundSpace s → Goes s
    → Reads (due c to s).state
due_reads l c continuation.Source s sound h = reading_reads l c s.flow.reading.input s refl sound h
due_reads l c (continuation.Code n) s sound h = item_reads l c (c.fetch s.code (record { cell = n })) s sound.0 h
