-- Which acts of a source's words leave where control is, and no definition open.
use Rattle.std.proofs.Common.{◌≡◌, ℕ, Bool, true, false, List, [], ◌∷◌, Option, Some, None, Result, Ok, Err, refl, sym}
use Rattle.std.proofs.Common.{ap}
use Rattle.std.proofs.Common.{◌∙◌, length}
use Rattle.of_cells.specs.declared.cells.Cell.{Cell}
use Rattle.of_stacks.specs.declared.throws.Throw.{Throw}
use Rattle.of_stacks.specs.Order.{unless}
use Rattle.of_fcodes.specs.declared.codes.FCode.{FCode}
use Rattle.of_fcodes.specs.declared.token_table.TokenEntry.{TokenEntry}
use Rattle.of_memory.specs.DataSpace.{DataSpace}
use Rattle.of_nodes.specs.declared.phandles.Phandle.{Phandle}
use Rattle.of_nodes.specs.declared.tree.Node.{Node}
use Rattle.of_dict.specs.declared.word.Kind.{Kind}
use Rattle.of_dict.specs.declared.word.Slot.{Slot}
use Rattle.of_ihandles.specs.Table.{InstanceTable}
use Rattle.of_ihandles.specs.declared.instance_fault.InstanceFault.{InstanceFault}
use Rattle.of_compile.specs.declared.defining.DefiningWord.{DefiningWord}
use Rattle.of_compile.specs.declared.words.Pending.{Pending}
use Rattle.of_compile.specs.Defining.{Made, Making, making, opened_in, opens, word_made}
use Rattle.of_compile.specs.DictionaryWords.{stored_kind, with_kind, with_stored, kind_at, store_entry}
use Rattle.of_compile.specs.SlotWords.{SlotMade, SlotMaking, awaited, slot_given, slot_made}
use Rattle.of_compile.specs.SlotWords.{slot_making, slot_word_made}
use Rattle.of_compile.specs.Words.{WordsState, numbered, own_number}
use Rattle.of_own.specs.Stores.{in_slot, in_word, into_slot, slot_written, stored_by, stored_slot}
use Rattle.of_board.specs.declared.board.Board.{Board}
use Rattle.of_eval.specs.Acts.{keeping, knowing_under, leaving, front_of}
use Rattle.of_eval.specs.Defining.{by_making, by_slot_making, define_entry, known_at_once, opened, word_defined}
use Rattle.of_eval.specs.Defining.{word_made_as}
use Rattle.of_eval.specs.Doing.{worked}
use Rattle.of_eval.specs.Methods.{as_method, known_if, method_made, then_known, xt_cell}
use Rattle.of_dict.specs.Words.{name_in, word_at}
use Rattle.of_eval.specs.Tokens.{storing}
use Rattle.of_state.specs.State.{Calls, Outcome, State}

-- control is where it was, and what is defined is what was
abbrev pub Quiet : {S : Type 0} → State S → State S → Type 0
Quiet u v = (v.flow ≡ u.flow) × (v.words.defining ≡ u.words.defining)

kind_keeps : (o : Option ℕ) (k : Kind) (w : WordsState) → (with_kind o k w).defining ≡ w.defining
kind_keeps None k w = refl
kind_keeps (Some n) k w = refl

module _ {S : Type 0} (c : Calls S) where
  pub leaving_quiet : (r : Result (List Cell) Throw) (u : State S) → Quiet u (worked c (leaving r) u).state
  unfolding worked
  leaving_quiet (Ok cells) u = (refl, refl)
  leaving_quiet (Err t) u = (refl, refl)

  numbered_by : (o : Option Throw) (p : Pending) (cells : List Cell) (u : State S)
      → Quiet u (worked c (knowing_under (unless o (record u.words { pending = Some p })) cells) u).state
  unfolding worked
  numbered_by None p cells u = (refl, refl)
  numbered_by (Some t) p cells u = (refl, refl)

  pub numbered_quiet : (k : FCode) (name : Option (List ℕ)) (cells : List Cell) (u : State S)
      → Quiet u (worked c (knowing_under (numbered k name u.words) cells) u).state
  numbered_quiet k name cells u = numbered_by _ (record { code = k; name = name }) cells u

  -- ---- `b(to)`

  kind_quiet : (xt : ℕ) (r : Result Kind Throw) (cells : List Cell) (u : State S)
      → Quiet u (worked c (keeping (in_word (with_stored xt r u.words cells))) u).state
  unfolding worked
  kind_quiet xt (Ok k) cells u = (refl, kind_keeps (own_number xt) k u.words)
  kind_quiet xt (Err t) cells u = (refl, refl)

  word_quiet : (xt : ℕ) (cells : List Cell) (u : State S)
      → Quiet u (worked c (keeping (in_word (store_entry xt u.words cells))) u).state
  unfolding worked
  word_quiet xt [] u = (refl, refl)
  word_quiet xt (x ∷ cells) u = kind_quiet xt (stored_kind (kind_at u.words xt) x) cells u

  space_quiet : (r : Result DataSpace Throw) (cells : List Cell) (u : State S)
      → Quiet u (worked c (keeping (in_slot cells r)) u).state
  unfolding worked
  space_quiet (Ok m) cells u = (refl, refl)
  space_quiet (Err t) cells u = (refl, refl)

  slot_quiet : (n : ℕ) (b : Board) (cells : List Cell) (u : State S)
      → Quiet u (worked c (keeping (into_slot n b cells)) u).state
  unfolding worked
  slot_quiet n b [] u = (refl, refl)
  slot_quiet n b (x ∷ cells) u = space_quiet (slot_written b n x) cells u

  stored_quiet : (o : Option ℕ) (xt : ℕ) (u : State S)
      → Quiet u (worked c (keeping (stored_by o xt u.words u.board)) u).state
  stored_quiet None xt u = word_quiet xt u.board.stack u
  stored_quiet (Some n) xt u = slot_quiet n u.board u.board.stack u

  pub storing_quiet : (o : Option TokenEntry) (cells : List Cell) (u : State S)
      → Quiet u (worked c (storing o cells (front_of u)) u).state
  unfolding worked
  storing_quiet None [] u = (refl, refl)
  storing_quiet None (x ∷ cells) u = (refl, refl)
  storing_quiet (Some e) cells u = stored_quiet (stored_slot (kind_at u.words e.xt)) e.xt u

  -- ---- defining words

  making_keeps : (d : DefiningWord) (b : Bool) → opens d ≡ b → b ≡ false → (g : Making) (p : Option Pending)
      (x : Option Made) → g.words.defining ≡ None → (word_made d g p x).words.defining ≡ None
  making_keeps d b e f g None None h = h
  making_keeps d b e f g None (Some x) h = h
  making_keeps d b e f g (Some p) None h = h
  making_keeps d b e f g (Some p) (Some x) h = ap (λ v. opened_in v (length g.words.dictionary)) (e ∙ f)

  opened_quiet : (b : Bool) (s : State S) → b ≡ false → opened b s ≡ s
  opened_quiet true s e = absurd (no e)
    where
      no : true ≡ false → ⊥
      no h = cc
  opened_quiet false s e = refl

  by_making_quiet : (d : DefiningWord) (o : Option Throw) (g : Making) (u : State S) → opens d ≡ false
      → u.words.defining ≡ None → g.words.defining ≡ None → Quiet u (by_making d (unless o g) u).state
  by_making_quiet d None g u e shut h =
      let v = record u { words = g.words; board = record u.board { stack = g.stack; memory = g.memory } } in (
        ap (λ (s : State S). s.flow) (opened_quiet (opens d) v e),
        ap (λ (s : State S). s.words.defining) (opened_quiet (opens d) v e) ∙ h ∙ sym shut,
      )
  by_making_quiet d (Some t) g u e shut h = (refl, refl)

  slot_keeps : (k : Slot) (p : Option Pending) (x : Option SlotMade)
      (r : Result (ℕ × (InstanceTable × DataSpace)) InstanceFault) (g : SlotMaking) → g.words.defining ≡ None
      → (slot_word_made k p x r g).words.defining ≡ None
  slot_keeps k None x r g h = h
  slot_keeps k (Some p) None r g h = h
  slot_keeps k (Some p) (Some x) (Ok r) g h = refl
  slot_keeps k (Some p) (Some x) (Err t) g h = h

  by_slot_quiet : (o : Option Throw) (g : SlotMaking) (u : State S) → u.words.defining ≡ None
      → g.words.defining ≡ None → Quiet u (by_slot_making (unless o g) u).state
  by_slot_quiet None g u shut h = (refl, h ∙ sym shut)
  by_slot_quiet (Some t) g u shut h = (refl, refl)

  made_quiet : (d : DefiningWord) (o : Option Slot) (u : State S) → opens d ≡ false → u.words.defining ≡ None
      → Quiet u (word_made_as c d o u).state
  made_quiet d None u e shut =
      let g = making u.words u.board.stack u.board.memory in
      by_making_quiet d _ _ u e shut (making_keeps d (opens d) refl e g u.words.pending _ shut)
  made_quiet d (Some k) u e shut =
      let g = slot_making u.words u.board.stack u.board.memory u.board.instances in
      let x = slot_made k u.board.stack in
      by_slot_quiet _ _ u shut (slot_keeps k u.words.pending x (slot_given u.board.active.«package» x g) g shut)

  method_quiet : (o : Option (List Node)) (n : ℕ) (u : State S) → Quiet u (as_method o n u)
  method_quiet (Some nodes) n u = (refl, refl)
  method_quiet None n u = (refl, refl)

  pub known_quiet : (e : Result (Unit {0}) Throw) (home : Option Phandle) (n : ℕ) (u : State S)
      → Quiet u (known_if e home n u)
  known_quiet (Ok x) home n u =
      method_quiet (method_made home (name_in (word_at u.words.dictionary n)) (xt_cell n) u.board.tree) n u
  known_quiet (Err t) home n u = (refl, refl)

  then_quiet : (home : Option Phandle) (o : Option ℕ) (a : Outcome S) (u : State S) → Quiet u a.state
      → Quiet u (then_known home o a).state
  then_quiet home None a u h = h
  then_quiet home (Some n) a u h =
      let k = known_quiet a.ended home n a.state in (k.0 ∙ h.0, k.1 ∙ h.1)

  -- a defining word that opens no definition
  pub define_quiet : (d : DefiningWord) (u : State S) → opens d ≡ false → u.words.defining ≡ None
      → Quiet u (define_entry c d u).state
  define_quiet d u e shut =
      then_quiet u.board.active.«package» (known_at_once d u.words.dictionary) (word_defined c d u) u
      (made_quiet d (awaited d u.words) u e shut)
