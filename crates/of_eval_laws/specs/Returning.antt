-- Where control goes back to: while words, images and texts run that an image began, the return stack leads back to it
-- (IEEE 1275-1994, 5.2.2.5, 5.3.3.1; Forth 2012, 3.2.3.3, 9.6.1.0875).
use Rattle.std.specs.Prelude.{◌≡◌, ◌⊎◌, ℕ, Bool, true, false, ◌&&◌, is_some, List, [], ◌∷◌, length, Option}
use Rattle.std.specs.Prelude.{Some, None}
use Rattle.of_code.specs.declared.item.Item.{Item}
use Rattle.of_stacks.specs.declared.throws.Throw.{Throw}
use Rattle.of_stacks.specs.declared.return_item.Continuation.{Continuation}
use Rattle.of_stacks.specs.declared.return_item.Continuation.TheVariants as continuation
use Rattle.of_stacks.specs.declared.return_item.Due.{Due}
use Rattle.of_stacks.specs.declared.return_item.Due.TheVariants as caller
use Rattle.of_stacks.specs.declared.return_item.Input.{Input}
use Rattle.of_stacks.specs.declared.return_item.Input.TheVariants as input
use Rattle.of_stacks.specs.declared.return_item.LoopExit.{LoopExit}
use Rattle.of_stacks.specs.declared.return_item.LoopExit.TheVariants as exit
use Rattle.of_stacks.specs.declared.return_item.Reading.{Reading}
use Rattle.of_stacks.specs.declared.return_item.ReturnItem.{ReturnItem}
use Rattle.of_stacks.specs.declared.return_item.ReturnItem.TheVariants.{Return, Loop, User, Handler, Source, Caller}
use Rattle.of_stacks.specs.Unwinding.{latest_handler, latest_source}
use Rattle.of_stream.specs.Targets.{within_tokens}
use Rattle.of_cells.specs.declared.cells.Cell.{Cell}
use Rattle.of_memory.specs.DataSpace.{DataSpace}
use Rattle.of_ihandles.specs.Table.{InstanceTable}
use Rattle.of_nodes.specs.declared.phandles.Phandle.{Phandle}
use Rattle.of_flow.specs.declared.control_state.Flow.{Flow}
use Rattle.of_eval.specs.Doing.{executed}
use Rattle.of_state.specs.Loading.{image_begun}
use Rattle.of_state.specs.Settling.{settled}
use Rattle.of_state.specs.State.{Calls, State}
use Rattle.of_steps.specs.Steps.{item_done, stepped}

-- ---- where control is

abbrev pub is_code : Continuation → Bool
is_code continuation.Source = false
is_code (continuation.Code n) = true

abbrev pub is_read_on : Continuation → Bool
is_read_on continuation.Source = true
is_read_on (continuation.Code n) = false

abbrev pub is_return_top : List ReturnItem → Bool
is_return_top (Return to ∷ r) = true
is_return_top r = false

abbrev pub reads_nothing : Input → Bool
reads_nothing input.Nothing = true
reads_nothing (input.Text position) = false
reads_nothing (input.Image size position) = false

abbrev pub is_outermost : Option Reading → Bool
is_outermost None = false
is_outermost (Some r) = reads_nothing r.input

-- the outermost image is read, and none inside it
abbrev pub is_outer : List ReturnItem → Bool
is_outer items = is_outermost (latest_source items)

-- control is at the outermost image itself
abbrev pub is_back : {S : Type 0} → State S → Bool
is_back s = is_read_on s.flow.next && is_outer s.flow.items

-- an image or a text
abbrev pub IsSource : Input → Type 0
IsSource input.Nothing = ⊥
IsSource (input.Text position) = Unit {0}
IsSource (input.Image size position) = Unit {0}

-- one is read that began while no definition was open
abbrev pub IsRead : Reading → Type 0
IsRead r = IsSource r.input × (r.opened ≡ None)

-- ---- the return stack

-- what is due at the end of a method
abbrev pub IsCall : Due → Type 0
IsCall (caller.Method me) = Unit {0}
IsCall (caller.Close me instance) = Unit {0}
IsCall (caller.Open me instance) = Unit {0}
IsCall (caller.Load active me instance count) = ⊥

-- the loop is one of an image
abbrev pub IsPosition : LoopExit → Type 0
IsPosition (exit.Position e) = Unit {0}
IsPosition (exit.Code n) = ⊥

-- what stands beneath the outermost image: no `catch` waits, and no control goes on there
abbrev pub IsBase : List ReturnItem → Type 0
IsBase r = (latest_handler r ≡ None) × (is_return_top r ≡ false)

-- ---- loops

-- the position at which a loop of an image ends
abbrev pub end_in : LoopExit → ℕ
end_in (exit.Position e) = e
end_in (exit.Code n) = 0

-- where the loops end that stand above the latest source, the innermost first
abbrev pub loop_ends : List ReturnItem → List ℕ
loop_ends [] = []
loop_ends (Loop l ∷ r) = end_in l.exit ∷ loop_ends r
loop_ends (Source s ∷ r) = []
loop_ends (User x ∷ r) = loop_ends r
loop_ends (Return to ∷ r) = loop_ends r
loop_ends (Handler h ∷ r) = loop_ends r
loop_ends (Caller d ∷ r) = loop_ends r

-- some of these, in their order
abbrev pub AreAmong : List ℕ → List ℕ → Type 0
AreAmong [] ys = Unit {0}
AreAmong (x ∷ xs) [] = ⊥
AreAmong (x ∷ xs) (y ∷ ys) = ((x ≡ y) × AreAmong xs ys) ⊎ AreAmong (x ∷ xs) ys

module _ (image ends : List ℕ) (outer : Reading) where
  -- The loop ends at a token of the outermost image, which has these bytes; and it and those beneath it are among the
  -- loops of that image that end at these positions.
  abbrev pub IsInside : LoopExit → List ReturnItem → Type 0
  IsInside (exit.Position e) r =
      (within_tokens (length image) (Some e) ≡ Some e) × AreAmong (e ∷ loop_ends r) ends
  IsInside (exit.Code n) r = ⊥

  -- Control is in code or in what is read, and these items lead back to the outermost image, which is to be read on
  -- with `outer`. A handler or the caller of a method stands on top only where it is said where control goes on behind
  -- what is due, and that is behind the `catch`.
  abbrev pub LeadsBack : Reading → (code : Bool) → (behind_due : Option Continuation) → List ReturnItem → Type 0
  LeadsBack now code due [] = ⊥
  LeadsBack now code due (Loop l ∷ r) =
      (code ≡ false → IsPosition l.exit × (is_outer r ≡ true → IsInside l.exit r)) × LeadsBack now code None r
  LeadsBack now code due (User x ∷ r) = LeadsBack now code None r
  LeadsBack now code due (Return to ∷ r) = (code ≡ true) × LeadsBack now (is_code to) (Some to) r
  LeadsBack now code due (Handler h ∷ r) =
      (due ≡ Some h.resume) × (code ≡ is_code h.resume) × (is_outer r ≡ true → h.opened ≡ None)
      × LeadsBack now code due r
  LeadsBack now code due (Source s ∷ r) =
      (code ≡ false)
      × (((s.input ≡ input.Nothing) × (now ≡ outer) × IsBase r)
      ⊎ (IsRead s × (is_return_top r ≡ true) × LeadsBack s true None r))
  LeadsBack now code due (Caller d ∷ r) = IsCall d × (is_some due ≡ true) × LeadsBack now code due r

  -- an image or a text is read, and the items lead back, with what is due on top
  abbrev pub IsDue : Flow → Type 0
  IsDue f = IsRead f.reading × LeadsBack f.reading (is_code f.next) (Some f.next) f.items

  -- and once that is worked off
  abbrev pub IsNested : Flow → Type 0
  IsNested f = IsRead f.reading × LeadsBack f.reading (is_code f.next) None f.items

  -- no definition is open while the outermost image itself is read
  abbrev pub IsShut : {S : Type 0} → State S → Type 0
  IsShut s = is_outer s.flow.items ≡ true → s.words.defining ≡ None

  -- a state that leads back, with what is due on top, and once that is worked off
  abbrev pub Leads : {S : Type 0} → State S → Type 0
  Leads s = IsDue s.flow × IsShut s

  abbrev pub LeadsOn : {S : Type 0} → State S → Type 0
  LeadsOn s = IsNested s.flow × IsShut s

-- ---- the law

-- The return stack leads back to the outermost image, whatever runs inside it, over any code of definitions.
pub record StackLeadsBack (S : Type 0) : Type 0 where
  -- An image that begins where nothing is read and no definition is open is the outermost.
  pub begun :
      (image ends : List ℕ) (node : Phandle) (instance : Cell) (x : InstanceTable × DataSpace) (s : State S) →
      s.flow.reading.input ≡ input.Nothing → s.words.defining ≡ None →
      let b = image_begun image node instance x s in
      (is_back b ≡ true) × LeadsOn image ends b.flow.reading b
  -- What executing a word pushes leads back.
  pub words :
      (image ends : List ℕ) (outer : Reading) (c : Calls S) (xt : ℕ) (s : State S) → Leads image ends outer s →
      Leads image ends outer (executed c xt s).state
  -- So does what an item of a definition leaves.
  pub items :
      (image ends : List ℕ) (outer : Reading) (c : Calls S) (i : Item) (s : State S) → is_code s.flow.next ≡ true →
      LeadsOn image ends outer s → Leads image ends outer (item_done c i s).state
  -- What is due is worked off, and what is thrown is caught, so that the rest leads back, or nothing runs.
  pub settled :
      (image ends : List ℕ) (outer : Reading) (c : Calls S) (thrown : Option Throw) (s : State S)
      → Leads image ends outer s →
      (settled c s.flow.items thrown s).flow.is_running ≡ true →
      LeadsOn image ends outer (settled c s.flow.items thrown s)
  -- Each step keeps it while something runs, until control is back.
  pub step :
      (image ends : List ℕ) (outer : Reading) (c : Calls S) (s : State S) → s.flow.is_running ≡ true →
      is_back s ≡ false → LeadsOn image ends outer s → (stepped c s).flow.is_running ≡ true →
      LeadsOn image ends outer (stepped c s)
