-- The images that run are a stack, and each has the bytes that it had while it runs (IEEE 1275-1994, 5.2.2, 5.2.2.5).
use Rattle.std.specs.Prelude.{◌≡◌, ◌⊎◌, ℕ, ◌-◌, Bool, true, false, List, [], ◌∷◌, ◌++◌, drop, Option, Some, None}
use Rattle.std.specs.Prelude.{Result, Ok}
use Rattle.std.specs.Prelude.{Err}
use Rattle.of_cells.specs.declared.cells.Cell.{Cell}
use Rattle.of_stacks.specs.declared.throws.Throw.{Throw}
use Rattle.of_stacks.specs.declared.return_item.Continuation.{Continuation}
use Rattle.of_stacks.specs.declared.return_item.Continuation.TheVariants as continuation
use Rattle.of_stacks.specs.declared.return_item.Input.{Input}
use Rattle.of_stacks.specs.declared.return_item.Input.TheVariants as input
use Rattle.of_stacks.specs.declared.return_item.Due.TheVariants as due
use Rattle.of_stacks.specs.declared.return_item.ReturnItem.{ReturnItem}
use Rattle.of_stacks.specs.declared.return_item.ReturnItem.TheVariants.{Return, Loop, User, Handler, Source, Caller}
use Rattle.of_fcodes.specs.Lookup.{word_numbered}
use Rattle.of_stream.specs.Decoding.{Token, token_from}
use Rattle.of_memory.specs.DataSpace.{DataSpace, IsSound, bytes_from, free_after}
use Rattle.of_memory.specs.Images.{latest_image}
use Rattle.of_nodes.specs.declared.phandles.Phandle.{Phandle}
use Rattle.of_board.specs.declared.board.Board.{Board}
use Rattle.of_state.specs.State.{Calls, State}
use Rattle.of_state.specs.Settling.{is_empty, settled}
use Rattle.of_steps.specs.Steps.{due as due_next, stepped, steps_from}
use Rattle.of_state.specs.Loading.{begun, load_fault}
use Rattle.of_eval_laws.specs.Frames.{ends_image}
use Rattle.of_eval_laws.specs.Sound.{HasSoundSpace}
use Rattle.of_eval_laws.specs.Throws.{images_ended, left_through}

-- an image that runs: where it begins, and its bytes
pub record RunningImage : Type 0 where
  pub begin : ℕ
  pub bytes : List ℕ

-- the image from one address to another
abbrev pub image_from : DataSpace → ℕ → ℕ → RunningImage
image_from m begin end = record { begin = begin; bytes = bytes_from m begin (end - begin) }

-- the images that end at these addresses, the latest first; each begins where the one before it ends
abbrev pub images_to : DataSpace → List ℕ → List RunningImage
images_to m [] = []
images_to m (end ∷ ends) = image_from m (free_after ends) end ∷ images_to m ends

-- the images that run, the latest first
abbrev pub running : DataSpace → List RunningImage
running m = images_to m m.images

-- ---- what comes next

-- whether a token that was found ends its image
abbrev pub token_ends : Option (Token × ℕ) → Bool
token_ends None = false
token_ends (Some x) = ends_image (word_numbered x.0.code.0)

-- whether the token at which the reading stands does
abbrev pub reading_ends : DataSpace → Input → Bool
reading_ends m (input.Image size position) = token_ends (token_from (latest_image m) position size)
reading_ends m (input.Text position) = false
reading_ends m input.Nothing = false

-- whether what comes next is the end of an image
abbrev pub is_at_end : {S : Type 0} → Continuation → State S → Bool
is_at_end continuation.Source s = reading_ends s.board.memory s.flow.reading.input
is_at_end (continuation.Code n) s = false

-- ---- what becomes of the images

-- the same images run, each as it was
abbrev pub AllRun : DataSpace → DataSpace → Type 0
AllRun m after = running after ≡ running m

-- so many of the latest have ended, and the others run, each as it was
abbrev pub LatestEnd : ℕ → DataSpace → DataSpace → Type 0
LatestEnd n m after = running after ≡ drop n (running m)

-- some of the latest have ended
abbrev pub SomeEnd : DataSpace → DataSpace → Type 0
SomeEnd m after = (n : ℕ) × LatestEnd n m after

-- one more runs, and the others, each as it was
abbrev pub OneBegins : DataSpace → DataSpace → Type 0
OneBegins m after = (image : RunningImage) × (running after ≡ image ∷ running m)

-- the same run, or one more, and the others as they were
abbrev pub GoOn : DataSpace → DataSpace → Type 0
GoOn m after = AllRun m after ⊎ OneBegins m after

-- some of the latest have ended, others have begun on those that were left, and these run, each as it was
abbrev pub OthersRun : DataSpace → DataSpace → Type 0
OthersRun m after =
    (ended : ℕ) × (begun : List RunningImage) × (running after ≡ begun ++ drop ended (running m))

-- what is left where nothing was thrown: at the end of an image the latest may have ended
abbrev pub WorkLeaves : Bool → DataSpace → DataSpace → Type 0
WorkLeaves false m after = GoOn m after
WorkLeaves true m after = LatestEnd 1 m after ⊎ GoOn m after

-- and where something was thrown: none began or ended, and none was written into
abbrev pub DueLeaves : Bool → DataSpace → DataSpace → Result (Unit {0}) Throw → Type 0
DueLeaves at_end m after (Ok x) = WorkLeaves at_end m after
DueLeaves at_end m after (Err t) = AllRun m after

-- whether an `open` has ended, which is due first, that has left no answer: for that something is thrown
abbrev pub throws_late : List ReturnItem → List Cell → Bool
throws_late [] cells = false
throws_late (Caller (due.Open me instance) ∷ r) cells = is_empty cells
throws_late (Caller (due.Method me) ∷ r) cells = throws_late r cells
throws_late (Caller (due.Close me instance) ∷ r) cells = throws_late r cells
throws_late (Caller (due.Load active me instance count) ∷ r) cells = throws_late r cells
throws_late (Handler h ∷ r) cells = false
throws_late (Source x ∷ r) cells = false
throws_late (Return to ∷ r) cells = false
throws_late (Loop l ∷ r) cells = false
throws_late (User x ∷ r) cells = false

-- what is worked off at the end of a step ends none, unless that throws; a throw may end some
abbrev pub EndLeaves : (late : Bool) → DataSpace → DataSpace → Option Throw → Type 0
EndLeaves late m after None = (late ≡ false → AllRun m after) × SomeEnd m after
EndLeaves late m after (Some t) = SomeEnd m after

-- ---- the law

-- What becomes of the images that run, over any code of definitions.
pub record ImagesRun (S : Type 0) : Type 0 where
  -- An image that begins runs on top of the others, behind them, with its own bytes.
  pub begun :
      (image : List ℕ) (node : Phandle) (s : State S) → IsSound s.board.memory → load_fault image node s ≡ None →
      running (begun image node s).board.memory
      ≡ record { begin = free_after s.board.memory.images; bytes = image } ∷ running s.board.memory
  -- Of the images that a throw gives back the latest end, as many as it gives back.
  pub given_back :
      (now : Input) (items : List ReturnItem) (b : Board) → IsSound b.memory →
      LatestEnd (images_ended now items) b.memory (left_through now items b).memory
  -- What a token, a word of a text or an item does leaves the images as they were; it may begin one, and at the end of
  -- an image it ends the latest.
  pub done :
      (c : Calls S) (s : State S) → HasSoundSpace s →
      let o = due_next c s.flow.next s in
      DueLeaves (is_at_end s.flow.next s) s.board.memory o.state.board.memory o.ended
  -- The end of a step leaves them as they were, but for those that a throw ends.
  pub settled :
      (c : Calls S) (items : List ReturnItem) (thrown : Option Throw) (s : State S) → IsSound s.board.memory →
      EndLeaves (throws_late items s.board.stack) s.board.memory (settled c items thrown s).board.memory thrown
  -- In a step that isn't the end of an image and throws nothing, at its end either, they go on.
  pub go_on :
      (c : Calls S) (s : State S) → HasSoundSpace s →
      is_at_end s.flow.next s ≡ false →
      let o = due_next c s.flow.next s in
      o.ended ≡ Ok tt → throws_late o.state.flow.items o.state.board.stack ≡ false →
      GoOn s.board.memory (stepped c s).board.memory
  -- In each step they go on, or some of the latest end: an image that still runs has the bytes that it had.
  pub step :
      (c : Calls S) (s : State S) → HasSoundSpace s →
      SomeEnd s.board.memory (stepped c s).board.memory ⊎ GoOn s.board.memory (stepped c s).board.memory
  -- So it is over any number of steps.
  pub steps :
      (c : Calls S) (n : ℕ) (s after : State S) → HasSoundSpace s → steps_from c n s ≡ Some after →
      OthersRun s.board.memory after.board.memory
