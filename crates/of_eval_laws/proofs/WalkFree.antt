-- Rules that ask nothing of acts: those of a law are these, but for what it asks.
use Rattle.std.specs.Prelude.{ℕ, List, Option, Some, None}
use Rattle.of_cells.specs.declared.cells.Cell.{Cell}
use Rattle.of_code.specs.declared.item.Place.{Place}
use Rattle.of_stacks.specs.declared.return_item.Due.{Due}
use Rattle.of_stacks.specs.declared.return_item.Due.TheVariants as due
use Rattle.of_board.specs.Active.{no_self}
use Rattle.of_stacks.specs.declared.return_item.LoopParameters.{LoopParameters}
use Rattle.of_stacks.specs.declared.return_item.ReturnItem.TheVariants.{Loop}
use Rattle.of_memory.specs.DataSpace.{DataSpace}
use Rattle.of_ihandles.specs.Table.{InstanceTable}
use Rattle.of_eval.specs.Executing.{entered, furnished, guarded}
use Rattle.of_state.specs.State.{State, with_stack}
use Rattle.of_eval_laws.specs.Returning.{IsCall}
use Rattle.of_eval_laws.proofs.Walk.{IsPlace, Turns}
use Rattle.of_eval_laws.proofs.WalkWords.{IsOpening, Rules}

-- what is so of the state stays so while a word takes cells, is guarded, a method is called, or an instance is opened
abbrev pub Stays : {S : Type 0} → (State S → Type 0) → Type 0
Stays {S} Held =
    ((cells : List Cell) (d : Due) (ih : Cell) (s : State S) → IsCall d → Held s
    → Held (with_stack cells s) × Held (guarded cells s) × Held (entered cells d ih s))
    × ((x : InstanceTable × DataSpace) (s : State S) → IsOpening x s → Held s → Held (furnished x s))

-- this is so of the state, and nothing is asked of acts
abbrev pub keeping : (S : Type 0) (Held : State S → Type 0) → Stays Held → Rules S
keeping S Held stays = record {
  Held = Held;
  Runs = Unit {0};
  Asks = Unit {0};
  Works = λ w. Unit {0};
  Fails = λ t. Unit {0};
  Raises = λ t. Unit {0};
  Item = λ s i. Unit {0};
  Drops = λ s. Unit {0};
  Target = λ s to. Unit {0};
  Aims = λ s n. Unit {0};
  Known = λ s w. Unit {0};
  Appends = λ s. Unit {0};
  Loads = λ s m. Unit {0};
  Reads = λ s text. Unit {0};
  Opening = Unit {0};
  asks = λ r. tt;
  works = λ r w. tt;
  fails = λ t l. tt;
  faults = λ f. tt;
  user = λ x s p. tt;
  return = λ s p. tt;
  returns = λ to s p e. tt;
  begins = λ start xt s p e z. tt;
  aims = λ n s a. tt;
  stores = λ xt x s p e. tt;
  sets = λ x s p e. tt;
  waits = λ s p. tt;
  marks = λ w s p e. tt;
  announces = λ k name w s p e. tt;
  opens = λ r s p e. tt;
  loads = λ a n spread x s p shut e. tt;
  reads = λ r a n text s p shut e. tt;
  calls = λ k w t e. tt;
  may_open = λ r. tt;
  declines = λ w ph a n t e. tt;
  takes = λ cells s p. (stays.0 cells (due.Method no_self) no_self s tt p).0;
  guards = λ cells s p. (stays.0 cells (due.Method no_self) no_self s tt p).1;
  enters = λ cells d ih s k p. (stays.0 cells d ih s k p).2;
  furnishes = λ x s o p. stays.1 x s o p;
  drops_taken = λ cells s d. tt;
  drops_guarded = λ cells s p. tt;
  drops_entered = λ cells d ih s p. tt;
  drops_furnished = λ x s d. d;
}

-- where nothing is asked of what is dropped, of loops that are pushed and of where control goes on
abbrev pub free_turns :
    {S : Type 0} (R : Rules S) → ((s : State S) → R.Held s → R.Drops s)
    → ((l : LoopParameters) (s : State S) → R.Item s (Loop l))
    → ((n : ℕ) (s : State S) → R.Aims s n) → Turns R
free_turns R drop loop aims = record {
  Exit = λ s e. Unit {0};
  Positions = Unit {0};
  Ends = Unit {0};
  Makes = Unit {0};
  Closes = Unit {0};
  Stands = R.Held;
  held = λ s p. p;
  drop = drop;
  loop = λ l s x. loop l s;
  exit_on_top = λ l s p e. tt;
  exit_at = λ n s p. tt;
  exit_goes = λ n s x. aims n s;
  goes_exit = λ n s p x. tt;
}

-- nothing is asked of the state, either
abbrev pub free : (S : Type 0) → Rules S
free S = keeping S (λ s. Unit {0}) ((λ cells d ih s k p. (tt, tt, tt)), (λ x s o p. tt))

-- nor of the target of an item
pub anywhere : {S : Type 0} (R : Rules S) → ((n : ℕ) (s : State S) → R.Aims s n)
    → (to : Option Place) (s : State S) → IsPlace R s to
anywhere R h None s = tt
anywhere R h (Some to) s = h to.cell s
