-- Words that a text defines.
use Rattle.std.proofs.Common.{◌≡◌, ℕ, ◌<◌, ◌≤◌, Bool, true, false, List, Option, Some, None, Result, Ok, Err, length}
use Rattle.std.proofs.Common.{refl, ap, arith, OnOk}
use Rattle.of_stacks.specs.declared.stop.Stop.{Stop}
use Rattle.of_stacks.specs.declared.stop.Stop.TheVariants.{Thrown, NoMemory}
use Rattle.of_compile.specs.Coding.{Coding}
use Rattle.of_compile.specs.Defining.{opens}
use Rattle.of_compile.specs.declared.defining.DefiningWord.{DefiningWord}
use Rattle.of_compile.specs.declared.defining.DefiningWord.TheVariants as defining
use Rattle.of_nodes.specs.declared.phandles.Phandle.{Phandle}
use Rattle.of_eval.specs.Defining.{known_at_once}
use Rattle.of_eval.specs.Methods.{then_known}
use Rattle.of_eval.specs.Naming.{naming_done, word_named}
use Rattle.of_state.specs.State.{Ends, Outcome, State, flat_calls}

-- one that opens a definition makes nothing known
pub opens_later : (d : DefiningWord) (name : List ℕ) (s : State Coding) → d ≡ defining.Colon
    → naming_done flat_calls d name s ≡ word_named flat_calls d name s
opens_later d name s e = rw e refl

-- any other makes the next word known
pub known_next : (d : DefiningWord) (name : List ℕ) (s : State Coding) → opens d ≡ false
    → naming_done flat_calls d name s
    ≡ then_known s.board.active.«package» (Some (length s.words.dictionary)) (word_named flat_calls d name s)
known_next d name s e =
    let at : known_at_once d s.words.dictionary ≡ Some (length s.words.dictionary) = rw e refl in
    ap (λ o. then_known s.board.active.«package» o (word_named flat_calls d name s)) at

-- where no word was made none is known
pub refused_known : (b : Bool) (home : Option Phandle) (o : Option ℕ) (a : Outcome Coding) (old new : State Coding)
    (r : Result (Unit {0}) Stop) → OnOk r ⊥ → Ends b a old new r → Ends b (then_known home o a) old new r
refused_known b home None a old new r never h = h
refused_known b home (Some n) a old new (Ok x) never h = absurd never
refused_known b home (Some n) a old new (Err (Thrown t)) never h = ap (then_known home (Some n)) h
refused_known b home (Some n) a old new (Err NoMemory) never h = h

-- what is made only where no definition is open, or where there is room
pub not_open : (b : Bool) (r : Result (Unit {0}) Stop) → b ≡ false → OnOk r (b ≡ true) → OnOk r ⊥
not_open true r e h = absurd cc
not_open false (Ok x) e h = cc
not_open false (Err stop) e h = tt

pub not_full : (n m : ℕ) (r : Result (Unit {0}) Stop) → m ≤ n → OnOk r (n < m) → OnOk r ⊥
not_full n m (Ok x) e h = omega (arith, e, h)
not_full n m (Err stop) e h = tt
