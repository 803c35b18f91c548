-- The law `names_stay_home`.
use Rattle.std.proofs.Common.{◌≡◌, ℕ, Bool, true, false, Option, Some, None, List, Result, Ok, Err, refl, ap}
use Rattle.std.proofs.Common.{if◌then◌else◌}
use Rattle.of_stacks.specs.declared.throws.Throw.{Throw}
use Rattle.of_nodes.specs.declared.phandles.Phandle.{Phandle}
use Rattle.of_nodes.specs.declared.tree.Node.{Node}
use Rattle.of_dict.specs.Words.{name_in, word_at, xt_of}
use Rattle.of_compile.specs.declared.defining.DefiningWord.TheVariants as defining
use Rattle.of_compile.specs.Defining.{Making, defining_entry, making, naming_entry}
use Rattle.of_eval.specs.Defining.{by_making, closed_if, semicolon_entry, word_made_as}
use Rattle.of_eval.specs.Methods.{as_method, known, known_if, method_made, xt_cell}
use Rattle.of_eval.specs.Naming.{word_named_as}
use Rattle.of_state.specs.State.{Calls, State}
use Rattle.of_eval_laws.specs.Homes.{NamesStayHome, with_package}

made_home : {S : Type 0} (r : Result Making Throw) (s : State S) → (by_making defining.Colon r s).ended ≡ Ok tt
    → (by_making defining.Colon r s).state.flow.home ≡ s.board.active.«package»
made_home (Ok g) s e = refl
made_home (Err t) s e = absurd cc

word_home : {S : Type 0} (b : Bool) (c : Calls S) (s : State S)
    → (word_made_as c defining.Colon (if b then None else None) s).ended ≡ Ok tt
    → (word_made_as c defining.Colon (if b then None else None) s).state.flow.home ≡ s.board.active.«package»
word_home true c s e =
    made_home (defining_entry defining.Colon (c.ends_at s.code) (making s.words s.board.stack s.board.memory)) s e
word_home false c s e =
    made_home (defining_entry defining.Colon (c.ends_at s.code) (making s.words s.board.stack s.board.memory)) s e

named_home : {S : Type 0} (b : Bool) (c : Calls S) (name : List ℕ) (s : State S)
    → (word_named_as c defining.Colon name (if b then None else None) s).ended ≡ Ok tt
    → (word_named_as c defining.Colon name (if b then None else None) s).state.flow.home ≡ s.board.active.«package»
named_home true c name s e =
    made_home (naming_entry defining.Colon name (c.ends_at s.code) (making s.words s.board.stack s.board.memory)) s e
named_home false c name s e =
    made_home (naming_entry defining.Colon name (c.ends_at s.code) (making s.words s.board.stack s.board.memory)) s e

-- two states with the same words and nodes have the same when a word becomes a method
method_same : {S : Type 0} (o : Option (List Node)) (n : ℕ) (other : Option Phandle) (s : State S)
    → as_method o n (with_package other s) ≡ with_package other (as_method o n s)
method_same (Some nodes) n other s = refl
method_same None n other s = refl

known_same : {S : Type 0} (home : Option Phandle) (n : ℕ) (other : Option Phandle) (s : State S)
    → known home n (with_package other s) ≡ with_package other (known home n s)
known_same home n other s =
    method_same (method_made home (name_in (word_at s.words.dictionary n)) (xt_cell n) s.board.tree) n other s

ended_same : {S : Type 0} (ended : Result (Unit {0}) Throw) (code : S) (home : Option Phandle) (n : ℕ)
    (other : Option Phandle) (s : State S)
    → known_if ended home n (record (closed_if ended (with_package other s)) { code = code })
    ≡ with_package other (known_if ended home n (record (closed_if ended s) { code = code }))
ended_same (Ok x) code home n other s =
    known_same home n other (record (closed_if (Ok x) s) { code = code })
ended_same (Err t) code home n other s = refl

semicolon_same : {S : Type 0} (c : Calls S) (o : Option ℕ) (other : Option Phandle) (s : State S)
    → (semicolon_entry c o (with_package other s)).state ≡ with_package other (semicolon_entry c o s).state
semicolon_same c None other s = refl
semicolon_same c (Some n) other s =
    let a = c.semicolon (record { 0 = xt_of n }) s.code in ended_same a.ended a.code s.flow.home n other s

ends_same : {S : Type 0} (c : Calls S) (o : Option ℕ) (other : Option Phandle) (s : State S)
    → (semicolon_entry c o (with_package other s)).ended ≡ (semicolon_entry c o s).ended
ends_same c None other s = refl
ends_same c (Some n) other s = refl

pub names_stay_home : {S : Type 0} → NamesStayHome S
names_stay_home = record {
  kept = λ c s e. word_home s.words.waiting c s e;
  kept_named = λ c name s e. named_home s.words.waiting c name s e;
  anywhere = λ c o other s.
      let same = semicolon_same c o other s in (
        ends_same c o other s,
        ap (λ t. t.board.tree) same,
        ap (λ t. t.words) same,
        ap (λ t. t.code) same,
      );
}
