-- Words that become methods: what adding a method first comes to.
use Rattle.std.proofs.Common.{◌≡◌, ℕ, Bool, true, false, List, Option, Some, None, Result, Ok, Err, is_some, length}
use Rattle.std.proofs.Common.{refl, sym, ap, subst, ◌∙◌, ◌⊎◌, inl, inr, IfSome, OnOk}
use Rattle.std.specs.Option.{option_map}
use Rattle.of_cells.specs.declared.cells.Cell.{Cell}
use Rattle.of_stacks.specs.declared.throws.Throw.{Throw}
use Rattle.of_stacks.specs.declared.stop.Stop.{Stop}
use Rattle.of_stacks.specs.declared.stop.Stop.TheVariants.{Thrown, NoMemory}
use Rattle.of_dict.specs.declared.word.Word.{Word}
use Rattle.of_dict.specs.Words.{name_in, word_at}
use Rattle.of_compile.specs.Coding.{Coding}
use Rattle.of_compile.specs.Defining.{opens}
use Rattle.of_compile.specs.Words.{named_at, named_open}
use Rattle.of_compile.specs.declared.defining.DefiningWord.{DefiningWord}
use Rattle.of_compile.specs.declared.defining.DefiningWord.TheVariants as defining
use Rattle.of_nodes.specs.declared.tree.Node.{Node}
use Rattle.of_nodes.specs.declared.phandles.Phandle.{Phandle}
use Rattle.of_eval.specs.declared.methods.Former.{Former}
use Rattle.of_eval.specs.Methods.{MayMake, as_method, hidden_if, known, method_made, then_known, with_tree, xt_cell}
use Rattle.of_state.specs.State.{Ends, Outcome, State, done, failed, flat_calls}
use Rattle.of_eval.specs.Defining.{define_entry, known_at_once, word_defined}

-- ---- a word without a name, or with one

unnamed : (home : Option Phandle) (name : Option (List ℕ)) (xt : Cell) (nodes : List Node) → name ≡ None
    → method_made home name xt nodes ≡ None
unnamed None name xt nodes e = refl
unnamed (Some node) None xt nodes e = refl
unnamed (Some node) (Some name) xt nodes e = absurd cc

pub known_nothing : {S : Type 0} (home : Option Phandle) (n : ℕ) (s : State S)
    → name_in (word_at s.words.dictionary n) ≡ None → known home n s ≡ s
known_nothing home n s e =
    ap (λ x. as_method x n s) (unnamed home (name_in (word_at s.words.dictionary n)) (xt_cell n) s.board.tree e)

-- the method was made before the word was
method_first : {S : Type 0} (home : Option Phandle) (n : ℕ) (old new : State S) (former : Option Former)
    (name : List ℕ)
    → MayMake home name (xt_cell n) former old.board.tree new.board.tree
    → as_method (method_made home (Some name) (xt_cell n) old.board.tree) n (with_tree old.board.tree new)
    ≡ hidden_if (is_some former) n new
method_first home n old new None name h =
    ap (λ x. as_method x n (with_tree old.board.tree new)) h.0 ∙ ap (λ t. with_tree t new) (sym h.1)
method_first home n old new (Some f) name h = ap (λ x. as_method x n (with_tree old.board.tree new)) h.0

pub known_done : {S : Type 0} (home : Option Phandle) (n : ℕ) (old new : State S) (former : Option Former)
    (name : List ℕ)
    → MayMake home name (xt_cell n) former old.board.tree new.board.tree
    → name_in (word_at new.words.dictionary n) ≡ Some name
    → known home n (with_tree old.board.tree new) ≡ hidden_if (is_some former) n new
known_done home n old new former name h e =
    ap (λ (x : Option (List ℕ)). as_method (method_made home x (xt_cell n) old.board.tree) n
    (with_tree old.board.tree new)) e
    ∙ method_first home n old new former name h

-- ---- the number and the name of a word

abbrev numbered : ℕ → Option (List ℕ) → Option (ℕ × List ℕ)
numbered n x = option_map (λ name. (n, name)) x

pub no_name : (n : ℕ) (x : Option (List ℕ)) → None ≡ numbered n x → x ≡ None
no_name n None e = refl
no_name n (Some name) e = absurd cc

number_in : Option (ℕ × List ℕ) → ℕ
number_in None = 0
number_in (Some x) = x.0

name_of : Option (ℕ × List ℕ) → Option (List ℕ)
name_of None = None
name_of (Some x) = Some x.1

pub its_name : (n m : ℕ) (name : List ℕ) (x : Option (List ℕ)) → numbered m (Some name) ≡ numbered n x
    → (m ≡ n) × (x ≡ Some name)
unfolding number_in name_of
its_name n m name None e = absurd cc
its_name n m name (Some text) e = (ap number_in e, sym (ap name_of e))

pub same_names : (n m : ℕ) (name text : List ℕ) → numbered m (Some text) ≡ numbered n (Some name) → text ≡ name
unfolding name_of
same_names n m name text e = let same : Some text ≡ Some name = ap name_of e in cc

-- ---- a defining word

-- one that opens a definition makes nothing known
pub opens_later : (d : DefiningWord) (s : State Coding) → d ≡ defining.Colon
    → define_entry flat_calls d s ≡ word_defined flat_calls d s
opens_later d s e = rw e refl

-- a word without a name is no method
pub nameless_known : (home : Option Phandle) (o : Option ℕ) (n : ℕ) (a : Outcome Coding) (old new : State Coding)
    (r : Result (Unit {0}) Stop)
    → (o ≡ None) ⊎ (o ≡ Some n) → OnOk r (None ≡ named_at new.words.dictionary n)
    → Ends true a old new r → Ends true (then_known home o a) old new r
nameless_known home None n a old new r e h k = k
nameless_known home (Some m) n a old new (Ok x) (inl e) h k = absurd cc
nameless_known home (Some m) n a old new (Ok x) (inr e) h k =
    let same : m ≡ n = cc in
    ap (then_known home (Some m)) k
    ∙ ap done (known_nothing home m new (no_name m (name_in (word_at new.words.dictionary m)) (rw same h)))
nameless_known home (Some m) n a old new (Err (Thrown t)) e h k = ap (then_known home (Some m)) k
nameless_known home (Some m) n a old new (Err NoMemory) e h k = k

pub known_other : (d : DefiningWord) (s : State Coding) → opens d ≡ false
    → define_entry flat_calls d s
    ≡ then_known s.board.active.«package» (Some (length s.words.dictionary)) (word_defined flat_calls d s)
known_other d s e =
    let at : known_at_once d s.words.dictionary ≡ Some (length s.words.dictionary) = rw e refl in
    ap (λ o. then_known s.board.active.«package» o (word_defined flat_calls d s)) at

pub nothing_or_next : (d : DefiningWord) (words : List (Option Word))
    → (known_at_once d words ≡ None) ⊎ (known_at_once d words ≡ Some (length words))
nothing_or_next defining.Colon words = inl refl
nothing_or_next defining.Value words = inr refl
nothing_or_next defining.Constant words = inr refl
nothing_or_next defining.Variable words = inr refl
nothing_or_next defining.Create words = inr refl
nothing_or_next defining.Defer words = inr refl
nothing_or_next defining.Buffer words = inr refl
nothing_or_next defining.Field words = inr refl

-- a word that couldn't be made isn't known either
pub thrown_known : (home : Option Phandle) (o : Option ℕ) (a : Outcome Coding) (t : Throw) (new : State Coding)
    → a ≡ failed t new → then_known home o a ≡ failed t new
thrown_known home None a t new h = h
thrown_known home (Some n) a t new h = ap (then_known home (Some n)) h

-- ---- `b(;)`

pub its_open : (n : ℕ) (name : List ℕ) (words : List (Option Word)) (o : Option ℕ)
    → numbered n (Some name) ≡ named_open words o → (o ≡ Some n) × (name_in (word_at words n) ≡ Some name)
its_open n name words None e = absurd cc
its_open n name words (Some m) e =
    let its = its_name m n name (name_in (word_at words m)) e in
    (ap (λ k. Some k) (sym its.0), ap (λ k. name_in (word_at words k)) its.0 ∙ its.1)

-- without an open definition, or where its word has no name, no method is made
pub nameless_open : (home : Option Phandle) (o : Option ℕ) (a : Outcome Coding) (old new : State Coding)
    (r : Result (Unit {0}) Stop)
    → None ≡ named_open old.words.dictionary o
    → IfSome o (λ n. name_in (word_at new.words.dictionary n) ≡ name_in (word_at old.words.dictionary n))
    → Ends true a old new r → Ends true (then_known home o a) old new r
nameless_open home None a old new r none same h = h
nameless_open home (Some n) a old new (Ok x) none same h =
    ap (then_known home (Some n)) h
    ∙ ap done (known_nothing home n new (same ∙ no_name n (name_in (word_at old.words.dictionary n)) none))
nameless_open home (Some n) a old new (Err (Thrown t)) none same h = ap (then_known home (Some n)) h
nameless_open home (Some n) a old new (Err NoMemory) none same h = h

-- ---- where the method is added first, and taken back if no word is made

-- what is said over every tree is so of the tree that is there
pub over_its_tree : (b : Bool) (a : State Coding → Outcome Coding) (old new : State Coding)
    (r : Result (Unit {0}) Stop)
    → new.board.tree ≡ old.board.tree
    → ((t : List Node) → Ends b (a (with_tree t old)) (with_tree t old) (with_tree t new) r)
    → Ends b (a old) old new r
over_its_tree b a old new r e h =
    subst (λ t. Ends b (a old) old (with_tree t new) r) (sym e) (h old.board.tree)

-- a word was made
pub method_ends : (a : State Coding → Outcome Coding) (home : Option Phandle) (n : ℕ) (old new : State Coding)
    (former : Option Former) (name : List ℕ)
    → MayMake home name (xt_cell n) former old.board.tree new.board.tree
    → a old ≡ done (with_tree old.board.tree new)
    → name_in (word_at new.words.dictionary n) ≡ Some name
    → then_known home (Some n) (a old) ≡ done (hidden_if (is_some former) n new)
method_ends a home n old new former name made h e =
    ap (then_known home (Some n)) h ∙ ap done (known_done home n old new former name made e)

-- no word was made
pub method_undone : (a : State Coding → Outcome Coding) (home : Option Phandle) (o : Option ℕ) (old new : State Coding)
    (stop : Stop)
    → Ends {A = Unit {0}} true (a old) old (with_tree old.board.tree new) (Err stop)
    → Ends {A = Unit {0}} true (then_known home o (a old)) old (with_tree old.board.tree new) (Err stop)
method_undone a home None old new stop h = h
method_undone a home (Some n) old new (Thrown t) h = ap (then_known home (Some n)) h
method_undone a home (Some n) old new NoMemory h = h
