-- What may be done by a token of an image: it ends what is read or a definition and makes a word only by the words for
-- that, and executes only the word that its FCode names.
use Rattle.std.proofs.Common.{◌≡◌, ℕ, Bool, true, false, List, Option, Some, None, refl}
use Rattle.of_fcodes.specs.declared.codes.FCode.{FCode}
use Rattle.of_fcodes.specs.declared.words.StreamWord.{StreamWord}
use Rattle.of_fcodes.specs.declared.words.StreamWord.TheVariants as stream
use Rattle.of_fcodes.specs.declared.words.Word.{Word}
use Rattle.of_fcodes.specs.declared.words.Word.TheVariants as word
use Rattle.of_fcodes.specs.Tokens.{entry_in}
use Rattle.of_stream.specs.Decoding.{Argument, Code, Literal, Named, Nothing, Offset, String}
use Rattle.of_compile.specs.declared.defining.DefiningWord.{DefiningWord}
use Rattle.of_compile.specs.declared.defining.DefiningWord.TheVariants as defining
use Rattle.of_flow.specs.declared.token.Token.{Token}
use Rattle.of_flow.specs.declared.token.Token.TheVariants as token
use Rattle.of_eval.specs.Executing.{plan_in}
use Rattle.of_state.specs.State.{State}
use Rattle.of_flow.specs.Tokens.{ExternalToken, NamedToken, Plain, Typed, by_name, by_nothing, typed, typed_word}
use Rattle.of_eval_laws.specs.Frames.{ends_image}
use Rattle.of_eval_laws.specs.Listed.{is_semicolon, plan_named, plan_with}
use Rattle.of_eval_laws.proofs.Walk.{MayDo, Turns, TypedMayDo}
use Rattle.of_eval_laws.proofs.WalkWords.{Executes, Rules}

-- What may be done by a token whose FCode has this word, if it has one, with this behind it.
pub record IsAllowed {S : Type 0} (R : Rules S) (T : Turns R) (w : Option Word) (k : FCode) (a : Argument) (b : Bool)
    (s : State S) : Type 0 where
  pub positions : T.Positions
  pub ends : ends_image w ≡ true → T.Ends
  pub makes : a ≡ Nothing → T.Makes
  pub closes : is_semicolon w ≡ true → a ≡ Nothing → T.Closes
  pub appends : b ≡ true → R.Appends s
  pub executes : Executes R (plan_with a w (entry_in s.words.table k.0) b (plan_in s)) s

-- a token that ends nothing, makes nothing and executes nothing
abbrev is_mild : Token → Bool
is_mild token.End = false
is_mild (token.Define d) = false
is_mild token.Semicolon = false
is_mild (token.Word k) = false
is_mild t = true

mild : {S : Type 0} (R : Rules S) (T : Turns R) (t : Token) (b : Bool) (s : State S) → T.Positions
    → (b ≡ true → R.Appends s) → is_mild t ≡ true → MayDo R T t b s
mild R T token.End b s q o e = absurd cc
mild R T (token.Define d) b s q o e = absurd cc
mild R T token.Semicolon b s q o e = absurd cc
mild R T (token.Word k) b s q o e = absurd cc
mild R T t b s q o e = record {
  positions = q;
  ends = λ z. absurd cc;
  makes = λ z. absurd cc;
  closes = λ z. absurd cc;
  appends = o;
  executes = λ xt z. absurd cc;
}

-- what isn't its operand makes it no token
behind : {S : Type 0} (R : Rules S) (T : Turns R) (t : Token) (a : Argument) (b : Bool) (s : State S) → T.Positions
    → (b ≡ true → R.Appends s) → (a ≡ Nothing → MayDo R T t b s) → MayDo R T (by_nothing t a) b s
behind R T t Nothing b s q o h = h refl
behind R T t a b s q o h = mild R T token.Stray b s q o refl

ending : {S : Type 0} (R : Rules S) (T : Turns R) (b : Bool) (s : State S) → T.Positions → (b ≡ true → R.Appends s)
    → T.Ends → MayDo R T token.End b s
ending R T b s q o h = record {
  positions = q;
  ends = λ e. h;
  makes = λ e. absurd cc;
  closes = λ e. absurd cc;
  appends = o;
  executes = λ xt e. absurd cc;
}

making : {S : Type 0} (R : Rules S) (T : Turns R) (d : DefiningWord) (b : Bool) (s : State S) → T.Positions
    → (b ≡ true → R.Appends s) → T.Makes → MayDo R T (token.Define d) b s
making R T d b s q o h = record {
  positions = q;
  ends = λ e. absurd cc;
  makes = λ e. h;
  closes = λ e. absurd cc;
  appends = o;
  executes = λ xt e. absurd cc;
}

closing : {S : Type 0} (R : Rules S) (T : Turns R) (b : Bool) (s : State S) → T.Positions → (b ≡ true → R.Appends s)
    → T.Closes → MayDo R T token.Semicolon b s
closing R T b s q o h = record {
  positions = q;
  ends = λ e. absurd cc;
  makes = λ e. absurd cc;
  closes = λ e. h;
  appends = o;
  executes = λ xt e. absurd cc;
}

executing : {S : Type 0} (R : Rules S) (T : Turns R) (k : FCode) (b : Bool) (s : State S) → T.Positions
    → (b ≡ true → R.Appends s) → Executes R (plan_named (entry_in s.words.table k.0) b (plan_in s)) s
    → MayDo R T (token.Word k) b s
executing R T k b s q o h = record {
  positions = q;
  ends = λ e. absurd cc;
  makes = λ e. absurd cc;
  closes = λ e. absurd cc;
  appends = o;
  executes = h;
}

name_may : {S : Type 0} (R : Rules S) (T : Turns R) (t : List ℕ → FCode → Typed) (a : Argument) (b : Bool) (s : State S)
    → ((n : List ℕ) (k : FCode) → TypedMayDo R T (t n k) b s) → MayDo R T token.Stray b s
    → TypedMayDo R T (by_name t a) b s
name_may R T t (Named name k) b s h stray = h name k
name_may R T t a b s h stray = stray

defining_may : {S : Type 0} (R : Rules S) (T : Turns R) (w : StreamWord) (k : FCode) (a : Argument) (d : DefiningWord)
    (b : Bool) (s : State S) → IsAllowed R T (Some (word.Stream w)) k a b s
    → MayDo R T (by_nothing (token.Define d) a) b s
defining_may R T w k a d b s h =
    behind R T (token.Define d) a b s h.positions h.appends
    (λ e. making R T d b s h.positions h.appends (h.makes e))

-- the token that carries no name, if it is one
abbrev plain_in : Typed → Token
plain_in (Plain t) = t
plain_in (NamedToken name k) = token.Stray
plain_in (ExternalToken name k) = token.Stray

-- the words of the stream that end what is read, make a word or end a definition; no other does
stream_may : {S : Type 0} (R : Rules S) (T : Turns R) (w : StreamWord) (k : FCode) (a : Argument) (b : Bool)
    (s : State S) → IsAllowed R T (Some (word.Stream w)) k a b s → TypedMayDo R T (typed_word w a) b s
unfolding typed_word
stream_may R T stream.End0 k a b s h =
    behind R T token.End a b s h.positions h.appends (λ e. ending R T b s h.positions h.appends (h.ends refl))
stream_may R T stream.End1 k a b s h =
    behind R T token.End a b s h.positions h.appends (λ e. ending R T b s h.positions h.appends (h.ends refl))
stream_may R T stream.Semicolon k a b s h =
    behind R T token.Semicolon a b s h.positions h.appends
    (λ e. closing R T b s h.positions h.appends (h.closes refl e))
stream_may R T stream.Colon k a b s h = defining_may R T stream.Colon k a defining.Colon b s h
stream_may R T stream.Value k a b s h = defining_may R T stream.Value k a defining.Value b s h
stream_may R T stream.Constant k a b s h = defining_may R T stream.Constant k a defining.Constant b s h
stream_may R T stream.Variable k a b s h = defining_may R T stream.Variable k a defining.Variable b s h
stream_may R T stream.Create k a b s h = defining_may R T stream.Create k a defining.Create b s h
stream_may R T stream.Defer k a b s h = defining_may R T stream.Defer k a defining.Defer b s h
stream_may R T stream.Buffer k a b s h = defining_may R T stream.Buffer k a defining.Buffer b s h
stream_may R T stream.Field k a b s h = defining_may R T stream.Field k a defining.Field b s h
stream_may R T stream.NamedToken k a b s h =
    name_may R T NamedToken a b s (λ n x. tt) (mild R T token.Stray b s h.positions h.appends refl)
stream_may R T stream.ExternalToken k a b s h =
    name_may R T ExternalToken a b s (λ n x. tt) (mild R T token.Stray b s h.positions h.appends refl)
stream_may R T w k Nothing b s h = mild R T (plain_in (typed_word w Nothing)) b s h.positions h.appends refl
stream_may R T w k (Named n x) b s h = mild R T (plain_in (typed_word w (Named n x))) b s h.positions h.appends refl
stream_may R T w k (Literal x) b s h = mild R T (plain_in (typed_word w (Literal x))) b s h.positions h.appends refl
stream_may R T w k (String t) b s h = mild R T (plain_in (typed_word w (String t))) b s h.positions h.appends refl
stream_may R T w k (Code x) b s h = mild R T (plain_in (typed_word w (Code x))) b s h.positions h.appends refl
stream_may R T w k (Offset by) b s h = mild R T (plain_in (typed_word w (Offset by))) b s h.positions h.appends refl

word_may : {S : Type 0} (R : Rules S) (T : Turns R) (k : FCode) (a : Argument) (b : Bool) (s : State S) → T.Positions
    → (b ≡ true → R.Appends s)
    → (a ≡ Nothing → Executes R (plan_named (entry_in s.words.table k.0) b (plan_in s)) s)
    → MayDo R T (by_nothing (token.Word k) a) b s
word_may R T k a b s q o h = behind R T (token.Word k) a b s q o (λ e. executing R T k b s q o (h e))

pub typed_may : {S : Type 0} (R : Rules S) (T : Turns R) (w : Option Word) (k : FCode) (a : Argument) (b : Bool)
    (s : State S) → IsAllowed R T w k a b s → TypedMayDo R T (typed w k a) b s
typed_may R T (Some (word.Stream w)) k a b s h = stream_may R T w k a b s h
typed_may R T None k Nothing b s h = word_may R T k Nothing b s h.positions h.appends (λ e. h.executes)
typed_may R T None k a b s h = word_may R T k a b s h.positions h.appends (λ e. absurd cc)
typed_may R T (Some w) k Nothing b s h = word_may R T k Nothing b s h.positions h.appends (λ e. h.executes)
typed_may R T (Some w) k a b s h = word_may R T k a b s h.positions h.appends (λ e. absurd cc)
