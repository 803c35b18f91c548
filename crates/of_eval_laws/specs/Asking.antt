-- Which steps ask for no memory. A step answers NoMemory only where what it does grows something: the code, a name, the
-- console, a copy of a text, the heap or the device tree (IEEE 1275-1994, 5.2.2 and 5.3.3.1; Forth 2012, 3.4).
use Rattle.std.specs.Prelude.{◌≡◌, ◌⊎◌, ℕ, Bool, true, false, List, Some, Result, is_none, is_some}
use Rattle.of_cells.specs.declared.cells.Cell.{Cell}
use Rattle.of_code.specs.declared.item.Item.{Item}
use Rattle.of_code.specs.declared.item.Item.TheVariants as item
use Rattle.of_fcodes.specs.declared.codes.FCode.{FCode}
use Rattle.of_fcodes.specs.declared.words.StreamWord.{StreamWord}
use Rattle.of_fcodes.specs.declared.words.StreamWord.TheVariants as stream
use Rattle.of_fcodes.specs.declared.words.Word.TheVariants as word
use Rattle.of_fcodes.specs.declared.console_words.CompilingWord.{CompilingWord}
use Rattle.of_stacks.specs.declared.throws.Throw.{Throw}
use Rattle.of_stream.specs.Decoding.{Argument, Named, Nothing}
use Rattle.of_compile.specs.Defining.{may_define}
use Rattle.of_compile.specs.declared.defining.DefiningWord.{DefiningWord}
use Rattle.of_text.specs.declared.words.Part.{Part}
use Rattle.of_text.specs.declared.words.TextWord.{TextWord}
use Rattle.of_text.specs.declared.words.TextWord.TheVariants as text
use Rattle.of_eval.specs.Acts.{front_of}
use Rattle.of_eval.specs.declared.tokens.Spot.{Spot}
use Rattle.of_eval.specs.Doing.{executed_grows}
use Rattle.of_state.specs.State.{State}
use Rattle.of_eval.specs.Reading.{typed_grows}
use Rattle.of_interpret.specs.TextActs.{text_grows}
use Rattle.of_interpret.specs.TextWords.{text_act}
use Rattle.of_steps.specs.Steps.{item_grows_in}
use Rattle.of_flow.specs.Tokens.{typed, typed_of}

-- a token of the stream asks for no memory, whatever the state, compiled or not
abbrev pub AsksForNone : Type 0 → StreamWord → Type 0
AsksForNone S w =
    (k : FCode) (here : Spot) (s : State S) → typed_grows (typed (Some (word.Stream w)) k Nothing) here s ≡ false

-- an item that runs a word with an execution token
abbrev pub Runs : Item → Cell → Type 0
Runs i xt = (i ≡ item.Operation xt) ⊎ (i ≡ item.Call xt)

-- whether a word of a text grows something
abbrev pub heard_grows : {S : Type 0} → TextWord → State S → Bool
heard_grows w s = text_grows (text_act w (front_of s)) s.words

-- a word of a text asks for no memory while words are executed
abbrev pub AsksForNoneThen : Type 0 → TextWord → Type 0
AsksForNoneThen S w = (s : State S) → s.flow.is_compiling ≡ false → heard_grows w s ≡ false

pub record MemoryIsAsked (S : Type 0) : Type 0 where
  -- the ends of an image, `offset16`, a mark, a resolve and `b(case)` ask for none
  pub end0 : AsksForNone S stream.End0
  pub end1 : AsksForNone S stream.End1
  pub offset16 : AsksForNone S stream.Offset16
  pub mark : AsksForNone S stream.Mark
  pub resolve : AsksForNone S stream.Resolve
  pub case : AsksForNone S stream.Case
  -- a token with a name asks for none
  pub named :
      (k : FCode) (name : List ℕ) (code : FCode) (here : Spot) (s : State S) →
      typed_grows (typed_of (record { code = k; argument = Named name code })) here s ≡ false
  -- while interpreting, no token with another operand does
  pub held :
      (w : StreamWord) (k : FCode) (a : Argument) (here : Spot) (s : State S) → (a ≡ Nothing → ⊥) →
      s.flow.is_compiling ≡ false →
      typed_grows (typed (Some (word.Stream w)) k a) here s ≡ false
  -- and one of the stream without an operand only where it may define a word, or where a definition is open
  pub bare :
      (w : StreamWord) (k : FCode) (here : Spot) (s : State S) → s.flow.is_compiling ≡ false →
      typed_grows (typed (Some (word.Stream w)) k Nothing) here s ≡ true →
      (may_define s.words ≡ true) ⊎ (is_some s.words.defining ≡ true)
  -- an item only where it runs a word that does
  pub item :
      (i : Item) (s : State S) → item_grows_in i s ≡ true →
      (xt : Cell) × Runs i xt × (executed_grows s xt.0 ≡ true)
  -- Of the words of a text the end, a comment, `'`, `char` and `dev` ask for none,
  pub text_end : (s : State S) → heard_grows text.End s ≡ false
  pub comment : (s : State S) → heard_grows text.Comment s ≡ false
  pub tick : (r : Result Cell Throw) (s : State S) → heard_grows (text.Tick r) s ≡ false
  pub char : (r : Result Cell Throw) (s : State S) → heard_grows (text.Char r) s ≡ false
  pub device : (p : Part) (s : State S) → heard_grows (text.Device p) s ≡ false
  -- nor while words are executed a number, a string that isn't printed, `to`, and what serves only while they are
  -- compiled.
  pub number : (r : Result Cell Throw) → AsksForNoneThen S (text.Number r)
  pub plain : (p : Part) → AsksForNoneThen S (text.Plain p)
  pub quoted : (at : ℕ) → AsksForNoneThen S (text.Quoted at)
  pub store : (r : Result Cell Throw) → AsksForNoneThen S (text.To r)
  pub compiling : (w : CompilingWord) → AsksForNoneThen S (text.Compiling w)
  pub bracket_tick : (r : Result Cell Throw) → AsksForNoneThen S (text.BracketTick r)
  pub bracket_char : (r : Result Cell Throw) → AsksForNoneThen S (text.BracketChar r)
  -- A word that is found asks only where its execution token does, or where words are compiled; a defining word only
  -- where no definition is open.
  pub found :
      (xt : Cell) (i : Bool) (s : State S) → heard_grows (text.Found xt i) s ≡ true →
      (executed_grows s xt.0 ≡ true) ⊎ (s.flow.is_compiling ≡ true)
  pub defining :
      (d : DefiningWord) (p : Part) (s : State S) → heard_grows (text.Defining d p) s ≡ true →
      is_none s.words.defining ≡ true
