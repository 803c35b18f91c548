-- Control at a source: its image is read, outside all words, images and texts that it started (IEEE 1275-1994, 5.2.2).
use Rattle.std.specs.Prelude.{◌+◌, ◌-◌, ◌≡◌, ◌⊎◌, ℕ, Bool, true, is_some, List, [], ◌∷◌, length, Some, None}
use Rattle.of_stacks.specs.declared.return_item.Continuation.TheVariants as continuation
use Rattle.of_stacks.specs.declared.return_item.Input.TheVariants as input
use Rattle.of_stacks.specs.declared.return_item.LoopExit.{LoopExit}
use Rattle.of_stacks.specs.declared.return_item.LoopExit.TheVariants as exit
use Rattle.of_stacks.specs.declared.return_item.ReturnItem.{ReturnItem}
use Rattle.of_stacks.specs.declared.return_item.ReturnItem.TheVariants.{Return, Loop, User, Handler, Source, Caller}
use Rattle.of_stream.specs.Decoding.{Token}
use Rattle.of_stream.specs.Targets.{within_tokens}
use Rattle.of_memory.specs.Images.{latest_image}
use Rattle.of_source.specs.Items.{Made, call, maker_token}
use Rattle.of_source.specs.Nest.{Nest, Stop, Plain, Definition, Defining, If, Else, Then, Begin, Do, Leave, Case, Of}
use Rattle.of_source.specs.Nest.{open_behind}
use Rattle.of_source.specs.Plain.{IsPlain, is_kind}
use Rattle.of_tok.specs.declared.place.Place.{Place}
use Rattle.of_state.specs.State.{State}
use Rattle.of_eval_laws.specs.Returning.{AreAmong, IsBase, loop_ends}
use Rattle.of_means.specs.Means.{at_place}

-- ---- the words of a source

-- a word that is none of control: a plain one, one that gives a definition its number, or a defining word
abbrev pub IsWord : Token → Type 0
IsWord t =
    IsPlain t ⊎ (((m : Made) × (t ≡ maker_token m)) ⊎ ((is_kind t.code.0 ≡ true) × (t ≡ call t.code)))

-- a word that doesn't make the offsets behind it wider
abbrev pub IsSteady : Token → Type 0
IsSteady t = t.code.0 ≡ 0x0cc → ⊥

-- its plain words are such, and its defining words
abbrev pub HasWords : Nest → Type 0
HasWords Stop = Unit {0}
HasWords (Plain t r) = IsPlain t × HasWords r
HasWords (Definition m i r) = HasWords i × HasWords r
HasWords (Defining m t r) = (is_kind t.0 ≡ true) × HasWords r
HasWords (If l r) = HasWords r
HasWords (Else l r) = HasWords r
HasWords (Then r) = HasWords r
HasWords (Begin i z l r) = HasWords i × HasWords r
HasWords (Do v k i l y r) = HasWords i × HasWords r
HasWords (Leave r) = HasWords r
HasWords (Case i r) = HasWords i × HasWords r
HasWords (Of k i y r) = HasWords i × HasWords r

-- no word of a nest makes them wider, its definitions' words neither
abbrev pub KeepsSize : Nest → Type 0
KeepsSize Stop = Unit {0}
KeepsSize (Plain t r) = IsSteady t × KeepsSize r
KeepsSize (Definition m i r) = KeepsSize i × KeepsSize r
KeepsSize (Defining m t r) = KeepsSize r
KeepsSize (If l r) = KeepsSize r
KeepsSize (Else l r) = KeepsSize r
KeepsSize (Then r) = KeepsSize r
KeepsSize (Begin i z l r) = KeepsSize i × KeepsSize r
KeepsSize (Do v k i l y r) = KeepsSize i × KeepsSize r
KeepsSize (Leave r) = KeepsSize r
KeepsSize (Case i r) = KeepsSize i × KeepsSize r
KeepsSize (Of k i y r) = KeepsSize i × KeepsSize r

-- Offsets are made wider only where no branch and no part is open, but for those of a definition: so their size is the
-- same whichever way control goes. There are d branches open before the nest.
abbrev pub WidensOutside : Nest → ℕ → Type 0
WidensOutside Stop d = Unit {0}
WidensOutside (Plain t r) d = (IsSteady t ⊎ (d ≡ 0)) × WidensOutside r d
WidensOutside (Definition m i r) d = (KeepsSize i ⊎ (d ≡ 0)) × WidensOutside r d
WidensOutside (Defining m t r) d = WidensOutside r d
WidensOutside (If l r) d = WidensOutside r (d + 1)
WidensOutside (Else l r) d = WidensOutside r d
WidensOutside (Then r) d = WidensOutside r (d - 1)
WidensOutside (Begin i z l r) d = KeepsSize i × WidensOutside r (open_behind i d)
WidensOutside (Do v k i l y r) d = KeepsSize i × WidensOutside r d
WidensOutside (Leave r) d = WidensOutside r d
WidensOutside (Case i r) d = KeepsSize i × WidensOutside r d
WidensOutside (Of k i y r) d = KeepsSize i × WidensOutside r d

-- ---- control at the source

module _ (image : List ℕ) where
  -- a position of a token
  abbrev pub IsInImage : ℕ → Type 0
  IsInImage e = within_tokens (length image) (Some e) ≡ Some e

  -- a loop of the source
  abbrev pub IsExit : LoopExit → Type 0
  IsExit (exit.Position e) = IsInImage e
  IsExit (exit.Code n) = ⊥

  -- Loops and cells of the program stand above the source, which sets aside that nothing was read; no `catch` waits.
  abbrev pub IsLevel : List ReturnItem → Type 0
  IsLevel [] = ⊥
  IsLevel (Loop l ∷ r) = IsExit l.exit × IsLevel r
  IsLevel (User x ∷ r) = IsLevel r
  IsLevel (Source s ∷ r) = (s.input ≡ input.Nothing) × IsBase r
  IsLevel (Return to ∷ r) = ⊥
  IsLevel (Handler h ∷ r) = ⊥
  IsLevel (Caller d ∷ r) = ⊥

  -- Control is at the source, wherever that stands, within loops that end at these positions, the innermost first;
  -- words are compiled, and a definition is open, or neither. And this is kept, wherever the source stands.
  pub record AtSource {S : Type 0} (loops : List ℕ) (Keeps : State S → Type 0) (compiling : Bool) (s : State S)
      : Type 0 where
    pub running : s.flow.is_running ≡ true
    pub next : s.flow.next ≡ continuation.Source
    pub compiles : s.flow.is_compiling ≡ compiling
    pub defines : is_some s.words.defining ≡ compiling
    pub opened : s.flow.reading.opened ≡ None
    pub level : IsLevel s.flow.items
    pub among : AreAmong (loop_ends s.flow.items) loops
    pub bytes : latest_image s.board.memory ≡ image
    pub kept : (p : Place) → Keeps (at_place p s)
