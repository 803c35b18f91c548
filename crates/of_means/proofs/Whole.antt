-- The image of an accepted source, from where it begins to run.
use Rattle.std.proofs.Common.{◌≡◌, ℕ, suc, Bool, true, false, List, [], ◌∷◌, length, Option}
use Rattle.std.proofs.Common.{Some, None, Result, Ok, Err, refl, sym, ap, ◌∙◌, subst, if◌then◌else◌}
use Rattle.std.specs.Prelude.{is_ok}
use Rattle.of_cells.specs.declared.cells.Cell.{Cell}
use Rattle.of_asking.specs.declared.query.Answer.{Answer}
use Rattle.of_stacks.specs.declared.return_item.Input.{Input}
use Rattle.of_stacks.specs.declared.return_item.Input.TheVariants as input
use Rattle.std.specs.Option.{option_map}
use Rattle.of_dict.specs.Words.{xt_of}
use Rattle.of_stream.specs.declared.stream.OffsetSize.{OffsetSize}
use Rattle.of_stream.specs.Image.{first_size, header_length}
use Rattle.of_memory.specs.DataSpace.{DataSpace, free_after}
use Rattle.of_memory.specs.Growth.{image_fits}
use Rattle.of_memory.specs.SoundChanges.{AreBytes}
use Rattle.of_nodes.specs.declared.phandles.Phandle.{Phandle}
use Rattle.of_ihandles.specs.Table.{InstanceTable}
use Rattle.of_ihandles.specs.declared.instance_fault.InstanceFault.{InstanceFault}
use Rattle.of_compile.specs.Structured.{Definitions}
use Rattle.of_source.specs.Items.{Item, Source}
use Rattle.of_source.specs.Laws.{ParsedIsNested}
use Rattle.of_source.specs.Nest.{IsNested, IsWhole, ItemsGiveNest}
use Rattle.of_source.specs.Nest.{nest_of}
use Rattle.of_source.specs.Plain.{AcceptedIsPlain, ArePlain}
use Rattle.of_tok.specs.Image.{tokenized}
use Rattle.of_tok.specs.Laws.{HeaderIsTheSum, ImageHasTokens, NestsEndAtTheirPlaces}
use Rattle.of_tok.specs.declared.place.Place.{Place}
use Rattle.of_tok.specs.Places.{first_place}
use Rattle.of_state.specs.Loading.{begun, begun_by, begun_unless, first_state, image_begun, instance_on, load_fault}
use Rattle.of_state.specs.State.{State}
use Rattle.of_state.specs.declared.load_fault.LoadFault.{LoadFault}
use Rattle.of_state.specs.declared.load_fault.LoadFault.TheVariants.{ImageTooLong, NoInstance}
use Rattle.of_eval_laws.specs.Placed.{StatesStayPlaced}
use Rattle.of_eval_laws.specs.Readings.{ImagesAreReadings}
use Rattle.of_eval_laws.specs.Returning.{LeadsOn, StackLeadsBack, is_back}
use Rattle.of_eval_laws.specs.Running.{ImagesRun, RunningImage, images_to, running}
use Rattle.of_eval_laws.specs.Sound.{SpaceStaysSound}
use Rattle.of_eval_laws.specs.Structured.{no_definitions, structured_calls}
use Rattle.of_eval_laws.specs.Throws.{ThrowsSettle}
use Rattle.of_eval_laws.specs.Tokens.{TokensAreTyped}
use Rattle.of_meaning.specs.Laws.{BodyOfNest}
use Rattle.of_means.specs.Moments.{with_state}
use Rattle.of_means.specs.Means.{at}
use Rattle.of_means.specs.Nested.{nest_calls}
use Rattle.of_means.specs.Sources.{HasWords, WidensOutside}
use Rattle.of_means.specs.Kept.{BeganFirst, IsKept}
use Rattle.of_means.specs.Laws.{IsAt}
use Rattle.of_means.specs.Accepted.{IsIdle, SourcesBehave, WordsAreFollowed, begun_at}
use Rattle.of_means.proofs.Keeping.{stays_kept}
use Rattle.of_means.proofs.Leading.{source_back}
use Rattle.of_source.specs.Shapes.{nothing}
use Rattle.std.proofs.Common.{arith}
use Rattle.of_means.proofs.Straight.{walk}
use Rattle.of_means.proofs.Words.{words_come_back}
use Rattle.of_means.proofs.Defined.{definitions_are_read}
use Rattle.of_means.proofs.Main.{source_is_followed}

-- ---- from items to the nest

-- an accepted source is a whole nest with words, which makes offsets wider only outside all
whole_words : ItemsGiveNest → (items : List Item) → IsNested items → ArePlain [] items
    → IsWhole (nest_of items) × HasWords (nest_of items) × WidensOutside (nest_of items) 0
whole_words give items (x, e, whole) plain =
    let same : x ≡ nest_of items = sym (ap nest_of e ∙ give x) in
    let n = walk x nothing [] [] (omega arith) whole.0 refl (subst (λ y. ArePlain [] y) e plain) in (
      subst (λ y. IsWhole y) same whole,
      subst (λ y. HasWords y) same n.0,
      subst (λ y. WidensOutside y 0) same (n.2 refl),
    )

-- ---- where an image begins

fault_none : (b d : Bool)
    → (if b then (if d then None else Some NoInstance) else Some ImageTooLong) ≡ None → d ≡ true
fault_none true true e = refl
fault_none true false e = absurd cc
fault_none false d e = absurd cc

module _ {S : Type 0} (image : List ℕ) (node : Phandle) (s : State S) where
  -- it begins for an instance
  begins_by : load_fault image node s ≡ None
      → (instance : Cell) × (x : InstanceTable × DataSpace)
      × (begun image node s ≡ image_begun image node instance x s)
  begins_by e =
      by_instance (instance_on node s.board) refl
      (fault_none (image_fits s.board.memory (length image)) (is_ok (instance_on node s.board)) e)
    where
      by_instance : (r : Result (Cell × (InstanceTable × DataSpace)) InstanceFault) → instance_on node s.board ≡ r
          → is_ok r ≡ true
          → (instance : Cell) × (x : InstanceTable × DataSpace)
          × (begun image node s ≡ image_begun image node instance x s)
      by_instance (Ok y) f o = (
        y.0,
        y.1,
        ap (λ (z : Option LoadFault). begun_unless z image node s) e
            ∙ ap (λ r. begun_by image node r s) f,
      )
      by_instance (Err fault) f o = absurd cc

  -- at its first token
  pub begins_at : (instance : Cell) (x : InstanceTable × DataSpace)
      → begun image node s ≡ image_begun image node instance x s
      → (begun image node s).flow.reading.input ≡ input.Image (first_size image) header_length
  begins_at instance x e = ap (λ (y : State S). y.flow.reading.input) e

-- where no image stands, none runs
none_runs : (m : DataSpace) → length m.images ≡ 0 → running m ≡ []
none_runs m e = none m.images e
  where
    none : (ends : List ℕ) → length ends ≡ 0 → images_to m ends ≡ []
    none [] f = refl
    none (y ∷ ys) f = absurd (no (length ys) f)
      where
        no : (n : ℕ) → suc n ≡ 0 → ⊥
        no n g = cc

module _ (back : StackLeadsBack Definitions) (placing : StatesStayPlaced) (sounding : SpaceStaysSound Definitions)
    (reading : ImagesAreReadings Definitions) (runs : ImagesRun Definitions) where
  pub idle_first : IsIdle (first_state no_definitions)
  idle_first = record {
    stopped = refl;
    reads = refl;
    closed = refl;
    placed = placing.first;
    sound = sounding.first no_definitions;
    images = reading.first no_definitions;
  }

  pub begins : (image : List ℕ) (node : Phandle) (answers : List Answer) (s : State Definitions) → IsIdle s
      → AreBytes image → load_fault image node s ≡ None
      → IsAt structured_calls image [] (IsKept image) (begun_at image node answers s)
  begins image node answers s idle bytes fault =
      let b = begun image node s in
      let by = begins_by image node s fault in
      let b' = image_begun image node by.0 by.1 s in
      let e : b ≡ b' = by.2 in
      let q : Place = record { position = header_length; size = first_size image } in
      let h = back.begun image [] node by.0 by.1 s idle.reads idle.closed in
      let placed = placing.begun image node s idle.placed in
      let sound = (sounding.begun image node s idle.sound bytes).sound in
      let images = reading.begun image node s idle.sound idle.images idle.stopped in
      let none : running s.board.memory ≡ [] =
      none_runs s.board.memory (idle.images.as_many ∙ idle.images.idle idle.stopped) in
      let r : RunningImage = record { begin = free_after s.board.memory.images; bytes = image } in
      let now : running b.board.memory ≡ r ∷ [] =
      runs.begun image node s idle.sound.0 fault ∙ ap (λ (rs : List RunningImage). r ∷ rs) none in
      let first : BeganFirst image (running b.board.memory) = subst (λ rs. BeganFirst image rs) (sym now) refl in
      let kept : IsKept image b = record { placed = placed; sound = sound; images = images; first = first } in
      let stays = stays_kept placing sounding reading runs image in
      (source_back image [] (IsKept image) q b'.flow.reading b refl
      (ap (λ (o : Option ℕ). option_map (λ (n : ℕ). (let x : Cell = record { 0 = xt_of n } in x)) o) idle.closed)
      (ap (λ (y : State Definitions). y.flow.is_running) e) (ap (λ (y : State Definitions). is_back y) e ∙ h.0)
      (subst (λ (y : State Definitions). LeadsOn image [] b'.flow.reading y) (sym e) h.1)
      placed.compiles images first
      (λ f p. stays.place q p b (subst (λ (y : State Definitions). IsKept image y) (sym f) kept))).0

  pub at_first : HeaderIsTheSum → (source : Source) (image : List ℕ) (node : Phandle) (answers : List Answer)
      (s : State Definitions) → tokenized source ≡ Ok image → load_fault image node s ≡ None
      → at (first_place source.size) (begun_at image node answers s) ≡ begun_at image node answers s
  at_first sums source image node answers s made fault =
      let b = begun image node s in
      let by = begins_by image node s fault in
      let read = begins_at image node s by.0 by.1 by.2 in
      let size : first_size image ≡ source.size = (sums source image made).first in
      let input_is : b.flow.reading.input ≡ input.Image source.size header_length =
      read ∙ ap (λ (z : OffsetSize). input.Image z header_length) size in
      ap (λ (i : Input). with_state
      (record b { flow = record b.flow { reading = record b.flow.reading { input = i } } })
      (begun_at image node answers s))
      (sym input_is)

-- ---- the laws

pub words_are_followed : TokensAreTyped → ThrowsSettle Definitions → StackLeadsBack Definitions → StatesStayPlaced
    → SpaceStaysSound Definitions → ImagesAreReadings Definitions → ImagesRun Definitions → NestsEndAtTheirPlaces
    → BodyOfNest → WordsAreFollowed
words_are_followed typing settles back placing sounding reading runs ends bodies = record {
  words = λ image loops. words_come_back typing back placing sounding reading runs image loops;
  definitions = λ image loops.
      definitions_are_read typing settles placing sounding reading runs ends bodies image loops;
}

pub sources_behave : TokensAreTyped → ThrowsSettle Definitions → StackLeadsBack Definitions → StatesStayPlaced
    → SpaceStaysSound Definitions → ImagesAreReadings Definitions → ImagesRun Definitions → NestsEndAtTheirPlaces
    → ImageHasTokens → HeaderIsTheSum → ParsedIsNested → AcceptedIsPlain → ItemsGiveNest → WordsAreFollowed
    → SourcesBehave
sources_behave typing settles back placing sounding reading runs ends tokens sums nested plain give followed = record {
  first = idle_first back placing sounding reading runs;
  begins = begins back placing sounding reading runs;
  at_first = at_first back placing sounding reading runs sums;
  behaves = λ text image source m accepted encodable made stand.
      let nest = (nested text source accepted).0 in
      let whole = whole_words give source.items nest (plain text source accepted) in
      let law = source_is_followed IsKept settles typing ends in
      law.followed structured_calls nest_calls image source.size (nest_of source.items) m whole.0 whole.1 whole.2
      (tokens source image nest encodable made) stand (stays_kept placing sounding reading runs image)
      (followed.words image) (followed.definitions image);
}
