-- The image of a source prints what the source prints (IEEE 1275-1994, 5.2.2).
use Rattle.std.specs.Prelude.{◌≡◌, ℕ, ◌+◌, ◌≤◌, List, [], Option, Some, None, Ok}
use Rattle.of_compile.specs.Structured.{Definitions}
use Rattle.of_source.specs.Encodable.{AreEncodable}
use Rattle.of_source.specs.Items.{Source}
use Rattle.of_source.specs.Nest.{Nest, nest_of}
use Rattle.of_source.specs.Parsing.{parsed}
use Rattle.of_stream.specs.declared.stream.OffsetSize.{OffsetSize}
use Rattle.of_tok.specs.Image.{tokenized}
use Rattle.of_state.specs.State.{Calls}
use Rattle.of_print_laws.specs.Printed.{Begins, output}
use Rattle.of_eval_laws.specs.Structured.{structured_calls}
use Rattle.of_means.specs.Correct.{Comes, source_ended, source_means}
use Rattle.of_means.specs.Courses.{Course, On, Off, Out, Left, Thrown, Waits, Cut, Beyond}
use Rattle.of_means.specs.Kept.{IsKept}
use Rattle.of_means.specs.Laws.{IsAt}
use Rattle.of_means.specs.Moments.{Moment}
use Rattle.of_means.specs.Nested.{nest_calls}

module _ {S : Type 0} (c : Calls S) (own : Nest → Calls S) where
  -- what a source has printed where this comes of it, unless its meaning is beyond
  abbrev pub printed_in : Nest → OffsetSize → Course S → Option (List ℕ)
  printed_in x z (On t) = Some (output (source_ended c own x z t).state)
  printed_in x z (Off b t) = None
  printed_in x z (Out t) = None
  printed_in x z (Left e t) = None
  printed_in x z (Thrown t) = Some (output t.state)
  printed_in x z (Waits t) = Some (output t.state)
  printed_in x z (Cut t) = Some (output t.state)
  printed_in x z Beyond = None

  -- and with so many turns of each loop, and steps of each word
  abbrev pub printed_at : Nest → OffsetSize → ℕ → Moment S → Option (List ℕ)
  printed_at x z n m = printed_in x z (source_means c own x z n m)

  pub record PrintsAlike (x : Nest) (z : OffsetSize) (m : Moment S) : Type 0 where
    -- What the source has printed at a bound, the image has printed after some steps;
    pub by_image :
        (n : ℕ) (text : List ℕ) → printed_at x z n m ≡ Some text →
        (k : ℕ) × (u : Moment S) × Comes c own z m k u × (output u.state ≡ text)
    -- and what the image has printed after some steps begins what the source has printed at each bound that is no less,
    pub by_source :
        (n k : ℕ) (u : Moment S) (text : List ℕ) → Comes c own z m k u → k ≤ n → printed_at x z n m ≡ Some text →
        Begins (output u.state) text
    -- where its meaning isn't beyond.
    pub said : (n : ℕ) → printed_at x z n m ≡ None → source_means c own x z n m ≡ Beyond
    -- What the image has printed begins what it prints later.
    pub stays :
        (k j : ℕ) (u v : Moment S) → Comes c own z m k u → Comes c own z m (k + j) v →
        Begins (output u.state) (output v.state)

-- The images of accepted sources do, from wherever their first token is next.
pub record SourcesPrintAlike : Type 0 where
  pub alike :
      (text image : List ℕ) (source : Source) (m : Moment Definitions) → parsed text ≡ Ok source →
      AreEncodable source.items → tokenized source ≡ Ok image → IsAt structured_calls image [] (IsKept image) m →
      PrintsAlike structured_calls nest_calls (nest_of source.items) source.size m
