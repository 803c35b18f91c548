-- The law `sources_print_alike`: what a step prints, and steps, and what of it is the source's.
use Rattle.std.proofs.Common.{◌≡◌, ◌∙◌, ℕ, zero, suc, ◌+◌, ◌-◌, ◌≤◌, List, Option, Some, None, refl, sym, ap, subst}
use Rattle.std.proofs.Common.{arith, ◌++◌, [], Bool, true, false, if◌then◌else◌}
use Rattle.std.proofs.lemmas.List.{append_assoc, append-nil}
use Rattle.std.specs.Prelude.{option_and_then}
use Rattle.of_asking.specs.declared.query.Answer.{Answer}
use Rattle.of_asking.specs.declared.query.Query.{Query}
use Rattle.of_board.specs.declared.board.Board.{Board}
use Rattle.of_compile.specs.Structured.{Definitions}
use Rattle.of_source.specs.Nest.{Nest, nest_of}
use Rattle.of_stream.specs.declared.stream.OffsetSize.{OffsetSize}
use Rattle.of_tok.specs.Places.{first_place}
use Rattle.of_state.specs.Settling.{thrown_in}
use Rattle.of_state.specs.State.{Calls, State}
use Rattle.of_steps.specs.Steps.{replied, settled_of}
use Rattle.of_print_laws.specs.Printed.{Begins, PrintedStays, output}
use Rattle.of_eval_laws.specs.Structured.{structured_calls}
use Rattle.of_means.specs.Accepted.{SourcesBehave}
use Rattle.of_means.specs.Correct.{Behaves, Comes, IsClosed, source_ended, source_means}
use Rattle.of_means.specs.Courses.{Course, On, Off, Out, Left, Thrown, Waits, Cut, Beyond}
use Rattle.of_means.specs.Means.{at}
use Rattle.of_means.specs.Moments.{Moment, answered_step, asked_step, fitting, made, next_due, step_by, steps}
use Rattle.of_means.specs.Nested.{nest_calls}
use Rattle.of_means.specs.Outputs.{PrintsAlike, SourcesPrintAlike, printed_in}
use Rattle.of_means.proofs.Steps.{no_longer, none_off, steps_on, waiting_rests}

itself : (text : List ℕ) → Begins text text
itself text = ([], sym (append-nil text))

then_more : (first second third : List ℕ) → Begins first second → Begins second third → Begins first third
then_more first second third (more, e) (rest, f) =
    (more ++ rest, f ∙ ap (λ t. t ++ rest) e ∙ append_assoc first more rest)

module _ {S : Type 0} (c : Calls S) (prints : PrintedStays S) where
  -- one moment's output begins another's
  abbrev Goes : Moment S → Moment S → Type 0
  Goes m t = Begins (output m.state) (output t.state)

  -- where there is another
  abbrev Reaches : Moment S → Option (Moment S) → Type 0
  Reaches m None = Unit {0}
  Reaches m (Some t) = Goes m t

  -- ---- steps

  settles : (s : State S) → Begins (output s) (output (settled_of c (next_due c s)))
  settles s =
      let o = next_due c s in
      then_more (output s) (output o.state) (output (settled_of c o)) (prints.done c s)
      (prints.settled c o.state.flow.items (thrown_in o.ended) o.state)

  answered_goes : (q : Query) (o : Option Answer) (m t : Moment S) → answered_step c (next_due c) q o m ≡ Some t
      → Goes m t
  answered_goes q None m t e = absurd cc
  answered_goes q (Some a) m t e = subst (Reaches m) e (settles (replied a m.state))

  asked_goes : (o : Option Query) (m t : Moment S) → asked_step c (next_due c) o m ≡ Some t → Goes m t
  asked_goes None m t e = subst (Reaches m) e (settles m.state)
  asked_goes (Some q) m t e = answered_goes q (fitting q m.answers) m t e

  one_goes : (b : Bool) (m t : Moment S) → (if b then step_by c (next_due c) m else None) ≡ Some t → Goes m t
  one_goes true m t e = asked_goes (next_due c m.state).asks m t e
  one_goes false m t e = absurd cc

  steps_go : (k : ℕ) (m t : Moment S) → steps c k m ≡ Some t → Goes m t
  steps_go zero m t e = subst (Reaches m) e (itself (output m.state))
  steps_go (suc k) m t e = by_one (made c m) refl e (λ u f. steps_go k u t f)
    where
      by_one : (o : Option (Moment S)) → made c m ≡ o → option_and_then (λ u. steps c k u) o ≡ Some t
          → ((u : Moment S) → steps c k u ≡ Some t → Goes u t) → Goes m t
      by_one None f g more = absurd cc
      by_one (Some u) f g more =
          then_more (output m.state) (output u.state) (output t.state) (one_goes m.state.flow.is_running m u f)
          (more u g)

  -- after more steps
  later : (j k : ℕ) (m u v : Moment S) → steps c j m ≡ Some u → steps c (j + k) m ≡ Some v → Goes u v
  later j k m u v e f = steps_go k u v (sym (steps_on c j k m u e) ∙ f)

  no_earlier : (j k : ℕ) (m u v : Moment S) → steps c j m ≡ Some u → steps c k m ≡ Some v → j ≤ k → Goes u v
  no_earlier j k m u v e f le =
      let n : j + (k - j) ≡ k = omega (arith, le) in
      later j (k - j) m u v e (ap (λ i. steps c i m) n ∙ f)

  -- ---- a source and its image

  module _ (own : Nest → Calls S) (x : Nest) (z : OffsetSize) (m : Moment S) (b : Behaves c own x z m) where
    abbrev begin : Moment S
    begin = at (first_place z) m

    some_text : (s t : List ℕ) → Some s ≡ Some t → s ≡ t
    some_text s t e = cc

    no_text : (t : List ℕ) → None ≡ Some t → ⊥
    no_text t e = absurd cc

    -- what the image has printed where the source has this text
    abbrev Prints : List ℕ → Type 0
    Prints text = (k : ℕ) × (u : Moment S) × Comes c own z m k u × (output u.state ≡ text)

    by_image : (n : ℕ) (text : List ℕ) (f : Course S) → source_means c own x z n m ≡ f
        → printed_in c own x z f ≡ Some text → Prints text
    by_image n text (On t) e p =
        let r = b.ends n t e in (r.0, source_ended c own x z t, r.1, some_text _ text p)
    by_image n text (Off i t) e p = absurd (no_text text p)
    by_image n text (Out t) e p = absurd (no_text text p)
    by_image n text (Left i t) e p = absurd (no_text text p)
    by_image n text (Thrown t) e p = let r = b.throws n t e in (r.0, t, r.1, some_text _ text p)
    by_image n text (Waits t) e p = let r = b.waits n t e in (r.0, t, r.1, some_text _ text p)
    by_image n text (Cut t) e p =
        let r = b.goes_on n t e in
        (r.0, r.1, r.3, ap (λ (w : Board). w.console.text) r.4 ∙ some_text _ text p)
    by_image n text Beyond e p = absurd (no_text text p)

    -- where the image rests behind so many steps
    before_rest : (j k : ℕ) (u last : Moment S) (text : List ℕ) → steps c k begin ≡ Some u
        → steps c j begin ≡ Some last → made c last ≡ None → output last.state ≡ text → Begins (output u.state) text
    before_rest j k u last text e f rests same =
        let le : k ≤ j = no_longer c j k begin last u f rests e in
        subst (λ t. Begins (output u.state) t) same (no_earlier k j begin u last e f le)

    by_source : (n k : ℕ) (u : Moment S) (text : List ℕ) (f : Course S) → source_means c own x z n m ≡ f
        → Comes c own z m k u → k ≤ n → printed_in c own x z f ≡ Some text → Begins (output u.state) text
    by_source n k u text (On t) e comes le p =
        let r = b.ends n t e in
        let last = source_ended c own x z t in
        before_rest r.0 k u last text comes r.1 (none_off c last r.2) (some_text _ text p)
    by_source n k u text (Off i t) e comes le p = absurd (no_text text p)
    by_source n k u text (Out t) e comes le p = absurd (no_text text p)
    by_source n k u text (Left i t) e comes le p = absurd (no_text text p)
    by_source n k u text (Thrown t) e comes le p =
        let r = b.throws n t e in before_rest r.0 k u t text comes r.1 (none_off c t r.2) (some_text _ text p)
    by_source n k u text (Waits t) e comes le p =
        let r = b.waits n t e in before_rest r.0 k u t text comes r.1 (waiting_rests c t r.2) (some_text _ text p)
    by_source n k u text (Cut t) e comes le p =
        let r = b.goes_on n t e in
        let up : k ≤ r.0 = omega (arith, le, r.2) in
        let same : output r.1.state ≡ text = ap (λ (w : Board). w.console.text) r.4 ∙ some_text _ text p in
        subst (λ s. Begins (output u.state) s) same (no_earlier k r.0 begin u r.1 comes r.3 up)
    by_source n k u text Beyond e comes le p = absurd (no_text text p)

    said : (f : Course S) → IsClosed f → printed_in c own x z f ≡ None → f ≡ Beyond
    said (On t) h p = absurd cc
    said (Off i t) h p = absurd h
    said (Out t) h p = absurd h
    said (Left i t) h p = absurd h
    said (Thrown t) h p = absurd cc
    said (Waits t) h p = absurd cc
    said (Cut t) h p = absurd cc
    said Beyond h p = refl

    pub prints_alike : PrintsAlike c own x z m
    prints_alike = record {
      by_image = λ n text p. by_image n text (source_means c own x z n m) refl p;
      by_source = λ n k u text comes le p. by_source n k u text (source_means c own x z n m) refl comes le p;
      said = λ n p. said (source_means c own x z n m) (b.closed n) p;
      stays = λ k j u v e f. later k j begin u v e f;
    }

-- ---- the law

pub sources_print_alike : SourcesBehave → PrintedStays Definitions → SourcesPrintAlike
sources_print_alike behave prints = record {
  alike = λ text image source m parses encodable tokenizes stand.
      prints_alike structured_calls prints nest_calls (nest_of source.items) source.size m
      (behave.behaves text image source m parses encodable tokenizes stand);
}
