-- The image of a source behaves as the source means.
use Rattle.std.proofs.Common.{◌≡◌, ◌⊎◌, inl, inr, ℕ, suc, ◌+◌, ◌<◌, ◌≤◌, Bool, true, false, List, [], ◌∷◌, Option}
use Rattle.std.proofs.Common.{Some}
use Rattle.std.proofs.Common.{None, refl, sym, ap, ◌∙◌, subst, arith, if◌then◌else◌, option_and_then}
use Rattle.of_asking.specs.declared.query.Answer.{Answer}
use Rattle.of_asking.specs.declared.query.Query.{Query}
use Rattle.of_stream.specs.declared.stream.OffsetSize.{OffsetSize}
use Rattle.of_stream.specs.Bytes.{token_bytes}
use Rattle.of_stream.specs.Decoding.{token_from}
use Rattle.of_source.specs.Items.{bare}
use Rattle.of_source.specs.Nest.{IsWhole, Nest}
use Rattle.of_tok.specs.Laws.{HasTokens, NestsEndAtTheirPlaces}
use Rattle.of_tok.specs.Places.{first_place, past}
use Rattle.of_tok.specs.Tokens.{end_of, straight, tokens_of}
use Rattle.of_state.specs.State.{Calls, State}
use Rattle.of_eval_laws.specs.Throws.{ThrowsSettle}
use Rattle.of_eval_laws.specs.Tokens.{TokensAreTyped}
use Rattle.of_means.specs.Moments.{IsWaiting, Moment, exchanged, made, steps}
use Rattle.of_means.specs.Courses.{Course, On, Off, Out, Left, Thrown, Waits, Cut, Beyond}
use Rattle.of_means.specs.Means.{at, token_at}
use Rattle.of_means.specs.Correct.{Behaves, IsClosed, source_ended, source_means}
use Rattle.of_means.specs.Sources.{HasWords, WidensOutside}
use Rattle.of_means.specs.Laws.{DefinitionsAreRead, IsAt, SourceIsFollowed, StaysKept, WordsComeBack}
use Rattle.of_means.proofs.Steps.{no_longer, none_off, one_rest, plain_step, stays, steps_on, waiting_rests}
use Rattle.of_means.proofs.Runs.{token_found}
use Rattle.of_means.proofs.Stops.{end_does, end_stops}
use Rattle.of_means.proofs.Following.{Reached}
use Rattle.of_means.proofs.Spine.{follows as spine}

module _ {S : Type 0} (c : Calls S) (own : Nest → Calls S) (image : List ℕ) (z : OffsetSize) (Keeps : State S → Type 0)
    (settles : ThrowsSettle S) (typed : TokensAreTyped) (ends : NestsEndAtTheirPlaces) (kept : StaysKept c Keeps)
    (comes : (loops : List ℕ) → WordsComeBack c image loops Keeps)
    (defines : (loops : List ℕ) → DefinitionsAreRead c image loops Keeps own) (x : Nest)
    (m : Moment S)
  where
    abbrev begin : Moment S
    begin = at (first_place z) m

    -- what a course says of the run
    abbrev Follows : ℕ → Course S → Type 0
    Follows n (On t) = IsAt c image [] Keeps t × ((k : ℕ) × (steps c k begin ≡ Some (source_ended c own x z t)))
    Follows n (Off b t) = ⊥
    Follows n (Out t) = ⊥
    Follows n (Left e t) = ⊥
    Follows n (Thrown t) = (t.state.flow.is_running ≡ false) × ((k : ℕ) × (steps c k begin ≡ Some t))
    Follows n (Waits t) = IsWaiting c t × ((k : ℕ) × (steps c k begin ≡ Some t))
    Follows n (Cut t) =
        (k : ℕ) × (u : Moment S) × (n ≤ k) × (steps c k begin ≡ Some u) × (u.state.board ≡ t.state.board)
        × (exchanged u ≡ exchanged t)
    Follows n Beyond = Unit {0}

    none_less : (b : ℕ) → b < 0 → ⊥
    none_less b lt = omega (arith, lt)

    no_out : false ≡ true → ⊥
    no_out e = cc

    -- the end of the source is a step
    end_made : (t : Moment S) → IsAt c image [] Keeps t
        → token_from image (end_of x (first_place z)).position (end_of x (first_place z)).size
        ≡ Some (bare 0x000, (past 1 (end_of x (first_place z))).position)
        → made c (at (end_of x (first_place z)) t) ≡ Some (source_ended c own x z t)
    end_made t stand found =
        let e = end_of x (first_place z) in
        let q = past 1 e in
        token_found c image [] Keeps false e q (bare 0x000) t stand found refl
        ∙ plain_step c (token_at c (bare 0x000) e q) t (token_at c (bare 0x000) e q t.state) refl
        (ap (λ x. x.asks) (end_does c image [] Keeps typed e q t.state stand))

    follows_from : (n : ℕ) (f : Course S)
        → token_from image (end_of x (first_place z)).position (end_of x (first_place z)).size
        ≡ Some (bare 0x000, (past 1 (end_of x (first_place z))).position)
        → Reached c own image [] 0 (end_of x (first_place z)).size Keeps n begin
        (end_of x (first_place z)).position 0 [] false 0 f
        → Follows n f
    follows_from n (On t) end r = (
      r.0,
      (
        r.1.0 + 1,
        steps_on c r.1.0 1 begin _ r.1.1
            ∙ ap (λ o. option_and_then (λ u. steps c 0 u) o) (end_made t r.0 end),
      ),
    )
    follows_from n (Off b t) end r = absurd (none_less b r.1)
    follows_from n (Out t) end r = absurd (no_out r.0)
    follows_from n (Left e t) end r = absurd r.1
    follows_from n (Thrown t) end r = r
    follows_from n (Waits t) end r = r
    follows_from n (Cut t) end r = r
    follows_from n Beyond end r = tt

    -- the image of a whole nest
    follows : (n : ℕ) → IsWhole x → HasWords x → WidensOutside x 0 → HasTokens image (first_place z) (tokens_of z x)
        → IsAt c image [] Keeps m
        → Follows n (source_means c own x z n m)
    unfolding token_bytes tokens_of
    follows n whole words widens has stand =
        let p = first_place z in
        let e = end_of x p in
        let r = spine c own image Keeps settles typed ends kept comes defines x z n 0 p []
        (straight 0x000 e ∷ []) begin (On m)
        refl words widens whole.0 has (stand, stays c begin) in
        let end = ends image x p [] 0 (straight 0x000 e ∷ []) has in
        let r' = subst (λ (d : ℕ). Reached c own image [] 0 e.size Keeps n begin e.position d [] false 0
        (source_means c own x z n m))
        whole.1 r in
        follows_from n (source_means c own x z n m) end.1 r'

    -- where the run rests, the source ends, throws or waits
    rests_too : (k : ℕ) (last : Moment S) (f : Course S) → steps c k begin ≡ Some last → made c last ≡ None
        → Follows (suc k) f
        → ((t : Moment S) × (f ≡ On t) × (last ≡ source_ended c own x z t))
        ⊎ (f ≡ Thrown last) ⊎ (f ≡ Waits last) ⊎ (f ≡ Beyond)
    rests_too k last (On t) e d r =
        let q = end_of x (first_place z) in
        let off = none_off c (source_ended c own x z t) (end_stops c image [] Keeps typed q (past 1 q) t.state r.0) in
        inl (t, refl, one_rest c k r.1.0 begin last (source_ended c own x z t) e d r.1.1 off)
    rests_too k last (Off b t) e d r = absurd r
    rests_too k last (Out t) e d r = absurd r
    rests_too k last (Left y t) e d r = absurd r
    rests_too k last (Thrown t) e d r =
        inr (inl (ap Thrown (sym (one_rest c k r.1.0 begin last t e d r.1.1 (none_off c t r.0)))))
    rests_too k last (Waits t) e d r =
        inr (inr (inl (ap Waits (sym (one_rest c k r.1.0 begin last t e d r.1.1 (waiting_rests c t r.0))))))
    rests_too k last (Cut t) e d r =
        let le = no_longer c k r.0 begin last r.1 e d r.3 in absurd (omega (arith, le, r.2))
    rests_too k last Beyond e d r = inr (inr (inr refl))

    closed_by : (n : ℕ) (f : Course S) → Follows n f → IsClosed f
    closed_by n (On t) r = tt
    closed_by n (Off b t) r = absurd r
    closed_by n (Out t) r = absurd r
    closed_by n (Left e t) r = absurd r
    closed_by n (Thrown t) r = tt
    closed_by n (Waits t) r = tt
    closed_by n (Cut t) r = tt
    closed_by n Beyond r = tt

    pub behaves : IsWhole x → HasWords x → WidensOutside x 0 → HasTokens image (first_place z) (tokens_of z x)
        → IsAt c image [] Keeps m
        → Behaves c own x z m
    behaves whole words widens has stand =
        let f = λ (n : ℕ). follows n whole words widens has stand in
        let q = end_of x (first_place z) in
        record {
          ends = λ n t e. let r : Follows n (On t) = subst (Follows n) e (f n) in
              (r.1.0, r.1.1, end_stops c image [] Keeps typed q (past 1 q) t.state r.0);
          throws = λ n t e. let r : Follows n (Thrown t) = subst (Follows n) e (f n) in (r.1.0, r.1.1, r.0);
          waits = λ n t e. let r : Follows n (Waits t) = subst (Follows n) e (f n) in (r.1.0, r.1.1, r.0);
          goes_on = λ n t e. subst (Follows n) e (f n);
          closed = λ n. closed_by n (source_means c own x z n m) (f n);
          only = λ k last e d. (suc k, rests_too k last (source_means c own x z (suc k) m) e d (f (suc k)));
        }

-- the law, from those that it stands on
pub source_is_followed : {S : Type 0} (Keeps : List ℕ → State S → Type 0) → ThrowsSettle S → TokensAreTyped
    → NestsEndAtTheirPlaces → SourceIsFollowed S Keeps
source_is_followed Keeps settles typed ends = record {
  followed = λ c own image z x m whole words widens has stand kept comes defines.
      behaves c own image z (Keeps image) settles typed ends kept comes defines x m whole words widens has stand;
}
