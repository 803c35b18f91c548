-- The image follows the nest.
use Rattle.std.proofs.Common.{◌≡◌, ℕ, suc, ◌+◌, ◌-◌, ◌≤◌, Bool, true, false, nat_eq, nat_lt, List, ◌∷◌}
use Rattle.std.proofs.Common.{Some, refl, sym, ap, ◌∙◌, subst, arith, eqb-true, inl, inr, if◌then◌else◌}
use Rattle.of_stacks.specs.Loops.{loop_on_top}
use Rattle.of_stream.specs.declared.stream.OffsetSize.{OffsetSize}
use Rattle.of_stream.specs.declared.stream.OffsetSize.TheVariants.{Two}
use Rattle.of_stream.specs.Bytes.{token_bytes}
use Rattle.of_stream.specs.Decoding.{Token, token_from}
use Rattle.of_stream.specs.Sizes.{size_behind}
use Rattle.of_fcodes.specs.declared.codes.FCode.{FCode}
use Rattle.of_source.specs.declared.keyword.Maker.{Maker}
use Rattle.of_source.specs.declared.keyword.Maker.TheVariants.{External, Named, Unnamed}
use Rattle.of_source.specs.Items.{Made, call, maker_token, making, own_code}
use Rattle.of_source.specs.Plain.{IsPlain, is_kind}
use Rattle.of_source.specs.Keywords.{fcode}
use Rattle.of_source.specs.Nest.{Around, Fits, Nest, Stop, Plain, Definition, Defining, If, Else, Then, Begin, Do}
use Rattle.of_source.specs.Nest.{Leave}
use Rattle.of_source.specs.Nest.{Case, Of, in_part, open_behind}
use Rattle.of_tok.specs.declared.place.Place.{Place}
use Rattle.of_tok.specs.Laws.{HasTokens, NestsEndAtTheirPlaces}
use Rattle.of_tok.specs.Places.{behind, past, past_offset}
use Rattle.of_tok.specs.Tokens.{Written, aimed, aims_of, branch_code, do_code, end_of, first, loop_code}
use Rattle.of_tok.specs.Tokens.{offset_of, others, straight, written}
use Rattle.of_flow.specs.declared.control.ControlWord.TheVariants as control
use Rattle.of_state.specs.State.{Calls, State}
use Rattle.of_eval_laws.specs.Throws.{ThrowsSettle}
use Rattle.of_eval_laws.specs.Tokens.{TokensAreTyped}
use Rattle.of_means.specs.Moments.{Moment, steps}
use Rattle.of_means.specs.Courses.{Course, On, Off, Out, Left, Thrown, Waits, Cut, Beyond, joins, past_loop}
use Rattle.of_means.specs.Courses.{through}
use Rattle.of_means.specs.Means.{at, controlled, counted, defined, do_word, forked, leaves, means, turns, word}
use Rattle.of_means.specs.Sources.{HasWords, IsSteady, IsWord, KeepsSize}
use Rattle.of_means.specs.Laws.{DefinitionsAreRead, IsRead, StaysKept, WordsComeBack}
use Rattle.of_means.proofs.Steps.{Comes, one_step, stays}
use Rattle.of_means.proofs.Runs.{aim, aim_latest, aim_under}
use Rattle.of_means.proofs.Aims.{aims_pass, least}
use Rattle.of_means.proofs.Following.{Moves, Reached, Stands, arrive, fewer, go_on, here, join_run, placed}
use Rattle.of_means.proofs.Following.{step_on, still, swap, widen, word_reached}
use Rattle.of_means.proofs.Turning.{branch_step, counted_run, do_reached, endof_step, fork_at, offset_behind}
use Rattle.of_means.proofs.Turning.{turns_run}
use Rattle.of_means.proofs.Bare.{case_step, endcase_run, leave_run, mark_step, resolve_step}

-- ---- the size of offsets stays

makes_steady : (k : Maker) (name : List ℕ) (c : FCode) → IsSteady (making k name c)
makes_steady Unnamed name c h = omega (arith, h)
makes_steady Named name c h = omega (arith, h)
makes_steady External name c h = omega (arith, h)

pub maker_steady : (m : Made) → IsSteady (maker_token m)
maker_steady m = makes_steady m.maker m.name (own_code m.number)

pub kind_steady : (t : FCode) → is_kind t.0 ≡ true → IsSteady (call t)
kind_steady t k h = no (sym (ap is_kind h) ∙ k)
  where
    no : false ≡ true → ⊥
    no e = cc

pub size_kept : (code : ℕ) (size : OffsetSize) → (code ≡ 0x0cc → ⊥) → size_behind code size ≡ size
size_kept code size h = same (nat_eq code 0x0cc) refl
  where
    same : (b : Bool) → nat_eq code 0x0cc ≡ b → size_behind code size ≡ size
    same true e = absurd (h (eqb-true code 0x0cc e))
    same false e = ap (λ (b : Bool). if b then Two else size) e

pub branch_short : (v : Bool) → (nat_lt (branch_code v) 256 ≡ true) × (nat_eq (branch_code v) 0x0cc ≡ false)
branch_short true = (refl, refl)
branch_short false = (refl, refl)

pub do_short : (v : Bool) → (nat_lt (do_code v) 256 ≡ true) × (nat_eq (do_code v) 0x0cc ≡ false)
do_short true = (refl, refl)
do_short false = (refl, refl)

pub loop_short : (v : Bool) → (nat_lt (loop_code v) 256 ≡ true) × (nat_eq (loop_code v) 0x0cc ≡ false)
loop_short true = (refl, refl)
loop_short false = (refl, refl)

-- a nest has words, and none makes offsets wider
abbrev pub Fixed : Nest → Type 0
Fixed Stop = Unit {0}
Fixed (Plain t r) = IsPlain t × IsSteady t × Fixed r
Fixed (Definition m i r) = Fixed i × Fixed r
Fixed (Defining m t r) = (is_kind t.0 ≡ true) × Fixed r
Fixed (If l r) = Fixed r
Fixed (Else l r) = Fixed r
Fixed (Then r) = Fixed r
Fixed (Begin i z l r) = Fixed i × Fixed r
Fixed (Do v k i l m r) = Fixed i × Fixed r
Fixed (Leave r) = Fixed r
Fixed (Case i r) = Fixed i × Fixed r
Fixed (Of k i m r) = Fixed i × Fixed r

pub fixed : (x : Nest) → HasWords x → KeepsSize x → Fixed x
fixed Stop h k = tt
fixed (Plain t r) h k = (h.0, k.0, fixed r h.1 k.1)
fixed (Definition m i r) h k = (fixed i h.0 k.0, fixed r h.1 k.1)
fixed (Defining m t r) h k = (h.0, fixed r h.1 k)
fixed (If l r) h k = fixed r h k
fixed (Else l r) h k = fixed r h k
fixed (Then r) h k = fixed r h k
fixed (Begin i z l r) h k = (fixed i h.0 k.0, fixed r h.1 k.1)
fixed (Do v y i l m r) h k = (fixed i h.0 k.0, fixed r h.1 k.1)
fixed (Leave r) h k = fixed r h k
fixed (Case i r) h k = (fixed i h.0 k.0, fixed r h.1 k.1)
fixed (Of y i m r) h k = (fixed i h.0 k.0, fixed r h.1 k.1)

fixed_words : (x : Nest) → Fixed x → HasWords x
fixed_words Stop h = tt
fixed_words (Plain t r) h = (h.0, fixed_words r h.2)
fixed_words (Definition m i r) h = (fixed_words i h.0, fixed_words r h.1)
fixed_words (Defining m t r) h = (h.0, fixed_words r h.1)
fixed_words (If l r) h = fixed_words r h
fixed_words (Else l r) h = fixed_words r h
fixed_words (Then r) h = fixed_words r h
fixed_words (Begin i z l r) h = (fixed_words i h.0, fixed_words r h.1)
fixed_words (Do v k i l m r) h = (fixed_words i h.0, fixed_words r h.1)
fixed_words (Leave r) h = fixed_words r h
fixed_words (Case i r) h = (fixed_words i h.0, fixed_words r h.1)
fixed_words (Of k i m r) h = (fixed_words i h.0, fixed_words r h.1)

pub sized : (z : OffsetSize) (x : Nest) (p : Place) → p.size ≡ z → Fixed x → (end_of x p).size ≡ z
sized z Stop p e h = e
sized z (Plain t r) p e h = sized z r (behind t p) (size_kept t.code.0 p.size h.1 ∙ e) h.2
sized z (Definition m i r) p e h =
    let b = past 1 (behind (maker_token m) p) in
    sized z r (past 1 (end_of i b)) (sized z i b (size_kept _ p.size (maker_steady m) ∙ e) h.0) h.1
sized z (Defining m t r) p e h =
    let b = behind (maker_token m) p in
    sized z r (behind (call t) b)
    (size_kept t.0 b.size (kind_steady t h.0) ∙ size_kept _ p.size (maker_steady m) ∙ e) h.1
sized z (If l r) p e h = sized z r (past_offset p) e h
sized z (Else l r) p e h = sized z r (past 1 (past_offset p)) e h
sized z (Then r) p e h = sized z r (past 1 p) e h
sized z (Begin i b l r) p e h = sized z r (past_offset (end_of i (past 1 p))) (sized z i (past 1 p) e h.0) h.1
sized z (Do v k i l m r) p e h =
    sized z r (past_offset (end_of i (past_offset p))) (sized z i (past_offset p) e h.0) h.1
sized z (Leave r) p e h = sized z r (past 1 p) e h
sized z (Case i r) p e h = sized z r (past 1 (end_of i (past 1 p))) (sized z i (past 1 p) e h.0) h.1
sized z (Of k i m r) p e h =
    sized z r (past_offset (end_of i (past_offset p))) (sized z i (past_offset p) e h.0) h.1

-- what stands behind a token with an offset
past_aimed : (image : List ℕ) (l k : ℕ) (p : Place) (to : ℕ) (ws : List Written) → nat_lt k 256 ≡ true
    → nat_eq k 0x0cc ≡ false → HasTokens image p (aimed l k p to ∷ ws) → HasTokens image (past_offset p) ws
past_aimed image l k p to ws short wide h =
    subst (λ (q : Place). HasTokens image q ws)
    (offset_behind k (offset_of (record { word = l; place = p; code = fcode k; target = to })) p short wide) h.3

-- ---- the main lemma

module _ {S : Type 0} (c : Calls S) (own : Nest → Calls S) (image : List ℕ) (z : OffsetSize) (Keeps : State S → Type 0)
    (settles : ThrowsSettle S) (typed : TokensAreTyped) (ends : NestsEndAtTheirPlaces) (kept : StaysKept c Keeps)
    (comes : (loops : List ℕ) → WordsComeBack c image loops Keeps)
    (defines : (loops : List ℕ) → DefinitionsAreRead c image loops Keeps own) where
  -- behind a part no fewer branches are open than the part found, and those lead where they led
  part_moves : (loops : List ℕ) (lo : ℕ) (i : Nest) (a : Around) (d d' : ℕ) (p : Place) (to : List ℕ) → Fits i a d d
      → open_behind i d ≡ d' → Moves c own image loops lo z Keeps d (aims_of i p to) d' to
  part_moves loops lo i a d d' p to h e b lt =
      let up = least i a d d (omega arith) h in
      let same : aim (aims_of i p to) d b ≡ aim to d' b =
      aims_pass i a d d p to b (omega arith) lt h ∙ ap (λ (m : ℕ). aim to m b) e in
      (omega (arith, up, e, lt), same)

  module _ (loops : List ℕ) (lo : ℕ) where
    abbrev Stand : Moment S → Type 0
    Stand m = Stands c own image loops lo z Keeps m

    abbrev spot : ℕ → Moment S → Moment S
    spot k m = here c own image loops lo z Keeps k m

    abbrev Reach : ℕ → Moment S → ℕ → ℕ → List ℕ → Bool → ℕ → Course S → Type 0
    Reach n s0 k d aims cases out f = Reached c own image loops lo z Keeps n s0 k d aims cases out f

    -- a word
    word_run : (n : ℕ) (t : Token) (p : Place) (d : ℕ) (aims : List ℕ) (cases : Bool) (out : ℕ) → p.size ≡ z → IsWord t
        → IsSteady t → token_from image p.position p.size ≡ Some (t, (behind t p).position) → (m : Moment S) → Stand m
        → Reach n (spot p.position m) (behind t p).position d aims cases out (word c n t p m)
    word_run n t p d aims cases out e is steady found m stand =
        word_reached c own image loops lo z Keeps n t p m d aims cases out e
        (size_kept t.code.0 p.size steady ∙ e) stand
        found (λ u h. comes loops n t p m u is stand found h)

    -- a definition
    read_reached : (n : ℕ) (p q : Place) (m : Moment S) (d : ℕ) (aims : List ℕ) (cases : Bool) (out : ℕ) (f : Course S)
        → p.size ≡ z → q.size ≡ z → IsRead c image loops Keeps p q m f
        → Reach n (spot p.position m) q.position d aims cases out f
    read_reached n p q m d aims cases out (On t) e zq r = (
      r.0,
      (
        r.1.0,
        subst (λ (u : Moment S). steps c r.1.0 u ≡ Some (spot q.position t))
            (placed c own image loops lo z Keeps p m e)
            (subst (λ (u : Moment S). steps c r.1.0 (at p m) ≡ Some u)
            (placed c own image loops lo z Keeps q t zq) r.1.1),
      ),
    )
    read_reached n p q m d aims cases out (Thrown t) e zq r = (
      r.0,
      (
        r.1.0,
        subst (λ (u : Moment S). steps c r.1.0 u ≡ Some t)
            (placed c own image loops lo z Keeps p m e) r.1.1,
      ),
    )
    read_reached n p q m d aims cases out Beyond e zq r = tt
    read_reached n p q m d aims cases out (Off b t) e zq r = absurd r
    read_reached n p q m d aims cases out (Out t) e zq r = absurd r
    read_reached n p q m d aims cases out (Left x t) e zq r = absurd r
    read_reached n p q m d aims cases out (Waits t) e zq r = absurd r
    read_reached n p q m d aims cases out (Cut t) e zq r = absurd r

  abbrev Runs : Nest → Type 0
  Runs x =
      (loops : List ℕ) (lo n : ℕ) (a : Around) (floor d : ℕ) (p : Place) (to : List ℕ) (out : ℕ) (ws : List Written)
      (s0 : Moment S) (f : Course S) → p.size ≡ z → Fixed x → lo ≤ floor → floor ≤ d → Fits x a floor d
      → HasTokens image p (written x p to out ws)
      → Reach loops lo n s0 p.position d (aims_of x p to) a.cases out f
      → Reach loops lo n s0 (end_of x p).position (open_behind x d) to a.cases out (means c own x n p d f)

  pub runs : (x : Nest) → Runs x
  unfolding token_bytes
  runs Stop loops lo n a floor d p to out ws s0 f e st ll le fits has r0 = r0
  runs (Plain t r) loops lo n a floor d p to out ws s0 f e st ll le fits has r0 =
      let q = behind t p in
      let zq : q.size ≡ z = size_kept t.code.0 p.size st.1 ∙ e in
      let A = aims_of r q to in
      runs r loops lo n a floor d q to out ws s0 _ zq st.2 ll le fits has.3
      (go_on c own image loops lo z Keeps n s0 p.position q.position d d A A a.cases out f (word c n t p)
      (still c own image loops lo z Keeps d A) r0 (word_run loops lo n t p d A a.cases out e (inl st.0) st.1 has.1))
  runs (Definition y i r) loops lo n a floor d p to out ws s0 f e st ll le fits has r0 =
      let t = maker_token y in
      let k = behind t p in
      let b = past 1 k in
      let q = past 1 (end_of i b) in
      let A = aims_of r q to in
      let B = aims_of i b A in
      let zk : k.size ≡ z = size_kept t.code.0 p.size (maker_steady y) ∙ e in
      let zq = sized z i b zk st.0 in
      let after_inside = ends image i b A out _ has.3.3 in
      runs r loops lo n a floor d q to out ws s0 _ zq st.1 ll le fits.3 after_inside.3
      (go_on c own image loops lo z Keeps n s0 k.position q.position d d B A a.cases out (through f (word c n t p))
      (defined c own i k)
      (part_moves loops lo i _ d d b A fits.1 fits.2)
      (go_on c own image loops lo z Keeps n s0 p.position k.position d d B B a.cases out f (word c n t p)
      (still c own image loops lo z Keeps d B) r0
      (word_run loops lo n t p d B a.cases out e (inr (inl (y, refl))) (maker_steady y) has.1))
      (λ s stand.
      read_reached loops lo n k q s d A a.cases out (defined c own i k s) zk zq
      (defines loops i d k A out _ s (fixed_words i st.0) fits.1 fits.2 has.3 stand)))
  runs (Defining y t r) loops lo n a floor d p to out ws s0 f e st ll le fits has r0 =
      let w = maker_token y in
      let k = behind w p in
      let q = behind (call t) k in
      let A = aims_of r q to in
      let zk : k.size ≡ z = size_kept w.code.0 p.size (maker_steady y) ∙ e in
      let zq : q.size ≡ z = size_kept t.0 k.size (kind_steady t st.0) ∙ zk in
      runs r loops lo n a floor d q to out ws s0 _ zq st.1 ll le fits.1 has.3.3
      (go_on c own image loops lo z Keeps n s0 k.position q.position d d A A a.cases out (through f (word c n w p))
      (word c n (call t) k)
      (still c own image loops lo z Keeps d A)
      (go_on c own image loops lo z Keeps n s0 p.position k.position d d A A a.cases out f (word c n w p)
      (still c own image loops lo z Keeps d A) r0
      (word_run loops lo n w p d A a.cases out e (inr (inl (y, refl))) (maker_steady y) has.1))
      (word_run loops lo n (call t) k d A a.cases out zk (inr (inr (st.0, refl))) (kind_steady t st.0) has.3.1))
  runs (If l r) loops lo n a floor d p to out ws s0 f e st ll le fits has r0 =
      let q = past_offset p in
      let A = aims_of r q to in
      runs r loops lo n a floor (d + 1) q to out ws s0 _ e st ll (omega (arith, le)) fits
      (past_aimed image l 0x014 p (first A) _ refl refl has)
      (go_on c own image loops lo z Keeps n s0 p.position q.position d (d + 1) (others A) A a.cases out f
      (λ s. forked c (controlled control.BranchIfZero 0 s) (at q s) (Off d) On)
      (λ b lt. (omega (arith, lt), aim_under A d b lt)) r0
      (λ s stand.
      fewer c own image loops lo z Keeps n (suc n) (spot loops lo p.position s) q.position (d + 1) A a.cases out _
      (omega arith)
      (fork_at c own image loops lo z Keeps settles typed kept n l 0x014 p (first A) control.BranchIfZero s q.position
      (d + 1) A
      a.cases out (Off d) On e typed.branch_if_zero refl refl refl refl stand (has.1, has.2)
      (λ t there. (
        omega (arith, ll, le),
        omega arith,
        there,
        subst (λ (y : ℕ). Comes c (spot loops lo (first A) t) (spot loops lo y t)) (sym (aim_latest A d))
            (stays c (spot loops lo (first A) t)),
      ))
      (λ t there. (there, stays c (spot loops lo q.position t))))))
  runs (Else l r) loops lo n a floor d p to out ws s0 f e st ll le fits has r0 =
      let q = past 1 (past_offset p) in
      let A = aims_of r q to in
      let rest : HasTokens image (past_offset p) (straight 0x0b2 (past_offset p) ∷ written r q to out ws) =
      past_aimed image l 0x013 p (first A) (straight 0x0b2 (past_offset p) ∷ written r q to out ws) refl refl has in
      runs r loops lo n a floor d q to out ws s0 _ e st ll le fits.1 rest.3
      (swap c own image loops lo z Keeps n s0 p.position q.position d A a.cases out f (omega (arith, ll, fits.0))
      (λ s stand. branch_step c own image loops lo z Keeps settles typed kept s l p (first A) e stand (has.1, has.2))
      r0)
  runs (Then r) loops lo n a floor d p to out ws s0 f e st ll le fits has r0 =
      let q = past 1 p in
      let A = aims_of r q to in
      runs r loops lo n a floor (d - 1) q to out ws s0 _ e st ll (omega (arith, fits.0)) fits.1 has.3
      (arrive c own image loops lo z Keeps n s0 p.position q.position d A a.cases out f
      (λ s stand. resolve_step c own image loops lo z Keeps settles typed kept s p e stand (has.1, has.2)) r0)
  runs (Begin i v l r) loops lo n a floor d p to out ws s0 f e st ll le fits has r0 =
      let b = past 1 p in
      let k = end_of i b in
      let q = past_offset k in
      let A = aims_of r q to in
      let d' = open_behind i d in
      let zk = sized z i b e st.0 in
      let tail = ends image i b A out _ has.3 in
      let short = branch_short v in
      let up = least i (in_part a) d d (omega arith) fits.0 in
      runs r loops lo n a floor d' q to out ws s0 _ zk st.1 ll (omega (arith, up, le)) fits.1
      (past_aimed image l (branch_code v) k b.position _ short.0 short.1 tail)
      (go_on c own image loops lo z Keeps n s0 p.position q.position d d' (aims_of i b A) A a.cases out f
      (turns c own n v q (λ s. means c own i n b d (On s)))
      (part_moves loops lo i (in_part a) d d' b A fits.0 refl) r0
      (λ s stand.
      step_on c own image loops lo z Keeps n (spot loops lo p.position s)
      (spot loops lo b.position s) q.position d' A a.cases out _
      (mark_step c own image loops lo z Keeps settles typed kept s p e stand (has.1, has.2))
      (turns_run c own image loops lo z Keeps settles typed kept n v l k b.position d' A a.cases out
      (λ u. means c own i n b d (On u)) zk (tail.1, tail.2)
      (λ u there.
      widen c own image loops lo z Keeps n (spot loops lo b.position u) k.position d' A out a.cases out
      (means c own i n b d (On u))
      (runs i loops lo n (in_part a) d d b A out _ (spot loops lo b.position u) (On u) e st.0 (omega (arith, ll, le))
      (omega arith) fits.0 has.3
      (there, stays c (spot loops lo b.position u))))
      n (omega arith) s stand)))
  runs (Do v y i l m r) loops lo n a floor d p to out ws s0 f e st ll le fits has r0 =
      let b = past_offset p in
      let k = end_of i b in
      let q = past_offset k in
      let A = aims_of r q to in
      let zk = sized z i b e st.0 in
      let enter = do_short v in
      let again = loop_short l in
      let inner = past_aimed image y (do_code v) p q.position _ enter.0 enter.1 has in
      let tail = ends image i b A q.position _ inner in
      let round : Around = record { defines = a.defines; loops = true; cases = false } in
      let inside : Moment S → Course S = λ u. means c own i n b d (On u) in
      runs r loops lo n a floor d q to out ws s0 _ zk st.1 ll le fits.2
      (past_aimed image m (loop_code l) k b.position _ again.0 again.1 tail)
      (go_on c own image loops lo z Keeps n s0 p.position q.position d d (aims_of i b A) A a.cases out f
      (λ s. forked c (controlled (do_word v) q.position s) (at b s) On
      (λ t. past_loop q.position (counted c own n l q inside t)))
      (part_moves loops lo i round d d b A fits.0 fits.1) r0
      (λ s stand.
      fewer c own image loops lo z Keeps n (suc n) (spot loops lo p.position s) q.position d A a.cases out _
      (omega arith)
      (do_reached c own image loops lo z Keeps settles typed kept n v y p q.position q.position d A a.cases out On
      (λ t. past_loop q.position (counted c own n l q inside t)) e (has.1, has.2)
      (λ t there. (there, stays c (spot loops lo q.position t)))
      (λ t there.
      counted_run c own image loops lo z Keeps settles typed kept n l m k b.position d A a.cases out q.position inside
      zk
      (tail.1, tail.2)
      (λ u there'.
      subst (λ (x : ℕ). Reached c own image (q.position ∷ loops) d z Keeps n
      (spot loops lo b.position u) k.position x A
      false q.position (inside u)) fits.1
      (runs i (q.position ∷ loops) d n round d d b A q.position _ (spot loops lo b.position u) (On u) e st.0
      (omega arith)
      (omega arith) fits.0 inner (there', stays c (spot loops lo b.position u))))
      n (omega arith) t there)
      s stand)))
  runs (Leave r) loops lo n a floor d p to out ws s0 f e st ll le fits has r0 =
      let q = past 1 p in
      let A = aims_of r q to in
      runs r loops lo n a floor d q to out ws s0 _ e st ll le fits.1 has.3
      (go_on c own image loops lo z Keeps n s0 p.position q.position d d A A a.cases out f
      (λ s. leaves c (loop_on_top s.state.flow.items) (at q s)) (still c own image loops lo z Keeps d A) r0
      (λ s stand. leave_run c own image loops lo z Keeps settles typed kept n s p d A a.cases out e stand
      (has.1, has.2)))
  runs (Case i r) loops lo n a floor d p to out ws s0 f e st ll le fits has r0 =
      let b = past 1 p in
      let k = end_of i b in
      let q = past 1 k in
      let A = aims_of r q to in
      let zk = sized z i b e st.0 in
      let tail = ends image i b A q.position _ has.3 in
      let round : Around = record { defines = a.defines; loops = a.loops; cases = true } in
      let last : Moment S → Course S = λ t. forked c (controlled control.EndCase 0 t) (at q t) On On in
      runs r loops lo n a floor d q to out ws s0 _ zk st.1 ll le fits.2 tail.3
      (go_on c own image loops lo z Keeps n s0 p.position q.position d d (aims_of i b A) A a.cases out f
      (λ s. joins (through (means c own i n b d (On s)) last))
      (part_moves loops lo i round d d b A fits.0 fits.1) r0
      (λ s stand.
      step_on c own image loops lo z Keeps n (spot loops lo p.position s)
      (spot loops lo b.position s) q.position d A a.cases out _
      (case_step c own image loops lo z Keeps settles typed kept s p e stand (has.1, has.2))
      (join_run c own image loops lo z Keeps n (spot loops lo b.position s) q.position d A a.cases out
      (through (means c own i n b d (On s)) last)
      (go_on c own image loops lo z Keeps n (spot loops lo b.position s) k.position q.position d d A A true q.position
      (means c own i n b d (On s)) last (still c own image loops lo z Keeps d A)
      (subst (λ (x : ℕ). Reach loops lo n (spot loops lo b.position s) k.position x A true q.position
      (means c own i n b d (On s)))
      fits.1
      (runs i loops lo n round d d b A q.position _ (spot loops lo b.position s) (On s) e st.0 (omega (arith, ll, le))
      (omega arith) fits.0 has.3
      (stand, stays c (spot loops lo b.position s))))
      (λ t there. endcase_run c own image loops lo z Keeps settles typed kept n t k d A true q.position zk there
      (tail.1, tail.2))))))
  runs (Of y i m r) loops lo n a floor d p to out ws s0 f e st ll le fits has r0 =
      let b = past_offset p in
      let k = end_of i b in
      let q = past_offset k in
      let A = aims_of r q to in
      let zk = sized z i b e st.0 in
      let inner = past_aimed image y 0x01c p q.position _ refl refl has in
      let tail = ends image i b A q.position _ inner in
      let arm : Moment S → Course S = λ t. through (means c own i n b d (On t)) Out in
      runs r loops lo n a floor d q to out ws s0 _ zk st.1 ll le fits.4
      (past_aimed image m 0x0c6 k out _ refl refl tail)
      (go_on c own image loops lo z Keeps n s0 p.position q.position d d (aims_of i b A) A a.cases out f
      (λ s. forked c (controlled control.Of 0 s) (at b s) On arm)
      (part_moves loops lo i (in_part a) d d b A fits.2 fits.3) r0
      (λ s stand.
      fewer c own image loops lo z Keeps n (suc n) (spot loops lo p.position s) q.position d A a.cases out _
      (omega arith)
      (fork_at c own image loops lo z Keeps settles typed kept n y 0x01c p q.position control.Of s q.position d A
      a.cases out
      On arm e typed.of refl refl refl refl stand (has.1, has.2)
      (λ t there. (there, stays c (spot loops lo q.position t)))
      (λ t there.
      go_on c own image loops lo z Keeps n (spot loops lo b.position t) k.position q.position d d A A a.cases out
      (means c own i n b d (On t)) Out
      (still c own image loops lo z Keeps d A)
      (widen c own image loops lo z Keeps n (spot loops lo b.position t) k.position d A q.position a.cases out
      (means c own i n b d (On t))
      (subst (λ (w : ℕ). Reach loops lo n (spot loops lo b.position t) k.position w A false q.position
      (means c own i n b d (On t)))
      fits.3
      (runs i loops lo n (in_part a) d d b A q.position _ (spot loops lo b.position t) (On t) e st.0
      (omega (arith, ll, le)) (omega arith) fits.2 inner
      (there, stays c (spot loops lo b.position t)))))
      (λ u there'. (
        fits.0,
        there',
        one_step c (spot loops lo k.position u) (spot loops lo out u)
            (endof_step c own image loops lo z Keeps settles typed kept u m k out zk there' (tail.1, tail.2)),
      ))))))
