-- The image follows the nest where offsets are made wider, too.
use Rattle.std.proofs.Common.{[]}
use Rattle.std.proofs.Common.{◌≡◌, inl, inr, ℕ, ◌<◌, Bool, true, false, List, Some}
use Rattle.std.proofs.Common.{refl, sym, ◌∙◌, subst, arith}
use Rattle.of_stream.specs.declared.stream.OffsetSize.{OffsetSize}
use Rattle.of_stream.specs.Bytes.{token_bytes}
use Rattle.of_source.specs.Items.{maker_token}
use Rattle.of_source.specs.Nest.{Fits, Nest, Stop, Plain, Definition, Defining, If, Else, Then, Begin, Do, Leave, Case}
use Rattle.of_source.specs.Nest.{Of}
use Rattle.of_source.specs.Nest.{open_behind, outside}
use Rattle.of_tok.specs.declared.place.Place.{Place}
use Rattle.of_tok.specs.Laws.{HasTokens, NestsEndAtTheirPlaces}
use Rattle.of_tok.specs.Places.{behind, past}
use Rattle.of_tok.specs.Tokens.{Written, aims_of, end_of, written}
use Rattle.of_state.specs.State.{Calls, State}
use Rattle.of_eval_laws.specs.Throws.{ThrowsSettle}
use Rattle.of_eval_laws.specs.Tokens.{TokensAreTyped}
use Rattle.of_means.specs.Moments.{Moment, steps}
use Rattle.of_means.specs.Courses.{Course, On, Off, Out, Left, Thrown, Waits, Cut, Beyond, through}
use Rattle.of_means.specs.Means.{at, defined, means, word}
use Rattle.of_means.specs.Sources.{HasWords, KeepsSize, WidensOutside}
use Rattle.of_means.specs.Laws.{DefinitionsAreRead, IsAt, IsRead, StaysKept, WordsComeBack}
use Rattle.of_means.proofs.Following.{Reached, after_comes, here, placed, word_behind}
use Rattle.of_means.proofs.Nests.{fixed, maker_steady, runs, size_kept, sized}

module _ {S : Type 0} (c : Calls S) (own : Nest → Calls S) (image : List ℕ) (Keeps : State S → Type 0)
    (settles : ThrowsSettle S) (typed : TokensAreTyped) (ends : NestsEndAtTheirPlaces) (kept : StaysKept c Keeps)
    (comes : (loops : List ℕ) → WordsComeBack c image loops Keeps)
    (defines : (loops : List ℕ) → DefinitionsAreRead c image loops Keeps own) where
  abbrev Reach : OffsetSize → ℕ → Moment S → ℕ → ℕ → List ℕ → Bool → ℕ → Course S → Type 0
  Reach z n s0 k d aims cases out f = Reached c own image [] 0 z Keeps n s0 k d aims cases out f

  none_less : (b : ℕ) → b < 0 → ⊥
  none_less b lt = omega (arith, lt)

  not_true : false ≡ true → ⊥
  not_true e = cc

  -- what comes through goes on with another size, where no branch is open
  shift : (z y : OffsetSize) (n : ℕ) (s0 : Moment S) (k k' : ℕ) (aims aims' : List ℕ) (f : Course S)
      (g : Moment S → Course S) → Reach z n s0 k 0 aims false 0 f
      → ((s : Moment S) → IsAt c image [] Keeps s
      → Reach y n (here c own image [] 0 z Keeps k s) k' 0 aims' false 0 (g s))
      → Reach y n s0 k' 0 aims' false 0 (through f g)
  shift z y n s0 k k' aims aims' (On t) g r h =
      after_comes c own image [] 0 y Keeps n s0 (here c own image [] 0 z Keeps k t) k' 0 aims' false 0 (g t) r.1
      (h t r.0)
  shift z y n s0 k k' aims aims' (Off b t) g r h = absurd (none_less b r.1)
  shift z y n s0 k k' aims aims' (Out t) g r h = absurd (not_true r.0)
  shift z y n s0 k k' aims aims' (Left e t) g r h = absurd r.1
  shift z y n s0 k k' aims aims' (Thrown t) g r h = r
  shift z y n s0 k k' aims aims' (Waits t) g r h = r
  shift z y n s0 k k' aims aims' (Cut t) g r h = r
  shift z y n s0 k k' aims aims' Beyond g r h = r

  read_behind : (y : OffsetSize) (n : ℕ) (p q : Place) (m : Moment S) (aims : List ℕ) (f : Course S) → q.size ≡ y
      → IsRead c image [] Keeps p q m f → Reach y n (at p m) q.position 0 aims false 0 f
  read_behind y n p q m aims (On t) zq r = (
    r.0,
    (
      r.1.0,
      subst (λ (u : Moment S). steps c r.1.0 (at p m) ≡ Some u)
          (placed c own image [] 0 y Keeps q t zq) r.1.1,
    ),
  )
  read_behind y n p q m aims (Thrown t) zq r = r
  read_behind y n p q m aims Beyond zq r = tt
  read_behind y n p q m aims (Off b t) zq r = absurd r
  read_behind y n p q m aims (Out t) zq r = absurd r
  read_behind y n p q m aims (Left x t) zq r = absurd r
  read_behind y n p q m aims (Waits t) zq r = absurd r
  read_behind y n p q m aims (Cut t) zq r = absurd r

  abbrev Follows : Nest → Type 0
  Follows x =
      (z : OffsetSize) (n d : ℕ) (p : Place) (to : List ℕ) (ws : List Written) (s0 : Moment S) (f : Course S)
      → p.size ≡ z → HasWords x → WidensOutside x d → Fits x outside 0 d → HasTokens image p (written x p to 0 ws)
      → Reach z n s0 p.position d (aims_of x p to) false 0 f
      → Reach (end_of x p).size n s0 (end_of x p).position (open_behind x d) to false 0 (means c own x n p d f)

  -- a word or a part that keeps the size, and then the others
  one_part : (w : Nest) (r : Nest) → Follows r → (z : OffsetSize) (n d : ℕ) (p : Place) (to : List ℕ)
      (ws : List Written) (s0 : Moment S) (f : Course S) → p.size ≡ z → HasWords w → KeepsSize w → Fits w outside 0 d
      → HasTokens image p (written w p (aims_of r (end_of w p) to) 0 (written r (end_of w p) to 0 ws))
      → HasWords r → WidensOutside r (open_behind w d) → Fits r outside 0 (open_behind w d)
      → Reach z n s0 p.position d (aims_of w p (aims_of r (end_of w p) to)) false 0 f
      → Reach (end_of r (end_of w p)).size n s0 (end_of r (end_of w p)).position (open_behind r (open_behind w d)) to
      false 0 (means c own r n (end_of w p) (open_behind w d) (means c own w n p d f))
  one_part w r more z n d p to ws s0 f e words keeps fits has rest_words widens rest_fits r0 =
      let q = end_of w p in
      let A = aims_of r q to in
      let k = fixed w words keeps in
      more z n (open_behind w d) q to ws s0 (means c own w n p d f) (sized z w p e k) rest_words widens rest_fits
      (ends image w p A 0 (written r q to 0 ws) has)
      (runs c own image z Keeps settles typed ends kept comes defines w [] 0 n outside 0 d p A 0
      (written r q to 0 ws) s0 f e k
      (omega arith) (omega arith) fits has r0)

  pub follows : (x : Nest) → Follows x
  unfolding token_bytes
  follows Stop z n d p to ws s0 f e words widens fits has r0 =
      subst (λ (y : OffsetSize). Reach y n s0 p.position d to false 0 f) (sym e) r0
  follows (Plain t r) z n d p to ws s0 f e words (inl steady, widens) fits has r0 =
      one_part (Plain t Stop) r (follows r) z n d p to ws s0 f e (words.0, tt)
      (steady, tt) tt has words.1 widens fits r0
  follows (Plain t r) z n d p to ws s0 f e words (inr none, widens) fits has r0 =
      let q = behind t p in
      let A = aims_of r q to in
      let g = word c n t p in
      follows r q.size n d q to ws s0 (through f g) refl words.1 widens fits has.3
      (subst (λ (y : ℕ). Reach q.size n s0 q.position y A false 0 (through f g)) (sym none)
      (shift z q.size n s0 p.position q.position A A f g
      (subst (λ (y : ℕ). Reach z n s0 p.position y A false 0 f) none r0)
      (λ s stand.
      subst (λ (u : Moment S). Reach q.size n u q.position 0 A false 0 (g s)) (placed c own image [] 0 z Keeps p s e)
      (word_behind c own image [] 0 q.size Keeps n t p s 0 A false 0 refl stand has.1
      (λ u h. comes [] n t p s u (inl words.0) stand has.1 h)))))
  follows (Definition y i r) z n d p to ws s0 f e words (inl keeps, widens) fits has r0 =
      one_part (Definition y i Stop) r (follows r) z n d p to ws s0 f e (words.0, tt) (keeps, tt)
      (fits.0, fits.1, fits.2, tt) has words.1 widens fits.3 r0
  follows (Definition y i r) z n d p to ws s0 f e words (inr none, widens) fits has r0 =
      let t = maker_token y in
      let k = behind t p in
      let b = past 1 k in
      let q = past 1 (end_of i b) in
      let A = aims_of r q to in
      let B = aims_of i b A in
      let g = defined c own i k in
      let zk : k.size ≡ z = size_kept t.code.0 p.size (maker_steady y) ∙ e in
      let f1 = through f (word c n t p) in
      let f2 = through f1 g in
      let after_inside = ends image i b A 0 _ has.3.3 in
      let r1 = shift z z n s0 p.position k.position B B f (word c n t p)
      (subst (λ (x : ℕ). Reach z n s0 p.position x B false 0 f) none r0)
      (λ s stand.
      subst (λ (u : Moment S). Reach z n u k.position 0 B false 0 (word c n t p s))
      (placed c own image [] 0 z Keeps p s e)
      (word_behind c own image [] 0 z Keeps n t p s 0 B false 0 zk stand has.1
      (λ u h. comes [] n t p s u (inr (inl (y, refl))) stand has.1 h))) in
      follows r q.size n d q to ws s0 f2 refl words.1 widens fits.3 after_inside.3
      (subst (λ (x : ℕ). Reach q.size n s0 q.position x A false 0 f2) (sym none)
      (shift z q.size n s0 k.position q.position B A f1 g r1
      (λ s stand.
      subst (λ (u : Moment S). Reach q.size n u q.position 0 A false 0 (g s)) (placed c own image [] 0 z Keeps k s zk)
      (read_behind q.size n k q s A (g s) refl (defines [] i d k A 0 _ s words.0 fits.1 fits.2 has.3 stand)))))
  follows (Defining y t r) z n d p to ws s0 f e words widens fits has r0 =
      one_part (Defining y t Stop) r (follows r) z n d p to ws s0 f e (words.0, tt) tt (fits.0, tt) has words.1 widens
      fits.1 r0
  follows (If l r) z n d p to ws s0 f e words widens fits has r0 =
      one_part (If l Stop) r (follows r) z n d p to ws s0 f e tt tt tt has words widens fits r0
  follows (Else l r) z n d p to ws s0 f e words widens fits has r0 =
      one_part (Else l Stop) r (follows r) z n d p to ws s0 f e tt tt (fits.0, tt) has words widens fits.1 r0
  follows (Then r) z n d p to ws s0 f e words widens fits has r0 =
      one_part (Then Stop) r (follows r) z n d p to ws s0 f e tt tt (fits.0, tt) has words widens fits.1 r0
  follows (Begin i v l r) z n d p to ws s0 f e words widens fits has r0 =
      one_part (Begin i v l Stop) r (follows r) z n d p to ws s0 f e (words.0, tt) (widens.0, tt)
      (fits.0, tt) has words.1
      widens.1 fits.1 r0
  follows (Do v k i l m r) z n d p to ws s0 f e words widens fits has r0 =
      one_part (Do v k i l m Stop) r (follows r) z n d p to ws s0 f e (words.0, tt) (widens.0, tt)
      (fits.0, fits.1, tt) has
      words.1 widens.1 fits.2 r0
  follows (Leave r) z n d p to ws s0 f e words widens fits has r0 =
      one_part (Leave Stop) r (follows r) z n d p to ws s0 f e tt tt (fits.0, tt) has words widens fits.1 r0
  follows (Case i r) z n d p to ws s0 f e words widens fits has r0 =
      one_part (Case i Stop) r (follows r) z n d p to ws s0 f e (words.0, tt) (widens.0, tt)
      (fits.0, fits.1, tt) has words.1
      widens.1 fits.2 r0
  follows (Of k i m r) z n d p to ws s0 f e words widens fits has r0 =
      one_part (Of k i m Stop) r (follows r) z n d p to ws s0 f e (words.0, tt) (widens.0, tt)
      (fits.0, fits.1, fits.2, fits.3, tt) has words.1 widens.1 fits.4 r0
