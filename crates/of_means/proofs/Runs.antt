-- Branches that are open, and the step of the token at which the source stands.
use Rattle.std.proofs.Common.{◌≡◌, ℕ, ◌+◌, ◌-◌, ◌<◌, Bool, false, List, [], ◌∷◌, Option, Some, None}
use Rattle.std.proofs.Common.{refl, sym, ap, ◌∙◌, arith, if◌then◌else◌}
use Rattle.std.specs.Prelude.{◌==◌}
use Rattle.std.proofs.lemmas.Bool.{eq-eqb, ne_eqb}
use Rattle.of_stream.specs.declared.stream.OffsetSize.{OffsetSize}
use Rattle.of_stream.specs.Decoding.{Token, token_from}
use Rattle.of_stream.specs.Sizes.{size_behind}
use Rattle.of_asking.specs.declared.query.Query.{Query}
use Rattle.of_asking.specs.declared.query.Answer.{Answer}
use Rattle.of_tok.specs.declared.place.Place.{Place}
use Rattle.of_tok.specs.Tokens.{first, others}
use Rattle.of_flow.specs.Tokens.{typed_of}
use Rattle.of_eval.specs.Reading.{found_token, read_on, token_done}
use Rattle.of_eval.specs.Tokens.{spot_in}
use Rattle.of_state.specs.State.{Calls, State}
use Rattle.of_steps.specs.Steps.{due, replied}
use Rattle.of_means.specs.Moments.{Moment, answered_step, asked_step, fitting, made, next_due, step_by}
use Rattle.of_means.specs.Means.{at, at_place, token_at}
use Rattle.of_means.specs.Sources.{AtSource}
use Rattle.of_means.proofs.Steps.{made_by, same_step}

-- ---- where the branches lead

-- the target of branch b, of d that are open, by where these lead, latest first
abbrev pub aim : List ℕ → ℕ → ℕ → ℕ
aim [] d b = 0
aim (x ∷ xs) d b = if b == d - 1 then x else aim xs (d - 1) b

pub aim_under : (xs : List ℕ) (d b : ℕ) → b < d → aim (others xs) d b ≡ aim xs (d + 1) b
aim_under [] d b lt = refl
aim_under (x ∷ xs) d b lt =
    let e : d + 1 - 1 ≡ d = omega arith in
    let n : (b == d) ≡ false = ne_eqb b d (λ h. omega (arith, h, lt)) in
    sym
    (ap (λ (m : ℕ). if b == m then x else aim xs m b) e
    ∙ ap (λ v. if v then x else aim xs d b) n)

pub aim_latest : (xs : List ℕ) (d : ℕ) → aim xs (d + 1) d ≡ first xs
aim_latest [] d = refl
aim_latest (x ∷ xs) d =
    let e : d + 1 - 1 ≡ d = omega arith in
    ap (λ (m : ℕ). if d == m then x else aim xs m d) e ∙ ap (λ v. if v then x else aim xs d d) (eq-eqb d d refl)

-- ---- the machine at the source

-- wherever it stands
pub at_any : {S : Type 0} (image loops : List ℕ) (Keeps : State S → Type 0) (b : Bool) (p : Place) (s : State S)
    → AtSource image loops Keeps b s → AtSource image loops Keeps b (at_place p s)
at_any image loops Keeps b p s h = record {
  running = h.running;
  next = h.next;
  compiles = h.compiles;
  defines = h.defines;
  opened = h.opened;
  level = h.level;
  among = h.among;
  bytes = h.bytes;
  kept = h.kept;
}

module _ {S : Type 0} (c : Calls S) where
  answered_at : (p : Place) (m : Moment S) (q : Query) (o : Option Answer)
      → answered_step c (next_due c) q o (at p m) ≡ answered_step c (λ s. next_due c (at_place p s)) q o m
  answered_at p m q None = refl
  answered_at p m q (Some a) = refl

  asked_at : (p : Place) (m : Moment S) (o : Option Query)
      → asked_step c (next_due c) o (at p m) ≡ asked_step c (λ s. next_due c (at_place p s)) o m
  asked_at p m None = refl
  asked_at p m (Some q) = answered_at p m q (fitting q m.answers)

  -- what is due at a place
  pub due_at : (image loops : List ℕ) (Keeps : State S → Type 0) (b : Bool) (p q : Place) (t : Token) (s : State S)
      → AtSource image loops Keeps b s → token_from image p.position p.size ≡ Some (t, q.position)
      → q.size ≡ size_behind t.code.0 p.size → next_due c (at_place p s) ≡ token_at c t p q s
  due_at image loops Keeps b p q t s h e z =
      let s1 = at_place p s in
      ap (λ x. due c x s1) h.next
      ∙ ap (λ m. found_token c (token_from m p.position p.size) p.size p.position s1) h.bytes
      ∙ ap (λ o. found_token c o p.size p.position s1) e
      ∙ ap (λ (y : OffsetSize). token_done c (typed_of t) (spot_in s.board.memory p.position q.position)
      (read_on y q.position s)) (sym z)

  replied_at : (image loops : List ℕ) (Keeps : State S → Type 0) (b : Bool) (p q : Place) (t : Token) (a : Answer)
      (s : State S)
      → AtSource image loops Keeps b s → token_from image p.position p.size ≡ Some (t, q.position)
      → q.size ≡ size_behind t.code.0 p.size
      → next_due c (at_place p (replied a s)) ≡ token_at c t p q (replied a s)
  replied_at image loops Keeps b p q t a s h e z =
      let s0 = replied a s in
      let s1 = at_place p s0 in
      ap (λ x. due c x s1) h.next
      ∙ ap (λ m. found_token c (token_from m p.position p.size) p.size p.position s1) h.bytes
      ∙ ap (λ o. found_token c o p.size p.position s1) e
      ∙ ap (λ (y : OffsetSize). token_done c (typed_of t) (spot_in s.board.memory p.position q.position)
      (read_on y q.position s0)) (sym z)

  -- the token that stands at a place is done
  pub token_found : (image loops : List ℕ) (Keeps : State S → Type 0) (b : Bool) (p q : Place) (t : Token)
      (m : Moment S)
      → AtSource image loops Keeps b m.state → token_from image p.position p.size ≡ Some (t, q.position)
      → q.size ≡ size_behind t.code.0 p.size → made c (at p m) ≡ step_by c (token_at c t p q) m
  token_found image loops Keeps b p q t m h e z =
      made_by c (at p m) h.running
      ∙ asked_at p m (next_due c (at_place p m.state)).asks
      ∙ same_step c (λ s. next_due c (at_place p s)) (token_at c t p q) m
      (due_at image loops Keeps b p q t m.state h e z)
      (λ a. replied_at image loops Keeps b p q t a m.state h e z)
