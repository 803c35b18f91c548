-- The pieces of a reading stand in order, so its parts are tight.
use Rattle.std.proofs.Common.{◌≡◌, ℕ, suc, ◌<◌, ◌≤◌, Bool, true, false, List, [], ◌∷◌, ◌++◌, length, Option, Some, None}
use Rattle.std.proofs.Common.{refl, sym, ap, ◌∙◌, subst, arith, ◌⊎◌, ⊎_elim, inl, inr, ◌+◌}
use Rattle.std.specs.Prelude.{◌==◌, map, if◌then◌else◌, nat_lt}
use Rattle.std.proofs.lemmas.Bool.{ne_eqb, eq-eqb, ltb-false, ltb-true}
use Rattle.std.proofs.lemmas.List.{append-nil, append_assoc, length-append, length-map, map-append}
use Rattle.of_control.specs.Reading.{BlockStart, Gathered, NamedArm, NamedBlock, NamedBody, NamedChoice, NamedCounted}
use Rattle.of_control.specs.Reading.{NamedCycle, NamedEnd, NamedJump, NamedLeave, NamedOperation, OpenCase, OpenChoice}
use Rattle.of_control.specs.Reading.{OpenDo, OpenMark, OpenOf, Part, Piece, hoisted, joined, to_branch, to_structure}
use Rattle.of_control.specs.Reading.{with_part, Draft, PartlyRead, add_due, add_leave, all_parts, body_of, close_all}
use Rattle.of_control.specs.Reading.{close_block, close_case, close_counted, close_cycle, close_of, finished}
use Rattle.of_control.specs.Reading.{innermost_do, put, put_all, read_next, read_so_far, reading, with_last}
use Rattle.of_control.proofs.NamedBodies.{named_size}
use Rattle.of_control.proofs.Rising.{Ends, Goes, NamedBegins, NamedTight, NamedWay, Stays, kept_in, left, named_ways}
use Rattle.of_control.proofs.Rising.{HeldIn, Rise, held-joined, rise-joined, settled, tight-joined, ways-joined}
use Rattle.of_control.proofs.Rising.{tight-nameless, EndsAbove, block_by, cycle_by, reaches, rise-append, rise-kept}
use Rattle.of_control.proofs.Rising.{rise-left, rise-more, rise-settled}
use Rattle.of_control.specs.Element.{Back, Branch, Case, Do, Element, EndCase, EndOf, Leave, Loop, Mark, Of, Plain}
use Rattle.of_control.specs.Element.{Resolve, Roll}
use Rattle.of_control.specs.Body.{Body, IsScoped}
use Rattle.of_control.specs.Matching.{Opening, Partners}
use Rattle.of_control.specs.Tight.{Each, IsTight}
use Rattle.of_control.proofs.Pieces.{named_size-joined}

-- ---- what a body holds

-- a jump to c is in the body
pub record GoesIn {A : Type 0} (c : ℕ) (p : NamedBody A) : Type 0 where
  pub earlier : List NamedWay
  pub later : List NamedWay
  pub split : named_ways p ≡ earlier ++ (Goes c ∷ later)

-- the body begins with an Arm
abbrev pub IsArm : {A : Type 0} → NamedBody A → Type 0
IsArm (NamedArm o c p r) = Unit {0}
IsArm _ = ⊥

arm-joined : {A : Type 0} → (p s : NamedBody A) → IsArm p → IsArm (joined p s)
arm-joined p s h = grind (arith)

pub arm_begins : {A : Type 0} → (p : NamedBody A) → IsArm p → NamedBegins p
arm_begins p h = grind (arith)

pub goes_held : {A : Type 0} → (c : ℕ) (p : NamedBody A) → HeldIn c p → GoesIn c p
goes_held c p h = record { earlier = h.earlier; later = h.later; split = h.split }

pub goes-joined_first : {A : Type 0} → (c : ℕ) (p s : NamedBody A) → GoesIn c p → GoesIn c (joined p s)
goes-joined_first c p s f =
    let k = settled (named_size s == 0) in
    record {
      earlier = map k f.earlier;
      later = map k f.later ++ named_ways s;
      split =
          ways-joined p s
          ∙ ap (λ l. map k l ++ named_ways s) f.split
          ∙ ap (λ l. l ++ named_ways s) (map-append k f.earlier (Goes c ∷ f.later))
          ∙ append_assoc (map k f.earlier) (Goes c ∷ map k f.later) (named_ways s);
    }

goes-joined_last : {A : Type 0} → (c : ℕ) (p s : NamedBody A) → GoesIn c s → GoesIn c (joined p s)
goes-joined_last c p s f =
    let ws = map (settled (named_size s == 0)) (named_ways p) in
    record {
      earlier = ws ++ f.earlier;
      later = f.later;
      split =
          ways-joined p s
          ∙ ap (λ l. ws ++ l) f.split
          ∙ sym (append_assoc ws f.earlier (Goes c ∷ f.later));
    }

pub length-ways : {A : Type 0} → (p : NamedBody A) → length (named_ways p) ≡ named_size p
length-ways NamedEnd = refl
length-ways (NamedOperation a r) = ap suc (length-ways r)
length-ways (NamedLeave d r) = ap suc (length-ways r)
length-ways (NamedJump z b r) = ap suc (length-ways r)
length-ways (NamedBlock b p r) =
    grind (arith, length-ways p, length-ways r, left, named_size, kept_in, length-append, named_ways, length-map)
length-ways (NamedCycle c p r) = grind (arith, length-ways p, length-ways r, length-append, named_ways, length-map)
length-ways (NamedCounted q d p l r) =
    grind (arith, length-ways p, length-ways r, length-append, kept_in, named_ways, length-map)
length-ways (NamedChoice c p r) =
    grind (arith, length-ways p, length-ways r, length-append, kept_in, named_ways, length-map)
length-ways (NamedArm o c p r) =
    grind (arith, length-ways p, length-ways r, length-append, kept_in, named_ways, length-map)

-- a jump to another part goes on out of a Block or Cycle
goes_left :
    (b c : ℕ) (t : Bool) (ws es ls : List NamedWay) → (c ≡ b → ⊥) → ws ≡ es ++ (Goes c ∷ ls) →
    map (left b t) ws ++ [] ≡ map (left b t) es ++ (Goes c ∷ map (left b t) ls)
goes_left b c t ws es ls ne e = grind (arith, append-nil, left, map-append, ne_eqb)

soon_of :
    {A : Type 0} → (f : NamedWay → NamedWay) (c : ℕ) (p : NamedBody A) (g : GoesIn c p) →
    length (map f g.earlier) < named_size p
soon_of f c p g =
    let total = sym (length-ways p) ∙ ap length g.split ∙ length-append g.earlier (Goes c ∷ g.later) in
    omega (arith, total, length-map g.earlier f)

pub held_in_block :
    {A : Type 0} → (b c : ℕ) (p : NamedBody A) → (c ≡ b → ⊥) → GoesIn c p → HeldIn c (NamedBlock b p NamedEnd)
held_in_block b c p ne g =
    record {
      earlier = map (left b true) g.earlier;
      later = map (left b true) g.later;
      split = goes_left b c true (named_ways p) g.earlier g.later ne g.split;
      soon = soon_of (left b true) c p g;
    }

pub held_in_cycle :
    {A : Type 0} → (b c : ℕ) (p : NamedBody A) → (c ≡ b → ⊥) → GoesIn c p → HeldIn c (NamedCycle b p NamedEnd)
held_in_cycle b c p ne g =
    record {
      earlier = map (left b false) g.earlier;
      later = map (left b false) g.later;
      split = goes_left b c false (named_ways p) g.earlier g.later ne g.split;
      soon = soon_of (left b false) c p g;
    }

-- ---- the order of the pieces

abbrev pub none : ℕ → Type 0
none b = ⊥

-- Latest first, as seen from what comes next: the numbers of jumps and open marks rise and are below `high`, those of
-- open Blocks are below `top`. What comes next holds in its first part the jumps of the Blocks that begin just before
-- it, as H says, and is the first arm of a Choice that begins just before it, as B says.
abbrev pub Ordered : {A : Type 0} → ℕ → ℕ → (ℕ → Type 0) → Type 0 → List (Piece A) → Type 0
Ordered high top H B [] = Unit {0}
Ordered high top H B (Part p ∷ d) =
    NamedTight p × ((low : ℕ) × Rise low (named_ways p) high × Ordered low top (λ b. HeldIn b p) (IsArm p) d)
Ordered high top H B (BlockStart b ∷ d) = H b × (b < top) × Ordered high b H ⊥ d
Ordered high top H B (OpenMark c ∷ d) = (c < high) × Ordered c top none ⊥ d
Ordered high top H B (OpenChoice c ∷ d) = B × Ordered high top none ⊥ d
Ordered high top H B (OpenOf o c ∷ d) = Ordered high top none (Unit {0}) d
Ordered high top H B (_ ∷ d) = Ordered high top none ⊥ d

pub rise-high : (low a b : ℕ) (ws : List NamedWay) → a ≤ b → Rise low ws a → Rise low ws b
rise-high low a b [] l h = omega (arith, l, h)
rise-high low a b (Stays ∷ ws) l h = rise-high low a b ws l h
rise-high low a b (Ends x ∷ ws) l h = (h.0, rise-high (suc x) a b ws l h.1)
rise-high low a b (Goes x ∷ ws) l h = (h.0, rise-high (suc x) a b ws l h.1)

pub ordered-more :
    {A : Type 0} → (a b s t : ℕ) (H K : ℕ → Type 0) (B C : Type 0) (d : List (Piece A)) → a ≤ b → s ≤ t →
    ((e : ℕ) → e < s → H e → K e) → (B → C) → Ordered a s H B d → Ordered b t K C d
ordered-more a b s t H K B C [] l m f g h = tt
ordered-more a b s t H K B C (Part p ∷ d) l m f g h = (
  h.0,
  (
    h.1.0,
    rise-high h.1.0 a b (named_ways p) l h.1.1,
    ordered-more h.1.0 h.1.0 s t (λ e. HeldIn e p) (λ e. HeldIn e p) (IsArm p) (IsArm p) d (omega arith) m (λ e u x. x)
        (λ x. x) h.1.2,
  ),
)
ordered-more a b s t H K B C (BlockStart c ∷ d) l m f g h =
    grind (arith, ordered-more a b c c H K ⊥ ⊥ d l (omega arith))
ordered-more a b s t H K B C (OpenMark c ∷ d) l m f g h =
    grind (arith, ordered-more c c s t none none ⊥ ⊥ d (omega arith) m)
ordered-more a b s t H K B C (OpenDo q x ∷ d) l m f g h =
    ordered-more a b s t none none ⊥ ⊥ d l m (λ e u x. x) (λ x. x) h
ordered-more a b s t H K B C (OpenCase c ∷ d) l m f g h =
    ordered-more a b s t none none ⊥ ⊥ d l m (λ e u x. x) (λ x. x) h
ordered-more a b s t H K B C (OpenChoice c ∷ d) l m f g h =
    (g h.0, ordered-more a b s t none none ⊥ ⊥ d l m (λ e u x. x) (λ x. x) h.1)
ordered-more a b s t H K B C (OpenOf o c ∷ d) l m f g h =
    ordered-more a b s t none none (Unit {0}) (Unit {0}) d l m (λ e u x. x) (λ x. x) h

-- where nothing begins just before what comes next
pub ordered_any :
    {A : Type 0} → (a b s t : ℕ) (K : ℕ → Type 0) (C : Type 0) (d : List (Piece A)) → a ≤ b → s ≤ t →
    Ordered a s none ⊥ d → Ordered b t K C d
ordered_any a b s t K C d l m h = ordered-more a b s t none K ⊥ C d l m (λ e u x. absurd x) (λ x. absurd x) h

-- ---- gathering

-- what was gathered, or what comes next where that is nothing, holds e in its first part
abbrev pub HeldBy : {A : Type 0} → (ℕ → Type 0) → NamedBody A → ℕ → Type 0
HeldBy H p e = (H e × (p ≡ NamedEnd)) ⊎ HeldIn e p

-- the jump to c is in what was gathered or comes next
abbrev pub LaterBy : {A : Type 0} → (ℕ → Type 0) → NamedBody A → ℕ → Type 0
LaterBy H p c = H c ⊎ GoesIn c p

abbrev pub BegunBy : {A : Type 0} → Type 0 → NamedBody A → Type 0
BegunBy B p = (B × (p ≡ NamedEnd)) ⊎ IsArm p

-- these are below `top` and fall to `low` at the least
abbrev pub Falls : (ℕ → Type 0) → ℕ → List ℕ → ℕ → Type 0
Falls P top [] low = low ≤ top
Falls P top (c ∷ cs) low = P c × (c < top) × Falls P c cs low

falls-more :
    (P Q : ℕ → Type 0) (top low : ℕ) (cs : List ℕ) → ((c : ℕ) → P c → Q c) → Falls P top cs low → Falls Q top cs low
falls-more P Q top low [] f h = h
falls-more P Q top low (c ∷ cs) f h = (f c h.0, h.1, falls-more P Q c low cs f h.2)

pub falls_low : (P : ℕ → Type 0) (top low : ℕ) (cs : List ℕ) → Falls P top cs low → low ≤ top
falls_low P top low [] h = h
falls_low P top low (c ∷ cs) h = let k = h.1 in let r = falls_low P c low cs h.2 in omega (arith, k, r)

pub record IsBack {A : Type 0} (high top : ℕ) (H : ℕ → Type 0) (B : Type 0) (g : Gathered A) : Type 0 where
  pub mid : ℕ
  pub low : ℕ
  pub rise : Rise mid (named_ways g.inside) high
  pub tight : NamedTight g.inside
  pub blocks : Falls (LaterBy H g.inside) top g.blocks low
  pub rest : Ordered mid low (HeldBy H g.inside) (BegunBy B g.inside) (g.from ∷ g.before)

back_here :
    {A : Type 0} → (high top : ℕ) (H : ℕ → Type 0) (B : Type 0) (x : Piece A) (d : List (Piece A)) →
    Ordered high top H B (x ∷ d) →
    IsBack high top H B (record { blocks = []; inside = NamedEnd; from = x; before = d })
back_here high top H B x d h =
    record {
      mid = high;
      low = top;
      rise = omega arith;
      tight = tt;
      blocks = omega arith;
      rest = ordered-more high high top top H (HeldBy H NamedEnd) B (BegunBy B NamedEnd) (x ∷ d) (omega arith)
          (omega arith)
          (λ e u k. inl (k, refl)) (λ k. inl (k, refl)) h;
    }

back_part :
    {A : Type 0} → (high low top : ℕ) (H : ℕ → Type 0) (B : Type 0) (q : NamedBody A) (g : Gathered A) → NamedTight q →
    Rise low (named_ways q) high → IsBack low top (λ b. HeldIn b q) (IsArm q) g →
    IsBack high top H B (record { blocks = g.blocks; inside = joined g.inside q; from = g.from; before = g.before })
back_part high low top H B q g t r k =
    let i = g.inside in
    record {
      mid = k.mid;
      low = k.low;
      rise = rise-joined k.mid low high i q k.rise r;
      tight = tight-joined i q k.tight t;
      blocks = falls-more (LaterBy (λ b. HeldIn b q) i) (LaterBy H (joined i q)) top k.low g.blocks
          (λ c. ⊎_elim (λ f. inr (goes-joined_last c i q (goes_held c q f))) (λ f. inr (goes-joined_first c i q f)))
          k.blocks;
      rest = ordered-more k.mid k.mid k.low k.low (HeldBy (λ b. HeldIn b q) i) (HeldBy H (joined i q))
          (BegunBy (IsArm q) i)
          (BegunBy B (joined i q)) (g.from ∷ g.before) (omega arith) (omega arith)
          (λ e u. ⊎_elim (λ f. inr (subst (λ p. HeldIn e (joined p q)) (sym f.1) f.0)) (λ f. inr (held-joined e i q f)))
          (⊎_elim (λ f. inr (subst (λ p. IsArm (joined p q)) (sym f.1) f.0)) (λ f. inr (arm-joined i q f)))
          k.rest;
    }

abbrev pub BackIf : {A : Type 0} → ℕ → ℕ → (ℕ → Type 0) → Type 0 → Option (Gathered A) → Type 0
BackIf high top H B None = Unit {0}
BackIf high top H B (Some g) = IsBack high top H B g

back_if_part :
    {A : Type 0} → (high low top : ℕ) (H : ℕ → Type 0) (B : Type 0) (q : NamedBody A) (o : Option (Gathered A)) →
    NamedTight q → Rise low (named_ways q) high → BackIf low top (λ b. HeldIn b q) (IsArm q) o →
    BackIf high top H B (with_part q o)
back_if_part high low top H B q o t r k = grind (arith, back_part)

pub back_structure :
    {A : Type 0} → (high top : ℕ) (H : ℕ → Type 0) (B : Type 0) (d : List (Piece A)) → Ordered high top H B d →
    BackIf high top H B (to_structure d)
back_structure high top H B [] h = tt
back_structure high top H B (Part q ∷ d) h =
    back_if_part high h.1.0 top H B q _ h.0 h.1.1 (back_structure h.1.0 top (λ b. HeldIn b q) (IsArm q) d h.1.2)
back_structure high top H B (BlockStart c ∷ d) h = grind (arith, back_structure high c H ⊥ d h.2, ordered-more)
back_structure high top H B (x ∷ d) h = back_here high top H B x d h

pub back_branch :
    {A : Type 0} → (b high top : ℕ) (H : ℕ → Type 0) (B : Type 0) (d : List (Piece A)) → Ordered high top H B d →
    BackIf high top H B (to_branch b d)
back_branch b high top H B (Part q ∷ d) h =
    back_if_part high h.1.0 top H B q _ h.0 h.1.1 (back_branch b h.1.0 top (λ e. HeldIn e q) (IsArm q) d h.1.2)
back_branch b high top H B (BlockStart c ∷ d) h = grind (arith, back_branch b high c H ⊥ d h.2, back_here, ordered-more)
back_branch b high top H B _ h = tt

-- it is gathered back to the branch
abbrev pub IsFrom : {A : Type 0} → ℕ → Option (Gathered A) → Type 0
IsFrom b None = Unit {0}
IsFrom b (Some g) = g.from ≡ BlockStart b

pub from_branch : {A : Type 0} → (b : ℕ) (d : List (Piece A)) → IsFrom b (to_branch b d)
from_branch b (Part q ∷ d) = grind (arith, from_branch b d)
from_branch b (BlockStart c ∷ d) = grind (arith, from_branch b d)
from_branch b _ = tt

pub ordered-hoisted :
    {A : Type 0} → (high top low : ℕ) (P K : ℕ → Type 0) (C : Type 0) (bs : List ℕ) (d : List (Piece A)) →
    Falls P top bs low → ((c : ℕ) → low ≤ c → P c → K c) → Ordered high low K ⊥ d → Ordered high top K C (hoisted bs d)
ordered-hoisted high top low P K C [] d h f k = grind (arith, ordered-more)
ordered-hoisted high top low P K C (c ∷ cs) d h f k =
    (f c (falls_low P c low cs h.2) h.0, h.1, ordered-hoisted high c low P K ⊥ cs d h.2 f k)

-- ---- what ends with the last part

-- the last part isn't empty, and the Blocks that end with it have no numbers below b
abbrev EndsFrom : {A : Type 0} → ℕ → List (Piece A) → Type 0
EndsFrom b (Part p ∷ d) = (0 < named_size p) × Each (EndsAbove b) (named_ways p)
EndsFrom b _ = Unit {0}

ends-append :
    (b : ℕ) (xs ys : List NamedWay) → Each (EndsAbove b) xs → Each (EndsAbove b) ys → Each (EndsAbove b) (xs ++ ys)
ends-append b [] ys h k = k
ends-append b (x ∷ xs) ys h k = (h.0, ends-append b xs ys h.1 k)

ends-settled : (b : ℕ) (ws : List NamedWay) → Each (EndsAbove b) (map (settled false) ws)
ends-settled b [] = tt
ends-settled b (Stays ∷ ws) = (tt, ends-settled b ws)
ends-settled b (Ends x ∷ ws) = (tt, ends-settled b ws)
ends-settled b (Goes x ∷ ws) = (tt, ends-settled b ws)

ends-kept : (b : ℕ) (ws : List NamedWay) → Each (EndsAbove b) (map kept_in ws)
ends-kept b [] = tt
ends-kept b (w ∷ ws) = (tt, ends-kept b ws)

ends-block : (b : ℕ) (ws : List NamedWay) → Each (EndsAbove b) ws → Each (EndsAbove b) (map (left b true) ws)
ends-block b [] h = tt
ends-block b (Stays ∷ ws) h = (tt, ends-block b ws h.1)
ends-block b (Ends x ∷ ws) h = (h.0, ends-block b ws h.1)
ends-block b (Goes x ∷ ws) h = grind (arith, ends-block b ws h.1)

ends-cycle : (b c : ℕ) (ws : List NamedWay) → Each (EndsAbove b) (map (left c false) ws)
ends-cycle b c [] = tt
ends-cycle b c (Goes x ∷ ws) = grind (arith, ends-cycle b c ws)
ends-cycle b c (_ ∷ ws) = (tt, ends-cycle b c ws)

ends_less : (b t : ℕ) (ws : List NamedWay) → b ≤ t → Each (EndsAbove t) ws → Each (EndsAbove b) ws
ends_less b t [] l h = tt
ends_less b t (Ends x ∷ ws) l h = let g = h.0 in (omega (arith, g, l), ends_less b t ws l h.1)
ends_less b t (_ ∷ ws) l h = (tt, ends_less b t ws l h.1)

ends_lower : {A : Type 0} → (b t : ℕ) (d : List (Piece A)) → b ≤ t → EndsFrom t d → EndsFrom b d
ends_lower b t (Part p ∷ d) l h = (h.0, ends_less b t (named_ways p) l h.1)
ends_lower b t _ l h = tt

ends-joined :
    {A : Type 0} → (b : ℕ) (p q : NamedBody A) → 0 < named_size q → Each (EndsAbove b) (named_ways q) →
    Each (EndsAbove b) (named_ways (joined p q))
ends-joined b p q l h =
    let e : (named_size q == 0) ≡ false = ne_eqb _ 0 (λ g. omega (arith, g, l)) in
    subst (Each (EndsAbove b)) (sym (ways-joined p q ∙ ap (λ t. map (settled t) (named_ways p) ++ named_ways q) e))
    (ends-append b (map (settled false) (named_ways p)) (named_ways q) (ends-settled b (named_ways p)) h)

-- ---- closing branches

goes_later : {A : Type 0} → (c : ℕ) (p : NamedBody A) → LaterBy none p c → GoesIn c p
goes_later c p f = ⊎_elim (λ x. absurd x) (λ x. x) f

goes_by : {A : Type 0} → (c : ℕ) (p : NamedBody A) → HeldBy none p c → GoesIn c p
goes_by c p f = ⊎_elim (λ x. absurd x.0) (λ x. goes_held c p x) f

abbrev ClosedTo : {A : Type 0} → ℕ → ℕ → Draft A → Type 0
ClosedTo n b None = Unit {0}
ClosedTo n b (Some d) = Ordered n n none ⊥ d × EndsFrom b d

block_made :
    {A : Type 0} → (n b : ℕ) (g : Gathered A) → IsBack n n none ⊥ g → g.from ≡ BlockStart b →
    Each (EndsAbove b) (named_ways g.inside) → ClosedTo n b (close_block b (Some g))
block_made n b g k e h =
    let p = g.inside in
    let r = subst (λ f. Ordered k.mid k.low (HeldBy none p) (BegunBy ⊥ p) (f ∷ g.before)) e k.rest in
    let held : HeldIn b p = ⊎_elim (λ f. absurd f.0) (λ f. f) r.0 in
    let below = r.1 in
    let all = append-nil (map (left b true) (named_ways p)) in
    let total = sym (length-ways p) ∙ ap length held.split ∙ length-append held.earlier (Goes b ∷ held.later) in
    let rest = ordered-hoisted k.mid n k.low (LaterBy none p) (λ c. HeldIn c (NamedBlock b p NamedEnd)) ⊥ g.blocks
    g.before k.blocks (λ c l f. held_in_block b c p (λ x. omega (arith, x, l, below)) (goes_later c p f)) (ordered-more
    k.mid k.mid b k.low (HeldBy none p) (λ c. HeldIn c (NamedBlock b p NamedEnd)) ⊥ ⊥ g.before (omega arith) (omega
    (arith, below)) (λ c u f. held_in_block b c p (λ x. omega (arith, x, u)) (goes_by c p f)) (λ x. x) r.2) in (
      (
        (block_by k.mid n b p held k.rise h, k.tight, tt),
        (
          k.mid,
          subst (λ l. Rise k.mid l n) (sym all) (rise-left
              k.mid b n true (named_ways p) k.rise),
          rest,
        ),
      ),
      (
        omega (arith, total),
        subst (Each (EndsAbove b)) (sym all)
            (ends-block b (named_ways p) h),
      ),
    )

close_part :
    {A : Type 0} → (n b : ℕ) (q : NamedBody A) (o : Option (Gathered A)) → BackIf n n none ⊥ (with_part q o) →
    IsFrom b o → 0 < named_size q → Each (EndsAbove b) (named_ways q) → ClosedTo n b (close_block b (with_part q o))
close_part n b q None k f l h = tt
close_part n b q (Some g) k f l h =
    block_made n b (record { blocks = g.blocks; inside = joined g.inside q; from = g.from; before = g.before }) k f
    (ends-joined b g.inside q l h)

close_one :
    {A : Type 0} → (n b : ℕ) (d : List (Piece A)) → Ordered n n none ⊥ d → EndsFrom b d →
    ClosedTo n b (close_block b (to_branch b d))
close_one n b (Part q ∷ d) o h =
    close_part n b q (to_branch b d) (back_branch b n n none ⊥ (Part q ∷ d) o) (from_branch b d) h.0 h.1
close_one n b (BlockStart c ∷ d) o h = absurd o.0
close_one n b _ _ h = tt

-- the branches that are due fall from t
abbrev FallFrom : ℕ → List ℕ → Type 0
FallFrom t [] = Unit {0}
FallFrom t (b ∷ bs) = (b ≤ t) × FallFrom b bs

abbrev OrderedDraft : {A : Type 0} → ℕ → Draft A → Type 0
OrderedDraft n None = Unit {0}
OrderedDraft n (Some d) = Ordered n n none ⊥ d

close_due :
    {A : Type 0} → (n t : ℕ) (bs : List ℕ) (o : Draft A) → FallFrom t bs → ClosedTo n t o →
    OrderedDraft n (close_all bs o)
close_due n t [] None f h = tt
close_due n t [] (Some d) f h = h.0
close_due {A = A} n t (b ∷ bs) None f h = close_due {A = A} n b bs None f.1 tt
close_due n t (b ∷ bs) (Some d) f h =
    close_due n b bs (close_block b (to_branch b d)) f.1 (close_one n b d h.0 (ends_lower b t d f.0 h.1))

-- ---- one more element

-- in order, with no Block that ends with the last part
abbrev Rested : {A : Type 0} → ℕ → Draft A → Type 0
Rested n None = Unit {0}
Rested n (Some d) = Ordered n n none ⊥ d × ((t : ℕ) → EndsFrom t d)

-- a part after others
rested_part :
    {A : Type 0} {n low : ℕ} {B : Type 0} → (mid : ℕ) (q : NamedBody A) (d : List (Piece A)) → NamedTight q →
    Rise mid (named_ways q) n → 0 < named_size q → ((t : ℕ) → Each (EndsAbove t) (named_ways q)) →
    Ordered mid low none B d → low ≤ n → (B → IsArm q) → Rested n (Some (Part q ∷ d))
rested_part {n = n} {low = low} {B = B} mid q d t r s e o l f =
    let all = ordered-more mid mid low n none (λ x. HeldIn x q) B (IsArm q) d (omega arith) l (λ c u x. absurd x) f o in
    ((t, (mid, r, all)), λ u. (s, e u))

leave_rested :
    {A : Type 0} → (n : ℕ) (o : Option ℕ) (d : List (Piece A)) → Ordered n n none ⊥ d → Rested (suc n) (add_leave o d)
leave_rested n None d h = tt
leave_rested n (Some x) d h =
    rested_part n (NamedLeave x NamedEnd) d tt (omega arith) (omega arith) (λ t. (tt, tt)) h (omega arith)
    (λ e. absurd e)

branch_rested :
    {A : Type 0} → (n : ℕ) (z : Bool) (d : List (Piece A)) → Ordered n n none ⊥ d →
    Rested (suc n) (Some (Part (NamedJump z n NamedEnd) ∷ BlockStart n ∷ d))
branch_rested {A = A} n z d h =
    let p : NamedBody A = NamedJump z n NamedEnd in
    let held : HeldIn n p = record { earlier = []; later = []; split = refl; soon = omega arith } in (
      (
        tt,
        (
          n,
          (omega arith, omega arith),
          (
            held,
            omega arith,
            ordered_any n n n n (λ b. HeldIn b p) ⊥ d (omega arith) (omega arith) h,
          ),
        ),
      ),
      λ t. (omega arith, (tt, tt)),
    )

abbrev Made : {A : Type 0} → ℕ → (List ℕ → NamedBody A → Piece A → List (Piece A) → Draft A) → Type 0
Made {A = A} n f =
    (bs : List ℕ) (p : NamedBody A) (from : Piece A) (before : List (Piece A)) →
    IsBack n n none ⊥ (record { blocks = bs; inside = p; from = from; before = before }) →
    Rested (suc n) (f bs p from before)

falls_top : (P : ℕ → Type 0) (s t low : ℕ) (cs : List ℕ) → s ≤ t → Falls P s cs low → Falls P t cs low
falls_top P s t low [] l h = omega (arith, l, h)
falls_top P s t low (c ∷ cs) l h = let k = h.1 in (h.0, omega (arith, k, l), h.2)

cycle_made : {A : Type 0} → (n : ℕ) (z : Bool) → Made {A = A} n (close_cycle z)
cycle_made {A = A} n z bs p (OpenMark c) before k =
    let j : NamedBody A = NamedJump z c NamedEnd in
    let q = joined p j in
    let body : NamedBody A = NamedCycle c q NamedEnd in
    let r = k.rest in
    let below = r.0 in
    let ws = map (settled false) (named_ways p) in
    let here : left c false (Goes c) ≡ Stays =
    ap (λ t. if t then (if false then Ends c else Stays) else Goes c) (eq-eqb c c refl) in
    let all = append-nil (map (left c false) (named_ways q)) in
    let e =
    all
    ∙ ap (map (left c false)) (ways-joined p j)
    ∙ map-append (left c false) ws (Goes c ∷ [])
    ∙ ap (λ w. map (left c false) ws ++ (w ∷ [])) here in
    let up =
    rise-append c n (suc n) (map (left c false) ws) (Stays ∷ [])
    (rise-left c c n false ws (rise-settled c n false (named_ways p)
    (rise-more k.mid c n (named_ways p) (omega (arith, below)) k.rise)))
    (omega arith) in
    let other : (x : ℕ) → GoesIn x p → x ≡ c → ⊥ =
    λ x g s. let m = reaches k.mid x n g.earlier g.later (subst (λ l. Rise k.mid l n) g.split k.rise) in
    omega (arith, m, s, below) in
    let rest =
    ordered-hoisted c (suc n) k.low (LaterBy none p) (λ x. HeldIn x body) ⊥ bs before
    (falls_top (LaterBy none p) n (suc n) k.low bs (omega arith) k.blocks)
    (λ x l f. let g = goes_later x p f in held_in_cycle c x q (other x g) (goes-joined_first x p j g))
    (ordered_any c c k.low k.low (λ x. HeldIn x body) ⊥ before (omega arith) (omega arith) r.1) in (
      (
        (cycle_by c n z p (rise-more k.mid (suc c) n (named_ways p) below k.rise), tight-joined p j k.tight tt, tt),
        (c, subst (λ l. Rise c l (suc n)) (sym e) up, rest),
      ),
      λ t. (omega (arith, named_size-joined p j), subst (Each (EndsAbove t)) (sym all) (ends-cycle t c (named_ways q))),
    )
cycle_made n z bs p _ before k = tt

-- an item, what was gathered, which no jump leaves, and an item after it
rise-shut :
    (low n : ℕ) (ws : List NamedWay) → Rise low ws n → Rise low (map kept_in ws ++ (Stays ∷ [])) (suc n)
rise-shut low n ws h = rise-append low n (suc n) (map kept_in ws) (Stays ∷ []) (rise-kept low n ws h) (omega arith)

ends-shut : (t : ℕ) (ws : List NamedWay) → Each (EndsAbove t) (map kept_in ws ++ (Stays ∷ []))
ends-shut t ws = ends-append t (map kept_in ws) (Stays ∷ []) (ends-kept t ws) (tt, tt)

counted_made : {A : Type 0} → (n : ℕ) (l : Bool) → Made {A = A} n (close_counted l)
counted_made n l [] p (OpenDo q a) before k =
    let below = k.blocks in
    rested_part k.mid (NamedCounted q a p l NamedEnd) before (k.tight, tt) (rise-shut k.mid n (named_ways p) k.rise)
    (omega arith) (λ t. (tt, ends-shut t (named_ways p))) k.rest (omega (arith, below)) (λ x. absurd x)
counted_made n l _ p _ before k = tt

endof_made : {A : Type 0} → (n : ℕ) → Made {A = A} n close_of
endof_made n [] p (OpenOf o c) before k =
    let below = k.blocks in
    rested_part k.mid (NamedArm o c p NamedEnd) before (k.tight, tt) (rise-shut k.mid n (named_ways p) k.rise)
    (omega arith) (λ t. (tt, ends-shut t (named_ways p))) k.rest (omega (arith, below)) (λ x. x)
endof_made n _ p _ before k = tt

endcase_made : {A : Type 0} → (n : ℕ) → Made {A = A} n close_case
endcase_made {A = A} n [] p (OpenCase c) before k = grind (arith, ordered_any)
endcase_made {A = A} n [] p (OpenChoice c) before k =
    let below = k.blocks in
    let w = k.rest in
    let arm : IsArm p = ⊎_elim (λ f. absurd f.0) (λ f. f) w.0 in
    rested_part k.mid (NamedChoice c p NamedEnd) before (arm_begins p arm, k.tight, tt)
    (rise-shut k.mid n (named_ways p) k.rise) (omega arith) (λ t. ends-shut t (named_ways p)) w.1
    (omega (arith, below)) (λ x. absurd x)
endcase_made n _ p _ before k = tt

put_rested :
    {A : Type 0} → (n : ℕ) (e : Element A) (d : List (Piece A)) → Ordered n n none ⊥ d → Rested (suc n) (put n e d)
put_rested n (Plain k) d h =
    rested_part n (NamedOperation k NamedEnd) d tt (omega arith) (omega arith) (λ t. (tt, tt)) h (omega arith)
    (λ e. absurd e)
put_rested n (Branch z t) d h = branch_rested n z d h
put_rested n (Mark p) d h = ((omega arith, ordered_any n n n (suc n) none ⊥ d (omega arith) (omega arith) h), λ t. tt)
put_rested n (Do q) d h = (ordered_any n (suc n) n (suc n) none ⊥ d (omega arith) (omega arith) h, λ t. tt)
put_rested n Case d h = (ordered_any n (suc n) n (suc n) none ⊥ d (omega arith) (omega arith) h, λ t. tt)
put_rested n Leave d h = leave_rested n (innermost_do d) d h
put_rested n (Back z t) d h = grind (arith, back_structure, none, cycle_made)
put_rested n (Loop l) d h = grind (arith, back_structure, none, counted_made)
put_rested n Of d h = grind (arith, back_structure, ordered_any, rise-high, named_ways, none)
put_rested n EndOf d h = grind (arith, back_structure, endof_made)
put_rested n EndCase d h = grind (arith, back_structure, endcase_made)
put_rested n _ d h = tt

-- ---- the whole list

record ReadRested {A : Type 0} (n : ℕ) (r : PartlyRead A) : Type 0 where
  pub greatest : ℕ
  pub due : FallFrom greatest r.due
  pub pieces : Rested n r.pieces

fall_more : (s t : ℕ) (bs : List ℕ) → s ≤ t → FallFrom s bs → FallFrom t bs
fall_more s t [] l h = tt
fall_more s t (b ∷ bs) l h = let k = h.0 in (omega (arith, k, l), h.1)

fall_step :
    (t b c : ℕ) (cs : List ℕ) (u : Bool) → nat_lt c b ≡ u → b ≤ t → c ≤ t → FallFrom c cs →
    ((s : ℕ) → b ≤ s → FallFrom s cs → FallFrom s (add_due b cs)) →
    FallFrom t (if u then b ∷ c ∷ cs else c ∷ add_due b cs)
fall_step t b c cs u e l m h f = grind (arith, ltb-true, ltb-false)

fall_due : (t b : ℕ) (cs : List ℕ) → b ≤ t → FallFrom t cs → FallFrom t (add_due b cs)
fall_due t b [] l h = (l, tt)
fall_due t b (c ∷ cs) l h = fall_step t b c cs (nat_lt c b) refl l h.0 h.1 (λ s k g. fall_due s b cs k g)

rested_more : {A : Type 0} → (n : ℕ) (o : Draft A) → Rested n o → Rested (suc n) o
rested_more n o h = grind (arith, ordered_any, none)

closed_rested : {A : Type 0} → (n t : ℕ) (o : Draft A) → Rested n o → ClosedTo n t o
closed_rested n t o h = grind (arith)

all_put : {A : Type 0} → (n : ℕ) (e : Element A) (o : Draft A) → OrderedDraft n o → Rested (suc n) (put_all n e o)
all_put n e o h = grind (arith, put_rested)

abbrev flushed : {A : Type 0} → (n : ℕ) (r : PartlyRead A) → ReadRested n r → OrderedDraft n (close_all r.due r.pieces)
flushed n r h = close_due n h.greatest r.due r.pieces h.due (closed_rested n h.greatest r.pieces h.pieces)

next_rested :
    {A : Type 0} → (n : ℕ) (e : Element A) (o : Option Opening) (r : PartlyRead A) → ReadRested n r →
    ReadRested (suc n) (read_next n e o r)
next_rested n (Resolve p) (Some x) r h =
    record {
      greatest = h.greatest + x.at;
      due = fall_due (h.greatest + x.at) x.at r.due (omega arith)
          (fall_more h.greatest (h.greatest + x.at) r.due (omega arith) h.due);
      pieces = rested_more n r.pieces h.pieces;
    }
next_rested n (Roll k) o r h = record { greatest = h.greatest; due = h.due; pieces = rested_more n r.pieces h.pieces }
next_rested n _ _ r h = grind (arith, all_put, flushed)

read_rested : {A : Type 0} → (es : List (Element A)) (m : Partners) → ReadRested (length es) (read_so_far es m)
read_rested (e ∷ es) (o ∷ m) = next_rested (length es) e o (read_so_far es m) (read_rested es m)
read_rested _ _ = record { greatest = 0; due = tt; pieces = (tt, λ t. tt) }

-- ---- the end

abbrev AllTight : {A : Type 0} → Option (NamedBody A) → Type 0
AllTight None = Unit {0}
AllTight (Some q) = NamedTight q

last_tight :
    {A : Type 0} → (p : NamedBody A) (o : Option (NamedBody A)) → NamedTight p → AllTight o → AllTight (with_last p o)
last_tight p o h k = grind (arith, tight-joined)

parts_tight :
    {A : Type 0} → (high top : ℕ) (H : ℕ → Type 0) (B : Type 0) (d : List (Piece A)) → Ordered high top H B d →
    AllTight (all_parts d)
parts_tight high top H B (Part p ∷ d) h =
    last_tight p (all_parts d) h.0 (parts_tight h.1.0 top (λ b. HeldIn b p) (IsArm p) d h.1.2)
parts_tight high top H B _ h = tt

draft_tight : {A : Type 0} → (n : ℕ) (o : Draft A) → OrderedDraft n o → AllTight (finished o)
draft_tight n o h = grind (arith, parts_tight, none)

body_tight :
    {A : Type 0} → (o : Option (NamedBody A)) (b : Body A) → AllTight o → body_of o ≡ Some b →
    IsScoped 0 false false b →
    IsTight 0 false false b
body_tight o b h e s = grind (arith, tight-nameless)

-- a reading that is scoped is tight
pub reading_tight :
    {A : Type 0} → (es : List (Element A)) (m : Partners) (b : Body A) → reading es m ≡ Some b →
    IsScoped 0 false false b → IsTight 0 false false b
reading_tight es m b e s =
    let r = read_so_far es m in
    let o = close_all r.due r.pieces in
    body_tight (finished o) b (draft_tight (length es) o (flushed (length es) r (read_rested es m))) e s
