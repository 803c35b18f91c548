-- Loops over lists of blocks.
use Rattle.std.proofs.Common.{◌≡◌, ℕ, zero, suc, ◌+◌, ◌<◌, List, [], ◌∷◌, length, get_or}
use Rattle.std.proofs.Common.{drop, refl, sym, ap, arith}
use Rattle.std.specs.List.{remove}
use Rattle.of_memory.specs.DataSpace.{DataSpace, written}
use Rattle.of_nodes.specs.declared.properties.Span.{Span}
use Rattle.of_ihandles.specs.declared.slots.Slot.{Slot}
use Rattle.of_ihandles.specs.declared.slots.Template.{Template}
use Rattle.of_ihandles.specs.Blocks.{all_begun, begun, given, given_all}
use Rattle.of_ihandles.specs.Slots.{template_bytes}

-- what is left from an element on
pub next : {A : Type 0} (xs : List A) (i : ℕ) (x : A) → i < length xs → x ≡ get_or xs i x
    → drop i xs ≡ x ∷ drop (i + 1) xs
next [] i x l h = absurd (omega arith)
next (y ∷ ys) zero x l h = ap (λ z. z ∷ ys) (sym h)
next (y ∷ ys) (suc i) x l h =
    let e : suc i + 1 ≡ suc (i + 1) = omega arith in rw e (next ys i x (omega arith) h)

pub first_off : (bs : List Span) (b : Span) → 0 < length bs → b ≡ get_or bs 0 b → bs ≡ b ∷ remove bs 0
first_off [] b l h = absurd (omega arith)
first_off (c ∷ bs) b l h = ap (λ z. z ∷ bs) (sym h)

pub given_step : (m : DataSpace) (bs : List Span) (i : ℕ) (b : Span) → i < length bs → b ≡ get_or bs i b
    → given_all m (drop i bs) ≡ given_all (given m b) (drop (i + 1) bs)
given_step m bs i b l h = rw (next bs i b l h) refl

pub all_begun_step : (m : DataSpace) (bs : List Span) (t : Template) (i : ℕ) (b : Span) → i < length bs
    → b ≡ get_or bs i b
    → all_begun m (drop i bs) t ≡ all_begun (written m b.address.0 (template_bytes t)) (drop (i + 1) bs) t
all_begun_step m bs t i b l h = rw (next bs i b l h) refl

pub begun_step : (m : DataSpace) (b : Span) (bs : List Span) (ss : List Slot) (i : ℕ) (s : Slot) → i < length ss
    → s ≡ get_or ss i s
    → begun m (b ∷ bs) (drop i ss) ≡ begun (written m b.address.0 (template_bytes s.template)) bs (drop (i + 1) ss)
begun_step m b bs ss i s l h = rw (next ss i s l h) refl

pub begun_none : (m : DataSpace) (bs : List Span) (ss : List Slot) → length bs < 1 → begun m bs ss ≡ m
begun_none m [] [] l = refl
begun_none m [] (s ∷ ss) l = refl
begun_none m (b ∷ bs) ss l = absurd (omega arith)

pub ruleset begun_facts = (begun_step, begun_none)
