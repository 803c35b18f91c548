-- Properties through the parents of an instance, one instance at a time.
use Rattle.std.proofs.Common.{◌≡◌, ◌<◌, ◌-◌, ℕ, zero, suc, false, List, Option, None, Result, Ok, nat_eq, refl, ap}
use Rattle.std.proofs.Common.{◌∙◌, arith}
use Rattle.std.specs.Prelude.{if◌then◌else◌}
use Rattle.of_cells.specs.declared.cells.Cell.{Cell}
use Rattle.of_stacks.specs.declared.throws.Throw.{Throw}
use Rattle.of_nodes.specs.declared.properties.Property.{Property}
use Rattle.of_ihandles.specs.Instances.{parent_of}
use Rattle.of_board.specs.declared.board.Board.{Board}
use Rattle.of_instances.specs.Faults.{of_instance}
use Rattle.of_instances.specs.Finding.{inherited, or_above, property_of}

pub unrolled : (w : Board) (name : List ℕ) (n : ℕ) (ih : Cell) → 0 < n
    → inherited w name n ih
    ≡ or_above (property_of w name ih) (of_instance (parent_of w.instances ih)) (λ x. inherited w name (n - 1) x)
unfolding inherited
unrolled w name zero ih h = absurd (omega arith)
unrolled w name (suc n) ih h = let less : suc n - 1 ≡ n = omega arith in rw less refl

pub never : (w : Board) (name : List ℕ) (n : ℕ) (ih : Cell) → n ≡ 0 → inherited w name n ih ≡ Ok None
unfolding inherited
never w name zero ih e = refl
never w name (suc n) ih e = absurd (omega arith)

-- nothing was found of an instance that has a parent
pub goes_up : (w : Board) (name : List ℕ) (n : ℕ) (ih parent : Cell) → 0 < n → property_of w name ih ≡ Ok None
    → of_instance (parent_of w.instances ih) ≡ Ok parent → nat_eq parent.0 0 ≡ false
    → inherited w name n ih ≡ inherited w name (n - 1) parent
goes_up w name n ih parent h none above more =
    let rest : Cell → Result (Option Property) Throw = λ x. inherited w name (n - 1) x in
    unrolled w name n ih h
    ∙ ap (λ r. or_above r (of_instance (parent_of w.instances ih)) rest) none
    ∙ ap (λ r. or_above (Ok None) r rest) above
    ∙ ap (λ b. if b then Ok None else rest parent) more
