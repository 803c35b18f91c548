-- Nothing is due on top of the return stack where a definition begins.
use Rattle.std.proofs.Common.{◌≡◌, ℕ, nat_lt, Bool, true, false, List, ◌∷◌, length, Result, Ok, Err, refl}
use Rattle.of_stacks.specs.declared.throws.Throw.{Throw}
use Rattle.of_stacks.specs.declared.return_item.Continuation.{Continuation}
use Rattle.of_stacks.specs.declared.return_item.ReturnItem.{ReturnItem}
use Rattle.of_stacks.specs.declared.return_item.ReturnItem.TheVariants.{Return}
use Rattle.of_stacks.specs.Order.{refused_if}
use Rattle.of_stacks.specs.Returns.{fitting, has_due_top}
use Rattle.of_stacks.specs.Throws.{return_stack_overflow}
use Rattle.of_flow.specs.declared.control_state.Flow.{Flow}
use Rattle.of_flow.specs.Returns.{entered}

abbrev rests_within : Result Flow Throw → Type 0
rests_within (Ok f) = has_due_top f.items ≡ false
rests_within (Err t) = Unit {0}

chosen_entered : (b : Bool) (start : ℕ) (f : Flow) (to : Continuation) (r : List ReturnItem)
    → rests_within (entered start f (refused_if b return_stack_overflow (Return to ∷ r)))
chosen_entered true start f to r = tt
chosen_entered false start f to r = refl

pub entered_rests : (start : ℕ) (f g : Flow) (to : Continuation) (r : List ReturnItem)
    → entered start f (fitting (Return to ∷ r)) ≡ Ok g → has_due_top g.items ≡ false
entered_rests start f g to r left =
    let behind : rests_within (Ok g) = rw left at (chosen_entered (nat_lt 256 (length (Return to ∷ r))) start f to r) in
    behind
