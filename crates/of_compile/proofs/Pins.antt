-- Definitions worked by hand, behind a word of three cells.
use Rattle.std.proofs.Common.{◌≡◌, true, false, List, [], ◌∷◌, Option, Some, None, refl}
use Rattle.of_code.specs.declared.item.Item.{Item}
use Rattle.of_code.specs.declared.item.Item.TheVariants as I
use Rattle.of_control.specs.Element.{Element, Plain, Branch, Resolve, Mark, Back, Roll, Do, Loop, Leave}
use Rattle.of_control.specs.Body.{Body, End, Operation, LeaveLoop, Jump, Block, Cycle, Counted}
use Rattle.of_control.specs.Reading.{body_in}
use Rattle.of_control.specs.Running.{InBlock, Jumps, at, step, step_at}
use Rattle.of_compile.specs.declared.element.PlainItem.{PlainItem}
use Rattle.of_compile.specs.declared.element.PlainItem.TheVariants as P
use Rattle.of_compile.specs.Coding.{place_of}
use Rattle.of_compile.specs.Layout.{laid_body}

abbrev one : PlainItem
one = P.Operation (record { 0 = 0xC0000000 })

abbrev performed : Item
performed = I.Operation (record { 0 = 0xC0000000 })

-- `if 1 else 1 then`
abbrev two_arms : List (Element PlainItem)
two_arms = Resolve None ∷ Plain one ∷ Resolve None ∷ Roll 1 ∷ Branch false None ∷ Plain one ∷ Branch true None ∷ []

abbrev two_arms_body : Body PlainItem
two_arms_body = Block (Block (Jump true 0 (Operation one (Jump false 1 End))) (Operation one End)) End

two_arms_read : body_in 32 two_arms ≡ Some two_arms_body
two_arms_read = refl

abbrev two_arms_cells : List (Option Item)
two_arms_cells =
    Some (I.BranchIfZero (place_of 8)) ∷ None ∷
    Some performed ∷
    Some (I.Branch (place_of 9)) ∷ None ∷
    Some performed ∷ []

two_arms_laid : laid_body 3 two_arms_body ≡ two_arms_cells
two_arms_laid = refl

-- the branch of `else` goes past the outer Block
two_arms_step :
    step_at two_arms_body 2 ≡
    step (Jumps false (at End [])) (at End (InBlock (Operation one End) ∷ InBlock End ∷ []))
two_arms_step = refl

-- `do leave begin 1 while repeat leave +loop`
abbrev leaving : List (Element PlainItem)
leaving =
    Loop true ∷ Leave ∷ Resolve None ∷ Back false None ∷ Branch true None ∷ Plain one ∷ Mark None ∷ Leave ∷
    Do false ∷ []

abbrev leaving_inside : Body PlainItem
leaving_inside = LeaveLoop (Block (Cycle (Operation one (Jump true 1 (Jump false 0 End))) End) (LeaveLoop End))

leaving_read : body_in 32 leaving ≡ Some (Counted false leaving_inside true End)
leaving_read = refl

abbrev leaving_cells : List (Option Item)
leaving_cells =
    Some (I.Do (place_of 16)) ∷ None ∷
    Some (I.Leave (place_of 16)) ∷ None ∷
    Some performed ∷
    Some (I.BranchIfZero (place_of 12)) ∷ None ∷
    Some (I.Branch (place_of 7)) ∷ None ∷
    Some (I.Leave (place_of 16)) ∷ None ∷
    Some (I.PlusLoop (place_of 5)) ∷ None ∷ []

leaving_laid : laid_body 3 (Counted false leaving_inside true End) ≡ leaving_cells
leaving_laid = refl

-- a branch into a loop has no body
crossing : body_in {A = PlainItem} 32 (Loop false ∷ Resolve None ∷ Do false ∷ Branch true None ∷ []) ≡ None
crossing = refl
