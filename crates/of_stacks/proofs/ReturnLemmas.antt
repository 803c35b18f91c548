-- The laws of the return stack.
use Rattle.std.proofs.Common.{◌≡◌, ℕ, zero, suc, ◌+◌, ◌-◌, ◌≤◌, Bool, true, false, List, [], ◌∷◌, ◌++◌, length, take}
use Rattle.std.proofs.Common.{drop, reverse, Some, None, refl, sym, ap, ◌∙◌, arith, nat_lt, if◌then◌else◌}
use Rattle.std.specs.Prelude.{filter_map, replicate}
use Rattle.std.specs.List.{list_all, list_any}
use Rattle.std.proofs.lemmas.Bool.Decides.{nat_tests}
use Rattle.std.proofs.lemmas.List.{reverse-append, length-reverse, take-append-le, take-replicate}
use Rattle.std.proofs.Math.Seq.{take-append-add}
use Rattle.std.proofs.lemmas.Grind.{replicate_next}
use Rattle.of_cells.specs.declared.cells.Cell.{Cell}
use Rattle.of_stacks.specs.declared.return_item.ExceptionFrame.{ExceptionFrame}
use Rattle.of_stacks.specs.declared.return_item.Reading.{Reading}
use Rattle.of_stacks.specs.declared.return_item.ReturnItem.{ReturnItem}
use Rattle.of_stacks.specs.declared.return_item.ReturnItem.TheVariants.{Return, Loop, User, Handler, Source, Caller}
use Rattle.of_stacks.specs.Loops.{open_loops}
use Rattle.of_stacks.specs.Unwinding.{latest_handler, beneath_handler, latest_source, beneath_source, nought, to_depth}
use Rattle.of_stacks.specs.ReturnLaws.{is_own, loop_in, LoopsAreOwn, is_handler, is_source, EndsCut, ThrowsCut}
use Rattle.of_stacks.proofs.Reversed.{reverse_drop}

own_alone : (own : List ReturnItem) → list_all is_own own ≡ true → open_loops own ≡ filter_map loop_in own
unfolding open_loops
own_alone [] h = refl
own_alone (Loop l ∷ own) h = ap (λ ls. l ∷ ls) (own_alone own h)
own_alone (User x ∷ own) h = own_alone own h
own_alone (Handler f ∷ own) h = own_alone own h
own_alone (Return to ∷ own) h = absurd cc
own_alone (Source s ∷ own) h = absurd cc
own_alone (Caller c ∷ own) h = absurd cc

nothing_beneath : (item : ReturnItem) (r : List ReturnItem) → is_own item ≡ false → open_loops (item ∷ r) ≡ []
unfolding open_loops
nothing_beneath (Return to) r h = refl
nothing_beneath (Source s) r h = refl
nothing_beneath (Caller c) r h = refl
nothing_beneath (Loop l) r h = absurd cc
nothing_beneath (User x) r h = absurd cc
nothing_beneath (Handler f) r h = absurd cc

own_above : (own r : List ReturnItem) (item : ReturnItem) → list_all is_own own ≡ true → is_own item ≡ false →
    open_loops (own ++ item ∷ r) ≡ filter_map loop_in own
unfolding open_loops
own_above [] r item h e = nothing_beneath item r e
own_above (Loop l ∷ own) r item h e = ap (λ ls. l ∷ ls) (own_above own r item h e)
own_above (User x ∷ own) r item h e = own_above own r item h e
own_above (Handler f ∷ own) r item h e = own_above own r item h e
own_above (Return to ∷ own) r item h e = absurd cc
own_above (Source s ∷ own) r item h e = absurd cc
own_above (Caller c ∷ own) r item h e = absurd cc

pub loops_are_own : LoopsAreOwn
loops_are_own = record { all = own_alone; above = own_above }

cut_above : (above r : List ReturnItem) (h : ExceptionFrame) → list_any is_handler above ≡ false →
    (latest_handler (above ++ Handler h ∷ r) ≡ Some h) × (beneath_handler (above ++ Handler h ∷ r) ≡ r)
unfolding latest_handler beneath_handler
cut_above [] r h e = (refl, refl)
cut_above (Return to ∷ above) r h e = cut_above above r h e
cut_above (Loop l ∷ above) r h e = cut_above above r h e
cut_above (User x ∷ above) r h e = cut_above above r h e
cut_above (Source s ∷ above) r h e = cut_above above r h e
cut_above (Caller c ∷ above) r h e = cut_above above r h e
cut_above (Handler f ∷ above) r h e = absurd cc

cut_all : (items : List ReturnItem) → list_any is_handler items ≡ false →
    (latest_handler items ≡ None) × (beneath_handler items ≡ [])
unfolding latest_handler beneath_handler
cut_all [] e = (refl, refl)
cut_all (Return to ∷ r) e = cut_all r e
cut_all (Loop l ∷ r) e = cut_all r e
cut_all (User x ∷ r) e = cut_all r e
cut_all (Source s ∷ r) e = cut_all r e
cut_all (Caller c ∷ r) e = cut_all r e
cut_all (Handler f ∷ r) e = absurd cc

reverse_noughts : (n : ℕ) → reverse (replicate n nought) ≡ replicate n nought
reverse_noughts zero = refl
reverse_noughts (suc n) =
    let next : n + 1 ≡ suc n = omega arith in
    reverse-append (nought ∷ []) (replicate n nought)
    ∙ ap (λ xs. xs ++ nought ∷ []) (reverse_noughts n)
    ∙ sym (replicate_next n nought)
    ∙ ap (λ k. replicate k nought) next

filled : (depth : ℕ) (s : List Cell) → length s ≤ depth →
    reverse (replicate (depth - length s) nought ++ s) ≡ take depth (reverse s ++ replicate depth nought)
filled depth s h =
    let whole : depth ≡ length (reverse s) + (depth - length s) = omega (arith, length-reverse s, h) in
    let some : depth - length s ≤ depth = omega arith in
    reverse-append (replicate (depth - length s) nought) s
    ∙ ap (λ xs. reverse s ++ xs) (reverse_noughts (depth - length s))
    ∙ ap (λ xs. reverse s ++ xs) (sym (take-replicate (depth - length s) depth nought some))
    ∙ sym (take-append-add (reverse s) (replicate depth nought) (depth - length s))
    ∙ ap (λ n. take n (reverse s ++ replicate depth nought)) (sym whole)

cut : (depth : ℕ) (s : List Cell) → depth ≤ length s →
    reverse (drop (length s - depth) s) ≡ take depth (reverse s ++ replicate depth nought)
cut depth s h =
    let there : depth ≤ length (reverse s) = omega (arith, length-reverse s, h) in
    reverse_drop s depth h ∙ sym (take-append-le depth (reverse s) (replicate depth nought) there)

by_depth : (depth : ℕ) (s : List Cell) (b : Bool) → nat_lt (length s) depth ≡ b →
    reverse (if b then replicate (depth - length s) nought ++ s else drop (length s - depth) s)
    ≡ take depth (reverse s ++ replicate depth nought)
by_depth depth s true e = filled depth s (grind (arith, nat_tests, e))
by_depth depth s false e = cut depth s (grind (arith, nat_tests, e))

to_any_depth : (depth : ℕ) (s : List Cell) →
    reverse (to_depth depth s) ≡ take depth (reverse s ++ replicate depth nought)
to_any_depth depth s = by_depth depth s (nat_lt (length s) depth) refl

pub throws_cut : ThrowsCut
throws_cut = record { handler = cut_above; none = cut_all; cells = to_any_depth }

ended_above : (above r : List ReturnItem) (s : Reading) → list_any is_source above ≡ false →
    (latest_source (above ++ Source s ∷ r) ≡ Some s) × (beneath_source (above ++ Source s ∷ r) ≡ r)
unfolding latest_source beneath_source
ended_above [] r s e = (refl, refl)
ended_above (Return to ∷ above) r s e = ended_above above r s e
ended_above (Loop l ∷ above) r s e = ended_above above r s e
ended_above (User x ∷ above) r s e = ended_above above r s e
ended_above (Handler h ∷ above) r s e = ended_above above r s e
ended_above (Caller c ∷ above) r s e = ended_above above r s e
ended_above (Source t ∷ above) r s e = absurd cc

ended_all : (items : List ReturnItem) → list_any is_source items ≡ false →
    (latest_source items ≡ None) × (beneath_source items ≡ [])
unfolding latest_source beneath_source
ended_all [] e = (refl, refl)
ended_all (Return to ∷ r) e = ended_all r e
ended_all (Loop l ∷ r) e = ended_all r e
ended_all (User x ∷ r) e = ended_all r e
ended_all (Handler h ∷ r) e = ended_all r e
ended_all (Caller c ∷ r) e = ended_all r e
ended_all (Source t ∷ r) e = absurd cc

pub ends_cut : EndsCut
ends_cut = record { source = ended_above; none = ended_all }
