-- The law `runs_by_structure`.
use Rattle.std.proofs.Common.{◌≡◌, ℕ, ◌+◌, ◌-◌, ◌<◌, ◌≤◌, zero, suc, List, [], ◌∷◌, length, take, Option, Some, None}
use Rattle.std.proofs.Common.{refl, sym, ap, subst, ◌∙◌, arith}
use Rattle.std.specs.Prelude.{map, nat_lt, if◌then◌else◌}
use Rattle.of_code.specs.declared.item.Item.{Item}
use Rattle.of_code.specs.declared.item.Item.TheVariants as item
use Rattle.of_code.specs.declared.item.Place.{Place}
use Rattle.of_code.specs.Items.{cells_of}
use Rattle.of_control.specs.Items.{Item as BodyItem}
use Rattle.of_control.specs.Body.{items_of}
use Rattle.of_control.specs.Openers.{one_later}
use Rattle.of_control.specs.Running.{Point, Step, number, step_from}
use Rattle.of_control.specs.RunningLaw.{RunsByPlaces, RunsByPoints}
use Rattle.of_compile.specs.declared.element.PlainItem.{PlainItem}
use Rattle.of_compile.specs.Coding.{past}
use Rattle.of_compile.specs.Layout.{code_item, item_cells, item_place, total}
use Rattle.of_compile.specs.Elements.{nowhere}
use Rattle.of_compile.specs.Structured.{Definition, Definitions, Spot, fetched, is_return, laid_all, number_at}
use Rattle.of_compile.specs.Structured.{point_place}
use Rattle.of_compile.specs.Structured.{spot_in, spot_of, taken_at, taken_item}
use Rattle.of_compile.specs.RunsLaw.{IsReached, RunsByStructure}
use Rattle.of_compile.proofs.StructuredLemmas.{lt_other, lt_this, spot_below, total-take}
use Rattle.of_compile.proofs.Fetching.{split_lt}

-- ---- the item of a number

has_cells : (x : Item) → 0 < cells_of x
has_cells (item.Operation xt) = omega arith
has_cells (item.Literal x) = omega arith
has_cells (item.String a n) = omega arith
has_cells (item.Call xt) = omega arith
has_cells (item.Store xt) = omega arith
has_cells (item.Branch to) = omega arith
has_cells (item.BranchIfZero to) = omega arith
has_cells (item.Do to) = omega arith
has_cells (item.QuestionDo to) = omega arith
has_cells (item.Loop to) = omega arith
has_cells (item.PlusLoop to) = omega arith
has_cells (item.Leave to) = omega arith
has_cells (item.Of to) = omega arith
has_cells (item.EndOf to) = omega arith
has_cells item.EndCase = omega arith
has_cells item.Return = omega arith

abbrev sizes : List (BodyItem PlainItem) → List ℕ
sizes is = map item_cells is

-- a cell behind an item of at least one cell
number_behind : (n m : ℕ) (ns : List ℕ) → 0 < n → number_at (n ∷ ns) (n + m) ≡ one_later (number_at ns m)
number_behind zero m ns l = absurd (omega (arith, l))
number_behind (suc n) m ns l =
    let c : suc n + m ≡ suc (n + m) = omega arith in
    let back : suc (n + m) - suc n ≡ m = omega arith in
    ap (number_at (suc n ∷ ns)) c
    ∙ lt_other (suc (n + m)) (suc n) None (one_later (number_at ns (suc (n + m) - suc n))) (omega arith)
    ∙ ap (λ k. one_later (number_at ns k)) back

number_again : (is : List (BodyItem PlainItem)) (k : ℕ) → k ≤ length is
    → number_at (sizes is) (total (take k (sizes is))) ≡ Some k
number_again [] zero l = refl
number_again [] (suc k) l = absurd (omega (arith, l))
number_again (i ∷ is) zero l = refl
number_again (i ∷ is) (suc k) l =
    number_behind (item_cells i) (total (take k (sizes is))) (sizes is) (has_cells (code_item (λ n. nowhere) i))
    ∙ ap one_later (number_again is k (omega (arith, l)))

-- ---- the spot of a number

abbrev numbered_spot : Spot → ℕ → Spot
numbered_spot s k = record s { number = k }

abbrev spot_cell : Spot → ℕ → ℕ
spot_cell s k = (item_place s.start (items_of s.body) k).cell

-- what holds of a spot with another number
record Again (ds : List Definition) (s : Spot) : Type 0 where
  at : (k : ℕ) → k ≤ length (items_of s.body) → spot_in ds (spot_cell s k) ≡ Some (numbered_spot s k)

again_here : (d : Definition) (ds : List Definition) (o : Option ℕ) (s : Spot)
    → spot_of (length (laid_all ds)) d.body o ≡ Some s → Again (d ∷ ds) s
again_here d ds None s e = absurd cc
again_here d ds (Some j) s e =
    let start = length (laid_all ds) in
    let here : Spot = record { start = start; body = d.body; number = j } in
    let is : Again (d ∷ ds) here = record {
      at = λ k l.
          let c = start + total (take k (sizes (items_of d.body))) in
          let behind : c - start ≡ total (take k (sizes (items_of d.body))) = omega arith in
          lt_other c start (spot_in ds c) (spot_of start d.body (number_at (sizes (items_of d.body)) (c - start)))
          (omega arith)
          ∙ ap (λ n. spot_of start d.body (number_at (sizes (items_of d.body)) n)) behind
          ∙ ap (spot_of start d.body) (number_again (items_of d.body) k l);
    } in
    let same : here ≡ s = cc in
    subst (Again (d ∷ ds)) same is

again_older : (d : Definition) (ds : List Definition) (c : ℕ) (s : Spot) → spot_in ds c ≡ Some s → Again ds s
    → Again (d ∷ ds) s
again_older d ds c s e h = record {
  at = λ k l.
      let start = length (laid_all ds) in
      let m = spot_cell s k in
      let below = spot_below ds c s e in
      let upto = total-take k (sizes (items_of s.body)) in
      lt_this m start (spot_in ds m)
      (spot_of start d.body (number_at (sizes (items_of d.body)) (m - start))) (omega (arith, below, upto))
      ∙ h.at k l;
}

again : (ds : List Definition) (c : ℕ) (s : Spot) → spot_in ds c ≡ Some s → Again ds s
again [] c s e = absurd cc
again (d ∷ ds) c s e =
    let start = length (laid_all ds) in
    let o = number_at (sizes (items_of d.body)) (c - start) in
    split_lt (λ x. x ≡ Some s → Again (d ∷ ds) s) c start (spot_in ds c) (spot_of start d.body o) (nat_lt c start) refl
    (λ m f. again_older d ds c s f (again ds c s f))
    (λ m f. again_here d ds o s f)
    e

-- ---- the law

reached_spot : RunsByPlaces PlainItem → (d : Definitions) (c : ℕ) (s : Spot) (q : Point PlainItem)
    → spot_in d.finished c ≡ Some s
    → spot_in d.finished (point_place s q).cell ≡ Some (numbered_spot s (number s.body q))
reached_spot places d c s q e =
    let size = places.size s.body in
    (again d.finished c s e).at (number s.body q) (omega (arith, size))

-- what is taken at a spot, by the step there
abbrev taken_by : Place → Spot → Step PlainItem → Option (Item × Place)
taken_by p s t = Some (taken_item (point_place s) t.taken, if is_return t.taken then past p 1 else point_place s t.next)

reached_step : RunsByPlaces PlainItem → RunsByPoints PlainItem → (d : Definitions) (c : ℕ) (s : Spot)
    → (q : Point PlainItem) (qs : List (Point PlainItem)) → IsReached d c s q qs
    → fetched d (point_place s q) ≡ taken_by (point_place s q) s (step_from s.body q)
reached_step places points d c s q qs h =
    ap (taken_at (point_place s q)) (reached_spot places d c s q h.word)
    ∙ ap (taken_by (point_place s q) s) (sym (points.reached s.body q qs h.run))

pub runs_by_structure : RunsByPlaces PlainItem → RunsByPoints PlainItem → RunsByStructure
runs_by_structure places points = record {
  spots = λ d c s q qs h. reached_spot places d c s q h.word;
  steps = λ d c s q qs h. reached_step places points d c s q qs h;
}
