-- The law `ways_lead`.
use Rattle.std.proofs.Common.{◌≡◌, ℕ, ◌<◌, ◌==◌, Bool, true, false, List, [], ◌∷◌, ◌++◌, length, Option, Some}
use Rattle.std.proofs.Common.{None, Ok, if◌then◌else◌, codes, refl, ap, sym, ◌∙◌, arith}
use Rattle.std.specs.List.{AllByRecursion}
use Rattle.of_memory.specs.DataSpace.{DataSpace}
use Rattle.of_nodes.specs.declared.tree.Node.{Node}
use Rattle.of_nodes.specs.declared.lookup.Age.TheVariants.{Oldest}
use Rattle.of_nodes.specs.declared.phandles.Phandle.{Phandle}
use Rattle.of_nodes.specs.Lookup.{child_for, found, from, step_for, walk, way, way_found}
use Rattle.of_nodes.specs.Nodes.{AreNodes, number_of, numbered, parent_in, phandle_in}
use Rattle.of_nodes.specs.Nodes.{phandle_of}
use Rattle.of_nodes.specs.Properties.{same_name}
use Rattle.of_nodes.specs.Texts.{components, split}
use Rattle.of_nodes.specs.WayLaw.{WaysLead}
use Rattle.of_nodes.proofs.NodesByPhandle.{by_number, numbered_is, ok_is}
use Rattle.of_nodes.proofs.TreeIsShownCalls.{number_is}
use Rattle.of_nodes.proofs.PathsFind.{split_join}

here : (m : DataSpace) (ns : List Node) (i : ℕ) → AreNodes ns → i < length ns
    → way_found m ns (phandle_of i) [] ≡ Ok (Some (phandle_of i))
here m ns i h l = by_number ns (phandle_of i) i _ (number_is i (length ns) l)

-- ---- up

up_if : (b : Bool) (i : ℕ)
    → phandle_in (from (if b then None else Some i) (λ j. Some j)) ≡ (if b then None else Some (phandle_of i))
up_if true i = refl
up_if false i = refl

up_at : (o : Option ℕ) (m : DataSpace) (ns : List Node)
    → numbered o (λ i. Ok (phandle_in (way m ns i (components (codes "..")))))
    ≡ numbered o (λ i. Ok (if i == 0 then None else Some (phandle_of (parent_in ns i))))
up_at None m ns = refl
up_at (Some i) m ns = ap Ok (up_if (i == 0) (parent_in ns i))

-- ---- on

on_step : (o : Option ℕ) (m : DataSpace) (ns : List Node) (cs ds : List (List ℕ))
    → ((j : ℕ) → way m ns j (cs ++ ds) ≡ from (way m ns j cs) (λ k. way m ns k ds))
    → from o (λ j. way m ns j (cs ++ ds)) ≡ from (from o (λ j. way m ns j cs)) (λ k. way m ns k ds)
on_step None m ns cs ds ih = refl
on_step (Some j) m ns cs ds ih = ih j

parts : (cs ds : List (List ℕ)) (m : DataSpace) (ns : List Node) (i : ℕ)
    → way m ns i (cs ++ ds) ≡ from (way m ns i cs) (λ k. way m ns k ds)
parts [] ds m ns i = refl
parts (c ∷ cs) ds m ns i = on_step (step_for m ns i c) m ns cs ds (λ j. parts cs ds m ns j)

some_phandle : (a b : Phandle) → ◌≡◌ {A = Option Phandle} (Some a) (Some b) → a ≡ b
some_phandle a b e = cc

none_phandle : (a : Phandle) → ◌≡◌ {A = Option Phandle} None (Some a) → ⊥
none_phandle a e = cc

number_in : (o : Option ℕ) (i : ℕ) → phandle_in o ≡ Some (phandle_of i) → o ≡ Some i
number_in None i e = absurd (none_phandle (phandle_of i) e)
number_in (Some j) i e =
    let same = ap (λ (p : Phandle). p.0.0) (some_phandle (phandle_of j) (phandle_of i) e) in
    let is : j ≡ i = omega (arith, same) in
    ap Some is

on : (m : DataSpace) (ns : List Node) (ph : Phandle) (i b c : ℕ) (xs ys : List ℕ) → AreNodes ns → i < length ns
    → way_found m ns ph (b ∷ xs) ≡ Ok (Some (phandle_of i))
    → way_found m ns ph ((b ∷ xs) ++ 47 ∷ c ∷ ys) ≡ way_found m ns (phandle_of i) (c ∷ ys)
on m ns ph i b c xs ys h l e =
    let there = numbered_is (number_of (length ns) ph) _ (Some (phandle_of i)) e in
    let k = there.0 in
    let at : way m ns k (split (b ∷ xs)) ≡ Some i =
    number_in (way m ns k (split (b ∷ xs))) i (ok_is _ (Some (phandle_of i)) there.2) in
    by_number ns ph k _ there.1
    ∙ (ap (λ (cs : List (List ℕ)). Ok (phandle_in (way m ns k cs))) (split_join (b ∷ xs) (c ∷ ys))
    ∙ (ap (λ (r : Option ℕ). Ok (phandle_in r)) (parts (split (b ∷ xs)) (split (c ∷ ys)) m ns k)
    ∙ (ap (λ (r : Option ℕ). Ok (phandle_in (from r (λ j. way m ns j (split (c ∷ ys)))))) at
    ∙ sym (by_number ns (phandle_of i) i _ (number_is i (length ns) l)))))

-- ---- down

down_step : (o : Option ℕ) (m : DataSpace) (ns : List Node) (cs : List (List ℕ))
    → ((j : ℕ) → way m ns j cs ≡ walk m ns Oldest j cs)
    → from o (λ j. way m ns j cs) ≡ from o (λ j. walk m ns Oldest j cs)
down_step None m ns cs ih = refl
down_step (Some j) m ns cs ih = ih j

down_name : (m : DataSpace) (ns : List Node) (i : ℕ) (c : List ℕ) → same_name c (codes "..") ≡ false
    → step_for m ns i c ≡ child_for m ns Oldest i c
down_name m ns i c h = rw h refl

all_down : (cs : List (List ℕ)) (m : DataSpace) (ns : List Node) (i : ℕ)
    → AllByRecursion (λ c. same_name c (codes "..") ≡ false) cs → way m ns i cs ≡ walk m ns Oldest i cs
all_down [] m ns i h = refl
all_down (c ∷ cs) m ns i h =
    ap (λ (r : Option ℕ). from r (λ j. way m ns j cs)) (down_name m ns i c h.0)
    ∙ down_step (child_for m ns Oldest i c) m ns cs (λ j. all_down cs m ns j h.1)

down : (m : DataSpace) (ns : List Node) (text : List ℕ) → AreNodes ns
    → AllByRecursion (λ c. same_name c (codes "..") ≡ false) (components text)
    → way_found m ns (phandle_of 0) text ≡ Ok (found m ns (47 ∷ text))
down m ns text h names =
    let some : 0 < length ns = omega (arith, h.three) in
    by_number ns (phandle_of 0) 0 _ (number_is 0 (length ns) some)
    ∙ ap (λ (r : Option ℕ). Ok (phandle_in r)) (all_down (components text) m ns 0 names)

pub ways_lead : WaysLead
ways_lead = record {
  here = here;
  up = λ m ns ph. up_at (number_of (length ns) ph) m ns;
  on = on;
  down = down;
}
