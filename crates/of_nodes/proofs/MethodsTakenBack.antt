-- A method that is taken back: the nodes are those before it was added.
use Rattle.std.proofs.Common.{◌≡◌, ℕ, zero, suc, Bool, true, false, List, [], ◌∷◌, length, Option, Some, None, Result}
use Rattle.std.proofs.Common.{Ok, Err, refl, ap, sym, ◌∙◌}
use Rattle.std.proofs.lemmas.List.{length-set}
use Rattle.of_cells.specs.declared.cells.Cell.{Cell}
use Rattle.of_nodes.specs.declared.tree.Node.{Node}
use Rattle.of_nodes.specs.declared.phandles.Phandle.{Phandle}
use Rattle.of_nodes.specs.declared.fault.NodeFault.{NodeFault}
use Rattle.of_nodes.specs.declared.fault.NodeFault.TheVariants.{BadName}
use Rattle.of_nodes.specs.Methods.{is_method_name, lower, method_in, with_former, with_method}
use Rattle.of_nodes.specs.Properties.{replaced, same_name, value_in, with_entry, without}
use Rattle.of_nodes.specs.Nodes.{added_at, former_at, method_added, method_found, method_taken_back}
use Rattle.of_nodes.specs.Nodes.{methods_in, number_of, with_methods}
use Rattle.of_nodes.proofs.ComponentsFit.{same_self}
use Rattle.of_nodes.proofs.NodesByPhandle.{by_number, numbered_is, ok_is}

module _ {V : Type 0} where
  is_none : (v : V) → ◌≡◌ {A = Option V} (Some v) None → ⊥
  is_none v h = cc

  value_behind_it : (e : List ℕ × V) (es : List (List ℕ × V)) (name : List ℕ) → same_name name e.0 ≡ false
      → value_in (e ∷ es) name ≡ value_in es name
  value_behind_it e es name h = rw h refl

  value_there : (e : List ℕ × V) (es : List (List ℕ × V)) (name : List ℕ) → same_name name e.0 ≡ true
      → value_in (e ∷ es) name ≡ Some e.1
  value_there e es name h = rw h refl

  new_step : (b : Bool) (e : List ℕ × V) (es : List (List ℕ × V)) (name : List ℕ) (x : V)
      → same_name name e.0 ≡ b → value_in (e ∷ es) name ≡ None
      → (value_in es name ≡ None → without (with_entry es name x) name ≡ es)
      → without (with_entry (e ∷ es) name x) name ≡ e ∷ es
  new_step true e es name x h none ih = absurd (is_none e.1 (sym (value_there e es name h) ∙ none))
  new_step false e es name x h none ih =
      let rest = ih (sym (value_behind_it e es name h) ∙ none) in
      rw h (rw h (ap (λ r. e ∷ r) rest))

  -- a name that was new is taken out again
  new_taken_out : (es : List (List ℕ × V)) (name : List ℕ) (x : V) → value_in es name ≡ None
      → without (with_entry es name x) name ≡ es
  new_taken_out [] name x none = rw (same_self name) refl
  new_taken_out (e ∷ es) name x none =
      new_step (same_name name e.0) e es name x refl none (new_taken_out es name x)

  old_step : (b : Bool) (e : List ℕ × V) (es : List (List ℕ × V)) (name : List ℕ) (x v : V)
      → same_name name e.0 ≡ b → value_in (e ∷ es) name ≡ Some v
      → (value_in es name ≡ Some v → replaced (with_entry es name x) name v ≡ es)
      → replaced (with_entry (e ∷ es) name x) name v ≡ e ∷ es
  old_step true e es name x v h some ih =
      let same : e.1 ≡ v = let k = sym (value_there e es name h) ∙ some in cc in
      rw h (rw h (ap (λ (w : V). (e.0, w) ∷ es) (sym same)))
  old_step false e es name x v h some ih =
      let rest = ih (sym (value_behind_it e es name h) ∙ some) in
      rw h (rw h (ap (λ r. e ∷ r) rest))

  -- a name that was there has its value again
  old_given_back : (es : List (List ℕ × V)) (name : List ℕ) (x v : V) → value_in es name ≡ Some v
      → replaced (with_entry es name x) name v ≡ es
  old_given_back [] name x v some = absurd (is_none v (sym some))
  old_given_back (e ∷ es) name x v some =
      old_step (same_name name e.0) e es name x v refl some (old_given_back es name x v)

formerly : (ms : List (List ℕ × Cell)) (name : List ℕ) (xt : Cell) (before : Option Cell)
    → value_in ms (lower name) ≡ before → with_former (with_method ms name xt) name before ≡ ms
formerly ms name xt None h = new_taken_out ms (lower name) xt h
formerly ms name xt (Some v) h = old_given_back ms (lower name) xt v h

-- the nodes with what node i had
abbrev formerly_in : List Node → ℕ → List ℕ → Option Cell → List Node
formerly_in ns i name before = with_methods ns i (with_former (methods_in ns i) name before)

formerly_at : (ns : List Node) (i : ℕ) (name : List ℕ) (xt : Cell) (before : Option Cell)
    → value_in (methods_in ns i) (lower name) ≡ before
    → formerly_in (with_methods ns i (with_method (methods_in ns i) name xt)) i name before ≡ ns
formerly_at [] i name xt before h = refl
formerly_at (n ∷ ns) zero name xt before h =
    ap (λ (ms : List (List ℕ × Cell)). record n { methods = ms } ∷ ns) (formerly n.methods name xt before h)
formerly_at (n ∷ ns) (suc i) name xt before h = ap (λ (l : List Node). n ∷ l) (formerly_at ns i name xt before h)

-- the nodes with the method, and as many as before
record Undone (t ns : List Node) (o : Option ℕ) (name : List ℕ) (before : Option Cell) : Type 0 where
  nodes : former_at ns name before o ≡ t
  many : length ns ≡ length t

undone_named : (b : Bool) (t ns : List Node) (i : ℕ) (name : List ℕ) (xt : Cell) (before : Option Cell)
    → is_method_name name ≡ b → method_in (methods_in t i) name ≡ before → added_at t name xt i ≡ Ok ns
    → Undone t ns (Some i) name before
undone_named true t ns i name xt before good found added =
    let value : value_in (methods_in t i) (lower name) ≡ before =
    let k : method_in (methods_in t i) name ≡ value_in (methods_in t i) (lower name) = rw good refl in cc in
    let after = with_methods t i (with_method (methods_in t i) name xt) in
    let is : after ≡ ns =
    let k : added_at t name xt i ≡ Ok after = rw good refl in cc in
    record {
      nodes = rw good (ap (λ (l : List Node). formerly_in l i name before) (sym is)
          ∙ formerly_at t i name xt before value);
      many = ap length (sym is) ∙ length-set t i _;
    }
undone_named false t ns i name xt before good found added =
    let k : ◌≡◌ {A = Result (List Node) NodeFault} (Err BadName) (Ok ns) = sym (rw good refl) ∙ added in
    let n : ⊥ = cc in absurd n

pub undone : (t ns : List Node) (ph : Phandle) (name : List ℕ) (xt : Cell) (before : Option Cell)
    → method_found t ph name ≡ Ok before → method_added t ph name xt ≡ Ok ns
    → method_taken_back ns ph name before ≡ t
undone t ns ph name xt before found added =
    let there = numbered_is (number_of (length t) ph) (added_at t name xt) ns added in
    let i = there.0 in
    let was = ok_is (method_in (methods_in t i) name) before (sym (by_number t ph i _ there.1) ∙ found) in
    let u = undone_named (is_method_name name) t ns i name xt before refl was there.2 in
    ap (λ (k : ℕ). former_at ns name before (number_of k ph)) u.many
    ∙ (ap (former_at ns name before) there.1 ∙ u.nodes)
