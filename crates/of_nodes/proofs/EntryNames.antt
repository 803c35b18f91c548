-- Entries as clauses see them: each under its name as bytes.
use Rattle.std.proofs.Common.{◌≡◌, ℕ, Bool, true, false, List, [], ◌∷◌, map, refl, ap, Vec, Global, Option}
use Rattle.std.proofs.Common.{Some, None, sym, ◌∙◌}
use Rattle.indexmap.specs.IndexMap.{insert_entry}
use Rattle.std.specs.Map.{lookup, remove_entry, set_value}
use Rattle.of_nodes.specs.Properties.{named, replaced, without, with_entry, value_in, same_name}

abbrev pub same_key : Vec ℕ Global → Vec ℕ Global → Bool
same_key x y = same_name x.items y.items

module _ {V : Type 0} where
  entry_step : (b : Bool) (e : Vec ℕ Global × V) (es : List (Vec ℕ Global × V)) (k : Vec ℕ Global) (v : V)
      → same_key k e.0 ≡ b
      → map named (insert_entry same_key es k v) ≡ with_entry (map named es) k.items v
      → map named (insert_entry same_key (e ∷ es) k v) ≡ with_entry (map named (e ∷ es)) k.items v
  entry_step true e es k v h ih = rw h refl
  entry_step false e es k v h ih = rw h (ap (λ r. named e ∷ r) ih)

  pub entries_named : (es : List (Vec ℕ Global × V)) (k : Vec ℕ Global) (v : V)
      → map named (insert_entry same_key es k v) ≡ with_entry (map named es) k.items v
  entries_named [] k v = refl
  entries_named (e ∷ es) k v = entry_step (same_key k e.0) e es k v refl (entries_named es k v)

  value_step : (b : Bool) (e : Vec ℕ Global × V) (es : List (Vec ℕ Global × V)) (name : List ℕ)
      → same_name name e.0.items ≡ b
      → lookup (λ (k : Vec ℕ Global). same_name name k.items) es ≡ value_in (map named es) name
      → lookup (λ (k : Vec ℕ Global). same_name name k.items) (e ∷ es) ≡ value_in (map named (e ∷ es)) name
  value_step true e es name h ih = rw h refl
  value_step false e es name h ih = rw h ih

  without_step : (b : Bool) (e : Vec ℕ Global × V) (es : List (Vec ℕ Global × V)) (name : List ℕ)
      → same_name name e.0.items ≡ b
      → map named (remove_entry (λ (k : Vec ℕ Global). same_name name k.items) es) ≡ without (map named es) name
      → map named (remove_entry (λ (k : Vec ℕ Global). same_name name k.items) (e ∷ es))
      ≡ without (map named (e ∷ es)) name
  without_step true e es name h ih = rw h refl
  without_step false e es name h ih = rw h (ap (λ r. named e ∷ r) ih)

  pub without_named : (es : List (Vec ℕ Global × V)) (name : List ℕ)
      → map named (remove_entry (λ (k : Vec ℕ Global). same_name name k.items) es) ≡ without (map named es) name
  without_named [] name = refl
  without_named (e ∷ es) name = without_step (same_name name e.0.items) e es name refl (without_named es name)

  pub value_named : (es : List (Vec ℕ Global × V)) (name : List ℕ)
      → lookup (λ (k : Vec ℕ Global). same_name name k.items) es ≡ value_in (map named es) name
  value_named [] name = refl
  value_named (e ∷ es) name = value_step (same_name name e.0.items) e es name refl (value_named es name)

  replaced_step : (b : Bool) (e : Vec ℕ Global × V) (es : List (Vec ℕ Global × V)) (name : List ℕ) (v : V)
      → same_name name e.0.items ≡ b
      → map named (set_value (λ (k : Vec ℕ Global). same_name name k.items) es v) ≡ replaced (map named es) name v
      → map named (set_value (λ (k : Vec ℕ Global). same_name name k.items) (e ∷ es) v)
      ≡ replaced (map named (e ∷ es)) name v
  replaced_step true e es name v h ih = rw h refl
  replaced_step false e es name v h ih = rw h (ap (λ r. named e ∷ r) ih)

  pub replaced_named : (es : List (Vec ℕ Global × V)) (name : List ℕ) (v : V)
      → map named (set_value (λ (k : Vec ℕ Global). same_name name k.items) es v) ≡ replaced (map named es) name v
  replaced_named [] name v = refl
  replaced_named (e ∷ es) name v = replaced_step (same_name name e.0.items) e es name v refl (replaced_named es name v)

  is_none : (v : V) → ◌≡◌ {A = Option V} (Some v) None → ⊥
  is_none v h = cc

  absent_step : (b : Bool) (e : List ℕ × V) (es : List (List ℕ × V)) (name : List ℕ) (v : V)
      → same_name name e.0 ≡ b → value_in (e ∷ es) name ≡ None
      → (value_in es name ≡ None → replaced es name v ≡ es) → replaced (e ∷ es) name v ≡ e ∷ es
  absent_step true e es name v h none ih =
      let there : value_in (e ∷ es) name ≡ Some e.1 = rw h refl in absurd (is_none e.1 (sym there ∙ none))
  absent_step false e es name v h none ih =
      let behind : value_in (e ∷ es) name ≡ value_in es name = rw h refl in
      rw h (ap (λ r. e ∷ r) (ih (sym behind ∙ none)))

  -- a name that isn't there changes nothing
  pub replaced_absent : (es : List (List ℕ × V)) (name : List ℕ) (v : V) → value_in es name ≡ None
      → replaced es name v ≡ es
  replaced_absent [] name v none = refl
  replaced_absent (e ∷ es) name v none =
      absent_step (same_name name e.0) e es name v refl none (replaced_absent es name v)
