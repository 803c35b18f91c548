-- The properties of a node under their names.
use Rattle.std.proofs.Common.{◌≡◌, ℕ, Bool, true, false, List, [], ◌∷◌, ◌++◌, length, map, Option, Some, None, Ok}
use Rattle.std.proofs.Common.{refl, ap, sym, ◌∙◌, eq-eqb}
use Rattle.std.specs.Prelude.{if◌then◌else◌}
use Rattle.std.specs.Cmp.Lexicographic.{same_text}
use Rattle.std.specs.List.{AllByRecursion, IsDistinct}
use Rattle.std.proofs.lemmas.List.{append_assoc}
use Rattle.of_memory.specs.DataSpace.{DataSpace}
use Rattle.of_nodes.specs.declared.phandles.Phandle.{Phandle}
use Rattle.of_nodes.specs.declared.properties.Property.{Property}
use Rattle.of_nodes.specs.declared.tree.Node.{Node}
use Rattle.of_nodes.specs.Nodes.{number_of, numbered, properties_in}
use Rattle.of_nodes.specs.Properties.{bytes_at, bytes_read, same_name, value_in}
use Rattle.of_nodes.specs.Stored.{AreHeld, AreStored, IsHeld}
use Rattle.of_console.specs.Laws.{PropertiesAreListed, entries_shown}
use Rattle.of_console.specs.Texts.{properties_shown, properties_text}
use Rattle.of_console.specs.Values.{behind_name}

-- ---- a name is found where it stands first

same_self : (name : List ℕ) → same_name name name ≡ true
same_self [] = refl
same_self (b ∷ name) = rw (eq-eqb b b refl, same_self name) refl

first_found : (e : List ℕ × Property) (es : List (List ℕ × Property)) → value_in (e ∷ es) e.0 ≡ Some e.1
first_found e es = ap (λ b. if b then Some e.1 else value_in es e.0) (same_self e.0)

none_found : (name : List ℕ) (es : List (List ℕ × Property))
    → AllByRecursion (λ other. same_name name other ≡ false) (map (λ e. e.0) es) → value_in es name ≡ None
none_found name [] h = refl
none_found name (e ∷ es) h =
    ap (λ b. if b then Some e.1 else value_in es name) h.0 ∙ none_found name es h.1

found_behind : (e : List ℕ × Property) (es : List (List ℕ × Property)) (name : List ℕ) (p : Property) (b : Bool)
    → AllByRecursion (λ other. same_name e.0 other ≡ false) (map (λ x. x.0) es) → same_name name e.0 ≡ b
    → value_in es name ≡ Some p → value_in (e ∷ es) name ≡ Some p
found_behind e es name p false new is found = ap (λ t. if t then Some e.1 else value_in es name) is ∙ found
found_behind e es name p true new is found =
    let same : name ≡ e.0 = same_text name e.0 (sym is) in
    let none : value_in es name ≡ None = ap (value_in es) same ∙ none_found e.0 es new in
    absurd (some_none (sym found ∙ none))
  where
    some_none : {p : Property} → ◌≡◌ {A = Option Property} (Some p) None → ⊥
    some_none h = cc

-- ---- each property is shown under its name

rest_held : (m : DataSpace) (e : List ℕ × Property) (es : List (List ℕ × Property)) → AreHeld m (e ∷ es) → AreHeld m es
unfolding IsDistinct
rest_held m e es h = record {
  held = λ name p found.
      h.held name p (found_behind e es name p (same_name name e.0) h.distinct.0 refl found);
  distinct = h.distinct.1;
}

named : (m : DataSpace) (name : List ℕ) (p : Property) → IsHeld m name p → bytes_at m p.name ≡ name
named m name p h = ap bytes_read h.name_bytes

lines_named : (m : DataSpace) (ps : List (List ℕ × Property)) → AreHeld m ps
    → properties_shown m ps ≡ entries_shown m ps
lines_named m [] h = refl
lines_named m (e ∷ es) h =
    let value = behind_name (bytes_at m e.1.value) in
    append_assoc (bytes_at m e.1.name ++ value) (10 ∷ []) (properties_shown m es)
    ∙ ap (λ x. (x ++ value) ++ 10 ∷ properties_shown m es) (named m e.0 e.1 (h.held e.0 e.1 (first_found e es)))
    ∙ ap (λ x. (e.0 ++ value) ++ 10 ∷ x) (lines_named m es (rest_held m e es h))

listed_at : (m : DataSpace) (ns : List Node) (ph : Phandle) (i : ℕ) → AreStored m ns
    → number_of (length ns) ph ≡ Some i → properties_text m ns ph ≡ Ok (entries_shown m (properties_in ns i))
listed_at m ns ph i stored is =
    ap (λ o. numbered o (λ k. Ok (properties_shown m (properties_in ns k)))) is
    ∙ ap Ok (lines_named m (properties_in ns i) (stored i))

pub properties_are_listed : PropertiesAreListed
properties_are_listed = record { listed = listed_at }
