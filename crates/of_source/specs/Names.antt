-- The definitions of a source by their names.
use Rattle.std.specs.Prelude.{◌≡◌, ℕ, List, [], ◌∷◌, Option, Some, None, if◌then◌else◌}
use Rattle.std.specs.Str.{bytes_eq, str_eq_ignore_ascii_case, str_to_ascii_lowercase}
use Rattle.std.specs.Global.{Vec}
use Rattle.of_source.specs.declared.names.Own.{Own as HeldOwn}

-- a definition by its name
pub record Own : Type 0 where
  pub name : List ℕ
  pub number : ℕ

-- as the code holds it
abbrev pub own_shown : HeldOwn → Own
own_shown d = record { name = d.name.now; number = d.number }

-- the number of the latest definition of this name, whatever the case of its letters
abbrev pub own_in : List Own → List ℕ → Option ℕ
own_in [] name = None
own_in (d ∷ ds) name = if str_eq_ignore_ascii_case d.name name then Some d.number else own_in ds name

-- the number of the latest definition whose name in lower case is this key
abbrev pub keyed_in : List Own → List ℕ → Option ℕ
keyed_in [] key = None
keyed_in (d ∷ ds) key = if bytes_eq (str_to_ascii_lowercase d.name) key then Some d.number else keyed_in ds key

-- each key leads to the latest definition of its name
abbrev pub IsIndexed : List Own → (Vec ℕ → Option ℕ) → Type 0
IsIndexed known newest = (key : Vec ℕ) → newest key ≡ keyed_in known key.items
