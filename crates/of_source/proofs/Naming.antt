-- Names and the index by which they are found.
use Rattle.std.proofs.Common.{◌≡◌, ℕ, List, [], ◌∷◌, Option, Some, refl, ◌∙◌, ap, cond}
use Rattle.std.specs.Global.{Vec}
use Rattle.std.specs.Str.{str_eq_ignore_ascii_case, str_to_ascii_lowercase}
use Rattle.of_source.specs.Names.{Own, own_in, keyed_in, IsIndexed}

-- a name is found by its key
pub own_in-keyed : (known : List Own) (name : List ℕ) → keyed_in known (str_to_ascii_lowercase name) ≡ own_in known name
own_in-keyed [] name = refl
own_in-keyed (d ∷ ds) name = ap (cond (str_eq_ignore_ascii_case d.name name) (Some d.number)) (own_in-keyed ds name)

-- the index answers what a walk over the definitions would
pub found : (known : List Own) (newest : Vec ℕ → Option ℕ) (key : Vec ℕ) (name : List ℕ)
    → IsIndexed known newest → key.items ≡ str_to_ascii_lowercase name → newest key ≡ own_in known name
found known newest key name indexed e = indexed key ∙ ap (keyed_in known) e ∙ own_in-keyed known name
