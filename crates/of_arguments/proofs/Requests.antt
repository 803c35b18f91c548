-- What the matches of a command line ask for.
use Rattle.std.proofs.Common.{◌≡◌, List, Option, Some, None, true, refl, ap, option_map}
use Rattle.std.proofs.Common.{unwrap_or}
use Rattle.clap.specs.Faults.{is_simple_and_free}
use Rattle.clap.specs.Simple.{is_simple}
use Rattle.clap.proofs.OnLiterals.{clap_on_literals}
use Rattle.clap.specs.Words.{Row, Text}
use Rattle.of_arguments.specs.CommandLine.{ofw_app}

-- the command line is one whose matches and faults are computed
pub ofw_is_simple : is_simple ofw_app ≡ true
unfolding clap_on_literals
ofw_is_simple = refl

pub ofw_is_free : is_simple_and_free ofw_app ≡ true
unfolding clap_on_literals
ofw_is_free = refl

-- the name and the rows of a subcommand, from each by itself
pub named_rows : {X : Type 0} (s : Option X) (name_in : X → Text) (rows_in : X → List Row) (name : Text)
    (rows : List Row) → Some name ≡ option_map name_in s
    → Some rows
    ≡ option_map (λ (p : Text × List Row). p.1) (option_map {U = Text × List Row} (λ x. (name_in x, rows_in x)) s)
    → option_map {U = Text × List Row} (λ x. (name_in x, rows_in x)) s ≡ Some (name, rows)
named_rows None name_in rows_in name rows e f = absurd cc
named_rows (Some x) name_in rows_in name rows e f =
    let names : name ≡ name_in x = ap (λ (o : Option Text). unwrap_or o name) e in
    let found : rows ≡ rows_in x = ap (λ (o : Option (List Row)). unwrap_or o rows) f in
    rw (names, found) refl
