use Rattle.std.proofs.Common.{rules, ap, map, subst, sym, Option, List, [], ◌≡◌, ◌∙◌, option_and_then}
use Rattle.std.proofs.lemmas.Result.{err_from_is_err_and}
use Rattle.std.specs.String.{string_bytes}
use Rattle.clap.specs.declared.parser.matches.ArgMatches.TheViews.{out-ArgMatches}
use Rattle.clap.specs.Words.{App, HasKind, Row, Text, fault_of, is_simple, subcommand_of, subcommand_rows_of}
use Rattle.clap.specs.Faults.{is_simple_and_free}
use Rattle.clap.specs.declared.error.Error.{Error}
use Rattle.of_arguments.specs.CommandLine.{asked_by, ofw_app}
use Rattle.of_arguments.proofs.Requests.{named_rows, ofw_is_free, ofw_is_simple}
use Rattle.of_arguments.proofs.arguments.parse.Goals as goal

pub returns-in_err-matches-clause-err : goal.returns-in_err-matches-clause-err
returns-in_err-matches-clause-err c =
    let shape = c.in_ok-command.ensures.0 in
    let words : List Text = map string_bytes c.args.words.now in
    let error = c.in_err-matches.field-0.0 in
    let p = err_from_is_err_and c.from_residual-in_err-matches.result c.from_residual-in_err-matches.ensures.1 in
    let same : error ≡ p.0 = search rules in
    let has : HasKind (fault_of ofw_app words) error =
    subst (λ (a : App). HasKind (fault_of a words) error) shape
    (c.in_err-matches.ensures.kinds (ap is_simple_and_free shape ∙ ofw_is_free)) in
    rw p.1 (subst (λ (e : Error). HasKind (fault_of ofw_app words) e) same has)

pub returns-in-Some-clause-err : goal.returns-in-Some-clause-err
returns-in-Some-clause-err c =
    let shape = c.in_ok-command.ensures.0 in
    subst (λ (a : App). fault_of a (map string_bytes c.args.words.now) ≡ []) shape
    (c.in_ok-matches.ensures.kinds (ap is_simple_and_free shape ∙ ofw_is_free))

pub returns-in-Some-clause-ok : goal.returns-in-Some-clause-ok
returns-in-Some-clause-ok c =
    let shape = c.in_ok-command.ensures.0 in
    let words : List Text = map string_bytes c.args.words.now in
    let m = c.in_ok-matches.matches in
    let found : subcommand_rows_of m ≡ subcommand_of ofw_app words =
    subst (λ (a : App). subcommand_rows_of m ≡ subcommand_of a words) shape
    (c.in_ok-matches.ensures.matches (ap is_simple shape ∙ ofw_is_simple)).1 in
    let here = named_rows (out-ArgMatches m).subcommand _ _ _ _ c.in-Some.ensures.name c.in-Some.ensures.rows in
    c.request_of.ensures ∙ ap (λ (o : Option (Text × List Row)). option_and_then asked_by o) (sym here ∙ found)
