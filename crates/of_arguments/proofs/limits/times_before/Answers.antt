use Rattle.std.proofs.Common.{rules, ◌≡◌, Some, None}
use Rattle.std.proofs.lemmas.Str.Pattern.{strip_suffix_char}
use Rattle.of_arguments.specs.CommandLine.{before_last}
use Rattle.of_arguments.proofs.StepLimits.{found_before, no_times, so_many_times}
use Rattle.of_arguments.proofs.limits.times_before.Goals as goal

pub returns-in_default : goal.returns-in_default
returns-in_default c =
    let found = found_before c.args.unit c.args.text.now c.strip_suffix.result
    (strip_suffix_char c.args.unit c.args.text.now c.strip_suffix.result c.strip_suffix.ensures.cases
    c.requires.ascii) in
    no_times c.args.each c.args.unit c.args.text.now (search rules)

pub returns-in-Some-number_upto : goal.returns-in-Some-number_upto
returns-in-Some-number_upto c =
    let found = found_before c.args.unit c.args.text.now c.strip_suffix.result
    (strip_suffix_char c.args.unit c.args.text.now c.strip_suffix.result c.strip_suffix.ensures.cases
    c.requires.ascii) in
    let front : Some c.in-Some.digits.now ≡ before_last c.args.unit c.args.text.now = search rules in
    so_many_times c.args.each c.args.unit c.args.text.now c.in-Some.digits.now (Some c.in-Some-number_upto.number) front
    c.in-Some-number_upto.ensures

pub returns-in-None : goal.returns-in-None
returns-in-None c =
    let found = found_before c.args.unit c.args.text.now c.strip_suffix.result
    (strip_suffix_char c.args.unit c.args.text.now c.strip_suffix.result c.strip_suffix.ensures.cases
    c.requires.ascii) in
    let front : Some c.in-Some.digits.now ≡ before_last c.args.unit c.args.text.now = search rules in
    so_many_times c.args.each c.args.unit c.args.text.now c.in-Some.digits.now None front c.in-None.ensures
