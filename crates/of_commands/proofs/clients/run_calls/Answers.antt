use Rattle.std.proofs.Common.{map, rules}
use Rattle.of_client.specs.Services.{service_of}
use Rattle.of_commands.proofs.Called.{called_all, called_part, called_unrun, none_named}
use Rattle.of_commands.proofs.clients.run_calls.Goals as goal

pub returns-in-Ok-print_replies-clause-printed : goal.returns-in-Ok-print_replies-clause-printed
returns-in-Ok-print_replies-clause-printed g c =
    called_all (g.R.Read.remaining c.args.file.now) (map service_of c.args.calls.now) c.args.run.outside
    c.args.run.limit _ c.in-Ok.end _ _ _ c.explain_end.result c.in-Ok.ensures.ok c.in-Ok.ensures.printed
    c.in-Ok-print_replies.ensures.ok c.explain_end.ensures.ok c.explain_end.ensures.err

pub returns-in-Ok-clause-printed : goal.returns-in-Ok-clause-printed
returns-in-Ok-clause-printed g c =
    called_part (g.R.Read.remaining c.args.file.now) (map service_of c.args.calls.now) c.args.run.outside
    c.args.run.limit _ c.in-Ok.end _ _ _ c.in-Err-print_replies.fault c.in-Ok.ensures.ok c.in-Ok.ensures.printed
    c.in-Err-print_replies.ensures.err c.in-Err-print_replies.ensures.fault

pub returns-clause-printed : goal.returns-clause-printed
returns-clause-printed g c = search (rules, called_unrun, called_part)

pub returns-in-Ok-print_replies-clause-unsaid : goal.returns-in-Ok-print_replies-clause-unsaid
returns-in-Ok-print_replies-clause-unsaid g c = none_named _ c.explain_end.result c.explain_end.ensures.err
