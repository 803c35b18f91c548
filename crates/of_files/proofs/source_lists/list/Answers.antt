use Rattle.std.proofs.Common.{rules, Err, sym}
use Rattle.of_files.proofs.Texts.{lists_ended, lists_unread}
use Rattle.of_files.proofs.source_lists.list.Goals as goal

pub returns-in-Err-clause-answered : goal.returns-in-Err-clause-answered
returns-in-Err-clause-answered g c =
    lists_unread _ (g.R.Read.remaining c.args.file.now) _ _ _ c.in-Err.fault _ (search rules) c.report.ensures.status
    c.in-Err.ensures.err c.in-Err.ensures.endless c.report.ensures.said

pub returns-clause-answered : goal.returns-clause-answered
returns-clause-answered g c =
    lists_ended _ (g.R.Read.remaining c.args.file.now) _ _ _ _ _ (Err c.in-Err-print_list.fault) _
    c.deref.ensures.value c.in-Ok.ensures.ok c.in-Err-print_list.ensures (sym c.report_in.ensures.status)
    c.report_in.ensures.said
