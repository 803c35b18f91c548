use Rattle.std.proofs.Common.{rules, Err, sym}
use Rattle.of_files.proofs.Texts.{source_ended, source_unread}
use Rattle.of_files.proofs.sources.tok.Goals as goal

pub returns-in-Err-clause-answered : goal.returns-in-Err-clause-answered
returns-in-Err-clause-answered g c =
    source_unread (g.R.Read.remaining c.args.file.now) _ _ _ c.in-Err.fault _ (search rules) c.report.ensures.status
    c.in-Err.ensures.err c.in-Err.ensures.endless c.report.ensures.said

pub returns-clause-answered : goal.returns-clause-answered
returns-clause-answered g c =
    source_ended (g.R.Read.remaining c.args.file.now) _ _ _ _ _ (Err c.in-Err-print_image.fault) _
    c.deref.ensures.value c.in-Ok.ensures.ok c.in-Err-print_image.ensures (sym c.report_in.ensures.status)
    c.report_in.ensures.said
