use Rattle.of_see_runs.proofs.ReadBack.{see_reads_back}
use Rattle.of_see_runs.proofs.laws.see_reads_back.Goals as goal

pub returns : goal.returns
returns c =
    see_reads_back c.printed_definitions_have_their_bodies.ensures c.text_scans_back.ensures
    c.printed_words_are_remade.ensures c.closed_is_read.ensures c.compiled_is_flat.ensures
    c.words_are_executed.ensures c.written_words_are_found.ensures
