use Rattle.std.proofs.Common.{sym, ap, ◌∙◌, is_some}
use Rattle.std.proofs.lemmas.List.{take_rest}
use Rattle.of_scan.proofs.PartLemmas.{pair_more}
use Rattle.of_scan.proofs.parts.are_pairs.Goals as goal

pub loop-text-preserved : goal.loop-text-preserved
loop-text-preserved c = rw (take_rest c.loop-text.text.now 2) (
    pair_more c.loop-text.text.now _ c.in-len2-up.len_at_least (sym c.is_blank-in-len2-up.ensures ∙ c.if-is_blank.false)
    (ap is_some (sym c.byte_of.ensures) ∙ sym c.is_some.ensures ∙ c.if-is_some.true)
    ∙ c.loop-text.invariant)
