use Rattle.std.proofs.Common.{sym, ◌∙◌}
use Rattle.std.proofs.lemmas.List.{take_rest}
use Rattle.of_detok.proofs.Loops.{paired_more, paired_end, paired_bad, paired_short}
use Rattle.of_detok.proofs.reader.read_pairs.Goals as goal

pub returns-then-are_spaces : goal.returns-then-are_spaces
returns-then-are_spaces c =
    c.loop-text.invariant ∙ paired_end c.loop-text.out.items c.loop-text.text.now _ c.in-len2-up.len_at_least
    (sym c.are_spaces.ensures ∙ c.if-are_spaces.true)

pub returns-in_default-byte_of : goal.returns-in_default-byte_of
returns-in_default-byte_of c =
    c.loop-text.invariant
    ∙ paired_bad c.loop-text.out.items c.loop-text.text.now _ c.in-len2-up.len_at_least
    (sym c.are_spaces.ensures ∙ c.if-are_spaces.false) (sym c.byte_of.ensures ∙ c.in_default-byte_of.is)

pub loop-text-preserved : goal.loop-text-preserved
loop-text-preserved c =
    rw (take_rest c.loop-text.text.now 2, c.in_ok-push.ensures.items) (
    c.loop-text.invariant
    ∙ paired_more c.loop-text.out.items c.loop-text.text.now _ c.in-Some.byte c.in-len2-up.len_at_least
    (sym c.are_spaces.ensures ∙ c.if-are_spaces.false) (sym c.byte_of.ensures ∙ c.in-Some.is)
    )

pub returns : goal.returns
returns c = c.loop-text.invariant ∙ paired_short c.loop-text.out.items c.loop-text.text.now c.in_default.len_below
