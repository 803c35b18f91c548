use Rattle.std.proofs.Common.{sym, ◌∙◌, rules, arith}
use Rattle.std.proofs.lemmas.List.{take_rest}
use Rattle.of_scan.proofs.Scanning.{pair_more, pairs_end, pairs_line, pairs_blank, pairs_bad}
use Rattle.of_scan.proofs.scan.read_pairs.Goals as goal

pub loop-text-preserved : goal.loop-text-preserved
loop-text-preserved c = record {
  same = rw (take_rest c.loop-text.text.now 2, c.in_ok-push.ensures.items) (
      sym (pair_more c.loop-text.out.items c.loop-text.text.now _ c.in-Some.byte c.in-len2-up.len_at_least
      c.if-a-eq41.false c.if-a-eq10.false (sym c.is_blank.ensures ∙ c.if-is_blank.false) (sym c.byte_of.ensures
      ∙ c.in-Some.is))
      ∙ c.loop-text.invariant.same);
  shorter = search rules;
}

pub returns-then-a-eq41-clause-found : goal.returns-then-a-eq41-clause-found
returns-then-a-eq41-clause-found c = rw (take_rest c.loop-text.text.now 1) (
    pairs_end c.loop-text.out.items c.loop-text.text.now _ (omega arith) c.if-a-eq41.true
    ∙ c.loop-text.invariant.same)

pub returns-then-a-eq10-clause-found : goal.returns-then-a-eq10-clause-found
returns-then-a-eq10-clause-found c =
    pairs_line c.loop-text.out.items c.loop-text.text.now _ c.in-len2-up.len_at_least c.if-a-eq10.true
    ∙ c.loop-text.invariant.same

pub loop-text-preserved-then-is_blank : goal.loop-text-preserved-then-is_blank
loop-text-preserved-then-is_blank c = record {
  same = rw (take_rest c.loop-text.text.now 1) (
      pairs_blank c.loop-text.out.items c.loop-text.text.now _ c.in-len2-up.len_at_least c.if-a-eq41.false
      c.if-a-eq10.false (sym c.is_blank.ensures ∙ c.if-is_blank.true)
      ∙ c.loop-text.invariant.same);
  shorter = search rules;
}

pub returns-in_default-byte_of-clause-found : goal.returns-in_default-byte_of-clause-found
returns-in_default-byte_of-clause-found c =
    pairs_bad c.loop-text.out.items c.loop-text.text.now _ c.in-len2-up.len_at_least c.if-a-eq41.false
    c.if-a-eq10.false (sym c.is_blank.ensures ∙ c.if-is_blank.false) (sym c.byte_of.ensures ∙ c.in_default-byte_of.is)
    ∙ c.loop-text.invariant.same
