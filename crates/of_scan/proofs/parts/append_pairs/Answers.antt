use Rattle.std.proofs.Common.{◌≡◌, ◌∙◌, ◌≤◌, ◌<◌, ◌+◌, ◌++◌, ◌∷◌, [], sym, arith, rules, length, IfSome}
use Rattle.std.proofs.lemmas.List.{take_rest}
use Rattle.of_scan.specs.Parts.{paired}
use Rattle.of_scan.proofs.GroupLemmas.{pairs_blank, pairs_done, pairs_long, pairs_more, pairs_none}
use Rattle.of_scan.proofs.parts.append_pairs.Goals as goal

pub loop-digits-preserved-then-is_blank : goal.loop-digits-preserved-then-is_blank
loop-digits-preserved-then-is_blank c = rw (take_rest c.loop-digits.digits.now 1) (
    pairs_blank c.args.out.now.items c.loop-digits.out.items c.loop-digits.digits.now c.args.digits.now _
    c.in-len2-up.len_at_least (sym c.is_blank.ensures ∙ c.if-is_blank.true) c.loop-digits.invariant)

pub returns-in_default-byte_of-clause-bytes : goal.returns-in_default-byte_of-clause-bytes
returns-in_default-byte_of-clause-bytes c =
    pairs_none c.args.out.now.items c.loop-digits.out.items c.loop-digits.digits.now c.args.digits.now _ _
    c.in-len2-up.len_at_least (sym c.is_blank.ensures ∙ c.if-is_blank.false)
    (sym c.byte_of.ensures ∙ c.in_default-byte_of.is) c.loop-digits.invariant

pub returns-in_err-ok-clause-long : goal.returns-in_err-ok-clause-long
returns-in_err-ok-clause-long c =
    let full : 255 ≤ length c.loop-digits.out.items = search rules in
    let long : IfSome (paired c.args.digits.now) (λ bytes. 255 < length c.args.out.now.items + length bytes) =
    pairs_long c.args.out.now.items c.loop-digits.out.items c.loop-digits.digits.now c.args.digits.now _ _
    c.in-len2-up.len_at_least (sym c.is_blank.ensures ∙ c.if-is_blank.false)
    (sym c.byte_of.ensures ∙ c.in-Some.is) full c.loop-digits.invariant in
    search (long, rules)

pub loop-digits-preserved : goal.loop-digits-preserved
loop-digits-preserved c =
    let pushed : c.try_push.new.self.items ≡ c.loop-digits.out.items ++ c.in-Some.byte ∷ [] = search rules in
    rw (take_rest c.loop-digits.digits.now 2, pushed) (
    pairs_more c.args.out.now.items c.loop-digits.out.items c.loop-digits.digits.now c.args.digits.now _ _
    c.in-len2-up.len_at_least (sym c.is_blank.ensures ∙ c.if-is_blank.false)
    (sym c.byte_of.ensures ∙ c.in-Some.is) c.loop-digits.invariant)

pub returns-clause-bytes : goal.returns-clause-bytes
returns-clause-bytes c =
    pairs_done c.args.out.now.items c.loop-digits.out.items c.loop-digits.digits.now c.args.digits.now
    (omega (arith, c.in_default.len_below)) c.loop-digits.invariant
