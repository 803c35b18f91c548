use Rattle.std.proofs.Common.{◌≡◌, ◌∙◌, ◌<◌, ◌+◌, ◌++◌, ap, rules, length, option_map, None, Some}
use Rattle.of_scan.specs.Parts.{group_in, part_to, quoted_part}
use Rattle.of_scan.proofs.GroupLemmas.{group_appended, group_long, piece_long, string_ended}
use Rattle.of_scan.proofs.parts.bytes_of_quoted.Goals as goal

pub returns-in_err-ok-clause-long : goal.returns-in_err-ok-clause-long
returns-in_err-ok-clause-long c =
    let full : 255 < length c.loop.out.items + length (part_to 34 c.loop.rest.now).0 = search rules in
    let long : 255 < length (quoted_part c.args.text.now).0 =
    piece_long c.loop.out.items c.loop.rest.now _ c.loop.counter (length c.args.text.now) c.loop-test.true
    c.loop.invariant full in
    search (long, rules)

pub returns-in_err-append_group-in-Some-clause-long : goal.returns-in_err-append_group-in-Some-clause-long
returns-in_err-append_group-in-Some-clause-long c =
    let mid : c.try_extend_from_slice.new.self.items ≡ c.loop.out.items ++ (part_to 34 c.loop.rest.now).0 =
    search rules in
    let next : Some c.in-Some.next.now ≡ option_map (λ g. g.1) (group_in c.part_to.result.1.now) = search rules in
    let none : c.append_group.result ≡ None = search rules in
    let long : 255 < length (quoted_part c.args.text.now).0 =
    group_long c.append_group.result c.loop.out.items c.try_extend_from_slice.new.self.items c.loop.rest.now
    c.part_to.result.1.now c.in-Some.next.now _ c.loop.counter (length c.args.text.now) c.loop-test.true
    c.loop.invariant mid (ap (λ p. p.1) c.part_to.ensures.parts) next none c.append_group.ensures.long in
    search (long, rules)

pub returns-in-None-clause-bytes : goal.returns-in-None-clause-bytes
returns-in-None-clause-bytes c =
    let none : None ≡ option_map (λ g. g.1) (group_in (part_to 34 c.loop.rest.now).1) = search rules in
    let bytes : c.try_extend_from_slice.new.self.items ≡ c.loop.out.items ++ (part_to 34 c.loop.rest.now).0 =
    search rules in
    bytes
    ∙ string_ended c.loop.out.items c.loop.rest.now _ c.loop.counter (length c.args.text.now) c.loop-test.true
    c.loop.invariant none

pub loop-preserved : goal.loop-preserved
loop-preserved c =
    let mid : c.try_extend_from_slice.new.self.items ≡ c.loop.out.items ++ (part_to 34 c.loop.rest.now).0 =
    search rules in
    let next : Some c.in-Some.next.now ≡ option_map (λ g. g.1) (group_in c.part_to.result.1.now) = search rules in
    let some : c.append_group.result ≡ Some c.in_ok-append_group-in-Some.field-0 = search rules in
    group_appended c.append_group.result _ c.loop.out.items c.try_extend_from_slice.new.self.items
    c.append_group.new.out.items c.loop.rest.now c.part_to.result.1.now c.in-Some.next.now _ c.loop.counter
    (length c.args.text.now) c.loop-test.true c.loop.invariant mid (ap (λ p. p.1) c.part_to.ensures.parts) next some
    c.append_group.ensures.bytes
