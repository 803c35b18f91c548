use Rattle.std.proofs.Common.{◌≡◌, ◌∷◌, ◌++◌, [], Some, refl, ap, length, rules, arith, ◌∙◌}
use Rattle.of_dict.specs.Calls.{made}
use Rattle.of_dict.specs.Headers.{Entry, links_of, words_of}
use Rattle.of_dict.proofs.Headers.{links_pushed, words_many, words_pushed}
use Rattle.of_dict.proofs.Indexes.{IsIndexed-push, name_is_linked}
use Rattle.of_dict.proofs.Searches.{head_is_less}
use Rattle.of_dict.proofs.dict.Dict.add_named.Goals as goal

pub invariant_of-self-2 : goal.invariant_of-self-2
invariant_of-self-2 c =
    let es = c.self.inside.headers.items in
    let w = Some (made (Some c.args.name.now) c.args.kind) in
    let e : Entry = record { word = w; link = c.in_ok-before.before } in
    let new : c.push.new.self.items ≡ es ++ e ∷ [] = search rules in
    let number : c.len-number.result ≡ length (words_of es) = omega (arith, words_many es) in
    rw (new, words_pushed es e, links_pushed es e) (IsIndexed-push (words_of es) (links_of es) _ w
    c.in_ok-before.before _ c.self.invariant
    (name_is_linked (words_of es) (links_of es) _ w c.args.name.now c.key_of.result
    c.in_ok-before.before _ c.self.invariant (omega (arith, words_many es, ap length c.self.view_is)) refl
    c.key_of.ensures
    (omega arith) c.in_ok-before.ensures.old (λ q. c.in_ok-before.ensures.updates.0 q ∙ rw number refl)))

pub of-requires-clause-linked : goal.of-requires-clause-linked
of-requires-clause-linked c =
    let es = c.self.inside.headers.items in
    head_is_less (words_of es) (links_of es) _ c.key_of.result c.in_ok-before.before c.self.invariant
    c.in_ok-before.ensures.old

-- The goals at which wrong bodies are refused.
pub returns-then-len-ge-CAPACITY-clause-added : goal.returns-then-len-ge-CAPACITY-clause-added
returns-then-len-ge-CAPACITY-clause-added c = search (rules, words_many)

pub key_of-requires : goal.key_of-requires
key_of-requires c = search rules
