use Rattle.std.proofs.Common.{◌≡◌, ◌∷◌, ◌++◌, [], Some, None, refl, ap, length, rules, arith}
use Rattle.of_dict.specs.Calls.{made}
use Rattle.of_dict.specs.Headers.{Entry, links_of, words_of}
use Rattle.of_dict.proofs.Headers.{links_pushed, words_many, words_pushed}
use Rattle.of_dict.proofs.Indexes.{IsIndexed-push, none_is_linked}
use Rattle.of_dict.proofs.dict.Dict.add_nameless.Goals as goal

pub invariant_of-self-2 : goal.invariant_of-self-2
invariant_of-self-2 c =
    let es = c.self.inside.headers.items in
    let w = Some (made None c.args.kind) in
    let e : Entry = record { word = w; link = None } in
    let new : c.push.new.self.items ≡ es ++ e ∷ [] = search rules in
    rw (new, words_pushed es e, links_pushed es e) (IsIndexed-push (words_of es) (links_of es) _ w None _
    c.self.invariant (none_is_linked (words_of es) (links_of es) _ w refl
    (omega (arith, words_many es, ap length c.self.view_is))))
