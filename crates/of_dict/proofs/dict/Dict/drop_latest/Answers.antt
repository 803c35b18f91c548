use Rattle.std.proofs.Common.{◌≡◌, ◌-◌, suc, length, take, None, sym, ap, arith, rules}
use Rattle.of_dict.specs.Headers.{links_of, words_of}
use Rattle.of_dict.specs.Words.{name_in, word_at}
use Rattle.of_dict.proofs.Headers.{links_taken, words_many, words_taken}
use Rattle.of_dict.proofs.Indexes.{IsIndexed-shorter}
use Rattle.of_dict.proofs.dict.Dict.drop_latest.Goals as goal

pub invariant_of-self : goal.invariant_of-self
invariant_of-self c =
    let es = c.self.inside.headers.items in
    let words = words_of es in
    let many : length words ≡ length es = words_many es in
    let some : length words ≡ suc (length words - 1) = omega (arith, c.requires.some, ap length c.self.view_is) in
    let nameless : name_in (word_at words (length words - 1)) ≡ None = rw c.self.view_is c.requires.nameless in
    let fewer : c.pop.new.self.items ≡ take (length es - 1) es = search rules in
    rw (fewer, words_taken es (length es - 1), links_taken es (length es - 1), sym many)
    (IsIndexed-shorter words (links_of es) _ (length words - 1) some nameless c.self.invariant)
