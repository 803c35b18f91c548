use Rattle.std.proofs.Common.{◌≡◌, ◌∙◌, Some, None, refl, ap, arith, sym, get_or, set}
use Rattle.std.proofs.lemmas.List.{get_or_read}
use Rattle.of_dict.specs.Headers.{links_of, words_of}
use Rattle.of_dict.specs.Words.{name_in, newest, word_at}
use Rattle.of_dict.proofs.Headers.{link_read, links_set, nothing, words_many, words_set}
use Rattle.of_dict.proofs.Indexes.{IsIndexed-set, IsIndexed-taken, head_is_some, newest_is_within}
use Rattle.of_dict.proofs.dict.Dict.take_away.Goals as goal

pub unlink-requires : goal.unlink-requires
unlink-requires c =
    let es = c.self.inside.headers.items in
    let newest_is : newest (words_of es) ≡ Some c.args.word.0 = rw c.self.view_is c.requires in
    let its : name_in (word_at (words_of es) c.args.word.0) ≡ Some c.in-Some.name.now = rw c.self.view_is
    (sym c.in-Some.ensures.name) in
    head_is_some (words_of es) (links_of es) _ c.args.word.0 c.in-Some.name.now c.key_of-key.result
    c.self.invariant (newest_is_within (words_of es) c.args.word.0 newest_is) its c.key_of-key.ensures

pub invariant_of-self : goal.invariant_of-self
invariant_of-self c =
    let es = c.self.inside.headers.items in
    let n = c.args.word.0 in
    let new = c.take_away.new.self in
    let newest_is : newest (words_of es) ≡ Some n = rw c.self.view_is c.requires in
    let within = newest_is_within (words_of es) n newest_is in
    let its : name_in (word_at (words_of es) n) ≡ Some c.in-Some.name.now = rw c.self.view_is
    (sym c.in-Some.ensures.name) in
    let read : c.link.result ≡ get_or (links_of es) n None = c.link.ensures ∙ link_read es n c.index.result.now
    (omega (arith, within, words_many es)) c.index.ensures in
    let was : c.index_mut.result.now ≡ get_or es n nothing =
    get_or_read es n _ (omega (arith, within, words_many es)) c.index_mut.ensures.value nothing in
    let gone : new.word ≡ None = ap (λ e. e.word) c.take_away.ensures in
    let link : new.link ≡ (get_or es n nothing).link = ap (λ e. e.link) c.take_away.ensures ∙ ap (λ e. e.link) was in
    rw (words_set es n new, links_set es n new link, gone) (IsIndexed-taken (words_of es) (links_of es) _ _ n
    c.in-Some.name.now c.key_of-key.result c.self.invariant newest_is its c.key_of-key.ensures
    (λ q. c.unlink.ensures q ∙ rw read refl))

-- The goal at which a wrong body is refused.
pub returns-in-Some : goal.returns-in-Some
returns-in-Some c =
    let es = c.self.inside.headers.items in
    let n = c.args.word.0 in
    let gone : c.take_away.new.self.word ≡ None = ap (λ e. e.word) c.take_away.ensures in
    words_set es n c.take_away.new.self ∙ ap (set (words_of es) n) gone ∙ ap (λ ws. set ws n None) c.self.view_is

pub index_mut-requires-in-None : goal.index_mut-requires-in-None
index_mut-requires-in-None c =
    let es = c.self.inside.headers.items in
    let newest_is : newest (words_of es) ≡ Some c.args.word.0 = rw c.self.view_is c.requires in
    omega (arith, words_many es, newest_is_within (words_of es) c.args.word.0 newest_is)

pub invariant_of-self-in-None : goal.invariant_of-self-in-None
invariant_of-self-in-None c =
    let es = c.self.inside.headers.items in
    let n = c.args.word.0 in
    let new = c.take_away-in-None.new.self in
    let newest_is : newest (words_of es) ≡ Some n = rw c.self.view_is c.requires in
    let within = newest_is_within (words_of es) n newest_is in
    let none : None ≡ name_in (word_at (words_of es) n) = rw c.self.view_is c.in-None.ensures.name in
    let was : c.index_mut-in-None.result.now ≡ get_or es n nothing =
    get_or_read es n _ (omega (arith, within, words_many es)) c.index_mut-in-None.ensures.value nothing in
    let gone : new.word ≡ None = ap (λ e. e.word) c.take_away-in-None.ensures in
    let link : new.link ≡ (get_or es n nothing).link = ap (λ e. e.link) c.take_away-in-None.ensures
    ∙ ap (λ e. e.link) was in
    rw (words_set es n new, links_set es n new link, gone)
    (IsIndexed-set (words_of es) (links_of es) _ n None none c.self.invariant)

-- The goal at which a wrong body is refused.
pub returns-in-None : goal.returns-in-None
returns-in-None c =
    let es = c.self.inside.headers.items in
    let n = c.args.word.0 in
    let gone : c.take_away-in-None.new.self.word ≡ None = ap (λ e. e.word) c.take_away-in-None.ensures in
    words_set es n c.take_away-in-None.new.self ∙ ap (set (words_of es) n) gone
    ∙ ap (λ ws. set ws n None) c.self.view_is
