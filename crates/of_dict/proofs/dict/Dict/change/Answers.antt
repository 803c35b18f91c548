use Rattle.std.proofs.Common.{◌≡◌, ◌∙◌, sym, ap, arith, get_or, set}
use Rattle.std.proofs.lemmas.List.{get_or_read}
use Rattle.of_dict.specs.Calls.{changed, changed_in}
use Rattle.of_dict.specs.Index.{after}
use Rattle.of_dict.specs.Headers.{links_of, words_of}
use Rattle.of_dict.specs.Words.{name_in, word_at}
use Rattle.of_dict.proofs.Headers.{links_set, nothing, word_there, words_set}
use Rattle.of_dict.proofs.Indexes.{IsIndexed-set, name_in-changed}
use Rattle.of_dict.proofs.dict.Dict.change.Goals as goal

pub invariant_of-self : goal.invariant_of-self
invariant_of-self c =
    let es = c.self.inside.headers.items in
    let n = c.args.word.0 in
    let new = c.change.new.self in
    let was : c.index_mut.result.now ≡ get_or es n nothing =
    get_or_read es n _ (omega arith) c.index_mut.ensures.value nothing in
    let link : new.link ≡ (get_or es n nothing).link = ap (λ e. e.link) c.change.ensures ∙ ap (λ e. e.link) was in
    let same : name_in new.word ≡ name_in (word_at (words_of es) n) =
    ap (λ e. name_in e.word) c.change.ensures ∙ name_in-changed c.args.change c.index_mut.result.now.word
    ∙ ap (λ e. name_in e.word) was ∙ ap name_in (sym (word_there es n)) in
    rw (words_set es n new, links_set es n new link)
    (IsIndexed-set (words_of es) (links_of es) _ n new.word same c.self.invariant)

pub returns-then-number-len : goal.returns-then-number-len
returns-then-number-len c =
    let es = c.self.inside.headers.items in
    let n = c.args.word.0 in
    let change = after c.args.change in
    let was : c.index_mut.result.now ≡ get_or es n nothing =
    get_or_read es n _ (omega arith) c.index_mut.ensures.value nothing in
    let word : c.change.new.self.word ≡ changed_in change (word_at (words_of es) n) =
    ap (λ e. e.word) c.change.ensures ∙ ap (λ e. changed_in change e.word) was
    ∙ ap (changed_in change) (sym (word_there es n)) in
    words_set es n c.change.new.self ∙ ap (set (words_of es) n) word ∙ ap (λ ws. changed change ws n) c.self.view_is
