use Rattle.std.proofs.Common.{◌≡◌, ◌∙◌, Option, Some, None, length, refl, ap, arith, sym, get_or, is_some}
use Rattle.std.specs.Option.{option_map}
use Rattle.of_dict.specs.declared.word.OwnWord.{OwnWord}
use Rattle.of_dict.specs.Index.{visible_from}
use Rattle.of_dict.specs.Headers.{links_of}
use Rattle.of_dict.proofs.Headers.{link_read, words_many}
use Rattle.of_dict.proofs.Indexes.{name_is_within}
use Rattle.of_dict.proofs.Searches.{borne_before, older_is_named}
use Rattle.of_dict.proofs.dict.Dict.is_borne_before.Goals as goal

-- a word's number is there where the word is
number_is_some : (found : Option OwnWord) → is_some (option_map (λ word. word.0) found) ≡ is_some found
number_is_some None = refl
number_is_some (Some word) = refl

pub visible_from-requires : goal.visible_from-requires
visible_from-requires c =
    let words = c.args.self.now in
    let indexed = rw c.self.view_is at c.self.invariant in
    let within = name_is_within words c.args.word.0 c.args.name.now c.requires in
    let es = c.self.inside.headers.items in
    let link : c.link.result ≡ get_or (links_of es) c.args.word.0 None = c.link.ensures ∙ link_read es c.args.word.0
    c.index.result.now (omega (arith, within, words_many es, ap length c.self.view_is)) c.index.ensures in
    rw link (older_is_named words (links_of es) _ c.args.word.0 indexed (
      within,
      (c.args.name.now, c.requires),
    ))

pub returns : goal.returns
returns c =
    let words = c.args.self.now in
    let indexed = rw c.self.view_is at c.self.invariant in
    let within = name_is_within words c.args.word.0 c.args.name.now c.requires in
    let es = c.self.inside.headers.items in
    let link : c.link.result ≡ get_or (links_of es) c.args.word.0 None = c.link.ensures ∙ link_read es c.args.word.0
    c.index.result.now (omega (arith, within, words_many es, ap length c.self.view_is)) c.index.ensures in
    let borne = borne_before words (links_of es) _ c.args.word.0 c.args.name.now indexed c.requires in
    c.is_some.ensures ∙ sym (number_is_some c.visible_from.result)
    ∙ ap is_some (c.visible_from.ensures.value ∙ ap (visible_from words) link ∙ sym borne)
