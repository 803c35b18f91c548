use Rattle.std.proofs.Common.{◌≡◌, ◌∙◌, get_or, length, Some, None, true, arith, sym, ap, subst}
use Rattle.of_dict.specs.Words.{is_hidden_in, word_at}
use Rattle.of_dict.specs.Index.{IsNamed, visible_from}
use Rattle.of_dict.specs.Headers.{links_of}
use Rattle.of_dict.proofs.Headers.{link_read, words_many}
use Rattle.of_dict.proofs.Searches.{older_is_less, older_is_named, visible_from-hidden}
use Rattle.of_dict.proofs.dict.Dict.visible_from.Goals as goal

pub loop-at-smaller : goal.loop-at-smaller
loop-at-smaller c =
    let is : c.loop-at.at ≡ Some c.in-Some.number = c.in-Some.is in
    let named = subst (IsNamed c.args.self.now) is c.loop-at.invariant.named in
    let indexed = rw c.self.view_is at c.self.invariant in
    let es = c.self.inside.headers.items in
    let link : c.link-at.result ≡ get_or (links_of es) c.in-Some.number None =
    c.link-at.ensures ∙ link_read es c.in-Some.number c.index.result.now
    (omega (arith, named.0, words_many es, ap length c.self.view_is)) c.index.ensures in
    let less = older_is_less c.args.self.now (links_of es) _ c.in-Some.number indexed named in
    rw (is, link) (omega (arith, less))

pub loop-at-preserved : goal.loop-at-preserved
loop-at-preserved c =
    let is : c.loop-at.at ≡ Some c.in-Some.number = c.in-Some.is in
    let named = subst (IsNamed c.args.self.now) is c.loop-at.invariant.named in
    let indexed = rw c.self.view_is at c.self.invariant in
    let es = c.self.inside.headers.items in
    let link : c.link-at.result ≡ get_or (links_of es) c.in-Some.number None =
    c.link-at.ensures ∙ link_read es c.in-Some.number c.index.result.now
    (omega (arith, named.0, words_many es, ap length c.self.view_is)) c.index.ensures in
    let hidden : is_hidden_in (word_at c.args.self.now c.in-Some.number) ≡ true = sym c.is_hidden.ensures
    ∙ c.if-not-is_hidden.false in
    let step = visible_from-hidden c.args.self.now (links_of es) _ c.in-Some.number indexed named hidden in
    record {
      named = rw link (older_is_named c.args.self.now (links_of es) _ c.in-Some.number indexed named);
      found = rw link (sym step ∙ ap (visible_from c.args.self.now) (sym is) ∙ c.loop-at.invariant.found);
    }
