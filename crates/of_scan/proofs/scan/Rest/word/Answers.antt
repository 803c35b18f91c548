use Rattle.std.proofs.Common.{sym, ap, ◌∙◌, rules}
use Rattle.of_scan.specs.Scan.{Rest, word_length}
use Rattle.of_scan.proofs.WordLemmas.{nothing_left}
use Rattle.of_scan.proofs.scan.Rest.word.Goals as goal

pub returns-then-length-eq0-clause-end : goal.returns-then-length-eq0-clause-end
returns-then-length-eq0-clause-end c =
    c.skip_blanks.ensures
    ∙ nothing_left c.args.self.now.at c.args.self.now.text
    (ap (λ (r : Rest). word_length r.text) (sym (c.self.view_is ∙ c.skip_blanks.ensures))
    ∙ sym c.word_length-length.ensures ∙ c.if-length-eq0.true)

pub returns-clause-at : goal.returns-clause-at
returns-clause-at c = search rules
