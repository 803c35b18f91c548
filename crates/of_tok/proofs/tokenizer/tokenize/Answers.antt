use Rattle.std.proofs.Common.{rules, map, reverse}
use Rattle.of_tok.specs.Shown.{written_shown}
use Rattle.of_tok.proofs.ImageLemmas.{accepted, refused, too_many}
use Rattle.of_tok.proofs.tokenizer.tokenize.Goals as goal

pub returns-then-definitions-gt-MOST_DEFINITIONS-clause-err :
    goal.returns-then-definitions-gt-MOST_DEFINITIONS-clause-err
returns-then-definitions-gt-MOST_DEFINITIONS-clause-err c = too_many c.args.source.now (search rules)

pub returns-in-Err-write_tokens-clause-err : goal.returns-in-Err-write_tokens-clause-err
returns-in-Err-write_tokens-clause-err c =
    refused c.args.source.now (reverse (map written_shown c.in-Ok.tokens.items)) c.in-Err-write_tokens.fault
    (search rules) c.in-Ok.ensures.tokens c.in-Ok.ensures.room c.in-Err-write_tokens.ensures.err

pub returns-clause-ok : goal.returns-clause-ok
returns-clause-ok c =
    let a = accepted c.args.source.now (reverse (map written_shown c.in-Ok.tokens.items))
    c.in-Ok-write_tokens.bytes.items (search rules) c.in-Ok.ensures.tokens c.in-Ok.ensures.room
    c.in-Ok-write_tokens.ensures.ok in
    search rules
