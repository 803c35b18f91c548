use Rattle.std.proofs.Common.{length, sym, ◌∙◌, ◌≡◌, refl, arith}
use Rattle.of_stream.specs.Sizes.{size_behind}
use Rattle.of_stream.specs.Decoding.{token_shown}
use Rattle.of_check.specs.Tokens.{tokens_from}
use Rattle.of_check.proofs.Steps.{rest_all, rest_cut, rest_end, rest_first, rest_more, rest_none}
use Rattle.of_check.proofs.checker.push_tokens.Goals as goal

pub loop-init : goal.loop-init
loop-init c =
    let image = c.args.stream.image.now in
    (rest_first c.args.out.now.items image _ (length image) _ c.requires.none c.first_size-size.ensures, omega arith)

pub returns-in-Err : goal.returns-in-Err
returns-in-Err c =
    let image = c.args.stream.image.now in
    sym (rest_cut c.loop.out.items image c.loop.made (length image) c.loop.counter c.loop.position c.loop.size
    c.loop-test.true c.in-Err.ensures.err.0)
    ∙ c.loop.invariant.0
    ∙ rest_all c.args.out.now.items image

pub returns-then-is_end : goal.returns-then-is_end
returns-then-is_end c =
    let image = c.args.stream.image.now in
    rw c.in_ok-push_token.ensures (
    sym (rest_end c.loop.out.items image c.loop.made (length image) c.loop.counter c.loop.position c.loop.size
    (token_shown c.in-Ok.read.0, c.in-Ok.read.1)
    (tokens_from image (length image) c.in-Ok.read.1 c.size_behind-behind.result).tokens
    c.loop-test.true c.in-Ok.ensures.ok (sym c.is_end.ensures ∙ c.if-is_end.true))
    ∙ c.loop.invariant.0
    ∙ rest_all c.args.out.now.items image
    )

pub loop-preserved : goal.loop-preserved
loop-preserved c =
    let image = c.args.stream.image.now in
    let size : c.size_behind-behind.result ≡ size_behind c.in-Ok.read.0.code.0 c.loop.size =
    c.size_behind-behind.ensures in
    let up = c.in-Ok.ensures.rises in (
      rw (c.in_ok-push_token.ensures, c.pass.ensures, size) (
          sym (rest_more c.tokens_stand_alone.ensures c.loop.out.items image c.loop.made (length image) c.loop.counter
          c.loop.position c.loop.size (token_shown c.in-Ok.read.0, c.in-Ok.read.1) refl
          c.loop-test.true c.loop.invariant.1 c.in-Ok.ensures.ok (sym c.is_end.ensures ∙ c.if-is_end.false))
          ∙ c.loop.invariant.0
          ),
      omega (arith, c.loop.invariant.1, up),
    )

pub returns : goal.returns
returns c =
    let image = c.args.stream.image.now in
    sym (rest_none c.loop.out.items image c.loop.made (length image) c.loop.counter c.loop.position c.loop.size
    c.loop-test.false)
    ∙ c.loop.invariant.0
    ∙ rest_all c.args.out.now.items image
