use Rattle.std.proofs.Common.{◌≡◌, arith}
use Rattle.std.proofs.KnownBytes.{Appends-kept}
use Rattle.of_files.proofs.Written.{more_written, none_written}
use Rattle.of_files.proofs.output.write_whole.Goals as goal

pub returns-in-Ok-eq0-clause-err : goal.returns-in-Ok-eq0-clause-err
returns-in-Ok-eq0-clause-err g c =
    let none : c.in-Ok-eq0.field-0 ≡ 0 = omega arith in
    (c.loop-gone.gone, none_written _ _ _ _ _ _ none c.loop-gone.invariant.written c.in-Ok-eq0.ensures.bytes)

pub loop-gone-preserved : goal.loop-gone-preserved
loop-gone-preserved g c = record {
  within = omega (arith, c.in-Ok.ensures.bound);
  written = more_written _ _ _ _ _ _ c.loop-gone.invariant.written c.in-Ok.ensures.bytes;
}

pub returns-in-Err-clause-err : goal.returns-in-Err-clause-err
returns-in-Err-clause-err g c =
    (c.loop-gone.gone, Appends-kept _ _ _ _ c.loop-gone.invariant.written c.in-Err.ensures.bytes)
