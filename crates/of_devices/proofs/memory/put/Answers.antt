use Rattle.std.proofs.Common.{◌∙◌, ◌%◌, ◌^◌, ap}
use Rattle.byteorder.specs.Endian.{big_bytes}
use Rattle.of_memory.specs.DataSpace.{splice}
use Rattle.of_devices.proofs.BytesLemmas.{half_bytes, put_tail}
use Rattle.of_devices.proofs.memory.put.Goals as goal

pub returns-in-Two : goal.returns-in-Two
returns-in-Two c =
    rw (c.write_u16.ensures, c.low_half.ensures, c.in-Two.is)
    (put_tail c.args.bytes.now (big_bytes 2 (c.args.x.0 % 2 ^ 16)) c.args.at (rw c.in-Two.is at c.requires)
    ∙ ap (splice c.args.bytes.now c.args.at) (half_bytes c.args.x.0))

pub returns-in-Four : goal.returns-in-Four
returns-in-Four c =
    rw (c.write_u32.ensures, c.in-Four.is)
    (put_tail c.args.bytes.now (big_bytes 4 c.args.x.0) c.args.at (rw c.in-Four.is at c.requires))
