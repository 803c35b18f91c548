use Rattle.std.proofs.Common.{◌++◌, List, ℕ, ap}
use Rattle.byteorder.proofs.Bytes.{between-bytes_high_first}
use Rattle.hex.specs.Hex.{encode_lower}
use Rattle.of_rom.specs.Texts.{number_shown}
use Rattle.of_rom.proofs.text.write_number.Goals as goal

pub returns : goal.returns
unfolding number_shown
returns c =
    rw (
      c.in_ok-extend_from_slice.ensures.items,
      c.as_bytes.ensures.value,
      c.in_ok-digits.ensures,
      c.to_be_bytes.ensures,
    ) (
    ap (λ (bytes : List ℕ). c.args.out.now.items ++ encode_lower bytes)
    (between-bytes_high_first 8 c.args.count c.args.number c.requires)
    )
