use Rattle.std.proofs.Common.{append_assoc}
use Rattle.of_rom.specs.Texts.{line_text}
use Rattle.of_rom.proofs.text.write_line.Goals as goal

pub returns : goal.returns
unfolding line_text
returns c =
    rw (
      c.in_ok-push.ensures.items,
      c.in_ok-write_fcode.ensures,
      c.in_ok-write_code.ensures,
      c.in_ok-extend_from_slice.ensures.items,
      c.in_ok-write_titled-4.ensures,
      c.in_ok-write_titled-3.ensures,
      c.in_ok-write_titled-2.ensures,
      c.in_ok-write_titled.ensures,
      c.in_ok-write_number.ensures,
      c.from.ensures,
      c.from-2.ensures,
    ) (simp append_assoc)
