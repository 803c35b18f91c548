use Rattle.std.proofs.Common.{◌≡◌, ◌-◌, length}
use Rattle.of_stream.specs.Image.{first_size, header_length}
use Rattle.of_detok.specs.Listing.{lines_from, text_behind}
use Rattle.of_detok.proofs.lister.write_tokens.Given as goal

abbrev pub invariant-loop : goal.invariant-loop
invariant-loop l =
    let image = l.stream.image.now in
    text_behind l.out.items (lines_from image (length image - l.counter) l.notes l.position l.size)
    ≡ text_behind l.fn.out.items (lines_from image (length image) l.fn.notes header_length (first_size image))
