-- The header of an image is that of its bytes.
use Rattle.std.proofs.Common.{◌≡◌, ℕ, List, ◌++◌, length}
use Rattle.std.proofs.Common.{None, false, nat_lt, refl, sym, subst, arith}
use Rattle.std.proofs.lemmas.Bool.Decides.{nat_tests}
use Rattle.of_stream.specs.declared.stream.OffsetSize.{OffsetSize}
use Rattle.of_stream.specs.declared.stream.OffsetSize.TheVariants.{One, Two}
use Rattle.of_stream.specs.Image.{first_size, header_fault}
use Rattle.of_source.specs.Encodable.{definitions}
use Rattle.of_tok.specs.Image.{bytes_of, header, tokenized}
use Rattle.of_tok.specs.Laws.{HeaderIsTheSum, IsHeaded}
use Rattle.of_tok.proofs.ImageLemmas.{tokens}
use Rattle.of_tok.proofs.OrderLemmas.{accepted_is}

not_short : (size : OffsetSize) (bytes : List ℕ) → nat_lt (length (header size bytes ++ bytes)) 8 ≡ false
not_short One bytes = grind (arith, nat_tests)
not_short Two bytes = grind (arith, nat_tests)

starts_with : (size : OffsetSize) (bytes : List ℕ) → header_fault (header size bytes ++ bytes) ≡ None
unfolding header_fault
starts_with One bytes = rw (not_short One bytes) refl
starts_with Two bytes = rw (not_short Two bytes) refl

size_is : (size : OffsetSize) (bytes : List ℕ) → first_size (header size bytes ++ bytes) ≡ size
size_is One bytes = refl
size_is Two bytes = refl

headed : (size : OffsetSize) (bytes : List ℕ) → IsHeaded size (header size bytes ++ bytes)
headed size bytes = record {
  starts = starts_with size bytes;
  first = size_is size bytes;
  format = refl;
  summed = omega arith;
  long = omega arith;
}

pub header_is_the_sum : HeaderIsTheSum
unfolding tokenized
header_is_the_sum s image e =
    let a = accepted_is s.size (definitions s.items) (tokens s) image e in
    subst (IsHeaded s.size) (sym a.2) (headed s.size (bytes_of (tokens s)))
