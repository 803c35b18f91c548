-- ROMs that are put together of images (PCI Local Bus Specification 3.0, 6.3).
use Rattle.std.specs.Prelude.{◌≡◌, ◌+◌, ℕ, List, [], ◌∷◌, ◌++◌, length, None, true, false}
use Rattle.std.specs.List.{AllByRecursion}
use Rattle.std.specs.Option.{option_map}
use Rattle.of_rom.specs.declared.image.RomImage.{RomImage}
use Rattle.of_rom.specs.Laws.{IsImage}
use Rattle.of_rom.specs.Roms.{images_of}

-- some bytes, and the image that they are
pub record Piece : Type 0 where
  pub bytes : List ℕ
  pub image : RomImage

-- they are this image by themselves, and it has no more of them
abbrev pub IsPiece : Piece → Type 0
IsPiece p = IsImage p.bytes 0 p.image × (p.image.length ≡ length p.bytes)

-- an image that stands so many bytes further on
abbrev pub moved : ℕ → RomImage → RomImage
moved by i = record i { offset = by + i.offset; fcode = option_map (λ fcode. by + fcode) i.fcode }

-- pieces one behind the other: their bytes, and their images from a place on
abbrev pub bytes_in : List Piece → List ℕ
bytes_in [] = []
bytes_in (p ∷ pieces) = p.bytes ++ bytes_in pieces

abbrev pub images_in : ℕ → List Piece → List RomImage
images_in at [] = []
images_in at (p ∷ pieces) = moved at p.image ∷ images_in (at + length p.bytes) pieces

-- the last of them says that it is the last, and no other does
abbrev pub IsEnded : List Piece → Type 0
IsEnded [] = ⊥
IsEnded (p ∷ []) = p.image.is_last ≡ true
IsEnded (p ∷ q ∷ pieces) = (p.image.is_last ≡ false) × IsEnded (q ∷ pieces)

-- a ROM that is put together of images has these images, whatever stands behind them
abbrev pub PiecesAreRead : Type 0
PiecesAreRead = (pieces : List Piece) (behind : List ℕ) → AllByRecursion IsPiece pieces → IsEnded pieces
    → images_of (bytes_in pieces ++ behind) ≡ (images_in 0 pieces, None)
