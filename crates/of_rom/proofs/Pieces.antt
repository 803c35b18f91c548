-- A ROM that is put together of images has these images.
use Rattle.std.proofs.Common.{◌≡◌, ◌+◌, ℕ, List, [], ◌∷◌, ◌++◌, Option, None, Bool, true, false, length, refl, sym}
use Rattle.std.proofs.Common.{ap, ◌∙◌, subst, arith, append_assoc}
use Rattle.std.proofs.lemmas.List.{length-append}
use Rattle.std.specs.List.{AllByRecursion}
use Rattle.of_rom.specs.declared.fault.RomFault.{RomFault}
use Rattle.of_rom.specs.declared.image.RomImage.{RomImage}
use Rattle.of_rom.specs.Images.{end_of}
use Rattle.of_rom.specs.Laws.{Adjoin, GoesOn, IsImage}
use Rattle.of_rom.specs.Rows.{IsEnded, IsPiece, Piece, PiecesAreRead, bytes_in, images_in, moved}
use Rattle.of_rom.proofs.Adjoining.{images_adjoin}
use Rattle.of_rom.proofs.Moved.{image_before, image_behind}

stands : (before : List ℕ) (p : Piece) (more behind : List ℕ) → IsPiece p
    → IsImage (before ++ ((p.bytes ++ more) ++ behind)) (length before) (moved (length before) p.image)
stands before p more behind h =
    let from : length before + 0 ≡ length before = omega arith in
    let i : RomImage = moved (length before) p.image in
    subst (λ (xs : List ℕ). IsImage (before ++ xs) (length before) i) (sym (append_assoc p.bytes more behind)) (
    subst (λ (n : ℕ). IsImage (before ++ (p.bytes ++ (more ++ behind))) n i) from (
    image_behind before (p.bytes ++ (more ++ behind)) 0 p.image (image_before p.bytes (more ++ behind) 0 p.image h.0)
    ))

goes_no_further : (b : Bool) (Others : Type 0) → b ≡ true → GoesOn b [] None Others
goes_no_further true Others e = (refl, refl)
goes_no_further false Others e = absurd cc

goes_on : (b : Bool) (images : List RomImage) (f : Option RomFault) (Others : Type 0) → b ≡ false → Others
    → GoesOn b images f Others
goes_on true images f Others e h = absurd cc
goes_on false images f Others e h = h

carried : (pieces : List Piece) (r s : List ℕ) (m n at : ℕ) → r ≡ s → m ≡ n → m ≡ at
    → Adjoin r m (images_in m pieces) None → Adjoin s at (images_in n pieces) None
carried pieces r s m n at er en ea h =
    subst (λ (xs : List ℕ). Adjoin xs at (images_in n pieces) None) er (
    subst (λ (k : ℕ). Adjoin r k (images_in n pieces) None) ea (
    subst (λ (k : ℕ). Adjoin r m (images_in k pieces) None) en h
    ))

-- where a piece ends
ends_at : (by offset size n : ℕ) → offset ≡ 0 → size ≡ n → by + n ≡ by + offset + size
ends_at by offset size n o s = omega arith

adjoin : (pieces : List Piece) (before behind : List ℕ) → AllByRecursion IsPiece pieces → IsEnded pieces
    → Adjoin (before ++ (bytes_in pieces ++ behind)) (length before) (images_in (length before) pieces) None
adjoin [] before behind h e = absurd e
adjoin (p ∷ []) before behind h e = (stands before p [] behind h.0, goes_no_further p.image.is_last _ e)
adjoin (p ∷ q ∷ pieces) before behind h e =
    let more : List ℕ = bytes_in (q ∷ pieces) in
    let own : List ℕ = p.bytes in
    let joined : (before ++ own) ++ (more ++ behind) ≡ before ++ ((own ++ more) ++ behind) =
    append_assoc before own (more ++ behind)
    ∙ ap (λ (xs : List ℕ). before ++ xs) (sym (append_assoc own more behind)) in
    let long : length (before ++ own) ≡ length before + length own = length-append before own in (
      stands before p more behind h.0,
      goes_on p.image.is_last _ None _ e.0 (
          carried (q ∷ pieces) ((before ++ own) ++ (more ++ behind)) (before ++ ((own ++ more) ++ behind))
          (length (before ++ own)) (length before + length own) (end_of (moved (length before) p.image)) joined long
          (long ∙ ends_at (length before) p.image.offset p.image.length (length own) h.0.0.begins h.0.1)
          (adjoin (q ∷ pieces) (before ++ own) behind h.1 e.1)
          ),
    )

pub pieces_are_read : PiecesAreRead
pieces_are_read pieces behind h e =
    (images_adjoin (bytes_in pieces ++ behind) (images_in 0 pieces) None).1 (adjoin pieces [] behind h e)
