-- A file of which one part after another is read.
use Rattle.std.proofs.Common.{◌≡◌, ◌≤◌, ◌⊎◌, ◌∙◌, ℕ, ◌+◌, List, [], ◌∷◌, ◌++◌, length, Option, Some, None, IfSome}
use Rattle.std.proofs.Common.{Result, Ok, Err, Bool, true, false, cond, refl, sym, ap, subst, arith, inl, inr}
use Rattle.std.proofs.lemmas.List.Elements.{filter-append}
use Rattle.std.proofs.lemmas.List.{length-append}
use Rattle.std.specs.Io.KnownBytes.{Consumes, IsAtEnd}
use Rattle.std.specs.Char.{is_ascii_whitespace}
use Rattle.std.specs.Prelude.{not, ◌<◌}
use Rattle.std.proofs.Common.{append_assoc, true≢false}
use Rattle.hex.specs.Hex.{decode_of, decode_pairs}
use Rattle.of_files.specs.declared.fault.Fault.TheVariants as fault
use Rattle.of_files.specs.Files.{first_place, is_binary, behind, dense, image_in, image_with, is_text, past, said}
use Rattle.of_files.specs.Files.{stray_from, Decides, IsStray}
use Rattle.of_files.specs.declared.fault.Fault.{Fault}
use Rattle.of_files.specs.declared.part.Part.{Part}
use Rattle.of_source.specs.declared.place.Place.{Place}

-- the first stray byte of a text without one stands in what follows the text
pub stray_behind : (p : Place) (a b : List ℕ) → stray_from p a ≡ None → stray_from p (a ++ b) ≡ stray_from (past a p) b
stray_behind p [] b none = refl
stray_behind p (x ∷ a) b none = go (is_text x) refl (stray_behind (behind x p) a b)
  where
    go : (t : Bool) → is_text x ≡ t
        → (stray_from (behind x p) a ≡ None → stray_from (behind x p) (a ++ b) ≡ stray_from (past a (behind x p)) b)
        → stray_from p (x ∷ a ++ b) ≡ stray_from (past (x ∷ a) p) b
    go true e rest = rw e (rest (subst (λ t. cond t (stray_from (behind x p) a) (Some (p, x)) ≡ None) e none))
    go false e rest = absurd cc

-- that of a text with one is found whatever follows
pub stray_found : (p : Place) (a b : List ℕ) (s : Place × ℕ) → stray_from p a ≡ Some s
    → stray_from p (a ++ b) ≡ Some s
stray_found p [] b s some = absurd cc
stray_found p (x ∷ a) b s some = go (is_text x) refl (stray_found (behind x p) a b s)
  where
    go : (t : Bool) → is_text x ≡ t
        → (stray_from (behind x p) a ≡ Some s → stray_from (behind x p) (a ++ b) ≡ Some s)
        → stray_from p (x ∷ a ++ b) ≡ Some s
    go true e rest =
        rw e (rest (subst (λ t. cond t (stray_from (behind x p) a) (Some (p, x)) ≡ Some s) e some))
    go false e rest = rw e (subst (λ t. cond t (stray_from (behind x p) a) (Some (p, x)) ≡ Some s) e some)

-- digits that are taken, and then the others
pub digits_on : (p : Place) (digits bytes rest : List ℕ) → stray_from p bytes ≡ None
    → said (stray_from (past bytes p) rest) (decode_of ((digits ++ dense bytes) ++ dense rest))
    ≡ said (stray_from p (bytes ++ rest)) (decode_of (digits ++ dense (bytes ++ rest)))
digits_on p digits bytes rest none =
    rw (
      stray_behind p bytes rest none,
      filter-append (λ b. not (is_ascii_whitespace b)) bytes rest,
      append_assoc digits (dense bytes) (dense rest),
    ) refl

pub digits_stray : (p : Place) (digits bytes rest : List ℕ) (s : Place × ℕ) → stray_from p bytes ≡ Some s
    → said (stray_from p (bytes ++ rest)) (decode_of (digits ++ dense (bytes ++ rest))) ≡ Err (fault.BadDigit s.0 s.1)
digits_stray p digits bytes rest s some = rw (stray_found p bytes rest s some) refl

-- the first bytes say whether a file is an image as it stands
pub binary_in : (bytes rest : List ℕ) → is_binary bytes ≡ true → image_in (bytes ++ rest) ≡ Ok (bytes ++ rest)
unfolding image_in
binary_in [] rest e = absurd (true≢false (sym e))
binary_in (b ∷ bytes) rest e = rw e refl

pub text_in : (bytes rest : List ℕ) → 0 < length bytes → is_binary bytes ≡ false
    → image_in (bytes ++ rest) ≡ said (stray_from first_place (bytes ++ rest)) (decode_of (dense (bytes ++ rest)))
unfolding image_in
text_in [] rest n e = absurd (omega (arith, n))
text_in (b ∷ bytes) rest n e = rw e refl

-- digits that can't be taken, as the first part of a file and behind others
pub stray_first : (bytes : List ℕ) (f : Fault) → 0 < length bytes → is_binary bytes ≡ false
    → IsStray (stray_from first_place bytes) f
    → (f ≡ fault.NoMemory) ⊎ ((rest : List ℕ) → image_in (bytes ++ rest) ≡ Err f)
stray_first bytes f n e (inl none) = inl none
stray_first bytes f n e (inr (s, some, is)) = inr (λ rest.
    text_in bytes rest n e ∙ digits_stray first_place [] bytes rest s some ∙ ap Err (sym is))

pub stray_next : (p : Place) (digits bytes : List ℕ) (f : Fault) → IsStray (stray_from p bytes) f
    → (f ≡ fault.NoMemory)
    ⊎ ((rest : List ℕ) → said (stray_from p (bytes ++ rest)) (decode_of (digits ++ dense (bytes ++ rest))) ≡ Err f)
stray_next p digits bytes f (inl none) = inl none
stray_next p digits bytes f (inr (s, some, is)) = inr (λ rest.
    digits_stray p digits bytes rest s some ∙ ap Err (sym is))

-- the next part of a file
pub ruleset parts = (digits_on, binary_in, text_in, stray_first, stray_next)

-- of an empty file, and of digits
pub nothing_in : image_in [] ≡ Ok []
unfolding image_in decode_pairs
nothing_in = refl

pub ruleset all_read = (nothing_in)

-- the next part decides, too
pub goes_on : (first old new : Option (List ℕ)) (a b : Part) (bytes : List ℕ) (n : ℕ) → Decides first old a n
    → Consumes old new bytes → 1 ≤ length bytes
    → ((rest : List ℕ) → image_with b rest ≡ image_with a (bytes ++ rest)) → Decides first new b (n + 1)
goes_on None old new a b bytes n d c l h = tt
goes_on (Some file) None new a b bytes n d c l h = absurd d
goes_on (Some file) (Some o) None a b bytes n d c l h = absurd c
goes_on (Some file) (Some o) (Some left) a b bytes n d c l h =
    let longer : length o ≡ length bytes + length left = ap length c ∙ length-append bytes left in
    let fewer = d.1 in
    (h left ∙ ap (image_with a) (sym c) ∙ d.0, omega (arith, longer, fewer, l))

-- at the end of the file the part is all
pub ends : (first old new : Option (List ℕ)) (a : Part) (n : ℕ) (r : Result (List ℕ) Fault) → Decides first old a n
    → Consumes old new [] → IsAtEnd new → image_with a [] ≡ r → IfSome first (λ file. image_in file ≡ r)
ends None old new a n r d c e h = tt
ends (Some file) None new a n r d c e h = absurd d
ends (Some file) (Some o) None a n r d c e h = absurd c
ends (Some file) (Some o) (Some left) a n r d c e h = sym d.0 ∙ ap (image_with a) (c ∙ e) ∙ h

-- so many reads took so many bytes
pub endless : (first left : Option (List ℕ)) (a : Part) (n : ℕ) → Decides first left a n
    → IfSome first (λ file. n ≤ length file)
endless None left a n d = tt
endless (Some file) None a n d = absurd d
endless (Some file) (Some left) a n d = let fewer = d.1 in omega (arith, fewer)
