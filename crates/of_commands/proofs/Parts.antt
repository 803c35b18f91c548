-- Parts of what is printed.
use Rattle.std.proofs.Common.{◌≡◌, ℕ, ◌≤◌, List, [], ◌∷◌, ◌++◌, length, take, Option, Bool, true, false, nat_le}
use Rattle.std.proofs.Common.{Result, Ok, Err, OnOk, OnErr, refl, sym, ap, subst, ◌∙◌, arith, if◌then◌else◌}
use Rattle.std.proofs.lemmas.Bool.Decides.{nat_tests}
use Rattle.std.proofs.lemmas.List.{take-append-le, take_all}
use Rattle.std.specs.Io.KnownBytes.{Appends}
use Rattle.of_files.specs.Messages.{AppendsPart}
use Rattle.of_commands.specs.Listings.{ends_line, newline_behind}
use Rattle.of_commands.proofs.Faults.{all_are_part, part_behind}

-- a part of the first of two texts is a part of both
pub part_before : (old new : Option (List ℕ)) (a b : List ℕ) → AppendsPart old new a → AppendsPart old new (a ++ b)
part_before old new a b part = by_count (nat_le part.0 (length a)) refl
  where
    by_count : (t : Bool) → nat_le part.0 (length a) ≡ t → AppendsPart old new (a ++ b)
    by_count true e =
        let within : part.0 ≤ length a = grind (arith, nat_tests, e) in
        (part.0, subst (Appends old new) (sym (take-append-le part.0 a b within)) part.1)
    by_count false e =
        let past : length a ≤ part.0 = grind (arith, nat_tests, e) in
        let whole : take part.0 a ≡ take (length a) (a ++ b) =
        take_all part.0 a past
        ∙ sym (take-append-le (length a) a b (omega arith) ∙ take_all (length a) a (omega arith)) in
        (length a, subst (Appends old new) whole part.1)

-- a text whose line is open, and a part of the newline behind it
pub line_part : (old mid new : Option (List ℕ)) (text : List ℕ) → ends_line text ≡ false → Appends old mid text
    → AppendsPart mid new (10 ∷ []) → AppendsPart old new (text ++ newline_behind text)
line_part old mid new text unclosed all part =
    let behind : newline_behind text ≡ 10 ∷ [] =
    ap (λ (b : Bool). let line : List ℕ = if b then [] else 10 ∷ [] in line) unclosed in
    subst (λ line. AppendsPart old new (text ++ line)) (sym behind) (part_behind old mid new text (10 ∷ []) all part)

-- ---- what was printed, whole or in part

pub part_of : {E : Type 0} (r : Result (Unit {0}) E) (old new : Option (List ℕ)) (bs : List ℕ)
    → OnOk r (Appends old new bs) → OnErr r (AppendsPart old new bs) → AppendsPart old new bs
part_of (Ok u) old new bs all part = all_are_part old new bs all
part_of (Err e) old new bs all part = part

pub on_err : {A E P : Type 0} (r : Result A E) → P → OnErr r P
on_err (Ok a) p = tt
on_err (Err e) p = p

-- what follows of a part
pub so_err : {A E P Q : Type 0} (r : Result A E) → (P → Q) → OnErr r P → OnErr r Q
so_err (Ok a) f p = tt
so_err (Err e) f p = f p
