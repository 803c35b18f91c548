-- What can stand before some text can stand before a line's end.
use Rattle.std.proofs.Common.{◌≡◌, ℕ, Bool, true, false, List, [], ◌∷◌, ◌++◌, Option, Some, None, nat_eq}
use Rattle.std.proofs.Common.{if◌then◌else◌, refl, sym, ap, subst, ◌∙◌, arith, append_assoc}
use Rattle.of_format.specs.Digits.{digit_of, digit_value}
use Rattle.of_stream.specs.declared.stream.OffsetSize.{OffsetSize}
use Rattle.of_source.specs.Faults.{AllSaid}
use Rattle.of_source.specs.Phrases.{Phrase, Spelled, Beginning, Known, behind, each_written, moved, taken, written}
use Rattle.of_source.specs.Phrases as phrase
use Rattle.of_scan.specs.Scan.{Found, before_found, byte_before, byte_of, group, is_blank, pairs}
use Rattle.of_scan.specs.Words.{EndsLine, EndsWord}
use Rattle.of_source.specs.Written.{AreRemarks, IsBegun, IsFollowed, IsRemark, IsSaid}

-- ---- a group that isn't there

-- what a byte of a group gives: it ends there, the line ends, the rest behind a blank, or a byte before the rest
abbrev by_byte : Bool → Bool → Bool → Option ℕ → Found → Found → Found → Found
by_byte closes ends blank b end skipped rest =
    if closes then end else if ends then None else if blank then skipped else before_found b rest

no_bytes : (b : ℕ) (f : Found) → byte_before b f ≡ None → f ≡ None
no_bytes b None h = refl
no_bytes b (Some r) h = absurd cc

-- none is found here either, where none is found in the rest
still_none : (x y z : Bool) (o : Option ℕ) (r s : List ℕ × List ℕ) (f g u v : Found)
    → by_byte x y z o (Some r) f g ≡ None → (f ≡ None → u ≡ None) → (g ≡ None → v ≡ None)
    → by_byte x y z o (Some s) u v ≡ None
still_none true y z o r s f g u v h k m = absurd cc
still_none false true z o r s f g u v h k m = refl
still_none false false true o r s f g u v h k m = k h
still_none false false false None r s f g u v h k m = refl
still_none false false false (Some b) r s f g u v h k m = ap (byte_before b) (m (no_bytes b g h))

-- before a line's end no byte is whole
cut_none : (x y z : Bool) (o : Option ℕ) (s : List ℕ × List ℕ) (u v : Found) → x ≡ false → u ≡ None → o ≡ None
    → by_byte x y z o (Some s) u v ≡ None
cut_none true y z o s u v n e c = absurd cc
cut_none false true z o s u v n e c = refl
cut_none false false true o s u v n e c = e
cut_none false false false o s u v n e c = ap (λ p. before_found p v) c

not_closed : (x : Bool) (r : List ℕ × List ℕ) (f : Found) → (if x then Some r else f) ≡ None → x ≡ false
not_closed true r f h = absurd cc
not_closed false r f h = refl

first_open : (a : ℕ) (more : List ℕ) → pairs (a ∷ more) ≡ None → nat_eq a 41 ≡ false
first_open a [] h = not_closed (nat_eq a 41) ([], []) None h
first_open a (m ∷ more) h = not_closed (nat_eq a 41) ([], m ∷ more) _ h

-- a line's end is no digit
no_digit : digit_value 16 10 ≡ None
unfolding digit_of
no_digit = refl

half_byte : (o p : Option ℕ) → p ≡ None → byte_of o p ≡ None
half_byte None p h = refl
half_byte (Some x) None h = refl
half_byte (Some x) (Some y) h = absurd cc

line_ends : (t : List ℕ) → pairs (10 ∷ t) ≡ None
line_ends [] = refl
line_ends (b ∷ t) = refl

pairs_on : (xs more t : List ℕ) → pairs (xs ++ more) ≡ None → pairs (xs ++ 10 ∷ t) ≡ None
pairs_on [] more t h = line_ends t
pairs_on (a ∷ []) more t h =
    cut_none (nat_eq a 41) (nat_eq a 10) (is_blank a) (byte_of (digit_value 16 a) (digit_value 16 10)) ([], 10 ∷ t)
    (pairs (10 ∷ t)) (pairs t) (first_open a more h) (line_ends t)
    (half_byte (digit_value 16 a) (digit_value 16 10) no_digit)
pairs_on (a ∷ b ∷ xs) more t h =
    still_none (nat_eq a 41) (nat_eq a 10) (is_blank a) (byte_of (digit_value 16 a) (digit_value 16 b))
    ([], b ∷ xs ++ more) ([], b ∷ xs ++ 10 ∷ t) (pairs (b ∷ xs ++ more)) (pairs (xs ++ more))
    (pairs (b ∷ xs ++ 10 ∷ t)) (pairs (xs ++ 10 ∷ t)) h (pairs_on (b ∷ xs) more t) (pairs_on xs more t)

group_on : (xs more t : List ℕ) → group (xs ++ more) ≡ None → group (xs ++ 10 ∷ t) ≡ None
group_on [] more t h = refl
group_on (b ∷ xs) more t h = either (nat_eq b 40) h
  where
    either : (x : Bool) → (if x then pairs (xs ++ more) else None) ≡ None
        → (if x then pairs (xs ++ 10 ∷ t) else None) ≡ None
    either true h = pairs_on xs more t h
    either false h = refl

-- ---- one phrase

word_on : (xs more t : List ℕ) → EndsWord (xs ++ more) → EndsWord (xs ++ 10 ∷ t)
word_on [] more t h = omega arith
word_on (b ∷ xs) more t h = h

line_on : (xs more t : List ℕ) → EndsLine (xs ++ more) → EndsLine (xs ++ 10 ∷ t)
line_on [] more t h = refl
line_on (b ∷ xs) more t h = h

followed_on : (p : Phrase) (xs more t : List ℕ) → IsFollowed p (xs ++ more) → IsFollowed p (xs ++ 10 ∷ t)
followed_on (phrase.NumberIn base blanks digits x) xs more t h = word_on xs more t h
followed_on (phrase.Character blanks b bytes) xs more t h = word_on xs more t h
followed_on (phrase.Naming c blanks name code) xs more t h = word_on xs more t h
followed_on (phrase.Defining c blanks name) xs more t h = word_on xs more t h
followed_on (phrase.LineComment bytes) xs more t h = line_on xs more t h
followed_on (phrase.Quoted blank pieces bytes) xs more t h = group_on xs more t h
followed_on _ xs more t h = tt

taken_on : (p : Phrase) (xs more t : List ℕ) → EndsWord (taken p ++ (xs ++ more))
    → EndsWord (taken p ++ (xs ++ 10 ∷ t))
taken_on p xs more t h =
    subst EndsWord (append_assoc (taken p) xs (10 ∷ t))
    (word_on (taken p ++ xs) more t (subst EndsWord (sym (append_assoc (taken p) xs more)) h))

phrase_on : (k : Known) (p : Spelled) (xs more t : List ℕ) → IsSaid k p (xs ++ more) → IsSaid k p (xs ++ 10 ∷ t)
phrase_on k p xs more t h = record {
  blanks = h.blanks;
  spelled = h.spelled;
  ends = taken_on p.phrase xs more t h.ends;
  own = h.own;
  means = h.means;
  placed = h.placed;
  followed = followed_on p.phrase xs more t h.followed;
}

remark_on : (p : Spelled) (xs more t : List ℕ) → IsRemark p (xs ++ more) → IsRemark p (xs ++ 10 ∷ t)
remark_on p xs more t h = record {
  blanks = h.blanks;
  spelled = h.spelled;
  ends = taken_on p.phrase xs more t h.ends;
  means = h.means;
  followed = followed_on p.phrase xs more t h.followed;
}

-- ---- phrases

three : (a b c xs more : List ℕ) → a ++ (b ++ (c ++ (xs ++ more))) ≡ (a ++ (b ++ (c ++ xs))) ++ more
three a b c xs more = simp append_assoc

each_append : (ps : List Spelled) (xs more : List ℕ) → each_written ps (xs ++ more) ≡ each_written ps xs ++ more
each_append [] xs more = refl
each_append (p ∷ ps) xs more =
    ap (written p) (each_append ps xs more)
    ∙ three p.blanks p.word (taken p.phrase) (each_written ps xs) more

pub said_on : (ps : List Spelled) (k : Known) (more t : List ℕ) → AllSaid ps more k → AllSaid ps (10 ∷ t) k
said_on [] k more t h = tt
said_on (p ∷ ps) k more t h =
    let here = moved p.blanks k in (
      subst (IsSaid here p) (sym (each_append ps [] (10 ∷ t)))
          (phrase_on here p (each_written ps []) more t (subst (IsSaid here p) (each_append ps [] more) h.0)),
      said_on ps (behind p.word p.phrase here) more t h.1,
    )

remarks_on : (cs : List Spelled) (xs more t : List ℕ) → AreRemarks cs (xs ++ more) → AreRemarks cs (xs ++ 10 ∷ t)
remarks_on [] xs more t h = tt
remarks_on (c ∷ cs) xs more t h = (
  subst (IsRemark c) (sym (each_append cs xs (10 ∷ t)))
      (remark_on c (each_written cs xs) more t (subst (IsRemark c) (each_append cs xs more) h.0)),
  remarks_on cs xs more t h.1,
)

two : (a b xs more : List ℕ) → a ++ (b ++ (xs ++ more)) ≡ (a ++ (b ++ xs)) ++ more
two a b xs more = simp append_assoc

begun_before : (z : OffsetSize) (b : Beginning) (xs more t : List ℕ) → IsBegun z b (xs ++ more)
    → IsBegun z b (xs ++ 10 ∷ t)
begun_before z b xs more t h = record {
  comments =
      subst (AreRemarks b.comments) (sym (two b.blanks b.word xs (10 ∷ t)))
      (remarks_on b.comments (b.blanks ++ (b.word ++ xs)) more t
      (subst (AreRemarks b.comments) (two b.blanks b.word xs more) h.comments));
  blanks = h.blanks;
  spelled = h.spelled;
  ends = word_on xs more t h.ends;
  means = h.means;
}

pub begun_on : (z : OffsetSize) (b : Beginning) (ps : List Spelled) (more t : List ℕ)
    → IsBegun z b (each_written ps more) → IsBegun z b (each_written ps (10 ∷ t))
begun_on z b ps more t h =
    subst (IsBegun z b) (sym (each_append ps [] (10 ∷ t)))
    (begun_before z b (each_written ps []) more t (subst (IsBegun z b) (each_append ps [] more) h))
