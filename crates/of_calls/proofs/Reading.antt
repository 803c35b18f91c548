-- A text that is read line by line.
use Rattle.std.proofs.Common.{◌≡◌, ◌∙◌, ℕ, suc, ◌+◌, ◌⊎◌, ◌<◌, ◌≤◌, inl, inr, arith, cond, length, take, drop, Bool}
use Rattle.std.proofs.Common.{true, false, nat_eq, List, [], ◌∷◌, ◌++◌, Ok, Err, Result, refl, sym, ap, subst}
use Rattle.std.proofs.Common.{append_assoc, append-nil}
use Rattle.std.specs.List.{onto_first}
use Rattle.of_calls.specs.declared.fault.TextFault.{TextFault}
use Rattle.of_calls.specs.declared.fault.TextFault.TheVariants as fault
use Rattle.of_calls.specs.Lines.{first_line, left_behind, line_length, lines}
use Rattle.of_calls.specs.Said.{all_said, and_more, and_next, and_those}

taken_longer : (k b : ℕ) (text : List ℕ) → length (take (1 + k) (b ∷ text)) ≡ suc (length (take k text))
taken_longer k b text = let e : 1 + k ≡ suc k = omega arith in rw e refl

-- a line with one more byte before it
longer : (b : ℕ) (text : List ℕ) → nat_eq b 10 ≡ false → line_length (b ∷ text) ≡ suc (line_length text)
longer b text e = rw e (taken_longer _ b text)

last_line : (b : ℕ) (t : Bool) → nat_eq b 10 ≡ t
    → lines (b ∷ []) ≡ first_line (b ∷ []) ∷ lines (left_behind (b ∷ []))
last_line b true e = rw e refl
last_line b false e = rw e refl

-- the lines of a text with bytes are its first one and those of what is left
pub lines_first : (b : ℕ) (text : List ℕ)
    → lines (b ∷ text) ≡ first_line (b ∷ text) ∷ lines (left_behind (b ∷ text))
lines_first b [] = last_line b (nat_eq b 10) refl
lines_first b (c ∷ text) = go (nat_eq b 10) refl (lines_first c text)
  where
    go : (t : Bool) → nat_eq b 10 ≡ t
        → lines (c ∷ text) ≡ first_line (c ∷ text) ∷ lines (left_behind (c ∷ text))
        → lines (b ∷ c ∷ text) ≡ first_line (b ∷ c ∷ text) ∷ lines (left_behind (b ∷ c ∷ text))
    go true e rest = rw e refl
    go false e rest =
        ap (λ (t : Bool). cond t ([] ∷ lines (c ∷ text)) (onto_first b (lines (c ∷ text)))) e
        ∙ ap (onto_first b) rest
        ∙ sym (ap (λ n. take n (b ∷ c ∷ text) ∷ lines (drop 1 (drop n (b ∷ c ∷ text)))) (longer b (c ∷ text) e))

module _ {A : Type 0} (say : ℕ → List ℕ → Result A TextFault) where
  said_first : (number b : ℕ) (text : List ℕ) → all_said say number (lines (b ∷ text))
      ≡ and_those (say number (first_line (b ∷ text))) (all_said say (number + 1) (lines (left_behind (b ∷ text))))
  unfolding all_said
  said_first number b text = rw (lines_first b text) refl

  -- what was read goes to what was read before
  moves : (done next : List A) (said : Result A TextFault) (more : Result (List A) TextFault)
      → and_next done said ≡ Ok next → and_more done (and_those said more) ≡ and_more next more
  moves done next (Ok a) (Ok more) e =
      let same : done ++ a ∷ [] ≡ next = cc in
      ap Ok (sym (append_assoc done (a ∷ []) more) ∙ ap (λ d. d ++ more) same)
  moves done next (Ok a) (Err f) e = refl
  moves done next (Err f) more e = absurd cc

  -- where a text is left, its first line is read, and what is left behind that
  pub went_on : (done next : List A) (number : ℕ) (text line left : List ℕ) (whole : Result (List A) TextFault)
      → 0 < length text → and_more done (all_said say number (lines text)) ≡ whole
      → line ≡ first_line text → and_next done (say number line) ≡ Ok next → left ≡ left_behind text
      → and_more next (all_said say (number + 1) (lines left)) ≡ whole
  went_on done next number [] line left whole some all first taken rest = absurd (omega (arith, some))
  went_on done next number (b ∷ text) line left whole some all first taken rest =
      let read = subst (λ l. and_next done (say number l) ≡ Ok next) first taken in
      ap (λ l. and_more next (all_said say (number + 1) (lines l))) rest
      ∙ sym (moves done next (say number (first_line (b ∷ text))) _ read)
      ∙ sym (ap (and_more done) (said_first number b text)) ∙ all

  -- the fault of the first line is that of all
  pub given_up : (done : List A) (number : ℕ) (text line : List ℕ) (whole : Result (List A) TextFault) (f : TextFault)
      → 0 < length text → and_more done (all_said say number (lines text)) ≡ whole
      → line ≡ first_line text → (f ≡ fault.NoMemory) ⊎ (say number line ≡ Err f)
      → (f ≡ fault.NoMemory) ⊎ (whole ≡ Err f)
  given_up done number text line whole f some all first (inl none) = inl none
  given_up done number [] line whole f some all first (inr wrong) = absurd (omega (arith, some))
  given_up done number (b ∷ text) line whole f some all first (inr wrong) =
      let found = subst (λ l. say number l ≡ Err f) first wrong in
      inr (sym all ∙ ap (and_more done) (said_first number b text)
      ∙ ap (λ c. and_more done (and_those c (all_said say (number + 1) (lines (left_behind (b ∷ text)))))) found)

  -- where none is left, all were read
  pub all_read : (done : List A) (number : ℕ) (text : List ℕ) (whole : Result (List A) TextFault)
      → length text ≤ 0 → and_more done (all_said say number (lines text)) ≡ whole → whole ≡ Ok done
  unfolding all_said
  all_read done number [] whole none all = sym all ∙ ap Ok (append-nil done)
  all_read done number (b ∷ text) whole none all = absurd (omega (arith, none))

-- nothing was read yet
pub none_read : {A : Type 0} (more : Result (List A) TextFault) → and_more [] more ≡ more
none_read (Ok more) = refl
none_read (Err f) = refl
