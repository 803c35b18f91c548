-- The text of a number with zeros before it, and texts behind one another.
use Rattle.std.proofs.Common.{◌≡◌, refl, ap, sym, subst, ◌∙◌, ℕ, ◌^◌, ◌-◌, false, List, [], ◌++◌, length, append_assoc}
use Rattle.std.proofs.Common.{append-nil, Option, Some, IfSome, Result, Ok, Err, IfOk, OnOk}
use Rattle.std.proofs.Math.Nat.{sub-zero}
use Rattle.std.specs.Fmt.{char_count, digits, digits_output, format_spec, padded_integral, styled_digits_output}
use Rattle.of_check.specs.Texts.{number_shown}

-- a number with zeros before it
padded : (least n : ℕ)
    → padded_integral (format_spec 32 0 4 least (2 ^ 64 - 1)) false [] (digits 16 false n) ≡ number_shown least n
unfolding padded_integral char_count number_shown
padded least n =
    let ds = digits 16 false n in
    rw (sub-zero (least - length ds - 0), sub-zero (least - length ds), append-nil ds) refl

-- where a value has these digits, and is written in this form
pub number_padded : (least n : ℕ) (d : _) (s : _) → digits_output d ≡ Some (digits 16 false n)
    → s ≡ format_spec 32 0 4 least (2 ^ 64 - 1)
    → styled_digits_output d s ≡ Some (number_shown least n)
number_padded least n d s is how = rw (is, how) (ap Some (padded least n))

-- where a value's text is this one, this is what is written of it
pub written : {S E : Type 0} (bytes : S → List ℕ) (r : Result S E) (known : Option (List ℕ)) (text : List ℕ)
    → known ≡ Some text → IfOk r (λ s. IfSome known (λ bs. bytes s ≡ bs)) → IfOk r (λ s. bytes s ≡ text)
written bytes r known text is all = subst (λ o. IfOk r (λ s. IfSome o (λ bs. bytes s ≡ bs))) is all

-- a title and a number behind others that were written
pub behind : {T E : Type 0} (r : Result T E) (old mid new title number second more : List ℕ)
    → mid ≡ old ++ (title ++ number) → OnOk r (new ≡ mid ++ (second ++ more))
    → OnOk r (new ≡ old ++ (title ++ number ++ second ++ more))
behind (Ok x) old mid new title number second more is then =
    then
    ∙ ap (λ (bytes : List ℕ). bytes ++ (second ++ more)) is
    ∙ append_assoc old (title ++ number) (second ++ more)
    ∙ ap (λ (bytes : List ℕ). old ++ bytes) (sym (append_assoc (title ++ number) second more))
behind (Err e) old mid new title number second more is then = tt
