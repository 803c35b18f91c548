-- What `."` does behind the string that it shares with `s"`.
use Rattle.std.proofs.Common.{◌≡◌, ◌∙◌, Bool, true, false, if◌then◌else◌, [], ◌∷◌, length, nat_lt, Some, None}
use Rattle.std.proofs.Common.{Err, refl, ap, sym, append_assoc}
use Rattle.of_source.specs.declared.fault.SourceFault.{SourceFault}
use Rattle.of_source.specs.declared.fault.SourceFault.TheVariants.{Unclosed, Unknown, BadNumber, TooLong, NoMemory}
use Rattle.of_source.specs.declared.keyword.Quote.TheVariants as quote
use Rattle.of_source.specs.Items as item
use Rattle.of_source.specs.Items.{string, bare}
use Rattle.of_scan.specs.Scan.{Found, left_of, plain_string}
use Rattle.of_source.specs.Steps.{State, Step, Goes, Ends, Fails, Steps, giving, reading_on, with_string, text_step}

-- `."` prints behind the string of `s"`
abbrev and_printed : Step → Step
and_printed (Goes t) = Goes (giving (item.Plain (bare 0x090) ∷ []) t)
and_printed (Ends t) = Ends t
and_printed (Fails f) = Fails f

printed_if : (long : Bool) (u : State) (x y : item.Item) (f : SourceFault)
    → y ≡ item.Plain (bare 0x090)
    → (if long then Fails f else Goes (giving (x ∷ y ∷ []) u))
    ≡ and_printed (if long then Fails f else Goes (giving (x ∷ []) u))
printed_if true u x y f h = refl
printed_if false u x y f h =
    rw h (ap (λ l. Goes (record u { items = l }))
    (sym (append_assoc u.items (x ∷ []) (item.Plain (bare 0x090) ∷ []))))

printed_found : (s : State) (found : Found)
    → with_string s found (λ bytes t. Goes (giving (item.Plain (string bytes) ∷ item.Plain (bare 0x090) ∷ []) t))
    ≡ and_printed (with_string s found (λ bytes t. Goes (giving (item.Plain (string bytes) ∷ []) t)))
printed_found s None = refl
printed_found s (Some r) =
    printed_if (nat_lt 255 (length r.0)) (reading_on (left_of s.rest r.1) s) (item.Plain (string r.0))
    (item.Plain (bare 0x090)) (TooLong s.at) refl

printed_after : (s : State) → text_step quote.Printed s ≡ and_printed (text_step quote.Plain s)
printed_after s = printed_found s (plain_string 34 s.rest.text)

-- what `."` does where `s"` goes on
pub printed_goes : (s t : State) → text_step quote.Plain s ≡ Goes t
    → text_step quote.Printed s ≡ Goes (giving (item.Plain (bare 0x090) ∷ []) t)
printed_goes s t h = printed_after s ∙ ap and_printed h

-- and where it would end
pub printed_ends : (s t : State) → text_step quote.Plain s ≡ Ends t → text_step quote.Printed s ≡ Ends t
printed_ends s t h = printed_after s ∙ ap and_printed h

-- and where it is refused
pub printed_refused : (s t u : State) (f : SourceFault) → Steps (text_step quote.Plain s) t (Err f)
    → Steps (text_step quote.Printed s) u (Err f)
printed_refused s t u (Unclosed l) h = printed_after s ∙ ap and_printed h
printed_refused s t u (Unknown l) h = printed_after s ∙ ap and_printed h
printed_refused s t u (BadNumber l) h = printed_after s ∙ ap and_printed h
printed_refused s t u (TooLong l) h = printed_after s ∙ ap and_printed h
printed_refused s t u NoMemory h = tt

-- the ways on behind the string of `."`
pub ruleset printed = (printed_goes, printed_ends, printed_refused)
