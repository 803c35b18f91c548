-- Findings stand in the order of the bytes.
use Rattle.std.proofs.Common.{◌≡◌, ℕ, zero, suc, ◌≤◌, List, [], ◌∷◌, ◌++◌, length, Option, Some, None, Bool, true}
use Rattle.std.proofs.Common.{false}
use Rattle.std.proofs.Common.{cond, ◌&&◌, not, nat_eq, nat_lt, is_some, refl, sym, arith, append_assoc, subst}
use Rattle.of_stream.specs.declared.fault.StreamFault.{StreamFault}
use Rattle.of_stream.specs.declared.stream.OffsetSize.{OffsetSize}
use Rattle.of_stream.specs.Decoding.{Argument, Nothing, Literal, String, Code, Named, Offset, Token, TokenStandsAlone}
use Rattle.of_stream.specs.Decoding.{token_from}
use Rattle.of_stream.specs.Image.{first_size, header_fault}
use Rattle.of_stream.specs.Sizes.{is_end, size_behind}
use Rattle.of_stream.specs.Targets.{landing}
use Rattle.of_detok.specs.Labels.{said_length, said_sum}
use Rattle.of_check.specs.declared.finding.Finding.{Finding}
use Rattle.of_check.specs.declared.finding.Finding.TheVariants as found
use Rattle.of_check.specs.Tokens.{Standing, Tokens, no_more, tokens_by, tokens_from, tokens_of}
use Rattle.of_check.specs.Structures.{is_unnested}
use Rattle.of_check.specs.Findings.{actual_sum, branch_finding, definition_finding, end_finding, findings_at}
use Rattle.of_check.specs.Findings.{findings_if}
use Rattle.of_check.specs.Findings.{findings_of, is_made, is_own, length_finding, listed, position_of, stream_findings}
use Rattle.of_check.specs.Findings.{sum_finding, token_findings, use_finding}
use Rattle.of_check.specs.Law.{AreOrdered, FindingsAreOrdered}
use Rattle.of_check.proofs.Bound.{rises}

-- ---- findings at one position

-- all of these are there
abbrev AreAt : ℕ → List Finding → Type 0
AreAt q [] = Unit {0}
AreAt q (f ∷ fs) = (position_of f ≡ q) × AreAt q fs

both_at : (q : ℕ) (xs ys : List Finding) → AreAt q xs → AreAt q ys → AreAt q (xs ++ ys)
both_at q [] ys a b = b
both_at q (x ∷ xs) ys a b = (a.0, both_at q xs ys a.1 b)

if_at : (q : ℕ) (t : Bool) (f : Finding) → position_of f ≡ q → AreAt q (listed (cond t (Some f) None))
if_at q true f h = (h, tt)
if_at q false f h = tt

unless_at : (q : ℕ) (t : Bool) (f : Finding) → position_of f ≡ q → AreAt q (listed (cond t None (Some f)))
unless_at q true f h = tt
unless_at q false f h = (h, tt)

branch_at : (end : ℕ) (s : Standing) (a : Argument) → AreAt s.position (listed (branch_finding end s a))
branch_at end s Nothing = tt
branch_at end s (Literal x) = tt
branch_at end s (String t) = tt
branch_at end s (Code c) = tt
branch_at end s (Named name c) = tt
branch_at end s (Offset by) =
    unless_at s.position (is_some (landing end s.position by)) (found.Outside s.position s.token.code by) refl

all_at : (end : ℕ) (before : List Standing) (s : Standing) (behind : List Standing)
    → AreAt s.position (findings_at end before s behind)
all_at end before s behind =
    let code = s.token.code in
    both_at s.position (listed (use_finding before s) ++ listed (branch_finding end s s.token.argument))
    (listed (definition_finding s behind))
    (both_at s.position (listed (use_finding before s)) (listed (branch_finding end s s.token.argument))
    (if_at s.position (is_own code.0 && not (is_made before code.0)) (found.Unmade s.position code) refl)
    (branch_at end s s.token.argument))
    (if_at s.position (nat_eq code.0 0x0b7 && is_unnested behind) (found.Unnested s.position) refl)

length_at : (t u : Bool) (f g : Finding) → position_of f ≡ 4 → position_of g ≡ 4
    → AreAt 4 (listed (cond t (Some f) (cond u (Some g) None)))
length_at true u f g h k = (h, tt)
length_at false true f g h k = (k, tt)
length_at false false f g h k = tt

-- ---- and others behind them

ordered_from : (p q : ℕ) (fs : List Finding) → p ≤ q → AreOrdered q fs → AreOrdered p fs
ordered_from p q [] h o = tt
ordered_from p q (f ∷ fs) h o = let first = o.0 in (omega (arith, h, first), o.1)

ordered_behind : (p q : ℕ) (xs ys : List Finding) → AreAt q xs → p ≤ q → AreOrdered q ys → AreOrdered p (xs ++ ys)
ordered_behind p q [] ys a h o = ordered_from p q ys h o
ordered_behind p q (f ∷ fs) ys a h o =
    let at : position_of f ≡ q = a.0 in
    (omega (arith, at, h), ordered_behind (position_of f) q fs ys a.1 (omega (arith, at)) o)

-- ---- tokens

-- tokens stand one behind the other from a position on, and none can be read behind them
abbrev RiseTo : ℕ → List Standing → Option ℕ → Type 0
RiseTo p [] u = (q : ℕ) → u ≡ Some q → p ≤ q
RiseTo p (s ∷ ss) u = (p ≤ s.position) × RiseTo s.position ss u

rise_from : (p q : ℕ) (ss : List Standing) (u : Option ℕ) → p ≤ q → RiseTo q ss u → RiseTo p ss u
rise_from p q [] u h r = λ n e. let last = r n e in omega (arith, h, last)
rise_from p q (s ∷ ss) u h r = let first = r.0 in (omega (arith, h, first), r.1)

stopped_at : (p q : ℕ) → Some p ≡ Some q → p ≤ q
stopped_at p q h =
    let same : p ≡ q = cc in omega (arith, same)

rise_if : (t : Bool) (p q : ℕ) (next : Tokens) → p ≤ q → RiseTo q next.tokens next.unread
    → RiseTo p (cond t (no_more None) next).tokens (cond t (no_more None) next).unread
rise_if true p q next h r = λ n e. absurd cc
rise_if false p q next h r = rise_from p q next.tokens next.unread h r

rise_by : TokenStandsAlone → (image : List ℕ) (p : ℕ) (size : OffsetSize) (o : Option (Token × ℕ))
    (next : ℕ → OffsetSize → Tokens) → token_from image p size ≡ o
    → ((q : ℕ) (s : OffsetSize) → RiseTo q (next q s).tokens (next q s).unread)
    → RiseTo p (tokens_by p size o next).tokens (tokens_by p size o next).unread
rise_by law image p size None next e h = stopped_at p
rise_by law image p size (Some r) next e h =
    let up = (rises law image p size r e).0 in (
      omega arith,
      rise_if (is_end r.0.code.0) p r.1 (next r.1 (size_behind r.0.code.0 size)) (omega (arith, up))
          (h r.1 (size_behind r.0.code.0 size)),
    )

tokens_rise : TokenStandsAlone → (image : List ℕ) (n p : ℕ) (size : OffsetSize)
    → RiseTo p (tokens_from image n p size).tokens (tokens_from image n p size).unread
tokens_rise law image zero p size = stopped_at p
tokens_rise law image (suc n) p size =
    rise_by law image p size (token_from image p size) (tokens_from image n) refl
    (λ q s. tokens_rise law image n q s)

end_if : (t : Bool) (p q : ℕ) → p ≤ q → AreOrdered p (listed (cond t (Some (found.Unread q)) (Some (found.Endless q))))
end_if true p q h = (h, tt)
end_if false p q h = (h, tt)

end_ordered : (end p : ℕ) (u : Option ℕ) → RiseTo p [] u → AreOrdered p (listed (end_finding end u))
end_ordered end p None r = tt
end_ordered end p (Some q) r = end_if (nat_lt q end) p q (r q refl)

stream_ordered : (end p : ℕ) (before ss : List Standing) (u : Option ℕ) → RiseTo p ss u
    → AreOrdered p (token_findings end before ss ++ listed (end_finding end u))
stream_ordered end p before [] u r = end_ordered end p u r
stream_ordered end p before (s ∷ behind) u r =
    let last = listed (end_finding end u) in
    let rest = token_findings end (s ∷ before) behind in
    subst (AreOrdered p) (sym (append_assoc (findings_at end before s behind) rest last))
    (ordered_behind p s.position (findings_at end before s behind) (rest ++ last) (all_at end before s behind) r.0
    (stream_ordered end s.position (s ∷ before) behind u r.1))

-- ---- an image

ordered_by : TokenStandsAlone → (image : List ℕ) (f : Option StreamFault) → AreOrdered 0 (findings_if image f)
ordered_by law image (Some f) = (omega arith, tt)
ordered_by law image None =
    let end = length image in
    let r = tokens_of image in
    let sum = listed (sum_finding (said_sum image) (actual_sum image)) in
    let long = listed (length_finding (said_length image) end) in
    let stream = stream_findings end [] r in
    let tokens = stream_ordered end 8 [] r.tokens r.unread (tokens_rise law image end 8 (first_size image)) in
    subst (AreOrdered 0) (sym (append_assoc sum long stream))
    (ordered_behind 0 2 sum (long ++ stream)
    (unless_at 2 (nat_eq (said_sum image) (actual_sum image)) (found.Sum (said_sum image) (actual_sum image)) refl)
    (omega arith)
    (ordered_behind 2 4 long stream (length_at (nat_lt end (said_length image)) (nat_lt (said_length image) end) _ _
    refl refl) (omega arith) (ordered_from 4 8 stream (omega arith) tokens)))

pub findings_are_ordered : TokenStandsAlone → FindingsAreOrdered
unfolding findings_of
findings_are_ordered law image = ordered_by law image (header_fault image)
