-- What is taken of an image, by its parts.
use Rattle.std.proofs.Common.{◌≡◌, ◌⊎◌, inl, inr, ℕ, zero, suc, ◌+◌, ◌-◌, ◌<◌, ◌≤◌, List, [], ◌∷◌, ◌++◌, length}
use Rattle.std.proofs.Common.{take, drop, slice_range}
use Rattle.std.proofs.Common.{Option, Some, None, Bool, true, false, nat_eq, nat_lt, refl, sym, ap, ◌∙◌, arith}
use Rattle.std.proofs.Common.{append_assoc, subst}
use Rattle.std.proofs.lemmas.List.{append-nil, drop_at, take_at, length-append}
use Rattle.std.proofs.lemmas.Bool.Decides.{nat_tests}
use Rattle.std.specs.List.{AllByRecursion}
use Rattle.of_fcodes.specs.Rows.{rows, first_rows, second_rows, third_rows, fourth_rows, fifth_rows, sixth_rows}
use Rattle.of_fcodes.specs.Rows.{seventh_rows}
use Rattle.of_fcodes.specs.Lookup.{row_numbered}
use Rattle.of_stream.specs.declared.fault.StreamFault.{StreamFault}
use Rattle.of_stream.specs.declared.fault.StreamFault.TheVariants.{Ended}
use Rattle.of_stream.specs.declared.stream.OffsetSize.{OffsetSize}
use Rattle.of_stream.specs.Bytes.{IsEncodable, TokensReadBack, token_bytes}
use Rattle.of_stream.specs.Decoding.{Token, TokenStandsAlone, decoded, token_from}
use Rattle.of_stream.specs.Image.{first_size, header_fault}
use Rattle.of_stream.specs.Sizes.{is_end, size_behind}
use Rattle.of_detok.specs.Definitions.{Taken, bytes_before, definitions_of, ended, is_open_behind, taken, taken_from}
use Rattle.of_detok.proofs.Shortness.{short_all}
use Rattle.of_detok.proofs.Taking.{joined}
use Rattle.of_detok.specs.Parts.{AreTokens, Definition, Image, IsImage, IsOneOf, IsOpened, IsPart, Making, Other, Part}
use Rattle.of_detok.specs.Parts.{Saying, StaysIn, TakesDefinitions, all_tokens, as_external, bare}
use Rattle.of_detok.specs.Parts.{external_code, laid, making_codes, opened_tokens}
use Rattle.of_detok.specs.Parts.{saying_codes, semicolon, size_after, tokens_bytes, tokens_in, word_tokens, words_in}

-- ---- a token in an image

token_at : TokensReadBack → (size : OffsetSize) (t : Token) (before rest : List ℕ) → IsEncodable size t
    → token_from (before ++ (token_bytes size t ++ rest)) (length before) size
    ≡ Some (t, length before + length (token_bytes size t))
unfolding token_from
token_at law size t before rest e =
    let own = token_bytes size t in
    let image = before ++ (own ++ rest) in
    let on : drop (length before) image ≡ own ++ rest = drop_at before (own ++ rest) (length before) refl in
    let read : decoded size (own ++ rest) ≡ Some (t, rest) = law.written size t rest e in
    let behind : length image - length rest ≡ length before + length own =
    omega (arith, length-append before (own ++ rest), length-append own rest) in
    rw (on, read) (ap (λ n. Some (t, n)) behind)

bytes_at : (before own rest : List ℕ)
    → slice_range (before ++ (own ++ rest)) (length before) (length before + length own) ≡ own
bytes_at before own rest =
    let on : drop (length before) (before ++ (own ++ rest)) ≡ own ++ rest =
    drop_at before (own ++ rest) (length before) refl in
    let long : length before + length own - length before ≡ length own = omega arith in
    rw (on, long) (take_at own rest (length own) refl)

-- ---- many tokens

-- what is taken of tokens one behind another
abbrev kept : Bool → OffsetSize → List Token → List ℕ
kept o size [] = []
kept o size (t ∷ ts) =
    taken o t.code.0 (token_bytes size t) ++ kept (is_open_behind o t.code.0) (size_behind t.code.0 size) ts

abbrev open_after : Bool → List Token → Bool
open_after o [] = o
open_after o (t ∷ ts) = open_after (is_open_behind o t.code.0) ts

-- a bound that is larger by the number of tokens
abbrev more_than : List Token → ℕ → ℕ
more_than [] n = n
more_than (t ∷ ts) n = suc (more_than ts n)

taken_all : TokensReadBack → (ts : List Token) (n : ℕ) (o : Bool) (size : OffsetSize) (image before rest : List ℕ)
    → AreTokens size ts → image ≡ before ++ (tokens_bytes size ts ++ rest)
    → taken_from image (more_than ts n) o (length before) size
    ≡ bytes_before (kept o size ts)
    (taken_from image n (open_after o ts) (length (before ++ tokens_bytes size ts)) (size_after size ts))
taken_all law [] n o size image before rest a e = rw (append-nil before) refl
taken_all law (t ∷ ts) n o size image before rest a e =
    let own = token_bytes size t in
    let next = size_behind t.code.0 size in
    let more = tokens_bytes next ts in
    let open_now = is_open_behind o t.code.0 in
    let seam : image ≡ before ++ (own ++ (more ++ rest)) =
    e ∙ ap (λ xs. before ++ xs) (append_assoc own more rest) in
    let read : token_from image (length before) size ≡ Some (t, length before + length own) =
    ap (λ xs. token_from xs (length before) size) seam ∙ token_at law size t before (more ++ rest) a.0 in
    let bytes : slice_range image (length before) (length before + length own) ≡ own =
    ap (λ xs. slice_range xs (length before) (length before + length own)) seam ∙ bytes_at before own (more ++ rest) in
    let at : length before + length own ≡ length (before ++ own) = sym (length-append before own) in
    let later = taken_all law ts n open_now next image (before ++ own) rest a.2
    (seam ∙ sym (append_assoc before own (more ++ rest))) in
    let step : taken_from image (suc (more_than ts n)) o (length before) size
    ≡ bytes_before (taken o t.code.0 own) (taken_from image (more_than ts n) open_now (length (before ++ own)) next) =
    rw (read, a.1, bytes, at) refl in
    step
    ∙ ap (bytes_before (taken o t.code.0 own)) later
    ∙ joined (taken o t.code.0 own) (kept open_now next ts) _
    ∙ ap (λ xs. bytes_before (taken o t.code.0 own ++ kept open_now next ts)
    (taken_from image n (open_after open_now ts) (length xs) (size_after next ts))) (append_assoc before own more)

-- ---- what is taken of parts

is_not : (n m : ℕ) → (n ≡ m → ⊥) → (t : Bool) → nat_eq n m ≡ t → nat_eq n m ≡ false
is_not n m h true e = absurd (h (grind (arith, nat_tests, e)))
is_not n m h false e = e

differs : (n m : ℕ) → (n ≡ m → ⊥) → nat_eq n m ≡ false
differs n m h = is_not n m h (nat_eq n m) refl

-- what holds of each of these numbers
of_each : (P : ℕ → Type 0) (n : ℕ) (ms : List ℕ) → AllByRecursion P ms → IsOneOf n ms → P n
of_each P n [] all h = absurd h
of_each P n (m ∷ ms) all (inl e) = subst P (sym e) all.0
of_each P n (m ∷ ms) all (inr h) = of_each P n ms all.1 h

of_none : (n : ℕ) (ms : List ℕ) → (IsOneOf n ms → ⊥) → AllByRecursion (λ m. nat_eq n m ≡ false) ms
of_none n [] h = tt
of_none n (m ∷ ms) h = (differs n m (λ e. h (inl e)), of_none n ms (λ k. h (inr k)))

-- a token that is kept, if not as `external-token`, and opens no definition
abbrev Says : ℕ → Type 0
Says n = ((size : OffsetSize) (t : Token) → t.code.0 ≡ n
    → taken false n (token_bytes size t) ≡ token_bytes size (as_external t))
    × (is_open_behind false n ≡ false) × ((size : OffsetSize) → size_behind (external_code n) size ≡ size_behind n size)

says : (n : ℕ) → IsOneOf n saying_codes → Says n
unfolding token_bytes
says n h =
    of_each Says n saying_codes (
      (λ size t e. rw e refl, refl, λ size. refl),
      (
        (λ size t e. rw e refl, refl, λ size. refl),
        ((λ size t e. rw e refl, refl, λ size. refl), ((λ size t e. rw e refl, refl, λ size. refl), tt)),
      ),
    ) h

-- a token in place of which `b(create)` stands
abbrev Makes : ℕ → Type 0
Makes n = ((own : List ℕ) → taken false n own ≡ 0xbb ∷ []) × (is_open_behind false n ≡ false)
    × ((size : OffsetSize) → size_behind n size ≡ size)

makes : (n : ℕ) → IsOneOf n making_codes → Makes n
makes n h =
    of_each Makes n making_codes (
      (λ own. refl, refl, λ size. refl),
      (
        (λ own. refl, refl, λ size. refl),
        (
          (λ own. refl, refl, λ size. refl),
          (
            (λ own. refl, refl, λ size. refl),
            (
              (λ own. refl, refl, λ size. refl),
              (
                (λ own. refl, refl, λ size. refl),
                ((λ own. refl, refl, λ size. refl), tt),
              ),
            ),
          ),
        ),
      ),
    ) h

-- a token of which nothing is taken
abbrev Falls : ℕ → Type 0
Falls n = ((own : List ℕ) → taken false n own ≡ []) × (is_open_behind false n ≡ false)
    × ((size : OffsetSize) → size_behind n size ≡ size)

open_by : (t : Bool) (n : ℕ) → nat_eq n 0x0b7 ≡ false → nat_eq n 0x0c2 ≡ t → is_open_behind false n ≡ false
open_by true n h e = rw (h, e) refl
open_by false n h e = rw (h, e) refl

falls : (n : ℕ) → (IsOneOf n (0x0b7 ∷ saying_codes ++ making_codes) → ⊥) → Falls n
falls n h =
    let no = of_none n (0x0b7 ∷ saying_codes ++ making_codes) h in
    let c = no.0 in
    let a1 = no.1.0 in
    let a2 = no.1.1.0 in
    let a3 = no.1.1.1.0 in
    let a4 = no.1.1.1.1.0 in
    let m = no.1.1.1.1.1 in
    let b1 = m.0 in
    let b2 = m.1.0 in
    let b3 = m.1.1.0 in
    let b4 = m.1.1.1.0 in
    let b5 = m.1.1.1.1.0 in
    let b6 = m.1.1.1.1.1.0 in
    let b7 = m.1.1.1.1.1.1.0 in (
      λ own. rw (c, a1, a2, a3, a4, b1, b2, b3, b4, b5, b6, b7) refl,
      open_by (nat_eq n 0x0c2) n c refl,
      λ size. rw a4 refl,
    )

stays_by : (t : Bool) (n : ℕ) → nat_eq n 0x0b7 ≡ t → nat_eq n 0x0c2 ≡ false → is_open_behind true n ≡ true
stays_by true n e h = rw e refl
stays_by false n e h = rw (e, h) refl

-- within a definition all is kept
kept_in : (ts more words : List Token) (size : OffsetSize) → AllByRecursion StaysIn ts
    → ((s : OffsetSize) → kept false s more ≡ tokens_bytes s words)
    → kept true size (ts ++ semicolon ∷ more) ≡ tokens_bytes size (ts ++ semicolon ∷ words)
kept_in [] more words size a h = ap (λ xs. token_bytes size semicolon ++ xs) (h (size_behind 0x0c2 size))
kept_in (t ∷ ts) more words size a h =
    let stays : is_open_behind true t.code.0 ≡ true = stays_by (nat_eq t.code.0 0x0b7) t.code.0 refl
    (differs t.code.0 0x0c2 a.0) in
    rw stays (ap (λ xs. token_bytes size t ++ xs) (kept_in ts more words (size_behind t.code.0 size) a.1 h))

-- the same where the definition isn't ended
kept_open : (ts : List Token) (size : OffsetSize) → AllByRecursion StaysIn ts → kept true size ts ≡ tokens_bytes size ts
kept_open [] size a = refl
kept_open (t ∷ ts) size a =
    let stays : is_open_behind true t.code.0 ≡ true = stays_by (nat_eq t.code.0 0x0b7) t.code.0 refl
    (differs t.code.0 0x0c2 a.0) in
    rw stays (ap (λ xs. token_bytes size t ++ xs) (kept_open ts (size_behind t.code.0 size) a.1))

kept_opened : (o : Option (List Token)) (size : OffsetSize) → IsOpened o
    → kept false size (opened_tokens o) ≡ tokens_bytes size (opened_tokens o)
kept_opened None size a = refl
kept_opened (Some ts) size a = ap (λ xs. token_bytes size (bare 0x0b7) ++ xs) (kept_open ts (size_behind 0x0b7 size) a)

create_bytes : (size : OffsetSize) → token_bytes size (bare 0x0bb) ≡ 0xbb ∷ []
unfolding token_bytes
create_bytes size = refl

-- of the tokens of an image those are kept that make words
kept_parts : (parts : List Part) (o : Option (List Token)) (size : OffsetSize) → AllByRecursion IsPart parts
    → IsOpened o
    → kept false size (tokens_in parts (opened_tokens o)) ≡ tokens_bytes size (words_in parts (opened_tokens o))
kept_parts [] o size a h = kept_opened o size h
kept_parts (Definition ts ∷ parts) o size a h =
    ap (λ xs. token_bytes size (bare 0x0b7) ++ xs)
    (kept_in ts (tokens_in parts (opened_tokens o)) (words_in parts (opened_tokens o)) (size_behind 0x0b7 size) a.0
    (λ s. kept_parts parts o s a.1 h))
kept_parts (Saying t ∷ parts) o size a h =
    let is = says t.code.0 a.0 in
    rw (is.0 size t refl, is.1, is.2 size)
    (ap (λ xs. token_bytes size (as_external t) ++ xs) (kept_parts parts o (size_behind t.code.0 size) a.1 h))
kept_parts (Making n ∷ parts) o size a h =
    let own = token_bytes size (bare n) in
    let is = makes n a.0 in
    rw (is.0 own, is.1, is.2 size, create_bytes size)
    (ap (λ xs. 0xbb ∷ xs) (kept_parts parts o size a.1 h))
kept_parts (Other t ∷ parts) o size a h =
    let own = token_bytes size t in
    let is = falls t.code.0 a.0 in
    rw (is.0 own, is.1, is.2 size) (kept_parts parts o size a.1 h)

-- ---- where an image stops

end_read : (size : OffsetSize) (n : ℕ) (more : List ℕ) → (n ≡ 0x000) ⊎ (n ≡ 0x0ff)
    → decoded size (n ∷ more) ≡ Some (bare n, more)
unfolding decoded row_numbered rows first_rows second_rows third_rows fourth_rows fifth_rows sixth_rows seventh_rows
end_read size n more (inl e) = rw e refl
end_read size n more (inr e) = rw e refl

end_by : (t u : Bool) (n : ℕ) → nat_eq n 0x000 ≡ t → nat_eq n 0x0ff ≡ u → is_end n ≡ true → (n ≡ 0x000) ⊎ (n ≡ 0x0ff)
end_by true u n e f h = inl (grind (arith, nat_tests, e))
end_by false true n e f h = inr (grind (arith, nat_tests, f))
end_by false false n e f h = let no : false ≡ true = rw (e, f) at h in absurd cc

end_at : (size : OffsetSize) (n : ℕ) (before more : List ℕ) → is_end n ≡ true
    → token_from (before ++ n ∷ more) (length before) size ≡ Some (bare n, length (before ++ n ∷ more) - length more)
unfolding token_from
end_at size n before more h =
    let on : drop (length before) (before ++ n ∷ more) ≡ n ∷ more = drop_at before (n ∷ more) (length before) refl in
    rw (on, end_read size n more (end_by (nat_eq n 0x000) (nat_eq n 0x0ff) n refl refl h)) refl

taken_at_end : (size : OffsetSize) (n m : ℕ) (o : Bool) (before more : List ℕ) → is_end n ≡ true
    → taken_from (before ++ n ∷ more) (suc m) o (length before) size ≡ ended None
taken_at_end size n m o before more h = rw (end_at size n before more h, h) refl

none_at : (size : OffsetSize) (before rest : List ℕ) → decoded size rest ≡ None
    → token_from (before ++ rest) (length before) size ≡ None
unfolding token_from
none_at size before rest h = rw (drop_at before rest (length before) refl, h) refl

taken_at_stop : (size : OffsetSize) (m : ℕ) (o : Bool) (before rest : List ℕ) → decoded size rest ≡ None
    → taken_from (before ++ rest) m o (length before) size ≡ ended (Some (Ended (length before)))
taken_at_stop size zero o before rest h = refl
taken_at_stop size (suc m) o before rest h = rw (none_at size before rest h) refl

-- ---- the whole

some_by : (b : Bool) (size : OffsetSize) (t : Token) → nat_lt t.code.0 256 ≡ b → 0 < length (token_bytes size t)
unfolding token_bytes
some_by true size t e = rw e (omega arith)
some_by false size t e = rw e (omega arith)

some_bytes : (size : OffsetSize) (t : Token) → 0 < length (token_bytes size t)
some_bytes size t = some_by (nat_lt t.code.0 256) size t refl

-- a bound by the number of bytes is one by the number of tokens and something more
bound : (ts : List Token) (size : OffsetSize) (n : ℕ) → length (tokens_bytes size ts) ≤ n
    → (m : ℕ) × (n ≡ more_than ts m) × (n ≤ m + length (tokens_bytes size ts))
bound [] size n h = (n, refl, omega arith)
bound (t ∷ ts) size zero h =
    let some = some_bytes size t in
    absurd (omega (arith, h, some, length-append (token_bytes size t) (tokens_bytes (size_behind t.code.0 size) ts)))
bound (t ∷ ts) size (suc n) h =
    let more = tokens_bytes (size_behind t.code.0 size) ts in
    let some = some_bytes size t in
    let long = length-append (token_bytes size t) more in
    let b = bound ts (size_behind t.code.0 size) n (omega (arith, h, some, long)) in
    let least = b.2 in
    (b.0, ap (λ k. suc k) b.1, omega (arith, least, some, long))

header_same : (header rest : List ℕ) → length header ≡ 8
    → (header_fault (header ++ rest) ≡ header_fault header) × (first_size (header ++ rest) ≡ first_size header)
unfolding header_fault
header_same [] rest h = absurd (omega (arith, h))
header_same (b ∷ header) rest h =
    let own : nat_lt (length (b ∷ header)) 8 ≡ false = grind (arith, nat_tests, h) in
    let long : nat_lt (length (b ∷ (header ++ rest))) 8 ≡ false =
    grind (arith, nat_tests, h, length-append (b ∷ header) rest) in
    (rw (own, long) refl, refl)

taken_whole : TokensReadBack → (i : Image) (rest : List ℕ) (r : Taken) → IsImage i
    → ((m : ℕ) (o : Bool) → length rest ≤ m
    → taken_from (laid i.header (all_tokens i) ++ rest) m o (length (laid i.header (all_tokens i)))
    (size_after (first_size i.header) (all_tokens i)) ≡ r)
    → definitions_of (laid i.header (all_tokens i) ++ rest) ≡ bytes_before (laid i.header (word_tokens i)) r
unfolding definitions_of
taken_whole law i rest r is from =
    let header = i.header in
    let size = first_size header in
    let ts = all_tokens i in
    let bytes = tokens_bytes size ts in
    let image = laid header ts ++ rest in
    let seam : image ≡ header ++ (bytes ++ rest) = append_assoc header bytes rest in
    let same = header_same header (bytes ++ rest) is.whole_header in
    let good : header_fault image ≡ None = ap header_fault seam ∙ same.0 ∙ is.good_header in
    let first : first_size image ≡ size = ap first_size seam ∙ same.1 in
    let head : take 8 image ≡ header = ap (take 8) seam ∙ take_at header (bytes ++ rest) 8 is.whole_header in
    let long : length image ≡ length header + (length bytes + length rest) =
    ap length seam ∙ length-append header (bytes ++ rest) ∙ ap (λ n. length header + n) (length-append bytes rest) in
    let b = bound ts size (length image) (omega (arith, long)) in
    let least = b.2 in
    let enough : length rest ≤ b.0 = omega (arith, least, long) in
    let all = taken_all law ts b.0 false size image header rest is.tokens seam in
    let at : length header ≡ 8 = is.whole_header in
    let behind : taken_from image (length image) false 8 size
    ≡ bytes_before (kept false size ts) r =
    ap (λ n. taken_from image n false 8 size) b.1
    ∙ ap (λ n. taken_from image (more_than ts b.0) false n size) (sym at)
    ∙ all ∙ ap (bytes_before (kept false size ts)) (from b.0 (open_after false ts) enough) in
    let words : kept false size ts ≡ tokens_bytes size (word_tokens i) =
    kept_parts i.parts i.opened size is.parts is.opened in
    rw (good, first, head)
    (ap (bytes_before header) (behind ∙ ap (λ xs. bytes_before xs r) words)
    ∙ joined header (tokens_bytes size (word_tokens i)) r)

-- ---- the law

suc_of : (n : ℕ) → 0 < n → (m : ℕ) × (n ≡ suc m)
suc_of zero h = absurd (omega (arith, h))
suc_of (suc n) h = (n, refl)

none_taken : (image : List ℕ) (f : StreamFault) → header_fault image ≡ Some f → definitions_of image ≡ ([], Some f)
unfolding definitions_of
none_taken image f h = rw h refl

all_short : TokenStandsAlone → (image : List ℕ) → length (definitions_of image).0 ≤ length image + 1
unfolding definitions_of
all_short law image = short_all law image (header_fault image) refl

pub takes : TokensReadBack → TokenStandsAlone → TakesDefinitions
unfolding row_numbered rows first_rows second_rows third_rows fourth_rows fifth_rows sixth_rows seventh_rows
takes law own = record {
  saying = refl;
  making = refl;
  others = refl;
  ends = λ i end more is h. taken_whole law i (end ∷ more) (ended None) is (λ m o long.
      let some = suc_of m (omega (arith, long)) in
      ap (λ n. taken_from (laid i.header (all_tokens i) ++ end ∷ more) n o (length (laid i.header (all_tokens i)))
      (size_after (first_size i.header) (all_tokens i))) some.1
      ∙ taken_at_end (size_after (first_size i.header) (all_tokens i)) end some.0 o (laid i.header (all_tokens i)) more
      h);
  stops = λ i rest is h. taken_whole law i rest (ended (Some (Ended (length (laid i.header (all_tokens i)))))) is
      (λ m o long. taken_at_stop (size_after (first_size i.header) (all_tokens i)) m o (laid i.header (all_tokens i))
      rest h);
  headless = none_taken;
  short = all_short own;
}
