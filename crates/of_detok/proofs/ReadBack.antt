-- The text of lines that lie one behind another means their bytes.
use Rattle.std.proofs.Common.{Option, None}
use Rattle.std.proofs.Common.{◌≡◌, ℕ, ◌+◌, ◌<◌, List, [], ◌∷◌, ◌++◌, length, take, drop, codes, Some, Ok}
use Rattle.std.proofs.Common.{true, refl, sym, ap, ◌∙◌, arith, append_assoc}
use Rattle.std.proofs.lemmas.List.{length-append, append-nil, take_at, drop_at, take-append-drop}
use Rattle.std.proofs.lemmas.List.Elements.{recursion_from_All}
use Rattle.std.specs.List.{AllByRecursion, flat_map}
use Rattle.of_stream.specs.declared.fault.StreamFault.{StreamFault}
use Rattle.of_stream.specs.declared.fault.StreamFault.TheVariants.{Short, Start0, BadStart, Ended}
use Rattle.of_stream.specs.Decoding.{TokenStandsAlone}
use Rattle.of_detok.specs.Digits.{pairs, place}
use Rattle.of_detok.specs.Listing.{Line, line_text, lines_of}
use Rattle.of_detok.specs.Reading.{listed_bytes}
use Rattle.of_detok.specs.Reading.{text_lines, some_bytes, line_bytes, bytes_behind, read_lines, ListingReadsBack}
use Rattle.of_detok.proofs.Plain.{plain, plain_parts, plain_append, plain_place, plain_pairs}
use Rattle.of_detok.proofs.Digits16.{paired-pairs, length-place, same_text}
use Rattle.of_detok.proofs.Laid.{IsLaid, lines_laid}

abbrev EachByte : List ℕ → Type 0
EachByte = AllByRecursion (λ b. b < 256)

bytes_left : (a b : List ℕ) → EachByte (a ++ b) → EachByte a
bytes_left [] b h = tt
bytes_left (x ∷ a) b h = (h.0, bytes_left a b h.1)

bytes_right : (a b : List ℕ) → EachByte (a ++ b) → EachByte b
bytes_right [] b h = h
bytes_right (x ∷ a) b h = bytes_right a b h.1

-- the first line of a text
first-line : (line more : List ℕ) → plain line ≡ true → text_lines (line ++ 10 ∷ more) ≡ line ∷ text_lines more
unfolding text_lines
first-line [] more h = refl
first-line (b ∷ line) more h =
    let parts = plain_parts b line h in
    rw (parts.0, first-line line more parts.1) refl

-- a line up to its newline
abbrev body : Line → List ℕ
body l = place l.before ++ pairs l.bytes ++ codes "  " ++ l.label

body-parts : (l : Line) → body l ≡ place l.before ++ (pairs l.bytes ++ (codes "  " ++ l.label))
body-parts l = append_assoc (place l.before ++ pairs l.bytes) (codes "  ") l.label
    ∙ append_assoc (place l.before) (pairs l.bytes) (codes "  " ++ l.label)

plain_body : (l : Line) → plain l.label ≡ true → plain (body l) ≡ true
plain_body l h =
    plain_append (place l.before ++ pairs l.bytes ++ codes "  ") l.label
    (plain_append (place l.before ++ pairs l.bytes) (codes "  ")
    (plain_append (place l.before) (pairs l.bytes) (plain_place l.before) (plain_pairs l.bytes)) refl)
    h

line-text : (l : Line) (more : List ℕ) → line_text l ++ more ≡ body l ++ 10 ∷ more
unfolding line_text
line-text l more = append_assoc (body l) (codes "\n") more

some-bytes : (bytes : List ℕ) → 0 < length bytes → some_bytes (Some bytes) ≡ Some bytes
some-bytes [] h = absurd (omega (arith, h))
some-bytes (b ∷ bytes) h = refl

bytes_at : (before : ℕ) (bytes label : List ℕ) → EachByte bytes → 0 < length bytes
    → line_bytes before (place before ++ (pairs bytes ++ (codes "  " ++ label))) ≡ Some bytes
unfolding line_bytes
bytes_at before bytes label all some =
    let tail = pairs bytes ++ (codes "  " ++ label) in
    let head : take 8 (place before ++ tail) ≡ place before = take_at (place before) tail 8 (length-place before) in
    let rest : drop 8 (place before ++ tail) ≡ tail = drop_at (place before) tail 8 (length-place before) in
    rw (head, rest, same_text (place before), paired-pairs bytes label all) (some-bytes bytes some)

bytes_on : (before : ℕ) (l : Line) → l.before ≡ before → EachByte l.bytes → 0 < length l.bytes
    → line_bytes before (body l) ≡ Some l.bytes
bytes_on before l at all some = ap (line_bytes before) (body-parts l)
    ∙ ap (λ n. line_bytes before (place n ++ (pairs l.bytes ++ (codes "  " ++ l.label)))) at
    ∙ bytes_at before l.bytes l.label all some

-- the lines of a text are read one by one
read_laid : (number before : ℕ) (image : List ℕ) (lines : List Line) (bytes : List ℕ) → length image ≡ before
    → EachByte bytes → IsLaid before lines bytes
    → read_lines number image (text_lines (flat_map line_text lines)) ≡ Ok (image ++ bytes)
unfolding text_lines
read_laid number before image [] bytes at all laid =
    ap (λ xs. Ok xs) (sym (append-nil image) ∙ ap (λ xs. image ++ xs) (sym laid))
read_laid number before image (l ∷ lines) bytes at all laid =
    let rest = laid.0 in
    let both : EachByte (l.bytes ++ rest) = rw laid.1 at all in
    let split : text_lines (line_text l ++ flat_map line_text lines) ≡ body l ∷ text_lines (flat_map line_text lines) =
    ap text_lines (line-text l (flat_map line_text lines))
    ∙ first-line (body l) (flat_map line_text lines) (plain_body l laid.4) in
    let own : line_bytes (length image) (body l) ≡ Some l.bytes =
    bytes_on (length image) l (laid.2 ∙ sym at) (bytes_left l.bytes rest both) laid.3 in
    let long : length (image ++ l.bytes) ≡ before + length l.bytes = omega (arith, at, length-append image l.bytes) in
    let later = read_laid (number + 1) (before + length l.bytes) (image ++ l.bytes) lines rest long
    (bytes_right l.bytes rest both) laid.5 in
    ap (read_lines number image) split
    ∙ ap (λ o. bytes_behind number image o
    (λ more. read_lines (number + 1) more (text_lines (flat_map line_text lines)))) own
    ∙ later
    ∙ ap (λ xs. Ok xs) (append_assoc image l.bytes rest ∙ ap (λ xs. image ++ xs) (sym laid.1))

-- the bytes that a listing has are bytes
listed_each : (image : List ℕ) (f : Option StreamFault) → EachByte image → EachByte (listed_bytes image f)
listed_each image None all = all
listed_each image (Some (Ended p)) all = bytes_left (take p image) (drop p image) (rw (take-append-drop p image) all)
listed_each image (Some Short) all = tt
listed_each image (Some Start0) all = tt
listed_each image (Some (BadStart b)) all = tt

-- each listing reads back
pub reads_back : TokenStandsAlone → ListingReadsBack
reads_back law e image all =
    let r = lines_of e image in
    read_laid 1 0 [] r.lines (listed_bytes image r.fault) refl
    (listed_each image r.fault (recursion_from_All (λ b. b < 256) image all)) (lines_laid law e image)
