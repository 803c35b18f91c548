-- The strings of a text of bytes are of bytes.
use Rattle.std.proofs.Common.{◌≡◌, ℕ, zero, suc, ◌-◌, ◌<◌, Bool, true, false, List, [], ◌∷◌, ◌++◌, length}
use Rattle.std.proofs.Common.{drop, Option, Some, None, Ok, refl, subst, arith, nat_eq, nat_lt, if◌then◌else◌}
use Rattle.std.specs.Option.{option_map}
use Rattle.std.proofs.lemmas.Bool.Decides.{nat_tests}
use Rattle.std.proofs.lemmas.List.Elements.{All-drop, All-tail, All-take}
use Rattle.of_format.specs.Digits.{below_base, digit_of, digit_value}
use Rattle.of_memory.specs.Access.{read_bytes, read_fault, unless}
use Rattle.of_memory.specs.DataSpace.{DataSpace, IsSound, bytes_from}
use Rattle.of_memory.specs.Regions.{place_of}
use Rattle.of_memory.specs.SoundChanges.{AreBytes}
use Rattle.of_memory.specs.declared.fault.MemFault.{MemFault}
use Rattle.of_memory.specs.declared.width.Width.TheVariants.{One}
use Rattle.of_scan.specs.Parts.{Parted, byte_and, closed_pairs, count_before, group_in, grouped_part, has_byte, paired}
use Rattle.of_scan.specs.Parts.{part_to, with_group}
use Rattle.of_scan.specs.Scan.{byte_of, is_blank}
use Rattle.of_flow.specs.Texts.{latest_text}
use Rattle.of_text.specs.declared.words.Part.{Part}
use Rattle.of_text.specs.Reading.{bytes_in}
use Rattle.of_interpret.specs.TextWords.{quoted_bytes}
use Rattle.of_eval_laws.specs.Sound.{AreTexts}
use Rattle.of_eval_laws.proofs.Bytes.{byte_more, bytes_joined, no_bytes}

-- ---- the bytes that digits say

abbrev IsDigit : Option ℕ → Type 0
IsDigit None = Unit {0}
IsDigit (Some d) = d < 16

abbrev IsSmall : Option ℕ → Type 0
IsSmall None = Unit {0}
IsSmall (Some b) = b < 256

below_is : (o : Option ℕ) → IsDigit (below_base 16 o)
below_is None = tt
below_is (Some d) = pick (nat_lt d 16) refl
  where
    pick : (b : Bool) → nat_lt d 16 ≡ b → IsDigit (if b then Some d else None)
    pick true e = grind (arith, nat_tests, e)
    pick false e = tt

byte_small : (p q : Option ℕ) → IsDigit p → IsDigit q → IsSmall (byte_of p q)
byte_small None q hp hq = tt
byte_small (Some a) None hp hq = tt
byte_small (Some a) (Some b) hp hq = omega (arith, hp, hq)

-- ---- the bytes of groups

abbrev Holds : Option (List ℕ) → Type 0
Holds None = Unit {0}
Holds (Some xs) = AreBytes xs

bytes_if : (b : Bool) (x y : Option (List ℕ)) → Holds x → Holds y → Holds (if b then x else y)
bytes_if true x y hx hy = hx
bytes_if false x y hx hy = hy

and_bytes : (o : Option ℕ) (xs : Option (List ℕ)) → IsSmall o → Holds xs → Holds (byte_and o xs)
and_bytes None xs l h = tt
and_bytes (Some b) None l h = tt
and_bytes (Some b) (Some xs) l h = byte_more b xs l h

paired_bytes : (text : List ℕ) → Holds (paired text)
paired_bytes [] = no_bytes
paired_bytes (a ∷ []) = bytes_if (is_blank a) (Some []) None no_bytes tt
paired_bytes (a ∷ b ∷ text) =
    let byte = byte_of (digit_value 16 a) (digit_value 16 b) in
    bytes_if (is_blank a) (paired (b ∷ text)) (byte_and byte (paired text)) (paired_bytes (b ∷ text))
    (and_bytes byte (paired text)
    (byte_small (digit_value 16 a) (digit_value 16 b) (below_is (digit_of a)) (below_is (digit_of b)))
    (paired_bytes text))

-- bytes, and what follows them
abbrev HoldsGroup : Option Parted → Type 0
HoldsGroup None = Unit {0}
HoldsGroup (Some g) = AreBytes g.0 × AreBytes g.1

group_if : (b : Bool) (x : Option Parted) → HoldsGroup x → HoldsGroup (if b then x else None)
group_if true x h = h
group_if false x h = tt

mapped : (o : Option (List ℕ)) (rest : List ℕ) → Holds o → AreBytes rest
    → HoldsGroup (option_map (λ bytes. (bytes, rest)) o)
mapped None rest h k = tt
mapped (Some xs) rest h k = (h, k)

-- up to a byte, and behind it
part_bytes : (end : ℕ) (text : List ℕ) → AreBytes text
    → AreBytes (part_to end text).0 × AreBytes (part_to end text).1
part_bytes end text h = (
  All-take (λ b. b < 256) (count_before end text) text h,
  All-drop (λ b. b < 256) (suc (count_before end text)) text h,
)

group_bytes : (text : List ℕ) → AreBytes text → HoldsGroup (group_in text)
group_bytes [] h = tt
group_bytes (b ∷ text) h =
    group_if (nat_eq b 40) (closed_pairs text)
    (group_if (has_byte 41 text) _
    (mapped (paired (part_to 41 text).0) (part_to 41 text).1 (paired_bytes (part_to 41 text).0)
    (part_bytes 41 text (All-tail (λ b. b < 256) b text h)).1))

joined : (r : Parted) (g : Option Parted) (next : List ℕ → Parted) → AreBytes r.0 → HoldsGroup g
    → ((text : List ℕ) → AreBytes text → AreBytes (next text).0) → AreBytes (with_group r g next).0
joined r None next h k f = h
joined r (Some g) next h k f =
    bytes_joined (r.0 ++ g.0) (next g.1).0 (bytes_joined r.0 g.0 h k.0) (f g.1 k.1)

grouped_bytes : (n : ℕ) (text : List ℕ) → AreBytes text → AreBytes (grouped_part n text).0
grouped_bytes zero text h = no_bytes
grouped_bytes (suc n) text h =
    let part = part_bytes 34 text h in
    joined (part_to 34 text) (group_in (part_to 34 text).1) (λ t. grouped_part n t) part.0
    (group_bytes (part_to 34 text).1 part.1) (λ t k. grouped_bytes n t k)

-- ---- bytes that are read

read_by : (f : Option MemFault) (xs text : List ℕ) → AreBytes xs → unless f xs ≡ Ok text → AreBytes text
read_by None xs text h e = let same : xs ≡ text = cc in subst (λ y. AreBytes y) same h
read_by (Some fault) xs text h e = absurd cc

-- what is read of a sound data space is bytes
pub read_are : (m : DataSpace) (a n : ℕ) (text : List ℕ) → IsSound m → read_bytes m a n ≡ Ok text → AreBytes text
read_are m a n text sound e =
    read_by (read_fault m a n One) (bytes_from m a n) text
    (All-take (λ b. b < 256) n (drop (place_of a) m.bytes)
    (All-drop (λ b. b < 256) (place_of a) m.bytes sound.small)) e

-- ---- the strings of the latest text

latest_bytes : (texts : List (List ℕ)) → AreTexts texts → AreBytes (latest_text texts)
latest_bytes [] h = no_bytes
latest_bytes (text ∷ texts) h = h.0

pub strings_are : (texts : List (List ℕ)) (p : Part) → AreTexts texts → AreBytes (bytes_in (latest_text texts) p)
strings_are texts p h =
    All-take (λ b. b < 256) (p.end - p.begin) (drop p.begin (latest_text texts))
    (All-drop (λ b. b < 256) p.begin (latest_text texts) (latest_bytes texts h))

pub quotes_are : (texts : List (List ℕ)) (at : ℕ) → AreTexts texts → AreBytes (quoted_bytes (latest_text texts) at)
quotes_are texts at h =
    let text = drop at (latest_text texts) in
    grouped_bytes (length text) text (All-drop (λ b. b < 256) at (latest_text texts) (latest_bytes texts h))
