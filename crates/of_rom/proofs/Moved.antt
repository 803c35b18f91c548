-- An image is read from its own bytes: whatever stands before them and behind them.
use Rattle.std.proofs.Common.{◌≡◌, ◌<◌, ◌≤◌, ◌+◌, ◌*◌, ℕ, List, ◌++◌, Option, Some, None, nat_le, length, take}
use Rattle.std.proofs.Common.{drop, slice_index, refl, sym, ap, ◌∙◌, arith, IfSome, add_assoc}
use Rattle.std.proofs.lemmas.List.{drop-append-le, get_or-append-add, get_or_append_left, length-append, length-drop}
use Rattle.std.proofs.lemmas.List.{take-append-le}
use Rattle.std.proofs.Math.Seq.{drop-append-add}
use Rattle.std.specs.Option.{option_map}
use Rattle.byteorder.specs.Endian.{little_number}
use Rattle.byteorder.specs.Numbers.{little_from-append}
use Rattle.of_rom.specs.declared.code.CodeType.{CodeType}
use Rattle.of_rom.specs.declared.code.CodeType.TheVariants.{X86, OpenFirmware, PaRisc, Efi, Other}
use Rattle.of_rom.specs.declared.image.RomImage.{RomImage}
use Rattle.of_rom.specs.Images.{class_at, code_type, end_of, fcode_at, half_at, structure_at, structure_length}
use Rattle.of_rom.specs.Laws.{IsImage}
use Rattle.of_rom.specs.Rows.{moved}

-- ---- bytes before an image

half_behind : (before xs : List ℕ) (k : ℕ) → half_at (before ++ xs) (length before + k) ≡ half_at xs k
half_behind before xs k = ap (little_number 2) (drop-append-add before xs k)

class_behind : (before xs : List ℕ) (k : ℕ) → class_at (before ++ xs) (length before + k) ≡ class_at xs k
class_behind before xs k = ap (little_number 3) (drop-append-add before xs k)

byte_behind : (before xs : List ℕ) (k : ℕ) → slice_index (before ++ xs) (length before + k) ≡ slice_index xs k
byte_behind before xs k = get_or-append-add before xs k 0

half_from : (before xs : List ℕ) (at k : ℕ)
    → half_at (before ++ xs) (length before + at + k) ≡ half_at xs (at + k)
half_from before xs at k =
    ap (half_at (before ++ xs)) (add_assoc (length before) at k) ∙ half_behind before xs (at + k)

structure_behind : (before xs : List ℕ) (at : ℕ)
    → structure_at (before ++ xs) (length before + at) ≡ length before + structure_at xs at
structure_behind before xs at =
    ap (λ (n : ℕ). length before + at + n) (half_from before xs at 0x18)
    ∙ add_assoc (length before) at (half_at xs (at + 0x18))

-- a place in the data structure
place_behind : (before xs : List ℕ) (at k : ℕ)
    → structure_at (before ++ xs) (length before + at) + k ≡ length before + (structure_at xs at + k)
place_behind before xs at k =
    ap (λ (n : ℕ). n + k) (structure_behind before xs at) ∙ add_assoc (length before) (structure_at xs at) k

said_half : (before xs : List ℕ) (at k : ℕ)
    → half_at xs (structure_at xs at + k)
    ≡ half_at (before ++ xs) (structure_at (before ++ xs) (length before + at) + k)
said_half before xs at k =
    sym (ap (half_at (before ++ xs)) (place_behind before xs at k) ∙ half_behind before xs (structure_at xs at + k))

said_class : (before xs : List ℕ) (at k : ℕ)
    → class_at xs (structure_at xs at + k)
    ≡ class_at (before ++ xs) (structure_at (before ++ xs) (length before + at) + k)
said_class before xs at k =
    sym (ap (class_at (before ++ xs)) (place_behind before xs at k) ∙ class_behind before xs (structure_at xs at + k))

said_byte : (before xs : List ℕ) (at k : ℕ)
    → slice_index xs (structure_at xs at + k)
    ≡ slice_index (before ++ xs) (structure_at (before ++ xs) (length before + at) + k)
said_byte before xs at k =
    sym (ap (slice_index (before ++ xs)) (place_behind before xs at k)
    ∙ byte_behind before xs (structure_at xs at + k))

fcode_behind : (before xs : List ℕ) (at : ℕ) (c : CodeType)
    → option_map (λ fcode. length before + fcode) (fcode_at xs at c) ≡ fcode_at (before ++ xs) (length before + at) c
fcode_behind before xs at X86 = refl
fcode_behind before xs at OpenFirmware =
    ap (λ (n : ℕ). Some n) (sym (add_assoc (length before) at (half_at xs (at + 2)))
    ∙ ap (λ (n : ℕ). length before + at + n) (sym (half_from before xs at 2)))
fcode_behind before xs at PaRisc = refl
fcode_behind before xs at Efi = refl
fcode_behind before xs at (Other n) = refl

program_behind : (by offset size : ℕ) (fcode : Option ℕ) → IfSome fcode (λ f. f < offset + size)
    → IfSome (option_map (λ f. by + f) fcode) (λ f. f < by + offset + size)
program_behind by offset size None h = tt
program_behind by offset size (Some f) h = omega arith

pub image_behind : (before xs : List ℕ) (at : ℕ) (i : RomImage) → IsImage xs at i
    → IsImage (before ++ xs) (length before + at) (moved (length before) i)
image_behind before xs at i h =
    let rom : List ℕ = before ++ xs in
    let d : ℕ = structure_at xs at in
    let e = structure_behind before xs at in
    record {
      begins = ap (λ (n : ℕ). length before + n) h.begins;
      signed = ap (take 2) (drop-append-add before xs at) ∙ h.signed;
      structured =
          ap (λ (n : ℕ). take 4 (drop n rom)) e ∙ ap (take 4) (drop-append-add before xs d) ∙ h.structured;
      whole =
          let w : d + structure_length ≤ end_of i = h.whole in
          rw e (omega (arith, w));
      sized = h.sized ∙ ap (λ (n : ℕ). 512 * n) (said_half before xs at 0x10);
      filled = h.filled;
      inside =
          let l : end_of i ≤ length xs = h.inside in
          rw (length-append before xs) (omega (arith, l));
      vendor = h.vendor ∙ said_half before xs at 0x04;
      device = h.device ∙ said_half before xs at 0x06;
      class = h.class ∙ said_class before xs at 0x0d;
      code = h.code ∙ ap code_type (said_byte before xs at 0x14);
      last = h.last ∙ ap (nat_le 0x80) (said_byte before xs at 0x15);
      fcode =
          ap (option_map (λ (f : ℕ). length before + f)) h.fcode ∙ fcode_behind before xs at i.code;
      program = program_behind (length before) i.offset i.length i.fcode h.program;
    }

-- ---- bytes behind an image

half_before : (xs behind : List ℕ) (k : ℕ) → k + 2 ≤ length xs → half_at xs k ≡ half_at (xs ++ behind) k
half_before xs behind k h =
    sym (ap (little_number 2) (drop-append-le k xs behind (omega (arith, h)))
    ∙ little_from-append 2 (drop k xs) behind (rw (length-drop k xs) (omega (arith, h))))

class_before : (xs behind : List ℕ) (k : ℕ) → k + 3 ≤ length xs → class_at xs k ≡ class_at (xs ++ behind) k
class_before xs behind k h =
    sym (ap (little_number 3) (drop-append-le k xs behind (omega (arith, h)))
    ∙ little_from-append 3 (drop k xs) behind (rw (length-drop k xs) (omega (arith, h))))

byte_before : (xs behind : List ℕ) (k : ℕ) → k < length xs → slice_index xs k ≡ slice_index (xs ++ behind) k
byte_before xs behind k h = sym (get_or_append_left xs behind 0 k h)

begins_before : (xs behind : List ℕ) (n k : ℕ) → k + n ≤ length xs
    → take n (drop k (xs ++ behind)) ≡ take n (drop k xs)
begins_before xs behind n k h =
    ap (take n) (drop-append-le k xs behind (omega (arith, h)))
    ∙ take-append-le n (drop k xs) behind (rw (length-drop k xs) (omega (arith, h)))

fcode_before : (xs behind : List ℕ) (at : ℕ) (c : CodeType) → at + 4 ≤ length xs
    → fcode_at xs at c ≡ fcode_at (xs ++ behind) at c
fcode_before xs behind at X86 h = refl
fcode_before xs behind at OpenFirmware h =
    ap (λ (n : ℕ). Some (at + n)) (half_before xs behind (at + 2) (omega (arith, h)))
fcode_before xs behind at PaRisc h = refl
fcode_before xs behind at Efi h = refl
fcode_before xs behind at (Other n) h = refl

-- an image has 512 bytes at least
at_least : (offset at size n m : ℕ) → offset ≡ at → size ≡ 512 * n → 0 < size → offset + size ≤ m → at + 512 ≤ m
at_least offset at size n m e s f l = omega arith

pub image_before : (xs behind : List ℕ) (at : ℕ) (i : RomImage) → IsImage xs at i → IsImage (xs ++ behind) at i
image_before xs behind at i h =
    let d : ℕ = structure_at xs at in
    let room : at + 512 ≤ length xs = at_least i.offset at i.length _ (length xs) h.begins h.sized h.filled h.inside in
    let whole : d + structure_length ≤ end_of i = h.whole in
    let inside : end_of i ≤ length xs = h.inside in
    let own : d + 0x18 ≤ length xs = omega (arith, whole, inside) in
    let e : d ≡ structure_at (xs ++ behind) at =
    ap (λ (n : ℕ). at + n) (half_before xs behind (at + 0x18) (omega (arith, room))) in
    record {
      begins = h.begins;
      signed = begins_before xs behind 2 at (omega (arith, room)) ∙ h.signed;
      structured =
          ap (λ (n : ℕ). take 4 (drop n (xs ++ behind))) (sym e)
          ∙ begins_before xs behind 4 d (omega (arith, own)) ∙ h.structured;
      whole = rw (sym e) h.whole;
      sized =
          h.sized ∙ ap (λ (n : ℕ). 512 * n) (half_before xs behind (d + 0x10) (omega (arith, own))
          ∙ ap (λ (n : ℕ). half_at (xs ++ behind) (n + 0x10)) e);
      filled = h.filled;
      inside = rw (length-append xs behind) (omega (arith, inside));
      vendor =
          h.vendor ∙ half_before xs behind (d + 0x04) (omega (arith, own))
          ∙ ap (λ (n : ℕ). half_at (xs ++ behind) (n + 0x04)) e;
      device =
          h.device ∙ half_before xs behind (d + 0x06) (omega (arith, own))
          ∙ ap (λ (n : ℕ). half_at (xs ++ behind) (n + 0x06)) e;
      class =
          h.class ∙ class_before xs behind (d + 0x0d) (omega (arith, own))
          ∙ ap (λ (n : ℕ). class_at (xs ++ behind) (n + 0x0d)) e;
      code =
          h.code ∙ ap code_type (byte_before xs behind (d + 0x14) (omega (arith, own))
          ∙ ap (λ (n : ℕ). slice_index (xs ++ behind) (n + 0x14)) e);
      last =
          h.last ∙ ap (nat_le 0x80) (byte_before xs behind (d + 0x15) (omega (arith, own))
          ∙ ap (λ (n : ℕ). slice_index (xs ++ behind) (n + 0x15)) e);
      fcode = h.fcode ∙ fcode_before xs behind at i.code (omega (arith, room));
      program = h.program;
    }
