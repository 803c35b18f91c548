-- An image is read where its bytes have an image's form.
use Rattle.std.proofs.Common.{◌≡◌, ◌<◌, ◌≤◌, ◌+◌, ◌*◌, ℕ, List, [], ◌∷◌, Option, Some, None, Ok, Err, Bool, true}
use Rattle.std.proofs.Common.{false, ◌&&◌, if◌then◌else◌, nat_eq, nat_le, nat_lt, length, take, drop, refl, sym, subst}
use Rattle.std.proofs.Common.{arith, codes, IfSome, ◌∙◌, ap}
use Rattle.std.proofs.lemmas.Bool.Decides.{nat_tests}
use Rattle.std.proofs.lemmas.Slice.Eq.{bytes_eq-Decides}
use Rattle.of_rom.specs.declared.fault.RomFault.{RomFault}
use Rattle.of_rom.specs.declared.fault.RomFault.TheVariants.{NoSignature, NoStructure}
use Rattle.of_rom.specs.declared.code.CodeType.{CodeType}
use Rattle.of_rom.specs.declared.image.RomImage.{RomImage}
use Rattle.of_rom.specs.Images.{begins_before, end_of, fault_in, fcode_at, has_structure}
use Rattle.of_rom.specs.Images.{image_at, is_signed, is_structure, said_image, structure_at, structure_length}
use Rattle.of_rom.specs.Images.{header_length, unless_faulty}
use Rattle.of_rom.specs.Laws.{ImagesAreRead, IsImage}

-- an answer is the image where each test holds
read_by : (s h : Bool) (o : Option RomFault) (said i : RomImage) (a b : RomFault)
    → (if s then if h then unless_faulty o said else Err a else Err b) ≡ Ok i
    → (s ≡ true) × (h ≡ true) × (o ≡ None) × (said ≡ i)
read_by true true None said i a b e = (refl, refl, refl, cc)
read_by true true (Some f) said i a b e = absurd cc
read_by true false o said i a b e = absurd cc
read_by false h o said i a b e = absurd cc

none_wrong : (a b c d : Bool) (w x y z : RomFault)
    → (if a then Some w else if b then Some x else if c then Some y else if d then None else Some z) ≡ None
    → (a ≡ false) × (b ≡ false) × (c ≡ false) × (d ≡ true)
none_wrong true b c d w x y z e = absurd cc
none_wrong false true c d w x y z e = absurd cc
none_wrong false false true d w x y z e = absurd cc
none_wrong false false false true w x y z e = (refl, refl, refl, refl)
none_wrong false false false false w x y z e = absurd cc

both_hold : (a b : Bool) → (a && b) ≡ true → (a ≡ true) × (b ≡ true)
both_hold true b e = (refl, e)
both_hold false b e = absurd cc

begins_inside : (end : ℕ) (fcode : Option ℕ) → begins_before end fcode ≡ true → IfSome fcode (λ f. f < end)
begins_inside end None e = tt
begins_inside end (Some f) e = grind (arith, nat_tests, e)

inside_begins : (end : ℕ) (fcode : Option ℕ) → IfSome fcode (λ f. f < end) → begins_before end fcode ≡ true
inside_begins end None h = refl
inside_begins end (Some f) h = grind (arith, nat_tests, h)

above : (a b : ℕ) → nat_lt a b ≡ false → b ≤ a
above a b e = grind (arith, nat_tests, e)

not_below : (a b : ℕ) → b ≤ a → nat_lt a b ≡ false
not_below a b h = grind (arith, nat_tests, h)

not_0 : (a : ℕ) → nat_eq a 0 ≡ false → 0 < a
not_0 a e = grind (arith, nat_tests, e)

above_0 : (a : ℕ) → 0 < a → nat_eq a 0 ≡ false
above_0 a h = grind (arith, nat_tests, h)

-- the image that is said at a place, where each test holds
stands : (rom : List ℕ) (at : ℕ) → is_signed rom at ≡ true → has_structure rom at ≡ true
    → fault_in rom (said_image rom at) ≡ None → IsImage rom at (said_image rom at)
stands rom at s h f =
    let i : RomImage = said_image rom at in
    let d : ℕ = structure_at rom at in
    let fine = none_wrong (nat_eq i.length 0) (nat_lt (length rom) (end_of i))
    (nat_lt (end_of i) (d + structure_length)) (begins_before (end_of i) i.fcode) _ _ _ _ f in
    let has = both_hold (nat_le (at + header_length) (length rom)) (is_structure rom d) h in
    let is = both_hold (nat_le (d + structure_length) (length rom)) _ has.1 in
    record {
      begins = refl;
      signed = sym ((bytes_eq-Decides (0x55 ∷ 0xaa ∷ []) (take 2 (drop at rom))).0 s);
      structured = sym ((bytes_eq-Decides (codes "PCIR") (take 4 (drop d rom))).0 is.1);
      whole = above (end_of i) (d + structure_length) fine.2;
      sized = refl;
      filled = not_0 i.length fine.0;
      inside = above (length rom) (end_of i) fine.1;
      vendor = refl;
      device = refl;
      class = refl;
      code = refl;
      last = refl;
      fcode = refl;
      program = begins_inside (end_of i) i.fcode fine.3;
    }

-- an image that is read stands there
pub read_stands : (rom : List ℕ) (at : ℕ) (i : RomImage) → image_at rom at ≡ Ok i → IsImage rom at i
unfolding image_at
read_stands rom at i h =
    let by = read_by (is_signed rom at) (has_structure rom at) (fault_in rom (said_image rom at)) (said_image rom at) i
    (NoStructure at) (NoSignature at) h in
    subst (λ (j : RomImage). IsImage rom at j) by.3 (stands rom at by.0 by.1 by.2)

same_image : (i : RomImage) (o l v d c : ℕ) (code : CodeType) (fcode : Option ℕ) (last : Bool) → i.offset ≡ o
    → i.length ≡ l → i.code ≡ code → i.vendor ≡ v → i.device ≡ d → i.class ≡ c → i.fcode ≡ fcode → i.is_last ≡ last
    → i ≡ record {
      offset = o;
      length = l;
      code = code;
      vendor = v;
      device = d;
      class = c;
      fcode = fcode;
      is_last = last;
    }
same_image i o l v d c code fcode last e1 e2 e3 e4 e5 e6 e7 e8 =
    rw (← e1, ← e2, ← e3, ← e4, ← e5, ← e6, ← e7, ← e8) refl

said : (rom : List ℕ) (at : ℕ) (i : RomImage) → IsImage rom at i → i ≡ said_image rom at
said rom at i h =
    same_image i _ _ _ _ _ _ _ _ h.begins h.sized h.code h.vendor h.device h.class
    (h.fcode ∙ ap (fcode_at rom at) h.code) h.last

below : (a b : ℕ) → a ≤ b → nat_le a b ≡ true
below a b h = grind (arith, nat_tests, h)

joined : (a b : Bool) → a ≡ true → b ≡ true → (a && b) ≡ true
joined true b e f = f
joined false b e f = absurd cc

read_signed : (rom : List ℕ) (at : ℕ) → take 2 (drop at rom) ≡ 0x55 ∷ 0xaa ∷ [] → is_signed rom at ≡ true
read_signed rom at e = (bytes_eq-Decides (0x55 ∷ 0xaa ∷ []) (take 2 (drop at rom))).1 (sym e)

read_structure : (rom : List ℕ) (at n : ℕ) → take 4 (drop (structure_at rom at) rom) ≡ codes "PCIR"
    → structure_at rom at + structure_length ≤ at + 512 * n → 0 < 512 * n → at + 512 * n ≤ length rom
    → has_structure rom at ≡ true
read_structure rom at n e w f l =
    let d : ℕ = structure_at rom at in
    joined (nat_le (at + header_length) (length rom)) (is_structure rom d)
    (below (at + header_length) (length rom) (omega arith))
    (joined (nat_le (d + structure_length) (length rom)) _ (below (d + structure_length) (length rom) (omega arith))
    ((bytes_eq-Decides (codes "PCIR") (take 4 (drop d rom))).1 (sym e)))

nothing_wrong : (rom : List ℕ) (i : RomImage) → 0 < i.length → end_of i ≤ length rom
    → structure_at rom i.offset + structure_length ≤ end_of i → IfSome i.fcode (λ fcode. fcode < end_of i)
    → fault_in rom i ≡ None
nothing_wrong rom i f l w p =
    rw (
      above_0 i.length f,
      not_below (length rom) (end_of i) l,
      not_below (end_of i) (structure_at rom i.offset + structure_length) w,
      inside_begins (end_of i) i.fcode p,
    ) refl

-- an image that stands there is read
pub stands_read : (rom : List ℕ) (at : ℕ) (i : RomImage) → IsImage rom at i → image_at rom at ≡ Ok i
unfolding image_at
stands_read rom at i h =
    let e : i ≡ said_image rom at = said rom at i h in
    let own : IsImage rom at (said_image rom at) = subst (λ (j : RomImage). IsImage rom at j) e h in
    rw (
      read_signed rom at own.signed,
      read_structure rom at _ own.structured own.whole own.filled own.inside,
      nothing_wrong rom (said_image rom at) own.filled own.inside own.whole own.program,
    ) (ap Ok (sym e))

pub images_are_read : ImagesAreRead
images_are_read rom at i = (read_stands rom at i, stands_read rom at i)
