-- A token is read back from its bytes, and what is read was read from the bytes of the token.
use Rattle.std.proofs.Common.{◌≡◌, ℕ, ◌+◌, ◌*◌, ◌/◌, ◌%◌, ◌^◌, ◌<◌, ◌≤◌, ℤ, pos, negsuc, List, [], ◌∷◌}
use Rattle.std.proofs.Common.{◌++◌, length}
use Rattle.std.proofs.Common.{take, drop}
use Rattle.std.proofs.Common.{Option, Some, None, Bool, true, false, ◌||◌, ◌&&◌, nat_eq, nat_lt, refl, sym, ap, subst}
use Rattle.std.proofs.Common.{◌∙◌, arith, append_assoc}
use Rattle.std.proofs.lemmas.Bool.Decides.{nat_tests}
use Rattle.std.proofs.lemmas.Int.{to_z-of_z, of_z-to_z}
use Rattle.std.proofs.Math.Seq.{take-append_seam, drop-append_seam}
use Rattle.std.proofs.lemmas.List.{take-append-drop, length-append, length-take-le}
use Rattle.std.proofs.lemmas.List.Elements.{All-head, All-tail, All-same}
use Rattle.std.specs.Option.{option_map}
use Rattle.std.specs.Int.{w8, w16, cast_signed, cast_unsigned}
use Rattle.std.specs.Int.RustNames.{FitsSigned}
use Rattle.of_cells.specs.declared.cells.Cell.{Cell}
use Rattle.of_fcodes.specs.declared.codes.FCode.{FCode}
use Rattle.of_fcodes.specs.declared.operand.Operand.{Operand}
use Rattle.of_fcodes.specs.declared.operand.Operand.TheVariants as operand
use Rattle.of_fcodes.specs.Lookup.{operand_numbered}
use Rattle.of_stream.specs.declared.stream.OffsetSize.{OffsetSize}
use Rattle.of_stream.specs.declared.stream.OffsetSize.TheVariants.{One, Two}
use Rattle.of_stream.specs.Decoding.{Argument, Nothing, Literal, String, Code, Named, Offset, Token, code, second}
use Rattle.of_stream.specs.Decoding.{literal, counted, offset}
use Rattle.of_stream.specs.Decoding.{argument, named, name_and_code, token_of, token_behind, decoded}
use Rattle.of_stream.specs.Bytes.{code_bytes, cell_bytes, counted_bytes, offset_bytes, argument_bytes, token_bytes}
use Rattle.of_stream.specs.Bytes.{is_code, is_offset, fits, operand_for, IsEncodable, AreBytes, TokensReadBack}
use Rattle.of_stream.proofs.Alone.{found, first_of_some, second_of_some, second_alone, with_first}

-- ---- what is written is read

code-append_by : (t : Bool) (c : FCode) (more : List ℕ) → nat_lt c.0 256 ≡ t → is_code c.0 ≡ true
    → code (code_bytes c ++ more) ≡ found c more
code-append_by true c more e h =
    let one : (nat_eq c.0 0 || nat_lt 0x0f c.0) ≡ true = grind (arith, nat_tests) in
    rw (e, one) refl
code-append_by false c more e h =
    let two : (nat_eq (c.0 / 256) 0 || nat_lt 0x0f (c.0 / 256)) ≡ false = grind (arith, nat_tests) in
    let same : c.0 / 256 * 256 + c.0 % 256 ≡ c.0 = omega arith in
    rw (e, two) (ap (λ n. let read : FCode = record { 0 = n } in found read more) same)

code-append : (c : FCode) (more : List ℕ) → is_code c.0 ≡ true → code (code_bytes c ++ more) ≡ found c more
code-append c more h = code-append_by (nat_lt c.0 256) c more refl h

literal-append : (x : Cell) (more : List ℕ) → literal (cell_bytes x ++ more) ≡ found x more
literal-append x more =
    let same : ((x.0 / 2 ^ 24 * 256 + x.0 / 2 ^ 16 % 256) * 256 + x.0 / 2 ^ 8 % 256) * 256 + x.0 % 256 ≡ x.0 =
    omega arith in
    ap (λ n. let read : Cell = record { 0 = n } in found read more) same

counted-append : (s more : List ℕ) → counted (counted_bytes s ++ more) ≡ found s more
counted-append s more =
    let enough : nat_lt (length (s ++ more)) (length s) ≡ false = grind (arith, nat_tests, length-append s more) in
    rw (enough, take-append_seam s more, drop-append_seam s more) refl

fits_one : (by : ℤ) → is_offset One by ≡ true → FitsSigned w8 by
fits_one (pos n) h = let small : n < 128 = grind (arith, nat_tests) in record { sfits = small }
fits_one (negsuc n) h = let small : n < 128 = grind (arith, nat_tests) in record { sfits = small }

fits_two : (by : ℤ) → is_offset Two by ≡ true → FitsSigned w16 by
fits_two (pos n) h = let small : n < 32768 = grind (arith, nat_tests) in record { sfits = small }
fits_two (negsuc n) h = let small : n < 32768 = grind (arith, nat_tests) in record { sfits = small }

joined : (n : ℕ) → n / 256 * 256 + n % 256 ≡ n
joined n = omega arith

offset-append : (size : OffsetSize) (by : ℤ) (more : List ℕ) → is_offset size by ≡ true
    → offset size (offset_bytes size by ++ more) ≡ found by more
offset-append One by more h = ap (λ z. found z more) (to_z-of_z w8 by (fits_one by h))
offset-append Two by more h =
    ap (λ n. found (cast_signed w16 n) more) (joined (cast_unsigned w16 by))
    ∙ ap (λ z. found z more) (to_z-of_z w16 by (fits_two by h))

argument-append : (size : OffsetSize) (a : Argument) (more : List ℕ) → fits size a ≡ true
    → argument (operand_for a) size (argument_bytes size a ++ more) ≡ found a more
argument-append size Nothing more h = refl
argument-append size (Literal x) more h = ap (option_map (with_first Literal)) (literal-append x more)
argument-append size (String s) more h = ap (option_map (with_first String)) (counted-append s more)
argument-append size (Code c) more h = ap (option_map (with_first Code)) (code-append c more h)
argument-append size (Named s c) more h =
    let last : is_code c.0 ≡ true = grind (arith, nat_tests) in
    ap (λ xs. name_and_code (counted xs)) (append_assoc (counted_bytes s) (code_bytes c) more)
    ∙ ap name_and_code (counted-append s (code_bytes c ++ more))
    ∙ ap (named s) (code-append c more last)
argument-append size (Offset by) more h = ap (option_map (with_first Offset)) (offset-append size by more h)

decoded-token_bytes : (size : OffsetSize) (t : Token) (more : List ℕ) → IsEncodable size t
    → decoded size (token_bytes size t ++ more) ≡ Some (t, more)
unfolding decoded token_bytes
decoded-token_bytes size t more h =
    ap (λ xs. token_behind size (code xs)) (append_assoc (code_bytes t.code) (argument_bytes size t.argument) more)
    ∙ ap (token_behind size) (code-append t.code (argument_bytes size t.argument ++ more) h.0)
    ∙ ap (λ o. token_of t.code (argument o size (argument_bytes size t.argument ++ more))) (sym h.1)
    ∙ ap (token_of t.code) (argument-append size t.argument more h.2)

-- ---- what is read was written

all_behind : (xs ys : List ℕ) → AreBytes (xs ++ ys) → AreBytes ys
all_behind [] ys h = h
all_behind (x ∷ xs) ys h = all_behind xs ys (All-tail (λ b. b < 256) x (xs ++ ys) h)

head_is_byte : (b : ℕ) (bytes : List ℕ) → AreBytes (b ∷ bytes) → b < 256
head_is_byte b bytes h = All-head (λ x. x < 256) b bytes h

tail_is_bytes : (b : ℕ) (bytes : List ℕ) → AreBytes (b ∷ bytes) → AreBytes bytes
tail_is_bytes b bytes h = All-tail (λ x. x < 256) b bytes h

-- what f reads are the bytes of what it gives, which passes the test
abbrev IsFrom : {A : Type 0} → (A → List ℕ) → (A → Bool) → List ℕ → List ℕ → A → Type 0
IsFrom own test bytes rest x = (test x ≡ true) × (bytes ≡ own x ++ rest)

abbrev ReadsOwn : {A : Type 0} → (List ℕ → Option (A × List ℕ)) → (A → List ℕ) → (A → Bool) → Type 0
ReadsOwn {A} f own test = (bytes rest : List ℕ) (x : A) → AreBytes bytes → f bytes ≡ found x rest
    → IsFrom own test bytes rest x

abbrev code_test : FCode → Bool
code_test c = is_code c.0

code-two : (b x : ℕ) (bytes rest : List ℕ) (c : FCode) → (nat_eq b 0 || nat_lt 0x0f b) ≡ false → x < 256
    → bytes ≡ x ∷ rest
    → c ≡ record { 0 = b * 256 + x } → IsFrom code_bytes code_test (b ∷ bytes) rest c
code-two b x bytes rest c e last behind same =
    let both : FCode = record { 0 = b * 256 + x } in
    let is : is_code (b * 256 + x) ≡ true = grind (arith, nat_tests) in
    let big : nat_lt (b * 256 + x) 256 ≡ false = grind (arith, nat_tests) in
    let high : (b * 256 + x) / 256 ≡ b = omega arith in
    let low : (b * 256 + x) % 256 ≡ x = omega arith in
    let own : code_bytes both ≡ b ∷ x ∷ [] = rw (big, high, low) refl in (
      ap (λ (y : FCode). is_code y.0) same ∙ is,
      ap (λ xs. b ∷ xs) behind ∙ ap (λ xs. xs ++ rest) (sym own) ∙ ap (λ y. code_bytes y ++ rest) (sym same),
    )

code-read_by : (t : Bool) (b : ℕ) (bytes rest : List ℕ) (c : FCode) → (nat_eq b 0 || nat_lt 0x0f b) ≡ t
    → AreBytes (b ∷ bytes)
    → code (b ∷ bytes) ≡ found c rest → IsFrom code_bytes code_test (b ∷ bytes) rest c
code-read_by true b bytes rest c e h f =
    let byte : FCode = record { 0 = b } in
    let read : found byte bytes ≡ found c rest = rw e at f in
    let same : byte ≡ c = first_of_some byte c bytes rest read in
    let behind : bytes ≡ rest = second_of_some byte c bytes rest read in
    let small : b < 256 = head_is_byte b bytes h in
    let is : is_code b ≡ true = grind (arith, nat_tests) in
    let one : nat_lt b 256 ≡ true = grind (arith, nat_tests) in
    let own : code_bytes byte ≡ b ∷ [] = rw one refl in (
      ap (λ (x : FCode). is_code x.0) (sym same) ∙ is,
      ap (λ xs. b ∷ xs) behind ∙ ap (λ xs. xs ++ rest) (sym own) ∙ ap (λ x. code_bytes x ++ rest) same,
    )
code-read_by false b bytes rest c e h f =
    let read : second b bytes ≡ found c rest = rw e at f in
    let next = second_alone b bytes rest c read in
    let x : ℕ = next.0 in
    let both : FCode = record { 0 = b * 256 + x } in
    let small : b < 256 = head_is_byte b bytes h in
    let last : x < 256 = head_is_byte x rest
    (All-same (λ y. y < 256) (x ∷ rest) bytes (sym next.1) (tail_is_bytes b bytes h)) in
    code-two b x bytes rest c e last next.1 next.2

code-read : ReadsOwn code code_bytes code_test
code-read [] rest c h f = absurd cc
code-read (b ∷ bytes) rest c h f = code-read_by (nat_eq b 0 || nat_lt 0x0f b) b bytes rest c refl h f

abbrev any : {A : Type 0} → A → Bool
any x = true

literal-bytes : (a b c d : ℕ) → b < 256 → c < 256 → d < 256
    → cell_bytes (record { 0 = ((a * 256 + b) * 256 + c) * 256 + d }) ≡ a ∷ b ∷ c ∷ d ∷ []
literal-bytes a b c d hb hc hd =
    let first : (((a * 256 + b) * 256 + c) * 256 + d) / 2 ^ 24 ≡ a = omega arith in
    let second_byte : (((a * 256 + b) * 256 + c) * 256 + d) / 2 ^ 16 % 256 ≡ b = omega arith in
    let third : (((a * 256 + b) * 256 + c) * 256 + d) / 2 ^ 8 % 256 ≡ c = omega arith in
    let last : (((a * 256 + b) * 256 + c) * 256 + d) % 256 ≡ d = omega arith in
    rw (first, second_byte, third, last) refl

literal-read : ReadsOwn literal cell_bytes any
literal-read [] rest x h f = absurd cc
literal-read (a ∷ []) rest x h f = absurd cc
literal-read (a ∷ b ∷ []) rest x h f = absurd cc
literal-read (a ∷ b ∷ c ∷ []) rest x h f = absurd cc
literal-read (a ∷ b ∷ c ∷ d ∷ bytes) rest x h f =
    let read : Cell = record { 0 = ((a * 256 + b) * 256 + c) * 256 + d } in
    let hb = tail_is_bytes a (b ∷ c ∷ d ∷ bytes) h in
    let hc = tail_is_bytes b (c ∷ d ∷ bytes) hb in
    let hd = tail_is_bytes c (d ∷ bytes) hc in
    let own = literal-bytes a b c d (head_is_byte b (c ∷ d ∷ bytes) hb) (head_is_byte c (d ∷ bytes) hc)
    (head_is_byte d bytes hd) in (
      refl,
      ap (λ xs. a ∷ b ∷ c ∷ d ∷ xs) (second_of_some read x bytes rest f)
          ∙ ap (λ xs. xs ++ rest) (sym own)
          ∙ ap (λ y. cell_bytes y ++ rest) (first_of_some read x bytes rest f),
    )

abbrev is_short : List ℕ → Bool
is_short s = nat_lt (length s) 256

counted-read_by : (t : Bool) (n : ℕ) (bytes rest s : List ℕ) → nat_lt (length bytes) n ≡ t → AreBytes (n ∷ bytes)
    → counted (n ∷ bytes) ≡ found s rest → IsFrom counted_bytes is_short (n ∷ bytes) rest s
counted-read_by true n bytes rest s e h f =
    let read : None ≡ found s rest = rw e at f in
    absurd cc
counted-read_by false n bytes rest s e h f =
    let enough : n ≤ length bytes = grind (arith, nat_tests, e) in
    let read : found (take n bytes) (drop n bytes) ≡ found s rest = rw e at f in
    let text : take n bytes ≡ s = first_of_some (take n bytes) s (drop n bytes) rest read in
    let behind : drop n bytes ≡ rest = second_of_some (take n bytes) s (drop n bytes) rest read in
    let size : length s ≡ n = ap length (sym text) ∙ length-take-le n bytes enough in
    let small : n < 256 = head_is_byte n bytes h in
    let short : nat_lt (length s) 256 ≡ true = grind (arith, nat_tests, size) in (
      short,
      ap (λ xs. n ∷ xs) (sym (take-append-drop n bytes) ∙ ap (λ xs. xs ++ drop n bytes) text
          ∙ ap (λ xs. s ++ xs) behind)
          ∙ ap (λ k. k ∷ (s ++ rest)) (sym size),
    )

counted-read : ReadsOwn counted counted_bytes is_short
counted-read [] rest s h f = absurd cc
counted-read (n ∷ bytes) rest s h f = counted-read_by (nat_lt (length bytes) n) n bytes rest s refl h f

is_offset_one : (a : ℕ) → a < 256 → is_offset One (cast_signed w8 a) ≡ true
is_offset_one a h = grind (arith, nat_tests)

is_offset_two : (n : ℕ) → n < 65536 → is_offset Two (cast_signed w16 n) ≡ true
is_offset_two n h = grind (arith, nat_tests)

offset-read : (size : OffsetSize) → ReadsOwn (offset size) (offset_bytes size) (is_offset size)
offset-read One [] rest by h f = absurd cc
offset-read One (a ∷ bytes) rest by h f =
    let small : a < 256 = head_is_byte a bytes h in
    let same : cast_signed w8 a ≡ by = first_of_some _ by bytes rest f in (
      ap (is_offset One) (sym same) ∙ is_offset_one a small,
      ap (λ xs. a ∷ xs) (second_of_some _ by bytes rest f)
          ∙ ap (λ n. n ∷ rest) (sym (of_z-to_z w8 a small))
          ∙ ap (λ z. cast_unsigned w8 z ∷ rest) same,
    )
offset-read Two [] rest by h f = absurd cc
offset-read Two (a ∷ []) rest by h f = absurd cc
offset-read Two (a ∷ b ∷ bytes) rest by h f =
    let high : a < 256 = head_is_byte a (b ∷ bytes) h in
    let low : b < 256 = head_is_byte b bytes (tail_is_bytes a (b ∷ bytes) h) in
    let same : cast_signed w16 (a * 256 + b) ≡ by = first_of_some _ by bytes rest f in
    let small : a * 256 + b < 65536 = omega arith in
    let first : (a * 256 + b) / 256 ≡ a = omega arith in
    let last : (a * 256 + b) % 256 ≡ b = omega arith in (
      ap (is_offset Two) (sym same) ∙ is_offset_two (a * 256 + b) small,
      ap (λ xs. a ∷ b ∷ xs) (second_of_some _ by bytes rest f)
          ∙ ap (λ n. n ∷ b ∷ rest) (sym first)
          ∙ ap (λ n. (a * 256 + b) / 256 ∷ n ∷ rest) (sym last)
          ∙ ap (λ n. n / 256 ∷ n % 256 ∷ rest) (sym (of_z-to_z w16 (a * 256 + b) small))
          ∙ ap (λ z. cast_unsigned w16 z / 256 ∷ cast_unsigned w16 z % 256 ∷ rest) same,
    )

-- what an argument was read from
record WasArgument (o : Operand) (size : OffsetSize) (bytes rest : List ℕ) (a : Argument) : Type 0 where
  pub kind : operand_for a ≡ o
  pub passes : fits size a ≡ true
  pub encoded : bytes ≡ argument_bytes size a ++ rest

-- an argument that is made of what was read
record IsMadeOf {A : Type 0} (o : Operand) (size : OffsetSize) (own : A → List ℕ) (test : A → Bool)
    (make : A → Argument) : Type 0 where
  pub kind : (x : A) → operand_for (make x) ≡ o
  pub passes : (x : A) → fits size (make x) ≡ test x
  pub encoded : (x : A) → argument_bytes size (make x) ≡ own x

made-read : {A : Type 0} (o : Operand) (size : OffsetSize) (own : A → List ℕ) (test : A → Bool) (make : A → Argument)
    (bytes rest : List ℕ) (x : A) (a : Argument) → IsMadeOf o size own test make → IsFrom own test bytes rest x
    → make x ≡ a
    → WasArgument o size bytes rest a
made-read o size own test make bytes rest x a m from e = record {
  kind = ap operand_for (sym e) ∙ m.kind x;
  passes = ap (fits size) (sym e) ∙ m.passes x ∙ from.0;
  encoded = from.1 ∙ ap (λ xs. xs ++ rest) (sym (m.encoded x)) ∙ ap (λ y. argument_bytes size y ++ rest) e;
}

map-read_by : {A : Type 0} (f : List ℕ → Option (A × List ℕ)) (o : Operand) (size : OffsetSize) (own : A → List ℕ)
    (test : A → Bool) (make : A → Argument)
    → IsMadeOf o size own test make → ReadsOwn f own test
    → (r : Option (A × List ℕ)) (bytes rest : List ℕ) (a : Argument) → AreBytes bytes → f bytes ≡ r
    → option_map (with_first make) r ≡ found a rest → WasArgument o size bytes rest a
map-read_by f o size own test make m reads None bytes rest a h e g = absurd cc
map-read_by f o size own test make m reads (Some r) bytes rest a h e g =
    let behind : r.1 ≡ rest = second_of_some (make r.0) a r.1 rest g in
    let from = reads bytes r.1 r.0 h e in
    made-read o size own test make bytes rest r.0 a m (from.0, from.1 ∙ ap (λ xs. own r.0 ++ xs) behind)
    (first_of_some (make r.0) a r.1 rest g)

named-read_by : (size : OffsetSize) (name bytes behind : List ℕ) (o : Option (FCode × List ℕ)) (rest : List ℕ)
    (a : Argument)
    → IsFrom counted_bytes is_short bytes behind name → AreBytes behind → code behind ≡ o → named name o ≡ found a rest
    → WasArgument operand.Named size bytes rest a
named-read_by size name bytes behind None rest a from h e g = absurd cc
named-read_by size name bytes behind (Some c) rest a from h e g =
    let last = code-read behind c.1 c.0 h e in
    let same : Named name c.0 ≡ a = first_of_some (Named name c.0) a c.1 rest g in
    let both : (is_short name && is_code c.0.0) ≡ true = rw (from.0, last.0) refl in record {
      kind = ap operand_for (sym same);
      passes = ap (fits size) (sym same) ∙ both;
      encoded =
          from.1 ∙ ap (λ xs. counted_bytes name ++ xs) last.1
          ∙ sym (append_assoc (counted_bytes name) (code_bytes c.0) c.1)
          ∙ ap (λ xs. (counted_bytes name ++ code_bytes c.0) ++ xs) (second_of_some (Named name c.0) a c.1 rest g)
          ∙ ap (λ y. argument_bytes size y ++ rest) same;
    }

name_and_code-read_by : (size : OffsetSize) (o : Option (List ℕ × List ℕ)) (bytes rest : List ℕ) (a : Argument)
    → AreBytes bytes
    → counted bytes ≡ o → name_and_code o ≡ found a rest → WasArgument operand.Named size bytes rest a
name_and_code-read_by size None bytes rest a h e g = absurd cc
name_and_code-read_by size (Some n) bytes rest a h e g =
    let from = counted-read bytes n.1 n.0 h e in
    let behind = all_behind (counted_bytes n.0) n.1
    (All-same (λ b. b < 256) (counted_bytes n.0 ++ n.1) bytes (sym from.1) h) in
    named-read_by size n.0 bytes n.1 (code n.1) rest a from behind refl g

argument-read : (o : Operand) (size : OffsetSize) (bytes rest : List ℕ) (a : Argument) → AreBytes bytes
    → argument o size bytes ≡ found a rest → WasArgument o size bytes rest a
argument-read operand.Nothing size bytes rest a h g =
    let same : Nothing ≡ a = first_of_some Nothing a bytes rest g in record {
      kind = ap operand_for (sym same);
      passes = ap (fits size) (sym same);
      encoded = second_of_some Nothing a bytes rest g ∙ ap (λ y. argument_bytes size y ++ rest) same;
    }
argument-read operand.Literal size bytes rest a h g =
    map-read_by literal operand.Literal size cell_bytes any Literal
    (record { kind = λ x. refl; passes = λ x. refl; encoded = λ x. refl }) literal-read
    (literal bytes) bytes rest a h refl g
argument-read operand.String size bytes rest a h g =
    map-read_by counted operand.String size counted_bytes is_short String
    (record { kind = λ x. refl; passes = λ x. refl; encoded = λ x. refl }) counted-read
    (counted bytes) bytes rest a h refl g
argument-read operand.FCode size bytes rest a h g =
    map-read_by code operand.FCode size code_bytes code_test Code
    (record { kind = λ x. refl; passes = λ x. refl; encoded = λ x. refl }) code-read
    (code bytes) bytes rest a h refl g
argument-read operand.Named size bytes rest a h g = name_and_code-read_by size (counted bytes) bytes rest a h refl g
argument-read operand.Offset size bytes rest a h g =
    map-read_by (offset size) operand.Offset size (offset_bytes size) (is_offset size) Offset
    (record { kind = λ x. refl; passes = λ x. refl; encoded = λ x. refl }) (offset-read size)
    (offset size bytes) bytes rest a h refl g

-- what a token was read from
abbrev WasToken : OffsetSize → List ℕ → List ℕ → Token → Type 0
WasToken size bytes rest t = IsEncodable size t × (bytes ≡ token_bytes size t ++ rest)

token_of-read : (size : OffsetSize) (bytes behind : List ℕ) (c : FCode) (r : Option (Argument × List ℕ))
    (rest : List ℕ) (t : Token)
    → IsFrom code_bytes code_test bytes behind c → AreBytes behind → argument (operand_numbered c.0) size behind ≡ r
    → token_of c r ≡ found t rest → WasToken size bytes rest t
unfolding token_bytes
token_of-read size bytes behind c None rest t from h e g = absurd cc
token_of-read size bytes behind c (Some a) rest t from h e g =
    let was = argument-read (operand_numbered c.0) size behind a.1 a.0 h e in
    let read : Token = record { code = c; argument = a.0 } in
    let same : read ≡ t = first_of_some read t a.1 rest g in
    let last : a.1 ≡ rest = second_of_some read t a.1 rest g in
    let own : bytes ≡ token_bytes size read ++ rest =
    from.1 ∙ ap (λ xs. code_bytes c ++ xs) was.encoded
    ∙ sym (append_assoc (code_bytes c) (argument_bytes size a.0) a.1)
    ∙ ap (λ xs. (code_bytes c ++ argument_bytes size a.0) ++ xs) last in
    let whole : WasToken size bytes rest read = ((from.0, was.kind, was.passes), own) in
    let P : Token → Type 0 = λ x. WasToken size bytes rest x in
    subst P same whole

token_behind-read : (size : OffsetSize) (o : Option (FCode × List ℕ)) (bytes rest : List ℕ) (t : Token) → AreBytes bytes
    → code bytes ≡ o → token_behind size o ≡ found t rest → WasToken size bytes rest t
token_behind-read size None bytes rest t h e g = absurd cc
token_behind-read size (Some c) bytes rest t h e g =
    let from = code-read bytes c.1 c.0 h e in
    let behind = all_behind (code_bytes c.0) c.1
    (All-same (λ b. b < 256) (code_bytes c.0 ++ c.1) bytes (sym from.1) h) in
    token_of-read size bytes c.1 c.0 (argument (operand_numbered c.0.0) size c.1) rest t from behind refl g

decoded-read : (size : OffsetSize) (bytes rest : List ℕ) (t : Token) → AreBytes bytes
    → decoded size bytes ≡ Some (t, rest)
    → WasToken size bytes rest t
unfolding decoded
decoded-read size bytes rest t h g = token_behind-read size (code bytes) bytes rest t h refl g

pub tokens_read_back : TokensReadBack
tokens_read_back = record { written = decoded-token_bytes; read = decoded-read }
